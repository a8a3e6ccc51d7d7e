-- That the hidden block stays hidden: no register but the one that is kept for it, no field, no key, no data and no finaliser ever names it.
use Rattle.std.proofs.Common.{◌≡◌, ◌≢◌, ⊎_elim, ℕ, zero, suc, ◌+◌, Bool, true, false, not, ◌&&◌, nat_lt, is_some, IsTrue, List, [], ◌∷◌, ◌++◌, map, remove, get_or, set, slice_get, replicate, take, drop, pos, Option, Some, None, refl, sym, ◌∙◌, subst, get_or-set_other}
use Rattle.std.specs.List.{list_all, cons_option}
use Rattle.model_core.specs.declared.label.Label.{Label}
use Rattle.model_core.specs.declared.command.Command.{Command}
use Rattle.model_core.specs.declared.command.Command.TheVariants.{PutInt, Copy, Forget, Alloc, AllocMaj, Load, Store, Raw as NewRaw, Cas, Ephe as NewEphe, SetKey, UnsetKey, GetKey, CheckKey, SetData, UnsetData, GetData, CheckData, Finalise, FinaliseLast, Poll, Minor, Major, FullMajor, Spawn, Argument, PutResult, Join}
use Rattle.model_core.specs.declared.graph.Value.{Value}
use Rattle.model_core.specs.declared.graph.Value.TheVariants.{Int, Block, Nothing}
use Rattle.model_core.specs.declared.graph.Node.{Node}
use Rattle.model_core.specs.declared.graph.Node.TheVariants.{Plain, Raw, Ephe}
use Rattle.model_core.specs.declared.state.Pending.{Pending}
use Rattle.model_core.specs.declared.state.Pending.TheVariants.{Fin, Last}
use Rattle.model_core.specs.declared.state.Finaliser.{Finaliser}
use Rattle.model_core.specs.declared.state.LastFinaliser.{LastFinaliser}
use Rattle.model_core.specs.declared.state.DomainState.{DomainState}
use Rattle.model_core.specs.declared.state.State.{State}
use Rattle.model_core.specs.Graph.{same_label, label_of, node_at}
use Rattle.model_core.specs.Domains.{domain_at, with_domain, with_register, with_block, register, label_in, no_domain}
use Rattle.model_core.specs.Commands.{Outcome, in_bounds, at_ephe, loaded, at_field, written_over, same_value, written_where, exchanged, key_set, key_value, key_stored, datum_set, datum_stored, with_final, with_last, finalised, finalised_last, tells, is_full_value, allocated, block_in, outcome}
use Rattle.model_core.specs.Entries.{wiped_keys, without_places, at_places}
use Rattle.model_core.proofs.Graphs.GraphLemmas.{and_parts, node_at-with_node_cases, node_at-append_cases}
use Rattle.model_core.proofs.Graphs.ListLemmas.{all_set, all_replicate, all_at, set_cases}
use Rattle.model_core.proofs.Reach.ReachLemmas.{and_both}
use Rattle.model_core.proofs.Commands.MoveLemmas.{held_block}
use Rattle.model_core.proofs.Commands.FrameLemmas.{part_set}
use Rattle.model_traces.specs.Spawns.Hidden.{hidden, scratch, is_plain}
use Rattle.model_core.proofs.Commands.OutcomeLemmas.{bounds_each, ephe_each, tells_each}

-- whether a value, a key, a block, a registration and a queued finaliser are none of this label
abbrev pub is_other : Label → Value → Bool
is_other h (Int z) = true
is_other h (Block l) = not (same_label l h)
is_other h Nothing = true

abbrev pub is_other_key : Label → Option Label → Bool
is_other_key h None = true
is_other_key h (Some l) = not (same_label l h)

abbrev pub node_hides : Label → Node → Bool
node_hides h (Plain tag fields) = list_all (is_other h) fields
node_hides h (Raw tag fields) = list_all (is_other h) fields
node_hides h (Ephe keys datum) = list_all (is_other_key h) keys && is_other h datum

-- a finaliser of a script gives its block to a register of scripts
abbrev pub final_hides : Label → Finaliser → Bool
final_hides h f = nat_lt f.register scratch && not (same_label f.label h)

abbrev pub pending_hides : Label → Pending → Bool
pending_hides h (Fin number l r) = nat_lt r scratch && not (same_label l h)
pending_hides h (Last number) = true

-- a domain names the label in the register that is kept for it alone
pub record DomainHides (h : Label) (x : DomainState) : Type 0 where
  pub registers : (r : ℕ) → r ≢ hidden → IsTrue (is_other h (get_or x.registers r Nothing))
  pub finals : IsTrue (list_all (final_hides h) x.finals)
  pub queue : IsTrue (list_all (pending_hides h) x.queue)

pub record Hides (h : Label) (s : State) : Type 0 where
  pub domains : (d : ℕ) → DomainHides h (domain_at s d)
  pub nodes : (l : Label) (n : Node) → node_at s.graph l ≡ Some n → IsTrue (node_hides h n)

-- what holds of each domain, where one is replaced, and where each is changed
pub each_set : (P : DomainState → Type 0) (xs : List DomainState) (d : ℕ) (x : DomainState) → P x → ((k : ℕ) → P (get_or xs k no_domain)) → (k : ℕ) → P (get_or (set xs d x) k no_domain)
each_set P [] d x new old k = old k
each_set P (y ∷ xs) zero x new old zero = new
each_set P (y ∷ xs) zero x new old (suc k) = old (suc k)
each_set P (y ∷ xs) (suc d) x new old zero = old zero
each_set P (y ∷ xs) (suc d) x new old (suc k) = each_set P xs d x new (λ j. old (suc j)) k

pub each_map : (P : DomainState → Type 0) (f : DomainState → DomainState) → ((x : DomainState) → P x → P (f x)) → (xs : List DomainState) → ((k : ℕ) → P (get_or xs k no_domain)) → (k : ℕ) → P (get_or (map f xs) k no_domain)
each_map P f kept [] old k = old k
each_map P f kept (x ∷ xs) old zero = kept x (old zero)
each_map P f kept (x ∷ xs) old (suc k) = each_map P f kept xs (λ j. old (suc j)) k

-- tests of all elements of a list, where some are moved
all_take : {A : Type 0} (test : A → Bool) (i : ℕ) (xs : List A) → IsTrue (list_all test xs) → IsTrue (list_all test (take i xs))
all_take test zero xs all = refl
all_take test (suc i) [] all = refl
all_take test (suc i) (x ∷ xs) all = let both = and_parts (test x) (list_all test xs) all in and_both (test x) _ both.0 (all_take test i xs both.1)

all_drop : {A : Type 0} (test : A → Bool) (i : ℕ) (xs : List A) → IsTrue (list_all test xs) → IsTrue (list_all test (drop i xs))
all_drop test zero xs all = all
all_drop test (suc i) [] all = refl
all_drop test (suc i) (x ∷ xs) all = all_drop test i xs (and_parts (test x) (list_all test xs) all).1

pub all_append : {A : Type 0} (test : A → Bool) (xs ys : List A) → IsTrue (list_all test xs) → IsTrue (list_all test ys) → IsTrue (list_all test (xs ++ ys))
all_append test [] ys a b = b
all_append test (x ∷ xs) ys a b = let both = and_parts (test x) (list_all test xs) a in and_both (test x) _ both.0 (all_append test xs ys both.1 b)

all_remove : {A : Type 0} (test : A → Bool) (xs : List A) (i : ℕ) → IsTrue (list_all test xs) → IsTrue (list_all test (remove xs i))
all_remove test xs i all = all_append test (take i xs) (drop (suc i) xs) (all_take test i xs all) (all_drop test (suc i) xs all)

pub all_without : {A : Type 0} (test : A → Bool) (places : List ℕ) (xs : List A) → IsTrue (list_all test xs) → IsTrue (list_all test (without_places places xs))
all_without test [] xs all = all
all_without test (p ∷ ps) xs all = all_remove test (without_places ps xs) p (all_without test ps xs all)

all_cons : {A : Type 0} (test : A → Bool) (o : Option A) (xs : List A) → ((x : A) → o ≡ Some x → IsTrue (test x)) → IsTrue (list_all test xs) → IsTrue (list_all test (cons_option o xs))
all_cons test None xs each all = all
all_cons test (Some x) xs each all = and_both (test x) _ (each x refl) all

pub all_found : {A : Type 0} (test : A → Bool) (xs : List A) → IsTrue (list_all test xs) → (places : List ℕ) → IsTrue (list_all test (at_places places xs))
all_found test xs all [] = refl
all_found test xs all (p ∷ ps) = all_cons test (slice_get xs p) (at_places ps xs) (λ x e. all_at test xs all p x e) (all_found test xs all ps)

pub all_map : {A B : Type 0} (test : B → Bool) (f : A → B) (own : A → Bool) → ((x : A) → IsTrue (own x) → IsTrue (test (f x))) → (xs : List A) → IsTrue (list_all own xs) → IsTrue (list_all test (map f xs))
all_map test f own each [] all = refl
all_map test f own each (x ∷ xs) all = let both = and_parts (own x) (list_all own xs) all in and_both (test (f x)) _ (each x both.0) (all_map test f own each xs both.1)

pub all_wiped : (h : Label) (places : List ℕ) (keys : List (Option Label)) → IsTrue (list_all (is_other_key h) keys) → IsTrue (list_all (is_other_key h) (wiped_keys places keys))
all_wiped h [] keys all = all
all_wiped h (p ∷ ps) keys all = all_set (is_other_key h) (wiped_keys ps keys) p None refl (all_wiped h ps keys all)

-- a register of scripts isn't the one that is kept
pub below_hidden : (r : ℕ) → IsTrue (nat_lt r scratch) → r ≢ hidden
below_hidden r below same = let clash : IsTrue (nat_lt hidden scratch) = subst (λ k. IsTrue (nat_lt k scratch)) same below in let twice : false ≡ true = clash in cc

-- the registers that a command names are registers of scripts
first_below : (r : ℕ) (rs : List ℕ) → IsTrue (list_all (λ k. nat_lt k scratch) (r ∷ rs)) → r ≢ hidden
first_below r rs all = below_hidden r (and_parts (nat_lt r scratch) (list_all (λ k. nat_lt k scratch) rs) all).0

rest_below : (r : ℕ) (rs : List ℕ) → IsTrue (list_all (λ k. nat_lt k scratch) (r ∷ rs)) → IsTrue (list_all (λ k. nat_lt k scratch) rs)
rest_below r rs all = (and_parts (nat_lt r scratch) (list_all (λ k. nat_lt k scratch) rs) all).1

-- the changes of a state
module _ (h : Label) (s : State) (hides : Hides h s) where
  value_in : (d r : ℕ) → r ≢ hidden → IsTrue (is_other h (register s d r))
  value_in d r other = (hides.domains d).registers r other

  label_other : (v : Value) → IsTrue (is_other h v) → (l : Label) → label_of v ≡ Some l → IsTrue (not (same_label l h))
  label_other (Int z) is l e = cc
  label_other (Block k) is l e = let same : k ≡ l = cc in subst (λ (x : Label). IsTrue (not (same_label x h))) same is
  label_other Nothing is l e = cc

  key_other : (v : Value) → IsTrue (is_other h v) → IsTrue (is_other_key h (label_of v))
  key_other (Int z) is = refl
  key_other (Block k) is = is
  key_other Nothing is = refl

  other_key : (k : Option Label) → IsTrue (is_other_key h k) → IsTrue (is_other h (key_value k))
  other_key None is = refl
  other_key (Some l) is = is

  pub hides_with_domain : (d : ℕ) (x : DomainState) → DomainHides h x → Hides h (with_domain s d x)
  hides_with_domain d x new = record { domains = each_set (DomainHides h) s.domains d x new hides.domains; nodes = hides.nodes }

  held_other : (rs : List Value) → ((r : ℕ) → r ≢ hidden → IsTrue (is_other h (get_or rs r Nothing))) → (r : ℕ) (v : Value) → IsTrue (is_other h v)
      → (k : ℕ) → k ≢ hidden → IsTrue (is_other h (get_or (set rs r v) k Nothing))
  held_other rs old r v new k other = ⊎_elim
      (λ here. subst (λ (x : Value). IsTrue (is_other h x)) (sym here.1) new)
      (λ same. subst (λ (x : Value). IsTrue (is_other h x)) (sym same) (old k other))
      (set_cases rs r v Nothing k)

  pub hides_with_register : (d r : ℕ) (v : Value) → IsTrue (is_other h v) → Hides h (with_register s d r v)
  hides_with_register d r v new = hides_with_domain d _ (record {
    registers = held_other (domain_at s d).registers (hides.domains d).registers r v new;
    finals = (hides.domains d).finals;
    queue = (hides.domains d).queue;
  })

  pub hides_with_block : (l : Label) (n : Node) → IsTrue (node_hides h n) → Hides h (with_block s l n)
  hides_with_block l n new = record {
    domains = hides.domains;
    nodes = λ k m at. ⊎_elim
        (λ is. subst (λ (x : Node). IsTrue (node_hides h x)) (sym is) new)
        (λ old. hides.nodes k m old)
        (node_at-with_node_cases s.graph l k n m at);
  }

  hides_grown : (e : Label × Node) (kept : ℕ) → IsTrue (node_hides h e.1) → Hides h (record s { graph = s.graph ++ e ∷ []; kept = kept })
  hides_grown e kept new = record {
    domains = hides.domains;
    nodes = λ k m at. ⊎_elim
        (λ is. subst (λ (x : Node). IsTrue (node_hides h x)) (sym is) new)
        (λ old. hides.nodes k m old)
        (node_at-append_cases s.graph e k m at);
  }

-- the label of a domain's next block
abbrev pub next_label : State → ℕ → Label
next_label s d = record { domain = d; serial = (domain_at s d).serial + 1 }

hides_allocated : (h : Label) (s : State) → Hides h s → (d : ℕ) → IsTrue (not (same_label (next_label s d) h)) → (dst : ℕ) (n : Node) → IsTrue (node_hides h n) → Hides h (allocated s d dst n).state
hides_allocated h s hides d new dst n full =
    let serial = (domain_at s d).serial + 1 in
    let x : DomainState = record (domain_at s d) { serial = serial } in
    let made : State = with_domain s d x in
    let hides_made : Hides h made = hides_with_domain h s hides d x (record { registers = (hides.domains d).registers; finals = (hides.domains d).finals; queue = (hides.domains d).queue }) in
    let grown : State = record made { graph = s.graph ++ (next_label s d, n) ∷ []; kept = s.kept + 1 } in
    let hides_grown_too : Hides h grown = hides_grown h made hides_made (next_label s d, n) (s.kept + 1) full in
    hides_with_register h grown hides_grown_too d dst (Block (next_label s d)) new

-- what a fact of states owes to the moves of a command that names neither the label nor its register
pub record Moves (P : State → Type 0) (h : Label) (s : State) (d : ℕ) : Type 0 where
  pub same : P s
  pub held : (r : ℕ) (v : Value) → r ≢ hidden → IsTrue (is_other h v) → P (with_register s d r v)
  pub written : (l : Label) (new : Node) → IsTrue (node_hides h new) → P (with_block s l new)
  pub made : (dst : ℕ) (n : Node) → dst ≢ hidden → IsTrue (node_hides h n) → P (allocated s d dst n).state
  pub registered : (f : Finaliser) → IsTrue (final_hides h f) → P (with_final s d f)
  pub registered_last : (f : LastFinaliser) → P (with_last s d f)

module _ (P : State → Type 0) (h : Label) (s : State) (hides : Hides h s) (d : ℕ) (m : Moves P h s d) where
  within : {A : Type 0} (o : Option A) (f : A → Outcome) → ((a : A) → o ≡ Some a → P (f a).state) → P (in_bounds s o f).state
  within = bounds_each (λ o. P o.state) s m.same

  told : (b : Bool) → P (tells s b).state
  told = tells_each (λ o. P o.state) s m.same m.same

  -- the block in a register
  module _ (r : ℕ) where
    node_in : (l : Label) (n : Node) → block_in s d r ≡ Some (l, n) → IsTrue (node_hides h n)
    node_in l n e = hides.nodes l n (held_block s d r l n e).node

    reads_field : (dst index : ℕ) (b : Option (Label × Node)) → dst ≢ hidden → block_in s d r ≡ b → P (loaded s d dst index b).state
    reads_field dst index None other e = m.same
    reads_field dst index (Some (l, Plain tag fields)) other e =
        within (slice_get fields index) _ (λ v at. m.held dst v other (all_at (is_other h) fields (node_in l (Plain tag fields) e) index v at))
    reads_field dst index (Some (l, Raw tag fields)) other e =
        within (slice_get fields index) _ (λ v at. m.held dst v other (all_at (is_other h) fields (node_in l (Raw tag fields) e) index v at))
    reads_field dst index (Some (l, Ephe keys datum)) other e = m.same

    at_keys : (f : Label → List (Option Label) → Value → Outcome)
        → ((l : Label) (keys : List (Option Label)) (datum : Value) → IsTrue (list_all (is_other_key h) keys) → IsTrue (is_other h datum) → P (f l keys datum).state) → P (at_ephe s (block_in s d r) f).state
    at_keys f each = ephe_each (λ o. P o.state) s m.same d r f (λ l keys datum e.
        let both = and_parts (list_all (is_other_key h) keys) (is_other h datum) (node_in l (Ephe keys datum) e) in each l keys datum both.0 both.1)

    writes_field : (f : Label → Node → Value → Outcome) → ((l : Label) (new : Node) (held : Value) → P (with_block s l new) → P (f l new held).state)
        → (index : ℕ) (b : Option (Label × Node)) (v : Value) → block_in s d r ≡ b → IsTrue (is_other h v) → P (at_field s index b v f).state
    writes_field f each index None v e new = m.same
    writes_field f each index (Some (l, Ephe keys datum)) v e new = m.same
    writes_field f each index (Some (l, Plain tag fields)) Nothing e new = m.same
    writes_field f each index (Some (l, Plain tag fields)) (Int z) e new =
        within (slice_get fields index) _ (λ held at. each l _ held (m.written l _ (all_set (is_other h) fields index (Int z) refl (node_in l (Plain tag fields) e))))
    writes_field f each index (Some (l, Plain tag fields)) (Block k) e new =
        within (slice_get fields index) _ (λ held at. each l _ held (m.written l _ (all_set (is_other h) fields index (Block k) new (node_in l (Plain tag fields) e))))
    writes_field f each index (Some (l, Raw tag fields)) Nothing e new = m.same
    writes_field f each index (Some (l, Raw tag fields)) (Int z) e new =
        within (slice_get fields index) _ (λ held at. each l _ held (m.written l _ (all_set (is_other h) fields index (Int z) refl (node_in l (Raw tag fields) e))))
    writes_field f each index (Some (l, Raw tag fields)) (Block k) e new = m.same

    writes_where : (l : Label) (new : Node) (b : Bool) → P (with_block s l new) → P (written_where s l new b).state
    writes_where l new true p = p
    writes_where l new false p = m.same

    exchanges : (index : ℕ) (expected v : Value) → IsTrue (is_other h v) → P (exchanged s index (block_in s d r) expected v).state
    exchanges index Nothing v new = m.same
    exchanges index (Int z) v new = writes_field _ (λ l n held p. writes_where l n (same_value held (Int z)) p) index (block_in s d r) v refl new
    exchanges index (Block k) v new = writes_field _ (λ l n held p. writes_where l n (same_value held (Block k)) p) index (block_in s d r) v refl new

    writes_key : (index : ℕ) (key : Option Label) → IsTrue (is_other_key h key) → P (at_ephe s (block_in s d r) (key_set s index key)).state
    writes_key index key new = at_keys _ (λ l keys datum ks dat. within (slice_get keys index) _
        (λ _ at. m.written l _ (and_both (list_all (is_other_key h) (set keys index key)) _ (all_set (is_other_key h) keys index key new ks) dat)))

    writes_datum : (v : Value) → IsTrue (is_other h v) → P (at_ephe s (block_in s d r) (datum_set s v)).state
    writes_datum v new = at_keys _ (λ l keys datum ks dat. m.written l _ (and_both (list_all (is_other_key h) keys) _ ks new))

    writes_given_key : (index : ℕ) (o : Option Label) → IsTrue (is_other_key h o) → P (key_stored s index o (block_in s d r)).state
    writes_given_key index None new = m.same
    writes_given_key index (Some k) new = writes_key index (Some k) new

    writes_given_datum : (v : Value) → IsTrue (is_other h v) → P (datum_stored s (block_in s d r) v).state
    writes_given_datum Nothing new = m.same
    writes_given_datum (Int z) new = writes_datum (Int z) new
    writes_given_datum (Block k) new = writes_datum (Block k) new

  registers_final : (number dst : ℕ) (v : Value) → IsTrue (nat_lt dst scratch) → IsTrue (is_other h v) → P (finalised s d number dst (label_of v)).state
  registers_final number dst (Int z) below new = m.same
  registers_final number dst Nothing below new = m.same
  registers_final number dst (Block l) below new = m.registered _ (and_both (nat_lt dst scratch) _ below new)

  registers_last : (number : ℕ) (v : Value) → P (finalised_last s d number (label_of v)).state
  registers_last number (Int z) = m.same
  registers_last number Nothing = m.same
  registers_last number (Block l) = m.registered_last _

  -- a load and a store whatever block they are at
  pub moved_load : (dst src index : ℕ) → dst ≢ hidden → P (outcome s d (Load dst src index)).state
  moved_load dst src index other = reads_field src dst index (block_in s d src) other refl

  pub moved_store : (block index item : ℕ) → item ≢ hidden → P (outcome s d (Store block index item)).state
  moved_store block index item other = writes_field block (written_over s) (λ l n held p. p) index (block_in s d block) (register s d item) refl (value_in h s hides d item other)

  -- every command of a script
  pub moved_plain : (c : Command) → IsTrue (is_plain c) → P (outcome s d c).state
  moved_plain (PutInt dst value) all = m.held dst (Int value) (first_below dst [] all) refl
  moved_plain (Copy dst src) all = m.held dst (register s d src) (first_below dst (src ∷ []) all) (value_in h s hides d src (first_below src [] (rest_below dst (src ∷ []) all)))
  moved_plain (Forget dst) all = m.held dst Nothing (first_below dst [] all) refl
  moved_plain (Alloc dst tag fields) all = m.made dst _ (first_below dst [] all) (all_replicate (is_other h) fields (Int (pos 0)) refl)
  moved_plain (AllocMaj dst tag fields) all = m.made dst _ (first_below dst [] all) (all_replicate (is_other h) fields (Int (pos 0)) refl)
  moved_plain (Load dst src index) all = moved_load dst src index (first_below dst (src ∷ []) all)
  moved_plain (Store block index item) all = moved_store block index item (first_below item [] (rest_below block (item ∷ []) all))
  moved_plain (NewRaw dst tag fields) all = m.made dst _ (first_below dst [] all) (all_replicate (is_other h) fields (Int (pos 0)) refl)
  moved_plain (Cas block index expected item) all =
      exchanges block index (register s d expected) (register s d item) (value_in h s hides d item (first_below item [] (rest_below expected (item ∷ []) (rest_below block (expected ∷ item ∷ []) all))))
  moved_plain (NewEphe dst keys) all = m.made dst _ (first_below dst [] all) (and_both (list_all (is_other_key h) (replicate keys None)) true (all_replicate (is_other_key h) keys None refl) refl)
  moved_plain (SetKey ephe index item) all =
      writes_given_key ephe index (label_in s d item) (key_other h s hides (register s d item) (value_in h s hides d item (first_below item [] (rest_below ephe (item ∷ []) all))))
  moved_plain (UnsetKey ephe index) all = writes_key ephe index None refl
  moved_plain (GetKey dst ephe index) all = at_keys ephe _ (λ l keys datum ks dat. within (slice_get keys index) _
      (λ k at. m.held dst (key_value k) (first_below dst (ephe ∷ []) all) (other_key h s hides k (all_at (is_other_key h) keys ks index k at))))
  moved_plain (CheckKey ephe index) all = at_keys ephe _ (λ l keys datum ks dat. within (slice_get keys index) _ (λ k at. told (is_some k)))
  moved_plain (SetData ephe item) all = writes_given_datum ephe (register s d item) (value_in h s hides d item (first_below item [] (rest_below ephe (item ∷ []) all)))
  moved_plain (UnsetData ephe) all = writes_datum ephe Nothing refl
  moved_plain (GetData dst ephe) all = at_keys ephe _ (λ l keys datum ks dat. m.held dst datum (first_below dst (ephe ∷ []) all) dat)
  moved_plain (CheckData ephe) all = at_keys ephe _ (λ l keys datum ks dat. told (is_full_value datum))
  moved_plain (Finalise item number dst) all =
      registers_final number dst (register s d item) (and_parts (nat_lt dst scratch) true (rest_below item (dst ∷ []) all)).0 (value_in h s hides d item (first_below item (dst ∷ []) all))
  moved_plain (FinaliseLast item number) all = registers_last number (register s d item)
  moved_plain Poll all = m.same
  moved_plain Minor all = m.same
  moved_plain Major all = m.same
  moved_plain FullMajor all = m.same
  moved_plain (Spawn section item) all = m.same
  moved_plain (Argument dst) all = m.same
  moved_plain (PutResult item) all = m.same
  moved_plain (Join dst section) all = m.same

-- whether a command may stand in a run with the hidden block: it neither puts anything into its register nor takes it from there, and works with the block by loads and stores alone
abbrev pub is_discreet : Command → Bool
is_discreet (PutInt dst value) = nat_lt dst hidden
is_discreet (Load dst src index) = nat_lt dst hidden
is_discreet (Store block index item) = nat_lt item hidden
is_discreet c = is_plain c

within_hidden : (r : ℕ) → IsTrue (nat_lt r hidden) → r ≢ hidden
within_hidden r below same = let clash : IsTrue (nat_lt hidden hidden) = subst (λ k. IsTrue (nat_lt k hidden)) same below in let twice : false ≡ true = clash in cc

pub moved_discreet : (P : State → Type 0) (h : Label) (s : State) → Hides h s → (d : ℕ) → Moves P h s d → (c : Command) → IsTrue (is_discreet c) → P (outcome s d c).state
moved_discreet P h s hides d m (PutInt dst value) is = m.held dst (Int value) (within_hidden dst is) refl
moved_discreet P h s hides d m (Load dst src index) is = moved_load P h s hides d m dst src index (within_hidden dst is)
moved_discreet P h s hides d m (Store block index item) is = moved_store P h s hides d m block index item (within_hidden item is)
moved_discreet P h s hides d m c is = moved_plain P h s hides d m c is

-- so the block stays hidden at each such command
pub hides_outcome : (h : Label) (s : State) → Hides h s → (d : ℕ) → IsTrue (not (same_label (next_label s d) h)) → (c : Command) → IsTrue (is_discreet c) → Hides h (outcome s d c).state
hides_outcome h s hides d new = moved_discreet (Hides h) h s hides d (record {
  same = hides;
  held = λ r v other is. hides_with_register h s hides d r v is;
  written = λ l n is. hides_with_block h s hides l n is;
  made = λ dst n other is. hides_allocated h s hides d new dst n is;
  registered = λ f is. hides_with_domain h s hides d _ (record {
    registers = (hides.domains d).registers;
    finals = all_append (final_hides h) (domain_at s d).finals (f ∷ []) (hides.domains d).finals (and_both (final_hides h f) true is refl);
    queue = (hides.domains d).queue;
  });
  registered_last = λ f. hides_with_domain h s hides d _ (record { registers = (hides.domains d).registers; finals = (hides.domains d).finals; queue = (hides.domains d).queue });
})

-- and the register that is kept for it stays as it is
abbrev pub KeepsRegister : State → ℕ → ℕ → State → Type 0
KeepsRegister s d r t = register t d r ≡ register s d r

register_set : (xs : List DomainState) (d : ℕ) (x : DomainState) (r : ℕ) → get_or x.registers r Nothing ≡ get_or (get_or xs d no_domain).registers r Nothing
    → get_or (get_or (set xs d x) d no_domain).registers r Nothing ≡ get_or (get_or xs d no_domain).registers r Nothing
register_set xs d x r same = part_set (λ y. get_or y.registers r Nothing) xs d x same d

pub hidden_stays : (h : Label) (s : State) → Hides h s → (d : ℕ) (c : Command) → IsTrue (is_discreet c) → KeepsRegister s d hidden (outcome s d c).state
hidden_stays h s hides d = moved_discreet (KeepsRegister s d hidden) h s hides d (record {
  same = refl;
  held = λ r v other is. register_set s.domains d _ hidden (get_or-set_other (domain_at s d).registers r hidden v Nothing (λ same. other (sym same)));
  written = λ l n is. refl;
  made = λ dst n other is.
      let x : DomainState = record (domain_at s d) { serial = (domain_at s d).serial + 1 } in
      let made : List DomainState = set s.domains d x in
      register_set made d _ hidden (get_or-set_other (get_or made d no_domain).registers dst hidden (Block (next_label s d)) Nothing (λ same. other (sym same)))
      ∙ register_set s.domains d x hidden refl;
  registered = λ f is. register_set s.domains d _ hidden refl;
  registered_last = λ f. register_set s.domains d _ hidden refl;
})
