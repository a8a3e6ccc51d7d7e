-- A block that only one domain knows: what others do leaves it alone, and it stands in no map.
use Rattle.std.proofs.Common.{◌≡◌, ◌≢◌, ⊎_elim, ℕ, zero, suc, ◌+◌, Bool, true, false, eqb, eqb-true, eq-eqb, IsTrue, is_some, List, [], ◌∷◌, ◌++◌, map, reverse, length, filter_map, option_to_list, replicate, get_or, set, slice_get, pos, Option, Some, None, refl, ap, sym, ◌∙◌, subst}
use Rattle.model_core.specs.declared.label.Label.{Label}
use Rattle.model_core.specs.declared.command.Command.{Command}
use Rattle.model_core.specs.declared.command.Command.TheVariants.{PutInt, Copy, Forget, Alloc, AllocMaj, Load, Store, Raw as NewRaw, Cas, Ephe as NewEphe, SetKey, UnsetKey, GetKey, CheckKey, SetData, UnsetData, GetData, CheckData, Finalise, FinaliseLast, Poll, Minor, Major, FullMajor, Spawn, Argument, PutResult, Join}
use Rattle.model_core.specs.declared.entry.Entry.{Entry}
use Rattle.model_core.specs.declared.entry.Entry.TheVariants.{Command as CommandOf, End, Cut, Queue, Seal, Wipe, Last as LastOf, Collected, Done, Ran}
use Rattle.model_core.specs.declared.graph.Value.{Value}
use Rattle.model_core.specs.declared.graph.Value.TheVariants.{Int, Block, Nothing}
use Rattle.model_core.specs.declared.graph.Node.{Node}
use Rattle.model_core.specs.declared.graph.Node.TheVariants.{Plain, Raw, Ephe}
use Rattle.model_core.specs.declared.state.Finaliser.{Finaliser}
use Rattle.model_core.specs.declared.state.LastFinaliser.{LastFinaliser}
use Rattle.model_core.specs.declared.state.Pending.{Pending}
use Rattle.model_core.specs.declared.state.Pending.TheVariants.{Fin, Last}
use Rattle.model_core.specs.declared.state.DomainState.{DomainState}
use Rattle.model_core.specs.declared.state.Sizes.{Sizes}
use Rattle.model_core.specs.declared.state.State.{State}
use Rattle.model_core.specs.Graph.{Graph, same_label, labels, has_label, label_of, node_at}
use Rattle.model_core.specs.Domains.{domain_at, with_domain, with_register, with_block, register, label_in, no_domain, pending_label, opening}
use Rattle.model_core.specs.Commands.{Outcome, in_bounds, at_ephe, loaded, at_field, written_over, same_value, written_where, exchanged, key_set, key_value, key_stored, datum_set, datum_stored, with_final, with_last, finalised, finalised_last, tells, is_full_value, allocated, new_plain, new_raw, block_in, outcome, after_command}
use Rattle.model_core.specs.Entries.{Allowed, at_places, wiped_keys, wiped, with_wiped, with_last_queued, without_first, after_run, next}
use Rattle.model_core.specs.Fronts.{NoneOf}
use Rattle.model_core.specs.History.{Legal, is_entry_of}
use Rattle.model_core.specs.Laws.{written_by}
use Rattle.model_core.specs.WellFormed.{names_of, HaveNodes}
use Rattle.model_core.proofs.Commands.FrameLemmas.{not_same}
use Rattle.model_core.proofs.Commands.MoveLemmas.{held_block}
use Rattle.model_core.proofs.Graphs.GraphLemmas.{same_label-true, same_label_refl, node_at-with_node_cases, node_at-append_cases}
use Rattle.model_core.proofs.Graphs.NamedLemmas.{have_none, have_append, have_left, have_right, have_at, have_get, have_set, have_replicate, have_option, have_rest, have_filter_map_append, join_named, without_named, places_named, queued_finals_named, queued_lasts_named, wiped_keys_named}
use Rattle.model_core.proofs.Histories.WellFormedLemmas.{labels-append, wf_after, wf_opening}
use Rattle.model_core.proofs.Histories.NumberLemmas.{next_label-new, numbered_after, numbered_opening}
use Rattle.model_core.proofs.Graphs.GraphStepLemmas.{nodes_stay_law}
use Rattle.model_core.proofs.Reach.ReachLemmas.{or_cases, or_left, never_true, has-append_cases, has-append_left, has-append_right}
use Rattle.weak_laws.specs.Tables.Thinning.{IsOutside, Thin, state_of}
use Rattle.weak_laws.specs.Maps.Steps.{WasUnreached}
use Rattle.weak_laws.specs.Tables.Stages.{graph_of}
use Rattle.weak_laws.proofs.OfTables.ChangeLemmas.{thin_is, thin_twice, thin_more}
use Rattle.weak_laws.specs.Maps.Tries.{inside, at}
use Rattle.weak_laws.specs.Maps.Private.{NamesWithin, IsPrivate}
use Rattle.weak_laws.specs.Maps.MapLaws.{PrivateStays, PrivateStandsNowhere}
use Rattle.weak_laws.proofs.OfMaps.WalkLemmas.{at_step, at_stop}
use Rattle.weak_laws.proofs.OfMaps.FieldLemmas.{plain_is}
use Rattle.weak_laws.proofs.OfMaps.FrontLemmas.{prefix_same, prefix_more, walk_along, other_between}
use Rattle.weak_laws.proofs.OfTables.CollectorLemmas.{field_named}
use Rattle.weak_laws.proofs.OfMaps.RespectLemmas.{collector_spares, allowed_at, outside_wider, state_push, graph_push}
use Rattle.model_core.proofs.Commands.OutcomeLemmas.{bounds_each, ephe_each, tells_each}

-- which register's label a command may write into a block, or register
abbrev pub is_item : Command → ℕ → Bool
is_item (Store block index item) r = eqb item r
is_item (Cas block index expected item) r = eqb item r
is_item (SetKey ephe index item) r = eqb item r
is_item (SetData ephe item) r = eqb item r
is_item (Finalise item number dst) r = eqb item r
is_item (FinaliseLast item number) r = eqb item r
is_item _ r = false

eqb_same : (n : ℕ) → eqb n n ≡ true
eqb_same n = eq-eqb n n refl

-- what a fact owes to the moves of a command of domain k, in a state whose blocks name only what is known
record Moves (P : State → Type 0) (g : Graph) (s : State) (k : ℕ) : Type 0 where
  same : P s
  held : (r : ℕ) (v : Value) → (HaveNodes g (filter_map label_of (domain_at s k).registers) → HaveNodes g (option_to_list (label_of v))) → P (with_register s k r v)
  written : (l : Label) (new : Node) → HaveNodes g (names_of new) → P (with_block s l new)
  made : (dst : ℕ) (n : Node) → HaveNodes g (names_of n) → P (allocated s k dst n).state
  registered : (f : Finaliser) → HaveNodes g (f.label ∷ []) → P (with_final s k f)
  registered_last : (f : LastFinaliser) → P (with_last s k f)

module _ (P : State → Type 0) (g : Graph) (s : State) (k : ℕ) (nodes : (m : Label) (n : Node) → node_at s.graph m ≡ Some n → HaveNodes g (names_of n)) (m : Moves P g s k) where
  within : {A : Type 0} (o : Option A) (f : A → Outcome) → ((a : A) → o ≡ Some a → P (f a).state) → P (in_bounds s o f).state
  within = bounds_each (λ o. P o.state) s m.same

  told : (b : Bool) → P (tells s b).state
  told = tells_each (λ o. P o.state) s m.same m.same

  module _ (r : ℕ) where
    node_named : (l : Label) (n : Node) → block_in s k r ≡ Some (l, n) → HaveNodes g (names_of n)
    node_named l n e = nodes l n (held_block s k r l n e).node

    reads_field : (dst index : ℕ) (b : Option (Label × Node)) → block_in s k r ≡ b → P (loaded s k dst index b).state
    reads_field dst index None e = m.same
    reads_field dst index (Some (l, Plain tag fields)) e = within (slice_get fields index) _ (λ v at. m.held dst v (λ _. have_get g label_of fields index v (node_named l (Plain tag fields) e) at))
    reads_field dst index (Some (l, Raw tag fields)) e = within (slice_get fields index) _ (λ v at. m.held dst v (λ _. have_get g label_of fields index v (node_named l (Raw tag fields) e) at))
    reads_field dst index (Some (l, Ephe keys datum)) e = m.same

    at_keys : (f : Label → List (Option Label) → Value → Outcome)
        → ((l : Label) (keys : List (Option Label)) (datum : Value) → block_in s k r ≡ Some (l, Ephe keys datum) → P (f l keys datum).state) → P (at_ephe s (block_in s k r) f).state
    at_keys = ephe_each (λ o. P o.state) s m.same k r

    module _ (f : Label → Node → Value → Outcome) (each : (l : Label) (new : Node) (held : Value) → P (with_block s l new) → P (f l new held).state) where
      writes_field : (index : ℕ) (b : Option (Label × Node)) (v : Value) → block_in s k r ≡ b → HaveNodes g (option_to_list (label_of v)) → P (at_field s index b v f).state
      writes_field index None v e new = m.same
      writes_field index (Some (l, Ephe keys datum)) v e new = m.same
      writes_field index (Some (l, Plain tag fields)) Nothing e new = m.same
      writes_field index (Some (l, Plain tag fields)) (Int z) e new = within (slice_get fields index) _ (λ held at. each l _ held (m.written l _ (have_set g label_of fields index (Int z) (node_named l (Plain tag fields) e) new)))
      writes_field index (Some (l, Plain tag fields)) (Block x) e new = within (slice_get fields index) _ (λ held at. each l _ held (m.written l _ (have_set g label_of fields index (Block x) (node_named l (Plain tag fields) e) new)))
      writes_field index (Some (l, Raw tag fields)) Nothing e new = m.same
      writes_field index (Some (l, Raw tag fields)) (Int z) e new = within (slice_get fields index) _ (λ held at. each l _ held (m.written l _ (have_set g label_of fields index (Int z) (node_named l (Raw tag fields) e) (have_none g))))
      writes_field index (Some (l, Raw tag fields)) (Block x) e new = m.same

    writes_where : (l : Label) (new : Node) (b : Bool) → P (with_block s l new) → P (written_where s l new b).state
    writes_where l new true p = p
    writes_where l new false p = m.same

    exchanges : (index : ℕ) (expected v : Value) → HaveNodes g (option_to_list (label_of v)) → P (exchanged s index (block_in s k r) expected v).state
    exchanges index Nothing v new = m.same
    exchanges index (Int z) v new = writes_field _ (λ l n held p. writes_where l n (same_value held (Int z)) p) index (block_in s k r) v refl new
    exchanges index (Block x) v new = writes_field _ (λ l n held p. writes_where l n (same_value held (Block x)) p) index (block_in s k r) v refl new

    keys_named : (l : Label) (keys : List (Option Label)) (datum : Value) → block_in s k r ≡ Some (l, Ephe keys datum) → HaveNodes g (filter_map (λ x. x) keys)
    keys_named l keys datum e = have_left g (filter_map (λ x. x) keys) (option_to_list (label_of datum)) (node_named l (Ephe keys datum) e)

    datum_named : (l : Label) (keys : List (Option Label)) (datum : Value) → block_in s k r ≡ Some (l, Ephe keys datum) → HaveNodes g (option_to_list (label_of datum))
    datum_named l keys datum e = have_right g (filter_map (λ x. x) keys) (option_to_list (label_of datum)) (node_named l (Ephe keys datum) e)

    key_named : (l : Label) (keys : List (Option Label)) (datum : Value) → block_in s k r ≡ Some (l, Ephe keys datum) → (index : ℕ) (x : Option Label) → slice_get keys index ≡ Some x → HaveNodes g (option_to_list (label_of (key_value x)))
    key_named l keys datum e index None at = have_none g
    key_named l keys datum e index (Some x) at = have_get g (λ y. y) keys index (Some x) (keys_named l keys datum e) at

    writes_key : (index : ℕ) (key : Option Label) → HaveNodes g (option_to_list key) → P (at_ephe s (block_in s k r) (key_set s index key)).state
    writes_key index key new = at_keys _ (λ l keys datum e. within (slice_get keys index) _ (λ _ at. m.written l (Ephe (set keys index key) datum)
        (have_append g (filter_map (λ x. x) (set keys index key)) (option_to_list (label_of datum)) (have_set g (λ x. x) keys index key (keys_named l keys datum e) new) (datum_named l keys datum e))))

    writes_datum : (v : Value) → HaveNodes g (option_to_list (label_of v)) → P (at_ephe s (block_in s k r) (datum_set s v)).state
    writes_datum v new = at_keys _ (λ l keys datum e. m.written l (Ephe keys v) (have_append g (filter_map (λ x. x) keys) (option_to_list (label_of v)) (keys_named l keys datum e) new))

    writes_given_key : (index : ℕ) (o : Option Label) → HaveNodes g (option_to_list o) → P (key_stored s index o (block_in s k r)).state
    writes_given_key index None new = m.same
    writes_given_key index (Some x) new = writes_key index (Some x) new

    writes_given_datum : (v : Value) → HaveNodes g (option_to_list (label_of v)) → P (datum_stored s (block_in s k r) v).state
    writes_given_datum Nothing new = m.same
    writes_given_datum (Int z) new = writes_datum (Int z) new
    writes_given_datum (Block x) new = writes_datum (Block x) new

  finalises : (number dst : ℕ) (o : Option Label) → HaveNodes g (option_to_list o) → P (finalised s k number dst o).state
  finalises number dst None named = m.same
  finalises number dst (Some l) named = m.registered (record { number = number; label = l; register = dst }) named

  finalises_last : (number : ℕ) (o : Option Label) → P (finalised_last s k number o).state
  finalises_last number None = m.same
  finalises_last number (Some l) = m.registered_last (record { number = number; label = l })

  -- what holds after each move holds after the command
  moved : (c : Command) → ((r : ℕ) → is_item c r ≡ true → HaveNodes g (option_to_list (label_of (register s k r)))) → P (outcome s k c).state
  moved (PutInt dst value) given = m.held dst (Int value) (λ _. have_none g)
  moved (Copy dst src) given = m.held dst (register s k src) (λ regs. have_at g label_of (domain_at s k).registers src Nothing regs (have_none g))
  moved (Forget dst) given = m.held dst Nothing (λ _. have_none g)
  moved (Alloc dst tag fields) given = m.made dst (new_plain tag fields) (have_replicate g label_of fields (Int (pos 0)) refl)
  moved (AllocMaj dst tag fields) given = m.made dst (new_plain tag fields) (have_replicate g label_of fields (Int (pos 0)) refl)
  moved (Load dst src index) given = reads_field src dst index (block_in s k src) refl
  moved (Store block index item) given = writes_field block (written_over s) (λ l n held p. p) index (block_in s k block) (register s k item) refl (given item (eqb_same item))
  moved (NewRaw dst tag fields) given = m.made dst (new_raw tag fields) (have_replicate g label_of fields (Int (pos 0)) refl)
  moved (Cas block index expected item) given = exchanges block index (register s k expected) (register s k item) (given item (eqb_same item))
  moved (NewEphe dst keys) given = m.made dst (Ephe (replicate keys None) Nothing)
      (have_append g (filter_map (λ x. x) (replicate keys None)) [] (have_replicate g (λ x. x) keys None refl) (have_none g))
  moved (SetKey ephe index item) given = writes_given_key ephe index (label_in s k item) (given item (eqb_same item))
  moved (UnsetKey ephe index) given = writes_key ephe index None (have_none g)
  moved (GetKey dst ephe index) given = at_keys ephe _ (λ l keys datum e. within (slice_get keys index) _ (λ x at. m.held dst (key_value x) (λ _. key_named ephe l keys datum e index x at)))
  moved (CheckKey ephe index) given = at_keys ephe _ (λ l keys datum e. within (slice_get keys index) _ (λ x at. told (is_some x)))
  moved (SetData ephe item) given = writes_given_datum ephe (register s k item) (given item (eqb_same item))
  moved (UnsetData ephe) given = writes_datum ephe Nothing (have_none g)
  moved (GetData dst ephe) given = at_keys ephe _ (λ l keys datum e. m.held dst datum (λ _. datum_named ephe l keys datum e))
  moved (CheckData ephe) given = at_keys ephe _ (λ l keys datum e. told (is_full_value datum))
  moved (Finalise item number dst) given = finalises number dst (label_in s k item) (given item (eqb_same item))
  moved (FinaliseLast item number) given = finalises_last number (label_in s k item)
  moved Poll given = m.same
  moved Minor given = m.same
  moved Major given = m.same
  moved FullMajor given = m.same
  moved (Spawn section item) given = m.same
  moved (Argument dst) given = m.same
  moved (PutResult item) given = m.same
  moved (Join dst section) given = m.same

-- a part of each domain by its number, after one was replaced, or each was changed
each_index : (P : ℕ → DomainState → Type 0) (xs : List DomainState) (k : ℕ) (x : DomainState) → P k x → ((i : ℕ) → P i (get_or xs i no_domain)) → (i : ℕ) → P i (get_or (set xs k x) i no_domain)
each_index P [] k x p each i = each i
each_index P (y ∷ xs) zero x p each zero = p
each_index P (y ∷ xs) zero x p each (suc i) = each (suc i)
each_index P (y ∷ xs) (suc k) x p each zero = each zero
each_index P (y ∷ xs) (suc k) x p each (suc i) = each_index (λ j. P (suc j)) xs k x p (λ j. each (suc j)) i

mapped_index : (P : ℕ → DomainState → Type 0) (f : DomainState → DomainState) (xs : List DomainState) → ((i : ℕ) (x : DomainState) → P i x → P i (f x)) → ((i : ℕ) → P i (get_or xs i no_domain)) → (i : ℕ) → P i (get_or (map f xs) i no_domain)
mapped_index P f [] step each i = each i
mapped_index P f (x ∷ xs) step each zero = step zero x (each zero)
mapped_index P f (x ∷ xs) step each (suc i) = mapped_index (λ j. P (suc j)) f xs (λ j. step (suc j)) (λ j. each (suc j)) i

-- more may be known, but the label
known_more : (g : Graph) (y : Label) (ls : List Label) → HaveNodes g ls → HaveNodes (g ++ (y, Plain 0 []) ∷ []) ls
known_more g y ls have x there = subst (λ (zs : List Label). IsTrue (has_label zs x)) (sym (labels-append g ((y, Plain 0 []) ∷ []))) (has-append_left (labels g) (y ∷ []) x (have x there))

known_there : (g : Graph) (y : Label) → HaveNodes (g ++ (y, Plain 0 []) ∷ []) (y ∷ [])
known_there g y x there = subst (λ (zs : List Label). IsTrue (has_label zs x)) (sym (labels-append g ((y, Plain 0 []) ∷ []))) (has-append_right (labels g) (y ∷ []) x there)

still_away : (g : Graph) (y l : Label) → has_label (labels g) l ≡ false → y ≢ l → has_label (labels (g ++ (y, Plain 0 []) ∷ [])) l ≡ false
still_away g y l away other = never_true (has_label (labels (g ++ (y, Plain 0 []) ∷ [])) l)
    (λ there. ⊎_elim
    (λ old. let clash : true ≡ false = sym old ∙ away in cc)
    (λ new. ⊎_elim (λ same. other (same_label-true y l same)) (λ none. let clash : false ≡ true = none in cc) (or_cases (same_label y l) false new))
    (has-append_cases (labels g) (y ∷ []) l (subst (λ (zs : List Label). IsTrue (has_label zs l)) (labels-append g ((y, Plain 0 []) ∷ [])) there)))

within_more : (g : Graph) (y : Label) (d i : ℕ) (x : DomainState) → NamesWithin g d i x → NamesWithin (g ++ (y, Plain 0 []) ∷ []) d i x
within_more g y d i x names = record {
  registers = λ other. known_more g y _ (names.registers other);
  finals = known_more g y _ names.finals;
  queue = known_more g y _ names.queue;
}

-- the label of a domain's next block
abbrev pub born : State → ℕ → Label
born s k = record { domain = k; serial = (domain_at s k).serial + 1 }

module _ (d : ℕ) (l : Label) where
  private_more : (s : State) → IsPrivate s d l → (y : Label) → y ≢ l → IsPrivate s d l
  private_more s p y other = record {
    known = p.known ++ (y, Plain 0 []) ∷ [];
    away = still_away p.known y l p.away other;
    mine = p.mine;
    domains = λ i. within_more p.known y d i (domain_at s i) (p.domains i);
    nodes = λ m n at. known_more p.known y (names_of n) (p.nodes m n at);
  }

  module _ (s : State) (p : IsPrivate s d l) where
    private_domain : (k : ℕ) (x : DomainState) → NamesWithin p.known d k x → IsPrivate (with_domain s k x) d l
    private_domain k x names = record { known = p.known; away = p.away; mine = p.mine; domains = each_index (NamesWithin p.known d) s.domains k x names p.domains; nodes = p.nodes }

    private_register : (k r : ℕ) (v : Value) → (k ≢ d → HaveNodes p.known (option_to_list (label_of v))) → IsPrivate (with_register s k r v) d l
    private_register k r v new = let old = p.domains k in private_domain k _ (record {
      registers = λ other. have_set p.known label_of (domain_at s k).registers r v (old.registers other) (new other);
      finals = old.finals;
      queue = old.queue;
    })

    private_block : (x : Label) (n : Node) → HaveNodes p.known (names_of n) → IsPrivate (with_block s x n) d l
    private_block x n named = record {
      known = p.known;
      away = p.away;
      mine = p.mine;
      domains = p.domains;
      nodes = λ m o at. ⊎_elim (λ new. subst (λ (y : Node). HaveNodes p.known (names_of y)) (sym new) named) (λ old. p.nodes m o old) (node_at-with_node_cases s.graph x m n o at);
    }

    private_grown : (x : Label × Node) (kept : ℕ) → HaveNodes p.known (names_of x.1) → IsPrivate (record s { graph = s.graph ++ x ∷ []; kept = kept }) d l
    private_grown x kept named = record {
      known = p.known;
      away = p.away;
      mine = p.mine;
      domains = p.domains;
      nodes = λ m o at. ⊎_elim (λ new. subst (λ (y : Node). HaveNodes p.known (names_of y)) (sym new) named) (λ old. p.nodes m o old) (node_at-append_cases s.graph x m o at);
    }

    private_final : (k : ℕ) (f : Finaliser) → HaveNodes p.known (f.label ∷ []) → IsPrivate (with_final s k f) d l
    private_final k f named = let old = p.domains k in private_domain k _ (record {
      registers = old.registers;
      finals = join_named p.known (λ f. f.label) (domain_at s k).finals (f ∷ []) old.finals named;
      queue = old.queue;
    })

    private_same : (k : ℕ) (x : DomainState) → x.registers ≡ (domain_at s k).registers → x.finals ≡ (domain_at s k).finals → x.queue ≡ (domain_at s k).queue → IsPrivate (with_domain s k x) d l
    private_same k x registers finals queue = let old = p.domains k in private_domain k x (record {
      registers = λ other. subst (λ rs. HaveNodes p.known (filter_map label_of rs)) (sym registers) (old.registers other);
      finals = subst (λ (fs : List Finaliser). HaveNodes p.known (map (λ f. f.label) fs)) (sym finals) old.finals;
      queue = subst (λ q. HaveNodes p.known (filter_map pending_label q)) (sym queue) old.queue;
    })

  -- a new block, of domain d or of another
  private_allocated : (s : State) (p : IsPrivate s d l) (k dst : ℕ) (n : Node) → HaveNodes p.known (names_of n) → IsPrivate (allocated s k dst n).state d l
  unfolding private_more
  private_allocated s p k dst n named = go (eqb k d) refl
    where
      -- once the label is known, or needn't be
      build : (q : IsPrivate s d l) → HaveNodes q.known (names_of n) → (k ≢ d → HaveNodes q.known (born s k ∷ [])) → IsPrivate (allocated s k dst n).state d l
      build q names new =
          private_register _ (record {
            known = q.known;
            away = q.away;
            mine = q.mine;
            domains = each_index (NamesWithin q.known d) s.domains k (record (domain_at s k) { serial = (domain_at s k).serial + 1 }) (record { registers = (q.domains k).registers; finals = (q.domains k).finals; queue = (q.domains k).queue }) q.domains;
            nodes = λ m o at. ⊎_elim (λ fresh. subst (λ (y : Node). HaveNodes q.known (names_of y)) (sym fresh) names) (λ old. q.nodes m o old) (node_at-append_cases s.graph (born s k, n) m o at);
          }) k dst (Block (born s k)) new

      go : (b : Bool) → eqb k d ≡ b → IsPrivate (allocated s k dst n).state d l
      go true same = build p named (λ other. absurd (other (eqb-true k d same)))
      go false other =
          let away : born s k ≢ l = λ is. let domain : k ≡ d = ap (λ (y : Label). y.domain) is ∙ p.mine in let clash : true ≡ false = sym (eq-eqb k d domain) ∙ other in cc in
          build (private_more s p (born s k) away) (known_more p.known (born s k) (names_of n) named) (λ _. known_there p.known (born s k))

  private_after_command : (s : State) → IsPrivate s d l → (k : ℕ) → IsPrivate (after_command s k) d l
  private_after_command s p k = private_same s p k _ refl refl refl

  -- a command of any domain
  private_outcome : (s : State) (p : IsPrivate s d l) (k : ℕ) (c : Command) → ((r : ℕ) → is_item c r ≡ true → HaveNodes p.known (option_to_list (label_of (register s k r)))) → IsPrivate (outcome s k c).state d l
  private_outcome s p k c given = moved (λ t. IsPrivate t d l) p.known s k p.nodes (record {
    same = p;
    held = λ r v named. private_register s p k r v (λ other. named ((p.domains k).registers other));
    written = λ x n named. private_block s p x n named;
    made = λ dst n named. private_allocated s p k dst n named;
    registered = λ f named. private_final s p k f named;
    registered_last = λ f. private_same s p k _ refl refl refl;
  }) c given

  -- an entry that is not of domain d
  private_next : (s : State) (e : Entry) → is_entry_of d e ≡ false → IsPrivate s d l → IsPrivate (next s e) d l
  private_next s (CommandOf k c true) other p = private_after_command s p k
  private_next s (CommandOf k c false) other p =
      private_after_command (outcome s k c).state (private_outcome s p k c (λ r is. have_at p.known label_of (domain_at s k).registers r Nothing ((p.domains k).registers (λ same. not_same k d other (sym same))) (have_none p.known))) k
  private_next s (End k) other p = private_domain s p k _ (record {
    registers = λ _. have_replicate p.known label_of (length (domain_at s k).registers) Nothing refl;
    finals = have_none p.known;
    queue = (p.domains k).queue;
  })
  private_next s Cut other p = record {
    known = p.known;
    away = p.away;
    mine = p.mine;
    domains = mapped_index (NamesWithin p.known d) _ s.domains (λ i x names. record { registers = names.registers; finals = names.finals; queue = names.queue }) p.domains;
    nodes = p.nodes;
  }
  private_next s (Queue k places) other p = let old = p.domains k in private_domain s p k _ (record {
    registers = old.registers;
    finals = without_named p.known (λ f. f.label) places (domain_at s k).finals old.finals;
    queue = have_filter_map_append p.known pending_label (domain_at s k).queue _ old.queue
        (queued_finals_named p.known _ (places_named p.known (λ f. f.label) (reverse places) (domain_at s k).finals old.finals));
  })
  private_next s Seal other p = record {
    known = p.known;
    away = p.away;
    mine = p.mine;
    domains = mapped_index (NamesWithin p.known d) _ s.domains (λ i x names. record { registers = names.registers; finals = names.finals; queue = names.queue }) p.domains;
    nodes = p.nodes;
  }
  private_next s (Wipe x places) other p =
      let q = wipe (node_at s.graph x) refl in record { known = q.known; away = q.away; mine = q.mine; domains = q.domains; nodes = q.nodes }
    where
      wipe : (o : Option Node) → node_at s.graph x ≡ o → IsPrivate (with_wiped s x (wiped places o)) d l
      wipe None at = p
      wipe (Some (Plain tag fields)) at = private_block s p x (Plain tag fields) (p.nodes x (Plain tag fields) at)
      wipe (Some (Raw tag fields)) at = private_block s p x (Raw tag fields) (p.nodes x (Raw tag fields) at)
      wipe (Some (Ephe keys datum)) at =
          let named = have_left p.known (filter_map (λ k. k) keys) (option_to_list (label_of datum)) (p.nodes x (Ephe keys datum) at) in
          private_block s p x _ (have_append p.known (filter_map (λ k. k) (wiped_keys places keys)) [] (wiped_keys_named p.known places keys named) (have_none p.known))
  private_next s (LastOf k place) other p =
      let old = p.domains k in
      let q = private_domain s p k (with_last_queued (domain_at s k) place) (record {
        registers = old.registers;
        finals = old.finals;
        queue = have_filter_map_append p.known pending_label (domain_at s k).queue _ old.queue (queued_lasts_named p.known (at_places (place ∷ []) (domain_at s k).lasts));
      }) in
      record { known = q.known; away = q.away; mine = q.mine; domains = q.domains; nodes = q.nodes }
  private_next s Collected other p = record {
    known = p.known;
    away = p.away;
    mine = p.mine;
    domains = mapped_index (NamesWithin p.known d) _ s.domains (λ i x names. record { registers = names.registers; finals = names.finals; queue = names.queue }) p.domains;
    nodes = p.nodes;
  }
  private_next s Done other p = record { known = p.known; away = p.away; mine = p.mine; domains = p.domains; nodes = p.nodes }
  private_next s (Ran k) other p = run (domain_at s k).queue (p.domains k).queue
    where
      popped : (x : Pending) (rest : List Pending) → HaveNodes p.known (filter_map pending_label (x ∷ rest)) → IsPrivate (with_domain s k (without_first (domain_at s k) rest)) d l
      popped x rest named = private_domain s p k _ (record { registers = (p.domains k).registers; finals = (p.domains k).finals; queue = have_rest p.known (pending_label x) (filter_map pending_label rest) named })

      run : (queue : List Pending) → HaveNodes p.known (filter_map pending_label queue) → IsPrivate (after_run s k queue) d l
      run [] named = p
      run (Fin number x r ∷ rest) named = ran
        where
          old : NamesWithin p.known d k (domain_at s k)
          old = p.domains k

          ran : IsPrivate (after_run s k (Fin number x r ∷ rest)) d l
          ran = private_register _ (record {
            known = p.known;
            away = p.away;
            mine = p.mine;
            domains = each_index (NamesWithin p.known d) s.domains k (without_first (domain_at s k) rest)
                (record { registers = (p.domains k).registers; finals = (p.domains k).finals; queue = have_rest p.known (Some x) (filter_map pending_label rest) named }) p.domains;
            nodes = p.nodes;
          }) k r (Block x) (λ _. have_option p.known (Some x) (filter_map pending_label rest) named)
      run (Last number ∷ rest) named = popped (Last number) rest named

  -- what an own command may write into a block, or register
  pub private_own : (s : State) → IsPrivate s d l → (c : Command) (full : Bool) (item : ℕ) → ((r : ℕ) → is_item c r ≡ true → r ≡ item) → register s d item ≢ Block l → IsPrivate (next s (CommandOf d c full)) d l
  private_own s p c true item only other = private_after_command s p d
  private_own s p c false item only other = go (register s d item) refl
    where
      by : (q : IsPrivate s d l) → HaveNodes q.known (option_to_list (label_of (register s d item))) → IsPrivate (after_command (outcome s d c).state d) d l
      by q named = private_after_command (outcome s d c).state
          (private_outcome s q d c (λ r is. subst (λ (x : ℕ). HaveNodes q.known (option_to_list (label_of (register s d x)))) (sym (only r is)) named)) d

      go : (v : Value) → register s d item ≡ v → IsPrivate (after_command (outcome s d c).state d) d l
      go (Int z) is = by p (subst (λ (v : Value). HaveNodes p.known (option_to_list (label_of v))) (sym is) (have_none p.known))
      go Nothing is = by p (subst (λ (v : Value). HaveNodes p.known (option_to_list (label_of v))) (sym is) (have_none p.known))
      go (Block y) is = with_y (λ same. other (is ∙ ap Block same))
        where
          with_y : y ≢ l → IsPrivate (after_command (outcome s d c).state d) d l
          with_y differ = by (record {
            known = p.known ++ (y, Plain 0 []) ∷ [];
            away = still_away p.known y l p.away differ;
            mine = p.mine;
            domains = λ i. within_more p.known y d i (domain_at s i) (p.domains i);
            nodes = λ m n at. known_more p.known y (names_of n) (p.nodes m n at);
          }) (subst (λ (v : Value). HaveNodes (p.known ++ (y, Plain 0 []) ∷ []) (option_to_list (label_of v))) (sym is) (known_there p.known y))

  -- such a block stands in no map
  private_apart : (s : State) (p : IsPrivate s d l) (is : List ℕ) (v : Value) → v ≢ Block l → at (inside s.graph) is v ≡ Some (Block l) → ⊥
  private_apart s p [] v other there = other cc
  private_apart s p (i ∷ is) v other there = go (inside s.graph v) refl (λ x o t. private_apart s p is x o t)
    where
      go : (o : Option (List Value)) → inside s.graph v ≡ o → ((x : Value) → x ≢ Block l → at (inside s.graph) is x ≡ Some (Block l) → ⊥) → ⊥
      go None e rec = let clash : None ≡ Some (Block l) = sym (at_stop (inside s.graph) i is v e) ∙ there in cc
      go (Some fields) e rec = rec (get_or fields i Nothing) (λ is_l. let named = field_known v fields e i is_l in let clash : true ≡ false = sym named ∙ p.away in cc) (sym (at_step (inside s.graph) i is v fields e) ∙ there)
        where
          field_known : (v : Value) (fields : List Value) → inside s.graph v ≡ Some fields → (i : ℕ) → get_or fields i Nothing ≡ Block l → IsTrue (has_label (labels p.known) l)
          field_known (Int z) fields e i is_l = cc
          field_known Nothing fields e i is_l = cc
          field_known (Block b) fields e i is_l = let t = plain_is s.graph b fields e in p.nodes b (Plain t.0 fields) t.1 l (field_named fields i l is_l)

  -- what others leave of it: it is as it was, or an ephemeron that has lost a key that was outside reach
  private_thin : (s : State) (p : IsPrivate s d l) (e : Entry) (n : Node) → is_entry_of d e ≡ false → Allowed s e → node_at s.graph l ≡ Some n → Thin (IsOutside s) n (node_at (next s e).graph l)
  private_thin s p (CommandOf k c full) n other allowed at =
      thin_is (IsOutside s) n (node_at (next s (CommandOf k c full)).graph l) (nodes_stay_law s (CommandOf k c full) l n (λ is. unheld c is) at)
    where
      -- no register of another domain holds it
      holds_not : (r : ℕ) → label_in s k r ≡ Some l → ⊥
      holds_not r is =
          let regs = (p.domains k).registers (λ same. not_same k d other (sym same)) in
          let named = have_at p.known label_of (domain_at s k).registers r Nothing regs (have_none p.known) in
          let there : IsTrue (has_label (labels p.known) l) = named l (subst (λ (o : Option Label). IsTrue (has_label (option_to_list o) l)) (sym is) (or_left (same_label l l) false (same_label_refl l))) in
          let clash : true ≡ false = sym there ∙ p.away in cc

      unheld : (c : Command) → written_by s k c ≡ Some l → ⊥
      unheld (Store block index item) is = holds_not block is
      unheld (Cas block index expected item) is = holds_not block is
      unheld (SetKey ephe index item) is = holds_not ephe is
      unheld (UnsetKey ephe index) is = holds_not ephe is
      unheld (SetData ephe item) is = holds_not ephe is
      unheld (UnsetData ephe) is = holds_not ephe is
      unheld (PutInt dst value) is = cc
      unheld (Copy dst src) is = cc
      unheld (Forget dst) is = cc
      unheld (Alloc dst tag fields) is = cc
      unheld (AllocMaj dst tag fields) is = cc
      unheld (Load dst src index) is = cc
      unheld (NewRaw dst tag fields) is = cc
      unheld (NewEphe dst keys) is = cc
      unheld (GetKey dst ephe index) is = cc
      unheld (CheckKey ephe index) is = cc
      unheld (GetData dst ephe) is = cc
      unheld (CheckData ephe) is = cc
      unheld (Finalise item number dst) is = cc
      unheld (FinaliseLast item number) is = cc
      unheld Poll is = cc
      unheld Minor is = cc
      unheld Major is = cc
      unheld FullMajor is = cc
      unheld (Spawn section item) is = cc
      unheld (Argument dst) is = cc
      unheld (PutResult item) is = cc
      unheld (Join dst section) is = cc
  private_thin s p (End k) n other allowed at = thin_is (IsOutside s) n (node_at (next s (End k)).graph l) at
  private_thin s p (Ran k) n other allowed at = thin_is (IsOutside s) n (node_at (next s (Ran k)).graph l) (nodes_stay_law s (Ran k) l n (λ is. cc) at)
  private_thin s p Cut n other allowed at = collector_spares s Cut refl allowed l n at
  private_thin s p (Queue k places) n other allowed at = collector_spares s (Queue k places) refl allowed l n at
  private_thin s p Seal n other allowed at = collector_spares s Seal refl allowed l n at
  private_thin s p (Wipe x keys) n other allowed at = collector_spares s (Wipe x keys) refl allowed l n at
  private_thin s p (LastOf k place) n other allowed at = collector_spares s (LastOf k place) refl allowed l n at
  private_thin s p Collected n other allowed at = collector_spares s Collected refl allowed l n at
  private_thin s p Done n other allowed at = collector_spares s Done refl allowed l n at

-- the next label of a domain is private, before its block is made
pub private_born : (z : Sizes) (h : List Entry) → Legal z h → (d : ℕ) → IsPrivate (state_of z h) d (born (state_of z h) d)
private_born z h legal d =
    let s : State = state_of z h in
    let wf = wf_after (opening z) h (wf_opening z) in
    record {
      known = s.graph;
      away = next_label-new s (numbered_after (opening z) h legal (numbered_opening z)) d;
      mine = refl;
      domains = λ i. let named = wf.domains i in record { registers = λ other. named.registers; finals = named.finals; queue = named.queue };
      nodes = wf.nodes;
    }

-- over entries of others it stays private
pub private_between : (z : Sizes) (d : ℕ) (l : Label) (old between : List Entry) → NoneOf d between → IsPrivate (state_of z old) d l → IsPrivate (state_of z (old ++ between)) d l
private_between z d l old between none p = walk_along (λ h. IsPrivate (state_of z h) d l) old (old ++ between) (prefix_more old between)
    (λ f e a b q. subst (λ (s : State). IsPrivate s d l) (sym (state_push z f e)) (private_next d l (state_of z f) e (other_between d old between f e none a b) q)) p

-- and what is left of it
pub private_left : (z : Sizes) (d : ℕ) (l : Label) (old between : List Entry) (n : Node) → NoneOf d between → Legal z (old ++ between) → IsPrivate (state_of z old) d l → node_at (graph_of z old) l ≡ Some n
    → Thin (WasUnreached z old (old ++ between)) n (node_at (graph_of z (old ++ between)) l)
private_left z d l old between n none legal p at = both.1
  where
    P : List Entry → Type 0
    P h = IsPrivate (state_of z h) d l × Thin (WasUnreached z old h) n (node_at (graph_of z h) l)

    both : P (old ++ between)
    both = walk_along P old (old ++ between) (prefix_more old between)
        (λ f e a b q.
        let other = other_between d old between f e none a b in (
          subst (λ (s : State). IsPrivate s d l) (sym (state_push z f e)) (private_next d l (state_of z f) e other q.0),
          thin_twice (WasUnreached z old (f ++ e ∷ [])) n (node_at (graph_of z f) l) (node_at (graph_of z (f ++ e ∷ [])) l)
              (thin_more (WasUnreached z old f) (WasUnreached z old (f ++ e ∷ [])) (λ k w. outside_wider z old old f (f ++ e ∷ []) k (prefix_same old) (prefix_more f (e ∷ [])) w) n (node_at (graph_of z f) l) q.1)
              (λ m here. subst (λ (g : Graph). Thin (WasUnreached z old (f ++ e ∷ [])) m (node_at g l)) (sym (graph_push z f e))
              (thin_more (IsOutside (state_of z f)) (WasUnreached z old (f ++ e ∷ []))
              (λ k outside. record { front = f; since = a; until = prefix_more f (e ∷ []); outside = outside }) m (node_at (next (state_of z f) e).graph l)
              (private_thin d l (state_of z f) q.0 e m other (allowed_at z f (old ++ between) e legal b) here))),
        ))
        (p, thin_is (WasUnreached z old old) n (node_at (graph_of z old) l) at)

-- a private block that isn't the root doesn't stand in the map
pub private_outside : (z : Sizes) (d : ℕ) (l root : Label) (h : List Entry) → IsPrivate (state_of z h) d l → root ≢ l → (p : List ℕ) → at (inside (graph_of z h)) p (Block root) ≡ Some (Block l) → ⊥
private_outside z d l root h private other p there = private_apart d l (state_of z h) private p (Block root) (λ same. other (let is : root ≡ l = cc in is)) there

pub private_stays : PrivateStays
private_stays z d l old between n none legal p at = (private_between z d l old between none p, private_left z d l old between n none legal p at)

pub private_stands_nowhere : PrivateStandsNowhere
private_stands_nowhere z d l root h private other p there = private_outside z d l root h private other p there
