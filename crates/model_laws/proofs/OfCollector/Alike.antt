-- States that are alike but for what ephemerons hold, and what commands answer and leave in both.
use Rattle.std.proofs.Common.{◌≡◌, ℕ, zero, suc, ◌+◌, Bool, true, false, cond, List, [], ◌∷◌, ◌++◌, length, get_or, set, replicate, slice_get, option_map, option_and_then, Option, Some, None, refl, ap, sym, ◌∙◌, subst, length-set}
use Rattle.std.specs.Prelude.{is_some}
use Rattle.std.proofs.lemmas.List.{length-map}
use Rattle.model_core.specs.declared.label.Label.{Label}
use Rattle.model_core.specs.declared.command.Command as declared_command
use Rattle.model_core.specs.declared.command.Command.TheVariants.{PutInt, Copy, Forget, Alloc, AllocMaj, Load, Store, Raw as NewRaw, Cas, Ephe as NewEphe, SetKey, UnsetKey, GetKey, CheckKey, SetData, UnsetData, GetData, CheckData, Finalise, FinaliseLast, Poll, Minor, Major, FullMajor, Spawn, Argument, PutResult, Join}
use Rattle.model_core.specs.declared.entry.Entry.{Entry}
use Rattle.model_core.specs.declared.entry.Entry.TheVariants.{Command as CommandOf, End, Cut, Queue, Seal, Wipe, Last as LastOf, Collected, Done, Ran}
use Rattle.model_core.specs.declared.reply.Reply.{Reply}
use Rattle.model_core.specs.declared.reply.Reply.TheVariants.{BadType, BadIndex}
use Rattle.model_core.specs.declared.reply.Applied.TheVariants.{Replied}
use Rattle.model_core.specs.declared.graph.Value.{Value}
use Rattle.model_core.specs.declared.graph.Value.TheVariants.{Int, Block, Nothing}
use Rattle.model_core.specs.declared.graph.Node.{Node}
use Rattle.model_core.specs.declared.graph.Node.TheVariants.{Plain, Raw, Ephe}
use Rattle.model_core.specs.declared.state.DomainState.{DomainState}
use Rattle.model_core.specs.declared.state.State.{State}
use Rattle.model_core.specs.Graph.{Graph, same_label, label_of, node_at, with_node, block_at}
use Rattle.model_core.specs.Domains.{no_domain, domain_at, with_domain, register, with_register, label_in, with_block}
use Rattle.model_core.specs.Commands.{Outcome, after_command, allocated, at_ephe, at_field, block_in, datum_set, datum_stored, done_with, exchanged, finalised, finalised_last, in_bounds, is_full_value, key_set, key_stored, key_value, loaded, new_plain, new_raw, only_replies, outcome, read_into, same_value, shown, stored, tells, written_where}
use Rattle.model_core.specs.Entries.{next, reply, wiped, wiped_keys, with_wiped}
use Rattle.model_core.specs.History.{is_entry_of}
use Rattle.model_core.proofs.Commands.FrameLemmas.{keeps_next}
use Rattle.model_laws.specs.Collector.Blindness.{is_made, takes_out, only_looks}

-- two blocks are one, or ephemerons with as many keys
abbrev pub AlikeNode : Node → Node → Type 0
AlikeNode (Ephe keys datum) m = (others : List (Option Label)) × (other : Value) × (m ≡ Ephe others other) × (length others ≡ length keys)
AlikeNode (Plain tag fields) m = m ≡ Plain tag fields
AlikeNode (Raw tag fields) m = m ≡ Raw tag fields

alike_same : (n : Node) → AlikeNode n n
alike_same (Ephe keys datum) = (keys, datum, refl, refl)
alike_same (Plain tag fields) = refl
alike_same (Raw tag fields) = refl

-- the same labels in the same order, with such blocks
abbrev pub AlikeGraphs : Graph → Graph → Type 0
AlikeGraphs [] k = k ≡ []
AlikeGraphs (e ∷ g) k = (m : Node) × (rest : Graph) × (k ≡ (e.0, m) ∷ rest) × AlikeNode e.1 m × AlikeGraphs g rest

graphs_same : (g : Graph) → AlikeGraphs g g
graphs_same [] = refl
graphs_same (e ∷ g) = (e.1, g, refl, alike_same e.1, graphs_same g)

abbrev AlikeFound : Option Node → Option Node → Type 0
AlikeFound None o = o ≡ None
AlikeFound (Some n) o = (m : Node) × (o ≡ Some m) × AlikeNode n m

found_alike : (g k : Graph) → AlikeGraphs g k → (l : Label) → AlikeFound (node_at g l) (node_at k l)
found_alike [] k alike l = ap (λ (f : Graph). node_at f l) alike
found_alike (e ∷ g) k (m, rest, are, node, more) l = subst (λ (f : Graph). AlikeFound (node_at (e ∷ g) l) (node_at f l)) (sym are) (go (same_label e.0 l) (found_alike g rest more l))
  where
    go : (b : Bool) → AlikeFound (node_at g l) (node_at rest l) → AlikeFound (cond b (Some e.1) (node_at g l)) (cond b (Some m) (node_at rest l))
    go true later = (m, refl, node)
    go false later = later

written_alike : (g k : Graph) → AlikeGraphs g k → (l : Label) (n m : Node) → AlikeNode n m → AlikeGraphs (with_node g l n) (with_node k l m)
written_alike [] k alike l n m node = ap (λ (f : Graph). with_node f l m) alike
written_alike (e ∷ g) k (o, rest, are, old, more) l n m node = subst (λ (f : Graph). AlikeGraphs (with_node (e ∷ g) l n) (with_node f l m)) (sym are) (go (same_label e.0 l) (written_alike g rest more l n m node))
  where
    go : (b : Bool) → AlikeGraphs (with_node g l n) (with_node rest l m) → AlikeGraphs (cond b ((e.0, n) ∷ g) (e ∷ with_node g l n)) (cond b ((e.0, m) ∷ rest) ((e.0, o) ∷ with_node rest l m))
    go true later = (m, rest, refl, node, more)
    go false later = (o, with_node rest l m, refl, old, later)

appended_alike : (g k : Graph) → AlikeGraphs g k → (l : Label) (n : Node) → AlikeGraphs (g ++ (l, n) ∷ []) (k ++ (l, n) ∷ [])
appended_alike [] k alike l n = subst (λ (f : Graph). AlikeGraphs ((l, n) ∷ []) (f ++ (l, n) ∷ [])) (sym alike) (n, [], refl, alike_same n, refl)
appended_alike (e ∷ g) k (m, rest, are, node, more) l n = (m, rest ++ (l, n) ∷ [], ap (λ (f : Graph). f ++ (l, n) ∷ []) are, node, appended_alike g rest more l n)

-- Two states with the same registers and serials of each domain, and such blocks
pub record IsAlike (s t : State) : Type 0 where
  pub count : length t.domains ≡ length s.domains
  pub registers : (d : ℕ) → (domain_at t d).registers ≡ (domain_at s d).registers
  pub serials : (d : ℕ) → (domain_at t d).serial ≡ (domain_at s d).serial
  pub blocks : AlikeGraphs s.graph t.graph

pub alike_itself : (s : State) → IsAlike s s
alike_itself s = record { count = refl; registers = λ d. refl; serials = λ d. refl; blocks = graphs_same s.graph }

set_alike : {A : Type 0} (f : DomainState → A) (xs ys : List DomainState) (d : ℕ) (x y : DomainState) → length ys ≡ length xs → f y ≡ f x → ((k : ℕ) → f (get_or ys k no_domain) ≡ f (get_or xs k no_domain))
    → (k : ℕ) → f (get_or (set ys d y) k no_domain) ≡ f (get_or (set xs d x) k no_domain)
set_alike f [] [] d x y same new old k = old k
set_alike f [] (b ∷ ys) d x y same new old k = cc
set_alike f (a ∷ xs) [] d x y same new old k = cc
set_alike f (a ∷ xs) (b ∷ ys) zero x y same new old zero = new
set_alike f (a ∷ xs) (b ∷ ys) zero x y same new old (suc k) = old (suc k)
set_alike f (a ∷ xs) (b ∷ ys) (suc d) x y same new old zero = old zero
set_alike f (a ∷ xs) (b ∷ ys) (suc d) x y same new old (suc k) = let rest : length ys ≡ length xs = cc in set_alike f xs ys d x y rest new (λ j. old (suc j)) k

-- what two outcomes have in common
pub record AreAlike (o p : Outcome) : Type 0 where
  pub replies : p.reply ≡ o.reply
  pub states : IsAlike o.state p.state

module _ (s t : State) (r : IsAlike s t) where
  with_domain_alike : (d : ℕ) (x y : DomainState) → y.registers ≡ x.registers → y.serial ≡ x.serial → IsAlike (with_domain s d x) (with_domain t d y)
  with_domain_alike d x y registers serial = record {
    count = length-set t.domains d y ∙ (r.count ∙ sym (length-set s.domains d x));
    registers = set_alike (λ a. a.registers) s.domains t.domains d x y r.count registers r.registers;
    serials = set_alike (λ a. a.serial) s.domains t.domains d x y r.count serial r.serials;
    blocks = r.blocks;
  }

  with_register_alike : (d dst : ℕ) (v : Value) → IsAlike (with_register s d dst v) (with_register t d dst v)
  with_register_alike d dst v = with_domain_alike d _ _ (ap (λ (rs : List Value). set rs dst v) (r.registers d)) (r.serials d)

  with_block_alike : (l : Label) (n m : Node) → AlikeNode n m → IsAlike (with_block s l n) (with_block t l m)
  with_block_alike l n m node = record { count = r.count; registers = r.registers; serials = r.serials; blocks = written_alike s.graph t.graph r.blocks l n m node }

  held_same : (d i : ℕ) → register t d i ≡ register s d i
  held_same d i = ap (λ (rs : List Value). get_or rs i Nothing) (r.registers d)

  abbrev AlikeBlock : Option (Label × Node) → Option (Label × Node) → Type 0
  AlikeBlock None c = c ≡ None
  AlikeBlock (Some (l, n)) c = (m : Node) × (c ≡ Some (l, m)) × AlikeNode n m

  block_alike : (d i : ℕ) → AlikeBlock (block_in s d i) (block_in t d i)
  block_alike d i = subst (λ (o : Option Label). AlikeBlock (block_in s d i) (option_and_then (block_at t.graph) o)) (sym (ap label_of (held_same d i))) (by_label (label_in s d i))
    where
      by_node : (l : Label) (o p : Option Node) → AlikeFound o p → AlikeBlock (option_map (λ n. (l, n)) o) (option_map (λ n. (l, n)) p)
      by_node l None p found = ap (option_map (λ n. (l, n))) found
      by_node l (Some n) p (m, is, node) = (m, ap (option_map (λ n. (l, n))) is, node)

      by_label : (o : Option Label) → AlikeBlock (option_and_then (block_at s.graph) o) (option_and_then (block_at t.graph) o)
      by_label None = refl
      by_label (Some l) = by_node l (node_at s.graph l) (node_at t.graph l) (found_alike s.graph t.graph r.blocks l)

  only_alike : (x : Reply) → AreAlike (only_replies s x) (only_replies t x)
  only_alike x = record { replies = refl; states = r }

  reads_alike : (d dst : ℕ) (v : Value) → AreAlike (read_into s d dst v) (read_into t d dst v)
  reads_alike d dst v = record { replies = refl; states = with_register_alike d dst v }

  done_alike : (a b : State) → IsAlike a b → AreAlike (done_with a) (done_with b)
  done_alike a b alike = record { replies = refl; states = alike }

  bounds_alike : {A : Type 0} (o : Option A) (f g : A → Outcome) → ((a : A) → AreAlike (f a) (g a)) → AreAlike (in_bounds s o f) (in_bounds t o g)
  bounds_alike None f g each = only_alike _
  bounds_alike (Some a) f g each = each a

  -- two lists of as many keys
  keys_alike : (xs ys : List (Option Label)) (i : ℕ) (P : Outcome → Outcome → Type 0) (f g : Option Label → Outcome) → length ys ≡ length xs → P (only_replies s BadIndex) (only_replies t BadIndex) → ((a b : Option Label) → P (f a) (g b)) → P (in_bounds s (slice_get xs i) f) (in_bounds t (slice_get ys i) g)
  keys_alike [] [] i P f g same none each = none
  keys_alike [] (y ∷ ys) i P f g same none each = cc
  keys_alike (x ∷ xs) [] i P f g same none each = cc
  keys_alike (x ∷ xs) (y ∷ ys) zero P f g same none each = each x y
  keys_alike (x ∷ xs) (y ∷ ys) (suc i) P f g same none each = let rest : length ys ≡ length xs = cc in keys_alike xs ys i P f g rest none each

  allocated_alike : (d dst : ℕ) (n : Node) → AreAlike (allocated s d dst n) (allocated t d dst n)
  allocated_alike d dst n =
      let serial : (domain_at t d).serial + 1 ≡ (domain_at s d).serial + 1 = ap (λ (i : ℕ). i + 1) (r.serials d) in
      let made = with_domain_alike d (record (domain_at s d) { serial = (domain_at s d).serial + 1 }) (record (domain_at t d) { serial = (domain_at t d).serial + 1 }) (r.registers d) serial in
      let label : Label = record { domain = d; serial = (domain_at s d).serial + 1 } in
      let other : Label = record { domain = d; serial = (domain_at t d).serial + 1 } in
      let same : other ≡ label = λ i. record { domain = d; serial = serial i } in
      let x : State = record (with_domain s d (record (domain_at s d) { serial = (domain_at s d).serial + 1 })) { graph = s.graph ++ (label, n) ∷ []; kept = s.kept + 1 } in
      let y : State = record (with_domain t d (record (domain_at t d) { serial = (domain_at t d).serial + 1 })) { graph = t.graph ++ (other, n) ∷ []; kept = t.kept + 1 } in
      let grown : IsAlike x y = record {
        count = made.count;
        registers = made.registers;
        serials = made.serials;
        blocks = subst (λ (l : Label). AlikeGraphs (s.graph ++ (label, n) ∷ []) (t.graph ++ (l, n) ∷ [])) (sym same) (appended_alike s.graph t.graph r.blocks label n);
      } in
      finish x y grown label other same
    where
      finish : (x y : State) → IsAlike x y → (l m : Label) → m ≡ l → AreAlike (record { reply = shown (Block l); state = with_register x d dst (Block l) }) (record { reply = shown (Block m); state = with_register y d dst (Block m) })
      finish x y grown l m same = record {
        replies = ap (λ (k : Label). shown (Block k)) same;
        states = subst (λ (k : Label). IsAlike (with_register x d dst (Block l)) (with_register y d dst (Block k))) (sym same) (record {
          count = length-set y.domains d _ ∙ (grown.count ∙ sym (length-set x.domains d _));
          registers = set_alike (λ a. a.registers) x.domains y.domains d _ _ grown.count (ap (λ (rs : List Value). set rs dst (Block l)) (grown.registers d)) grown.registers;
          serials = set_alike (λ a. a.serial) x.domains y.domains d _ _ grown.count (grown.serials d) grown.serials;
          blocks = grown.blocks;
        });
      }

  loaded_alike : (d dst i : ℕ) (b c : Option (Label × Node)) → AlikeBlock b c → AreAlike (loaded s d dst i b) (loaded t d dst i c)
  loaded_alike d dst i None c is = subst (λ (o : Option (Label × Node)). AreAlike (loaded s d dst i None) (loaded t d dst i o)) (sym is) (only_alike _)
  loaded_alike d dst i (Some (l, Plain tag fields)) c (m, is, node) = subst (λ (o : Option (Label × Node)). AreAlike (loaded s d dst i (Some (l, Plain tag fields))) (loaded t d dst i o)) (sym (is ∙ ap (λ (n : Node). Some (l, n)) node))
      (bounds_alike (slice_get fields i) (read_into s d dst) (read_into t d dst) (reads_alike d dst))
  loaded_alike d dst i (Some (l, Raw tag fields)) c (m, is, node) = subst (λ (o : Option (Label × Node)). AreAlike (loaded s d dst i (Some (l, Raw tag fields))) (loaded t d dst i o)) (sym (is ∙ ap (λ (n : Node). Some (l, n)) node))
      (bounds_alike (slice_get fields i) (read_into s d dst) (read_into t d dst) (reads_alike d dst))
  loaded_alike d dst i (Some (l, Ephe keys datum)) c (m, is, (others, other, node, same)) = subst (λ (o : Option (Label × Node)). AreAlike (loaded s d dst i (Some (l, Ephe keys datum))) (loaded t d dst i o)) (sym (is ∙ ap (λ (n : Node). Some (l, n)) node)) (only_alike _)

  -- what a command does with a field
  fields_alike : (i : ℕ) (l : Label) (n : Node) (v : Value) (f g : Label → Node → Value → Outcome) → ((l : Label) (n : Node) (held : Value) → AreAlike (f l n held) (g l n held)) → AreAlike (at_field s i (Some (l, n)) v f) (at_field t i (Some (l, n)) v g)
  fields_alike i l (Ephe keys datum) v f g each = only_alike _
  fields_alike i l (Plain tag fields) Nothing f g each = only_alike _
  fields_alike i l (Plain tag fields) (Int x) f g each = bounds_alike (slice_get fields i) _ _ (λ held. each l _ held)
  fields_alike i l (Plain tag fields) (Block x) f g each = bounds_alike (slice_get fields i) _ _ (λ held. each l _ held)
  fields_alike i l (Raw tag fields) (Int x) f g each = bounds_alike (slice_get fields i) _ _ (λ held. each l _ held)
  fields_alike i l (Raw tag fields) (Block x) f g each = only_alike _
  fields_alike i l (Raw tag fields) Nothing f g each = only_alike _

  at_field_alike : (i : ℕ) (b c : Option (Label × Node)) → AlikeBlock b c → (v : Value) (f g : Label → Node → Value → Outcome) → ((l : Label) (n : Node) (held : Value) → AreAlike (f l n held) (g l n held)) → AreAlike (at_field s i b v f) (at_field t i c v g)
  at_field_alike i None c is v f g each = subst (λ (o : Option (Label × Node)). AreAlike (at_field s i None v f) (at_field t i o v g)) (sym is) (only_alike _)
  at_field_alike i (Some (l, Plain tag fields)) c (m, is, node) v f g each =
      subst (λ (o : Option (Label × Node)). AreAlike (at_field s i (Some (l, Plain tag fields)) v f) (at_field t i o v g)) (sym (is ∙ ap (λ (n : Node). Some (l, n)) node)) (fields_alike i l (Plain tag fields) v f g each)
  at_field_alike i (Some (l, Raw tag fields)) c (m, is, node) v f g each =
      subst (λ (o : Option (Label × Node)). AreAlike (at_field s i (Some (l, Raw tag fields)) v f) (at_field t i o v g)) (sym (is ∙ ap (λ (n : Node). Some (l, n)) node)) (fields_alike i l (Raw tag fields) v f g each)
  at_field_alike i (Some (l, Ephe keys datum)) c (m, is, (others, other, node, same)) v f g each =
      subst (λ (o : Option (Label × Node)). AreAlike (at_field s i (Some (l, Ephe keys datum)) v f) (at_field t i o v g)) (sym (is ∙ ap (λ (n : Node). Some (l, n)) node)) (only_alike _)

  where_alike : (l : Label) (n : Node) (b : Bool) → AreAlike (written_where s l n b) (written_where t l n b)
  where_alike l n true = record { replies = refl; states = with_block_alike l n n (alike_same n) }
  where_alike l n false = only_alike _

  exchanged_alike : (i : ℕ) (b c : Option (Label × Node)) → AlikeBlock b c → (expected v : Value) → AreAlike (exchanged s i b expected v) (exchanged t i c expected v)
  exchanged_alike i b c is Nothing v = only_alike _
  exchanged_alike i b c is (Int x) v = at_field_alike i b c is v _ _ (λ l n held. where_alike l n (same_value held (Int x)))
  exchanged_alike i b c is (Block x) v = at_field_alike i b c is v _ _ (λ l n held. where_alike l n (same_value held (Block x)))

  -- what a command does with an ephemeron
  at_ephe_alike : (P : Outcome → Outcome → Type 0) (b c : Option (Label × Node)) → AlikeBlock b c → (f g : Label → List (Option Label) → Value → Outcome) → P (only_replies s BadType) (only_replies t BadType)
      → ((l : Label) (keys others : List (Option Label)) (datum other : Value) → length others ≡ length keys → P (f l keys datum) (g l others other)) → P (at_ephe s b f) (at_ephe t c g)
  at_ephe_alike P None c is f g none each = subst (λ (o : Option (Label × Node)). P (at_ephe s None f) (at_ephe t o g)) (sym is) none
  at_ephe_alike P (Some (l, Plain tag fields)) c (m, is, node) f g none each = subst (λ (o : Option (Label × Node)). P (at_ephe s (Some (l, Plain tag fields)) f) (at_ephe t o g)) (sym (is ∙ ap (λ (n : Node). Some (l, n)) node)) none
  at_ephe_alike P (Some (l, Raw tag fields)) c (m, is, node) f g none each = subst (λ (o : Option (Label × Node)). P (at_ephe s (Some (l, Raw tag fields)) f) (at_ephe t o g)) (sym (is ∙ ap (λ (n : Node). Some (l, n)) node)) none
  at_ephe_alike P (Some (l, Ephe keys datum)) c (m, is, (others, other, node, same)) f g none each =
      subst (λ (o : Option (Label × Node)). P (at_ephe s (Some (l, Ephe keys datum)) f) (at_ephe t o g)) (sym (is ∙ ap (λ (n : Node). Some (l, n)) node)) (each l keys others datum other same)

  key_set_alike : (i : ℕ) (key : Option Label) (l : Label) (keys others : List (Option Label)) (datum other : Value) → length others ≡ length keys → AreAlike (key_set s i key l keys datum) (key_set t i key l others other)
  key_set_alike i key l keys others datum other same = keys_alike keys others i AreAlike _ _ same (only_alike _) (λ a b. done_alike _ _ (with_block_alike l _ _
      (set others i key, other, refl, length-set others i key ∙ (same ∙ sym (length-set keys i key)))))

  key_stored_alike : (i : ℕ) (key : Option Label) (b c : Option (Label × Node)) → AlikeBlock b c → AreAlike (key_stored s i key b) (key_stored t i key c)
  key_stored_alike i None b c is = only_alike _
  key_stored_alike i (Some k) b c is = at_ephe_alike AreAlike b c is _ _ (only_alike _) (key_set_alike i (Some k))

  datum_alike : (v : Value) (l : Label) (keys others : List (Option Label)) (datum other : Value) → length others ≡ length keys → AreAlike (datum_set s v l keys datum) (datum_set t v l others other)
  datum_alike v l keys others datum other same = done_alike _ _ (with_block_alike l _ _ (others, v, refl, same))

  datum_stored_alike : (b c : Option (Label × Node)) → AlikeBlock b c → (v : Value) → AreAlike (datum_stored s b v) (datum_stored t c v)
  datum_stored_alike b c is Nothing = only_alike _
  datum_stored_alike b c is (Int x) = at_ephe_alike AreAlike b c is _ _ (only_alike _) (datum_alike (Int x))
  datum_stored_alike b c is (Block x) = at_ephe_alike AreAlike b c is _ _ (only_alike _) (datum_alike (Block x))

  finalised_alike : (d number dst : ℕ) (o : Option Label) → AreAlike (finalised s d number dst o) (finalised t d number dst o)
  finalised_alike d number dst None = only_alike _
  finalised_alike d number dst (Some l) = done_alike _ _ (with_domain_alike d _ _ (r.registers d) (r.serials d))

  finalised_last_alike : (d number : ℕ) (o : Option Label) → AreAlike (finalised_last s d number o) (finalised_last t d number o)
  finalised_last_alike d number None = only_alike _
  finalised_last_alike d number (Some l) = done_alike _ _ (with_domain_alike d _ _ (r.registers d) (r.serials d))

  tells_alike : (a b : Bool) → IsAlike (tells s a).state (tells t b).state
  tells_alike true true = r
  tells_alike true false = r
  tells_alike false true = r
  tells_alike false false = r

  -- what is taken out, where the replies are the same
  taken_alike : (d dst : ℕ) (v w : Value) → shown w ≡ shown v → AreAlike (read_into s d dst v) (read_into t d dst w)
  taken_alike d dst v w same = record { replies = same; states = subst (λ (x : Value). IsAlike (with_register s d dst v) (with_register t d dst x)) (one v w same) (with_register_alike d dst v) }
    where
      one : (v w : Value) → shown w ≡ shown v → v ≡ w
      one (Int a) (Int b) e = cc
      one (Block a) (Block b) e = cc
      one Nothing Nothing e = refl
      one (Int a) (Block b) e = cc
      one (Int a) Nothing e = cc
      one (Block a) (Int b) e = cc
      one (Block a) Nothing e = cc
      one Nothing (Int b) e = cc
      one Nothing (Block b) e = cc

  abbrev IfSame : Outcome → Outcome → Type 0
  IfSame o p = p.reply ≡ o.reply → AreAlike o p

  abbrev StatesAlike : Outcome → Outcome → Type 0
  StatesAlike o p = IsAlike o.state p.state

  -- a command that neither takes out nor looks
  outcome_alike : (d : ℕ) (c : declared_command.Command) → takes_out c ≡ false → only_looks c ≡ false → AreAlike (outcome s d c) (outcome t d c)
  outcome_alike d (PutInt dst value) takes looks = done_alike _ _ (with_register_alike d dst (Int value))
  outcome_alike d (Copy dst src) takes looks = done_alike _ _ (subst (λ (v : Value). IsAlike (with_register s d dst (register s d src)) (with_register t d dst v)) (sym (held_same d src)) (with_register_alike d dst (register s d src)))
  outcome_alike d (Forget dst) takes looks = done_alike _ _ (with_register_alike d dst Nothing)
  outcome_alike d (Alloc dst tag fields) takes looks = allocated_alike d dst (new_plain tag fields)
  outcome_alike d (AllocMaj dst tag fields) takes looks = allocated_alike d dst (new_plain tag fields)
  outcome_alike d (Load dst src index) takes looks = loaded_alike d dst index (block_in s d src) (block_in t d src) (block_alike d src)
  outcome_alike d (Store block index item) takes looks =
      subst (λ (v : Value). AreAlike (stored s index (block_in s d block) (register s d item)) (stored t index (block_in t d block) v)) (sym (held_same d item))
      (at_field_alike index (block_in s d block) (block_in t d block) (block_alike d block) (register s d item) _ _ (λ l n held. done_alike _ _ (with_block_alike l n n (alike_same n))))
  outcome_alike d (NewRaw dst tag fields) takes looks = allocated_alike d dst (new_raw tag fields)
  outcome_alike d (Cas block index expected item) takes looks =
      subst (λ (v : Value). AreAlike (exchanged s index (block_in s d block) (register s d expected) (register s d item)) (exchanged t index (block_in t d block) (register t d expected) v)) (sym (held_same d item))
      (subst (λ (v : Value). AreAlike (exchanged s index (block_in s d block) (register s d expected) (register s d item)) (exchanged t index (block_in t d block) v (register s d item))) (sym (held_same d expected))
      (exchanged_alike index (block_in s d block) (block_in t d block) (block_alike d block) (register s d expected) (register s d item)))
  outcome_alike d (NewEphe dst keys) takes looks = allocated_alike d dst (Ephe (replicate keys None) Nothing)
  outcome_alike d (SetKey ephe index item) takes looks =
      subst (λ (o : Option Label). AreAlike (key_stored s index (label_in s d item) (block_in s d ephe)) (key_stored t index o (block_in t d ephe))) (sym (ap label_of (held_same d item)))
      (key_stored_alike index (label_in s d item) (block_in s d ephe) (block_in t d ephe) (block_alike d ephe))
  outcome_alike d (UnsetKey ephe index) takes looks = at_ephe_alike AreAlike (block_in s d ephe) (block_in t d ephe) (block_alike d ephe) _ _ (only_alike _) (key_set_alike index None)
  outcome_alike d (GetKey dst ephe index) takes looks = absurd (let clash : true ≡ false = takes in cc)
  outcome_alike d (CheckKey ephe index) takes looks = absurd (let clash : true ≡ false = looks in cc)
  outcome_alike d (SetData ephe item) takes looks =
      subst (λ (v : Value). AreAlike (datum_stored s (block_in s d ephe) (register s d item)) (datum_stored t (block_in t d ephe) v)) (sym (held_same d item))
      (datum_stored_alike (block_in s d ephe) (block_in t d ephe) (block_alike d ephe) (register s d item))
  outcome_alike d (UnsetData ephe) takes looks = at_ephe_alike AreAlike (block_in s d ephe) (block_in t d ephe) (block_alike d ephe) _ _ (only_alike _) (datum_alike Nothing)
  outcome_alike d (GetData dst ephe) takes looks = absurd (let clash : true ≡ false = takes in cc)
  outcome_alike d (CheckData ephe) takes looks = absurd (let clash : true ≡ false = looks in cc)
  outcome_alike d (Finalise item number dst) takes looks =
      subst (λ (o : Option Label). AreAlike (finalised s d number dst (label_in s d item)) (finalised t d number dst o)) (sym (ap label_of (held_same d item))) (finalised_alike d number dst (label_in s d item))
  outcome_alike d (FinaliseLast item number) takes looks =
      subst (λ (o : Option Label). AreAlike (finalised_last s d number (label_in s d item)) (finalised_last t d number o)) (sym (ap label_of (held_same d item))) (finalised_last_alike d number (label_in s d item))
  outcome_alike d Poll takes looks = only_alike _
  outcome_alike d Minor takes looks = only_alike _
  outcome_alike d Major takes looks = only_alike _
  outcome_alike d FullMajor takes looks = absurd (let clash : true ≡ false = looks in cc)
  outcome_alike d (Spawn section item) takes looks = only_alike _
  outcome_alike d (Argument dst) takes looks = only_alike _
  outcome_alike d (PutResult item) takes looks = only_alike _
  outcome_alike d (Join dst section) takes looks = only_alike _

  -- one that takes out, where both do so alike
  taking_alike : (d : ℕ) (c : declared_command.Command) → takes_out c ≡ true → IfSame (outcome s d c) (outcome t d c)
  taking_alike d (GetKey dst ephe index) takes = at_ephe_alike IfSame (block_in s d ephe) (block_in t d ephe) (block_alike d ephe) _ _ (λ same. only_alike _)
      (λ l keys others datum other same. keys_alike keys others index IfSame _ _ same (λ e. only_alike _) (λ a b e. taken_alike d dst (key_value a) (key_value b) e))
  taking_alike d (GetData dst ephe) takes = at_ephe_alike IfSame (block_in s d ephe) (block_in t d ephe) (block_alike d ephe) _ _ (λ same. only_alike _) (λ l keys others datum other same e. taken_alike d dst datum other e)
  taking_alike d c takes = absurd (let clash : false ≡ true = takes in cc)

  -- one that looks
  looking_alike : (d : ℕ) (c : declared_command.Command) → only_looks c ≡ true → StatesAlike (outcome s d c) (outcome t d c)
  looking_alike d (CheckKey ephe index) looks = at_ephe_alike StatesAlike (block_in s d ephe) (block_in t d ephe) (block_alike d ephe) _ _ r
      (λ l keys others datum other same. keys_alike keys others index StatesAlike _ _ same r (λ a b. tells_alike (is_some a) (is_some b)))
  looking_alike d (CheckData ephe) looks = at_ephe_alike StatesAlike (block_in s d ephe) (block_in t d ephe) (block_alike d ephe) _ _ r (λ l keys others datum other same. tells_alike (is_full_value datum) (is_full_value other))
  looking_alike d FullMajor looks = r
  looking_alike d c looks = absurd (let clash : false ≡ true = looks in cc)

-- the helpers of a command
after_alike : (s t : State) → IsAlike s t → (d : ℕ) → IsAlike (after_command s d) (after_command t d)
after_alike s t r d = with_domain_alike s t r d _ _ (r.registers d) (r.serials d)

pub ended_alike : (s t : State) → IsAlike s t → (d : ℕ) → IsAlike (next s (End d)) (next t (End d))
ended_alike s t r d = with_domain_alike s t r d _ _ (ap (λ (rs : List Value). replicate (length rs) Nothing) (r.registers d)) (r.serials d)

-- what the entry of a command answers and leaves
pub record CommandAlike (s t : State) (d : ℕ) (c : declared_command.Command) (full : Bool) : Type 0 where
  pub replies : only_looks c ≡ false → reply t (CommandOf d c full) ≡ reply s (CommandOf d c full)
  pub states : IsAlike (next s (CommandOf d c full)) (next t (CommandOf d c full))

pub command_alike : (s t : State) → IsAlike s t → (d : ℕ) (c : declared_command.Command) (full : Bool) → (takes_out c ≡ true → reply t (CommandOf d c full) ≡ reply s (CommandOf d c full)) → CommandAlike s t d c full
command_alike s t r d c true taken = record { replies = λ looks. refl; states = after_alike s t r d }
command_alike s t r d c false taken = go (takes_out c) (only_looks c) refl refl
  where
    replied : (x y : Reply) → Replied x ≡ Replied y → x ≡ y
    replied x y e = cc

    both : AreAlike (outcome s d c) (outcome t d c) → CommandAlike s t d c false
    both alike = record { replies = λ looks. ap Replied alike.replies; states = after_alike _ _ alike.states d }

    go : (a b : Bool) → takes_out c ≡ a → only_looks c ≡ b → CommandAlike s t d c false
    go true b takes looks = both (taking_alike s t r d c takes (replied _ _ (taken takes)))
    go false true takes looks = record { replies = λ none. absurd (let clash : true ≡ false = sym looks ∙ none in cc); states = after_alike _ _ (looking_alike s t r d c looks) d }
    go false false takes looks = both (outcome_alike s t r d c takes looks)

-- being alike goes both ways, and on
node_back : (n m : Node) → AlikeNode n m → AlikeNode m n
node_back (Ephe keys datum) m (others, other, is, same) = subst (λ (x : Node). AlikeNode x (Ephe keys datum)) (sym is) (keys, datum, refl, sym same)
node_back (Plain tag fields) m is = subst (λ (x : Node). AlikeNode x (Plain tag fields)) (sym is) refl
node_back (Raw tag fields) m is = subst (λ (x : Node). AlikeNode x (Raw tag fields)) (sym is) refl

node_on : (n m o : Node) → AlikeNode n m → AlikeNode m o → AlikeNode n o
node_on (Ephe keys datum) m o (others, other, is, same) next = let step : AlikeNode (Ephe others other) o = subst (λ (x : Node). AlikeNode x o) is next in (step.0, step.1, step.2, step.3 ∙ same)
node_on (Plain tag fields) m o is next = subst (λ (x : Node). AlikeNode x o) is next
node_on (Raw tag fields) m o is next = subst (λ (x : Node). AlikeNode x o) is next

graphs_back : (g k : Graph) → AlikeGraphs g k → AlikeGraphs k g
graphs_back [] k is = subst (λ (f : Graph). AlikeGraphs f []) (sym is) refl
graphs_back (e ∷ g) k (m, rest, are, node, more) = subst (λ (f : Graph). AlikeGraphs f (e ∷ g)) (sym are) (e.1, g, refl, node_back e.1 m node, graphs_back g rest more)

graphs_on : (g k j : Graph) → AlikeGraphs g k → AlikeGraphs k j → AlikeGraphs g j
graphs_on [] k j is next = let step : AlikeGraphs [] j = subst (λ (f : Graph). AlikeGraphs f j) is next in step
graphs_on (e ∷ g) k j (m, rest, are, node, more) next =
    let step : AlikeGraphs ((e.0, m) ∷ rest) j = subst (λ (f : Graph). AlikeGraphs f j) are next in
    (step.0, step.1, step.2, node_on e.1 m step.0 node step.3, graphs_on g rest step.1 more step.4)

alike_back : (s t : State) → IsAlike s t → IsAlike t s
alike_back s t r = record { count = sym r.count; registers = λ d. sym (r.registers d); serials = λ d. sym (r.serials d); blocks = graphs_back s.graph t.graph r.blocks }

pub alike_on : (s t u : State) → IsAlike s t → IsAlike t u → IsAlike s u
alike_on s t u r next = record {
  count = next.count ∙ r.count;
  registers = λ d. next.registers d ∙ r.registers d;
  serials = λ d. next.serials d ∙ r.serials d;
  blocks = graphs_on s.graph t.graph u.graph r.blocks next.blocks;
}

-- an entry of the collector leaves a state that is alike
one_written : (g : Graph) (l : Label) (n m : Node) → node_at g l ≡ Some n → AlikeNode n m → AlikeGraphs g (with_node g l m)
one_written [] l n m at node = refl
one_written (e ∷ g) l n m at node = go (same_label e.0 l) at (one_written g l n m)
  where
    go : (b : Bool) → cond b (Some e.1) (node_at g l) ≡ Some n → (node_at g l ≡ Some n → AlikeNode n m → AlikeGraphs g (with_node g l m)) → AlikeGraphs (e ∷ g) (cond b ((e.0, m) ∷ g) (e ∷ with_node g l m))
    go true here rest = let same : n ≡ e.1 = cc in (m, g, refl, subst (λ (x : Node). AlikeNode x m) same node, graphs_same g)
    go false here rest = (e.1, with_node g l m, refl, alike_same e.1, rest here node)

wiped_length : (places : List ℕ) (keys : List (Option Label)) → length (wiped_keys places keys) ≡ length keys
wiped_length [] keys = refl
wiped_length (p ∷ ps) keys = length-set (wiped_keys ps keys) p None ∙ wiped_length ps keys

wiped_alike : (s : State) (l : Label) (places : List ℕ) (o : Option Node) → node_at s.graph l ≡ o → AlikeGraphs s.graph (with_wiped s l (wiped places o)).graph
wiped_alike s l places None at = graphs_same s.graph
wiped_alike s l places (Some (Plain tag fields)) at = one_written s.graph l (Plain tag fields) (Plain tag fields) at refl
wiped_alike s l places (Some (Raw tag fields)) at = one_written s.graph l (Raw tag fields) (Raw tag fields) at refl
wiped_alike s l places (Some (Ephe keys datum)) at = one_written s.graph l (Ephe keys datum) (Ephe (wiped_keys places keys) Nothing) at (wiped_keys places keys, Nothing, refl, wiped_length places keys)

wiped_domains : (s : State) (l : Label) (o : Option Node) → length (with_wiped s l o).domains ≡ length s.domains
wiped_domains s l None = refl
wiped_domains s l (Some n) = refl

collector_keeps : (s : State) (e : Entry) → ((d : ℕ) → is_entry_of d e ≡ false) → length (next s e).domains ≡ length s.domains → AlikeGraphs s.graph (next s e).graph → IsAlike s (next s e)
collector_keeps s e other count blocks = record { count = count; registers = λ d. (keeps_next s e d (other d)).registers; serials = λ d. (keeps_next s e d (other d)).serial; blocks = blocks }

pub collector_alike : (s : State) (e : Entry) → is_made e ≡ false → IsAlike s (next s e)
collector_alike s (CommandOf d c full) none = absurd (let clash : true ≡ false = none in cc)
collector_alike s (End d) none = absurd (let clash : true ≡ false = none in cc)
collector_alike s (Ran d) none = absurd (let clash : true ≡ false = none in cc)
collector_alike s Cut none = collector_keeps s Cut (λ d. refl) (length-map s.domains _) (graphs_same s.graph)
collector_alike s (Queue d places) none = collector_keeps s (Queue d places) (λ k. refl) (length-set s.domains d _) (graphs_same s.graph)
collector_alike s Seal none = collector_keeps s Seal (λ d. refl) (length-map s.domains _) (graphs_same s.graph)
collector_alike s (Wipe l keys) none = collector_keeps s (Wipe l keys) (λ d. refl) (wiped_domains s l (wiped keys (node_at s.graph l))) (wiped_alike s l keys (node_at s.graph l) refl)
collector_alike s (LastOf d place) none = collector_keeps s (LastOf d place) (λ k. refl) (length-set s.domains d _) (graphs_same s.graph)
collector_alike s Collected none = collector_keeps s Collected (λ d. refl) (length-map s.domains _) (graphs_same s.graph)
collector_alike s Done none = collector_keeps s Done (λ d. refl) refl (graphs_same s.graph)

-- before it too
pub skipped : (s t : State) (e : Entry) → is_made e ≡ false → IsAlike s t → IsAlike (next s e) t
skipped s t e none r = alike_on (next s e) s t (alike_back s (next s e) (collector_alike s e none)) r
