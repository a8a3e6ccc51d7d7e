-- What a command may do to a state, in six moves: nothing, a register, the node of a block, a new block, and a registration of each kind. What holds after each move holds after every command.
use Rattle.std.proofs.Common.{◌≡◌, ℕ, Bool, true, false, IsTrue, is_some, List, [], ◌∷◌, replicate, filter_map, option_to_list, ℤ, pos, set, length-set, slice_get, option_map, option_and_then, unwrap_or, Option, Some, None, refl, ap, sym, ◌∙◌}
use Rattle.model_core.specs.declared.label.Label.{Label}
use Rattle.model_core.specs.declared.command.Command.{Command}
use Rattle.model_core.specs.declared.command.Command.TheVariants.{PutInt, Copy, Forget, Alloc, AllocMaj, Load, Store, Raw as NewRaw, Cas, Ephe as NewEphe, SetKey, UnsetKey, GetKey, CheckKey, SetData, UnsetData, GetData, CheckData, Finalise, FinaliseLast, Poll, Minor, Major, FullMajor, Spawn, Argument, PutResult, Join}
use Rattle.model_core.specs.declared.graph.Value.{Value}
use Rattle.model_core.specs.declared.graph.Value.TheVariants.{Int, Block, Nothing}
use Rattle.model_core.specs.declared.graph.Node.{Node}
use Rattle.model_core.specs.declared.graph.Node.TheVariants.{Plain, Raw, Ephe}
use Rattle.model_core.specs.declared.state.Finaliser.{Finaliser}
use Rattle.model_core.specs.declared.state.LastFinaliser.{LastFinaliser}
use Rattle.model_core.specs.declared.state.State.{State}
use Rattle.model_core.specs.declared.state.DomainState.{DomainState}
use Rattle.model_core.specs.Graph.{Graph, label_of, node_at, block_at}
use Rattle.model_core.specs.Domains.{domain_at, with_domain, with_register, with_block, register, label_in}
use Rattle.model_core.specs.Commands.{Outcome, in_bounds, at_ephe, loaded, at_field, written_over, same_value, written_where, exchanged, has_full_fields, is_int_value, key_set, key_value, key_stored, datum_set, datum_stored, with_final, with_last, finalised, finalised_last, tells, is_full_value, allocated, new_plain, new_raw, block_in, outcome, is_allocation}
use Rattle.model_core.specs.Fronts.{PlainShape, RawShape, EpheShape, shape_of}
use Rattle.model_core.specs.Laws.{written_by}
use Rattle.model_core.specs.WellFormed.{names_of, HaveNodes, IsWellFormed}
use Rattle.model_core.proofs.Graphs.ListLemmas.{all_set, all_replicate}
use Rattle.model_core.proofs.Graphs.NamedLemmas.{have_none, have_append, have_left, have_right, have_set, have_at, have_get, have_replicate}
use Rattle.model_core.proofs.Commands.OutcomeLemmas.{bounds_each, ephe_each, tells_each}

-- whether a command registers a finaliser
abbrev pub registers_one : Command → Bool
registers_one (Finalise item number dst) = true
registers_one (FinaliseLast item number) = true
registers_one _ = false

-- what a fact of states owes to the moves of a command. Each label that a move names has a node, where all that the state names have one, and a written block's fields hold what they may, where they did
pub record Moves (P : State → Type 0) (s : State) (d : ℕ) (c : Command) : Type 0 where
  pub same : P s
  pub held : (r : ℕ) (v : Value) → (IsWellFormed s → HaveNodes s.graph (option_to_list (label_of v))) → P (with_register s d r v)
  pub written : (l : Label) (old new : Node) → written_by s d c ≡ Some l → node_at s.graph l ≡ Some old → shape_of new ≡ shape_of old
      → (IsWellFormed s → HaveNodes s.graph (names_of new)) → (IsTrue (has_full_fields old) → IsTrue (has_full_fields new)) → P (with_block s l new)
  pub made : is_allocation c ≡ true → (dst : ℕ) (n : Node) → HaveNodes s.graph (names_of n) → IsTrue (has_full_fields n) → P (allocated s d dst n).state
  pub registered : registers_one c ≡ true → (f : Finaliser) → (IsWellFormed s → HaveNodes s.graph (f.label ∷ [])) → P (with_final s d f)
  pub registered_last : registers_one c ≡ true → (f : LastFinaliser) → (IsWellFormed s → HaveNodes s.graph (f.label ∷ [])) → P (with_last s d f)

-- the block in a register: the register's label, and its node in the graph
pub record HeldBlock (s : State) (d r : ℕ) (l : Label) (n : Node) : Type 0 where
  pub label : label_in s d r ≡ Some l
  pub node : node_at s.graph l ≡ Some n

found_block : (s : State) (o : Option Label) (l : Label) (n : Node) → option_and_then (block_at s.graph) o ≡ Some (l, n) → (o ≡ Some l) × (node_at s.graph l ≡ Some n)
found_block s None l n e = cc
found_block s (Some k) l n e = go (node_at s.graph k) refl e
  where
    go : (m : Option Node) → node_at s.graph k ≡ m → option_map {U = Label × Node} (λ x. (k, x)) m ≡ Some (l, n) → (Some k ≡ Some l) × (node_at s.graph l ≡ Some n)
    go None at e = cc
    go (Some x) at e =
        let label : k ≡ l = ap (λ (o : Option (Label × Node)). (unwrap_or o (k, x)).0) e in
        let node : x ≡ n = ap (λ (o : Option (Label × Node)). (unwrap_or o (k, x)).1) e in
        (ap Some label, ap (node_at s.graph) (sym label) ∙ (at ∙ ap Some node))

pub held_block : (s : State) (d r : ℕ) (l : Label) (n : Node) → block_in s d r ≡ Some (l, n) → HeldBlock s d r l n
held_block s d r l n e = let f = found_block s (label_in s d r) l n e in record { label = f.0; node = f.1 }

-- what a register holds is named
pub named_register : (s : State) → IsWellFormed s → (d r : ℕ) → HaveNodes s.graph (option_to_list (label_of (register s d r)))
named_register s wf d r = have_at s.graph label_of (domain_at s d).registers r Nothing (wf.domains d).registers (have_none s.graph)

-- and so is what stands in the keys and the data of an ephemeron
module _ (g : Graph) (keys : List (Option Label)) (datum : Value) (named : HaveNodes g (names_of (Ephe keys datum))) where
  keys_named : HaveNodes g (filter_map (λ k. k) keys)
  keys_named = have_left g (filter_map (λ k. k) keys) (option_to_list (label_of datum)) named

  datum_named : HaveNodes g (option_to_list (label_of datum))
  datum_named = have_right g (filter_map (λ k. k) keys) (option_to_list (label_of datum)) named

  key_named : (index : ℕ) (k : Option Label) → slice_get keys index ≡ Some k → HaveNodes g (option_to_list (label_of (key_value k)))
  key_named index None e = have_none g
  key_named index (Some k) e = have_get g (λ x. x) keys index (Some k) keys_named e

  with_key_named : (index : ℕ) (key : Option Label) → HaveNodes g (option_to_list key) → HaveNodes g (names_of (Ephe (set keys index key) datum))
  with_key_named index key new = have_append g (filter_map (λ k. k) (set keys index key)) (option_to_list (label_of datum)) (have_set g (λ k. k) keys index key keys_named new) datum_named

  with_datum_named : (v : Value) → HaveNodes g (option_to_list (label_of v)) → HaveNodes g (names_of (Ephe keys v))
  with_datum_named v new = have_append g (filter_map (λ k. k) keys) (option_to_list (label_of v)) keys_named new

module _ (P : State → Type 0) (s : State) (d : ℕ) (c : Command) (m : Moves P s d c) where
  within : {A : Type 0} (o : Option A) (f : A → Outcome) → ((a : A) → o ≡ Some a → P (f a).state) → P (in_bounds s o f).state
  within = bounds_each (λ o. P o.state) s m.same

  -- a command that looks at the block in register r
  module _ (r : ℕ) where
    node_named : (l : Label) (n : Node) → block_in s d r ≡ Some (l, n) → IsWellFormed s → HaveNodes s.graph (names_of n)
    node_named l n e wf = wf.nodes l n (held_block s d r l n e).node

    reads_field : (dst index : ℕ) (b : Option (Label × Node)) → block_in s d r ≡ b → P (loaded s d dst index b).state
    reads_field dst index None e = m.same
    reads_field dst index (Some (l, Plain tag fields)) e =
        within (slice_get fields index) _ (λ v at. m.held dst v (λ wf. have_get s.graph label_of fields index v (node_named l (Plain tag fields) e wf) at))
    reads_field dst index (Some (l, Raw tag fields)) e =
        within (slice_get fields index) _ (λ v at. m.held dst v (λ wf. have_get s.graph label_of fields index v (node_named l (Raw tag fields) e wf) at))
    reads_field dst index (Some (l, Ephe keys datum)) e = m.same

    at_keys : (f : Label → List (Option Label) → Value → Outcome)
        → ((l : Label) (keys : List (Option Label)) (datum : Value) → block_in s d r ≡ Some (l, Ephe keys datum) → P (f l keys datum).state) → P (at_ephe s (block_in s d r) f).state
    at_keys = ephe_each (λ o. P o.state) s m.same d r

  told : (b : Bool) → P (tells s b).state
  told = tells_each (λ o. P o.state) s m.same m.same

  -- and one that writes it
  module _ (r : ℕ) (writes : (l : Label) → label_in s d r ≡ Some l → written_by s d c ≡ Some l) where
    writes_node : (l : Label) (old new : Node) → block_in s d r ≡ Some (l, old) → shape_of new ≡ shape_of old → (IsWellFormed s → HaveNodes s.graph (names_of new))
        → (IsTrue (has_full_fields old) → IsTrue (has_full_fields new)) → P (with_block s l new)
    writes_node l old new e same named full = let h = held_block s d r l old e in m.written l old new (writes l h.label) h.node same named full

    writes_plain : (index : ℕ) (l : Label) (tag : ℕ) (fields : List Value) (v : Value) → block_in s d r ≡ Some (l, Plain tag fields) → IsTrue (is_full_value v)
        → (IsWellFormed s → HaveNodes s.graph (option_to_list (label_of v))) → P (with_block s l (Plain tag (set fields index v)))
    writes_plain index l tag fields v e full new = writes_node l _ _ e (ap (λ n. PlainShape n tag) (length-set fields index v))
        (λ wf. have_set s.graph label_of fields index v (node_named r l (Plain tag fields) e wf) (new wf))
        (all_set is_full_value fields index v full)

    writes_raw : (index : ℕ) (l : Label) (tag : ℕ) (fields : List Value) (z : ℤ) → block_in s d r ≡ Some (l, Raw tag fields) → P (with_block s l (Raw tag (set fields index (Int z))))
    writes_raw index l tag fields z e = writes_node l _ _ e (ap (λ n. RawShape n tag) (length-set fields index (Int z)))
        (λ wf. have_set s.graph label_of fields index (Int z) (node_named r l (Raw tag fields) e wf) (have_none s.graph))
        (all_set is_int_value fields index (Int z) refl)

    -- what is done with a field keeps the fact, if it does where the block is written
    module _ (f : Label → Node → Value → Outcome) (each : (l : Label) (new : Node) (held : Value) → P (with_block s l new) → P (f l new held).state) where
      writes_field : (index : ℕ) (b : Option (Label × Node)) (v : Value) → block_in s d r ≡ b → (IsWellFormed s → HaveNodes s.graph (option_to_list (label_of v))) → P (at_field s index b v f).state
      writes_field index None v e new = m.same
      writes_field index (Some (l, Ephe keys datum)) v e new = m.same
      writes_field index (Some (l, Plain tag fields)) Nothing e new = m.same
      writes_field index (Some (l, Plain tag fields)) (Int z) e new = within (slice_get fields index) _ (λ held at. each l _ held (writes_plain index l tag fields (Int z) e refl new))
      writes_field index (Some (l, Plain tag fields)) (Block k) e new = within (slice_get fields index) _ (λ held at. each l _ held (writes_plain index l tag fields (Block k) e refl new))
      writes_field index (Some (l, Raw tag fields)) Nothing e new = m.same
      writes_field index (Some (l, Raw tag fields)) (Int z) e new = within (slice_get fields index) _ (λ held at. each l _ held (writes_raw index l tag fields z e))
      writes_field index (Some (l, Raw tag fields)) (Block k) e new = m.same

    writes_where : (l : Label) (new : Node) (b : Bool) → P (with_block s l new) → P (written_where s l new b).state
    writes_where l new true p = p
    writes_where l new false p = m.same

    exchanges : (index : ℕ) (expected v : Value) → (IsWellFormed s → HaveNodes s.graph (option_to_list (label_of v))) → P (exchanged s index (block_in s d r) expected v).state
    exchanges index Nothing v new = m.same
    exchanges index (Int z) v new = writes_field _ (λ l n held p. writes_where l n (same_value held (Int z)) p) index (block_in s d r) v refl new
    exchanges index (Block k) v new = writes_field _ (λ l n held p. writes_where l n (same_value held (Block k)) p) index (block_in s d r) v refl new

    writes_key : (index : ℕ) (key : Option Label) → (IsWellFormed s → HaveNodes s.graph (option_to_list key)) → P (at_ephe s (block_in s d r) (key_set s index key)).state
    writes_key index key new = at_keys r _ (λ l keys datum e. within (slice_get keys index) _ (λ _ at. writes_node l _ _ e (ap EpheShape (length-set keys index key))
        (λ wf. with_key_named s.graph keys datum (node_named r l (Ephe keys datum) e wf) index key (new wf)) (λ full. full)))

    writes_datum : (v : Value) → (IsWellFormed s → HaveNodes s.graph (option_to_list (label_of v))) → P (at_ephe s (block_in s d r) (datum_set s v)).state
    writes_datum v new = at_keys r _ (λ l keys datum e. writes_node l _ _ e refl (λ wf. with_datum_named s.graph keys datum (node_named r l (Ephe keys datum) e wf) v (new wf)) (λ full. full))

    writes_given_key : (index : ℕ) (o : Option Label) → (IsWellFormed s → HaveNodes s.graph (option_to_list o)) → P (key_stored s index o (block_in s d r)).state
    writes_given_key index None new = m.same
    writes_given_key index (Some k) new = writes_key index (Some k) new

    writes_given_datum : (v : Value) → (IsWellFormed s → HaveNodes s.graph (option_to_list (label_of v))) → P (datum_stored s (block_in s d r) v).state
    writes_given_datum Nothing new = m.same
    writes_given_datum (Int z) new = writes_datum (Int z) new
    writes_given_datum (Block k) new = writes_datum (Block k) new

-- what holds after each move holds after the command
pub moved : (P : State → Type 0) (s : State) (d : ℕ) (c : Command) → Moves P s d c → P (outcome s d c).state
moved P s d (PutInt dst value) m = m.held dst (Int value) (λ wf. have_none s.graph)
moved P s d (Copy dst src) m = m.held dst (register s d src) (λ wf. named_register s wf d src)
moved P s d (Forget dst) m = m.held dst Nothing (λ wf. have_none s.graph)
moved P s d (Alloc dst tag fields) m = m.made refl dst (new_plain tag fields) (have_replicate s.graph label_of fields (Int (pos 0)) refl) (all_replicate is_full_value fields (Int (pos 0)) refl)
moved P s d (AllocMaj dst tag fields) m = m.made refl dst (new_plain tag fields) (have_replicate s.graph label_of fields (Int (pos 0)) refl) (all_replicate is_full_value fields (Int (pos 0)) refl)
moved P s d (Load dst src index) m = reads_field P s d (Load dst src index) m src dst index (block_in s d src) refl
moved P s d (Store block index item) m =
    writes_field P s d (Store block index item) m block (λ l e. e) (written_over s) (λ l n held p. p) index (block_in s d block) (register s d item) refl (λ wf. named_register s wf d item)
moved P s d (NewRaw dst tag fields) m =
    m.made refl dst (new_raw tag fields) (have_replicate s.graph label_of fields (Int (pos 0)) refl) (all_replicate is_int_value fields (Int (pos 0)) refl)
moved P s d (Cas block index expected item) m =
    exchanges P s d (Cas block index expected item) m block (λ l e. e) index (register s d expected) (register s d item) (λ wf. named_register s wf d item)
moved P s d (NewEphe dst keys) m = m.made refl dst (Ephe (replicate keys None) Nothing)
    (have_append s.graph (filter_map (λ k. k) (replicate keys None)) [] (have_replicate s.graph (λ k. k) keys None refl) (have_none s.graph)) refl
moved P s d (SetKey ephe index item) m = writes_given_key P s d (SetKey ephe index item) m ephe (λ l e. e) index (label_in s d item) (λ wf. named_register s wf d item)
moved P s d (UnsetKey ephe index) m = writes_key P s d (UnsetKey ephe index) m ephe (λ l e. e) index None (λ wf. have_none s.graph)
moved P s d (GetKey dst ephe index) m =
    at_keys P s d (GetKey dst ephe index) m ephe _ (λ l keys datum e. within P s d (GetKey dst ephe index) m (slice_get keys index) _ (λ k at.
    m.held dst (key_value k) (λ wf. key_named s.graph keys datum (node_named P s d (GetKey dst ephe index) m ephe l (Ephe keys datum) e wf) index k at)))
moved P s d (CheckKey ephe index) m =
    at_keys P s d (CheckKey ephe index) m ephe _ (λ l keys datum e. within P s d (CheckKey ephe index) m (slice_get keys index) _ (λ k at. told P s d (CheckKey ephe index) m (is_some k)))
moved P s d (SetData ephe item) m = writes_given_datum P s d (SetData ephe item) m ephe (λ l e. e) (register s d item) (λ wf. named_register s wf d item)
moved P s d (UnsetData ephe) m = writes_datum P s d (UnsetData ephe) m ephe (λ l e. e) Nothing (λ wf. have_none s.graph)
moved P s d (GetData dst ephe) m =
    at_keys P s d (GetData dst ephe) m ephe _ (λ l keys datum e. m.held dst datum (λ wf. datum_named s.graph keys datum (node_named P s d (GetData dst ephe) m ephe l (Ephe keys datum) e wf)))
moved P s d (CheckData ephe) m = at_keys P s d (CheckData ephe) m ephe _ (λ l keys datum e. told P s d (CheckData ephe) m (is_full_value datum))
moved P s d (Finalise item number dst) m = go (label_in s d item) (λ wf. named_register s wf d item)
  where
    go : (o : Option Label) → (IsWellFormed s → HaveNodes s.graph (option_to_list o)) → P (finalised s d number dst o).state
    go None named = m.same
    go (Some l) named = m.registered refl (record { number = number; label = l; register = dst }) named
moved P s d (FinaliseLast item number) m = go (label_in s d item) (λ wf. named_register s wf d item)
  where
    go : (o : Option Label) → (IsWellFormed s → HaveNodes s.graph (option_to_list o)) → P (finalised_last s d number o).state
    go None named = m.same
    go (Some l) named = m.registered_last refl (record { number = number; label = l }) named
moved P s d Poll m = m.same
moved P s d Minor m = m.same
moved P s d Major m = m.same
moved P s d FullMajor m = m.same
moved P s d (Spawn section item) m = m.same
moved P s d (Argument dst) m = m.same
moved P s d (PutResult item) m = m.same
moved P s d (Join dst section) m = m.same

-- what no change of a domain, of the graph or of `kept` touches, no command touches
module _ (Q : State → Type 0) (domain : (t : State) (d : ℕ) (x : DomainState) → Q t → Q (with_domain t d x))
    (made : (t : State) (g : Graph) (n : ℕ) → Q t → Q (record t { graph = g; kept = n })) where
  keeps_allocated : (s : State) → Q s → (d dst : ℕ) (n : Node) → Q (allocated s d dst n).state
  keeps_allocated s q d dst n = domain _ d _ (made _ _ _ (domain s d _ q))

  pub keeps_outcome : (s : State) → Q s → (d : ℕ) (c : Command) → Q (outcome s d c).state
  keeps_outcome s q d c = moved Q s d c (record {
    same = q;
    held = λ r v named. domain s d _ q;
    written = λ l old new at found same named full. made s _ s.kept q;
    made = λ is dst n named full. keeps_allocated s q d dst n;
    registered = λ is f named. domain s d _ q;
    registered_last = λ is f named. domain s d _ q;
  })

-- a command leaves the mode, the sizes and the queues at the cut
pub outcome-mode : (s : State) (d : ℕ) (c : Command) → (outcome s d c).state.mode ≡ s.mode
outcome-mode s = keeps_outcome (λ t. t.mode ≡ s.mode) (λ t d x q. q) (λ t g n q. q) s refl

pub outcome-cut : (s : State) (d : ℕ) (c : Command) → (outcome s d c).state.cut ≡ s.cut
outcome-cut s = keeps_outcome (λ t. t.cut ≡ s.cut) (λ t d x q. q) (λ t g n q. q) s refl

pub outcome-sizes : (s : State) (d : ℕ) (c : Command) → (outcome s d c).state.sizes ≡ s.sizes
outcome-sizes s = keeps_outcome (λ t. t.sizes ≡ s.sizes) (λ t d x q. q) (λ t g n q. q) s refl
