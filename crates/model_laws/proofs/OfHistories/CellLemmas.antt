-- What each entry does to a cell: it holds afterwards what the entry writes, and else what it held.
use Rattle.std.proofs.Common.{◌≡◌, ℕ, zero, suc, Bool, true, false, cond, ◌&&◌, ◌||◌, IsTrue, List, [], ◌∷◌, ◌++◌, replicate, slice_get, get_or, set, eqb, eqb-true, pos, option_map, option_and_then, unwrap_or, Option, Some, None, refl, ap, sym, ◌∙◌, subst, get_or-set_same, get_or-set_other}
use Rattle.std.specs.List.{list_any}
use Rattle.std.proofs.lemmas.Option.{unwrap_or-slice_get, slice_get_within}
use Rattle.model_core.specs.declared.label.Label.{Label}
use Rattle.model_core.specs.declared.command.Command.{Command}
use Rattle.model_core.specs.declared.command.Command.TheVariants.{Alloc, AllocMaj, Store, Raw as NewRaw, Cas, Ephe as NewEphe, SetKey, UnsetKey, SetData, UnsetData}
use Rattle.model_core.specs.declared.entry.Entry.{Entry}
use Rattle.model_core.specs.declared.entry.Entry.TheVariants.{Command as CommandOf, End, Cut, Queue, Seal, Wipe, Last as LastOf, Collected, Done, Ran}
use Rattle.model_core.specs.declared.reply.Reply.TheVariants.{No}
use Rattle.model_core.specs.declared.graph.Value.{Value}
use Rattle.model_core.specs.declared.graph.Value.TheVariants.{Int, Block, Nothing}
use Rattle.model_core.specs.declared.graph.Node.{Node}
use Rattle.model_core.specs.declared.graph.Node.TheVariants.{Plain, Raw, Ephe}
use Rattle.model_core.specs.declared.state.Pending.{Pending}
use Rattle.model_core.specs.declared.state.Pending.TheVariants.{Fin, Last}
use Rattle.model_core.specs.declared.state.Sizes.{Sizes}
use Rattle.model_core.specs.declared.state.State.{State}
use Rattle.model_core.specs.Graph.{Graph, same_label, label_of, node_at, with_node}
use Rattle.model_core.specs.Domains.{domain_at, with_block, register, label_in, opening, shared_label, shared_node}
use Rattle.model_core.specs.Commands.{Outcome, only_replies, done_with, in_bounds, at_field, written_over, written_where, same_value, exchanged, at_ephe, key_value, key_set, key_stored, datum_set, datum_stored, allocated, new_plain, new_raw, block_in, outcome, is_allocation}
use Rattle.model_core.specs.Entries.{Allowed, is_label, wiped, wiped_keys, with_wiped, has_gone_keys, after_run, next}
use Rattle.model_core.specs.History.{state_after, LegalFrom}
use Rattle.model_core.specs.Laws.{written_by}
use Rattle.model_core.specs.WellFormed.{IsNumbered}
use Rattle.model_core.proofs.Graphs.GraphLemmas.{same_label-true, same_label_refl, node_at-with_node_same, node_at-with_node_other, node_at-append_new}
use Rattle.model_core.proofs.Commands.FrameLemmas.{not_same}
use Rattle.model_core.proofs.Commands.MoveLemmas.{moved, held_block}
use Rattle.model_core.proofs.Histories.NumberLemmas.{next_label-new, node_at-no_label, numbered_next, numbered_opening}
use Rattle.model_laws.specs.Histories.Cells.{Cell, Field, Key, Datum, initial, cell_of, content, is_carried_out, to_field, to_key, to_datum, command_writes, wipe_writes, writes, last_written_from, CellsHoldLastWritten}
use Rattle.model_core.proofs.Commands.OutcomeLemmas.{bounds_each, ephe_each}

-- what a cell of a block holds
abbrev pub held : Cell → Node → Value
held cell n = unwrap_or (cell_of cell n) (initial cell)

pub content_is : (g : Graph) (l : Label) (n : Node) (cell : Cell) → node_at g l ≡ Some n → content g l cell ≡ held cell n
content_is g l n cell at = ap (λ o. unwrap_or (option_and_then (cell_of cell) o) (initial cell)) at

pub content_none : (g : Graph) (l : Label) (cell : Cell) → node_at g l ≡ None → content g l cell ≡ initial cell
content_none g l cell at = ap (λ o. unwrap_or (option_and_then (cell_of cell) o) (initial cell)) at

content_same : (g h : Graph) (l : Label) (cell : Cell) → node_at h l ≡ node_at g l → content h l cell ≡ content g l cell
content_same g h l cell same = ap (λ o. unwrap_or (option_and_then (cell_of cell) o) (initial cell)) same

-- a cell after its block, or another one, was written
content_written : (g : Graph) (k l : Label) (old new : Node) (cell : Cell) (w : Option Value) → node_at g k ≡ Some old → held cell new ≡ unwrap_or w (held cell old)
    → content (with_node g k new) l cell ≡ unwrap_or (cond (same_label k l) w None) (content g l cell)
content_written g k l old new cell w at holds = go (same_label k l) refl
  where
    here : content (with_node g k new) k cell ≡ unwrap_or w (content g k cell)
    here = content_is (with_node g k new) k new cell (node_at-with_node_same g k new old at) ∙ (holds ∙ ap (λ v. unwrap_or w v) (sym (content_is g k old cell at)))

    go : (b : Bool) → same_label k l ≡ b → content (with_node g k new) l cell ≡ unwrap_or (cond b w None) (content g l cell)
    go true e = subst (λ x. content (with_node g k new) x cell ≡ unwrap_or w (content g x cell)) (same_label-true k l e) here
    go false e = content_same g (with_node g k new) l cell
        (node_at-with_node_other g k l new (λ same. let clash : true ≡ false = sym (same_label_refl k) ∙ (ap (same_label k) (sym same) ∙ e) in cc))

-- and after a block was made
append_other : (g : Graph) (e : Label × Node) (l : Label) → same_label e.0 l ≡ false → node_at (g ++ e ∷ []) l ≡ node_at g l
append_other [] e l other = rw other refl
append_other (x ∷ g) e l other = ap (cond (same_label x.0 l) (Some x.1)) (append_other g e l other)

pub content_grown : (g : Graph) (new l : Label) (n : Node) (cell : Cell) → node_at g new ≡ None → held cell n ≡ initial cell → content (g ++ (new, n) ∷ []) l cell ≡ content g l cell
content_grown g new l n cell none holds = go (same_label new l) refl
  where
    here : content (g ++ (new, n) ∷ []) new cell ≡ content g new cell
    here = content_is (g ++ (new, n) ∷ []) new n cell (node_at-append_new g new n none) ∙ (holds ∙ sym (content_none g new cell none))

    go : (b : Bool) → same_label new l ≡ b → content (g ++ (new, n) ∷ []) l cell ≡ content g l cell
    go true e = subst (λ x. content (g ++ (new, n) ∷ []) x cell ≡ content g x cell) (same_label-true new l e) here
    go false e = content_same g (g ++ (new, n) ∷ []) l cell (append_other g (new, n) l e)

-- a new block's cells
one_value : {A : Type 0} (n i : ℕ) (v : A) → unwrap_or (slice_get (replicate n v) i) v ≡ v
one_value zero i v = refl
one_value (suc n) zero v = refl
one_value (suc n) (suc i) v = one_value n i v

map_or : (o : Option (Option Label)) → unwrap_or (option_map key_value o) Nothing ≡ key_value (unwrap_or o None)
map_or None = refl
map_or (Some k) = refl

pub plain_initial : (cell : Cell) (tag n : ℕ) → held cell (new_plain tag n) ≡ initial cell
plain_initial (Field i) tag n = one_value n i (Int (pos 0))
plain_initial (Key i) tag n = refl
plain_initial Datum tag n = refl

pub raw_initial : (cell : Cell) (tag n : ℕ) → held cell (new_raw tag n) ≡ initial cell
raw_initial (Field i) tag n = one_value n i (Int (pos 0))
raw_initial (Key i) tag n = refl
raw_initial Datum tag n = refl

pub ephe_initial : (cell : Cell) (n : ℕ) → held cell (Ephe (replicate n None) Nothing) ≡ initial cell
ephe_initial (Field i) n = refl
ephe_initial (Key i) n = map_or (slice_get (replicate n None) i) ∙ ap key_value (one_value n i None)
ephe_initial Datum n = refl

-- an element that is written
set_held : {A : Type 0} (xs : List A) (i j : ℕ) (v none old : A) → slice_get xs i ≡ Some old → get_or (set xs i v) j none ≡ unwrap_or (cond (eqb i j) (Some v) None) (get_or xs j none)
set_held xs i j v none old at = go (eqb i j) refl
  where
    go : (b : Bool) → eqb i j ≡ b → get_or (set xs i v) j none ≡ unwrap_or (cond b (Some v) None) (get_or xs j none)
    go true e = subst (λ k. get_or (set xs i v) k none ≡ v) (eqb-true i j e) (get_or-set_same xs i v none (slice_get_within xs i old at))
    go false e = get_or-set_other xs i j v none (not_same i j e)

field_set : (xs : List Value) (i j : ℕ) (v none old : Value) → slice_get xs i ≡ Some old
    → unwrap_or (slice_get (set xs i v) j) none ≡ unwrap_or (cond (eqb i j) (Some v) None) (unwrap_or (slice_get xs j) none)
field_set xs i j v none old at =
    unwrap_or-slice_get (set xs i v) j none ∙ (set_held xs i j v none old at ∙ ap (λ x. unwrap_or (cond (eqb i j) (Some v) None) x) (sym (unwrap_or-slice_get xs j none)))

pub key_get : (keys : List (Option Label)) (i : ℕ) → unwrap_or (option_map key_value (slice_get keys i)) Nothing ≡ key_value (get_or keys i None)
key_get keys i = map_or (slice_get keys i) ∙ ap key_value (unwrap_or-slice_get keys i None)

key_cond : (b : Bool) (key held : Option Label) → key_value (unwrap_or (cond b (Some key) None) held) ≡ unwrap_or (cond b (Some (key_value key)) None) (key_value held)
key_cond true key held = refl
key_cond false key held = refl

key_put : (keys : List (Option Label)) (i j : ℕ) (key old : Option Label) → slice_get keys i ≡ Some old
    → unwrap_or (option_map key_value (slice_get (set keys i key) j)) Nothing ≡ unwrap_or (cond (eqb i j) (Some (key_value key)) None) (unwrap_or (option_map key_value (slice_get keys j)) Nothing)
key_put keys i j key old at =
    key_get (set keys i key) j ∙ (ap key_value (set_held keys i j key None old at) ∙ (key_cond (eqb i j) key (get_or keys j None)
    ∙ ap (λ x. unwrap_or (cond (eqb i j) (Some (key_value key)) None) x) (sym (key_get keys j))))

-- the cells of a block of which a field, a key or the data was written
plain_field : (cell : Cell) (tag : ℕ) (fields : List Value) (i : ℕ) (v old : Value) → slice_get fields i ≡ Some old
    → held cell (Plain tag (set fields i v)) ≡ unwrap_or (to_field i v cell) (held cell (Plain tag fields))
plain_field (Field j) tag fields i v old at = field_set fields i j v (Int (pos 0)) old at
plain_field (Key j) tag fields i v old at = refl
plain_field Datum tag fields i v old at = refl

raw_field : (cell : Cell) (tag : ℕ) (fields : List Value) (i : ℕ) (v old : Value) → slice_get fields i ≡ Some old
    → held cell (Raw tag (set fields i v)) ≡ unwrap_or (to_field i v cell) (held cell (Raw tag fields))
raw_field (Field j) tag fields i v old at = field_set fields i j v (Int (pos 0)) old at
raw_field (Key j) tag fields i v old at = refl
raw_field Datum tag fields i v old at = refl

ephe_key : (cell : Cell) (keys : List (Option Label)) (datum : Value) (i : ℕ) (key old : Option Label) → slice_get keys i ≡ Some old
    → held cell (Ephe (set keys i key) datum) ≡ unwrap_or (to_key i (key_value key) cell) (held cell (Ephe keys datum))
ephe_key (Field j) keys datum i key old at = refl
ephe_key (Key j) keys datum i key old at = key_put keys i j key old at
ephe_key Datum keys datum i key old at = refl

ephe_datum : (cell : Cell) (keys : List (Option Label)) (datum v : Value) → held cell (Ephe keys v) ≡ unwrap_or (to_datum v cell) (held cell (Ephe keys datum))
ephe_datum (Field j) keys datum v = refl
ephe_datum (Key j) keys datum v = refl
ephe_datum Datum keys datum v = refl

-- and of an ephemeron of which the collector emptied keys
emptied : (xs : List (Option Label)) (p : ℕ) → get_or (set xs p None) p None ≡ None
emptied [] p = refl
emptied (x ∷ xs) zero = refl
emptied (x ∷ xs) (suc p) = emptied xs p

wiped_key : (places : List ℕ) (keys : List (Option Label)) (i : ℕ)
    → key_value (get_or (wiped_keys places keys) i None) ≡ unwrap_or (cond (list_any (λ p. eqb p i) places) (Some Nothing) None) (key_value (get_or keys i None))
wiped_key [] keys i = refl
wiped_key (p ∷ ps) keys i = go (eqb p i) refl (wiped_key ps keys i)
  where
    go : (b : Bool) → eqb p i ≡ b → key_value (get_or (wiped_keys ps keys) i None) ≡ unwrap_or (cond (list_any (λ q. eqb q i) ps) (Some Nothing) None) (key_value (get_or keys i None))
        → key_value (get_or (set (wiped_keys ps keys) p None) i None)
        ≡ unwrap_or (cond (b || list_any (λ q. eqb q i) ps) (Some Nothing) None) (key_value (get_or keys i None))
    go true e rest = ap key_value (subst (λ k. get_or (set (wiped_keys ps keys) p None) k None ≡ None) (eqb-true p i e) (emptied (wiped_keys ps keys) p))
    go false e rest = ap key_value (get_or-set_other (wiped_keys ps keys) p i None None (not_same p i e)) ∙ rest

ephe_wiped : (cell : Cell) (places : List ℕ) (keys : List (Option Label)) (datum : Value)
    → held cell (Ephe (wiped_keys places keys) Nothing) ≡ unwrap_or (wipe_writes places cell) (held cell (Ephe keys datum))
ephe_wiped (Field j) places keys datum = refl
ephe_wiped (Key j) places keys datum =
    key_get (wiped_keys places keys) j ∙ (wiped_key places keys j
    ∙ ap (λ x. unwrap_or (cond (list_any (λ p. eqb p j) places) (Some Nothing) None) x) (sym (key_get keys j)))
ephe_wiped Datum places keys datum = refl

pub label_block : (v : Value) (k : Label) → label_of v ≡ Some k → v ≡ Block k
label_block (Int z) k e = cc
label_block (Block m) k e = let same : m ≡ k = cc in ap Block same
label_block Nothing k e = cc

and_true : (b : Bool) → b && true ≡ b
and_true true = refl
and_true false = refl

kept : (b : Bool) (w : Option Value) (v : Value) → v ≡ unwrap_or (cond (b && false) w None) v
kept true w v = refl
kept false w v = refl

run_graph : (s : State) (d : ℕ) (queue : List Pending) → (after_run s d queue).graph ≡ s.graph
run_graph s d [] = refl
run_graph s d (Fin number l r ∷ rest) = refl
run_graph s d (Last number ∷ rest) = refl

module _ (s : State) (l : Label) (cell : Cell) where
  -- what an outcome leaves in the cell: w, where it is carried out on this block
  abbrev Leaves : Outcome → Option Label → Option Value → Type 0
  Leaves o k w = content o.state.graph l cell ≡ unwrap_or (cond (is_label l k && is_carried_out o.reply) w None) (content s.graph l cell)

  module _ (k : Option Label) (w : Option Value) where
    refused : Leaves (only_replies s No) k w
    refused = kept (is_label l k) w (content s.graph l cell)

    within : {A : Type 0} (o : Option A) (f : A → Outcome) → ((a : A) → o ≡ Some a → Leaves (f a) k w) → Leaves (in_bounds s o f) k w
    within = bounds_each (λ o. Leaves o k w) s refused

  module _ (d r : ℕ) (w : Option Value) where
    writes_block : (k : Label) (old new : Node) → block_in s d r ≡ Some (k, old) → held cell new ≡ unwrap_or w (held cell old) → Leaves (done_with (with_block s k new)) (label_in s d r) w
    writes_block k old new e holds =
        let at = held_block s d r k old e in
        let Now : Bool → Type 0 = λ b. content (with_node s.graph k new) l cell ≡ unwrap_or (cond b w None) (content s.graph l cell) in
        let one : Now (same_label k l && true) = subst Now (sym (and_true (same_label k l))) (content_written s.graph k l old new cell w at.node holds) in
        subst (λ o. Now (is_label l o && true)) (sym at.label) one

    at_keys : (f : Label → List (Option Label) → Value → Outcome)
        → ((k : Label) (keys : List (Option Label)) (datum : Value) → block_in s d r ≡ Some (k, Ephe keys datum) → Leaves (f k keys datum) (label_in s d r) w)
        → Leaves (at_ephe s (block_in s d r) f) (label_in s d r) w
    at_keys = ephe_each (λ o. Leaves o (label_in s d r) w) s (refused (label_in s d r) w) d r

  -- a store, and a compare-and-set
  module _ (d r index : ℕ) (v : Value) (f : Label → Node → Value → Outcome)
      (each : (k : Label) (new : Node) (old : Value) → Leaves (done_with (with_block s k new)) (label_in s d r) (to_field index v cell) → Leaves (f k new old) (label_in s d r) (to_field index v cell)) where
    at_fields : (b : Option (Label × Node)) (u : Value) → block_in s d r ≡ b → u ≡ v → Leaves (at_field s index b u f) (label_in s d r) (to_field index v cell)
    at_fields None u e is = refused (label_in s d r) (to_field index v cell)
    at_fields (Some (k, Ephe keys datum)) u e is = refused (label_in s d r) (to_field index v cell)
    at_fields (Some (k, Plain tag fields)) Nothing e is = refused (label_in s d r) (to_field index v cell)
    at_fields (Some (k, Plain tag fields)) (Int z) e is = within (label_in s d r) (to_field index v cell) (slice_get fields index) _ (λ old at. each k _ old (writes_block d r (to_field index v cell) k (Plain tag fields) _ e
        (plain_field cell tag fields index (Int z) old at ∙ ap (λ x. unwrap_or (to_field index x cell) (held cell (Plain tag fields))) is)))
    at_fields (Some (k, Plain tag fields)) (Block b) e is = within (label_in s d r) (to_field index v cell) (slice_get fields index) _ (λ old at. each k _ old (writes_block d r (to_field index v cell) k (Plain tag fields) _ e
        (plain_field cell tag fields index (Block b) old at ∙ ap (λ x. unwrap_or (to_field index x cell) (held cell (Plain tag fields))) is)))
    at_fields (Some (k, Raw tag fields)) Nothing e is = refused (label_in s d r) (to_field index v cell)
    at_fields (Some (k, Raw tag fields)) (Int z) e is = within (label_in s d r) (to_field index v cell) (slice_get fields index) _ (λ old at. each k _ old (writes_block d r (to_field index v cell) k (Raw tag fields) _ e
        (raw_field cell tag fields index (Int z) old at ∙ ap (λ x. unwrap_or (to_field index x cell) (held cell (Raw tag fields))) is)))
    at_fields (Some (k, Raw tag fields)) (Block b) e is = refused (label_in s d r) (to_field index v cell)

  module _ (d : ℕ) where
    cell_store : (r index item : ℕ) → Leaves (outcome s d (Store r index item)) (label_in s d r) (to_field index (register s d item) cell)
    cell_store r index item = at_fields d r index (register s d item) (written_over s) (λ k new old leaves. leaves) (block_in s d r) (register s d item) refl refl

    exchanging : (r index : ℕ) (v : Value) (k : Label) (new : Node) (b : Bool) → Leaves (done_with (with_block s k new)) (label_in s d r) (to_field index v cell)
        → Leaves (written_where s k new b) (label_in s d r) (to_field index v cell)
    exchanging r index v k new true leaves = leaves
    exchanging r index v k new false leaves = refused (label_in s d r) (to_field index v cell)

    cell_cas : (r index : ℕ) (expected v : Value) → Leaves (exchanged s index (block_in s d r) expected v) (label_in s d r) (to_field index v cell)
    cell_cas r index Nothing v = refused (label_in s d r) (to_field index v cell)
    cell_cas r index (Int z) v = at_fields d r index v _ (λ k new old leaves. exchanging r index v k new (same_value old (Int z)) leaves) (block_in s d r) v refl refl
    cell_cas r index (Block b) v = at_fields d r index v _ (λ k new old leaves. exchanging r index v k new (same_value old (Block b)) leaves) (block_in s d r) v refl refl

    cell_key : (r index : ℕ) (key : Option Label) → Leaves (at_ephe s (block_in s d r) (key_set s index key)) (label_in s d r) (to_key index (key_value key) cell)
    cell_key r index key = at_keys d r (to_key index (key_value key) cell) (key_set s index key) (λ k keys datum e.
        within (label_in s d r) (to_key index (key_value key) cell) (slice_get keys index) _ (λ old at.
        writes_block d r (to_key index (key_value key) cell) k (Ephe keys datum) _ e (ephe_key cell keys datum index key old at)))

    cell_set_key : (r index : ℕ) (v : Value) (o : Option Label) → label_of v ≡ o → Leaves (key_stored s index o (block_in s d r)) (label_in s d r) (to_key index v cell)
    cell_set_key r index v None e = refused (label_in s d r) (to_key index v cell)
    cell_set_key r index v (Some k) e =
        subst (λ x. Leaves (at_ephe s (block_in s d r) (key_set s index (Some k))) (label_in s d r) (to_key index x cell)) (sym (label_block v k e)) (cell_key r index (Some k))

    cell_datum : (r : ℕ) (v : Value) → Leaves (at_ephe s (block_in s d r) (datum_set s v)) (label_in s d r) (to_datum v cell)
    cell_datum r v = at_keys d r (to_datum v cell) (datum_set s v) (λ k keys datum e. writes_block d r (to_datum v cell) k (Ephe keys datum) _ e (ephe_datum cell keys datum v))

    cell_set_datum : (r : ℕ) (v : Value) → Leaves (datum_stored s (block_in s d r) v) (label_in s d r) (to_datum v cell)
    cell_set_datum r Nothing = refused (label_in s d r) (to_datum Nothing cell)
    cell_set_datum r (Int z) = cell_datum r (Int z)
    cell_set_datum r (Block b) = cell_datum r (Block b)

    -- every other command
    other : (c : Command) → ((k : Label) → written_by s d c ≡ Some k → ⊥) → is_allocation c ≡ false → content (outcome s d c).state.graph l cell ≡ content s.graph l cell
    other c unwritten unmade = moved (λ t. content t.graph l cell ≡ content s.graph l cell) s d c (record {
      same = refl;
      held = λ r v named. refl;
      written = λ k old new at found same named full. absurd (unwritten k at);
      made = λ is dst n named full. absurd (let clash : true ≡ false = sym is ∙ unmade in cc);
      registered = λ is f named. refl;
      registered_last = λ is f named. refl;
    })

    module _ (numbered : IsNumbered s) where
      cell_made : (dst : ℕ) (n : Node) → held cell n ≡ initial cell → content (allocated s d dst n).state.graph l cell ≡ content s.graph l cell
      cell_made dst n holds = content_grown s.graph _ l n cell (node_at-no_label s.graph _ (next_label-new s numbered d)) holds

      cell_command : (c : Command) → Leaves (outcome s d c) (written_by s d c) (command_writes s d c cell)
      cell_command (Store r index item) = cell_store r index item
      cell_command (Cas r index expected item) = cell_cas r index (register s d expected) (register s d item)
      cell_command (SetKey r index item) = cell_set_key r index (register s d item) (label_in s d item) refl
      cell_command (UnsetKey r index) = cell_key r index None
      cell_command (SetData r item) = cell_set_datum r (register s d item)
      cell_command (UnsetData r) = cell_datum r Nothing
      cell_command (Alloc dst tag n) = cell_made dst (new_plain tag n) (plain_initial cell tag n)
      cell_command (AllocMaj dst tag n) = cell_made dst (new_plain tag n) (plain_initial cell tag n)
      cell_command (NewRaw dst tag n) = cell_made dst (new_raw tag n) (raw_initial cell tag n)
      cell_command (NewEphe dst n) = cell_made dst (Ephe (replicate n None) Nothing) (ephe_initial cell n)
      cell_command c = other c (λ k e. cc) refl

  cell_wiped : (k : Label) (places : List ℕ) (o : Option Node) → node_at s.graph k ≡ o → IsTrue (has_gone_keys s places o)
      → content (with_wiped s k (wiped places o)).graph l cell ≡ unwrap_or (cond (same_label k l) (wipe_writes places cell) None) (content s.graph l cell)
  cell_wiped k places None at gone = cc
  cell_wiped k places (Some (Plain tag fields)) at gone = cc
  cell_wiped k places (Some (Raw tag fields)) at gone = cc
  cell_wiped k places (Some (Ephe keys datum)) at gone =
      content_written s.graph k l (Ephe keys datum) (Ephe (wiped_keys places keys) Nothing) cell (wipe_writes places cell) at (ephe_wiped cell places keys datum)

-- each entry that is allowed leaves what it writes, and else what there was
pub cell_next : (s : State) (l : Label) (cell : Cell) → IsNumbered s → (e : Entry) → Allowed s e → content (next s e).graph l cell ≡ unwrap_or (writes s e l cell) (content s.graph l cell)
cell_next s l cell numbered (CommandOf d c true) allowed = refl
cell_next s l cell numbered (CommandOf d c false) allowed = cell_command s l cell d numbered c
cell_next s l cell numbered (End d) allowed = refl
cell_next s l cell numbered Cut allowed = refl
cell_next s l cell numbered (Queue d places) allowed = refl
cell_next s l cell numbered Seal allowed = refl
cell_next s l cell numbered (Wipe k places) allowed = cell_wiped s l cell k places (node_at s.graph k) refl allowed.gone
cell_next s l cell numbered (LastOf d place) allowed = refl
cell_next s l cell numbered Collected allowed = refl
cell_next s l cell numbered Done allowed = refl
cell_next s l cell numbered (Ran d) allowed = ap (λ g. content g l cell) (run_graph s d (domain_at s d).queue)

pub cells_from : (s : State) (h : List Entry) → IsNumbered s → LegalFrom s h → (l : Label) (cell : Cell) → content (state_after s h).graph l cell ≡ last_written_from s h l cell (content s.graph l cell)
cells_from s [] numbered legal l cell = refl
cells_from s (e ∷ h) numbered legal l cell =
    cells_from (next s e) h (numbered_next s e legal.0 numbered) legal.1 l cell ∙ ap (last_written_from (next s e) h l cell) (cell_next s l cell numbered e legal.0)

pub content_opening : (z : Sizes) (l : Label) (cell : Cell) → content (opening z).graph l cell ≡ initial cell
content_opening z l cell = go (same_label shared_label l)
  where
    go : (b : Bool) → unwrap_or (option_and_then (cell_of cell) (cond b (Some shared_node) None)) (initial cell) ≡ initial cell
    go true = plain_initial cell 0 16
    go false = refl

pub cells_law : CellsHoldLastWritten
cells_law z h legal l cell = cells_from (opening z) h (numbered_opening z) legal l cell ∙ ap (last_written_from (opening z) h l cell) (content_opening z l cell)
