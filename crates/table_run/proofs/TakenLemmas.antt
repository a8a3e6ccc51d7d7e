-- What the collector took is nowhere any more, once no collection is under way.
use Rattle.std.proofs.Common.{◌≡◌, ◌⊎◌, inl, inr, ⊎_elim, ℕ, suc, Bool, true, false, cond, not, IsTrue, List, [], ◌∷◌, ◌++◌, filter_map, slice_get, unwrap_or, option_map, option_to_list, pos, Option, Some, None, refl, ap, sym, ◌∙◌, subst, append_assoc, append-nil}
use Rattle.std.specs.List.{list_all}
use Rattle.std.specs.Option.{option_map_or}
use Rattle.std.proofs.lemmas.Option.{slice_get-get_or}
use Rattle.model_core.specs.declared.label.Label.{Label}
use Rattle.model_core.specs.declared.command.Command.{Command}
use Rattle.model_core.specs.declared.command.Command.TheVariants.{FullMajor, Spawn, Argument, PutResult, Join}
use Rattle.model_core.specs.declared.entry.Entry.{Entry}
use Rattle.model_core.specs.declared.entry.Entry.TheVariants.{Command as CommandOf, End, Cut, Queue, Seal, Wipe, Last as LastOf, Collected, Done as DoneOf, Ran}
use Rattle.model_core.specs.declared.graph.Value.{Value}
use Rattle.model_core.specs.declared.graph.Value.TheVariants.{Int, Block, Nothing}
use Rattle.model_core.specs.declared.graph.Node.{Node}
use Rattle.model_core.specs.declared.graph.Node.TheVariants.{Plain, Raw, Ephe}
use Rattle.model_core.specs.declared.state.Mode.{Mode}
use Rattle.model_core.specs.declared.state.Mode.TheVariants.{Open, Cut as CutMode}
use Rattle.model_core.specs.declared.state.Sizes.{Sizes}
use Rattle.model_core.specs.declared.state.State.{State}
use Rattle.model_core.specs.Graph.{Graph, same_label, labels, has_label, label_of, node_at}
use Rattle.model_core.specs.Domains.{domain_at, opening}
use Rattle.model_core.specs.Commands.{FitsMode, key_value}
use Rattle.model_core.specs.Entries.{Allowed, is_sealed, keys_are_live, left_reach, next, with_wiped, wiped}
use Rattle.model_core.specs.History.{LegalFrom, Legal}
use Rattle.model_core.specs.Reach.{IsClosedUnder, edges_of, key_holds}
use Rattle.model_core.proofs.Collections.CollectionLemmas.{all_has}
use Rattle.model_core.proofs.Graphs.GraphStepLemmas.{labels_stay_law}
use Rattle.model_core.proofs.Histories.NumberLemmas.{node_at-no_label}
use Rattle.model_core.proofs.Histories.HistoryLemmas.{state_after-push, state_after-append}
use Rattle.model_core.proofs.Graphs.GraphLemmas.{same_label-true}
use Rattle.model_core.proofs.Graphs.NamedLemmas.{have_at, have_head, have_none}
use Rattle.model_core.specs.WellFormed.{HaveNodes}
use Rattle.model_core.proofs.Reach.ReachLemmas.{and_both, is_false, or_cases, has-append_left, has-append_right}
use Rattle.model_laws.specs.Histories.Cells.{Cell, Field, Key, Datum, content}
use Rattle.model_laws.proofs.OfHistories.CellLemmas.{content_is}
use Rattle.model_laws.proofs.OfHistories.ApartLemmas.{IsKnownOut, out_after}
use Rattle.model_laws.proofs.OfHistories.LostLemmas.{known_lost}
use Rattle.weak_laws.specs.Tables.Structures.{IsWeakArray, keys_of, slot_keys}
use Rattle.weak_laws.specs.Tables.Thinning.{WasOutside, state_of, taken_by}
use Rattle.weak_laws.specs.Tables.Stages.{graph_of, held_in}
use Rattle.weak_laws.proofs.OfTables.StepLemmas.{legal_parts}
use Rattle.table_text.specs.declared.version.Version.{Version}
use Rattle.table_text.specs.Machine.Machine.{Holds}
use Rattle.table_run.specs.Keepers.Keepers.{Shape, IsKeeper, kept_bindings}
use Rattle.table_run.proofs.FreshLemmas.{labels_go_on}
use Rattle.table_run.proofs.KeeperLemmas.{keeper_keys_held}
use Rattle.table_run.proofs.SettledLemmas.{array_keys_held, named_field, nothing_there}

wiped_same : (s : State) (l : Label) (o : Option Node) → ((with_wiped s l o).mode ≡ s.mode) × ((with_wiped s l o).taken ≡ s.taken)
wiped_same s l None = (refl, refl)
wiped_same s l (Some n) = (refl, refl)

-- a collection that was sealed and has taken the label is under way, or the label is out
abbrev Taken : Label → State → Type 0
Taken l s = (IsTrue (is_sealed s.mode) × IsTrue (has_label s.taken l)) ⊎ IsKnownOut l s

not_sealed : {A : Type 0} (s : State) (m : Mode) → s.mode ≡ m → is_sealed m ≡ false → IsTrue (is_sealed s.mode) → A
not_sealed s m is other sealed = absurd (let clash : true ≡ false = sym sealed ∙ (ap is_sealed is ∙ other) in cc)

-- a command that is answered while it is under way is a `full_major`
sealed_command : (l : Label) (s : State) (d : ℕ) (c : Command) (full : Bool) → FitsMode s d c → IsTrue (is_sealed s.mode) → IsTrue (has_label s.taken l) → Taken l (next s (CommandOf d c full))
sealed_command l s d FullMajor true fits sealed taken = inl (sealed, taken)
sealed_command l s d FullMajor false fits sealed taken = inl (sealed, taken)
sealed_command l s d (Spawn section item) full fits sealed taken = absurd fits
sealed_command l s d (Argument dst) full fits sealed taken = absurd fits
sealed_command l s d (PutResult item) full fits sealed taken = absurd fits
sealed_command l s d (Join dst section) full fits sealed taken = absurd fits
sealed_command l s d c full fits sealed taken = not_sealed s Open fits.0 refl sealed

-- each entry leaves it so
module _ (l : Label) (z : Sizes) (h : List Entry) (legal : Legal z h) (there : IsTrue (has_label (labels (state_of z h).graph) l)) where
  abbrev s : State
  s = state_of z h

  sealed_next : (e : Entry) → Allowed s e → IsTrue (is_sealed s.mode) → IsTrue (has_label s.taken l) → Taken l (next s e)
  sealed_next (CommandOf d c full) allowed sealed taken = sealed_command l s d c full allowed.fits sealed taken
  sealed_next (End d) allowed sealed taken = not_sealed s Open allowed.mode refl sealed
  sealed_next Cut allowed sealed taken = not_sealed s Open allowed refl sealed
  sealed_next (Queue d places) allowed sealed taken = not_sealed s CutMode allowed.mode refl sealed
  sealed_next Seal allowed sealed taken = not_sealed s CutMode allowed.mode refl sealed
  sealed_next (Wipe e places) allowed sealed taken =
      let same = wiped_same s e (wiped places (node_at s.graph e)) in
      inl (subst (λ (m : Mode). IsTrue (is_sealed m)) (sym same.0) sealed, has-append_left _ _ l (subst (λ (ls : List Label). IsTrue (has_label ls l)) (sym same.1) taken))
  sealed_next (LastOf d place) allowed sealed taken = inl (sealed, has-append_left s.taken _ l taken)
  sealed_next Collected allowed sealed taken = inl (refl, taken)
  sealed_next DoneOf allowed sealed taken =
      let lost : has_label (left_reach s) l ≡ false = is_false (has_label (left_reach s) l) (all_has (λ x. not (has_label (left_reach s) x)) s.taken allowed.apart l taken) in
      inr (out_after l s (DoneOf ∷ []) (allowed, tt) (known_lost z h l legal there lost))
  sealed_next (Ran d) allowed sealed taken = not_sealed s Open allowed.mode refl sealed

  taken_next : (e : Entry) → Allowed s e → Taken l s → Taken l (next s e)
  taken_next e allowed (inl (sealed, taken)) = sealed_next e allowed sealed taken
  taken_next e allowed (inr known) = inr (out_after l s (e ∷ []) (allowed, tt) known)

  -- the entry that takes it begins that
  taken_begins : (e : Entry) → Allowed s e → IsTrue (has_label (taken_by s e) l) → Taken l (next s e)
  taken_begins (Wipe e places) allowed took =
      let same = wiped_same s e (wiped places (node_at s.graph e)) in
      inl (ap is_sealed (same.0 ∙ allowed.mode), has-append_right _ _ l took)
  taken_begins (CommandOf d c full) allowed took = absurd (nothing_there l took)
  taken_begins (End d) allowed took = absurd (nothing_there l took)
  taken_begins Cut allowed took = absurd (nothing_there l took)
  taken_begins (Queue d places) allowed took = absurd (nothing_there l took)
  taken_begins Seal allowed took = absurd (nothing_there l took)
  taken_begins (LastOf d place) allowed took = absurd (nothing_there l took)
  taken_begins Collected allowed took = absurd (nothing_there l took)
  taken_begins DoneOf allowed took = absurd (nothing_there l took)
  taken_begins (Ran d) allowed took = absurd (nothing_there l took)

taken_after : (l : Label) (z : Sizes) (h rest : List Entry) → Legal z (h ++ rest) → IsTrue (has_label (labels (state_of z h).graph) l) → Taken l (state_of z h) → Taken l (state_of z (h ++ rest))
taken_after l z h [] legal there taken = subst (λ (k : List Entry). Taken l (state_of z k)) (sym (append-nil h)) taken
taken_after l z h (e ∷ rest) legal there taken =
    let whole : (h ++ e ∷ []) ++ rest ≡ h ++ e ∷ rest = append_assoc h (e ∷ []) rest in
    let parts = legal_parts (opening z) h (e ∷ rest) legal in
    let pushed : state_of z (h ++ e ∷ []) ≡ next (state_of z h) e = state_after-push (opening z) h e in
    let here : Taken l (state_of z (h ++ e ∷ [])) = subst (Taken l) (sym pushed) (taken_next l z h parts.0 there e parts.1.0 taken) in
    let still : IsTrue (has_label (labels (state_of z (h ++ e ∷ [])).graph) l) = subst (λ (t : State). IsTrue (has_label (labels t.graph) l)) (sym pushed) (labels_stay_law (state_of z h) e l there) in
    subst (λ (k : List Entry). Taken l (state_of z k)) whole (taken_after l z (h ++ e ∷ []) rest (subst (Legal z) (sym whole) legal) still here)

-- what a collection took is out once none is under way
pub taken_out : (z : Sizes) (old new : List Entry) (l : Label) → Legal z new → (state_of z new).mode ≡ Open → IsTrue (has_label (labels (graph_of z old)) l) → WasOutside z old new l → IsKnownOut l (state_of z new)
taken_out z old new l legal calm there w = ⊎_elim (λ under. not_sealed (state_of z new) Open calm refl under.0) (λ known. known) last
  where
    h : List Entry
    h = w.front

    now : List Entry
    now = h ++ w.entry ∷ []

    known_there : IsTrue (has_label (labels (state_of z h).graph) l)
    known_there = subst (λ (k : List Entry). IsTrue (has_label (labels (state_of z k).graph) l)) (sym w.since.appends)
        (subst (λ (t : State). IsTrue (has_label (labels t.graph) l)) (sym (state_after-append (opening z) old w.since.rest)) (labels_go_on (state_of z old) w.since.rest l there))

    first : LegalFrom (opening z) now
    first = (legal_parts (opening z) now w.through.rest (subst (Legal z) w.through.appends legal)).0

    parts : LegalFrom (opening z) h × LegalFrom (state_of z h) (w.entry ∷ [])
    parts = legal_parts (opening z) h (w.entry ∷ []) first

    pushed : state_of z now ≡ next (state_of z h) w.entry
    pushed = state_after-push (opening z) h w.entry

    begun : Taken l (state_of z now)
    begun = subst (Taken l) (sym pushed) (taken_begins l z h parts.0 known_there w.entry parts.1.0 w.taken)

    last : Taken l (state_of z new)
    last = subst (λ (k : List Entry). Taken l (state_of z k)) (sym w.through.appends) (taken_after l z now w.through.rest (subst (Legal z) w.through.appends legal)
        (subst (λ (t : State). IsTrue (has_label (labels t.graph) l)) (sym pushed) (labels_stay_law (state_of z h) w.entry l known_there)) begun)

-- A set that is closed over what cells hold is closed over what blocks keep alive, and over keys.
module _ (g : Graph) (alive : Label → Bool) (cells : (x : Label) (cell : Cell) (y : Label) → IsTrue (alive x) → content g x cell ≡ Block y → IsTrue (alive y)) where
  field_alive : (l m : Label) (n : Node) (fields : List Value) → IsTrue (alive l) → ((i : ℕ) → content g l (Field i) ≡ unwrap_or (slice_get fields i) (Int (pos 0))) → IsTrue (has_label (filter_map label_of fields) m) → IsTrue (alive m)
  field_alive l m n fields lives holds h =
      let t = named_field fields m h in
      cells l (Field t.0) m lives (holds t.0 ∙ (ap (λ (o : Option Value). unwrap_or o (Int (pos 0))) (slice_get-get_or fields t.0 Nothing t.1) ∙ t.2))

  datum_alive : (l m : Label) (keys : List (Option Label)) (datum : Value) → IsTrue (alive l) → node_at g l ≡ Some (Ephe keys datum) → IsTrue (has_label (option_to_list (label_of datum)) m) → IsTrue (alive m)
  datum_alive l m keys (Int v) lives at h = absurd (nothing_there m h)
  datum_alive l m keys Nothing lives at h = absurd (nothing_there m h)
  datum_alive l m keys (Block k) lives at h = ⊎_elim
      (λ same. cells l Datum m lives (content_is g l (Ephe keys (Block k)) Datum at ∙ ap (λ (x : Label). Block x) (same_label-true k m same)))
      (λ none. absurd (nothing_there m none)) (or_cases (same_label k m) false h)

  edge_alive : (l m : Label) (o : Option Node) → node_at g l ≡ o → IsTrue (alive l) → IsTrue (has_label (option_map_or (edges_of alive) o []) m) → IsTrue (alive m)
  edge_alive l m None at lives h = absurd (nothing_there m h)
  edge_alive l m (Some (Plain tag fields)) at lives h = field_alive l m (Plain tag fields) fields lives (λ i. content_is g l (Plain tag fields) (Field i) at) h
  edge_alive l m (Some (Raw tag fields)) at lives h = absurd (nothing_there m h)
  edge_alive l m (Some (Ephe keys datum)) at lives h = go (list_all (key_holds alive) keys) h
    where
      go : (b : Bool) → IsTrue (has_label (cond b (option_to_list (label_of datum)) []) m) → IsTrue (alive m)
      go true h = datum_alive l m keys datum lives at h
      go false h = absurd (nothing_there m h)

  cells_closed : IsClosedUnder g alive
  cells_closed l m lives h = edge_alive l m (node_at g l) refl lives h

  keys_alive : (l : Label) (keys : List (Option Label)) → ((i : ℕ) (k : Label) → slice_get keys i ≡ Some (Some k) → IsTrue (alive k)) → IsTrue (list_all (key_holds alive) keys)
  keys_alive l [] each = refl
  keys_alive l (None ∷ keys) each = keys_alive l keys (λ i k at. each (suc i) k at)
  keys_alive l (Some k ∷ keys) each = and_both (alive k) _ (each 0 k refl) (keys_alive l keys (λ i k at. each (suc i) k at))

  live_cells : (l : Label) → IsTrue (alive l) → IsTrue (keys_are_live alive (node_at g l))
  live_cells l lives = go (node_at g l) refl
    where
      go : (o : Option Node) → node_at g l ≡ o → IsTrue (keys_are_live alive o)
      go None at = refl
      go (Some (Plain tag fields)) at = refl
      go (Some (Raw tag fields)) at = refl
      go (Some (Ephe keys datum)) at = keys_alive l keys (λ i k here. cells l (Key i) k lives
          (content_is g l (Ephe keys datum) (Key i) at ∙ ap (λ (o : Option (Option Label)). unwrap_or (option_map key_value o) Nothing) here))

-- so what is out is no key that is bound in what a register holds, and in no slot of such a weak array
module _ (z : Sizes) (h : List Entry) (l : Label) (known : IsKnownOut l (state_of z h)) where
  abbrev safe : Graph
  safe = known.out.safe

  held_safe : (r : ℕ) (root : Label) → held_in z h r ≡ Block root → IsTrue (has_label (labels safe) root)
  held_safe r root held = have_head safe root [] (subst (λ (v : Value). HaveNodes safe (option_to_list (label_of v))) held
      (have_at safe label_of (domain_at (state_of z h) 0).registers r Nothing (known.out.apart.domains 0).registers (have_none safe)))

  never : IsTrue (has_label (labels safe) l) → ⊥
  never there = let clash : true ≡ false = sym there ∙ known.out.lost in cc

  pub out_unbound : (r : ℕ) (v : Version) (shape : Shape v) (n : ℕ) (root : Label) → held_in z h r ≡ Block root → IsKeeper v shape n (graph_of z h) root → IsTrue (has_label (keys_of (kept_bindings v shape (graph_of z h) root)) l) → ⊥
  out_unbound r v shape n root held keeper there = never (keeper_keys_held (graph_of z h) (has_label (labels safe)) (cells_closed (graph_of z h) (has_label (labels safe)) known.out.apart.cells) (live_cells (graph_of z h) (has_label (labels safe)) known.out.apart.cells) v shape n root l keeper (held_safe r root held) there)

  pub out_unset : (r : ℕ) (root : Label) (slots : List Label) → held_in z h r ≡ Block root → IsWeakArray (graph_of z h) root slots → Holds (slot_keys (graph_of z h) slots) l → ⊥
  out_unset r root slots held array there = never (array_keys_held (graph_of z h) (has_label (labels safe)) (cells_closed (graph_of z h) (has_label (labels safe)) known.out.apart.cells) (live_cells (graph_of z h) (has_label (labels safe)) known.out.apart.cells) root slots l array (held_safe r root held) there)

-- a block that has a node has a label
pub labelled : (g : Graph) (l : Label) (n : Node) → node_at g l ≡ Some n → IsTrue (has_label (labels g) l)
labelled g l n at = go (has_label (labels g) l) refl
  where
    go : (b : Bool) → has_label (labels g) l ≡ b → IsTrue b
    go true e = refl
    go false e = absurd (let clash : ◌≡◌ {A = Option Node} None (Some n) = sym (node_at-no_label g l e) ∙ at in cc)
