-- Weak keys and data stay, but where the collector empties them with a key whose block can't be reached.
use Rattle.std.proofs.Common.{◌≡◌, ◌⊎◌, inl, inr, ⊎_elim, ℕ, Bool, true, false, cond, eqb, eq-eqb, IsTrue, List, [], ◌∷◌, ◌++◌, slice_get, option_map, option_and_then, unwrap_or, Option, Some, None, refl, ap, sym, ◌∙◌, subst}
use Rattle.std.specs.List.{list_any}
use Rattle.model_core.specs.declared.label.Label.{Label}
use Rattle.model_core.specs.declared.entry.Entry.{Entry}
use Rattle.model_core.specs.declared.entry.Entry.TheVariants.{Command as CommandOf, End, Cut, Queue, Seal, Wipe, Last as LastOf, Collected, Done, Ran}
use Rattle.model_core.specs.declared.graph.Value.{Value}
use Rattle.model_core.specs.declared.graph.Value.TheVariants.{Block, Nothing}
use Rattle.model_core.specs.declared.graph.Node.{Node}
use Rattle.model_core.specs.declared.graph.Node.TheVariants.{Plain, Raw, Ephe}
use Rattle.model_core.specs.declared.state.Sizes.{Sizes}
use Rattle.model_core.specs.declared.state.State.{State}
use Rattle.model_core.specs.Graph.{Graph, same_label, has_label, node_at}
use Rattle.model_core.specs.Domains.{queues, roots, reach, waiting, settled_roots, settled_reach, opening}
use Rattle.model_core.specs.Commands.{key_value}
use Rattle.model_core.specs.Entries.{Allowed, is_rising, is_some_and, is_gone, has_keys, next}
use Rattle.model_core.specs.History.{state_after, LegalFrom}
use Rattle.model_core.specs.WellFormed.{IsNumbered}
use Rattle.model_core.proofs.Graphs.GraphLemmas.{same_label-true, same_label_refl}
use Rattle.model_core.proofs.Reach.ReachLemmas.{or_left, not_true, has-append_left, reachable_more}
use Rattle.model_core.proofs.Histories.NumberLemmas.{numbered_next, numbered_after, numbered_opening}
use Rattle.model_laws.specs.Histories.Cells.{Cell, Key, Datum, cell_of, content, wipe_writes, writes}
use Rattle.model_laws.specs.Histories.Weak.{is_command, NoCommandWrites, IsEmptiedWithout, WeakKeysStay, ReachableKeysStay, DataStay, DataGoWithKeys}
use Rattle.model_laws.proofs.OfHistories.CellLemmas.{cell_next}
use Rattle.model_laws.proofs.OfHistories.SplitLemmas.{legal_first, legal_rest}
use Rattle.model_laws.proofs.OfHistories.ApartLemmas.{wipe_written}
use Rattle.model_laws.proofs.OfHistories.LostLemmas.{gone_place, wiped_gone}

-- an entry that isn't a command of a domain writes to a cell only as a Wipe of its block
record IsWipeOf (x : Entry) (e : Label) (cell : Cell) : Type 0 where
  places : List ℕ
  is : x ≡ Wipe e places
  takes : wipe_writes places cell ≡ Some Nothing

kind : (s : State) (x : Entry) (e : Label) (cell : Cell) → (is_command x ≡ true → writes s x e cell ≡ None) → (writes s x e cell ≡ None) ⊎ IsWipeOf x e cell
kind s (CommandOf d c full) e cell quiet = inl (quiet refl)
kind s (Wipe k places) e cell quiet = go (same_label k e) refl (wipe_writes places cell) refl
  where
    go : (b : Bool) → same_label k e ≡ b → (o : Option Value) → wipe_writes places cell ≡ o → (cond b o None ≡ None) ⊎ IsWipeOf (Wipe k places) e cell
    go false is o at = inl refl
    go true is None at = inl refl
    go true is (Some v) at = inr (record { places = places; is = ap (λ (z : Label). Wipe z places) (same_label-true k e is); takes = at ∙ ap Some (sym (wipe_written places v cell at)) })
kind s (End d) e cell quiet = inl refl
kind s Cut e cell quiet = inl refl
kind s (Queue d places) e cell quiet = inl refl
kind s Seal e cell quiet = inl refl
kind s (LastOf d place) e cell quiet = inl refl
kind s Collected e cell quiet = inl refl
kind s Done e cell quiet = inl refl
kind s (Ran d) e cell quiet = inl refl

-- it leaves nothing there
wiped_now : (s : State) (x : Entry) (e : Label) (cell : Cell) → IsNumbered s → Allowed s x → IsWipeOf x e cell → content (next s x).graph e cell ≡ Nothing
wiped_now s x e cell numbered allowed w =
    let own : writes s (Wipe e w.places) e cell ≡ Some Nothing = ap (λ b. cond b (wipe_writes w.places cell) None) (same_label_refl e) ∙ w.takes in
    let wrote : writes s x e cell ≡ Some Nothing = subst (λ y. writes s y e cell ≡ Some Nothing) (sym w.is) own in
    cell_next s e cell numbered x allowed ∙ ap (λ o. unwrap_or o (content s.graph e cell)) wrote

kept_now : (s : State) (x : Entry) (e : Label) (cell : Cell) → IsNumbered s → Allowed s x → writes s x e cell ≡ None → content (next s x).graph e cell ≡ content s.graph e cell
kept_now s x e cell numbered allowed none = cell_next s e cell numbered x allowed ∙ ap (λ o. unwrap_or o (content s.graph e cell)) none

-- so what is empty stays so, where no command writes to it
stays_empty : (s : State) (k : List Entry) (e : Label) (cell : Cell) → IsNumbered s → LegalFrom s k → NoCommandWrites s k e cell → content s.graph e cell ≡ Nothing → content (state_after s k).graph e cell ≡ Nothing
stays_empty s [] e cell numbered legal quiet at = at
stays_empty s (x ∷ k) e cell numbered legal quiet at = stays_empty (next s x) k e cell (numbered_next s x legal.0 numbered) legal.1 quiet.1
    (⊎_elim (λ none. kept_now s x e cell numbered legal.0 none ∙ at) (λ w. wiped_now s x e cell numbered legal.0 w) (kind s x e cell quiet.0))

-- the first Wipe in these entries that empties a cell
record IsWiped (s : State) (k : List Entry) (e : Label) (cell : Cell) : Type 0 where
  before : List Entry
  places : List ℕ
  after : List Entry
  splits : k ≡ before ++ Wipe e places ∷ after
  allowed : Allowed (state_after s before) (Wipe e places)
  same : content (state_after s before).graph e cell ≡ content s.graph e cell
  takes : wipe_writes places cell ≡ Some Nothing
  empty : content (state_after s k).graph e cell ≡ Nothing

found_wipe : (s : State) (x : Entry) (k : List Entry) (e : Label) (cell : Cell) → Allowed s x → IsWipeOf x e cell → content (state_after (next s x) k).graph e cell ≡ Nothing → IsWiped s (x ∷ k) e cell
found_wipe s x k e cell allowed w empty = record {
  before = [];
  places = w.places;
  after = k;
  splits = ap (λ (t : Entry). t ∷ k) w.is;
  allowed = subst (Allowed s) w.is allowed;
  same = refl;
  takes = w.takes;
  empty = empty;
}

later_wipe : (s : State) (x : Entry) (k : List Entry) (e : Label) (cell : Cell) → content (next s x).graph e cell ≡ content s.graph e cell → IsWiped (next s x) k e cell → IsWiped s (x ∷ k) e cell
later_wipe s x k e cell same w = record {
  before = x ∷ w.before;
  places = w.places;
  after = w.after;
  splits = ap (λ t. x ∷ t) w.splits;
  allowed = w.allowed;
  same = w.same ∙ same;
  takes = w.takes;
  empty = w.empty;
}

stays_or_wiped : (s : State) (k : List Entry) (e : Label) (cell : Cell) → IsNumbered s → LegalFrom s k → NoCommandWrites s k e cell
    → (content (state_after s k).graph e cell ≡ content s.graph e cell) ⊎ IsWiped s k e cell
stays_or_wiped s [] e cell numbered legal quiet = inl refl
stays_or_wiped s (x ∷ k) e cell numbered legal quiet = ⊎_elim
    (λ none.
    let same : content (next s x).graph e cell ≡ content s.graph e cell = kept_now s x e cell numbered legal.0 none in
    ⊎_elim (λ stays. inl (stays ∙ same)) (λ w. inr (later_wipe s x k e cell same w))
    (stays_or_wiped (next s x) k e cell (numbered_next s x legal.0 numbered) legal.1 quiet.1))
    (λ w. inr (found_wipe s x k e cell legal.0 w
    (stays_empty (next s x) k e cell (numbered_next s x legal.0 numbered) legal.1 quiet.1 (wiped_now s x e cell numbered legal.0 w))))
    (kind s x e cell quiet.0)

-- a place that a Wipe takes
taken_place : (places : List ℕ) (i : ℕ) → wipe_writes places (Key i) ≡ Some Nothing → IsTrue (list_any (λ p. eqb p i) places)
taken_place places i takes = go (list_any (λ p. eqb p i) places) takes
  where
    go : (b : Bool) → cond b (Some Nothing) None ≡ Some Nothing → b ≡ true
    go true at = refl
    go false at = cc

module _ (z : Sizes) (h k : List Entry) (legal : LegalFrom (opening z) (h ++ k)) where
  abbrev s : State
  s = state_after (opening z) h

  numbered : IsNumbered s
  numbered = numbered_after (opening z) h (legal_first (opening z) h k legal) (numbered_opening z)

  either : (e : Label) (cell : Cell) → NoCommandWrites s k e cell → (content (state_after s k).graph e cell ≡ content s.graph e cell) ⊎ IsWiped s k e cell
  either e cell quiet = stays_or_wiped s k e cell numbered (legal_rest (opening z) h k legal) quiet

pub keys_stay_law : WeakKeysStay
keys_stay_law z h k e i b legal at quiet =
    let s : State = state_after (opening z) h in
    ⊎_elim (λ stays. inl (stays ∙ at))
    (λ (w : IsWiped s k e (Key i)).
    let t : State = state_after s w.before in
    inr (record {
      before = w.before;
      places = w.places;
      after = w.after;
      splits = w.splits;
      takes = taken_place w.places i w.takes;
      held = w.same ∙ at;
      empty = w.empty;
      unreachable = wiped_gone (is_gone t (queues t)) t.graph e w.places i b w.allowed.gone (taken_place w.places i w.takes) (w.same ∙ at);
    }))
    (either z h k legal e (Key i) quiet)

-- what is reachable isn't gone
not_gone : (t : State) (b : Label) → IsTrue (has_label (reach t) b) → IsTrue (is_gone t (queues t) b) → ⊥
not_gone t b there gone = not_true (has_label (settled_reach t (queues t)) b) gone
    (reachable_more t.graph (roots t (queues t)) (settled_roots t (queues t)) (has-append_left (roots t (queues t)) (waiting t)) b there)

pub reachable_keys_law : ReachableKeysStay
reachable_keys_law z h k e i b legal at quiet there =
    let s : State = state_after (opening z) h in
    ⊎_elim (λ stays. stays)
    (λ (w : IsEmptiedWithout s k e i b). absurd (not_gone (state_after s w.before) b (there w.before (Wipe e w.places ∷ w.after) w.splits) w.unreachable))
    (keys_stay_law z h k e i b legal at quiet)

-- a key that a Wipe takes, and the first of them
taken_value : (test : Label → Bool) (o : Option (Option Label)) → IsTrue (is_some_and (is_some_and test) o) → (b : Label) × (unwrap_or (option_map key_value o) Nothing ≡ Block b) × IsTrue (test b)
taken_value test None gone = cc
taken_value test (Some None) gone = cc
taken_value test (Some (Some k)) gone = (k, refl, gone)

taken_key : (test : Label → Bool) (g : Graph) (e : Label) (places : List ℕ) (i : ℕ) → IsTrue (has_keys test places (node_at g e)) → IsTrue (list_any (λ p. eqb p i) places)
    → (b : Label) × (content g e (Key i) ≡ Block b) × IsTrue (test b)
taken_key test g e places i gone some = go (node_at g e) gone
  where
    go : (o : Option Node) → IsTrue (has_keys test places o) → (b : Label) × (unwrap_or (option_and_then (cell_of (Key i)) o) Nothing ≡ Block b) × IsTrue (test b)
    go None gone = cc
    go (Some (Plain tag fields)) gone = cc
    go (Some (Raw tag fields)) gone = cc
    go (Some (Ephe keys datum)) gone = taken_value test (slice_get keys i) (gone_place (is_some_and (is_some_and test)) keys places i gone some)

first_place : (places : List ℕ) → IsTrue (is_rising places) → (i : ℕ) × IsTrue (list_any (λ p. eqb p i) places)
first_place [] rising = cc
first_place (p ∷ ps) rising = (p, or_left (eqb p p) (list_any (λ q. eqb q p) ps) (eq-eqb p p refl))

pub data_stay_law : DataStay
data_stay_law z h k e legal quiet =
    let s : State = state_after (opening z) h in
    ⊎_elim (λ stays. inl stays)
    (λ (w : IsWiped s k e Datum).
    let t : State = state_after s w.before in
    let first = first_place w.places w.allowed.rising in
    let taken = taken_key (is_gone t (queues t)) t.graph e w.places first.0 w.allowed.gone first.1 in
    inr (record {
      before = w.before;
      places = w.places;
      after = w.after;
      splits = w.splits;
      place = first.0;
      takes = first.1;
      empty = w.empty;
      key = taken.0;
      held = taken.1;
      unreachable = taken.2;
    }))
    (either z h k legal e Datum quiet)

pub data_go_law : DataGoWithKeys
data_go_law z h e places legal =
    let s : State = state_after (opening z) h in
    let allowed = (legal_rest (opening z) h (Wipe e places ∷ []) legal).0 in
    let numbered : IsNumbered s = numbered_after (opening z) h (legal_first (opening z) h (Wipe e places ∷ []) legal) (numbered_opening z) in
    let wiped : (cell : Cell) → content (next s (Wipe e places)).graph e cell ≡ unwrap_or (cond (same_label e e) (wipe_writes places cell) None) (content s.graph e cell) =
    λ cell. cell_next s e cell numbered (Wipe e places) allowed in
    let here : (cell : Cell) → content (next s (Wipe e places)).graph e cell ≡ unwrap_or (wipe_writes places cell) (content s.graph e cell) =
    λ cell. wiped cell ∙ ap (λ b. unwrap_or (cond b (wipe_writes places cell) None) (content s.graph e cell)) (same_label_refl e) in
    record {
      datum = here Datum;
      keys = λ i some. here (Key i) ∙ ap (λ b. unwrap_or (cond b (Some Nothing) None) (content s.graph e (Key i))) some;
      were = λ i some. taken_key (is_gone s (queues s)) s.graph e places i allowed.gone some;
      some = first_place places allowed.rising;
    }
