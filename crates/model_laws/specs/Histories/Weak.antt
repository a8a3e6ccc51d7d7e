-- Laws of weak keys and data, as caches and weak tables rely on them.
use Rattle.std.specs.Prelude.{◌≡◌, ◌⊎◌, ℕ, Bool, true, false, ◌==◌, List, [], ◌∷◌, ◌++◌, IsTrue, None}
use Rattle.std.specs.List.{list_any}
use Rattle.model_core.specs.declared.label.Label.{Label}
use Rattle.model_core.specs.declared.entry.Entry.{Entry}
use Rattle.model_core.specs.declared.entry.Entry.TheVariants.{Command, Wipe}
use Rattle.model_core.specs.declared.graph.Value.TheVariants.{Block, Nothing}
use Rattle.model_core.specs.declared.state.Sizes.{Sizes}
use Rattle.model_core.specs.declared.state.State.{State}
use Rattle.model_core.specs.Graph.{has_label}
use Rattle.model_core.specs.Domains.{queues, reach, opening}
use Rattle.model_core.specs.Entries.{is_gone, next}
use Rattle.model_core.specs.History.{state_after, Legal}
use Rattle.model_laws.specs.Histories.Cells.{Cell, Key, Datum, content, writes}

-- whether an entry is a command of a domain
abbrev pub is_command : Entry → Bool
is_command (Command d c full) = true
is_command _ = false

-- no command of these entries writes to a cell
abbrev pub NoCommandWrites : State → List Entry → Label → Cell → Type 0
NoCommandWrites s [] l cell = Unit {0}
NoCommandWrites s (e ∷ h) l cell = (is_command e ≡ true → writes s e l cell ≡ None) × NoCommandWrites (next s e) h l cell

-- the collector empties a key in these entries, at a moment when it still is this block and neither registers nor finalisers lead to that, and it is empty from then on
pub record IsEmptiedWithout (s : State) (k : List Entry) (e : Label) (i : ℕ) (b : Label) : Type 0 where
  pub before : List Entry
  pub places : List ℕ
  pub after : List Entry
  pub splits : k ≡ before ++ Wipe e places ∷ after
  pub takes : IsTrue (list_any (λ p. p == i) places)
  pub held : content (state_after s before).graph e (Key i) ≡ Block b
  pub unreachable : IsTrue (is_gone (state_after s before) (queues (state_after s before)) b)
  pub empty : content (state_after s k).graph e (Key i) ≡ Nothing

-- a full key to which no command writes stays, but where the collector empties it at a moment when its block can't be reached
abbrev pub WeakKeysStay : Type 0
WeakKeysStay = (z : Sizes) (h k : List Entry) (e : Label) (i : ℕ) (b : Label) → Legal z (h ++ k) → let s = state_after (opening z) h in
    content s.graph e (Key i) ≡ Block b → NoCommandWrites s k e (Key i)
    → (content (state_after s k).graph e (Key i) ≡ Block b) ⊎ IsEmptiedWithout s k e i b

-- so it stays where its block is reachable at every moment
abbrev pub ReachableKeysStay : Type 0
ReachableKeysStay = (z : Sizes) (h k : List Entry) (e : Label) (i : ℕ) (b : Label) → Legal z (h ++ k) → let s = state_after (opening z) h in
    content s.graph e (Key i) ≡ Block b → NoCommandWrites s k e (Key i)
    → ((a c : List Entry) → k ≡ a ++ c → IsTrue (has_label (reach (state_after s a)) b))
    → content (state_after s k).graph e (Key i) ≡ Block b

-- the collector empties an ephemeron in these entries, at a moment when one of the keys that it empties has a block that can't be reached, and the data are empty from then on
pub record IsEmptiedWithKey (s : State) (k : List Entry) (e : Label) : Type 0 where
  pub before : List Entry
  pub places : List ℕ
  pub after : List Entry
  pub splits : k ≡ before ++ Wipe e places ∷ after
  pub place : ℕ
  pub takes : IsTrue (list_any (λ p. p == place) places)
  pub key : Label
  pub held : content (state_after s before).graph e (Key place) ≡ Block key
  pub unreachable : IsTrue (is_gone (state_after s before) (queues (state_after s before)) key)
  pub empty : content (state_after s k).graph e Datum ≡ Nothing

-- data to which no command writes stay, but where the collector empties them with a key whose block can't be reached
abbrev pub DataStay : Type 0
DataStay = (z : Sizes) (h k : List Entry) (e : Label) → Legal z (h ++ k) → let s = state_after (opening z) h in
    NoCommandWrites s k e Datum
    → (content (state_after s k).graph e Datum ≡ content s.graph e Datum) ⊎ IsEmptiedWithKey s k e

-- where keys of an ephemeron are emptied at these places: its data are empty, these keys are, each was full, its block can't be reached, and there is one at least
pub record IsEmptiedTogether (s t : State) (e : Label) (places : List ℕ) : Type 0 where
  pub datum : content t.graph e Datum ≡ Nothing
  pub keys : (i : ℕ) → IsTrue (list_any (λ p. p == i) places) → content t.graph e (Key i) ≡ Nothing
  pub were : (i : ℕ) → IsTrue (list_any (λ p. p == i) places) → (b : Label) × (content s.graph e (Key i) ≡ Block b) × IsTrue (is_gone s (queues s) b)
  pub some : (i : ℕ) × IsTrue (list_any (λ p. p == i) places)

-- the data of an ephemeron go with the first key that the collector empties, and never without one
abbrev pub DataGoWithKeys : Type 0
DataGoWithKeys = (z : Sizes) (h : List Entry) (e : Label) (places : List ℕ) → Legal z (h ++ Wipe e places ∷ []) → let s = state_after (opening z) h in
    IsEmptiedTogether s (next s (Wipe e places)) e places
