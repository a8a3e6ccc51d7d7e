-- Why the marking of a collection that goes on in one pause ends: each phase of it that asks for another one has marked a block more.
use Rattle.std.specs.Prelude.{◌≡◌, ℕ, ◌+◌, ◌*◌, Bool, true, false, cond, if◌then◌else◌, IsTrue, List, [], ◌∷◌}
use Rattle.model_core.specs.declared.label.Label.{Label}
use Rattle.model_core.specs.Graph.{has_label}
use Rattle.model_cycle.specs.Shares.{Shares}

-- how many of these labels aren't marked
abbrev pub unmarked_of : List Label → (Label → Bool) → ℕ
unmarked_of [] marked = 0
unmarked_of (l ∷ ls) marked = cond (marked l) 0 1 + unmarked_of ls marked

-- one of these labels has been marked since the phase began, at which these were marked
abbrev pub MarkedSince : List Label → (Label → Bool) → (Label → Bool) → Type 0
MarkedSince all before marked = (l : Label) × IsTrue (marked l) × (before l ≡ false) × IsTrue (has_label all l)

-- What holds in each phase of the marking, from where the changed word was set back on: nothing is unmarked again, and where the changed word is set or a domain owes a store of it some block was marked in this phase
pub record IsGrowing (all : List Label) (before marked : Label → Bool) (w : Shares) : Type 0 where
  pub stays : (l : Label) → IsTrue (before l) → IsTrue (marked l)
  pub changed : w.changed ≡ true → MarkedSince all before marked
  pub owing : (d : ℕ) → w.owes d ≡ true → MarkedSince all before marked

-- the two kinds of phases of the marking
pub data Turn : Type 0 where
  Marking : Turn
  Rounding : Turn

-- how many more phases of the marking may come at most, where so many labels aren't marked at the start of one
abbrev pub phases_left : Turn → ℕ → ℕ
phases_left Marking unmarked = unmarked * 2 + 1
phases_left Rounding unmarked = unmarked * 2

-- The kinds of phases of a pause in which a complete collection is made, with that of the marking before the cut or after it. One is named after another
pub data Place : Type 0 where
  Halted : Place
  Promoting : Place
  Resetting : Place
  Rooting : Place
  First : Turn → Place
  Deciding : Place
  Queueing : Place
  Second : Turn → Place
  Cleaning : Place
  Leaving : Place
  Freeing : Place
  Answering : Place
  Running : Place

-- how many phases of the pause are left at most, where a heap has so many labels, and so many aren't marked at the start of this one
abbrev pub pause_left : ℕ → Place → ℕ → ℕ
pause_left all Running unmarked = 0
pause_left all Answering unmarked = 1
pause_left all Freeing unmarked = 2
pause_left all Leaving unmarked = 3
pause_left all Cleaning unmarked = 4
pause_left all (Second turn) unmarked = 5 + phases_left turn unmarked
pause_left all Queueing unmarked = 7 + all * 2
pause_left all Deciding unmarked = 8 + all * 2
pause_left all (First turn) unmarked = 9 + all * 2 + phases_left turn unmarked
pause_left all Rooting unmarked = 11 + all * 4
pause_left all Resetting unmarked = 12 + all * 4
pause_left all Promoting unmarked = 13 + all * 4
pause_left all Halted unmarked = 14 + all * 4

-- which place comes after another, by whether something was found changed: the way that domain 0 leads for a caller who wants a complete collection
abbrev pub leads_to : Place → Bool → Place
leads_to Halted changed = Promoting
leads_to Promoting changed = Resetting
leads_to Resetting changed = Rooting
leads_to Rooting changed = First Marking
leads_to (First Marking) changed = if changed then First Marking else First Rounding
leads_to (First Rounding) changed = if changed then First Marking else Deciding
leads_to Deciding changed = Queueing
leads_to Queueing changed = if changed then Second Marking else Cleaning
leads_to (Second Marking) changed = if changed then Second Marking else Second Rounding
leads_to (Second Rounding) changed = if changed then Second Marking else Cleaning
leads_to Cleaning changed = Leaving
leads_to Leaving changed = Freeing
leads_to Freeing changed = Answering
leads_to Answering changed = Running
leads_to Running changed = Running

-- the pause goes on
abbrev pub GoesOn : Place → Type 0
GoesOn Running = ⊥
GoesOn _ = Unit {0}
