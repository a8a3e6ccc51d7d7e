-- What is known of a trace wherever it is.
use Rattle.std.specs.Prelude.{◌≡◌, ◌<◌, ℕ, List, length, slice_index_or}
use Rattle.run_threads.specs.declared.place.Place.{Place}
use Rattle.run_threads.specs.declared.place.Place.TheVariants.{Empty, Here, Away}
use Rattle.run_threads.specs.declared.trace.Went.TheVariants.{Ended}

-- a trace that is here is one of those that share this, and is over if its last turn said so; one that is away was given to a thread as one of these
abbrev pub Stands : {S T : Type 0} → (S → T → Type 0) → (T → Type 0) → S → Place S T → Type 0
Stands shares is_over shared Empty = Unit {0}
Stands shares is_over shared (Here trace told went) = shares shared trace × (went ≡ Ended → is_over trace)
Stands shares is_over shared (Away child) = child.promise.shared.value ≡ shared

-- this trace began at the place, and is here, maybe further on, or away
abbrev pub Began : {S T : Type 0} → (T → T → Type 0) → T → Place S T → Type 0
Began follows began Empty = ⊥
Began follows began (Here trace told went) = follows began trace
Began follows began (Away child) = child.promise.trace.value ≡ began

-- what began at each place is there still
abbrev pub AllBegan : {S T : Type 0} → (T → T → Type 0) → List (Place S T) → List (Place S T) → Type 0
AllBegan {S} {T} follows old new = (length new ≡ length old) × ((k : ℕ) (began : T) (d : _) → k < length old → Began follows began (slice_index_or old k d) → Began follows began (slice_index_or new k d))
