-- Worked rows: a scheduled history that is a run, and one that isn't.
use Rattle.std.proofs.Common.{◌≡◌, false, List, [], ◌∷◌, refl}
use Rattle.model_core.specs.declared.command.Command.{Command}
use Rattle.model_core.specs.declared.command.Command.TheVariants.{Alloc, FullMajor, Join}
use Rattle.model_core.specs.declared.entry.Entry.TheVariants.{Command as CommandOf, End, Cut, Seal, Collected, Done}
use Rattle.model_core.specs.declared.state.Sizes.{Sizes}
use Rattle.model_core.specs.Reach.{reachable}
use Rattle.model_core.specs.History.{Legal}
use Rattle.model_traces.specs.Schedules.Scheduled.{scheduled}
use Rattle.model_traces.proofs.OfScheduled.Turns.{scheduled_law}

abbrev sizes : Sizes
sizes = record { domains = 1; pools = 512; minor_words = 32768; classes = 6 }

-- a `full_major` is answered in a collection of its own, though nothing is garbage
abbrev counted : List (List Command)
counted = (Alloc 1 0 1 ∷ FullMajor ∷ []) ∷ []

counted_history : scheduled sizes counted [] ≡ CommandOf 0 (Alloc 1 0 1) false ∷ Cut ∷ Seal ∷ Collected ∷ CommandOf 0 FullMajor false ∷ Done ∷ End 0 ∷ []
unfolding reachable
counted_history = refl

counted_legal : Legal sizes (scheduled sizes counted [])
counted_legal = scheduled_law sizes counted [] refl

-- a section that joins another isn't made entry by entry: its scheduled history is none of the heap's
joining_illegal : Legal sizes (scheduled sizes ((Join 1 0 ∷ []) ∷ []) []) → ⊥
joining_illegal legal = legal.0.fits
