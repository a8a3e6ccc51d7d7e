-- What a collector may have marked: any closed set that holds the roots and the registrations that it leaves waiting.
use Rattle.std.specs.Prelude.{Bool, List}
use Rattle.model_core.specs.declared.label.Label.{Label}
use Rattle.model_core.specs.declared.state.Pending.{Pending}
use Rattle.model_core.specs.declared.state.State.{State}
use Rattle.model_core.specs.Domains.{roots, waiting}
use Rattle.model_core.specs.Reach.{HoldsRoots, IsClosedUnder}

-- a set that holds the labels of the registers, of these queues and of the waiting registrations, and all that its labels keep alive
pub record IsMarked (s : State) (qs : List (List Pending)) (marked : Label → Bool) : Type 0 where
  pub roots : HoldsRoots (roots s qs) marked
  pub waiting : HoldsRoots (waiting s) marked
  pub closed : IsClosedUnder s.graph marked
