-- What a keeper knows of the run that it put to rest.
use Rattle.std.specs.Prelude.{Option}
use Rattle.heap_rule.specs.Token.{SharedHeap}
use Rattle.run_seats.specs.Pool.Keeping.{KeepsOf}
use Rattle.run_seats.specs.Shared.Idling.{IsIdleIn}
use Rattle.run_seats.specs.declared.idle.Idle.{Idle}

-- what a keeper put to rest was a run of this heap
abbrev pub KeepsHeap : SharedHeap → Option Idle → Type 0
KeepsHeap h o = KeepsOf (λ (x : SharedHeap) (i : Idle). IsIdleIn x i.run) h o
