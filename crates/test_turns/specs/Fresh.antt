-- The domains of a heap that has just started.
use Rattle.std.specs.Prelude.{◌≡◌, []}
use Rattle.model_core.specs.declared.command.Command.{Command}
use Rattle.heap_rule.specs.Running.{Runs}
use Rattle.heap_rule.specs.Token.{Token, SharedHeap}
use Rattle.run_turns.specs.Runs.{CanBegin}
use Rattle.run_turns.specs.Tries.{FitsHeap, ephemerons_of}

-- the domain runs, may begin commands, has made no block, and has arrived nowhere
pub record IsFresh (h : SharedHeap) (t : Token) : Type 0 where
  pub runs : Runs h t
  pub begins : CanBegin t []
  pub unlabelled : t.view.own.serial ≡ 0
  pub nowhere : t.view.own.arrivals ≡ 0

-- the command runs on the shared heap, and makes no ephemeron
abbrev pub MakesNoEphemeron : Command → Type 0
MakesNoEphemeron c = FitsHeap c × (ephemerons_of c ≡ 0)
