-- The commands of the sections in the tests.
use Rattle.std.specs.Prelude.{◌≡◌, ◌<◌, ℕ}
use Rattle.model_core.specs.declared.command.Command.{Command}
use Rattle.model_traces.specs.Spawns.Expansion.{IsFitting}
use Rattle.heap_rule.specs.Token.{Token, SharedHeap}
use Rattle.do_spawn.specs.Opening.{IsOpened}
use Rattle.run_turns.specs.Sections.{FitsSection}
use Rattle.run_turns.specs.Tries.{ephemerons_of, registrations_of}

-- the command may stand in the section with this number, and needs no room for an ephemeron or a finaliser
pub record MayStand (number : ℕ) (c : Command) : Type 0 where
  pub fits : FitsSection c
  pub fitting : IsFitting number c
  pub no_ephemeron : ephemerons_of c ≡ 0
  pub no_finaliser : registrations_of c ≡ 0

-- the domain of this heap has the hidden block, and has made nothing else
pub record IsHanded (h : SharedHeap) (t : Token) : Type 0 where
  pub opened : IsOpened h t.view.own.number t
  pub inside : t.view.own.number < h.config.domains
