-- What `spawn`, `argument` and `join` may print.
use Rattle.std.specs.Prelude.{◌≡◌, ℕ, ◌<◌, Bool, true, false, IsTrue, List, [], ◌∷◌}
use Rattle.model_core.specs.declared.command.Command as declared_command
use Rattle.model_core.specs.declared.command.Command.TheVariants.{Spawn, Argument, Join}
use Rattle.model_core.specs.declared.entry.Entry.{Entry}
use Rattle.model_core.specs.declared.reply.Reply.{Reply}
use Rattle.model_core.specs.declared.reply.Reply.TheVariants.{Done, Int, Block}
use Rattle.model_core.specs.declared.state.Sizes.{Sizes}
use Rattle.model_core.specs.Domains.{opening, IsWithinLimits}
use Rattle.model_core.specs.History.{state_after, Legal}
use Rattle.model_traces.specs.Spawns.Hidden.{prelude}
use Rattle.model_traces.specs.Spawns.Expansion.{steps_from, section_at, IsScriptRun, IsFittingScript}
use Rattle.model_traces.specs.Spawns.Printed.{printed_of}

-- whether a reply shows an integer or a block
abbrev pub is_value : Reply → Bool
is_value (Int n) = true
is_value (Block l) = true
is_value _ = false

-- a spawn prints `ok`, and an argument and a join an integer or a block
abbrev pub MayPrint : declared_command.Command → Reply → Type 0
MayPrint (Spawn section item) r = r ≡ Done
MayPrint (Argument dst) r = IsTrue (is_value r)
MayPrint (Join dst section) r = IsTrue (is_value r)
MayPrint _ r = Unit {0}

-- these replies are of these commands, one of each
abbrev pub MayPrintEach : List declared_command.Command → List Reply → Type 0
MayPrintEach [] rs = rs ≡ []
MayPrintEach (c ∷ cs) rs = (r : Reply) × (more : List Reply) × (rs ≡ r ∷ more) × MayPrint c r × MayPrintEach cs more

-- in each run of a script each section prints such replies
abbrev pub SpawnsPrintOk : Type 0
SpawnsPrintOk = (z : Sizes) (script : List (List declared_command.Command)) (h : List Entry) → IsWithinLimits z → Legal z h → IsFittingScript script → (run : IsScriptRun z script h)
    → (d : ℕ) → d < z.domains → MayPrintEach (section_at script d) (printed_of d (steps_from (state_after (opening z) (prelude z.domains)) run.behind d))
