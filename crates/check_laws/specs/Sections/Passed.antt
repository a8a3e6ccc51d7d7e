-- What a section is passed by the spawn that names it.
use Rattle.std.specs.Prelude.{◌≡◌, ℕ, ◌<◌, Bool, cond, pos, List, ◌∷◌, ◌++◌, slice_index_or}
use Rattle.model_core.specs.declared.command.Command as declared_command
use Rattle.model_core.specs.declared.command.Command.TheVariants.{Load}
use Rattle.model_core.specs.declared.entry.Entry.{Entry}
use Rattle.model_core.specs.declared.entry.Entry.TheVariants.{Command}
use Rattle.model_core.specs.declared.graph.Value.{Value}
use Rattle.model_core.specs.declared.graph.Value.TheVariants.{Int as IntValue, Nothing}
use Rattle.model_core.specs.declared.reply.Applied.TheVariants.{Replied}
use Rattle.model_core.specs.declared.state.Sizes.{Sizes}
use Rattle.model_core.specs.Domains.{opening, IsWithinLimits}
use Rattle.model_core.specs.Commands.{shown, is_full_value}
use Rattle.model_core.specs.Entries.{reply}
use Rattle.model_core.specs.History.{state_after, Legal}
use Rattle.model_traces.specs.Spawns.Hidden.{hidden, argument_of, prelude}
use Rattle.model_traces.specs.Spawns.Expansion.{Step, steps_from, IsSpawn, IsScriptRun, IsFittingScript}
use Rattle.check_laws.specs.Sections.Orders.{spawns_of, IsOrderly}

-- what a spawn passes: what the item's register holds before its first step, and the integer 0 where that is nothing
abbrev pub passed_value : List Value → ℕ → Value
passed_value held item = let v = slice_index_or held item Nothing in cond (is_full_value v) v (IntValue (pos 0))

-- the steps of a spawn stand among those of a domain
pub record HasSpawn (section item : ℕ) (xs : List Step) : Type 0 where
  pub before : List Step
  pub steps : List Step
  pub behind : List Step
  pub are : xs ≡ before ++ (steps ++ behind)
  pub spawn : IsSpawn section item steps

-- each load by which a section takes its argument answers this value
abbrev pub AnswersArgument : Sizes → ℕ → List Entry → Value → Type 0
AnswersArgument z section h v = (before behind : List Entry) (dst : ℕ) (full : Bool) → h ≡ before ++ Command section (Load dst hidden (argument_of section)) full ∷ behind
    → let s = state_after (opening z) (prelude z.domains) in reply (state_after s before) (Command section (Load dst hidden (argument_of section)) full) ≡ Replied (shown v)

-- each `argument` of a section that a spawn names answers what that passed
abbrev pub ArgumentsArePassed : Type 0
ArgumentsArePassed = (z : Sizes) (script : List (List declared_command.Command)) (h : List Entry) → IsWithinLimits z → Legal z h → IsFittingScript script → IsOrderly z.domains script → (run : IsScriptRun z script h)
    → (section : ℕ) → section < z.domains → (parent item : ℕ) → parent < z.domains
    → (spawn : HasSpawn section item (steps_from (state_after (opening z) (prelude z.domains)) run.behind parent))
    → AnswersArgument z section run.behind (passed_value spawn.spawn.first.held item)

-- and each of one that no spawn names answers 0
abbrev pub UnpassedIsZero : Type 0
UnpassedIsZero = (z : Sizes) (script : List (List declared_command.Command)) (h : List Entry) → IsWithinLimits z → Legal z h → IsFittingScript script → (run : IsScriptRun z script h)
    → (section : ℕ) → section < z.domains → spawns_of script section ≡ 0 → AnswersArgument z section run.behind (IntValue (pos 0))
