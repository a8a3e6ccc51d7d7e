-- The scheduled history of a script is one that a heap may have, and a run of the script: each domain makes the commands of its section and ends.
use Rattle.std.specs.Prelude.{◌≡◌, ◌<◌, ℕ, Bool, true, false, List, [], ◌∷◌, ◌++◌, slice_index_or}
use Rattle.std.specs.List.{list_all}
use Rattle.model_core.specs.declared.command.Command.{Command}
use Rattle.model_core.specs.declared.command.Command.TheVariants.{FullMajor, Spawn, Argument, PutResult, Join}
use Rattle.model_core.specs.declared.entry.Entry.{Entry}
use Rattle.model_core.specs.declared.entry.Entry.TheVariants.{Command as CommandOf, End}
use Rattle.model_core.specs.declared.state.Mode.TheVariants.{Open}
use Rattle.model_core.specs.declared.state.Sizes.{Sizes}
use Rattle.model_core.specs.declared.state.State.{State}
use Rattle.model_core.specs.Domains.{domain_at, opening}
use Rattle.model_core.specs.History.{Legal, commands, state_after}
use Rattle.model_traces.specs.declared.schedules.items.Item.{Item}
use Rattle.model_traces.specs.Schedules.Scheduled.{Played, complete, left_of, scheduled}

-- whether a command is one entry: all are but the four of sections that spawn and join, which stand for several
abbrev pub is_one_entry : Command → Bool
is_one_entry (Spawn section item) = false
is_one_entry (Argument dst) = false
is_one_entry (PutResult item) = false
is_one_entry (Join dst section) = false
is_one_entry c = true

-- the script has no section that spawns or joins
abbrev pub IsPlainScript : List (List Command) → Type 0
IsPlainScript script = list_all (list_all is_one_entry) script ≡ true

-- how far a run has come is a history that the heap may have, no collection is under way, and the commands that are left are each one entry
pub record IsPlayed (z : Sizes) (p : Played) : Type 0 where
  pub legal : Legal z p.history
  pub state : p.state ≡ state_after (opening z) p.history
  pub mode : p.state.mode ≡ Open
  pub plain : (d : ℕ) → list_all is_one_entry (left_of p d) ≡ true

-- what may stand where a complete collection is answered: nothing, or the `full_major` of a domain that runs and owes no finaliser
pub data MayAnswer (s : State) : List Entry → Type 0 where
  Nothing : MayAnswer s []
  One : (d : ℕ) → (domain_at s d).ended ≡ false → (domain_at s d).due ≡ 0 → MayAnswer s (CommandOf d FullMajor false ∷ [])

-- wherever no collection is under way the complete collection of a schedule may be made
abbrev pub CompleteIsLegal : Type 0
CompleteIsLegal = (z : Sizes) (h answered : List Entry) → Legal z h → (state_after (opening z) h).mode ≡ Open → MayAnswer (state_after (opening z) h) answered
    → Legal z (h ++ complete (state_after (opening z) h) answered)

-- the scheduled history of a script is legal
abbrev pub ScheduledIsLegal : Type 0
ScheduledIsLegal = (z : Sizes) (script : List (List Command)) (items : List Item) → IsPlainScript script → Legal z (scheduled z script items)

-- the end of domain d stands in a history
pub record EndsIn (d : ℕ) (h : List Entry) : Type 0 where
  pub before : List Entry
  pub after : List Entry
  pub is : h ≡ before ++ End d ∷ after

-- in it each domain makes the commands of its section, each once and in order, and ends
pub record MakesEach (z : Sizes) (script : List (List Command)) (h : List Entry) : Type 0 where
  pub commands_are : (d : ℕ) → d < z.domains → commands h d ≡ slice_index_or script d []
  pub ends : (d : ℕ) → d < z.domains → EndsIn d h
  pub ended : (d : ℕ) → d < z.domains → (domain_at (state_after (opening z) h) d).ended ≡ true

abbrev pub ScheduledMakesEachCommand : Type 0
ScheduledMakesEachCommand = (z : Sizes) (script : List (List Command)) (items : List Item) → MakesEach z script (scheduled z script items)
