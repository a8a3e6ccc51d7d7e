-- What one section sees of another's writes.
use Rattle.std.specs.Prelude.{◌≡◌, ◌≢◌, ◌⊎◌, ℕ, ◌<◌, Bool, true, List, ◌∷◌, ◌++◌, Some}
use Rattle.model_core.specs.declared.label.Label.{Label}
use Rattle.model_core.specs.declared.command.Command as declared_command
use Rattle.model_core.specs.declared.command.Command.TheVariants.{Load, Store}
use Rattle.model_core.specs.declared.entry.Entry.{Entry}
use Rattle.model_core.specs.declared.entry.Entry.TheVariants.{Command}
use Rattle.model_core.specs.declared.graph.Value.{Value}
use Rattle.model_core.specs.declared.state.Sizes.{Sizes}
use Rattle.model_core.specs.declared.state.State.{State}
use Rattle.model_core.specs.Domains.{opening, IsWithinLimits}
use Rattle.model_core.specs.Entries.{next}
use Rattle.model_core.specs.History.{state_after, Legal}
use Rattle.model_laws.specs.Histories.Cells.{Cell, content, writes}
use Rattle.model_laws.specs.Histories.Reads.{IsWrittenIn}
use Rattle.model_traces.specs.Spawns.Hidden.{hidden, scratch, flag_of, result_of, prelude}
use Rattle.model_traces.specs.Spawns.Expansion.{flag_load, is_spawned, IsScriptRun, IsFittingScript}
use Rattle.check_laws.specs.Sections.Orders.{IsOrderly}

-- an entry that stands in these entries wrote a value to a cell
pub record IsWriteIn (s : State) (h : List Entry) (l : Label) (cell : Cell) (v : Value) : Type 0 where
  pub before : List Entry
  pub entry : Entry
  pub behind : List Entry
  pub stands : h ≡ before ++ entry ∷ behind
  pub writes : writes (state_after s before) entry l cell ≡ Some v

-- what it wrote is in the cell behind these entries, or what one of them behind it wrote
abbrev pub IsSeen : State → List Entry → Label → Cell → Value → Type 0
IsSeen s h l cell v = (w : IsWriteIn s h l cell v) × (let found = content (state_after s h).graph l cell in (found ≡ v) ⊎ IsWrittenIn (next (state_after s w.before) w.entry) w.behind l cell found)

-- what was written before a spawn each command of the section that it names sees, but for the loads by which it waits for its start
abbrev pub SpawnsAreSeen : Type 0
SpawnsAreSeen = (z : Sizes) (script : List (List declared_command.Command)) (h : List Entry) → IsWithinLimits z → Legal z h → IsFittingScript script → IsOrderly z.domains script → (run : IsScriptRun z script h)
    → (section : ℕ) → section < z.domains → let s = state_after (opening z) (prelude z.domains) in
    (parent : ℕ) (old rest : List Entry) (full : Bool) → parent ≢ section → run.behind ≡ old ++ Command parent (Store hidden (flag_of section) scratch) full ∷ rest
    → (l : Label) (cell : Cell) (v : Value) → IsWriteIn s old l cell v
    → (before behind : List Entry) (c : declared_command.Command) (own : Bool) → run.behind ≡ before ++ Command section c own ∷ behind → c ≢ flag_load section
    → IsSeen s before l cell v

-- what a command of a section wrote all see from the load on by which a join of it answers
abbrev pub JoinsAreSeen : Type 0
JoinsAreSeen = (z : Sizes) (script : List (List declared_command.Command)) (h : List Entry) → IsWithinLimits z → Legal z h → IsFittingScript script → (run : IsScriptRun z script h)
    → (section : ℕ) → section < z.domains → is_spawned script section ≡ true → let s = state_after (opening z) (prelude z.domains) in
    (d dst : ℕ) (old rest : List Entry) (full : Bool) → run.behind ≡ old ++ Command d (Load dst hidden (result_of section)) full ∷ rest
    → (l : Label) (cell : Cell) (v : Value) (before behind : List Entry) (c : declared_command.Command) (own : Bool)
    → run.behind ≡ before ++ Command section c own ∷ behind → writes (state_after s before) (Command section c own) l cell ≡ Some v
    → (more left : List Entry) → rest ≡ more ++ left → IsSeen s (old ++ Command d (Load dst hidden (result_of section)) full ∷ more) l cell v
