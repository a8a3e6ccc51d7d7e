-- What holds of each run of a script of version 3 that was read.
use Rattle.std.specs.Prelude.{◌≡◌, ℕ, ◌<◌, ◌≤◌, IsTrue, List, ◌++◌}
use Rattle.model_core.specs.declared.command.Command.{Command}
use Rattle.model_core.specs.declared.entry.Entry.{Entry}
use Rattle.model_core.specs.declared.state.Sizes.{Sizes}
use Rattle.model_core.specs.Domains.{IsWithinLimits, opening}
use Rattle.model_core.specs.Fronts.{IsFrontOf}
use Rattle.model_core.specs.History.{Legal, state_after}
use Rattle.text_script.specs.declared.version.Version.{Version}
use Rattle.text_script.specs.declared.version.Version.TheVariants.{Three}
use Rattle.text_script.specs.Script.{Scripted}
use Rattle.text_script.specs.Spawning.{is_spawned}
use Rattle.text_script.specs.Spelling.{Spells}
use Rattle.model_traces.specs.Spawns.Expansion.{IsFittingScript, IsScriptRun, IsSection, section_at, steps_from}
use Rattle.model_traces.specs.Spawns.Hidden.{prelude}
use Rattle.model_traces.specs.Spawns.Joined.{IsJoined}
use Rattle.model_traces.specs.Spawns.Printed.{PrintLasts, printed_of, printed_replies}

-- the script is of version 3, and some bytes spell it for a run of so many domains
pub record IsRead (domains : ℕ) (script : Scripted) : Type 0 where
  pub newest : Version
  pub bytes : List ℕ
  pub spelled : Spells newest domains script bytes
  pub third : script.version ≡ Three

-- a section that a spawn names: all of it stands behind its spawn and before each join of it that answers
abbrev pub ScriptsJoin : Type 0
ScriptsJoin = (z : Sizes) (script : Scripted) (h : List Entry) → IsWithinLimits z → IsRead z.domains script → Legal z h → (run : IsScriptRun z script.sections h)
    → (section : ℕ) → section < z.domains → IsTrue (is_spawned script.sections section) → IsJoined z script.sections section run.behind

-- each section prints one reply for each of its commands
abbrev pub ScriptsPrintOnce : Type 0
ScriptsPrintOnce = (z : Sizes) (script : Scripted) (h : List Entry) → IsWithinLimits z → IsRead z.domains script → (run : IsScriptRun z script.sections h)
    → (d : ℕ) → (below : d < z.domains) → PrintLasts d (section_at script.sections d) (run.sections d below).middle (printed_of d (steps_from (state_after (opening z) (prelude z.domains)) run.behind d))

-- what a domain's part of the history is once its section is made: it begins with the prelude, entry for entry, and the domain's steps behind that are those of its section
pub record HasMadeSection (z : Sizes) (script : List (List Command)) (h : List Entry) (d : ℕ) (front : List Entry) : Type 0 where
  pub is_front : IsFrontOf d h front
  pub behind : List Entry
  pub begins : front ≡ prelude z.domains ++ behind
  pub makes : IsSection d (is_spawned script d) (section_at script d) (steps_from (state_after (opening z) (prelude z.domains)) behind d)

-- the parts of all domains tell that the history is a run of the script, and what each section prints
pub record AreTold (z : Sizes) (script : List (List Command)) (h : List Entry) (front : ℕ → List Entry) : Type 0 where
  pub run : IsScriptRun z script h
  pub prints : (d : ℕ) → d < z.domains → printed_replies z h d ≡ printed_replies z (front d) d

abbrev pub FrontsTell : Type 0
FrontsTell = (z : Sizes) (script : List (List Command)) (h : List Entry) (front : ℕ → List Entry) → 1 ≤ z.domains → ((d : ℕ) → d < z.domains → HasMadeSection z script h d (front d)) → AreTold z script h front
