-- How the commands of a section stand in a history: each as itself, but for the four that stand for several others.
use Rattle.std.specs.Prelude.{◌≡◌, ◌≢◌, ℕ, ◌<◌, Bool, true, false, cond, ◌==◌, IsTrue, ℤ, pos, List, [], ◌∷◌, ◌++◌, map, slice_index_or}
use Rattle.std.specs.List.{list_any}
use Rattle.std.specs.Ordering.{int_eq}
use Rattle.model_core.specs.declared.command.Command as declared_command
use Rattle.model_core.specs.declared.command.Command.TheVariants.{PutInt, Load, Store, Spawn, Argument, PutResult, Join}
use Rattle.model_core.specs.declared.entry.Entry.{Entry}
use Rattle.model_core.specs.declared.entry.Entry.TheVariants.{Command}
use Rattle.model_core.specs.declared.graph.Value.{Value}
use Rattle.model_core.specs.declared.graph.Value.TheVariants.{Nothing}
use Rattle.model_core.specs.declared.reply.Reply.{Reply}
use Rattle.model_core.specs.declared.reply.Reply.TheVariants.{Int}
use Rattle.model_core.specs.declared.state.State.{State}
use Rattle.model_core.specs.declared.state.Sizes.{Sizes}
use Rattle.model_core.specs.Domains.{domain_at, opening}
use Rattle.model_core.specs.Commands.{is_full_value, command_outcome}
use Rattle.model_core.specs.Entries.{next}
use Rattle.model_core.specs.History.{state_after}
use Rattle.model_traces.specs.Spawns.Hidden.{hidden, scratch, flag_of, argument_of, result_of, prelude, is_plain}

-- a command of a domain in a history: what the registers held before it, and what it answered
pub record Step : Type 0 where
  pub held : List Value
  pub command : declared_command.Command
  pub answer : Reply

-- the step of domain d in an entry, if it is one
abbrev pub step_of : State → ℕ → Entry → List Step
step_of s d (Command k c full) = cond (k == d) (record { held = (domain_at s k).registers; command = c; answer = (command_outcome s k c full).reply } ∷ []) []
step_of s d _ = []

-- the steps of domain d in some entries, in order
abbrev pub steps_from : State → List Entry → ℕ → List Step
steps_from s [] d = []
steps_from s (e ∷ h) d = step_of s d e ++ steps_from (next s e) h d

-- each step has the property
abbrev pub Each : (Step → Type 0) → List Step → Type 0
Each P [] = Unit {0}
Each P (x ∷ xs) = P x × Each P xs

-- whether a reply is this integer
abbrev pub is_int : ℤ → Reply → Bool
is_int n (Int m) = int_eq m n
is_int n _ = false

-- a load of a section's flag
abbrev pub flag_load : ℕ → declared_command.Command
flag_load section = Load scratch hidden (flag_of section)

-- A section's flag is loaded, and again while the answer isn't an integer, which is the last answer.
pub record Waits (section : ℕ) (until : ℤ) (xs : List Step) : Type 0 where
  pub early : List Step
  pub last : Step
  pub are : xs ≡ early ++ last ∷ []
  pub early_loads : Each (λ x. (x.command ≡ flag_load section) × (is_int until x.answer ≡ false)) early
  pub last_load : last.command ≡ flag_load section
  pub last_answer : IsTrue (is_int until last.answer)

-- the start of a section waits until its flag is 1
abbrev pub IsStart : ℕ → List Step → Type 0
IsStart section = Waits section (pos 1)

-- the commands of a spawn, by whether there is an argument
abbrev pub spawn_commands : Bool → ℕ → ℕ → List declared_command.Command
spawn_commands true section item = Store hidden (argument_of section) item ∷ PutInt scratch (pos 1) ∷ Store hidden (flag_of section) scratch ∷ []
spawn_commands false section item =
    PutInt scratch (pos 0) ∷ Store hidden (argument_of section) scratch ∷ PutInt scratch (pos 1) ∷ Store hidden (flag_of section) scratch ∷ []

-- A spawn: what the item's register holds before the first of its steps is the argument, and the integer 0 where it holds nothing
pub record IsSpawn (section item : ℕ) (xs : List Step) : Type 0 where
  pub first : Step
  pub more : List Step
  pub are : xs ≡ first ∷ more
  pub commands_are : map (λ x. x.command) xs ≡ spawn_commands (is_full_value (slice_index_or first.held item Nothing)) section item

-- a join waits until the flag is 2, and then loads the result
pub record IsJoin (dst section : ℕ) (xs : List Step) : Type 0 where
  pub waits : List Step
  pub last : Step
  pub are : xs ≡ waits ++ last ∷ []
  pub waited : Waits section (pos 2) waits
  pub loads : last.command ≡ Load dst hidden (result_of section)

-- these steps make these commands
abbrev pub Make : List declared_command.Command → List Step → Type 0
Make cs xs = map (λ x. x.command) xs ≡ cs

-- the steps of one command of section d
abbrev pub IsExpansion : ℕ → declared_command.Command → List Step → Type 0
IsExpansion d (Spawn section item) = IsSpawn section item
IsExpansion d (Argument dst) = Make (Load dst hidden (argument_of d) ∷ [])
IsExpansion d (PutResult item) = Make (Store hidden (result_of d) item ∷ [])
IsExpansion d (Join dst section) = IsJoin dst section
IsExpansion d c = Make (c ∷ [])

-- the steps of some commands of section d, each behind those of the one before
abbrev pub AreExpansions : ℕ → List declared_command.Command → List Step → Type 0
AreExpansions d [] xs = xs ≡ []
AreExpansions d (c ∷ cs) xs = (ys : List Step) × (zs : List Step) × (xs ≡ ys ++ zs) × IsExpansion d c ys × AreExpansions d cs zs

-- the commands of the end of a section
abbrev pub finish_commands : ℕ → List declared_command.Command
finish_commands d = PutInt scratch (pos 2) ∷ Store hidden (flag_of d) scratch ∷ []

-- Section d: where a spawn names it, it waits for that first, and tells its end last.
pub record IsSection (d : ℕ) (spawned : Bool) (cs : List declared_command.Command) (xs : List Step) : Type 0 where
  pub start : List Step
  pub middle : List Step
  pub finish : List Step
  pub are : xs ≡ start ++ (middle ++ finish)
  pub starts : cond spawned (IsStart d start) (start ≡ [])
  pub makes : AreExpansions d cs middle
  pub finishes : cond spawned (Make (finish_commands d) finish) (finish ≡ [])

-- whether a command spawns a section
abbrev pub is_spawn_of : ℕ → declared_command.Command → Bool
is_spawn_of section (Spawn t item) = t == section
is_spawn_of section _ = false

-- whether a spawn of the script names a section
abbrev pub is_spawned : List (List declared_command.Command) → ℕ → Bool
is_spawned script section = list_any (list_any (is_spawn_of section)) script

-- the commands of section d
abbrev pub section_at : List (List declared_command.Command) → ℕ → List declared_command.Command
section_at script d = slice_index_or script d []

-- A history of a script: the hidden block is made first, and then each domain makes the steps of its section.
pub record IsScriptRun (z : Sizes) (script : List (List declared_command.Command)) (h : List Entry) : Type 0 where
  pub behind : List Entry
  pub begins : h ≡ prelude z.domains ++ behind
  pub sections : (d : ℕ) → d < z.domains
      → IsSection d (is_spawned script d) (section_at script d) (steps_from (state_after (opening z) (prelude z.domains)) behind d)

-- what a command of section d may be: it names registers of scripts alone, and a spawn or a join names another section
abbrev pub IsFitting : ℕ → declared_command.Command → Type 0
IsFitting d (Spawn section item) = IsTrue (is_plain (Spawn section item)) × (section ≢ d) × (section < 8)
IsFitting d (Join dst section) = IsTrue (is_plain (Join dst section)) × (section ≢ d) × (section < 8)
IsFitting d c = IsTrue (is_plain c)

abbrev pub AreFitting : ℕ → List declared_command.Command → Type 0
AreFitting d [] = Unit {0}
AreFitting d (c ∷ cs) = IsFitting d c × AreFitting d cs

-- each section's commands may be its commands
abbrev pub IsFittingScript : List (List declared_command.Command) → Type 0
IsFittingScript script = (d : ℕ) → AreFitting d (section_at script d)
