-- What a join rests on: the whole section that it names stands before it in the one history, and behind its spawn.
use Rattle.std.specs.Prelude.{◌≡◌, ◌≢◌, ℕ, ◌<◌, ◌≤◌, Bool, true, false, cond, ◌==◌, ◌&&◌, IsTrue, pos, List, [], ◌∷◌, ◌++◌, fold, slice_index_or}
use Rattle.std.specs.List.{list_any}
use Rattle.model_core.specs.declared.command.Command as declared_command
use Rattle.model_core.specs.declared.command.Command.TheVariants.{Load, Store}
use Rattle.model_core.specs.declared.entry.Entry.{Entry}
use Rattle.model_core.specs.declared.entry.Entry.TheVariants.{Command}
use Rattle.model_core.specs.declared.graph.Value.{Value}
use Rattle.model_core.specs.declared.graph.Value.TheVariants.{Int as IntValue, Nothing}
use Rattle.model_core.specs.declared.reply.Reply.{Reply}
use Rattle.model_core.specs.declared.reply.Reply.TheVariants.{Done, Int}
use Rattle.model_core.specs.declared.reply.Applied.TheVariants.{Replied}
use Rattle.model_core.specs.declared.state.Sizes.{Sizes}
use Rattle.model_core.specs.Domains.{opening, IsWithinLimits}
use Rattle.model_core.specs.Commands.{shown}
use Rattle.model_core.specs.Entries.{reply}
use Rattle.model_core.specs.History.{state_after, Legal, commands}
use Rattle.model_traces.specs.Spawns.Hidden.{hidden, scratch, flag_of, result_of, prelude}
use Rattle.model_traces.specs.Spawns.Expansion.{Step, steps_from, flag_load, is_spawn_of, section_at, IsScriptRun, IsFittingScript}

-- whether a command stores a section's result
abbrev pub is_result_of : ℕ → declared_command.Command → Bool
is_result_of section (Store block index item) = block == hidden && index == result_of section
is_result_of section _ = false

-- the value that a command's item is
abbrev pub item_in : List Value → declared_command.Command → Value
item_in held (Store block index item) = slice_index_or held item Nothing
item_in held _ = Nothing

-- whether a reply is `ok`
abbrev pub is_ok : Reply → Bool
is_ok Done = true
is_ok _ = false

-- the result of a section once it has made one more step
abbrev pub result_after : ℕ → Value → Step → Value
result_after section v x = cond (is_result_of section x.command && is_ok x.answer) (item_in x.held x.command) v

-- what the last of these steps that stored the section's result and answered `ok` stored, and the integer 0 where none did
abbrev pub last_result : ℕ → List Step → Value
last_result section xs = fold (result_after section) (IntValue (pos 0)) xs

-- a spawn of the section stands in these entries: its last store, of a domain in whose section the spawn is
pub record IsSpawnedIn (script : List (List declared_command.Command)) (section : ℕ) (h : List Entry) : Type 0 where
  pub parent : ℕ
  pub before : List Entry
  pub behind : List Entry
  pub full : Bool
  pub other : parent ≢ section
  pub spawns : IsTrue (list_any (is_spawn_of section) (section_at script parent))
  pub stands : h ≡ before ++ Command parent (Store hidden (flag_of section) scratch) full ∷ behind

-- what holds of a section that a spawn names, in what stands behind the entries by which the hidden block is made
pub record IsJoined (z : Sizes) (script : List (List declared_command.Command)) (section : ℕ) (h : List Entry) : Type 0 where
  -- each command of the section, but for the loads by which it waits for its start, stands behind its spawn
  pub begun : (before behind : List Entry) (c : declared_command.Command) (full : Bool)
      → h ≡ before ++ Command section c full ∷ behind → c ≢ flag_load section → IsSpawnedIn script section before
  -- the last store of its spawn answers `ok`, as the spawn does
  pub spawned : (before behind : List Entry) (d : ℕ) (full : Bool)
      → h ≡ before ++ Command d (Store hidden (flag_of section) scratch) full ∷ behind
      → let s = state_after (opening z) (prelude z.domains) in
      reply (state_after s before) (Command d (Store hidden (flag_of section) scratch) full) ≡ Replied Done
  -- each load of its flag answers 0, 1 or 2, and one by which it waits for its start 0 or 1
  pub waits : (before behind : List Entry) (d : ℕ) (full : Bool)
      → h ≡ before ++ Command d (flag_load section) full ∷ behind
      → let s = state_after (opening z) (prelude z.domains) in
      (n : ℕ) × (n ≤ 2) × (d ≡ section → n ≤ 1) × (reply (state_after s before) (Command d (flag_load section) full) ≡ Replied (Int (pos n)))
  -- none stands behind the load of its result by which a join answers
  pub ended : (before behind : List Entry) (d dst : ℕ) (full : Bool)
      → h ≡ before ++ Command d (Load dst hidden (result_of section)) full ∷ behind → commands behind section ≡ []
  -- and that load gives what its last result stored
  pub given : (before behind : List Entry) (d dst : ℕ) (full : Bool)
      → h ≡ before ++ Command d (Load dst hidden (result_of section)) full ∷ behind
      → let s = state_after (opening z) (prelude z.domains) in
      reply (state_after s before) (Command d (Load dst hidden (result_of section)) full) ≡ Replied (shown (last_result section (steps_from s h section)))

-- whatever the schedule, a join comes after the whole section that it names
abbrev pub JoinLaw : Type 0
JoinLaw = (z : Sizes) (script : List (List declared_command.Command)) (h : List Entry) → IsWithinLimits z → Legal z h → IsFittingScript script
    → (run : IsScriptRun z script h) → (section : ℕ) → section < z.domains → IsTrue (list_any (list_any (is_spawn_of section)) script) → IsJoined z script section run.behind
