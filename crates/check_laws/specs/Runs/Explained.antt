-- What a run or a replay that ended well wrote is an output of the judge's relation.
use Rattle.std.specs.Prelude.{◌≡◌, ◌≢◌, ℕ, List, ◌++◌, Option, Some}
use Rattle.model_core.specs.declared.command.Command.{Command}
use Rattle.model_core.specs.declared.entry.Entry.{Entry}
use Rattle.model_core.specs.declared.state.Sizes.{Sizes}
use Rattle.heap_rule.specs.Ending.{EndedHeap}
use Rattle.text_script.specs.declared.version.Version.TheVariants.{Three}
use Rattle.judge_plain.specs.History.Explains.{Explains, IsRunOf as IsJudgedRun}
use Rattle.judge_plain.specs.Spawned.Explains.{ExplainsSpawning}
use Rattle.camlheap_run.specs.Outcome.{RunsToEnd}
use Rattle.camlheap_run.specs.Replaying.{ReplaysToEnd}
use Rattle.camlheap_run.specs.Run.{IsRunOf}
use Rattle.camlheap_run.specs.Reading.{ReadsSections, ReadsTable}
use Rattle.camlheap_run.specs.Tables.{TableRunsToEnd, sections_text}
use Rattle.table_text.specs.Texts.{Text}
use Rattle.table_text.specs.Sections.Spelling.{Sections}
use Rattle.table_sections.specs.Together.{TogetherRuns}
use Rattle.table_text.specs.declared.machine.reply.LineReply.{LineReply}
use Rattle.table_text.specs.Machine.Machine.{MachineAnswers}
use Rattle.table_text.specs.Machine.Texts.{replies_text}

-- the program and the judge mean the same by a run of a script
abbrev pub RunsAreOne : Type 0
RunsAreOne = (z : Sizes) (script : List (List Command)) (h : List Entry) → (IsRunOf z script h → IsJudgedRun z script h) × (IsJudgedRun z script h → IsRunOf z script h)

-- of a script without spawns some history explains the bytes that were written
abbrev pub RunsAreExplained : Type 0
RunsAreExplained = (z : Sizes) (ended : Option EndedHeap) (left_before left_after : Option (List ℕ)) (before bytes : List ℕ)
    → (x : RunsToEnd z ended left_before left_after (Some before) (Some (before ++ bytes))) → x.script.version ≢ Three → (h : List Entry) × Explains z x.script.sections bytes h

-- and of a script with spawns
abbrev pub SpawningRunsAreExplained : Type 0
SpawningRunsAreExplained = (z : Sizes) (ended : Option EndedHeap) (left_before left_after : Option (List ℕ)) (before bytes : List ℕ)
    → (x : RunsToEnd z ended left_before left_after (Some before) (Some (before ++ bytes))) → x.script.version ≡ Three → (h : List Entry) × ExplainsSpawning z x.script.sections bytes h

-- and of a replay
abbrev pub ReplaysAreExplained : Type 0
ReplaysAreExplained = (z : Sizes) (ended : Option EndedHeap) (left_before left_after : Option (List ℕ)) (before bytes : List ℕ)
    → (x : ReplaysToEnd z ended left_before left_after (Some before) (Some (before ++ bytes))) → (h : List Entry) × Explains z x.replay.script.sections bytes h

-- and of a text of a table for one domain the machine may give the replies that were written
abbrev pub TablesAreExplained : Type 0
TablesAreExplained = (z : Sizes) (ended : Option EndedHeap) (left_before left_after : Option (List ℕ)) (before bytes : List ℕ)
    → z.domains ≡ 1 → TableRunsToEnd z ended left_before left_after (Some before) (Some (before ++ bytes))
    → (text : Text) × ReadsTable left_before left_after text × ((replies : List LineReply) × (replies_text replies ≡ bytes) × MachineAnswers text.version z text.lines replies)

-- and of one for several domains all sections were run in one history, with the replies that were written
abbrev pub SectionsAreExplained : Type 0
SectionsAreExplained = (z : Sizes) (ended : Option EndedHeap) (left_before left_after : Option (List ℕ)) (before bytes : List ℕ)
    → z.domains ≢ 1 → TableRunsToEnd z ended left_before left_after (Some before) (Some (before ++ bytes))
    → (sections : Sections) × ReadsSections z.domains left_before left_after sections
    × ((replies : List (List LineReply)) × (sections_text 0 replies ≡ bytes) × ((h : List Entry) × TogetherRuns z sections replies h))
