-- What the program means by a run is what the judge means.
use Rattle.std.proofs.Common.{◌≡◌, ◌≢◌, ℕ, Bool, List, [], ◌∷◌, ◌++◌, Option, Some, refl, ap, sym, subst, ◌∙◌}
use Rattle.std.specs.Prelude.{◌==◌}
use Rattle.std.specs.List.{list_any}
use Rattle.model_core.specs.declared.command.Command.{Command}
use Rattle.model_core.specs.declared.entry.Entry.{Entry}
use Rattle.model_core.specs.declared.entry.Entry.TheVariants.{Command as CommandOf, End, Cut, Queue, Seal, Wipe, Last, Collected, Done, Ran}
use Rattle.model_core.specs.declared.state.Sizes.{Sizes}
use Rattle.model_core.specs.Output.{output}
use Rattle.heap_rule.specs.Ending.{EndedHeap}
use Rattle.text_script.specs.declared.version.Version.{Version}
use Rattle.text_script.specs.declared.version.Version.TheVariants.{One, Two, Three}
use Rattle.run_turns.specs.Runs.{is_end_of}
use Rattle.judge_plain.specs.History.Explains.{Explains}
use Rattle.judge_plain.specs.History.Steps.{is_end_of as is_judged_end}
use Rattle.camlheap_run.specs.Outcome.{WritesRun, WritesRunBy}
use Rattle.camlheap_run.specs.Reading.{OneOrMore}
use Rattle.camlheap_run.specs.Run.{IsSpawningRunOf, is_run_of, output_of}
use Rattle.camlheap_run.specs.Tables.{WritesSections, WritesTable, sections_text}
use Rattle.camlheap_run.proofs.SourceLemmas.{is_more, is_one}
use Rattle.model_traces.specs.Spawns.Printed.{spawning_output}
use Rattle.judge_plain.specs.Spawned.Explains.{ExplainsSpawning}
use Rattle.table_text.specs.declared.version.Version as tables
use Rattle.table_text.specs.declared.line.TableLine.{TableLine}
use Rattle.table_text.specs.declared.machine.reply.LineReply.{LineReply}
use Rattle.table_text.specs.Machine.Machine.{MachineAnswers, MachineRuns, TableState, opened}
use Rattle.table_text.specs.Machine.Texts.{replies_text}
use Rattle.table_text.specs.Texts.{Text}
use Rattle.table_text.specs.Sections.Spelling.{Sections}
use Rattle.table_sections.specs.Together.{TogetherRuns}
use Rattle.table_run.specs.Running.{LinesRun, TextRuns}
use Rattle.table_run.specs.Standing.{Places}
use Rattle.check_laws.specs.Runs.Explained.{RunsAreOne, RunsAreExplained, ReplaysAreExplained, SectionsAreExplained, SpawningRunsAreExplained, TablesAreExplained}

same_end : (d : ℕ) (e : Entry) → is_end_of d e ≡ is_judged_end d e
same_end d (End k) = refl
same_end d (CommandOf k c full) = refl
same_end d Cut = refl
same_end d (Queue k places) = refl
same_end d Seal = refl
same_end d (Wipe l keys) = refl
same_end d (Last k place) = refl
same_end d Collected = refl
same_end d Done = refl
same_end d (Ran k) = refl

same_ends : (d : ℕ) (h : List Entry) → list_any (is_end_of d) h ≡ list_any (is_judged_end d) h
same_ends d h = ap (λ (f : Entry → Bool). list_any f h) (λ i e. same_end d e i)

pub one_run : RunsAreOne
one_run z script h = (
  (λ is. record { legal = is.legal; each_command = is.each_command; each_ends = λ d less. sym (same_ends d h) ∙ is.each_ends d less }),
  (λ is. record { legal = is.legal; each_command = is.each_command; each_ends = λ d less. same_ends d h ∙ is.each_ends d less }),
)

-- two lists that begin alike and are one go on alike
pub same_rest : (xs ys zs : List ℕ) → xs ++ ys ≡ xs ++ zs → ys ≡ zs
same_rest [] ys zs is = is
same_rest (x ∷ xs) ys zs is = let rest : xs ++ ys ≡ xs ++ zs = cc in same_rest xs ys zs rest

explained : (z : Sizes) (script : List (List Command)) (ended : Option EndedHeap) (before bytes : List ℕ) → WritesRun output z script ended (Some before) (Some (before ++ bytes)) → (h : List Entry) × Explains z script bytes h
explained z script ended before bytes w = (
  w.ran.past.history,
  record { run = (one_run z script w.ran.past.history).0 w.ran.run; prints = sym (same_rest before bytes (output z w.ran.past.history) w.written) },
)

by_version : (z : Sizes) (v : Version) (script : List (List Command)) (ended : Option EndedHeap) (before bytes : List ℕ) → v ≢ Three → WritesRunBy (is_run_of v) (output_of v) z script ended (Some before) (Some (before ++ bytes))
    → (h : List Entry) × Explains z script bytes h
by_version z One script ended before bytes older w = explained z script ended before bytes w
by_version z Two script ended before bytes older w = explained z script ended before bytes w
by_version z Three script ended before bytes older w = absurd (older refl)

pub explained_runs : RunsAreExplained
explained_runs z ended left_before left_after before bytes x older = by_version z x.script.version x.script.sections ended before bytes older x.writes

explained_spawning : (z : Sizes) (script : List (List Command)) (ended : Option EndedHeap) (before bytes : List ℕ) → WritesRunBy IsSpawningRunOf spawning_output z script ended (Some before) (Some (before ++ bytes))
    → (h : List Entry) × ExplainsSpawning z script bytes h
explained_spawning z script ended before bytes w = (
  w.ran.past.history,
  record {
    legal = w.ran.run.legal;
    run = w.ran.run.run;
    each_ends = λ d less. sym (same_ends d w.ran.past.history) ∙ w.ran.run.each_ends d less;
    prints = sym (same_rest before bytes (spawning_output z w.ran.past.history) w.written);
  },
)

pub explained_spawning_runs : SpawningRunsAreExplained
explained_spawning_runs z ended left_before left_after before bytes x third =
    explained_spawning z x.script.sections ended before bytes (subst (λ (v : Version). WritesRunBy (is_run_of v) (output_of v) z x.script.sections ended (Some before) (Some (before ++ bytes))) third x.writes)

pub explained_replays : ReplaysAreExplained
explained_replays z ended left_before left_after before bytes x = explained z x.replay.script.sections ended before bytes x.writes.writes

-- the lines of a text that was run are steps of its machine
machine_runs : (version : tables.Version) (z : Sizes) (p : Places) (before : List TableLine) (s : TableState) (old : List Entry) (lines : List TableLine) (replies : List LineReply) (t : TableState) (new : List Entry)
    → LinesRun version z p before s old lines replies t new → (states : List TableState) × MachineRuns version z before s lines replies states
machine_runs version z p before s old [] [] t new runs = ([], tt)
machine_runs version z p before s old (l ∷ lines) (a ∷ replies) t new (u, h, here, later) =
    let rest = machine_runs version z p (before ++ l ∷ []) u h lines replies t new later in (u ∷ rest.0, (here.step, rest.1))
machine_runs version z p before s old [] (a ∷ replies) t new runs = absurd runs
machine_runs version z p before s old (l ∷ lines) [] t new runs = absurd runs

answered : (version : tables.Version) (z : Sizes) (lines : List TableLine) (replies : List LineReply) (h : List Entry) → TextRuns version z lines replies h → MachineAnswers version z lines replies
answered version z lines replies h x = let runs = machine_runs version z x.places [] opened x.first lines replies x.state x.last x.lines_run in record { states = runs.0; runs = runs.1 }

explained_table : (z : Sizes) (text : Text) (ended : Option EndedHeap) (before bytes : List ℕ) → WritesTable z text ended (Some before) (Some (before ++ bytes))
    → (replies : List LineReply) × (replies_text replies ≡ bytes) × MachineAnswers text.version z text.lines replies
explained_table z text ended before bytes w =
    (w.replies, sym (same_rest before bytes (replies_text w.replies) w.written), answered text.version z text.lines w.replies w.ran.past.history w.ran.runs)

explained_together : (z : Sizes) (sections : Sections) (ended : Option EndedHeap) (before bytes : List ℕ) → WritesSections z sections ended (Some before) (Some (before ++ bytes))
    → (replies : List (List LineReply)) × (sections_text 0 replies ≡ bytes) × ((h : List Entry) × TogetherRuns z sections replies h)
explained_together z sections ended before bytes w =
    (w.replies, sym (same_rest before bytes (sections_text 0 w.replies) w.written), (w.ran.past.history, w.ran.runs))

-- of one domain, and of several
pub of_one : (A B : Type 0) (n : ℕ) → n ≡ 1 → OneOrMore (n == 1) A B → A
of_one A B n one x = subst (λ b. OneOrMore b A B) (is_one n one) x

of_more : (A B : Type 0) (n : ℕ) → n ≢ 1 → OneOrMore (n == 1) A B → B
of_more A B n other x = subst (λ b. OneOrMore b A B) (is_more n other) x

pub explained_tables : TablesAreExplained
explained_tables z ended left_before left_after before bytes one x =
    let ran = of_one _ _ z.domains one x in (ran.text, ran.reads, explained_table z ran.text ended before bytes ran.does)

pub explained_sections : SectionsAreExplained
explained_sections z ended left_before left_after before bytes more x =
    let ran = of_more _ _ z.domains more x in (ran.text, ran.reads, explained_together z ran.text ended before bytes ran.does)
