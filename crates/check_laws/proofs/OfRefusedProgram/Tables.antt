-- Which runs of a text of a table the clauses `table` and `table_cut` refuse.
use Rattle.std.proofs.Common.{◌≡◌, ℕ, Bool, true, false, List, Option, Some, None, sym, subst, ⊎_elim, refl, ◌∙◌}
use Rattle.std.specs.Prelude.{◌==◌}
use Rattle.model_core.specs.declared.entry.Entry.{Entry}
use Rattle.model_core.specs.declared.state.Sizes.{Sizes}
use Rattle.heap_rule.specs.Ending.{EndedHeap}
use Rattle.table_text.specs.declared.version.Version.{Version}
use Rattle.table_text.specs.declared.line.TableLine.{TableLine}
use Rattle.table_text.specs.declared.line.TableLine.TheVariants.{FullMajor}
use Rattle.table_text.specs.declared.machine.reply.LineReply.{LineReply}
use Rattle.table_text.specs.Machine.Machine.{AllGone, MachineAnswers, TableState}
use Rattle.table_run.specs.Running.{LineRuns}
use Rattle.table_run.specs.Standing.{Places}
use Rattle.table_run.proofs.TextLemmas.{text_answered}
use Rattle.camlheap_run.specs.Reading.{OneOrMore, ReadsSections, ReadsTable}
use Rattle.camlheap_run.specs.Tables.{ReadsAndDoes, TableRunsToEnd, TableStopsWriting, WritesFrontOfSections, WritesFrontOfTable, WritesSections, WritesTable}
use Rattle.check_laws.proofs.OfRuns.Explaining.{of_one}

-- what was read and done with one domain
pub run_alone : (z : Sizes) (ended : Option EndedHeap) (left_before left_after before after : Option (List ℕ)) → z.domains ≡ 1 → TableRunsToEnd z ended left_before left_after before after
    → ReadsAndDoes (ReadsTable left_before left_after) (λ text. WritesTable z text ended before after)
run_alone z ended left_before left_after before after one x = of_one _ _ z.domains one x

-- no replies are written but those that the machine may give
pub no_reply_of_no_machine : (z : Sizes) (ended : Option EndedHeap) (left_before left_after before after : Option (List ℕ)) (one : z.domains ≡ 1) (x : TableRunsToEnd z ended left_before left_after before after)
    → MachineAnswers (run_alone z ended left_before left_after before after one x).text.version z (run_alone z ended left_before left_after before after one x).text.lines (run_alone z ended left_before left_after before after one x).does.replies
no_reply_of_no_machine z ended left_before left_after before after one x =
    let ran = run_alone z ended left_before left_after before after one x in
    text_answered ran.text.version z ran.text.lines ran.does.replies ran.does.ran.past.history ran.does.ran.runs

no_heap : (past : EndedHeap) (ended : Option EndedHeap) → ended ≡ Some past → ended ≡ None → ⊥
no_heap past ended is none = let clash : Some past ≡ None = sym is ∙ none in cc

neither : (A B : Type 0) (b : Bool) → (A → ⊥) → (B → ⊥) → OneOrMore b A B → ⊥
neither A B true one more x = one x
neither A B false one more x = more x

-- no text is run without a heap
pub no_table_without_a_heap : (z : Sizes) (ended : Option EndedHeap) (left_before left_after before after : Option (List ℕ)) → TableRunsToEnd z ended left_before left_after before after → ended ≡ None → ⊥
no_table_without_a_heap z ended left_before left_after before after x none =
    neither (ReadsAndDoes (ReadsTable left_before left_after) (λ text. WritesTable z text ended before after)) (ReadsAndDoes (ReadsSections z.domains left_before left_after) (λ sections. WritesSections z sections ended before after))
    (z.domains == 1) (λ ran. no_heap ran.does.ran.past ended ran.does.ran.is_past none) (λ ran. no_heap ran.does.ran.past ended ran.does.ran.is_past none) x

pub no_cut_table_without_a_heap : (z : Sizes) (ended : Option EndedHeap) (left_before left_after before after : Option (List ℕ)) → TableStopsWriting z ended left_before left_after before after → ended ≡ None → ⊥
no_cut_table_without_a_heap z ended left_before left_after before after x none =
    neither (ReadsAndDoes (ReadsTable left_before left_after) (λ text. WritesFrontOfTable z text ended before after)) (ReadsAndDoes (ReadsSections z.domains left_before left_after) (λ sections. WritesFrontOfSections z sections ended before after))
    (z.domains == 1) (λ ran. no_heap ran.does.ran.past ended ran.does.ran.is_past none) (λ ran. no_heap ran.does.ran.past ended ran.does.ran.is_past none) x

-- a `full_major` line leaves no key that no register holds
pub no_lost_key_is_left : (version : Version) (z : Sizes) (p : Places) (lines : List TableLine) (s : TableState) (old : List Entry) (a : LineReply) (t : TableState) (new : List Entry) → LineRuns version z p lines FullMajor s old a t new → AllGone t
no_lost_key_is_left version z p lines s old a t new x = ⊎_elim (λ done. subst AllGone (sym done.1) done.2) (λ full. absurd (full.2.allocates refl)) x.step.does
