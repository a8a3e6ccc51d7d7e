-- What is written of runs and histories.
use Rattle.std.specs.Prelude.{ℕ, ◌+◌, ◌%◌, ℤ, pos, unsigned_abs, List, ◌++◌, length, flat_map, codes, decimal}
use Rattle.std.specs.Int.{int_rem_euclid}
use Rattle.model_core.specs.declared.entry.Entry.{Entry}
use Rattle.model_core.specs.declared.state.Sizes.{Sizes}
use Rattle.model_core.specs.Output.{line, printed, ints_of, int_sum, output, summary}
use Rattle.text_script.specs.Spelling.{heading_text}
use Rattle.run_turns.specs.Runs.{RunView}
use Rattle.camlheap_run.specs.declared.write.report.Report.{Report}
use Rattle.camlheap_run.specs.declared.write.report.Report.TheVariants.{Replies, Summary}

-- the integers that a run was answered
abbrev pub ints_in : RunView → List ℤ
ints_in r = flat_map ints_of r.replies

-- the summary line of a run
abbrev pub run_summary : RunView → List ℕ
run_summary r =
    line (codes "domain " ++ decimal r.token.view.own.number ++ codes " commands " ++ decimal r.next
    ++ codes " ints " ++ decimal (length (ints_in r)) ++ codes " sum " ++ decimal (int_sum (ints_in r)))

-- what is written of a run: the heading of its domain and the lines of its replies, or its summary line
abbrev pub run_text : Report → RunView → List ℕ
run_text Replies r = line (heading_text r.token.view.own.number) ++ printed r.replies
run_text Summary r = run_summary r

-- what is written of a history
abbrev pub text_of : Report → Sizes → List Entry → List ℕ
text_of Replies = output
text_of Summary = summary

-- the sum of integers with one more, modulo 1,000,003
abbrev pub sum_with : ℕ → ℤ → ℕ
sum_with sum v = (sum + unsigned_abs (int_rem_euclid v (pos 1000003))) % 1000003
