-- The laws of sections hold of each run of a script of version 3 that ended well.
use Rattle.std.proofs.Common.{ℕ, List, Option, subst}
use Rattle.std.specs.Io.KnownBytes.{Appends}
use Rattle.model_core.specs.declared.command.Command.{Command}
use Rattle.model_core.specs.declared.entry.Entry.{Entry}
use Rattle.model_core.specs.declared.state.Sizes.{Sizes}
use Rattle.model_core.specs.Domains.{IsWithinLimits}
use Rattle.heap_rule.specs.Ending.{EndedHeap}
use Rattle.text_script.specs.declared.version.Version.{Version}
use Rattle.text_script.specs.declared.version.Version.TheVariants.{Three}
use Rattle.model_traces.specs.Spawns.Expansion.{IsFittingScript}
use Rattle.model_traces.specs.Spawns.Printed.{spawning_output}
use Rattle.text_script.specs.Spawned.Reads.{IsRead}
use Rattle.text_script.proofs.OfSpawned.Fitting.{spelled_fits}
use Rattle.check_laws.specs.Sections.Orders.{IsOrderly}
use Rattle.check_laws.proofs.OfSections.Ordering.{read_orderly}
use Rattle.check_laws.proofs.OfSections.Passing.{passed_arguments}
use Rattle.check_laws.proofs.OfSections.Printing.{prints_ok}
use Rattle.camlheap_run.specs.Outcome.{WritesRunBy}
use Rattle.camlheap_run.specs.Run.{IsSpawningRunOf, is_run_of, output_of}
use Rattle.check_laws.specs.Runs.Sections.{KeepsItsSections, SpawningRunsKeep}

keeps : (z : Sizes) (script : List (List Command)) (h : List Entry) → IsWithinLimits z → IsFittingScript script → IsOrderly z.domains script → IsSpawningRunOf z script h → KeepsItsSections z script h
keeps z script h limits fitting orderly is = record {
  run = is.run;
  orderly = orderly;
  passed = λ section parent item within below spawn. passed_arguments z script h limits is.legal fitting orderly is.run section within parent item below spawn;
  prints = prints_ok z script h limits is.legal fitting is.run;
}

written : (z : Sizes) (script : List (List Command)) (ended : Option EndedHeap) (before after : Option (List ℕ)) → IsWithinLimits z → IsFittingScript script → IsOrderly z.domains script
    → WritesRunBy IsSpawningRunOf spawning_output z script ended before after → (h : List Entry) × KeepsItsSections z script h × Appends before after (spawning_output z h)
written z script ended before after limits fitting orderly w = (w.ran.past.history, keeps z script w.ran.past.history limits fitting orderly w.ran.run, w.written)

pub spawning_keeps : SpawningRunsKeep
spawning_keeps z ended left_before left_after before after limits x third =
    let read : IsRead z.domains x.script = record { newest = Three; bytes = x.reads.bytes; spelled = x.reads.spelled; third = third } in
    written z x.script.sections ended before after limits (spelled_fits Three z.domains x.script x.reads.bytes x.reads.spelled third) (read_orderly z.domains x.script read)
    (subst (λ (v : Version). WritesRunBy (is_run_of v) (output_of v) z x.script.sections ended before after) third x.writes)
