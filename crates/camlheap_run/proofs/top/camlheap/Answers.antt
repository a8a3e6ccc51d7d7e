use Rattle.std.proofs.Common.{◌≡◌, map, subst, sym, Some, rules, arith}
use Rattle.std.proofs.lemmas.Grind.{common_steps}
use Rattle.std.specs.Prelude.{string_bytes}
use Rattle.model_core.specs.declared.state.Sizes.{Sizes}
use Rattle.text_script.specs.declared.words.job.Generated.{Generated}
use Rattle.text_script.specs.declared.words.job.Job.TheVariants.{Replay}
use Rattle.text_script.specs.Words.Jobs.{asked_job}
use Rattle.camlheap_run.specs.Outcome.{IsSourceAnswer, LoadsToEnd, StopsLoading}
use Rattle.camlheap_run.specs.Reading.{IsTableText, ReadsFirstFault, Tells, TellsReplay, TellsScript}
use Rattle.camlheap_run.specs.Words.{AsksToRead}
use Rattle.camlheap_run.proofs.top.camlheap.Goals as goal

pub returns-in-Ok-Some-Run-clause-decided : goal.returns-in-Ok-Some-Run-clause-decided
returns-in-Ok-Some-Run-clause-decided g c = record {
  complete = λ z s asked told sure written.
      let taken = c.in-Ok-Some-Run.ensures.job in
      let outer = c.in-Ok-Some-Run.field-0-is in
      let inner = c.in-Ok-Some-Run.field-0-0-is in
      let same : c.in-Ok-Some-Run.sizes ≡ z = cc in
      c.run_source.ensures.complete s (subst (λ (y : Sizes). TellsScript y.domains (g.S.Source.left c.args.src.now) s) (sym same) told) sure written;
  refused = first_of (search rules, grind (arith, common_steps));
  replay_complete = first_of (search rules, grind (arith, common_steps));
  replay_refused = first_of (search rules, grind (arith, common_steps));
  table_complete = first_of (search rules, grind (arith, common_steps));
  table_refused = first_of (search rules, grind (arith, common_steps));
  complete_unread = first_of (search rules, grind (arith, common_steps));
}

pub returns-in-Ok-Some-Run-clause-refusals : goal.returns-in-Ok-Some-Run-clause-refusals
returns-in-Ok-Some-Run-clause-refusals g c = record {
  usage = first_of (search rules, grind (arith, common_steps));
  words = first_of (search rules, grind (arith, common_steps));
  script = first_of (search rules, grind (arith, common_steps));
  schedule = λ l is. absurd (subst IsSourceAnswer is c.run_source.ensures.answers);
  not_replayable = λ w is. absurd (subst IsSourceAnswer is c.run_source.ensures.answers);
  reads = first_of (search rules, grind (arith, common_steps));
  writes = first_of (search rules, grind (arith, common_steps));
  read_fault = first_of (search rules, grind (arith, common_steps));
  write_fault = first_of (search rules, grind (arith, common_steps));
  read_failed = first_of (search rules, grind (arith, common_steps));
  write_failed = first_of (search rules, grind (arith, common_steps));
}

pub returns-in-Ok-Some-Table-clause-refusals : goal.returns-in-Ok-Some-Table-clause-refusals
returns-in-Ok-Some-Table-clause-refusals g c = record {
  usage = first_of (search rules, grind (arith, common_steps));
  words = first_of (search rules, grind (arith, common_steps));
  script = first_of (search rules, grind (arith, common_steps));
  schedule = λ l is. absurd (subst IsSourceAnswer is c.run_table_source.ensures.answers);
  not_replayable = λ w is. absurd (subst IsSourceAnswer is c.run_table_source.ensures.answers);
  reads = first_of (search rules, grind (arith, common_steps));
  writes = first_of (search rules, grind (arith, common_steps));
  read_fault = first_of (search rules, grind (arith, common_steps));
  write_fault = first_of (search rules, grind (arith, common_steps));
  read_failed = first_of (search rules, grind (arith, common_steps));
  write_failed = first_of (search rules, grind (arith, common_steps));
}

pub returns-in-Ok-Some-Table-clause-decided : goal.returns-in-Ok-Some-Table-clause-decided
returns-in-Ok-Some-Table-clause-decided g c = record {
  complete = first_of (search rules, grind (arith, common_steps));
  refused = first_of (search rules, grind (arith, common_steps));
  replay_complete = first_of (search rules, grind (arith, common_steps));
  replay_refused = first_of (search rules, grind (arith, common_steps));
  table_complete = λ z asked told sure written.
      let taken = c.in-Ok-Some-Table.ensures.job in
      let outer = c.in-Ok-Some-Table.field-0-is in
      let inner = c.in-Ok-Some-Table.field-0-0-is in
      let same : c.in-Ok-Some-Table.sizes ≡ z = cc in
      c.run_table_source.ensures.complete (subst (λ (y : Sizes). Tells (IsTableText y.domains) (g.S.Source.left c.args.src.now)) (sym same) told) sure written;
  table_refused = first_of (search rules, grind (arith, common_steps));
  complete_unread = first_of (search rules, grind (arith, common_steps));
}

pub returns-in-Ok-Some-Replay-clause-refusals : goal.returns-in-Ok-Some-Replay-clause-refusals
returns-in-Ok-Some-Replay-clause-refusals g c = record {
  usage = first_of (search rules, grind (arith, common_steps));
  words = first_of (search rules, grind (arith, common_steps));
  script = λ f is.
      let taken = c.in-Ok-Some-Replay.ensures.job in
      let outer = c.in-Ok-Some-Replay.field-0-is in
      let inner = c.in-Ok-Some-Replay.field-0-0-is in
      let asked : asked_job (map string_bytes c.args.words.now) ≡ Some (Replay c.in-Ok-Some-Replay.sizes) = cc in
      subst (λ j. AsksToRead j (λ is_first. ReadsFirstFault is_first (g.S.Source.left c.args.src.now) (g.S.Source.left c.run_replay_source.new.src) f)) (sym asked) (c.run_replay_source.ensures.script f is);
  schedule = first_of (search rules, grind (arith, common_steps));
  not_replayable = first_of (search rules, grind (arith, common_steps));
  reads = first_of (search rules, grind (arith, common_steps));
  writes = first_of (search rules, grind (arith, common_steps));
  read_fault = first_of (search rules, grind (arith, common_steps));
  write_fault = first_of (search rules, grind (arith, common_steps));
  read_failed = first_of (search rules, grind (arith, common_steps));
  write_failed = first_of (search rules, grind (arith, common_steps));
}

pub returns-in-Ok-Some-Replay-clause-decided : goal.returns-in-Ok-Some-Replay-clause-decided
returns-in-Ok-Some-Replay-clause-decided g c = record {
  complete = first_of (search rules, grind (arith, common_steps));
  refused = first_of (search rules, grind (arith, common_steps));
  replay_complete = λ z r asked told sure written.
      let taken = c.in-Ok-Some-Replay.ensures.job in
      let outer = c.in-Ok-Some-Replay.field-0-is in
      let inner = c.in-Ok-Some-Replay.field-0-0-is in
      let same : c.in-Ok-Some-Replay.sizes ≡ z = cc in
      c.run_replay_source.ensures.complete r (subst (λ (y : Sizes). TellsReplay y (g.S.Source.left c.args.src.now) r) (sym same) told) sure written;
  replay_refused = first_of (search rules, grind (arith, common_steps));
  table_complete = first_of (search rules, grind (arith, common_steps));
  table_refused = first_of (search rules, grind (arith, common_steps));
  complete_unread = first_of (search rules, grind (arith, common_steps));
}

pub returns-in-Ok-Some-Load-clause-generated : goal.returns-in-Ok-Some-Load-clause-generated
returns-in-Ok-Some-Load-clause-generated g c = record {
  generated = first_of (search rules, grind (arith, common_steps));
  generated_cut = first_of (search rules, grind (arith, common_steps));
  loaded = λ asked ended is done.
      let taken = c.in-Ok-Some-Load.ensures.job in
      let outer = c.in-Ok-Some-Load.field-0-is in
      let inner = c.in-Ok-Some-Load.field-0-0-is in
      let same : c.in-Ok-Some-Load.generated ≡ asked = cc in
      subst (λ (x : Generated). LoadsToEnd x ended (g.K.Sink.written c.args.out.now) (g.K.Sink.written c.load.new.out)) same (c.load.ensures.done ended done);
  loaded_cut = λ asked ended is done.
      let taken = c.in-Ok-Some-Load.ensures.job in
      let outer = c.in-Ok-Some-Load.field-0-is in
      let inner = c.in-Ok-Some-Load.field-0-0-is in
      let same : c.in-Ok-Some-Load.generated ≡ asked = cc in
      subst (λ (x : Generated). StopsLoading x ended (g.K.Sink.written c.args.out.now) (g.K.Sink.written c.load.new.out)) same (c.load.ensures.cut ended done);
}
