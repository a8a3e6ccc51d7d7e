use Rattle.std.proofs.Common.{Some, ap, subst}
use Rattle.std.specs.Prelude.{slice_set}
use Rattle.run_turns.specs.Runs.{RunView, IsRun}
use Rattle.heap_rule.specs.Token.{IsIn}
use Rattle.run_replay.proofs.SlotLemmas.{has_run, never_none}
use Rattle.run_replay.proofs.halting.halt_at.Goals as goal

pub unreachable-requires : goal.unreachable-requires
unreachable-requires c = let f = c.requires.here.filled c.args.at c.requires.inside in never_none _ c.args.at _ f.0 f.1 c.in_default.is

pub halt-requires-clause-here : goal.halt-requires-clause-here
halt-requires-clause-here c = c.requires.here.here c.args.at _ (has_run _ c.args.at _ _ c.requires.inside c.in-Some.is)

pub halt-requires-clause-running : goal.halt-requires-clause-running
halt-requires-clause-running c = c.requires.running _ (has_run _ c.args.at _ _ c.requires.inside c.in-Some.is)

pub returns : goal.returns
returns c = record {
  halts = record {
    run = c.in-Some.run';
    becomes = record {
      was = has_run _ c.args.at _ _ c.requires.inside c.in-Some.is;
      here = subst (λ (r : RunView). IsIn r.token c.args.heap.now) c.halt.ensures.run c.halt.ensures.here;
      is = subst IsRun c.halt.ensures.run c.shows_faithful.ensures;
      runs = ap (λ (r : RunView). slice_set c.args.runs.now c.args.at (Some r)) c.halt.ensures.run;
    };
  };
}

pub halt-requires-clause-few : goal.halt-requires-clause-few
halt-requires-clause-few c = c.requires.few _ (has_run _ c.args.at _ _ c.requires.inside c.in-Some.is)
