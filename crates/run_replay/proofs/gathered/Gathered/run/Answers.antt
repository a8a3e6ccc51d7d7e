use Rattle.std.proofs.Common.{◌∙◌, ◌<◌, length, subst, sym}
use Rattle.run_replay.specs.Gathered.{GatheredView, HasRun}
use Rattle.run_replay.proofs.SlotLemmas.{has_run, never_none}
use Rattle.run_replay.proofs.gathered.Gathered.run.Goals as goal

pub unreachable-requires : goal.unreachable-requires
unreachable-requires c =
    let within = subst (λ (g : GatheredView). c.args.at < length g.runs) (sym c.self.view_is) c.requires.inside in
    let f = c.self.invariant.0.filled c.args.at within in never_none _ c.args.at _ f.0 f.1 (sym c.index.ensures ∙ c.in-None.is)

pub returns : goal.returns
returns c =
    let within = subst (λ (g : GatheredView). c.args.at < length g.runs) (sym c.self.view_is) c.requires.inside in
    subst (λ (g : GatheredView). HasRun g.runs c.args.at c.in-Some.run') c.self.view_is (has_run _ c.args.at _ _ within (sym c.index.ensures ∙ c.in-Some.is))
