use Rattle.std.proofs.Common.{rules, ◌≡◌, ◌+◌, refl}
use Rattle.judge_outputs.proofs.OfSections.TurnLemmas.{told_more, told_all}
use Rattle.judge_outputs.proofs.sections.told.told.Goals as goal

pub loop-domain-preserved : goal.loop-domain-preserved
loop-domain-preserved c = told_more c.args.domains c.loop-domain.domain (c.loop-domain.domain + 1) c.args.turns.now c.loop-domain.text.items _ _ refl c.in_ok-push_section.ensures c.loop-domain.invariant

pub returns : goal.returns
returns c =
    let is : c.loop-domain.domain ≡ c.args.domains = search rules in
    told_all c.args.domains c.loop-domain.domain c.args.turns.now c.loop-domain.text.items _ is c.loop-domain.invariant
