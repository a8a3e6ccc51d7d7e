use Rattle.std.proofs.Common.{◌∙◌, List, ap, insert}
use Rattle.heap_rule.specs.Token.{Token}
use Rattle.do_spawn.proofs.Opens.{put_back, taken_out}
use Rattle.do_spawn.proofs.opening.meet_at.Goals as goal

pub meet-first-requires : goal.meet-first-requires
meet-first-requires c = record { here = (c.requires.first.here, (c.requires.other c.remove-other.result (taken_out c.args.others.now.items c.args.at c.remove-other.result c.requires.inside c.remove-other.ensures.value)).here) }

pub returns-clause-met : goal.returns-clause-met
returns-clause-met c = record {
  other = c.remove-other.result;
  was = taken_out c.args.others.now.items c.args.at c.remove-other.result c.requires.inside c.remove-other.ensures.value;
  other_now = c.meet-first.result.1;
  met = c.meet-first.ensures.met;
  others = c.in-Ok.ensures.items ∙ (ap (λ (l : List Token). insert l c.args.at c.meet-first.result.1) c.remove-other.ensures.items ∙ put_back c.args.others.now.items c.args.at c.meet-first.result.1 c.requires.inside);
}
