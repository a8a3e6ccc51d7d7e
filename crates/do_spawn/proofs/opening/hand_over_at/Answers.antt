use Rattle.std.proofs.Common.{◌∙◌, List, ap, insert}
use Rattle.heap_rule.specs.Token.{Token}
use Rattle.do_spawn.proofs.Opens.{put_back, taken_out}
use Rattle.do_spawn.proofs.opening.hand_over_at.Goals as goal

pub hand_over-first-requires-clause-other : goal.hand_over-first-requires-clause-other
hand_over-first-requires-clause-other c = c.requires.other c.remove-other.result (taken_out c.args.others.now.items c.args.at c.remove-other.result c.requires.inside c.remove-other.ensures.value)

pub returns-clause-handed : goal.returns-clause-handed
returns-clause-handed c = record {
  other = c.remove-other.result;
  was = taken_out c.args.others.now.items c.args.at c.remove-other.result c.requires.inside c.remove-other.ensures.value;
  other_now = c.hand_over-first.result.1;
  handed = c.hand_over-first.ensures.handed;
  others = c.in-Ok.ensures.items ∙ (ap (λ (l : List Token). insert l c.args.at c.hand_over-first.result.1) c.remove-other.ensures.items ∙ put_back c.args.others.now.items c.args.at c.hand_over-first.result.1 c.requires.inside);
}
