use Rattle.std.proofs.Common.{sym, ◌∙◌}
use Rattle.judge_outputs.proofs.ReplayLemmas.{tells_other, tells_same}
use Rattle.judge_outputs.proofs.replaying.tell.Goals as goal

pub returns-in_ok-same-in-None : goal.returns-in_ok-same-in-None
returns-in_ok-same-in-None c = λ z bytes shown r input differs.
    tells_same z bytes shown c.in_ok-same-in-None.field-0.items r input (sym differs ∙ c.in-None.is) c.in_ok-same-in-None.ensures

pub returns-in_ok-other-in-Some : goal.returns-in_ok-other-in-Some
returns-in_ok-other-in-Some c = λ z bytes shown r input differs.
    tells_other z bytes shown c.in_ok-other-in-Some.field-0.items r c.in-Some.line input (sym differs ∙ c.in-Some.is) c.in_ok-other-in-Some.ensures
