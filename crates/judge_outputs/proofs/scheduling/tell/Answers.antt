use Rattle.std.proofs.Common.{List, sym, subst}
use Rattle.model_core.specs.declared.entry.Entry.{Entry}
use Rattle.judge_outputs.specs.Answer.{ExplainsScript, IsTrueAnswer}
use Rattle.judge_outputs.specs.declared.explain.Explained.{Explained}
use Rattle.judge_outputs.proofs.scheduling.tell.Goals as goal

pub returns-in-Legal : goal.returns-in-Legal
returns-in-Legal c = λ bytes input answer. c.tell_found.ensures bytes input
    (subst (λ (h : List Entry). ExplainsScript c.args.sizes.now c.args.script.now c.args.output.now h) (sym c.deref.ensures.value) (subst (λ (e : Explained). IsTrueAnswer c.args.sizes.now c.args.script.now c.args.output.now e) c.in-Legal.is answer))
