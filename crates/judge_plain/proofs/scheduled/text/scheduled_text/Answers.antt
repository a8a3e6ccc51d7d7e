use Rattle.std.proofs.Common.{List, sym, ◌∙◌, subst}
use Rattle.model_core.specs.declared.entry.Entry.{Entry}
use Rattle.model_core.specs.History.{Legal}
use Rattle.model_traces.proofs.OfScheduled.Turns.{scheduled_law}
use Rattle.judge_plain.proofs.scheduled.text.scheduled_text.Goals as goal

pub text_of-requires-clause-legal : goal.text_of-requires-clause-legal
text_of-requires-clause-legal c =
    subst (λ (h : List Entry). Legal c.args.sizes.now h) (sym (c.deref.ensures.value ∙ c.in_ok-history.ensures))
    (scheduled_law c.args.sizes.now c.args.script.now.sections c.args.items.now c.requires.plain)
