use Rattle.std.proofs.Common.{◌∙◌, ℕ, sym, ap}
use Rattle.model_core.specs.declared.reply.Reply.TheVariants.{Block}
use Rattle.model_core.specs.Commands.{shown}
use Rattle.model_core.specs.Domains.{register as register_value}
use Rattle.heap_rule.specs.Rule.{state_of}
use Rattle.do_fields.proofs.fields.fields.shown_register.Goals as goal

pub returns-in-Ref-clause-reply : goal.returns-in-Ref-clause-reply
returns-in-Ref-clause-reply g c =
    let told = c.label_load.ensures.told in
    let label = c.label_of_word.ensures told.label told.packable (sym told.word) in
    ap Block label ∙ sym (ap shown told.holds) ∙ ap (λ (n : ℕ). shown (register_value (state_of c.args.heap.now.config c.args.dom.now.view.seen.front) c.args.dom.now.view.own.number n)) c.requires.0
