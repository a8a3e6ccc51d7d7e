use Rattle.std.proofs.Common.{ap, sym, ◌∙◌}
use Rattle.heap_rule.specs.declared.view.DomainView.{DomainView}
use Rattle.step_run.specs.Fields.Ticks.{tick_answer}
use Rattle.do_fields.proofs.OfFields.Doing.{entered_did}
use Rattle.do_finalisers.proofs.Registrations.{own_unfinalised_last, last_did, reply_bad}
use Rattle.do_finalisers.proofs.registering.finalise_last_as.Goals as goal

pub returns-in_default-clause-did : goal.returns-in_default-clause-did
returns-in_default-clause-did g c = entered_did _ _ _ _ g.entry _ _ _ _ c.requires.0 (ap tick_answer c.requires.0) c.requires.1.0 c.tick.ensures.here c.tick.ensures.entered

pub returns-in_default-clause-own : goal.returns-in_default-clause-own
returns-in_default-clause-own g c = ap (λ (x : DomainView). x.own) c.tick.ensures.entered.view ∙ sym (own_unfinalised_last _ c.args.number c.args.dom.now.view.own c.in_default.ensures.none)

pub returns-in_default-clause-reply : goal.returns-in_default-clause-reply
returns-in_default-clause-reply g c = sym (reply_bad _ c.in_default.ensures.none)

pub returns-clause-did : goal.returns-clause-did
returns-clause-did g c = last_did c.args.heap.now c.args.dom.now c.register_last.new.dom c.args.item _ c.requires.1.0 c.register_last.ensures.here c.register_last.ensures.told
