use Rattle.std.proofs.Common.{Bool, cond, true, ap, ◌∙◌}
use Rattle.heap_rule.specs.declared.phase.Kind.TheVariants.{Rounds}
use Rattle.heap_rule.specs.declared.view.DomainView.{DomainView}
use Rattle.do_ephemerons.proofs.rounds.round.Goals as goal

pub changed_store-requires-clause-may : goal.changed_store-requires-clause-may
changed_store-requires-clause-may c = record {
  kind = Rounds;
  stage = ap (λ (u : DomainView). u.seen.stage) c.look_again.ensures.looked.view ∙ ap (λ (u : DomainView). u.seen.stage) c.look_through.ensures.passed.looked.view ∙ ap (λ (u : DomainView). u.seen.stage) c.colours_now-colours.ensures.knows ∙ c.requires.stage;
  changing = tt;
  owes = c.look_again.ensures.owes (c.look_through.ensures.passed.owes ∙ ap (λ (w : Bool). cond w true c.colours_now-colours.new.dom.view.seen.share.owes) c.if-look_through.true);
}
