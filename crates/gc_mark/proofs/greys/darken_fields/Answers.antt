use Rattle.heap_rule.specs.declared.view.DomainView.{DomainView}
use Rattle.gc_mark.proofs.Going.{found_on, paid_next, went_on}
use Rattle.gc_mark.proofs.greys.darken_fields.Goals as goal

pub loop-field-preserved : goal.loop-field-preserved
loop-field-preserved g c =
    let x : DomainView = c.args.dom.now.view in
    let y : DomainView = c.loop-field.dom.view in
    let z : DomainView = c.darken_field.new.dom.view in
    let went = c.darken_field.ensures.went in record {
      here = c.darken_field.ensures.here;
      went = went_on 0 0 0 0 0 0 x y z (g.K.Deck.counts c.args.deck.now) (g.K.Deck.counts c.loop-field.deck) (g.K.Deck.counts c.darken_field.new.deck) c.loop-field.invariant.went went;
      paid = paid_next y z c.args.block c.loop-field.field went.learnt c.loop-field.invariant.paid c.darken_field.ensures.paid;
      found = found_on x y z c.loop-field.invariant.found c.darken_field.ensures.found;
    }
