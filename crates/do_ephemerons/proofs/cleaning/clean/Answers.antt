use Rattle.std.proofs.Common.{◌≡◌, length, ap, arith, sym}
use Rattle.heap_rule.specs.declared.view.DomainView.{DomainView}
use Rattle.do_ephemerons.proofs.Passes.{among, sees_listed}
use Rattle.do_ephemerons.proofs.cleaning.clean.Goals as goal

pub clean_ephemeron-requires-clause-listed : goal.clean_ephemeron-requires-clause-listed
clean_ephemeron-requires-clause-listed c = among c.loop-i.dom.view.own.ephemerons.items c.loop-i.i c.ephemeron_at-at.result (sym c.ephemeron_at-at.ensures.item)

pub returns-clause-cleaned : goal.returns-clause-cleaned
returns-clause-cleaned c =
    let many : length c.colours_now-colours.new.dom.view.own.ephemerons.items ≡ length c.args.dom.now.view.own.ephemerons.items = ap (λ (u : DomainView). length u.own.ephemerons.items) c.colours_now-colours.ensures.knows in record {
      seen = c.loop-i.invariant.seen;
      led = c.loop-i.invariant.led;
      view = c.loop-i.invariant.view;
      all = sees_listed c.args.dom.now.view c.loop-i.dom.view (ap (λ (u : DomainView). u.own.ephemerons.items) c.loop-i.invariant.view) (λ j less a got. c.loop-i.invariant.below j (omega arith) a got);
    }
