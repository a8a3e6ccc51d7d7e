use Rattle.std.proofs.Common.{ap, arith, sym}
use Rattle.heap_rule.specs.declared.view.DomainView.{DomainView}
use Rattle.do_ephemerons.proofs.Passes.{among, sees_listed}
use Rattle.do_ephemerons.proofs.rounds.look_through.Goals as goal

pub look_at-darkened-requires-clause-listed : goal.look_at-darkened-requires-clause-listed
look_at-darkened-requires-clause-listed c = among c.loop-i.dom.view.own.ephemerons.items c.loop-i.i c.ephemeron_at-at.result (sym c.ephemeron_at-at.ensures.item)

pub returns-clause-passed : goal.returns-clause-passed
returns-clause-passed c = record {
  looked = c.loop-i.invariant.looked;
  owes = c.loop-i.invariant.owes;
  all = sees_listed c.args.dom.now.view c.loop-i.dom.view (ap (λ (u : DomainView). u.own.ephemerons.items) c.loop-i.invariant.looked.view) (λ j less a got. c.loop-i.invariant.all j (omega arith) a got);
}
