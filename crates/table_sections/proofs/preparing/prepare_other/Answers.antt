use Rattle.std.proofs.Common.{◌≡◌, ◌∙◌, true, subst, rules}
use Rattle.run_seats.specs.Seating.{IsSeatOf, SeatView, SeatsView}
use Rattle.table_sections.specs.Preparing.{IsReady}
use Rattle.table_sections.specs.declared.laying.Places.{Places}
use Rattle.table_sections.proofs.Seating.{other_ready}
use Rattle.table_sections.proofs.preparing.prepare_other.Goals as goal

pub returns : goal.returns
returns g c = record {
  ready = λ r is.
      let s : SeatsView = c.args.seats.now in
      let p : Places = c.args.places in
      let up = c.resume-domain.ensures in
      let found = c.find.ensures in
      let rests = c.rest.ensures in
      let here : IsSeatOf s c.rest.result = subst (λ (v : SeatsView). IsSeatOf v c.rest.result) (found.stays.heap ∙ up.seats) rests.here in
      let yes : c.find.result ≡ true = search rules in
      let ready : IsReady s p c.args.resting.number c.rest.result =
      other_ready s p c.args.resting c.resume-domain.result.seat c.find.new.m.seat c.rest.result c.requires.fresh c.requires.other up.same up.room up.polled rests.same here rests.stands found.stays.domain found.labels found.room
      (found.found yes) in
      let both : c.rest.result ≡ r = cc in
      subst (λ (v : SeatView). IsReady s p c.args.resting.number v) both ready;
}
