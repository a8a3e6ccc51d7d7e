use Rattle.std.proofs.Common.{◌≡◌, ◌∙◌, refl, subst}
use Rattle.run_seats.specs.Seating.{IsSeatOf, SeatView, SeatsView}
use Rattle.table_sections.specs.Preparing.{IsReady}
use Rattle.table_sections.specs.declared.laying.Places.{Places}
use Rattle.table_sections.proofs.Seating.{first_ready}
use Rattle.table_sections.proofs.preparing.prepare_first.Goals as goal

pub returns : goal.returns
returns g c = record {
  ready = λ r is.
      let s : SeatsView = c.args.seats.now in
      let p : Places = c.in_ok-places.places in
      let up = c.resume-domain.ensures in
      let laid = c.lay_out.ensures in
      let rests = c.rest.ensures in
      let here : IsSeatOf s c.rest.result = subst (λ (v : SeatsView). IsSeatOf v c.rest.result) (laid.stays.heap ∙ up.seats) rests.here in
      let ready : IsReady s p 0 c.rest.result =
      first_ready s p c.args.resting c.resume-domain.result.seat c.lay_out.new.m.seat c.rest.result c.requires.fresh up.same up.room up.polled rests.same here rests.stands laid.stays.domain laid.labels laid.room
      (c.in_ok-places.ensures.laid p refl) in
      let both : (c.rest.result, p) ≡ r = cc in
      subst (λ (w : SeatView × Places). IsReady s w.1 0 w.0) both ready;
}
