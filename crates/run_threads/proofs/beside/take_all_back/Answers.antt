use Rattle.std.proofs.Common.{rules}
use Rattle.std.specs.Prelude.{slice_index_or}
use Rattle.run_threads.proofs.Places.{any_else}
use Rattle.run_threads.proofs.Placing.{set_all, set_began}
use Rattle.run_threads.specs.Placing.{Stands}
use Rattle.run_threads.proofs.beside.take_all_back.Goals as goal

pub places-preserved : goal.places-preserved
places-preserved g c = (
  set_all (Stands g.T.Trace.shares g.T.Trace.is_over c.args.shared.now) c.places.places c.places.place-index _ (search rules) c.places.invariant.0 c.take_back-taken.ensures.stands,
  set_began g.T.Trace.follows c.args.places.now c.places.places c.places.place-index (slice_index_or c.places.places c.places.place-index c.place-item.result) c.take_back-taken.new.place (search rules) (any_else c.places.places c.places.place-index _ _ (search rules)) c.places.invariant.1 c.take_back-taken.ensures.began,
)
