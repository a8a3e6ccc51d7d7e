-- Calls that leave a domain as it stands.
use Rattle.std.proofs.Common.{◌≡◌, ap}
use Rattle.model_core.specs.History.{IsPrefix}
use Rattle.run_seats.specs.declared.shared.standing.Standing.{Standing}
use Rattle.run_seats.specs.Shared.Sharing.{SharedView}
use Rattle.run_seats.specs.Shared.Standing.{standing_of}
use Rattle.run_seats.proofs.OfShared.Standing.{ready_on}
use Rattle.camlheap_c.specs.Maps.{GoesOnIn, front_of, number_of}

-- the domain goes on
pub goes_on_in : (old new : SharedView) → standing_of new ≡ standing_of old → number_of new ≡ number_of old → IsPrefix (front_of old) (front_of new) → GoesOnIn old new
goes_on_in old new same number grows = record {
  heap = ap (λ (t : Standing). t.heap) same;
  number = number;
  grows = grows;
  ready = ready_on old new same;
  ran = ap (λ (t : Standing). t.ran) same;
  unregistered = ap (λ (t : Standing). t.registered) same;
}
