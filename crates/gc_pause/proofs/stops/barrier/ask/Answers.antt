use Rattle.std.proofs.Common.{sym, subst}
use Rattle.step_pauses.specs.Pauses.{IsWish}
use Rattle.gc_pause.proofs.OfStops.Leading.{bit_wish}
use Rattle.gc_pause.proofs.stops.barrier.ask.Goals as goal

pub ask-requires-clause-wish : goal.ask-requires-clause-wish
ask-requires-clause-wish c = subst IsWish (sym c.bit_of.ensures) (bit_wish c.args.want)
