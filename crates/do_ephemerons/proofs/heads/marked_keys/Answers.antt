use Rattle.std.proofs.Common.{ap, sym}
use Rattle.model_core.specs.Fronts.{EpheShape}
use Rattle.do_fields.proofs.OfDarkening.Exchanges.{read_ephemeron}
use Rattle.do_ephemerons.proofs.heads.marked_keys.Goals as goal

pub returns-in-Ephe : goal.returns-in-Ephe
returns-in-Ephe c = let h = c.in-Ephe in record {
  block = record { shape = EpheShape h.keys; head = read_ephemeron c.args.word c.read_head.result h.keys h.colour h.scanned c.read_head.ensures.reads.found h.is; colour = c.if-colour-colours.true };
  shape = ap EpheShape (sym c.from.ensures);
}
