use Rattle.model_core.specs.Fronts.{EpheShape}
use Rattle.heap_rule.specs.Places.{tagged}
use Rattle.do_fields.proofs.OfDarkening.Exchanges.{read_ephemeron, read_tagged}
use Rattle.do_ephemerons.proofs.heads.is_marked.Goals as goal

pub returns-in-Plain : goal.returns-in-Plain
returns-in-Plain c = let h = c.in-Plain in record {
  shape = tagged h.size h.tag;
  head = read_tagged c.args.word c.read_head.result h.size h.tag h.colour h.scanned c.read_head.ensures.reads.found h.is;
  colour = c.if-colour-colours.true;
}

pub returns-in-Ephe : goal.returns-in-Ephe
returns-in-Ephe c = let h = c.in-Ephe in record {
  shape = EpheShape h.keys;
  head = read_ephemeron c.args.word c.read_head.result h.keys h.colour h.scanned c.read_head.ensures.reads.found h.is;
  colour = c.if-colour-colours-2.true;
}
