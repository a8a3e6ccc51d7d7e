use Rattle.std.proofs.Common.{Bool, ap, sym, ◌∙◌, None}
use Rattle.model_core.specs.Fronts.{EpheShape}
use Rattle.heap_words.specs.declared.head.Head.{Head}
use Rattle.heap_words.specs.declared.head.Head.TheVariants.{Plain}
use Rattle.heap_words.specs.Heads.{head_word}
use Rattle.heap_rule.specs.Places.{head_of, needs_no_scan, tagged}
use Rattle.heap_rule.proofs.HeadLemmas.{tagged_head, tagged_scan}
use Rattle.do_fields.proofs.OfDarkening.Exchanges.{read_ephemeron, read_tagged}
use Rattle.do_fields.proofs.darkening.heads.darkened_head.Goals as goal

pub returns-in-Plain : goal.returns-in-Plain
returns-in-Plain c = let h = c.in-Plain in record {
  darkened = record {
    unmarked = record { shape = tagged h.size h.tag; head = read_tagged c.args.word c.read_head.result h.size h.tag h.colour h.scanned c.read_head.ensures.reads.found h.is; colour = c.if-colour-colours.true };
    marks = c.pack_head.ensures ∙ ap (λ (b : Bool). head_word (Plain h.size h.tag c.args.colours.marked b)) (sym (tagged_scan h.size h.tag))
        ∙ ap head_word (sym (tagged_head h.size h.tag c.args.colours.marked (needs_no_scan (tagged h.size h.tag))));
  };
}

pub returns-in-Ephe : goal.returns-in-Ephe
returns-in-Ephe c = let h = c.in-Ephe in record {
  darkened = record {
    unmarked = record { shape = EpheShape h.keys; head = read_ephemeron c.args.word c.read_head.result h.keys h.colour h.scanned c.read_head.ensures.reads.found h.is; colour = c.if-colour-colours-2.true };
    marks = c.pack_head-in-Ephe.ensures;
  };
}
