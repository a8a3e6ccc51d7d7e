use Rattle.std.proofs.Common.{ℕ, true, None, ap, refl, sym, ◌∙◌}
use Rattle.model_core.specs.Fronts.{EpheShape}
use Rattle.heap_words.specs.declared.head.Head.TheVariants.{Plain}
use Rattle.heap_words.specs.Heads.{head_word}
use Rattle.heap_rule.specs.Places.{head_of, tagged}
use Rattle.heap_rule.proofs.HeadLemmas.{tagged_head}
use Rattle.do_fields.proofs.OfDarkening.Exchanges.{read_ephemeron, read_tagged, tagged_fields}
use Rattle.do_fields.proofs.darkening.heads.scan_of.Goals as goal

pub returns-in-Some-Plain-default-default-default-false :
    goal.returns-in-Some-Plain-default-default-default-false
returns-in-Some-Plain-default-default-default-false c = let h = c.in-Some-Plain-default-default-default-false in record {
  grey = record {
    block = record { shape = tagged h.size h.tag; head = read_tagged c.args.word h.field-0 h.size h.tag h.colour h.field-0-3 h.ensures.found h.field-0-is; colour = c.if-colour-marked.true };
    unscanned = h.field-0-3-test;
  };
  count = c.fields_to_scan.ensures ∙ sym (tagged_fields h.size h.tag);
  marks = c.pack_head.ensures ∙ ap (λ (n : ℕ). head_word (Plain h.size h.tag n true)) c.if-colour-marked.true ∙ ap head_word (sym (tagged_head h.size h.tag c.args.colours.marked true));
}

pub returns-in-Some-Ephe-default-default-false : goal.returns-in-Some-Ephe-default-default-false
returns-in-Some-Ephe-default-default-false c = let h = c.in-Some-Ephe-default-default-false in record {
  grey = record {
    block = record { shape = EpheShape h.keys; head = read_ephemeron c.args.word h.field-0 h.keys h.colour h.field-0-2 h.ensures.found h.field-0-is; colour = c.if-colour-marked-2.true };
    unscanned = h.field-0-2-test;
  };
  count = refl;
  marks = c.pack_head-in-Some-Ephe-default-default-false.ensures ∙ ap (λ (n : ℕ). head_word (head_of None (EpheShape h.keys) n true)) c.if-colour-marked-2.true;
}
