use Rattle.std.proofs.Common.{◌∙◌, ℕ, Some, ap, subst}
use Rattle.std.proofs.lemmas.Bool.{eqb-true, eq-eqb}
use Rattle.heap_words.specs.declared.head.Head.{Head}
use Rattle.step_sweep.specs.Freeing.{IsColoured}
use Rattle.step_sweep.proofs.HeadColours.{one_colour, plain_coloured, ephe_coloured}
use Rattle.step_sweep.proofs.heads.has_colour.Goals as goal

pub returns-in-Some-Plain : goal.returns-in-Some-Plain
returns-in-Some-Plain c =
    let here = plain_coloured c.args.word c.unpack_head.result c.unpack_head.ensures _ _ _ _ (c.in-Some-Plain.is ∙ ap (λ (h : Head). Some h) c.in-Some-Plain.field-0-is) in (
      λ e. subst (λ (n : ℕ). IsColoured n c.args.word) (eqb-true _ _ e) here,
      λ d. eq-eqb _ _ (one_colour _ _ c.args.word here d),
    )

pub returns-in-Some-Ephe : goal.returns-in-Some-Ephe
returns-in-Some-Ephe c =
    let here = ephe_coloured c.args.word c.unpack_head.result c.unpack_head.ensures _ _ _ (c.in-Some-Ephe.is ∙ ap (λ (h : Head). Some h) c.in-Some-Ephe.field-0-is) in (
      λ e. subst (λ (n : ℕ). IsColoured n c.args.word) (eqb-true _ _ e) here,
      λ d. eq-eqb _ _ (one_colour _ _ c.args.word here d),
    )
