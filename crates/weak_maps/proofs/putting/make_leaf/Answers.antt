use Rattle.std.proofs.Common.{◌∙◌, true, false, refl, ap, cond}
use Rattle.weak_maps.proofs.FrameLemmas.{leaves_trans, makes_then, spends_makes, spends_none}
use Rattle.weak_maps.proofs.putting.make_leaf.Goals as goal

pub returns-then-is_full-clause-makes : goal.returns-then-is_full-clause-makes
returns-then-is_full-clause-makes g c = spends_makes false refl refl (c.is_full.ensures.count ∙ ap (λ b. cond b 1 0) c.if-is_full.true) c.perform-made.ensures.spends

pub returns-clause-makes : goal.returns-clause-makes
returns-clause-makes g c =
    let made = spends_makes true refl refl (c.is_full.ensures.count ∙ ap (λ b. cond b 1 0) c.if-is_full.false) c.perform-made.ensures.spends in
    makes_then made (leaves_trans (spends_none refl c.perform-datum.ensures.spends) (spends_none refl c.perform-key.ensures.spends))
