use Rattle.std.proofs.Common.{◌∙◌, ℕ, refl}
use Rattle.model_core.specs.declared.state.Sizes.{Sizes}
use Rattle.weak_maps.proofs.FieldCleanLemmas.{cleans_block_at}
use Rattle.weak_maps.proofs.MapCleanLemmas.{map_cleaned}
use Rattle.weak_maps.proofs.FrameLemmas.{leaves_trans, spends_none}
use Rattle.weak_maps.proofs.EmptyLemmas.{emptied_at}
use Rattle.weak_maps.proofs.cleaning.map_clean.Goals as goal

pub returns-clause-leaves : goal.returns-clause-leaves
returns-clause-leaves g c = leaves_trans (spends_none refl c.perform-zero.ensures.spends) (leaves_trans c.clean_block-empty.ensures.leaves c.forget_high.ensures.leaves)

pub returns-clause-answer : goal.returns-clause-answer
returns-clause-answer g c =
    let z : Sizes = g.M.Machine.sizes c.args.m.now in
    let d : ℕ = g.M.Machine.domain c.args.m.now in
    let s0 = c.perform-zero.ensures.spends.stays.sizes in
    let o0 = c.perform-zero.ensures.spends.stays.domain in
    λ root held map placed leaves.
    map_cleaned z c.shows_legal.ensures.limits d _ root _ _ _ c.perform-zero.result c.args.map c.clean_block-empty.result c.requires.few held map placed c.perform-zero.ensures.performed
    (cleans_block_at z _ d _ _ _ c.args.map 6 _ c.clean_block-empty.result c.clean_block-empty.result s0 o0 refl c.clean_block-empty.ensures.cleaned)
    (emptied_at z _ d _ _ _ 16 (c.clean_block-empty.ensures.leaves.stays.sizes ∙ s0) (c.clean_block-empty.ensures.leaves.stays.domain ∙ o0) c.forget_high.ensures.forgot) c.clean_block-empty.ensures.leaves.grows c.forget_high.ensures.leaves.grows leaves
