use Rattle.std.proofs.Common.{ℕ}
use Rattle.model_core.specs.declared.state.Sizes.{Sizes}
use Rattle.weak_maps.proofs.OfSweeps.BlockLemmas.{map_swept}
use Rattle.weak_maps.proofs.FrameLemmas.{leaves_trans}
use Rattle.weak_maps.proofs.EmptyLemmas.{emptied_at}
use Rattle.weak_maps.proofs.sweeps.sweeping.map_sweep.Goals as goal

pub returns-clause-leaves : goal.returns-clause-leaves
returns-clause-leaves g c = leaves_trans c.sweep_block.ensures.leaves c.forget_high.ensures.leaves

pub returns-clause-swept : goal.returns-clause-swept
returns-clause-swept g c =
    let z : Sizes = g.M.Machine.sizes c.args.m.now in
    let d : ℕ = g.M.Machine.domain c.args.m.now in
    map_swept z c.shows_legal.ensures.limits d _ _ _ c.args.map c.requires.few c.sweep_block.ensures.swept (emptied_at z _ d _ _ _ 16 c.sweep_block.ensures.leaves.stays.sizes c.sweep_block.ensures.leaves.stays.domain c.forget_high.ensures.forgot) c.sweep_block.ensures.leaves.grows c.forget_high.ensures.leaves.grows
