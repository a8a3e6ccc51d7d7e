use Rattle.std.proofs.Common.{ℕ}
use Rattle.model_core.specs.declared.state.Sizes.{Sizes}
use Rattle.weak_maps.proofs.MachineLemmas.{at_machine}
use Rattle.weak_cache.proofs.DrawLemmas.{drew}
use Rattle.weak_cache.proofs.cache.draw.Goals as goal

pub returns-clause-drawn : goal.returns-clause-drawn
returns-clause-drawn g c =
    let z : Sizes = g.M.Machine.sizes c.args.m.now in
    let d : ℕ = g.M.Machine.domain c.args.m.now in
    let p = at_machine z _ d _ _ _ _ _ c.read_slot-shows.ensures.leaves.stays.sizes c.read_slot-shows.ensures.leaves.stays.domain c.perform-done.ensures.performed in
    λ first root k fs i n spares at small x. drew z c.shows_legal.ensures.limits d first root k fs _ _ _ _ _ i n c.args.index c.read_slot-shows.ensures.read p spares at small x
