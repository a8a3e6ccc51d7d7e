use Rattle.std.proofs.Common.{ℕ, refl, arith}
use Rattle.model_core.specs.declared.state.Sizes.{Sizes}
use Rattle.weak_maps.proofs.MachineLemmas.{at_machine, counted_by}
use Rattle.weak_maps.proofs.FrameLemmas.{reads_then, spends_none, spends_reads}
use Rattle.weak_maps.specs.Beside.{writings_by}
use Rattle.weak_maps.proofs.getting.unbound.Goals as goal

pub returns-clause-reads : goal.returns-clause-reads
returns-clause-reads g c = reads_then (spends_reads refl c.perform-answer.ensures.spends) (spends_none refl c.perform-leaf.ensures.spends)

pub returns-clause-written : goal.returns-clause-written
returns-clause-written g c =
    let d : ℕ = g.M.Machine.domain c.args.m.now in
    let w1 = c.perform-answer.ensures.spends.written in
    let w2 = counted_by writings_by d _ _ _ _ c.perform-answer.ensures.spends.stays.domain c.perform-leaf.ensures.spends.written in
    omega (arith, w1, w2)

pub returns-clause-emptied : goal.returns-clause-emptied
returns-clause-emptied g c =
    let z : Sizes = g.M.Machine.sizes c.args.m.now in
    let d : ℕ = g.M.Machine.domain c.args.m.now in record {
      between = g.M.Machine.front c.perform-answer.new.m;
      first = c.perform-answer.result;
      second = c.perform-leaf.result;
      empties = c.perform-answer.ensures.performed;
      clears = at_machine z _ d _ _ _ _ _ c.perform-answer.ensures.spends.stays.sizes c.perform-answer.ensures.spends.stays.domain c.perform-leaf.ensures.performed;
    }
