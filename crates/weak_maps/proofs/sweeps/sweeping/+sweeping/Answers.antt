use Rattle.std.proofs.Common.{◌≡◌, ◌-◌, ℕ, true, false, List, refl, subst, arith}
use Rattle.model_core.specs.declared.entry.Entry.{Entry}
use Rattle.model_core.specs.declared.state.Sizes.{Sizes}
use Rattle.weak_maps.specs.Cleans.{width_of}
use Rattle.weak_maps.specs.Sweeps.Sweeps.{SweepsBlock}
use Rattle.weak_maps.proofs.OfSweeps.BlockLemmas.{block_at, block_more, block_none, field_at, field_done, field_inner, field_low, settled_at}
use Rattle.weak_maps.proofs.FrameLemmas.{leaves_same, leaves_trans}
use Rattle.weak_maps.proofs.sweeps.sweeping.+sweeping.Goals as goal

pub sweep_block-fields-init : goal.sweep_block-fields-init
sweep_block-fields-init g t c = record {
  leaves = leaves_same;
  swept = block_none (g.M.Machine.sizes c.args.m.now) (g.M.Machine.domain c.args.m.now) (g.M.Machine.front c.args.m.now) c.args.block c.args.left;
}

pub sweep_block-fields-preserved : goal.sweep_block-fields-preserved
sweep_block-fields-preserved g t c =
    let z : Sizes = g.M.Machine.sizes c.args.m.now in
    let d : ℕ = g.M.Machine.domain c.args.m.now in
    let old : List Entry = g.M.Machine.front c.args.m.now in
    let now : List Entry = g.M.Machine.front c.fields.m in
    let new : List Entry = g.M.Machine.front c.sweep_field.new.m in
    let s0 : g.M.Machine.sizes c.fields.m ≡ z = c.fields.invariant.leaves.stays.sizes in
    let o0 : g.M.Machine.domain c.fields.m ≡ d = c.fields.invariant.leaves.stays.domain in
    let narrow = c.fields-test.true in
    let top = c.width_of-index-end.ensures in record {
      leaves = leaves_trans c.fields.invariant.leaves c.sweep_field.ensures.leaves;
      swept = block_more z d old now new c.args.block c.args.left c.fields.index c.requires.few (omega (arith, narrow, top)) c.fields.invariant.leaves.grows c.sweep_field.ensures.leaves.grows c.fields.invariant.swept
          (field_at z _ d _ now new c.args.block c.args.left c.fields.index s0 o0 c.sweep_field.ensures.swept);
    }

pub sweep_block-returns-clause-swept : goal.sweep_block-returns-clause-swept
sweep_block-returns-clause-swept g t c =
    let z : Sizes = g.M.Machine.sizes c.args.m.now in
    let d : ℕ = g.M.Machine.domain c.args.m.now in
    let below = c.fields.auto.index-end in
    let top = c.width_of-index-end.ensures in
    let past = c.fields-test.false in
    let all : c.fields.index ≡ width_of c.args.left = omega (arith, below, top, past) in
    subst (λ (n : ℕ). SweepsBlock z d (g.M.Machine.front c.args.m.now) (g.M.Machine.front c.fields.m) c.args.block c.args.left n) all c.fields.invariant.swept

pub sweep_field-returns-then-not-inner-clause-swept : goal.sweep_field-returns-then-not-inner-clause-swept
sweep_field-returns-then-not-inner-clause-swept g t c =
    let z : Sizes = g.M.Machine.sizes c.args.m.now in
    let d : ℕ = g.M.Machine.domain c.args.m.now in
    field_done z d _ _ c.args.block c.args.left c.args.index (settled_at z _ d _ _ _ c.args.block c.args.left c.args.index false _ refl refl c.if-not-inner.true c.settle-inner.ensures.settled)

pub sweep_field-returns-then-left-eq0-clause-swept : goal.sweep_field-returns-then-left-eq0-clause-swept
sweep_field-returns-then-left-eq0-clause-swept g t c =
    let z : Sizes = g.M.Machine.sizes c.args.m.now in
    let d : ℕ = g.M.Machine.domain c.args.m.now in
    field_low z d _ _ c.args.block c.args.left c.args.index c.if-left-eq0.true c.settle-inner.ensures.leaves.grows (settled_at z _ d _ _ _ c.args.block c.args.left c.args.index true _ refl refl c.if-not-inner.false c.settle-inner.ensures.settled)

pub sweep_field-returns-clause-swept : goal.sweep_field-returns-clause-swept
sweep_field-returns-clause-swept g t c =
    let z : Sizes = g.M.Machine.sizes c.args.m.now in
    let d : ℕ = g.M.Machine.domain c.args.m.now in
    field_inner z d _ _ _ c.args.block c.args.left c.args.index c.requires.few c.if-left-eq0.false c.settle-inner.ensures.leaves.grows c.sweep_block.ensures.leaves.grows (settled_at z _ d _ _ _ c.args.block c.args.left c.args.index true _ refl refl c.if-not-inner.false c.settle-inner.ensures.settled)
    (block_at z _ d _ _ _ (14 - c.args.left) (c.args.left - 1) (width_of (c.args.left - 1)) c.settle-inner.ensures.leaves.stays.sizes c.settle-inner.ensures.leaves.stays.domain c.sweep_block.ensures.swept)
