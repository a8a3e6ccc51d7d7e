use Rattle.std.proofs.Common.{◌≡◌, ◌∙◌, inl, inr, ◌+◌, ◌-◌, cond, ℕ, Bool, true, false, List, sym, subst, arith}
use Rattle.model_core.specs.declared.entry.Entry.{Entry}
use Rattle.model_core.specs.declared.state.Sizes.{Sizes}
use Rattle.weak_maps.specs.Cleans.{CleansBlock, CleansField, width_of}
use Rattle.weak_maps.proofs.FieldCleanLemmas.{block_more, block_none, cleans_field_at, cleans_block_at, empties_at, field_dead, field_free, field_kept, field_live, field_low, field_spent, joined}
use Rattle.weak_maps.proofs.MachineLemmas.{at_machine}
use Rattle.weak_maps.proofs.FrameLemmas.{leaves_same, leaves_trans}
use Rattle.weak_maps.proofs.cleaning.+cleaning.Goals.{clean_block-then-not-clean_field, clean_block-else-not-clean_field}
use Rattle.weak_maps.proofs.cleaning.+cleaning.Goals as goal

pub clean_block-fields-init : goal.clean_block-fields-init
clean_block-fields-init g t c = record {
  leaves = leaves_same;
  cleaned = block_none (g.M.Machine.sizes c.args.m.now) (g.M.Machine.domain c.args.m.now) (g.M.Machine.front c.args.m.now) c.args.block c.args.left;
}

pub clean_block-fields-preserved : goal.clean_block-fields-preserved
clean_block-fields-preserved g t c =
    let z : Sizes = g.M.Machine.sizes c.args.m.now in
    let d : ℕ = g.M.Machine.domain c.args.m.now in
    let old : List Entry = g.M.Machine.front c.args.m.now in
    let now : List Entry = g.M.Machine.front c.fields.m in
    let new : List Entry = g.M.Machine.front c.clean_field.new.m in
    let s0 : g.M.Machine.sizes c.fields.m ≡ z = c.fields.invariant.leaves.stays.sizes in
    let o0 : g.M.Machine.domain c.fields.m ≡ d = c.fields.invariant.leaves.stays.domain in
    let narrow = c.fields-test.true in
    let top = c.width_of-index-end.ensures in
    let step : CleansField z d now new c.args.block c.args.left c.fields.index c.clean_field.result = cleans_field_at z _ d _ now new c.args.block c.args.left c.fields.index c.clean_field.result s0 o0 c.clean_field.ensures.cleaned in
    let flag : c.if-not-clean_field.empty ≡ cond c.clean_field.result c.fields.empty false = joined c.clean_field.result c.fields.empty c.if-not-clean_field.empty
    (elim c.if-not-clean_field.branch [ clean_block-then-not-clean_field w ↦ inl (w.if-not-clean_field.true, w.empty-is) | clean_block-else-not-clean_field w ↦ inr (w.if-not-clean_field.false, w.empty-is) ]) in record {
      leaves = leaves_trans c.fields.invariant.leaves c.clean_field.ensures.leaves;
      cleaned = subst (λ (b : Bool). CleansBlock z d old new c.args.block c.args.left (c.fields.index + 1) b) (sym flag)
          (block_more z d old now new c.args.block c.args.left c.fields.index c.fields.empty c.clean_field.result c.requires.few (omega (arith, narrow, top)) c.fields.invariant.leaves.grows c.clean_field.ensures.leaves.grows c.fields.invariant.cleaned step);
    }

pub clean_block-returns-clause-cleaned : goal.clean_block-returns-clause-cleaned
clean_block-returns-clause-cleaned g t c =
    let z : Sizes = g.M.Machine.sizes c.args.m.now in
    let d : ℕ = g.M.Machine.domain c.args.m.now in
    let below = c.fields.auto.index-end in
    let top = c.width_of-index-end.ensures in
    let past = c.fields-test.false in
    let all : c.fields.index ≡ width_of c.args.left = omega (arith, below, top, past) in
    subst (λ (n : ℕ). CleansBlock z d (g.M.Machine.front c.args.m.now) (g.M.Machine.front c.fields.m) c.args.block c.args.left n c.fields.empty) all c.fields.invariant.cleaned

pub clean_field-returns-then-not-is_block-clause-cleaned : goal.clean_field-returns-then-not-is_block-clause-cleaned
clean_field-returns-then-not-is_block-clause-cleaned g t c =
    let z : Sizes = g.M.Machine.sizes c.args.m.now in
    let d : ℕ = g.M.Machine.domain c.args.m.now in
    field_free z c.shows_legal.ensures.limits d _ _ c.args.block c.args.left c.args.index c.requires.few _ c.read_field-at.ensures.read (λ is. let clash : true ≡ false = sym (c.is_block.ensures.1 is) ∙ c.if-not-is_block.true in cc)

pub clean_field-returns-then-left-eq0-clause-cleaned : goal.clean_field-returns-then-left-eq0-clause-cleaned
clean_field-returns-then-left-eq0-clause-cleaned g t c =
    let z : Sizes = g.M.Machine.sizes c.args.m.now in
    let d : ℕ = g.M.Machine.domain c.args.m.now in
    field_low z c.shows_legal.ensures.limits d _ _ c.args.block c.args.left c.args.index c.requires.few _ c.read_field-at.ensures.read _ _ (c.is_block.ensures.0 c.if-not-is_block.false)
    (at_machine z _ d _ _ _ _ _ c.read_field-at.ensures.leaves.stays.sizes c.read_field-at.ensures.leaves.stays.domain c.read_key-key.ensures.read) c.if-left-eq0.true (c.is_other_kind.ensures.0 c.if-is_other_kind.true)

pub clean_field-returns-then-not-clean_block-clause-cleaned : goal.clean_field-returns-then-not-clean_block-clause-cleaned
clean_field-returns-then-not-clean_block-clause-cleaned g t c =
    let z : Sizes = g.M.Machine.sizes c.args.m.now in
    let d : ℕ = g.M.Machine.domain c.args.m.now in
    let s1 = c.read_key-key.ensures.leaves.stays.sizes ∙ c.read_field-at.ensures.leaves.stays.sizes in
    let o1 = c.read_key-key.ensures.leaves.stays.domain ∙ c.read_field-at.ensures.leaves.stays.domain in
    let cleans = cleans_block_at z _ d _ _ _ (14 - c.args.left) (c.args.left - 1) _ false _ s1 o1 c.if-not-clean_block.true c.clean_block.ensures.cleaned in
    field_kept z c.shows_legal.ensures.limits d _ _ c.args.block c.args.left c.args.index c.requires.few _ c.read_field-at.ensures.read _ _ (c.is_block.ensures.0 c.if-not-is_block.false)
    (at_machine z _ d _ _ _ _ _ c.read_field-at.ensures.leaves.stays.sizes c.read_field-at.ensures.leaves.stays.domain c.read_key-key.ensures.read) c.if-left-eq0.false (c.is_other_kind.ensures.0 c.if-is_other_kind.true) _ c.clean_block.ensures.leaves.grows cleans

pub clean_field-returns-then-is_other_kind-clause-cleaned : goal.clean_field-returns-then-is_other_kind-clause-cleaned
clean_field-returns-then-is_other_kind-clause-cleaned g t c =
    let z : Sizes = g.M.Machine.sizes c.args.m.now in
    let d : ℕ = g.M.Machine.domain c.args.m.now in
    let s1 = c.read_key-key.ensures.leaves.stays.sizes ∙ c.read_field-at.ensures.leaves.stays.sizes in
    let o1 = c.read_key-key.ensures.leaves.stays.domain ∙ c.read_field-at.ensures.leaves.stays.domain in
    let cleans = cleans_block_at z _ d _ _ _ (14 - c.args.left) (c.args.left - 1) _ true _ s1 o1 c.if-not-clean_block.false c.clean_block.ensures.cleaned in
    field_spent z c.shows_legal.ensures.limits d _ _ c.args.block c.args.left c.args.index c.requires.few _ c.read_field-at.ensures.read _ _ (c.is_block.ensures.0 c.if-not-is_block.false)
    (at_machine z _ d _ _ _ _ _ c.read_field-at.ensures.leaves.stays.sizes c.read_field-at.ensures.leaves.stays.domain c.read_key-key.ensures.read) c.if-left-eq0.false (c.is_other_kind.ensures.0 c.if-is_other_kind.true) _ c.clean_block.ensures.leaves.grows cleans _
    (empties_at z _ d _ _ _ _ _ (c.clean_block.ensures.leaves.stays.sizes ∙ s1) (c.clean_block.ensures.leaves.stays.domain ∙ o1) c.empty_field.ensures.emptied)

pub clean_field-returns-then-not-is_empty-clause-cleaned : goal.clean_field-returns-then-not-is_empty-clause-cleaned
clean_field-returns-then-not-is_empty-clause-cleaned g t c =
    let z : Sizes = g.M.Machine.sizes c.args.m.now in
    let d : ℕ = g.M.Machine.domain c.args.m.now in
    field_live z c.shows_legal.ensures.limits d _ _ c.args.block c.args.left c.args.index c.requires.few _ c.read_field-at.ensures.read _ _ (c.is_block.ensures.0 c.if-not-is_block.false)
    (at_machine z _ d _ _ _ _ _ c.read_field-at.ensures.leaves.stays.sizes c.read_field-at.ensures.leaves.stays.domain c.read_key-key.ensures.read) (λ e. let clash : true ≡ false = sym (c.is_other_kind.ensures.1 e) ∙ c.if-is_other_kind.false in cc)
    (λ e. let clash : true ≡ false = sym (c.is_empty.ensures.1 e) ∙ c.if-not-is_empty.true in cc)

pub clean_field-returns-clause-cleaned : goal.clean_field-returns-clause-cleaned
clean_field-returns-clause-cleaned g t c =
    let z : Sizes = g.M.Machine.sizes c.args.m.now in
    let d : ℕ = g.M.Machine.domain c.args.m.now in
    let s1 = c.read_key-key.ensures.leaves.stays.sizes ∙ c.read_field-at.ensures.leaves.stays.sizes in
    let o1 = c.read_key-key.ensures.leaves.stays.domain ∙ c.read_field-at.ensures.leaves.stays.domain in
    field_dead z c.shows_legal.ensures.limits d _ _ c.args.block c.args.left c.args.index c.requires.few _ c.read_field-at.ensures.read _ _ (c.is_block.ensures.0 c.if-not-is_block.false)
    (at_machine z _ d _ _ _ _ _ c.read_field-at.ensures.leaves.stays.sizes c.read_field-at.ensures.leaves.stays.domain c.read_key-key.ensures.read) _ (c.is_empty.ensures.0 c.if-not-is_empty.false)
    (empties_at z _ d _ _ _ _ _ s1 o1 c.empty_field-2.ensures.emptied)
