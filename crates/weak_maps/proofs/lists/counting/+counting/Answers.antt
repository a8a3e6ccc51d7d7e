use Rattle.std.proofs.Common.{◌≡◌, ◌∙◌, ◌+◌, ◌-◌, ℕ, min, true, false, List, refl, sym, subst, arith}
use Rattle.model_core.specs.declared.entry.Entry.{Entry}
use Rattle.model_core.specs.declared.state.Sizes.{Sizes}
use Rattle.model_core.specs.History.{Legal}
use Rattle.weak_maps.specs.Cleans.{width_of}
use Rattle.weak_maps.proofs.MachineLemmas.{at_machine}
use Rattle.weak_maps.specs.Lists.Counts.{CountsBlock, CountsField}
use Rattle.weak_maps.proofs.OfLists.CountLemmas.{block_more, block_none, field_deeper, field_empty, field_low, field_none, field_one, saturates}
use Rattle.weak_maps.proofs.OfLists.MachineLemmas.{counts_block_at, counts_field_at, first_domain, legal_at}
use Rattle.weak_maps.proofs.FrameLemmas.{leaves_same, leaves_trans}
use Rattle.weak_maps.proofs.lists.counting.+counting.Goals as goal

pub count_block-fields-init : goal.count_block-fields-init
count_block-fields-init g t c = record {
  leaves = leaves_same;
  counted = block_none (g.M.Machine.sizes c.args.m.now) c.shows_legal.ensures.limits c.requires.alone (g.M.Machine.front c.args.m.now) c.args.block c.args.left;
}

pub count_block-fields-preserved : goal.count_block-fields-preserved
count_block-fields-preserved g t c =
    let z : Sizes = g.M.Machine.sizes c.args.m.now in
    let old : List Entry = g.M.Machine.front c.args.m.now in
    let now : List Entry = g.M.Machine.front c.fields.m in
    let new : List Entry = g.M.Machine.front c.count_field-more.new.m in
    let s0 : g.M.Machine.sizes c.fields.m ≡ z = c.fields.invariant.leaves.stays.sizes in
    let narrow = c.fields-test.true in
    let top = c.width_of-index-end.ensures in
    let legal : Legal z new = legal_at z _ new (c.count_field-more.ensures.leaves.stays.sizes ∙ s0) c.shows_legal-in-fields.ensures.legal in
    let step : CountsField z now new c.args.block c.args.left c.fields.index c.count_field-more.result = counts_field_at z _ now new c.args.block c.args.left c.fields.index c.count_field-more.result s0 c.count_field-more.ensures.counted in
    let sum : c.saturating_add-count.result ≡ min (c.fields.count + c.count_field-more.result) 4294967295 = c.saturating_add-count.ensures in record {
      leaves = leaves_trans c.fields.invariant.leaves c.count_field-more.ensures.leaves;
      counted = block_more z c.shows_legal.ensures.limits c.requires.alone old now new c.args.block c.args.left c.fields.index c.fields.count c.count_field-more.result c.saturating_add-count.result c.requires.few.0 c.requires.few.1 (omega (arith, narrow, top))
          c.fields.invariant.leaves.grows c.count_field-more.ensures.leaves.grows legal (saturates c.fields.count c.count_field-more.result c.saturating_add-count.result sum) c.fields.invariant.counted step;
    }

pub count_block-returns-clause-counted : goal.count_block-returns-clause-counted
count_block-returns-clause-counted g t c =
    let below = c.fields.auto.index-end in
    let top = c.width_of-index-end.ensures in
    let past = c.fields-test.false in
    let all : c.fields.index ≡ width_of c.args.left = omega (arith, below, top, past) in
    subst (λ (n : ℕ). CountsBlock (g.M.Machine.sizes c.args.m.now) (g.M.Machine.front c.args.m.now) (g.M.Machine.front c.fields.m) c.args.block c.args.left n c.fields.count) all c.fields.invariant.counted

pub count_field-returns-then-not-is_block-clause-counted : goal.count_field-returns-then-not-is_block-clause-counted
count_field-returns-then-not-is_block-clause-counted g t c =
    let z : Sizes = g.M.Machine.sizes c.args.m.now in
    let d : ℕ = g.M.Machine.domain c.args.m.now in
    let old : List Entry = g.M.Machine.front c.args.m.now in
    let n0 : List Entry = g.M.Machine.front c.perform-at.new.m in
    let first : d ≡ 0 = first_domain z d c.requires.alone c.shows_legal.ensures.inside in
    let p0 = at_machine z _ 0 _ old n0 _ _ refl first c.perform-at.ensures.performed in
    field_none z c.shows_legal.ensures.limits c.requires.alone old n0 c.args.block c.args.left c.args.index c.requires.few.0 c.requires.few.1 c.perform-at.result p0 (λ is. let clash : true ≡ false = sym (c.is_block.ensures.1 is) ∙ c.if-not-is_block.true in cc)

pub count_field-returns-then-left-eq0-clause-counted : goal.count_field-returns-then-left-eq0-clause-counted
count_field-returns-then-left-eq0-clause-counted g t c =
    let z : Sizes = g.M.Machine.sizes c.args.m.now in
    let d : ℕ = g.M.Machine.domain c.args.m.now in
    let old : List Entry = g.M.Machine.front c.args.m.now in
    let n0 : List Entry = g.M.Machine.front c.perform-at.new.m in
    let first : d ≡ 0 = first_domain z d c.requires.alone c.shows_legal.ensures.inside in
    let p0 = at_machine z _ 0 _ old n0 _ _ refl first c.perform-at.ensures.performed in
    let n1 : List Entry = g.M.Machine.front c.perform-key.new.m in
    let s1 : g.M.Machine.sizes c.perform-at.new.m ≡ z = c.perform-at.ensures.spends.stays.sizes in
    let p1 = at_machine z _ 0 _ n0 n1 _ _ s1 (c.perform-at.ensures.spends.stays.domain ∙ first) c.perform-key.ensures.performed in
    let some = c.is_block.ensures.0 c.if-not-is_block.false in
    field_low z c.shows_legal.ensures.limits c.requires.alone old n0 c.args.block c.args.left c.args.index c.requires.few.0 c.requires.few.1 c.perform-at.result p0 n1 c.perform-key.result some p1 c.if-left-eq0.true (c.is_other_kind.ensures.0 c.if-is_other_kind.true)

pub count_field-returns-then-is_other_kind-clause-counted : goal.count_field-returns-then-is_other_kind-clause-counted
count_field-returns-then-is_other_kind-clause-counted g t c =
    let z : Sizes = g.M.Machine.sizes c.args.m.now in
    let d : ℕ = g.M.Machine.domain c.args.m.now in
    let old : List Entry = g.M.Machine.front c.args.m.now in
    let n0 : List Entry = g.M.Machine.front c.perform-at.new.m in
    let first : d ≡ 0 = first_domain z d c.requires.alone c.shows_legal.ensures.inside in
    let p0 = at_machine z _ 0 _ old n0 _ _ refl first c.perform-at.ensures.performed in
    let n1 : List Entry = g.M.Machine.front c.perform-key.new.m in
    let s1 : g.M.Machine.sizes c.perform-at.new.m ≡ z = c.perform-at.ensures.spends.stays.sizes in
    let p1 = at_machine z _ 0 _ n0 n1 _ _ s1 (c.perform-at.ensures.spends.stays.domain ∙ first) c.perform-key.ensures.performed in
    let some = c.is_block.ensures.0 c.if-not-is_block.false in
    let n2 : List Entry = g.M.Machine.front c.count_block-count.new.m in
    let s2 : g.M.Machine.sizes c.perform-key.new.m ≡ z = c.perform-key.ensures.spends.stays.sizes ∙ s1 in
    let legal : Legal z n2 = legal_at z _ n2 (c.count_block-count.ensures.leaves.stays.sizes ∙ s2) c.shows_legal-then-is_other_kind.ensures.legal in
    field_deeper z c.shows_legal.ensures.limits c.requires.alone old n0 c.args.block c.args.left c.args.index c.requires.few.0 c.requires.few.1 c.perform-at.result p0 n1 c.perform-key.result some p1 c.if-left-eq0.false (c.is_other_kind.ensures.0 c.if-is_other_kind.true) n2 c.count_block-count.result c.count_block-count.ensures.leaves.grows legal
    (counts_block_at z _ n1 n2 (14 - c.args.left) (c.args.left - 1) (width_of (c.args.left - 1)) c.count_block-count.result s2 c.count_block-count.ensures.counted)

pub count_field-returns-then-is_empty-clause-counted : goal.count_field-returns-then-is_empty-clause-counted
count_field-returns-then-is_empty-clause-counted g t c =
    let z : Sizes = g.M.Machine.sizes c.args.m.now in
    let d : ℕ = g.M.Machine.domain c.args.m.now in
    let old : List Entry = g.M.Machine.front c.args.m.now in
    let n0 : List Entry = g.M.Machine.front c.perform-at.new.m in
    let first : d ≡ 0 = first_domain z d c.requires.alone c.shows_legal.ensures.inside in
    let p0 = at_machine z _ 0 _ old n0 _ _ refl first c.perform-at.ensures.performed in
    let n1 : List Entry = g.M.Machine.front c.perform-key.new.m in
    let s1 : g.M.Machine.sizes c.perform-at.new.m ≡ z = c.perform-at.ensures.spends.stays.sizes in
    let p1 = at_machine z _ 0 _ n0 n1 _ _ s1 (c.perform-at.ensures.spends.stays.domain ∙ first) c.perform-key.ensures.performed in
    let some = c.is_block.ensures.0 c.if-not-is_block.false in
    field_empty z c.shows_legal.ensures.limits c.requires.alone old n0 c.args.block c.args.left c.args.index c.requires.few.0 c.requires.few.1 c.perform-at.result p0 n1 c.perform-key.result some p1 (c.is_empty.ensures.0 c.if-is_empty.true)

pub count_field-returns-clause-counted : goal.count_field-returns-clause-counted
count_field-returns-clause-counted g t c =
    let z : Sizes = g.M.Machine.sizes c.args.m.now in
    let d : ℕ = g.M.Machine.domain c.args.m.now in
    let old : List Entry = g.M.Machine.front c.args.m.now in
    let n0 : List Entry = g.M.Machine.front c.perform-at.new.m in
    let first : d ≡ 0 = first_domain z d c.requires.alone c.shows_legal.ensures.inside in
    let p0 = at_machine z _ 0 _ old n0 _ _ refl first c.perform-at.ensures.performed in
    let n1 : List Entry = g.M.Machine.front c.perform-key.new.m in
    let s1 : g.M.Machine.sizes c.perform-at.new.m ≡ z = c.perform-at.ensures.spends.stays.sizes in
    let p1 = at_machine z _ 0 _ n0 n1 _ _ s1 (c.perform-at.ensures.spends.stays.domain ∙ first) c.perform-key.ensures.performed in
    let some = c.is_block.ensures.0 c.if-not-is_block.false in
    field_one z c.shows_legal.ensures.limits c.requires.alone old n0 c.args.block c.args.left c.args.index c.requires.few.0 c.requires.few.1 c.perform-at.result p0 n1 c.perform-key.result some p1 (λ e. let clash : true ≡ false = sym (c.is_other_kind.ensures.1 e) ∙ c.if-is_other_kind.false in cc)
    (λ e. let clash : true ≡ false = sym (c.is_empty.ensures.1 e) ∙ c.if-is_empty.false in cc)
