use Rattle.std.proofs.Common.{◌≡◌, ◌∙◌, ℕ, ◌+◌, ◌/◌, List, length, Option, None, true, false, refl, sym, ap, subst, arith, rules}
use Rattle.model_core.specs.declared.command.Command.TheVariants.{Load}
use Rattle.model_core.specs.declared.entry.Entry.{Entry}
use Rattle.model_core.specs.declared.label.Label.{Label}
use Rattle.model_core.specs.declared.state.Sizes.{Sizes}
use Rattle.weak_laws.specs.Maps.Calls.{PerformedBy}
use Rattle.weak_laws.specs.Maps.Tries.{node_width}
use Rattle.weak_laws.proofs.OfTables.StageLemmas.{prefix_trans}
use Rattle.weak_maps.specs.Beside.{held_by}
use Rattle.weak_maps.specs.Fields.{KeepsWalked, Walked}
use Rattle.weak_maps.specs.Puts.{FieldFound}
use Rattle.weak_maps.proofs.StayLemmas.{prefix_same, respects_within}
use Rattle.weak_maps.proofs.FieldLemmas.{field_none, still_key, walk_down, walk_ends, walk_key}
use Rattle.weak_maps.proofs.LeafLemmas.{leaf_down, leaf_read}
use Rattle.weak_maps.proofs.FoundLemmas.{found_free, found_leaf}
use Rattle.weak_direct.proofs.FrameLemmas.{looks_none, looks_on, looks_of, performed_on}
use Rattle.weak_direct.proofs.taking.find.Goals as goal

pub levels-init : goal.levels-init
levels-init g c = record {
  looks = looks_none c.args.m.now;
  steps = refl;
  leaf = λ first root l v key looking x respects leaf. leaf;
  walk = λ first root key looking x respects. (looking, (λ j e8 e9 e11. refl), (x, omega arith));
}

pub returns-in_err-found-clause-looks : goal.returns-in_err-found-clause-looks
returns-in_err-found-clause-looks g c = looks_on c.levels.invariant.looks (looks_of c.step.ensures.goes (c.step.ensures.quiet (λ s. refl)))

pub returns-then-not-is_other_kind-clause-looks : goal.returns-then-not-is_other_kind-clause-looks
returns-then-not-is_other_kind-clause-looks g c = looks_on c.levels.invariant.looks (looks_of c.step.ensures.goes (c.step.ensures.quiet (λ s. refl)))

pub returns-in_err-step-clause-looks : goal.returns-in_err-step-clause-looks
returns-in_err-step-clause-looks g c =
    looks_on (looks_on c.levels.invariant.looks (looks_of c.step.ensures.goes (c.step.ensures.quiet (λ s. refl)))) (looks_of c.step-in-levels.ensures.goes (c.step-in-levels.ensures.quiet (λ s. refl)))

pub returns-in_err-at-clause-looks : goal.returns-in_err-at-clause-looks
returns-in_err-at-clause-looks g c =
    looks_on (looks_on (looks_on c.levels.invariant.looks (looks_of c.step.ensures.goes (c.step.ensures.quiet (λ s. refl)))) (looks_of c.step-in-levels.ensures.goes (c.step-in-levels.ensures.quiet (λ s. refl)))) c.read_field.ensures.looks

pub returns-then-not-is_block-clause-found : goal.returns-then-not-is_block-clause-found
returns-then-not-is_block-clause-found g c =
    let z : Sizes = g.M.Direct.sizes c.args.m.now in
    let d : ℕ = g.M.Direct.domain c.args.m.now in
    λ first root key looking x respects.
    let w = c.levels.invariant.walk first root key looking x respects in
    (w.0, w.1, field_none z c.shows_inside.ensures.limits root d first c.args.label.now _ _ c.levels.index c.levels.rest c.levels.at w.2.0 (λ is. let clash : true ≡ false = sym (c.is_block.ensures.1 is) ∙ c.if-not-is_block.true in cc))

pub returns-then-not-is_other_kind-clause-found : goal.returns-then-not-is_other_kind-clause-found
returns-then-not-is_other_kind-clause-found g c =
    let p = performed_on c.levels.invariant.looks.goes.keeps.stays c.in_ok-found.ensures.performed in
    λ first root key looking x respects.
    let w = c.levels.invariant.walk first root key looking x (respects_within (g.M.Direct.sizes c.args.m.now) root (g.M.Direct.domain c.args.m.now) first _ first _ (prefix_same first) c.step.ensures.goes.passes.grows respects) in
    walk_key (g.M.Direct.sizes c.args.m.now) c.shows_inside.ensures.limits root (g.M.Direct.domain c.args.m.now) first c.args.label.now (g.M.Direct.front c.args.m.now) _ _ c.in_ok-found.found c.levels.index c.levels.rest c.levels.at _ _ c.args.key c.requires.few key p respects w (c.is_block.ensures.0 c.if-not-is_block.false)
    (λ e. let clash : true ≡ false = sym (c.is_other_kind.ensures.1 e) ∙ c.if-not-is_other_kind.true in cc) c.is_this.result c.is_this.ensures.0 c.is_this.ensures.1

pub levels-preserved : goal.levels-preserved
levels-preserved g c =
    let z : Sizes = g.M.Direct.sizes c.args.m.now in
    let d : ℕ = g.M.Direct.domain c.args.m.now in
    let old : List Entry = g.M.Direct.front c.args.m.now in
    let now : List Entry = g.M.Direct.front c.levels.m in
    let n0 : List Entry = g.M.Direct.front c.step.new.m in
    let n1 : List Entry = g.M.Direct.front c.step-in-levels.new.m in
    let new : List Entry = g.M.Direct.front c.read_field.new.m in
    let first = looks_on c.levels.invariant.looks (looks_of c.step.ensures.goes (c.step.ensures.quiet (λ s. refl))) in
    let second = looks_on first (looks_of c.step-in-levels.ensures.goes (c.step-in-levels.ensures.quiet (λ s. refl))) in
    let p0 = performed_on c.levels.invariant.looks.goes.keeps.stays c.in_ok-found.ensures.performed in
    let p1 = performed_on first.goes.keeps.stays c.in_ok-step.ensures.performed in
    let q2 = performed_on second.goes.keeps.stays c.in_ok-at.ensures.read in
    let p2 = subst (λ (n : ℕ). PerformedBy z d n1 new (Load 9 8 n) c.in_ok-at.at) c.node_index-index.ensures q2 in
    let g1 = c.read_field.ensures.looks.goes.passes.grows in
    let g0 = prefix_trans n0 n1 new c.step-in-levels.ensures.goes.passes.grows g1 in
    let g2 = prefix_trans now n0 new c.step.ensures.goes.passes.grows g0 in
    record {
      looks = looks_on second c.read_field.ensures.looks;
      steps = ap (λ (n : ℕ). n + 1) c.levels.invariant.steps;
      leaf = λ first root l v key looking x respects leaf.
          let early = respects_within z root d first new first now (prefix_same first) g2 respects in
          let w = c.levels.invariant.walk first root key looking x early in
          let after = walk_down z c.shows_inside.ensures.limits root d first c.args.label.now old now n0 n1 new c.in_ok-found.found c.in_ok-step.field-0 c.in_ok-at.at c.levels.index c.levels.rest c.levels.at (length x.p) c.levels.counter c.args.key c.requires.few key p0 p1 p2
          (respects_within z root d first new first n0 (prefix_same first) g0 respects) (respects_within z root d first new first n1 (prefix_same first) g1 respects) respects w (c.is_block.ensures.0 c.if-not-is_block.false) (c.is_other_kind.ensures.0 c.if-not-is_other_kind.false) in
          let ten : (h : List Entry) → KeepsWalked z d old h → held_by z d h 10 ≡ held_by z d old 10 = λ h keeps. keeps 10 (λ e. absurd (omega (arith, e))) (λ e. absurd (omega (arith, e))) (λ e. absurd (omega (arith, e))) in
          leaf_down z c.shows_inside.ensures.limits root d first c.args.label.now l v now n0 c.in_ok-found.found c.levels.index c.levels.rest c.levels.at c.args.key p0 (respects_within z root d first new first n0 (prefix_same first) g0 respects) w.0 w.2.0
          (c.is_block.ensures.0 c.if-not-is_block.false) (still_key z c.shows_inside.ensures.limits root d first c.args.label.now old now c.args.key c.requires.few key w.1) c.requires.few n1 new c.in_ok-step.field-0 c.in_ok-at.at p1 p2 after.0 (ten new after.1 ∙ sym (ten now w.1))
          (c.levels.invariant.leaf first root l v key looking x early leaf);
      walk = λ first root key looking x respects.
          subst (λ (n : ℕ). Walked z root d first c.args.label.now old new n (c.levels.rest / node_width) c.in_ok-at.at (length x.p) (c.levels.counter + 1)) (sym c.node_index-index.ensures)
          (walk_down z c.shows_inside.ensures.limits root d first c.args.label.now old now n0 n1 new c.in_ok-found.found c.in_ok-step.field-0 c.in_ok-at.at c.levels.index c.levels.rest c.levels.at _ c.levels.counter c.args.key c.requires.few key p0 p1 p2
          (respects_within z root d first new first n0 (prefix_same first) g0 respects) (respects_within z root d first new first n1 (prefix_same first) g1 respects) respects
          (c.levels.invariant.walk first root key looking x (respects_within z root d first new first now (prefix_same first) g2 respects)) (c.is_block.ensures.0 c.if-not-is_block.false) (c.is_other_kind.ensures.0 c.if-not-is_other_kind.false));
    }

pub returns-then-not-is_block-clause-field : goal.returns-then-not-is_block-clause-field
returns-then-not-is_block-clause-field g c =
    let z : Sizes = g.M.Direct.sizes c.args.m.now in
    let d : ℕ = g.M.Direct.domain c.args.m.now in
    λ first root key looking x respects.
    let w = c.levels.invariant.walk first root key looking x respects in (
      w.0,
      w.1,
      subst (λ (n : ℕ). FieldFound z d first (g.M.Direct.front c.levels.m) root c.args.label.now c.levels.index c.levels.rest (length x.p + n) None) (sym c.levels.invariant.steps)
          (found_free z c.shows_inside.ensures.limits root d first c.args.label.now _ c.levels.index c.levels.rest c.levels.at _ w.2.0 w.2.1 (λ is. let clash : true ≡ false = sym (c.is_block.ensures.1 is) ∙ c.if-not-is_block.true in cc)),
    )

pub returns-then-not-is_other_kind-clause-field : goal.returns-then-not-is_other_kind-clause-field
returns-then-not-is_other_kind-clause-field g c =
    let p = performed_on c.levels.invariant.looks.goes.keeps.stays c.in_ok-found.ensures.performed in
    λ first root key looking x respects.
    let w = c.levels.invariant.walk first root key looking x (respects_within (g.M.Direct.sizes c.args.m.now) root (g.M.Direct.domain c.args.m.now) first _ first _ (prefix_same first) c.step.ensures.goes.passes.grows respects) in
    let f = found_leaf (g.M.Direct.sizes c.args.m.now) c.shows_inside.ensures.limits root (g.M.Direct.domain c.args.m.now) first c.args.label.now _ _ c.in_ok-found.found c.levels.index c.levels.rest c.levels.at _ p respects w.0 w.2.0 w.2.1 (c.is_block.ensures.0 c.if-not-is_block.false)
    (λ e. let clash : true ≡ false = sym (c.is_other_kind.ensures.1 e) ∙ c.if-not-is_other_kind.true in cc) in (
      f.0,
      (λ j e8 e9 e11. f.1 j e11 ∙ w.1 j e8 e9 e11),
      subst (λ (y : ℕ × Option Label). FieldFound (g.M.Direct.sizes c.args.m.now) (g.M.Direct.domain c.args.m.now) first (g.M.Direct.front c.step.new.m) root c.args.label.now c.levels.index c.levels.rest (length x.p + y.0) y.1) (λ i. (sym c.levels.invariant.steps i, sym c.other_than.ensures i)) f.2,
    )

pub returns-then-not-is_other_kind-clause-leaf : goal.returns-then-not-is_other_kind-clause-leaf
returns-then-not-is_other_kind-clause-leaf g c =
    let p = performed_on c.levels.invariant.looks.goes.keeps.stays c.in_ok-found.ensures.performed in
    λ first root l v key looking x respects leaf.
    let early = respects_within (g.M.Direct.sizes c.args.m.now) root (g.M.Direct.domain c.args.m.now) first _ first _ (prefix_same first) c.step.ensures.goes.passes.grows respects in
    let w = c.levels.invariant.walk first root key looking x early in
    leaf_read (g.M.Direct.sizes c.args.m.now) c.shows_inside.ensures.limits root (g.M.Direct.domain c.args.m.now) first c.args.label.now l v _ _ c.in_ok-found.found c.levels.index c.levels.rest c.levels.at c.args.key p respects w.0 w.2.0
    (c.is_block.ensures.0 c.if-not-is_block.false) (still_key (g.M.Direct.sizes c.args.m.now) c.shows_inside.ensures.limits root (g.M.Direct.domain c.args.m.now) first c.args.label.now (g.M.Direct.front c.args.m.now) (g.M.Direct.front c.levels.m) c.args.key c.requires.few key w.1) c.requires.few (c.levels.invariant.leaf first root l v key looking x early leaf)

pub returns-after-levels-clause-field : goal.returns-after-levels-clause-field
returns-after-levels-clause-field g c = λ first root key looking x respects.
    absurd (walk_ends (g.M.Direct.sizes c.args.m.now) c.shows_inside.ensures.limits root (g.M.Direct.domain c.args.m.now) first c.args.label.now (g.M.Direct.front c.args.m.now) _ c.levels.index c.levels.rest c.levels.at _ c.levels.counter (search rules) (c.levels.invariant.walk first root key looking x respects))

pub returns-after-levels-clause-found : goal.returns-after-levels-clause-found
returns-after-levels-clause-found g c = λ first root key looking x respects.
    absurd (walk_ends (g.M.Direct.sizes c.args.m.now) c.shows_inside.ensures.limits root (g.M.Direct.domain c.args.m.now) first c.args.label.now (g.M.Direct.front c.args.m.now) _ c.levels.index c.levels.rest c.levels.at _ c.levels.counter (search rules) (c.levels.invariant.walk first root key looking x respects))
