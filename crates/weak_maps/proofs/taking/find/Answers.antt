use Rattle.std.proofs.Common.{◌≡◌, ◌∙◌, ℕ, ◌+◌, ◌/◌, List, length, Option, None, true, false, refl, sym, ap, subst, arith, rules}
use Rattle.model_core.specs.declared.command.Command.TheVariants.{Load}
use Rattle.model_core.specs.declared.entry.Entry.{Entry}
use Rattle.model_core.specs.declared.state.Sizes.{Sizes}
use Rattle.weak_laws.specs.Maps.Calls.{PerformedBy}
use Rattle.weak_laws.specs.Maps.Tries.{node_width}
use Rattle.weak_laws.proofs.OfTables.StageLemmas.{prefix_trans}
use Rattle.weak_maps.specs.Beside.{held_by}
use Rattle.model_core.specs.declared.label.Label.{Label}
use Rattle.weak_maps.specs.Fields.{KeepsWalked, Walked}
use Rattle.weak_maps.specs.Puts.{FieldFound}
use Rattle.weak_maps.proofs.StayLemmas.{prefix_same, respects_within}
use Rattle.weak_maps.proofs.MachineLemmas.{at_machine}
use Rattle.weak_maps.proofs.GetLemmas.{grows_by}
use Rattle.weak_maps.proofs.FieldLemmas.{field_none, still_key, walk_down, walk_ends, walk_key}
use Rattle.weak_maps.proofs.LeafLemmas.{leaf_down, leaf_read}
use Rattle.weak_maps.proofs.FoundLemmas.{found_free, found_leaf}
use Rattle.weak_maps.proofs.GuardLemmas.{quiet_by, quiet_none, quiet_twice}
use Rattle.weak_maps.proofs.FrameLemmas.{leaves_same, leaves_trans, spends_none}
use Rattle.weak_maps.proofs.taking.find.Goals as goal

pub returns-then-not-is_other_kind-clause-leaves : goal.returns-then-not-is_other_kind-clause-leaves
returns-then-not-is_other_kind-clause-leaves g c = leaves_trans c.levels.invariant.leaves (spends_none refl c.perform-found.ensures.spends)

pub levels-init : goal.levels-init
levels-init g c = record {
  leaves = leaves_same;
  steps = refl;
  quiet = quiet_none (g.M.Machine.sizes c.args.m.now) (g.M.Machine.domain c.args.m.now) _;
  leaf = λ first root l v key looking x respects leaf. leaf;
  walk = λ first root key looking x respects. (looking, (λ j e8 e9 e11. refl), (x, omega arith));
}

pub returns-then-not-is_block-clause-found : goal.returns-then-not-is_block-clause-found
returns-then-not-is_block-clause-found g c =
    let z : Sizes = g.M.Machine.sizes c.args.m.now in
    let d : ℕ = g.M.Machine.domain c.args.m.now in
    λ first root key looking x respects.
    let w = c.levels.invariant.walk first root key looking x respects in
    (w.0, w.1, field_none z c.shows_legal.ensures.limits root d first c.args.label.now _ _ c.levels.index c.levels.rest c.levels.at w.2.0 (λ is. let clash : true ≡ false = sym (c.is_block.ensures.1 is) ∙ c.if-not-is_block.true in cc))

pub returns-then-not-is_other_kind-clause-found : goal.returns-then-not-is_other_kind-clause-found
returns-then-not-is_other_kind-clause-found g c =
    let z : Sizes = g.M.Machine.sizes c.args.m.now in
    let d : ℕ = g.M.Machine.domain c.args.m.now in
    let old : List Entry = g.M.Machine.front c.args.m.now in
    let now : List Entry = g.M.Machine.front c.levels.m in
    let n0 : List Entry = g.M.Machine.front c.perform-found.new.m in
    let p = at_machine z _ d _ now n0 _ _ c.levels.invariant.leaves.stays.sizes c.levels.invariant.leaves.stays.domain c.perform-found.ensures.performed in
    λ first root key looking x respects.
    let w = c.levels.invariant.walk first root key looking x (respects_within z root d first n0 first now (prefix_same first) (grows_by z d now n0 _ _ p) respects) in
    walk_key z c.shows_legal.ensures.limits root d first c.args.label.now old now n0 c.perform-found.result c.levels.index c.levels.rest c.levels.at _ _ c.args.key c.requires.few key p respects w (c.is_block.ensures.0 c.if-not-is_block.false)
    (λ e. let clash : true ≡ false = sym (c.is_other_kind.ensures.1 e) ∙ c.if-not-is_other_kind.true in cc) c.is_this.result c.is_this.ensures.0 c.is_this.ensures.1

pub levels-preserved : goal.levels-preserved
levels-preserved g c =
    let z : Sizes = g.M.Machine.sizes c.args.m.now in
    let d : ℕ = g.M.Machine.domain c.args.m.now in
    let old : List Entry = g.M.Machine.front c.args.m.now in
    let now : List Entry = g.M.Machine.front c.levels.m in
    let n0 : List Entry = g.M.Machine.front c.perform-found.new.m in
    let n1 : List Entry = g.M.Machine.front c.perform-down.new.m in
    let new : List Entry = g.M.Machine.front c.read_again-at.new.m in
    let s0 : g.M.Machine.sizes c.levels.m ≡ z = c.levels.invariant.leaves.stays.sizes in
    let o0 : g.M.Machine.domain c.levels.m ≡ d = c.levels.invariant.leaves.stays.domain in
    let s1 : g.M.Machine.sizes c.perform-found.new.m ≡ z = c.perform-found.ensures.spends.stays.sizes ∙ s0 in
    let o1 : g.M.Machine.domain c.perform-found.new.m ≡ d = c.perform-found.ensures.spends.stays.domain ∙ o0 in
    let s2 : g.M.Machine.sizes c.perform-down.new.m ≡ z = c.perform-down.ensures.spends.stays.sizes ∙ s1 in
    let o2 : g.M.Machine.domain c.perform-down.new.m ≡ d = c.perform-down.ensures.spends.stays.domain ∙ o1 in
    let p0 = at_machine z _ d _ now n0 _ _ s0 o0 c.perform-found.ensures.performed in
    let p1 = at_machine z _ d _ n0 n1 _ _ s1 o1 c.perform-down.ensures.performed in
    let q2 = at_machine z _ d _ n1 new _ _ s2 o2 c.read_again-at.ensures.read in
    let p2 = subst (λ (n : ℕ). PerformedBy z d n1 new (Load 9 8 n) c.read_again-at.result) c.node_index-index.ensures q2 in
    let g1 = grows_by z d n1 new _ _ q2 in
    let g0 = prefix_trans n0 n1 new (grows_by z d n0 n1 _ _ p1) g1 in
    let g2 = prefix_trans now n0 new (grows_by z d now n0 _ _ p0) g0 in record {
      leaves = leaves_trans c.levels.invariant.leaves (leaves_trans (spends_none refl c.perform-found.ensures.spends) (leaves_trans (spends_none refl c.perform-down.ensures.spends) c.read_again-at.ensures.leaves));
      steps = ap (λ (n : ℕ). n + 1) c.levels.invariant.steps;
      quiet = quiet_twice z d old now new g2 c.levels.invariant.quiet
          (quiet_twice z d now n0 new g0 (quiet_by z d now n0 _ _ p0 (λ s. refl) refl) (quiet_twice z d n0 n1 new g1 (quiet_by z d n0 n1 _ _ p1 (λ s. refl) refl) (quiet_by z d n1 new _ _ q2 (λ s. refl) refl)));
      leaf = λ first root l v key looking x respects leaf.
          let early = respects_within z root d first new first now (prefix_same first) g2 respects in
          let w = c.levels.invariant.walk first root key looking x early in
          let after = walk_down z c.shows_legal.ensures.limits root d first c.args.label.now old now n0 n1 new c.perform-found.result c.perform-down.result c.read_again-at.result c.levels.index c.levels.rest c.levels.at (length x.p) c.levels.counter c.args.key c.requires.few key p0 p1 p2
          (respects_within z root d first new first n0 (prefix_same first) g0 respects) (respects_within z root d first new first n1 (prefix_same first) g1 respects) respects w (c.is_block.ensures.0 c.if-not-is_block.false) (c.is_other_kind.ensures.0 c.if-not-is_other_kind.false) in
          let ten : (h : List Entry) → KeepsWalked z d old h → held_by z d h 10 ≡ held_by z d old 10 = λ h keeps. keeps 10 (λ e. absurd (omega (arith, e))) (λ e. absurd (omega (arith, e))) (λ e. absurd (omega (arith, e))) in
          leaf_down z c.shows_legal.ensures.limits root d first c.args.label.now l v now n0 c.perform-found.result c.levels.index c.levels.rest c.levels.at c.args.key p0 (respects_within z root d first new first n0 (prefix_same first) g0 respects) w.0 w.2.0
          (c.is_block.ensures.0 c.if-not-is_block.false) (still_key z c.shows_legal.ensures.limits root d first c.args.label.now old now c.args.key c.requires.few key w.1) c.requires.few n1 new c.perform-down.result c.read_again-at.result p1 p2 after.0 (ten new after.1 ∙ sym (ten now w.1))
          (c.levels.invariant.leaf first root l v key looking x early leaf);
      walk = λ first root key looking x respects.
          subst (λ (n : ℕ). Walked z root d first c.args.label.now old new n (c.levels.rest / node_width) c.read_again-at.result (length x.p) (c.levels.counter + 1)) (sym c.node_index-index.ensures)
          (walk_down z c.shows_legal.ensures.limits root d first c.args.label.now old now n0 n1 new c.perform-found.result c.perform-down.result c.read_again-at.result c.levels.index c.levels.rest c.levels.at _ c.levels.counter c.args.key c.requires.few key p0 p1 p2
          (respects_within z root d first new first n0 (prefix_same first) g0 respects) (respects_within z root d first new first n1 (prefix_same first) g1 respects) respects
          (c.levels.invariant.walk first root key looking x (respects_within z root d first new first now (prefix_same first) g2 respects)) (c.is_block.ensures.0 c.if-not-is_block.false) (c.is_other_kind.ensures.0 c.if-not-is_other_kind.false));
    }

pub returns-then-not-is_block-clause-field : goal.returns-then-not-is_block-clause-field
returns-then-not-is_block-clause-field g c =
    let z : Sizes = g.M.Machine.sizes c.args.m.now in
    let d : ℕ = g.M.Machine.domain c.args.m.now in
    λ first root key looking x respects.
    let w = c.levels.invariant.walk first root key looking x respects in (
      w.0,
      w.1,
      subst (λ (n : ℕ). FieldFound z d first (g.M.Machine.front c.levels.m) root c.args.label.now c.levels.index c.levels.rest (length x.p + n) None) (sym c.levels.invariant.steps)
          (found_free z c.shows_legal.ensures.limits root d first c.args.label.now _ c.levels.index c.levels.rest c.levels.at _ w.2.0 w.2.1 (λ is. let clash : true ≡ false = sym (c.is_block.ensures.1 is) ∙ c.if-not-is_block.true in cc)),
    )

pub returns-then-not-is_other_kind-clause-field : goal.returns-then-not-is_other_kind-clause-field
returns-then-not-is_other_kind-clause-field g c =
    let z : Sizes = g.M.Machine.sizes c.args.m.now in
    let d : ℕ = g.M.Machine.domain c.args.m.now in
    let now : List Entry = g.M.Machine.front c.levels.m in
    let n0 : List Entry = g.M.Machine.front c.perform-found.new.m in
    let p = at_machine z _ d _ now n0 _ _ c.levels.invariant.leaves.stays.sizes c.levels.invariant.leaves.stays.domain c.perform-found.ensures.performed in
    λ first root key looking x respects.
    let w = c.levels.invariant.walk first root key looking x (respects_within z root d first n0 first now (prefix_same first) (grows_by z d now n0 _ _ p) respects) in
    let f = found_leaf z c.shows_legal.ensures.limits root d first c.args.label.now now n0 c.perform-found.result c.levels.index c.levels.rest c.levels.at _ p respects w.0 w.2.0 w.2.1 (c.is_block.ensures.0 c.if-not-is_block.false)
    (λ e. let clash : true ≡ false = sym (c.is_other_kind.ensures.1 e) ∙ c.if-not-is_other_kind.true in cc) in (
      f.0,
      (λ j e8 e9 e11. f.1 j e11 ∙ w.1 j e8 e9 e11),
      subst (λ (y : ℕ × Option Label). FieldFound z d first n0 root c.args.label.now c.levels.index c.levels.rest (length x.p + y.0) y.1) (λ i. (sym c.levels.invariant.steps i, sym c.other_than.ensures i)) f.2,
    )

pub returns-then-not-is_block-clause-leaf : goal.returns-then-not-is_block-clause-leaf
returns-then-not-is_block-clause-leaf g c = c.levels.invariant.leaf

pub returns-after-levels-clause-leaf : goal.returns-after-levels-clause-leaf
returns-after-levels-clause-leaf g c = c.levels.invariant.leaf

pub returns-then-not-is_other_kind-clause-leaf : goal.returns-then-not-is_other_kind-clause-leaf
returns-then-not-is_other_kind-clause-leaf g c =
    let z : Sizes = g.M.Machine.sizes c.args.m.now in
    let d : ℕ = g.M.Machine.domain c.args.m.now in
    let old : List Entry = g.M.Machine.front c.args.m.now in
    let now : List Entry = g.M.Machine.front c.levels.m in
    let n0 : List Entry = g.M.Machine.front c.perform-found.new.m in
    let p = at_machine z _ d _ now n0 _ _ c.levels.invariant.leaves.stays.sizes c.levels.invariant.leaves.stays.domain c.perform-found.ensures.performed in
    λ first root l v key looking x respects leaf.
    let early = respects_within z root d first n0 first now (prefix_same first) (grows_by z d now n0 _ _ p) respects in
    let w = c.levels.invariant.walk first root key looking x early in
    leaf_read z c.shows_legal.ensures.limits root d first c.args.label.now l v now n0 c.perform-found.result c.levels.index c.levels.rest c.levels.at c.args.key p respects w.0 w.2.0
    (c.is_block.ensures.0 c.if-not-is_block.false) (still_key z c.shows_legal.ensures.limits root d first c.args.label.now old now c.args.key c.requires.few key w.1) c.requires.few (c.levels.invariant.leaf first root l v key looking x early leaf)

pub returns-after-levels-clause-field : goal.returns-after-levels-clause-field
returns-after-levels-clause-field g c =
    let z : Sizes = g.M.Machine.sizes c.args.m.now in
    let d : ℕ = g.M.Machine.domain c.args.m.now in
    let old : List Entry = g.M.Machine.front c.args.m.now in
    let all : c.levels.counter ≡ 7 = search rules in
    λ first root key looking x respects.
    absurd (walk_ends z c.shows_legal.ensures.limits root d first c.args.label.now old _ c.levels.index c.levels.rest c.levels.at _ c.levels.counter all (c.levels.invariant.walk first root key looking x respects))

pub returns-after-levels-clause-found : goal.returns-after-levels-clause-found
returns-after-levels-clause-found g c =
    let z : Sizes = g.M.Machine.sizes c.args.m.now in
    let d : ℕ = g.M.Machine.domain c.args.m.now in
    let old : List Entry = g.M.Machine.front c.args.m.now in
    let all : c.levels.counter ≡ 7 = search rules in
    λ first root key looking x respects.
    absurd (walk_ends z c.shows_legal.ensures.limits root d first c.args.label.now old _ c.levels.index c.levels.rest c.levels.at _ c.levels.counter all (c.levels.invariant.walk first root key looking x respects))

pub returns-then-not-is_other_kind-clause-quiet : goal.returns-then-not-is_other_kind-clause-quiet
returns-then-not-is_other_kind-clause-quiet g c =
    let z : Sizes = g.M.Machine.sizes c.args.m.now in
    let d : ℕ = g.M.Machine.domain c.args.m.now in
    let now : List Entry = g.M.Machine.front c.levels.m in
    let n0 : List Entry = g.M.Machine.front c.perform-found.new.m in
    let p = at_machine z _ d _ now n0 _ _ c.levels.invariant.leaves.stays.sizes c.levels.invariant.leaves.stays.domain c.perform-found.ensures.performed in
    quiet_twice z d _ now n0 c.perform-found.ensures.spends.grows c.levels.invariant.quiet (quiet_by z d now n0 _ _ p (λ s. refl) refl)
