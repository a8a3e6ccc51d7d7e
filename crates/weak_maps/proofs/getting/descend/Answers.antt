use Rattle.std.proofs.Common.{◌≡◌, ◌∙◌, ℕ, ◌+◌, ◌/◌, ◌%◌, suc, List, true, false, refl, sym, ap, subst, arith, rules}
use Rattle.model_core.specs.declared.command.Command.TheVariants.{Load}
use Rattle.model_core.specs.declared.entry.Entry.{Entry}
use Rattle.model_core.specs.declared.state.Sizes.{Sizes}
use Rattle.weak_laws.specs.Maps.Tries.{node_width, number_of, root_width}
use Rattle.weak_laws.specs.Maps.Calls.{PerformedBy}
use Rattle.weak_laws.proofs.OfTables.StageLemmas.{prefix_trans}
use Rattle.weak_maps.specs.Walks.{Descends}
use Rattle.weak_maps.proofs.BesideLemmas.{since_old, until_new}
use Rattle.weak_maps.proofs.StayLemmas.{prefix_same, respects_within}
use Rattle.weak_maps.proofs.MachineLemmas.{at_machine}
use Rattle.weak_maps.proofs.DescendLemmas.{descend_begins, descend_ends, descend_met, descend_next, descend_none}
use Rattle.weak_maps.proofs.GuardLemmas.{quiet_by, quiet_twice}
use Rattle.weak_maps.proofs.FrameLemmas.{leaves_trans, spends_none}
use Rattle.weak_maps.proofs.getting.descend.Goals as goal

pub returns-then-is_other_kind-clause-leaves : goal.returns-then-is_other_kind-clause-leaves
returns-then-is_other_kind-clause-leaves g c = leaves_trans c.levels.invariant.leaves (spends_none refl c.perform-at-in-levels.ensures.spends)

pub levels-init : goal.levels-init
levels-init g c =
    let z : Sizes = g.M.Machine.sizes c.args.m.now in
    let d : ℕ = g.M.Machine.domain c.args.m.now in
    let old : List Entry = g.M.Machine.front c.args.m.now in
    let new : List Entry = g.M.Machine.front c.perform-at.new.m in
    let same : c.number_of-number.result ≡ number_of z.domains c.args.label.now = c.number_of-number.ensures.number ∙ ap (λ (n : ℕ). number_of n c.args.label.now) c.domains.ensures in
    let p = subst (λ (n : ℕ). PerformedBy z d old new (Load 8 c.args.map n) c.perform-at.result) (c.root_index.ensures ∙ ap (λ (n : ℕ). n % root_width) same) c.perform-at.ensures.performed in record {
      leaves = spends_none refl c.perform-at.ensures.spends;
      quiet = quiet_by z d old new _ _ c.perform-at.ensures.performed (λ s. refl) refl;
      walk = λ root held key map respects.
          subst (λ (n : ℕ). Descends z d old new root c.args.label.now c.perform-at.result 1 (n / root_width)) (sym same)
          (descend_begins z c.shows_legal.ensures.limits root d old c.args.label.now new c.perform-at.result c.args.map map held p respects);
    }

pub returns-then-not-is_block-clause-met : goal.returns-then-not-is_block-clause-met
returns-then-not-is_block-clause-met g c =
    let z : Sizes = g.M.Machine.sizes c.args.m.now in
    let d : ℕ = g.M.Machine.domain c.args.m.now in
    let old : List Entry = g.M.Machine.front c.args.m.now in
    λ root held key map respects.
    descend_none z c.shows_legal.ensures.limits root d old c.args.label.now _ c.levels.at _ c.levels.rest (c.levels.invariant.walk root held key map respects)
    (λ is. let clash : true ≡ false = sym (c.is_block.ensures.1 is) ∙ c.if-not-is_block.true in cc)

pub returns-then-is_other_kind-clause-met : goal.returns-then-is_other_kind-clause-met
returns-then-is_other_kind-clause-met g c =
    let z : Sizes = g.M.Machine.sizes c.args.m.now in
    let d : ℕ = g.M.Machine.domain c.args.m.now in
    let old : List Entry = g.M.Machine.front c.args.m.now in
    let now : List Entry = g.M.Machine.front c.levels.m in
    let new : List Entry = g.M.Machine.front c.perform-at-in-levels.new.m in
    let q = at_machine z _ d _ now new _ _ c.levels.invariant.leaves.stays.sizes c.levels.invariant.leaves.stays.domain c.perform-at-in-levels.ensures.performed in
    let p = subst (λ (n : ℕ). PerformedBy z d now new (Load 8 8 n) c.perform-at-in-levels.result) c.node_index.ensures q in
    let grows = prefix_trans now _ new (since_old z d now new _ _ q) (until_new z d now new _ _ q) in
    λ root held key map respects.
    descend_met z c.shows_legal.ensures.limits root d old c.args.label.now c.args.key c.requires.few.1 key now new c.levels.at c.perform-at-in-levels.result _ c.levels.rest p respects
    (c.levels.invariant.walk root held key map (respects_within z root d old new old now (prefix_same old) grows respects)) (c.is_block.ensures.0 c.if-not-is_block.false) (c.is_other_kind.ensures.0 c.if-is_other_kind.true)

pub levels-preserved : goal.levels-preserved
levels-preserved g c =
    let z : Sizes = g.M.Machine.sizes c.args.m.now in
    let d : ℕ = g.M.Machine.domain c.args.m.now in
    let old : List Entry = g.M.Machine.front c.args.m.now in
    let now : List Entry = g.M.Machine.front c.levels.m in
    let new : List Entry = g.M.Machine.front c.perform-at-in-levels.new.m in
    let q = at_machine z _ d _ now new _ _ c.levels.invariant.leaves.stays.sizes c.levels.invariant.leaves.stays.domain c.perform-at-in-levels.ensures.performed in
    let p = subst (λ (n : ℕ). PerformedBy z d now new (Load 8 8 n) c.perform-at-in-levels.result) c.node_index.ensures q in
    let grows = prefix_trans now _ new (since_old z d now new _ _ q) (until_new z d now new _ _ q) in
    let one_more : suc (suc c.levels.counter) ≡ suc (c.levels.counter + 1) = omega arith in record {
      leaves = leaves_trans c.levels.invariant.leaves (spends_none refl c.perform-at-in-levels.ensures.spends);
      quiet = quiet_twice z d old now new grows c.levels.invariant.quiet (quiet_by z d now new _ _ q (λ s. refl) refl);
      walk = λ root held key map respects.
          subst (λ (n : ℕ). Descends z d old new root c.args.label.now c.perform-at-in-levels.result n (c.levels.rest / node_width)) one_more
          (descend_next z c.shows_legal.ensures.limits root d old c.args.label.now c.args.key c.requires.few.1 key now new c.levels.at c.perform-at-in-levels.result _ c.levels.rest p respects
          (c.levels.invariant.walk root held key map (respects_within z root d old new old now (prefix_same old) grows respects)) (c.is_block.ensures.0 c.if-not-is_block.false)
          (λ e. let clash : true ≡ false = sym (c.is_other_kind.ensures.1 e) ∙ c.if-is_other_kind.false in cc));
    }

pub returns-clause-met : goal.returns-clause-met
returns-clause-met g c =
    let z : Sizes = g.M.Machine.sizes c.args.m.now in
    let d : ℕ = g.M.Machine.domain c.args.m.now in
    let old : List Entry = g.M.Machine.front c.args.m.now in
    let all : c.levels.counter ≡ 6 = search rules in
    λ root held key map respects.
    descend_ends z c.shows_legal.ensures.limits root d old c.args.label.now _ c.levels.at _ c.levels.rest c.is_block-2.result (ap suc all) (c.levels.invariant.walk root held key map respects) c.is_block-2.ensures.0 c.is_block-2.ensures.1

pub returns-then-is_other_kind-clause-quiet : goal.returns-then-is_other_kind-clause-quiet
returns-then-is_other_kind-clause-quiet g c =
    let z : Sizes = g.M.Machine.sizes c.args.m.now in
    let d : ℕ = g.M.Machine.domain c.args.m.now in
    let old : List Entry = g.M.Machine.front c.args.m.now in
    let now : List Entry = g.M.Machine.front c.levels.m in
    let new : List Entry = g.M.Machine.front c.perform-at-in-levels.new.m in
    let q = at_machine z _ d _ now new _ _ c.levels.invariant.leaves.stays.sizes c.levels.invariant.leaves.stays.domain c.perform-at-in-levels.ensures.performed in
    quiet_twice z d old now new c.perform-at-in-levels.ensures.spends.grows c.levels.invariant.quiet (quiet_by z d now new _ _ q (λ s. refl) refl)
