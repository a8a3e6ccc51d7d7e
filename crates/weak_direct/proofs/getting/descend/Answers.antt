use Rattle.std.proofs.Common.{◌≡◌, ◌∙◌, ℕ, ◌+◌, ◌/◌, ◌%◌, suc, List, true, false, refl, sym, ap, subst, arith, rules}
use Rattle.model_core.specs.declared.command.Command.TheVariants.{Load}
use Rattle.model_core.specs.declared.entry.Entry.{Entry}
use Rattle.model_core.specs.declared.state.Sizes.{Sizes}
use Rattle.weak_laws.specs.Maps.Tries.{node_width, number_of, root_width}
use Rattle.weak_laws.specs.Maps.Calls.{PerformedBy}
use Rattle.weak_maps.specs.Walks.{Descends}
use Rattle.weak_maps.proofs.StayLemmas.{prefix_same, respects_within}
use Rattle.weak_maps.proofs.DescendLemmas.{descend_begins, descend_ends, descend_met, descend_next, descend_none}
use Rattle.weak_direct.proofs.FrameLemmas.{looks_on, looks_of, performed_on}
use Rattle.weak_direct.proofs.getting.descend.Goals as goal

pub levels-init : goal.levels-init
levels-init g c =
    let z : Sizes = g.M.Direct.sizes c.args.m.now in
    let d : ℕ = g.M.Direct.domain c.args.m.now in
    let old : List Entry = g.M.Direct.front c.args.m.now in
    let new : List Entry = g.M.Direct.front c.step.new.m in
    let same : c.number_of-number.result ≡ number_of z.domains c.args.label.now = c.number_of-number.ensures.number ∙ ap (λ (n : ℕ). number_of n c.args.label.now) c.domains.ensures in
    let p = subst (λ (n : ℕ). PerformedBy z d old new (Load 8 c.args.map n) c.in_ok-at.at) (c.root_index.ensures ∙ ap (λ (n : ℕ). n % root_width) same) c.in_ok-at.ensures.performed in
    record {
      looks = looks_of c.step.ensures.goes (c.step.ensures.quiet (λ s. refl));
      walk = λ root held key map respects.
          subst (λ (n : ℕ). Descends z d old new root c.args.label.now c.in_ok-at.at 1 (n / root_width)) (sym same)
          (descend_begins z c.shows_inside.ensures.limits root d old c.args.label.now new c.in_ok-at.at c.args.map map held p respects);
    }

pub returns-then-not-is_block-clause-met : goal.returns-then-not-is_block-clause-met
returns-then-not-is_block-clause-met g c =
    let z : Sizes = g.M.Direct.sizes c.args.m.now in
    let d : ℕ = g.M.Direct.domain c.args.m.now in
    let old : List Entry = g.M.Direct.front c.args.m.now in
    λ root held key map respects.
    descend_none z c.shows_inside.ensures.limits root d old c.args.label.now _ c.levels.at _ c.levels.rest (c.levels.invariant.walk root held key map respects)
    (λ is. let clash : true ≡ false = sym (c.is_block.ensures.1 is) ∙ c.if-not-is_block.true in cc)

pub returns-in_err-at-2-clause-looks : goal.returns-in_err-at-2-clause-looks
returns-in_err-at-2-clause-looks g c = looks_on c.levels.invariant.looks (looks_of c.step-in-levels.ensures.goes (c.step-in-levels.ensures.quiet (λ s. refl)))

pub returns-then-is_other_kind-clause-looks : goal.returns-then-is_other_kind-clause-looks
returns-then-is_other_kind-clause-looks g c = looks_on c.levels.invariant.looks (looks_of c.step-in-levels.ensures.goes (c.step-in-levels.ensures.quiet (λ s. refl)))

pub returns-then-is_other_kind-clause-met : goal.returns-then-is_other_kind-clause-met
returns-then-is_other_kind-clause-met g c =
    let z : Sizes = g.M.Direct.sizes c.args.m.now in
    let d : ℕ = g.M.Direct.domain c.args.m.now in
    let old : List Entry = g.M.Direct.front c.args.m.now in
    let now : List Entry = g.M.Direct.front c.levels.m in
    let new : List Entry = g.M.Direct.front c.step-in-levels.new.m in
    let q = performed_on c.levels.invariant.looks.goes.keeps.stays c.in_ok-at-2.ensures.performed in
    let p = subst (λ (n : ℕ). PerformedBy z d now new (Load 8 8 n) c.in_ok-at-2.at) c.node_index.ensures q in
    λ root held key map respects.
    descend_met z c.shows_inside.ensures.limits root d old c.args.label.now c.args.key c.requires.few.1 key now new c.levels.at c.in_ok-at-2.at _ c.levels.rest p respects
    (c.levels.invariant.walk root held key map (respects_within z root d old new old now (prefix_same old) c.step-in-levels.ensures.goes.passes.grows respects)) (c.is_block.ensures.0 c.if-not-is_block.false) (c.is_other_kind.ensures.0 c.if-is_other_kind.true)

pub levels-preserved : goal.levels-preserved
levels-preserved g c =
    let z : Sizes = g.M.Direct.sizes c.args.m.now in
    let d : ℕ = g.M.Direct.domain c.args.m.now in
    let old : List Entry = g.M.Direct.front c.args.m.now in
    let now : List Entry = g.M.Direct.front c.levels.m in
    let new : List Entry = g.M.Direct.front c.step-in-levels.new.m in
    let i = c.levels.invariant in
    let q = performed_on i.looks.goes.keeps.stays c.in_ok-at-2.ensures.performed in
    let p = subst (λ (n : ℕ). PerformedBy z d now new (Load 8 8 n) c.in_ok-at-2.at) c.node_index.ensures q in
    let one_more : suc (suc c.levels.counter) ≡ suc (c.levels.counter + 1) = omega arith in record {
      looks = looks_on i.looks (looks_of c.step-in-levels.ensures.goes (c.step-in-levels.ensures.quiet (λ s. refl)));
      walk = λ root held key map respects.
          subst (λ (n : ℕ). Descends z d old new root c.args.label.now c.in_ok-at-2.at n (c.levels.rest / node_width)) one_more
          (descend_next z c.shows_inside.ensures.limits root d old c.args.label.now c.args.key c.requires.few.1 key now new c.levels.at c.in_ok-at-2.at _ c.levels.rest p respects
          (i.walk root held key map (respects_within z root d old new old now (prefix_same old) c.step-in-levels.ensures.goes.passes.grows respects)) (c.is_block.ensures.0 c.if-not-is_block.false)
          (λ e. let clash : true ≡ false = sym (c.is_other_kind.ensures.1 e) ∙ c.if-is_other_kind.false in cc));
    }

pub returns-clause-met : goal.returns-clause-met
returns-clause-met g c =
    let z : Sizes = g.M.Direct.sizes c.args.m.now in
    let d : ℕ = g.M.Direct.domain c.args.m.now in
    let old : List Entry = g.M.Direct.front c.args.m.now in
    let all : c.levels.counter ≡ 6 = search rules in
    λ root held key map respects.
    descend_ends z c.shows_inside.ensures.limits root d old c.args.label.now _ c.levels.at _ c.levels.rest c.is_block-2.result (ap suc all) (c.levels.invariant.walk root held key map respects) c.is_block-2.ensures.0 c.is_block-2.ensures.1
