use Rattle.std.proofs.Common.{◌∙◌, ℕ, Bool, List, true, refl, subst}
use Rattle.model_core.specs.declared.entry.Entry.{Entry}
use Rattle.model_core.specs.declared.label.Label.{Label}
use Rattle.model_core.specs.declared.state.Sizes.{Sizes}
use Rattle.weak_maps.specs.Walks.{Descended}
use Rattle.weak_maps.proofs.BesideLemmas.{low_beside}
use Rattle.weak_maps.proofs.StayLemmas.{prefix_same, respects_within}
use Rattle.weak_direct.proofs.LookLemmas.{found_by_key}
use Rattle.weak_direct.proofs.FrameLemmas.{looks_on, looks_of, performed_on}
use Rattle.weak_direct.proofs.getting.look_up.Goals as goal

pub returns-in_err-found-clause-looks : goal.returns-in_err-found-clause-looks
returns-in_err-found-clause-looks g c = looks_on c.descend.ensures.looks (looks_of c.step.ensures.goes (c.step.ensures.quiet (λ s. refl)))

pub returns-clause-looks : goal.returns-clause-looks
returns-clause-looks g c = looks_on c.descend.ensures.looks (looks_of c.step.ensures.goes (c.step.ensures.quiet (λ s. refl)))

pub returns-clause-found : goal.returns-clause-found
returns-clause-found g c =
    let z : Sizes = g.M.Direct.sizes c.args.m.now in
    let d : ℕ = g.M.Direct.domain c.args.m.now in
    let old : List Entry = g.M.Direct.front c.args.m.now in
    let now : List Entry = g.M.Direct.front c.descend.new.m in
    let new : List Entry = g.M.Direct.front c.step.new.m in
    let k : Label = c.args.label.now in
    let met : Descended z d old now c.args.map c.args.key k true = subst (λ (b : Bool). Descended z d old now c.args.map c.args.key k b) c.if-not-branch.false c.in_ok-descend.ensures.met in
    let p = performed_on c.descend.ensures.looks.goes.keeps.stays c.in_ok-found.ensures.performed in
    λ root held key map respects.
    found_by_key z root d old k now new c.in_ok-found.found c.args.key p respects (c.descend.ensures.looks.goes.passes.keeps c.args.key (low_beside c.args.key c.requires.few.1) ∙ key)
    (met root held key map (respects_within z root d old new old now (prefix_same old) c.step.ensures.goes.passes.grows respects)) c.is_this.result c.is_this.ensures.0 c.is_this.ensures.1
