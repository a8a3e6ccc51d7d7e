use Rattle.std.proofs.Common.{◌≡◌, ◌∙◌, ℕ, ◌<◌, List, get_or, length, subst, ap, sym}
use Rattle.model_core.specs.declared.entry.Entry.{Entry}
use Rattle.model_core.specs.declared.state.Sizes.{Sizes}
use Rattle.model_laws.specs.Reach.Walks.{Loaded, Walked}
use Rattle.model_laws.proofs.OfReach.WalkSteps.{walks_on, walks_prefix}
use Rattle.model_laws.proofs.OfReach.Going.{going_preserved}
use Rattle.model_laws.proofs.reach.exploring.go.Goals as goal

pub fields-preserved : goal.fields-preserved
fields-preserved g c =
    let z : Sizes = g.M.Walker.sizes c.args.m.now in
    let d : ℕ = g.M.Walker.number c.args.m.now in
    let first : List Entry = g.M.Walker.front c.args.m.now in
    let now : List Entry = g.M.Walker.front c.fields.m in
    let next : List Entry = g.M.Walker.front c.load.new.m in
    let items : c.deref-field-items.result.now ≡ c.args.way.now.fields.items = c.deref-field-items.ensures.value in record {
      on = walks_on c.fields.invariant.on c.load.ensures.on;
      going = going_preserved z (g.M.Walker.sizes c.fields.m) d (g.M.Walker.number c.fields.m) first now next c.args.way.now c.fields.field-index 0 c.in_ok-load.field-0 c.fields.invariant.on.sizes c.fields.invariant.on.number (walks_prefix d first now c.fields.invariant.on.walks) (walks_prefix (g.M.Walker.number c.fields.m) now next c.load.ensures.on.walks)
          (subst (λ (xs : List ℕ). c.fields.field-index < length xs) items c.fields-test.true) c.fields.invariant.going
          (subst (λ (xs : List ℕ). Walked (g.M.Walker.number c.fields.m) now next → Loaded (g.M.Walker.sizes c.fields.m) (g.M.Walker.number c.fields.m) now next 14 (get_or xs c.fields.field-index 0) c.in_ok-load.field-0) items c.in_ok-load.ensures.loaded);
    }
