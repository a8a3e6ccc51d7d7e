use Rattle.std.proofs.Common.{◌≡◌, ◌≢◌, ◌∙◌, ap, sym, subst, ℕ, ◌<◌, Bool, List, Result, Ok, Err, Option, Some, get_or, length, slice_get}
use Rattle.std.specs.Result.{IfOk}
use Rattle.std.proofs.lemmas.Option.{slice_get-get_or}
use Rattle.model_core.specs.declared.entry.Entry.{Entry}
use Rattle.model_core.specs.declared.graph.Value.TheVariants.{Block}
use Rattle.model_core.specs.declared.state.Sizes.{Sizes}
use Rattle.model_core.specs.Domains.{register}
use Rattle.model_laws.specs.declared.reach.seen.Seen.{Seen}
use Rattle.model_laws.specs.Reach.Exploring.{AllTraced, Extends, Looked, Visited, graph_of}
use Rattle.model_core.specs.declared.label.Label.{Label}
use Rattle.model_laws.specs.Reach.Ways.{Edges, leads}
use Rattle.model_laws.specs.Reach.Walks.{Still, Walked, state_of}
use Rattle.model_laws.proofs.OfReach.WalkSteps.{walks_prefix}
use Rattle.model_laws.proofs.OfReach.BlockSteps.{looked_by, looked_not}
use Rattle.model_laws.proofs.reach.exploring.look.Goals as goal

both_ok : {T E : Type 0} (r : Result T E) (P Q R : T → Type 0) → ((x : T) → P x → Q x → R x) → IfOk r P → IfOk r Q → IfOk r R
both_ok (Ok x) P Q R f p q = f x p q
both_ok (Err e) P Q R f p q = tt

pub returns-clause-looked : goal.returns-clause-looked
returns-clause-looked g c =
    let z : Sizes = g.M.Walker.sizes c.args.m.now in
    let d : ℕ = g.M.Walker.number c.args.m.now in
    let first : List Entry = g.M.Walker.front c.args.m.now in
    let mid : List Entry = g.M.Walker.front c.go.new.m in
    let last : List Entry = g.M.Walker.front c.visit.new.m in
    let seen : List Seen = c.args.seen.now.items in
    let new : List Seen = c.visit.new.seen.items in
    let b : Seen = c.index.result.now in
    let found : slice_get seen c.args.at ≡ Some b = slice_get-get_or seen c.args.at b c.requires.inside ∙ ap Some (sym c.index.ensures) in
    both_ok c.visit.result
    (λ _. Extends seen new)
    (λ weak. Walked (g.M.Walker.number c.go.new.m) mid last → Still (g.M.Walker.sizes c.go.new.m) (g.M.Walker.number c.go.new.m) mid last × ((x : Seen) → slice_get seen c.args.at ≡ Some x → register (state_of (g.M.Walker.sizes c.go.new.m) mid) (g.M.Walker.number c.go.new.m) 14 ≡ Block x.label → Visited (graph_of (g.M.Walker.sizes c.go.new.m) mid) c.args.at x.label seen new weak))
    (λ weak. Walked d first last → Looked z d first last c.args.stop c.args.at seen new weak)
    (λ weak goes_on visited. looked_by z (g.M.Walker.sizes c.go.new.m) d (g.M.Walker.number c.go.new.m) first mid last c.args.stop c.in_ok-way.way c.args.at seen new weak b c.go.ensures.on.sizes c.go.ensures.on.number (walks_prefix d first mid c.go.ensures.on.walks) (walks_prefix (g.M.Walker.number c.go.new.m) mid last c.visit.ensures.on.walks) found (c.is_stop.ensures.no c.if-is_stop.false) goes_on
    (subst (λ (xs : List Seen). (f : Edges) (roots : ℕ → Option Label) (x : Seen) → AllTraced f roots xs → slice_get xs c.args.at ≡ Some x → leads f roots c.in_ok-way.way ≡ Some x.label) c.deref.ensures.value c.in_ok-way.ensures.leads)
    c.in_ok-go.ensures.went visited)
    c.visit.ensures.goes_on
    c.visit.ensures.visited
