use Rattle.std.proofs.Common.{◌≡◌, ◌∙◌, ap, sym, subst, ℕ, ◌+◌, ◌<◌, ◌≤◌, Bool, false, List, [], length, refl, arith, rules}
use Rattle.model_core.specs.declared.entry.Entry.{Entry}
use Rattle.model_core.specs.declared.state.Sizes.{Sizes}
use Rattle.model_laws.specs.declared.reach.seen.Seen.{Seen}
use Rattle.model_laws.specs.Reach.Exploring.{Explored, graph_of, roots_of}
use Rattle.model_laws.specs.Reach.Walks.{Still, Walked, Walks}
use Rattle.model_laws.proofs.OfReach.Adding.{extends_long}
use Rattle.model_laws.proofs.OfReach.BlockSteps.{explored_on}
use Rattle.model_laws.proofs.OfReach.Going.{still_same}
use Rattle.model_laws.proofs.OfReach.WalkSteps.{walks_on, walks_prefix, walks_same}
use Rattle.model_laws.proofs.reach.exploring.explore.Goals as goal

pub places-init : goal.places-init
places-init g c =
    let z : Sizes = g.M.Walker.sizes c.args.m.now in
    let d : ℕ = g.M.Walker.number c.args.m.now in
    let first : List Entry = g.M.Walker.front c.args.m.now in
    let e = c.note_roots.ensures in
    let front : g.M.Walker.front c.note_roots.new.m ≡ first = e.front in record {
      on = record { home = e.home; sizes = e.sizes; number = e.number; walks = subst (Walks d first) (sym front) (walks_same d first) };
      ordered = c.in_ok-note_roots.ensures.ordered;
      once = c.in_ok-note_roots.ensures.once;
      inside = omega arith;
      explored = λ walked. (
        subst (Still z d first) (sym front) (still_same z d first),
        c.in_ok-note_roots.ensures.noted c.args.stop,
      );
    }

pub places-preserved : goal.places-preserved
places-preserved g c =
    let z : Sizes = g.M.Walker.sizes c.args.m.now in
    let d : ℕ = g.M.Walker.number c.args.m.now in
    let first : List Entry = g.M.Walker.front c.args.m.now in
    let now : List Entry = g.M.Walker.front c.places.m in
    let next : List Entry = g.M.Walker.front c.look.new.m in
    let seen : List Seen = c.places.seen.items in
    let new : List Seen = c.look.new.seen.items in
    let i = c.places.invariant in
    let e = c.in_ok-weak.ensures in record {
      on = walks_on i.on c.look.ensures.on;
      ordered = e.ordered;
      once = e.once;
      inside = (let more : c.places.at < length new = extends_long seen new e.goes_on c.places.at (let h : c.places.at < length seen = search rules in h) in omega arith);
      explored = explored_on z _ d _ first now next c.args.stop c.places.at seen new c.places.weak c.in_ok-weak.field-0 i.on.sizes i.on.number (walks_prefix d first now i.on.walks) (walks_prefix (g.M.Walker.number c.places.m) now next c.look.ensures.on.walks) i.ordered e.ordered i.explored e.looked;
    }
