use Rattle.std.proofs.Common.{◌≡◌, ◌∙◌, sym, List}
use Rattle.model_core.specs.declared.entry.Entry.{Entry}
use Rattle.model_core.specs.declared.state.Sizes.{Sizes}
use Rattle.model_laws.specs.declared.reach.seen.Seen.{Seen}
use Rattle.model_laws.specs.Reach.Exploring.{graph_of, roots_of}
use Rattle.model_laws.proofs.OfReach.Leading.{unled, unled_why, why_found, why_not}
use Rattle.model_laws.proofs.reach.asking.why.Goals as goal

pub returns-in-Some-clause-why : goal.returns-in-Some-clause-why
returns-in-Some-clause-why g c = λ walked.
    let z : Sizes = g.M.Walker.sizes c.args.m.now in
    let first : List Entry = g.M.Walker.front c.args.m.now in
    let seen : List Seen = c.in_ok-found.found.seen.items in (
      c.in_ok-way_to-in-Some.ensures.few,
      why_found (graph_of z first) (roots_of z (g.M.Walker.number c.args.m.now) first) seen c.deref.result.now c.deref-in-Some.result.now c.in_ok-found.found.weak c.args.target c.in-Some.at c.in_ok-way_to-in-Some.field-0 (c.in_ok-found.ensures.explored walked).1 c.deref.ensures.value c.deref-in-Some.ensures.value (sym c.place_of.ensures ∙ c.in-Some.is) c.in_ok-way_to-in-Some.ensures.leads,
    )

pub returns-in-None-clause-why : goal.returns-in-None-clause-why
returns-in-None-clause-why g c = λ walked.
    let z : Sizes = g.M.Walker.sizes c.args.m.now in
    let first : List Entry = g.M.Walker.front c.args.m.now in
    let seen : List Seen = c.in_ok-found.found.seen.items in
    unled (graph_of z first) (roots_of z (g.M.Walker.number c.args.m.now) first) seen c.in_ok-found.found.weak (c.in_ok-found.ensures.explored walked).1 c.args.target (why_not seen c.deref.result.now c.args.target c.deref.ensures.value (sym c.place_of.ensures ∙ c.in-None.is))

pub returns-clause-why : goal.returns-clause-why
returns-clause-why g c = λ walked.
    let z : Sizes = g.M.Walker.sizes c.args.m.now in
    let first : List Entry = g.M.Walker.front c.args.m.now in
    let seen : List Seen = c.in_ok-found.found.seen.items in
    unled_why (graph_of z first) (roots_of z (g.M.Walker.number c.args.m.now) first) seen c.in_ok-found.found.weak (c.in_ok-found.ensures.explored walked).1 c.args.target (why_not seen c.deref.result.now c.args.target c.deref.ensures.value (sym c.place_of.ensures ∙ c.in-None-2.is)) c.if-found.false
