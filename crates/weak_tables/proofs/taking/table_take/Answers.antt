use Rattle.std.proofs.Common.{◌≡◌, ◌∙◌, true, false}
use Rattle.model_core.specs.declared.state.Sizes.{Sizes}
use Rattle.weak_tables.proofs.TakeLemmas.{at_sizes, cleared_sizes, looked, took, took_none}
use Rattle.weak_tables.proofs.taking.table_take.Goals as goal

pub returns-then-not-look_up-clause-answer : goal.returns-then-not-look_up-clause-answer
returns-then-not-look_up-clause-answer g c =
    let z : Sizes = g.M.Machine.sizes c.args.m.now in
    let s = looked z _ _ _ _ c.args.table c.args.key c.in-Block.label _ _ false c.show.ensures.sizes c.show.ensures.front c.show.ensures.reply c.in-Block.is c.look_up.ensures.found c.if-not-look_up.true in
    λ root chains held table. took_none z c.shows_legal.ensures.limits root chains c.in-Block.label c.args.table c.args.key c.requires.few.1 _ _ s.0 held table _ s.1 (cleared_sizes z _ _ _ (c.look_up.ensures.passes.keeps.sizes ∙ c.show.ensures.sizes) c.clear.ensures.cleared)

pub returns-clause-answer : goal.returns-clause-answer
returns-clause-answer g c =
    let z : Sizes = g.M.Machine.sizes c.args.m.now in
    let s = looked z _ _ _ _ c.args.table c.args.key c.in-Block.label _ _ true c.show.ensures.sizes c.show.ensures.front c.show.ensures.reply c.in-Block.is c.look_up.ensures.found c.if-not-look_up.false in
    let found : g.M.Machine.sizes c.look_up.new.m ≡ z = c.look_up.ensures.passes.keeps.sizes ∙ c.show.ensures.sizes in
    let taken : g.M.Machine.sizes c.perform_between-key.new.m ≡ z = c.perform_between-key.ensures.passes.keeps.sizes ∙ found in
    λ root chains held table. took z c.shows_legal.ensures.limits root chains c.in-Block.label c.args.table c.args.key c.requires.few.1 _ _ s.0 held table _ _ _ _ _ s.1
    (at_sizes z _ _ _ _ _ found c.perform_between-key.ensures.performed) (at_sizes z _ _ _ _ _ taken c.perform_between-datum.ensures.performed)
    (cleared_sizes z _ _ _ (c.perform_between-datum.ensures.passes.keeps.sizes ∙ taken) c.clear-2.ensures.cleared)
