use Rattle.std.proofs.Common.{◌≡◌, ◌∙◌, List, true, false}
use Rattle.model_core.specs.declared.entry.Entry.{Entry}
use Rattle.model_core.specs.declared.state.Sizes.{Sizes}
use Rattle.weak_tables.proofs.TakeLemmas.{at_sizes, cleared_sizes}
use Rattle.weak_tables.proofs.PutLemmas.{placing, put_made, put_refused}
use Rattle.weak_tables.proofs.putting.table_put.Goals as goal

pub returns-then-not-place-clause-answer : goal.returns-then-not-place-clause-answer
returns-then-not-place-clause-answer g c =
    let z : Sizes = g.M.Machine.sizes c.args.m.now in
    let old : List Entry = g.M.Machine.front c.args.m.now in
    let s = placing z _ _ old _ _ _ c.args.table c.args.key c.args.item c.in-Block.label _ _ _ _ false c.show.ensures.sizes c.show.ensures.front c.show.ensures.reply c.in-Block.is
    c.show-shown.ensures.sizes c.show-shown.ensures.front c.show-shown.ensures.reply c.is_empty.ensures c.if-is_empty.false c.place.ensures.placed c.if-not-place.true in
    λ root chains held table.
    put_refused z c.shows_legal.ensures.limits root chains c.in-Block.label c.args.table c.args.key c.args.item c.args.item c.requires.few.1 c.requires.few.2 c.requires.few.2 old _ s.0 held table _ s.1 (s.2 root chains held table)
    (cleared_sizes z _ _ _ (c.place.ensures.spends.sizes ∙ (c.show-shown.ensures.sizes ∙ c.show.ensures.sizes)) c.clear.ensures.cleared)

pub returns-clause-answer : goal.returns-clause-answer
returns-clause-answer g c =
    let z : Sizes = g.M.Machine.sizes c.args.m.now in
    let old : List Entry = g.M.Machine.front c.args.m.now in
    let s = placing z _ _ old _ _ _ c.args.table c.args.key c.args.item c.in-Block.label _ _ _ _ true c.show.ensures.sizes c.show.ensures.front c.show.ensures.reply c.in-Block.is
    c.show-shown.ensures.sizes c.show-shown.ensures.front c.show-shown.ensures.reply c.is_empty.ensures c.if-is_empty.false c.place.ensures.placed c.if-not-place.false in
    let s1 : g.M.Machine.sizes c.place.new.m ≡ z = c.place.ensures.spends.sizes ∙ (c.show-shown.ensures.sizes ∙ c.show.ensures.sizes) in
    let s2 : g.M.Machine.sizes c.perform_between-datum.new.m ≡ z = c.perform_between-datum.ensures.passes.keeps.sizes ∙ s1 in
    λ root chains held table.
    put_made z c.shows_legal.ensures.limits root chains c.in-Block.label c.args.table c.args.key c.args.item c.args.item c.requires.few.1 c.requires.few.2 c.requires.few.2 old _ s.0 held table _ _ _ _ _ s.1 (s.2 root chains held table)
    (at_sizes z _ _ _ _ _ s1 c.perform_between-datum.ensures.performed) (at_sizes z _ _ _ _ _ s2 c.perform_between-named.ensures.performed) (cleared_sizes z _ _ _ (c.perform_between-named.ensures.passes.keeps.sizes ∙ s2) c.clear-2.ensures.cleared)
