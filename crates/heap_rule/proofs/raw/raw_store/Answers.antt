use Rattle.heap_rule.proofs.Closes.{Opened, store_allowed, can_write, written_closes}
use Rattle.heap_rule.proofs.raw.raw_store.Goals as goal

pub store_step-requires-clause-rule : goal.store_step-requires-clause-rule
store_step-requires-clause-rule g c =
    let o : Opened _ c.args.heap.now _ c.args.dom.now c.dom.inside.seat.me = record { heap = c.heap.view_is; token = c.dom.view_is; here = c.requires.here; seat = c.dom.invariant } in
    store_allowed _ _ _ _ _ o _ _ c.args.index c.args.new g.T.Told.tells c.requires.may

pub write-requires : goal.write-requires
write-requires g c =
    let o : Opened _ c.args.heap.now _ c.args.dom.now c.dom.inside.seat.me = record { heap = c.heap.view_is; token = c.dom.view_is; here = c.requires.here; seat = c.dom.invariant } in
    can_write _ _ _ _ _ o c.args.new g.T.Told.tells _ _ _ c.requires.closes c.store_step.ensures.told

pub invariant_of-dom : goal.invariant_of-dom
invariant_of-dom g c =
    let o : Opened _ c.args.heap.now _ c.args.dom.now c.dom.inside.seat.me = record { heap = c.heap.view_is; token = c.dom.view_is; here = c.requires.here; seat = c.dom.invariant } in
    (written_closes _ _ _ _ _ o c.args.new g.T.Told.tells _ _ _ _ c.requires.closes c.store_step.ensures.told c.write.ensures).0

pub returns-clause-told : goal.returns-clause-told
returns-clause-told g c =
    let o : Opened _ c.args.heap.now _ c.args.dom.now c.dom.inside.seat.me = record { heap = c.heap.view_is; token = c.dom.view_is; here = c.requires.here; seat = c.dom.invariant } in
    (written_closes _ _ _ _ _ o c.args.new g.T.Told.tells _ _ _ _ c.requires.closes c.store_step.ensures.told c.write.ensures).1
