use Rattle.std.specs.Prelude.{bit_or}
use Rattle.heap_rule.proofs.Closes.{Opened, step_allowed, can_write, written_closes}
use Rattle.heap_rule.proofs.raw.raw_or.Goals as goal

pub or_step-found-requires-clause-rule : goal.or_step-found-requires-clause-rule
or_step-found-requires-clause-rule g c =
    let o : Opened _ c.args.heap.now _ c.args.dom.now c.dom.inside.seat.me = record { heap = c.heap.view_is; token = c.dom.view_is; here = c.requires.here; seat = c.dom.invariant } in
    step_allowed _ _ _ _ _ o _ _ c.args.index (λ n. bit_or n c.args.bits) g.T.Told.tells c.requires.may

pub write-requires : goal.write-requires
write-requires g c =
    let o : Opened _ c.args.heap.now _ c.args.dom.now c.dom.inside.seat.me = record { heap = c.heap.view_is; token = c.dom.view_is; here = c.requires.here; seat = c.dom.invariant } in
    can_write _ _ _ _ _ o c.or_step-found.result g.T.Told.tells _ _ _ (c.requires.closes c.or_step-found.result) c.or_step-found.ensures.told

pub invariant_of-dom : goal.invariant_of-dom
invariant_of-dom g c =
    let o : Opened _ c.args.heap.now _ c.args.dom.now c.dom.inside.seat.me = record { heap = c.heap.view_is; token = c.dom.view_is; here = c.requires.here; seat = c.dom.invariant } in
    (written_closes _ _ _ _ _ o c.or_step-found.result g.T.Told.tells _ _ _ _ (c.requires.closes c.or_step-found.result) c.or_step-found.ensures.told c.write.ensures).0

pub returns-clause-told : goal.returns-clause-told
returns-clause-told g c =
    let o : Opened _ c.args.heap.now _ c.args.dom.now c.dom.inside.seat.me = record { heap = c.heap.view_is; token = c.dom.view_is; here = c.requires.here; seat = c.dom.invariant } in
    (written_closes _ _ _ _ _ o c.or_step-found.result g.T.Told.tells _ _ _ _ (c.requires.closes c.or_step-found.result) c.or_step-found.ensures.told c.write.ensures).1
