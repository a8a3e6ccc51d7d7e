use Rattle.std.proofs.Common.{sym, subst}
use Rattle.model_core.specs.declared.command.Command.{Command}
use Rattle.run_turns.specs.declared.command.Attempt.TheVariants.{Made}
use Rattle.run_turns.specs.Tries.{AttemptAnswers}
use Rattle.run_turns.proofs.Trying.{some_room, store_answers}
use Rattle.run_turns.proofs.command.try_store.Goals as goal

pub returns-in-Store : goal.returns-in-Store
returns-in-Store c = λ served collected.
    let e = c.store-reply.ensures in
    let some = some_room c.remembered_room.result c.args.dom.now.view.own.remembered.room c.remembered_room.ensures c.if-remembered_room-eq0.false in
    subst (λ (command : Command). AttemptAnswers c.args.heap.now c.args.dom.now c.store-reply.new.dom command served collected (Made c.store-reply.result)) (sym c.in-Store.is)
    (store_answers c.args.heap.now c.args.dom.now c.store-reply.new.dom _ served collected c.store-reply.result tt some e.did e.remembers.rest e.remembers.registers (e.remembers.remembered, e.remembers.unremembered))

pub returns-in-SetKey : goal.returns-in-SetKey
returns-in-SetKey c = λ served collected.
    let e = c.set_key-reply.ensures in
    let some = some_room c.remembered_room.result c.args.dom.now.view.own.remembered.room c.remembered_room.ensures c.if-remembered_room-eq0.false in
    subst (λ (command : Command). AttemptAnswers c.args.heap.now c.args.dom.now c.set_key-reply.new.dom command served collected (Made c.set_key-reply.result)) (sym c.in-SetKey.is)
    (store_answers c.args.heap.now c.args.dom.now c.set_key-reply.new.dom _ served collected c.set_key-reply.result tt some e.did e.remembers.rest e.remembers.registers (e.remembers.remembered, e.remembers.unremembered))

pub returns-in-SetData : goal.returns-in-SetData
returns-in-SetData c = λ served collected.
    let e = c.set_data-reply.ensures in
    let some = some_room c.remembered_room.result c.args.dom.now.view.own.remembered.room c.remembered_room.ensures c.if-remembered_room-eq0.false in
    subst (λ (command : Command). AttemptAnswers c.args.heap.now c.args.dom.now c.set_data-reply.new.dom command served collected (Made c.set_data-reply.result)) (sym c.in-SetData.is)
    (store_answers c.args.heap.now c.args.dom.now c.set_data-reply.new.dom _ served collected c.set_data-reply.result tt some e.did e.remembers.rest e.remembers.registers (e.remembers.remembered, e.remembers.unremembered))

pub returns-in-Cas : goal.returns-in-Cas
returns-in-Cas c = λ served collected.
    let e = c.cas-reply.ensures in
    let some = some_room c.remembered_room.result c.args.dom.now.view.own.remembered.room c.remembered_room.ensures c.if-remembered_room-eq0.false in
    subst (λ (command : Command). AttemptAnswers c.args.heap.now c.args.dom.now c.cas-reply.new.dom command served collected (Made c.cas-reply.result)) (sym c.in-Cas.is)
    (store_answers c.args.heap.now c.args.dom.now c.cas-reply.new.dom _ served collected c.cas-reply.result tt some e.did e.remembers.rest e.remembers.registers (e.remembers.remembered, e.remembers.unremembered))
