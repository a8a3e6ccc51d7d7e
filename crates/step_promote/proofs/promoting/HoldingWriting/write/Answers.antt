use Rattle.std.proofs.Common.{ℕ, Some, sym, ap, subst, ◌∙◌}
use Rattle.heap_rule.specs.declared.view.Finalisers.{Finalisers}
use Rattle.heap_rule.specs.declared.view.Held.{Held}
use Rattle.heap_rule.specs.declared.view.Own.{Own}
use Rattle.heap_rule.specs.declared.view.Waiting.TheVariants.{Fin}
use Rattle.step_promote.specs.Promotion.{waiting_at}
use Rattle.step_promote.specs.Writes.{MovesHeld}
use Rattle.step_promote.proofs.HeldPlaces.{set_changed}
use Rattle.step_promote.proofs.promoting.HoldingWriting.write.Goals as goal

pub returns-in-Final : goal.returns-in-Final
returns-in-Final c =
    let own : Own = c.args.own.now in
    let fs : Finalisers = own.finalisers in
    let copy : ℕ = c.args.self.now.copy in
    let items = c.set.ensures.items ∙ set_changed (λ r. record r { address = copy }) fs.finals.items c.in-Final.i c.get-item.result (sym c.get-item.ensures) in
    subst (λ (h : Held). MovesHeld h copy own (record own { finalisers = record fs { finals = c.set.new.self } })) (sym c.in-Final.is)
    (λ j. record own { finalisers = record fs { finals = record { items = items j; room = c.set.ensures.room j } } })

pub returns-in-Last : goal.returns-in-Last
returns-in-Last c =
    let own : Own = c.args.own.now in
    let fs : Finalisers = own.finalisers in
    let copy : ℕ = c.args.self.now.copy in
    let items = c.set-in-Last.ensures.items ∙ set_changed (λ r. record r { address = copy }) fs.lasts.items c.in-Last.i c.get-item-in-Last.result (sym c.get-item-in-Last.ensures) in
    subst (λ (h : Held). MovesHeld h copy own (record own { finalisers = record fs { lasts = c.set-in-Last.new.self } })) (sym c.in-Last.is)
    (λ j. record own { finalisers = record fs { lasts = record { items = items j; room = c.set-in-Last.ensures.room j } } })

pub returns-in-Fin : goal.returns-in-Fin
returns-in-Fin c =
    let own : Own = c.args.own.now in
    let fs : Finalisers = own.finalisers in
    let copy : ℕ = c.args.self.now.copy in
    let found = sym c.get.ensures ∙ ap Some c.in-Fin.is in
    let items = c.set-in-Queue.ensures.items ∙ set_changed (waiting_at copy) fs.queue.items c.in-Queue.i (Fin c.in-Fin.address c.in-Fin.number c.in-Fin.register) found in
    subst (λ (h : Held). MovesHeld h copy own (record own { finalisers = record fs { queue = c.set-in-Queue.new.self } })) (sym c.in-Queue.is)
    (λ j. record own { finalisers = record fs { queue = record { items = items j; room = c.set-in-Queue.ensures.room j } } })
