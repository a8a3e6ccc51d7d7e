use Rattle.std.proofs.Common.{◌≡◌, ◌↔◌, ◌∙◌, true, ℕ, ◌+◌, ◌≤◌, sym, ap, refl, subst, arith}
use Rattle.model_core.specs.declared.command.Command.TheVariants.{Store}
use Rattle.heap_rule.specs.Running.{own_entry}
use Rattle.heap_rule.specs.Beside.{Barrier}
use Rattle.heap_rule.specs.Layout.{heap_words}
use Rattle.do_fields.specs.Darkening.Aware.{MayOverwrite}
use Rattle.model_core.specs.declared.reply.Reply.TheVariants.{Done}
use Rattle.heap_rule.specs.Changes.{value_at}
use Rattle.step_run.specs.Fields.Loads.{subject, is_block}
use Rattle.heap_words.specs.declared.value.Value.{Value}
use Rattle.heap_words.specs.declared.value.Value.TheVariants.{Ref}
use Rattle.heap_words.specs.Values.{value_word}
use Rattle.step_run.specs.Fields.Stores.{MustRemember}
use Rattle.step_run.specs.Fields.Ticks.{tick_answer}
use Rattle.do_fields.proofs.OfFields.Doing.{entered_did}
use Rattle.heap_rule.specs.declared.view.DomainView.{DomainView}
use Rattle.step_run.specs.Fields.Loads.{Measured}
use Rattle.do_fields.proofs.OfFields.FieldSteps.{at_address, field_after, field_known, suits_after, store_may}
use Rattle.do_fields.proofs.OfFields.FieldStores.{stored_did}
use Rattle.do_fields.proofs.OfFields.Looking.{none_for, past_for, measured_for, suits_for}
use Rattle.do_fields.proofs.fields.fields.store_as.Goals as goal

pub returns-in_default-clause-did : goal.returns-in_default-clause-did
returns-in_default-clause-did g c = entered_did _ _ _ _ g.entry _ _ _ _ c.requires.0 (ap tick_answer c.requires.0) c.requires.1.0 c.tick.ensures.here c.tick.ensures.entered

pub returns-in_default-fields_for-clause-did : goal.returns-in_default-fields_for-clause-did
returns-in_default-fields_for-clause-did g c =
    entered_did _ _ _ _ g.entry _ _ _ _ c.requires.0 refl c.requires.1.0 c.head_load-head.ensures.here (none_for _ _ g.entry (own_entry c.args.dom.now (Store c.args.block c.args.index c.args.item)) _ _ _ _ _ c.requires.0 c.head_load-head.ensures.told (ap is_block (sym c.register-value.ensures.value)) (c.fields_for.ensures _ c.head_load-head.ensures.told.head) c.in_default-fields_for.is)

pub returns-then-index-size-clause-did : goal.returns-then-index-size-clause-did
returns-then-index-size-clause-did g c =
    entered_did _ _ _ _ g.entry _ _ _ _ c.requires.0 refl c.requires.1.0 c.head_load-head.ensures.here (past_for _ _ g.entry (own_entry c.args.dom.now (Store c.args.block c.args.index c.args.item)) _ _ _ _ _ c.requires.0 c.head_load-head.ensures.told (ap is_block (sym c.register-value.ensures.value)) (c.fields_for.ensures _ c.head_load-head.ensures.told.head) _ c.in-Some.is (omega arith))

pub returns-in-Nothing-clause-did : goal.returns-in-Nothing-clause-did
returns-in-Nothing-clause-did g c = entered_did _ _ _ _ g.entry _ _ _ _ c.requires.0 (ap tick_answer c.requires.0) c.requires.1.0 c.tick-in-Nothing.ensures.here c.tick-in-Nothing.ensures.entered

pub overwrite_barrier-requires : goal.overwrite_barrier-requires
overwrite_barrier-requires g c =
    let looked : Measured c.args.heap.now.config c.in-Ref.address c.args.block c.in-Some.size c.args.dom.now.view c.head_load-head.new.dom.view =
    measured_for _ _ g.entry (own_entry c.args.dom.now (Store c.args.block c.args.index c.args.item)) _ _ _ _ _ c.requires.0 c.head_load-head.ensures.told (ap is_block (sym c.register-value.ensures.value)) (c.fields_for.ensures _ c.head_load-head.ensures.told.head) _ c.in-Some.is (omega arith) in
    let field = field_known c.args.heap.now c.args.dom.now c.head_load-head.new.dom.view c.args.block c.args.index c.in-Some.size c.in-Ref.address c.requires.1.0 c.requires.1.1.0 (sym c.in-Ref.ensures.value) looked (omega arith) in
    let a : ℕ = c.in-Ref.address in
    let i : ℕ = c.args.index in
    let index_is : c.from.result ≡ i = c.from.ensures in
    let register_is : subject g.entry ≡ c.args.block = ap subject c.requires.0 in
    let low : a + i + 2 ≤ heap_words c.args.heap.now.config = (let h = field.inside.1 in omega (arith, h)) in
    (c.head_load-head.ensures.here, (field.acts.runs, subst (λ (m : ℕ × ℕ). MayOverwrite c.args.heap.now.config c.head_load-head.new.dom.view a m.1 m.0) (λ j. (sym index_is j, sym register_is j)) (record { may = field.may; of_block = at_address c.args.heap.now.config c.head_load-head.new.dom.view c.args.block i a field; inside = low })))

pub field_store-requires : goal.field_store-requires
field_store-requires g c =
    let looked : Measured c.args.heap.now.config c.in-Ref.address c.args.block c.in-Some.size c.args.dom.now.view c.head_load-head.new.dom.view =
    measured_for _ _ g.entry (own_entry c.args.dom.now (Store c.args.block c.args.index c.args.item)) _ _ _ _ _ c.requires.0 c.head_load-head.ensures.told (ap is_block (sym c.register-value.ensures.value)) (c.fields_for.ensures _ c.head_load-head.ensures.told.head) _ c.in-Some.is (omega arith) in
    let known = field_known c.args.heap.now c.args.dom.now c.head_load-head.new.dom.view c.args.block c.args.index c.in-Some.size c.in-Ref.address c.requires.1.0 c.requires.1.1.0 (sym c.in-Ref.ensures.value) looked (omega arith) in
    let b = c.overwrite_barrier.ensures in
    let k = c.args.heap.now.config in
    let z = c.overwrite_barrier.new.dom.view in
    let field = field_after k c.head_load-head.new.dom.view z c.args.block c.args.index c.in-Ref.address b.learnt b.owes known in
    let own : z.own ≡ c.args.dom.now.view.own = ap (λ (x : DomainView). x.own) b.learnt.view ∙ ap (λ (x : DomainView). x.own) looked.looked.view in
    let barred : Barrier z.seen.share field.may.address c.args.index = subst (λ (m : ℕ × ℕ). Barrier z.seen.share m.0 m.1) (λ j. (sym (at_address k z c.args.block c.args.index c.in-Ref.address field) j, c.from.ensures j)) b.barrier in
    let suits = suits_after k c.head_load-head.new.dom.view z c.args.block c.in-Some.size _ b.learnt (suits_for _ _ g.entry (own_entry c.args.dom.now (Store c.args.block c.args.index c.args.item)) _ _ _ _ _ c.requires.0 c.head_load-head.ensures.told (ap is_block (sym c.register-value.ensures.value)) (c.fields_for.ensures _ c.head_load-head.ensures.told.head) _ c.in-Some.is (ap (λ (x : DomainView). x.own.number) looked.looked.view) (value_at c.args.dom.now.view.own.registers c.args.item) (sym c.register-value.ensures.value) (omega arith)) in
    (b.here, (field.inside, store_may c.args.heap.now c.args.dom.now z g.entry c.args.block c.args.index c.args.item c.in-Ref.address _ c.must_remember-remembers.result c.requires.0 own (sym c.in-Ref.ensures.value) c.requires.1.1.1.0 (λ empty. c.in_default-value.not-Nothing (c.register-value.ensures.value ∙ empty)) (c.pack_value.ensures ∙ ap value_word c.register-value.ensures.value) (subst (λ (v : Value). (c.must_remember-remembers.result ≡ true) ↔ MustRemember c.args.heap.now.config (Ref c.in-Ref.address) v) c.register-value.ensures.value c.must_remember-remembers.ensures) c.requires.1.1.1.1 field suits barred))

pub returns-clause-did : goal.returns-clause-did
returns-clause-did g c =
    let looked : Measured c.args.heap.now.config c.in-Ref.address c.args.block c.in-Some.size c.args.dom.now.view c.head_load-head.new.dom.view =
    measured_for _ _ g.entry (own_entry c.args.dom.now (Store c.args.block c.args.index c.args.item)) _ _ _ _ _ c.requires.0 c.head_load-head.ensures.told (ap is_block (sym c.register-value.ensures.value)) (c.fields_for.ensures _ c.head_load-head.ensures.told.head) _ c.in-Some.is (omega arith) in
    let b = c.overwrite_barrier.ensures in
    stored_did c.args.heap.now c.args.dom.now c.field_store.new.dom c.head_load-head.new.dom.view c.overwrite_barrier.new.dom.view _ g.entry _ _ _ Done c.requires.0 c.requires.1.0 c.field_store.ensures.here looked.looked b.learnt b.owes c.field_store.ensures.told

pub returns-in_default-fields_for-clause-holds : goal.returns-in_default-fields_for-clause-holds
returns-in_default-fields_for-clause-holds g c =
    (none_for _ _ g.entry (own_entry c.args.dom.now (Store c.args.block c.args.index c.args.item)) _ _ _ _ _ c.requires.0 c.head_load-head.ensures.told (ap is_block (sym c.register-value.ensures.value)) (c.fields_for.ensures _ c.head_load-head.ensures.told.head) c.in_default-fields_for.is).holds

pub returns-then-index-size-clause-holds : goal.returns-then-index-size-clause-holds
returns-then-index-size-clause-holds g c =
    (past_for _ _ g.entry (own_entry c.args.dom.now (Store c.args.block c.args.index c.args.item)) _ _ _ _ _ c.requires.0 c.head_load-head.ensures.told (ap is_block (sym c.register-value.ensures.value)) (c.fields_for.ensures _ c.head_load-head.ensures.told.head) _ c.in-Some.is (omega arith)).holds
