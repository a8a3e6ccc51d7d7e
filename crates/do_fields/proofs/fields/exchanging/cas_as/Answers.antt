use Rattle.std.proofs.Common.{◌≡◌, ◌↔◌, ◌∙◌, true, sym, ap, refl, subst, arith}
use Rattle.model_core.specs.declared.command.Command.TheVariants.{Cas}
use Rattle.model_core.specs.declared.reply.Reply.TheVariants.{Yes, No}
use Rattle.heap_rule.specs.Changes.{value_at}
use Rattle.heap_rule.specs.Running.{own_entry}
use Rattle.heap_rule.specs.declared.view.DomainView.{DomainView}
use Rattle.heap_words.specs.declared.value.Value.{Value}
use Rattle.heap_words.specs.declared.value.Value.TheVariants.{Ref}
use Rattle.heap_words.specs.Values.{value_word}
use Rattle.step_run.specs.Fields.Loads.{Measured, is_block}
use Rattle.step_run.specs.Fields.Stores.{MustRemember}
use Rattle.step_run.specs.Fields.Ticks.{tick_answer}
use Rattle.do_fields.proofs.OfFields.Doing.{entered_did}
use Rattle.do_fields.proofs.OfFields.FieldSteps.{field_after, field_known, suits_after, exchange_may}
use Rattle.step_run.specs.Exchange.Exchanges.{ExpectedMarked}
use Rattle.do_fields.proofs.OfFields.FieldStores.{stored_did, lost_did}
use Rattle.do_fields.proofs.OfFields.Looking.{none_for, past_for, measured_for, suits_for}
use Rattle.do_fields.proofs.fields.exchanging.cas_as.Goals as goal

pub returns-in_default-clause-did : goal.returns-in_default-clause-did
returns-in_default-clause-did g c = entered_did _ _ _ _ g.entry _ _ _ _ c.requires.0 (ap tick_answer c.requires.0) c.requires.1.0 c.tick.ensures.here c.tick.ensures.entered

pub returns-in_default-fields_for-clause-did : goal.returns-in_default-fields_for-clause-did
returns-in_default-fields_for-clause-did g c =
    entered_did _ _ _ _ g.entry _ _ _ _ c.requires.0 refl c.requires.1.0 c.head_load-head.ensures.here (none_for _ _ g.entry (own_entry c.args.dom.now (Cas c.args.block c.args.index c.args.expected c.args.item)) _ _ _ _ _ c.requires.0 c.head_load-head.ensures.told (ap is_block (sym c.register-value.ensures.value)) (c.fields_for.ensures _ c.head_load-head.ensures.told.head) c.in_default-fields_for.is)

pub returns-then-index-size-clause-did : goal.returns-then-index-size-clause-did
returns-then-index-size-clause-did g c =
    entered_did _ _ _ _ g.entry _ _ _ _ c.requires.0 refl c.requires.1.0 c.head_load-head.ensures.here (past_for _ _ g.entry (own_entry c.args.dom.now (Cas c.args.block c.args.index c.args.expected c.args.item)) _ _ _ _ _ c.requires.0 c.head_load-head.ensures.told (ap is_block (sym c.register-value.ensures.value)) (c.fields_for.ensures _ c.head_load-head.ensures.told.head) _ c.in-Some.is (omega arith))

pub darken_expected-requires : goal.darken_expected-requires
darken_expected-requires g c =
    let looked : Measured c.args.heap.now.config c.in-Ref.address c.args.block c.in-Some.size c.args.dom.now.view c.head_load-head.new.dom.view =
    measured_for _ _ g.entry (own_entry c.args.dom.now (Cas c.args.block c.args.index c.args.expected c.args.item)) _ _ _ _ _ c.requires.0 c.head_load-head.ensures.told (ap is_block (sym c.register-value.ensures.value)) (c.fields_for.ensures _ c.head_load-head.ensures.told.head) _ c.in-Some.is (omega arith) in
    let known = field_known c.args.heap.now c.args.dom.now c.head_load-head.new.dom.view c.args.block c.args.index c.in-Some.size c.in-Ref.address c.requires.1.0 c.requires.1.1.0 (sym c.in-Ref.ensures.value) looked (omega arith) in
    (refl, (c.head_load-head.ensures.here, (known.acts.runs, c.requires.1.1.1.0)))

pub field_exchange-found-requires : goal.field_exchange-found-requires
field_exchange-found-requires g c =
    let k = c.args.heap.now.config in
    let looked : Measured k c.in-Ref.address c.args.block c.in-Some.size c.args.dom.now.view c.head_load-head.new.dom.view =
    measured_for _ _ g.entry (own_entry c.args.dom.now (Cas c.args.block c.args.index c.args.expected c.args.item)) _ _ _ _ _ c.requires.0 c.head_load-head.ensures.told (ap is_block (sym c.register-value.ensures.value)) (c.fields_for.ensures _ c.head_load-head.ensures.told.head) _ c.in-Some.is (omega arith) in
    let known = field_known c.args.heap.now c.args.dom.now c.head_load-head.new.dom.view c.args.block c.args.index c.in-Some.size c.in-Ref.address c.requires.1.0 c.requires.1.1.0 (sym c.in-Ref.ensures.value) looked (omega arith) in
    let b = c.darken_expected.ensures in
    let z = c.darken_expected.new.dom.view in
    let field = field_after k c.head_load-head.new.dom.view z c.args.block c.args.index c.in-Ref.address b.learnt b.owes known in
    let own : z.own ≡ c.args.dom.now.view.own = ap (λ (x : DomainView). x.own) b.learnt.view ∙ ap (λ (x : DomainView). x.own) looked.looked.view in
    let suits = suits_after k c.head_load-head.new.dom.view z c.args.block c.in-Some.size _ b.learnt (suits_for _ _ g.entry (own_entry c.args.dom.now (Cas c.args.block c.args.index c.args.expected c.args.item)) _ _ _ _ _ c.requires.0 c.head_load-head.ensures.told (ap is_block (sym c.register-value.ensures.value)) (c.fields_for.ensures _ c.head_load-head.ensures.told.head) _ c.in-Some.is (ap (λ (x : DomainView). x.own.number) looked.looked.view) (value_at c.args.dom.now.view.own.registers c.args.item) (sym c.register-value.ensures.value) (omega arith)) in
    let same : value_at c.head_load-head.new.dom.view.own.registers c.args.expected ≡ value_at c.args.dom.now.view.own.registers c.args.expected = ap (λ (x : DomainView). value_at x.own.registers c.args.expected) looked.looked.view in
    let barred : ExpectedMarked k z.seen.share (value_at c.args.dom.now.view.own.registers c.args.expected) = subst (λ (v : Value). ExpectedMarked k z.seen.share v) same b.barrier in (
      b.here,
      (
        field.inside,
        exchange_may c.args.heap.now c.args.dom.now z g.entry c.args.block c.args.index c.args.expected c.args.item c.in-Ref.address _ _ c.must_remember-remembers.result c.requires.0 own (sym c.in-Ref.ensures.value)
            c.requires.1.1.1.0 (λ empty. c.in_default-wanted.not-Nothing (c.register-wanted.ensures.value ∙ empty)) (c.pack_value-old.ensures ∙ ap value_word c.register-wanted.ensures.value)
            c.requires.1.1.1.1.0 (λ empty. c.in_default-value.not-Nothing (c.register-value.ensures.value ∙ empty)) (c.pack_value.ensures ∙ ap value_word c.register-value.ensures.value)
            (subst (λ (v : Value). (c.must_remember-remembers.result ≡ true) ↔ MustRemember k (Ref c.in-Ref.address) v) c.register-value.ensures.value c.must_remember-remembers.ensures) c.requires.1.1.1.1.1 field suits barred,
      ),
    )

pub returns-then-found-old-clause-did : goal.returns-then-found-old-clause-did
returns-then-found-old-clause-did g c =
    let looked : Measured c.args.heap.now.config c.in-Ref.address c.args.block c.in-Some.size c.args.dom.now.view c.head_load-head.new.dom.view =
    measured_for _ _ g.entry (own_entry c.args.dom.now (Cas c.args.block c.args.index c.args.expected c.args.item)) _ _ _ _ _ c.requires.0 c.head_load-head.ensures.told (ap is_block (sym c.register-value.ensures.value)) (c.fields_for.ensures _ c.head_load-head.ensures.told.head) _ c.in-Some.is (omega arith) in
    let b = c.darken_expected.ensures in
    stored_did c.args.heap.now c.args.dom.now c.field_exchange-found.new.dom c.head_load-head.new.dom.view c.darken_expected.new.dom.view _ g.entry _ _ _ Yes c.requires.0 c.requires.1.0 c.field_exchange-found.ensures.here looked.looked b.learnt b.owes
    (c.field_exchange-found.ensures.told.won c.if-found-old.true)

pub returns-else-found-old-clause-did : goal.returns-else-found-old-clause-did
returns-else-found-old-clause-did g c =
    let looked : Measured c.args.heap.now.config c.in-Ref.address c.args.block c.in-Some.size c.args.dom.now.view c.head_load-head.new.dom.view =
    measured_for _ _ g.entry (own_entry c.args.dom.now (Cas c.args.block c.args.index c.args.expected c.args.item)) _ _ _ _ _ c.requires.0 c.head_load-head.ensures.told (ap is_block (sym c.register-value.ensures.value)) (c.fields_for.ensures _ c.head_load-head.ensures.told.head) _ c.in-Some.is (omega arith) in
    let b = c.darken_expected.ensures in
    lost_did c.args.heap.now c.args.dom.now c.field_exchange-found.new.dom c.head_load-head.new.dom.view c.darken_expected.new.dom.view _ g.entry _ _ No c.requires.0 c.requires.1.0 c.field_exchange-found.ensures.here looked.looked b.learnt b.owes
    (c.field_exchange-found.ensures.told.lost c.if-found-old.false)

pub returns-in_default-fields_for-clause-holds : goal.returns-in_default-fields_for-clause-holds
returns-in_default-fields_for-clause-holds g c =
    (none_for _ _ g.entry (own_entry c.args.dom.now (Cas c.args.block c.args.index c.args.expected c.args.item)) _ _ _ _ _ c.requires.0 c.head_load-head.ensures.told (ap is_block (sym c.register-value.ensures.value)) (c.fields_for.ensures _ c.head_load-head.ensures.told.head) c.in_default-fields_for.is).holds

pub returns-in-Nothing-clause-did : goal.returns-in-Nothing-clause-did
returns-in-Nothing-clause-did g c = entered_did _ _ _ _ g.entry _ _ _ _ c.requires.0 (ap tick_answer c.requires.0) c.requires.1.0 c.tick-in-Nothing.ensures.here c.tick-in-Nothing.ensures.entered

pub returns-in-Nothing-value-clause-did : goal.returns-in-Nothing-value-clause-did
returns-in-Nothing-value-clause-did g c = entered_did _ _ _ _ g.entry _ _ _ _ c.requires.0 (ap tick_answer c.requires.0) c.requires.1.0 c.tick-in-Nothing-value.ensures.here c.tick-in-Nothing-value.ensures.entered

pub returns-then-index-size-clause-holds : goal.returns-then-index-size-clause-holds
returns-then-index-size-clause-holds g c =
    (past_for _ _ g.entry (own_entry c.args.dom.now (Cas c.args.block c.args.index c.args.expected c.args.item)) _ _ _ _ _ c.requires.0 c.head_load-head.ensures.told (ap is_block (sym c.register-value.ensures.value)) (c.fields_for.ensures _ c.head_load-head.ensures.told.head) _ c.in-Some.is (omega arith)).holds
