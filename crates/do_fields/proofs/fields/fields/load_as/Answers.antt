use Rattle.std.proofs.Common.{◌≡◌, ℕ, ◌≤◌, ◌&&◌, false, sym, ap, refl, subst, arith}
use Rattle.heap_rule.specs.Places.{needs_no_scan}
use Rattle.model_core.specs.declared.command.Command.TheVariants.{Load}
use Rattle.heap_rule.specs.Running.{own_entry}
use Rattle.step_run.specs.Fields.Loads.{place_of, puts_block}
use Rattle.step_run.specs.Fields.Ticks.{tick_answer}
use Rattle.do_fields.proofs.OfFields.Doing.{entered_did}
use Rattle.heap_rule.specs.declared.view.DomainView.{DomainView}
use Rattle.step_run.specs.Fields.Loads.{Measured}
use Rattle.do_fields.proofs.OfFields.FieldSteps.{field_known, load_may}
use Rattle.do_fields.proofs.OfFields.FieldLoads.{load_did, loads_into, register_loaded}
use Rattle.do_fields.proofs.OfFields.Looking.{ephemeron_found, past_found, measured_at, takes_none}
use Rattle.do_fields.proofs.fields.fields.load_as.Goals as goal

pub returns-in_default-clause-did : goal.returns-in_default-clause-did
returns-in_default-clause-did g c = entered_did _ _ _ _ g.entry _ _ _ _ c.requires.0 (ap tick_answer c.requires.0) c.requires.1.0 c.tick.ensures.here c.tick.ensures.entered

pub returns-in_default-field_count-clause-did : goal.returns-in_default-field_count-clause-did
returns-in_default-field_count-clause-did g c =
    let told = c.head_load.ensures.told in
    let size = c.field_count.ensures told.shape told.head in
    entered_did _ _ _ _ g.entry _ _ _ _ c.requires.0 refl c.requires.1.0 c.head_load.ensures.here (ephemeron_found _ _ g.entry _ _ _ _ told size c.in_default-field_count.is)

pub returns-then-index-size-clause-did : goal.returns-then-index-size-clause-did
returns-then-index-size-clause-did g c =
    let told = c.head_load.ensures.told in
    let takes : (needs_no_scan told.shape && puts_block c.args.dom.now.view g.entry) ≡ false = takes_none (needs_no_scan told.shape) (puts_block c.args.dom.now.view g.entry) (ap (puts_block c.args.dom.now.view) c.requires.0) in
    let size = c.field_count.ensures told.shape told.head in
    let place : c.args.index ≡ place_of g.entry = ap place_of (sym c.requires.0) in
    let past : c.in-Some.size ≤ place_of g.entry = subst (λ (n : ℕ). c.in-Some.size ≤ n) place (omega arith) in
    entered_did _ _ _ _ g.entry _ _ _ _ c.requires.0 refl c.requires.1.0 c.head_load.ensures.here (past_found _ _ g.entry _ _ _ _ _ told takes size c.in-Some.is past)

pub field_load-requires : goal.field_load-requires
field_load-requires g c =
    let told = c.head_load.ensures.told in
    let takes : (needs_no_scan told.shape && puts_block c.args.dom.now.view g.entry) ≡ false = takes_none (needs_no_scan told.shape) (puts_block c.args.dom.now.view g.entry) (ap (puts_block c.args.dom.now.view) c.requires.0) in
    let size = c.field_count.ensures told.shape told.head in
    let looked : Measured c.args.heap.now.config c.in-Ref.address c.args.src c.in-Some.size c.args.dom.now.view c.head_load.new.dom.view =
    measured_at _ _ g.entry (own_entry c.args.dom.now (Load c.args.dst c.args.src c.args.index)) _ _ _ _ _ c.requires.0 told takes size c.in-Some.is (omega arith) in
    let field = field_known c.args.heap.now c.args.dom.now c.head_load.new.dom.view c.args.src c.args.index c.in-Some.size c.in-Ref.address c.requires.1.0 c.requires.1.1.1 (sym c.in-Ref.ensures.value) looked (omega arith) in
    let number : c.head_load.new.dom.view.own.number ≡ c.args.dom.now.view.own.number = ap (λ (x : DomainView). x.own.number) looked.looked.view in
    (c.head_load.ensures.here, (field.inside, load_may c.args.heap.now c.args.dom.now c.head_load.new.dom.view g.entry c.args.dst c.args.src c.args.index c.in-Ref.address c.requires.0 number c.requires.1.1.0 field))

pub shown_register-requires : goal.shown_register-requires
shown_register-requires g c =
    let told = c.head_load.ensures.told in
    let takes : (needs_no_scan told.shape && puts_block c.args.dom.now.view g.entry) ≡ false = takes_none (needs_no_scan told.shape) (puts_block c.args.dom.now.view g.entry) (ap (puts_block c.args.dom.now.view) c.requires.0) in
    let size = c.field_count.ensures told.shape told.head in
    let looked : Measured c.args.heap.now.config c.in-Ref.address c.args.src c.in-Some.size c.args.dom.now.view c.head_load.new.dom.view =
    measured_at _ _ g.entry (own_entry c.args.dom.now (Load c.args.dst c.args.src c.args.index)) _ _ _ _ _ c.requires.0 told takes size c.in-Some.is (omega arith) in
    let shown = register_loaded c.args.heap.now c.args.dom.now c.head_load.new.dom.view c.field_load.new.dom.view g.entry c.args.dst c.args.src c.args.index c.in-Some.size c.in-Ref.address _ c.config-limits.ensures.limits c.requires.0 c.requires.1.0 c.requires.1.1.0 looked (omega arith) c.field_load.ensures.told in
    (refl, (c.field_load.ensures.here, (c.requires.1.1.0, shown)))

pub returns-clause-did : goal.returns-clause-did
returns-clause-did g c =
    let told = c.head_load.ensures.told in
    let takes : (needs_no_scan told.shape && puts_block c.args.dom.now.view g.entry) ≡ false = takes_none (needs_no_scan told.shape) (puts_block c.args.dom.now.view g.entry) (ap (puts_block c.args.dom.now.view) c.requires.0) in
    let size = c.field_count.ensures told.shape told.head in
    let looked : Measured c.args.heap.now.config c.in-Ref.address c.args.src c.in-Some.size c.args.dom.now.view c.head_load.new.dom.view =
    measured_at _ _ g.entry (own_entry c.args.dom.now (Load c.args.dst c.args.src c.args.index)) _ _ _ _ _ c.requires.0 told takes size c.in-Some.is (omega arith) in
    load_did c.args.heap.now c.args.dom.now c.head_load.new.dom.view c.field_load.new.dom.view g.entry c.args.dst c.args.src c.args.index c.in-Some.size c.in-Ref.address _ c.config-limits.ensures.limits c.requires.0 c.requires.1.0 c.requires.1.1.0 looked (omega arith) c.field_load.ensures.told
    c.shown_register.new.dom c.shown_register.result c.shown_register.ensures.here c.shown_register.ensures.same c.shown_register.ensures.reply

pub returns-clause-registers : goal.returns-clause-registers
returns-clause-registers g c =
    let told = c.head_load.ensures.told in
    let takes : (needs_no_scan told.shape && puts_block c.args.dom.now.view g.entry) ≡ false = takes_none (needs_no_scan told.shape) (puts_block c.args.dom.now.view g.entry) (ap (puts_block c.args.dom.now.view) c.requires.0) in
    let size = c.field_count.ensures told.shape told.head in
    let looked : Measured c.args.heap.now.config c.in-Ref.address c.args.src c.in-Some.size c.args.dom.now.view c.head_load.new.dom.view =
    measured_at _ _ g.entry (own_entry c.args.dom.now (Load c.args.dst c.args.src c.args.index)) _ _ _ _ _ c.requires.0 told takes size c.in-Some.is (omega arith) in
    loads_into c.args.heap.now c.args.dom.now c.head_load.new.dom.view c.field_load.new.dom.view g.entry c.args.dst c.args.src c.args.index c.in-Some.size c.in-Ref.address _ c.config-limits.ensures.limits c.requires.0 c.requires.1.0 c.requires.1.1.0 looked (omega arith) c.field_load.ensures.told
    c.shown_register.new.dom c.shown_register.result c.shown_register.ensures.same c.shown_register.ensures.reply

pub returns-in_default-field_count-clause-holds : goal.returns-in_default-field_count-clause-holds
returns-in_default-field_count-clause-holds g c =
    let told = c.head_load.ensures.told in
    (ephemeron_found _ _ g.entry _ _ _ _ told (c.field_count.ensures told.shape told.head) c.in_default-field_count.is).holds

pub returns-then-index-size-clause-holds : goal.returns-then-index-size-clause-holds
returns-then-index-size-clause-holds g c =
    let told = c.head_load.ensures.told in
    let takes : (needs_no_scan told.shape && puts_block c.args.dom.now.view g.entry) ≡ false = takes_none (needs_no_scan told.shape) (puts_block c.args.dom.now.view g.entry) (ap (puts_block c.args.dom.now.view) c.requires.0) in
    let place : c.args.index ≡ place_of g.entry = ap place_of (sym c.requires.0) in
    let past : c.in-Some.size ≤ place_of g.entry = subst (λ (n : ℕ). c.in-Some.size ≤ n) place (omega arith) in
    (past_found _ _ g.entry _ _ _ _ _ told takes (c.field_count.ensures told.shape told.head) c.in-Some.is past).holds
