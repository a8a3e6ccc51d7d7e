use Rattle.std.proofs.Common.{◌≡◌, ◌∙◌, ℕ, [], Option, sym, ap, subst}
use Rattle.heap_rule.specs.Running.{own_entry}
use Rattle.heap_rule.specs.Standing.{IsInHeap}
use Rattle.heap_words.specs.declared.value.Value.TheVariants.{Ref}
use Rattle.step_run.specs.Fields.Stores.{StoreTold}
use Rattle.step_ephemerons.specs.Commands.Loads.{word_of}
use Rattle.step_ephemerons.specs.Commands.Stores.{WeakStoreMay}
use Rattle.do_ephemerons.specs.Items.{value_of, item_in}
use Rattle.do_ephemerons.proofs.WeakLoads.{found_inside, found_small}
use Rattle.do_ephemerons.proofs.WeakStores.{room_there, store_may, store_did}
use Rattle.do_ephemerons.proofs.changing.put.Goals as goal

pub store_word-requires : goal.store_word-requires
store_word-requires g c =
    let h = c.args.heap.now in
    let old = c.args.dom.now in
    let y = c.find.new.dom in
    let a = c.in-Ok.block in
    let f = c.in-Ok.ensures.found in
    let value = c.item_value-value.result in
    let remembers = c.must_remember-remembers.result in
    let is : value ≡ value_of old.view.own.registers (item_in g.command) = c.item_value-value.ensures.value ∙ ap (λ (r : Option ℕ). value_of old.view.own.registers r) (sym c.requires.1.1.1.0) in
    let may : WeakStoreMay h.config y.view (word_of c.args.key a) c.pack_value.result remembers [] y.view.own.number g.command =
    subst (λ (key : Option ℕ). WeakStoreMay h.config y.view (word_of key a) c.pack_value.result remembers [] y.view.own.number g.command) c.requires.1.0.1
    (store_may h old y g.command a c.requires.0 f c.requires.1.1.0 value is remembers c.must_remember-remembers.ensures c.pack_value.result c.pack_value.ensures
    (λ yes. room_there h.config (Ref a) value old.view.own.registers c.args.item old.view.own.remembered.room c.item_value-value.ensures.value c.requires.1.1.1.1 (c.must_remember-remembers.ensures.0 yes))) in
    let inside : IsInHeap h.config (word_of c.args.key a) = subst (λ (key : Option ℕ). IsInHeap h.config (word_of key a)) c.requires.1.0.1 (found_inside h old y g.command a c.requires.0 f) in
    (f.here, (found_small h old y g.command a c.requires.0 f c.config-limits.ensures.limits, (inside, (c.requires.1.1.0, (c.requires.1.0.1, may)))))

pub returns-clause-did : goal.returns-clause-did
returns-clause-did g c =
    let h = c.args.heap.now in
    let old = c.args.dom.now in
    let y = c.find.new.dom in
    let a = c.in-Ok.block in
    let value = c.item_value-value.result in
    let remembers = c.must_remember-remembers.result in
    let is : value ≡ value_of old.view.own.registers (item_in g.command) = c.item_value-value.ensures.value ∙ ap (λ (r : Option ℕ). value_of old.view.own.registers r) (sym c.requires.1.1.1.0) in
    store_did h old y g.command a c.requires.0 c.in-Ok.ensures.found c.requires.1.1.0 value is remembers c.must_remember-remembers.ensures c.store_word.new.dom c.store_word.ensures.here
    (subst (λ (key : Option ℕ). StoreTold h.config (own_entry y g.command) (word_of key a) remembers [] y.view c.store_word.new.dom.view) (sym c.requires.1.0.1) c.store_word.ensures.told)
