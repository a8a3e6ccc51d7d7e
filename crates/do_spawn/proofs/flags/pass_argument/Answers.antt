use Rattle.std.proofs.Common.{◌≡◌, ℕ, Bool, true, false, ap, sym, ◌∙◌, subst, get_or}
use Rattle.model_core.specs.declared.graph.Value.TheVariants.{Nothing}
use Rattle.model_core.specs.Commands.{is_full_value}
use Rattle.model_core.specs.Domains.{register}
use Rattle.heap_rule.specs.declared.config.Config.{Config}
use Rattle.heap_rule.specs.Rule.{state_of}
use Rattle.heap_words.specs.Remembered.Bounded.{Bounded}
use Rattle.do_spawn.specs.Expanding.{held_at, argument_commands}
use Rattle.do_spawn.proofs.Making.{made_one, made_both, number_of_registers, number_of_remembered, room_kept, shows_full, shows_nothing, words_both, words_of_registers, words_of_remembered}
use Rattle.do_spawn.proofs.flags.pass_argument.Goals as goal

pub returns-in-Nothing-clause-makes : goal.returns-in-Nothing-clause-makes
returns-in-Nothing-clause-makes c =
    let told = shows_nothing _ _ c.requires.shows (sym c.in-Nothing.ensures.value) in
    let here : is_full_value (get_or (held_at c.args.dom.now) c.args.item Nothing) ≡ false =
    subst (λ (k : Config). is_full_value (register (state_of k c.args.dom.now.view.seen.front) c.args.dom.now.view.own.number c.args.item) ≡ false) (sym c.requires.runs.here.1) told in
    let one = made_one _ _ _ _ _ c.put_int.ensures.did (λ e. cc) (number_of_registers _ _ c.put_int.ensures.rest) in
    let two = made_one _ _ _ _ _ c.store.ensures.did (λ e. cc) (number_of_remembered _ _ c.store.ensures.remembers.rest) in
    record { first = _; more = _; makes = made_both _ _ _ _ _ _ one two; are = sym (ap (λ (b : Bool). argument_commands b c.args.section c.args.item) here) }

pub returns-in_default : goal.returns-in_default
returns-in_default c =
    let told = shows_full _ _ c.requires.shows (λ empty. c.in_default.not-Nothing (c.register.ensures.value ∙ empty)) in
    let here : is_full_value (get_or (held_at c.args.dom.now) c.args.item Nothing) ≡ true =
    subst (λ (k : Config). is_full_value (register (state_of k c.args.dom.now.view.seen.front) c.args.dom.now.view.own.number c.args.item) ≡ true) (sym c.requires.runs.here.1) told in
    let one = made_one _ _ _ _ _ c.store-in_default.ensures.did (λ e. cc) (number_of_remembered _ _ c.store-in_default.ensures.remembers.rest) in
    record {
      makes = record { first = _; more = _; makes = one; are = sym (ap (λ (b : Bool). argument_commands b c.args.section c.args.item) here) };
      rest = words_of_remembered _ _ c.store-in_default.ensures.remembers.rest;
      room = room_kept _ c.args.dom.now.view.own.remembered.room c.store-in_default.new.dom.view.own.remembered.room c.requires.room
          (λ p. ap (λ (b : Bounded ℕ). b.room) (c.store-in_default.ensures.remembers.remembered p)) (λ never. ap (λ (b : Bounded ℕ). b.room) (c.store-in_default.ensures.remembers.unremembered never));
    }

pub returns-in-Nothing-clause-rest : goal.returns-in-Nothing-clause-rest
returns-in-Nothing-clause-rest c = words_both _ _ _ (words_of_registers _ _ c.put_int.ensures.rest) (words_of_remembered _ _ c.store.ensures.remembers.rest)
