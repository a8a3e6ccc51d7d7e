-- What the try of a command leaves, by what was called.
use Rattle.std.proofs.Common.{◌≡◌, ◌∙◌, ℕ, ◌+◌, ◌<◌, ◌≤◌, Bool, true, List, refl, sym, ap, subst, arith}
use Rattle.model_core.specs.declared.command.Command.{Command}
use Rattle.model_core.specs.declared.command.Command.TheVariants.{Store, Cas, SetKey, SetData, Finalise, FinaliseLast}
use Rattle.model_core.specs.declared.entry.Entry.{Entry}
use Rattle.model_core.specs.declared.reply.Reply.{Reply}
use Rattle.model_core.specs.declared.reply.Applied.{Applied}
use Rattle.model_core.specs.declared.reply.Applied.TheVariants.{Replied}
use Rattle.model_core.specs.Fronts.{Answers}
use Rattle.heap_words.specs.declared.value.Value.{Value}
use Rattle.heap_words.specs.declared.value.Value.TheVariants.{Int, Ref, Nothing}
use Rattle.heap_rule.specs.Changes.{value_at}
use Rattle.heap_rule.specs.declared.change.Change.{Change}
use Rattle.heap_rule.specs.declared.config.Config.{Config}
use Rattle.heap_rule.specs.declared.view.DomainView.{DomainView}
use Rattle.heap_rule.specs.declared.view.Own.{Own}
use Rattle.heap_rule.specs.Limits.{sizes_in}
use Rattle.heap_rule.specs.Standing.{Entered}
use Rattle.heap_rule.specs.Running.{Runs, Did}
use Rattle.heap_rule.specs.Token.{Token, SharedHeap, IsIn}
use Rattle.heap_rule.proofs.Calls.{front_stays, answered_runs}
use Rattle.do_finalisers.specs.Registering.{own_finalised, own_finalised_last}
use Rattle.run_turns.proofs.Owing.{finalised_own, finalised_last_own}
use Rattle.do_fields.specs.Fields.Remembered.{ChangesRemembered}
use Rattle.run_turns.specs.declared.command.Attempt.TheVariants.{Made}
use Rattle.run_turns.specs.Tries.{AttemptAnswers, IsStore, RefusesFull, Remembers, full_entry}
use Rattle.heap_rule.proofs.Plain.{entered_rest}

-- the entry of `full` stood at a tick
pub refuses : (h : SharedHeap) (old new : Token) (c : Command) (e : Entry) (r : Reply) (a : Applied) (read : Value) (changes : List Change) → e ≡ full_entry old c → a ≡ Replied r → Runs h old → IsIn new h
    → Entered h.config e a read changes old.view new.view → RefusesFull h old new c r
refuses h old new c e r a read changes is answer runs here entered =
    let answers : Answers (sizes_in old.config) old.view.own.number old.view.seen.front new.view.seen.front (full_entry old c) (Replied r) =
    subst (λ (k : Config). Answers (sizes_in k) old.view.own.number old.view.seen.front new.view.seen.front (full_entry old c) (Replied r)) (sym runs.here.1)
    (subst (λ (x : Entry). Answers (sizes_in h.config) old.view.own.number old.view.seen.front new.view.seen.front x (Replied r)) is
    (subst (λ (b : Applied). Answers (sizes_in h.config) old.view.own.number old.view.seen.front new.view.seen.front e b) answer entered.answers)) in
    record {
      runs = answered_runs h old new c true (Replied r) runs here (ap (λ (x : DomainView). x.own.number) (entered_rest _ _ _ _ _ _ _ entered)) (ap (λ (x : DomainView). x.seen.hunt) (entered_rest _ _ _ _ _ _ _ entered) ∙ runs.at_rest) (ap (λ (x : DomainView). x.seen.made) (entered_rest _ _ _ _ _ _ _ entered) ∙ runs.idle) (front_stays old.view new.view _ _ (entered_rest _ _ _ _ _ _ _ entered)) answers;
      answers = answers;
      heap = (here.0 ∙ sym runs.here.0, here.1 ∙ sym runs.here.1);
      stays = front_stays old.view new.view _ _ (entered_rest _ _ _ _ _ _ _ entered);
      free = ap (λ (x : DomainView). x.seen.free) (entered_rest _ _ _ _ _ _ _ entered);
    }

-- what a domain owns that remembers other words
remembered_own : (old new : Own) → new ≡ record old { remembered = new.remembered } → new.registers ≡ old.registers → new ≡ record old { registers = new.registers; used = old.used + 0; serial = old.serial + 0; remembered = new.remembered }
remembered_own old new is registers =
    let used : ℕ = old.used in
    let serial : ℕ = old.serial in
    let same_used : used ≡ used + 0 = omega arith in
    let same_serial : serial ≡ serial + 0 = omega arith in
    is ∙ (λ i. record old { registers = sym registers i; used = same_used i; serial = same_serial i; remembered = new.remembered })

-- where the room that was found isn't 0 there is some
pub some_room : (n room : ℕ) → n ≡ room → (n ≡ 0 → ⊥) → 1 ≤ room
some_room n room is some = omega arith

no_room : (room : ℕ) → 1 ≤ room → room < 1 → ⊥
no_room room some few = omega arith

-- the entry of a store was made
pub store_answers : (h : SharedHeap) (old new : Token) (c : Command) (served collected : Bool) (r : Reply) → IsStore c → 1 ≤ old.view.own.remembered.room → Did h old new c r → ChangesRemembered old new → new.view.own.registers ≡ old.view.own.registers
    → Remembers h.config old.view.own new.view.own c r → AttemptAnswers h old new c served collected (Made r)
store_answers h old new (Store block index item) served collected r stores room did changes registers remembers =
    (record { runs = did.runs; stands = did.answers; heap = did.heap; stays = did.stays; own = remembered_own old.view.own new.view.own changes.own registers; remembers = remembers; lists = ap (λ (o : Own). o.ephemerons) changes.own }, no_room old.view.own.remembered.room room)
store_answers h old new (Cas block index expected item) served collected r stores room did changes registers remembers =
    (record { runs = did.runs; stands = did.answers; heap = did.heap; stays = did.stays; own = remembered_own old.view.own new.view.own changes.own registers; remembers = remembers; lists = ap (λ (o : Own). o.ephemerons) changes.own }, no_room old.view.own.remembered.room room)
store_answers h old new (SetKey ephe index item) served collected r stores room did changes registers remembers =
    (record { runs = did.runs; stands = did.answers; heap = did.heap; stays = did.stays; own = remembered_own old.view.own new.view.own changes.own registers; remembers = remembers; lists = ap (λ (o : Own). o.ephemerons) changes.own }, no_room old.view.own.remembered.room room)
store_answers h old new (SetData ephe item) served collected r stores room did changes registers remembers =
    (record { runs = did.runs; stands = did.answers; heap = did.heap; stays = did.stays; own = remembered_own old.view.own new.view.own changes.own registers; remembers = remembers; lists = ap (λ (o : Own). o.ephemerons) changes.own }, no_room old.view.own.remembered.room room)
store_answers h old new _ served collected r stores room did changes registers remembers = absurd stores

-- what a domain owns that has one finaliser more: its registers are as they were
finalised_registers : (v : Value) (number dst : ℕ) (old : Own) → (own_finalised v number dst old).registers ≡ old.registers
finalised_registers (Ref a) number dst old = refl
finalised_registers (Int z) number dst old = refl
finalised_registers Nothing number dst old = refl

finalised_last_registers : (v : Value) (number : ℕ) (old : Own) → (own_finalised_last v number old).registers ≡ old.registers
finalised_last_registers (Ref a) number old = refl
finalised_last_registers (Int z) number old = refl
finalised_last_registers Nothing number old = refl

-- the same with the registers named
with_own_registers : (old new x : Own) → new ≡ x → x.registers ≡ old.registers → x ≡ record old { used = old.used + 0; serial = old.serial + 0; finalisers = x.finalisers } → new ≡ record old { registers = new.registers; used = old.used + 0; serial = old.serial + 0; finalisers = x.finalisers }
with_own_registers old new x is same whole = is ∙ (whole ∙ (λ i. record old { registers = (sym same ∙ ap (λ (o : Own). o.registers) (sym is)) i; used = old.used + 0; serial = old.serial + 0; finalisers = x.finalisers }))

-- the entry of a registration was made
pub finalise_answers : (h : SharedHeap) (old new : Token) (item number dst : ℕ) (served collected : Bool) (r : Reply) → Did h old new (Finalise item number dst) r → new.view.own ≡ own_finalised (value_at old.view.own.registers item) number dst old.view.own
    → AttemptAnswers h old new (Finalise item number dst) served collected (Made r)
finalise_answers h old new item number dst served collected r did is =
    let v : Value = value_at old.view.own.registers item in
    let own = with_own_registers old.view.own new.view.own (own_finalised v number dst old.view.own) is (finalised_registers v number dst old.view.own) (finalised_own v number dst old.view.own) in
    let remembers = ap (λ (o : Own). o.remembered) own in
    (record { runs = did.runs; stands = did.answers; heap = did.heap; stays = did.stays; own = own; remembers = remembers; lists = ap (λ (o : Own). o.ephemerons) own }, λ needs. needs)

pub finalise_last_answers : (h : SharedHeap) (old new : Token) (item number : ℕ) (served collected : Bool) (r : Reply) → Did h old new (FinaliseLast item number) r → new.view.own ≡ own_finalised_last (value_at old.view.own.registers item) number old.view.own
    → AttemptAnswers h old new (FinaliseLast item number) served collected (Made r)
finalise_last_answers h old new item number served collected r did is =
    let v : Value = value_at old.view.own.registers item in
    let own = with_own_registers old.view.own new.view.own (own_finalised_last v number old.view.own) is (finalised_last_registers v number old.view.own) (finalised_last_own v number old.view.own) in
    let remembers = ap (λ (o : Own). o.remembered) own in
    (record { runs = did.runs; stands = did.answers; heap = did.heap; stays = did.stays; own = own; remembers = remembers; lists = ap (λ (o : Own). o.ephemerons) own }, λ needs. needs)
