-- One entry is one step, and steps behind steps are all of them.
use Rattle.std.proofs.Common.{◌≡◌, ◌≢◌, ℕ, zero, suc, ◌-◌, ◌≤◌, ℤ, arith, Option, Some, Bool, true, false, cond, List, [], ◌∷◌, ◌++◌, get_or, pos, refl, ap, sym, ◌∙◌, subst, append_assoc, append-nil}
use Rattle.std.proofs.lemmas.List.{map-append}
use Rattle.std.proofs.lemmas.List.Concat.{flat_map-append}
use Rattle.model_core.specs.declared.command.Command.{Command}
use Rattle.model_core.specs.declared.command.Command.TheVariants.{PutInt, Store, Spawn, FullMajor}
use Rattle.model_core.specs.declared.graph.Value.{Value}
use Rattle.model_core.specs.declared.graph.Value.TheVariants.{Int, Block, Nothing}
use Rattle.model_core.specs.Commands.{is_full_value}
use Rattle.heap_words.specs.declared.value.Value as words
use Rattle.heap_words.specs.declared.value.Value.TheVariants.{Ref, Int as IntWord, Nothing as NothingWord}
use Rattle.heap_rule.specs.Places.{Shows}
use Rattle.model_core.specs.declared.entry.Entry.{Entry}
use Rattle.model_core.specs.declared.reply.Reply.{Reply}
use Rattle.model_core.specs.declared.reply.Applied.TheVariants.{Replied}
use Rattle.model_core.specs.Domains.{domain_at, opening}
use Rattle.model_core.specs.History.{IsPrefix, Legal}
use Rattle.heap_rule.specs.declared.config.Config.{Config}
use Rattle.heap_rule.specs.declared.view.Own.{Own}
use Rattle.heap_rule.specs.Limits.{sizes_in}
use Rattle.heap_rule.specs.Running.{Did, ChangesRegisters, own_entry}
use Rattle.heap_rule.specs.Rule.{state_of}
use Rattle.heap_rule.specs.Token.{Token, SharedHeap}
use Rattle.do_fields.specs.Fields.Remembered.{ChangesRemembered}
use Rattle.model_traces.specs.Spawns.Hidden.{hidden, scratch, flag_of}
use Rattle.heap_rule.proofs.Calls.{stays_trans}
use Rattle.model_traces.specs.Spawns.Expansion.{Step, steps_from, spawn_commands}
use Rattle.model_traces.specs.Spawns.Printed.{is_printed, printed_of, printed_replies}
use Rattle.model_traces.proofs.OfSpawns.Growing.{steps_answer, printed_answer}
use Rattle.do_spawn.specs.Expanding.{ChangesWords, MakesSteps, MakesOne, MakesAll, PassesArgument, Expands, argument_commands, last_answer}
use Rattle.do_spawn.proofs.Owed.{command_due}

pub prefix_trans : (a b c : List Entry) → IsPrefix a b → IsPrefix b c → IsPrefix a c
prefix_trans a b c x y = record { rest = x.rest ++ y.rest; appends = y.appends ∙ (ap (λ (h : List Entry). h ++ y.rest) x.appends ∙ append_assoc a x.rest y.rest) }

-- a call that makes an entry
pub made_one : (h : SharedHeap) (old new : Token) (c : Command) (r : Reply) → Did h old new c r → c ≢ FullMajor → new.view.own.number ≡ old.view.own.number → MakesOne h old new c r
made_one h old new c r did other number =
    let d : ℕ = old.view.own.number in
    let a = did.answers in
    record {
      runs = did.runs;
      number = number;
      front = record { rest = a.between ++ own_entry old c ∷ []; appends = a.appends ∙ append_assoc old.view.seen.front a.between (own_entry old c ∷ []) };
      legal = a.legal;
      steps = steps_answer (sizes_in old.config) d old.view.seen.front new.view.seen.front c false r a;
      printed = printed_answer (sizes_in old.config) d old.view.seen.front new.view.seen.front c false r a
          ∙ ap (λ (rs : List Reply). printed_replies (sizes_in old.config) old.view.seen.front d ++ rs) (sym (append-nil (cond (is_printed d c) (r ∷ []) [])));
      owes = command_due (sizes_in old.config) d old.view.seen.front new.view.seen.front c false (Replied r) a other;
      heap = did.heap;
      stays = did.stays;
    }

-- one that leaves what the domain owns but its registers, or but what it remembers
pub number_of_registers : (old new : Token) → ChangesRegisters old new → new.view.own.number ≡ old.view.own.number
number_of_registers old new rest = ap (λ (o : Own). o.number) rest.own

pub number_of_remembered : (old new : Token) → ChangesRemembered old new → new.view.own.number ≡ old.view.own.number
number_of_remembered old new rest = ap (λ (o : Own). o.number) rest.own

pub room_of_registers : (old new : Token) → ChangesRegisters old new → new.view.own.remembered.room ≡ old.view.own.remembered.room
room_of_registers old new rest = ap (λ (o : Own). o.remembered.room) rest.own

-- steps behind steps
pub made_both : (h : SharedHeap) (a b c : Token) (xs ys : List Step) → MakesSteps h a b xs → MakesSteps h b c ys → MakesSteps h a c (xs ++ ys)
made_both h a b c xs ys x y =
    let d : ℕ = a.view.own.number in
    let k : Config = a.config in
    let heads : ◌≡◌ {A = Config × ℕ} (b.config, b.view.own.number) (k, d) = λ i. (x.heap.1 i, x.number i) in
    let steps : steps_from (opening (sizes_in k)) c.view.seen.front d ≡ steps_from (opening (sizes_in k)) b.view.seen.front d ++ ys =
    subst (λ (m : Config × ℕ). steps_from (opening (sizes_in m.0)) c.view.seen.front m.1 ≡ steps_from (opening (sizes_in m.0)) b.view.seen.front m.1 ++ ys) heads y.steps in
    let printed : printed_replies (sizes_in k) c.view.seen.front d ≡ printed_replies (sizes_in k) b.view.seen.front d ++ printed_of d ys =
    subst (λ (m : Config × ℕ). printed_replies (sizes_in m.0) c.view.seen.front m.1 ≡ printed_replies (sizes_in m.0) b.view.seen.front m.1 ++ printed_of m.1 ys) heads y.printed in
    record {
      runs = y.runs;
      number = y.number ∙ x.number;
      front = prefix_trans a.view.seen.front b.view.seen.front c.view.seen.front x.front y.front;
      legal = subst (λ (m : Config × ℕ). Legal (sizes_in m.0) c.view.seen.front) heads y.legal;
      steps = steps ∙ (ap (λ (zs : List Step). zs ++ ys) x.steps ∙ append_assoc (steps_from (opening (sizes_in k)) a.view.seen.front d) xs ys);
      printed = printed ∙ (ap (λ (rs : List Reply). rs ++ printed_of d ys) x.printed ∙ (append_assoc (printed_replies (sizes_in k) a.view.seen.front d) (printed_of d xs) (printed_of d ys)
          ∙ ap (λ (rs : List Reply). printed_replies (sizes_in k) a.view.seen.front d ++ rs) (sym (flat_map-append (λ (s : Step). cond (is_printed d s.command) (s.answer ∷ []) []) xs ys))));
      owes = subst (λ (m : Config × ℕ). (domain_at (state_of m.0 c.view.seen.front) m.1).due ≡ 0) heads y.owes;
      heap = (y.heap.0 ∙ x.heap.0, y.heap.1 ∙ x.heap.1);
      stays = stays_trans a.view b.view c.view x.stays y.stays;
    }

-- an integer, and a store of it into a flag
pub made_flag : (h : SharedHeap) (a b c : Token) (z : ℤ) (section : ℕ) (r t : Reply) → Did h a b (PutInt scratch z) r → ChangesRegisters a b → Did h b c (Store hidden section scratch) t → ChangesRemembered b c
    → MakesAll h a c (PutInt scratch z ∷ Store hidden section scratch ∷ [])
made_flag h a b c z section r t first first_rest second second_rest =
    let one : MakesOne h a b (PutInt scratch z) r = made_one h a b (PutInt scratch z) r first (λ e. cc) (number_of_registers a b first_rest) in
    let two : MakesOne h b c (Store hidden section scratch) t = made_one h b c (Store hidden section scratch) t second (λ e. cc) (number_of_remembered b c second_rest) in
    record { steps = _; makes = made_both h a b c _ _ one two; are = refl }

-- of which the store answered last
pub flag_last : (h : SharedHeap) (a b c : Token) (z : ℤ) (section : ℕ) (r t : Reply) (first : Did h a b (PutInt scratch z) r) (first_rest : ChangesRegisters a b) (second : Did h b c (Store hidden section scratch) t) (second_rest : ChangesRemembered b c)
    → last_answer (made_flag h a b c z section r t first first_rest second second_rest).steps ≡ Some t
unfolding made_flag
flag_last h a b c z section r t first first_rest second second_rest = refl

-- what the last of steps behind others answered
pub last_behind : (xs ys : List Step) (r : Reply) → last_answer ys ≡ Some r → last_answer (xs ++ ys) ≡ Some r
last_behind [] ys r last = last
last_behind (x ∷ []) [] r last = cc
last_behind (x ∷ []) (y ∷ ys) r last = last
last_behind (x ∷ z ∷ xs) ys r last = last_behind (z ∷ xs) ys r last

-- registers changed, or what is remembered, and then more of both
pub words_of_registers : (a b : Token) → ChangesRegisters a b → ChangesWords a b
words_of_registers a b x = record { own = x.own ∙ ap (λ (o : Own). record a.view.own { registers = b.view.own.registers; remembered = o.remembered }) (sym x.own) }

pub words_of_remembered : (a b : Token) → ChangesRemembered a b → ChangesWords a b
words_of_remembered a b x = record { own = x.own ∙ ap (λ (o : Own). record a.view.own { registers = o.registers; remembered = b.view.own.remembered }) (sym x.own) }

pub words_both : (a b c : Token) → ChangesWords a b → ChangesWords b c → ChangesWords a c
words_both a b c x y = record { own = y.own ∙ ap (λ (o : Own). record o { registers = c.view.own.registers; remembered = c.view.own.remembered }) x.own }

-- the room that a store leaves, whether it had to be remembered or not
pub room_kept : (P : Type 0) (old new : ℕ) → 2 ≤ old → (P → new ≡ old - 1) → ((P → ⊥) → new ≡ old) → 1 ≤ new
room_kept P old zero enough with_one without =
    let never : P → ⊥ = λ p. (let less : 0 ≡ old - 1 = with_one p in absurd (omega arith)) in
    let same : 0 ≡ old = without never in
    absurd (omega arith)
room_kept P old (suc n) enough with_one without = omega arith

-- what a register's word says of what it holds in the model
pub shows_full : (w : words.Value) (v : Value) → Shows w v → (w ≡ NothingWord → ⊥) → is_full_value v ≡ true
shows_full (IntWord z) (Int m) shows other = refl
shows_full (IntWord z) (Block l) shows other = absurd shows
shows_full (IntWord z) Nothing shows other = absurd shows
shows_full (Ref a) (Int m) shows other = absurd shows
shows_full (Ref a) (Block l) shows other = refl
shows_full (Ref a) Nothing shows other = absurd shows
shows_full NothingWord v shows other = absurd (other refl)

pub shows_nothing : (w : words.Value) (v : Value) → Shows w v → w ≡ NothingWord → is_full_value v ≡ false
shows_nothing (IntWord z) v shows is = cc
shows_nothing (Ref a) v shows is = cc
shows_nothing NothingWord (Int m) shows is = absurd shows
shows_nothing NothingWord (Block l) shows is = absurd shows
shows_nothing NothingWord Nothing shows is = refl

-- the steps of a spawn: those that pass the argument, and those that set the flag
flag_behind : (b : Bool) (section item : ℕ) → argument_commands b section item ++ PutInt scratch (pos 1) ∷ Store hidden (flag_of section) scratch ∷ [] ≡ spawn_commands b section item
flag_behind true section item = refl
flag_behind false section item = refl

pub spawns : (h : SharedHeap) (a b c : Token) (section item : ℕ) (r : Reply) → PassesArgument h a b section item → (y : MakesAll h b c (PutInt scratch (pos 1) ∷ Store hidden (flag_of section) scratch ∷ [])) → last_answer y.steps ≡ Some r → Expands h a c (Spawn section item) r
spawns h a b c section item r x y last = record {
  steps = (x.first ∷ x.more) ++ y.steps;
  makes = made_both h a b c (x.first ∷ x.more) y.steps x.makes y.makes;
  tells = last_behind (x.first ∷ x.more) y.steps r last;
  is = record {
    first = x.first;
    more = x.more ++ y.steps;
    are = refl;
    commands_are = map-append (λ (s : Step). s.command) (x.first ∷ x.more) y.steps
        ∙ ((λ i. x.are i ++ y.are i) ∙ flag_behind (is_full_value (get_or x.first.held item Nothing)) section item);
  };
}
