-- How a domain's steps and its printed replies grow with its front.
use Rattle.std.proofs.Common.{◌≡◌, ℕ, Bool, false, cond, ◌&&◌, eq-eqb, List, [], ◌∷◌, ◌++◌, refl, ap, sym, ◌∙◌, append_assoc, append-nil}
use Rattle.model_core.specs.declared.command.Command as declared_command
use Rattle.model_core.specs.declared.entry.Entry.{Entry}
use Rattle.model_core.specs.declared.entry.Entry.TheVariants.{Command, End, Cut, Queue, Seal, Wipe, Last, Collected, Done, Ran}
use Rattle.model_core.specs.declared.reply.Reply.{Reply}
use Rattle.model_core.specs.declared.reply.Applied.{Applied}
use Rattle.model_core.specs.declared.reply.Applied.TheVariants.{Replied}
use Rattle.model_core.specs.declared.state.Sizes.{Sizes}
use Rattle.model_core.specs.declared.state.State.{State}
use Rattle.model_core.specs.Domains.{domain_at, opening}
use Rattle.model_core.specs.Commands.{command_outcome}
use Rattle.model_core.specs.Entries.{next, reply}
use Rattle.model_core.specs.History.{state_after, reply_list, is_entry_of}
use Rattle.model_core.specs.Fronts.{NoneOf, IsFrontOf, Answers}
use Rattle.model_core.proofs.Histories.FrontLemmas.{none_cons, keeps_front}
use Rattle.model_traces.specs.Spawns.Expansion.{Step, step_of, steps_from, IsExpansion, AreExpansions}
use Rattle.model_traces.specs.Spawns.Printed.{is_printed, is_printed_entry, printed_replies_from, printed_replies}

-- one more command of a section
pub expansions_push : (d : ℕ) (cs : List declared_command.Command) (xs : List Step) (c : declared_command.Command) (ys : List Step) → AreExpansions d cs xs → IsExpansion d c ys → AreExpansions d (cs ++ c ∷ []) (xs ++ ys)
expansions_push d [] xs c ys are is = (ys, [], ap (λ (zs : List Step). zs ++ ys) are ∙ sym (append-nil ys), is, refl)
expansions_push d (b ∷ cs) xs c ys are is =
    (are.0, are.1 ++ ys, ap (λ (zs : List Step). zs ++ ys) are.2 ∙ append_assoc are.0 are.1 ys, are.3, expansions_push d cs are.1 c ys are.4 is)

-- steps in two lists
pub steps_append : (s : State) (h k : List Entry) (d : ℕ) → steps_from s (h ++ k) d ≡ steps_from s h d ++ steps_from (state_after s h) k d
steps_append s [] k d = refl
steps_append s (e ∷ h) k d = ap (λ (t : List Step). step_of s d e ++ t) (steps_append (next s e) h k d) ∙ sym (append_assoc (step_of s d e) (steps_from (next s e) h d) (steps_from (state_after (next s e) h) k d))

pub printed_append : (s : State) (h k : List Entry) (d : ℕ) → printed_replies_from s (h ++ k) d ≡ printed_replies_from s h d ++ printed_replies_from (state_after s h) k d
printed_append s [] k d = refl
printed_append s (e ∷ h) k d =
    let own : List Reply = cond (is_printed_entry d e) (reply_list (reply s e)) [] in
    ap (λ (t : List Reply). own ++ t) (printed_append (next s e) h k d) ∙ sym (append_assoc own (printed_replies_from (next s e) h d) (printed_replies_from (state_after (next s e) h) k d))

-- entries of others make no step of a domain, and print nothing in its section
step_other : (s : State) (d : ℕ) (e : Entry) → is_entry_of d e ≡ false → step_of s d e ≡ []
step_other s d (Command k c full) other = ap (λ (b : Bool). cond b (record { held = (domain_at s k).registers; command = c; answer = (command_outcome s k c full).reply } ∷ []) []) other
step_other s d (End k) other = refl
step_other s d Cut other = refl
step_other s d (Queue k places) other = refl
step_other s d Seal other = refl
step_other s d (Wipe l keys) other = refl
step_other s d (Last k place) other = refl
step_other s d Collected other = refl
step_other s d Done other = refl
step_other s d (Ran k) other = refl

printed_other : (d : ℕ) (e : Entry) → is_entry_of d e ≡ false → is_printed_entry d e ≡ false
printed_other d (Command k c full) other = ap (λ (b : Bool). b && is_printed d c) other
printed_other d (End k) other = refl
printed_other d Cut other = refl
printed_other d (Queue k places) other = refl
printed_other d Seal other = refl
printed_other d (Wipe l keys) other = refl
printed_other d (Last k place) other = refl
printed_other d Collected other = refl
printed_other d Done other = refl
printed_other d (Ran k) other = other

pub steps_others : (s : State) (h : List Entry) (d : ℕ) → NoneOf d h → steps_from s h d ≡ []
steps_others s [] d none = refl
steps_others s (e ∷ h) d none = let parts = none_cons d e h none in (λ i. step_other s d e parts.0 i ++ steps_others (next s e) h d parts.1 i)

pub printed_others : (s : State) (h : List Entry) (d : ℕ) → NoneOf d h → printed_replies_from s h d ≡ []
printed_others s [] d none = refl
printed_others s (e ∷ h) d none =
    let parts = none_cons d e h none in
    (λ i. cond (printed_other d e parts.0 i) (reply_list (reply s e)) [] ++ printed_others (next s e) h d parts.1 i)

-- a call that makes the entry of a command makes one step: with what the registers held at the domain's front, and with the reply that it gave
module _ (z : Sizes) (d : ℕ) (old new : List Entry) (c : declared_command.Command) (full : Bool) (r : Reply) (a : Answers z d old new (Command d c full) (Replied r)) where
  abbrev before : State
  before = state_after (opening z) (old ++ a.between)

  front : IsFrontOf d (old ++ a.between) old
  front = record { rest = a.between; appends = refl; others = a.others }

  says : (command_outcome before d c full).reply ≡ r
  says = let e : Replied (command_outcome before d c full).reply ≡ Replied r = a.replies in cc

  same_registers : (domain_at before d).registers ≡ (domain_at (state_after (opening z) old) d).registers
  same_registers = (keeps_front (opening z) d (old ++ a.between) old front).registers

  no_step : steps_from (opening z) (old ++ a.between) d ≡ steps_from (opening z) old d
  no_step = steps_append (opening z) old a.between d ∙ ap (λ (xs : List Step). steps_from (opening z) old d ++ xs) (steps_others (state_after (opening z) old) a.between d a.others) ∙ append-nil (steps_from (opening z) old d)

  none_printed : printed_replies z (old ++ a.between) d ≡ printed_replies z old d
  none_printed =
      printed_append (opening z) old a.between d ∙ ap (λ (rs : List Reply). printed_replies z old d ++ rs) (printed_others (state_after (opening z) old) a.between d a.others) ∙ append-nil (printed_replies z old d)

  split : new ≡ (old ++ a.between) ++ Command d c full ∷ []
  split = a.appends

  pub steps_answer : steps_from (opening z) new d ≡ steps_from (opening z) old d ++ record { held = (domain_at (state_after (opening z) old) d).registers; command = c; answer = r } ∷ []
  steps_answer =
      let one : Step = record { held = (domain_at before d).registers; command = c; answer = (command_outcome before d c full).reply } in
      let own : step_of before d (Command d c full) ≡ one ∷ [] = ap (λ (b : Bool). cond b (one ∷ []) []) (eq-eqb d d refl) in
      let is : one ≡ record { held = (domain_at (state_after (opening z) old) d).registers; command = c; answer = r } = λ i. record { held = same_registers i; command = c; answer = says i } in
      ap (λ (h : List Entry). steps_from (opening z) h d) split ∙ steps_append (opening z) (old ++ a.between) (Command d c full ∷ []) d
      ∙ ap (λ (xs : List Step). xs ++ steps_from before (Command d c full ∷ []) d) no_step
      ∙ ap (λ (xs : List Step). steps_from (opening z) old d ++ xs) (append-nil (step_of before d (Command d c full)) ∙ own ∙ ap (λ (x : Step). x ∷ []) is)

  pub printed_answer : printed_replies z new d ≡ printed_replies z old d ++ cond (is_printed d c) (r ∷ []) []
  printed_answer =
      let own : cond (is_printed_entry d (Command d c full)) (reply_list (reply before (Command d c full))) [] ≡ cond (is_printed d c) (r ∷ []) [] =
      ap (λ (b : Bool). cond (b && is_printed d c) (reply_list (reply before (Command d c full))) []) (eq-eqb d d refl) ∙ ap (λ (y : Applied). cond (is_printed d c) (reply_list y) []) a.replies in
      ap (λ (h : List Entry). printed_replies_from (opening z) h d) split ∙ printed_append (opening z) (old ++ a.between) (Command d c full ∷ []) d
      ∙ ap (λ (rs : List Reply). rs ++ printed_replies_from before (Command d c full ∷ []) d) none_printed
      ∙ ap (λ (rs : List Reply). printed_replies z old d ++ rs) (append-nil (cond (is_printed_entry d (Command d c full)) (reply_list (reply before (Command d c full))) []) ∙ own)
