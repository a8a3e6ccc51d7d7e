-- What a domain owes: finalisers that are to run before its next `full_major`, and how many it may still have to run.
use Rattle.std.proofs.Common.{◌≡◌, ◌∙◌, ℕ, zero, suc, ◌+◌, ◌≤◌, true, List, [], ◌∷◌, ◌++◌, length, slice_get, Some, drop, refl, ap, arith, length-append}
use Rattle.std.proofs.lemmas.List.{length-map}
use Rattle.std.specs.Prelude.{remove}
use Rattle.model_core.specs.declared.command.Command as model
use Rattle.model_core.specs.declared.command.Command.TheVariants.{Finalise, FinaliseLast}
use Rattle.model_core.specs.declared.entry.Entry.{Entry}
use Rattle.model_core.specs.declared.entry.Entry.TheVariants.{Ran as RanEntry}
use Rattle.model_core.specs.declared.reply.Applied.{Applied}
use Rattle.model_core.specs.declared.state.Pending.{Pending}
use Rattle.model_core.specs.declared.state.Pending.TheVariants.{Fin as FinPending, Last as LastPending}
use Rattle.model_core.specs.declared.state.Sizes.{Sizes}
use Rattle.model_core.specs.declared.state.State.{State}
use Rattle.model_core.specs.Domains.{domain_at, opening, with_domain}
use Rattle.model_core.specs.Entries.{next, after_run, without_first}
use Rattle.model_core.specs.Fronts.{Answers, IsFrontOf}
use Rattle.model_core.specs.History.{state_after}
use Rattle.model_core.proofs.Commands.FrameLemmas.{part_set}
use Rattle.model_core.proofs.Histories.AnswerLemmas.{before_entry}
use Rattle.model_core.proofs.Histories.FreshLemmas.{fresh_stays}
use Rattle.model_core.proofs.Histories.HistoryLemmas.{state_after-push}
use Rattle.heap_words.specs.declared.value.Value.{Value}
use Rattle.heap_words.specs.declared.value.Value.TheVariants.{Int, Ref, Nothing}
use Rattle.heap_rule.specs.declared.config.Config.{Config}
use Rattle.heap_rule.specs.declared.view.DomainView.{DomainView}
use Rattle.heap_rule.specs.declared.view.Finalisers.{Finalisers}
use Rattle.heap_rule.specs.declared.view.Own.{Own}
use Rattle.heap_rule.specs.declared.view.Registered.{Registered}
use Rattle.heap_rule.specs.declared.view.RegisteredLast.{RegisteredLast}
use Rattle.heap_rule.specs.declared.view.Waiting.{Waiting}
use Rattle.heap_rule.specs.Changes.{value_at}
use Rattle.heap_rule.specs.Limits.{sizes_in}
use Rattle.gc_copy.specs.Held.{bare_final, bare_last, bare_waiting, without_addresses}
use Rattle.step_finalisers.specs.Registering.{count_of}
use Rattle.step_finalisers.specs.Running.{ran_own}
use Rattle.step_pauses.specs.Pauses.{ended_own}
use Rattle.step_sweep.proofs.Dues.{due_at, due_front}
use Rattle.do_finalisers.specs.Registering.{own_finalised, own_finalised_last}
use Rattle.run_turns.specs.Tries.{enlisted_by, registrations_of}
use Rattle.run_turns.specs.Pausing.{due_of}
use Rattle.run_turns.specs.Runs.{registrations_in}

-- the commands from one on
pub drop_registrations : (cs : List model.Command) (n : ℕ) (c : model.Command) → slice_get cs n ≡ Some c → registrations_in (drop n cs) ≡ registrations_of c + registrations_in (drop (suc n) cs)
drop_registrations [] n c at = cc
drop_registrations (x ∷ xs) zero c at = let is : x ≡ c = cc in ap (λ (y : model.Command). registrations_of y + registrations_in xs) is
drop_registrations (x ∷ xs) (suc n) c at = drop_registrations xs n c at

-- a command registers one at most
pub one_registration : (c : model.Command) → registrations_of c ≤ 1
one_registration (Finalise item number dst) = omega arith
one_registration (FinaliseLast item number) = omega arith
one_registration c = omega arith

pub registrations_few : (cs : List model.Command) → registrations_in cs ≤ length cs
registrations_few [] = omega arith
registrations_few (c ∷ cs) = let one = one_registration c in let rest = registrations_few cs in omega arith

-- a command adds as many as it registers at most
pub enlisted_count : (c : model.Command) (old : Own) → count_of (enlisted_by c old) ≤ registrations_of c + count_of old.finalisers
enlisted_count (Finalise item number dst) old = by (value_at old.registers item)
  where
    by : (v : Value) → count_of (own_finalised v number dst old).finalisers ≤ 1 + count_of old.finalisers
    by (Ref a) =
        let r : Registered = record { address = a; number = number; register = dst } in
        let more = length-append old.finalisers.finals.items (r ∷ []) in
        omega (arith, more)
    by (Int z) = omega arith
    by Nothing = omega arith
enlisted_count (FinaliseLast item number) old = by (value_at old.registers item)
  where
    by : (v : Value) → count_of (own_finalised_last v number old).finalisers ≤ 1 + count_of old.finalisers
    by (Ref a) =
        let r : RegisteredLast = record { address = a; number = number } in
        let more = length-append old.finalisers.lasts.items (r ∷ []) in
        omega (arith, more)
    by (Int z) = omega arith
    by Nothing = omega arith
enlisted_count c old = omega arith

-- one that has run is one less
first_gone : (xs : List Waiting) (first : Waiting) → slice_get xs 0 ≡ Some first → length (remove xs 0) + 1 ≡ length xs
first_gone [] first at = cc
first_gone (x ∷ xs) first at = omega arith

pub ran_count : (first : Waiting) (old : Own) → slice_get old.finalisers.queue.items 0 ≡ Some first → count_of (ran_own first old).finalisers + 1 ≡ count_of old.finalisers
ran_count first old at = let less = first_gone old.finalisers.queue.items first at in omega (arith, less)

-- the end of a trace leaves no more than there were
pub ended_count : (old : Own) → count_of (ended_own old).finalisers ≤ count_of old.finalisers
ended_count old = omega arith

-- addresses alone don't change the count
pub bare_count : (fs : Finalisers) → count_of (without_addresses fs) ≡ count_of fs
bare_count fs = λ i. length-map fs.finals.items bare_final i + length-map fs.lasts.items bare_last i + length-map fs.queue.items bare_waiting i

none_more : (n : ℕ) → n ≡ n + 0
none_more n = omega arith

-- the domain's own data after a registration
pub finalised_own : (v : Value) (number dst : ℕ) (old : Own) → own_finalised v number dst old ≡ record old { used = old.used + 0; serial = old.serial + 0; finalisers = (own_finalised v number dst old).finalisers }
finalised_own (Ref a) number dst old = λ i. record old { used = none_more old.used i; serial = none_more old.serial i; finalisers = (own_finalised (Ref a) number dst old).finalisers }
finalised_own (Int z) number dst old = λ i. record old { used = none_more old.used i; serial = none_more old.serial i }
finalised_own Nothing number dst old = λ i. record old { used = none_more old.used i; serial = none_more old.serial i }

pub finalised_last_own : (v : Value) (number : ℕ) (old : Own) → own_finalised_last v number old ≡ record old { used = old.used + 0; serial = old.serial + 0; finalisers = (own_finalised_last v number old).finalisers }
finalised_last_own (Ref a) number old = λ i. record old { used = none_more old.used i; serial = none_more old.serial i; finalisers = (own_finalised_last (Ref a) number old).finalisers }
finalised_last_own (Int z) number old = λ i. record old { used = none_more old.used i; serial = none_more old.serial i }
finalised_last_own Nothing number old = λ i. record old { used = none_more old.used i; serial = none_more old.serial i }

-- others' entries leave it
pub due_on : (k : Config) (x y : DomainView) → y.own.number ≡ x.own.number → IsFrontOf x.own.number y.seen.front x.seen.front → due_of k y ≡ due_of k x
due_on k x y number front = ap (λ (d : ℕ). due_at (state_after (opening (sizes_in k)) y.seen.front) d) number ∙ due_front (opening (sizes_in k)) x.own.number y.seen.front x.seen.front front

-- the run of a finaliser isn't a command: a complete collection before it is still fresh
run_fresh : (s : State) (d : ℕ) (queue : List Pending) → (domain_at (after_run s d queue) d).fresh ≡ (domain_at s d).fresh
run_fresh s d [] = refl
run_fresh s d (FinPending number l r ∷ rest) =
    let first : State = with_domain s d (without_first (domain_at s d) rest) in
    part_set (λ y. y.fresh) first.domains d _ refl d ∙ part_set (λ y. y.fresh) s.domains d (without_first (domain_at s d) rest) refl d
run_fresh s d (LastPending number ∷ rest) = part_set (λ y. y.fresh) s.domains d (without_first (domain_at s d) rest) refl d

pub ran_fresh : (z : Sizes) (d : ℕ) (old new : List Entry) (a : Applied) → Answers z d old new (RanEntry d) a → (domain_at (state_after (opening z) old) d).fresh ≡ true → (domain_at (state_after (opening z) new) d).fresh ≡ true
ran_fresh z d old new a x fresh =
    let before : List Entry = old ++ x.between in
    let s : State = state_after (opening z) before in
    let here : state_after (opening z) new ≡ next s (RanEntry d) = ap (state_after (opening z)) x.appends ∙ state_after-push (opening z) before (RanEntry d) in
    ap (λ (u : State). (domain_at u d).fresh) here ∙ (run_fresh s d (domain_at s d).queue ∙ fresh_stays z d old before (before_entry z d old new (RanEntry d) a x) fresh)
