-- What a domain's front has of its replies, as it grows.
use Rattle.std.proofs.Common.{◌≡◌, ◌∙◌, ℕ, Bool, false, List, [], ◌∷◌, ◌++◌, refl, sym, ap, append-nil, append_assoc, eq-eqb, length, ◌+◌, ◌≤◌, length-append, arith, Option, Some, None, slice_get}
use Rattle.std.specs.Prelude.{cond, ◌==◌, IfSome}
use Rattle.model_core.specs.declared.command.Command as model
use Rattle.model_core.specs.declared.entry.Entry.{Entry}
use Rattle.model_core.specs.declared.entry.Entry.TheVariants.{Command, End, Cut, Queue, Seal, Wipe, Last, Collected, Done, Ran}
use Rattle.model_core.specs.declared.reply.Reply.{Reply}
use Rattle.model_core.specs.declared.reply.Applied.{Applied}
use Rattle.model_core.specs.declared.reply.Applied.TheVariants.{Replied, Silent}
use Rattle.model_core.specs.declared.state.Sizes.{Sizes}
use Rattle.model_core.specs.declared.state.State.{State}
use Rattle.model_core.specs.Domains.{opening}
use Rattle.model_core.specs.Entries.{next, reply}
use Rattle.model_core.specs.Fronts.{Answers, IsFrontOf, NoneOf}
use Rattle.model_core.specs.History.{is_entry_of, replies, reply_list, state_after}
use Rattle.model_core.proofs.Histories.AnswerLemmas.{replies_after}
use Rattle.model_core.proofs.Histories.FrontLemmas.{none_cons}
use Rattle.model_core.proofs.Histories.HistoryLemmas.{replies_from-append, replies_from-others}
use Rattle.run_turns.specs.declared.supply.Supply.{Supply}
use Rattle.run_turns.specs.declared.supply.Supply.TheVariants.{Listed, Section, Open, Closed}
use Rattle.run_turns.specs.Kept.{answers, finalised, is_command_of, is_run_of, replies_to}
use Rattle.run_turns.specs.Runs.{AreKept, IsHandedIn, ran_with, said_with}
use Rattle.run_turns.proofs.Supplying.{ends_as, ends_on}

pub replies_to-append : (p : Entry → Bool) (s : State) (h k : List Entry) → replies_to p s (h ++ k) ≡ replies_to p s h ++ replies_to p (state_after s h) k
replies_to-append p s [] k = refl
replies_to-append p s (e ∷ h) k =
    ap (λ t. cond (p e) (reply_list (reply s e)) [] ++ t) (replies_to-append p (next s e) h k)
    ∙ sym (append_assoc (cond (p e) (reply_list (reply s e)) []) (replies_to p (next s e) h) (replies_to p (state_after s (e ∷ h)) k))

-- only entries of domain d are picked
abbrev pub PicksOf : ℕ → (Entry → Bool) → Type 0
PicksOf d p = (e : Entry) → is_entry_of d e ≡ false → p e ≡ false

pub picks_commands : (d : ℕ) → PicksOf d (is_command_of d)
picks_commands d (Command k c full) other = other
picks_commands d (End k) other = refl
picks_commands d (Ran k) other = refl
picks_commands d Cut other = refl
picks_commands d (Queue k places) other = refl
picks_commands d Seal other = refl
picks_commands d (Wipe l keys) other = refl
picks_commands d (Last k place) other = refl
picks_commands d Collected other = refl
picks_commands d Done other = refl

pub picks_runs : (d : ℕ) → PicksOf d (is_run_of d)
picks_runs d (Command k c full) other = refl
picks_runs d (End k) other = refl
picks_runs d (Ran k) other = other
picks_runs d Cut other = refl
picks_runs d (Queue k places) other = refl
picks_runs d Seal other = refl
picks_runs d (Wipe l keys) other = refl
picks_runs d (Last k place) other = refl
picks_runs d Collected other = refl
picks_runs d Done other = refl

-- so entries of others add no reply
pub none_picked : (d : ℕ) (p : Entry → Bool) → PicksOf d p → (s : State) (h : List Entry) → NoneOf d h → replies_to p s h ≡ []
none_picked d p picks s [] none = refl
none_picked d p picks s (e ∷ h) none =
    let parts = none_cons d e h none in
    ap (λ (b : Bool). cond b (reply_list (reply s e)) [] ++ replies_to p (next s e) h) (picks e parts.0) ∙ none_picked d p picks (next s e) h parts.1

pub picked_front : (d : ℕ) (p : Entry → Bool) → PicksOf d p → (z : Sizes) (new old : List Entry) → IsFrontOf d new old → replies_to p (opening z) new ≡ replies_to p (opening z) old
picked_front d p picks z new old f =
    ap (λ (h : List Entry). replies_to p (opening z) h) f.appends ∙ (replies_to-append p (opening z) old f.rest
    ∙ (ap (λ t. replies_to p (opening z) old ++ t) (none_picked d p picks (state_after (opening z) old) f.rest f.others) ∙ append-nil (replies_to p (opening z) old)))

-- and one entry more its own reply
pub picked_after : (d : ℕ) (p : Entry → Bool) → PicksOf d p → (z : Sizes) (old new : List Entry) (e : Entry) (a : Applied) → Answers z d old new e a → replies_to p (opening z) new ≡ replies_to p (opening z) old ++ cond (p e) (reply_list a) []
picked_after d p picks z old new e a x =
    let before : replies_to p (opening z) (old ++ x.between) ≡ replies_to p (opening z) old = picked_front d p picks z (old ++ x.between) old (record { rest = x.between; appends = refl; others = x.others }) in
    ap (λ (h : List Entry). replies_to p (opening z) h) x.appends ∙ (replies_to-append p (opening z) (old ++ x.between) (e ∷ [])
    ∙ (λ i. before i ++ append-nil (cond (p e) (reply_list (x.replies i)) []) i))

all_front : (z : Sizes) (d : ℕ) (new old : List Entry) → IsFrontOf d new old → replies z new d ≡ replies z old d
all_front z d new old f =
    ap (λ (h : List Entry). replies z h d) f.appends ∙ (replies_from-append (opening z) old f.rest d
    ∙ (ap (λ t. replies z old d ++ t) (replies_from-others (state_after (opening z) old) f.rest d f.others) ∙ append-nil (replies z old d)))

-- what a front has of the replies is the same behind entries of others
pub kept_front : (s : Supply) (z : Sizes) (d : ℕ) (new old : List Entry) (said ran : List Reply) → IsFrontOf d new old → AreKept s z old d said ran → AreKept s z new d said ran
kept_front Listed z d new old said ran f is = (all_front z d new old f ∙ is.0, is.1)
kept_front Section z d new old said ran f is = is
kept_front Open z d new old said ran f is = (ends_as Open _ _ said (picked_front d (is_command_of d) (picks_commands d) z new old f) is.0, ends_as Open _ _ ran (picked_front d (is_run_of d) (picks_runs d) z new old f) is.1)
kept_front Closed z d new old said ran f is = (ends_as Closed _ _ said (picked_front d (is_command_of d) (picks_commands d) z new old f) is.0, ends_as Closed _ _ ran (picked_front d (is_run_of d) (picks_runs d) z new old f) is.1)

same_domain : (d : ℕ) (r : Reply) → cond (d == d) (r ∷ []) [] ≡ r ∷ []
same_domain d r = ap (λ (b : Bool). cond b (r ∷ []) []) (eq-eqb d d refl)

-- a command adds its own
module _ (z : Sizes) (d : ℕ) (old new : List Entry) (c : model.Command) (full : Bool) (r : Reply) (x : Answers z d old new (Command d c full) (Replied r)) where
  one_answer : answers z new d ≡ answers z old d ++ r ∷ []
  one_answer = picked_after d (is_command_of d) (picks_commands d) z old new (Command d c full) (Replied r) x ∙ ap (λ t. answers z old d ++ t) (same_domain d r)

  pub none_ran : finalised z new d ≡ finalised z old d
  none_ran = picked_after d (is_run_of d) (picks_runs d) z old new (Command d c full) (Replied r) x ∙ append-nil (finalised z old d)

  pub kept_answer : (s : Supply) (said ran : List Reply) → AreKept s z old d said ran → AreKept s z new d (said ++ r ∷ []) ran
  kept_answer Listed said ran is = (replies_after z d old new (Command d c full) (Replied r) (eq-eqb d d refl) x ∙ ap (λ l. l ++ r ∷ []) is.0, is.1)
  kept_answer Section said ran is = is
  kept_answer Open said ran is = (ends_as Open _ _ (said ++ r ∷ []) one_answer (ends_on Open (answers z old d) said (r ∷ []) is.0), ends_as Open _ _ ran none_ran is.1)
  kept_answer Closed said ran is = (ends_as Closed _ _ (said ++ r ∷ []) one_answer (ends_on Closed (answers z old d) said (r ∷ []) is.0), ends_as Closed _ _ ran none_ran is.1)

-- and so does a finaliser
module _ (z : Sizes) (d : ℕ) (old new : List Entry) (r : Reply) (x : Answers z d old new (Ran d) (Replied r)) where
  none_answered : answers z new d ≡ answers z old d
  none_answered = picked_after d (is_command_of d) (picks_commands d) z old new (Ran d) (Replied r) x ∙ append-nil (answers z old d)

  one_ran : finalised z new d ≡ finalised z old d ++ r ∷ []
  one_ran = picked_after d (is_run_of d) (picks_runs d) z old new (Ran d) (Replied r) x ∙ ap (λ t. finalised z old d ++ t) (same_domain d r)

  pub kept_ran : (s : Supply) (said ran : List Reply) → AreKept s z old d said ran → AreKept s z new d (said_with s said r) (ran_with s ran r)
  kept_ran Listed said ran is = (replies_after z d old new (Ran d) (Replied r) (eq-eqb d d refl) x ∙ ap (λ l. l ++ r ∷ []) is.0, is.1)
  kept_ran Section said ran is = is
  kept_ran Open said ran is = (ends_as Open _ _ said none_answered is.0, ends_as Open _ _ (ran ++ r ∷ []) one_ran (ends_on Open (finalised z old d) ran (r ∷ []) is.1))
  kept_ran Closed said ran is = (ends_as Closed _ _ said none_answered is.0, ends_as Closed _ _ (ran ++ r ∷ []) one_ran (ends_on Closed (finalised z old d) ran (r ∷ []) is.1))

-- the end of the trace adds none
pub kept_end : (s : Supply) (z : Sizes) (d : ℕ) (old new : List Entry) (said ran : List Reply) → Answers z d old new (End d) Silent → AreKept s z old d said ran → AreKept s z new d said ran
kept_end Listed z d old new said ran x is = (replies_after z d old new (End d) Silent (eq-eqb d d refl) x ∙ (append-nil (replies z old d) ∙ is.0), is.1)
kept_end Section z d old new said ran x is = is
kept_end Open z d old new said ran x is = (ends_as Open _ _ said (picked_after d (is_command_of d) (picks_commands d) z old new (End d) Silent x ∙ append-nil (answers z old d)) is.0, ends_as Open _ _ ran (picked_after d (is_run_of d) (picks_runs d) z old new (End d) Silent x ∙ append-nil (finalised z old d)) is.1)
kept_end Closed z d old new said ran x is = (ends_as Closed _ _ said (picked_after d (is_command_of d) (picks_commands d) z old new (End d) Silent x ∙ append-nil (answers z old d)) is.0, ends_as Closed _ _ ran (picked_after d (is_run_of d) (picks_runs d) z old new (End d) Silent x ∙ append-nil (finalised z old d)) is.1)

-- where commands are handed in a finaliser's reply isn't among theirs
pub said_apart : (s : Supply) (said : List Reply) (r : Reply) → IsHandedIn s → said_with s said r ≡ said
said_apart Listed said r handed = absurd handed
said_apart Section said r handed = absurd handed
said_apart Open said r handed = refl
said_apart Closed said r handed = refl

-- but one more is kept
pub keeps_one : (s : Supply) (said ran : List Reply) (r : Reply) → length (said_with s said r) + length (ran_with s ran r) ≡ length said + length ran + 1
keeps_one Listed said ran r = let one = length-append said (r ∷ []) in omega (arith, one)
keeps_one Section said ran r = let one = length-append said (r ∷ []) in omega (arith, one)
keeps_one Open said ran r = let one = length-append ran (r ∷ []) in omega (arith, one)
keeps_one Closed said ran r = let one = length-append ran (r ∷ []) in omega (arith, one)

-- the one reply that is kept is the last to a command of the domain
pub last_said : (s : Supply) (z : Sizes) (front : List Entry) (d : ℕ) (said ran : List Reply) → IsHandedIn s → AreKept s z front d said ran → length said ≤ 1 → (o : Option Reply) → o ≡ slice_get said 0 → IfSome o (λ a. (past : List Reply) × (answers z front d ≡ past ++ a ∷ []))
last_said Listed z front d said ran handed kept one o is = absurd handed
last_said Section z front d said ran handed kept one o is = absurd handed
last_said s z front d said ran handed kept one None is = tt
last_said s z front d [] ran handed kept one (Some a) is = cc
last_said Open z front d (b ∷ []) ran handed kept one (Some a) is = let same : b ≡ a = cc in (kept.0.0, kept.0.1 ∙ ap (λ (r : Reply). kept.0.0 ++ r ∷ []) same)
last_said Closed z front d (b ∷ []) ran handed kept one (Some a) is = let same : b ≡ a = cc in (kept.0.0, kept.0.1 ∙ ap (λ (r : Reply). kept.0.0 ++ r ∷ []) same)
last_said s z front d (b ∷ c ∷ said) ran handed kept one (Some a) is = absurd (omega (arith, one))

-- and those of finalisers are their last
pub last_ran : (s : Supply) (z : Sizes) (front : List Entry) (d : ℕ) (said ran : List Reply) → IsHandedIn s → AreKept s z front d said ran → (past : List Reply) × (finalised z front d ≡ past ++ ran)
last_ran Listed z front d said ran handed kept = absurd handed
last_ran Section z front d said ran handed kept = absurd handed
last_ran Open z front d said ran handed kept = kept.1
last_ran Closed z front d said ran handed kept = kept.1
