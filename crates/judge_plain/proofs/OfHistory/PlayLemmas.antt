-- A history that is played entry by entry, and what a domain does in it.
use Rattle.std.proofs.Common.{◌≡◌, ℕ, ◌<◌, ◌≤◌, Bool, ◌||◌, false, List, [], ◌∷◌, ◌++◌, refl, ap, subst, sym, ◌∙◌, ◌+◌, length, take, get_or, IsTrue, zero, suc, arith}
use Rattle.std.specs.Prelude.{slice_get, Some}
use Rattle.std.proofs.Math.Bool.{or-false}
use Rattle.std.proofs.lemmas.List.{take_more, take_all}
use Rattle.std.proofs.lemmas.List.Folds.{list_any-append}
use Rattle.std.specs.List.{list_any}
use Rattle.model_core.specs.declared.command.Command.{Command}
use Rattle.model_core.specs.declared.entry.Entry.{Entry}
use Rattle.model_core.specs.declared.reply.Applied.{Applied}
use Rattle.model_core.specs.declared.reply.Reply.{Reply}
use Rattle.model_core.specs.declared.state.Sizes.{Sizes}
use Rattle.model_core.specs.declared.state.State.{State}
use Rattle.model_core.specs.Domains.{opening}
use Rattle.model_core.specs.Entries.{Allowed, next, reply}
use Rattle.model_core.specs.History.{command_of, state_after}
use Rattle.model_core.proofs.Histories.HistoryLemmas.{legal_push, state_after-push, commands-push, replies-push}
use Rattle.judge_plain.specs.History.Steps.{Leads, answers, answers_from, is_end_of, own_replies, HasPlayed, HasDone, Does}

-- the answers of one more entry
answers_from-push : (s : State) (h : List Entry) (e : Entry) → answers_from s (h ++ e ∷ []) ≡ answers_from s h ++ reply (state_after s h) e ∷ []
answers_from-push s [] e = refl
answers_from-push s (x ∷ h) e = ap (λ t. reply s x ∷ t) (answers_from-push (next s x) h e)

-- nothing is played
pub played_nothing : (z : Sizes) → HasPlayed z [] (opening z) []
played_nothing z = record { legal = tt; state = refl; answers_are = refl }

-- one more entry is played
pub played_more : (z : Sizes) (h : List Entry) (i : ℕ) (e : Entry) (s t : State) (a : Applied) (told more : List Applied)
    → i < length h
    → get_or h i e ≡ e
    → HasPlayed z (take i h) s told
    → Leads s t e a
    → more ≡ told ++ a ∷ []
    → HasPlayed z (take (i + 1) h) t more
played_more z h i e s t a told more inside there before step added =
    rw (take_more h i e inside, there) (record {
      legal = legal_push (opening z) (take i h) e before.legal (subst (λ x. Allowed x e) before.state step.allowed);
      state = step.state ∙ ap (λ x. next x e) before.state ∙ sym (state_after-push (opening z) (take i h) e);
      answers_are = added ∙ ap (λ x. told ++ x ∷ []) (step.answers ∙ ap (λ x. reply x e) before.state)
          ∙ ap (λ x. x ++ reply (state_after (opening z) (take i h)) e ∷ []) before.answers_are
          ∙ sym (answers_from-push (opening z) (take i h) e);
    })

-- all is played
pub played_all : (z : Sizes) (h : List Entry) (s : State) (told : List Applied) (n : ℕ) → length h ≤ n → HasPlayed z (take n h) s told → HasPlayed z h s told
played_all z h s told n all played =
    let whole : take n h ≡ h = take_all n h all in
    subst (λ x. HasPlayed z x s told) whole played

-- the answer at a place is that of the entry there
answer_at : (s : State) (h : List Entry) (i : ℕ) (e : Entry) (a : Applied) → slice_get (answers_from s h) i ≡ Some a → get_or h i e ≡ e → a ≡ reply (state_after s (take i h)) e
answer_at s [] i e a there is = search
answer_at s (x ∷ h) zero e a there is = search
answer_at s (x ∷ h) (suc i) e a there is = answer_at (next s x) h i e a there is

-- a domain has done nothing
pub done_nothing : (z : Sizes) (d : ℕ) (section : List Command) → HasDone z d section [] [] 0 false
done_nothing z d section = record { replies_are = refl; within = omega arith; commands_are = refl; ended_is = refl }

-- one more entry is read
pub done_more : (z : Sizes) (d : ℕ) (section : List Command) (h : List Entry) (told : List Applied) (i : ℕ) (e : Entry) (a : Applied) (rs qs : List Reply) (made count : ℕ) (ended over : Bool)
    → i < length h
    → get_or h i e ≡ e
    → told ≡ answers z h
    → slice_get told i ≡ Some a
    → HasDone z d section (take i h) rs made ended
    → qs ≡ rs ++ own_replies d e a
    → count ≤ length section
    → take count section ≡ take made section ++ command_of d e
    → over ≡ (ended || is_end_of d e)
    → HasDone z d section (take (i + 1) h) qs count over
done_more z d section h told i e a rs qs made count ended over inside there are at before added within more ends =
    let answer : a ≡ reply (state_after (opening z) (take i h)) e =
    answer_at (opening z) h i e a (subst (λ x. slice_get x i ≡ Some a) are at) there in
    rw (take_more h i e inside, there) (record {
      replies_are = added ∙ ap (λ x. rs ++ own_replies d e x) answer
          ∙ ap (λ x. x ++ own_replies d e (reply (state_after (opening z) (take i h)) e)) before.replies_are ∙ sym (replies-push z (take i h) e d);
      within = within;
      commands_are = more ∙ ap (λ x. x ++ command_of d e) before.commands_are ∙ sym (commands-push (take i h) e d);
      ended_is = ends ∙ ap (λ x. x || is_end_of d e) before.ended_is
          ∙ sym (list_any-append (is_end_of d) (take i h) (e ∷ []) ∙ ap (λ x. list_any (is_end_of d) (take i h) || x) (or-false (is_end_of d e)));
    })

-- all is read
pub does_all : (z : Sizes) (d : ℕ) (section : List Command) (h : List Entry) (rs : List Reply) (made : ℕ) (ended : Bool) (n : ℕ)
    → length h ≤ n
    → HasDone z d section (take n h) rs made ended
    → made ≡ length section
    → IsTrue ended
    → Does z d section h rs
does_all z d section h rs made ended n all read whole over =
    let whole_h : take n h ≡ h = take_all n h all in
    let there : HasDone z d section h rs made ended = subst (λ x. HasDone z d section x rs made ended) whole_h read in
    record {
      commands_are = sym there.commands_are ∙ take_all made section (omega arith);
      replies_are = sym there.replies_are;
      ends = subst (λ x. IsTrue x) there.ended_is over;
    }
