-- Where a text ends before another, and the replies of one entry more.
use Rattle.std.proofs.Common.{◌≡◌, ℕ, zero, suc, ◌<◌, List, [], ◌∷◌, drop, length, Some, refl, sym, ap, ◌∙◌, arith}
use Rattle.std.proofs.Common.{◌++◌, ◌+◌, cond, take, get_or, subst}
use Rattle.std.proofs.lemmas.List.{take_more}
use Rattle.model_core.specs.declared.entry.Entry.{Entry}
use Rattle.model_core.specs.declared.reply.Applied.{Applied}
use Rattle.model_core.specs.declared.reply.Reply.{Reply}
use Rattle.model_core.specs.declared.state.Sizes.{Sizes}
use Rattle.model_core.specs.declared.state.State.{State}
use Rattle.model_core.specs.Domains.{opening}
use Rattle.model_core.specs.Entries.{Allowed, next, reply}
use Rattle.model_core.specs.History.{Legal, is_entry_of, replies, reply_list, state_after}
use Rattle.model_core.proofs.Histories.HistoryLemmas.{replies-push, state_after-push}
use Rattle.judge_plain.proofs.OfScheduled.EntryLemmas.{allowed_at}
use Rattle.judge_plain.specs.Scheduled.Lines.{differs_from}

short : (line i : ℕ) (xs : List ℕ) → i < length xs → differs_from line (drop i xs) [] ≡ Some line
short line i [] below = absurd (omega (arith, below))
short line zero (x ∷ xs) below = refl
short line (suc i) (x ∷ xs) below = short line i xs (omega (arith, below))

pub short_differs : (line i : ℕ) (xs ys rest : List ℕ) → i < length xs → rest ≡ [] → differs_from line (drop i xs) rest ≡ differs_from 1 xs ys → Some line ≡ differs_from 1 xs ys
short_differs line i xs ys rest below empty same = sym (short line i xs below) ∙ ap (differs_from line (drop i xs)) (sym empty) ∙ same

-- each entry of a legal history may be followed
pub may_follow : (z : Sizes) (h : List Entry) (i : ℕ) (e : Entry) (s : State) → Legal z h → i < length h → get_or h i e ≡ e → s ≡ state_after (opening z) (take i h) → Allowed s e
may_follow z h i e s legal below is state = subst (λ t. Allowed t e) (sym state) (allowed_at (opening z) h i e below is legal)

pub followed : (z : Sizes) (h : List Entry) (i : ℕ) (e : Entry) (s t : State) → i < length h → get_or h i e ≡ e → s ≡ state_after (opening z) (take i h) → t ≡ next s e → t ≡ state_after (opening z) (take (i + 1) h)
followed z h i e s t below is state step =
    step ∙ ap (λ x. next x e) state ∙ sym (state_after-push (opening z) (take i h) e) ∙ ap (state_after (opening z)) (sym (take_more h i e below ∙ ap (λ x. take i h ++ x ∷ []) is))

pub replied : (z : Sizes) (h : List Entry) (i : ℕ) (e : Entry) (d : ℕ) (s : State) (a : Applied) (own more : List Reply) → i < length h → get_or h i e ≡ e → s ≡ state_after (opening z) (take i h) → a ≡ reply s e
    → own ≡ replies z (take i h) d → more ≡ own ++ cond (is_entry_of d e) (reply_list a) [] → more ≡ replies z (take (i + 1) h) d
replied z h i e d s a own more below is state answers before added =
    added ∙ ap (λ x. own ++ cond (is_entry_of d e) (reply_list x) []) (answers ∙ ap (λ x. reply x e) state)
    ∙ ap (λ x. x ++ cond (is_entry_of d e) (reply_list (reply (state_after (opening z) (take i h)) e)) []) before
    ∙ sym (replies-push z (take i h) e d) ∙ ap (λ x. replies z x d) (sym (take_more h i e below ∙ ap (λ x. take i h ++ x ∷ []) is))
