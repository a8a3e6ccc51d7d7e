-- Histories that grow: what one more entry changes.
use Rattle.std.proofs.Common.{◌≡◌, ℕ, Bool, true, false, cond, List, [], ◌∷◌, ◌++◌, refl, ap, sym, ◌∙◌, append_assoc, append-nil, IsTrue, not}
use Rattle.std.specs.List.{list_all}
use Rattle.model_core.specs.declared.entry.Entry.{Entry}
use Rattle.model_core.specs.declared.entry.Entry.TheVariants.{Command as CommandOf, End, Cut, Queue, Seal, Wipe, Last, Collected, Done, Ran}
use Rattle.model_core.specs.declared.reply.Reply.{Reply}
use Rattle.model_core.specs.declared.state.Sizes.{Sizes}
use Rattle.model_core.specs.declared.state.State.{State}
use Rattle.model_core.specs.Domains.{opening}
use Rattle.model_core.specs.Entries.{Allowed, next, reply}
use Rattle.model_core.proofs.Graphs.GraphLemmas.{and_parts}
use Rattle.model_core.proofs.Reach.ReachLemmas.{is_false}
use Rattle.model_core.specs.History.{state_after, LegalFrom, commands, command_of, replies_from, replies, reply_list, is_entry_of}

-- the state after two lists is that after the second, from the state after the first
pub state_after-append : (s : State) (h k : List Entry) → state_after s (h ++ k) ≡ state_after (state_after s h) k
state_after-append s [] k = refl
state_after-append s (e ∷ h) k = state_after-append (next s e) h k

-- two lists are legal where the first is, and the second from the state after it
pub legal_append : (s : State) (h k : List Entry) → LegalFrom s h → LegalFrom (state_after s h) k → LegalFrom s (h ++ k)
legal_append s [] k first second = second
legal_append s (e ∷ h) k first second = (first.0, legal_append (next s e) h k first.1 second)

-- one more entry
pub legal_push : (s : State) (h : List Entry) (e : Entry) → LegalFrom s h → Allowed (state_after s h) e → LegalFrom s (h ++ e ∷ [])
legal_push s h e legal allowed = legal_append s h (e ∷ []) legal (allowed, tt)

pub state_after-push : (s : State) (h : List Entry) (e : Entry) → state_after s (h ++ e ∷ []) ≡ next (state_after s h) e
state_after-push s h e = state_after-append s h (e ∷ [])

-- what a domain's commands and replies are in a list that grows
pub commands-append : (h k : List Entry) (d : ℕ) → commands (h ++ k) d ≡ commands h d ++ commands k d
commands-append [] k d = refl
commands-append (e ∷ h) k d = ap (λ t. command_of d e ++ t) (commands-append h k d) ∙ sym (append_assoc (command_of d e) (commands h d) (commands k d))

pub commands-push : (h : List Entry) (e : Entry) (d : ℕ) → commands (h ++ e ∷ []) d ≡ commands h d ++ command_of d e
commands-push h e d = commands-append h (e ∷ []) d ∙ ap (λ t. commands h d ++ t) (append-nil (command_of d e))

pub replies_from-append : (s : State) (h k : List Entry) (d : ℕ) → replies_from s (h ++ k) d ≡ replies_from s h d ++ replies_from (state_after s h) k d
replies_from-append s [] k d = refl
replies_from-append s (e ∷ h) k d =
    ap (λ t. cond (is_entry_of d e) (reply_list (reply s e)) [] ++ t) (replies_from-append (next s e) h k d)
    ∙ sym (append_assoc (cond (is_entry_of d e) (reply_list (reply s e)) []) (replies_from (next s e) h d) (replies_from (state_after s (e ∷ h)) k d))

-- one more entry: its own reply, where it is the domain's
pub replies-push : (z : Sizes) (h : List Entry) (e : Entry) (d : ℕ)
    → replies z (h ++ e ∷ []) d ≡ replies z h d ++ cond (is_entry_of d e) (reply_list (reply (state_after (opening z) h) e)) []
replies-push z h e d =
    replies_from-append (opening z) h (e ∷ []) d ∙ ap (λ t. replies z h d ++ t) (append-nil (cond (is_entry_of d e) (reply_list (reply (state_after (opening z) h) e)) []))

-- entries of others add no reply and no command
pub command_of-other : (d : ℕ) (e : Entry) → is_entry_of d e ≡ false → command_of d e ≡ []
command_of-other d (CommandOf k c full) other = rw other refl
command_of-other d (End k) other = refl
command_of-other d Cut other = refl
command_of-other d (Queue k places) other = refl
command_of-other d Seal other = refl
command_of-other d (Wipe l keys) other = refl
command_of-other d (Last k place) other = refl
command_of-other d Collected other = refl
command_of-other d Done other = refl
command_of-other d (Ran k) other = refl

pub commands-others : (h : List Entry) (d : ℕ) → IsTrue (list_all (λ x. not (is_entry_of d x)) h) → commands h d ≡ []
commands-others [] d others = refl
commands-others (e ∷ h) d others =
    let parts = and_parts (not (is_entry_of d e)) (list_all (λ x. not (is_entry_of d x)) h) others in
    rw (command_of-other d e (is_false (is_entry_of d e) parts.0)) (commands-others h d parts.1)

pub replies_from-others : (s : State) (h : List Entry) (d : ℕ) → IsTrue (list_all (λ x. not (is_entry_of d x)) h) → replies_from s h d ≡ []
replies_from-others s [] d others = refl
replies_from-others s (e ∷ h) d others =
    let parts = and_parts (not (is_entry_of d e)) (list_all (λ x. not (is_entry_of d x)) h) others in
    not_own (is_entry_of d e) parts.0 (reply_list (reply s e)) ∙ replies_from-others (next s e) h d parts.1
  where
    not_own : (b : Bool) → IsTrue (not b) → (r : List Reply) → {t : List Reply} → cond b r [] ++ t ≡ t
    not_own false e r = refl
    not_own true e r = cc
