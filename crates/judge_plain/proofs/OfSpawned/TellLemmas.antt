-- What a domain has done in entries, one after the other.
use Rattle.std.proofs.Common.{◌≡◌, ℕ, ◌+◌, ◌<◌, ◌≤◌, Bool, true, false, ◌||◌, cond, List, [], ◌∷◌, ◌++◌, length, take, get_or, refl, ap, sym, ◌∙◌, subst, append_assoc, append-nil}
use Rattle.std.specs.List.{list_any}
use Rattle.std.proofs.Math.Bool.{or-false, or-true}
use Rattle.std.proofs.lemmas.List.{take_more, take_all}
use Rattle.std.proofs.lemmas.List.Folds.{list_any-append}
use Rattle.model_core.specs.declared.entry.Entry.{Entry}
use Rattle.model_core.specs.declared.reply.Reply.{Reply}
use Rattle.model_core.specs.declared.reply.Applied.{Applied}
use Rattle.model_core.specs.declared.state.Sizes.{Sizes}
use Rattle.model_core.specs.declared.state.State.{State}
use Rattle.model_core.specs.Domains.{domain_at, opening}
use Rattle.model_core.specs.Entries.{Allowed, next, reply}
use Rattle.model_core.specs.History.{Legal, LegalFrom, reply_list, state_after}
use Rattle.model_core.proofs.Histories.HistoryLemmas.{legal_push, state_after-append, state_after-push}
use Rattle.judge_plain.specs.History.Steps.{Leads, is_end_of}
use Rattle.model_traces.specs.Spawns.Expansion.{Step, step_of, steps_from}
use Rattle.model_traces.specs.Spawns.Printed.{is_printed_entry, printed_replies, printed_replies_from}
use Rattle.model_traces.proofs.OfSpawns.Growing.{printed_append, steps_append}
use Rattle.judge_plain.specs.Spawned.Told.{Tells}

pub tells_nothing : (s : State) (d : ℕ) (rs : List Reply) → Tells s s d [] [] false rs rs
tells_nothing s d rs = record { legal = tt; state = refl; steps_are = refl; ended_is = refl; replies_are = sym (append-nil rs) }

-- one more entry
pub tells_more : (s t u : State) (d : ℕ) (h : List Entry) (i : ℕ) (e : Entry) (a : Applied) (steps more : List Step) (ended over : Bool) (old before after : List Reply) → i < length h → get_or h i e ≡ e
    → Tells s t d (take i h) steps ended old before → Leads t u e a → more ≡ steps ++ step_of t d e → over ≡ (ended || is_end_of d e) → after ≡ before ++ cond (is_printed_entry d e) (reply_list a) []
    → Tells s u d (take (i + 1) h) more over old after
tells_more s t u d h i e a steps more ended over old before after below at told step steps_more ends replies_more =
    rw (take_more h i e below, at) (record {
      legal = legal_push s (take i h) e told.legal (subst (λ (x : State). Allowed x e) told.state step.allowed);
      state = step.state ∙ ap (λ (x : State). next x e) told.state ∙ sym (state_after-push s (take i h) e);
      steps_are = steps_more ∙ ap (λ (xs : List Step). xs ++ step_of t d e) told.steps_are ∙ ap (λ (x : State). steps_from s (take i h) d ++ step_of x d e) told.state
          ∙ ap (λ (xs : List Step). steps_from s (take i h) d ++ xs) (sym (append-nil (step_of (state_after s (take i h)) d e))) ∙ sym (steps_append s (take i h) (e ∷ []) d);
      ended_is = ends ∙ ap (λ (x : Bool). x || is_end_of d e) told.ended_is
          ∙ sym (list_any-append (is_end_of d) (take i h) (e ∷ []) ∙ ap (λ (x : Bool). list_any (is_end_of d) (take i h) || x) (or-false (is_end_of d e)));
      replies_are = replies_more ∙ ap (λ (x : Applied). before ++ cond (is_printed_entry d e) (reply_list x) []) (step.answers ∙ ap (λ (x : State). reply x e) told.state)
          ∙ ap (λ (rs : List Reply). rs ++ printed_of_one) told.replies_are ∙ append_assoc old (printed_replies_from s (take i h) d) printed_of_one
          ∙ ap (λ (rs : List Reply). old ++ (printed_replies_from s (take i h) d ++ rs)) (sym (append-nil printed_of_one)) ∙ ap (λ (rs : List Reply). old ++ rs) (sym (printed_append s (take i h) (e ∷ []) d));
    })
  where
    printed_of_one : List Reply
    printed_of_one = cond (is_printed_entry d e) (reply_list (reply (state_after s (take i h)) e)) []

-- all entries
pub tells_all : (s t : State) (d : ℕ) (h : List Entry) (n : ℕ) (steps : List Step) (ended : Bool) (old after : List Reply) → length h ≤ n → Tells s t d (take n h) steps ended old after → Tells s t d h steps ended old after
tells_all s t d h n steps ended old after all told = subst (λ (k : List Entry). Tells s t d k steps ended old after) (take_all n h all) told

-- the entries in front, and those behind
pub legal_both : (s t u : State) (d : ℕ) (front behind : List Entry) (xs ys : List Step) (b c : Bool) (r0 r1 r2 : List Reply) → Tells s t d front xs b r0 r1 → Tells t u d behind ys c r1 r2 → LegalFrom s (front ++ behind)
legal_both s t u d front behind xs ys b c r0 r1 r2 first second = legal_append s front behind first.legal (subst (λ (x : State). LegalFrom x behind) first.state second.legal)
  where
    legal_append : (s : State) (h k : List Entry) → LegalFrom s h → LegalFrom (state_after s h) k → LegalFrom s (h ++ k)
    legal_append s [] k a b = b
    legal_append s (e ∷ h) k a b = (a.0, legal_append (next s e) h k a.1 b)

pub replies_both : (z : Sizes) (t u : State) (d : ℕ) (front behind : List Entry) (xs ys : List Step) (b c : Bool) (r1 r2 : List Reply) → Tells (opening z) t d front xs b [] r1 → Tells t u d behind ys c r1 r2
    → r2 ≡ printed_replies z (front ++ behind) d
replies_both z t u d front behind xs ys b c r1 r2 first second =
    second.replies_are ∙ ap (λ (rs : List Reply). rs ++ printed_replies_from t behind d) first.replies_are ∙ ap (λ (x : State). printed_replies_from (opening z) front d ++ printed_replies_from x behind d) first.state
    ∙ sym (printed_append (opening z) front behind d)

pub steps_behind : (s t u : State) (d : ℕ) (front behind : List Entry) (xs ys : List Step) (b c : Bool) (r0 r1 r2 : List Reply) → Tells s t d front xs b r0 r1 → Tells t u d behind ys c r1 r2 → ys ≡ steps_from (state_after s front) behind d
steps_behind s t u d front behind xs ys b c r0 r1 r2 first second = second.steps_are ∙ ap (λ (x : State). steps_from x behind d) first.state

pub ends_behind : (s t : State) (d : ℕ) (front behind : List Entry) (ys : List Step) (c : Bool) (r1 r2 : List Reply) → Tells s t d behind ys c r1 r2 → c ≡ true → list_any (is_end_of d) (front ++ behind) ≡ true
ends_behind s t d front behind ys c r1 r2 told over =
    list_any-append (is_end_of d) front behind ∙ ap (λ (x : Bool). list_any (is_end_of d) front || x) (sym told.ended_is ∙ over) ∙ or-true (list_any (is_end_of d) front)
