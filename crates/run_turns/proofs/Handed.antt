-- The front of a domain to which a command was handed in.
use Rattle.std.proofs.Common.{◌≡◌, ◌∙◌, ℕ, Bool, true, false, not, IsTrue, List, [], ◌∷◌, ◌++◌, refl, sym, ap, append-nil, append_assoc, eq-eqb}
use Rattle.std.specs.Prelude.{cond, ◌==◌, ◌||◌, ◌&&◌}
use Rattle.std.proofs.lemmas.List.Folds.{list_all-append}
use Rattle.model_core.specs.declared.command.Command as model
use Rattle.model_core.specs.declared.entry.Entry.{Entry}
use Rattle.model_core.specs.declared.entry.Entry.TheVariants.{Command, Ran}
use Rattle.model_core.specs.declared.reply.Reply.{Reply}
use Rattle.model_core.specs.declared.reply.Applied.TheVariants.{Replied}
use Rattle.model_core.specs.declared.state.Sizes.{Sizes}
use Rattle.model_core.specs.declared.state.State.{State}
use Rattle.model_core.specs.Domains.{opening}
use Rattle.model_core.specs.Entries.{reply as reply_to}
use Rattle.model_core.specs.Fronts.{IsFrontOf, NoneOf}
use Rattle.model_core.specs.History.{command_of, commands, is_entry_of, replies, reply_list, state_after}
use Rattle.model_core.proofs.Graphs.GraphLemmas.{and_parts}
use Rattle.model_core.proofs.Histories.FrontLemmas.{none_cons}
use Rattle.model_core.proofs.Histories.HistoryLemmas.{commands-append, commands-push, replies_from-append, replies_from-others, replies-push, state_after-append}
use Rattle.run_turns.specs.Handed.{Finalised, OnlyRuns, PerformedOn}
use Rattle.run_turns.specs.Kept.{is_run_of}
use Rattle.run_turns.specs.Runs.{Appended}

-- entries of others are no runs but others'
pub others_runs : (d : ℕ) (h : List Entry) → NoneOf d h → OnlyRuns d h
others_runs d [] none = refl
others_runs d (e ∷ h) none =
    let parts = none_cons d e h none in
    (λ i. (not (parts.0 i) || is_run_of d e) && others_runs d h parts.1 i)

both_runs : (d : ℕ) (g h : List Entry) → OnlyRuns d g → OnlyRuns d h → OnlyRuns d (g ++ h)
both_runs d g h a b = list_all-append (λ e. not (is_entry_of d e) || is_run_of d e) g h ∙ (λ i. a i && b i)

-- at first nothing has come
pub finalised_none : (z : Sizes) (d : ℕ) (front : List Entry) → Finalised z d front front []
finalised_none z d front = record { rest = []; appends = sym (append-nil front); runs = refl; ran_are = refl }

-- entries of others add no reply
pub finalised_others : (z : Sizes) (d : ℕ) (old mid new : List Entry) (ran : List Reply) → Finalised z d old mid ran → IsFrontOf d new mid → Finalised z d old new ran
finalised_others z d old mid new ran f later = record {
  rest = f.rest ++ later.rest;
  appends = later.appends ∙ (ap (λ (h : List Entry). h ++ later.rest) f.appends ∙ append_assoc old f.rest later.rest);
  runs = both_runs d f.rest later.rest f.runs (others_runs d later.rest later.others);
  ran_are = replies_from-append (state_after (opening z) old) f.rest later.rest d
      ∙ ((λ i. f.ran_are i ++ replies_from-others (state_after (state_after (opening z) old) f.rest) later.rest d later.others i) ∙ append-nil ran);
}

own_reply : (d : ℕ) (r : Reply) → cond (d == d) (r ∷ []) [] ≡ r ∷ []
own_reply d r = ap (λ (b : Bool). cond b (r ∷ []) []) (eq-eqb d d refl)

-- a finaliser adds its own
pub finalised_more : (z : Sizes) (d : ℕ) (old mid new : List Entry) (ran : List Reply) (r : Reply) → Finalised z d old mid ran → Appended z d mid new (Ran d) (Replied r) → Finalised z d old new (ran ++ r ∷ [])
finalised_more z d old mid new ran r f a =
    let g = finalised_others z d old mid (mid ++ a.between) ran f (record { rest = a.between; appends = refl; others = a.others }) in
    let s : State = state_after (opening z) old in
    let there : state_after s g.rest ≡ state_after (opening z) (mid ++ a.between) = sym (state_after-append (opening z) old g.rest) ∙ ap (state_after (opening z)) (sym g.appends) in
    record {
      rest = g.rest ++ Ran d ∷ [];
      appends = a.appends ∙ (ap (λ (h : List Entry). h ++ Ran d ∷ []) g.appends ∙ append_assoc old g.rest (Ran d ∷ []));
      runs = both_runs d g.rest (Ran d ∷ []) g.runs (by (d == d) (eq-eqb d d refl));
      ran_are = replies_from-append s g.rest (Ran d ∷ []) d ∙ (λ i. g.ran_are i ++ ((ap (λ (u : State). cond (d == d) (reply_list (reply_to u (Ran d))) [] ++ []) there ∙ (ap (λ a. cond (d == d) (reply_list a) [] ++ []) a.replies ∙ (append-nil (cond (d == d) (r ∷ []) []) ∙ own_reply d r))) i));
    }
  where
    by : (b : Bool) → b ≡ true → IsTrue ((not b || b) && true)
    by true e = refl
    by false e = refl

-- and then a command
pub performed_on : (z : Sizes) (d : ℕ) (old mid new : List Entry) (c : model.Command) (full : Bool) (ran : List Reply) (r : Reply) → Finalised z d old mid ran → Appended z d mid new (Command d c full) (Replied r) → PerformedOn z d old new c ran r
performed_on z d old mid new c full ran r f a = record {
  before = mid ++ a.between;
  finalised = finalised_others z d old mid (mid ++ a.between) ran f (record { rest = a.between; appends = refl; others = a.others });
  full = full;
  appends = a.appends;
  legal = a.legal;
  replies = a.replies;
}

-- the replies of the domain have these more
pub finalised_replies : (z : Sizes) (d : ℕ) (old new : List Entry) (ran : List Reply) → Finalised z d old new ran → replies z new d ≡ replies z old d ++ ran
finalised_replies z d old new ran f =
    ap (λ (h : List Entry). replies z h d) f.appends ∙ (replies_from-append (opening z) old f.rest d ∙ ap (λ (rs : List Reply). replies z old d ++ rs) f.ran_are)

run_command : (d : ℕ) (e : Entry) → IsTrue (not (is_entry_of d e) || is_run_of d e) → command_of d e ≡ []
run_command d (Command k c full) runs = by (k == d) runs
  where
    by : (b : Bool) → IsTrue (not b || false) → cond b (c ∷ []) [] ≡ []
    by true e = cc
    by false e = refl
run_command d e runs = refl

runs_commands : (d : ℕ) (h : List Entry) → OnlyRuns d h → commands h d ≡ []
runs_commands d [] runs = refl
runs_commands d (e ∷ h) runs =
    let parts = and_parts (not (is_entry_of d e) || is_run_of d e) _ runs in
    (λ i. run_command d e parts.0 i ++ runs_commands d h parts.1 i)

-- and its commands are the same
pub finalised_commands : (z : Sizes) (d : ℕ) (old new : List Entry) (ran : List Reply) → Finalised z d old new ran → commands new d ≡ commands old d
finalised_commands z d old new ran f =
    ap (λ (h : List Entry). commands h d) f.appends ∙ (commands-append old f.rest d ∙ (ap (λ t. commands old d ++ t) (runs_commands d f.rest f.runs) ∙ append-nil (commands old d)))

-- the command that was performed is one more
pub performed_commands : (z : Sizes) (d : ℕ) (old new : List Entry) (c : model.Command) (ran : List Reply) (r : Reply) → PerformedOn z d old new c ran r → commands new d ≡ commands old d ++ c ∷ []
performed_commands z d old new c ran r p =
    ap (λ (h : List Entry). commands h d) p.appends ∙ (commands-push p.before (Command d c p.full) d
    ∙ (λ i. finalised_commands z d old p.before ran p.finalised i ++ cond (eq-eqb d d refl i) (c ∷ []) []))

-- and its reply comes behind those of the finalisers
pub performed_replies : (z : Sizes) (d : ℕ) (old new : List Entry) (c : model.Command) (ran : List Reply) (r : Reply) → PerformedOn z d old new c ran r → replies z new d ≡ replies z old d ++ (ran ++ r ∷ [])
performed_replies z d old new c ran r p =
    ap (λ (h : List Entry). replies z h d) p.appends ∙ (replies-push z p.before (Command d c p.full) d
    ∙ ((λ i. finalised_replies z d old p.before ran p.finalised i ++ cond (eq-eqb d d refl i) (reply_list (p.replies i)) []) ∙ append_assoc (replies z old d) ran (r ∷ [])))
