-- What waits to be taken: each call adds at its end alone, what the front tells.
use Rattle.std.specs.Prelude.{cond, ◌==◌, ◌||◌}
use Rattle.std.proofs.Common.{◌≡◌, ◌∙◌, ℕ, Bool, true, false, not, IsTrue, List, [], ◌∷◌, ◌++◌, Option, Some, None, drop, slice_get, refl, sym, ap, subst, append-nil, append_assoc, eq-eqb}
use Rattle.std.proofs.lemmas.List.{append_cancel_left}
use Rattle.model_core.specs.declared.command.Command as model
use Rattle.model_core.specs.declared.entry.Entry.{Entry}
use Rattle.model_core.specs.declared.entry.Entry.TheVariants.{Command, End, Ran}
use Rattle.model_core.specs.declared.reply.Reply.{Reply}
use Rattle.model_core.specs.declared.reply.Applied.{Applied}
use Rattle.model_core.specs.declared.reply.Applied.TheVariants.{Replied, Silent}
use Rattle.model_core.specs.declared.state.Sizes.{Sizes}
use Rattle.model_core.specs.declared.state.State.{State}
use Rattle.model_core.specs.Domains.{opening}
use Rattle.model_core.specs.Entries.{next, reply}
use Rattle.model_core.specs.Fronts.{Answers, IsFrontOf}
use Rattle.model_core.specs.History.{is_entry_of, replies_from, reply_list, state_after}
use Rattle.model_core.proofs.Graphs.GraphLemmas.{and_parts}
use Rattle.model_core.proofs.Histories.FrontLemmas.{front_whole}
use Rattle.heap_rule.specs.declared.config.Config.{Config}
use Rattle.heap_rule.specs.Limits.{sizes_in}
use Rattle.heap_rule.specs.Token.{SharedHeap, IsIn}
use Rattle.run_turns.specs.declared.supply.Supply.{Supply}
use Rattle.run_turns.specs.declared.supply.Supply.TheVariants.{Listed, Section, Open, Closed}
use Rattle.run_turns.specs.Handed.{Finalised, OnlyRuns, PerformedOn}
use Rattle.run_turns.specs.Kept.{finalised, is_run_of, replies_to}
use Rattle.run_turns.specs.Runs.{AddsRan, Appended, GoesOn, HasLooked, IsHandedIn, NowAnswers, RunView, Stretches, ran_with, submitted, wanting}
use Rattle.run_turns.specs.Runs.Stretches.{ByOthers, ByCommand, ByFinaliser, ByEnd, BySection}
use Rattle.run_turns.proofs.AtOnce.{has_waited}
use Rattle.run_turns.proofs.Kept.{PicksOf, none_ran, picked_front, picks_runs, replies_to-append}
use Rattle.run_turns.proofs.Turning.{stood}

-- among others' entries and runs the replies are those of the runs
one_run : (d : ℕ) (s : State) (e : Entry) → IsTrue (not (is_entry_of d e) || is_run_of d e) → cond (is_run_of d e) (reply_list (reply s e)) [] ≡ cond (is_entry_of d e) (reply_list (reply s e)) []
one_run d s (Command k c full) runs = by (k == d) runs
  where
    by : (b : Bool) → IsTrue (not b || false) → [] ≡ cond b (reply_list (reply s (Command k c full))) []
    by true is = cc
    by false is = refl
one_run d s (End k) runs = by (k == d) runs
  where
    by : (b : Bool) → IsTrue (not b || false) → [] ≡ cond b (reply_list (reply s (End k))) []
    by true is = cc
    by false is = refl
one_run d s e runs = refl

pub runs_replies : (d : ℕ) (s : State) (h : List Entry) → OnlyRuns d h → replies_to (is_run_of d) s h ≡ replies_from s h d
runs_replies d s [] runs = refl
runs_replies d s (e ∷ h) runs =
    let parts = and_parts (not (is_entry_of d e) || is_run_of d e) _ runs in
    (λ i. one_run d s e parts.0 i ++ runs_replies d (next s e) h parts.1 i)

-- what a front tells of its domain's finalisers: those that ran in a stretch without a command
pub finalised_tells : (z : Sizes) (d : ℕ) (old new : List Entry) (ran : List Reply) → Finalised z d old new ran → finalised z new d ≡ finalised z old d ++ ran
finalised_tells z d old new ran f =
    ap (λ (h : List Entry). finalised z h d) f.appends ∙ (replies_to-append (is_run_of d) (opening z) old f.rest
    ∙ ap (λ (rs : List Reply). finalised z old d ++ rs) (runs_replies d (state_after (opening z) old) f.rest f.runs ∙ f.ran_are))

-- and those before a command
pub performed_tells : (z : Sizes) (d : ℕ) (old new : List Entry) (c : model.Command) (ran : List Reply) (r : Reply) → PerformedOn z d old new c ran r → finalised z new d ≡ finalised z old d ++ ran
performed_tells z d old new c ran r p =
    ap (λ (h : List Entry). finalised z h d) p.appends ∙ (replies_to-append (is_run_of d) (opening z) p.before (Command d c p.full ∷ [])
    ∙ (append-nil (finalised z p.before d) ∙ finalised_tells z d old p.before ran p.finalised))

-- so what a run adds to what waits are just these
pub finalised_adds : (z : Sizes) (old new : RunView) (ran : List Reply) → Finalised z old.token.view.own.number old.token.view.seen.front new.token.view.seen.front ran → AddsRan z old new → new.ran ≡ old.ran ++ ran
finalised_adds z old new ran f a = a.waits ∙ ap (λ (rs : List Reply). old.ran ++ rs) (append_cancel_left (finalised z old.token.view.seen.front old.token.view.own.number) a.more ran (sym a.told ∙ finalised_tells z old.token.view.own.number old.token.view.seen.front new.token.view.seen.front ran f))

pub performed_adds : (z : Sizes) (old new : RunView) (c : model.Command) (ran : List Reply) (r : Reply) → PerformedOn z old.token.view.own.number old.token.view.seen.front new.token.view.seen.front c ran r → AddsRan z old new → new.ran ≡ old.ran ++ ran
performed_adds z old new c ran r p a = a.waits ∙ ap (λ (rs : List Reply). old.ran ++ rs) (append_cancel_left (finalised z old.token.view.seen.front old.token.view.own.number) a.more ran (sym a.told ∙ performed_tells z old.token.view.own.number old.token.view.seen.front new.token.view.seen.front c ran r p))

-- entries of others add nothing
pub adds_nothing : (z : Sizes) (old new : RunView) → new.token.view.own.number ≡ old.token.view.own.number → new.ran ≡ old.ran → IsFrontOf old.token.view.own.number new.token.view.seen.front old.token.view.seen.front → AddsRan z old new
adds_nothing z old new number same f = record {
  number = number;
  more = [];
  waits = same ∙ sym (append-nil old.ran);
  told = picked_front old.token.view.own.number (is_run_of old.token.view.own.number) (picks_runs old.token.view.own.number) z new.token.view.seen.front old.token.view.seen.front f ∙ sym (append-nil (finalised z old.token.view.seen.front old.token.view.own.number));
}

-- a run that wasn't turned
pub adds_nowhere : (z : Sizes) (r : RunView) → AddsRan z r r
adds_nowhere z r = adds_nothing z r r refl refl (front_whole r.token.view.own.number r.token.view.seen.front)

-- what came later stands behind
pub adds_on : (z : Sizes) (a b c : RunView) → AddsRan z a b → AddsRan z b c → AddsRan z a c
adds_on z a b c p q = record {
  number = q.number ∙ p.number;
  more = p.more ++ q.more;
  waits = q.waits ∙ (ap (λ (rs : List Reply). rs ++ q.more) p.waits ∙ append_assoc a.ran p.more q.more);
  told = subst (λ (n : ℕ). finalised z c.token.view.seen.front n ≡ finalised z b.token.view.seen.front n ++ q.more) p.number q.told
      ∙ (ap (λ (rs : List Reply). rs ++ q.more) p.told ∙ append_assoc (finalised z a.token.view.seen.front a.token.view.own.number) p.more q.more);
}

-- one entry more adds its own reply
pub entry_picked : (d : ℕ) (p : Entry → Bool) → PicksOf d p → (z : Sizes) (old new : List Entry) (e : Entry) (a : Applied) → Appended z d old new e a → replies_to p (opening z) new ≡ replies_to p (opening z) old ++ cond (p e) (reply_list a) []
entry_picked d p picks z old new e a x =
    let before : replies_to p (opening z) (old ++ x.between) ≡ replies_to p (opening z) old = picked_front d p picks z (old ++ x.between) old (record { rest = x.between; appends = refl; others = x.others }) in
    ap (λ (h : List Entry). replies_to p (opening z) h) x.appends ∙ (replies_to-append p (opening z) (old ++ x.between) (e ∷ [])
    ∙ (λ i. before i ++ append-nil (cond (p e) (reply_list (x.replies i)) []) i))

own_reply : (d : ℕ) (r : Reply) → cond (d == d) (r ∷ []) [] ≡ r ∷ []
own_reply d r = ap (λ (b : Bool). cond b (r ∷ []) []) (eq-eqb d d refl)

kept_apart : (s : Supply) (ran : List Reply) (r : Reply) → IsHandedIn s → ran_with s ran r ≡ ran ++ r ∷ []
kept_apart Listed ran r handed = absurd handed
kept_apart Section ran r handed = absurd handed
kept_apart Open ran r handed = refl
kept_apart Closed ran r handed = refl

-- a turn adds the reply of the finaliser that it runs, and no other drops or moves one
pub turn_adds : (z : Sizes) (old new : RunView) → IsHandedIn old.supply → GoesOn old new → Stretches z old new → AddsRan z old new
turn_adds z old new handed g s = by s
  where
    d : ℕ
    d = old.token.view.own.number

    before : List Entry
    before = old.token.view.seen.front

    after : List Entry
    after = new.token.view.seen.front

    by : Stretches z old new → AddsRan z old new
    by (ByOthers m) = adds_nothing z old new g.number m.ran m.front
    by (ByCommand m) = record {
      number = g.number;
      more = [];
      waits = m.ran ∙ sym (append-nil old.ran);
      told = entry_picked d (is_run_of d) (picks_runs d) z before after (Command d m.command m.full) (Replied m.reply) m.front;
    }
    by (ByFinaliser m) = record {
      number = g.number;
      more = m.reply ∷ [];
      waits = m.ran ∙ kept_apart old.supply old.ran m.reply handed;
      told = entry_picked d (is_run_of d) (picks_runs d) z before after (Ran d) (Replied m.reply) m.front ∙ ap (λ (rs : List Reply). finalised z before d ++ rs) (own_reply d m.reply);
    }
    by (ByEnd m) = record {
      number = g.number;
      more = [];
      waits = m.ran ∙ sym (append-nil old.ran);
      told = entry_picked d (is_run_of d) (picks_runs d) z before after (End d) Silent m.front;
    }
    by (BySection m) = absurd (subst IsHandedIn m.sectioned handed)

-- one that is handed in adds nothing
pub submit_adds : (z : Sizes) (r : RunView) (c : model.Command) → AddsRan z r (submitted r c)
submit_adds z r c = adds_nothing z r (submitted r c) refl refl (front_whole r.token.view.own.number r.token.view.seen.front)

-- nor does a look
pub look_adds : (z : Sizes) (old new : RunView) → HasLooked old new → AddsRan z old new
look_adds z old new l = subst (AddsRan z old) (sym l.run) (adds_nothing z old (wanting old l.found) refl refl (front_whole old.token.view.own.number old.token.view.seen.front))

-- nor a command that is made at once, or put off
pub now_adds : (h : SharedHeap) (old new : RunView) (c : model.Command) (result : Option Reply) → IsIn old.token h → NowAnswers h old new c result → AddsRan (sizes_in h.config) old new
now_adds h old new c (Some reply) here m =
    let d : ℕ = old.token.view.own.number in
    let front : List Entry = old.token.view.seen.front in
    let tried = m.made.1 in
    let st = stood h (wanting old 0).token new.token c false reply tried.stands in
    let a : Answers (sizes_in h.config) d front new.token.view.seen.front (Command d c st.0) (Replied reply) = subst (λ (k : Config). Answers (sizes_in k) d front new.token.view.seen.front (Command d c st.0) (Replied reply)) here.1 st.1 in
    record {
      number = ap (λ o. o.number) tried.own;
      more = [];
      waits = ap (λ (r : RunView). r.ran) m.made.0 ∙ sym (append-nil old.ran);
      told = none_ran (sizes_in h.config) d front new.token.view.seen.front c st.0 reply a ∙ sym (append-nil (finalised (sizes_in h.config) front d));
    }
now_adds h old new c None here off =
    let w = has_waited h old new c off in
    adds_nothing (sizes_in h.config) old new w.number (ap (λ (r : RunView). r.ran) w.run) w.front

-- what was taken and what waits are together what the front tells: so it stays by a call that adds
pub taken_and_waiting : (z : Sizes) (old new : RunView) (taken : List Reply) → finalised z old.token.view.seen.front old.token.view.own.number ≡ taken ++ old.ran → AddsRan z old new → finalised z new.token.view.seen.front new.token.view.own.number ≡ taken ++ new.ran
taken_and_waiting z old new taken are a =
    ap (finalised z new.token.view.seen.front) a.number ∙ (a.told ∙ (ap (λ (rs : List Reply). rs ++ a.more) are ∙ (append_assoc taken old.ran a.more ∙ ap (λ (rs : List Reply). taken ++ rs) (sym a.waits))))

-- and where the oldest is taken: a call that takes another, or two, is refused
pub taken_first : (whole taken waiting : List Reply) (r : Reply) → whole ≡ taken ++ waiting → Some r ≡ slice_get waiting 0 → whole ≡ (taken ++ r ∷ []) ++ drop 1 waiting
taken_first whole taken [] r are first = cc
taken_first whole taken (x ∷ xs) r are first = let same : r ≡ x = cc in are ∙ (ap (λ (y : Reply). taken ++ y ∷ xs) (sym same) ∙ sym (append_assoc taken (r ∷ []) xs))
