-- What each call adds to a domain's front.
use Rattle.std.proofs.Common.{◌≡◌, ◌∙◌, ℕ, Bool, true, false, not, IsTrue, List, [], ◌∷◌, ◌++◌, map, refl, sym, ap, subst, Some, None, append-nil, append_assoc, eq-eqb}
use Rattle.std.proofs.lemmas.List.{append_cancel_left}
use Rattle.std.specs.Prelude.{cond, ◌==◌, ◌||◌}
use Rattle.model_core.specs.declared.command.Command as model
use Rattle.model_core.specs.declared.entry.Entry.{Entry}
use Rattle.model_core.specs.declared.entry.Entry.TheVariants.{Command, End, Ran}
use Rattle.model_core.specs.declared.reply.Reply.{Reply}
use Rattle.model_core.specs.declared.reply.Applied.{Applied}
use Rattle.model_core.specs.declared.reply.Applied.TheVariants.{Replied, Silent}
use Rattle.model_core.specs.declared.state.Sizes.{Sizes}
use Rattle.model_core.specs.declared.state.State.{State}
use Rattle.model_core.specs.Domains.{opening}
use Rattle.model_core.specs.Entries.{next, reply}
use Rattle.model_core.specs.Fronts.{Answers, IsFrontOf, NoneOf}
use Rattle.model_core.specs.History.{IsPrefix, command_of, commands, is_entry_of, reply_list, state_after}
use Rattle.model_core.proofs.Graphs.GraphLemmas.{and_parts}
use Rattle.model_core.proofs.Histories.HistoryLemmas.{commands-append, commands-others, commands-push}
use Rattle.heap_rule.specs.declared.config.Config.{Config}
use Rattle.heap_rule.specs.Limits.{sizes_in}
use Rattle.run_turns.specs.Handed.{OnlyRuns}
use Rattle.run_turns.specs.Kept.{answers, finalised, is_command_of, is_run_of, replies_to}
use Rattle.run_turns.specs.Runs.{AddsRan, Appended, wanting}
use Rattle.run_turns.specs.Runs.Stretches.{ByOthers, ByCommand, ByFinaliser, ByEnd, BySection}
use Rattle.run_turns.proofs.Handed.{finalised_commands, performed_commands}
use Rattle.run_turns.proofs.Adding.{adds_nothing, entry_picked, look_adds, now_adds as now_waits, runs_replies, submit_adds, taken_first, turn_adds}
use Rattle.run_turns.specs.declared.supply.Supply.TheVariants.{Closed}
use Rattle.model_core.proofs.Histories.FrontLemmas.{front_whole}
use Rattle.run_turns.proofs.AtOnce.{has_waited}
use Rattle.run_turns.proofs.Kept.{picked_front, picks_commands, picks_runs, replies_to-append}
use Rattle.run_turns.proofs.Turning.{stood}
use Rattle.run_ledgers.specs.Ledgers.{Adds, CommandsAdd, FinalisersAdd, LedgersFollow, LedgersStand, NowAdds, OnlyTakesChange, RanTaken, RanWaits, TurnsAdd, all_ran, answers_in, commands_in, no_ledger, one_made}
use Rattle.run_ledgers.specs.Ledgers.IsCalled.{AtOnce, ByClose, ByHand, ByLook, ByTurn}
use Rattle.run_ledgers.specs.Ledgers.Tells.{TellsNothing, TellsRan, TellsReply}

others_commands : (d : ℕ) (old between : List Entry) → NoneOf d between → commands (old ++ between) d ≡ commands old d
others_commands d old between none = commands-append old between d ∙ (ap (λ t. commands old d ++ t) (commands-others between d none) ∙ append-nil (commands old d))

entry_commands : (z : Sizes) (d : ℕ) (old new : List Entry) (e : Entry) (a : Applied) → Appended z d old new e a → commands new d ≡ commands old d ++ command_of d e
entry_commands z d old new e a x = ap (λ h. commands h d) x.appends ∙ (commands-push (old ++ x.between) e d ∙ ap (λ t. t ++ command_of d e) (others_commands d old x.between x.others))

grown : (z : Sizes) (d : ℕ) (old new : List Entry) (e : Entry) (a : Applied) → Appended z d old new e a → IsPrefix old new
grown z d old new e a x = record { rest = x.between ++ e ∷ []; appends = x.appends ∙ append_assoc old x.between (e ∷ []) }

own : {A : Type 0} (d : ℕ) (x : A) → cond (d == d) (x ∷ []) [] ≡ x ∷ []
own d x = ap (λ (b : Bool). cond b (x ∷ []) []) (eq-eqb d d refl)

-- entries of others add nothing
adds_none : (z : Sizes) (d : ℕ) (old new : List Entry) → IsFrontOf d new old → Adds z d old new no_ledger
adds_none z d old new f = record {
  grows = record { rest = f.rest; appends = f.appends };
  commands_are = ap (λ (h : List Entry). commands h d) f.appends ∙ (others_commands d old f.rest f.others ∙ sym (append-nil (commands old d)));
  answers_are = picked_front d (is_command_of d) (picks_commands d) z new old f ∙ sym (append-nil (answers z old d));
  ran_are = picked_front d (is_run_of d) (picks_runs d) z new old f ∙ sym (append-nil (finalised z old d));
}

adds_command : (z : Sizes) (d : ℕ) (old new : List Entry) (c : model.Command) (full : Bool) (r : Reply) → Appended z d old new (Command d c full) (Replied r) → Adds z d old new (one_made c r)
adds_command z d old new c full r x = record {
  grows = grown z d old new (Command d c full) (Replied r) x;
  commands_are = entry_commands z d old new (Command d c full) (Replied r) x ∙ ap (λ t. commands old d ++ t) (own d c);
  answers_are = entry_picked d (is_command_of d) (picks_commands d) z old new (Command d c full) (Replied r) x ∙ ap (λ t. answers z old d ++ t) (own d r);
  ran_are = entry_picked d (is_run_of d) (picks_runs d) z old new (Command d c full) (Replied r) x;
}

adds_run : (z : Sizes) (d : ℕ) (old new : List Entry) (r : Reply) → Appended z d old new (Ran d) (Replied r) → Adds z d old new (all_ran (r ∷ []))
adds_run z d old new r x = record {
  grows = grown z d old new (Ran d) (Replied r) x;
  commands_are = entry_commands z d old new (Ran d) (Replied r) x;
  answers_are = entry_picked d (is_command_of d) (picks_commands d) z old new (Ran d) (Replied r) x;
  ran_are = entry_picked d (is_run_of d) (picks_runs d) z old new (Ran d) (Replied r) x ∙ ap (λ t. finalised z old d ++ t) (own d r);
}

adds_end : (z : Sizes) (d : ℕ) (old new : List Entry) → Appended z d old new (End d) Silent → Adds z d old new no_ledger
adds_end z d old new x = record {
  grows = grown z d old new (End d) Silent x;
  commands_are = entry_commands z d old new (End d) Silent x;
  answers_are = entry_picked d (is_command_of d) (picks_commands d) z old new (End d) Silent x;
  ran_are = entry_picked d (is_run_of d) (picks_runs d) z old new (End d) Silent x;
}

-- a turn
pub turns_add : TurnsAdd
turns_add z old new plain (ByOthers m) = record { ledger = no_ledger; adds = adds_none z old.token.view.own.number old.token.view.seen.front new.token.view.seen.front m.front; told = TellsNothing refl m.next m.replies m.ran }
turns_add z old new plain (ByCommand m) = record {
  ledger = one_made m.command m.reply;
  adds = adds_command z old.token.view.own.number old.token.view.seen.front new.token.view.seen.front m.command m.full m.reply m.front;
  told = TellsReply m.command m.reply refl m.here m.next m.replies m.ran;
}
turns_add z old new plain (ByFinaliser m) = record {
  ledger = all_ran (m.reply ∷ []);
  adds = adds_run z old.token.view.own.number old.token.view.seen.front new.token.view.seen.front m.reply m.front;
  told = TellsRan m.reply refl m.next m.replies m.ran;
}
turns_add z old new plain (ByEnd m) = record { ledger = no_ledger; adds = adds_end z old.token.view.own.number old.token.view.seen.front new.token.view.seen.front m.front; told = TellsNothing refl m.next m.replies m.ran }
turns_add z old new plain (BySection m) = absurd (plain m.sectioned)

-- among others' entries and runs no command is answered
one_unanswered : (d : ℕ) (s : State) (e : Entry) → IsTrue (not (is_entry_of d e) || is_run_of d e) → cond (is_command_of d e) (reply_list (reply s e)) [] ≡ []
one_unanswered d s (Command k c full) runs = by (k == d) runs
  where
    by : (b : Bool) → IsTrue (not b || false) → cond b (reply_list (reply s (Command k c full))) [] ≡ []
    by true is = cc
    by false is = refl
one_unanswered d s e runs = refl

runs_unanswered : (d : ℕ) (s : State) (h : List Entry) → OnlyRuns d h → replies_to (is_command_of d) s h ≡ []
runs_unanswered d s [] runs = refl
runs_unanswered d s (e ∷ h) runs =
    let parts = and_parts (not (is_entry_of d e) || is_run_of d e) _ runs in
    (λ i. one_unanswered d s e parts.0 i ++ runs_unanswered d (next s e) h parts.1 i)

-- a domain that makes no command
pub finalisers_add : FinalisersAdd
finalisers_add z d old new ran f = record {
  grows = record { rest = f.rest; appends = f.appends };
  commands_are = finalised_commands z d old new ran f ∙ sym (append-nil (commands old d));
  answers_are = ap (λ (h : List Entry). answers z h d) f.appends ∙ (replies_to-append (is_command_of d) (opening z) old f.rest ∙ ap (λ (rs : List Reply). answers z old d ++ rs) (runs_unanswered d (state_after (opening z) old) f.rest f.runs));
  ran_are = ap (λ (h : List Entry). finalised z h d) f.appends ∙ (replies_to-append (is_run_of d) (opening z) old f.rest ∙ ap (λ (rs : List Reply). finalised z old d ++ rs) (runs_replies d (state_after (opening z) old) f.rest f.runs ∙ f.ran_are));
}

-- a command that is made behind the finalisers that wait
pub commands_add : CommandsAdd
commands_add z d old new c ran r p =
    let before = finalisers_add z d old p.before ran p.finalised in
    record {
      grows = record { rest = p.finalised.rest ++ Command d c p.full ∷ []; appends = p.appends ∙ (ap (λ (h : List Entry). h ++ Command d c p.full ∷ []) p.finalised.appends ∙ append_assoc old p.finalised.rest (Command d c p.full ∷ [])) };
      commands_are = performed_commands z d old new c ran r p;
      answers_are = ap (λ (h : List Entry). answers z h d) p.appends ∙ (replies_to-append (is_command_of d) (opening z) p.before (Command d c p.full ∷ [])
          ∙ (λ i. (before.answers_are ∙ append-nil (answers z old d)) i ++ (append-nil (cond (d == d) (reply_list (reply (state_after (opening z) p.before) (Command d c p.full))) []) ∙ (ap (λ (a : Applied). cond (d == d) (reply_list a) []) p.replies ∙ own d r)) i));
      ran_are = ap (λ (h : List Entry). finalised z h d) p.appends ∙ (replies_to-append (is_run_of d) (opening z) p.before (Command d c p.full ∷ []) ∙ (append-nil (finalised z p.before d) ∙ before.ran_are));
    }

map_both : {A B : Type 0} (f : A → B) (xs ys : List A) → map f (xs ++ ys) ≡ map f xs ++ map f ys
map_both f [] ys = refl
map_both f (x ∷ xs) ys = ap (λ l. f x ∷ l) (map_both f xs ys)

pub ledgers_follow : LedgersFollow
ledgers_follow z d old new l m is adds = record {
  commands_are = adds.commands_are ∙ (ap (λ t. t ++ commands_in m) is.commands_are ∙ sym (map_both (λ (x : model.Command × Reply). x.0) l.made m.made));
  answers_are = adds.answers_are ∙ (ap (λ t. t ++ answers_in m) is.answers_are ∙ sym (map_both (λ (x : model.Command × Reply). x.1) l.made m.made));
  ran_are = adds.ran_are ∙ ap (λ t. t ++ m.ran) is.ran_are;
}

pub ledgers_stand : LedgersStand
ledgers_stand z d history front l is f = record {
  commands_are = ap (λ (h : List Entry). commands h d) f.appends ∙ (others_commands d front f.rest f.others ∙ is.commands_are);
  answers_are = picked_front d (is_command_of d) (picks_commands d) z history front f ∙ is.answers_are;
  ran_are = picked_front d (is_run_of d) (picks_runs d) z history front f ∙ is.ran_are;
}

-- a command that is made at once, or put off
pub now_adds : NowAdds
now_adds h old new c (Some reply) here m =
    let z : Sizes = sizes_in h.config in
    let d : ℕ = old.token.view.own.number in
    let front : List Entry = old.token.view.seen.front in
    let st = stood h (wanting old 0).token new.token c false reply m.made.1.stands in
    let a : Answers z d front new.token.view.seen.front (Command d c st.0) (Replied reply) = subst (λ (k : Config). Answers (sizes_in k) d front new.token.view.seen.front (Command d c st.0) (Replied reply)) here.1 st.1 in
    adds_command z d front new.token.view.seen.front c st.0 reply (record { between = a.between; others = a.others; appends = a.appends; legal = a.legal; replies = a.replies })
now_adds h old new c None here off = adds_none (sizes_in h.config) old.token.view.own.number old.token.view.seen.front new.token.view.seen.front (has_waited h old new c off).front

-- what a call adds waits behind what did
pub ran_waits : RanWaits
ran_waits z old new l m taken are adds ran =
    let same : m.ran ≡ ran.more = append_cancel_left (finalised z old.token.view.seen.front old.token.view.own.number) m.ran ran.more (sym adds.ran_are ∙ ran.told) in
    (λ i. are i ++ same i) ∙ (append_assoc taken old.ran ran.more ∙ ap (λ (rs : List Reply). taken ++ rs) (sym ran.waits))

-- and what is taken was the oldest that did
pub ran_taken : RanTaken
ran_taken r l taken reply are first = taken_first l.ran taken r.ran reply are first

-- no call but `take_ran` changes what waits but by adding at its end: a body that forgets it, or moves it, is refused
pub only_takes_change : OnlyTakesChange
only_takes_change h old new here handed (ByTurn goes stretch) = turn_adds (sizes_in h.config) old new handed goes stretch
only_takes_change h old new here handed (AtOnce c result answers) = now_waits h old new c result here answers
only_takes_change h old new here handed (ByHand c is) = subst (AddsRan (sizes_in h.config) old) (sym is) (submit_adds (sizes_in h.config) old c)
only_takes_change h old new here handed (ByLook looked) = look_adds (sizes_in h.config) old new looked
only_takes_change h old new here handed (ByClose is) = subst (AddsRan (sizes_in h.config) old) (sym is) (adds_nothing (sizes_in h.config) old (record old { supply = Closed }) refl refl (front_whole old.token.view.own.number old.token.view.seen.front))
