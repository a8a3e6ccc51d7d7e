-- Worked rows: an output that a history explains, and two that none explains; and a run of sections that keep, and what none prints.
use Rattle.std.proofs.Common.{◌≡◌, ℕ, zero, suc, ◌<◌, ◌≤◌, ◌==◌, Bool, true, false, cond, IsTrue, List, [], ◌∷◌, ◌++◌, pos, refl, ap, sym, ◌∙◌, subst, append_assoc, append-nil, arith, rules}
use Rattle.std.specs.Prelude.{codes, decimal, slice_index_or}
use Rattle.std.specs.List.{list_all, list_any}
use Rattle.model_core.specs.declared.command.Command as declared_command
use Rattle.model_core.specs.declared.command.Command.TheVariants.{PutInt, Load, Store, Spawn, Argument, Join}
use Rattle.model_core.specs.declared.entry.Entry.{Entry}
use Rattle.model_core.specs.declared.entry.Entry.TheVariants.{Command, End, Cut, Queue, Seal, Wipe, Last as LastOf, Collected, Done as DoneOf, Ran}
use Rattle.model_core.specs.declared.reply.Reply.{Reply}
use Rattle.model_core.specs.declared.reply.Reply.TheVariants as reply
use Rattle.model_core.specs.declared.state.Pending.{Pending}
use Rattle.model_core.specs.declared.state.Pending.TheVariants.{Fin, Last as LastPending}
use Rattle.model_core.specs.declared.state.Sizes.{Sizes}
use Rattle.model_core.specs.declared.state.State.{State}
use Rattle.model_core.specs.Domains.{IsWithinLimits, domain_at, opening}
use Rattle.model_core.specs.Entries.{next, reply as reply_to, run_reply}
use Rattle.model_core.specs.History.{Legal, command_of, commands, is_entry_of, replies, replies_from, reply_list, state_after}
use Rattle.model_core.specs.Output.{line, output, printed}
use Rattle.model_core.proofs.Reach.ReachLemmas.{and_both, and_left, and_right}
use Rattle.judge_plain.specs.History.Explains.{Explains, IsRunOf as IsJudgedRun}
use Rattle.judge_plain.specs.History.Steps.{is_end_of}
use Rattle.model_traces.specs.Spawns.Expansion.{IsFittingScript, IsScriptRun, IsSection, is_spawn_of, is_spawned, section_at, steps_from}
use Rattle.model_traces.specs.Spawns.Hidden.{prelude}
use Rattle.model_traces.specs.Spawns.Printed.{printed_of, printed_replies}
use Rattle.check_laws.specs.Sections.Orders.{IsOrderly}
use Rattle.check_laws.specs.Sections.Printing.{MayPrintEach, is_value}
use Rattle.check_laws.proofs.OfSections.Passing.{passed_arguments}
use Rattle.check_laws.proofs.OfSections.Printing.{prints_ok}
use Rattle.camlheap_run.specs.Run.{IsRunOf}
use Rattle.check_laws.specs.Runs.Sections.{KeepsItsSections}
use Rattle.check_laws.proofs.OfRuns.Explaining.{one_run, same_rest}

abbrev sizes : Sizes
sizes = record { domains = 1; pools = 512; minor_words = 32768; classes = 6 }

-- int 0 5
abbrev script : List (List declared_command.Command)
script = (PutInt 0 (pos 5) ∷ []) ∷ []

abbrev history : List Entry
history = Command 0 (PutInt 0 (pos 5)) false ∷ End 0 ∷ []

judged : IsJudgedRun sizes script history
judged = record { legal = search rules; each_command = each_command; each_ends = each_ends }
  where
    each_command : (d : ℕ) → d < 1 → commands history d ≡ slice_index_or script d []
    each_command zero below = refl
    each_command (suc d) below = absurd (omega arith)

    each_ends : (d : ℕ) → d < 1 → IsTrue (list_any (is_end_of d) history)
    each_ends zero below = refl
    each_ends (suc d) below = absurd (omega arith)

abbrev heading : List ℕ
heading = line (codes "domain " ++ decimal 0)

explained : Explains sizes script (heading ++ line (codes "ok")) history
explained = record { run = judged; prints = append-nil (heading ++ line (codes "ok")) }

-- and the program may have made that run
made : IsRunOf sizes script history
made = (one_run sizes script history).1 judged

abbrev head : List ℕ → ℕ
head [] = 0
head (n ∷ ns) = n

-- no history explains an output without its heading
no_heading : (h : List Entry) → Explains sizes script (line (codes "ok")) h → ⊥
no_heading h x = let first : head (output sizes h) ≡ 111 = ap head x.prints in absurd (omega (arith, first))

-- What a domain that only puts integers is answered: no reply shows an integer.
abbrev puts : declared_command.Command → Bool
puts (PutInt dst v) = true
puts _ = false

abbrev not_int : Reply → Bool
not_int (reply.Int v) = false
not_int _ = true

all_both : {A : Type 0} (f : A → Bool) (xs ys : List A) → IsTrue (list_all f xs) → IsTrue (list_all f ys) → IsTrue (list_all f (xs ++ ys))
all_both f [] ys a b = b
all_both f (x ∷ xs) ys a b = and_both (f x) _ (and_left (f x) _ a) (all_both f xs ys (and_right (f x) _ a) b)

all_parts : {A : Type 0} (f : A → Bool) (xs ys : List A) → IsTrue (list_all f (xs ++ ys)) → IsTrue (list_all f xs) × IsTrue (list_all f ys)
all_parts f [] ys a = (refl, a)
all_parts f (x ∷ xs) ys a = let rest = all_parts f xs ys (and_right (f x) _ a) in (and_both (f x) _ (and_left (f x) _ a) rest.0, rest.1)

ran_shows : (q : List Pending) → IsTrue (list_all not_int (reply_list (run_reply q)))
ran_shows [] = refl
ran_shows (Fin number l r ∷ q) = refl
ran_shows (LastPending number ∷ q) = refl

put_shows : (s : State) (d : ℕ) (c : declared_command.Command) (full : Bool) → IsTrue (puts c) → IsTrue (list_all not_int (reply_list (reply_to s (Command d c full))))
put_shows s d (PutInt dst v) true is = refl
put_shows s d (PutInt dst v) false is = refl
put_shows s d c full is = let clash : false ≡ true = is in cc

module _ (d : ℕ) where
  own_shows : (s : State) (e : Entry) → IsTrue (list_all puts (command_of d e)) → IsTrue (list_all not_int (cond (is_entry_of d e) (reply_list (reply_to s e)) []))
  own_shows s (Command k c full) all = go (k == d) all
    where
      go : (b : Bool) → IsTrue (list_all puts (cond b (c ∷ []) [])) → IsTrue (list_all not_int (cond b (reply_list (reply_to s (Command k c full))) []))
      go true all = put_shows s k c full (and_left (puts c) true all)
      go false all = refl
  own_shows s (End k) all = go (k == d)
    where
      go : (b : Bool) → IsTrue (list_all not_int (cond b (reply_list (reply_to s (End k))) []))
      go true = refl
      go false = refl
  own_shows s (Ran k) all = go (k == d)
    where
      go : (b : Bool) → IsTrue (list_all not_int (cond b (reply_list (reply_to s (Ran k))) []))
      go true = ran_shows (domain_at s k).queue
      go false = refl
  own_shows s e all = refl

  shows_none : (s : State) (h : List Entry) → IsTrue (list_all puts (commands h d)) → IsTrue (list_all not_int (replies_from s h d))
  shows_none s [] all = refl
  shows_none s (e ∷ h) all =
      let parts = all_parts puts (command_of d e) (commands h d) all in
      all_both not_int (cond (is_entry_of d e) (reply_list (reply_to s e)) []) (replies_from (next s e) h d) (own_shows s e parts.0) (shows_none (next s e) h parts.1)

no_int : (rs : List Reply) → IsTrue (list_all not_int rs) → printed rs ++ [] ≡ line (codes "int 5") → ⊥
no_int [] all is = cc
no_int (reply.Int v ∷ rs) all is = let clash : false ≡ true = all in cc
no_int (reply.Done ∷ rs) all is = let first : 111 ≡ 105 = ap head is in absurd (omega (arith, first))
no_int (reply.Block l ∷ rs) all is = let first : 98 ≡ 105 = ap head is in absurd (omega (arith, first))
no_int (reply.BadType ∷ rs) all is = let first : 116 ≡ 105 = ap head is in absurd (omega (arith, first))
no_int (reply.BadIndex ∷ rs) all is = let first : 98 ≡ 105 = ap head is in absurd (omega (arith, first))
no_int (reply.Empty ∷ rs) all is = let first : 110 ≡ 105 = ap head is in absurd (omega (arith, first))
no_int (reply.Yes ∷ rs) all is = let first : 121 ≡ 105 = ap head is in absurd (omega (arith, first))
no_int (reply.No ∷ rs) all is = let first : 110 ≡ 105 = ap head is in absurd (omega (arith, first))
no_int (reply.Full ∷ rs) all is = let first : 102 ≡ 105 = ap head is in absurd (omega (arith, first))
no_int (reply.Live blocks words ∷ rs) all is = let first : 108 ≡ 105 = ap head is in absurd (omega (arith, first))
no_int (reply.Fin number l ∷ rs) all is = let first : 102 ≡ 105 = ap head is in absurd (omega (arith, first))
no_int (reply.Last number ∷ rs) all is = let first : 108 ≡ 105 = ap head is in absurd (omega (arith, first))

-- nor one in which the integer is shown as it is put: such an output is none of this program's
no_shown_put : (h : List Entry) → Explains sizes script (heading ++ line (codes "int 5")) h → ⊥
no_shown_put h x = no_int (replies sizes h 0) (shows_none 0 (opening sizes) h (subst (λ (cs : List declared_command.Command). IsTrue (list_all puts cs)) (sym (x.run.each_command 0 (omega arith))) refl))
    (same_rest heading (printed (replies sizes h 0) ++ []) (line (codes "int 5")) (sym (append_assoc heading (printed (replies sizes h 0)) []) ∙ x.prints))

-- int 1 5, spawn 1 1; argument 1
abbrev spawning : List (List declared_command.Command)
spawning = (PutInt 1 (pos 5) ∷ Spawn 1 1 ∷ []) ∷ (Argument 1 ∷ []) ∷ []

abbrev two : Sizes
two = record { domains = 2; pools = 512; minor_words = 32768; classes = 6 }

abbrev spawned : List Entry
spawned =
    Command 0 (PutInt 1 (pos 5)) false ∷ Command 0 (Store 15 9 1) false ∷ Command 0 (PutInt 14 (pos 1)) false ∷ Command 0 (Store 15 1 14) false
    ∷ Command 1 (Load 14 15 1) false ∷ Command 1 (Load 1 15 9) false ∷ Command 1 (PutInt 14 (pos 2)) false ∷ Command 1 (Store 15 1 14) false ∷ End 0 ∷ End 1 ∷ []

spawned_legal : Legal two (prelude 2 ++ spawned)
spawned_legal = search rules

spawned_run : IsScriptRun two spawning (prelude 2 ++ spawned)
spawned_run = record { behind = spawned; begins = refl; sections = sections }
  where
    sections : (d : ℕ) → d < 2 → IsSection d (is_spawned spawning d) (section_at spawning d) (steps_from (state_after (opening two) (prelude 2)) spawned d)
    sections zero below = record {
      start = [];
      middle = _;
      finish = [];
      are = refl;
      starts = refl;
      makes = (_ ∷ [], _, refl, refl, (_ ∷ _ ∷ _ ∷ [], [], refl, record { first = _; more = _; are = refl; commands_are = refl }, refl));
      finishes = refl;
    }
    sections (suc zero) below = record {
      start = _ ∷ [];
      middle = _ ∷ [];
      finish = _ ∷ _ ∷ [];
      are = refl;
      starts = record { early = []; last = _; are = refl; early_loads = tt; last_load = refl; last_answer = refl };
      makes = (_ ∷ [], [], refl, refl, refl);
      finishes = refl;
    }
    sections (suc (suc d)) below = absurd (omega (arith, below))

spawned_limits : IsWithinLimits two
spawned_limits = search rules

fitting : IsFittingScript spawning
fitting zero = (refl, ((refl, (λ is. omega (arith, is)), omega arith), tt))
fitting (suc zero) = (refl, tt)
fitting (suc (suc d)) = tt

one_spawn : (d section item : ℕ) (before behind : List declared_command.Command) → section_at spawning d ≡ before ++ Spawn section item ∷ behind → (d ≡ 0) × (section ≡ 1)
one_spawn zero section item [] behind is = cc
one_spawn zero section item (c ∷ []) behind is = (refl, cc)
one_spawn zero section item (c ∷ e ∷ []) behind is = cc
one_spawn zero section item (c ∷ e ∷ f ∷ before) behind is = cc
one_spawn (suc zero) section item [] behind is = cc
one_spawn (suc zero) section item (c ∷ []) behind is = cc
one_spawn (suc zero) section item (c ∷ e ∷ before) behind is = cc
one_spawn (suc (suc d)) section item [] behind is = cc
one_spawn (suc (suc d)) section item (c ∷ before) behind is = cc

no_join : (d dst section : ℕ) (before behind : List declared_command.Command) → section_at spawning d ≡ before ++ Join dst section ∷ behind → ⊥
no_join zero dst section [] behind is = cc
no_join zero dst section (c ∷ []) behind is = cc
no_join zero dst section (c ∷ e ∷ []) behind is = cc
no_join zero dst section (c ∷ e ∷ f ∷ before) behind is = cc
no_join (suc zero) dst section [] behind is = cc
no_join (suc zero) dst section (c ∷ []) behind is = cc
no_join (suc zero) dst section (c ∷ e ∷ before) behind is = cc
no_join (suc (suc d)) dst section [] behind is = cc
no_join (suc (suc d)) dst section (c ∷ before) behind is = cc

at_most_one : (b : Bool) → cond {A = ℕ} b 1 0 ≤ 1
at_most_one true = omega arith
at_most_one false = omega arith

orderly : IsOrderly 2 spawning
orderly = record {
  few = omega arith;
  once = λ section. (let most = at_most_one (is_spawn_of section (Spawn 1 1)) in omega (arith, most));
  inside = λ d section item before behind is. (let at = one_spawn d section item before behind is in let named = at.1 in omega (arith, named));
  later = λ d section item before behind is. (let at = one_spawn d section item before behind is in let first = at.0 in let named = at.1 in omega (arith, first, named));
  own = λ d dst section before behind is. absurd (no_join d dst section before behind is);
}

-- a run in which the argument answers what the spawn passed
kept : KeepsItsSections two spawning (prelude 2 ++ spawned)
kept = record {
  run = spawned_run;
  orderly = orderly;
  passed = λ section parent item within below spawn. passed_arguments two spawning (prelude 2 ++ spawned) spawned_limits spawned_legal fitting orderly spawned_run section within parent item below spawn;
  prints = prints_ok two spawning (prelude 2 ++ spawned) spawned_limits spawned_legal fitting spawned_run;
}

kept_prints : printed_replies two (prelude 2 ++ spawned) 1 ≡ reply.Int (pos 5) ∷ []
kept_prints = refl

-- and in none does it answer `type`
no_type : (h : List Entry) (k : KeepsItsSections two spawning h) → printed_of 1 (steps_from (state_after (opening two) (prelude 2)) k.run.behind 1) ≡ reply.BadType ∷ [] → ⊥
no_type h k is = value _ (k.prints 1 (omega arith)) is
  where
    value : (rs : List Reply) → MayPrintEach (Argument 1 ∷ []) rs → rs ≡ reply.BadType ∷ [] → ⊥
    value rs (r, more, are, may, rest) type =
        let same : r ≡ reply.BadType = cc in
        let clash : false ≡ true = subst (λ (x : Reply). IsTrue (is_value x)) same may in
        cc
