-- What a player was told stays what its front has, whatever it does next.
use Rattle.std.specs.Prelude.{IfErr, IfOk, IfSome}
use Rattle.std.proofs.Common.{◌≡◌, ◌≢◌, ◌∙◌, ℕ, ◌+◌, ◌<◌, ◌≤◌, List, [], ◌∷◌, ◌++◌, length, zero, suc, drop, Option, Some, None, slice_get, Result, Ok, Err, refl, sym, ap, subst, append-nil, append_assoc, arith}
use Rattle.model_core.specs.declared.command.Command as model
use Rattle.model_core.specs.declared.entry.Entry.{Entry}
use Rattle.model_core.specs.declared.reply.Reply.{Reply}
use Rattle.model_core.specs.declared.state.Sizes.{Sizes}
use Rattle.heap_rule.specs.Limits.{sizes_in}
use Rattle.heap_rule.specs.Token.{SharedHeap}
use Rattle.run_turns.specs.declared.supply.Supply.{Supply}
use Rattle.run_turns.specs.declared.supply.Supply.TheVariants.{Closed, Listed, Open, Section}
use Rattle.model_core.specs.History.{commands}
use Rattle.run_turns.specs.Kept.{answers, finalised}
use Rattle.run_turns.specs.Runs.{AddsRan, GoesOn, HasLooked, IsHandedIn, RunView, Stretches, answer_of, first_reply, ran_with, said_with, wanting}
use Rattle.run_turns.specs.Singly.Driving.{Answered, Awaits}
use Rattle.run_turns.proofs.Adding.{finalised_adds, performed_adds, taken_first}
use Rattle.run_seats.specs.Shared.Sharing.{MayClose, SharedView, closed_of, taken_of}
use Rattle.run_ledgers.specs.Ledgers.{Adds, IsLedger, Ledger, Tells, all_ran, made_behind, one_made}
use Rattle.run_ledgers.specs.Ledgers.Tells.{TellsNothing, TellsRan, TellsReply}
use Rattle.run_ledgers.proofs.Adding.{commands_add, finalisers_add, ledgers_follow, turns_add}
use Rattle.run_plays.specs.declared.player.Called.{Called}
use Rattle.run_plays.specs.declared.player.Called.TheVariants.{Made, Waits, Refused}
use Rattle.run_plays.specs.Playing.{Awaited, Calls, IsAt, IsPlayed, PlayerView, Takes}
use Rattle.run_plays.specs.Plays.{IsNew, seat_of}

-- the player with another run, and with one more command in its log
abbrev pub with_run : PlayerView → RunView → PlayerView
with_run p r = record p { shared = record p.shared { run = r } }

abbrev pub noting : PlayerView → RunView → model.Command → Reply → PlayerView
noting p r c a = record p { shared = record p.shared { run = r }; made = p.made ++ (c, a) ∷ []; awaits = None }

abbrev pub awaiting : PlayerView → RunView → model.Command → PlayerView
awaiting p r c = record p { shared = record p.shared { run = r }; awaits = Some c }

-- a log behind which a call's ledger comes: its commands stand behind those before, and of its finalisers each waits behind those that waited
grown : (z : Sizes) (d n : ℕ) (old new : List Entry) (made : List (model.Command × Reply)) (told waiting ran : List Reply) (m : Ledger) → n ≡ d → ran ≡ waiting ++ m.ran → IsLedger z d old (record { made = made; ran = told ++ waiting }) → Adds z d old new m → IsLedger z n new (record { made = made ++ m.made; ran = told ++ ran })
grown z d n old new made told waiting ran m same is l adds =
    subst (λ (k : ℕ). IsLedger z k new (record { made = made ++ m.made; ran = told ++ ran })) (sym same)
    (subst (λ (rs : List Reply). IsLedger z d new (record { made = made ++ m.made; ran = rs })) (append_assoc told waiting m.ran ∙ ap (λ (rs : List Reply). told ++ rs) (sym is))
    (ledgers_follow z d old new (record { made = made; ran = told ++ waiting }) m l adds))

-- the same without a command
grown_none : (z : Sizes) (d n : ℕ) (old new : List Entry) (made : List (model.Command × Reply)) (told waiting ran more : List Reply) → n ≡ d → ran ≡ waiting ++ more → IsLedger z d old (record { made = made; ran = told ++ waiting }) → Adds z d old new (all_ran more) → IsLedger z n new (record { made = made; ran = told ++ ran })
grown_none z d n old new made told waiting ran more same is l adds =
    subst (λ (cs : List (model.Command × Reply)). IsLedger z n new (record { made = cs; ran = told ++ ran })) (append-nil made)
    (grown z d n old new made told waiting ran (all_ran more) same is l adds)

-- commands are handed in where more may come, and where none come any more
open_handed : (s : Supply) → s ≡ Open → IsHandedIn s
open_handed s is = subst IsHandedIn (sym is) tt

closed_handed : (s : Supply) → s ≡ Closed → IsHandedIn s
closed_handed s is = subst IsHandedIn (sym is) tt

no_section : (s : Supply) → IsHandedIn s → s ≢ Section
no_section s handed is = subst IsHandedIn is handed

-- the command was made
pub called : (p : PlayerView) (c : model.Command) (a : Reply) (new : RunView) → IsPlayed p → Answered p.shared.heap p.shared.run.token.view c a new → AddsRan (sizes_in p.shared.heap.config) p.shared.run new → IsPlayed (noting p new c a)
called p c a new is made adds =
    let z : Sizes = sizes_in p.shared.heap.config in
    let d : ℕ = p.shared.run.token.view.own.number in
    record {
      ledger = grown z d new.token.view.own.number p.shared.run.token.view.seen.front new.token.view.seen.front p.made p.told p.shared.run.ran new.ran (made_behind made.ran c a) made.number
          (performed_adds z p.shared.run new c made.ran a made.performed adds) is.ledger
          (commands_add z d p.shared.run.token.view.seen.front new.token.view.seen.front c made.ran a made.performed);
      handed = open_handed new.supply made.more;
      at = made.done;
    }

-- or it is awaited
pub waits : (p : PlayerView) (c : model.Command) (new : RunView) → IsPlayed p → Awaits p.shared.heap p.shared.run.token.view c new → AddsRan (sizes_in p.shared.heap.config) p.shared.run new → IsPlayed (awaiting p new c)
waits p c new is w adds =
    let z : Sizes = sizes_in p.shared.heap.config in
    let d : ℕ = p.shared.run.token.view.own.number in
    record {
      ledger = grown_none z d new.token.view.own.number p.shared.run.token.view.seen.front new.token.view.seen.front p.made p.told p.shared.run.ran new.ran w.ran w.number
          (finalised_adds z p.shared.run new w.ran w.finalised adds) is.ledger
          (finalisers_add z d p.shared.run.token.view.seen.front new.token.view.seen.front w.ran w.finalised);
      handed = open_handed new.supply w.more;
      at = (w.more, (w.commands, (w.next, w.replies)));
    }

-- what a turn came to, where a command is awaited or none is
pub data TurnCame (p : PlayerView) (new : RunView) : Type 0 where
  TurnMade : (c : model.Command) (a : Reply) → p.awaits ≡ Some c → answer_of new ≡ Some a → IsPlayed (noting p new c a) → TurnCame p new
  TurnStill : (c : model.Command) → p.awaits ≡ Some c → answer_of new ≡ None → IsPlayed (with_run p new) → TurnCame p new
  TurnIdle : p.awaits ≡ None → IsPlayed (with_run p new) → TurnCame p new

past_end : {A : Type 0} (xs : List A) (n : ℕ) (x : A) → n ≡ length xs → slice_get xs n ≡ Some x → ⊥
past_end [] n x is at = cc
past_end (y ∷ ys) zero x is at = absurd (omega (arith, is))
past_end (y ∷ ys) (suc n) x is at = past_end ys n x (let m = is in omega (arith, m)) at

-- where commands are handed in a finaliser's reply is kept apart from theirs
said_apart : (s : Supply) (said : List Reply) (r : Reply) → IsHandedIn s → said_with s said r ≡ said
said_apart Listed said r handed = absurd handed
said_apart Section said r handed = absurd handed
said_apart Open said r handed = refl
said_apart Closed said r handed = refl

ran_apart : (s : Supply) (ran : List Reply) (r : Reply) → IsHandedIn s → ran_with s ran r ≡ ran ++ r ∷ []
ran_apart Listed ran r handed = absurd handed
ran_apart Section ran r handed = absurd handed
ran_apart Open ran r handed = refl
ran_apart Closed ran r handed = refl

first_of : (s : Supply) (a : Reply) (replies : List Reply) → s ≡ Open → replies ≡ a ∷ [] → first_reply s replies ≡ Some a
first_of s a replies more are = ap (λ (t : Supply). first_reply t replies) more ∙ ap (λ (rs : List Reply). slice_get rs 0) are

none_of : (s : Supply) (replies : List Reply) → s ≡ Open → replies ≡ [] → first_reply s replies ≡ None
none_of s replies more are = ap (λ (t : Supply). first_reply t replies) more ∙ ap (λ (rs : List Reply). slice_get rs 0) are

module _ (p : PlayerView) (new : RunView) (is : IsPlayed p) (g : GoesOn p.shared.run new) where
  abbrev z : Sizes
  z = sizes_in p.shared.heap.config

  abbrev d : ℕ
  d = p.shared.run.token.view.own.number

  abbrev before : List Entry
  before = p.shared.run.token.view.seen.front

  abbrev after : List Entry
  after = new.token.view.seen.front

  handed : IsHandedIn new.supply
  handed = subst IsHandedIn (sym g.supply) is.handed

  -- the log where the turn made no command
  calm : (ran : List Reply) → new.ran ≡ p.shared.run.ran ++ ran → Adds z d before after (all_ran ran) → IsLedger z new.token.view.own.number after (record { made = p.made; ran = p.told ++ new.ran })
  calm ran behind adds = grown_none z d new.token.view.own.number before after p.made p.told p.shared.run.ran new.ran ran g.number behind is.ledger adds

  -- a turn that made none where none is awaited
  idle : p.awaits ≡ None → IsAt None p.shared.run → (ran : List Reply) → new.next ≡ p.shared.run.next → new.ran ≡ p.shared.run.ran ++ ran → Adds z d before after (all_ran ran) → TurnCame p new
  idle none at ran next behind adds = TurnIdle none (record {
    ledger = calm ran behind adds;
    handed = handed;
    at = subst (λ (w : Option model.Command). IsAt w new) (sym none) (next ∙ (at ∙ sym (ap (λ (cs : List model.Command). length cs) g.commands)));
  })

  -- and where one is awaited
  still : (c : model.Command) → p.awaits ≡ Some c → IsAt (Some c) p.shared.run → (ran : List Reply) → new.next ≡ p.shared.run.next → new.replies ≡ p.shared.run.replies → new.ran ≡ p.shared.run.ran ++ ran → Adds z d before after (all_ran ran) → TurnCame p new
  still c some at ran next replies behind adds = TurnStill c some (none_of new.supply new.replies (g.supply ∙ at.0) (replies ∙ at.1.1.1)) (record {
    ledger = calm ran behind adds;
    handed = handed;
    at = subst (λ (w : Option model.Command). IsAt w new) (sym some) (g.supply ∙ at.0, (g.commands ∙ at.1.0, (next ∙ at.1.1.0, replies ∙ at.1.1.1)));
  })

  -- one that made it
  made : (c : model.Command) → p.awaits ≡ Some c → IsAt (Some c) p.shared.run → (b : model.Command) (a : Reply) → slice_get p.shared.run.commands p.shared.run.next ≡ Some b → new.next ≡ p.shared.run.next + 1 → new.replies ≡ p.shared.run.replies ++ a ∷ [] → new.ran ≡ p.shared.run.ran → Adds z d before after (one_made b a) → TurnCame p new
  made c some at b a here next replies ran adds =
      let first : Some c ≡ Some b = sym (λ i. slice_get (at.1.0 i) (at.1.1.0 i)) ∙ here in
      let same : b ≡ c = cc in
      TurnMade c a some (first_of new.supply a new.replies (g.supply ∙ at.0) (replies ∙ ap (λ (rs : List Reply). rs ++ a ∷ []) at.1.1.1)) (record {
        ledger = grown z d new.token.view.own.number before after p.made p.told p.shared.run.ran new.ran (one_made c a) g.number (ran ∙ sym (append-nil p.shared.run.ran)) is.ledger (subst (λ (x : model.Command). Adds z d before after (one_made x a)) same adds);
        handed = handed;
        at = let n = next in let m = at.1.1.0 in let l = ap (λ (cs : List model.Command). length cs) (g.commands ∙ at.1.0) in omega (arith, n, m, l);
      })

  by : (w : Option model.Command) → p.awaits ≡ w → IsAt w p.shared.run → (l : Ledger) → Adds z d before after l → Tells p.shared.run new l → TurnCame p new
  by None none at l adds (TellsNothing is_none next replies ran) = idle none at [] next (ran ∙ sym (append-nil p.shared.run.ran)) (subst (Adds z d before after) is_none adds)
  by None none at l adds (TellsReply b a is_one here next replies ran) = absurd (past_end p.shared.run.commands p.shared.run.next b at here)
  by None none at l adds (TellsRan a is_ran next replies ran) = idle none at (a ∷ []) next (ran ∙ ran_apart p.shared.run.supply p.shared.run.ran a is.handed) (subst (Adds z d before after) is_ran adds)
  by (Some c) some at l adds (TellsNothing is_none next replies ran) = still c some at [] next replies (ran ∙ sym (append-nil p.shared.run.ran)) (subst (Adds z d before after) is_none adds)
  by (Some c) some at l adds (TellsReply b a is_one here next replies ran) = made c some at b a here next replies ran (subst (Adds z d before after) is_one adds)
  by (Some c) some at l adds (TellsRan a is_ran next replies ran) = still c some at (a ∷ []) next (replies ∙ said_apart p.shared.run.supply p.shared.run.replies a is.handed) (ran ∙ ran_apart p.shared.run.supply p.shared.run.ran a is.handed) (subst (Adds z d before after) is_ran adds)

  -- a turn
  pub turned : Stretches z p.shared.run new → TurnCame p new
  turned s = let t = turns_add z p.shared.run new (no_section p.shared.run.supply is.handed) s in by p.awaits refl is.at t.ledger t.adds t.told

-- a look leaves all as it is
pub looked : (p : PlayerView) (new : RunView) → IsPlayed p → HasLooked p.shared.run new → IsPlayed (with_run p new)
looked p new is l = subst (λ (r : RunView). IsPlayed (with_run p r)) (sym l.run) (record { ledger = is.ledger; handed = is.handed; at = at_still p.awaits is.at })
  where
    at_still : (w : Option model.Command) → IsAt w p.shared.run → IsAt w (wanting p.shared.run l.found)
    at_still None at = at
    at_still (Some c) at = at

-- so does the end of commands
pub shut : (p : PlayerView) → IsPlayed p → MayClose p.shared → IsPlayed (with_run p (record p.shared.run { supply = Closed }))
shut p is may = record { ledger = is.ledger; handed = tt; at = at_shut p.awaits is.at }
  where
    at_shut : (w : Option model.Command) → IsAt w p.shared.run → IsAt w (record p.shared.run { supply = Closed })
    at_shut None at = at
    at_shut (Some c) at = absurd (let d = may.done in let n = at.1.1.0 in let l = ap (λ (cs : List model.Command). length cs) at.1.0 in omega (arith, d, n, l))

-- the oldest finaliser is taken
pub taken : (p : PlayerView) (a : Reply) → IsPlayed p → Some a ≡ slice_get p.shared.run.ran 0 → IsPlayed (record p { shared = record p.shared { run = record p.shared.run { ran = drop 1 p.shared.run.ran } }; told = p.told ++ a ∷ [] })
taken p a is first = record {
  ledger = record { commands_are = is.ledger.commands_are; answers_are = is.ledger.answers_are; ran_are = taken_first (finalised (sizes_in p.shared.heap.config) p.shared.run.token.view.seen.front p.shared.run.token.view.own.number) p.told p.shared.run.ran a is.ledger.ran_are first };
  handed = is.handed;
  at = at_taken p.awaits is.at;
}
  where
    at_taken : (w : Option model.Command) → IsAt w p.shared.run → IsAt w (record p.shared.run { ran = drop 1 p.shared.run.ran })
    at_taken None at = at
    at_taken (Some c) at = at

-- a domain that has made no entry has an empty log
pub begins : (s : SharedView) → IsNew s → IsPlayed (record { shared = s; made = []; told = []; awaits = None })
begins s is = record {
  ledger = record {
    commands_are = ap (λ (h : List Entry). commands h s.run.token.view.own.number) is.front;
    answers_are = ap (λ (h : List Entry). answers (sizes_in s.heap.config) h s.run.token.view.own.number) is.front;
    ran_are = ap (λ (h : List Entry). finalised (sizes_in s.heap.config) h s.run.token.view.own.number) is.front ∙ sym is.ran;
  };
  handed = open_handed s.run.supply is.more;
  at = is.next ∙ sym (ap (λ (cs : List model.Command). length cs) is.commands);
}

-- the same of a player whose heap and log are told by equations
told_as : (p : PlayerView) (s : SharedView) (made log : List (model.Command × Reply)) (awaits : Option model.Command) → s.heap ≡ p.shared.heap → log ≡ made → IsPlayed (record p { shared = record p.shared { run = s.run }; made = made; awaits = awaits }) → IsPlayed (record p { shared = s; made = log; awaits = awaits })
told_as p s made log awaits heap is played = subst (λ (w : SharedHeap × List (model.Command × Reply)). IsPlayed (record { shared = record { heap = w.0; run = s.run }; made = w.1; told = p.told; awaits = awaits })) (λ i. (sym heap i, sym is i)) played

pub called_as : (p : PlayerView) (c : model.Command) (a : Reply) (s : SharedView) (log : List (model.Command × Reply)) → IsPlayed p → s.heap ≡ p.shared.heap → log ≡ p.made ++ (c, a) ∷ [] → Answered p.shared.heap p.shared.run.token.view c a s.run → AddsRan (sizes_in p.shared.heap.config) p.shared.run s.run → IsPlayed (record { shared = s; made = log; told = p.told; awaits = None })
called_as p c a s log is heap same made adds = told_as p s (p.made ++ (c, a) ∷ []) log None heap same (called p c a s.run is made adds)

pub waits_as : (p : PlayerView) (c : model.Command) (s : SharedView) (log : List (model.Command × Reply)) → IsPlayed p → s.heap ≡ p.shared.heap → log ≡ p.made → Awaits p.shared.heap p.shared.run.token.view c s.run → AddsRan (sizes_in p.shared.heap.config) p.shared.run s.run → IsPlayed (record { shared = s; made = log; told = p.told; awaits = Some c })
waits_as p c s log is heap same w adds = told_as p s p.made log (Some c) heap same (waits p c s.run is w adds)

-- where no command was awaited
pub turned_idle : (p : PlayerView) (s : SharedView) (log : List (model.Command × Reply)) → IsPlayed p → s.heap ≡ p.shared.heap → log ≡ p.made → GoesOn p.shared.run s.run → Stretches (sizes_in p.shared.heap.config) p.shared.run s.run → p.awaits ≡ None → IsPlayed (record { shared = s; made = log; told = p.told; awaits = p.awaits })
turned_idle p s log is heap same g st none = by (turned p s.run is g st)
  where
    by : TurnCame p s.run → IsPlayed (record { shared = s; made = log; told = p.told; awaits = p.awaits })
    by (TurnMade c a some answer played) = absurd (let both = sym some ∙ none in cc)
    by (TurnStill c some answer played) = absurd (let both = sym some ∙ none in cc)
    by (TurnIdle is_none played) = told_as p s p.made log p.awaits heap same played

-- where it is awaited still
pub turned_still : (p : PlayerView) (c : model.Command) (s : SharedView) (log : List (model.Command × Reply)) → IsPlayed p → s.heap ≡ p.shared.heap → log ≡ p.made → GoesOn p.shared.run s.run → Stretches (sizes_in p.shared.heap.config) p.shared.run s.run → p.awaits ≡ Some c → None ≡ answer_of s.run → IsPlayed (record { shared = s; made = log; told = p.told; awaits = p.awaits })
turned_still p c s log is heap same g st awaited none = by (turned p s.run is g st)
  where
    by : TurnCame p s.run → IsPlayed (record { shared = s; made = log; told = p.told; awaits = p.awaits })
    by (TurnMade b a some answer played) = absurd (let both = none ∙ answer in cc)
    by (TurnStill b some answer played) = told_as p s p.made log p.awaits heap same played
    by (TurnIdle is_none played) = absurd (let both = sym awaited ∙ is_none in cc)

-- and where it was made
pub turned_made : (p : PlayerView) (c : model.Command) (a : Reply) (s : SharedView) (log : List (model.Command × Reply)) → IsPlayed p → s.heap ≡ p.shared.heap → log ≡ p.made ++ (c, a) ∷ [] → GoesOn p.shared.run s.run → Stretches (sizes_in p.shared.heap.config) p.shared.run s.run → p.awaits ≡ Some c → Some a ≡ answer_of s.run → IsPlayed (record { shared = s; made = log; told = p.told; awaits = None })
turned_made p c a s log is heap same g st awaited answered = by (turned p s.run is g st)
  where
    by : TurnCame p s.run → IsPlayed (record { shared = s; made = log; told = p.told; awaits = None })
    by (TurnMade b r some answer played) =
        let commands_are : Some b ≡ Some c = sym some ∙ awaited in
        let replies_are : Some r ≡ Some a = sym answer ∙ sym answered in
        let command : b ≡ c = cc in
        let reply : r ≡ a = cc in
        told_as p s (p.made ++ (c, a) ∷ []) log None heap same (subst (λ (w : model.Command × Reply). IsPlayed (noting p s.run w.0 w.1)) (λ i. (command i, reply i)) played)
    by (TurnStill b some answer played) = absurd (let both = answered ∙ answer in cc)
    by (TurnIdle is_none played) = absurd (let both = sym awaited ∙ is_none in cc)

pub looked_as : (p : PlayerView) (s : SharedView) → IsPlayed p → s.heap ≡ p.shared.heap → HasLooked p.shared.run s.run → IsPlayed (record p { shared = s })
looked_as p s is heap l = told_as p s p.made p.made p.awaits heap refl (looked p s.run is l)

pub shut_as : (p : PlayerView) (s : SharedView) → IsPlayed p → MayClose p.shared → s ≡ closed_of p.shared → IsPlayed (record p { shared = s })
shut_as p s is may closed = subst (λ (x : SharedView). IsPlayed (record p { shared = x })) (sym closed) (shut p is may)

pub taken_as : (p : PlayerView) (a : Reply) (s : SharedView) (told : List Reply) → IsPlayed p → Some a ≡ slice_get p.shared.run.ran 0 → s ≡ taken_of p.shared → told ≡ p.told ++ a ∷ [] → IsPlayed (record p { shared = s; told = told })
taken_as p a s told is first same log = subst (λ (w : SharedView × List Reply). IsPlayed (record p { shared = w.0; told = w.1 })) (λ i. (sym same i, sym log i)) (taken p a is first)

-- where none waits nothing is taken
pub none_taken : (s t : SharedView) → t ≡ taken_of s → None ≡ slice_get s.run.ran 0 → (t ≡ s) × (s.run.ran ≡ [])
none_taken s t same none = let empty : s.run.ran ≡ [] = no_first s.run.ran none in (same ∙ λ i. record s { run = record s.run { ran = (ap (λ (rs : List Reply). drop 1 rs) empty ∙ sym empty) i } }, empty)
  where
    no_first : (rs : List Reply) → None ≡ slice_get rs 0 → rs ≡ []
    no_first [] is = refl
    no_first (r ∷ rs) is = cc

pub shown_as : (p : PlayerView) (s : SharedView) (shown : Option Reply) → IsPlayed p → s.heap ≡ p.shared.heap → IfSome shown (λ _. HasLooked p.shared.run s.run) → (shown ≡ None → s ≡ p.shared) → IsPlayed (record p { shared = s })
shown_as p s (Some a) is heap looked same = looked_as p s is heap looked
shown_as p s None is heap looked same = subst (λ (x : SharedView). IsPlayed (record p { shared = x })) (sym (same refl)) is

pub closed_as : {A E : Type 0} (p : PlayerView) (s : SharedView) (r : Result A E) → IsPlayed p → IfOk r (λ _. MayClose p.shared) → IfOk r (λ _. s ≡ closed_of p.shared) → IfErr r (λ _. s ≡ p.shared) → IsPlayed (record p { shared = s })
closed_as p s (Ok u) is may closed same = shut_as p s is may closed
closed_as p s (Err why) is may closed same = subst (λ (x : SharedView). IsPlayed (record p { shared = x })) (sym same) is

-- the seat of a player stays whatever a call comes to
pub called_seat : {E : Type 0} (c : model.Command) (old new : PlayerView) (r : Result Called E) → IfOk r (Calls c old new) → IfErr r (λ _. new ≡ old) → seat_of new ≡ seat_of old
called_seat c old new (Ok (Made a)) is same = λ i. (is.heap i, is.number i)
called_seat c old new (Ok Waits) is same = λ i. (is.0.heap i, is.0.number i)
called_seat c old new (Ok (Refused why)) is same = ap seat_of is.0
called_seat c old new (Err e) is same = ap seat_of same

pub awaited_seat : (old new : PlayerView) (r : Option Reply) → Awaited old new r → seat_of new ≡ seat_of old
awaited_seat old new (Some a) is = λ i. (is.1.1.heap i, is.1.1.number i)
awaited_seat old new None is = λ i. (is.0.heap i, is.0.number i)

pub takes_seat : (old new : PlayerView) (r : Option Reply) → Takes old new r → seat_of new ≡ seat_of old
takes_seat old new (Some a) is = ap seat_of is.1
takes_seat old new None is = ap seat_of is.0

-- and one finaliser fewer waits, if there was one
pub takes_fewer : (old new : PlayerView) (r : Option Reply) (n i : ℕ) → Takes old new r → length old.shared.run.ran + i ≤ n → i < n → length new.shared.run.ran + (i + 1) ≤ n
takes_fewer old new (Some a) n i is few more = let some = ap (λ (p : PlayerView). length p.shared.run.ran) is.1 in let fewer = drop_fewer old.shared.run.ran a is.0 in omega (arith, few, some, fewer)
  where
    drop_fewer : (rs : List Reply) (r : Reply) → Some r ≡ slice_get rs 0 → length (drop 1 rs) + 1 ≡ length rs
    drop_fewer [] r first = cc
    drop_fewer (x ∷ xs) r first = let n : ℕ = length xs in omega arith
takes_fewer old new None n i is few more = let none = ap (λ (rs : List Reply). length rs) (ap (λ (p : PlayerView). p.shared.run.ran) is.0 ∙ is.1) in omega (arith, few, more, none)
