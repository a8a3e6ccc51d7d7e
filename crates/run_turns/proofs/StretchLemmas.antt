-- How a domain's front grows in a turn.
use Rattle.std.proofs.Common.{◌≡◌, ◌∙◌, ℕ, ◌+◌, Bool, true, false, arith, List, [], ◌∷◌, ◌++◌, refl, sym, ap, subst, append-nil, append_assoc, inr, ⊎_elim, slice_get, Some, None}
use Rattle.model_core.specs.declared.command.Command as model
use Rattle.model_core.specs.declared.command.Command.TheVariants.{FullMajor, Poll}
use Rattle.model_core.specs.declared.entry.Entry.{Entry}
use Rattle.model_core.specs.declared.entry.Entry.TheVariants.{Command as CommandOf, End, Ran as RanOf}
use Rattle.model_core.specs.declared.reply.Reply.{Reply}
use Rattle.model_core.specs.declared.reply.Applied.{Applied}
use Rattle.model_core.specs.declared.reply.Applied.TheVariants.{Replied, Silent}
use Rattle.model_core.specs.declared.state.Sizes.{Sizes}
use Rattle.model_core.specs.Domains.{opening}
use Rattle.model_core.specs.Entries.{reply as reply_to}
use Rattle.model_core.specs.Fronts.{Answers, IsFrontOf}
use Rattle.model_core.specs.History.{Legal, state_after}
use Rattle.model_traces.specs.Spawns.Expansion.{Step, steps_from}
use Rattle.model_traces.proofs.OfSpawns.Growing.{steps_append, steps_others}
use Rattle.run_turns.proofs.SectionTurns.{StepsOn, held_steps, makes_steps, sees_steps, steps_takes, tells_steps}
use Rattle.model_core.proofs.Histories.FrontLemmas.{front_trans, front_whole}
use Rattle.heap_rule.specs.declared.config.Config.{Config}
use Rattle.heap_rule.specs.declared.view.DomainView.{DomainView}
use Rattle.heap_rule.specs.declared.view.Hunt.TheVariants.{Rests as AtRest}
use Rattle.heap_rule.specs.Limits.{sizes_in}
use Rattle.heap_rule.specs.Standing.{with_front}
use Rattle.heap_rule.specs.Standing.{with_front}
use Rattle.heap_rule.specs.Token.{SharedHeap, IsIn}
use Rattle.do_finalisers.specs.Running.{reply_of}
use Rattle.do_alloc.proofs.OfPools.Seeking.{sought_view}
use Rattle.run_turns.specs.declared.turned.Turned.{Turned}
use Rattle.run_turns.specs.declared.turned.Turned.TheVariants.{Did, Waiting, Hungry, Held, Idle}
use Rattle.run_turns.specs.declared.turned.Turned.TheVariants.{Ended as Over}
use Rattle.run_turns.specs.Tries.{ephemerons_given, labels_given}
use Rattle.run_turns.specs.Runs.{RunView, Appended, CalmAnswers, CalmDid, EndsTrace, GoesBy, IsAnswered, MadeNone, PassesOn, Resumes, Rests, RunAnswers, RunsFinaliser, SeesAnswer, Starts, Stops, Stretches, Takes, TriesCommand, TurnAnswers, Waits, asking_end, ran_with, said_with, wanting}
use Rattle.run_turns.specs.Runs.CalmDid.{Finalises, Wishes, Refuses, Tries, Works, Ends, Sees, Makes, Tells, WishesToTell}
use Rattle.run_turns.specs.Runs.Stretches.{ByOthers, ByCommand, ByFinaliser, ByEnd, BySection}
use Rattle.gc_pause.specs.declared.phases.decider.Decider.{Decider}
use Rattle.gc_pause.specs.declared.phases.decider.Decider.TheVariants.{Wishes as ByWishes}
use Rattle.run_turns.proofs.LeavingLemmas.{passes_leaves}
use Rattle.run_turns.proofs.Taking.{arrived_takes, searched_takes, takes_more, takes_none, takes_on, takes_then, tried_takes}
use Rattle.run_turns.proofs.Owing.{ran_count}
use Rattle.run_turns.proofs.Turning.{stood, tried_count}
use Rattle.step_finalisers.specs.Registering.{count_of}
use Rattle.heap_rule.specs.declared.view.Finalisers.{Finalisers}
use Rattle.run_turns.proofs.Working.{works_keeps}

-- an entry behind a front that had grown by entries of others alone
pub appended_after : (z : Sizes) (d : ℕ) (old mid new : List Entry) (e : Entry) (r : Applied) → IsFrontOf d mid old → Appended z d mid new e r → Appended z d old new e r
appended_after z d old mid new e r f a =
    let before : List Entry = mid ++ a.between in
    let g : IsFrontOf d before old = front_trans d before mid old (record { rest = a.between; appends = refl; others = a.others }) f in record {
      between = g.rest;
      others = g.others;
      appends = a.appends ∙ ap (λ (l : List Entry). l ++ e ∷ []) g.appends;
      legal = a.legal;
      replies = subst (λ (l : List Entry). reply_to (state_after (opening z) l) e ≡ r) g.appends a.replies;
    }

appended : (z : Sizes) (d : ℕ) (old mid new : List Entry) (e : Entry) (r : Applied) → IsFrontOf d mid old → Answers z d mid new e r → Appended z d old new e r
appended z d old mid new e r f a = appended_after z d old mid new e r f (record { between = a.between; others = a.others; appends = a.appends; legal = a.legal; replies = a.replies })

-- where a part of a turn starts: the same run, whose front has grown by entries of others alone
record StartsFrom (h : SharedHeap) (old start : RunView) : Type 0 where
  commands : start.commands ≡ old.commands
  supply : start.supply ≡ old.supply
  next : start.next ≡ old.next
  replies : start.replies ≡ old.replies
  ran : start.ran ≡ old.ran
  ended : start.ended ≡ old.ended
  number : start.token.view.own.number ≡ old.token.view.own.number
  config : start.token.config ≡ h.config
  front : IsFrontOf old.token.view.own.number start.token.view.seen.front old.token.view.seen.front
  listed : count_of start.token.view.own.finalisers ≡ count_of old.token.view.own.finalisers
  takes : Takes 0 0 old.token.view start.token.view

-- what a run that is made of another has of it
record Keeps (made new : RunView) : Type 0 where
  next : new.next ≡ made.next
  replies : new.replies ≡ made.replies
  ran : new.ran ≡ made.ran
  ended : new.ended ≡ made.ended
  front : new.token.view.seen.front ≡ made.token.view.seen.front
  listed : count_of new.token.view.own.finalisers ≡ count_of made.token.view.own.finalisers
  takes : Takes 0 0 made.token.view new.token.view

keeps_all : (r : RunView) → Keeps r r
keeps_all r = record { next = refl; replies = refl; ran = refl; ended = refl; front = refl; listed = refl; takes = takes_none r.token.view r.token.view refl refl }

asking_keeps : (spent : Bool) (made : RunView) → Keeps made (asking_end spent made)
asking_keeps false made = keeps_all made
asking_keeps true made = record { next = refl; replies = refl; ran = refl; ended = refl; front = refl; listed = refl; takes = takes_none _ _ refl refl }

still : (h : SharedHeap) (old start new : RunView) → StartsFrom h old start → Keeps start new → MadeNone old new
still h old start new s k = record {
  next = k.next ∙ s.next;
  replies = k.replies ∙ s.replies;
  ran = k.ran ∙ s.ran;
  ended = k.ended ∙ s.ended;
  front = subst (λ (f : List Entry). IsFrontOf old.token.view.own.number f old.token.view.seen.front) (sym k.front) s.front;
  listed = k.listed ∙ s.listed;
  takes = takes_on 0 0 old.token.view start.token.view new.token.view s.takes k.takes;
}

-- the entry of a command that was tried
tried : (h : SharedHeap) (old start made new : RunView) (c : model.Command) → StartsFrom h old start → TriesCommand h start.token start made c → Keeps made new → Stretches (sizes_in h.config) old new
tried h old start made new c s t k =
    let st = stood h start.token made.token c start.collected t.reply t.tried.stands in
    let here : Answers (sizes_in h.config) old.token.view.own.number start.token.view.seen.front new.token.view.seen.front (CommandOf old.token.view.own.number c st.0) (Replied t.reply) =
    subst (λ (w : Config × (ℕ × List Entry)). Answers (sizes_in w.0) w.1.0 start.token.view.seen.front w.1.1 (CommandOf w.1.0 c st.0) (Replied t.reply)) (λ i. (s.config i, (s.number i, sym k.front i))) st.1 in
    ByCommand (record {
      command = c;
      full = st.0;
      reply = t.reply;
      here = subst (λ (w : List model.Command × ℕ). slice_get w.0 w.1 ≡ Some c) (λ i. (s.commands i, s.next i)) t.next;
      next = k.next ∙ (ap (λ (r : RunView). r.next) t.run ∙ ap (λ (n : ℕ). n + 1) s.next);
      replies = k.replies ∙ (ap (λ (r : RunView). r.replies) t.run ∙ ap (λ (rs : List Reply). rs ++ t.reply ∷ []) s.replies);
      ran = k.ran ∙ (ap (λ (r : RunView). r.ran) t.run ∙ s.ran);
      ended = k.ended ∙ (ap (λ (r : RunView). r.ended) t.run ∙ s.ended);
      front = appended (sizes_in h.config) old.token.view.own.number old.token.view.seen.front start.token.view.seen.front new.token.view.seen.front (CommandOf old.token.view.own.number c st.0) (Replied t.reply) s.front here;
      listed = let after = k.listed in let grew = tried_count h start.token made.token c start.collected t.reply t.tried in let before = s.listed in omega (arith, after, grew, before);
      takes = takes_on (labels_given c t.reply) (ephemerons_given c t.reply) old.token.view start.token.view new.token.view s.takes (takes_then (labels_given c t.reply) (ephemerons_given c t.reply) start.token.view made.token.view new.token.view (tried_takes h start.token made.token c start.collected t.reply t.tried) k.takes);
    })

ran : (h : SharedHeap) (old start new : RunView) → StartsFrom h old start → RunsFinaliser h start.token start new → Stretches (sizes_in h.config) old new
ran h old start new s f =
    let here : Answers (sizes_in h.config) old.token.view.own.number start.token.view.seen.front new.token.view.seen.front (RanOf old.token.view.own.number) (Replied (reply_of f.ran)) =
    subst (λ (d : ℕ). Answers (sizes_in h.config) d start.token.view.seen.front new.token.view.seen.front (RanOf d) (Replied (reply_of f.ran))) s.number f.first.answers in
    ByFinaliser (record {
      reply = reply_of f.ran;
      next = ap (λ (r : RunView). r.next) f.run ∙ s.next;
      replies = ap (λ (r : RunView). r.replies) f.run ∙ (λ i. said_with (s.supply i) (s.replies i) (reply_of f.ran));
      ran = ap (λ (r : RunView). r.ran) f.run ∙ (λ i. ran_with (s.supply i) (s.ran i) (reply_of f.ran));
      ended = ap (λ (r : RunView). r.ended) f.run ∙ s.ended;
      front = appended (sizes_in h.config) old.token.view.own.number old.token.view.seen.front start.token.view.seen.front new.token.view.seen.front (RanOf old.token.view.own.number) (Replied (reply_of f.ran)) s.front here;
      listed = ap (λ (x : DomainView). count_of x.own.finalisers + 1) f.first.view ∙ (ran_count f.first.first start.token.view.own f.first.is_first ∙ s.listed);
      takes = takes_on 0 0 old.token.view start.token.view new.token.view s.takes (takes_none start.token.view new.token.view (ap (λ (x : DomainView). x.own.serial) f.first.view) (ap (λ (x : DomainView). x.own.ephemerons) f.first.view));
    })

ended : (h : SharedHeap) (old start new : RunView) → StartsFrom h old start → EndsTrace h start.token start new → Stretches (sizes_in h.config) old new
ended h old start new s t =
    let here : Answers (sizes_in h.config) old.token.view.own.number start.token.view.seen.front new.token.view.seen.front (End old.token.view.own.number) Silent =
    subst (λ (w : Config × ℕ). Answers (sizes_in w.0) w.1 start.token.view.seen.front new.token.view.seen.front (End w.1) Silent) (λ i. (s.config i, s.number i)) t.ended.answers in
    ByEnd (record {
      shut = λ more. t.shut (s.supply ∙ more);
      next = ap (λ (r : RunView). r.next) t.run ∙ s.next;
      replies = ap (λ (r : RunView). r.replies) t.run ∙ s.replies;
      ran = ap (λ (r : RunView). r.ran) t.run ∙ s.ran;
      ended = ap (λ (r : RunView). r.ended) t.run;
      front = appended (sizes_in h.config) old.token.view.own.number old.token.view.seen.front start.token.view.seen.front new.token.view.seen.front (End old.token.view.own.number) Silent s.front here;
      takes = takes_on 0 0 old.token.view start.token.view new.token.view s.takes (takes_none start.token.view new.token.view (ap (λ (x : DomainView). x.own.serial) t.ended.view) (ap (λ (x : DomainView). x.own.ephemerons) t.ended.view));
    })

-- some steps of a section
stepped : (h : SharedHeap) (old start new : RunView) → StartsFrom h old start → StepsOn h start new → Stretches (sizes_in h.config) old new
stepped h old start new s on =
    let d : ℕ = old.token.view.own.number in
    let z = sizes_in h.config in
    let m = on.makes in
    let before : steps_from (opening z) start.token.view.seen.front d ≡ steps_from (opening z) old.token.view.seen.front d =
    ap (λ (f : List Entry). steps_from (opening z) f d) s.front.appends ∙ (steps_append (opening z) old.token.view.seen.front s.front.rest d
    ∙ (ap (λ (xs : List Step). steps_from (opening z) old.token.view.seen.front d ++ xs) (steps_others (state_after (opening z) old.token.view.seen.front) s.front.rest d s.front.others) ∙ append-nil (steps_from (opening z) old.token.view.seen.front d))) in
    let grown : steps_from (opening z) new.token.view.seen.front d ≡ steps_from (opening z) start.token.view.seen.front d ++ on.steps =
    subst (λ (w : Config × ℕ). steps_from (opening (sizes_in w.0)) new.token.view.seen.front w.1 ≡ steps_from (opening (sizes_in w.0)) start.token.view.seen.front w.1 ++ on.steps) (λ i. (s.config i, s.number i)) m.steps in
    BySection (record {
      sectioned = sym s.supply ∙ on.sectioned;
      steps = on.steps;
      ended = on.ended ∙ s.ended;
      front = record { rest = s.front.rest ++ m.front.rest; appends = m.front.appends ∙ (ap (λ (f : List Entry). f ++ m.front.rest) s.front.appends ∙ append_assoc old.token.view.seen.front s.front.rest m.front.rest) };
      legal = subst (λ (k : Config). Legal (sizes_in k) new.token.view.seen.front) s.config m.legal;
      grows = grown ∙ ap (λ (xs : List Step). xs ++ on.steps) before;
      takes = takes_on 0 0 old.token.view start.token.view new.token.view s.takes (steps_takes start.token new.token on.rest);
    })

calm : (h : SharedHeap) (old start new : RunView) → StartsFrom h old start → CalmDid h start new → Stretches (sizes_in h.config) old new
calm h old start new s (Finalises f) = ran h old start new s f
calm h old start new s (Wishes a) = ByOthers (still h old start new s (record {
  next = ap (λ (r : RunView). r.next) a.run;
  replies = ap (λ (r : RunView). r.replies) a.run;
  ran = ap (λ (r : RunView). r.ran) a.run;
  ended = ap (λ (r : RunView). r.ended) a.run;
  front = ap (λ (r : RunView). r.token.view.seen.front) a.run;
  listed = ap (λ (r : RunView). count_of r.token.view.own.finalisers) a.run;
  takes = takes_none _ _ (ap (λ (r : RunView). r.token.view.own.serial) a.run) (ap (λ (r : RunView). r.token.view.own.ephemerons) a.run);
}))
calm h old start new s (Refuses a) =
    let found : DomainView = with_front a.searched.view start.token.view.seen.front in
    let view = sought_view h.config start.token.view found AtRest a.refused.view in
    let number : found.own.number ≡ old.token.view.own.number = ap (λ (x : DomainView). x.own.number) view ∙ s.number in
    ByOthers (record {
      next = ap (λ (r : RunView). r.next) a.run ∙ s.next;
      replies = ap (λ (r : RunView). r.replies) a.run ∙ s.replies;
      ran = ap (λ (r : RunView). r.ran) a.run ∙ s.ran;
      ended = ap (λ (r : RunView). r.ended) a.run ∙ s.ended;
      front = front_trans old.token.view.own.number new.token.view.seen.front start.token.view.seen.front old.token.view.seen.front
          (subst (λ (p : ℕ × List Entry). IsFrontOf p.0 p.1 start.token.view.seen.front) (λ i. (number i, sym (ap (λ (r : RunView). r.token.view.seen.front) a.run) i)) a.refused.looked.seen) s.front;
      listed = ap (λ (r : RunView). count_of r.token.view.own.finalisers) a.run ∙ (ap (λ (x : DomainView). count_of x.own.finalisers) view ∙ s.listed);
      takes = takes_on 0 0 old.token.view start.token.view new.token.view s.takes
          (takes_then 0 0 start.token.view found new.token.view (searched_takes h.config start.token.view found a.refused.view) (takes_none _ _ (ap (λ (r : RunView). r.token.view.own.serial) a.run) (ap (λ (r : RunView). r.token.view.own.ephemerons) a.run)));
    })
calm h old start new s (Tries c other t) = tried h old start new new c s t (keeps_all new)
calm h old start new s (Works p) =
    let kept = works_keeps h start p.worked p.spent p.works in
    let worked : StartsFrom h old p.worked = record {
      commands = kept.commands ∙ s.commands;
      supply = kept.supply ∙ s.supply;
      next = kept.next ∙ s.next;
      replies = kept.replies ∙ s.replies;
      ran = kept.ran ∙ s.ran;
      ended = kept.ended ∙ s.ended;
      number = kept.number ∙ s.number;
      config = kept.config;
      front = subst (λ (f : List Entry). IsFrontOf old.token.view.own.number f old.token.view.seen.front) (sym kept.front) s.front;
      listed = ap (λ (fs : Finalisers). count_of fs) kept.waiting ∙ s.listed;
      takes = takes_on 0 0 old.token.view start.token.view p.worked.token.view s.takes kept.takes;
    } in
    tried h old p.worked p.made new Poll worked p.tried (subst (Keeps p.made) (sym p.run) (asking_keeps p.spent p.made))
calm h old start new s (Ends t) = ended h old start new s t
calm h old start new s (Sees t) = stepped h old start new s (sees_steps h start new t)
calm h old start new s (Makes c t) = stepped h old start new s (makes_steps h start new c t)
calm h old start new s (Tells t) = stepped h old start new s (tells_steps h start new t)
calm h old start new s (WishesToTell a) = ByOthers (still h old start new s (record {
  next = ap (λ (r : RunView). r.next) a.run;
  replies = ap (λ (r : RunView). r.replies) a.run;
  ran = ap (λ (r : RunView). r.ran) a.run;
  ended = ap (λ (r : RunView). r.ended) a.run;
  front = ap (λ (r : RunView). r.token.view.seen.front) a.run;
  listed = ap (λ (r : RunView). count_of r.token.view.own.finalisers) a.run;
  takes = takes_none _ _ (ap (λ (r : RunView). r.token.view.own.serial) a.run) (ap (λ (r : RunView). r.token.view.own.ephemerons) a.run);
}))

rests : (h : SharedHeap) (old start new : RunView) (n : ℕ) → StartsFrom h old start → Rests start new n → Stretches (sizes_in h.config) old new
rests h old start new n s r = ByOthers (still h old start new s (record {
  next = ap (λ (x : RunView). x.next) r.run;
  replies = ap (λ (x : RunView). x.replies) r.run;
  ran = ap (λ (x : RunView). x.ran) r.run;
  ended = ap (λ (x : RunView). x.ended) r.run;
  front = ap (λ (x : RunView). x.token.view.seen.front) r.run;
  listed = ap (λ (x : RunView). count_of x.token.view.own.finalisers) r.run;
  takes = takes_none _ _ (ap (λ (x : RunView). x.token.view.own.serial) r.run) (ap (λ (x : RunView). x.token.view.own.ephemerons) r.run);
}))

-- who has found a want word has what it had before
wanted : (h : SharedHeap) (old start : RunView) (w : ℕ) → StartsFrom h old start → StartsFrom h old (wanting start w)
wanted h old start w s = record { commands = s.commands; supply = s.supply; next = s.next; replies = s.replies; ran = s.ran; ended = s.ended; number = s.number; config = s.config; front = s.front; listed = s.listed; takes = takes_on 0 0 old.token.view start.token.view (wanting start w).token.view s.takes (takes_none start.token.view (wanting start w).token.view refl refl) }

running : (h : SharedHeap) (old start new : RunView) (a : Turned) → StartsFrom h old start → RunAnswers h start new a → Stretches (sizes_in h.config) old new
running h old start new Did s says = ⊎_elim
    (λ (t : Stops start new). ByOthers (still h old start new s (record {
      next = ap (λ (r : RunView). r.next) t.run;
      replies = ap (λ (r : RunView). r.replies) t.run;
      ran = ap (λ (r : RunView). r.ran) t.run;
      ended = ap (λ (r : RunView). r.ended) t.run;
      front = ap (λ (r : RunView). r.token.view.seen.front) t.run;
      listed = ap (λ (r : RunView). count_of r.token.view.own.finalisers) t.run;
      takes = takes_none _ _ (ap (λ (r : RunView). r.token.view.own.serial) t.run) (ap (λ (r : RunView). r.token.view.own.ephemerons) t.run);
    })))
    (λ (c : CalmDid h (wanting start 0) new). calm h old (wanting start 0) new (wanted h old start 0 s) c) says
running h old start new (Waiting b) s says = absurd says
running h old start new Hungry s says = ByOthers (still h old start new s (record {
  next = ap (λ (r : RunView). r.next) says.run;
  replies = ap (λ (r : RunView). r.replies) says.run;
  ran = ap (λ (r : RunView). r.ran) says.run;
  ended = ap (λ (r : RunView). r.ended) says.run;
  front = ap (λ (r : RunView). r.token.view.seen.front) says.run;
  listed = ap (λ (r : RunView). count_of r.token.view.own.finalisers) says.run;
  takes = takes_none _ _ (ap (λ (r : RunView). r.token.view.own.serial) says.run) (ap (λ (r : RunView). r.token.view.own.ephemerons) says.run);
}))
running h old start new (Held section) s says = stepped h old (wanting start 0) new (wanted h old start 0 s) (held_steps h (wanting start 0) new section says)
running h old start new (Idle n) s says = rests h old (wanting start 0) new n (wanted h old start 0 s) says.0
running h old start new Over s says = rests h old (wanting start 0) new h.config.domains (wanted h old start 0 s) says

-- a turn starts with the run as it was, or once a look has found that the domain runs again
starts : (h : SharedHeap) (old start : RunView) → IsIn old.token h → Starts h old start → StartsFrom h old start
starts h old start here = ⊎_elim
    (λ (t : (old.left ≡ None) × (start ≡ old)). subst (StartsFrom h old) (sym t.1) (record { commands = refl; supply = refl; next = refl; replies = refl; ran = refl; ended = refl; number = refl; config = here.1; front = front_whole old.token.view.own.number old.token.view.seen.front; listed = refl; takes = takes_none old.token.view old.token.view refl refl }))
    (λ (t : Resumes h old start). record {
      commands = ap (λ (r : RunView). r.commands) t.run;
      supply = ap (λ (r : RunView). r.supply) t.run;
      next = ap (λ (r : RunView). r.next) t.run;
      replies = ap (λ (r : RunView). r.replies) t.run;
      ran = ap (λ (r : RunView). r.ran) t.run;
      ended = ap (λ (r : RunView). r.ended) t.run;
      number = ap (λ (x : DomainView). x.own.number) t.passed.view;
      config = ap (λ (r : RunView). r.token.config) t.run ∙ here.1;
      front = t.passed.seen;
      listed = ap (λ (x : DomainView). count_of x.own.finalisers) t.passed.view;
      takes = takes_none _ _ (ap (λ (x : DomainView). x.own.serial) t.passed.view) (ap (λ (x : DomainView). x.own.ephemerons) t.passed.view);
    })

gone : (decider : Decider) (h : SharedHeap) (old new : RunView) → GoesBy h decider old new → Stretches (sizes_in h.config) old new
gone decider h old new g =
    let l = passes_leaves decider h.config old.token.view new.token.view g.last g.kind g.passes in
    ByOthers (record {
      next = ap (λ (r : RunView). r.next) g.run;
      replies = ap (λ (r : RunView). r.replies) g.run;
      ran = ap (λ (r : RunView). r.ran) g.run;
      ended = ap (λ (r : RunView). r.ended) g.run;
      front = l.front;
      listed = l.listed;
      takes = takes_more old.token.view new.token.view l.serial l.room;
    })

answered : (h : SharedHeap) (old new : RunView) → IsAnswered h old new → Stretches (sizes_in h.config) old new
answered h old new s =
    let a = s.answers in
    let d : ℕ = old.token.view.own.number in
    let front : new.token.view.seen.front ≡ a.front = ap (λ (x : DomainView). x.seen.front) a.view in
    let here : Answers (sizes_in h.config) d a.begun.seen.front new.token.view.seen.front (CommandOf d FullMajor false) (Replied s.reply) =
    subst (λ (f : List Entry). Answers (sizes_in h.config) d a.begun.seen.front f (CommandOf d FullMajor false) (Replied s.reply)) (sym front) a.answers in
    ByCommand (record {
      command = FullMajor;
      full = false;
      reply = s.reply;
      here = s.waited.next;
      next = ap (λ (r : RunView). r.next) s.run;
      replies = ap (λ (r : RunView). r.replies) s.run;
      ran = ap (λ (r : RunView). r.ran) s.run;
      ended = ap (λ (r : RunView). r.ended) s.run;
      front = appended (sizes_in h.config) d old.token.view.seen.front a.begun.seen.front new.token.view.seen.front (CommandOf d FullMajor false) (Replied s.reply) a.comes.passed.seen here;
      listed = let same : count_of new.token.view.own.finalisers ≡ count_of old.token.view.own.finalisers = ap (λ (x : DomainView). count_of x.own.finalisers) a.view ∙ ap (λ (x : DomainView). count_of x.own.finalisers) a.comes.passed.view in omega (arith, same);
      takes = arrived_takes old.token.view a.begun new.token.view a.front a.view (ap (λ (x : DomainView). x.own.serial) a.comes.passed.view) (ap (λ (x : DomainView). x.own.ephemerons) a.comes.passed.view);
    })

seen : (h : SharedHeap) (old new : RunView) → SeesAnswer h old new → Stretches (sizes_in h.config) old new
seen h old new s =
    let g = s.gives in
    let number : g.begun.own.number ≡ old.token.view.own.number = ap (λ (x : DomainView). x.own.number) g.comes.passed.view in
    let later : IsFrontOf old.token.view.own.number new.token.view.seen.front g.begun.seen.front = subst (λ (d : ℕ). IsFrontOf d new.token.view.seen.front g.begun.seen.front) number g.seen in
    ByOthers (record {
      next = ap (λ (r : RunView). r.next) s.run;
      replies = ap (λ (r : RunView). r.replies) s.run;
      ran = ap (λ (r : RunView). r.ran) s.run;
      ended = ap (λ (r : RunView). r.ended) s.run;
      front = front_trans old.token.view.own.number new.token.view.seen.front g.begun.seen.front old.token.view.seen.front later g.comes.passed.seen;
      listed = ap (λ (x : DomainView). count_of x.own.finalisers) g.view ∙ ap (λ (x : DomainView). count_of x.own.finalisers) g.comes.passed.view;
      takes = arrived_takes old.token.view g.begun new.token.view new.token.view.seen.front g.view (ap (λ (x : DomainView). x.own.serial) g.comes.passed.view) (ap (λ (x : DomainView). x.own.ephemerons) g.comes.passed.view);
    })

waits : (h : SharedHeap) (old new : RunView) (b : ℕ) → Waits h old new b → Stretches (sizes_in h.config) old new
waits h old new b w = ByOthers (record {
  next = ap (λ (r : RunView). r.next) w.run;
  replies = ap (λ (r : RunView). r.replies) w.run;
  ran = ap (λ (r : RunView). r.ran) w.run;
  ended = ap (λ (r : RunView). r.ended) w.run;
  front = subst (λ (f : List Entry). IsFrontOf old.token.view.own.number f old.token.view.seen.front) (sym (ap (λ (r : RunView). r.token.view.seen.front) w.run)) (front_whole old.token.view.own.number old.token.view.seen.front);
  listed = ap (λ (r : RunView). count_of r.token.view.own.finalisers) w.run;
  takes = takes_none _ _ (ap (λ (r : RunView). r.token.view.own.serial) w.run) (ap (λ (r : RunView). r.token.view.own.ephemerons) w.run);
})

-- by what a turn did
pub turn_stretches : (h : SharedHeap) (old new : RunView) (a : Turned) → IsIn old.token h → TurnAnswers h old new a → Stretches (sizes_in h.config) old new
turn_stretches h old new Did here says = ⊎_elim
    (λ (g : GoesBy h ByWishes old new). gone ByWishes h old new g)
    (⊎_elim
    (λ (a : IsAnswered h old new). answered h old new a)
    (⊎_elim
    (λ (s : SeesAnswer h old new). seen h old new s)
    (λ (t : (start : RunView) × Starts h old start × RunAnswers h start new Did). running h old t.0 new Did (starts h old t.0 here t.1) t.2)))
    says
turn_stretches h old new (Waiting b) here w = waits h old new b w
turn_stretches h old new Hungry here t = running h old t.0 new Hungry (starts h old t.0 here t.1) t.2
turn_stretches h old new (Held section) here t = running h old t.0 new (Held section) (starts h old t.0 here t.1) t.2
turn_stretches h old new (Idle n) here t = running h old t.0 new (Idle n) (starts h old t.0 here t.1) t.2
turn_stretches h old new Over here t = running h old t.0 new Over (starts h old t.0 here t.1) t.2

-- where a step starts by itself
itself : (h : SharedHeap) (old : RunView) → IsIn old.token h → StartsFrom h old old
itself h old here = record { commands = refl; supply = refl; next = refl; replies = refl; ran = refl; ended = refl; number = refl; config = here.1; front = front_whole old.token.view.own.number old.token.view.seen.front; listed = refl; takes = takes_none old.token.view old.token.view refl refl }

-- by what a step of a running domain did, whatever the want word is
pub calm_stretches : (h : SharedHeap) (old new : RunView) (a : Turned) → IsIn old.token h → CalmAnswers h old new a → Stretches (sizes_in h.config) old new
calm_stretches h old new Did here c = calm h old old new (itself h old here) c
calm_stretches h old new (Waiting b) here c = absurd c
calm_stretches h old new Hungry here c = ByOthers (still h old old new (itself h old here) (record {
  next = ap (λ (r : RunView). r.next) c.run;
  replies = ap (λ (r : RunView). r.replies) c.run;
  ran = ap (λ (r : RunView). r.ran) c.run;
  ended = ap (λ (r : RunView). r.ended) c.run;
  front = ap (λ (r : RunView). r.token.view.seen.front) c.run;
  listed = ap (λ (r : RunView). count_of r.token.view.own.finalisers) c.run;
  takes = takes_none _ _ (ap (λ (r : RunView). r.token.view.own.serial) c.run) (ap (λ (r : RunView). r.token.view.own.ephemerons) c.run);
}))
calm_stretches h old new (Held section) here c = stepped h old old new (itself h old here) (held_steps h old new section c)
calm_stretches h old new (Idle n) here c = rests h old old new n (itself h old here) c.0
calm_stretches h old new Over here c = rests h old old new h.config.domains (itself h old here) c

-- and by what a step of a domain did that had arrived, whoever decides
pub passed_stretches : (decider : Decider) (h : SharedHeap) (old new : RunView) (a : Turned) → IsIn old.token h → PassesOn h decider old new a → Stretches (sizes_in h.config) old new
passed_stretches decider h old new Did here says = ⊎_elim
    (λ (g : GoesBy h decider old new). gone decider h old new g)
    (⊎_elim
    (λ (a : IsAnswered h old new). answered h old new a)
    (⊎_elim
    (λ (s : SeesAnswer h old new). seen h old new s)
    (λ (t : Resumes h old new). ByOthers (still h old new new (starts h old new here (inr t)) (keeps_all new)))))
    says
passed_stretches decider h old new (Waiting b) here w = waits h old new b w
passed_stretches decider h old new Hungry here w = absurd w
passed_stretches decider h old new (Held section) here w = absurd w
passed_stretches decider h old new (Idle n) here w = absurd w
passed_stretches decider h old new Over here w = absurd w
