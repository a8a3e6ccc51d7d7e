-- A turn goes on with the same run.
use Rattle.std.proofs.Common.{◌≡◌, ◌∙◌, ◌<◌, ℕ, length, arith, Bool, true, false, List, [], ◌∷◌, ◌++◌, append-nil, append_assoc, sym, ap, subst, inr, ⊎_elim, Some, None}
use Rattle.model_core.specs.declared.entry.Entry.{Entry}
use Rattle.model_core.specs.declared.reply.Applied.{Applied}
use Rattle.model_core.specs.declared.state.Sizes.{Sizes}
use Rattle.model_core.specs.Fronts.{Answers}
use Rattle.model_core.specs.declared.command.Command.TheVariants.{Poll, FullMajor}
use Rattle.std.proofs.lemmas.Option.{slice_get_within}
use Rattle.model_core.specs.History.{IsPrefix}
use Rattle.heap_rule.specs.declared.view.Own.{Own}
use Rattle.heap_rule.specs.declared.view.DomainView.{DomainView}
use Rattle.heap_rule.specs.Standing.{with_front}
use Rattle.heap_rule.specs.Token.{SharedHeap}
use Rattle.run_turns.specs.declared.turned.Turned.{Turned}
use Rattle.run_turns.specs.declared.turned.Turned.TheVariants.{Did, Waiting, Hungry, Held, Idle}
use Rattle.run_turns.specs.declared.turned.Turned.TheVariants.{Ended as Over}
use Rattle.run_turns.specs.declared.passing.LookOutcome.{LookOutcome}
use Rattle.run_turns.specs.declared.passing.LookOutcome.TheVariants.{Waits, Arrived, Answered, Runs}
use Rattle.run_turns.specs.LookOutcomes.{PastAnswers}
use Rattle.gc_pause.specs.declared.phases.decider.Decider.{Decider}
use Rattle.run_turns.specs.Pausing.{ComesToAnswer}
use Rattle.heap_rule.specs.declared.view.Hunt.TheVariants.{Rests as AtRest}
use Rattle.do_alloc.proofs.OfPools.Seeking.{sought_view}
use Rattle.run_turns.proofs.Working.{works_keeps}
use Rattle.run_turns.specs.Sections.{is_spawned_at}
use Rattle.run_turns.specs.Runs.{RunView, CalmDid, Rests, CalmAnswers, RunAnswers, Stops, Resumes, GoesBy, IsAnswered, IsRun, SeesAnswer, wanting, GoesOn, StaysOver, asking_end}
use Rattle.heap_rule.specs.declared.config.Config.{Config}
use Rattle.run_turns.specs.Runs.CalmDid.{Finalises, Wishes, Refuses, Tries, Works, Ends, Sees, Makes, Tells, WishesToTell}
use Rattle.run_turns.proofs.LeavingLemmas.{passes_leaves}
use Rattle.run_turns.proofs.Moving.{front_prefix}
use Rattle.run_turns.proofs.SectionTurns.{StepsOn, held_steps, makes_steps, sees_steps, tells_steps}
use Rattle.run_turns.proofs.Turning.{stood}

-- a turn went on with the same run, whether or not its trace has ended
pub record IsSame (old new : RunView) : Type 0 where
  pub commands : new.commands ≡ old.commands
  pub supply : new.supply ≡ old.supply
  pub spawned : is_spawned_at new.place ≡ is_spawned_at old.place
  pub number : new.token.view.own.number ≡ old.token.view.own.number
  pub front : IsPrefix old.token.view.seen.front new.token.view.seen.front

-- and where it has, it stays as it is
goes : (old new : RunView) → IsSame old new → (old.ended ≡ true → StaysOver old new) → GoesOn old new
goes old new s over = record { commands = s.commands; supply = s.supply; spawned = s.spawned; number = s.number; front = s.front; over = over }

answered_front : (z : Sizes) (d : ℕ) (old new : List Entry) (e : Entry) (r : Applied) → Answers z d old new e r → IsPrefix old new
answered_front z d old new e r a = record { rest = a.between ++ e ∷ []; appends = a.appends ∙ append_assoc old a.between (e ∷ []) }

same_prefix : (old new : List Entry) → new ≡ old → IsPrefix old new
same_prefix old new is = record { rest = []; appends = is ∙ sym (append-nil old) }

-- a wish changes nothing of it
asks : (spent : Bool) (old new : RunView) → IsSame old new → IsSame old (asking_end spent new)
asks false old new g = g
asks true old new g = record { commands = g.commands; supply = g.supply; spawned = g.spawned; number = g.number; front = g.front }

-- some steps of a section
stepped : (h : SharedHeap) (old new : RunView) → StepsOn h old new → IsSame old new
stepped h old new s = record { commands = s.commands; supply = s.supply; spawned = s.spawned; number = s.makes.number; front = s.makes.front }

calm_did : (h : SharedHeap) (old new : RunView) → CalmDid h old new → IsSame old new
calm_did h old new (Finalises f) = record {
  commands = ap (λ (r : RunView). r.commands) f.run;
  supply = ap (λ (r : RunView). r.supply) f.run;
  spawned = ap (λ (r : RunView). is_spawned_at r.place) f.run;
  number = ap (λ (x : DomainView). x.own.number) f.first.view;
  front = answered_front _ _ _ _ _ _ f.first.answers;
}
calm_did h old new (Wishes a) = record {
  commands = ap (λ (r : RunView). r.commands) a.run;
  supply = ap (λ (r : RunView). r.supply) a.run;
  spawned = ap (λ (r : RunView). is_spawned_at r.place) a.run;
  number = ap (λ (r : RunView). r.token.view.own.number) a.run;
  front = same_prefix _ _ (ap (λ (r : RunView). r.token.view.seen.front) a.run);
}
calm_did h old new (Refuses a) =
    let view = sought_view h.config old.token.view (with_front a.searched.view old.token.view.seen.front) AtRest a.refused.view in record {
      commands = ap (λ (r : RunView). r.commands) a.run;
      supply = ap (λ (r : RunView). r.supply) a.run;
      spawned = ap (λ (r : RunView). is_spawned_at r.place) a.run;
      number = ap (λ (r : RunView). r.token.view.own.number) a.run ∙ ap (λ (x : DomainView). x.own.number) view;
      front = subst (IsPrefix old.token.view.seen.front) (sym (ap (λ (r : RunView). r.token.view.seen.front) a.run)) (front_prefix _ _ _ a.refused.looked.seen);
    }
calm_did h old new (Tries c other t) = record { commands = ap (λ (r : RunView). r.commands) t.run; supply = ap (λ (r : RunView). r.supply) t.run; spawned = ap (λ (r : RunView). is_spawned_at r.place) t.run; number = ap (λ (o : Own). o.number) t.tried.own; front = answered_front _ _ _ _ _ _ (stood h old.token new.token c old.collected t.reply t.tried.stands).1 }
calm_did h old new (Works p) =
    let t = p.tried in
    let kept = works_keeps h old p.worked p.spent p.works in
    let seen = kept.front in
    let g : IsSame old p.made = record {
      commands = ap (λ (r : RunView). r.commands) t.run ∙ kept.commands;
      supply = ap (λ (r : RunView). r.supply) t.run ∙ kept.supply;
      spawned = ap (λ (r : RunView). is_spawned_at r.place) t.run ∙ ap is_spawned_at kept.place;
      number = ap (λ (o : Own). o.number) t.tried.own ∙ kept.number;
      front = subst (λ (f : List Entry). IsPrefix f p.made.token.view.seen.front) seen (answered_front _ _ _ _ _ _ (stood h p.worked.token p.made.token Poll p.worked.collected t.reply t.tried.stands).1);
    } in
    subst (IsSame old) (sym p.run) (asks p.spent old p.made g)
calm_did h old new (Ends t) = record { commands = ap (λ (r : RunView). r.commands) t.run; supply = ap (λ (r : RunView). r.supply) t.run; spawned = ap (λ (r : RunView). is_spawned_at r.place) t.run; number = ap (λ (x : DomainView). x.own.number) t.ended.view; front = answered_front _ _ _ _ _ _ t.ended.answers }
calm_did h old new (Sees t) = stepped h old new (sees_steps h old new t)
calm_did h old new (Makes c t) = stepped h old new (makes_steps h old new c t)
calm_did h old new (Tells t) = stepped h old new (tells_steps h old new t)
calm_did h old new (WishesToTell a) = record {
  commands = ap (λ (r : RunView). r.commands) a.run;
  supply = ap (λ (r : RunView). r.supply) a.run;
  spawned = ap (λ (r : RunView). is_spawned_at r.place) a.run;
  number = ap (λ (r : RunView). r.token.view.own.number) a.run;
  front = same_prefix _ _ (ap (λ (r : RunView). r.token.view.seen.front) a.run);
}

rests : (old new : RunView) (n : ℕ) → Rests old new n → IsSame old new
rests old new n r = record {
  commands = ap (λ (r : RunView). r.commands) r.run;
  supply = ap (λ (r : RunView). r.supply) r.run;
  spawned = ap (λ (r : RunView). is_spawned_at r.place) r.run;
  number = ap (λ (r : RunView). r.token.view.own.number) r.run;
  front = same_prefix _ _ (ap (λ (r : RunView). r.token.view.seen.front) r.run);
}

-- what a run has that has found a want word it had before
wanted : (old new : RunView) (w : ℕ) → IsSame (wanting old w) new → IsSame old new
wanted old new w g = record { commands = g.commands; supply = g.supply; spawned = g.spawned; number = g.number; front = g.front }

run_same : (h : SharedHeap) (old new : RunView) (a : Turned) → RunAnswers h old new a → IsSame old new
run_same h old new Did says = ⊎_elim
    (λ (s : Stops old new). record {
      commands = ap (λ (r : RunView). r.commands) s.run;
      supply = ap (λ (r : RunView). r.supply) s.run;
      spawned = ap (λ (r : RunView). is_spawned_at r.place) s.run;
      number = ap (λ (r : RunView). r.token.view.own.number) s.run;
      front = same_prefix _ _ (ap (λ (r : RunView). r.token.view.seen.front) s.run);
    })
    (λ (c : CalmDid h (wanting old 0) new). wanted old new 0 (calm_did h (wanting old 0) new c)) says
run_same h old new (Waiting b) says = absurd says
run_same h old new Hungry says = record { commands = ap (λ (r : RunView). r.commands) says.run; supply = ap (λ (r : RunView). r.supply) says.run; spawned = ap (λ (r : RunView). is_spawned_at r.place) says.run; number = ap (λ (r : RunView). r.token.view.own.number) says.run; front = same_prefix _ _ (ap (λ (r : RunView). r.token.view.seen.front) says.run) }
run_same h old new (Held section) says = wanted old new 0 (stepped h (wanting old 0) new (held_steps h (wanting old 0) new section says))
run_same h old new (Idle n) says = wanted old new 0 (rests (wanting old 0) new n says.0)
run_same h old new Over says = wanted old new 0 (rests (wanting old 0) new h.config.domains says)

-- a step of a running domain, whatever the want word is
calm_same : (h : SharedHeap) (old new : RunView) (a : Turned) → CalmAnswers h old new a → IsSame old new
calm_same h old new Did says = calm_did h old new says
calm_same h old new (Waiting b) says = absurd says
calm_same h old new Hungry says = record { commands = ap (λ (r : RunView). r.commands) says.run; supply = ap (λ (r : RunView). r.supply) says.run; spawned = ap (λ (r : RunView). is_spawned_at r.place) says.run; number = ap (λ (r : RunView). r.token.view.own.number) says.run; front = same_prefix _ _ (ap (λ (r : RunView). r.token.view.seen.front) says.run) }
calm_same h old new (Held section) says = stepped h old new (held_steps h old new section says)
calm_same h old new (Idle n) says = rests old new n says.0
calm_same h old new Over says = rests old new h.config.domains says

-- a running domain that found no wish
pub calm_run : (h : SharedHeap) (old start new : RunView) (w : ℕ) (a : Turned) → start ≡ wanting old w → w ≡ 0 → CalmAnswers h start new a → RunAnswers h old new a
calm_run h old start new w a is none says = by_answer a (subst (λ (n : ℕ). CalmAnswers h (wanting old n) new a) none (subst (λ (r : RunView). CalmAnswers h r new a) is says))
  where
    by_answer : (b : Turned) → CalmAnswers h (wanting old 0) new b → RunAnswers h old new b
    by_answer Did c = inr c
    by_answer (Waiting b) c = c
    by_answer Hungry c = c
    by_answer (Held section) c = c
    by_answer (Idle n) c = c
    by_answer Over c = c

-- a domain that runs again after a pause
resumed_same : (h : SharedHeap) (old start new : RunView) (a : Turned) → Resumes h old start → RunAnswers h start new a → IsSame old new
resumed_same h old start new a r says =
    let g = run_same h start new a says in
    let p = front_prefix _ _ _ r.passed.seen in
    record {
      commands = g.commands ∙ ap (λ (x : RunView). x.commands) r.run;
      supply = g.supply ∙ ap (λ (x : RunView). x.supply) r.run;
      spawned = g.spawned ∙ ap (λ (x : RunView). is_spawned_at x.place) r.run;
      number = g.number ∙ ap (λ x. x.own.number) r.passed.view;
      front = record { rest = p.rest ++ g.front.rest; appends = g.front.appends ∙ (ap (λ (xs : List Entry). xs ++ g.front.rest) p.appends ∙ append_assoc old.token.view.seen.front p.rest g.front.rest) };
    }

-- a domain that went through a phase
pub gone_goes : (decider : Decider) (h : SharedHeap) (old new : RunView) → GoesBy h decider old new → IsSame old new
gone_goes decider h old new g =
    let l = passes_leaves decider h.config old.token.view new.token.view g.last g.kind g.passes in
    record {
      commands = ap (λ (r : RunView). r.commands) g.run;
      supply = ap (λ (r : RunView). r.supply) g.run;
      spawned = ap (λ (r : RunView). is_spawned_at r.place) g.run;
      number = l.number;
      front = front_prefix _ _ _ l.front;
    }

-- a domain that came to a phase in which a collection is answered
answer_front : (k : Config) (x begun : DomainView) → ComesToAnswer k x begun → IsPrefix x.seen.front begun.seen.front
answer_front k x begun c = front_prefix _ _ _ c.passed.seen

pub seen_goes : (h : SharedHeap) (old new : RunView) → SeesAnswer h old new → IsSame old new
seen_goes h old new s =
    let g = s.gives in
    let p = answer_front h.config old.token.view g.begun g.comes in
    let q = front_prefix _ _ _ g.seen in record {
      commands = ap (λ (r : RunView). r.commands) s.run;
      supply = ap (λ (r : RunView). r.supply) s.run;
      spawned = ap (λ (r : RunView). is_spawned_at r.place) s.run;
      number = ap (λ (x : DomainView). x.own.number) g.view ∙ ap (λ (x : DomainView). x.own.number) g.comes.passed.view;
      front = record { rest = p.rest ++ q.rest; appends = q.appends ∙ (ap (λ (xs : List Entry). xs ++ q.rest) p.appends ∙ append_assoc old.token.view.seen.front p.rest q.rest) };
    }

pub answered_goes : (h : SharedHeap) (old new : RunView) → IsAnswered h old new → IsSame old new
answered_goes h old new s =
    let a = s.answers in
    let p = answer_front h.config old.token.view a.begun a.comes in
    let q = answered_front _ _ _ _ _ _ a.answers in record {
      commands = ap (λ (r : RunView). r.commands) s.run;
      supply = ap (λ (r : RunView). r.supply) s.run;
      spawned = ap (λ (r : RunView). is_spawned_at r.place) s.run;
      number = ap (λ (x : DomainView). x.own.number) a.view ∙ ap (λ (x : DomainView). x.own.number) a.comes.passed.view;
      front = subst (IsPrefix old.token.view.seen.front) (sym (ap (λ (x : DomainView). x.seen.front) a.view))
          (record { rest = p.rest ++ q.rest; appends = q.appends ∙ (ap (λ (xs : List Entry). xs ++ q.rest) p.appends ∙ append_assoc old.token.view.seen.front p.rest q.rest) });
    }

-- whatever a look at the barrier came to
past_same : (decider : Decider) (h : SharedHeap) (old new : RunView) (past : LookOutcome) → PastAnswers h decider old new past → IsSame old new
past_same decider h old new (Waits b) w = record { commands = ap (λ (r : RunView). r.commands) w.run; supply = ap (λ (r : RunView). r.supply) w.run; spawned = ap (λ (r : RunView). is_spawned_at r.place) w.run; number = ap (λ (r : RunView). r.token.view.own.number) w.run; front = same_prefix _ _ (ap (λ (r : RunView). r.token.view.seen.front) w.run) }
past_same decider h old new (Arrived kind) g = gone_goes decider h old new g
past_same decider h old new (Answered blocks None) g = seen_goes h old new g
past_same decider h old new (Answered blocks (Some reply)) g = answered_goes h old new g
past_same decider h old new Runs r = record { commands = ap (λ (x : RunView). x.commands) r.run; supply = ap (λ (x : RunView). x.supply) r.run; spawned = ap (λ (x : RunView). is_spawned_at x.place) r.run; number = ap (λ (x : DomainView). x.own.number) r.passed.view; front = front_prefix _ _ _ r.passed.seen }

-- what a running domain's turn left, where it left it as it was once its trace had ended
pub run_goes : (h : SharedHeap) (old new : RunView) (a : Turned) → RunAnswers h old new a → (old.ended ≡ true → StaysOver old new) → GoesOn old new
run_goes h old new a says over = goes old new (run_same h old new a says) over

-- a domain that runs again after a pause
pub resumed_goes : (h : SharedHeap) (old start new : RunView) (a : Turned) → Resumes h old start → RunAnswers h start new a → (start.ended ≡ true → StaysOver start new) → GoesOn old new
resumed_goes h old start new a r says over = goes old new (resumed_same h old start new a r says) (λ ended.
    let o = over (ap (λ (x : RunView). x.ended) r.run ∙ ended) in
    record { ended = o.ended; next = o.next ∙ ap (λ (x : RunView). x.next) r.run; replies = o.replies ∙ ap (λ (x : RunView). x.replies) r.run })

-- a domain whose trace has ended waits for no answer
past_stays : (decider : Decider) (h : SharedHeap) (old new : RunView) (past : LookOutcome) → PastAnswers h decider old new past → IsRun old → old.ended ≡ true → StaysOver old new
past_stays decider h old new (Waits b) w is ended = record { ended = ap (λ (r : RunView). r.ended) w.run ∙ ended; next = ap (λ (r : RunView). r.next) w.run; replies = ap (λ (r : RunView). r.replies) w.run }
past_stays decider h old new (Arrived kind) g is ended = record { ended = ap (λ (r : RunView). r.ended) g.run ∙ ended; next = ap (λ (r : RunView). r.next) g.run; replies = ap (λ (r : RunView). r.replies) g.run }
past_stays decider h old new (Answered blocks None) g is ended = record { ended = ap (λ (r : RunView). r.ended) g.run ∙ ended; next = ap (λ (r : RunView). r.next) g.run; replies = ap (λ (r : RunView). r.replies) g.run }
past_stays decider h old new (Answered blocks (Some reply)) g is ended = absurd (
    let below : old.next < length old.commands = slice_get_within old.commands old.next FullMajor g.waited.next in
    let done : old.next ≡ length old.commands = is.done ended in
    omega (arith, below, done))
past_stays decider h old new Runs r is ended = record { ended = ap (λ (x : RunView). x.ended) r.run ∙ ended; next = ap (λ (x : RunView). x.next) r.run; replies = ap (λ (x : RunView). x.replies) r.run }

pub past_goes : (decider : Decider) (h : SharedHeap) (old new : RunView) (past : LookOutcome) → PastAnswers h decider old new past → IsRun old → GoesOn old new
past_goes decider h old new past says is = goes old new (past_same decider h old new past says) (past_stays decider h old new past says is)

-- and what such a step left
pub calm_goes : (h : SharedHeap) (old new : RunView) (a : Turned) → CalmAnswers h old new a → (old.ended ≡ true → StaysOver old new) → GoesOn old new
calm_goes h old new a says over = goes old new (calm_same h old new a says) over
