-- What the steps of a heap's only domain come to, by the command that its run has to make.
use Rattle.std.proofs.Common.{◌≡◌, ◌≢◌, ◌∙◌, ◌<◌, inl, inr, List, Option, Some, None, length, arith, refl, sym, ap, subst}
use Rattle.model_core.specs.declared.command.Command as model
use Rattle.model_core.specs.declared.entry.Entry.{Entry}
use Rattle.model_core.specs.declared.reply.Reply.{Reply}
use Rattle.model_core.proofs.Histories.FrontLemmas.{front_whole}
use Rattle.heap_rule.specs.declared.view.DomainView.{DomainView}
use Rattle.heap_rule.specs.Ending.{Begins}
use Rattle.heap_rule.specs.Limits.{sizes_in}
use Rattle.heap_rule.specs.Token.{SharedHeap, IsIn}
use Rattle.gc_pause.specs.declared.phases.decider.Decider.{Decider}
use Rattle.run_turns.specs.declared.supply.Supply.TheVariants.{Listed, Section, Open}
use Rattle.run_turns.specs.declared.turned.Turned.{Turned}
use Rattle.run_turns.specs.declared.turned.Turned.TheVariants.{Did}
use Rattle.run_turns.specs.Runs.{RunView, CalmAnswers, GoesOn, IsRun, PassesOn, Stretches, IsHandedIn, IsUnanswered, answer_of, first_reply, halted, run_seeing}
use Rattle.run_turns.specs.Runs.Stretches.{ByOthers}
use Rattle.run_turns.specs.Sections.{is_spawned_at}
use Rattle.run_turns.specs.Singly.Driving.{AwaitAnswers, Awaits}
use Rattle.run_turns.proofs.GoingLemmas.{IsSame, answered_goes, calm_goes, gone_goes, seen_goes as answer_goes}
use Rattle.run_turns.proofs.Moving.{front_prefix}
use Rattle.run_turns.proofs.Adding.{adds_nothing, adds_nowhere, adds_on, turn_adds}
use Rattle.run_turns.proofs.OfSingly.Driven.{awaits_turn, open_handed}
use Rattle.run_turns.proofs.StretchLemmas.{calm_stretches, passed_stretches}
use Rattle.run_turns.proofs.Taking.{takes_none}
use Rattle.run_alone.specs.Lone.{Tells}

-- whoever has the command to make still hasn't made it
module _ (h : SharedHeap) (a b : RunView) (commands : b.commands ≡ a.commands) (next : b.next ≡ a.next) (first : Tells h a b) (start : DomainView) (c : model.Command) (w : Awaits h start c a) where
  pub still : Awaits h start c b
  still = by (answer_of b) (first.answers start c w) where
    by : (o : Option Reply) → AwaitAnswers h start c b o → Awaits h start c b
    by None x = x
    by (Some reply) x = absurd (
        let done = x.done in
        let one : length b.commands ≡ 1 = ap (λ (cs : List model.Command). length cs) (commands ∙ w.commands) in
        let zeroth = w.next in
        omega (arith, done, one, next, zeroth))

-- one step after the other, where the first hasn't made the command
pub tells_on : (h : SharedHeap) (a b c : RunView) → b.commands ≡ a.commands → b.next ≡ a.next → Tells h a b → Tells h b c → Tells h a c
tells_on h a b c commands next first second = record {
  answers = λ start command w. second.answers start command (still h a b commands next first start command w);
  ran = adds_on (sizes_in h.config) a b c first.ran second.ran;
}

pub tells_itself : (h : SharedHeap) (a : RunView) → Tells h a a
tells_itself h a = record {
  answers = λ start command w. subst (λ (o : Option Reply). AwaitAnswers h start command a o) (sym (none start command w)) w;
  ran = adds_nowhere (sizes_in h.config) a;
}
  where
    none : (start : DomainView) (command : model.Command) → Awaits h start command a → answer_of a ≡ None
    none start command w = λ i. first_reply (w.more i) (w.replies i)

-- a step while it runs
pub tells_calm : (h : SharedHeap) (r s : RunView) (a : Turned) → IsIn r.token h → IsIn s.token h → IsRun r → r.supply ≡ Open → CalmAnswers h r s a → Tells h r s
tells_calm h r s a was here is more says =
    let stretch = calm_stretches h r s a was says in
    let goes = calm_goes h r s a says (λ ended. absurd (is.shut ended more)) in record {
      answers = λ start command w. awaits_turn h start command r s w here stretch goes;
      ran = turn_adds (sizes_in h.config) r s (open_handed r.supply more) goes stretch;
    }

-- one that sees more of the history
pub seen_stretches : (h : SharedHeap) (r : RunView) (history : List Entry) → Begins history r.token.view → Stretches (sizes_in h.config) r (run_seeing r history)
seen_stretches h r history begins = ByOthers (record { next = refl; replies = refl; ran = refl; ended = refl; front = begins; listed = refl; takes = takes_none _ _ refl refl })

pub seen_goes : (r : RunView) (history : List Entry) → Begins history r.token.view → GoesOn r (run_seeing r history)
seen_goes r history begins = record { commands = refl; supply = refl; spawned = refl; number = refl; front = front_prefix _ _ _ begins; over = λ ended. record { ended = ended; next = refl; replies = refl } }

pub tells_seen : (h : SharedHeap) (r : RunView) (history : List Entry) → IsIn r.token h → Begins history r.token.view → Tells h r (run_seeing r history)
tells_seen h r history here begins = record {
  answers = λ start command w. awaits_turn h start command r (run_seeing r history) w here (seen_stretches h r history begins) (seen_goes r history begins);
  ran = adds_nothing (sizes_in h.config) r (run_seeing r history) refl refl begins;
}

-- one that arrives
pub tells_halted : (h : SharedHeap) (r : RunView) → IsIn (halted r).token h → Tells h r (halted r)
tells_halted h r here = record {
  answers = λ start command w. awaits_turn h start command r (halted r) w here
      (ByOthers (record { next = refl; replies = refl; ran = refl; ended = refl; front = front_whole r.token.view.own.number r.token.view.seen.front; listed = refl; takes = takes_none _ _ refl refl }))
      (record { commands = refl; supply = refl; spawned = refl; number = refl; front = front_prefix _ _ _ (front_whole r.token.view.own.number r.token.view.seen.front); over = λ ended. record { ended = ended; next = refl; replies = refl } });
  ran = adds_nothing (sizes_in h.config) r (halted r) refl refl (front_whole r.token.view.own.number r.token.view.seen.front);
}

-- and one that goes on in a pause
same_past : (decider : Decider) (h : SharedHeap) (q s : RunView) → PassesOn h decider q s Did → IsSame q s
same_past decider h q s (inl g) = gone_goes decider h q s g
same_past decider h q s (inr (inl a)) = answered_goes h q s a
same_past decider h q s (inr (inr (inl a))) = answer_goes h q s a
same_past decider h q s (inr (inr (inr a))) = record {
  commands = ap (λ (x : RunView). x.commands) a.run;
  supply = ap (λ (x : RunView). x.supply) a.run;
  spawned = ap (λ (x : RunView). is_spawned_at x.place) a.run;
  number = ap (λ (x : DomainView). x.own.number) a.passed.view;
  front = front_prefix _ _ _ a.passed.seen;
}

pub goes_past : (decider : Decider) (h : SharedHeap) (q s : RunView) → IsRun q → q.supply ≡ Open → PassesOn h decider q s Did → GoesOn q s
goes_past decider h q s is more p = let g = same_past decider h q s p in record { commands = g.commands; supply = g.supply; spawned = g.spawned; number = g.number; front = g.front; over = λ ended. absurd (is.shut ended more) }

pub tells_passed : (decider : Decider) (h : SharedHeap) (q s : RunView) → IsIn q.token h → IsIn s.token h → IsRun q → q.supply ≡ Open → PassesOn h decider q s Did → Tells h q s
tells_passed decider h q s was here is more p =
    let stretch = passed_stretches decider h q s Did was p in
    let goes = goes_past decider h q s is more p in record {
      answers = λ start command w. awaits_turn h start command q s w here stretch goes;
      ran = turn_adds (sizes_in h.config) q s (open_handed q.supply more) goes stretch;
    }

-- a command that was made has a reply
pub never_unanswered : (h : SharedHeap) (r s : RunView) → IsRun r → s.supply ≡ Open → IsRun s → r.next < length r.commands → s.commands ≡ r.commands → s.next ≢ r.next → IsUnanswered s → ⊥
never_unanswered h r s was more is some commands made (inl listed) = let e : Open ≡ Listed = sym more ∙ listed in cc
never_unanswered h r s was more is some commands made (inr (inl section)) = let e : Open ≡ Section = sym more ∙ section in cc
never_unanswered h r s was more is some commands made (inr (inr (inl none))) = let long : length r.commands ≡ 0 = ap length (sym commands ∙ none) in omega (arith, some, long)
never_unanswered h r s was more is some commands made (inr (inr (inr less))) =
    let one = (is.one (subst IsHandedIn (sym more) tt)).one in
    let same : length s.commands ≡ length r.commands = ap length commands in
    made (omega (arith, less, one, same, some))
