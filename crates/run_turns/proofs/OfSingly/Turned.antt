-- How far a turn came, by what it answered.
use Rattle.std.specs.Prelude.{◌≤◌, ◌<◌, ◌^◌}
use Rattle.std.proofs.Common.{◌≡◌, ◌∙◌, ap, arith, refl, subst}
use Rattle.heap_rule.specs.Token.{SharedHeap}
use Rattle.run_turns.specs.declared.singly.turning.Came.{Came}
use Rattle.run_turns.specs.declared.singly.turning.Came.TheVariants as came
use Rattle.run_turns.specs.declared.turned.Turned.{Turned}
use Rattle.run_turns.specs.declared.turned.Turned.TheVariants.{Did, Waiting, Hungry, Held, Idle}
use Rattle.run_turns.specs.declared.turned.Turned.TheVariants.{Ended as Over}
use Rattle.run_turns.specs.Runs.{RunView, TurnAnswers}
use Rattle.run_turns.specs.Singly.Turning.{CameTo, far_of}
use Rattle.run_turns.specs.Singly.Turning.CameTo.{Spent, Turns}

-- a run that can't arrive any more comes nowhere
pub spent_nowhere : (h : SharedHeap) (r : RunView) (c : Came) → 2 ^ 60 ≤ r.token.view.own.arrivals → CameTo h r r c → c ≡ came.Nowhere
spent_nowhere h r c many (Spent enough same is) = is
spent_nowhere h r c many (Turns turned few says is) = absurd (omega (arith, many, few))

-- any other as far as its turn, and no other way
pub turned_came : (h : SharedHeap) (old new : RunView) (turned : Turned) (c : Came) → old.token.view.own.arrivals < 2 ^ 60 → ((other : Turned) → TurnAnswers h old new other → other ≡ turned) → CameTo h old new c → c ≡ far_of turned
turned_came h old new turned c few exact (Spent many same is) = absurd (omega (arith, many, few))
turned_came h old new turned c few exact (Turns other below says is) = is ∙ ap far_of (exact other says)

far_done : (t : Turned) → came.Done ≡ far_of t → t ≡ Hungry
far_done Did is = cc
far_done (Waiting b) is = cc
far_done (Idle n) is = cc
far_done (Held section) is = cc
far_done Hungry is = refl
far_done Over is = cc

far_ended : (t : Turned) → came.Ended ≡ far_of t → t ≡ Over
far_ended Did is = cc
far_ended (Waiting b) is = cc
far_ended (Idle n) is = cc
far_ended (Held section) is = cc
far_ended Hungry is = cc
far_ended Over is = refl

-- a turn that has nothing left to do until the next command had none to make when it began to run, and gets more: a body that says so earlier is refused
pub done_has_none : (h : SharedHeap) (old new : RunView) → CameTo h old new came.Done → TurnAnswers h old new Hungry
done_has_none h old new (Spent many same is) = absurd (let clash : came.Done ≡ came.Nowhere = is in cc)
done_has_none h old new (Turns turned few says is) = subst (TurnAnswers h old new) (far_done turned is) says

-- a turn that says that all traces have ended found as many ends as there are domains: one that says so when its own has ended is refused
pub ended_are_all : (h : SharedHeap) (old new : RunView) → CameTo h old new came.Ended → TurnAnswers h old new Over
ended_are_all h old new (Spent many same is) = absurd (let clash : came.Ended ≡ came.Nowhere = is in cc)
ended_are_all h old new (Turns turned few says is) = subst (TurnAnswers h old new) (far_ended turned is) says
