-- What the clauses of the exports refuse: where a clause holds a wrong outcome doesn't, whatever body met it.
use Rattle.std.proofs.Common.{◌≡◌, ◌≢◌, ◌∙◌, ◌<◌, ◌≤◌, ◌⊎◌, ℕ, ⊎_elim, List, [], ◌∷◌, length, refl, sym, ap, subst, arith}
use Rattle.model_core.specs.declared.command.Command as model
use Rattle.heap_rule.specs.declared.view.DomainView.{DomainView}
use Rattle.heap_rule.specs.Token.{SharedHeap}
use Rattle.run_turns.specs.declared.supply.Supply.TheVariants.{Open, Closed}
use Rattle.run_turns.specs.declared.singly.turning.Came.{Came}
use Rattle.run_turns.specs.declared.singly.turning.Came.TheVariants as came
use Rattle.run_turns.specs.declared.turned.Turned.TheVariants.{Ended as Over}
use Rattle.run_turns.specs.Runs.{GoesOn, RunView, TurnAnswers}
use Rattle.run_turns.specs.Singly.Turning.{CameTo}
use Rattle.run_turns.proofs.OfSingly.Turned.{ended_are_all}
use Rattle.run_turns.specs.Singly.Driving.{Awaits}
use Rattle.run_seats.specs.Beds.Bedding.{BedView}
use Rattle.run_seats.specs.declared.beds.bed.NoBed.TheVariants.{NotFirst, Full, Memory}
use Rattle.run_seats.specs.Shared.Idling.{StaysAlong}
use Rattle.run_seats.specs.Shared.Leaving.{RestsOn}
use Rattle.run_seats.specs.Shared.Sharing.{MayClose, SharedView}
use Rattle.camlheap_c.specs.declared.crossing.CamlheapReply.{CamlheapReply}
use Rattle.camlheap_c.specs.Asking.{GoesAlong}
use Rattle.camlheap_c.specs.Exported as exported
use Rattle.camlheap_c.specs.Exported.{HasEnded, TellsCame}
use Rattle.camlheap_c.specs.Maps.{GoesOnIn}
use Rattle.camlheap_c.specs.Resting.{NoneMade}
use Rattle.camlheap_c.proofs.Waiting.{ends}

-- a turn closes no domain, and hands it no command
pub no_turn_closes : (old new : RunView) → GoesOn old new → old.supply ≡ Open → new.supply ≡ Closed → ⊥
no_turn_closes old new g is_open closed = let clash : Open ≡ Closed = sym is_open ∙ (sym g.supply ∙ closed) in cc

pub no_turn_hands_in : (old new : RunView) (c : model.Command) (cs : List model.Command) → GoesOn old new → old.commands ≡ [] → new.commands ≡ c ∷ cs → ⊥
no_turn_hands_in old new c cs g none some = let clash : [] ≡ c ∷ cs = sym none ∙ (sym g.commands ∙ some) in cc

-- a domain comes back from its bed as open as it was
pub no_resume_closes : (old new : SharedView) → RestsOn old new → MayClose old → new.run.supply ≡ Closed → ⊥
no_resume_closes old new r may closed = let same = (r.along may).1.supply in let clash : Open ≡ Closed = sym may.is_open ∙ (sym same ∙ closed) in cc

-- turns of a domain that has no command to make hand it none
pub no_run_makes_its_own : (old new : SharedView) (c : model.Command) (cs : List model.Command) → StaysAlong old new → old.run.commands ≡ [] → new.run.commands ≡ c ∷ cs → ⊥
no_run_makes_its_own old new c cs along none some = let clash : [] ≡ c ∷ cs = sym none ∙ (sym along.1.commands ∙ some) in cc

-- a domain that has a command to make hasn't ended
pub no_wait_is_an_end : (h : SharedHeap) (start : DomainView) (c : model.Command) (r : RunView) → Awaits h start c r → HasEnded r → ⊥
no_wait_is_an_end h start c r waits ended = ended.1 waits.more

-- nor is it out of commands, by what a call tells of it
pub no_wait_is_hungry : (start : DomainView) (c : model.Command) (old new : SharedView) (before read : CamlheapReply) → exported.GoesOn start c old new before read 3 → ⊥
no_wait_is_hungry start c old new before read g = ⊎_elim (λ (is : 3 ≡ 1). omega (arith, is)) (λ (is : 3 ≡ 2). omega (arith, is)) (g.waits_for (λ (is : 3 ≡ 0). omega (arith, is)))

-- a turn that tells the end found the ends of all traces
pub an_end_is_of_all : (h : SharedHeap) (old new : RunView) → TellsCame h old new 4 → TurnAnswers h old new Over
an_end_is_of_all h old new t = ended_are_all h old new (subst (λ (x : Came). CameTo h old new x) (ends t.came (sym t.told_is)) t.comes)

-- a call on a map hands in no command, and neither does a search
pub no_map_call_hands_in : (old new : SharedView) → GoesOnIn old new → MayClose old → new.run.next < length new.run.commands → ⊥
no_map_call_hands_in old new g may below = let done = (g.ready may).done in omega (arith, done, below)

pub no_search_hands_in : (old new : SharedView) → GoesAlong old new → MayClose old → new.run.next < length new.run.commands → ⊥
no_search_hands_in old new g may below = let done = (g.ready may).done in omega (arith, done, below)

-- nor does one lose what a finaliser replied
pub no_map_call_loses : (old new : SharedView) → GoesOnIn old new → new.run.ran ≢ old.run.ran → ⊥
no_map_call_loses old new g other = other g.ran

pub no_search_loses : (old new : SharedView) → GoesAlong old new → new.run.ran ≢ old.run.ran → ⊥
no_search_loses old new g other = other g.ran

-- a room isn't full before it has 64 beds
pub no_room_is_full_early : (b : BedView SharedView) → NoneMade b 26 → b.beds < 64 → ⊥
no_room_is_full_early b (NotFirst, why) few = let clash : 26 ≡ 19 = why.0 in omega (arith, clash)
no_room_is_full_early b (Full, why) few = let many = why.1.1 in omega (arith, many, few)
no_room_is_full_early b (Memory, why) few = let clash : 26 ≡ 24 = why.0 in omega (arith, clash)
