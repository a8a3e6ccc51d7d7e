-- Turns of a domain that has a command to make.
use Rattle.std.proofs.Common.{◌≡◌, ◌⊎◌, ◌<◌, ◌≤◌, ℕ, List, length, inl, inr, sym, ap, subst, refl, arith}
use Rattle.model_core.specs.declared.command.Command as model
use Rattle.model_core.specs.declared.reply.Reply.{Reply}
use Rattle.heap_rule.specs.declared.view.DomainView.{DomainView}
use Rattle.heap_rule.specs.Token.{SharedHeap}
use Rattle.run_turns.specs.declared.singly.turning.Came.{Came}
use Rattle.run_turns.specs.declared.singly.turning.Came.TheVariants as came
use Rattle.heap_rule.specs.Limits.{sizes_in}
use Rattle.run_turns.specs.Runs as runs
use Rattle.run_turns.specs.Runs.{IsHandedIn, RunView, Stretches}
use Rattle.run_turns.specs.Singly.Driving.{Answered, Awaits}
use Rattle.run_turns.specs.Singly.Turning.{CameTo}
use Rattle.run_turns.proofs.Adding.{adds_on, turn_adds}
use Rattle.run_turns.proofs.OfSingly.Turned.{done_has_none}
use Rattle.run_seats.specs.Shared.Sharing.{SharedView}
use Rattle.camlheap_c.specs.declared.crossing.CamlheapReply.{CamlheapReply}
use Rattle.camlheap_c.specs.Exported.{Adds, GoesOn, TellsLast}
use Rattle.camlheap_c.specs.Forms.{came_form, refused_form, reply_form}
use Rattle.run_seats.specs.declared.shared.shared.Refused.{Refused}
use Rattle.run_seats.specs.declared.shared.shared.Refused.TheVariants.{Closed, Busy, Unfit}
use Rattle.run_turns.specs.declared.singly.refusing.Refusal.TheVariants as lacks

-- a turn's answer isn't that of a command that is made
pub not_done : (x : Came) → came_form x ≡ 0 → ⊥
not_done came.On is = cc
not_done came.Nowhere is = cc
not_done came.Done is = cc
not_done came.Ended is = cc

-- why a command isn't taken is told by a number from 17 on
pub refused_above : (x : Refused) → 17 ≤ refused_form x
refused_above Closed = omega arith
refused_above Busy = omega arith
refused_above (Unfit lacks.Shape) = omega arith
refused_above (Unfit lacks.NoEphemeron) = omega arith
refused_above (Unfit lacks.NoFinaliser) = omega arith
refused_above (Unfit lacks.NoLabel) = omega arith

-- and how far a turn came by one below 5
pub came_below : (x : Came) → came_form x < 5
came_below came.On = omega arith
came_below came.Nowhere = omega arith
came_below came.Done = omega arith
came_below came.Ended = omega arith

-- by a turn's number, it has ended
pub ends : (x : Came) → came_form x ≡ 4 → x ≡ came.Ended
ends came.On is = cc
ends came.Nowhere is = cc
ends came.Done is = cc
ends came.Ended is = refl

-- a turn that has nothing left to do leaves no command waiting
pub hungry_waits_not : (h k : SharedHeap) (start : DomainView) (c : model.Command) (old new : RunView) → Awaits h start c new → CameTo k old new came.Done → ⊥
hungry_waits_not h k start c old new waits came_to =
    let hungers = (done_has_none k old new came_to).2 in
    let past : length new.commands ≤ new.next = subst (λ (r : RunView). length r.commands ≤ r.next) (sym hungers.run) hungers.past in
    let one : length new.commands ≡ 1 = ap (λ (cs : List model.Command). length cs) waits.commands in
    let next = waits.next in
    omega (arith, past, one, next)

-- so behind a turn where one waits it may go on, or others are missing
pub waits_as : (x : Came) (told : ℕ) → told ≡ came_form x → (x ≡ came.Done → ⊥) → (x ≡ came.Ended → ⊥) → (told ≡ 1) ⊎ (told ≡ 2)
waits_as came.On told is hungry ended = inl is
waits_as came.Nowhere told is hungry ended = inr is
waits_as came.Done told is hungry ended = absurd (hungry refl)
waits_as came.Ended told is hungry ended = absurd (ended refl)

-- a turn behind others
pub ran_on : (a mid new : SharedView) → mid.heap ≡ a.heap → runs.GoesOn a.run mid.run → (IsHandedIn a.run.supply → Adds a mid) → runs.GoesOn mid.run new.run → Stretches (sizes_in mid.heap.config) mid.run new.run → IsHandedIn a.run.supply → Adds a new
ran_on a mid new heap before so on stretch handed =
    adds_on (sizes_in a.heap.config) a.run mid.run new.run (so handed)
    (turn_adds (sizes_in a.heap.config) mid.run new.run (subst IsHandedIn (sym before.supply) handed) on (subst (λ (h : SharedHeap). Stretches (sizes_in h.config) mid.run new.run) heap stretch))

pub tells_last : (a mid new : SharedView) (x : Came) (told : ℕ) → mid.heap ≡ a.heap → runs.GoesOn a.run mid.run → told ≡ came_form x → CameTo mid.heap mid.run new.run x → TellsLast a new told
tells_last a mid new x told heap before is comes = record { last = mid.run; before = before; came = record { came = x; told_is = is; comes = subst (λ (h : SharedHeap). CameTo h mid.run new.run x) heap comes } }

module _ (start : DomainView) (c : model.Command) (old new : SharedView) (before : CamlheapReply) where
  -- the command is made
  pub made : (r : Reply) (read : CamlheapReply) → new.heap ≡ old.heap → read ≡ reply_form r → Answered old.heap start c r new.run → GoesOn start c old new before read 0
  made r read heap is answered = record {
    heap = heap;
    made = λ done. record { reply = r; is_read = is; answered = subst (λ (h : SharedHeap). Answered h start c r new.run) (sym heap) answered };
    waits = λ other. absurd (other refl);
    waits_for = λ other. absurd (other refl);
    unread = λ other. absurd (other refl);
  }

  -- it isn't
  pub not_made : (told : ℕ) → (told ≡ 0 → ⊥) → (told ≡ 1) ⊎ (told ≡ 2) → new.heap ≡ old.heap → Awaits old.heap start c new.run → GoesOn start c old new before before told
  not_made told other which heap awaits = record {
    heap = heap;
    made = λ done. absurd (other done);
    waits = λ ne. subst (λ (h : SharedHeap). Awaits h start c new.run) (sym heap) awaits;
    waits_for = λ ne. which;
    unread = λ ne. refl;
  }
