-- A step of a heap's only domain, while it runs and gets no more command.
use Rattle.std.proofs.Common.{true≢false, ⊎_elim, List, ◌≡◌, ◌∙◌, ◌⊎◌, ◌+◌, ◌<◌, ◌≤◌, inl, inr, true, false, length, slice_get, Some, arith, sym, ap}
use Rattle.model_core.specs.declared.command.Command as model
use Rattle.heap_rule.specs.declared.view.DomainView.{DomainView}
use Rattle.heap_rule.specs.Token.{SharedHeap, IsIn}
use Rattle.model_core.specs.declared.entry.Entry.{Entry}
use Rattle.run_turns.proofs.Owing.{ran_count}
use Rattle.run_turns.proofs.Turning.{inside}
use Rattle.run_turns.specs.declared.supply.Supply.TheVariants.{Closed, Open, Section}
use Rattle.run_turns.specs.declared.turned.Turned.{Turned}
use Rattle.run_turns.specs.declared.turned.Turned.TheVariants.{Did, Waiting as WaitsFor, Hungry, Held, Idle}
use Rattle.run_turns.specs.declared.turned.Turned.TheVariants.{Ended as Over}
use Rattle.run_turns.specs.Runs.{AddsRan, RunView, CalmAnswers, CalmDid, IsRun}
use Rattle.run_turns.specs.Runs.CalmDid.{Finalises, Wishes, Refuses, Tries, Works, Ends, Sees, Makes, Tells, WishesToTell}
use Rattle.step_finalisers.specs.Registering.{count_of}
use Rattle.heap_rule.specs.Limits.{sizes_in}
use Rattle.run_turns.proofs.Adding.{adds_on, turn_adds}
use Rattle.run_turns.proofs.OfSingly.Driven.{closed_handed}
use Rattle.run_turns.proofs.GoingLemmas.{calm_goes}
use Rattle.run_turns.proofs.StretchLemmas.{calm_stretches}
use Rattle.run_alone.specs.Idling.{IdleAnswers, Idles}
use Rattle.run_alone.proofs.Idling.{idles_on}
use Rattle.run_alone.proofs.Keeping.{works_run}

-- its trace has ended, or it ran a finaliser
pub record Closes (r s : RunView) : Type 0 where
  pub supply : s.supply ≡ r.supply
  pub left : s.left ≡ r.left
  pub commands : s.commands ≡ r.commands
  pub next : s.next ≡ r.next
  pub fewer : (s.ended ≡ true) ⊎ ((s.ended ≡ r.ended) × (count_of s.token.view.own.finalisers < count_of r.token.view.own.finalisers))

module _ (h : SharedHeap) (r s : RunView) (closed : r.supply ≡ Closed) (past : length r.commands ≤ r.next) (going : r.ended ≡ false) where
  no_section : r.supply ≡ Section → ⊥
  no_section section = let e : Closed ≡ Section = sym closed ∙ section in cc

  none_left : (c : model.Command) → slice_get r.commands r.next ≡ Some c → ⊥
  none_left c at = let few = inside r.commands r.next c at in omega (arith, few, past)

  did : CalmDid h r s → Closes r s
  did (Finalises f) = record {
    supply = ap (λ (v : RunView). v.supply) f.run;
    left = ap (λ (v : RunView). v.left) f.run;
    commands = ap (λ (v : RunView). v.commands) f.run;
    next = ap (λ (v : RunView). v.next) f.run;
    fewer = inr (ap (λ (v : RunView). v.ended) f.run, let one = ap (λ (x : DomainView). count_of x.own.finalisers + 1) f.first.view ∙ ran_count f.first.first r.token.view.own f.first.is_first in omega (arith, one));
  }
  did (Wishes a) = absurd (none_left a.command a.next)
  did (Refuses a) = absurd (none_left a.command a.next)
  did (Tries c other t) = absurd (none_left c t.next)
  did (Works p) = let w = works_run h r p.worked p.spent p.works in absurd (none_left _ ((λ i. slice_get (ap (λ (v : RunView). v.commands) (sym w) i) (ap (λ (v : RunView). v.next) (sym w) i)) ∙ p.tried.next))
  did (Ends e) = record {
    supply = ap (λ (v : RunView). v.supply) e.run;
    left = ap (λ (v : RunView). v.left) e.run;
    commands = ap (λ (v : RunView). v.commands) e.run;
    next = ap (λ (v : RunView). v.next) e.run;
    fewer = inl (ap (λ (v : RunView). v.ended) e.run);
  }
  did (Sees t) = absurd (no_section t.sectioned)
  did (Makes c t) = absurd (no_section t.sectioned)
  did (Tells t) = absurd (no_section t.sectioned)
  did (WishesToTell a) = absurd (no_section a.sectioned)

  pub closes : (a : Turned) → CalmAnswers h r s a → Closes r s
  closes Did c = did c
  closes (WaitsFor n) c = absurd c
  closes Hungry c = absurd (let e : Closed ≡ Open = sym closed ∙ c.more in cc)
  closes (Held section) c = absurd (no_section c.sectioned)
  closes (Idle n) c = absurd (true≢false (sym c.0.over ∙ going))
  closes Over c = absurd (true≢false (sym c.over ∙ going))

-- whatever it had to make none of
pub idles_calm : (h : SharedHeap) (front : List Entry) (r s : RunView) (a : Turned) → Idles h front r → IsIn s.token h → IsRun s → CalmAnswers h r s a → IdleAnswers h front s s.ended
idles_calm h front r s a idle here is says = idles_on h front r s idle here (calm_stretches h r s a idle.here says) (calm_goes h r s a says (λ ended. absurd (true≢false (sym ended ∙ idle.running)))) is

-- one that hasn't ended ran a finaliser
pub closes_fewer : (r s : RunView) → Closes r s → s.ended ≡ false → (s.ended ≡ r.ended) × (count_of s.token.view.own.finalisers < count_of r.token.view.own.finalisers)
closes_fewer r s c running = ⊎_elim (λ ended. absurd (true≢false (sym ended ∙ running))) (λ ran. ran) c.fewer

-- and what waits to be taken grows at its end
pub closes_adds : (h : SharedHeap) (start r s : RunView) (a : Turned) → IsIn r.token h → r.supply ≡ Closed → r.ended ≡ false → AddsRan (sizes_in h.config) start r → CalmAnswers h r s a → AddsRan (sizes_in h.config) start s
closes_adds h start r s a here closed running adds says =
    adds_on (sizes_in h.config) start r s adds (turn_adds (sizes_in h.config) r s (closed_handed r.supply closed) (calm_goes h r s a says (λ ended. absurd (true≢false (sym ended ∙ running)))) (calm_stretches h r s a here says))
