-- A command that is made at once, or handed in.
use Rattle.std.proofs.Common.{◌≡◌, ◌∙◌, ◌⊎◌, ◌+◌, ⊎_elim, ℕ, Some, None, refl, sym, ap}
use Rattle.model_core.specs.declared.command.Command as model
use Rattle.model_core.specs.declared.reply.Reply.{Reply}
use Rattle.heap_rule.specs.declared.config.Config.{Config}
use Rattle.heap_rule.specs.declared.view.DomainView.{DomainView}
use Rattle.heap_rule.specs.declared.view.Hunt.TheVariants.{Rests as AtRest}
use Rattle.heap_rule.specs.Standing.{with_front}
use Rattle.heap_rule.specs.Token.{SharedHeap, IsIn}
use Rattle.do_alloc.proofs.OfPools.Seeking.{sought_view}
use Rattle.run_turns.specs.declared.supply.Supply.TheVariants.{Open}
use Rattle.run_turns.specs.Runs.{AddsRan, RunView, IsRun, MakesNow, MaySubmit, PutsOff, submitted, wanting}
use Rattle.run_turns.specs.Runs.PutsOff.{HasArrived, OwesFinaliser, WorksFirst, IsWanted, IsTried}
use Rattle.run_turns.specs.Singly.Driving.{Awaits}
use Rattle.heap_rule.specs.Limits.{sizes_in}
use Rattle.run_turns.proofs.Adding.{adds_on, now_adds, submit_adds}
use Rattle.run_turns.proofs.AtOnce.{has_waited}
use Rattle.run_turns.proofs.OfSingly.Begun.{handed_in, may_still}
use Rattle.run_alone.specs.Lone.{IsLone}
use Rattle.run_alone.specs.Paces.{last_of}
use Rattle.run_alone.proofs.Paces.{last_running}
use Rattle.run_alone.proofs.Served.{lone_submitted}

-- where it was put off the domain has arrived as often as before
pub arrivals_stay : (h : SharedHeap) (old new : RunView) (c : model.Command) → PutsOff h old new c → new.token.view.own.arrivals ≡ old.token.view.own.arrivals
arrivals_stay h old new c (HasArrived left is) = ap (λ (r : RunView). r.token.view.own.arrivals) is
arrivals_stay h old new c (OwesFinaliser owes is) = ap (λ (r : RunView). r.token.view.own.arrivals) is
arrivals_stay h old new c (WorksFirst polls is) = ap (λ (r : RunView). r.token.view.own.arrivals) is
arrivals_stay h old new c (IsWanted found some is) = ap (λ (r : RunView). r.token.view.own.arrivals) is
arrivals_stay h old new c (IsTried tried) = ⊎_elim
    (λ a. ap (λ (r : RunView). r.token.view.own.arrivals) a.0)
    (λ b. ap (λ (x : DomainView). x.own.arrivals) (sought_view h.config (wanting old 0).token.view (with_front new.token.view old.token.view.seen.front) AtRest b.1.view))
    tried

-- two running domains that have arrived as often
last_same : (k : Config) (old new : RunView) → old.left ≡ None → new.left ≡ None → new.token.view.own.arrivals ≡ old.token.view.own.arrivals → last_of k new ≡ last_of k old
last_same k old new was now same = last_running k new now ∙ (ap (λ (n : ℕ). n + 1) same ∙ sym (last_running k old was))

-- it was made at once
module _ (h : SharedHeap) (old new : RunView) (c : model.Command) (reply : Reply) (m : MakesNow h old new c reply) where
  pub made_unasked : new.asked ≡ None
  made_unasked = ap (λ (r : RunView). r.asked) m.made.0

  pub made_lone : IsIn new.token h → IsRun new → h.config.domains ≡ 1 → old.supply ≡ Open → IsLone h new
  made_lone here is alone more = lone_submitted h new here is alone (ap (λ (r : RunView). r.supply) m.made.0 ∙ more) made_unasked

  pub made_last : last_of h.config new ≡ last_of h.config old
  made_last = last_same h.config old new m.runs (ap (λ (r : RunView). r.left) m.made.0 ∙ m.runs) m.made.1.stays.arrivals

  pub made_adds : IsIn old.token h → AddsRan (sizes_in h.config) old new
  made_adds was = now_adds h old new c (Some reply) was m

  pub made_arrivals : new.token.view.own.arrivals ≡ old.token.view.own.arrivals
  made_arrivals = m.made.1.stays.arrivals

-- or put off, and handed in
module _ (h : SharedHeap) (old between : RunView) (c : model.Command) (was : IsIn old.token h) (here : IsIn between.token h) (may : MaySubmit old c) (p : PutsOff h old between c) where
  pub off_may : MaySubmit between c
  off_may = may_still old between c may (has_waited h old between c p)

  pub off_awaits : Awaits h old.token.view c (submitted between c)
  off_awaits = handed_in h old between (submitted between c) c here may.more (has_waited h old between c p) refl

  pub off_lone : IsRun (submitted between c) → h.config.domains ≡ 1 → IsLone h (submitted between c)
  off_lone is alone = lone_submitted h (submitted between c) here is alone (ap (λ (r : RunView). r.supply) (has_waited h old between c p).run ∙ may.more) refl

  pub off_adds : AddsRan (sizes_in h.config) old (submitted between c)
  off_adds = adds_on (sizes_in h.config) old between (submitted between c) (now_adds h old between c None was p) (submit_adds (sizes_in h.config) between c)

  pub off_last : old.left ≡ None → last_of h.config (submitted between c) ≡ last_of h.config old
  off_last runs = last_same h.config old (submitted between c) runs (ap (λ (r : RunView). r.left) (has_waited h old between c p).run ∙ runs) (arrivals_stay h old between c p)

  pub off_last_any : (old.left ≡ None) ⊎ (between ≡ old) → last_of h.config (submitted between c) ≡ last_of h.config old
  off_last_any e = ⊎_elim off_last (λ (same : between ≡ old). ap (λ (r : RunView). last_of h.config (submitted r c)) same) e
