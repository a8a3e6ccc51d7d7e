-- What a domain keeps that works for the collector beside the others.
use Rattle.std.proofs.Common.{◌≡◌, ℕ, Bool, false, ⊎_elim, ap}
use Rattle.heap_rule.specs.declared.view.DomainView.{DomainView}
use Rattle.heap_rule.specs.Token.{SharedHeap}
use Rattle.run_turns.specs.Runs.{MarksBeside, RunView, SweepsBeside, Takes, WorksBeside}
use Rattle.run_turns.proofs.Taking.{takes_more, takes_none}

-- its run, its number, its front, what it has noted, the number of its arrivals, its labels, and room for as many ephemerons or more
pub record KeepsOn (h : SharedHeap) (old new : RunView) : Type 0 where
  pub commands : new.commands ≡ old.commands
  pub supply : new.supply ≡ old.supply
  pub place : new.place ≡ old.place
  pub next : new.next ≡ old.next
  pub replies : new.replies ≡ old.replies
  pub ran : new.ran ≡ old.ran
  pub ended : new.ended ≡ old.ended
  pub config : new.token.config ≡ h.config
  pub waiting : new.token.view.own.finalisers ≡ old.token.view.own.finalisers
  pub number : new.token.view.own.number ≡ old.token.view.own.number
  pub front : new.token.view.seen.front ≡ old.token.view.seen.front
  pub notes : new.token.view.seen.notes ≡ old.token.view.seen.notes
  pub arrivals : new.token.view.own.arrivals ≡ old.token.view.own.arrivals
  pub takes : Takes 0 0 old.token.view new.token.view

pub works_keeps : (h : SharedHeap) (old new : RunView) (spent : Bool) → WorksBeside h old new spent → KeepsOn h old new
works_keeps h old new spent = ⊎_elim
    (λ (m : MarksBeside h old new spent). record {
      commands = ap (λ (r : RunView). r.commands) m.run;
      supply = ap (λ (r : RunView). r.supply) m.run;
      place = ap (λ (r : RunView). r.place) m.run;
      next = ap (λ (r : RunView). r.next) m.run;
      replies = ap (λ (r : RunView). r.replies) m.run;
      ran = ap (λ (r : RunView). r.ran) m.run;
      ended = ap (λ (r : RunView). r.ended) m.run;
      config = m.here.1;
      waiting = ap (λ (x : DomainView). x.own.finalisers) m.learnt.view;
      number = ap (λ (x : DomainView). x.own.number) m.learnt.view;
      front = ap (λ (x : DomainView). x.seen.front) m.learnt.view;
      notes = ap (λ (x : DomainView). x.seen.notes) m.learnt.view;
      arrivals = ap (λ (x : DomainView). x.own.arrivals) m.learnt.view;
      takes = takes_none _ _ (ap (λ (x : DomainView). x.own.serial) m.learnt.view) (ap (λ (x : DomainView). x.own.ephemerons) m.learnt.view);
    })
    (λ (s : ((count : ℕ) × SweepsBeside h old new count) × (spent ≡ false)). record {
      commands = ap (λ (r : RunView). r.commands) s.0.1.run;
      supply = ap (λ (r : RunView). r.supply) s.0.1.run;
      place = ap (λ (r : RunView). r.place) s.0.1.run;
      next = ap (λ (r : RunView). r.next) s.0.1.run;
      replies = ap (λ (r : RunView). r.replies) s.0.1.run;
      ran = ap (λ (r : RunView). r.ran) s.0.1.run;
      ended = ap (λ (r : RunView). r.ended) s.0.1.run;
      config = s.0.1.here.1;
      waiting = ap (λ (x : DomainView). x.own.finalisers) s.0.1.swept.view;
      number = ap (λ (x : DomainView). x.own.number) s.0.1.swept.view;
      front = ap (λ (x : DomainView). x.seen.front) s.0.1.swept.view;
      notes = ap (λ (x : DomainView). x.seen.notes) s.0.1.swept.view;
      arrivals = ap (λ (x : DomainView). x.own.arrivals) s.0.1.swept.view;
      takes = takes_more _ _ (ap (λ (x : DomainView). x.own.serial) s.0.1.swept.view) s.0.1.swept.shortens.no_less;
    })
