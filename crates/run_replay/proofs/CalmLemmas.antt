-- What a step of a running domain leaves of its run.
use Rattle.std.proofs.Common.{◌≡◌, ◌∙◌, ℕ, Bool, true, false, refl, sym, ap, subst, ⊎_elim}
use Rattle.heap_rule.specs.declared.view.DomainView.{DomainView}
use Rattle.heap_rule.specs.declared.view.Hunt.TheVariants.{Rests as AtRest}
use Rattle.heap_rule.specs.Standing.{with_front}
use Rattle.heap_rule.specs.Token.{SharedHeap}
use Rattle.do_alloc.proofs.OfPools.Seeking.{sought_view}
use Rattle.run_turns.proofs.SectionTurns.{makes_steps}
use Rattle.run_turns.proofs.Working.{works_keeps}
use Rattle.run_turns.specs.declared.turned.Turned.{Turned}
use Rattle.run_turns.specs.declared.turned.Turned.TheVariants.{Did, Waiting, Hungry, Held, Idle}
use Rattle.run_turns.specs.declared.turned.Turned.TheVariants.{Ended as Over}
use Rattle.run_turns.specs.Runs.{RunView, CalmAnswers, CalmDid, Rests, WorksBeside, MarksBeside, SweepsBeside, asking_end}
use Rattle.run_turns.specs.Runs.CalmDid.{Finalises, Wishes, Refuses, Tries, Works, Ends, Sees, Makes, Tells, WishesToTell}

-- it runs still, and what a replay keeps of it is as it was
pub record KeepsRun (old new : RunView) : Type 0 where
  pub commands : new.commands ≡ old.commands
  pub left : new.left ≡ old.left
  pub supply : new.supply ≡ old.supply
  pub progress : new.progress ≡ old.progress
  pub collected : old.collected ≡ false → new.collected ≡ false
  pub arrivals : new.token.view.own.arrivals ≡ old.token.view.own.arrivals

-- a run that differs in its token and its hints
pub works_run : (h : SharedHeap) (old new : RunView) (spent : Bool) → WorksBeside h old new spent → new ≡ record old { token = new.token; hints = new.hints }
works_run h old new spent = ⊎_elim
    (λ (m : MarksBeside h old new spent). m.run)
    (λ (s : ((count : ℕ) × SweepsBeside h old new count) × (spent ≡ false)). s.0.1.run ∙ ap (λ (r : RunView). record old { token = new.token; hints = r.hints }) (sym s.0.1.run))

-- nor does the wish for the end of a cycle change what it asked for, or its next command
pub asking_asked : (b : Bool) (v : RunView) → (asking_end b v).asked ≡ v.asked
asking_asked false v = refl
asking_asked true v = refl

pub asking_next : (b : Bool) (v : RunView) → (asking_end b v).next ≡ v.next
asking_next false v = refl
asking_next true v = refl

keeps_asking : (spent : Bool) (old new : RunView) → KeepsRun old new → KeepsRun old (asking_end spent new)
keeps_asking false old new k = k
keeps_asking true old new k = record { commands = k.commands; left = k.left; supply = k.supply; progress = k.progress; collected = k.collected; arrivals = k.arrivals }

keeps_did : (h : SharedHeap) (old new : RunView) → CalmDid h old new → KeepsRun old new
keeps_did h old new (Finalises f) = record { commands = ap (λ (r : RunView). r.commands) f.run; left = ap (λ (r : RunView). r.left) f.run; supply = ap (λ (r : RunView). r.supply) f.run; progress = ap (λ (r : RunView). r.progress) f.run; collected = λ e. ap (λ (r : RunView). r.collected) f.run ∙ e; arrivals = ap (λ (v : DomainView). v.own.arrivals) f.first.view }
keeps_did h old new (Wishes a) = record { commands = ap (λ (r : RunView). r.commands) a.run; left = ap (λ (r : RunView). r.left) a.run; supply = ap (λ (r : RunView). r.supply) a.run; progress = ap (λ (r : RunView). r.progress) a.run; collected = λ e. ap (λ (r : RunView). r.collected) a.run ∙ e; arrivals = ap (λ (r : RunView). r.token.view.own.arrivals) a.run }
keeps_did h old new (Refuses a) = record { commands = ap (λ (r : RunView). r.commands) a.run; left = ap (λ (r : RunView). r.left) a.run; supply = ap (λ (r : RunView). r.supply) a.run; progress = ap (λ (r : RunView). r.progress) a.run; collected = λ e. ap (λ (r : RunView). r.collected) a.run ∙ e; arrivals = ap (λ (r : RunView). r.token.view.own.arrivals) a.run ∙ ap (λ (v : DomainView). v.own.arrivals) (sought_view h.config old.token.view (with_front a.searched.view old.token.view.seen.front) AtRest a.refused.view) }
keeps_did h old new (Tries c other t) = record { commands = ap (λ (r : RunView). r.commands) t.run; left = ap (λ (r : RunView). r.left) t.run; supply = ap (λ (r : RunView). r.supply) t.run; progress = ap (λ (r : RunView). r.progress) t.run; collected = λ _. ap (λ (r : RunView). r.collected) t.run; arrivals = t.tried.stays.arrivals }
keeps_did h old new (Works p) =
    let w = works_run h old p.worked p.spent p.works in
    let t = p.tried.run in
    subst (KeepsRun old) (sym p.run) (keeps_asking p.spent old p.made (record {
      commands = ap (λ (r : RunView). r.commands) t ∙ ap (λ (r : RunView). r.commands) w;
      left = ap (λ (r : RunView). r.left) t ∙ ap (λ (r : RunView). r.left) w;
      supply = ap (λ (r : RunView). r.supply) t ∙ ap (λ (r : RunView). r.supply) w;
      progress = ap (λ (r : RunView). r.progress) t ∙ ap (λ (r : RunView). r.progress) w;
      collected = λ _. ap (λ (r : RunView). r.collected) t;
      arrivals = p.tried.tried.stays.arrivals ∙ (works_keeps h old p.worked p.spent p.works).arrivals;
    }))
keeps_did h old new (Ends t) = record { commands = ap (λ (r : RunView). r.commands) t.run; left = ap (λ (r : RunView). r.left) t.run; supply = ap (λ (r : RunView). r.supply) t.run; progress = ap (λ (r : RunView). r.progress) t.run; collected = λ _. ap (λ (r : RunView). r.collected) t.run; arrivals = ap (λ (v : DomainView). v.own.arrivals) t.ended.view }
keeps_did h old new (Sees t) = record { commands = ap (λ (r : RunView). r.commands) t.run; left = ap (λ (r : RunView). r.left) t.run; supply = ap (λ (r : RunView). r.supply) t.run; progress = ap (λ (r : RunView). r.progress) t.run; collected = λ _. ap (λ (r : RunView). r.collected) t.run; arrivals = t.looked.makes.stays.arrivals }
keeps_did h old new (Makes c t) = record { commands = ap (λ (r : RunView). r.commands) t.run; left = ap (λ (r : RunView). r.left) t.run; supply = ap (λ (r : RunView). r.supply) t.run; progress = ap (λ (r : RunView). r.progress) t.run; collected = λ _. ap (λ (r : RunView). r.collected) t.run; arrivals = (makes_steps h old new c t).makes.stays.arrivals }
keeps_did h old new (Tells t) = record { commands = ap (λ (r : RunView). r.commands) t.run; left = ap (λ (r : RunView). r.left) t.run; supply = ap (λ (r : RunView). r.supply) t.run; progress = ap (λ (r : RunView). r.progress) t.run; collected = λ _. ap (λ (r : RunView). r.collected) t.run; arrivals = t.makes.makes.stays.arrivals }
keeps_did h old new (WishesToTell a) = record { commands = ap (λ (r : RunView). r.commands) a.run; left = ap (λ (r : RunView). r.left) a.run; supply = ap (λ (r : RunView). r.supply) a.run; progress = ap (λ (r : RunView). r.progress) a.run; collected = λ e. ap (λ (r : RunView). r.collected) a.run ∙ e; arrivals = ap (λ (r : RunView). r.token.view.own.arrivals) a.run }

keeps_rest : (old new : RunView) (n : ℕ) → Rests old new n → KeepsRun old new
keeps_rest old new n r = record { commands = ap (λ (x : RunView). x.commands) r.run; left = ap (λ (x : RunView). x.left) r.run; supply = ap (λ (x : RunView). x.supply) r.run; progress = ap (λ (x : RunView). x.progress) r.run; collected = λ e. ap (λ (x : RunView). x.collected) r.run ∙ e; arrivals = ap (λ (x : RunView). x.token.view.own.arrivals) r.run }

pub calm_keeps : (h : SharedHeap) (old new : RunView) (a : Turned) → CalmAnswers h old new a → KeepsRun old new
calm_keeps h old new Did says = keeps_did h old new says
calm_keeps h old new (Waiting b) says = absurd says
calm_keeps h old new Hungry says = record { commands = ap (λ (x : RunView). x.commands) says.run; left = ap (λ (x : RunView). x.left) says.run; supply = ap (λ (x : RunView). x.supply) says.run; progress = ap (λ (x : RunView). x.progress) says.run; collected = λ e. ap (λ (x : RunView). x.collected) says.run ∙ e; arrivals = ap (λ (x : RunView). x.token.view.own.arrivals) says.run }
calm_keeps h old new (Held section) says = record { commands = ap (λ (x : RunView). x.commands) says.run; left = ap (λ (x : RunView). x.left) says.run; supply = ap (λ (x : RunView). x.supply) says.run; progress = ap (λ (x : RunView). x.progress) says.run; collected = λ _. ap (λ (x : RunView). x.collected) says.run; arrivals = says.looked.makes.stays.arrivals }
calm_keeps h old new (Idle n) says = keeps_rest old new n says.0
calm_keeps h old new Over says = keeps_rest old new h.config.domains says
