-- What the collector's entries leave: the blocks, and each domain's registers, registrations and queue.
use Rattle.std.proofs.Common.{◌≡◌, ℕ, Bool, true, false, List, [], ◌∷◌, ◌++◌, set, Option, Some, None, refl, inl}
use mathlib.Core.Option.{some}
use lib.ListN.{get_elem?}
use Rattle.model_core.specs.declared.entry.Entry.{Entry}
use Rattle.model_core.specs.declared.entry.Entry.TheVariants.{Cut, Seal, Collected, Done}
use Rattle.model_core.specs.declared.state.State as model
use Rattle.model_core.specs.Entries.{Allowed, next as state_next}
use Rattle.model_core.specs.Fronts.{IsFrontOf, KeepsDomain}
use Rattle.model_core.specs.History.{Legal, is_entry_of}
use Rattle.model_core.proofs.Commands.FrameLemmas.{keeps_next}
use Rattle.model_core.proofs.Histories.FrontLemmas.{front_push, front_whole}
use Rattle.heap_rule.specs.declared.config.Config.{Config}
use Rattle.heap_rule.specs.declared.phase.Kind.{Kind}
use Rattle.heap_rule.specs.declared.phase.Kind.TheVariants.{Run, Roots, Rounds, Decide, Queued, Clean, Lasts, Sweep, Answer}
use Rattle.heap_rule.specs.declared.view.DomainView.{DomainView}
use Rattle.heap_rule.specs.Limits.{sizes_in}
use Rattle.heap_rule.specs.Rule.{Rule, state_of}
use Rattle.heap_rule.specs.Views.{EachView, Knows, one}
use Rattle.heap_rule.proofs.FinaliserLemmas.{KeepsWork, QueuesNothing, work_next}
use Rattle.heap_rule.proofs.Keeps.{Words, mine, now, knows_front, knows_entry, after_entry, legal_entry}
use Rattle.step_pauses.specs.Pauses.{entry_of}
use Rattle.step_pauses.proofs.Naming.{left_by, logged}

-- the entries that stand where a kind is named
abbrev pub IsOfCollector : Entry → Type 0
IsOfCollector Cut = Unit {0}
IsOfCollector Seal = Unit {0}
IsOfCollector Collected = Unit {0}
IsOfCollector Done = Unit {0}
IsOfCollector _ = ⊥

abbrev pub OfCollector : Option Entry → Type 0
OfCollector None = Unit {0}
OfCollector (Some e) = IsOfCollector e

pub entry_of_collector : (unswept : Bool) (last next : Kind) → OfCollector (entry_of unswept last next)
entry_of_collector unswept Rounds Decide = tt
entry_of_collector unswept Rounds Clean = tt
entry_of_collector unswept Queued Clean = tt
entry_of_collector unswept Lasts Run = tt
entry_of_collector unswept Sweep Answer = tt
entry_of_collector true Sweep Roots = tt
entry_of_collector false Sweep Roots = tt
entry_of_collector unswept Answer Run = tt
entry_of_collector unswept _ _ = tt

-- they are no domain's
alone : (e : Entry) → IsOfCollector e → (d : ℕ) → is_entry_of d e ≡ false
alone Cut is d = refl
alone Seal is d = refl
alone Collected is d = refl
alone Done is d = refl
alone _ is d = absurd is

-- they queue nothing
queues_nothing : (e : Entry) → IsOfCollector e → QueuesNothing e
queues_nothing Cut is = tt
queues_nothing Seal is = tt
queues_nothing Collected is = tt
queues_nothing Done is = tt
queues_nothing _ is = absurd is

graph_next : (s : model.State) (e : Entry) → IsOfCollector e → (state_next s e).graph ≡ s.graph
graph_next s Cut is = refl
graph_next s Seal is = refl
graph_next s Collected is = refl
graph_next s Done is = refl
graph_next s _ is = absurd is

pub keeps_left : (s : model.State) (o : Option Entry) → OfCollector o → (d : ℕ) → KeepsDomain s (left_by s o) d
keeps_left s None is d = record { registers = refl; serial = refl; ended = refl }
keeps_left s (Some e) is d = keeps_next s e d (alone e is d)

pub work_left : (s : model.State) (o : Option Entry) → OfCollector o → (d : ℕ) → KeepsWork s (left_by s o) d
work_left s None is d = record { finals = refl; lasts = refl; queue = refl }
work_left s (Some e) is d = work_next s e d (alone e is d) (queues_nothing e is)

pub graph_left : (s : model.State) (o : Option Entry) → OfCollector o → (left_by s o).graph ≡ s.graph
graph_left s None is = refl
graph_left s (Some e) is = graph_next s e is

-- the own front then
abbrev pub front_then : List Entry → List Entry → Option Entry → List Entry
front_then front log None = front
front_then front log (Some e) = log ++ e ∷ []

module _ (k : Config) (s : Words) (r : Rule k s) (id : ℕ) (hist : List Entry) (x : DomainView) (at : get_elem? s.views id ≡ some (one k hist x)) where
  pub after_logged : (o : Option Entry) → state_of k (logged r.account.log o) ≡ left_by (now k s r id hist x at) o
  after_logged None = refl
  after_logged (Some e) = after_entry k s r id hist x at e

  pub legal_logged : (o : Option Entry) → ((e : Entry) → o ≡ Some e → Allowed (now k s r id hist x at) e) → Legal (sizes_in k) (logged r.account.log o)
  legal_logged None allowed = r.whole.legal
  legal_logged (Some e) allowed = legal_entry k s r id hist x at e (allowed e refl)

  -- what the seats know
  pub knows_logged : (o : Option Entry) → OfCollector o → x.own.number ≡ 0 → (y : DomainView) → y.own.number ≡ x.own.number → y.seen.front ≡ front_then x.seen.front r.account.log o
      → EachView (Knows k (logged r.account.log o) r.seat) (set s.views id (one k hist y))
  knows_logged None is leads y number front = knows_front k s r id hist x at y number (inl front)
  knows_logged (Some e) is leads y number front = knows_entry k s r id hist x at y e (λ d _. alone e is d) (λ other. absurd (other leads)) number front

  -- the front grows by entries that are no domain's
  pub seen_then : (o : Option Entry) → OfCollector o → IsFrontOf x.own.number (front_then x.seen.front r.account.log o) x.seen.front
  seen_then None is = front_whole x.own.number x.seen.front
  seen_then (Some e) is = front_push x.own.number r.account.log x.seen.front e (alone e is x.own.number) (mine k s r id hist x at).front
