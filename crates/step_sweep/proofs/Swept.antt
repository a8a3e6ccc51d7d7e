-- What holds from the rotation on, and the heads that are found then.
use Rattle.std.proofs.Common.{◌≡◌, ℕ, ◌<◌, ◌≤◌, inl, arith, false, true≢false, IsTrue, List, Some, None, Option, sym, ap, ◌∙◌, subst, ⊎_elim}
use mathlib.Core.Option.{some}
use lib.ListN.{get_elem?}
use Rattle.model_core.specs.declared.entry.Entry.{Entry}
use Rattle.heap_rule.specs.declared.config.Config.{Config}
use Rattle.heap_rule.specs.declared.phase.Kind.{Kind}
use Rattle.heap_rule.specs.declared.phase.Kind.TheVariants.{Sweep, Answer}
use Rattle.heap_rule.specs.declared.view.DomainView.{DomainView}
use Rattle.heap_rule.specs.Cycles.{Answering, Facts, IsCollecting, Sweeping}
use Rattle.heap_rule.specs.Layout.{at_address}
use Rattle.heap_rule.specs.Places.{Place}
use Rattle.heap_rule.specs.Pools.{blocks_of, owned, place_in}
use Rattle.heap_rule.specs.Rule.{Rule, state_of}
use Rattle.heap_rule.specs.Views.{one}
use Rattle.heap_rule.proofs.Keeps.{Words, my_good}
use Rattle.step_marks.proofs.OfMarking.Learning.{kind_here, not_promoting}
use Rattle.heap_rule.specs.declared.phase.Stage.TheVariants.{In}
use Rattle.step_sweep.specs.Holding.{Returns}

-- an own place at which neither a block nor garbage lies is free
module _ (k : Config) (s : Words) (r : Rule k s) (id : ℕ) (hist : List Entry) (x : DomainView) (at : get_elem? s.views id ≡ some (one k hist x)) (stage : x.seen.stage ≡ In Sweep) where
  pub sweeping : IsCollecting x.seen.stage
  sweeping = subst IsCollecting (sym stage) (λ none. none)

  pub sweep_facts : Sweeping k (state_of k r.account.log) r.account.live r.account.tenancy r.account.cycling s.words
  sweep_facts = subst (λ (kind : Kind). Facts kind k (state_of k r.account.log) r.account.live r.account.tenancy r.account.cycling s.words) (kind_here k s r id hist x at Sweep stage) r.whole.cycle.facts

  pub empty_free : (a pool class slot : ℕ) → r.account.tenancy.holder pool ≡ owned x.own.number class → slot < blocks_of class → a ≡ place_in pool class slot → r.account.live a ≡ None → r.account.tenancy.garbage a ≡ false → at_address k s.words a ≡ 0
  empty_free a pool class slot own inside begins none clean = let b : ℕ = place_in pool class slot in ap (at_address k s.words) begins ∙ ⊎_elim
      (λ (z : at_address k s.words b ≡ 0). z)
      (λ z. absurd (⊎_elim
      (λ (u : (p : Place) × (r.account.live b ≡ Some p)). let clash : ◌≡◌ {A = Option Place} None (Some u.0) = sym none ∙ (ap r.account.live begins ∙ u.1) in cc)
      (λ u. ⊎_elim
      (λ (f : r.account.tenancy.prepared b ≡ Some x.own.number). not_promoting k s r id hist x at sweeping (r.whole.drawers.prepared b x.own.number f).1)
      (λ (f : IsTrue (r.account.tenancy.garbage b)). true≢false (sym f ∙ (ap r.account.tenancy.garbage (sym begins) ∙ clean)))
      u)
      z))
      (r.whole.grid.places pool x.own.number class slot own inside)

-- where a domain may give pools back no garbage is left in its own
module _ (k : Config) (s : Words) (r : Rule k s) (id : ℕ) (hist : List Entry) (x : DomainView) (at : get_elem? s.views id ≡ some (one k hist x)) (returns : Returns k x) where
  pub returning : IsCollecting x.seen.stage
  returning = ⊎_elim
      (λ (h : (x.seen.stage ≡ In Sweep) × (k.pools ≤ x.own.swept.spot.pool)). subst IsCollecting (sym h.0) (λ none. none))
      (λ (h : x.seen.stage ≡ In Answer). subst IsCollecting (sym h) (λ none. none)) returns

  pub returns_clean : (pool class slot : ℕ) → r.account.tenancy.holder pool ≡ owned x.own.number class → slot < blocks_of class → r.account.tenancy.garbage (place_in pool class slot) ≡ false
  returns_clean pool class slot own inside = ⊎_elim
      (λ (h : (x.seen.stage ≡ In Sweep) × (k.pools ≤ x.own.swept.spot.pool)). (my_good k s r id hist x at).sweeps.places pool class slot own inside
      (let few : pool < k.pools = (r.whole.pools.owned_by pool x.own.number class own).0 in let n : ℕ = k.pools in let m : ℕ = x.own.swept.spot.pool in let past : n ≤ m = h.1 in let below : pool < n = few in inl (let g : pool < m = omega arith in g)))
      (λ (h : x.seen.stage ≡ In Answer).
      let facts : Answering k (state_of k r.account.log) r.account.live r.account.tenancy r.account.cycling s.words = subst (λ (kind : Kind). Facts kind k (state_of k r.account.log) r.account.live r.account.tenancy r.account.cycling s.words) (kind_here k s r id hist x at Answer h) r.whole.cycle.facts in
      facts.clean (place_in pool class slot)) returns
