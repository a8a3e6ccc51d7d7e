-- Each phase of the marking that asks for another one marks a block: what the steps need of it.
use mathlib.Core.Logic.{dite}
use native.Mathlib.Decide.{ℕ_discrete}
use Rattle.std.proofs.Math.Nat.{mul_assoc}
use Rattle.std.proofs.Common.{◌≡◌, ℕ, suc, zero, ◌+◌, ◌*◌, ◌/◌, ◌<◌, ◌≤◌, Bool, IsTrue, List, length, Option, Some, None, sym, ap, ◌∙◌, subst, arith}
use Rattle.std.specs.List.{cons_option}
use Rattle.model_core.specs.declared.label.Label.{Label}
use Rattle.model_core.specs.Graph.{has_label, same_label}
use Rattle.model_core.proofs.Graphs.GraphLemmas.{same_label_refl}
use Rattle.model_core.proofs.Reach.ReachLemmas.{or_left, or_right}
use Rattle.model_cycle.specs.Ending.{unmarked_of}
use Rattle.model_cycle.proofs.Ending.{unmarked_few}
use Rattle.heap_rule.specs.declared.config.Config.{Config}
use Rattle.heap_rule.specs.declared.phase.Kind.{Kind}
use Rattle.heap_rule.specs.declared.phase.Kind.TheVariants.{Run, Promote, Reset, Roots, Mark, Rounds, Decide, Queued, Clean, Lasts, Sweep, Answer}
use Rattle.heap_rule.specs.Cycles.{Cycling, Grows, HasNoCycle, IsMarking, label_in, labels_in, pool_labels, starts_to}
use Rattle.heap_rule.specs.Phases.{Pause}
use Rattle.heap_rule.specs.Places.{Live, Place}
use Rattle.heap_rule.specs.Pools.{Grid, Pools, Tenancy, size_of}
use Rattle.heap_rule.proofs.Classes.{size_fours, size_least, slot_inside}

-- outside the marking nothing is said
pub grows_none : (k : Config) (live : Live) (p : Pause) (c : Cycling) → (IsMarking c.kind → ⊥) → Grows k live p c
grows_none k live p c none = record { few = λ is. absurd (none is); since = λ is _. absurd (none is); named = λ is _ _ _. absurd (none is); cleared = λ is _ _. absurd (none is) }

-- and where no collection is under way there is no marking
pub no_marking : (kind : Kind) → HasNoCycle kind → IsMarking kind → ⊥
no_marking Run none is = is
no_marking Promote none is = is
no_marking Reset none is = is
no_marking Roots none is = is
no_marking Mark none is = none
no_marking Rounds none is = none
no_marking Decide none is = is
no_marking Queued none is = is
no_marking Clean none is = is
no_marking Lasts none is = is
no_marking Sweep none is = is
no_marking Answer none is = is

-- the label of a block is among those of the first addresses at which blocks may begin
among_starts : (live : Live) (n i a : ℕ) (l : Label) → i < n → a ≡ i * 4 + 1 → label_in (live a) ≡ Some l → IsTrue (has_label (labels_in live (starts_to n)) l)
among_starts live zero i a l below begins there = absurd (let h : i < 0 = below in omega arith)
among_starts live (suc n) i a l below begins there = dite (ℕ_discrete i n)
    (λ same. subst (λ (o : Option Label). IsTrue (has_label (cons_option o (labels_in live (starts_to n))) l)) (sym (ap (λ (b : ℕ). label_in (live b)) (sym (begins ∙ ap (λ (m : ℕ). m * 4 + 1) same)) ∙ there))
    (or_left (same_label l l) (has_label (labels_in live (starts_to n)) l) (same_label_refl l)))
    (λ other. later (label_in (live (n * 4 + 1))) (among_starts live n i a l (let h : i < suc n = below in omega (h, other, arith)) begins there))
  where
    later : (o : Option Label) → IsTrue (has_label (labels_in live (starts_to n)) l) → IsTrue (has_label (cons_option o (labels_in live (starts_to n))) l)
    later None is = is
    later (Some m) is = or_right (same_label m l) (has_label (labels_in live (starts_to n)) l) is

few_starts : (live : Live) (n : ℕ) → length (labels_in live (starts_to n)) ≤ n
few_starts live zero = omega arith
few_starts live (suc n) = go (label_in (live (n * 4 + 1))) (few_starts live n)
  where
    go : (o : Option Label) → length (labels_in live (starts_to n)) ≤ n → length (cons_option o (labels_in live (starts_to n))) ≤ suc n
    go None h = omega (h, arith)
    go (Some m) h = omega (h, arith)

-- a block that lies in a pool is among them
pub pooled : (k : Config) (t : Tenancy) (words : List ℕ) (live : Live) → Pools k t words → Grid k t live words → (a : ℕ) (p : Place) → live a ≡ Some p → a ≤ k.pools * 4096 → IsTrue (has_label (pool_labels k live) p.label)
pooled k t words live pools grid a p lives inside =
    let l = grid.lots a p lives inside in
    let o = pools.owned_by l.pool l.domain l.class l.owned_is in
    let z : ℕ = size_of l.class in
    let quarter : ℕ = z / 4 in
    let fours : quarter * 4 ≡ z = size_fours l.class o.2 in
    let s : ℕ = l.slot * quarter in
    let e : l.slot * z ≡ s * 4 = ap (λ (m : ℕ). l.slot * m) (sym fours) ∙ sym (mul_assoc l.slot quarter 4) in
    let b : ℕ = l.slot * z in
    let ends : b + z ≤ 4096 = slot_inside l.class l.slot o.2 l.inside in
    let b_is : b ≡ s * 4 = e in
    let q : ℕ = l.pool in
    let least : 4 ≤ z = size_least l.class o.2 in
    let begins : a ≡ q * 4096 + b + 1 = l.begins in
    let below : q < k.pools = o.0 in
    among_starts live (k.pools * 1024) (q * 1024 + s) a p.label (let n : ℕ = k.pools in let g : q * 1024 + s < n * 1024 = omega (ends, b_is, least, below, arith) in g) (let g : a ≡ (q * 1024 + s) * 4 + 1 = omega (begins, b_is, arith) in g) (ap label_in lives)

-- so there are at most so many
pub few_pooled : (k : Config) (live : Live) (marked : Label → Bool) → unmarked_of (pool_labels k live) marked ≤ k.pools * 1024
few_pooled k live marked =
    let n : ℕ = k.pools * 1024 in
    let u : ℕ = unmarked_of (pool_labels k live) marked in
    let most : u ≤ length (pool_labels k live) = unmarked_few (pool_labels k live) marked in
    let m : ℕ = length (pool_labels k live) in
    let few : m ≤ n = few_starts live n in
    let h : u ≤ m = most in
    let g : u ≤ n = omega (h, few, arith) in g
