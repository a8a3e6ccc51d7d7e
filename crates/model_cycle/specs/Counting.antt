-- The live words: what each domain adds for its own blocks, and what that comes to.
use Rattle.std.specs.Prelude.{◌≡◌, ℕ, zero, suc, ◌+◌, ◌<◌, Bool, true, false, cond, IsTrue, List, length, sum_by, Some}
use Rattle.model_core.specs.declared.label.Label.{Label}
use Rattle.model_core.specs.Graph.{Graph, has_label, has_no_repeats, words_at}
use Rattle.model_core.specs.declared.state.State.{State}
use Rattle.model_core.specs.Domains.{queues, roots, reach}
use Rattle.model_cycle.specs.Shares.{Layout, OnePlaceEach, at_domain, AllOwned}
use Rattle.model_cycle.specs.Marks.{IsWhole}
use Rattle.model_cycle.specs.Taking.{IsLeft}

-- the sum of a function over the first n domains
abbrev pub total : (ℕ → ℕ) → ℕ → ℕ
total f zero = 0
total f (suc n) = total f n + f n

-- the sum over those domains that have added theirs
abbrev pub added_up : (ℕ → Bool) → (ℕ → ℕ) → ℕ → ℕ
added_up added f n = total (λ d. cond (added d) (f d) 0) n

-- the blocks that each domain counts: the marked ones in its pools, each once
pub record IsShareOut (y : Layout) (marked : Label → Bool) (own : ℕ → List Label) : Type 0 where
  pub once : (d : ℕ) → IsTrue (has_no_repeats (own d))
  pub owned : (d : ℕ) (l : Label) → IsTrue (has_label (own d) l) → (a : ℕ) × (y.live a ≡ Some l) × (y.owner a ≡ Some d) × IsTrue (marked l)
  pub all : (d a : ℕ) (l : Label) → y.live a ≡ Some l → y.owner a ≡ Some d → IsTrue (marked l) → IsTrue (has_label (own d) l)

-- the live words hold what those domains have added that have counted
pub record InCount (n : ℕ) (y : Layout) (g : Graph) (marked : Label → Bool) (own : ℕ → List Label) (added : ℕ → Bool) (blocks words : ℕ) : Type 0 where
  pub out : IsShareOut y marked own
  pub blocks_are : blocks ≡ added_up added (λ d. length (own d)) n
  pub words_are : words ≡ added_up added (λ d. sum_by (words_at g) (own d)) n

-- counting, from its start over each domain that adds to its end: after a whole cycle the sums are what `full_major` answers
pub record CountLaw : Type 0 where
  pub start : (n : ℕ) (y : Layout) (g : Graph) (marked : Label → Bool) (own : ℕ → List Label) → IsShareOut y marked own
      → InCount n y g marked own (λ d. false) 0 0
  pub adds : (n : ℕ) (y : Layout) (g : Graph) (marked : Label → Bool) (own : ℕ → List Label) (added : ℕ → Bool) (blocks words : ℕ)
      → InCount n y g marked own added blocks words → (d : ℕ) → d < n → added d ≡ false
      → InCount n y g marked own (at_domain added d true) (blocks + length (own d)) (words + sum_by (words_at g) (own d))
  pub end : (n : ℕ) (y : Layout) (s : State) (marked : Label → Bool) (own : ℕ → List Label) (added : ℕ → Bool) (blocks words : ℕ)
      → InCount n y s.graph marked own added blocks words → OnePlaceEach y → ((d : ℕ) → d < n → IsTrue (added d)) → AllOwned n y marked → IsLeft s marked
      → IsWhole s.graph (roots s (queues s)) marked → (blocks ≡ length (reach s)) × (words ≡ sum_by (words_at s.graph) (reach s))
