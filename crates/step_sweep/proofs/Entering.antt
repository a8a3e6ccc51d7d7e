-- A pool in which a domain has nothing left to sweep.
use Rattle.std.proofs.Common.{◌≡◌, ◌∙◌, ℕ, ◌+◌, ◌*◌, ◌<◌, sym, subst, arith}
use Rattle.heap_rule.specs.declared.view.Own.{Own}
use Rattle.heap_rule.specs.Pools.{blocks_of, owned, owner_word}
use Rattle.step_sweep.specs.Freeing.{IsAmong}

-- the word of an owner names one class
pub one_class : (d c e word : ℕ) → word ≡ owner_word (owned d c) → word ≡ owner_word (owned d e) → c ≡ e
one_class d c e word x y = let f : 16 * d + c + 1 ≡ 16 * d + e + 1 = sym x ∙ y in omega arith

-- the pool is the domain's, and has no place from the next one on
pub none_left : (own : Own) (found e : ℕ) → found ≡ owner_word (owned own.number e) → (own.swept.spot.slot < blocks_of e → ⊥) → (class : ℕ) → IsAmong class own found → ⊥
none_left own found e is none class a = none (subst (λ (m : ℕ). own.swept.spot.slot < blocks_of m) (one_class own.number class e found a.1 is) a.2)
