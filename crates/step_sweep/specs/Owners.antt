-- Which class a pool of a domain has, by the pool's owner word.
use Rattle.std.specs.Prelude.{◌≢◌, ◌≡◌, ◌<◌, ℕ, Option, MatchOption}
use Rattle.model_core.specs.Domains.{class_count}
use Rattle.heap_rule.specs.Pools.{owned, owner_word}

-- the class of the domain's pool whose owner word this is, or none exactly where it is the word of no pool of the domain
abbrev pub TellsClass : ℕ → ℕ → Option ℕ → Type 0
TellsClass word domain found =
    MatchOption found ((class : ℕ) → class < class_count → word ≢ owner_word (owned domain class)) (λ class. (class < class_count) × (word ≡ owner_word (owned domain class)))
