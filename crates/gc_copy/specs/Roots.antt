-- What becomes of the roots: the registers, and the fields that a domain remembers.
use Rattle.std.specs.Prelude.{◌≡◌, ◌≢◌, ℕ, ◌*◌, ◌<◌, [], drop}
use Rattle.heap_words.specs.declared.value.Value.{Value}
use Rattle.heap_words.specs.declared.value.Value.TheVariants.{Ref}
use Rattle.heap_rule.specs.declared.config.Config.{Config}
use Rattle.heap_rule.specs.declared.view.DomainView.{DomainView}
use Rattle.heap_rule.specs.Changes.{value_at}
use Rattle.heap_rule.specs.Copies.{HasCopy, IsOldValue}
use Rattle.heap_rule.specs.Places.{IsOldAt}
use Rattle.step_promote.specs.Promotion.{Knows}
use Rattle.gc_copy.specs.Working.{SameBlock, Works, Tied, Learns}

-- the domain with what claims change, and its registers, as another has them
abbrev pub with_moves : DomainView → DomainView → DomainView
with_moves x y = record {
  own = record x.own { registers = y.own.registers; looked = y.own.looked; prepared = y.own.prepared; pending = y.own.pending; swept = record x.own.swept { top = y.own.swept.top } };
  seen = record x.seen { hunt = y.seen.hunt; copying = y.seen.copying; share = record x.seen.share { colours = y.seen.share.colours; armed = y.seen.share.armed } };
}

-- the address of a young block has become that of the block's copy in a pool
pub record MovedTo (k : Config) (y : DomainView) (young : ℕ) (new : Value) : Type 0 where
  pub copy : ℕ
  pub is : new ≡ Ref copy
  pub old : IsOldAt k copy
  pub copied : HasCopy y young copy
  pub same : SameBlock (Knows y) young copy

-- what becomes of a value: it stands for the same as before. Only the address of a young block changes
pub record Becomes (k : Config) (y : DomainView) (held new : Value) : Type 0 where
  pub stays : IsOldValue k held → new ≡ held
  pub moves : (a : ℕ) → held ≡ Ref a → k.pools * 4096 < a → MovedTo k y a new

-- a register holds no address of a minor area, and the others hold what they held
pub record Moved (k : Config) (register : ℕ) (x y : DomainView) : Type 0 where
  pub view : y ≡ with_moves x y
  pub works : Works k y
  pub learns : Learns x y
  pub tied : Tied 0 y
  pub old : IsOldValue k (value_at y.own.registers register)
  pub becomes : Becomes k y (value_at x.own.registers register) (value_at y.own.registers register)
  pub others : (r : ℕ) → r ≢ register → value_at y.own.registers r ≡ value_at x.own.registers r

-- no register holds one
pub record AllMoved (k : Config) (x y : DomainView) : Type 0 where
  pub view : y ≡ with_moves x y
  pub works : Works k y
  pub learns : Learns x y
  pub tied : Tied 0 y
  pub old : (r : ℕ) → r < 16 → IsOldValue k (value_at y.own.registers r)
  pub becomes : (r : ℕ) → r < 16 → Becomes k y (value_at x.own.registers r) (value_at y.own.registers r)

-- the domain with what claims change, and the fields that are still to be looked through, as another has them
abbrev pub with_rewrites : DomainView → DomainView → DomainView
with_rewrites x y = record {
  own = record x.own { looked = y.own.looked; prepared = y.own.prepared; pending = y.own.pending; swept = record x.own.swept { top = y.own.swept.top } };
  seen = record x.seen { hunt = y.seen.hunt; copying = y.seen.copying; remembered = y.seen.remembered; share = record x.seen.share { colours = y.seen.share.colours; armed = y.seen.share.armed } };
}

-- the first field that was to be looked through no longer is
pub record Rewritten (k : Config) (x y : DomainView) : Type 0 where
  pub view : y ≡ with_rewrites x y
  pub works : Works k y
  pub learns : Learns x y
  pub tied : Tied 0 y
  pub forgotten : y.seen.remembered ≡ drop 1 x.seen.remembered

-- none is to be looked through
pub record AllRewritten (k : Config) (x y : DomainView) : Type 0 where
  pub view : y ≡ with_rewrites x y
  pub works : Works k y
  pub learns : Learns x y
  pub tied : Tied 0 y
  pub looked_through : y.seen.remembered ≡ []
