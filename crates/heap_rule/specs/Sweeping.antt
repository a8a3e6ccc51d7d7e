-- Sweeping in the rule: what a domain knows of garbage in its own pools.
use Rattle.std.specs.Prelude.{◌≡◌, ℕ, ◌<◌, Bool, true, false, IsTrue, List, slice_get, Some}
use Rattle.heap_rule.specs.declared.phase.Kind.{Kind}
use Rattle.heap_rule.specs.declared.phase.Kind.TheVariants.{Lasts}
use Rattle.heap_rule.specs.declared.view.Reaping.{Reaping}
use Rattle.heap_rule.specs.declared.view.Reaping.TheVariants.{Outside, Inside, AtGarbage}
use Rattle.heap_rule.specs.declared.view.Swept.{Swept}
use Rattle.heap_rule.specs.declared.view.DomainView.{DomainView}
use Rattle.heap_rule.specs.Cycles.{Cycling}
use Rattle.heap_rule.specs.Pools.{Holder, IsBefore, Tenancy, blocks_of, owned, place_in}

-- nothing is swept of the pools below this one
abbrev pub nothing_swept : ℕ → Swept
nothing_swept top = record { listed = 0; spot = record { pool = 0; slot = 0 }; top = top }

-- what is known of the pool that a domain sweeps
abbrev pub Reaps : (ℕ → Holder) → (ℕ → Bool) → ℕ → Reaping → Type 0
Reaps holder garbage d Outside = Unit {0}
Reaps holder garbage d (Inside pool class) = holder pool ≡ owned d class
Reaps holder garbage d (AtGarbage pool class slot) = (holder pool ≡ owned d class) × (slot < blocks_of class) × IsTrue (garbage (place_in pool class slot))

-- Garbage lies only where a domain has still to sweep its own pools and its list of ephemerons ("Retrofitting Parallelism onto OCaml", section 3.2). As the colours are rotated it has swept nothing. All its pools lie below the top
pub record Sweeps (holder : ℕ → Holder) (garbage : ℕ → Bool) (kind : Kind) (arrived : ℕ → Bool) (d : ℕ) (items : List ℕ) (swept : Swept) (reaping : Reaping) : Type 0 where
  pub listed : (i a : ℕ) → i < swept.listed → slice_get items i ≡ Some a → garbage a ≡ false
  pub places : (q c slot : ℕ) → holder q ≡ owned d c → slot < blocks_of c → IsBefore q slot swept.spot → garbage (place_in q c slot) ≡ false
  pub anew : kind ≡ Lasts → arrived d ≡ true → swept ≡ nothing_swept swept.top
  pub reaps : Reaps holder garbage d reaping
  pub below : (q c : ℕ) → holder q ≡ owned d c → q < swept.top

-- the same of a domain, where pools and a collection of the major heap stand so
abbrev pub SweepsIn : Tenancy → Cycling → DomainView → Type 0
SweepsIn t c x = Sweeps t.holder t.garbage c.kind c.shares.arrived x.own.number x.own.ephemerons.items x.own.swept x.seen.share.reaping
