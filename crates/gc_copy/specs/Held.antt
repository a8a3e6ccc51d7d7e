-- What becomes of the lists of finalisers.
use Rattle.std.specs.Prelude.{◌≡◌, ℕ, ◌<◌, map, Some}
use Rattle.heap_words.specs.declared.value.Value.TheVariants.{Ref}
use Rattle.heap_rule.specs.declared.config.Config.{Config}
use Rattle.heap_rule.specs.declared.view.DomainView.{DomainView}
use Rattle.heap_rule.specs.declared.view.Finalisers.{Finalisers}
use Rattle.heap_rule.specs.declared.view.Held.{Held}
use Rattle.heap_rule.specs.declared.view.Registered.{Registered}
use Rattle.heap_rule.specs.declared.view.RegisteredLast.{RegisteredLast}
use Rattle.heap_rule.specs.declared.view.Waiting.{Waiting}
use Rattle.heap_rule.specs.Finalisers.{held_at, RefersOld}
use Rattle.step_promote.specs.Promotion.{waiting_at}
use Rattle.gc_copy.specs.Roots.{Becomes}
use Rattle.gc_copy.specs.Working.{Works, Tied, Learns}

-- the domain with what claims change, and its lists of finalisers, as another has them
abbrev pub with_held_moves : DomainView → DomainView → DomainView
with_held_moves x y = record {
  own = record x.own { looked = y.own.looked; prepared = y.own.prepared; pending = y.own.pending; swept = record x.own.swept { top = y.own.swept.top }; finalisers = y.own.finalisers };
  seen = record x.seen { hunt = y.seen.hunt; copying = y.seen.copying; share = record x.seen.share { colours = y.seen.share.colours; armed = y.seen.share.armed } };
}

-- the items of the lists of finalisers but for their addresses
abbrev pub bare_final : Registered → Registered
bare_final r = record r { address = 0 }

abbrev pub bare_last : RegisteredLast → RegisteredLast
bare_last r = record r { address = 0 }

abbrev pub bare_waiting : Waiting → Waiting
bare_waiting = waiting_at 0

-- and the lists
abbrev pub without_addresses : Finalisers → Finalisers
without_addresses fs = record {
  finals = record fs.finals { items = map bare_final fs.finals.items };
  lasts = record fs.lasts { items = map bare_last fs.lasts.items };
  queue = record fs.queue { items = map bare_waiting fs.queue.items };
}

-- what becomes of an address at a place of the lists: it is that of the same block as before. Only the address of a young block changes
pub record HeldBecomes (k : Config) (y : DomainView) (h : Held) (address : ℕ) : Type 0 where
  pub new : ℕ
  pub held : held_at y.own.finalisers h ≡ Some new
  pub becomes : Becomes k y (Ref address) (Ref new)

-- so it is at some places of the lists. All else of the lists is as it was
pub record HeldMoved (k : Config) (which : Held → Type 0) (x y : DomainView) : Type 0 where
  pub view : y ≡ with_held_moves x y
  pub works : Works k y
  pub learns : Learns x y
  pub tied : Tied 0 y
  pub becomes : (h : Held) (a : ℕ) → which h → held_at x.own.finalisers h ≡ Some a → HeldBecomes k y h a
  pub others : (h : Held) → (which h → ⊥) → held_at y.own.finalisers h ≡ held_at x.own.finalisers h
  pub rest : without_addresses y.own.finalisers ≡ without_addresses x.own.finalisers

-- the places of one list, and those before the n-th
abbrev pub IsPlaceOf : (ℕ → Held) → Held → Type 0
IsPlaceOf place h = (i : ℕ) × (h ≡ place i)

abbrev pub IsBeforeIn : (ℕ → Held) → ℕ → Held → Type 0
IsBeforeIn place n h = (i : ℕ) × (i < n) × (h ≡ place i)

-- what becomes of the lists: each address in them is that of the same block as before, and all else of them is as it was
pub record ListsBecome (k : Config) (x y : DomainView) : Type 0 where
  pub addresses : (h : Held) (a : ℕ) → held_at x.own.finalisers h ≡ Some a → HeldBecomes k y h a
  pub rest : without_addresses y.own.finalisers ≡ without_addresses x.own.finalisers

-- no list has an address of a minor area
pub record AllHeldMoved (k : Config) (x y : DomainView) : Type 0 where
  pub view : y ≡ with_held_moves x y
  pub works : Works k y
  pub learns : Learns x y
  pub tied : Tied 0 y
  pub old : RefersOld k y.own.finalisers
  pub lists : ListsBecome k x y
