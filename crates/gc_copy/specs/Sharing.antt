-- What a domain's share of a collection comes to.
use Rattle.std.specs.Prelude.{◌≡◌, ℕ, ◌<◌, [], None}
use Rattle.model_core.specs.Domains.{class_count}
use Rattle.heap_rule.specs.declared.config.Config.{Config}
use Rattle.heap_rule.specs.declared.view.DomainView.{DomainView}
use Rattle.heap_rule.specs.declared.view.Hunt.TheVariants.{Rests}
use Rattle.heap_rule.specs.Changes.{value_at}
use Rattle.heap_rule.specs.Copies.{HoldsOld, nothing_copied}
use Rattle.heap_rule.specs.Pools.{prepared_at}
use Rattle.heap_rule.specs.Running.{RemembersAll}
use Rattle.gc_copy.specs.Held.{ListsBecome}
use Rattle.gc_copy.specs.Roots.{Becomes}
use Rattle.gc_copy.specs.Working.{with_claims, AllPlaced}
use Rattle.heap_rule.specs.declared.phase.Kind.TheVariants.{Promote}
use Rattle.heap_rule.specs.declared.phase.Stage.TheVariants.{In}

-- no place is prepared for a copy
abbrev pub Unprepared : DomainView → Type 0
Unprepared x = (class : ℕ) → class < class_count → prepared_at x.own.prepared class ≡ None

-- nothing has been copied or prepared, and the fields to be looked through are those of the domain's list
pub record HasToCopy (x : DomainView) : Type 0 where
  pub quiet : x.seen.copying ≡ nothing_copied
  pub no_copies : x.own.pending.items ≡ []
  pub remembers : RemembersAll x
  pub unprepared : Unprepared x

-- a domain that has begun to give its places back
pub record Gives (k : Config) (class : ℕ) (x y : DomainView) : Type 0 where
  pub view : y ≡ with_claims x y
  pub stage : y.seen.stage ≡ In Promote
  pub at_rest : y.seen.hunt ≡ Rests
  pub copying : y.seen.copying ≡ x.seen.copying
  pub placed : AllPlaced k y
  pub none : (c : ℕ) → c < class → prepared_at y.own.prepared c ≡ None

-- the places that were prepared are given back
pub record GaveBack (x y : DomainView) : Type 0 where
  pub view : y ≡ with_claims x y
  pub at_rest : y.seen.hunt ≡ Rests
  pub copying : y.seen.copying ≡ x.seen.copying
  pub unprepared : Unprepared y

-- the domain with its registers, its lists of finalisers, its copies, its places of the pools and the fields to be looked through as another has them
abbrev pub with_share : DomainView → DomainView → DomainView
with_share x y = record {
  own = record x.own { registers = y.own.registers; finalisers = y.own.finalisers; looked = y.own.looked; prepared = y.own.prepared; pending = y.own.pending; swept = record x.own.swept { top = y.own.swept.top } };
  seen = record x.seen { hunt = y.seen.hunt; copying = y.seen.copying; remembered = y.seen.remembered; share = record x.seen.share { colours = y.seen.share.colours; armed = y.seen.share.armed } };
}

-- the domain owes no copy a value, has looked through all its remembered fields, holds no address of a minor area, and has no place prepared: it may arrive. Each register, and each place of the lists of finalisers, stands for what it stood for. All else is as it was
pub record Shared (k : Config) (x y : DomainView) : Type 0 where
  pub view : y ≡ with_share x y
  pub at_rest : y.seen.hunt ≡ Rests
  pub paid : y.seen.copying.pending ≡ []
  pub looked_through : y.seen.remembered ≡ []
  pub holds_old : HoldsOld k y
  pub registers : (r : ℕ) → r < 16 → Becomes k y (value_at x.own.registers r) (value_at y.own.registers r)
  pub finalisers : ListsBecome k x y
  pub unprepared : Unprepared y
