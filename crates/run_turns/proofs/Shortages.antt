-- What a refused allocation leaves: a search that found no place, and behind it a look at the history.
use Rattle.std.proofs.Common.{◌≡◌, ◌∙◌, ℕ, ◌+◌, ◌≤◌, Bool, false, List, sym, ap, subst}
use Rattle.model_core.specs.declared.command.Command.{Command}
use Rattle.model_core.specs.declared.command.Command.TheVariants.{Alloc, AllocMaj, Ephe, Raw}
use Rattle.heap_rule.specs.declared.config.Config.{Config}
use Rattle.heap_rule.specs.declared.view.DomainView.{DomainView}
use Rattle.heap_rule.specs.declared.view.Hunt.TheVariants.{Rests}
use Rattle.heap_rule.specs.declared.view.Search.{Search}
use Rattle.heap_rule.specs.declared.view.Swept.{Swept}
use Rattle.heap_rule.specs.Pools.{search_at}
use Rattle.heap_rule.specs.Standing.{Looked, with_front}
use Rattle.heap_rule.specs.Token.{Token, SharedHeap}
use Rattle.do_alloc.specs.Pools.Taken.{Sought}
use Rattle.do_alloc.proofs.OfPools.Seeking.{sought_view}
use Rattle.run_turns.specs.Tries.{HasNoPool, HasNoSpace, IsRefused, Refused, SeesMany}

-- what was found missing is so still where what was looked at is as it was
pub none_still : (k : Config) (words : ℕ) (x y w : DomainView) → w.seen.free ≡ y.seen.free → w.own.looked ≡ y.own.looked → w.own.swept ≡ y.own.swept → HasNoPool k words x y → HasNoPool k words x w
none_still k words x y w free looked swept n = record {
  free = n.free;
  reserved = record { found = (n.reserved.found.0, free ∙ n.reserved.found.1); few = n.reserved.few };
  none_free = λ class least. subst (λ (l : List Search). k.pools ≤ (search_at l class).pool) (sym looked) (n.none_free class least);
  swept = subst (λ (s : Swept). k.pools ≤ s.spot.pool) (sym swept) n.swept;
}

space_still : (h : SharedHeap) (old mid new : Token) (fields : ℕ) → new.view.seen.free ≡ mid.view.seen.free → HasNoSpace h old mid fields → HasNoSpace h old new fields
space_still h old mid new fields free s = record { room = s.room; few = record { free = s.few.free; found = free ∙ s.few.found; few = s.few.few } }

module _ (h : SharedHeap) (old mid new : Token) (sought : Sought h.config old.view mid.view Rests) (sees : SeesMany h mid new) where
  front : mid.view.seen.front ≡ old.view.seen.front
  front = ap (λ (x : DomainView). x.seen.front) (sought_view h.config old.view mid.view Rests sought)

  -- but for the history it is as the search left it
  back : mid.view ≡ with_front new.view old.view.seen.front
  back = (λ i. with_front mid.view (front i)) ∙ ap (λ (x : DomainView). with_front x old.view.seen.front) (sym sees.looked.view)

  none_on : (words : ℕ) → HasNoPool h.config words old.view mid.view → HasNoPool h.config words old.view new.view
  none_on words = none_still h.config words old.view mid.view new.view (ap (λ (x : DomainView). x.seen.free) sees.looked.view) (ap (λ (x : DomainView). x.own.looked) sees.looked.view) (ap (λ (x : DomainView). x.own.swept) sees.looked.view)

  space_on : (fields : ℕ) → HasNoSpace h old mid fields → HasNoSpace h old new fields
  space_on fields = space_still h old mid new fields (ap (λ (x : DomainView). x.seen.free) sees.looked.view)

  refused_on : (c : Command) → IsRefused h old mid c → IsRefused h old new c
  refused_on (Alloc dst tag fields) is = space_on fields is
  refused_on (Raw dst tag fields) is = space_on fields is
  refused_on (AllocMaj dst tag fields) is = none_on (fields + 2) is
  refused_on (Ephe dst keys) is = none_on (keys + 3) is
  refused_on _ is = is

  -- the refusal of a command for which the search was
  pub refused_then : (c : Command) (collected : Bool) → IsRefused h old mid c → collected ≡ false → Refused h old new c collected
  refused_then c collected is before = record {
    here = sees.here;
    refused = refused_on c is;
    before = before;
    view = subst (λ (x : DomainView). Sought h.config old.view x Rests) back sought;
    looked = subst (λ (x : DomainView). Looked h.config x new.view) back sees.looked;
    many = sees.many;
  }
