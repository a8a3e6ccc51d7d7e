-- The list of free pools grows by one pool that is nobody's.
use Rattle.std.proofs.Common.{◌≡◌, ◌≢◌, ℕ, ◌+◌, ◌<◌, ◌≤◌, List, [], ◌∷◌, ◌++◌, length, Option, Some, None, refl, sym, ap, ◌∙◌, subst, arith, length-append}
use Rattle.heap_rule.specs.declared.config.Config.{Config}
use Rattle.heap_rule.specs.declared.view.DomainView.{DomainView}
use Rattle.heap_rule.specs.declared.view.Listing.{Listing}
use Rattle.heap_rule.specs.Pools.{no_listing}
use Rattle.step_pools.specs.Listings.{with_listing, further, relisted, found_owner, named, cursor_at, with_cursor, listed_as, noted_set_back, LeadsBehind, CountedTold, HasCounted, IsAbove, CursorLookTold, KeepLookTold, ListStays, free_from, free_pools, IsLeader, EmptiedTold, LookMay, LookedTold, NameMay, NamedTold, SetBackTold, CloseMay, ListedAsTold, HasList, IsListedCount}
use Rattle.step_pools.proofs.FreePools.{free_last, free_same}
use Rattle.do_alloc.specs.Pools.Listed.{HasListed, Relisted}
use Rattle.heap_rule.specs.declared.phase.Kind.{Kind}
use Rattle.heap_rule.specs.declared.phase.Kind.TheVariants.{Run}
use Rattle.heap_rule.specs.declared.phase.Note.TheVariants.{SetBack}
use Rattle.heap_rule.specs.Pools.{limit_of}
use Rattle.heap_rule.specs.Phases.{last_note}
use Rattle.heap_rule.proofs.Controls.{last_note_end}

-- the list so far
abbrev so_far : List ℕ → List ℕ → Listing
so_far owners names = record { owners = owners; names = names; cursor = None; listed = 0 }

on_list : (x y : DomainView) (l : Listing) (f : Listing → Listing) → x.seen.listing ≡ Some l → y ≡ relisted x f → y.seen.listing ≡ Some (f l)
on_list x y l f listing told = ap (λ (z : DomainView). z.seen.listing) told ∙ ap (further f) listing

-- where so many pools are listed, which the domain notes
on_listed : (x y : DomainView) (l : Listing) (count : ℕ) → x.seen.listing ≡ Some l → ListedAsTold x count y → y.seen.listing ≡ Some (listed_as count l)
on_listed x y l count listing told = ap (λ (z : DomainView). z.seen.listing) told ∙ ap (further (listed_as count)) listing

same_list : (x y : DomainView) (f : Listing → Listing) → y ≡ relisted x f → Relisted x y
same_list x y f told = told ∙ ap (with_listing x) (sym (ap (λ (z : DomainView). z.seen.listing) told))

leads_on : (x y : DomainView) → Relisted x y → IsLeader x → IsLeader y
leads_on x y same leader = subst IsLeader (sym same) (let l : IsLeader (with_listing x y.seen.listing) = record { first = leader.first; last = leader.last; stage = leader.stage; empty = leader.empty } in l)

no_names : free_from 0 [] ≡ []
unfolding free_from
no_names = refl

-- the list is empty
pub none_listed : (x y : DomainView) → IsLeader x → EmptiedTold x 0 y → HasListed y 0 0
none_listed x y leader told = record {
  leader = leads_on x y (told ∙ ap (with_listing x) (sym (ap (λ (z : DomainView). z.seen.listing) told))) leader;
  owners = [];
  all = refl;
  count_is = ap length no_names;
  listing = ap (λ (z : DomainView). z.seen.listing) told ∙ ap (λ (names : List ℕ). Some (so_far [] names)) (sym no_names);
}

module _ (k : Config) (x : DomainView) (pool count : ℕ) (h : HasListed x pool count) where
  -- the next owner word may be looked at
  pub look_ready : (at : ℕ) → pool < k.pools → at ≡ 11 + k.pools + pool → LookMay k x at
  look_ready at inside word = record {
    leader = h.leader;
    list = so_far h.owners (free_pools h.owners);
    listing = h.listing;
    inside = subst (λ (n : ℕ). n < k.pools) (sym h.all) inside;
    word = word ∙ ap (λ (n : ℕ). 11 + k.pools + n) (sym h.all);
  }

  module _ (y : DomainView) (found : ℕ) (told : LookedTold x found y) where
    after : Listing
    after = so_far (h.owners ++ found ∷ []) (free_pools h.owners)

    looked_list : y.seen.listing ≡ Some (so_far (h.owners ++ found ∷ []) (free_pools h.owners))
    looked_list = on_list x y (so_far h.owners (free_pools h.owners)) (found_owner found) h.listing told

    looked_same : Relisted x y
    looked_same = same_list x y (found_owner found) told

    one_more : length (h.owners ++ found ∷ []) ≡ pool + 1
    one_more = length-append h.owners (found ∷ []) ∙ ap (λ (n : ℕ). n + 1) h.all

    -- somebody's pool isn't listed
    pub passed : found ≢ 0 → HasListed y (pool + 1) count
    passed some = let e = free_same h.owners found some in record {
      leader = leads_on x y looked_same h.leader;
      owners = h.owners ++ found ∷ [];
      all = one_more;
      count_is = ap length e ∙ h.count_is;
      listing = looked_list ∙ ap (λ (names : List ℕ). Some (so_far (h.owners ++ found ∷ []) names)) (sym e);
    }

    -- and nobody's is
    pub name_ready : (at : ℕ) → pool < k.pools → count ≤ pool → at ≡ 11 + count → NameMay k y at
    name_ready at inside few word = record {
      empties = record { leader = leads_on x y looked_same h.leader; list = so_far (h.owners ++ found ∷ []) (free_pools h.owners); listing = looked_list; empty = refl };
      inside = subst (λ (n : ℕ). n < k.pools) (sym h.count_is) (let p : pool < k.pools = inside in let c : count ≤ pool = few in let o : count < k.pools = omega arith in o);
      word = word ∙ ap (λ (n : ℕ). 11 + n) (sym h.count_is);
    }

    pub listed_one : (z : DomainView) → found ≡ 0 → NamedTold y pool z → HasListed z (pool + 1) (count + 1)
    listed_one z none said = let e = free_last h.owners found none in record {
      leader = leads_on y z (same_list y z (named pool) said) (leads_on x y looked_same h.leader);
      owners = h.owners ++ found ∷ [];
      all = one_more;
      count_is = ap length e ∙ (length-append (free_pools h.owners) (length h.owners ∷ []) ∙ ap (λ (n : ℕ). n + 1) h.count_is);
      listing = on_list y z (so_far (h.owners ++ found ∷ []) (free_pools h.owners)) (named pool) looked_list said ∙ ap (λ (names : List ℕ). Some (so_far (h.owners ++ found ∷ []) names)) (ap (λ (n : ℕ). free_pools h.owners ++ n ∷ []) (sym h.all) ∙ sym e);
    }

-- how many are listed, where a list is known
abbrev listed_in : Option Listing → ℕ
listed_in None = 0
listed_in (Some l) = l.listed

-- the cursor is set back, and the pools are listed
module _ (k : Config) (x : DomainView) (count : ℕ) (h : HasListed x k.pools count) where
  module _ (y : DomainView) (told : SetBackTold x 0 y) where
    abbrev back : Listing
    back = cursor_at 0 (so_far h.owners (free_pools h.owners))

    back_list : y.seen.listing ≡ Some back
    back_list = on_list x y (so_far h.owners (free_pools h.owners)) (cursor_at 0) h.listing told

    pub close_ready : CloseMay k y count
    close_ready = record {
      empties = record { leader = leads_on x y (same_list x y (cursor_at 0) told) h.leader; list = back; listing = back_list; empty = refl };
      all = h.all;
      free = refl;
      count = sym h.count_is;
      back = refl;
    }

    pub closed_list : (z : DomainView) → ListedAsTold y count z → HasList k z
    closed_list z said = record {
      owners = h.owners;
      all = h.all;
      listing = on_listed y z back count back_list said ∙ ap (λ (n : ℕ). Some (listed_as n back)) (sym h.count_is);
    }

    -- so many are listed
    pub closed_count : (z : DomainView) → ListedAsTold y count z → IsListedCount k z count
    closed_count z said list = ap listed_in (sym (on_listed y z back count back_list said) ∙ list.listing)

-- how many pools are listed is known
pub counted_ready : (k : Config) (kind : Kind) (x y : DomainView) (count : ℕ) → LeadsBehind kind x → CountedTold k x count y → HasCounted kind y count
counted_ready k kind x y count leads told = record {
  leads = subst (LeadsBehind kind) (sym told.view) (let l : LeadsBehind kind (with_listing x (Some (listed_as count no_listing))) = record { first = leads.first; stage = leads.stage } in l);
  list = listed_as count no_listing;
  listing = ap (λ (z : DomainView). z.seen.listing) told.view;
  count_is = refl;
}

-- where the cursor stands is known
module _ (k : Config) (kind : Kind) (y z : DomainView) (count found : ℕ) (h : HasCounted kind y count) (told : z ≡ with_cursor y found) where
  cursor_list : z.seen.listing ≡ Some (cursor_at found h.list)
  cursor_list = on_list y z h.list (cursor_at found) h.listing told

  abbrev leads_still : LeadsBehind kind (with_cursor y found)
  leads_still = record { first = h.leads.first; stage = h.leads.stage }

  seen_cursor : HasCounted kind z count
  seen_cursor = record { leads = subst (LeadsBehind kind) (sym told) leads_still; list = cursor_at found h.list; listing = cursor_list; count_is = h.count_is }

pub above_ready : (k : Config) (y z : DomainView) (count found : ℕ) → HasCounted Run y count → CursorLookTold k count y found z → limit_of k count < found → IsAbove k z count
unfolding seen_cursor
above_ready k y z count found h told above = record { counted = seen_cursor k Run y z count found h (told.high above); at = found; cursor_is = refl; above = above }

-- the list stays
pub stays_ready : (k : Config) (kind : Kind) (y z : DomainView) (count found : ℕ) → HasCounted kind y count → count ≢ 0 → KeepLookTold k count y found z → found ≤ limit_of k count → ListStays k z
stays_ready k kind y z count found h some told low = record {
  list = cursor_at found h.list;
  listing = ap (λ (v : DomainView). v.seen.listing) (told.low low) ∙ ap (further (cursor_at found)) h.listing;
  some = λ none. some (sym h.count_is ∙ none);
  at = found;
  cursor_is = refl;
  low = subst (λ (n : ℕ). found ≤ limit_of k n) (sym h.count_is) low;
}

-- the cursor is set back
pub notes_back : (y z : DomainView) → z ≡ noted_set_back y → last_note z.seen.notes ≡ Some SetBack
notes_back y z noted = ap (λ (v : DomainView). last_note v.seen.notes) noted ∙ last_note_end y.seen.notes SetBack
