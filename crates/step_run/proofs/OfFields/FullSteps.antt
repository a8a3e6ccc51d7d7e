-- Why an allocation may be answered `full`: where no more pools are free than the reserve, the last complete collection kept much.
use Rattle.std.proofs.Common.{◌≡◌, ℕ, zero, suc, ◌+◌, ◌*◌, ◌<◌, ◌≤◌, ◌⊎◌, inl, inr, ⊎_elim, arith, true, IsTrue, List, [], ◌∷◌, length, Option, Some, None, refl, ap, sym, ◌∙◌, subst, eqb, eq-eqb, lt_of_not-le}
use mathlib.Core.Option.{some}
use mathlib.Core.Logic.{dite}
use native.Mathlib.Decide.{ℕ_discrete, dec_le}
use lib.ListN.{get_elem?}
use Rattle.model_core.specs.declared.command.Command.{Command}
use Rattle.model_core.specs.declared.entry.Entry.{Entry}
use Rattle.model_core.specs.declared.label.Label.{Label}
use Rattle.model_core.specs.declared.state.Sizes.{Sizes}
use Rattle.model_core.specs.declared.state.State as model
use Rattle.model_core.specs.Graph.{same_label, has_label}
use Rattle.model_core.specs.Domains.{class_count, reserve, opening}
use Rattle.model_core.specs.Commands.{is_allocation, MayBeFull}
use Rattle.model_core.proofs.Graphs.GraphLemmas.{same_label_refl}
use Rattle.model_core.proofs.Reach.ReachLemmas.{or_left, or_right}
use Rattle.model_core.proofs.Histories.FreshLemmas.{fresh_stays}
use Rattle.model_core.proofs.Histories.ShapeAfterLemmas.{shaped-history}
use Rattle.model_cycle.specs.Fullness.{kept_labels, HoldsKept, AllHoldKept, IsNone, Differ}
use Rattle.model_cycle.specs.Pools.{has_pool, InPools, AllHaveOwner}
use Rattle.model_cycle.proofs.Keeping.{few_pools, kept_counts}
use Rattle.model_cycle.proofs.Pooling.{as_label, pools_few}
use Rattle.heap_rule.specs.declared.config.Config.{Config}
use Rattle.heap_rule.specs.declared.view.DomainView.{DomainView}
use Rattle.heap_rule.specs.declared.phase.Kind.TheVariants.{Run, Answer}
use Rattle.heap_rule.specs.Limits.{sizes_in}
use Rattle.heap_rule.specs.Layout.{listed, listed_pool, cursor}
use Rattle.heap_rule.specs.Pools.{Holder, nobody, drawn, owned, limit_of, last_found}
use Rattle.heap_rule.specs.Phases.{AtStage}
use Rattle.heap_rule.specs.Cycles.{HasNoCycle}
use Rattle.heap_rule.specs.Views.{one}
use Rattle.heap_rule.specs.Rule.{state_of, Rule}
use Rattle.heap_rule.specs.Standing.{Acts}
use Rattle.heap_rule.proofs.Keeps.{Words, mine, my_good, no_cycle_here}
use Rattle.model_core.proofs.Histories.SizesLemmas.{sizes_after}
use Rattle.step_run.specs.Fields.Ticks.{IsUsedUp}

-- the domain that has a pool
abbrev owner_in : Holder → Option ℕ
owner_in nobody = None
owner_in (drawn d) = Some d
owner_in (owned d c) = Some d

-- the pools that a domain drew last for the first classes
abbrev with_one : Option ℕ → List ℕ → List ℕ
with_one None ps = ps
with_one (Some p) ps = p ∷ ps

abbrev latest : (ℕ → Option ℕ) → ℕ → List ℕ
latest f zero = []
latest f (suc n) = with_one (f n) (latest f n)

latest_few : (f : ℕ → Option ℕ) (n : ℕ) → length (latest f n) ≤ n
latest_few f zero = omega arith
latest_few f (suc n) = go (f n) (latest_few f n)
  where
    go : (o : Option ℕ) → length (latest f n) ≤ n → length (with_one o (latest f n)) ≤ suc n
    go None few = omega arith
    go (Some p) few = omega arith

latest_has : (f : ℕ → Option ℕ) (n c p : ℕ) → c < n → f c ≡ Some p → IsTrue (has_pool (latest f n) p)
latest_has f zero c p inside is = absurd (omega arith)
latest_has f (suc n) c p inside is = dite (ℕ_discrete c n)
    (λ same. subst (λ o. IsTrue (has_pool (with_one o (latest f n)) p)) (sym (ap f (sym same) ∙ is)) (or_left (eqb p p) (has_pool (latest f n) p) (eq-eqb p p refl)))
    (λ other. go (f n) (latest_has f n c p (let o : c ≡ n → ⊥ = other in omega arith) is))
  where
    go : (o : Option ℕ) → IsTrue (has_pool (latest f n) p) → IsTrue (has_pool (with_one o (latest f n)) p)
    go None h = h
    go (Some q) h = or_right (eqb q p) (has_pool (latest f n) p) h

-- so many places of the list, from one on
abbrev places : ℕ → ℕ → List Label
places m zero = []
places m (suc n) = as_label (m + n) ∷ places m n

places_count : (m n : ℕ) → length (places m n) ≡ n
places_count m zero = refl
places_count m (suc n) = ap suc (places_count m n)

places_have : (m n i : ℕ) → m ≤ i → i < m + n → IsTrue (has_label (places m n) (as_label i))
places_have m zero i low high = absurd (omega arith)
places_have m (suc n) i low high = dite (ℕ_discrete i (m + n))
    (λ same. or_left (same_label (as_label (m + n)) (as_label i)) (has_label (places m n) (as_label i)) (subst (λ z. IsTrue (same_label (as_label (m + n)) (as_label z))) (sym same) (same_label_refl (as_label (m + n)))))
    (λ other. or_right (same_label (as_label (m + n)) (as_label i)) (has_label (places m n) (as_label i)) (places_have m n i low (let o : i ≡ m + n → ⊥ = other in omega arith)))

-- the less of two
record Less (a b : ℕ) : Type 0 where
  least : ℕ
  below : (i : ℕ) → (a ≤ i) ⊎ (b ≤ i) → least ≤ i
  fits : (n f : ℕ) → n ≤ f + a → n ≤ f + b → n ≤ f + least

less : (a b : ℕ) → Less a b
less a b = dite (dec_le a b)
    (λ le. record { least = a; below = λ i h. ⊎_elim (λ l. l) (λ l. omega arith) h; fits = λ n f l m. l })
    (λ not_le. let more : b < a = lt_of_not-le not_le in record { least = b; below = λ i h. ⊎_elim (λ l. omega arith) (λ l. l) h; fits = λ n f l m. m })

-- the first pools: those that somebody has, and those that nobody has, each of which stands at one of these places
record Parted (holder : ℕ → Holder) (spots : List Label) (named : Label → Option ℕ) (n : ℕ) : Type 0 where
  taken : List ℕ
  free : List ℕ
  count : length taken + length free ≡ n
  taken_differ : Differ taken
  free_differ : Differ free
  taken_below : (p : ℕ) → n ≤ p → IsNone p taken
  free_below : (p : ℕ) → n ≤ p → IsNone p free
  have_owner : AllHaveOwner (λ q. owner_in (holder q)) taken
  at_places : AllHoldKept spots named free

-- one pool more, that somebody has
parted_taken : (holder : ℕ → Holder) (spots : List Label) (named : Label → Option ℕ) (n d : ℕ) → owner_in (holder n) ≡ Some d → Parted holder spots named n → Parted holder spots named (suc n)
parted_taken holder spots named n d is rest = record {
  taken = n ∷ rest.taken;
  free = rest.free;
  count = let e = rest.count in omega (arith, e);
  taken_differ = (rest.taken_below n (omega arith), rest.taken_differ);
  free_differ = rest.free_differ;
  taken_below = λ p past. (λ same. omega arith, rest.taken_below p (omega arith));
  free_below = λ p past. rest.free_below p (omega arith);
  have_owner = ((d, is), rest.have_owner);
  at_places = rest.at_places;
}

-- one pool more
parted_more : (holder : ℕ → Holder) (spots : List Label) (named : Label → Option ℕ) (n : ℕ) (h : Holder) → holder n ≡ h → (holder n ≡ nobody → HoldsKept spots named n) → Parted holder spots named n → Parted holder spots named (suc n)
parted_more holder spots named n (drawn d) is here rest = parted_taken holder spots named n d (ap owner_in is) rest
parted_more holder spots named n (owned d c) is here rest = parted_taken holder spots named n d (ap owner_in is) rest
parted_more holder spots named n nobody is here rest = record {
  taken = rest.taken;
  free = n ∷ rest.free;
  count = let e = rest.count in omega (arith, e);
  taken_differ = rest.taken_differ;
  free_differ = (rest.free_below n (omega arith), rest.free_differ);
  taken_below = λ p past. rest.taken_below p (omega arith);
  free_below = λ p past. (λ same. omega arith, rest.free_below p (omega arith));
  have_owner = rest.have_owner;
  at_places = (here is, rest.at_places);
}

parted : (holder : ℕ → Holder) (spots : List Label) (named : Label → Option ℕ) (n : ℕ) → ((q : ℕ) → q < n → holder q ≡ nobody → HoldsKept spots named q) → Parted holder spots named n
parted holder spots named zero each = record {
  taken = [];
  free = [];
  count = refl;
  taken_differ = tt;
  free_differ = tt;
  taken_below = λ p past. tt;
  free_below = λ p past. tt;
  have_owner = tt;
  at_places = tt;
}
parted holder spots named (suc n) each = parted_more holder spots named n (holder n) refl (each n (omega arith)) (parted holder spots named n (λ q inside. each q (omega arith)))

module _ (k : Config) (s : Words) (r : Rule k s) (id : ℕ) (hist : List Entry) (x : DomainView) (at : get_elem? s.views id ≡ some (one k hist x)) (acts : Acts k x) where
  open r.account use {tenancy.{holder, fresh}}

  abbrev now : model.State
  now = state_of k r.account.log

  abbrev kept : List Label
  kept = kept_labels (sizes_in k) r.account.log

  -- the pool at a place of the list
  abbrev named : Label → Option ℕ
  named l = Some (listed_pool s.words l.serial)

  unanswered : r.account.cycling.kind ≡ Answer → ⊥
  unanswered e = subst HasNoCycle e (no_cycle_here k s r id hist x at Run tt acts.runs)

  -- each pool that somebody has holds a kept block, or has held one, or was drawn last for its class
  holds_kept : (q d : ℕ) → owner_in (holder q) ≡ Some d → (d < k.domains) × (IsTrue (has_pool (latest (fresh d) class_count) q) ⊎ HoldsKept kept r.account.homes q)
  holds_kept q d is = go (holder q) refl
    where
      go : (h : Holder) → holder q ≡ h → (d < k.domains) × (IsTrue (has_pool (latest (fresh d) class_count) q) ⊎ HoldsKept kept r.account.homes q)
      go nobody at = let e : ◌≡◌ {A = Option ℕ} None (Some d) = ap owner_in (sym at) ∙ is in cc
      go (drawn e) at =
          let same : e ≡ d = let f : ◌≡◌ {A = Option ℕ} (Some e) (Some d) = ap owner_in (sym at) ∙ is in cc in
          let f = r.whole.full.drawn q e at in
          subst (λ z. (z < k.domains) × (IsTrue (has_pool (latest (fresh z) class_count) q) ⊎ HoldsKept kept r.account.homes q)) same
          ((r.whole.pools.drawn_by q e at).1, inl (latest_has (fresh e) class_count f.0 q f.1 f.2))
      go (owned e c) at =
          let same : e ≡ d = let f : ◌≡◌ {A = Option ℕ} (Some e) (Some d) = ap owner_in (sym at) ∙ is in cc in
          let own = r.whole.pools.owned_by q e c at in
          subst (λ z. (z < k.domains) × (IsTrue (has_pool (latest (fresh z) class_count) q) ⊎ HoldsKept kept r.account.homes q)) same
          (own.1, ⊎_elim (λ (f : fresh e c ≡ Some q). inl (latest_has (fresh e) class_count c q own.2 f)) (λ (h : HoldsKept kept r.account.homes q). inr h) (r.whole.full.owned unanswered q e c at))

  in_pools : InPools k.domains class_count kept r.account.homes (λ q. owner_in (holder q)) (λ d. latest (fresh d) class_count)
  in_pools = record {
    few = λ d. latest_few (fresh d) class_count;
    inside = λ q d is. (holds_kept q d is).0;
    holds = λ q d is. (holds_kept q d is).1;
  }

  -- so the pools are no more than the kept labels, one for each class and domain, and those that the domain found free
  few_kept : (f : ℕ) → last_found x ≡ Some f → k.pools ≤ length kept + class_count * k.domains + f
  few_kept f found =
      let words : List ℕ = s.words in
      let free = (my_good k s r id hist x at).hunter.free f found in
      let bound : Less (cursor words) (limit_of k (listed words)) = less (cursor words) (limit_of k (listed words)) in
      let m : ℕ = bound.least in
      let stage = subst (AtStage r.account.pause x.own.number x.own.arrivals) acts.runs (my_good k s r id hist x at).staged.stage in
      let spots : List Label = places m f in
      let nobodys : (q : ℕ) → q < k.pools → holder q ≡ nobody → HoldsKept spots named q = (λ q inside is.
      let c = r.whole.covered (inl (inl stage.1)) q inside is in
      let i : ℕ = c.0 in
      let low : m ≤ i = bound.below i c.3 in
      let top : listed words ≤ f + m = bound.fits (listed words) f free.0 free.1 in
      let n : ℕ = listed words in
      let under : i < n = c.1 in
      (as_label i, places_have m f i low (let t : n ≤ f + m = top in omega arith), ap Some c.2)) in
      let p : Parted holder spots named k.pools = parted holder spots named k.pools nobodys in
      let taken = pools_few k.domains class_count kept r.account.homes (λ q. owner_in (holder q)) (λ d. latest (fresh d) class_count) in_pools p.taken p.taken_differ p.have_owner in
      let vacant = few_pools spots named p.free p.free_differ p.at_places in
      total (length p.taken) (length p.free) (length spots) (length kept) (class_count * k.domains) k.pools taken vacant (places_count m f) p.count
    where
      total : (a b n l c pools : ℕ) → a ≤ l + c → b ≤ n → n ≡ f → a + b ≡ pools → pools ≤ l + c + f
      total a b n l c pools taken vacant same count = omega arith

  -- `full` may be answered at an allocation
  pub may_be_full : IsUsedUp k x → (c : Command) → is_allocation c ≡ true → MayBeFull now x.own.number c
  may_be_full up c makes = record {
    allocates = makes;
    fresh = fresh_stays (sizes_in k) x.own.number x.seen.front r.account.log (mine k s r id hist x at).front up.fresh;
    kept_enough = subst (λ (z : Sizes). z.pools ≤ now.kept + reserve z + z.classes * z.domains) (sym sizes_are)
        (total (length kept) now.kept (class_count * k.domains) up.free (reserve (sizes_in k)) (few_kept up.free up.found) up.few (kept_counts (sizes_in k) r.account.log r.whole.legal).count);
  }
    where
      sizes_are : now.sizes ≡ sizes_in k
      sizes_are = sizes_after (opening (sizes_in k)) r.account.log

      total : (l n c f z : ℕ) → k.pools ≤ l + c + f → f ≤ z → l ≡ n → k.pools ≤ n + z + c
      total l n c f z most few same = omega arith

  -- the pools are no more than the blocks that were ever made, one for each class and domain, and the reserve
  pub many_made : (f : ℕ) → last_found x ≡ Some f → f ≤ reserve (sizes_in k) → k.pools ≤ length now.graph + reserve (sizes_in k) + class_count * k.domains
  many_made f found few = total (length kept) now.kept (length now.graph) (class_count * k.domains) f (reserve (sizes_in k)) (few_kept f found) few (kept_counts (sizes_in k) r.account.log r.whole.legal).count (shaped-history (sizes_in k) r.account.log r.limits).kept_bound
    where
      total : (l n g c f z : ℕ) → k.pools ≤ l + c + f → f ≤ z → l ≡ n → n ≤ g → k.pools ≤ g + z + c
      total l n g c f z most few same bound = omega arith
