-- Looks at listed ephemerons one behind the other.
use Rattle.std.proofs.Common.{◌≡◌, ◌∙◌, ℕ, ◌+◌, ◌-◌, ◌<◌, ◌≤◌, List, length, slice_get, Some, ap, sym, subst, ⊎_elim, arith}
use Rattle.std.proofs.lemmas.Option.{slice_get_within}
use Rattle.std.specs.List.{swap_remove}
use Rattle.heap_rule.specs.declared.view.DomainView.{DomainView}
use Rattle.step_sweep.specs.Freeing.{IsColoured}
use Rattle.step_sweep.specs.Pruning.{PruneTold, pruned_to, unlisted}
use Rattle.step_sweep.proofs.Removals.{shorter, was_among}
use Rattle.gc_sweep.specs.Pruning.{PrunedOn}

module _ (garbage at i found : ℕ) (x y z : DomainView) (so : PrunedOn garbage x y) (listed : slice_get y.own.ephemerons.items i ≡ Some at) (next : y.own.swept.listed ≡ i) (told : PruneTold at i garbage y found z) where
  abbrev without : DomainView
  without = record y { own = unlisted at i y.own }

  abbrev onward : DomainView
  onward = record y { own = pruned_to i y.own }

  abbrev items : List ℕ
  items = y.own.ephemerons.items

  few : i < length items
  few = slice_get_within items i at listed

  -- the list is one shorter
  less : length (swap_remove items i at) ≡ length items - 1
  less = shorter items i at listed

  -- the ephemeron is garbage
  goes : PrunedOn garbage x without
  goes = record {
    view = ap (λ (v : DomainView). record v { own = unlisted at i v.own }) so.view;
    shortens = record {
      among = λ a is. so.shortens.among a (was_among items i at listed a is);
      room =
          let m : ℕ = length items in
          let n : ℕ = length (swap_remove items i at) in
          let e : n ≡ m - 1 = less in
          let h : i < m = few in
          let q : ℕ = y.own.ephemerons.room in
          let g : q + 1 + n ≡ q + m = omega arith in
          g ∙ so.shortens.room;
      no_less = let q : ℕ = y.own.ephemerons.room in let p : ℕ = x.own.ephemerons.room in let h : p ≤ q = so.shortens.no_less in let g : p ≤ q + 1 = omega arith in g;
    };
    prunes = record { stage = so.prunes.stage; colours = so.prunes.colours; known = so.prunes.known; means = so.prunes.means };
  }

  -- or it lives
  stays : PrunedOn garbage x onward
  stays = record {
    view = ap (λ (v : DomainView). record v { own = pruned_to i v.own }) so.view;
    shortens = record { among = so.shortens.among; room = so.shortens.room; no_less = so.shortens.no_less };
    prunes = record { stage = so.prunes.stage; colours = so.prunes.colours; known = so.prunes.known; means = so.prunes.means };
  }

  pub pruned_on : PrunedOn garbage x z
  pruned_on = ⊎_elim
      (λ (u : (IsColoured garbage found → ⊥) × (z ≡ onward)). subst (PrunedOn garbage x) (sym u.1) stays)
      (λ (u : IsColoured garbage found × (z ≡ without)). subst (PrunedOn garbage x) (sym u.1) goes)
      told.told

  -- fewer are left to look at
  pub fewer : length z.own.ephemerons.items - z.own.swept.listed < length items - y.own.swept.listed
  fewer =
      let m : ℕ = length items in
      let p : ℕ = y.own.swept.listed in
      let e : p ≡ i = next in
      let h : i < m = few in ⊎_elim
      (λ (u : (IsColoured garbage found → ⊥) × (z ≡ onward)). subst (λ (v : DomainView). length v.own.ephemerons.items - v.own.swept.listed < m - p) (sym u.1) (let g : m - (i + 1) < m - p = omega arith in g))
      (λ (u : IsColoured garbage found × (z ≡ without)). subst (λ (v : DomainView). length v.own.ephemerons.items - v.own.swept.listed < m - p) (sym u.1) (let n : ℕ = length (swap_remove items i at) in let l : n ≡ m - 1 = less in let g : n - p < m - p = omega arith in g))
      told.told
