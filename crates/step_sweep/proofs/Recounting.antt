-- A step on one of the words of what lives, which leaves all blocks and all pools.
use Rattle.std.proofs.Common.{◌≡◌, ◌≢◌, ℕ, ◌+◌, ◌<◌, ◌≤◌, ◌⊎◌, List, length, get_or, set, sym, refl, ◌∙◌, subst, inl, ⊎_elim, arith, length-set, get_or-set_same, get_or-set_other, ◌*◌}
use mathlib.Core.Option.{some}
use lib.ListN.{get_elem?}
use Rattle.model_core.specs.declared.entry.Entry.{Entry}
use Rattle.heap_rule.specs.declared.config.Config.{Config}
use Rattle.heap_rule.specs.declared.view.DomainView.{DomainView}
use Rattle.heap_rule.specs.declared.view.Share.{Share}
use Rattle.heap_rule.specs.Copies.{Promoting}
use Rattle.heap_rule.specs.Cycles.{Cycled, Cycling}
use Rattle.heap_rule.specs.Layout.{at_address, before_heap, heap_words}
use Rattle.heap_rule.specs.Places.{Paint}
use Rattle.heap_rule.specs.Pools.{Hunter, Tenancy}
use Rattle.heap_rule.specs.Sweeping.{SweepsIn}
use Rattle.heap_rule.specs.Rule.{AllFound, Good, Rule, Sharing, state_of}
use Rattle.heap_rule.specs.Views.{one}
use Rattle.heap_rule.proofs.Holders.{Agrees, agrees_set, found_heap, grid_heap, hunter_agree, making_heap, same_self}
use Rattle.heap_rule.proofs.Keeps.{Words, hunter_as, my_good}
use Rattle.step_marks.specs.Marking.Looks.{with_share}
use Rattle.step_sweep.proofs.Reaping.{reaps}
use Rattle.heap_rule.proofs.Sizes.{some_pool}

-- the word of the live blocks, or that of the live words
abbrev pub IsCount : ℕ → Type 0
IsCount i = (i ≡ 9) ⊎ (i ≡ 10)

pub count_bounds : (i : ℕ) → IsCount i → (9 ≤ i) × (i ≤ 10)
count_bounds i is = ⊎_elim (λ (e : i ≡ 9). (omega arith, omega arith)) (λ (e : i ≡ 10). (omega arith, omega arith)) is

module _ (k : Config) (s : Words) (r : Rule k s) (id : ℕ) (hist : List Entry) (x : DomainView) (at : get_elem? s.views id ≡ some (one k hist x)) (i v : ℕ) (is : IsCount i) where
  abbrev t : Tenancy
  t = r.account.tenancy

  abbrev pub recounted : List ℕ
  recounted = set s.words i v

  pub other : (j : ℕ) → j ≢ i → get_or recounted j 0 ≡ get_or s.words j 0
  other j differ = get_or-set_other s.words i j v 0 differ

  pub here : get_or recounted i 0 ≡ v
  here = get_or-set_same s.words i v 0 (let b = count_bounds i is in let w : ℕ = heap_words k in let n : ℕ = before_heap k in let e : length s.words ≡ 1 + n + w = r.whole.wide in let o : 10 ≤ n = omega arith in omega arith)

  -- the words before the live words stay
  pub low : (j : ℕ) → j ≤ 8 → get_or recounted j 0 ≡ get_or s.words j 0
  low j few = other j (λ e. let b = count_bounds i is in omega arith)

  pub heap : (a : ℕ) → at_address k recounted a ≡ at_address k s.words a
  heap a = other (before_heap k + a) (λ e. let b = count_bounds i is in let n : ℕ = k.pools in let h : 0 < n = some_pool k r.limits in let f : 10 + 2 * n + a ≡ i = e in omega arith)

  -- What such a step owes
  pub record Recounts (share' : Share) (c' : Cycling) : Type 0 where
    pub calm : Promoting r.account.pause → ⊥
    pub kind : c'.kind ≡ r.account.cycling.kind
    pub paint : c'.paint ≡ r.account.cycling.paint
    pub cycle : Cycled k (state_of k r.account.log) r.account.live r.account.pause t c' recounted
    pub sharing : Sharing k (record r.account { cycling = c' }) recounted x.own.number x.own.registers x.own.finalisers x.own.ephemerons.items x.seen.stage share'
    pub sharings : (z : DomainView) → z.own.number < k.domains → z.own.number ≢ x.own.number → Good k r.account s.words z → Sharing k (record r.account { cycling = c' }) recounted z.own.number z.own.registers z.own.finalisers z.own.ephemerons.items z.seen.stage z.seen.share
    pub sweeps : SweepsIn t c' (with_share x share')
    pub others_sweep : (z : DomainView) → Good k r.account s.words z → SweepsIn t c' z

  pub recounts : (share' : Share) (c' : Cycling) → Recounts share' c' → Rule k record { words = recounted; homes = s.homes; views = set s.views id (one k hist (with_share x share')) }
  recounts share' c' o =
      let b = count_bounds i is in
      let agrees : Agrees k s.words recounted = agrees_set k s.words i v (λ e. omega arith) (inl (omega arith)) (omega arith) in
      let hunters : (z : DomainView) → Hunter k t s.words z → Hunter k t recounted z = (λ z h. hunter_agree k t t s.words recounted agrees z (let e = low 7 (omega arith) in let m : ℕ = get_or s.words 7 0 in let n : ℕ = get_or recounted 7 0 in let f : n ≡ m = e in let g : m ≤ n = omega arith in g) (same_self t z.own.number) h) in
      reaps k s r id hist x at x.own.looked x.own.ephemerons x.own.swept share' r.account.live t.garbage c' recounted record {
        wide = length-set s.words i v;
        control = λ j _ _ nine ten. other j (λ e. ⊎_elim (λ (f : i ≡ 9). nine (e ∙ f)) (λ (f : i ≡ 10). ten (e ∙ f)) is);
        calm = o.calm;
        kind = o.kind;
        subset = λ a p e. e;
        stood = λ z st. st;
        fields = λ z _ g. g.owes.fields;
        found = subst (λ (paint : Paint). AllFound k paint r.account.live (state_of k r.account.log).graph recounted) (sym o.paint) (found_heap k r.account.cycling.paint r.account.live (state_of k r.account.log).graph s.words recounted (λ a _. heap a) r.whole.placed r.whole.found);
        grid = grid_heap k t r.account.live s.words recounted (λ a _. heap a) r.whole.grid;
        makings = λ z g. making_heap k s.words recounted z (λ a _. heap a) g.making;
        hunter = hunter_as k t recounted x (with_share x share') refl refl refl refl refl refl refl (hunters x (my_good k s r id hist x at).hunter);
        hunters = λ z _ g. hunters z g.hunter;
        cycle = o.cycle;
        sharing = o.sharing;
        sharings = o.sharings;
        listed_own = (my_good k s r id hist x at).listed;
        listeds = λ z _ g. g.listed;
        left = r.whole.full.left;
        sweeps = o.sweeps;
        others_sweep = λ z _ _ g. o.others_sweep z g;
      }
