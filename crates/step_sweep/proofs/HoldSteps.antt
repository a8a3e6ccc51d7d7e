-- A domain finds that its pools hold blocks.
use Rattle.std.proofs.Common.{◌≡◌, ◌≢◌, ℕ, ◌+◌, ◌<◌, true≢false, IsTrue, List, get_or, set, Some, Option, sym, refl, ap, ◌∙◌, subst, inl, inr, ⊎_elim, arith}
use mathlib.Core.Logic.{dite}
use native.Mathlib.Decide.{ℕ_discrete}
use mathlib.Core.Option.{some}
use lib.ListN.{get_elem?}
use Rattle.atomic_table.specs.Table.{keeps}
use Rattle.model_core.specs.declared.entry.Entry.{Entry}
use Rattle.model_core.specs.declared.state.State as model
use Rattle.heap_rule.specs.declared.config.Config.{Config}
use Rattle.heap_rule.specs.declared.view.DomainView.{DomainView}
use Rattle.heap_rule.specs.declared.view.OwnPool.{OwnPool}
use Rattle.heap_rule.specs.Cycles.{HoldsBlock, IsCollecting, Knowing}
use Rattle.heap_rule.specs.Layout.{at_address, before_heap, owner_of}
use Rattle.heap_rule.specs.Places.{Place}
use Rattle.heap_rule.specs.Pools.{blocks_of, owned, place_in}
use Rattle.heap_rule.specs.Raw.{CanLeave, Closes, Leaves, MayStep}
use Rattle.heap_rule.specs.Rule.{Rule, state_of}
use Rattle.heap_rule.specs.Views.{one}
use Rattle.heap_rule.proofs.Keeps.{Words, my_good, unmoved}
use Rattle.heap_rule.proofs.OwnPlaces.{owned_same}
use Rattle.step_marks.specs.Marking.Looks.{with_share}
use Rattle.step_marks.proofs.OfMarking.Learning.{load_may, known, not_promoting}
use Rattle.step_marks.proofs.OfMarking.Plain.{share_closes}
use Rattle.step_sweep.specs.Holding.{HeldMay, HeldOwnMay, HeldOwnTold, HeldTold, Returns}
use Rattle.step_sweep.proofs.CountSteps.{counts_pools}
use Rattle.step_sweep.proofs.Swept.{returning, returns_clean}
use Rattle.step_marks.proofs.OfMarking.Layouts.{whose}
use Rattle.std.proofs.lemmas.Option.{same_Some}

module _ (k : Config) (s : Words) (r : Rule k s) (id : ℕ) (hist : List Entry) (x : DomainView) (at : get_elem? s.views id ≡ some (one k hist x)) (returns : Returns k x) where
  open r.account use {live, tenancy.{holder}, cycling as c}
  open x use {own.{number as d}, seen.{share as sh}}

  abbrev now : model.State
  now = state_of k r.account.log

  abbrev After : DomainView → Type 0
  After y = Rule k record { words = s.words; homes = s.homes; views = set s.views id (one k hist y) }

  kn : Knowing k live holder now.graph c.paint.marks s.words d x.own.registers sh
  kn = known k s r id hist x at

  collecting : IsCollecting x.seen.stage
  collecting = returning k s r id hist x at returns

  holds : (own_pool : Option OwnPool) (held vacant : ℕ) → ((u : OwnPool) → own_pool ≡ Some u → holder u.pool ≡ owned d u.class) → ((q class : ℕ) → holder q ≡ owned d class → q < held → HoldsBlock live q class)
      → ((class slot : ℕ) → holder held ≡ owned d class → slot < blocks_of class → slot < vacant → at_address k s.words (place_in held class slot) ≡ 0) → After (with_share x (record sh { own_pool = own_pool; held = held; vacant = vacant }))
  holds own_pool held vacant own all free = let n = kn.counted in counts_pools k s r id hist x at collecting own_pool sh.counted sh.counted_to sh.counted_words held vacant own
      (record { once = n.once; own = n.own; lives = n.lives; all = n.all; words = n.words }) (my_good k s r id hist x at).sharing.adds.own all free

  -- one pool more is looked at
  one_more : (pool : ℕ) → sh.held ≡ pool → ((class : ℕ) → holder pool ≡ owned d class → HoldsBlock live pool class) → After (with_share x (record sh { held = pool + 1; vacant = 0 }))
  one_more pool next here = holds sh.own_pool (pool + 1) 0 kn.own_pool (λ q class is low. dite (ℕ_discrete q pool)
      (λ same. subst (λ (z : ℕ). HoldsBlock live z class) (sym same) (here class (ap holder (sym same) ∙ is)))
      (λ other. kn.held q class is (let m : ℕ = sh.held in let e : m ≡ pool = next in let l : q < pool + 1 = low in let n : q ≢ pool = other in let g : q < m = omega arith in g)))
      (λ class slot is inside low. absurd (let l : slot < 0 = low in omega arith))

  pub owner_held : (word pool : ℕ) → HeldOwnMay k x word pool → (y : DomainView) × After y × HeldOwnTold pool x (owner_of k s.words pool) y
  owner_held word pool may = ⊎_elim
      (λ u. (
        with_share x (record sh { own_pool = Some (record { pool = pool; class = u.0 }) }),
        holds (Some (record { pool = pool; class = u.0 })) sh.held sh.vacant (λ v e. subst (λ (z : OwnPool). holder z.pool ≡ owned d z.class) (same_Some (record { pool = pool; class = u.0 }) v e) u.1) kn.held kn.vacant,
        record { told = inl (u.0, u.2, u.3, refl) },
      ))
      (λ u. (with_share x (record sh { held = pool + 1; vacant = 0 }), one_more pool may.next (λ class is. absurd (u.0 class is)), record { told = inr (u.1, ap (λ (n : ℕ). with_share x (record sh { held = pool + 1; vacant = n })) (sym may.first)) }))
      (whose k s r d pool may.inside (holder pool) refl)

  pub held_at : (a pool class slot : ℕ) → HeldMay k x a pool class slot → (y : DomainView) × After y × HeldTold pool slot x (at_address k s.words a) y
  held_at a pool class slot may =
      let own : holder pool ≡ owned d class = kn.own_pool (record { pool = pool; class = class }) may.own in
      let b : ℕ = place_in pool class slot in
      dite (ℕ_discrete (at_address k s.words a) 0)
      (λ free. (
        with_share x (record sh { vacant = slot + 1 }),
        holds sh.own_pool sh.held (slot + 1) kn.own_pool kn.held (λ e i is inside low. dite (ℕ_discrete i slot)
            (λ same.
            let class_is : class ≡ e = (owned_same d d class e (sym own ∙ (ap holder (sym may.next) ∙ is))).1 in
            subst (λ (z : ℕ × ℕ × ℕ). at_address k s.words (place_in z.0 z.1 z.2) ≡ 0) (λ j. (sym may.next j, class_is j, sym same j)) (ap (at_address k s.words) (sym may.word) ∙ free))
            (λ other. kn.vacant e i is inside (let v : ℕ = sh.vacant in let v_is : v ≡ slot = may.slot_is in let l : i < slot + 1 = low in let n : i ≢ slot = other in let g : i < v = omega arith in g))),
        record { told = inl (free, refl) },
      ))
      (λ full. (
        with_share x (record sh { held = pool + 1; vacant = 0 }),
        one_more pool may.next (λ e is.
            let same : e ≡ class = (owned_same d d e class (sym is ∙ own)).1 in
            subst (HoldsBlock live pool) (sym same) (
              slot,
              may.inside,
              ⊎_elim
                  (λ (z : at_address k s.words b ≡ 0). absurd (full (ap (at_address k s.words) may.word ∙ z)))
                  (λ z. ⊎_elim
                  (λ (u : (p : Place) × (live b ≡ Some p)). u)
                  (λ u. absurd (⊎_elim
                  (λ (f : r.account.tenancy.prepared b ≡ Some d). not_promoting k s r id hist x at collecting (r.whole.drawers.prepared b d f).1)
                  (λ (f : IsTrue (r.account.tenancy.garbage b)). true≢false (sym f ∙ returns_clean k s r id hist x at returns pool class slot own may.inside))
                  u))
                  z)
                  (r.whole.grid.places pool d class slot own may.inside),
            )),
        record { told = inr (full, refl) },
      ))

pub held_own_may : (k : Config) (x : DomainView) (word pool : ℕ) → HeldOwnMay k x word pool → MayStep k x word (λ n. n) (HeldOwnTold pool)
held_own_may k x word pool may fits slots id hist s r _ at _ =
    let o = owner_held k s r id hist x at may.returns word pool may in
    (one k hist o.0, keeps, tt, unmoved k s word (set s.views id (one k hist o.0)) o.1, (subst (λ (n : ℕ). HeldOwnTold pool x (get_or s.words n 0) o.0) (sym may.word) o.2, refl))

pub held_own_closes : (k : Config) (x : DomainView) (found pool : ℕ) → Closes k x found (HeldOwnTold pool) CanLeave Leaves
held_own_closes k x found pool = share_closes k x found (HeldOwnTold pool) (λ y t. ⊎_elim (λ u. (record x.seen.share { own_pool = Some (record { pool = pool; class = u.0 }) }, u.3)) (λ u. (record x.seen.share { held = pool + 1 }, u.1)) t.told)

pub held_may : (k : Config) (x : DomainView) (word a pool class slot : ℕ) → word ≡ before_heap k + a → HeldMay k x a pool class slot → MayStep k x word (λ n. n) (HeldTold pool slot)
held_may k x word a pool class slot place may = load_may k x word a (HeldTold pool slot) place (λ s r id hist at. held_at k s r id hist x at may.returns a pool class slot may)

pub held_closes : (k : Config) (x : DomainView) (found pool slot : ℕ) → Closes k x found (HeldTold pool slot) CanLeave Leaves
held_closes k x found pool slot = share_closes k x found (HeldTold pool slot) (λ y t. ⊎_elim (λ u. (record x.seen.share { vacant = slot + 1 }, u.1)) (λ u. (record x.seen.share { held = pool + 1; vacant = 0 }, u.1)) t.told)
