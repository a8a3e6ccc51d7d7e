-- A domain that copies young blocks always finds a pool to draw.
use Rattle.model_core.specs.Domains.{class_count}
use Rattle.std.proofs.Common.{◌≡◌, ℕ, ◌+◌, ◌*◌, ◌<◌, ◌≤◌, List, Some, None, sym, ◌∙◌, subst, inl, ⊎_elim, arith, lt_of_not-le}
use mathlib.Core.Logic.{dite}
use native.Mathlib.Decide.{dec_le}
use mathlib.Core.Option.{some}
use lib.ListN.{get_elem?}
use Rattle.model_core.specs.declared.entry.Entry.{Entry}
use Rattle.heap_rule.specs.declared.config.Config.{Config}
use Rattle.heap_rule.specs.declared.view.DomainView.{DomainView}
use Rattle.heap_rule.specs.Layout.{at_address, listed, cursor}
use Rattle.heap_rule.specs.Views.{one}
use Rattle.heap_rule.specs.Rule.{Rule}
use Rattle.heap_rule.specs.Pools.{Tenancy, Pools, Hunter, Latest, DrawsFor, drawn_in, search_at, prepared_at, place_in, blocks_of}
use Rattle.step_pools.specs.Takes.{NoneFree, CopyDrawMay}
use Rattle.heap_rule.proofs.Keeps.{Words, mine, my_good}
use Rattle.heap_rule.proofs.PauseFacts.{promote_now}
use Rattle.heap_rule.proofs.Counting.{room_left}
use Rattle.step_pools.proofs.DrawSteps.{draws_none}
use Rattle.std.proofs.lemmas.Option.{none-some}

-- where no place of an own pool of the class is free or prepared, the pools drawn for the class are used up
used_up : (k : Config) (t : Tenancy) (words : List ℕ) (x : DomainView) (class : ℕ) → Pools k t words → Hunter k t words x → class < class_count → drawn_in x.seen.hunt ≡ None → NoneFree k x class → prepared_at x.own.prepared class ≡ None
    → t.stock.drawn x.own.number class * blocks_of class ≤ t.stock.copies x.own.number class
used_up k t words x class p h few free none_free unprepared =
    let n : ℕ = t.stock.drawn x.own.number class in
    let b : ℕ = blocks_of class in
    let c : ℕ = t.stock.copies x.own.number class in
    dite (dec_le n 0)
    (λ none. let e : n ≡ 0 = (let l : n ≤ 0 = none in omega arith) in subst (λ (m : ℕ). m * b ≤ c) (sym e) (let z : 0 * b ≤ c = omega arith in z))
    (λ some. ⊎_elim (λ (u : DrawsFor class x.seen.hunt). absurd (draws_none class x.seen.hunt free u))
    (λ (l : Latest k t words x.own.number class).
    let u : ℕ = t.stock.used x.own.number class in
    let q : ℕ = t.stock.latest x.own.number class in
    let enough : n * b + u ≤ c + b = l.enough in
    let v : ℕ = n * b in
    dite (dec_le b u)
    (λ all. let a : b ≤ u = all in let f : v + u ≤ c + b = enough in let o : v ≤ c = omega arith in o)
    (λ not_all.
    let inside : u < b = lt_of_not-le not_all in
    let below : q < k.pools = (p.owned_by q x.own.number class l.own_is).0 in
    let seen : q < (search_at x.own.looked class).pool = (let w : ℕ = (search_at x.own.looked class).pool in let f : k.pools ≤ w = none_free in let o : q < w = omega arith in o) in
    absurd (⊎_elim
    (λ (z : at_address k words (place_in q class u) ≡ 0). h.taken q class u l.own_is inside (inl (inl seen)) z)
    (λ (z : (u ≡ u) × (t.prepared (place_in q class u) ≡ Some x.own.number)). none-some (place_in q class u) (sym unprepared ∙ h.prepared q class u l.own_is inside z.1))
    (l.rest u (let o : u ≤ u = omega arith in o) inside))))
    (h.supply class few (lt_of_not-le some)))

module _ (k : Config) (s : Words) (r : Rule k s) (id : ℕ) (hist : List Entry) (x : DomainView) (at : get_elem? s.views id ≡ some (one k hist x)) (class : ℕ) (may : CopyDrawMay k x class) where
  pub all_used : r.account.tenancy.stock.drawn x.own.number class * blocks_of class ≤ r.account.tenancy.stock.copies x.own.number class
  all_used = used_up k r.account.tenancy s.words x class r.whole.pools (my_good k s r id hist x at).hunter may.of_class may.at_rest may.none_free may.unprepared

  pub pool_left : cursor s.words < listed s.words
  pool_left =
      let g = my_good k s r id hist x at in
      let lasts = g.owes.knows may.young.address may.young.block may.young.met in
      room_left k r.account.live r.account.pause r.account.tenancy.stock s.words r.whole.room r.limits x.own.number class (mine k s r id hist x at).inside may.of_class all_used (promote_now r.account.pause x may.stage g.staged) may.young.address lasts.place lasts.lives may.young.young
