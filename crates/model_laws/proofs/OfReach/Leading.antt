-- What a search that came to its end says of all ways.
use Rattle.std.proofs.Common.{◌≡◌, ◌≢◌, ◌∙◌, ℕ, ◌<◌, ◌≤◌, ⊎_elim, arith, cond, ltb, Bool, true, false, IsTrue, List, [], ◌∷◌, length, get_or, slice_get, refl, ap, sym, subst, Option, Some, None}
use Rattle.std.proofs.lemmas.Option.{get_or_from_slice_get, same_Some, slice_get-get_or, slice_get_within}
use Rattle.model_core.specs.declared.label.Label.{Label}
use Rattle.std.specs.List.{position, position_or_len}
use Rattle.std.proofs.lemmas.List.Quantifiers.{position-Some}
use Rattle.std.proofs.lemmas.List.Sums.{fails_before_first}
use borrow.Author.Tests.{ltb-false}
use Rattle.model_core.proofs.Reach.ReachLemmas.{true_or_false}
use Rattle.model_core.specs.Graph.{Graph, same_label}
use Rattle.model_core.proofs.Graphs.GraphLemmas.{same_label_refl, same_label-true}
use Rattle.model_laws.specs.declared.reach.seen.Seen.{Seen}
use Rattle.model_laws.specs.declared.reach.asking.Reason.TheVariants.{Nothing}
use Rattle.model_laws.specs.declared.reach.seen.Way.{Way}
use Rattle.model_laws.specs.declared.reach.seen.Origin.TheVariants.{Register}
use Rattle.model_laws.specs.Reach.Asking.{IsUnled, IsWhy}
use Rattle.model_laws.specs.Reach.Exploring.{AllTraced, Explored, Has, has_seen}
use Rattle.model_laws.specs.Reach.Ways.{Edges, IsLedTo, IsNoEphemeron, follow, leads, refers, refers_but}
use Rattle.model_laws.proofs.OfReach.Adding.{stands_there}
use Rattle.model_laws.proofs.OfReach.Going.{follow_none, follow_step}

module _ (g : Graph) (roots : ℕ → Option Label) (stop : Option Label) (seen : List Seen) (weak : Bool) (x : Explored g roots stop seen (length seen) weak) where
  -- where fields lead on from a block to which the search came, it came
  on_from : (o : Label) → Has seen o → (is : List ℕ) (l : Label) → follow (refers_but g stop) (Some o) is ≡ Some l → Has seen l
  on_from o has [] l way = subst (Has seen) (same_Some o l way) has
  on_from o has (i ∷ is) l way =
      let s = follow_step (refers_but g stop) (Some o) i is l way in
      let at = stands_there seen o has in
      let refer : refers_but g stop at.item.label i ≡ Some s.1 = ap (λ (k : Label). refers_but g stop k i) (at.label ∙ same_Some o s.0 s.2) ∙ s.3 in
      on_from s.1 (x.closed at.place at.item (slice_get_within seen at.place at.item at.at) at.at i s.1 refer) is l s.4

  -- so it came wherever a way leads
  pub led_seen : (l : Label) → IsLedTo (refers_but g stop) roots l → Has seen l
  led_seen l led = from_root (roots led.register) refl
    where
      from_root : (o : Option Label) → roots led.register ≡ o → Has seen l
      from_root None none = let clash : None ≡ Some l = sym (follow_none (refers_but g stop) led.fields) ∙ (ap (λ (o : Option Label). follow (refers_but g stop) o led.fields) (sym none) ∙ led.leads_there) in cc
      from_root (Some o) root = on_from o (x.rooted led.register o led.few root) led.fields l (ap (λ (k : Option Label). follow (refers_but g stop) k led.fields) (sym root) ∙ led.leads_there)

module _ (g : Graph) (roots : ℕ → Option Label) (seen : List Seen) (weak : Bool) (x : Explored g roots None seen (length seen) weak) (l : Label) (unseen : has_seen seen l ≡ false) where
  pub unled : IsUnled g roots l
  unled led = let has : Has seen l = led_seen g roots None seen weak x l led in let clash : true ≡ false = sym has ∙ unseen in cc

  pub unled_why : weak ≡ false → IsWhy g roots l Nothing
  unled_why strong = (
    unled,
    λ m led.
        let at = stands_there seen m (led_seen g roots None seen weak x m led) in
        subst (IsNoEphemeron g) at.label (x.plain strong at.place at.item (slice_get_within seen at.place at.item at.at) at.at (λ clash. cc)),
  )

-- the block that was found first stands at its place
pub found_at : (seen : List Seen) (l : Label) (at : ℕ) (d : Seen) → position (λ (b : Seen). same_label b.label l) seen ≡ Some at → (slice_get seen at ≡ Some (get_or seen at d)) × ((get_or seen at d).label ≡ l)
found_at seen l at d is =
    let p = position-Some (λ (b : Seen). same_label b.label l) seen at d is in
    (slice_get-get_or seen at d p.0, same_label-true (get_or seen at d).label l p.1)

-- and one that wasn't doesn't stand there
pub not_found : (seen : List Seen) (l : Label) → position (λ (b : Seen). same_label b.label l) seen ≡ None → has_seen seen l ≡ false
not_found seen l is = ⊎_elim
    (λ (has : Has seen l).
    let at = stands_there seen l has in
    let p : Seen → Bool = λ b. same_label b.label l in
    let inside : at.place < length seen = slice_get_within seen at.place at.item at.at in
    let first : ℕ = position_or_len p seen in
    let past : length seen ≤ first = ltb-false first (length seen) (none_past (ltb first (length seen)) first is) in
    let n : ℕ = length seen in
    let fails : p (get_or seen at.place at.item) ≡ false = fails_before_first p seen at.place at.item (let k : ℕ = at.place in let h : k < n = inside in let j : n ≤ first = past in let r : k < first = omega arith in r) in
    let passes : p (get_or seen at.place at.item) ≡ true = ap (λ (b : Seen). same_label b.label l) (get_or_from_slice_get seen at.place at.item at.item at.at) ∙ (ap (λ (k : Label). same_label k l) at.label ∙ same_label_refl l) in
    let clash : true ≡ false = sym passes ∙ fails in cc)
    (λ (none : has_seen seen l ≡ false). none)
    (true_or_false (has_seen seen l))
  where
    none_past : (b : Bool) (i : ℕ) → cond b (Some i) None ≡ None → b ≡ false
    none_past true i is = cc
    none_past false i is = refl

-- the way to it is one to the block that was asked for
pub why_found : (g : Graph) (roots : ℕ → Option Label) (seen xs ys : List Seen) (weak : Bool) (l : Label) (at : ℕ) (way : Way) → Explored g roots None seen (length seen) weak → xs ≡ seen → ys ≡ seen
    → position (λ (b : Seen). same_label b.label l) xs ≡ Some at → ((f : Edges) (rs : ℕ → Option Label) (b : Seen) → AllTraced f rs ys → slice_get ys at ≡ Some b → leads f rs way ≡ Some b.label) → leads (refers g) roots way ≡ Some l
why_found g roots seen xs ys weak l at way x same_xs same_ys place traced =
    let d : Seen = record { label = l; origin = Register 0 } in
    let found = found_at seen l at d (ap (position (λ (b : Seen). same_label b.label l)) (sym same_xs) ∙ place) in
    let b : Seen = get_or seen at d in
    subst (λ (zs : List Seen). (f : Edges) (rs : ℕ → Option Label) (c : Seen) → AllTraced f rs zs → slice_get zs at ≡ Some c → leads f rs way ≡ Some c.label) same_ys traced (refers g) roots b x.traced found.0 ∙ ap Some found.1

pub why_not : (seen xs : List Seen) (l : Label) → xs ≡ seen → position (λ (b : Seen). same_label b.label l) xs ≡ None → has_seen seen l ≡ false
why_not seen xs l same none = not_found seen l (ap (position (λ (b : Seen). same_label b.label l)) (sym same) ∙ none)
