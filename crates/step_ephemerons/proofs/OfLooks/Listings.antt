-- The listed ephemerons of a domain, and what it knows once it has been at the place of one.
use Rattle.std.proofs.Common.{◌≡◌, ℕ, ◌==◌, ◌||◌, Bool, IsTrue, List, Option, suc, ◌+◌, false, [], ◌∷◌, slice_get, Some, unwrap_or, sym, refl, ap, ◌∙◌, subst, ⊎_elim, ◌<◌, ◌≤◌, set, None, true≢false, ℤ, length, arith}
use mathlib.Core.Option.{some}
use lib.ListN.{get_elem?}
use Rattle.heap_rule.specs.declared.config.Config.{Config}
use Rattle.heap_rule.specs.Places.{Live, Place, Debt, HasValue, Stands, WordStands, values_of, IsBare, extent}
use Rattle.heap_rule.proofs.Keeps.{Words, my_good}
use Rattle.model_core.specs.declared.label.Label.{Label}
use Rattle.heap_rule.specs.Rule.{Rule, state_of}
use Rattle.model_core.specs.declared.entry.Entry.{Entry}
use Rattle.model_core.specs.declared.graph.Value.{Value}
use Rattle.model_core.specs.declared.graph.Node.{Node}
use Rattle.model_core.specs.Graph.{node_at}
use Rattle.model_core.proofs.Reach.ReachLemmas.{or_right}
use Rattle.heap_words.specs.declared.value.Value.TheVariants.{Ref, Int as IntWord, Nothing as NothingWord}
use Rattle.heap_rule.specs.declared.phase.Kind.{Kind}
use Rattle.heap_rule.specs.declared.view.DomainView.{DomainView}
use Rattle.heap_rule.specs.Cycles.{IsCollecting, seen_by, Facts, cycle_of, label_at}
use Rattle.heap_rule.specs.Views.{one}
use Rattle.step_marks.proofs.OfMarking.Learning.{Knows, known, looks_same, at_same, at_other, bare, grows_still, held, owed_in, owes_same, shifts_more, waits, Held, holding}
use Rattle.step_marks.proofs.OfMarking.Layouts.{labelled, owner_of_place}
use Rattle.step_marks.proofs.OfMarking.Unswept.{IsTracing, none_unswept}
use Rattle.model_cycle.specs.Shares.{at_domain}
use Rattle.heap_rule.specs.Pools.{owned, blocks_of, IsBefore, place_in, OwnPlace}
use Rattle.heap_rule.specs.Layout.{at_address, heap_words}
use Rattle.step_marks.specs.Marking.Looks.{with_share}
use Rattle.std.proofs.lemmas.Option.{same_Some, slice_get-map}
use Rattle.heap_rule.proofs.EphemeronLemmas.{found_value}
use Rattle.model_core.specs.declared.graph.Node.TheVariants.{Plain, Raw, Ephe}
use Rattle.model_core.specs.Fronts.{EpheShape, shape_of}
use Rattle.step_ephemerons.specs.Looks.Rounding.{place_seen}
use Rattle.heap_rule.proofs.Controls.{untouched_same}
use Rattle.model_core.specs.Commands.{key_value}
use Rattle.heap_rule.specs.Ephemerons.{IsEpheAt}
use Rattle.model_core.specs.declared.state.State as model
use Rattle.heap_words.specs.declared.value.Value as words
use Rattle.std.specs.Prelude.{option_map}

ephe_node : (n : Node) (count : ℕ) → shape_of n ≡ EpheShape count → (keys : List (Option Label)) × (datum : Value) × (n ≡ Ephe keys datum) × (length keys ≡ count)
ephe_node (Plain tag fields) count e = cc
ephe_node (Raw tag fields) count e = cc
ephe_node (Ephe keys datum) count e = let many : length keys ≡ count = cc in (keys, datum, refl, many)

module _ (k : Config) (s : Words) (r : Rule k s) (id : ℕ) (hist : List Entry) (x : DomainView) (at : get_elem? s.views id ≡ some (one k hist x)) where
  open r.account use {live, tenancy.{holder}, cycling as c}
  open x use {own.{number as d}, seen.{share as sh}}

  abbrev now : model.State
  now = state_of k r.account.log

  -- a listed place is one of the domain's own
  pub own_listed : (a : ℕ) → IsTrue (seen_by x.own.ephemerons.items a) → OwnPlace holder a d
  own_listed a listed = (my_good k s r id hist x at).listed.own a listed

  pub owner_listed : (a : ℕ) → IsTrue (seen_by x.own.ephemerons.items a) → (cycle_of k live holder c).layout.owner a ≡ Some d
  owner_listed a listed = let o = own_listed a listed in ap (λ (b : ℕ). (cycle_of k live holder c).layout.owner b) o.begins ∙ owner_of_place holder o.pool d o.class o.slot (r.whole.pools.owned_by o.pool d o.class o.owned_is).2 o.owned_is o.inside

  -- before the colours are rotated an ephemeron lives there
  pub lives_listed : (a : ℕ) → IsTrue (seen_by x.own.ephemerons.items a) → (kind : Kind) → IsTracing kind → c.kind ≡ kind → c.rotated ≡ false → IsEpheAt live a
  lives_listed a listed kind traces is unrotated = ⊎_elim
      (λ (h : IsEpheAt live a). h)
      (λ (h : IsTrue (r.account.tenancy.garbage a)). absurd (true≢false (sym h ∙ none_unswept k now live r.account.pause r.account.tenancy c s.words r.whole.cycle kind traces is unrotated a)))
      ((my_good k s r id hist x at).listed.lives a listed)

  -- the block at an address is the one that lives there
  pub one_label : (a : ℕ) (p : Place) (l : Label) → live a ≡ Some p → label_at k live a ≡ Some l → p.label ≡ l
  one_label a p l lives there = let u = labelled k live a l there in ap (λ (z : Place). z.label) (ap (λ (z : Option Place). unwrap_or z p) (sym lives ∙ u.lives)) ∙ u.label

  -- once the domain has been at a place
  abbrev pub sees_at : ℕ → ℕ → ℕ → Bool
  sees_at a = at_domain c.shares.seen d (λ b. b == a || c.shares.seen d b)

  pub walked_seen : (a : ℕ) (q e slot : ℕ) → holder q ≡ owned d e → slot < blocks_of e → IsBefore q slot sh.walk → IsTrue (seen_by (a ∷ sh.places_seen) (place_in q e slot))
  walked_seen a q e slot is inside low = or_right (place_in q e slot == a) (seen_by sh.places_seen (place_in q e slot)) ((known k s r id hist x at).walked q e slot is inside low)

  -- a step at which a domain finds at a place what the phase asks
  pub saw_place : (collecting : IsCollecting x.seen.stage) (a : ℕ) (h : Held) → owed_in (held sh) ≡ owed_in h → a ∷ sh.places_seen ≡ h.places_seen → Facts c.kind k now live r.account.tenancy (record c { shares = record c.shares { seen = sees_at a } }) s.words
      → Knows k s r id hist x at collecting c.paint.marks s.words h → Rule k record { words = s.words; homes = s.homes; views = set s.views id (one k hist (with_share x (holding sh h))) }
  saw_place collecting a h owes places_seen facts knows =
      let t = (my_good k s r id hist x at).sharing.telling in
      let not_arrived : c.shares.arrived d ≡ false = waits k s r id hist x at collecting in
      shifts_more k s r id hist x at collecting c.shares.changed c.shares.owes c.shares.follows (sees_at a) h s.words (untouched_same s.words) refl refl refl r.whole.cycle.changed_is
      facts
      (grows_still k s r id hist x at collecting)
      (λ z other. (refl, refl, at_other c.shares.seen d (λ b. b == a || c.shares.seen d b) z other))
      (owes_same (c.shares.owes d) (c.shares.follows d) (held sh) h owes (t.owes not_arrived))
      (at_same c.shares.seen d (λ b. b == a || c.shares.seen d b) ∙ (ap (λ (f : ℕ → Bool). λ (b : ℕ). b == a || f b) (t.seen not_arrived) ∙ ap seen_by places_seen))
      knows
      refl

  -- and at which it learns nothing else
  pub only_saw : (collecting : IsCollecting x.seen.stage) (a : ℕ) → Facts c.kind k now live r.account.tenancy (record c { shares = record c.shares { seen = sees_at a } }) s.words
      → Rule k record { words = s.words; homes = s.homes; views = set s.views id (one k hist (with_share x (place_seen a sh))) }
  only_saw collecting a facts = let n = known k s r id hist x at in saw_place collecting a (held (place_seen a sh)) refl refl facts record {
    found_head = n.found_head;
    scan = n.scan;
    walked = walked_seen a;
    own_pool = n.own_pool;
    rooted = n.rooted;
    marked = n.marked;
    looking = looks_same k s r id hist x at collecting (held (place_seen a sh)) refl refl;
  }

  -- the node of a listed ephemeron, and its last word
  module _ (a : ℕ) (ephe : IsEpheAt live a) where
    pub node_listed : (keys : List (Option Label)) × (datum : Value) × (node_at now.graph ephe.place.label ≡ Some (Ephe keys datum)) × (length keys ≡ ephe.keys)
    node_listed = let f = r.whole.found a ephe.place ephe.lives in let n = ephe_node f.node ephe.keys (f.shape ∙ ephe.shape) in (n.0, n.1, f.there ∙ ap Some n.2, n.3)

    pub inside_listed : a + ephe.keys + 2 ≤ heap_words k
    inside_listed =
        let e : extent ephe.place.shape ≡ ephe.keys + 3 = ap extent ephe.shape in
        let n : ℕ = extent ephe.place.shape in
        let high : a + n ≤ heap_words k + 1 = (r.whole.placed.fits a ephe.place ephe.lives).high in
        omega arith

  -- the word of a value of a block that misses no keys
  pub value_word_at : (a : ℕ) (p : Place) → live a ≡ Some p → IsBare p → c.paint.emptied p.label ≡ [] → (n : Node) → node_at now.graph p.label ≡ Some n → (i : ℕ) (v : Value) → slice_get (values_of n) i ≡ Some v → WordStands live (at_address k s.words (a + 2 + i)) v
  value_word_at a p lives bare whole n there i v got =
      let f = r.whole.found a p lives in
      let is : f.node ≡ n = same_Some f.node n (sym f.there ∙ there) in
      found_value k c.paint live now.graph s.words a p f whole i v (subst (λ (o : Option Debt). HasValue o i) (sym bare.no_debt) tt) (ap (λ (z : Node). slice_get (values_of z) i) is ∙ got)

-- the value of a key
pub key_at : (keys : List (Option Label)) (datum : Value) (i : ℕ) (o : Option Label) → slice_get keys i ≡ Some o → slice_get (values_of (Ephe keys datum)) (suc i) ≡ Some (key_value o)
key_at keys datum i o got = slice_get-map key_value keys i ∙ ap (option_map key_value) got

-- a value that stands for a key: an empty one is nothing, and a full one refers to the key's block
pub record StandsForKey (live : Live) (w : words.Value) (o : Option Label) : Type 0 where
  pub no_integer : (z : ℤ) → w ≡ IntWord z → ⊥
  pub empty : w ≡ NothingWord → o ≡ None
  pub full : (a : ℕ) → w ≡ Ref a → (p : Place) × (live a ≡ Some p) × (o ≡ Some p.label)

pub stands_for_key : (live : Live) (w : words.Value) (o : Option Label) → Stands live w (key_value o) → StandsForKey live w o
stands_for_key live (IntWord z) None st = absurd st
stands_for_key live (IntWord z) (Some l) st = absurd st
stands_for_key live (Ref a) None st = absurd st
stands_for_key live (Ref a) (Some l) st = record {
  no_integer = λ z e. cc;
  empty = λ e. cc;
  full = λ b e. let same : a ≡ b = cc in (st.0, ap live (sym same) ∙ st.1, ap Some (sym st.2));
}
stands_for_key live NothingWord None st = record { no_integer = λ z e. cc; empty = λ e. refl; full = λ b e. cc }
stands_for_key live NothingWord (Some l) st = absurd st
