-- What steps keep of the ephemerons of a domain.
use Rattle.std.proofs.Common.{◌≡◌, ℕ, ◌⊎◌, IsTrue, List, [], length, Option, Some, None, sym, refl, ap, ◌∙◌, subst, inr, ⊎_elim, ◌∷◌, ◌+◌, map, slice_get, length-set, Bool, suc}
use Rattle.std.proofs.lemmas.List.{length-map}
use Rattle.model_core.specs.declared.label.Label.{Label}
use Rattle.model_core.specs.declared.graph.Node.{Node}
use Rattle.model_core.specs.declared.graph.Node.TheVariants.{Plain, Raw, Ephe}
use Rattle.model_core.specs.declared.graph.Value.{Value}
use Rattle.model_core.specs.Graph.{Graph}
use Rattle.model_core.specs.Commands.{key_value}
use Rattle.model_core.specs.Entries.{wiped_keys}
use Rattle.model_cycle.specs.Marks.{Marks}
use Rattle.heap_rule.specs.declared.config.Config.{Config}
use Rattle.heap_rule.specs.declared.phase.Stage.{Stage}
use Rattle.heap_rule.specs.declared.view.Cleaning.{Cleaning}
use Rattle.heap_rule.specs.declared.view.Share.{Share}
use Rattle.heap_rule.specs.Cycles.{Cycling, MissesKeys, AllWhole, IsIdle, HasNoCycle}
use Rattle.heap_rule.specs.Ephemerons.{IsEpheAt, Listed, Looks, ephemeron_of, emptied_at}
use Rattle.heap_rule.specs.Layout.{at_address}
use Rattle.heap_rule.specs.Places.{Place, Live, Paint, HasValue, values_of, without_keys, Found, WordStands, More}
use Rattle.heap_rule.specs.Pools.{Holder, OwnPlace, owned, place_in}

-- who is at no block is at no ephemeron
pub looks_idle : (live : Live) (holder : ℕ → Holder) (graph : Graph) (marks : Marks) (emptied : Label → List ℕ) (d : ℕ) (items : List ℕ) (stage : Stage) (share : Share) → IsIdle share → ((l : Label) → emptied l ≡ []) → Looks live holder graph marks emptied d items stage share
looks_idle live holder graph marks emptied d items stage share idle none = record {
  at_own = λ a e. absurd (let h : ephemeron_of share.scan ≡ None = ap (λ (y : Share). ephemeron_of y.scan) idle in let clash : ◌≡◌ {A = Option ℕ} None (Some a) = sym h ∙ e in cc);
  cleans = λ w e. absurd (let h : share.cleaning ≡ None = ap (λ (y : Share). y.cleaning) idle in let clash : ◌≡◌ {A = Option Cleaning} None (Some w) = sym h ∙ e in cc);
  emptied_is = λ a p own lives. none p.label ∙ sym (ap (λ (y : Share). emptied_at y.cleaning a) idle);
}

-- outside a collection no block misses keys
pub none_misses : (live : Live) (holder : ℕ → Holder) (c : Cycling) → HasNoCycle c.kind → AllWhole live holder c → (l : Label) → c.paint.emptied l ≡ []
none_misses live holder c none whole l = ⊎_elim (λ (h : c.paint.emptied l ≡ []). h) (λ (h : MissesKeys live holder c l). absurd (subst HasNoCycle h.clean none)) (whole l)

pub own_place_on : (holder holder' : ℕ → Holder) (a d : ℕ) → ((q c : ℕ) → holder q ≡ owned d c → holder' q ≡ owned d c) → OwnPlace holder a d → OwnPlace holder' a d
own_place_on holder holder' a d to o = record { pool = o.pool; class = o.class; slot = o.slot; owned_is = to o.pool o.class o.owned_is; inside = o.inside; begins = o.begins }

-- a list that fits where no ephemeron comes to live, and those that die are garbage
pub listed_on : (live live' : Live) (holder holder' : ℕ → Holder) (garbage garbage' : ℕ → Bool) (d : ℕ) (items : List ℕ) → ((q c : ℕ) → holder' q ≡ owned d c → holder q ≡ owned d c) → ((q c : ℕ) → holder q ≡ owned d c → holder' q ≡ owned d c)
    → ((a : ℕ) → IsEpheAt live' a → IsEpheAt live a) → ((a : ℕ) → IsEpheAt live a → IsEpheAt live' a ⊎ IsTrue (garbage' a)) → ((a : ℕ) → IsTrue (garbage a) → IsTrue (garbage' a)) → Listed live holder garbage d items → Listed live' holder' garbage' d items
listed_on live live' holder holder' garbage garbage' d items from to was stays dead l = record {
  all = λ q c slot is inside e. l.all q c slot (from q c is) inside (was (place_in q c slot) e);
  own = λ a is. own_place_on holder holder' a d to (l.own a is);
  lives = λ a is. ⊎_elim (λ (h : IsEpheAt live a). stays a h) (λ (h : IsTrue (garbage a)). inr (dead a h)) (l.lives a is);
}

pub listed_as : (live : Live) (holder : ℕ → Holder) (garbage : ℕ → Bool) (d d' : ℕ) (items items' : List ℕ) → d' ≡ d → items' ≡ items → Listed live holder garbage d items → Listed live holder garbage d' items'
listed_as live holder garbage d d' items items' number same l = subst (λ (z : ℕ × List ℕ). Listed live holder garbage z.0 z.1) (λ i. (sym number i, sym same i)) l

-- an ephemeron that is there again
pub ephe_more : (live live' : Live) → More live live' → (a : ℕ) → IsEpheAt live a → IsEpheAt live' a
ephe_more live live' more a e = let m = more a e.place e.lives in record { place = m.place; lives = m.lives; keys = e.keys; shape = m.shape ∙ e.shape }

wiped_length : (places : List ℕ) (keys : List (Option Label)) → length (wiped_keys places keys) ≡ length keys
wiped_length [] keys = refl
wiped_length (p ∷ ps) keys = length-set (wiped_keys ps keys) p None ∙ wiped_length ps keys

-- a node without keys has as many values
pub values_without : (keys : List ℕ) (n : Node) → length (values_of (without_keys keys n)) ≡ length (values_of n)
values_without [] n = refl
values_without (i ∷ is) (Plain tag fields) = refl
values_without (i ∷ is) (Raw tag fields) = refl
values_without (i ∷ is) (Ephe keys datum) = let a : length (map key_value (wiped_keys (i ∷ is) keys)) ≡ length (map key_value keys) = length-map (wiped_keys (i ∷ is) keys) key_value ∙ (wiped_length (i ∷ is) keys ∙ sym (length-map keys key_value)) in ap suc a

-- the values of a block that misses no keys
pub found_value : (k : Config) (paint : Paint) (live : Live) (graph : Graph) (words : List ℕ) (a : ℕ) (p : Place) (f : Found k paint live graph words a p) → paint.emptied p.label ≡ [] → (i : ℕ) (v : Value) → HasValue p.owed i → slice_get (values_of f.node) i ≡ Some v → WordStands live (at_address k words (a + 2 + i)) v
found_value k paint live graph words a p f none i v has got = f.values i v has (ap (λ (keys : List ℕ). slice_get (values_of (without_keys keys f.node)) i) none ∙ got)
