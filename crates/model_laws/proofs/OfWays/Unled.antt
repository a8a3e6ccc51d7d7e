-- Where no way leads isn't reachable.
use Rattle.std.proofs.Common.{◌≡◌, ◌∙◌, ℕ, zero, suc, ◌<◌, Bool, IsTrue, List, [], ◌∷◌, ◌++◌, fold, get_or, length, slice_get, take, option_and_then, filter_map, flat_map, refl, ap, ⊎_elim, Option, Some, None, arith}
use Rattle.std.specs.Option.{option_map_or}
use Rattle.model_core.specs.declared.graph.Node.{Node}
use Rattle.model_core.specs.declared.graph.Node.TheVariants.{Plain, Raw, Ephe}
use Rattle.model_core.specs.declared.graph.Value.{Value}
use Rattle.model_core.specs.declared.graph.Value.TheVariants.{Int, Block, Nothing}
use Rattle.model_core.specs.declared.label.Label.{Label}
use Rattle.model_core.specs.Domains.{domain_at}
use Rattle.model_core.specs.Graph.{Graph, has_label, label_of, node_at, same_label}
use Rattle.model_core.specs.Reach.{HoldsRoots, edges_at, edges_of, grow, grow_rounds, reachable, with_label}
use Rattle.model_core.proofs.Graphs.GraphLemmas.{same_label-true}
use Rattle.model_core.proofs.Reach.ReachLemmas.{fold_within, has-append_cases, has-append_left, has-append_right, has-flat_map_cases, never_true, or_cases}
use Rattle.model_laws.specs.Reach.Exploring.{graph_of, roots_of}
use Rattle.model_laws.specs.Reach.Ways.{Edges, IsLedTo, IsNoEphemeron, fields_of, follow, refers}
use Rattle.model_laws.specs.Reach.Walks.{state_of}
use Rattle.model_laws.specs.Ways.Reached.{UnledIsUnreached, searched}

-- a label of values is that of one of them
from_values : (vs : List Value) (m : Label) → IsTrue (has_label (filter_map label_of vs) m) → (i : ℕ) × (option_and_then label_of (slice_get vs i) ≡ Some m)
from_values [] m has = cc
from_values (Block l ∷ vs) m has = ⊎_elim
    (λ (here : IsTrue (same_label l m)). (zero, ap Some (same_label-true l m here)))
    (λ (later : IsTrue (has_label (filter_map label_of vs) m)). let t = from_values vs m later in (suc t.0, t.1))
    (or_cases (same_label l m) (has_label (filter_map label_of vs) m) has)
from_values (Int n ∷ vs) m has = let t = from_values vs m has in (suc t.0, t.1)
from_values (Nothing ∷ vs) m has = let t = from_values vs m has in (suc t.0, t.1)

-- one of the first values is at its place
taken : (n : ℕ) (vs : List Value) (i : ℕ) (m : Label) → option_and_then label_of (slice_get (take n vs) i) ≡ Some m → (i < n) × (label_of (get_or vs i Nothing) ≡ Some m)
taken zero vs i m at = cc
taken (suc n) [] i m at = cc
taken (suc n) (v ∷ vs) zero m at = (omega arith, at)
taken (suc n) (v ∷ vs) (suc i) m at = let t = taken n vs i m at in (omega arith, t.1)

-- one field more at the end of a way
follow_more : (f : Edges) (o : Option Label) (is : List ℕ) (k m : Label) (i : ℕ) → follow f o is ≡ Some k → f k i ≡ Some m → follow f o (is ++ i ∷ []) ≡ Some m
follow_more f o [] k m i way refer = ap (option_and_then (λ (x : Label). f x i)) way ∙ refer
follow_more f o (j ∷ is) k m i way refer = follow_more f (option_and_then (λ (x : Label). f x j) o) is k m i way refer

module _ (g : Graph) (roots : ℕ → Option Label) (plain : (m : Label) → IsLedTo (refers g) roots m → IsNoEphemeron g m) where
  abbrev Led : Label → Type 0
  Led l = IsLedTo (refers g) roots l

  led_more : (k m : Label) (i : ℕ) → Led k → refers g k i ≡ Some m → Led m
  led_more k m i led refer = record { register = led.register; fields = led.fields ++ i ∷ []; few = led.few; leads_there = follow_more (refers g) (roots led.register) led.fields k m i led.leads_there refer }

  -- what a block keeps alive to which a way leads
  edges_led : (alive : Label → Bool) (k m : Label) (o : Option Node) → node_at g k ≡ o → Led k → IsTrue (has_label (option_map_or (edges_of alive) o []) m) → Led m
  edges_led alive k m None at led has = cc
  edges_led alive k m (Some (Raw tag fields)) at led has = cc
  edges_led alive k m (Some (Ephe keys datum)) at led has = absurd (plain k led keys datum at)
  edges_led alive k m (Some (Plain tag fields)) at led has =
      let t = from_values fields m has in
      led_more k m t.0 led (ap (λ (o : Option Node). option_and_then label_of (option_and_then (λ (n : Node). slice_get (fields_of n) t.0) o)) at ∙ t.1)

  grow_led : (live : List Label) → ((x : Label) → IsTrue (has_label live x) → Led x) → (x : Label) → IsTrue (has_label (grow g live) x) → Led x
  grow_led live all x has =
      let edges : List Label = flat_map (edges_at g (has_label live)) live in
      let within : HoldsRoots (fold with_label live edges) (has_label (live ++ edges)) = fold_within edges live (has_label (live ++ edges)) (has-append_left live edges) (has-append_right live edges) in
      ⊎_elim
      (λ (old : IsTrue (has_label live x)). all x old)
      (λ (new : IsTrue (has_label edges x)). let t = has-flat_map_cases (edges_at g (has_label live)) live x new in edges_led (has_label live) t.0 x (node_at g t.0) refl (all t.0 t.1) t.2)
      (has-append_cases live edges x (within x has))

  rounds_led : (n : ℕ) (live : List Label) → ((x : Label) → IsTrue (has_label live x) → Led x) → (x : Label) → IsTrue (has_label (grow_rounds n g live) x) → Led x
  rounds_led zero live all x has = all x has
  rounds_led (suc n) live all x has = rounds_led n (grow g live) (grow_led live all) x has

  reached_led : (rs : List Label) → ((x : Label) → IsTrue (has_label rs x) → Led x) → (x : Label) → IsTrue (has_label (reachable g rs) x) → Led x
  unfolding reachable
  reached_led rs all x has = rounds_led (length g) (fold with_label [] rs) (λ y there. all y (fold_within rs [] (has_label rs) (λ w none. cc) (λ w here. here) y there)) x has

pub unled_is_unreached : UnledIsUnreached
unled_is_unreached z h d l unled plain = never_true (has_label (reachable (graph_of z h) (searched z d h)) l) (λ has. unled (reached_led (graph_of z h) (roots_of z d h) plain (searched z d h) roots_led l has))
  where
    roots_led : (x : Label) → IsTrue (has_label (searched z d h) x) → IsLedTo (refers (graph_of z h)) (roots_of z d h) x
    roots_led x has =
        let i = from_values (take 14 (domain_at (state_of z h) d).registers) x has in
        let t = taken 14 (domain_at (state_of z h) d).registers i.0 x i.1 in
        record { register = i.0; fields = []; few = t.0; leads_there = t.1 }
