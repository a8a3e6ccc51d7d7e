-- One block further in a search.
use Rattle.std.proofs.Common.{◌≡◌, ◌≢◌, ◌∙◌, ℕ, ◌+◌, ◌<◌, ◌≤◌, Bool, true, false, ◌||◌, cond, List, [], ◌∷◌, length, get_or, slice_get, option_and_then, refl, ap, sym, subst, Option, Some, None, arith}
use Rattle.std.proofs.lemmas.Option.{same_Some, slice_get-get_or, slice_get_within}
use mathlib.Core.Logic.{dite}
use native.Mathlib.Decide.{ℕ_discrete}
use Rattle.model_core.specs.declared.entry.Entry.{Entry}
use Rattle.model_core.specs.declared.graph.Value.{Value}
use Rattle.model_core.specs.declared.graph.Value.TheVariants.{Block as BlockValue}
use Rattle.model_core.specs.declared.label.Label.{Label}
use Rattle.model_core.specs.declared.state.Sizes.{Sizes}
use Rattle.model_core.specs.Domains.{register}
use Rattle.model_core.specs.Graph.{Graph, label_of, same_label}
use Rattle.model_core.specs.History.{IsPrefix}
use Rattle.model_core.proofs.Graphs.GraphLemmas.{same_label-false, same_label_refl}
use Rattle.model_laws.specs.declared.reach.seen.Seen.{Seen}
use Rattle.model_laws.specs.declared.reach.seen.Origin.{Origin}
use Rattle.model_laws.specs.declared.reach.seen.Origin.TheVariants.{Register, Field}
use Rattle.model_laws.specs.declared.reach.seen.Way.{Way}
use Rattle.model_laws.specs.Reach.Exploring.{AllTraced, Explored, Extends, Has, IsBefore, IsOrdered, IsTraced, Looked, Visited, Went, graph_of, roots_of}
use Rattle.model_laws.specs.Reach.Ways.{Edges, IsNoEphemeron, follow, leads, refers, refers_but}
use Rattle.model_laws.specs.Reach.Walks.{Still, Walked, state_of}
use Rattle.model_laws.proofs.OfReach.Adding.{still_has, still_there}
use Rattle.model_laws.proofs.OfReach.Going.{follow_step, still_trans}
use Rattle.model_laws.proofs.OfReach.WalkSteps.{walked_earlier, walked_later}

-- what leads past a block leads
but_leads : (g : Graph) (stop : Option Label) (l : Label) (i : ℕ) (m : Label) → refers_but g stop l i ≡ Some m → refers g l i ≡ Some m
but_leads g None l i m way = way
but_leads g (Some k) l i m way = through (same_label k l) way
  where
    through : (b : Bool) → cond b None (refers g l i) ≡ Some m → refers g l i ≡ Some m
    through true way = cc
    through false way = way

-- into another block than the one into which the search doesn't look
pub but_same : (g : Graph) (stop : Option Label) (l : Label) → stop ≢ Some l → (i : ℕ) → refers_but g stop l i ≡ refers g l i
but_same g None l other i = refl
but_same g (Some k) l other i = ap (λ (b : Bool). cond b None (refers g l i)) (same_label-false k l (λ same. other (ap Some same)))

but_none : (g : Graph) (l : Label) (i : ℕ) → refers_but g (Some l) l i ≡ None
but_none g l i = ap (λ (b : Bool). cond b None (refers g l i)) (same_label_refl l)

pub follow_but : (g : Graph) (stop : Option Label) (o : Option Label) (is : List ℕ) (l : Label) → follow (refers_but g stop) o is ≡ Some l → follow (refers g) o is ≡ Some l
follow_but g stop o [] l way = way
follow_but g stop o (i ∷ is) l way =
    let s = follow_step (refers_but g stop) o i is l way in
    ap (λ (x : Option Label). follow (refers g) (option_and_then (λ m. refers g m i) x) is) s.2 ∙ (ap (λ (x : Option Label). follow (refers g) x is) (but_leads g stop s.0 i s.1 s.3) ∙ follow_but g stop (Some s.1) is l s.4)

-- the block that isn't looked into counts as one without fields
pub looked_past : (g : Graph) (roots : ℕ → Option Label) (stop : Option Label) (seen : List Seen) (at : ℕ) (w : Bool) (b : Seen) → slice_get seen at ≡ Some b → stop ≡ Some b.label → Explored g roots stop seen at w → Explored g roots stop seen (at + 1) w
looked_past g roots stop seen at w b found is x = record {
  traced = x.traced;
  rooted = x.rooted;
  closed = λ j c few there i m refer. dite (ℕ_discrete j at)
      (λ here.
      let same : b ≡ c = same_Some b c (sym found ∙ (ap (slice_get seen) (sym here) ∙ there)) in
      let clash : None ≡ Some m = sym (but_none g b.label i) ∙ (ap (λ (o : Option Label). refers_but g o b.label i) (sym is) ∙ (ap (λ (y : Seen). refers_but g stop y.label i) same ∙ refer)) in cc)
      (λ differs. x.closed j c (omega arith) there i m refer);
  plain = λ strong j c few there other. dite (ℕ_discrete j at)
      (λ here. let same : b ≡ c = same_Some b c (sym found ∙ (ap (slice_get seen) (sym here) ∙ there)) in absurd (other (is ∙ ap (λ (y : Seen). Some y.label) same)))
      (λ differs. x.plain strong j c (omega arith) there other);
}

or_false_left : (a b : Bool) → (a || b) ≡ false → a ≡ false
or_false_left true b is = is
or_false_left false b is = refl

or_false_right : (a b : Bool) → (a || b) ≡ false → b ≡ false
or_false_right true b is = let clash : true ≡ false = is in cc
or_false_right false b is = is

-- what stands before a place in a list that goes on stood there
stood_before : (seen new : List Seen) (at j : ℕ) (b c : Seen) → Extends seen new → slice_get seen at ≡ Some b → j < at → slice_get new j ≡ Some c → slice_get seen j ≡ Some c
stood_before seen new at j b c more found few there =
    let n : ℕ = length seen in
    let inside : at < n = slice_get_within seen at b found in
    let d : Seen = get_or seen j c in
    let was : slice_get seen j ≡ Some d = slice_get-get_or seen j c (omega arith) in
    was ∙ (sym (still_there seen new more j d was) ∙ there)

pub looked_into : (g : Graph) (roots : ℕ → Option Label) (stop : Option Label) (seen new : List Seen) (at : ℕ) (w weak : Bool) (b : Seen) → slice_get seen at ≡ Some b → stop ≢ Some b.label → Extends seen new → Visited g at b.label seen new weak
    → Explored g roots stop seen at w → Explored g roots stop new (at + 1) (w || weak)
looked_into g roots stop seen new at w weak b found other more v x =
    let same_b : (c : Seen) → slice_get new at ≡ Some c → b ≡ c = λ c there. same_Some b c (sym (still_here at b found) ∙ there) in record {
      traced = v.traced (refers_but g stop) roots (but_same g stop b.label other) x.traced;
      rooted = λ r m few root. still_has seen new more m (x.rooted r m few root);
      closed = λ j c few there i m refer. dite (ℕ_discrete j at)
          (λ here.
          let same : b ≡ c = same_b c (ap (slice_get new) (sym here) ∙ there) in
          v.closed i m (sym (but_same g stop b.label other i) ∙ (ap (λ (y : Seen). refers_but g stop y.label i) same ∙ refer)))
          (λ differs. still_has seen new more m (x.closed j c (omega arith) (stood_before seen new at j b c more found (omega arith) there) i m refer));
      plain = λ strong j c few there besides. dite (ℕ_discrete j at)
          (λ here.
          let same : b ≡ c = same_b c (ap (slice_get new) (sym here) ∙ there) in
          subst (λ (y : Seen). IsNoEphemeron g y.label) same (v.plain (or_false_right w weak strong)))
          (λ differs. x.plain (or_false_left w weak strong) j c (omega arith) (stood_before seen new at j b c more found (omega arith) there) besides);
    }
  where
    still_here : (j : ℕ) (y : Seen) → slice_get seen j ≡ Some y → slice_get new j ≡ Some y
    still_here j y there = still_there seen new more j y there

-- what was traced to registers was traced to others that hold the same
traced_at : (f : Edges) (roots others : ℕ → Option Label) (seen : List Seen) (j : ℕ) (l : Label) (o : Origin) → ((r : ℕ) → r < 14 → others r ≡ roots r) → IsBefore j o → IsTraced f roots seen l o → IsTraced f others seen l o
traced_at f roots others seen j l (Register r) same before t = same r before ∙ t
traced_at f roots others seen j l (Field block index) same before t = t

-- the same of registers that hold what these hold
pub explored_at : (g : Graph) (roots others : ℕ → Option Label) (stop : Option Label) (seen : List Seen) (at : ℕ) (w : Bool) → ((r : ℕ) → r < 14 → others r ≡ roots r) → IsOrdered seen → Explored g roots stop seen at w → Explored g others stop seen at w
explored_at g roots others stop seen at w same ordered x = record {
  traced = λ j b there. traced_at (refers_but g stop) roots others seen j b.label b.origin same (ordered j b there) (x.traced j b there);
  rooted = λ r m few root. x.rooted r m few (sym (same r few) ∙ root);
  closed = x.closed;
  plain = x.plain;
}

-- the search went to the block, and read it
pub looked_by : (z z' : Sizes) (d d' : ℕ) (first mid last : List Entry) (stop : Option Label) (way : Way) (at : ℕ) (seen new : List Seen) (weak : Bool) (b : Seen) → z' ≡ z → d' ≡ d → IsPrefix first mid → IsPrefix mid last
    → slice_get seen at ≡ Some b → stop ≢ Some b.label → Extends seen new
    → ((f : Edges) (roots : ℕ → Option Label) (c : Seen) → AllTraced f roots seen → slice_get seen at ≡ Some c → leads f roots way ≡ Some c.label)
    → (Walked d first mid → Went z d first mid way)
    → (Walked d' mid last → Still z' d' mid last × ((c : Seen) → slice_get seen at ≡ Some c → register (state_of z' mid) d' 14 ≡ BlockValue c.label → Visited (graph_of z' mid) at c.label seen new weak))
    → Walked d first last → Looked z d first last stop at seen new weak
looked_by z z' d d' first mid last stop way at seen new weak b same_z same_d grows more found other goes_on traced goes reads walked =
    let went : Went z d first mid way = goes (walked_earlier d first mid last grows more walked) in
    let read = subst (λ (k : ℕ). Walked k mid last → Still z k mid last × ((c : Seen) → slice_get seen at ≡ Some c → register (state_of z mid) k 14 ≡ BlockValue c.label → Visited (graph_of z mid) at c.label seen new weak)) same_d
    (subst (λ (y : Sizes). Walked d' mid last → Still y d' mid last × ((c : Seen) → slice_get seen at ≡ Some c → register (state_of y mid) d' 14 ≡ BlockValue c.label → Visited (graph_of y mid) at c.label seen new weak)) same_z reads)
    (walked_later d first mid last grows more walked) in
    record {
      still = still_trans z d first mid last went.still read.0;
      explored = λ w x.
          let leads_but : leads (refers_but (graph_of z first) stop) (roots_of z d first) way ≡ Some b.label = traced (refers_but (graph_of z first) stop) (roots_of z d first) b x.traced found in
          let there : register (state_of z mid) d 14 ≡ BlockValue b.label = went.there b.label (follow_but (graph_of z first) stop (roots_of z d first way.register) way.fields.items b.label leads_but) in
          looked_into (graph_of z first) (roots_of z d first) stop seen new at w weak b found other goes_on (subst (λ (g : Graph). Visited g at b.label seen new weak) went.still.graph (read.1 b found there)) x;
    }

or_nothing : (w : Bool) → (w || false) ≡ w
or_nothing true = refl
or_nothing false = refl

-- or it didn't look into it
pub looked_not : (z : Sizes) (d : ℕ) (first : List Entry) (stop : Option Label) (at : ℕ) (seen : List Seen) (b : Seen) → slice_get seen at ≡ Some b → stop ≡ Some b.label → Looked z d first first stop at seen seen false
looked_not z d first stop at seen b found is = record {
  still = record { graph = refl; registers = λ r few. refl };
  explored = λ w x. subst (λ (v : Bool). Explored (graph_of z first) (roots_of z d first) stop seen (at + 1) v) (sym (or_nothing w)) (looked_past (graph_of z first) (roots_of z d first) stop seen at w b found is x);
}

-- one block after the other
pub explored_on : (z z' : Sizes) (d d' : ℕ) (first now next : List Entry) (stop : Option Label) (at : ℕ) (seen new : List Seen) (w weak : Bool) → z' ≡ z → d' ≡ d → IsPrefix first now → IsPrefix now next → IsOrdered seen → IsOrdered new
    → (Walked d first now → Still z d first now × Explored (graph_of z first) (roots_of z d first) stop seen at w)
    → (Walked d' now next → Looked z' d' now next stop at seen new weak)
    → Walked d first next → Still z d first next × Explored (graph_of z first) (roots_of z d first) stop new (at + 1) (w || weak)
explored_on z z' d d' first now next stop at seen new w weak same_z same_d grows more ordered ordered_new was looks walked =
    let before = was (walked_earlier d first now next grows more walked) in
    let looked = subst (λ (k : ℕ). Walked k now next → Looked z k now next stop at seen new weak) same_d (subst (λ (y : Sizes). Walked d' now next → Looked y d' now next stop at seen new weak) same_z looks) (walked_later d first now next grows more walked) in
    let same : (r : ℕ) → r < 14 → roots_of z d now r ≡ roots_of z d first r = λ r few. ap label_of (before.0.registers r few) in
    let here : Explored (graph_of z now) (roots_of z d now) stop seen at w = explored_at (graph_of z now) (roots_of z d first) (roots_of z d now) stop seen at w same ordered (subst (λ (g : Graph). Explored g (roots_of z d first) stop seen at w) (sym before.0.graph) before.1) in
    let there : Explored (graph_of z now) (roots_of z d now) stop new (at + 1) (w || weak) = looked.explored w here in (
      still_trans z d first now next before.0 looked.still,
      subst (λ (g : Graph). Explored g (roots_of z d first) stop new (at + 1) (w || weak)) before.0.graph (explored_at (graph_of z now) (roots_of z d now) (roots_of z d first) stop new (at + 1) (w || weak) (λ r few. sym (same r few)) ordered_new there),
    )
