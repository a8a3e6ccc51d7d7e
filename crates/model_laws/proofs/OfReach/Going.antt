-- Along a way, field by field.
use Rattle.std.proofs.Common.{◌≡◌, ◌∙◌, ℕ, ◌+◌, ◌<◌, List, [], ◌∷◌, length, drop, get_or, option_and_then, refl, ap, sym, subst, Option, Some, None}
use Rattle.std.proofs.lemmas.List.{drop_more}
use Rattle.model_core.specs.declared.entry.Entry.{Entry}
use Rattle.model_core.specs.declared.graph.Value.{Value}
use Rattle.model_core.specs.declared.graph.Value.TheVariants.{Int as IntValue, Block as BlockValue, Nothing}
use Rattle.model_core.specs.declared.label.Label.{Label}
use Rattle.model_core.specs.declared.reply.Reply.{Reply}
use Rattle.model_core.specs.declared.state.Sizes.{Sizes}
use Rattle.model_core.specs.Domains.{label_in, register}
use Rattle.model_core.specs.Graph.{Graph, label_of}
use Rattle.model_core.specs.History.{IsPrefix}
use Rattle.model_laws.specs.declared.reach.seen.Way.{Way}
use Rattle.model_laws.specs.Reach.Exploring.{Went, graph_of, roots_of}
use Rattle.model_laws.specs.Reach.Ways.{Edges, follow, leads, refers}
use Rattle.model_laws.specs.Reach.Walks.{Copied, Loaded, Still, Walked, state_of}
use Rattle.model_laws.proofs.OfReach.WalkSteps.{walked_earlier, walked_later}

-- the fields before a place were followed, and register 14 holds what leads on
pub record Going (z : Sizes) (d : ℕ) (first now : List Entry) (way : Way) (i : ℕ) : Type 0 where
  pub still : Still z d first now
  pub there : (l : Label) → leads (refers (graph_of z first)) (roots_of z d first) way ≡ Some l → follow (refers (graph_of z first)) (label_in (state_of z now) d 14) (drop i way.fields.items) ≡ Some l

pub still_same : (z : Sizes) (d : ℕ) (h : List Entry) → Still z d h h
still_same z d h = record { graph = refl; registers = λ r few. refl }

pub still_trans : (z : Sizes) (d : ℕ) (a b c : List Entry) → Still z d a b → Still z d b c → Still z d a c
still_trans z d a b c p q = record { graph = q.graph ∙ p.graph; registers = λ r few. q.registers r few ∙ p.registers r few }

-- nothing leads to nothing
pub follow_none : (f : Edges) (is : List ℕ) → follow f None is ≡ None
follow_none f [] = refl
follow_none f (i ∷ is) = follow_none f is

pub label_held : (v : Value) (l : Label) → label_of v ≡ Some l → v ≡ BlockValue l
label_held (IntValue n) l is = cc
label_held (BlockValue k) l is = ap BlockValue (let same : k ≡ l = cc in same)
label_held Nothing l is = cc

-- one field further
pub follow_step : (f : Edges) (o : Option Label) (i : ℕ) (is : List ℕ) (l : Label) → follow f o (i ∷ is) ≡ Some l → (a : Label) × (b : Label) × (o ≡ Some a) × (f a i ≡ Some b) × (follow f (Some b) is ≡ Some l)
follow_step f None i is l leads = let clash : None ≡ Some l = sym (follow_none f is) ∙ leads in cc
follow_step f (Some a) i is l leads = next (f a i) refl
  where
    next : (o : Option Label) → f a i ≡ o → (a' : Label) × (b : Label) × (Some a ≡ Some a') × (f a' i ≡ Some b) × (follow f (Some b) is ≡ Some l)
    next None at = let clash : None ≡ Some l = sym (follow_none f is) ∙ (ap (λ (o : Option Label). follow f o is) (sym at) ∙ leads) in cc
    next (Some b) at = (a, b, refl, at, ap (λ (o : Option Label). follow f o is) (sym at) ∙ leads)

pub going_begins : (z : Sizes) (d : ℕ) (first now : List Entry) (way : Way) → Copied z d first now way.register → Going z d first now way 0
going_begins z d first now way copied = record {
  still = copied.still;
  there = λ l leads. ap (λ (v : Value). follow (refers (graph_of z first)) (label_of v) way.fields.items) copied.brings ∙ leads;
}

pub going_on : (z : Sizes) (d : ℕ) (first now next : List Entry) (way : Way) (i : ℕ) (e : ℕ) (r : Reply) → i < length way.fields.items → Going z d first now way i → Loaded z d now next 14 (get_or way.fields.items i e) r → Going z d first next way (i + 1)
going_on z d first now next way i e r inside going loaded =
    let fields : List ℕ = way.fields.items in
    let f : Edges = refers (graph_of z first) in record {
      still = still_trans z d first now next going.still loaded.still;
      there = λ l leads.
          let more = follow_step f (label_in (state_of z now) d 14) (get_or fields i e) (drop (i + 1) fields) l (ap (follow f (label_in (state_of z now) d 14)) (sym (drop_more fields i e inside)) ∙ going.there l leads) in
          let held : register (state_of z now) d 14 ≡ BlockValue more.0 = label_held _ more.0 more.2 in
          let refer : refers (graph_of z now) more.0 (get_or fields i e) ≡ Some more.1 = ap (λ (g : Graph). refers g more.0 (get_or fields i e)) going.still.graph ∙ more.3 in
          ap (λ (v : Value). follow f (label_of v) (drop (i + 1) fields)) (loaded.brings more.0 more.1 held refer) ∙ more.4;
    }

pub going_ends : (z : Sizes) (d : ℕ) (first now : List Entry) (way : Way) (i : ℕ) → drop i way.fields.items ≡ [] → Going z d first now way i → Went z d first now way
going_ends z d first now way i over going = record {
  still = going.still;
  there = λ l leads. label_held _ l (ap (follow (refers (graph_of z first)) (label_in (state_of z now) d 14)) (sym over) ∙ going.there l leads);
}

pub loaded_at : (z z' : Sizes) (d d' : ℕ) (now next : List Entry) (dst i : ℕ) (r : Reply) → z' ≡ z → d' ≡ d → (Walked d' now next → Loaded z' d' now next dst i r) → Walked d now next → Loaded z d now next dst i r
loaded_at z z' d d' now next dst i r same_z same_d loaded =
    subst (λ (k : ℕ). Walked k now next → Loaded z k now next dst i r) same_d (subst (λ (y : Sizes). Walked d' now next → Loaded y d' now next dst i r) same_z loaded)

pub going_preserved : (z z' : Sizes) (d d' : ℕ) (first now next : List Entry) (way : Way) (i e : ℕ) (r : Reply) → z' ≡ z → d' ≡ d → IsPrefix first now → IsPrefix now next → i < length way.fields.items
    → (Walked d first now → Going z d first now way i) → (Walked d' now next → Loaded z' d' now next 14 (get_or way.fields.items i e) r) → Walked d first next → Going z d first next way (i + 1)
going_preserved z z' d d' first now next way i e r same_z same_d grows more inside going loaded walked =
    going_on z d first now next way i e r inside (going (walked_earlier d first now next grows more walked)) (loaded_at z z' d d' now next 14 (get_or way.fields.items i e) r same_z same_d loaded (walked_later d first now next grows more walked))
