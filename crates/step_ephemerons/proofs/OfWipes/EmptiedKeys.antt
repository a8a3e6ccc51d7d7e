-- Keys of which one more is emptied, and which keys are known to miss.
use Rattle.std.proofs.Common.{◌≡◌, ◌≢◌, ℕ, Bool, List, [], ◌∷◌, ◌++◌, length, map, set, zero, suc, Option, Some, None, cond, eq-eqb, ne_eqb, sym, refl, ap, ◌∙◌, length-set}
use Rattle.model_core.specs.declared.label.Label.{Label}
use Rattle.model_core.specs.declared.graph.Value.{Value}
use Rattle.model_core.specs.declared.graph.Value.TheVariants.{Nothing}
use Rattle.model_core.specs.declared.graph.Node.TheVariants.{Ephe}
use Rattle.model_core.specs.Commands.{key_value}
use Rattle.model_core.specs.Entries.{wiped_keys}
use Rattle.model_core.proofs.Graphs.GraphLemmas.{same_label_refl, same_label-false}
use Rattle.model_core.specs.Graph.{same_label}
use Rattle.heap_rule.specs.declared.view.Cleaning.{Cleaning}
use Rattle.heap_rule.specs.Ephemerons.{emptied_at}
use Rattle.heap_rule.specs.Places.{values_of, without_keys}
use Rattle.step_ephemerons.proofs.OfLooks.Keys.{without_ephe}

-- the keys at these places are emptied, whatever order
set_again : {A : Type 0} (xs : List A) (p q : ℕ) (v : A) → set (set xs p v) q v ≡ set (set xs q v) p v
set_again [] p q v = refl
set_again (x ∷ xs) zero zero v = refl
set_again (x ∷ xs) zero (suc q) v = refl
set_again (x ∷ xs) (suc p) zero v = refl
set_again (x ∷ xs) (suc p) (suc q) v = ap (λ (ys : List _). x ∷ ys) (set_again xs p q v)

wiped_more : (places : List ℕ) (p : ℕ) (keys : List (Option Label)) → wiped_keys (places ++ p ∷ []) keys ≡ set (wiped_keys places keys) p None
wiped_more [] p keys = refl
wiped_more (q ∷ qs) p keys = ap (λ (ks : List (Option Label)). set ks q None) (wiped_more qs p keys) ∙ set_again (wiped_keys qs keys) p q None

pub wiped_length : (places : List ℕ) (keys : List (Option Label)) → length (wiped_keys places keys) ≡ length keys
wiped_length [] keys = refl
wiped_length (q ∷ qs) keys = length-set (wiped_keys qs keys) q None ∙ wiped_length qs keys

map_set : {A B : Type 0} (f : A → B) (xs : List A) (p : ℕ) (v : A) → map f (set xs p v) ≡ set (map f xs) p (f v)
map_set f [] p v = refl
map_set f (x ∷ xs) zero v = refl
map_set f (x ∷ xs) (suc p) v = ap (λ (ys : List _). f x ∷ ys) (map_set f xs p v)

-- the values of an ephemeron without some keys
pub values_are : (places : List ℕ) (keys : List (Option Label)) (datum : Value) → values_of (without_keys places (Ephe keys datum)) ≡ datum ∷ map key_value (wiped_keys places keys)
values_are places keys datum = ap values_of (without_ephe places keys datum)

pub values_more : (places : List ℕ) (p : ℕ) (keys : List (Option Label)) (datum : Value) → values_of (without_keys (places ++ p ∷ []) (Ephe keys datum)) ≡ set (values_of (without_keys places (Ephe keys datum))) (suc p) Nothing
values_more places p keys datum = values_are (places ++ p ∷ []) keys datum ∙ (ap (λ (ks : List (Option Label)). datum ∷ map key_value ks) (wiped_more places p keys)
    ∙ (ap (λ (vs : List Value). datum ∷ vs) (map_set key_value (wiped_keys places keys) p None) ∙ sym (ap (λ (vs : List Value). set vs (suc p) Nothing) (values_are places keys datum))))

-- a function of labels with another value at one label
abbrev pub at_label : {A : Type 0} → (Label → A) → Label → A → Label → A
at_label f l v k = cond (same_label l k) v (f k)

pub label_here : {A : Type 0} (f : Label → A) (l : Label) (v : A) → at_label f l v l ≡ v
label_here f l v = ap (λ (b : Bool). cond b v (f l)) (same_label_refl l)

pub label_else : {A : Type 0} (f : Label → A) (l : Label) (v : A) (k : Label) → (l ≡ k → ⊥) → at_label f l v k ≡ f k
label_else f l v k other = ap (λ (b : Bool). cond b v (f k)) (same_label-false l k other)

-- of an ephemeron that is cleaned no key is known to miss elsewhere
pub emptied_beside : (w v : Cleaning) (a : ℕ) → v.block ≡ w.block → a ≢ w.block → emptied_at (Some v) a ≡ emptied_at (Some w) a
emptied_beside w v a same other =
    let there : a ≢ v.block = (λ e. other (e ∙ same)) in
    ap (λ (b : Bool). cond b v.emptied []) (ne_eqb a v.block there) ∙ sym (ap (λ (b : Bool). cond b w.emptied []) (ne_eqb a w.block other))

pub emptied_none : (w : Cleaning) (a : ℕ) → a ≢ w.block → emptied_at None a ≡ emptied_at (Some w) a
emptied_none w a other = sym (ap (λ (b : Bool). cond b w.emptied []) (ne_eqb a w.block other))

pub emptied_there : (w : Cleaning) → emptied_at (Some w) w.block ≡ w.emptied
emptied_there w = ap (λ (b : Bool). cond b w.emptied []) (eq-eqb w.block w.block refl)
