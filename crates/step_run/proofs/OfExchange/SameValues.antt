-- When two values are the same: as values of the graph, and as words.
use Rattle.std.proofs.Common.{◌≡◌, ◌≢◌, ◌∙◌, ℤ, true, sym, refl, ap}
use Rattle.std.specs.Ordering.{int_eq}
use Rattle.std.proofs.lemmas.Bool.Decides.{Decides-int_eq}
use Rattle.model_core.specs.declared.label.Label.{Label}
use Rattle.model_core.specs.declared.graph.Value as graph_value
use Rattle.model_core.specs.declared.graph.Value.TheVariants.{Int, Block, Nothing as NothingValue}
use Rattle.model_core.specs.Commands.{same_value}
use Rattle.model_core.specs.Graph.{same_label}
use Rattle.model_core.proofs.Graphs.GraphLemmas.{same_label_refl, same_label-true}
use Rattle.heap_words.specs.declared.value.Value.{Value}
use Rattle.heap_words.specs.declared.value.Value.TheVariants.{Int as IntWord, Ref, Nothing}
use Rattle.heap_rule.specs.declared.config.Config.{Config}
use Rattle.heap_rule.specs.Places.{Live, Place, Placed, Settled, Stands}
use Rattle.std.proofs.lemmas.Option.{same_Some}

int_same : (z : ℤ) → int_eq z z ≡ true
int_same z = (Decides-int_eq z z).1 refl

int_one : (y z : ℤ) → int_eq y z ≡ true → y ≡ z
int_one y z e = (Decides-int_eq y z).0 e

-- what one word stands for is one value
pub one_value : (live : Live) (w : Value) (v u : graph_value.Value) → w ≢ Nothing → Stands live w v → Stands live w u → same_value v u ≡ true
one_value live (IntWord z) (Int y) (Int x) some a b = ap (λ (n : ℤ). int_eq n x) (sym a.0 ∙ b.0) ∙ int_same x
one_value live (IntWord z) (Int y) (Block l) some a b = absurd b
one_value live (IntWord z) (Int y) NothingValue some a b = absurd b
one_value live (IntWord z) (Block l) u some a b = absurd a
one_value live (IntWord z) NothingValue u some a b = absurd a
one_value live (Ref n) (Block l) (Block m) some a b =
    let same : a.0 ≡ b.0 = same_Some a.0 b.0 (sym a.1 ∙ b.1) in
    ap (λ (x : Label). same_label x m) (sym a.2 ∙ (ap (λ (p : Place). p.label) same ∙ b.2)) ∙ same_label_refl m
one_value live (Ref n) (Block l) (Int y) some a b = absurd b
one_value live (Ref n) (Block l) NothingValue some a b = absurd b
one_value live (Ref n) (Int y) u some a b = absurd a
one_value live (Ref n) NothingValue u some a b = absurd a
one_value live Nothing v u some a b = absurd (some refl)

-- two values that are the same are one
pub same_values : (v u : graph_value.Value) → same_value v u ≡ true → v ≡ u
same_values (Int y) (Int x) e = ap Int (int_one y x e)
same_values (Int y) (Block l) e = cc
same_values (Int y) NothingValue e = cc
same_values (Block l) (Int x) e = cc
same_values (Block l) (Block m) e = ap Block (same_label-true l m e)
same_values (Block l) NothingValue e = cc
same_values NothingValue (Int x) e = cc
same_values NothingValue (Block m) e = cc
same_values NothingValue NothingValue e = refl

-- while nothing forwards, one value has one word
pub one_word : (k : Config) (live : Live) → Placed k live → Settled live → (w u : Value) (v : graph_value.Value) → Stands live w v → Stands live u v → w ≡ u
one_word k live placed settled (IntWord z) (IntWord y) (Int x) a b = ap IntWord (a.0 ∙ sym b.0)
one_word k live placed settled (IntWord z) (Ref n) (Int x) a b = absurd b
one_word k live placed settled (IntWord z) Nothing (Int x) a b = absurd b
one_word k live placed settled (IntWord z) u (Block l) a b = absurd a
one_word k live placed settled (IntWord z) u NothingValue a b = absurd a
one_word k live placed settled (Ref n) (Ref m) (Block l) a b =
    ap Ref (placed.once n m a.0 b.0 a.1 b.1 (a.2 ∙ sym b.2) (settled n a.0 a.1).no_forward (settled m b.0 b.1).no_forward)
one_word k live placed settled (Ref n) (IntWord z) (Block l) a b = absurd b
one_word k live placed settled (Ref n) Nothing (Block l) a b = absurd b
one_word k live placed settled (Ref n) u (Int x) a b = absurd a
one_word k live placed settled (Ref n) u NothingValue a b = absurd a
one_word k live placed settled Nothing Nothing NothingValue a b = refl
one_word k live placed settled Nothing (IntWord z) NothingValue a b = absurd b
one_word k live placed settled Nothing (Ref n) NothingValue a b = absurd b
one_word k live placed settled Nothing u (Int x) a b = absurd a
one_word k live placed settled Nothing u (Block l) a b = absurd a
