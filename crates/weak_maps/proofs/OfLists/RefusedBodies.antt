-- What the clauses of the calls refuse: where a clause holds a wrong outcome doesn't, whatever body met it.
use Rattle.std.proofs.Common.{◌≡◌, ◌≢◌, ℕ, List, ◌∷◌, length, Option, Some, None, ap, sym, ◌∙◌, arith}
use Rattle.model_core.specs.declared.label.Label.{Label}
use Rattle.model_core.specs.declared.entry.Entry.{Entry}
use Rattle.model_core.specs.declared.graph.Value.{Value}
use Rattle.model_core.specs.declared.reply.Reply.{Reply}
use Rattle.model_core.specs.declared.state.Sizes.{Sizes}
use Rattle.model_core.specs.Commands.{shown}
use Rattle.model_core.specs.History.{IsPrefix}
use Rattle.weak_laws.specs.Tables.Structures.{Binding, datum_at, without}
use Rattle.weak_laws.specs.Tables.Thinning.{WasOutside}
use Rattle.weak_laws.proofs.OfTables.BindingLemmas.{thinned_datum}
use Rattle.weak_laws.specs.Maps.Calls.{value_of}
use Rattle.weak_laws.proofs.OfLists.OrderLemmas.{without_other}
use Rattle.weak_maps.specs.Lists.Stretches.{bound_in}
use Rattle.weak_maps.specs.Lists.Answers.{ListCounts, ListGets, ListPuts, ListTakes}

-- a lookup answers the datum of its own key
pub no_datum_of_another_key : (z : Sizes) (old new : List Entry) (root k : Label) (dst : ℕ) (r : Reply) (v : Value) → ListGets z old new root k dst r
    → ((front : List Entry) → IsPrefix old front → IsPrefix front new → datum_at (bound_in z front root) k ≡ Some v) → r ≡ shown v
no_datum_of_another_key z old new root k dst r v x all =
    let found : x.found ≡ Some v = sym x.bound ∙ all x.front x.before.goes.grows x.behind.goes.grows in
    x.answers ∙ ap (λ (o : Option Value). shown (value_of o)) found

-- a put loses no other key that was reached all the while, nor binds one anew
pub no_other_key_is_lost : (z : Sizes) (old new : List Entry) (root k l : Label) (v : Value) → ListPuts z old new root k v → l ≢ k → (WasOutside z old new l → ⊥) → datum_at (bound_in z new root) l ≡ datum_at (bound_in z old root) l
no_other_key_is_lost z old new root k l v x other held =
    sym (without_other k l (bound_in z new root) other)
    ∙ (thinned_datum (WasOutside z old new) l held (without k (bound_in z old root)) (without k (bound_in z new root)) x.left ∙ without_other k l (bound_in z old root) other)

-- what isn't bound isn't taken
pub nothing_is_taken : (z : Sizes) (old new : List Entry) (root k : Label) → datum_at (bound_in z old root) k ≡ None → ListTakes z old new root k → ⊥
nothing_is_taken z old new root k none x = let clash : ◌≡◌ {A = Option Value} None (Some x.was) = sym none ∙ x.bound in cc

-- a count passes over no binding that is there at the end
pub no_binding_is_passed_over : (z : Sizes) (old new : List Entry) (root : Label) (b : Binding) (bs : List Binding) → bound_in z new root ≡ b ∷ bs → ListCounts z old new root 0 → ⊥
no_binding_is_passed_over z old new root b bs is x = let few = x.few in let some : length (bound_in z new root) ≡ length (b ∷ bs) = ap length is in omega (arith, few, some)
