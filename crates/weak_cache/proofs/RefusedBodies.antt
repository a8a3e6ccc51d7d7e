-- What the clauses of the calls on a cache refuse: where a clause holds a wrong outcome doesn't, whatever body met it.
use Rattle.std.proofs.Common.{◌≡◌, ◌≢◌, ◌<◌, inl, inr, true, [], ◌∷◌, ◌++◌, ℕ, ◌+◌, List, length, Option, Some, None, refl, ap, sym, ◌∙◌, subst}
use Rattle.model_core.specs.declared.label.Label.{Label}
use Rattle.model_core.specs.declared.entry.Entry.{Entry}
use Rattle.model_core.specs.declared.graph.Value.{Value}
use Rattle.model_core.specs.declared.graph.Value.TheVariants.{Block}
use Rattle.model_core.specs.declared.reply.Reply.{Reply}
use Rattle.model_core.specs.declared.reply.Reply.TheVariants as reply
use Rattle.model_core.specs.declared.state.Sizes.{Sizes}
use Rattle.model_core.specs.declared.graph.Node.{Node}
use Rattle.model_core.specs.Graph.{node_at}
use Rattle.model_core.specs.Commands.{shown}
use Rattle.model_core.specs.History.{IsPrefix, is_entry_of}
use Rattle.weak_laws.specs.Tables.Structures.{Binding}
use Rattle.weak_laws.specs.Tables.Stages.{graph_of}
use Rattle.weak_laws.specs.Maps.Calls.{value_of}
use Rattle.weak_cache.specs.Uses.{AreOnce, age, cached_in, put_first, taken}
use Rattle.weak_cache.specs.Caches.{Gone, IsCache, slots_after}
use Rattle.weak_cache.specs.Calls.{GetReturns, LeavesCache, PutsOrFull, TakeReturns}
use Rattle.weak_cache.proofs.EndLemmas.{slots_are}
use Rattle.weak_cache.proofs.OnceLemmas.{none_left, taken_gone}
use Rattle.weak_cache.proofs.TakenLemmas.{taking_keeps}
use Rattle.weak_cache.proofs.LawLemmas.{loss_keeps, others_back, put_found}

-- a lookup answers the value of its own key, and not of another
pub no_value_of_another_key : (z : Sizes) (d : ℕ) (old new : List Entry) (c : Label) (size dst : ℕ) (k : Label) (v : Value) (r : Reply) → GetReturns z d old new c size dst (Block k) r → cached_in k (slots_after z old c) ≡ Some v → r ≡ shown v
no_value_of_another_key z d old new c size dst k v r x has = x.0 ∙ ap (λ (o : Option Value). shown (value_of o)) has

-- and none where the cache has none of it
pub no_value_of_no_key : (z : Sizes) (d : ℕ) (old new : List Entry) (c : Label) (size dst : ℕ) (k : Label) (r : Reply) → GetReturns z d old new c size dst (Block k) r → cached_in k (slots_after z old c) ≡ None → r ≡ reply.Empty
no_value_of_no_key z d old new c size dst k r x has = x.0 ∙ ap (λ (o : Option Value). shown (value_of o)) has

-- a put that is done isn't lost: its key has the value, and stands first
pub no_put_is_lost : (z : Sizes) (d : ℕ) (old new : List Entry) (c : Label) (size : ℕ) (k : Label) (v : Value) → PutsOrFull z d old new c size k v reply.Done → 0 < length (slots_after z old c) → (cached_in k (slots_after z new c) ≡ Some v) × (age k (slots_after z new c) ≡ 0)
no_put_is_lost z d old new c size k v (low, inl (is, x)) some =
    let left = loss_keeps z k old new (put_first k v (slots_after z old c)) (slots_after z new c) x.left k (λ gone. gone.1 refl) in
    let put = put_found k v (slots_after z old c) some in
    (left.0 ∙ put.0, left.1 ∙ put.1)
no_put_is_lost z d old new c size k v (low, inr (is, x)) some = cc

-- a put drops no other key that doesn't stand last, while that key is reached
pub no_other_is_dropped : (z : Sizes) (d : ℕ) (old new : List Entry) (c : Label) (size : ℕ) (k l : Label) (v w : Value) → PutsOrFull z d old new c size k v reply.Done → l ≢ k → cached_in l (slots_after z old c) ≡ Some w → age l (slots_after z old c) + 1 < length (slots_after z old c)
    → (Gone z k old new l → ⊥) → cached_in l (slots_after z new c) ≡ Some w
no_other_is_dropped z d old new c size k l v w (low, inl (is, x)) differ has small lives =
    (loss_keeps z k old new (put_first k v (slots_after z old c)) (slots_after z new c) x.left l lives).0 ∙ (others_back k l v w (slots_after z old c) differ has small).0
no_other_is_dropped z d old new c size k l v w (low, inr (is, x)) differ has small lives = cc

-- a put that is answered `full` drops nothing
pub no_full_drops : (z : Sizes) (d : ℕ) (old new : List Entry) (c : Label) (size : ℕ) (k l : Label) (v : Value) → PutsOrFull z d old new c size k v reply.Full → (Gone z k old new l → ⊥) → cached_in l (slots_after z new c) ≡ cached_in l (slots_after z old c)
no_full_drops z d old new c size k l v (low, inl (is, x)) lives = cc
no_full_drops z d old new c size k l v (low, inr (is, x)) lives = (loss_keeps z k old new (slots_after z old c) (slots_after z new c) x.left l lives).0

-- a take takes its key out
pub no_taken_key_stays : (z : Sizes) (d : ℕ) (old new : List Entry) (c : Label) (size dst : ℕ) (k : Label) (r : Reply) → IsCache (graph_of z old) c size → TakeReturns z d old new c size dst (Block k) r → cached_in k (slots_after z new c) ≡ None
no_taken_key_stays z d old new c size dst k r cache x =
    none_left (Gone z k old new) k (taken k (slots_after z old c)) (slots_after z new c) x.2.left (taken_gone k (slots_after z old c) (subst AreOnce (sym (slots_are z old c cache.tag cache.fields cache.node)) cache.once))

-- and no other, while that key is reached
pub no_other_is_taken : (z : Sizes) (d : ℕ) (old new : List Entry) (c : Label) (size dst : ℕ) (k l : Label) (r : Reply) → TakeReturns z d old new c size dst (Block k) r → l ≢ k → (Gone z k old new l → ⊥) → cached_in l (slots_after z new c) ≡ cached_in l (slots_after z old c)
no_other_is_taken z d old new c size dst k l r x differ lives = (loss_keeps z k old new (taken k (slots_after z old c)) (slots_after z new c) x.2.left l lives).0 ∙ (taking_keeps k l (slots_after z old c) differ).0

-- it answers the value that the key had
pub no_other_value_is_taken : (z : Sizes) (d : ℕ) (old new : List Entry) (c : Label) (size dst : ℕ) (k : Label) (v : Value) (r : Reply) → TakeReturns z d old new c size dst (Block k) r → cached_in k (slots_after z old c) ≡ Some v → r ≡ shown v
no_other_value_is_taken z d old new c size dst k v r x has = x.0 ∙ ap (λ (o : Option Value). shown (value_of o)) has

-- a call writes no block that was there but the cache's
pub no_other_block_is_written : (z : Sizes) (d : ℕ) (k : Label) (old new : List Entry) (c : Label) (size : ℕ) (slots : List (Option Binding)) → LeavesCache z d k old new c size slots → (front : List Entry) (e : Entry) → IsPrefix old front → IsPrefix (front ++ e ∷ []) new → is_entry_of d e ≡ true
    → (l : Label) (n : Node) → node_at (graph_of z old) l ≡ Some n → l ≢ c → node_at (graph_of z (front ++ e ∷ [])) l ≡ node_at (graph_of z front) l
no_other_block_is_written z d k old new c size slots x = x.spared
