-- What the clauses of the calls on maps refuse: where a clause holds a wrong outcome doesn't, whatever body met it.
use Rattle.std.proofs.Common.{◌≡◌, ◌≢◌, ◌<◌, inl, inr, ⊎_elim, ℕ, ◌/◌, ◌%◌, Bool, true, false, List, [], ◌∷◌, ◌++◌, get_or, pos, Option, Some, None, refl, ap, sym, ◌∙◌, arith}
use Rattle.model_core.specs.declared.label.Label.{Label}
use Rattle.model_core.specs.declared.entry.Entry.{Entry}
use Rattle.model_core.specs.declared.graph.Value.{Value}
use Rattle.model_core.specs.declared.graph.Value.TheVariants.{Block, Int, Nothing}
use Rattle.model_core.specs.declared.graph.Node.{Node}
use Rattle.model_core.specs.declared.graph.Node.TheVariants.{Ephe}
use Rattle.model_core.specs.declared.reply.Reply.{Reply}
use Rattle.model_core.specs.declared.reply.Reply.TheVariants as reply
use Rattle.model_core.specs.declared.state.Sizes.{Sizes}
use Rattle.model_core.specs.Graph.{node_at}
use Rattle.model_core.specs.Commands.{shown}
use Rattle.model_core.specs.History.{IsPrefix, is_entry_of}
use Rattle.weak_laws.specs.Tables.Stages.{graph_of}
use Rattle.weak_laws.specs.Maps.Tries.{at, bound_by, ends, inside, is_leaf, low_digits, number_of, root_width}
use Rattle.weak_laws.specs.Maps.Calls.{bound_after, value_of, ChangesOne, GetAnswers, PutsOrFull, TakeAnswers, CleanAnswers}
use Rattle.weak_laws.specs.Maps.Within.{IsBlockOf, OwnWithin, StandsIn}
use Rattle.weak_laws.proofs.OfMaps.WalkLemmas.{ends_step}
use Rattle.weak_laws.proofs.OfMaps.SetLemmas.{stays}
use Rattle.weak_laws.proofs.OfMaps.FrontLemmas.{prefix_before, before_or_behind, last_or_before}

-- of a call that sets one key, no entry changes the binding of another
pub no_other_binding_is_lost : (z : Sizes) (root : Label) (d : ℕ) (old new : List Entry) (k l : Label) (before after : Option Value) → ChangesOne z root d old new k before after → l ≢ k
    → (front : List Entry) (e : Entry) → IsPrefix old front → IsPrefix (front ++ e ∷ []) new → is_entry_of d e ≡ true → bound_after z root (front ++ e ∷ []) l ≡ bound_after z root front l
no_other_binding_is_lost z root d old new k l before after x differ front e since until own =
    ⊎_elim
    (λ within. ⊎_elim
    (λ earlier. x.first front e since earlier own l)
    (λ same. (λ i. bound_after z root (same.0 i ++ same.1 i ∷ []) l) ∙ (x.others l differ ∙ ap (λ (h : List Entry). bound_after z root h l) (sym same.0)))
    (last_or_before x.front x.entry front e within))
    (λ behind. x.last front e behind until own l)
    (before_or_behind (x.front ++ x.entry ∷ []) new front e x.until until)

-- a put that is done overwrites nothing that another put into the same key afterwards
pub no_later_put_is_overwritten : (z : Sizes) (root : Label) (d : ℕ) (old new : List Entry) (k : Label) (before after : Option Value) → (x : ChangesOne z root d old new k before after)
    → (front : List Entry) (e : Entry) → IsPrefix (x.front ++ x.entry ∷ []) front → IsPrefix (front ++ e ∷ []) new → is_entry_of d e ≡ true → bound_after z root (front ++ e ∷ []) k ≡ bound_after z root front k
no_later_put_is_overwritten z root d old new k before after x front e behind until own = x.last front e behind until own k

-- a put that is done has bound the key to its datum, at a front of the call
pub no_put_is_lost : (z : Sizes) (root : Label) (d : ℕ) (old new : List Entry) (k : Label) (v : Value) → PutsOrFull z root d old new k v reply.Done → (front : List Entry) × (e : Entry) × IsPrefix (front ++ e ∷ []) new × (bound_after z root (front ++ e ∷ []) k ≡ Some v)
no_put_is_lost z root d old new k v (inl (done, (before, x))) = (x.front, x.entry, x.until, x.binds)
no_put_is_lost z root d old new k v (inr (full, looks)) = cc

-- a take takes what the key is bound to then, and nothing that was bound before and is replaced
pub no_take_of_what_is_replaced : (z : Sizes) (root : Label) (d : ℕ) (old new : List Entry) (k : Label) (was v : Value) → (x : ChangesOne z root d old new k (Some was) None) → bound_after z root x.front k ≡ Some v → was ≡ v
no_take_of_what_is_replaced z root d old new k was v x bound = let same : Some was ≡ Some v = sym x.was ∙ bound in cc

-- a take answers `none` of no key that is bound all along
pub no_bound_key_is_missed_by_take : (z : Sizes) (root : Label) (d : ℕ) (old new : List Entry) (k : Label) → ((front : List Entry) → IsPrefix old front → IsPrefix front new → bound_after z root front k ≢ None) → TakeAnswers z root d old new (Block k) reply.Empty → ⊥
no_bound_key_is_missed_by_take z root d old new k all (inl (done, x)) = cc
no_bound_key_is_missed_by_take z root d old new k all (inr (empty, x)) = all x.front x.since x.until x.bound

-- nor `ok` of one that is unbound all along
pub no_unbound_key_is_taken : (z : Sizes) (root : Label) (d : ℕ) (old new : List Entry) (k : Label) → ((front : List Entry) → IsPrefix old front → IsPrefix front new → bound_after z root front k ≡ None) → TakeAnswers z root d old new (Block k) reply.Done → ⊥
no_unbound_key_is_taken z root d old new k all (inl (done, (was, x))) = let clash : Some was ≡ None = sym x.was ∙ all x.front x.since (prefix_before x.front x.entry new x.until) in cc
no_unbound_key_is_taken z root d old new k all (inr (empty, x)) = cc

-- a lookup misses no key that is bound all along, wherever its leaf stands by then
pub no_bound_key_is_missed : (z : Sizes) (root : Label) (d : ℕ) (old new : List Entry) (k : Label) (v : Value) (r : Reply) → ((front : List Entry) → IsPrefix old front → IsPrefix front new → bound_after z root front k ≡ Some v) → GetAnswers z root d old new (Block k) r → r ≡ shown v
no_bound_key_is_missed z root d old new k v r all (datum, x, answers) =
    let found : datum ≡ Some v = sym x.bound ∙ all x.front x.since x.until in
    answers ∙ ap (λ (o : Option Value). shown (value_of o)) found

-- and finds none that is unbound all along
pub no_unbound_key_is_found : (z : Sizes) (root : Label) (d : ℕ) (old new : List Entry) (k : Label) (r : Reply) → ((front : List Entry) → IsPrefix old front → IsPrefix front new → bound_after z root front k ≡ None) → GetAnswers z root d old new (Block k) r → r ≡ reply.Empty
no_unbound_key_is_found z root d old new k r all (datum, x, answers) =
    let found : datum ≡ None = sym x.bound ∙ all x.front x.since x.until in
    answers ∙ ap (λ (o : Option Value). shown (value_of o)) found

-- cleaning drops no binding
pub no_live_leaf_is_dropped : (z : Sizes) (root : Label) (d : ℕ) (old new : List Entry) (empty : Bool) → CleanAnswers z root d old new empty → (front : List Entry) (e : Entry) → IsPrefix old front → IsPrefix (front ++ e ∷ []) new → is_entry_of d e ≡ true
    → (k : Label) → bound_after z root (front ++ e ∷ []) k ≡ bound_after z root front k
no_live_leaf_is_dropped z root d old new empty x front e since until own k = x.keeps front e since until own k

-- a clean leaves no leaf that had lost its key when it began
pub no_dead_leaf_is_left : (z : Sizes) (root : Label) (d : ℕ) (old new : List Entry) (empty : Bool) → CleanAnswers z root d old new empty → (l : Label) (datum : Value) → node_at (graph_of z old) l ≡ Some (Ephe (None ∷ []) datum)
    → (p : List ℕ) → at (inside (graph_of z new)) p (Block root) ≡ Some (Block l) → is_leaf (node_at (graph_of z new) l) → ⊥
no_dead_leaf_is_left z root d old new empty x l datum dead p there leaf =
    let had = x.live p l there leaf in
    let clash : Some (Ephe (Some had.key ∷ []) had.datum) ≡ Some (Ephe (None ∷ []) datum) = sym had.node ∙ dead in cc

-- and answers of no map that binds a key that it holds nothing
pub no_full_map_is_empty : (z : Sizes) (root : Label) (d : ℕ) (old new : List Entry) → CleanAnswers z root d old new true → (k : Label) → bound_after z root new k ≡ None
no_full_map_is_empty z root d old new x k =
    let m : ℕ = number_of z.domains k in
    let q : List ℕ = low_digits 6 (m / root_width) in
    let field : get_or x.fields (m % root_width) Nothing ≡ Int (pos 0) = x.holds (m % root_width) (omega arith) in
    ap (bound_by (graph_of z new) k)
    (ends_step (inside (graph_of z new)) (m % root_width) q (Block root) x.fields x.plain
    ∙ (ap (ends (inside (graph_of z new)) q) field ∙ stays (inside (graph_of z new)) q (Int (pos 0)) refl))

-- nor that it holds something of one whose fields are 0
pub no_empty_map_is_full : (z : Sizes) (root : Label) (d : ℕ) (old new : List Entry) → (x : CleanAnswers z root d old new false) → ((j : ℕ) → j < root_width → get_or x.fields j Nothing ≡ Int (pos 0)) → ⊥
no_empty_map_is_full z root d old new x zeros = x.holds.2 (zeros x.holds.0 x.holds.1)

-- a call writes no block that was there but those of its map
pub no_block_beside_is_written : (z : Sizes) (root : Label) (d : ℕ) (old new : List Entry) → OwnWithin z root d old old new → (front : List Entry) (e : Entry) → IsPrefix old front → IsPrefix (front ++ e ∷ []) new → is_entry_of d e ≡ true
    → (l : Label) (n : Node) → node_at (graph_of z old) l ≡ Some n → (IsBlockOf (graph_of z front) root l → ⊥) → node_at (graph_of z (front ++ e ∷ [])) l ≡ node_at (graph_of z front) l
no_block_beside_is_written z root d old new within front e since until own l n there beside = ⊎_elim (λ same. same)
    (λ wrote. ⊎_elim (λ block. absurd (beside block)) (λ mine. let clash : None ≡ Some n = sym mine.1 ∙ there in cc) wrote)
    ((within front e since until own).writes l)

-- nor a block that another domain made
pub no_block_of_another_domain_is_written : (z : Sizes) (root : Label) (d : ℕ) (old new : List Entry) → OwnWithin z root d old old new → (front : List Entry) (e : Entry) → IsPrefix old front → IsPrefix (front ++ e ∷ []) new → is_entry_of d e ≡ true
    → (l : Label) → l.domain ≢ d → (IsBlockOf (graph_of z front) root l → ⊥) → node_at (graph_of z (front ++ e ∷ [])) l ≡ node_at (graph_of z front) l
no_block_of_another_domain_is_written z root d old new within front e since until own l other beside = ⊎_elim (λ same. same)
    (λ wrote. ⊎_elim (λ block. absurd (beside block)) (λ mine. absurd (other mine.0)) wrote)
    ((within front e since until own).writes l)

-- nor brings a block that was there into the map, as a block of another map for room
pub no_block_beside_joins : (z : Sizes) (root : Label) (d : ℕ) (old new : List Entry) → OwnWithin z root d old old new → (front : List Entry) (e : Entry) → IsPrefix old front → IsPrefix (front ++ e ∷ []) new → is_entry_of d e ≡ true
    → (l : Label) (n : Node) → node_at (graph_of z old) l ≡ Some n → (StandsIn (graph_of z front) root l → ⊥) → StandsIn (graph_of z (front ++ e ∷ [])) root l → ⊥
no_block_beside_joins z root d old new within front e since until own l n there beside joined = ⊎_elim (λ stood. beside stood)
    (λ mine. let clash : None ≡ Some n = sym mine.1 ∙ there in cc)
    ((within front e since until own).joins joined.0 l joined.1)
