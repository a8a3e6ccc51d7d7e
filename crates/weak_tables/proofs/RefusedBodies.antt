-- What the clauses of the calls refuse: where a clause holds a wrong outcome doesn't, whatever body met it.
use Rattle.std.proofs.Common.{◌≡◌, ◌≢◌, ⊎_elim, inl, inr, ℕ, zero, suc, slice_get, subst, Bool, true, false, cond, IsTrue, List, [], ◌∷◌, ◌++◌, length, Option, Some, None, refl, ap, sym, ◌∙◌, append-nil}
use Rattle.model_core.specs.declared.label.Label.{Label}
use Rattle.model_core.specs.declared.command.Command.{Command}
use Rattle.model_core.specs.declared.entry.Entry.{Entry}
use Rattle.model_core.specs.declared.entry.Entry.TheVariants.{Command as CommandOf}
use Rattle.model_core.specs.declared.graph.Value.{Value}
use Rattle.model_core.specs.declared.graph.Value.TheVariants.{Nothing}
use Rattle.model_core.specs.declared.graph.Node.{Node}
use Rattle.model_core.specs.declared.graph.Node.TheVariants.{Ephe}
use Rattle.model_core.specs.declared.reply.Reply.{Reply}
use Rattle.model_core.specs.declared.state.Sizes.{Sizes}
use Rattle.model_core.specs.Graph.{has_label, node_at, same_label, has_no_repeats}
use Rattle.model_core.specs.Commands.{shown}
use Rattle.model_core.specs.History.{IsPrefix, commands}
use Rattle.model_core.proofs.Graphs.GraphLemmas.{same_label-true, same_label-false}
use Rattle.model_core.proofs.Histories.HistoryLemmas.{commands-append, commands-push, commands-others}
use Rattle.weak_laws.specs.Tables.Structures.{Binding, Cell, bindings, datum_at, without, keys_of, is_bucket_full, IsTable}
use Rattle.weak_laws.specs.Tables.Thinning.{EmptiedBy, Thin, WasOutside}
use Rattle.weak_laws.specs.Tables.Performing.{Performed}
use Rattle.weak_laws.specs.Tables.Stages.{Goes, graph_of}
use Rattle.weak_laws.proofs.OfTables.ChangeLemmas.{emptied_same, loses_emptied}
use Rattle.weak_laws.proofs.OfTables.BindingLemmas.{thinned_datum}
use Rattle.weak_laws.proofs.OfTables.LawLemmas.{differ_law}
use Rattle.weak_laws.proofs.OfTables.StepLemmas.{collector_none}
use Rattle.weak_laws.proofs.OfTables.UniqueLemmas.{layout_law}
use Rattle.weak_tables.specs.Walks.{Refused}
use Rattle.weak_tables.specs.Tables.{Counts, Gets, Puts, Takes}
use Rattle.weak_tables.specs.Commands.{value_of}

-- a look-up answers the datum of its own key, whatever is collected in the middle of the walk
pub no_datum_of_another_key : (z : Sizes) (old new : List Entry) (root : Label) (chains : List (List Cell)) (k : Label) (dst : ℕ) (r : Reply) (v : Value) → Gets z old new root chains k dst r
    → ((front : List Entry) → IsPrefix old front → IsPrefix front new → datum_at (bindings (graph_of z front) chains) k ≡ Some v) → r ≡ shown v
no_datum_of_another_key z old new root chains k dst r v x all =
    let found : x.found ≡ Some v = sym x.bound ∙ all x.front x.since x.until in
    x.answers ∙ ap (λ (o : Option Value). shown (value_of o)) found

-- and nothing where its key isn't bound
pub no_datum_of_no_key : (z : Sizes) (old new : List Entry) (root : Label) (chains : List (List Cell)) (k : Label) (dst : ℕ) (r : Reply) (v : Value) → Gets z old new root chains k dst r
    → ((front : List Entry) → IsPrefix old front → IsPrefix front new → datum_at (bindings (graph_of z front) chains) k ≡ None) → r ≡ shown (value_of None)
no_datum_of_no_key z old new root chains k dst r v x all =
    let found : x.found ≡ None = sym x.bound ∙ all x.front x.since x.until in
    x.answers ∙ ap (λ (o : Option Value). shown (value_of o)) found

-- no key is bound twice after a put
pub no_key_is_bound_twice : (z : Sizes) (old new : List Entry) (root : Label) (chains : List (List Cell)) (k : Label) (v : Value) → (x : Puts z old new root chains k v) → IsTrue (has_no_repeats (keys_of (bindings (graph_of z new) x.grown)))
no_key_is_bound_twice z old new root chains k v x = differ_law (graph_of z new) root x.grown x.table

-- a put makes no cell while its bucket has one to spare
pub a_spare_cell_is_used : (z : Sizes) (old new : List Entry) (root : Label) (chains : List (List Cell)) (k : Label) (v : Value) → (x : Puts z old new root chains k v) → is_bucket_full (graph_of z old) k chains ≡ false → x.grown ≡ chains
a_spare_cell_is_used z old new root chains k v x spare = ⊎_elim (λ same. same) (λ full. absurd (let clash : true ≡ false = sym full ∙ spare in cc)) x.spare

-- a put that is answered `full` leaves no cell, nor half of one
pub no_half_cell_is_left : (z : Sizes) (old new : List Entry) (root : Label) (chains other : List (List Cell)) → Refused z old new root chains → IsTable (graph_of z new) root other → other ≡ chains
no_half_cell_is_left z old new root chains other x table = layout_law (graph_of z new) root other chains table x.reads.table

-- the bindings without a key have all others
pub other_stays : (k j : Label) (bs : List Binding) → j ≢ k → datum_at (without k bs) j ≡ datum_at bs j
other_stays k j [] other = refl
other_stays k j (b ∷ bs) other = go (same_label b.0 k) refl (other_stays k j bs other)
  where
    go : (c : Bool) → same_label b.0 k ≡ c → datum_at (without k bs) j ≡ datum_at bs j → datum_at (cond c (without k bs) (b ∷ without k bs)) j ≡ cond (same_label b.0 j) (Some b.1) (datum_at bs j)
    go false e rest = ap (cond (same_label b.0 j) (Some b.1)) rest
    go true e rest =
        let differ : same_label b.0 j ≡ false = same_label-false b.0 j (λ same. other (sym same ∙ same_label-true b.0 k e)) in
        rest ∙ sym (ap (λ c. cond c (Some b.1) (datum_at bs j)) differ)

-- a take unlinks no neighbour: each other key that stays reached is bound to what it was
pub no_neighbour_is_unlinked : (z : Sizes) (old new : List Entry) (root : Label) (chains : List (List Cell)) (k j : Label) → Takes z old new root chains k → j ≢ k → (WasOutside z old new j → ⊥)
    → datum_at (bindings (graph_of z new) chains) j ≡ datum_at (bindings (graph_of z old) chains) j
no_neighbour_is_unlinked z old new root chains k j x other reached = thinned_datum (WasOutside z old new) j reached _ _ x.left ∙ other_stays k j (bindings (graph_of z old) chains) other

-- a count counts no emptied cell
pub no_emptied_cell_counts : (z : Sizes) (old new : List Entry) (root : Label) (chains : List (List Cell)) (count : ℕ) → Counts z old new root chains count
    → ((front : List Entry) → IsPrefix old front → IsPrefix front new → bindings (graph_of z front) chains ≡ []) → count ≡ 0
no_emptied_cell_counts z old new root chains count x none = sym x.number ∙ ap length (none x.front x.before.grows x.behind.grows)

-- what is left of an ephemeron that is nobody's own
thin_keys : (P : Label → Type 0) (keys : List (Option Label)) (datum : Value) (left : Option Node) → Thin P (Ephe keys datum) left → (now : List (Option Label)) × (after : Value) × (left ≡ Some (Ephe now after)) × EmptiedBy P keys now
thin_keys P [] datum left (inl same) = ([], datum, same, refl)
thin_keys P [] datum left (inr lost) = absurd lost.1
thin_keys P (key ∷ []) datum left (inl same) = (key ∷ [], datum, same, emptied_same P (key ∷ []))
thin_keys P (key ∷ []) datum left (inr (k, full, gone, empty)) = (None ∷ [], Nothing, empty, (None, [], refl, inr (refl, (k, full, gone)), refl))
thin_keys P (key ∷ other ∷ keys) datum left (inl same) = (key ∷ other ∷ keys, datum, same, emptied_same P (key ∷ other ∷ keys))
thin_keys P (key ∷ other ∷ keys) datum left (inr (now, loses, empty)) = (now, Nothing, empty, loses_emptied P (key ∷ other ∷ keys) now loses)

-- a key of which P doesn't hold stays
key_stays : (P : Label → Type 0) (keys now : List (Option Label)) (i : ℕ) (k : Label) → EmptiedBy P keys now → slice_get keys i ≡ Some (Some k) → (P k → ⊥) → slice_get now i ≡ Some (Some k)
key_stays P [] now i k e at stays = cc
key_stays P (key ∷ keys) now zero k (j, rest, is, inl same, more) at stays = ap (λ (ks : List (Option Label)). slice_get ks 0) is ∙ (ap Some same ∙ at)
key_stays P (key ∷ keys) now zero k (j, rest, is, inr (none, (l, full, gone)), more) at stays = absurd (stays (let same : l ≡ k = cc in subst P same gone))
key_stays P (key ∷ keys) now (suc i) k (j, rest, is, head, more) at stays = ap (λ (ks : List (Option Label)). slice_get ks (suc i)) is ∙ key_stays P keys rest i k more at stays

-- no call empties a key of an ephemeron that isn't its structure's, however many keys that has, while the key is reached
pub no_key_of_another_goes : (z : Sizes) (old now : List Entry) (own : List Label) (l : Label) (keys : List (Option Label)) (datum : Value) (i : ℕ) (k : Label) → Goes z old now own → has_label own l ≡ false
    → node_at (graph_of z old) l ≡ Some (Ephe keys datum) → slice_get keys i ≡ Some (Some k) → (WasOutside z old now k → ⊥)
    → (left : List (Option Label)) × (after : Value) × (node_at (graph_of z now) l ≡ Some (Ephe left after)) × (slice_get left i ≡ Some (Some k))
no_key_of_another_goes z old now own l keys datum i k goes other at full reached =
    let left = thin_keys (WasOutside z old now) keys datum (node_at (graph_of z now) l) (goes.changes l (Ephe keys datum) at other) in
    (left.0, left.1, left.2, key_stays (WasOutside z old now) keys left.0 i k left.3 full reached)

-- a command is made once
pub no_command_is_made_twice : (z : Sizes) (old new : List Entry) (c : Command) (r : Reply) → Performed z old new c r → commands new 0 ≡ commands old 0 ++ c ∷ []
no_command_is_made_twice z old new c r p =
    let none : commands p.between 0 ≡ [] = commands-others p.between 0 (collector_none p.between 0 p.collector) in
    let front : commands (old ++ p.between) 0 ≡ commands old 0 ++ commands p.between 0 = commands-append old p.between 0 in
    ap (λ (h : List Entry). commands h 0) p.appends ∙ (commands-push (old ++ p.between) (CommandOf 0 c p.full) 0 ∙ ap (λ (cs : List Command). cs ++ c ∷ []) (front ∙ (ap (λ (cs : List Command). commands old 0 ++ cs) none ∙ append-nil (commands old 0))))
