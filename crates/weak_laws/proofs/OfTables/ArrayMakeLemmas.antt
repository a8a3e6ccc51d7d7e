-- A weak array in the making, command by command.
use Rattle.std.proofs.Common.{◌≡◌, ⊎_elim, ℕ, suc, true, false, not, IsTrue, List, [], ◌∷◌, ◌++◌, map, length, set, slice_get, replicate, Option, Some, None, refl, ap, sym, ◌∙◌, subst, pos, append-nil}
use Rattle.std.specs.List.{list_all}
use Rattle.model_core.specs.declared.label.Label.{Label}
use Rattle.model_core.specs.declared.command.Command.TheVariants.{Store}
use Rattle.model_core.specs.declared.entry.Entry.{Entry}
use Rattle.model_core.specs.declared.reply.Reply.{Reply}
use Rattle.model_core.specs.declared.reply.Reply.TheVariants.{Done}
use Rattle.model_core.specs.declared.graph.Value.{Value}
use Rattle.model_core.specs.declared.graph.Value.TheVariants.{Int, Block, Nothing}
use Rattle.model_core.specs.declared.graph.Node.{Node}
use Rattle.model_core.specs.declared.graph.Node.TheVariants.{Plain, Ephe}
use Rattle.model_core.specs.declared.state.Sizes.{Sizes}
use Rattle.model_core.specs.Graph.{same_label, has_label, has_no_repeats, node_at}
use Rattle.model_core.specs.Domains.{IsWithinLimits}
use Rattle.model_core.proofs.Graphs.GraphLemmas.{same_label-true, same_label_refl}
use Rattle.model_core.proofs.Reach.ReachLemmas.{or_cases, or_left, or_right, and_left, and_right, and_both, is_false, not_false, has-append_cases}
use Rattle.weak_laws.specs.Tables.Structures.{is_weak, key_of, IsWeakArray, slot_keys}
use Rattle.weak_laws.specs.Tables.Thinning.{Went}
use Rattle.weak_laws.specs.Tables.Performing.{Performed, After, registers_of}
use Rattle.weak_laws.specs.Tables.Stages.{Filling, graph_of, held_in}
use Rattle.weak_laws.proofs.OfTables.OnceLemmas.{lacks, not_both}
use Rattle.weak_laws.proofs.OfTables.LinkLemmas.{empty_stays}
use Rattle.weak_laws.proofs.OfTables.StepLemmas.{store_step}

-- the field behind those that are filled
field_here : (made : List Label) (left : ℕ) → slice_get (map Block made ++ replicate (suc left) (Int (pos 0))) (length made) ≡ Some (Int (pos 0))
field_here [] left = refl
field_here (x ∷ made) left = field_here made left

field_filled : (made : List Label) (left : ℕ) (e : Label) → set (map Block made ++ replicate (suc left) (Int (pos 0))) (length made) (Block e) ≡ map Block (made ++ e ∷ []) ++ replicate left (Int (pos 0))
field_filled [] left e = refl
field_filled (x ∷ made) left e = ap (λ (vs : List Value). Block x ∷ vs) (field_filled made left e)

-- one label more at the end
once_end : (ls : List Label) (e : Label) → IsTrue (has_no_repeats ls) → has_label ls e ≡ false → IsTrue (has_no_repeats (ls ++ e ∷ []))
once_end [] e once none = refl
once_end (x ∷ ls) e once none =
    let new : has_label ls x ≡ false = is_false _ (and_left (not (has_label ls x)) _ once) in
    let differ : same_label x e ≡ true → ⊥ = λ same. not_both (x ∷ ls) e (or_left (same_label x e) _ same) none in
    and_both _ _
    (not_false _ (lacks (ls ++ e ∷ []) x (λ there. ⊎_elim
    (λ old. not_both ls x old new)
    (λ last. ⊎_elim
    (λ same. differ (subst (λ (l : Label). same_label x l ≡ true) (sym (same_label-true e x same)) (same_label_refl x)))
    (λ no. let clash : false ≡ true = no in cc)
    (or_cases (same_label e x) false last))
    (has-append_cases ls (e ∷ []) x there))))
    (once_end ls e (and_right (not (has_label ls x)) _ once) (lacks ls e (λ there. not_both (x ∷ ls) e (or_right (same_label x e) _ there) none)))

module _ (z : Sizes) (first : List Entry) (root : Label) where
  -- a block of fields that are 0
  pub filling_begun : (now : List Entry) (n : ℕ) → node_at (graph_of z first) root ≡ None → node_at (graph_of z now) root ≡ Some (Plain 0 (replicate n (Int (pos 0)))) → Filling z first now root [] n
  filling_begun now n none at = record {
    node = at;
    empty = λ e h. absurd (let clash : false ≡ true = h in cc);
    once = refl;
    fresh = λ l h. ⊎_elim (λ same. subst (λ (k : Label). node_at (graph_of z first) k ≡ None) (same_label-true root l same) none) (λ no. absurd (let clash : false ≡ true = no in cc)) (or_cases (same_label root l) false h);
  }

  module _ (made : List Label) (left : ℕ) where
    -- at a command that changes none of its blocks
    pub filling_kept : (now new : List Entry) (rs : List Value) → Filling z first now root made left → After z now new [] rs → Filling z first new root made left
    filling_kept now new rs x a = record {
      node = a.changes root _ x.node refl;
      empty = λ e h. empty_stays (Went z now new) Nothing _ (a.changes e _ (x.empty e h) refl);
      once = x.once;
      fresh = x.fresh;
    }

  -- a new ephemeron is stored into the next field
  module _ (limits : IsWithinLimits z) (made : List Label) (left : ℕ) (now new : List Entry) (r : Reply) (e : Label) (x : Filling z first now root made (suc left)) (at : node_at (graph_of z now) e ≡ Some (Ephe (None ∷ []) Nothing))
      (apart : has_label (root ∷ made) e ≡ false) (unmade : node_at (graph_of z first) e ≡ None) (holds : held_in z now 8 ≡ Block root) (item : held_in z now 9 ≡ Block e) where
    other : (l : Label) → has_label (root ∷ []) l ≡ false → node_at (graph_of z now) l ≡ Some (Ephe (None ∷ []) Nothing) → (rs : List Value) → After z now new (root ∷ []) rs → node_at (graph_of z new) l ≡ Some (Ephe (None ∷ []) Nothing)
    other l differs here rs a = empty_stays (Went z now new) Nothing _ (a.changes l _ here differs)

    not_root : (l : Label) → (same_label root l ≡ true → ⊥) → has_label (root ∷ []) l ≡ false
    not_root l differs = lacks (root ∷ []) l (λ h. ⊎_elim (λ same. differs same) (λ no. let clash : false ≡ true = no in cc) (or_cases (same_label root l) false h))

    filled : (rs : List Value) → After z now new (root ∷ []) rs → node_at (graph_of z new) root ≡ Some (Plain 0 (set (map Block made ++ replicate (suc left) (Int (pos 0))) (length made) (Block e))) → Filling z first new root (made ++ e ∷ []) left
    filled rs a node =
        let new_root : has_label made root ≡ false = is_false _ (and_left (not (has_label made root)) _ x.once) in
        let end : node_at (graph_of z new) e ≡ Some (Ephe (None ∷ []) Nothing) = other e (not_root e (λ same. not_both (root ∷ made) e (or_left (same_label root e) _ same) apart)) at rs a in record {
          node = node ∙ ap (λ (vs : List Value). Some (Plain 0 vs)) (field_filled made left e);
          empty = λ l h. ⊎_elim
              (λ old. other l (not_root l (λ same. not_both made root (subst (λ (k : Label). IsTrue (has_label made k)) (sym (same_label-true root l same)) old) new_root)) (x.empty l old) rs a)
              (λ last. ⊎_elim
              (λ same. subst (λ (k : Label). node_at (graph_of z new) k ≡ Some (Ephe (None ∷ []) Nothing)) (same_label-true e l same) end)
              (λ no. absurd (let clash : false ≡ true = no in cc))
              (or_cases (same_label e l) false last))
              (has-append_cases made (e ∷ []) l h);
          once = once_end (root ∷ made) e x.once apart;
          fresh = λ l h. ⊎_elim
              (λ old. x.fresh l old)
              (λ last. ⊎_elim
              (λ same. subst (λ (k : Label). node_at (graph_of z first) k ≡ None) (same_label-true e l same) unmade)
              (λ no. absurd (let clash : false ≡ true = no in cc))
              (or_cases (same_label e l) false last))
              (has-append_cases (root ∷ made) (e ∷ []) l h);
        }

    pub filling_stored : Performed z now new (Store 8 (length made) 9) r → After z now new (root ∷ []) (registers_of z now) × (r ≡ Done) × Filling z first new root (made ++ e ∷ []) left
    filling_stored p =
        let t = store_step z limits now new r 8 (length made) 9 root 0 _ (Block e) (Int (pos 0)) holds x.node (field_here made left) item (λ same. cc) p in
        (t.0, t.1, filled _ t.0 t.2)

-- it is a weak array once no field is left, and each slot is empty
module _ (z : Sizes) (first now : List Entry) (root : Label) where
  slots_weak : (made : List Label) → ((e : Label) → IsTrue (has_label made e) → node_at (graph_of z now) e ≡ Some (Ephe (None ∷ []) Nothing)) → IsTrue (list_all (λ e. is_weak (node_at (graph_of z now) e)) made)
  slots_weak [] empty = refl
  slots_weak (e ∷ made) empty =
      and_both _ _ (subst (λ (o : Option Node). IsTrue (is_weak o)) (sym (empty e (or_left (same_label e e) _ (same_label_refl e)))) refl) (slots_weak made (λ l h. empty l (or_right (same_label e l) _ h)))

  slots_empty : (made : List Label) → ((e : Label) → IsTrue (has_label made e) → node_at (graph_of z now) e ≡ Some (Ephe (None ∷ []) Nothing)) → slot_keys (graph_of z now) made ≡ replicate (length made) None
  slots_empty [] empty = refl
  slots_empty (e ∷ made) empty =
      let here : key_of (node_at (graph_of z now) e) ≡ None = ap key_of (empty e (or_left (same_label e e) _ (same_label_refl e))) in
      (λ i. here i ∷ slots_empty made (λ l h. empty l (or_right (same_label e l) _ h)) i)

  pub filling_ended : (made : List Label) → Filling z first now root made 0 → IsWeakArray (graph_of z now) root made × (slot_keys (graph_of z now) made ≡ replicate (length made) None)
  filling_ended made x = (
    record { tag = 0; node = x.node ∙ ap (λ (vs : List Value). Some (Plain 0 vs)) (append-nil (map Block made)); weak = slots_weak made x.empty; once = x.once },
    slots_empty made x.empty,
  )
