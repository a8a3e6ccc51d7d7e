-- A map that is made.
use Rattle.std.proofs.Common.{◌≡◌, ◌⊎◌, inl, inr, ⊎_elim, ℕ, zero, suc, ◌<◌, List, [], ◌∷◌, ◌++◌, length, get_or, replicate, pos, Some, None, refl, ap, sym, ◌∙◌, subst, arith}
use Rattle.std.proofs.lemmas.List.{length-replicate}
use Rattle.model_core.specs.declared.label.Label.{Label}
use Rattle.model_core.specs.declared.command.Command.TheVariants.{Alloc}
use Rattle.model_core.specs.declared.entry.Entry.{Entry}
use Rattle.model_core.specs.declared.reply.Reply.{Reply}
use Rattle.model_core.specs.declared.graph.Value.{Value}
use Rattle.model_core.specs.declared.graph.Value.TheVariants.{Int, Block, Nothing}
use Rattle.model_core.specs.declared.state.Sizes.{Sizes}
use Rattle.model_core.specs.Graph.{Graph, node_at}
use Rattle.model_core.specs.Domains.{IsWithinLimits}
use Rattle.model_core.specs.Commands.{new_plain}
use Rattle.model_core.proofs.Graphs.GraphLemmas.{node_at-append_new}
use Rattle.weak_laws.specs.Tables.Stages.{graph_of}
use Rattle.weak_laws.specs.Maps.Tries.{at, ends, inside, fields_of, found, bound_by, bound_in, IsSlot, way_to, root_width, width_at, way_length, IsMap, IsInPlace}
use Rattle.weak_laws.specs.Maps.Calls.{PerformedBy}
use Rattle.weak_laws.proofs.OfMaps.WalkLemmas.{at_step, at_stop, ends_step}
use Rattle.weak_laws.proofs.OfMaps.SetLemmas.{stays}
use Rattle.weak_laws.proofs.OfMaps.CallLemmas.{made, alloc_step}
use Rattle.weak_maps.specs.Returns.{MakeReturns}
use Rattle.weak_maps.proofs.BesideLemmas.{sixteen, set_here, set_other, same_held, since_old, until_new}
use Rattle.weak_maps.proofs.StayLemmas.{no_entry, quiet_on}

abbrev zeros : List Value
zeros = replicate root_width (Int (pos 0))

-- each field of a new block is 0, and past the last there is nothing
zero_or_none : (n i : ℕ) → (get_or (replicate n (Int (pos 0))) i Nothing ≡ Int (pos 0)) ⊎ (get_or (replicate n (Int (pos 0))) i Nothing ≡ Nothing)
zero_or_none zero i = inr refl
zero_or_none (suc n) zero = inl refl
zero_or_none (suc n) (suc i) = zero_or_none n i

module _ (g : Graph) (root : Label) (node : node_at g root ≡ Some (new_plain 0 root_width)) where
  plain : inside g (Block root) ≡ Some zeros
  plain = ap fields_of node

  field_ends : (i : ℕ) → inside g (get_or zeros i Nothing) ≡ None
  field_ends i = ⊎_elim (λ e. ap (inside g) e) (λ e. ap (inside g) e) (zero_or_none root_width i)

  field_slot : (i : ℕ) → IsSlot g (get_or zeros i Nothing)
  field_slot i = ⊎_elim (λ e. subst (IsSlot g) (sym e) refl) (λ e. subst (IsSlot g) (sym e) tt) (zero_or_none root_width i)

  field_unbound : (k : Label) (i : ℕ) → bound_by g k (get_or zeros i Nothing) ≡ None
  field_unbound k i = ⊎_elim (λ e. ap (bound_by g k) e) (λ e. ap (bound_by g k) e) (zero_or_none root_width i)

  -- a way leads to the root, or to a field of it
  leads : (p : List ℕ) (v : Value) → at (inside g) p (Block root) ≡ Some v → ((p ≡ []) × (v ≡ Block root)) ⊎ ((i : ℕ) × (v ≡ get_or zeros i Nothing))
  leads [] v there = inl (refl, (let same : Block root ≡ v = cc in sym same))
  leads (i ∷ []) v there = inr (i, (let same : Some (get_or zeros i Nothing) ≡ Some v = sym (at_step (inside g) i [] (Block root) zeros plain) ∙ there in cc))
  leads (i ∷ j ∷ p) v there =
      let none : None ≡ Some v = sym (at_step (inside g) i (j ∷ p) (Block root) zeros plain ∙ at_stop (inside g) j p (get_or zeros i Nothing) (field_ends i)) ∙ there in cc

  -- what has fields is the root
  only_root : (p : List ℕ) (v : Value) (fields : List Value) → at (inside g) p (Block root) ≡ Some v → inside g v ≡ Some fields → (p ≡ []) × (fields ≡ zeros)
  only_root p v fields there is = ⊎_elim
      (λ root_is. (root_is.0, (let same : Some fields ≡ Some zeros = sym is ∙ (ap (inside g) root_is.1 ∙ plain) in cc)))
      (λ field. let none : None ≡ Some fields = sym (ap (inside g) field.1 ∙ field_ends field.0) ∙ is in cc)
      (leads p v there)

  pub new_map : IsMap g root
  new_map = record {
    tree = λ p q u fields a b is. (only_root p u fields a is).0 ∙ sym (only_root q u fields b is).0;
    slots = λ p v there. ⊎_elim (λ root_is. subst (IsSlot g) (sym root_is.1) (inr (zeros, plain))) (λ field. subst (IsSlot g) (sym field.1) (field_slot field.0)) (leads p v there);
    wide = λ p v fields there is. let r = only_root p v fields there is in ap length r.1 ∙ (length-replicate root_width (Int (pos 0)) ∙ ap width_at (sym r.0));
    low = λ p v fields there is. let r = only_root p v fields there is in subst (λ (q : List ℕ). length q < way_length) (sym r.0) (omega arith);
    own = (zeros, plain);
  }

  pub new_empty : (n : ℕ) (k : Label) → found n g root k ≡ None
  new_empty n k = go (way_to n k)
    where
      go : (way : List ℕ) → bound_by g k (ends (inside g) way (Block root)) ≡ None
      go [] = ap (bound_in k) node
      go (i ∷ is) = ap (bound_by g k) (ends_step (inside g) i is (Block root) zeros plain ∙ stays (inside g) is (get_or zeros i Nothing) (field_ends i)) ∙ field_unbound k i

  -- a leaf that binds a key would stand behind a field of the root, but those are 0
  pub new_placed : (n : ℕ) → IsInPlace n g root
  new_placed n p l k there binds = ⊎_elim
      (λ root_is. absurd (binds (ap (bound_by g k) root_is.1 ∙ ap (bound_in k) node)))
      (λ field. absurd (binds (ap (bound_by g k) field.1 ∙ field_unbound k field.0)))
      (leads p (Block l) there)

pub made_map : (z : Sizes) (limits : IsWithinLimits z) (d : ℕ) (old new : List Entry) (r : Reply) (dst : ℕ) → dst < 8 → PerformedBy z d old new (Alloc dst 0 512) r → MakeReturns z d old new dst r
made_map z limits d old new r dst few p = ⊎_elim
    (λ refused. inr (
      refused.1.2,
      record {
        quiet = quiet_on z root_of d old old new (Alloc dst 0 512) r p refused.1.0 (λ front e since until mine. absurd (no_entry old front e since until));
        keeps = same_held z d old new refused.1.1;
      },
    ))
    (λ granted.
    let l : Label = made z d old new (Alloc dst 0 512) r p in
    let node : node_at (graph_of z new) l ≡ Some (new_plain 0 root_width) = ap (λ (g : Graph). node_at g l) granted.2.0 ∙ node_at-append_new (graph_of z (old ++ p.between)) l (new_plain 0 root_width) granted.1 in
    inl (
      l,
      granted.2.2,
      record {
        map = new_map (graph_of z new) l node;
        empty = new_empty (graph_of z new) l node z.domains;
        placed = new_placed (graph_of z new) l node z.domains;
        holds = set_here z d old new dst (Block l) granted.2.1 (sixteen z d old new (Alloc dst 0 512) r p limits) (omega (arith, few));
        keeps = set_other z d old new dst (Block l) granted.2.1;
        front = old ++ p.between;
        since = since_old z d old new (Alloc dst 0 512) r p;
        until = until_new z d old new (Alloc dst 0 512) r p;
        fresh = granted.1;
        made = granted.2.0;
      },
    ))
    (alloc_step z d old new r dst 0 512 p)
  where
    root_of : Label
    root_of = made z d old new (Alloc dst 0 512) r p
