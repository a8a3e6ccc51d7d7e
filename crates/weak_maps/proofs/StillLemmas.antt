-- Where no other domain uses a map, and this one writes none of its blocks, what stands in it stays where it stands.
use Rattle.std.proofs.Common.{◌≡◌, ℕ, Bool, true, false, List, [], ◌∷◌, ◌++◌, refl, ap, sym, ◌∙◌, subst}
use Rattle.model_core.specs.declared.label.Label.{Label}
use Rattle.model_core.specs.declared.entry.Entry.{Entry}
use Rattle.model_core.specs.declared.graph.Value.TheVariants.{Block}
use Rattle.model_core.specs.declared.state.Sizes.{Sizes}
use Rattle.model_core.specs.Graph.{Graph}
use Rattle.model_core.specs.Entries.{next}
use Rattle.model_core.specs.Fronts.{NoneOf}
use Rattle.model_core.specs.History.{IsPrefix, is_entry_of}
use Rattle.weak_laws.specs.Tables.Thinning.{IsOutside, state_of}
use Rattle.weak_laws.specs.Tables.Stages.{graph_of}
use Rattle.weak_laws.specs.Maps.Tries.{at, inside, IsMap}
use Rattle.weak_laws.specs.Maps.Steps.{IsThinned, IsUntouched, OthersLeave}
use Rattle.weak_laws.proofs.OfMaps.FrontLemmas.{other_between, prefix_more, walk_along}
use Rattle.weak_laws.proofs.OfMaps.MapLemmas.{NoLabel, at_same, thinned_map, untouched_thinned}
use Rattle.weak_laws.proofs.OfMaps.RespectLemmas.{graph_push}
use Rattle.weak_maps.specs.Walks.{OwnQuiet}

abbrev Still : Sizes → Label → List Entry → List Entry → Type 0
Still z root old new = (q : List ℕ) → at (inside (graph_of z new)) q (Block root) ≡ at (inside (graph_of z old)) q (Block root)

abbrev Holds : Sizes → Label → List Entry → List Entry → Type 0
Holds z root old h = IsMap (graph_of z h) root × Still z root old h

pub still_quiet : (z : Sizes) (root : Label) (d : ℕ) (old new : List Entry) → IsPrefix old new → OwnQuiet z d old new → OthersLeave z root d old new → IsMap (graph_of z old) root → Still z root old new
still_quiet z root d old new grows quiet leaves map = (walk_along (Holds z root old) old new grows (λ f e a b x. by f e (leaves f e a b) (quiet f e a b) x (is_entry_of d e) refl) (map, (λ q. refl))).1
  where
    by : (f : List Entry) (e : Entry) → (is_entry_of d e ≡ false → IsThinned (IsOutside (state_of z f)) (graph_of z f) (next (state_of z f) e).graph root) → (is_entry_of d e ≡ true → graph_of z (f ++ e ∷ []) ≡ graph_of z f)
        → Holds z root old f → (b : Bool) → is_entry_of d e ≡ b → Holds z root old (f ++ e ∷ [])
    by f e thins same x true own =
        let is = same own in
        (subst (λ (g : Graph). IsMap g root) (sym is) x.0, (λ q. ap (λ (g : Graph). at (inside g) q (Block root)) is ∙ x.1 q))
    by f e thins same x false other =
        let P = IsOutside (state_of z f) in
        let thin = subst (λ (g : Graph). IsThinned P (graph_of z f) g root) (sym (graph_push z f e)) (thins other) in
        (thinned_map P (graph_of z f) (graph_of z (f ++ e ∷ [])) root x.0 thin, (λ q. at_same P (graph_of z f) (graph_of z (f ++ e ∷ [])) root x.0 thin q ∙ x.1 q))

-- over entries of others
pub still_between : (z : Sizes) (root : Label) (d : ℕ) (now between : List Entry) → NoneOf d between → OthersLeave z root d now (now ++ between) → IsMap (graph_of z now) root → Still z root now (now ++ between)
still_between z root d now between none leaves map = still_quiet z root d now (now ++ between) (prefix_more now between)
    (λ front e since until own. let clash : true ≡ false = sym own ∙ other_between d now between front e none since until in cc) leaves map

-- over an entry that touches no block of the map
pub still_untouched : (g h : Graph) (root : Label) → IsMap g root → IsUntouched g h root → (q : List ℕ) → at (inside h) q (Block root) ≡ at (inside g) q (Block root)
still_untouched g h root map same q = at_same NoLabel g h root map (untouched_thinned NoLabel g h root same) q
