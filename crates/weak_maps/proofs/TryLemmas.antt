-- The tries of a put, from a field that was read to the next.
use Rattle.std.proofs.Common.{◌≡◌, ◌≢◌, ℕ, ◌+◌, ◌<◌, ◌%◌, ◌/◌, List, [], ◌∷◌, ◌++◌, length, Option, Some, None, refl, ap, sym, ◌∙◌, subst, arith}
use Rattle.model_core.specs.declared.label.Label.{Label}
use Rattle.model_core.specs.declared.command.Command.TheVariants.{Copy, Load}
use Rattle.model_core.specs.declared.entry.Entry.{Entry}
use Rattle.model_core.specs.declared.reply.Reply.{Reply}
use Rattle.model_core.specs.declared.graph.Value.{Value}
use Rattle.model_core.specs.declared.graph.Value.TheVariants.{Int, Block, Nothing}
use Rattle.model_core.specs.declared.graph.Node.TheVariants.{Ephe}
use Rattle.model_core.specs.declared.state.Sizes.{Sizes}
use Rattle.model_core.specs.Domains.{IsWithinLimits}
use Rattle.model_core.specs.History.{IsPrefix}
use Rattle.weak_laws.specs.Tables.Stages.{graph_of}
use Rattle.weak_laws.specs.Maps.Tries.{at, inside, bound_by, node_width, number_of, root_width, way_to, IsLabelOf, IsMap, IsInPlace}
use Rattle.weak_laws.specs.Maps.Steps.{OthersRespect}
use Rattle.weak_laws.specs.Maps.Calls.{ChangesOne, Looks, PerformedBy}
use Rattle.weak_laws.proofs.OfMaps.CallLemmas.{copy_step}
use Rattle.weak_laws.proofs.OfMaps.FrontLemmas.{prefix_same, prefix_trans}
use Rattle.weak_laws.proofs.OfMaps.OwnLemmas.{changes_before, changes_behind, looks_twice}
use Rattle.weak_laws.proofs.OfMaps.RespectLemmas.{respect_within}
use Rattle.weak_laws.specs.Maps.Within.{IsMadeBehind}
use Rattle.weak_laws.proofs.OfMaps.WithinLemmas.{within_twice}
use Rattle.weak_maps.specs.Beside.{held_by}
use Rattle.weak_maps.specs.Walks.{Looking, OwnQuiet}
use Rattle.weak_maps.specs.Fields.{AtField, Cleared, IsBeside, MapStays}
use Rattle.weak_maps.specs.Puts.{Arrived, FieldFound, FindsField, GoesOn, KeepsLeaf, LeafMade, OwnBlock, Published, Putting, rest_of}
use Rattle.weak_maps.specs.Returns.{TakeLeaves}
use Rattle.weak_maps.proofs.BesideLemmas.{low_beside, set_here, set_other, sixteen}
use Rattle.weak_maps.proofs.DescendLemmas.{below_root}
use Rattle.weak_maps.proofs.DigitLemmas.{other_digit}
use Rattle.weak_maps.proofs.FieldLemmas.{field_load}
use Rattle.weak_maps.proofs.GetLemmas.{grows_by}
use Rattle.weak_maps.proofs.LeafLemmas.{leaf_on}
use Rattle.weak_maps.proofs.PlaceLemmas.{place_after}
use Rattle.weak_maps.proofs.RoomLemmas.{goes_all}
use Rattle.weak_maps.proofs.StayLemmas.{looking_from, looking_on, quiet_looks, respects_within, within_quiet}
use Rattle.weak_maps.proofs.TakeLemmas.{cleared_clean, cleared_grows, cleared_keeps, cleared_looking}

-- entries that change no block, from a later front on
pub quiet_later : (z : Sizes) (d : ℕ) (first now new : List Entry) → IsPrefix first now → OwnQuiet z d first new → OwnQuiet z d now new
quiet_later z d first now new grows quiet front e since until mine = quiet front e (prefix_trans first now front grows since) until mine

-- a call that goes on by looking
goes_looking : (z : Sizes) (root : Label) (d : ℕ) (old first now new : List Entry) → GoesOn z root d old now → IsPrefix first now → IsPrefix now new → Looking z root d first new → GoesOn z root d old new
goes_looking z root d old first now new on since grows looking = record {
  looks = looks_twice z root d old now new grows on.looks (quiet_looks z root d now new (quiet_later z d first now new since looking.quiet));
  within = within_twice z root d old old now new grows on.within (within_quiet z root d old now new (quiet_later z d first now new since looking.quiet));
  grows = prefix_trans old now new on.grows grows;
  map = looking.map;
}

module _ (z : Sizes) (limits : IsWithinLimits z) (root : Label) (d : ℕ) (old : List Entry) (k : Label) (v : Value) (kr : ℕ) (few : kr < 8) (key : held_by z d old kr ≡ Block k) where
  -- the registers between are emptied at the end
  pub put_ended : (now new : List Entry) → GoesOn z root d old now → ((j : ℕ) → IsBeside j → held_by z d now j ≡ held_by z d old j) → Cleared z d now new → OthersRespect z root d old new → Looks z root d old new × TakeLeaves z d old new root
  put_ended now new on keeps x respects =
      let later = cleared_grows z d now new x in
      let tail = respects_within z root d old new now new on.grows (prefix_same new) respects in
      let from = looking_from z root d now on.map in
      let looking = cleared_looking z limits root d now k now now new x tail from in (
        looks_twice z root d old now new later on.looks (quiet_looks z root d now new looking.quiet),
        record { map = looking.map; within = within_twice z root d old old now new later on.within (within_quiet z root d old now new looking.quiet); clean = cleared_clean z limits root d now k now now new x tail from; keeps = λ j small. cleared_keeps z limits root d now k now now new x tail from j small ∙ keeps j small },
      )

  -- the leaf was published
  pub put_done : (now n1 new : List Entry) (l : Label) → IsMadeBehind z d old l → GoesOn z root d old now → ((j : ℕ) → IsBeside j → held_by z d now j ≡ held_by z d old j) → Published z d now n1 root k l v → Cleared z d n1 new → OthersRespect z root d old new
      → ((before : Option Value) × ChangesOne z root d old new k before (Some v)) × TakeLeaves z d old new root
  put_done now n1 new l mine on keeps x c respects =
      let later = cleared_grows z d n1 new c in
      let tail = respects_within z root d old new n1 new (prefix_trans old now n1 on.grows x.grows) (prefix_same new) respects in
      let from = looking_from z root d n1 x.map in
      let looking = cleared_looking z limits root d n1 k n1 n1 new c tail from in (
        (x.before, changes_before z root d old n1 new k x.before (Some v) later (changes_behind z root d old now n1 k x.before (Some v) on.grows on.looks x.grows x.changes) (quiet_looks z root d n1 new looking.quiet)),
        record { map = looking.map; within = within_twice z root d old old n1 new later (within_twice z root d old old now n1 x.grows on.within (x.within old mine)) (within_quiet z root d old n1 new looking.quiet); clean = cleared_clean z limits root d n1 k n1 n1 new c tail from; keeps = λ j small. cleared_keeps z limits root d n1 k n1 n1 new c tail from j small ∙ (x.keeps j ∙ keeps j small) },
      )

  -- the field is read once more
  pub put_read : (front now n1 new : List Entry) (first : List Entry) (r : Reply) (i rest : ℕ) (s : Reply) (level : ℕ) (x : AtField z d first front now root k i rest s) → level ≡ length x.p → GoesOn z root d old n1 → MapStays z root front n1 → held_by z d n1 8 ≡ held_by z d now 8
      → ((j : ℕ) → IsBeside j → held_by z d n1 j ≡ held_by z d old j) → (l : Label) → IsMadeBehind z d old l → OwnBlock z d n1 root 10 l (Ephe (Some k ∷ []) v) → PerformedBy z d n1 new (Load 9 8 i) r → OthersRespect z root d old new → Putting z d old new root k v i rest r level
  put_read front now n1 new first r i rest s level x deep on stays eight keeps l mine leaf p respects =
      let g = grows_by z d n1 new (Load 9 8 i) r p in
      let tail = respects_within z root d old new n1 new on.grows (prefix_same new) respects in
      let moved = stays.block x.p (Block x.l) x.fields x.there x.plain in
      let y = field_load z limits root d n1 k n1 new r i rest x.left x.p x.all x.way x.narrow x.l moved.1.0 (eight ∙ x.held) moved.0 moved.1.1 p tail (looking_from z root d n1 on.map) in record {
        on = goes_looking z root d old n1 n1 new on (prefix_same n1) g y.0;
        first = n1;
        since = on.grows;
        looking = y.0;
        field = y.1.0;
        deep = deep ∙ ap length (sym y.1.1);
        keeps = λ j beside. y.2 j beside.1 ∙ keeps j beside;
        l = l;
        made = mine;
        leaf = leaf_on z limits root d n1 k l v n1 new new (Load 9 8 i) r p (λ j. refl) (prefix_same n1) (prefix_same new) y.0 kr (keeps kr (low_beside kr few) ∙ key) (y.2 10 (λ e. absurd (omega (arith, e)))) leaf;
      }

  -- a walk from there
  pub put_arrives : (now n0 : List Entry) (i rest i2 rest2 level steps : ℕ) (s : Reply) (other : Option Label) → Putting z d old now root k v i rest s level → FindsField z d now n0 kr k i rest s i2 rest2 steps other → KeepsLeaf z d now n0 kr k i rest s → IsPrefix now n0 → OthersRespect z root d old n0
      → Arrived z d old n0 root k v i2 rest2 (level + steps) other
  put_arrives now n0 i rest i2 rest2 level steps s other t finds own grows respects =
      let tail = respects_within z root d old n0 t.first n0 t.since (prefix_same n0) respects in
      let held : held_by z d now kr ≡ Block k = t.keeps kr (low_beside kr few) ∙ key in
      let f = finds t.first root held t.looking t.field tail in record {
        on = goes_looking z root d old t.first now n0 t.on t.looking.grows grows f.0;
        first = t.first;
        since = t.since;
        looking = f.0;
        found = subst (λ (n : ℕ). FieldFound z d t.first n0 root k i2 rest2 (n + steps) other) (sym t.deep) f.2;
        keeps = λ j beside. f.1 j beside.0 beside.1 beside.3 ∙ t.keeps j beside;
        l = t.l;
        made = t.made;
        leaf = own t.first root t.l v held t.looking t.field tail t.leaf;
      }

  -- by which digit the way to another's key goes on
  pub put_digit : (n0 : List Entry) (i rest level : ℕ) (other : Option Label) (t : Arrived z d old n0 root k v i rest level other) → IsMap (graph_of z old) root → IsInPlace z.domains (graph_of z old) root → OthersRespect z root d old n0
      → (j : Label) → other ≡ Some j → IsLabelOf z.domains k → IsLabelOf z.domains j → (q : List ℕ) × (way_to z.domains j ≡ t.found.field.p ++ i ∷ (rest_of (number_of z.domains j) level % node_width) ∷ q)
  put_digit n0 i rest level other t map placed respects j is is_k is_j =
      let x = t.found.field in
      let front : List Entry = t.found.front in
      let before : IsPrefix old front = prefix_trans old t.first front t.since x.since in
      let all = respect_within z root old old front n0 (prefix_same old) x.until (goes_all z root d old n0 respects t.on) in
      other_digit z.domains k j x.p i rest x.left level limits.domains is_k is_j (t.found.differs j is) t.found.deep x.all x.way
      (place_of front x.v (x.p ++ i ∷ []) j (place_after z root old front before all map placed) x.was (t.found.alive j is))
    where
      place_of : (front : List Entry) (w : Value) (p : List ℕ) (j : Label) → IsInPlace z.domains (graph_of z front) root → at (inside (graph_of z front)) p (Block root) ≡ Some w → bound_by (graph_of z front) j w ≢ None → (q : List ℕ) × (way_to z.domains j ≡ p ++ q)
      place_of front (Int a) p j placed there binds = absurd (binds refl)
      place_of front (Block m) p j placed there binds = placed p m j there binds
      place_of front Nothing p j placed there binds = absurd (binds refl)

  -- before the first try
  pub put_begins : (n0 n1 new : List Entry) (r1 r2 : Reply) (map : ℕ) → map < 8 → held_by z d old map ≡ Block root → LeafMade z d old n0 root k v → PerformedBy z d n0 n1 (Copy 8 map) r1 → PerformedBy z d n1 new (Load 9 8 (number_of z.domains k % root_width)) r2 → OthersRespect z root d old new
      → Putting z d old new root k v (number_of z.domains k % root_width) (number_of z.domains k / root_width) r2 0
  put_begins n0 n1 new r1 r2 map small_map holds x p1 p2 respects =
      let c2 = Load 9 8 (number_of z.domains k % root_width) in
      let g1 = grows_by z d n0 n1 (Copy 8 map) r1 p1 in
      let g2 = grows_by z d n1 new c2 r2 p2 in
      let tail = respects_within z root d old new n0 new x.on.grows (prefix_same new) respects in
      let tail1 = respects_within z root d old new n0 n1 x.on.grows g2 respects in
      let ten_apart : (j : ℕ) → j < 8 → j ≢ 10 = λ j small e. absurd (omega (arith, small, e)) in
      let all = copy_step z d n0 n1 r1 8 map p1 in
      let looking1 = looking_on z root d n0 n0 n1 (Copy 8 map) r1 p1 all.0 tail1 (looking_from z root d n0 x.on.map) in
      let root_in : held_by z d n1 8 ≡ Block root = set_here z d n0 n1 8 (held_by z d n0 map) all.1 (sixteen z d n0 n1 (Copy 8 map) r1 p1 limits) (omega arith) ∙ (x.keeps map (ten_apart map small_map) ∙ holds) in
      let y = field_load z limits root d n0 k n1 new r2 (number_of z.domains k % root_width) (number_of z.domains k / root_width) 6 [] refl refl (below_root (number_of z.domains k)) root looking1.map.own.0 root_in refl looking1.map.own.1 p2 tail looking1 in
      let keeps1 : (j : ℕ) → j ≢ 8 → held_by z d n1 j ≡ held_by z d n0 j = set_other z d n0 n1 8 (held_by z d n0 map) all.1 in
      let key0 : held_by z d n0 kr ≡ Block k = x.keeps kr (ten_apart kr few) ∙ key in
      let key1 : held_by z d n1 kr ≡ Block k = keeps1 kr (λ e. absurd (omega (arith, few, e))) ∙ key0 in
      let ten1 : held_by z d n1 10 ≡ held_by z d n0 10 = keeps1 10 (λ e. absurd (omega (arith, e))) in
      let ten2 : held_by z d new 10 ≡ held_by z d n0 10 = y.2 10 (λ e. absurd (omega (arith, e))) ∙ ten1 in
      let leaf1 = leaf_on z limits root d n0 k x.l v n0 n1 new (Copy 8 map) r1 p1 (λ j. refl) (prefix_same n0) g2 y.0 kr key0 ten1 x.leaf in record {
        on = goes_looking z root d old n0 n0 new x.on (prefix_same n0) (prefix_trans n0 n1 new g1 g2) y.0;
        first = n0;
        since = x.on.grows;
        looking = y.0;
        field = y.1.0;
        deep = ap length (sym y.1.1);
        keeps = λ j beside. y.2 j beside.1 ∙ (keeps1 j beside.0 ∙ x.keeps j beside.2);
        l = x.l;
        made = x.made;
        leaf = leaf_on z limits root d n0 k x.l v n1 new new c2 r2 p2 (λ j. refl) g1 (prefix_same new) y.0 kr key1 (ten2 ∙ sym ten1) leaf1;
      }
