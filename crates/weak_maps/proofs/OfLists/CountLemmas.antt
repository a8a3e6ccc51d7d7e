-- A count of a map's bindings, field by field.
use Rattle.std.proofs.Common.{◌≡◌, ◌⊎◌, inl, inr, ⊎_elim, ℕ, zero, suc, ◌+◌, ◌-◌, ◌<◌, ◌≤◌, min, true, false, List, [], ◌∷◌, ◌++◌, length, get_or, take, flat_map, set, Option, Some, None, refl, ap, sym, ◌∙◌, subst, arith}
use Rattle.std.proofs.lemmas.Grind.{flat_map-append}
use Rattle.std.proofs.lemmas.List.{append-nil, length-append, take_all, take_more}
use Rattle.model_core.specs.declared.label.Label.{Label}
use Rattle.model_core.specs.declared.command.Command.TheVariants.{GetKey, Load}
use Rattle.model_core.specs.declared.entry.Entry.{Entry}
use Rattle.model_core.specs.declared.graph.Value.{Value}
use Rattle.model_core.specs.declared.graph.Value.TheVariants.{Int, Block, Nothing}
use Rattle.model_core.specs.declared.graph.Node.{Node}
use Rattle.model_core.specs.declared.graph.Node.TheVariants.{Plain, Raw, Ephe}
use Rattle.model_core.specs.declared.reply.Reply.{Reply}
use Rattle.model_core.specs.declared.reply.Reply.TheVariants as reply
use Rattle.model_core.specs.declared.state.Sizes.{Sizes}
use Rattle.model_core.specs.Graph.{Graph, node_at}
use Rattle.model_core.specs.Commands.{key_value, shown}
use Rattle.model_core.specs.Domains.{IsWithinLimits}
use Rattle.model_core.specs.History.{IsPrefix, Legal}
use Rattle.weak_laws.specs.Tables.Structures.{Binding, binding_of, bound}
use Rattle.weak_laws.specs.Tables.Thinning.{WasOutside}
use Rattle.weak_laws.specs.Tables.Stages.{Goes, graph_of, held_in}
use Rattle.weak_laws.proofs.OfTables.WalkLemmas.{thinned_length}
use Rattle.weak_laws.specs.Maps.Tries.{at, fields_of, inside, is_leaf, way_length, width_at}
use Rattle.weak_laws.specs.Maps.Steps.{IsThinned}
use Rattle.weak_laws.specs.Maps.Calls.{PerformedBy, registers_after}
use Rattle.weak_laws.proofs.OfMaps.CallLemmas.{get_key_plain_step, get_key_step, grows as step_grows, legal_middle, load_step}
use Rattle.weak_laws.proofs.OfMaps.FieldLemmas.{field_holds, plain_is}
use Rattle.weak_laws.proofs.OfMaps.FrontLemmas.{before_or_behind, other_between, prefix_more, prefix_same, prefix_trans}
use Rattle.weak_laws.proofs.OfMaps.MapLemmas.{at_same, inside_same}
use Rattle.weak_laws.proofs.OfMaps.OwnLemmas.{at_the_end, nothing_between}
use Rattle.weak_maps.specs.Cleans.{width_of}
use Rattle.weak_maps.specs.Commands.{IsBlock}
use Rattle.weak_maps.specs.Walks.{OwnQuiet}
use Rattle.weak_maps.proofs.BesideLemmas.{same_held, set_here, set_other, sixteen}
use Rattle.weak_maps.proofs.CleanedLemmas.{wide_at, positive}
use Rattle.weak_laws.specs.Lists.Lists.{bindings_below}
use Rattle.weak_laws.proofs.OfLists.ListLemmas.{below_end, below_plain, at_more}
use Rattle.weak_laws.proofs.OfLists.StepLemmas.{thinned_below}
use Rattle.weak_maps.specs.Lists.Stretches.{IsListed}
use Rattle.weak_maps.specs.Lists.Counts.{AtBlock, CountsBlock, CountsField, FieldCounted, LooksOnly, many_from, many_in}
use Rattle.weak_maps.proofs.OfLists.AloneLemmas.{legal_before}
use Rattle.weak_maps.proofs.OfLists.StretchLemmas.{goes_listed, quiet_goes}

-- two stretches in which the domain only looks
pub quiet_twice : (z : Sizes) (a b c : List Entry) → IsPrefix b c → OwnQuiet z 0 a b → OwnQuiet z 0 b c → OwnQuiet z 0 a c
quiet_twice z a b c grows x y f e since until own = ⊎_elim (λ early. x f e since early own) (λ late. y f e late until own) (before_or_behind b c f e grows until)

pub looks_twice : (z : Sizes) (a b c : List Entry) (value : ℕ) → IsPrefix b c → LooksOnly z a b value → LooksOnly z b c value → LooksOnly z a c value
looks_twice z a b c value grows x y = record { quiet = quiet_twice z a b c grows x.quiet y.quiet; low = λ r small. y.low r small ∙ x.low r small }

looks_fewer : (z : Sizes) (a b : List Entry) (value less : ℕ) → less ≤ value → LooksOnly z a b value → LooksOnly z a b less
looks_fewer z a b value less fewer x = record { quiet = x.quiet; low = λ r small. x.low r (omega (arith, small, fewer)) }

pub looks_none : (z : Sizes) (a : List Entry) (value : ℕ) → LooksOnly z a a value
looks_none z a value = record { quiet = λ f e since until own. absurd (nothing_between a f e since until); low = λ r small. refl }

-- what stands at a place after such a stretch
module _ (z : Sizes) (one : z.domains ≡ 1) (old new : List Entry) (grows : IsPrefix old new) (legal : Legal z new) (quiet : OwnQuiet z 0 old new) (root : Label) (listed : IsListed z old root) where
  went : Goes z old new []
  went = quiet_goes z one old new grows legal quiet

  thin : IsThinned (WasOutside z old new) (graph_of z old) (graph_of z new) root
  thin p l n there node = went.changes l n node refl

  listed_new : IsListed z new root
  listed_new = goes_listed z old new root went listed

  place_new : (p : List ℕ) → at (inside (graph_of z new)) p (Block root) ≡ at (inside (graph_of z old)) p (Block root)
  place_new p = at_same (WasOutside z old new) (graph_of z old) (graph_of z new) root listed.map thin p

  pub plain_new : (p : List ℕ) (v : Value) → at (inside (graph_of z old)) p (Block root) ≡ Some v → inside (graph_of z new) v ≡ inside (graph_of z old) v
  plain_new p v there = inside_same (WasOutside z old new) (graph_of z old) (graph_of z new) root listed.map thin p v there

  fewer_below : (d : ℕ) (p : List ℕ) (v : Value) → length p + d ≡ way_length → at (inside (graph_of z old)) p (Block root) ≡ Some v → length (bindings_below (graph_of z new) d v) ≤ length (bindings_below (graph_of z old) d v)
  fewer_below d p v deep there = thinned_length (WasOutside z old new) (bindings_below (graph_of z old) d v) (bindings_below (graph_of z new) d v) (thinned_below (WasOutside z old new) (graph_of z old) (graph_of z new) root listed.map thin d p v deep there)

-- a sum that stays at the most that fits
pub saturates : (a b sum : ℕ) → sum ≡ min (a + b) 4294967295 → (sum ≤ a + b) × (sum < 4294967295 → sum ≡ a + b)
saturates a b sum is = (omega (arith, is), (λ fits. omega (arith, is, fits)))

-- the sums over so many fields
sum_more : (f : Value → List Binding) (xs : List Value) (n : ℕ) → n < length xs → length (flat_map f (take (n + 1) xs)) ≡ length (flat_map f (take n xs)) + length (f (get_or xs n Nothing))
sum_more f xs n below =
    ap (λ (ys : List Value). length (flat_map f ys)) (take_more xs n Nothing below)
    ∙ (ap length (flat_map-append f (take n xs) (get_or xs n Nothing ∷ []) ∙ ap (λ (bs : List Binding). flat_map f (take n xs) ++ bs) (append-nil (f (get_or xs n Nothing)))) ∙ length-append (flat_map f (take n xs)) (f (get_or xs n Nothing)))

sum_less : (f h : Value → List Binding) (xs : List Value) → ((j : ℕ) → j < length xs → length (h (get_or xs j Nothing)) ≤ length (f (get_or xs j Nothing))) → (n : ℕ) → length (flat_map h (take n xs)) ≤ length (flat_map f (take n xs))
sum_less f h [] each zero = omega arith
sum_less f h [] each (suc n) = omega arith
sum_less f h (x ∷ xs) each zero = omega arith
sum_less f h (x ∷ xs) each (suc n) =
    let first = each zero (omega arith) in
    let rest = sum_less f h xs (λ j b. each (suc j) (omega (arith, b))) n in
    let a = length-append (h x) (flat_map h (take n xs)) in
    let b = length-append (f x) (flat_map f (take n xs)) in
    omega (arith, first, rest, a, b)

module _ (z : Sizes) (limits : IsWithinLimits z) (one : z.domains ≡ 1) where
  -- nothing was counted so far
  pub block_none : (old : List Entry) (block left : ℕ) → CountsBlock z old old block left 0 0
  block_none old block left root p l x = record { looks = looks_none z old (14 - left); number = record { many = omega arith; few = λ small. omega arith } }

  -- one field more is
  pub block_more : (old now new : List Entry) (block left n count more sum : ℕ) → left ≤ 6 → block < 14 - left → n < width_of left → IsPrefix old now → IsPrefix now new → Legal z new → (sum ≤ count + more) × (sum < 4294967295 → sum ≡ count + more)
      → CountsBlock z old now block left n count → CountsField z now new block left n more → CountsBlock z old new block left (n + 1) sum
  block_more old now new block left n count more sum high small narrow g0 g1 legal sums so_far step root p l x =
      let a = so_far root p l x in
      let legal_now = legal_before z now new g1 legal in
      let there_now : at (inside (graph_of z now)) p (Block root) ≡ Some (Block l) = place_new z one old now g0 legal_now a.looks.quiet root x.listed p ∙ x.there in
      let at_now : AtBlock z now root p l block left = record {
        listed = listed_new z one old now g0 legal_now a.looks.quiet root x.listed;
        deep = x.deep;
        there = there_now;
        fields = x.fields;
        plain = plain_new z one old now g0 legal_now a.looks.quiet root x.listed p (Block l) x.there ∙ x.plain;
        held = a.looks.low block small ∙ x.held;
      } in
      let wide : length x.fields ≡ width_of left = x.listed.map.wide p (Block l) x.fields x.there x.plain ∙ wide_at p left x.deep in
      let b = step root p l at_now (subst (λ (m : ℕ). n < m) (sym (wide_at p left x.deep)) narrow) in
      let inner : n < length x.fields = omega (arith, narrow, wide) in
      let deep_field : (j : ℕ) → length (p ++ j ∷ []) + left ≡ way_length = (λ j. let long = length-append p (j ∷ []) in let deep = x.deep in omega (arith, long, deep)) in
      let earlier : many_from z now left x.fields n ≤ many_from z old left x.fields n =
      fewer_below z one old now g0 legal_now a.looks.quiet root x.listed left (p ++ n ∷ []) (get_or x.fields n Nothing) (deep_field n) (at_more (graph_of z old) p (Block l) root x.fields n x.there x.plain) in
      let later : many_in z new left x.fields n ≤ many_in z now left x.fields n =
      sum_less (bindings_below (graph_of z now) left) (bindings_below (graph_of z new) left) x.fields
      (λ j in_it. fewer_below z one now new g1 legal b.looks.quiet root at_now.listed left (p ++ j ∷ []) (get_or x.fields j Nothing) (deep_field j) (at_more (graph_of z now) p (Block l) root x.fields j there_now at_now.plain)) n in
      let before = sum_more (bindings_below (graph_of z old) left) x.fields n inner in
      let after = sum_more (bindings_below (graph_of z new) left) x.fields n inner in
      let a_many = a.number.many in
      let b_many = b.number.many in
      let most = sums.0 in record {
        looks = looks_twice z old now new (14 - left) g1 a.looks b.looks;
        number = record {
          many = omega (arith, before, a_many, b_many, earlier, most);
          few = λ fits.
              let whole = sums.1 fits in
              let a_few = a.number.few (omega (arith, whole, fits)) in
              let b_few = b.number.few (omega (arith, whole, fits)) in
              omega (arith, after, later, whole, a_few, b_few);
        };
      }

  -- one field: it is read
  module _ (old n0 : List Entry) (block left i : ℕ) (high : left ≤ 6) (small : block < 14 - left) (r0 : Reply) (p0 : PerformedBy z 0 old n0 (Load (14 - left) block i) r0) where
    abbrev value : ℕ
    value = 14 - left

    value_few : value < 16
    value_few = omega (arith, high)

    module _ (root : Label) (p : List ℕ) (l : Label) (x : AtBlock z old root p l block left) (narrow : i < width_at p) where
      abbrev v : Value
      v = get_or x.fields i Nothing

      abbrev mid : List Entry
      mid = old ++ p0.between

      quiet_mid : OwnQuiet z 0 old mid
      quiet_mid f e since until own = let clash : true ≡ false = sym own ∙ other_between 0 old p0.between f e p0.others since until in cc

      legal_mid : Legal z mid
      legal_mid = legal_middle z 0 old n0 (Load (14 - left) block i) r0 p0

      there_mid : at (inside (graph_of z mid)) p (Block root) ≡ Some (Block l)
      there_mid = place_new z one old mid (prefix_more old p0.between) legal_mid quiet_mid root x.listed p ∙ x.there

      plain_mid : inside (graph_of z mid) (Block l) ≡ Some x.fields
      plain_mid = plain_new z one old mid (prefix_more old p0.between) legal_mid quiet_mid root x.listed p (Block l) x.there ∙ x.plain

      loaded : (graph_of z n0 ≡ graph_of z mid) × (registers_after z 0 n0 ≡ set (registers_after z 0 old) value v) × (r0 ≡ shown v)
      loaded =
          let n = plain_is (graph_of z mid) l x.fields plain_mid in
          let f = field_holds z mid root (listed_new z one old mid (prefix_more old p0.between) legal_mid quiet_mid root x.listed).map p l n.0 x.fields i there_mid n.1 narrow in
          load_step z 0 old n0 r0 (14 - left) block i p0 l n.0 x.fields v x.held n.1 f.1

      grows0 : IsPrefix old n0
      grows0 = step_grows z 0 old n0 (Load (14 - left) block i) r0 p0

      looks0 : LooksOnly z old n0 value
      looks0 = record {
        quiet = λ f e since until own.
            let is = at_the_end z root 0 old n0 (Load (14 - left) block i) r0 p0 f e since until own in
            subst (λ (w : List Entry × Entry). graph_of z (w.0 ++ w.1 ∷ []) ≡ graph_of z w.0) (λ t. (sym is.0 t, sym is.1 t)) (ap (graph_of z) (sym p0.appends) ∙ loaded.0);
        low = λ r few. set_other z 0 old n0 value v loaded.1 r (λ e. omega (arith, e, few));
      }

      held0 : held_in z n0 value ≡ v
      held0 = set_here z 0 old n0 value v loaded.1 (sixteen z 0 old n0 (Load (14 - left) block i) r0 p0 limits) value_few

      at_old : at (inside (graph_of z old)) (p ++ i ∷ []) (Block root) ≡ Some v
      at_old = at_more (graph_of z old) p (Block l) root x.fields i x.there x.plain

      deep_at : length (p ++ i ∷ []) + left ≡ way_length
      deep_at = let long = length-append p (i ∷ []) in let deep = x.deep in omega (arith, long, deep)

      -- a number that is exact at a later front lies between
      exact : (now new : List Entry) (count : ℕ) → IsPrefix old now → IsPrefix now new → Legal z new → LooksOnly z old now value → LooksOnly z now new value → count ≡ many_from z now left x.fields i → FieldCounted z old new x.fields left i count
      exact now new count g0 g1 legal looks more is =
          let legal_now = legal_before z now new g1 legal in
          let listed_now = listed_new z one old now g0 legal_now looks.quiet root x.listed in
          let earlier : many_from z now left x.fields i ≤ many_from z old left x.fields i = fewer_below z one old now g0 legal_now looks.quiet root x.listed left (p ++ i ∷ []) v deep_at at_old in
          let later : many_from z new left x.fields i ≤ many_from z now left x.fields i =
          fewer_below z one now new g1 legal more.quiet root listed_now left (p ++ i ∷ []) v deep_at (place_new z one old now g0 legal_now looks.quiet root x.listed (p ++ i ∷ []) ∙ at_old) in record {
            looks = looks_twice z old now new value g1 looks more;
            number = record { many = omega (arith, is, earlier); few = λ fits. omega (arith, is, later) };
          }

      -- nothing is bound where there is no block
      no_block : (IsBlock r0 → ⊥) → many_from z n0 left x.fields i ≡ 0
      no_block none = go v refl
        where
          go : (u : Value) → v ≡ u → many_from z n0 left x.fields i ≡ 0
          go (Int a) is = ap (λ (w : Value). length (bindings_below (graph_of z n0) left w)) is ∙ ap length (below_end (graph_of z n0) left (Int a) refl)
          go Nothing is = ap (λ (w : Value). length (bindings_below (graph_of z n0) left w)) is ∙ ap length (below_end (graph_of z n0) left Nothing refl)
          go (Block b) is = absurd (none (subst IsBlock (sym (loaded.2 ∙ ap shown is)) tt))

      -- the block that it holds
      block_is : IsBlock r0 → (b : Label) × (v ≡ Block b)
      block_is some = go v refl
        where
          go : (u : Value) → v ≡ u → (b : Label) × (v ≡ Block b)
          go (Int a) is = absurd (subst IsBlock (loaded.2 ∙ ap shown is) some)
          go Nothing is = absurd (subst IsBlock (loaded.2 ∙ ap shown is) some)
          go (Block b) is = (b, is)

    pub field_none : (IsBlock r0 → ⊥) → CountsField z old n0 block left i 0
    field_none none root p l x narrow = exact root p l x narrow n0 n0 0 (grows0 root p l x narrow) (prefix_same n0) p0.legal (looks0 root p l x narrow) (looks_none z n0 (14 - left)) (sym (no_block root p l x narrow none))

    -- and its key
    module _ (n1 : List Entry) (r1 : Reply) (some : IsBlock r0) (p1 : PerformedBy z 0 n0 n1 (GetKey (14 - left) (14 - left) 0) r1) where
      module _ (root : Label) (p : List ℕ) (l : Label) (x : AtBlock z old root p l block left) (narrow : i < width_at p) where
        abbrev mid1 : List Entry
        mid1 = n0 ++ p1.between

        b : Label
        b = (block_is root p l x narrow some).0

        is_b : get_or x.fields i Nothing ≡ Block b
        unfolding b
        is_b = (block_is root p l x narrow some).1

        to_mid1 : IsPrefix old mid1
        to_mid1 = prefix_trans old n0 mid1 (grows0 root p l x narrow) (prefix_more n0 p1.between)

        legal_mid1 : Legal z mid1
        legal_mid1 = legal_middle z 0 n0 n1 (GetKey (14 - left) (14 - left) 0) r1 p1

        quiet_mid1 : OwnQuiet z 0 old mid1
        quiet_mid1 = quiet_twice z old n0 mid1 (prefix_more n0 p1.between) (looks0 root p l x narrow).quiet
            (λ f e since until own. let clash : true ≡ false = sym own ∙ other_between 0 n0 p1.between f e p1.others since until in cc)

        at_mid1 : at (inside (graph_of z mid1)) (p ++ i ∷ []) (Block root) ≡ Some (Block b)
        at_mid1 = place_new z one old mid1 to_mid1 legal_mid1 quiet_mid1 root x.listed (p ++ i ∷ []) ∙ (at_old root p l x narrow ∙ ap Some is_b)

        held_b : held_in z n0 (14 - left) ≡ Block b
        held_b = held0 root p l x narrow ∙ is_b

        grows1 : IsPrefix old n1
        grows1 = prefix_trans old n0 n1 (grows0 root p l x narrow) (step_grows z 0 n0 n1 (GetKey (14 - left) (14 - left) 0) r1 p1)

        looks1 : graph_of z n1 ≡ graph_of z mid1 → ((r : ℕ) → r < 14 - left → held_in z n1 r ≡ held_in z n0 r) → LooksOnly z old n1 (14 - left)
        looks1 same low = looks_twice z old n0 n1 (14 - left) (step_grows z 0 n0 n1 (GetKey (14 - left) (14 - left) 0) r1 p1) (looks0 root p l x narrow) (record {
          quiet = λ f e since until own.
              let is = at_the_end z root 0 n0 n1 (GetKey (14 - left) (14 - left) 0) r1 p1 f e since until own in
              subst (λ (w : List Entry × Entry). graph_of z (w.0 ++ w.1 ∷ []) ≡ graph_of z w.0) (λ t. (sym is.0 t, sym is.1 t)) (ap (graph_of z) (sym p1.appends) ∙ same);
          low = low;
        })

        many_b : (h : List Entry) → many_from z h left x.fields i ≡ length (bindings_below (graph_of z h) left (Block b))
        many_b h = ap (λ (w : Value). length (bindings_below (graph_of z h) left w)) is_b

        -- a leaf, with its key or without, or a block of the map
        data Met : Type 0 where
          Leaf : (key : Option Label) (datum : Value) → LooksOnly z old n1 (14 - left) → r1 ≡ shown (key_value key) → many_from z n1 left x.fields i ≡ length (bound key datum) → Met
          Inner : (fields : List Value) → LooksOnly z old n1 (14 - left) → r1 ≡ reply.BadType → inside (graph_of z n1) (Block b) ≡ Some fields → held_in z n1 (14 - left) ≡ Block b → Met

        met : Met
        met = go (node_at (graph_of z mid1) b) refl ((listed_new z one old mid1 to_mid1 legal_mid1 quiet_mid1 root x.listed).map.slots (p ++ i ∷ []) (Block b) at_mid1)
          where
            leaf : (key : Option Label) (datum : Value) → node_at (graph_of z mid1) b ≡ Some (Ephe (key ∷ []) datum) → Met
            leaf key datum e =
                let t = get_key_step z 0 n0 n1 r1 (14 - left) (14 - left) p1 b key datum held_b e in
                let node : node_at (graph_of z n1) b ≡ Some (Ephe (key ∷ []) datum) = ap (λ (g : Graph). node_at g b) t.0 ∙ e in
                Leaf key datum (looks1 t.0 (λ r few. set_other z 0 n0 n1 (14 - left) (key_value key) t.1 r (λ e. omega (arith, e, few)))) t.2
                (many_b n1 ∙ ap length (below_end (graph_of z n1) left (Block b) (ap fields_of node) ∙ ap binding_of node))

            go : (o : Option Node) → node_at (graph_of z mid1) b ≡ o → is_leaf o ⊎ ((fields : List Value) × (fields_of o ≡ Some fields)) → Met
            go None e (inl is) = absurd is
            go None e (inr (fs, is)) = cc
            go (Some (Plain tag fields)) e slot =
                let t = get_key_plain_step z 0 n0 n1 r1 (14 - left) (14 - left) p1 b tag fields held_b e in
                Inner fields (looks1 t.0 (λ r few. same_held z 0 n0 n1 t.1 r)) t.2 (ap (λ (g : Graph). fields_of (node_at g b)) t.0 ∙ ap fields_of e) (same_held z 0 n0 n1 t.1 (14 - left) ∙ held_b)
            go (Some (Raw tag fields)) e (inl is) = absurd is
            go (Some (Raw tag fields)) e (inr (fs, is)) = cc
            go (Some (Ephe [] datum)) e (inl is) = absurd is
            go (Some (Ephe [] datum)) e (inr (fs, is)) = cc
            go (Some (Ephe (key ∷ []) datum)) e slot = leaf key datum e
            go (Some (Ephe (key ∷ key2 ∷ keys) datum)) e (inl is) = absurd is
            go (Some (Ephe (key ∷ key2 ∷ keys) datum)) e (inr (fs, is)) = cc

        exact1 : (count : ℕ) → LooksOnly z old n1 (14 - left) → count ≡ many_from z n1 left x.fields i → FieldCounted z old n1 x.fields left i count
        exact1 count looks is = exact root p l x narrow n1 n1 count grows1 (prefix_same n1) p1.legal looks (looks_none z n1 (14 - left)) is

      -- a leaf that has its key
      pub field_one : (r1 ≡ reply.BadType → ⊥) → (r1 ≡ reply.Empty → ⊥) → CountsField z old n1 block left i 1
      field_one other full root p l x narrow = go (met root p l x narrow)
        where
          go : Met root p l x narrow → FieldCounted z old n1 x.fields left i 1
          go (Leaf None datum looks is many) = absurd (full is)
          go (Leaf (Some k) datum looks is many) = exact1 root p l x narrow 1 looks (sym many)
          go (Inner fields looks is plain held) = absurd (other is)

      -- one that has lost it
      pub field_empty : r1 ≡ reply.Empty → CountsField z old n1 block left i 0
      field_empty empty root p l x narrow = go (met root p l x narrow)
        where
          go : Met root p l x narrow → FieldCounted z old n1 x.fields left i 0
          go (Leaf None datum looks is many) = exact1 root p l x narrow 0 looks (sym many)
          go (Leaf (Some k) datum looks is many) = let clash : reply.Block k ≡ reply.Empty = sym is ∙ empty in cc
          go (Inner fields looks is plain held) = let clash : reply.BadType ≡ reply.Empty = sym is ∙ empty in cc

      inner_of : r1 ≡ reply.BadType → (root : Label) (p : List ℕ) (l : Label) (x : AtBlock z old root p l block left) (narrow : i < width_at p)
          → (fields : List Value) × LooksOnly z old n1 (14 - left) × (inside (graph_of z n1) (Block (b root p l x narrow)) ≡ Some fields) × (held_in z n1 (14 - left) ≡ Block (b root p l x narrow))
      inner_of kind root p l x narrow = go (met root p l x narrow)
        where
          go : Met root p l x narrow → (fields : List Value) × LooksOnly z old n1 (14 - left) × (inside (graph_of z n1) (Block (b root p l x narrow)) ≡ Some fields) × (held_in z n1 (14 - left) ≡ Block (b root p l x narrow))
          go (Leaf None datum looks is many) = let clash : reply.Empty ≡ reply.BadType = sym is ∙ kind in cc
          go (Leaf (Some k) datum looks is many) = let clash : reply.Block k ≡ reply.BadType = sym is ∙ kind in cc
          go (Inner fields looks is plain held) = (fields, looks, plain, held)

      -- below the lowest block there is none
      pub field_low : left ≡ 0 → r1 ≡ reply.BadType → CountsField z old n1 block left i 0
      field_low none kind root p l x narrow =
          let inner = inner_of kind root p l x narrow in
          let listed = listed_new z one old n1 (grows1 root p l x narrow) p1.legal inner.1.quiet root x.listed in
          let there = place_new z one old n1 (grows1 root p l x narrow) p1.legal inner.1.quiet root x.listed (p ++ i ∷ []) ∙ (at_old root p l x narrow ∙ ap Some (is_b root p l x narrow)) in
          let low = listed.map.low (p ++ i ∷ []) (Block (b root p l x narrow)) inner.0 there inner.2 in
          let long = length-append p (i ∷ []) in
          let deep = x.deep in
          absurd (omega (arith, low, long, deep, none))

      -- a block of the map is counted itself
      pub field_deeper : (left ≡ 0 → ⊥) → r1 ≡ reply.BadType → (n2 : List Entry) (count : ℕ) → IsPrefix n1 n2 → Legal z n2 → CountsBlock z n1 n2 (14 - left) (left - 1) (width_of (left - 1)) count → CountsField z old n2 block left i count
      field_deeper some_left kind n2 count grows legal counts root p l x narrow =
          let inner = inner_of kind root p l x narrow in
          let legal1 : Legal z n1 = p1.legal in
          let listed = listed_new z one old n1 (grows1 root p l x narrow) legal1 inner.1.quiet root x.listed in
          let there = place_new z one old n1 (grows1 root p l x narrow) legal1 inner.1.quiet root x.listed (p ++ i ∷ []) ∙ (at_old root p l x narrow ∙ ap Some (is_b root p l x narrow)) in
          let long = length-append p (i ∷ []) in
          let deep = x.deep in
          let less : left - 1 + 1 ≡ left = positive left some_left in
          let at_inner : AtBlock z n1 root (p ++ i ∷ []) (b root p l x narrow) (14 - left) (left - 1) = record {
            listed = listed;
            deep = omega (arith, long, deep, less);
            there = there;
            fields = inner.0;
            plain = inner.2;
            held = inner.3;
          } in
          let c = counts root (p ++ i ∷ []) (b root p l x narrow) at_inner in
          let plain2 : inside (graph_of z n2) (Block (b root p l x narrow)) ≡ Some inner.0 = plain_new z one n1 n2 grows legal c.looks.quiet root listed (p ++ i ∷ []) (Block (b root p l x narrow)) there ∙ inner.2 in
          let wide : length inner.0 ≡ width_of (left - 1) = listed.map.wide (p ++ i ∷ []) (Block (b root p l x narrow)) inner.0 there inner.2 ∙ wide_at (p ++ i ∷ []) (left - 1) at_inner.deep in
          let all : take (width_of (left - 1)) inner.0 ≡ inner.0 = take_all (width_of (left - 1)) inner.0 (omega (arith, wide)) in
          let whole : (h : List Entry) → inside (graph_of z h) (Block (b root p l x narrow)) ≡ Some inner.0 → many_from z h left x.fields i ≡ many_in z h (left - 1) inner.0 (width_of (left - 1)) =
          (λ h plain.
          many_b root p l x narrow h
          ∙ (ap (λ (d : ℕ). length (bindings_below (graph_of z h) d (Block (b root p l x narrow)))) (sym less ∙ one_more (left - 1))
          ∙ (ap length (below_plain (graph_of z h) (left - 1) (Block (b root p l x narrow)) inner.0 plain) ∙ sym (ap (λ (xs : List Value). length (flat_map (bindings_below (graph_of z h) (left - 1)) xs)) all)))) in
          let earlier : many_from z n1 left x.fields i ≤ many_from z old left x.fields i = fewer_below z one old n1 (grows1 root p l x narrow) legal1 inner.1.quiet root x.listed left (p ++ i ∷ []) (get_or x.fields i Nothing) (deep_at root p l x narrow) (at_old root p l x narrow) in
          let at_start = whole n1 inner.2 in
          let at_end = whole n2 plain2 in
          let many = c.number.many in record {
            looks = looks_twice z old n1 n2 (14 - left) grows inner.1 (looks_fewer z n1 n2 (14 - (left - 1)) (14 - left) (omega (arith, less)) c.looks);
            number = record { many = omega (arith, many, at_start, earlier); few = λ fits. let few = c.number.few fits in omega (arith, few, at_end) };
          }
        where
          one_more : (m : ℕ) → m + 1 ≡ suc m
          one_more m = omega arith
