-- What `map_take` answers and leaves: the compare-and-set by which a binding goes.
use Rattle.std.proofs.Common.{◌≡◌, ◌≢◌, ◌⊎◌, inl, inr, ⊎_elim, ℕ, ◌+◌, ◌/◌, ◌%◌, ◌<◌, ◌≤◌, Bool, true, false, cond, List, [], ◌∷◌, ◌++◌, length, get_or, set, pos, Option, Some, None, refl, ap, sym, ◌∙◌, subst, arith, append_assoc, eq-eqb}
use Rattle.std.proofs.lemmas.Option.{slice_get-get_or}
use Rattle.model_core.specs.declared.label.Label.{Label}
use Rattle.model_core.specs.declared.command.Command.{Command}
use Rattle.model_core.specs.declared.command.Command.TheVariants.{PutInt, Copy, Forget, Load, Cas}
use Rattle.model_core.specs.declared.entry.Entry.{Entry}
use Rattle.model_core.specs.declared.entry.Entry.TheVariants.{Command as CommandOf}
use Rattle.model_core.specs.declared.reply.Reply.{Reply}
use Rattle.model_core.specs.declared.reply.Reply.TheVariants as reply
use Rattle.model_core.specs.declared.graph.Value.{Value}
use Rattle.model_core.specs.declared.graph.Value.TheVariants.{Int, Block, Nothing}
use Rattle.model_core.specs.declared.graph.Node.{Node}
use Rattle.model_core.specs.declared.graph.Node.TheVariants.{Plain, Raw, Ephe}
use Rattle.model_core.specs.declared.state.Sizes.{Sizes}
use Rattle.model_core.specs.declared.state.State.{State}
use Rattle.model_core.specs.Graph.{Graph, same_label, node_at, with_node}
use Rattle.model_core.specs.Domains.{IsWithinLimits, opening}
use Rattle.model_core.specs.Commands.{same_value}
use Rattle.model_core.specs.Entries.{next}
use Rattle.model_core.specs.Fronts.{Grew, shape_of, EpheShape, PlainShape}
use Rattle.model_core.specs.History.{IsPrefix, state_after}
use Rattle.model_core.proofs.Commands.FrameLemmas.{grew_after, grew_next, grew_same, label_cases}
use Rattle.model_core.proofs.Graphs.GraphLemmas.{same_label-true, same_label-false, same_label_refl, node_at-with_node_other}
use Rattle.model_core.proofs.Histories.HistoryLemmas.{state_after-push}
use Rattle.weak_laws.specs.Tables.Thinning.{IsOutside, Thin, state_of}
use Rattle.weak_laws.specs.Tables.Stages.{graph_of}
use Rattle.weak_laws.proofs.OfTables.ChangeLemmas.{thin_is}
use Rattle.weak_laws.proofs.OfTables.StageLemmas.{prefix_trans}
use Rattle.weak_laws.specs.Maps.Tries.{at, inside, fields_of, found, bound_by, bound_in, is_leaf, low_digits, number_of, root_width, way_to, IsMap}
use Rattle.weak_laws.specs.Maps.Steps.{Sets, SetsKey, OthersRespect, OwnRespect, RespectsMap, SparesLeaves}
use Rattle.weak_laws.specs.Maps.Calls.{ChangesOne, OwnKeep, PerformedBy, bound_after, registers_after}
use Rattle.weak_laws.proofs.OfMaps.CallLemmas.{cas_step, forget_step, put_step}
use Rattle.weak_laws.proofs.OfMaps.WalkLemmas.{same_number}
use Rattle.weak_laws.proofs.OfMaps.FrontLemmas.{before_or_behind}
use Rattle.weak_laws.proofs.OfMaps.MapLemmas.{map_stays}
use Rattle.weak_laws.proofs.OfMaps.SetLemmas.{set_binds}
use Rattle.weak_laws.specs.Maps.Within.{IsMadeBehind, OwnWithin}
use Rattle.weak_laws.proofs.OfMaps.WithinLemmas.{within_twice, within_written}
use Rattle.weak_maps.specs.Beside.{held_by}
use Rattle.weak_maps.specs.Walks.{HoldsLeaf, Looking, OwnQuiet}
use Rattle.weak_maps.specs.Fields.{AtField, Cleared, Finds, FoundBy, IsBeside, MapStays, Taking}
use Rattle.weak_maps.specs.Returns.{TakeReturns}
use Rattle.weak_maps.proofs.BesideLemmas.{left_is, low_beside, same_held, set_here, set_other, since_old, sixteen}
use Rattle.weak_maps.proofs.EntryLemmas.{own_entry}
use Rattle.weak_maps.proofs.FreshLemmas.{within_by}
use Rattle.weak_maps.proofs.StayLemmas.{leaf_middle, looking_from, looking_on, no_entry, prefix_same, quiet_looks, respects_within, stays_middle, stays_twice, within_quiet}
use Rattle.weak_maps.proofs.DescendLemmas.{at_one, plain_node, way_ends}
use Rattle.weak_maps.proofs.GetLemmas.{grows_by}
use Rattle.weak_maps.proofs.FieldLemmas.{field_again, field_begins, field_on}

-- blocks stay of their kind
grew_history : (s : State) (h : List Entry) → Grew s.graph (state_after s h).graph
grew_history s [] = grew_same s.graph s.graph refl
grew_history s (e ∷ h) = grew_after s.graph (next s e).graph (state_after (next s e) h).graph (grew_next s e) (grew_history (next s e) h)

after_both : (s : State) (a b : List Entry) → state_after s (a ++ b) ≡ state_after (state_after s a) b
after_both s [] b = refl
after_both s (e ∷ a) b = after_both (next s e) a b

grew_prefix : (z : Sizes) (former front : List Entry) → IsPrefix former front → Grew (graph_of z former) (graph_of z front)
grew_prefix z former front before = subst (λ (t : State). Grew (graph_of z former) t.graph) (sym (ap (state_of z) before.appends ∙ after_both (opening z) former before.rest)) (grew_history (state_of z former) before.rest)

-- what was a leaf is no plain block
not_plain : (z : Sizes) (former front : List Entry) → IsPrefix former front → (l : Label) → is_leaf (node_at (graph_of z former) l) → (tag : ℕ) (fields : List Value) → node_at (graph_of z front) l ≡ Some (Plain tag fields) → ⊥
not_plain z former front before l leaf tag fields plain = go (node_at (graph_of z former) l) refl leaf
  where
    go : (o : Option Node) → node_at (graph_of z former) l ≡ o → is_leaf o → ⊥
    go None e leaf = leaf
    go (Some (Plain t fs)) e leaf = leaf
    go (Some (Raw t fs)) e leaf = leaf
    go (Some (Ephe [] datum)) e leaf = leaf
    go (Some (Ephe (key ∷ other ∷ keys) datum)) e leaf = leaf
    go (Some (Ephe (key ∷ []) datum)) e leaf =
        let now = grew_prefix z former front before l (Ephe (key ∷ []) datum) e in
        let same : now.0 ≡ Plain tag fields = (let both : Some now.0 ≡ Some (Plain tag fields) = sym now.1 ∙ plain in cc) in
        let clash : PlainShape (length fields) tag ≡ EpheShape 1 = sym (ap shape_of same) ∙ now.2 in cc

-- two values that are the same where the second is a block
block_same : (v : Value) (l : Label) → same_value v (Block l) ≡ true → v ≡ Block l
block_same (Int i) l is = cc
block_same (Block j) l is = ap Block (same_label-true j l is)
block_same Nothing l is = cc

-- no entry of the domain stands between
quiet_middle : (z : Sizes) (d : ℕ) (first now new : List Entry) (c : Command) (r : Reply) (p : PerformedBy z d now new c r) → OwnQuiet z d first now → OwnQuiet z d first (now ++ p.between)
quiet_middle z d first now new c r p quiet front e since until mine =
    ⊎_elim (λ early. quiet front e since early mine)
    (λ is. absurd (no_entry (now ++ p.between) front e (subst (IsPrefix (now ++ p.between)) (sym is.0) (prefix_same (now ++ p.between))) until))
    (own_entry d now p.between (CommandOf d c p.full) front e p.others (prefix_trans (front ++ e ∷ []) (now ++ p.between) ((now ++ p.between) ++ CommandOf d c p.full ∷ []) until (record { rest = CommandOf d c p.full ∷ []; appends = refl })) mine)

module _ (z : Sizes) (limits : IsWithinLimits z) (root : Label) (d : ℕ) (first : List Entry) (k : Label) where
  -- a compare-and-set by which the leaf of a key is to be replaced by 0
  module _ (front now new : List Entry) (r : Reply) (i rest : ℕ) (s : Reply) (datum : Value) (kr : ℕ) (p : PerformedBy z d now new (Cas 8 i 9 10) r) (respects : OthersRespect z root d first new) (looking : Looking z root d first now)
      (x : AtField z d first front now root k i rest s) (leaf : HoldsLeaf z d now root k (Some datum) 9) (key : held_by z d now kr ≡ Block k) (ten : held_by z d now 10 ≡ Int (pos 0)) where
    abbrev c : Command
    c = Cas 8 i 9 10

    abbrev mid : List Entry
    mid = now ++ p.between

    abbrev entry : Entry
    entry = CommandOf d c p.full

    abbrev g : Graph
    g = graph_of z mid

    stay : MapStays z root front mid
    stay = stays_twice z root front now mid x.stays (stays_middle z root d first now new c r p respects looking.grows looking.map)

    moved : (at (inside g) x.p (Block root) ≡ Some (Block x.l)) × ((left : List Value) × (inside g (Block x.l) ≡ Some left))
    moved = stay.block x.p (Block x.l) x.fields x.there x.plain

    abbrev fields : List Value
    fields = moved.1.0

    node : (tag : ℕ) × (node_at g x.l ≡ Some (Plain tag fields))
    node = plain_node (node_at g x.l) fields moved.1.1

    below : i < length fields
    below = subst (λ (m : ℕ). i < m) (sym (stay.map.wide x.p (Block x.l) fields moved.0 moved.1.1)) x.narrow

    abbrev was : Value
    was = get_or fields i Nothing

    tells : node_at g leaf.l ≡ Some (Ephe (Some k ∷ []) datum)
    tells = leaf_middle z root d first now new c r p respects looking.grows k (Some datum) kr leaf.l leaf.former leaf.p leaf.before leaf.there leaf.leaf key leaf.tells

    abbrev h : Graph
    h = with_node g x.l (Plain node.0 (set fields i (Int (pos 0))))

    took : ((same_value was (Block leaf.l) ≡ true) × ((graph_of z new ≡ h) × (registers_after z d new ≡ registers_after z d now) × (r ≡ reply.Yes)))
        ⊎ ((same_value was (Block leaf.l) ≡ false) × ((graph_of z new ≡ g) × (registers_after z d new ≡ registers_after z d now) × (r ≡ reply.No)))
    took = cas_step z d now new r 8 i 9 10 p x.l node.0 fields (Block leaf.l) (Int (pos 0)) was x.held node.1 (slice_get-get_or fields i Nothing below) leaf.held (λ e. cc) ten (λ e. cc)

    -- where it is refused the walk stands where it stood
    pub cas_lost : (r ≡ reply.Yes → ⊥) → Looking z root d first new × AtField z d first front new root k i rest s × ((j : ℕ) → held_by z d new j ≡ held_by z d now j)
    cas_lost other = ⊎_elim (λ won. absurd (other won.1.2))
        (λ lost. (
          looking_on z root d first now new c r p lost.1.0 respects looking,
          field_on z limits root d first k front now new c r i rest s p lost.1.0 (same_held z d now new lost.1.1 8) (same_held z d now new lost.1.1 9) respects looking x,
          (λ j. same_held z d now new lost.1.1 j),
        ))
        took

    -- where it is made the key is unbound by it, and no other
    module _ (same : same_value was (Block leaf.l) ≡ true) (graph : graph_of z new ≡ h) where
      next_is : (next (state_of z mid) entry).graph ≡ h
      next_is = ap (λ (t : State). t.graph) (sym (left_is z d now new c r p)) ∙ graph

      way : way_to z.domains k ≡ (x.p ++ i ∷ []) ++ low_digits x.left rest
      way = x.way ∙ sym (append_assoc x.p (i ∷ []) (low_digits x.left rest))

      was_leaf : was ≡ Block leaf.l
      was_leaf = block_same was leaf.l same

      end : inside g (Block leaf.l) ≡ None
      end = ap fields_of tells

      binds_of : (l : Label) → bound_by g l (Block leaf.l) ≡ cond (same_label k l) (Some datum) None
      binds_of l = ap (bound_in l) tells

      sets : Sets z.domains g (next (state_of z mid) entry).graph root k (Int (pos 0))
      sets = record {
        p = x.p;
        i = i;
        q = low_digits x.left rest;
        way = x.way;
        held = Block leaf.l;
        writes = record { block = x.l; tag = node.0; fields = fields; there = moved.0; node = node.1; below = below; was = was_leaf; end = end; now = next_is };
        leaf = refl;
        slot = refl;
        alive = λ m was it dead. cc;
        mine = λ l other. (binds_of l ∙ ap (λ (b : Bool). cond b (Some datum) None) (same_label-false k l (λ e. other (sym e))), refl);
      }

      law : (found z.domains (next (state_of z mid) entry).graph root k ≡ None) × ((l : Label) → l ≢ k → found z.domains (next (state_of z mid) entry).graph root l ≡ found z.domains g root l)
      law = set_binds z.domains g (next (state_of z mid) entry).graph root k (Int (pos 0)) stay.map sets

      spares : SparesLeaves z root mid entry
      spares former q l n before there leaf_then is =
          let other : (o : Option Node) → node_at (next (state_of z mid) entry).graph l ≡ o → o ≡ Some n → Thin (IsOutside (state_of z mid)) n (node_at (next (state_of z mid) entry).graph l) = λ o e f. thin_is (IsOutside (state_of z mid)) n (node_at (next (state_of z mid) entry).graph l) (e ∙ f) in
          label_cases (Thin (IsOutside (state_of z mid)) n (node_at (next (state_of z mid) entry).graph l)) l x.l
          (λ e. absurd (not_plain z former mid before l leaf_then node.0 fields (ap (node_at g) e ∙ node.1)))
          (λ differ. other (node_at g l) (ap (λ (m : Graph). node_at m l) next_is ∙ node_at-with_node_other g x.l l (Plain node.0 (set fields i (Int (pos 0)))) differ) is)

      respects_entry : RespectsMap z root mid entry
      respects_entry = record { step = SetsKey k (Int (pos 0)) sets; leaves = spares }

      map_new : IsMap (graph_of z new) root
      map_new = subst (λ (t : State). IsMap t.graph root) (sym (left_is z d now new c r p)) (map_stays z.domains root (state_of z mid) entry stay.map (SetsKey k (Int (pos 0)) sets))

      bound_was : bound_after z root mid k ≡ Some datum
      bound_was = way_ends z.domains g root k (x.p ++ i ∷ []) (low_digits x.left rest) (Block leaf.l) way (at_one (inside g) x.p i (Block root) (Block x.l) fields moved.0 moved.1.1 ∙ ap Some was_leaf) end
          ∙ (binds_of k ∙ ap (λ (b : Bool). cond b (Some datum) None) (same_label_refl k))

      pushed : graph_of z (mid ++ entry ∷ []) ≡ (next (state_of z mid) entry).graph
      pushed = ap (λ (t : State). t.graph) (state_after-push (opening z) mid entry)

      within : (base : List Entry) → OwnWithin z root d base now new
      unfolding sets
      within base = within_by z d root now new c r p base (within_written (IsMadeBehind z d base) g (next (state_of z mid) entry).graph root x.p i (Block leaf.l) (Int (pos 0)) sets.writes stay.map
          (map_stays z.domains root (state_of z mid) entry stay.map (SetsKey k (Int (pos 0)) sets)) refl (λ m same. cc))

      -- and what follows changes nothing
      changes : (last : List Entry) → Looking z root d new last → ChangesOne z root d first last k (Some datum) None
      changes last after = record {
        front = mid;
        entry = entry;
        since = prefix_trans first now mid looking.grows (since_old z d now new c r p);
        until = subst (λ (w : List Entry). IsPrefix w last) p.appends after.grows;
        own = eq-eqb d d refl;
        was = bound_was;
        binds = ap (λ (m : Graph). found z.domains m root k) pushed ∙ law.0;
        others = λ l other. ap (λ (m : Graph). found z.domains m root l) pushed ∙ law.1 l other;
        first = (quiet_looks z root d first mid (quiet_middle z d first now new c r p looking.quiet)).keeps;
        last = subst (λ (w : List Entry). OwnKeep z root d w last) p.appends (quiet_looks z root d new last after.quiet).keeps;
        respects = λ front2 e since until mine.
            ⊎_elim
            (λ within. ⊎_elim (λ early. (quiet_looks z root d first now looking.quiet).respects front2 e since early mine)
            (λ is. subst (λ (w : List Entry × Entry). RespectsMap z root w.0 w.1) (λ j. (sym is.0 j, sym is.1 j)) respects_entry)
            (own_entry d now p.between entry front2 e p.others (subst (IsPrefix (front2 ++ e ∷ [])) p.appends within) mine))
            (λ behind. (quiet_looks z root d new last after.quiet).respects front2 e behind until mine)
            (before_or_behind new last front2 e after.grows until);
      }

    -- either way it respects the map
    pub cas_respects : OwnRespect z root d first new
    cas_respects = ⊎_elim (λ won. (changes won.0 won.1.0 new (looking_from z root d new (map_new won.0 won.1.0))).respects) (λ lost. (quiet_looks z root d first new (looking_on z root d first now new c r p lost.1.0 respects looking).quiet).respects) took

    pub cas_won : r ≡ reply.Yes → IsMap (graph_of z new) root × ((last : List Entry) → Looking z root d new last → ChangesOne z root d first last k (Some datum) None) × ((j : ℕ) → held_by z d new j ≡ held_by z d now j)
        × ((base : List Entry) → OwnWithin z root d base now new)
    cas_won is = ⊎_elim (λ won. (map_new won.0 won.1.0, changes won.0 won.1.0, (λ j. same_held z d now new won.1.1 j), within won.0 won.1.0))
        (λ lost. let clash : reply.No ≡ reply.Yes = sym lost.1.2 ∙ is in cc) took

  -- the registers between are emptied
  module _ (base now new : List Entry) (x : Cleared z d now new) (respects : OthersRespect z root d base new) (looking : Looking z root d base now) where
    eight : (graph_of z x.first ≡ graph_of z (now ++ x.eight.between)) × (registers_after z d x.first ≡ set (registers_after z d now) 8 Nothing) × (x.eight_reply ≡ reply.Done)
    eight = forget_step z d now x.first x.eight_reply 8 x.eight

    nine : (graph_of z x.second ≡ graph_of z (x.first ++ x.nine.between)) × (registers_after z d x.second ≡ set (registers_after z d x.first) 9 Nothing) × (x.nine_reply ≡ reply.Done)
    nine = forget_step z d x.first x.second x.nine_reply 9 x.nine

    ten : (graph_of z x.third ≡ graph_of z (x.second ++ x.ten.between)) × (registers_after z d x.third ≡ set (registers_after z d x.second) 10 Nothing) × (x.ten_reply ≡ reply.Done)
    ten = forget_step z d x.second x.third x.ten_reply 10 x.ten

    eleven : (graph_of z new ≡ graph_of z (x.third ++ x.eleven.between)) × (registers_after z d new ≡ set (registers_after z d x.third) 11 Nothing) × (x.eleven_reply ≡ reply.Done)
    eleven = forget_step z d x.third new x.eleven_reply 11 x.eleven

    after_third : IsPrefix x.third new
    after_third = grows_by z d x.third new (Forget 11) x.eleven_reply x.eleven

    after_second : IsPrefix x.second new
    after_second = prefix_trans x.second x.third new (grows_by z d x.second x.third (Forget 10) x.ten_reply x.ten) after_third

    after_first : IsPrefix x.first new
    after_first = prefix_trans x.first x.second new (grows_by z d x.first x.second (Forget 9) x.nine_reply x.nine) after_second

    pub cleared_looking : Looking z root d base new
    cleared_looking =
        looking_on z root d base x.third new (Forget 11) x.eleven_reply x.eleven eleven.0 respects
        (looking_on z root d base x.second x.third (Forget 10) x.ten_reply x.ten ten.0 (respects_within z root d base new base x.third (prefix_same base) after_third respects)
        (looking_on z root d base x.first x.second (Forget 9) x.nine_reply x.nine nine.0 (respects_within z root d base new base x.second (prefix_same base) after_second respects)
        (looking_on z root d base now x.first (Forget 8) x.eight_reply x.eight eight.0 (respects_within z root d base new base x.first (prefix_same base) after_first respects) looking)))

    pub cleared_keeps : (j : ℕ) → IsBeside j → held_by z d new j ≡ held_by z d now j
    cleared_keeps j beside =
        set_other z d x.third new 11 Nothing eleven.1 j beside.3
        ∙ (set_other z d x.second x.third 10 Nothing ten.1 j beside.2
        ∙ (set_other z d x.first x.second 9 Nothing nine.1 j beside.1
        ∙ set_other z d now x.first 8 Nothing eight.1 j beside.0))

    last_empty : held_by z d new 11 ≡ Nothing
    last_empty = set_here z d x.third new 11 Nothing eleven.1 (sixteen z d x.third new (Forget 11) x.eleven_reply x.eleven limits) (omega arith)

    ten_empty : held_by z d new 10 ≡ Nothing
    ten_empty = set_other z d x.third new 11 Nothing eleven.1 10 (λ e. absurd (omega (arith, e))) ∙ set_here z d x.second x.third 10 Nothing ten.1 (sixteen z d x.second x.third (Forget 10) x.ten_reply x.ten limits) (omega arith)

    nine_empty : held_by z d new 9 ≡ Nothing
    nine_empty = set_other z d x.third new 11 Nothing eleven.1 9 (λ e. absurd (omega (arith, e)))
        ∙ (set_other z d x.second x.third 10 Nothing ten.1 9 (λ e. absurd (omega (arith, e))) ∙ set_here z d x.first x.second 9 Nothing nine.1 (sixteen z d x.first x.second (Forget 9) x.nine_reply x.nine limits) (omega arith))

    eight_empty : held_by z d new 8 ≡ Nothing
    eight_empty = set_other z d x.third new 11 Nothing eleven.1 8 (λ e. absurd (omega (arith, e)))
        ∙ (set_other z d x.second x.third 10 Nothing ten.1 8 (λ e. absurd (omega (arith, e)))
        ∙ (set_other z d x.first x.second 9 Nothing nine.1 8 (λ e. absurd (omega (arith, e))) ∙ set_here z d now x.first 8 Nothing eight.1 (sixteen z d now x.first (Forget 8) x.eight_reply x.eight limits) (omega arith)))

    pub cleared_clean : (j : ℕ) → 8 ≤ j → j ≤ 11 → held_by z d new j ≡ Nothing
    cleared_clean j low high = ⊎_elim (λ e. subst (λ (m : ℕ). held_by z d new m ≡ Nothing) (sym e) eight_empty)
        (λ more. ⊎_elim (λ e. subst (λ (m : ℕ). held_by z d new m ≡ Nothing) (sym e) nine_empty)
        (λ later. ⊎_elim (λ e. subst (λ (m : ℕ). held_by z d new m ≡ Nothing) (sym e) ten_empty) (λ last. subst (λ (m : ℕ). held_by z d new m ≡ Nothing) (sym (omega (arith, high, last))) last_empty) (next_or 10 j later)) (next_or 9 j more)) (next_or 8 j low)
      where
        next_or : (a b : ℕ) → a ≤ b → (b ≡ a) ⊎ (a + 1 ≤ b)
        next_or a b le = ⊎_elim (λ e. inl e) (λ other. inr (grind (arith, le, other))) (same_number b a)

module _ (z : Sizes) (limits : IsWithinLimits z) (root : Label) (d : ℕ) (old : List Entry) (k : Label) where
  pub take_begins : (n0 n1 new : List Entry) (r0 r1 r2 : Reply) (map : ℕ) → map < 8 → IsMap (graph_of z old) root → held_by z d old map ≡ Block root → PerformedBy z d old n0 (PutInt 10 (pos 0)) r0 → PerformedBy z d n0 n1 (Copy 8 map) r1
      → PerformedBy z d n1 new (Load 9 8 (number_of z.domains k % root_width)) r2 → OthersRespect z root d old new → Taking z d old new root k (number_of z.domains k % root_width) (number_of z.domains k / root_width) r2
  take_begins n0 n1 new r0 r1 r2 map few is_map holds p0 p1 p2 respects =
      let g2 = grows_by z d n1 new (Load 9 8 (number_of z.domains k % root_width)) r2 p2 in
      let g1 = prefix_trans n0 n1 new (grows_by z d n0 n1 (Copy 8 map) r1 p1) g2 in
      let e0 = respects_within z root d old new old n0 (prefix_same old) g1 respects in
      let e1 = respects_within z root d old new old n1 (prefix_same old) g2 respects in
      let all = put_step z d old n0 r0 10 (pos 0) p0 in
      let looking = looking_on z root d old old n0 (PutInt 10 (pos 0)) r0 p0 all.0 e0 (looking_from z root d old is_map) in
      let there : held_by z d n0 map ≡ Block root = set_other z d old n0 10 (Int (pos 0)) all.1 map (λ e. absurd (omega (arith, few, e))) ∙ holds in
      let y = field_begins z limits root d old k n0 n1 new r1 r2 map there p1 p2 e1 respects looking in record {
        looking = y.0;
        field = y.1;
        keeps = λ j beside. y.2 j beside.0 beside.1 ∙ set_other z d old n0 10 (Int (pos 0)) all.1 j beside.2;
        ten = y.2 10 (λ e. absurd (omega (arith, e))) (λ e. absurd (omega (arith, e))) ∙ set_here z d old n0 10 (Int (pos 0)) all.1 (sixteen z d old n0 (PutInt 10 (pos 0)) r0 p0 limits) (omega arith);
      }

  module _ (kr : ℕ) (few : kr < 8) (key : held_by z d old kr ≡ Block k) where
    -- what a walk finds from there
    pub found_from : (now n0 : List Entry) (i rest i2 rest2 : ℕ) (s : Reply) (mine : Bool) → Finds z d now n0 kr k i rest s i2 rest2 mine → (OthersRespect z root d old now → Taking z d old now root k i rest s) → IsPrefix now n0 → OthersRespect z root d old n0
        → Looking z root d old n0 × ((j : ℕ) → IsBeside j → held_by z d n0 j ≡ held_by z d old j) × (held_by z d n0 10 ≡ Int (pos 0)) × FoundBy z d old n0 root k i2 rest2 mine
    found_from now n0 i rest i2 rest2 s mine finds taking grows respects =
        let t = taking (respects_within z root d old n0 old now (prefix_same old) grows respects) in
        let f = finds old root (t.keeps kr (low_beside kr few) ∙ key) t.looking t.field respects in (
          f.0,
          (λ j beside. f.1 j beside.0 beside.1 beside.3 ∙ t.keeps j beside),
          f.1 10 (λ e. absurd (omega (arith, e))) (λ e. absurd (omega (arith, e))) (λ e. absurd (omega (arith, e))) ∙ t.ten,
          f.2,
        )

    -- the exchange respects the map, if others did up to it
    pub take_guards : (now n0 n1 : List Entry) (i rest i2 rest2 : ℕ) (s r : Reply) → Finds z d now n0 kr k i rest s i2 rest2 true → (OthersRespect z root d old now → Taking z d old now root k i rest s) → IsPrefix now n0 → PerformedBy z d n0 n1 (Cas 8 i2 9 10) r → OthersRespect z root d old n1 → OwnRespect z root d old n1
    take_guards now n0 n1 i rest i2 rest2 s r finds taking grows p respects =
        let f = found_from now n0 i rest i2 rest2 s true finds taking grows (respects_within z root d old n1 old n0 (prefix_same old) (grows_by z d n0 n1 (Cas 8 i2 9 10) r p) respects) in
        let m = f.3 in
        cas_respects z limits root d old k m.front n0 n1 r i2 rest2 m.shows m.datum kr p respects f.0 m.field m.leaf (f.1 kr (low_beside kr few) ∙ key) f.2

    pub take_missed : (now n0 new : List Entry) (i rest i2 rest2 : ℕ) (s : Reply) → Finds z d now n0 kr k i rest s i2 rest2 false → (OthersRespect z root d old now → Taking z d old now root k i rest s) → IsPrefix now n0 → Cleared z d n0 new → IsPrefix n0 new → OthersRespect z root d old new
        → TakeReturns z d old new root (Block k) reply.Empty
    take_missed now n0 new i rest i2 rest2 s finds taking grows x later respects =
        let f = found_from now n0 i rest i2 rest2 s false finds taking grows (respects_within z root d old new old n0 (prefix_same old) later respects) in
        let looking = cleared_looking z limits root d old k old n0 new x respects f.0 in (
          inr (refl, record { looks = quiet_looks z root d old new looking.quiet; front = f.3.front; since = f.3.since; until = prefix_trans f.3.front n0 new f.3.until later; bound = f.3.bound }),
          record { map = looking.map; within = within_quiet z root d old old new looking.quiet; clean = cleared_clean z limits root d old k old n0 new x respects f.0; keeps = λ j small. cleared_keeps z limits root d old k old n0 new x respects f.0 j small ∙ f.1 j small },
        )

    pub take_done : (now n0 n1 new : List Entry) (i rest i2 rest2 : ℕ) (s r : Reply) → Finds z d now n0 kr k i rest s i2 rest2 true → (OthersRespect z root d old now → Taking z d old now root k i rest s) → IsPrefix now n0 → PerformedBy z d n0 n1 (Cas 8 i2 9 10) r → r ≡ reply.Yes → Cleared z d n1 new → IsPrefix n1 new
        → OthersRespect z root d old new → TakeReturns z d old new root (Block k) reply.Done
    take_done now n0 n1 new i rest i2 rest2 s r finds taking grows p is x later respects =
        let g1 = grows_by z d n0 n1 (Cas 8 i2 9 10) r p in
        let e1 = respects_within z root d old new old n1 (prefix_same old) later respects in
        let f = found_from now n0 i rest i2 rest2 s true finds taking grows (respects_within z root d old new old n0 (prefix_same old) (prefix_trans n0 n1 new g1 later) respects) in
        let m = f.3 in
        let won = cas_won z limits root d old k m.front n0 n1 r i2 rest2 m.shows m.datum kr p e1 f.0 m.field m.leaf (f.1 kr (low_beside kr few) ∙ key) f.2 is in
        let tail = respects_within z root d old new n1 new (prefix_trans old n0 n1 f.0.grows g1) (prefix_same new) respects in
        let from = looking_from z root d n1 won.0 in
        let looking = cleared_looking z limits root d old k n1 n1 new x tail from in (
          inl (refl, (m.datum, won.1 new looking)),
          record { map = looking.map; within = within_twice z root d old old n0 new (prefix_trans n0 n1 new g1 later) (within_quiet z root d old old n0 f.0.quiet) (within_twice z root d old n0 n1 new later (won.3 old) (within_quiet z root d old n1 new looking.quiet)); clean = cleared_clean z limits root d old k n1 n1 new x tail from; keeps = λ j small. cleared_keeps z limits root d old k n1 n1 new x tail from j small ∙ (won.2 j ∙ f.1 j small) },
        )

    pub take_again : (now n0 n1 new : List Entry) (i rest i2 rest2 : ℕ) (s r r2 : Reply) → Finds z d now n0 kr k i rest s i2 rest2 true → (OthersRespect z root d old now → Taking z d old now root k i rest s) → IsPrefix now n0 → PerformedBy z d n0 n1 (Cas 8 i2 9 10) r → (r ≡ reply.Yes → ⊥) → PerformedBy z d n1 new (Load 9 8 i2) r2
        → OthersRespect z root d old new → Taking z d old new root k i2 rest2 r2
    take_again now n0 n1 new i rest i2 rest2 s r r2 finds taking grows p other p2 respects =
        let g2 = grows_by z d n1 new (Load 9 8 i2) r2 p2 in
        let g1 = prefix_trans n0 n1 new (grows_by z d n0 n1 (Cas 8 i2 9 10) r p) g2 in
        let e1 = respects_within z root d old new old n1 (prefix_same old) g2 respects in
        let f = found_from now n0 i rest i2 rest2 s true finds taking grows (respects_within z root d old new old n0 (prefix_same old) g1 respects) in
        let m = f.3 in
        let lost = cas_lost z limits root d old k m.front n0 n1 r i2 rest2 m.shows m.datum kr p e1 f.0 m.field m.leaf (f.1 kr (low_beside kr few) ∙ key) f.2 other in
        let y = field_again z limits root d old k m.front n1 new r2 i2 rest2 m.shows lost.1 p2 respects lost.0 in record {
          looking = y.0;
          field = y.1;
          keeps = λ j beside. y.2 j beside.1 ∙ (lost.2 j ∙ f.1 j beside);
          ten = y.2 10 (λ e. absurd (omega (arith, e))) ∙ (lost.2 10 ∙ f.2);
        }

pub not_taken : (z : Sizes) (d : ℕ) (old : List Entry) (root : Label) (v : Value) → ((k : Label) → v ≡ Block k → ⊥) → TakeReturns z d old old root v reply.BadType
not_taken z d old root (Int i) none = (refl, refl)
not_taken z d old root (Block l) none = absurd (none l refl)
not_taken z d old root Nothing none = (refl, refl)

pub cleared_grows : (z : Sizes) (d : ℕ) (now new : List Entry) → Cleared z d now new → IsPrefix now new
cleared_grows z d now new x =
    prefix_trans now x.first new (grows_by z d now x.first (Forget 8) x.eight_reply x.eight)
    (prefix_trans x.first x.second new (grows_by z d x.first x.second (Forget 9) x.nine_reply x.nine)
    (prefix_trans x.second x.third new (grows_by z d x.second x.third (Forget 10) x.ten_reply x.ten) (grows_by z d x.third new (Forget 11) x.eleven_reply x.eleven)))
