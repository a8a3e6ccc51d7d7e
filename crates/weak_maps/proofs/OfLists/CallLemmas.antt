-- What the calls on a map answer and leave, told of the list.
use Rattle.std.proofs.Common.{◌≡◌, ◌≢◌, ◌⊎◌, inl, inr, ⊎_elim, ℕ, zero, suc, ◌<◌, ◌≤◌, true, IsTrue, List, [], ◌∷◌, ◌++◌, length, get_or, set, Bool, is_some, Option, Some, None, refl, ap, sym, ◌∙◌, subst, arith, get_or-set_other}
use Rattle.std.proofs.lemmas.Bool.Decides.{leb_tells}
use Rattle.model_core.specs.declared.label.Label.{Label}
use Rattle.model_core.specs.declared.command.Command.TheVariants.{Forget}
use Rattle.model_core.specs.declared.entry.Entry.{Entry}
use Rattle.model_core.specs.declared.graph.Value.{Value}
use Rattle.model_core.specs.declared.graph.Value.TheVariants.{Int, Block, Nothing}
use Rattle.model_core.specs.declared.graph.Node.{Node}
use Rattle.model_core.specs.declared.graph.Node.TheVariants.{Plain, Raw, Ephe}
use Rattle.model_core.specs.declared.reply.Reply.{Reply}
use Rattle.model_core.specs.declared.reply.Reply.TheVariants as reply
use Rattle.model_core.specs.declared.state.Sizes.{Sizes}
use Rattle.model_core.specs.Graph.{has_label, node_at}
use Rattle.model_core.specs.Commands.{shown}
use Rattle.model_core.specs.Domains.{IsWithinLimits}
use Rattle.model_core.specs.History.{IsPrefix, Legal, is_entry_of}
use Rattle.weak_laws.specs.Tables.Structures.{datum_at, without}
use Rattle.weak_laws.specs.Tables.Thinning.{Thin, ThinnedBy, WasOutside}
use Rattle.weak_laws.specs.Tables.Stages.{Goes, graph_of, held_in}
use Rattle.weak_laws.proofs.OfTables.LookupLemmas.{without_unbound}
use Rattle.weak_laws.specs.Maps.Tries.{at, fields_of, inside, is_leaf, IsMap, IsInPlace}
use Rattle.weak_laws.specs.Maps.Steps.{IsThinned}
use Rattle.weak_laws.specs.Maps.Calls.{bound_after, ChangesOne, CleanAnswers, Gets, OwnKeep, PerformedBy, PutsOrFull, registers_after, TakeAnswers, value_of}
use Rattle.weak_laws.specs.Maps.Within.{OwnWithin}
use Rattle.weak_laws.proofs.OfMaps.CallLemmas.{forget_step, grows as step_grows}
use Rattle.weak_laws.proofs.OfMaps.FrontLemmas.{before_or_behind, last_or_before, prefix_more, prefix_same, prefix_trans}
use Rattle.weak_laws.proofs.OfMaps.MapLemmas.{at_same}
use Rattle.weak_laws.proofs.OfMaps.OwnLemmas.{at_the_end, keeps_twice}
use Rattle.weak_laws.proofs.OfMaps.TakeLemmas.{Left}
use Rattle.weak_laws.proofs.OfMaps.WithinLemmas.{within_twice}
use Rattle.weak_laws.proofs.OfMaps.WalkLemmas.{same_number}
use Rattle.weak_maps.specs.Cleans.{CleanLeaves}
use Rattle.weak_maps.specs.Returns.{GetLeaves, TakeLeaves}
use Rattle.weak_maps.specs.Walks.{OwnQuiet}
use Rattle.weak_maps.proofs.StayLemmas.{quiet_looks, within_quiet}
use Rattle.weak_laws.specs.Lists.Lists.{map_leaves}
use Rattle.weak_laws.proofs.OfLists.FoundLemmas.{listed_is_found}
use Rattle.weak_laws.proofs.OfLists.LabelLemmas.{leaf_stands}
use Rattle.weak_laws.proofs.OfLists.OrderLemmas.{lost_but_listed, lost_listed}
use Rattle.weak_maps.specs.Lists.Stretches.{bound_in, IsListed, IsSettled, KeepsLow, WritesMap}
use Rattle.weak_maps.specs.Lists.Answers.{ListCleans, ListGets, ListPuts, ListStays, ListTakeAnswers, IsTidyLeaf}
use Rattle.weak_maps.proofs.OfLists.AloneLemmas.{calm_behind, legal_before, registers_many, was_wider}
use Rattle.weak_maps.proofs.OfLists.StretchLemmas.{leaf_along, left_along, left_more, goes_listed, quiet_goes, reads_list, within_at, writes_map}

-- what a call that may write the map leaves
pub record Leaves (z : Sizes) (old mid : List Entry) (root : Label) : Type 0 where
  pub map : IsMap (graph_of z mid) root
  pub within : OwnWithin z root 0 old old mid
  pub low : (r : ℕ) → r < 8 → held_in z mid r ≡ held_in z old r
  pub high : (r : ℕ) → 8 ≤ r → held_in z old r ≡ Nothing → held_in z mid r ≡ Nothing

pub of_take : (z : Sizes) (old mid : List Entry) (root : Label) → TakeLeaves z 0 old mid root → Leaves z old mid root
of_take z old mid root leaves = record {
  map = leaves.map;
  within = leaves.within;
  low = λ r few. leaves.keeps r ((λ e. omega (arith, e, few)), (λ e. omega (arith, e, few)), (λ e. omega (arith, e, few)), (λ e. omega (arith, e, few)));
  high = λ r high none. ⊎_elim (λ used. leaves.clean r high used.1)
      (λ more. let above : 11 < r = more.1 in leaves.keeps r ((λ e. omega (arith, e, above)), (λ e. omega (arith, e, above)), (λ e. omega (arith, e, above)), (λ e. omega (arith, e, above))) ∙ none) (leb_tells r 11);
}

-- a register past the last holds nothing
pub past_end : (rs : List Value) (r : ℕ) → length rs ≤ r → get_or rs r Nothing ≡ Nothing
past_end [] r few = refl
past_end (v ∷ rs) zero few = absurd (omega (arith, few))
past_end (v ∷ rs) (suc r) few = past_end rs r (omega (arith, few))

pub of_clean : (z : Sizes) (limits : IsWithinLimits z) (one : z.domains ≡ 1) (old mid : List Entry) (root : Label) → Legal z mid → CleanLeaves z 0 old mid root → Leaves z old mid root
of_clean z limits one old mid root legal leaves = record {
  map = leaves.map;
  within = leaves.within;
  low = leaves.registers;
  high = λ r high none. ⊎_elim (λ used. leaves.clean r high (let few = used.1 in omega (arith, few)))
      (λ more. let above : 15 < r = more.1 in let sixteen = registers_many z one limits mid in past_end (registers_after z 0 mid) r (omega (arith, above, sixteen))) (leb_tells r 15);
}

-- a call of a map and then a register that is emptied
module _ (z : Sizes) (limits : IsWithinLimits z) (one : z.domains ≡ 1) (root : Label) (old mid new : List Entry) (grows : IsPrefix old mid) (listed : IsListed z old root) (done : Reply) (p : PerformedBy z 0 mid new (Forget 8) done) where
  ends : IsPrefix mid new
  ends = step_grows z 0 mid new (Forget 8) done p

  whole : IsPrefix old new
  whole = prefix_trans old mid new grows ends

  -- the last command writes no block
  pub last_quiet : OwnQuiet z 0 mid new
  last_quiet f e since until own =
      let is = at_the_end z root 0 mid new (Forget 8) done p f e since until own in
      subst (λ (w : List Entry × Entry). graph_of z (w.0 ++ w.1 ∷ []) ≡ graph_of z w.0) (λ i. (sym is.0 i, sym is.1 i)) (ap (graph_of z) (sym p.appends) ∙ (forget_step z 0 mid new done 8 p).0)

  last_goes : Goes z mid new []
  last_goes = quiet_goes z one mid new ends p.legal last_quiet

  -- nor a register but the one
  last_keeps : (r : ℕ) → r ≢ 8 → held_in z new r ≡ held_in z mid r
  last_keeps r other = ap (λ (rs : List Value). get_or rs r Nothing) (forget_step z 0 mid new done 8 p).1 ∙ get_or-set_other (registers_after z 0 mid) 8 r Nothing Nothing other

  last_empty : held_in z new 8 ≡ Nothing
  last_empty = ap (λ (rs : List Value). get_or rs 8 Nothing) (forget_step z 0 mid new done 8 p).1 ∙ emptied (registers_after z 0 mid) 8
    where
      emptied : (rs : List Value) (r : ℕ) → get_or (set rs r Nothing) r Nothing ≡ Nothing
      emptied [] r = refl
      emptied (v ∷ rs) zero = refl
      emptied (v ∷ rs) (suc r) = emptied rs r

  -- registers, by what the call leaves of them
  pub low_kept : ((r : ℕ) → r < 8 → held_in z mid r ≡ held_in z old r) → KeepsLow z old new
  low_kept kept r low = last_keeps r (λ e. omega (arith, e, low)) ∙ kept r low

  pub settled : ((r : ℕ) → 8 ≤ r → held_in z old r ≡ Nothing → held_in z mid r ≡ Nothing) → IsSettled z old new
  settled empties = record {
    high = λ r high none. ⊎_elim (λ is. ap (held_in z new) is ∙ last_empty) (λ other. last_keeps r other ∙ empties r high none) (is_eight r);
    calm = calm_behind z one limits mid new (Forget 8) done refl p;
  }
    where
      is_eight : (r : ℕ) → (r ≡ 8) ⊎ (r ≢ 8)
      is_eight r = same_number r 8

  -- of a call that may write the map
  module _ (leaves : Leaves z old mid root) where
    kept_low : KeepsLow z old new
    kept_low = low_kept leaves.low

    left_settled : IsSettled z old new
    left_settled = settled leaves.high

    all_within : OwnWithin z root 0 old old new
    all_within = within_twice z root 0 old old mid new ends leaves.within (within_quiet z root 0 old mid new last_quiet)

    map_at : (f : List Entry) → IsPrefix old f → IsPrefix f new → IsMap (graph_of z f) root
    map_at f since until = (within_at z one root old new whole p.legal all_within listed.map f since until).its_map

    -- each leaf stands on its way at the end
    placed_new : IsInPlace z.domains (graph_of z mid) root → IsInPlace z.domains (graph_of z new) root
    placed_new placed = (goes_listed z mid new root last_goes (record { map = leaves.map; placed = placed })).placed

    written : IsInPlace z.domains (graph_of z mid) root → WritesMap z old new root
    written placed = writes_map z one root old new whole p.legal all_within listed.map (placed_new placed)

    -- a key that the domain's entries leave from one front to another
    left_over : (a b : List Entry) → IsPrefix old a → IsPrefix a b → IsPrefix b new → (l : Label)
        → ((f : List Entry) (e : Entry) → IsPrefix a f → IsPrefix (f ++ e ∷ []) b → is_entry_of 0 e ≡ true → bound_after z root (f ++ e ∷ []) l ≡ bound_after z root f l)
        → Left (WasOutside z old new) l (bound_after z root a l) (bound_after z root b l)
    left_over a b since through until l keeps =
        left_more (WasOutside z a b) (WasOutside z old new) l (bound_after z root a l) (bound_after z root b l) (was_wider z old a b new since until l)
        (left_along z one root l a b through (legal_before z b new until p.legal) (λ f from to. map_at f (prefix_trans old a f since from) (prefix_trans f b new to until)) keeps)

    keeps_on : (a : List Entry) → OwnKeep z root 0 a mid → OwnKeep z root 0 a new
    keeps_on a keeps = keeps_twice z root 0 a mid new ends keeps (quiet_looks z root 0 mid new last_quiet).keeps

    -- nothing was changed
    stays_list : IsInPlace z.domains (graph_of z mid) root → OwnKeep z root 0 old mid → ListStays z old new root
    stays_list placed keeps = record {
      writes = written placed;
      keeps = kept_low;
      settled = left_settled;
      left = lost_listed z.domains (graph_of z old) (graph_of z new) root root listed.placed (placed_new placed) (WasOutside z old new) (λ l. left_over old new (prefix_same old) whole (prefix_same new) l (λ f e a b own. keeps_on old keeps f e a b own l));
    }

    -- one binding was
    module _ (placed : IsInPlace z.domains (graph_of z mid) root) (k : Label) (before after : Option Value) (x : ChangesOne z root 0 old mid k before after) where
      abbrev behind : List Entry
      behind = x.front ++ x.entry ∷ []

      to_behind : IsPrefix old behind
      to_behind = prefix_trans old x.front behind x.since (prefix_more x.front (x.entry ∷ []))

      from_behind : IsPrefix behind new
      from_behind = prefix_trans behind mid new x.until ends

      from_front : IsPrefix x.front new
      from_front = prefix_trans x.front behind new (prefix_more x.front (x.entry ∷ [])) from_behind

      last_kept : OwnKeep z root 0 behind new
      last_kept = keeps_on behind x.last

      other_kept : (l : Label) → l ≢ k → (f : List Entry) (e : Entry) → IsPrefix old f → IsPrefix (f ++ e ∷ []) new → is_entry_of 0 e ≡ true → bound_after z root (f ++ e ∷ []) l ≡ bound_after z root f l
      other_kept l other f e since until own = ⊎_elim early (λ late. last_kept f e late until own l) (before_or_behind behind new f e from_behind until)
        where
          early : IsPrefix (f ++ e ∷ []) behind → bound_after z root (f ++ e ∷ []) l ≡ bound_after z root f l
          early to = ⊎_elim (λ first. x.first f e since first own l) (λ is. subst (λ (w : List Entry × Entry). bound_after z root (w.0 ++ w.1 ∷ []) l ≡ bound_after z root w.0 l) (λ i. (sym is.0 i, sym is.1 i)) (x.others l other)) (last_or_before x.front x.entry f e to)

      rest_left : (l : Label) → l ≢ k → Left (WasOutside z old new) l (bound_after z root old l) (bound_after z root new l)
      rest_left l other = left_over old new (prefix_same old) whole (prefix_same new) l (other_kept l other)

      key_left : Left (WasOutside z old new) k after (bound_after z root new k)
      key_left = subst (λ (o : Option Value). Left (WasOutside z old new) k o (bound_after z root new k)) x.binds (left_over behind new to_behind from_behind (prefix_same new) k (λ f e a b own. last_kept f e a b own k))

      key_was : Left (WasOutside z old new) k (bound_after z root old k) before
      key_was = subst (Left (WasOutside z old new) k (bound_after z root old k)) x.was (left_over old x.front (prefix_same old) x.since from_front k (λ f e a b own. x.first f e a b own k))

      now_is : datum_at (bound_in z new root) k ≡ bound_after z root new k
      now_is = listed_is_found z.domains (graph_of z new) root (placed_new placed) k

      others_left : ThinnedBy (WasOutside z old new) (without k (bound_in z old root)) (without k (bound_in z new root))
      others_left = lost_but_listed z.domains (graph_of z old) (graph_of z new) root root listed.placed (placed_new placed) (WasOutside z old new) k rest_left

  pub put_list : (k : Label) (v : Value) (r : Reply) → PutsOrFull z root 0 old mid k v r → Leaves z old mid root → IsInPlace z.domains (graph_of z mid) root
      → ((r ≡ reply.Done) × ListPuts z old new root k v) ⊎ ((r ≡ reply.Full) × ListStays z old new root)
  put_list k v r (inl (is, (before, x))) leaves placed = inl (
    is,
    record {
      writes = written leaves placed;
      keeps = kept_low leaves;
      settled = left_settled leaves;
      left = others_left leaves placed k before (Some v) x;
      bound = λ held. now_is leaves placed k before (Some v) x ∙ ⊎_elim (λ same. same) (λ gone. absurd (held gone.0)) (key_left leaves placed k before (Some v) x);
    },
  )
  put_list k v r (inr (is, looks)) leaves placed = inr (is, stays_list leaves placed looks.keeps)

  pub take_list : (k : Label) (r : Reply) → TakeAnswers z root 0 old mid (Block k) r → Leaves z old mid root → IsInPlace z.domains (graph_of z mid) root → ListTakeAnswers z old new root (Some k) r
  take_list k r (inl (is, (was, x))) leaves placed = inl (
    is,
    record {
      writes = written leaves placed;
      keeps = kept_low leaves;
      settled = left_settled leaves;
      was = was;
      bound = listed_is_found z.domains (graph_of z old) root listed.placed k ∙ ⊎_elim (λ same. sym same) (λ gone. let clash : ◌≡◌ {A = Option Value} None (Some was) = sym gone.1 in cc) (key_was leaves placed k (Some was) None x);
      left = subst (ThinnedBy (WasOutside z old new) (without k (bound_in z old root))) (without_unbound k (bound_in z new root) none) (others_left leaves placed k (Some was) None x);
      none = none;
    },
  )
    where
      none : datum_at (bound_in z new root) k ≡ None
      none = now_is leaves placed k (Some was) None x ∙ ⊎_elim (λ same. same) (λ gone. gone.1) (key_left leaves placed k (Some was) None x)
  take_list k r (inr (is, g)) leaves placed = inr (is, stays_list leaves placed g.looks.keeps, none)
    where
      none : datum_at (bound_in z new root) k ≡ None
      none = listed_is_found z.domains (graph_of z new) root (placed_new leaves placed) k
          ∙ ⊎_elim (λ same. same ∙ g.bound) (λ gone. gone.1) (left_over leaves g.front new g.since (prefix_trans g.front mid new g.until ends) (prefix_same new) k (λ f e a b own. keeps_on leaves old g.looks.keeps f e (prefix_trans old g.front f g.since a) b own k))

  -- a lookup
  pub get_list : (k : Label) (dst : ℕ) (r : Reply) → dst < 8 → (datum : Option Value) → Gets z root 0 old mid k datum → r ≡ shown (value_of datum) → GetLeaves z 0 old mid root dst r → ListGets z old new root k dst r
  get_list k dst r low datum g is leaves = record {
    reads = reads_list z old new root (quiet_goes z one old new whole p.legal quiet) listed;
    keeps = λ i few other. last_keeps i (λ e. omega (arith, e, few)) ∙ leaves.keeps i (λ e. omega (arith, e, few)) other;
    settled = settled (λ i high none. ⊎_elim (λ eight. ap (held_in z mid) eight ∙ leaves.clean) (λ other. leaves.keeps i other (λ e. omega (arith, e, high, low)) ∙ none) (same_number i 8));
    front = g.front;
    before = reads_list z old g.front root (quiet_goes z one old g.front g.since (legal_before z g.front new to_end p.legal) (λ f e a b own. quiet f e a (prefix_trans (f ++ e ∷ []) g.front new b to_end) own)) listed;
    behind = reads_list z g.front new root (quiet_goes z one g.front new to_end p.legal (λ f e a b own. quiet f e (prefix_trans old g.front f g.since a) b own)) there;
    found = datum;
    bound = listed_is_found z.domains (graph_of z g.front) root there.placed k ∙ g.bound;
    answers = is;
    holds = last_keeps dst (λ e. omega (arith, e, low)) ∙ same_shown (held_in z mid dst) (value_of datum) (leaves.holds ∙ is);
  }
    where
      to_end : IsPrefix g.front new
      to_end = prefix_trans g.front mid new g.until ends

      quiet : OwnQuiet z 0 old new
      quiet f e since until own = ⊎_elim (λ early. leaves.quiet f e since early own) (λ late. last_quiet f e late until own) (before_or_behind mid new f e ends until)

      there : IsListed z g.front root
      there = goes_listed z old g.front root (quiet_goes z one old g.front g.since (legal_before z g.front new to_end p.legal) (λ f e a b own. quiet f e a (prefix_trans (f ++ e ∷ []) g.front new b to_end) own)) listed

      same_shown : (v w : Value) → shown v ≡ shown w → v ≡ w
      same_shown (Int a) (Int b) e = cc
      same_shown (Int a) (Block b) e = cc
      same_shown (Int a) Nothing e = cc
      same_shown (Block a) (Int b) e = cc
      same_shown (Block a) (Block b) e = cc
      same_shown (Block a) Nothing e = cc
      same_shown Nothing (Int b) e = cc
      same_shown Nothing (Block b) e = cc
      same_shown Nothing Nothing e = refl

  -- what a clean leaves
  pub clean_list : Leaves z old mid root → IsInPlace z.domains (graph_of z mid) root → (empty : Bool) → CleanAnswers z root 0 old mid empty → ListCleans z old new root
  clean_list leaves placed empty x = record { stays = stays_list leaves placed x.keeps; tidy = tidy }
    where
      there : IsListed z mid root
      there = record { map = leaves.map; placed = placed }

      thin : IsThinned (WasOutside z mid new) (graph_of z mid) (graph_of z new) root
      thin p l n here node = last_goes.changes l n node refl

      kept : (key : Option Label) (datum : Value) (o : Option Node) → IsTrue (is_some key) → Thin (WasOutside z old new) (Ephe (key ∷ []) datum) o → IsTidyLeaf o
      kept None datum o some left = cc
      kept (Some k) datum o some (inl same) = subst IsTidyLeaf (sym same) tt
      kept (Some k) datum o some (inr (j, is, gone, empty)) = subst IsTidyLeaf (sym empty) refl

      tidy : (l : Label) → IsTrue (has_label (map_leaves (graph_of z new) root) l) → IsTidyLeaf (node_at (graph_of z new) l)
      tidy l listed_leaf =
          let s = leaf_stands (graph_of z new) root l listed_leaf in
          let at_mid : at (inside (graph_of z mid)) s.0 (Block root) ≡ Some (Block l) = sym (at_same (WasOutside z mid new) (graph_of z mid) (graph_of z new) root leaves.map thin s.0) ∙ s.1 in
          let had = x.live s.0 l at_mid (leaf_before (node_at (graph_of z mid) l) refl s.2 (leaves.map.slots s.0 (Block l) at_mid)) in
          kept (Some had.key) had.datum (node_at (graph_of z new) l) refl (leaf_along z one root old new whole p.legal (all_within leaves) listed.map l (Some had.key) had.datum had.node)
        where
          leaf_before : (o : Option Node) → node_at (graph_of z mid) l ≡ o → is_leaf (node_at (graph_of z new) l) → is_leaf o ⊎ ((fields : List Value) × (fields_of o ≡ Some fields)) → is_leaf o
          leaf_before o e leaf (inl is) = is
          leaf_before None e leaf (inr (fields, is)) = cc
          leaf_before (Some (Plain tag fs)) e leaf (inr (fields, is)) = absurd (subst is_leaf (last_goes.changes l (Plain tag fs) e refl) leaf)
          leaf_before (Some (Raw tag fs)) e leaf (inr (fields, is)) = cc
          leaf_before (Some (Ephe keys datum)) e leaf (inr (fields, is)) = cc
