-- What is known of a cycle that was under way is kept by a darkening and by a scan, and gives at the end that the marked blocks are closed.
use Rattle.std.proofs.Common.{◌≡◌, ◌⊎◌, ⊎_elim, ℕ, Bool, false, not, ◌||◌, IsTrue, List, set, Option, Some, None, refl, ap, sym, ◌∙◌, subst}
use Rattle.model_core.specs.declared.label.Label.{Label}
use Rattle.model_core.specs.declared.graph.Value.TheVariants.{Block}
use Rattle.model_core.specs.declared.graph.Node.{Node}
use Rattle.model_core.specs.declared.graph.Node.TheVariants.{Plain, Raw, Ephe}
use Rattle.model_core.specs.Graph.{Graph, labels, has_label, same_label, label_of, node_at}
use Rattle.model_core.specs.Reach.{HoldsRoots, IsClosedUnder}
use Rattle.model_core.specs.WellFormed.{names_of}
use Rattle.model_core.proofs.Reach.ReachLemmas.{is_false, not_true, or_cases, or_left, or_right, and_left, and_right, true_or_false}
use Rattle.model_core.proofs.Graphs.GraphLemmas.{same_label-true, same_label_refl}
use Rattle.model_core.proofs.Histories.NumberLemmas.{node_at-no_label}
use Rattle.model_cycle.specs.Marks.{darkened, with_scanned, fields_of, FieldsMarked, NoneGrey, DataFollows}
use Rattle.model_cycle.specs.Cover.{field_in, field_at, is_new, InCover, Covering, IsCovered}
use Rattle.model_cycle.proofs.DomainParts.{listed_at, listed_cases, is_block}
use Rattle.model_cycle.proofs.Tracing.{More, darkened_more, darkened_cases, edges_hold}

-- what is covered stays so as more is marked
module _ (old : Graph) (marked : Label → Bool) where
  pub cover_more : (other : Label → Bool) → More marked other → (l : Label) → InCover old marked l → InCover old other l
  cover_more other more l cover set m n c = cover set (λ x h. m x (more x h)) n c

-- the fields of a graph
new_or_old : (old : Graph) (l : Label) → IsTrue (is_new old l) ⊎ (is_new old l ≡ false)
new_or_old old l = true_or_false (is_new old l)

no_old_field : (old : Graph) (l : Label) (i : ℕ) (x : Label) → IsTrue (is_new old l) → field_at old l i ≡ Some (Block x) → ⊥
no_old_field old l i x new at =
    let none : node_at old l ≡ None = node_at-no_label old l (is_false (has_label (labels old) l) new) in
    let clash : field_in None i ≡ Some (Block x) = subst (λ o. field_in o i ≡ Some (Block x)) none at in cc

-- a field whose present label is marked, or that was stored into, had a marked label
pub field_done : (v : Covering) → IsCovered v → (l : Label) (i : ℕ) → ((x : Label) → field_at v.now l i ≡ Some (Block x) → IsTrue (v.marks.marked x))
    → (x : Label) → field_at v.old l i ≡ Some (Block x) → IsTrue (v.marks.marked x)
field_done v c l i now x at = ⊎_elim
    (λ new. absurd (no_old_field v.old l i x new at))
    (λ old. ⊎_elim
    (λ lost. c.lost l i x lost at)
    (λ kept. now x (c.same l i old kept ∙ at))
    (true_or_false (v.overwritten l i)))
    (new_or_old v.old l)

-- a darkening
pub cover_darkens : (v : Covering) → IsCovered v → (l : Label) → IsTrue (v.places l) → IsCovered (record v { marks = darkened v.marks l })
cover_darkens v c l place = record {
  same = c.same;
  scanned = λ k i x marked scanned at. ⊎_elim
      (λ here. absurd (not_true (same_label l k) (and_left (not (same_label l k)) (v.marks.scanned k) scanned) (subst (λ z. IsTrue (same_label l z)) here (same_label_refl l))))
      (λ was. more x (c.scanned k i x was (and_right (not (same_label l k)) (v.marks.scanned k) scanned) at))
      (darkened_cases v.marks l k marked);
  lost = λ k i x over at. more x (c.lost k i x over at);
  held = λ k h. wider k (c.held k h);
  new_fields = λ k i x new at. wider x (c.new_fields k i x new at);
  stored = λ k i x over at. wider x (c.stored k i x over at);
  new_marked = λ k h new. more k (c.new_marked k h new);
  placed = λ k h. ⊎_elim (λ here. subst (λ z. IsTrue (v.places z)) here place) (λ was. c.placed k was) (darkened_cases v.marks l k h);
}
  where
    more : More v.marks.marked (darkened v.marks l).marked
    more = darkened_more v.marks l

    wider : (x : Label) → InCover v.old v.marks.marked x → InCover v.old (darkened v.marks l).marked x
    wider = cover_more v.old v.marks.marked (darkened v.marks l).marked (darkened_more v.marks l)

-- a label in a field is one of the block's
pub field_listed : (o : Option Node) (i : ℕ) (x : Label) → field_in o i ≡ Some (Block x) → IsTrue (has_label (fields_of o) x)
field_listed None i x at = cc
field_listed (Some (Raw tag fields)) i x at = cc
field_listed (Some (Ephe keys datum)) i x at = cc
field_listed (Some (Plain tag fields)) i x at = listed_at label_of fields i (Block x) x at refl

-- a scan while all stand still
pub cover_scans : (v : Covering) → IsCovered v → (l : Label) → FieldsMarked v.now v.marks.marked l → IsCovered (record v { marks = with_scanned v.marks l })
cover_scans v c l fields = record {
  same = c.same;
  scanned = λ k i x marked scanned at. ⊎_elim
      (λ here. field_done v c l i (λ y now. fields y (field_listed (node_at v.now l) i y now)) x (subst (λ z. field_at v.old z i ≡ Some (Block x)) (sym (same_label-true l k here)) at))
      (λ was. c.scanned k i x marked was at)
      (or_cases (same_label l k) (v.marks.scanned k) scanned);
  lost = c.lost;
  held = c.held;
  new_fields = c.new_fields;
  stored = c.stored;
  new_marked = c.new_marked;
  placed = c.placed;
}

-- where no block is grey
module _ (v : Covering) (c : IsCovered v) where
  -- at the end: what is covered is marked or new
  module _ (none : NoneGrey v.marks) where
    covered_cases : (l : Label) → InCover v.old v.marks.marked l → IsTrue (v.marks.marked l) ⊎ IsTrue (is_new v.old l)
    covered_cases l cover = or_cases (v.marks.marked l) (is_new v.old l) (cover (λ x. v.marks.marked x || is_new v.old x)
        (λ x h. or_left (v.marks.marked x) (is_new v.old x) h)
        (λ x h. or_right (v.marks.marked x) (is_new v.old x) h)
        (λ x y i h at. ⊎_elim
        (λ is. or_left (v.marks.marked y) (is_new v.old y) (c.scanned x i y is (none x is) at))
        (λ new. absurd (no_old_field v.old x i y new at))
        (or_cases (v.marks.marked x) (is_new v.old x) h)))

    covered_marked : (l : Label) → IsTrue (v.places l) → InCover v.old v.marks.marked l → IsTrue (v.marks.marked l)
    covered_marked l place cover = ⊎_elim (λ is. is) (λ new. c.new_marked l place new) (covered_cases l cover)

    field_marked : (l : Label) (i : ℕ) (x : Label) → IsTrue (v.marks.marked l) → IsTrue (v.places x) → field_at v.now l i ≡ Some (Block x) → IsTrue (v.marks.marked x)
    field_marked l i x is place at = ⊎_elim
        (λ new. covered_marked x place (c.new_fields l i x new at))
        (λ old. ⊎_elim
        (λ over. covered_marked x place (c.stored l i x over at))
        (λ kept. c.scanned l i x is (none l is) (sym (c.same l i old kept) ∙ at))
        (true_or_false (v.overwritten l i)))
        (new_or_old v.old l)

    pub cover_closed : DataFollows v.now v.marks.marked → (roots : List Label) → HoldsRoots roots v.held → HoldsRoots roots v.places
        → ((l : Label) (n : Node) → IsTrue (v.places l) → node_at v.now l ≡ Some n → HoldsRoots (names_of n) v.places)
        → HoldsRoots roots v.marks.marked × IsClosedUnder v.now v.marks.marked
    cover_closed follows roots held placed closed = (
      (λ l h. covered_marked l (placed l h) (c.held l (held l h))),
      (λ l x is h. edges_hold v.marks.marked v.marks.marked (node_at v.now l) (fields l is (node_at v.now l) refl) (follows l is) x h),
    )
      where
        fields : (l : Label) → IsTrue (v.marks.marked l) → (o : Option Node) → node_at v.now l ≡ o → HoldsRoots (fields_of o) v.marks.marked
        fields l is None e x h = cc
        fields l is (Some (Plain tag fs)) e x h =
            let t = listed_cases label_of fs x h in
            field_marked l t.0 x is (closed l (Plain tag fs) (c.placed l is) e x h) (subst (λ o. field_in o t.0 ≡ Some (Block x)) (sym e) (t.2 ∙ ap Some (is_block t.1 x t.3)))
        fields l is (Some (Raw tag fs)) e x h = cc
        fields l is (Some (Ephe keys datum)) e x h = cc
