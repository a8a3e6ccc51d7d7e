-- The ways from kind to kind where a cycle goes on beside running domains: it begins so, passes through the pauses, and is finished.
use Rattle.std.proofs.Common.{◌≡◌, ◌≢◌, ℕ, zero, suc, ◌*◌, ◌<◌, ◌≤◌, ◌||◌, ◌&&◌, not, Bool, true, false, cond, IsTrue, List, [], ◌∷◌, length, slice_get, option_map, option_to_list, filter_map, Option, Some, None, sym, refl, ap, ◌∙◌, subst, ⊎_elim, arith, lt_of_not-le}
use Rattle.std.proofs.lemmas.List.{get_or_past}
use Rattle.std.proofs.lemmas.Option.{slice_get-map, get_or_from_slice_get}
use Rattle.std.specs.Prelude.{slice_index_or}
use mathlib.Core.Logic.{dite}
use native.Mathlib.Decide.{dec_le}
use Rattle.model_core.specs.declared.graph.Value.{Value}
use Rattle.model_core.specs.declared.graph.Value.TheVariants.{Block, Nothing}
use Rattle.model_core.specs.declared.graph.Node.{Node}
use Rattle.model_core.specs.declared.graph.Node.TheVariants.{Plain, Raw, Ephe}
use Rattle.model_core.specs.declared.label.Label.{Label}
use Rattle.model_core.specs.declared.state.DomainState.{DomainState}
use Rattle.model_core.specs.declared.state.State as model
use Rattle.model_core.specs.Commands.{key_value}
use Rattle.model_core.specs.Domains.{class_count, domain_at, no_domain, register, queues, roots}
use Rattle.model_core.specs.Graph.{Graph, has_label, label_of, labels, node_at, same_label}
use Rattle.model_core.specs.Reach.{HoldsRoots}
use Rattle.model_core.specs.WellFormed.{IsWellFormed, names_of}
use Rattle.model_core.proofs.Graphs.GraphLemmas.{same_label-true}
use Rattle.model_core.proofs.Reach.ReachLemmas.{or_cases, or_left, or_right, and_left, has-append_cases, true_or_false}
use Rattle.model_cycle.specs.Beside.{Snapshot, AllFull, past_at, restricted, with_new}
use Rattle.model_cycle.specs.Cover.{is_new}
use Rattle.model_cycle.specs.Cycle as laws
use Rattle.model_cycle.specs.Marks.{Marks}
use Rattle.model_cycle.specs.Shares.{AllArrived, AllOwned, Shares, reset_shares}
use Rattle.model_cycle.proofs.Beside.{beside_law}
use Rattle.model_cycle.proofs.DomainParts.{is_block, listed_cases, roots_all, roots_end}
use Rattle.model_cycle.proofs.Sharing.{some_same}
use Rattle.heap_rule.specs.declared.config.Config.{Config}
use Rattle.heap_rule.specs.declared.phase.Kind.{Kind}
use Rattle.heap_rule.specs.declared.phase.Kind.TheVariants.{Run, Promote, Reset, Roots, Mark}
use Rattle.heap_rule.specs.Beside.{Underway}
use Rattle.heap_rule.specs.Cycles.{Cycling, cycle_of, layout_of}
use Rattle.heap_rule.specs.Places.{Debt, Place, Live, HasValue, IsOldAt, Settled, values_of, without_keys}
use Rattle.heap_rule.specs.Pools.{Holder, Lot, owned}
use Rattle.heap_rule.specs.Rule.{AllFound}
use Rattle.step_pauses.proofs.Finishing.{held_by}
use Rattle.step_pauses.proofs.PoolLabels.{lies_in_pool, pool_label, label_pooled, pooled_lies, lies_pooled, owner_of_lot}
use Rattle.step_pauses.proofs.Repainting.{SameMark, same_mark}

-- what is marked where a kind is named after another: once the roots are darkened all blocks that are made count as marked, and a cycle that is finished has marked blocks of pools alone
abbrev pub marks_in : Config → Live → Kind → Kind → model.State → Marks → Marks
marks_in k live Roots Run s m = with_new s.graph m
marks_in k live Reset Mark s m = restricted m (lies_in_pool k live)
marks_in k live _ _ s m = m

-- what is kept of a cycle that goes on beside running domains: it begins with the present graph, and nobody owes a darkening once all have stopped
abbrev pub past_in : Kind → Kind → model.State → Snapshot → Snapshot
past_in Run next s past = record past { owed = λ _ _. false }
past_in Roots Run s past = past_at s
past_in _ _ s past = past

-- nobody comes to owe one
pub past_owes : (last next : Kind) (s : model.State) (past : Snapshot) (d r : ℕ) → past.owed d r ≡ false → (past_in last next s past).owed d r ≡ false
past_owes Run next s past d r none = refl
past_owes Roots Run s past d r none = refl
past_owes _ _ s past d r none = none

-- all blocks that live lie in pools
abbrev pub AllOld : Config → Live → Type 0
AllOld k live = (a : ℕ) (p : Place) → live a ≡ Some p → IsOldAt k a

-- a label of a block is one of the graph's
pub node_labelled : (g : Graph) (l : Label) (n : Node) → node_at g l ≡ Some n → IsTrue (has_label (labels g) l)
node_labelled [] l n is = cc
node_labelled (e ∷ g) l n is = ⊎_elim
    (λ (here : IsTrue (same_label e.0 l)). or_left (same_label e.0 l) (has_label (labels g) l) here)
    (λ (other : same_label e.0 l ≡ false). or_right (same_label e.0 l) (has_label (labels g) l) (node_labelled g l n (subst (λ (b : Bool). cond b (Some e.1) (node_at g l) ≡ Some n) other is)))
    (true_or_false (same_label e.0 l))

-- the marks of the blocks that live stay
pub marks_same : (k : Config) (live : Live) (last next : Kind) (s : model.State) (m : Marks) → (last ≡ Reset → AllOld k live) → (a : ℕ) (p : Place) (n : Node) → live a ≡ Some p → node_at s.graph p.label ≡ Some n → SameMark m (marks_in k live last next s m) p.label
marks_same k live Roots Run s m old a p n lives there =
    let known : is_new s.graph p.label ≡ false = ap not (node_labelled s.graph p.label n there) in record {
      marked = ap (λ (b : Bool). b || m.marked p.label) known;
      scanned = λ is. or_right (is_new s.graph p.label) (m.scanned p.label) is;
    }
marks_same k live Reset Mark s m old a p n lives there =
    let pooled : IsTrue (lies_in_pool k live p.label) = pooled_lies k live p.label (record { address = a; place = p; lives = lives; old = old refl a p lives; label = refl }) in record {
      marked = ap (λ (b : Bool). b && m.marked p.label) pooled;
      scanned = λ is. is;
    }
marks_same k live _ _ s m old a p n lives there = same_mark m p.label

-- a label that a node names stands among its values
record NamedAt (n : Node) (l : Label) : Type 0 where
  index : ℕ
  holds : slice_get (values_of n) index ≡ Some (Block l)

in_option : (o : Option Label) (l : Label) → IsTrue (has_label (option_to_list o) l) → o ≡ Some l
in_option None l is = cc
in_option (Some m) l is = ⊎_elim (λ (here : IsTrue (same_label m l)). ap Some (same_label-true m l here)) (λ (none : IsTrue false). absurd (let e : false ≡ true = none in cc)) (or_cases (same_label m l) false is)

named_at : (n : Node) (l : Label) → IsTrue (has_label (names_of n) l) → NamedAt n l
named_at (Plain tag fields) l is = let m = listed_cases {A = Value} label_of fields l is in record { index = m.0; holds = m.2 ∙ ap Some (is_block m.1 l m.3) }
named_at (Raw tag fields) l is = let m = listed_cases {A = Value} label_of fields l is in record { index = m.0; holds = m.2 ∙ ap Some (is_block m.1 l m.3) }
named_at (Ephe keys datum) l is = ⊎_elim
    (λ key. let m = listed_cases {A = Option Label} (λ o. o) keys l key in record { index = suc m.0; holds = slice_get-map key_value keys m.0 ∙ ap (option_map key_value) (m.2 ∙ ap Some m.3) })
    (λ last. record { index = zero; holds = ap Some (is_block datum l (in_option (label_of datum) l last)) })
    (has-append_cases (filter_map (λ o. o) keys) (option_to_list (label_of datum)) l is)

module _ (k : Config) (s : model.State) (live : Live) (holder : ℕ → Holder) (c : Cycling) (count : k.domains ≡ length s.domains) (all : AllArrived k.domains c.shares) where
  -- there are no registers but those of the domains
  no_register : (d r : ℕ) (l : Label) → k.domains ≤ d → register s d r ≡ Block l → ⊥
  no_register d r l far is =
      let gone : domain_at s d ≡ no_domain = get_or_past s.domains d no_domain (subst (λ (n : ℕ). n ≤ d) count far) in
      let none : register s d r ≡ Nothing = ap (λ (x : DomainState). slice_index_or x.registers r Nothing) gone in
      let clash : Nothing ≡ Block l = sym none ∙ is in cc

  -- the domains that ran have stopped: nobody owes a darkening
  pub stops : Underway k s live Run c.past c.paint.marks c.shares → (w : Shares) → Underway k s live Promote (record c.past { owed = λ _ _. false }) c.paint.marks w
  stops u w = let b = u.covered in record {
    covered = record {
      grown = b.grown;
      closed_old = b.closed_old;
      full = b.full;
      same = b.same;
      scanned = b.scanned;
      lost = b.lost;
      held = b.held;
      new_fields = b.new_fields;
      stored = b.stored;
      new_marked = b.new_marked;
      new_scanned = b.new_scanned;
      registers = λ d r l _ is. dite (dec_le k.domains d)
          (λ far. absurd (no_register d r l far is))
          (λ near. let below : d < k.domains = lt_of_not-le near in b.registers d r l (u.settled d r (λ _. (below, all d below))) is);
      queues = b.queues;
    };
    young = u.young;
    pooled = u.pooled;
    settled = λ d r _. refl;
    rooted = λ e. absurd (let clash : Promote ≡ Reset = e in cc);
  }

  -- the cycle goes on through a pause
  pub passes : (before next : Kind) (changed : Bool) → before ≢ Run → Underway k s live before c.past c.paint.marks c.shares → Underway k s live next c.past c.paint.marks (reset_shares changed)
  passes before next changed other u = record {
    covered = u.covered;
    young = u.young;
    pooled = u.pooled;
    settled = λ d r _. u.settled d r (λ is. absurd (other is));
    rooted = λ _ d below gone. absurd (let clash : false ≡ true = gone in cc);
  }

  -- the roots have been darkened, and the domains run again
  pub starts : IsWellFormed s → AllFull s.graph → laws.InPhase (laws.Roots laws.First) k.domains s (cycle_of k live holder c) → AllOld k live → (w : Shares) → Underway k s live Run (past_at s) (with_new s.graph c.paint.marks) w
  starts formed full f old w = record {
    covered = beside_law.starts s c.paint.marks formed full f.traced (roots_end s c.paint.marks.marked c.shares f.marked (subst (λ (n : ℕ). AllArrived n c.shares) count all));
    young = λ a p lives high. absurd (let low : a ≤ k.pools * 4096 = old a p lives in omega arith);
    pooled = λ l known is. let o = f.owned l (subst (λ (b : Bool). IsTrue (b || c.paint.marks.marked l)) known is) in label_pooled k live o.1 l o.3;
    settled = λ d r _. refl;
    rooted = λ e. absurd (let clash : Run ≡ Reset = e in cc);
  }

  -- the domains have stopped again, and nothing lives in minor areas
  module _ (u : Underway k s live Reset c.past c.paint.marks c.shares) (old : AllOld k live) where
    abbrev places : Label → Bool
    places = lies_in_pool k live

    all_rooted : HoldsRoots (roots s (queues s)) places
    all_rooted = roots_all s places (λ d low.
        let below : d < k.domains = subst (λ (n : ℕ). d < n) (sym count) low in
        let h = u.rooted refl d below (all d below) in record {
          registers = λ l is. let m = listed_cases {A = Value} label_of (domain_at s d).registers l is in
              pooled_lies k live l (h.registers m.0 l (get_or_from_slice_get (domain_at s d).registers m.0 m.1 Nothing m.2 ∙ is_block m.1 l m.3));
          queue = λ l is. pooled_lies k live l (h.queue l is);
        })

    -- the fields of blocks in pools lead to blocks in pools
    all_lead : (words : List ℕ) → Settled live → AllFound k c.paint live s.graph words → ((l : Label) → c.paint.emptied l ≡ []) → (l : Label) (n : Node) → IsTrue (places l) → node_at s.graph l ≡ Some n → HoldsRoots (names_of n) places
    all_lead words bare found full l n lies there x named =
        let b = lies_pooled k live l lies in
        let f = found b.address b.place b.lives in
        let same : f.node ≡ n = some_same f.node n (sym f.there ∙ (ap (node_at s.graph) b.label ∙ there)) in
        let at = named_at n x named in
        let is_value : HasValue b.place.owed at.index = subst (λ (o : Option Debt). HasValue o at.index) (sym (bare b.address b.place b.lives).no_debt) tt in
        let got : slice_get (values_of (without_keys (c.paint.emptied b.place.label) f.node)) at.index ≡ Some (Block x) =
        ap (λ (z : List ℕ × Node). slice_get (values_of (without_keys z.0 z.1)) at.index) (λ i. (full b.place.label i, same i)) ∙ at.holds in
        let v = f.values at.index (Block x) is_value got in
        let t = held_by live x v.value v.stands in
        pooled_lies k live x (record { address = t.0; place = t.1; lives = t.3; old = old t.0 t.1 t.3; label = t.4 })

    pub under_way : (words : List ℕ) → Settled live → AllFound k c.paint live s.graph words → ((l : Label) → c.paint.emptied l ≡ []) → laws.IsUnderWay s (layout_of k live holder) (restricted c.paint.marks places)
    under_way words bare found full = beside_law.rests c.past c.paint.marks s u.covered (λ d r. u.settled d r (λ e. absurd (let clash : Reset ≡ Run = e in cc))) (layout_of k live holder) places
        (λ l known is. pooled_lies k live l (u.pooled l known is)) all_rooted (all_lead words bare found full)
        (λ a l is. pooled_lies k live l (label_pooled k live a l is))

    pub all_owned : ((a : ℕ) (p : Place) → live a ≡ Some p → a ≤ k.pools * 4096 → Lot holder a p) → ((q d class : ℕ) → holder q ≡ owned d class → (d < k.domains) × (class < class_count)) → AllOwned k.domains (layout_of k live holder) (restricted c.paint.marks places).marked
    all_owned lots owns l is =
        let b = lies_pooled k live l (and_left (places l) (c.paint.marks.marked l) is) in
        let at = lots b.address b.place b.lives b.old in
        let o = owns at.pool at.domain at.class at.owned_is in
        (at.domain, b.address, o.0, pool_label k live b.address b.place b.lives b.old ∙ ap Some b.label, owner_of_lot holder b.address b.place at o.1)
