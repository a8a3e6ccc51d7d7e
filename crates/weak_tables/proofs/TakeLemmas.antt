-- What `table_take` leaves.
use Rattle.std.proofs.Common.{◌≡◌, inl, inr, ⊎_elim, ℕ, ◌<◌, ◌%◌, Bool, true, false, cond, ◌||◌, IsTrue, List, [], ◌∷◌, get_or, Option, Some, None, refl, ap, sym, ◌∙◌, subst, arith}
use Rattle.model_core.specs.declared.label.Label.{Label}
use Rattle.model_core.specs.declared.command.Command.TheVariants.{Forget, UnsetKey, UnsetData}
use Rattle.model_core.specs.declared.entry.Entry.{Entry}
use Rattle.model_core.specs.declared.reply.Reply.{Reply}
use Rattle.model_core.specs.declared.reply.Reply.TheVariants as reply
use Rattle.model_core.specs.declared.graph.Value.{Value}
use Rattle.model_core.specs.declared.graph.Value.TheVariants.{Int, Block, Nothing}
use Rattle.model_core.specs.declared.graph.Node.TheVariants.{Ephe}
use Rattle.model_core.specs.declared.state.Sizes.{Sizes}
use Rattle.model_core.specs.Graph.{same_label, has_label, label_of}
use Rattle.model_core.specs.Commands.{shown}
use Rattle.model_core.specs.declared.command.Command.{Command}
use Rattle.model_core.specs.Domains.{IsWithinLimits}
use Rattle.model_core.proofs.Graphs.GraphLemmas.{same_label-true, same_label_refl}
use Rattle.model_core.proofs.Reach.ReachLemmas.{or_cases, or_right}
use Rattle.weak_laws.specs.Tables.Structures.{Binding, Cell, bucket_count, bindings, datum_at, without, keys_of, table_labels, IsTable}
use Rattle.weak_laws.specs.Tables.Thinning.{ThinnedBy, WasOutside, Went}
use Rattle.weak_laws.specs.Tables.Performing.{Performed, After, registers_of}
use Rattle.weak_laws.specs.Tables.Stages.{Goes, Holding, graph_of, held_in}
use Rattle.weak_laws.proofs.OfTables.BindingLemmas.{thinned_keys, thinned_datum, thinned_without}
use Rattle.weak_laws.proofs.OfTables.LookupLemmas.{unbound_key, key_unbound, without_unbound}
use Rattle.weak_laws.proofs.OfTables.OnceLemmas.{lacks, not_both, chain_label}
use Rattle.weak_laws.proofs.OfTables.ChangeLemmas.{changes_more}
use Rattle.weak_laws.proofs.OfTables.CellLemmas.{in_chain}
use Rattle.weak_laws.proofs.OfTables.StepLemmas.{step_open, forget_step}
use Rattle.weak_laws.proofs.OfTables.StageLemmas.{held_stays, goes_on, goes_reading, thinned_on, table_reading, bindings_reading}
use Rattle.weak_laws.proofs.OfTables.FillLemmas.{take_key, take_data, holding_datum}
use Rattle.weak_tables.specs.Held.{IsTidy, KeepsOthers, IsClean, Reads, Cleared}
use Rattle.weak_tables.specs.Walks.{KeepsSpare, Found, Missed, LooksUp}
use Rattle.weak_tables.specs.Tables.{Takes, Leaves, TakeAnswers}
use Rattle.weak_tables.proofs.SearchLemmas.{set_here, set_other, keeps_set, below_eight, reads_on}
use Rattle.weak_tables.proofs.TidyLemmas.{tidy_lasts, has_cleared, has_kept, has_twice}

-- what isn't bound isn't bound where some is taken
pub thinned_none : (P : Label → Type 0) (k : Label) (a b : List Binding) → ThinnedBy P a b → datum_at a k ≡ None → datum_at b k ≡ None
thinned_none P k a b t none = key_unbound k b (lacks (keys_of b) k (λ there. not_both (keys_of a) k (thinned_keys P a b k t there) (unbound_key k a none)))

-- what is bound was bound where more was
some_bound : (bs : List Binding) (k : Label) → IsTrue (has_label (keys_of bs) k) → (w : Value) × (datum_at bs k ≡ Some w)
some_bound [] k h = absurd (let clash : false ≡ true = h in cc)
some_bound (b ∷ bs) k h = go (same_label b.0 k) refl h (some_bound bs k)
  where
    go : (c : Bool) → same_label b.0 k ≡ c → IsTrue (same_label b.0 k || has_label (keys_of bs) k) → (IsTrue (has_label (keys_of bs) k) → (w : Value) × (datum_at bs k ≡ Some w)) → (w : Value) × (cond (same_label b.0 k) (Some b.1) (datum_at bs k) ≡ Some w)
    go true e h rest = (b.1, ap (λ d. cond d (Some b.1) (datum_at bs k)) e)
    go false e h rest =
        let t = rest (⊎_elim (λ same. absurd (let clash : false ≡ true = sym e ∙ same in cc)) (λ later. later) (or_cases (same_label b.0 k) (has_label (keys_of bs) k) h)) in
        (t.0, ap (λ d. cond d (Some b.1) (datum_at bs k)) e ∙ t.1)

bound_key : (bs : List Binding) (k : Label) (v : Value) → datum_at bs k ≡ Some v → IsTrue (has_label (keys_of bs) k)
bound_key bs k v is = go (has_label (keys_of bs) k) refl
  where
    go : (c : Bool) → has_label (keys_of bs) k ≡ c → IsTrue (has_label (keys_of bs) k)
    go true e = e
    go false e = absurd (let clash : ◌≡◌ {A = Option Value} None (Some v) = sym (key_unbound k bs e) ∙ is in cc)

thinned_bound : (P : Label → Type 0) (k : Label) (a b : List Binding) (v : Value) → ThinnedBy P a b → datum_at b k ≡ Some v → (w : Value) × (datum_at a k ≡ Some w)
thinned_bound P k a b v t is = some_bound a k (thinned_keys P a b k t (bound_key b k v is))

pub goes_wider : (z : Sizes) (first now : List Entry) (own more : List Label) → ((l : Label) → IsTrue (has_label own l) → IsTrue (has_label more l)) → Goes z first now own → Goes z first now more
goes_wider z first now own more within g = record { legal = g.legal; grows = g.grows; changes = changes_more (WasOutside z first now) (WasOutside z first now) own more _ _ (λ k w. w) within g.changes }

module _ (z : Sizes) (limits : IsWithinLimits z) (old new : List Entry) (c : Cleared z old new) where
  pub cleared_clean : IsClean z new
  cleared_clean = record {
    eight = set_other z limits old c.second new 10 Nothing c.ten.registers_are 8 (λ e. absurd (omega arith))
        ∙ (set_other z limits old c.first c.second 9 Nothing c.nine.registers_are 8 (λ e. absurd (omega arith)) ∙ set_here z limits old old c.first 8 Nothing c.eight.registers_are (omega arith));
    nine = set_other z limits old c.second new 10 Nothing c.ten.registers_are 9 (λ e. absurd (omega arith)) ∙ set_here z limits old c.first c.second 9 Nothing c.nine.registers_are (omega arith);
    ten = set_here z limits old c.second new 10 Nothing c.ten.registers_are (omega arith);
    calm = c.calm;
  }

  pub cleared_keeps : (first : List Entry) → KeepsOthers z first old → KeepsOthers z first new
  cleared_keeps first keeps =
      keeps_set z limits first c.second new 10 Nothing c.ten.registers_are
      (keeps_set z limits first c.first c.second 9 Nothing c.nine.registers_are
      (keeps_set z limits first old c.first 8 Nothing c.eight.registers_are keeps (λ r a b c. a)) (λ r a b c. b)) (λ r a b c. c)

  pub cleared_goes : (first : List Entry) (own : List Label) → Goes z first old own → Goes z first new own
  cleared_goes first own g = goes_reading z first c.second new own _ (goes_reading z first c.first c.second own _ (goes_reading z first old c.first own _ g c.eight) c.nine) c.ten

  module _ (root : Label) (chains : List (List Cell)) where
    pub cleared_reads : (first : List Entry) → Reads z first old root chains → Reads z first new root chains
    cleared_reads first x = reads_on z first c.second new _ root chains (reads_on z first c.first c.second _ root chains (reads_on z first old c.first _ root chains x c.eight) c.nine) c.ten

    pub cleared_table : IsTable (graph_of z old) root chains → IsTable (graph_of z new) root chains
    cleared_table table = table_reading z c.second new _ c.ten root chains (table_reading z c.first c.second _ c.nine root chains (table_reading z old c.first _ c.eight root chains table))

    -- what is bound besides a key, from the start of a call on
    pub cleared_without : (first : List Entry) (k : Label) (start : List Binding) (own : List Label) → Goes z first old own → IsTable (graph_of z old) root chains → ThinnedBy (WasOutside z first old) start (without k (bindings (graph_of z old) chains))
        → ThinnedBy (WasOutside z first new) start (without k (bindings (graph_of z new) chains))
    cleared_without first k start own g table t =
        let g1 = goes_reading z first old c.first own _ g c.eight in
        let g2 = goes_reading z first c.first c.second own _ g1 c.nine in
        let t1 = table_reading z old c.first _ c.eight root chains table in
        let t2 = table_reading z c.first c.second _ c.nine root chains t1 in
        thinned_on z first c.second new _ _ _ g2.grows c.ten.grows
        (thinned_on z first c.first c.second _ _ _ g1.grows c.nine.grows
        (thinned_on z first old c.first _ _ _ g.grows c.eight.grows t
        (thinned_without (Went z old c.first) k _ _ (bindings_reading z old c.first _ c.eight root chains table)))
        (thinned_without (Went z c.first c.second) k _ _ (bindings_reading z c.first c.second _ c.nine root chains t1)))
        (thinned_without (Went z c.second new) k _ _ (bindings_reading z c.second new _ c.ten root chains t2))

    pub cleared_none : (k : Label) → IsTable (graph_of z old) root chains → datum_at (bindings (graph_of z old) chains) k ≡ None → datum_at (bindings (graph_of z new) chains) k ≡ None
    cleared_none k table none =
        let t1 = table_reading z old c.first _ c.eight root chains table in
        let t2 = table_reading z c.first c.second _ c.nine root chains t1 in
        thinned_none (Went z c.second new) k _ _ (bindings_reading z c.second new _ c.ten root chains t2)
        (thinned_none (Went z c.first c.second) k _ _ (bindings_reading z c.first c.second _ c.nine root chains t1)
        (thinned_none (Went z old c.first) k _ _ (bindings_reading z old c.first _ c.eight root chains table) none))

    -- a key that a register below 8 holds
    pub cleared_datum : (k : Label) (kr : ℕ) → kr < 8 → held_in z old kr ≡ Block k → IsTable (graph_of z old) root chains → datum_at (bindings (graph_of z new) chains) k ≡ datum_at (bindings (graph_of z old) chains) k
    cleared_datum k kr few held table =
        let t1 = table_reading z old c.first _ c.eight root chains table in
        let t2 = table_reading z c.first c.second _ c.nine root chains t1 in
        let h1 : held_in z c.first kr ≡ Block k = set_other z limits old old c.first 8 Nothing c.eight.registers_are kr (λ e. absurd (omega arith)) ∙ held in
        let h2 : held_in z c.second kr ≡ Block k = set_other z limits old c.first c.second 9 Nothing c.nine.registers_are kr (λ e. absurd (omega arith)) ∙ h1 in
        thinned_datum (Went z c.second new) k (held_stays z c.second new kr k h2) _ _ (bindings_reading z c.second new _ c.ten root chains t2)
        ∙ (thinned_datum (Went z c.first c.second) k (held_stays z c.first c.second kr k h1) _ _ (bindings_reading z c.first c.second _ c.nine root chains t1)
        ∙ thinned_datum (Went z old c.first) k (held_stays z old c.first kr k held) _ _ (bindings_reading z old c.first _ c.eight root chains table))

-- registers after commands that change none
pub same_registers : (z : Sizes) (first now new : List Entry) → KeepsOthers z first now → registers_of z new ≡ registers_of z now → KeepsOthers z first new
same_registers z first now new keeps same r a b c = ap (λ (rs : List Value). get_or rs r Nothing) same ∙ keeps r a b c

-- a key that was found is taken out
module _ (z : Sizes) (limits : IsWithinLimits z) (root : Label) (chains : List (List Cell)) (k : Label) (kr : ℕ) (few : kr < 8) (first f g h new : List Entry) (r s : Reply) (x : Found z first f root chains k (Some k)) (held : held_in z first kr ≡ Block k)
    (p : Performed z f g (UnsetKey 8 0) r) (q : Performed z g h (UnsetData 8) s) (c : Cleared z h new) where
  abbrev i : ℕ
  i = k.serial % bucket_count

  key_f : held_in z f kr ≡ Block k
  key_f = below_eight z first f kr few x.keeps ∙ held

  first_step : After z f g (x.cell.ephe ∷ []) (registers_of z f) × (r ≡ reply.Done) × Holding z g root chains k i x.done x.cell x.rest None x.datum
      × ThinnedBy (Went z f g) (without k (bindings (graph_of z f) chains)) (without k (bindings (graph_of z g) chains))
  first_step = take_key z limits root chains k kr i x.done x.cell x.rest f g r (Some k) x.datum x.holding key_f x.ephe p

  key_g : held_in z g kr ≡ Block k
  key_g = ap (λ (rs : List Value). get_or rs kr Nothing) first_step.0.registers_are ∙ key_f

  ephe_g : held_in z g 8 ≡ Block x.cell.ephe
  ephe_g = ap (λ (rs : List Value). get_or rs 8 Nothing) first_step.0.registers_are ∙ x.ephe

  second_step : After z g h (x.cell.ephe ∷ []) (registers_of z g) × (s ≡ reply.Done) × Holding z h root chains k i x.done x.cell x.rest None Nothing
      × ThinnedBy (Went z g h) (without k (bindings (graph_of z g) chains)) (without k (bindings (graph_of z h) chains))
  second_step = take_data z limits root chains k kr i x.done x.cell x.rest g h s None x.datum first_step.2 key_g ephe_g refl q

  own_ephe : (l : Label) → IsTrue (has_label (x.cell.ephe ∷ []) l) → IsTrue (has_label (table_labels root chains) l)
  own_ephe l mine = ⊎_elim
      (λ same. subst (λ m. IsTrue (has_label (table_labels root chains) m)) (same_label-true x.cell.ephe l same)
      (or_right (same_label root x.cell.ephe) _ (chain_label chains i x.cell.ephe
      (in_chain (Went z f g) (graph_of z f) (graph_of z g) root chains x.holding.table i x.holding.below x.done x.cell x.rest x.holding.split))))
      (λ none. absurd (let clash : false ≡ true = none in cc))
      (or_cases (same_label x.cell.ephe l) false mine)

  goes_f : Goes z first f (table_labels root chains)
  goes_f = goes_wider z first f [] (table_labels root chains) (λ l h. absurd (let clash : false ≡ true = h in cc)) x.reads.goes

  goes_g : Goes z first g (table_labels root chains)
  goes_g = goes_on z first f g (table_labels root chains) (x.cell.ephe ∷ []) _ goes_f first_step.0 (λ l mine. inl (own_ephe l mine))

  goes_h : Goes z first h (table_labels root chains)
  goes_h = goes_on z first g h (table_labels root chains) (x.cell.ephe ∷ []) _ goes_g second_step.0 (λ l mine. inl (own_ephe l mine))

  left_f : ThinnedBy (WasOutside z first f) (without k (bindings (graph_of z first) chains)) (without k (bindings (graph_of z f) chains))
  left_f = thinned_without (WasOutside z first f) k _ _ x.reads.thinned

  left_h : ThinnedBy (WasOutside z first h) (without k (bindings (graph_of z first) chains)) (without k (bindings (graph_of z h) chains))
  left_h = thinned_on z first g h _ _ _ goes_g.grows second_step.0.grows (thinned_on z first f g _ _ _ goes_f.grows first_step.0.grows left_f first_step.3) second_step.3

  bound_first : (w : Value) × (datum_at (bindings (graph_of z first) chains) k ≡ Some w)
  bound_first = thinned_bound (WasOutside z first f) k _ _ x.datum x.reads.thinned (holding_datum z limits root chains k kr i x.done x.cell x.rest f (Some k) x.datum x.holding ∙ rw (same_label_refl k) refl)

  pub take_done : Takes z first new root chains k
  take_done =
      let none_h : datum_at (bindings (graph_of z h) chains) k ≡ None = holding_datum z limits root chains k kr i x.done x.cell x.rest h None Nothing second_step.2 in
      let none : datum_at (bindings (graph_of z new) chains) k ≡ None = cleared_none z limits h new c root chains k second_step.2.table none_h in record {
        goes = cleared_goes z limits h new c first (table_labels root chains) goes_h;
        keeps = cleared_keeps z limits h new c first (same_registers z first g h (same_registers z first f g x.keeps first_step.0.registers_are) second_step.0.registers_are);
        clean = cleared_clean z limits h new c;
        table = cleared_table z limits h new c root chains second_step.2.table;
        was = bound_first.0;
        bound = bound_first.1;
        left = subst (λ (bs : List Binding). ThinnedBy (WasOutside z first new) (without k (bindings (graph_of z first) chains)) bs) (without_unbound k _ none)
            (cleared_without z limits h new c root chains first k _ (table_labels root chains) goes_h second_step.2.table left_h);
        none = none;
        tidy = λ before l there. has_cleared IsTidy tidy_lasts z h new c l
            (has_twice IsTidy tidy_lasts (Went z f g) (Went z g h) x.cell.ephe (graph_of z f) (graph_of z g) (graph_of z h) first_step.0.changes second_step.0.changes (record { node = Ephe (None ∷ []) Nothing; at = second_step.2.at; is = refl }) l
            (has_kept IsTidy tidy_lasts (WasOutside z first f) [] (graph_of z first) (graph_of z f) x.reads.goes.changes l refl (before l there)));
      }

-- a key that wasn't found
pub take_none : (z : Sizes) (limits : IsWithinLimits z) (root : Label) (chains : List (List Cell)) (k : Label) (first f new : List Entry) → Missed z first f root chains k → Cleared z f new
    → Leaves z first new root chains × KeepsOthers z first new × (datum_at (bindings (graph_of z new) chains) k ≡ None)
take_none z limits root chains k first f new x c = (
  record { reads = cleared_reads z limits f new c root chains first x.reads; clean = cleared_clean z limits f new c },
  cleared_keeps z limits f new c first x.keeps,
  cleared_none z limits f new c root chains k x.reads.table x.none,
)

pub all_cleared : (z : Sizes) (limits : IsWithinLimits z) (old f g new : List Entry) (a b c : Reply) → Performed z old f (Forget 8) a → Performed z f g (Forget 9) b → Performed z g new (Forget 10) c → Cleared z old new
all_cleared z limits old f g new a b c p q r = record {
  first = f;
  second = g;
  eight = (forget_step z limits old f a 8 p).0;
  nine = (forget_step z limits f g b 9 q).0;
  ten = (forget_step z limits g new c 10 r).0;
  calm = step_open z limits g new (Forget 10) c r refl;
}

pub at_sizes : (z y : Sizes) (a b : List Entry) (c : Command) (r : Reply) → y ≡ z → Performed y a b c r → Performed z a b c r
at_sizes z y a b c r same p = subst (λ (x : Sizes). Performed x a b c r) same p

pub cleared_sizes : (z y : Sizes) (a b : List Entry) → y ≡ z → Cleared y a b → Cleared z a b
cleared_sizes z y a b same c = subst (λ (x : Sizes). Cleared x a b) same c

pub kept_sizes : (z y : Sizes) (a b : List Entry) (r : Reply) (s t : Bool) → y ≡ z → KeepsSpare y a b r s t → KeepsSpare z a b r s t
kept_sizes z y a b r s t same x = subst (λ (w : Sizes). KeepsSpare w a b r s t) same x

-- what a reply shows that shows a block
pub shown_label : (v : Value) (k : Label) → shown v ≡ reply.Block k → v ≡ Block k
shown_label (Int w) k is = cc
shown_label Nothing k is = cc
shown_label (Block l) k is = let same : l ≡ k = cc in ap (λ (x : Label). Block x) same

-- a look-up of the key that a register shows, at the front and the numbers that a call began with
pub looked : (z y : Sizes) (old first now : List Entry) (t kr : ℕ) (k : Label) (r : Reply) (found b : Bool) → y ≡ z → first ≡ old → r ≡ shown (held_in z old kr) → r ≡ reply.Block k → LooksUp y first now t k found → found ≡ b → (held_in z old kr ≡ Block k) × LooksUp z old now t k b
looked z y old first now t kr k r found b sizes front shows is looks answer = (shown_label (held_in z old kr) k (sym shows ∙ is), subst (λ (x : Sizes × List Entry × Bool). LooksUp x.0 x.1 now t k x.2) (λ i. (sizes i, front i, answer i)) looks)

module _ (z : Sizes) (limits : IsWithinLimits z) (root : Label) (chains : List (List Cell)) (k : Label) (tr kr : ℕ) (few : kr < 8) (old f : List Entry) (key : held_in z old kr ≡ Block k) (held : held_in z old tr ≡ Block root) (table : IsTable (graph_of z old) root chains) where
  label : Some k ≡ label_of (held_in z old kr)
  label = sym (ap label_of key)

  pub took_none : (new : List Entry) → LooksUp z old f tr k false → Cleared z f new → TakeAnswers z old new root chains (label_of (held_in z old kr)) reply.Empty
  took_none new s c =
      let t = take_none z limits root chains k old f new (s root chains held table) c in
      subst (λ (o : Option Label). TakeAnswers z old new root chains o reply.Empty) label (inr (refl, t.0, t.1, t.2))

  pub took : (g h new : List Entry) (r s : Reply) → LooksUp z old f tr k true → Performed z f g (UnsetKey 8 0) r → Performed z g h (UnsetData 8) s → Cleared z h new → TakeAnswers z old new root chains (label_of (held_in z old kr)) reply.Done
  took g h new r s x p q c =
      subst (λ (o : Option Label). TakeAnswers z old new root chains o reply.Done) label
      (inl (refl, take_done z limits root chains k kr few old f g h new r s (x root chains held table) key p q c))
