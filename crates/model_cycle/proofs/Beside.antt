-- Each entry of a running domain keeps what is known of the marks, and where all domains rest a finishing pause may go on from it.
use Rattle.std.proofs.Common.{◌≡◌, ◌⊎◌, inl, inr, ⊎_elim, ℕ, zero, suc, ◌+◌, Bool, true, false, not, ◌&&◌, ◌||◌, is_some, IsTrue, List, [], ◌∷◌, ◌++◌, flat_map, filter_map, length, replicate, get_or, set, slice_get, Option, Some, None, refl, ap, sym, ◌∙◌, subst, eqb, eq-eqb}
use Rattle.std.proofs.lemmas.Option.{get_or_from_slice_get}
use Rattle.model_core.specs.declared.label.Label.{Label}
use Rattle.model_core.specs.declared.command.Command.{Command}
use Rattle.model_core.specs.declared.command.Command.TheVariants.{PutInt, Copy, Forget, Alloc, AllocMaj, Load, Store, Raw as NewRaw, Cas, Ephe as NewEphe, SetKey, UnsetKey, GetKey, CheckKey, SetData, UnsetData, GetData, CheckData, Finalise, FinaliseLast, Poll, Minor, Major, FullMajor, Spawn, Argument, PutResult, Join}
use Rattle.model_core.specs.declared.entry.Entry.TheVariants.{Command as CommandOf, End, Ran}
use Rattle.model_core.specs.declared.graph.Value.{Value}
use Rattle.model_core.specs.declared.graph.Value.TheVariants.{Int, Block, Nothing}
use Rattle.model_core.specs.declared.graph.Node.{Node}
use Rattle.model_core.specs.declared.graph.Node.TheVariants.{Plain, Raw, Ephe}
use Rattle.model_core.specs.declared.state.DomainState.{DomainState}
use Rattle.model_core.specs.declared.state.Pending.{Pending}
use Rattle.model_core.specs.declared.state.Pending.TheVariants.{Fin, Last}
use Rattle.model_core.specs.declared.state.State.{State}
use Rattle.model_core.specs.Graph.{Graph, labels, has_label, same_label, label_of, node_at}
use Rattle.model_core.specs.Reach.{HoldsRoots}
use Rattle.model_core.specs.Domains.{domain_at, no_domain, with_domain, with_register, with_block, register, label_in, pending_label, queues, roots}
use Rattle.model_core.specs.Commands.{Outcome, in_bounds, at_ephe, loaded, at_field, stored, same_value, written_where, exchanged, has_full_fields, is_int_value, key_set, key_stored, key_value, datum_set, datum_stored, finalised, finalised_last, tells, is_full_value, allocated, new_plain, new_raw, block_in, outcome}
use Rattle.model_core.specs.Entries.{ended, after_run, without_first, next}
use Rattle.model_core.specs.WellFormed.{IsNumbered, IsWellFormed, names_of}
use Rattle.model_core.proofs.Graphs.GraphLemmas.{same_label-true, same_label_refl, node_at-with_node_cases, node_at-append_cases}
use Rattle.model_core.proofs.Graphs.ListLemmas.{all_at, set_cases, flat_map-map}
use Rattle.model_core.proofs.Commands.FrameLemmas.{part_set}
use Rattle.model_core.proofs.Commands.MoveLemmas.{moved, held_block}
use Rattle.model_core.proofs.Histories.NumberLemmas.{next_label-new}
use Rattle.model_core.proofs.Reach.ReachLemmas.{not_true, or_cases, or_left, or_right, and_left, and_right, and_both, true_or_false, has-append_left, has-append_right}
use Rattle.model_cycle.specs.Marks.{Marks, darkened, with_scanned, IsTraced}
use Rattle.model_cycle.specs.Shares.{Layout}
use Rattle.model_cycle.specs.Cover.{field_in, field_at, is_new, InCover}
use Rattle.model_cycle.specs.Cycle.{IsUnderWay}
use Rattle.model_cycle.specs.Beside.{Snapshot, with_new, AllFull, IsBeside, past_at, Later, owing_register, owed_after, WriteBarrier, restricted, BesideLaw}
use Rattle.model_cycle.proofs.Tracing.{More, darkened_more, darkened_cases, darkened_scanned, unlike}
use Rattle.model_cycle.proofs.DomainParts.{is_block, listed_at, listed_cases, part_has, roots_all}
use Rattle.model_cycle.proofs.Covering.{cover_more, field_listed}
use Rattle.model_cycle.proofs.BesideGraphs.{no_old_field, no_field, cover_marked, Covers, field_covered, covers_holds, covers_alike, covers_stores, covers_makes}

-- what a register holds after one was written
register_cases : (s : State) (d r : ℕ) (w : Value) (k j : ℕ) (l : Label) → register (with_register s d r w) k j ≡ Block l
    → ((k ≡ d) × (j ≡ r) × (w ≡ Block l)) ⊎ (register s k j ≡ Block l)
register_cases s d r w k j l e =
    let x : DomainState = record (domain_at s d) { registers = set (domain_at s d).registers r w } in ⊎_elim
    (λ t.
    let here : get_or (set (domain_at s d).registers r w) j Nothing ≡ Block l = ap (λ (z : DomainState). get_or z.registers j Nothing) (sym t.1) ∙ e in ⊎_elim
    (λ u. inl (t.0, u.0, sym u.1 ∙ here))
    (λ u. inr (subst (λ n. get_or (domain_at s n).registers j Nothing ≡ Block l) (sym t.0) (sym u ∙ here)))
    (set_cases (domain_at s d).registers r w Nothing j))
    (λ t. inr (ap (λ (z : DomainState). get_or z.registers j Nothing) (sym t) ∙ e))
    (set_cases s.domains d x no_domain k)

-- a label beside itself
own_label : (k l : Label) → Block k ≡ Block l → IsTrue (same_label k l)
own_label k l e = let is : k ≡ l = cc in subst (λ z. IsTrue (same_label k z)) is (same_label_refl k)

-- the labels behind the first of a queue
behind : (p : Pending) (rest : List Pending) (l : Label) → IsTrue (has_label (filter_map pending_label rest) l) → IsTrue (has_label (filter_map pending_label (p ∷ rest)) l)
behind (Fin number k r) rest l h = or_right (same_label k l) (has_label (filter_map pending_label rest) l) h
behind (Last number) rest l h = h

either_false : (a b : Bool) → a || b ≡ false → (a ≡ false) × (b ≡ false)
either_false true b e = cc
either_false false b e = (refl, e)

-- the fields of the blocks stay full
full_outcome : (s : State) (d : ℕ) (c : Command) → AllFull s.graph → AllFull (outcome s d c).state.graph
full_outcome s d c all = moved (λ t. AllFull t.graph) s d c (record {
  same = all;
  held = λ r v named. all;
  written = λ l old new at found same named full. λ k n h. ⊎_elim
      (λ is. subst (λ z. IsTrue (has_full_fields z)) (sym is) (full (all l old found)))
      (λ was. all k n was)
      (node_at-with_node_cases s.graph l k new n h);
  made = λ is dst n named full. λ k m h. ⊎_elim
      (λ new. subst (λ z. IsTrue (has_full_fields z)) (sym new) full)
      (λ was. all k m was)
      (node_at-append_cases s.graph (_, n) k m h);
  registered = λ is f named. all;
  registered_last = λ is f named. all;
})

module _ (old : Graph) (marked : Label → Bool) where
  -- some labels are held and some fields overwritten
  pub record Follows (s : State) (owed : ℕ → ℕ → Bool) : Type 0 where
    pub held : Label → Bool
    pub over : Label → ℕ → Bool
    pub covers : Covers old marked s.graph held over
    pub registers : (k r : ℕ) (l : Label) → owed k r ≡ false → register s k r ≡ Block l → IsTrue (held l)
    pub queues : (k : ℕ) (l : Label) → IsTrue (has_label (filter_map pending_label (domain_at s k).queue) l) → IsTrue (held l)

  module _ (s : State) (owed : ℕ → ℕ → Bool) (f : Follows s owed) where
    -- other parts of a domain change
    follows_domain : (d : ℕ) (x : DomainState) → x.registers ≡ (domain_at s d).registers → x.queue ≡ (domain_at s d).queue → Follows (with_domain s d x) owed
    follows_domain d x registers queue = record {
      held = f.held;
      over = f.over;
      covers = f.covers;
      registers = λ k r l un e. f.registers k r l un (ap (λ (z : List Value). get_or z r Nothing) (sym (part_set (λ y. y.registers) s.domains d x registers k)) ∙ e);
      queues = λ k l h. f.queues k l (subst (λ (z : List Pending). IsTrue (has_label (filter_map pending_label z) l)) (part_set (λ y. y.queue) s.domains d x queue k) h);
    }

    -- the queues do while a register is written
    queues_stay : (d r : ℕ) (w : Value) (k : ℕ) (l : Label) → IsTrue (has_label (filter_map pending_label (domain_at (with_register s d r w) k).queue) l) → IsTrue (f.held l)
    queues_stay d r w k l h = f.queues k l (subst (λ (z : List Pending). IsTrue (has_label (filter_map pending_label z) l)) (part_set (λ y. y.queue) s.domains d _ refl k) h)

    -- a register gets a held label, or none
    follows_register : (d r : ℕ) (w : Value) → ((l : Label) → w ≡ Block l → IsTrue (f.held l)) → Follows (with_register s d r w) owed
    follows_register d r w holds = record {
      held = f.held;
      over = f.over;
      covers = f.covers;
      registers = λ k j l un e. ⊎_elim (λ t. holds l t.2) (λ was. f.registers k j l un was) (register_cases s d r w k j l e);
      queues = queues_stay d r w;
    }

    -- a register gets a value that it owes
    follows_owed : (d r : ℕ) (w : Value) → Follows (with_register s d r w) (owing_register owed d r)
    follows_owed d r w = record {
      held = f.held;
      over = f.over;
      covers = f.covers;
      registers = λ k j l un e.
          let parts = either_false (eqb k d && eqb j r) (owed k j) un in ⊎_elim
          (λ t. absurd (let here : eqb k d && eqb j r ≡ true = and_both (eqb k d) (eqb j r) (eq-eqb k d t.0) (eq-eqb j r t.1) in let clash : true ≡ false = sym here ∙ parts.0 in cc))
          (λ was. f.registers k j l parts.1 was)
          (register_cases s d r w k j l e);
      queues = queues_stay d r w;
    }

    follows_more : (d r : ℕ) → Follows s (owing_register owed d r)
    follows_more d r = record {
      held = f.held;
      over = f.over;
      covers = f.covers;
      registers = λ k j l un e. f.registers k j l (either_false (eqb k d && eqb j r) (owed k j) un).1 e;
      queues = f.queues;
    }

    -- a register gets a covered label
    gets_label : (d r : ℕ) (x : Label) → InCover old marked x → Follows (with_register s d r (Block x)) owed
    gets_label d r x cover = record {
      held = λ l. same_label x l || f.held l;
      over = f.over;
      covers = covers_holds old marked s.graph f.held f.over f.covers (λ l. same_label x l || f.held l) (λ l h. ⊎_elim
          (λ here. subst (InCover old marked) (same_label-true x l here) cover)
          (λ was. f.covers.covered l was)
          (or_cases (same_label x l) (f.held l) h));
      registers = λ k j l un e. ⊎_elim
          (λ t. or_left (same_label x l) (f.held l) (own_label x l t.2))
          (λ was. or_right (same_label x l) (f.held l) (f.registers k j l un was))
          (register_cases s d r (Block x) k j l e);
      queues = λ k l h. or_right (same_label x l) (f.held l) (queues_stay d r (Block x) k l h);
    }

    gets : (d r : ℕ) (w : Value) → ((l : Label) → w ≡ Block l → InCover old marked l) → Follows (with_register s d r w) owed
    gets d r (Int z) covers = follows_register d r (Int z) (λ l e. cc)
    gets d r Nothing covers = follows_register d r Nothing (λ l e. cc)
    gets d r (Block x) covers = gets_label d r x (covers x refl)

    -- a block is made
    module _ (numbered : IsNumbered s) (d dst : ℕ) (n : Node) (empty : (i : ℕ) (x : Label) → field_in (Some n) i ≡ Some (Block x) → ⊥) where
      abbrev made : Label
      made = record { domain = d; serial = (domain_at s d).serial + 1 }

      abbrev counted : DomainState
      counted = record (domain_at s d) { serial = (domain_at s d).serial + 1 }

      abbrev longer : State
      longer = record (with_domain s d counted) { graph = s.graph ++ (made, n) ∷ []; kept = s.kept + 1 }

      makes : Follows (allocated s d dst n).state owed
      makes = record {
        held = λ k. same_label made k || f.held k;
        over = f.over;
        covers = covers_makes old marked s.graph f.held f.over f.covers made n (next_label-new s numbered d) empty;
        registers = λ k j x un e. ⊎_elim
            (λ t. or_left (same_label made x) (f.held x) (own_label made x t.2))
            (λ was. or_right (same_label made x) (f.held x) (f.registers k j x un
            (ap (λ (z : List Value). get_or z j Nothing) (sym (part_set (λ y. y.registers) s.domains d counted refl k)) ∙ was)))
            (register_cases longer d dst (Block made) k j x e);
        queues = λ k x h. or_right (same_label made x) (f.held x) (f.queues k x
            (subst (λ (z : List Pending). IsTrue (has_label (filter_map pending_label z) x)) (part_set (λ y. y.queue) longer.domains d _ refl k
            ∙ part_set (λ y. y.queue) s.domains d counted refl k) h));
      }

    -- a block is written that keeps the fields that a scan follows
    writes_alike : (l : Label) (before after : Node) → node_at s.graph l ≡ Some before → ((i : ℕ) → field_in (Some after) i ≡ field_in (Some before) i) → Follows (with_block s l after) owed
    writes_alike l before after node alike = record {
      held = f.held;
      over = f.over;
      covers = covers_alike old marked s.graph f.held f.over f.covers l before after node alike;
      registers = f.registers;
      queues = f.queues;
    }

    -- a field of a plain block is written
    writes_plain : (l : Label) (tag : ℕ) (fields : List Value) (i : ℕ) (w : Value) → node_at s.graph l ≡ Some (Plain tag fields) → ((x : Label) → w ≡ Block x → IsTrue (f.held x))
        → ((x : Label) → field_at old l i ≡ Some (Block x) → IsTrue (marked x)) → Follows (with_block s l (Plain tag (set fields i w))) owed
    writes_plain l tag fields i w node holds barrier = record {
      held = f.held;
      over = λ k j. same_label l k && eqb i j || f.over k j;
      covers = covers_stores old marked s.graph f.held f.over f.covers l tag fields i w node holds barrier;
      registers = f.registers;
      queues = f.queues;
    }

    told : (b : Bool) → Follows (tells s b).state owed
    told true = f
    told false = f

    -- the end of a domain
    follows_end : (d : ℕ) → Follows (next s (End d)) owed
    follows_end d = record {
      held = f.held;
      over = f.over;
      covers = f.covers;
      registers = λ k r l un e. ⊎_elim
          (λ t. absurd (empty (length (domain_at s d).registers) r l (subst (λ (z : DomainState). get_or z.registers r Nothing ≡ Block l) t.1 e)))
          (λ t. f.registers k r l un (subst (λ (z : DomainState). get_or z.registers r Nothing ≡ Block l) t e))
          (set_cases s.domains d (ended (domain_at s d)) no_domain k);
      queues = λ k l h. f.queues k l (subst (λ (z : List Pending). IsTrue (has_label (filter_map pending_label z) l)) (part_set (λ y. y.queue) s.domains d (ended (domain_at s d)) refl k) h);
    }
      where
        empty : (n r : ℕ) (l : Label) → get_or (replicate n Nothing) r Nothing ≡ Block l → ⊥
        empty zero r l e = cc
        empty (suc n) zero l e = cc
        empty (suc n) (suc r) l e = empty n r l e

    -- the first of a queue leaves
    first_leaves : (d : ℕ) (p : Pending) (rest : List Pending) → (domain_at s d).queue ≡ p ∷ rest → Follows (with_domain s d (without_first (domain_at s d) rest)) owed
    first_leaves d p rest e = record {
      held = f.held;
      over = f.over;
      covers = f.covers;
      registers = λ k r l un at. f.registers k r l un (ap (λ (z : List Value). get_or z r Nothing) (sym (part_set (λ y. y.registers) s.domains d (without_first (domain_at s d) rest) refl k)) ∙ at);
      queues = λ k l h. ⊎_elim
          (λ t. f.queues d l (subst (λ (z : List Pending). IsTrue (has_label (filter_map pending_label z) l)) (sym e)
          (behind p rest l (subst (λ (z : DomainState). IsTrue (has_label (filter_map pending_label z.queue) l)) t.1 h))))
          (λ t. f.queues k l (subst (λ (z : DomainState). IsTrue (has_label (filter_map pending_label z.queue) l)) t h))
          (set_cases s.domains d (without_first (domain_at s d) rest) no_domain k);
    }

  -- a finaliser that runs
  module _ (s : State) (owed : ℕ → ℕ → Bool) (f : Follows s owed) where
    follows_run : (d : ℕ) (queue : List Pending) → (domain_at s d).queue ≡ queue → Follows (after_run s d queue) owed
    unfolding first_leaves
    follows_run d [] e = f
    follows_run d (Fin number l r ∷ rest) e = follows_register (with_domain s d (without_first (domain_at s d) rest)) owed (first_leaves s owed f d (Fin number l r) rest e) d r (Block l)
        (λ x is. f.queues d x (subst (λ (z : List Pending). IsTrue (has_label (filter_map pending_label z) x)) (sym e)
        (or_left (same_label l x) (has_label (filter_map pending_label rest) x) (own_label l x is))))
    follows_run d (Last number ∷ rest) e = first_leaves s owed f d (Last number) rest e

  -- a command of a domain that owes nothing
  module _ (s : State) (owed : ℕ → ℕ → Bool) (f : Follows s owed) (all_full : AllFull s.graph) (d : ℕ) (nothing_owed : (r : ℕ) → owed d r ≡ false) where
    held_in : (r : ℕ) (l : Label) → register s d r ≡ Block l → IsTrue (f.held l)
    held_in r l e = f.registers d r l (nothing_owed r) e

    -- the block in a register
    named : (r : ℕ) (l : Label) (n : Node) → block_in s d r ≡ Some (l, n) → register s d r ≡ Block l
    named r l n e = is_block (register s d r) l (held_block s d r l n e).label

    node_of : (r : ℕ) (l : Label) (n : Node) → block_in s d r ≡ Some (l, n) → node_at s.graph l ≡ Some n
    node_of r l n e = (held_block s d r l n e).node

    -- a value that may be missing
    within : {A : Type 0} (P : State → Type 0) → P s → (o : Option A) (g : A → Outcome) → ((a : A) → o ≡ Some a → P (g a).state) → P (in_bounds s o g).state
    within P here None g each = here
    within P here (Some a) g each = each a refl

    abbrev Good : State → Type 0
    Good t = Follows t owed

    not_an_int : (w : Value) (x : Label) → IsTrue (is_int_value w) → w ≡ Block x → ⊥
    not_an_int w x int is = let clash : IsTrue (is_int_value (Block x)) = subst (λ z. IsTrue (is_int_value z)) is int in let wrong : false ≡ true = clash in cc

    loads : (dst src index : ℕ) → Good (loaded s d dst index (block_in s d src)).state
    loads dst src index = go (block_in s d src) refl
      where
        go : (b : Option (Label × Node)) → block_in s d src ≡ b → Good (loaded s d dst index b).state
        go None e = f
        go (Some (l, Ephe keys datum)) e = f
        go (Some (l, Plain tag fields)) e = within Good f (slice_get fields index) _ (λ w at.
            gets s owed f d dst w (λ x is. field_covered old marked s.graph f.held f.over f.covers l index x (held_in src l (named src l (Plain tag fields) e))
            (ap (λ o. field_in o index) (node_of src l (Plain tag fields) e) ∙ (at ∙ ap Some is))))
        go (Some (l, Raw tag fields)) e = within Good f (slice_get fields index) _ (λ w at.
            gets s owed f d dst w (λ x is. absurd (not_an_int w x (all_at is_int_value fields (all_full l (Raw tag fields) (node_of src l (Raw tag fields) e)) index w at) is)))

    -- a field is written, where the command writes it
    module _ (block index item : ℕ) (g : Label → Node → Value → Outcome)
        (each : (l : Label) (n new : Node) (found : Value) → block_in s d block ≡ Some (l, n)
        → ((register s d block ≡ Block l → (tag : ℕ) (fields : List Value) → n ≡ Plain tag fields → slice_get fields index ≡ Some found
        → (x : Label) → field_at old l index ≡ Some (Block x) → IsTrue (marked x)) → Good (with_block s l new)) → Good (g l new found).state) where
      writes : (b : Option (Label × Node)) (v : Value) → block_in s d block ≡ b → register s d item ≡ v → Good (at_field s index b v g).state
      writes None v e at = f
      writes (Some (l, Ephe keys datum)) v e at = f
      writes (Some (l, Plain tag fields)) Nothing e at = f
      writes (Some (l, Plain tag fields)) (Int z) e at = within Good f (slice_get fields index) _ (λ found is. each l (Plain tag fields) _ found e (λ barrier.
          writes_plain s owed f l tag fields index (Int z) (node_of block l (Plain tag fields) e) (λ x w. cc) (barrier (named block l (Plain tag fields) e) tag fields refl is)))
      writes (Some (l, Plain tag fields)) (Block k) e at = within Good f (slice_get fields index) _ (λ found is. each l (Plain tag fields) _ found e (λ barrier.
          writes_plain s owed f l tag fields index (Block k) (node_of block l (Plain tag fields) e) (λ x w. held_in item x (at ∙ w)) (barrier (named block l (Plain tag fields) e) tag fields refl is)))
      writes (Some (l, Raw tag fields)) Nothing e at = f
      writes (Some (l, Raw tag fields)) (Int z) e at = within Good f (slice_get fields index) _ (λ found is. each l (Raw tag fields) _ found e (λ barrier.
          writes_alike s owed f l (Raw tag fields) (Raw tag (set fields index (Int z))) (node_of block l (Raw tag fields) e) (λ i. refl)))
      writes (Some (l, Raw tag fields)) (Block k) e at = f

    stores : (block index item : ℕ) → ((l x : Label) → register s d block ≡ Block l → field_at old l index ≡ Some (Block x) → IsTrue (marked x))
        → Good (stored s index (block_in s d block) (register s d item)).state
    stores block index item barrier = writes block index item _ (λ l n new found e goes. goes (λ at tag fields is here x was. barrier l x at was)) (block_in s d block) (register s d item) refl refl

    exchanges : (block index expected item : ℕ)
        → ((l x : Label) (found : Value) → register s d block ≡ Block l → field_at s.graph l index ≡ Some found → IsTrue (same_value found (register s d expected))
        → field_at old l index ≡ Some (Block x) → IsTrue (marked x))
        → Good (exchanged s index (block_in s d block) (register s d expected) (register s d item)).state
    exchanges block index expected item barrier = go (register s d expected) refl
      where
        where_same : (l : Label) (n new : Node) (found v : Value) → block_in s d block ≡ Some (l, n) → register s d expected ≡ v
            → ((register s d block ≡ Block l → (tag : ℕ) (fields : List Value) → n ≡ Plain tag fields → slice_get fields index ≡ Some found
            → (x : Label) → field_at old l index ≡ Some (Block x) → IsTrue (marked x)) → Good (with_block s l new))
            → (b : Bool) → same_value found v ≡ b → Good (written_where s l new b).state
        where_same l n new found v e at goes true is = goes (λ here tag fields plain found_at x was. barrier l x found here
            (ap (λ o. field_in o index) (node_of block l n e) ∙ (ap (λ m. field_in (Some m) index) plain ∙ found_at))
            (subst (λ w. IsTrue (same_value found w)) (sym at) is) was)
        where_same l n new found v e at goes false is = f

        go : (v : Value) → register s d expected ≡ v → Good (exchanged s index (block_in s d block) v (register s d item)).state
        go Nothing at = f
        go (Int z) at = writes block index item _ (λ l n new found e goes. where_same l n new found (Int z) e at goes (same_value found (Int z)) refl)
            (block_in s d block) (register s d item) refl refl
        go (Block k) at = writes block index item _ (λ l n new found e goes. where_same l n new found (Block k) e at goes (same_value found (Block k)) refl)
            (block_in s d block) (register s d item) refl refl

    -- what a command does with an ephemeron
    at_keys : (P : State → Type 0) (ephe : ℕ) (g : Label → List (Option Label) → Value → Outcome) → P s
        → ((l : Label) (keys : List (Option Label)) (datum : Value) → node_at s.graph l ≡ Some (Ephe keys datum) → P (g l keys datum).state) → P (at_ephe s (block_in s d ephe) g).state
    at_keys P ephe g none each = go (block_in s d ephe) refl
      where
        go : (b : Option (Label × Node)) → block_in s d ephe ≡ b → P (at_ephe s b g).state
        go None e = none
        go (Some (l, Plain tag fields)) e = none
        go (Some (l, Raw tag fields)) e = none
        go (Some (l, Ephe keys datum)) e = each l keys datum (node_of ephe l (Ephe keys datum) e)

    sets_key : (ephe index : ℕ) (key : Option Label) → Good (at_ephe s (block_in s d ephe) (key_set s index key)).state
    sets_key ephe index key = at_keys Good ephe (key_set s index key) f (λ l keys datum node.
        within Good f (slice_get keys index) _ (λ _ _. writes_alike s owed f l (Ephe keys datum) (Ephe (set keys index key) datum) node (λ i. refl)))

    sets_datum : (ephe : ℕ) (w : Value) → Good (at_ephe s (block_in s d ephe) (datum_set s w)).state
    sets_datum ephe w = at_keys Good ephe (datum_set s w) f (λ l keys datum node. writes_alike s owed f l (Ephe keys datum) (Ephe keys w) node (λ i. refl))

    stores_key : (ephe index : ℕ) (key : Option Label) → Good (key_stored s index key (block_in s d ephe)).state
    stores_key ephe index None = f
    stores_key ephe index (Some k) = sets_key ephe index (Some k)

    stores_datum : (ephe : ℕ) (w : Value) → Good (datum_stored s (block_in s d ephe) w).state
    stores_datum ephe Nothing = f
    stores_datum ephe (Int z) = sets_datum ephe (Int z)
    stores_datum ephe (Block k) = sets_datum ephe (Block k)

    registers_final : (number dst : ℕ) (l : Option Label) → Good (finalised s d number dst l).state
    registers_final number dst None = f
    registers_final number dst (Some l) = follows_domain s owed f d _ refl refl

    registers_last : (number : ℕ) (l : Option Label) → Good (finalised_last s d number l).state
    registers_last number None = f
    registers_last number (Some l) = follows_domain s owed f d _ refl refl

    abbrev Owing : ℕ → State → Type 0
    Owing dst t = Follows t (owing_register owed d dst)

    module _ (past : Snapshot) (m : Marks) (is_old : past.old ≡ old) (is_marked : m.marked ≡ marked) (numbered : IsNumbered s) where
      barrier_of : (l x : Label) (index : ℕ) → (field_at past.old l index ≡ Some (Block x) → IsTrue (m.marked x)) → field_at old l index ≡ Some (Block x) → IsTrue (marked x)
      barrier_of l x index b at = subst (λ z. IsTrue (z x)) is_marked (b (subst (λ g. field_at g l index ≡ Some (Block x)) (sym is_old) at))

      command : (c : Command) → WriteBarrier past m s d c → Follows (outcome s d c).state (owed_after owed d c)
      command (PutInt dst value) barrier = gets s owed f d dst (Int value) (λ l e. cc)
      command (Copy dst src) barrier = gets s owed f d dst (register s d src) (λ l e. f.covers.covered l (held_in src l e))
      command (Forget dst) barrier = gets s owed f d dst Nothing (λ l e. cc)
      command (Alloc dst tag fields) barrier = makes s owed f numbered d dst (new_plain tag fields) (no_field fields)
      command (AllocMaj dst tag fields) barrier = makes s owed f numbered d dst (new_plain tag fields) (no_field fields)
      command (Load dst src index) barrier = loads dst src index
      command (Store block index item) barrier = stores block index item (λ l x at. barrier_of l x index (barrier l x at))
      command (NewRaw dst tag fields) barrier = makes s owed f numbered d dst (new_raw tag fields) (λ i x e. cc)
      command (Cas block index expected item) barrier = exchanges block index expected item (λ l x found at here same. barrier_of l x index (barrier l x found at here same))
      command (NewEphe dst keys) barrier = makes s owed f numbered d dst (Ephe (replicate keys None) Nothing) (λ i x e. cc)
      command (SetKey ephe index item) barrier = stores_key ephe index (label_in s d item)
      command (UnsetKey ephe index) barrier = sets_key ephe index None
      command (GetKey dst ephe index) barrier = at_keys (Owing dst) ephe _ (follows_more s owed f d dst) (λ l keys datum node.
          within (Owing dst) (follows_more s owed f d dst) (slice_get keys index) _ (λ k _. follows_owed s owed f d dst (key_value k)))
      command (CheckKey ephe index) barrier = at_keys Good ephe _ f (λ l keys datum node. within Good f (slice_get keys index) _ (λ k _. told s owed f (is_some k)))
      command (SetData ephe item) barrier = stores_datum ephe (register s d item)
      command (UnsetData ephe) barrier = sets_datum ephe Nothing
      command (GetData dst ephe) barrier = at_keys (Owing dst) ephe _ (follows_more s owed f d dst) (λ l keys datum node. follows_owed s owed f d dst datum)
      command (CheckData ephe) barrier = at_keys Good ephe _ f (λ l keys datum node. told s owed f (is_full_value datum))
      command (Finalise item number dst) barrier = registers_final number dst (label_in s d item)
      command (FinaliseLast item number) barrier = registers_last number (label_in s d item)
      command Poll barrier = f
      command Minor barrier = f
      command Major barrier = f
      command FullMajor barrier = f
      command (Spawn section item) barrier = f
      command (Argument dst) barrier = f
      command (PutResult item) barrier = f
      command (Join dst section) barrier = f

      follows_command : (c : Command) → WriteBarrier past m s d c → Follows (next s (CommandOf d c false)) (owed_after owed d c)
      follows_command c barrier = follows_domain (outcome s d c).state (owed_after owed d c) (command c barrier) d _ refl refl

-- the parts of what is known
module _ (past : Snapshot) (m : Marks) (s : State) (b : IsBeside past m s) where
  follows_of : Follows past.old m.marked s past.owed
  follows_of = record {
    held = past.held;
    over = past.overwritten;
    covers = record { grown = b.grown; same = b.same; lost = b.lost; covered = b.held; new_fields = b.new_fields; stored = b.stored };
    registers = b.registers;
    queues = b.queues;
  }

  later_of : (t : State) (owed : ℕ → ℕ → Bool) → AllFull t.graph → Follows past.old m.marked t owed → Later past m t owed
  later_of t owed full f = (
    f.held,
    f.over,
    record {
      grown = f.covers.grown;
      closed_old = b.closed_old;
      full = full;
      same = f.covers.same;
      scanned = b.scanned;
      lost = f.covers.lost;
      held = f.covers.covered;
      new_fields = f.covers.new_fields;
      stored = f.covers.stored;
      new_marked = b.new_marked;
      new_scanned = b.new_scanned;
      registers = f.registers;
      queues = f.queues;
    },
  )

  pub beside_commands : IsNumbered s → (d : ℕ) (c : Command) → ((r : ℕ) → past.owed d r ≡ false) → WriteBarrier past m s d c
      → Later past m (next s (CommandOf d c false)) (owed_after past.owed d c)
  beside_commands numbered d c nothing_owed barrier = later_of (next s (CommandOf d c false)) (owed_after past.owed d c) (full_outcome s d c b.full)
      (follows_command past.old m.marked s past.owed follows_of b.full d nothing_owed past m refl refl numbered c barrier)

  pub beside_refuses : (d : ℕ) (c : Command) → Later past m (next s (CommandOf d c true)) past.owed
  beside_refuses d c = later_of (next s (CommandOf d c true)) past.owed b.full (follows_domain past.old m.marked s past.owed follows_of d _ refl refl)

  pub beside_ends : (d : ℕ) → Later past m (next s (End d)) past.owed
  beside_ends d = later_of (next s (End d)) past.owed b.full (follows_end past.old m.marked s past.owed follows_of d)

  full_run : (d : ℕ) (queue : List Pending) → AllFull (after_run s d queue).graph
  full_run d [] = b.full
  full_run d (Fin number l r ∷ rest) = b.full
  full_run d (Last number ∷ rest) = b.full

  pub beside_runs : (d : ℕ) → Later past m (next s (Ran d)) past.owed
  beside_runs d = later_of (next s (Ran d)) past.owed (full_run d (domain_at s d).queue)
      (follows_run past.old m.marked s past.owed follows_of d (domain_at s d).queue refl)

  -- marking goes on
  pub beside_darkens : (l : Label) → m.marked l ≡ false → IsBeside past (darkened m l) s
  beside_darkens l un = record {
    grown = b.grown;
    closed_old = b.closed_old;
    full = b.full;
    same = b.same;
    scanned = λ k i x is scanned at. ⊎_elim
        (λ here. absurd (not_true (same_label l k) (and_left (not (same_label l k)) (m.scanned k) scanned) (subst (λ z. IsTrue (same_label l z)) here (same_label_refl l))))
        (λ was. more x (b.scanned k i x was (and_right (not (same_label l k)) (m.scanned k) scanned) at))
        (darkened_cases m l k is);
    lost = λ k i x over at. more x (b.lost k i x over at);
    held = λ k h. wider k (b.held k h);
    new_fields = λ k i x new at. wider x (b.new_fields k i x new at);
    stored = λ k i x over at. wider x (b.stored k i x over at);
    new_marked = λ k new. more k (b.new_marked k new);
    new_scanned = λ k new. darkened_scanned m l k (unlike m.marked l k un (b.new_marked k new)) (b.new_scanned k new);
    registers = b.registers;
    queues = b.queues;
  }
    where
      more : More m.marked (darkened m l).marked
      more = darkened_more m l

      wider : (x : Label) → InCover past.old m.marked x → InCover past.old (darkened m l).marked x
      wider = cover_more past.old m.marked (darkened m l).marked (darkened_more m l)

  pub beside_scans : (l : Label) → ((i : ℕ) (x : Label) → field_at past.old l i ≡ Some (Block x) → IsTrue (m.marked x)) → IsBeside past (with_scanned m l) s
  beside_scans l done = record {
    grown = b.grown;
    closed_old = b.closed_old;
    full = b.full;
    same = b.same;
    scanned = λ k i x is scanned at. ⊎_elim
        (λ here. done i x (subst (λ z. field_at past.old z i ≡ Some (Block x)) (sym (same_label-true l k here)) at))
        (λ was. b.scanned k i x is was at)
        (or_cases (same_label l k) (m.scanned k) scanned);
    lost = b.lost;
    held = b.held;
    new_fields = b.new_fields;
    stored = b.stored;
    new_marked = b.new_marked;
    new_scanned = λ k new. or_right (same_label l k) (m.scanned k) (b.new_scanned k new);
    registers = b.registers;
    queues = b.queues;
  }

  pub beside_reads : (l x : Label) (i : ℕ) → field_at past.old l i ≡ Some (Block x) → IsTrue (m.marked x) ⊎ (field_at s.graph l i ≡ Some (Block x))
  beside_reads l x i at = ⊎_elim
      (λ new. absurd (no_old_field past.old l i x new at))
      (λ known. ⊎_elim
      (λ over. inl (b.lost l i x over at))
      (λ kept. inr (b.same l i known kept ∙ at))
      (true_or_false (past.overwritten l i)))
      (true_or_false (is_new past.old l))

  -- a state with the same graph, registers and queues
  pub later_same : (t : State) → t.graph ≡ s.graph → ((k : ℕ) → (domain_at t k).registers ≡ (domain_at s k).registers) → ((k : ℕ) → (domain_at t k).queue ≡ (domain_at s k).queue)
      → IsBeside past m t
  later_same t graph registers queues = record {
    grown = λ l h. subst (λ (g : Graph). IsTrue (has_label (labels g) l)) (sym graph) (b.grown l h);
    closed_old = b.closed_old;
    full = λ l n at. b.full l n (subst (λ (g : Graph). node_at g l ≡ Some n) graph at);
    same = λ l i known kept. ap (λ (g : Graph). field_at g l i) graph ∙ b.same l i known kept;
    scanned = b.scanned;
    lost = b.lost;
    held = b.held;
    new_fields = λ l i x new at. b.new_fields l i x new (subst (λ (g : Graph). field_at g l i ≡ Some (Block x)) graph at);
    stored = λ l i x over at. b.stored l i x over (subst (λ (g : Graph). field_at g l i ≡ Some (Block x)) graph at);
    new_marked = b.new_marked;
    new_scanned = b.new_scanned;
    registers = λ k r l un at. b.registers k r l un (subst (λ (z : List Value). get_or z r Nothing ≡ Block l) (registers k) at);
    queues = λ k l h. b.queues k l (subst (λ (z : List Pending). IsTrue (has_label (filter_map pending_label z) l)) (queues k) h);
  }

  -- registers are owed no longer
  pub beside_pays : (owed : ℕ → ℕ → Bool)
      → ((k r : ℕ) → owed k r ≡ false → (past.owed k r ≡ false) ⊎ ((l : Label) → register s k r ≡ Block l → IsTrue (m.marked l))) → Later past m s owed
  beside_pays owed paid = later_of s owed b.full (record {
    held = λ l. past.held l || m.marked l;
    over = past.overwritten;
    covers = record {
      grown = b.grown;
      same = b.same;
      lost = b.lost;
      covered = λ l h. ⊎_elim (λ was. b.held l was) (λ is. cover_marked past.old m.marked l is) (or_cases (past.held l) (m.marked l) h);
      new_fields = b.new_fields;
      stored = b.stored;
    };
    registers = λ k r l un at. ⊎_elim
        (λ was. or_left (past.held l) (m.marked l) (b.registers k r l was at))
        (λ is. or_right (past.held l) (m.marked l) (is l at))
        (paid k r un);
    queues = λ k l h. or_left (past.held l) (m.marked l) (b.queues k l h);
  })

  -- where nobody owes
  module _ (nobody : (k r : ℕ) → past.owed k r ≡ false) (y : Layout) (places : Label → Bool) (known : (l : Label) → is_new past.old l ≡ false → IsTrue (m.marked l) → IsTrue (places l)) where
    held_roots : HoldsRoots (roots s (queues s)) past.held
    held_roots = roots_all s past.held (λ d lt. record {
      registers = λ l h. let t = listed_cases label_of (domain_at s d).registers l h in
          b.registers d t.0 l (nobody d t.0) (get_or_from_slice_get (domain_at s d).registers t.0 t.1 Nothing t.2 ∙ is_block t.1 l t.3);
      queue = b.queues d;
    })

    -- a marked label is new, or that of a block in a pool
    narrower : (l : Label) → InCover past.old m.marked l → InCover past.old (restricted m places).marked l
    narrower l cover set marked new closed = cover set
        (λ x is. ⊎_elim
        (λ fresh. new x fresh)
        (λ older. marked x (and_both (places x) (m.marked x) (known x older is) is))
        (true_or_false (is_new past.old x)))
        new closed

    placed_field : (l x : Label) (i : ℕ) → field_at past.old l i ≡ Some (Block x) → IsTrue (m.marked x) → IsTrue (places x && m.marked x)
    placed_field l x i at is = and_both (places x) (m.marked x) (known x (never_new (has_label (labels past.old) x) (b.closed_old l x i at)) is) is
      where
        never_new : (a : Bool) → IsTrue a → not a ≡ false
        never_new true h = refl
        never_new false h = cc

    pub beside_rests : HoldsRoots (roots s (queues s)) places → ((l : Label) (n : Node) → IsTrue (places l) → node_at s.graph l ≡ Some n → HoldsRoots (names_of n) places)
        → ((a : ℕ) (l : Label) → y.live a ≡ Some l → IsTrue (places l)) → IsUnderWay s y (restricted m places)
    beside_rests rooted leads live = record {
      cover = record { old = past.old; now = s.graph; held = past.held; overwritten = past.overwritten; places = places; marks = restricted m places };
      covered = record {
        same = b.same;
        scanned = λ l i x is scanned at. placed_field l x i at (b.scanned l i x (and_right (places l) (m.marked l) is) scanned at);
        lost = λ l i x over at. placed_field l x i at (b.lost l i x over at);
        held = λ l h. narrower l (b.held l h);
        new_fields = λ l i x new at. narrower x (b.new_fields l i x new at);
        stored = λ l i x over at. narrower x (b.stored l i x over at);
        new_marked = λ l place new. and_both (places l) (m.marked l) place (b.new_marked l new);
        placed = λ l h. and_left (places l) (m.marked l) h;
      };
      now = refl;
      marks = refl;
      held = held_roots;
      live = rooted;
      leads = leads;
      placed = live;
    }

-- when the roots have been darkened
module _ (s : State) (m : Marks) (wf : IsWellFormed s) (full : AllFull s.graph) (traced : IsTraced s.graph m) (rooted : HoldsRoots (roots s (queues s)) m.marked) where
  -- each label in a register, and each in a queue, is a root
  register_root : (k r : ℕ) (l : Label) → register s k r ≡ Block l → IsTrue (has_label (roots s (queues s)) l)
  register_root k r l at = has-append_left (flat_map (λ x. filter_map label_of x.registers) s.domains) (flat_map (filter_map pending_label) (queues s)) l
      (part_has (λ x. filter_map label_of x.registers) s.domains k refl l (listed_register (domain_at s k).registers r at))
    where
      listed_register : (ws : List Value) (j : ℕ) → get_or ws j Nothing ≡ Block l → IsTrue (has_label (filter_map label_of ws) l)
      listed_register ws j e = go (slice_get ws j) refl
        where
          go : (o : Option Value) → slice_get ws j ≡ o → IsTrue (has_label (filter_map label_of ws) l)
          go None none = absurd (let clash : Nothing ≡ Block l = sym (get_or_past ws j none) ∙ e in cc)
            where
              get_or_past : (us : List Value) (i : ℕ) → slice_get us i ≡ None → get_or us i Nothing ≡ Nothing
              get_or_past [] i h = refl
              get_or_past (u ∷ us) zero h = cc
              get_or_past (u ∷ us) (suc i) h = get_or_past us i h
          go (Some w) some = listed_at label_of ws j w l some (ap label_of (sym (get_or_from_slice_get ws j w Nothing some) ∙ e))

  queue_root : (k : ℕ) (l : Label) → IsTrue (has_label (filter_map pending_label (domain_at s k).queue) l) → IsTrue (has_label (roots s (queues s)) l)
  queue_root k l h = has-append_right (flat_map (λ x. filter_map label_of x.registers) s.domains) (flat_map (filter_map pending_label) (queues s)) l
      (subst (λ z. IsTrue (has_label z l)) (sym (flat_map-map (filter_map pending_label) (λ (x : DomainState). x.queue) s.domains))
      (part_has (λ x. filter_map pending_label x.queue) s.domains k refl l h))

  -- what a field of a block leads to has a node
  led_to : (o : Option Node) (l x : Label) (i : ℕ) → node_at s.graph l ≡ o → field_in o i ≡ Some (Block x) → IsTrue (has_label (labels s.graph) x)
  led_to None l x i e at = cc
  led_to (Some (Plain tag fields)) l x i e at = wf.nodes l (Plain tag fields) e x (listed_at label_of fields i (Block x) x at refl)
  led_to (Some (Raw tag fields)) l x i e at = cc
  led_to (Some (Ephe keys datum)) l x i e at = cc

  was_marked : (l x : Label) (i : ℕ) (f : Label → Bool) → field_at s.graph l i ≡ Some (Block x) → IsTrue (is_new s.graph l || f l) → IsTrue (f l)
  was_marked l x i f at h = ⊎_elim (λ new. absurd (no_old_field s.graph l i x new at)) (λ is. is) (or_cases (is_new s.graph l) (f l) h)

  pub beside_starts : IsBeside (past_at s) (with_new s.graph m) s
  beside_starts = record {
    grown = λ l h. h;
    closed_old = λ l x i at. led_to (node_at s.graph l) l x i refl at;
    full = full;
    same = λ l i known kept. refl;
    scanned = λ l i x is scanned at. or_right (is_new s.graph x) (m.marked x)
        (traced l (was_marked l x i m.marked at is) (was_marked l x i m.scanned at scanned) x (field_listed (node_at s.graph l) i x at));
    lost = λ l i x over at. let clash : false ≡ true = over in cc;
    held = λ l h. cover_marked s.graph (with_new s.graph m).marked l (or_right (is_new s.graph l) (m.marked l) (rooted l h));
    new_fields = λ l i x new at. absurd (no_old_field s.graph l i x new at);
    stored = λ l i x over at. let clash : false ≡ true = over in cc;
    new_marked = λ l new. or_left (is_new s.graph l) (m.marked l) new;
    new_scanned = λ l new. or_left (is_new s.graph l) (m.scanned l) new;
    registers = λ k r l un at. register_root k r l at;
    queues = queue_root;
  }

pub beside_law : BesideLaw
beside_law = record {
  starts = beside_starts;
  darkens = beside_darkens;
  scans = beside_scans;
  reads = beside_reads;
  commands = beside_commands;
  refuses = beside_refuses;
  ends = beside_ends;
  runs = beside_runs;
  stays = λ past m s t b. later_same past m s b t;
  pays = beside_pays;
  rests = λ past m s b nobody y places known. beside_rests past m s b nobody y places known;
}
