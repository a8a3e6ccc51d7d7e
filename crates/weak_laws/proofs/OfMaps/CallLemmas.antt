-- One command of a call: what it answers, which registers it changes, which block, and what it does to a map.
use Rattle.std.proofs.Common.{◌≡◌, ◌≢◌, ◌⊎◌, inl, inr, ℕ, ◌+◌, ◌<◌, Bool, true, false, List, [], ◌∷◌, ◌++◌, length, get_or, set, slice_get, ℤ, Option, Some, None, refl, ap, sym, ◌∙◌, subst, append_assoc}
use Rattle.model_core.specs.declared.label.Label.{Label}
use Rattle.model_core.specs.declared.command.Command.{Command}
use Rattle.model_core.specs.declared.command.Command.TheVariants.{PutInt, Copy, Forget, Alloc, Load, Store, Cas, Ephe as NewEphe, SetKey, GetKey, SetData, GetData}
use Rattle.model_core.specs.declared.entry.Entry.{Entry}
use Rattle.model_core.specs.declared.entry.Entry.TheVariants.{Command as CommandOf}
use Rattle.model_core.specs.declared.graph.Value.{Value}
use Rattle.model_core.specs.declared.graph.Value.TheVariants.{Int, Block, Nothing}
use Rattle.model_core.specs.declared.graph.Node.{Node}
use Rattle.model_core.specs.declared.graph.Node.TheVariants.{Plain, Ephe}
use Rattle.model_core.specs.declared.reply.Reply.{Reply}
use Rattle.model_core.specs.declared.reply.Reply.TheVariants.{Done, Block as BlockReply, BadType, Yes, No, Full}
use Rattle.model_core.specs.declared.reply.Applied.TheVariants.{Replied}
use Rattle.model_core.specs.declared.state.Sizes.{Sizes}
use Rattle.model_core.specs.declared.state.State.{State}
use Rattle.model_core.specs.Graph.{Graph, node_at, with_node}
use Rattle.model_core.specs.Domains.{domain_at, register, opening}
use Rattle.model_core.specs.Commands.{CommandAllowed, FullOnlyWhereAllowed, MayBeFull, is_allocation, same_value, shown, key_value, new_plain}
use Rattle.model_core.specs.Entries.{next, reply}
use Rattle.model_core.specs.History.{IsPrefix, Legal, LegalFrom}
use Rattle.model_core.specs.Fronts.{KeepsDomain}
use Rattle.model_core.proofs.Commands.FrameLemmas.{inside_running}
use Rattle.model_core.proofs.Commands.LeavesLemmas.{Leaves, new_label, takes_plain, leaves_put, leaves_copy, leaves_forget, leaves_load, leaves_load_kind, leaves_store, leaves_cas_written, leaves_cas_kept, leaves_full, leaves_allocation}
use Rattle.model_core.proofs.Histories.FrontLemmas.{keeps_front}
use Rattle.model_core.proofs.Histories.NumberLemmas.{next_label_after}
use Rattle.weak_laws.specs.Tables.Thinning.{state_of}
use Rattle.weak_laws.specs.Tables.Stages.{graph_of}
use Rattle.weak_laws.proofs.OfTables.OutcomeLemmas.{leaves_get_key, leaves_get_key_plain, leaves_get_data, leaves_set_key, leaves_set_data}
use Rattle.weak_laws.proofs.OfTables.StepLemmas.{legal_parts}
use Rattle.weak_laws.specs.Maps.Calls.{PerformedBy, registers_after}
use Rattle.weak_laws.specs.Maps.Steps.{AllRespect, OthersRespect}
use Rattle.weak_laws.proofs.OfMaps.FrontLemmas.{other_between, prefix_more, prefix_trans}
use Rattle.weak_laws.proofs.OfMaps.RespectLemmas.{state_push}

-- what the command leaves: the graph, the registers of its domain, and the reply
abbrev pub Took : Sizes → ℕ → List Entry → Reply → Graph → List Value → Reply → Type 0
Took z d new r g rs answer = (graph_of z new ≡ g) × (registers_after z d new ≡ rs) × (r ≡ answer)

module _ (z : Sizes) (d : ℕ) (old new : List Entry) (c : Command) (r : Reply) (p : PerformedBy z d old new c r) where
  -- the front at which the command is made, and the state there
  abbrev pub middle : List Entry
  middle = old ++ p.between

  abbrev pub before : State
  before = state_of z middle

  pub to_middle : IsPrefix old middle
  to_middle = prefix_more old p.between

  pub from_middle : IsPrefix (middle ++ CommandOf d c p.full ∷ []) new
  from_middle = record { rest = []; appends = p.appends ∙ sym (append_nil_front) }
    where
      append_nil_front : (middle ++ CommandOf d c p.full ∷ []) ++ [] ≡ middle ++ CommandOf d c p.full ∷ []
      append_nil_front = append_assoc middle (CommandOf d c p.full ∷ []) []

  pub grows : IsPrefix old new
  grows = record { rest = p.between ++ CommandOf d c p.full ∷ []; appends = p.appends ∙ append_assoc old p.between _ }

  left_is : state_of z new ≡ next before (CommandOf d c p.full)
  left_is = ap (state_of z) p.appends ∙ state_push z middle (CommandOf d c p.full)

  whole_legal : LegalFrom (opening z) middle × LegalFrom before (CommandOf d c p.full ∷ [])
  whole_legal = legal_parts (opening z) middle (CommandOf d c p.full ∷ []) (subst (Legal z) p.appends p.legal)

  allowed : CommandAllowed before d c p.full
  allowed = whole_legal.1.0

  pub legal_middle : Legal z middle
  legal_middle = whole_legal.0

  inside : d < length before.domains
  inside = inside_running before.domains d allowed.running

  kept : KeepsDomain (state_of z old) before d
  kept = keeps_front (opening z) d middle old (record { rest = p.between; appends = refl; others = p.others })

  -- what the registers hold there is what they held before
  pub registers_kept : registers_after z d middle ≡ registers_after z d old
  registers_kept = kept.registers

  held : (i : ℕ) → register before d i ≡ register (state_of z old) d i
  held i = ap (λ (rs : List Value). get_or rs i Nothing) kept.registers

  -- the entries before the command are others'
  pub others_all : (root : Label) → OthersRespect z root d old new → AllRespect z root old middle
  others_all root others front e since until =
      others front e since (prefix_trans (front ++ e ∷ []) middle new until (record { rest = CommandOf d c p.full ∷ []; appends = p.appends }))
      (other_between d old p.between front e p.others since until)

  not_full : is_allocation c ≡ false → p.full ≡ false
  not_full none = go p.full refl
    where
      go : (b : Bool) → p.full ≡ b → b ≡ false
      go false e = refl
      go true e = let may : MayBeFull before d c = subst (FullOnlyWhereAllowed before d c) e allowed.full_fits in let clash : true ≡ false = sym may.allocates ∙ none in cc

  took : (g : Graph) (rs : List Value) (serial : ℕ) (a : Reply) → p.full ≡ false → Leaves before (CommandOf d c false) d g rs serial (Replied a) → Took z d new r g rs a
  took g rs serial a done leaves =
      let here : state_of z new ≡ next before (CommandOf d c false) = left_is ∙ ap (λ b. next before (CommandOf d c b)) done in
      let same : Replied r ≡ Replied a = sym p.replies ∙ (ap (λ b. reply before (CommandOf d c b)) done ∙ leaves.replies) in
      (ap (λ (t : State). t.graph) here ∙ leaves.graph_is, ap (λ (t : State). (domain_at t d).registers) here ∙ leaves.registers_are, cc)

  -- with the registers as they were when the call came to this command
  took_from : (g : Graph) (f : List Value → List Value) (serial : ℕ) (a : Reply) → is_allocation c ≡ false → Leaves before (CommandOf d c false) d g (f (domain_at before d).registers) serial (Replied a)
      → Took z d new r g (f (registers_after z d old)) a
  took_from g f serial a none leaves =
      let t = took g (f (domain_at before d).registers) serial a (not_full none) leaves in
      (t.0, t.1 ∙ ap f kept.registers, t.2)

  -- an allocation is refused and changes nothing, or makes a block with the next label
  abbrev pub made : Label
  made = record { domain = d; serial = (domain_at (state_of z old) d).serial + 1 }

  makes : (dst : ℕ) (n : Node) → (d < length before.domains → Leaves before (CommandOf d c false) d ((before.graph) ++ (new_label before d, n) ∷ []) (set (domain_at before d).registers dst (Block (new_label before d))) ((domain_at before d).serial + 1) (Replied (BlockReply (new_label before d))))
      → ((p.full ≡ true) × Took z d new r before.graph (registers_after z d old) Full)
      ⊎ ((p.full ≡ false) × (node_at before.graph made ≡ None) × Took z d new r (before.graph ++ (made, n) ∷ []) (set (registers_after z d old) dst (Block made)) (BlockReply made))
  makes dst n leaves = go p.full refl
    where
      same_made : new_label before d ≡ made
      same_made = ap (λ (k : ℕ). record { domain = d; serial = k + 1 }) kept.serial

      fresh : node_at before.graph made ≡ None
      fresh = subst (λ (l : Label). node_at before.graph l ≡ None) same_made (next_label_after z middle whole_legal.0 d)

      go : (b : Bool) → p.full ≡ b → ((p.full ≡ true) × Took z d new r before.graph (registers_after z d old) Full)
          ⊎ ((p.full ≡ false) × (node_at before.graph made ≡ None) × Took z d new r (before.graph ++ (made, n) ∷ []) (set (registers_after z d old) dst (Block made)) (BlockReply made))
      go true e =
          let here : state_of z new ≡ next before (CommandOf d c true) = left_is ∙ ap (λ b. next before (CommandOf d c b)) e in
          let x = leaves_full before d c in
          let same : Replied r ≡ Replied Full = sym p.replies ∙ ap (λ b. reply before (CommandOf d c b)) e in
          inl (e, (ap (λ (t : State). t.graph) here ∙ x.graph_is, ap (λ (t : State). (domain_at t d).registers) here ∙ (x.registers_are ∙ kept.registers), cc))
      go false e =
          let t = took _ _ _ _ e (leaves inside) in
          inr (
            e,
            fresh,
            (
              t.0 ∙ ap (λ (l : Label). before.graph ++ (l, n) ∷ []) same_made,
              t.1 ∙ (λ i. set (kept.registers i) dst (Block (same_made i))),
              t.2 ∙ ap BlockReply same_made,
            ),
          )

module _ (z : Sizes) (d : ℕ) (old new : List Entry) (r : Reply) where
  abbrev rs : List Value
  rs = registers_after z d old

  abbrev start : State
  start = state_of z old

  pub put_step : (dst : ℕ) (v : ℤ) (p : PerformedBy z d old new (PutInt dst v) r) → Took z d new r (graph_of z (old ++ p.between)) (set rs dst (Int v)) Done
  put_step dst v p = let c = PutInt dst v in
      took_from z d old new c r p _ (λ (xs : List Value). set xs dst (Int v)) _ _ refl (leaves_put (before z d old new c r p) d (inside z d old new c r p) dst v)

  pub copy_step : (dst src : ℕ) (p : PerformedBy z d old new (Copy dst src) r) → Took z d new r (graph_of z (old ++ p.between)) (set rs dst (get_or rs src Nothing)) Done
  copy_step dst src p = let c = Copy dst src in
      took_from z d old new c r p _ (λ (xs : List Value). set xs dst (get_or xs src Nothing)) _ _ refl (leaves_copy (before z d old new c r p) d (inside z d old new c r p) dst src)

  pub forget_step : (dst : ℕ) (p : PerformedBy z d old new (Forget dst) r) → Took z d new r (graph_of z (old ++ p.between)) (set rs dst Nothing) Done
  forget_step dst p = let c = Forget dst in
      took_from z d old new c r p _ (λ (xs : List Value). set xs dst Nothing) _ _ refl (leaves_forget (before z d old new c r p) d (inside z d old new c r p) dst)

  -- a field of a plain block, as it is when the command is made
  pub load_step : (dst src i : ℕ) (p : PerformedBy z d old new (Load dst src i) r) (l : Label) (tag : ℕ) (fields : List Value) (v : Value) → register start d src ≡ Block l
      → node_at (graph_of z (old ++ p.between)) l ≡ Some (Plain tag fields) → slice_get fields i ≡ Some v → Took z d new r (graph_of z (old ++ p.between)) (set rs dst v) (shown v)
  load_step dst src i p l tag fields v holds node at = let c = Load dst src i in
      took_from z d old new c r p _ (λ (xs : List Value). set xs dst v) _ _ refl
      (leaves_load (before z d old new c r p) d (inside z d old new c r p) dst src i l tag fields v (held z d old new c r p src ∙ holds) node at)

  -- a load from a leaf is refused
  pub load_leaf_step : (dst src i : ℕ) (p : PerformedBy z d old new (Load dst src i) r) (l : Label) (keys : List (Option Label)) (datum : Value) → register start d src ≡ Block l
      → node_at (graph_of z (old ++ p.between)) l ≡ Some (Ephe keys datum) → Took z d new r (graph_of z (old ++ p.between)) rs BadType
  load_leaf_step dst src i p l keys datum holds node = let c = Load dst src i in
      took_from z d old new c r p _ (λ (xs : List Value). xs) _ _ refl (leaves_load_kind (before z d old new c r p) d dst src i l keys datum (held z d old new c r p src ∙ holds) node)

  -- the key of a leaf, as it is when the command is made
  pub get_key_step : (dst ephe : ℕ) (p : PerformedBy z d old new (GetKey dst ephe 0) r) (l : Label) (key : Option Label) (datum : Value) → register start d ephe ≡ Block l
      → node_at (graph_of z (old ++ p.between)) l ≡ Some (Ephe (key ∷ []) datum) → Took z d new r (graph_of z (old ++ p.between)) (set rs dst (key_value key)) (shown (key_value key))
  get_key_step dst ephe p l key datum holds node = let c = GetKey dst ephe 0 in
      took_from z d old new c r p _ (λ (xs : List Value). set xs dst (key_value key)) _ _ refl
      (leaves_get_key (before z d old new c r p) d ephe l key datum (held z d old new c r p ephe ∙ holds) node (inside z d old new c r p) dst)

  -- a plain block has none
  pub get_key_plain_step : (dst ephe : ℕ) (p : PerformedBy z d old new (GetKey dst ephe 0) r) (l : Label) (tag : ℕ) (fields : List Value) → register start d ephe ≡ Block l
      → node_at (graph_of z (old ++ p.between)) l ≡ Some (Plain tag fields) → Took z d new r (graph_of z (old ++ p.between)) rs BadType
  get_key_plain_step dst ephe p l tag fields holds node = let c = GetKey dst ephe 0 in
      took_from z d old new c r p _ (λ (xs : List Value). xs) _ _ refl (leaves_get_key_plain (before z d old new c r p) d dst ephe l tag fields (held z d old new c r p ephe ∙ holds) node)

  -- its datum
  pub get_data_step : (dst ephe : ℕ) (p : PerformedBy z d old new (GetData dst ephe) r) (l : Label) (key : Option Label) (datum : Value) → register start d ephe ≡ Block l
      → node_at (graph_of z (old ++ p.between)) l ≡ Some (Ephe (key ∷ []) datum) → Took z d new r (graph_of z (old ++ p.between)) (set rs dst datum) (shown datum)
  get_data_step dst ephe p l key datum holds node = let c = GetData dst ephe in
      took_from z d old new c r p _ (λ (xs : List Value). set xs dst datum) _ _ refl
      (leaves_get_data (before z d old new c r p) d ephe l key datum (held z d old new c r p ephe ∙ holds) node (inside z d old new c r p) dst)

  pub set_key_step : (ephe item : ℕ) (p : PerformedBy z d old new (SetKey ephe 0 item) r) (l k : Label) (key : Option Label) (datum : Value) → register start d ephe ≡ Block l → register start d item ≡ Block k
      → node_at (graph_of z (old ++ p.between)) l ≡ Some (Ephe (key ∷ []) datum) → Took z d new r (with_node (graph_of z (old ++ p.between)) l (Ephe (Some k ∷ []) datum)) rs Done
  set_key_step ephe item p l k key datum holds is node = let c = SetKey ephe 0 item in
      took_from z d old new c r p _ (λ (xs : List Value). xs) _ _ refl
      (leaves_set_key (before z d old new c r p) d ephe l key datum (held z d old new c r p ephe ∙ holds) node item k (held z d old new c r p item ∙ is))

  pub set_data_step : (ephe item : ℕ) (p : PerformedBy z d old new (SetData ephe item) r) (l : Label) (v : Value) (key : Option Label) (datum : Value) → register start d ephe ≡ Block l → register start d item ≡ v → v ≢ Nothing
      → node_at (graph_of z (old ++ p.between)) l ≡ Some (Ephe (key ∷ []) datum) → Took z d new r (with_node (graph_of z (old ++ p.between)) l (Ephe (key ∷ []) v)) rs Done
  set_data_step ephe item p l v key datum holds is some node = let c = SetData ephe item in
      took_from z d old new c r p _ (λ (xs : List Value). xs) _ _ refl
      (leaves_set_data (before z d old new c r p) d ephe l key datum (held z d old new c r p ephe ∙ holds) node item v (held z d old new c r p item ∙ is) some)

  pub store_step : (block i item : ℕ) (p : PerformedBy z d old new (Store block i item) r) (l : Label) (tag : ℕ) (fields : List Value) (v was : Value) → register start d block ≡ Block l
      → node_at (graph_of z (old ++ p.between)) l ≡ Some (Plain tag fields) → slice_get fields i ≡ Some was → register start d item ≡ v → v ≢ Nothing
      → Took z d new r (with_node (graph_of z (old ++ p.between)) l (Plain tag (set fields i v))) rs Done
  store_step block i item p l tag fields v was holds node at is some = let c = Store block i item in
      took_from z d old new c r p _ (λ (xs : List Value). xs) _ _ refl
      (leaves_store (before z d old new c r p) d block i item l tag fields v was (held z d old new c r p block ∙ holds) node at (held z d old new c r p item ∙ is) some)

  -- a cas answers yes where the field holds what is expected when the command is made, and then alone writes it
  pub cas_step : (block i expected item : ℕ) (p : PerformedBy z d old new (Cas block i expected item) r) (l : Label) (tag : ℕ) (fields : List Value) (e v was : Value) → register start d block ≡ Block l
      → node_at (graph_of z (old ++ p.between)) l ≡ Some (Plain tag fields) → slice_get fields i ≡ Some was → register start d expected ≡ e → e ≢ Nothing → register start d item ≡ v → v ≢ Nothing
      → ((same_value was e ≡ true) × Took z d new r (with_node (graph_of z (old ++ p.between)) l (Plain tag (set fields i v))) rs Yes)
      ⊎ ((same_value was e ≡ false) × Took z d new r (graph_of z (old ++ p.between)) rs No)
  cas_step block i expected item p l tag fields e v was holds node at expects full is some = go (same_value was e) refl
    where
      c : Command
      c = Cas block i expected item

      go : (b : Bool) → same_value was e ≡ b → ((same_value was e ≡ true) × Took z d new r (with_node (graph_of z (old ++ p.between)) l (Plain tag (set fields i v))) rs Yes)
          ⊎ ((same_value was e ≡ false) × Took z d new r (graph_of z (old ++ p.between)) rs No)
      go true same = inl (
        same,
        took_from z d old new (Cas block i expected item) r p _ (λ (xs : List Value). xs) _ _ refl
            (leaves_cas_written (before z d old new (Cas block i expected item) r p) d block i expected item e (held z d old new (Cas block i expected item) r p expected ∙ expects) full l (Plain tag fields) _ v was
            (held z d old new (Cas block i expected item) r p block ∙ holds) node (held z d old new (Cas block i expected item) r p item ∙ is) (takes_plain tag fields i v was at some) same),
      )
      go false other = inr (
        other,
        took_from z d old new (Cas block i expected item) r p _ (λ (xs : List Value). xs) _ _ refl
            (leaves_cas_kept (before z d old new (Cas block i expected item) r p) d block i expected item e (held z d old new (Cas block i expected item) r p expected ∙ expects) full l (Plain tag fields) _ v was
            (held z d old new (Cas block i expected item) r p block ∙ holds) node (held z d old new (Cas block i expected item) r p item ∙ is) (takes_plain tag fields i v was at some) other),
      )

  -- a new block of so many fields, or `full`
  pub alloc_step : (dst tag fields : ℕ) (p : PerformedBy z d old new (Alloc dst tag fields) r)
      → ((p.full ≡ true) × Took z d new r (graph_of z (old ++ p.between)) rs Full)
      ⊎ ((p.full ≡ false) × (node_at (graph_of z (old ++ p.between)) (made z d old new (Alloc dst tag fields) r p) ≡ None)
      × Took z d new r (graph_of z (old ++ p.between) ++ (made z d old new (Alloc dst tag fields) r p, new_plain tag fields) ∷ []) (set rs dst (Block (made z d old new (Alloc dst tag fields) r p))) (BlockReply (made z d old new (Alloc dst tag fields) r p)))
  alloc_step dst tag fields p = makes z d old new (Alloc dst tag fields) r p dst (new_plain tag fields)
      (λ below. leaves_allocation (before z d old new (Alloc dst tag fields) r p) d below (Alloc dst tag fields) dst (new_plain tag fields) refl)

  -- a new ephemeron of one key, or `full`
  pub ephe_step : (dst : ℕ) (p : PerformedBy z d old new (NewEphe dst 1) r)
      → ((p.full ≡ true) × Took z d new r (graph_of z (old ++ p.between)) rs Full)
      ⊎ ((p.full ≡ false) × (node_at (graph_of z (old ++ p.between)) (made z d old new (NewEphe dst 1) r p) ≡ None)
      × Took z d new r (graph_of z (old ++ p.between) ++ (made z d old new (NewEphe dst 1) r p, Ephe (None ∷ []) Nothing) ∷ []) (set rs dst (Block (made z d old new (NewEphe dst 1) r p))) (BlockReply (made z d old new (NewEphe dst 1) r p)))
  ephe_step dst p = makes z d old new (NewEphe dst 1) r p dst (Ephe (None ∷ []) Nothing)
      (λ below. leaves_allocation (before z d old new (NewEphe dst 1) r p) d below (NewEphe dst 1) dst (Ephe (None ∷ []) Nothing) refl)
