-- The fields of the hidden block: every entry of a run leaves them, but for a store into it.
use Rattle.std.proofs.Common.{◌≡◌, ◌≢◌, ◌⊎◌, inl, inr, ⊎_elim, ℕ, zero, suc, ◌<◌, ◌≤◌, Bool, true, false, not, eqb, eqb-true, eq-eqb, nat_lt, IsTrue, List, [], ◌∷◌, length, get_or, set, slice_get, unwrap_or, Option, Some, None, refl, ap, sym, ◌∙◌, subst, arith, get_or-set_same, get_or-set_other}
use Rattle.std.specs.List.{list_all}
use Rattle.std.proofs.lemmas.Bool.Decides.{nat_tests}
use Rattle.model_core.specs.declared.label.Label.{Label}
use Rattle.model_core.specs.declared.command.Command.{Command}
use Rattle.model_core.specs.declared.command.Command.TheVariants.{PutInt, Copy, Forget, Alloc, AllocMaj, Load, Store, Raw as NewRaw, Cas, Ephe as NewEphe, SetKey, UnsetKey, GetKey, CheckKey, SetData, UnsetData, GetData, CheckData, Finalise, FinaliseLast, Poll, Minor, Major, FullMajor, Spawn, Argument, PutResult, Join}
use Rattle.model_core.specs.declared.entry.Entry.{Entry}
use Rattle.model_core.specs.declared.entry.Entry.TheVariants.{Command as CommandOf, End, Cut, Queue, Seal, Wipe, Last as LastOf, Collected, Done, Ran}
use Rattle.model_core.specs.declared.reply.Reply.TheVariants.{Done as Ok, BadType}
use Rattle.model_core.specs.declared.reply.Applied.TheVariants.{Replied}
use Rattle.model_core.specs.declared.graph.Value.{Value}
use Rattle.model_core.specs.declared.graph.Value.TheVariants.{Int, Block, Nothing}
use Rattle.model_core.specs.declared.graph.Node.{Node}
use Rattle.model_core.specs.declared.graph.Node.TheVariants.{Plain}
use Rattle.model_core.specs.declared.state.State.{State}
use Rattle.model_core.specs.Graph.{Graph, same_label, labels, has_label, label_of, node_at, with_node}
use Rattle.model_core.specs.Domains.{domain_at, register, label_in}
use Rattle.model_core.specs.Commands.{shown}
use Rattle.model_core.specs.Entries.{Allowed, has_gone_keys, next, reply}
use Rattle.model_core.specs.Fronts.{PlainShape}
use Rattle.model_core.specs.Laws.{written_by, written}
use Rattle.model_core.specs.WellFormed.{IsNumbered}
use Rattle.model_core.proofs.Graphs.GraphLemmas.{and_parts, same_label-true, same_label_refl, node_at-with_node_same}
use Rattle.model_core.proofs.Graphs.GraphStepLemmas.{nodes_stay_law}
use Rattle.model_core.proofs.Reach.ReachLemmas.{never_not}
use Rattle.model_core.proofs.Commands.FrameLemmas.{grew_next, inside_running}
use Rattle.model_core.proofs.Commands.LeavesLemmas.{Leaves, leaves_load, leaves_store, leaves_store_nothing, leaves_store_past, leaves_full}
use Rattle.model_core.proofs.Histories.FrontLemmas.{plain_of}
use Rattle.model_core.proofs.Histories.NumberLemmas.{next_label-new, node_at-no_label, numbered_next}
use Rattle.model_traces.specs.Spawns.Hidden.{hidden, scratch, hidden_label, hidden_fields}
use Rattle.model_traces.proofs.OfSpawns.Hiding.{is_other, Hides, below_hidden, next_label, is_discreet}
use Rattle.model_traces.proofs.OfSpawns.Keeping.{FitsRun, hides_next, hidden_next}

-- the hidden block is there, and in each running domain's register
pub record IsKept (s : State) : Type 0 where
  pub hides : Hides hidden_label s
  pub numbered : IsNumbered s
  pub fields : List Value
  pub there : node_at s.graph hidden_label ≡ Some (Plain 0 fields)
  pub size : length fields ≡ hidden_fields
  pub holds : (d : ℕ) → (domain_at s d).ended ≡ false → register s d hidden ≡ Block hidden_label

-- a graph with a node at a label has the label
has_its_label : (g : Graph) (l : Label) (n : Node) → node_at g l ≡ Some n → IsTrue (has_label (labels g) l)
has_its_label g l n at = go (has_label (labels g) l) refl
  where
    go : (b : Bool) → has_label (labels g) l ≡ b → has_label (labels g) l ≡ true
    go true e = e
    go false e = absurd (let gone : None ≡ Some n = sym (node_at-no_label g l e) ∙ at in cc)

-- so no new block is that one
pub new_other : (s : State) → IsKept s → (d : ℕ) → IsTrue (not (same_label (next_label s d) hidden_label))
new_other s kept d = never_not (same_label (next_label s d) hidden_label) (λ same.
    let is : next_label s d ≡ hidden_label = same_label-true (next_label s d) hidden_label same in
    let there : IsTrue (has_label (labels s.graph) (next_label s d)) = subst (λ (l : Label). IsTrue (has_label (labels s.graph) l)) (sym is) (has_its_label s.graph hidden_label (Plain 0 kept.fields) kept.there) in
    let clash : false ≡ true = sym (next_label-new s kept.numbered d) ∙ there in
    cc)

-- every entry of such a run keeps this
pub kept_next : (s : State) (e : Entry) → Allowed s e → FitsRun e → IsKept s → IsKept (next s e)
kept_next s e allowed fits kept =
    let grew = grew_next s e hidden_label (Plain 0 kept.fields) kept.there in
    let plain = plain_of grew.0 hidden_fields 0 (grew.2 ∙ ap (λ n. PlainShape n 0) kept.size) in
    record {
      hides = hides_next hidden_label s e kept.hides (new_other s kept) fits;
      numbered = numbered_next s e allowed kept.numbered;
      fields = plain.0;
      there = grew.1 ∙ ap Some plain.1;
      size = plain.2;
      holds = λ d running. let on = hidden_next hidden_label s e d kept.hides fits running in on.same ∙ kept.holds d on.was;
    }

-- what field i of the hidden block holds
abbrev field_in : Option Node → ℕ → Value
field_in (Some (Plain tag fields)) i = get_or fields i Nothing
field_in _ i = Nothing

abbrev pub slot : State → ℕ → Value
slot s i = field_in (node_at s.graph hidden_label) i

-- only the kept register names the block
only_kept : (h : Label) (s : State) → Hides h s → (d r : ℕ) → label_in s d r ≡ Some h → r ≡ hidden
only_kept h s hides d r named = go (eqb r hidden) refl
  where
    clash : (v : Value) → IsTrue (is_other h v) → label_of v ≡ Some h → ⊥
    clash (Int z) is e = cc
    clash Nothing is e = cc
    clash (Block l) is e =
        let same : l ≡ h = cc in
        let twice : IsTrue (not true) = subst (λ b. IsTrue (not b)) (same_label_refl h) (subst (λ (x : Label). IsTrue (not (same_label x h))) same is) in
        let wrong : false ≡ true = twice in cc

    go : (b : Bool) → eqb r hidden ≡ b → r ≡ hidden
    go true e = eqb-true r hidden e
    go false e = absurd (clash (register s d r) ((hides.domains d).registers r (λ same. let twice : true ≡ false = sym (eq-eqb r hidden same) ∙ e in cc)) named)

-- a command that writes into the block is a store by that register
pub record StoresInto (c : Command) : Type 0 where
  pub index : ℕ
  pub item : ℕ
  pub is : c ≡ Store hidden index item

module _ (h : Label) (s : State) (hides : Hides h s) (d : ℕ) where
  not_first : (r : ℕ) (rs : List ℕ) → IsTrue (list_all (λ k. nat_lt k scratch) (r ∷ rs)) → label_in s d r ≡ Some h → ⊥
  not_first r rs all named = below_hidden r (and_parts (nat_lt r scratch) (list_all (λ k. nat_lt k scratch) rs) all).0 (only_kept h s hides d r named)

  writes_hidden : (c : Command) → IsTrue (is_discreet c) → written_by s d c ≡ Some h → StoresInto c
  writes_hidden (Store block index item) is e = record { index = index; item = item; is = ap (λ n. Store n index item) (only_kept h s hides d block e) }
  writes_hidden (Cas block index expected item) is e = absurd (not_first block (expected ∷ item ∷ []) is e)
  writes_hidden (SetKey ephe index item) is e = absurd (not_first ephe (item ∷ []) is e)
  writes_hidden (UnsetKey ephe index) is e = absurd (not_first ephe [] is e)
  writes_hidden (SetData ephe item) is e = absurd (not_first ephe (item ∷ []) is e)
  writes_hidden (UnsetData ephe) is e = absurd (not_first ephe [] is e)
  writes_hidden (PutInt dst value) is e = cc
  writes_hidden (Copy dst src) is e = cc
  writes_hidden (Forget dst) is e = cc
  writes_hidden (Alloc dst tag fields) is e = cc
  writes_hidden (AllocMaj dst tag fields) is e = cc
  writes_hidden (Load dst src index) is e = cc
  writes_hidden (NewRaw dst tag fields) is e = cc
  writes_hidden (NewEphe dst keys) is e = cc
  writes_hidden (GetKey dst ephe index) is e = cc
  writes_hidden (CheckKey ephe index) is e = cc
  writes_hidden (GetData dst ephe) is e = cc
  writes_hidden (CheckData ephe) is e = cc
  writes_hidden (Finalise item number dst) is e = cc
  writes_hidden (FinaliseLast item number) is e = cc
  writes_hidden Poll is e = cc
  writes_hidden Minor is e = cc
  writes_hidden Major is e = cc
  writes_hidden FullMajor is e = cc
  writes_hidden (Spawn section item) is e = cc
  writes_hidden (Argument dst) is e = cc
  writes_hidden (PutResult item) is e = cc
  writes_hidden (Join dst section) is e = cc

-- what a load from the block and a store into it do
module _ (s : State) (kept : IsKept s) (d : ℕ) (running : (domain_at s d).ended ≡ false) where
  inside : d < length s.domains
  inside = inside_running s.domains d running

  slot_is : (i : ℕ) → slot s i ≡ get_or kept.fields i Nothing
  slot_is i = ap (λ (o : Option Node). field_in o i) kept.there

  field_there : (fields : List Value) (i : ℕ) → i < length fields → slice_get fields i ≡ Some (get_or fields i Nothing)
  field_there [] i lt = absurd (omega arith)
  field_there (x ∷ xs) zero lt = refl
  field_there (x ∷ xs) (suc i) lt = field_there xs i (omega arith)

  pub load_answers : (dst i : ℕ) → i < hidden_fields → reply s (CommandOf d (Load dst hidden i) false) ≡ Replied (shown (slot s i))
  load_answers dst i lt =
      (leaves_load s d inside dst hidden i hidden_label 0 kept.fields (get_or kept.fields i Nothing) (kept.holds d running) kept.there (field_there kept.fields i (omega (arith, kept.size)))).replies
      ∙ ap (λ (v : Value). Replied (shown v)) (sym (slot_is i))

  -- a store of something
  module _ (i item : ℕ) (some : register s d item ≢ Nothing) (lt : i < hidden_fields) where
    stored : Leaves s (CommandOf d (Store hidden i item) false) d (with_node s.graph hidden_label (Plain 0 (set kept.fields i (register s d item)))) (domain_at s d).registers (domain_at s d).serial (Replied Ok)
    stored = leaves_store s d hidden i item hidden_label 0 kept.fields (register s d item) (get_or kept.fields i Nothing) (kept.holds d running) kept.there (field_there kept.fields i (omega (arith, kept.size))) refl some

    pub store_answers : reply s (CommandOf d (Store hidden i item) false) ≡ Replied Ok
    store_answers = stored.replies

    after : node_at (next s (CommandOf d (Store hidden i item) false)).graph hidden_label ≡ Some (Plain 0 (set kept.fields i (register s d item)))
    after = ap (λ (g : Graph). node_at g hidden_label) stored.graph_is ∙ node_at-with_node_same s.graph hidden_label (Plain 0 (set kept.fields i (register s d item))) (Plain 0 kept.fields) kept.there

    pub store_here : slot (next s (CommandOf d (Store hidden i item) false)) i ≡ register s d item
    store_here = ap (λ (o : Option Node). field_in o i) after ∙ get_or-set_same kept.fields i (register s d item) Nothing (omega (arith, kept.size))

    pub store_elsewhere : (j : ℕ) → j ≢ i → slot (next s (CommandOf d (Store hidden i item) false)) j ≡ slot s j
    store_elsewhere j other = ap (λ (o : Option Node). field_in o j) after ∙ get_or-set_other kept.fields i j (register s d item) Nothing other ∙ sym (slot_is j)

  -- a store of nothing
  module _ (i item : ℕ) (none : register s d item ≡ Nothing) where
    pub refused_answers : reply s (CommandOf d (Store hidden i item) false) ≡ Replied BadType
    refused_answers = (leaves_store_nothing s d hidden i item none).replies

    pub refused_keeps : (j : ℕ) → slot (next s (CommandOf d (Store hidden i item) false)) j ≡ slot s j
    refused_keeps j = ap (λ (g : Graph). field_in (node_at g hidden_label) j) (leaves_store_nothing s d hidden i item none).graph_is

  -- and one past the last field
  pub past_keeps : (i item : ℕ) → register s d item ≢ Nothing → hidden_fields ≤ i → (j : ℕ) → slot (next s (CommandOf d (Store hidden i item) false)) j ≡ slot s j
  past_keeps i item some past j =
      ap (λ (g : Graph). field_in (node_at g hidden_label) j) (leaves_store_past s d hidden i item hidden_label 0 kept.fields (kept.holds d running) kept.there (omega (arith, kept.size)) some).graph_is

  pub full_keeps : (c : Command) (j : ℕ) → slot (next s (CommandOf d c true)) j ≡ slot s j
  full_keeps c j = ap (λ (g : Graph). field_in (node_at g hidden_label) j) (leaves_full s d c).graph_is

-- an entry that doesn't write into the block leaves its fields
pub slot_stays : (s : State) → IsKept s → (e : Entry) → (written s e ≡ Some hidden_label → ⊥) → (i : ℕ) → slot (next s e) i ≡ slot s i
slot_stays s kept e unwritten i =
    ap (λ (o : Option Node). field_in o i) (nodes_stay_law s e hidden_label (Plain 0 kept.fields) unwritten kept.there ∙ sym kept.there)

-- a store that wrote a field of the block
pub record Wrote (s : State) (e : Entry) (i : ℕ) : Type 0 where
  pub domain : ℕ
  pub item : ℕ
  pub is : e ≡ CommandOf domain (Store hidden i item) false
  pub some : register s domain item ≢ Nothing
  pub now : slot (next s e) i ≡ register s domain item

-- whether a register holds nothing
pub nothing_or : (v : Value) → (v ≡ Nothing) ⊎ (v ≢ Nothing)
nothing_or Nothing = inl refl
nothing_or (Int z) = inr (λ e. cc)
nothing_or (Block l) = inr (λ e. cc)

-- each field is left by an entry, or was written by a store
module _ (s : State) (kept : IsKept s) where
  store_slots : (d index item i : ℕ) → (domain_at s d).ended ≡ false
      → (slot (next s (CommandOf d (Store hidden index item) false)) i ≡ slot s i) ⊎ Wrote s (CommandOf d (Store hidden index item) false) i
  store_slots d index item i running = ⊎_elim
      (λ none. inl (refused_keeps s kept d running index item none i))
      (λ some. by_size some (nat_lt index hidden_fields) refl)
      (nothing_or (register s d item))
    where
      here : (some : register s d item ≢ Nothing) → index < hidden_fields → (b : Bool) → eqb i index ≡ b
          → (slot (next s (CommandOf d (Store hidden index item) false)) i ≡ slot s i) ⊎ Wrote s (CommandOf d (Store hidden index item) false) i
      here some lt true e =
          let same : i ≡ index = eqb-true i index e in
          inr (subst (λ (k : ℕ). Wrote s (CommandOf d (Store hidden index item) false) k) (sym same) (record { domain = d; item = item; is = refl; some = some; now = store_here s kept d running index item some lt }))
      here some lt false e = inl (store_elsewhere s kept d running index item some lt i (λ same. absurd (let twice : true ≡ false = sym (eq-eqb i index same) ∙ e in cc)))

      by_size : (some : register s d item ≢ Nothing) → (b : Bool) → nat_lt index hidden_fields ≡ b
          → (slot (next s (CommandOf d (Store hidden index item) false)) i ≡ slot s i) ⊎ Wrote s (CommandOf d (Store hidden index item) false) i
      by_size some true e = here some (let lt : index < hidden_fields = grind (arith, nat_tests) in lt) (eqb i index) refl
      by_size some false e = inl (past_keeps s kept d running index item some (let le : hidden_fields ≤ index = grind (arith, nat_tests) in le) i)

  command_slots : (d : ℕ) (c : Command) (i : ℕ) → (domain_at s d).ended ≡ false → IsTrue (is_discreet c) → (o : Option Label) → written_by s d c ≡ o
      → (slot (next s (CommandOf d c false)) i ≡ slot s i) ⊎ Wrote s (CommandOf d c false) i
  command_slots d c i running fits None e = inl (slot_stays s kept (CommandOf d c false) (λ same. let clash : None ≡ Some hidden_label = sym e ∙ same in cc) i)
  command_slots d c i running fits (Some l) e = go (same_label l hidden_label) refl
    where
      go : (b : Bool) → same_label l hidden_label ≡ b → (slot (next s (CommandOf d c false)) i ≡ slot s i) ⊎ Wrote s (CommandOf d c false) i
      go true same =
          let into = writes_hidden hidden_label s kept.hides d c fits (e ∙ ap Some (same_label-true l hidden_label same)) in
          subst (λ (x : Command). (slot (next s (CommandOf d x false)) i ≡ slot s i) ⊎ Wrote s (CommandOf d x false) i) (sym into.is) (store_slots d into.index into.item i running)
      go false other = inl (slot_stays s kept (CommandOf d c false) (λ same.
          let is : l ≡ hidden_label = ap (λ (o : Option Label). unwrap_or o l) (sym e ∙ same) in
          let twice : true ≡ false = sym (same_label_refl hidden_label) ∙ (ap (λ (x : Label). same_label x hidden_label) (sym is) ∙ other) in
          cc) i)

  pub entry_slots : (e : Entry) → Allowed s e → FitsRun e → (i : ℕ) → (slot (next s e) i ≡ slot s i) ⊎ Wrote s e i
  entry_slots (CommandOf d c true) allowed fits i = inl (full_keeps s kept d allowed.running c i)
  entry_slots (CommandOf d c false) allowed fits i = command_slots d c i allowed.running fits (written_by s d c) refl
  entry_slots (Wipe l keys) allowed fits i = inl (slot_stays s kept (Wipe l keys) (λ same.
      let is : l ≡ hidden_label = ap (λ (o : Option Label). unwrap_or o l) same in
      let gone : IsTrue (has_gone_keys s keys (node_at s.graph hidden_label)) = subst (λ (x : Label). IsTrue (has_gone_keys s keys (node_at s.graph x))) is allowed.gone in
      let clash : false ≡ true = subst (λ (o : Option Node). IsTrue (has_gone_keys s keys o)) kept.there gone in
      cc) i)
  entry_slots (End d) allowed fits i = inl (slot_stays s kept (End d) (λ same. cc) i)
  entry_slots Cut allowed fits i = inl (slot_stays s kept Cut (λ same. cc) i)
  entry_slots (Queue d places) allowed fits i = inl (slot_stays s kept (Queue d places) (λ same. cc) i)
  entry_slots Seal allowed fits i = inl (slot_stays s kept Seal (λ same. cc) i)
  entry_slots (LastOf d place) allowed fits i = inl (slot_stays s kept (LastOf d place) (λ same. cc) i)
  entry_slots Collected allowed fits i = inl (slot_stays s kept Collected (λ same. cc) i)
  entry_slots Done allowed fits i = inl (slot_stays s kept Done (λ same. cc) i)
  entry_slots (Ran d) allowed fits i = inl (slot_stays s kept (Ran d) (λ same. cc) i)
