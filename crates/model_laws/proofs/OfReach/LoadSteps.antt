-- What a load and a copy by which a search walks tell.
use Rattle.std.proofs.Common.{◌≡◌, ◌≢◌, ◌∙◌, ℕ, ◌<◌, ◌≤◌, ◌⊎◌, Bool, true, false, ◌||◌, eqb, eqb-true, IsTrue, List, length, set, get_or, slice_get, option_and_then, option_map, refl, ap, sym, subst, inl, inr, ⊎_elim, Option, Some, None, lit<, arith}
use Rattle.std.proofs.lemmas.Option.{same_Some, slice_get_cases, slice_get_past}
use Rattle.std.proofs.lemmas.List.{get_or-set_other, get_or-set_same}
use Rattle.model_core.specs.declared.command.Command as model
use Rattle.model_core.specs.declared.command.Command.TheVariants.{Copy, Load}
use Rattle.model_core.specs.declared.entry.Entry.{Entry}
use Rattle.model_core.specs.declared.entry.Entry.TheVariants.{Command}
use Rattle.model_core.specs.declared.graph.Node.{Node}
use Rattle.model_core.specs.declared.graph.Node.TheVariants.{Plain, Raw, Ephe}
use Rattle.model_core.specs.declared.graph.Value.{Value}
use Rattle.model_core.specs.declared.graph.Value.TheVariants.{Int as IntValue, Block as BlockValue, Nothing}
use Rattle.model_core.specs.declared.label.Label.{Label}
use Rattle.model_core.specs.declared.reply.Reply.{Reply}
use Rattle.model_core.specs.declared.reply.Reply.TheVariants.{Block, Int, Empty, BadIndex, BadType, Done}
use Rattle.model_core.specs.declared.reply.Applied.{Applied}
use Rattle.model_core.specs.declared.reply.Applied.TheVariants.{Replied}
use Rattle.model_core.specs.declared.state.DomainState.{DomainState}
use Rattle.model_core.specs.declared.state.Sizes.{Sizes}
use Rattle.model_core.specs.declared.state.State.{State}
use Rattle.model_core.specs.Commands.{Outcome, shown, block_in, loaded, only_replies, outcome}
use Rattle.model_core.specs.Domains.{IsWithinLimits, domain_at, no_domain, register}
use Rattle.model_core.specs.Entries.{next, reply}
use Rattle.model_core.specs.Fronts.{Answers}
use Rattle.model_core.specs.Graph.{Graph, block_at, label_of, node_at}
use Rattle.model_core.proofs.Commands.FrameLemmas.{part_set}
use Rattle.model_core.proofs.Commands.LeavesLemmas.{Leaves, leaves_copy, leaves_load, leaves_load_past, leaves_load_raw, leaves_load_raw_past, no_block}
use Rattle.model_laws.specs.Reach.Ways.{IsNoEphemeron, fields_of, field_in, refers}
use Rattle.model_laws.specs.Reach.Walks.{is_hand, state_of, Still, Walked, Says, Loaded, Copied}
use Rattle.model_laws.proofs.OfReach.WalkSteps.{Stepped, stepped}

-- the two registers aren't among the others
hand_high : (dst r : ℕ) → IsTrue (is_hand dst) → r < 14 → r ≢ dst
hand_high dst r is few same = ⊎_elim
    (λ (a : eqb dst 14 ≡ true). let n : dst ≡ 14 = eqb-true dst 14 a in omega arith)
    (λ (b : eqb dst 15 ≡ true). let n : dst ≡ 15 = eqb-true dst 15 b in omega arith)
    (either (eqb dst 14) (eqb dst 15) is)
  where
    either : (a b : Bool) → IsTrue (a || b) → (a ≡ true) ⊎ (b ≡ true)
    either true b is = inl refl
    either false b is = inr is

hand_few : (dst : ℕ) → IsTrue (is_hand dst) → dst < 16
hand_few dst is = ⊎_elim
    (λ (a : eqb dst 14 ≡ true). let n : dst ≡ 14 = eqb-true dst 14 a in omega arith)
    (λ (b : eqb dst 15 ≡ true). let n : dst ≡ 15 = eqb-true dst 15 b in omega arith)
    (either (eqb dst 14) (eqb dst 15) is)
  where
    either : (a b : Bool) → IsTrue (a || b) → (a ≡ true) ⊎ (b ≡ true)
    either true b is = inl refl
    either false b is = inr is

-- what an entry answered and left of one domain's registers, where it wrote one of the two
record Wrote (s t : State) (d : ℕ) (dst : ℕ) (v : Value) : Type 0 where
  graph : t.graph ≡ s.graph
  registers : (domain_at t d).registers ≡ set (domain_at s d).registers dst v

wrote_register : (s t : State) (d dst : ℕ) (v : Value) → Wrote s t d dst v → length (domain_at s d).registers ≡ 16 → dst < 16 → register t d dst ≡ v
wrote_register s t d dst v w wide few =
    let n : ℕ = length (domain_at s d).registers in
    let is : n ≡ 16 = wide in
    ap (λ (rs : List Value). get_or rs dst Nothing) w.registers ∙ get_or-set_same (domain_at s d).registers dst v Nothing (let g : dst < n = omega arith in g)

wrote_other : (s t : State) (d dst : ℕ) (v : Value) → Wrote s t d dst v → (r : ℕ) → r ≢ dst → register t d r ≡ register s d r
wrote_other s t d dst v w r other = ap (λ (rs : List Value). get_or rs r Nothing) w.registers ∙ get_or-set_other (domain_at s d).registers dst r v Nothing other

-- what the entry of a load in a state says
module _ (s : State) (d : ℕ) (inside : d < length s.domains) (wide : length (domain_at s d).registers ≡ 16) (dst i : ℕ) (hand : IsTrue (is_hand dst)) where
  abbrev e : Entry
  e = Command d (Load dst 14 i) false

  abbrev t : State
  t = next s e

  record LoadStep (r : Reply) : Type 0 where
    graph : t.graph ≡ s.graph
    registers : (q : ℕ) → q ≢ dst → register t d q ≡ register s d q
    says : (l : Label) → register s d 14 ≡ BlockValue l → Says s.graph l i r
    brings : (l m : Label) → register s d 14 ≡ BlockValue l → refers s.graph l i ≡ Some m → register t d dst ≡ BlockValue m

  same_label_held : (l k : Label) → register s d 14 ≡ BlockValue l → register s d 14 ≡ BlockValue k → l ≡ k
  same_label_held l k a b = let both : BlockValue l ≡ BlockValue k = sym a ∙ b in cc

  shown_block : (v : Value) (m : Label) → shown v ≡ Block m → label_of v ≡ Some m
  shown_block (IntValue n) m is = cc
  shown_block (BlockValue l) m is = let same : l ≡ m = cc in ap Some same
  shown_block Nothing m is = cc

  label_shown : (v : Value) (m : Label) → label_of v ≡ Some m → shown v ≡ Block m
  label_shown (IntValue n) m is = cc
  label_shown (BlockValue l) m is = ap Block (same_Some l m is)
  label_shown Nothing m is = cc

  label_value : (v : Value) (m : Label) → label_of v ≡ Some m → v ≡ BlockValue m
  label_value (IntValue n) m is = cc
  label_value (BlockValue l) m is = ap BlockValue (same_Some l m is)
  label_value Nothing m is = cc

  shown_not : (v : Value) → (shown v ≢ BadIndex) × (shown v ≢ BadType)
  shown_not (IntValue n) = ((λ is. cc), (λ is. cc))
  shown_not (BlockValue l) = ((λ is. cc), (λ is. cc))
  shown_not Nothing = ((λ is. cc), (λ is. cc))

  -- a field that is there
  field_step : (l : Label) (n : Node) (v : Value) → IsNoEphemeron s.graph l → register s d 14 ≡ BlockValue l → node_at s.graph l ≡ Some n → slice_get (fields_of n) i ≡ Some v
      → Leaves s e d s.graph (set (domain_at s d).registers dst v) (domain_at s d).serial (Replied (shown v)) → LoadStep (shown v)
  field_step l n v plain held node at leaves =
      let w : Wrote s t d dst v = record { graph = leaves.graph_is; registers = leaves.registers_are } in
      let field : refers s.graph l i ≡ label_of v = ap (λ (o : Option Node). option_and_then label_of (option_and_then (λ (m : Node). slice_get (fields_of m) i) o)) node ∙ ap (option_and_then label_of) at in
      record {
        graph = w.graph;
        registers = wrote_other s t d dst v w;
        says = λ k is. subst (λ (x : Label). Says s.graph x i (shown v)) (same_label_held l k held is) record {
          block = λ m shows. field ∙ shown_block v m shows;
          finds = λ m refer. label_shown v m (sym field ∙ refer);
          past = λ clash j later. absurd ((shown_not v).0 clash);
          none = λ clash j. absurd ((shown_not v).1 clash);
          plain = λ _. plain;
        };
        brings = λ k m is refer. wrote_register s t d dst v w wide (hand_few dst hand) ∙ label_value v m (sym field ∙ (ap (λ (x : Label). refers s.graph x i) (same_label_held l k held is) ∙ refer));
      }

  -- one that isn't
  past_step : (l : Label) (n : Node) → IsNoEphemeron s.graph l → register s d 14 ≡ BlockValue l → node_at s.graph l ≡ Some n → length (fields_of n) ≤ i
      → Leaves s e d s.graph (domain_at s d).registers (domain_at s d).serial (Replied BadIndex) → LoadStep BadIndex
  past_step l n plain held node past leaves =
      let fields : List Value = fields_of n in
      let none : (j : ℕ) → i ≤ j → refers s.graph l j ≡ None = λ j later. ap (λ (o : Option Node). option_and_then label_of (option_and_then (λ (m : Node). slice_get (fields_of m) j) o)) node ∙ ap (option_and_then label_of) (slice_get_past fields j (let z : ℕ = length fields in let h : z ≤ i = past in let g : z ≤ j = omega arith in g)) in
      record {
        graph = leaves.graph_is;
        registers = λ q other. ap (λ (rs : List Value). get_or rs q Nothing) leaves.registers_are;
        says = λ k is. subst (λ (x : Label). Says s.graph x i BadIndex) (same_label_held l k held is) record {
          block = λ m shows. cc;
          finds = λ m refer. let clash : None ≡ Some m = sym (none i (omega arith)) ∙ refer in cc;
          past = λ _ j later. none j later;
          none = λ clash j. cc;
          plain = λ _. plain;
        };
        brings = λ k m is refer. let clash : None ≡ Some m = sym (none i (omega arith)) ∙ (ap (λ (x : Label). refers s.graph x i) (same_label_held l k held is) ∙ refer) in cc;
      }

  -- what has no fields
  type_step : ((l : Label) → register s d 14 ≡ BlockValue l → (j : ℕ) → refers s.graph l j ≡ None) → outcome s d (Load dst 14 i) ≡ only_replies s BadType → LoadStep BadType
  type_step none is = record {
    graph = ap (λ (o : Outcome). o.state.graph) is;
    registers = λ q other. ap (λ (rs : List Value). get_or rs q Nothing) (part_set (λ (y : DomainState). y.registers) (outcome s d (Load dst 14 i)).state.domains d _ refl d ∙ ap (λ (o : Outcome). (domain_at o.state d).registers) is);
    says = λ l held. record {
      block = λ m shows. cc;
      finds = λ m refer. let clash : None ≡ Some m = sym (none l held i) ∙ refer in cc;
      past = λ clash j later. cc;
      none = λ _ j. none l held j;
      plain = λ other. absurd (other refl);
    };
    brings = λ l m held refer. let clash : None ≡ Some m = sym (none l held i) ∙ refer in cc;
  }

  -- the block in register 14
  block_of : (l : Label) → register s d 14 ≡ BlockValue l → (o : Option Node) → node_at s.graph l ≡ o → block_in s d 14 ≡ option_map (λ (n : Node). (l, n)) o
  block_of l held o node = ap (λ (v : Value). option_and_then (block_at s.graph) (label_of v)) held ∙ ap (option_map (λ (n : Node). (l, n))) node

  no_label : label_of (register s d 14) ≡ None → (r : Reply) → reply s e ≡ Replied r → LoadStep r
  no_label lacks r is =
      let none : outcome s d (Load dst 14 i) ≡ only_replies s BadType = ap (loaded s d dst i) (no_block s d 14 lacks) in
      let same : BadType ≡ r = let both : Replied BadType ≡ Replied r = sym (ap (λ (x : Outcome). Replied x.reply) none) ∙ is in cc in
      subst LoadStep same (type_step (λ l held j. let clash : None ≡ Some l = sym lacks ∙ ap label_of held in cc) none)

  -- whatever stands at the block's label
  node_step : (l : Label) → register s d 14 ≡ BlockValue l → (o : Option Node) → node_at s.graph l ≡ o → (r : Reply) → reply s e ≡ Replied r → LoadStep r
  node_step l held None node r is =
      let none : outcome s d (Load dst 14 i) ≡ only_replies s BadType = ap (loaded s d dst i) (block_of l held None node) in
      let same : BadType ≡ r = let both : Replied BadType ≡ Replied r = sym (ap (λ (x : Outcome). Replied x.reply) none) ∙ is in cc in
      subst LoadStep same (type_step (λ k other j. ap (λ (x : Label). refers s.graph x j) (same_label_held k l other held) ∙ ap (λ (o : Option Node). option_and_then label_of (option_and_then (λ (m : Node). slice_get (fields_of m) j) o)) node) none)
  node_step l held (Some (Ephe keys datum)) node r is =
      let none : outcome s d (Load dst 14 i) ≡ only_replies s BadType = ap (loaded s d dst i) (block_of l held (Some (Ephe keys datum)) node) in
      let same : BadType ≡ r = let both : Replied BadType ≡ Replied r = sym (ap (λ (x : Outcome). Replied x.reply) none) ∙ is in cc in
      subst LoadStep same (type_step (λ k other j. ap (λ (x : Label). refers s.graph x j) (same_label_held k l other held) ∙ ap (λ (o : Option Node). option_and_then label_of (option_and_then (λ (m : Node). slice_get (fields_of m) j) o)) node) none)
  node_step l held (Some (Plain tag fields)) node r is = ⊎_elim
      (λ (got : (v : Value) × (i < length fields) × (slice_get fields i ≡ Some v) × (get_or fields i v ≡ v)).
      let leaves = leaves_load s d inside dst 14 i l tag fields got.0 held node got.2 in
      subst LoadStep (let both : Replied (shown got.0) ≡ Replied r = sym leaves.replies ∙ is in cc) (field_step l (Plain tag fields) got.0 (λ keys datum clash. let two : Some (Plain tag fields) ≡ Some (Ephe keys datum) = sym node ∙ clash in cc) held node got.2 leaves))
      (λ (past : (length fields ≤ i) × (slice_get fields i ≡ None)).
      let leaves = leaves_load_past s d dst 14 i l tag fields held node past.0 in
      subst LoadStep (let both : Replied BadIndex ≡ Replied r = sym leaves.replies ∙ is in cc) (past_step l (Plain tag fields) (λ keys datum clash. let two : Some (Plain tag fields) ≡ Some (Ephe keys datum) = sym node ∙ clash in cc) held node past.0 leaves))
      (slice_get_cases fields i).1
  node_step l held (Some (Raw tag fields)) node r is = ⊎_elim
      (λ (got : (v : Value) × (i < length fields) × (slice_get fields i ≡ Some v) × (get_or fields i v ≡ v)).
      let leaves = leaves_load_raw s d inside dst 14 i l tag fields got.0 held node got.2 in
      subst LoadStep (let both : Replied (shown got.0) ≡ Replied r = sym leaves.replies ∙ is in cc) (field_step l (Raw tag fields) got.0 (λ keys datum clash. let two : Some (Raw tag fields) ≡ Some (Ephe keys datum) = sym node ∙ clash in cc) held node got.2 leaves))
      (λ (past : (length fields ≤ i) × (slice_get fields i ≡ None)).
      let leaves = leaves_load_raw_past s d dst 14 i l tag fields held node past.0 in
      subst LoadStep (let both : Replied BadIndex ≡ Replied r = sym leaves.replies ∙ is in cc) (past_step l (Raw tag fields) (λ keys datum clash. let two : Some (Raw tag fields) ≡ Some (Ephe keys datum) = sym node ∙ clash in cc) held node past.0 leaves))
      (slice_get_cases fields i).1

  -- whatever register 14 holds
  load_step : (v : Value) → register s d 14 ≡ v → (r : Reply) → reply s e ≡ Replied r → LoadStep r
  load_step (BlockValue l) held r is = node_step l held (node_at s.graph l) refl r is
  load_step (IntValue n) held r is = no_label (ap label_of held) r is
  load_step Nothing held r is = no_label (ap label_of held) r is

-- a load of a field of the block in register 14, where nobody else has made an entry
pub walk_load : (z : Sizes) (d : ℕ) (old new : List Entry) (dst i : ℕ) (r : Reply) → IsWithinLimits z → IsTrue (is_hand dst) → Answers z d old new (Command d (Load dst 14 i) false) (Replied r) → Walked d old new → Loaded z d old new dst i r
walk_load z d old new dst i r limits hand answers walked =
    let x = stepped z d old new (Load dst 14 i) r limits answers walked in
    let s : State = state_of z old in
    let p = load_step s d x.inside x.wide dst i hand (register s d 14) refl r x.reply_is in record {
      still = record {
        graph = ap (λ (t : State). t.graph) x.next_is ∙ p.graph;
        registers = λ q few. ap (λ (t : State). register t d q) x.next_is ∙ p.registers q (hand_high dst q hand few);
      };
      stays = λ is. ap (λ (t : State). register t d 14) x.next_is ∙ p.registers 14 (λ same. let both : 14 ≡ 15 = same ∙ is in omega arith);
      says = p.says;
      brings = λ l m held refer. ap (λ (t : State). register t d dst) x.next_is ∙ p.brings l m held refer;
    }

-- a copy into register 14, likewise
pub walk_copy : (z : Sizes) (d : ℕ) (old new : List Entry) (src : ℕ) (r : Reply) → IsWithinLimits z → Answers z d old new (Command d (Copy 14 src) false) (Replied r) → Walked d old new → Copied z d old new src
walk_copy z d old new src r limits answers walked =
    let x = stepped z d old new (Copy 14 src) r limits answers walked in
    let s : State = state_of z old in
    let leaves = leaves_copy s d x.inside 14 src in
    let w : Wrote s (next s (Command d (Copy 14 src) false)) d 14 (register s d src) = record { graph = leaves.graph_is; registers = leaves.registers_are } in record {
      still = record {
        graph = ap (λ (t : State). t.graph) x.next_is ∙ w.graph;
        registers = λ q few. ap (λ (t : State). register t d q) x.next_is ∙ wrote_other s _ d 14 _ w q (λ same. let is : q ≡ 14 = same in omega arith);
      };
      brings = ap (λ (t : State). register t d 14) x.next_is ∙ wrote_register s _ d 14 _ w x.wide (lit< tt);
    }
