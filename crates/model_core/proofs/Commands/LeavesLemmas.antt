-- What the entry of a running domain leaves and answers: one law for each case of a command.
use Rattle.std.proofs.Common.{◌≡◌, ◌≢◌, ℕ, ◌+◌, ◌<◌, ◌≤◌, Bool, true, false, List, [], ◌∷◌, ◌++◌, length, set, slice_get, replicate, option_and_then, option_map, ℤ, Option, Some, None, refl, ap, ◌∙◌, get_or-set_same, length-set}
use Rattle.std.proofs.lemmas.Option.{slice_get_past}
use Rattle.model_core.specs.declared.label.Label.{Label}
use Rattle.model_core.specs.declared.command.Command.{Command}
use Rattle.model_core.specs.declared.command.Command.TheVariants.{PutInt, Copy, Forget, Alloc, Load, Store, Raw as NewRaw, Cas, Poll, Minor, Major}
use Rattle.model_core.specs.declared.entry.Entry.{Entry}
use Rattle.model_core.specs.declared.entry.Entry.TheVariants.{Command as CommandOf, End}
use Rattle.model_core.specs.declared.reply.Reply.{Reply}
use Rattle.model_core.specs.declared.reply.Reply.TheVariants.{Done, Block as BlockReply, BadType, BadIndex, Yes, No, Full}
use Rattle.model_core.specs.declared.reply.Applied.{Applied}
use Rattle.model_core.specs.declared.reply.Applied.TheVariants.{Replied, Silent}
use Rattle.model_core.specs.declared.graph.Value.{Value}
use Rattle.model_core.specs.declared.graph.Value.TheVariants.{Int, Block, Nothing}
use Rattle.model_core.specs.declared.graph.Node.{Node}
use Rattle.model_core.specs.declared.graph.Node.TheVariants.{Plain, Raw, Ephe}
use Rattle.model_core.specs.declared.state.DomainState.{DomainState}
use Rattle.model_core.specs.declared.state.State.{State}
use Rattle.model_core.specs.Graph.{Graph, node_at, with_node, block_at, label_of}
use Rattle.model_core.specs.Domains.{domain_at, with_domain, with_register, with_block, register, no_domain}
use Rattle.model_core.specs.Commands.{Outcome, only_replies, shown, new_plain, new_raw, block_in, loaded, at_field, written_over, same_value, written_where, exchanged, in_bounds, read_into, done_with, allocated, outcome}
use Rattle.model_core.specs.Entries.{next, reply, ended}
use Rattle.model_core.proofs.Commands.FrameLemmas.{part_set}

-- the entry leaves this graph, and these registers and this serial of domain d, and answers this
pub record Leaves (s : State) (e : Entry) (d : ℕ) (graph : Graph) (registers : List Value) (serial : ℕ) (answer : Applied) : Type 0 where
  pub graph_is : (next s e).graph ≡ graph
  pub registers_are : (domain_at (next s e) d).registers ≡ registers
  pub serial_is : (domain_at (next s e) d).serial ≡ serial
  pub replies : reply s e ≡ answer

-- a state with this graph, and these registers and this serial of domain d
record Has (t : State) (d : ℕ) (graph : Graph) (registers : List Value) (serial : ℕ) : Type 0 where
  graph_is : t.graph ≡ graph
  registers_are : (domain_at t d).registers ≡ registers
  serial_is : (domain_at t d).serial ≡ serial

-- what every command finds that writes v into field i of this block: the field holds `held`, and `new` is the block with v in it
pub record Takes (n : Node) (i : ℕ) (v held : Value) (new : Node) : Type 0 where
  pub found : (s : State) (l : Label) (f : Label → Node → Value → Outcome) → at_field s i (Some (l, n)) v f ≡ f l new held

-- such a command is refused at this block
pub record Refuses (n : Node) (i : ℕ) (v : Value) (r : Reply) : Type 0 where
  pub found : (s : State) (l : Label) (f : Label → Node → Value → Outcome) → at_field s i (Some (l, n)) v f ≡ only_replies s r

-- a field of a plain block
plain_field : (s : State) (i : ℕ) (l : Label) (tag : ℕ) (fields : List Value) (v : Value) (f : Label → Node → Value → Outcome) → v ≢ Nothing
    → at_field s i (Some (l, Plain tag fields)) v f ≡ in_bounds s (slice_get fields i) (f l (Plain tag (set fields i v)))
plain_field s i l tag fields (Int z) f some = refl
plain_field s i l tag fields (Block k) f some = refl
plain_field s i l tag fields Nothing f some = absurd (some refl)

pub takes_plain : (tag : ℕ) (fields : List Value) (i : ℕ) (v held : Value) → slice_get fields i ≡ Some held → v ≢ Nothing → Takes (Plain tag fields) i v held (Plain tag (set fields i v))
takes_plain tag fields i v held at some = record { found = λ s l f. plain_field s i l tag fields v f some ∙ ap (λ o. in_bounds s o (f l (Plain tag (set fields i v)))) at }

pub takes_raw : (tag : ℕ) (fields : List Value) (i : ℕ) (z : ℤ) (held : Value) → slice_get fields i ≡ Some held → Takes (Raw tag fields) i (Int z) held (Raw tag (set fields i (Int z)))
takes_raw tag fields i z held at = record { found = λ s l f. ap (λ o. in_bounds s o (f l (Raw tag (set fields i (Int z))))) at }

pub refuses_plain_past : (tag : ℕ) (fields : List Value) (i : ℕ) (v : Value) → length fields ≤ i → v ≢ Nothing → Refuses (Plain tag fields) i v BadIndex
refuses_plain_past tag fields i v past some = record { found = λ s l f. plain_field s i l tag fields v f some ∙ ap (λ o. in_bounds s o (f l (Plain tag (set fields i v)))) (slice_get_past fields i past) }

pub refuses_raw_past : (tag : ℕ) (fields : List Value) (i : ℕ) (z : ℤ) → length fields ≤ i → Refuses (Raw tag fields) i (Int z) BadIndex
refuses_raw_past tag fields i z past = record { found = λ s l f. ap (λ o. in_bounds s o (f l (Raw tag (set fields i (Int z))))) (slice_get_past fields i past) }

-- a raw block holds no block
pub refuses_raw_block : (tag : ℕ) (fields : List Value) (i : ℕ) (k : Label) → Refuses (Raw tag fields) i (Block k) BadType
refuses_raw_block tag fields i k = record { found = λ s l f. refl }

-- an ephemeron has no fields
pub refuses_ephe : (keys : List (Option Label)) (datum : Value) (i : ℕ) (v : Value) → Refuses (Ephe keys datum) i v BadType
refuses_ephe keys datum i v = record { found = λ s l f. refl }

-- nothing is stored nowhere
nothing_stored : (s : State) (i : ℕ) (b : Option (Label × Node)) (f : Label → Node → Value → Outcome) → at_field s i b Nothing f ≡ only_replies s BadType
nothing_stored s i None f = refl
nothing_stored s i (Some (l, Plain tag fields)) f = refl
nothing_stored s i (Some (l, Raw tag fields)) f = refl
nothing_stored s i (Some (l, Ephe keys datum)) f = refl

-- nothing is expected nowhere
exchanged_at : (s : State) (i : ℕ) (b : Option (Label × Node)) (e v : Value) → e ≢ Nothing → exchanged s i b e v ≡ at_field s i b v (λ l new held. written_where s l new (same_value held e))
exchanged_at s i b (Int z) v some = refl
exchanged_at s i b (Block k) v some = refl
exchanged_at s i b Nothing v some = absurd (some refl)

module _ (s : State) (d : ℕ) where
  abbrev mine : DomainState
  mine = domain_at s d

  leaves_outcome : (c : Command) (g : Graph) (rs : List Value) (n : ℕ) (o : Outcome) → outcome s d c ≡ o → Has o.state d g rs n → Leaves s (CommandOf d c false) d g rs n (Replied o.reply)
  leaves_outcome c g rs n o is has = record {
    graph_is = ap (λ (x : Outcome). x.state.graph) is ∙ has.graph_is;
    registers_are = part_set (λ y. y.registers) (outcome s d c).state.domains d _ refl d ∙ (ap (λ (x : Outcome). (domain_at x.state d).registers) is ∙ has.registers_are);
    serial_is = part_set (λ y. y.serial) (outcome s d c).state.domains d _ refl d ∙ (ap (λ (x : Outcome). (domain_at x.state d).serial) is ∙ has.serial_is);
    replies = ap (λ (x : Outcome). Replied x.reply) is;
  }

  has_same : Has s d s.graph mine.registers mine.serial
  has_same = record { graph_is = refl; registers_are = refl; serial_is = refl }

  has_register : d < length s.domains → (r : ℕ) (v : Value) → Has (with_register s d r v) d s.graph (set mine.registers r v) mine.serial
  has_register inside r v = record {
    graph_is = refl;
    registers_are = ap (λ (x : DomainState). x.registers) (get_or-set_same s.domains d _ no_domain inside);
    serial_is = part_set (λ y. y.serial) s.domains d _ refl d;
  }

  has_block : (l : Label) (n : Node) → Has (with_block s l n) d (with_node s.graph l n) mine.registers mine.serial
  has_block l n = record { graph_is = refl; registers_are = refl; serial_is = refl }

  -- a command leaves what its outcome has
  pub leaves_of : (c : Command) (o : Outcome) → outcome s d c ≡ o → Leaves s (CommandOf d c false) d o.state.graph (domain_at o.state d).registers (domain_at o.state d).serial (Replied o.reply)
  leaves_of c o is = leaves_outcome c _ _ _ o is (record { graph_is = refl; registers_are = refl; serial_is = refl })

  -- one that only replies
  pub leaves_reply : (c : Command) (r : Reply) → outcome s d c ≡ only_replies s r → Leaves s (CommandOf d c false) d s.graph mine.registers mine.serial (Replied r)
  leaves_reply c r is = leaves_outcome c _ _ _ (only_replies s r) is has_same

  -- one that reads into a register
  pub leaves_read : d < length s.domains → (c : Command) (dst : ℕ) (v : Value) → outcome s d c ≡ read_into s d dst v
      → Leaves s (CommandOf d c false) d s.graph (set mine.registers dst v) mine.serial (Replied (shown v))
  leaves_read inside c dst v is = leaves_outcome c _ _ _ (read_into s d dst v) is (has_register inside dst v)

  -- one that writes a block
  pub leaves_block : (c : Command) (l : Label) (n : Node) → outcome s d c ≡ done_with (with_block s l n)
      → Leaves s (CommandOf d c false) d (with_node s.graph l n) mine.registers mine.serial (Replied Done)
  leaves_block c l n is = leaves_outcome c _ _ _ (done_with (with_block s l n)) is (has_block l n)

  pub leaves_put : d < length s.domains → (dst : ℕ) (z : ℤ) → Leaves s (CommandOf d (PutInt dst z) false) d s.graph (set mine.registers dst (Int z)) mine.serial (Replied Done)
  leaves_put inside dst z = leaves_outcome (PutInt dst z) _ _ _ _ refl (has_register inside dst (Int z))

  pub leaves_copy : d < length s.domains → (dst src : ℕ) → Leaves s (CommandOf d (Copy dst src) false) d s.graph (set mine.registers dst (register s d src)) mine.serial (Replied Done)
  leaves_copy inside dst src = leaves_outcome (Copy dst src) _ _ _ _ refl (has_register inside dst (register s d src))

  pub leaves_forget : d < length s.domains → (dst : ℕ) → Leaves s (CommandOf d (Forget dst) false) d s.graph (set mine.registers dst Nothing) mine.serial (Replied Done)
  leaves_forget inside dst = leaves_outcome (Forget dst) _ _ _ _ refl (has_register inside dst Nothing)

  pub leaves_poll : Leaves s (CommandOf d Poll false) d s.graph mine.registers mine.serial (Replied Done)
  leaves_poll = leaves_outcome Poll _ _ _ _ refl has_same

  pub leaves_minor : Leaves s (CommandOf d Minor false) d s.graph mine.registers mine.serial (Replied Done)
  leaves_minor = leaves_outcome Minor _ _ _ _ refl has_same

  pub leaves_major : Leaves s (CommandOf d Major false) d s.graph mine.registers mine.serial (Replied Done)
  leaves_major = leaves_outcome Major _ _ _ _ refl has_same

  -- the reply `full` changes nothing that the graph and the registers show
  pub leaves_full : (c : Command) → Leaves s (CommandOf d c true) d s.graph mine.registers mine.serial (Replied Full)
  leaves_full c = record { graph_is = refl; registers_are = part_set (λ y. y.registers) s.domains d _ refl d; serial_is = part_set (λ y. y.serial) s.domains d _ refl d; replies = refl }

  pub leaves_end : d < length s.domains → Leaves s (End d) d s.graph (replicate (length mine.registers) Nothing) mine.serial Silent
  leaves_end inside = record {
    graph_is = refl;
    registers_are = ap (λ (x : DomainState). x.registers) (get_or-set_same s.domains d (ended mine) no_domain inside);
    serial_is = part_set (λ y. y.serial) s.domains d (ended mine) refl d;
    replies = refl;
  }

  -- the block in a register
  block_is : (r : ℕ) (l : Label) (n : Node) → register s d r ≡ Block l → node_at s.graph l ≡ Some n → block_in s d r ≡ Some (l, n)
  block_is r l n held node = ap (λ v. option_and_then (block_at s.graph) (label_of v)) held ∙ ap (option_map (λ m. (l, m))) node

  -- no block, where the register holds no label
  pub no_block : (r : ℕ) → label_of (register s d r) ≡ None → block_in s d r ≡ None
  no_block r none = ap (option_and_then (block_at s.graph)) none

  pub leaves_load : d < length s.domains → (dst src i : ℕ) (l : Label) (tag : ℕ) (fields : List Value) (v : Value) → register s d src ≡ Block l → node_at s.graph l ≡ Some (Plain tag fields) → slice_get fields i ≡ Some v
      → Leaves s (CommandOf d (Load dst src i) false) d s.graph (set mine.registers dst v) mine.serial (Replied (shown v))
  leaves_load inside dst src i l tag fields v held node at =
      leaves_outcome (Load dst src i) _ _ _ (read_into s d dst v)
      (ap (loaded s d dst i) (block_is src l (Plain tag fields) held node) ∙ ap (λ o. in_bounds s o (read_into s d dst)) at)
      (has_register inside dst v)

  pub leaves_load_past : (dst src i : ℕ) (l : Label) (tag : ℕ) (fields : List Value) → register s d src ≡ Block l → node_at s.graph l ≡ Some (Plain tag fields) → length fields ≤ i
      → Leaves s (CommandOf d (Load dst src i) false) d s.graph mine.registers mine.serial (Replied BadIndex)
  leaves_load_past dst src i l tag fields held node past =
      leaves_outcome (Load dst src i) _ _ _ (only_replies s BadIndex)
      (ap (loaded s d dst i) (block_is src l (Plain tag fields) held node) ∙ ap (λ o. in_bounds s o (read_into s d dst)) (slice_get_past fields i past))
      has_same

  pub leaves_load_type : (dst src i : ℕ) → label_of (register s d src) ≡ None → Leaves s (CommandOf d (Load dst src i) false) d s.graph mine.registers mine.serial (Replied BadType)
  leaves_load_type dst src i none = leaves_outcome (Load dst src i) _ _ _ (only_replies s BadType) (ap (loaded s d dst i) (no_block src none)) has_same

  pub leaves_load_raw : d < length s.domains → (dst src i : ℕ) (l : Label) (tag : ℕ) (fields : List Value) (v : Value) → register s d src ≡ Block l → node_at s.graph l ≡ Some (Raw tag fields) → slice_get fields i ≡ Some v
      → Leaves s (CommandOf d (Load dst src i) false) d s.graph (set mine.registers dst v) mine.serial (Replied (shown v))
  leaves_load_raw inside dst src i l tag fields v held node at =
      leaves_outcome (Load dst src i) _ _ _ (read_into s d dst v)
      (ap (loaded s d dst i) (block_is src l (Raw tag fields) held node) ∙ ap (λ o. in_bounds s o (read_into s d dst)) at)
      (has_register inside dst v)

  pub leaves_load_raw_past : (dst src i : ℕ) (l : Label) (tag : ℕ) (fields : List Value) → register s d src ≡ Block l → node_at s.graph l ≡ Some (Raw tag fields) → length fields ≤ i
      → Leaves s (CommandOf d (Load dst src i) false) d s.graph mine.registers mine.serial (Replied BadIndex)
  leaves_load_raw_past dst src i l tag fields held node past =
      leaves_outcome (Load dst src i) _ _ _ (only_replies s BadIndex)
      (ap (loaded s d dst i) (block_is src l (Raw tag fields) held node) ∙ ap (λ o. in_bounds s o (read_into s d dst)) (slice_get_past fields i past))
      has_same

  -- a store into the block in a register
  module _ (block i item : ℕ) where
    pub leaves_store_taken : (l : Label) (n new : Node) (v held : Value) → register s d block ≡ Block l → node_at s.graph l ≡ Some n → register s d item ≡ v → Takes n i v held new
        → Leaves s (CommandOf d (Store block i item) false) d (with_node s.graph l new) mine.registers mine.serial (Replied Done)
    leaves_store_taken l n new v held block_held node is takes = leaves_outcome (Store block i item) _ _ _ (done_with (with_block s l new))
        ((λ j. at_field s i (block_is block l n block_held node j) (is j) (written_over s)) ∙ takes.found s l (written_over s)) (has_block l new)

    pub leaves_store_refused : (l : Label) (n : Node) (v : Value) (r : Reply) → register s d block ≡ Block l → node_at s.graph l ≡ Some n → register s d item ≡ v → Refuses n i v r
        → Leaves s (CommandOf d (Store block i item) false) d s.graph mine.registers mine.serial (Replied r)
    leaves_store_refused l n v r block_held node is refuses = leaves_outcome (Store block i item) _ _ _ (only_replies s r)
        ((λ j. at_field s i (block_is block l n block_held node j) (is j) (written_over s)) ∙ refuses.found s l (written_over s)) has_same

    -- into no block
    pub leaves_store_type : label_of (register s d block) ≡ None → Leaves s (CommandOf d (Store block i item) false) d s.graph mine.registers mine.serial (Replied BadType)
    leaves_store_type none = leaves_outcome (Store block i item) _ _ _ (only_replies s BadType) (ap (λ b. at_field s i b (register s d item) (written_over s)) (no_block block none)) has_same

    -- of nothing
    pub leaves_store_nothing : register s d item ≡ Nothing → Leaves s (CommandOf d (Store block i item) false) d s.graph mine.registers mine.serial (Replied BadType)
    leaves_store_nothing nothing = leaves_outcome (Store block i item) _ _ _ (only_replies s BadType)
        (ap (λ v. at_field s i (block_in s d block) v (written_over s)) nothing ∙ nothing_stored s i (block_in s d block) (written_over s)) has_same

    pub leaves_store : (l : Label) (tag : ℕ) (fields : List Value) (v old : Value) → register s d block ≡ Block l → node_at s.graph l ≡ Some (Plain tag fields) → slice_get fields i ≡ Some old
        → register s d item ≡ v → v ≢ Nothing → Leaves s (CommandOf d (Store block i item) false) d (with_node s.graph l (Plain tag (set fields i v))) mine.registers mine.serial (Replied Done)
    leaves_store l tag fields v old held node at is some = leaves_store_taken l _ _ v old held node is (takes_plain tag fields i v old at some)

    pub leaves_store_past : (l : Label) (tag : ℕ) (fields : List Value) → register s d block ≡ Block l → node_at s.graph l ≡ Some (Plain tag fields) → length fields ≤ i
        → register s d item ≢ Nothing → Leaves s (CommandOf d (Store block i item) false) d s.graph mine.registers mine.serial (Replied BadIndex)
    leaves_store_past l tag fields held node past some = leaves_store_refused l _ _ BadIndex held node refl (refuses_plain_past tag fields i (register s d item) past some)

    pub leaves_store_kind : (l : Label) (keys : List (Option Label)) (datum : Value) → register s d block ≡ Block l → node_at s.graph l ≡ Some (Ephe keys datum)
        → Leaves s (CommandOf d (Store block i item) false) d s.graph mine.registers mine.serial (Replied BadType)
    leaves_store_kind l keys datum held node = leaves_store_refused l _ _ BadType held node refl (refuses_ephe keys datum i (register s d item))

  -- a compare-and-set of the block in a register, which expects the value e
  module _ (block i expected item : ℕ) (e : Value) (expects : register s d expected ≡ e) (full : e ≢ Nothing) where
    cas_is : exchanged s i (block_in s d block) (register s d expected) (register s d item) ≡ at_field s i (block_in s d block) (register s d item) (λ l new held. written_where s l new (same_value held e))
    cas_is = ap (λ w. exchanged s i (block_in s d block) w (register s d item)) expects ∙ exchanged_at s i (block_in s d block) e (register s d item) full

    cas_at : (l : Label) (n new : Node) (v held : Value) (b : Bool) → register s d block ≡ Block l → node_at s.graph l ≡ Some n → register s d item ≡ v → Takes n i v held new → same_value held e ≡ b
        → outcome s d (Cas block i expected item) ≡ written_where s l new b
    cas_at l n new v held b block_held node is takes same = cas_is ∙ ((λ j. at_field s i (block_is block l n block_held node j) (is j) (λ k m old. written_where s k m (same_value old e)))
        ∙ (takes.found s l _ ∙ ap (written_where s l new) same))

    pub leaves_cas_written : (l : Label) (n new : Node) (v held : Value) → register s d block ≡ Block l → node_at s.graph l ≡ Some n → register s d item ≡ v → Takes n i v held new → same_value held e ≡ true
        → Leaves s (CommandOf d (Cas block i expected item) false) d (with_node s.graph l new) mine.registers mine.serial (Replied Yes)
    leaves_cas_written l n new v held block_held node is takes same =
        leaves_outcome (Cas block i expected item) _ _ _ _ (cas_at l n new v held true block_held node is takes same) (record { graph_is = refl; registers_are = refl; serial_is = refl })

    pub leaves_cas_kept : (l : Label) (n new : Node) (v held : Value) → register s d block ≡ Block l → node_at s.graph l ≡ Some n → register s d item ≡ v → Takes n i v held new → same_value held e ≡ false
        → Leaves s (CommandOf d (Cas block i expected item) false) d s.graph mine.registers mine.serial (Replied No)
    leaves_cas_kept l n new v held block_held node is takes same = leaves_outcome (Cas block i expected item) _ _ _ _ (cas_at l n new v held false block_held node is takes same) has_same

    pub leaves_cas_refused : (l : Label) (n : Node) (v : Value) (r : Reply) → register s d block ≡ Block l → node_at s.graph l ≡ Some n → register s d item ≡ v → Refuses n i v r
        → Leaves s (CommandOf d (Cas block i expected item) false) d s.graph mine.registers mine.serial (Replied r)
    leaves_cas_refused l n v r block_held node is refuses = leaves_outcome (Cas block i expected item) _ _ _ (only_replies s r)
        (cas_is ∙ ((λ j. at_field s i (block_is block l n block_held node j) (is j) (λ k m old. written_where s k m (same_value old e))) ∙ refuses.found s l _)) has_same

    pub leaves_cas_type : label_of (register s d block) ≡ None → Leaves s (CommandOf d (Cas block i expected item) false) d s.graph mine.registers mine.serial (Replied BadType)
    leaves_cas_type none = leaves_outcome (Cas block i expected item) _ _ _ (only_replies s BadType)
        (cas_is ∙ ap (λ b. at_field s i b (register s d item) (λ l new held. written_where s l new (same_value held e))) (no_block block none)) has_same

    -- of nothing
    pub leaves_cas_nothing : register s d item ≡ Nothing → Leaves s (CommandOf d (Cas block i expected item) false) d s.graph mine.registers mine.serial (Replied BadType)
    leaves_cas_nothing nothing = leaves_outcome (Cas block i expected item) _ _ _ (only_replies s BadType)
        (cas_is ∙ (ap (λ v. at_field s i (block_in s d block) v (λ l new held. written_where s l new (same_value held e))) nothing ∙ nothing_stored s i (block_in s d block) _)) has_same

  -- one that expects nothing
  pub leaves_cas_unexpected : (block i expected item : ℕ) → register s d expected ≡ Nothing → Leaves s (CommandOf d (Cas block i expected item) false) d s.graph mine.registers mine.serial (Replied BadType)
  leaves_cas_unexpected block i expected item nothing =
      leaves_outcome (Cas block i expected item) _ _ _ (only_replies s BadType) (ap (λ e. exchanged s i (block_in s d block) e (register s d item)) nothing) has_same

  -- the label of the next block
  abbrev pub new_label : Label
  new_label = record { domain = d; serial = mine.serial + 1 }

  pub leaves_allocation : d < length s.domains → (c : Command) (dst : ℕ) (n : Node) → outcome s d c ≡ allocated s d dst n
      → Leaves s (CommandOf d c false) d (s.graph ++ (new_label, n) ∷ []) (set mine.registers dst (Block new_label)) (mine.serial + 1) (Replied (BlockReply new_label))
  leaves_allocation inside c dst n is =
      let x : DomainState = record mine { serial = mine.serial + 1 } in
      let made : State = with_domain s d x in
      let here : domain_at made d ≡ x = get_or-set_same s.domains d x no_domain inside in
      leaves_outcome c _ _ _ _ is record {
        graph_is = refl;
        registers_are = ap (λ (y : DomainState). y.registers) (get_or-set_same made.domains d _ no_domain (subst_length s.domains d x inside)) ∙ ap (λ (y : DomainState). set y.registers dst (Block new_label)) here;
        serial_is = part_set (λ y. y.serial) made.domains d _ refl d ∙ ap (λ (y : DomainState). y.serial) here;
      }
    where
      subst_length : (xs : List DomainState) (k : ℕ) (x : DomainState) → k < length xs → k < length (set xs k x)
      subst_length xs k x h = rw length-set h

  pub leaves_alloc : d < length s.domains → (dst tag fields : ℕ)
      → Leaves s (CommandOf d (Alloc dst tag fields) false) d (s.graph ++ (new_label, new_plain tag fields) ∷ []) (set mine.registers dst (Block new_label)) (mine.serial + 1) (Replied (BlockReply new_label))
  leaves_alloc inside dst tag fields = leaves_allocation inside (Alloc dst tag fields) dst (new_plain tag fields) refl

  pub leaves_raw : d < length s.domains → (dst tag fields : ℕ)
      → Leaves s (CommandOf d (NewRaw dst tag fields) false) d (s.graph ++ (new_label, new_raw tag fields) ∷ []) (set mine.registers dst (Block new_label)) (mine.serial + 1) (Replied (BlockReply new_label))
  leaves_raw inside dst tag fields = leaves_allocation inside (NewRaw dst tag fields) dst (new_raw tag fields) refl

  -- a load that looks into an ephemeron
  pub leaves_load_kind : (dst src i : ℕ) (l : Label) (keys : List (Option Label)) (datum : Value) → register s d src ≡ Block l → node_at s.graph l ≡ Some (Ephe keys datum)
      → Leaves s (CommandOf d (Load dst src i) false) d s.graph mine.registers mine.serial (Replied BadType)
  leaves_load_kind dst src i l keys datum held node =
      leaves_outcome (Load dst src i) _ _ _ (only_replies s BadType) (ap (loaded s d dst i) (block_is src l (Ephe keys datum) held node)) has_same
