-- The slots stay where they are, and a line sets one or reads one.
use Rattle.std.proofs.Common.{◌≡◌, ℕ, zero, suc, ◌<◌, ◌/◌, List, [], ◌∷◌, ◌++◌, length, get_or, set, slice_get, Option, Some, None, refl, ap, sym, ◌∙◌, arith, get_or-set_same, length-set}
use Rattle.std.specs.Prelude.{option_and_then, option_map}
use Rattle.std.proofs.lemmas.Option.{slice_get-get_or}
use Rattle.model_core.specs.declared.label.Label.{Label}
use Rattle.model_core.specs.declared.command.Command.{Command}
use Rattle.model_core.specs.declared.command.Command.TheVariants.{GetKey, SetKey}
use Rattle.model_core.specs.declared.entry.Entry.{Entry}
use Rattle.model_core.specs.declared.graph.Node.{Node}
use Rattle.model_core.specs.declared.graph.Node.TheVariants.{Ephe, Plain, Raw}
use Rattle.model_core.specs.declared.graph.Value.{Value}
use Rattle.model_core.specs.declared.graph.Value.TheVariants.{Block, Int, Nothing}
use Rattle.model_core.specs.declared.reply.Reply.{Reply}
use Rattle.model_core.specs.declared.reply.Reply.TheVariants as given
use Rattle.model_core.specs.declared.state.DomainState.{DomainState}
use Rattle.model_core.specs.declared.state.Sizes.{Sizes}
use Rattle.model_core.specs.declared.state.State.{State}
use Rattle.model_core.specs.Commands.{Outcome, at_ephe, block_in, done_with, in_bounds, key_stored, key_value, only_replies, outcome, read_into}
use Rattle.model_core.specs.Domains.{IsWithinLimits, domain_at, label_in, no_domain, register, with_block}
use Rattle.model_core.specs.Fronts.{EpheShape, shape_of}
use Rattle.model_core.specs.Graph.{Graph, block_at, label_of, node_at}
use Rattle.model_core.specs.History.{IsPrefix}
use Rattle.model_core.proofs.Commands.FrameLemmas.{inside_running}
use Rattle.model_core.proofs.Graphs.GraphLemmas.{node_at-with_node_same}
use Rattle.table_text.specs.declared.machine.reply.LineReply.{LineReply}
use Rattle.table_text.specs.Machine.Said.{said}
use Rattle.weak_laws.specs.Tables.Stages.{graph_of}
use Rattle.weak_laws.specs.Tables.Thinning.{state_of}
use Rattle.weak_laws.specs.Maps.Calls.{PerformedBy}
use Rattle.weak_laws.proofs.OfMaps.CallLemmas.{from_middle, registers_kept, to_middle}
use Rattle.weak_laws.proofs.OfMaps.FrontLemmas.{prefix_before}
use Rattle.weak_laws.proofs.OfMaps.OwnLemmas.{grew_along}
use Rattle.weak_maps.specs.Beside.{held_by}
use Rattle.weak_maps.specs.Walks.{OwnQuiet}
use Rattle.weak_maps.proofs.BesideLemmas.{sixteen}
use Rattle.weak_maps.proofs.CountLemmas.{legal_both}
use Rattle.weak_maps.proofs.GuardLemmas.{quiet_none}
use Rattle.weak_maps.proofs.StayLemmas.{quiet_on}
use Rattle.table_sections.specs.Slots.{HoldsEight, IsEight, OnSlots, SlotGets, SlotSets, keys_in, slot_ephe, slot_key}
use Rattle.table_sections.proofs.RegisterLemmas.{answer_after, graph_after, register_after, register_before, set_key_keeps}

-- an ephemeron keeps its count of keys
same_shape : (n : Node) (count : ℕ) → shape_of n ≡ EpheShape count → (keys : List (Option Label)) × (datum : Value) × (n ≡ Ephe keys datum) × (length keys ≡ count)
same_shape (Plain tag fields) count is = cc
same_shape (Raw tag fields) count is = cc
same_shape (Ephe keys datum) count is = (keys, datum, refl, (let same : length keys ≡ count = cc in same))

-- so one of eight keys stays one
pub eight_on : (z : Sizes) (old new : List Entry) (l : Label) → IsPrefix old new → IsEight (graph_of z old) l → IsEight (graph_of z new) l
eight_on z old new l grows x =
    let grew = grew_along z old new grows l (Ephe x.keys x.datum) x.node in
    let is = same_shape grew.0 (length x.keys) grew.2 in record {
      keys = is.0;
      datum = is.1;
      node = grew.1 ∙ ap Some is.2;
      eight = is.3 ∙ x.eight;
    }

-- and a register that holds it later, of whatever domain, holds one
pub eight_later : (z : Sizes) (d : ℕ) (old new : List Entry) (r : ℕ) (l : Label) → IsPrefix old new → IsEight (graph_of z old) l → held_by z d new r ≡ Block l → HoldsEight z d new r
eight_later z d old new r l grows x held = record { l = l; held = held; block = eight_on z old new l grows x }

eight_stays : (z : Sizes) (d : ℕ) (old new : List Entry) (r : ℕ) → IsPrefix old new → held_by z d new r ≡ held_by z d old r → HoldsEight z d old r → HoldsEight z d new r
eight_stays z d old new r grows same x = eight_later z d old new r x.l grows x.block (same ∙ x.held)

pub slots_stay : (z : Sizes) (d : ℕ) (old new : List Entry) → IsPrefix old new → held_by z d new 7 ≡ held_by z d old 7 → held_by z d new 12 ≡ held_by z d old 12 → held_by z d new 13 ≡ held_by z d old 13 → OnSlots z d old → OnSlots z d new
slots_stay z d old new grows seven twelve thirteen x = record {
  first = eight_stays z d old new 7 grows seven x.first;
  second = eight_stays z d old new 12 grows twelve x.second;
  third = eight_stays z d old new 13 grows thirteen x.third;
}

-- each slot is one of these
slot_eight : (z : Sizes) (d : ℕ) (h : List Entry) (s : ℕ) → s < 16 → OnSlots z d h → HoldsEight z d h (slot_ephe s)
slot_eight z d h s few x = by (s / 6) (omega (arith, few))
  where
    by : (q : ℕ) → q < 3 → HoldsEight z d h (get_or (7 ∷ 12 ∷ 13 ∷ []) q 0)
    by zero small = x.first
    by (suc zero) small = x.second
    by (suc (suc zero)) small = x.third
    by (suc (suc (suc q))) small = absurd (omega (arith, small))

-- what a register's block is at a front, and what its keys are then
keys_at : (z : Sizes) (d : ℕ) (h : List Entry) (r : ℕ) (x : HoldsEight z d h r) → block_in (state_of z h) d r ≡ Some (x.l, Ephe x.block.keys x.block.datum)
keys_at z d h r x = ap (λ (v : Value). option_and_then (block_at (graph_of z h)) (label_of v)) x.held ∙ ap (option_map (λ (n : Node). (x.l, n))) x.block.node

pub key_below : (s : ℕ) → slot_key s < 8
key_below s = omega arith

module _ (z : Sizes) (d : ℕ) (old new : List Entry) (s : ℕ) (few : s < 16) (slots : OnSlots z d old) where
  module _ (c : Command) (r : Reply) (p : PerformedBy z d old new c r) where
    abbrev mid : List Entry
    mid = old ++ p.between

    there : HoldsEight z d mid (slot_ephe s)
    there = eight_stays z d old mid (slot_ephe s) (to_middle z d old new c r p) (ap (λ (rs : List Value). get_or rs (slot_ephe s) Nothing) (registers_kept z d old new c r p)) (slot_eight z d old s few slots)

    key_there : slice_get there.block.keys (slot_key s) ≡ Some (get_or there.block.keys (slot_key s) None)
    key_there = let eight = there.block.eight in let low = key_below s in slice_get-get_or there.block.keys (slot_key s) None (omega (arith, eight, low))

  -- a slot that is read
  pub slot_gets : (r : ℕ) (answer : Reply) (a : LineReply) → IsWithinLimits z → r < 16 → PerformedBy z d old new (GetKey r (slot_ephe s) (slot_key s)) answer → a ≡ said answer → SlotGets z d old new s r a
  slot_gets r answer a limits small p is =
      let c : Command = GetKey r (slot_ephe s) (slot_key s) in
      let front : List Entry = mid c answer p in
      let here : State = state_of z front in
      let x : HoldsEight z d front (slot_ephe s) = there c answer p in
      let key : Option Label = get_or x.block.keys (slot_key s) None in
      let block : block_in here d (slot_ephe s) ≡ Some (x.l, Ephe x.block.keys x.block.datum) = keys_at z d front (slot_ephe s) x in
      let reads : outcome here d c ≡ read_into here d r (key_value key) =
      ap (λ (b : Option (Label × Node)). at_ephe here b (λ l keys datum. in_bounds here (slice_get keys (slot_key s)) (λ k. read_into here d r (key_value k)))) block
      ∙ ap (λ (o : Option (Option Label)). in_bounds here o (λ k. read_into here d r (key_value k))) (key_there c answer p) in
      let inside = inside_running here.domains d (legal_both z d old new c answer p).1.0.running in
      let many = sixteen z d old new c answer p limits in
      let kept = ap length (registers_kept z d old new c answer p) in
      let placed : register (read_into here d r (key_value key)).state d r ≡ key_value key =
      ap (λ (y : DomainState). get_or y.registers r Nothing) (get_or-set_same here.domains d _ no_domain inside) ∙ get_or-set_same (domain_at here d).registers r (key_value key) Nothing (omega (arith, many, kept, small)) in record {
        front = front;
        since = to_middle z d old new c answer p;
        until = prefix_before front _ new (from_middle z d old new c answer p);
        key = key;
        held = ap (λ (b : Option (Label × Node)). slice_get (keys_in b) (slot_key s)) block ∙ key_there c answer p;
        answers = is ∙ ap said (answer_after z d old new c answer p refl ∙ ap (λ (o : Outcome). o.reply) reads);
        holds = register_after z d old new c answer p refl r ∙ (ap (λ (o : Outcome). register o.state d r) reads ∙ placed);
      }

  -- a slot that is set
  module _ (r : ℕ) (answer : Reply) (a : LineReply) (p : PerformedBy z d old new (SetKey (slot_ephe s) (slot_key s) r) answer) (is : a ≡ said answer) where
    abbrev c : Command
    c = SetKey (slot_ephe s) (slot_key s) r

    abbrev front : List Entry
    front = mid c answer p

    abbrev here : State
    here = state_of z front

    item_is : (v : Value) → held_by z d old r ≡ v → label_in here d r ≡ label_of v
    item_is v held = ap label_of (register_before z d old new c answer p refl r ∙ held)

    no_label : (v : Value) → held_by z d old r ≡ v → label_of v ≡ None → (a ≡ said given.BadType) × OwnQuiet z d old new
    no_label v held none =
        let refused : outcome here d c ≡ only_replies here given.BadType = ap (λ (o : Option Label). key_stored here (slot_key s) o (block_in here d (slot_ephe s))) (item_is v held ∙ none) in (
          is ∙ ap said (answer_after z d old new c answer p refl ∙ ap (λ (o : Outcome). o.reply) refused),
          quiet_on z (record { domain = 0; serial = 0 }) d old old new c answer p (graph_after z d old new c answer p refl ∙ ap (λ (o : Outcome). o.state.graph) refused) (quiet_none z d old),
        )

    label : (k : Label) → held_by z d old r ≡ Block k → SlotSets z d old new s (Block k) a
    label k held =
        let x : HoldsEight z d front (slot_ephe s) = there c answer p in
        let n : Node = Ephe (set x.block.keys (slot_key s) (Some k)) x.block.datum in
        let block : block_in here d (slot_ephe s) ≡ Some (x.l, Ephe x.block.keys x.block.datum) = keys_at z d front (slot_ephe s) x in
        let sets : outcome here d c ≡ done_with (with_block here x.l n) =
        (λ i. key_stored here (slot_key s) (item_is (Block k) held i) (block i))
        ∙ ap (λ (o : Option (Option Label)). in_bounds here o (λ _. done_with (with_block here x.l n))) (key_there c answer p) in
        let eight = x.block.eight in
        let low = key_below s in
        let long = length-set x.block.keys (slot_key s) (Some k) in
        let node : node_at (graph_of z new) x.l ≡ Some n = ap (λ (g : Graph). node_at g x.l) (graph_after z d old new c answer p refl ∙ ap (λ (o : Outcome). o.state.graph) sets) ∙ node_at-with_node_same (graph_of z front) x.l n (Ephe x.block.keys x.block.datum) x.block.node in
        let after : HoldsEight z d new (slot_ephe s) = record {
          l = x.l;
          held = set_key_keeps z d old new answer (slot_ephe s) (slot_key s) r p (slot_ephe s) ∙ (sym (register_before z d old new c answer p refl (slot_ephe s)) ∙ x.held);
          block = record { keys = set x.block.keys (slot_key s) (Some k); datum = x.block.datum; node = node; eight = omega (arith, long, eight) };
        } in (
          is ∙ ap said (answer_after z d old new c answer p refl ∙ ap (λ (o : Outcome). o.reply) sets),
          record {
            front = front;
            since = to_middle z d old new c answer p;
            until = prefix_before front _ new (from_middle z d old new c answer p);
            ephe = x;
            sets = graph_after z d old new c answer p refl ∙ ap (λ (o : Outcome). o.state.graph) sets;
            holds =
                ap (λ (b : Option (Label × Node)). slice_get (keys_in b) (slot_key s)) (keys_at z d new (slot_ephe s) after)
                ∙ (slice_get-get_or (set x.block.keys (slot_key s) (Some k)) (slot_key s) None (omega (arith, long, eight, low)) ∙ ap Some (get_or-set_same x.block.keys (slot_key s) (Some k) None (omega (arith, eight, low))));
          },
        )

    pub slot_sets : (v : Value) → held_by z d old r ≡ v → SlotSets z d old new s v a
    slot_sets (Block k) held = label k held
    slot_sets (Int i) held = no_label (Int i) held refl
    slot_sets Nothing held = no_label Nothing held refl
