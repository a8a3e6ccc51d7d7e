-- Stores to fields keep the rule.
use Rattle.std.proofs.Common.{◌↔◌, ◌≡◌, ◌≢◌, ℕ, ◌+◌, ◌<◌, length, Bool, true, false, IsTrue, List, [], set, Some, ⊎_elim, sym, refl, ap, ◌∙◌, subst, length-set}
use mathlib.Core.Option.{some}
use lib.ListN.{get_elem?}
use Rattle.atomic_table.specs.Table.{Allows}
use Rattle.model_core.specs.declared.command.Command.{Command as model_command}
use Rattle.model_core.specs.declared.command.Command.TheVariants.{Store}
use Rattle.model_core.specs.Commands.{FitsMode}
use Rattle.model_core.specs.declared.reply.Applied.TheVariants.{Replied}
use Rattle.model_core.specs.declared.reply.Reply.{Reply}
use Rattle.model_core.specs.declared.reply.Reply.TheVariants.{Done as Stored}
use Rattle.model_core.specs.declared.entry.Entry.{Entry}
use Rattle.model_core.specs.declared.entry.Entry.TheVariants.{Command}
use Rattle.model_core.specs.declared.label.Label.{Label}
use Rattle.model_core.specs.declared.graph.Value as graph_value
use Rattle.model_core.specs.declared.graph.Value.TheVariants.{Block, Nothing as NothingValue}
use Rattle.model_core.specs.declared.graph.Node.{Node}
use Rattle.model_core.specs.declared.graph.Node.TheVariants.{Plain, Raw}
use Rattle.model_core.specs.declared.state.State as model
use Rattle.model_core.specs.Domains.{domain_at, register, opening}
use Rattle.model_core.specs.Graph.{node_at, with_node}
use Rattle.model_core.proofs.Histories.FrontLemmas.{shape_later}
use Rattle.std.proofs.lemmas.Option.{same_Some}
use Rattle.model_core.specs.Fronts.{PlainShape, RawShape, shape_of, HoldsShape}
use Rattle.model_core.proofs.Commands.LeavesLemmas.{Leaves, Takes, leaves_store_taken, takes_plain, takes_raw}
use Rattle.heap_words.specs.declared.value.Value.{Value}
use Rattle.heap_words.specs.Values.{value_word}
use Rattle.model_core.proofs.Commands.MoveLemmas.{registers_one}
use Rattle.model_cycle.specs.Beside.{WriteBarrier, owed_after}
use Rattle.heap_words.specs.declared.value.Value.TheVariants.{Ref, Nothing}
use Rattle.heap_rule.specs.declared.change.Change.{Change}
use Rattle.heap_rule.specs.declared.config.Config.{Config}
use Rattle.model_cycle.specs.Cover.{field_at as old_field}
use Rattle.heap_rule.specs.declared.phase.Kind.TheVariants.{Run}
use Rattle.heap_rule.specs.declared.phase.Stage.TheVariants.{In}
use Rattle.heap_rule.specs.declared.view.Known.{Known}
use Rattle.heap_rule.specs.declared.view.Known.TheVariants.{Marked, Refers, Done}
use Rattle.heap_rule.specs.Beside.{AllKnown, Barrier, IsKnown, IsPaid, IsUnaware}
use Rattle.heap_rule.specs.declared.view.DomainView.{DomainView}
use Rattle.heap_rule.specs.Layout.{before_heap}
use Rattle.heap_rule.specs.Changes.{value_at}
use Rattle.heap_rule.specs.Views.{one, Tells}
use Rattle.heap_rule.specs.Raw.{MayStore}
use Rattle.heap_rule.specs.Places.{Live, Place, values_of}
use Rattle.heap_rule.specs.Limits.{sizes_in}
use Rattle.heap_rule.specs.Standing.{Acts, FieldMay, LeavesOwn}
use Rattle.step_run.specs.Fields.Loads.{is_block}
use Rattle.step_run.proofs.OfFields.LoadSteps.{int_held}
use Rattle.heap_rule.specs.Rule.{state_of, Rule}
use Rattle.heap_rule.proofs.BesideLemmas.{paid_marks}
use Rattle.step_run.specs.Fields.Stores.{MustRemember, SuitsField, FieldStoreMay, FieldStoreEntry, StoreTold, CanStore}
use Rattle.heap_rule.proofs.Lists.{got_below}
use Rattle.heap_rule.proofs.Values.{not_nothing}
use Rattle.heap_rule.proofs.Keeps.{Words, mine, my_good, run_settled, whole_here}
use Rattle.heap_rule.proofs.Entering.{registers_stand, may_begin}
use Rattle.heap_rule.proofs.Blocks.{Field, block_same, field_at}
use Rattle.step_run.proofs.OfFields.ValueSteps.{ValueStore, value_stores}

-- a domain that knows nothing knows of no barrier that is done
nothing_paid : (known : List Known) (b i : ℕ) → known ≡ [] → IsPaid known b i → ⊥
nothing_paid known b i none paid = ⊎_elim
    (λ (is : IsKnown known (Done b i)). subst (λ (l : List Known). IsKnown l (Done b i)) none is)
    (λ (t : (a : ℕ) × IsKnown known (Refers b i a) × IsKnown known (Marked a)). subst (λ (l : List Known). IsKnown l (Marked t.0)) none t.2) paid

-- what the field referred to when the roots had been darkened is marked
barrier_done : (k : Config) (s : Words) (r : Rule k s) (id : ℕ) (hist : List Entry) (x : DomainView) (at : get_elem? s.views id ≡ some (one k hist x)) (b i : ℕ) (p : Place) → r.account.live b ≡ Some p → Barrier x.seen.share b i
    → IsTrue r.account.cycling.armed → (y : Label) → old_field r.account.cycling.past.old p.label i ≡ Some (Block y) → IsTrue (r.account.cycling.paint.marks.marked y)
barrier_done k s r id hist x at b i p lives barrier is y was =
    let sharing = (my_good k s r id hist x at).sharing in
    let known : List Known = x.seen.share.known in ⊎_elim
    (λ (none : x.seen.share.armed ≡ Some false). absurd (let clash : false ≡ true = (sharing.leading.armed false none).1 ∙ is in cc))
    (λ (paid : IsPaid known b i). ⊎_elim
    (λ (u : IsUnaware x.seen.share). absurd (nothing_paid known b i u.0 paid))
    (λ (u : (x.seen.stage ≡ In Run) × IsTrue r.account.cycling.armed × AllKnown k r.account.live r.account.tenancy.holder r.account.cycling.past.old r.account.cycling.paint.marks.marked s.words known).
    paid_marks k r.account.live r.account.tenancy.holder r.account.cycling.past.old r.account.cycling.paint.marks.marked s.words known b i p u.2 paid lives y was)
    sharing.running.knows)
    barrier

-- what a write into a field of this block makes of it
pub record Written (live : Live) (now : model.State) (l : Label) (fields : List graph_value.Value) (i : ℕ) (v held : graph_value.Value) : Type 0 where
  pub before : Node
  pub after : Node
  pub there : node_at now.graph l ≡ Some before
  pub takes : Takes before i v held after
  pub same_shape : shape_of after ≡ shape_of before
  pub values_before : values_of before ≡ fields
  pub values_after : values_of after ≡ set fields i v

-- a plain block takes what isn't nothing, and a raw one an integer
pub written_field : (k : Config) (s : Words) (r : Rule k s) (id : ℕ) (hist : List Entry) (x : DomainView) (at : get_elem? s.views id ≡ some (one k hist x)) (acts : Acts k x) (block i item size : ℕ) (f : Field k s r id hist x at block i) → item < 16 → value_at x.own.registers item ≢ Nothing
    → SuitsField k x block size (value_at x.own.registers item) → Written r.account.live (state_of k r.account.log) f.place.label f.fields i (register (state_of k r.account.log) x.own.number item) f.value
written_field k s r id hist x at acts block i item size f few full suits =
    let d : ℕ = x.own.number in
    let now : model.State = state_of k r.account.log in
    let w : Value = value_at x.own.registers item in
    let v : graph_value.Value = register now d item in
    let stand = registers_stand k s r id hist x at acts in
    let some : v ≢ NothingValue = not_nothing r.account.live w v full (stand.each item few) in
    let plain : node_at now.graph f.place.label ≡ Some (Plain f.tag f.fields) → Written r.account.live now f.place.label f.fields i v f.value = λ node. record {
      before = Plain f.tag f.fields;
      after = Plain f.tag (set f.fields i v);
      there = node;
      takes = takes_plain f.tag f.fields i v f.value f.there some;
      same_shape = ap (λ n. PlainShape n f.tag) (length-set f.fields i v);
      values_before = refl;
      values_after = refl;
    } in ⊎_elim plain
    (λ (node : node_at now.graph f.place.label ≡ Some (Raw f.tag f.fields)). ⊎_elim
    (λ (h : (tag : ℕ) × HoldsShape (state_of k x.seen.front) d block (PlainShape size tag)).
    let later = shape_later (opening (sizes_in k)) d block (PlainShape size h.0) r.account.log x.seen.front (mine k s r id hist x at).front h.1 in
    let label : later.label ≡ f.place.label = block_same later.label f.place.label (sym later.held ∙ f.held) in
    let same : later.node ≡ Raw f.tag f.fields = same_Some later.node (Raw f.tag f.fields) (sym later.there ∙ (ap (node_at now.graph) label ∙ node)) in
    absurd (let clash : RawShape (length f.fields) f.tag ≡ PlainShape size h.0 = ap shape_of (sym same) ∙ later.shape_is in cc))
    (λ (int : is_block w ≡ false).
    let z = int_held r.account.live w v full int (stand.each item few) in record {
      before = Raw f.tag f.fields;
      after = Raw f.tag (set f.fields i v);
      there = node;
      takes = subst (λ (u : graph_value.Value). Takes (Raw f.tag f.fields) i u f.value (Raw f.tag (set f.fields i u))) (sym z.1) (takes_raw f.tag f.fields i z.0 f.value f.there);
      same_shape = ap (λ n. RawShape n f.tag) (length-set f.fields i v);
      values_before = refl;
      values_after = refl;
    })
    suits)
    f.node

-- what a command changes that writes what a register holds into this field
module _ (k : Config) (s : Words) (r : Rule k s) (id : ℕ) (hist : List Entry) (x : DomainView) (at : get_elem? s.views id ≡ some (one k hist x)) (acts : Acts k x) (a new : ℕ) (remembers : Bool) (changes : List Change) (block i item : ℕ) (target : FieldMay k x a block i)
    (field : (f : Field k s r id hist x at block i) × (f.address ≡ target.address)) (few : item < 16) (full : value_at x.own.registers item ≢ Nothing) (suits : SuitsField k x block target.size (value_at x.own.registers item)) where
  open x use {own.{number as d}}

  abbrev now : model.State
  now = state_of k r.account.log

  abbrev f : Field k s r id hist x at block i
  f = field.0

  abbrev o : Written r.account.live now f.place.label f.fields i (register now d item) f.value
  o = written_field k s r id hist x at acts block i item target.size f few full suits

  pub field_written : (c : model_command) (reply : Reply) → new ≡ value_word (value_at x.own.registers item) → (remembers ≡ true) ↔ MustRemember k (value_at x.own.registers block) (value_at x.own.registers item) → LeavesOwn changes x → registers_one c ≡ false → FitsMode now d c
      → owed_after r.account.cycling.past.owed d c ≡ r.account.cycling.past.owed → (IsTrue r.account.cycling.armed → WriteBarrier r.account.cycling.past r.account.cycling.paint.marks now d c)
      → Leaves now (Command d c false) d (with_node now.graph f.place.label o.after) (domain_at now d).registers (domain_at now d).serial (Replied reply) → ValueStore k s r id hist x at a new remembers changes c reply
  field_written c reply packs exact same unregistering fits quiet barrier leaves = record {
    block = block;
    index = i;
    address = f.address;
    place = f.place;
    node = o.before;
    after = o.after;
    word = value_at x.own.registers item;
    value = register now d item;
    holds = target.block.holds ∙ ap Ref (sym field.1);
    lives = f.lives;
    there = o.there;
    spot = target.field ∙ ap (λ (n : ℕ). n + 2 + i) (sym field.1);
    same_shape = o.same_shape;
    values = o.values_after ∙ ap (λ (l : List graph_value.Value). set l i (register now d item)) (sym o.values_before);
    below = subst (λ (l : List graph_value.Value). i < length l) (sym o.values_before) (got_below f.fields i f.value f.there);
    stands = (registers_stand k s r id hist x at acts).each item few;
    packs = packs;
    exact = exact;
    same = same;
    unregistering = unregistering;
    fits = fits;
    quiet = quiet;
    barrier = barrier;
    leaves = leaves;
  }

-- as a store does
field_value : (k : Config) (s : Words) (r : Rule k s) (id : ℕ) (hist : List Entry) (x : DomainView) (at : get_elem? s.views id ≡ some (one k hist x)) (a new : ℕ) (remembers : Bool) (block i item : ℕ) (changes : List Change) → FieldStoreMay k x a new remembers changes x.own.number block i item
    → ValueStore k s r id hist x at a new remembers changes (Store block i item) Stored
field_value k s r id hist x at a new remembers block i item changes may =
    let d : ℕ = x.own.number in
    let now : model.State = state_of k r.account.log in
    let t = field_at k s r id hist x at (run_settled k s r id hist x at may.acts.runs) (whole_here k s r id hist x at Run tt may.acts.runs) a block i may.target in
    let f = t.0 in
    let o = written_field k s r id hist x at may.acts block i item may.target.size f may.from may.full may.suits in
    field_written k s r id hist x at may.acts a new remembers changes block i item may.target t may.from may.full may.suits (Store block i item) Stored may.word may.exact may.same refl (may_begin k s r id hist x at may.acts) refl
    (λ is l y held was. barrier_done k s r id hist x at f.address i f.place f.lives (subst (λ (b : ℕ). Barrier x.seen.share b i) (sym t.1) may.barrier) is y
    (ap (λ (m : Label). old_field r.account.cycling.past.old m i) (block_same f.place.label l (sym f.held ∙ held)) ∙ was))
    (leaves_store_taken now d block i item f.place.label o.before o.after (register now d item) f.value f.held o.there refl o.takes)

field_stores : (k : Config) (slots id word : ℕ) (hist : List Entry) (x : DomainView) (a new : ℕ) (remembers : Bool) (block i item : ℕ) (changes : List Change) → word ≡ before_heap k + a → FieldStoreMay k x a new remembers changes x.own.number block i item
    → let e : Entry = Command x.own.number (Store block i item) false in
    Allows (Rule k) slots id (one k hist x, []) word (λ _. new) (λ _. Tells (λ y _ z. StoreTold k e a remembers changes y z) (one k hist x, []) new)
field_stores k slots id word hist x a new remembers block i item changes place may =
    value_stores k slots id word hist x a new remembers changes (Store block i item) may.acts place (λ s r at. field_value k s r id hist x at a new remembers block i item changes may)

pub field_store_may : (k : Config) (word : ℕ) (x : DomainView) (a new : ℕ) (remembers : Bool) (e : Entry) (changes : List Change) → word ≡ before_heap k + a → FieldStoreEntry k x a new remembers changes e
    → MayStore k x word new (λ y _ z. StoreTold k e a remembers changes y z)
field_store_may k word x a new remembers (Command j (Store block i item) false) changes place may fits slots id h =
    subst (λ (n : ℕ). Allows (Rule k) slots id (one k h x, []) word (λ _. new) (λ _. Tells (λ y _ z. StoreTold k (Command n (Store block i item) false) a remembers changes y z) (one k h x, []) new)) (sym may.own)
    (field_stores k slots id word h x a new remembers block i item changes place (subst (λ (n : ℕ). FieldStoreMay k x a new remembers changes n block i item) may.own may))
field_store_may k word x a new remembers _ changes place may fits slots id h = absurd may

pub field_store_fits : (k : Config) (x : DomainView) (a new : ℕ) (remembers : Bool) (changes : List Change) (e : Entry) → FieldStoreEntry k x a new remembers changes e → CanStore remembers changes x.own
field_store_fits k x a new remembers changes (Command j (Store block i item) false) may = (may.fits, may.room)
field_store_fits k x a new remembers changes _ may = absurd may
