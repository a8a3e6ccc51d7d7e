-- Loads of heads, labels and fields keep the rule.
use Rattle.std.proofs.Common.{inl, inr, ◌≡◌, ◌≢◌, ℕ, ℤ, ◌+◌, ◌<◌, ◌≤◌, ⊎_elim, Bool, true, false, List, [], ◌∷◌, get_or, set, Some, Option, sym, refl, ap, ◌∙◌, subst, arith, ◌++◌, get_or-set_same}
use mathlib.Core.Logic.{dite}
use native.Mathlib.Decide.{dec_le}
use mathlib.Core.Option.{some}
use lib.ListN.{get_elem?}
use Rattle.atomic_table.specs.Table.{keeps, Allows}
use Rattle.model_core.specs.declared.label.Label.{Label}
use Rattle.model_core.specs.declared.command.Command.TheVariants.{Load, Store, Cas}
use Rattle.model_core.specs.declared.entry.Entry.{Entry}
use Rattle.model_core.specs.declared.entry.Entry.TheVariants.{Command}
use Rattle.model_core.specs.declared.reply.Applied.TheVariants.{Replied}
use Rattle.model_core.specs.declared.reply.Reply.TheVariants.{BadType, BadIndex}
use Rattle.model_core.specs.declared.graph.Value as graph_value
use Rattle.model_core.specs.declared.graph.Value.TheVariants.{Int, Block, Nothing}
use Rattle.model_core.specs.declared.graph.Node.{Node}
use Rattle.model_core.specs.declared.graph.Node.TheVariants.{Plain, Raw, Ephe}
use Rattle.model_core.specs.declared.state.State as model
use Rattle.model_core.specs.Domains.{register, domain_at}
use Rattle.model_core.specs.Graph.{node_at}
use Rattle.std.proofs.lemmas.Option.{none-some, same_Some}
use Rattle.model_core.specs.declared.reply.Reply.{Reply}
use Rattle.model_core.specs.Commands.{shown}
use Rattle.model_core.specs.Fronts.{Shape, PlainShape, RawShape, EpheShape, shape_of, HoldsFields}
use Rattle.model_core.proofs.Commands.LeavesLemmas.{Leaves, Refuses, leaves_load, leaves_load_past, leaves_load_raw, leaves_load_raw_past, leaves_load_kind, leaves_store_refused, leaves_cas_refused, refuses_plain_past, refuses_raw_past, refuses_raw_block, refuses_ephe}
use Rattle.heap_words.specs.declared.value.Value.{Value}
use Rattle.heap_words.specs.declared.value.Value.TheVariants.{Int as IntWord, Ref, Nothing as NothingWord}
use Rattle.heap_rule.specs.declared.change.Change.{Change}
use Rattle.heap_rule.specs.declared.config.Config.{Config}
use Rattle.heap_rule.specs.declared.phase.Kind.TheVariants.{Run}
use Rattle.heap_rule.specs.declared.view.DomainView.{DomainView}
use Rattle.heap_rule.specs.Places.{HeadIs, Live, Stands, colour_in, extent}
use Rattle.heap_rule.specs.Layout.{before_heap, at_address}
use Rattle.heap_rule.specs.Changes.{value_at, changed, FitChanges}
use Rattle.heap_rule.specs.Views.{one, Tells}
use Rattle.heap_rule.specs.Raw.{MayStep}
use Rattle.heap_rule.specs.Rule.{state_of, Rule}
use Rattle.heap_rule.specs.Standing.{Acts, IsAt, with_front}
use Rattle.step_run.specs.Fields.Loads.{subject, place_of, item_of, is_block, puts_block, HeadEntry, HeadMay, HeadTold, HeadCase, RawCase, SizeTold, LabelMay, LabelTold, FieldLoadMay, FieldLoadEntry, FieldRead}
use Rattle.heap_rule.proofs.ChangeLemmas.{registers_of}
use Rattle.heap_rule.proofs.Values.{AllStand, stand_set, not_nothing, packable, shows}
use Rattle.heap_rule.proofs.Keeps.{after_entry, Words, IsOfTrace, mine, my_good, own, looks, unmoved, run_settled, whole_here}
use Rattle.heap_rule.proofs.Entering.{inside_state, registers_stand, entered_view, enters, may_begin}
use Rattle.step_run.proofs.OfFields.Advances.{advance_command, EntersPaid, paid_command, paid_refused, paid_rule}
use Rattle.heap_rule.proofs.Blocks.{Lives, lives_at, Field, found_at, plain_at, raw_at, plain_node, raw_node, fields_inside, field_at, shape_at}
use Rattle.heap_rule.proofs.HeadLemmas.{packable_head, colour_small}

-- the node of an ephemeron's shape
ephe_of : (n : Node) (keys : ℕ) → shape_of n ≡ EpheShape keys → (ks : List (Option Label)) × (datum : graph_value.Value) × (n ≡ Ephe ks datum)
ephe_of (Plain tag fields) keys e = cc
ephe_of (Raw tag fields) keys e = cc
ephe_of (Ephe ks datum) keys e = (ks, datum, refl)

-- what goes into a field is an integer, or a block
pub int_held : (live : Live) (w : Value) (v : graph_value.Value) → w ≢ NothingWord → is_block w ≡ false → Stands live w v → (z : ℤ) × (v ≡ Int z)
int_held live (IntWord z) (Int v) full int st = (v, refl)
int_held live (IntWord z) (Block l) full int st = absurd st
int_held live (IntWord z) Nothing full int st = absurd st
int_held live (Ref a) v full int st = cc
int_held live NothingWord v full int st = absurd (full refl)

pub block_held : (live : Live) (w : Value) (v : graph_value.Value) → is_block w ≡ true → Stands live w v → (l : Label) × (v ≡ Block l)
block_held live (IntWord z) v block st = cc
block_held live (Ref a) (Block l) block st = (l, refl)
block_held live (Ref a) (Int z) block st = absurd st
block_held live (Ref a) Nothing block st = absurd st
block_held live NothingWord v block st = cc

looks_at : (x : DomainView) (a : ℕ) (e : Entry) → HeadEntry x a e → IsAt x (subject e) a
looks_at x a (Command d (Load dst src i) false) may = may.1
looks_at x a (Command d (Store block i item) false) may = may.1
looks_at x a (Command d (Cas block i expected item) false) may = may.1
looks_at x a _ may = absurd may

head_command : (x : DomainView) (a : ℕ) (e : Entry) → HeadEntry x a e → IsOfTrace e
head_command x a (Command d (Load dst src i) false) may = tt
head_command x a (Command d (Store block i item) false) may = tt
head_command x a (Command d (Cas block i expected item) false) may = tt
head_command x a _ may = absurd may

module _ (k : Config) (s : Words) (r : Rule k s) (id : ℕ) (hist : List Entry) (x : DomainView) (at : get_elem? s.views id ≡ some (one k hist x)) (acts : Acts k x) where
  abbrev now : model.State
  now = state_of k r.account.log

  abbrev d : ℕ
  d = x.own.number

  abbrev theirs : List graph_value.Value
  theirs = (domain_at now d).registers

  stand : AllStand r.account.live x.own.registers theirs
  stand = registers_stand k s r id hist x at acts

  -- what an entry brings into a field, if it does
  brings : (a : ℕ) (e : Entry) (item : ℕ) → HeadEntry x a e → item_of e ≡ Some item → (item < 16) × (value_at x.own.registers item ≢ NothingWord)
  brings a (Command j (Load dst src i) false) item may is = absurd (none-some item is)
  brings a (Command j (Store block i it) false) item may is = subst (λ (m : ℕ). (m < 16) × (value_at x.own.registers m ≢ NothingWord)) (same_Some it item is) (may.2, may.3)
  brings a (Command j (Cas block i expected it) false) item may is = subst (λ (m : ℕ). (m < 16) × (value_at x.own.registers m ≢ NothingWord)) (same_Some it item is) (may.2, may.3)
  brings a _ item may is = absurd may

  brings_some : (a : ℕ) (e : Entry) (item : ℕ) → HeadEntry x a e → item_of e ≡ Some item → register now d item ≢ Nothing
  brings_some a e item may is = let h = brings a e item may is in not_nothing r.account.live (value_at x.own.registers item) (register now d item) h.1 (stand.each item h.0)

  -- a load that is refused, and a store or a compare-and-set
  load_refused : (a j dst src i : ℕ) (reply : Reply) → HeadEntry x a (Command j (Load dst src i) false) → Leaves now (Command d (Load dst src i) false) d now.graph theirs (domain_at now d).serial (Replied reply)
      → EntersPaid k s r id hist x at acts now.graph (Command j (Load dst src i) false) x.own.registers (Replied reply)
  load_refused a j dst src i reply may leaves =
      subst (λ (m : ℕ). EntersPaid k s r id hist x at acts now.graph (Command m (Load dst src i) false) x.own.registers (Replied reply)) (sym may.0)
      (paid_refused k s r id hist x at acts (Load dst src i) refl (may_begin k s r id hist x at acts) x.own.registers (Replied reply) stand leaves)

  write_refused : (a : ℕ) (e : Entry) (item : ℕ) → HeadEntry x a e → item_of e ≡ Some item → (b : Lives k s r id hist x at (subject e) a) (n : Node) (v : graph_value.Value) (reply : Reply) → node_at now.graph b.place.label ≡ Some n → register now d item ≡ v
      → Refuses n (place_of e) v reply → EntersPaid k s r id hist x at acts now.graph e x.own.registers (Replied reply)
  write_refused a (Command j (Load dst src i) false) item may is b n v reply node value refuses = absurd (none-some item is)
  write_refused a (Command j (Store block i it) false) item may is b n v reply node value refuses =
      subst (λ (m : ℕ). EntersPaid k s r id hist x at acts now.graph (Command m (Store block i it) false) x.own.registers (Replied reply)) (sym may.0)
      (paid_refused k s r id hist x at acts (Store block i it) refl (may_begin k s r id hist x at acts) x.own.registers (Replied reply) stand
      (leaves_store_refused now d block i it b.place.label n v reply b.held node (ap (register now d) (same_Some it item is) ∙ value) refuses))
  write_refused a (Command j (Cas block i expected it) false) item may is b n v reply node value refuses =
      subst (λ (m : ℕ). EntersPaid k s r id hist x at acts now.graph (Command m (Cas block i expected it) false) x.own.registers (Replied reply)) (sym may.0)
      (paid_refused k s r id hist x at acts (Cas block i expected it) refl (may_begin k s r id hist x at acts) x.own.registers (Replied reply) stand
      (leaves_cas_refused now d block i expected it (register now d expected) refl (not_nothing r.account.live (value_at x.own.registers expected) (register now d expected) may.5 (stand.each expected may.4))
      b.place.label n v reply b.held node (ap (register now d) (same_Some it item is) ∙ value) refuses))
  write_refused a _ item may is b n v reply node value refuses = absurd may

  -- the entry's place is past the end of a plain block
  past_entry : (a : ℕ) (e : Entry) → HeadEntry x a e → (n tag : ℕ) (b : Lives k s r id hist x at (subject e) a) → b.place.shape ≡ PlainShape n tag → n ≤ place_of e → EntersPaid k s r id hist x at acts now.graph e x.own.registers (Replied BadIndex)
  past_entry a (Command j (Load dst src i) false) may n tag b is past =
      let p = plain_node k s r id hist x at src a b n tag is in
      load_refused a j dst src i BadIndex may (leaves_load_past now d dst src i b.place.label tag p.0 b.held p.1 (let l = p.2 in omega arith))
  past_entry a (Command j (Store block i item) false) may n tag b is past =
      let e : Entry = Command j (Store block i item) false in
      let p = plain_node k s r id hist x at block a b n tag is in
      write_refused a e item may refl b (Plain tag p.0) (register now d item) BadIndex p.1 refl (refuses_plain_past tag p.0 i (register now d item) (let l = p.2 in omega arith) (brings_some a e item may refl))
  past_entry a (Command j (Cas block i expected item) false) may n tag b is past =
      let e : Entry = Command j (Cas block i expected item) false in
      let p = plain_node k s r id hist x at block a b n tag is in
      write_refused a e item may refl b (Plain tag p.0) (register now d item) BadIndex p.1 refl (refuses_plain_past tag p.0 i (register now d item) (let l = p.2 in omega arith) (brings_some a e item may refl))
  past_entry a _ may n tag b is past = absurd may

  -- or of a raw one, which takes the value
  raw_past : (a : ℕ) (e : Entry) → HeadEntry x a e → (n tag : ℕ) (b : Lives k s r id hist x at (subject e) a) → b.place.shape ≡ RawShape n tag → puts_block x e ≡ false → n ≤ place_of e → EntersPaid k s r id hist x at acts now.graph e x.own.registers (Replied BadIndex)
  raw_past a (Command j (Load dst src i) false) may n tag b is int past =
      let p = raw_node k s r id hist x at src a b n tag is in
      load_refused a j dst src i BadIndex may (leaves_load_raw_past now d dst src i b.place.label tag p.0 b.held p.1 (let l = p.2 in omega arith))
  raw_past a (Command j (Store block i item) false) may n tag b is int past =
      let e : Entry = Command j (Store block i item) false in
      let p = raw_node k s r id hist x at block a b n tag is in
      let h = brings a e item may refl in
      let z = int_held r.account.live (value_at x.own.registers item) (register now d item) h.1 int (stand.each item h.0) in
      write_refused a e item may refl b (Raw tag p.0) (Int z.0) BadIndex p.1 z.1 (refuses_raw_past tag p.0 i z.0 (let l = p.2 in omega arith))
  raw_past a (Command j (Cas block i expected item) false) may n tag b is int past =
      let e : Entry = Command j (Cas block i expected item) false in
      let p = raw_node k s r id hist x at block a b n tag is in
      let h = brings a e item may refl in
      let z = int_held r.account.live (value_at x.own.registers item) (register now d item) h.1 int (stand.each item h.0) in
      write_refused a e item may refl b (Raw tag p.0) (Int z.0) BadIndex p.1 z.1 (refuses_raw_past tag p.0 i z.0 (let l = p.2 in omega arith))
  raw_past a _ may n tag b is int past = absurd may

  -- a raw block takes no block
  raw_entry : (a : ℕ) (e : Entry) → HeadEntry x a e → (n tag : ℕ) (b : Lives k s r id hist x at (subject e) a) → b.place.shape ≡ RawShape n tag → puts_block x e ≡ true → EntersPaid k s r id hist x at acts now.graph e x.own.registers (Replied BadType)
  raw_entry a (Command j (Load dst src i) false) may n tag b is puts = absurd (let clash : false ≡ true = puts in cc)
  raw_entry a (Command j (Store block i item) false) may n tag b is puts =
      let e : Entry = Command j (Store block i item) false in
      let p = raw_node k s r id hist x at block a b n tag is in
      let h = brings a e item may refl in
      let l = block_held r.account.live (value_at x.own.registers item) (register now d item) puts (stand.each item h.0) in
      write_refused a e item may refl b (Raw tag p.0) (Block l.0) BadType p.1 l.1 (refuses_raw_block tag p.0 i l.0)
  raw_entry a (Command j (Cas block i expected item) false) may n tag b is puts =
      let e : Entry = Command j (Cas block i expected item) false in
      let p = raw_node k s r id hist x at block a b n tag is in
      let h = brings a e item may refl in
      let l = block_held r.account.live (value_at x.own.registers item) (register now d item) puts (stand.each item h.0) in
      write_refused a e item may refl b (Raw tag p.0) (Block l.0) BadType p.1 l.1 (refuses_raw_block tag p.0 i l.0)
  raw_entry a _ may n tag b is puts = absurd may

  -- and an ephemeron has no fields
  kind_entry : (a : ℕ) (e : Entry) → HeadEntry x a e → (keys : ℕ) (b : Lives k s r id hist x at (subject e) a) → b.place.shape ≡ EpheShape keys → EntersPaid k s r id hist x at acts now.graph e x.own.registers (Replied BadType)
  kind_entry a (Command j (Load dst src i) false) may keys b is =
      let f = found_at k s r id hist x at src a b in
      let p = ephe_of f.node keys (f.shape ∙ is) in
      load_refused a j dst src i BadType may (leaves_load_kind now d dst src i b.place.label p.0 p.1 b.held (f.there ∙ ap Some p.2))
  kind_entry a (Command j (Store block i item) false) may keys b is =
      let f = found_at k s r id hist x at block a b in
      let p = ephe_of f.node keys (f.shape ∙ is) in
      write_refused a (Command j (Store block i item) false) item may refl b (Ephe p.0 p.1) (register now d item) BadType (f.there ∙ ap Some p.2) refl (refuses_ephe p.0 p.1 i (register now d item))
  kind_entry a (Command j (Cas block i expected item) false) may keys b is =
      let f = found_at k s r id hist x at block a b in
      let p = ephe_of f.node keys (f.shape ∙ is) in
      write_refused a (Command j (Cas block i expected item) false) item may refl b (Ephe p.0 p.1) (register now d item) BadType (f.there ∙ ap Some p.2) refl (refuses_ephe p.0 p.1 i (register now d item))
  kind_entry a _ may keys b is = absurd may

  -- the view after a head load, by the block's shape
  record HeadStep (a : ℕ) (e : Entry) (shape : Shape) : Type 0 where
    after : DomainView
    rule : Rule k record { words = s.words; homes = s.homes; views = set s.views id (one k hist after) }
    told : HeadCase k a e shape x after

  refusal : (a : ℕ) (e : Entry) (shape : Shape) (answer : Rattle.model_core.specs.declared.reply.Applied.Applied) → IsOfTrace e → EntersPaid k s r id hist x at acts now.graph e x.own.registers answer
      → HeadCase k a e shape x (entered_view k s r id hist x at acts e x.own.registers) → HeadStep a e shape
  refusal a e shape answer of_trace o told = record { after = entered_view k s r id hist x at acts e x.own.registers; rule = paid_rule k s r id hist x at acts e x.own.registers answer o of_trace; told = told }

  -- the size is known, and the place is past it or not
  past_told : (a : ℕ) (e : Entry) (n : ℕ) (shape : Shape) (o : EntersPaid k s r id hist x at acts now.graph e x.own.registers (Replied BadIndex)) → n ≤ place_of e → SizeTold k a e n shape x (entered_view k s r id hist x at acts e x.own.registers)
  past_told a e n shape o past = record {
    below = λ below. absurd (let p : ℕ = place_of e in let h : p < n = below in let g : n ≤ p = past in omega arith);
    of_shape = λ below. absurd (let p : ℕ = place_of e in let h : p < n = below in let g : n ≤ p = past in omega arith);
    past = λ _. enters k s r id hist x at acts now.graph e (Replied BadIndex) NothingWord [] o.enters;
  }

  below_told : (a : ℕ) (e : Entry) (n : ℕ) (shape : Shape) (b : Lives k s r id hist x at (subject e) a) → b.place.shape ≡ shape → HoldsFields now d (subject e) n → extent b.place.shape ≡ n + 2 → (n ≤ place_of e → ⊥) → SizeTold k a e n shape x (with_front x r.account.log)
  below_told a e n shape b is holds wide not_past = record {
    below = λ _. record {
      looked = record { seen = (mine k s r id hist x at).front; calls = (my_good k s r id hist x at).still.1 acts.runs; legal = r.whole.legal; view = refl };
      knows = holds;
      inside = fields_inside k s r id hist x at (subject e) a b n wide;
    };
    of_shape = λ _. shape_at k s r id hist x at (subject e) a b shape is;
    past = λ past. absurd (not_past past);
  }

  head_step : (a : ℕ) (e : Entry) → HeadEntry x a e → (shape : Shape) (b : Lives k s r id hist x at (subject e) a) → b.place.shape ≡ shape → HeadStep a e shape
  head_step a e may (EpheShape keys) b is =
      let o = kind_entry a e may keys b is in refusal a e (EpheShape keys) (Replied BadType) (head_command x a e may) o (enters k s r id hist x at acts now.graph e (Replied BadType) NothingWord [] o.enters)
  head_step a e may (PlainShape n tag) b is = dite (dec_le n (place_of e))
      (λ past. let o = past_entry a e may n tag b is past in refusal a e (PlainShape n tag) (Replied BadIndex) (head_command x a e may) o (past_told a e n (PlainShape n tag) o past))
      (λ not_past. record {
        after = with_front x r.account.log;
        rule = looks k s r id hist x at r.account.log (inr refl);
        told = below_told a e n (PlainShape n tag) b is (plain_at k s r id hist x at (subject e) a b n tag is) (ap extent is) not_past;
      })
  head_step a e may (RawShape n tag) b is = raw_step (puts_block x e) refl where
    raw_step : (puts : Bool) → puts_block x e ≡ puts → HeadStep a e (RawShape n tag)
    raw_step true puts =
        let o = raw_entry a e may n tag b is puts in refusal a e (RawShape n tag) (Replied BadType) (head_command x a e may) o
        (subst (λ (q : Bool). RawCase q k a e n tag x (entered_view k s r id hist x at acts e x.own.registers)) (sym puts) (enters k s r id hist x at acts now.graph e (Replied BadType) NothingWord [] o.enters))
    raw_step false puts = dite (dec_le n (place_of e))
        (λ past. let o = raw_past a e may n tag b is puts past in refusal a e (RawShape n tag) (Replied BadIndex) (head_command x a e may) o
        (subst (λ (q : Bool). RawCase q k a e n tag x (entered_view k s r id hist x at acts e x.own.registers)) (sym puts) (past_told a e n (RawShape n tag) o past)))
        (λ not_past. record {
          after = with_front x r.account.log;
          rule = looks k s r id hist x at r.account.log (inr refl);
          told = subst (λ (q : Bool). RawCase q k a e n tag x (with_front x r.account.log)) (sym puts)
              (below_told a e n (RawShape n tag) b is (raw_at k s r id hist x at (subject e) a b n tag is) (ap extent is) not_past);
        })

heads : (k : Config) (slots id word : ℕ) (hist : List Entry) (x : DomainView) (a : ℕ) (e : Entry) → word ≡ before_heap k + a → HeadMay k x a e
    → Allows (Rule k) slots id (one k hist x, []) word (λ n. n) (Tells (HeadTold k a e) (one k hist x, []))
heads k slots id word hist x a e place may s r _ at _ =
    let b = lives_at k s r id hist x at (subject e) a (looks_at x a e may.entry) in
    let found = found_at k s r id hist x at (subject e) a b in
    let done = head_step k s r id hist x at may.acts a e may.entry b.place.shape b refl in (
      one k hist done.after,
      keeps,
      tt,
      unmoved k s word (set s.views id (one k hist done.after)) done.rule,
      (
        record {
          shape = b.place.shape;
          head = let paint = r.account.cycling.paint in let colour : ℕ = colour_in paint b.place.label in record { colour = colour; scanned = found.head.scanned; fits = (r.whole.placed.fits a b.place b.lives).head; packable = packable_head b.place.shape colour found.head.scanned (colour_small paint b.place.label r.whole.cycle.meanings) (r.whole.placed.fits a b.place b.lives).head; packs = ap (λ (i : ℕ). get_or s.words i 0) place ∙ subst (λ (f : Option ℕ). HeadIs f b.place.shape colour found.head.scanned (at_address k s.words a)) (run_settled k s r id hist x at may.acts.runs a b.place b.lives).no_forward found.head.packs };
          told = done.told;
        },
        refl,
      ),
    )

pub head_load_may : (k : Config) (word : ℕ) (x : DomainView) (a : ℕ) (e : Entry) → word ≡ before_heap k + a → HeadMay k x a e → MayStep k x word (λ n. n) (HeadTold k a e)
head_load_may k word x a e place may fits slots id h = heads k slots id word h x a e place may

labels : (k : Config) (slots id word : ℕ) (hist : List Entry) (x : DomainView) (a reg : ℕ) → word ≡ before_heap k + a → LabelMay x a reg
    → Allows (Rule k) slots id (one k hist x, []) word (λ n. n) (Tells (LabelTold k reg) (one k hist x, []))
labels k slots id word hist x a reg place may s r _ at _ =
    let b = lives_at k s r id hist x at reg may.address may.block in
    let found = found_at k s r id hist x at reg may.address b in (
      one k hist x,
      keeps,
      tt,
      unmoved k s word (set s.views id (one k hist x)) (looks k s r id hist x at x.seen.front (inl refl)),
      (
        record {
          view = refl;
          label = b.place.label;
          packable = (r.whole.placed.fits may.address b.place b.lives).label;
          word = ap (λ (i : ℕ). get_or s.words i 0) (place ∙ ap (λ (i : ℕ). before_heap k + i) may.label) ∙ found.label;
          holds = ap (λ (l : List graph_value.Value). get_or l reg Nothing) (sym (own k s r id hist x at).registers) ∙ b.held;
        },
        refl,
      ),
    )

pub label_load_may : (k : Config) (word : ℕ) (x : DomainView) (a reg : ℕ) → word ≡ before_heap k + a → LabelMay x a reg → MayStep k x word (λ n. n) (LabelTold k reg)
label_load_may k word x a reg place may fits slots id h = labels k slots id word h x a reg place may

-- what a load leaves that finds its field, of a plain block or of a raw one
load_leaves : (k : Config) (s : Words) (r : Rule k s) (id : ℕ) (hist : List Entry) (x : DomainView) (at : get_elem? s.views id ≡ some (one k hist x)) → Acts k x → (dst src i : ℕ) (f : Field k s r id hist x at src i) → let now : model.State = state_of k r.account.log in
    Leaves now (Command x.own.number (Load dst src i) false) x.own.number now.graph (set (domain_at now x.own.number).registers dst f.value) (domain_at now x.own.number).serial (Replied (shown f.value))
load_leaves k s r id hist x at acts dst src i f = let now : model.State = state_of k r.account.log in ⊎_elim
    (λ (node : node_at now.graph f.place.label ≡ Some (Plain f.tag f.fields)). leaves_load now x.own.number (inside_state k s r id hist x at acts) dst src i f.place.label f.tag f.fields f.value f.held node f.there)
    (λ (node : node_at now.graph f.place.label ≡ Some (Raw f.tag f.fields)). leaves_load_raw now x.own.number (inside_state k s r id hist x at acts) dst src i f.place.label f.tag f.fields f.value f.held node f.there)
    f.node

-- the entry of a load that finds its field
field_entry : (k : Config) (s : Words) (r : Rule k s) (id : ℕ) (hist : List Entry) (x : DomainView) (at : get_elem? s.views id ≡ some (one k hist x)) (a dst src i : ℕ) (changes : List Change)
    (may : FieldLoadMay k x a changes x.own.number dst src i) → let f = (field_at k s r id hist x at (run_settled k s r id hist x at may.acts.runs) (whole_here k s r id hist x at Run tt may.acts.runs) a src i may.reads).0 in
    EntersPaid k s r id hist x at may.acts (state_of k r.account.log).graph (Command x.own.number (Load dst src i) false) ((changed f.stands.value changes x.own).registers) (Replied (shown f.value))
field_entry k s r id hist x at a dst src i changes may =
    let f = (field_at k s r id hist x at (run_settled k s r id hist x at may.acts.runs) (whole_here k s r id hist x at Run tt may.acts.runs) a src i may.reads).0 in
    let now : model.State = state_of k r.account.log in
    let d : ℕ = x.own.number in
    let theirs : List graph_value.Value = (domain_at now d).registers in
    paid_command k s r id hist x at may.acts now.graph (Load dst src i) refl (may_begin k s r id hist x at may.acts) ((changed f.stands.value changes x.own).registers) (Replied (shown f.value)) (set theirs dst f.value)
    (subst (λ (l : List Value). AllStand r.account.live l (set theirs dst f.value)) (sym (ap registers_of (may.written f.stands.value)))
    (stand_set r.account.live x.own.registers theirs dst f.stands.value f.value may.goes f.stands.stands (registers_stand k s r id hist x at may.acts)))
    (advance_command k s r id hist x at may.acts (Load dst src i) refl (λ _. tt))
    (load_leaves k s r id hist x at may.acts dst src i f)

-- the register that the load writes then holds the field
register_after : (k : Config) (s : Words) (r : Rule k s) (id : ℕ) (hist : List Entry) (x : DomainView) (at : get_elem? s.views id ≡ some (one k hist x)) (a dst src i : ℕ) (changes : List Change)
    (may : FieldLoadMay k x a changes x.own.number dst src i) → register (state_of k (r.account.log ++ Command x.own.number (Load dst src i) false ∷ [])) x.own.number dst ≡ (field_at k s r id hist x at (run_settled k s r id hist x at may.acts.runs) (whole_here k s r id hist x at Run tt may.acts.runs) a src i may.reads).0.value
register_after k s r id hist x at a dst src i changes may =
    let f = (field_at k s r id hist x at (run_settled k s r id hist x at may.acts.runs) (whole_here k s r id hist x at Run tt may.acts.runs) a src i may.reads).0 in
    let e : Entry = Command x.own.number (Load dst src i) false in
    let now : model.State = state_of k r.account.log in
    let theirs : List graph_value.Value = (domain_at now x.own.number).registers in
    let leaves = load_leaves k s r id hist x at may.acts dst src i f in
    ap (λ (t : model.State). register t x.own.number dst) (after_entry k s r id hist x at e)
    ∙ (ap (λ (l : List graph_value.Value). get_or l dst Nothing) leaves.registers_are
    ∙ get_or-set_same theirs dst f.value Nothing (let w = (registers_stand k s r id hist x at may.acts).long in let l = may.goes in omega arith))

field_loads : (k : Config) (slots id word : ℕ) (hist : List Entry) (x : DomainView) (a dst src i : ℕ) (changes : List Change) → word ≡ before_heap k + a → FieldLoadMay k x a changes x.own.number dst src i
    → let e : Entry = Command x.own.number (Load dst src i) false in Allows (Rule k) slots id (one k hist x, []) word (λ n. n) (Tells (FieldRead k e changes) (one k hist x, []))
field_loads k slots id word hist x a dst src i changes place may s r _ at _ =
    let e : Entry = Command x.own.number (Load dst src i) false in
    let t = field_at k s r id hist x at (run_settled k s r id hist x at may.acts.runs) (whole_here k s r id hist x at Run tt may.acts.runs) a src i may.reads in
    let f = t.0 in
    let o = field_entry k s r id hist x at a dst src i changes may in
    let regs : List Value = (changed f.stands.value changes x.own).registers in
    let y : DomainView = entered_view k s r id hist x at may.acts e regs in
    let here : word ≡ before_heap k + (f.address + 2 + i) = place ∙ ap (λ (n : ℕ). before_heap k + n) (may.reads.field ∙ ap (λ (n : ℕ). n + 2 + i) (sym t.1)) in (
      one k hist y,
      keeps,
      tt,
      unmoved k s word (set s.views id (one k hist y)) (paid_rule k s r id hist x at may.acts e regs (Replied (shown f.value)) o tt),
      (
        record {
          value = f.stands.value;
          packable = packable k r.limits r.account.live r.whole.placed f.stands.value f.value f.stands.stands;
          word = ap (λ (n : ℕ). get_or s.words n 0) here ∙ f.stands.packs;
          held = f.value;
          shows = shows r.account.live f.stands.value f.value f.stands.stands;
          register_is = register_after k s r id hist x at a dst src i changes may;
          entered = enters k s r id hist x at may.acts (state_of k r.account.log).graph e (Replied (shown f.value)) f.stands.value changes o.enters;
        },
        refl,
      ),
    )

pub field_load_may : (k : Config) (word : ℕ) (x : DomainView) (a : ℕ) (e : Entry) (changes : List Change) → word ≡ before_heap k + a → FieldLoadEntry k x a changes e → MayStep k x word (λ n. n) (FieldRead k e changes)
field_load_may k word x a (Command j (Load dst src i) false) changes place may fits slots id h =
    subst (λ (n : ℕ). Allows (Rule k) slots id (one k h x, []) word (λ q. q) (Tells (FieldRead k (Command n (Load dst src i) false) changes) (one k h x, []))) (sym may.own)
    (field_loads k slots id word h x a dst src i changes place (subst (λ (n : ℕ). FieldLoadMay k x a changes n dst src i) may.own may))
field_load_may k word x a _ changes place may fits slots id h = absurd may

pub field_load_fits : (k : Config) (x : DomainView) (a : ℕ) (changes : List Change) (e : Entry) → FieldLoadEntry k x a changes e → FitChanges changes
field_load_fits k x a changes (Command j (Load dst src i) false) may = may.fits
field_load_fits k x a changes _ may = absurd may
