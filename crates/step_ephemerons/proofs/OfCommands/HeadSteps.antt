-- Loads of the heads of ephemerons keep the rule.
use Rattle.std.proofs.Common.{◌≡◌, ℕ, ◌+◌, ◌<◌, ◌≤◌, ◌⊎◌, inl, inr, ⊎_elim, false, List, [], get_or, set, Option, Some, None, sym, refl, ap, ◌∙◌, subst, arith, lt_of_not-le}
use mathlib.Core.Logic.{dite}
use native.Mathlib.Decide.{dec_le}
use mathlib.Core.Option.{some}
use lib.ListN.{get_elem?}
use Rattle.atomic_table.specs.Table.{keeps, Allows}
use Rattle.model_core.specs.declared.label.Label.{Label}
use Rattle.model_core.specs.declared.command.Command as command
use Rattle.model_core.specs.declared.command.Command.TheVariants.{SetKey, UnsetKey, GetKey, CheckKey, SetData, UnsetData, GetData, CheckData}
use Rattle.model_core.specs.declared.entry.Entry.{Entry}
use Rattle.model_core.specs.declared.entry.Entry.TheVariants.{Command}
use Rattle.model_core.specs.declared.reply.Reply.{Reply}
use Rattle.model_core.specs.declared.reply.Applied.{Applied}
use Rattle.model_core.specs.declared.reply.Applied.TheVariants.{Replied}
use Rattle.model_core.specs.declared.reply.Reply.TheVariants.{BadType, BadIndex}
use Rattle.model_core.specs.declared.graph.Value as graph_value
use Rattle.model_core.specs.declared.graph.Value.TheVariants.{Block}
use Rattle.model_core.specs.declared.graph.Node.TheVariants.{Plain, Raw, Ephe}
use Rattle.model_core.specs.declared.state.State as model
use Rattle.model_core.specs.Domains.{register, domain_at}
use Rattle.model_core.specs.Commands.{only_replies, outcome}
use Rattle.model_core.specs.Fronts.{Shape, PlainShape, RawShape, EpheShape}
use Rattle.heap_words.specs.declared.value.Value.{Value}
use Rattle.heap_words.specs.declared.value.Value.TheVariants.{Int as IntWord, Ref, Nothing as NothingWord}
use Rattle.heap_rule.specs.declared.config.Config.{Config}
use Rattle.heap_rule.specs.declared.view.DomainView.{DomainView}
use Rattle.heap_rule.specs.Places.{Live, Stands, HeadIs, colour_in, extent}
use Rattle.heap_rule.specs.Layout.{before_heap, at_address, heap_words}
use Rattle.heap_rule.specs.Changes.{value_at}
use Rattle.heap_rule.specs.Views.{one, Tells}
use Rattle.heap_rule.specs.Raw.{MayStep}
use Rattle.heap_rule.specs.Rule.{state_of, Rule}
use Rattle.heap_rule.specs.Standing.{Acts, IsAt, with_front}
use Rattle.heap_rule.proofs.Values.{AllStand, stands_block, not_nothing}
use Rattle.heap_rule.proofs.Keeps.{my_good, Words, IsOfTrace, mine, looks, unmoved, run_settled}
use Rattle.heap_rule.proofs.Entering.{registers_stand, entered_view, enters, may_begin}
use Rattle.heap_rule.proofs.Blocks.{Lives, lives_at, found_at, plain_node, raw_node, shape_at}
use Rattle.heap_rule.proofs.HeadLemmas.{packable_head, colour_small}
use Rattle.step_run.proofs.OfFields.Advances.{EntersPaid, paid_refused, paid_rule}
use Rattle.model_core.proofs.Commands.LeavesLemmas.{leaves_reply}
use Rattle.step_run.proofs.OfFields.EphemeronEntries.{block_is}
use Rattle.step_ephemerons.specs.Commands.Heads.{ephemeron_in, key_in, IsBlockValue, HasItem, HasKey, LacksKey, EpheHeadEntry, EpheHeadMay, EpheHeadTold, EpheHeadCase, subject}
use Rattle.step_ephemerons.proofs.OfCommands.Outcomes.{unregistering_item, fits_item, Brings, plain_outcome, raw_outcome, past_outcome}
use Rattle.step_ephemerons.proofs.OfCommands.Finding.{ephe_of}

-- an ephemeron has the key that is named, or it hasn't
pub key_cases : (key : Option ℕ) (keys : ℕ) → HasKey key keys ⊎ LacksKey key keys
key_cases None keys = inl tt
key_cases (Some i) keys = dite (dec_le keys i) (λ past. inr past) (λ not_past. inl (lt_of_not-le not_past))

not_both : (key : Option ℕ) (keys : ℕ) → HasKey key keys → LacksKey key keys → ⊥
not_both None keys has lacks = lacks
not_both (Some i) keys has lacks = let h : i < keys = has in let l : keys ≤ i = lacks in omega arith

-- what holds an address stands for a block
pub block_held : (live : Live) (w : Value) (v : graph_value.Value) → IsBlockValue w → Stands live w v → (l : Label) × (v ≡ Block l)
block_held live (IntWord z) v is stands = absurd is
block_held live (Ref a) v is stands = let b = stands_block live a v stands in (b.0, b.2)
block_held live NothingWord v is stands = absurd is

head_command : (x : DomainView) (a : ℕ) (e : Entry) → EpheHeadEntry x a e → IsOfTrace e
head_command x a (Command d c false) may = tt
head_command x a _ may = absurd may

looks_at : (x : DomainView) (a : ℕ) (e : Entry) → EpheHeadEntry x a e → IsAt x (subject e) a
looks_at x a (Command d c false) may = may.1
looks_at x a _ may = absurd may

module _ (k : Config) (s : Words) (r : Rule k s) (id : ℕ) (hist : List Entry) (x : DomainView) (at : get_elem? s.views id ≡ some (one k hist x)) (acts : Acts k x) where
  abbrev now : model.State
  now = state_of k r.account.log

  abbrev d : ℕ
  d = x.own.number

  abbrev theirs : List graph_value.Value
  theirs = (domain_at now d).registers

  stand : AllStand r.account.live x.own.registers theirs
  stand = registers_stand k s r id hist x at acts

  -- the state has what the token has
  pub brings : (c : command.Command) → HasItem x c → Brings now d c
  brings (SetKey ephe i item) has = block_held r.account.live (value_at x.own.registers item) (register now d item) has.1 (stand.each item has.0)
  brings (UnsetKey ephe i) has = tt
  brings (GetKey dst ephe i) has = tt
  brings (CheckKey ephe i) has = tt
  brings (SetData ephe item) has = not_nothing r.account.live (value_at x.own.registers item) (register now d item) has.1 (stand.each item has.0)
  brings (UnsetData ephe) has = tt
  brings (GetData dst ephe) has = tt
  brings (CheckData ephe) has = tt
  brings _ has = absurd has

  -- a command that is refused
  refused : (c : command.Command) (reply : Reply) → HasItem x c → outcome now d c ≡ only_replies now reply → EntersPaid k s r id hist x at acts now.graph (Command d c false) x.own.registers (Replied reply)
  refused c reply has is = paid_refused k s r id hist x at acts c (unregistering_item x c has) (fits_item now d x c has (may_begin k s r id hist x at acts)) x.own.registers (Replied reply) stand (leaves_reply now d c reply is)

  -- as its block is a plain one, or a raw one
  plain_entry : (a : ℕ) (c : command.Command) → HasItem x c → (n tag : ℕ) (b : Lives k s r id hist x at (ephemeron_in c) a) → b.place.shape ≡ PlainShape n tag → EntersPaid k s r id hist x at acts now.graph (Command d c false) x.own.registers (Replied BadType)
  plain_entry a c has n tag b is =
      let p = plain_node k s r id hist x at (ephemeron_in c) a b n tag is in
      refused c BadType has (plain_outcome now d c b.place.label tag p.0 (brings c has) (block_is now d (ephemeron_in c) b.place.label (Plain tag p.0) b.held p.1))

  raw_entry : (a : ℕ) (c : command.Command) → HasItem x c → (n tag : ℕ) (b : Lives k s r id hist x at (ephemeron_in c) a) → b.place.shape ≡ RawShape n tag → EntersPaid k s r id hist x at acts now.graph (Command d c false) x.own.registers (Replied BadType)
  raw_entry a c has n tag b is =
      let p = raw_node k s r id hist x at (ephemeron_in c) a b n tag is in
      refused c BadType has (raw_outcome now d c b.place.label tag p.0 (brings c has) (block_is now d (ephemeron_in c) b.place.label (Raw tag p.0) b.held p.1))

  -- or as it has no such key
  past_entry : (a : ℕ) (c : command.Command) → HasItem x c → (keys : ℕ) (b : Lives k s r id hist x at (ephemeron_in c) a) → b.place.shape ≡ EpheShape keys → LacksKey (key_in c) keys → EntersPaid k s r id hist x at acts now.graph (Command d c false) x.own.registers (Replied BadIndex)
  past_entry a c has keys b is past =
      let f = found_at k s r id hist x at (ephemeron_in c) a b in
      let p = ephe_of f.node keys (f.shape ∙ is) in
      refused c BadIndex has (past_outcome now d c b.place.label p.0 p.1 (brings c has) (subst (LacksKey (key_in c)) (sym p.3) past)
      (block_is now d (ephemeron_in c) b.place.label (Ephe p.0 p.1) b.held (f.there ∙ ap Some p.2)))

  keys_inside : (reg a keys : ℕ) (b : Lives k s r id hist x at reg a) → b.place.shape ≡ EpheShape keys → a + keys + 2 ≤ heap_words k
  keys_inside reg a keys b is =
      let h = (r.whole.placed.fits a b.place b.lives).high in
      let e : ℕ = extent b.place.shape in
      let w : ℕ = heap_words k in
      let same : e ≡ keys + 3 = ap extent is in
      let g : a + e ≤ w + 1 = h in omega arith

  -- the view after a head load, by the block's shape
  record HeadStep (a : ℕ) (e : Entry) (shape : Shape) : Type 0 where
    after : DomainView
    rule : Rule k record { words = s.words; homes = s.homes; views = set s.views id (one k hist after) }
    told : EpheHeadCase k a e shape x after

  refusal : (a : ℕ) (e : Entry) (shape : Shape) (answer : Applied) → IsOfTrace e → EntersPaid k s r id hist x at acts now.graph e x.own.registers answer
      → EpheHeadCase k a e shape x (entered_view k s r id hist x at acts e x.own.registers) → HeadStep a e shape
  refusal a e shape answer of_trace o told = record { after = entered_view k s r id hist x at acts e x.own.registers; rule = paid_rule k s r id hist x at acts e x.own.registers answer o of_trace; told = told }

  head_step : (a : ℕ) (c : command.Command) → HasItem x c → (shape : Shape) (b : Lives k s r id hist x at (ephemeron_in c) a) → b.place.shape ≡ shape → HeadStep a (Command d c false) shape
  head_step a c has (PlainShape n tag) b is =
      let e : Entry = Command d c false in
      let o = plain_entry a c has n tag b is in refusal a e (PlainShape n tag) (Replied BadType) tt o (enters k s r id hist x at acts now.graph e (Replied BadType) NothingWord [] o.enters)
  head_step a c has (RawShape n tag) b is =
      let e : Entry = Command d c false in
      let o = raw_entry a c has n tag b is in refusal a e (RawShape n tag) (Replied BadType) tt o (enters k s r id hist x at acts now.graph e (Replied BadType) NothingWord [] o.enters)
  head_step a c has (EpheShape keys) b is = ⊎_elim
      (λ (inside : HasKey (key_in c) keys). record {
        after = with_front x r.account.log;
        rule = looks k s r id hist x at r.account.log (inr refl);
        told = record {
          below = λ _. record {
            looked = record { seen = (mine k s r id hist x at).front; calls = (my_good k s r id hist x at).still.1 acts.runs; legal = r.whole.legal; view = refl };
            knows = shape_at k s r id hist x at (ephemeron_in c) a b (EpheShape keys) is;
            inside = keys_inside (ephemeron_in c) a keys b is;
          };
          past = λ past. absurd (not_both (key_in c) keys inside past);
        };
      })
      (λ (past : LacksKey (key_in c) keys).
      let e : Entry = Command d c false in
      let o = past_entry a c has keys b is past in refusal a e (EpheShape keys) (Replied BadIndex) tt o record {
        below = λ inside. absurd (not_both (key_in c) keys inside past);
        past = λ _. enters k s r id hist x at acts now.graph e (Replied BadIndex) NothingWord [] o.enters;
      })
      (key_cases (key_in c) keys)

heads : (k : Config) (slots id word : ℕ) (hist : List Entry) (x : DomainView) (a : ℕ) (c : command.Command) → word ≡ before_heap k + a → Acts k x → IsAt x (ephemeron_in c) a → HasItem x c
    → let e : Entry = Command x.own.number c false in Allows (Rule k) slots id (one k hist x, []) word (λ n. n) (Tells (EpheHeadTold k a e) (one k hist x, []))
heads k slots id word hist x a c place acts is has s r _ at _ =
    let b = lives_at k s r id hist x at (ephemeron_in c) a is in
    let found = found_at k s r id hist x at (ephemeron_in c) a b in
    let done = head_step k s r id hist x at acts a c has b.place.shape b refl in (
      one k hist done.after,
      keeps,
      tt,
      unmoved k s word (set s.views id (one k hist done.after)) done.rule,
      (
        record {
          shape = b.place.shape;
          head = let paint = r.account.cycling.paint in let colour : ℕ = colour_in paint b.place.label in record {
            colour = colour;
            scanned = found.head.scanned;
            fits = (r.whole.placed.fits a b.place b.lives).head;
            packable = packable_head b.place.shape colour found.head.scanned (colour_small paint b.place.label r.whole.cycle.meanings) (r.whole.placed.fits a b.place b.lives).head;
            packs = ap (λ (i : ℕ). get_or s.words i 0) place ∙ subst (λ (f : Option ℕ). HeadIs f b.place.shape colour found.head.scanned (at_address k s.words a)) (run_settled k s r id hist x at acts.runs a b.place b.lives).no_forward found.head.packs;
          };
          told = done.told;
        },
        refl,
      ),
    )

pub head_load_may : (k : Config) (word : ℕ) (x : DomainView) (a : ℕ) (e : Entry) → word ≡ before_heap k + a → EpheHeadMay k x a e → MayStep k x word (λ n. n) (EpheHeadTold k a e)
head_load_may k word x a (Command j c false) place may fits slots id h =
    let m = may.entry in
    subst (λ (n : ℕ). Allows (Rule k) slots id (one k h x, []) word (λ q. q) (Tells (EpheHeadTold k a (Command n c false)) (one k h x, []))) (sym m.0) (heads k slots id word h x a c place may.acts m.1 m.2)
head_load_may k word x a _ place may fits slots id h = absurd may.entry
