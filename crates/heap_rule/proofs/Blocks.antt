-- The block in a register: in the words, and in the graph.
use Rattle.heap_rule.proofs.EphemeronLemmas.{found_value}
use Rattle.std.proofs.Common.{Option, ◌≡◌, ◌⊎◌, inl, inr, ⊎_elim, ℕ, ◌+◌, ◌<◌, ◌≤◌, List, length, slice_get, Some, sym, refl, ap, ◌∙◌, subst, arith, []}
use mathlib.Core.Option.{some}
use lib.ListN.{get_elem?}
use Rattle.model_core.specs.declared.label.Label.{Label}
use Rattle.model_core.specs.declared.entry.Entry.{Entry}
use Rattle.model_core.specs.declared.graph.Value as graph_value
use Rattle.model_core.specs.declared.graph.Value.TheVariants.{Block}
use Rattle.model_core.specs.declared.graph.Node.TheVariants.{Plain, Raw}
use Rattle.model_core.specs.declared.state.State as model
use Rattle.model_core.specs.Graph.{node_at}
use Rattle.model_core.specs.Domains.{register, opening}
use Rattle.model_core.specs.Fronts.{PlainShape, RawShape, HoldsFields, Shape, HoldsShape}
use Rattle.model_core.proofs.Histories.FrontLemmas.{plain_of, raw_of, holds_later}
use Rattle.heap_words.specs.declared.value.Value.{Value}
use Rattle.heap_rule.specs.declared.config.Config.{Config}
use Rattle.heap_rule.specs.declared.view.DomainView.{DomainView}
use Rattle.heap_rule.specs.Limits.{sizes_in}
use Rattle.heap_rule.specs.Layout.{heap_words, at_address}
use Rattle.heap_rule.specs.Places.{Place, extent, values_of, Stands, WordStands, Found, Debt, HasValue, Settled}
use Rattle.heap_rule.specs.Views.{one}
use Rattle.heap_rule.specs.Rule.{state_of, Rule}
use Rattle.heap_rule.specs.Standing.{IsAt, FieldMay}
use Rattle.heap_rule.proofs.Lists.{got_there}
use Rattle.heap_rule.proofs.Values.{stands_block}
use Rattle.heap_rule.proofs.Keeps.{Words, mine, my_good}
use Rattle.std.proofs.lemmas.Option.{same_Some}

pub block_same : (a b : Label) → Block a ≡ Block b → a ≡ b
block_same a b e = cc

module _ (k : Config) (s : Words) (r : Rule k s) (id : ℕ) (hist : List Entry) (x : DomainView) (at : get_elem? s.views id ≡ some (one k hist x)) where
  abbrev now : model.State
  now = state_of k r.account.log

  -- what lives at the address in a register is the register's block
  pub record Lives (reg a : ℕ) : Type 0 where
    pub place : Place
    pub lives : r.account.live a ≡ Some place
    pub held : register now x.own.number reg ≡ Block place.label

  pub lives_at : (reg a : ℕ) → IsAt x reg a → Lives reg a
  lives_at reg a is =
      let v : graph_value.Value = register now x.own.number reg in
      let b = stands_block r.account.live a v (subst (λ (y : Value). Stands r.account.live y v) is.holds ((my_good k s r id hist x at).stood.each reg is.few)) in
      record { place = b.1; lives = b.3; held = b.2 ∙ ap Block (sym b.4) }

  pub found_at : (reg a : ℕ) (b : Lives reg a) → Found k r.account.cycling.paint r.account.live now.graph s.words a b.place
  found_at reg a b = r.whole.found a b.place b.lives

  -- a plain block, and a raw one
  pub plain_node : (reg a : ℕ) (b : Lives reg a) (n tag : ℕ) → b.place.shape ≡ PlainShape n tag → (fields : List graph_value.Value) × (node_at now.graph b.place.label ≡ Some (Plain tag fields)) × (length fields ≡ n)
  plain_node reg a b n tag is =
      let f = found_at reg a b in
      let p = plain_of f.node n tag (f.shape ∙ is) in (p.0, f.there ∙ ap Some p.1, p.2)

  pub raw_node : (reg a : ℕ) (b : Lives reg a) (n tag : ℕ) → b.place.shape ≡ RawShape n tag → (fields : List graph_value.Value) × (node_at now.graph b.place.label ≡ Some (Raw tag fields)) × (length fields ≡ n)
  raw_node reg a b n tag is =
      let f = found_at reg a b in
      let p = raw_of f.node n tag (f.shape ∙ is) in (p.0, f.there ∙ ap Some p.1, p.2)

  pub plain_at : (reg a : ℕ) (b : Lives reg a) (n tag : ℕ) → b.place.shape ≡ PlainShape n tag → HoldsFields now x.own.number reg n
  plain_at reg a b n tag is = let p = plain_node reg a b n tag is in record { label = b.place.label; tag = tag; fields = p.0; held = b.held; node = inl p.1; size = p.2 }

  pub raw_at : (reg a : ℕ) (b : Lives reg a) (n tag : ℕ) → b.place.shape ≡ RawShape n tag → HoldsFields now x.own.number reg n
  raw_at reg a b n tag is = let p = raw_node reg a b n tag is in record { label = b.place.label; tag = tag; fields = p.0; held = b.held; node = inr p.1; size = p.2 }

  -- whatever its shape
  pub shape_at : (reg a : ℕ) (b : Lives reg a) (shape : Shape) → b.place.shape ≡ shape → HoldsShape now x.own.number reg shape
  shape_at reg a b shape is = let f = found_at reg a b in record { label = b.place.label; node = f.node; held = b.held; there = f.there; shape_is = f.shape ∙ is }

  -- its fields lie in the heap
  pub fields_inside : (reg a : ℕ) (b : Lives reg a) (n : ℕ) → extent b.place.shape ≡ n + 2 → a + n + 1 ≤ heap_words k
  fields_inside reg a b n is =
      let h = (r.whole.placed.fits a b.place b.lives).high in
      let e : ℕ = extent b.place.shape in
      let w : ℕ = heap_words k in
      let same : e ≡ n + 2 = is in
      let g : a + e ≤ w + 1 = h in omega arith

  -- a field whose block and size the front knows
  pub record Field (reg i : ℕ) : Type 0 where
    pub address : ℕ
    pub place : Place
    pub lives : r.account.live address ≡ Some place
    pub tag : ℕ
    pub fields : List graph_value.Value
    pub held : register now x.own.number reg ≡ Block place.label
    pub node : (node_at now.graph place.label ≡ Some (Plain tag fields)) ⊎ (node_at now.graph place.label ≡ Some (Raw tag fields))
    pub value : graph_value.Value
    pub there : slice_get fields i ≡ Some value
    pub stands : WordStands r.account.live (at_address k s.words (address + 2 + i)) value

  pub field_at : Settled r.account.live → ((l : Label) → r.account.cycling.paint.emptied l ≡ []) → (word reg i : ℕ) (may : FieldMay k x word reg i) → (f : Field reg i) × (f.address ≡ may.address)
  field_at settled whole word reg i may =
      let b = lives_at reg may.address may.block in
      let found = found_at reg may.address b in
      let later : HoldsFields now x.own.number reg may.size = holds_later (opening (sizes_in k)) x.own.number reg may.size r.account.log x.seen.front (mine k s r id hist x at).front may.known in
      let label : later.label ≡ b.place.label = block_same later.label b.place.label (sym later.held ∙ b.held) in
      let here : node_at now.graph b.place.label ≡ node_at now.graph later.label = ap (node_at now.graph) (sym label) in
      let is : values_of found.node ≡ later.fields = ⊎_elim
      (λ (e : node_at now.graph later.label ≡ Some (Plain later.tag later.fields)). ap values_of (same_Some found.node (Plain later.tag later.fields) (sym found.there ∙ (here ∙ e))))
      (λ (e : node_at now.graph later.label ≡ Some (Raw later.tag later.fields)). ap values_of (same_Some found.node (Raw later.tag later.fields) (sym found.there ∙ (here ∙ e))))
      later.node in
      let v = got_there later.fields i (let n : ℕ = may.size in let e : length later.fields ≡ n = later.size in let h : i < n = may.inside in omega arith) in (
        record {
          address = may.address;
          place = b.place;
          lives = b.lives;
          tag = later.tag;
          fields = later.fields;
          held = b.held;
          node = ⊎_elim (λ (e : node_at now.graph later.label ≡ Some (Plain later.tag later.fields)). inl (here ∙ e)) (λ (e : node_at now.graph later.label ≡ Some (Raw later.tag later.fields)). inr (here ∙ e)) later.node;
          value = v.0;
          there = v.1;
          stands = found_value k r.account.cycling.paint r.account.live now.graph s.words may.address b.place found (whole b.place.label) i v.0 (subst (λ (o : Option Debt). HasValue o i) (sym (settled may.address b.place b.lives).no_debt) tt) (ap (λ (l : List graph_value.Value). slice_get l i) is ∙ v.1);
        },
        refl,
      )
