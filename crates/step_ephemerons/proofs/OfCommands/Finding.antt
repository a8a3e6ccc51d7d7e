-- The ephemeron in a register: in the words, and in the graph.
use Rattle.std.proofs.Common.{◌≡◌, ℕ, zero, suc, ◌+◌, ◌<◌, List, [], ◌∷◌, length, length-set, map, set, slice_get, Option, Some, None, sym, refl, ap, ◌∙◌, subst, arith}
use Rattle.std.proofs.lemmas.List.{map-set, length-map}
use Rattle.std.proofs.lemmas.Option.{same_Some}
use mathlib.Core.Option.{some}
use lib.ListN.{get_elem?}
use Rattle.model_core.specs.declared.label.Label.{Label}
use Rattle.model_core.specs.declared.entry.Entry.{Entry}
use Rattle.model_core.specs.declared.graph.Value as graph_value
use Rattle.model_core.specs.declared.graph.Value.TheVariants.{Block}
use Rattle.model_core.specs.declared.graph.Node.{Node}
use Rattle.model_core.specs.declared.graph.Node.TheVariants.{Plain, Raw, Ephe}
use Rattle.model_core.specs.declared.state.State as model
use Rattle.model_core.specs.Graph.{node_at, label_of}
use Rattle.model_core.specs.Commands.{key_value}
use Rattle.model_core.specs.Domains.{register, opening}
use Rattle.model_core.specs.Fronts.{EpheShape, shape_of, HoldsShape}
use Rattle.model_core.proofs.Histories.FrontLemmas.{shape_later}
use Rattle.heap_rule.specs.declared.config.Config.{Config}
use Rattle.heap_rule.specs.declared.view.DomainView.{DomainView}
use Rattle.heap_rule.specs.Limits.{sizes_in}
use Rattle.heap_rule.specs.Layout.{at_address}
use Rattle.heap_rule.specs.Places.{Place, values_of, WordStands, Debt, HasValue, Settled}
use Rattle.heap_rule.specs.Views.{one}
use Rattle.heap_rule.specs.Rule.{state_of, Rule}
use Rattle.heap_rule.specs.Standing.{IsAt}
use Rattle.heap_rule.proofs.Lists.{got_there}
use Rattle.heap_rule.proofs.Keeps.{Words, mine}
use Rattle.heap_rule.proofs.Blocks.{block_same, lives_at, found_at}
use Rattle.heap_rule.proofs.EphemeronLemmas.{found_value}
use Rattle.step_ephemerons.specs.Commands.Heads.{HasKey}
use Rattle.step_ephemerons.specs.Commands.Loads.{word_of, WeakMay}
use Rattle.step_ephemerons.proofs.OfCommands.Outcomes.{Held, stored_node}

-- the node of an ephemeron's shape
pub ephe_of : (n : Node) (keys : ℕ) → shape_of n ≡ EpheShape keys → (ks : List (Option Label)) × (datum : graph_value.Value) × (n ≡ Ephe ks datum) × (length ks ≡ keys)
ephe_of (Plain tag fields) keys e = cc
ephe_of (Raw tag fields) keys e = cc
ephe_of (Ephe ks datum) keys e = (ks, datum, refl, let l : length ks ≡ keys = cc in l)

-- the place among an ephemeron's values
abbrev pub index_of : Option ℕ → ℕ
index_of None = 0
index_of (Some i) = suc i

pub word_is : (key : Option ℕ) (a : ℕ) → word_of key a ≡ a + 2 + index_of key
word_is None a = omega arith
word_is (Some i) a = omega arith

got_key : (keys : List (Option Label)) (i : ℕ) (key : Option Label) → slice_get keys i ≡ Some key → slice_get (map key_value keys) i ≡ Some (key_value key)
got_key [] i key e = cc
got_key (o ∷ keys) zero key e = ap (λ z. Some (key_value z)) (same_Some o key e)
got_key (o ∷ keys) (suc i) key e = got_key keys i key e

-- the datum, or the key that is named
value_there : (key : Option ℕ) (keys : List (Option Label)) (datum : graph_value.Value) → HasKey key (length keys) → (v : graph_value.Value) × (slice_get (datum ∷ map key_value keys) (index_of key) ≡ Some v) × Held key keys datum v
value_there None keys datum has = (datum, refl, refl)
value_there (Some i) keys datum has = let g = got_there keys i has in (key_value g.0, got_key keys i g.0 g.1, (g.0, g.1, refl))

-- an ephemeron that gets a datum or a key, and its values
abbrev pub FitsKey : Option ℕ → graph_value.Value → Type 0
FitsKey None v = Unit {0}
FitsKey (Some i) v = key_value (label_of v) ≡ v

pub stored_values : (key : Option ℕ) (keys : List (Option Label)) (datum v : graph_value.Value) → FitsKey key v → values_of (stored_node key keys datum v) ≡ set (datum ∷ map key_value keys) (index_of key) v
stored_values None keys datum v fits = refl
stored_values (Some i) keys datum v fits = ap (λ (l : List graph_value.Value). datum ∷ l) (map-set key_value keys i (label_of v) ∙ ap (set (map key_value keys) i) fits)

pub stored_shape : (key : Option ℕ) (keys : List (Option Label)) (datum v : graph_value.Value) → shape_of (stored_node key keys datum v) ≡ EpheShape (length keys)
stored_shape None keys datum v = refl
stored_shape (Some i) keys datum v = ap EpheShape (length-set keys i (label_of v))

pub value_below : (key : Option ℕ) (keys : List (Option Label)) (datum : graph_value.Value) → HasKey key (length keys) → index_of key < length (datum ∷ map key_value keys)
value_below None keys datum has = omega arith
value_below (Some i) keys datum has = let e = length-map keys key_value in let h : i < length keys = has in omega arith

module _ (k : Config) (s : Words) (r : Rule k s) (id : ℕ) (hist : List Entry) (x : DomainView) (at : get_elem? s.views id ≡ some (one k hist x)) where
  abbrev now : model.State
  now = state_of k r.account.log

  -- the datum or a key of an ephemeron of which the front knows how many keys it has
  pub record WeakFound (spot reg : ℕ) (key : Option ℕ) : Type 0 where
    pub address : ℕ
    pub block : IsAt x reg address
    pub at_is : spot ≡ address + 2 + index_of key
    pub place : Place
    pub lives : r.account.live address ≡ Some place
    pub keys : List (Option Label)
    pub datum : graph_value.Value
    pub held : register now x.own.number reg ≡ Block place.label
    pub node : node_at now.graph place.label ≡ Some (Ephe keys datum)
    pub has : HasKey key (length keys)
    pub value : graph_value.Value
    pub is : Held key keys datum value
    pub stands : WordStands r.account.live (at_address k s.words (address + 2 + index_of key)) value

  pub weak_at : Settled r.account.live → ((l : Label) → r.account.cycling.paint.emptied l ≡ []) → (spot reg : ℕ) (key : Option ℕ) → WeakMay k x spot reg key → WeakFound spot reg key
  weak_at settled whole spot reg key may =
      let b = lives_at k s r id hist x at reg may.address may.block in
      let found = found_at k s r id hist x at reg may.address b in
      let later : HoldsShape now x.own.number reg (EpheShape may.keys) = shape_later (opening (sizes_in k)) x.own.number reg (EpheShape may.keys) r.account.log x.seen.front (mine k s r id hist x at).front may.known in
      let label : later.label ≡ b.place.label = block_same later.label b.place.label (sym later.held ∙ b.held) in
      let p = ephe_of later.node may.keys later.shape_is in
      let node : node_at now.graph b.place.label ≡ Some (Ephe p.0 p.1) = ap (node_at now.graph) (sym label) ∙ (later.there ∙ ap Some p.2) in
      let is : found.node ≡ Ephe p.0 p.1 = same_Some found.node (Ephe p.0 p.1) (sym found.there ∙ node) in
      let has : HasKey key (length p.0) = subst (HasKey key) (sym p.3) may.inside in
      let v = value_there key p.0 p.1 has in record {
        address = may.address;
        block = may.block;
        at_is = may.word ∙ word_is key may.address;
        place = b.place;
        lives = b.lives;
        keys = p.0;
        datum = p.1;
        held = b.held;
        node = node;
        has = has;
        value = v.0;
        is = v.2;
        stands = found_value k r.account.cycling.paint r.account.live now.graph s.words may.address b.place found (whole b.place.label) (index_of key) v.0
            (subst (λ (o : Option Debt). HasValue o (index_of key)) (sym (settled may.address b.place b.lives).no_debt) tt) (ap (λ (n : Node). slice_get (values_of n) (index_of key)) is ∙ v.1);
      }
