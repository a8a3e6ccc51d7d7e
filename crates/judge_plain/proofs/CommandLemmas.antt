-- What a command does where a scan found its block.
use Rattle.std.proofs.Common.{◌≡◌, ◌≢◌, ℕ, true, false, cond, List, get_or, set, option_and_then, option_map, slice_get, Option, Some, None, refl, ap, sym, ◌∙◌, subst}
use Rattle.std.proofs.lemmas.Option.{get_or_from_slice_get}
use Rattle.model_core.specs.declared.label.Label.{Label}
use Rattle.model_core.specs.declared.reply.Reply.{Reply}
use Rattle.model_core.specs.declared.reply.Reply.TheVariants.{BadType, BadIndex, No}
use Rattle.model_core.specs.declared.graph.Value.{Value}
use Rattle.model_core.specs.declared.graph.Value.TheVariants.{Int, Block, Nothing}
use Rattle.model_core.specs.declared.graph.Node.{Node}
use Rattle.model_core.specs.declared.graph.Node.TheVariants.{Plain, Raw, Ephe}
use Rattle.model_core.specs.declared.state.State.{State}
use Rattle.model_core.specs.Graph.{block_at, label_of, IsPlaceOf}
use Rattle.model_core.specs.Domains.{with_block}
use Rattle.model_core.specs.Commands.{block_in, IsPlaceInRegister, Outcome, only_replies, done_with, in_bounds, written_over, written_where, same_value, at_ephe, key_set, datum_set}
use Rattle.model_core.proofs.Graphs.ListLemmas.{set_same}
use Rattle.judge_plain.specs.Writes.{told, fields_reply, fields_left, field_reply, field_left, written_field, keys_reply, keys_left, key_reply, key_left, datum_reply, datum_left}

-- the block at a register's place is the register's block
pub block_in_place : (s : State) (d r i : ℕ) (x : Label × Node) → IsPlaceInRegister s d r i → x ≡ get_or s.graph i x → block_in s d r ≡ Some x
block_in_place s d r i x p here =
    let same : ◌≡◌ {A = Label × Node} (p.label, p.place.node) x = sym (get_or_from_slice_get s.graph i _ x p.place.stands) ∙ sym here in
    ap (λ v. option_and_then (block_at s.graph) (label_of v)) p.held ∙ ap (option_map (λ n. (p.label, n))) p.place.found ∙ ap Some same

-- and it is the place of the block's label
pub place_here : (s : State) (d r i : ℕ) (x : Label × Node) → IsPlaceInRegister s d r i → x ≡ get_or s.graph i x → IsPlaceOf s.graph x.0 i
place_here s d r i x p here =
    let same : ◌≡◌ {A = Label × Node} (p.label, p.place.node) x = sym (get_or_from_slice_get s.graph i _ x p.place.stands) ∙ sym here in
    subst (λ l. IsPlaceOf s.graph l i) (ap (λ (y : Label × Node). y.0) same) p.place

-- both of the block that a scan found
pub record FoundBlock (s : State) (d r i : ℕ) (x : Label × Node) : Type 0 where
  pub here : x ≡ get_or s.graph i x
  pub block : block_in s d r ≡ Some x
  pub place : IsPlaceOf s.graph x.0 i

pub found_block : (s : State) (d r i : ℕ) (x : Label × Node) → IsPlaceInRegister s d r i → x ≡ get_or s.graph i x → FoundBlock s d r i x
found_block s d r i x p here = record { here = here; block = block_in_place s d r i x p here; place = place_here s d r i x p here }

-- what a write answers, and the state that it leaves, by the block that it finds
module _ (s : State) (l : Label) (i : ℕ) (place : IsPlaceOf s.graph l i) where
  abbrev pub left_with : Node → State
  left_with n = record s { graph = set s.graph i (l, n) }

  abbrev pub Stands : Node → Type 0
  Stands n = ◌≡◌ {A = Label × Node} (l, n) (get_or s.graph i (l, n))

  pub record Agrees (o : Outcome) (r : Reply) (n : Node) : Type 0 where
    pub reply : r ≡ o.reply
    pub state : left_with n ≡ o.state

  -- a refusal leaves the block
  refused : (n : Node) → Stands n → (r : Reply) → Agrees (only_replies s r) r n
  refused n here r = record { reply = refl; state = λ j. record s { graph = set_same s.graph i (l, n) here j } }

  overwritten : (n : Node) → left_with n ≡ with_block s l n
  overwritten n = λ j. record s { graph = sym (place.written n) j }

  -- fields, in a block that is made of them
  module _ (make : List Value → Node) (fields : List Value) (here : Stands (make fields)) (index : ℕ) (v : Value) where
    stores : (o : Option Value) → Agrees (in_bounds s o (written_over s l (make (set fields index v)))) (fields_reply o None) (make (fields_left fields index v o None))
    stores None = refused (make fields) here BadIndex
    stores (Some held) = record { reply = refl; state = overwritten _ }

    exchanges : (e : Value) (o : Option Value) → Agrees (in_bounds s o (λ held. written_where s l (make (set fields index v)) (same_value held e))) (fields_reply o (Some e)) (make (fields_left fields index v o (Some e)))
    exchanges e None = refused (make fields) here BadIndex
    exchanges e (Some held) = elim (same_value held e)
        as (λ b. Agrees (written_where s l (make (set fields index v)) b) (told (Some e) b) (make (cond b (set fields index v) fields))) [
          | true ↦ record { reply = refl; state = overwritten _ }
          | false ↦ refused (make fields) here No
        ]

  module _ (n : Node) (here : Stands n) (index : ℕ) (v : Value) (some : v ≢ Nothing) where
    pub agrees_written : (expected : Option Value) → expected ≢ Some Nothing → Agrees (written_field s index (Some (l, n)) v expected) (field_reply n index v expected) (field_left n index v expected)
    agrees_written expected expects = go n here v some expected expects
      where
        go : (n : Node) → Stands n → (v : Value) → v ≢ Nothing → (expected : Option Value) → expected ≢ Some Nothing
            → Agrees (written_field s index (Some (l, n)) v expected) (field_reply n index v expected) (field_left n index v expected)
        go n here Nothing some expected expects = absurd (some refl)
        go n here v some (Some Nothing) expects = absurd (expects refl)
        go (Plain tag fields) here (Int z) some None expects = stores (Plain tag) fields here index (Int z) (slice_get fields index)
        go (Plain tag fields) here (Block k) some None expects = stores (Plain tag) fields here index (Block k) (slice_get fields index)
        go (Plain tag fields) here (Int z) some (Some (Int e)) expects = exchanges (Plain tag) fields here index (Int z) (Int e) (slice_get fields index)
        go (Plain tag fields) here (Int z) some (Some (Block e)) expects = exchanges (Plain tag) fields here index (Int z) (Block e) (slice_get fields index)
        go (Plain tag fields) here (Block k) some (Some (Int e)) expects = exchanges (Plain tag) fields here index (Block k) (Int e) (slice_get fields index)
        go (Plain tag fields) here (Block k) some (Some (Block e)) expects = exchanges (Plain tag) fields here index (Block k) (Block e) (slice_get fields index)
        go (Raw tag fields) here (Int z) some None expects = stores (Raw tag) fields here index (Int z) (slice_get fields index)
        go (Raw tag fields) here (Int z) some (Some (Int e)) expects = exchanges (Raw tag) fields here index (Int z) (Int e) (slice_get fields index)
        go (Raw tag fields) here (Int z) some (Some (Block e)) expects = exchanges (Raw tag) fields here index (Int z) (Block e) (slice_get fields index)
        go (Raw tag fields) here (Block k) some None expects = refused (Raw tag fields) here BadType
        go (Raw tag fields) here (Block k) some (Some (Int e)) expects = refused (Raw tag fields) here BadType
        go (Raw tag fields) here (Block k) some (Some (Block e)) expects = refused (Raw tag fields) here BadType
        go (Ephe keys datum) here v some None expects = refused (Ephe keys datum) here BadType
        go (Ephe keys datum) here v some (Some (Int e)) expects = refused (Ephe keys datum) here BadType
        go (Ephe keys datum) here v some (Some (Block e)) expects = refused (Ephe keys datum) here BadType

  -- the keys of an ephemeron
  pub agrees_key : (n : Node) → Stands n → (index : ℕ) (key : Option Label) → Agrees (at_ephe s (Some (l, n)) (key_set s index key)) (key_reply n index) (key_left n index key)
  agrees_key (Plain tag fields) here index key = refused (Plain tag fields) here BadType
  agrees_key (Raw tag fields) here index key = refused (Raw tag fields) here BadType
  agrees_key (Ephe keys datum) here index key = go (slice_get keys index)
    where
      go : (o : Option (Option Label)) → Agrees (in_bounds s o (λ _. done_with (with_block s l (Ephe (set keys index key) datum)))) (keys_reply o) (Ephe (keys_left keys index key o) datum)
      go None = refused (Ephe keys datum) here BadIndex
      go (Some held) = record { reply = refl; state = overwritten _ }

  -- and its data
  pub agrees_datum : (n : Node) → Stands n → (v : Value) → Agrees (at_ephe s (Some (l, n)) (datum_set s v)) (datum_reply n) (datum_left n v)
  agrees_datum (Plain tag fields) here v = refused (Plain tag fields) here BadType
  agrees_datum (Raw tag fields) here v = refused (Raw tag fields) here BadType
  agrees_datum (Ephe keys datum) here v = record { reply = refl; state = overwritten _ }
