-- Loads of fields that no command reads keep the rule.
use Rattle.std.proofs.Common.{◌≡◌, ℕ, ◌+◌, ◌*◌, ◌<◌, ◌⊎◌, Bool, true, IsTrue, cond, List, length, slice_get, get_or, set, Option, Some, sym, refl, ap, ◌∙◌, subst, inl, inr, ⊎_elim, arith, lt_of_not-le}
use Rattle.std.proofs.lemmas.Bool.{le-leb, lt-leb}
use Rattle.std.proofs.lemmas.Option.{none-some, same_Some, slice_get_within}
use mathlib.Core.Logic.{dite}
use native.Mathlib.Decide.{dec_le}
use mathlib.Core.Option.{some}
use lib.ListN.{get_elem?}
use Rattle.atomic_table.specs.Table.{keeps}
use Rattle.model_core.specs.declared.entry.Entry.{Entry}
use Rattle.model_core.specs.declared.label.Label.{Label}
use Rattle.model_core.specs.declared.graph.Value.{Value}
use Rattle.model_core.specs.declared.graph.Value.TheVariants.{Block}
use Rattle.model_core.specs.declared.graph.Node.{Node}
use Rattle.model_core.specs.declared.graph.Node.TheVariants.{Plain, Raw, Ephe}
use Rattle.model_core.specs.Fronts.{Shape, shape_of}
use Rattle.model_core.specs.Graph.{node_at}
use Rattle.heap_words.specs.declared.value.Value as held_value
use Rattle.heap_words.specs.declared.value.Value.TheVariants.{Int as IntWord, Ref, Nothing as NothingWord}
use Rattle.model_cycle.specs.Cover.{field_at, field_in}
use Rattle.model_cycle.proofs.Beside.{beside_law}
use Rattle.heap_rule.specs.declared.config.Config.{Config}
use Rattle.heap_rule.specs.declared.phase.Kind.TheVariants.{Run}
use Rattle.heap_rule.specs.declared.view.DomainView.{DomainView}
use Rattle.heap_rule.specs.declared.view.Known.{Known}
use Rattle.heap_rule.specs.declared.view.Known.TheVariants.{Shape as Shaped, Refers, Done}
use Rattle.heap_rule.specs.Beside.{HoldsKnown}
use Rattle.heap_rule.specs.Layout.{before_heap, at_address}
use Rattle.heap_rule.specs.Places.{Debt, HasValue, Live, Place, needs_no_scan, Stands, WordStands, values_of}
use Rattle.heap_rule.specs.Raw.{MayStep}
use Rattle.heap_rule.specs.Rule.{Rule}
use Rattle.heap_rule.specs.Views.{one}
use Rattle.heap_rule.proofs.BesideLemmas.{known_among}
use Rattle.heap_rule.proofs.Blocks as blocks
use Rattle.heap_rule.proofs.EphemeronLemmas.{found_value}
use Rattle.heap_rule.proofs.Keeps.{Words, now, run_settled, unmoved, whole_here}
use Rattle.heap_rule.proofs.Lists.{got_there}
use Rattle.heap_rule.proofs.Values.{address_of, packable, stands_block}
use Rattle.step_marks.specs.Marking.Marking.{fields_in}
use Rattle.step_marks.proofs.OfMarking.Colouring.{words_same}
use Rattle.step_marks.specs.Beside.Marking.{OfRegister, OfScan, ReadMay, ReadTold, Reads, Source, learning, read_as}
use Rattle.step_marks.proofs.OfBeside.Besides.{all_known, learns_one, under}

-- the node of a block with fields
pub plain_of : (u : Node) (shape : Shape) → shape_of u ≡ shape → (i : ℕ) → i < fields_in shape → (tag : ℕ) × (fields : List Value) × (u ≡ Plain tag fields) × (length fields ≡ fields_in shape)
plain_of (Plain tag fields) shape is i inside = (tag, fields, refl, ap fields_in is)
plain_of (Raw tag fields) shape is i inside = absurd (let n : ℕ = fields_in shape in let z : 0 ≡ n = ap fields_in is in let h : i < n = inside in omega arith)
plain_of (Ephe keys datum) shape is i inside = absurd (let n : ℕ = fields_in shape in let z : 0 ≡ n = ap fields_in is in let h : i < n = inside in omega arith)

-- a field that refers to a block is one of those that a scan follows
pub field_inside : (u : Node) (i : ℕ) (l : Label) → field_in (Some u) i ≡ Some (Block l) → i < fields_in (shape_of u)
field_inside (Plain tag fields) i l e = slice_get_within fields i (Block l) e
field_inside (Raw tag fields) i l e = absurd (none-some (Block l) e)
field_inside (Ephe keys datum) i l e = absurd (none-some (Block l) e)

-- and a block that needs no scan has none
pub no_field : (u : Node) → needs_no_scan (shape_of u) ≡ true → (i : ℕ) (l : Label) → field_in (Some u) i ≡ Some (Block l) → ⊥
no_field (Plain tag fields) e i l is = cc
no_field (Raw tag fields) e i l is = none-some (Block l) is
no_field (Ephe keys datum) e i l is = cc

module _ (k : Config) (s : Words) (r : Rule k s) (id : ℕ) (hist : List Entry) (x : DomainView) (at : get_elem? s.views id ≡ some (one k hist x)) where
  abbrev live : Live
  live = r.account.live

  -- a field of a block, and the word there: what a scan follows in it is its value
  pub record Reading (block field : ℕ) : Type 0 where
    pub place : Place
    pub lives : live block ≡ Some place
    pub value : Value
    pub there : (l : Label) → field_at (now k s r id hist x at).graph place.label field ≡ Some (Block l) → value ≡ Block l
    pub stands : WordStands live (at_address k s.words (block + 2 + field)) value

  module _ (a block field : ℕ) (source : Source) (may : ReadMay k x a block field source) where
    reading : (u : Source) → Reads k x a block field u → Reading block field × (a ≡ block + 2 + field)
    reading (OfRegister register) w =
        let t = blocks.field_at k s r id hist x at (run_settled k s r id hist x at may.beside.runs) (whole_here k s r id hist x at Run tt may.beside.runs) a register field w.0 in
        let f = t.0 in
        let same : f.address ≡ block = t.1 ∙ w.1 in (
          record {
            place = f.place;
            lives = ap live (sym same) ∙ f.lives;
            value = f.value;
            there = λ l e. ⊎_elim
                (λ (is : node_at (now k s r id hist x at).graph f.place.label ≡ Some (Plain f.tag f.fields)). same_Some f.value (Block l) (sym f.there ∙ (sym (ap (λ (o : Option Node). field_in o field) is) ∙ e)))
                (λ (is : node_at (now k s r id hist x at).graph f.place.label ≡ Some (Raw f.tag f.fields)). absurd (none-some (Block l) (sym (ap (λ (o : Option Node). field_in o field) is) ∙ e)))
                f.node;
            stands = subst (λ (n : ℕ). WordStands live (at_address k s.words (n + 2 + field)) f.value) same f.stands;
          },
          w.0.field ∙ ap (λ (n : ℕ). n + 2 + field) w.1,
        )
    reading (OfScan head) w =
        let h = known_among k live r.account.tenancy.holder r.account.cycling.past.old r.account.cycling.paint.marks.marked s.words x.seen.share.known (Shaped block head) (all_known k s r id hist x at may.beside.runs may.beside.armed) w.1 in
        let found = r.whole.found block h.place h.lives in
        let same : fields_in h.place.shape ≡ fields_in w.2.shape = ap fields_in (words_same h.place.shape w.2.shape head h.head w.2.is).shape in
        let inside : field < fields_in h.place.shape = subst (λ (n : ℕ). field < n) (sym same) w.2.inside in
        let p = plain_of found.node h.place.shape found.shape field inside in
        let v = got_there p.1 field (let n : ℕ = length p.1 in let m : ℕ = fields_in h.place.shape in let e : n ≡ m = p.3 in let g : field < m = inside in omega arith) in (
          record {
            place = h.place;
            lives = h.lives;
            value = v.0;
            there = λ l e. same_Some v.0 (Block l) (sym v.1 ∙ (sym (ap (λ (o : Option Node). field_in o field) (found.there ∙ ap Some p.2)) ∙ e));
            stands = found_value k r.account.cycling.paint live (now k s r id hist x at).graph s.words block h.place found (whole_here k s r id hist x at Run tt may.beside.runs h.place.label) field v.0
                (subst (λ (o : Option Debt). HasValue o field) (sym (run_settled k s r id hist x at may.beside.runs block h.place h.lives).no_debt) tt) (ap (λ (n : Node). slice_get (values_of n) field) p.2 ∙ v.1);
          },
          w.0,
        )

    pub f : Reading block field
    f = (reading source may.reads).0

    -- what the field referred to when the roots had been darkened is marked, or it refers to that still
    was : (l : Label) → field_at r.account.cycling.past.old f.place.label field ≡ Some (Block l) → IsTrue (r.account.cycling.paint.marks.marked l) ⊎ (f.value ≡ Block l)
    was l e = ⊎_elim (λ (is : IsTrue (r.account.cycling.paint.marks.marked l)). inl is)
        (λ (h : field_at (now k s r id hist x at).graph f.place.label field ≡ Some (Block l)). inr (f.there l h))
        (beside_law.reads r.account.cycling.past r.account.cycling.paint.marks (now k s r id hist x at) (under k s r id hist x at may.beside.runs may.beside.armed).covered f.place.label l field e)

    abbrev Holds : Known → Type 0
    Holds = HoldsKnown k live r.account.tenancy.holder r.account.cycling.past.old r.account.cycling.paint.marks.marked s.words

    done : ((l : Label) → f.value ≡ Block l → IsTrue (r.account.cycling.paint.marks.marked l)) → Holds (Done block field)
    done marks = record { place = f.place; lives = f.lives; reached = λ l e. ⊎_elim (λ (is : IsTrue (r.account.cycling.paint.marks.marked l)). is) (λ (h : f.value ≡ Block l). marks l h) (was l e) }

    reads : (w : held_value.Value) → Stands live w f.value → Holds (read_as k block field w)
    reads (IntWord z) st = done (λ l e. absurd (subst (Stands live (IntWord z)) e st))
    reads NothingWord st = done (λ l e. absurd (subst (Stands live NothingWord) e st))
    reads (Ref b) st =
        let t = stands_block live b f.value st in
        let target : (l : Label) → f.value ≡ Block l → l ≡ t.1.label = (λ l e. blocks.block_same l t.1.label (sym e ∙ (t.2 ∙ ap Block (sym t.4)))) in dite (dec_le b (k.pools * 4096))
        (λ low. subst Holds (sym (ap (λ (z : Bool). cond z (Refers block field b) (Done block field)) (le-leb b (k.pools * 4096) low)))
        (record { place = f.place; lives = f.lives; target = t.1; there = t.3; held = λ l e. ⊎_elim (λ (is : IsTrue (r.account.cycling.paint.marks.marked l)). inl is) (λ (h : f.value ≡ Block l). inr (target l h)) (was l e) }))
        (λ high. subst Holds (sym (ap (λ (z : Bool). cond z (Refers block field b) (Done block field)) (lt-leb b (k.pools * 4096) (lt_of_not-le high))))
        (done (λ l e. subst (λ (m : Label). IsTrue (r.account.cycling.paint.marks.marked m)) (sym (target l e)) ((under k s r id hist x at may.beside.runs may.beside.armed).young b t.1 t.3 (lt_of_not-le high)))))

    pub read_rule : Rule k record { words = s.words; homes = s.homes; views = set s.views id (one k hist (learning x (read_as k block field f.stands.value))) }
    read_rule = learns_one k s r id hist x at may.beside.runs may.beside.armed (read_as k block field f.stands.value) (reads f.stands.value f.stands.stands, all_known k s r id hist x at may.beside.runs may.beside.armed)

    pub read_told : ReadTold k block field x (at_address k s.words a) (learning x (read_as k block field f.stands.value))
    read_told = record {
      value = f.stands.value;
      packable = packable k r.limits live r.whole.placed f.stands.value f.value f.stands.stands;
      word = ap (at_address k s.words) (reading source may.reads).1 ∙ f.stands.packs;
      inside = λ b is. let t = stands_block live b f.value (subst (λ (z : held_value.Value). Stands live z f.value) is f.stands.stands) in address_of k b t.1 (r.whole.placed.fits b t.1 t.3);
      view = refl;
    }

pub read_may : (k : Config) (x : DomainView) (word a block field : ℕ) (source : Source) → word ≡ before_heap k + a → ReadMay k x a block field source → MayStep k x word (λ n. n) (ReadTold k block field)
read_may k x word a block field source place may fits slots id hist s r _ at _ =
    let y : DomainView = learning x (read_as k block field (f k s r id hist x at a block field source may).stands.value) in
    (one k hist y, keeps, tt, unmoved k s word (set s.views id (one k hist y)) (read_rule k s r id hist x at a block field source may), (subst (λ (n : ℕ). ReadTold k block field x (get_or s.words n 0) y) (sym place) (read_told k s r id hist x at a block field source may), refl))
