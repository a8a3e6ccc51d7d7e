-- Heads that differ in colour and scanned mark alone.
use Rattle.std.proofs.Common.{◌≡◌, ℕ, ◌<◌, arith, [], Some, IsTrue, Bool, true, false, cond, None, refl, sym, ap, ◌∙◌}
use Rattle.model_core.specs.Fronts.{Shape, PlainShape, RawShape, EpheShape, shape_of}
use Rattle.model_core.specs.declared.graph.Node.{Node}
use Rattle.model_core.specs.declared.graph.Node.TheVariants.{Plain, Raw, Ephe}
use Rattle.model_cycle.specs.Marks.{fields_of}
use Rattle.heap_words.specs.declared.colours.Colours.{Colours}
use Rattle.heap_words.specs.ColourWords.{IsPermutation}
use Rattle.heap_words.specs.Heads.{head_word}
use Rattle.heap_words.proofs.WordLemmas.{head_word-injective}
use Rattle.heap_rule.specs.Places.{Place, Paint, IsBare, IsHead, IsHeadOf, colour_in, head_of, needs_no_scan, IsPackableShape}
use Rattle.heap_rule.proofs.HeadLemmas.{packable_head}

-- equal heads are of one colour, and of one shape
pub record Recolourable (a b : Shape) (c e : ℕ) (u v : Bool) : Type 0 where
  pub colour : c ≡ e
  pub scanned : u ≡ v
  pub shape : a ≡ b

heads_same : (a b : Shape) (c e : ℕ) (u v : Bool) → IsPackableShape a → IsPackableShape b → head_of None a c u ≡ head_of None b e v → Recolourable a b c e u v
heads_same (PlainShape n t) (PlainShape m w) c e u v p q same = record { colour = cc; scanned = cc; shape = cc }
heads_same (PlainShape n t) (RawShape m w) c e u v p q same = let tags : t ≡ w = cc in absurd (let h = p.2 in let g = q.2 in omega arith)
heads_same (PlainShape n t) (EpheShape m) c e u v p q same = absurd cc
heads_same (RawShape n t) (PlainShape m w) c e u v p q same = let tags : t ≡ w = cc in absurd (let h = p.2 in let g = q.2 in omega arith)
heads_same (RawShape n t) (RawShape m w) c e u v p q same = record { colour = cc; scanned = cc; shape = cc }
heads_same (RawShape n t) (EpheShape m) c e u v p q same = absurd cc
heads_same (EpheShape n) (PlainShape m w) c e u v p q same = absurd cc
heads_same (EpheShape n) (RawShape m w) c e u v p q same = absurd cc
heads_same (EpheShape n) (EpheShape m) c e u v p q same = record { colour = cc; scanned = cc; shape = cc }

-- two shapes of one word
pub words_same : (a b : Shape) (word : ℕ) (x : IsHeadOf a word) (y : IsHeadOf b word) → Recolourable a b x.colour y.colour x.scanned y.scanned
words_same a b word x y = heads_same a b x.colour y.colour x.scanned y.scanned x.fits y.fits (head_word-injective (head_of None a x.colour x.scanned) (head_of None b y.colour y.scanned) x.packable y.packable (sym x.packs ∙ y.packs))

colour_fits : (c : Colours) (b : Bool) → IsPermutation c → cond b c.marked c.unmarked < 3
colour_fits c true p = p.marked_fits
colour_fits c false p = p.unmarked_fits

-- the colour tells whether a block is marked
pub unmarked_by : (c : Colours) (b : Bool) → IsPermutation c → cond b c.marked c.unmarked ≡ c.unmarked → b ≡ false
unmarked_by c true p e = absurd (p.marked_differs e)
unmarked_by c false p e = refl

-- the head of a block as running domains have it
pub record BareHead (paint : Paint) (p : Place) (word : ℕ) : Type 0 where
  pub head : IsHeadOf p.shape word
  pub colour : head.colour ≡ colour_in paint p.label
  pub tells : IsTrue (paint.marks.marked p.label) → head.scanned ≡ true → IsTrue (paint.marks.scanned p.label)

pub bare_head : (paint : Paint) (p : Place) (word : ℕ) → IsBare p → IsPermutation paint.colours → IsPackableShape p.shape → IsHead paint p word → BareHead paint p word
bare_head paint p word bare meanings packs h = record {
  head = record {
    colour = colour_in paint p.label;
    scanned = h.scanned;
    fits = packs;
    packable = packable_head p.shape (colour_in paint p.label) h.scanned (colour_fits paint.colours (paint.marks.marked p.label) meanings) packs;
    packs = h.packs ∙ ap (λ o. head_word (head_of o p.shape (colour_in paint p.label) h.scanned)) bare.no_forward;
  };
  colour = refl;
  tells = h.tells;
}

-- a block that needs no scan has no fields to follow
pub no_fields : (u : Node) → needs_no_scan (shape_of u) ≡ true → fields_of (Some u) ≡ []
no_fields (Plain tag fields) e = cc
no_fields (Raw tag fields) e = refl
no_fields (Ephe keys datum) e = cc

-- its colour tells whether it is marked
coloured : (paint : Paint) (p : Place) (b : Bool) → paint.marks.marked p.label ≡ b → colour_in paint p.label ≡ cond b paint.colours.marked paint.colours.unmarked
coloured paint p b e = ap (λ (z : Bool). cond z paint.colours.marked paint.colours.unmarked) e

module _ (paint : Paint) (p : Place) (word : ℕ) (colours : Colours) (means : colours ≡ paint.colours) (there : BareHead paint p word) where
  pub marked_colour : paint.marks.marked p.label ≡ true → there.head.colour ≡ colours.marked
  marked_colour e = there.colour ∙ (coloured paint p true e ∙ sym (ap (λ (z : Colours). z.marked) means))

  pub unmarked_colour : paint.marks.marked p.label ≡ false → there.head.colour ≡ colours.unmarked
  unmarked_colour e = there.colour ∙ (coloured paint p false e ∙ sym (ap (λ (z : Colours). z.unmarked) means))
