-- Heads of blocks, whatever their colour.
use Rattle.std.proofs.Common.{◌≡◌, ℕ, ◌<◌, ◌≤◌, arith, lt_of_not-le, refl, Bool, ◌∙◌, None, cond, true, false, Option, sym, ap, subst, Some, ◌&&◌, IsTrue}
use Rattle.std.specs.Prelude.{nat_le, if◌then◌else◌}
use Rattle.std.proofs.lemmas.Bool.{le-leb, lt-leb}
use mathlib.Core.Logic.{dite}
use native.Mathlib.Decide.{dec_le}
use Rattle.heap_words.specs.declared.head.Head.TheVariants.{Plain as PlainHead}
use Rattle.model_core.specs.Fronts.{Shape, PlainShape, RawShape, EpheShape}
use Rattle.heap_words.specs.Heads.{IsPackableHead}
use Rattle.heap_rule.specs.Places.{Place, Paint, IsHead, IsPackableShape, needs_no_scan, tagged, head_of, colour_in, IsNewHead, HeadIs, new_colour}
use Rattle.model_core.specs.declared.label.Label.{Label}
use Rattle.heap_words.specs.ColourWords.{IsPermutation}
use Rattle.heap_words.specs.declared.colours.Colours.{Colours}

-- the head of a block stays where its word does
abbrev pub head_at : {word word' : ℕ} (paint : Paint) (p : Place) → word' ≡ word → IsHead paint p word → IsHead paint p word'
head_at paint p same h = record { scanned = h.scanned; packs = same ∙ h.packs; tells = h.tells }

pub packable_head : (shape : Shape) (colour : ℕ) (scanned : Bool) → colour < 3 → IsPackableShape shape → IsPackableHead (head_of None shape colour scanned)
packable_head (PlainShape size tag) colour scanned few p = (p.0, p.1, (let h = p.2 in omega arith), few)
packable_head (RawShape size tag) colour scanned few p = (p.0, p.1, p.3, few)
packable_head (EpheShape keys) colour scanned few p = (p.0, p.1, few)

-- the head of a block with fields has the shape that its tag tells
pub tagged_fits : (size tag : ℕ) → 1 ≤ size → size ≤ 1022 → tag < 256 → IsPackableShape (tagged size tag)
tagged_fits size tag one few small = dite (dec_le 251 tag)
    (λ (high : 251 ≤ tag). subst IsPackableShape (sym (ap (λ (b : Bool). cond b (RawShape size tag) (PlainShape size tag)) (le-leb 251 tag high))) (one, few, high, small))
    (λ low. let below : tag < 251 = lt_of_not-le low in subst IsPackableShape (sym (ap (λ (b : Bool). cond b (RawShape size tag) (PlainShape size tag)) (lt-leb 251 tag below))) (one, few, below))

pub tagged_head : (size tag colour : ℕ) (scanned : Bool) → head_of None (tagged size tag) colour scanned ≡ PlainHead size tag colour scanned
tagged_head size tag colour scanned = pick (nat_le 251 tag) where
  pick : (b : Bool) → head_of None (if b then RawShape size tag else PlainShape size tag) colour scanned ≡ PlainHead size tag colour scanned
  pick true = refl
  pick false = refl

pub tagged_scan : (size tag : ℕ) → needs_no_scan (tagged size tag) ≡ nat_le 251 tag
tagged_scan size tag = pick (nat_le 251 tag) where
  pick : (b : Bool) → needs_no_scan (if b then RawShape size tag else PlainShape size tag) ≡ b
  pick true = refl
  pick false = refl

pub colour_small : (paint : Paint) (l : Label) → IsPermutation paint.colours → colour_in paint l < 3
colour_small paint l meanings = small (paint.marks.marked l) where
  small : (b : Bool) → cond b paint.colours.marked paint.colours.unmarked < 3
  small true = meanings.marked_fits
  small false = meanings.unmarked_fits

-- the head of a new block is that of an unmarked one, or, while a cycle goes on beside running domains, of a marked one
abbrev pub new_head : (paint : Paint) (p : Place) (known : Option Colours) (armed : Option Bool) (pooled beside : Bool) (word : ℕ) → p.forward ≡ None → paint.marks.marked p.label ≡ beside → (IsTrue beside → IsTrue (paint.marks.scanned p.label))
    → ((c : Colours) → known ≡ Some c → c ≡ paint.colours) → ((b : Bool) → armed ≡ Some b → b ≡ beside) → IsNewHead known armed pooled p.shape word → IsHead paint p word
new_head paint p known armed pooled beside word bare marked scans means tells h = record {
  scanned = pooled && h.beside;
  packs = subst (λ (m : Option ℕ × ℕ). HeadIs m.0 p.shape m.1 (pooled && h.beside) word) (λ i. (sym bare i, sym colour i)) h.packs;
  tells = λ is _. scans (sym marked ∙ is);
} where
  colour : colour_in paint p.label ≡ new_colour h.beside h.colours
  colour = ap (λ (b : Bool). cond b paint.colours.marked paint.colours.unmarked) (marked ∙ sym (tells h.beside h.armed_is)) ∙ ap (λ (c : Colours). new_colour h.beside c) (sym (means h.colours h.known_is))
