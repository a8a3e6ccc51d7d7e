-- The exchange of an unmarked block's head.
use Rattle.std.proofs.Common.{◌≡◌, ◌⊎◌, ℕ, Bool, true, false, cond, nat_le, if◌then◌else◌, Some, None, Option, ⊎_elim, inl, inr, sym, refl, ap, subst, ◌∙◌}
use Rattle.model_core.specs.Fronts.{Shape, PlainShape, RawShape, EpheShape}
use Rattle.heap_words.specs.declared.colours.Colours.{Colours}
use Rattle.heap_words.specs.declared.head.Head.{Head}
use Rattle.heap_words.specs.declared.head.Head.TheVariants.{Free, Plain, Ephe, Forward}
use Rattle.heap_words.specs.ColourWords.{IsPermutation}
use Rattle.heap_words.specs.Heads.{IsPackableHead, head_word}
use Rattle.heap_words.specs.Unpacked.{IsWordOf}
use Rattle.heap_words.proofs.WordLemmas.{head_word-injective}
use Rattle.heap_rule.specs.declared.view.DomainView.{DomainView}
use Rattle.heap_rule.specs.declared.view.Known.{Known}
use Rattle.heap_rule.specs.declared.view.Known.TheVariants.{Found}
use Rattle.heap_rule.specs.declared.config.Config.{Config}
use Rattle.heap_rule.specs.Places.{IsHeadOf, IsPackableShape, head_of, tagged}
use Rattle.heap_rule.proofs.HeadLemmas.{tagged_fits, tagged_head}
use Rattle.step_marks.specs.Marking.Marking.{IsMarked, IsUnmarked, fields_in}
use Rattle.step_marks.specs.Beside.Marking.{DarkenMay, Expected, Field, Reason, TargetTold, Warrants, Weak, learning, marked_at}
use Rattle.do_fields.specs.Darkening.Heads.{IsDarkened}
use Rattle.do_fields.specs.Darkening.Aware.{DarkensBeside}

-- the head of a word, whatever its shape is said to be
pub one_head : (word : ℕ) (s t : Shape) (a : IsHeadOf s word) (b : IsHeadOf t word) → head_of None s a.colour a.scanned ≡ head_of None t b.colour b.scanned
one_head word s t a b = head_word-injective (head_of None s a.colour a.scanned) (head_of None t b.colour b.scanned) a.packable b.packable (sym a.packs ∙ b.packs)

abbrev colour_of : Head → ℕ
colour_of Free = 0
colour_of (Plain size tag colour scanned) = colour
colour_of (Ephe keys colour scanned) = colour
colour_of (Forward copy) = 0

colour_is : (s : Shape) (colour : ℕ) (scanned : Bool) → colour_of (head_of None s colour scanned) ≡ colour
colour_is (PlainShape size tag) colour scanned = refl
colour_is (RawShape size tag) colour scanned = refl
colour_is (EpheShape keys) colour scanned = refl

pub one_colour : (word : ℕ) (s t : Shape) (a : IsHeadOf s word) (b : IsHeadOf t word) → a.colour ≡ b.colour
one_colour word s t a b = sym (colour_is s a.colour a.scanned) ∙ ap colour_of (one_head word s t a b) ∙ colour_is t b.colour b.scanned

-- the word of a block's head is a head's
pub block_word : (colours : Colours) (word : ℕ) → IsUnmarked colours word ⊎ IsMarked colours word → IsWordOf IsPackableHead head_word word
block_word colours word block = ⊎_elim
    (λ (u : IsUnmarked colours word). (head_of None u.shape u.head.colour u.head.scanned, u.head.packable, sym u.head.packs))
    (λ (m : IsMarked colours word). (head_of None m.shape m.head.colour m.head.scanned, m.head.packable, sym m.head.packs)) block

pub not_both : (colours : Colours) (word : ℕ) → IsPermutation colours → IsUnmarked colours word → IsMarked colours word → ⊥
not_both colours word p u m = p.marked_differs (sym m.colour ∙ one_colour word m.shape u.shape m.head u.head ∙ u.colour)

-- the colours that a domain knows are one
pub one_meaning : (o : Option Colours) (c e : Colours) → o ≡ Some c → o ≡ Some e → e ≡ c
one_meaning o c e a b = let h : ◌≡◌ {A = Option Colours} (Some e) (Some c) = sym b ∙ a in cc

-- there is still a reason when a head was found
still : (x : DomainView) (at : ℕ) (reason : Reason) (fact : Known) → Warrants x at reason → Warrants (learning x fact) at reason
still x at (Field block field) fact w = inr w
still x at (Weak register) fact w = (record { few = w.0.few; holds = w.0.holds }, w.1)
still x at (Expected register) fact w = record { few = w.few; holds = w.holds }

-- the head that was found may be exchanged
pub exchange_may : (k : Config) (x y : DomainView) (colours : Colours) (at word new : ℕ) (reason : Reason) → IsPermutation colours → DarkensBeside k colours at reason x → IsDarkened colours word new → TargetTold at reason x word y → DarkenMay k y at word new reason
exchange_may k x y colours at word new reason p d n t =
    let same : t.colours ≡ colours = one_meaning x.seen.share.colours colours t.colours d.known t.known in
    ⊎_elim
    (λ (f : IsUnmarked t.colours word × (y ≡ learning x (Found at word))).
    subst (λ (v : DomainView). DarkenMay k v at word new reason) (sym f.1) record { knows = record { beside = record { runs = d.runs; armed = d.armed }; colours = colours; known = d.known }; low = d.old; found = inl refl; unmarked = n.unmarked; marks = n.marks; reason_is = still x at reason (Found at word) d.reason_is })
    (λ (f : IsMarked t.colours word × (y ≡ marked_at x at reason)).
    absurd (not_both colours word p n.unmarked (subst (λ (c : Colours). IsMarked c word) same f.0)))
    t.told

-- the head that was read from a word
abbrev pub read_head : (word : ℕ) (h : Head) (s : Shape) (colour : ℕ) (scanned : Bool) → IsPackableShape s → IsPackableHead h × (head_word h ≡ word) → h ≡ head_of None s colour scanned → IsHeadOf s word
read_head word h s colour scanned fits f e = record { colour = colour; scanned = scanned; fits = fits; packable = subst IsPackableHead e f.0; packs = sym f.1 ∙ ap head_word e }

-- that of a block with fields, whose shape its tag tells
abbrev pub read_tagged : (word : ℕ) (h : Head) (size tag colour : ℕ) (scanned : Bool) → IsPackableHead h × (head_word h ≡ word) → h ≡ Plain size tag colour scanned → IsHeadOf (tagged size tag) word
read_tagged word h size tag colour scanned f e =
    let p = subst IsPackableHead e f.0 in
    read_head word h (tagged size tag) colour scanned (tagged_fits size tag p.0 p.1 p.2) f (e ∙ sym (tagged_head size tag colour scanned))

-- and that of an ephemeron
abbrev pub read_ephemeron : (word : ℕ) (h : Head) (keys colour : ℕ) (scanned : Bool) → IsPackableHead h × (head_word h ≡ word) → h ≡ Ephe keys colour scanned → IsHeadOf (EpheShape keys) word
read_ephemeron word h keys colour scanned f e = let p = subst IsPackableHead e f.0 in read_head word h (EpheShape keys) colour scanned (p.0, p.1) f e

-- the fields to follow of a block with fields
pub tagged_fields : (size tag : ℕ) → fields_in (tagged size tag) ≡ cond (nat_le 251 tag) 0 size
tagged_fields size tag = pick (nat_le 251 tag) where
  pick : (b : Bool) → fields_in (if b then RawShape size tag else PlainShape size tag) ≡ cond b 0 size
  pick true = refl
  pick false = refl
