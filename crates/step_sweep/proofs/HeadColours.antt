-- The colour in the word of a head.
use Rattle.std.proofs.Common.{◌≡◌, ◌≢◌, ◌∙◌, ℕ, ◌/◌, ◌%◌, Bool, Some, IfSome, Option, refl, sym, ap, subst, arith}
use Rattle.model_core.specs.Fronts.{Shape, PlainShape, RawShape, EpheShape}
use Rattle.heap_words.specs.declared.head.Head.{Head}
use Rattle.heap_words.specs.declared.head.Head.TheVariants.{Plain, Ephe}
use Rattle.heap_words.specs.Heads.{IsPackableHead, head_word}
use Rattle.heap_words.specs.Unpacked.{Unpacks}
use Rattle.heap_words.proofs.HeadLemmas.{block_word-colour, block_word-kind}
use Rattle.heap_rule.specs.Places.{IsHeadOf, tagged}
use Rattle.heap_rule.proofs.HeadLemmas.{tagged_fits, tagged_head}
use Rattle.step_sweep.specs.Freeing.{IsColoured}

-- a block's kind and colour stand in its head
pub block_head : (shape : Shape) (word : ℕ) → (h : IsHeadOf shape word) → (word / 8 % 4 ≡ h.colour) × (word ≢ 0)
block_head (PlainShape size tag) word h = (
  ap (λ (w : ℕ). w / 8 % 4) h.packs ∙ block_word-colour 1 h.colour tag size h.scanned (omega arith) (let p = h.packable in let d = p.3 in omega arith) (let p = h.packable in let t = p.2 in omega arith),
  λ e. let k = ap (λ (w : ℕ). w % 8) (sym e ∙ h.packs) ∙ block_word-kind 1 h.colour tag size h.scanned (omega arith) (let p = h.packable in let d = p.3 in omega arith) (let p = h.packable in let t = p.2 in omega arith) in let z : 0 ≡ 1 = k in absurd (omega arith),
)
block_head (RawShape size tag) word h = (
  ap (λ (w : ℕ). w / 8 % 4) h.packs ∙ block_word-colour 1 h.colour tag size h.scanned (omega arith) (let p = h.packable in let d = p.3 in omega arith) (let p = h.packable in let t = p.2 in omega arith),
  λ e. let k = ap (λ (w : ℕ). w % 8) (sym e ∙ h.packs) ∙ block_word-kind 1 h.colour tag size h.scanned (omega arith) (let p = h.packable in let d = p.3 in omega arith) (let p = h.packable in let t = p.2 in omega arith) in let z : 0 ≡ 1 = k in absurd (omega arith),
)
block_head (EpheShape keys) word h = (
  ap (λ (w : ℕ). w / 8 % 4) h.packs ∙ block_word-colour 2 h.colour 0 keys h.scanned (omega arith) (let p = h.packable in let d = p.2 in omega arith) (omega arith),
  λ e. let k = ap (λ (w : ℕ). w % 8) (sym e ∙ h.packs) ∙ block_word-kind 2 h.colour 0 keys h.scanned (omega arith) (let p = h.packable in let d = p.2 in omega arith) (omega arith) in let z : 0 ≡ 2 = k in absurd (omega arith),
)

pub no_colour : (colour word : ℕ) → IsColoured colour word → word ≢ 0
no_colour colour word c = (block_head c.shape word c.head).1

-- a word has one colour at most
pub one_colour : (colour other word : ℕ) → IsColoured colour word → IsColoured other word → colour ≡ other
one_colour colour other word c d = sym c.colour_is ∙ (sym (block_head c.shape word c.head).0 ∙ ((block_head d.shape word d.head).0 ∙ d.colour_is))

module _ (word : ℕ) (result : Option Head) (u : Unpacks IsPackableHead head_word word result) where
  -- the head found is one of its colour
  pub plain_coloured : (size tag colour : ℕ) (scanned : Bool) → result ≡ Some (Plain size tag colour scanned) → IsColoured colour word
  plain_coloured size tag colour scanned is =
      let found = subst (λ (o : Option Head). IfSome o (λ h. IsPackableHead h × (head_word h ≡ word))) is u.found in
      let same = tagged_head size tag colour scanned in record {
        shape = tagged size tag;
        head = record { colour = colour; scanned = scanned; fits = let p = found.0 in tagged_fits size tag p.0 p.1 p.2; packable = subst IsPackableHead (sym same) found.0; packs = sym found.1 ∙ ap head_word (sym same) };
        colour_is = refl;
      }

  pub ephe_coloured : (keys colour : ℕ) (scanned : Bool) → result ≡ Some (Ephe keys colour scanned) → IsColoured colour word
  ephe_coloured keys colour scanned is =
      let found = subst (λ (o : Option Head). IfSome o (λ h. IsPackableHead h × (head_word h ≡ word))) is u.found in
      record { shape = EpheShape keys; head = record { colour = colour; scanned = scanned; fits = (let p = found.0 in (p.0, p.1)); packable = found.0; packs = sym found.1 }; colour_is = refl }
