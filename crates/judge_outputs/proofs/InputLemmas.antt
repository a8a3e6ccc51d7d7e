-- Where the line between a script and an output stands.
use Rattle.std.proofs.Common.{◌≡◌, ◌≢◌, ℕ, suc, ◌+◌, ◌<◌, List, [], ◌∷◌, ◌++◌, length, take, drop, get_or, Option, Some, None, refl, ap, sym, ◌∙◌, arith, append_assoc, length-append, take-append-drop, drop-cons}
use Rattle.std.specs.Prelude.{IfNone, IfSome, MatchOption}
use Rattle.std.proofs.Math.Seq.{drop_at}
use Rattle.std.proofs.lemmas.List.{take_more}
use borrow.Author.Count.{below_more}
use Rattle.judge_outputs.specs.Input.{HasParts, HasNoParts, between}

pub if_some : {A : Type 0} (P : Type 0) (Q : A → Type 0) (r : Option A) → MatchOption r P Q → IfSome r Q
if_some P Q None h = tt
if_some P Q (Some x) h = h

pub if_none : {A : Type 0} (P : Type 0) (Q : A → Type 0) (r : Option A) → MatchOption r P Q → IfNone r P
if_none P Q None h = h
if_none P Q (Some x) h = tt

-- nowhere before the end
pub no_parts : (bytes : List ℕ) (n : ℕ) → length bytes ≡ n → ((k : ℕ) → k < n → (more : List ℕ) → drop k bytes ≢ (10 ∷ between) ++ more) → HasNoParts bytes
no_parts bytes n all none front output is =
    let split : bytes ≡ front ++ ((10 ∷ between) ++ output) = is ∙ append_assoc front (10 ∷ []) (between ++ output) in
    let sizes = ap length split ∙ length-append front ((10 ∷ between) ++ output) in
    none (length front) (omega (arith, sizes, all)) output (ap (drop (length front)) split ∙ drop_at front ((10 ∷ between) ++ output) (length front) refl)

-- nor at one more place
pub none_more : (P : ℕ → Type 0) (n : ℕ) → ((k : ℕ) → k < n → P k) → P n → (k : ℕ) → k < n + 1 → P k
none_more P n below here = below_more P n below here

-- at a place
pub parts_at : (bytes rest : List ℕ) (at : ℕ) → at < length bytes → drop at bytes ≡ (10 ∷ between) ++ rest → HasParts bytes (take (at + 1) bytes) rest
parts_at bytes rest at below is =
    let behind : get_or bytes at 10 ∷ drop (suc at) bytes ≡ 10 ∷ (between ++ rest) = sym (drop-cons bytes at 10 below) ∙ is in
    let first : get_or bytes at 10 ≡ 10 = cc in
    record {
      front = take at bytes;
      is_line = take_more bytes at 10 below ∙ ap (λ (b : ℕ). take at bytes ++ b ∷ []) first;
      are = sym (take-append-drop at bytes) ∙ ap (λ (t : List ℕ). take at bytes ++ t) is ∙ sym (append_assoc (take at bytes) (10 ∷ []) (between ++ rest))
          ∙ ap (λ (t : List ℕ). t ++ (between ++ rest)) (sym (take_more bytes at 10 below ∙ ap (λ (b : ℕ). take at bytes ++ b ∷ []) first));
    }
