-- The entries by which the other domains take the hidden block, one after the other.
use Rattle.std.proofs.Common.{◌≡◌, ℕ, zero, suc, ◌+◌, ◌-◌, ◌≤◌, List, [], ◌∷◌, ◌++◌, map, refl, ap, sym, ◌∙◌, arith, append_assoc}
use Rattle.std.specs.List.{range_with_len}
use Rattle.std.proofs.lemmas.List.{map-append}
use Rattle.model_core.specs.declared.entry.Entry.{Entry}
use Rattle.model_traces.specs.Spawns.Hidden.{prelude}
use Rattle.judge_plain.specs.Spawned.Prelude.{hiding, load_of, loads}

range_push : (a n : ℕ) → range_with_len a (suc n) ≡ range_with_len a n ++ (a + n) ∷ []
range_push a zero = let e : a ≡ a + 0 = omega arith in ap (λ (k : ℕ). k ∷ []) e
range_push a (suc n) =
    let e : a + 1 + n ≡ a + suc n = omega arith in
    ap (λ (t : List ℕ). a ∷ t) (range_push (a + 1) n ∙ ap (λ (k : ℕ). range_with_len (a + 1) n ++ k ∷ []) e)

pub loads_more : (d : ℕ) (history rest behind : List Entry) → 1 ≤ d → history ≡ loads d ++ rest → rest ≡ load_of d ∷ behind → history ≡ loads (d + 1) ++ behind
loads_more (suc n) history rest behind some before is =
    let more : loads (suc n + 1) ≡ loads (suc n) ++ load_of (suc n) ∷ [] =
    (let count : suc n + 1 - 1 ≡ suc n = omega arith in ap (λ (k : ℕ). map load_of (range_with_len 1 k)) count)
    ∙ ap (map load_of) (range_push 1 n) ∙ map-append load_of (range_with_len 1 n) ((1 + n) ∷ []) ∙ ap (λ (k : ℕ). map load_of (range_with_len 1 n) ++ load_of k ∷ []) (let e : 1 + n ≡ suc n = omega arith in e)
    ∙ (let less : n ≡ suc n - 1 = omega arith in ap (λ (k : ℕ). map load_of (range_with_len 1 k) ++ load_of (suc n) ∷ []) less) in
    before ∙ ap (λ (t : List Entry). loads (suc n) ++ t) is ∙ sym (append_assoc (loads (suc n)) (load_of (suc n) ∷ []) behind) ∙ ap (λ (t : List Entry). t ++ behind) (sym more)
loads_more zero history rest behind some before is = absurd (omega (arith, some))
