-- Words that are filled one by one.
use Rattle.std.proofs.Common.{◌≡◌, ◌≢◌, ℕ, ◌+◌, ◌*◌, ◌-◌, ◌<◌, ◌≤◌, List, length, get_or, set, ap, ◌∙◌, arith, length-set, get_or-set_same, get_or-set_other, None, false}
use Rattle.model_core.specs.Domains.{IsWithinLimits}
use Rattle.model_core.specs.Fronts.{PlainShape}
use Rattle.heap_rule.specs.declared.config.Config.{Config}
use Rattle.heap_rule.specs.Limits.{sizes_in}
use Rattle.heap_rule.specs.Layout.{heap_words, table_words}
use Rattle.heap_rule.specs.Places.{HeadIs}
use Rattle.heap_rule.specs.Opening.{Fills, IsOpening}
use Rattle.heap_rule.proofs.Sizes.{heap_large}

module _ (k : Config) (limits : IsWithinLimits (sizes_in k)) (w0 w3 w7 : List ℕ) (wide : length w0 ≡ table_words k) (zeros : (i : ℕ) → get_or w0 i 0 ≡ 0) (colour head label at : ℕ) (at_is : at ≡ 10 + 2 * k.pools + 1) where
  abbrev P : ℕ
  P = k.pools

  abbrev w2 : List ℕ
  w2 = set (set w0 5 colour) 6 (P - 1)

  abbrev w6 : List ℕ
  w6 = set (set (set w3 (11 + P) 4) at head) (at + 1) label

  has_pool : 1 ≤ k.pools
  has_pool = let h = limits.some_pools in omega arith

  module _ (lists : Fills w2 w3 11 (P - 1) (λ i. i + 1)) (fields : Fills w6 w7 (at + 2) 16 (λ _. 1)) where
    -- the words before the heap's
    before : (j : ℕ) → j < 11 + P → get_or w7 j 0 ≡ get_or w3 j 0
    before j h = fields.below j (omega arith) ∙ (get_or-set_other (set (set w3 (11 + P) 4) at head) (at + 1) j label 0 (λ e. omega arith)
        ∙ (get_or-set_other (set w3 (11 + P) 4) at j head 0 (λ e. omega arith) ∙ get_or-set_other w3 (11 + P) j 4 0 (λ e. omega arith)))

    control : (j : ℕ) → j < 11 → get_or w7 j 0 ≡ get_or w2 j 0
    control j h = before j (omega arith) ∙ lists.below j h

    untouched : (j : ℕ) → j ≢ 5 → j ≢ 6 → get_or w2 j 0 ≡ 0
    untouched j a b = get_or-set_other (set w0 5 colour) 6 j (P - 1) 0 b ∙ (get_or-set_other w0 5 j colour 0 a ∙ zeros j)

    long2 : length w2 ≡ table_words k
    long2 = length-set (set w0 5 colour) 6 (P - 1) ∙ (length-set w0 5 colour ∙ wide)

    long3 : length w3 ≡ table_words k
    long3 = lists.same_length ∙ long2

    long6 : length w6 ≡ table_words k
    long6 = length-set (set (set w3 (11 + P) 4) at head) (at + 1) label ∙ (length-set (set w3 (11 + P) 4) at head ∙ (length-set w3 (11 + P) 4 ∙ long3))

    room : at + 18 ≤ table_words k
    room = let h = heap_large k limits in let x : ℕ = heap_words k in let y : 4096 ≤ x = h in omega arith

    owners : (i : ℕ) → 1 ≤ i → i < P → get_or w7 (11 + P + i) 0 ≡ 0
    owners i low below = fields.below (11 + P + i) (omega arith) ∙ (get_or-set_other (set (set w3 (11 + P) 4) at head) (at + 1) (11 + P + i) label 0 (λ e. omega arith)
        ∙ (get_or-set_other (set w3 (11 + P) 4) at (11 + P + i) head 0 (λ e. omega arith)
        ∙ (get_or-set_other w3 (11 + P) (11 + P + i) 4 0 (λ e. omega arith) ∙ (lists.above (11 + P + i) (omega arith) ∙ untouched (11 + P + i) (λ e. omega arith) (λ e. omega arith)))))

    first_owner : get_or w7 (11 + P + 0) 0 ≡ 4
    first_owner = ap (λ j. get_or w7 j 0) (let e : 11 + P + 0 ≡ 11 + P = omega arith in e) ∙ (fields.below (11 + P) (omega arith)
        ∙ (get_or-set_other (set (set w3 (11 + P) 4) at head) (at + 1) (11 + P) label 0 (λ e. omega (arith, has_pool))
        ∙ (get_or-set_other (set w3 (11 + P) 4) at (11 + P) head 0 (λ e. omega (arith, has_pool))
        ∙ get_or-set_same w3 (11 + P) 4 0 (let r = room in let l = long3 in omega arith))))

    pub opens : colour ≡ 36 → HeadIs None (PlainShape 16 0) 1 false head → label ≡ 0 → IsOpening k w7
    opens c h l = record {
      wide = fields.same_length ∙ long6;
      rested = record { nothing_wanted = control 0 (omega arith) ∙ untouched 0 (λ e. omega arith) (λ e. omega arith); arrivals = control 1 (omega arith) ∙ untouched 1 (λ e. omega arith) (λ e. omega arith); runs = control 2 (omega arith) ∙ untouched 2 (λ e. omega arith) (λ e. omega arith); nobody_ended = control 8 (omega arith) ∙ untouched 8 (λ e. omega arith) (λ e. omega arith); unchanged = control 3 (omega arith) ∙ untouched 3 (λ e. omega arith) (λ e. omega arith) };
      pools = record {
        count = control 6 (omega arith) ∙ get_or-set_same (set w0 5 colour) 6 (P - 1) 0 (let r = room in let s = length-set w0 5 colour in omega arith);
        asked = control 7 (omega arith) ∙ untouched 7 (λ e. omega arith) (λ e. omega arith);
        list = λ i below. before (11 + i) (omega arith) ∙ lists.filled i below;
        shared = first_owner;
        free = owners;
      };
      cycle = record {
        armed_is = control 4 (omega arith) ∙ untouched 4 (λ e. omega arith) (λ e. omega arith);
        colours_are = control 5 (omega arith) ∙ (get_or-set_other (set w0 5 colour) 6 5 (P - 1) 0 (λ e. omega arith) ∙ (get_or-set_same w0 5 colour 0 (let r = room in omega arith) ∙ c));
      };
      head = ap (λ j. get_or w7 j 0) (let e : 10 + 2 * P + 1 ≡ at = omega arith in e) ∙ (fields.below at (omega arith)
          ∙ (get_or-set_other (set (set w3 (11 + P) 4) at head) (at + 1) at label 0 (λ e. omega arith)
          ∙ (get_or-set_same (set w3 (11 + P) 4) at head 0 (let r = room in let s = length-set w3 (11 + P) 4 in let t = long3 in omega arith) ∙ h)));
      label = ap (λ j. get_or w7 j 0) (let e : 10 + 2 * P + 2 ≡ at + 1 = omega arith in e) ∙ (fields.below (at + 1) (omega arith)
          ∙ (get_or-set_same (set (set w3 (11 + P) 4) at head) (at + 1) label 0 (let r = room in let s = length-set (set w3 (11 + P) 4) at head in let t = length-set w3 (11 + P) 4 in let u = long3 in omega arith) ∙ l));
      rest = λ a large.
          let base : ℕ = 10 + 2 * P in
          let at_base : at ≡ base + 1 = at_is in
          fields.above (base + a) (omega arith)
          ∙ (get_or-set_other (set (set w3 (11 + P) 4) at head) (at + 1) (base + a) label 0 (λ e. omega arith)
          ∙ (get_or-set_other (set w3 (11 + P) 4) at (base + a) head 0 (λ e. omega arith)
          ∙ (get_or-set_other w3 (11 + P) (base + a) 4 0 (λ e. omega arith)
          ∙ (lists.above (base + a) (omega arith) ∙ untouched (base + a) (λ e. omega arith) (λ e. omega arith)))));
      fields = λ i below. ap (λ j. get_or w7 j 0) (let e : 10 + 2 * P + (3 + i) ≡ at + 2 + i = omega arith in e) ∙ fields.filled i below;
    }
