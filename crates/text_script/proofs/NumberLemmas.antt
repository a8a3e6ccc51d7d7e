-- The texts of a line, and the numbers behind a word, one after another.
use Rattle.std.proofs.Common.{◌≡◌, ℕ, ◌+◌, ◌-◌, ◌^◌, ◌<◌, ◌≤◌, ◌≢◌, ℤ, pos, min, zero, suc, List, [], ◌∷◌, ◌++◌, map, length, drop, Bool, true, false, cond, refl, ap, sym, ◌∙◌, append_assoc, arith, None, Some}
use Rattle.std.specs.Prelude.{Option, option_map, option_and_then, neg_ℤ, ◌==◌}
use Rattle.std.specs.List.{onto_first}
use Rattle.std.proofs.lemmas.Bool.Decides.{nat_tests}
use Rattle.std.proofs.lemmas.List.{append-nil}
use Rattle.std.proofs.lemmas.Option.{same_Some}
use Rattle.text_script.specs.Decimals.Natural.{natural}
use Rattle.text_script.specs.Split.{split_at_mark, begins_with, first_text, line_texts, texts_behind, numbers_behind, read_whole}
use Rattle.text_script.specs.Faults.{texts}
use Rattle.text_script.specs.Number.{number, numbers, counted_numbers, negated, clipped}
use Rattle.text_script.proofs.FrontLemmas.{drop_on}

abbrev Line : Type 0
Line = Option (List (List ℕ) × List ℕ)

abbrev Numbers : Type 0
Numbers = Option (List ℤ × List ℕ)

-- a line, split into its texts
abbrev in_texts : Option (List ℕ × List ℕ) → Line
in_texts o = option_map (λ p. (texts p.0, p.1)) o

-- the first text of a line, and those behind it
abbrev pub with_text : List ℕ → Line → Line
with_text t o = option_map (λ p. (t ∷ p.0, p.1)) o

-- a byte in front of the first text
abbrev onto : ℕ → Line → Line
onto b o = option_map (λ p. (onto_first b p.0, p.1)) o

-- a line with one byte more in front
longer : (u : Bool) (b : ℕ) (o : Option (List ℕ × List ℕ)) → (b == 32) ≡ u → in_texts (option_map (λ p. (b ∷ p.0, p.1)) o) ≡ cond u (with_text [] (in_texts o)) (onto b (in_texts o))
longer true b None e = refl
longer false b None e = refl
longer true b (Some q) e = ap (λ v. Some (cond v ([] ∷ texts q.0) (onto_first b (texts q.0)), q.1)) e
longer false b (Some q) e = ap (λ v. Some (cond v ([] ∷ texts q.0) (onto_first b (texts q.0)), q.1)) e

line_by : (t u : Bool) (b : ℕ) (bs : List ℕ) → (b == 10) ≡ t → (b == 32) ≡ u
    → line_texts (b ∷ bs) ≡ cond t (Some ([] ∷ [], bs)) (cond u (with_text [] (line_texts bs)) (onto b (line_texts bs)))
line_by true u b bs e f = ap (λ v. in_texts (cond v (Some ([], bs)) (option_map (λ p. (b ∷ p.0, p.1)) (split_at_mark 10 bs)))) e
line_by false u b bs e f = ap (λ v. in_texts (cond v (Some ([], bs)) (option_map (λ p. (b ∷ p.0, p.1)) (split_at_mark 10 bs)))) e ∙ longer u b (split_at_mark 10 bs) f

first_by : (t u : Bool) (b : ℕ) (bs : List ℕ) → (b == 10) ≡ t → (b == 32) ≡ u → first_text (b ∷ bs) ≡ cond u [] (cond t [] (b ∷ first_text bs))
first_by t u b bs e f = ap (λ v. cond v [] (cond (b == 10) [] (b ∷ first_text bs))) f ∙ ap (λ v. cond u [] (cond v [] (b ∷ first_text bs))) e

behind_by : (t u : Bool) (b : ℕ) (bs : List ℕ) → (b == 10) ≡ t → (b == 32) ≡ u → texts_behind (b ∷ bs) ≡ cond t (Some ([], bs)) (cond u (line_texts bs) None)
behind_by t u b bs e f = ap (λ v. cond v (Some ([], bs)) (cond (b == 32) (line_texts bs) None)) e ∙ ap (λ v. cond t (Some ([], bs)) (cond v (line_texts bs) None)) f

onto_text : (b : ℕ) (t : List ℕ) (o : Line) → onto b (with_text t o) ≡ with_text (b ∷ t) o
onto_text b t None = refl
onto_text b t (Some p) = refl

texts_by : (t u : Bool) (b : ℕ) (bs : List ℕ) → (b == 10) ≡ t → (b == 32) ≡ u → line_texts bs ≡ with_text (first_text bs) (texts_behind (drop (length (first_text bs)) bs))
    → line_texts (b ∷ bs) ≡ with_text (first_text (b ∷ bs)) (texts_behind (drop (length (first_text (b ∷ bs))) (b ∷ bs)))
texts_by true true b bs e f below = absurd (grind (arith, nat_tests))
texts_by true false b bs e f below =
    line_by true false b bs e f ∙ sym (ap (λ t. with_text t (texts_behind (drop (length t) (b ∷ bs)))) (first_by true false b bs e f) ∙ ap (with_text []) (behind_by true false b bs e f))
texts_by false true b bs e f below =
    line_by false true b bs e f ∙ sym (ap (λ t. with_text t (texts_behind (drop (length t) (b ∷ bs)))) (first_by false true b bs e f) ∙ ap (with_text []) (behind_by false true b bs e f))
texts_by false false b bs e f below =
    line_by false false b bs e f ∙ ap (onto b) below ∙ onto_text b (first_text bs) (texts_behind (drop (length (first_text bs)) bs))
    ∙ sym (ap (λ t. with_text t (texts_behind (drop (length t) (b ∷ bs)))) (first_by false false b bs e f))

-- the texts of a line are its first one and those behind
pub texts_are : (bytes : List ℕ) → line_texts bytes ≡ with_text (first_text bytes) (texts_behind (drop (length (first_text bytes)) bytes))
texts_are [] = refl
texts_are (b ∷ bs) = texts_by (b == 10) (b == 32) b bs refl refl (texts_are bs)

-- within a text nothing ends
inside_by : (t u : Bool) (b j : ℕ) (bs : List ℕ) → (b == 10) ≡ t → (b == 32) ≡ u → j < length (first_text (b ∷ bs)) → ((i : ℕ) → i < length (first_text bs) → texts_behind (drop i bs) ≡ None) → texts_behind (drop j (b ∷ bs)) ≡ None
inside_by t true b j bs e f h below = absurd (omega (arith, ap length (first_by t true b bs e f)))
inside_by true false b j bs e f h below = absurd (omega (arith, ap length (first_by true false b bs e f)))
inside_by false false b zero bs e f h below = behind_by false false b bs e f
inside_by false false b (suc i) bs e f h below = below i (omega (arith, ap length (first_by false false b bs e f)))

pub inside_text : (bytes : List ℕ) (j : ℕ) → j < length (first_text bytes) → texts_behind (drop j bytes) ≡ None
inside_text [] j h = absurd (omega arith)
inside_text (b ∷ bs) j h = inside_by (b == 10) (b == 32) b j bs refl refl h (inside_text bs)

-- numbers, and what is left of the bytes
abbrev pub left_with : List ℕ → Option (List ℤ) → Numbers
left_with left o = option_map (λ zs. (zs, left)) o

-- behind the last number the line ends
abbrev pub counted_in : ℕ → List (List ℕ) × List ℕ → Numbers
counted_in count p = left_with p.1 (counted_numbers count p.0)

-- a text ends where numbers, or the end of the line, are found behind it
ended_by : (t u : Bool) (count b : ℕ) (bs : List ℕ) (found : List ℤ × List ℕ) → (b == 10) ≡ t → (b == 32) ≡ u → numbers_behind count (b ∷ bs) ≡ Some found → first_text (b ∷ bs) ≡ []
ended_by t true count b bs found e f read = first_by t true b bs e f
ended_by true false count b bs found e f read = first_by true false b bs e f
ended_by false false count b bs found e f read = cc (ap (option_and_then (counted_in count)) (behind_by false false b bs e f))

pub text_ended : (count : ℕ) (bytes : List ℕ) (found : List ℤ × List ℕ) → numbers_behind count bytes ≡ Some found → first_text bytes ≡ []
text_ended count [] found read = refl
text_ended count (b ∷ bs) found read = ended_by (b == 10) (b == 32) count b bs found refl refl read

counted_by : (count : ℕ) (ts : List (List ℕ)) (v : Bool) → (length ts == count) ≡ v → counted_numbers count ts ≡ cond v (numbers ts) None
counted_by count ts v e = ap (λ x. cond x (numbers ts) None) e

no_number : (t : List ℕ) (o : Line) → option_and_then (counted_in 0) (with_text t o) ≡ None
no_number t None = refl
no_number t (Some p) = ap (option_map (λ zs. (zs, p.1))) (counted_by 0 (t ∷ p.0) false (grind (arith, nat_tests)))

last_by : (t u : Bool) (b : ℕ) (bs : List ℕ) → (b == 10) ≡ t → (b == 32) ≡ u → numbers_behind 0 (b ∷ bs) ≡ cond t (Some ([], bs)) None
last_by true u b bs e f = ap (option_and_then (counted_in 0)) (behind_by true u b bs e f)
last_by false true b bs e f = ap (option_and_then (counted_in 0)) (behind_by false true b bs e f ∙ texts_are bs) ∙ no_number (first_text bs) (texts_behind (drop (length (first_text bs)) bs))
last_by false false b bs e f = ap (option_and_then (counted_in 0)) (behind_by false false b bs e f)

pub none_left : (bytes : List ℕ) → numbers_behind 0 bytes ≡ cond (begins_with 10 bytes) (Some ([], drop 1 bytes)) None
none_left [] = refl
none_left (b ∷ bs) = last_by (b == 10) (b == 32) b bs refl refl

-- a number, and those behind it
abbrev pub with_number : Option ℤ → Numbers → Numbers
with_number n o = option_and_then (λ z. option_map (λ p. (z ∷ p.0, p.1)) o) n

both_none : (n : Option ℤ) → with_number n None ≡ None
both_none None = refl
both_none (Some z) = refl

one_by : (v : Bool) (n : Option ℤ) (o : Option (List ℤ)) (left : List ℕ) → option_map (λ zs. (zs, left)) (cond v (option_and_then (λ z. option_map (λ zs. z ∷ zs) o) n) None) ≡ with_number n (option_map (λ zs. (zs, left)) (cond v o None))
one_by true None o left = refl
one_by true (Some z) None left = refl
one_by true (Some z) (Some zs) left = refl
one_by false n o left = sym (both_none n)

one_counted : (k : ℕ) (t : List ℕ) (p : List (List ℕ) × List ℕ) → counted_in (k + 1) (t ∷ p.0, p.1) ≡ with_number (number t) (counted_in k p)
one_counted k t p =
    ap (option_map (λ zs. (zs, p.1))) (counted_by (k + 1) (t ∷ p.0) (length p.0 == k) (grind (arith, nat_tests))) ∙ one_by (length p.0 == k) (number t) (numbers p.0) p.1

one_text : (k : ℕ) (t : List ℕ) (o : Line) → option_and_then (counted_in (k + 1)) (with_text t o) ≡ with_number (number t) (option_and_then (counted_in k) o)
one_text k t None = sym (both_none (number t))
one_text k t (Some p) = one_counted k t p

more_by : (t u : Bool) (k b : ℕ) (bs : List ℕ) → (b == 10) ≡ t → (b == 32) ≡ u
    → numbers_behind (k + 1) (b ∷ bs) ≡ cond u (with_number (number (first_text bs)) (numbers_behind k (drop (length (first_text bs)) bs))) None
more_by true true k b bs e f = absurd (grind (arith, nat_tests))
more_by true false k b bs e f = ap (option_and_then (counted_in (k + 1))) (behind_by true false b bs e f) ∙ ap (option_map (λ zs. (zs, bs))) (counted_by (k + 1) [] false (grind (arith, nat_tests)))
more_by false true k b bs e f = ap (option_and_then (counted_in (k + 1))) (behind_by false true b bs e f ∙ texts_are bs) ∙ one_text k (first_text bs) (texts_behind (drop (length (first_text bs)) bs))
more_by false false k b bs e f = ap (option_and_then (counted_in (k + 1))) (behind_by false false b bs e f)

pub one_more : (k : ℕ) (bytes : List ℕ) → numbers_behind (k + 1) bytes ≡ cond (begins_with 32 bytes) (with_number (number (first_text (drop 1 bytes))) (numbers_behind k (drop (length (first_text (drop 1 bytes))) (drop 1 bytes)))) None
one_more k [] = refl
one_more k (b ∷ bs) = more_by (b == 10) (b == 32) k b bs refl refl

-- what the numbers so far make of those to come
abbrev pub done : List ℤ → Numbers → Numbers
done items o = option_map (λ p. (items ++ map clipped p.0, p.1)) o

moved_over : (items : List ℤ) (z : ℤ) (o : Numbers) → done items (with_number (Some z) o) ≡ done (items ++ clipped z ∷ []) o
moved_over items z None = refl
moved_over items z (Some p) = ap (λ zs. Some (zs, p.1)) (sym (append_assoc items (clipped z ∷ []) (map clipped p.0)))

-- a line that ends behind its last number
pub line_ended : (items : List ℤ) (bytes : List ℕ) → true ≡ begins_with 10 bytes → done items (numbers_behind 0 bytes) ≡ Some (items, drop 1 bytes)
line_ended items bytes e = ap (done items) (none_left bytes ∙ ap (λ v. cond v (Some ([], drop 1 bytes)) None) (sym e)) ∙ ap (λ zs. Some (zs, drop 1 bytes)) (append-nil items)

pub line_goes_on : (items : List ℤ) (bytes : List ℕ) → false ≡ begins_with 10 bytes → done items (numbers_behind 0 bytes) ≡ None
line_goes_on items bytes e = ap (done items) (none_left bytes ∙ ap (λ v. cond v (Some ([], drop 1 bytes)) None) (sym e))

-- a line that goes on behind a space
spaced_on : (k : ℕ) (bytes : List ℕ) → true ≡ begins_with 32 bytes → numbers_behind (k + 1) bytes ≡ with_number (number (first_text (drop 1 bytes))) (numbers_behind k (drop (length (first_text (drop 1 bytes))) (drop 1 bytes)))
spaced_on k bytes e = one_more k bytes ∙ ap (λ v. cond v (with_number (number (first_text (drop 1 bytes))) (numbers_behind k (drop (length (first_text (drop 1 bytes))) (drop 1 bytes)))) None) (sym e)

none_read : (o : Option ℤ) → None ≡ option_map clipped o → o ≡ None
none_read None e = refl
none_read (Some z) e = cc

some_read : (o : Option ℤ) (n : ℤ) → Some n ≡ option_map clipped o → (z : ℤ) × (o ≡ Some z) × (n ≡ clipped z)
some_read None n e = cc
some_read (Some z) n e = (z, refl, cc)

-- a text that is no number
pub no_number_read : (items : List ℤ) (k : ℕ) (bytes : List ℕ) → true ≡ begins_with 32 bytes → None ≡ option_map clipped (number (first_text (drop 1 bytes))) → done items (numbers_behind (k + 1) bytes) ≡ None
no_number_read items k bytes e none =
    ap (done items) (spaced_on k bytes e ∙ ap (λ n. with_number n (numbers_behind k (drop (length (first_text (drop 1 bytes))) (drop 1 bytes)))) (none_read (number (first_text (drop 1 bytes))) none))

-- a number was read: it is the text, or it ends within
read_by : (v : Bool) (items : List ℤ) (k end : ℕ) (bytes : List ℕ) (n : ℤ) → (end == length (first_text (drop 1 bytes))) ≡ v → end ≤ length (first_text (drop 1 bytes)) → true ≡ begins_with 32 bytes
    → cond v (Some n) None ≡ option_map clipped (number (first_text (drop 1 bytes))) → done items (numbers_behind (k + 1) bytes) ≡ done (items ++ n ∷ []) (numbers_behind k (drop end (drop 1 bytes)))
read_by true items k end bytes n e h space read =
    let z = some_read (number (first_text (drop 1 bytes))) n read in
    let same : length (first_text (drop 1 bytes)) ≡ end = grind (arith, nat_tests) in
    ap (done items) (spaced_on k bytes space ∙ ap (λ m. with_number m (numbers_behind k (drop (length (first_text (drop 1 bytes))) (drop 1 bytes)))) z.1)
    ∙ moved_over items z.0 (numbers_behind k (drop (length (first_text (drop 1 bytes))) (drop 1 bytes)))
    ∙ ap (λ x. done (items ++ x ∷ []) (numbers_behind k (drop (length (first_text (drop 1 bytes))) (drop 1 bytes)))) (sym z.2)
    ∙ ap (λ i. done (items ++ n ∷ []) (numbers_behind k (drop i (drop 1 bytes)))) same
read_by false items k end bytes n e h space read =
    let below : end < length (first_text (drop 1 bytes)) = grind (arith, nat_tests) in
    no_number_read items k bytes space read ∙ sym (ap (λ o. done (items ++ n ∷ []) (option_and_then (counted_in k) o)) (inside_text (drop 1 bytes) end below))

-- the numbers so far, and those to come, are those of the line
pub number_next : (items : List ℤ) (k at end : ℕ) (bytes : List ℕ) (n : ℤ) → true ≡ begins_with 32 (drop at bytes) → at + 1 ≤ end → end ≤ at + 1 + length (first_text (drop (at + 1) bytes))
    → read_whole (at + 1 + length (first_text (drop (at + 1) bytes))) (Some (n, end)) ≡ option_map clipped (number (first_text (drop (at + 1) bytes)))
    → done items (numbers_behind (k + 1) (drop at bytes)) ≡ done (items ++ n ∷ []) (numbers_behind k (drop end bytes))
number_next items k at end bytes n space begun within read =
    let on = drop_on at 1 bytes in
    let far : length (first_text (drop 1 (drop at bytes))) ≡ length (first_text (drop (at + 1) bytes)) = ap (λ x. length (first_text x)) (sym on) in
    let test : (end == at + 1 + length (first_text (drop (at + 1) bytes))) ≡ (end - (at + 1) == length (first_text (drop 1 (drop at bytes)))) = grind (arith, nat_tests) in
    let sum : at + 1 + (end - (at + 1)) ≡ end = omega arith in
    read_by (end - (at + 1) == length (first_text (drop 1 (drop at bytes)))) items k (end - (at + 1)) (drop at bytes) n refl (omega (arith, far)) space
    (ap (λ v. cond v (Some n) None) (sym test) ∙ read ∙ ap (λ x. option_map clipped (number (first_text x))) on)
    ∙ ap (λ x. done (items ++ n ∷ []) (numbers_behind k x)) (ap (drop (end - (at + 1))) (sym on) ∙ sym (drop_on (at + 1) (end - (at + 1)) bytes) ∙ ap (λ i. drop i bytes) sum)

pub number_missing : (items : List ℤ) (k at : ℕ) (bytes : List ℕ) → true ≡ begins_with 32 (drop at bytes) → None ≡ option_map clipped (number (first_text (drop (at + 1) bytes))) → done items (numbers_behind (k + 1) (drop at bytes)) ≡ None
number_missing items k at bytes space none = no_number_read items k (drop at bytes) space (none ∙ ap (λ x. option_map clipped (number (first_text x))) (drop_on at 1 bytes))

-- a minus is the first byte of its text
minus_by : (b : ℕ) (bs : List ℕ) → (b == 45) ≡ true → first_text (b ∷ bs) ≡ 45 ∷ first_text bs
minus_by b bs e =
    let is : b ≡ 45 = grind (arith, nat_tests) in
    ap (λ x. first_text (x ∷ bs)) is

minus_text : (bytes : List ℕ) → begins_with 45 bytes ≡ true → first_text bytes ≡ 45 ∷ first_text (drop 1 bytes)
minus_text [] e = cc
minus_text (b ∷ bs) e = minus_by b bs e

-- what stands behind the minus was read
whole_by : (v : Bool) (m : ℕ) (n : Option ℕ) → m ≢ 0 → cond v (Some m) None ≡ option_map (λ k. min k (2 ^ 64 - 1)) n → cond v (Some (neg_ℤ (pos (min m (2 ^ 63 - 1))))) None ≡ option_map clipped (negated n)
whole_by true m None some e = cc
whole_by true m (Some zero) some e = absurd (some (same_Some m 0 e))
whole_by true m (Some (suc k)) some e =
    let same : m ≡ min (suc k) (2 ^ 64 - 1) = same_Some m (min (suc k) (2 ^ 64 - 1)) e in
    let clip : min m (2 ^ 63 - 1) ≡ min (suc k) (2 ^ 63 - 1) = omega (arith, same) in
    let test : (suc k == 0) ≡ false = grind (arith, nat_tests) in
    ap (λ x. Some (neg_ℤ (pos x))) clip ∙ sym (ap (λ b. option_map clipped (cond b None (Some (neg_ℤ (pos (suc k)))))) test)
whole_by false m None some e = refl
whole_by false m (Some n) some e = cc

pub minus_read : (at digits end m : ℕ) (bytes : List ℕ) → begins_with 45 (drop at bytes) ≡ true → digits ≡ at + 1 → m ≢ 0
    → read_whole (digits + length (first_text (drop digits bytes))) (Some (m, end)) ≡ option_map (λ k. min k (2 ^ 64 - 1)) (natural (first_text (drop digits bytes)))
    → read_whole (at + length (first_text (drop at bytes))) (Some (neg_ℤ (pos (min m (2 ^ 63 - 1))), end)) ≡ option_map clipped (number (first_text (drop at bytes)))
minus_read at digits end m bytes minus is some e =
    let text = minus_text (drop at bytes) minus ∙ ap (λ x. 45 ∷ first_text x) (sym (drop_on at 1 bytes) ∙ ap (λ i. drop i bytes) (sym is)) in
    let place : at + length (first_text (drop at bytes)) ≡ digits + length (first_text (drop digits bytes)) = omega (arith, ap length text, is) in
    ap (λ x. read_whole x (Some (neg_ℤ (pos (min m (2 ^ 63 - 1))), end))) place ∙ whole_by (end == digits + length (first_text (drop digits bytes))) m (natural (first_text (drop digits bytes))) some e
    ∙ ap (λ t. option_map clipped (number t)) (sym text)

pub minus_place : (at digits : ℕ) (bytes : List ℕ) → begins_with 45 (drop at bytes) ≡ true → digits ≡ at + 1 → digits + length (first_text (drop digits bytes)) ≡ at + length (first_text (drop at bytes))
minus_place at digits bytes minus is =
    let text = minus_text (drop at bytes) minus ∙ ap (λ x. 45 ∷ first_text x) (sym (drop_on at 1 bytes) ∙ ap (λ i. drop i bytes) (sym is)) in
    omega (arith, ap length text, is)

-- what stands behind the minus is no number, or 0
nothing_by : (v : Bool) (n : Option ℕ) → cond v (Some 0) None ≡ option_map (λ k. min k (2 ^ 64 - 1)) n → negated n ≡ None
nothing_by v None e = refl
nothing_by true (Some zero) e = refl
nothing_by true (Some (suc k)) e = absurd (omega (arith, same_Some 0 (min (suc k) (2 ^ 64 - 1)) e))
nothing_by false (Some n) e = cc

pub minus_alone : (at digits : ℕ) (bytes : List ℕ) → begins_with 45 (drop at bytes) ≡ true → digits ≡ at + 1 → None ≡ option_map (λ k. min k (2 ^ 64 - 1)) (natural (first_text (drop digits bytes))) → None ≡ option_map clipped (number (first_text (drop at bytes)))
minus_alone at digits bytes minus is e =
    let text = minus_text (drop at bytes) minus ∙ ap (λ x. 45 ∷ first_text x) (sym (drop_on at 1 bytes) ∙ ap (λ i. drop i bytes) (sym is)) in
    sym (ap (λ t. option_map clipped (number t)) text ∙ ap (option_map clipped) (nothing_by false (natural (first_text (drop digits bytes))) e))

pub minus_zero : (at digits m end : ℕ) (bytes : List ℕ) → begins_with 45 (drop at bytes) ≡ true → digits ≡ at + 1 → m ≡ 0
    → read_whole (digits + length (first_text (drop digits bytes))) (Some (m, end)) ≡ option_map (λ k. min k (2 ^ 64 - 1)) (natural (first_text (drop digits bytes))) → None ≡ option_map clipped (number (first_text (drop at bytes)))
minus_zero at digits m end bytes minus is zero_read e =
    let text = minus_text (drop at bytes) minus ∙ ap (λ x. 45 ∷ first_text x) (sym (drop_on at 1 bytes) ∙ ap (λ i. drop i bytes) (sym is)) in
    sym (ap (λ t. option_map clipped (number t)) text ∙ ap (option_map clipped) (nothing_by (end == digits + length (first_text (drop digits bytes))) (natural (first_text (drop digits bytes)))
    (ap (λ k. read_whole (digits + length (first_text (drop digits bytes))) (Some (k, end))) (sym zero_read) ∙ e)))

-- what a look at one byte says
pub some_behind : (b : Bool) (n d : ℕ) → Some d ≡ cond b (Some n) None → (b ≡ true) × (d ≡ n)
some_behind true n d e = (refl, same_Some d n e)
some_behind false n d e = cc

pub none_behind : (b : Bool) (n : ℕ) → None ≡ cond b (Some n) None → b ≡ false
none_behind true n e = cc
none_behind false n e = refl

-- a number that was read behind a space
pub number_read_at : (items : List ℤ) (k at digits end : ℕ) (bytes : List ℕ) (n : ℤ) → Some digits ≡ cond (begins_with 32 (drop at bytes)) (Some (at + 1)) None → digits ≤ end → end ≤ digits + length (first_text (drop digits bytes))
    → read_whole (digits + length (first_text (drop digits bytes))) (Some (n, end)) ≡ option_map clipped (number (first_text (drop digits bytes)))
    → done items (numbers_behind (k + 1) (drop at bytes)) ≡ done (items ++ n ∷ []) (numbers_behind k (drop end bytes))
number_read_at items k at digits end bytes n found begun within read =
    let p = some_behind (begins_with 32 (drop at bytes)) (at + 1) digits found in
    let same = ap (λ d. length (first_text (drop d bytes))) p.1 in
    number_next items k at end bytes n (sym p.0) (omega (arith, p.1)) (omega (arith, p.1, same))
    (ap (λ d. read_whole (d + length (first_text (drop d bytes))) (Some (n, end))) (sym p.1) ∙ read ∙ ap (λ d. option_map clipped (number (first_text (drop d bytes)))) p.1)

pub number_missing_at : (items : List ℤ) (k at digits : ℕ) (bytes : List ℕ) → Some digits ≡ cond (begins_with 32 (drop at bytes)) (Some (at + 1)) None → None ≡ option_map clipped (number (first_text (drop digits bytes)))
    → done items (numbers_behind (k + 1) (drop at bytes)) ≡ None
number_missing_at items k at digits bytes found none =
    let p = some_behind (begins_with 32 (drop at bytes)) (at + 1) digits found in
    number_missing items k at bytes (sym p.0) (none ∙ ap (λ d. option_map clipped (number (first_text (drop d bytes)))) p.1)

pub line_ended_at : (items : List ℤ) (at next : ℕ) (bytes : List ℕ) → Some next ≡ cond (begins_with 10 (drop at bytes)) (Some (at + 1)) None → done items (numbers_behind 0 (drop at bytes)) ≡ Some (items, drop next bytes)
line_ended_at items at next bytes found =
    let p = some_behind (begins_with 10 (drop at bytes)) (at + 1) next found in
    line_ended items (drop at bytes) (sym p.0) ∙ ap (λ x. Some (items, x)) (sym (drop_on at 1 bytes) ∙ ap (λ i. drop i bytes) (sym p.1))
