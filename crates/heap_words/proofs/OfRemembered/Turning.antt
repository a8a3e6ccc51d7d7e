-- What a turn of a list does to what it stands for.
use Rattle.std.proofs.Common.{◌≡◌, ◌∙◌, ℕ, ◌+◌, ◌-◌, ◌<◌, ◌≤◌, List, [], ◌∷◌, ◌++◌, length, drop, take, refl, ap, sym, subst, get_or, ⊎_elim, append_assoc, arith, min, length-append, length-drop, length-take}
use Rattle.std.specs.List.{remove}
use Rattle.std.proofs.lemmas.Bool.{cases_lt}
use Rattle.std.proofs.lemmas.List.{get_or_append_left, get_or-append-add, get_or-drop, get_or-take, take-append-drop, length-take-le, take-append-le, drop-append-le}
use Rattle.std.proofs.Math.Seq.{drop-append-add, take-append-add}

-- the list after a turn by the length of its end stands for the same
pub crossed : {A : Type 0} (xs ys : List A) (f : ℕ) → f ≤ length xs → drop (length ys + f) (ys ++ xs) ++ take (length ys + f) (ys ++ xs) ≡ drop f (xs ++ ys) ++ take f (xs ++ ys)
crossed xs ys f few = rw (drop-append-add ys xs f) (rw (take-append-add ys xs f) (rw (drop-append-le f xs ys few) (rw (take-append-le f xs ys few) (sym (append_assoc (drop f xs) ys (take f xs))))))

pub turned_right : {A : Type 0} (old new : List A) (n from to : ℕ) → n ≡ length old → from ≤ to → to ≤ n → new ≡ drop (n - (to - from)) old ++ take (n - (to - from)) old → drop to new ++ take to new ≡ drop from old ++ take from old
turned_right old new n from to n_is less few e =
    let xs = take (n - (to - from)) old in
    let ys = drop (n - (to - from)) old in
    let whole : xs ++ ys ≡ old = take-append-drop (n - (to - from)) old in
    let long : length ys ≡ length old - (n - (to - from)) = length-drop (n - (to - from)) old in
    let short : from ≤ length xs = subst (λ z. from ≤ z) (sym (length-take-le (n - (to - from)) old (omega arith))) (omega arith) in
    let at : length ys + from ≡ to = omega arith in
    rw e (subst (λ z. drop z (ys ++ xs) ++ take z (ys ++ xs) ≡ drop from old ++ take from old) at (subst (λ z. drop (length ys + from) (ys ++ xs) ++ take (length ys + from) (ys ++ xs) ≡ drop from z ++ take from z) whole (crossed xs ys from short)))

pub turned_left : {A : Type 0} (old new : List A) (n from to : ℕ) → n ≡ length old → to ≤ from → from ≤ n → new ≡ drop (from - to) old ++ take (from - to) old → drop to new ++ take to new ≡ drop from old ++ take from old
turned_left old new n from to n_is less few e =
    let ys = take (from - to) old in
    let xs = drop (from - to) old in
    let whole : ys ++ xs ≡ old = take-append-drop (from - to) old in
    let long : length ys ≡ from - to = length-take-le (from - to) old (omega arith) in
    let rest : length xs ≡ length old - (from - to) = length-drop (from - to) old in
    let short : to ≤ length xs = omega arith in
    let at : length ys + to ≡ from = omega arith in
    rw e (sym (subst (λ z. drop from z ++ take from z ≡ drop to (xs ++ ys) ++ take to (xs ++ ys)) whole (subst (λ z. drop z (ys ++ xs) ++ take z (ys ++ xs) ≡ drop to (xs ++ ys) ++ take to (xs ++ ys)) at (crossed xs ys to short))))

turned_first : {A : Type 0} (xs : List A) (t i : ℕ) (d : A) → i + t < length xs → get_or (drop t xs ++ take t xs) i d ≡ get_or xs (t + i) d
turned_first xs t i d inside =
    let long : length (drop t xs) ≡ length xs - t = length-drop t xs in
    get_or_append_left (drop t xs) (take t xs) d i (omega arith) ∙ get_or-drop t xs i d

turned_last : {A : Type 0} (xs : List A) (t m : ℕ) (d : A) → t ≤ length xs → m < t → get_or (drop t xs ++ take t xs) (length xs - t + m) d ≡ get_or xs m d
turned_last xs t m d few inside =
    subst (λ z. get_or (drop t xs ++ take t xs) (z + m) d ≡ get_or xs m d) (length-drop t xs) (get_or-append-add (drop t xs) (take t xs) m d ∙ get_or-take t xs m d inside)

pub turned_get : {A : Type 0} (xs : List A) (n t i at : ℕ) (d : A) → n ≡ length xs → t ≤ n → i < n → (i + t < n → at ≡ t + i) → (n ≤ i + t → at + n ≡ i + t) → get_or (drop t xs ++ take t xs) i d ≡ get_or xs at d
turned_get xs n t i at d n_is few inside first last = ⊎_elim (λ (below : i + t < n). let e : at ≡ t + i = first below in subst (λ z. get_or (drop t xs ++ take t xs) i d ≡ get_or xs z d) (sym e) (turned_first xs t i d (omega arith)))
    (λ (above : n ≤ i + t). let e : at + n ≡ i + t = last above in let f : length xs - t + at ≡ i = omega arith in subst (λ z. get_or (drop t xs ++ take t xs) z d ≡ get_or xs at d) f (turned_last xs t at d (omega arith) (omega arith)))
    (cases_lt (i + t) n)

pub remove_seam : {A : Type 0} (xs ys : List A) (x : A) → remove ((xs ++ x ∷ []) ++ ys) (length xs) ≡ xs ++ ys
remove_seam [] ys x = refl
remove_seam (y ∷ xs) ys x = ap (λ z. y ∷ z) (remove_seam xs ys x)

pub turned_remove : {A : Type 0} (old new : List A) (x : A) (b i : ℕ) → old ≡ new ++ x ∷ [] → b + i ≡ length new → drop b new ++ take b new ≡ remove (drop b old ++ take b old) i
turned_remove old new x b i e at =
    let long : length (drop b new) ≡ length new - b = length-drop b new in
    let here : length (drop b new) ≡ i = omega arith in
    rw e (rw (drop-append-le b new (x ∷ []) (omega arith)) (rw (take-append-le b new (x ∷ []) (omega arith)) (sym (subst (λ z. remove ((drop b new ++ x ∷ []) ++ take b new) z ≡ drop b new ++ take b new) here (remove_seam (drop b new) (take b new) x)))))

pub length_turned : {A : Type 0} (xs : List A) (t : ℕ) → length (drop t xs ++ take t xs) ≡ length xs
length_turned xs t = length-append (drop t xs) (take t xs) ∙ (let a : length (drop t xs) ≡ length xs - t = length-drop t xs in let b : length (take t xs) ≡ min t (length xs) = length-take t xs in grind arith)
