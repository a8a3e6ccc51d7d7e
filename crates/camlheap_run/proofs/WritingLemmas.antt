-- What is written in two steps is written in one.
use Rattle.std.proofs.Common.{◌≡◌, ℕ, ◌+◌, ◌<◌, List, [], ◌∷◌, ◌++◌, length, get_or, take, drop, sym, ap, subst, ◌∙◌, append_assoc, append-nil, take-append-drop, drop-cons, add-one, Result, Ok, Err}
use Rattle.std.specs.Prelude.{flat_map}
use Rattle.std.proofs.lemmas.List.Concat.{flat_map-append}
use Rattle.std.specs.declared.option.Option.{Option}
use Rattle.std.specs.Io.KnownBytes.{Appends}
use Rattle.std.proofs.KnownBytes.{Appends-trans}
use Rattle.text_ends.specs.Writing.{AppendsFront, Writes}

-- the first text was appended, and a front part of the second
pub front_of_second : (a b c : Option (List ℕ)) (first second text rest : List ℕ) → text ≡ first ++ (second ++ rest) → Appends a b first → AppendsFront b c second → AppendsFront a c text
front_of_second a b c first second text rest is whole part = record {
  front = first ++ part.front;
  rest = part.rest ++ rest;
  splits = is ∙ ap (λ (l : List ℕ). first ++ (l ++ rest)) part.splits ∙ ap (λ (l : List ℕ). first ++ l) (append_assoc part.front part.rest rest) ∙ sym (append_assoc first part.front (part.rest ++ rest));
  appended = Appends-trans a b c first part.front whole part.appended;
}

-- a front part of the first is one of both
pub front_of_first : (a b : Option (List ℕ)) (first second : List ℕ) → AppendsFront a b first → AppendsFront a b (first ++ second)
front_of_first a b first second part = record {
  front = part.front;
  rest = part.rest ++ second;
  splits = ap (λ (l : List ℕ). l ++ second) part.splits ∙ append_assoc part.front part.rest second;
  appended = part.appended;
}

-- the first text was appended, and then the second was written
pub writes_both : {T E : Type 0} → (a b c : Option (List ℕ)) (result : Result T E) (first second : List ℕ) → Appends a b first → Writes b c result second → Writes a c result (first ++ second)
writes_both a b c (Ok x) first second whole writes = Appends-trans a b c first second whole writes
writes_both a b c (Err e) first second whole writes = front_of_second a b c first second (first ++ second) [] (ap (λ (l : List ℕ). first ++ l) (sym (append-nil second))) whole writes

-- the texts of a list whose items are written part by part: what is written, the text of the next part, and the texts behind it
pub text_by_parts : {A : Type 0} (f : A → List ℕ) (all left part rest : List A) (done text : List ℕ) → done ++ flat_map f left ≡ flat_map f all → left ≡ part ++ rest → text ≡ flat_map f part
    → flat_map f all ≡ done ++ (text ++ flat_map f rest)
text_by_parts {A} f all left part rest done text whole parts is =
    sym whole ∙ ap (λ (xs : List A). done ++ flat_map f xs) parts ∙ ap (λ (l : List ℕ). done ++ l) (flat_map-append f part rest)
    ∙ ap (λ (l : List ℕ). done ++ (l ++ flat_map f rest)) (sym is)

-- the texts of the parts of a list, up to one and from there on
pub text_at : {A : Type 0} (f : A → List ℕ) (xs : List A) (i : ℕ) (x : A) → i < length xs → flat_map f xs ≡ flat_map f (take i xs) ++ (f (get_or xs i x) ++ flat_map f (drop (i + 1) xs))
text_at {A} f xs i x below =
    ap (flat_map f) (sym (take-append-drop i xs)) ∙ flat_map-append f (take i xs) (drop i xs)
    ∙ ap (λ (ys : List A). flat_map f (take i xs) ++ flat_map f ys) (drop-cons xs i x below ∙ ap (λ (n : ℕ). get_or xs i x ∷ drop n xs) (sym (add-one i)))

-- a text that was written, or a front part of it, by its other name
pub written_as : {T E : Type 0} → (a b : Option (List ℕ)) (result : Result T E) (text same : List ℕ) → text ≡ same → Writes a b result text → Writes a b result same
written_as a b result text same is writes = subst (λ (l : List ℕ). Writes a b result l) is writes

pub front_as : (a b : Option (List ℕ)) (text same : List ℕ) → text ≡ same → AppendsFront a b text → AppendsFront a b same
front_as a b text same is part = subst (λ (l : List ℕ). AppendsFront a b l) is part
