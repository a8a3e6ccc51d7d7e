-- Lists of labels all of which pass a test.
use Rattle.std.proofs.Common.{◌≡◌, ℕ, zero, suc, Bool, IsTrue, List, [], ◌∷◌, ◌++◌, map, filter_map, option_to_list, replicate, get_or, set, slice_get, Option, Some, None, subst}
use Rattle.std.specs.List.{cons_option}
use Rattle.model_core.specs.declared.label.Label.{Label}
use Rattle.model_traces.specs.Schedules.Sameness.{AllAlive}

module _ (alive : Label → Bool) where
  pub all_both : (xs ys : List Label) → AllAlive alive xs → AllAlive alive ys → AllAlive alive (xs ++ ys)
  all_both [] ys a b = b
  all_both (x ∷ xs) ys a b = (a.0, all_both xs ys a.1 b)

  pub all_second : (xs ys : List Label) → AllAlive alive (xs ++ ys) → AllAlive alive ys
  all_second [] ys a = a
  all_second (x ∷ xs) ys a = all_second xs ys a.1

  pub all_first : (xs ys : List Label) → AllAlive alive (xs ++ ys) → AllAlive alive xs
  all_first [] ys a = tt
  all_first (x ∷ xs) ys a = (a.0, all_first xs ys a.1)

  pub all_cons_option : (o : Option Label) (xs : List Label) → AllAlive alive (option_to_list o) → AllAlive alive xs → AllAlive alive (cons_option o xs)
  all_cons_option None xs a b = b
  all_cons_option (Some l) xs a b = (a.0, b)

  pub all_option : (o : Option Label) (xs : List Label) → AllAlive alive (cons_option o xs) → AllAlive alive (option_to_list o)
  all_option None xs a = tt
  all_option (Some l) xs a = (a.0, tt)

  pub all_rest : (o : Option Label) (xs : List Label) → AllAlive alive (cons_option o xs) → AllAlive alive xs
  all_rest None xs a = a
  all_rest (Some l) xs a = a.1

  module _ {A : Type 0} (f : A → Option Label) where
    pub all_set : (xs : List A) (i : ℕ) (v : A) → AllAlive alive (filter_map f xs) → AllAlive alive (option_to_list (f v)) → AllAlive alive (filter_map f (set xs i v))
    all_set [] i v a b = a
    all_set (x ∷ xs) zero v a b = all_cons_option (f v) (filter_map f xs) b (all_rest (f x) (filter_map f xs) a)
    all_set (x ∷ xs) (suc i) v a b =
        all_cons_option (f x) (filter_map f (set xs i v)) (all_option (f x) (filter_map f xs) a) (all_set xs i v (all_rest (f x) (filter_map f xs) a) b)

    pub all_at : (xs : List A) (i : ℕ) (d : A) → AllAlive alive (filter_map f xs) → AllAlive alive (option_to_list (f d)) → AllAlive alive (option_to_list (f (get_or xs i d)))
    all_at [] i d a b = b
    all_at (x ∷ xs) zero d a b = all_option (f x) (filter_map f xs) a
    all_at (x ∷ xs) (suc i) d a b = all_at xs i d (all_rest (f x) (filter_map f xs) a) b

    pub all_get : (xs : List A) (i : ℕ) (v : A) → AllAlive alive (filter_map f xs) → slice_get xs i ≡ Some v → AllAlive alive (option_to_list (f v))
    all_get [] i v a e = cc
    all_get (x ∷ xs) zero v a e = let same : x ≡ v = cc in subst (λ z. AllAlive alive (option_to_list (f z))) same (all_option (f x) (filter_map f xs) a)
    all_get (x ∷ xs) (suc i) v a e = all_get xs i v (all_rest (f x) (filter_map f xs) a) e

    pub all_replicate : (n : ℕ) (v : A) → f v ≡ None → AllAlive alive (filter_map f (replicate n v))
    all_replicate zero v e = tt
    all_replicate (suc n) v e = rw e (all_replicate n v e)

  pub all_map_push : {A : Type 0} (f : A → Label) (xs : List A) (x : A) → AllAlive alive (map f xs) → IsTrue (alive (f x)) → AllAlive alive (map f (xs ++ x ∷ []))
  all_map_push f [] x a b = (b, tt)
  all_map_push f (y ∷ xs) x a b = (a.0, all_map_push f xs x a.1 b)

-- what passes one test passes another that is weaker
pub all_weaker : (alive more : Label → Bool) → ((l : Label) → IsTrue (alive l) → IsTrue (more l)) → (ls : List Label) → AllAlive alive ls → AllAlive more ls
all_weaker alive more w [] a = tt
all_weaker alive more w (l ∷ ls) a = (w l a.0, all_weaker alive more w ls a.1)
