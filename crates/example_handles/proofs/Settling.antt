-- How resources are closed, one after the other.
use Rattle.std.proofs.Common.{◌≡◌, ◌≢◌, ◌∙◌, ℕ, zero, suc, Bool, true, false, List, [], ◌∷◌, ◌++◌, length, refl, sym, ap, true≢false, inl, inr, ⊎_elim}
use Rattle.std.specs.Prelude.{◌⊎◌, ◌||◌, Option, Some, None, option_map, slice_get}
use Rattle.std.proofs.lemmas.List.Folds.{list_any-append}
use Rattle.model_core.specs.declared.reply.Reply.{Reply}
use Rattle.example_handles.specs.declared.resource.Resource.{Resource}
use Rattle.example_handles.specs.declared.resource.Resource.TheVariants.{Open, ClosedByOwner, ClosedByFinaliser}
use Rattle.example_handles.specs.Resources.{Settled, closed_if, is_last, is_open, names}

-- what isn't asked to close, or isn't open, stays
pub stays : (o : Option Resource) (b : Bool) (closed : Resource) → (b ≡ true → is_open o ≡ false) → o ≡ option_map (closed_if b closed) o
stays None b closed shut = refl
stays (Some r) false closed shut = refl
stays (Some Open) true closed shut = absurd (true≢false (shut refl))
stays (Some ClosedByOwner) true closed shut = refl
stays (Some ClosedByFinaliser) true closed shut = refl

-- by two finalisers, one after the other
twice : (a b : Bool) (o : Option Resource) → option_map (closed_if a ClosedByFinaliser) (option_map (closed_if b ClosedByFinaliser) o) ≡ option_map (closed_if (b || a) ClosedByFinaliser) o
twice a b None = refl
twice a false (Some r) = refl
twice true true (Some Open) = refl
twice false true (Some Open) = refl
twice true true (Some ClosedByOwner) = refl
twice false true (Some ClosedByOwner) = refl
twice true true (Some ClosedByFinaliser) = refl
twice false true (Some ClosedByFinaliser) = refl

-- one reply after the others
pub settled_more : (xs ys zs : List Resource) (ran more : List Reply) → Settled xs ran ys → Settled ys more zs → Settled xs (ran ++ more) zs
settled_more xs ys zs ran more first then k =
    then k ∙ (ap (option_map (closed_if (names more k) ClosedByFinaliser)) (first k)
    ∙ (twice (names more k) (names ran k) (slice_get xs k) ∙ ap (λ (b : Bool). option_map (closed_if b ClosedByFinaliser) (slice_get xs k)) (sym (list_any-append (is_last k) ran more))))

pub settled_none : (xs : List Resource) → Settled xs [] xs
settled_none xs k = stays (slice_get xs k) false ClosedByFinaliser (λ e. cc)

-- replies that came before close nothing more
same_closing : (o : Option Resource) (a b : Bool) → (a ≡ true → o ≢ Some Open) → option_map (closed_if b ClosedByFinaliser) o ≡ option_map (closed_if (a || b) ClosedByFinaliser) o
same_closing o false b shut = refl
same_closing None true b shut = refl
same_closing (Some Open) true b shut = absurd (shut refl refl)
same_closing (Some ClosedByOwner) true b shut = sym (stays (Some ClosedByOwner) b ClosedByFinaliser (λ e. refl))
same_closing (Some ClosedByFinaliser) true b shut = sym (stays (Some ClosedByFinaliser) b ClosedByFinaliser (λ e. refl))

pub settled_since : (xs ys : List Resource) (before ran all : List Reply) → ((k : ℕ) → names before k ≡ true → slice_get xs k ≢ Some Open) → ((k : ℕ) → names all k ≡ (names before k || names ran k)) → Settled xs ran ys → Settled xs all ys
settled_since xs ys before ran all closed both settled k =
    settled k ∙ (same_closing (slice_get xs k) (names before k) (names ran k) (closed k)
    ∙ ap (λ (b : Bool). option_map (closed_if b ClosedByFinaliser) (slice_get xs k)) (sym (both k)))

-- one call after the other, where what has run stays so
or_on : (a b : Bool) → (a ≡ true → b ≡ true) → (a || b) ≡ b
or_on true b on = sym (on refl)
or_on false b on = refl

pub settled_both : (xs ys zs : List Resource) (before all : List Reply) → ((k : ℕ) → names before k ≡ true → names all k ≡ true) → Settled xs before ys → Settled ys all zs → Settled xs all zs
settled_both xs ys zs before all on first then k =
    then k ∙ (ap (option_map (closed_if (names all k) ClosedByFinaliser)) (first k)
    ∙ (twice (names all k) (names before k) (slice_get xs k) ∙ ap (λ (b : Bool). option_map (closed_if b ClosedByFinaliser) (slice_get xs k)) (or_on (names before k) (names all k) (on k))))

-- a resource that is named isn't open any more
never_open : (o : Option Resource) → option_map (closed_if true ClosedByFinaliser) o ≢ Some Open
never_open None = λ e. cc
never_open (Some Open) = λ e. cc
never_open (Some ClosedByOwner) = λ e. cc
never_open (Some ClosedByFinaliser) = λ e. cc

pub named_closed : (xs ys : List Resource) (ran : List Reply) (k : ℕ) → Settled xs ran ys → names ran k ≡ true → slice_get ys k ≢ Some Open
named_closed xs ys ran k settled is held = never_open (slice_get xs k) (ap (λ (b : Bool). option_map (closed_if b ClosedByFinaliser) (slice_get xs k)) (sym is) ∙ (sym (settled k) ∙ held))

-- one that is open was open before
pub was_open : (o : Option Resource) (b : Bool) → option_map (closed_if b ClosedByFinaliser) o ≡ Some Open → o ≡ Some Open
was_open None b is = cc
was_open (Some Open) b is = refl
was_open (Some ClosedByOwner) true is = cc
was_open (Some ClosedByOwner) false is = cc
was_open (Some ClosedByFinaliser) true is = cc
was_open (Some ClosedByFinaliser) false is = cc

-- and one that a finaliser closed is named, or was closed so before
pub closed_named : (xs ys : List Resource) (ran : List Reply) (k : ℕ) → Settled xs ran ys → (slice_get xs k ≡ Some ClosedByFinaliser → names ran k ≡ true) → slice_get ys k ≡ Some ClosedByFinaliser → names ran k ≡ true
closed_named xs ys ran k settled before is = go (names ran k) refl
  where
    go : (b : Bool) → names ran k ≡ b → names ran k ≡ true
    go true e = e
    go false e = before (stays (slice_get xs k) false ClosedByFinaliser (λ f. cc) ∙ (ap (λ (b : Bool). option_map (closed_if b ClosedByFinaliser) (slice_get xs k)) (sym e) ∙ (sym (settled k) ∙ is)))

-- what one more resource is
pub pushed : (xs : List Resource) (x y : Resource) (k : ℕ) → slice_get (xs ++ x ∷ []) k ≡ Some y → (slice_get xs k ≡ Some y) ⊎ ((k ≡ length xs) × (x ≡ y))
pushed [] x y zero is = inr (refl, some_same is)
  where
    some_same : Some x ≡ Some y → x ≡ y
    some_same e = cc
pushed [] x y (suc k) is = cc
pushed (z ∷ xs) x y zero is = inl is
pushed (z ∷ xs) x y (suc k) is = ⊎_elim (λ left. inl left) (λ right. inr (ap suc right.0, right.1)) (pushed xs x y k is)
