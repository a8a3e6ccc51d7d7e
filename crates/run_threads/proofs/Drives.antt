-- The traces before and after, at their places.
use Rattle.std.proofs.Common.{◌≡◌, ℕ, List, get_or, Some, subst}
use Rattle.std.specs.Prelude.{slice_get, slice_index_or}
use Rattle.std.proofs.lemmas.Option.{slice_get-get_or, slice_get_within, get_or_from_slice_get}
use Rattle.run_threads.specs.Driven.{AllAre, AllFollow, Driven}

pub all_are : {T : Type 0} (is : T → Type 0) (traces : List T) → ((i : ℕ) (t : T) → slice_get traces i ≡ Some t → is t) → AllAre is traces
all_are is traces each k d few = each k (slice_index_or traces k d) (slice_get-get_or traces k d few)

-- what holds at each place holds of what is found there
found : {T : Type 0} (is : T → Type 0) (traces : List T) → AllAre is traces → (i : ℕ) (q : T) → slice_get traces i ≡ Some q → is q
found {T} is traces all i q at = subst (λ (x : T). is x) (get_or_from_slice_get traces i q q at) (all i q (slice_get_within traces i q at))

pub driven : {S T : Type 0} (shares : S → T → Type 0) (follows : T → T → Type 0) (is_over : T → Type 0) (shared : S) (old new : List T)
    → AllAre (shares shared) new → AllFollow follows old new → AllAre is_over new → Driven shares follows is_over shared old new
driven {S} {T} shares follows is_over shared old new here all over = record {
  count = all.0;
  here = found (shares shared) new here;
  further = λ i r q from to.
      subst (λ (x : T). follows x q) (get_or_from_slice_get old i r r from)
      (subst (λ (x : T). follows (get_or old i r) x) (get_or_from_slice_get new i q r to) (all.1 i r (slice_get_within old i r from)));
  over = found is_over new over;
}
