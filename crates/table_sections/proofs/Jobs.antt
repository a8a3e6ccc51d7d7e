-- Jobs and their results, one by one; lists that a loop gathers; and how much room a heap has at most.
use Rattle.std.proofs.Common.{◌≡◌, ℕ, suc, ◌≤◌, List, [], ◌∷◌, ◌++◌, length, map, Option, Some, None, Result, Ok, Err, IfOk, Vec, Global, vec_len, refl, ap, sym, ◌∙◌, subst, arith, rules}
use Rattle.std.specs.List.{AllZip}
use Rattle.std.specs.Fork.{GivesJobs}
use Rattle.std.specs.Fn.{FnReturns}
use denote.Param.Members.{Shared}
use Rattle.model_core.specs.Domains.{first_outside as outside_sizes}
use Rattle.heap_rule.specs.Limits.{first_of, first_outside, outside_rooms, sizes_in}
use Rattle.heap_rule.specs.declared.config.Config.{Config}

module _ {F J R : Type 0} (g : Shared F (J × Unit {0}) R) (f : F) where
  jobs_each : (Q : J → R → Type 0) → ((j : J) (r : R) → FnReturns g f (j, tt) r → Q j r) → (js : List J) (rs : List R) → length rs ≡ length js → GivesJobs g f js rs → AllZip Q js rs
  jobs_each Q each [] [] len gives = tt
  jobs_each Q each [] (r ∷ rs) len gives = absurd (omega (arith, len))
  jobs_each Q each (j ∷ js) [] len gives = absurd (omega (arith, len))
  jobs_each Q each (j ∷ js) (r ∷ rs) len gives =
      let first = (gives 0 r (omega arith)).1 in
      let same : j ≡ first.job = first.job_is j in (
        subst (λ (k : J). Q k r) (sym same) (each first.job r first.call),
        jobs_each Q each js rs (omega (arith, len)) (λ i d below.
            let x = (gives (suc i) d (omega (arith, below))).1 in (refl, record { job = x.job; job_read = x.job_read; job_is = x.job_is; call = x.call })),
      )

  -- what all jobs give, where each gives it
  pub jobs_all : {E : Type 0} (jobs : Vec J Global) (o : Result (Vec R Global) E) → IfOk o (λ v. vec_len v ≡ vec_len jobs) → IfOk o (λ v. GivesJobs g f jobs.items v.items) → (Q : J → R → Type 0) → ((j : J) (r : R) → FnReturns g f (j, tt) r → Q j r)
      → IfOk o (λ v. AllZip Q jobs.items v.items)
  jobs_all jobs (Ok v) len gives Q each = jobs_each Q each jobs.items v.items (sym v.ok.0 ∙ (len ∙ jobs.ok.0)) gives
  jobs_all jobs (Err e) len gives Q each = tt

module _ {X : Type 0} where
  pub nothing_left : (xs : List X) → length xs ≡ 0 → xs ≡ []
  nothing_left [] none = refl
  nothing_left (x ∷ xs) none = absurd (omega (arith, none))

  pub map_more : {Y : Type 0} (f : X → Y) (xs : List X) (x : X) (later : List Y) → map f (xs ++ x ∷ []) ++ later ≡ map f xs ++ f x ∷ later
  map_more f [] x later = refl
  map_more f (y ∷ ys) x later = ap (λ t. f y ∷ t) (map_more f ys x later)

second_none : (a b : Option ℕ) → first_of a b ≡ None → b ≡ None
second_none (Some n) b e = cc
second_none None b e = e

-- where no number is outside its limit, there is room for so many ephemerons at most
pub few_ephes : (k : Config) → first_outside k ≡ None → k.ephes ≤ 200000
few_ephes k fits = by (second_none (outside_sizes (sizes_in k)) (outside_rooms k) fits)
  where
    by : outside_rooms k ≡ None → k.ephes ≤ 200000
    by none = search rules
