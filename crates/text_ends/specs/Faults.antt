-- What a count of faults says of an answer.
use Rattle.std.specs.Prelude.{◌≡◌, ℕ, ◌+◌, ◌-◌, ◌^◌, ◌≤◌, min, Result, MatchResult}
use Rattle.std.specs.Result.{OnOk, OnErr}

-- the number after n, of a count that stops at its type's end
abbrev pub next_number : ℕ → ℕ
next_number n = min (n + 1) (2 ^ 64 - 1)

-- the count rose, or stands at the last value of its type
abbrev pub Rose : ℕ → ℕ → Type 0
Rose before now = next_number before ≤ now

-- a failure is answered only where the count rose, which never falls, and rises at failures alone
pub record HasCause {T E : Type 0} (before now : ℕ) (result : Result T E) : Type 0 where
  pub later : before ≤ now
  pub failed : OnErr result (Rose before now)
  pub calm : OnOk result (now ≡ before)

-- the count rises by one at a failure, and nowhere else
abbrev pub RisesAtErr : {T E : Type 0} → ℕ → ℕ → Result T E → Type 0
RisesAtErr before now result = MatchResult result (λ _. now ≡ before) (λ _. now ≡ next_number before)
