-- What faults of a source or a sink say of a judge's answer.
use Rattle.std.specs.Prelude.{◌≡◌, ℕ, ◌<◌, ◌≤◌}
use Rattle.text_ends.specs.Faults.{Rose}

-- the count of faults never falls; this answer comes only where it rose; and one that came decides the answer, so none is tried again
pub record FaultDecides {J : Type 0} (judged fault : J) (before now : ℕ) : Type 0 where
  pub counted : before ≤ now
  pub rose : judged ≡ fault → Rose before now
  pub failed : before < now → judged ≡ fault
