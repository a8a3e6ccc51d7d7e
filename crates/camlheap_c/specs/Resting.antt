-- What the exports on beds leave.
use Rattle.std.specs.Prelude.{◌≡◌, ℕ, ◌+◌, ◌<◌, true, false, Some, None}
use Rattle.run_seats.specs.Beds.Bedding.{BedView, IsSameBed, MakesNone, plain_bed}
use Rattle.run_seats.specs.declared.beds.bed.NoBed.{NoBed}
use Rattle.run_seats.specs.declared.beds.bed.NoBed.TheVariants.{NotFirst, Full, Memory}
use Rattle.run_seats.specs.declared.shared.bed.NotRested.{NotRested}
use Rattle.run_seats.specs.declared.shared.bed.NotRested.TheVariants.{Refused, Taken, Blocked}
use Rattle.run_seats.specs.Shared.Idling.{IsKeptOut}
use Rattle.run_seats.specs.Shared.Leaving.{IsLeftAs, RestsOn}
use Rattle.run_seats.specs.Shared.Sharing.{MayClose, SharedView}
use Rattle.camlheap_c.specs.declared.bed.CamlheapBed.{CamlheapBed}
use Rattle.camlheap_c.specs.declared.handle.CamlheapDomain.{CamlheapDomain}
use Rattle.camlheap_c.specs.Forms.{refused_form}

-- why a domain isn't put to rest, as a number
abbrev pub unrested_form : NotRested → ℕ
unrested_form (Refused why) = refused_form why
unrested_form Taken = 28
unrested_form Blocked = 1

-- why there is no further bed, as a number
abbrev pub no_bed_form : NoBed → ℕ
no_bed_form NotFirst = 19
no_bed_form Full = 26
no_bed_form Memory = 24

-- the first bed of a room of its own
abbrev pub first_bed : BedView SharedView
first_bed = record { rests = None; makes = true; beds = 1; keeps = false; lost = false }

-- a handle holds a domain, and another a bed
abbrev pub AreFull : CamlheapDomain → CamlheapBed → Type 0
AreFull domain bed = (bed.full ≡ true) × (domain.full ≡ true)

-- a handle is as it was: it holds the same domain, or none
pub record HoldsSame (old new : CamlheapDomain) : Type 0 where
  pub full : new.full ≡ old.full
  pub value : old.full ≡ true → new.value ≡ old.value

-- a domain was put to rest: it might be, nothing rested in the bed, and the bed has it in place of the handle
pub record Rests (domain after : CamlheapDomain) (bed left : CamlheapBed) : Type 0 where
  pub may : MayClose domain.value
  pub was_free : bed.value.rests ≡ None
  pub gone : after.full ≡ false
  pub rests : left.value ≡ record bed.value { rests = Some domain.value; keeps = false }

-- why it wasn't, as a number
abbrev pub KeptOut : SharedView → BedView SharedView → ℕ → Type 0
KeptOut s b told = (why : NotRested) × ((told ≡ unrested_form why) × IsKeptOut b s why)

-- a domain was taken back: it follows the one that was put to rest, and the bed is free
pub record Resumes (after : CamlheapDomain) (bed left : CamlheapBed) : Type 0 where
  pub rested : SharedView
  pub was : bed.value.rests ≡ Some rested
  pub full : after.full ≡ true
  pub on : RestsOn rested after.value
  pub free : left.value ≡ record bed.value { rests = None; keeps = false }

-- a bed's handle is as it was, but for whether the bed keeps a domain of another
pub record HoldsSameBed (old new : CamlheapBed) : Type 0 where
  pub full : new.full ≡ old.full
  pub value : old.full ≡ true → IsSameBed old.value new.value

-- a domain has left: nothing rested in the bed, which has it in place of the handle, closed where it could be
pub record Leaves (domain after : CamlheapDomain) (bed left : CamlheapBed) : Type 0 where
  pub was_free : bed.value.rests ≡ None
  pub gone : after.full ≡ false
  pub shut : SharedView
  pub shuts : IsLeftAs domain.value shut
  pub rests : left.value ≡ record bed.value { rests = Some shut; keeps = false }

-- a handle holds the domain that it held, closed where it could be
pub record Shuts (old new : CamlheapDomain) : Type 0 where
  pub was_full : old.full ≡ true
  pub full : new.full ≡ true
  pub value : IsLeftAs old.value new.value

-- a further bed of a room was made
pub record MakesBed (first after : CamlheapBed) (bed : CamlheapBed) : Type 0 where
  pub makes : first.value.makes ≡ true
  pub few : first.value.beds < 64
  pub full : bed.full ≡ true
  pub plain : bed.value ≡ plain_bed
  pub more : after.value ≡ record first.value { beds = first.value.beds + 1 }

-- why none was made, as a number
abbrev pub NoneMade : BedView SharedView → ℕ → Type 0
NoneMade b told = (why : NoBed) × ((told ≡ no_bed_form why) × MakesNone b why)
