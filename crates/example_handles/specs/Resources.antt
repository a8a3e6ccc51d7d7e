-- Resources, by the numbers that they were opened with.
use Rattle.std.specs.Prelude.{◌≡◌, ℕ, Bool, true, false, ◌==◌, List, Option, Some, option_map, slice_get}
use Rattle.std.specs.List.{list_any}
use Rattle.model_core.specs.declared.reply.Reply.{Reply}
use Rattle.model_core.specs.declared.reply.Reply.TheVariants.{Last}
use Rattle.example_handles.specs.declared.resource.Resource.{Resource}
use Rattle.example_handles.specs.declared.resource.Resource.TheVariants.{Open, ClosedByFinaliser}

-- whether there is a resource, and it is open
abbrev pub is_open : Option Resource → Bool
is_open (Some Open) = true
is_open _ = false

-- a resource once it is asked to close: one that is closed stays as it is, so it is closed once
abbrev pub closed_if : Bool → Resource → Resource → Resource
closed_if true closed Open = closed
closed_if _ closed r = r

-- the resource with this number is closed so, if it was open, and each other one is as it was
abbrev pub Closes : List Resource → ℕ → Resource → List Resource → Type 0
Closes old number closed new = (k : ℕ) → slice_get new k ≡ option_map (closed_if (number == k) closed) (slice_get old k)

-- whether a reply is that of the finaliser with this number
abbrev pub is_last : ℕ → Reply → Bool
is_last k (Last number) = number == k
is_last k _ = false

-- whether the finaliser with this number is among these replies
abbrev pub names : List Reply → ℕ → Bool
names ran k = list_any (is_last k) ran

-- each open resource whose finaliser is among these replies is closed by it, and each other one is as it was
abbrev pub Settled : List Resource → List Reply → List Resource → Type 0
Settled old ran new = (k : ℕ) → slice_get new k ≡ option_map (closed_if (names ran k) ClosedByFinaliser) (slice_get old k)
