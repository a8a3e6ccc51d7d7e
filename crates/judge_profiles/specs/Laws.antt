-- The laws of profiles.
use Rattle.std.specs.Prelude.{◌≡◌, ℕ, List, Some}
use Rattle.model_core.specs.declared.command.Command.{Command}
use Rattle.model_core.specs.declared.entry.Entry.{Entry}
use Rattle.model_core.specs.declared.state.Sizes.{Sizes}
use Rattle.model_core.specs.History.{Legal}
use Rattle.judge_plain.specs.History.Explains.{Explains}
use Rattle.judge_profiles.specs.declared.act.Act.{Act}
use Rattle.judge_profiles.specs.declared.act.Change.{Change}
use Rattle.judge_profiles.specs.declared.profile.Profile.{Profile}
use Rattle.judge_profiles.specs.declared.profile.Profile.TheVariants.{Strict}
use Rattle.judge_profiles.specs.Explains.{ExplainsUnder}
use Rattle.judge_profiles.specs.Shown.{changed_all}

-- what a history explains, it explains under each profile
abbrev pub WeakerLaw : Type 0
WeakerLaw = (p : Profile) (z : Sizes) (sections : List (List Command)) (bytes : List ℕ) (h : List Entry) → Explains z sections bytes h → ExplainsUnder p z sections bytes

-- under the strict profile what is shown is what is done
abbrev pub StrictLaw : Type 0
StrictLaw = (acts shown : List Act) (changes : List Change) → changed_all Strict acts changes ≡ Some shown → shown ≡ acts

-- each output that is explained was read from a legal history
abbrev pub ReadingLaw : Type 0
ReadingLaw = (p : Profile) (z : Sizes) (sections : List (List Command)) (bytes : List ℕ) → (e : ExplainsUnder p z sections bytes) → Legal z e.history
