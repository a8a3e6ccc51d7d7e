-- What is shown of a domain.
use Rattle.std.specs.Prelude.{ℕ, ◌+◌, Bool, ◌&&◌, not, nat_lt, cond, List, [], ◌∷◌, length, flat_map, insert, remove, slice_get, slice_set, Option, Some, None}
use Rattle.model_core.specs.declared.command.Command.{Command}
use Rattle.model_core.specs.declared.reply.Reply.{Reply}
use Rattle.model_core.specs.declared.reply.Reply.TheVariants.{BadType}
use Rattle.judge_profiles.specs.declared.act.Act.{Act}
use Rattle.judge_profiles.specs.declared.act.Act.TheVariants.{Made, Ran}
use Rattle.judge_profiles.specs.declared.act.Change.{Change}
use Rattle.judge_profiles.specs.declared.act.Change.TheVariants.{Swap, Drop, Refuse}
use Rattle.judge_profiles.specs.declared.profile.Profile.{Profile}
use Rattle.judge_profiles.specs.Profiles.{may_swap, may_drop, lacks}

-- the commands of what a domain does, and the replies
abbrev pub commands_of : List Act → List Command
commands_of [] = []
commands_of (Made c r ∷ acts) = c ∷ commands_of acts
commands_of (Ran r ∷ acts) = commands_of acts

abbrev pub replies_of : List Act → List Reply
replies_of [] = []
replies_of (Made c r ∷ acts) = r ∷ replies_of acts
replies_of (Ran r ∷ acts) = r ∷ replies_of acts

-- two neighbours the other way round, where the profile allows it
abbrev pub swapped : Profile → List Act → ℕ → Option Act → Option Act → Option (List Act)
swapped p acts i (Some first) (Some second) = cond (may_swap p first second) (Some (slice_set (slice_set acts i second) (i + 1) first)) None
swapped p acts i _ _ = None

-- one left out
abbrev pub dropped : Profile → List Act → ℕ → Option Act → Option Act → Option (List Act)
dropped p acts i (Some act) behind = cond (may_drop p act behind) (Some (remove acts i)) None
dropped p acts i None behind = None

-- and one that is refused put in
abbrev pub refused : Profile → List Act → ℕ → Command → Option (List Act)
refused p acts i c = cond (lacks p c && not (nat_lt (length acts) i)) (Some (insert acts i (Made c BadType))) None

-- what is shown behind a change, where it is allowed
abbrev pub changed : Profile → List Act → Change → Option (List Act)
changed p acts (Swap i) = swapped p acts i (slice_get acts i) (slice_get acts (i + 1))
changed p acts (Drop i) = dropped p acts i (slice_get acts i) (slice_get acts (i + 1))
changed p acts (Refuse i c) = refused p acts i c

-- goes on behind a change that is allowed
abbrev pub on_changed : Option (List Act) → (List Act → Option (List Act)) → Option (List Act)
on_changed None more = None
on_changed (Some acts) more = more acts

-- behind several, one after the other
abbrev pub changed_all : Profile → List Act → List Change → Option (List Act)
changed_all p acts [] = Some acts
changed_all p acts (one ∷ more) = on_changed (changed p acts one) (λ behind. changed_all p behind more)

abbrev pub or_none : Option (List Act) → List Act
or_none None = []
or_none (Some acts) = acts

abbrev pub shown_of : Profile → List Act → List Change → List Act
shown_of p acts changes = or_none (changed_all p acts changes)
