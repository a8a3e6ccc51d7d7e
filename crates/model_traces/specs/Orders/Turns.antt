-- Histories that are made turn by turn, and that a schedule makes them again.
use Rattle.std.specs.Prelude.{◌≡◌, ◌≢◌, ◌⊎◌, ℕ, ◌<◌, Bool, true, false, not, IsTrue, List, [], ◌∷◌, ◌++◌, flat_map, length, replicate, slice_index_or}
use Rattle.std.specs.List.{list_all}
use Rattle.model_core.specs.declared.command.Command as declared_command
use Rattle.model_core.specs.declared.command.Command.TheVariants.{FullMajor}
use Rattle.model_core.specs.declared.entry.Entry.{Entry}
use Rattle.model_core.specs.declared.entry.Entry.TheVariants.{Command, End, Ran}
use Rattle.model_core.specs.declared.state.Sizes.{Sizes}
use Rattle.model_core.specs.declared.state.State.{State}
use Rattle.model_core.specs.Domains.{domain_at, opening}
use Rattle.model_core.specs.History.{Legal, commands, replies, state_after}
use Rattle.model_traces.specs.declared.schedules.items.Item.{Item}
use Rattle.model_traces.specs.declared.schedules.items.Item.TheVariants.{Turn, Collect}
use Rattle.model_traces.specs.Schedules.Sameness.{IsCollection}
use Rattle.model_traces.specs.Schedules.Scheduled.{all_ended, scheduled}
use Rattle.model_traces.specs.Scheduled.Runs.{EndsIn}

-- domain d runs all finalisers of its queue
abbrev pub runs_queue : State → ℕ → List Entry
runs_queue s d = replicate (length (domain_at s d).queue) (Ran d)

-- what domain d makes in its turn: its end, a command that isn't `full_major` and isn't answered `full`, or a `full_major` in a complete collection of its own, whatever its entries
abbrev pub IsOwnTurn : ℕ → List Entry → Type 0
IsOwnTurn d own =
    (own ≡ End d ∷ []) ⊎ (((c : declared_command.Command) × (c ≢ FullMajor) × (own ≡ Command d c false ∷ [])) ⊎ IsCollection own (Command d FullMajor false ∷ []))

-- the entries are made in these turns: in each a domain runs its queue and then makes one thing, and between turns there may be complete collections, while a domain runs
abbrev pub IsMadeIn : State → List Item → List Entry → Type 0
IsMadeIn s [] h = h ≡ []
IsMadeIn s (Turn d ∷ items) h = (own : List Entry) × (rest : List Entry) × (h ≡ runs_queue s d ++ (own ++ rest)) × IsOwnTurn d own × IsMadeIn (state_after s (runs_queue s d ++ own)) items rest
IsMadeIn s (Collect ∷ items) h = (c : List Entry) × (rest : List Entry) × (h ≡ c ++ rest) × IsCollection c [] × (all_ended s ≡ false) × IsMadeIn (state_after s c) items rest

-- in the history each domain makes the commands of its section, each once and in order, and ends
pub record IsScriptMade (z : Sizes) (script : List (List declared_command.Command)) (h : List Entry) : Type 0 where
  pub legal : Legal z h
  pub commands_are : (d : ℕ) → d < z.domains → commands h d ≡ slice_index_or script d []
  pub ends : (d : ℕ) → d < z.domains → EndsIn d h

-- the scheduled history of these turns has the replies of the history that they make
abbrev pub TurnsAreScheduled : Type 0
TurnsAreScheduled = (z : Sizes) (script : List (List declared_command.Command)) (items : List Item) (h : List Entry) → IsScriptMade z script h → IsMadeIn (opening z) items h
    → (d : ℕ) → replies z (scheduled z script items) d ≡ replies z h d

-- whether an entry is a call that needs no collection: a command that isn't `full_major` and isn't answered `full`, or an end
abbrev pub is_call : Entry → Bool
is_call (Command d FullMajor full) = false
is_call (Command d c full) = not full
is_call (End d) = true
is_call _ = false

-- the turns of a history of calls, in order
abbrev pub turn_of : Entry → List Item
turn_of (Command d c full) = Turn d ∷ []
turn_of (End d) = Turn d ∷ []
turn_of _ = []

abbrev pub turns_of : List Entry → List Item
turns_of h = flat_map turn_of h

-- so however the calls of the domains come between one another, the schedule of their turns has the same replies
abbrev pub EachInterleavingIsScheduled : Type 0
EachInterleavingIsScheduled = (z : Sizes) (script : List (List declared_command.Command)) (h : List Entry) → IsScriptMade z script h → IsTrue (list_all is_call h)
    → (d : ℕ) → replies z (scheduled z script (turns_of h)) d ≡ replies z h d
