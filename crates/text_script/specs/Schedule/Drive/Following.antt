-- How the histories that the runs may share follow the scheduled one.
use Rattle.std.specs.Prelude.{◌≡◌, ◌≢◌, ◌≤◌, ◌+◌, ℕ, Bool, true, false, List, [], ◌∷◌, length, nat_lt, replicate, slice_index_or}
use Rattle.model_core.specs.declared.command.Command.{Command}
use Rattle.model_core.specs.declared.command.Command.TheVariants.{FullMajor}
use Rattle.model_core.specs.declared.entry.Entry.{Entry}
use Rattle.model_core.specs.declared.entry.Entry.TheVariants.{Ran}
use Rattle.model_core.specs.declared.state.Mode.TheVariants.{Open}
use Rattle.model_core.specs.declared.state.Sizes.{Sizes}
use Rattle.model_core.specs.Domains.{domain_at, opening}
use Rattle.model_core.specs.History.{Legal, replies, state_after}
use Rattle.model_traces.specs.declared.schedules.items.Item.{Item}
use Rattle.model_traces.specs.declared.schedules.items.Item.TheVariants.{Collect, Turn}
use Rattle.model_traces.specs.Schedules.Sameness.{IsSameBut}
use Rattle.model_traces.specs.Schedules.Scheduled.{Played, scheduled, take_turn, with_entries, with_next}
use Rattle.text_script.specs.Schedule.Drive.Together.{AllHave, AllRuns, Has, Unqueued}
use Rattle.text_script.specs.Schedule.Drive.Ending.{rank_at, turns_at}
use Rattle.text_script.specs.Schedule.Drive.Pausing.{AsksAlone, all_commands, askeds, lefts}

-- a history agrees with the scheduled one so far: no collection goes on, the states are the same but for garbage, and each domain has the same replies in both
pub record Agrees (z : Sizes) (p : Played) (h : List Entry) : Type 0 where
  pub legal : Legal z h
  pub mode : (state_after (opening z) h).mode ≡ Open
  pub same : IsSameBut (state_after (opening z) h) p.state
  pub replies : (d : ℕ) → replies z p.history d ≡ replies z h d
  pub state : state_after (opening z) p.history ≡ p.state

-- and the same commands are left
pub record Follows (v : AllRuns) (p : Played) (h : List Entry) : Type 0 where
  pub agrees : Agrees v.sizes p h
  pub left : lefts v ≡ p.left

-- each history that the runs may share does
abbrev pub AllFollow : AllRuns → (List Entry → Type 0) → Played → Type 0
AllFollow v shares p = (h : List Entry) → shares h → Follows v p h

-- whether an item is one for so many domains
abbrev pub is_for : ℕ → Item → Bool
is_for n (Turn d) = nat_lt d n
is_for n Collect = true

-- the state is that of the scheduled history
abbrev pub IsPlayed : Sizes → Played → Type 0
IsPlayed z p = state_after (opening z) p.history ≡ p.state

-- the rest of a turn of domain d, which hasn't ended
abbrev pub turn_rest : Played → ℕ → Played
turn_rest q d = with_next (with_entries q (replicate (length (domain_at q.state d).queue) (Ran d))) d

-- a history follows the scheduled one in the midst of a turn of domain d
pub record Midst (v : AllRuns) (p : Played) (d : ℕ) (h : List Entry) : Type 0 where
  pub here : Played
  pub follows : Follows v here h
  pub rest : turn_rest here d ≡ take_turn p d

abbrev pub AllMidst : AllRuns → (List Entry → Type 0) → Played → ℕ → Type 0
AllMidst v shares p d = (h : List Entry) → shares h → Midst v p d h

-- all domains run, and none has asked for a pause
pub record IsCalm (v : AllRuns) : Type 0 where
  pub run : AllHave (λ x. x.runs) true v
  pub none : (d : ℕ) → slice_index_or (askeds v) d false ≡ false

-- or that of domain d may have
pub record IsCalmBut (v : AllRuns) (d : ℕ) : Type 0 where
  pub run : AllHave (λ x. x.runs) true v
  pub alone : AsksAlone v d

-- the domain alone has asked for a pause, for its next command, which is a `full_major`, and no finaliser waits before it
pub record Waits (v : AllRuns) (shares : List Entry → Type 0) (d : ℕ) : Type 0 where
  pub asked : slice_index_or (askeds v) d false ≡ true
  pub others : List Command
  pub next : slice_index_or (lefts v) d [] ≡ FullMajor ∷ others
  pub unqueued : Unqueued v.sizes shares d

-- a turn of domain d goes on, until its next command or its end was made
pub record Advances (shares_old shares_new : List Entry → Type 0) (old new : AllRuns) (d : ℕ) (made : Bool) : Type 0 where
  pub sizes : new.sizes ≡ old.sizes
  pub count : length new.runs ≡ length old.runs
  pub commands : all_commands new ≡ all_commands old
  pub calm : IsCalmBut new d
  pub over : made ≡ true → IsCalm new
  pub goes_on : made ≡ false → Has (λ x. x.ended) false new d
  pub waits : made ≡ false → turns_at new d ≤ turns_at old d
  pub rank : made ≡ false → rank_at new d ≤ rank_at old d
  pub falls : made ≡ true → turns_at new d + 1 ≤ turns_at old d
  pub others : (e : ℕ) → e ≢ d → turns_at new e ≡ turns_at old e
  pub stays : (p : Played) → AllMidst old shares_old p d → made ≡ false → AllMidst new shares_new p d
  pub turns : (p : Played) → AllMidst old shares_old p d → made ≡ true → AllFollow new shares_new (take_turn p d)

-- all traces have ended, of a heap of the same numbers, with the same commands: each domain runs, and none waits for an answer
pub record AreOver (old new : AllRuns) : Type 0 where
  pub sizes : new.sizes ≡ old.sizes
  pub commands : all_commands new ≡ all_commands old
  pub calm : IsCalm new
  pub ended : AllHave (λ x. x.ended) true new

-- in each history that the runs may share now each domain has the replies that it has in the scheduled one
abbrev pub HaveScheduledReplies : AllRuns → (List Entry → Type 0) → List Item → Type 0
HaveScheduledReplies old shares items = (h : List Entry) → shares h → (d : ℕ) → replies old.sizes h d ≡ replies old.sizes (scheduled old.sizes (lefts old) items) d
