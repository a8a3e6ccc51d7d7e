-- The runs of one heap, which share its history, and what each call on them tells.
use Rattle.std.specs.Prelude.{◌≡◌, ◌≢◌, ◌⊎◌, ◌<◌, ℕ, Bool, true, false, not, ◌||◌, List, [], ◌∷◌, ◌++◌, length, map, slice_get, slice_set, Some}
use Rattle.std.specs.List.{list_all}
use Rattle.model_core.specs.declared.command.Command.{Command}
use Rattle.model_core.specs.declared.command.Command.TheVariants.{FullMajor}
use Rattle.model_core.specs.declared.entry.Entry.{Entry}
use Rattle.model_core.specs.declared.entry.Entry.TheVariants.{Command as CommandOf, End, Cut, Seal, Collected, Done as DoneEntry, Ran as RanOf}
use Rattle.model_core.specs.declared.reply.Reply.{Reply}
use Rattle.model_core.specs.declared.state.Sizes.{Sizes}
use Rattle.model_core.specs.Domains.{IsWithinLimits, domain_at, opening}
use Rattle.model_core.specs.Fronts.{is_call, is_control}
use Rattle.model_core.specs.History.{state_after, Legal, replies}
use Rattle.text_script.specs.declared.schedule.drive.together.Stepped.{Stepped}
use Rattle.text_script.specs.declared.schedule.drive.together.Stepped.TheVariants.{Ran, Made, Needs}

-- how far domain 0 has led a pause: it leads none, it leads one in which a complete collection is made or isn't, or the collection is answered
pub data Lead : Type 0 where
  Rests : Lead
  Leads : Bool → Lead
  Answers : Lead

-- One run: all its commands, those that are left, the replies so far, whether it has asked for a pause for its next command, whether one has begun since then, how many finalisers wait in its domain's queue, whether its domain runs and hasn't arrived, and whether its trace has ended
pub record OneRun : Type 0 where
  pub commands : List Command
  pub left : List Command
  pub replies : List Reply
  pub asked : Bool
  pub paused : Bool
  pub waiting : ℕ
  pub runs : Bool
  pub ended : Bool

-- the runs of one heap: that of domain d has the place d. In the last pause a complete collection is made or isn't
pub record AllRuns : Type 0 where
  pub sizes : Sizes
  pub runs : List OneRun
  pub lead : Lead
  pub complete : Bool

-- what is true of them in each history that they may share
pub record IsShared (v : AllRuns) (h : List Entry) : Type 0 where
  pub legal : Legal v.sizes h
  pub replies : (d : ℕ) (x : OneRun) → slice_get v.runs d ≡ Some x → x.replies ≡ replies v.sizes h d
  pub ended : (d : ℕ) (x : OneRun) → slice_get v.runs d ≡ Some x → x.ended ≡ (domain_at (state_after (opening v.sizes) h) d).ended

-- and what is true of them besides
pub record Stands (v : AllRuns) : Type 0 where
  pub limits : IsWithinLimits v.sizes
  pub count : length v.runs ≡ v.sizes.domains
  pub rests : (x : OneRun) → slice_get v.runs 0 ≡ Some x → x.runs ≡ true → v.lead ≡ Rests
  pub few : (d : ℕ) (x : OneRun) → slice_get v.runs d ≡ Some x → x.waiting < 4294967296

-- what the run at a place has of this kind
abbrev pub Has : (OneRun → Bool) → Bool → AllRuns → ℕ → Type 0
Has kind is v d = (x : OneRun) → slice_get v.runs d ≡ Some x → kind x ≡ is

-- some domain has arrived
abbrev pub SomeGone : AllRuns → Type 0
SomeGone v = (d : ℕ) × (d < length v.runs) × Has (λ x. x.runs) false v d

-- and what each run has
abbrev pub AllHave : (OneRun → Bool) → Bool → AllRuns → Type 0
AllHave kind is v = (d : ℕ) → Has kind is v d

-- an entry that no domain makes, and by which no collection begins, goes on or ends
abbrev pub is_quiet : Entry → Bool
is_quiet e = not (is_call e || is_control e)

-- the history grew by these entries, and before and behind them by quiet ones
pub record Grows (old own new : List Entry) : Type 0 where
  pub before : List Entry
  pub after : List Entry
  pub quiet_before : list_all is_quiet before ≡ true
  pub quiet_after : list_all is_quiet after ≡ true
  pub appends : new ≡ old ++ before ++ own ++ after

-- each history that the runs may share now is one that they may have shared before, which grew by these entries
abbrev pub SharesOn : (List Entry → Type 0) → (List Entry → Type 0) → List Entry → Type 0
SharesOn old new own = (g : List Entry) → new g → (h : List Entry) × old h × Grows h own g

-- no finaliser waits in the queue of domain d in a history that they may share
abbrev pub Unqueued : Sizes → (List Entry → Type 0) → ℕ → Type 0
Unqueued z shares d = (g : List Entry) → shares g → (domain_at (state_after (opening z) g) d).queue ≡ []

-- the next command was made, which isn't a `full_major`. It wasn't answered `full`
pub record MakesNext (d : ℕ) (x y : OneRun) (own : List Entry) : Type 0 where
  pub command : Command
  pub others : List Command
  pub next : x.left ≡ command ∷ others
  pub short : command ≢ FullMajor
  pub made : own ≡ CommandOf d command false ∷ []
  pub run : y ≡ record x { left = others; replies = y.replies; asked = false; paused = false; waiting = y.waiting }

-- the end of the trace was made
pub record MakesEnd (d : ℕ) (x y : OneRun) (own : List Entry) : Type 0 where
  pub none : x.left ≡ []
  pub made : own ≡ End d ∷ []
  pub run : y ≡ record x { asked = false; paused = false; waiting = y.waiting; ended = true }

-- the next command is a `full_major`, and no finaliser waits before it
pub record AsksComplete (z : Sizes) (shares : List Entry → Type 0) (d : ℕ) (x y : OneRun) (own : List Entry) : Type 0 where
  pub others : List Command
  pub next : x.left ≡ FullMajor ∷ others
  pub unqueued : Unqueued z shares d
  pub made : own ≡ []
  pub run : y ≡ record x { asked = true; paused = false; waiting = y.waiting }

-- no pause is left to come for which the run has asked
abbrev pub IsRested : OneRun → Type 0
IsRested x = x.asked ≡ true → x.paused ≡ true

-- what a turn of run d tells, by what it came to. Each finaliser that waits runs once. Once a pause for which it asked has come, no command asks for another one without a complete collection, and a `full_major` asks for none of these
abbrev pub TurnTells : Sizes → (List Entry → Type 0) → ℕ → OneRun → OneRun → List Entry → Stepped → Type 0
TurnTells z shares d x y own Ran = (own ≡ RanOf d ∷ []) × (y ≡ record x { replies = y.replies; waiting = y.waiting }) × (y.waiting < x.waiting)
TurnTells z shares d x y own Made = MakesNext d x y own ⊎ MakesEnd d x y own
TurnTells z shares d x y own (Needs true) = AsksComplete z shares d x y own
TurnTells z shares d x y own (Needs false) = (own ≡ []) × (y ≡ record x { asked = true; paused = false; waiting = y.waiting }) × (IsRested x → x.asked ≡ false) × ((others : List Command) → x.left ≡ FullMajor ∷ others → ⊥)

-- a turn of run d: nothing else changes
pub record Turned (shares_old shares_new : List Entry → Type 0) (old new : AllRuns) (d : ℕ) (stepped : Stepped) : Type 0 where
  pub run : OneRun
  pub was : slice_get old.runs d ≡ Some run
  pub becomes : OneRun
  pub own : List Entry
  pub on : SharesOn shares_old shares_new own
  pub tells : TurnTells old.sizes shares_new d run becomes own stepped
  pub view : new ≡ record old { runs = slice_set old.runs d becomes }

-- a run whose domain has arrived
abbrev pub halted : OneRun → OneRun
halted x = record x { runs = false; paused = x.asked }

-- all domains have arrived, and domain 0 leads a pause in which a complete collection is made or isn't
abbrev pub all_halted : Bool → AllRuns → AllRuns
all_halted complete v = record v { runs = map halted v.runs; lead = Leads complete; complete = complete }

-- which control entry domain 0 makes as it leads on
abbrev pub LeadStep : Lead → Lead → List Entry → Type 0
LeadStep Rests Rests control = control ≡ []
LeadStep (Leads false) (Leads false) control = control ≡ []
LeadStep (Leads false) Rests control = control ≡ []
LeadStep (Leads true) (Leads true) control = (control ≡ []) ⊎ ((control ≡ Cut ∷ []) ⊎ (control ≡ Seal ∷ []))
LeadStep (Leads true) Answers control = control ≡ Collected ∷ []
LeadStep Answers Answers control = control ≡ []
LeadStep Answers Rests control = control ≡ DoneEntry ∷ []
LeadStep _ _ control = ⊥

-- and which a domain makes
abbrev pub Controls : ℕ → Lead → Lead → List Entry → Type 0
Controls d old new control = ((d ≡ 0) × LeadStep old new control) ⊎ ((d ≢ 0) × (new ≡ old) × (control ≡ []))

-- its `full_major` was answered, for which it had asked
pub record IsAnswered (d : ℕ) (x y : OneRun) (own : List Entry) : Type 0 where
  pub others : List Command
  pub next : x.left ≡ FullMajor ∷ others
  pub asked : x.asked ≡ true
  pub made : own ≡ CommandOf d FullMajor false ∷ []
  pub run : y ≡ record x { left = others; replies = y.replies; asked = false; paused = false; waiting = y.waiting }

-- or none was
pub record IsntAnswered (x y : OneRun) (own : List Entry) : Type 0 where
  pub made : own ≡ []
  pub run : y ≡ record x { runs = y.runs; waiting = y.waiting }

-- it waits for no answer of a `full_major`
abbrev pub IsServed : OneRun → Type 0
IsServed x = (others : List Command) → x.left ≡ FullMajor ∷ others → x.asked ≡ false

-- a step of domain d, which has arrived, in the pause: nothing else changes. Where a complete collection was made it comes back only once its `full_major` is answered
pub record Passed (shares_old shares_new : List Entry → Type 0) (old new : AllRuns) (d : ℕ) : Type 0 where
  pub run : OneRun
  pub was : slice_get old.runs d ≡ Some run
  pub becomes : OneRun
  pub control : List Entry
  pub controls : Controls d old.lead new.lead control
  pub own : List Entry
  pub tells : IsAnswered d run becomes own ⊎ IsntAnswered run becomes own
  pub on : SharesOn shares_old shares_new (control ++ own)
  pub served : old.complete ≡ true → becomes.runs ≡ true → IsServed becomes
  pub view : new ≡ record old { runs = slice_set old.runs d becomes; lead = new.lead }

-- of some domain
abbrev pub PassedSome : (List Entry → Type 0) → (List Entry → Type 0) → AllRuns → AllRuns → Type 0
PassedSome shares_old shares_new old new = (d : ℕ) × Passed shares_old shares_new old new d
