-- The runs of one heap that one thread drives, and which histories they may share.
use Rattle.std.specs.Prelude.{◌≡◌, ◌≢◌, ◌⊎◌, ◌<◌, ◌≤◌, ◌%◌, ◌==◌, if◌then◌else◌, ℕ, Bool, true, false, List, [], ◌∷◌, ◌++◌, drop, length, map, Option, Some, None}
use Rattle.model_core.specs.declared.command.Command.{Command}
use Rattle.model_core.specs.declared.entry.Entry.{Entry}
use Rattle.model_core.specs.Fronts.{AreNotControls, NoneOf}
use Rattle.model_core.specs.History.{Legal}
use Rattle.heap_rule.specs.declared.phase.Kind.{Kind}
use Rattle.heap_rule.specs.declared.phase.Kind.TheVariants.{Run, Answer}
use Rattle.heap_rule.specs.Limits.{sizes_in}
use Rattle.heap_rule.specs.Phases.{IsOdd}
use Rattle.heap_rule.specs.Meeting.{Trails}
use Rattle.heap_rule.specs.Token.{SharedHeap, IsIn, Token}
use Rattle.run_turns.specs.declared.supply.Supply.TheVariants.{Listed}
pub use Rattle.run_turns.specs.Meeting.{HasRun}
use Rattle.run_turns.specs.Runs.{RunView, IsRun, is_asked, served_since}
use Rattle.run_replay.specs.Asking.{AsksOnce, HasAmple, commands_at}
use Rattle.run_replay.specs.Served.{AllTied, Serves}
use Rattle.run_replay.specs.Walk.{IsWalk}
use Rattle.text_script.specs.Schedule.Drive.Together.{AllRuns, OneRun, Lead, Rests, Leads, Answers, LeadStep, IsAnswered, IsntAnswered}

-- the runs, each at the place of its domain, and whether a complete collection is made in the pause that domain 0 leads
pub record GatheredView : Type 0 where
  pub heap : SharedHeap
  pub runs : List (Option RunView)
  pub complete : Bool

-- whether a domain hasn't arrived
abbrev pub is_running : Option Kind → Bool
is_running None = true
is_running (Some kind) = false

-- whether a run has asked for a pause for its next command, where one is left
abbrev pub asked_for : List Command → Option ℕ → Bool
asked_for [] asked = false
asked_for (c ∷ cs) asked = is_asked asked

-- and whether one has begun since then
abbrev pub paused_for : List Command → Option ℕ → ℕ → Bool
paused_for [] asked arrivals = false
paused_for (c ∷ cs) asked arrivals = served_since asked arrivals

-- a run as a replay sees it
abbrev pub one_run : RunView → OneRun
one_run r = record { commands = r.commands; left = drop r.next r.commands; replies = r.replies; asked = asked_for (drop r.next r.commands) r.asked; paused = paused_for (drop r.next r.commands) r.asked r.token.view.own.arrivals; waiting = length r.token.view.own.finalisers.queue.items; runs = is_running r.left; ended = r.ended }

-- where none is there
abbrev pub run_at : Option RunView → OneRun
run_at None = record { commands = []; left = []; replies = []; asked = false; paused = false; waiting = 0; runs = true; ended = true }
run_at (Some r) = one_run r

-- whether a number is even
abbrev pub is_even : ℕ → Bool
is_even n = n % 2 == 0

-- how far domain 0 has led a pause, by the kind of the last even phase that it knows of: it leads none before it has arrived and once it has named that the domains run
abbrev pub lead_in : Bool → ℕ → Option Kind → Lead
lead_in complete arrivals None = Rests
lead_in complete arrivals (Some Answer) = Answers
lead_in complete arrivals (Some Run) = if is_even arrivals then Rests else Leads complete
lead_in complete arrivals (Some kind) = Leads complete

abbrev pub lead_of : Bool → RunView → Lead
lead_of complete r = lead_in complete r.token.view.own.arrivals r.left

-- by the first of the runs
abbrev pub lead_by : Bool → List (Option RunView) → Lead
lead_by complete (Some r ∷ rs) = lead_of complete r
lead_by complete _ = Rests

-- all of it
abbrev pub seen_in : GatheredView → AllRuns
seen_in g = record { sizes = sizes_in g.heap.config; runs = map run_at g.runs; lead = lead_by g.complete g.runs; complete = g.complete }

-- the domain at a place has arrived
abbrev pub GoneAt : List (Option RunView) → ℕ → Type 0
GoneAt runs d = (r : RunView) → HasRun runs d r → r.left ≢ None

-- a history that all may share: it is legal, and behind the front of each domain it has no entry of that domain, none of the collector while the domain runs, and behind domain 0's none by which a collection begins, goes on or ends
pub record MayShare (g : GatheredView) (h : List Entry) : Type 0 where
  pub legal : Legal (sizes_in g.heap.config) h
  pub trails : (d : ℕ) (r : RunView) → HasRun g.runs d r → Trails h r.token.view

-- domain 0's way through the pauses of a replay: no collection goes on beside running domains, none leaves garbage, and where it has arrived the walk goes on
pub record Walk (complete : Bool) (r : RunView) : Type 0 where
  pub armed : r.progress.armed ≡ false
  pub unswept : r.progress.unswept ≡ false
  pub on : (kind : Kind) → r.left ≡ Some kind → IsWalk complete kind r.progress

-- the run at the place d
pub record IsHeld (g : GatheredView) (d : ℕ) (r : RunView) : Type 0 where
  pub is : IsRun r
  pub here : IsIn r.token g.heap
  pub number : r.token.view.own.number ≡ d
  pub listed : r.supply ≡ Listed
  pub collected : r.collected ≡ false
  pub walk : d ≡ 0 → Walk g.complete r
  pub asks : AsksOnce r
  pub serves : Serves g.complete d r

-- there is room for so many domains and one more, and nobody is there
abbrev pub HasRoom : ℕ → List Token → ℕ → Type 0
HasRoom count here room = (here ≡ []) × (count < room)

-- where a domain runs again none that has arrived has done so more often, and where one has arrived and gone nowhere since none has arrived less often
pub record InStep (runs : List (Option RunView)) : Type 0 where
  pub behind : (d e : ℕ) (r s : RunView) → HasRun runs d r → HasRun runs e s → r.left ≡ None → s.left ≢ None → s.token.view.own.arrivals ≤ r.token.view.own.arrivals
  pub started : (d e : ℕ) (r s : RunView) → HasRun runs d r → HasRun runs e s → r.left ≡ Some Run → IsOdd r.token.view.own.arrivals → r.token.view.own.arrivals ≤ s.token.view.own.arrivals

-- what is always true of them: there is a run for each domain of the heap, and there are more pools than their commands use
pub record IsGathered (g : GatheredView) : Type 0 where
  pub count : length g.runs ≡ g.heap.config.domains
  pub filled : (d : ℕ) → d < length g.runs → (r : RunView) × HasRun g.runs d r
  pub held : (d : ℕ) (r : RunView) → HasRun g.runs d r → IsHeld g d r
  pub enough : HasAmple g.heap.config (map commands_at g.runs)
  pub in_step : InStep g.runs
  pub tied : AllTied g.complete g.runs

-- the front of domain d grew by these entries, and before and behind them by others that are no calls of the domain, and no controls where it leads
pub record Steps (d : ℕ) (old new own : List Entry) : Type 0 where
  pub before : List Entry
  pub after : List Entry
  pub others_before : NoneOf d before
  pub others_after : NoneOf d after
  pub led_before : d ≡ 0 → AreNotControls before
  pub led_after : d ≡ 0 → AreNotControls after
  pub appends : new ≡ old ++ (before ++ (own ++ after))

-- one step in a pause of domain d
pub record PassedBy (complete : Bool) (d : ℕ) (r s : RunView) : Type 0 where
  pub control : List Entry
  pub leads : d ≡ 0 → LeadStep (lead_of complete r) (lead_of complete s) control
  pub silent : d ≢ 0 → control ≡ []
  pub own : List Entry
  pub tells : IsAnswered d (one_run r) (one_run s) own ⊎ IsntAnswered (one_run r) (one_run s) own
  pub steps : Steps d r.token.view.seen.front s.token.view.seen.front (control ++ own)
  pub walk : d ≡ 0 → Walk complete s
