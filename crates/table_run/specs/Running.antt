-- A text of a table, run line by line: each line is a step of the machine, and the history has a prefix for it.
use Rattle.std.specs.Prelude.{◌≡◌, ℕ, ◌+◌, ◌≤◌, List, [], ◌∷◌, ◌++◌, length, Some, None}
use Rattle.model_core.specs.declared.label.Label.{Label}
use Rattle.model_core.specs.declared.entry.Entry.{Entry}
use Rattle.model_core.specs.declared.state.Sizes.{Sizes}
use Rattle.model_core.specs.Graph.{node_at}
use Rattle.model_core.specs.History.{IsPrefix}
use Rattle.weak_laws.specs.Tables.Performing.{refusals}
use Rattle.weak_laws.specs.Tables.Stages.{graph_of}
use Rattle.table_text.specs.declared.version.Version.{Version}
use Rattle.table_text.specs.declared.line.TableLine.{TableLine}
use Rattle.table_text.specs.declared.line.TableLine.TheVariants.{Count, Key, Put}
use Rattle.table_text.specs.declared.machine.reply.LineReply.{LineReply}
use Rattle.table_text.specs.declared.machine.reply.LineReply.TheVariants as reply
use Rattle.table_text.specs.Machine.Machine.{LineStep, TableState, MayGo, key_in, all_made, opened}
use Rattle.table_text.specs.Machine.Said.{full_in}
use Rattle.table_run.specs.Keepers.Keepers.{Shape, IsKeeper, kept_bindings}
use Rattle.table_run.specs.Standing.{Places, Shown, Stands}

-- the key that a line has made was the label of no block at this front, nor before, since no block ever goes
abbrev pub MakesNew : Sizes → List Entry → TableLine → LineReply → TableState → Type 0
MakesNew z old (Key r) a t = a ≡ reply.Done → (k : Label) × (key_in t r ≡ Some k) × (node_at (graph_of z old) k ≡ None)
MakesNew z old _ a t = Unit {0}

-- a count is the number of bindings at some prefix of the history on the way
pub record CountedBetween (version : Version) (z : Sizes) (p : Places) (old : List Entry) (a : LineReply) (new : List Entry) : Type 0 where
  pub shape : Shape version
  pub front : List Entry
  pub since : IsPrefix old front
  pub until : IsPrefix front new
  pub keeper : IsKeeper version shape z.domains (graph_of z front) p.keeper
  pub answers : a ≡ reply.Counted (length (kept_bindings version shape (graph_of z front) p.keeper))

abbrev pub WasCounted : Version → Sizes → Places → List Entry → TableLine → LineReply → List Entry → Type 0
WasCounted version z p old Count a new = CountedBetween version z p old a new
WasCounted version z p old _ a new = Unit {0}

-- a line, the last of these, from a state at one prefix of the history to a state at the next: a step of the machine, whose new key is new to the heap, and one command of the line was answered `full` exactly where the reply is
pub record LineRuns (version : Version) (z : Sizes) (p : Places) (lines : List TableLine) (l : TableLine) (s : TableState) (old : List Entry) (a : LineReply) (t : TableState) (new : List Entry) : Type 0 where
  pub step : LineStep version z lines l s a t
  pub fresh : MakesNew z old l a t
  pub counted : WasCounted version z p old l a new
  pub grows : IsPrefix old new
  pub shown : Shown version z p t new
  pub refused : refusals new ≡ refusals old + full_in a

-- all lines behind those before, from one state and prefix to another
abbrev pub LinesRun : Version → Sizes → Places → List TableLine → TableState → List Entry → List TableLine → List LineReply → TableState → List Entry → Type 0
LinesRun version z p before s old [] [] t new = (t ≡ s) × (new ≡ old)
LinesRun version z p before s old (l ∷ lines) (a ∷ replies) t new =
    (u : TableState) × (h : List Entry) × LineRuns version z p (before ++ l ∷ []) l s old a u h × LinesRun version z p (before ++ l ∷ []) u h lines replies t new
LinesRun version z p before s old _ _ t new = ⊥

-- a text was run from its first line to its last, in this history: the table or the map and the array were made before, without a command that was answered `full`, and both are empty then
pub record TextRuns (version : Version) (z : Sizes) (lines : List TableLine) (replies : List LineReply) (history : List Entry) : Type 0 where
  pub places : Places
  pub first : List Entry
  pub begins : Shown version z places opened first
  pub none : refusals first ≡ 0
  pub state : TableState
  pub last : List Entry
  pub lines_run : LinesRun version z places [] opened first lines replies state last
  pub within : IsPrefix last history

-- what a line leaves for the next one: a state of the machine at a prefix of the history, of which some bindings and slots may have gone since
pub record LineDone (version : Version) (z : Sizes) (p : Places) (lines : List TableLine) (l : TableLine) (s : TableState) (old : List Entry) (a : LineReply) (new : List Entry) : Type 0 where
  pub after : TableState
  pub front : List Entry
  pub runs : LineRuns version z p lines l s old a after front
  pub until : IsPrefix front new
  pub given : refusals new ≡ refusals front
  pub left : TableState
  pub goes : MayGo after left
  pub stands : Stands version z p left new

-- at most so many labels were given out: 18 before the first line, and those of the lines so far
abbrev pub HasGiven : Version → ℕ → List TableLine → Type 0
HasGiven version left before = 4294967295 ≤ left + 18 + all_made version before

-- what a line is answered and leaves, in whatever state of the machine it finds the heap
abbrev pub LineAnswers : Version → Sizes → ℕ → TableLine → List Entry → LineReply → List Entry → Type 0
LineAnswers version z labels l old a new =
    (p : Places) (s : TableState) (before : List TableLine) → Stands version z p s old → HasGiven version labels before → LineDone version z p (before ++ l ∷ []) l s old a new

-- for how many ephemerons a line needs room
abbrev pub rooms_of : TableLine → ℕ
rooms_of (Put r v) = 1
rooms_of _ = 0

abbrev pub all_rooms : List TableLine → ℕ
all_rooms [] = 0
all_rooms (l ∷ ls) = rooms_of l + all_rooms ls

-- the table or the map and the weak array were made, and nothing was refused
pub record Begins (version : Version) (z : Sizes) (h : List Entry) : Type 0 where
  pub places : Places
  pub stands : Stands version z places opened h
  pub none : refusals h ≡ 0

-- so many lines of a text were run, and the heap stands for what is left of the machine since
pub record RanTo (version : Version) (z : Sizes) (lines : List TableLine) (replies : List LineReply) (now : List Entry) : Type 0 where
  pub runs : TextRuns version z lines replies now
  pub given : refusals now ≡ refusals runs.last
  pub left : TableState
  pub goes : MayGo runs.state left
  pub stands : Stands version z runs.places left now
