-- The runs of a script's sections on one heap, from its start to its end.
use Rattle.std.specs.Prelude.{◌≡◌, ℕ, ◌<◌, ◌≤◌, max, Bool, true, false, List, [], ◌∷◌, length, flat_map, map, slice_get, slice_index_or, vec_capacity, Option, None, Some}
use Rattle.std.specs.List.{AllByRecursion}
use Rattle.model_core.specs.declared.command.Command.{Command}
use Rattle.model_core.specs.declared.state.Sizes.{Sizes}
use Rattle.model_core.specs.Domains.{class_count, first_outside}
use Rattle.model_core.specs.History.{Legal}
use Rattle.heap_rule.specs.declared.config.Config.{Config}
use Rattle.heap_rule.specs.Limits.{sizes_in}
use Rattle.heap_rule.specs.Opening.{opening_tokens}
use Rattle.heap_rule.specs.Token.{Token, SharedHeap, IsIn}
use Rattle.heap_rule.specs.Ending.{EndedHeap, AllBegin}
use Rattle.run_turns.specs.declared.supply.Supply.TheVariants.{Listed, Section}
use Rattle.run_turns.specs.Runs.{RunView, GoesOn, IsRun, CanBegin, CanBeginSection, first_place, standing, unturned}
use Rattle.run_threads.specs.Driven.{Driven}
use Rattle.text_script.specs.Spawning.{is_spawned}
use Rattle.do_spawn.specs.Opening.{IsOpened}
use Rattle.camlheap_run.specs.declared.write.report.Report.{Report}
use Rattle.camlheap_run.specs.Writing.{run_text}
use Rattle.gc_mark.specs.Decks.{DeckCounts, uncounted}
use Rattle.camlheap_run.specs.declared.run.begin.Begun.{Begun}

-- sizes that the words of a run may ask for
pub record AreRunSizes (z : Sizes) : Type 0 where
  pub limits : first_outside z ≡ None
  pub classes : z.classes ≡ class_count

-- the most that a section has of what is counted
abbrev pub most_of : (List Command → ℕ) → List (List Command) → ℕ
most_of count [] = 0
most_of count (cs ∷ sections) = max (count cs) (most_of count sections)

-- the commands of a domain: those of its section
abbrev pub section_of : List (List Command) → Token → List Command
section_of script t = slice_index_or script t.view.own.number []

-- a domain's deck of hints, before its first command
abbrev pub deck_of : Token → DeckCounts
deck_of t = uncounted t.view.own.number t.config.domains

-- a domain's run of commands, before the first
abbrev pub opened_with : Token → List Command → RunView
opened_with t commands = unturned t commands (deck_of t) Listed

-- the run of its section
abbrev pub opened : List (List Command) → Token → RunView
opened script t = opened_with t (section_of script t)

-- the runs of domains, each with the commands at its place
abbrev pub opened_each : List Token → List (List Command) → List RunView
opened_each (t ∷ ts) (cs ∷ sections) = opened_with t cs ∷ opened_each ts sections
opened_each _ _ = []

-- each of these domains may begin the commands at its place
abbrev pub MayBegin : List Token → List (List Command) → Type 0
MayBegin [] sections = Unit {0}
MayBegin (t ∷ ts) [] = ⊥
MayBegin (t ∷ ts) (cs ∷ sections) = CanBegin t cs × MayBegin ts sections

-- a heap of this size was started, with a run for each domain in order, and there is room for its domains when they come back
pub record IsBegun (k : Config) (script : List (List Command)) (b : Begun) : Type 0 where
  pub config : b.heap.config ≡ k
  pub some : 0 < k.domains
  pub runs : b.runs.items ≡ map (opened script) (opening_tokens b.heap.table k 0 k.domains)
  pub empty : b.room.items ≡ []
  pub room : k.domains ≤ vec_capacity b.room

-- no section has more commands than a script may have
abbrev pub AreShort : List (List Command) → Type 0
AreShort script = (d : ℕ) → length (slice_index_or script d []) ≤ 200000

-- a domain's run of its section of a script with spawns, before its first turn
abbrev pub sectioned_with : Token → List Command → Bool → RunView
sectioned_with t commands spawned = standing t commands (deck_of t) Section (first_place spawned)

-- the runs of domains, each of the section at its place, which a spawn begins where its number is marked
abbrev pub sectioned_each : List Bool → List Token → List (List Command) → List RunView
sectioned_each marks (t ∷ ts) (cs ∷ sections) = sectioned_with t cs (slice_index_or marks t.view.own.number false) ∷ sectioned_each marks ts sections
sectioned_each marks _ _ = []

-- each of these domains may begin the section at its place
abbrev pub MayBeginSections : List Token → List (List Command) → Type 0
MayBeginSections [] sections = Unit {0}
MayBeginSections (t ∷ ts) [] = ⊥
MayBeginSections (t ∷ ts) (cs ∷ sections) = CanBeginSection t cs × MayBeginSections ts sections

-- the run of a domain to which the hidden block was handed, before its first turn: that of its section, begun by a spawn where one names it
pub record BeginsSection (h : SharedHeap) (script : List (List Command)) (d : ℕ) (r : RunView) : Type 0 where
  pub token : Token
  pub opened : IsOpened h d token
  pub run : r ≡ sectioned_with token (slice_index_or script d []) (is_spawned script d)

-- a heap of this size was started, and the hidden block made; there is a run of its section for each domain in order, and room for the domains when they come back
pub record IsSectioned (k : Config) (script : List (List Command)) (b : Begun) : Type 0 where
  pub config : b.heap.config ≡ k
  pub some : 0 < k.domains
  pub count : length b.runs.items ≡ k.domains
  pub each : (d : ℕ) (r : RunView) → slice_get b.runs.items d ≡ Some r → BeginsSection b.heap script d r
  pub empty : b.room.items ≡ []
  pub room : k.domains ≤ vec_capacity b.room

-- the runs of a heap, driven to their ends
abbrev pub AreDriven : SharedHeap → List RunView → List RunView → Type 0
AreDriven h old new = Driven (λ (x : SharedHeap) (r : RunView). IsIn r.token x) GoesOn (λ (r : RunView). r.ended ≡ true) h old new

abbrev pub token_of : RunView → Token
token_of r = r.token

-- the run is one of the heap's
abbrev pub IsHere : SharedHeap → RunView → Type 0
IsHere h r = IsIn r.token h

-- its trace has ended
abbrev pub IsOver : RunView → Type 0
IsOver r = r.ended ≡ true

-- the heap has ended with these runs: its legal history begins with the front of each, and each has kept its replies
pub record IsPastOf (h : SharedHeap) (runs : List RunView) (past : EndedHeap) : Type 0 where
  pub sizes : past.sizes ≡ sizes_in h.config
  pub legal : Legal past.sizes past.history
  pub fronts : AllBegin past.history (map token_of runs)
  pub faithful : AllByRecursion IsRun runs

-- the runs of a heap were driven to their ends, what a report says of them was written, and the heap has ended
pub record DrivesToEnd (b : Begun) (report : Report) (ended : Option EndedHeap) (Wrote : List ℕ → Type 0) : Type 0 where
  pub new : List RunView
  pub past : EndedHeap
  pub is_past : Some past ≡ ended
  pub driven : AreDriven b.heap b.runs.items new
  pub over : IsPastOf b.heap new past
  pub written : Wrote (flat_map (run_text report) new)
