-- Phases: how the words, the domains' arrivals and where each domain stands belong together.
use Rattle.std.specs.Prelude.{◌≡◌, ◌≢◌, ℕ, zero, suc, ◌+◌, ◌*◌, ◌<◌, ◌≤◌, ◌⊎◌, Bool, true, false, List, [], ◌∷◌, Option, Some, None}
use Rattle.model_core.specs.declared.entry.Entry.{Entry}
use Rattle.model_core.specs.declared.state.State as model
use Rattle.model_core.specs.Domains.{domain_at}
use Rattle.model_core.specs.Fronts.{AreCalls, unseen}
use Rattle.heap_rule.specs.declared.config.Config.{Config}
use Rattle.heap_rule.specs.declared.view.DomainView.{DomainView}
use Rattle.heap_rule.specs.declared.phase.Kind.{Kind}
use Rattle.heap_rule.specs.declared.phase.Kind.TheVariants.{Run, Promote, Reset, Roots, Mark, Rounds, Decide, Queued, Clean, Lasts, Sweep, Answer}
use Rattle.heap_rule.specs.declared.phase.Note.{Note}
use Rattle.heap_rule.specs.declared.phase.Note.TheVariants.{Cleared, SetBack}
use Rattle.heap_rule.specs.declared.phase.Stage.{Stage}
use Rattle.heap_rule.specs.declared.phase.Stage.TheVariants.{In, Leads, Led, Gone}
use Rattle.heap_rule.specs.Layout.{barrier, plan, want, ended_word}

-- the plan word of a kind
abbrev pub code : Kind → ℕ
code Run = 0
code Promote = 1
code Reset = 2
code Roots = 3
code Mark = 4
code Rounds = 5
code Decide = 6
code Queued = 7
code Clean = 8
code Lasts = 9
code Sweep = 10
code Answer = 11

-- the kind of a plan word
abbrev pub kind_at : ℕ → Kind
kind_at zero = Run
kind_at (suc zero) = Promote
kind_at (suc (suc zero)) = Reset
kind_at (suc (suc (suc zero))) = Roots
kind_at (suc (suc (suc (suc zero)))) = Mark
kind_at (suc (suc (suc (suc (suc zero))))) = Rounds
kind_at (suc (suc (suc (suc (suc (suc zero)))))) = Decide
kind_at (suc (suc (suc (suc (suc (suc (suc zero))))))) = Queued
kind_at (suc (suc (suc (suc (suc (suc (suc (suc zero)))))))) = Clean
kind_at (suc (suc (suc (suc (suc (suc (suc (suc (suc zero))))))))) = Lasts
kind_at (suc (suc (suc (suc (suc (suc (suc (suc (suc (suc zero)))))))))) = Sweep
kind_at (suc (suc (suc (suc (suc (suc (suc (suc (suc (suc (suc n))))))))))) = Answer

-- which kind may come after which. A cycle goes on beside running domains from Roots to Run, and is finished from Reset to Mark. Its garbage is freed in the pause, or beside running domains; what is left then is freed from Reset to Sweep before another one begins
abbrev pub Follows : Kind → Kind → Type 0
Follows Run next = next ≡ Promote
Follows Promote next = next ≡ Reset
Follows Reset next = (next ≡ Run) ⊎ ((next ≡ Roots) ⊎ ((next ≡ Mark) ⊎ (next ≡ Sweep)))
Follows Roots next = (next ≡ Mark) ⊎ (next ≡ Run)
Follows Mark next = (next ≡ Mark) ⊎ (next ≡ Rounds)
Follows Rounds next = (next ≡ Mark) ⊎ ((next ≡ Decide) ⊎ (next ≡ Clean))
Follows Decide next = next ≡ Queued
Follows Queued next = (next ≡ Mark) ⊎ (next ≡ Clean)
Follows Clean next = next ≡ Lasts
Follows Lasts next = (next ≡ Sweep) ⊎ (next ≡ Run)
Follows Sweep next = (next ≡ Run) ⊎ ((next ≡ Answer) ⊎ (next ≡ Roots))
Follows Answer next = next ≡ Run

-- what n domains have together
abbrev pub sum_of : (ℕ → ℕ) → ℕ → ℕ
sum_of f zero = 0
sum_of f (suc n) = sum_of f n + f n

abbrev pub IsEven : ℕ → Type 0
IsEven n = (j : ℕ) × (n ≡ j * 2)

abbrev pub IsOdd : ℕ → Type 0
IsOdd n = (j : ℕ) × (n ≡ j * 2 + 1)

-- how the pauses stand: how often each domain has arrived, the number of the phase, the kind of each even phase by half its number, and whether in an odd phase the next kind is named
pub record Pause : Type 0 where
  pub arrived : ℕ → ℕ
  pub phase : ℕ
  pub kinds : ℕ → Kind
  pub led : Bool

-- the barrier word is the sum of all arrivals, each domain has arrived as often as the phase's number or once more, and the plan word is the kind, which follows the one before
pub record Phases (k : Config) (t : Pause) (words : List ℕ) : Type 0 where
  pub sum : barrier words ≡ sum_of t.arrived k.domains
  pub begun : t.phase * k.domains ≤ barrier words
  pub unfinished : barrier words < (t.phase + 1) * k.domains
  pub each : (d : ℕ) → d < k.domains → (t.phase ≤ t.arrived d) × (t.arrived d ≤ t.phase + 1)
  pub even_plan : (j : ℕ) → t.phase ≡ j * 2 → plan words ≡ code (t.kinds j)
  pub next_plan : (j : ℕ) → t.phase ≡ j * 2 + 1 → t.led ≡ true → (plan words ≡ code (t.kinds (j + 1))) × Follows (t.kinds j) (t.kinds (j + 1))
  pub followed : (j : ℕ) → t.phase ≡ j * 2 + 2 → Follows (t.kinds j) (t.kinds (j + 1))
  pub leader : (j : ℕ) → t.phase ≡ j * 2 + 1 → t.arrived 0 ≡ t.phase + 1 → t.led ≡ true

-- who has left an odd phase knows the kind of the phase before it, and domain 0 the one that it named
abbrev pub LeftOdd : (ℕ → Kind) → ℕ → ℕ → Kind → Type 0
LeftOdd kinds d arrivals kind = (j : ℕ) × (arrivals ≡ j * 2 + 2) × (d ≡ 0 → kinds (j + 1) ≡ kind) × (d ≢ 0 → kinds j ≡ kind)

-- the kind of an even phase that begins, for a domain that left an odd one and knew this kind: domain 0 named it, and it follows the one that the others know
abbrev pub Comes : ℕ → Kind → Kind → Type 0
Comes d known kind = (d ≡ 0 → kind ≡ known) × (d ≢ 0 → Follows known kind)

-- where domain d stands. Only one whose arrivals are the phase's number acts
abbrev pub AtStage : Pause → ℕ → ℕ → Stage → Type 0
AtStage t d arrivals (In kind) = (arrivals ≡ t.phase) × ((j : ℕ) × (t.phase ≡ j * 2) × (t.kinds j ≡ kind))
AtStage t d arrivals (Leads kind) = (arrivals ≡ t.phase) × ((j : ℕ) × (t.phase ≡ j * 2 + 1) × (t.kinds j ≡ kind)) × (d ≡ 0 → t.led ≡ false)
AtStage t d arrivals (Led kind) = (arrivals ≡ t.phase) × ((j : ℕ) × (t.phase ≡ j * 2 + 1) × (t.kinds (j + 1) ≡ kind)) × (d ≡ 0) × (t.led ≡ true)
AtStage t d arrivals (Gone kind) = ((j : ℕ) → arrivals ≡ j * 2 + 1 → t.kinds j ≡ kind) × (IsEven arrivals → LeftOdd t.kinds d arrivals kind) × (d ≡ 0 → arrivals ≡ t.phase → t.led ≡ false)

-- Phases, of one domain
pub record Staged (t : Pause) (x : DomainView) : Type 0 where
  pub arrivals : x.own.arrivals ≡ t.arrived x.own.number
  pub stage : AtStage t x.own.number x.own.arrivals x.seen.stage

-- the domain acts in an even phase of a pause, and in none of those in which finalisers are queued, keys are emptied, or a collection is answered
abbrev pub IsInPause : Stage → Type 0
IsInPause (In Run) = ⊥
IsInPause (In Decide) = ⊥
IsInPause (In Clean) = ⊥
IsInPause (In Lasts) = ⊥
IsInPause (In Answer) = ⊥
IsInPause (In _) = Unit {0}
IsInPause _ = ⊥

-- then no entry is appended. In those phases each domain appends its own, and in an odd phase the collector's are, as the next kind is named. While the domain runs, only entries of domains are
abbrev pub Still : List Entry → DomainView → Type 0
Still log x = (IsInPause x.seen.stage → x.seen.front ≡ log) × (x.seen.stage ≡ In Run → AreCalls (unseen log x.seen.front))

-- two domains that act are in phases of one kind, and none runs beside an odd phase
abbrev pub Agree : Stage → Stage → Type 0
Agree (In a) (In b) = a ≡ b
Agree (In a) (Leads b) = ⊥
Agree (In a) (Led b) = ⊥
Agree (Leads a) (In b) = ⊥
Agree (Led a) (In b) = ⊥
Agree (Leads a) (Leads b) = a ≡ b
Agree _ _ = Unit {0}

-- 1 for a domain whose trace has ended
abbrev pub flag : Bool → ℕ
flag true = 1
flag false = 0

abbrev pub is_over : model.State → ℕ → ℕ
is_over s d = flag (domain_at s d).ended

-- the ended word counts the domains whose trace has ended
abbrev pub CountsEnded : Config → model.State → List ℕ → Type 0
CountsEnded k s words = ended_word words ≡ sum_of (is_over s) k.domains

-- the last of a list of notes
abbrev pub last_from : Option Note → List Note → Option Note
last_from o [] = o
last_from o (n ∷ ns) = last_from (Some n) ns

abbrev pub last_note : List Note → Option Note
last_note notes = last_from None notes

-- a domain that leads, and whose last note is that it took the wishes back, finds none
abbrev pub TookBack : List ℕ → DomainView → Type 0
TookBack words x = (kind : Kind) → x.seen.stage ≡ Leads kind → last_note x.seen.notes ≡ Some Cleared → want words ≡ 0

-- a domain that leads a pause in, and whose last note is that it set the cursor back
abbrev pub HasSetBack : DomainView → Type 0
HasSetBack x = (x.seen.stage ≡ Leads Run) × (last_note x.seen.notes ≡ Some SetBack)

-- nobody has a wish when the domains run again
abbrev pub Unwished : Pause → List ℕ → Type 0
Unwished t words = (j : ℕ) → t.phase ≡ j * 2 + 1 → t.led ≡ true → t.kinds (j + 1) ≡ Run → want words ≡ 0
