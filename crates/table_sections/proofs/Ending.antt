-- What the calls that make all sections say of them together.
use Rattle.std.proofs.Common.{◌≡◌, ℕ, suc, ◌≤◌, ◌<◌, List, [], ◌∷◌, length, map, Vec, Global, Option, Some, None, refl, ap, sym, ◌∙◌, subst, arith}
use Rattle.std.specs.List.{AllByRecursion}
use Rattle.model_core.specs.declared.entry.Entry.{Entry}
use Rattle.model_core.specs.declared.state.Sizes.{Sizes}
use Rattle.model_core.specs.Domains.{IsWithinLimits}
use Rattle.model_core.specs.History.{Legal}
use Rattle.heap_rule.specs.declared.config.Config.{Config}
use Rattle.heap_rule.specs.Limits.{first_outside, sizes_in}
use Rattle.heap_rule.proofs.Sizes.{within}
use Rattle.run_seats.specs.Seating.{AllSeatsOf, IsSeatOf, SeatView, SeatsView, fresh_seats}
use Rattle.run_seats.specs.Stopping.{StopsEach}
use Rattle.table_text.specs.declared.line.TableLine.{TableLine}
use Rattle.table_text.specs.declared.machine.reply.LineReply.{LineReply}
use Rattle.table_sections.specs.Preparing.{AllBack, AllFresh, AllRan, AllReady, AllTasks, MayRun}
use Rattle.table_sections.specs.Together.{SectionFits, SectionsFit, TogetherRuns}
use Rattle.table_sections.specs.declared.laying.Places.{Places}
use Rattle.table_sections.specs.declared.running.Ran.{Ran}
use Rattle.table_sections.specs.declared.running.Task.{Task}
use Rattle.table_sections.proofs.Jobs.{few_ephes}
use Rattle.table_sections.proofs.Seating.{all_fresh, all_length, may_each, over_each}
use Rattle.table_sections.proofs.Standing.{run_together}

pub none_of : (o : Option ℕ) → ((n : ℕ) → o ≡ Some n → ⊥) → o ≡ None
none_of None never = refl
none_of (Some n) never = absurd (never n refl)

pub lists_length : {X : Type 0} (xss : List (Vec X Global)) → length (map (λ xs. xs.items) xss) ≡ length xss
lists_length [] = refl
lists_length (xs ∷ xss) = ap suc (lists_length xss)

pub tasks_length : (xs : List SeatView) (lss : List (List TableLine)) (ts : List Task) → AllTasks xs lss ts → length ts ≡ length lss
tasks_length [] [] [] tasks = refl
tasks_length [] [] (t ∷ ts) tasks = absurd tasks
tasks_length [] (ls ∷ lss) ts tasks = absurd tasks
tasks_length (x ∷ xs) [] ts tasks = absurd tasks
tasks_length (x ∷ xs) (ls ∷ lss) [] tasks = absurd tasks
tasks_length (x ∷ xs) (ls ∷ lss) (t ∷ ts) tasks = ap suc (tasks_length xs lss ts tasks.1)

module _ (s : SeatsView) where
  pub ran_length : (ts : List Task) (rs : List Ran) → AllRan s ts rs → length rs ≡ length ts
  ran_length [] [] ran = refl
  ran_length [] (r ∷ rs) ran = absurd ran
  ran_length (t ∷ ts) [] ran = absurd ran
  ran_length (t ∷ ts) (r ∷ rs) ran = ap suc (ran_length ts rs ran.1)

  pub ran_here : (ts : List Task) (rs : List Ran) → AllRan s ts rs → AllByRecursion (λ r. IsSeatOf s r.resting) rs
  ran_here [] [] ran = tt
  ran_here [] (r ∷ rs) ran = absurd ran
  ran_here (t ∷ ts) [] ran = absurd ran
  ran_here (t ∷ ts) (r ∷ rs) ran = (ran.0.here, ran_here ts rs ran.1)

  pub back_length : (rs : List Ran) (more : List (List LineReply)) (ys : List SeatView) → AllBack s rs more ys → length ys ≡ length rs
  back_length [] [] [] back = refl
  back_length [] [] (y ∷ ys) back = absurd back
  back_length [] (a ∷ more) ys back = absurd back
  back_length (r ∷ rs) [] ys back = absurd back
  back_length (r ∷ rs) (a ∷ more) [] back = absurd back
  back_length (r ∷ rs) (a ∷ more) (y ∷ ys) back = ap suc (back_length rs more ys back.1)

  pub back_here : (rs : List Ran) (more : List (List LineReply)) (ys : List SeatView) → AllBack s rs more ys → AllSeatsOf s ys
  back_here [] [] [] back = tt
  back_here [] [] (y ∷ ys) back = absurd back
  back_here [] (a ∷ more) ys back = absurd back
  back_here (r ∷ rs) [] ys back = absurd back
  back_here (r ∷ rs) (a ∷ more) [] back = absurd back
  back_here (r ∷ rs) (a ∷ more) (y ∷ ys) back = (back.0.here, back_here rs more ys back.1)

-- the seats of a heap that was just made
module _ (k : Config) (inside : first_outside k ≡ None) (s : SeatsView) (same : s.heap.config ≡ k) (xs : List SeatView) (are : xs ≡ fresh_seats s 0 k.domains) where
  as_fresh : xs ≡ fresh_seats s 0 s.heap.config.domains
  as_fresh = subst (λ (c : Config). xs ≡ fresh_seats s 0 c.domains) (sym same) are

  pub made_fresh : AllFresh s 0 xs
  made_fresh = all_fresh s xs (subst (λ (c : Config). IsWithinLimits (sizes_in c)) (sym same) (within k inside)) as_fresh

  pub made_length : length xs ≡ k.domains
  made_length = all_length s xs as_fresh ∙ ap (λ (c : Config). c.domains) same

room_in : (k : Config) (lss : List (List TableLine)) → 0 < length lss → AllByRecursion (SectionFits k) lss → 3 ≤ k.ephes
room_in k [] some each = absurd (omega (arith, some))
room_in k (ls ∷ lss) some each = let room = each.0.room in omega (arith, room)

-- where the sections fit, and no number is outside its limit, there is one at least, and room for what all share
module _ (k : Config) (lss : List (List TableLine)) (inside : first_outside k ≡ None) (fits : SectionsFit k lss) where
  pub some_section : 0 < length lss
  some_section =
      let some : 1 ≤ k.domains = (within k inside).some_domain in
      let many : k.domains ≡ length lss = fits.domains in
      omega (arith, some, many)

  pub section_room : 3 ≤ k.ephes
  section_room = room_in k lss some_section fits.each

  -- so all may run once their seats are ready
  module _ (s : SeatsView) (same : k ≡ s.heap.config) (p : Places) (xs : List SeatView) (ts : List Task) (ready : AllReady s p 0 xs) (tasks : AllTasks xs lss ts) where
    pub all_may : AllByRecursion (MayRun s) ts
    all_may = may_each s p 0 xs lss ts (subst (λ (c : Config). c.ephes ≤ 200000) same (few_ephes k inside)) ready tasks (subst (λ (c : Config). AllByRecursion (SectionFits c) lss) same fits.each)

    -- and once the heap has ended, all have
    pub all_run : (rs : List Ran) (more : List (List LineReply)) (ys : List SeatView) (z : Sizes) (h : List Entry) → AllRan s ts rs → AllBack s rs more ys → z ≡ sizes_in s.heap.config → Legal z h → StopsEach z h ys → TogetherRuns z lss more h
    all_run rs more ys z h ran back sizes legal stops =
        let now : Sizes = sizes_in s.heap.config in
        let limits : IsWithinLimits now = subst (λ (c : Config). IsWithinLimits (sizes_in c)) same (within k inside) in
        let domains : now.domains ≡ length lss = ap (λ (c : Config). c.domains) (sym same) ∙ fits.domains in
        let stopped : StopsEach now h ys = subst (λ (w : Sizes). StopsEach w h ys) sizes stops in
        subst (λ (w : Sizes). TogetherRuns w lss more h) (sym sizes)
        (run_together now limits p h lss more (subst (λ (w : Sizes). Legal w h) sizes legal) domains some_section (over_each s p h 0 xs lss ts rs more ys (subst (λ (c : Config). AllByRecursion (SectionFits c) lss) same fits.each) ready tasks ran back stopped))
