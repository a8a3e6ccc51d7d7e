-- The runs of a heap, as a replay sees them, from their start to their end.
use Rattle.std.proofs.Common.{◌≡◌, ◌<◌, ◌≤◌, ◌+◌, ◌*◌, ℕ, zero, suc, true, false, arith, fold, max, List, [], ◌∷◌, map, length, get_or, slice_get, drop, option_map, Some, None, refl, sym, ap, ◌∙◌, subst, Option}
use Rattle.std.proofs.Math.Nat.{max-le}
use Rattle.std.proofs.lemmas.List.{length-drop, length-map}
use Rattle.std.proofs.lemmas.Nat.{mul-le}
use Rattle.std.proofs.lemmas.Option.{slice_get-map}
use Rattle.model_core.specs.declared.command.Command.{Command}
use Rattle.model_core.specs.declared.entry.Entry.{Entry}
use Rattle.model_core.specs.declared.state.Sizes.{Sizes}
use Rattle.model_core.specs.History.{Legal, replies}
use Rattle.heap_rule.specs.declared.phase.Kind.{Kind}
use Rattle.heap_rule.specs.Limits.{sizes_in}
use Rattle.heap_rule.specs.Token.{SharedHeap, IsIn}
use Rattle.run_turns.specs.Runs.{RunView}
use Rattle.model_traces.specs.declared.schedules.items.Item.{Item}
use Rattle.model_traces.specs.Schedules.Scheduled.{scheduled}
use Rattle.text_script.specs.Schedule.Drive.Together.{AllHave, OneRun}
use Rattle.text_script.specs.Schedule.Drive.Pausing.{all_commands, lefts}
use Rattle.text_script.specs.Schedule.Drive.Following.{IsCalm}
use Rattle.run_replay.specs.Ends.{TakenApart}
use Rattle.run_replay.specs.Gathered.{GatheredView, HasRun, IsGathered, MayShare, asked_for, is_running, one_run, run_at, seen_in}
use Rattle.model_core.specs.Domains.{IsWithinLimits}
use Rattle.model_traces.specs.Schedules.Scheduled.{rounds_of}
use Rattle.text_script.specs.Schedule.Drive.Spending.{most_in_replay}
use Rattle.run_replay.specs.Pace.{last_arrival, last_of, spare_of}
use Rattle.run_replay.proofs.EndLemmas.{nothing_shared}
use Rattle.run_replay.proofs.Pace.{last_at}
use Rattle.run_replay.proofs.Places.{get_map, read_at}
use Rattle.run_replay.specs.Replayed.{IsUntouched, MayReplay, Replayed, commands_of}

-- where the runs stand, as they were gathered
abbrev gathered : SharedHeap → List RunView → GatheredView
gathered h runs = record { heap = h; runs = map Some runs; complete = false }

none_asked_for : (cs : List Command) → asked_for cs None ≡ false
none_asked_for [] = refl
none_asked_for (c ∷ cs) = refl

-- a run that stands at a place of the gathered ones is that of the list
was_there : (runs : List RunView) (d : ℕ) (r : RunView) → slice_get (map Some runs) d ≡ Some (Some r) → slice_get runs d ≡ Some r
was_there [] d r at = cc
was_there (x ∷ runs) zero r at = let same : Some x ≡ Some r = inner at in same
  where
    inner : Some (Some x) ≡ Some (Some r) → Some x ≡ Some r
    inner e = cc
was_there (x ∷ runs) (suc d) r at = was_there runs d r at

-- what is seen of each
seen_all : {A : Type 0} (f : OneRun → A) (g : RunView → A) → ((r : RunView) → f (one_run r) ≡ g r) → (runs : List RunView) → map f (map run_at (map Some runs)) ≡ map g runs
seen_all f g same [] = refl
seen_all f g same (r ∷ runs) = ap (λ x. x ∷ map f (map run_at (map Some runs))) (same r) ∙ ap (λ xs. g r ∷ xs) (seen_all f g same runs)

each_is : {A : Type 0} (f : RunView → A) (a : A) (runs : List RunView) → ((d : ℕ) (r : RunView) → slice_get runs d ≡ Some r → f r ≡ a) → (d : ℕ) → get_or (map f runs) d a ≡ a
each_is f a [] each d = refl
each_is f a (r ∷ runs) each zero = each 0 r refl
each_is f a (r ∷ runs) each (suc d) = each_is f a runs (λ e q at. each (suc e) q at) d

-- runs that have done nothing yet are calm
pub begins_calm : (h : SharedHeap) (runs : List RunView) → MayReplay h runs → IsCalm (seen_in (gathered h runs))
begins_calm h runs may = record {
  run = λ d x was.
      sym (read_at (λ (y : OneRun). y.runs) (seen_in (gathered h runs)).runs d x true was) ∙ ap (λ bs. get_or bs d true) (seen_all (λ (y : OneRun). y.runs) (λ r. is_running r.left) (λ r. refl) runs)
      ∙ each_is (λ (r : RunView). is_running r.left) true runs (λ e r at. ap is_running (may.gathers.each e r at).left) d;
  none = λ d.
      ap (λ bs. get_or bs d false) (seen_all (λ (x : OneRun). x.asked) (λ r. asked_for (drop r.next r.commands) r.asked) (λ r. refl) runs)
      ∙ each_is (λ (r : RunView). asked_for (drop r.next r.commands) r.asked) false runs (λ e r at. ap (asked_for (drop r.next r.commands)) (may.each e r at).asked ∙ none_asked_for (drop r.next r.commands)) d;
}

-- and share no entry
pub begins_fresh : (h : SharedHeap) (runs : List RunView) → MayReplay h runs → IsGathered (gathered h runs) → (log : List Entry) → MayShare (gathered h runs) log → log ≡ []
begins_fresh h runs may whole log share =
    nothing_shared (gathered h runs) whole may.some (λ d r at. let there = was_there runs d r at in ((may.gathers.each d r there).left, (may.each d r there).front)) log share

-- all commands are left
pub begins_left : (h : SharedHeap) (runs : List RunView) → ((d : ℕ) (r : RunView) → slice_get runs d ≡ Some r → IsUntouched r) → lefts (seen_in (gathered h runs)) ≡ commands_of runs
begins_left h runs each = seen_all (λ (x : OneRun). x.left) (λ r. drop r.next r.commands) (λ r. refl) runs ∙ whole runs each
  where
    whole : (runs : List RunView) → ((d : ℕ) (r : RunView) → slice_get runs d ≡ Some r → IsUntouched r) → map (λ r. drop r.next r.commands) runs ≡ commands_of runs
    whole [] each = refl
    whole (r ∷ runs) each =
        ap (λ n. drop n r.commands ∷ map (λ (q : RunView). drop q.next q.commands) runs) (each 0 r refl).next ∙ ap (λ (cs : List (List Command)). r.commands ∷ cs) (whole runs (λ d q at. each (suc d) q at))

pub begins_commands : (h : SharedHeap) (runs : List RunView) → all_commands (seen_in (gathered h runs)) ≡ commands_of runs
begins_commands h runs = seen_all (λ (x : OneRun). x.commands) (λ r. r.commands) (λ r. refl) runs

-- a run that stands there, as it is seen
seen_at : (g : GatheredView) (d : ℕ) (r : RunView) → HasRun g.runs d r → slice_get (seen_in g).runs d ≡ Some (one_run r)
seen_at g d r at = slice_get-map run_at g.runs d ∙ ap (option_map run_at) at

runs_on : (left : Option Kind) → is_running left ≡ true → left ≡ None
runs_on None is = refl
runs_on (Some kind) is = cc

-- all domains run
pub all_run : (g : GatheredView) → AllHave (λ (x : OneRun). x.runs) true (seen_in g) → (d : ℕ) (r : RunView) → HasRun g.runs d r → r.left ≡ None
all_run g all d r at = runs_on r.left (all d (one_run r) (seen_at g d r at))

-- as many are there
pub as_many : (g f : GatheredView) → all_commands (seen_in f) ≡ all_commands (seen_in g) → length f.runs ≡ length g.runs
as_many g f same =
    sym (length-map f.runs run_at) ∙ sym (length-map (seen_in f).runs (λ (x : OneRun). x.commands)) ∙ ap length same ∙ length-map (seen_in g).runs (λ (x : OneRun). x.commands) ∙ length-map g.runs run_at

-- what was driven and taken apart
pub taken : (g f : GatheredView) (runs : List RunView) (items : List Item) (h : SharedHeap) (new : List RunView) → g.runs ≡ map Some runs → ((d : ℕ) (r : RunView) → slice_get runs d ≡ Some r → IsUntouched r)
    → sizes_in f.heap.config ≡ sizes_in g.heap.config → all_commands (seen_in f) ≡ all_commands (seen_in g) → AllHave (λ (x : OneRun). x.ended) true (seen_in f) → IsGathered f
    → ((log : List Entry) → MayShare f log → (d : ℕ) → replies (sizes_in g.heap.config) log d ≡ replies (sizes_in g.heap.config) (scheduled (sizes_in g.heap.config) (lefts (seen_in g)) items) d)
    → h ≡ f.heap → TakenApart f new → Replayed g.heap.config runs items h new
taken g f runs items h new is untouched sizes commands ended whole answers heap apart =
    let z : Sizes = sizes_in g.heap.config in
    let made : all_commands (seen_in g) ≡ commands_of runs = ap (λ (rs : List (Option RunView)). map (λ (x : OneRun). x.commands) (map run_at rs)) is ∙ begins_commands g.heap runs in
    let left : lefts (seen_in g) ≡ commands_of runs = ap (λ (rs : List (Option RunView)). map (λ (x : OneRun). x.left) (map run_at rs)) is ∙ begins_left g.heap runs untouched in
    record {
      sizes = ap (λ (k : SharedHeap). sizes_in k.config) heap ∙ sizes;
      count = apart.count ∙ as_many g f commands ∙ ap length is ∙ length-map runs Some;
      each = λ d r at.
          let was = apart.each d r at in
          let q : RunView = was.0 in
          let more = was.2 in
          let held = whole.held d q was.1 in
          record {
            here = subst (λ (k : SharedHeap). IsIn r.token k) (sym heap) (apart.here d r at);
            number = ap (λ (x : RunView). x.token.view.own.number) more.is ∙ held.number;
            listed = ap (λ (x : RunView). x.supply) more.is ∙ held.listed;
            made = ap (λ (x : RunView). x.commands) more.is ∙ sym (read_at (λ (x : OneRun). x.commands) (seen_in f).runs d (one_run q) [] (seen_at f d q was.1)) ∙ ap (λ (cs : List (List Command)). get_or cs d []) (commands ∙ made);
            over = ap (λ (x : RunView). x.ended) more.is ∙ ended d (one_run q) (seen_at f d q was.1);
          };
      replies = λ log legal begins d few.
          let shared = apart.ends log (subst (λ y. Legal y log) (sym sizes) legal) begins in
          ap (λ (y : Sizes). replies y log d) (sym sizes) ∙ shared.2 d few ∙ ap (λ (y : Sizes). replies y shared.0 d) sizes ∙ answers shared.0 shared.1 d
          ∙ ap (λ (cs : List (List Command)). replies z (scheduled z cs items) d) left;
    }

-- the longest of some lists
fold_few : (m a : ℕ) (runs : List RunView) → a ≤ m → ((d : ℕ) (r : RunView) → slice_get runs d ≡ Some r → length (drop r.next r.commands) ≤ m) → fold max a (map length (map (λ (x : OneRun). x.left) (map run_at (map Some runs)))) ≤ m
fold_few m a [] few each = few
fold_few m a (r ∷ rs) few each = fold_few m (max a (length (drop r.next r.commands))) rs (max-le few (each 0 r refl)) (λ d q at. each (suc d) q at)

-- a replay takes far fewer arrivals than each domain may make
pub begins_room : (h : SharedHeap) (runs : List RunView) (items : List Item) → MayReplay h runs → IsGathered (gathered h runs) → IsWithinLimits (sizes_in h.config) → length items ≤ 200000 → most_in_replay (seen_in (gathered h runs)) items < spare_of (gathered h runs)
begins_room h runs items may all limits few =
    let v = seen_in (gathered h runs) in
    let longest : fold max 0 (map length (lefts v)) ≤ 200000 = fold_few 200000 0 runs (omega arith)
    (λ d r at. let drops = length-drop r.next r.commands in let held = (all.held d r (get_map Some runs d r at)).is.few in omega (arith, drops, held)) in
    let many : length v.runs ≡ length runs = length-map (map Some runs) run_at ∙ length-map runs Some in
    let domains : length runs ≤ 8 = let count = may.gathers.count in let most = limits.domains in omega (arith, count, most) in
    let rounds : rounds_of (lefts v) * (length v.runs * 134217728) ≤ 200001 * (8 * 134217728)
    = mul-le (rounds_of (lefts v)) (length v.runs * 134217728) 200001 (8 * 134217728) (omega (arith, longest)) (omega (arith, many, domains)) in
    let first = all.filled 0 (let some = may.some in let count = all.count in omega (arith, some, count)) in
    let there = was_there runs 0 first.0 first.1 in
    let last = last_at h.config (map Some runs) first.0 first.1 in
    let left : last_of h.config first.0 ≡ first.0.token.view.own.arrivals + 1
    = ap (λ (o : Option Kind). last_arrival (h.config.pools * 1024) first.0.token.view.own.arrivals o first.0.token.view.seen.share.progress first.0.token.view.seen.share.unmarked) (may.gathers.each 0 first.0 there).left in
    let none = (may.each 0 first.0 there).arrivals in
    omega (arith, few, rounds, last, left, none)
