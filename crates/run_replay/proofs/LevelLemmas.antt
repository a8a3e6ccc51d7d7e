-- How the runs of a heap come to see one history, and come to rest.
use Rattle.std.proofs.Common.{◌≡◌, ◌≢◌, ◌∙◌, ◌<◌, ◌≤◌, ◌+◌, ⊎_elim, false, ℕ, zero, suc, List, [], ◌∷◌, map, Option, Some, None, length, length-set, arith, refl, sym, ap, subst}
use Rattle.std.specs.Prelude.{slice_get, slice_set}
use Rattle.std.proofs.lemmas.Bool.{cases_lt}
use Rattle.std.proofs.lemmas.List.{length-map}
use Rattle.std.proofs.Math.Seq.{drop-length}
use mathlib.Core.Logic.{dite}
use native.Mathlib.Decide.{ℕ_discrete}
use Rattle.model_core.specs.declared.entry.Entry.{Entry}
use Rattle.model_core.specs.Fronts.{AreCalls, AreNotControls}
use Rattle.model_core.proofs.Histories.FrontLemmas.{front_whole}
use Rattle.heap_rule.specs.declared.phase.Kind.{Kind}
use Rattle.heap_rule.specs.declared.phase.Kind.TheVariants.{Run}
use Rattle.heap_rule.specs.declared.phase.Stage.{Stage}
use Rattle.heap_rule.specs.Meeting.{TakesPart, Trails}
use Rattle.heap_rule.specs.Phases.{AtStage, IsEven, Pause}
use Rattle.heap_rule.specs.Token.{SharedHeap, IsIn}
use Rattle.run_turns.specs.Meeting.{AllButOne, AllRunsMet, AreHere, slot_seeing}
use Rattle.run_turns.specs.Runs.{RunView, IsRun, StandsAt, run_seeing}
use Rattle.run_turns.proofs.MeetingLemmas.{seeing_is_run}
use Rattle.run_replay.specs.Gathered.{HasRun}
use Rattle.run_replay.specs.Leveled.{AllHere, Leveled, SawAll}
use Rattle.run_replay.specs.Moves.{HaltsAt, HaltsUpto, halted_run}
use Rattle.run_replay.proofs.Places.{get_map, set_else, set_here}
use Rattle.run_replay.proofs.SlotLemmas.{inside, one_there}

-- what stands at a place of a list from which a run was taken stood there before
pub others_later : (old : List (Option RunView)) (at d : ℕ) (r : RunView) → HasRun (slice_set old at None) d r → HasRun old d r
others_later [] at d r is = is
others_later (o ∷ os) zero zero r is = absurd (let clash : ◌≡◌ {A = Option (Option RunView)} (Some None) (Some (Some r)) = is in cc)
others_later (o ∷ os) zero (suc d) r is = is
others_later (o ∷ os) (suc at) zero r is = is
others_later (o ∷ os) (suc at) (suc d) r is = others_later os at d r is

-- a place that was filled twice
pub twice_set : {A : Type 0} (xs : List A) (at : ℕ) (x y : A) → slice_set (slice_set xs at x) at y ≡ slice_set xs at y
twice_set [] at x y = refl
twice_set (z ∷ zs) zero x y = refl
twice_set (z ∷ zs) (suc at) x y = ap (λ ys. z ∷ ys) (twice_set zs at x y)

-- the run at a place, or another one where none is there
abbrev slot_or : RunView → Option RunView → RunView
slot_or r None = r
slot_or r (Some q) = q

-- what stands at a place of a list whose runs have seen more
seen_is : (history : List Entry) (q r : RunView) → slot_seeing history (Some q) ≡ Some r → r ≡ run_seeing q history
seen_is history q r is = sym (ap (slot_or r) is)

none_there : (r : RunView) → ◌≡◌ {A = Option RunView} None (Some r) → ⊥
none_there r is = cc

seen_slot : (history : List Entry) (o : Option RunView) (r : RunView) → slot_seeing history o ≡ Some r → (q : RunView) × (o ≡ Some q) × (r ≡ run_seeing q history)
seen_slot history None r is = absurd (none_there r is)
seen_slot history (Some q) r is = (q, refl, seen_is history q r is)

-- what stands at a place of a list that was changed throughout
same_slot : {A : Type 0} (a b : A) → Some a ≡ Some b → a ≡ b
same_slot a b is = cc

mapped_at : {A B : Type 0} (f : A → B) (xs : List A) (d : ℕ) (y : B) → slice_get (map f xs) d ≡ Some y → (x : A) × (slice_get xs d ≡ Some x) × (y ≡ f x)
mapped_at f [] d y at = cc
mapped_at f (x ∷ xs) zero y at = (x, refl, sym (same_slot (f x) y at))
mapped_at f (x ∷ xs) (suc d) y at = mapped_at f xs d y at

seen_run : (history : List Entry) (runs : List (Option RunView)) (d : ℕ) (r : RunView) → HasRun (map (slot_seeing history) runs) d r → (q : RunView) × HasRun runs d q × (r ≡ run_seeing q history)
seen_run history runs d r at =
    let m = mapped_at (slot_seeing history) runs d (Some r) at in
    let f = seen_slot history m.0 r (sym m.2) in
    (f.0, m.1 ∙ ap (λ (p : Option RunView). Some p) f.1, f.2)

-- one run was taken out, all met, and it was put back
module _ (h : SharedHeap) (old mid : List (Option RunView)) (at : ℕ) (one met : RunView) (here : AllHere h old) (there : HasRun old at one) (m : AllRunsMet h one met (slice_set old at None) mid) where
  abbrev pub level_new : List (Option RunView)
  level_new = slice_set mid at (Some met)

  level_within : at < length old
  level_within = inside old at (Some one) there

  pub level_mid : length mid ≡ length old
  level_mid = ap length m.each_is ∙ length-map (slice_set old at None) (slot_seeing m.history) ∙ length-set old at None

  pub level_count : length level_new ≡ length old
  level_count = length-set mid at (Some met) ∙ level_mid

  level_one : HasRun level_new at met
  level_one = set_here mid at (Some met) (subst (λ (n : ℕ). at < n) (sym level_mid) level_within)

  -- what stands there is as it stood, but for what it has seen
  pub level_more : (d : ℕ) (r : RunView) → HasRun level_new d r → (q : RunView) × HasRun old d q × SawAll m.history m.pause q r
  level_more d r is = dite (ℕ_discrete d at)
      (λ e. (
        one,
        subst (λ (n : ℕ). HasRun old n one) (sym e) there,
        record { part = m.own; is = one_there level_new at r met (subst (λ (n : ℕ). HasRun level_new n r) e is) level_one ∙ m.own_is },
      ))
      (λ no.
      let was = seen_run m.history (slice_set old at None) d r (ap (λ (rs : List (Option RunView)). slice_get rs d) (sym m.each_is) ∙ (sym (set_else mid at d (Some met) no) ∙ is)) in
      (was.0, sym (set_else old at d None no) ∙ was.1, record { part = m.each d was.0 was.1; is = was.2 }))

  pub level_stay : (d : ℕ) → d < length old → (r : RunView) × HasRun level_new d r
  level_stay d below = dite (ℕ_discrete d at)
      (λ e. (met, subst (λ (n : ℕ). HasRun level_new n met) (sym e) level_one))
      (λ no.
      let f = here.filled d below in (
        run_seeing f.0 m.history,
        set_else mid at d (Some met) no ∙ (ap (λ (rs : List (Option RunView)). slice_get rs d) m.each_is ∙ get_map (slot_seeing m.history) (slice_set old at None) d (Some f.0) (set_else old at d None no ∙ f.1)),
      ))

  pub level_are : (d : ℕ) (r : RunView) → HasRun level_new d r → IsRun r
  level_are d r is =
      let was = level_more d r is in
      subst IsRun (sym was.2.is) (seeing_is_run h was.0 m.history (here.here d was.0 was.1) (here.are d was.0 was.1) was.2.part.trails.begins)

  abbrev pub leveled_all : Leveled old level_new
  leveled_all = record { history = m.history; pause = m.pause; count = level_count; more = level_more; stay = level_stay; are = level_are }

-- the others are of the heap too
pub others_here : (h : SharedHeap) (old : List (Option RunView)) (at : ℕ) → AllHere h old → AreHere h (slice_set old at None)
others_here h old at here d r is = here.here d r (others_later old at d r is)

pub all_but_one : (h : SharedHeap) (old : List (Option RunView)) (at : ℕ) → at < length old → length old ≡ h.config.domains → AllHere h old → AllButOne h (slice_set old at None)
all_but_one h old at within count here = record {
  count = length-set old at None ∙ count;
  at = at;
  away = set_here old at None within;
  there = λ d below away. let f = here.filled d (subst (λ (n : ℕ). d < n) (length-set old at None) below) in (f.0, set_else old at d None away ∙ f.1);
}

-- all have seen the same
pub level_front : (old new : List (Option RunView)) (l : Leveled old new) (d : ℕ) (r : RunView) → HasRun new d r → r.token.view.seen.front ≡ l.history
level_front old new l d r there = let was = l.more d r there in ap (λ (x : RunView). x.token.view.seen.front) was.2.is

-- each took part, and any two of them share the history
pub level_part : (old new : List (Option RunView)) (l : Leveled old new) (d : ℕ) (q : RunView) → HasRun old d q → TakesPart l.history l.pause q.token.view
level_part old new l d q was =
    let r = l.stay d (inside old d (Some q) was) in
    let m = l.more d r.0 r.1 in
    subst (λ (z : RunView). TakesPart l.history l.pause z.token.view) (one_there old d m.0 q m.1 was) m.2.part

pub level_shared : (old new : List (Option RunView)) (l : Leveled old new) (d e : ℕ) (q p : RunView) → HasRun old d q → HasRun old e p → (history : List Entry) × Trails history q.token.view × Trails history p.token.view
level_shared old new l d e q p was there = (l.history, (level_part old new l d q was).trails, (level_part old new l e p there).trails)

-- each is of the heap still
pub level_here : (h : SharedHeap) (old new : List (Option RunView)) → AllHere h old → Leveled old new → AllHere h new
level_here h old new all l = record {
  filled = λ d below. l.stay d (subst (λ (m : ℕ). d < m) l.count below);
  here = λ d r there. let m = l.more d r there in subst (λ (s : RunView). IsIn s.token h) (sym m.2.is) (all.here d m.0 m.1);
  are = l.are;
}

-- and where one of them has gone on
pub set_all_here : (h : SharedHeap) (runs : List (Option RunView)) (at : ℕ) (s : RunView) → AllHere h runs → at < length runs → IsIn s.token h → IsRun s → AllHere h (slice_set runs at (Some s))
set_all_here h runs at s all within here is =
    let new : List (Option RunView) = slice_set runs at (Some s) in
    let there : HasRun new at s = set_here runs at (Some s) within in record {
      filled = λ d below. dite (ℕ_discrete d at)
          (λ e. (s, subst (λ (n : ℕ). HasRun new n s) (sym e) there))
          (λ no. let f = all.filled d (subst (λ (n : ℕ). d < n) (length-set runs at (Some s)) below) in (f.0, set_else runs at d (Some s) no ∙ f.1));
      here = λ d q is. dite (ℕ_discrete d at)
          (λ e. subst (λ (x : RunView). IsIn x.token h) (one_there new at s q there (subst (λ (n : ℕ). HasRun new n q) e is)) here)
          (λ no. all.here d q (sym (set_else runs at d (Some s) no) ∙ is));
      are = λ d q at_place. dite (ℕ_discrete d at)
          (λ e. subst IsRun (one_there new at s q there (subst (λ (n : ℕ). HasRun new n q) e at_place)) is)
          (λ no. all.are d q (sym (set_else runs at d (Some s) no) ∙ at_place));
    }

-- before any has arrived
pub halt_start : (h : SharedHeap) (runs : List (Option RunView)) → AllHere h runs → HaltsUpto h runs runs 0
halt_start h runs all = record { count = refl; stay = all.filled; halted = λ d s below. absurd (omega (arith, below)); others = λ d _. refl }

-- each is of the heap still
pub halts_here : (h : SharedHeap) (old new : List (Option RunView)) (n : ℕ) → AllHere h old → HaltsUpto h old new n → AllHere h new
halts_here h old new n all u = record {
  filled = λ d below. u.stay d (subst (λ (m : ℕ). d < m) u.count below);
  here = λ d r there. ⊎_elim (λ (below : d < n). (u.halted d r below there).3) (λ (no : n ≤ d). all.here d r (sym (u.others d (λ less. omega (arith, less, no))) ∙ there)) (cases_lt d n);
  are = λ d r there. ⊎_elim (λ (below : d < n). (u.halted d r below there).4) (λ (no : n ≤ d). all.are d r (sym (u.others d (λ less. omega (arith, less, no))) ∙ there)) (cases_lt d n);
}

-- one more has arrived
pub halt_next : (h : SharedHeap) (old mid new : List (Option RunView)) (at : ℕ) → HaltsUpto h old mid at → HaltsAt h mid new at → HaltsUpto h old new (at + 1)
halt_next h old mid new at u m =
    let b = m.becomes in
    let within : at < length mid = inside mid at (Some m.run) b.was in
    let there : HasRun new at (halted_run m.run) = ap (λ (rs : List (Option RunView)). slice_get rs at) b.runs ∙ set_here mid at (Some (halted_run m.run)) within in
    let else_ : (d : ℕ) → d ≢ at → slice_get new d ≡ slice_get mid d = λ d no. ap (λ (rs : List (Option RunView)). slice_get rs d) b.runs ∙ set_else mid at d (Some (halted_run m.run)) no in record {
      count = ap length b.runs ∙ (length-set mid at (Some (halted_run m.run)) ∙ u.count);
      stay = λ d below. dite (ℕ_discrete d at) (λ e. (halted_run m.run, subst (λ (n : ℕ). HasRun new n (halted_run m.run)) (sym e) there)) (λ no. let s = u.stay d below in (s.0, else_ d no ∙ s.1));
      halted = λ d s below is. dite (ℕ_discrete d at)
          (λ e.
          let same : halted_run m.run ≡ s = one_there new at (halted_run m.run) s there (subst (λ (n : ℕ). HasRun new n s) e is) in
          (m.run, subst (λ (n : ℕ). HasRun old n m.run) (sym e) (sym (u.others at (λ less. omega (arith, less))) ∙ b.was), sym same, subst (λ (x : RunView). IsIn x.token h) same b.here, subst IsRun same b.is))
          (λ no. u.halted d s (let c = below in let n = no in omega arith) (sym (else_ d no) ∙ is));
      others = λ d past. else_ d (λ e. past (omega (arith, e))) ∙ u.others d (λ less. past (omega (arith, less)));
    }

-- one that is alone and runs has seen all that there is, and stands in a pause of its own
module _ (h : SharedHeap) (runs : List (Option RunView)) (all : AllHere h runs) (one : length runs ≡ 1) (r : RunView) (there : HasRun runs 0 r) (running : r.left ≡ None) where
  abbrev alone_pause : Pause
  alone_pause = record { arrived = λ _. r.token.view.own.arrivals; phase = r.token.view.own.arrivals; kinds = λ _. Run; led = false }

  alone_stage : AtStage alone_pause r.token.view.own.number r.token.view.own.arrivals r.token.view.seen.stage
  alone_stage =
      let is : IsRun r = all.are 0 r there in
      let even : IsEven r.token.view.own.arrivals = is.between.even running in
      let stands : StandsAt None r.token.view.seen.stage = subst (λ (k : Option Kind). StandsAt k r.token.view.seen.stage) running is.between.stands in
      subst (λ (s : Stage). AtStage alone_pause r.token.view.own.number r.token.view.own.arrivals s) (sym stands) (refl, (even.0, even.1, refl))

  alone_part : TakesPart r.token.view.seen.front alone_pause r.token.view
  alone_part = record {
    trails = record {
      begins = front_whole r.token.view.own.number r.token.view.seen.front;
      calls = λ _. subst AreCalls (sym (drop-length r.token.view.seen.front)) refl;
      led = λ _. subst AreNotControls (sym (drop-length r.token.view.seen.front)) refl;
    };
    staged = record { arrivals = refl; stage = alone_stage };
    near = (omega arith, omega arith);
  }

  alone_more : (d : ℕ) (q : RunView) → HasRun runs d q → (p : RunView) × HasRun runs d p × SawAll r.token.view.seen.front alone_pause p q
  alone_more d q at =
      let within : d < length runs = inside runs d (Some q) at in
      let first : d ≡ 0 = omega (arith, within, one) in
      let same : r ≡ q = one_there runs 0 r q there (subst (λ (n : ℕ). HasRun runs n q) first at) in
      (q, at, subst (λ (s : RunView). SawAll r.token.view.seen.front alone_pause s s) same (record { part = alone_part; is = refl }))

  pub alone_leveled : Leveled runs runs
  alone_leveled = record { history = r.token.view.seen.front; pause = alone_pause; count = refl; more = alone_more; stay = all.filled; are = all.are }
