-- The runs of a heap as they are gathered, and as they are taken apart.
use Rattle.std.proofs.Common.{◌≡◌, ◌∙◌, ◌<◌, ◌≤◌, ⊎_elim, ℕ, zero, suc, true, false, true≢false, List, [], ◌∷◌, Option, Some, None, length, map, arith, eq-eqb, refl, sym, ap, subst}
use Rattle.std.specs.Prelude.{slice_get}
use Rattle.std.specs.List.{AllByRecursion, list_all}
use Rattle.std.proofs.lemmas.Bool.{cases_lt}
use Rattle.std.proofs.lemmas.List.{length-map}
use Rattle.std.proofs.lemmas.Simd.{map-map}
use Rattle.model_core.specs.declared.entry.Entry.{Entry}
use Rattle.model_core.specs.declared.entry.Entry.TheVariants.{Command as CommandOf, End, Cut, Queue, Seal, Wipe, Last, Collected, Done, Ran}
use Rattle.model_core.specs.Fronts.{AreCalls, NoneOf, IsFrontOf, is_call, unseen}
use Rattle.model_core.specs.History.{Legal, is_entry_of, replies}
use Rattle.model_core.proofs.Graphs.GraphLemmas.{and_parts}
use Rattle.model_core.proofs.Histories.FrontLemmas.{none_cons}
use Rattle.heap_rule.specs.declared.phase.Kind.{Kind}
use Rattle.heap_rule.specs.declared.phase.Stage.TheVariants.{In}
use Rattle.heap_rule.specs.declared.phase.Kind.TheVariants.{Run}
use Rattle.heap_rule.specs.Ending.{Begins}
use Rattle.heap_rule.specs.Limits.{sizes_in}
use Rattle.heap_rule.specs.Meeting.{Trails}
use Rattle.heap_rule.specs.Token.{SharedHeap}
use Rattle.run_turns.specs.Runs.{RunView, IsRun, StandsAt}
use Rattle.run_replay.specs.Asking.{HasAmple, commands_at}
use Rattle.run_replay.specs.Ends.{IsThere, MayGather, TakenApart}
use Rattle.run_replay.specs.Gathered.{GatheredView, HasRun, IsGathered, IsHeld, MayShare}
use Rattle.run_replay.specs.Leveled.{Leveled}
use Rattle.run_replay.proofs.Asking.{asks_none}
use Rattle.run_replay.proofs.Behind.{none_behind, trails_whole}
use Rattle.run_replay.proofs.Histories.{none_beyond, replies_front}
use Rattle.run_replay.proofs.InStep.{running_in_step}
use Rattle.run_replay.proofs.LevelLemmas.{level_front}
use Rattle.run_replay.proofs.Joining.{met_all, met_count, met_held, met_shares}
use Rattle.run_replay.proofs.Places.{get_map}
use Rattle.run_replay.proofs.Sharing.{legal_part}
use Rattle.run_replay.proofs.Served.{none_serves}
use Rattle.run_replay.proofs.Serving.{running_tied}

-- what is so of each is so of the one at a place
all_at : {A : Type 0} (P : A → Type 0) (xs : List A) (d : ℕ) (x : A) → AllByRecursion P xs → slice_get xs d ≡ Some x → P x
all_at P [] d x all at = cc
all_at P (y ∷ ys) zero x all at = let same : y ≡ x = cc in subst P same all.0
all_at P (y ∷ ys) (suc d) x all at = all_at P ys d x all.1 at

filled_at : {A : Type 0} (xs : List A) (d : ℕ) → d < length xs → (x : A) × (slice_get xs d ≡ Some x)
filled_at [] d below = absurd (omega (arith, below))
filled_at (x ∷ xs) zero below = (x, refl)
filled_at (x ∷ xs) (suc d) below = filled_at xs d (omega (arith, below))

has_some : (runs : List RunView) (d : ℕ) (r : RunView) → HasRun (map Some runs) d r → slice_get runs d ≡ Some r
has_some [] d r at = cc
has_some (x ∷ xs) zero r at = cc
has_some (x ∷ xs) (suc d) r at = has_some xs d r at

-- runs that were gathered
pub gathered : (h : SharedHeap) (runs : List RunView) (slots : List (Option RunView)) → MayGather h runs → AllByRecursion IsRun runs → slots ≡ map Some runs → IsGathered (record { heap = h; runs = slots; complete = false })
gathered h runs slots may are is = subst (λ (s : List (Option RunView)). IsGathered (record { heap = h; runs = s; complete = false })) (sym is) record {
  count = length-map runs Some ∙ may.count;
  filled = λ d below. let f = filled_at runs d (subst (λ (n : ℕ). d < n) (length-map runs Some) below) in (f.0, get_map Some runs d f.0 f.1);
  enough = subst (HasAmple h.config) (sym (map-map commands_at Some runs)) may.enough;
  held = λ d r at.
      let there = has_some runs d r at in
      let m = may.each d r there in record {
        is = all_at IsRun runs d r are there;
        here = m.here;
        number = m.number;
        listed = m.listed;
        collected = m.collected;
        asks = asks_none r m.asked;
        serves = none_serves false d r m.asked;
        walk = λ first. record { armed = m.armed first; unswept = m.unswept first; on = λ kind e. absurd (let clash : ◌≡◌ {A = Option Kind} None (Some kind) = sym m.left ∙ e in cc) };
      };
  in_step = running_in_step (map Some runs) (λ d r at. (may.each d r (has_some runs d r at)).left);
  tied = running_tied false (map Some runs) (λ d r at. (may.each d r (has_some runs d r at)).left);
}

-- no place is empty
pub there_all : (slots : List (Option RunView)) → ((d : ℕ) → d < length slots → (r : RunView) × HasRun slots d r) → AllByRecursion IsThere slots
there_all [] filled = tt
there_all (o ∷ os) filled = (
  let f = filled 0 (omega arith) in let is : o ≡ Some f.0 = let e : ◌≡◌ {A = Option (Option RunView)} (Some o) (Some (Some f.0)) = f.1 in cc in subst IsThere (sym is) tt,
  there_all os (λ d below. filled (suc d) (omega (arith, below))),
)

-- all have met and run, and nobody goes on any more
module _ (g : GatheredView) (all : IsGathered g) (mid : List (Option RunView)) (l : Leveled g.runs mid) (some : 0 < g.heap.config.domains) (runs : List RunView) (are : map Some runs ≡ mid) where
  first : (r : RunView) × HasRun mid 0 r
  first = (met_all g all mid l).filled 0 (let same = met_count g all mid l in omega (arith, same, some))

  abbrev top : List Entry
  top = first.0.token.view.seen.front

  has_at : (d : ℕ) (r : RunView) → slice_get runs d ≡ Some r → HasRun mid d r
  has_at d r at = subst (λ (s : List (Option RunView)). HasRun s d r) are (get_map Some runs d r at)

  at_has : (d : ℕ) (r : RunView) → HasRun mid d r → slice_get runs d ≡ Some r
  at_has d r there = has_some runs d r (subst (λ (s : List (Option RunView)). HasRun s d r) (sym are) there)

  held : (d : ℕ) (r : RunView) → HasRun mid d r → IsHeld (record g { runs = mid }) d r
  held d r there = met_held g all mid l d r there

  same_front : (d : ℕ) (q : RunView) → HasRun mid d q → q.token.view.seen.front ≡ top
  same_front d q there = level_front g.runs mid l d q there ∙ sym (level_front g.runs mid l 0 first.0 first.1)

  module _ (h : List Entry) (legal : Legal (sizes_in g.heap.config) h) (begins : (d : ℕ) (r : RunView) → slice_get runs d ≡ Some r → Begins h r.token.view) where
    goes : IsFrontOf first.0.token.view.own.number h top
    goes = begins 0 first.0 (at_has 0 first.0 first.1)

    trails : (d : ℕ) (q : RunView) → HasRun mid d q → Trails top q.token.view
    trails d q there = subst (λ (f : List Entry). Trails f q.token.view) (same_front d q there) (trails_whole q.token.view)

    shares : MayShare g top
    shares = met_shares g all mid l top (record { legal = legal_part (sizes_in g.heap.config) top goes.rest h goes.appends legal; trails = trails })

    same_replies : (d : ℕ) → d < length runs → replies (sizes_in g.heap.config) h d ≡ replies (sizes_in g.heap.config) top d
    same_replies d below =
        let f = filled_at runs d below in
        let there = has_at d f.0 f.1 in
        let number = (held d f.0 there).number in
        let front : List Entry = f.0.token.view.seen.front in
        replies_front (sizes_in g.heap.config) d h front (subst (λ (n : ℕ). IsFrontOf n h front) number (begins d f.0 f.1))
        ∙ sym (replies_front (sizes_in g.heap.config) d top front (subst (λ (n : ℕ). IsFrontOf n top front) number (trails d f.0 there).begins))

  pub taken_apart : TakenApart g runs
  taken_apart = record {
    count = sym (length-map runs Some) ∙ (ap length are ∙ l.count);
    history = l.history;
    each = λ d r at. let was = l.more d r (has_at d r at) in (was.0, was.1, record { trails = was.2.part.trails; is = was.2.is });
    here = λ d r at. (held d r (has_at d r at)).here;
    ends = λ h legal begins. (top, shares h legal begins, same_replies h legal begins);
  }

-- a call of no domain
no_call : (e : Entry) → ((d : ℕ) → is_entry_of d e ≡ false) → is_call e ≡ true → ⊥
no_call (CommandOf k c full) none call = true≢false (sym (eq-eqb k k refl) ∙ none k)
no_call (End k) none call = true≢false (sym (eq-eqb k k refl) ∙ none k)
no_call (Ran k) none call = true≢false (sym (eq-eqb k k refl) ∙ none k)
no_call Cut none call = true≢false (sym call)
no_call (Queue d places) none call = true≢false (sym call)
no_call Seal none call = true≢false (sym call)
no_call (Wipe label keys) none call = true≢false (sym call)
no_call (Last d place) none call = true≢false (sym call)
no_call Collected none call = true≢false (sym call)
no_call Done none call = true≢false (sym call)

nothing : (h : List Entry) → ((d : ℕ) → NoneOf d h) → AreCalls h → h ≡ []
nothing [] none calls = refl
nothing (e ∷ h) none calls = absurd (no_call e (λ d. (none_cons d e h (none d)).0) (and_parts (is_call e) (list_all is_call h) calls).0)

-- where all run and none has seen an entry, they share nothing yet
pub nothing_shared : (g : GatheredView) → IsGathered g → 0 < g.heap.config.domains → ((d : ℕ) (r : RunView) → HasRun g.runs d r → (r.left ≡ None) × (r.token.view.seen.front ≡ [])) → (h : List Entry) → MayShare g h → h ≡ []
nothing_shared g all some begin h ms = nothing h none calls
  where
    run_of : (d : ℕ) → d < g.heap.config.domains → (r : RunView) × HasRun g.runs d r
    run_of d below = all.filled d (subst (λ (n : ℕ). d < n) (sym all.count) below)

    none : (d : ℕ) → NoneOf d h
    none d = ⊎_elim
        (λ (below : d < g.heap.config.domains).
        let r = run_of d below in
        subst (λ (f : List Entry). NoneOf d (unseen h f)) (begin d r.0 r.1).1
        (subst (λ (n : ℕ). NoneOf n (unseen h r.0.token.view.seen.front)) (all.held d r.0 r.1).number (none_behind r.0.token.view.own.number h r.0.token.view.seen.front (ms.trails d r.0 r.1).begins)))
        (λ (above : g.heap.config.domains ≤ d). none_beyond (sizes_in g.heap.config) h d above ms.legal)
        (cases_lt d g.heap.config.domains)

    calls : AreCalls h
    calls =
        let r = run_of 0 some in
        let runs : r.0.token.view.seen.stage ≡ In Run = subst (λ (o : Option Kind). StandsAt o r.0.token.view.seen.stage) (begin 0 r.0 r.1).0 (all.held 0 r.0 r.1).is.between.stands in
        subst (λ (f : List Entry). AreCalls (unseen h f)) (begin 0 r.0 r.1).1 ((ms.trails 0 r.0 r.1).calls runs)
