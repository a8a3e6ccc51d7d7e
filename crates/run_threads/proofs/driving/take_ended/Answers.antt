use Rattle.std.proofs.Common.{arith, ℕ, ◌≡◌, ◌<◌, ◌+◌, ◌∙◌, length, List, ◌∷◌, [], ◌++◌, length-append, sym, ap, subst}
use Rattle.std.specs.Prelude.{slice_index_or, slice_set}
use Rattle.run_threads.specs.Placing.{Began, Stands}
use Rattle.run_threads.specs.declared.place.Place.TheVariants.{Empty}
use Rattle.run_threads.proofs.Places.{at_set}
use Rattle.run_threads.proofs.Placing.{one_of, set_all, set_length, pushed_all, pushed_at}
use Rattle.run_threads.proofs.driving.take_ended.Goals as goal

pub ended_trace-requires-clause-stands : goal.ended_trace-requires-clause-stands
ended_trace-requires-clause-stands g c =
    let room : c.places.at < length c.places.places = (let many = c.places.invariant.2 in let few = c.requires.few in let more = c.places-test.true in omega (arith, many, few, more)) in
    one_of (Stands g.T.Trace.shares g.T.Trace.is_over c.args.shared.now) c.places.places c.places.at c.take-place.result room c.places.invariant.5 (c.take-place.ensures.place c.take-place.result)

pub ended_trace-requires-clause-some : goal.ended_trace-requires-clause-some
ended_trace-requires-clause-some g c = λ none. c.requires.some c.places.at Empty c.places-test.true (sym (c.places.invariant.6 c.places.at Empty (omega arith) c.places-test.true) ∙ (sym (c.take-place.ensures.place Empty) ∙ none))

pub places-preserved : goal.places-preserved
places-preserved g c =
    let at = c.places.at in
    let ts = c.places.traces.items in
    let t = c.ended_trace.result in
    let room : at < length c.places.places = (let many = c.places.invariant.2 in let few = c.requires.few in let more = c.places-test.true in omega (arith, many, few, more)) in
    let long : length ts ≡ at = c.places.invariant.0 in
    let items : c.push_reserved.new.self.items ≡ ts ++ t ∷ [] = c.push_reserved.ensures.items in
    let places : c.take-place.new.places ≡ slice_set c.places.places at Empty = c.take-place.ensures.places in (
      ap length items ∙ (length-append ts (t ∷ []) ∙ ap (λ (n : ℕ). n + 1) long),
      c.push_reserved.ensures.capacity ∙ c.places.invariant.1,
      ap length places ∙ (set_length c.places.places at Empty ∙ c.places.invariant.2),
      subst (λ (l : List _). (k : ℕ) (d : _) → k < length l → g.T.Trace.shares c.args.shared.now (slice_index_or l k d)) (sym items) (pushed_all (g.T.Trace.shares c.args.shared.now) ts t c.places.invariant.3 c.ended_trace.ensures.here),
      subst (λ (l : List _). (k : ℕ) (d : _) → k < length l → g.T.Trace.is_over (slice_index_or l k d)) (sym items) (pushed_all g.T.Trace.is_over ts t c.places.invariant.4 c.ended_trace.ensures.over),
      subst (λ (l : List _). (k : ℕ) (d : _) → k < length l → Stands g.T.Trace.shares g.T.Trace.is_over c.args.shared.now (slice_index_or l k d)) (sym places) (set_all (Stands g.T.Trace.shares g.T.Trace.is_over c.args.shared.now) c.places.places at Empty room c.places.invariant.5 tt),
      (λ k e from few. subst (λ (l : List _). slice_index_or l k e ≡ slice_index_or c.args.places.now k e) (sym places) (at_set (λ x. x ≡ slice_index_or c.args.places.now k e) c.places.places at k Empty e room (λ same. absurd (omega (arith, from, same))) (λ other. c.places.invariant.6 k e (omega (arith, from)) few))),
      (λ k began d e few first. subst (λ (l : List _). g.T.Trace.follows began (slice_index_or l k d)) (sym items) (pushed_at (g.T.Trace.follows began) ts t k d (omega (arith, few, long))
          (λ front. c.places.invariant.7 k began d e (omega (arith, front, long)) first)
          (λ last. let same : k ≡ at = last ∙ long in
          c.ended_trace.ensures.follows began (subst (Began g.T.Trace.follows began) (ap (λ (j : ℕ). slice_index_or c.args.places.now j e) same ∙ (sym (c.places.invariant.6 at e (omega arith) c.places-test.true) ∙ sym (c.take-place.ensures.place e))) first)))),
    )
