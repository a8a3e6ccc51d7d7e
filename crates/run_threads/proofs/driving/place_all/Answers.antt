use Rattle.std.proofs.Common.{rules, arith, ℕ, ◌≡◌, ◌<◌, ◌≤◌, ◌+◌, ◌∙◌, length, List, ◌∷◌, [], ◌++◌, length-append, sym, ap, subst}
use Rattle.std.specs.Prelude.{slice_index_or, slice_set}
use Rattle.run_threads.specs.Placing.{Began, Stands}
use Rattle.run_threads.proofs.Placing.{set_all, set_length, fill_one, front_one}
use Rattle.run_threads.proofs.driving.place_all.Goals as goal

pub traces-preserved : goal.traces-preserved
traces-preserved g c =
    let ts = c.traces.traces.items in
    let us = c.pop.new.self.items in
    let t = c.in-Some.trace in
    let items : ts ≡ us ++ t ∷ [] = search rules in
    let more : length ts ≡ length us + 1 = ap length items ∙ length-append us (t ∷ []) in
    let n = c.len-at.result in
    let here : n ≡ length us = search rules in
    let long = c.traces.invariant.0 in
    let room : n < length c.traces.places = (let many = c.traces.invariant.2 in let few = c.requires.few in omega (arith, here, more, long, many, few)) in
    let places : c.put.new.places ≡ slice_set c.traces.places n c.place_of.result = c.put.ensures in (
      omega (arith, long, more),
      c.pop.ensures.capacity ∙ c.traces.invariant.1,
      ap length places ∙ (set_length c.traces.places n c.place_of.result ∙ c.traces.invariant.2),
      subst (λ (l : List _). (k : ℕ) (d : _) → k < length l → Stands g.T.Trace.shares g.T.Trace.is_over c.args.shared.now (slice_index_or l k d)) (sym places)
          (set_all (Stands g.T.Trace.shares g.T.Trace.is_over c.args.shared.now) c.traces.places n c.place_of.result room c.traces.invariant.3 c.place_of.ensures.stands),
      (λ k d few. front_one ts us t k d items few ∙ c.traces.invariant.4 k d (omega (arith, few, more))),
      (λ k d e from few. subst (λ (l : List _). Began g.T.Trace.follows (slice_index_or c.args.traces.now.items k d) (slice_index_or l k e)) (sym places)
          (fill_one g.T.Trace.follows c.args.traces.now.items ts us c.traces.places n t c.place_of.result items here long room c.traces.invariant.4 c.traces.invariant.5 c.place_of.ensures.began k d e (subst (λ (m : ℕ). m ≤ k) (sym here) from) few)),
    )

pub returns-clause-began : goal.returns-clause-began
returns-clause-began g c = λ k d e few. c.traces.invariant.5 k d e (search rules) few
