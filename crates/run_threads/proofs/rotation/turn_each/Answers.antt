use Rattle.std.proofs.Common.{rules, ℕ, slice_index_or, subst, sym, ap, ◌∙◌}
use Rattle.run_threads.proofs.Places.{any_else, at_set}
use Rattle.run_threads.proofs.rotation.turn_each.Goals as goal

pub loop-trace-preserved : goal.loop-trace-preserved
loop-trace-preserved g c = (
  λ k d within. at_set (g.T.Trace.follows (slice_index_or c.args.traces.now k d)) c.loop-trace.traces c.loop-trace.trace-index k c.turn_once.new.trace d (search rules)
      (λ same. g.met.T.Trace.follows_on _ _ _ (c.loop-trace.invariant.0 k d within) (subst (λ x. g.T.Trace.follows x c.turn_once.new.trace)
      (any_else c.loop-trace.traces c.loop-trace.trace-index c.trace-item.result d (search rules) ∙ ap (λ (j : ℕ). slice_index_or c.loop-trace.traces j d) (sym same)) c.turn_once.ensures.follows))
      (λ other. c.loop-trace.invariant.0 k d within),
  (λ k d within all. search rules),
  (λ k d within. search rules),
)
