use Rattle.std.proofs.Common.{◌∙◌, inl, ap, subst, sym, arith}
use Rattle.heap_rule.specs.Limits.{sizes_in}
use Rattle.run_session.specs.Sessions.{SessionView}
use Rattle.example_cache.specs.Caching.{NoCache}
use Rattle.example_cache.proofs.Calls.{made, none_made}
use Rattle.example_cache.proofs.cache.Cache.make.Goals as goal

pub invariant_of-result : goal.invariant_of-result
invariant_of-result g c = (made (sizes_in c.new-heap.result.config) (sizes_in c.cache_make.new.m.config) c.new-heap.result.front c.cache_make.new.m.front c.args.most c.cache_make.result c.in-Block.field-0 c.cache_make.ensures.allocates.stays.sizes c.in-Block.is c.cache_make.ensures.made).0

pub returns-in-Block-clause-empty : goal.returns-in-Block-clause-empty
returns-in-Block-clause-empty g c = (made (sizes_in c.new-heap.result.config) (sizes_in c.cache_make.new.m.config) c.new-heap.result.front c.cache_make.new.m.front c.args.most c.cache_make.result c.in-Block.field-0 c.cache_make.ensures.allocates.stays.sizes c.in-Block.is c.cache_make.ensures.made).1

pub returns-in_default-clause-none : goal.returns-in_default-clause-none
returns-in_default-clause-none g c = subst (λ (w : SessionView × SessionView). NoCache w.0 w.1) (λ i. (c.new-heap.ensures i, sym c.into_inner-in_default.ensures i))
    (none_made (sizes_in c.new-heap.result.config) c.new-heap.result c.cache_make.new.m c.args.most c.cache_make.result c.cache_make.ensures.allocates.stays.heap c.in_default.not-Block c.cache_make.ensures.made c.cache_make.ensures.allocates.refused)

pub returns-then-labels_left-lt1-clause-none : goal.returns-then-labels_left-lt1-clause-none
returns-then-labels_left-lt1-clause-none g c =
    let same = c.into_inner.ensures ∙ c.new-heap.ensures in
    let labels = ap (λ (s : SessionView). s.labels) (c.session.ensures ∙ c.new-heap.ensures) in
    let left = c.labels_left.ensures in
    let none = c.if-labels_left-lt1.true in
    (ap (λ (s : SessionView). s.config) same, inl ((omega (arith, labels, left, none), same)))
