use Rattle.std.proofs.Common.{◌∙◌, ◌+◌, ◌*◌, ℕ, ap, sym}
use Rattle.do_alloc.proofs.OfPools.Searching.{passes}
use Rattle.do_alloc.proofs.pools.search.look_in.Goals as goal

pub returns-then-found-own-clause-found : goal.returns-then-found-own-clause-found
returns-then-found-own-clause-found c = passes c.args.heap.now.config c.args.dom.now.view c.owner_load-found.new.dom.view c.args.pool c.args.class c.owner_load-found.result c.requires.inside.0 c.requires.class c.owner_load-found.ensures.told
    (λ e. c.if-found-own.true (e ∙ sym (c.owner_word-own.ensures ∙ ap (λ (n : ℕ). 16 * n + c.args.class + 1) c.number.ensures.value)))
