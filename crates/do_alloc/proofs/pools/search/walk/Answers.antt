use Rattle.std.proofs.Common.{◌≢◌, ◌∙◌, ◌+◌, lt_of_not-le}
use mathlib.Core.Logic.{dite}
use native.Mathlib.Decide.{dec_le}
use Rattle.heap_rule.specs.Pools.{blocks_of}
use Rattle.do_alloc.proofs.OfPools.Searching.{walked_more, walked_last, walked_free}
use Rattle.do_alloc.proofs.pools.search.walk.Goals as goal

pub loop-i-preserved : goal.loop-i-preserved
loop-i-preserved c =
    let full : c.place_load.result ≢ 0 = c.if-place_load-eq0.false in
    record {
      here = c.place_load.ensures.here;
      view = dite (dec_le (blocks_of c.args.class) (c.loop-i.i + 1))
          (λ last. (walked_last c.args.heap.now.config c.args.dom.now.view c.loop-i.dom.view c.place_load.new.dom.view c.args.pool c.args.class c.loop-i.i c.place_load.result c.requires.inside.0 c.requires.class c.loop-i.invariant.view c.place_load.ensures.told full last).0)
          (λ not_last. (walked_more c.args.heap.now.config c.args.dom.now.view c.loop-i.dom.view c.place_load.new.dom.view c.args.pool c.args.class c.loop-i.i c.place_load.result c.requires.inside.0 c.requires.class c.loop-i.invariant.view c.place_load.ensures.told full (lt_of_not-le not_last)).0);
      more = λ b. (walked_more c.args.heap.now.config c.args.dom.now.view c.loop-i.dom.view c.place_load.new.dom.view c.args.pool c.args.class c.loop-i.i c.place_load.result c.requires.inside.0 c.requires.class c.loop-i.invariant.view c.place_load.ensures.told full b).1;
      free = walked_free c.args.heap.now.config c.args.dom.now.view c.loop-i.dom.view c.place_load.new.dom.view c.args.pool c.args.class c.loop-i.i c.place_load.result c.requires.inside.0 c.requires.class c.loop-i.invariant.view c.place_load.ensures.told full ∙ c.loop-i.invariant.free;
      done = λ b. (walked_last c.args.heap.now.config c.args.dom.now.view c.loop-i.dom.view c.place_load.new.dom.view c.args.pool c.args.class c.loop-i.i c.place_load.result c.requires.inside.0 c.requires.class c.loop-i.invariant.view c.place_load.ensures.told full b).1;
    }
