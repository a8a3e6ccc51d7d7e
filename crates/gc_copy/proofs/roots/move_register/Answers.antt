use Rattle.std.proofs.Common.{◌*◌, ◌<◌, sym, subst, ◌∙◌}
use Rattle.heap_rule.specs.declared.config.Config.{Config}
use Rattle.gc_copy.proofs.Rooting.{moved}
use Rattle.gc_copy.proofs.roots.move_register.Goals as goal

pub returns-then-address-pools-clause-moved : goal.returns-then-address-pools-clause-moved
returns-then-address-pools-clause-moved c = moved c.args.heap.now.config c.args.dom.now.view c.claim-copy.new.dom.view c.args.register c.in-Ref.address c.claim-copy.result c.requires.works c.requires.tied c.requires.register
    (subst (λ (k : Config). k.pools * 4096 < c.in-Ref.address) c.config-pools.ensures.value c.if-address-pools.true)
    (sym c.register.ensures.value ∙ c.in-Ref.is) c.claim-copy.ensures.claimed c.register_move.result c.register_move.new.dom.view c.register_move.ensures.told
