use Rattle.std.proofs.Common.{◌*◌, ◌<◌, subst}
use Rattle.heap_rule.specs.declared.config.Config.{Config}
use Rattle.gc_copy.proofs.HeldMoves.{colours_works, held_may, move_may, moved_young}
use Rattle.gc_copy.proofs.finalisers.move_held.Goals as goal

pub claim_met-copy-requires-clause-works : goal.claim_met-copy-requires-clause-works
claim_met-copy-requires-clause-works c = let h = c.colours_now-colours in
    colours_works c.args.heap.now.config c.args.dom.now.view h.new.dom.view h.new.dom.view c.args.held c.args.address c.args.address h.result c.requires.works c.requires.tied c.requires.held
    (subst (λ (k : Config). k.pools * 4096 < c.args.address) c.config-pools.ensures.value c.if-address-pools.true) h.ensures.knows

pub claim_met-copy-requires-clause-met : goal.claim_met-copy-requires-clause-met
claim_met-copy-requires-clause-met c = let h = c.colours_now-colours in
    held_may c.args.heap.now.config c.args.dom.now.view h.new.dom.view h.new.dom.view c.args.held c.args.address c.args.address h.result c.requires.works c.requires.tied c.requires.held
    (subst (λ (k : Config). k.pools * 4096 < c.args.address) c.config-pools.ensures.value c.if-address-pools.true) h.ensures.knows

pub held_move-requires-clause-may : goal.held_move-requires-clause-may
held_move-requires-clause-may c = let h = c.colours_now-colours in
    move_may c.args.heap.now.config c.args.dom.now.view h.new.dom.view c.claim_met-copy.new.dom.view c.args.held c.args.address c.claim_met-copy.result h.result c.requires.works c.requires.tied c.requires.held
    (subst (λ (k : Config). k.pools * 4096 < c.args.address) c.config-pools.ensures.value c.if-address-pools.true) h.ensures.knows c.claim_met-copy.ensures.claimed

pub returns-then-address-pools-clause-moved : goal.returns-then-address-pools-clause-moved
returns-then-address-pools-clause-moved c = let h = c.colours_now-colours in
    moved_young c.args.heap.now.config c.args.dom.now.view h.new.dom.view c.claim_met-copy.new.dom.view c.args.held c.args.address c.claim_met-copy.result h.result c.requires.works c.requires.tied c.requires.held
    (subst (λ (k : Config). k.pools * 4096 < c.args.address) c.config-pools.ensures.value c.if-address-pools.true) h.ensures.knows c.claim_met-copy.ensures.claimed
    c.held_move.result c.held_move.new.dom.view c.held_move.ensures.told
