use Rattle.heap_rule.proofs.Fillings.{opens}
use Rattle.heap_rule.proofs.layout.fill_opening.Goals as goal

pub returns : goal.returns
returns c = opens c.args.config.now c.requires.limits c.args.words.now c.list_pools.new.words c.put_zeros.new.words c.requires.wide c.requires.zeros
    c.opening_colours.result c.shared_head.result c.pack_label.result c.index_of-shared.result c.index_of-shared.ensures c.list_pools.ensures c.put_zeros.ensures
    c.opening_colours.ensures c.shared_head.ensures c.pack_label.ensures
