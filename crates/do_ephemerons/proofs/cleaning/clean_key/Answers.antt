use Rattle.std.proofs.Common.{arith}
use Rattle.do_ephemerons.proofs.Wipes.{clean_inside, clean_look_may, dead_emptied, key_stays, marked_stays, wipe_may}
use Rattle.do_ephemerons.proofs.cleaning.clean_key.Goals as goal

pub clean_key_look-head-requires-clause-inside : goal.clean_key_look-head-requires-clause-inside
clean_key_look-head-requires-clause-inside c =
    let i = clean_inside c.args.heap.now.config c.args.dom.now.view c.clean_key_load-word.new.dom.view c.args.at c.clean_key_load-word.result c.read_as.result c.requires.may c.clean_key_load-word.ensures.told c.read_as.ensures c.in-Ref.address c.in-Ref.is in
    (i.0, omega arith)

pub clean_key_look-head-requires-clause-may : goal.clean_key_look-head-requires-clause-may
clean_key_look-head-requires-clause-may c = clean_look_may c.args.heap.now.config c.args.dom.now.view c.clean_key_load-word.new.dom.view c.args.at c.clean_key_load-word.result c.read_as.result c.requires.may c.clean_key_load-word.ensures.told c.read_as.ensures c.in-Ref.address c.in-Ref.is c.args.colours c.requires.known

pub returns-in_default-clause-cleaned : goal.returns-in_default-clause-cleaned
returns-in_default-clause-cleaned c = key_stays c.args.heap.now.config c.args.dom.now.view c.clean_key_load-word.new.dom.view c.args.at c.clean_key_load-word.result c.read_as.result c.requires.may c.clean_key_load-word.ensures.told c.read_as.ensures c.in_default.not-Ref

pub returns-then-is_marked-clause-cleaned : goal.returns-then-is_marked-clause-cleaned
returns-then-is_marked-clause-cleaned c =
    marked_stays c.args.heap.now.config c.args.dom.now.view c.clean_key_load-word.new.dom.view c.args.at c.clean_key_load-word.result c.read_as.result c.requires.may c.clean_key_load-word.ensures.told c.read_as.ensures c.in-Ref.address c.in-Ref.is
    c.clean_key_look-head.new.dom.view c.clean_key_look-head.result c.args.colours c.requires.known c.clean_key_look-head.ensures.told c.requires.meanings c.if-is_marked.ensures

pub wipe_key-requires-clause-may : goal.wipe_key-requires-clause-may
wipe_key-requires-clause-may c =
    wipe_may c.args.heap.now.config c.args.dom.now.view c.clean_key_load-word.new.dom.view c.args.at c.clean_key_load-word.result c.read_as.result c.requires.may c.clean_key_load-word.ensures.told c.read_as.ensures c.in-Ref.address c.in-Ref.is
    c.clean_key_look-head.new.dom.view c.clean_key_look-head.result c.args.colours c.requires.known c.clean_key_look-head.ensures.told c.if-is_marked.ensures

pub returns-clause-cleaned : goal.returns-clause-cleaned
returns-clause-cleaned c =
    dead_emptied c.args.heap.now.config c.args.dom.now.view c.clean_key_load-word.new.dom.view c.args.at c.clean_key_load-word.result c.read_as.result c.requires.may c.clean_key_load-word.ensures.told c.read_as.ensures c.in-Ref.address c.in-Ref.is
    c.clean_key_look-head.new.dom.view c.clean_key_look-head.result c.args.colours c.requires.known c.clean_key_look-head.ensures.told c.if-is_marked.ensures c.wipe_key.new.dom.view c.wipe_key.ensures.told
