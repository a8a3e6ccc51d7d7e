use Rattle.std.proofs.Common.{arith}
use Rattle.do_ephemerons.proofs.Keys.{key_inside, key_looked, key_passed, look_may}
use Rattle.do_ephemerons.proofs.rounds.key_is_marked.Goals as goal

pub key_look-head-requires-clause-inside : goal.key_look-head-requires-clause-inside
key_look-head-requires-clause-inside c =
    let i = key_inside c.args.heap.now.config c.args.dom.now.view c.key_load-word.new.dom.view c.args.at c.key_load-word.result c.read_as.result c.requires.may c.key_load-word.ensures.told c.read_as.ensures c.in-Ref.address c.in-Ref.is in
    (i.0, omega arith)

pub key_look-head-requires-clause-may : goal.key_look-head-requires-clause-may
key_look-head-requires-clause-may c = look_may c.args.heap.now.config c.args.dom.now.view c.key_load-word.new.dom.view c.args.at c.key_load-word.result c.read_as.result c.requires.may c.key_load-word.ensures.told c.read_as.ensures c.in-Ref.address c.in-Ref.is c.args.colours c.requires.darkening

pub returns-in_default-clause-looked : goal.returns-in_default-clause-looked
returns-in_default-clause-looked c = key_passed c.args.heap.now.config c.args.dom.now.view c.key_load-word.new.dom.view c.args.at c.key_load-word.result c.read_as.result c.requires.may c.key_load-word.ensures.told c.read_as.ensures c.in_default.not-Ref

pub returns-then-not-marked-clause-looked : goal.returns-then-not-marked-clause-looked
returns-then-not-marked-clause-looked c =
    key_looked c.args.heap.now.config c.args.dom.now.view c.key_load-word.new.dom.view c.args.at c.key_load-word.result c.read_as.result c.requires.may c.key_load-word.ensures.told c.read_as.ensures c.in-Ref.address c.in-Ref.is
    c.key_look-head.new.dom.view c.key_look-head.result c.args.colours c.is_marked-marked.result c.requires.meanings c.requires.darkening c.key_look-head.ensures.told c.is_marked-marked.ensures

pub returns-else-not-marked-clause-looked : goal.returns-else-not-marked-clause-looked
returns-else-not-marked-clause-looked c =
    key_looked c.args.heap.now.config c.args.dom.now.view c.key_load-word.new.dom.view c.args.at c.key_load-word.result c.read_as.result c.requires.may c.key_load-word.ensures.told c.read_as.ensures c.in-Ref.address c.in-Ref.is
    c.key_look-head.new.dom.view c.key_look-head.result c.args.colours c.is_marked-marked.result c.requires.meanings c.requires.darkening c.key_look-head.ensures.told c.is_marked-marked.ensures
