use Rattle.do_spawn.proofs.Opens.{cleared}
use Rattle.do_spawn.proofs.opening.clear_shared.Goals as goal

pub returns : goal.returns
returns c = record {
  cleared = cleared c.args.heap.now c.args.first.now c.put_int.new.dom c.store.new.dom c.forget.new.dom c.put_int.result c.store.result c.forget.result c.requires.began c.put_int.ensures.did c.put_int.ensures.rest c.store.ensures.did c.store.ensures.remembers.rest c.forget.ensures.did c.forget.ensures.rest;
}
