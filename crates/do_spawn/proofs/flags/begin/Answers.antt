use Rattle.do_spawn.proofs.Making.{flag_last, spawns, made_flag, words_both, words_of_registers, words_of_remembered}
use Rattle.do_spawn.proofs.flags.begin.Goals as goal

pub returns : goal.returns
returns c = record {
  makes = spawns _ _ _ _ _ _ _ c.pass_argument.ensures.makes
      (made_flag _ _ _ _ _ _ _ _ c.put_int.ensures.did c.put_int.ensures.rest c.store.ensures.did c.store.ensures.remembers.rest)
      (flag_last _ _ _ _ _ _ _ _ c.put_int.ensures.did c.put_int.ensures.rest c.store.ensures.did c.store.ensures.remembers.rest);
  rest = words_both _ _ _ c.pass_argument.ensures.rest (words_both _ _ _ (words_of_registers _ _ c.put_int.ensures.rest) (words_of_remembered _ _ c.store.ensures.remembers.rest));
}
