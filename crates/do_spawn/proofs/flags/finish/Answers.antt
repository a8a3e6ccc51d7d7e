use Rattle.std.proofs.Common.{ℕ, pos, ◌∷◌, [], subst}
use Rattle.model_core.specs.declared.command.Command.TheVariants.{PutInt, Store}
use Rattle.model_traces.specs.Spawns.Hidden.{hidden, scratch}
use Rattle.do_spawn.specs.Expanding.{MakesAll}
use Rattle.do_spawn.proofs.Making.{made_flag, words_both, words_of_registers, words_of_remembered}
use Rattle.do_spawn.proofs.flags.finish.Goals as goal

pub returns : goal.returns
returns c = record {
  makes =
      subst (λ (n : ℕ). MakesAll c.args.heap.now c.args.dom.now c.store.new.dom (PutInt scratch (pos 2) ∷ Store hidden n scratch ∷ [])) c.number-section.ensures.value
      (made_flag _ _ _ _ _ _ _ _ c.put_int.ensures.did c.put_int.ensures.rest c.store.ensures.did c.store.ensures.remembers.rest);
  rest = words_both _ _ _ (words_of_registers _ _ c.put_int.ensures.rest) (words_of_remembered _ _ c.store.ensures.remembers.rest);
}
