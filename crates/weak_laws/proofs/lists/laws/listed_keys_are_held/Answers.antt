use Rattle.weak_laws.proofs.OfLists.HeldLemmas.{held_keys_live, leaf_is_listed, map_holds_itself}
use Rattle.weak_laws.proofs.lists.laws.listed_keys_are_held.Goals as goal

pub returns-clause-keys : goal.returns-clause-keys
returns-clause-keys c = held_keys_live

pub returns-clause-leaves : goal.returns-clause-leaves
returns-clause-leaves c = leaf_is_listed

pub returns-clause-blocks : goal.returns-clause-blocks
returns-clause-blocks c = map_holds_itself
