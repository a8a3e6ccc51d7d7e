use Rattle.weak_maps.proofs.OfShared.CommandLemmas.{commands_beside_are_guarded, ends_are_guarded, later_keys_are_guarded}
use Rattle.weak_maps.proofs.shared.laws.entries_beside_are_guarded.Goals as goal

pub returns-clause-commands : goal.returns-clause-commands
returns-clause-commands c = commands_beside_are_guarded

pub returns-clause-keys : goal.returns-clause-keys
returns-clause-keys c = later_keys_are_guarded

pub returns-clause-ends : goal.returns-clause-ends
returns-clause-ends c = ends_are_guarded
