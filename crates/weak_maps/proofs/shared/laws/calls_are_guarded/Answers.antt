use Rattle.weak_maps.proofs.OfShared.SharingLemmas.{calls_are_guarded as calls_are_guarded_law, lookups_are_guarded as lookups_are_guarded_law}
use Rattle.weak_maps.proofs.shared.laws.calls_are_guarded.Goals as goal

pub returns-clause-writers : goal.returns-clause-writers
returns-clause-writers c = calls_are_guarded_law

pub returns-clause-lookups : goal.returns-clause-lookups
returns-clause-lookups c = lookups_are_guarded_law
