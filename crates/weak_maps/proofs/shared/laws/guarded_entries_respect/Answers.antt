use Rattle.weak_maps.proofs.OfShared.SharingLemmas.{guarded_entries_respect as guarded_entries_respect_law, others_may_be_relied_on as others_may_be_relied_on_law}
use Rattle.weak_maps.proofs.shared.laws.guarded_entries_respect.Goals as goal

pub returns-clause-respect : goal.returns-clause-respect
returns-clause-respect c = guarded_entries_respect_law

pub returns-clause-rely : goal.returns-clause-rely
returns-clause-rely c = others_may_be_relied_on_law
