use Rattle.std.proofs.Common.{refl}
use Rattle.weak_maps.proofs.FrameLemmas.{leaves_trans, spends_none}
use Rattle.weak_maps.proofs.taking.clear.Goals as goal

pub returns-clause-leaves : goal.returns-clause-leaves
returns-clause-leaves g c =
    let eight = spends_none refl c.perform-eight.ensures.spends in
    let nine = spends_none refl c.perform-nine.ensures.spends in
    let ten = spends_none refl c.perform-ten.ensures.spends in
    let eleven = spends_none refl c.perform-eleven.ensures.spends in
    leaves_trans eight (leaves_trans nine (leaves_trans ten eleven))
