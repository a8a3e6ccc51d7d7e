-- What the stores in Clean tell of a token's own data: it stays.
use Rattle.std.proofs.Common.{sym, refl, ap, subst, List}
use Rattle.model_core.specs.declared.entry.Entry.{Entry}
use Rattle.model_core.specs.declared.entry.Entry.TheVariants.{Wipe}
use Rattle.model_core.specs.Fronts.{IsFrontOf}
use Rattle.model_core.proofs.Histories.FrontLemmas.{front_push}
use Rattle.heap_rule.specs.declared.config.Config.{Config}
use Rattle.heap_rule.specs.declared.view.DomainView.{DomainView}
use Rattle.heap_rule.specs.Raw.{CanLeave, Closes, Leaves}
use Rattle.heap_rule.proofs.Closes.{leaves_closes}
use Rattle.step_marks.proofs.OfMarking.Plain.{share_closes}
use Rattle.step_ephemerons.specs.Looks.Emptying.{cleaning_on}
use Rattle.step_ephemerons.specs.Wipes.Wiping.{WipeDataTold, WipeKeyTold, key_wiped}

pub key_closes : (k : Config) (x : DomainView) → Closes k x 0 WipeKeyTold CanLeave Leaves
key_closes k x = share_closes k x 0 WipeKeyTold (λ y t. (cleaning_on (key_wiped t.cleaning) x.seen.share, t.view))

-- a Wipe is no domain's entry
pub datum_closes : (k : Config) (x : DomainView) → Closes k x 0 (WipeDataTold k) CanLeave Leaves
datum_closes k x = leaves_closes k x 0 (WipeDataTold k) (λ y t. ap (λ (z : DomainView). z.own) t.view)
    (λ y t. subst (λ (h : List Entry). IsFrontOf x.own.number h x.seen.front) (sym t.front) (front_push x.own.number t.before x.seen.front (Wipe t.label t.cleaning.emptied) refl t.seen))
