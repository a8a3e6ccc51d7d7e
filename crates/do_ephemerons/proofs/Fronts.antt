-- The front of a domain that looks at its ephemerons in Clean.
use Rattle.std.proofs.Common.{◌≡◌, ℕ, Bool, List, ap, ◌∙◌, subst, ⊎_elim, sym}
use Rattle.model_core.specs.declared.entry.Entry.{Entry}
use Rattle.model_core.specs.History.{Legal}
use Rattle.heap_rule.specs.declared.config.Config.{Config}
use Rattle.heap_rule.specs.declared.view.DomainView.{DomainView}
use Rattle.heap_rule.specs.Limits.{sizes_in}
use Rattle.step_ephemerons.specs.Looks.Emptying.{CleanEndTold, CleanTold}
use Rattle.do_ephemerons.specs.Emptied.{KeysCleaned, StaysLegal}

-- a front that stays is as legal as it was
pub legal_as : (k : Config) (x y : DomainView) → y.seen.front ≡ x.seen.front → StaysLegal k x y
legal_as k x y same legal = subst (λ (front : List Entry). Legal (sizes_in k) front) (sym same) legal

-- the look at the head leaves it
pub load_front : (k : Config) (at found : ℕ) (x y : DomainView) → CleanTold k at x found y → y.seen.front ≡ x.seen.front
load_front k at found x y t = ⊎_elim (λ u. ap (λ (z : DomainView). z.seen.front) u.1) (λ u. ap (λ (z : DomainView). z.seen.front) u.3) t.told

-- and so do those at the keys, and the look by which the domain is done
pub end_front : (k : Config) (at found last keys : ℕ) (won : Bool) (x y z u : DomainView) → CleanTold k at x found y → KeysCleaned at keys keys won y z → CleanEndTold z last u → u.seen.front ≡ x.seen.front
end_front k at found last keys won x y z u load cleaned end = ap (λ (v : DomainView). v.seen.front) end.view ∙ (ap (λ (v : DomainView). v.seen.front) cleaned.view ∙ load_front k at found x y load)
