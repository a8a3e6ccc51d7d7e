use Rattle.std.proofs.Common.{◌≡◌, ◌∙◌, true, false, sym}
use Rattle.weak_maps.proofs.GuardLemmas.{guards_quiet}
use Rattle.weak_direct.proofs.FrameLemmas.{goes_on, quiet_on}
use Rattle.weak_direct.proofs.PutLemmas.{goes_over, goes_stops}
use Rattle.weak_direct.proofs.SettleLemmas.{lost_goes, lost_guards, won_guards, won_settles}
use Rattle.weak_direct.proofs.putting.publish.Goals as goal

pub returns-in_err-won-clause-guards : goal.returns-in_err-won-clause-guards
returns-in_err-won-clause-guards g c = λ old root v kr few held map placed t. guards_quiet (g.M.Direct.sizes c.args.m.now) root (g.M.Direct.domain c.args.m.now) old _ _ (c.exchange.ensures.stopped c.in_err-won.was)

pub returns-in_err-won-clause-stopped : goal.returns-in_err-won-clause-stopped
returns-in_err-won-clause-stopped g c = λ none old root v kr few held map placed t respects.
    goes_stops (g.M.Direct.sizes c.args.m.now) root (g.M.Direct.domain c.args.m.now) old _ (goes_over (g.M.Direct.sizes c.args.m.now) root (g.M.Direct.domain c.args.m.now) old _ _ t.on c.exchange.ensures.goes.passes.grows (c.exchange.ensures.stopped c.in_err-won.was) respects)

pub returns-then-not-is_yes-clause-guards : goal.returns-then-not-is_yes-clause-guards
returns-then-not-is_yes-clause-guards g c = λ old root v kr few held map placed t. lost_guards (g.M.Direct.sizes c.args.m.now) c.shows_inside.ensures.limits root (g.M.Direct.domain c.args.m.now) old _ c.args.label.now v kr few held c.args.from.index c.args.from.rest c.args.from.steps t _ c.in_ok-won.won c.in_ok-won.ensures.performed (λ e. let clash : true ≡ false = sym (c.is_yes.ensures.1 e) ∙ c.if-not-is_yes.true in cc)

pub returns-then-not-is_yes-clause-stopped : goal.returns-then-not-is_yes-clause-stopped
returns-then-not-is_yes-clause-stopped g c = λ none old root v kr few held map placed t respects. goes_stops (g.M.Direct.sizes c.args.m.now) root (g.M.Direct.domain c.args.m.now) old _ (lost_goes (g.M.Direct.sizes c.args.m.now) c.shows_inside.ensures.limits root (g.M.Direct.domain c.args.m.now) old _ c.args.label.now v kr few held c.args.from.index c.args.from.rest c.args.from.steps t _ c.in_ok-won.won c.in_ok-won.ensures.performed (λ e. let clash : true ≡ false = sym (c.is_yes.ensures.1 e) ∙ c.if-not-is_yes.true in cc) respects)

pub returns-clause-goes : goal.returns-clause-goes
returns-clause-goes g c = goes_on c.exchange.ensures.goes c.clear.ensures.looks.goes

pub returns-clause-guards : goal.returns-clause-guards
returns-clause-guards g c = λ old root v kr few held map placed t. won_guards (g.M.Direct.sizes c.args.m.now) c.shows_inside.ensures.limits root (g.M.Direct.domain c.args.m.now) old _ c.args.label.now v kr few held c.args.from.index c.args.from.rest c.args.from.steps t _ c.in_ok-won.won c.in_ok-won.ensures.performed (c.is_yes.ensures.0 c.if-not-is_yes.false) _ c.clear.ensures.looks.goes.passes.grows (quiet_on c.exchange.ensures.goes.keeps.stays c.clear.ensures.looks)

pub returns-clause-settled : goal.returns-clause-settled
returns-clause-settled g c = λ old root v kr few held map placed t respects.
    won_settles (g.M.Direct.sizes c.args.m.now) c.shows_inside.ensures.limits root (g.M.Direct.domain c.args.m.now) old _ c.args.label.now v kr few held c.args.from.index c.args.from.rest c.args.from.steps t _ c.in_ok-won.won c.in_ok-won.ensures.performed (c.is_yes.ensures.0 c.if-not-is_yes.false) _ c.clear.ensures.looks.goes.passes.grows (quiet_on c.exchange.ensures.goes.keeps.stays c.clear.ensures.looks) (returns-clause-goes g c).passes.keeps respects
