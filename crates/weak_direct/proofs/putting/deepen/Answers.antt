use Rattle.std.proofs.Common.{◌≡◌, ◌∙◌, cond, true, false, sym, ap, arith}
use Rattle.weak_maps.proofs.GuardLemmas.{guards_quiet}
use Rattle.weak_direct.proofs.FrameLemmas.{given_on, looks_of, performed_on, quiet_on, spends_on}
use Rattle.weak_direct.proofs.PutLemmas.{goes_over, goes_stops}
use Rattle.weak_direct.proofs.SettleLemmas.{begun_guarded, begun_stops, filled_guarded, filled_stops, full_guards, full_settles, room_goes, room_guarded, stored_at}
use Rattle.weak_direct.proofs.putting.deepen.Goals as goal

pub returns-in_err-made-clause-guards : goal.returns-in_err-made-clause-guards
returns-in_err-made-clause-guards g c = λ old root v kr few held map placed t. guards_quiet (g.M.Direct.sizes c.args.m.now) root (g.M.Direct.domain c.args.m.now) old _ _ (c.allocate.ensures.stopped c.in_err-made.was)

pub returns-in_err-made-clause-stopped : goal.returns-in_err-made-clause-stopped
returns-in_err-made-clause-stopped g c = λ none old root v kr few held map placed t respects.
    goes_stops (g.M.Direct.sizes c.args.m.now) root (g.M.Direct.domain c.args.m.now) old _ (goes_over (g.M.Direct.sizes c.args.m.now) root (g.M.Direct.domain c.args.m.now) old _ _ t.on c.allocate.ensures.spends.strides.grows (c.allocate.ensures.stopped c.in_err-made.was) respects)

pub returns-then-is_full-clause-labels : goal.returns-then-is_full-clause-labels
returns-then-is_full-clause-labels g c =
    let full = c.is_full.ensures.count ∙ ap (λ b. cond b 1 0) c.if-is_full.true in
    let l0 = c.in_ok-made.ensures.made.labels in
    let l1 = c.clear.ensures.looks.goes.keeps.labels in
    omega (arith, l0, l1, full)

pub returns-then-is_full-clause-refused : goal.returns-then-is_full-clause-refused
returns-then-is_full-clause-refused g c =
    let full = c.is_full.ensures.count ∙ ap (λ b. cond b 1 0) c.if-is_full.true in
    let f0 = c.in_ok-made.ensures.made.refused in
    let f1 = given_on c.allocate.ensures.spends.stays _ _ c.clear.ensures.looks.goes.passes.given in
    omega (arith, f0, f1, full)

pub returns-then-is_full-clause-spends : goal.returns-then-is_full-clause-spends
returns-then-is_full-clause-spends g c = spends_on c.allocate.ensures.spends c.clear.ensures.looks.goes

pub returns-then-is_full-clause-guards : goal.returns-then-is_full-clause-guards
returns-then-is_full-clause-guards g c = λ old root v kr few held map placed t. full_guards (g.M.Direct.sizes c.args.m.now) c.shows_inside.ensures.limits root (g.M.Direct.domain c.args.m.now) old _ c.args.label.now v kr few held c.args.from.index c.args.from.rest c.args.from.steps c.args.other c.serial_of-serial.ensures.range c.serial_of-other_serial.ensures.range map placed t _ c.in_ok-made.made c.in_ok-made.ensures.made.performed (c.is_full.ensures.full.0 c.if-is_full.true) _ c.clear.ensures.looks.goes.passes.grows (quiet_on c.allocate.ensures.spends.stays c.clear.ensures.looks)

pub returns-then-is_full-clause-settled : goal.returns-then-is_full-clause-settled
returns-then-is_full-clause-settled g c = λ old root v kr few held map placed t respects.
    full_settles (g.M.Direct.sizes c.args.m.now) c.shows_inside.ensures.limits root (g.M.Direct.domain c.args.m.now) old _ c.args.label.now v kr few held c.args.from.index c.args.from.rest c.args.from.steps c.args.other c.serial_of-serial.ensures.range c.serial_of-other_serial.ensures.range map placed t _ c.in_ok-made.made c.in_ok-made.ensures.made.performed (c.is_full.ensures.full.0 c.if-is_full.true) _ c.clear.ensures.looks.goes.passes.grows (quiet_on c.allocate.ensures.spends.stays c.clear.ensures.looks) (returns-then-is_full-clause-spends g c).strides.keeps respects

pub returns-in_err-_leaf-clause-spends : goal.returns-in_err-_leaf-clause-spends
returns-in_err-_leaf-clause-spends g c = spends_on c.allocate.ensures.spends c.step.ensures.goes

pub returns-in_err-_leaf-clause-guards : goal.returns-in_err-_leaf-clause-guards
returns-in_err-_leaf-clause-guards g c = λ old root v kr few held map placed t. begun_guarded (g.M.Direct.sizes c.args.m.now) c.shows_inside.ensures.limits root (g.M.Direct.domain c.args.m.now) old _ c.args.label.now v kr few held c.args.from.index c.args.from.rest c.args.from.steps c.args.other c.serial_of-serial.ensures.range c.serial_of-other_serial.ensures.range map placed t _ c.in_ok-made.made c.in_ok-made.ensures.made.performed (λ e. let clash : true ≡ false = sym (c.is_full.ensures.full.1 e) ∙ c.if-is_full.false in cc) _ c.step.ensures.goes.passes.grows (quiet_on c.allocate.ensures.spends.stays (looks_of c.step.ensures.goes (c.step.ensures.stopped c.in_err-_leaf.was)))

pub returns-in_err-_leaf-clause-stopped : goal.returns-in_err-_leaf-clause-stopped
returns-in_err-_leaf-clause-stopped g c = λ none old root v kr few held map placed t respects.
    goes_stops (g.M.Direct.sizes c.args.m.now) root (g.M.Direct.domain c.args.m.now) old _ (begun_stops (g.M.Direct.sizes c.args.m.now) c.shows_inside.ensures.limits root (g.M.Direct.domain c.args.m.now) old _ c.args.label.now v kr few held c.args.from.index c.args.from.rest c.args.from.steps c.args.other c.serial_of-serial.ensures.range c.serial_of-other_serial.ensures.range map placed t _ c.in_ok-made.made c.in_ok-made.ensures.made.performed (λ e. let clash : true ≡ false = sym (c.is_full.ensures.full.1 e) ∙ c.if-is_full.false in cc) _ c.step.ensures.goes.passes.grows (quiet_on c.allocate.ensures.spends.stays (looks_of c.step.ensures.goes (c.step.ensures.stopped c.in_err-_leaf.was))) respects)

pub returns-in_err-_deeper-clause-spends : goal.returns-in_err-_deeper-clause-spends
returns-in_err-_deeper-clause-spends g c = spends_on (spends_on c.allocate.ensures.spends c.step.ensures.goes) c.exchange.ensures.goes

pub returns-in_err-_deeper-clause-guards : goal.returns-in_err-_deeper-clause-guards
returns-in_err-_deeper-clause-guards g c =
    let p1 = stored_at (g.M.Direct.sizes c.args.m.now) (g.M.Direct.domain c.args.m.now) _ _ _ c.args.other c.args.from.steps _ _ _ _ c.domains.ensures c.number_of.ensures.number c.rest_below-rest.ensures c.node_index.ensures (performed_on c.allocate.ensures.spends.stays c.in_ok-_leaf.ensures.performed) in
    λ old root v kr few held map placed t. filled_guarded (g.M.Direct.sizes c.args.m.now) c.shows_inside.ensures.limits root (g.M.Direct.domain c.args.m.now) old _ c.args.label.now v kr few held c.args.from.index c.args.from.rest c.args.from.steps c.args.other c.serial_of-serial.ensures.range c.serial_of-other_serial.ensures.range map placed t _ c.in_ok-made.made c.in_ok-made.ensures.made.performed (λ e. let clash : true ≡ false = sym (c.is_full.ensures.full.1 e) ∙ c.if-is_full.false in cc) _ _ p1 _ c.exchange.ensures.goes.passes.grows (quiet_on (spends_on c.allocate.ensures.spends c.step.ensures.goes).stays (looks_of c.exchange.ensures.goes (c.exchange.ensures.stopped c.in_err-_deeper.was)))

pub returns-in_err-_deeper-clause-stopped : goal.returns-in_err-_deeper-clause-stopped
returns-in_err-_deeper-clause-stopped g c =
    let p1 = stored_at (g.M.Direct.sizes c.args.m.now) (g.M.Direct.domain c.args.m.now) _ _ _ c.args.other c.args.from.steps _ _ _ _ c.domains.ensures c.number_of.ensures.number c.rest_below-rest.ensures c.node_index.ensures (performed_on c.allocate.ensures.spends.stays c.in_ok-_leaf.ensures.performed) in
    λ none old root v kr few held map placed t respects.
    goes_stops (g.M.Direct.sizes c.args.m.now) root (g.M.Direct.domain c.args.m.now) old _ (filled_stops (g.M.Direct.sizes c.args.m.now) c.shows_inside.ensures.limits root (g.M.Direct.domain c.args.m.now) old _ c.args.label.now v kr few held c.args.from.index c.args.from.rest c.args.from.steps c.args.other c.serial_of-serial.ensures.range c.serial_of-other_serial.ensures.range map placed t _ c.in_ok-made.made c.in_ok-made.ensures.made.performed (λ e. let clash : true ≡ false = sym (c.is_full.ensures.full.1 e) ∙ c.if-is_full.false in cc) _ _ p1 _ c.exchange.ensures.goes.passes.grows (quiet_on (spends_on c.allocate.ensures.spends c.step.ensures.goes).stays (looks_of c.exchange.ensures.goes (c.exchange.ensures.stopped c.in_err-_deeper.was))) respects)

pub returns-clause-spends : goal.returns-clause-spends
returns-clause-spends g c = spends_on (spends_on c.allocate.ensures.spends c.step.ensures.goes) c.exchange.ensures.goes

pub returns-clause-guards : goal.returns-clause-guards
returns-clause-guards g c =
    let p1 = stored_at (g.M.Direct.sizes c.args.m.now) (g.M.Direct.domain c.args.m.now) _ _ _ c.args.other c.args.from.steps _ _ _ _ c.domains.ensures c.number_of.ensures.number c.rest_below-rest.ensures c.node_index.ensures (performed_on c.allocate.ensures.spends.stays c.in_ok-_leaf.ensures.performed) in
    λ old root v kr few held map placed t. room_guarded (g.M.Direct.sizes c.args.m.now) c.shows_inside.ensures.limits root (g.M.Direct.domain c.args.m.now) old _ c.args.label.now v kr few held c.args.from.index c.args.from.rest c.args.from.steps c.args.other c.serial_of-serial.ensures.range c.serial_of-other_serial.ensures.range map placed t _ c.in_ok-made.made c.in_ok-made.ensures.made.performed (λ e. let clash : true ≡ false = sym (c.is_full.ensures.full.1 e) ∙ c.if-is_full.false in cc) _ _ p1 _ _ (performed_on (spends_on c.allocate.ensures.spends c.step.ensures.goes).stays c.in_ok-_deeper.ensures.performed)

pub returns-clause-stopped : goal.returns-clause-stopped
returns-clause-stopped g c =
    let p1 = stored_at (g.M.Direct.sizes c.args.m.now) (g.M.Direct.domain c.args.m.now) _ _ _ c.args.other c.args.from.steps _ _ _ _ c.domains.ensures c.number_of.ensures.number c.rest_below-rest.ensures c.node_index.ensures (performed_on c.allocate.ensures.spends.stays c.in_ok-_leaf.ensures.performed) in
    λ none old root v kr few held map placed t respects. goes_stops (g.M.Direct.sizes c.args.m.now) root (g.M.Direct.domain c.args.m.now) old _ (room_goes (g.M.Direct.sizes c.args.m.now) c.shows_inside.ensures.limits root (g.M.Direct.domain c.args.m.now) old _ c.args.label.now v kr few held c.args.from.index c.args.from.rest c.args.from.steps c.args.other c.serial_of-serial.ensures.range c.serial_of-other_serial.ensures.range map placed t _ c.in_ok-made.made c.in_ok-made.ensures.made.performed (λ e. let clash : true ≡ false = sym (c.is_full.ensures.full.1 e) ∙ c.if-is_full.false in cc) _ _ p1 _ _ (performed_on (spends_on c.allocate.ensures.spends c.step.ensures.goes).stays c.in_ok-_deeper.ensures.performed) respects)
