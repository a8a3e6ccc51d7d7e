use Rattle.std.proofs.Common.{◌≡◌, ◌∙◌, cond, true, false, sym, ap, arith}
use Rattle.weak_maps.proofs.GuardLemmas.{guards_quiet, guards_since}
use Rattle.weak_maps.proofs.PutLemmas.{leaf_guards, leaf_refused, leaf_whole}
use Rattle.weak_maps.proofs.StayLemmas.{prefix_same}
use Rattle.weak_direct.proofs.FrameLemmas.{given_on, looks_of, performed_on, quiet_on, spends_on}
use Rattle.weak_direct.proofs.PutLemmas.{begun_guarded, begun_stops, filled_guarded, filled_stops, goes_quiet}
use Rattle.weak_direct.proofs.putting.make_leaf.Goals as goal

pub returns-in_err-made-clause-guards : goal.returns-in_err-made-clause-guards
returns-in_err-made-clause-guards g c = λ root k held some map. guards_quiet (g.M.Direct.sizes c.args.m.now) root (g.M.Direct.domain c.args.m.now) _ _ _ (c.allocate.ensures.stopped c.in_err-made.was)

pub returns-in_err-made-clause-stopped : goal.returns-in_err-made-clause-stopped
returns-in_err-made-clause-stopped g c = λ none root k held some map respects. goes_quiet (g.M.Direct.sizes c.args.m.now) root (g.M.Direct.domain c.args.m.now) _ _ map c.allocate.ensures.spends.strides.grows (c.allocate.ensures.stopped c.in_err-made.was) respects

pub returns-then-is_full-clause-labels : goal.returns-then-is_full-clause-labels
returns-then-is_full-clause-labels g c = let full = c.is_full.ensures.count ∙ ap (λ b. cond b 1 0) c.if-is_full.true in let l = c.in_ok-made.ensures.made.labels in omega (arith, l, full)

pub returns-then-is_full-clause-refused : goal.returns-then-is_full-clause-refused
returns-then-is_full-clause-refused g c = let full = c.is_full.ensures.count ∙ ap (λ b. cond b 1 0) c.if-is_full.true in let f = c.in_ok-made.ensures.made.refused in omega (arith, f, full)

pub returns-then-is_full-clause-made : goal.returns-then-is_full-clause-made
returns-then-is_full-clause-made g c = λ root k held some map respects. leaf_refused (g.M.Direct.sizes c.args.m.now) c.shows_inside.ensures.limits root (g.M.Direct.domain c.args.m.now) _ _ c.in_ok-made.made c.in_ok-made.ensures.made.performed (c.is_full.ensures.full.0 c.if-is_full.true) map respects

pub returns-then-is_full-clause-guards : goal.returns-then-is_full-clause-guards
returns-then-is_full-clause-guards g c = λ root k held some map.
    guards_since (g.M.Direct.sizes c.args.m.now) root (g.M.Direct.domain c.args.m.now) _ _ _ _ _ c.in_ok-made.ensures.made.performed (prefix_same _)
    (λ others. (leaf_refused (g.M.Direct.sizes c.args.m.now) c.shows_inside.ensures.limits root (g.M.Direct.domain c.args.m.now) _ _ c.in_ok-made.made c.in_ok-made.ensures.made.performed (c.is_full.ensures.full.0 c.if-is_full.true) map others).on.looks.respects)

pub returns-in_err-_datum-clause-spends : goal.returns-in_err-_datum-clause-spends
returns-in_err-_datum-clause-spends g c = spends_on c.allocate.ensures.spends c.step.ensures.goes

pub returns-in_err-_datum-clause-guards : goal.returns-in_err-_datum-clause-guards
returns-in_err-_datum-clause-guards g c = λ root k held some map. begun_guarded (g.M.Direct.sizes c.args.m.now) c.shows_inside.ensures.limits root (g.M.Direct.domain c.args.m.now) _ _ c.in_ok-made.made map c.in_ok-made.ensures.made.performed (λ e. let clash : true ≡ false = sym (c.is_full.ensures.full.1 e) ∙ c.if-is_full.false in cc) _ c.step.ensures.goes.passes.grows (quiet_on c.allocate.ensures.spends.stays (looks_of c.step.ensures.goes (c.step.ensures.stopped c.in_err-_datum.was)))

pub returns-in_err-_datum-clause-stopped : goal.returns-in_err-_datum-clause-stopped
returns-in_err-_datum-clause-stopped g c = λ none root k held some map respects. begun_stops (g.M.Direct.sizes c.args.m.now) c.shows_inside.ensures.limits root (g.M.Direct.domain c.args.m.now) _ _ c.in_ok-made.made map c.in_ok-made.ensures.made.performed (λ e. let clash : true ≡ false = sym (c.is_full.ensures.full.1 e) ∙ c.if-is_full.false in cc) _ c.step.ensures.goes.passes.grows (quiet_on c.allocate.ensures.spends.stays (looks_of c.step.ensures.goes (c.step.ensures.stopped c.in_err-_datum.was))) respects

pub returns-in_err-_key-clause-spends : goal.returns-in_err-_key-clause-spends
returns-in_err-_key-clause-spends g c = spends_on (spends_on c.allocate.ensures.spends c.step.ensures.goes) c.step-2.ensures.goes

pub returns-in_err-_key-clause-guards : goal.returns-in_err-_key-clause-guards
returns-in_err-_key-clause-guards g c = λ root k held some map.
    filled_guarded (g.M.Direct.sizes c.args.m.now) c.shows_inside.ensures.limits root (g.M.Direct.domain c.args.m.now) _ _ c.in_ok-made.made map c.in_ok-made.ensures.made.performed (λ e. let clash : true ≡ false = sym (c.is_full.ensures.full.1 e) ∙ c.if-is_full.false in cc) _ _ c.args.item c.requires.few.1 some (performed_on c.allocate.ensures.spends.stays c.in_ok-_datum.ensures.performed) _ c.step-2.ensures.goes.passes.grows (quiet_on (spends_on c.allocate.ensures.spends c.step.ensures.goes).stays (looks_of c.step-2.ensures.goes (c.step-2.ensures.stopped c.in_err-_key.was)))

pub returns-in_err-_key-clause-stopped : goal.returns-in_err-_key-clause-stopped
returns-in_err-_key-clause-stopped g c = λ none root k held some map respects.
    filled_stops (g.M.Direct.sizes c.args.m.now) c.shows_inside.ensures.limits root (g.M.Direct.domain c.args.m.now) _ _ c.in_ok-made.made map c.in_ok-made.ensures.made.performed (λ e. let clash : true ≡ false = sym (c.is_full.ensures.full.1 e) ∙ c.if-is_full.false in cc) _ _ c.args.item c.requires.few.1 some (performed_on c.allocate.ensures.spends.stays c.in_ok-_datum.ensures.performed) _ c.step-2.ensures.goes.passes.grows (quiet_on (spends_on c.allocate.ensures.spends c.step.ensures.goes).stays (looks_of c.step-2.ensures.goes (c.step-2.ensures.stopped c.in_err-_key.was))) respects

pub returns-clause-spends : goal.returns-clause-spends
returns-clause-spends g c = spends_on (spends_on c.allocate.ensures.spends c.step.ensures.goes) c.step-2.ensures.goes

pub returns-clause-guards : goal.returns-clause-guards
returns-clause-guards g c = λ root k held some map.
    leaf_guards (g.M.Direct.sizes c.args.m.now) c.shows_inside.ensures.limits root (g.M.Direct.domain c.args.m.now) _ _ _ _ c.in_ok-made.made _ _ c.args.key c.args.item c.requires.few.0 c.requires.few.1 k held some map c.in_ok-made.ensures.made.performed (performed_on c.allocate.ensures.spends.stays c.in_ok-_datum.ensures.performed) (performed_on (spends_on c.allocate.ensures.spends c.step.ensures.goes).stays c.in_ok-_key.ensures.performed) (λ e. let clash : true ≡ false = sym (c.is_full.ensures.full.1 e) ∙ c.if-is_full.false in cc)

pub returns-clause-made : goal.returns-clause-made
returns-clause-made g c = λ root k held some map respects.
    leaf_whole (g.M.Direct.sizes c.args.m.now) c.shows_inside.ensures.limits root (g.M.Direct.domain c.args.m.now) _ _ _ _ c.in_ok-made.made _ _ c.args.key c.args.item c.requires.few.0 c.requires.few.1 k held some map c.in_ok-made.ensures.made.performed (performed_on c.allocate.ensures.spends.stays c.in_ok-_datum.ensures.performed) (performed_on (spends_on c.allocate.ensures.spends c.step.ensures.goes).stays c.in_ok-_key.ensures.performed) (λ e. let clash : true ≡ false = sym (c.is_full.ensures.full.1 e) ∙ c.if-is_full.false in cc) respects

pub returns-clause-labels : goal.returns-clause-labels
returns-clause-labels g c =
    let full = c.is_full.ensures.count ∙ ap (λ b. cond b 1 0) c.if-is_full.false in
    let l0 = c.in_ok-made.ensures.made.labels in
    let l1 = c.step.ensures.goes.keeps.labels in
    let l2 = c.step-2.ensures.goes.keeps.labels in
    omega (arith, l0, l1, l2, full)

pub returns-clause-refused : goal.returns-clause-refused
returns-clause-refused g c =
    let full = c.is_full.ensures.count ∙ ap (λ b. cond b 1 0) c.if-is_full.false in
    let f0 = c.in_ok-made.ensures.made.refused in
    let f1 = given_on c.allocate.ensures.spends.stays _ _ c.step.ensures.goes.passes.given in
    let f2 = given_on (spends_on c.allocate.ensures.spends c.step.ensures.goes).stays _ _ c.step-2.ensures.goes.passes.given in
    omega (arith, f0, f1, f2, full)
