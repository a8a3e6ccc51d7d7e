use Rattle.std.proofs.Common.{◌≡◌, ◌∙◌, ◌-◌, ℕ, true, false, sym, subst, arith}
use Rattle.model_core.specs.declared.state.Sizes.{Sizes}
use Rattle.weak_maps.specs.declared.sweeps.sweeping.Held.{Held}
use Rattle.weak_maps.specs.Sweeps.Sweeps.{Peeks}
use Rattle.weak_maps.proofs.OfSweeps.SettleLemmas.{exchanged_at, peeks_at, settled_again, settled_first, settled_won}
use Rattle.weak_maps.proofs.sweeps.sweeping.settle.Goals as goal

pub returns-then-not-is_dead-clause-settled : goal.returns-then-not-is_dead-clause-settled
returns-then-not-is_dead-clause-settled g c =
    let z : Sizes = g.M.Machine.sizes c.args.m.now in
    let d : ℕ = g.M.Machine.domain c.args.m.now in
    let few = c.requires.few in
    λ root p l x narrow respects.
    settled_first z c.shows_legal.ensures.limits root d p l c.args.index c.args.block c.args.left (14 - c.args.left) few (let a = few.0 in omega (arith, a)) narrow _ _ c.peek-held.result c.is_inner.result
    (λ e. let clash : true ≡ false = sym (c.is_dead.ensures.1 e) ∙ c.if-not-is_dead.true in cc) c.is_inner.ensures x c.peek-held.ensures.peeked respects

pub returns-then-exchange-clause-settled : goal.returns-then-exchange-clause-settled
returns-then-exchange-clause-settled g c =
    let z : Sizes = g.M.Machine.sizes c.args.m.now in
    let d : ℕ = g.M.Machine.domain c.args.m.now in
    let few = c.requires.few in
    let dead = c.is_dead.ensures.0 c.if-not-is_dead.false in
    λ root p l x narrow respects.
    settled_won z c.shows_legal.ensures.limits root d p l c.args.index c.args.block c.args.left (14 - c.args.left) few (let a = few.0 in omega (arith, a)) narrow _ (g.M.Machine.front c.peek-held.new.m) _ x
    (subst (λ (h : Held). Peeks z d (g.M.Machine.front c.args.m.now) (g.M.Machine.front c.peek-held.new.m) c.args.block (14 - c.args.left) c.args.index h) dead c.peek-held.ensures.peeked)
    (exchanged_at z _ d _ _ _ c.args.block (14 - c.args.left) c.args.index true _ c.peek-held.ensures.leaves.stays.sizes c.peek-held.ensures.leaves.stays.domain c.if-exchange.true c.exchange.ensures.exchanged) respects

pub returns-clause-settled : goal.returns-clause-settled
returns-clause-settled g c =
    let z : Sizes = g.M.Machine.sizes c.args.m.now in
    let d : ℕ = g.M.Machine.domain c.args.m.now in
    let few = c.requires.few in
    let dead = c.is_dead.ensures.0 c.if-not-is_dead.false in
    λ root p l x narrow respects.
    settled_again z c.shows_legal.ensures.limits root d p l c.args.index c.args.block c.args.left (14 - c.args.left) few (let a = few.0 in omega (arith, a)) narrow _ (g.M.Machine.front c.peek-held.new.m) (g.M.Machine.front c.exchange.new.m) _ c.peek-again.result c.is_inner-2.result c.is_inner-2.ensures x
    (subst (λ (h : Held). Peeks z d (g.M.Machine.front c.args.m.now) (g.M.Machine.front c.peek-held.new.m) c.args.block (14 - c.args.left) c.args.index h) dead c.peek-held.ensures.peeked)
    (exchanged_at z _ d _ _ _ c.args.block (14 - c.args.left) c.args.index false _ c.peek-held.ensures.leaves.stays.sizes c.peek-held.ensures.leaves.stays.domain c.if-exchange.false c.exchange.ensures.exchanged)
    (peeks_at z _ d _ _ _ c.args.block (14 - c.args.left) c.args.index c.peek-again.result (c.exchange.ensures.leaves.stays.sizes ∙ c.peek-held.ensures.leaves.stays.sizes) (c.exchange.ensures.leaves.stays.domain ∙ c.peek-held.ensures.leaves.stays.domain) c.peek-again.ensures.peeked)
    c.peek-again.ensures.leaves.grows respects
