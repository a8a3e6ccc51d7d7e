use Rattle.std.proofs.Common.{◌≡◌, ◌∙◌, ◌+◌, ◌-◌, ◌<◌, suc, sym, subst, ℕ, true, false, refl, ap, cond, arith}
use Rattle.weak_laws.specs.Tables.Performing.{full_of}
use Rattle.model_core.specs.declared.state.Sizes.{Sizes}
use Rattle.weak_tables.specs.Frames.{Spends}
use Rattle.weak_tables.specs.Walks.{Filled}
use Rattle.weak_tables.proofs.FrameLemmas.{keeps_all, keeps_spends, spends_one, spends_both, spends_on}
use Rattle.weak_tables.proofs.TakeLemmas.{at_sizes}
use Rattle.weak_tables.proofs.MakingLemmas.{filled_refused, filled_next}
use Rattle.weak_tables.proofs.making.fill.Goals as goal

pub slots-init : goal.slots-init
slots-init g c =
    let z : Sizes = g.M.Machine.sizes c.args.m.now in
    let all : c.args.slots ≡ c.args.slots - 0 = omega arith in
    record { spends = keeps_spends 0 0 (keeps_all c.args.m.now); given = refl; filled = λ first root x. subst (λ (n : ℕ). Filled z first (g.M.Machine.front c.args.m.now) root 0 n) all x }

pub slots-preserved : goal.slots-preserved
slots-preserved g c =
    let z : Sizes = g.M.Machine.sizes c.args.m.now in
    let s1 : g.M.Machine.sizes c.perform-ephe.new.m ≡ z = c.perform-ephe.ensures.sizes ∙ c.slots.invariant.spends.sizes in
    let room : full_of c.perform-ephe.result ≡ 0 = c.is_full.ensures.count ∙ ap (λ b. cond b 1 0) c.if-is_full.false in
    let one : Spends g.M.Machine.sizes g.M.Machine.labels_left g.M.Machine.ephes_room 1 1 c.slots.m c.perform-ephe.new.m = spends_one 1 1 _ _ c.perform-ephe.ensures.sizes c.perform-ephe.ensures.labels c.perform-ephe.ensures.given c.perform-ephe.ensures.room in
    let below : c.slots.index < c.args.slots = omega arith in
    let left : c.args.slots - c.slots.index ≡ suc (c.args.slots - (c.slots.index + 1)) = omega (arith, below) in record {
      spends = spends_on (spends_both c.slots.invariant.spends one) c.store-stored.ensures.passes.keeps;
      given = (let f0 = c.slots.invariant.given in let f1 = c.perform-ephe.ensures.refused in let f2 = c.store-stored.ensures.passes.given in omega (arith, f0, f1, f2, room));
      filled = λ first root x.
          filled_next z c.shows_legal.ensures.limits first root (g.M.Machine.front c.slots.m) _ _ _ _ c.slots.index (c.args.slots - (c.slots.index + 1))
          (subst (λ (n : ℕ). Filled z first (g.M.Machine.front c.slots.m) root c.slots.index n) left (c.slots.invariant.filled first root x))
          (at_sizes z _ _ _ _ _ c.slots.invariant.spends.sizes c.perform-ephe.ensures.performed) (λ e. let clash : true ≡ false = sym (c.is_full.ensures.full.1 e) ∙ c.if-is_full.false in cc)
          (at_sizes z _ _ _ _ _ s1 c.store-stored.ensures.performed);
    }

pub returns-then-is_full-clause-fills : goal.returns-then-is_full-clause-fills
returns-then-is_full-clause-fills g c =
    let z : Sizes = g.M.Machine.sizes c.args.m.now in
    λ first root x. filled_refused z c.shows_legal.ensures.limits first root (g.M.Machine.front c.slots.m) _ _ c.slots.index _ (c.slots.invariant.filled first root x) (at_sizes z _ _ _ _ _ c.slots.invariant.spends.sizes c.perform-ephe.ensures.performed) (c.is_full.ensures.full.0 c.if-is_full.true)

pub returns-clause-fills : goal.returns-clause-fills
returns-clause-fills g c =
    let z : Sizes = g.M.Machine.sizes c.args.m.now in
    let all : c.slots.index ≡ c.args.slots = omega arith in
    let none : c.args.slots - c.slots.index ≡ 0 = omega (arith, all) in
    λ first root x. subst (λ (n : ℕ × ℕ). Filled z first (g.M.Machine.front c.slots.m) root n.0 n.1) (λ i. (all i, none i)) (c.slots.invariant.filled first root x)
