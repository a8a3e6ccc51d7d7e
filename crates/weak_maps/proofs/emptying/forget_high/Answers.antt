use Rattle.std.proofs.Common.{◌≡◌, ◌<◌, ◌≤◌, ℕ, List, subst, arith, rules}
use Rattle.model_core.specs.declared.entry.Entry.{Entry}
use Rattle.model_core.specs.declared.state.Sizes.{Sizes}
use Rattle.weak_maps.specs.Cleans.{EmptiedHigh}
use Rattle.weak_maps.proofs.MachineLemmas.{at_machine}
use Rattle.weak_maps.proofs.EmptyLemmas.{emptied_more, emptied_none}
use Rattle.weak_maps.proofs.FrameLemmas.{leaves_same, leaves_trans, spends_none}
use Rattle.weak_maps.proofs.CleanLemmas.{high_spared}
use Rattle.weak_maps.proofs.emptying.forget_high.Goals as goal

pub registers-init : goal.registers-init
registers-init g c = record {
  leaves = leaves_same;
  forgot = emptied_none (g.M.Machine.sizes c.args.m.now) c.shows_legal.ensures.limits (g.M.Machine.domain c.args.m.now) (g.M.Machine.front c.args.m.now);
}

pub registers-preserved : goal.registers-preserved
registers-preserved g c =
    let z : Sizes = g.M.Machine.sizes c.args.m.now in
    let d : ℕ = g.M.Machine.domain c.args.m.now in
    let old : List Entry = g.M.Machine.front c.args.m.now in
    let now : List Entry = g.M.Machine.front c.registers.m in
    let new : List Entry = g.M.Machine.front c.perform-empty.new.m in
    let s0 : g.M.Machine.sizes c.registers.m ≡ z = c.registers.invariant.leaves.stays.sizes in
    let o0 : g.M.Machine.domain c.registers.m ≡ d = c.registers.invariant.leaves.stays.domain in
    let p = at_machine z _ d _ now new _ _ s0 o0 c.perform-empty.ensures.performed in
    let high : 8 ≤ c.registers.dst = search rules in
    let few : c.registers.dst < 16 = search rules in record {
      leaves = leaves_trans c.registers.invariant.leaves (spends_none (omega (arith, high_spared c.registers.dst high)) c.perform-empty.ensures.spends);
      forgot = emptied_more z c.shows_legal.ensures.limits d old now new c.registers.dst c.perform-empty.result high few c.registers.invariant.forgot p;
    }

pub returns-clause-forgot : goal.returns-clause-forgot
returns-clause-forgot g c =
    let all : c.registers.dst ≡ 16 = search rules in
    subst (λ (n : ℕ). EmptiedHigh (g.M.Machine.sizes c.args.m.now) (g.M.Machine.domain c.args.m.now) (g.M.Machine.front c.args.m.now) (g.M.Machine.front c.registers.m) n) all c.registers.invariant.forgot
