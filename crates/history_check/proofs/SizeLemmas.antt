-- A heap of one domain has room where one of several with the same other sizes has.
use Rattle.std.proofs.Common.{ℕ, zero, suc, ◌+◌, ◌*◌, ◌≤◌, ◌/◌, arith}
use Rattle.model_core.specs.declared.state.Sizes.{Sizes}
use Rattle.model_core.specs.Domains.{IsWithinLimits, least_pools}

once : (d x : ℕ) → 1 ≤ d → 1 * x ≤ d * x
once zero x some = absurd (omega (arith, some))
once (suc d) x some = omega arith

fewer_pools : (z : Sizes) → IsWithinLimits z → least_pools (record z { domains = 1 }) ≤ z.pools
fewer_pools z l =
    let reserve = once z.domains (z.minor_words / 4096 + z.classes) l.some_domain in
    let own = once z.domains z.classes l.some_domain in
    let enough = l.some_pools in
    omega (arith, reserve, own, enough)

pub alone : (z : Sizes) → IsWithinLimits z → IsWithinLimits (record z { domains = 1 })
alone z l = record {
  some_domain = omega arith;
  domains = omega arith;
  some_minor = l.some_minor;
  minor_words = l.minor_words;
  whole_pools = l.whole_pools;
  classes = l.classes;
  some_pools = fewer_pools z l;
  pools = l.pools;
}
