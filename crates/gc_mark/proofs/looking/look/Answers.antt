use Rattle.std.proofs.Common.{◌+◌, ◌*◌, ◌<◌, ◌≤◌, ℕ, ap, subst}
use Rattle.heap_rule.specs.declared.config.Config.{Config}
use Rattle.heap_rule.specs.declared.view.DomainView.{DomainView}
use Rattle.gc_mark.specs.Slices.{LookedAtHint}
use Rattle.gc_mark.proofs.Addresses.{here_inside, here_low, no_grey, owner_known, owner_vain, place_looked, place_may, pool_may, vain_looked}
use Rattle.gc_mark.proofs.looking.look.Goals as goal

pub beside_owner_load-owner-requires-clause-may : goal.beside_owner_load-owner-requires-clause-may
beside_owner_load-owner-requires-clause-may g c =
    let at : ℕ = c.address-at.result in
    let pool : ℕ = c.pool_of-pool.result in
    pool_may c.args.heap.now.config g.colours c.args.dom.now.view at _ pool c.requires.1.0 (subst (λ (k : Config). pool < k.pools) c.config-pools.ensures.value c.pool_of-pool.ensures.below)
    (ap (λ (k : Config). 11 + k.pools + pool) c.config-pools.ensures.value)
    (subst (λ (k : Config). at ≤ k.pools * 4096 → (pool * 4096 < at) × (at ≤ pool * 4096 + 4096)) c.config-pools.ensures.value c.pool_of-pool.ensures.inside)

pub returns-in_default-clause-looked : goal.returns-in_default-clause-looked
returns-in_default-clause-looked g c =
    let at : ℕ = c.address-at.result in
    let x : DomainView = c.args.dom.now.view in
    let y : DomainView = c.beside_owner_load-owner.new.dom.view in
    subst (λ (n : ℕ). LookedAtHint g.colours n x 0 y) c.address-at.ensures.address (vain_looked g.colours x y at c.requires.1.1 (owner_vain x y at c.pool_of-pool.result c.beside_owner_load-owner.result c.beside_owner_load-owner.ensures.told c.in_default.ensures))

pub beside_place_load-requires-clause-inside : goal.beside_place_load-requires-clause-inside
beside_place_load-requires-clause-inside g c = here_inside c.args.heap.now.config c.beside_owner_load-owner.result c.address-at.result c.pool_of-pool.result c.in-Some.place.class c.in-Some.place.slot (subst (λ (k : Config). c.pool_of-pool.result < k.pools) c.config-pools.ensures.value c.pool_of-pool.ensures.below) c.in-Some.ensures

pub beside_place_load-requires-clause-may : goal.beside_place_load-requires-clause-may
beside_place_load-requires-clause-may g c =
    let x : DomainView = c.args.dom.now.view in
    let y : DomainView = c.beside_owner_load-owner.new.dom.view in
    place_may g.colours x y c.beside_owner_load-owner.result c.address-at.result c.pool_of-pool.result c.in-Some.place.class c.in-Some.place.slot c.requires.1.0
    (owner_known x y c.address-at.result c.pool_of-pool.result c.beside_owner_load-owner.result c.in-Some.place.class c.in-Some.place.slot c.beside_owner_load-owner.ensures.told c.in-Some.ensures)
    c.in-Some.ensures

pub returns-clause-looked : goal.returns-clause-looked
returns-clause-looked g c =
    let at : ℕ = c.address-at.result in
    let x : DomainView = c.args.dom.now.view in
    let y : DomainView = c.beside_owner_load-owner.new.dom.view in
    let z : DomainView = c.beside_place_load.new.dom.view in
    let word : ℕ = c.beside_place_load.result in
    let known = owner_known x y at c.pool_of-pool.result c.beside_owner_load-owner.result c.in-Some.place.class c.in-Some.place.slot c.beside_owner_load-owner.ensures.told c.in-Some.ensures in
    subst (λ (n : ℕ). LookedAtHint g.colours n x word z) c.address-at.ensures.address (place_looked g.colours x y z at c.pool_of-pool.result c.in-Some.place.class word c.requires.1.1 c.requires.1.0 known c.beside_place_load.ensures.told)

pub returns-in_default-clause-inside : goal.returns-in_default-clause-inside
returns-in_default-clause-inside g c = λ grey. absurd (no_grey g.colours c.requires.1.1 grey)

pub returns-clause-inside : goal.returns-clause-inside
returns-clause-inside g c = λ grey.
    subst (λ (n : ℕ). n ≤ c.args.heap.now.config.pools * 4096) c.address-at.ensures.address
    (here_low c.args.heap.now.config c.beside_owner_load-owner.result c.address-at.result c.pool_of-pool.result c.in-Some.place.class c.in-Some.place.slot (subst (λ (k : Config). c.pool_of-pool.result < k.pools) c.config-pools.ensures.value c.pool_of-pool.ensures.below) c.in-Some.ensures)
