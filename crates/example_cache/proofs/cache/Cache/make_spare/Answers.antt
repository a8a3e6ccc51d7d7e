use Rattle.std.proofs.Common.{◌≡◌, ◌-◌, ◌≤◌, ℕ, refl, ap, subst, sym}
use Rattle.model_core.specs.Counts.Counts.{labels_of}
use Rattle.model_core.specs.Domains.{IsWithinLimits}
use Rattle.heap_rule.specs.Limits.{sizes_in}
use Rattle.run_session.specs.Sessions.{SessionView}
use Rattle.example_cache.specs.Caching.{CacheView, IsKept, KeepsAll, holds}
use Rattle.example_cache.proofs.Entries.{spare_is, spare_keeps, spare_registers}
use Rattle.example_cache.proofs.Calls.{may_spare}
use Rattle.example_cache.proofs.cache.Cache.make_spare.Goals as goal

pub command-requires : goal.command-requires
command-requires g c = record { may = may_spare c.self.inside.heap c.args.command c.requires.spares (subst (λ (v : CacheView). labels_of c.args.command ≤ 4294967295 - v.heap.labels) (sym c.self.view_is) c.requires.label) }

pub invariant_of-self : goal.invariant_of-self
invariant_of-self g c =
    let old : CacheView = record { heap = c.self.inside.heap; most = c.self.inside.most } in
    let new : CacheView = record { heap = c.command.new.self; most = c.self.inside.most } in
    spare_is old new (ap sizes_in c.command.ensures.config) refl c.self.invariant (subst (λ (s : SessionView). IsWithinLimits (sizes_in s.config)) c.session.ensures c.shows_legal.ensures.limits) c.args.command c.command.result c.requires.spares c.command.ensures.performed

pub returns-clause-entries : goal.returns-clause-entries
returns-clause-entries g c =
    let old : CacheView = record { heap = c.self.inside.heap; most = c.self.inside.most } in
    let new : CacheView = record { heap = c.command.new.self; most = c.self.inside.most } in
    subst (λ (v : CacheView). KeepsAll v new) c.self.view_is (spare_keeps old new (ap sizes_in c.command.ensures.config) refl c.self.invariant (subst (λ (s : SessionView). IsWithinLimits (sizes_in s.config)) c.session.ensures c.shows_legal.ensures.limits) c.args.command c.command.result c.requires.spares c.command.ensures.performed)

pub returns-clause-registers : goal.returns-clause-registers
returns-clause-registers g c =
    let old : CacheView = record { heap = c.self.inside.heap; most = c.self.inside.most } in
    let new : CacheView = record { heap = c.command.new.self; most = c.self.inside.most } in
    subst (λ (v : CacheView). (i : ℕ) → IsKept c.args.command i → holds new i ≡ holds v i) c.self.view_is (spare_registers old new (ap sizes_in c.command.ensures.config) refl c.self.invariant (subst (λ (s : SessionView). IsWithinLimits (sizes_in s.config)) c.session.ensures c.shows_legal.ensures.limits) c.args.command c.command.result c.requires.spares c.command.ensures.performed)
