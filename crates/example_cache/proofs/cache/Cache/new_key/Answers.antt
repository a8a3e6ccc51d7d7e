use Rattle.std.proofs.Common.{◌∙◌, inl, None, refl, ap, subst, arith}
use Rattle.run_session.specs.Sessions.{SessionView}
use Rattle.example_cache.specs.Caching.{CacheView, IsCache}
use Rattle.example_cache.proofs.Entries.{keeps_same}
use Rattle.example_cache.proofs.Calls.{key_made, key_refused}
use Rattle.example_cache.proofs.cache.Cache.new_key.Goals as goal

pub returns-then-labels_left-lt1-clause-entries : goal.returns-then-labels_left-lt1-clause-entries
returns-then-labels_left-lt1-clause-entries g c = keeps_same c.args.self.now c.args.self.now refl refl (subst IsCache c.self.view_is c.self.invariant) refl None

pub returns-in-Block-clause-key : goal.returns-in-Block-clause-key
returns-in-Block-clause-key g c = key_made c.args.self.now c.make_spare.new.self c.make_spare.ensures.limits c.make_spare.ensures.sizes c.args.r c.requires.few c.make_spare.result c.in-Block.field-0 c.in-Block.is c.make_spare.ensures.performed

pub returns-in-Block-clause-registers : goal.returns-in-Block-clause-registers
returns-in-Block-clause-registers g c = λ r small other. c.make_spare.ensures.registers r other

pub returns-in_default-clause-key : goal.returns-in_default-clause-key
returns-in_default-clause-key g c = key_refused c.args.self.now c.make_spare.new.self c.make_spare.ensures.limits c.make_spare.ensures.sizes c.args.r c.requires.few c.make_spare.result c.in_default.not-Block c.make_spare.ensures.performed

pub returns-then-labels_left-lt1-clause-key : goal.returns-then-labels_left-lt1-clause-key
returns-then-labels_left-lt1-clause-key g c =
    let labels = ap (λ (s : SessionView). s.labels) (c.session.ensures ∙ ap (λ (v : CacheView). v.heap) c.self.view_is) in
    let left = c.labels_left.ensures in
    let none = c.if-labels_left-lt1.true in
    inl (omega (arith, labels, left, none), refl)

pub returns-in_default-clause-registers : goal.returns-in_default-clause-registers
returns-in_default-clause-registers g c = λ r small other. c.make_spare.ensures.registers r other
