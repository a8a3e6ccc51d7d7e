use Rattle.std.proofs.Common.{◌≡◌, ◌∙◌, ℕ, ◌+◌, ◌-◌, ◌≤◌, [], ◌∷◌, ◌++◌, sym, ap, subst, arith}
use Rattle.heap_words.specs.Remembered.Bounded.{Bounded}
use Rattle.heap_words.specs.declared.value.Value.TheVariants.{Nothing}
use Rattle.heap_rule.specs.declared.view.Own.{Own}
use Rattle.heap_rule.proofs.ChangeLemmas.{changed_only}
use Rattle.step_pools.proofs.taking.ListingWriting.write.Goals as goal

pub push-requires : goal.push-requires
push-requires c =
    let same : c.make_changes.new.own.ephemerons.room ≡ c.args.own.now.ephemerons.room = ap (λ (o : Own). o.ephemerons.room) (c.make_changes.ensures ∙ changed_only Nothing c.args.changes.now c.args.own.now) in
    subst (λ (n : ℕ). 1 ≤ n) (sym same) c.requires.2

pub returns : goal.returns
returns c =
    let at : ℕ = c.args.self.now.at in
    let list : Bounded ℕ = c.args.own.now.ephemerons in
    let same : c.make_changes.new.own.ephemerons ≡ list = ap (λ (o : Own). o.ephemerons) (c.make_changes.ensures ∙ changed_only Nothing c.args.changes.now c.args.own.now) in
    let items : c.push.new.self.items ≡ list.items ++ at ∷ [] = c.push.ensures.items ∙ ap (λ (b : Bounded ℕ). b.items ++ at ∷ []) same in
    let left : ℕ = c.push.new.self.room in
    let all : ℕ = list.room in
    let one_less : left + 1 ≡ all = c.push.ensures.room ∙ ap (λ (b : Bounded ℕ). b.room) same in
    let room : left ≡ all - 1 = omega arith in
    λ i. record (c.make_changes.ensures i) { serial = c.args.own.now.serial + 1; ephemerons = record { items = items i; room = room i } }
