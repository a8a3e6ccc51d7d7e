use Rattle.std.proofs.Common.{◌≡◌, ◌∙◌, ℕ, ◌≤◌, sym, ap, subst}
use Rattle.heap_words.specs.declared.value.Value.TheVariants.{Nothing}
use Rattle.heap_rule.specs.declared.view.Own.{Own}
use Rattle.heap_rule.proofs.ChangeLemmas.{changed_only}
use Rattle.step_run.proofs.exchange.exchanging.ExchangingWriting.write.Goals as goal

pub push-requires : goal.push-requires
push-requires c =
    let same : c.make_changes.new.own.remembered.room ≡ c.args.own.now.remembered.room = ap (λ (o : Own). o.remembered.room) (c.make_changes.ensures ∙ changed_only Nothing c.args.changes.now c.args.own.now) in
    subst (λ (n : ℕ). 1 ≤ n) (sym same) (c.requires.1 c.if-self.true)
