use Rattle.std.proofs.Common.{◌≡◌, ◌+◌, ◌∙◌, ap, length, arith, subst}
use Rattle.heap_rule.specs.declared.config.Config.{Config}
use Rattle.heap_rule.specs.Token.{Token}
use Rattle.run_alone.proofs.Keeping.{lone_calm, some_as, stands_on, told_on, tries_on}
use Rattle.run_alone.proofs.trying.try_on.Goals as goal

pub returns-then-next : goal.returns-then-next
returns-then-next c =
    let i = c.tries.invariant in record {
      tries = tries_on c.args.heap.now c.args.run.now c.tries.run c.go_on.new.run c.go_on.result i.0 i.1 (some_as c.args.run.now c.tries.run i.1 c.requires.some) c.go_on.ensures.here c.shows_faithful.ensures c.go_on.ensures.answer i.2 c.config-limits.ensures.limits
          (subst (λ (t : Token). t.view.own.remembered.room + length t.view.own.remembered.items ≡ t.config.minor_words) c.domain.ensures c.remembered_len-remembered.ensures.whole ∙ ap (λ (k : Config). k.minor_words) i.0.here.1)
          (λ same. let other = c.if-next.true in let now = c.next.ensures.next in let was = c.next-next.ensures.next in absurd (omega (arith, other, now, was, same)));
    }

pub returns-then-wants : goal.returns-then-wants
returns-then-wants c =
    let i = c.tries.invariant in record {
      tries = tries_on c.args.heap.now c.args.run.now c.tries.run c.go_on.new.run c.go_on.result i.0 i.1 (some_as c.args.run.now c.tries.run i.1 c.requires.some) c.go_on.ensures.here c.shows_faithful.ensures c.go_on.ensures.answer i.2 c.config-limits.ensures.limits
          (subst (λ (t : Token). t.view.own.remembered.room + length t.view.own.remembered.items ≡ t.config.minor_words) c.domain.ensures c.remembered_len-remembered.ensures.whole ∙ ap (λ (k : Config). k.minor_words) i.0.here.1)
          (λ same. c.wants.ensures.yes c.if-wants.true);
    }

pub tries-preserved : goal.tries-preserved
tries-preserved c =
    let i = c.tries.invariant in
    let some = some_as c.args.run.now c.tries.run i.1 c.requires.some in
    let next : c.go_on.new.run.next ≡ c.args.run.now.next = (let same = c.if-next.false in let now = c.next.ensures.next in let was = c.next-next.ensures.next in omega (arith, same, now, was)) in (
      lone_calm c.args.heap.now c.tries.run c.go_on.new.run c.go_on.result i.0 i.1.left some c.go_on.ensures.here c.shows_faithful.ensures c.go_on.ensures.answer,
      (stands_on c.args.heap.now c.args.run.now c.tries.run c.go_on.new.run c.go_on.result i.0 i.1 some c.go_on.ensures.here c.shows_faithful.ensures c.go_on.ensures.answer next (c.wants.ensures.no c.if-wants.false)).0,
      told_on c.args.heap.now c.args.run.now c.tries.run c.go_on.new.run c.go_on.result i.0 i.1 some c.go_on.ensures.here c.shows_faithful.ensures c.go_on.ensures.answer i.2,
      i.3,
    )

pub tries-smaller : goal.tries-smaller
tries-smaller c =
    let i = c.tries.invariant in
    let some = some_as c.args.run.now c.tries.run i.1 c.requires.some in
    let next : c.go_on.new.run.next ≡ c.args.run.now.next = (let same = c.if-next.false in let now = c.next.ensures.next in let was = c.next-next.ensures.next in omega (arith, same, now, was)) in
    (stands_on c.args.heap.now c.args.run.now c.tries.run c.go_on.new.run c.go_on.result i.0 i.1 some c.go_on.ensures.here c.shows_faithful.ensures c.go_on.ensures.answer next (c.wants.ensures.no c.if-wants.false)).1
