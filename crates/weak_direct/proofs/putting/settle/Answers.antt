use Rattle.std.proofs.Common.{◌≡◌, ◌+◌, Option, Some, None, sym, subst, arith}
use Rattle.model_core.specs.declared.label.Label.{Label}
use Rattle.model_core.specs.declared.reply.Reply.TheVariants as reply
use Rattle.std.specs.Option.{IfSome}
use Rattle.std.proofs.lemmas.Option.{IfSome_then}
use Rattle.weak_maps.specs.Beside.{refusals_by}
use Rattle.weak_maps.specs.Guards.{SettleGuards}
use Rattle.weak_direct.specs.Puts.{SettleSpends, SettleStops, Settles}
use Rattle.weak_direct.proofs.FrameLemmas.{goes_spends}
use Rattle.weak_direct.proofs.TryLemmas.{done_counts, full_counts, some_with}
use Rattle.weak_direct.proofs.putting.settle.Goals as goal

pub returns-in-None-clause-spends : goal.returns-in-None-clause-spends
returns-in-None-clause-spends g c = goes_spends 1 0 c.publish.ensures.goes

pub returns-in-None-clause-counts : goal.returns-in-None-clause-counts
returns-in-None-clause-counts g c = IfSome_then c.publish.result c.publish.ensures.done (λ r is. done_counts _ _ _ _ r is c.publish.ensures.goes.passes.given c.publish.ensures.goes.keeps.labels)

pub returns-in-None-clause-guards : goal.returns-in-None-clause-guards
returns-in-None-clause-guards g c = subst (λ (o : Option Label). SettleGuards (g.M.Direct.sizes c.args.m.now) (g.M.Direct.domain c.args.m.now) (g.M.Direct.front c.args.m.now) (g.M.Direct.front c.publish.new.m) c.args.label.now c.args.from.index c.args.from.rest c.args.from.steps o) (sym c.in-None.is) c.publish.ensures.guards

pub returns-in-None-clause-settled : goal.returns-in-None-clause-settled
returns-in-None-clause-settled g c = subst (λ (o : Option Label). IfSome c.publish.result (Settles (g.M.Direct.sizes c.args.m.now) (g.M.Direct.domain c.args.m.now) (g.M.Direct.front c.args.m.now) (g.M.Direct.front c.publish.new.m) c.args.label.now c.args.from.index c.args.from.rest c.args.from.steps o)) (sym c.in-None.is) c.publish.ensures.settled

pub returns-in-None-clause-stopped : goal.returns-in-None-clause-stopped
returns-in-None-clause-stopped g c = λ none. subst (λ (o : Option Label). SettleStops (g.M.Direct.sizes c.args.m.now) (g.M.Direct.domain c.args.m.now) (g.M.Direct.front c.args.m.now) (g.M.Direct.front c.publish.new.m) c.args.label.now c.args.from.index c.args.from.rest c.args.from.steps o) (sym c.in-None.is) (c.publish.ensures.stopped none)

pub returns-in-Some-clause-counts : goal.returns-in-Some-clause-counts
returns-in-Some-clause-counts g c =
    some_with (λ r. r ≡ reply.Full) (λ r. refusals_by (g.M.Direct.domain c.args.m.now) (g.M.Direct.front c.deepen.new.m) ≡ refusals_by (g.M.Direct.domain c.args.m.now) (g.M.Direct.front c.args.m.now) + 1) (λ r. g.M.Direct.labels_left c.args.m.now ≡ g.M.Direct.labels_left c.deepen.new.m)
    (SettleSpends g.M.Direct.domain g.M.Direct.front g.M.Direct.labels_left c.args.m.now c.deepen.new.m) c.deepen.result (λ r is more same. full_counts _ _ _ _ r is more same) c.deepen.ensures.full c.deepen.ensures.refused c.deepen.ensures.labels

pub returns-in-Some-clause-guards : goal.returns-in-Some-clause-guards
returns-in-Some-clause-guards g c = subst (λ (o : Option Label). SettleGuards (g.M.Direct.sizes c.args.m.now) (g.M.Direct.domain c.args.m.now) (g.M.Direct.front c.args.m.now) (g.M.Direct.front c.deepen.new.m) c.args.label.now c.args.from.index c.args.from.rest c.args.from.steps o) (sym c.in-Some.is) c.deepen.ensures.guards

pub returns-in-Some-clause-settled : goal.returns-in-Some-clause-settled
returns-in-Some-clause-settled g c = subst (λ (o : Option Label). IfSome c.deepen.result (Settles (g.M.Direct.sizes c.args.m.now) (g.M.Direct.domain c.args.m.now) (g.M.Direct.front c.args.m.now) (g.M.Direct.front c.deepen.new.m) c.args.label.now c.args.from.index c.args.from.rest c.args.from.steps o)) (sym c.in-Some.is) c.deepen.ensures.settled

pub returns-in-Some-clause-stopped : goal.returns-in-Some-clause-stopped
returns-in-Some-clause-stopped g c = λ none. subst (λ (o : Option Label). SettleStops (g.M.Direct.sizes c.args.m.now) (g.M.Direct.domain c.args.m.now) (g.M.Direct.front c.args.m.now) (g.M.Direct.front c.deepen.new.m) c.args.label.now c.args.from.index c.args.from.rest c.args.from.steps o) (sym c.in-Some.is) (c.deepen.ensures.stopped none)
