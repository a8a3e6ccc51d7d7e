-- A look at a domain's queue of finalisers keeps the rule.
use Rattle.std.proofs.Common.{◌≡◌, ◌∙◌, length, set, refl, ap, sym}
use Rattle.atomic_table.specs.Table.{keeps}
use Rattle.model_core.specs.Domains.{domain_at, opening}
use Rattle.heap_rule.specs.declared.config.Config.{Config}
use Rattle.heap_rule.specs.declared.phase.Kind.TheVariants.{Run}
use Rattle.heap_rule.specs.declared.phase.Stage.TheVariants.{In}
use Rattle.heap_rule.specs.declared.view.DomainView.{DomainView}
use Rattle.heap_rule.specs.Finalisers.{StandsWaiting}
use Rattle.heap_rule.specs.Limits.{sizes_in}
use Rattle.heap_rule.specs.Raw.{MayStep}
use Rattle.heap_rule.specs.Rule.{state_of}
use Rattle.heap_rule.specs.Views.{one}
use Rattle.heap_rule.proofs.Controls.{notes_rule, untouched_same}
use Rattle.heap_rule.proofs.FinaliserLemmas.{paired_length}
use Rattle.heap_rule.proofs.Keeps.{mine, my_good, unmoved}
use Rattle.step_run.specs.Queues.Looking.{QueueTold}
use Rattle.step_run.proofs.OfQueues.Queues.{queue_of_front}

pub queue_may : (k : Config) (x : DomainView) → x.seen.stage ≡ In Run → MayStep k x 2 (λ n. n) (QueueTold k)
queue_may k x runs fits slots id hist s r _ at _ =
    let good = my_good k s r id hist x at in
    let seen : (domain_at (state_of k r.account.log) x.own.number).queue ≡ (domain_at (state_of k x.seen.front) x.own.number).queue =
    queue_of_front (opening (sizes_in k)) x.own.number r.account.log x.seen.front (mine k s r id hist x at).front (good.still.1 runs) in (
      one k hist x,
      keeps,
      tt,
      unmoved k s 2 (set s.views id (one k hist x)) (notes_rule k s r id hist x at x.seen.notes s.words (untouched_same s.words) refl r.whole.unwished good.took_back (λ back. back) (λ z _ took. took) refl refl refl),
      (
        record {
          view = refl;
          queue = ap length (sym seen) ∙ paired_length (StandsWaiting r.account.live) x.own.finalisers.queue.items (domain_at (state_of k r.account.log) x.own.number).queue good.stood.enrolled.queue;
        },
        refl,
      ),
    )
