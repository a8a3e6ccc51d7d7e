use Rattle.std.proofs.Common.{◌≡◌, ◌++◌, length, map, ap, ◌∙◌, rules}
use Rattle.std.specs.List.{range_with_len}
use Rattle.model_core.specs.declared.state.State.{State}
use Rattle.model_core.specs.Domains.{domain_at}
use Rattle.judge_plain.specs.Scheduled.Wipes.{label_at, wipes_of}
use Rattle.judge_plain.proofs.OfScheduled.TakeLemmas.{domain_more, labels_upto}
use Rattle.judge_plain.proofs.scheduled.keys.push_all.Goals as goal

pub domains-preserved : goal.domains-preserved
domains-preserved c =
    let s = c.args.heap.now in
    let d = c.domains.d in
    let before = wipes_of s (labels_upto s d) in
    let domain = c.in_ok-domain.domain in
    let count = c.serial_of-count.result in
    let number : domain ≡ d = search rules in
    c.in_ok-push_domain.ensures
    ∙ ap (λ t. t ++ wipes_of c.state-state.result.now (map (label_at domain) (range_with_len 1 count))) c.domains.invariant
    ∙ ap (λ (x : State). before ++ wipes_of x (map (label_at domain) (range_with_len 1 count))) c.state-state.ensures
    ∙ ap (λ n. before ++ wipes_of s (map (label_at n) (range_with_len 1 count))) number
    ∙ ap (λ n. before ++ wipes_of s (map (label_at d) (range_with_len 1 n))) (c.serial_of-count.ensures ∙ ap (λ (x : State). (domain_at x d).serial) c.state-state.ensures)
    ∙ domain_more s d

pub returns : goal.returns
returns c =
    let last : c.domains.d ≡ length c.args.heap.now.domains = search rules in
    c.domains.invariant ∙ ap (λ n. wipes_of c.args.heap.now (labels_upto c.args.heap.now n)) last
