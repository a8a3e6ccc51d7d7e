use Rattle.std.proofs.Common.{◌≡◌, ◌∙◌, ◌+◌, ℕ, List, ap, map, sym, subst, arith}
use Rattle.std.proofs.lemmas.Result.{err_from_is_err_and}
use Rattle.heap_rule.specs.declared.config.Config.{Config}
use Rattle.heap_rule.specs.Opening.{opening_tokens}
use Rattle.heap_rule.specs.Token.{Token}
use Rattle.gc_mark.specs.Decks.{uncounted}
use Rattle.run_turns.specs.Singly.Opening.{MayOpen, deck_of, opened}
use Rattle.run_turns.proofs.OfSingly.Starts.{decks_are, may_open}
use Rattle.run_turns.proofs.singly.opening.start.Goals as goal

pub returns-in_err-heap-clause-outside : goal.returns-in_err-heap-clause-outside
returns-in_err-heap-clause-outside c k =
    let o = c.in_err-heap.ensures.outside k in
    let r = err_from_is_err_and c.from_residual.result c.from_residual.ensures.1 in
    let same = r.2 in
    let is = r.1 in
    (λ e. o.0 (let q = sym is ∙ e in cc), λ f. let q = o.1 f in is ∙ cc)

pub returns-in_err-decks-clause-outside : goal.returns-in_err-decks-clause-outside
returns-in_err-decks-clause-outside c k =
    let o = c.in_ok-heap.ensures.outside k in
    let r = err_from_is_err_and c.from_residual-in_err-decks.result c.from_residual-in_err-decks.ensures.1 in
    let same = r.2 in
    (λ e. let q = sym r.1 ∙ e in cc, λ f. let q = o.1 f in cc)

pub returns-in_err-runs-clause-outside : goal.returns-in_err-runs-clause-outside
returns-in_err-runs-clause-outside c k =
    let o = c.in_ok-heap.ensures.outside k in
    let r = err_from_is_err_and c.from_residual-in_err-runs.result c.from_residual-in_err-runs.ensures.1 in
    let same = r.2 in
    (λ e. let q = sym r.1 ∙ e in cc, λ f. let q = o.1 f in cc)

pub returns-clause-outside : goal.returns-clause-outside
returns-clause-outside c k =
    let o = c.in_ok-heap.ensures.outside k in
    (λ e. cc, λ f. let q = o.1 f in cc)

pub open_each-requires-clause-may : goal.open_each-requires-clause-may
open_each-requires-clause-may c = subst (λ (ts : List Token). MayOpen ts) (sym c.in_ok-heap.ensures.tokens) (may_open c.in_ok-heap.heap c.args.config 0 c.args.config.domains (omega arith))

pub open_each-requires-clause-decks : goal.open_each-requires-clause-decks
open_each-requires-clause-decks c =
    subst (λ (ts : List Token). c.in_ok-decks.decks.items ≡ map deck_of ts) (sym c.in_ok-heap.ensures.tokens)
    (decks_are c.in_ok-heap.heap c.args.config 0 c.args.config.domains c.in_ok-decks.decks.items (omega (arith, c.in_ok-decks.decks.ok.0, c.in_ok-decks.ensures.0)) (λ i d below. let at : i ≡ 0 + i = omega arith in c.in_ok-decks.ensures.1 i d below ∙ ap (λ (j : ℕ). uncounted j c.args.config.domains) at))

pub returns-clause-runs : goal.returns-clause-runs
returns-clause-runs c =
    c.in_ok-runs.ensures ∙ (ap (λ (ts : List Token). map opened ts) c.in_ok-heap.ensures.tokens ∙ ap (λ (k : Config). map opened (opening_tokens c.in_ok-heap.heap.table k 0 k.domains)) (sym c.in_ok-heap.ensures.config))
