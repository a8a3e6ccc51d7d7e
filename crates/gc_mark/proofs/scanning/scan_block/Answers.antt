use Rattle.std.proofs.Common.{◌≡◌, ◌∙◌, ℕ, ◌*◌, ◌≤◌, Some, arith, ap}
use Rattle.heap_rule.specs.declared.view.DomainView.{DomainView}
use Rattle.gc_mark.specs.Shares.{block_in}
use Rattle.gc_mark.proofs.Notes.{block_fields, noted_scanned}
use Rattle.gc_mark.proofs.Visits.{block_may}
use Rattle.gc_mark.proofs.scanning.scan_block.Goals as goal

pub scanned_store-requires : goal.scanned_store-requires
scanned_store-requires g c =
    let q = c.requires.1 in
    let k = c.args.heap.now.config in
    let a : ℕ = c.args.at in
    let low : 1 ≤ a = q.1.1.1.0.0 in
    let high : a ≤ k.pools * 4096 = q.1.1.1.0.1 in (
      c.scan_fields-darkened.ensures.here,
      (
        (low, omega arith),
        block_may c.args.dom.now.view c.scan_fields-darkened.new.dom.view a c.args.block.fields c.args.block.scanned c.scan_fields-darkened.result g.site c.scan_fields-darkened.ensures.scanned c.args.colours q.0 q.1.1.1.1.1.1.0 q.1.0 q.1.1.1.1.0 q.1.1.1.1.1.0,
      ),
    )

pub returns-clause-noted : goal.returns-clause-noted
returns-clause-noted g c =
    let e = c.scanned_store.ensures.told in
    let x = c.args.dom.now.view in
    let v = c.scan_fields-darkened.new.dom.view in
    let block : block_in v.seen.share.scan ≡ Some c.args.at = ap (λ (u : DomainView). block_in u.seen.share.scan) c.scan_fields-darkened.ensures.scanned ∙ block_fields c.args.block.fields x.seen.share.scan ∙ ap block_in c.requires.1.1.1.1.1.0.scan in
    noted_scanned c.args.heap.now.config v c.scanned_store.new.dom.view c.args.at (ap (λ (u : DomainView). u.seen.stage) e) (ap (λ (u : DomainView). u.seen.share.marked) e) (ap (λ (u : DomainView). u.seen.share.owes) e) (ap (λ (u : DomainView). u.seen.share.account) e) c.scan_fields-darkened.new.trail.items c.scan_fields-darkened.new.trail.lost block c.scan_fields-darkened.ensures.noted
