use Rattle.std.proofs.Common.{◌≡◌, ◌∙◌, ℕ, ◌+◌, ◌*◌, ◌<◌, ◌≤◌, arith, sym, ap, subst}
use Rattle.heap_rule.specs.declared.phase.Kind.TheVariants.{Rounds}
use Rattle.heap_rule.specs.declared.phase.Stage.TheVariants.{In}
use Rattle.heap_rule.specs.declared.view.DomainView.{DomainView}
use Rattle.step_marks.specs.Marking.Marking.{LiesAt, Site}
use Rattle.gc_mark.specs.Shares.{block_in}
use Rattle.gc_mark.proofs.Notes.{noted_opens, noted_same}
use Rattle.gc_mark.proofs.Visits.{begun_notes, mark_begins, mark_passes, no_round, ready, walker_scans, was_idle}
use Rattle.gc_mark.proofs.places.mark_place.Goals as goal

pub returns-in_default-clause-noted : goal.returns-in_default-clause-noted
returns-in_default-clause-noted g c =
    let x = c.args.dom.now.view in
    let y = c.mark_load-word.new.dom.view in
    let e = mark_passes x y c.args.colours c.place_address-at.result c.args.pool c.args.class c.args.slot c.mark_load-word.result c.requires.1.0 c.mark_load-word.ensures.told c.in_default.ensures in
    noted_same c.args.heap.now.config x y record { stage = ap (λ (u : DomainView). u.seen.stage) e; marked = ap (λ (u : DomainView). u.seen.share.marked) e; owes = ap (λ (u : DomainView). u.seen.share.owes) e; account = ap (λ (u : DomainView). u.seen.share.account) e }
    c.args.trail.now.items c.args.trail.now.lost (ap (λ (u : DomainView). block_in u.seen.share.scan) e) c.requires.1.1.1.1.1.1.1.1.1

pub scan_block-requires : goal.scan_block-requires
scan_block-requires g c =
    let k = c.args.heap.now.config in
    let x = c.args.dom.now.view in
    let y = c.mark_load-word.new.dom.view in
    let b = c.in-Some.block in
    let q = c.requires.1 in
    let at : ℕ = c.place_address-at.result in
    let word = c.mark_load-word.result in
    let n : ℕ = c.args.pool in
    let few : n < k.pools = q.1.1.0 in
    let low : n * 4096 < at = c.place_address-at.ensures.inside.0 in
    let high : at ≤ n * 4096 + 4096 = c.place_address-at.ensures.inside.1 in
    let e = mark_begins x y c.args.colours at n c.args.class c.args.slot word b.fields b.scanned q.1.0 q.0 c.mark_load-word.ensures.told c.in-Some.ensures in
    let l : LiesAt g.site x at = subst (λ (s : Site). LiesAt s x at) (sym q.1.1.1.1.1.1.1.0) record { own = q.1.1.1.1.1.0; inside = q.1.1.1.1.0; begins = c.place_address-at.ensures.value; next = q.1.1.1.1.1.1.0 } in
    let m = walker_scans x c.args.colours q.0 in
    let r = ready x y c.args.colours at word b.fields b.scanned m c.in-Some.ensures e g.site l in
    let o = noted_opens k x y (begun_notes x y c.args.colours at word b.fields b.scanned m c.in-Some.ensures e) c.args.trail.now.items c.args.trail.now.lost (was_idle x y c.args.colours at word b.fields b.scanned m c.in-Some.ensures e) q.1.1.1.1.1.1.1.1 in
    (c.mark_load-word.ensures.here, (r.0, (r.1, (q.1.0, ((omega arith, omega arith), (r.2, (r.3, (λ (i : y.seen.stage ≡ In Rounds). absurd (no_round x c.args.colours q.0 (sym (ap (λ (u : DomainView). u.seen.stage) e) ∙ i)), o))))))))
