use Rattle.std.proofs.Common.{◌≡◌, false, refl, sym, ap, subst}
use Rattle.heap_rule.specs.declared.view.DomainView.{DomainView}
use Rattle.step_marks.specs.Marking.Looks.{with_share}
use Rattle.step_marks.specs.Marking.Marking.{Anywhere}
use Rattle.gc_mark.specs.Shares.{block_in, scanning}
use Rattle.gc_mark.proofs.Notes.{noted_begins, noted_settled}
use Rattle.gc_mark.proofs.Visits.{begun_block, begun_notes, grey_begins, grey_settles, ready, site_followed, was_idle}
use Rattle.gc_mark.proofs.following.follow.Goals as goal

pub returns-in_default-clause-followed : goal.returns-in_default-clause-followed
returns-in_default-clause-followed c =
    let x = c.args.dom.now.view in
    let e = grey_settles x c.grey_load-word.new.dom.view c.args.colours c.args.at c.grey_load-word.result c.requires.scans c.grey_load-word.ensures.told c.in_default.ensures in
    subst (λ (u : DomainView). u ≡ with_share x (scanning x.seen.share u.seen.share x.seen.share.scan false)) (sym e) refl

pub returns-in_default-clause-noted : goal.returns-in_default-clause-noted
returns-in_default-clause-noted c =
    let x = c.args.dom.now.view in
    let y = c.grey_load-word.new.dom.view in
    let e = grey_settles x y c.args.colours c.args.at c.grey_load-word.result c.requires.scans c.grey_load-word.ensures.told c.in_default.ensures in
    noted_settled c.args.heap.now.config x y c.args.at (ap (λ (u : DomainView). u.seen.stage) e) (ap (λ (u : DomainView). u.seen.share.marked) e) (ap (λ (u : DomainView). u.seen.share.owes) e) (ap (λ (u : DomainView). u.seen.share.account) e) c.args.trail.now.items c.args.trail.now.lost (ap block_in c.requires.scans.idle) c.requires.noted

pub scan_block-requires : goal.scan_block-requires
scan_block-requires c =
    let x = c.args.dom.now.view in
    let y = c.grey_load-word.new.dom.view in
    let b = c.in-Some.block in
    let word = c.grey_load-word.result in
    let e = grey_begins x y c.args.colours c.args.at word b.fields b.scanned c.requires.meanings c.requires.scans c.grey_load-word.ensures.told c.in-Some.ensures in
    let r = ready x y c.args.colours c.args.at word b.fields b.scanned c.requires.scans c.in-Some.ensures e Anywhere tt in
    let idle = was_idle x y c.args.colours c.args.at word b.fields b.scanned c.requires.scans c.in-Some.ensures e in
    let same = begun_notes x y c.args.colours c.args.at word b.fields b.scanned c.requires.scans c.in-Some.ensures e in
    let block = begun_block x y c.args.colours c.args.at word b.fields b.scanned c.requires.scans c.in-Some.ensures e in
    let n = noted_begins c.args.heap.now.config x y same c.args.trail.now.items c.args.trail.now.lost c.args.at idle block c.requires.noted in
    (c.grey_load-word.ensures.here, (r.0, (r.1, (c.requires.meanings, (c.requires.inside, (r.2, (r.3, (λ _. refl, n))))))))

pub returns-clause-followed : goal.returns-clause-followed
returns-clause-followed c =
    let x = c.args.dom.now.view in
    let y = c.grey_load-word.new.dom.view in
    let b = c.in-Some.block in
    let e = grey_begins x y c.args.colours c.args.at c.grey_load-word.result b.fields b.scanned c.requires.meanings c.requires.scans c.grey_load-word.ensures.told c.in-Some.ensures in
    site_followed x y c.args.colours c.args.at c.grey_load-word.result b.fields b.scanned c.requires.scans c.in-Some.ensures e c.scan_block.new.dom.view c.scan_block.result Anywhere c.scan_block.ensures.scanned refl
