use Rattle.std.specs.Prelude.{is_some}
use Rattle.std.proofs.Common.{◌≡◌, ℕ, ◌≤◌, ◌∷◌, Bool, true, false, cond, arith, sym, refl, ap, subst, ◌∙◌}
use Rattle.heap_rule.specs.declared.config.Config.{Config}
use Rattle.heap_rule.specs.declared.view.DomainView.{DomainView}
use Rattle.step_marks.specs.Marking.Looks.{with_share}
use Rattle.heap_words.specs.declared.value.Value.{Value}
use Rattle.step_marks.specs.Marking.Marking.{Field, scanned_on}
use Rattle.gc_mark.specs.Shares.{account_after, block_in, darkened, field_on, scanning}
use Rattle.gc_mark.proofs.Fields.{field_darkened, field_darkens, field_passed}
use Rattle.gc_mark.proofs.Notes.{block_field, darkened_lies, noted_lost, noted_pushed, noted_same}
use Rattle.gc_mark.proofs.scanning.scan_field.Goals as goal

pub darken-requires : goal.darken-requires
darken-requires c =
    let f = field_darkens c.args.heap.now.config c.args.dom.now.view c.scan_load-word.new.dom.view c.args.at c.scan_load-word.result c.in-Ref.address c.read_as.result c.args.colours c.requires.stage c.requires.may c.requires.known c.scan_load-word.ensures.told c.read_as.ensures c.in-Ref.is in
    (c.scan_load-word.ensures.here, ((f.0.0, omega arith), (c.requires.meanings, f.1)))

pub returns-in_default : goal.returns-in_default
returns-in_default c =
    let x : DomainView = c.args.dom.now.view in
    let e = field_passed c.args.heap.now.config x c.scan_load-word.new.dom.view c.args.at c.scan_load-word.result c.read_as.result c.requires.may c.scan_load-word.ensures.told c.read_as.ensures c.in_default.not-Ref in record {
      here = c.scan_load-word.ensures.here;
      scanned = subst (λ (u : DomainView). u ≡ with_share x (scanning x.seen.share u.seen.share (field_on x.seen.share.scan) false)) (sym e) refl;
      noted = noted_same c.args.heap.now.config x c.scan_load-word.new.dom.view record { stage = ap (λ (u : DomainView). u.seen.stage) e; marked = ap (λ (u : DomainView). u.seen.share.marked) e; owes = ap (λ (u : DomainView). u.seen.share.owes) e; account = ap (λ (u : DomainView). u.seen.share.account) e }
          c.args.trail.now.items c.args.trail.now.lost (ap (λ (u : DomainView). block_in u.seen.share.scan) e ∙ block_field x.seen.share.scan) c.requires.noted;
      kept = λ _. refl;
    }

-- what the domain's view has of the notes once the block is marked
abbrev Marked : (x z : DomainView) → ℕ → Bool → Type 0
Marked x z a won = (z.seen.share.marked ≡ a ∷ x.seen.share.marked) × (z.seen.share.account ≡ account_after x.seen.stage won a x.seen.share.account)

marks : (x y z : DomainView) (v : Value) (a : ℕ) (won : Bool) → y ≡ with_share x (record x.seen.share { scan = scanned_on x.seen.share.scan v }) → z ≡ darkened Field a won y → Marked x z a won
marks x y z v a won read is = (
  ap (λ (u : DomainView). u.seen.share.marked) is ∙ ap (λ (u : DomainView). a ∷ u.seen.share.marked) read,
  ap (λ (u : DomainView). u.seen.share.account) is ∙ ap (λ (u : DomainView). account_after u.seen.stage won a u.seen.share.account) read,
)

pub returns-then-won-clause-scanned : goal.returns-then-won-clause-scanned
returns-then-won-clause-scanned c = field_darkened c.args.heap.now.config c.args.dom.now.view c.scan_load-word.new.dom.view c.darken.new.dom.view c.args.at c.scan_load-word.result c.in-Ref.address c.read_as.result c.is_some-won.result c.requires.stage c.requires.may c.scan_load-word.ensures.told c.read_as.ensures c.in-Ref.is (c.darken.ensures.darkened ∙ ap (λ (b : Bool). darkened Field c.in-Ref.address b c.scan_load-word.new.dom.view) (sym c.is_some-won.ensures))

pub returns-else-won-clause-scanned : goal.returns-else-won-clause-scanned
returns-else-won-clause-scanned c = field_darkened c.args.heap.now.config c.args.dom.now.view c.scan_load-word.new.dom.view c.darken.new.dom.view c.args.at c.scan_load-word.result c.in-Ref.address c.read_as.result c.is_some-won.result c.requires.stage c.requires.may c.scan_load-word.ensures.told c.read_as.ensures c.in-Ref.is (c.darken.ensures.darkened ∙ ap (λ (b : Bool). darkened Field c.in-Ref.address b c.scan_load-word.new.dom.view) (sym c.is_some-won.ensures))

pub returns-then-won-clause-noted : goal.returns-then-won-clause-noted
returns-then-won-clause-noted c =
    let x : DomainView = c.args.dom.now.view in
    let z : DomainView = c.darken.new.dom.view in
    let a : ℕ = c.in-Ref.address in
    let k : Config = c.args.heap.now.config in
    let won : is_some c.darken.result ≡ true = sym c.is_some-won.ensures ∙ c.if-won.true in
    let low : 1 ≤ a = (field_darkens k x c.scan_load-word.new.dom.view c.args.at c.scan_load-word.result a c.read_as.result c.args.colours c.requires.stage c.requires.may c.requires.known c.scan_load-word.ensures.told c.read_as.ensures c.in-Ref.is).0.0 in
    let m = marks x c.scan_load-word.new.dom.view z c.scan_load-word.ensures.told.value a (is_some c.darken.result) c.scan_load-word.ensures.told.view c.darken.ensures.darkened in
    let e = returns-then-won-clause-scanned c in
    noted_pushed k x z a (is_some c.darken.result) c.requires.stage (ap (λ (u : DomainView). u.seen.stage) e) m.0 (ap (λ (u : DomainView). block_in u.seen.share.scan) e ∙ block_field x.seen.share.scan) (ap (λ (u : DomainView). u.seen.share.owes) e ∙ ap (λ (b : Bool). cond b true x.seen.share.owes) c.is_some-won.ensures) m.1
    won low (darkened_lies k a c.darken.result won c.darken.ensures.hint) c.args.trail.now.items c.args.trail.now.lost c.requires.noted c.push.new.self.items c.push.new.self.lost c.args.trail.now.room c.push.ensures.noted c.push.ensures.full

pub returns-else-won-clause-noted : goal.returns-else-won-clause-noted
returns-else-won-clause-noted c =
    let x : DomainView = c.args.dom.now.view in
    let z : DomainView = c.darken.new.dom.view in
    let a : ℕ = c.in-Ref.address in
    let m = marks x c.scan_load-word.new.dom.view z c.scan_load-word.ensures.told.value a (is_some c.darken.result) c.scan_load-word.ensures.told.view c.darken.ensures.darkened in
    let e = returns-else-won-clause-scanned c in
    noted_lost c.args.heap.now.config x z a (is_some c.darken.result) c.requires.stage (ap (λ (u : DomainView). u.seen.stage) e) m.0 (ap (λ (u : DomainView). block_in u.seen.share.scan) e ∙ block_field x.seen.share.scan) (ap (λ (u : DomainView). u.seen.share.owes) e ∙ ap (λ (b : Bool). cond b true x.seen.share.owes) c.is_some-won.ensures) m.1
    (sym c.is_some-won.ensures ∙ c.if-won.false) c.args.trail.now.items c.args.trail.now.lost c.requires.noted
