use Rattle.std.specs.Prelude.{is_some}
use Rattle.std.proofs.Common.{ℕ, ◌≤◌, Bool, arith, sym, subst, ◌∙◌}
use Rattle.heap_rule.specs.declared.view.DomainView.{DomainView}
use Rattle.gc_mark.proofs.Notes.{darkened_lies}
use Rattle.do_ephemerons.specs.Looking.{Through}
use Rattle.do_ephemerons.proofs.Keys.{datum_darkened, datum_darkens, datum_inside, datum_marked, datum_owes, datum_passed, datum_scanned, datum_scans}
use Rattle.do_ephemerons.proofs.rounds.mark_datum.Goals as goal

pub darken-requires : goal.darken-requires
darken-requires c =
    let k = c.args.heap.now.config in
    let x = c.args.dom.now.view in
    let y = c.datum_load-word.new.dom.view in
    let i = datum_inside k x y c.args.at c.requires.done.0 c.datum_load-word.result c.read_as.result c.requires.done.1 c.datum_load-word.ensures.told c.read_as.ensures c.in-Ref.address c.in-Ref.is in (
      c.datum_load-word.ensures.here,
      (
        (i.0, omega arith),
        (
          c.requires.meanings,
          datum_darkens k x y c.args.at c.requires.done.0 c.datum_load-word.result c.read_as.result c.requires.done.1 c.datum_load-word.ensures.told c.read_as.ensures c.in-Ref.address c.in-Ref.is c.args.colours c.requires.darkening,
        ),
      ),
    )

pub returns-in_default-clause-through : goal.returns-in_default-clause-through
returns-in_default-clause-through c = datum_passed c.args.heap.now.config c.args.dom.now.view c.datum_load-word.new.dom.view c.args.at c.requires.done.0 c.datum_load-word.result c.read_as.result c.requires.done.1 c.datum_load-word.ensures.told c.read_as.ensures c.in_default.not-Ref

pub scan_marked-requires-clause-scans : goal.scan_marked-requires-clause-scans
scan_marked-requires-clause-scans c =
    let t = subst (λ (b : Bool). Through c.args.at b c.args.dom.now.view c.darken.new.dom.view) (sym c.is_some-won.ensures ∙ c.if-won.true) (datum_darkened c.args.heap.now.config c.args.dom.now.view c.datum_load-word.new.dom.view c.args.at c.requires.done.0 c.datum_load-word.result c.read_as.result c.requires.done.1 c.datum_load-word.ensures.told c.read_as.ensures c.in-Ref.address c.in-Ref.is c.darken.new.dom.view (is_some c.darken.result) c.args.colours c.requires.darkening c.darken.ensures.darkened) in
    datum_scans c.args.dom.now.view c.darken.new.dom.view c.args.at t c.args.colours c.requires.darkening

pub scan_marked-requires-clause-inside : goal.scan_marked-requires-clause-inside
scan_marked-requires-clause-inside c =
    let a : ℕ = c.in-Ref.address in
    let low : 1 ≤ a = (datum_inside c.args.heap.now.config c.args.dom.now.view c.datum_load-word.new.dom.view c.args.at c.requires.done.0 c.datum_load-word.result c.read_as.result c.requires.done.1 c.datum_load-word.ensures.told c.read_as.ensures a c.in-Ref.is).0 in
    (low, darkened_lies c.args.heap.now.config a c.darken.result (sym c.is_some-won.ensures ∙ c.if-won.true) c.darken.ensures.hint)

pub scan_marked-requires-clause-marked : goal.scan_marked-requires-clause-marked
scan_marked-requires-clause-marked c =
    let t = subst (λ (b : Bool). Through c.args.at b c.args.dom.now.view c.darken.new.dom.view) (sym c.is_some-won.ensures ∙ c.if-won.true) (datum_darkened c.args.heap.now.config c.args.dom.now.view c.datum_load-word.new.dom.view c.args.at c.requires.done.0 c.datum_load-word.result c.read_as.result c.requires.done.1 c.datum_load-word.ensures.told c.read_as.ensures c.in-Ref.address c.in-Ref.is c.darken.new.dom.view (is_some c.darken.result) c.args.colours c.requires.darkening c.darken.ensures.darkened) in
    record { marked = datum_marked c.datum_load-word.new.dom.view c.darken.new.dom.view c.in-Ref.address (is_some c.darken.result) c.darken.ensures.darkened; owes = datum_owes c.args.dom.now.view c.darken.new.dom.view c.args.at t }

pub returns-then-won-clause-through : goal.returns-then-won-clause-through
returns-then-won-clause-through c =
    let x : DomainView = c.args.dom.now.view in
    let z : DomainView = c.scan_marked.new.dom.view in
    let t = subst (λ (b : Bool). Through c.args.at b c.args.dom.now.view c.darken.new.dom.view) (sym c.is_some-won.ensures ∙ c.if-won.true) (datum_darkened c.args.heap.now.config c.args.dom.now.view c.datum_load-word.new.dom.view c.args.at c.requires.done.0 c.datum_load-word.result c.read_as.result c.requires.done.1 c.datum_load-word.ensures.told c.read_as.ensures c.in-Ref.address c.in-Ref.is c.darken.new.dom.view (is_some c.darken.result) c.args.colours c.requires.darkening c.darken.ensures.darkened) in
    subst (λ (b : Bool). Through c.args.at b x z) (sym c.if-won.true) (datum_scanned x c.darken.new.dom.view c.args.at t z c.scan_marked.ensures.followed)

pub returns-else-won-clause-through : goal.returns-else-won-clause-through
returns-else-won-clause-through c = subst (λ (b : Bool). Through c.args.at b c.args.dom.now.view c.darken.new.dom.view) (sym c.is_some-won.ensures) (datum_darkened c.args.heap.now.config c.args.dom.now.view c.datum_load-word.new.dom.view c.args.at c.requires.done.0 c.datum_load-word.result c.read_as.result c.requires.done.1 c.datum_load-word.ensures.told c.read_as.ensures c.in-Ref.address c.in-Ref.is c.darken.new.dom.view (is_some c.darken.result) c.args.colours c.requires.darkening c.darken.ensures.darkened)
