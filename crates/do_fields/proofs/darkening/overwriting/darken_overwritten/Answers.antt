use Rattle.std.proofs.Common.{◌≡◌, ℕ, ◌+◌, ◌≤◌, arith, ap, ◌∙◌}
use Rattle.do_fields.proofs.OfDarkening.Learning.{read_after}
use Rattle.do_fields.proofs.darkening.overwriting.darken_overwritten.Goals as goal

pub beside_read-word-requires : goal.beside_read-word-requires
beside_read-word-requires g c =
    let q = c.requires.1 in
    let b : ℕ = c.args.block in
    let f : ℕ = c.args.field in (
      c.armed_now.ensures.here,
      (
        (omega arith, let h = q.1.1.inside in omega (arith, h)),
        read_after c.args.heap.now.config c.args.dom.now.view c.armed_now.new.dom.view c.armed_now.result (b + 2 + f) b g.why.register f c.armed_now.ensures.knows c.if-not-armed_now.false q.1.0 (q.1.1.may, q.1.1.of_block),
      ),
    )
