use Rattle.std.proofs.Common.{◌∙◌, ℕ, [], Option, refl, sym, ap, subst}
use Rattle.step_ephemerons.specs.Commands.Loads.{Puts, word_of}
use Rattle.do_ephemerons.proofs.WeakLoads.{weak_may, check_did}
use Rattle.do_ephemerons.proofs.looking.check.Goals as goal

pub weak_load-requires : goal.weak_load-requires
weak_load-requires g c =
    let f = c.in-Ok.ensures.found in (
      f.here,
      weak_may c.args.heap.now c.args.dom.now c.find.new.dom g.command c.in-Ok.block c.requires.0 f c.word_at.result [] (c.word_at.ensures ∙ ap (λ (key : Option ℕ). word_of key c.in-Ok.block) (sym c.requires.1.0.1)) c.requires.1.1.0 c.requires.1.1.1
          (subst (λ (t : Option ℕ). Puts c.find.new.dom.view [] t) (sym c.requires.1.1.1) (λ v. refl)) tt,
    )

pub returns-clause-did : goal.returns-clause-did
returns-clause-did g c =
    let read = c.weak_load.ensures.told in
    check_did c.args.heap.now c.args.dom.now c.find.new.dom g.command c.in-Ok.block c.requires.0 c.in-Ok.ensures.found c.weak_load.new.dom c.weak_load.result c.tells_full.result c.weak_load.ensures.here c.requires.1.1.0 c.requires.1.1.1 read
    (c.tells_full.ensures read.value read.held read.packable read.word read.shows)
