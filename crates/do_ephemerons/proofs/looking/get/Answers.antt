use Rattle.std.proofs.Common.{◌∙◌, ℕ, [], ◌∷◌, Option, refl, sym, ap, subst}
use Rattle.heap_rule.specs.declared.change.Change.TheVariants.{Read}
use Rattle.step_ephemerons.specs.Commands.Loads.{Puts, word_of}
use Rattle.do_ephemerons.proofs.WeakLoads.{armed_may, get_did, get_into}
use Rattle.do_ephemerons.proofs.looking.get.Goals as goal

pub weak_load-requires : goal.weak_load-requires
weak_load-requires g c =
    let f = c.in-Ok.ensures.found in (
      c.armed_now-armed.ensures.here,
      armed_may c.args.heap.now c.args.dom.now c.find.new.dom g.command c.in-Ok.block c.requires.0 f c.armed_now-armed.new.dom.view c.armed_now-armed.result c.word_at.result (Read c.args.dst ∷ []) c.args.dst c.armed_now-armed.ensures.knows
          (c.word_at.ensures ∙ ap (λ (key : Option ℕ). word_of key c.in-Ok.block) (sym c.requires.1.0.1)) c.requires.1.1.0 c.requires.1.1.1.0
          (subst (λ (t : Option ℕ). Puts c.find.new.dom.view (Read c.args.dst ∷ []) t) (sym c.requires.1.1.1.0) (c.requires.1.1.1.1, λ v. refl)) (c.requires.1.1.1.1, tt),
    )

pub returns-clause-did : goal.returns-clause-did
returns-clause-did g c =
    get_did c.args.heap.now c.args.dom.now c.find.new.dom g.command c.in-Ok.block c.requires.0 c.in-Ok.ensures.found c.args.dst c.requires.1.1.1.1 c.requires.1.1.0 c.requires.1.1.1.0 c.armed_now-armed.new.dom.view c.armed_now-armed.result c.armed_now-armed.ensures.knows
    c.weak_load.new.dom.view c.weak_load.result c.weak_load.ensures.told c.darken_read.new.dom.view c.darken_read.ensures.learnt c.darken_read.ensures.paid
    c.shown_register.new.dom c.shown_register.result c.shown_register.ensures.same c.shown_register.ensures.reply c.shown_register.ensures.here

pub returns-clause-registers : goal.returns-clause-registers
returns-clause-registers g c =
    get_into c.args.heap.now c.args.dom.now c.find.new.dom g.command c.in-Ok.block c.requires.0 c.in-Ok.ensures.found c.args.dst c.requires.1.1.1.1 c.requires.1.1.0 c.requires.1.1.1.0 c.armed_now-armed.new.dom.view c.armed_now-armed.result c.armed_now-armed.ensures.knows
    c.weak_load.new.dom.view c.weak_load.result c.weak_load.ensures.told c.darken_read.new.dom.view c.darken_read.ensures.learnt c.darken_read.ensures.paid
    c.shown_register.new.dom c.shown_register.result c.shown_register.ensures.same c.shown_register.ensures.reply
