use Rattle.std.proofs.Common.{sym, subst}
use Rattle.do_finalisers.specs.declared.running.Ran.TheVariants.{Fin as FinRan}
use Rattle.do_finalisers.specs.Running.{RanFirst}
use Rattle.do_finalisers.proofs.Runs.{continues_as, ran_block, ran_continues, ran_few, ran_fin, ran_last, ran_shows}
use Rattle.do_finalisers.proofs.running.run_next.Goals as goal

pub held_label-label-requires : goal.held_label-label-requires
held_label-label-requires c =
    let h = c.args.heap.now in
    let old = c.args.dom.now in
    let new = c.take_first.new.dom in
    let first = c.take_first.result in
    let told = c.take_first.ensures.told in
    let goes = c.requires.continues in
    let here = c.take_first.ensures.here in
    let limits = c.config-limits.ensures.limits in
    let address = c.in-Fin.address in
    let n = c.in-Fin.number in
    let r = c.in-Fin.register in
    record {
      here = here;
      few = ran_few h old new first goes here told address n r c.in-Fin.is limits;
      shows = ran_shows h old new first goes here told address n r c.in-Fin.is limits;
      block = ran_block h old new first goes here told address n r c.in-Fin.is limits;
    }

pub returns-in-Fin-clause-continues : goal.returns-in-Fin-clause-continues
returns-in-Fin-clause-continues c =
    let h = c.args.heap.now in
    let old = c.args.dom.now in
    let new = c.take_first.new.dom in
    let first = c.take_first.result in
    let told = c.take_first.ensures.told in
    let goes = c.requires.continues in
    let here = c.take_first.ensures.here in
    continues_as h new c.held_label-label.new.dom c.held_label-label.ensures.here c.held_label-label.ensures.same (ran_continues h old new first goes here told)

pub returns-in-Fin-clause-ran : goal.returns-in-Fin-clause-ran
returns-in-Fin-clause-ran c =
    let h = c.args.heap.now in
    let old = c.args.dom.now in
    let new = c.take_first.new.dom in
    let first = c.take_first.result in
    let told = c.take_first.ensures.told in
    let goes = c.requires.continues in
    let here = c.take_first.ensures.here in
    let limits = c.config-limits.ensures.limits in
    let address = c.in-Fin.address in
    let n = c.in-Fin.number in
    let r = c.in-Fin.register in
    subst (RanFirst h.config (FinRan n c.held_label-label.result) old.view) (sym c.held_label-label.ensures.same) (ran_fin h old new first goes here told address n r c.in-Fin.is limits c.held_label-label.result c.take_first.ensures.first c.held_label-label.ensures.label)

pub returns-in-Last-clause-continues : goal.returns-in-Last-clause-continues
returns-in-Last-clause-continues c =
    let h = c.args.heap.now in
    let old = c.args.dom.now in
    let new = c.take_first.new.dom in
    let first = c.take_first.result in
    let told = c.take_first.ensures.told in
    let goes = c.requires.continues in
    let here = c.take_first.ensures.here in
    ran_continues h old new first goes here told

pub returns-in-Last-clause-ran : goal.returns-in-Last-clause-ran
returns-in-Last-clause-ran c =
    let h = c.args.heap.now in
    let old = c.args.dom.now in
    let new = c.take_first.new.dom in
    let first = c.take_first.result in
    let told = c.take_first.ensures.told in
    let goes = c.requires.continues in
    let here = c.take_first.ensures.here in
    ran_last h old new first goes here told c.in-Last.number c.in-Last.is c.take_first.ensures.first
