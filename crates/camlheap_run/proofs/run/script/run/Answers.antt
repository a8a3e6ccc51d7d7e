use Rattle.std.proofs.Common.{arith}
use Rattle.text_script.specs.declared.version.Version.TheVariants.{Two}
use Rattle.camlheap_run.proofs.RunLemmas.{begun_here, length-begun, drives_run, drives_front}
use Rattle.camlheap_run.proofs.SectionLemmas.{spelled_short}
use Rattle.camlheap_run.proofs.run.script.run.Goals as goal

pub config_of-requires-clause-short : goal.config_of-requires-clause-short
config_of-requires-clause-short g c = spelled_short Two c.args.sizes.now.domains c.args.script c.requires.script.0 c.requires.script.1

pub run_begun-requires-clause-here : goal.run_begun-requires-clause-here
run_begun-requires-clause-here g c κs within = begun_here c.config_of.result c.args.script.sections c.in-Ok.begun c.in-Ok.ensures

pub run_begun-requires-clause-some : goal.run_begun-requires-clause-some
run_begun-requires-clause-some g c κs within =
    let begun = c.in-Ok.ensures in
    let many = length-begun c.config_of.result c.args.script.sections c.in-Ok.begun begun in
    omega (arith, many, begun.some)

pub run_begun-requires-clause-room : goal.run_begun-requires-clause-room
run_begun-requires-clause-room g c κs within =
    let begun = c.in-Ok.ensures in
    let many = length-begun c.config_of.result c.args.script.sections c.in-Ok.begun begun in
    omega (arith, many, begun.room)

pub returns-in-Ok-clause-done : goal.returns-in-Ok-clause-done
returns-in-Ok-clause-done g c = λ ended is. drives_run c.args.report c.args.sizes.now c.config_of.result c.args.script.sections c.in-Ok.begun ended _ _ c.config_of.ensures.sizes c.in-Ok.ensures (c.run_begun.ensures.done ended is)

pub returns-in-Ok-clause-cut : goal.returns-in-Ok-clause-cut
returns-in-Ok-clause-cut g c = λ ended is. drives_front c.args.report c.args.sizes.now c.config_of.result c.args.script.sections c.in-Ok.begun ended _ _ c.config_of.ensures.sizes c.in-Ok.ensures (c.run_begun.ensures.cut ended is)
