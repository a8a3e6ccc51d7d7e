use Rattle.std.proofs.Common.{arith}
use Rattle.camlheap_run.proofs.SectionLemmas.{spelled_short}
use Rattle.camlheap_run.proofs.SpawningLemmas.{sectioned_here, sections_run, sections_front}
use Rattle.camlheap_run.proofs.run.script.run_sections.Goals as goal

pub config_of-requires-clause-short : goal.config_of-requires-clause-short
config_of-requires-clause-short g c = let read = c.requires.script in spelled_short read.newest c.args.sizes.now.domains c.args.script read.bytes read.spelled

pub run_begun-requires-clause-here : goal.run_begun-requires-clause-here
run_begun-requires-clause-here g c κs within = sectioned_here c.config_of.result c.args.script.sections c.in-Ok.begun c.in-Ok.ensures

pub run_begun-requires-clause-some : goal.run_begun-requires-clause-some
run_begun-requires-clause-some g c κs within = let begun = c.in-Ok.ensures in omega (arith, begun.count, begun.some)

pub run_begun-requires-clause-room : goal.run_begun-requires-clause-room
run_begun-requires-clause-room g c κs within = let begun = c.in-Ok.ensures in omega (arith, begun.count, begun.room)

pub returns-in-Ok-clause-done : goal.returns-in-Ok-clause-done
returns-in-Ok-clause-done g c = λ ended is. sections_run c.args.sizes.now c.config_of.result c.args.script c.in-Ok.begun ended _ _ c.config_of.ensures.sizes c.config_of.ensures.limits c.requires.script c.in-Ok.ensures (c.run_begun.ensures.done ended is)

pub returns-in-Ok-clause-cut : goal.returns-in-Ok-clause-cut
returns-in-Ok-clause-cut g c = λ ended is. sections_front c.args.sizes.now c.config_of.result c.args.script c.in-Ok.begun ended _ _ c.config_of.ensures.sizes c.config_of.ensures.limits c.requires.script c.in-Ok.ensures (c.run_begun.ensures.cut ended is)
