use Rattle.std.proofs.Common.{ℕ, List, refl}
use Rattle.model_core.specs.declared.command.Command.TheVariants.{FullMajor}
use Rattle.model_core.specs.declared.entry.Entry.{Entry}
use Rattle.model_core.specs.declared.state.Sizes.{Sizes}
use Rattle.table_text.specs.declared.machine.reply.LineReply.TheVariants as reply
use Rattle.weak_laws.specs.Maps.Calls.{PerformedBy}
use Rattle.weak_maps.proofs.MachineLemmas.{at_machine}
use Rattle.table_sections.proofs.CommandLemmas.{collect_done}
use Rattle.table_sections.proofs.line.collect.Goals as goal

pub returns-clause-done : goal.returns-clause-done
returns-clause-done g c =
    let z : Sizes = g.M.Machine.sizes c.args.m.now in
    let d : ℕ = g.M.Machine.domain c.args.m.now in
    let mid : List Entry = g.M.Machine.front c.perform-nothing.new.m in
    let new : List Entry = g.M.Machine.front c.perform-live.new.m in
    let live : PerformedBy z d mid new FullMajor c.perform-live.result = at_machine z _ d _ mid new FullMajor c.perform-live.result c.perform-nothing.ensures.spends.stays.sizes c.perform-nothing.ensures.spends.stays.domain c.perform-live.ensures.performed in
    collect_done z d _ mid new c.perform-nothing.result c.perform-live.result c.perform-nothing.ensures.performed live reply.Done refl
