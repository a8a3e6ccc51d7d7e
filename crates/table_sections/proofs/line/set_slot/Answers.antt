use Rattle.std.proofs.Common.{ℕ, List, subst}
use Rattle.model_core.specs.declared.command.Command.TheVariants.{SetKey}
use Rattle.model_core.specs.declared.entry.Entry.{Entry}
use Rattle.model_core.specs.declared.state.Sizes.{Sizes}
use Rattle.weak_laws.specs.Maps.Calls.{PerformedBy}
use Rattle.table_sections.specs.Slots.{slot_ephe, slot_key}
use Rattle.table_sections.proofs.CommandLemmas.{set_done}
use Rattle.table_sections.proofs.line.set_slot.Goals as goal

pub returns-clause-done : goal.returns-clause-done
returns-clause-done g c =
    let z : Sizes = g.M.Machine.sizes c.args.m.now in
    let d : ℕ = g.M.Machine.domain c.args.m.now in
    let old : List Entry = g.M.Machine.front c.args.m.now in
    let new : List Entry = g.M.Machine.front c.perform-set.new.m in
    let s : ℕ = c.args.slot in
    let performed : PerformedBy z d old new (SetKey (slot_ephe s) (slot_key s) c.args.reg) c.perform-set.result = subst (λ (w : ℕ × ℕ). PerformedBy z d old new (SetKey w.0 w.1 c.args.reg) c.perform-set.result) (λ i. (c.slot_ephe.ensures.is i, c.slot_key.ensures i)) c.perform-set.ensures.performed in
    set_done z d old new s c.args.reg c.requires.slot c.perform-set.result performed c.said.result c.said.ensures
