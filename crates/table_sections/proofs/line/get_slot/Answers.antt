use Rattle.std.proofs.Common.{ℕ, List, subst}
use Rattle.model_core.specs.declared.command.Command.TheVariants.{GetKey}
use Rattle.model_core.specs.declared.entry.Entry.{Entry}
use Rattle.model_core.specs.declared.state.Sizes.{Sizes}
use Rattle.weak_laws.specs.Maps.Calls.{PerformedBy}
use Rattle.table_sections.specs.Slots.{slot_ephe, slot_key}
use Rattle.table_sections.proofs.CommandLemmas.{get_slot_done}
use Rattle.table_sections.proofs.line.get_slot.Goals as goal

pub returns-clause-done : goal.returns-clause-done
returns-clause-done g c =
    let z : Sizes = g.M.Machine.sizes c.args.m.now in
    let d : ℕ = g.M.Machine.domain c.args.m.now in
    let old : List Entry = g.M.Machine.front c.args.m.now in
    let new : List Entry = g.M.Machine.front c.perform-key.new.m in
    let s : ℕ = c.args.slot in
    let performed : PerformedBy z d old new (GetKey c.args.dst (slot_ephe s) (slot_key s)) c.perform-key.result = subst (λ (w : ℕ × ℕ). PerformedBy z d old new (GetKey c.args.dst w.0 w.1) c.perform-key.result) (λ i. (c.slot_ephe.ensures.is i, c.slot_key.ensures i)) c.perform-key.ensures.performed in
    get_slot_done z c.shows_legal.ensures.limits d old new c.args.dst s c.requires.slot c.perform-key.result c.requires.register performed c.said.result c.said.ensures
