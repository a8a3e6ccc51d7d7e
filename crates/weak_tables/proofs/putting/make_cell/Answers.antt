use Rattle.std.proofs.Common.{◌≡◌, ◌≢◌, true, false, inl, sym, subst, ◌∙◌}
use Rattle.model_core.specs.declared.command.Command.TheVariants.{Ephe}
use Rattle.model_core.specs.declared.reply.Reply.{Reply}
use Rattle.model_core.specs.declared.reply.Reply.TheVariants.{Full}
use Rattle.weak_laws.specs.Tables.Performing.{Performed}
use Rattle.weak_tables.proofs.TakeLemmas.{at_sizes}
use Rattle.weak_tables.proofs.PutLemmas.{cell_answers}
use Rattle.weak_tables.proofs.putting.make_cell.Goals as goal

pub returns-then-is_full-clause-made : goal.returns-then-is_full-clause-made
returns-then-is_full-clause-made g c =
    let z = g.M.Machine.sizes c.args.m.now in
    inl (subst (λ (r : Reply). Performed z (g.M.Machine.front c.args.m.now) (g.M.Machine.front c.perform-ephe.new.m) (Ephe 8 1) r) (c.is_full.ensures.full.0 c.if-is_full.true) c.perform-ephe.ensures.performed)

pub returns-clause-made : goal.returns-clause-made
returns-clause-made g c =
    let z = g.M.Machine.sizes c.args.m.now in
    let room : c.perform-ephe.result ≢ Full = λ full. let clash : true ≡ false = sym (c.is_full.ensures.full.1 full) ∙ c.if-is_full.false in cc in
    cell_answers z _ _ _ _ _ _ c.perform-ephe.ensures.performed room (at_sizes z _ _ _ _ _ c.perform-ephe.ensures.sizes c.perform-node.ensures.performed) c.is_full-2.ensures.full
