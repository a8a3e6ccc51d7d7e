use Rattle.std.proofs.Common.{List, [], ◌∷◌, ◌++◌, sym, subst}
use Rattle.model_core.specs.declared.entry.Entry.{Entry}
use Rattle.model_core.specs.declared.state.Sizes.{Sizes}
use Rattle.table_text.specs.declared.line.TableLine.TheVariants as line_of
use Rattle.table_text.specs.declared.machine.reply.LineReply.{LineReply}
use Rattle.table_run.specs.Running.{LineDone}
use Rattle.table_run.proofs.LinesLemmas.{got}
use Rattle.table_run.proofs.line.get.Goals as goal

pub returns-clause-runs : goal.returns-clause-runs
returns-clause-runs g c =
    let z : Sizes = g.M.Machine.sizes c.args.m.now.machine in
    let old : List Entry = g.M.Machine.front c.args.m.now.machine in
    let new : List Entry = g.M.Machine.front c.keeper_get-reply.new.m.machine in
    λ p s before x few. subst (λ (a : LineReply). LineDone c.args.version z p (before ++ line_of.Get c.args.reg ∷ []) (line_of.Get c.args.reg) s old a new) (sym c.said.ensures)
    (got c.args.version z c.shows_legal.ensures.limits old new c.args.reg c.keeper_get-reply.result c.requires.register.0 c.requires.register.1 c.keeper_get-reply.ensures.written c.keeper_get-reply.ensures.refused c.keeper_get-reply.ensures.answer p s (before ++ line_of.Get c.args.reg ∷ []) x)
