use Rattle.std.proofs.Common.{◌≡◌, ◌+◌, ℕ, List, sym, subst, arith}
use Rattle.model_core.specs.declared.entry.Entry.{Entry}
use Rattle.model_core.specs.declared.state.Sizes.{Sizes}
use Rattle.table_text.specs.declared.line.TableLine.TheVariants as line_of
use Rattle.table_text.specs.declared.machine.reply.LineReply.{LineReply}
use Rattle.weak_maps.specs.Crowds.{made_by}
use Rattle.table_sections.specs.Sections.{LineDone}
use Rattle.table_sections.proofs.CallLemmas.{get_done, makes_none, none_made}
use Rattle.table_sections.proofs.line.get.Goals as goal

pub returns-clause-done : goal.returns-clause-done
returns-clause-done g c =
    let z : Sizes = g.M.Machine.sizes c.args.m.now in
    let d : ℕ = g.M.Machine.domain c.args.m.now in
    let old : List Entry = g.M.Machine.front c.args.m.now in
    let new : List Entry = g.M.Machine.front c.map_get-reply.new.m in
    let left : ℕ = g.M.Machine.labels_left c.map_get-reply.new.m in
    let x = c.map_get-reply.ensures in
    let serial : made_by z d new + left ≡ 4294967295 = subst (λ (w : Sizes × ℕ). made_by w.0 w.1 new + left ≡ 4294967295) (λ i. (x.reads.stays.sizes i, x.reads.stays.domain i)) c.shows_legal-2.ensures.labels in
    let few = x.reads.written in
    let made = none_made _ _ _ _ c.shows_legal.ensures.labels serial x.reads.labels in
    subst (λ (a : LineReply). LineDone z d old (line_of.Get c.args.reg) a new) (sym c.said.ensures)
    (get_done z d old new c.args.reg c.map_get-reply.result x.reads.grows (makes_none z d old new c.map_get-reply.result made x.reads.given x.granted (omega (arith, few))) x.quiet x.answer)
