use Rattle.std.proofs.Common.{◌≡◌, ℕ, ℤ, List, true, sym, subst}
use Rattle.model_core.specs.declared.entry.Entry.{Entry}
use Rattle.model_core.specs.declared.state.Sizes.{Sizes}
use Rattle.table_text.specs.declared.line.TableLine.{TableLine}
use Rattle.table_text.specs.declared.line.TableLine.TheVariants as line_of
use Rattle.table_text.specs.Forms.{is_writable}
use Rattle.table_sections.specs.Lines.{IsSharedLine}
use Rattle.table_sections.specs.Sections.{LineDone}
use Rattle.table_sections.proofs.LineLemmas.{value_held}
use Rattle.table_sections.proofs.line.run_line.Goals as goal

pub returns-in-Put-clause-done : goal.returns-in-Put-clause-done
returns-in-Put-clause-done g c =
    let z : Sizes = g.M.Machine.sizes c.args.m.now in
    let d : ℕ = g.M.Machine.domain c.args.m.now in
    let old : List Entry = g.M.Machine.front c.args.m.now in
    let new : List Entry = g.M.Machine.front c.put.new.m in
    let fits : is_writable (line_of.Put c.in-Put.reg c.in-Put.value) ≡ true = subst IsSharedLine c.in-Put.is c.requires.fits in
    subst (λ (l : TableLine). LineDone z d old l c.put.result new) (sym c.in-Put.is) (subst (λ (w : ℤ). LineDone z d old (line_of.Put c.in-Put.reg w) c.put.result new) (value_held c.in-Put.reg c.in-Put.value fits) c.put.ensures.done)
