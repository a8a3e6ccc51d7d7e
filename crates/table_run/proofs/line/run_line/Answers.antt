use Rattle.std.proofs.Common.{◌≡◌, ℤ, List, true, sym, subst}
use Rattle.model_core.specs.declared.entry.Entry.{Entry}
use Rattle.model_core.specs.declared.state.Sizes.{Sizes}
use Rattle.table_text.specs.declared.line.TableLine.{TableLine}
use Rattle.table_text.specs.declared.line.TableLine.TheVariants as line_of
use Rattle.table_text.specs.Forms.{is_writable}
use Rattle.table_run.specs.Running.{LineAnswers}
use Rattle.table_run.proofs.ValueLemmas.{value_held}
use Rattle.table_run.proofs.line.run_line.Goals as goal

pub returns-in-Put-clause-runs : goal.returns-in-Put-clause-runs
returns-in-Put-clause-runs g c =
    let z : Sizes = g.M.Machine.sizes c.args.m.now.machine in
    let old : List Entry = g.M.Machine.front c.args.m.now.machine in
    let new : List Entry = g.M.Machine.front c.put.new.m.machine in
    let fits : is_writable (line_of.Put c.in-Put.reg c.in-Put.value) ≡ true = subst (λ (l : TableLine). is_writable l ≡ true) c.in-Put.is c.requires.fits in
    subst (λ (l : TableLine). LineAnswers c.args.version z (g.M.Machine.labels_left c.args.m.now.machine) l old c.put.result new) (sym c.in-Put.is)
    (subst (λ (w : ℤ). LineAnswers c.args.version z (g.M.Machine.labels_left c.args.m.now.machine) (line_of.Put c.in-Put.reg w) old c.put.result new) (value_held c.in-Put.reg c.in-Put.value fits) c.put.ensures.runs)
