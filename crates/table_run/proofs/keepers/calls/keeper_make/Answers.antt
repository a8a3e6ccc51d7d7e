use Rattle.std.proofs.Common.{List, sym, subst}
use Rattle.model_core.specs.declared.entry.Entry.{Entry}
use Rattle.model_core.specs.declared.state.Sizes.{Sizes}
use Rattle.table_text.specs.declared.version.Version.{Version}
use Rattle.table_run.specs.Keepers.Answers.{MakeAnswers}
use Rattle.table_run.proofs.OfKeepers.TableLemmas.{table_make_answers}
use Rattle.table_run.proofs.OfKeepers.MapLemmas.{map_make_answers}
use Rattle.table_run.proofs.keepers.calls.keeper_make.Goals as goal

pub returns-in-One-clause-made : goal.returns-in-One-clause-made
returns-in-One-clause-made g c =
    let z : Sizes = g.M.Machine.sizes c.args.m.now.machine in
    let old : List Entry = g.M.Machine.front c.args.m.now.machine in
    let new : List Entry = g.M.Machine.front c.table_make.new.m in
    subst (λ (v : Version). MakeAnswers v z old new c.args.dst c.table_make.result) (sym c.in-One.is) (table_make_answers z old new c.args.dst c.table_make.result c.table_make.ensures.made)

pub returns-in-Two-clause-made : goal.returns-in-Two-clause-made
returns-in-Two-clause-made g c =
    let z : Sizes = g.M.Machine.sizes c.args.m.now.machine in
    let old : List Entry = g.M.Machine.front c.args.m.now.machine in
    let new : List Entry = g.M.Machine.front c.list_make.new.m.machine in
    subst (λ (v : Version). MakeAnswers v z old new c.args.dst c.list_make.result) (sym c.in-Two.is) (map_make_answers z old new c.args.dst c.list_make.result c.list_make.ensures.made)
