use Rattle.std.proofs.Common.{◌≡◌, ◌∙◌, sym, List, [], ◌∷◌, ◌++◌, subst}
use Rattle.model_core.specs.declared.entry.Entry.{Entry}
use Rattle.model_core.specs.declared.state.Sizes.{Sizes}
use Rattle.model_core.specs.Domains.{opening}
use Rattle.model_core.specs.Registrations.{all_registered}
use Rattle.table_text.specs.declared.line.TableLine.TheVariants as line_of
use Rattle.weak_tables.proofs.TakeLemmas.{at_sizes}
use Rattle.table_run.specs.Keepers.Keepers.{HoldsKeeper}
use Rattle.table_run.specs.Keepers.Answers.{SweepAnswers}
use Rattle.table_run.proofs.LinesLemmas.{gone, standing_forgot}
use Rattle.table_run.proofs.line.collect.Goals as goal

pub keeper_sweep-requires-clause-keeper : goal.keeper_sweep-requires-clause-keeper
keeper_sweep-requires-clause-keeper g c =
    let z : Sizes = g.M.Machine.sizes c.args.m.now.machine in
    let mid : List Entry = g.M.Machine.front c.perform-nothing.new.self in
    subst (λ (y : Sizes). HoldsKeeper c.args.version y mid 6) (sym c.perform-nothing.ensures.sizes)
    (standing_forgot c.args.version z c.shows_legal.ensures.limits (g.M.Machine.front c.args.m.now.machine) mid c.perform-nothing.result c.perform-nothing.ensures.performed c.requires.stands)

pub returns-clause-runs : goal.returns-clause-runs
returns-clause-runs g c =
    let z : Sizes = g.M.Machine.sizes c.args.m.now.machine in
    let old : List Entry = g.M.Machine.front c.args.m.now.machine in
    let mid : List Entry = g.M.Machine.front c.perform-nothing.new.self in
    let swept : List Entry = g.M.Machine.front c.keeper_sweep.new.m.machine in
    let same : g.M.Machine.sizes c.keeper_sweep.new.m.machine ≡ z = c.keeper_sweep.ensures.passes.keeps.sizes ∙ c.perform-nothing.ensures.sizes in
    let quiet : all_registered 0 (opening z) swept ≡ [] = subst (λ (y : Sizes). all_registered 0 (opening y) swept ≡ []) same c.shows_legal-3.ensures.unregistered in
    let sweeps : SweepAnswers c.args.version z mid swept 6 = subst (λ (y : Sizes). SweepAnswers c.args.version y mid swept 6) c.perform-nothing.ensures.sizes c.keeper_sweep.ensures.sweeps in
    λ p s before x few. gone c.args.version z c.shows_legal.ensures.limits old mid swept (g.M.Machine.front c.perform-live.new.self) c.perform-nothing.result c.perform-live.result c.shows_legal.ensures.alone quiet c.perform-nothing.ensures.performed
    sweeps c.keeper_sweep.ensures.passes.written c.keeper_sweep.ensures.passes.given (at_sizes z _ _ _ _ _ same c.perform-live.ensures.performed) p s (before ++ line_of.FullMajor ∷ []) x
