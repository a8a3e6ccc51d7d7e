use Rattle.std.proofs.Common.{◌≡◌, ◌∙◌, ◌+◌, ◌≤◌, ℕ, List, true, false, sym, subst, arith, [], ◌∷◌, ◌++◌}
use Rattle.model_core.specs.declared.entry.Entry.{Entry}
use Rattle.model_core.specs.declared.state.Sizes.{Sizes}
use Rattle.table_text.specs.declared.line.TableLine.TheVariants as line_of
use Rattle.model_core.specs.declared.command.Command.TheVariants.{Alloc}
use Rattle.model_core.specs.Domains.{domain_at}
use Rattle.weak_laws.specs.Tables.Thinning.{state_of}
use Rattle.model_core.specs.Counts.Counts.{labels_given}
use Rattle.model_core.proofs.OfCounts.Few.{labels_few}
use Rattle.table_run.proofs.LinesLemmas.{key_made, key_refused}
use Rattle.table_run.proofs.line.make_key.Goals as goal

pub returns-then-is_full-clause-runs : goal.returns-then-is_full-clause-runs
returns-then-is_full-clause-runs g c =
    let z : Sizes = g.M.Machine.sizes c.args.m.now.machine in
    let old : List Entry = g.M.Machine.front c.args.m.now.machine in
    let new : List Entry = g.M.Machine.front c.perform-key.new.self in
    let left : ℕ = g.M.Machine.labels_left c.perform-key.new.self in
    let serial : (domain_at (state_of z new) 0).serial + left ≡ 4294967295 = subst (λ (y : Sizes). (domain_at (state_of y new) 0).serial + left ≡ 4294967295) c.perform-key.ensures.sizes c.shows_legal-2.ensures.labels in
    let one : labels_given (Alloc c.args.reg 0 1) c.perform-key.result ≤ 1 = labels_few (Alloc c.args.reg 0 1) c.perform-key.result in
    let labels = c.perform-key.ensures.labels in
    λ p s before x few. key_refused c.args.version z c.shows_legal.ensures.limits old new c.args.reg c.perform-key.result c.perform-key.ensures.performed (c.is_full.ensures.full.0 c.if-is_full.true) p s before (g.M.Machine.labels_left c.args.m.now.machine) left c.shows_legal.ensures.alone serial (omega (arith, labels, one)) few x

pub returns-clause-runs : goal.returns-clause-runs
returns-clause-runs g c =
    let z : Sizes = g.M.Machine.sizes c.args.m.now.machine in
    let old : List Entry = g.M.Machine.front c.args.m.now.machine in
    λ p s before x few. key_made c.args.version z c.shows_legal.ensures.limits old (g.M.Machine.front c.perform-key.new.self) c.args.reg c.perform-key.result c.requires.register.0 c.requires.register.1 c.perform-key.ensures.performed
    (λ full. let clash : true ≡ false = sym (c.is_full.ensures.full.1 full) ∙ c.if-is_full.false in cc) p s (before ++ line_of.Key c.args.reg ∷ []) x
