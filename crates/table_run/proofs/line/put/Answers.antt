use Rattle.std.proofs.Common.{ℤ, ◌≡◌, ◌∙◌, ◌+◌, ℕ, List, [], ◌∷◌, ◌++◌, sym, subst, arith}
use Rattle.model_core.specs.declared.entry.Entry.{Entry}
use Rattle.model_core.specs.declared.state.Sizes.{Sizes}
use Rattle.table_text.specs.declared.line.TableLine.TheVariants as line_of
use Rattle.model_core.specs.Domains.{domain_at}
use Rattle.weak_laws.specs.Tables.Thinning.{state_of}
use Rattle.table_text.specs.declared.machine.reply.LineReply.{LineReply}
use Rattle.table_run.specs.Running.{LineDone}
use Rattle.model_core.specs.declared.command.Command.TheVariants.{PutInt}
use Rattle.weak_laws.specs.Tables.Performing.{Performed}
use Rattle.table_run.specs.Keepers.Keepers.{HoldsKeeper}
use Rattle.table_run.specs.Keepers.Answers.{PutsAt}
use Rattle.table_run.proofs.ValueLemmas.{value_held}
use Rattle.table_run.proofs.LinesLemmas.{standing_put, put_made}
use Rattle.table_run.proofs.line.put.Goals as goal

pub keeper_put-reply-requires-clause-keeper : goal.keeper_put-reply-requires-clause-keeper
keeper_put-reply-requires-clause-keeper g c =
    let z : Sizes = g.M.Machine.sizes c.args.m.now.machine in
    let old : List Entry = g.M.Machine.front c.args.m.now.machine in
    let performed : Performed z old (g.M.Machine.front c.perform-value.new.self) (PutInt 0 c.args.value) c.perform-value.result = subst (λ (w : ℤ). Performed z old (g.M.Machine.front c.perform-value.new.self) (PutInt 0 w) c.perform-value.result) (value_held c.args.reg c.args.value c.requires.fits) c.perform-value.ensures.performed in
    subst (λ (y : Sizes). HoldsKeeper c.args.version y (g.M.Machine.front c.perform-value.new.self) 6) (sym c.perform-value.ensures.sizes)
    (standing_put c.args.version z c.shows_legal.ensures.limits old (g.M.Machine.front c.perform-value.new.self) c.args.value c.perform-value.result performed c.requires.stands)

pub returns-clause-runs : goal.returns-clause-runs
returns-clause-runs g c =
    let z : Sizes = g.M.Machine.sizes c.args.m.now.machine in
    let old : List Entry = g.M.Machine.front c.args.m.now.machine in
    let mid : List Entry = g.M.Machine.front c.perform-value.new.self in
    let new : List Entry = g.M.Machine.front c.keeper_put-reply.new.m.machine in
    let left : ℕ = g.M.Machine.labels_left c.keeper_put-reply.new.m.machine in
    let r : ℕ = c.args.reg in
    let serial : (domain_at (state_of z new) 0).serial + left ≡ 4294967295 = subst (λ (y : Sizes). (domain_at (state_of y new) 0).serial + left ≡ 4294967295) (c.keeper_put-reply.ensures.spends.sizes ∙ c.perform-value.ensures.sizes) c.shows_legal-2.ensures.labels in
    let answer : PutsAt c.args.version z mid new 6 r 0 c.keeper_put-reply.result = subst (λ (y : Sizes). PutsAt c.args.version y mid new 6 r 0 c.keeper_put-reply.result) c.perform-value.ensures.sizes c.keeper_put-reply.ensures.answer in
    let performed : Performed z old mid (PutInt 0 c.args.value) c.perform-value.result = subst (λ (w : ℤ). Performed z old mid (PutInt 0 w) c.perform-value.result) (value_held c.args.reg c.args.value c.requires.fits) c.perform-value.ensures.performed in
    let l0 = c.perform-value.ensures.labels in
    let l1 = c.keeper_put-reply.ensures.spends.labels in
    λ p s before x few. subst (λ (a : LineReply). LineDone c.args.version z p (before ++ line_of.Put c.args.reg c.args.value ∷ []) (line_of.Put c.args.reg c.args.value) s old a new) (sym c.said.ensures)
    (put_made c.args.version z c.shows_legal.ensures.limits old mid new r c.args.value c.perform-value.result c.keeper_put-reply.result c.requires.register.0 c.requires.register.1 performed c.keeper_put-reply.ensures.written c.keeper_put-reply.ensures.refused answer
    p s before x (g.M.Machine.labels_left c.args.m.now.machine) left c.shows_legal.ensures.alone serial (omega (arith, l0, l1)) few)
