use Rattle.std.proofs.Common.{◌≡◌, ◌∙◌, ◌+◌, ℕ, List, [], subst, arith}
use Rattle.model_core.specs.declared.entry.Entry.{Entry}
use Rattle.model_core.specs.declared.state.Sizes.{Sizes}
use Rattle.model_core.specs.Domains.{domain_at}
use Rattle.weak_laws.specs.Tables.Thinning.{state_of}
use Rattle.weak_laws.specs.Tables.Performing.{refusals, full_of}
use Rattle.table_run.specs.Keepers.Answers.{MakeAnswers}
use Rattle.weak_tables.specs.Arrays.{ArrayAnswers}
use Rattle.table_run.proofs.TextLemmas.{opening_serial, prepared}
use Rattle.table_run.proofs.prepare.prepare.Goals as goal

pub returns-clause-begins : goal.returns-clause-begins
returns-clause-begins g c =
    let z : Sizes = g.M.Machine.sizes c.args.m.now.machine in
    let mid : List Entry = g.M.Machine.front c.keeper_make-keeper.new.m.machine in
    let new : List Entry = g.M.Machine.front c.weak_make-array.new.m in
    let left_mid : ℕ = g.M.Machine.labels_left c.keeper_make-keeper.new.m.machine in
    let left_new : ℕ = g.M.Machine.labels_left c.weak_make-array.new.m in
    let a = c.keeper_make-keeper.result in
    let b = c.weak_make-array.result in
    let sizes : g.M.Machine.sizes c.weak_make-array.new.m ≡ z = c.weak_make-array.ensures.spends.sizes ∙ c.keeper_make-keeper.ensures.sizes in
    let start : (domain_at (state_of z []) 0).serial + g.M.Machine.labels_left c.args.m.now.machine ≡ 4294967295 = subst (λ (h : List Entry). (domain_at (state_of z h) 0).serial + g.M.Machine.labels_left c.args.m.now.machine ≡ 4294967295) c.requires.empty c.shows_legal.ensures.labels in
    let zero = opening_serial z c.shows_legal.ensures.alone in
    let serial_mid : (domain_at (state_of z mid) 0).serial + left_mid ≡ 4294967295 = subst (λ (y : Sizes). (domain_at (state_of y mid) 0).serial + left_mid ≡ 4294967295) c.keeper_make-keeper.ensures.sizes c.shows_legal-2.ensures.labels in
    let serial_new : (domain_at (state_of z new) 0).serial + left_new ≡ 4294967295 = subst (λ (y : Sizes). (domain_at (state_of y new) 0).serial + left_new ≡ 4294967295) sizes c.shows_legal-3.ensures.labels in
    let l0 = c.keeper_make-keeper.ensures.labels in
    let l1 = c.weak_make-array.ensures.spends.labels in
    let count_a : refusals mid ≡ 0 + full_of a = subst (λ (h : List Entry). refusals mid ≡ refusals h + full_of a) c.requires.empty c.keeper_make-keeper.ensures.refused in
    let made : MakeAnswers c.args.version z [] mid 6 a = subst (λ (h : List Entry). MakeAnswers c.args.version z h mid 6 a) c.requires.empty c.keeper_make-keeper.ensures.made in
    let array : ArrayAnswers z mid new 7 16 b = subst (λ (y : Sizes). ArrayAnswers y mid new 7 16 b) c.keeper_make-keeper.ensures.sizes c.weak_make-array.ensures.made in
    prepared c.args.version z c.shows_legal.ensures.limits c.shows_legal.ensures.alone c.requires.pools mid new left_mid left_new a b serial_mid serial_new (omega (arith, start, zero, l0)) (omega (arith, start, zero, l0, l1)) count_a c.weak_make-array.ensures.refused made array
