use Rattle.std.proofs.Common.{◌≡◌, refl, ℕ, ◌≤◌, sym, ap, ◌∙◌, arith}
use Rattle.model_core.specs.Domains.{sizes_of, first_outside as outside_sizes}
use Rattle.heap_rule.specs.declared.config.Config.{Config}
use Rattle.run_turns.specs.Runs.{ephemerons_in, registrations_in}
use Rattle.camlheap_run.specs.Running.{most_of}
use Rattle.camlheap_run.proofs.SectionLemmas.{few_ephemerons, few_registrations, rooms_fit}
use Rattle.camlheap_run.proofs.run.begin.config_of.Goals as goal

pub overflow_cast-result : goal.overflow_cast-result
overflow_cast-result c =
    let few : most_of registrations_in c.args.script.now.sections ≤ 200000 = few_registrations c.args.script.now.sections c.requires.short in
    omega (arith, few, c.most_needs-most.ensures.registrations)

pub overflow_cast-result-2 : goal.overflow_cast-result-2
overflow_cast-result-2 c =
    let few : most_of ephemerons_in c.args.script.now.sections ≤ 200000 = few_ephemerons c.args.script.now.sections c.requires.short in
    omega (arith, few, c.most_needs-most.ensures.ephemerons)

pub returns-clause-limits : goal.returns-clause-limits
returns-clause-limits c =
    let z = c.args.sizes.now in
    let fine = c.requires.short in
    let ephemerons : most_of ephemerons_in c.args.script.now.sections ≤ 200000 = few_ephemerons c.args.script.now.sections fine in
    let registrations : most_of registrations_in c.args.script.now.sections ≤ 200000 = few_registrations c.args.script.now.sections fine in
    let same : sizes_of z.domains z.pools z.minor_words z.classes ≡ z = refl in
    let sizes = ap (λ (n : ℕ). outside_sizes (sizes_of z.domains z.pools z.minor_words n)) (sym c.requires.sizes.classes) ∙ ap outside_sizes same ∙ c.requires.sizes.limits in
    let most = c.most_needs-most.result in
    let k : Config = record { domains = z.domains; minor_words = z.minor_words; pools = z.pools; finals = most.registrations; ephes = most.ephemerons } in
    let finals : most.registrations ≤ 200000 = omega (arith, registrations, c.most_needs-most.ensures.registrations) in
    let ephes : most.ephemerons ≤ 200000 = omega (arith, ephemerons, c.most_needs-most.ensures.ephemerons) in
    rooms_fit k sizes finals ephes
