use Rattle.std.proofs.Common.{◌≡◌, ℕ, ◌+◌, ◌<◌, ◌≤◌, List, [], length, sym, ap, ◌∙◌, subst, arith, Err}
use Rattle.std.specs.Prelude.{slice_get, slice_index_or}
use Rattle.model_core.specs.declared.command.Command.{Command}
use Rattle.heap_rule.specs.declared.config.Config.{Config}
use Rattle.heap_rule.proofs.Sizes.{within}
use Rattle.gc_mark.specs.Decks.{uncounted}
use Rattle.model_traces.specs.Spawns.Expansion.{AreFitting}
use Rattle.do_spawn.specs.Opening.{IsOpened}
use Rattle.run_turns.specs.Runs.{RunView, ephemerons_in, registrations_in}
use Rattle.text_script.proofs.OfSpawned.Fitting.{spelled_fits}
use Rattle.camlheap_run.specs.Running.{MayBeginSections, most_of, sectioned_each}
use Rattle.camlheap_run.proofs.BeginLemmas.{some_domain}
use Rattle.camlheap_run.proofs.SectionLemmas.{script_length, spelled_sections, spelled_short}
use Rattle.camlheap_run.proofs.SpawningLemmas.{begins_section, may_sections, opened_decks, sections_count}
use Rattle.camlheap_run.proofs.run.spawns.begin_sections.Goals as goal

pub unreachable-requires : goal.unreachable-requires
unreachable-requires c =
    let outside = (c.start.ensures.outside c.in-Err-Config.field-0-0).0 (c.in-Err-Config.is ∙ ap Err c.in-Err-Config.field-0-is) in
    cc

pub sections_of-requires-clause-sections : goal.sections_of-requires-clause-sections
sections_of-requires-clause-sections c =
    let k = c.args.config in
    let h = c.in-Ok.started.0 in
    let script = c.args.script.sections in
    let ts = c.open_hidden.new.domains.items in
    let read = c.requires.script in
    let config : h.config ≡ k = c.in-Ok.ensures.config in
    let count : length ts ≡ k.domains = c.open_hidden.ensures.count ∙ ap (λ (x : Config). x.domains) config in
    let long : length script ≡ k.domains = script_length read.newest k.domains c.args.script read.bytes read.spelled in
    let few : 0 + length ts ≤ h.config.domains = omega (arith, c.open_hidden.ensures.count) in
    let small : h.config.domains ≤ 8 = omega (arith, (within k c.requires.limits).domains, ap (λ (x : Config). x.domains) config) in
    let ready = may_sections h 0 ts script (omega (arith, long, count)) few small
    (λ i t at. let same : i ≡ 0 + i = omega arith in subst (λ (d : ℕ). IsOpened h d t) same (c.open_hidden.ensures.opened i t at))
    (spelled_short read.newest k.domains c.args.script read.bytes read.spelled) (spelled_sections read.newest k.domains c.args.script read.bytes read.spelled read.third)
    (λ i. let same : i ≡ 0 + i = omega arith in subst (λ (d : ℕ). AreFitting d (slice_index_or script i [])) same (spelled_fits read.newest k.domains c.args.script read.bytes read.spelled read.third i))
    (subst (λ (x : Config). most_of ephemerons_in script ≤ x.ephes) (sym config) c.requires.ephemerons) (subst (λ (x : Config). most_of registrations_in script ≤ x.finals) (sym config) c.requires.registrations) in
    subst (λ (sections : List (List Command)). MayBeginSections ts sections) (sym c.into_sections.ensures) ready

pub sections_of-requires-clause-decks : goal.sections_of-requires-clause-decks
sections_of-requires-clause-decks c =
    let k = c.args.config in
    let h = c.in-Ok.started.0 in
    let ts = c.open_hidden.new.domains.items in
    let config : h.config ≡ k = c.in-Ok.ensures.config in
    let count : length ts ≡ k.domains = c.open_hidden.ensures.count ∙ ap (λ (x : Config). x.domains) config in
    let many : length c.in_ok-decks.decks.items ≡ length ts = omega (arith, c.in_ok-decks.decks.ok.0, c.in_ok-decks.ensures.0, count) in
    opened_decks h 0 ts c.in_ok-decks.decks.items many (λ i t at. let same : i ≡ 0 + i = omega arith in subst (λ (d : ℕ). IsOpened h d t) same (c.open_hidden.ensures.opened i t at))
    (λ i d below. let at : i ≡ 0 + i = omega arith in let inside : i < k.domains = omega (arith, below, count) in c.in_ok-decks.ensures.1 i d inside ∙ ap (λ (j : ℕ). uncounted j k.domains) at ∙ ap (λ (x : Config). uncounted (0 + i) x.domains) (sym config))

pub returns : goal.returns
returns c =
    let k = c.args.config in
    let h = c.in-Ok.started.0 in
    let script = c.args.script.sections in
    let ts = c.open_hidden.new.domains.items in
    let read = c.requires.script in
    let marks = c.spawned_in-spawned.result in
    let config : h.config ≡ k = c.in-Ok.ensures.config in
    let count : length ts ≡ k.domains = c.open_hidden.ensures.count ∙ ap (λ (x : Config). x.domains) config in
    let long : length script ≡ k.domains = script_length read.newest k.domains c.args.script read.bytes read.spelled in
    let small : h.config.domains ≤ 8 = omega (arith, (within k c.requires.limits).domains, ap (λ (x : Config). x.domains) config) in
    let runs = c.in_ok-runs.ensures ∙ ap (sectioned_each marks ts) c.into_sections.ensures in
    record {
      config = config;
      some = some_domain k c.requires.limits;
      count = ap length runs ∙ sections_count marks ts script (omega (arith, long, count)) ∙ count;
      each = λ d r at. begins_section h script marks ts d r c.spawned_in-spawned.ensures small c.open_hidden.ensures.count c.open_hidden.ensures.opened (ap (λ (rs : List RunView). slice_get rs d) (sym runs) ∙ at);
      empty = c.in_ok-room.ensures.items;
      room = omega (arith, c.in_ok-room.ensures.exact, c.len.ensures, count);
    }
