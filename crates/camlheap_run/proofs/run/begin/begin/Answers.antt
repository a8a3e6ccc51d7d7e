use Rattle.std.proofs.Common.{◌≡◌, ℕ, ◌+◌, List, [], length, sym, ap, ◌∙◌, subst, arith, Err, map}
use Rattle.std.specs.Prelude.{slice_index_or}
use Rattle.model_core.specs.declared.command.Command.{Command}
use Rattle.heap_rule.specs.Token.{Token}
use Rattle.gc_mark.specs.Decks.{uncounted}
use Rattle.camlheap_run.specs.Running.{MayBegin, deck_of, opened_each}
use Rattle.camlheap_run.proofs.SectionLemmas.{spelled_fine, spelled_length}
use Rattle.camlheap_run.proofs.BeginLemmas.{decks_are, may_begin, opened_are, length-opening_tokens, some_domain}
use Rattle.camlheap_run.proofs.run.begin.begin.Goals as goal

pub unreachable-requires : goal.unreachable-requires
unreachable-requires c =
    let outside = (c.start.ensures.outside c.in-Err-Config.field-0-0).0 (c.in-Err-Config.is ∙ ap Err c.in-Err-Config.field-0-is) in
    cc

pub runs_of-requires-clause-sections : goal.runs_of-requires-clause-sections
runs_of-requires-clause-sections c =
    let k = c.args.config in
    let script = c.args.script.sections in
    let ready = may_begin c.in-Ok.started.0 k 0 k.domains script (spelled_length k.domains c.args.script c.requires.script) (omega arith) (spelled_fine k.domains c.args.script c.requires.script) c.requires.ephemerons c.requires.registrations in
    subst (λ (sections : List (List Command)). MayBegin c.in-Ok.started.1.items sections) (sym c.into_sections.ensures) (subst (λ (ts : List Token). MayBegin ts script) (sym c.in-Ok.ensures.tokens) ready)

pub runs_of-requires-clause-decks : goal.runs_of-requires-clause-decks
runs_of-requires-clause-decks c =
    let k = c.args.config in
    subst (λ (ts : List Token). c.in_ok-decks.decks.items ≡ map deck_of ts) (sym c.in-Ok.ensures.tokens)
    (decks_are c.in-Ok.started.0 k 0 k.domains c.in_ok-decks.decks.items (omega (arith, c.in_ok-decks.decks.ok.0, c.in_ok-decks.ensures.0)) (λ i d below. let at : i ≡ 0 + i = omega arith in c.in_ok-decks.ensures.1 i d below ∙ ap (λ (j : ℕ). uncounted j k.domains) at))

pub returns : goal.returns
returns c =
    let k = c.args.config in
    let count = length-opening_tokens c.in-Ok.started.0 k 0 k.domains in
    let many = ap length c.in-Ok.ensures.tokens in
    record {
      config = c.in-Ok.ensures.config;
      some = some_domain k c.requires.limits;
      runs = c.in_ok-runs.ensures ∙ ap (opened_each c.in-Ok.started.1.items) c.into_sections.ensures ∙ ap (λ (ts : List Token). opened_each ts c.args.script.sections) c.in-Ok.ensures.tokens
          ∙ opened_are c.in-Ok.started.0 k c.args.script.sections 0 k.domains c.args.script.sections (spelled_length k.domains c.args.script c.requires.script) (λ i. let at : i ≡ 0 + i = omega arith in ap (λ (j : ℕ). slice_index_or c.args.script.sections j []) at);
      empty = c.in_ok-room.ensures.items;
      room = omega (arith, c.in_ok-room.ensures.exact, c.len.ensures, count, many);
    }
