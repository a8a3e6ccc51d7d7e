use Rattle.std.proofs.Common.{◌+◌, map, Vec, Global, arith}
use Rattle.table_text.specs.declared.line.TableLine.{TableLine}
use Rattle.camlheap_run.proofs.SharingLemmas.{few_most, room_within}
use Rattle.camlheap_run.proofs.table.shared.config_of.Goals as goal

pub overflow_cast-most : goal.overflow_cast-most
overflow_cast-most c =
    let few = few_most (map (λ (v : Vec TableLine Global). v.items) c.args.sections.now) in
    omega (arith, few, c.most_lines-most.ensures, c.requires.text.1.few_lines)

pub overflow_add-result : goal.overflow_add-result
overflow_add-result c =
    let few = few_most (map (λ (v : Vec TableLine Global). v.items) c.args.sections.now) in
    omega (arith, few, c.most_lines-most.ensures, c.requires.text.1.few_lines)

pub returns-clause-limits : goal.returns-clause-limits
returns-clause-limits c =
    let most = c.most_lines-most.ensures in
    room_within c.args.sizes.now (map (λ (v : Vec TableLine Global). v.items) c.args.sections.now) (c.most_lines-most.result + 3) c.requires.sizes c.requires.text (omega (arith, most))
