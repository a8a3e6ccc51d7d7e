use Rattle.std.proofs.Common.{◌∙◌, ap, Err}
use Rattle.camlheap_run.specs.Tables.{ephemerons_for}
use Rattle.camlheap_run.proofs.TableLemmas.{few_ephemerons, table_fits}
use Rattle.camlheap_run.proofs.table.alone.open.Goals as goal

pub unreachable-requires : goal.unreachable-requires
unreachable-requires c =
    let outside = (c.make.ensures.outside c.in-Err-Config.field-0-0).0 (c.in-Err-Config.is ∙ ap Err c.in-Err-Config.field-0-is) in
    let fits = table_fits c.args.sizes.now (ephemerons_for c.args.text.now) c.requires.sizes (few_ephemerons c.args.text.now c.requires.few) in
    cc
