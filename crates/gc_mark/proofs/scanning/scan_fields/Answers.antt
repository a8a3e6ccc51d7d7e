use Rattle.gc_mark.proofs.Fields.{fields_may}
use Rattle.gc_mark.proofs.scanning.scan_fields.Goals as goal

pub scan_field-darkened-requires-clause-may : goal.scan_field-darkened-requires-clause-may
scan_field-darkened-requires-clause-may c = fields_may c.args.dom.now.view c.loop-i.dom.view c.loop-i.darkened c.loop-i.i c.args.block c.args.size c.requires.begun.0 c.requires.stage c.requires.begun.1 c.loop-i.invariant.view c.loop-i-test.true
