use Rattle.do_ephemerons.proofs.Wipes.{clean_end_may, cleaning_begun, datum_wiped, label_may, not_cleaned, wipe_data_may}
use Rattle.do_ephemerons.proofs.Fronts.{end_front, legal_as, load_front}
use Rattle.do_ephemerons.proofs.cleaning.clean_ephemeron.Goals as goal
use Rattle.std.proofs.Common.{false}

pub returns-in_default-clause-legal : goal.returns-in_default-clause-legal
returns-in_default-clause-legal c = legal_as c.args.heap.now.config c.args.dom.now.view c.clean_load-word.new.dom.view (load_front c.args.heap.now.config c.args.at c.clean_load-word.result c.args.dom.now.view c.clean_load-word.new.dom.view c.clean_load-word.ensures.told)

pub returns-then-clean_keys-clause-legal : goal.returns-then-clean_keys-clause-legal
returns-then-clean_keys-clause-legal c = λ _. c.wipe_data.ensures.told.legal

pub returns-else-clean_keys-clause-legal : goal.returns-else-clean_keys-clause-legal
returns-else-clean_keys-clause-legal c =
    let x = c.args.dom.now.view in
    let y = c.clean_load-word.new.dom.view in
    legal_as c.args.heap.now.config x c.clean_end.new.dom.view (end_front c.args.heap.now.config c.args.at c.clean_load-word.result c.clean_end.result c.in-Some.keys false x y c.clean_keys.new.dom.view c.clean_end.new.dom.view c.clean_load-word.ensures.told c.if-clean_keys.ensures.cleaned c.clean_end.ensures.told)

pub returns-in_default-clause-cleaned : goal.returns-in_default-clause-cleaned
returns-in_default-clause-cleaned c = not_cleaned c.args.heap.now.config c.args.dom.now.view c.clean_load-word.new.dom.view c.args.at c.clean_load-word.result c.args.colours c.requires.known c.clean_load-word.ensures.told c.in_default.ensures

pub clean_label_load-requires-clause-may : goal.clean_label_load-requires-clause-may
clean_label_load-requires-clause-may c = label_may c.clean_load-word.new.dom.view c.clean_keys.new.dom.view c.args.at c.in-Some.keys c.if-clean_keys.ensures.cleaned

pub wipe_data-requires-clause-may : goal.wipe_data-requires-clause-may
wipe_data-requires-clause-may c = wipe_data_may c.clean_load-word.new.dom.view c.clean_keys.new.dom.view c.args.at c.in-Some.keys c.if-clean_keys.ensures.cleaned c.clean_label_load.new.dom.view c.clean_label_load.result c.clean_label_load.ensures.told

pub clean_end-requires-clause-may : goal.clean_end-requires-clause-may
clean_end-requires-clause-may c = clean_end_may c.clean_load-word.new.dom.view c.clean_keys.new.dom.view c.args.at c.in-Some.keys c.if-clean_keys.ensures.cleaned

pub returns-then-clean_keys-clause-cleaned : goal.returns-then-clean_keys-clause-cleaned
returns-then-clean_keys-clause-cleaned c =
    let k = c.args.heap.now.config in
    let x = c.args.dom.now.view in
    let y = c.clean_load-word.new.dom.view in
    let begun = cleaning_begun k x y c.args.at c.clean_load-word.result c.args.colours c.requires.known c.clean_load-word.ensures.told c.requires.meanings c.in-Some.keys c.in-Some.ensures in
    datum_wiped y c.clean_keys.new.dom.view c.args.at c.in-Some.keys c.if-clean_keys.ensures.cleaned c.clean_label_load.new.dom.view c.clean_label_load.result c.clean_label_load.ensures.told k x c.wipe_data.new.dom.view c.requires.idle c.requires.none begun c.wipe_data.ensures.told
