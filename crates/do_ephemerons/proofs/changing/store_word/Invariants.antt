use Rattle.heap_rule.specs.Running.{own_entry}
use Rattle.do_ephemerons.proofs.changing.store_word.Given as goal

abbrev pub ghost-key_store : goal.ghost-key_store
ghost-key_store g a = own_entry a.dom.now g.command

abbrev pub ghost-data_store : goal.ghost-data_store
ghost-data_store g a = own_entry a.dom.now g.command
