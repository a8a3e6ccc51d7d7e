use Rattle.std.proofs.Common.{List, sym, subst}
use Rattle.heap_rule.specs.Token.{Token}
use Rattle.heap_rule.specs.Ending.{AllIn}
use Rattle.camlheap_run.proofs.RunLemmas.{all_in}
use Rattle.camlheap_run.proofs.run.end.end.Goals as goal

pub stop-requires-clause-here : goal.stop-requires-clause-here
stop-requires-clause-here c = subst (λ (ts : List Token). AllIn c.args.heap ts) (sym c.domains_of-domains.ensures.domains) (all_in c.args.heap c.args.runs.items c.requires.here)
