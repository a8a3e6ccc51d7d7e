use Rattle.std.proofs.Common.{◌≡◌, ap, subst, List}
use Rattle.std.specs.Prelude.{slice_index_or}
use Rattle.heap_rule.specs.declared.config.Config.{Config}
use Rattle.heap_rule.specs.Token.{Token}
use Rattle.test_turns.proofs.SectionLemmas.{two_handed}
use Rattle.test_turns.proofs.spawns.opened.Goals as goal

pub returns-clause-first : goal.returns-clause-first
returns-clause-first c = (two_handed c.in_ok-heap.heap c.open_hidden.new.domains.items c.remove-first.result c.remove-second.result (ap (λ (k : Config). k.domains) c.in_ok-heap.ensures.config) c.open_hidden.ensures.count c.open_hidden.ensures.opened c.remove-second.ensures.value
    (subst (λ (l : List Token). c.remove-first.result ≡ slice_index_or l 0 c.remove-first.result) c.remove-second.ensures.items c.remove-first.ensures.value)).0

pub returns-clause-second : goal.returns-clause-second
returns-clause-second c = (two_handed c.in_ok-heap.heap c.open_hidden.new.domains.items c.remove-first.result c.remove-second.result (ap (λ (k : Config). k.domains) c.in_ok-heap.ensures.config) c.open_hidden.ensures.count c.open_hidden.ensures.opened c.remove-second.ensures.value
    (subst (λ (l : List Token). c.remove-first.result ≡ slice_index_or l 0 c.remove-first.result) c.remove-second.ensures.items c.remove-first.ensures.value)).1
