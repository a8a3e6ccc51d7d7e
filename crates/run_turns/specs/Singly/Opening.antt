-- The start of a heap whose domains get their commands handed in.
use Rattle.std.specs.Prelude.{[], List, map}
use Rattle.std.specs.List.{AllByRecursion}
use Rattle.heap_rule.specs.Opening.{opening_tokens}
use Rattle.heap_rule.specs.Token.{SharedHeap, Token}
use Rattle.gc_mark.specs.Decks.{DeckCounts, uncounted}
use Rattle.run_turns.specs.declared.supply.Supply.TheVariants.{Open}
use Rattle.run_turns.specs.Runs.{CanBegin, RunView, unturned}

-- the hints of a domain, before its first command
abbrev pub deck_of : Token → DeckCounts
deck_of t = uncounted t.view.own.number t.config.domains

-- its run, before its first turn
abbrev pub opened : Token → RunView
opened t = unturned t [] (deck_of t) Open

-- each of these domains may begin such a run
abbrev pub MayOpen : List Token → Type 0
MayOpen ts = AllByRecursion (λ (t : Token). CanBegin t []) ts

-- the runs of all domains of a heap that has just started, in order
abbrev pub opened_runs : SharedHeap → List RunView
opened_runs h = map opened (opening_tokens h.table h.config 0 h.config.domains)
