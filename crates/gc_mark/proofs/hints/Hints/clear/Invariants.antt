use Rattle.gc_mark.specs.Decks.{NotesOn, TakesOwn}
use Rattle.gc_mark.proofs.hints.Hints.clear.Given as goal

abbrev pub invariant-loop : goal.invariant-loop
invariant-loop l = record {
  notes : NotesOn l.fn.self l.self;
  takes : TakesOwn l.fn.self l.self;
}
