-- A run that goes on is one trace.
use Rattle.std.specs.Prelude.{◌≡◌, true, List, [], ◌++◌, refl}
use Rattle.std.proofs.Common.{◌∙◌, sym, ap, append-nil, append_assoc}
use Rattle.model_core.specs.declared.entry.Entry.{Entry}
use Rattle.run_turns.specs.Runs.{RunView, GoesOn, StaysOver}

-- a run whose trace has ended, and that wasn't turned
stays_nowhere : (r : RunView) → r.ended ≡ true → StaysOver r r
stays_nowhere r ended = record { ended = ended; next = refl; replies = refl }

-- or that went on twice
stays_further : (a b c : RunView) → StaysOver a b → StaysOver b c → StaysOver a c
stays_further a b c p q = record { ended = q.ended; next = q.next ∙ p.next; replies = q.replies ∙ p.replies }

-- a run that wasn't turned
pub goes_nowhere : (r : RunView) → GoesOn r r
goes_nowhere r = record { commands = refl; supply = refl; spawned = refl; number = refl; front = record { rest = []; appends = sym (append-nil r.token.view.seen.front) }; over = stays_nowhere r }

-- a run that went on twice
pub goes_further : (a b c : RunView) → GoesOn a b → GoesOn b c → GoesOn a c
goes_further a b c p q = record {
  commands = q.commands ∙ p.commands;
  supply = q.supply ∙ p.supply;
  spawned = q.spawned ∙ p.spawned;
  number = q.number ∙ p.number;
  front = record {
    rest = p.front.rest ++ q.front.rest;
    appends = q.front.appends ∙ (ap (λ (xs : List Entry). xs ++ q.front.rest) p.front.appends ∙ append_assoc a.token.view.seen.front p.front.rest q.front.rest);
  };
  over = λ ended. let first = p.over ended in stays_further a b c first (q.over first.ended);
}
