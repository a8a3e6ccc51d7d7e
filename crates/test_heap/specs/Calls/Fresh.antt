-- The domains of a heap that has just started.
use Rattle.std.specs.Prelude.{◌≡◌}
use Rattle.heap_rule.specs.Running.{Runs}
use Rattle.heap_rule.specs.Token.{Token, SharedHeap}

-- the domain runs, has made no block, and has arrived nowhere
pub record IsFresh (h : SharedHeap) (t : Token) : Type 0 where
  pub runs : Runs h t
  pub unlabelled : t.view.own.serial ≡ 0
  pub nowhere : t.view.own.arrivals ≡ 0
