-- A run of a heap's only domain that has no command to make, up to the end of its trace.
use Rattle.std.specs.Prelude.{◌≡◌, Bool, true, false, List, [], ◌∷◌, ◌++◌, length}
use Rattle.model_core.specs.declared.entry.Entry.{Entry}
use Rattle.model_core.specs.declared.entry.Entry.TheVariants.{End}
use Rattle.model_core.specs.declared.reply.Reply.{Reply}
use Rattle.heap_rule.specs.Limits.{sizes_in}
use Rattle.heap_rule.specs.Token.{SharedHeap, IsIn}
use Rattle.run_turns.specs.Handed.{Finalised}
use Rattle.run_turns.specs.Runs.{IsHandedIn, RunView}

-- its front has grown by entries of others and by runs of finalisers since it was this
pub record Idles (h : SharedHeap) (start : List Entry) (r : RunView) : Type 0 where
  pub here : IsIn r.token h
  pub number : r.token.view.own.number ≡ 0
  pub handed : IsHandedIn r.supply
  pub done : r.next ≡ length r.commands
  pub running : r.ended ≡ false
  pub ran : List Reply
  pub finalised : Finalised (sizes_in h.config) 0 start r.token.view.seen.front ran
  pub none : h.config.finals ≡ 0 → ran ≡ []

-- its trace has ended
pub record Over (h : SharedHeap) (start : List Entry) (r : RunView) : Type 0 where
  pub here : IsIn r.token h
  pub number : r.token.view.own.number ≡ 0
  pub ended : r.ended ≡ true
  pub before : List Entry
  pub ran : List Reply
  pub finalised : Finalised (sizes_in h.config) 0 start before ran
  pub none : h.config.finals ≡ 0 → ran ≡ []
  pub front : r.token.view.seen.front ≡ before ++ End 0 ∷ []

-- by whether it has
abbrev pub IdleAnswers : SharedHeap → List Entry → RunView → Bool → Type 0
IdleAnswers h front r false = Idles h front r
IdleAnswers h front r true = Over h front r

-- whatever a run had no command to make since, the other has none either
abbrev pub StaysIdle : SharedHeap → RunView → RunView → Type 0
StaysIdle h old new = (front : List Entry) → Idles h front old → Idles h front new
