-- What a domain has done in some entries.
use Rattle.std.specs.Prelude.{◌≡◌, ℕ, Bool, List, ◌++◌}
use Rattle.std.specs.List.{list_any}
use Rattle.model_core.specs.declared.entry.Entry.{Entry}
use Rattle.model_core.specs.declared.reply.Reply.{Reply}
use Rattle.model_core.specs.declared.state.State.{State}
use Rattle.model_core.specs.History.{LegalFrom, state_after}
use Rattle.judge_plain.specs.History.Steps.{is_end_of}
use Rattle.model_traces.specs.Spawns.Expansion.{Step, steps_from}
use Rattle.model_traces.specs.Spawns.Printed.{printed_replies_from}

-- entries that are legal lead from one state to the other, in which domain d has made these steps, may have ended, and has added its replies that are printed
pub record Tells (old new : State) (d : ℕ) (h : List Entry) (steps : List Step) (ended : Bool) (before after : List Reply) : Type 0 where
  pub legal : LegalFrom old h
  pub state : new ≡ state_after old h
  pub steps_are : steps ≡ steps_from old h d
  pub ended_is : ended ≡ list_any (is_end_of d) h
  pub replies_are : after ≡ before ++ printed_replies_from old h d
