-- What the end of a session makes of the history.
use Rattle.std.specs.Prelude.{◌≡◌, List, [], ◌∷◌, ◌++◌}
use Rattle.model_core.specs.declared.entry.Entry.{Entry}
use Rattle.model_core.specs.declared.entry.Entry.TheVariants.{End}
use Rattle.model_core.specs.declared.reply.Reply.{Reply}
use Rattle.model_core.specs.declared.state.Sizes.{Sizes}
use Rattle.model_core.specs.History.{Legal}
use Rattle.heap_rule.specs.declared.config.Config.{Config}
use Rattle.heap_rule.specs.Limits.{sizes_in}
use Rattle.run_turns.specs.Handed.{Finalised}
use Rattle.run_session.specs.Sessions.{SessionView}
use Rattle.weak_laws.specs.Tables.Thinning.{AllCollector}

-- a session whose trace has ended: the numbers of its heap, what its domain has seen of the history, and the replies of finalisers that wait to be taken
pub record EndedView : Type 0 where
  pub config : Config
  pub front : List Entry
  pub ran : List Reply

-- the trace of a session has ended, behind the finalisers that waited. Their replies wait to be taken, behind those that waited
pub record EndsIn (old : SessionView) (new : EndedView) : Type 0 where
  pub config : new.config ≡ old.config
  pub before : List Entry
  pub ran : List Reply
  pub finalised : Finalised (sizes_in old.config) 0 old.front before ran
  pub front : new.front ≡ before ++ End 0 ∷ []
  pub waits : new.ran ≡ old.ran ++ ran
  pub none : old.config.finals ≡ 0 → ran ≡ []

-- the history of an ended heap is that of its domain, and entries of the collector
pub record Follows (z : Sizes) (front history : List Entry) : Type 0 where
  pub after : List Entry
  pub last : AllCollector after
  pub appends : history ≡ front ++ after
  pub legal : Legal z history

-- the history of an ended heap is a front, then entries of the collector and runs of the finalisers that waited, the end of the one trace, and entries of the collector
pub record EndsAfter (z : Sizes) (front history : List Entry) : Type 0 where
  pub before : List Entry
  pub ran : List Reply
  pub finalised : Finalised z 0 front before ran
  pub after : List Entry
  pub last : AllCollector after
  pub appends : history ≡ (before ++ End 0 ∷ []) ++ after
  pub legal : Legal z history

-- and where no finaliser is registered it is the front, then entries of the collector, the end, and entries of the collector
pub record StopsAfter (z : Sizes) (front history : List Entry) : Type 0 where
  pub before : List Entry
  pub after : List Entry
  pub collector : AllCollector before
  pub last : AllCollector after
  pub appends : history ≡ (front ++ before ++ End 0 ∷ []) ++ after
  pub legal : Legal z history
