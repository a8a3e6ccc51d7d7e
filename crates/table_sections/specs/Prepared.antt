-- What each domain does from its first command to its last.
use Rattle.std.specs.Prelude.{ℕ, zero, suc, List, []}
use Rattle.model_core.specs.declared.command.Command.TheVariants.{Poll}
use Rattle.model_core.specs.declared.entry.Entry.{Entry}
use Rattle.model_core.specs.declared.reply.Reply.TheVariants.{Done}
use Rattle.model_core.specs.declared.state.Sizes.{Sizes}
use Rattle.table_text.specs.declared.line.TableLine.{TableLine}
use Rattle.table_text.specs.declared.machine.reply.LineReply.{LineReply}
use Rattle.weak_laws.specs.Maps.Calls.{PerformedBy}
use Rattle.table_sections.specs.Sections.{SectionDone}
use Rattle.table_sections.specs.Places.{Finds, LaysOut}
use Rattle.table_sections.specs.declared.laying.Places.{Places}

-- what a domain does behind its first `poll` to be prepared
abbrev pub Prepares : Sizes → Places → ℕ → List Entry → List Entry → Type 0
Prepares z p zero old new = LaysOut z 0 old new p
Prepares z p (suc d) old new = Finds z (suc d) old new p

-- a domain that is prepared has done no more than that
pub record IsPrepared (z : Sizes) (p : Places) (d : ℕ) (front : List Entry) : Type 0 where
  pub begun : List Entry
  pub polled : PerformedBy z d [] begun Poll Done
  pub prepares : Prepares z p d begun front

-- it has made its section behind a second `poll`
pub record HasRun (z : Sizes) (p : Places) (d : ℕ) (lines : List TableLine) (replies : List LineReply) (new : List Entry) : Type 0 where
  pub ready : List Entry
  pub prepared : IsPrepared z p d ready
  pub old : List Entry
  pub polled : PerformedBy z d ready old Poll Done
  pub done : SectionDone z d old lines replies new
