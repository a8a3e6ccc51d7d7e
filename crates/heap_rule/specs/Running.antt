-- What the calls of running domains have in common.
use Rattle.std.specs.Prelude.{◌≡◌, false, []}
use Rattle.model_core.specs.declared.command.Command.{Command}
use Rattle.model_core.specs.declared.entry.Entry.{Entry}
use Rattle.model_core.specs.declared.entry.Entry.TheVariants.{Command as CommandOf}
use Rattle.model_core.specs.declared.reply.Reply.{Reply}
use Rattle.model_core.specs.declared.reply.Applied.TheVariants.{Replied}
use Rattle.model_core.specs.Fronts.{Answers}
use Rattle.heap_rule.specs.declared.view.DomainView.{DomainView}
use Rattle.heap_rule.specs.declared.view.Hunt.TheVariants.{Rests}
use Rattle.heap_rule.specs.Limits.{sizes_in}
use Rattle.heap_rule.specs.Standing.{Acts, GoesOn}
use Rattle.heap_rule.specs.Token.{Token, SharedHeap, IsIn}

-- the entry of a command of the token's domain
abbrev pub own_entry : Token → Command → Entry
own_entry t c = CommandOf t.view.own.number c false

-- the fields that the domain may have to look through are those of its list
abbrev pub RemembersAll : DomainView → Type 0
RemembersAll x = x.seen.remembered ≡ x.own.remembered.items

-- the token is one of the heap's, its trace hasn't ended, no finaliser waits in its queue, no block is being made, and none of the pools is being taken
pub record Runs (h : SharedHeap) (t : Token) : Type 0 where
  pub here : IsIn t h
  pub acts : Acts t.config t.view
  pub idle : t.view.seen.made ≡ []
  pub at_rest : t.view.seen.hunt ≡ Rests
  pub remembers : RemembersAll t.view

-- the same, but finalisers may wait in its queue
pub record Continues (h : SharedHeap) (t : Token) : Type 0 where
  pub here : IsIn t h
  pub goes_on : GoesOn t.config t.view
  pub idle : t.view.seen.made ≡ []
  pub at_rest : t.view.seen.hunt ≡ Rests
  pub remembers : RemembersAll t.view

-- the domain stands where it stood, has noted nothing, has met and owes what it did, has the queue that it had, owes no darkening if it owed none, and knows what it did of how far a collection has come
pub record Stays (x y : DomainView) : Type 0 where
  pub arrivals : y.own.arrivals ≡ x.own.arrivals
  pub stage : y.seen.stage ≡ x.seen.stage
  pub notes : y.seen.notes ≡ x.seen.notes
  pub copying : y.seen.copying ≡ x.seen.copying
  pub queue : y.own.finalisers.queue ≡ x.own.finalisers.queue
  pub weak : y.seen.share.weak ≡ x.seen.share.weak
  pub progress : y.seen.share.progress ≡ x.seen.share.progress
  pub remembers : RemembersAll x → RemembersAll y

-- a call that makes the entry of a command: the domain runs on, its front has grown by entries of others and then by this one, and the reply is the definition's
pub record Did (h : SharedHeap) (old new : Token) (c : Command) (r : Reply) : Type 0 where
  pub runs : Runs h new
  pub answers : Answers (sizes_in old.config) old.view.own.number old.view.seen.front new.view.seen.front (own_entry old c) (Replied r)
  pub heap : (new.table ≡ old.table) × (new.config ≡ old.config)
  pub stays : Stays old.view new.view

-- what the domain owns is as before, but for its registers
pub record ChangesRegisters (old new : Token) : Type 0 where
  pub own : new.view.own ≡ record old.view.own { registers = new.view.own.registers }
