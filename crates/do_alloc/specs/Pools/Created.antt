-- What a domain owns after it has made an ephemeron.
use Rattle.std.specs.Prelude.{◌≡◌, ℕ, ◌+◌}
use Rattle.model_core.specs.declared.command.Command.TheVariants.{Ephe}
use Rattle.model_core.specs.declared.label.Label.{Label}
use Rattle.model_core.specs.declared.reply.Reply.TheVariants.{Block}
use Rattle.heap_words.specs.Classes.Table.{IsLeastFor}
use Rattle.heap_words.specs.declared.classes.TheConstants.{SIZES}
use Rattle.heap_words.specs.declared.value.Value.TheVariants.{Ref}
use Rattle.heap_words.specs.Remembered.Bounded.{Bounded}
use Rattle.heap_rule.specs.declared.view.DomainView.{DomainView}
use Rattle.heap_rule.specs.declared.view.Hunt.TheVariants.{Rests}
use Rattle.heap_rule.specs.Changes.{value_at}
use Rattle.heap_rule.specs.Running.{Did}
use Rattle.heap_rule.specs.Token.{Token, SharedHeap}
use Rattle.step_pools.specs.Ephemerons.{with_ephemeron}
use Rattle.do_alloc.specs.Pools.Taken.{HasPlace, MaySweep, PutsPlace}

-- besides its registers, the token has given out one label more, lists one ephemeron more, at this address, and takes no block
pub record ListsCreated (at : ℕ) (old new : Token) : Type 0 where
  pub own : new.view.own ≡ record old.view.own { registers = new.view.own.registers; serial = old.view.own.serial + 1; ephemerons = with_ephemeron at old.view.own.ephemerons }
  pub at_rest : new.view.seen.hunt ≡ Rests

-- the domain with this list of ephemerons
abbrev pub with_list : DomainView → Bounded ℕ → DomainView
with_list x list = record x { own = record x.own { ephemerons = list } }

-- The same, other places were looked at, and own pools may have been swept: the ephemeron is put on the list as it was before or as it was after that. Register dst holds the ephemeron's address
pub record ListsHeld (dst : ℕ) (old new : Token) : Type 0 where
  pub at : ℕ
  pub held : value_at new.view.own.registers dst ≡ Ref at
  pub list : Bounded ℕ
  pub own : new.view.own ≡ record old.view.own { registers = new.view.own.registers; serial = old.view.own.serial + 1; looked = new.view.own.looked; ephemerons = with_ephemeron at list; swept = new.view.own.swept }
  pub sweep : MaySweep old.config old.view (with_list new.view list)
  pub at_rest : new.view.seen.hunt ≡ Rests

-- an ephemeron is made in the major heap, at a place that a search has found, and is listed, and register dst holds it
pub record MadeEphemeron (h : SharedHeap) (dst keys : ℕ) (label : Label) (old new : Token) : Type 0 where
  pub did : Did h old new (Ephe dst keys) (Block label)
  pub lists : ListsHeld dst old new
  pub registers : PutsPlace h.config dst (keys + 3) old new
  pub has_place : (class : ℕ) → IsLeastFor SIZES (keys + 3) class → HasPlace h.config class old.view new.view
