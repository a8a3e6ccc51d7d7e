-- What an exchange tells of a token's plain data: it is what its changes make of it, and remembers.
use Rattle.std.proofs.Common.{◌≡◌, ◌≢◌, ◌∙◌, ℕ, ◌&&◌, Bool, false, eq-eqb, ne_eqb, List, refl, ap}
use mathlib.Core.Logic.{dite}
use native.Mathlib.Decide.{ℕ_discrete}
use Rattle.model_core.specs.declared.entry.Entry.{Entry}
use Rattle.model_core.specs.declared.entry.Entry.TheVariants.{Command}
use Rattle.model_core.specs.declared.command.Command.TheVariants.{Cas}
use Rattle.model_core.specs.declared.reply.Applied.TheVariants.{Replied}
use Rattle.model_core.specs.declared.reply.Reply.TheVariants.{Yes, No}
use Rattle.heap_words.specs.declared.value.Value.TheVariants.{Nothing}
use Rattle.heap_rule.specs.declared.change.Change.{Change}
use Rattle.heap_rule.specs.declared.config.Config.{Config}
use Rattle.heap_rule.specs.declared.view.DomainView.{DomainView}
use Rattle.heap_rule.specs.Changes.{changed}
use Rattle.heap_rule.specs.Raw.{Closes}
use Rattle.heap_rule.specs.Standing.{IsInHeap}
use Rattle.heap_rule.proofs.Plain.{entered_closes}
use Rattle.step_run.specs.Fields.Stores.{CanStore, remembering_own}
use Rattle.step_run.proofs.OfFields.Plain.{wrote_closes}
use Rattle.step_run.specs.Exchange.Exchanges.{CanExchange, ExchangeEntry, ExchangeTold, Exchanges}

pub exchange_fits : (k : Config) (x : DomainView) (a old new : ℕ) (remembers : Bool) (changes : List Change) (e : Entry) → ExchangeEntry k x a old new remembers changes e → CanStore remembers changes x.own
exchange_fits k x a old new remembers changes (Command j (Cas block i expected item) false) may = (may.fits, may.room)
exchange_fits k x a old new remembers changes _ may = absurd may

pub exchange_closes : (k : Config) (x : DomainView) (at old : ℕ) (remembers : Bool) (e : Entry) (changes : List Change) → IsInHeap k at → CanStore remembers changes x.own → (found : ℕ)
    → Closes k x found (ExchangeTold k e at old remembers changes) (CanExchange remembers changes) (Exchanges at old remembers found changes)
exchange_closes k x at old remembers e changes inside can found y p told = dite (ℕ_discrete found old)
    (λ (won : found ≡ old).
    let c = wrote_closes k x at found remembers e changes Yes inside can y p (told.won won) in record {
      can_write = can;
      written = λ after wrote. c.written after (wrote ∙ ap (λ (b : Bool). remembering_own (b && remembers) at (changed Nothing changes x.own)) (eq-eqb found old won));
      fits = c.fits;
      once = c.once;
    })
    (λ (lost : found ≢ old).
    let c = entered_closes k x found e (Replied No) changes can.0 y p (told.lost lost) in record {
      can_write = can;
      written = λ after wrote. c.written after (Nothing, refl, wrote ∙ ap (λ (b : Bool). remembering_own (b && remembers) at (changed Nothing changes x.own)) (ne_eqb found old lost));
      fits = c.fits;
      once = c.once;
    })
