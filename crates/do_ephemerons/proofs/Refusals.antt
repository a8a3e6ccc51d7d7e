-- Commands that are done before a word is read or written.
use Rattle.std.proofs.Common.{◌≡◌, ◌<◌, [], refl, ap, subst}
use Rattle.model_core.specs.declared.command.Command.{Command}
use Rattle.model_core.specs.declared.command.Command.TheVariants.{SetKey, UnsetKey, GetKey, CheckKey, SetData, UnsetData, GetData, CheckData}
use Rattle.model_core.specs.declared.reply.Reply.{Reply}
use Rattle.model_core.specs.declared.reply.Reply.TheVariants.{BadType}
use Rattle.model_core.specs.declared.reply.Applied.{Applied}
use Rattle.model_core.specs.declared.reply.Applied.TheVariants.{Replied}
use Rattle.heap_words.specs.declared.value.Value.TheVariants.{Nothing}
use Rattle.heap_rule.specs.declared.view.DomainView.{DomainView}
use Rattle.heap_rule.specs.Running.{Runs, own_entry}
use Rattle.heap_rule.specs.Standing.{Entered}
use Rattle.heap_rule.specs.Token.{Token, SharedHeap, IsIn}
use Rattle.step_run.specs.Fields.Ticks.{tick_answer}
use Rattle.step_ephemerons.specs.Commands.Heads.{ephemeron_in}
use Rattle.do_fields.proofs.OfFields.Doing.{entered_did}
use Rattle.do_ephemerons.specs.Found.{IsRefusal, Refused}
use Rattle.do_ephemerons.specs.Naming.{NamesRegisters}

-- the entry stands at a step that refuses it
pub refused : (h : SharedHeap) (old new : Token) (c : Command) (r : Reply) → IsRefusal r → Runs h old → IsIn new h → Entered h.config (own_entry old c) (Replied r) Nothing [] old.view new.view → Refused h old new c r
refused h old new c r refusal runs here entered = record {
  did = entered_did h old new c (own_entry old c) r (Replied r) Nothing [] refl refl runs here entered;
  refusal = refusal;
  own = ap (λ (x : DomainView). x.own) entered.view;
  holds = entered.holds;
}

-- such a command answers `type` there
type_answer : (t : Token) (c : Command) → NamesRegisters c → tick_answer (own_entry t c) ≡ Replied BadType
type_answer t (SetKey ephe i item) names = refl
type_answer t (UnsetKey ephe i) names = refl
type_answer t (GetKey dst ephe i) names = refl
type_answer t (CheckKey ephe i) names = refl
type_answer t (SetData ephe item) names = refl
type_answer t (UnsetData ephe) names = refl
type_answer t (GetData dst ephe) names = refl
type_answer t (CheckData ephe) names = refl
type_answer t _ names = absurd names

-- and so at a tick
pub tick_refused : (h : SharedHeap) (old new : Token) (c : Command) → NamesRegisters c → Runs h old → IsIn new h → Entered h.config (own_entry old c) (tick_answer (own_entry old c)) Nothing [] old.view new.view → Refused h old new c BadType
tick_refused h old new c names runs here entered =
    refused h old new c BadType tt runs here (subst (λ (a : Applied). Entered h.config (own_entry old c) a Nothing [] old.view new.view) (type_answer old c names) entered)

-- the register of the ephemeron is below 16
pub ephemeron_few : (c : Command) → NamesRegisters c → ephemeron_in c < 16
ephemeron_few (SetKey ephe i item) names = names.0
ephemeron_few (UnsetKey ephe i) names = names
ephemeron_few (GetKey dst ephe i) names = names
ephemeron_few (CheckKey ephe i) names = names
ephemeron_few (SetData ephe item) names = names.0
ephemeron_few (UnsetData ephe) names = names
ephemeron_few (GetData dst ephe) names = names
ephemeron_few (CheckData ephe) names = names
ephemeron_few _ names = absurd names
