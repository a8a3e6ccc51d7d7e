-- How many labels a domain has given out once its command is made, beside other domains.
use Rattle.std.proofs.Common.{◌≡◌, ◌∙◌, ℕ, ◌+◌, ◌<◌, Bool, true, false, cond, List, [], ◌∷◌, ◌++◌, length, replicate, None, refl, sym, ap, subst, arith, get_or-set_same}
use Rattle.model_core.specs.Counts.Counts.{labels_given}
use Rattle.model_core.specs.declared.command.Command as model
use Rattle.model_core.specs.declared.entry.Entry.{Entry}
use Rattle.model_core.specs.declared.entry.Entry.TheVariants.{Command}
use Rattle.model_core.specs.declared.reply.Reply.{Reply}
use Rattle.model_core.specs.declared.state.Sizes.{Sizes}
use Rattle.model_core.specs.declared.state.State.{State}
use Rattle.model_core.specs.Domains.{opening}
use Rattle.model_core.specs.Commands.{CommandAllowed}
use Rattle.model_core.specs.Entries.{next}
use Rattle.model_core.specs.History.{Legal, LegalFrom}
use Rattle.model_core.proofs.Commands.FrameLemmas.{inside_running}
use Rattle.model_core.proofs.Commands.SerialLemmas.{serial_next, serial_of}
use Rattle.model_core.proofs.Histories.FrontLemmas.{keeps_front}
use Rattle.model_core.proofs.Histories.HistoryLemmas.{state_after-push}
use Rattle.weak_laws.specs.Tables.Thinning.{state_of}
use Rattle.weak_laws.proofs.OfTables.StepLemmas.{legal_parts}
use Rattle.weak_laws.specs.Maps.Calls.{PerformedBy}

-- a command that is made gives out its label exactly where it is an allocation that wasn't answered `full`, and no other's entry before it gives out any
pub made_labels : (z : Sizes) (d : ℕ) (old new : List Entry) (c : model.Command) (r : Reply) → PerformedBy z d old new c r
    → serial_of d (state_of z new) ≡ serial_of d (state_of z old) + labels_given c r
made_labels z d old new c r p =
    let step = serial_next d s (inside_running s.domains d allowed.running) c p.full r p.replies in
    omega (arith, ap (serial_of d) left_is, before, step)
  where
    front : List Entry
    front = old ++ p.between

    s : State
    s = state_of z front

    parts : LegalFrom (opening z) front × LegalFrom s (Command d c p.full ∷ [])
    parts = legal_parts (opening z) front (Command d c p.full ∷ []) (subst (Legal z) p.appends p.legal)

    allowed : CommandAllowed s d c p.full
    allowed = parts.1.0

    before : serial_of d s ≡ serial_of d (state_of z old)
    before = (keeps_front (opening z) d front old (record { rest = p.between; appends = refl; others = p.others })).serial

    left_is : state_of z new ≡ next s (Command d c p.full)
    left_is = ap (state_of z) p.appends ∙ state_after-push (opening z) front (Command d c p.full)
