-- Each entry keeps a state sound, so that a heap's state is sound from its first entry on.
use Rattle.std.proofs.Common.{◌≡◌, length, refl, sym, ◌∙◌, subst, OnOk, OnErr, Result, Ok, Err, ℕ, length-set}
use Rattle.model_core.specs.declared.command.Command.{Command}
use Rattle.model_core.specs.declared.entry.Entry.{Entry}
use Rattle.model_core.specs.declared.reply.Applied.{Applied}
use Rattle.model_core.specs.declared.reply.ApplyFault.{ApplyFault}
use Rattle.model_core.specs.declared.state.Sizes.{Sizes}
use Rattle.model_core.specs.declared.state.State.{State}
use Rattle.model_core.specs.Domains.{opening, IsWithinLimits}
use Rattle.model_core.specs.Commands.{outcome}
use Rattle.model_core.specs.Entries.{next}
use Rattle.model_core.specs.WellFormed.{IsSound}
use Rattle.model_core.proofs.Histories.ShapeAfterLemmas.{shaped-next, shaped-opening}
use Rattle.model_core.proofs.Histories.WellFormedLemmas.{wf_next, wf_opening}
use Rattle.model_core.proofs.Commands.MoveLemmas.{keeps_outcome}

pub sound_opening : (z : Sizes) → IsWithinLimits z → IsSound (opening z)
sound_opening z limits = record { shaped = shaped-opening z limits; well_formed = wf_opening z }

pub sound_next : (s : State) (e : Entry) → IsSound s → IsSound (next s e)
sound_next s e sound = record { shaped = shaped-next s e sound.well_formed sound.shaped; well_formed = wf_next s e sound.well_formed }

-- a state that is the next one, or as it was
pub sound_followed : (s t : State) (e : Entry) (r : Result Applied ApplyFault) → IsSound s → OnOk r (t ≡ next s e) → OnErr r (t ≡ s) → IsSound t
sound_followed s t e (Ok a) sound followed kept = subst IsSound (sym followed) (sound_next s e sound)
sound_followed s t e (Err fault) sound followed kept = subst IsSound (sym kept) sound

-- no command changes the number of domains
pub outcome-domain_count : (s : State) (d : ℕ) (c : Command) → length (outcome s d c).state.domains ≡ length s.domains
outcome-domain_count s = keeps_outcome (λ t. length t.domains ≡ length s.domains) (λ t d x q. length-set t.domains d x ∙ q) (λ t g n q. q) s refl
