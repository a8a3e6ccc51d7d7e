-- Whether a command may come, by the mode that it needs.
use Rattle.std.proofs.Common.{◌≡◌, ◌↔◌, ℕ, [], Some, None}
use Rattle.std.specs.Prelude.{Option}
use Rattle.model_core.specs.declared.command.Command.{Command}
use Rattle.model_core.specs.declared.command.Command.TheVariants.{PutInt, Copy, Forget, Alloc, AllocMaj, Load, Store, Raw, Cas, Ephe, SetKey, UnsetKey, GetKey, CheckKey, SetData, UnsetData, GetData, CheckData, Finalise, FinaliseLast, Poll, Minor, Major, FullMajor, Spawn, Argument, PutResult, Join}
use Rattle.model_core.specs.declared.state.State.{State}
use Rattle.model_core.specs.declared.state.Mode.{Mode}
use Rattle.model_core.specs.declared.state.Mode.TheVariants.{Open, Answer}
use Rattle.model_core.specs.Domains.{domain_at}
use Rattle.model_core.specs.Commands.{FitsMode}
use Rattle.judge_plain.specs.Modes.{mode_for}

-- the mode is the one that is needed, and in it the domain owes nothing, or nothing is queued
abbrev pub FitsNeeded : State → ℕ → Option Mode → Type 0
FitsNeeded s d None = ⊥
FitsNeeded s d (Some Answer) = (s.mode ≡ Answer) × ((domain_at s d).due ≡ 0)
FitsNeeded s d (Some _) = (s.mode ≡ Open) × ((domain_at s d).queue ≡ [])

-- and that is what the command asks for
fits_same : (s : State) (d : ℕ) (c : Command) → FitsNeeded s d (mode_for c) ↔ FitsMode s d c
fits_same s d (PutInt dst value) = (λ fits. fits, λ fits. fits)
fits_same s d (Copy dst src) = (λ fits. fits, λ fits. fits)
fits_same s d (Forget dst) = (λ fits. fits, λ fits. fits)
fits_same s d (Alloc dst tag fields) = (λ fits. fits, λ fits. fits)
fits_same s d (AllocMaj dst tag fields) = (λ fits. fits, λ fits. fits)
fits_same s d (Load dst src index) = (λ fits. fits, λ fits. fits)
fits_same s d (Store block index item) = (λ fits. fits, λ fits. fits)
fits_same s d (Raw dst tag fields) = (λ fits. fits, λ fits. fits)
fits_same s d (Cas block index expected item) = (λ fits. fits, λ fits. fits)
fits_same s d (Ephe dst keys) = (λ fits. fits, λ fits. fits)
fits_same s d (SetKey ephe index item) = (λ fits. fits, λ fits. fits)
fits_same s d (UnsetKey ephe index) = (λ fits. fits, λ fits. fits)
fits_same s d (GetKey dst ephe index) = (λ fits. fits, λ fits. fits)
fits_same s d (CheckKey ephe index) = (λ fits. fits, λ fits. fits)
fits_same s d (SetData ephe item) = (λ fits. fits, λ fits. fits)
fits_same s d (UnsetData ephe) = (λ fits. fits, λ fits. fits)
fits_same s d (GetData dst ephe) = (λ fits. fits, λ fits. fits)
fits_same s d (CheckData ephe) = (λ fits. fits, λ fits. fits)
fits_same s d (Finalise item number dst) = (λ fits. fits, λ fits. fits)
fits_same s d (FinaliseLast item number) = (λ fits. fits, λ fits. fits)
fits_same s d Poll = (λ fits. fits, λ fits. fits)
fits_same s d Minor = (λ fits. fits, λ fits. fits)
fits_same s d Major = (λ fits. fits, λ fits. fits)
fits_same s d FullMajor = (λ fits. fits, λ fits. fits)
fits_same s d (Spawn section item) = (λ fits. fits, λ fits. fits)
fits_same s d (Argument dst) = (λ fits. fits, λ fits. fits)
fits_same s d (PutResult item) = (λ fits. fits, λ fits. fits)
fits_same s d (Join dst section) = (λ fits. fits, λ fits. fits)

pub fits_needed : (s : State) (d : ℕ) (c : Command) → FitsNeeded s d (mode_for c) → FitsMode s d c
fits_needed s d c = (fits_same s d c).0

pub needed_fits : (s : State) (d : ℕ) (c : Command) → FitsMode s d c → FitsNeeded s d (mode_for c)
needed_fits s d c = (fits_same s d c).1
