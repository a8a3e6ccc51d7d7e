-- A pause of all runs: how far its collection has come, and what it leaves of the runs.
use Rattle.std.specs.Prelude.{◌≡◌, ◌≢◌, ◌⊎◌, ℕ, Bool, true, false, List, [], ◌∷◌, ◌++◌, map, slice_get, slice_index_or, slice_set, Some}
use Rattle.std.specs.List.{list_all}
use Rattle.model_core.specs.declared.command.Command.{Command}
use Rattle.model_core.specs.declared.command.Command.TheVariants.{FullMajor}
use Rattle.model_core.specs.declared.entry.Entry.{Entry}
use Rattle.model_core.specs.declared.entry.Entry.TheVariants.{Command as CommandOf, Cut, Seal, Collected}
use Rattle.model_core.specs.declared.state.Mode.TheVariants.{Open}
use Rattle.model_core.specs.declared.state.Sizes.{Sizes}
use Rattle.model_core.specs.Domains.{opening}
use Rattle.model_core.specs.History.{state_after}
use Rattle.model_traces.specs.Schedules.Sameness.{IsCollection, is_answer, is_queue, is_taking}
use Rattle.text_script.specs.Schedule.Drive.Together.{AllRuns, Answers, IsRested, IsServed, Lead, Leads, OneRun, Rests}

-- the commands of each run that are left
abbrev pub lefts : AllRuns → List (List Command)
lefts v = map (λ x. x.left) v.runs

-- all commands of each
abbrev pub all_commands : AllRuns → List (List Command)
all_commands v = map (λ x. x.commands) v.runs

-- which runs have asked for a pause, and which have ended
abbrev pub askeds : AllRuns → List Bool
askeds v = map (λ x. x.asked) v.runs

abbrev pub endeds : AllRuns → List Bool
endeds v = map (λ x. x.ended) v.runs

-- a collection that was cut
pub record IsCut (c : List Entry) : Type 0 where
  pub queued : List Entry
  pub are_queues : list_all is_queue queued ≡ true
  pub is : c ≡ Cut ∷ queued

-- and sealed
pub record IsSealed (c : List Entry) : Type 0 where
  pub queued : List Entry
  pub taken : List Entry
  pub are_queues : list_all is_queue queued ≡ true
  pub are_taking : list_all is_taking taken ≡ true
  pub is : c ≡ Cut ∷ queued ++ Seal ∷ taken

-- and collected: these were answered since
pub record IsCollected (c answered : List Entry) : Type 0 where
  pub queued : List Entry
  pub taken : List Entry
  pub are_queues : list_all is_queue queued ≡ true
  pub are_taking : list_all is_taking taken ≡ true
  pub are_answers : list_all is_answer answered ≡ true
  pub is : c ≡ Cut ∷ queued ++ Seal ∷ taken ++ Collected ∷ answered

-- how far the collection of a pause has come with these entries, by how far domain 0 has led it: where none is made there are no entries
abbrev pub Walked : Bool → Lead → List Entry → List Entry → Type 0
Walked false (Leads false) c answered = (c ≡ []) × (answered ≡ [])
Walked false Rests c answered = (c ≡ []) × (answered ≡ [])
Walked true (Leads true) c answered = (answered ≡ []) × ((c ≡ []) ⊎ (IsCut c ⊎ IsSealed c))
Walked true Answers c answered = IsCollected c answered
Walked true Rests c answered = IsCollection c answered
Walked _ _ c answered = ⊥

-- a pause has come so far, from a history in which no collection had begun
pub record WalkedFrom (z : Sizes) (complete : Bool) (lead : Lead) (shares : List Entry → Type 0) (answered g : List Entry) : Type 0 where
  pub start : List Entry
  pub was : shares start
  pub made : List Entry
  pub is : g ≡ start ++ made
  pub walked : (state_after (opening z) start).mode ≡ Open → Walked complete lead made answered

-- no run but that of domain d has asked for a pause
abbrev pub AsksAlone : AllRuns → ℕ → Type 0
AsksAlone v d = (e : ℕ) → e ≢ d → slice_index_or (askeds v) e false ≡ false

-- its `full_major` wasn't answered so far
pub record NotYet (old new : AllRuns) (answered : List Entry) : Type 0 where
  pub none : answered ≡ []
  pub left : lefts new ≡ lefts old
  pub asked : askeds new ≡ askeds old

-- or it was
pub record Answered (d : ℕ) (old new : AllRuns) (answered : List Entry) : Type 0 where
  pub asked : slice_index_or (askeds old) d false ≡ true
  pub others : List Command
  pub next : slice_index_or (lefts old) d [] ≡ FullMajor ∷ others
  pub one : answered ≡ CommandOf d FullMajor false ∷ []
  pub left : lefts new ≡ slice_set (lefts old) d others
  pub none : askeds new ≡ slice_set (askeds old) d false

-- no pause is left to come for which the run of domain d has asked
abbrev pub RestedAt : AllRuns → ℕ → Type 0
RestedAt v d = (x : OneRun) → slice_get v.runs d ≡ Some x → IsRested x

-- a pause has come so far: nothing else changes of the runs. It is said for the domain that alone has asked for it. None is left to come for which a run had asked. Where a complete collection is made each domain that has come back was answered
pub record Paused (complete : Bool) (shares_old shares_new : List Entry → Type 0) (old new : AllRuns) : Type 0 where
  pub sizes : new.sizes ≡ old.sizes
  pub commands : all_commands new ≡ all_commands old
  pub ended : endeds new ≡ endeds old
  pub complete_is : new.complete ≡ complete
  pub rested : (d : ℕ) → RestedAt new d
  pub served : complete ≡ true → (d : ℕ) (x : OneRun) → slice_get new.runs d ≡ Some x → x.runs ≡ true → IsServed x
  pub told : (d : ℕ) → AsksAlone old d → (answered : List Entry) × (NotYet old new answered ⊎ Answered d old new answered) × ((g : List Entry) → shares_new g → WalkedFrom old.sizes complete new.lead shares_old answered g)
