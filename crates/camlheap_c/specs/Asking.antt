-- Why a block is still there, as C is told.
use Rattle.std.specs.Prelude.{◌≡◌, ◌↔◌, ℕ, ◌<◌, ◌≤◌, ◌⊎◌, true, false, List, length, slice_get, Some}
use Rattle.model_core.specs.declared.label.Label.{Label}
use Rattle.heap_rule.specs.Limits.{sizes_in}
use Rattle.model_laws.specs.declared.reach.asking.Reason.{Reason}
use Rattle.model_laws.specs.declared.reach.asking.Reason.TheVariants.{Way, Nothing, NoField}
use Rattle.model_laws.specs.declared.reach.exploring.Stop.{Stop}
use Rattle.model_laws.specs.declared.reach.exploring.Stop.TheVariants.{PutOff, Many, Memory}
use Rattle.model_laws.specs.Reach.Asking.{IsWhyAlone}
use Rattle.model_laws.specs.Reach.Walks.{StaysAlone, Walks}
use Rattle.run_turns.specs.Singly.Driving.{registered}
use Rattle.run_seats.specs.Shared.Sharing.{MayClose, SharedView}
use Rattle.camlheap_c.specs.declared.asking.CamlheapWay.{CamlheapWay}
use Rattle.camlheap_c.specs.declared.handle.CamlheapDomain.{CamlheapDomain}
use Rattle.camlheap_c.specs.Exported.{RefusesClose}

-- why a search has stopped, as a number
abbrev pub stop_form : Stop → ℕ
stop_form PutOff = 1
stop_form Many = 26
stop_form Memory = 24

-- what a search answers, as a number
abbrev pub Stops : ℕ → Type 0
Stops told = (told ≡ 0) ⊎ ((told ≡ 1) ⊎ ((told ≡ 17) ⊎ ((told ≡ 18) ⊎ ((told ≡ 24) ⊎ (told ≡ 26)))))

-- the first of these fields stand in C's room, as many as fit, and what is behind them there is as it was
pub record Copies (fields old new : List ℕ) : Type 0 where
  pub room : length new ≡ length old
  pub copied : (i n : ℕ) → slice_get fields i ≡ Some n → i < length new → slice_get new i ≡ Some n
  pub beyond : (i : ℕ) → length fields ≤ i → slice_get new i ≡ slice_get old i

-- what C reads of the answer
abbrev pub TellsWay : Reason → List ℕ → List ℕ → CamlheapWay → Type 0
TellsWay (Way way) old new told = (told ≡ record { kind = 0; register = way.register; fields = length way.fields.items }) × Copies way.fields.items old new
TellsWay Nothing old new told = (told ≡ record { kind = 1; register = 0; fields = 0 }) × (new ≡ old)
TellsWay NoField old new told = (told ≡ record { kind = 2; register = 0; fields = 0 }) × (new ≡ old)

-- the domain is the same, in the same heap, and waits for its next command as it did; what waits to be taken of its finalisers, and how many are registered, is the same. The history as it sees it has grown by the loads and copies of the search, and by entries of other domains: no collection has come
pub record GoesAlong (old new : SharedView) : Type 0 where
  pub heap : new.heap ≡ old.heap
  pub number : new.run.token.view.own.number ≡ old.run.token.view.own.number
  pub ready : MayClose old → MayClose new
  pub ran : new.run.ran ≡ old.run.ran
  pub unregistered : registered new.run ≡ registered old.run
  pub walks : Walks old.run.token.view.own.number old.run.token.view.seen.front new.run.token.view.seen.front

-- C reads an answer that is so, where the front has grown by the loads of the search alone
pub record Whys (old new : SharedView) (l : Label) (told : CamlheapWay) (before read : List ℕ) : Type 0 where
  pub reason : Reason
  pub tells : TellsWay reason before read told
  pub still : StaysAlone (sizes_in old.heap.config) old.run.token.view.own.number old.run.token.view.seen.front new.run.token.view.seen.front
  pub why : IsWhyAlone (sizes_in old.heap.config) old.run.token.view.own.number old.run.token.view.seen.front new.run.token.view.seen.front l reason

-- the block that a domain made, by its serial
abbrev pub label_of : ℕ → ℕ → Label
label_of maker serial = record { domain = maker; serial = serial }

-- what a search for a way to a block leaves: a handle that holds none is told as such; the domain can't be asked, and then nothing has changed; or the search has an answer, or has stopped
pub record AsksWhy (old new : CamlheapDomain) (l : Label) (way : CamlheapWay) (before read : List ℕ) (told : ℕ) : Type 0 where
  pub kept : new.full ≡ old.full
  pub none : (old.full ≡ false) ↔ (told ≡ 16)
  pub why : old.full ≡ true → told ≡ 0 → Whys old.value new.value l way before read
  pub refused : old.full ≡ true → 16 < told → told < 24 → RefusesClose old.value told × (new.value ≡ old.value)
  pub goes_on : old.full ≡ true → GoesAlong old.value new.value
  pub stops : old.full ≡ true → Stops told
