-- The finalisers of a domain in the rule: its registrations and its queue are those of the state (the OCaml manual's module `Gc`).
use Rattle.std.specs.Prelude.{◌≡◌, ℕ, ◌+◌, ◌<◌, ◌≤◌, List, [], ◌∷◌, length, slice_get, option_map, option_and_then, Option, Some, None}
use Rattle.model_core.specs.declared.label.Label.{Label}
use Rattle.model_core.specs.declared.state.Finaliser.{Finaliser}
use Rattle.model_core.specs.declared.state.LastFinaliser.{LastFinaliser}
use Rattle.model_core.specs.declared.state.Pending.{Pending}
use Rattle.model_core.specs.declared.state.Pending.TheVariants.{Fin as FinPending, Last as LastPending}
use Rattle.model_core.specs.declared.state.DomainState.{DomainState}
use Rattle.model_core.specs.declared.state.State as model
use Rattle.model_core.specs.Domains.{domain_at, pending_label}
use Rattle.heap_rule.specs.declared.config.Config.{Config}
use Rattle.heap_rule.specs.declared.view.Finalisers.{Finalisers}
use Rattle.heap_rule.specs.declared.view.Held.{Held}
use Rattle.heap_rule.specs.declared.view.Held.TheVariants.{Final, Last, Queue}
use Rattle.heap_rule.specs.declared.view.Registered.{Registered}
use Rattle.heap_rule.specs.declared.view.RegisteredLast.{RegisteredLast}
use Rattle.heap_rule.specs.declared.view.Waiting.{Waiting}
use Rattle.heap_rule.specs.declared.view.Waiting.TheVariants.{Fin as FinWaiting, Last as LastWaiting}
use Rattle.heap_rule.specs.Layout.{heap_words}
use Rattle.heap_rule.specs.Places.{Place, Live, IsOldAt}

-- two lists of one length, item for item
abbrev pub Paired : {A B : Type 0} → (A → B → Type 0) → List A → List B → Type 0
Paired R [] [] = Unit {0}
Paired R (x ∷ xs) (y ∷ ys) = R x y × Paired R xs ys
Paired R _ _ = ⊥

-- the block with this label lives at an address
abbrev pub LivesAt : Live → ℕ → Label → Type 0
LivesAt live a l = (p : Place) × (live a ≡ Some p) × (p.label ≡ l)

-- a registration, or an item of a queue, stands for that of the state
abbrev pub StandsFinal : Live → Registered → Finaliser → Type 0
StandsFinal live r f = LivesAt live r.address f.label × (r.number ≡ f.number) × (r.register ≡ f.register)

abbrev pub StandsLast : Live → RegisteredLast → LastFinaliser → Type 0
StandsLast live r f = LivesAt live r.address f.label × (r.number ≡ f.number)

abbrev pub StandsWaiting : Live → Waiting → Pending → Type 0
StandsWaiting live (FinWaiting address number register) (FinPending number' label register') = LivesAt live address label × (number ≡ number') × (register ≡ register')
StandsWaiting live (LastWaiting number) (LastPending number') = number ≡ number'
StandsWaiting live _ _ = ⊥

-- a domain's lists stand for those of the state
pub record Enrolled (live : Live) (s : model.State) (d : ℕ) (fs : Finalisers) : Type 0 where
  pub finals : Paired (StandsFinal live) fs.finals.items (domain_at s d).finals
  pub lasts : Paired (StandsLast live) fs.lasts.items (domain_at s d).lasts
  pub queue : Paired (StandsWaiting live) fs.queue.items (domain_at s d).queue

-- the block that an item of a queue keeps alive
abbrev pub address_in : Waiting → Option ℕ
address_in (FinWaiting address number register) = Some address
address_in (LastWaiting number) = None

-- the address at a place of the lists
abbrev pub held_at : Finalisers → Held → Option ℕ
held_at fs (Final i) = option_map (λ r. r.address) (slice_get fs.finals.items i)
held_at fs (Last i) = option_map (λ r. r.address) (slice_get fs.lasts.items i)
held_at fs (Queue i) = option_and_then address_in (slice_get fs.queue.items i)

-- and the label at that place of the state's lists
abbrev pub label_held : DomainState → Held → Option Label
label_held x (Final i) = option_map (λ f. f.label) (slice_get x.finals i)
label_held x (Last i) = option_map (λ f. f.label) (slice_get x.lasts i)
label_held x (Queue i) = option_and_then pending_label (slice_get x.queue i)

-- no list has an address of a minor area
abbrev pub RefersOld : Config → Finalisers → Type 0
RefersOld k fs = (h : Held) (a : ℕ) → held_at fs h ≡ Some a → IsOldAt k a

-- what is known of the lists without a look at the table: how many more fit, that addresses lie in the heap, and that registers are ones
pub record FinalisersFit (k : Config) (fs : Finalisers) : Type 0 where
  pub few : length fs.finals.items + length fs.lasts.items + length fs.queue.items ≤ k.finals
  pub finals_room : fs.finals.room + length fs.finals.items ≡ k.finals
  pub lasts_room : fs.lasts.room + length fs.lasts.items ≡ k.finals
  pub queue_room : fs.queue.room + length fs.queue.items ≡ k.finals
  pub inside : (h : Held) (a : ℕ) → held_at fs h ≡ Some a → (1 ≤ a) × (a ≤ heap_words k)
  pub registers : (i : ℕ) (r : Registered) → slice_get fs.finals.items i ≡ Some r → r.register < 16
  pub queued_registers : (i a n r : ℕ) → slice_get fs.queue.items i ≡ Some (FinWaiting a n r) → r < 16
