-- Laws of finalisers: none is lost, they run in the order in which they were queued, and those of `finalise` before those of `finalise_last`.
use Rattle.std.specs.Prelude.{◌≡◌, ◌≢◌, ℕ, ◌+◌, ◌<◌, Bool, true, false, cond, ◌==◌, List, [], ◌∷◌, ◌++◌, map, reverse, count_by, slice_get, Some, IsTrue}
use Rattle.std.specs.List.{list_all}
use Rattle.model_core.specs.declared.label.Label.{Label}
use Rattle.model_core.specs.declared.entry.Entry.{Entry}
use Rattle.model_core.specs.declared.entry.Entry.TheVariants.{Cut, Queue, Last}
use Rattle.model_core.specs.declared.graph.Value.TheVariants.{Block}
use Rattle.model_core.specs.declared.state.Pending.{Pending}
use Rattle.model_core.specs.declared.state.Pending.TheVariants.{Fin, Last as LastPending}
use Rattle.model_core.specs.declared.state.Finaliser.{Finaliser}
use Rattle.model_core.specs.declared.state.LastFinaliser.{LastFinaliser}
use Rattle.model_core.specs.declared.state.Sizes.{Sizes}
use Rattle.model_core.specs.declared.state.State.{State}
use Rattle.model_core.specs.Graph.{same_label}
use Rattle.model_core.specs.Domains.{domain_at, register, opening}
use Rattle.model_core.specs.Entries.{queued_final, queued_last, at_places, next}
use Rattle.model_core.specs.History.{state_after, Legal}
use Rattle.model_core.specs.Registrations.{all_registered, all_ran, left_over}

-- no registration of a domain that runs is lost: of those that pass any test, as many wait in its lists and its queue, or have run, as were made
abbrev pub NoRegistrationIsLost : Type 0
NoRegistrationIsLost = (z : Sizes) (h : List Entry) (k : ℕ) (test : Pending → Bool) → Legal z h → (domain_at (state_after (opening z) h) k).ended ≡ false
    → count_by test (left_over (domain_at (state_after (opening z) h) k)) + count_by test (all_ran k (opening z) h) ≡ count_by test (all_registered k (opening z) h)

-- what an entry appends to the queue of domain k
abbrev pub queued : ℕ → State → Entry → List Pending
queued k s (Queue d places) = cond (d == k) (map queued_final (at_places (reverse places) (domain_at s d).finals)) []
queued k s (Last d place) = cond (d == k) (map queued_last (at_places (place ∷ []) (domain_at s d).lasts)) []
queued k s _ = []

-- all that a history queues in domain k
abbrev pub all_queued : ℕ → State → List Entry → List Pending
all_queued k s [] = []
all_queued k s (e ∷ h) = queued k s e ++ all_queued k (next s e) h

-- finalisers run in the order in which they were queued: what has run, and then what waits, is all that was queued
abbrev pub FinalisersRunInOrder : Type 0
FinalisersRunInOrder = (z : Sizes) (h : List Entry) (k : ℕ) → Legal z h → all_ran k (opening z) h ++ (domain_at (state_after (opening z) h) k).queue ≡ all_queued k (opening z) h

-- no domain holds a block, and no `finalise` of any domain may bring it back
pub record IsLetGoByAll (s : State) (l : Label) : Type 0 where
  pub registers : (d r : ℕ) → register s d r ≢ Block l
  pub waiting : (d p : ℕ) (f : Finaliser) → slice_get (domain_at s d).finals p ≡ Some f → f.label ≢ l
  pub queued : (d p number r : ℕ) → slice_get (domain_at s d).queue p ≡ Some (Fin number l r) → ⊥

-- whether a registration is one of `finalise` for this block
abbrev pub is_final_of : Label → Pending → Bool
is_final_of l (Fin number k r) = same_label k l
is_final_of l (LastPending number) = false

-- where a `finalise_last` is queued, its block is let go by all
abbrev pub LastsWaitForAll : Type 0
LastsWaitForAll = (z : Sizes) (h : List Entry) (d place : ℕ) (f : LastFinaliser) → Legal z (h ++ Last d place ∷ []) → slice_get (domain_at (state_after (opening z) h) d).lasts place ≡ Some f
    → IsLetGoByAll (state_after (opening z) h) f.label

-- and each `finalise` of it that a domain has registered which still runs has run
abbrev pub FinalsRunBeforeLasts : Type 0
FinalsRunBeforeLasts = (z : Sizes) (h : List Entry) (d place : ℕ) (f : LastFinaliser) (k : ℕ) → Legal z (h ++ Last d place ∷ []) → slice_get (domain_at (state_after (opening z) h) d).lasts place ≡ Some f
    → (domain_at (state_after (opening z) h) k).ended ≡ false
    → count_by (is_final_of f.label) (all_ran k (opening z) h) ≡ count_by (is_final_of f.label) (all_registered k (opening z) h)

-- whether an entry queues registrations of `finalise`
abbrev pub is_queue : Entry → Bool
is_queue (Queue d places) = true
is_queue _ = false

-- each place is below all that stand before it
abbrev pub AllBelow : ℕ → List ℕ → Type 0
AllBelow p [] = Unit {0}
AllBelow p (q ∷ ps) = (q < p) × AllBelow p ps

abbrev pub Falls : List ℕ → Type 0
Falls [] = Unit {0}
Falls (p ∷ ps) = AllBelow p ps × Falls ps

-- between two states a domain has queued registrations of the first one's list, a later one before each earlier one
pub record IsNewestFirst (s t : State) (d : ℕ) : Type 0 where
  pub places : List ℕ
  pub falls : Falls places
  pub queue : (domain_at t d).queue ≡ (domain_at s d).queue ++ map queued_final (at_places places (domain_at s d).finals)

-- what one collection queues of a domain's `finalise` runs newest first
abbrev pub CollectionsQueueNewestFirst : Type 0
CollectionsQueueNewestFirst = (z : Sizes) (h k : List Entry) (d : ℕ) → Legal z (h ++ Cut ∷ k) → IsTrue (list_all is_queue k)
    → IsNewestFirst (state_after (opening z) h) (state_after (next (state_after (opening z) h) Cut) k) d
