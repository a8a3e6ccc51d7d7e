-- What a look answers, and what domain 0 does when it leads.
use Rattle.std.specs.Prelude.{◌≡◌, ◌*◌, ◌/◌, ◌%◌, ◌==◌, ◌<◌, ◌≤◌, ℕ, Bool, List, [], ◌∷◌, ◌++◌, length, Some, None}
use Rattle.model_core.specs.History.{Legal}
use Rattle.model_core.specs.Fronts.{AreNotControls, IsFrontOf, unseen}
use Rattle.heap_rule.specs.declared.config.Config.{Config}
use Rattle.heap_rule.specs.declared.view.DomainView.{DomainView}
use Rattle.heap_rule.specs.declared.phase.Kind.{Kind}
use Rattle.heap_rule.specs.declared.phase.Kind.TheVariants.{Run, Promote}
use Rattle.heap_rule.specs.declared.phase.Stage.TheVariants.{In, Leads, Led}
use Rattle.heap_rule.specs.declared.phase.Note.{Note}
use Rattle.heap_rule.specs.declared.phase.Note.TheVariants.{Barrier, Cleared, SetBack}
use Rattle.heap_rule.specs.Limits.{sizes_in}
use Rattle.heap_rule.specs.Phases.{Comes, Follows, IsEven, IsOdd, Pause, Staged, last_note}
use Rattle.heap_rule.specs.Rule.{state_of}
use Rattle.heap_rule.specs.Standing.{noted, with_front}
use Rattle.heap_rule.specs.Cycles.{IsMarking}
use Rattle.step_pauses.specs.Pauses.{kind_in, IsModeOf, MayFollow, asks_again, entry_of, progress_after, unmarked_after, EndsWith}
use Rattle.step_pools.specs.Listings.{NamesAll}
use Rattle.gc_pause.specs.declared.stops.answer.Look.{Look}
use Rattle.gc_pause.specs.declared.stops.answer.Look.TheVariants.{Next, Lead, NotAll}
use Rattle.gc_pause.specs.declared.stops.answer.Want as wish
use Rattle.gc_pause.specs.declared.stops.answer.Want.TheVariants.{Minor, Cycle, Finish, Full}
use Rattle.heap_rule.specs.Meeting.{Meeting, all_seeing}
use Rattle.heap_rule.specs.Views.{AllDomains, domain_in, fresh_share, rest_of}
use Rattle.model_core.specs.declared.entry.Entry.{Entry}

-- the bit of a wish
abbrev pub bit_of : wish.Want → ℕ
bit_of Minor = 1
bit_of Cycle = 2
bit_of Finish = 4
bit_of Full = 8

-- whether a wish is among those of a want word
abbrev pub is_wanted : wish.Want → ℕ → Bool
is_wanted want bits = bits / bit_of want % 2 == 1

-- all have arrived: the barrier word found isn't below the end of the domain's turn, and the front is the whole history so far
pub record PassedBarrier (k : Config) (x y : DomainView) : Type 0 where
  pub found : ℕ
  pub all : x.own.arrivals * k.domains ≤ found
  pub seen : IsFrontOf x.own.number y.seen.front x.seen.front
  pub led : x.own.number ≡ 0 → AreNotControls (unseen y.seen.front x.seen.front)
  pub legal : Legal (sizes_in k) y.seen.front
  pub view : y ≡ record x { seen = record x.seen { front = y.seen.front; stage = y.seen.stage; notes = x.seen.notes ++ Barrier found ∷ [] } }

-- NotAll exactly where the barrier word found is below the end of the domain's turn. Next tells the kind that domain 0 named, which follows the last, and the history tells how far a collection is then
abbrev pub LookAnswers : Config → DomainView → DomainView → Look → Type 0
LookAnswers k x y (NotAll b) = (b < x.own.arrivals * k.domains) × (y ≡ noted x (Barrier b))
LookAnswers k x y (Next kind) = PassedBarrier k x y × (y.seen.stage ≡ In kind) × IsEven x.own.arrivals × Comes x.own.number (kind_in x.seen.stage) kind × IsModeOf kind (state_of k y.seen.front).mode
LookAnswers k x y Lead = PassedBarrier k x y × (y.seen.stage ≡ Leads (kind_in x.seen.stage)) × IsOdd x.own.arrivals

-- These domains meet, of which the first looks, and all see the history of the meeting: to the first the look answers what it answers one that is alone, and it stands in the same pause then. Where they are all domains of the heap, and none has arrived less often than the first, it doesn't answer that not all have arrived
pub record LooksTogether (k : Config) (xs ys : List DomainView) (answer : Look) : Type 0 where
  pub history : List Entry
  pub pause : Pause
  pub meets : Meeting k history pause xs
  pub first : LookAnswers k (with_front (domain_in xs) history) (domain_in ys) answer
  pub staged : Staged pause (domain_in ys)
  pub others : ys ≡ domain_in ys ∷ all_seeing history (rest_of xs)
  pub acts : length xs ≡ k.domains → AllDomains (λ x. (domain_in xs).own.arrivals ≤ x.own.arrivals) xs → (b : ℕ) → answer ≡ NotAll b → ⊥

-- what domain 0 notes when it leads to a phase of this kind
abbrev pub cleared : Kind → List Note
cleared Run = Cleared ∷ []
cleared _ = []

-- domain 0 may name the kind next: it may follow the last one, before domains run the list of free pools names all, and before they copy the cursor was just set back
pub record MayName (k : Config) (next : Kind) (x : DomainView) : Type 0 where
  pub follows : Follows (kind_in x.seen.stage) next
  pub may : MayFollow x.seen.share (kind_in x.seen.stage) next
  pub list : next ≡ Run → NamesAll k x
  pub set_back : next ≡ Promote → last_note x.seen.notes ≡ Some SetBack

-- domain 0 has named the next kind, and the collector's entry stands, if there is one. Of the phase it knows no more than whether the cut is made, whether the cycle is whole, whether a sweep is owed, and how many blocks aren't marked at most: behind a phase of the marking that asks for another one, one fewer
pub record LedTo (k : Config) (next : Kind) (x y : DomainView) : Type 0 where
  pub seen : IsFrontOf x.own.number y.seen.front x.seen.front
  pub stays : entry_of x.seen.share.progress.unswept (kind_in x.seen.stage) next ≡ None → y.seen.front ≡ x.seen.front
  pub made : (e : Entry) → entry_of x.seen.share.progress.unswept (kind_in x.seen.stage) next ≡ Some e → EndsWith k x y e
  pub view : y ≡ record x { seen = record x.seen { front = y.seen.front; stage = Led next; share = record fresh_share { progress = progress_after (kind_in x.seen.stage) next x.seen.share.progress; unmarked = unmarked_after k (kind_in x.seen.stage) x.seen.share.changed x.seen.share.unmarked }; notes = x.seen.notes ++ cleared next } }
  pub grown : IsMarking (kind_in x.seen.stage) → asks_again x.seen.share.changed ≤ x.seen.share.unmarked
