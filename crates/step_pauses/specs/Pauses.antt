-- What the steps of a pause ask and tell.
use Rattle.heap_rule.specs.Sweeping.{nothing_swept}
use Rattle.std.specs.Prelude.{cond, ◌≡◌, ◌≢◌, ℕ, suc, ◌+◌, ◌*◌, ◌-◌, ◌^◌, ◌<◌, ◌≤◌, ◌⊎◌, true, List, [], ◌∷◌, ◌++◌, length, replicate, slice_get, Some, None, IsTrue, false, ◌==◌, Bool, Option}
use Rattle.model_core.specs.Domains.{class_count}
use Rattle.model_core.specs.declared.entry.Entry.TheVariants.{End, Cut, Seal, Collected, Done}
use Rattle.model_core.specs.declared.reply.Applied.TheVariants.{Silent}
use Rattle.model_core.specs.declared.state.Mode.{Mode}
use Rattle.model_core.specs.declared.state.Mode.TheVariants.{Open, Cut as CutMode, Sealed, Answer as Answered}
use Rattle.model_core.specs.History.{Legal}
use Rattle.model_core.specs.Fronts.{IsFrontOf, Answers, AreNotControls, unseen}
use Rattle.heap_words.specs.declared.value.Value.TheVariants.{Nothing, Ref}
use Rattle.heap_rule.specs.declared.config.Config.{Config}
use Rattle.heap_rule.specs.declared.view.DomainView.{DomainView}
use Rattle.heap_rule.specs.declared.view.Own.{Own}
use Rattle.heap_rule.specs.declared.view.Listing.{Listing}
use Rattle.heap_rule.specs.declared.view.Held.TheVariants.{Queue}
use Rattle.heap_words.specs.Remembered.Bounded.{Bounded}
use Rattle.heap_rule.specs.declared.phase.Kind.{Kind}
use Rattle.heap_rule.specs.declared.phase.Stage.{Stage}
use Rattle.heap_rule.specs.declared.phase.Stage.TheVariants.{In, Leads, Led, Gone}
use Rattle.heap_rule.specs.declared.phase.Progress.{Progress}
use Rattle.heap_rule.specs.declared.phase.Note.TheVariants.{Want, Asked, Barrier, Ended, Cleared, SetBack}
use Rattle.heap_rule.specs.declared.view.Hunt.TheVariants.{Rests}
use Rattle.heap_rule.specs.Limits.{sizes_in}
use Rattle.heap_rule.specs.Phases.{code, Follows, Comes, IsEven, IsOdd, Pause, Staged, last_note}
use Rattle.heap_rule.specs.Pools.{limit_of, prepared_at}
use Rattle.heap_rule.specs.Copies.{nothing_copied, HoldsOld}
use Rattle.heap_rule.specs.Rule.{state_of}
use Rattle.heap_rule.specs.Standing.{noted, with_front, with_own, ShowsRegisters}
use Rattle.heap_rule.specs.Token.{Holds}
use Rattle.heap_rule.specs.declared.phase.Kind.TheVariants.{Run, Promote, Reset, Roots, Mark, Rounds, Clean, Sweep, Answer, Decide, Queued, Lasts}
use Rattle.heap_rule.specs.Meeting.{Meeting, all_seeing}
use Rattle.heap_rule.specs.Views.{AllDomains, domain_in, fresh_share, rest_of, voided}
use Rattle.std.specs.List.{list_any}
use Rattle.heap_rule.specs.Changes.{value_at}
use Rattle.heap_rule.specs.Cycles.{IsMarking, seen_by}
use Rattle.heap_rule.specs.Finalisers.{held_at}
use Rattle.model_core.specs.declared.entry.Entry.{Entry}
use Rattle.heap_rule.specs.declared.view.Share.{Share}

-- the kind that a stage names
abbrev pub kind_in : Stage → Kind
kind_in (In kind) = kind
kind_in (Leads kind) = kind
kind_in (Led kind) = kind
kind_in (Gone kind) = kind

-- the domain has arrived, and the next phase isn't known to have begun
abbrev pub IsGone : DomainView → Type 0
IsGone x = x.seen.stage ≡ Gone (kind_in x.seen.stage)

-- a load of the want word tells too that the registers hold what they hold in the state
pub record WantTold (k : Config) (x : DomainView) (found : ℕ) (y : DomainView) : Type 0 where
  pub view : y ≡ noted x (Want found)
  pub registers : ShowsRegisters k x

-- one wish: for a minor collection, for a cycle, for the end of one, or for a complete collection
abbrev pub IsWish : ℕ → Type 0
IsWish bits = (bits ≡ 1) ⊎ ((bits ≡ 2) ⊎ ((bits ≡ 4) ⊎ (bits ≡ 8)))

-- bits of the want word are set
abbrev pub AskTold : ℕ → DomainView → ℕ → DomainView → Type 0
AskTold bits x found y = y ≡ noted x (Asked bits)

-- from where a domain may arrive. Domain 0 leaves an odd phase when it has named the next kind
abbrev pub ArrivesFrom : ℕ → Stage → Type 0
ArrivesFrom d (In kind) = Unit {0}
ArrivesFrom d (Leads kind) = d ≢ 0
ArrivesFrom d (Led kind) = Unit {0}
ArrivesFrom d (Gone kind) = ⊥

-- What a domain has done of a phase of a collection in which it arrives. Of a phase without one nothing is asked
pub record HasDone (k : Config) (x : DomainView) : Type 0 where
  -- it has marked what its registers hold
  pub rooted : x.seen.stage ≡ In Roots → (r a : ℕ) → r < 16 → value_at x.own.registers r ≡ Ref a → IsTrue (list_any (λ q. q == r) x.seen.share.roots)
  -- and the blocks that its queue keeps alive
  pub queued : (x.seen.stage ≡ In Roots) ⊎ (x.seen.stage ≡ In Queued) → (i a : ℕ) → held_at x.own.finalisers (Queue i) ≡ Some a → IsTrue (seen_by x.seen.share.waiting i)
  -- each block that it has darkened is scanned, or it has stored the changed word since
  pub followed : x.seen.stage ≡ In Mark → x.seen.share.account ≡ []
  -- it owes no store of the changed word
  pub told : (x.seen.stage ≡ In Rounds) ⊎ (x.seen.stage ≡ In Queued) → x.seen.share.owes ≡ false
  -- it has been at each own place
  pub walked : x.seen.stage ≡ In Mark → x.own.swept.top ≤ x.seen.share.walk.pool
  -- it has swept each own place
  pub swept : x.seen.stage ≡ In Sweep → k.pools ≤ x.own.swept.spot.pool
  -- it is to sweep them all once the colours are rotated
  pub anew : x.seen.stage ≡ In Lasts → x.own.swept ≡ nothing_swept x.own.swept.top
  -- it has been at each ephemeron of its list
  pub looked : (x.seen.stage ≡ In Rounds) ⊎ (x.seen.stage ≡ In Clean) → (a : ℕ) → IsTrue (seen_by x.own.ephemerons.items a) → IsTrue (seen_by x.seen.share.places_seen a)
  -- it empties the keys of none
  pub cleaned : x.seen.stage ≡ In Clean → x.seen.share.cleaning ≡ None
  -- it has looked at each registration of `finalise`, and those that it has left have marked blocks
  pub decided : x.seen.stage ≡ In Decide → x.seen.share.kept ≡ length x.own.finalisers.finals.items
  -- and so at each of `finalise_last`
  pub settled : x.seen.stage ≡ In Lasts → x.seen.share.kept ≡ length x.own.finalisers.lasts.items
  -- its pools hold blocks
  pub held : (x.seen.stage ≡ In Sweep) ⊎ (x.seen.stage ≡ In Answer) → x.own.swept.top ≤ x.seen.share.held
  -- it has added what it has counted
  pub added : x.seen.stage ≡ In Sweep → (x.seen.share.added_blocks ≡ true) × (x.seen.share.added_words ≡ true)

-- A domain arrives while it takes no block and makes none, and owes no darkening. Where it leaves Promote it owes no copy a value, has looked through all its remembered fields, holds no address of a minor area and has no place prepared. Where it leaves Reset its minor area is empty
pub record ArriveMay (k : Config) (x : DomainView) : Type 0 where
  pub at_rest : x.seen.hunt ≡ Rests
  pub idle : x.seen.made ≡ []
  pub from : ArrivesFrom x.own.number x.seen.stage
  pub few : x.own.arrivals < 2 ^ 60
  pub paid : x.seen.stage ≡ In Promote → x.seen.copying.pending ≡ []
  pub looked_through : x.seen.stage ≡ In Promote → x.seen.remembered ≡ []
  pub holds_old : x.seen.stage ≡ In Promote → HoldsOld k x
  pub unprepared : x.seen.stage ≡ In Promote → (c : ℕ) → c < class_count → prepared_at x.own.prepared c ≡ None
  pub emptied : x.seen.stage ≡ In Reset → x.own.used ≡ 0
  pub done : HasDone k x
  -- where it has named a phase in which blocks are marked, it has set the changed word back
  pub set_back : x.seen.stage ≡ Led Mark → x.seen.share.changed ≡ Some 0
  -- it owes no darkening
  pub paid_reads : x.seen.share.weak ≡ None

-- a list that has forgotten its items, and has room for as many more
abbrev pub forgotten : {A : Type 0} → Bounded A → Bounded A
forgotten l = record { items = []; room = l.room + length l.items }

-- the domain has arrived: its list of copies is empty, and what it knows of the blocks that it met, of how many pools are free, of a free place, of the list that it wrote, and of the phase but for how far a collection has come, is void
abbrev pub arrived_view : DomainView → DomainView
arrived_view x = record {
  own = record x.own { arrivals = x.own.arrivals + 1; pending = forgotten x.own.pending };
  seen = record x.seen { stage = Gone (kind_in x.seen.stage); free = []; spare = None; listing = None; copying = nothing_copied; share = voided x.seen.share };
}

abbrev pub Arrived : DomainView → ℕ → DomainView → Type 0
Arrived x found y = y ≡ arrived_view x

-- one more arrival can be counted
abbrev pub CanArrive : Own → Type 0
CanArrive own = own.arrivals + 1 < 2 ^ 64

-- it is counted, and the list of copies is emptied
abbrev pub CountsArrival : Own → Own → Type 0
CountsArrival own after = after ≡ record own { arrivals = own.arrivals + 1; pending = forgotten own.pending }

-- how far a collection has come in the history where a domain finds that a phase of this kind has begun
abbrev pub IsModeOf : Kind → Mode → Type 0
IsModeOf Run mode = mode ≡ Open
IsModeOf Promote mode = mode ≡ Open
IsModeOf Reset mode = mode ≡ Open
IsModeOf Roots mode = mode ≡ Open
IsModeOf Mark mode = (mode ≡ Open) ⊎ (mode ≡ CutMode)
IsModeOf Rounds mode = (mode ≡ Open) ⊎ (mode ≡ CutMode)
IsModeOf Decide mode = mode ≡ CutMode
IsModeOf Queued mode = mode ≡ CutMode
IsModeOf Clean mode = mode ≡ Sealed
IsModeOf Lasts mode = mode ≡ Sealed
IsModeOf Sweep mode = (mode ≡ Open) ⊎ (mode ≡ Sealed)
IsModeOf Answer mode = mode ≡ Answered

-- the phase has begun: the front is the whole history so far, and an even phase is of the kind that domain 0 named, which follows the last
pub record Begun (k : Config) (x : DomainView) (found : ℕ) (y : DomainView) : Type 0 where
  pub seen : IsFrontOf x.own.number y.seen.front x.seen.front
  pub led : x.own.number ≡ 0 → AreNotControls (unseen y.seen.front x.seen.front)
  pub legal : Legal (sizes_in k) y.seen.front
  pub kind : Kind
  pub stage : ((y.seen.stage ≡ In kind) × IsEven x.own.arrivals) ⊎ ((y.seen.stage ≡ Leads (kind_in x.seen.stage)) × IsOdd x.own.arrivals)
  pub comes : (next : Kind) → y.seen.stage ≡ In next → Comes x.own.number (kind_in x.seen.stage) next
  pub mode : (next : Kind) → y.seen.stage ≡ In next → IsModeOf next (state_of k y.seen.front).mode
  pub view : y ≡ record x { seen = record x.seen { front = y.seen.front; stage = y.seen.stage; notes = x.seen.notes ++ Barrier found ∷ [] } }

-- a load of the barrier word by a domain that has arrived. One that is alone finds what it has counted itself
pub record LookTold (k : Config) (x : DomainView) (found : ℕ) (y : DomainView) : Type 0 where
  pub alone : k.domains ≡ 1 → found ≡ x.own.arrivals
  pub waits : found < x.own.arrivals * k.domains → y ≡ noted x (Barrier found)
  pub begun : x.own.arrivals * k.domains ≤ found → Begun k x found y

-- A load of the barrier word at which these domains meet, of which the first has arrived and looks: to it the load tells what it tells one that is alone, and it stands in the same pause then. Where they are all domains of the heap and none has arrived less often, it finds that all have arrived
pub record LooksAll (k : Config) (xs : List DomainView) (found : ℕ) (ys : List DomainView) : Type 0 where
  pub history : List Entry
  pub pause : Pause
  pub meets : Meeting k history pause xs
  pub first : LookTold k (with_front (domain_in xs) history) found (domain_in ys)
  pub staged : Staged pause (domain_in ys)
  pub others : ys ≡ domain_in ys ∷ all_seeing history (rest_of xs)
  pub acts : length xs ≡ k.domains → AllDomains (λ x. (domain_in xs).own.arrivals ≤ x.own.arrivals) xs → (domain_in xs).own.arrivals * k.domains ≤ found

-- a load of the plan word
pub record PlanTold (x : DomainView) (found : ℕ) (y : DomainView) : Type 0 where
  pub view : y ≡ x
  pub told : (kind : Kind) → x.seen.stage ≡ In kind → found ≡ code kind

-- domain 0 takes the wishes back, in an odd phase before it names the next kind
pub record ClearMay (x : DomainView) : Type 0 where
  pub leads : x.own.number ≡ 0
  pub last : Kind
  pub stage : x.seen.stage ≡ Leads last

abbrev pub ClearTold : DomainView → ℕ → DomainView → Type 0
ClearTold x found y = y ≡ noted x Cleared

-- the collector's entry that stands where a kind is named after another. A collection whose garbage is left to running domains ends where they run again, and not where what is left is freed in a later pause
abbrev pub entry_of : Bool → Kind → Kind → Option Entry
entry_of unswept Rounds Decide = Some Cut
entry_of unswept Rounds Clean = Some Seal
entry_of unswept Queued Clean = Some Seal
entry_of unswept Lasts Run = Some Done
entry_of unswept Sweep Answer = Some Collected
entry_of unswept Sweep Roots = cond unswept None (Some Done)
entry_of unswept Answer Run = Some Done
entry_of unswept _ _ = None

-- whether the cut of the collection is made. It isn't where a cycle begins, or goes on that was under way
abbrev pub cut_in : Kind → Bool → Bool
cut_in Roots cut = false
cut_in Reset cut = false
cut_in Queued cut = true
cut_in _ cut = cut

-- whether the collection began in this pause, where a kind is named after another
abbrev pub whole_after : Kind → Kind → Bool → Bool
whole_after Reset Roots whole = true
whole_after Sweep Roots whole = true
whole_after Reset Mark whole = false
whole_after _ _ whole = whole

-- whether one goes on beside running domains, where a kind is named after another: from where the domains run behind Roots until they run behind the phase that ends it
abbrev pub armed_after : Kind → Kind → Bool → Bool
armed_after Roots Run armed = true
armed_after Lasts Run armed = false
armed_after Sweep Run armed = false
armed_after Answer Run armed = false
armed_after _ _ armed = armed

-- whether garbage of a collection is left, where a kind is named after another
abbrev pub unswept_after : Kind → Kind → Bool → Bool
unswept_after Lasts Run unswept = true
unswept_after Sweep Run unswept = false
unswept_after Sweep Answer unswept = false
unswept_after Sweep Roots unswept = false
unswept_after _ _ unswept = unswept

-- how far a collection has come once a kind is named after another
abbrev pub progress_after : Kind → Kind → Progress → Progress
progress_after last next p = record { cut = cut_in last p.cut; whole = whole_after last next p.whole; unswept = unswept_after last next p.unswept; armed = armed_after last next p.armed }

-- whether a word asks for another phase of the marking
abbrev pub asks_again : Option ℕ → ℕ
asks_again (Some (suc n)) = 1
asks_again other = 0

-- at most so many blocks of the pools aren't marked once a kind was named after another: behind a phase of the marking that asks for another one, one fewer than before it
abbrev pub unmarked_after : Config → Kind → Option ℕ → ℕ → ℕ
unmarked_after k Mark changed unmarked = unmarked - asks_again changed
unmarked_after k Rounds changed unmarked = unmarked - asks_again changed
unmarked_after k _ changed unmarked = k.pools * 1024

-- What domain 0 knows as it names the next kind. It leaves the marking when it has found that nothing was changed, to one side before the cut is made, to the other after it; and so it leaves Queued to the other side at once. It leaves Lasts once it has rotated the colours. Where garbage is freed next it has set the live words back. The domains run again beside the cycle where it has stored so in the armed word; one that goes on is finished, and another begins where none does, and no garbage of the last one is left: where some is, it is freed first. After a collection it has taken the armed word back. A collection is answered where it began in this pause
pub record MayFollow (share : Share) (last next : Kind) : Type 0 where
  pub unchanged : (next ≡ Rounds) ⊎ ((next ≡ Decide) ⊎ (next ≡ Clean)) → share.changed ≡ Some 0
  pub first : next ≡ Decide → share.progress.cut ≡ false
  pub second : last ≡ Rounds → next ≡ Clean → share.progress.cut ≡ true
  pub rotated : last ≡ Lasts → share.rotated ≡ true
  pub set_back : next ≡ Sweep → (share.blocks ≡ Some 0) × (share.words ≡ Some 0)
  pub goes_on : last ≡ Roots → next ≡ Run → share.armed ≡ Some true
  pub begins : last ≡ Reset → next ≡ Roots → (share.progress.armed ≡ false) × (share.progress.unswept ≡ false)
  pub frees : last ≡ Reset → next ≡ Sweep → share.progress.unswept ≡ true
  pub finishes : last ≡ Reset → next ≡ Mark → share.progress.armed ≡ true
  pub over : (last ≡ Lasts) ⊎ (last ≡ Answer) → next ≡ Run → share.armed ≡ Some false
  pub freed : last ≡ Sweep → next ≡ Run → share.progress.unswept ≡ true
  pub answers : next ≡ Answer → (share.progress.whole ≡ true) × (share.progress.unswept ≡ false)

-- domain 0 has written the list of free pools anew in this phase, from all owner words, and the cursor is 0: each pool whose owner word says nobody is listed
pub record NamesFree (k : Config) (x : DomainView) : Type 0 where
  pub list : Listing
  pub listing : x.seen.listing ≡ Some list
  pub rewound : list.cursor ≡ Some 0
  pub all : length list.owners ≡ k.pools
  pub count : length list.names ≡ list.listed
  pub free : (q : ℕ) → slice_get list.owners q ≡ Some 0 → (i : ℕ) × (slice_get list.names i ≡ Some q)

-- domain 0 has looked at the list in this phase: pools are listed, so none has come back, and the cursor isn't in the reserve
pub record KeepsNames (k : Config) (x : DomainView) : Type 0 where
  pub list : Listing
  pub listing : x.seen.listing ≡ Some list
  pub some : list.listed ≢ 0
  pub at : ℕ
  pub cursor_is : list.cursor ≡ Some at
  pub low : at ≤ limit_of k list.listed

-- domain 0 names the next kind in an odd phase, once. Before the domains run again it has just taken the wishes back, and in this phase it has written the list of free pools anew, or found that it may stay. Before they copy it has just set the cursor back out of the reserve
pub record LeadMay (k : Config) (x : DomainView) (new : ℕ) (next : Kind) : Type 0 where
  pub leads : x.own.number ≡ 0
  pub last : Kind
  pub stage : x.seen.stage ≡ Leads last
  pub follows : Follows last next
  pub word : new ≡ code next
  pub took_back : next ≡ Run → last_note x.seen.notes ≡ Some Cleared
  pub relisted : next ≡ Run → NamesFree k x ⊎ KeepsNames k x
  pub set_back : next ≡ Promote → last_note x.seen.notes ≡ Some SetBack
  pub may : MayFollow x.seen.share last next

-- an entry stands at the step: the front ends with it
pub record EndsWith (k : Config) (x y : DomainView) (e : Entry) : Type 0 where
  pub before : List Entry
  pub front : y.seen.front ≡ before ++ e ∷ []
  pub seen : IsFrontOf x.own.number before x.seen.front
  pub led : AreNotControls (unseen before x.seen.front)
  pub legal : Legal (sizes_in k) y.seen.front

-- what domain 0 knew of the phase is void, and the collector's entry stands, if there is one
pub record LeadTold (k : Config) (next : Kind) (x : DomainView) (found : ℕ) (y : DomainView) : Type 0 where
  pub seen : IsFrontOf x.own.number y.seen.front x.seen.front
  pub stays : entry_of x.seen.share.progress.unswept (kind_in x.seen.stage) next ≡ None → y.seen.front ≡ x.seen.front
  pub made : (e : Entry) → entry_of x.seen.share.progress.unswept (kind_in x.seen.stage) next ≡ Some e → EndsWith k x y e
  pub view : y ≡ record x { seen = record x.seen { front = y.seen.front; stage = Led next; share = record fresh_share { progress = progress_after (kind_in x.seen.stage) next x.seen.share.progress; unmarked = unmarked_after k (kind_in x.seen.stage) x.seen.share.changed x.seen.share.unmarked } } }
  pub grown : IsMarking (kind_in x.seen.stage) → asks_again x.seen.share.changed ≤ x.seen.share.unmarked

-- the token's own data after the end of a trace: the registers hold nothing, and nothing is registered
abbrev pub ended_own : Own → Own
ended_own own = record own {
  registers = replicate 16 Nothing;
  finalisers = record own.finalisers { finals = forgotten own.finalisers.finals; lasts = forgotten own.finalisers.lasts };
}

-- what is written at it
abbrev pub ClearsTrace : Own → Own → Type 0
ClearsTrace own after = after ≡ ended_own own

-- the trace of the domain ends: its entry stands at the step
pub record EndTold (k : Config) (x : DomainView) (found : ℕ) (y : DomainView) : Type 0 where
  pub answers : Answers (sizes_in k) x.own.number x.seen.front y.seen.front (End x.own.number) Silent
  pub view : y ≡ with_front (with_own x (ended_own x.own)) y.seen.front
  pub holds : Holds k y.own.registers

-- a load of the ended word
abbrev pub EndedTold : Config → DomainView → ℕ → DomainView → Type 0
EndedTold k x found y = (y ≡ noted x (Ended found)) × (found ≤ k.domains)
