-- A domain's share of a phase of a collection of the major heap.
use Rattle.std.specs.Prelude.{◌≡◌, ◌≢◌, ◌+◌, ◌<◌, ◌≤◌, ◌^◌, ℕ, List, [], ◌++◌, None}
use Rattle.model_core.specs.Fronts.{IsFrontOf}
use Rattle.model_core.specs.History.{Legal}
use Rattle.model_core.specs.Controls.Led.{IsLed}
use Rattle.heap_rule.specs.declared.config.Config.{Config}
use Rattle.heap_rule.specs.declared.phase.Kind.{Kind}
use Rattle.heap_rule.specs.declared.phase.Kind.TheVariants.{Run, Promote, Reset, Roots, Mark, Decide, Clean, Lasts, Sweep, Answer}
use Rattle.heap_rule.specs.declared.phase.Stage.TheVariants.{In}
use Rattle.heap_rule.specs.declared.view.DomainView.{DomainView}
use Rattle.heap_rule.specs.declared.view.Finalisers.{Finalisers}
use Rattle.heap_rule.specs.declared.view.Hunt.TheVariants.{Rests}
use Rattle.heap_rule.specs.declared.view.Waiting.{Waiting}
use Rattle.heap_rule.specs.Finalisers.{RefersOld}
use Rattle.heap_rule.specs.Limits.{sizes_in}
use Rattle.heap_rule.specs.Sweeping.{nothing_swept}
use Rattle.heap_rule.specs.Views.{voided}
use Rattle.gc_sweep.specs.Emptiness.{sunk}
use Rattle.step_finalisers.specs.Registering.{count_of}
use Rattle.step_pauses.specs.Pauses.{HasDone, arrived_view}
use Rattle.gc_mark.specs.Decks.{DeckCounts, NotesAlone, NotesAtMost, NotesOn, TakesOwn}
use Rattle.gc_sweep.specs.Sweeping.{LooksAgain}
use Rattle.do_finalisers.specs.Deciding.{Splits, as_waiting, as_waiting_last}

-- the even phases of a collection in which each domain has a share, but that in which it is answered
abbrev pub IsShared : Kind → Type 0
IsShared Run = ⊥
IsShared Promote = ⊥
IsShared Reset = ⊥
IsShared Answer = ⊥
IsShared _ = Unit {0}

-- the domain has to do its share of an even phase, and to arrive: it rests, has arrived few enough times, and has forgotten what it knew of the phase before
pub record HasToShare (kind : Kind) (x : DomainView) : Type 0 where
  pub phase : IsShared kind
  pub stage : x.seen.stage ≡ In kind
  pub at_rest : x.seen.hunt ≡ Rests
  pub idle : x.seen.made ≡ []
  pub few : x.own.arrivals < 2 ^ 60
  pub forgot : x.seen.share ≡ voided x.seen.share

-- it has to give back pools where a collection is answered, and to arrive: it rests, owes no darkening, and has looked at none of its pools
pub record HasToGiveBack (x : DomainView) : Type 0 where
  pub stage : x.seen.stage ≡ In Answer
  pub at_rest : x.seen.hunt ≡ Rests
  pub idle : x.seen.made ≡ []
  pub few : x.own.arrivals < 2 ^ 60
  pub paid : x.seen.share.weak ≡ None
  pub first : x.seen.share.held ≡ 0
  pub none : x.seen.share.vacant ≡ 0

-- what a share makes of the counts of the domain's hints, where so many finalisers wait in its queue as the share begins: in Roots none is taken, and no more are noted than one for each register and one for each place of the queue; in Mark its own hints are taken and none is noted; and in each other phase they stay as they are
abbrev pub HintsIn : Kind → ℕ → DeckCounts → DeckCounts → Type 0
HintsIn Roots queued l m = NotesOn l m × NotesAlone l m × NotesAtMost (16 + queued) l m
HintsIn Mark queued l m = NotesOn l m × TakesOwn l m
HintsIn _ queued l m = m ≡ l

-- the domain with what a share changes of what it owns, and with a front, as another has it
abbrev pub with_shared : DomainView → DomainView → DomainView
with_shared x y = record { own = record x.own { looked = y.own.looked; ephemerons = y.own.ephemerons; swept = y.own.swept; finalisers = y.own.finalisers }; seen = record x.seen { front = y.seen.front } }

-- and with what it knows of the phase as another has it
abbrev pub with_work : DomainView → DomainView → DomainView
with_work x y = record { own = record x.own { looked = y.own.looked; ephemerons = y.own.ephemerons; swept = y.own.swept; finalisers = y.own.finalisers }; seen = record x.seen { front = y.seen.front; listing = y.seen.listing; share = y.seen.share } }

-- the domain has given back its pools in which nothing was left, so its top may have sunk to that of another, and has arrived
abbrev pub gave_back : DomainView → DomainView → DomainView
gave_back x y = arrived_view (sunk x y)

-- of the registrations of `finalise` some stay, and the others are queued behind all that waited before, the newest first. Those of `finalise_last` stay
pub record Decided (fs gs : Finalisers) : Type 0 where
  pub lasts : gs.lasts ≡ fs.lasts
  pub queued : List Waiting
  pub queue : gs.queue.items ≡ fs.queue.items ++ queued
  pub splits : Splits as_waiting fs.finals.items gs.finals.items queued

-- and so of those of `finalise_last`
pub record LastsDecided (fs gs : Finalisers) : Type 0 where
  pub finals : gs.finals ≡ fs.finals
  pub queued : List Waiting
  pub queue : gs.queue.items ≡ fs.queue.items ++ queued
  pub splits : Splits as_waiting_last fs.lasts.items gs.lasts.items queued

-- all that is asked of the domain before it arrives is done, and nothing else has changed
pub record Works (k : Config) (kind : Kind) (x y : DomainView) : Type 0 where
  pub view : y ≡ with_work x y
  pub progress_is : y.seen.share.progress ≡ x.seen.share.progress
  pub unmarked_is : y.seen.share.unmarked ≡ x.seen.share.unmarked
  pub weak_is : y.seen.share.weak ≡ x.seen.share.weak
  pub looked : kind ≢ Sweep → y.own.looked ≡ x.own.looked
  pub again : LooksAgain x y
  pub listed : kind ≢ Sweep → y.own.ephemerons ≡ x.own.ephemerons
  pub room : x.own.ephemerons.room ≤ y.own.ephemerons.room
  pub swept : kind ≢ Lasts → kind ≢ Sweep → y.own.swept ≡ x.own.swept
  pub anew : kind ≡ Lasts → y.own.swept ≡ nothing_swept x.own.swept.top
  pub all_swept : kind ≡ Sweep → k.pools ≤ y.own.swept.spot.pool
  pub finalisers : kind ≢ Decide → kind ≢ Lasts → y.own.finalisers ≡ x.own.finalisers
  pub decided : kind ≡ Decide → Decided x.own.finalisers y.own.finalisers
  pub last_decided : kind ≡ Lasts → LastsDecided x.own.finalisers y.own.finalisers
  pub registered : count_of y.own.finalisers ≡ count_of x.own.finalisers
  pub held : (c : Config) → RefersOld c x.own.finalisers → RefersOld c y.own.finalisers
  pub front : IsFrontOf x.own.number y.seen.front x.seen.front
  pub led : IsLed x.own.number y.seen.front x.seen.front
  pub legal : Legal (sizes_in k) x.seen.front → Legal (sizes_in k) y.seen.front
  pub stays : kind ≢ Clean → kind ≢ Decide → kind ≢ Lasts → y.seen.front ≡ x.seen.front
  pub done : HasDone k y

-- The domain did its share and arrived. Only where it sweeps may its next search for a free place begin earlier, and its list of ephemerons get shorter, in which there is room for no fewer. Before the colours are rotated it notes that it has swept nothing, and where it sweeps it sweeps all. Only where registrations are decided may its lists of finalisers change: some go to the end of its queue, and none is lost or new. Only there and where keys are emptied may its front grow, by no entry of its own and where it leads by none of those that it makes as it leads, and it stays legal
pub record SharesIn (k : Config) (kind : Kind) (x y : DomainView) : Type 0 where
  pub view : y ≡ arrived_view (with_shared x y)
  pub looked : kind ≢ Sweep → y.own.looked ≡ x.own.looked
  pub again : LooksAgain x y
  pub listed : kind ≢ Sweep → y.own.ephemerons ≡ x.own.ephemerons
  pub room : x.own.ephemerons.room ≤ y.own.ephemerons.room
  pub swept : kind ≢ Lasts → kind ≢ Sweep → y.own.swept ≡ x.own.swept
  pub anew : kind ≡ Lasts → y.own.swept ≡ nothing_swept x.own.swept.top
  pub all_swept : kind ≡ Sweep → k.pools ≤ y.own.swept.spot.pool
  pub finalisers : kind ≢ Decide → kind ≢ Lasts → y.own.finalisers ≡ x.own.finalisers
  pub decided : kind ≡ Decide → Decided x.own.finalisers y.own.finalisers
  pub last_decided : kind ≡ Lasts → LastsDecided x.own.finalisers y.own.finalisers
  pub registered : count_of y.own.finalisers ≡ count_of x.own.finalisers
  pub held : (c : Config) → RefersOld c x.own.finalisers → RefersOld c y.own.finalisers
  pub front : IsFrontOf x.own.number y.seen.front x.seen.front
  pub led : IsLed x.own.number y.seen.front x.seen.front
  pub legal : Legal (sizes_in k) x.seen.front → Legal (sizes_in k) y.seen.front
  pub stays : kind ≢ Clean → kind ≢ Decide → kind ≢ Lasts → y.seen.front ≡ x.seen.front
