-- How domain 0 leads through a collection of the major heap.
use Rattle.std.specs.Prelude.{◌≡◌, ℕ, ◌<◌, ◌≤◌, ◌*◌, ◌^◌, ◌==◌, ◌||◌, nat_lt, if◌then◌else◌, Bool, List, [], ◌∷◌, ◌++◌, Option, Some, None}
use Rattle.model_core.specs.declared.entry.Entry.{Entry}
use Rattle.model_core.specs.Fronts.{IsFrontOf}
use Rattle.heap_rule.specs.declared.config.Config.{Config}
use Rattle.heap_rule.specs.declared.view.DomainView.{DomainView}
use Rattle.heap_rule.specs.declared.phase.Kind.{Kind}
use Rattle.heap_rule.specs.declared.phase.Kind.TheVariants.{Run, Promote, Reset, Roots, Mark, Rounds, Decide, Queued, Clean, Lasts, Sweep, Answer}
use Rattle.heap_rule.specs.declared.phase.Note.{Note}
use Rattle.heap_rule.specs.declared.phase.Note.TheVariants.{Want, Changed, Listed, SetBack}
use Rattle.heap_rule.specs.declared.phase.Progress.{Progress}
use Rattle.heap_rule.specs.declared.phase.Stage.TheVariants.{Leads, Led}
use Rattle.heap_rule.specs.declared.view.Hunt.TheVariants.{Rests}
use Rattle.heap_rule.specs.Phases.{Follows, last_note}
use Rattle.heap_rule.specs.Views.{fresh_share, voided}
use Rattle.step_pauses.specs.Pauses.{EndsWith, MayFollow, arrived_view, asks_again, entry_of, progress_after, unmarked_after}
use Rattle.heap_rule.specs.Cycles.{IsMarking}
use Rattle.step_pools.specs.Listings.{NamesAll}
use Rattle.gc_pause.specs.declared.stops.answer.Want.TheVariants.{Cycle, Finish, Full}
use Rattle.gc_pause.specs.Stops.Looks.{LedTo, cleared, is_wanted}
use Rattle.step_marks.specs.Marking.Looks.{with_share}
use Rattle.gc_pause.specs.declared.phases.decider.Decider.{Decider}
use Rattle.gc_pause.specs.declared.phases.decider.Decider.TheVariants.{Wishes, Caller}

-- what domain 0 finds before it names the next kind: the wishes, the changed word, and how many pools the list of free pools names
pub record Findings : Type 0 where
  pub wants : ℕ
  pub changed : ℕ
  pub free : ℕ

-- a collection of the major heap is asked for, or fewer than half of the pools are free; or the caller says so
abbrev pub begins : Config → Decider → ℕ → ℕ → Bool
begins k Wishes wants free = is_wanted Cycle wants || (is_wanted Full wants || nat_lt (2 * free) k.pools)
begins k (Caller complete) wants free = complete

-- the end of the one that goes on beside running domains is asked for, or the caller says so
abbrev pub finishes : Decider → ℕ → Bool
finishes Wishes wants = is_wanted Finish wants || is_wanted Full wants
finishes (Caller complete) wants = complete

-- a complete collection is asked for, or the caller says so
abbrev pub completes : Decider → ℕ → Bool
completes Wishes wants = is_wanted Full wants
completes (Caller complete) wants = complete

-- what comes after the minor collection: a cycle that goes on is finished where that is asked for, and goes on else; where none goes on one begins or none does. Before one begins the garbage is freed that is left of the last one
abbrev pub kind_after_reset : Config → Decider → ℕ → ℕ → Progress → Kind
kind_after_reset k decider wants free p = if p.armed then (if finishes decider wants then Mark else Run) else (if begins k decider wants free then (if p.unswept then Sweep else Roots) else Run)

-- which kind comes next, also by how far the collection has come. It ends in this pause where a complete one is asked for, and goes on beside running domains else. Where it ends its garbage is freed in this pause if a complete one is asked for, and by running domains else. A collection whose garbage was freed in the pause in which it ended is answered if it began there, and followed by another else; where the garbage was left of an earlier pause another begins if one is still asked for
abbrev pub next_kind : Config → Decider → Kind → Progress → Findings → Kind
next_kind k decider Run p f = Promote
next_kind k decider Promote p f = Reset
next_kind k decider Reset p f = kind_after_reset k decider f.wants f.free p
next_kind k decider Roots p f = if completes decider f.wants then Mark else Run
next_kind k decider Mark p f = if f.changed == 0 then Rounds else Mark
next_kind k decider Rounds p f = if f.changed == 0 then (if p.cut then Clean else Decide) else Mark
next_kind k decider Decide p f = Queued
next_kind k decider Queued p f = if f.changed == 0 then Clean else Mark
next_kind k decider Clean p f = Lasts
next_kind k decider Lasts p f = if completes decider f.wants then Sweep else Run
next_kind k decider Sweep p f = if p.unswept then (if begins k decider f.wants f.free then Roots else Run) else (if p.whole then Answer else Roots)
next_kind k decider Answer p f = Run

-- where the domains run next it sees to the list of free pools
abbrev pub noted_list : Kind → Findings → List Note
noted_list Run f = Listed f.free ∷ []
noted_list _ f = []

-- what domain 0 notes before it names a kind after another: all by which it chooses the kind
abbrev pub noted_before : Kind → Kind → Progress → Findings → List Note
noted_before Run next p f = SetBack ∷ []
noted_before Reset next p f = Listed f.free ∷ Want f.wants ∷ []
noted_before Roots next p f = Want f.wants ∷ noted_list next f
noted_before Mark next p f = Changed f.changed ∷ []
noted_before Rounds next p f = Changed f.changed ∷ []
noted_before Queued next p f = Changed f.changed ∷ []
noted_before Lasts next p f = Want f.wants ∷ noted_list next f
noted_before Sweep next p f = if p.unswept then Listed f.free ∷ Want f.wants ∷ [] else []
noted_before Answer next p f = Listed f.free ∷ []
noted_before _ next p f = []

-- and all that it notes before it arrives
abbrev pub noted_on : Kind → Kind → Progress → Findings → List Note
noted_on last kind p f = noted_before last kind p f ++ cleared kind

-- the domain knows that no blocks and no words are counted as alive
abbrev pub CountsCleared : DomainView → DomainView → Type 0
CountsCleared x y = y ≡ with_share x (record x.seen.share { blocks = Some 0; words = Some 0 })

-- the domain with other notes, and with what it knows of the list of free pools and of the phase as another has it
abbrev pub opened_view : DomainView → DomainView → List Note → DomainView
opened_view x y notes = record x { seen = record x.seen { notes = notes; listing = y.seen.listing; share = y.seen.share } }

-- what domain 0 knows of the changed word behind naming a kind: where blocks are marked next it has set it back
abbrev pub set_back_for : Kind → Option ℕ
set_back_for Mark = Some 0
set_back_for _ = None

-- the domain is domain 0 in the odd phase behind a kind: it rests, has arrived few enough times, and has forgotten what it knew of the phase before
pub record HasToLead (last : Kind) (x : DomainView) : Type 0 where
  pub first : x.own.number ≡ 0
  pub odd : x.seen.stage ≡ Leads last
  pub at_rest : x.seen.hunt ≡ Rests
  pub idle : x.seen.made ≡ []
  pub few : x.own.arrivals < 2 ^ 60
  pub forgot : x.seen.share ≡ voided x.seen.share

-- domain 0 has named the next kind, and before blocks are marked it has set the changed word back
pub record Named (k : Config) (next : Kind) (x y : DomainView) : Type 0 where
  pub named : DomainView
  pub led : LedTo k next x named
  pub view : y ≡ with_share named (record named.seen.share { changed = set_back_for next })

-- domain 0 has found which kind comes next, or was told, and done what is asked of it before it names that kind
pub record Opens (k : Config) (decider : Decider) (x y : DomainView) (last kind : Kind) : Type 0 where
  pub follows : Follows last kind
  pub findings : Findings
  pub chosen : kind ≡ next_kind k decider last x.seen.share.progress findings
  pub may : MayFollow y.seen.share last kind
  pub list : kind ≡ Run → NamesAll k y
  pub set_back : kind ≡ Promote → last_note y.seen.notes ≡ Some SetBack
  pub progress_is : y.seen.share.progress ≡ x.seen.share.progress
  pub unmarked_is : y.seen.share.unmarked ≡ x.seen.share.unmarked
  pub changed_is : IsMarking last → y.seen.share.changed ≡ Some findings.changed
  pub view : y ≡ opened_view x y (x.seen.notes ++ noted_before last kind x.seen.share.progress findings)

-- Domain 0 has named the kind that comes next by what it found or the caller says, and arrived. The collector's entry stands, if there is one, and what the domain knew of the phase is void, but for how far the collection has come and how many blocks aren't marked at most. A phase of the marking that asks for another one has marked a block, so one fewer isn't
pub record LeadsOn (k : Config) (decider : Decider) (x y : DomainView) (last kind : Kind) : Type 0 where
  pub follows : Follows last kind
  pub findings : Findings
  pub chosen : kind ≡ next_kind k decider last x.seen.share.progress findings
  pub notes : y.seen.notes ≡ x.seen.notes ++ noted_on last kind x.seen.share.progress findings
  pub seen : IsFrontOf x.own.number y.seen.front x.seen.front
  pub stays : entry_of x.seen.share.progress.unswept last kind ≡ None → y.seen.front ≡ x.seen.front
  pub made : (e : Entry) → entry_of x.seen.share.progress.unswept last kind ≡ Some e → EndsWith k x y e
  pub view : y ≡ arrived_view (record x { seen = record x.seen { front = y.seen.front; notes = y.seen.notes; stage = Led kind; share = record fresh_share { progress = progress_after last kind x.seen.share.progress; unmarked = unmarked_after k last (Some findings.changed) x.seen.share.unmarked } } })
  pub grown : IsMarking last → asks_again (Some findings.changed) ≤ x.seen.share.unmarked
