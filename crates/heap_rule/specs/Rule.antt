-- The rule of the table: what holds between any two steps. Each part speaks only of what it names. docs/RULE.md explains it.
use Rattle.std.specs.Prelude.{◌≡◌, ℕ, ◌+◌, ◌*◌, ◌<◌, ◌≤◌, ◌⊎◌, List, length, slice_get, Some}
use Rattle.atomic_table.specs.Table.{State}
use Rattle.model_core.specs.declared.entry.Entry.{Entry}
use Rattle.model_core.specs.declared.state.State as model
use Rattle.model_core.specs.Graph.{Graph}
use Rattle.model_core.specs.Domains.{domain_at, register, opening, IsWithinLimits}
use Rattle.model_core.specs.History.{state_after, Legal}
use Rattle.heap_words.specs.declared.value.Value.{Value}
use Rattle.heap_rule.specs.declared.config.Config.{Config}
use Rattle.heap_rule.specs.declared.view.DomainView.{DomainView}
use Rattle.heap_rule.specs.declared.view.Finalisers.{Finalisers}
use Rattle.heap_rule.specs.declared.view.Share.{Share}
use Rattle.heap_rule.specs.declared.view.View.{View}
use Rattle.heap_rule.specs.declared.phase.Stage.{Stage}
use Rattle.heap_rule.specs.Beside.{RunsBeside}
use Rattle.heap_rule.specs.Limits.{sizes_in}
use Rattle.heap_rule.specs.Layout.{table_words, base_of, at_address, barrier, plan, want, ended_word, changed_word, listed, cursor}
use Rattle.heap_rule.specs.Places.{Place, Live, Paint, extent, Stands, Found, Placed, Spread, span, Settled}
use Rattle.heap_rule.specs.Copies.{Owes, Copies, Promoting, AllCleared, Emptied, Rooted}
use Rattle.heap_rule.specs.Room.{Room, IsUnused, Opened, Drawable}
use Rattle.heap_rule.specs.Pools.{limit_of, Tenancy, Pools, Reserved, Covered, Grid, Drawers, Resting, Hunter}
use Rattle.heap_rule.specs.Changes.{value_at}
use Rattle.heap_rule.specs.Fullness.{Homes, Fullness}
use Rattle.heap_rule.specs.Cycles.{Cycling, Cycled, Telling, Leading, KnowsBlocks, Adds}
use Rattle.heap_rule.specs.Deciding.{Deciding}
use Rattle.heap_rule.specs.Ephemerons.{Listed, Looks}
use Rattle.heap_rule.specs.Finalisers.{Enrolled}
use Rattle.heap_rule.specs.Sweeping.{SweepsIn}
use Rattle.heap_rule.specs.Phases.{Pause, Phases, Staged, Still, TookBack, HasSetBack, Unwished, CountsEnded}
use Rattle.heap_rule.specs.Views.{EachView, EachDomain, Knows}

-- the state that a history of this heap leaves
abbrev pub state_of : Config → List Entry → model.State
state_of k log = state_after (opening (sizes_in k)) log

-- Represents: the words are the graph's nodes
abbrev pub AllFound : Config → Paint → Live → Graph → List ℕ → Type 0
AllFound k paint live graph words = (a : ℕ) (p : Place) → live a ≡ Some p → Found k paint live graph words a p

-- Represents: the registers, the serial and the finalisers of a domain stand for those of the state
pub record Stood (live : Live) (s : model.State) (x : DomainView) : Type 0 where
  pub wide : length x.own.registers ≡ 16
  pub each : (r : ℕ) → r < 16 → Stands live (value_at x.own.registers r) (register s x.own.number r)
  pub serial : x.own.serial ≡ (domain_at s x.own.number).serial
  pub enrolled : Enrolled live s x.own.number x.own.finalisers

-- the rest of a domain's minor area is free
pub record Area (k : Config) (live : Live) (x : DomainView) : Type 0 where
  pub room : x.own.used ≤ k.minor_words
  pub free : (a : ℕ) (p : Place) → live a ≡ Some p → (a + extent p.shape ≤ base_of k x.own.number + x.own.used) ⊎ (base_of k x.own.number + k.minor_words ≤ a)
  pub classes : (a : ℕ) (p : Place) → live a ≡ Some p → k.pools * 4096 < a → (a + span p.shape ≤ base_of k x.own.number + x.own.used) ⊎ (base_of k x.own.number + k.minor_words ≤ a)

-- the words that a domain has written of the block that it makes, behind the place of the head
pub record Making (k : Config) (words : List ℕ) (x : DomainView) : Type 0 where
  pub fits : (j w : ℕ) → slice_get x.seen.made j ≡ Some w → x.own.used + j + 1 < k.minor_words
  pub written : (j w : ℕ) → slice_get x.seen.made j ≡ Some w → at_address k words (base_of k x.own.number + x.own.used + 1 + j) ≡ w

-- what there is besides the words: the history, which block lives where, how the pauses stand, who has each pool, how a collection of the major heap stands, and in which pool each block lies or has lain
pub record Account : Type 0 where
  pub log : List Entry
  pub live : Live
  pub pause : Pause
  pub tenancy : Tenancy
  pub cycling : Cycling
  pub homes : Homes

-- what the rule says of one domain's share of a collection
pub record Sharing (k : Config) (all : Account) (words : List ℕ) (d : ℕ) (registers : List Value) (fs : Finalisers) (items : List ℕ) (stage : Stage) (share : Share) : Type 0 where
  pub telling : Telling all.cycling.paint.colours all.cycling.shares d share
  pub leading : Leading all.cycling words d stage share
  pub knows : KnowsBlocks k all.live all.tenancy.holder (state_of k all.log).graph all.cycling.paint.marks words d registers stage share
  pub adds : Adds all.live all.cycling d share
  pub looks : Looks all.live all.tenancy.holder (state_of k all.log).graph all.cycling.paint.marks all.cycling.paint.emptied d items stage share
  pub running : RunsBeside k all.live all.tenancy.holder all.cycling.armed all.cycling.past all.cycling.paint.marks.marked words d stage share
  pub deciding : Deciding all.live all.cycling.kind all.cycling.left all.cycling.shares.arrived all.cycling.paint.marks.marked d fs share.kept share.waiting

-- all that the rule says of one domain
pub record Good (k : Config) (all : Account) (words : List ℕ) (x : DomainView) : Type 0 where
  pub stood : Stood all.live (state_of k all.log) x
  pub area : Area k all.live x
  pub making : Making k words x
  pub staged : Staged all.pause x
  pub still : Still all.log x
  pub hunter : Hunter k all.tenancy words x
  pub resting : Resting k words x
  pub took_back : TookBack words x
  pub owes : Owes k all.live x
  pub rooted : Rooted k all.pause x
  pub set_back : HasSetBack x → cursor words ≤ limit_of k (listed words)
  pub sharing : Sharing k all words x.own.number x.own.registers x.own.finalisers x.own.ephemerons.items x.seen.stage x.seen.share
  pub listed : Listed all.live all.tenancy.holder all.tenancy.garbage x.own.number x.own.ephemerons.items
  pub sweeps : SweepsIn all.tenancy all.cycling x

-- at the start no domain asks for a collection, none has arrived anywhere, and no trace has ended
pub record Rested (words : List ℕ) : Type 0 where
  pub nothing_wanted : want words ≡ 0
  pub arrivals : barrier words ≡ 0
  pub runs : plan words ≡ 0
  pub nobody_ended : ended_word words ≡ 0
  pub unchanged : changed_word words ≡ 0

-- all that the rule says of the history, the places and the words, whoever looks
pub record Whole (k : Config) (all : Account) (words : List ℕ) : Type 0 where
  pub wide : length words ≡ table_words k
  pub legal : Legal (sizes_in k) all.log
  pub full : Fullness k all.log all.live all.tenancy.holder all.tenancy.fresh all.tenancy.garbage all.homes all.cycling.kind
  pub found : AllFound k all.cycling.paint all.live (state_of k all.log).graph words
  pub placed : Placed k all.live
  pub spread : Spread k all.live
  pub settled : Settled all.live ⊎ Promoting all.pause
  pub copies : Copies k all.live
  pub cleared : AllCleared k all.live all.pause
  pub emptied : Emptied k all.live all.pause
  pub phases : Phases k all.pause words
  pub unwished : Unwished all.pause words
  pub endings : CountsEnded k (state_of k all.log) words
  pub pools : Pools k all.tenancy words
  pub reserved : Reserved k all.pause all.tenancy words
  pub covered : Covered k all.pause all.tenancy words
  pub grid : Grid k all.tenancy all.live words
  pub drawers : Drawers all.pause all.tenancy
  pub room : Room k all.live all.pause all.tenancy.stock words
  pub unused : IsUnused all.pause all.tenancy.stock
  pub opened : Opened k all.live words
  pub drawable : Drawable k all.pause words
  pub cycle : Cycled k (state_of k all.log) all.live all.pause all.tenancy all.cycling words

-- the rule: there are an account and a seat for each domain of which all these parts hold
pub record Rule (k : Config) (s : State (Unit {0}) View) : Type 0 where
  pub account : Account
  pub seat : ℕ → ℕ
  pub limits : IsWithinLimits (sizes_in k)
  pub whole : Whole k account s.words
  pub seats : (d : ℕ) → seat d < length s.views
  pub views : EachView (Knows k account.log seat) s.views
  pub good : EachDomain (Good k account s.words) s.views
