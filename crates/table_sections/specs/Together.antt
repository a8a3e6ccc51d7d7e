-- What the runs of all sections of a table are: one history, in which all share one map.
use Rattle.std.specs.Prelude.{◌≡◌, ◌≤◌, ◌+◌, ℕ, suc, List, [], ◌∷◌, length}
use Rattle.std.specs.List.{AllByRecursion}
use Rattle.model_core.specs.declared.entry.Entry.{Entry}
use Rattle.model_core.specs.declared.state.Sizes.{Sizes}
use Rattle.model_core.specs.History.{IsPrefix, Legal, commands}
use Rattle.heap_rule.specs.declared.config.Config.{Config}
use Rattle.table_text.specs.declared.line.TableLine.{TableLine}
use Rattle.table_text.specs.declared.machine.reply.LineReply.{LineReply}
use Rattle.weak_laws.specs.Tables.Stages.{graph_of}
use Rattle.weak_maps.specs.Shared.Sharing.{IsShared}
use Rattle.table_sections.specs.Lines.{IsSharedLine}
use Rattle.table_sections.specs.Sections.{SectionBeside}
use Rattle.table_sections.specs.Slots.{OnSlots}
use Rattle.table_sections.specs.Orders.{BindingsGoInOrder, SlotsGoInOrder}
use Rattle.table_sections.specs.Places.{HasSlots, HoldsNoKey, HoldsPlaces, IsMadeAt, preparation}
use Rattle.table_sections.specs.declared.laying.Places.{Places}

-- a section that a domain has room for: each line takes an ephemeron at most, and the first domain makes three before
pub record SectionFits (k : Config) (lines : List TableLine) : Type 0 where
  pub lines_fit : AllByRecursion IsSharedLine lines
  pub room : length lines + 3 ≤ k.ephes

-- one section a domain, each of which fits
pub record SectionsFit (k : Config) (sections : List (List TableLine)) : Type 0 where
  pub each : AllByRecursion (SectionFits k) sections
  pub domains : k.domains ≡ length sections

-- The section of domain d lies between two fronts of the history, behind the base of the map: it begins with no key, its lines are answered in order on this map and on slots that stand there, all that the domain does before is its preparation, and it makes no command behind
pub record SectionStands (z : Sizes) (p : Places) (base h : List Entry) (d : ℕ) (lines : List TableLine) (replies : List LineReply) : Type 0 where
  pub old : List Entry
  pub new : List Entry
  pub behind : IsPrefix base old
  pub grows : IsPrefix old new
  pub until : IsPrefix new h
  pub before : commands old d ≡ preparation d
  pub last : commands h d ≡ commands new d
  pub holds : HoldsPlaces z p d old
  pub slots : OnSlots z d old
  pub empty : HoldsNoKey z d old
  pub answered : SectionBeside z p.map d old lines replies new

-- so do those of all domains from this one on: as many lists of replies as sections
abbrev pub SectionsStand : Sizes → Places → List Entry → List Entry → ℕ → List (List TableLine) → List (List LineReply) → Type 0
SectionsStand z p base h d [] [] = Unit {0}
SectionsStand z p base h d (ls ∷ lss) (rs ∷ rss) = SectionStands z p base h d ls rs × SectionsStand z p base h (suc d) lss rss
SectionsStand z p base h d _ _ = ⊥

-- all sections were made in one legal history, on one map that all domains share from the entry on that made it: its bindings go in the history's order, and so do the keys of the slots
pub record TogetherRuns (z : Sizes) (sections : List (List TableLine)) (replies : List (List LineReply)) (h : List Entry) : Type 0 where
  pub legal : Legal z h
  pub places : Places
  pub base : List Entry
  pub made : IsMadeAt z places.map base
  pub laid : HasSlots (graph_of z base) places
  pub shared : IsShared z places.map base h
  pub bindings : BindingsGoInOrder z places.map base h
  pub keys : SlotsGoInOrder z places base h
  pub stand : SectionsStand z places base h 0 sections replies
