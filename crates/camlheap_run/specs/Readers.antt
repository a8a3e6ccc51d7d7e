-- Sections of a text that threads read.
use Rattle.std.specs.Prelude.{◌≡◌, ◌≢◌, ℕ, ◌-◌, ◌<◌, ◌≤◌, List, map, length, take, drop, Option, Some, Result, Ok, IsSome, Vec, refl}
use Rattle.std.specs.Global.{Global}
use Rattle.std.proofs.Common.{◌∙◌}
use Rattle.std.specs.List.{AllByRecursion}
use Rattle.text_script.specs.declared.section.NoSection.{NoSection}
use Rattle.text_script.specs.declared.version.Version.{Version}
use Rattle.text_script.specs.declared.version.Version.TheVariants.{Three}
use Rattle.text_script.specs.Sections.{IsSectionText, text_with}
use Rattle.model_core.specs.declared.command.Command.{Command}
use Rattle.run_threads.specs.Driven.{Driven}
use Rattle.camlheap_run.specs.declared.read.reader.Reader.{Reader}
use Rattle.camlheap_run.specs.declared.read.cut.Cut.{Cut}

-- the lines behind the heading of a reader's section
abbrev pub lines_of : List ℕ → Reader → List ℕ
lines_of text r = take (r.end - r.start) (drop r.start text)

-- what was read, if anything was, is what these lines say
abbrev pub SaysLines : List ℕ → Reader → Option (Result (Vec Command Global) NoSection) → Type 0
SaysLines lines r (Some (Ok commands)) = IsSectionText r.version r.domains lines commands.items
SaysLines lines r _ = Unit {0}

-- as a reader of a text stands between any two turns
pub record IsReader (text : List ℕ) (r : Reader) : Type 0 where
  pub few : r.number < 8
  pub some : 1 ≤ r.domains
  pub begins : r.start ≤ r.end
  pub ends : r.end ≤ length text
  pub short : length text ≤ 16777216
  pub tells : SaysLines (lines_of text r) r r.read

-- the reader of the same section
pub record SameSection (old new : Reader) : Type 0 where
  pub version : new.version ≡ old.version
  pub domains : new.domains ≡ old.domains
  pub start : new.start ≡ old.start
  pub end : new.end ≡ old.end

-- one that wasn't turned
pub same_section : (r : Reader) → SameSection r r
same_section r = record { version = refl; domains = refl; start = refl; end = refl }

-- one that was turned twice
pub same_further : (a b c : Reader) → SameSection a b → SameSection b c → SameSection a c
same_further a b c p q = record { version = q.version ∙ p.version; domains = q.domains ∙ p.domains; start = q.start ∙ p.start; end = q.end ∙ p.end }

-- its section was read, or not
abbrev pub HasRead : Reader → Type 0
HasRead r = IsSome r.read

-- a reader in a run with so many domains, of a section of a text of this version
pub record IsReaderOf (ver : Version) (count : ℕ) (text : List ℕ) (r : Reader) : Type 0 where
  pub reads : IsReader text r
  pub version : r.version ≡ ver
  pub domains : r.domains ≡ count

-- a text of a version without spawns, cut into its sections, with a reader of each
pub record IsCut (domains : ℕ) (text : List ℕ) (c : Cut) : Type 0 where
  pub unspawned : c.version ≢ Three
  pub each : AllByRecursion (IsReaderOf c.version domains text) c.readers.items
  pub few : length c.readers.items ≤ domains
  pub short : length text ≤ 16777216
  pub is_text : text ≡ text_with c.version (map (lines_of text) c.readers.items)

-- the readers of a text, driven to their ends
abbrev pub AreReadersDriven : List ℕ → List Reader → List Reader → Type 0
AreReadersDriven text old new = Driven IsReader SameSection HasRead text old new

-- what a reader has read
abbrev pub read_of : Reader → Option (Result (Vec Command Global) NoSection)
read_of r = r.read

-- a section that was read
abbrev pub whole : Vec Command Global → Option (Result (Vec Command Global) NoSection)
whole section = Some (Ok section)
