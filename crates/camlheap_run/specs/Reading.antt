-- What is read of a source. Where the source tells its bytes, these are the bytes that it had left.
use Rattle.std.specs.Prelude.{◌≡◌, ◌≢◌, ℕ, ◌≤◌, ◌==◌, ◌⊎◌, Bool, true, false, List, length, take, Option, None, Some, if◌then◌else◌}
use Rattle.std.specs.Io.KnownBytes.{Consumes, IsAtEnd}
use Rattle.text_script.specs.declared.version.Version.TheVariants.{Two, Three}
use Rattle.text_script.specs.Script.{Scripted}
use Rattle.text_script.specs.declared.fault.ScriptFault.{ScriptFault}
use Rattle.text_script.specs.declared.fault.ScriptFault.TheVariants.{Memory}
use Rattle.camlheap_run.specs.declared.read.texts.NoScript.{NoScript}
use Rattle.camlheap_run.specs.declared.read.texts.NoScript.TheVariants.{ReadFault, Refused, Memory as NoMemory}
use Rattle.camlheap_run.specs.declared.read.texts.NoReplay.{NoReplay}
use Rattle.camlheap_run.specs.declared.read.texts.NoReplay.TheVariants.{ReadFault as NoReplayRead, Refused as ReplayRefused, Memory as NoReplayMemory}
use Rattle.text_script.specs.Spelling.{Spells}
use Rattle.text_script.specs.Faults.{first_fault}
use Rattle.model_core.specs.declared.state.Sizes.{Sizes}
use Rattle.text_script.specs.declared.schedule.text.replay.ReplayFault.{ReplayFault}
use Rattle.text_script.specs.declared.schedule.text.replay.ReplayFault.TheVariants.{Memory as ReplayMemory}
use Rattle.text_script.specs.Schedule.Text.Replays.{HasFault, Replayed, SpellsReplay}
use Rattle.table_text.specs.Texts.{Text}
use Rattle.table_text.specs.Spelling.{Spells as SpellsTable}
use Rattle.table_text.specs.Faults.{first_fault as table_fault}
use Rattle.table_text.specs.Sections.Spelling.{Sections, SpellsSections}
use Rattle.table_text.specs.Sections.Faults.{first_sections_fault}

-- the most bytes that are read: one more than a script may have
abbrev pub most_read : ℕ
most_read = 16777217

-- these bytes were read, up to the end of the source or the most that are read
pub record AreRead (before after : Option (List ℕ)) (bytes : List ℕ) : Type 0 where
  pub consumed : Consumes before after bytes
  pub few : length bytes ≤ most_read
  pub whole : IsAtEnd after ⊎ (length bytes ≡ most_read)

-- the source was read to its end, and its bytes are spelled so
pub record ReadsAll (Spelled : List ℕ → Type 0) (before after : Option (List ℕ)) : Type 0 where
  pub bytes : List ℕ
  pub consumed : Consumes before after bytes
  pub at_end : IsAtEnd after
  pub spelled : Spelled bytes

-- they spell this script
abbrev pub ReadsScript : ℕ → Option (List ℕ) → Option (List ℕ) → Scripted → Type 0
ReadsScript domains before after script = ReadsAll (Spells Three domains script) before after

-- they spell this text of a table
abbrev pub ReadsTable : Option (List ℕ) → Option (List ℕ) → Text → Type 0
ReadsTable before after text = ReadsAll (SpellsTable text) before after

-- they spell these sections of one
abbrev pub ReadsSections : ℕ → Option (List ℕ) → Option (List ℕ) → Sections → Type 0
ReadsSections domains before after sections = ReadsAll (SpellsSections domains sections) before after

-- they spell this replay
abbrev pub ReadsReplay : Sizes → Option (List ℕ) → Option (List ℕ) → Replayed → Type 0
ReadsReplay z before after r = ReadsAll (SpellsReplay z.domains z.pools r) before after

-- some bytes spell this script
abbrev pub IsSpelledScript : ℕ → Scripted → Type 0
IsSpelledScript domains script = (bytes : List ℕ) × Spells Three domains script bytes

-- and it is one without spawns
abbrev pub IsSpelled : ℕ → Scripted → Type 0
IsSpelled domains script = (bytes : List ℕ) × Spells Two domains script bytes

-- a fault is the first one of bytes, by what a grammar says that is
abbrev pub IsFirst : (List ℕ → Option ScriptFault) → List ℕ → ScriptFault → Type 0
IsFirst first_of bytes fault = first_of bytes ≡ Some fault

-- the bytes that were read have this fault, by what a grammar says of bytes
pub record ReadsFirst {F : Type 0} (is_first : List ℕ → F → Type 0) (before after : Option (List ℕ)) (fault : F) : Type 0 where
  pub bytes : List ℕ
  pub are_read : AreRead before after bytes
  pub first : is_first bytes fault

-- and it is no want of memory
abbrev pub ReadsFirstFault : (List ℕ → ScriptFault → Type 0) → Option (List ℕ) → Option (List ℕ) → ScriptFault → Type 0
ReadsFirstFault is_first before after fault = ReadsFirst is_first before after fault × (fault ≢ Memory)

abbrev pub ReadsFault : ℕ → Option (List ℕ) → Option (List ℕ) → ScriptFault → Type 0
ReadsFault domains before after fault = ReadsFirstFault (IsFirst (first_fault Three domains)) before after fault

-- the source tells its bytes, and they are spelled so
abbrev pub Tells : (List ℕ → Type 0) → Option (List ℕ) → Type 0
Tells Spelled None = ⊥
Tells Spelled (Some bytes) = Spelled bytes

-- they spell this script
abbrev pub TellsScript : ℕ → Option (List ℕ) → Scripted → Type 0
TellsScript domains told script = Tells (Spells Three domains script) told

-- they spell this text of a table
abbrev pub TellsTable : Option (List ℕ) → Text → Type 0
TellsTable told text = Tells (SpellsTable text) told

-- they spell these sections of one
abbrev pub TellsSections : ℕ → Option (List ℕ) → Sections → Type 0
TellsSections domains told sections = Tells (SpellsSections domains sections) told

-- the first where there is one domain, and else the second
abbrev pub OneOrMore : Bool → Type 0 → Type 0 → Type 0
OneOrMore true One More = One
OneOrMore false One More = More

-- the bytes spell a text of a table for so many domains: of several each has a section
abbrev pub IsTableText : ℕ → List ℕ → Type 0
IsTableText domains bytes = OneOrMore (domains == 1) ((text : Text) × SpellsTable text bytes) ((sections : Sections) × SpellsSections domains sections bytes)

-- the first fault of such a text
abbrev pub first_table_fault : ℕ → List ℕ → Option ScriptFault
first_table_fault domains bytes = if domains == 1 then table_fault bytes else first_sections_fault domains bytes

-- the source tells its bytes, and those that are read have this fault
abbrev pub TellsFirst : {F : Type 0} → (List ℕ → F → Type 0) → Option (List ℕ) → F → Type 0
TellsFirst is_first None fault = ⊥
TellsFirst is_first (Some bytes) fault = is_first (take most_read bytes) fault

abbrev pub TellsFault : ℕ → Option (List ℕ) → ScriptFault → Type 0
TellsFault domains told fault = TellsFirst (IsFirst (first_fault Three domains)) told fault

-- the bytes that were read have this first fault of a replay's text
abbrev pub ReadsReplayFault : Sizes → Option (List ℕ) → Option (List ℕ) → ReplayFault → Type 0
ReadsReplayFault z before after fault = ReadsFirst (HasFault z.domains z.pools) before after fault

-- the source tells its bytes, and they spell this replay
abbrev pub TellsReplay : Sizes → Option (List ℕ) → Replayed → Type 0
TellsReplay z told r = Tells (SpellsReplay z.domains z.pools r) told

-- or those that are read have this first fault
abbrev pub TellsReplayFault : Sizes → Option (List ℕ) → ReplayFault → Type 0
TellsReplayFault z told fault = TellsFirst (HasFault z.domains z.pools) told fault

-- some bytes spell this replay
abbrev pub IsSpelledReplay : Sizes → Replayed → Type 0
IsSpelledReplay z r = (bytes : List ℕ) × SpellsReplay z.domains z.pools r bytes

-- why there is no script: its fault, or want of memory
abbrev pub IsNoScript : ScriptFault → NoScript → Type 0
IsNoScript fault (Refused f) = (f ≡ fault) × (f ≢ Memory)
IsNoScript fault NoMemory = fault ≡ Memory
IsNoScript fault ReadFault = ⊥

-- why there is no replay: its fault, or want of memory
abbrev pub IsNoReplay : ReplayFault → NoReplay → Type 0
IsNoReplay fault (ReplayRefused f) = (f ≡ fault) × (f ≢ ReplayMemory)
IsNoReplay fault NoReplayMemory = fault ≡ ReplayMemory
IsNoReplay fault NoReplayRead = ⊥
