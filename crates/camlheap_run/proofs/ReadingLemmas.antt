-- What the bytes that were read say of those that the source tells.
use Rattle.std.proofs.Common.{◌≡◌, ◌≢◌, ℕ, ◌≤◌, List, ◌++◌, length, take, inl, inr, refl, sym, ap, ◌∙◌, subst, append-nil, arith, None, Some, Ok, Err}
use Rattle.std.specs.Prelude.{◌⊎◌, ◌==◌, true, false}
use Rattle.std.specs.declared.option.Option.{Option}
use Rattle.std.proofs.Math.Seq.{take-append_seam}
use Rattle.std.proofs.lemmas.List.{take_all}
use Rattle.std.specs.Io.KnownBytes.{IsAtEnd}
use Rattle.text_script.specs.declared.version.Version.TheVariants.{Three}
use Rattle.text_script.specs.declared.fault.ScriptFault.{ScriptFault}
use Rattle.text_script.specs.declared.fault.ScriptFault.TheVariants.{Syntax, Order, Range, TooLong, TooMany, Spawn, Memory}
use Rattle.text_script.specs.Script.{Scripted}
use Rattle.text_script.specs.Spelling.{IsUnlessMemory, Spells}
use Rattle.camlheap_run.specs.declared.read.texts.NoScript.{NoScript}
use Rattle.camlheap_run.specs.declared.read.texts.NoReplay.{NoReplay}
use Rattle.camlheap_run.specs.declared.read.texts.NoReplay.TheVariants.{Refused as ReplayRefused}
use Rattle.camlheap_run.specs.declared.read.texts.NoScript.TheVariants.{Refused}
use Rattle.model_core.specs.declared.state.Sizes.{Sizes}
use Rattle.text_script.specs.declared.schedule.text.replay.ReplayFault.{ReplayFault}
use Rattle.text_script.specs.declared.schedule.text.replay.ReplayFault.TheVariants.{Memory as ReplayMemory, NotReplayable as NotReplayableOf, Schedule as ScheduleOf, Script as ScriptOf}
use Rattle.text_script.specs.Schedule.Text.Replays.{IsUnlessNoMemory, Replayed, SpellsReplay}
use Rattle.table_text.specs.Texts.{Text}
use Rattle.table_text.specs.Spelling.{Spells as SpellsTable}
use Rattle.table_text.specs.Sections.Spelling.{Sections, SpellsSections}
use Rattle.camlheap_run.specs.Reading.{AreRead, IsNoReplay, IsNoScript, IsTableText, OneOrMore, most_read, Tells, TellsFirst, TellsReplay, TellsScript, TellsSections, TellsTable}

-- the first bytes of the source are those that were read
front_is_read : (all bytes rest : List ℕ) → all ≡ bytes ++ rest → length bytes ≤ most_read → IsAtEnd (Some rest) ⊎ (length bytes ≡ most_read) → take most_read all ≡ bytes
front_is_read all bytes rest is few (inl empty) =
    let whole : all ≡ bytes = is ∙ ap (λ (l : List ℕ). bytes ++ l) empty ∙ append-nil bytes in
    ap (take most_read) whole ∙ take_all most_read bytes few
front_is_read all bytes rest is few (inr full) = ap (take most_read) is ∙ ap (λ n. take n (bytes ++ rest)) (sym full) ∙ take-append_seam bytes rest

pub told_fault : {F : Type 0} (is_first : List ℕ → F → Type 0) (before after : Option (List ℕ)) (bytes : List ℕ) (f : F) → AreRead before after bytes → TellsFirst is_first before f → is_first bytes f
told_fault is_first None after bytes f read told = absurd told
told_fault is_first (Some all) None bytes f read told = absurd read.consumed
told_fault is_first (Some all) (Some rest) bytes f read told = subst (λ bs. is_first bs f) (front_is_read all bytes rest read.consumed read.few read.whole) told

-- what the bytes of the source spell was read whole
all_is_read : (all bytes rest : List ℕ) → AreRead (Some all) (Some rest) bytes → length all ≤ 16777216 → all ≡ bytes
all_is_read all bytes rest read few =
    let below : length all ≤ most_read = omega (arith, few) in
    sym (take_all most_read all below) ∙ front_is_read all bytes rest read.consumed read.few read.whole

-- a grammar of texts that aren't too long
told : (Spelled : List ℕ → Type 0) → ((all : List ℕ) → Spelled all → length all ≤ 16777216) → (before after : Option (List ℕ)) (bytes : List ℕ) → AreRead before after bytes → Tells Spelled before → Spelled bytes
told Spelled few None after bytes read tells = absurd tells
told Spelled few (Some all) None bytes read tells = absurd read.consumed
told Spelled few (Some all) (Some rest) bytes read tells = subst Spelled (all_is_read all bytes rest read (few all tells)) tells

pub told_script : (domains : ℕ) (before after : Option (List ℕ)) (bytes : List ℕ) (s : Scripted) → AreRead before after bytes → TellsScript domains before s → Spells Three domains s bytes
told_script domains before after bytes s read tells = told (Spells Three domains s) (λ all spells. spells.few_bytes) before after bytes read tells

pub told_table : (before after : Option (List ℕ)) (bytes : List ℕ) (text : Text) → AreRead before after bytes → TellsTable before text → SpellsTable text bytes
told_table before after bytes text read tells = told (SpellsTable text) (λ all spells. spells.few_bytes) before after bytes read tells

pub told_sections : (domains : ℕ) (before after : Option (List ℕ)) (bytes : List ℕ) (sections : Sections) → AreRead before after bytes → TellsSections domains before sections → SpellsSections domains sections bytes
told_sections domains before after bytes sections read tells = told (SpellsSections domains sections) (λ all spells. spells.few_bytes) before after bytes read tells

-- a source that tells a text for one domain, and one that tells a text for several
pub tells_one : (domains : ℕ) (before : Option (List ℕ)) → (domains == 1) ≡ true → Tells (IsTableText domains) before → (text : Text) × TellsTable before text
tells_one domains None one tells = absurd tells
tells_one domains (Some bytes) one tells = subst (λ b. OneOrMore b ((text : Text) × SpellsTable text bytes) ((sections : Sections) × SpellsSections domains sections bytes)) one tells

pub tells_more : (domains : ℕ) (before : Option (List ℕ)) → (domains == 1) ≡ false → Tells (IsTableText domains) before → (sections : Sections) × TellsSections domains before sections
tells_more domains None more tells = absurd tells
tells_more domains (Some bytes) more tells = subst (λ b. OneOrMore b ((text : Text) × SpellsTable text bytes) ((sections : Sections) × SpellsSections domains sections bytes)) more tells

pub told_replay : (z : Sizes) (before after : Option (List ℕ)) (bytes : List ℕ) (r : Replayed) → AreRead before after bytes → TellsReplay z before r → SpellsReplay z.domains z.pools r bytes
told_replay z before after bytes r read tells = told (SpellsReplay z.domains z.pools r) (λ all spells. spells.few) before after bytes read tells

no_fault_but_memory : {A : Type 0} (s : A) (fault : ScriptFault) → fault ≢ Memory → IsUnlessMemory {A = A} (Err fault) (Ok s) → ⊥
no_fault_but_memory s Memory other given = other refl
no_fault_but_memory s (Syntax line) other given = cc
no_fault_but_memory s (Order line) other given = cc
no_fault_but_memory s (Range line which) other given = cc
no_fault_but_memory s (TooLong bytes) other given = cc
no_fault_but_memory s (TooMany line) other given = cc
no_fault_but_memory s (Spawn line) other given = cc

-- what spells a script or a text isn't refused
pub not_refused : {A : Type 0} (s : A) (fault f : ScriptFault) (why : NoScript) → IsNoScript fault why → why ≡ Refused f → IsUnlessMemory {A = A} (Err fault) (Ok s) → ⊥
not_refused s fault f why none is given =
    let refused = subst (IsNoScript fault) is none in
    no_fault_but_memory s fault (λ same. refused.1 (refused.0 ∙ same)) given

-- nor is what spells a replay
replay_fault_but_memory : (r : Replayed) (fault : ReplayFault) → fault ≢ ReplayMemory → IsUnlessNoMemory (Err fault) (Ok r) → ⊥
replay_fault_but_memory r ReplayMemory other given = other refl
replay_fault_but_memory r (ScheduleOf line) other given = cc
replay_fault_but_memory r (ScriptOf fault) other given = cc
replay_fault_but_memory r (NotReplayableOf why) other given = cc

pub replay_not_refused : (r : Replayed) (fault f : ReplayFault) (why : NoReplay) → IsNoReplay fault why → why ≡ ReplayRefused f → IsUnlessNoMemory (Err fault) (Ok r) → ⊥
replay_not_refused r fault f why none is given =
    let refused = subst (IsNoReplay fault) is none in
    replay_fault_but_memory r fault (λ same. refused.1 (refused.0 ∙ same)) given
