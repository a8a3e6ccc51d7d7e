-- What it comes to that a source gave no text of a table: of one domain, and of several.
use Rattle.std.proofs.Common.{◌≡◌, ◌≢◌, ℕ, Bool, true, false, cond, List, take, refl, sym, ap, subst, ◌∙◌, inl, inr, arith, Some, None}
use Rattle.std.specs.Prelude.{Option, ◌==◌}
use Rattle.std.proofs.lemmas.Bool.Decides.{nat_tests}
use Rattle.text_script.specs.declared.fault.ScriptFault.{ScriptFault}
use Rattle.table_text.specs.Faults.{first_fault as table_fault}
use Rattle.table_text.specs.Sections.Faults.{first_sections_fault}
use Rattle.camlheap_run.specs.declared.read.texts.NoScript.{NoScript}
use Rattle.camlheap_run.specs.declared.read.texts.NoScript.TheVariants.{ReadFault as NoRead, Refused, Memory as NoMemory}
use Rattle.camlheap_run.specs.declared.status.Status.{Status}
use Rattle.camlheap_run.specs.declared.status.Status.TheVariants.{Script, Memory}
use Rattle.camlheap_run.specs.Outcome.{IsDoneOrMemory, IsEither, read_status}
use Rattle.camlheap_run.specs.Reading.{IsFirst, OneOrMore, ReadsFirstFault, TellsFirst, first_table_fault, most_read}
use Rattle.camlheap_run.proofs.ReadingLemmas.{told_fault}

-- the test for one domain
pub is_one : (n : ℕ) → n ≡ 1 → (n == 1) ≡ true
is_one n e = grind (arith, nat_tests, e)

pub is_more : (n : ℕ) → n ≢ 1 → (n == 1) ≡ false
is_more n other = by (n == 1) refl
  where
    by : (b : Bool) → (n == 1) ≡ b → (n == 1) ≡ false
    by true e = absurd (other (grind (arith, nat_tests, e)))
    by false e = e

-- what is so of several domains is so where there isn't one
pub of_several : (n : ℕ) (One More : Type 0) → n ≢ 1 → More → OneOrMore (n == 1) One More
of_several n One More other x = subst (λ (b : Bool). OneOrMore b One More) (sym (is_more n other)) x

-- the first fault of a text for one domain, and for several
fault_of_one : (n : ℕ) (bytes : List ℕ) → n ≡ 1 → first_table_fault n bytes ≡ table_fault bytes
fault_of_one n bytes e = ap (λ b. cond b (table_fault bytes) (first_sections_fault n bytes)) (is_one n e)

fault_of_more : (n : ℕ) (bytes : List ℕ) → n ≢ 1 → first_table_fault n bytes ≡ first_sections_fault n bytes
fault_of_more n bytes other = ap (λ b. cond b (table_fault bytes) (first_sections_fault n bytes)) (is_more n other)

-- what the source tells has this fault first
pub told_one : (n : ℕ) (before : Option (List ℕ)) (f : ScriptFault) → n ≡ 1 → TellsFirst (IsFirst (first_table_fault n)) before f → TellsFirst (IsFirst table_fault) before f
told_one n None f e told = absurd told
told_one n (Some bytes) f e told = sym (fault_of_one n (take most_read bytes) e) ∙ told

pub told_more : (n : ℕ) (before : Option (List ℕ)) (f : ScriptFault) → n ≢ 1 → TellsFirst (IsFirst (first_table_fault n)) before f → TellsFirst (IsFirst (first_sections_fault n)) before f
told_more n None f other told = absurd told
told_more n (Some bytes) f other told = sym (fault_of_more n (take most_read bytes) other) ∙ told

-- and so has what was read
pub read_one : (n : ℕ) (before after : Option (List ℕ)) (f : ScriptFault) → n ≡ 1 → ReadsFirstFault (IsFirst table_fault) before after f → ReadsFirstFault (IsFirst (first_table_fault n)) before after f
read_one n before after f e read = (record { bytes = read.0.bytes; are_read = read.0.are_read; first = fault_of_one n read.0.bytes e ∙ read.0.first }, read.1)

pub read_more : (n : ℕ) (before after : Option (List ℕ)) (f : ScriptFault) → n ≢ 1 → ReadsFirstFault (IsFirst (first_sections_fault n)) before after f → ReadsFirstFault (IsFirst (first_table_fault n)) before after f
read_more n before after f other read = (record { bytes = read.0.bytes; are_read = read.0.are_read; first = fault_of_more n read.0.bytes other ∙ read.0.first }, read.1)

-- a text was refused
pub refused_status : (why : NoScript) (status : Status) (f : ScriptFault) → status ≡ read_status why → status ≡ Script f → why ≡ Refused f
refused_status NoRead status f is given = cc
refused_status (Refused g) status f is given = let same : g ≡ f = cc in ap Refused same
refused_status NoMemory status f is given = cc

-- where no read failed, and no text was refused
pub done_or_memory : (why : NoScript) (status : Status) → status ≡ read_status why → why ≢ NoRead → ((f : ScriptFault) → why ≢ Refused f) → IsDoneOrMemory status
done_or_memory NoRead status is read refused = absurd (read refl)
done_or_memory (Refused f) status is read refused = absurd (refused f refl)
done_or_memory NoMemory status is read refused = subst IsDoneOrMemory (sym is) tt

-- where no read failed, and the source tells a text with this fault first
pub either_refused : (first_of : List ℕ → Option ScriptFault) (before after : Option (List ℕ)) (why : NoScript) (status : Status) (f : ScriptFault) → status ≡ read_status why → why ≢ NoRead
    → ((g : ScriptFault) → why ≡ Refused g → ReadsFirstFault (IsFirst first_of) before after g) → TellsFirst (IsFirst first_of) before f → IsEither status (Script f) Memory
either_refused first_of before after NoRead status f is read refused told = absurd (read refl)
either_refused first_of before after (Refused g) status f is read refused told =
    let reads = refused g refl in
    let first = told_fault (IsFirst first_of) before after reads.0.bytes f reads.0.are_read told in
    let same : g ≡ f = cc (sym reads.0.first ∙ first) in
    inl (is ∙ ap Script same)
either_refused first_of before after NoMemory status f is read refused told = inr is
