-- What the lines that were read say of the whole text.
use Rattle.std.proofs.Common.{◌≡◌, ℕ, ◌+◌, ◌<◌, ◌≤◌, List, [], ◌∷◌, ◌++◌, map, length, length-append, Bool, true, false, cond, refl, ap, sym, ◌∙◌, arith, append_assoc, None, Some, Ok, Err, IfOk, IfErr}
use Rattle.std.specs.Prelude.{Option, Result, flat_map, bytes_eq, nat_lt, ◌==◌}
use Rattle.std.specs.List.{slice_split, list_all}
use Rattle.std.proofs.lemmas.Bool.{and_parts}
use Rattle.std.proofs.lemmas.Bool.Decides.{nat_tests}
use Rattle.std.proofs.lemmas.List.{append-nil}
use Rattle.std.proofs.lemmas.List.Concat.{flat_map-append}
use Rattle.std.proofs.lemmas.List.Splits.{length-slice_split}
use Rattle.std.proofs.lemmas.Slice.Eq.{bytes_eq-Decides}
use Rattle.model_core.specs.Output.{line}
use Rattle.text_script.specs.declared.fault.ScriptFault.{ScriptFault}
use Rattle.text_script.specs.declared.fault.ScriptFault.TheVariants.{Syntax, Order, Range, TooLong, TooMany, Spawn, Memory}
use Rattle.text_script.specs.Split.{split_at_mark}
use Rattle.text_script.specs.Spelling.{IsUnlessMemory}
use Rattle.text_script.specs.Faults.{or_else, IsFaultUnlessMemory}
use Rattle.text_script.proofs.SplitLemmas.{split_found, split_whole}
use Rattle.text_script.proofs.ReadLemmas.{split_joined}
use Rattle.text_script.proofs.DecimalLemmas.{is_free}
use Rattle.text_script.proofs.TextLemmas.{split-free}
use Rattle.table_text.specs.declared.line.TableLine.{TableLine}
use Rattle.table_text.specs.declared.version.Version.{Version}
use Rattle.table_text.specs.declared.version.Version.TheVariants.{One, Two}
use Rattle.table_text.specs.Forms.{is_writable}
use Rattle.table_text.specs.Texts.{Text, most_lines}
use Rattle.table_text.specs.Spelling.{first_line, line_text, spelled, spelling, Spells}
use Rattle.table_text.specs.Faults.{LineShape, says, neither, line_shape, fault_of_shape, end_fault, fault_behind, fault_from, text_fault, first_fault, version_of}
use Rattle.table_text.proofs.RowLemmas.{whole, whole-parts}
use Rattle.table_text.proofs.ShapeLemmas.{shape_line, line_without_line_feed}
use Rattle.table_text.proofs.LineLemmas.{line_fine}

-- one line more at the end
texts-push : (lines : List TableLine) (l : TableLine) → map line_text (lines ++ l ∷ []) ≡ map line_text lines ++ line_text l ∷ []
texts-push [] l = refl
texts-push (x ∷ lines) l = ap (λ ts. line_text x ∷ ts) (texts-push lines l)

spelling-push : (v : Version) (lines : List TableLine) (l : TableLine) → spelled v (lines ++ l ∷ []) ≡ spelled v lines ++ line (line_text l)
spelling-push v lines l =
    ap (λ ts. flat_map line (first_line v ∷ ts)) (texts-push lines l) ∙ flat_map-append line (first_line v ∷ map line_text lines) (line_text l ∷ [])
    ∙ ap (λ x. spelled v lines ++ x) (append-nil (line (line_text l)))

-- the text moves on by a line
pub moved_on : (v : Version) (front rest text tail : List ℕ) (lines : List TableLine) (l : TableLine) → front ≡ spelled v lines ++ rest → Some (text, tail) ≡ split_at_mark 10 rest → text ≡ line_text l → front ≡ spelled v (lines ++ l ∷ []) ++ tail
moved_on v front rest text tail lines l said cutting is =
    said ∙ ap (λ x. spelled v lines ++ x) (split_joined 10 rest (text, tail) (sym cutting) ∙ sym (append_assoc text (10 ∷ []) tail)) ∙ sym (append_assoc (spelled v lines) (line text) tail)
    ∙ ap (λ x. (spelled v lines ++ line x) ++ tail) is ∙ ap (λ x. x ++ tail) (sym (spelling-push v lines l))

passed_over : (most before : ℕ) (text : List ℕ) (parts : List (List ℕ)) → 0 < length parts → fault_of_shape most (before + 2) before (line_shape text) ≡ None → fault_from most before (text ∷ parts) ≡ fault_from most (before + 1) parts
passed_over most before text [] some e = absurd (omega arith)
passed_over most before text (next ∷ more) some e = ap (λ o. or_else o (fault_from most (before + 1) (next ∷ more))) e

stopped_at : (most before : ℕ) (text : List ℕ) (parts : List (List ℕ)) (f : ScriptFault) → 0 < length parts → fault_of_shape most (before + 2) before (line_shape text) ≡ Some f → fault_from most before (text ∷ parts) ≡ Some f
stopped_at most before text [] f some e = absurd (omega arith)
stopped_at most before text (next ∷ more) f some e = ap (λ o. or_else o (fault_from most (before + 1) (next ∷ more))) e

-- and its first fault is that of what is left
pub faults_on : (most before : ℕ) (rest text tail : List ℕ) (l : TableLine) → Some (text, tail) ≡ split_at_mark 10 rest → text ≡ line_text l → is_writable l ≡ true → before < most
    → fault_from most before (slice_split (λ b. b == 10) rest) ≡ fault_from most (before + 1) (slice_split (λ b. b == 10) tail)
faults_on most before rest text tail l cutting is fit few =
    ap (fault_from most before) (split_found 10 rest text tail cutting)
    ∙ passed_over most before text (slice_split (λ b. b == 10) tail) (omega (arith, length-slice_split (λ b. b == 10) tail)) (ap (λ x. fault_of_shape most (before + 2) before (line_shape x)) is ∙ line_fine most (before + 2) before l fit few)

is_first : (f : ScriptFault) (o : Option ScriptFault) → o ≡ Some f → IsFaultUnlessMemory f o
is_first Memory o e = tt
is_first (Syntax k) o e = e
is_first (Order k) o e = e
is_first (Range k i) o e = e
is_first (TooLong k) o e = e
is_first (TooMany k) o e = e
is_first (Spawn k) o e = e

-- a fault of the next line
pub fault_read : (most before : ℕ) (all : Option ScriptFault) (rest text tail : List ℕ) (f : ScriptFault) → all ≡ fault_from most before (slice_split (λ b. b == 10) rest) → Some (text, tail) ≡ split_at_mark 10 rest
    → fault_of_shape most (before + 2) before (line_shape text) ≡ Some f → IsFaultUnlessMemory f all
fault_read most before all rest text tail f e cutting fault =
    is_first f all (e ∙ ap (fault_from most before) (split_found 10 rest text tail cutting)
    ∙ stopped_at most before text (slice_split (λ b. b == 10) tail) f (omega (arith, length-slice_split (λ b. b == 10) tail)) fault)

-- the fault of a last line that has no line feed
ended_wrong : (before : ℕ) (rest : List ℕ) → false ≡ (length rest == 0) → end_fault before rest ≡ Some (Syntax (before + 2))
ended_wrong before [] some = cc
ended_wrong before (b ∷ bs) some = refl

pub end_read : (most before : ℕ) (all : Option ScriptFault) (rest : List ℕ) → all ≡ fault_from most before (slice_split (λ b. b == 10) rest) → None ≡ split_at_mark 10 rest → false ≡ (length rest == 0) → all ≡ Some (Syntax (before + 2))
end_read most before all rest e cutting some = e ∙ ap (fault_from most before) (split_whole 10 rest cutting) ∙ ended_wrong before rest some

-- the first fault of few bytes is that of a line
fault_of_few : (bytes : List ℕ) → length bytes ≤ 16777216 → first_fault bytes ≡ text_fault (slice_split (λ b. b == 10) bytes)
fault_of_few bytes few =
    let test : nat_lt 16777216 (length bytes) ≡ false = grind (arith, nat_tests) in
    ap (λ b. cond b (Some (TooLong (length bytes))) (text_fault (slice_split (λ b. b == 10) bytes))) test

pub too_long : (bytes : List ℕ) → 16777216 < length bytes → first_fault bytes ≡ Some (TooLong (length bytes))
too_long bytes many =
    let test : nat_lt 16777216 (length bytes) ≡ true = grind (arith, nat_tests) in
    ap (λ b. cond b (Some (TooLong (length bytes))) (text_fault (slice_split (λ b. b == 10) bytes))) test

-- a text without a line feed
pub no_line : (bytes : List ℕ) → length bytes ≤ 16777216 → None ≡ split_at_mark 10 bytes → first_fault bytes ≡ Some (Syntax 1)
no_line bytes few cutting = fault_of_few bytes few ∙ ap text_fault (split_whole 10 bytes cutting)

chosen : (v : Option Version) (first : List ℕ) (parts : List (List ℕ)) → version_of first ≡ v → 0 < length parts → text_fault (first ∷ parts) ≡ fault_behind v parts
chosen v first [] e some = absurd (omega arith)
chosen v first (next ∷ more) e some = ap (λ (o : Option Version). fault_behind o (next ∷ more)) e

-- a text with another first line
pub wrong_first_line : (bytes first behind : List ℕ) → length bytes ≤ 16777216 → Some (first, behind) ≡ split_at_mark 10 bytes → version_of first ≡ None → first_fault bytes ≡ Some (Syntax 1)
wrong_first_line bytes first behind few cutting other =
    fault_of_few bytes few ∙ ap text_fault (split_found 10 bytes first behind cutting) ∙ chosen None first _ other (omega (arith, length-slice_split (λ b. b == 10) behind))

-- the first line of a version names it, and no other does
pub names_version : (v : Version) → version_of (first_line v) ≡ Some v
names_version One = refl
names_version Two = refl

named_by : (first : List ℕ) (v : Version) → version_of first ≡ Some v → first ≡ first_line v
named_by first v e = go (bytes_eq first (first_line One)) (bytes_eq first (first_line Two)) refl refl e
  where
    go : (one two : Bool) → bytes_eq first (first_line One) ≡ one → bytes_eq first (first_line Two) ≡ two → cond one (Some One) (cond two (Some Two) None) ≡ Some v → first ≡ first_line v
    go true two is other e = (bytes_eq-Decides first (first_line One)).0 is ∙ ap first_line (let same : One ≡ v = cc in same)
    go false true other is e = (bytes_eq-Decides first (first_line Two)).0 is ∙ ap first_line (let same : Two ≡ v = cc in same)
    go false false other another e = cc

-- a text with the first line of its grammar
pub first_read : (v : Version) (bytes first behind : List ℕ) → length bytes ≤ 16777216 → Some (first, behind) ≡ split_at_mark 10 bytes → version_of first ≡ Some v
    → (bytes ≡ line (first_line v) ++ behind) × (first_fault bytes ≡ fault_from (most_lines v) 0 (slice_split (λ b. b == 10) behind))
first_read v bytes first behind few cutting same = (
  split_joined 10 bytes (first, behind) (sym cutting) ∙ ap (λ x. x ++ 10 ∷ behind) (named_by first v same) ∙ sym (append_assoc (first_line v) (10 ∷ []) behind),
  fault_of_few bytes few ∙ ap text_fault (split_found 10 bytes first behind cutting) ∙ chosen (Some v) first _ same (omega (arith, length-slice_split (λ b. b == 10) behind)),
)

-- a text whose lines were read
pub all_read : (v : Version) (bytes behind : List ℕ) (result : Result Text ScriptFault) → length bytes ≤ 16777216 → bytes ≡ line (first_line v) ++ behind → IfOk result (λ t. line (first_line v) ++ behind ≡ spelling t)
    → IfOk result (λ t. list_all is_writable t.lines ≡ true) → IfOk result (λ t. length t.lines ≤ most_lines t.version) → IfOk result (λ t. Spells t bytes)
all_read v bytes behind (Ok t) few e found fit less = record { bytes_are = e ∙ found; writable = fit; few_lines = less; few_bytes = few }
all_read v bytes behind (Err f) few e found fit less = tt

-- the text of lines is split into them
cut_lines : (lines : List TableLine) (rest : List ℕ) → list_all is_writable lines ≡ true → slice_split (λ b. b == 10) (flat_map line (map line_text lines) ++ rest) ≡ map line_text lines ++ slice_split (λ b. b == 10) rest
cut_lines [] rest e = refl
cut_lines (l ∷ lines) rest e =
    let p = and_parts (is_writable l) (list_all is_writable lines) e in
    ap (slice_split (λ b. b == 10)) (append_assoc (line (line_text l)) (flat_map line (map line_text lines)) rest ∙ append_assoc (line_text l) (10 ∷ []) (flat_map line (map line_text lines) ++ rest))
    ∙ split-free 10 (line_text l) (flat_map line (map line_text lines) ++ rest) (line_without_line_feed l p.0)
    ∙ ap (λ ts. line_text l ∷ ts) (cut_lines lines rest p.1)

cut_text : (v : Version) (lines : List TableLine) → list_all is_writable lines ≡ true → slice_split (λ b. b == 10) (spelled v lines) ≡ first_line v ∷ map line_text lines ++ [] ∷ []
cut_text v lines e =
    ap (slice_split (λ b. b == 10)) (append_assoc (first_line v) (10 ∷ []) (flat_map line (map line_text lines)))
    ∙ split-free 10 (first_line v) (flat_map line (map line_text lines)) (first_free v)
    ∙ ap (λ ts. first_line v ∷ ts) (ap (slice_split (λ b. b == 10)) (sym (append-nil (flat_map line (map line_text lines)))) ∙ cut_lines lines [] e)
  where
    first_free : (v : Version) → is_free 10 (first_line v) ≡ true
    first_free One = refl
    first_free Two = refl

-- lines of the grammar have no fault
all_fine : (most before : ℕ) (lines : List TableLine) → list_all is_writable lines ≡ true → before + length lines ≤ most → fault_from most before (map line_text lines ++ [] ∷ []) ≡ None
all_fine most before [] e few = refl
all_fine most before (l ∷ lines) e few =
    let p = and_parts (is_writable l) (list_all is_writable lines) e in
    passed_over most before (line_text l) (map line_text lines ++ [] ∷ []) (omega (arith, length-append (map line_text lines) ([] ∷ []))) (line_fine most (before + 2) before l p.0 (omega arith))
    ∙ all_fine most (before + 1) lines p.1 (omega arith)

-- what is spelled has no fault
pub no_fault : (text : Text) (bytes : List ℕ) → Spells text bytes → first_fault bytes ≡ None
no_fault text bytes s =
    fault_of_few bytes s.few_bytes ∙ ap (λ x. text_fault (slice_split (λ b. b == 10) x)) s.bytes_are ∙ ap text_fault (cut_text text.version text.lines s.writable)
    ∙ chosen (Some text.version) (first_line text.version) (map line_text text.lines ++ [] ∷ []) (names_version text.version) (omega (arith, length-append (map line_text text.lines) ([] ∷ [])))
    ∙ all_fine (most_lines text.version) 0 text.lines s.writable (omega (arith, s.few_lines))

-- the lines that texts say
abbrev with_line : LineShape → List TableLine → List TableLine
with_line (says w zs) ls = whole w zs ∷ ls
with_line neither ls = ls

abbrev decoded : List (List ℕ) → List TableLine
decoded [] = []
decoded (t ∷ ts) = with_line (line_shape t) (decoded ts)

decoded_lines : (lines : List TableLine) → list_all is_writable lines ≡ true → decoded (map line_text lines ++ [] ∷ []) ≡ lines
decoded_lines [] e = refl
decoded_lines (l ∷ lines) e =
    let p = and_parts (is_writable l) (list_all is_writable lines) e in
    ap (λ s. with_line s (decoded (map line_text lines ++ [] ∷ []))) (shape_line l p.0)
    ∙ ap (λ x. x ∷ decoded (map line_text lines ++ [] ∷ [])) (whole-parts l) ∙ ap (λ ls. l ∷ ls) (decoded_lines lines p.1)

-- the lines behind the first, and the version that it names
abbrev behind_first : List (List ℕ) → List (List ℕ)
behind_first [] = []
behind_first (t ∷ ts) = ts

abbrev first_version : List (List ℕ) → Option Version
first_version [] = None
first_version (t ∷ ts) = version_of t

decoded_text : (v : Version) (lines : List TableLine) → list_all is_writable lines ≡ true → decoded (behind_first (slice_split (λ b. b == 10) (spelled v lines))) ≡ lines
decoded_text v lines e = ap (λ ts. decoded (behind_first ts)) (cut_text v lines e) ∙ decoded_lines lines e

decoded_version : (v : Version) (lines : List TableLine) → list_all is_writable lines ≡ true → first_version (slice_split (λ b. b == 10) (spelled v lines)) ≡ Some v
decoded_version v lines e = ap first_version (cut_text v lines e) ∙ names_version v

-- bytes are the spelling of one text alone
pub one_text : (a b : Text) (bytes : List ℕ) → Spells a bytes → Spells b bytes → a ≡ b
one_text a b bytes s t =
    let bytes_are : spelling a ≡ spelling b = sym s.bytes_are ∙ t.bytes_are in
    let lines : a.lines ≡ b.lines = sym (decoded_text a.version a.lines s.writable) ∙ ap (λ x. decoded (behind_first (slice_split (λ b. b == 10) x))) bytes_are ∙ decoded_text b.version b.lines t.writable in
    let named : Some a.version ≡ Some b.version = sym (decoded_version a.version a.lines s.writable) ∙ ap (λ x. first_version (slice_split (λ b. b == 10) x)) bytes_are ∙ decoded_version b.version b.lines t.writable in
    let version : a.version ≡ b.version = cc in
    λ i. record { version = version i; lines = lines i }

no_other : (text : Text) (bytes : List ℕ) (f : ScriptFault) → Spells text bytes → first_fault bytes ≡ Some f → ⊥
no_other text bytes f s e =
    let none = no_fault text bytes s in
    cc

-- what is spelled so is read, unless memory ran out
pub only_read : (bytes : List ℕ) (result : Result Text ScriptFault) → IfOk result (λ t. Spells t bytes) → IfErr result (λ e. IsFaultUnlessMemory e (first_fault bytes))
    → (t : Text) → Spells t bytes → IsUnlessMemory result (Ok t)
only_read bytes (Ok t) found fault s w = ap Ok (one_text t s bytes found w)
only_read bytes (Err Memory) found fault s w = tt
only_read bytes (Err (Syntax k)) found fault s w = absurd (no_other s bytes (Syntax k) w fault)
only_read bytes (Err (Order k)) found fault s w = absurd (no_other s bytes (Order k) w fault)
only_read bytes (Err (Range k i)) found fault s w = absurd (no_other s bytes (Range k i) w fault)
only_read bytes (Err (TooLong k)) found fault s w = absurd (no_other s bytes (TooLong k) w fault)
only_read bytes (Err (TooMany k)) found fault s w = absurd (no_other s bytes (TooMany k) w fault)
only_read bytes (Err (Spawn k)) found fault s w = absurd (no_other s bytes (Spawn k) w fault)

-- what has a fault is refused by it, unless memory ran out
pub refused_by : (bytes : List ℕ) (result : Result Text ScriptFault) → IfOk result (λ t. Spells t bytes) → IfErr result (λ e. IsFaultUnlessMemory e (first_fault bytes))
    → (e : ScriptFault) → first_fault bytes ≡ Some e → IsUnlessMemory result (Err e)
refused_by bytes (Ok t) found fault e first = absurd (no_other t bytes e found first)
refused_by bytes (Err Memory) found fault e first = tt
refused_by bytes (Err (Syntax k)) found fault e first = cc
refused_by bytes (Err (Order k)) found fault e first = cc
refused_by bytes (Err (Range k i)) found fault e first = cc
refused_by bytes (Err (TooLong k)) found fault e first = cc
refused_by bytes (Err (TooMany k)) found fault e first = cc
refused_by bytes (Err (Spawn k)) found fault e first = cc
