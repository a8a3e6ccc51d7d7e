-- What the numbers that were read of a line say of it.
use Rattle.std.proofs.Common.{◌≡◌, ℕ, ◌<◌, ◌≤◌, ℤ, List, ◌∷◌, map, length, Bool, true, false, cond, refl, ap, sym, ◌∙◌, arith, None, Some, Ok, Err, IfOk, subst}
use Rattle.std.specs.Prelude.{Option, Result, option_map, nat_le}
use Rattle.std.proofs.lemmas.Bool.Decides.{nat_tests}
use Rattle.std.proofs.lemmas.List.{length-map}
use Rattle.text_script.specs.declared.fault.ScriptFault.{ScriptFault}
use Rattle.text_script.specs.declared.fault.ScriptFault.TheVariants.{Range, TooMany}
use Rattle.text_script.specs.Number.{clipped, counted_numbers}
use Rattle.text_script.specs.Faults.{texts}
use Rattle.table_text.specs.declared.line.TableLine.{TableLine}
use Rattle.table_text.specs.declared.word.Operand.{Operand}
use Rattle.table_text.specs.declared.word.Word.{Word}
use Rattle.table_text.specs.Forms.{form, word_of, made, parts, is_writable}
use Rattle.table_text.specs.Spelling.{line_text}
use Rattle.table_text.specs.Faults.{says, says_if, SaysRow, row_shape, shape_of_texts, line_shape, first_out_of_range, fault_of_shape}
use Rattle.table_text.proofs.RowLemmas.{out_of_range-clipped, clipped_kept}
use Rattle.table_text.proofs.ShapeLemmas.{SaysLine, line_said, shape_line, inside}

-- what a line says by its texts
shape_found : (text t : List ℕ) (ts : List (List ℕ)) (w : Word) (kinds : List Operand) (o : Option (List ℤ)) → texts text ≡ t ∷ ts → Some w ≡ word_of t → kinds ≡ (form w).operands → counted_numbers (length kinds) ts ≡ o
    → line_shape text ≡ says_if w o
shape_found text t ts w kinds o e found k counted =
    ap shape_of_texts e ∙ ap (λ (v : Option Word). row_shape v ts) (sym found) ∙ ap (λ x. says_if w (counted_numbers (length x) ts)) (sym k) ∙ ap (says_if w) counted

was_counted : (o : Option (List ℤ)) (ns : List ℤ) → Some ns ≡ option_map (map clipped) o → (zs : List ℤ) × (o ≡ Some zs) × (ns ≡ map clipped zs)
was_counted None ns e = cc
was_counted (Some zs) ns e = (zs, refl, cc)

-- a word with its count of numbers
pub row_read : (text t : List ℕ) (ts : List (List ℕ)) (w : Word) (kinds : List Operand) (ns : List ℤ) → texts text ≡ t ∷ ts → Some w ≡ word_of t → kinds ≡ (form w).operands
    → Some ns ≡ option_map (map clipped) (counted_numbers (length kinds) ts) → SaysRow text w ns
row_read text t ts w kinds ns e found k read =
    let z = was_counted (counted_numbers (length kinds) ts) ns read in
    record { said = z.0; shape = shape_found text t ts w kinds (Some z.0) e found k z.1; numbers_are = z.2 }

-- a row behind as many lines as there may be, and one behind fewer
abbrev fault_if : Bool → ℕ → Option ℕ → Option ScriptFault
fault_if many number out = cond many (Some (TooMany number)) (option_map (Range number) out)

pub too_many : (most number before : ℕ) (w : Word) (zs : List ℤ) → most ≤ before → fault_of_shape most number before (says w zs) ≡ Some (TooMany number)
too_many most number before w zs many =
    let test : nat_le most before ≡ true = grind (arith, nat_tests) in
    ap (λ b. fault_if b number (first_out_of_range 1 (form w).operands zs)) test

pub in_room : (most number before : ℕ) (w : Word) (zs : List ℤ) (out : Option ℕ) → before < most → first_out_of_range 1 (form w).operands zs ≡ out → fault_of_shape most number before (says w zs) ≡ option_map (Range number) out
in_room most number before w zs out few is =
    let test : nat_le most before ≡ false = grind (arith, nat_tests) in
    ap (λ b. fault_if b number (first_out_of_range 1 (form w).operands zs)) test ∙ ap (option_map (Range number)) is

-- what is wrong with a row doesn't depend on numbers beyond 64 bits
pub row_fault : (text : List ℕ) (w : Word) (ns : List ℤ) (most number before : ℕ) → SaysRow text w ns → fault_of_shape most number before (line_shape text) ≡ fault_of_shape most number before (says w ns)
row_fault text w ns most number before row =
    ap (fault_of_shape most number before) row.shape
    ∙ ap (fault_if (nat_le most before) number) (sym (ap (first_out_of_range 1 (form w).operands) row.numbers_are ∙ out_of_range-clipped 1 (form w).operands row.said))

-- a row with which nothing is wrong
none_wrong : (many : Bool) (number : ℕ) (out : Option ℕ) → fault_if many number out ≡ None → (many ≡ false) × (out ≡ None)
none_wrong true number out e = cc
none_wrong false number None e = (refl, refl)
none_wrong false number (Some k) e = cc

pub record LineOfRow (text : List ℕ) (w : Word) (ns : List ℤ) (most before : ℕ) : Type 0 where
  pub few : before < most
  pub said : SaysLine text (made w ns)

pub row_line : (text : List ℕ) (w : Word) (ns : List ℤ) (most number before : ℕ) → SaysRow text w ns → length ns ≡ length (form w).operands → fault_of_shape most number before (says w ns) ≡ None → LineOfRow text w ns most before
row_line text w ns most number before row counted fine =
    let test = none_wrong (nat_le most before) number (first_out_of_range 1 (form w).operands ns) fine in
    let none : first_out_of_range 1 (form w).operands row.said ≡ None = sym (out_of_range-clipped 1 (form w).operands row.said) ∙ ap (first_out_of_range 1 (form w).operands) (sym row.numbers_are) ∙ test.1 in
    let kept : ns ≡ row.said = row.numbers_are ∙ clipped_kept 1 (form w).operands row.said (omega (arith, length-map row.said clipped, ap length row.numbers_are, counted)) none in
    record {
      few = grind (arith, nat_tests, test.0);
      said = subst (λ (x : List ℤ). SaysLine text (made w x)) (sym kept) (line_said text w row.said row.shape none);
    }

pub line_read : (result : Result TableLine ScriptFault) (text : List ℕ) (w : Word) (ns : List ℤ) (most number before : ℕ) → SaysRow text w ns → length ns ≡ length (form w).operands → IfOk result (λ l. l ≡ made w ns)
    → IfOk result (λ _. fault_of_shape most number before (says w ns) ≡ None) → IfOk result (λ l. text ≡ line_text l)
line_read (Ok l) text w ns most number before row counted is fine = (row_line text w ns most number before row counted fine).said.text ∙ ap line_text (sym is)
line_read (Err f) text w ns most number before row counted is fine = tt

-- a line of the grammar in its place has no fault
pub line_fine : (most number before : ℕ) (l : TableLine) → is_writable l ≡ true → before < most → fault_of_shape most number before (line_shape (line_text l)) ≡ None
line_fine most number before l fit few = ap (fault_of_shape most number before) (shape_line l fit) ∙ in_room most number before (parts l).word (parts l).numbers None few (inside l fit)
