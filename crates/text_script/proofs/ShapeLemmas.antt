-- The text of a command and of a heading, and what a line with such a text says.
use Rattle.text_script.specs.declared.version.Version.{Version}
use Rattle.std.proofs.Common.{◌≡◌, ℕ, ◌<◌, ◌^◌, ℤ, pos, List, [], ◌∷◌, ◌++◌, map, length, Bool, true, false, cond, ◌&&◌, refl, ap, sym, ◌∙◌, arith, decimal, None, Some}
use Rattle.std.specs.Prelude.{Option, codes, bytes_eq}
use Rattle.std.specs.Fmt.{signed_decimal}
use Rattle.std.proofs.lemmas.List.{append-nil}
use Rattle.std.proofs.lemmas.Bool.Decides.{nat_tests}
use Rattle.std.proofs.lemmas.Slice.Eq.{bytes_eq-Decides}
use Rattle.std.proofs.lemmas.Bool.{and_parts}
use Rattle.model_core.specs.declared.command.Command.{Command}
use Rattle.text_script.specs.declared.form.Word.{Word}
use Rattle.text_script.specs.Number.{counted_numbers}
use Rattle.text_script.specs.Forms.{form, word_of, is_built, is_writable, made, parts, all_fit}
use Rattle.text_script.specs.Spelling.{row_text, command_text, heading_text}
use Rattle.text_script.specs.Faults.{heading, command, texts, line_shape, shape_of_texts, heading_shape, row_shape, command_shape, first_out_of_range}
use Rattle.text_script.proofs.DecimalLemmas.{is_free, signed_decimal_free}
use Rattle.text_script.proofs.TextLemmas.{are_small, spaced, texts-row, spaced_free, is_free-append, row_read, counted-map, counted_read, counted_length}
use Rattle.text_script.proofs.FormLemmas.{word_without_space, word_without_line_feed, word_no_heading, word_found, word_read, parts_counted, numbers_kept, word_made, small_if_inside, inside_if_fit, fit_if_inside}

-- a row with its numbers says just that
row_said : (ver : Version) (w : Word) (zs : List ℤ) → is_built ver w ≡ true → length zs ≡ length (form w).operands → are_small zs ≡ true → line_shape ver (row_text w zs) ≡ command w zs
row_said ver w zs built n small =
    ap (shape_of_texts ver) (texts-row (form w).text zs (word_without_space w) small)
    ∙ ap (λ b. cond b (heading_shape (counted_numbers 1 (map signed_decimal zs))) (row_shape (word_of ver (form w).text) (map signed_decimal zs))) (word_no_heading w)
    ∙ ap (λ o. row_shape o (map signed_decimal zs)) (word_found ver w built)
    ∙ ap (command_shape w) (counted-map (length (form w).operands) zs n small)

-- a command of the grammar: its row, and its numbers are in their ranges
pub record Written (ver : Version) (domains : ℕ) (c : Command) : Type 0 where
  pub built : is_built ver (parts c).word ≡ true
  pub inside : first_out_of_range ver domains 1 (form (parts c).word).operands (parts c).numbers ≡ None
  pub small : are_small (parts c).numbers ≡ true

pub written : (ver : Version) (domains : ℕ) (c : Command) → is_writable ver domains c ≡ true → Written ver domains c
written ver domains c e =
    let p = and_parts (is_built ver (parts c).word) (all_fit ver domains (form (parts c).word).operands (parts c).numbers) e in
    let inside = inside_if_fit ver domains 1 (form (parts c).word).operands (parts c).numbers p.1 in
    record {
      built = p.0;
      inside = inside;
      small = small_if_inside ver domains 1 (form (parts c).word).operands (parts c).numbers (parts_counted c) inside;
    }

pub shape-command : (ver : Version) (domains : ℕ) (c : Command) → Written ver domains c → line_shape ver (command_text c) ≡ command (parts c).word (parts c).numbers
shape-command ver domains c w = row_said ver (parts c).word (parts c).numbers w.built (parts_counted c) w.small

pub command_without_line_feed : (ver : Version) (domains : ℕ) (c : Command) → Written ver domains c → is_free 10 (command_text c) ≡ true
command_without_line_feed ver domains c w = is_free-append 10 (form (parts c).word).text (spaced (parts c).numbers) (word_without_line_feed (parts c).word) (spaced_free (parts c).numbers w.small)

-- the heading's text is the word and one number
heading_spaced : (n : ℕ) → heading_text n ≡ codes "domain" ++ spaced (pos n ∷ [])
heading_spaced n = ap (λ x. codes "domain " ++ x) (sym (append-nil (decimal n)))

small_one : (n : ℕ) → n < 2 ^ 63 → are_small (pos n ∷ []) ≡ true
small_one n h = grind (arith, nat_tests)

pub shape-heading : (ver : Version) (n : ℕ) → n < 2 ^ 63 → line_shape ver (heading_text n) ≡ heading (pos n)
shape-heading ver n h =
    ap (line_shape ver) (heading_spaced n)
    ∙ ap (shape_of_texts ver) (texts-row (codes "domain") (pos n ∷ []) refl (small_one n h))
    ∙ ap heading_shape (counted-map 1 (pos n ∷ []) refl (small_one n h))

pub heading_without_line_feed : (n : ℕ) → n < 2 ^ 63 → is_free 10 (heading_text n) ≡ true
heading_without_line_feed n h = is_free-append 10 (codes "domain ") (decimal n) refl (signed_decimal_free 10 (pos n) (omega arith) h)

-- what a line says, by its texts
heading_numbers : (o : Option (List ℤ)) (z : ℤ) → heading_shape o ≡ heading z → o ≡ Some (z ∷ [])
heading_numbers None z e = cc
heading_numbers (Some []) z e = cc
heading_numbers (Some (x ∷ [])) z e = cc
heading_numbers (Some (x ∷ y ∷ zs)) z e = cc

no_heading_command : (w : Word) (o : Option (List ℤ)) (z : ℤ) → command_shape w o ≡ heading z → ⊥
no_heading_command w None z e = cc
no_heading_command w (Some zs) z e = cc

no_heading_row : (w : Option Word) (ts : List (List ℕ)) (z : ℤ) → row_shape w ts ≡ heading z → ⊥
no_heading_row None ts z e = cc
no_heading_row (Some w) ts z e = no_heading_command w (counted_numbers (length (form w).operands) ts) z e

no_command_heading : (o : Option (List ℤ)) (w : Word) (zs : List ℤ) → heading_shape o ≡ command w zs → ⊥
no_command_heading None w zs e = cc
no_command_heading (Some []) w zs e = cc
no_command_heading (Some (x ∷ [])) w zs e = cc
no_command_heading (Some (x ∷ y ∷ ys)) w zs e = cc

command_numbers : (v w : Word) (o : Option (List ℤ)) (zs : List ℤ) → command_shape v o ≡ command w zs → (v ≡ w) × (o ≡ Some zs)
command_numbers v w None zs e = cc
command_numbers v w (Some ys) zs e = (cc, cc)

row_numbers : (o : Option Word) (ts : List (List ℕ)) (w : Word) (zs : List ℤ) → row_shape o ts ≡ command w zs → (o ≡ Some w) × (counted_numbers (length (form w).operands) ts ≡ Some zs)
row_numbers None ts w zs e = cc
row_numbers (Some v) ts w zs e =
    let p = command_numbers v w (counted_numbers (length (form v).operands) ts) zs e in
    (ap Some p.0, ap (λ x. counted_numbers (length (form x).operands) ts) (sym p.0) ∙ p.1)

heading_by : (ver : Version) (b : Bool) (t : List ℕ) (ts : List (List ℕ)) (z : ℤ) → bytes_eq t (codes "domain") ≡ b → cond b (heading_shape (counted_numbers 1 ts)) (row_shape (word_of ver t) ts) ≡ heading z
    → (t ≡ codes "domain") × (counted_numbers 1 ts ≡ Some (z ∷ []))
heading_by ver true t ts z test e = ((bytes_eq-Decides t (codes "domain")).0 test, heading_numbers (counted_numbers 1 ts) z e)
heading_by ver false t ts z test e = absurd (no_heading_row (word_of ver t) ts z e)

command_by : (ver : Version) (b : Bool) (t : List ℕ) (ts : List (List ℕ)) (w : Word) (zs : List ℤ) → cond b (heading_shape (counted_numbers 1 ts)) (row_shape (word_of ver t) ts) ≡ command w zs
    → (word_of ver t ≡ Some w) × (counted_numbers (length (form w).operands) ts ≡ Some zs)
command_by ver true t ts w zs e = absurd (no_command_heading (counted_numbers 1 ts) w zs e)
command_by ver false t ts w zs e = row_numbers (word_of ver t) ts w zs e

heading_of_texts : (ver : Version) (line : List ℕ) (parts : List (List ℕ)) (n : ℕ) → n < 2 ^ 63 → texts line ≡ parts → shape_of_texts ver parts ≡ heading (pos n) → line ≡ heading_text n
heading_of_texts ver line [] n h same e = cc
heading_of_texts ver line (t ∷ ts) n h same e =
    let p = heading_by ver (bytes_eq t (codes "domain")) t ts (pos n) refl e in
    let q = counted_read 1 ts (pos n ∷ []) p.1 (small_one n h) in
    row_read line (codes "domain") (pos n ∷ []) (same ∙ ap (λ x. x ∷ ts) p.0 ∙ ap (λ x. codes "domain" ∷ x) q.0) ∙ sym (heading_spaced n)

-- a line that says a heading is its text
pub heading_said : (ver : Version) (line : List ℕ) (n : ℕ) → n < 2 ^ 63 → line_shape ver line ≡ heading (pos n) → line ≡ heading_text n
heading_said ver line n h e = heading_of_texts ver line (texts line) n h refl e

-- what is known of a line that says a command with numbers in their ranges
pub record SaysCommand (ver : Version) (domains : ℕ) (line : List ℕ) (c : Command) : Type 0 where
  pub text : line ≡ command_text c
  pub writable : is_writable ver domains c ≡ true

command_of_texts : (ver : Version) (domains : ℕ) (line : List ℕ) (ps : List (List ℕ)) (w : Word) (zs : List ℤ) → texts line ≡ ps → shape_of_texts ver ps ≡ command w zs → first_out_of_range ver domains 1 (form w).operands zs ≡ None → SaysCommand ver domains line (made w zs)
command_of_texts ver domains line [] w zs same e inside = cc
command_of_texts ver domains line (t ∷ ts) w zs same e inside =
    let p = command_by ver (bytes_eq t (codes "domain")) t ts w zs e in
    let row = word_read ver t w p.0 in
    let counted = counted_length (length (form w).operands) ts zs p.1 in
    let numbers = counted_read (length (form w).operands) ts zs p.1 (small_if_inside ver domains 1 (form w).operands zs counted inside) in
    let word = word_made w zs in
    let kept = numbers_kept ver domains w zs counted inside in
    let c = made w zs in
    record {
      text = row_read line (form w).text zs (same ∙ ap (λ x. x ∷ ts) row.0 ∙ ap (λ x. (form w).text ∷ x) numbers.0)
          ∙ ap (row_text w) (sym kept) ∙ ap (λ v. row_text v (parts c).numbers) (sym word);
      writable = ap (λ v. is_built ver v && all_fit ver domains (form v).operands (parts c).numbers) word ∙ ap (λ ns. is_built ver w && all_fit ver domains (form w).operands ns) kept
          ∙ ap (λ b. b && all_fit ver domains (form w).operands zs) row.1 ∙ fit_if_inside ver domains 1 (form w).operands zs inside;
    }

-- a line that says a command is its text
pub command_said : (ver : Version) (domains : ℕ) (line : List ℕ) (w : Word) (zs : List ℤ) → line_shape ver line ≡ command w zs → first_out_of_range ver domains 1 (form w).operands zs ≡ None → SaysCommand ver domains line (made w zs)
command_said ver domains line w zs e inside = command_of_texts ver domains line (texts line) w zs refl e inside
