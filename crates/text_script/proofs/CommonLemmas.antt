-- A line of a row of the first version, of which nothing is wrong.
use Rattle.std.proofs.Common.{◌≡◌, ℕ, ◌+◌, ℤ, List, ◌++◌, length, take, drop, take-append-drop, Bool, true, ap, sym, subst, ◌∙◌, refl, None, Some}
use Rattle.std.specs.Prelude.{Option, option_map, bytes_eq}
use Rattle.std.proofs.lemmas.Slice.Eq.{bytes_eq-Decides}
use Rattle.model_core.specs.declared.command.Command.{Command}
use Rattle.text_script.specs.declared.form.Word.{Word}
use Rattle.text_script.specs.declared.form.Word.TheVariants as word
use Rattle.text_script.specs.declared.version.Version.{Version}
use Rattle.text_script.specs.declared.version.Version.TheVariants.{One}
use Rattle.text_script.specs.Split.{first_text, numbers_behind}
use Rattle.text_script.specs.Forms.{form, is_built}
use Rattle.text_script.specs.Faults.{LineShape, command}
use Rattle.text_script.specs.Script.{with_command}
use Rattle.text_script.specs.Spawning.{place_in, may_follow}
use Rattle.text_script.specs.Steps.{line_said, row_said, stands_anywhere, Says, TakesSaid, Knows}
use Rattle.text_script.proofs.FrontLemmas.{drop_on}
use Rattle.text_script.proofs.FormLemmas.{word_without_space, word_without_line_feed, word_no_heading, first_free, first_found}
use Rattle.text_script.proofs.NumberLemmas.{text_ended}
use Rattle.text_script.proofs.LineLemmas.{row_line, command_added}
use Rattle.text_script.proofs.PlaceLemmas.{anywhere_follows, anywhere_known}

-- the words of the first version neither spawn nor join
pub first_anywhere : (w : Word) → is_built One w ≡ true → stands_anywhere w ≡ true
first_anywhere word.Spawn first = first
first_anywhere word.Join first = first
first_anywhere _ first = refl

found_of : (w : Word) (o : Option (List ℤ × List ℕ)) (said : LineShape × List ℕ) → option_map (λ p. (command w p.0, p.1)) o ≡ Some said → (found : List ℤ × List ℕ) × (o ≡ Some found)
found_of w None said e = cc
found_of w (Some found) said e = (found, refl)

-- a line that begins with the word of a row, behind which the row's numbers stand, has this word
pub word_begins : (w : Word) (bytes : List ℕ) (said : LineShape × List ℕ) → bytes_eq (take (length (form w).text) bytes) (form w).text ≡ true → row_said w (drop (length (form w).text) bytes) ≡ Some said → first_text bytes ≡ (form w).text
word_begins w bytes said begins read =
    let front : take (length (form w).text) bytes ≡ (form w).text = (bytes_eq-Decides (take (length (form w).text) bytes) (form w).text).0 begins in
    let found = found_of w (numbers_behind (length (form w).operands) (drop (length (form w).text) bytes)) said read in
    ap first_text (sym (take-append-drop (length (form w).text) bytes) ∙ ap (λ x. x ++ drop (length (form w).text) bytes) front)
    ∙ first_free (form w).text (drop (length (form w).text) bytes) (word_without_space w) (word_without_line_feed w) (text_ended (length (form w).operands) (drop (length (form w).text) bytes) found.0 found.1)

-- what such a line says
pub said_first : (ver : Version) (w : Word) (at : ℕ) (bytes text : List ℕ) (said : LineShape × List ℕ) → text ≡ (form w).text → is_built One w ≡ true → bytes_eq (take (length text) (drop at bytes)) text ≡ true
    → row_said w (drop (at + length text) bytes) ≡ Some said → line_said ver (drop at bytes) ≡ Some said
said_first ver w at bytes text said is first begins read =
    let behind = ap (λ (t : List ℕ). row_said w (drop (length t) (drop at bytes))) (sym is) ∙ ap (row_said w) (sym (drop_on at (length text) bytes)) ∙ read in
    row_line ver (drop at bytes) (form w).text w (word_begins w (drop at bytes) said (ap (λ (t : List ℕ). bytes_eq (take (length t) (drop at bytes)) t) (sym is) ∙ begins) behind) (word_no_heading w) (first_found ver w first) ∙ behind

-- the command of such a line is added
pub first_taken : (ver : Version) (domains : ℕ) (w : Word) (at : ℕ) (bytes text left : List ℕ) (old : List (List Command)) (c : Command) → text ≡ (form w).text → is_built One w ≡ true
    → bytes_eq (take (length text) (drop at bytes)) text ≡ true → Says ver domains (row_said w (drop (at + length text) bytes)) left old w c → TakesSaid ver domains (line_said ver (drop at bytes)) left old (with_command old c)
first_taken ver domains w at bytes text left old c is first begins says =
    let said = said_first ver w at bytes text _ is first begins says.is_said in
    let in_order = ap (may_follow ver (place_in old)) says.is ∙ anywhere_follows ver (place_in old) w says.numbers (first_anywhere w first) in
    subst (λ (s : Option (LineShape × List ℕ)). TakesSaid ver domains s left old (with_command old c)) (says.is_said ∙ sym said) (command_added ver domains (row_said w (drop (at + length text) bytes)) left old (with_command old c) w c says in_order refl)

-- and what is known of spawns stays known
pub first_known : (ver : Version) (domains : ℕ) (w : Word) (said : Option (LineShape × List ℕ)) (left : List ℕ) (old : List (List Command)) (c : Command) (named own : List Bool) → is_built One w ≡ true
    → Says ver domains said left old w c → Knows named own (place_in old) → Knows named own (place_in (with_command old c))
first_known ver domains w said left old c named own first says known = anywhere_known named own old w says.numbers c (first_anywhere w first) says.is says.begun known
