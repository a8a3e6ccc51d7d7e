-- What a line says, by its word and the numbers behind it.
use Rattle.text_script.specs.declared.version.Version.{Version}
use Rattle.std.proofs.Common.{◌≡◌, ◌≢◌, ℕ, ◌<◌, ℤ, pos, List, [], ◌∷◌, map, length, drop, take, Bool, true, false, cond, refl, ap, sym, ◌∙◌, subst, arith, inr, None, Some}
use Rattle.std.specs.Prelude.{Option, option_map, option_and_then, ◌==◌, nat_le, slice_index_or, sum_by, bytes_eq, codes, if◌then◌else◌}
use Rattle.std.proofs.lemmas.Bool.Decides.{nat_tests}
use Rattle.std.proofs.lemmas.Option.{same_Some}
use Rattle.model_core.specs.declared.command.Command.{Command}
use Rattle.text_script.specs.declared.form.Operand.{Operand}
use Rattle.text_script.specs.declared.form.Word.{Word}
use Rattle.text_script.specs.declared.fault.ScriptFault.{ScriptFault}
use Rattle.text_script.specs.declared.fault.ScriptFault.TheVariants.{Range, Spawn}
use Rattle.text_script.specs.Number.{clipped, counted_numbers}
use Rattle.text_script.specs.Split.{split_at_mark, first_text, texts_behind, numbers_behind}
use Rattle.text_script.specs.Forms.{form, made, word_of}
use Rattle.text_script.specs.Script.{with_command}
use Rattle.text_script.specs.Spawning.{Place, place_in, may_follow}
use Rattle.text_script.specs.Faults.{LineShape, heading, command, neither, heading_shape, command_shape, row_shape, shape_of_texts, line_shape, texts, first_out_of_range, or_else, order_fault, fault_of_shape}
use Rattle.text_script.specs.Steps.{said_with, line_said, row_said, heading_said, fault_of_said, IsHeading, Says, TakesSaid}
use Rattle.text_script.proofs.RangeLemmas.{first_out_of_range-clipped, map-clipped_kept}
use Rattle.text_script.proofs.TextLemmas.{counted_length}
use Rattle.text_script.proofs.NumberLemmas.{with_text, counted_in, left_with, texts_are}
use Rattle.text_script.proofs.FormLemmas.{made_front}

chosen : (a b : Bool) (x y z : Option ScriptFault) → a ≡ false → b ≡ false → cond a x (cond b y z) ≡ z
chosen true b x y z e f = cc
chosen false true x y z e f = cc
chosen false false x y z e f = refl

-- what is wrong with a command but for its place: the ranges, and then the order of spawns
abbrev pub ranges_and_order : Version → ℕ → ℕ → Place → Word → List ℤ → Option ScriptFault
ranges_and_order ver domains line p w zs = or_else (option_map (Range line) (first_out_of_range ver domains 1 (form w).operands zs)) (order_fault (may_follow ver p (made w zs)) line)

pub ranges_alone : (ver : Version) (domains line : ℕ) (p : Place) (w : Word) (zs : List ℤ) → p.headings ≢ 0 → p.commands < 200000 → fault_of_shape ver domains line p (command w zs) ≡ ranges_and_order ver domains line p w zs
ranges_alone ver domains line p w zs some room =
    chosen (p.headings == 0) (nat_le 200000 p.commands) _ _ _ (grind (arith, nat_tests)) (grind (arith, nat_tests))

-- what the numbers of a row, or of a heading, and the texts of a line say, with what is left
abbrev Said : Type 0
Said = Option (LineShape × List ℕ)

abbrev rows : Word → Option (List ℤ × List ℕ) → Said
rows w o = option_map (λ p. (command w p.0, p.1)) o

abbrev headings : Option (List ℤ × List ℕ) → Said
headings o = option_and_then (λ p. said_with (heading_shape (Some p.0)) p.1) o

abbrev shapes : Version → Option (List (List ℕ) × List ℕ) → Said
shapes ver o = option_and_then (λ p. said_with (shape_of_texts ver p.0) p.1) o

abbrev lines : Version → Option (List ℕ × List ℕ) → Said
lines ver o = option_and_then (λ p. said_with (line_shape ver p.0) p.1) o

-- as many numbers as were asked for
length_in : (count : ℕ) (o : Option (List (List ℕ) × List ℕ)) (zs : List ℤ) (left : List ℕ) → option_and_then (counted_in count) o ≡ Some (zs, left) → length zs ≡ count
length_in count None zs left e = cc
length_in count (Some p) zs left e = length_of count p.0 (counted_numbers count p.0) zs p.1 left refl e where
  length_of : (count : ℕ) (ts : List (List ℕ)) (n : Option (List ℤ)) (zs : List ℤ) (l left : List ℕ) → counted_numbers count ts ≡ n → left_with l n ≡ Some (zs, left) → length zs ≡ count
  length_of count ts None zs l left is e = cc
  length_of count ts (Some ys) zs l left is e = ap (λ (q : List ℤ × List ℕ). length q.0) (sym (same_Some (ys, l) (zs, left) e)) ∙ counted_length count ts ys is

row_length : (count : ℕ) (bytes : List ℕ) (zs : List ℤ) (left : List ℕ) → numbers_behind count bytes ≡ Some (zs, left) → length zs ≡ count
row_length count bytes zs left e = length_in count (texts_behind bytes) zs left e

-- the numbers of a line and what is left of the bytes, the numbers clipped
abbrev pub clipped_row : Option (List ℤ × List ℕ) → Option (List ℤ × List ℕ)
clipped_row o = option_map (λ p. (map clipped p.0, p.1)) o

row_found : (o : Option (List ℤ × List ℕ)) (ns : List ℤ) (left : List ℕ) → Some (ns, left) ≡ clipped_row o → (zs : List ℤ) × (o ≡ Some (zs, left)) × (ns ≡ map clipped zs)
row_found None ns left e = cc
row_found (Some p) ns left e =
    let same : (ns, left) ≡ (map clipped p.0, p.1) = same_Some (ns, left) (map clipped p.0, p.1) e in
    (p.0, ap (λ (q : List ℤ × List ℕ). Some (p.0, q.1)) (sym same), ap (λ (q : List ℤ × List ℕ). q.0) same)

-- the first number of a command that is out of range
pub range_read : (ver : Version) (domains line : ℕ) (p : Place) (w : Word) (bytes : List ℕ) (kinds : List Operand) (ns : List ℤ) (left : List ℕ) (which : ℕ) → kinds ≡ (form w).operands
    → Some (ns, left) ≡ clipped_row (numbers_behind (length kinds) bytes) → p.headings ≢ 0 → p.commands < 200000 → Some which ≡ first_out_of_range ver domains 1 kinds ns
    → fault_of_said ver domains line p (row_said w bytes) ≡ Some (Range line which)
range_read ver domains line p w bytes kinds ns left which k e some room outside =
    let r = row_found (numbers_behind (length kinds) bytes) ns left e in
    let said = ap (λ x. rows w (numbers_behind (length x) bytes)) (sym k) ∙ ap (rows w) r.1 in
    let found = outside ∙ ap (first_out_of_range ver domains 1 kinds) r.2 ∙ first_out_of_range-clipped ver domains 1 kinds r.0 ∙ ap (λ x. first_out_of_range ver domains 1 x r.0) k in
    ap (fault_of_said ver domains line p) said ∙ ranges_alone ver domains line p w r.0 some room ∙ ap (λ o. or_else (option_map (Range line) o) (order_fault (may_follow ver p (made w r.0)) line)) (sym found)

-- a command that is read
pub command_read : (ver : Version) (domains : ℕ) (w : Word) (bytes : List ℕ) (kinds : List Operand) (all : List ℤ) (left : List ℕ) (old : List (List Command)) (c : Command) → kinds ≡ (form w).operands → length all ≡ 4
    → Some (take (length kinds) all, left) ≡ clipped_row (numbers_behind (length kinds) bytes) → length old ≢ 0 → sum_by length old < 200000 → None ≡ first_out_of_range ver domains 1 kinds (take (length kinds) all)
    → c ≡ made w all → Says ver domains (row_said w bytes) left old w c
command_read ver domains w bytes kinds all left old c k four e some room outside is =
    let r = row_found (numbers_behind (length kinds) bytes) (take (length kinds) all) left e in
    let fits = sym (outside ∙ ap (first_out_of_range ver domains 1 kinds) r.2 ∙ first_out_of_range-clipped ver domains 1 kinds r.0 ∙ ap (λ x. first_out_of_range ver domains 1 x r.0) k) in
    let counted : length r.0 ≡ length (form w).operands = row_length (length kinds) bytes r.0 left r.1 ∙ ap length k in
    let kept = r.2 ∙ map-clipped_kept ver domains 1 (form w).operands r.0 counted fits in
    record {
      numbers = r.0;
      is_said = ap (λ x. rows w (numbers_behind (length x) bytes)) (sym k) ∙ ap (rows w) r.1;
      in_ranges = fits;
      begun = omega arith;
      room = room;
      is = is ∙ sym (made_front w all four) ∙ ap (λ x. made w (take (length x) all)) (sym k) ∙ ap (made w) kept;
    }

-- a command that is added
pub command_added : (ver : Version) (domains : ℕ) (said : Option (LineShape × List ℕ)) (left : List ℕ) (old new : List (List Command)) (w : Word) (c : Command) → Says ver domains said left old w c → may_follow ver (place_in old) c ≡ true
    → new ≡ with_command old c → TakesSaid ver domains said left old new
command_added ver domains said left old new w c s in_order pushed = record {
  shape = command w s.numbers;
  is_said = s.is_said;
  takes = inr (record {
    word = w;
    numbers = s.numbers;
    is_command = refl;
    in_ranges = s.in_ranges;
    begun = s.begun;
    room = s.room;
    in_order = ap (may_follow ver (place_in old)) (sym s.is) ∙ in_order;
    sections = pushed ∙ ap (with_command old) s.is;
  });
}

-- a command that is out of the order of spawns
pub spawn_read : (ver : Version) (domains line : ℕ) (said : Option (LineShape × List ℕ)) (left : List ℕ) (old : List (List Command)) (w : Word) (c : Command) → Says ver domains said left old w c → may_follow ver (place_in old) c ≡ false
    → fault_of_said ver domains line (place_in old) said ≡ Some (Spawn line)
spawn_read ver domains line said left old w c s out =
    let some : (place_in old).headings ≢ 0 = omega (arith, s.begun) in
    ap (fault_of_said ver domains line (place_in old)) s.is_said ∙ ranges_alone ver domains line (place_in old) w s.numbers some s.room
    ∙ ap (λ o. or_else (option_map (Range line) o) (order_fault (may_follow ver (place_in old) (made w s.numbers)) line)) s.in_ranges
    ∙ ap (λ b. order_fault b line) (ap (may_follow ver (place_in old)) (sym s.is) ∙ out)

-- the number of a heading
heading_first : (zs : List ℤ) (left : List ℕ) → length zs ≡ 1 → IsHeading (said_with (heading_shape (Some zs)) left) (Some (slice_index_or (map clipped zs) 0 (pos 0), left))
heading_first [] left n = absurd (omega arith)
heading_first (z ∷ []) left n = (z, refl, refl)
heading_first (z ∷ y ∷ zs) left n = absurd (omega arith)

-- the first of some numbers is the first of all
pub first_kept : (zs : List ℤ) → slice_index_or (take 1 zs) 0 (pos 0) ≡ slice_index_or zs 0 (pos 0)
first_kept [] = refl
first_kept (z ∷ zs) = refl

pub heading_read : (bytes : List ℕ) (ns : List ℤ) (left : List ℕ) (n : ℤ) → Some (ns, left) ≡ clipped_row (numbers_behind 1 bytes) → n ≡ slice_index_or ns 0 (pos 0) → IsHeading (heading_said bytes) (Some (n, left))
heading_read bytes ns left n e first =
    let r = row_found (numbers_behind 1 bytes) ns left e in
    let said : heading_said bytes ≡ said_with (heading_shape (Some r.0)) left = ap headings r.1 in
    let is : slice_index_or (map clipped r.0) 0 (pos 0) ≡ n = ap (λ xs. slice_index_or xs 0 (pos 0)) (sym r.2) ∙ sym first in
    subst (λ (m : ℤ). IsHeading (heading_said bytes) (Some (m, left))) is (subst (λ (s : Option (LineShape × List ℕ)). IsHeading s (Some (slice_index_or (map clipped r.0) 0 (pos 0), left))) (sym said) (heading_first r.0 left (row_length 1 bytes r.0 left r.1)))

-- what a line says, by its first text
said_by : (ver : Version) (o : Option (List ℕ × List ℕ)) → lines ver o ≡ shapes ver (option_map (λ p. (texts p.0, p.1)) o)
said_by ver None = refl
said_by ver (Some p) = refl

by_texts : (ver : Version) (bytes t : List ℕ) → first_text bytes ≡ t → line_said ver bytes ≡ shapes ver (with_text t (texts_behind (drop (length t) bytes)))
by_texts ver bytes t e =
    said_by ver (split_at_mark 10 bytes) ∙ ap (shapes ver) (texts_are bytes)
    ∙ ap (λ x. shapes ver (with_text x (texts_behind (drop (length x) bytes)))) e

chosen_row : (b : Bool) (first row : LineShape) → b ≡ false → (if b then first else row) ≡ row
chosen_row true first row e = cc
chosen_row false first row e = refl

chosen_heading : (b : Bool) (first row : LineShape) → b ≡ true → (if b then first else row) ≡ first
chosen_heading true first row e = refl
chosen_heading false first row e = cc

row_with : (w : Word) (o : Option (List ℤ)) (left : List ℕ) → said_with (command_shape w o) left ≡ rows w (left_with left o)
row_with w None left = refl
row_with w (Some zs) left = refl

row_texts : (ver : Version) (t : List ℕ) (w : Word) (o : Option (List (List ℕ) × List ℕ)) → bytes_eq t (codes "domain") ≡ false → word_of ver t ≡ Some w → shapes ver (with_text t o)
    ≡ rows w (option_and_then (counted_in (length (form w).operands)) o)
row_texts ver t w None other found = refl
row_texts ver t w (Some p) other found =
    ap (λ s. said_with s p.1) (chosen_row (bytes_eq t (codes "domain")) (heading_shape (counted_numbers 1 p.0)) (row_shape (word_of ver t) p.0) other ∙ ap (λ (o : Option Word). row_shape o p.0) found)
    ∙ row_with w (counted_numbers (length (form w).operands) p.0) p.1

-- a line whose first text is the word of a row
pub row_line : (ver : Version) (bytes t : List ℕ) (w : Word) → first_text bytes ≡ t → bytes_eq t (codes "domain") ≡ false → word_of ver t ≡ Some w → line_said ver bytes ≡ row_said w (drop (length t) bytes)
row_line ver bytes t w e other found = by_texts ver bytes t e ∙ row_texts ver t w (texts_behind (drop (length t) bytes)) other found

heading_with : (o : Option (List ℤ)) (left : List ℕ) → said_with (heading_shape o) left ≡ headings (left_with left o)
heading_with None left = refl
heading_with (Some zs) left = refl

heading_texts : (ver : Version) (t : List ℕ) (o : Option (List (List ℕ) × List ℕ)) → bytes_eq t (codes "domain") ≡ true → shapes ver (with_text t o)
    ≡ headings (option_and_then (counted_in 1) o)
heading_texts ver t None e = refl
heading_texts ver t (Some p) e =
    ap (λ s. said_with s p.1) (chosen_heading (bytes_eq t (codes "domain")) (heading_shape (counted_numbers 1 p.0)) (row_shape (word_of ver t) p.0) e) ∙ heading_with (counted_numbers 1 p.0) p.1

-- a line whose first text is `domain`
pub heading_line : (ver : Version) (bytes t : List ℕ) → first_text bytes ≡ t → bytes_eq t (codes "domain") ≡ true → line_said ver bytes ≡ heading_said (drop (length t) bytes)
heading_line ver bytes t e is = by_texts ver bytes t e ∙ heading_texts ver t (texts_behind (drop (length t) bytes)) is

other_texts : (ver : Version) (t : List ℕ) (o : Option (List (List ℕ) × List ℕ)) → bytes_eq t (codes "domain") ≡ false → word_of ver t ≡ None → shapes ver (with_text t o) ≡ None
other_texts ver t None other none = refl
other_texts ver t (Some p) other none =
    ap (λ s. said_with s p.1) (chosen_row (bytes_eq t (codes "domain")) (heading_shape (counted_numbers 1 p.0)) (row_shape (word_of ver t) p.0) other ∙ ap (λ (o : Option Word). row_shape o p.0) none)

-- a line whose first text is neither
pub other_line : (ver : Version) (bytes t : List ℕ) → first_text bytes ≡ t → bytes_eq t (codes "domain") ≡ false → word_of ver t ≡ None → line_said ver bytes ≡ None
other_line ver bytes t e other none = by_texts ver bytes t e ∙ other_texts ver t (texts_behind (drop (length t) bytes)) other none

-- what was said is what a line says whose line feed was found
shape_with : (s shape : LineShape) (l left : List ℕ) → said_with s l ≡ Some (shape, left) → (s ≡ shape) × (l ≡ left)
shape_with (heading z) shape l left e =
    let same = same_Some (heading z, l) (shape, left) e in
    (ap (λ (q : LineShape × List ℕ). q.0) same, ap (λ (q : LineShape × List ℕ). q.1) same)
shape_with (command w zs) shape l left e =
    let same = same_Some (command w zs, l) (shape, left) e in
    (ap (λ (q : LineShape × List ℕ). q.0) same, ap (λ (q : LineShape × List ℕ). q.1) same)
shape_with neither shape l left e = cc

said_in : (ver : Version) (o : Option (List ℕ × List ℕ)) (shape : LineShape) (left : List ℕ) → lines ver o ≡ Some (shape, left) → (text : List ℕ) × (Some (text, left) ≡ o) × (shape ≡ line_shape ver text)
said_in ver None shape left e = cc
said_in ver (Some p) shape left e =
    let s = shape_with (line_shape ver p.0) shape p.1 left e in
    (p.0, ap (λ l. Some (p.0, l)) (sym s.1), sym s.0)

pub said_line : (ver : Version) (bytes : List ℕ) (shape : LineShape) (left : List ℕ) → line_said ver bytes ≡ Some (shape, left) → (text : List ℕ) × (Some (text, left) ≡ split_at_mark 10 bytes) × (shape ≡ line_shape ver text)
said_line ver bytes shape left e = said_in ver (split_at_mark 10 bytes) shape left e

-- the fault of a line that has a line feed
pub fault_with : (ver : Version) (domains line : ℕ) (p : Place) (s : LineShape) (left : List ℕ) → fault_of_said ver domains line p (said_with s left) ≡ fault_of_shape ver domains line p s
fault_with ver domains line p (heading z) left = refl
fault_with ver domains line p (command w zs) left = refl
fault_with ver domains line p neither left = refl
