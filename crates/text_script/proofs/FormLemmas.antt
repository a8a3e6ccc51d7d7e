-- The laws of the table, row by row: they hold whichever commands are built.
use Rattle.text_script.specs.declared.version.Version.{Version}
use Rattle.text_script.specs.declared.version.Version.TheVariants.{One, Two, Three}
use Rattle.std.proofs.Common.{◌≡◌, ℕ, ◌+◌, ◌-◌, ◌≤◌, ◌^◌, min, ℤ, pos, negsuc, List, [], ◌∷◌, ◌++◌, length, take, Bool, true, false, cond, not, ◌&&◌, refl, ap, sym, ◌∙◌, arith, lit≤, ◌⊎◌, inl, inr, None, Some}
use Rattle.std.specs.Prelude.{Option, is_some, find, nat_lt, unsigned_abs, slice_index_or, codes, bytes_eq, int_le, ◌==◌}
use Rattle.std.proofs.lemmas.Bool.Decides.{nat_tests}
use Rattle.std.proofs.lemmas.Int.{ints}
use Rattle.std.proofs.lemmas.Slice.Eq.{bytes_eq-Decides}
use Rattle.std.proofs.lemmas.Bool.{and_parts as both}
use Rattle.model_core.specs.declared.command.Command.{Command}
use Rattle.model_core.specs.declared.command.Command.TheVariants.{PutInt, Copy, Forget, Alloc, AllocMaj, Load, Store, Raw, Cas, Ephe, SetKey, UnsetKey, GetKey, CheckKey, SetData, UnsetData, GetData, CheckData, Finalise, FinaliseLast, Poll, Minor, Major, FullMajor, Spawn, Argument, PutResult, Join}
use Rattle.text_script.specs.declared.form.Operand.{Operand}
use Rattle.text_script.specs.declared.form.Operand.TheVariants.{Register, Tag, RawTag, FieldCount, KeyCount, Index, FinaliserNumber, Integer, Section}
use Rattle.text_script.specs.declared.form.Word.{Word}
use Rattle.text_script.specs.declared.form.Word.TheVariants as word
use Rattle.text_script.specs.Split.{first_text}
use Rattle.text_script.specs.Forms.{form, fits, least, greatest, most_fields, last_register, byte, short, wide, word_of, built_words, is_built, made, parts, all_fit}
use Rattle.text_script.specs.Faults.{first_out_of_range}
use Rattle.text_script.proofs.DecimalLemmas.{is_free}
use Rattle.text_script.proofs.RangeLemmas.{least_wide, greatest_wide, passed}
use Rattle.text_script.proofs.TextLemmas.{are_small}

-- neither a space nor a line feed stands in a word, and none is `domain`
pub word_without_space : (w : Word) → is_free 32 (form w).text ≡ true
word_without_space word.Int = refl
word_without_space _ = refl

pub word_without_line_feed : (w : Word) → is_free 10 (form w).text ≡ true
word_without_line_feed word.Int = refl
word_without_line_feed _ = refl

pub word_no_heading : (w : Word) → bytes_eq (form w).text (codes "domain") ≡ false
word_no_heading word.Int = refl
word_no_heading _ = refl

-- a word that is built is found
found_if_built : (ver : Version) (w : Word) → word_of ver (form w).text ≡ cond (is_built ver w) (Some w) None
found_if_built One word.Int = refl
found_if_built One _ = refl
found_if_built Two word.Int = refl
found_if_built Two _ = refl
found_if_built Three word.Int = refl
found_if_built Three _ = refl

pub word_found : (ver : Version) (w : Word) → is_built ver w ≡ true → word_of ver (form w).text ≡ Some w
word_found ver w e = found_if_built ver w ∙ ap (λ b. cond b (Some w) None) e

-- a word of the first version is one of each version
built_in : (ver : Version) (w : Word) → is_built One w ≡ true → is_built ver w ≡ true
built_in One w first = first
built_in Two word.Spawn first = first
built_in Two word.Argument first = first
built_in Two word.Result first = first
built_in Two word.Join first = first
built_in Two _ first = refl
built_in Three word.Int first = refl
built_in Three _ first = refl

-- a command is made of the first of its numbers, as many as its row has
made_of : (w : Word) (a b c d : ℤ) → made w (take (length (form w).operands) (a ∷ b ∷ c ∷ d ∷ [])) ≡ made w (a ∷ b ∷ c ∷ d ∷ [])
made_of word.Int a b c d = refl
made_of _ a b c d = refl

pub made_front : (w : Word) (zs : List ℤ) → length zs ≡ 4 → made w (take (length (form w).operands) zs) ≡ made w zs
made_front w [] n = absurd (omega arith)
made_front w (a ∷ []) n = absurd (omega arith)
made_front w (a ∷ b ∷ []) n = absurd (omega arith)
made_front w (a ∷ b ∷ c ∷ []) n = absurd (omega arith)
made_front w (a ∷ b ∷ c ∷ d ∷ []) n = made_of w a b c d
made_front w (a ∷ b ∷ c ∷ d ∷ e ∷ zs) n = absurd (omega arith)

first_by : (a b : Bool) (c : ℕ) (bs : List ℕ) → not a ≡ true → not b ≡ true → cond a [] (cond b [] (c ∷ bs)) ≡ c ∷ bs
first_by true b c bs e f = cc
first_by false true c bs e f = cc
first_by false false c bs e f = refl

-- a text is a word where no mark stands in the word, and one stands behind it
pub first_free : (word rest : List ℕ) → is_free 32 word ≡ true → is_free 10 word ≡ true → first_text rest ≡ [] → first_text (word ++ rest) ≡ word
first_free [] rest e f ends = ends
first_free (b ∷ word) rest e f ends =
    let p = both (not (b == 32)) (is_free 32 word) e in
    let q = both (not (b == 10)) (is_free 10 word) f in
    first_by (b == 32) (b == 10) b (first_text (word ++ rest)) p.0 q.0 ∙ ap (λ x. b ∷ x) (first_free word rest p.1 q.1 ends)

-- a word of the first version is found in each version
pub first_found : (ver : Version) (w : Word) → is_built One w ≡ true → word_of ver (form w).text ≡ Some w
first_found ver w first = word_found ver w (built_in ver w first)

chosen_first : (b : Bool) (v w : Word) (o : Option Word) → cond b (Some v) o ≡ Some w → ((b ≡ true) × (v ≡ w)) ⊎ (o ≡ Some w)
chosen_first true v w o e = inl (refl, cc)
chosen_first false v w o e = inr e

found_passes : (test : Word → Bool) (ws : List Word) (w : Word) → find test ws ≡ Some w → test w ≡ true
found_passes test [] w e = cc
found_passes test (v ∷ ws) w e =
    elim (chosen_first (test v) v w (find test ws) e) [ inl p ↦ ap test (sym p.1) ∙ p.0 | inr q ↦ found_passes test ws w q ]

-- the word that was found
pub word_read : (ver : Version) (text : List ℕ) (w : Word) → word_of ver text ≡ Some w → (text ≡ (form w).text) × (is_built ver w ≡ true)
word_read ver text w e =
    let same = sym ((bytes_eq-Decides (form w).text text).0 (found_passes (λ v. bytes_eq (form v).text text) (built_words ver) w e)) in
    (same, ap is_some (ap (word_of ver) (sym same) ∙ e))

-- a command has a number for each operand of its row
pub parts_counted : (c : Command) → length (parts c).numbers ≡ length (form (parts c).word).operands
parts_counted (PutInt dst value) = refl
parts_counted _ = refl

-- the magnitude of the number at a place
abbrev pub nat_at : List ℤ → ℕ → ℕ
nat_at zs i = unsigned_abs (slice_index_or zs i (pos 0))

-- a command put together again
abbrev pub whole : Word → List ℤ → Command
whole word.Int zs = PutInt (nat_at zs 0) (slice_index_or zs 1 (pos 0))
whole word.Move zs = Copy (nat_at zs 0) (nat_at zs 1)
whole word.Drop zs = Forget (nat_at zs 0)
whole word.Alloc zs = Alloc (nat_at zs 0) (nat_at zs 1) (nat_at zs 2)
whole word.AllocMaj zs = AllocMaj (nat_at zs 0) (nat_at zs 1) (nat_at zs 2)
whole word.Load zs = Load (nat_at zs 0) (nat_at zs 1) (nat_at zs 2)
whole word.Store zs = Store (nat_at zs 0) (nat_at zs 1) (nat_at zs 2)
whole word.Raw zs = Raw (nat_at zs 0) (nat_at zs 1) (nat_at zs 2)
whole word.Cas zs = Cas (nat_at zs 0) (nat_at zs 1) (nat_at zs 2) (nat_at zs 3)
whole word.Ephe zs = Ephe (nat_at zs 0) (nat_at zs 1)
whole word.SetKey zs = SetKey (nat_at zs 0) (nat_at zs 1) (nat_at zs 2)
whole word.UnsetKey zs = UnsetKey (nat_at zs 0) (nat_at zs 1)
whole word.GetKey zs = GetKey (nat_at zs 0) (nat_at zs 1) (nat_at zs 2)
whole word.CheckKey zs = CheckKey (nat_at zs 0) (nat_at zs 1)
whole word.SetData zs = SetData (nat_at zs 0) (nat_at zs 1)
whole word.UnsetData zs = UnsetData (nat_at zs 0)
whole word.GetData zs = GetData (nat_at zs 0) (nat_at zs 1)
whole word.CheckData zs = CheckData (nat_at zs 0)
whole word.Finalise zs = Finalise (nat_at zs 0) (nat_at zs 1) (nat_at zs 2)
whole word.FinaliseLast zs = FinaliseLast (nat_at zs 0) (nat_at zs 1)
whole word.Poll zs = Poll
whole word.Minor zs = Minor
whole word.Major zs = Major
whole word.FullMajor zs = FullMajor
whole word.Spawn zs = Spawn (nat_at zs 0) (nat_at zs 1)
whole word.Argument zs = Argument (nat_at zs 0)
whole word.Result zs = PutResult (nat_at zs 0)
whole word.Join zs = Join (nat_at zs 0) (nat_at zs 1)

pub whole-parts : (c : Command) → whole (parts c).word (parts c).numbers ≡ c
whole-parts (PutInt dst value) = refl
whole-parts _ = refl

-- a number as the field of its kind holds it
abbrev pub held : Operand → ℤ → ℤ
held Integer z = z
held Register z = pos (byte z)
held Tag z = pos (byte z)
held RawTag z = pos (byte z)
held FieldCount z = pos (short z)
held KeyCount z = pos (short z)
held Index z = pos (short z)
held FinaliserNumber z = pos (wide z)
held Section z = pos (wide z)

held_between : (most high : ℕ) (low z : ℤ) → int_le (pos 0) low ≡ true → high ≤ most → (int_le low z && int_le z (pos high)) ≡ true → pos (min (unsigned_abs z) most) ≡ z
held_between most high low (pos n) l h e = grind (arith, ints, nat_tests)
held_between most high low (negsuc n) l h e = grind (arith, ints, nat_tests)

fields_small : (ver : Version) → most_fields ver ≤ 65535
fields_small One = lit≤ tt
fields_small Two = lit≤ tt
fields_small Three = lit≤ tt

registers_small : (ver : Version) → last_register ver ≤ 255
registers_small One = lit≤ tt
registers_small Two = lit≤ tt
registers_small Three = lit≤ tt

pub held_same : (ver : Version) (domains : ℕ) (kind : Operand) (z : ℤ) → fits ver domains kind z ≡ true → held kind z ≡ z
held_same ver domains Integer z e = refl
held_same ver domains Register z e = held_between 255 (last_register ver) (pos 0) z refl (registers_small ver) e
held_same ver domains Tag z e = held_between 255 245 (pos 0) z refl (omega arith) e
held_same ver domains RawTag z e = held_between 255 255 (pos 251) z refl (omega arith) e
held_same ver domains FieldCount z e = held_between 65535 (most_fields ver) (pos 1) z refl (fields_small ver) e
held_same ver domains KeyCount z e = held_between 65535 8 (pos 1) z refl (omega arith) e
held_same ver domains Index z e = held_between 65535 1023 (pos 0) z refl (omega arith) e
held_same ver domains FinaliserNumber z e = held_between 4294967295 65535 (pos 0) z refl (omega arith) e
held_same ver domains Section z e = held_between 4294967295 (min 7 (domains - 1)) (pos 0) z refl (omega arith) e

-- up to four numbers as their fields hold them
abbrev pub all_held : List Operand → List ℤ → List ℤ
all_held [] zs = []
all_held (a ∷ []) zs = held a (slice_index_or zs 0 (pos 0)) ∷ []
all_held (a ∷ b ∷ []) zs = held a (slice_index_or zs 0 (pos 0)) ∷ held b (slice_index_or zs 1 (pos 0)) ∷ []
all_held (a ∷ b ∷ c ∷ []) zs = held a (slice_index_or zs 0 (pos 0)) ∷ held b (slice_index_or zs 1 (pos 0)) ∷ held c (slice_index_or zs 2 (pos 0)) ∷ []
all_held (a ∷ b ∷ c ∷ d ∷ more) zs = held a (slice_index_or zs 0 (pos 0)) ∷ held b (slice_index_or zs 1 (pos 0)) ∷ held c (slice_index_or zs 2 (pos 0)) ∷ held d (slice_index_or zs 3 (pos 0)) ∷ []

-- the numbers of a command that was made
pub numbers_made : (w : Word) (zs : List ℤ) → (parts (made w zs)).numbers ≡ all_held (form w).operands zs
numbers_made word.Int zs = refl
numbers_made _ zs = refl

pub word_made : (w : Word) (zs : List ℤ) → (parts (made w zs)).word ≡ w
word_made word.Int zs = refl
word_made _ zs = refl

-- no row has more than four numbers
pub few_operands : (w : Word) → length (form w).operands ≤ 4
few_operands word.Int = lit≤ tt
few_operands _ = lit≤ tt

-- numbers in their ranges stay as they are
pub all_held_same : (ver : Version) (domains : ℕ) (kinds : List Operand) (zs : List ℤ) → length kinds ≤ 4 → length zs ≡ length kinds → first_out_of_range ver domains 1 kinds zs ≡ None → all_held kinds zs ≡ zs
all_held_same ver domains [] [] few n e = refl
all_held_same ver domains [] (x ∷ zs) few n e = absurd (omega arith)
all_held_same ver domains (a ∷ kinds) [] few n e = absurd (omega arith)
all_held_same ver domains (a ∷ []) (x ∷ []) few n e =
    let p = passed (fits ver domains a x) None 1 e in
    let first = held_same ver domains a x p.0 in
    cc
all_held_same ver domains (a ∷ []) (x ∷ y ∷ zs) few n e = absurd (omega arith)
all_held_same ver domains (a ∷ b ∷ kinds) (x ∷ []) few n e = absurd (omega arith)
all_held_same ver domains (a ∷ b ∷ []) (x ∷ y ∷ []) few n e =
    let p = passed (fits ver domains a x) (first_out_of_range ver domains 2 (b ∷ []) (y ∷ [])) 1 e in
    let q = passed (fits ver domains b y) None 2 p.1 in
    let first = held_same ver domains a x p.0 in
    let second = held_same ver domains b y q.0 in
    cc
all_held_same ver domains (a ∷ b ∷ []) (x ∷ y ∷ z ∷ zs) few n e = absurd (omega arith)
all_held_same ver domains (a ∷ b ∷ c ∷ kinds) (x ∷ y ∷ []) few n e = absurd (omega arith)
all_held_same ver domains (a ∷ b ∷ c ∷ []) (x ∷ y ∷ z ∷ []) few n e =
    let p = passed (fits ver domains a x) (first_out_of_range ver domains 2 (b ∷ c ∷ []) (y ∷ z ∷ [])) 1 e in
    let q = passed (fits ver domains b y) (first_out_of_range ver domains 3 (c ∷ []) (z ∷ [])) 2 p.1 in
    let r = passed (fits ver domains c z) None 3 q.1 in
    let first = held_same ver domains a x p.0 in
    let second = held_same ver domains b y q.0 in
    let third = held_same ver domains c z r.0 in
    cc
all_held_same ver domains (a ∷ b ∷ c ∷ []) (x ∷ y ∷ z ∷ v ∷ zs) few n e = absurd (omega arith)
all_held_same ver domains (a ∷ b ∷ c ∷ d ∷ kinds) (x ∷ y ∷ z ∷ []) few n e = absurd (omega arith)
all_held_same ver domains (a ∷ b ∷ c ∷ d ∷ []) (x ∷ y ∷ z ∷ v ∷ []) few n e =
    let p = passed (fits ver domains a x) (first_out_of_range ver domains 2 (b ∷ c ∷ d ∷ []) (y ∷ z ∷ v ∷ [])) 1 e in
    let q = passed (fits ver domains b y) (first_out_of_range ver domains 3 (c ∷ d ∷ []) (z ∷ v ∷ [])) 2 p.1 in
    let r = passed (fits ver domains c z) (first_out_of_range ver domains 4 (d ∷ []) (v ∷ [])) 3 q.1 in
    let t = passed (fits ver domains d v) None 4 r.1 in
    let first = held_same ver domains a x p.0 in
    let second = held_same ver domains b y q.0 in
    let third = held_same ver domains c z r.0 in
    let fourth = held_same ver domains d v t.0 in
    cc
all_held_same ver domains (a ∷ b ∷ c ∷ d ∷ []) (x ∷ y ∷ z ∷ v ∷ w ∷ zs) few n e = absurd (omega arith)
all_held_same ver domains (a ∷ b ∷ c ∷ d ∷ f ∷ kinds) (x ∷ y ∷ z ∷ v ∷ zs) few n e = absurd (omega arith)

-- numbers in their ranges are those of the command that is made of them
pub numbers_kept : (ver : Version) (domains : ℕ) (w : Word) (zs : List ℤ) → length zs ≡ length (form w).operands → first_out_of_range ver domains 1 (form w).operands zs ≡ None → (parts (made w zs)).numbers ≡ zs
numbers_kept ver domains w zs n e = numbers_made w zs ∙ all_held_same ver domains (form w).operands zs (few_operands w) n e

-- a command is made of its numbers, where these are in their ranges
pub made-parts : (ver : Version) (domains : ℕ) (c : Command) → first_out_of_range ver domains 1 (form (parts c).word).operands (parts c).numbers ≡ None → made (parts c).word (parts c).numbers ≡ c
made-parts ver domains c e =
    let w = (parts c).word in
    let zs = (parts c).numbers in
    sym (whole-parts (made w zs)) ∙ ap (λ v. whole v (parts (made w zs)).numbers) (word_made w zs) ∙ ap (whole w) (numbers_kept ver domains w zs (parts_counted c) e) ∙ whole-parts c

-- numbers in their ranges fit 64 bits
small_between : (low high z : ℤ) → int_le (negsuc 9223372036854775800) low ≡ true → int_le high (pos 9223372036854775800) ≡ true → (int_le low z && int_le z high) ≡ true → nat_lt (unsigned_abs z) (2 ^ 63) ≡ true
small_between low high (pos n) l h e = grind (arith, ints, nat_tests)
small_between low high (negsuc n) l h e = grind (arith, ints, nat_tests)

small_if_fits : (ver : Version) (domains : ℕ) (kind : Operand) (z : ℤ) → fits ver domains kind z ≡ true → nat_lt (unsigned_abs z) (2 ^ 63) ≡ true
small_if_fits ver domains kind z e = small_between (least kind) (greatest ver domains kind) z (least_wide kind) (greatest_wide ver domains kind) e

pub small_if_inside : (ver : Version) (domains : ℕ) (which : ℕ) (kinds : List Operand) (zs : List ℤ) → length zs ≡ length kinds → first_out_of_range ver domains which kinds zs ≡ None → are_small zs ≡ true
small_if_inside ver domains which kinds [] n e = refl
small_if_inside ver domains which [] (z ∷ zs) n e = absurd (omega arith)
small_if_inside ver domains which (kind ∷ kinds) (z ∷ zs) n e =
    let p = passed (fits ver domains kind z) (first_out_of_range ver domains (which + 1) kinds zs) which e in
    ap (λ b. b && are_small zs) (small_if_fits ver domains kind z p.0) ∙ small_if_inside ver domains (which + 1) kinds zs (omega arith) p.1

-- the two ways to say that numbers are in their ranges
pub inside_if_fit : (ver : Version) (domains : ℕ) (which : ℕ) (kinds : List Operand) (zs : List ℤ) → all_fit ver domains kinds zs ≡ true → first_out_of_range ver domains which kinds zs ≡ None
inside_if_fit ver domains which [] zs e = refl
inside_if_fit ver domains which (kind ∷ kinds) [] e = refl
inside_if_fit ver domains which (kind ∷ kinds) (z ∷ zs) e =
    let p = both (fits ver domains kind z) (all_fit ver domains kinds zs) e in
    ap (λ b. cond b (first_out_of_range ver domains (which + 1) kinds zs) (Some which)) p.0 ∙ inside_if_fit ver domains (which + 1) kinds zs p.1

pub fit_if_inside : (ver : Version) (domains : ℕ) (which : ℕ) (kinds : List Operand) (zs : List ℤ) → first_out_of_range ver domains which kinds zs ≡ None → all_fit ver domains kinds zs ≡ true
fit_if_inside ver domains which [] zs e = refl
fit_if_inside ver domains which (kind ∷ kinds) [] e = refl
fit_if_inside ver domains which (kind ∷ kinds) (z ∷ zs) e =
    let p = passed (fits ver domains kind z) (first_out_of_range ver domains (which + 1) kinds zs) which e in
    ap (λ b. b && all_fit ver domains kinds zs) p.0 ∙ fit_if_inside ver domains (which + 1) kinds zs p.1
