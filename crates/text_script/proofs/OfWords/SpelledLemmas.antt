-- Words ask for sizes exactly where they are spelled so.
use Rattle.std.proofs.Common.{◌≡◌, ◌∙◌, ℕ, ◌+◌, ◌*◌, ◌<◌, ◌≤◌, ◌^◌, suc, Bool, true, false, List, [], ◌∷◌, ◌++◌, take, drop, Option, Some, None, codes, decimal, refl, sym, ap, subst, arith}
use Rattle.std.specs.Prelude.{◌==◌, option_and_then, option_map, is_some, bytes_eq, flat_map, if◌then◌else◌}
use Rattle.std.specs.Option.{option_or}
use Rattle.std.proofs.Math.Nat.{mul-le-mul_right}
use Rattle.std.specs.List.{before_first, after_first, position_or_len}
use Rattle.std.proofs.lemmas.Bool.Decides.{Decides-eqb}
use Rattle.std.proofs.lemmas.Slice.Eq.{bytes_eq-Decides}
use Rattle.clap.specs.Lexer.{long_of, long_of_rest, name_and_value, strip_byte, has_byte}
use Rattle.model_core.specs.declared.state.Sizes.{Sizes}
use Rattle.model_core.specs.Domains.{first_outside}
use Rattle.text_script.specs.declared.words.options.Setting.{Setting}
use Rattle.text_script.specs.declared.words.options.Setting.TheVariants.{Domains, Minor, Pools}
use Rattle.text_script.specs.declared.words.options.Given.{Given}
use Rattle.text_script.specs.declared.words.options.Read.{Read}
use Rattle.text_script.specs.Words.Numbers.{option_number}
use Rattle.text_script.specs.Words.Options.{given_at, with_number, with_text, with_name, with_option, with_word, setting_named, given_by, nothing_read}
use Rattle.text_script.specs.Words.RunWords.{given_after, if_sizes, is_replay, is_run, is_table, replay_sizes, sizes_after, sizes_or, table_sizes}
use Rattle.text_script.specs.declared.words.job.Job.{Job}
use Rattle.text_script.specs.declared.words.job.Job.TheVariants.{Run, Replay, Table, Gen, Load}
use Rattle.text_script.specs.declared.words.job.Generated.{Generated}
use Rattle.text_script.specs.Words.Jobs.{AreReplaySizes, AreTableSizes, IsGenerable, asked_job, generated_after, if_generable, script_if}
use Rattle.text_script.specs.Words.Spelled.{name_of, Choice, choice_words, Gives, SpellsOptions, AsksForSizes, AsksForScript, AsksFor}
use Rattle.text_script.proofs.OfWords.NumberLemmas.{number_read, number_again}
use Rattle.text_script.proofs.OfWords.JobLemmas.{Reads, asked_reads, chosen, generable, gives_sizes, numbers_of, passes_replay, passes_run, passes_table, passes_test, replayable, runnable, tabular}
use Rattle.text_script.proofs.OfWords.WalkLemmas.{named_is, some_of, some_map, if_new}

-- a name, and the text behind its `=` if there is one
abbrev with_equals : List ℕ → Option (List ℕ) → List ℕ
with_equals name None = name
with_equals name (Some text) = name ++ 61 ∷ text

with_equals-cons : (x : ℕ) (name : List ℕ) (v : Option (List ℕ)) → with_equals (x ∷ name) v ≡ x ∷ with_equals name v
with_equals-cons x name None = refl
with_equals-cons x name (Some text) = refl

abbrev is_equals : ℕ → Bool
is_equals y = y == 61

one_more : (k : ℕ) → 1 + k ≡ suc k
one_more k = omega arith

two_more : (k : ℕ) → 1 + k + 1 ≡ suc (k + 1)
two_more k = omega arith

other_byte : (x : ℕ) (xs : List ℕ) → (x == 61) ≡ false → name_and_value (x ∷ xs) ≡ (x ∷ (name_and_value xs).0, (name_and_value xs).1)
other_byte x xs e =
    let k : ℕ = position_or_len is_equals xs in
    let at : position_or_len is_equals (x ∷ xs) ≡ 1 + k = rw e refl in
    let front : before_first is_equals (x ∷ xs) ≡ x ∷ before_first is_equals xs = ap (λ (j : ℕ). take j (x ∷ xs)) (at ∙ one_more k) in
    let back : after_first is_equals (x ∷ xs) ≡ after_first is_equals xs = ap (λ (j : ℕ). drop j (x ∷ xs)) (ap (λ (j : ℕ). j + 1) at ∙ two_more k) in
    let has : has_byte 61 (x ∷ xs) ≡ has_byte 61 xs = rw e refl in
    ap (λ (ys : List ℕ). (ys, if has_byte 61 (x ∷ xs) then Some (after_first is_equals (x ∷ xs)) else None)) front
    ∙ (ap (λ (b : Bool). (x ∷ before_first is_equals xs, if b then Some (after_first is_equals (x ∷ xs)) else None)) has
    ∙ ap (λ (ys : List ℕ). (x ∷ before_first is_equals xs, if has_byte 61 xs then Some ys else None)) back)

equals_byte : (x : ℕ) (xs : List ℕ) → (x == 61) ≡ true → name_and_value (x ∷ xs) ≡ ([], Some xs)
equals_byte x xs e =
    let at : position_or_len is_equals (x ∷ xs) ≡ 0 = rw e refl in
    let front : before_first is_equals (x ∷ xs) ≡ [] = ap (λ (j : ℕ). take j (x ∷ xs)) at in
    let back : after_first is_equals (x ∷ xs) ≡ xs = ap (λ (j : ℕ). drop (j + 1) (x ∷ xs)) at in
    let has : has_byte 61 (x ∷ xs) ≡ true = rw e refl in
    ap (λ (ys : List ℕ). (ys, if has_byte 61 (x ∷ xs) then Some (after_first is_equals (x ∷ xs)) else None)) front
    ∙ (ap (λ (b : Bool). ([], if b then Some (after_first is_equals (x ∷ xs)) else None)) has ∙ ap (λ (ys : List ℕ). ([], Some ys)) back)

parts_again : (xs : List ℕ) → with_equals (name_and_value xs).0 (name_and_value xs).1 ≡ xs
parts_again [] = refl
parts_again (x ∷ xs) = by (x == 61) refl (parts_again xs)
  where
    by : (b : Bool) → (x == 61) ≡ b → with_equals (name_and_value xs).0 (name_and_value xs).1 ≡ xs → with_equals (name_and_value (x ∷ xs)).0 (name_and_value (x ∷ xs)).1 ≡ x ∷ xs
    by true e rest = ap (λ (p : List ℕ × Option (List ℕ)). with_equals p.0 p.1) (equals_byte x xs e) ∙ ap (λ (y : ℕ). y ∷ xs) (sym ((Decides-eqb x 61).0 e))
    by false e rest = ap (λ (p : List ℕ × Option (List ℕ)). with_equals p.0 p.1) (other_byte x xs e) ∙ (with_equals-cons x (name_and_value xs).0 (name_and_value xs).1 ∙ ap (λ (ys : List ℕ). x ∷ ys) rest)

-- a word that is a long option is two hyphens and its parts
hyphen_again : (word rest : List ℕ) → strip_byte 45 word ≡ Some rest → word ≡ 45 ∷ rest
hyphen_again [] rest e = cc
hyphen_again (x ∷ xs) rest e =
    let p = chosen (x == 45) xs rest e in
    ap (λ (y : ℕ). y ∷ xs) ((Decides-eqb x 45).0 p.0) ∙ ap (λ (ys : List ℕ). 45 ∷ ys) p.1
  where
    chosen : (b : Bool) (ys zs : List ℕ) → (if b then Some ys else None) ≡ Some zs → (b ≡ true) × (ys ≡ zs)
    chosen true ys zs h = (refl, cc)
    chosen false ys zs h = cc

rest_again : (rest : List ℕ) (p : List ℕ × Option (List ℕ)) → long_of_rest rest ≡ Some p → rest ≡ with_equals p.0 p.1
rest_again [] p e = cc
rest_again (x ∷ xs) p e =
    let is : name_and_value (x ∷ xs) ≡ p = cc in
    sym (parts_again (x ∷ xs)) ∙ ap (λ (q : List ℕ × Option (List ℕ)). with_equals q.0 q.1) is

long_again : (word : List ℕ) (p : List ℕ × Option (List ℕ)) → long_of word ≡ Some p → word ≡ 45 ∷ 45 ∷ with_equals p.0 p.1
long_again word p e =
    let all = some_of long_of_rest _ p e in
    let one = some_of (strip_byte 45) (strip_byte 45 word) all.0 all.1 in
    hyphen_again word one.0 one.1 ∙ ap (λ (ys : List ℕ). 45 ∷ ys) (hyphen_again one.0 all.0 one.2 ∙ ap (λ (ys : List ℕ). 45 ∷ ys) (rest_again all.0 p all.2))

-- what is read from words is spelled by them
abbrev Read_from : Option Setting → Given → List (List ℕ) → Given → Type 0
Read_from None before words after = (cs : List Choice) × (words ≡ flat_map choice_words cs) × Gives before cs after
Read_from (Some s) before words after = (n : ℕ) × (cs : List Choice) × (words ≡ decimal n ∷ flat_map choice_words cs) × (n < 2 ^ 32) × Gives (with_number before s n) cs after

joined_choice : (s : Setting) (before after : Given) (word text : List ℕ) (n : ℕ) (words : List (List ℕ)) → word ≡ 45 ∷ 45 ∷ with_equals (name_of s) (Some text) → option_number text ≡ Some n → given_at before s ≡ None
    → Read_from None (with_number before s n) words after → Read_from None before (word ∷ words) after
joined_choice s before after word text n words is read free rest =
    let number = number_read text n read in (
      record { setting = s; number = n; in_one = true } ∷ rest.0,
      ap (λ (w : List ℕ). w ∷ words) (is ∙ ap (λ (t : List ℕ). 45 ∷ 45 ∷ name_of s ++ 61 ∷ t) number.0) ∙ ap (λ (ws : List (List ℕ)). (45 ∷ 45 ∷ name_of s ++ 61 ∷ decimal n) ∷ ws) rest.1,
      (free, number.1, rest.2),
    )

parted_choice : (s : Setting) (before after : Given) (word : List ℕ) (words : List (List ℕ)) → word ≡ 45 ∷ 45 ∷ name_of s → given_at before s ≡ None
    → Read_from (Some s) before words after → Read_from None before (word ∷ words) after
parted_choice s before after word words is free rest = (
  record { setting = s; number = rest.0; in_one = false } ∷ rest.1,
  ap (λ (w : List ℕ). w ∷ words) is ∙ ap (λ (ws : List (List ℕ)). (45 ∷ 45 ∷ name_of s) ∷ ws) rest.2,
  (free, rest.3, rest.4),
)

-- an option's name and its text are read, and so are the words behind it
named_back : (word : List ℕ) (words : List (List ℕ)) (before after : Given) (s : Setting) (v : Option (List ℕ)) (next : Read) → word ≡ 45 ∷ 45 ∷ with_equals (name_of s) v
    → with_name (record { given = before; waiting = None }) v s ≡ Some next → given_by next words ≡ Some after
    → ((g : Given) (waiting : Option Setting) → given_by (record { given = g; waiting = waiting }) words ≡ Some after → Read_from waiting g words after) → Read_from None before (word ∷ words) after
named_back word words before after s (Some text) next is e rest back =
    let new = if_new (given_at before s) _ next e in
    let n = some_map _ (option_number text) next new.1 in
    joined_choice s before after word text n.0 words is n.1 new.0 (back (with_number before s n.0) None (subst (λ (r : Read). given_by r words ≡ Some after) (sym n.2) rest))
named_back word words before after s None next is e rest back =
    let new = if_new (given_at before s) _ next e in
    let same : record { given = before; waiting = Some s } ≡ next = cc in
    parted_choice s before after word words is new.0 (back before (Some s) (subst (λ (r : Read). given_by r words ≡ Some after) (sym same) rest))

read_back : (words : List (List ℕ)) (before : Given) (waiting : Option Setting) (after : Given) → given_by (record { given = before; waiting = waiting }) words ≡ Some after → Read_from waiting before words after
read_back [] before None after e = let is : before ≡ after = cc in ([], refl, is)
read_back [] before (Some s) after e = cc
read_back (word ∷ words) before (Some s) after e =
    let next = some_of _ (with_word (record { given = before; waiting = Some s }) word) after e in
    let n = some_map _ (option_number word) next.0 next.1 in
    let number = number_read word n.0 n.1 in
    let rest = read_back words (with_number before s n.0) None after (subst (λ (r : Read). given_by r words ≡ Some after) (sym n.2) next.2) in
    (n.0, rest.0, ap (λ (w : List ℕ). w ∷ words) number.0 ∙ ap (λ (ws : List (List ℕ)). decimal n.0 ∷ ws) rest.1, number.1, rest.2)
read_back (word ∷ words) before None after e =
    let next = some_of _ (with_word (record { given = before; waiting = None }) word) after e in
    let p = some_of _ (long_of word) next.0 next.1 in
    let s = some_of _ (setting_named p.0.0) next.0 p.2 in
    let name : long_of word ≡ Some (name_of s.0, p.0.1) = p.1 ∙ ap (λ (x : List ℕ). Some (x, p.0.1)) (named_is p.0.0 s.0 s.1) in
    named_back word words before after s.0 p.0.1 next.0 (long_again word (name_of s.0, p.0.1) name) s.2 next.2 (λ g waiting h. read_back words g waiting after h)

-- and what is spelled is read
named_again : (s : Setting) → setting_named (name_of s) ≡ Some s
named_again Domains = refl
named_again Minor = refl
named_again Pools = refl

long_parted : (s : Setting) → long_of (45 ∷ 45 ∷ name_of s) ≡ Some (name_of s, None)
long_parted Domains = refl
long_parted Minor = refl
long_parted Pools = refl

long_joined : (s : Setting) (text : List ℕ) → long_of (45 ∷ 45 ∷ name_of s ++ 61 ∷ text) ≡ Some (name_of s, Some text)
long_joined Domains text = refl
long_joined Minor text = refl
long_joined Pools text = refl

word_joined : (s : Setting) (before : Given) (n : ℕ) → given_at before s ≡ None → n < 2 ^ 32
    → with_word (record { given = before; waiting = None }) (45 ∷ 45 ∷ name_of s ++ 61 ∷ decimal n) ≡ Some (record { given = with_number before s n; waiting = None })
word_joined s before n free small =
    ap (option_and_then (with_option (record { given = before; waiting = None }))) (long_joined s (decimal n))
    ∙ (ap (option_and_then (with_name (record { given = before; waiting = None }) (Some (decimal n)))) (named_again s)
    ∙ (ap (λ (o : Option ℕ). if is_some o then None else with_text (record { given = before; waiting = None }) s (decimal n)) free
    ∙ ap (option_map (λ (k : ℕ). record { given = with_number before s k; waiting = None })) (number_again n small)))

word_parted : (s : Setting) (before : Given) → given_at before s ≡ None
    → with_word (record { given = before; waiting = None }) (45 ∷ 45 ∷ name_of s) ≡ Some (record { given = before; waiting = Some s })
word_parted s before free =
    ap (option_and_then (with_option (record { given = before; waiting = None }))) (long_parted s)
    ∙ (ap (option_and_then (with_name (record { given = before; waiting = None }) None)) (named_again s)
    ∙ ap (λ (o : Option ℕ). if is_some o then None else Some (record { given = before; waiting = Some s })) free)

number_taken : (s : Setting) (before : Given) (n : ℕ) → n < 2 ^ 32 → with_word (record { given = before; waiting = Some s }) (decimal n) ≡ Some (record { given = with_number before s n; waiting = None })
number_taken s before n small = ap (option_map (λ (k : ℕ). record { given = with_number before s k; waiting = None })) (number_again n small)

choice_again : (c : Choice) (before : Given) (after : Option Given) (rest : List (List ℕ)) (in_one : Bool) → given_at before c.setting ≡ None → c.number < 2 ^ 32
    → given_by (record { given = with_number before c.setting c.number; waiting = None }) rest ≡ after
    → given_by (record { given = before; waiting = None }) ((if in_one then (45 ∷ 45 ∷ name_of c.setting ++ 61 ∷ decimal c.number) ∷ [] else (45 ∷ 45 ∷ name_of c.setting) ∷ decimal c.number ∷ []) ++ rest) ≡ after
choice_again c before after rest true free small e = ap (option_and_then (λ (r : Read). given_by r rest)) (word_joined c.setting before c.number free small) ∙ e
choice_again c before after rest false free small e =
    ap (option_and_then (λ (r : Read). given_by r (decimal c.number ∷ rest))) (word_parted c.setting before free)
    ∙ (ap (option_and_then (λ (r : Read). given_by r rest)) (number_taken c.setting before c.number small) ∙ e)

read_again : (cs : List Choice) (before after : Given) → Gives before cs after → given_by (record { given = before; waiting = None }) (flat_map choice_words cs) ≡ Some after
read_again [] before after g = ap Some g
read_again (c ∷ cs) before after g = choice_again c before (Some after) (flat_map choice_words cs) c.in_one g.0 g.1 (read_again cs _ after g.2)

given_spelled : (command : List ℕ) (words : List (List ℕ)) (given : Given) → given_after command words ≡ Some given → SpellsOptions command words given
given_spelled command [] given e = cc
given_spelled command (word ∷ words) given e =
    let p = chosen (bytes_eq word command) (given_by nothing_read words) given e in
    let r = read_back words _ None given p.1 in
    record {
      choices = r.0;
      words_are = ap (λ (w : List ℕ). w ∷ words) ((bytes_eq-Decides word command).0 p.0) ∙ ap (λ (ws : List (List ℕ)). command ∷ ws) r.1;
      gives = r.2;
    }

spelled_given : (command : List ℕ) (words : List (List ℕ)) (given : Given) → SpellsOptions command words given → given_after command words ≡ Some given
spelled_given command words given s =
    let same : bytes_eq command command ≡ true = (bytes_eq-Decides command command).1 refl in
    ap (given_after command) s.words_are ∙ (ap (λ (b : Bool). if b then given_by nothing_read (flat_map choice_words s.choices) else None) same ∙ read_again s.choices _ given s.gives)

-- ---- a command with options

sizes_spelled : (command : List ℕ) (domains : ℕ) (test : Sizes → Bool) (Fits : Sizes → Type 0) (words : List (List ℕ)) (z : Sizes) → ((y : Sizes) → test y ≡ true → Fits y)
    → sizes_after command domains test words ≡ Some z → AsksForSizes command domains Fits words z
sizes_spelled command domains test Fits words z exact e =
    let g = gives_sizes command domains test words z e in
    record { given = g.given; spells = given_spelled command words g.given g.reads; sizes = g.sizes; limits = exact z g.passes }

spelled_sizes : (command : List ℕ) (domains : ℕ) (test : Sizes → Bool) (Fits : Sizes → Type 0) (words : List (List ℕ)) (z : Sizes) → ((y : Sizes) → Fits y → test y ≡ true)
    → AsksForSizes command domains Fits words z → sizes_after command domains test words ≡ Some z
spelled_sizes command domains test Fits words z exact a =
    let passes : test (sizes_or domains a.given) ≡ true = subst (λ (y : Sizes). test y ≡ true) a.sizes (exact z a.limits) in
    ap (option_and_then (λ (g : Given). if_sizes test (sizes_or domains g))) (spelled_given command words a.given a.spells)
    ∙ (ap (λ (b : Bool). if b then Some (sizes_or domains a.given) else None) passes ∙ ap Some (sym a.sizes))

-- the words of a replay ask for no run
replay_first : (words : List (List ℕ)) (z : Sizes) → AsksForSizes (codes "replay") 2 AreReplaySizes words z → asked_job words ≡ Some (Replay z)
unfolding asked_job
replay_first words z a =
    let rest : List (List ℕ) = flat_map choice_words a.spells.choices in
    let sizes : replay_sizes (codes "replay" ∷ rest) ≡ Some z = ap replay_sizes (sym a.spells.words_are) ∙ spelled_sizes (codes "replay") 2 is_replay AreReplaySizes words z passes_replay a in
    ap asked_job a.spells.words_are
    ∙ ap (λ (o : Option Sizes). option_or (option_map Replay o) (option_or (option_map Table (table_sizes (codes "replay" ∷ rest))) (option_or (option_map Gen (generated_after (codes "gen") (codes "replay" ∷ rest))) (option_map Load (generated_after (codes "load") (codes "replay" ∷ rest)))))) sizes

-- the words of a table ask for no run
table_first : (words : List (List ℕ)) (z : Sizes) → AsksForSizes (codes "table") 1 AreTableSizes words z → asked_job words ≡ Some (Table z)
unfolding asked_job
table_first words z a =
    let rest : List (List ℕ) = flat_map choice_words a.spells.choices in
    let sizes : table_sizes (codes "table" ∷ rest) ≡ Some z = ap table_sizes (sym a.spells.words_are) ∙ spelled_sizes (codes "table") 1 is_table AreTableSizes words z passes_table a in
    ap asked_job a.spells.words_are
    ∙ ap (λ (o : Option Sizes). option_or (option_map Table o) (option_or (option_map Gen (generated_after (codes "gen") (codes "table" ∷ rest))) (option_map Load (generated_after (codes "load") (codes "table" ∷ rest))))) sizes

-- ---- a script

script_spelled : (command : List ℕ) (words : List (List ℕ)) (g : Generated) → generated_after command words ≡ Some g → AsksForScript command words g
script_spelled command words g e =
    let h = numbers_of command words g e in
    let base = (number_read h.base g.base h.base_is).0 in
    let domains = (number_read h.domains g.domains h.domains_are).0 in
    let commands = (number_read h.commands g.commands h.commands_are).0 in
    record {
      words_are = h.words_are ∙ ap (λ (t : List ℕ). command ∷ t ∷ h.domains ∷ h.commands ∷ []) base
          ∙ ap (λ (t : List ℕ). command ∷ decimal g.base ∷ t ∷ h.commands ∷ []) domains ∙ ap (λ (t : List ℕ). command ∷ decimal g.base ∷ decimal g.domains ∷ t ∷ []) commands;
      limits = generable g h.test;
    }

-- the commands of one domain are no more than those of all
one_domain : (g : Generated) → IsGenerable g → g.commands ≤ 200000
one_domain g is =
    let each : 1 * g.commands ≤ g.domains * g.commands = mul-le-mul_right g.commands is.some in
    let all : g.domains * g.commands ≤ 200000 = is.commands in
    omega arith

script_again : (g : Generated) → IsGenerable g → option_and_then if_generable (script_if (option_number (decimal g.base)) (option_number (decimal g.domains)) (option_number (decimal g.commands))) ≡ Some g
script_again g is =
    let base = number_again g.base (omega (arith, is.base)) in
    let domains = number_again g.domains (omega (arith, is.domains)) in
    let commands = number_again g.commands (omega (arith, one_domain g is)) in
    ap (λ (o : Option ℕ). option_and_then if_generable (script_if o (option_number (decimal g.domains)) (option_number (decimal g.commands)))) base
    ∙ (ap (λ (o : Option ℕ). option_and_then if_generable (script_if (Some g.base) o (option_number (decimal g.commands)))) domains
    ∙ (ap (λ (o : Option ℕ). option_and_then if_generable (script_if (Some g.base) (Some g.domains) o)) commands
    ∙ ap (λ (b : Bool). if b then Some g else None) (passes_test g is)))

-- ---- each command

read_spelled : (words : List (List ℕ)) (j : Job) → Reads words j → AsksFor words j
read_spelled words (Run z) e = sizes_spelled (codes "run") 2 is_run (λ y. first_outside y ≡ None) words z runnable e
read_spelled words (Replay z) e = sizes_spelled (codes "replay") 2 is_replay AreReplaySizes words z replayable e
read_spelled words (Table z) e = sizes_spelled (codes "table") 1 is_table AreTableSizes words z tabular e
read_spelled words (Gen g) e = script_spelled (codes "gen") words g e
read_spelled words (Load g) e = script_spelled (codes "load") words g e

-- what words ask for, as they are spelled
pub asked : (words : List (List ℕ)) (j : Job) → asked_job words ≡ Some j → AsksFor words j
asked words j e = read_spelled words j (asked_reads words j e)

pub answered : (words : List (List ℕ)) (j : Job) → AsksFor words j → asked_job words ≡ Some j
unfolding asked_job
answered words (Run z) a = ap (λ (o : Option Sizes). option_or (option_map Run o) (option_or (option_map Replay (replay_sizes words)) (option_or (option_map Table (table_sizes words)) (option_or (option_map Gen (generated_after (codes "gen") words)) (option_map Load (generated_after (codes "load") words))))))
    (spelled_sizes (codes "run") 2 is_run (λ y. first_outside y ≡ None) words z passes_run a)
answered words (Replay z) a = replay_first words z a
answered words (Table z) a = table_first words z a
answered words (Gen g) a = ap asked_job a.words_are ∙ ap (λ (o : Option Generated). option_or (option_map Gen o) None) (script_again g a.limits)
answered words (Load g) a = ap asked_job a.words_are ∙ ap (option_map Load) (script_again g a.limits)
