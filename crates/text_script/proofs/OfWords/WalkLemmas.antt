-- A parse of words that are taken finds the numbers that they give.
use Rattle.std.proofs.Common.{◌≡◌, ◌∙◌, ℕ, Bool, true, false, List, [], ◌∷◌, ◌++◌, Option, Some, None, append-nil, refl, sym, ap, subst}
use Rattle.std.specs.Char.{is_ascii_digit}
use Rattle.std.proofs.lemmas.Bool.{and_parts}
use Rattle.std.proofs.lemmas.Bool.Decides.{Decides-eqb}
use Rattle.std.specs.Prelude.{◌==◌, not, option_and_then, option_map, is_some, bytes_eq, fold, if◌then◌else◌}
use Rattle.clap.specs.Lexer.{long_of, strip_byte}
use Rattle.clap.specs.Walk.{Row, Rule, Text, Walk, Waiting, idle, option, first_of, has_row, settled_rows, walked, walk_from, nothing_held, arg_by_id, used_by_id, with_default, default_rows, reading_by, with_values, without, more_values, rows_after}
use Rattle.clap.specs.Simple.{Shape, built_leaf, inherited}
use Rattle.clap.specs.declared.builder.value_parser.Reading.{Reading}
use Rattle.clap.specs.declared.builder.value_parser.Reading.TheVariants.{AsWritten}
use Rattle.clap.specs.declared.parser.matches.ValueSource.{ValueSource}
use Rattle.clap.specs.declared.parser.matches.ValueSource.TheVariants.{CommandLine}
use Rattle.text_script.specs.declared.words.options.Setting.{Setting}
use Rattle.text_script.specs.declared.words.options.Setting.TheVariants.{Domains, Minor, Pools}
use Rattle.text_script.specs.declared.words.options.Given.{Given}
use Rattle.text_script.specs.declared.words.options.Read.{Read}
use Rattle.text_script.specs.Words.Numbers.{option_number}
use Rattle.text_script.specs.Words.Options.{given_at, with_number, with_name, with_word, setting_named, given_by, nothing_read}
use Rattle.text_script.specs.Words.Commands.{options_app, camlheap_app}
use Rattle.text_script.specs.Words.Spelled.{name_of}
use Rattle.std.proofs.lemmas.Slice.Eq.{bytes_eq-Decides}
use Rattle.text_script.specs.Decimals.Natural.{is_natural}
use Rattle.text_script.proofs.OfDecimals.NaturalLemmas.{natural_is}
use Rattle.text_script.proofs.OfWords.NumberLemmas.{natural_of_number}
use Rattle.text_script.proofs.OfWords.RowLemmas.{at_row-missing, first_of-missing, first_of-added, first_of-other, has_row-other}

-- a command below the program's, as a parse has it
abbrev pub built_below : Shape → Shape
built_below s = built_leaf (inherited camlheap_app.top s)

-- a command with the options of `run`, as a parse has it
abbrev pub built_options : Text → Shape
built_options name = built_below (options_app name).top

-- the options as a parse has them
abbrev pub run_rules : List Rule
run_rules = (built_options []).rules

-- the option as a parse has it
abbrev pub rule_for : Setting → Option Rule
rule_for s = arg_by_id run_rules (name_of s)

-- what is read of an option
abbrev pub read_of : Setting → List Row → Option ℕ
read_of s rows = option_and_then option_number (first_of (name_of s) rows)

-- an option without a number has no row, and one with a number has it in its row
abbrev pub Shows : Option ℕ → Setting → List Row → Type 0
Shows None s rows = has_row (name_of s) rows ≡ false
Shows (Some n) s rows = read_of s rows ≡ Some n

abbrev pub AllShow : Given → List Row → Type 0
AllShow g rows = (s : Setting) → Shows (given_at g s) s rows

shows-read : (o : Option ℕ) (s : Setting) (rows : List Row) → Shows o s rows → read_of s rows ≡ o
shows-read None s rows h = ap (option_and_then option_number) (first_of-missing (name_of s) rows h)
shows-read (Some n) s rows h = h

-- a use of an option whose row isn't there adds its row at the end
with_values-new : (id : Text) (how : Reading) (source : ValueSource) (vs : List Text) (rows : List Row) → has_row id rows ≡ false
    → with_values id how source vs (without id rows) ≡ rows ++ record { id = id; values = vs; count = None; source = Some source; reading = how } ∷ []
with_values-new id how source vs rows h =
    let gone : without id rows ≡ rows = at_row-missing id (λ _. []) [] rows h ∙ append-nil rows in
    ap (with_values id how source vs) gone ∙ at_row-missing id (more_values source vs) _ rows h

-- the row of an option with one value
abbrev pub row_for : Setting → Text → Row
row_for s v = record { id = name_of s; values = v ∷ []; count = None; source = Some CommandLine; reading = AsWritten }

pub use_adds : (s : Setting) (v : Text) (rows : List Row) → has_row (name_of s) rows ≡ false → used_by_id (rule_for s) (v ∷ []) rows ≡ rows ++ row_for s v ∷ []
use_adds Domains v rows h = with_values-new _ _ _ _ rows h
use_adds Minor v rows h = with_values-new _ _ _ _ rows h
use_adds Pools v rows h = with_values-new _ _ _ _ rows h

shows-own : (s : Setting) (v : Text) (n : ℕ) (rows : List Row) → has_row (name_of s) rows ≡ false → option_number v ≡ Some n → read_of s (rows ++ row_for s v ∷ []) ≡ Some n
shows-own Domains v n rows h e = ap (option_and_then option_number) (first_of-added (name_of Domains) rows _ h) ∙ e
shows-own Minor v n rows h e = ap (option_and_then option_number) (first_of-added (name_of Minor) rows _ h) ∙ e
shows-own Pools v n rows h e = ap (option_and_then option_number) (first_of-added (name_of Pools) rows _ h) ∙ e

shows-other : (o : Option ℕ) (t : Setting) (rows : List Row) (row : Row) → bytes_eq row.id (name_of t) ≡ false → Shows o t rows → Shows o t (rows ++ row ∷ [])
shows-other None t rows row other h = has_row-other (name_of t) rows row other ∙ h
shows-other (Some n) t rows row other h = ap (option_and_then option_number) (first_of-other (name_of t) rows row other) ∙ h

-- the numbers with one more, and the rows with its row
pub shows-more : (g : Given) (s : Setting) (v : Text) (n : ℕ) (rows : List Row) → AllShow g rows → has_row (name_of s) rows ≡ false → option_number v ≡ Some n
    → AllShow (with_number g s n) (rows ++ row_for s v ∷ [])
shows-more g Domains v n rows all gone e Domains = shows-own Domains v n rows gone e
shows-more g Domains v n rows all gone e Minor = shows-other _ Minor rows _ refl (all Minor)
shows-more g Domains v n rows all gone e Pools = shows-other _ Pools rows _ refl (all Pools)
shows-more g Minor v n rows all gone e Domains = shows-other _ Domains rows _ refl (all Domains)
shows-more g Minor v n rows all gone e Minor = shows-own Minor v n rows gone e
shows-more g Minor v n rows all gone e Pools = shows-other _ Pools rows _ refl (all Pools)
shows-more g Pools v n rows all gone e Domains = shows-other _ Domains rows _ refl (all Domains)
shows-more g Pools v n rows all gone e Minor = shows-other _ Minor rows _ refl (all Minor)
shows-more g Pools v n rows all gone e Pools = shows-own Pools v n rows gone e

pub not_true : (b : Bool) → (b ≡ true → ⊥) → b ≡ false
not_true true no_way = absurd (no_way refl)
not_true false no_way = refl

-- where the walk stands between two words
abbrev pub walk_at : Option (Text × List Text) → List Row → ℕ → Waiting → ℕ → Walk
walk_at pending rows skip waiting position = record {
  held = record { rows = rows; pending = pending; skip = skip };
  waiting = waiting;
  position = position;
  is_trailing = false;
  stopped = None;
}

-- a long option is not two hyphens alone
pub not_hyphens : (word : Text) (p : Text × Option Text) → long_of word ≡ Some p → bytes_eq word (45 ∷ 45 ∷ []) ≡ false
not_hyphens word p e = not_true (bytes_eq word (45 ∷ 45 ∷ [])) (λ same. let is : word ≡ 45 ∷ 45 ∷ [] = (bytes_eq-Decides word _).0 same in let none : long_of word ≡ None = ap long_of is in cc)

-- the name of an option that is named
named-if : (a b c : Bool) (name : Text) (s : Setting) → (a ≡ true → name ≡ name_of Domains) → (b ≡ true → name ≡ name_of Minor) → (c ≡ true → name ≡ name_of Pools)
    → (if a then Some Domains else (if b then Some Minor else (if c then Some Pools else None))) ≡ Some s → name ≡ name_of s
named-if true b c name s p q r e = let is : Domains ≡ s = cc in subst (λ x. name ≡ name_of x) is (p refl)
named-if false true c name s p q r e = let is : Minor ≡ s = cc in subst (λ x. name ≡ name_of x) is (q refl)
named-if false false true name s p q r e = let is : Pools ≡ s = cc in subst (λ x. name ≡ name_of x) is (r refl)
named-if false false false name s p q r e = cc

pub named_is : (name : Text) (s : Setting) → setting_named name ≡ Some s → name ≡ name_of s
named_is name s e = named-if _ _ _ name s ((bytes_eq-Decides name _).0) ((bytes_eq-Decides name _).0) ((bytes_eq-Decides name _).0) e

pub step_joined : (s : Setting) (word text : Text) (pending : Option (Text × List Text)) (rows : List Row) (skip position : ℕ) → long_of word ≡ Some (name_of s, Some text)
    → walked run_rules [] (walk_at pending rows skip idle position) word ≡ walk_at None (used_by_id (rule_for s) (text ∷ []) (settled_rows run_rules pending rows)) skip idle position
unfolding walked
step_joined Domains word text pending rows skip position e = rw (not_hyphens word _ e, e) refl
step_joined Minor word text pending rows skip position e = rw (not_hyphens word _ e, e) refl
step_joined Pools word text pending rows skip position e = rw (not_hyphens word _ e, e) refl

pub step_named : (s : Setting) (word : Text) (pending : Option (Text × List Text)) (rows : List Row) (skip position : ℕ) → long_of word ≡ Some (name_of s, None)
    → walked run_rules [] (walk_at pending rows skip idle position) word ≡ walk_at (Some (name_of s, [])) (settled_rows run_rules pending rows) skip (option (name_of s)) position
unfolding walked
step_named Domains word pending rows skip position e = rw (not_hyphens word _ e, e) refl
step_named Minor word pending rows skip position e = rw (not_hyphens word _ e, e) refl
step_named Pools word pending rows skip position e = rw (not_hyphens word _ e, e) refl

first_digit : (x : ℕ) (xs : Text) → is_natural (x ∷ xs) ≡ true → is_ascii_digit x ≡ true
first_digit x [] d = d
first_digit x (y ∷ ys) d = (and_parts (is_ascii_digit x) _ (and_parts (not (x == 48)) _ d).1).0

no_hyphen : (word : Text) → is_natural word ≡ true → strip_byte 45 word ≡ None
no_hyphen [] d = refl
no_hyphen (x ∷ xs) d =
    let other : (x == 45) ≡ false = not_true (x == 45) (λ same. let is : x ≡ 45 = (Decides-eqb x 45).0 same in let digit : is_ascii_digit 45 ≡ true = ap is_ascii_digit (sym is) ∙ first_digit x xs d in cc) in
    rw other refl

-- a number does not begin with a hyphen
pub number_plain : (word : Text) (n : ℕ) → option_number word ≡ Some n → strip_byte 45 word ≡ None
number_plain word n e = no_hyphen word (natural_is word n (natural_of_number word n e).0)

-- what begins with no hyphen is not two hyphens
pub one_word : (word : Text) → strip_byte 45 word ≡ None → bytes_eq word (45 ∷ 45 ∷ []) ≡ false
one_word word plain = not_true _ (λ same. let is : word ≡ 45 ∷ 45 ∷ [] = (bytes_eq-Decides word _).0 same in let one = ap (strip_byte 45) (sym is) ∙ plain in cc)

value-step : (s : Setting) (word : Text) (rows : List Row) (skip position : ℕ) → strip_byte 45 word ≡ None → bytes_eq word (45 ∷ 45 ∷ []) ≡ false
    → walked run_rules [] (walk_at (Some (name_of s, [])) rows skip (option (name_of s)) position) word ≡ walk_at (Some (name_of s, word ∷ [])) rows skip idle position
unfolding walked
value-step Domains word rows skip position plain other = rw (other, plain, plain) refl
value-step Minor word rows skip position plain other = rw (other, plain, plain) refl
value-step Pools word rows skip position plain other = rw (other, plain, plain) refl

pub step_value : (s : Setting) (word : Text) (n : ℕ) (rows : List Row) (skip position : ℕ) → option_number word ≡ Some n
    → walked run_rules [] (walk_at (Some (name_of s, [])) rows skip (option (name_of s)) position) word ≡ walk_at (Some (name_of s, word ∷ [])) rows skip idle position
step_value s word n rows skip position e =
    let plain = number_plain word n e in
    value-step s word rows skip position plain (one_word word plain)

-- the walk follows what was read: each number given is shown by the rows, once the pending option is used
abbrev pub Follows : Given → Option Setting → Walk → Type 0
Follows g None w = (pending : Option (Text × List Text)) × (rows : List Row) × (skip : ℕ) × (position : ℕ)
    × (w ≡ walk_at pending rows skip idle position) × AllShow g (settled_rows run_rules pending rows)
Follows g (Some s) w = (rows : List Row) × (skip : ℕ) × (position : ℕ)
    × (w ≡ walk_at (Some (name_of s, [])) rows skip (option (name_of s)) position) × AllShow g rows × (given_at g s ≡ None)

pub some_of : {A B : Type 0} (f : A → Option B) (o : Option A) (y : B) → option_and_then f o ≡ Some y → (x : A) × (o ≡ Some x) × (f x ≡ Some y)
some_of f None y e = cc
some_of f (Some x) y e = (x, refl, e)

pub some_map : {A B : Type 0} (f : A → B) (o : Option A) (y : B) → option_map f o ≡ Some y → (x : A) × (o ≡ Some x) × (f x ≡ y)
some_map f None y e = cc
some_map f (Some x) y e = let is : f x ≡ y = cc in (x, refl, is)

pub if_new : {A : Type 0} (o : Option ℕ) (x : Option A) (y : A) → (if is_some o then None else x) ≡ Some y → (o ≡ None) × (x ≡ Some y)
if_new None x y e = (refl, e)
if_new (Some n) x y e = cc

-- the row of an option without a number isn't there
pub gone : (g : Given) (s : Setting) (rows : List Row) → AllShow g rows → given_at g s ≡ None → has_row (name_of s) rows ≡ false
gone g s rows all e = subst (λ o. Shows o s rows) e (all s)

follows_name : (g : Given) (s : Setting) (v : Option Text) (next : Read) (w : Walk) (word : Text) → Follows g None w → long_of word ≡ Some (name_of s, v)
    → with_name (record { given = g; waiting = None }) v s ≡ Some next → Follows next.given next.waiting (walked run_rules [] w word)
follows_name g s (Some text) next w word f long e =
    let new = if_new (given_at g s) _ next e in
    let n = some_map _ (option_number text) next new.1 in
    let rows = settled_rows run_rules f.0 f.1 in
    let walk : walked run_rules [] w word ≡ walk_at None (used_by_id (rule_for s) (text ∷ []) rows) f.2 idle f.3 = ap (λ (x : Walk). walked run_rules [] x word) f.4 ∙ step_joined s word text f.0 f.1 f.2 f.3 long in
    let away = gone g s rows f.5 new.0 in
    let shows = subst (λ (xs : List Row). AllShow (with_number g s n.0) xs) (sym (use_adds s text rows away)) (shows-more g s text n.0 rows f.5 away n.1) in
    subst (λ (r : Read). Follows r.given r.waiting (walked run_rules [] w word)) n.2 (_, _, _, _, walk, shows)
follows_name g s None next w word f long e =
    let new = if_new (given_at g s) _ next e in
    let rows = settled_rows run_rules f.0 f.1 in
    let walk : walked run_rules [] w word ≡ walk_at (Some (name_of s, [])) rows f.2 (option (name_of s)) f.3 = ap (λ (x : Walk). walked run_rules [] x word) f.4 ∙ step_named s word f.0 f.1 f.2 f.3 long in
    let is : record { given = g; waiting = Some s } ≡ next = cc in
    subst (λ (r : Read). Follows r.given r.waiting (walked run_rules [] w word)) is (_, _, _, walk, f.5, new.0)

pub follows_word : (g : Given) (waiting : Option Setting) (next : Read) (w : Walk) (word : Text) → Follows g waiting w → with_word (record { given = g; waiting = waiting }) word ≡ Some next
    → Follows next.given next.waiting (walked run_rules [] w word)
follows_word g (Some s) next w word f e =
    let n = some_map _ (option_number word) next e in
    let walk : walked run_rules [] w word ≡ walk_at (Some (name_of s, word ∷ [])) f.0 f.1 idle f.2 = ap (λ (x : Walk). walked run_rules [] x word) f.3 ∙ step_value s word n.0 f.0 f.1 f.2 n.1 in
    let away = gone g s f.0 f.4 f.5 in
    let shows = subst (λ (rows : List Row). AllShow (with_number g s n.0) rows) (sym (use_adds s word f.0 away)) (shows-more g s word n.0 f.0 f.4 away n.1) in
    subst (λ (r : Read). Follows r.given r.waiting (walked run_rules [] w word)) n.2 (_, _, _, _, walk, shows)
follows_word g None next w word f e =
    let p = some_of _ (long_of word) next e in
    let s = some_of _ (setting_named p.0.0) next p.2 in
    let name : long_of word ≡ Some (name_of s.0, p.0.1) = p.1 ∙ ap (λ (x : Text). Some (x, p.0.1)) (named_is p.0.0 s.0 s.1) in
    follows_name g s.0 p.0.1 next w word f name s.2

follows_words : (words : List Text) (g : Given) (waiting : Option Setting) (w : Walk) (end : Given) → Follows g waiting w → given_by (record { given = g; waiting = waiting }) words ≡ Some end
    → Follows end None (fold (walked run_rules []) w words)
follows_words [] g None w end f e = let is : g ≡ end = cc in subst (λ (x : Given). Follows x None w) is f
follows_words [] g (Some s) w end f e = cc
follows_words (word ∷ words) g waiting w end f e =
    let next = some_of _ (with_word (record { given = g; waiting = waiting }) word) end e in
    follows_words words next.0.given next.0.waiting (walked run_rules [] w word) end (follows_word g waiting next.0 w word f next.1) next.2

pub none_shown : (s : Setting) → Shows (given_at (record { domains = None; minor = None; pools = None }) s) s []
none_shown Domains = refl
none_shown Minor = refl
none_shown Pools = refl

-- no option has a default
abbrev NoDefaults : List Rule → Type 0
NoDefaults [] = Unit {0}
NoDefaults (a ∷ rest) = (a.defaults ≡ []) × NoDefaults rest

default-none : (here : Bool) (a : Rule) (rows : List Row) (values : List Text) → values ≡ [] → (if here then rows else default_rows a.id (reading_by a) values rows) ≡ rows
default-none true a rows values e = refl
default-none false a rows values e = ap (λ (vs : List Text). default_rows a.id (reading_by a) vs rows) e

defaults-none : (list : List Rule) (rows : List Row) → NoDefaults list → fold with_default rows list ≡ rows
defaults-none [] rows none = refl
defaults-none (a ∷ rest) rows none = ap (λ (xs : List Row). fold with_default xs rest) (default-none (has_row a.id rows) a rows a.defaults none.0) ∙ defaults-none rest rows none.1

-- a parse of words that are taken finds the numbers that they give
pub finds : (words : List Text) (g : Given) → given_by nothing_read words ≡ Some g → (s : Setting) → read_of s (rows_after run_rules [] words) ≡ given_at g s
finds words g e s =
    let opening : AllShow (record { domains = None; minor = None; pools = None }) [] = λ t. none_shown t in
    let f = follows_words words _ None (walk_from nothing_held) g (None, [], 0, 1, refl, opening) e in
    let rows : rows_after run_rules [] words ≡ settled_rows run_rules f.0 f.1 =
    ap (λ (w : Walk). fold with_default (settled_rows run_rules w.held.pending w.held.rows) run_rules) f.4 ∙ defaults-none run_rules _ (refl, (refl, (refl, tt))) in
    ap (read_of s) rows ∙ shows-read (given_at g s) s _ (f.5 s)
