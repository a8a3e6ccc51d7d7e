-- A parse of words that are taken fails for want of memory alone.
use Rattle.std.proofs.Common.{◌≡◌, ◌∙◌, ℕ, Bool, true, false, List, [], ◌∷◌, Option, Some, None, refl, sym, ap, subst}
use Rattle.std.specs.Prelude.{◌&&◌, bytes_eq, fold}
use Rattle.clap.specs.Lexer.{long_of, strip_byte}
use Rattle.clap.specs.Takes.{settle_passes, turn_passes, walk_passes, level_passes}
use Rattle.clap.specs.Walk.{Row, Text, Walk, idle, option, has_row, settled_rows, walked, walk_from, nothing_held}
use Rattle.text_script.specs.declared.words.options.Setting.{Setting}
use Rattle.text_script.specs.declared.words.options.Setting.TheVariants.{Domains, Minor, Pools}
use Rattle.text_script.specs.declared.words.options.Given.{Given}
use Rattle.text_script.specs.declared.words.options.Read.{Read}
use Rattle.text_script.specs.Words.Numbers.{option_number}
use Rattle.text_script.specs.Words.Options.{given_at, with_word, with_name, setting_named, given_by, nothing_read}
use Rattle.text_script.specs.Words.Spelled.{name_of}
use Rattle.text_script.proofs.OfWords.WalkLemmas.{built_options, run_rules, walk_at, Follows, some_of, some_map, if_new, gone, named_is, none_shown, follows_word, step_joined, step_value, not_hyphens, number_plain, one_word}

-- the pending option may be used
abbrev Settles : Walk → Type 0
Settles w = settle_passes run_rules false w.held ≡ true

-- a number makes an option that has no row yet ready to be used
value_settles : (s : Setting) (word : Text) (rows : List Row) (skip position : ℕ) → has_row (name_of s) rows ≡ false → Settles (walk_at (Some (name_of s, word ∷ [])) rows skip idle position)
value_settles Domains word rows skip position gone = rw gone refl
value_settles Minor word rows skip position gone = rw gone refl
value_settles Pools word rows skip position gone = rw gone refl

-- a turn of the walk passes
abbrev Passes : Text → Walk → Text → Type 0
Passes name w word = turn_passes (built_options name) [] w word ≡ true

joined_passes : (name : Text) (s : Setting) (word text : Text) (pending : Option (Text × List Text)) (rows : List Row) (skip position : ℕ) → long_of word ≡ Some (name_of s, Some text) → Settles (walk_at pending rows skip idle position)
    → has_row (name_of s) (settled_rows run_rules pending rows) ≡ false → Passes name (walk_at pending rows skip idle position) word
joined_passes name Domains word text pending rows skip position e settles gone = rw (not_hyphens word _ e, e, settles, gone) refl
joined_passes name Minor word text pending rows skip position e settles gone = rw (not_hyphens word _ e, e, settles, gone) refl
joined_passes name Pools word text pending rows skip position e settles gone = rw (not_hyphens word _ e, e, settles, gone) refl

named_passes : (name : Text) (s : Setting) (word : Text) (pending : Option (Text × List Text)) (rows : List Row) (skip position : ℕ) → long_of word ≡ Some (name_of s, None) → Settles (walk_at pending rows skip idle position)
    → Passes name (walk_at pending rows skip idle position) word
named_passes name Domains word pending rows skip position e settles = rw (not_hyphens word _ e, e, settles) refl
named_passes name Minor word pending rows skip position e settles = rw (not_hyphens word _ e, e, settles) refl
named_passes name Pools word pending rows skip position e settles = rw (not_hyphens word _ e, e, settles) refl

value_passes : (name : Text) (s : Setting) (word : Text) (rows : List Row) (skip position : ℕ) → strip_byte 45 word ≡ None → bytes_eq word (45 ∷ 45 ∷ []) ≡ false → Passes name (walk_at (Some (name_of s, [])) rows skip (option (name_of s)) position) word
value_passes name Domains word rows skip position plain other = rw (other, plain, plain) refl
value_passes name Minor word rows skip position plain other = rw (other, plain, plain) refl
value_passes name Pools word rows skip position plain other = rw (other, plain, plain) refl

-- where no option waits, the pending one may be used
abbrev Ready : Option Setting → Walk → Type 0
Ready None w = Settles w
Ready (Some s) w = Unit {0}

name_goes : (name : Text) (g : Given) (s : Setting) (v : Option Text) (next : Read) (w : Walk) (word : Text) → Follows g None w → Settles w → long_of word ≡ Some (name_of s, v) → with_name (record { given = g; waiting = None }) v s ≡ Some next
    → Passes name w word × Ready next.waiting (walked run_rules [] w word)
name_goes name g s (Some text) next w word f settles long e =
    let new = if_new (given_at g s) _ next e in
    let n = some_map _ (option_number text) next new.1 in
    let here = subst Settles f.4 settles in
    let away = gone g s (settled_rows run_rules f.0 f.1) f.5 new.0 in
    let walk : walked run_rules [] w word ≡ _ = ap (λ (x : Walk). walked run_rules [] x word) f.4 ∙ step_joined s word text f.0 f.1 f.2 f.3 long in (
      subst (λ (x : Walk). Passes name x word) (sym f.4) (joined_passes name s word text f.0 f.1 f.2 f.3 long here away),
      subst (λ (r : Read). Ready r.waiting (walked run_rules [] w word)) n.2 (subst Settles (sym walk) refl),
    )
name_goes name g s None next w word f settles long e =
    let new = if_new (given_at g s) _ next e in
    let here = subst Settles f.4 settles in
    let is : record { given = g; waiting = Some s } ≡ next = cc in (
      subst (λ (x : Walk). Passes name x word) (sym f.4) (named_passes name s word f.0 f.1 f.2 f.3 long here),
      subst (λ (r : Read). Ready r.waiting (walked run_rules [] w word)) is tt,
    )

word_goes : (name : Text) (g : Given) (waiting : Option Setting) (next : Read) (w : Walk) (word : Text) → Follows g waiting w → Ready waiting w → with_word (record { given = g; waiting = waiting }) word ≡ Some next
    → Passes name w word × Ready next.waiting (walked run_rules [] w word)
word_goes name g (Some s) next w word f ready e =
    let n = some_map _ (option_number word) next e in
    let plain = number_plain word n.0 n.1 in
    let away = gone g s f.0 f.4 f.5 in
    let walk : walked run_rules [] w word ≡ _ = ap (λ (x : Walk). walked run_rules [] x word) f.3 ∙ step_value s word n.0 f.0 f.1 f.2 n.1 in (
      subst (λ (x : Walk). Passes name x word) (sym f.3) (value_passes name s word f.0 f.1 f.2 plain (one_word word plain)),
      subst (λ (r : Read). Ready r.waiting (walked run_rules [] w word)) n.2 (subst Settles (sym walk) (value_settles s word f.0 f.1 f.2 away)),
    )
word_goes name g None next w word f ready e =
    let p = some_of _ (long_of word) next e in
    let s = some_of _ (setting_named p.0.0) next p.2 in
    let long : long_of word ≡ Some (name_of s.0, p.0.1) = p.1 ∙ ap (λ (x : Text). Some (x, p.0.1)) (named_is p.0.0 s.0 s.1) in
    name_goes name g s.0 p.0.1 next w word f ready long s.2

pub both_hold : (a b : Bool) → a ≡ true → b ≡ true → (a && b) ≡ true
both_hold true true p q = refl
both_hold true false p q = q
both_hold false b p q = p

words_go : (name : Text) (words : List Text) (g : Given) (waiting : Option Setting) (w : Walk) (end : Given) → Follows g waiting w → Ready waiting w → given_by (record { given = g; waiting = waiting }) words ≡ Some end
    → (walk_passes (built_options name) [] w words ≡ true) × Settles (fold (walked run_rules []) w words)
unfolding walk_passes
words_go name [] g None w end f ready e = (refl, ready)
words_go name [] g (Some s) w end f ready e = cc
words_go name (word ∷ words) g waiting w end f ready e =
    let next = some_of _ (with_word (record { given = g; waiting = waiting }) word) end e in
    let goes = word_goes name g waiting next.0 w word f ready next.1 in
    let rest = words_go name words next.0.given next.0.waiting (walked run_rules [] w word) end (follows_word g waiting next.0 w word f next.1) goes.1 next.2 in
    (both_hold _ _ goes.0 rest.0, rest.1)

-- words that are taken are taken by the command
pub options_take : (name : Text) (words : List Text) (g : Given) → given_by nothing_read words ≡ Some g → level_passes (built_options name) [] nothing_held words false ≡ true
options_take name words g e =
    let f : Follows (record { domains = None; minor = None; pools = None }) None (walk_from nothing_held) = (None, [], 0, 1, refl, λ s. none_shown s) in
    let goes = words_go name words _ None (walk_from nothing_held) g f refl e in
    both_hold _ _ goes.0 (both_hold _ _ goes.1 refl)
