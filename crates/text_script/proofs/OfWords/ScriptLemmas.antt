-- A parse of three numbers finds each at its place.
use Rattle.std.proofs.Common.{◌≡◌, ◌∙◌, true, false, List, [], ◌∷◌, Some, None, codes, refl, sym, ap, subst}
use Rattle.std.specs.Prelude.{◌&&◌, fold}
use Rattle.std.specs.List.{list_all}
use Rattle.clap.specs.Lexer.{strip_byte}
use Rattle.clap.specs.Simple.{Shape}
use Rattle.clap.specs.Takes.{default_passes, is_valid, level_passes, settle_passes, turn_passes, walk_passes}
use Rattle.clap.specs.Walk.{Row, Rule, Text, Walk, idle, finished, walk, walked, walk_from, nothing_held, rows_after}
use Rattle.clap.specs.declared.builder.value_parser.Reading.TheVariants.{AsWritten}
use Rattle.clap.specs.declared.parser.matches.ValueSource.TheVariants.{CommandLine}
use Rattle.text_script.specs.Words.Commands.{script_app}
use Rattle.text_script.proofs.OfWords.WalkLemmas.{built_below, one_word, walk_at}
use Rattle.text_script.proofs.OfWords.TakesLemmas.{both_hold}

-- a command with the three numbers of a script, as a parse has it
abbrev pub built_script : Text → Shape
built_script name = built_below (script_app name).top

abbrev number_row : Text → Text → Row
number_row name value = record { id = name; values = value ∷ []; count = None; source = Some CommandLine; reading = AsWritten }

abbrev pub script_rows : Text → Text → Text → List Row
script_rows base domains commands = number_row (codes "base") base ∷ number_row (codes "domains") domains ∷ number_row (codes "commands") commands ∷ []

-- the numbers, as a parse has them
abbrev script_rules : List Rule
script_rules = (built_script []).rules

base_step : (base : Text) → strip_byte 45 base ≡ None → walked script_rules [] (walk_from nothing_held) base ≡ walk_at (Some (codes "base", base ∷ [])) [] 0 idle 2
unfolding walked
base_step base plain = rw (one_word base plain, plain, plain) refl

domains_step : (base domains : Text) → strip_byte 45 domains ≡ None
    → walked script_rules [] (walk_at (Some (codes "base", base ∷ [])) [] 0 idle 2) domains ≡ walk_at (Some (codes "domains", domains ∷ [])) (number_row (codes "base") base ∷ []) 0 idle 3
unfolding walked
domains_step base domains plain = rw (one_word domains plain, plain, plain) refl

commands_step : (base domains commands : Text) → strip_byte 45 commands ≡ None
    → walked script_rules [] (walk_at (Some (codes "domains", domains ∷ [])) (number_row (codes "base") base ∷ []) 0 idle 3) commands
    ≡ walk_at (Some (codes "commands", commands ∷ [])) (number_row (codes "base") base ∷ number_row (codes "domains") domains ∷ []) 0 idle 4
unfolding walked
commands_step base domains commands plain = rw (one_word commands plain, plain, plain) refl

-- the three words, which are no options
pub record ArePlain (base domains commands : Text) : Type 0 where
  pub first : strip_byte 45 base ≡ None
  pub second : strip_byte 45 domains ≡ None
  pub third : strip_byte 45 commands ≡ None

-- the walk over them
abbrev end_of : Text → Text → Text → Walk
end_of base domains commands = walk_at (Some (codes "commands", commands ∷ [])) (number_row (codes "base") base ∷ number_row (codes "domains") domains ∷ []) 0 idle 4

three_steps : (base domains commands : Text) → ArePlain base domains commands → walk script_rules [] nothing_held (base ∷ domains ∷ commands ∷ []) ≡ end_of base domains commands
three_steps base domains commands plain =
    ap (λ (w : Walk). fold (walked script_rules []) w (domains ∷ commands ∷ [])) (base_step base plain.first)
    ∙ (ap (λ (w : Walk). fold (walked script_rules []) w (commands ∷ [])) (domains_step base domains plain.second) ∙ commands_step base domains commands plain.third)

-- the parse finds them
pub finds_three : (name base domains commands : Text) → ArePlain base domains commands → rows_after (built_script name).rules [] (base ∷ domains ∷ commands ∷ []) ≡ script_rows base domains commands
finds_three name base domains commands plain = ap (λ (w : Walk). finished script_rules w.held) (three_steps base domains commands plain)

-- a turn of the walk passes
abbrev Passes : Text → Walk → Text → Type 0
Passes name w word = turn_passes (built_script name) [] w word ≡ true

base_passes : (name base : Text) → strip_byte 45 base ≡ None → Passes name (walk_from nothing_held) base
base_passes name base plain = rw (one_word base plain, plain, plain) refl

domains_passes : (name base domains : Text) → strip_byte 45 domains ≡ None → Passes name (walk_at (Some (codes "base", base ∷ [])) [] 0 idle 2) domains
domains_passes name base domains plain = rw (one_word domains plain, plain, plain) refl

commands_passes : (name base domains commands : Text) → strip_byte 45 commands ≡ None
    → Passes name (walk_at (Some (codes "domains", domains ∷ [])) (number_row (codes "base") base ∷ []) 0 idle 3) commands
commands_passes name base domains commands plain = rw (one_word commands plain, plain, plain) refl

three_pass : (name base domains commands : Text) → ArePlain base domains commands → walk_passes (built_script name) [] (walk_from nothing_held) (base ∷ domains ∷ commands ∷ []) ≡ true
unfolding walk_passes
three_pass name base domains commands plain =
    let last : walk_passes (built_script name) [] (walk_at (Some (codes "domains", domains ∷ [])) (number_row (codes "base") base ∷ []) 0 idle 3) (commands ∷ []) ≡ true =
    both_hold _ _ (commands_passes name base domains commands plain.third) refl in
    let two : walk_passes (built_script name) [] (walk_at (Some (codes "base", base ∷ [])) [] 0 idle 2) (domains ∷ commands ∷ []) ≡ true =
    both_hold _ _ (domains_passes name base domains plain.second)
    (ap (λ (w : Walk). walk_passes (built_script name) [] w (commands ∷ [])) (domains_step base domains plain.second) ∙ last) in
    both_hold _ _ (base_passes name base plain.first) (ap (λ (w : Walk). walk_passes (built_script name) [] w (domains ∷ commands ∷ [])) (base_step base plain.first) ∙ two)

-- at the end of the walk the last number may be used, and each number is there
abbrev Ends : Text → Walk → Type 0
Ends name w = (settle_passes script_rules (built_script name).args_override_self w.held
    && (list_all default_passes script_rules && is_valid (built_script name) (finished script_rules w.held) false)) ≡ true

-- and takes them
pub takes_three : (name base domains commands : Text) → ArePlain base domains commands → level_passes (built_script name) [] nothing_held (base ∷ domains ∷ commands ∷ []) false ≡ true
takes_three name base domains commands plain =
    let end : Ends name (end_of base domains commands) = refl in
    both_hold _ _ (three_pass name base domains commands plain) (subst (Ends name) (sym (three_steps base domains commands plain)) end)
