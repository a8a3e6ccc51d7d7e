-- A parse of words that begin with the name of a command enters it.
use Rattle.std.proofs.Common.{◌≡◌, ◌∙◌, ◌++◌, true, false, subst, List, [], ◌∷◌, Option, Some, append-nil, append_assoc, codes, refl, sym, ap}
use Rattle.std.specs.Prelude.{◌&&◌, ◌||◌, Bool, find, fold, is_some, option_map}
use Rattle.std.specs.List.{list_all}
use Rattle.std.specs.Option.{option_map_or}
use Rattle.clap.specs.Simple.{Shape, built, entered, is_simple, label_of, names_of, rows_at, subcommand_of}
use Rattle.clap.specs.Takes.{default_passes, entered_passes, is_valid, level_passes, settle_passes, takes, turn_passes, walk_passes}
use Rattle.clap.specs.Walk.{Names, Text, Walk, answers_to, nothing_held, walk, walk_from, walked, finished}
use Rattle.text_script.specs.Words.Commands.{camlheap_app}
use Rattle.text_script.proofs.OfWords.WalkLemmas.{built_options}
use Rattle.text_script.proofs.OfWords.TakesLemmas.{both_hold}
use Rattle.text_script.proofs.OfWords.ScriptLemmas.{built_script}

-- a second test that is false changes nothing
pub or_false : (b c : Bool) → c ≡ false → (b || c) ≡ b
or_false true c e = refl
or_false false c e = e

-- the commands, as a parse has them
abbrev commands : List Shape
commands = (built camlheap_app).subs

abbrev names : Names
names = names_of (built camlheap_app)

-- the walk has stopped at a command, and has seen these words behind it
abbrev stopped_at : Text → List Text → Walk
stopped_at name seen = record (walk_from nothing_held) { stopped = Some (name, seen) }

-- once it has stopped, it only keeps the words
stays : (name : Text) (seen words : List Text) → fold (walked [] names) (stopped_at name seen) words ≡ stopped_at name (seen ++ words)
unfolding walked
stays name seen [] = ap (stopped_at name) (sym (append-nil seen))
stays name seen (word ∷ words) = stays name (seen ++ word ∷ []) words ∙ ap (stopped_at name) (append_assoc seen (word ∷ []) words)

-- and none of them is refused there
passes_on : (name : Text) (seen words : List Text) → walk_passes (built camlheap_app).top names (stopped_at name seen) words ≡ true
unfolding walked walk_passes
passes_on name seen [] = refl
passes_on name seen (word ∷ words) = passes_on name (seen ++ word ∷ []) words

-- at the end of the walk nothing is left to use, and what is required is there
abbrev Ending : Walk → Type 0
Ending w = (settle_passes [] (built camlheap_app).top.args_override_self w.held && (list_all default_passes [] && is_valid (built camlheap_app).top (finished [] w.held) true)) ≡ true

-- the walk stops at this word, which is the name of this command
pub record Enters (word : Text) (s : Shape) : Type 0 where
  pub stops : walked [] names (walk_from nothing_held) word ≡ stopped_at word []
  pub passes : turn_passes (built camlheap_app).top names (walk_from nothing_held) word ≡ true
  pub found : find (λ (x : Shape). answers_to word (label_of x)) commands ≡ Some s

-- where the walk ends
ends : (word : Text) (s : Shape) (words : List Text) → Enters word s → walk [] names nothing_held (word ∷ words) ≡ stopped_at word words
ends word s words e = ap (λ (w : Walk). fold (walked [] names) w words) e.stops ∙ stays word [] words

-- the words behind it are the command's
pub enters : (word : Text) (s : Shape) (words : List Text) → Enters word s → subcommand_of camlheap_app (word ∷ words) ≡ Some (rows_at s words)
enters word s words e =
    ap (λ (w : Walk). entered (built camlheap_app) w.stopped) (ends word s words e) ∙ ap (option_map (λ (x : Shape). rows_at x words)) e.found

-- the level of the program's name passes
top_passes : (word : Text) (s : Shape) (words : List Text) → Enters word s → level_passes (built camlheap_app).top names nothing_held (word ∷ words) true ≡ true
unfolding walk_passes
top_passes word s words e =
    let on : walk_passes (built camlheap_app).top names (walked [] names (walk_from nothing_held) word) words ≡ true =
    ap (λ (w : Walk). walk_passes (built camlheap_app).top names w words) e.stops ∙ passes_on word [] words in
    let end : Ending (stopped_at word words) = refl in
    both_hold _ _ (both_hold _ _ e.passes on) (subst Ending (sym (ends word s words e)) end)

-- the parse takes the words where the command takes those behind its name
pub enters_takes : (word : Text) (s : Shape) (words : List Text) → Enters word s → level_passes s [] nothing_held words false ≡ true → takes camlheap_app (word ∷ words) ≡ true
enters_takes word s words e passes =
    let simple : is_simple camlheap_app ≡ true = refl in
    let stop : (walk [] names nothing_held (word ∷ words)).stopped ≡ Some (word, words) = ap (λ (w : Walk). w.stopped) (ends word s words e) in
    let below : entered_passes (built camlheap_app) (Some (word, words)) ≡ true = ap (λ (o : Option Shape). option_map_or (λ (x : Shape). level_passes x [] nothing_held words false) o true) e.found ∙ passes in
    let has : is_some (entered (built camlheap_app) (Some (word, words))) ≡ true = ap (λ (o : Option Shape). is_some (option_map (λ (x : Shape). rows_at x words) o)) e.found in
    let top : level_passes (built camlheap_app).top names nothing_held (word ∷ words) (is_some (entered (built camlheap_app) (Some (word, words)))) ≡ true =
    ap (λ (b : Bool). level_passes (built camlheap_app).top names nothing_held (word ∷ words) b) has ∙ top_passes word s words e in
    both_hold _ _ simple (subst (λ (o : Option (Text × List Text)). (entered_passes (built camlheap_app) o && level_passes (built camlheap_app).top names nothing_held (word ∷ words) (is_some (entered (built camlheap_app) o))) ≡ true)
    (sym stop) (both_hold _ _ below top))

-- each of the five names is such a word
pub enters_run : Enters (codes "run") (built_options (codes "run"))
unfolding walked
enters_run = record { stops = refl; passes = refl; found = refl }

pub enters_replay : Enters (codes "replay") (built_options (codes "replay"))
unfolding walked
enters_replay = record { stops = refl; passes = refl; found = refl }

pub enters_table : Enters (codes "table") (built_options (codes "table"))
unfolding walked
enters_table = record { stops = refl; passes = refl; found = refl }

pub enters_gen : Enters (codes "gen") (built_script (codes "gen"))
unfolding walked
enters_gen = record { stops = refl; passes = refl; found = refl }

pub enters_load : Enters (codes "load") (built_script (codes "load"))
unfolding walked
enters_load = record { stops = refl; passes = refl; found = refl }
