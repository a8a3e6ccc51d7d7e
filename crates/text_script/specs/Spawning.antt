-- In which order sections may spawn and join one another, in scripts of version 3: a spawn names a section that hasn't begun and that no spawn names before it, a join one that its own section has spawned before it, and a section but the first begins behind a spawn that names it.
use Rattle.std.specs.Prelude.{ℕ, ◌+◌, Bool, true, false, not, ◌&&◌, ◌||◌, ◌==◌, nat_le, List, [], ◌∷◌, ◌++◌, length, flat_map, fold, sum_by}
use Rattle.std.specs.List.{list_any}
use Rattle.model_core.specs.declared.command.Command.{Command}
use Rattle.model_core.specs.declared.command.Command.TheVariants.{Spawn, Join}
use Rattle.text_script.specs.declared.version.Version.{Version}
use Rattle.text_script.specs.declared.version.Version.TheVariants.{Three}

-- what stands before a line: how many headings and how many commands, and the sections that are spawned, in all and behind the last heading
pub record Place : Type 0 where
  pub headings : ℕ
  pub commands : ℕ
  pub named : List ℕ
  pub own : List ℕ

abbrev pub start : Place
start = record { headings = 0; commands = 0; named = []; own = [] }

-- the section that a command spawns
abbrev pub spawned_by : Command → List ℕ
spawned_by (Spawn section item) = section ∷ []
spawned_by _ = []

-- the same behind a heading more, and behind a command more
abbrev pub opened : Place → Place
opened p = record p { headings = p.headings + 1; own = [] }

abbrev pub called : Place → Command → Place
called p c = record { headings = p.headings; commands = p.commands + 1; named = p.named ++ spawned_by c; own = p.own ++ spawned_by c }

-- the same behind some sections
abbrev last_of : List (List Command) → List Command
last_of sections = fold (λ (last cs : List Command). cs) [] sections

abbrev pub place_in : List (List Command) → Place
place_in sections = record {
  headings = length sections;
  commands = sum_by length sections;
  named = flat_map (flat_map spawned_by) sections;
  own = flat_map spawned_by (last_of sections);
}

-- whether a number is one of these
abbrev pub has : List ℕ → ℕ → Bool
has ns n = list_any (λ m. m == n) ns

-- whether the next section may begin
abbrev pub may_begin : Version → Place → Bool
may_begin Three p = p.headings == 0 || has p.named p.headings
may_begin _ p = true

-- whether a command may stand there
abbrev pub spawns_well : Place → Command → Bool
spawns_well p (Spawn section item) = nat_le p.headings section && not (has p.named section)
spawns_well p (Join dst section) = has p.own section
spawns_well p _ = true

abbrev pub may_follow : Version → Place → Command → Bool
may_follow Three p c = spawns_well p c
may_follow _ p c = true

-- whether commands may stand there, and whether sections may
abbrev pub follow : Version → Place → List Command → Bool
follow ver p [] = true
follow ver p (c ∷ cs) = may_follow ver p c && follow ver (called p c) cs

abbrev pub sections_follow : Version → Place → List (List Command) → Bool
sections_follow ver p [] = true
sections_follow ver p (cs ∷ sections) = may_begin ver p && (follow ver (opened p) cs && sections_follow ver (fold called (opened p) cs) sections)

-- whether a command spawns a section, and whether a spawn of the script does
abbrev pub spawns : ℕ → Command → Bool
spawns d (Spawn section item) = section == d
spawns d _ = false

abbrev pub is_spawned : List (List Command) → ℕ → Bool
is_spawned sections d = list_any (list_any (spawns d)) sections
