-- What a table's text is: its version, and the lines behind the first.
use Rattle.std.specs.Prelude.{ℕ, List}
use Rattle.table_text.specs.declared.line.TableLine.{TableLine}
use Rattle.table_text.specs.declared.version.Version.{Version}
use Rattle.table_text.specs.declared.version.Version.TheVariants.{One, Two}

pub record Text : Type 0 where
  pub version : Version
  pub lines : List TableLine

-- the greatest count of lines behind the first. In the second version each may make an ephemeron, beside the 16 of the slots
abbrev pub most_lines : Version → ℕ
most_lines One = 10000
most_lines Two = 199984
