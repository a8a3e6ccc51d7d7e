-- Keys in the places of a machine, and the machine once one of them is gone.
use Rattle.std.specs.Prelude.{Bool, true, false, cond, List, map, Option, Some, None}
use Rattle.std.specs.List.{list_any}
use Rattle.model_core.specs.declared.label.Label.{Label}
use Rattle.model_core.specs.Graph.{same_label}
use Rattle.weak_laws.specs.Tables.Structures.{without}
use Rattle.table_text.specs.Machine.Machine.{TableState}

-- whether a place holds a key
abbrev pub is_at : Label → Option Label → Bool
is_at k None = false
is_at k (Some l) = same_label l k

-- whether one of these places does
abbrev pub is_held : List (Option Label) → Label → Bool
is_held places k = list_any (is_at k) places

-- what a place holds once a key is gone
abbrev pub left_at : Label → Option Label → Option Label
left_at k None = None
left_at k (Some l) = cond (same_label l k) None (Some l)

-- the machine once a key is gone, from the bindings and from all slots at once
abbrev pub taken_out : Label → TableState → TableState
taken_out k s = record s { bindings = without k s.bindings; slots = map (left_at k) s.slots }

-- whether registers hold the key in a place, if it has one
abbrev pub is_kept : List (Option Label) → Option Label → Bool
is_kept registers None = true
is_kept registers (Some k) = is_held registers k
