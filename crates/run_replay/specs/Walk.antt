-- Domain 0's walk through a pause that is led for a caller.
use Rattle.std.specs.Prelude.{◌≡◌, Bool, true, false, List, [], ◌∷◌, Option, Some, None}
use Rattle.model_core.specs.declared.entry.Entry.{Entry}
use Rattle.heap_rule.specs.declared.phase.Kind.{Kind}
use Rattle.heap_rule.specs.declared.phase.Kind.TheVariants.{Run, Promote, Reset, Answer}
use Rattle.heap_rule.specs.declared.phase.Progress.{Progress}
use Rattle.text_script.specs.Schedule.Drive.Together.{Lead, Rests, Leads, Answers}

-- how far domain 0 has led, by the kind that it knows: it has named it and not gone through it, or it has gone through it
abbrev pub lead_named : Bool → Kind → Lead
lead_named complete Run = Rests
lead_named complete Answer = Answers
lead_named complete _ = Leads complete

abbrev pub lead_left : Bool → Kind → Lead
lead_left complete Answer = Answers
lead_left complete _ = Leads complete

-- the entries of the collector that stand as a kind is named
abbrev pub controls_of : Option Entry → List Entry
controls_of None = []
controls_of (Some e) = e ∷ []

-- of the phases of a collection none comes where none is complete
abbrev pub IsOfCollection : Kind → Bool
IsOfCollection Run = false
IsOfCollection Promote = false
IsOfCollection Reset = false
IsOfCollection _ = true

-- what domain 0 keeps from phase to phase where each pause is led for a caller: none goes on beside running domains, no sweep is owed, and a collection began in this pause
pub record IsWalk (complete : Bool) (kind : Kind) (p : Progress) : Type 0 where
  pub armed : p.armed ≡ false
  pub unswept : p.unswept ≡ false
  pub asked : IsOfCollection kind ≡ true → complete ≡ true
  pub whole : IsOfCollection kind ≡ true → p.whole ≡ true
