-- Domain 0 leads collections, and knows the entries by which they go on.
use Rattle.std.specs.Prelude.{◌≡◌, ℕ, List}
use Rattle.model_core.specs.declared.entry.Entry.{Entry}
use Rattle.model_core.specs.Fronts.{AreNotControls, unseen}

-- where the domain is the one that leads, nothing by which a collection begins, goes on or ends stands in the history behind this front
abbrev pub IsLed : ℕ → List Entry → List Entry → Type 0
IsLed d history front = d ≡ 0 → AreNotControls (unseen history front)
