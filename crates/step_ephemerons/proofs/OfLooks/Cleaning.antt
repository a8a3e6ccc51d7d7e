-- How far a domain is in the ephemeron that it cleans.
use Rattle.std.proofs.Common.{ℕ, List}
use Rattle.model_core.specs.Graph.{Graph}
use Rattle.model_cycle.specs.Marks.{Marks}
use Rattle.model_cycle.specs.Progress.{KeysFound}
use Rattle.heap_rule.specs.declared.phase.Stage.{Stage}
use Rattle.heap_rule.specs.declared.view.Cleaning.{Cleaning}
use Rattle.heap_rule.specs.declared.view.NextKey.{NextKey}
use Rattle.heap_rule.specs.Ephemerons.{Cleans, NextIs}
use Rattle.heap_rule.specs.Places.{Live}

-- it goes on in it where more keys are found or emptied
pub cleans_on : (live : Live) (graph : Graph) (marks : Marks) (stage : Stage) (items : List ℕ) (w : Cleaning) (cl : Cleans live graph marks stage items w) (done : ℕ) (emptied : List ℕ) (next : NextKey) → KeysFound marks.marked cl.keys done emptied → NextIs live marks cl.keys done next
    → Cleans live graph marks stage items (record w { done = done; emptied = emptied; next = next })
cleans_on live graph marks stage items w cl done emptied next through next_is = record {
  stage_is = cl.stage_is;
  listed = cl.listed;
  place = cl.place;
  lives = cl.lives;
  label = cl.label;
  marked = cl.marked;
  keys = cl.keys;
  datum = cl.datum;
  node = cl.node;
  count_is = cl.count_is;
  through = through;
  next = next_is;
}
