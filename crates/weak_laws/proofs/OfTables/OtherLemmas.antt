-- What a call leaves of the tables and weak arrays that it wasn't called on.
use Rattle.model_core.proofs.Reach.ReachLemmas.{or_right}
use Rattle.model_core.specs.Graph.{same_label}
use Rattle.weak_laws.specs.Tables.Thinning.{WasOutside}
use Rattle.weak_laws.specs.Tables.Stages.{graph_of}
use Rattle.weak_laws.specs.Tables.TableLaws.{OtherTablesStay, OtherArraysStay}
use Rattle.weak_laws.proofs.OfTables.ChangeLemmas.{table_kept, bindings_thinned, array_kept}
use Rattle.weak_laws.proofs.OfTables.LawLemmas.{keys_emptied}

pub other_tables_law : OtherTablesStay
other_tables_law z old new own goes root chains table apart = (
  table_kept (WasOutside z old new) own (graph_of z old) (graph_of z new) goes.changes root chains apart table,
  bindings_thinned (WasOutside z old new) own (graph_of z old) (graph_of z new) goes.changes root chains apart table,
)

pub other_arrays_law : OtherArraysStay
other_arrays_law z old new own goes root slots array apart = (
  array_kept (WasOutside z old new) own (graph_of z old) (graph_of z new) goes.changes root slots apart array,
  keys_emptied (WasOutside z old new) own (graph_of z old) (graph_of z new) goes.changes slots (λ l h. apart l (or_right (same_label root l) _ h)) array.weak,
)
