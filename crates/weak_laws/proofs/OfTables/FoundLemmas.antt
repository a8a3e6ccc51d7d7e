-- A binding is found as long as its key is reached.
use Rattle.std.proofs.Common.{◌≡◌, true, false, sym, ◌∙◌}
use Rattle.model_core.specs.Graph.{has_label}
use Rattle.model_core.specs.Domains.{reach}
use Rattle.model_core.proofs.Reach.ReachLemmas.{is_false}
use Rattle.weak_laws.specs.Tables.Thinning.{WasOutside, state_of}
use Rattle.weak_laws.specs.Tables.TableLaws.{BoundWhileReached}
use Rattle.weak_laws.proofs.OfTables.BindingLemmas.{thinned_datum}

pub found_law : BoundWhileReached
found_law z old new before after k v thinned bound reached =
    thinned_datum (WasOutside z old new) k
    (λ w. let there = reached w.front w.since w.until in let none = is_false (has_label (reach (state_of z w.front)) k) w.outside in let clash : true ≡ false = sym there ∙ none in cc)
    before after thinned ∙ bound
