-- What each entry does to the graph: it writes the node of one label, or adds a block.
use Rattle.std.proofs.Common.{◌≡◌, ℕ, true, false, IsTrue, List, [], ◌∷◌, ◌++◌, Option, Some, None, refl, ap, sym, ◌∙◌, subst}
use Rattle.model_core.specs.declared.label.Label.{Label}
use Rattle.model_core.specs.declared.command.Command.{Command}
use Rattle.model_core.specs.declared.entry.Entry.{Entry}
use Rattle.model_core.specs.declared.entry.Entry.TheVariants.{Command as CommandOf, End, Cut, Queue, Seal, Wipe, Last as LastOf, Collected, Done, Ran}
use Rattle.model_core.specs.declared.graph.Node.{Node}
use Rattle.model_core.specs.declared.graph.Node.TheVariants.{Plain, Raw, Ephe}
use Rattle.model_core.specs.declared.state.Pending.{Pending}
use Rattle.model_core.specs.declared.state.Pending.TheVariants.{Fin, Last}
use Rattle.model_core.specs.declared.state.State.{State}
use Rattle.model_core.specs.Graph.{Graph, labels, has_label, node_at, with_node}
use Rattle.model_core.specs.Commands.{outcome}
use Rattle.model_core.specs.Entries.{wiped, with_wiped, after_run, next}
use Rattle.model_core.specs.Laws.{written_by, written, LabelsStay, NodesStay}
use Rattle.model_core.proofs.Commands.MoveLemmas.{moved}
use Rattle.model_core.proofs.Graphs.GraphLemmas.{labels-with_node, node_at-append_old, node_at-with_node_other}
use Rattle.model_core.proofs.Reach.ReachLemmas.{has-append_left}
use Rattle.model_core.proofs.Histories.WellFormedLemmas.{labels-append}

-- what holds of a graph holds after an entry, if it holds after each write that the entry may make and after each new block
module _ (P : Graph → Type 0) (Ok : Label → Type 0) (write : (g : Graph) (l : Label) (n : Node) → Ok l → P g → P (with_node g l n))
    (grow : (g : Graph) (e : Label × Node) → P g → P (g ++ e ∷ [])) where
  module _ (s : State) (p : P s.graph) where
    pub kept_outcome : (d : ℕ) (c : Command) → ((l : Label) → written_by s d c ≡ Some l → Ok l) → P (outcome s d c).state.graph
    kept_outcome d c ok = moved (λ t. P t.graph) s d c (record {
      same = p;
      held = λ r v named. p;
      written = λ l old new at found same named full. write s.graph l new (ok l at) p;
      made = λ is dst n named full. grow s.graph _ p;
      registered = λ is f named. p;
      registered_last = λ is f named. p;
    })

    kept_wiped : (l : Label) (places : List ℕ) (o : Option Node) → Ok l → P (with_wiped s l (wiped places o)).graph
    kept_wiped l places None ok = p
    kept_wiped l places (Some (Plain tag fields)) ok = write s.graph l _ ok p
    kept_wiped l places (Some (Raw tag fields)) ok = write s.graph l _ ok p
    kept_wiped l places (Some (Ephe keys datum)) ok = write s.graph l _ ok p

    kept_after_run : (d : ℕ) (queue : List Pending) → P (after_run s d queue).graph
    kept_after_run d [] = p
    kept_after_run d (Fin number l r ∷ rest) = p
    kept_after_run d (Last number ∷ rest) = p

    pub kept_next : (e : Entry) → ((l : Label) → written s e ≡ Some l → Ok l) → P (next s e).graph
    kept_next (CommandOf d c true) ok = p
    kept_next (CommandOf d c false) ok = kept_outcome d c ok
    kept_next (End d) ok = p
    kept_next Cut ok = p
    kept_next (Queue d places) ok = p
    kept_next Seal ok = p
    kept_next (Wipe l keys) ok = kept_wiped l keys (node_at s.graph l) (ok l refl)
    kept_next (LastOf d place) ok = p
    kept_next Collected ok = p
    kept_next Done ok = p
    kept_next (Ran d) ok = kept_after_run d _

-- no entry removes a label
pub labels_stay_law : LabelsStay
labels_stay_law s e l h =
    let Has : Graph → Type 0 = λ g. IsTrue (has_label (labels g) l) in
    kept_next Has (λ k. Unit {0}) (λ g k n ok has. subst (λ z. IsTrue (has_label z l)) (sym (labels-with_node g k n)) has)
    (λ g x has. subst (λ z. IsTrue (has_label z l)) (sym (labels-append g (x ∷ []))) (has-append_left (labels g) (labels (x ∷ [])) l has))
    s h e (λ k at. tt)

-- a label's node changes only by an entry that writes it
pub nodes_stay_law : NodesStay
nodes_stay_law s e l n unwritten has =
    let Stays : Graph → Type 0 = λ g. node_at g l ≡ Some n in
    kept_next Stays (λ k. l ≡ k → ⊥) (λ g k m other stays. node_at-with_node_other g k l m other ∙ stays)
    (λ g x stays. node_at-append_old g x l n stays)
    s has e (λ k at same. unwritten (at ∙ ap Some (sym same)))
