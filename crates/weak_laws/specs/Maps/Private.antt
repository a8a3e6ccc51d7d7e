-- Blocks that only one domain holds: what a call makes, before it comes into a map.
use Rattle.std.specs.Prelude.{◌≡◌, ◌≢◌, ℕ, false, map, filter_map, Some}
use Rattle.model_core.specs.declared.label.Label.{Label}
use Rattle.model_core.specs.declared.graph.Node.{Node}
use Rattle.model_core.specs.declared.state.DomainState.{DomainState}
use Rattle.model_core.specs.declared.state.State.{State}
use Rattle.model_core.specs.Graph.{Graph, labels, has_label, label_of, node_at}
use Rattle.model_core.specs.Domains.{domain_at, pending_label}
use Rattle.model_core.specs.WellFormed.{names_of, HaveNodes}

-- what a domain other than d names lies among the labels of k, and what domain d registered
pub record NamesWithin (k : Graph) (d : ℕ) (i : ℕ) (x : DomainState) : Type 0 where
  pub registers : i ≢ d → HaveNodes k (filter_map label_of x.registers)
  pub finals : HaveNodes k (map (λ f. f.label) x.finals)
  pub queue : HaveNodes k (filter_map pending_label x.queue)

-- a label that only registers of domain d hold: all that others name, and that blocks name, lies among labels without it
pub record IsPrivate (s : State) (d : ℕ) (l : Label) : Type 0 where
  pub known : Graph
  pub away : has_label (labels known) l ≡ false
  pub mine : l.domain ≡ d
  pub domains : (i : ℕ) → NamesWithin known d i (domain_at s i)
  pub nodes : (m : Label) (n : Node) → node_at s.graph m ≡ Some n → HaveNodes known (names_of n)
