-- What holds of every state that a history leaves: each label that a state names has a node.
use Rattle.std.specs.Prelude.{◌≡◌, ℕ, ◌≤◌, IsTrue, List, ◌++◌, map, flat_map, filter_map, option_to_list, Some}
use Rattle.model_core.specs.declared.label.Label.{Label}
use Rattle.model_core.specs.declared.graph.Node.{Node}
use Rattle.model_core.specs.declared.graph.Node.TheVariants.{Plain, Raw, Ephe}
use Rattle.model_core.specs.declared.state.DomainState.{DomainState}
use Rattle.model_core.specs.declared.state.State.{State}
use Rattle.model_core.specs.Graph.{Graph, labels, has_label, label_of, node_at}
use Rattle.model_core.specs.Domains.{domain_at, pending_label, IsShaped}

-- the labels that a node names
abbrev pub names_of : Node → List Label
names_of (Plain tag fields) = filter_map label_of fields
names_of (Raw tag fields) = filter_map label_of fields
names_of (Ephe keys datum) = filter_map (λ k. k) keys ++ option_to_list (label_of datum)

-- each of these labels has a node
abbrev pub HaveNodes : Graph → List Label → Type 0
HaveNodes g ls = (l : Label) → IsTrue (has_label ls l) → IsTrue (has_label (labels g) l)

-- each label that a domain names has a node
pub record IsDomainNamed (g : Graph) (x : DomainState) : Type 0 where
  pub registers : HaveNodes g (filter_map label_of x.registers)
  pub finals : HaveNodes g (map (λ f. f.label) x.finals)
  pub lasts : HaveNodes g (map (λ f. f.label) x.lasts)
  pub queue : HaveNodes g (filter_map pending_label x.queue)

-- each label that was given out lies at most at its domain's serial
abbrev pub IsNumbered : State → Type 0
IsNumbered s = (l : Label) → IsTrue (has_label (labels s.graph) l) → l.serial ≤ (domain_at s l.domain).serial

-- each label that a domain names, that a block names, or that a queue at the last cut keeps alive has a node
pub record IsWellFormed (s : State) : Type 0 where
  pub domains : (d : ℕ) → IsDomainNamed s.graph (domain_at s d)
  pub nodes : (l : Label) (n : Node) → node_at s.graph l ≡ Some n → HaveNodes s.graph (names_of n)
  pub cut : HaveNodes s.graph (flat_map (filter_map pending_label) s.cut)

-- what holds of a heap's state from its first entry on
pub record IsSound (s : State) : Type 0 where
  pub shaped : IsShaped s
  pub well_formed : IsWellFormed s
