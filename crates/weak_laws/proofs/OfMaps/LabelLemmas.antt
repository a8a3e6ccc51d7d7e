-- The labels that a heap gives out name its domains.
use Rattle.std.proofs.Common.{◌≡◌, ⊎_elim, ℕ, ◌+◌, ◌<◌, ◌≤◌, true, false, IsTrue, List, [], ◌∷◌, ◌++◌, length, option_to_list, Option, Some, None, sym, ◌∙◌, subst, arith}
use Rattle.std.proofs.lemmas.List.{length-replicate}
use Rattle.model_core.specs.declared.label.Label.{Label}
use Rattle.model_core.specs.declared.command.Command.{Command}
use Rattle.model_core.specs.declared.entry.Entry.{Entry}
use Rattle.model_core.specs.declared.entry.Entry.TheVariants.{Command as CommandOf, End, Cut, Queue, Seal, Wipe, Last as LastOf, Collected, Done, Ran}
use Rattle.model_core.specs.declared.graph.Value.TheVariants.{Block, Nothing}
use Rattle.model_core.specs.declared.graph.Node.{Node}
use Rattle.model_core.specs.declared.graph.Node.TheVariants.{Ephe}
use Rattle.model_core.specs.declared.graph.Value.{Value}
use Rattle.model_core.specs.declared.state.Pending.{Pending}
use Rattle.model_core.specs.declared.state.Pending.TheVariants.{Fin, Last}
use Rattle.model_core.specs.declared.state.Sizes.{Sizes}
use Rattle.model_core.specs.declared.state.State.{State}
use Rattle.model_core.specs.Graph.{Graph, same_label, labels, has_label, label_of, node_at, with_node}
use Rattle.model_core.specs.Domains.{domain_at, register, opening, opening_domain, shared_label}
use Rattle.model_core.specs.Commands.{outcome}
use Rattle.model_core.specs.Entries.{Allowed, with_wiped, wiped, after_run, next}
use Rattle.model_core.specs.History.{Legal, LegalFrom, state_after}
use Rattle.model_core.proofs.Commands.FrameLemmas.{inside_running}
use Rattle.model_core.proofs.Commands.MoveLemmas.{moved}
use Rattle.model_core.proofs.Graphs.GraphLemmas.{same_label-true, same_label_refl, labels-with_node}
use Rattle.model_core.proofs.Graphs.NamedLemmas.{have_at, have_none}
use Rattle.model_core.proofs.Histories.WellFormedLemmas.{labels-append, wf_after, wf_opening}
use Rattle.model_core.proofs.Reach.ReachLemmas.{or_cases, or_left, has-append_cases}
use Rattle.weak_laws.specs.Tables.Thinning.{state_of}
use Rattle.weak_laws.specs.Tables.Stages.{graph_of}
use Rattle.weak_laws.proofs.OfMaps.RespectLemmas.{count_next}

-- each label of a graph names one of so many domains
abbrev AreBelow : ℕ → Graph → Type 0
AreBelow n g = (l : Label) → IsTrue (has_label (labels g) l) → l.domain < n

below_written : (n : ℕ) (g : Graph) (x : Label) (node : Node) → AreBelow n g → AreBelow n (with_node g x node)
below_written n g x node below l there = below l (subst (λ (ls : List Label). IsTrue (has_label ls l)) (labels-with_node g x node) there)

below_grown : (n : ℕ) (g : Graph) (x : Label) (node : Node) → x.domain < n → AreBelow n g → AreBelow n (g ++ (x, node) ∷ [])
below_grown n g x node mine below l there =
    ⊎_elim (λ old. below l old)
    (λ new. ⊎_elim (λ same. subst (λ (y : Label). y.domain < n) (same_label-true x l same) mine) (λ none. let clash : false ≡ true = none in cc) (or_cases (same_label x l) false new))
    (has-append_cases (labels g) (x ∷ []) l (subst (λ (ls : List Label). IsTrue (has_label ls l)) (labels-append g ((x, node) ∷ [])) there))

below_outcome : (n : ℕ) (s : State) (k : ℕ) (c : Command) → k < n → AreBelow n s.graph → AreBelow n (outcome s k c).state.graph
below_outcome n s k c inside below = moved (λ t. AreBelow n t.graph) s k c (record {
  same = below;
  held = λ r v named. below;
  written = λ l old new at found same named full. below_written n s.graph l new below;
  made = λ is dst node named full. below_grown n s.graph (record { domain = k; serial = (domain_at s k).serial + 1 }) node inside below;
  registered = λ is f named. below;
  registered_last = λ is f named. below;
})

below_wiped : (n : ℕ) (s : State) (l : Label) (o : Option Node) → AreBelow n s.graph → AreBelow n (with_wiped s l o).graph
below_wiped n s l None below = below
below_wiped n s l (Some node) below = below_written n s.graph l node below

below_run : (n : ℕ) (s : State) (d : ℕ) (queue : List Pending) → AreBelow n s.graph → AreBelow n (after_run s d queue).graph
below_run n s d [] below = below
below_run n s d (Fin number l r ∷ rest) below = below
below_run n s d (Last number ∷ rest) below = below

below_next : (n : ℕ) (s : State) (e : Entry) → length s.domains ≡ n → Allowed s e → AreBelow n s.graph → AreBelow n (next s e).graph
below_next n s (CommandOf k c true) count allowed below = below
below_next n s (CommandOf k c false) count allowed below = below_outcome n s k c (subst (λ m. k < m) count (inside_running s.domains k allowed.running)) below
below_next n s (End k) count allowed below = below
below_next n s Cut count allowed below = below
below_next n s (Queue k places) count allowed below = below
below_next n s Seal count allowed below = below
below_next n s (Wipe l keys) count allowed below = below_wiped n s l (wiped keys (node_at s.graph l)) below
below_next n s (LastOf k place) count allowed below = below
below_next n s Collected count allowed below = below
below_next n s Done count allowed below = below
below_next n s (Ran k) count allowed below = below_run n s k (domain_at s k).queue below

below_after : (n : ℕ) (s : State) (h : List Entry) → length s.domains ≡ n → LegalFrom s h → AreBelow n s.graph → AreBelow n (state_after s h).graph
below_after n s [] count legal below = below
below_after n s (e ∷ h) count legal below = below_after n (next s e) h (count_next s e ∙ count) legal.1 (below_next n s e count legal.0 below)

-- a label with a block names one of the heap's domains
pub label_below : (z : Sizes) (h : List Entry) → 1 ≤ z.domains → Legal z h → (l : Label) → IsTrue (has_label (labels (graph_of z h)) l) → l.domain < z.domains
label_below z h some legal = below_after z.domains (opening z) h (length-replicate z.domains opening_domain) legal
    (λ l there. ⊎_elim (λ same. subst (λ (y : Label). y.domain < z.domains) (same_label-true shared_label l same) (omega (arith, some))) (λ none. let clash : false ≡ true = none in cc) (or_cases (same_label shared_label l) false there))

-- so does one in a register
pub held_below : (z : Sizes) (h : List Entry) → 1 ≤ z.domains → Legal z h → (d r : ℕ) (l : Label) → register (state_of z h) d r ≡ Block l → l.domain < z.domains
held_below z h some legal d r l is =
    let wf = wf_after (opening z) h (wf_opening z) in
    let named = have_at (graph_of z h) label_of (domain_at (state_of z h) d).registers r Nothing (wf.domains d).registers (have_none (graph_of z h)) in
    label_below z h some legal l (named l (subst (λ (v : Value). IsTrue (has_label (option_to_list (label_of v)) l)) (sym is) (or_left (same_label l l) false (same_label_refl l))))

-- and the key of a leaf
pub key_below : (z : Sizes) (h : List Entry) → 1 ≤ z.domains → Legal z h → (l k : Label) (datum : Value) → node_at (graph_of z h) l ≡ Some (Ephe (Some k ∷ []) datum) → k.domain < z.domains
key_below z h some legal l k datum at =
    let wf = wf_after (opening z) h (wf_opening z) in
    label_below z h some legal k (wf.nodes l (Ephe (Some k ∷ []) datum) at k (or_left (same_label k k) _ (same_label_refl k)))
