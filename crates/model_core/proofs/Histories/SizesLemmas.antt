-- No entry changes the numbers of a heap, nor how many domains there are.
use Rattle.std.proofs.Common.{◌≡◌, ℕ, true, false, List, [], ◌∷◌, length, Option, Some, None, refl, ◌∙◌, length-set}
use Rattle.std.proofs.lemmas.List.{length-map, length-replicate}
use Rattle.model_core.specs.declared.command.Command.{Command}
use Rattle.model_core.specs.declared.entry.Entry.{Entry}
use Rattle.model_core.specs.declared.entry.Entry.TheVariants.{Command as CommandOf, End, Cut, Queue, Seal, Wipe, Last as LastOf, Collected, Done, Ran}
use Rattle.model_core.specs.declared.graph.Node.{Node}
use Rattle.model_core.specs.declared.label.Label.{Label}
use Rattle.model_core.specs.declared.state.Pending.{Pending}
use Rattle.model_core.specs.declared.state.Pending.TheVariants.{Fin, Last}
use Rattle.model_core.specs.declared.state.Sizes.{Sizes}
use Rattle.model_core.specs.declared.state.State.{State}
use Rattle.model_core.specs.Commands.{outcome}
use Rattle.model_core.specs.Domains.{domain_at, opening, opening_domain, with_domain}
use Rattle.model_core.specs.Entries.{after_run, freshened, next, wiped, with_finals_open, with_lasts_open, with_wiped, without_first}
use Rattle.model_core.specs.Graph.{node_at}
use Rattle.model_core.specs.History.{state_after}
use Rattle.model_core.proofs.Commands.MoveLemmas.{keeps_outcome, outcome-sizes}

-- the numbers of the heap
wiped_sizes : (s : State) (l : Label) (o : Option Node) → (with_wiped s l o).sizes ≡ s.sizes
wiped_sizes s l None = refl
wiped_sizes s l (Some n) = refl

run_sizes : (s : State) (d : ℕ) (queue : List Pending) → (after_run s d queue).sizes ≡ s.sizes
run_sizes s d [] = refl
run_sizes s d (Fin number l r ∷ rest) = refl
run_sizes s d (Last number ∷ rest) = refl

pub sizes_next : (s : State) (e : Entry) → (next s e).sizes ≡ s.sizes
sizes_next s (CommandOf d c true) = refl
sizes_next s (CommandOf d c false) = outcome-sizes s d c
sizes_next s (End d) = refl
sizes_next s Cut = refl
sizes_next s (Queue d places) = refl
sizes_next s Seal = refl
sizes_next s (Wipe l keys) = wiped_sizes s l (wiped keys (node_at s.graph l))
sizes_next s (LastOf d place) = refl
sizes_next s Collected = refl
sizes_next s Done = refl
sizes_next s (Ran d) = run_sizes s d (domain_at s d).queue

pub sizes_after : (s : State) (h : List Entry) → (state_after s h).sizes ≡ s.sizes
sizes_after s [] = refl
sizes_after s (e ∷ h) = sizes_after (next s e) h ∙ sizes_next s e

-- how many domains there are
wiped_count : (s : State) (l : Label) (o : Option Node) → length (with_wiped s l o).domains ≡ length s.domains
wiped_count s l None = refl
wiped_count s l (Some n) = refl

run_count : (s : State) (j : ℕ) (queue : List Pending) → length (after_run s j queue).domains ≡ length s.domains
run_count s j [] = refl
run_count s j (Fin number l r ∷ rest) = length-set (with_domain s j (without_first (domain_at s j) rest)).domains j _ ∙ length-set s.domains j _
run_count s j (Last number ∷ rest) = length-set s.domains j _

outcome_count : (s : State) (d : ℕ) (c : Command) → length (outcome s d c).state.domains ≡ length s.domains
outcome_count s = keeps_outcome (λ t. length t.domains ≡ length s.domains) (λ t d x q. length-set t.domains d x ∙ q) (λ t g n q. q) s refl

pub count_next : (s : State) (e : Entry) → length (next s e).domains ≡ length s.domains
count_next s (CommandOf d c true) = length-set s.domains d _
count_next s (CommandOf d c false) = length-set (outcome s d c).state.domains d _ ∙ outcome_count s d c
count_next s (End d) = length-set s.domains d _
count_next s Cut = length-map s.domains with_finals_open
count_next s (Queue d places) = length-set s.domains d _
count_next s Seal = length-map s.domains with_lasts_open
count_next s (Wipe l keys) = wiped_count s l (wiped keys (node_at s.graph l))
count_next s (LastOf d place) = length-set s.domains d _
count_next s Collected = length-map s.domains freshened
count_next s Done = refl
count_next s (Ran d) = run_count s d (domain_at s d).queue

pub count_after : (s : State) (h : List Entry) → length (state_after s h).domains ≡ length s.domains
count_after s [] = refl
count_after s (e ∷ h) = count_after (next s e) h ∙ count_next s e

pub count_begun : (z : Sizes) (h : List Entry) → length (state_after (opening z) h).domains ≡ z.domains
count_begun z h = count_after (opening z) h ∙ length-replicate z.domains opening_domain
