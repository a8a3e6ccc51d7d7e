-- What the entries of a collection leave as it is.
use Rattle.std.proofs.Common.{◌≡◌, ℕ, zero, suc, Bool, true, List, [], ◌∷◌, length, length-set, refl, sym, ap, ◌∙◌, ⊎_elim, arith, None, Some}
use Rattle.std.specs.Prelude.{Option, slice_index_or}
use Rattle.std.specs.List.{list_all}
use Rattle.model_core.specs.declared.label.Label.{Label}
use Rattle.model_core.specs.declared.entry.Entry.{Entry}
use Rattle.model_core.specs.declared.entry.Entry.TheVariants.{Queue, Wipe, Last}
use Rattle.model_core.specs.declared.graph.Node.{Node}
use Rattle.model_core.specs.declared.graph.Node.TheVariants.{Plain, Raw, Ephe}
use Rattle.model_core.specs.declared.state.DomainState.{DomainState}
use Rattle.model_core.specs.declared.state.State.{State}
use Rattle.model_core.specs.Graph.{labels, node_at}
use Rattle.model_core.specs.Domains.{domain_at, no_domain, with_block, with_domain}
use Rattle.model_core.specs.Entries.{keys_at, next, wiped, with_last_queued, with_queued, with_taken, with_wiped}
use Rattle.model_core.specs.History.{state_after}
use Rattle.model_core.proofs.Graphs.GraphLemmas.{labels-with_node}
use Rattle.model_core.proofs.Graphs.ListLemmas.{set_cases}
use Rattle.model_traces.specs.Schedules.Sameness.{AreSameDomains, IsSameDomain, is_queue, is_taking}
use Rattle.model_traces.proofs.OfSchedules.Holding.{AreDomainsHeld, IsDomainHeld}

-- one part of a domain that no queue entry touches
pub queued_keeps : {B : Type 0} (f : DomainState → B) → ((x : DomainState) (places : List ℕ) → f (with_queued x places) ≡ f x) → (t : State) (h : List Entry) → list_all is_queue h ≡ true → (d : ℕ) → f (domain_at (state_after t h) d) ≡ f (domain_at t d)
queued_keeps f keeps t [] all d = refl
queued_keeps f keeps t (Queue e places ∷ h) all d = queued_keeps f keeps (next t (Queue e places)) h all d ∙ ⊎_elim
    (λ (here : (d ≡ e) × (domain_at (next t (Queue e places)) d ≡ with_queued (domain_at t e) places)). ap f here.1 ∙ keeps (domain_at t e) places ∙ ap (λ n. f (domain_at t n)) (sym here.0))
    (λ (there : domain_at (next t (Queue e places)) d ≡ domain_at t d). ap f there)
    (set_cases t.domains e (with_queued (domain_at t e) places) no_domain d)
queued_keeps f keeps t (e ∷ h) all d = cc

-- and one of the state
pub queued_leaves : {B : Type 0} (f : State → B) → ((t : State) (d : ℕ) (x : DomainState) → f (with_domain t d x) ≡ f t) → (t : State) (h : List Entry) → list_all is_queue h ≡ true → f (state_after t h) ≡ f t
queued_leaves f leaves t [] all = refl
queued_leaves f leaves t (Queue e places ∷ h) all = queued_leaves f leaves (next t (Queue e places)) h all ∙ leaves t e (with_queued (domain_at t e) places)
queued_leaves f leaves t (e ∷ h) all = cc

pub wiped_domains : (t : State) (l : Label) (places : List ℕ) (o : Option Node) (ls : List Label) → (with_taken (with_wiped t l (wiped places o)) ls).domains ≡ t.domains
wiped_domains t l places None ls = refl
wiped_domains t l places (Some (Plain tag fields)) ls = refl
wiped_domains t l places (Some (Raw tag fields)) ls = refl
wiped_domains t l places (Some (Ephe keys datum)) ls = refl

-- the same behind the seal
pub taken_keeps : {B : Type 0} (f : DomainState → B) → ((x : DomainState) (place : ℕ) → f (with_last_queued x place) ≡ f x) → (t : State) (h : List Entry) → list_all is_taking h ≡ true → (d : ℕ) → f (domain_at (state_after t h) d) ≡ f (domain_at t d)
taken_keeps f keeps t [] all d = refl
taken_keeps f keeps t (Last e place ∷ h) all d = taken_keeps f keeps (next t (Last e place)) h all d ∙ ⊎_elim
    (λ (here : (d ≡ e) × (domain_at (next t (Last e place)) d ≡ with_last_queued (domain_at t e) place)). ap f here.1 ∙ keeps (domain_at t e) place ∙ ap (λ n. f (domain_at t n)) (sym here.0))
    (λ (there : domain_at (next t (Last e place)) d ≡ domain_at t d). ap f there)
    (set_cases t.domains e (with_last_queued (domain_at t e) place) no_domain d)
taken_keeps f keeps t (Wipe l places ∷ h) all d = taken_keeps f keeps (next t (Wipe l places)) h all d ∙ ap (λ xs. f (slice_index_or xs d no_domain)) (wiped_domains t l places (node_at t.graph l) (keys_at places (node_at t.graph l)))
taken_keeps f keeps t (e ∷ h) all d = cc

wiped_leaves : {B : Type 0} (f : State → B) → ((t : State) (l : Label) (n : Node) → f (with_block t l n) ≡ f t) → ((t : State) (ls : List Label) → f (with_taken t ls) ≡ f t)
    → (t : State) (l : Label) (places : List ℕ) (o : Option Node) (ls : List Label) → f (with_taken (with_wiped t l (wiped places o)) ls) ≡ f t
wiped_leaves f written taken t l places None ls = taken t ls
wiped_leaves f written taken t l places (Some (Plain tag fields)) ls = taken _ ls ∙ written t l (Plain tag fields)
wiped_leaves f written taken t l places (Some (Raw tag fields)) ls = taken _ ls ∙ written t l (Raw tag fields)
wiped_leaves f written taken t l places (Some (Ephe keys datum)) ls = taken _ ls ∙ written t l _

pub taken_leaves : {B : Type 0} (f : State → B) → ((t : State) (d : ℕ) (x : DomainState) → f (with_domain t d x) ≡ f t) → ((t : State) (l : Label) (n : Node) → f (with_block t l n) ≡ f t)
    → ((t : State) (ls : List Label) → f (with_taken t ls) ≡ f t) → (t : State) (h : List Entry) → list_all is_taking h ≡ true → f (state_after t h) ≡ f t
taken_leaves f leaves written taken t [] all = refl
taken_leaves f leaves written taken t (Last e place ∷ h) all = taken_leaves f leaves written taken (next t (Last e place)) h all ∙ taken _ _ ∙ leaves t e (with_last_queued (domain_at t e) place)
taken_leaves f leaves written taken t (Wipe l places ∷ h) all =
    taken_leaves f leaves written taken (next t (Wipe l places)) h all ∙ wiped_leaves f written taken t l places (node_at t.graph l) (keys_at places (node_at t.graph l))
taken_leaves f leaves written taken t (e ∷ h) all = cc

-- how many domains there are, and which labels
pub domains_stay : (t : State) (d : ℕ) (x : DomainState) → length (with_domain t d x).domains ≡ length t.domains
domains_stay t d x = length-set t.domains d x

pub labels_stay : (t : State) (l : Label) (n : Node) → labels (with_block t l n).graph ≡ labels t.graph
labels_stay t l n = labels-with_node t.graph l n

-- what holds of the domains at each place holds of the lists
pub same_points : (xs ys : List DomainState) → length ys ≡ length xs → ((d : ℕ) → IsSameDomain (slice_index_or xs d no_domain) (slice_index_or ys d no_domain)) → AreSameDomains xs ys
same_points [] [] long each = tt
same_points [] (y ∷ ys) long each = absurd (omega (arith, long))
same_points (x ∷ xs) [] long each = absurd (omega (arith, long))
same_points (x ∷ xs) (y ∷ ys) long each = (each zero, same_points xs ys (omega (arith, long)) (λ d. each (suc d)))

pub held_points : (alive : Label → Bool) (xs : List DomainState) → ((d : ℕ) → IsDomainHeld alive (slice_index_or xs d no_domain)) → AreDomainsHeld alive xs
held_points alive [] each = tt
held_points alive (x ∷ xs) each = (each zero, held_points alive xs (λ d. each (suc d)))
