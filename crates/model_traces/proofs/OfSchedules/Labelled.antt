-- Each block has the label of the shared block, or one that a domain gave out. So the labels in their order are all there are.
use Rattle.std.proofs.Common.{◌≡◌, ◌⊎◌, inl, inr, ℕ, zero, suc, ◌+◌, ◌<◌, ◌≤◌, true, false, IsTrue, ◌≢◌, List, [], ◌∷◌, map, flat_map, length, length-set, refl, sym, ◌∙◌, subst, ⊎_elim, arith}
use Rattle.std.specs.Prelude.{Option, None, Some}
use Rattle.std.specs.List.{range_with_len}
use Rattle.std.proofs.lemmas.Bool.{cases_eq}
use Rattle.std.proofs.lemmas.List.{length-map}
use Rattle.model_core.specs.declared.label.Label.{Label}
use Rattle.model_core.specs.declared.command.Command.{Command}
use Rattle.model_core.specs.declared.entry.Entry.{Entry}
use Rattle.model_core.specs.declared.entry.Entry.TheVariants.{Command as CommandOf, End, Cut, Queue, Seal, Wipe, Last as LastOf, Collected, Done, Ran}
use Rattle.model_core.specs.declared.graph.Node.{Node}
use Rattle.model_core.specs.declared.graph.Node.TheVariants.{Plain, Raw, Ephe}
use Rattle.model_core.specs.declared.state.Pending.{Pending}
use Rattle.model_core.specs.declared.state.Pending.TheVariants.{Fin, Last}
use Rattle.model_core.specs.declared.state.Sizes.{Sizes}
use Rattle.model_core.specs.declared.state.State.{State}
use Rattle.model_core.specs.Graph.{has_label, labels, node_at, same_label}
use Rattle.model_core.specs.Domains.{domain_at, opening, shared_label, with_block, with_register}
use Rattle.model_core.specs.Commands.{allocated, outcome, with_final, with_last}
use Rattle.model_core.specs.Entries.{Allowed, after_run, next, wiped, with_wiped}
use Rattle.model_core.specs.History.{Legal, LegalFrom, state_after}
use Rattle.model_core.proofs.Commands.FrameLemmas.{inside_running}
use Rattle.model_core.proofs.Commands.MoveLemmas.{moved}
use Rattle.model_core.proofs.Graphs.GraphLemmas.{labels-with_node, same_label-true, same_label_refl}
use Rattle.model_core.proofs.Histories.NumberLemmas.{numbered_after, numbered_opening}
use Rattle.model_core.proofs.Histories.WellFormedLemmas.{labels-append}
use Rattle.model_core.proofs.Reach.ReachLemmas.{has-append_cases, has-append_left, has-append_right, or_cases, or_left}
use Rattle.model_traces.specs.Schedules.Scheduled.{labels_in_order}
use Rattle.model_traces.proofs.OfSchedules.Placing.{next_place}

-- the label of the shared block, or one that a domain gave out
abbrev IsOwned : State → Label → Type 0
IsOwned s l = (l ≡ shared_label) ⊎ ((l.domain < length s.domains) × (1 ≤ l.serial))

abbrev AreOwned : State → Type 0
AreOwned s = (l : Label) → IsTrue (has_label (labels s.graph) l) → IsOwned s l

owned_same : (s t : State) → labels t.graph ≡ labels s.graph → length t.domains ≡ length s.domains → AreOwned s → AreOwned t
owned_same s t given many owned l h = ⊎_elim (λ shared. inl shared) (λ own. let inside : l.domain < length t.domains = omega (arith, own.0, many) in inr (inside, own.1)) (owned l (subst (λ z. IsTrue (has_label z l)) given h))

wiped_labels : (s : State) (l : Label) (places : List ℕ) (o : Option Node) → labels (with_wiped s l (wiped places o)).graph ≡ labels s.graph
wiped_labels s l places None = refl
wiped_labels s l places (Some (Plain tag fields)) = labels-with_node s.graph l _
wiped_labels s l places (Some (Raw tag fields)) = labels-with_node s.graph l _
wiped_labels s l places (Some (Ephe keys datum)) = labels-with_node s.graph l _

wiped_many : (s : State) (l : Label) (places : List ℕ) (o : Option Node) → length (with_wiped s l (wiped places o)).domains ≡ length s.domains
wiped_many s l places None = refl
wiped_many s l places (Some (Plain tag fields)) = refl
wiped_many s l places (Some (Raw tag fields)) = refl
wiped_many s l places (Some (Ephe keys datum)) = refl

owned_run : (s : State) (d : ℕ) (queue : List Pending) → AreOwned s → AreOwned (after_run s d queue)
owned_run s d [] owned = owned
owned_run s d (Fin number l r ∷ rest) owned = owned_same s (after_run s d (Fin number l r ∷ rest)) refl (length-set _ d _ ∙ length-set s.domains d _) owned
owned_run s d (Last number ∷ rest) owned = owned_same s (after_run s d (Last number ∷ rest)) refl (length-set s.domains d _) owned

module _ (s : State) (owned : AreOwned s) (d : ℕ) (within : d < length s.domains) where
  owned_allocated : (dst : ℕ) (n : Node) → AreOwned (allocated s d dst n).state
  owned_allocated dst n k h =
      let l : Label = record { domain = d; serial = (domain_at s d).serial + 1 } in
      let many : length (allocated s d dst n).state.domains ≡ length s.domains = length-set _ d _ ∙ length-set s.domains d _ in
      ⊎_elim
      (λ old. ⊎_elim (λ shared. inl shared) (λ own. inr (let is : k.domain < length (allocated s d dst n).state.domains = omega (arith, own.0, many) in is, own.1)) (owned k old))
      (λ here. ⊎_elim
      (λ e. let is : l ≡ k = same_label-true l k e in
      inr (subst (λ (z : Label). (z.domain < length (allocated s d dst n).state.domains) × (1 ≤ z.serial)) is (let few : d < length (allocated s d dst n).state.domains = omega (arith, within, many) in few, omega arith)))
      (λ none. absurd (let clash : false ≡ true = none in cc))
      (or_cases (same_label l k) false here))
      (has-append_cases (labels s.graph) (l ∷ []) k (subst (λ z. IsTrue (has_label z k)) (labels-append s.graph ((l, n) ∷ [])) h))

  owned_outcome : (c : Command) → AreOwned (outcome s d c).state
  owned_outcome c = moved AreOwned s d c (record {
    same = owned;
    held = λ r v named. owned_same s (with_register s d r v) refl (length-set s.domains d _) owned;
    written = λ l old new at found same named full. owned_same s (with_block s l new) (labels-with_node s.graph l new) refl owned;
    made = λ is dst n named full. owned_allocated dst n;
    registered = λ is f named. owned_same s (with_final s d f) refl (length-set s.domains d _) owned;
    registered_last = λ is f named. owned_same s (with_last s d f) refl (length-set s.domains d _) owned;
  })

owned_next : (s : State) (e : Entry) → Allowed s e → AreOwned s → AreOwned (next s e)
owned_next s (CommandOf d c true) allowed owned = owned_same s (next s (CommandOf d c true)) refl (length-set s.domains d _) owned
owned_next s (CommandOf d c false) allowed owned = owned_same (outcome s d c).state (next s (CommandOf d c false)) refl (length-set (outcome s d c).state.domains d _) (owned_outcome s owned d (inside_running s.domains d allowed.running) c)
owned_next s (End d) allowed owned = owned_same s (next s (End d)) refl (length-set s.domains d _) owned
owned_next s Cut allowed owned = owned_same s (next s Cut) refl (length-map s.domains _) owned
owned_next s (Queue d places) allowed owned = owned_same s (next s (Queue d places)) refl (length-set s.domains d _) owned
owned_next s Seal allowed owned = owned_same s (next s Seal) refl (length-map s.domains _) owned
owned_next s (Wipe l keys) allowed owned = owned_same s (next s (Wipe l keys)) (wiped_labels s l keys (node_at s.graph l)) (wiped_many s l keys (node_at s.graph l)) owned
owned_next s (LastOf d place) allowed owned = owned_same s (next s (LastOf d place)) refl (length-set s.domains d _) owned
owned_next s Collected allowed owned = owned_same s (next s Collected) refl (length-map s.domains _) owned
owned_next s Done allowed owned = owned_same s (next s Done) refl refl owned
owned_next s (Ran d) allowed owned = owned_run s d (domain_at s d).queue owned

owned_after : (s : State) (h : List Entry) → LegalFrom s h → AreOwned s → AreOwned (state_after s h)
owned_after s [] legal owned = owned
owned_after s (e ∷ h) legal owned = owned_after (next s e) h legal.1 (owned_next s e legal.0 owned)

owned_opening : (z : Sizes) → AreOwned (opening z)
owned_opening z l h = ⊎_elim (λ e. inl (sym (same_label-true shared_label l e))) (λ none. absurd (let clash : false ≡ true = none in cc)) (or_cases (same_label shared_label l) false h)

-- a label stands in the list of its domain's
has_cons : (k l : Label) (ls : List Label) → IsTrue (has_label ls l) → IsTrue (has_label (k ∷ ls) l)
has_cons k l ls h = has-append_right (k ∷ []) ls l h

in_range : (d a n : ℕ) (m : ℕ) → a ≤ m → m < a + n → IsTrue (has_label (map (λ k. record { domain = d; serial = k }) (range_with_len a n)) (record { domain = d; serial = m }))
in_range d a zero m more less = absurd (omega (arith, more, less))
in_range d a (suc n) m more less = ⊎_elim
    (λ (is : m ≡ a). subst (λ k. IsTrue (has_label (map (λ x. record { domain = d; serial = x }) (range_with_len a (suc n))) (record { domain = d; serial = k }))) (sym is)
    (or_left (same_label (record { domain = d; serial = a }) (record { domain = d; serial = a })) _ (same_label_refl (record { domain = d; serial = a }))))
    (λ (apart : m ≢ a). has_cons (record { domain = d; serial = a }) (record { domain = d; serial = m }) (map (λ x. record { domain = d; serial = x }) (range_with_len (a + 1) n))
    (in_range d (a + 1) n m (next_place a m more apart) (omega (arith, less))))
    (cases_eq m a)

in_domains : (f : ℕ → List Label) (l : Label) (d a n : ℕ) → a ≤ d → d < a + n → IsTrue (has_label (f d) l) → IsTrue (has_label (flat_map f (range_with_len a n)) l)
in_domains f l d a zero more less h = absurd (omega (arith, more, less))
in_domains f l d a (suc n) more less h = ⊎_elim
    (λ (is : d ≡ a). has-append_left (f a) (flat_map f (range_with_len (a + 1) n)) l (subst (λ k. IsTrue (has_label (f k) l)) is h))
    (λ (apart : d ≢ a). has-append_right (f a) (flat_map f (range_with_len (a + 1) n)) l (in_domains f l d (a + 1) n (next_place a d more apart) (omega (arith, less)) h))
    (cases_eq d a)

abbrev of_domain : State → ℕ → List Label
of_domain s d = map (λ n. record { domain = d; serial = n }) (range_with_len 1 (domain_at s d).serial)

ordered_of : (s : State) (l : Label) → IsOwned s l → l.serial ≤ (domain_at s l.domain).serial → IsTrue (has_label (labels_in_order s) l)
ordered_of s l (inl shared) few = subst (λ z. IsTrue (has_label (labels_in_order s) z)) (sym shared) refl
ordered_of s l (inr own) few =
    has_cons shared_label l (flat_map (of_domain s) (range_with_len 0 (length s.domains)))
    (in_domains (of_domain s) l l.domain 0 (length s.domains) (omega arith) (omega (arith, own.0)) (in_range l.domain 1 (domain_at s l.domain).serial l.serial own.1 (omega (arith, few))))

-- each block's label is among the labels in their order
pub labels_ordered : (z : Sizes) (h : List Entry) → Legal z h → (l : Label) → IsTrue (has_label (labels (state_after (opening z) h).graph) l) → IsTrue (has_label (labels_in_order (state_after (opening z) h)) l)
labels_ordered z h legal l has =
    let s : State = state_after (opening z) h in
    ordered_of s l (owned_after (opening z) h legal (owned_opening z) l has) (numbered_after (opening z) h legal (numbered_opening z) l has)
