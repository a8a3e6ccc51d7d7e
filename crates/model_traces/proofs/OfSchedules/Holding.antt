-- The domains of two states that are the same but for garbage: what each holds passes the test, and changes side by side keep that.
use Rattle.std.proofs.Common.{◌≡◌, ℕ, zero, suc, Bool, List, [], ◌∷◌, map, flat_map, filter_map, refl}
use Rattle.std.specs.Prelude.{IsTrue, Some, slice_set, slice_index_or}
use Rattle.model_core.specs.declared.label.Label.{Label}
use Rattle.model_core.specs.declared.graph.Node.{Node}
use Rattle.model_core.specs.declared.state.DomainState.{DomainState}
use Rattle.model_core.specs.declared.state.State.{State}
use Rattle.model_core.specs.Graph.{label_of, node_at}
use Rattle.model_core.specs.Domains.{no_domain, pending_label, queues, roots, settled_roots, waiting, with_domain}
use Rattle.model_core.specs.WellFormed.{names_of}
use Rattle.model_traces.specs.Schedules.Sameness.{AllAlive, AreSameDomains, IsHeld, IsSameBut, IsSameDomain}
use Rattle.model_traces.proofs.OfSchedules.Alive.{all_both, all_first, all_second}

abbrev pub in_registers : DomainState → List Label
in_registers x = filter_map label_of x.registers

abbrev pub in_queue : DomainState → List Label
in_queue x = filter_map pending_label x.queue

abbrev pub in_finals : DomainState → List Label
in_finals x = map (λ f. f.label) x.finals

-- what a domain holds passes
pub record IsDomainHeld (alive : Label → Bool) (x : DomainState) : Type 0 where
  pub registers : AllAlive alive (in_registers x)
  pub queue : AllAlive alive (in_queue x)
  pub finals : AllAlive alive (in_finals x)

abbrev pub AreDomainsHeld : (Label → Bool) → List DomainState → Type 0
AreDomainsHeld alive [] = Unit {0}
AreDomainsHeld alive (x ∷ xs) = IsDomainHeld alive x × AreDomainsHeld alive xs

module _ (alive : Label → Bool) where
  held_each : (xs : List DomainState) → AllAlive alive (flat_map in_registers xs) → AllAlive alive (flat_map (filter_map pending_label) (map (λ x. x.queue) xs)) → AllAlive alive (flat_map in_finals xs) → AreDomainsHeld alive xs
  held_each [] a b c = tt
  held_each (x ∷ xs) a b c = (
    record {
      registers = all_first alive (in_registers x) (flat_map in_registers xs) a;
      queue = all_first alive (in_queue x) (flat_map (filter_map pending_label) (map (λ y. y.queue) xs)) b;
      finals = all_first alive (in_finals x) (flat_map in_finals xs) c;
    },
    held_each xs (all_second alive (in_registers x) (flat_map in_registers xs) a) (all_second alive (in_queue x) (flat_map (filter_map pending_label) (map (λ y. y.queue) xs)) b)
        (all_second alive (in_finals x) (flat_map in_finals xs) c),
  )

  held_registers : (xs : List DomainState) → AreDomainsHeld alive xs → AllAlive alive (flat_map in_registers xs)
  held_registers [] h = tt
  held_registers (x ∷ xs) h = all_both alive (in_registers x) (flat_map in_registers xs) h.0.registers (held_registers xs h.1)

  held_queues : (xs : List DomainState) → AreDomainsHeld alive xs → AllAlive alive (flat_map (filter_map pending_label) (map (λ x. x.queue) xs))
  held_queues [] h = tt
  held_queues (x ∷ xs) h = all_both alive (in_queue x) (flat_map (filter_map pending_label) (map (λ y. y.queue) xs)) h.0.queue (held_queues xs h.1)

  held_finals : (xs : List DomainState) → AreDomainsHeld alive xs → AllAlive alive (flat_map in_finals xs)
  held_finals [] h = tt
  held_finals (x ∷ xs) h = all_both alive (in_finals x) (flat_map in_finals xs) h.0.finals (held_finals xs h.1)

  pub held_at : (xs : List DomainState) (d : ℕ) → AreDomainsHeld alive xs → IsDomainHeld alive (slice_index_or xs d no_domain)
  held_at [] d h = record { registers = tt; queue = tt; finals = tt }
  held_at (x ∷ xs) zero h = h.0
  held_at (x ∷ xs) (suc d) h = held_at xs d h.1

  pub held_set : (xs : List DomainState) (d : ℕ) (x : DomainState) → AreDomainsHeld alive xs → IsDomainHeld alive x → AreDomainsHeld alive (slice_set xs d x)
  held_set [] d x h new = tt
  held_set (y ∷ xs) zero x h new = (new, h.1)
  held_set (y ∷ xs) (suc d) x h new = (h.0, held_set xs d x h.1 new)

  pub domains_held : (s : State) → IsHeld s alive → AreDomainsHeld alive s.domains
  domains_held s h =
      let rooted = all_first alive (roots s (queues s)) (waiting s) h.roots in
      held_each s.domains (all_first alive (flat_map in_registers s.domains) (flat_map (filter_map pending_label) (queues s)) rooted)
      (all_second alive (flat_map in_registers s.domains) (flat_map (filter_map pending_label) (queues s)) rooted) (all_second alive (roots s (queues s)) (waiting s) h.roots)

  pub roots_held : (s : State) → AreDomainsHeld alive s.domains → AllAlive alive (settled_roots s (queues s))
  roots_held s h =
      all_both alive (roots s (queues s)) (waiting s) (all_both alive (flat_map in_registers s.domains) (flat_map (filter_map pending_label) (queues s)) (held_registers s.domains h) (held_queues s.domains h))
      (held_finals s.domains h)

same_itself : (x : DomainState) → IsSameDomain x x
same_itself x = record { registers = refl; serial = refl; ended = refl; finals = refl; lasts = refl; queue = refl; fresh = refl; due = refl }

pub same_at : (xs ys : List DomainState) (d : ℕ) → AreSameDomains xs ys → IsSameDomain (slice_index_or xs d no_domain) (slice_index_or ys d no_domain)
same_at [] [] d a = same_itself no_domain
same_at [] (y ∷ ys) d a = absurd a
same_at (x ∷ xs) [] d a = absurd a
same_at (x ∷ xs) (y ∷ ys) zero a = a.0
same_at (x ∷ xs) (y ∷ ys) (suc d) a = same_at xs ys d a.1

pub same_set : (xs ys : List DomainState) (d : ℕ) (x y : DomainState) → AreSameDomains xs ys → IsSameDomain x y → AreSameDomains (slice_set xs d x) (slice_set ys d y)
same_set [] [] d x y a new = tt
same_set [] (z ∷ ys) d x y a new = absurd a
same_set (z ∷ xs) [] d x y a new = absurd a
same_set (u ∷ xs) (v ∷ ys) zero x y a new = (new, a.1)
same_set (u ∷ xs) (v ∷ ys) (suc d) x y a new = (a.0, same_set xs ys d x y a.1 new)

-- a domain is changed in both
abbrev pub with_domains : (s t : State) (same : IsSameBut s t) (d : ℕ) (x y : DomainState) → IsDomainHeld same.alive x → IsSameDomain x y → IsSameBut (with_domain s d x) (with_domain t d y)
with_domains s t same d x y held is = record {
  alive = same.alive;
  held = record {
    roots = roots_held same.alive (with_domain s d x) (held_set same.alive s.domains d x (domains_held same.alive s same.held) held);
    nodes = same.held.nodes;
  };
  nodes = same.nodes;
  labels_same = same.labels_same;
  domains = same_set s.domains t.domains d x y same.domains is;
  sizes = same.sizes;
  mode = same.mode;
  kept = same.kept;
}

-- a state all of whose domains hold what passes, with other nodes
pub held_again : (alive : Label → Bool) (s : State) → AreDomainsHeld alive s.domains → ((l : Label) (n : Node) → IsTrue (alive l) → node_at s.graph l ≡ Some n → AllAlive alive (names_of n)) → IsHeld s alive
held_again alive s held nodes = record { roots = roots_held alive s held; nodes = nodes }
