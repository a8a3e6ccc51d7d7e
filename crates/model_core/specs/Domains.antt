-- The state of the heap: reading and changing the parts of one domain, the opening state, and the limits of the sizes.
use Rattle.std.specs.Prelude.{◌≡◌, ℕ, ◌+◌, ◌*◌, ◌/◌, ◌%◌, ◌<◌, ◌≤◌, ◌⊎◌, Bool, true, false, not, ◌&&◌, ◌==◌, nat_le, if◌then◌else◌, List, [], ◌∷◌, ◌++◌, map, length, flat_map, filter_map, replicate, slice_index_or, slice_set, pos, Option, Some, None}
use Rattle.model_core.specs.declared.label.Label.{Label}
use Rattle.model_core.specs.declared.graph.Value.{Value}
use Rattle.model_core.specs.declared.graph.Value.TheVariants.{Int, Block, Nothing}
use Rattle.model_core.specs.declared.graph.Node.{Node}
use Rattle.model_core.specs.declared.graph.Node.TheVariants.{Plain}
use Rattle.model_core.specs.declared.state.Pending.{Pending}
use Rattle.model_core.specs.declared.state.Pending.TheVariants.{Fin, Last}
use Rattle.model_core.specs.declared.state.Mode.TheVariants.{Open}
use Rattle.model_core.specs.declared.state.DomainState.{DomainState}
use Rattle.model_core.specs.declared.state.Sizes.{Sizes}
use Rattle.model_core.specs.declared.state.State.{State}
use Rattle.model_core.specs.Graph.{label_of, with_node}
use Rattle.model_core.specs.Reach.{reachable, is_reachable}

-- what a number that is no domain's stands for: it has ended
abbrev pub no_domain : DomainState
no_domain = record { registers = []; serial = 0; ended = true; finals = []; lasts = []; queue = []; low = 0; fresh = false; due = 0 }

-- the part of domain d
abbrev pub domain_at : State → ℕ → DomainState
domain_at s d = slice_index_or s.domains d no_domain

-- the state with another part of domain d
abbrev pub with_domain : State → ℕ → DomainState → State
with_domain s d x = record s { domains = slice_set s.domains d x }

-- what register r of domain d holds
abbrev pub register : State → ℕ → ℕ → Value
register s d r = slice_index_or (domain_at s d).registers r Nothing

-- the state with v in register r of domain d
abbrev pub with_register : State → ℕ → ℕ → Value → State
with_register s d r v = with_domain s d (record (domain_at s d) { registers = slice_set (domain_at s d).registers r v })

-- the label in register r of domain d, if it holds one
abbrev pub label_in : State → ℕ → ℕ → Option Label
label_in s d r = label_of (register s d r)

-- the state with another node at a label
abbrev pub with_block : State → Label → Node → State
with_block s l n = record s { graph = with_node s.graph l n }

-- the queues of all domains
abbrev pub queues : State → List (List Pending)
queues s = map (λ x. x.queue) s.domains

-- the label that a queued finaliser keeps alive
abbrev pub pending_label : Pending → Option Label
pending_label (Fin number label register) = Some label
pending_label (Last number) = None

-- the roots: the labels in all registers, and those of the `finalise` entries of the queues
abbrev pub roots : State → List (List Pending) → List Label
roots s qs = flat_map (λ x. filter_map label_of x.registers) s.domains ++ flat_map (filter_map pending_label) qs

-- the labels reachable from the registers and the present queues
abbrev pub reach : State → List Label
reach s = reachable s.graph (roots s (queues s))

-- whether a label is reachable from the registers and these queues
abbrev pub is_reachable_with : State → List (List Pending) → Label → Bool
is_reachable_with s qs l = is_reachable s.graph (roots s qs) l

-- the labels of the waiting registrations: those of `finalise` that are in no queue yet
abbrev pub waiting : State → List Label
waiting s = flat_map (λ x. map (λ f. f.label) x.finals) s.domains

-- the roots with the waiting registrations, each of which may yet bring its value back
abbrev pub settled_roots : State → List (List Pending) → List Label
settled_roots s qs = roots s qs ++ waiting s

-- the labels reachable from the registers, these queues and the waiting registrations
abbrev pub settled_reach : State → List (List Pending) → List Label
settled_reach s qs = reachable s.graph (settled_roots s qs)

-- the shared block
abbrev pub shared_label : Label
shared_label = record { domain = 0; serial = 0 }

-- the shared block's node
abbrev pub shared_node : Node
shared_node = Plain 0 (replicate 16 (Int (pos 0)))

-- the sizes of a heap
abbrev pub sizes_of : ℕ → ℕ → ℕ → ℕ → Sizes
sizes_of domains pools minor_words classes = record { domains = domains; pools = pools; minor_words = minor_words; classes = classes }

-- a domain at the start: register 0 holds the shared block
abbrev pub opening_domain : DomainState
opening_domain = record {
  registers = Block shared_label ∷ replicate 15 Nothing;
  serial = 0;
  ended = false;
  finals = [];
  lasts = [];
  queue = [];
  low = 0;
  fresh = false;
  due = 0;
}

-- the state before the first entry
abbrev pub opening : Sizes → State
opening z = record {
  sizes = z;
  graph = (shared_label, shared_node) ∷ [];
  domains = replicate z.domains opening_domain;
  mode = Open;
  cut = replicate z.domains [];
  kept = 1;
  taken = [];
}

-- how many classes of block sizes a heap has
abbrev pub class_count : ℕ
class_count = 9

-- the pools kept free for promotion
abbrev pub reserve : Sizes → ℕ
reserve z = z.domains * (z.minor_words / 4096 + z.classes)

-- the pools that must be there: promotion never lacks one, each domain may have begun one of each class, and the shared block has its own
abbrev pub least_pools : Sizes → ℕ
least_pools z = reserve z + z.classes * z.domains + 1

-- the limits of the sizes
pub record IsWithinLimits (z : Sizes) : Type 0 where
  pub some_domain : 1 ≤ z.domains
  pub domains : z.domains ≤ 8
  pub some_minor : 4096 ≤ z.minor_words
  pub minor_words : z.minor_words ≤ 65536
  pub whole_pools : z.minor_words % 4096 ≡ 0
  pub classes : (z.classes ≡ 6) ⊎ (z.classes ≡ 9)
  pub some_pools : least_pools z ≤ z.pools
  pub pools : z.pools ≤ 2048

abbrev pub fits_domains : Sizes → Bool
fits_domains z = nat_le 1 z.domains && nat_le z.domains 8

abbrev pub fits_minor_words : Sizes → Bool
fits_minor_words z = nat_le 4096 z.minor_words && nat_le z.minor_words 65536 && z.minor_words % 4096 == 0

abbrev pub fits_pools : Sizes → Bool
fits_pools z = nat_le (least_pools z) z.pools && nat_le z.pools 2048

-- the first of the numbers that is outside its limit, counted from 1: domains, minor words, pools
abbrev pub first_outside : Sizes → Option ℕ
first_outside z =
    if not (fits_domains z) then Some 1
    else (if not (fits_minor_words z) then Some 2
    else (if not (fits_pools z) then Some 3
    else None))

-- the shape that every state of a heap has
pub record IsShaped (s : State) : Type 0 where
  pub limits : IsWithinLimits s.sizes
  pub domain_count : length s.domains ≡ s.sizes.domains
  pub register_count : (d : ℕ) → d < length s.domains → length (domain_at s d).registers ≡ 16
  pub kept_bound : s.kept ≤ length s.graph
