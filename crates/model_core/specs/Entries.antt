-- The entries: when each is allowed, the state that it leaves, and what it answers.
use Rattle.std.specs.Prelude.{◌≡◌, ◌≢◌, ℕ, ◌<◌, ◌-◌, ◌^◌, Bool, true, false, not, ◌||◌, List, [], ◌∷◌, ◌++◌, map, reverse, length, filter_map, flat_map, replicate, slice_get, slice_index, slice_set, drop, remove, IsTrue, nat_lt, ◌&&◌, Option, Some, None}
use Rattle.std.specs.List.{list_any, list_all}
use Rattle.std.specs.Option.{option_map_or}
use Rattle.model_core.specs.declared.label.Label.{Label}
use Rattle.model_core.specs.declared.command.Command as declared_command
use Rattle.model_core.specs.declared.command.Command.TheVariants.{Alloc, AllocMaj, Raw as NewRaw, Ephe as NewEphe}
use Rattle.model_core.specs.declared.entry.Entry.{Entry}
use Rattle.model_core.specs.declared.entry.Entry.TheVariants.{Command, End, Cut, Queue, Seal, Wipe, Last, Collected, Done, Ran}
use Rattle.model_core.specs.declared.reply.Reply.TheVariants.{Fin as FinReply, Last as LastReply}
use Rattle.model_core.specs.declared.reply.Applied.{Applied}
use Rattle.model_core.specs.declared.reply.Applied.TheVariants.{Replied, Silent}
use Rattle.model_core.specs.declared.graph.Value.TheVariants.{Block, Nothing}
use Rattle.model_core.specs.declared.graph.Node.{Node}
use Rattle.model_core.specs.declared.graph.Node.TheVariants.{Plain, Raw, Ephe}
use Rattle.model_core.specs.declared.state.Mode.{Mode}
use Rattle.model_core.specs.declared.state.Mode.TheVariants.{Open, Cut as CutMode, Sealed, Answer}
use Rattle.model_core.specs.declared.state.Pending.{Pending}
use Rattle.model_core.specs.declared.state.Pending.TheVariants.{Fin, Last as LastPending}
use Rattle.model_core.specs.declared.state.DomainState.{DomainState}
use Rattle.model_core.specs.declared.state.Finaliser.{Finaliser}
use Rattle.model_core.specs.declared.state.LastFinaliser.{LastFinaliser}
use Rattle.model_core.specs.declared.state.State.{State}
use Rattle.model_core.specs.Graph.{Graph, same_label, has_label, label_of, node_at}
use Rattle.model_core.specs.Domains.{domain_at, with_domain, with_register, with_block, queues, pending_label, reach, is_reachable_with, waiting, settled_roots, settled_reach}
use Rattle.model_core.specs.Reach.{key_holds, reachable}
use Rattle.model_core.specs.Commands.{key_value, CommandAllowed, command_outcome, after_command}

-- whether the places rise, and are at least one
abbrev pub is_rising : List ℕ → Bool
is_rising [] = false
is_rising (p ∷ []) = true
is_rising (p ∷ q ∷ ps) = nat_lt p q && is_rising (q ∷ ps)

-- whether there is a value, and it passes the test
abbrev pub is_some_and : {A : Type 0} → (A → Bool) → Option A → Bool
is_some_and test o = option_map_or test o false

-- whether the registers and these queues don't reach a label
abbrev pub is_dead : State → List (List Pending) → Label → Bool
is_dead s qs l = not (is_reachable_with s qs l)

-- whether neither these queues nor the registers nor a waiting registration reach a label
abbrev pub is_gone : State → List (List Pending) → Label → Bool
is_gone s qs l = not (has_label (settled_reach s qs) l)

-- the labels of a queue that stand beyond what it held before
abbrev pub queued_after : List Pending → Option (List Pending) → List Label
queued_after queue (Some before) = filter_map pending_label (drop (length before) queue)
queued_after queue None = []

-- the labels of these queues that stand beyond what each of them held before
abbrev pub queued_beyond : List (List Pending) → List (List Pending) → List Label
queued_beyond (queue ∷ qs) (before ∷ olds) = queued_after queue (Some before) ++ queued_beyond qs olds
queued_beyond (queue ∷ qs) [] = []
queued_beyond [] olds = []

-- the elements without those at rising places
abbrev pub without_places : {A : Type 0} → List ℕ → List A → List A
without_places [] xs = xs
without_places (p ∷ ps) xs = remove (without_places ps xs) p

-- the elements at these places
abbrev pub at_places : {A : Type 0} → List ℕ → List A → List A
at_places places xs = filter_map (slice_get xs) places

-- a registration as it waits in a queue
abbrev pub queued_final : Finaliser → Pending
queued_final f = Fin f.number f.label f.register

abbrev pub queued_last : LastFinaliser → Pending
queued_last f = LastPending f.number

-- the keys with those at these places emptied
abbrev pub wiped_keys : List ℕ → List (Option Label) → List (Option Label)
wiped_keys [] keys = keys
wiped_keys (p ∷ ps) keys = slice_set (wiped_keys ps keys) p None

-- whether an option is this label
abbrev pub is_label : Label → Option Label → Bool
is_label l None = false
is_label l (Some k) = same_label k l

-- whether an ephemeron has the label as a key or as its data
abbrev pub ephe_holds : Label → Option Node → Bool
ephe_holds l (Some (Ephe keys datum)) = list_any (is_label l) keys || is_label l (label_of datum)
ephe_holds l (Some (Plain tag fields)) = false
ephe_holds l (Some (Raw tag fields)) = false
ephe_holds l None = false

-- whether no ephemeron that they reach has the label as a key or as its data
abbrev pub is_let_go : State → Label → Bool
is_let_go s l = list_all (λ x. not (ephe_holds l (node_at s.graph x))) (settled_reach s (queues s))

-- Queue: finalisers of domain d whose labels neither the registers nor the queues at the cut reach
pub record QueueAllowed (s : State) (d : ℕ) (places : List ℕ) : Type 0 where
  pub mode : s.mode ≡ CutMode
  pub rising : IsTrue (is_rising places)
  pub below : IsTrue (list_all (λ p. nat_lt p (domain_at s d).low) places)
  pub dead : IsTrue (list_all (λ p. is_some_and (λ f. is_dead s s.cut f.label) (slice_get (domain_at s d).finals p)) places)

-- Seal: what was queued since the cut is reached neither from the rest of the state at the cut nor from a registration that still waits
pub record SealAllowed (s : State) : Type 0 where
  pub mode : s.mode ≡ CutMode
  pub apart : IsTrue (list_all (is_gone s s.cut) (queued_beyond (queues s) s.cut))

-- whether these places of an ephemeron hold full keys that pass a test
abbrev pub has_keys : (Label → Bool) → List ℕ → Option Node → Bool
has_keys test places (Some (Ephe keys datum)) = list_all (λ p. is_some_and (is_some_and test) (slice_get keys p)) places
has_keys test places (Some (Plain tag fields)) = false
has_keys test places (Some (Raw tag fields)) = false
has_keys test places None = false

-- whether these places of an ephemeron hold full keys that are gone
abbrev pub has_gone_keys : State → List ℕ → Option Node → Bool
has_gone_keys s places n = has_keys (is_gone s (queues s)) places n

-- Wipe: full keys of an ephemeron that are gone
pub record WipeAllowed (s : State) (l : Label) (places : List ℕ) : Type 0 where
  pub mode : s.mode ≡ Sealed
  pub rising : IsTrue (is_rising places)
  pub gone : IsTrue (has_gone_keys s places (node_at s.graph l))

-- Last: a `finalise_last` whose label is gone, and which no ephemeron holds that isn't gone itself
pub record LastAllowed (s : State) (d place : ℕ) : Type 0 where
  pub mode : s.mode ≡ Sealed
  pub below : place < (domain_at s d).low
  pub gone : IsTrue (is_some_and (λ f. is_gone s (queues s) f.label && is_let_go s f.label) (slice_get (domain_at s d).lasts place))

-- whether each full key of an ephemeron passes a test
abbrev pub keys_are_live : (Label → Bool) → Option Node → Bool
keys_are_live alive (Some (Ephe keys datum)) = list_all (key_holds alive) keys
keys_are_live alive (Some (Plain tag fields)) = true
keys_are_live alive (Some (Raw tag fields)) = true
keys_are_live alive None = true

-- whether each full key of an ephemeron is reachable
abbrev pub has_live_keys : State → Option Node → Bool
has_live_keys s n = keys_are_live (has_label (reach s)) n

-- Collected: nothing that is permitted is left, and no registration waits that could have been queued
pub record CollectedAllowed (s : State) : Type 0 where
  pub mode : s.mode ≡ Sealed
  pub keys : IsTrue (list_all (λ l. has_live_keys s (node_at s.graph l)) (reach s))
  pub finals : IsTrue (list_all (is_reachable_with s s.cut) (waiting s))
  pub lasts : IsTrue (list_all (λ x. list_all (λ f. has_label (reach s) f.label) x.lasts) s.domains)

-- whether a collection that was sealed may be left
abbrev pub is_sealed : Mode → Bool
is_sealed Sealed = true
is_sealed Answer = true
is_sealed _ = false

-- End, and Ran
pub record EndAllowed (s : State) (d : ℕ) : Type 0 where
  pub mode : s.mode ≡ Open
  pub running : (domain_at s d).ended ≡ false
  pub queue : (domain_at s d).queue ≡ []

pub record RanAllowed (s : State) (d : ℕ) : Type 0 where
  pub mode : s.mode ≡ Open
  pub running : (domain_at s d).ended ≡ false
  pub queue : (domain_at s d).queue ≢ []

-- the labels in the full keys of a node
abbrev pub full_keys : Option Node → List Label
full_keys (Some (Ephe keys datum)) = filter_map (λ k. k) keys
full_keys (Some (Plain tag fields)) = []
full_keys (Some (Raw tag fields)) = []
full_keys None = []

-- a block as one that keeps alive all that it names: the keys of an ephemeron too, and its data in any case
abbrev pub opened_node : Node → Node
opened_node (Plain tag fields) = Plain tag fields
opened_node (Raw tag fields) = Raw tag fields
opened_node (Ephe keys datum) = Plain 0 (datum ∷ map key_value keys)

abbrev pub opened : Graph → Graph
opened g = map (λ e. (e.0, opened_node e.1)) g

-- all that domains may still come to after a collection: what the settled roots and the `finalise_last` that still wait lead to, over fields, keys and data
abbrev pub left_reach : State → List Label
left_reach s = reachable (opened s.graph) (settled_roots s (queues s) ++ flat_map (λ x. map (λ f. f.label) x.lasts) s.domains)

-- Done: what was taken since the seal is not reached from what is left
pub record DoneAllowed (s : State) : Type 0 where
  pub mode : IsTrue (is_sealed s.mode)
  pub apart : IsTrue (list_all (λ l. not (has_label (left_reach s) l)) s.taken)

-- whether an entry is allowed in a state
abbrev pub Allowed : State → Entry → Type 0
Allowed s (Command d c full) = CommandAllowed s d c full
Allowed s (End d) = EndAllowed s d
Allowed s Cut = s.mode ≡ Open
Allowed s (Queue d places) = QueueAllowed s d places
Allowed s Seal = SealAllowed s
Allowed s (Wipe l keys) = WipeAllowed s l keys
Allowed s (Last d place) = LastAllowed s d place
Allowed s Collected = CollectedAllowed s
Allowed s Done = DoneAllowed s
Allowed s (Ran d) = RanAllowed s d

-- the state in another mode, with each domain changed
abbrev pub in_mode : State → Mode → (DomainState → DomainState) → State
in_mode s m f = record s { mode = m; domains = map f s.domains }

-- the domain all of whose registrations of `finalise`, or of `finalise_last`, may be queued
abbrev pub with_finals_open : DomainState → DomainState
with_finals_open x = record x { low = length x.finals }

abbrev pub with_lasts_open : DomainState → DomainState
with_lasts_open x = record x { low = length x.lasts }

-- the domain that has made no entry since a complete collection
abbrev pub freshened : DomainState → DomainState
freshened x = record x { fresh = true }

-- the state after a domain's end
abbrev pub ended : DomainState → DomainState
ended x = record x { registers = replicate (length x.registers) Nothing; finals = []; lasts = []; ended = true }

-- the domain with these finalisers moved to its queue, the last first
abbrev pub with_queued : DomainState → List ℕ → DomainState
with_queued x places = record x {
  finals = without_places places x.finals;
  queue = x.queue ++ map queued_final (at_places (reverse places) x.finals);
  low = slice_index places 0;
}

-- the domain with one `finalise_last` moved to its queue
abbrev pub with_last_queued : DomainState → ℕ → DomainState
with_last_queued x place = record x {
  lasts = remove x.lasts place;
  queue = x.queue ++ map queued_last (at_places (place ∷ []) x.lasts);
  low = place;
}

-- the ephemeron with these keys and its data emptied
abbrev pub wiped : List ℕ → Option Node → Option Node
wiped places (Some (Ephe keys datum)) = Some (Ephe (wiped_keys places keys) Nothing)
wiped places n = n

abbrev pub with_wiped : State → Label → Option Node → State
with_wiped s l None = s
with_wiped s l (Some n) = with_block s l n

-- the labels in the keys of a node at these places
abbrev pub keys_at : List ℕ → Option Node → List Label
keys_at places (Some (Ephe keys datum)) = filter_map (λ k. k) (at_places places keys)
keys_at places (Some (Plain tag fields)) = []
keys_at places (Some (Raw tag fields)) = []
keys_at places None = []

-- the state in which these labels were taken besides
abbrev pub with_taken : State → List Label → State
with_taken s ls = record s { taken = s.taken ++ ls }

-- the domain whose queue has lost its first entry: it owes the rest
abbrev pub without_first : DomainState → List Pending → DomainState
without_first x rest = record x { queue = rest; due = length rest }

-- the state after the first finaliser of a queue has run
abbrev pub after_run : State → ℕ → List Pending → State
after_run s d [] = s
after_run s d (Fin number l r ∷ rest) = with_register (with_domain s d (without_first (domain_at s d) rest)) d r (Block l)
after_run s d (LastPending number ∷ rest) = with_domain s d (without_first (domain_at s d) rest)

-- what the first finaliser of a queue answers as it runs
abbrev pub run_reply : List Pending → Applied
run_reply [] = Silent
run_reply (Fin number l r ∷ rest) = Replied (FinReply number l)
run_reply (LastPending number ∷ rest) = Replied (LastReply number)

-- the state that the entry of a command leaves, and what it answers
abbrev pub command_next : State → ℕ → declared_command.Command → Bool → State
command_next s d c full = after_command (command_outcome s d c full).state d

abbrev pub command_reply : State → ℕ → declared_command.Command → Bool → Applied
command_reply s d c full = Replied (command_outcome s d c full).reply

-- the state that an entry leaves
abbrev pub next : State → Entry → State
next s (Command d c full) = command_next s d c full
next s (End d) = with_domain s d (ended (domain_at s d))
next s Cut = record (in_mode s CutMode with_finals_open) { cut = queues s }
next s (Queue d places) = with_domain s d (with_queued (domain_at s d) places)
next s Seal = record (in_mode s Sealed with_lasts_open) { taken = [] }
next s (Wipe l keys) = with_taken (with_wiped s l (wiped keys (node_at s.graph l))) (keys_at keys (node_at s.graph l))
next s (Last d place) = with_taken (with_domain s d (with_last_queued (domain_at s d) place)) (map (λ f. f.label) (at_places (place ∷ []) (domain_at s d).lasts))
next s Collected = record (in_mode s Answer freshened) { kept = length (reach s) }
next s Done = record s { mode = Open }
next s (Ran d) = after_run s d (domain_at s d).queue

-- what an entry answers
abbrev pub reply : State → Entry → Applied
reply s (Command d c full) = command_reply s d c full
reply s (Ran d) = run_reply (domain_at s d).queue
reply s _ = Silent

-- the domain's next serial fits 32 bits, where a command allocates
abbrev pub HasNextSerial : State → ℕ → declared_command.Command → Type 0
HasNextSerial s d (Alloc dst tag fields) = (domain_at s d).serial < 2 ^ 32 - 1
HasNextSerial s d (AllocMaj dst tag fields) = (domain_at s d).serial < 2 ^ 32 - 1
HasNextSerial s d (NewRaw dst tag fields) = (domain_at s d).serial < 2 ^ 32 - 1
HasNextSerial s d (NewEphe dst keys) = (domain_at s d).serial < 2 ^ 32 - 1
HasNextSerial s d _ = Unit {0}

-- an entry that names a domain names one of the heap's, and an allocation finds a serial
abbrev pub IsInRange : State → Entry → Type 0
IsInRange s (Command d c full) = (d < s.sizes.domains) × HasNextSerial s d c
IsInRange s (End d) = d < s.sizes.domains
IsInRange s (Queue d places) = d < s.sizes.domains
IsInRange s (Last d place) = d < s.sizes.domains
IsInRange s (Ran d) = d < s.sizes.domains
IsInRange s _ = Unit {0}
