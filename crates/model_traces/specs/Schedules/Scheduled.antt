-- The history of a script under a schedule. It is one of all that the runs of the script may have: the domains make their commands in the order of the schedule, and each complete collection takes all that it may.
use Rattle.std.specs.Prelude.{ℕ, ◌+◌, max, Bool, true, false, ◌&&◌, if◌then◌else◌, List, [], ◌∷◌, ◌++◌, map, filter, flat_map, fold, length, replicate, reverse, slice_get, slice_index_or, slice_set, Option, Some}
use Rattle.std.specs.List.{list_all, range_with_len}
use Rattle.model_core.specs.declared.label.Label.{Label}
use Rattle.model_core.specs.declared.command.Command.{Command}
use Rattle.model_core.specs.declared.command.Command.TheVariants.{FullMajor}
use Rattle.model_core.specs.declared.entry.Entry.{Entry}
use Rattle.model_core.specs.declared.entry.Entry.TheVariants.{Command as CommandOf, End, Cut, Queue, Seal, Wipe, Last, Collected, Done, Ran}
use Rattle.model_core.specs.declared.graph.Node.{Node}
use Rattle.model_core.specs.declared.graph.Node.TheVariants.{Ephe}
use Rattle.model_core.specs.declared.state.Sizes.{Sizes}
use Rattle.model_core.specs.declared.state.State.{State}
use Rattle.model_core.specs.Graph.{has_label, node_at}
use Rattle.model_core.specs.Domains.{domain_at, queues, reach, opening}
use Rattle.model_core.specs.Entries.{is_some_and, is_dead, is_gone, is_let_go, next}
use Rattle.model_core.specs.History.{state_after}
use Rattle.model_traces.specs.declared.schedules.items.Item.{Item}
use Rattle.model_traces.specs.declared.schedules.items.Item.TheVariants.{Turn, Collect}

-- the numbers of the domains
abbrev pub domains_of : State → List ℕ
domains_of s = range_with_len 0 (length s.domains)

-- the places of a list at which an element passes the test
abbrev pub places_where : {A : Type 0} → (A → Bool) → List A → List ℕ
places_where test xs = filter (λ p. is_some_and test (slice_get xs p)) (range_with_len 0 (length xs))

-- all that domain d may queue of its registrations of `finalise`, after the cut
abbrev pub dead_finals : State → ℕ → List ℕ
dead_finals s d = places_where (λ f. is_dead s s.cut f.label) (domain_at s d).finals

-- the entry for these places, if there are any
abbrev pub queuing : ℕ → List ℕ → List Entry
queuing d [] = []
queuing d (p ∷ ps) = Queue d (p ∷ ps) ∷ []

-- all that is queued, for each domain in turn
abbrev pub all_queued : State → List Entry
all_queued s = flat_map (λ d. queuing d (dead_finals s d)) (domains_of s)

-- the labels of the blocks, in their order
abbrev pub labels_in_order : State → List Label
labels_in_order s = record { domain = 0; serial = 0 } ∷ flat_map (λ d. map (λ n. record { domain = d; serial = n }) (range_with_len 1 (domain_at s d).serial)) (domains_of s)

-- the places of all keys of a node that are gone
abbrev pub gone_keys : State → Option Node → List ℕ
gone_keys s (Some (Ephe keys datum)) = places_where (is_some_and (is_gone s (queues s))) keys
gone_keys s _ = []

abbrev pub wiping : Label → List ℕ → List Entry
wiping l [] = []
wiping l (p ∷ ps) = Wipe l (p ∷ ps) ∷ []

-- all that is wiped: of each reachable ephemeron all keys that are gone
abbrev pub all_wiped : State → List Entry
all_wiped s = flat_map (λ l. wiping l (gone_keys s (node_at s.graph l))) (filter (has_label (reach s)) (labels_in_order s))

-- all that domain d may queue of its registrations of `finalise_last`
abbrev pub gone_lasts : State → ℕ → List ℕ
gone_lasts s d = places_where (λ f. is_gone s (queues s) f.label && is_let_go s f.label) (domain_at s d).lasts

-- all that is queued of these, for each domain in turn, the newest first
abbrev pub all_lasts : State → List Entry
all_lasts s = flat_map (λ d. map (λ p. Last d p) (reverse (gone_lasts s d))) (domains_of s)

-- a complete collection, in which these entries stand where it is answered
abbrev pub complete : State → List Entry → List Entry
complete s answered =
    let cut = next s Cut in
    let queued = all_queued cut in
    let sealed = next (state_after cut queued) Seal in
    let wiped = all_wiped sealed in
    let lasts = all_lasts (state_after sealed wiped) in
    Cut ∷ queued ++ Seal ∷ wiped ++ lasts ++ Collected ∷ answered ++ Done ∷ []

-- how far a run under a schedule has come: the state, the commands of each domain that are left, and the history
pub record Played : Type 0 where
  pub state : State
  pub left : List (List Command)
  pub history : List Entry

-- these entries are made
abbrev pub with_entries : Played → List Entry → Played
with_entries p es = record p { state = state_after p.state es; history = p.history ++ es }

-- what domain d makes once its queue has run: its next command, or its end
abbrev pub next_entries : State → ℕ → List Command → List Entry
next_entries s d [] = End d ∷ []
next_entries s d (FullMajor ∷ cs) = complete s (CommandOf d FullMajor false ∷ [])
next_entries s d (c ∷ cs) = CommandOf d c false ∷ []

-- the commands behind the next
abbrev pub behind : List Command → List Command
behind [] = []
behind (c ∷ cs) = cs

-- the commands of domain d that are left
abbrev pub left_of : Played → ℕ → List Command
left_of p d = slice_index_or p.left d []

-- domain d has made its next command or its end
abbrev pub with_next : Played → ℕ → Played
with_next p d = record (with_entries p (next_entries p.state d (left_of p d))) { left = slice_set p.left d (behind (left_of p d)) }

-- a domain that hasn't ended runs its queue, and then makes its next command or its end
abbrev pub turn_on : Played → ℕ → Bool → Played
turn_on p d true = p
turn_on p d false = with_next (with_entries p (replicate (length (domain_at p.state d).queue) (Ran d))) d

abbrev pub take_turn : Played → ℕ → Played
take_turn p d = turn_on p d (domain_at p.state d).ended

-- whether all traces have ended
abbrev pub all_ended : State → Bool
all_ended s = list_all (λ x. x.ended) s.domains

-- an item: a turn, or a complete collection if not all have ended
abbrev pub take_item : Played → Item → Played
take_item p (Turn d) = take_turn p d
take_item p Collect = if all_ended p.state then p else with_entries p (complete p.state [])

-- a turn of each domain
abbrev pub take_round : Played → Played
take_round p = fold take_turn p (domains_of p.state)

-- so many rounds
abbrev pub take_rounds : ℕ → Played → Played
take_rounds n p = fold (λ q d. take_round q) p (range_with_len 0 n)

-- how many rounds end every trace
abbrev pub rounds_of : List (List Command) → ℕ
rounds_of script = fold max 0 (map length script) + 1

-- the start
abbrev pub begun : Sizes → List (List Command) → Played
begun z script = record { state = opening z; left = script; history = [] }

-- the run of a script under a schedule: its items, and then a turn of each domain again and again until all traces have ended
abbrev pub played : Sizes → List (List Command) → List Item → Played
played z script items = take_rounds (rounds_of script) (fold take_item (begun z script) items)

-- its history
abbrev pub scheduled : Sizes → List (List Command) → List Item → List Entry
scheduled z script items = (played z script items).history
