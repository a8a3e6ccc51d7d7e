-- Worked histories: each law's premise and conclusion occur. And where a law ends: histories that are legal though one might not expect it.
use Rattle.std.proofs.Common.{◌≡◌, ℕ, true, false, not, List, [], ◌∷◌, ◌++◌, map, pos, count_by, refl, rules, length, option_map, Some}
use Rattle.std.specs.List.{list_all}
use Rattle.model_core.specs.declared.label.Label.{Label}
use Rattle.model_core.specs.declared.command.Command.{Command}
use Rattle.model_core.specs.declared.command.Command.TheVariants.{PutInt, Forget, Alloc, Load, Store, Ephe as NewEphe, SetKey, GetKey, CheckKey, SetData, GetData, Finalise, FinaliseLast, FullMajor}
use Rattle.model_core.specs.declared.entry.Entry.{Entry}
use Rattle.model_core.specs.declared.entry.Entry.TheVariants.{Command as CommandOf, End, Cut, Queue, Seal, Wipe, Last, Collected, Done, Ran}
use Rattle.model_core.specs.declared.graph.Value.TheVariants.{Int as IntValue, Block as BlockValue, Nothing}
use Rattle.model_core.specs.declared.reply.Reply.TheVariants.{Done as Ok, Int, Block, No, Last as LastReply, Live}
use Rattle.model_core.specs.declared.state.Pending.TheVariants.{Fin, Last as LastPending}
use Rattle.model_core.specs.declared.state.Sizes.{Sizes}
use Rattle.model_core.specs.declared.state.State.{State}
use Rattle.model_core.specs.Graph.{has_label, node_at}
use Rattle.model_core.specs.Reach.{reachable}
use Rattle.model_core.specs.Domains.{domain_at, queues, opening, reach}
use Rattle.model_core.specs.Entries.{is_gone, left_reach}
use Rattle.model_core.specs.History.{state_after, Legal, replies}
use Rattle.model_core.specs.Registrations.{all_ran, all_registered, left_over}
use Rattle.model_core.specs.Fronts.{PlainShape, shape_of}
use Rattle.model_laws.specs.Histories.Cells.{Field, Key, Datum, content, last_written}
use Rattle.model_laws.specs.Histories.Finalisers.{all_queued, is_final_of}

abbrev heap_of : ℕ → Sizes
heap_of n = record { domains = n; pools = 512; minor_words = 32768; classes = 6 }

abbrev block : ℕ → ℕ → Label
block d n = record { domain = d; serial = n }

abbrev by : ℕ → Command → Entry
by d c = CommandOf d c false

abbrev after : ℕ → List Entry → State
after n h = state_after (opening (heap_of n)) h

-- What is written is seen. Domain 0 makes a block, writes 7 to its field and stores it in the shared block; domain 1 finds it there, and the 7 in it
abbrev published : List Entry
published = map (by 0) (Alloc 1 0 1 ∷ PutInt 2 (pos 7) ∷ Store 1 0 2 ∷ Store 0 3 1 ∷ []) ++ map (by 1) (Load 4 0 3 ∷ Load 5 4 0 ∷ [])

published_legal : Legal (heap_of 2) published
published_legal = search rules

published_last : last_written (heap_of 2) published (block 0 1) (Field 0) ≡ IntValue (pos 7)
published_last = refl

published_replies : replies (heap_of 2) published 1 ≡ Block (block 0 1) ∷ Int (pos 7) ∷ []
published_replies = refl

-- or what was written later: domain 0 writes 8 between the two loads
abbrev overwritten : List Entry
overwritten = map (by 0) (Alloc 1 0 1 ∷ PutInt 2 (pos 7) ∷ Store 1 0 2 ∷ Store 0 3 1 ∷ []) ++ map (by 1) (Load 4 0 3 ∷ [])
    ++ map (by 0) (PutInt 2 (pos 8) ∷ Store 1 0 2 ∷ []) ++ map (by 1) (Load 5 4 0 ∷ [])

overwritten_replies : replies (heap_of 2) overwritten 1 ≡ Block (block 0 1) ∷ Int (pos 8) ∷ []
overwritten_replies = refl

-- A weak key stays while its block is held, through a collection that does nothing else
abbrev held_key : List Entry
held_key = map (by 0) (Alloc 1 0 1 ∷ PutInt 3 (pos 7) ∷ NewEphe 2 1 ∷ SetKey 2 0 1 ∷ SetData 2 3 ∷ []) ++ Cut ∷ Seal ∷ Collected ∷ Done ∷ []

held_key_legal : Legal (heap_of 1) held_key
unfolding reachable
held_key_legal = search rules

held_key_stays : content (after 1 held_key).graph (block 0 2) (Key 0) ≡ BlockValue (block 0 1)
unfolding reachable
held_key_stays = refl

-- and goes with the data once it isn't, at a moment when nothing leads to it; then nothing brings the block back
abbrev dropped_key : List Entry
dropped_key = held_key ++ by 0 (Forget 1) ∷ Cut ∷ Seal ∷ []

dropped_key_legal : Legal (heap_of 1) (dropped_key ++ Wipe (block 0 2) (0 ∷ []) ∷ Collected ∷ Done ∷ [])
unfolding reachable
dropped_key_legal = search rules

dropped_key_gone : is_gone (after 1 dropped_key) (queues (after 1 dropped_key)) (block 0 1) ≡ true
unfolding reachable
dropped_key_gone = refl

dropped_key_emptied : content (after 1 (dropped_key ++ Wipe (block 0 2) (0 ∷ []) ∷ [])).graph (block 0 2) (Key 0) ≡ Nothing
unfolding reachable
dropped_key_emptied = refl

dropped_key_data : content (after 1 (dropped_key ++ Wipe (block 0 2) (0 ∷ []) ∷ [])).graph (block 0 2) Datum ≡ Nothing
unfolding reachable
dropped_key_data = refl

dropped_key_lost : has_label (left_reach (after 1 (dropped_key ++ Wipe (block 0 2) (0 ∷ []) ∷ Collected ∷ []))) (block 0 1) ≡ false
unfolding reachable
dropped_key_lost = refl

-- Registrations. Of three of one block two have run, newest first, and one waits in the queue
abbrev thrice : List Entry
thrice = map (by 0) (Alloc 1 0 1 ∷ Finalise 1 1 2 ∷ Finalise 1 2 2 ∷ Finalise 1 3 2 ∷ FinaliseLast 1 4 ∷ Forget 1 ∷ []) ++ Cut ∷ Queue 0 (0 ∷ 1 ∷ 2 ∷ []) ∷ Seal ∷ Done ∷ Ran 0 ∷ Ran 0 ∷ []

thrice_legal : Legal (heap_of 1) thrice
unfolding reachable
thrice_legal = search rules

thrice_ran : all_ran 0 (opening (heap_of 1)) thrice ≡ Fin 3 (block 0 1) 2 ∷ Fin 2 (block 0 1) 2 ∷ []
unfolding reachable
thrice_ran = refl

thrice_queued : all_queued 0 (opening (heap_of 1)) thrice ≡ Fin 3 (block 0 1) 2 ∷ Fin 2 (block 0 1) 2 ∷ Fin 1 (block 0 1) 2 ∷ []
unfolding reachable
thrice_queued = refl

thrice_left : left_over (domain_at (after 1 thrice) 0) ≡ LastPending 4 ∷ Fin 1 (block 0 1) 2 ∷ []
unfolding reachable
thrice_left = refl

-- the `finalise_last` is queued once all have run and their register holds the block no more
abbrev thrice_done : List Entry
thrice_done = thrice ++ Ran 0 ∷ by 0 (Forget 2) ∷ Cut ∷ Seal ∷ []

thrice_done_legal : Legal (heap_of 1) (thrice_done ++ Last 0 0 ∷ Done ∷ Ran 0 ∷ [])
unfolding reachable
thrice_done_legal = search rules

thrice_done_ran : count_by (is_final_of (block 0 1)) (all_ran 0 (opening (heap_of 1)) thrice_done) ≡ 3
unfolding reachable
thrice_done_ran = refl

-- Where a law ends. A domain's end loses its registrations: those of an ended domain never run, though a `finalise_last` of another one does
abbrev ended_first : List Entry
ended_first = map (by 0) (Alloc 1 0 1 ∷ Store 0 3 1 ∷ FinaliseLast 1 6 ∷ []) ++ map (by 1) (Load 1 0 3 ∷ Finalise 1 5 2 ∷ []) ++ End 1
    ∷ map (by 0) (PutInt 2 (pos 0) ∷ Store 0 3 2 ∷ Forget 1 ∷ []) ++ Cut ∷ Seal ∷ Last 0 0 ∷ Collected ∷ Done ∷ Ran 0 ∷ []

ended_first_legal : Legal (heap_of 2) ended_first
unfolding reachable
ended_first_legal = search rules

ended_first_registered : all_registered 1 (opening (heap_of 2)) ended_first ≡ Fin 5 (block 0 1) 2 ∷ []
unfolding reachable
ended_first_registered = refl

ended_first_lost : left_over (domain_at (after 2 ended_first) 1) ++ all_ran 1 (opening (heap_of 2)) ended_first ≡ []
unfolding reachable
ended_first_lost = refl

-- A weak key may stay though its block can't be reached, where a collection isn't complete; and the block may be had again by it
abbrev unreached_key : List Entry
unreached_key = map (by 0) (Alloc 1 0 1 ∷ NewEphe 2 1 ∷ SetKey 2 0 1 ∷ Forget 1 ∷ []) ++ Cut ∷ Seal ∷ Done ∷ []

unreached_key_legal : Legal (heap_of 1) (unreached_key ++ by 0 (GetKey 3 2 0) ∷ [])
unfolding reachable
unreached_key_legal = search rules

unreached_key_back : replies (heap_of 1) (unreached_key ++ by 0 (GetKey 3 2 0) ∷ []) 0 ≡ Block (block 0 1) ∷ Block (block 0 2) ∷ Ok ∷ Ok ∷ Block (block 0 1) ∷ []
unfolding reachable
unreached_key_back = refl

-- No block comes back after a weak key for it was found empty, not even by a key of an ephemeron that is itself had by a key: `Done` is refused then, though the collection isn't complete
abbrev two_keys_away : List Entry
two_keys_away = map (by 0) (Alloc 1 0 1 ∷ NewEphe 2 1 ∷ SetKey 2 0 1 ∷ NewEphe 3 1 ∷ SetKey 3 0 1 ∷ NewEphe 4 1 ∷ SetKey 4 0 3 ∷ Forget 1 ∷ Forget 3 ∷ [])
    ++ Cut ∷ Seal ∷ Wipe (block 0 2) (0 ∷ []) ∷ []

two_keys_away_legal : Legal (heap_of 1) two_keys_away
unfolding reachable
two_keys_away_legal = search rules

two_keys_away_named : list_all (λ l. not (has_label (left_reach (after 1 two_keys_away)) l)) (after 1 two_keys_away).taken ≡ false
unfolding reachable
two_keys_away_named = refl

-- nor is a `finalise_last` run of a block that is had by two keys
abbrev last_then_key : List Entry
last_then_key = map (by 0) (Alloc 1 0 1 ∷ FinaliseLast 1 7 ∷ NewEphe 3 1 ∷ SetKey 3 0 1 ∷ NewEphe 4 1 ∷ SetKey 4 0 3 ∷ Forget 1 ∷ Forget 3 ∷ [])
    ++ Cut ∷ Seal ∷ Last 0 0 ∷ []

last_then_key_legal : Legal (heap_of 1) last_then_key
unfolding reachable
last_then_key_legal = search rules

last_then_key_named : list_all (λ l. not (has_label (left_reach (after 1 last_then_key)) l)) (after 1 last_then_key).taken ≡ false
unfolding reachable
last_then_key_named = refl

-- nor by the data of an ephemeron that is had by a key
abbrev data_away : List Entry
data_away = map (by 0) (Alloc 1 0 1 ∷ Alloc 2 0 1 ∷ NewEphe 3 1 ∷ SetKey 3 0 1 ∷ NewEphe 5 1 ∷ SetKey 5 0 2 ∷ SetData 5 1 ∷ NewEphe 6 1 ∷ SetKey 6 0 5 ∷ Forget 1 ∷ Forget 2 ∷ Forget 5 ∷ [])
    ++ Cut ∷ Seal ∷ Wipe (block 0 3) (0 ∷ []) ∷ []

data_away_legal : Legal (heap_of 1) data_away
unfolding reachable
data_away_legal = search rules

data_away_named : list_all (λ l. not (has_label (left_reach (after 1 data_away)) l)) (after 1 data_away).taken ≡ false
unfolding reachable
data_away_named = refl

-- Newest first also where a collection queues in several entries: places fall from one to the next
abbrev queued_in_two : List Entry
queued_in_two = map (by 0) (Alloc 1 0 1 ∷ Alloc 2 0 1 ∷ Finalise 1 1 3 ∷ Finalise 2 2 3 ∷ Finalise 1 4 3 ∷ Forget 1 ∷ Forget 2 ∷ []) ++ Cut ∷ Queue 0 (2 ∷ []) ∷ Queue 0 (0 ∷ 1 ∷ []) ∷ []

queued_in_two_legal : Legal (heap_of 1) (queued_in_two ++ Seal ∷ Done ∷ [])
unfolding reachable
queued_in_two_legal = search rules

queued_in_two_queue : (domain_at (after 1 queued_in_two) 0).queue ≡ Fin 4 (block 0 1) 3 ∷ Fin 2 (block 0 2) 3 ∷ Fin 1 (block 0 1) 3 ∷ []
unfolding reachable
queued_in_two_queue = refl

-- A block that was made keeps its kind, tag and length, and one that a register holds is reachable
held_shape : option_map shape_of (node_at (after 1 held_key).graph (block 0 1)) ≡ Some (PlainShape 1 0)
unfolding reachable
held_shape = refl

held_reached : has_label (reach (after 1 held_key)) (block 0 1) ≡ true
unfolding reachable
held_reached = refl

-- `full_major` may be answered several times in one collection, and each time nothing is left to take
abbrev counted_twice : List Entry
counted_twice = map (by 0) (Alloc 1 0 1 ∷ NewEphe 2 1 ∷ SetKey 2 0 1 ∷ Forget 1 ∷ []) ++ Cut ∷ Seal ∷ Wipe (block 0 2) (0 ∷ []) ∷ Collected ∷ by 0 FullMajor ∷ by 0 FullMajor ∷ Done ∷ []

counted_twice_legal : Legal (heap_of 1) counted_twice
unfolding reachable
counted_twice_legal = search rules

counted_twice_replies : replies (heap_of 1) counted_twice 0 ≡ Block (block 0 1) ∷ Block (block 0 2) ∷ Ok ∷ Ok ∷ Live 2 22 ∷ Live 2 22 ∷ []
unfolding reachable
counted_twice_replies = refl

-- All three registrations of one block leave together: once one is queued and the collection is sealed none waits
thrice_together : length (domain_at (after 1 thrice) 0).finals ≡ 0
unfolding reachable
thrice_together = refl

-- Where a collection ends what it took is unreachable
taken_row : (after 1 (dropped_key ++ Wipe (block 0 2) (0 ∷ []) ∷ [])).taken ≡ block 0 1 ∷ []
unfolding reachable
taken_row = refl

taken_unreached : has_label (reach (after 1 (dropped_key ++ Wipe (block 0 2) (0 ∷ []) ∷ []))) (block 0 1) ≡ false
unfolding reachable
taken_unreached = refl
