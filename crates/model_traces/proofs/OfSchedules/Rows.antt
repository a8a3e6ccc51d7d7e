-- Worked rows: what scripts answer under a schedule.
use Rattle.std.proofs.Common.{◌≡◌, ℕ, false, List, [], ◌∷◌, ◌++◌, map, replicate, pos, refl, rules}
use Rattle.model_core.specs.declared.label.Label.{Label}
use Rattle.model_core.specs.declared.command.Command.{Command}
use Rattle.model_core.specs.declared.command.Command.TheVariants.{PutInt, Forget, Alloc, Load, Store, Ephe, SetKey, CheckKey, Finalise, FinaliseLast, FullMajor}
use Rattle.model_core.specs.declared.entry.Entry.{Entry}
use Rattle.model_core.specs.declared.entry.Entry.TheVariants.{Command as CommandOf, End, Cut, Seal, Wipe, Collected, Done}
use Rattle.model_core.specs.declared.reply.Reply.TheVariants.{Yes, Done as Ok, Int, Block, No, Live, Fin, Last as LastReply}
use Rattle.model_core.specs.declared.state.Sizes.{Sizes}
use Rattle.model_core.specs.Reach.{reachable}
use Rattle.model_core.specs.History.{Legal, replies}
use Rattle.model_traces.specs.declared.schedules.items.Item.{Item}
use Rattle.model_traces.specs.declared.schedules.items.Item.TheVariants.{Turn, Collect}
use Rattle.model_traces.specs.Schedules.Scheduled.{scheduled}

abbrev sizes : ℕ → Sizes
sizes n = record { domains = n; pools = 512; minor_words = 32768; classes = 6 }

abbrev block : ℕ → Label
block n = record { domain = 0; serial = n }

abbrev run : Command → Entry
run c = CommandOf 0 c false

-- domain 0 loads what domain 1 stores
abbrev race : List (List Command)
race = (Load 1 0 0 ∷ []) ∷ (PutInt 1 (pos 5) ∷ Store 0 0 1 ∷ []) ∷ []

-- domain 1 first
abbrev store_first : List Item
store_first = Turn 1 ∷ Turn 1 ∷ Turn 0 ∷ []

store_first_loads : replies (sizes 2) (scheduled (sizes 2) race store_first) 0 ≡ Int (pos 5) ∷ []
store_first_loads = refl

store_first_stores : replies (sizes 2) (scheduled (sizes 2) race store_first) 1 ≡ Ok ∷ Ok ∷ []
store_first_stores = refl

-- which history that is
store_first_history : scheduled (sizes 2) race store_first ≡ CommandOf 1 (PutInt 1 (pos 5)) false ∷ CommandOf 1 (Store 0 0 1) false ∷ CommandOf 0 (Load 1 0 0) false ∷ End 0 ∷ End 1 ∷ []
store_first_history = refl

-- no schedule: domain 0 is first
load_first_loads : replies (sizes 2) (scheduled (sizes 2) race []) 0 ≡ Int (pos 0) ∷ []
load_first_loads = refl

-- a key that nothing else holds, and a collection
abbrev weak_key : List (List Command)
weak_key = (Alloc 1 0 1 ∷ Ephe 2 1 ∷ SetKey 2 0 1 ∷ Forget 1 ∷ CheckKey 2 0 ∷ []) ∷ []

abbrev then_collect : List Item
then_collect = replicate 4 (Turn 0) ++ Collect ∷ []

collected_key : replies (sizes 1) (scheduled (sizes 1) weak_key then_collect) 0 ≡ Block (block 1) ∷ Block (block 2) ∷ Ok ∷ Ok ∷ No ∷ []
unfolding reachable
collected_key = refl

abbrev collected_key_history : List Entry
collected_key_history =
    map run (Alloc 1 0 1 ∷ Ephe 2 1 ∷ SetKey 2 0 1 ∷ Forget 1 ∷ []) ++ Cut ∷ Seal ∷ Wipe (block 2) (0 ∷ []) ∷ Collected ∷ Done ∷ run (CheckKey 2 0) ∷ End 0 ∷ []

collected_key_is : scheduled (sizes 1) weak_key then_collect ≡ collected_key_history
unfolding reachable
collected_key_is = refl

collected_key_legal : Legal (sizes 1) collected_key_history
unfolding reachable
collected_key_legal = search rules

-- without it the key is there still
kept_key : replies (sizes 1) (scheduled (sizes 1) weak_key (replicate 4 (Turn 0))) 0 ≡ Block (block 1) ∷ Block (block 2) ∷ Ok ∷ Ok ∷ Yes ∷ []
unfolding reachable
kept_key = refl

-- a block with finalisers of both kinds, one domain's `full_major` beside another's command
abbrev finalisers : List (List Command)
finalisers = (Alloc 1 0 1 ∷ Finalise 1 5 2 ∷ FinaliseLast 1 6 ∷ Forget 1 ∷ FullMajor ∷ Forget 2 ∷ FullMajor ∷ []) ∷ (FullMajor ∷ []) ∷ []

abbrev by_domain_0 : List Item
by_domain_0 = replicate 7 (Turn 0)

finalisers_run : replies (sizes 2) (scheduled (sizes 2) finalisers by_domain_0) 0 ≡ Block (block 1) ∷ Ok ∷ Ok ∷ Ok ∷ Live 2 21 ∷ Fin 5 (block 1) ∷ Ok ∷ Live 1 18 ∷ LastReply 6 ∷ []
unfolding reachable
finalisers_run = refl

-- the other domain's `full_major` has a collection of its own, in its own turn: here the second of all, before the first block is dropped for good
abbrev other_between : List Item
other_between = replicate 5 (Turn 0) ++ Turn 1 ∷ []

other_answers : replies (sizes 2) (scheduled (sizes 2) finalisers other_between) 1 ≡ Live 2 21 ∷ []
unfolding reachable
other_answers = refl

-- and here the last
other_answers_last : replies (sizes 2) (scheduled (sizes 2) finalisers by_domain_0) 1 ≡ Live 1 18 ∷ []
unfolding reachable
other_answers_last = refl
