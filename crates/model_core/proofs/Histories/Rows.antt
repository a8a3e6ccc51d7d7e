-- Worked rows: the definitions compute what the manual's examples say.
use Rattle.std.proofs.Common.{◌≡◌, ◌≤◌, true, ℕ, false, List, [], ◌∷◌, ◌++◌, map, pos, refl, arith, rules}
use Rattle.model_core.specs.declared.label.Label.{Label}
use Rattle.model_core.specs.declared.command.Command.{Command}
use Rattle.model_core.specs.declared.command.Command.TheVariants.{PutInt, Forget, Alloc, Load, Store, Raw as NewRaw, Cas, Minor, Spawn, Argument, PutResult, Join, Ephe as NewEphe, SetKey, CheckKey, SetData, CheckData, Finalise, FinaliseLast, Poll, FullMajor}
use Rattle.model_core.specs.declared.entry.Entry.{Entry}
use Rattle.model_core.specs.declared.entry.Entry.TheVariants.{Command as CommandOf, End, Cut, Queue, Seal, Wipe, Last, Collected, Done, Ran}
use Rattle.model_core.specs.declared.reply.Reply.TheVariants.{Yes, Done as Ok, Int, Block, BadType, BadIndex, No, Live, Fin, Last as LastReply}
use Rattle.model_core.specs.declared.state.Sizes.{Sizes}
use Rattle.model_core.specs.Reach.{reachable}
use Rattle.model_core.specs.Domains.{opening}
use Rattle.model_core.specs.Commands.{MayBeFull}
use Rattle.model_core.specs.History.{state_after, Legal, replies}

abbrev sizes : Sizes
sizes = record { domains = 1; pools = 512; minor_words = 32768; classes = 6 }

abbrev run : Command → Entry
run c = CommandOf 0 c false

abbrev block : ℕ → Label
block n = record { domain = 0; serial = n }

-- a plain path: alloc 1 0 2, int 2 7, store 1 0 2, load 3 1 0
abbrev plain_path : List Entry
plain_path = map run (Alloc 1 0 2 ∷ PutInt 2 (pos 7) ∷ Store 1 0 2 ∷ Load 3 1 0 ∷ []) ++ End 0 ∷ []

plain_path_replies : replies sizes plain_path 0 ≡ Block (block 1) ∷ Ok ∷ Ok ∷ Int (pos 7) ∷ []
plain_path_replies = refl

plain_path_legal : Legal sizes plain_path
plain_path_legal = search rules

-- refusals: int 1 5, load 2 1 0, load 2 0 16, load 2 0 15, store 0 0 9
abbrev type_and_bounds : List Entry
type_and_bounds = map run (PutInt 1 (pos 5) ∷ Load 2 1 0 ∷ Load 2 0 16 ∷ Load 2 0 15 ∷ Store 0 0 9 ∷ []) ++ End 0 ∷ []

type_and_bounds_replies : replies sizes type_and_bounds 0 ≡ Ok ∷ BadType ∷ BadIndex ∷ Int (pos 0) ∷ BadType ∷ []
type_and_bounds_replies = refl

-- the data of an ephemeron reaches its own key
abbrev data_reaches_key : List Entry
data_reaches_key =
    map run (Alloc 1 0 1 ∷ Alloc 2 0 1 ∷ Store 2 0 1 ∷ NewEphe 3 1 ∷ SetKey 3 0 1 ∷ SetData 3 2 ∷ Forget 1 ∷ Forget 2 ∷ [])
    ++ Cut ∷ Seal ∷ Wipe (block 3) (0 ∷ []) ∷ Collected ∷ run FullMajor ∷ Done ∷ run (CheckKey 3 0) ∷ run (CheckData 3) ∷ End 0 ∷ []

data_reaches_key_replies : replies sizes data_reaches_key 0 ≡ Block (block 1) ∷ Block (block 2) ∷ Ok ∷ Block (block 3) ∷ Ok ∷ Ok ∷ Ok ∷ Ok ∷ Live 2 22 ∷ No ∷ No ∷ []
unfolding reachable
data_reaches_key_replies = refl

data_reaches_key_legal : Legal sizes data_reaches_key
unfolding reachable
data_reaches_key_legal = search rules

-- the same with no wipe is not legal
abbrev gone_key_left : List Entry
gone_key_left =
    map run (Alloc 1 0 1 ∷ Alloc 2 0 1 ∷ Store 2 0 1 ∷ NewEphe 3 1 ∷ SetKey 3 0 1 ∷ SetData 3 2 ∷ Forget 1 ∷ Forget 2 ∷ [])
    ++ Cut ∷ Seal ∷ Collected ∷ []

-- a full collection of one domain in which these places are queued
abbrev full_major : List Entry → List Entry → List Entry
full_major queued lasts = Cut ∷ queued ++ Seal ∷ lasts ++ Collected ∷ run FullMajor ∷ Done ∷ []

-- alloc 1 0 1, finalise 1 5 2, finalise_last 1 6, drop 1, full_major, full_major, drop 2, full_major
abbrev both_finalisers : List Entry
both_finalisers =
    map run (Alloc 1 0 1 ∷ Finalise 1 5 2 ∷ FinaliseLast 1 6 ∷ Forget 1 ∷ [])
    ++ full_major (Queue 0 (0 ∷ []) ∷ []) [] ++ Ran 0 ∷ full_major [] [] ++ run (Forget 2) ∷ full_major [] (Last 0 0 ∷ []) ++ Ran 0 ∷ End 0 ∷ []

both_finalisers_replies : replies sizes both_finalisers 0 ≡ Block (block 1) ∷ Ok ∷ Ok ∷ Ok ∷ Live 2 21 ∷ Fin 5 (block 1) ∷ Live 2 21 ∷ Ok ∷ Live 1 18 ∷ LastReply 6 ∷ []
unfolding reachable
both_finalisers_replies = refl

both_finalisers_legal : Legal sizes both_finalisers
unfolding reachable
both_finalisers_legal = search rules

-- alloc 1 0 1, finalise 1 1 2, finalise 1 2 2, finalise 1 3 2, drop 1, full_major
abbrev registered_thrice : List Entry
registered_thrice =
    map run (Alloc 1 0 1 ∷ Finalise 1 1 2 ∷ Finalise 1 2 2 ∷ Finalise 1 3 2 ∷ Forget 1 ∷ [])
    ++ full_major (Queue 0 (0 ∷ 1 ∷ 2 ∷ []) ∷ []) [] ++ Ran 0 ∷ Ran 0 ∷ Ran 0 ∷ End 0 ∷ []

registered_thrice_replies : replies sizes registered_thrice 0 ≡ Block (block 1) ∷ Ok ∷ Ok ∷ Ok ∷ Ok ∷ Live 2 21 ∷ Fin 3 (block 1) ∷ Fin 2 (block 1) ∷ Fin 1 (block 1) ∷ []
unfolding reachable
registered_thrice_replies = refl

registered_thrice_legal : Legal sizes registered_thrice
unfolding reachable
registered_thrice_legal = search rules

-- one of three registrations of one value doesn't go alone: the history is legal up to its last entry, Seal
abbrev thrice_queued : List ℕ → List Entry
thrice_queued places =
    map run (Alloc 1 0 1 ∷ Finalise 1 1 2 ∷ Finalise 1 2 2 ∷ Finalise 1 3 2 ∷ Forget 1 ∷ []) ++ Cut ∷ Queue 0 places ∷ []

registered_thrice_alone_until : Legal sizes (thrice_queued (1 ∷ []))
unfolding reachable
registered_thrice_alone_until = search rules

registered_thrice_alone_illegal : Legal sizes (thrice_queued (1 ∷ []) ++ Seal ∷ []) → ⊥
unfolding reachable
registered_thrice_alone_illegal h = let apart : false ≡ true = h.1.1.1.1.1.1.1.0.apart in cc

-- nor does any other part of them
registered_thrice_first_illegal : Legal sizes (thrice_queued (0 ∷ []) ++ Seal ∷ []) → ⊥
unfolding reachable
registered_thrice_first_illegal h = let apart : false ≡ true = h.1.1.1.1.1.1.1.0.apart in cc

registered_thrice_third_illegal : Legal sizes (thrice_queued (2 ∷ []) ++ Seal ∷ []) → ⊥
unfolding reachable
registered_thrice_third_illegal h = let apart : false ≡ true = h.1.1.1.1.1.1.1.0.apart in cc

registered_thrice_last_two_illegal : Legal sizes (thrice_queued (1 ∷ 2 ∷ []) ++ Seal ∷ []) → ⊥
unfolding reachable
registered_thrice_last_two_illegal h = let apart : false ≡ true = h.1.1.1.1.1.1.1.0.apart in cc

-- and a complete collection leaves none of them
registered_thrice_none_illegal : Legal sizes (map run (Alloc 1 0 1 ∷ Finalise 1 1 2 ∷ Finalise 1 2 2 ∷ Finalise 1 3 2 ∷ Forget 1 ∷ []) ++ Cut ∷ Seal ∷ Collected ∷ []) → ⊥
unfolding reachable
registered_thrice_none_illegal h = let reached : false ≡ true = h.1.1.1.1.1.1.1.0.finals in cc

-- `full_major` doesn't come between two of them
abbrev thrice_between : List Entry
thrice_between = thrice_queued (0 ∷ 1 ∷ 2 ∷ []) ++ Seal ∷ Done ∷ Ran 0 ∷ Ran 0 ∷ Cut ∷ Seal ∷ Collected ∷ []

thrice_between_until : Legal sizes thrice_between
unfolding reachable
thrice_between_until = search rules

thrice_between_illegal : Legal sizes (thrice_between ++ run FullMajor ∷ []) → ⊥
unfolding reachable
thrice_between_illegal h = let none_due : ◌≡◌ {A = ℕ} 1 0 = h.1.1.1.1.1.1.1.1.1.1.1.1.1.1.0.fits.1 in omega arith

-- a key doesn't go from one ephemeron alone
abbrev two_ephemerons : List Entry
two_ephemerons =
    map run (Alloc 1 0 1 ∷ NewEphe 2 1 ∷ NewEphe 3 1 ∷ SetKey 2 0 1 ∷ SetKey 3 0 1 ∷ Forget 1 ∷ []) ++ Cut ∷ Seal ∷ Wipe (block 2) (0 ∷ []) ∷ []

two_ephemerons_until : Legal sizes two_ephemerons
unfolding reachable
two_ephemerons_until = search rules

two_ephemerons_illegal : Legal sizes (two_ephemerons ++ Done ∷ []) → ⊥
unfolding reachable
two_ephemerons_illegal h = let apart : false ≡ true = h.1.1.1.1.1.1.1.1.1.0.apart in cc

two_ephemerons_legal : Legal sizes (two_ephemerons ++ Wipe (block 3) (0 ∷ []) ∷ Done ∷ [])
unfolding reachable
two_ephemerons_legal = search rules

-- nor one of two `finalise_last` of one value
abbrev two_lasts : List Entry
two_lasts = map run (Alloc 1 0 1 ∷ FinaliseLast 1 6 ∷ FinaliseLast 1 7 ∷ Forget 1 ∷ []) ++ Cut ∷ Seal ∷ Last 0 0 ∷ []

two_lasts_until : Legal sizes two_lasts
unfolding reachable
two_lasts_until = search rules

two_lasts_illegal : Legal sizes (two_lasts ++ Done ∷ []) → ⊥
unfolding reachable
two_lasts_illegal h = let apart : false ≡ true = h.1.1.1.1.1.1.1.0.apart in cc

-- `finalise_last` of a value doesn't come before its `finalise`
abbrev both_sealed : List Entry
both_sealed = map run (Alloc 1 0 1 ∷ Finalise 1 5 2 ∷ FinaliseLast 1 6 ∷ Forget 1 ∷ []) ++ Cut ∷ Seal ∷ []

both_sealed_legal : Legal sizes both_sealed
unfolding reachable
both_sealed_legal = search rules

last_before_final_illegal : Legal sizes (both_sealed ++ Last 0 0 ∷ []) → ⊥
unfolding reachable
last_before_final_illegal h = let gone : false ≡ true = h.1.1.1.1.1.1.0.gone in cc

-- a second `full_major` doesn't come before the finaliser that the first one queued
abbrev collected_again : List Entry
collected_again =
    map run (Alloc 1 0 1 ∷ Finalise 1 5 2 ∷ FinaliseLast 1 6 ∷ Forget 1 ∷ [])
    ++ full_major (Queue 0 (0 ∷ []) ∷ []) [] ++ Cut ∷ Seal ∷ Collected ∷ []

collected_again_legal : Legal sizes collected_again
unfolding reachable
collected_again_legal = search rules

collected_again_answer_illegal : Legal sizes (collected_again ++ run FullMajor ∷ []) → ⊥
unfolding reachable
collected_again_answer_illegal h = let none_due : ◌≡◌ {A = ℕ} 1 0 = h.1.1.1.1.1.1.1.1.1.1.1.1.1.0.fits.1 in omega arith

-- a key stays whose value a waiting registration still holds
abbrev key_waits : List Entry
key_waits = map run (Alloc 1 0 1 ∷ NewEphe 3 1 ∷ SetKey 3 0 1 ∷ Finalise 1 5 2 ∷ Forget 1 ∷ []) ++ Cut ∷ Seal ∷ []

key_waits_legal : Legal sizes key_waits
unfolding reachable
key_waits_legal = search rules

key_waits_illegal : Legal sizes (key_waits ++ Wipe (block 2) (0 ∷ []) ∷ []) → ⊥
unfolding reachable
key_waits_illegal h = let gone : false ≡ true = h.1.1.1.1.1.1.1.0.gone in cc

-- alloc 1 0 1, ephe 2 1, set_key 2 0 1, finalise_last 1 4, drop 1, full_major, check_key 2 0
abbrev last_and_key : List Entry
last_and_key =
    map run (Alloc 1 0 1 ∷ NewEphe 2 1 ∷ SetKey 2 0 1 ∷ FinaliseLast 1 4 ∷ Forget 1 ∷ [])
    ++ full_major [] (Wipe (block 2) (0 ∷ []) ∷ Last 0 0 ∷ []) ++ Ran 0 ∷ run (CheckKey 2 0) ∷ End 0 ∷ []

last_and_key_replies : replies sizes last_and_key 0 ≡ Block (block 1) ∷ Block (block 2) ∷ Ok ∷ Ok ∷ Ok ∷ Live 2 22 ∷ LastReply 4 ∷ No ∷ []
unfolding reachable
last_and_key_replies = refl

last_and_key_legal : Legal sizes last_and_key
unfolding reachable
last_and_key_legal = search rules

gone_key_left_illegal : Legal sizes gone_key_left → ⊥
unfolding reachable
gone_key_left_illegal h = let alive : false ≡ true = h.1.1.1.1.1.1.1.1.1.1.0.keys in cc

-- a chain of ephemerons in the worst order
abbrev chain_of_ephemerons : List Entry
chain_of_ephemerons =
    map run (Alloc 1 0 1 ∷ Alloc 2 0 1 ∷ Alloc 3 0 1 ∷ Alloc 4 0 1 ∷ NewEphe 5 1 ∷ NewEphe 6 1 ∷ NewEphe 7 1
    ∷ SetKey 5 0 3 ∷ SetData 5 4 ∷ SetKey 6 0 2 ∷ SetData 6 3 ∷ SetKey 7 0 1 ∷ SetData 7 2 ∷ Forget 2 ∷ Forget 3 ∷ Forget 4 ∷ [])
    ++ full_major [] [] ++ map run (CheckData 5 ∷ Forget 1 ∷ [])
    ++ full_major [] (Wipe (block 5) (0 ∷ []) ∷ Wipe (block 6) (0 ∷ []) ∷ Wipe (block 7) (0 ∷ []) ∷ [])
    ++ map run (CheckKey 5 0 ∷ CheckData 5 ∷ []) ++ End 0 ∷ []

chain_of_ephemerons_replies : replies sizes chain_of_ephemerons 0
    ≡ Block (block 1) ∷ Block (block 2) ∷ Block (block 3) ∷ Block (block 4) ∷ Block (block 5) ∷ Block (block 6) ∷ Block (block 7)
    ∷ Ok ∷ Ok ∷ Ok ∷ Ok ∷ Ok ∷ Ok ∷ Ok ∷ Ok ∷ Ok ∷ Live 8 42 ∷ Yes ∷ Ok ∷ Live 4 30 ∷ No ∷ No ∷ []
unfolding reachable
chain_of_ephemerons_replies = refl

chain_of_ephemerons_legal : Legal sizes chain_of_ephemerons
unfolding reachable
chain_of_ephemerons_legal = search rules

-- one of two keys dies: the ephemeron loses that key and its data, and keeps the other key
abbrev one_key_dies : List Entry
one_key_dies =
    map run (Alloc 1 0 1 ∷ Alloc 2 0 1 ∷ PutInt 3 (pos 7) ∷ NewEphe 4 2 ∷ SetKey 4 0 1 ∷ SetKey 4 1 2 ∷ SetData 4 3 ∷ Forget 1 ∷ [])
    ++ full_major [] (Wipe (block 3) (0 ∷ []) ∷ []) ++ map run (CheckKey 4 0 ∷ CheckKey 4 1 ∷ CheckData 4 ∷ []) ++ End 0 ∷ []

one_key_dies_replies : replies sizes one_key_dies 0
    ≡ Block (block 1) ∷ Block (block 2) ∷ Ok ∷ Block (block 3) ∷ Ok ∷ Ok ∷ Ok ∷ Ok ∷ Live 3 26 ∷ No ∷ Yes ∷ No ∷ []
unfolding reachable
one_key_dies_replies = refl

one_key_dies_legal : Legal sizes one_key_dies
unfolding reachable
one_key_dies_legal = search rules

-- the key that lives isn't emptied with it
abbrev both_keys_wiped : List Entry
both_keys_wiped =
    map run (Alloc 1 0 1 ∷ Alloc 2 0 1 ∷ PutInt 3 (pos 7) ∷ NewEphe 4 2 ∷ SetKey 4 0 1 ∷ SetKey 4 1 2 ∷ SetData 4 3 ∷ Forget 1 ∷ []) ++ Cut ∷ Seal ∷ Wipe (block 3) (0 ∷ 1 ∷ []) ∷ []

both_keys_wiped_illegal : Legal sizes both_keys_wiped → ⊥
unfolding reachable
both_keys_wiped_illegal h = let gone : false ≡ true = h.1.1.1.1.1.1.1.1.1.1.0.gone in cc

type_and_bounds_legal : Legal sizes type_and_bounds
type_and_bounds_legal = search rules

-- `full` after a complete collection: of 14 pools 7 are kept for promotion and 6 may be begun, so that one kept block is enough
abbrev small : ℕ → Sizes
small pools = record { domains = 1; pools = pools; minor_words = 4096; classes = 6 }

abbrev collected_once : List Entry
collected_once = Cut ∷ Seal ∷ Collected ∷ Done ∷ []

full_after_collection : MayBeFull (state_after (opening (small 14)) collected_once) 0 (Alloc 1 0 1)
unfolding reachable
full_after_collection = record { allocates = refl; fresh = refl; kept_enough = let enough : 14 ≤ 14 = omega arith in enough }

-- of 15 it isn't
full_too_early : MayBeFull (state_after (opening (small 15)) collected_once) 0 (Alloc 1 0 1) → ⊥
unfolding reachable
full_too_early p = let enough : 15 ≤ 14 = p.kept_enough in absurd (omega arith)

-- nor once the domain has made a command since
full_not_fresh : MayBeFull (state_after (opening (small 14)) (collected_once ++ run Poll ∷ [])) 0 (Alloc 1 0 1) → ⊥
unfolding reachable
full_not_fresh p = let fresh : false ≡ true = p.fresh in cc

-- and no other command has it
full_no_load : MayBeFull (state_after (opening (small 14)) collected_once) 0 (Load 1 0 0) → ⊥
unfolding reachable
full_no_load p = let allocates : false ≡ true = p.allocates in cc

-- raw blocks: raw 1 252 3, int 2 5, store 1 0 2, store 1 1 1, load 3 1 0, full_major
abbrev raw_block : List Entry
raw_block = map run (NewRaw 1 252 3 ∷ PutInt 2 (pos 5) ∷ Store 1 0 2 ∷ Store 1 1 1 ∷ Load 3 1 0 ∷ []) ++ full_major [] [] ++ End 0 ∷ []

raw_block_replies : replies sizes raw_block 0 ≡ Block (block 1) ∷ Ok ∷ Ok ∷ BadType ∷ Int (pos 5) ∷ Live 2 23 ∷ []
unfolding reachable
raw_block_replies = refl

raw_block_legal : Legal sizes raw_block
unfolding reachable
raw_block_legal = search rules

-- compare-and-set: int 1 0, int 2 9, cas 0 3 1 2, cas 0 3 1 2, load 3 0 3, cas 0 16 1 2, cas 0 3 9 2
abbrev exchanges : List Entry
exchanges = map run (PutInt 1 (pos 0) ∷ PutInt 2 (pos 9) ∷ Cas 0 3 1 2 ∷ Cas 0 3 1 2 ∷ Load 3 0 3 ∷ Cas 0 16 1 2 ∷ Cas 0 3 9 2 ∷ []) ++ End 0 ∷ []

exchanges_replies : replies sizes exchanges 0 ≡ Ok ∷ Ok ∷ Yes ∷ No ∷ Int (pos 9) ∷ BadIndex ∷ BadType ∷ []
exchanges_replies = refl

exchanges_legal : Legal sizes exchanges
exchanges_legal = search rules

-- a block that is expected: alloc 1 0 1, store 0 0 1, minor, int 2 1, cas 0 0 1 2
abbrev expects_a_block : List Entry
expects_a_block = map run (Alloc 1 0 1 ∷ Store 0 0 1 ∷ Minor ∷ PutInt 2 (pos 1) ∷ Cas 0 0 1 2 ∷ []) ++ End 0 ∷ []

expects_a_block_replies : replies sizes expects_a_block 0 ≡ Block (block 1) ∷ Ok ∷ Ok ∷ Ok ∷ Yes ∷ []
expects_a_block_replies = refl

expects_a_block_legal : Legal sizes expects_a_block
expects_a_block_legal = search rules

-- no block goes into a raw block by compare-and-set either: raw 1 252 1, int 2 0, cas 1 0 2 1, load 3 1 0
abbrev exchanges_raw : List Entry
exchanges_raw = map run (NewRaw 1 252 1 ∷ PutInt 2 (pos 0) ∷ Cas 1 0 2 1 ∷ Load 3 1 0 ∷ []) ++ End 0 ∷ []

exchanges_raw_replies : replies sizes exchanges_raw 0 ≡ Block (block 1) ∷ Ok ∷ BadType ∷ Int (pos 0) ∷ []
exchanges_raw_replies = refl

-- two domains exchange the same field: int 1 0, int 2 5, cas 0 0 1 2 in each. Whichever comes first is answered yes, and the other no
abbrev two_sizes : Sizes
two_sizes = record { domains = 2; pools = 512; minor_words = 32768; classes = 6 }

abbrev makes : ℕ → Command → Entry
makes d c = CommandOf d c false

abbrev both_exchange : ℕ → ℕ → List Entry
both_exchange first second =
    makes 0 (PutInt 1 (pos 0)) ∷ makes 1 (PutInt 1 (pos 0)) ∷ makes 1 (PutInt 2 (pos 5)) ∷ makes 0 (PutInt 2 (pos 5))
    ∷ makes first (Cas 0 0 1 2) ∷ makes second (Cas 0 0 1 2) ∷ End 0 ∷ End 1 ∷ []

first_exchanges : (replies two_sizes (both_exchange 0 1) 0 ≡ Ok ∷ Ok ∷ Yes ∷ []) × (replies two_sizes (both_exchange 0 1) 1 ≡ Ok ∷ Ok ∷ No ∷ [])
first_exchanges = (refl, refl)

second_exchanges : (replies two_sizes (both_exchange 1 0) 0 ≡ Ok ∷ Ok ∷ No ∷ []) × (replies two_sizes (both_exchange 1 0) 1 ≡ Ok ∷ Ok ∷ Yes ∷ [])
second_exchanges = (refl, refl)

both_exchange_legal : Legal two_sizes (both_exchange 0 1) × Legal two_sizes (both_exchange 1 0)
both_exchange_legal = (first, second)
  where
    first : Legal two_sizes (both_exchange 0 1)
    first = search rules

    second : Legal two_sizes (both_exchange 1 0)
    second = search rules

-- a command that stands for several others is no entry
spawn_illegal : Legal sizes (run (Spawn 1 1) ∷ []) → ⊥
spawn_illegal h = h.0.fits

argument_illegal : Legal sizes (run (Argument 1) ∷ []) → ⊥
argument_illegal h = h.0.fits

result_illegal : Legal sizes (run (PutResult 1) ∷ []) → ⊥
result_illegal h = h.0.fits

join_illegal : Legal sizes (run (Join 1 1) ∷ []) → ⊥
join_illegal h = h.0.fits

-- a raw block may be answered `full`
full_raw : MayBeFull (state_after (opening (small 14)) collected_once) 0 (NewRaw 1 252 1)
unfolding reachable
full_raw = record { allocates = refl; fresh = refl; kept_enough = let enough : 14 ≤ 14 = omega arith in enough }

-- once one key for a value was emptied no chain of keys gives the value back: here a key of a reachable ephemeron has the one that has the value
abbrev two_keys_away : List Entry
two_keys_away =
    map run (Alloc 1 0 1 ∷ NewEphe 2 1 ∷ SetKey 2 0 1 ∷ NewEphe 3 1 ∷ SetKey 3 0 1 ∷ NewEphe 4 1 ∷ SetKey 4 0 3 ∷ Forget 1 ∷ Forget 3 ∷ []) ++ Cut ∷ Seal ∷ Wipe (block 2) (0 ∷ []) ∷ []

two_keys_away_until : Legal sizes two_keys_away
unfolding reachable
two_keys_away_until = search rules

two_keys_away_illegal : Legal sizes (two_keys_away ++ Done ∷ []) → ⊥
unfolding reachable
two_keys_away_illegal h = let apart : false ≡ true = h.1.1.1.1.1.1.1.1.1.1.1.1.0.apart in cc

two_keys_away_legal : Legal sizes (two_keys_away ++ Wipe (block 3) (0 ∷ []) ∷ Wipe (block 4) (0 ∷ []) ∷ Done ∷ [])
unfolding reachable
two_keys_away_legal = search rules
