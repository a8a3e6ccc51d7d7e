-- Worked rows: two histories with the same calls, of which one has a collection, and what differs in them.
use Rattle.std.proofs.Common.{◌≡◌, true, false, List, [], ◌∷◌, ◌++◌, pos, refl, rules}
use Rattle.model_core.specs.declared.label.Label.{Label}
use Rattle.model_core.specs.declared.command.Command as declared_command
use Rattle.model_core.specs.declared.command.Command.TheVariants.{Forget, Alloc, Load, Ephe, SetKey, GetKey, CheckKey}
use Rattle.model_core.specs.declared.entry.Entry.{Entry}
use Rattle.model_core.specs.declared.entry.Entry.TheVariants.{Command, Cut, Seal, Wipe, Done}
use Rattle.model_core.specs.declared.reply.Reply.TheVariants.{Done as Ok, Int, Block, BadType, Empty, Yes, No}
use Rattle.model_core.specs.declared.state.Sizes.{Sizes}
use Rattle.model_core.specs.Reach.{reachable}
use Rattle.model_core.specs.History.{Legal, replies}
use Rattle.model_laws.specs.Collector.Blindness.{made}
use Rattle.model_laws.specs.Collector.Idle.{idle_complete}

abbrev sizes : Sizes
sizes = record { domains = 1; pools = 512; minor_words = 32768; classes = 6 }

abbrev weak : Label
weak = record { domain = 0; serial = 1 }

abbrev key : Label
key = record { domain = 0; serial = 2 }

abbrev run : declared_command.Command → Entry
run c = Command 0 c false

-- an ephemeron, and a key to which nothing else leads
abbrev begun : List Entry
begun = run (Ephe 1 1) ∷ run (Alloc 2 0 1) ∷ run (SetKey 1 0 2) ∷ run (Forget 2) ∷ []

-- a collection that empties it
abbrev emptied : List Entry
emptied = Cut ∷ Seal ∷ Wipe (record { domain = 0; serial = 1 }) (0 ∷ []) ∷ Done ∷ []

-- looks: the reply of `check_key` differs, and all others are the same
abbrev looks : List Entry
looks = run (CheckKey 1 0) ∷ run (Load 3 0 0) ∷ []

looks_kept : replies sizes (begun ++ looks) 0 ≡ Block weak ∷ Block key ∷ Ok ∷ Ok ∷ Yes ∷ Int (pos 0) ∷ []
looks_kept = refl

looks_emptied : replies sizes (begun ++ emptied ++ looks) 0 ≡ Block weak ∷ Block key ∷ Ok ∷ Ok ∷ No ∷ Int (pos 0) ∷ []
looks_emptied = refl

emptied_legal : Legal sizes (begun ++ emptied ++ looks)
unfolding reachable
emptied_legal = search rules

calls_same : made (begun ++ emptied ++ looks) ≡ made (begun ++ looks)
calls_same = refl

-- where the law ends: what is taken out differs, and so does what is read from it
abbrev takes : List Entry
takes = run (GetKey 2 1 0) ∷ run (Load 3 2 0) ∷ []

takes_kept : replies sizes (begun ++ takes) 0 ≡ Block weak ∷ Block key ∷ Ok ∷ Ok ∷ Block key ∷ Int (pos 0) ∷ []
takes_kept = refl

takes_emptied : replies sizes (begun ++ emptied ++ takes) 0 ≡ Block weak ∷ Block key ∷ Ok ∷ Ok ∷ Empty ∷ BadType ∷ []
takes_emptied = refl

-- a complete collection that takes nothing changes no reply, but whether an allocation may be answered `full`
abbrev least : Sizes
least = record { domains = 1; pools = 14; minor_words = 4096; classes = 6 }

full_then : Legal least (idle_complete ++ Command 0 (Alloc 1 0 1) true ∷ [])
unfolding reachable
full_then = search rules

no_full_before : Legal least (Command 0 (Alloc 1 0 1) true ∷ []) → ⊥
no_full_before legal = let fresh : false ≡ true = legal.0.full_fits.fresh in cc
