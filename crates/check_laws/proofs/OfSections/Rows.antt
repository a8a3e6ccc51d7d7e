-- Worked rows: what a section is passed, what it needn't see, and sections that would wait for each other.
use Rattle.std.proofs.Common.{◌≡◌, inl, false, List, [], ◌∷◌, ◌++◌, ◌-◌, pos, refl, rules, arith}
use Rattle.model_core.specs.declared.command.Command as declared_command
use Rattle.model_core.specs.declared.command.Command.TheVariants.{PutInt, Load, Store, Spawn}
use Rattle.model_core.specs.declared.entry.Entry.{Entry}
use Rattle.model_core.specs.declared.entry.Entry.TheVariants.{Command, End}
use Rattle.model_core.specs.declared.reply.Reply.TheVariants.{Done as Ok, Int}
use Rattle.model_core.specs.declared.state.Sizes.{Sizes}
use Rattle.model_core.specs.History.{Legal}
use Rattle.model_traces.specs.Spawns.Hidden.{prelude}
use Rattle.model_traces.specs.Spawns.Progress.{Before}
use Rattle.model_traces.specs.Spawns.Printed.{printed_replies}
use Rattle.check_laws.specs.Sections.Orders.{IsOrderly}
use Rattle.check_laws.specs.Sections.Waiting.{Standing, WaitsFor}

abbrev sizes : Sizes
sizes = record { domains = 2; pools = 512; minor_words = 32768; classes = 6 }

-- domain 0: int 1 5, spawn 1 1, store 0 0 1; domain 1: argument 1, load 2 0 0
abbrev passing : List Entry
passing =
    prelude 2 ++ Command 0 (PutInt 1 (pos 5)) false ∷ Command 0 (Store 15 9 1) false ∷ Command 0 (PutInt 14 (pos 1)) false ∷ Command 0 (Store 15 1 14) false
    ∷ Command 1 (Load 14 15 1) false ∷ Command 1 (Load 1 15 9) false ∷ Command 1 (Load 2 0 0) false ∷ Command 0 (Store 0 0 1) false
    ∷ Command 1 (PutInt 14 (pos 2)) false ∷ Command 1 (Store 15 1 14) false ∷ End 0 ∷ End 1 ∷ []

passing_legal : Legal sizes passing
passing_legal = search rules

-- the argument is what the register held; what is written behind the spawn needn't be seen
passed : printed_replies sizes passing 1 ≡ Int (pos 5) ∷ Int (pos 0) ∷ []
passed = refl

-- the register holds nothing: the argument is 0
abbrev unpassing : List Entry
unpassing =
    prelude 2 ++ Command 0 (PutInt 14 (pos 0)) false ∷ Command 0 (Store 15 9 14) false ∷ Command 0 (PutInt 14 (pos 1)) false ∷ Command 0 (Store 15 1 14) false
    ∷ Command 1 (Load 14 15 1) false ∷ Command 1 (Load 1 15 9) false ∷ Command 1 (PutInt 14 (pos 2)) false ∷ Command 1 (Store 15 1 14) false ∷ End 0 ∷ End 1 ∷ []

unpassing_legal : Legal sizes unpassing
unpassing_legal = search rules

nothing_passed : printed_replies sizes unpassing 1 ≡ Int (pos 0) ∷ []
nothing_passed = refl

spawn_printed : printed_replies sizes unpassing 0 ≡ Ok ∷ []
spawn_printed = refl

-- two sections that spawn each other would both wait, so such a script is refused
abbrev circle : List (List declared_command.Command)
circle = (Spawn 1 0 ∷ []) ∷ (Spawn 0 0 ∷ []) ∷ []

abbrev standing : declared_command.Command → Standing
standing c = record { place = Before; made = []; left = c ∷ [] }

both_wait : WaitsFor (λ d. standing (Spawn (1 - d) 0)) 0 1 × WaitsFor (λ d. standing (Spawn (1 - d) 0)) 1 0
both_wait = (inl (refl, refl), inl (refl, refl))

no_order : IsOrderly 2 circle → ⊥
no_order is = let earlier = is.later 1 0 0 [] [] refl in omega (arith, earlier)
