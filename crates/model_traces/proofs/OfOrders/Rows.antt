-- Worked rows: a race that a schedule repeats, and a history that isn't made turn by turn.
use Rattle.std.proofs.Common.{◌≡◌, false, List, [], ◌∷◌, pos, refl, rules}
use Rattle.model_core.specs.declared.command.Command.{Command}
use Rattle.model_core.specs.declared.command.Command.TheVariants.{PutInt, Forget, Alloc, Load, Store, Finalise, Poll}
use Rattle.model_core.specs.declared.entry.Entry.{Entry}
use Rattle.model_core.specs.declared.entry.Entry.TheVariants.{Command as CommandOf, End, Cut, Queue, Seal, Collected, Done, Ran}
use Rattle.model_core.specs.declared.reply.Reply.TheVariants.{Int}
use Rattle.model_core.specs.declared.state.Sizes.{Sizes}
use Rattle.model_core.specs.Reach.{reachable}
use Rattle.model_core.specs.History.{Legal, replies}
use Rattle.model_traces.specs.Schedules.Scheduled.{scheduled}
use Rattle.model_traces.specs.Orders.Turns.{turns_of}

abbrev sizes : Sizes
sizes = record { domains = 2; pools = 512; minor_words = 32768; classes = 6 }

-- domain 1 reads a field of the shared block before domain 0 stores into it
abbrev racing : List (List Command)
racing = (PutInt 1 (pos 5) ∷ Store 0 0 1 ∷ []) ∷ (Load 2 0 0 ∷ []) ∷ []

abbrev early : List Entry
early = CommandOf 0 (PutInt 1 (pos 5)) false ∷ CommandOf 1 (Load 2 0 0) false ∷ CommandOf 0 (Store 0 0 1) false ∷ End 1 ∷ End 0 ∷ []

-- or behind it
abbrev late : List Entry
late = CommandOf 0 (PutInt 1 (pos 5)) false ∷ CommandOf 0 (Store 0 0 1) false ∷ CommandOf 1 (Load 2 0 0) false ∷ End 0 ∷ End 1 ∷ []

early_repeated : scheduled sizes racing (turns_of early) ≡ early
early_repeated = refl

early_read : replies sizes (scheduled sizes racing (turns_of early)) 1 ≡ Int (pos 0) ∷ []
early_read = refl

late_repeated : scheduled sizes racing (turns_of late) ≡ late
late_repeated = refl

late_read : replies sizes (scheduled sizes racing (turns_of late)) 1 ≡ Int (pos 5) ∷ []
late_read = refl

-- a command of another domain comes between the run of a finaliser and the next command of its domain: a heap may have this history, and it isn't made turn by turn
abbrev apart : List Entry
apart =
    CommandOf 0 (Alloc 1 0 1) false ∷ CommandOf 0 (Finalise 1 7 2) false ∷ CommandOf 0 (Forget 1) false
    ∷ Cut ∷ Queue 0 (0 ∷ []) ∷ Seal ∷ Collected ∷ Done ∷ Ran 0 ∷ CommandOf 1 Poll false ∷ CommandOf 0 Poll false ∷ End 0 ∷ End 1 ∷ []

apart_legal : Legal sizes apart
unfolding reachable
apart_legal = search rules
