-- Worked rows: a history of a script with a spawn and a join, what it prints, and that it is one of those of which the law speaks.
use Rattle.std.proofs.Common.{◌≡◌, ℕ, true, false, List, [], ◌∷◌, ◌++◌, pos, refl, rules}
use Rattle.model_core.specs.declared.label.Label.{Label}
use Rattle.model_core.specs.declared.command.Command as declared_command
use Rattle.model_core.specs.declared.command.Command.TheVariants.{PutInt, Forget, Alloc, AllocMaj, Load, Store, Poll, FullMajor, Spawn, Argument, PutResult, Join}
use Rattle.model_core.specs.declared.entry.Entry.{Entry}
use Rattle.model_core.specs.declared.entry.Entry.TheVariants.{Command, End, Cut, Seal, Collected, Done}
use Rattle.model_core.specs.declared.reply.Reply.TheVariants.{Done as Ok, Int, Block, Live}
use Rattle.model_core.specs.declared.state.Sizes.{Sizes}
use Rattle.model_core.specs.Reach.{reachable}
use Rattle.model_core.specs.Domains.{opening}
use Rattle.model_core.specs.History.{state_after, Legal}
use Rattle.model_traces.specs.Spawns.Hidden.{prelude}
use Rattle.model_traces.specs.Spawns.Expansion.{Step, steps_from, IsSection, section_at}
use Rattle.model_traces.specs.Spawns.Printed.{printed_replies}

abbrev sizes : ℕ → Sizes
sizes domains = record { domains = domains; pools = 512; minor_words = 32768; classes = 6 }

abbrev run : ℕ → declared_command.Command → Entry
run d c = Command d c false

abbrev made : Label
made = record { domain = 1; serial = 1 }

-- domain 0: int 1 5, spawn 1 1, join 2 1, load 3 2 0; domain 1: argument 1, alloc 2 0 1, store 2 0 1, result 2
abbrev script : List (List declared_command.Command)
script = (PutInt 1 (pos 5) ∷ Spawn 1 1 ∷ Join 2 1 ∷ Load 3 2 0 ∷ []) ∷ (Argument 1 ∷ Alloc 2 0 1 ∷ Store 2 0 1 ∷ PutResult 2 ∷ []) ∷ []

-- one of its histories: each of the two waits once
abbrev behind : List Entry
behind =
    run 1 (Load 14 15 1) ∷ run 0 (PutInt 1 (pos 5)) ∷ run 0 (Store 15 9 1) ∷ run 0 (PutInt 14 (pos 1)) ∷ run 0 (Store 15 1 14)
    ∷ run 1 (Load 14 15 1) ∷ run 0 (Load 14 15 1) ∷ run 1 (Load 1 15 9) ∷ run 1 (Alloc 2 0 1) ∷ run 1 (Store 2 0 1) ∷ run 1 (Store 15 17 2)
    ∷ run 1 (PutInt 14 (pos 2)) ∷ run 1 (Store 15 1 14) ∷ run 0 (Load 14 15 1) ∷ run 0 (Load 2 15 17) ∷ run 0 (Load 3 2 0) ∷ End 0 ∷ End 1 ∷ []

abbrev history : List Entry
history = prelude 2 ++ behind

printed_0 : printed_replies (sizes 2) history 0 ≡ Ok ∷ Ok ∷ Block made ∷ Int (pos 5) ∷ []
printed_0 = refl

printed_1 : printed_replies (sizes 2) history 1 ≡ Int (pos 5) ∷ Block made ∷ Ok ∷ Ok ∷ []
printed_1 = refl

history_legal : Legal (sizes 2) history
history_legal = search rules

abbrev steps : ℕ → List Step
steps d = steps_from (state_after (opening (sizes 2)) (prelude 2)) behind d

section_0 : IsSection 0 false (section_at script 0) (steps 0)
section_0 = record {
  start = [];
  middle = _;
  finish = [];
  are = refl;
  starts = refl;
  makes = (
    _ ∷ [],
    _,
    refl,
    refl,
    (
      _ ∷ _ ∷ _ ∷ [],
      _,
      refl,
      record { first = _; more = _; are = refl; commands_are = refl },
      (
        _ ∷ _ ∷ _ ∷ [],
        _,
        refl,
        record {
          waits = _ ∷ _ ∷ [];
          last = _;
          are = refl;
          waited = record { early = _ ∷ []; last = _; are = refl; early_loads = ((refl, refl), tt); last_load = refl; last_answer = refl };
          loads = refl;
        },
        (_ ∷ [], _, refl, refl, refl),
      ),
    ),
  );
  finishes = refl;
}

-- a block besides the shared and the hidden one
abbrev counted : List Entry
counted = prelude 1 ++ run 0 (Alloc 1 0 1) ∷ Cut ∷ Seal ∷ Collected ∷ run 0 FullMajor ∷ Done ∷ End 0 ∷ []

counted_replies : printed_replies (sizes 1) counted 0 ≡ Block (record { domain = 0; serial = 2 }) ∷ Live 3 47 ∷ []
unfolding reachable
counted_replies = refl

-- why a run begins with the whole prelude: where domain 1 takes up the block later, it may find another one there, and begin before its spawn
abbrev stray : List Entry
stray =
    run 0 (AllocMaj 15 0 24) ∷ run 0 (Store 0 15 15) ∷ run 0 (PutInt 14 (pos 0)) ∷ run 0 (Store 0 15 14) ∷ run 0 (Forget 14)
    ∷ run 0 (Alloc 1 0 2) ∷ run 0 (PutInt 2 (pos 1)) ∷ run 0 (Store 1 1 2) ∷ run 0 (Store 0 15 1)
    ∷ run 1 (Load 15 0 15) ∷ run 1 (Load 14 15 1) ∷ run 1 Poll ∷ run 1 (PutInt 14 (pos 2)) ∷ run 1 (Store 15 1 14)
    ∷ run 0 (Store 15 9 2) ∷ run 0 (PutInt 14 (pos 1)) ∷ run 0 (Store 15 1 14) ∷ End 0 ∷ End 1 ∷ []

stray_legal : Legal (sizes 2) stray
stray_legal = search rules

stray_section : (first : Step) × (rest : List Step) × (steps_from (opening (sizes 2)) stray 1 ≡ first ∷ rest) × IsSection 1 true (Poll ∷ []) rest
stray_section = (
  _,
  _,
  refl,
  record {
    start = _ ∷ [];
    middle = _ ∷ [];
    finish = _ ∷ _ ∷ [];
    are = refl;
    starts = record { early = []; last = _; are = refl; early_loads = tt; last_load = refl; last_answer = refl };
    makes = (_ ∷ [], [], refl, refl, refl);
    finishes = refl;
  },
)
