-- The turns of a history, as a schedule has them.
use Rattle.std.specs.Prelude.{ℕ, true, false, ◌==◌, cond, List, [], ◌∷◌, ◌++◌, option_to_list, codes, flat_map, Option, Some, None}
use Rattle.model_core.specs.declared.command.Command.TheVariants.{FullMajor}
use Rattle.model_core.specs.declared.entry.Entry.{Entry}
use Rattle.model_core.specs.declared.entry.Entry.TheVariants as entry
use Rattle.model_core.specs.Output.{line}
use Rattle.text_script.specs.Schedule.Text.Spelling.{item_text}
use Rattle.model_traces.specs.declared.schedules.items.Item.{Item}
use Rattle.model_traces.specs.declared.schedules.items.Item.TheVariants.{Turn, Collect}
use Rattle.judge_outputs.specs.declared.turns.Phase.{Phase}
use Rattle.judge_outputs.specs.declared.turns.Phase.TheVariants.{Between, Ran, Collecting}
use Rattle.judge_outputs.specs.declared.turns.Step.{Step}

-- steps with which no item is over, and one is
abbrev pub going : Phase → Option Step
going p = Some (record { phase = p; item = None })

abbrev pub over : Item → Option Step
over i = Some (record { phase = Between; item = Some i })

-- what goes on where a domain may: the finalisers that ran before it are its own
abbrev pub after_own : Phase → ℕ → Option Step → Option Step
after_own Between d step = step
after_own (Ran e) d step = cond (e == d) step None
after_own _ d step = None

-- a command that isn't `full_major`, or an end
abbrev pub after_call : Phase → ℕ → Option Step
after_call p d = after_own p d (over (Turn d))

-- a finaliser that a domain runs
abbrev pub after_run : Phase → ℕ → Option Step
after_run p d = after_own p d (going (Ran d))

-- a collection begins
abbrev pub after_begin : Phase → Option Step
after_begin Between = going (Collecting None false None)
after_begin (Ran d) = going (Collecting (Some d) false None)
after_begin _ = None

-- an entry within one
abbrev pub after_within : Phase → Option Step
after_within (Collecting ran complete asked) = going (Collecting ran complete asked)
after_within _ = None

-- it is complete
abbrev pub completed : Phase → Option Step
completed (Collecting ran complete asked) = going (Collecting ran true asked)
completed _ = None

-- one `full_major` is answered in it, by the domain whose finalisers ran before, if any did
abbrev pub after_answer : Phase → ℕ → Option Step
after_answer (Collecting None true None) d = going (Collecting None true (Some d))
after_answer (Collecting (Some e) true None) d = cond (e == d) (going (Collecting None true (Some d))) None
after_answer _ d = None

-- it ends complete: a turn of the domain whose `full_major` it has answered, or a collection of its own
abbrev pub after_end : Phase → Option Step
after_end (Collecting None true (Some d)) = over (Turn d)
after_end (Collecting None true None) = over Collect
after_end _ = None

-- what an entry leads to
abbrev pub after_entry : Phase → Entry → Option Step
after_entry p (entry.Command d c true) = None
after_entry p (entry.Command d FullMajor false) = after_answer p d
after_entry p (entry.Command d c false) = after_call p d
after_entry p (entry.End d) = after_call p d
after_entry p (entry.Ran d) = after_run p d
after_entry p entry.Cut = after_begin p
after_entry p (entry.Queue d places) = after_within p
after_entry p entry.Seal = after_within p
after_entry p (entry.Wipe l keys) = after_within p
after_entry p (entry.Last d place) = after_within p
after_entry p entry.Collected = completed p
after_entry p entry.Done = after_end p

-- the items so far, where no turn is under way
abbrev pub whole : List Item → Phase → Option (List Item)
whole items Between = Some items
whole items _ = None

-- the items so far and the one that is over, and how they go on
abbrev pub on_step : Option Step → List Item → (List Item → Phase → Option (List Item)) → Option (List Item)
on_step None items rest = None
on_step (Some s) items rest = rest (items ++ option_to_list s.item) s.phase

-- the items of the rest of a history, behind those so far
abbrev pub turns_from : List Item → Phase → List Entry → Option (List Item)
turns_from items p [] = whole items p
turns_from items p (e ∷ h) = on_step (after_entry p e) items (λ more next. turns_from more next h)

-- the turns and complete collections of a history, in order, where it is made of such
abbrev pub turns_in : List Entry → Option (List Item)
turns_in h = turns_from [] Between h

-- what a schedule of these items is written as: it is its spelling
abbrev pub schedule_written : List Item → List ℕ
schedule_written items = line (codes "schedule 1") ++ flat_map (λ i. line (item_text i)) items ++ line (codes "end")
