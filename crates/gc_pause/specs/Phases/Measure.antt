-- How many even phases of a pause are left at most, and that with each kind that domain 0 names fewer are.
use Rattle.std.specs.Prelude.{ℕ, ◌+◌, ◌*◌, ◌<◌, Bool, true, false}
use Rattle.model_cycle.specs.Ending.{Answering, Cleaning, Deciding, First, Freeing, Halted, Leaving, Marking, Place, Promoting, Queueing, Resetting, Rooting, Rounding, Running, Second, Turn, pause_left}
use Rattle.heap_rule.specs.declared.config.Config.{Config}
use Rattle.heap_rule.specs.declared.phase.Kind.{Kind}
use Rattle.heap_rule.specs.declared.phase.Kind.TheVariants.{Run, Promote, Reset, Roots, Mark, Rounds, Decide, Queued, Clean, Lasts, Sweep, Answer}
use Rattle.heap_rule.specs.declared.phase.Progress.{Progress}
use Rattle.heap_rule.specs.declared.view.DomainView.{DomainView}

-- the place of a kind that was gone through, by whether the cut is made
abbrev pub marking_place : Bool → Turn → Place
marking_place false turn = First turn
marking_place true turn = Second turn

abbrev pub place_of : Bool → Kind → Place
place_of cut Run = Halted
place_of cut Promote = Promoting
place_of cut Reset = Resetting
place_of cut Roots = Rooting
place_of cut Mark = marking_place cut Marking
place_of cut Rounds = marking_place cut Rounding
place_of cut Decide = Deciding
place_of cut Queued = Queueing
place_of cut Clean = Cleaning
place_of cut Lasts = Leaving
place_of cut Sweep = Freeing
place_of cut Answer = Answering

-- and of one that is named
abbrev pub place_named : Bool → Kind → Place
place_named cut Run = Running
place_named cut kind = place_of cut kind

-- whether another cycle may follow in the pause once the one that goes on has been freed: it began in an earlier pause, or garbage of the last one is freed first
abbrev pub more_of : ℕ → Bool → Bool → ℕ
more_of all true false = 0
more_of all true true = 12 + all * 4
more_of all false unswept = 12 + all * 4

-- how many phases are left at most of any pause, behind a phase of this kind, by what domain 0 keeps, whoever decides
abbrev pub any_left : ℕ → Kind → Progress → ℕ → ℕ
any_left all Run p unmarked = 26 + all * 8
any_left all Promote p unmarked = 25 + all * 8
any_left all Reset p unmarked = 24 + all * 8
any_left all kind p unmarked = pause_left all (place_of p.cut kind) unmarked + more_of all p.whole p.unswept

-- and where the kind is named
abbrev pub any_named : ℕ → Kind → Progress → ℕ → ℕ
any_named all Run p unmarked = 0
any_named all kind p unmarked = any_left all kind p unmarked

-- domain 0 has named a kind after another: fewer phases of the pause are left than before, where as many blocks may live as the pools have places
abbrev pub IsNearer : Config → Kind → Kind → Progress → Progress → ℕ → ℕ → Type 0
IsNearer k last kind before after was now = any_named (k.pools * 1024) kind after now < any_left (k.pools * 1024) last before was

-- and so by how many blocks aren't marked at most, as the domain knew before and knows then
abbrev pub NearerBy : Config → Kind → Kind → Progress → Progress → DomainView → DomainView → Type 0
NearerBy k last kind before after x y = IsNearer k last kind before after x.seen.share.unmarked y.seen.share.unmarked
