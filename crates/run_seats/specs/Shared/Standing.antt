-- What stays of a domain while commands are made of it at once.
use Rattle.std.specs.Prelude.{◌≡◌, ◌==◌, ◌&&◌, Bool, true, false, length}
use Rattle.run_turns.specs.declared.supply.Supply.{Supply}
use Rattle.run_turns.specs.declared.supply.Supply.TheVariants.{Open}
use Rattle.run_turns.specs.Runs.{RunView}
use Rattle.run_turns.specs.Singly.Driving.{registered}
use Rattle.run_seats.specs.declared.shared.standing.Standing.{Standing}
use Rattle.run_seats.specs.Shared.Sharing.{SharedView}

-- whether commands may come
abbrev pub is_open : Supply → Bool
is_open Open = true
is_open _ = false

-- whether a run waits for its next command
abbrev pub waits_in : RunView → Bool
waits_in r = is_open r.supply && (r.next == length r.commands)

-- a domain's heap, whether it waits for its next command, its registrations, and the replies that wait to be taken
abbrev pub standing_of : SharedView → Standing
standing_of s = record { heap = s.heap; waits = waits_in s.run; registered = registered s.run; ran = s.run.ran }
