-- The laws of spawns and joins, for scripts that were read.
use Rattle.std.proofs.Common.{◌≡◌, ℕ, ◌<◌, ◌≤◌, Bool, IsTrue, List, ap, sym, ◌∙◌, subst, arith}
use Rattle.model_core.specs.declared.command.Command.{Command}
use Rattle.model_core.specs.declared.entry.Entry.{Entry}
use Rattle.model_core.specs.declared.state.Sizes.{Sizes}
use Rattle.model_core.specs.Domains.{opening}
use Rattle.model_core.specs.History.{state_after}
use Rattle.text_script.specs.Script.{Scripted}
use Rattle.text_script.specs.Spawning.{is_spawned}
use Rattle.model_traces.specs.Spawns.Expansion.{IsSection, is_spawned as is_spawned_in_law, section_at, steps_from}
use Rattle.model_traces.specs.Spawns.Hidden.{prelude}
use Rattle.model_traces.proofs.OfSpawns.Gathering.{gathered, printed_front}
use Rattle.model_traces.proofs.OfSpawns.JoinLaws.{join_law}
use Rattle.model_traces.proofs.OfSpawns.Printing.{print_law}
use Rattle.text_script.specs.Spawned.Reads.{IsRead, ScriptsJoin, ScriptsPrintOnce, HasMadeSection, FrontsTell}
use Rattle.text_script.proofs.OfSpawned.Fitting.{spelled_fits, same_spawned}

pub join : ScriptsJoin
join z script h limits read legal run section below spawned =
    join_law z script.sections h limits legal (spelled_fits read.newest z.domains script read.bytes read.spelled read.third) run section below (sym (same_spawned script.sections section) ∙ spawned)

pub print_once : ScriptsPrintOnce
print_once z script h limits read run d below =
    let few : d < 8 = omega (arith, limits.domains) in
    print_law d (is_spawned_in_law script.sections d) (section_at script.sections d) _ few (spelled_fits read.newest z.domains script read.bytes read.spelled read.third d) (run.sections d below)

pub fronts : FrontsTell
fronts z script h front some each = record {
  run = gathered z script h some (λ d below.
      let m = each d below in
      record {
        front = front d;
        is_front = m.is_front;
        behind = m.behind;
        begins = m.begins;
        makes = subst (λ (b : Bool). IsSection d b (section_at script d) (steps_from (state_after (opening z) (prelude z.domains)) m.behind d)) (same_spawned script d) m.makes;
      });
  prints = λ d below. printed_front z d h (front d) (each d below).is_front;
}
