use Rattle.std.proofs.Common.{List, All, sym, subst, ℕ}
use Rattle.model_core.specs.declared.command.Command.{Command}
use Rattle.run_turns.specs.Runs.{CanBeginSection}
use Rattle.test_turns.specs.Sections.{MayStand}
use Rattle.test_turns.proofs.SectionLemmas.{begins_section}
use Rattle.test_turns.proofs.spawns.run_of.Goals as goal

pub make_spawning-requires-clause-begins : goal.make_spawning-requires-clause-begins
make_spawning-requires-clause-begins c =
    let may = c.if-not-all_may.false in
    let all : All (MayStand c.args.domain.view.own.number) c.args.commands.now = subst (λ (n : ℕ). All (MayStand n) c.args.commands.now) c.number.ensures.value (c.all_may.ensures.all may) in
    subst (λ (l : List Command). CanBeginSection c.args.domain l) (sym c.in_ok-commands.ensures.items)
    (begins_section c.args.heap.now c.args.domain c.args.commands.now c.requires.handed c.config-limits.ensures.limits.domains (c.all_may.ensures.few may) all)
