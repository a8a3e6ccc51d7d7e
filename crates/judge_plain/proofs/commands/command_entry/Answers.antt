use Rattle.std.proofs.Common.{◌≡◌, length, refl, arith}
use Rattle.judge_plain.proofs.SoundLemmas.{outcome-domain_count}
use Rattle.judge_plain.proofs.commands.command_entry.Goals as goal
use Rattle.judge_plain.proofs.commands.command_entry.Goals.{then-full, else-full+in-Ok}

pub after_command-requires : goal.after_command-requires
after_command-requires c =
    let s = c.args.state.now in
    let same : length c.if-full.state.domains ≡ length s.domains =
    elim c.if-full.branch [
      | then-full w ↦ rw w.state-is refl
      | else-full+in-Ok w ↦ rw (w.state-is, w.in-Ok.ensures.state) (outcome-domain_count s c.args.d c.args.c.now)
    ] in
    omega (arith, c.requires.domain)
