use Rattle.std.proofs.Common.{arith}
use Rattle.model_core.specs.Output.{line}
use Rattle.text_script.specs.Spelling.{command_text}
use Rattle.text_ends.proofs.WritingLemmas.{front_is_written}
use Rattle.camlheap_run.proofs.WritingLemmas.{front_of_second, text_at}
use Rattle.camlheap_run.proofs.generate.write_commands.Goals as goal

pub returns-in_err-write_command-clause-bytes : goal.returns-in_err-write_command-clause-bytes
returns-in_err-write_command-clause-bytes g c =
    let cut = text_at (λ r. line (command_text r)) c.args.commands.now c.commands.command-index _ (omega arith) in
    front_is_written _ _ _ _ c.from_residual.ensures.0 (front_of_second _ _ _ _ _ _ _ cut c.commands.invariant.bytes c.in_err-write_command.ensures.bytes)
