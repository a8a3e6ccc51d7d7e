use Rattle.std.proofs.Common.{◌≡◌, true, map, subst}
use Rattle.std.specs.Prelude.{IfErr, string_bytes}
use Rattle.clap.specs.Simple.{App}
use Rattle.clap.specs.Takes.{takes}
use Rattle.clap.specs.Values.{kind_of}
use Rattle.clap.specs.declared.error.kind.ErrorKind.TheVariants.{OutOfMemory}
use Rattle.text_script.proofs.words.parse.matches_of.Goals as goal

pub returns-clause-memory : goal.returns-clause-memory
returns-clause-memory c =
    subst (λ (a : App). IfErr c.try_get_matches_from.result (λ e. takes a (map string_bytes c.args.words.now) ≡ true → kind_of e ≡ OutOfMemory)) c.in_ok-command.ensures c.try_get_matches_from.ensures.passes
