use Rattle.std.proofs.Common.{◌≡◌, rules, subst, List, Option, ℕ}
use Rattle.std.specs.Prelude.{option_and_then}
use Rattle.clap.proofs.WalkLemmas.{first_value-rows}
use Rattle.clap.specs.Words.{found_of}
use Rattle.text_script.specs.Words.Numbers.{option_number}
use Rattle.text_script.proofs.words.parse.number_found.Goals as goal

pub returns : goal.returns
returns c =
    subst (λ (o : Option (List ℕ)). c.number.result ≡ option_and_then option_number o) (first_value-rows (found_of c.args.matches.now) c.args.name.now) (search rules)

pub returns-in_err-get_str : goal.returns-in_err-get_str
returns-in_err-get_str c =
    subst (λ (o : Option (List ℕ)). c.from_residual.result ≡ option_and_then option_number o) (first_value-rows (found_of c.args.matches.now) c.args.name.now) (search rules)
