use Rattle.std.proofs.Common.{ap, ◌∙◌, codes}
use Rattle.clap.specs.Words.{App, Text, with_rule}
use Rattle.text_script.specs.Words.Commands.{option_rule}
use Rattle.text_script.proofs.words.parse.options_command.Goals as goal

pub returns-clause-shape : goal.returns-clause-shape
returns-clause-shape c =
    let more : Text → App → App = λ name a. with_rule a (option_rule name) in
    c.in_ok-three.ensures.shape ∙ ap (more (codes "pools")) (c.in_ok-two.ensures.shape ∙ ap (more (codes "minor")) (c.in_ok-one.ensures.shape ∙ ap (more (codes "domains")) c.new-named.ensures.app))

pub returns-clause-local : goal.returns-clause-local
returns-clause-local c = c.in_ok-three.ensures.local ∙ c.in_ok-two.ensures.local ∙ c.in_ok-one.ensures.local ∙ c.new-named.ensures.local
