use Rattle.std.proofs.Common.{ap, ap₂, ◌∙◌}
use Rattle.clap.specs.Simple.{App, app_of_fields}
use Rattle.clap.specs.Words.{with_subcommand}
use Rattle.text_script.specs.Words.Commands.{plain_app}
use Rattle.text_script.proofs.words.parse.camlheap_command.Goals as goal

pub returns : goal.returns
returns c =
    let one = rw c.no_binary_name-named.ensures at c.disable_help_flag-without_flag.ensures in
    let two = rw one at c.disable_help_subcommand-plain.ensures in
    let fields = rw two at c.subcommand_required-asking.ensures in
    let plain_is = ap app_of_fields fields ∙ ap plain_app c.new.ensures.app in
    let top = λ (a : App). a.top in
    let one_is = c.in_ok-one.ensures.shape c.in_ok-run.ensures.local ∙ ap₂ with_subcommand plain_is (ap top c.in_ok-run.ensures.shape) in
    let two_is = c.in_ok-two.ensures.shape c.in_ok-replay.ensures.local ∙ ap₂ with_subcommand one_is (ap top c.in_ok-replay.ensures.shape) in
    let three_is = c.in_ok-three.ensures.shape c.in_ok-table.ensures.local ∙ ap₂ with_subcommand two_is (ap top c.in_ok-table.ensures.shape) in
    let four_is = c.in_ok-four.ensures.shape c.in_ok-generate.ensures.local ∙ ap₂ with_subcommand three_is (ap top c.in_ok-generate.ensures.shape) in
    c.in_ok-five.ensures.shape c.in_ok-load.ensures.local ∙ ap₂ with_subcommand four_is (ap top c.in_ok-load.ensures.shape)
