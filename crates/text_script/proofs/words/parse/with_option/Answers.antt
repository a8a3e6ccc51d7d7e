use Rattle.std.proofs.Common.{◌∙◌, ap}
use Rattle.std.proofs.lemmas.Result.{IfOk-weaker}
use Rattle.clap.specs.Words.{app_of, with_rule}
use Rattle.text_script.proofs.OfWords.CommandLemmas.{or_false}
use Rattle.text_script.proofs.words.parse.with_option.Goals as goal

pub returns-clause-shape : goal.returns-clause-shape
returns-clause-shape c = IfOk-weaker c.arg.result _ _ (λ r adds. adds.shape c.option_arg.ensures.local ∙ ap (with_rule (app_of c.args.command)) c.option_arg.ensures.rule) c.arg.ensures

pub returns-clause-local : goal.returns-clause-local
returns-clause-local c = IfOk-weaker c.arg.result _ _ (λ r adds. adds.globals ∙ or_false _ _ c.option_arg.ensures.local) c.arg.ensures
