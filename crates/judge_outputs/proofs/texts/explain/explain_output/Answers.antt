use Rattle.std.proofs.Common.{rules}
use Rattle.judge_outputs.specs.Texts.Playing.{AnswersBy}
use Rattle.judge_outputs.proofs.OfTexts.RunLemmas.{answers}
use Rattle.judge_outputs.proofs.texts.explain.explain_output.Goals as goal

pub returns-then-branch : goal.returns-then-branch
returns-then-branch c =
    let goes : AnswersBy c.args.text.now.version c.args.sizes.now c.in_ok-gone.gone.items c.args.text.now.lines c.in_ok-replies.replies.items = search rules in
    record {
      replies = c.in_ok-replies.replies.items;
      prints = search rules;
      answers = answers c.args.text.now.version c.args.sizes.now c.in_ok-gone.gone.items c.args.text.now.lines c.in_ok-replies.replies.items goes;
      goes = goes;
    }
