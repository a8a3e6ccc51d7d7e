use Rattle.std.proofs.Common.{rules, ◌≡◌, ◌≤◌, ◌+◌, arith, length, refl, sym, subst, Some, slice_get}
use Rattle.table_text.specs.declared.version.Version.{Version}
use Rattle.table_text.specs.Machine.Machine.{made_by}
use Rattle.judge_outputs.proofs.OfTexts.RunLemmas.{runs_more, made_after, runs_last, AnyStep}
use Rattle.judge_outputs.proofs.texts.judge.refused_line.Goals as goal

pub loop-i-preserved : goal.loop-i-preserved
loop-i-preserved c =
    let same : c.in-Some-Ok.number ≡ c.loop-i.i = search rules in
    let reply : slice_get c.args.replies.now c.loop-i.i ≡ Some c.in-Some-Ok.reply = search rules in
    let line : slice_get c.args.text.now.lines c.loop-i.i ≡ Some c.line-line.result = sym c.line-line.ensures.line in
    let made = made_after c.args.text.now.version c.args.text.now.lines c.loop-i.i (c.loop-i.i + 1) c.loop-i.made c.labels_made.result c.line-line.result refl line c.loop-i.invariant.made (subst (λ (v : Version). c.labels_made.result ≡ made_by v c.line-line.result) c.version-version.ensures c.labels_made.ensures.made) in
    let step : AnyStep c.args.text.now.version c.args.sizes.now c.args.gone.now (c.loop-i.made + c.labels_made.result) c.in-Some-Ok.number c.line-line.result c.loop-i.machine c.in-Some-Ok.reply c.step.new.machine =
    subst (λ (v : Version). AnyStep v c.args.sizes.now c.args.gone.now (c.loop-i.made + c.labels_made.result) c.in-Some-Ok.number c.line-line.result c.loop-i.machine c.in-Some-Ok.reply c.step.new.machine) c.version-version.ensures
    (λ lines is. c.in_ok-step.ensures lines is c.if-not-branch.false) in
    let few = c.loop-i.invariant.few in
    let two = c.labels_made.ensures.few in
    record {
      runs = runs_more c.args.text.now.version c.args.sizes.now c.args.gone.now c.args.text.now.lines c.args.replies.now c.loop-i.i (c.loop-i.i + 1) c.in-Some-Ok.number (c.loop-i.made + c.labels_made.result) c.loop-i.machine c.step.new.machine c.line-line.result c.in-Some-Ok.reply
          refl same line reply made step c.loop-i.invariant.runs;
      made = made;
      few = omega (arith, few, two);
    }

pub returns : goal.returns
returns c =
    let few : length c.args.text.now.lines ≤ c.loop-i.i = search rules in
    let fewer : length c.args.replies.now ≤ c.loop-i.i = search rules in
    record { none = runs_last c.args.text.now.version c.args.sizes.now c.args.gone.now c.args.text.now.lines c.args.replies.now c.loop-i.i c.loop-i.machine few fewer c.loop-i.invariant.runs }
