use Rattle.std.proofs.Common.{rules, arith, ◌≡◌, ◌∙◌, ap, sym, subst, ℕ, List, length}
use Rattle.std.specs.Prelude.{◌==◌}
use Rattle.model_core.specs.declared.reply.Reply.{Reply}
use Rattle.judge_plain.specs.History.Steps.{Does}
use Rattle.std.proofs.lemmas.List.{nil_from_length}
use Rattle.judge_plain.proofs.OfHistory.TextLemmas.{explains_more, explains_all}
use Rattle.judge_plain.proofs.OfHistory.ExactLemmas.{explains_lines, explains_makes, explains_whole}
use Rattle.judge_plain.proofs.history.replay.gives.Goals as goal

pub loop-d-preserved : goal.loop-d-preserved
loop-d-preserved c =
    let does = rw c.in-Some-2.is at c.in_ok-replies.ensures.does in
    explains_more c.args.sizes.now c.args.script.now.sections c.args.bytes.now c.args.history.now c.loop-d.d c.section-section.result.now c.in-Some-2.replies.items
    c.loop-d.rest.now c.in-Some-behind_section.behind.now c.loop-d.invariant (search rules) does (search rules)

pub returns-clause-sound : goal.returns-clause-sound
returns-clause-sound c = λ yes.
    let whole : c.loop-d.d ≡ c.args.sizes.now.domains = omega arith in
    let none : length c.loop-d.rest.now ≡ 0 = search rules in
    explains_all c.args.sizes.now c.args.script.now.sections c.args.bytes.now c.args.history.now c.loop-d.d c.loop-d.rest.now (rw c.in-Some.is at c.in_ok-told.ensures.legal) whole c.loop-d.invariant (nil_from_length c.loop-d.rest.now none)

pub returns-clause-exact : goal.returns-clause-exact
returns-clause-exact c = λ few explains.
    let whole : c.loop-d.d ≡ c.args.sizes.now.domains = omega arith in
    let none : length c.loop-d.rest.now ≡ 0 = ap length (explains_whole c.args.sizes.now c.args.script.now.sections c.args.bytes.now c.args.history.now c.loop-d.d c.loop-d.rest.now whole c.loop-d.invariant explains) in
    c.is_empty.ensures ∙ ap (λ (n : ℕ). n == 0) none

pub returns-in_default-2-clause-exact : goal.returns-in_default-2-clause-exact
returns-in_default-2-clause-exact c = λ few explains.
    let other = rw c.in_default-2.is at c.in_ok-replies.ensures.other in
    absurd (other (explains_makes c.args.sizes.now c.args.script.now.sections c.args.bytes.now c.args.history.now c.loop-d.d c.section-section.result.now c.loop-d-test.true (search rules) explains))

pub returns-in_default-behind_section-clause-exact : goal.returns-in_default-behind_section-clause-exact
returns-in_default-behind_section-clause-exact c = λ few explains.
    let read = rw c.in-Some-2.is at c.in_ok-replies.ensures.does in
    let does = subst (λ (rs : List Reply). Does c.args.sizes.now c.loop-d.d c.section-section.result.now c.args.history.now rs) (sym c.deref-in-loop-d.ensures.value) read in
    absurd (explains_lines c.args.sizes.now c.args.script.now.sections c.args.bytes.now c.args.history.now c.loop-d.d c.section-section.result.now c.deref-in-loop-d.result.now c.loop-d.rest.now c.loop-d-test.true
    c.loop-d.invariant does c.in_default-behind_section.ensures.none explains)
