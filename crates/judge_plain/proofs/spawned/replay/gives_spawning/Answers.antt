use Rattle.std.proofs.Common.{rules, arith, ◌≡◌, ◌++◌, ◌-◌, ◌∙◌, ap, sym, subst, List, length, take}
use Rattle.std.proofs.lemmas.List.{nil_from_length}
use Rattle.model_core.specs.declared.entry.Entry.{Entry}
use Rattle.model_traces.specs.Spawns.Hidden.{prelude}
use Rattle.model_traces.specs.Spawns.Printed.{printed_replies}
use Rattle.judge_plain.specs.Spawned.Explains.{Makes}
use Rattle.judge_plain.proofs.OfSpawned.MakeLemmas.{front_is}
use Rattle.judge_plain.proofs.OfSpawned.TextLemmas.{spawning_all, spawning_more}
use Rattle.judge_plain.proofs.spawned.replay.gives_spawning.Goals as goal

pub read_domain-requires-clause-begins : goal.read_domain-requires-clause-begins
read_domain-requires-clause-begins c = front_is c.args.history.now (prelude c.args.sizes.now.domains) c.in-Some.behind.now c.in-Some.ensures

pub loop-d-preserved : goal.loop-d-preserved
loop-d-preserved c =
    let whole : take (length c.args.history.now - length c.in-Some.behind.now) c.args.history.now ++ c.in-Some.behind.now ≡ c.args.history.now =
    ap (λ (h : List Entry). h ++ c.in-Some.behind.now) (front_is c.args.history.now (prelude c.args.sizes.now.domains) c.in-Some.behind.now c.in-Some.ensures) ∙ sym c.in-Some.ensures in
    let makes = rw c.in-Some-2.is at c.in_ok-replies.ensures.makes in
    let replies = rw c.in-Some-2.is at c.in_ok-replies.ensures.replies in
    spawning_more c.args.sizes.now c.args.script.now.sections c.args.bytes.now c.args.history.now c.in-Some.behind.now c.loop-d.d c.deref.result.now c.loop-d.rest.now c.in-Some-behind_section.behind_lines.now c.loop-d.invariant
    (subst (λ (h : List Entry). Makes c.args.sizes.now c.args.script.now.sections h c.in-Some.behind.now c.loop-d.d) whole makes)
    (c.deref.ensures.value ∙ replies ∙ ap (λ (h : List Entry). printed_replies c.args.sizes.now h c.loop-d.d) whole) c.in-Some-behind_section.ensures.some

pub returns : goal.returns
returns c = λ yes.
    let all : c.loop-d.d ≡ c.args.sizes.now.domains = omega arith in
    let none : length c.loop-d.rest.now ≡ 0 = search rules in
    spawning_all c.args.sizes.now c.args.script.now.sections c.args.bytes.now c.args.history.now c.in-Some.behind.now c.loop-d.d c.loop-d.rest.now c.requires.limits.some_domain c.in-Some.ensures all c.loop-d.invariant
    (nil_from_length c.loop-d.rest.now none)
