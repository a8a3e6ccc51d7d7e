use Rattle.std.proofs.Common.{rules, ◌≡◌, ◌∙◌, map, []}
use Rattle.std.specs.Prelude.{slice_index_or}
use Rattle.judge_profiles.proofs.ShownLemmas.{reads_next}
use Rattle.judge_profiles.proofs.explain.reads.Goals as goal

pub loop-d-preserved : goal.loop-d-preserved
loop-d-preserved c =
    let acts = map (λ v. v.items) c.args.reading.now.acts.items in
    let changes = map (λ v. v.items) c.args.reading.now.changes.items in
    let made_is : c.section-made.result.now ≡ slice_index_or c.args.reading.now.script.sections c.loop-d.d [] = search rules in
    let section_is : c.section.result.now ≡ slice_index_or c.args.script.now.sections c.loop-d.d [] = search rules in
    let acts_is : c.acts_at-acts.result.now ≡ slice_index_or acts c.loop-d.d [] = search rules in
    let changes_is : c.changes_at-changes.result.now ≡ slice_index_or changes c.loop-d.d [] = search rules in
    let here = rw c.in-Some.is at c.in_ok-shown.ensures.reads in
    let shows = rw c.in-Some.is at c.in_ok-shown.ensures.shown in
    let own_reads = rw c.in-Some-2.is at c.in_ok-own_behind.ensures in
    let reads = rw c.in-Some-3.is at c.in_ok-behind.ensures in
    reads_next c.args.profile c.loop-d.d c.args.reading.now.script.sections c.args.script.now.sections c.args.reading.now.output.items c.args.output.now acts changes
    c.loop-d.own_rest.now c.loop-d.rest.now c.in-Some-2.own_behind.now c.in-Some-3.behind.now
    c.section-made.result.now c.section.result.now c.acts_at-acts.result.now c.deref-in-loop-d-2.result.now c.changes_at-changes.result.now
    made_is section_is acts_is changes_is here (c.deref-in-loop-d-2.ensures.value ∙ shows) own_reads reads c.loop-d.invariant
