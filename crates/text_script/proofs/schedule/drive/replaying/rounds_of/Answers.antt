use Rattle.std.proofs.Common.{◌∙◌, ◌<◌, ◌≡◌, max, length, map, get_or, slice_get, option_map, Some, rules, subst, sym, ap}
use Rattle.std.proofs.lemmas.List.{length-map}
use Rattle.std.proofs.lemmas.List.Sums.{fold_more}
use Rattle.std.proofs.lemmas.Option.{slice_get-get_or, slice_get-map}
use Rattle.text_script.specs.Schedule.Drive.Together.{AllRuns, OneRun}
use Rattle.text_script.specs.Schedule.Drive.Pausing.{lefts}
use Rattle.text_script.proofs.OfSchedule.OfDrive.Listing.{read_at}
use Rattle.text_script.proofs.OfSchedule.OfDrive.Passing.{no_run}
use Rattle.text_script.proofs.schedule.drive.replaying.rounds_of.Goals as goal

pub domains-preserved : goal.domains-preserved
domains-preserved g c =
    let v : AllRuns = g.T.TogetherRuns.seen c.args.runs.now in
    let inside : c.domains.at < length v.runs = search (rules, c.count-at-end.ensures) in
    let x : OneRun = get_or v.runs c.domains.at no_run in
    let was : slice_get v.runs c.domains.at ≡ Some x = slice_get-get_or v.runs c.domains.at no_run inside in
    let here : get_or (map length (lefts v)) c.domains.at 0 ≡ length x.left = read_at length (lefts v) c.domains.at x.left 0 (slice_get-map (λ (r : OneRun). r.left) v.runs c.domains.at ∙ ap (option_map (λ (r : OneRun). r.left)) was) in
    let left : c.commands_left.result ≡ length x.left = c.commands_left.ensures.left x was in
    let many : c.domains.at < length (map length (lefts v)) = subst (λ n. c.domains.at < n) (sym (length-map (lefts v) length ∙ length-map v.runs (λ (r : OneRun). r.left))) inside in
    let most : c.greater-most.result ≡ max c.domains.most c.commands_left.result = c.greater-most.ensures in (
      most ∙ ap (λ n. max n c.commands_left.result) c.domains.invariant.0 ∙ ap (max _) (left ∙ sym here) ∙ sym (fold_more max 0 (map length (lefts v)) c.domains.at 0 many),
      (let few = c.commands_left.ensures.few in let before = c.domains.invariant.1 in search (rules, most, few, before)),
    )
