use Rattle.std.proofs.Common.{◌≡◌, ◌<◌, length, get_or, filter_map, option_to_list, slice_get, take, ◌∙◌, append_assoc}
use Rattle.model_core.specs.Entries.{at_places}
use Rattle.judge_plain.proofs.PlaceLemmas.{keys_one_more}
use Rattle.judge_plain.proofs.wiping.add_keys_at.Goals as goal

pub loop-p-preserved : goal.loop-p-preserved
loop-p-preserved c =
    let keys = c.args.keys.now in
    let ps = c.args.places.now in
    let i = c.loop-p.p-index in
    let list : c.deref-p-items.result.now ≡ ps = c.deref-p-items.ensures.value ∙ c.places.view_is in
    let within : i < length ps = rw list at c.loop-p-test.true in
    let step = keys_one_more keys ps i within in
    let regroup = append_assoc c.args.labels.now.items (filter_map (λ k. k) (at_places (take i ps) keys)) (filter_map (λ k. k) (option_to_list (slice_get keys (get_or ps i 0)))) in
    let pushed = c.in_ok-add_key_at.ensures in
    cc
