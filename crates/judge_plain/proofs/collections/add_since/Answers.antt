use Rattle.std.proofs.Common.{◌≡◌, ◌≤◌, length, append-nil, sym, ◌∙◌}
use Rattle.std.proofs.lemmas.Option.{slice_get_past}
use Rattle.judge_plain.proofs.collections.add_since.Goals as goal

pub returns-in-None : goal.returns-in-None
returns-in-None c =
    let cut = c.args.cut.now in
    let list : c.deref.result.now ≡ cut = c.deref.ensures.value ∙ c.cut.view_is in
    let past : length cut ≤ c.args.place = rw list at c.in-None.ensures.lookup.3 in
    rw (slice_get_past cut c.args.place past) (sym (append-nil c.args.labels.now.items))
