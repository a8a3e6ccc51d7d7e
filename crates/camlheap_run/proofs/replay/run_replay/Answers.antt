use Rattle.std.proofs.Common.{◌≡◌, ◌≤◌, length, ap, arith, subst, sym, Some, true}
use Rattle.std.specs.Prelude.{Option}
use Rattle.std.specs.List.{list_all}
use Rattle.text_script.specs.Schedule.Drive.Following.{is_for}
use Rattle.model_core.specs.declared.state.Sizes.{Sizes}
use Rattle.heap_rule.specs.Ending.{EndedHeap}
use Rattle.run_replay.specs.Replayed.{Replayed}
use Rattle.text_script.specs.Schedule.Text.Replays.{Replayed as ReplayedText}
use Rattle.camlheap_run.specs.Reading.{IsSpelledReplay}
use Rattle.camlheap_run.specs.Replaying.{WritesFrontOfReplay, WritesReplay}
use Rattle.camlheap_run.proofs.ReplayLemmas.{all_played_here, all_played_over, begun_may, items_for, leaves_ample, many_sections, played_count, replayed_script, writes_replay, writes_replay_front}
use Rattle.camlheap_run.proofs.replay.run_replay.Goals as goal

pub replay_runs-requires-clause-may : goal.replay_runs-requires-clause-may
replay_runs-requires-clause-may g c =
    let read : ReplayedText = record { items = c.replay.inside.schedule; script = c.replay.inside.script } in
    let spelled : IsSpelledReplay c.args.sizes.now read = subst (IsSpelledReplay c.args.sizes.now) (sym c.replay.view_is) c.requires.replay in
    begun_may c.config_of.result c.replay.inside.script.sections c.in-Ok.begun c.in-Ok.ensures
    (many_sections c.args.sizes.now c.config_of.result read spelled c.config_of.ensures.sizes)
    (leaves_ample c.args.sizes.now c.config_of.result read c.requires.limits spelled c.config_of.ensures.sizes)

pub replay_runs-requires-clause-inside : goal.replay_runs-requires-clause-inside
replay_runs-requires-clause-inside g c =
    items_for c.config_of.result c.replay.inside.script.sections c.in-Ok.begun c.args.sizes.now.domains c.items.result.now c.in-Ok.ensures (ap (λ (y : Sizes). y.domains) c.config_of.ensures.sizes)
    (subst (λ is. list_all (is_for c.args.sizes.now.domains) is ≡ true) (sym c.items.ensures) (subst (IsSpelledReplay c.args.sizes.now) (sym c.replay.view_is) c.requires.replay).1.schedule.for_domains)

pub replay_runs-requires-clause-few : goal.replay_runs-requires-clause-few
replay_runs-requires-clause-few g c =
    subst (λ is. length is ≤ 200000) (sym c.items.ensures) (subst (IsSpelledReplay c.args.sizes.now) (sym c.replay.view_is) c.requires.replay).1.schedule.few

pub end-requires-clause-here : goal.end-requires-clause-here
end-requires-clause-here g c =
    all_played_here c.args.sizes.now c.config_of.result c.replay.inside.script.sections c.in-Ok.begun c.items.result.now c.in-Ok-replay_runs.driven.0 c.in-Ok-replay_runs.driven.1.items c.config_of.ensures.sizes c.in-Ok.ensures
    (many_sections c.args.sizes.now c.config_of.result (record { items = c.replay.inside.schedule; script = c.replay.inside.script }) (subst (IsSpelledReplay c.args.sizes.now) (sym c.replay.view_is) c.requires.replay) c.config_of.ensures.sizes) c.in-Ok-replay_runs.ensures

pub end-requires-clause-over : goal.end-requires-clause-over
end-requires-clause-over g c =
    all_played_over c.args.sizes.now c.config_of.result c.replay.inside.script.sections c.in-Ok.begun c.items.result.now c.in-Ok-replay_runs.driven.0 c.in-Ok-replay_runs.driven.1.items c.config_of.ensures.sizes c.in-Ok.ensures
    (many_sections c.args.sizes.now c.config_of.result (record { items = c.replay.inside.schedule; script = c.replay.inside.script }) (subst (IsSpelledReplay c.args.sizes.now) (sym c.replay.view_is) c.requires.replay) c.config_of.ensures.sizes) c.in-Ok-replay_runs.ensures

pub end-requires-clause-some : goal.end-requires-clause-some
end-requires-clause-some g c =
    let many = played_count c.args.sizes.now c.config_of.result c.replay.inside.script.sections c.in-Ok.begun c.items.result.now c.in-Ok-replay_runs.driven.0 c.in-Ok-replay_runs.driven.1.items c.config_of.ensures.sizes c.in-Ok.ensures
    (many_sections c.args.sizes.now c.config_of.result (record { items = c.replay.inside.schedule; script = c.replay.inside.script }) (subst (IsSpelledReplay c.args.sizes.now) (sym c.replay.view_is) c.requires.replay) c.config_of.ensures.sizes) c.in-Ok-replay_runs.ensures in
    let some = c.in-Ok.ensures.some in
    omega (arith, many, some)

pub end-requires-clause-room : goal.end-requires-clause-room
end-requires-clause-room g c =
    let many = played_count c.args.sizes.now c.config_of.result c.replay.inside.script.sections c.in-Ok.begun c.items.result.now c.in-Ok-replay_runs.driven.0 c.in-Ok-replay_runs.driven.1.items c.config_of.ensures.sizes c.in-Ok.ensures
    (many_sections c.args.sizes.now c.config_of.result (record { items = c.replay.inside.schedule; script = c.replay.inside.script }) (subst (IsSpelledReplay c.args.sizes.now) (sym c.replay.view_is) c.requires.replay) c.config_of.ensures.sizes) c.in-Ok-replay_runs.ensures in
    let room = c.in-Ok.ensures.room in
    omega (arith, many, room)

pub returns-in-Ok-written-clause-done : goal.returns-in-Ok-written-clause-done
returns-in-Ok-written-clause-done g c = λ ended is.
    let last : ◌≡◌ {A = Option EndedHeap} (Some c.end.result) ended = cc in
    let replayed = subst (λ items. Replayed c.in-Ok.begun.heap.config c.in-Ok.begun.runs.items items c.in-Ok-replay_runs.driven.0 c.in-Ok-replay_runs.driven.1.items) c.items.ensures c.in-Ok-replay_runs.ensures in
    subst (λ r. WritesReplay c.args.sizes.now r ended (g.K.Sink.written c.args.out.now) (g.K.Sink.written c.write_report-written.new.out)) c.replay.view_is
    (writes_replay c.args.sizes.now c.config_of.result c.replay.inside.script.sections c.in-Ok.begun c.replay.inside.schedule c.in-Ok-replay_runs.driven.0 c.in-Ok-replay_runs.driven.1.items c.config_of.ensures.sizes c.in-Ok.ensures
    (many_sections c.args.sizes.now c.config_of.result (record { items = c.replay.inside.schedule; script = c.replay.inside.script }) (subst (IsSpelledReplay c.args.sizes.now) (sym c.replay.view_is) c.requires.replay) c.config_of.ensures.sizes) replayed c.end.result c.end.ensures c.replay.inside.script.version c.deref.result.now ended _ _ c.deref.ensures.value last c.in-Ok-written.ensures.bytes)

pub returns-clause-cut : goal.returns-clause-cut
returns-clause-cut g c = λ ended is.
    let last : ◌≡◌ {A = Option EndedHeap} (Some c.end.result) ended = cc in
    let replayed = subst (λ items. Replayed c.in-Ok.begun.heap.config c.in-Ok.begun.runs.items items c.in-Ok-replay_runs.driven.0 c.in-Ok-replay_runs.driven.1.items) c.items.ensures c.in-Ok-replay_runs.ensures in
    subst (λ r. WritesFrontOfReplay c.args.sizes.now r ended (g.K.Sink.written c.args.out.now) (g.K.Sink.written c.write_report-written.new.out)) c.replay.view_is
    (writes_replay_front c.args.sizes.now c.config_of.result c.replay.inside.script.sections c.in-Ok.begun c.replay.inside.schedule c.in-Ok-replay_runs.driven.0 c.in-Ok-replay_runs.driven.1.items c.config_of.ensures.sizes c.in-Ok.ensures
    (many_sections c.args.sizes.now c.config_of.result (record { items = c.replay.inside.schedule; script = c.replay.inside.script }) (subst (IsSpelledReplay c.args.sizes.now) (sym c.replay.view_is) c.requires.replay) c.config_of.ensures.sizes) replayed c.end.result c.end.ensures c.replay.inside.script.version c.deref.result.now ended _ _ c.deref.ensures.value last c.in-Err-written.ensures.bytes)

pub begin-requires-clause-script : goal.begin-requires-clause-script
begin-requires-clause-script g c =
    replayed_script c.args.sizes.now c.config_of.result (record { items = c.replay.inside.schedule; script = c.replay.inside.script }) (subst (IsSpelledReplay c.args.sizes.now) (sym c.replay.view_is) c.requires.replay) c.config_of.ensures.sizes
