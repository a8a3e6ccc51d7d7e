use Rattle.std.proofs.Common.{◌<◌, subst, sym}
use Rattle.model_core.specs.Domains.{IsWithinLimits}
use Rattle.heap_rule.specs.Limits.{sizes_in}
use Rattle.text_script.specs.Schedule.Drive.Spending.{most_in_replay}
use Rattle.run_replay.specs.Pace.{spare_of}
use Rattle.model_core.specs.declared.entry.Entry.{Entry}
use Rattle.std.specs.Prelude.{◌≡◌, List, []}
use Rattle.text_script.specs.Schedule.Drive.Following.{IsCalm}
use Rattle.run_replay.specs.Gathered.{GatheredView, IsGathered, MayShare, seen_in}
use Rattle.run_replay.proofs.Gathering.{begins_calm, begins_fresh, begins_room}
use Rattle.run_replay.proofs.replay.replay_runs.Goals as goal

pub drive-requires-clause-calm : goal.drive-requires-clause-calm
drive-requires-clause-calm c = subst (λ (v : GatheredView). IsCalm (seen_in v)) (sym c.in_ok-gathered.ensures) (begins_calm c.args.heap c.args.runs.items c.requires.may)

pub drive-requires-clause-fresh : goal.drive-requires-clause-fresh
drive-requires-clause-fresh c =
    subst (λ (v : GatheredView). (h : List Entry) → MayShare v h → h ≡ []) (sym c.in_ok-gathered.ensures)
    (begins_fresh c.args.heap c.args.runs.items c.requires.may (subst IsGathered c.in_ok-gathered.ensures c.shows_whole.ensures))

pub drive-requires-clause-arrivals : goal.drive-requires-clause-arrivals
drive-requires-clause-arrivals c =
    subst (λ (v : GatheredView). most_in_replay (seen_in v) c.args.items.now < spare_of v) (sym c.in_ok-gathered.ensures)
    (begins_room c.args.heap c.args.runs.items c.args.items.now c.requires.may (subst IsGathered c.in_ok-gathered.ensures c.shows_whole.ensures) (subst (λ (v : GatheredView). IsWithinLimits (sizes_in v.heap.config)) c.in_ok-gathered.ensures c.shows_shared.ensures.stands.limits) c.requires.few)
