use Rattle.std.proofs.Common.{◌≡◌, ◌∙◌, ℕ, ◌/◌, ◌%◌, List, true, false, refl, sym, ap, subst, arith}
use Rattle.model_core.specs.declared.command.Command.TheVariants.{Load}
use Rattle.model_core.specs.declared.entry.Entry.{Entry}
use Rattle.model_core.specs.declared.graph.Value.TheVariants.{Block}
use Rattle.model_core.specs.declared.reply.Reply.TheVariants as reply
use Rattle.model_core.specs.declared.state.Sizes.{Sizes}
use Rattle.weak_laws.specs.Maps.Calls.{PerformedBy}
use Rattle.weak_laws.specs.Maps.Tries.{number_of, root_width}
use Rattle.weak_maps.specs.Beside.{held_by}
use Rattle.weak_maps.specs.Fields.{Finds, Taking}
use Rattle.weak_maps.proofs.FollowLemmas.{none_follows}
use Rattle.weak_maps.proofs.GetLemmas.{shown_label}
use Rattle.weak_maps.proofs.GuardLemmas.{guards_quiet, guards_same, quiet_none}
use Rattle.weak_maps.proofs.MachineLemmas.{finds_at, not_so, performed_from, so_then}
use Rattle.weak_maps.proofs.StayLemmas.{prefix_same}
use Rattle.weak_maps.proofs.TakeLemmas.{take_again, take_begins}
use Rattle.weak_direct.proofs.FrameLemmas.{goes_on, guards_on, looks_on, looks_same, looks_of, performed_on, quiet_on}
use Rattle.weak_direct.proofs.LookLemmas.{guards_follow, quiet_follows}
use Rattle.weak_direct.proofs.TakeLemmas.{exchanged, guards_tried, looking_stops, lost_looking, not_taken, quiet_stops, take_done, take_missed, taken_at}
use Rattle.weak_direct.proofs.taking.map_take.Goals as goal

pub returns-in_default-clause-goes : goal.returns-in_default-clause-goes
returns-in_default-clause-goes g c = (looks_same c.show.ensures.shows).goes

pub returns-in_default-clause-guards : goal.returns-in_default-clause-guards
returns-in_default-clause-guards g c = λ root held map. guards_same (g.M.Direct.sizes c.args.m.now) root (g.M.Direct.domain c.args.m.now) _ _ _ c.show.ensures.shows.front_is

pub returns-in_default-clause-answer : goal.returns-in_default-clause-answer
returns-in_default-clause-answer g c = λ root held map respects. not_taken (g.M.Direct.sizes c.args.m.now) (g.M.Direct.domain c.args.m.now) _ _ root _ c.show.ensures.shows.front_is (λ k is. c.in_default.not-Block k (c.show.ensures.reply ∙ is))

pub returns-in_default-clause-follows : goal.returns-in_default-clause-follows
returns-in_default-clause-follows g c = λ root held map placed respects. none_follows (g.M.Direct.sizes c.args.m.now) _ _ root c.show.ensures.shows.front_is map placed

pub returns-in_err-_zero-clause-goes : goal.returns-in_err-_zero-clause-goes
returns-in_err-_zero-clause-goes g c = (looks_on (looks_same c.show.ensures.shows) (looks_of c.step.ensures.goes (c.step.ensures.quiet (λ s. refl)))).goes

pub returns-in_err-_zero-clause-guards : goal.returns-in_err-_zero-clause-guards
returns-in_err-_zero-clause-guards g c = λ root held map. guards_quiet (g.M.Direct.sizes c.args.m.now) root (g.M.Direct.domain c.args.m.now) _ _ _ (looks_on (looks_same c.show.ensures.shows) (looks_of c.step.ensures.goes (c.step.ensures.quiet (λ s. refl)))).quiet

pub returns-in_err-_zero-clause-follows : goal.returns-in_err-_zero-clause-follows
returns-in_err-_zero-clause-follows g c = λ root held map placed respects. let x = looks_on (looks_same c.show.ensures.shows) (looks_of c.step.ensures.goes (c.step.ensures.quiet (λ s. refl))) in quiet_follows (g.M.Direct.sizes c.args.m.now) root (g.M.Direct.domain c.args.m.now) _ _ x.goes.passes.grows x.quiet respects map placed

pub returns-in_err-_zero-clause-stopped : goal.returns-in_err-_zero-clause-stopped
returns-in_err-_zero-clause-stopped g c = λ none. quiet_stops (g.M.Direct.sizes c.args.m.now) (g.M.Direct.domain c.args.m.now) _ _ c.args.map (looks_on (looks_same c.show.ensures.shows) (looks_of c.step.ensures.goes (c.step.ensures.quiet (λ s. refl)))).quiet

pub returns-in_err-at-clause-goes : goal.returns-in_err-at-clause-goes
returns-in_err-at-clause-goes g c = (looks_on (looks_on (looks_same c.show.ensures.shows) (looks_of c.step.ensures.goes (c.step.ensures.quiet (λ s. refl)))) c.read_root.ensures.looks).goes

pub returns-in_err-at-clause-guards : goal.returns-in_err-at-clause-guards
returns-in_err-at-clause-guards g c = λ root held map. guards_quiet (g.M.Direct.sizes c.args.m.now) root (g.M.Direct.domain c.args.m.now) _ _ _ (looks_on (looks_on (looks_same c.show.ensures.shows) (looks_of c.step.ensures.goes (c.step.ensures.quiet (λ s. refl)))) c.read_root.ensures.looks).quiet

pub returns-in_err-at-clause-follows : goal.returns-in_err-at-clause-follows
returns-in_err-at-clause-follows g c = λ root held map placed respects. let x = looks_on (looks_on (looks_same c.show.ensures.shows) (looks_of c.step.ensures.goes (c.step.ensures.quiet (λ s. refl)))) c.read_root.ensures.looks in quiet_follows (g.M.Direct.sizes c.args.m.now) root (g.M.Direct.domain c.args.m.now) _ _ x.goes.passes.grows x.quiet respects map placed

pub returns-in_err-at-clause-stopped : goal.returns-in_err-at-clause-stopped
returns-in_err-at-clause-stopped g c = λ none. quiet_stops (g.M.Direct.sizes c.args.m.now) (g.M.Direct.domain c.args.m.now) _ _ c.args.map (looks_on (looks_on (looks_same c.show.ensures.shows) (looks_of c.step.ensures.goes (c.step.ensures.quiet (λ s. refl)))) c.read_root.ensures.looks).quiet

pub tries-init : goal.tries-init
tries-init g c =
    let z : Sizes = g.M.Direct.sizes c.args.m.now in
    let d : ℕ = g.M.Direct.domain c.args.m.now in
    let old : List Entry = g.M.Direct.front c.args.m.now in
    let k = c.in-Block.label in
    let e = c.show.ensures in
    let zero = looks_on (looks_same c.show.ensures.shows) (looks_of c.step.ensures.goes (c.step.ensures.quiet (λ s. refl))) in
    let begun = looks_on zero c.read_root.ensures.looks in
    let same : c.number_of-number.result ≡ number_of z.domains k = c.number_of-number.ensures.number ∙ ap (λ (n : ℕ). number_of n k) (c.domains.ensures ∙ ap (λ (y : Sizes). y.domains) e.shows.stays.sizes) in
    let p0 = performed_from z _ d _ old _ _ _ _ e.shows.stays.sizes e.shows.stays.domain e.shows.front_is c.in_ok-_zero.ensures.performed in
    let read = c.in_ok-at.ensures.read in
    let first = c.from_root-from.ensures.index ∙ ap (λ (n : ℕ). n % root_width) same in
    let left = c.from_root-from.ensures.rest ∙ ap (λ (n : ℕ). n / root_width) same in
    let p1 = performed_on zero.goes.keeps.stays read.root in
    let p2 = subst (λ (n : ℕ). PerformedBy z d read.brought (g.M.Direct.front c.read_root.new.m) (Load 9 8 n) c.in_ok-at.at) first (performed_on zero.goes.keeps.stays read.field) in record {
      goes = begun.goes;
      guards = λ root held map. guards_quiet z root d old old _ begun.quiet;
      walk = λ root held map respects.
          subst (λ (w : ℕ × ℕ). Taking z d old (g.M.Direct.front c.read_root.new.m) root k w.0 w.1 c.in_ok-at.at) (λ i. (sym first i, sym left i))
          (take_begins z c.shows_inside.ensures.limits root d old k _ read.brought _ _ _ c.in_ok-at.at c.args.map c.requires.few.0 map held p0 p1 p2 respects);
    }

pub returns-in_err-from-clause-goes : goal.returns-in_err-from-clause-goes
returns-in_err-from-clause-goes g c = goes_on c.tries.invariant.goes (c.find.ensures.looks).goes

pub returns-in_err-from-clause-guards : goal.returns-in_err-from-clause-guards
returns-in_err-from-clause-guards g c = λ root held map. guards_on c.tries.invariant.goes.keeps.stays (c.tries.invariant.guards root held map) (c.find.ensures.looks)

pub returns-in_err-from-clause-follows : goal.returns-in_err-from-clause-follows
returns-in_err-from-clause-follows g c = λ root held map placed respects. guards_follow (g.M.Direct.sizes c.args.m.now) root (g.M.Direct.domain c.args.m.now) _ _ (returns-in_err-from-clause-goes g c).passes.grows (returns-in_err-from-clause-guards g c root held map) respects map placed

pub returns-in_err-from-clause-stopped : goal.returns-in_err-from-clause-stopped
returns-in_err-from-clause-stopped g c = λ none root held map respects.
    looking_stops (g.M.Direct.sizes c.args.m.now) root (g.M.Direct.domain c.args.m.now) _ _ _ (λ early. (c.tries.invariant.walk root held map early).looking) c.find.ensures.looks.goes.passes.grows (quiet_on c.tries.invariant.goes.keeps.stays c.find.ensures.looks) respects

pub returns-then-not-from-clause-goes : goal.returns-then-not-from-clause-goes
returns-then-not-from-clause-goes g c = goes_on c.tries.invariant.goes (looks_on c.find.ensures.looks c.clear.ensures.looks).goes

pub returns-then-not-from-clause-guards : goal.returns-then-not-from-clause-guards
returns-then-not-from-clause-guards g c = λ root held map. guards_on c.tries.invariant.goes.keeps.stays (c.tries.invariant.guards root held map) (looks_on c.find.ensures.looks c.clear.ensures.looks)

pub returns-then-not-from-clause-follows : goal.returns-then-not-from-clause-follows
returns-then-not-from-clause-follows g c = λ root held map placed respects. guards_follow (g.M.Direct.sizes c.args.m.now) root (g.M.Direct.domain c.args.m.now) _ _ (returns-then-not-from-clause-goes g c).passes.grows (returns-then-not-from-clause-guards g c root held map) respects map placed

pub returns-then-not-from-clause-answer : goal.returns-then-not-from-clause-answer
returns-then-not-from-clause-answer g c =
    let z : Sizes = g.M.Direct.sizes c.args.m.now in
    let d : ℕ = g.M.Direct.domain c.args.m.now in
    let i = c.tries.invariant in
    let stays = i.goes.keeps.stays in
    let found = goes_on i.goes c.find.ensures.looks.goes in
    let key = shown_label _ _ (sym c.show.ensures.reply ∙ c.in-Block.is) in
    let finds = finds_at z _ d _ _ _ c.args.key c.in-Block.label _ _ _ _ _ false _ stays.sizes stays.domain (not_so c.in_ok-from.from.mine c.if-not-from.true) c.in_ok-from.ensures.found in
    λ root held map respects.
    taken_at z d _ _ root _ c.in-Block.label reply.Empty key
    (take_missed z c.shows_inside.ensures.limits root d _ c.in-Block.label c.args.key c.requires.few.1 key _ _ _ c.tries.from.index c.tries.from.rest c.in_ok-from.from.index c.in_ok-from.from.rest c.tries.at finds (i.walk root held map)
    c.find.ensures.looks.goes.passes.grows c.clear.ensures.looks.goes.passes.grows (quiet_on found.keeps.stays c.clear.ensures.looks) (returns-then-not-from-clause-goes g c).passes.keeps respects)

pub returns-in_err-won-clause-goes : goal.returns-in_err-won-clause-goes
returns-in_err-won-clause-goes g c = goes_on c.tries.invariant.goes (looks_on c.find.ensures.looks (looks_of c.exchange.ensures.goes (c.exchange.ensures.stopped c.in_err-won.was))).goes

pub returns-in_err-won-clause-guards : goal.returns-in_err-won-clause-guards
returns-in_err-won-clause-guards g c = λ root held map. guards_on c.tries.invariant.goes.keeps.stays (c.tries.invariant.guards root held map) (looks_on c.find.ensures.looks (looks_of c.exchange.ensures.goes (c.exchange.ensures.stopped c.in_err-won.was)))

pub returns-in_err-won-clause-follows : goal.returns-in_err-won-clause-follows
returns-in_err-won-clause-follows g c = λ root held map placed respects. guards_follow (g.M.Direct.sizes c.args.m.now) root (g.M.Direct.domain c.args.m.now) _ _ (returns-in_err-won-clause-goes g c).passes.grows (returns-in_err-won-clause-guards g c root held map) respects map placed

pub returns-in_err-won-clause-stopped : goal.returns-in_err-won-clause-stopped
returns-in_err-won-clause-stopped g c = λ none root held map respects.
    let looks = looks_on c.find.ensures.looks (looks_of c.exchange.ensures.goes (c.exchange.ensures.stopped c.in_err-won.was)) in
    looking_stops (g.M.Direct.sizes c.args.m.now) root (g.M.Direct.domain c.args.m.now) _ _ _ (λ early. (c.tries.invariant.walk root held map early).looking) looks.goes.passes.grows (quiet_on c.tries.invariant.goes.keeps.stays looks) respects

pub returns-then-is_yes-clause-goes : goal.returns-then-is_yes-clause-goes
returns-then-is_yes-clause-goes g c = goes_on (goes_on c.tries.invariant.goes (goes_on c.find.ensures.looks.goes c.exchange.ensures.goes)) (c.clear-then-is_yes.ensures.looks).goes

pub returns-then-is_yes-clause-guards : goal.returns-then-is_yes-clause-guards
returns-then-is_yes-clause-guards g c =
    let key = shown_label _ _ (sym c.show.ensures.reply ∙ c.in-Block.is) in
    let mine = so_then c.in_ok-from.from.mine c.if-not-from.false in
    λ root held map. guards_tried c.tries.invariant.goes c.find.ensures.looks c.exchange.ensures.goes (c.clear-then-is_yes.ensures.looks) c.shows_inside.ensures.limits root c.in-Block.label c.args.key c.requires.few.1 key _ _ _ _ _ _ _ mine c.in_ok-from.ensures.found c.in_ok-won.ensures.performed (c.tries.invariant.guards root held map) (c.tries.invariant.walk root held map)

pub returns-then-is_yes-clause-follows : goal.returns-then-is_yes-clause-follows
returns-then-is_yes-clause-follows g c = λ root held map placed respects. guards_follow (g.M.Direct.sizes c.args.m.now) root (g.M.Direct.domain c.args.m.now) _ _ (returns-then-is_yes-clause-goes g c).passes.grows (returns-then-is_yes-clause-guards g c root held map) respects map placed

pub returns-then-is_yes-clause-answer : goal.returns-then-is_yes-clause-answer
returns-then-is_yes-clause-answer g c =
    let i = c.tries.invariant in
    let key = shown_label _ _ (sym c.show.ensures.reply ∙ c.in-Block.is) in
    let t = exchanged i.goes c.find.ensures.looks c.exchange.ensures.goes c.args.key c.in-Block.label _ _ _ _ _ _ _ (so_then c.in_ok-from.from.mine c.if-not-from.false) c.in_ok-from.ensures.found c.in_ok-won.ensures.performed in
    λ root held map respects.
    taken_at (g.M.Direct.sizes c.args.m.now) (g.M.Direct.domain c.args.m.now) _ _ root _ c.in-Block.label reply.Done key
    (take_done (g.M.Direct.sizes c.args.m.now) c.shows_inside.ensures.limits root (g.M.Direct.domain c.args.m.now) _ c.in-Block.label c.args.key c.requires.few.1 key _ _ _ _ _ _ _ _ _ c.in_ok-won.won t.0 (i.walk root held map) c.find.ensures.looks.goes.passes.grows t.1 (c.is_yes.ensures.0 c.if-is_yes.true)
    c.clear-then-is_yes.ensures.looks.goes.passes.grows (quiet_on (goes_on i.goes (goes_on c.find.ensures.looks.goes c.exchange.ensures.goes)).keeps.stays c.clear-then-is_yes.ensures.looks) (returns-then-is_yes-clause-goes g c).passes.keeps respects)

pub returns-in_err-at-2-clause-goes : goal.returns-in_err-at-2-clause-goes
returns-in_err-at-2-clause-goes g c = goes_on (goes_on c.tries.invariant.goes (goes_on c.find.ensures.looks.goes c.exchange.ensures.goes)) (c.read_field.ensures.looks).goes

pub returns-in_err-at-2-clause-guards : goal.returns-in_err-at-2-clause-guards
returns-in_err-at-2-clause-guards g c =
    let key = shown_label _ _ (sym c.show.ensures.reply ∙ c.in-Block.is) in
    let mine = so_then c.in_ok-from.from.mine c.if-not-from.false in
    λ root held map. guards_tried c.tries.invariant.goes c.find.ensures.looks c.exchange.ensures.goes (c.read_field.ensures.looks) c.shows_inside.ensures.limits root c.in-Block.label c.args.key c.requires.few.1 key _ _ _ _ _ _ _ mine c.in_ok-from.ensures.found c.in_ok-won.ensures.performed (c.tries.invariant.guards root held map) (c.tries.invariant.walk root held map)

pub returns-in_err-at-2-clause-follows : goal.returns-in_err-at-2-clause-follows
returns-in_err-at-2-clause-follows g c = λ root held map placed respects. guards_follow (g.M.Direct.sizes c.args.m.now) root (g.M.Direct.domain c.args.m.now) _ _ (returns-in_err-at-2-clause-goes g c).passes.grows (returns-in_err-at-2-clause-guards g c root held map) respects map placed

pub returns-in_err-at-2-clause-stopped : goal.returns-in_err-at-2-clause-stopped
returns-in_err-at-2-clause-stopped g c =
    let i = c.tries.invariant in
    let key = shown_label _ _ (sym c.show.ensures.reply ∙ c.in-Block.is) in
    let t = exchanged i.goes c.find.ensures.looks c.exchange.ensures.goes c.args.key c.in-Block.label _ _ _ _ _ _ _ (so_then c.in_ok-from.from.mine c.if-not-from.false) c.in_ok-from.ensures.found c.in_ok-won.ensures.performed in
    λ none root held map respects.
    looking_stops (g.M.Direct.sizes c.args.m.now) root (g.M.Direct.domain c.args.m.now) _ _ _ (lost_looking (g.M.Direct.sizes c.args.m.now) c.shows_inside.ensures.limits root (g.M.Direct.domain c.args.m.now) _ c.in-Block.label c.args.key c.requires.few.1 key _ _ _ _ _ _ _ _ c.in_ok-won.won t.0 (i.walk root held map) c.find.ensures.looks.goes.passes.grows t.1
    (λ e. let clash : true ≡ false = sym (c.is_yes.ensures.1 e) ∙ c.if-is_yes.false in cc)) c.read_field.ensures.looks.goes.passes.grows (quiet_on (goes_on i.goes (goes_on c.find.ensures.looks.goes c.exchange.ensures.goes)).keeps.stays c.read_field.ensures.looks) respects

pub tries-preserved : goal.tries-preserved
tries-preserved g c =
    let i = c.tries.invariant in
    let key = shown_label _ _ (sym c.show.ensures.reply ∙ c.in-Block.is) in
    let t = exchanged i.goes c.find.ensures.looks c.exchange.ensures.goes c.args.key c.in-Block.label _ _ _ _ _ _ _ (so_then c.in_ok-from.from.mine c.if-not-from.false) c.in_ok-from.ensures.found c.in_ok-won.ensures.performed in
    let tried = goes_on i.goes (goes_on c.find.ensures.looks.goes c.exchange.ensures.goes) in
    let mine = so_then c.in_ok-from.from.mine c.if-not-from.false in record {
      goes = goes_on tried c.read_field.ensures.looks.goes;
      guards = λ root held map. guards_tried i.goes c.find.ensures.looks c.exchange.ensures.goes c.read_field.ensures.looks c.shows_inside.ensures.limits root c.in-Block.label c.args.key c.requires.few.1 key _ _ _ _ _ _ _ mine c.in_ok-from.ensures.found c.in_ok-won.ensures.performed (i.guards root held map) (i.walk root held map);
      walk = λ root held map respects.
          take_again (g.M.Direct.sizes c.args.m.now) c.shows_inside.ensures.limits root (g.M.Direct.domain c.args.m.now) _ c.in-Block.label c.args.key c.requires.few.1 key _ _ _ _ _ _ _ _ _ c.in_ok-won.won c.in_ok-at-2.at t.0 (i.walk root held map) c.find.ensures.looks.goes.passes.grows t.1
          (λ e. let clash : true ≡ false = sym (c.is_yes.ensures.1 e) ∙ c.if-is_yes.false in cc) (performed_on tried.keeps.stays c.in_ok-at-2.ensures.read) respects;
    }

pub returns-clause-follows : goal.returns-clause-follows
returns-clause-follows g c = λ root held map placed respects. guards_follow (g.M.Direct.sizes c.args.m.now) root (g.M.Direct.domain c.args.m.now) _ _ c.tries.invariant.goes.passes.grows (c.tries.invariant.guards root held map) respects map placed

pub returns-clause-stopped : goal.returns-clause-stopped
returns-clause-stopped g c = λ none root held map respects.
    looking_stops (g.M.Direct.sizes c.args.m.now) root (g.M.Direct.domain c.args.m.now) _ _ _ (λ early. (c.tries.invariant.walk root held map early).looking) (prefix_same _) (quiet_none (g.M.Direct.sizes c.args.m.now) (g.M.Direct.domain c.args.m.now) _) respects
