use Rattle.std.proofs.Common.{◌≡◌, ◌∙◌, ℕ, List, true, false, sym}
use Rattle.std.proofs.lemmas.Option.{IfSome_then}
use Rattle.model_core.specs.declared.entry.Entry.{Entry}
use Rattle.model_core.specs.declared.graph.Value.TheVariants.{Block}
use Rattle.model_core.specs.declared.label.Label.{Label}
use Rattle.model_core.specs.declared.state.Sizes.{Sizes}
use Rattle.model_core.specs.declared.reply.Reply.TheVariants as reply
use Rattle.weak_maps.specs.Beside.{held_by}
use Rattle.weak_maps.proofs.FollowLemmas.{none_follows}
use Rattle.weak_maps.proofs.GetLemmas.{shown_label}
use Rattle.weak_direct.specs.Leaves.{LooksUp}
use Rattle.weak_direct.proofs.FrameLemmas.{keeps_on, looks_on, looks_reads, looks_same, reads_on}
use Rattle.weak_direct.proofs.LookLemmas.{ends_at, gets_datum, gets_none, got_at, looks_at, not_got, quiet_follows}
use Rattle.weak_direct.proofs.getting.map_get.Goals as goal

pub returns-in_default-clause-reads : goal.returns-in_default-clause-reads
returns-in_default-clause-reads g c = looks_reads _ (looks_same c.show.ensures.shows)

pub returns-in_default-clause-answer : goal.returns-in_default-clause-answer
returns-in_default-clause-answer g c = λ root held map respects. not_got (g.M.Direct.sizes c.args.m.now) (g.M.Direct.domain c.args.m.now) _ _ root c.args.dst _ c.show.ensures.shows.front_is (λ k is. c.in_default.not-Block k (c.show.ensures.reply ∙ is))

pub returns-in_default-clause-follows : goal.returns-in_default-clause-follows
returns-in_default-clause-follows g c = λ root held map placed respects. none_follows (g.M.Direct.sizes c.args.m.now) _ _ root c.show.ensures.shows.front_is map placed

pub returns-in_err-look_up-clause-reads : goal.returns-in_err-look_up-clause-reads
returns-in_err-look_up-clause-reads g c =
    let looks = looks_on (looks_same c.show.ensures.shows) c.look_up.ensures.looks in
    looks_reads _ looks

pub returns-in_err-look_up-clause-follows : goal.returns-in_err-look_up-clause-follows
returns-in_err-look_up-clause-follows g c = λ root held map placed respects. let x = returns-in_err-look_up-clause-reads g c in quiet_follows (g.M.Direct.sizes c.args.m.now) root (g.M.Direct.domain c.args.m.now) _ _ x.grows x.quiet respects map placed

pub returns-in_err-finish-clause-reads : goal.returns-in_err-finish-clause-reads
returns-in_err-finish-clause-reads g c =
    let looks = looks_on (looks_same c.show.ensures.shows) c.look_up.ensures.looks in
    reads_on looks c.finish.ensures.reads

pub returns-in_err-finish-clause-follows : goal.returns-in_err-finish-clause-follows
returns-in_err-finish-clause-follows g c = λ root held map placed respects. let x = returns-in_err-finish-clause-reads g c in quiet_follows (g.M.Direct.sizes c.args.m.now) root (g.M.Direct.domain c.args.m.now) _ _ x.grows x.quiet respects map placed

pub returns-then-not-branch-clause-reads : goal.returns-then-not-branch-clause-reads
returns-then-not-branch-clause-reads g c =
    reads_on (looks_on (looks_same c.show.ensures.shows) c.look_up.ensures.looks) c.finish.ensures.reads

pub returns-then-not-branch-clause-answer : goal.returns-then-not-branch-clause-answer
returns-then-not-branch-clause-answer g c =
    let z : Sizes = g.M.Direct.sizes c.args.m.now in
    let d : ℕ = g.M.Direct.domain c.args.m.now in
    let e = c.show.ensures in
    let looks = looks_on (looks_same e.shows) c.look_up.ensures.looks in
    let stays = looks.goes.keeps.stays in
    let key = shown_label _ _ (sym e.reply ∙ c.in-Block.is) in
    let found = looks_at z _ d _ _ _ _ c.args.map c.args.key c.in-Block.label false _ e.shows.stays.sizes e.shows.stays.domain e.shows.front_is c.if-not-branch.true c.in_ok-look_up.ensures.found in
    λ root held map respects.
    got_at z d _ _ root c.args.dst _ c.in-Block.label reply.Empty key
    (gets_none z c.shows_inside.ensures.limits root d _ c.in-Block.label _ _ c.args.dst c.args.key c.requires.few.0 respects looks.goes.passes.keeps _ (ends_at z _ d _ _ _ _ _ stays.sizes stays.domain c.in_ok-finish.ensures.ends) (found root held key map))

pub returns-then-not-branch-clause-follows : goal.returns-then-not-branch-clause-follows
returns-then-not-branch-clause-follows g c = λ root held map placed respects. let x = returns-then-not-branch-clause-reads g c in quiet_follows (g.M.Direct.sizes c.args.m.now) root (g.M.Direct.domain c.args.m.now) _ _ x.grows x.quiet respects map placed

pub returns-clause-reads : goal.returns-clause-reads
returns-clause-reads g c =
    reads_on (looks_on (looks_same c.show.ensures.shows) c.look_up.ensures.looks) c.finish-2.ensures.reads

pub returns-clause-answer : goal.returns-clause-answer
returns-clause-answer g c =
    let z : Sizes = g.M.Direct.sizes c.args.m.now in
    let d : ℕ = g.M.Direct.domain c.args.m.now in
    let e = c.show.ensures in
    let looks = looks_on (looks_same e.shows) c.look_up.ensures.looks in
    let stays = looks.goes.keeps.stays in
    let key : held_by z d (g.M.Direct.front c.args.m.now) c.args.key ≡ Block c.in-Block.label = shown_label _ _ (sym e.reply ∙ c.in-Block.is) in
    let found = looks_at z _ d _ _ _ _ c.args.map c.args.key c.in-Block.label true _ e.shows.stays.sizes e.shows.stays.domain e.shows.front_is c.if-not-branch.false c.in_ok-look_up.ensures.found in
    IfSome_then c.finish-2.result c.finish-2.ensures.ends (λ r x.
    λ root held map respects.
    got_at z d _ _ root c.args.dst _ c.in-Block.label r key
    (gets_datum z c.shows_inside.ensures.limits root d _ c.in-Block.label _ _ c.args.dst c.args.key c.requires.few.0 respects looks.goes.passes.keeps r c.requires.few.2 key (ends_at z _ d _ _ _ _ r stays.sizes stays.domain x) (found root held key map)))

pub returns-clause-follows : goal.returns-clause-follows
returns-clause-follows g c = λ root held map placed respects. let x = returns-clause-reads g c in quiet_follows (g.M.Direct.sizes c.args.m.now) root (g.M.Direct.domain c.args.m.now) _ _ x.grows x.quiet respects map placed
