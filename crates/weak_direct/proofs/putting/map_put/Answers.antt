use Rattle.std.proofs.Common.{◌≡◌, ◌∙◌, ℕ, ◌+◌, Bool, cond, List, true, false, sym, ap, subst, arith}
use Rattle.std.proofs.lemmas.Option.{IfSome_then}
use Rattle.model_core.specs.declared.entry.Entry.{Entry}
use Rattle.model_core.specs.declared.reply.Reply.{Reply}
use Rattle.model_core.specs.declared.reply.Reply.TheVariants as reply
use Rattle.model_core.specs.declared.state.Sizes.{Sizes}
use Rattle.model_core.specs.Commands.{shown as shown_as}
use Rattle.weak_maps.specs.Beside.{held_by, refusals_by}
use Rattle.weak_maps.proofs.FollowLemmas.{none_follows}
use Rattle.weak_maps.proofs.GetLemmas.{shown_label}
use Rattle.weak_maps.proofs.GuardLemmas.{guards_same, leaf_guards_at, settle_guards_at}
use Rattle.weak_maps.proofs.MachineLemmas.{counted_by, leaf_at, shows_some}
use Rattle.weak_maps.proofs.StayLemmas.{prefix_same, respects_within}
use Rattle.weak_direct.specs.Puts.{SettleCounts}
use Rattle.weak_direct.proofs.FrameLemmas.{given_on, goes_spends, guards_on, looks_on, looks_same, quiet_on, spends_behind, spends_both, spends_more, spends_on}
use Rattle.weak_direct.proofs.LookLemmas.{guards_follow}
use Rattle.weak_direct.proofs.PutLemmas.{goes_stops}
use Rattle.weak_direct.proofs.TryLemmas.{arrived_by, leaf_stops, leaf_stops_at, none_put, not_put, put_held, refused_answer, settle_stops_at, settled_at, settled_guards, try_counts}
use Rattle.weak_direct.proofs.putting.map_put.Goals as goal

pub returns-in_default-clause-spends : goal.returns-in_default-clause-spends
returns-in_default-clause-spends g c = goes_spends 2 1 (looks_same c.show.ensures.shows).goes

pub returns-in_default-clause-counts : goal.returns-in_default-clause-counts
returns-in_default-clause-counts g c = (ap (refusals_by (g.M.Direct.domain c.args.m.now)) c.show.ensures.shows.front_is, sym c.show.ensures.shows.labels)

pub returns-in_default-clause-guards : goal.returns-in_default-clause-guards
returns-in_default-clause-guards g c = λ root held map placed. guards_same (g.M.Direct.sizes c.args.m.now) root (g.M.Direct.domain c.args.m.now) _ _ _ c.show.ensures.shows.front_is

pub returns-in_default-clause-answer : goal.returns-in_default-clause-answer
returns-in_default-clause-answer g c = λ root held map placed respects. not_put (g.M.Direct.sizes c.args.m.now) (g.M.Direct.domain c.args.m.now) _ _ root _ _ c.show.ensures.shows.front_is (λ k is. c.in_default.not-Block k (c.show.ensures.reply ∙ is))

pub returns-in_default-clause-follows : goal.returns-in_default-clause-follows
returns-in_default-clause-follows g c = λ root held map placed respects. none_follows (g.M.Direct.sizes c.args.m.now) _ _ root c.show.ensures.shows.front_is map placed

pub returns-then-is_empty-clause-spends : goal.returns-then-is_empty-clause-spends
returns-then-is_empty-clause-spends g c = goes_spends 2 1 (looks_on (looks_same c.show.ensures.shows) (looks_same c.show-datum.ensures.shows)).goes

pub returns-then-is_empty-clause-counts : goal.returns-then-is_empty-clause-counts
returns-then-is_empty-clause-counts g c = (ap (refusals_by (g.M.Direct.domain c.args.m.now)) (c.show-datum.ensures.shows.front_is ∙ c.show.ensures.shows.front_is), sym (c.show-datum.ensures.shows.labels ∙ c.show.ensures.shows.labels))

pub returns-then-is_empty-clause-guards : goal.returns-then-is_empty-clause-guards
returns-then-is_empty-clause-guards g c = λ root held map placed. guards_same (g.M.Direct.sizes c.args.m.now) root (g.M.Direct.domain c.args.m.now) _ _ _ (c.show-datum.ensures.shows.front_is ∙ c.show.ensures.shows.front_is)

pub returns-then-is_empty-clause-answer : goal.returns-then-is_empty-clause-answer
returns-then-is_empty-clause-answer g c =
    let at_first : shown_as (held_by (g.M.Direct.sizes c.args.m.now) (g.M.Direct.domain c.args.m.now) (g.M.Direct.front c.args.m.now) c.args.item) ≡ c.show-datum.result = ap (λ (w : Sizes × ℕ × List Entry). shown_as (held_by w.0 w.1 w.2 c.args.item)) (λ i. (sym c.show.ensures.shows.stays.sizes i, sym c.show.ensures.shows.stays.domain i, sym c.show.ensures.shows.front_is i)) ∙ sym c.show-datum.ensures.reply in
    λ root held map placed respects. none_put (g.M.Direct.sizes c.args.m.now) (g.M.Direct.domain c.args.m.now) _ _ root _ _ (c.show-datum.ensures.shows.front_is ∙ c.show.ensures.shows.front_is) (at_first ∙ c.is_empty.ensures.0 c.if-is_empty.true)

pub returns-then-is_empty-clause-follows : goal.returns-then-is_empty-clause-follows
returns-then-is_empty-clause-follows g c = λ root held map placed respects. none_follows (g.M.Direct.sizes c.args.m.now) _ _ root (c.show-datum.ensures.shows.front_is ∙ c.show.ensures.shows.front_is) map placed

pub returns-in_err-made-clause-spends : goal.returns-in_err-made-clause-spends
returns-in_err-made-clause-spends g c = spends_more (omega arith) (omega arith) (spends_behind (looks_on (looks_same c.show.ensures.shows) (looks_same c.show-datum.ensures.shows)).goes c.make_leaf.ensures.spends)

pub returns-in_err-made-clause-guards : goal.returns-in_err-made-clause-guards
returns-in_err-made-clause-guards g c =
    let shown = looks_on (looks_same c.show.ensures.shows) (looks_same c.show-datum.ensures.shows) in
    let some = shows_some (g.M.Direct.sizes c.args.m.now) _ (g.M.Direct.domain c.args.m.now) _ _ _ c.args.item c.show-datum.result c.show.ensures.shows.stays.sizes c.show.ensures.shows.stays.domain c.show.ensures.shows.front_is c.show-datum.ensures.reply (λ e. let clash : true ≡ false = sym (c.is_empty.ensures.1 e) ∙ c.if-is_empty.false in cc) in
    let key = shown_label _ _ (sym c.show.ensures.reply ∙ c.in-Block.is) in
    let begun = leaf_guards_at (g.M.Direct.sizes c.args.m.now) _ (g.M.Direct.domain c.args.m.now) _ _ _ _ c.args.key c.args.item shown.goes.keeps.stays.sizes shown.goes.keeps.stays.domain (c.show-datum.ensures.shows.front_is ∙ c.show.ensures.shows.front_is) c.make_leaf.ensures.guards in
    λ root held map placed. begun root c.in-Block.label key some map

pub returns-in_err-made-clause-follows : goal.returns-in_err-made-clause-follows
returns-in_err-made-clause-follows g c = λ root held map placed respects. guards_follow (g.M.Direct.sizes c.args.m.now) root (g.M.Direct.domain c.args.m.now) _ _ (returns-in_err-made-clause-spends g c).strides.grows (returns-in_err-made-clause-guards g c root held map placed) respects map placed

pub returns-in_err-made-clause-stopped : goal.returns-in_err-made-clause-stopped
returns-in_err-made-clause-stopped g c =
    let shown = looks_on (looks_same c.show.ensures.shows) (looks_same c.show-datum.ensures.shows) in
    let some = shows_some (g.M.Direct.sizes c.args.m.now) _ (g.M.Direct.domain c.args.m.now) _ _ _ c.args.item c.show-datum.result c.show.ensures.shows.stays.sizes c.show.ensures.shows.stays.domain c.show.ensures.shows.front_is c.show-datum.ensures.reply (λ e. let clash : true ≡ false = sym (c.is_empty.ensures.1 e) ∙ c.if-is_empty.false in cc) in
    let key = shown_label _ _ (sym c.show.ensures.reply ∙ c.in-Block.is) in
    let stops = leaf_stops_at (g.M.Direct.sizes c.args.m.now) _ (g.M.Direct.domain c.args.m.now) _ _ _ _ c.args.key c.args.item shown.goes.keeps.stays.sizes shown.goes.keeps.stays.domain (c.show-datum.ensures.shows.front_is ∙ c.show.ensures.shows.front_is) (c.make_leaf.ensures.stopped c.in_err-made.was) in
    λ none root held map placed respects. goes_stops (g.M.Direct.sizes c.args.m.now) root (g.M.Direct.domain c.args.m.now) _ _ (stops root c.in-Block.label key some map respects)

pub returns-then-not-made-clause-spends : goal.returns-then-not-made-clause-spends
returns-then-not-made-clause-spends g c = spends_more (omega arith) (omega arith) (spends_on (spends_behind (looks_on (looks_same c.show.ensures.shows) (looks_same c.show-datum.ensures.shows)).goes c.make_leaf.ensures.spends) c.clear.ensures.looks.goes)

pub returns-then-not-made-clause-guards : goal.returns-then-not-made-clause-guards
returns-then-not-made-clause-guards g c =
    let shown = looks_on (looks_same c.show.ensures.shows) (looks_same c.show-datum.ensures.shows) in
    let some = shows_some (g.M.Direct.sizes c.args.m.now) _ (g.M.Direct.domain c.args.m.now) _ _ _ c.args.item c.show-datum.result c.show.ensures.shows.stays.sizes c.show.ensures.shows.stays.domain c.show.ensures.shows.front_is c.show-datum.ensures.reply (λ e. let clash : true ≡ false = sym (c.is_empty.ensures.1 e) ∙ c.if-is_empty.false in cc) in
    let key = shown_label _ _ (sym c.show.ensures.reply ∙ c.in-Block.is) in
    let begun = leaf_guards_at (g.M.Direct.sizes c.args.m.now) _ (g.M.Direct.domain c.args.m.now) _ _ _ _ c.args.key c.args.item shown.goes.keeps.stays.sizes shown.goes.keeps.stays.domain (c.show-datum.ensures.shows.front_is ∙ c.show.ensures.shows.front_is) c.make_leaf.ensures.guards in
    λ root held map placed. guards_on (spends_behind shown.goes c.make_leaf.ensures.spends).stays (begun root c.in-Block.label key some map) (c.clear.ensures.looks)

pub returns-then-not-made-clause-follows : goal.returns-then-not-made-clause-follows
returns-then-not-made-clause-follows g c = λ root held map placed respects. guards_follow (g.M.Direct.sizes c.args.m.now) root (g.M.Direct.domain c.args.m.now) _ _ (returns-then-not-made-clause-spends g c).strides.grows (returns-then-not-made-clause-guards g c root held map placed) respects map placed

pub returns-then-not-made-clause-answer : goal.returns-then-not-made-clause-answer
returns-then-not-made-clause-answer g c =
    let shown = looks_on (looks_same c.show.ensures.shows) (looks_same c.show-datum.ensures.shows) in
    let some = shows_some (g.M.Direct.sizes c.args.m.now) _ (g.M.Direct.domain c.args.m.now) _ _ _ c.args.item c.show-datum.result c.show.ensures.shows.stays.sizes c.show.ensures.shows.stays.domain c.show.ensures.shows.front_is c.show-datum.ensures.reply (λ e. let clash : true ≡ false = sym (c.is_empty.ensures.1 e) ∙ c.if-is_empty.false in cc) in
    let key = shown_label _ _ (sym c.show.ensures.reply ∙ c.in-Block.is) in
    let makes = leaf_at (g.M.Direct.sizes c.args.m.now) _ (g.M.Direct.domain c.args.m.now) _ _ _ _ c.args.key c.args.item false _ shown.goes.keeps.stays.sizes shown.goes.keeps.stays.domain (c.show-datum.ensures.shows.front_is ∙ c.show.ensures.shows.front_is) c.if-not-made.true c.in_ok-made.ensures.made in
    λ root held map placed respects.
    put_held (g.M.Direct.sizes c.args.m.now) (g.M.Direct.domain c.args.m.now) _ _ root _ _ c.in-Block.label reply.Full key some
    (refused_answer (g.M.Direct.sizes c.args.m.now) root (g.M.Direct.domain c.args.m.now) _ _ _ c.clear.ensures.looks.goes.passes.grows (quiet_on (spends_behind shown.goes c.make_leaf.ensures.spends).stays c.clear.ensures.looks) c.in-Block.label _ (makes root c.in-Block.label key some map) (returns-then-not-made-clause-spends g c).strides.keeps respects)
    (returns-then-not-made-clause-follows g c root held map placed respects).1

pub returns-then-not-made-clause-counts : goal.returns-then-not-made-clause-counts
returns-then-not-made-clause-counts g c =
    let shown = looks_on (looks_same c.show.ensures.shows) (looks_same c.show-datum.ensures.shows) in
    let l0 = shown.goes.keeps.labels in
    let l1 = c.in_ok-made.ensures.labels ∙ ap (λ (b : Bool). g.M.Direct.labels_left c.make_leaf.new.m + cond b 1 0) c.if-not-made.true in
    let l2 = c.clear.ensures.looks.goes.keeps.labels in
    let h0 = ap (refusals_by (g.M.Direct.domain c.args.m.now)) (c.show-datum.ensures.shows.front_is ∙ c.show.ensures.shows.front_is) in
    let h1 = counted_by refusals_by (g.M.Direct.domain c.args.m.now) _ _ _ _ shown.goes.keeps.stays.domain (c.in_ok-made.ensures.refused ∙ ap (λ (b : Bool). refusals_by (g.M.Direct.domain c.show-datum.new.self) (g.M.Direct.front c.show-datum.new.self) + cond b 0 1) c.if-not-made.true) in
    let h2 = given_on (spends_behind shown.goes c.make_leaf.ensures.spends).stays _ _ c.clear.ensures.looks.goes.passes.given in
    (omega (arith, h0, h1, h2), omega (arith, l0, l1, l2), omega (arith, l0, l1, l2))

pub returns-in_err-at-clause-spends : goal.returns-in_err-at-clause-spends
returns-in_err-at-clause-spends g c = spends_more (omega arith) (omega arith) (spends_on (spends_behind (looks_on (looks_same c.show.ensures.shows) (looks_same c.show-datum.ensures.shows)).goes c.make_leaf.ensures.spends) (c.read_root.ensures.looks).goes)

pub returns-in_err-at-clause-guards : goal.returns-in_err-at-clause-guards
returns-in_err-at-clause-guards g c =
    let shown = looks_on (looks_same c.show.ensures.shows) (looks_same c.show-datum.ensures.shows) in
    let some = shows_some (g.M.Direct.sizes c.args.m.now) _ (g.M.Direct.domain c.args.m.now) _ _ _ c.args.item c.show-datum.result c.show.ensures.shows.stays.sizes c.show.ensures.shows.stays.domain c.show.ensures.shows.front_is c.show-datum.ensures.reply (λ e. let clash : true ≡ false = sym (c.is_empty.ensures.1 e) ∙ c.if-is_empty.false in cc) in
    let key = shown_label _ _ (sym c.show.ensures.reply ∙ c.in-Block.is) in
    let begun = leaf_guards_at (g.M.Direct.sizes c.args.m.now) _ (g.M.Direct.domain c.args.m.now) _ _ _ _ c.args.key c.args.item shown.goes.keeps.stays.sizes shown.goes.keeps.stays.domain (c.show-datum.ensures.shows.front_is ∙ c.show.ensures.shows.front_is) c.make_leaf.ensures.guards in
    λ root held map placed. guards_on (spends_behind shown.goes c.make_leaf.ensures.spends).stays (begun root c.in-Block.label key some map) (c.read_root.ensures.looks)

pub returns-in_err-at-clause-follows : goal.returns-in_err-at-clause-follows
returns-in_err-at-clause-follows g c = λ root held map placed respects. guards_follow (g.M.Direct.sizes c.args.m.now) root (g.M.Direct.domain c.args.m.now) _ _ (returns-in_err-at-clause-spends g c).strides.grows (returns-in_err-at-clause-guards g c root held map placed) respects map placed

pub returns-in_err-at-clause-stopped : goal.returns-in_err-at-clause-stopped
returns-in_err-at-clause-stopped g c =
    let shown = looks_on (looks_same c.show.ensures.shows) (looks_same c.show-datum.ensures.shows) in
    let some = shows_some (g.M.Direct.sizes c.args.m.now) _ (g.M.Direct.domain c.args.m.now) _ _ _ c.args.item c.show-datum.result c.show.ensures.shows.stays.sizes c.show.ensures.shows.stays.domain c.show.ensures.shows.front_is c.show-datum.ensures.reply (λ e. let clash : true ≡ false = sym (c.is_empty.ensures.1 e) ∙ c.if-is_empty.false in cc) in
    let key = shown_label _ _ (sym c.show.ensures.reply ∙ c.in-Block.is) in
    let makes = leaf_at (g.M.Direct.sizes c.args.m.now) _ (g.M.Direct.domain c.args.m.now) _ _ _ _ c.args.key c.args.item true _ shown.goes.keeps.stays.sizes shown.goes.keeps.stays.domain (c.show-datum.ensures.shows.front_is ∙ c.show.ensures.shows.front_is) c.if-not-made.false c.in_ok-made.ensures.made in
    let looks = c.read_root.ensures.looks in
    λ none root held map placed respects. leaf_stops (g.M.Direct.sizes c.args.m.now) root (g.M.Direct.domain c.args.m.now) _ _ _ looks.goes.passes.grows (quiet_on (spends_behind shown.goes c.make_leaf.ensures.spends).stays looks) c.in-Block.label _ (makes root c.in-Block.label key some map) respects

pub returns-in_err-from-clause-spends : goal.returns-in_err-from-clause-spends
returns-in_err-from-clause-spends g c = spends_more (omega arith) (omega arith) (spends_on (spends_behind (looks_on (looks_same c.show.ensures.shows) (looks_same c.show-datum.ensures.shows)).goes c.make_leaf.ensures.spends) (looks_on c.read_root.ensures.looks c.find.ensures.looks).goes)

pub returns-in_err-from-clause-guards : goal.returns-in_err-from-clause-guards
returns-in_err-from-clause-guards g c =
    let shown = looks_on (looks_same c.show.ensures.shows) (looks_same c.show-datum.ensures.shows) in
    let some = shows_some (g.M.Direct.sizes c.args.m.now) _ (g.M.Direct.domain c.args.m.now) _ _ _ c.args.item c.show-datum.result c.show.ensures.shows.stays.sizes c.show.ensures.shows.stays.domain c.show.ensures.shows.front_is c.show-datum.ensures.reply (λ e. let clash : true ≡ false = sym (c.is_empty.ensures.1 e) ∙ c.if-is_empty.false in cc) in
    let key = shown_label _ _ (sym c.show.ensures.reply ∙ c.in-Block.is) in
    let begun = leaf_guards_at (g.M.Direct.sizes c.args.m.now) _ (g.M.Direct.domain c.args.m.now) _ _ _ _ c.args.key c.args.item shown.goes.keeps.stays.sizes shown.goes.keeps.stays.domain (c.show-datum.ensures.shows.front_is ∙ c.show.ensures.shows.front_is) c.make_leaf.ensures.guards in
    λ root held map placed. guards_on (spends_behind shown.goes c.make_leaf.ensures.spends).stays (begun root c.in-Block.label key some map) (looks_on c.read_root.ensures.looks c.find.ensures.looks)

pub returns-in_err-from-clause-follows : goal.returns-in_err-from-clause-follows
returns-in_err-from-clause-follows g c = λ root held map placed respects. guards_follow (g.M.Direct.sizes c.args.m.now) root (g.M.Direct.domain c.args.m.now) _ _ (returns-in_err-from-clause-spends g c).strides.grows (returns-in_err-from-clause-guards g c root held map placed) respects map placed

pub returns-in_err-from-clause-stopped : goal.returns-in_err-from-clause-stopped
returns-in_err-from-clause-stopped g c =
    let shown = looks_on (looks_same c.show.ensures.shows) (looks_same c.show-datum.ensures.shows) in
    let some = shows_some (g.M.Direct.sizes c.args.m.now) _ (g.M.Direct.domain c.args.m.now) _ _ _ c.args.item c.show-datum.result c.show.ensures.shows.stays.sizes c.show.ensures.shows.stays.domain c.show.ensures.shows.front_is c.show-datum.ensures.reply (λ e. let clash : true ≡ false = sym (c.is_empty.ensures.1 e) ∙ c.if-is_empty.false in cc) in
    let key = shown_label _ _ (sym c.show.ensures.reply ∙ c.in-Block.is) in
    let makes = leaf_at (g.M.Direct.sizes c.args.m.now) _ (g.M.Direct.domain c.args.m.now) _ _ _ _ c.args.key c.args.item true _ shown.goes.keeps.stays.sizes shown.goes.keeps.stays.domain (c.show-datum.ensures.shows.front_is ∙ c.show.ensures.shows.front_is) c.if-not-made.false c.in_ok-made.ensures.made in
    let looks = looks_on c.read_root.ensures.looks c.find.ensures.looks in
    λ none root held map placed respects. leaf_stops (g.M.Direct.sizes c.args.m.now) root (g.M.Direct.domain c.args.m.now) _ _ _ looks.goes.passes.grows (quiet_on (spends_behind shown.goes c.make_leaf.ensures.spends).stays looks) c.in-Block.label _ (makes root c.in-Block.label key some map) respects

pub returns-clause-spends : goal.returns-clause-spends
returns-clause-spends g c = spends_both (spends_on (spends_behind (looks_on (looks_same c.show.ensures.shows) (looks_same c.show-datum.ensures.shows)).goes c.make_leaf.ensures.spends) (looks_on c.read_root.ensures.looks c.find.ensures.looks).goes) c.settle.ensures.spends

pub returns-clause-guards : goal.returns-clause-guards
returns-clause-guards g c =
    let shown = looks_on (looks_same c.show.ensures.shows) (looks_same c.show-datum.ensures.shows) in
    let some = shows_some (g.M.Direct.sizes c.args.m.now) _ (g.M.Direct.domain c.args.m.now) _ _ _ c.args.item c.show-datum.result c.show.ensures.shows.stays.sizes c.show.ensures.shows.stays.domain c.show.ensures.shows.front_is c.show-datum.ensures.reply (λ e. let clash : true ≡ false = sym (c.is_empty.ensures.1 e) ∙ c.if-is_empty.false in cc) in
    let key = shown_label _ _ (sym c.show.ensures.reply ∙ c.in-Block.is) in
    let begun = leaf_guards_at (g.M.Direct.sizes c.args.m.now) _ (g.M.Direct.domain c.args.m.now) _ _ _ _ c.args.key c.args.item shown.goes.keeps.stays.sizes shown.goes.keeps.stays.domain (c.show-datum.ensures.shows.front_is ∙ c.show.ensures.shows.front_is) c.make_leaf.ensures.guards in
    let makes = leaf_at (g.M.Direct.sizes c.args.m.now) _ (g.M.Direct.domain c.args.m.now) _ _ _ _ c.args.key c.args.item true _ shown.goes.keeps.stays.sizes shown.goes.keeps.stays.domain (c.show-datum.ensures.shows.front_is ∙ c.show.ensures.shows.front_is) c.if-not-made.false c.in_ok-made.ensures.made in
    let there = (spends_on (spends_behind shown.goes c.make_leaf.ensures.spends) (looks_on c.read_root.ensures.looks c.find.ensures.looks).goes).stays in
    let guards = settle_guards_at (g.M.Direct.sizes c.args.m.now) _ (g.M.Direct.domain c.args.m.now) _ _ _ c.in-Block.label c.in_ok-from.from.index c.in_ok-from.from.rest c.in_ok-from.from.steps c.in_ok-from.from.other there.sizes there.domain c.settle.ensures.guards in
    λ root held map placed.
    settled_guards (g.M.Direct.sizes c.args.m.now) root (g.M.Direct.domain c.args.m.now) _ _ _ c.settle.ensures.spends.strides.grows (guards_on (spends_behind shown.goes c.make_leaf.ensures.spends).stays (begun root c.in-Block.label key some map) (looks_on c.read_root.ensures.looks c.find.ensures.looks))
    (λ e. guards (g.M.Direct.front c.args.m.now) root _ c.args.key c.requires.few.1 key map placed (arrived_by (spends_behind shown.goes c.make_leaf.ensures.spends).stays c.read_root.ensures.looks c.find.ensures.looks c.shows_inside.ensures.limits root c.in-Block.label _ c.args.key c.requires.few.1 key map placed (makes root c.in-Block.label key some map) c.args.map
    c.requires.few.0 held _ _ _ _ c.domains.ensures c.number_of-number.ensures.number c.from_root-first.ensures.index c.from_root-first.ensures.rest _ c.in_ok-at.ensures.read _ _ _ _ c.in_ok-from.ensures.field c.in_ok-from.ensures.leaf e))

pub returns-clause-follows : goal.returns-clause-follows
returns-clause-follows g c = λ root held map placed respects. guards_follow (g.M.Direct.sizes c.args.m.now) root (g.M.Direct.domain c.args.m.now) _ _ (returns-clause-spends g c).strides.grows (returns-clause-guards g c root held map placed) respects map placed

pub returns-clause-answer : goal.returns-clause-answer
returns-clause-answer g c =
    let shown = looks_on (looks_same c.show.ensures.shows) (looks_same c.show-datum.ensures.shows) in
    let some = shows_some (g.M.Direct.sizes c.args.m.now) _ (g.M.Direct.domain c.args.m.now) _ _ _ c.args.item c.show-datum.result c.show.ensures.shows.stays.sizes c.show.ensures.shows.stays.domain c.show.ensures.shows.front_is c.show-datum.ensures.reply (λ e. let clash : true ≡ false = sym (c.is_empty.ensures.1 e) ∙ c.if-is_empty.false in cc) in
    let key = shown_label _ _ (sym c.show.ensures.reply ∙ c.in-Block.is) in
    let makes = leaf_at (g.M.Direct.sizes c.args.m.now) _ (g.M.Direct.domain c.args.m.now) _ _ _ _ c.args.key c.args.item true _ shown.goes.keeps.stays.sizes shown.goes.keeps.stays.domain (c.show-datum.ensures.shows.front_is ∙ c.show.ensures.shows.front_is) c.if-not-made.false c.in_ok-made.ensures.made in
    let there = (spends_on (spends_behind shown.goes c.make_leaf.ensures.spends) (looks_on c.read_root.ensures.looks c.find.ensures.looks).goes).stays in
    IfSome_then c.settle.result c.settle.ensures.settled (λ r settled root held map placed respects.
    put_held (g.M.Direct.sizes c.args.m.now) (g.M.Direct.domain c.args.m.now) _ _ root _ _ c.in-Block.label r key some
    (settled_at (g.M.Direct.sizes c.args.m.now) _ (g.M.Direct.domain c.args.m.now) _ _ _ c.in-Block.label c.in_ok-from.from.index c.in_ok-from.from.rest c.in_ok-from.from.steps c.in_ok-from.from.other r there.sizes there.domain settled (g.M.Direct.front c.args.m.now) root _ c.args.key c.requires.few.1 key map placed (arrived_by (spends_behind shown.goes c.make_leaf.ensures.spends).stays c.read_root.ensures.looks c.find.ensures.looks c.shows_inside.ensures.limits root c.in-Block.label _ c.args.key c.requires.few.1 key map placed (makes root c.in-Block.label key some map) c.args.map c.requires.few.0 held
    _ _ _ _ c.domains.ensures c.number_of-number.ensures.number c.from_root-first.ensures.index c.from_root-first.ensures.rest _ c.in_ok-at.ensures.read _ _ _ _ c.in_ok-from.ensures.field c.in_ok-from.ensures.leaf (respects_within (g.M.Direct.sizes c.args.m.now) root (g.M.Direct.domain c.args.m.now) _ _ _ _ (prefix_same _) c.settle.ensures.spends.strides.grows respects)) respects)
    (returns-clause-follows g c root held map placed respects).1)

pub returns-clause-stopped : goal.returns-clause-stopped
returns-clause-stopped g c =
    let shown = looks_on (looks_same c.show.ensures.shows) (looks_same c.show-datum.ensures.shows) in
    let some = shows_some (g.M.Direct.sizes c.args.m.now) _ (g.M.Direct.domain c.args.m.now) _ _ _ c.args.item c.show-datum.result c.show.ensures.shows.stays.sizes c.show.ensures.shows.stays.domain c.show.ensures.shows.front_is c.show-datum.ensures.reply (λ e. let clash : true ≡ false = sym (c.is_empty.ensures.1 e) ∙ c.if-is_empty.false in cc) in
    let key = shown_label _ _ (sym c.show.ensures.reply ∙ c.in-Block.is) in
    let makes = leaf_at (g.M.Direct.sizes c.args.m.now) _ (g.M.Direct.domain c.args.m.now) _ _ _ _ c.args.key c.args.item true _ shown.goes.keeps.stays.sizes shown.goes.keeps.stays.domain (c.show-datum.ensures.shows.front_is ∙ c.show.ensures.shows.front_is) c.if-not-made.false c.in_ok-made.ensures.made in
    let there = (spends_on (spends_behind shown.goes c.make_leaf.ensures.spends) (looks_on c.read_root.ensures.looks c.find.ensures.looks).goes).stays in
    λ none root held map placed respects.
    settle_stops_at (g.M.Direct.sizes c.args.m.now) _ (g.M.Direct.domain c.args.m.now) _ _ _ c.in-Block.label c.in_ok-from.from.index c.in_ok-from.from.rest c.in_ok-from.from.steps c.in_ok-from.from.other there.sizes there.domain (c.settle.ensures.stopped none) (g.M.Direct.front c.args.m.now) root _ c.args.key c.requires.few.1 key map placed (arrived_by (spends_behind shown.goes c.make_leaf.ensures.spends).stays c.read_root.ensures.looks c.find.ensures.looks c.shows_inside.ensures.limits root c.in-Block.label _ c.args.key c.requires.few.1 key map placed (makes root c.in-Block.label key some map) c.args.map c.requires.few.0 held
    _ _ _ _ c.domains.ensures c.number_of-number.ensures.number c.from_root-first.ensures.index c.from_root-first.ensures.rest _ c.in_ok-at.ensures.read _ _ _ _ c.in_ok-from.ensures.field c.in_ok-from.ensures.leaf (respects_within (g.M.Direct.sizes c.args.m.now) root (g.M.Direct.domain c.args.m.now) _ _ _ _ (prefix_same _) c.settle.ensures.spends.strides.grows respects)) respects

pub returns-clause-counts : goal.returns-clause-counts
returns-clause-counts g c =
    let shown = looks_on (looks_same c.show.ensures.shows) (looks_same c.show-datum.ensures.shows) in
    let looks = looks_on c.read_root.ensures.looks c.find.ensures.looks in
    let there = (spends_on (spends_behind shown.goes c.make_leaf.ensures.spends) (looks_on c.read_root.ensures.looks c.find.ensures.looks).goes).stays in
    let l0 = shown.goes.keeps.labels in
    let l1 = c.in_ok-made.ensures.labels ∙ ap (λ (b : Bool). g.M.Direct.labels_left c.make_leaf.new.m + cond b 1 0) c.if-not-made.false in
    let l2 = looks.goes.keeps.labels in
    let h0 = ap (refusals_by (g.M.Direct.domain c.args.m.now)) (c.show-datum.ensures.shows.front_is ∙ c.show.ensures.shows.front_is) in
    let h1 = counted_by refusals_by (g.M.Direct.domain c.args.m.now) _ _ _ _ shown.goes.keeps.stays.domain (c.in_ok-made.ensures.refused ∙ ap (λ (b : Bool). refusals_by (g.M.Direct.domain c.show-datum.new.self) (g.M.Direct.front c.show-datum.new.self) + cond b 0 1) c.if-not-made.false) in
    let h2 = given_on (spends_behind shown.goes c.make_leaf.ensures.spends).stays _ _ looks.goes.passes.given in
    IfSome_then c.settle.result c.settle.ensures.counts (λ r x. try_counts _ _ _ _ _ _ r (omega (arith, l0, l1, l2)) (omega (arith, h0, h1, h2))
    (subst (λ (e : ℕ). SettleCounts (g.M.Direct.labels_left c.find.new.m) (g.M.Direct.labels_left c.settle.new.m) (refusals_by e (g.M.Direct.front c.find.new.m)) (refusals_by e (g.M.Direct.front c.settle.new.m)) r) there.domain x))

pub make_leaf-requires-clause-few : goal.make_leaf-requires-clause-few
make_leaf-requires-clause-few g c = (c.requires.few.1, c.requires.few.2)

pub make_leaf-requires-clause-label : goal.make_leaf-requires-clause-label
make_leaf-requires-clause-label g c = let l0 = c.show.ensures.shows.labels in let l1 = c.show-datum.ensures.shows.labels in let some = c.requires.left.0 in omega (arith, l0, l1, some)

pub make_leaf-requires-clause-room : goal.make_leaf-requires-clause-room
make_leaf-requires-clause-room g c = let r0 = c.show.ensures.shows.room in let r1 = c.show-datum.ensures.shows.room in let some = c.requires.left.1 in omega (arith, r0, r1, some)

pub settle-requires : goal.settle-requires
settle-requires g c =
    let shown = looks_on (looks_same c.show.ensures.shows) (looks_same c.show-datum.ensures.shows) in
    let l0 = shown.goes.keeps.labels in
    let l1 = c.in_ok-made.ensures.labels ∙ ap (λ (b : Bool). g.M.Direct.labels_left c.make_leaf.new.m + cond b 1 0) c.if-not-made.false in
    let l2 = (looks_on c.read_root.ensures.looks c.find.ensures.looks).goes.keeps.labels in
    let some = c.requires.left.0 in
    omega (arith, l0, l1, l2, some)
