use Rattle.std.proofs.Common.{inl, ◌≡◌, ◌≢◌, inr, ◌∙◌, ℕ, ◌+◌, ◌/◌, ◌%◌, ◌≤◌, List, true, false, refl, sym, ap, subst, arith}
use Rattle.model_core.specs.declared.command.Command.TheVariants.{Load}
use Rattle.model_core.specs.declared.entry.Entry.{Entry}
use Rattle.model_core.specs.declared.graph.Value.{Value}
use Rattle.model_core.specs.declared.graph.Value.TheVariants.{Block, Nothing}
use Rattle.model_core.specs.declared.reply.Reply.{Reply}
use Rattle.model_core.specs.declared.reply.Reply.TheVariants as reply
use Rattle.model_core.specs.declared.state.Sizes.{Sizes}
use Rattle.weak_laws.specs.Maps.Calls.{PerformedBy, PutsOrFull}
use Rattle.weak_laws.specs.Maps.Tries.{number_of, root_width}
use Rattle.weak_laws.proofs.OfMaps.FrontLemmas.{prefix_same, prefix_trans}
use Rattle.weak_maps.specs.declared.putting.Try.{Try}
use Rattle.weak_maps.specs.declared.putting.Try.TheVariants.{Over, Again}
use Rattle.weak_maps.specs.Beside.{held_by, refusals_by, writings_by}
use Rattle.weak_maps.specs.Puts.{Putting}
use Rattle.weak_maps.specs.Crowds.{IsCrowded, made_by}
use Rattle.weak_maps.specs.Settles.{AloneBy, rooms_after, TryRefuses}
use Rattle.weak_maps.proofs.AloneLemmas.{deep_root, put_alone}
use Rattle.weak_maps.proofs.CrowdLemmas.{full_crowded, put_counts, put_crowded}
use Rattle.weak_maps.proofs.MachineLemmas.{alone_at, at_machine, cleared_at, field_at, filled_at, keeps_at, put_at, settles_at, shows_some, same_count}
use Rattle.weak_maps.proofs.FollowLemmas.{none_follows, put_follows}
use Rattle.weak_maps.proofs.GetLemmas.{grows_by, shown_label}
use Rattle.weak_maps.proofs.GuardLemmas.{guards_quiet, guards_same, guards_twice, quiet_at, quiet_by, quiet_cleared, quiet_twice, settle_guards_at}
use Rattle.weak_maps.proofs.SettleLemmas.{put_guards, put_placed, put_settles}
use Rattle.weak_maps.proofs.StayLemmas.{respects_within}
use Rattle.weak_maps.proofs.TakeLemmas.{cleared_grows}
use Rattle.weak_maps.proofs.TryLemmas.{put_begins, put_ended}
use Rattle.weak_maps.proofs.FrameLemmas.{leaves_trans, makes_after, makes_is, makes_then, puts_made, puts_none, shows_none, spends_none, stays_trans}
use Rattle.weak_maps.proofs.PutLemmas.{leaf_guarded, leaf_told}
use Rattle.weak_maps.proofs.putting.map_put.Goals as goal

pub returns-then-not-make_leaf-clause-puts : goal.returns-then-not-make_leaf-clause-puts
returns-then-not-make_leaf-clause-puts g c =
    let r0 = c.show.ensures.shows.room in
    let r1 = c.show-datum.ensures.shows.room in
    let r2 = c.make_leaf.ensures.room in
    let r3 = c.clear.ensures.leaves.room in
    puts_made (λ l l2 f f2 left refused. inl (refused, omega (arith, left), omega (arith, left))) (omega (arith, r0, r1, r2, r3)) (makes_then (makes_after (leaves_trans (shows_none c.show.ensures.shows) (shows_none c.show-datum.ensures.shows)) (makes_is c.if-not-make_leaf.true c.make_leaf.ensures.makes)) c.clear.ensures.leaves)

pub returns-then-not-make_leaf-clause-full : goal.returns-then-not-make_leaf-clause-full
returns-then-not-make_leaf-clause-full g c =
    let refused = (makes_then (makes_after (leaves_trans (shows_none c.show.ensures.shows) (shows_none c.show-datum.ensures.shows)) (makes_is c.if-not-make_leaf.true c.make_leaf.ensures.makes)) c.clear.ensures.leaves).refused in record {
      crowded = λ root k held key map placed respects full none. absurd (omega (arith, refused, none));
      alone = λ root k held key map placed respects leaves full. refused;
    }

pub returns-in_default-clause-puts : goal.returns-in_default-clause-puts
returns-in_default-clause-puts g c = puts_none (λ l f. (refl, refl)) (shows_none c.show.ensures.shows)

pub returns-then-is_empty-clause-puts : goal.returns-then-is_empty-clause-puts
returns-then-is_empty-clause-puts g c = puts_none (λ l f. (refl, refl)) (leaves_trans (shows_none c.show.ensures.shows) (shows_none c.show-datum.ensures.shows))

pub returns-in-Over-clause-puts : goal.returns-in-Over-clause-puts
returns-in-Over-clause-puts g c =
    let d : ℕ = g.M.Machine.domain c.args.m.now in
    let n0 : List Entry = g.M.Machine.front c.find-from.new.m in
    let new : List Entry = g.M.Machine.front c.settle.new.m in
    let found = c.find-from.ensures.leaves in
    let o0 = c.tries.invariant.stays.domain in
    let o1 = found.stays.domain ∙ o0 in
    let f0 = c.tries.invariant.refused in
    let f1 = same_count refusals_by d _ _ n0 o0 found.given in
    let f2 = subst (λ (w : ℕ × Try). TryRefuses c.tries.rooms c.find-from.result.other (refusals_by w.0 n0) (refusals_by w.0 new) w.1) (λ i. (o1 i, c.in-Over.is i)) c.settle.ensures.refused in
    let l0 = c.tries.invariant.labels in
    let l1 = found.labels in
    let l2 = subst (λ (n : ℕ). g.M.Machine.labels_left c.find-from.new.m + n ≡ g.M.Machine.labels_left c.settle.new.m + c.tries.rooms) (ap (rooms_after c.tries.rooms) c.in-Over.is) c.settle.ensures.labels in
    let r0 = c.tries.invariant.room in
    let r1 = found.room in
    let r2 = c.settle.ensures.room in record {
      stays = stays_trans c.tries.invariant.stays (stays_trans found.stays c.settle.ensures.stays);
      grows = prefix_trans _ _ _ c.tries.invariant.grows (prefix_trans _ _ _ found.grows c.settle.ensures.grows);
      counts = put_counts c.in-Over.answer c.tries.rooms c.find-from.result.other _ _ _ (refusals_by d n0) _ c.tries.invariant.few (omega (arith, l0, l1, l2)) (f1 ∙ f0) f2;
      room = omega (arith, r0, r1, r2);
      written = same_count writings_by d _ n0 new o1 c.settle.ensures.written ∙ (same_count writings_by d _ _ n0 o0 found.written ∙ c.tries.invariant.written);
    }

pub returns-then-not-make_leaf-clause-answer : goal.returns-then-not-make_leaf-clause-answer
returns-then-not-make_leaf-clause-answer g c =
    let z : Sizes = g.M.Machine.sizes c.args.m.now in
    let d : ℕ = g.M.Machine.domain c.args.m.now in
    let old : List Entry = g.M.Machine.front c.args.m.now in
    let k = c.in-Block.label in
    let n0 : List Entry = g.M.Machine.front c.make_leaf.new.m in
    let new : List Entry = g.M.Machine.front c.clear.new.m in
    let s0 : g.M.Machine.sizes c.show-datum.new.self ≡ z = c.show-datum.ensures.shows.stays.sizes ∙ c.show.ensures.shows.stays.sizes in
    let o0 : g.M.Machine.domain c.show-datum.new.self ≡ d = c.show-datum.ensures.shows.stays.domain ∙ c.show.ensures.shows.stays.domain in
    let f0 : g.M.Machine.front c.show-datum.new.self ≡ old = c.show-datum.ensures.shows.front ∙ c.show.ensures.shows.front in
    let key : held_by z d old c.args.key ≡ Block k = shown_label _ _ (sym c.show.ensures.reply ∙ c.in-Block.is) in
    let some : held_by z d old c.args.item ≢ Nothing = shows_some z _ d _ old _ c.args.item c.show-datum.result c.show.ensures.shows.stays.sizes c.show.ensures.shows.stays.domain c.show.ensures.shows.front c.show-datum.ensures.reply (λ e. let clash : true ≡ false = sym (c.is_empty.ensures.1 e) ∙ c.if-is_empty.false in cc) in
    let filled = filled_at z _ d _ old _ n0 c.args.key c.args.item false _ s0 o0 f0 c.if-not-make_leaf.true c.make_leaf.ensures.made in
    let makes = leaf_told z c.shows_legal.ensures.limits d old n0 c.args.key c.args.item c.requires.few.1 c.requires.few.2 false filled in
    let x = cleared_at z _ d _ n0 _ (c.make_leaf.ensures.makes.stays.sizes ∙ s0) (c.make_leaf.ensures.makes.stays.domain ∙ o0) c.clear.ensures.cleared in
    λ root held map placed respects.
    let y = makes root k key some map (respects_within z root d old new old n0 (prefix_same old) (cleared_grows z d n0 new x) respects) in
    let ended = put_ended z c.shows_legal.ensures.limits root d old k (held_by z d old c.args.item) c.args.key c.requires.few.1 key n0 new y.on (λ j small. y.keeps j) x respects in
    let answer : PutsOrFull z root d old new k (held_by z d old c.args.item) reply.Full = inr (refl, ended.0) in
    put_at z d old new root _ _ k reply.Full key some (answer, ended.1) (put_placed z root d old new k _ reply.Full (prefix_trans old n0 new y.on.grows (cleared_grows z d n0 new x)) map placed respects answer)

pub tries-init : goal.tries-init
tries-init g c =
    let z : Sizes = g.M.Machine.sizes c.args.m.now in
    let d : ℕ = g.M.Machine.domain c.args.m.now in
    let old : List Entry = g.M.Machine.front c.args.m.now in
    let k = c.in-Block.label in
    let v : Value = held_by z d old c.args.item in
    let n0 : List Entry = g.M.Machine.front c.make_leaf.new.m in
    let n1 : List Entry = g.M.Machine.front c.perform-root.new.m in
    let new : List Entry = g.M.Machine.front c.read_again-at.new.m in
    let s0 : g.M.Machine.sizes c.show-datum.new.self ≡ z = c.show-datum.ensures.shows.stays.sizes ∙ c.show.ensures.shows.stays.sizes in
    let o0 : g.M.Machine.domain c.show-datum.new.self ≡ d = c.show-datum.ensures.shows.stays.domain ∙ c.show.ensures.shows.stays.domain in
    let f0 : g.M.Machine.front c.show-datum.new.self ≡ old = c.show-datum.ensures.shows.front ∙ c.show.ensures.shows.front in
    let s1 : g.M.Machine.sizes c.make_leaf.new.m ≡ z = c.make_leaf.ensures.makes.stays.sizes ∙ s0 in
    let o1 : g.M.Machine.domain c.make_leaf.new.m ≡ d = c.make_leaf.ensures.makes.stays.domain ∙ o0 in
    let s2 : g.M.Machine.sizes c.perform-root.new.m ≡ z = c.perform-root.ensures.spends.stays.sizes ∙ s1 in
    let o2 : g.M.Machine.domain c.perform-root.new.m ≡ d = c.perform-root.ensures.spends.stays.domain ∙ o1 in
    let key : held_by z d old c.args.key ≡ Block k = shown_label _ _ (sym c.show.ensures.reply ∙ c.in-Block.is) in
    let some : v ≢ Nothing = shows_some z _ d _ old _ c.args.item c.show-datum.result c.show.ensures.shows.stays.sizes c.show.ensures.shows.stays.domain c.show.ensures.shows.front c.show-datum.ensures.reply (λ e. let clash : true ≡ false = sym (c.is_empty.ensures.1 e) ∙ c.if-is_empty.false in cc) in
    let filled = filled_at z _ d _ old _ n0 c.args.key c.args.item true _ s0 o0 f0 c.if-not-make_leaf.false c.make_leaf.ensures.made in
    let makes = leaf_told z c.shows_legal.ensures.limits d old n0 c.args.key c.args.item c.requires.few.1 c.requires.few.2 true filled in
    let same : c.number_of-number.result ≡ number_of z.domains k = c.number_of-number.ensures.number ∙ ap (λ (n : ℕ). number_of n k) (c.domains.ensures ∙ ap (λ (y : Sizes). y.domains) s1) in
    let p1 = at_machine z _ d _ n0 n1 _ _ s1 o1 c.perform-root.ensures.performed in
    let q2 = at_machine z _ d _ n1 new _ _ s2 o2 c.read_again-at.ensures.read in
    let first = c.from_root-from.ensures.index ∙ ap (λ (n : ℕ). n % root_width) same in
    let left = c.from_root-from.ensures.rest ∙ ap (λ (n : ℕ). n / root_width) same in
    let p2 = subst (λ (n : ℕ). PerformedBy z d n1 new (Load 9 8 n) c.read_again-at.result) first q2 in
    let later = prefix_trans n0 n1 new (grows_by z d n0 n1 _ _ p1) (grows_by z d n1 new _ _ p2) in
    let r0 = c.show.ensures.shows.room in
    let r1 = c.show-datum.ensures.shows.room in
    let r2 = c.make_leaf.ensures.room in
    let r3 = c.perform-root.ensures.spends.room in
    let r4 = c.read_again-at.ensures.leaves.room in
    let shown = leaves_trans (shows_none c.show.ensures.shows) (shows_none c.show-datum.ensures.shows) in
    let whole = makes_then (makes_after shown (makes_is c.if-not-make_leaf.false c.make_leaf.ensures.makes)) (leaves_trans (spends_none refl c.perform-root.ensures.spends) c.read_again-at.ensures.leaves) in
    let refused = whole.refused in
    let labels = whole.labels in record {
      stays = whole.stays;
      grows = whole.grows;
      labels = omega (arith, labels);
      few = omega arith;
      room = omega (arith, r0, r1, r2, r3, r4);
      refused = omega (arith, refused);
      written = whole.written;
      guards = λ root held map placed.
          guards_twice z root d old old n0 new later (leaf_guarded z c.shows_legal.ensures.limits d old n0 c.args.key c.args.item c.requires.few.1 c.requires.few.2 true filled root k key some map)
          (guards_quiet z root d old n0 new (quiet_twice z d n0 n1 new c.read_again-at.ensures.leaves.grows (quiet_by z d n0 n1 _ _ p1 (λ s. refl) refl) (quiet_by z d n1 new _ _ q2 (λ s. refl) refl)));
      walk = λ root held map placed respects.
          subst (λ (w : ℕ × ℕ). Putting z d old new root k v w.0 w.1 c.read_again-at.result 0) (λ i. (sym first i, sym left i))
          (put_begins z c.shows_legal.ensures.limits root d old k v c.args.key c.requires.few.1 key n0 n1 new c.perform-root.result c.read_again-at.result c.args.map c.requires.few.0 held (makes root k key some map (respects_within z root d old new old n0 (prefix_same old) later respects)) p1 p2 respects);
      deep = λ root held map placed respects leaves.
          deep_root z new root k
          (put_begins z c.shows_legal.ensures.limits root d old k v c.args.key c.requires.few.1 key n0 n1 new c.perform-root.result c.read_again-at.result c.args.map c.requires.few.0 held (makes root k key some map (respects_within z root d old new old n0 (prefix_same old) later respects)) p1 p2 respects).on.map;
    }

pub returns-in-Over-clause-answer : goal.returns-in-Over-clause-answer
returns-in-Over-clause-answer g c =
    let z : Sizes = g.M.Machine.sizes c.args.m.now in
    let d : ℕ = g.M.Machine.domain c.args.m.now in
    let old : List Entry = g.M.Machine.front c.args.m.now in
    let k = c.in-Block.label in
    let v : Value = held_by z d old c.args.item in
    let now : List Entry = g.M.Machine.front c.tries.m in
    let n0 : List Entry = g.M.Machine.front c.find-from.new.m in
    let new : List Entry = g.M.Machine.front c.settle.new.m in
    let s0 : g.M.Machine.sizes c.tries.m ≡ z = c.tries.invariant.stays.sizes in
    let o0 : g.M.Machine.domain c.tries.m ≡ d = c.tries.invariant.stays.domain in
    let s1 : g.M.Machine.sizes c.find-from.new.m ≡ z = c.find-from.ensures.leaves.stays.sizes ∙ s0 in
    let o1 : g.M.Machine.domain c.find-from.new.m ≡ d = c.find-from.ensures.leaves.stays.domain ∙ o0 in
    let key : held_by z d old c.args.key ≡ Block k = shown_label _ _ (sym c.show.ensures.reply ∙ c.in-Block.is) in
    let some : v ≢ Nothing = shows_some z _ d _ old _ c.args.item c.show-datum.result c.show.ensures.shows.stays.sizes c.show.ensures.shows.stays.domain c.show.ensures.shows.front c.show-datum.ensures.reply (λ e. let clash : true ≡ false = sym (c.is_empty.ensures.1 e) ∙ c.if-is_empty.false in cc) in
    let finds = field_at z _ d _ now n0 c.args.key k _ _ _ _ _ _ _ s0 o0 c.find-from.ensures.field in
    let own = keeps_at z _ d _ now n0 c.args.key k _ _ _ s0 o0 c.find-from.ensures.leaf in
    let settles = settles_at z _ d _ n0 new k _ _ _ _ (Over c.in-Over.answer) _ s1 o1 c.in-Over.is c.settle.ensures.settled in
    let later = prefix_trans now n0 new c.find-from.ensures.leaves.grows c.settle.ensures.grows in
    λ root held map placed respects.
    let t = c.tries.invariant.walk root held map placed (respects_within z root d old new old now (prefix_same old) later respects) in
    let x = put_settles z c.shows_legal.ensures.limits root d old k v c.args.key c.requires.few.1 key now n0 new _ _ _ _ c.tries.level c.find-from.result.steps c.saturating_add-level.result c.tries.at _ (Over c.in-Over.answer) c.saturating_add-level.ensures (c.tries.invariant.walk root held map placed) finds own c.find-from.ensures.leaves.grows settles c.settle.ensures.grows map placed respects in
    put_at z d old new root _ _ k c.in-Over.answer key some x (put_placed z root d old new k v c.in-Over.answer (prefix_trans old now new t.on.grows later) map placed respects x.0)

pub returns-in-Over-clause-full : goal.returns-in-Over-clause-full
returns-in-Over-clause-full g c =
    let z : Sizes = g.M.Machine.sizes c.args.m.now in
    let d : ℕ = g.M.Machine.domain c.args.m.now in
    let old : List Entry = g.M.Machine.front c.args.m.now in
    let k = c.in-Block.label in
    let v : Value = held_by z d old c.args.item in
    let now : List Entry = g.M.Machine.front c.tries.m in
    let n0 : List Entry = g.M.Machine.front c.find-from.new.m in
    let new : List Entry = g.M.Machine.front c.settle.new.m in
    let s0 : g.M.Machine.sizes c.tries.m ≡ z = c.tries.invariant.stays.sizes in
    let o0 : g.M.Machine.domain c.tries.m ≡ d = c.tries.invariant.stays.domain in
    let own_key : held_by z d old c.args.key ≡ Block k = shown_label _ _ (sym c.show.ensures.reply ∙ c.in-Block.is) in
    let finds = field_at z _ d _ now n0 c.args.key k _ _ _ _ _ _ _ s0 o0 c.find-from.ensures.field in
    let later = prefix_trans now n0 new c.find-from.ensures.leaves.grows c.settle.ensures.grows in
    let f0 = c.tries.invariant.refused in
    let f1 = subst (λ (e : ℕ). refusals_by e n0 ≡ refusals_by e now) o0 c.find-from.ensures.leaves.given in
    let f2 = subst (λ (w : ℕ × Try). TryRefuses c.tries.rooms c.find-from.result.other (refusals_by w.0 n0) (refusals_by w.0 new) w.1) (λ i. ((c.find-from.ensures.leaves.stays.domain ∙ o0) i, c.in-Over.is i)) c.settle.ensures.refused in
    let l0 = c.tries.invariant.labels in
    let m0 = c.shows_legal.ensures.labels in
    let m1 = subst (λ (w : Sizes × ℕ). made_by w.0 w.1 now + g.M.Machine.labels_left c.tries.m ≡ 4294967295) (λ i. (s0 i, o0 i)) c.shows_legal-in-tries.ensures.labels in
    let s1 : g.M.Machine.sizes c.find-from.new.m ≡ z = c.find-from.ensures.leaves.stays.sizes ∙ s0 in
    let o1 : g.M.Machine.domain c.find-from.new.m ≡ d = c.find-from.ensures.leaves.stays.domain ∙ o0 in
    let own = keeps_at z _ d _ now n0 c.args.key k _ _ _ s0 o0 c.find-from.ensures.leaf in
    let alone = alone_at z _ d _ n0 new k _ _ _ _ c.tries.rooms (Over c.in-Over.answer) _ s1 o1 c.in-Over.is c.settle.ensures.alone in record {
      crowded = λ root k2 held key map placed respects full none.
          let x = full_crowded c.tries.rooms c.find-from.result.other (refusals_by d n0) (refusals_by d new) (none ∙ sym (f1 ∙ f0)) (subst (λ (r : Reply). TryRefuses c.tries.rooms c.find-from.result.other (refusals_by d n0) (refusals_by d new) (Over r)) full f2) in
          let spent = x.0 in
          let same : k ≡ k2 = (let both : Block k ≡ Block k2 = sym own_key ∙ key in cc) in
          let within = respects_within z root d old new old now (prefix_same old) later respects in
          let t = c.tries.invariant.walk root held map placed within in
          subst (IsCrowded z d old new root) same
          (put_crowded z root d old now n0 new k x.1.0 v c.args.key _ _ _ _ c.tries.level c.find-from.result.steps c.tries.at c.find-from.result.other c.requires.few.1 own_key t finds x.1.1 c.settle.ensures.grows
          (respects_within z root d old new now n0 t.on.grows c.settle.ensures.grows respects) (omega (arith, l0, m0, m1, spent)));
      alone = λ root k2 held key map placed respects leaves full.
          let one : refusals_by d new ≡ refusals_by d n0 + 1 = subst (λ (r : Reply). AloneBy z d n0 new root k (Over r)) full
          (put_alone z c.shows_legal.ensures.limits root d old k v c.args.key c.requires.few.1 own_key now n0 new _ _ _ _ c.tries.level c.find-from.result.steps c.saturating_add-level.result c.tries.rooms c.tries.at _ (Over c.in-Over.answer) c.saturating_add-level.ensures (c.tries.invariant.walk root held map placed) (c.tries.invariant.deep root held map placed) finds own c.find-from.ensures.leaves.grows alone c.settle.ensures.grows map placed respects leaves) in
          omega (arith, f0, f1, one);
    }

pub tries-preserved : goal.tries-preserved
tries-preserved g c =
    let z : Sizes = g.M.Machine.sizes c.args.m.now in
    let d : ℕ = g.M.Machine.domain c.args.m.now in
    let old : List Entry = g.M.Machine.front c.args.m.now in
    let k = c.in-Block.label in
    let v : Value = held_by z d old c.args.item in
    let now : List Entry = g.M.Machine.front c.tries.m in
    let n0 : List Entry = g.M.Machine.front c.find-from.new.m in
    let new : List Entry = g.M.Machine.front c.settle.new.m in
    let s0 : g.M.Machine.sizes c.tries.m ≡ z = c.tries.invariant.stays.sizes in
    let o0 : g.M.Machine.domain c.tries.m ≡ d = c.tries.invariant.stays.domain in
    let s1 : g.M.Machine.sizes c.find-from.new.m ≡ z = c.find-from.ensures.leaves.stays.sizes ∙ s0 in
    let o1 : g.M.Machine.domain c.find-from.new.m ≡ d = c.find-from.ensures.leaves.stays.domain ∙ o0 in
    let key : held_by z d old c.args.key ≡ Block k = shown_label _ _ (sym c.show.ensures.reply ∙ c.in-Block.is) in
    let finds = field_at z _ d _ now n0 c.args.key k _ _ _ _ _ _ _ s0 o0 c.find-from.ensures.field in
    let own = keeps_at z _ d _ now n0 c.args.key k _ _ _ s0 o0 c.find-from.ensures.leaf in
    let settles = settles_at z _ d _ n0 new k _ _ _ _ (Again c.in-Again.shows c.in-Again.left) _ s1 o1 c.in-Again.is c.settle.ensures.settled in
    let alone = alone_at z _ d _ n0 new k _ _ _ _ c.tries.rooms (Again c.in-Again.shows c.in-Again.left) _ s1 o1 c.in-Again.is c.settle.ensures.alone in
    let l0 = c.tries.invariant.labels in
    let l1 = c.find-from.ensures.leaves.labels in
    let l2 = subst (λ (n : ℕ). g.M.Machine.labels_left c.find-from.new.m + n ≡ g.M.Machine.labels_left c.settle.new.m + c.tries.rooms) (ap (rooms_after c.tries.rooms) c.in-Again.is) c.settle.ensures.labels in
    let m0 = c.tries.invariant.few in
    let m2 = subst (λ (n : ℕ). n ≤ c.tries.rooms) (ap (rooms_after c.tries.rooms) c.in-Again.is) c.settle.ensures.fewer in
    let r0 = c.tries.invariant.room in
    let r1 = c.find-from.ensures.leaves.room in
    let r2 = c.settle.ensures.room in
    let f0 = c.tries.invariant.refused in
    let f1 = subst (λ (e : ℕ). refusals_by e n0 ≡ refusals_by e now) o0 c.find-from.ensures.leaves.given in
    let f2 : refusals_by d new ≡ refusals_by d n0 = subst (λ (w : ℕ × Try). TryRefuses c.tries.rooms c.find-from.result.other (refusals_by w.0 n0) (refusals_by w.0 new) w.1) (λ i. (o1 i, c.in-Again.is i)) c.settle.ensures.refused in
    let w0 = c.tries.invariant.written in
    let w1 = subst (λ (e : ℕ). writings_by e n0 ≡ writings_by e now) o0 c.find-from.ensures.leaves.written in
    let w2 = subst (λ (e : ℕ). writings_by e new ≡ writings_by e n0) o1 c.settle.ensures.written in record {
      stays = stays_trans c.tries.invariant.stays (stays_trans c.find-from.ensures.leaves.stays c.settle.ensures.stays);
      grows = prefix_trans old now new c.tries.invariant.grows (prefix_trans now n0 new c.find-from.ensures.leaves.grows c.settle.ensures.grows);
      labels = omega (arith, l0, l1, l2);
      few = omega (arith, m0, m2);
      room = omega (arith, r0, r1, r2);
      refused = omega (arith, f0, f1, f2);
      written = omega (arith, w0, w1, w2);
      guards = λ root held map placed.
          guards_twice z root d old old now new (prefix_trans now n0 new c.find-from.ensures.leaves.grows c.settle.ensures.grows) (c.tries.invariant.guards root held map placed)
          (guards_twice z root d old now n0 new c.settle.ensures.grows (guards_quiet z root d old now n0 (quiet_at z _ d _ now n0 s0 o0 c.find-from.ensures.quiet))
          (put_guards z c.shows_legal.ensures.limits root d old k v c.args.key c.requires.few.1 key now n0 new _ _ _ _ c.tries.level c.find-from.result.steps c.saturating_add-level.result c.tries.at _ c.saturating_add-level.ensures (c.tries.invariant.walk root held map placed) finds own c.find-from.ensures.leaves.grows
          (settle_guards_at z _ d _ n0 new k _ _ _ _ s1 o1 c.settle.ensures.guards) map placed));
      walk = λ root held map placed respects.
          put_settles z c.shows_legal.ensures.limits root d old k v c.args.key c.requires.few.1 key now n0 new _ _ _ _ c.tries.level c.find-from.result.steps c.saturating_add-level.result c.tries.at _ (Again c.in-Again.shows c.in-Again.left) c.saturating_add-level.ensures (c.tries.invariant.walk root held map placed) finds own c.find-from.ensures.leaves.grows settles c.settle.ensures.grows map placed respects;
      deep = λ root held map placed respects leaves.
          put_alone z c.shows_legal.ensures.limits root d old k v c.args.key c.requires.few.1 key now n0 new _ _ _ _ c.tries.level c.find-from.result.steps c.saturating_add-level.result c.tries.rooms c.tries.at _ (Again c.in-Again.shows c.in-Again.left) c.saturating_add-level.ensures (c.tries.invariant.walk root held map placed) (c.tries.invariant.deep root held map placed) finds own c.find-from.ensures.leaves.grows alone c.settle.ensures.grows map placed respects leaves;
    }

pub returns-then-not-make_leaf-clause-follows : goal.returns-then-not-make_leaf-clause-follows
returns-then-not-make_leaf-clause-follows g c = λ root held map placed respects.
    put_follows (g.M.Machine.sizes c.args.m.now) (g.M.Machine.domain c.args.m.now) _ _ root (returns-then-not-make_leaf-clause-puts g c).grows map placed respects _ _ _ (returns-then-not-make_leaf-clause-answer g c root held map placed respects)

pub returns-in-Over-clause-follows : goal.returns-in-Over-clause-follows
returns-in-Over-clause-follows g c = λ root held map placed respects.
    put_follows (g.M.Machine.sizes c.args.m.now) (g.M.Machine.domain c.args.m.now) _ _ root (returns-in-Over-clause-puts g c).grows map placed respects _ _ _ (returns-in-Over-clause-answer g c root held map placed respects)

pub returns-in_default-clause-follows : goal.returns-in_default-clause-follows
returns-in_default-clause-follows g c = λ root held map placed respects. none_follows (g.M.Machine.sizes c.args.m.now) _ _ root c.show.ensures.shows.front map placed

pub returns-then-is_empty-clause-follows : goal.returns-then-is_empty-clause-follows
returns-then-is_empty-clause-follows g c = λ root held map placed respects. none_follows (g.M.Machine.sizes c.args.m.now) _ _ root (c.show-datum.ensures.shows.front ∙ c.show.ensures.shows.front) map placed

pub returns-then-not-make_leaf-clause-guards : goal.returns-then-not-make_leaf-clause-guards
returns-then-not-make_leaf-clause-guards g c =
    let z : Sizes = g.M.Machine.sizes c.args.m.now in
    let d : ℕ = g.M.Machine.domain c.args.m.now in
    let old : List Entry = g.M.Machine.front c.args.m.now in
    let k = c.in-Block.label in
    let n0 : List Entry = g.M.Machine.front c.make_leaf.new.m in
    let new : List Entry = g.M.Machine.front c.clear.new.m in
    let s0 : g.M.Machine.sizes c.show-datum.new.self ≡ z = c.show-datum.ensures.shows.stays.sizes ∙ c.show.ensures.shows.stays.sizes in
    let o0 : g.M.Machine.domain c.show-datum.new.self ≡ d = c.show-datum.ensures.shows.stays.domain ∙ c.show.ensures.shows.stays.domain in
    let f0 : g.M.Machine.front c.show-datum.new.self ≡ old = c.show-datum.ensures.shows.front ∙ c.show.ensures.shows.front in
    let key : held_by z d old c.args.key ≡ Block k = shown_label _ _ (sym c.show.ensures.reply ∙ c.in-Block.is) in
    let some : held_by z d old c.args.item ≢ Nothing = shows_some z _ d _ old _ c.args.item c.show-datum.result c.show.ensures.shows.stays.sizes c.show.ensures.shows.stays.domain c.show.ensures.shows.front c.show-datum.ensures.reply (λ e. let clash : true ≡ false = sym (c.is_empty.ensures.1 e) ∙ c.if-is_empty.false in cc) in
    let filled = filled_at z _ d _ old _ n0 c.args.key c.args.item false _ s0 o0 f0 c.if-not-make_leaf.true c.make_leaf.ensures.made in
    let x = cleared_at z _ d _ n0 new (c.make_leaf.ensures.makes.stays.sizes ∙ s0) (c.make_leaf.ensures.makes.stays.domain ∙ o0) c.clear.ensures.cleared in
    λ root held map placed.
    guards_twice z root d old old n0 new c.clear.ensures.leaves.grows (leaf_guarded z c.shows_legal.ensures.limits d old n0 c.args.key c.args.item c.requires.few.1 c.requires.few.2 false filled root k key some map) (guards_quiet z root d old n0 new (quiet_cleared z d n0 new x))

pub returns-in-Over-clause-guards : goal.returns-in-Over-clause-guards
returns-in-Over-clause-guards g c =
    let z : Sizes = g.M.Machine.sizes c.args.m.now in
    let d : ℕ = g.M.Machine.domain c.args.m.now in
    let old : List Entry = g.M.Machine.front c.args.m.now in
    let k = c.in-Block.label in
    let v : Value = held_by z d old c.args.item in
    let now : List Entry = g.M.Machine.front c.tries.m in
    let n0 : List Entry = g.M.Machine.front c.find-from.new.m in
    let new : List Entry = g.M.Machine.front c.settle.new.m in
    let s0 : g.M.Machine.sizes c.tries.m ≡ z = c.tries.invariant.stays.sizes in
    let o0 : g.M.Machine.domain c.tries.m ≡ d = c.tries.invariant.stays.domain in
    let s1 : g.M.Machine.sizes c.find-from.new.m ≡ z = c.find-from.ensures.leaves.stays.sizes ∙ s0 in
    let o1 : g.M.Machine.domain c.find-from.new.m ≡ d = c.find-from.ensures.leaves.stays.domain ∙ o0 in
    let key : held_by z d old c.args.key ≡ Block k = shown_label _ _ (sym c.show.ensures.reply ∙ c.in-Block.is) in
    let finds = field_at z _ d _ now n0 c.args.key k _ _ _ _ _ _ _ s0 o0 c.find-from.ensures.field in
    let own = keeps_at z _ d _ now n0 c.args.key k _ _ _ s0 o0 c.find-from.ensures.leaf in
    λ root held map placed.
    guards_twice z root d old old now new (prefix_trans now n0 new c.find-from.ensures.leaves.grows c.settle.ensures.grows) (c.tries.invariant.guards root held map placed)
    (guards_twice z root d old now n0 new c.settle.ensures.grows (guards_quiet z root d old now n0 (quiet_at z _ d _ now n0 s0 o0 c.find-from.ensures.quiet))
    (put_guards z c.shows_legal.ensures.limits root d old k v c.args.key c.requires.few.1 key now n0 new _ _ _ _ c.tries.level c.find-from.result.steps c.saturating_add-level.result c.tries.at _ c.saturating_add-level.ensures (c.tries.invariant.walk root held map placed) finds own c.find-from.ensures.leaves.grows
    (settle_guards_at z _ d _ n0 new k _ _ _ _ s1 o1 c.settle.ensures.guards) map placed))

pub returns-in_default-clause-guards : goal.returns-in_default-clause-guards
returns-in_default-clause-guards g c = λ root held map placed. guards_same (g.M.Machine.sizes c.args.m.now) root (g.M.Machine.domain c.args.m.now) _ _ _ c.show.ensures.shows.front

pub returns-then-is_empty-clause-guards : goal.returns-then-is_empty-clause-guards
returns-then-is_empty-clause-guards g c = λ root held map placed. guards_same (g.M.Machine.sizes c.args.m.now) root (g.M.Machine.domain c.args.m.now) _ _ _ (c.show-datum.ensures.shows.front ∙ c.show.ensures.shows.front)
