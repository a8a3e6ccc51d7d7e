use Rattle.std.proofs.Common.{◌≡◌, ◌∙◌, ℕ, ◌/◌, ◌%◌, List, true, false, refl, sym, ap, subst}
use Rattle.model_core.specs.declared.command.Command.TheVariants.{Load}
use Rattle.model_core.specs.declared.entry.Entry.{Entry}
use Rattle.model_core.specs.declared.graph.Value.TheVariants.{Block}
use Rattle.model_core.specs.declared.reply.Reply.TheVariants as reply
use Rattle.model_core.specs.declared.state.Sizes.{Sizes}
use Rattle.weak_laws.specs.Maps.Calls.{PerformedBy}
use Rattle.weak_laws.specs.Maps.Tries.{number_of, root_width}
use Rattle.weak_laws.proofs.OfMaps.FrontLemmas.{prefix_trans}
use Rattle.weak_maps.specs.Beside.{held_by}
use Rattle.weak_maps.specs.Fields.{Finds, Taking}
use Rattle.weak_maps.proofs.MachineLemmas.{at_machine, cleared_at, finds_at, not_so, performed_from, so_then, taken_at}
use Rattle.weak_maps.proofs.FollowLemmas.{none_follows, take_follows}
use Rattle.weak_maps.proofs.GetLemmas.{shown_label}
use Rattle.weak_maps.proofs.GuardLemmas.{guards_quiet, guards_same, guards_since, guards_twice, quiet_at, quiet_by, quiet_cleared, quiet_twice}
use Rattle.weak_maps.proofs.TakeLemmas.{cleared_grows, take_again, take_begins, take_done, take_guards, take_missed}
use Rattle.weak_maps.proofs.FrameLemmas.{leaves_trans, shows_none, spends_none}
use Rattle.weak_maps.proofs.taking.map_take.Goals as goal

pub returns-then-not-from-clause-leaves : goal.returns-then-not-from-clause-leaves
returns-then-not-from-clause-leaves g c = leaves_trans c.tries.invariant.leaves (leaves_trans c.find-from.ensures.leaves c.clear.ensures.leaves)

pub returns-then-is_yes-clause-leaves : goal.returns-then-is_yes-clause-leaves
returns-then-is_yes-clause-leaves g c = leaves_trans c.tries.invariant.leaves (leaves_trans c.find-from.ensures.leaves (leaves_trans c.exchange-won.ensures.leaves c.clear-then-is_yes.ensures.leaves))

pub returns-in_default-clause-leaves : goal.returns-in_default-clause-leaves
returns-in_default-clause-leaves g c = shows_none c.show.ensures.shows

pub tries-init : goal.tries-init
tries-init g c =
    let z : Sizes = g.M.Machine.sizes c.args.m.now in
    let d : ℕ = g.M.Machine.domain c.args.m.now in
    let old : List Entry = g.M.Machine.front c.args.m.now in
    let k = c.in-Block.label in
    let n0 : List Entry = g.M.Machine.front c.perform-zero.new.m in
    let n1 : List Entry = g.M.Machine.front c.perform-root.new.m in
    let new : List Entry = g.M.Machine.front c.read_again-at.new.m in
    let s0 : g.M.Machine.sizes c.show.new.self ≡ z = c.show.ensures.shows.stays.sizes in
    let o0 : g.M.Machine.domain c.show.new.self ≡ d = c.show.ensures.shows.stays.domain in
    let s1 : g.M.Machine.sizes c.perform-zero.new.m ≡ z = c.perform-zero.ensures.spends.stays.sizes ∙ s0 in
    let o1 : g.M.Machine.domain c.perform-zero.new.m ≡ d = c.perform-zero.ensures.spends.stays.domain ∙ o0 in
    let s2 : g.M.Machine.sizes c.perform-root.new.m ≡ z = c.perform-root.ensures.spends.stays.sizes ∙ s1 in
    let o2 : g.M.Machine.domain c.perform-root.new.m ≡ d = c.perform-root.ensures.spends.stays.domain ∙ o1 in
    let same : c.number_of-number.result ≡ number_of z.domains k = c.number_of-number.ensures.number ∙ ap (λ (n : ℕ). number_of n k) (c.domains.ensures ∙ ap (λ (y : Sizes). y.domains) s0) in
    let p0 = performed_from z _ d _ old _ n0 _ _ s0 o0 c.show.ensures.shows.front c.perform-zero.ensures.performed in
    let p1 = at_machine z _ d _ n0 n1 _ _ s1 o1 c.perform-root.ensures.performed in
    let q2 = at_machine z _ d _ n1 new _ _ s2 o2 c.read_again-at.ensures.read in
    let first = c.from_root-from.ensures.index ∙ ap (λ (n : ℕ). n % root_width) same in
    let left = c.from_root-from.ensures.rest ∙ ap (λ (n : ℕ). n / root_width) same in
    let p2 = subst (λ (n : ℕ). PerformedBy z d n1 new (Load 9 8 n) c.read_again-at.result) first q2 in record {
      leaves = leaves_trans (shows_none c.show.ensures.shows) (leaves_trans (spends_none refl c.perform-zero.ensures.spends) (leaves_trans (spends_none refl c.perform-root.ensures.spends) c.read_again-at.ensures.leaves));
      guards = λ root held map. guards_quiet z root d old old new
          (quiet_twice z d old n0 new (prefix_trans n0 n1 new c.perform-root.ensures.spends.grows c.read_again-at.ensures.leaves.grows) (quiet_by z d old n0 _ _ p0 (λ s. refl) refl)
          (quiet_twice z d n0 n1 new c.read_again-at.ensures.leaves.grows (quiet_by z d n0 n1 _ _ p1 (λ s. refl) refl) (quiet_by z d n1 new _ _ q2 (λ s. refl) refl)));
      walk = λ root held map respects.
          subst (λ (w : ℕ × ℕ). Taking z d old new root k w.0 w.1 c.read_again-at.result) (λ i. (sym first i, sym left i))
          (take_begins z c.shows_legal.ensures.limits root d old k n0 n1 new c.perform-zero.result c.perform-root.result c.read_again-at.result c.args.map c.requires.few.0 map held p0 p1 p2 respects);
    }

pub returns-then-not-from-clause-answer : goal.returns-then-not-from-clause-answer
returns-then-not-from-clause-answer g c =
    let z : Sizes = g.M.Machine.sizes c.args.m.now in
    let d : ℕ = g.M.Machine.domain c.args.m.now in
    let old : List Entry = g.M.Machine.front c.args.m.now in
    let k = c.in-Block.label in
    let now : List Entry = g.M.Machine.front c.tries.m in
    let n0 : List Entry = g.M.Machine.front c.find-from.new.m in
    let s0 : g.M.Machine.sizes c.tries.m ≡ z = c.tries.invariant.leaves.stays.sizes in
    let o0 : g.M.Machine.domain c.tries.m ≡ d = c.tries.invariant.leaves.stays.domain in
    let s1 : g.M.Machine.sizes c.find-from.new.m ≡ z = c.find-from.ensures.leaves.stays.sizes ∙ s0 in
    let o1 : g.M.Machine.domain c.find-from.new.m ≡ d = c.find-from.ensures.leaves.stays.domain ∙ o0 in
    let key : held_by z d old c.args.key ≡ Block k = shown_label _ _ (sym c.show.ensures.reply ∙ c.in-Block.is) in
    let x = cleared_at z _ d _ n0 _ s1 o1 c.clear.ensures.cleared in
    let finds : Finds z d now n0 c.args.key k c.tries.from.index c.tries.from.rest c.tries.at c.find-from.result.index c.find-from.result.rest false = finds_at z _ d _ now n0 c.args.key k _ _ _ _ _ false _ s0 o0 (not_so c.find-from.result.mine c.if-not-from.true) c.find-from.ensures.found in
    λ root held map respects.
    taken_at z d old _ root _ k reply.Empty key
    (take_missed z c.shows_legal.ensures.limits root d old k c.args.key c.requires.few.1 key now n0 _ c.tries.from.index c.tries.from.rest c.find-from.result.index c.find-from.result.rest c.tries.at finds (c.tries.invariant.walk root held map) (c.find-from.ensures.leaves.grows) x (cleared_grows z d n0 _ x) respects)

pub returns-then-is_yes-clause-answer : goal.returns-then-is_yes-clause-answer
returns-then-is_yes-clause-answer g c =
    let z : Sizes = g.M.Machine.sizes c.args.m.now in
    let d : ℕ = g.M.Machine.domain c.args.m.now in
    let old : List Entry = g.M.Machine.front c.args.m.now in
    let k = c.in-Block.label in
    let now : List Entry = g.M.Machine.front c.tries.m in
    let n0 : List Entry = g.M.Machine.front c.find-from.new.m in
    let n1 : List Entry = g.M.Machine.front c.exchange-won.new.m in
    let s0 : g.M.Machine.sizes c.tries.m ≡ z = c.tries.invariant.leaves.stays.sizes in
    let o0 : g.M.Machine.domain c.tries.m ≡ d = c.tries.invariant.leaves.stays.domain in
    let s1 : g.M.Machine.sizes c.find-from.new.m ≡ z = c.find-from.ensures.leaves.stays.sizes ∙ s0 in
    let o1 : g.M.Machine.domain c.find-from.new.m ≡ d = c.find-from.ensures.leaves.stays.domain ∙ o0 in
    let s2 : g.M.Machine.sizes c.exchange-won.new.m ≡ z = c.exchange-won.ensures.leaves.stays.sizes ∙ s1 in
    let o2 : g.M.Machine.domain c.exchange-won.new.m ≡ d = c.exchange-won.ensures.leaves.stays.domain ∙ o1 in
    let key : held_by z d old c.args.key ≡ Block k = shown_label _ _ (sym c.show.ensures.reply ∙ c.in-Block.is) in
    let x = cleared_at z _ d _ n1 _ s2 o2 c.clear-then-is_yes.ensures.cleared in
    let p = at_machine z _ d _ n0 n1 _ _ s1 o1 c.exchange-won.ensures.exchanged in
    let finds : Finds z d now n0 c.args.key k c.tries.from.index c.tries.from.rest c.tries.at c.find-from.result.index c.find-from.result.rest true = finds_at z _ d _ now n0 c.args.key k _ _ _ _ _ true _ s0 o0 (so_then c.find-from.result.mine c.if-not-from.false) c.find-from.ensures.found in
    λ root held map respects.
    taken_at z d old _ root _ k reply.Done key
    (take_done z c.shows_legal.ensures.limits root d old k c.args.key c.requires.few.1 key now n0 n1 _ _ _ _ _ _ c.exchange-won.result finds (c.tries.invariant.walk root held map) c.find-from.ensures.leaves.grows p (c.is_yes.ensures.0 c.if-is_yes.true) x (cleared_grows z d n1 _ x) respects)

pub tries-preserved : goal.tries-preserved
tries-preserved g c =
    let z : Sizes = g.M.Machine.sizes c.args.m.now in
    let d : ℕ = g.M.Machine.domain c.args.m.now in
    let old : List Entry = g.M.Machine.front c.args.m.now in
    let k = c.in-Block.label in
    let now : List Entry = g.M.Machine.front c.tries.m in
    let n0 : List Entry = g.M.Machine.front c.find-from.new.m in
    let n1 : List Entry = g.M.Machine.front c.exchange-won.new.m in
    let new : List Entry = g.M.Machine.front c.read_again-at-in-tries.new.m in
    let s0 : g.M.Machine.sizes c.tries.m ≡ z = c.tries.invariant.leaves.stays.sizes in
    let o0 : g.M.Machine.domain c.tries.m ≡ d = c.tries.invariant.leaves.stays.domain in
    let s1 : g.M.Machine.sizes c.find-from.new.m ≡ z = c.find-from.ensures.leaves.stays.sizes ∙ s0 in
    let o1 : g.M.Machine.domain c.find-from.new.m ≡ d = c.find-from.ensures.leaves.stays.domain ∙ o0 in
    let s2 : g.M.Machine.sizes c.exchange-won.new.m ≡ z = c.exchange-won.ensures.leaves.stays.sizes ∙ s1 in
    let o2 : g.M.Machine.domain c.exchange-won.new.m ≡ d = c.exchange-won.ensures.leaves.stays.domain ∙ o1 in
    let key : held_by z d old c.args.key ≡ Block k = shown_label _ _ (sym c.show.ensures.reply ∙ c.in-Block.is) in
    let p = at_machine z _ d _ n0 n1 _ _ s1 o1 c.exchange-won.ensures.exchanged in
    let p2 = at_machine z _ d _ n1 new _ _ s2 o2 c.read_again-at-in-tries.ensures.read in
    let finds : Finds z d now n0 c.args.key k c.tries.from.index c.tries.from.rest c.tries.at c.find-from.result.index c.find-from.result.rest true = finds_at z _ d _ now n0 c.args.key k _ _ _ _ _ true _ s0 o0 (so_then c.find-from.result.mine c.if-not-from.false) c.find-from.ensures.found in record {
      leaves = leaves_trans c.tries.invariant.leaves (leaves_trans c.find-from.ensures.leaves (leaves_trans c.exchange-won.ensures.leaves c.read_again-at-in-tries.ensures.leaves));
      guards = λ root held map.
          let after = prefix_trans n0 n1 new c.exchange-won.ensures.leaves.grows c.read_again-at-in-tries.ensures.leaves.grows in
          guards_twice z root d old old now new (prefix_trans now n0 new c.find-from.ensures.leaves.grows after) (c.tries.invariant.guards root held map)
          (guards_twice z root d old now n0 new after (guards_quiet z root d old now n0 (quiet_at z _ d _ now n0 s0 o0 c.find-from.ensures.quiet))
          (guards_twice z root d old n0 n1 new c.read_again-at-in-tries.ensures.leaves.grows
          (guards_since z root d old n0 n1 _ _ p (prefix_trans old now n0 c.tries.invariant.leaves.grows c.find-from.ensures.leaves.grows)
          (take_guards z c.shows_legal.ensures.limits root d old k c.args.key c.requires.few.1 key now n0 n1 _ _ _ _ _ c.exchange-won.result finds (c.tries.invariant.walk root held map) c.find-from.ensures.leaves.grows p))
          (guards_quiet z root d old n1 new (quiet_by z d n1 new _ _ p2 (λ s. refl) refl))));
      walk = λ root held map respects.
          take_again z c.shows_legal.ensures.limits root d old k c.args.key c.requires.few.1 key now n0 n1 new _ _ _ _ _ c.exchange-won.result c.read_again-at-in-tries.result finds (c.tries.invariant.walk root held map) c.find-from.ensures.leaves.grows p
          (λ e. let clash : true ≡ false = sym (c.is_yes.ensures.1 e) ∙ c.if-is_yes.false in cc) p2 respects;
    }

pub returns-then-not-from-clause-follows : goal.returns-then-not-from-clause-follows
returns-then-not-from-clause-follows g c = λ root held map placed respects.
    take_follows (g.M.Machine.sizes c.args.m.now) (g.M.Machine.domain c.args.m.now) _ _ root (returns-then-not-from-clause-leaves g c).grows map placed respects _ _ (returns-then-not-from-clause-answer g c root held map respects)

pub returns-then-is_yes-clause-follows : goal.returns-then-is_yes-clause-follows
returns-then-is_yes-clause-follows g c = λ root held map placed respects.
    take_follows (g.M.Machine.sizes c.args.m.now) (g.M.Machine.domain c.args.m.now) _ _ root (returns-then-is_yes-clause-leaves g c).grows map placed respects _ _ (returns-then-is_yes-clause-answer g c root held map respects)

pub returns-in_default-clause-follows : goal.returns-in_default-clause-follows
returns-in_default-clause-follows g c = λ root held map placed respects. none_follows (g.M.Machine.sizes c.args.m.now) _ _ root c.show.ensures.shows.front map placed

pub returns-then-not-from-clause-guards : goal.returns-then-not-from-clause-guards
returns-then-not-from-clause-guards g c =
    let z : Sizes = g.M.Machine.sizes c.args.m.now in
    let d : ℕ = g.M.Machine.domain c.args.m.now in
    let old : List Entry = g.M.Machine.front c.args.m.now in
    let now : List Entry = g.M.Machine.front c.tries.m in
    let n0 : List Entry = g.M.Machine.front c.find-from.new.m in
    let new : List Entry = g.M.Machine.front c.clear.new.m in
    let s1 : g.M.Machine.sizes c.find-from.new.m ≡ z = c.find-from.ensures.leaves.stays.sizes ∙ c.tries.invariant.leaves.stays.sizes in
    let o1 : g.M.Machine.domain c.find-from.new.m ≡ d = c.find-from.ensures.leaves.stays.domain ∙ c.tries.invariant.leaves.stays.domain in
    λ root held map.
    guards_twice z root d old old now new (prefix_trans now n0 new c.find-from.ensures.leaves.grows c.clear.ensures.leaves.grows) (c.tries.invariant.guards root held map)
    (guards_quiet z root d old now new
    (quiet_twice z d now n0 new c.clear.ensures.leaves.grows (quiet_at z _ d _ now n0 c.tries.invariant.leaves.stays.sizes c.tries.invariant.leaves.stays.domain c.find-from.ensures.quiet) (quiet_cleared z d n0 new (cleared_at z _ d _ n0 new s1 o1 c.clear.ensures.cleared))))

pub returns-then-is_yes-clause-guards : goal.returns-then-is_yes-clause-guards
returns-then-is_yes-clause-guards g c =
    let z : Sizes = g.M.Machine.sizes c.args.m.now in
    let d : ℕ = g.M.Machine.domain c.args.m.now in
    let old : List Entry = g.M.Machine.front c.args.m.now in
    let k = c.in-Block.label in
    let now : List Entry = g.M.Machine.front c.tries.m in
    let n0 : List Entry = g.M.Machine.front c.find-from.new.m in
    let n1 : List Entry = g.M.Machine.front c.exchange-won.new.m in
    let new : List Entry = g.M.Machine.front c.clear-then-is_yes.new.m in
    let s0 : g.M.Machine.sizes c.tries.m ≡ z = c.tries.invariant.leaves.stays.sizes in
    let o0 : g.M.Machine.domain c.tries.m ≡ d = c.tries.invariant.leaves.stays.domain in
    let s1 : g.M.Machine.sizes c.find-from.new.m ≡ z = c.find-from.ensures.leaves.stays.sizes ∙ s0 in
    let o1 : g.M.Machine.domain c.find-from.new.m ≡ d = c.find-from.ensures.leaves.stays.domain ∙ o0 in
    let s2 : g.M.Machine.sizes c.exchange-won.new.m ≡ z = c.exchange-won.ensures.leaves.stays.sizes ∙ s1 in
    let o2 : g.M.Machine.domain c.exchange-won.new.m ≡ d = c.exchange-won.ensures.leaves.stays.domain ∙ o1 in
    let key : held_by z d old c.args.key ≡ Block k = shown_label _ _ (sym c.show.ensures.reply ∙ c.in-Block.is) in
    let x = cleared_at z _ d _ n1 new s2 o2 c.clear-then-is_yes.ensures.cleared in
    let p = at_machine z _ d _ n0 n1 _ _ s1 o1 c.exchange-won.ensures.exchanged in
    let finds : Finds z d now n0 c.args.key k c.tries.from.index c.tries.from.rest c.tries.at c.find-from.result.index c.find-from.result.rest true = finds_at z _ d _ now n0 c.args.key k _ _ _ _ _ true _ s0 o0 (so_then c.find-from.result.mine c.if-not-from.false) c.find-from.ensures.found in
    let after = prefix_trans n0 n1 new c.exchange-won.ensures.leaves.grows c.clear-then-is_yes.ensures.leaves.grows in
    λ root held map.
    guards_twice z root d old old now new (prefix_trans now n0 new c.find-from.ensures.leaves.grows after) (c.tries.invariant.guards root held map)
    (guards_twice z root d old now n0 new after (guards_quiet z root d old now n0 (quiet_at z _ d _ now n0 s0 o0 c.find-from.ensures.quiet))
    (guards_twice z root d old n0 n1 new c.clear-then-is_yes.ensures.leaves.grows
    (guards_since z root d old n0 n1 _ _ p (prefix_trans old now n0 c.tries.invariant.leaves.grows c.find-from.ensures.leaves.grows)
    (take_guards z c.shows_legal.ensures.limits root d old k c.args.key c.requires.few.1 key now n0 n1 _ _ _ _ _ c.exchange-won.result finds (c.tries.invariant.walk root held map) c.find-from.ensures.leaves.grows p))
    (guards_quiet z root d old n1 new (quiet_cleared z d n1 new x))))

pub returns-in_default-clause-guards : goal.returns-in_default-clause-guards
returns-in_default-clause-guards g c = λ root held map. guards_same (g.M.Machine.sizes c.args.m.now) root (g.M.Machine.domain c.args.m.now) _ _ _ c.show.ensures.shows.front
