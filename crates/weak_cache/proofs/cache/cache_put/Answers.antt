use Rattle.std.proofs.Common.{◌≡◌, ◌≢◌, ◌∙◌, ℕ, List, true, false, sym, refl, subst, arith}
use Rattle.model_core.specs.declared.entry.Entry.{Entry}
use Rattle.model_core.specs.declared.graph.Value.{Value}
use Rattle.model_core.specs.declared.graph.Value.TheVariants.{Block, Nothing}
use Rattle.model_core.specs.declared.label.Label.{Label}
use Rattle.model_core.specs.declared.reply.Reply.TheVariants as reply
use Rattle.model_core.specs.declared.state.Sizes.{Sizes}
use Rattle.model_core.specs.History.{IsPrefix}
use Rattle.weak_laws.proofs.OfMaps.FrontLemmas.{prefix_same, prefix_trans}
use Rattle.weak_maps.specs.Beside.{held_by}
use Rattle.weak_maps.proofs.GetLemmas.{shown_label}
use Rattle.weak_maps.proofs.MachineLemmas.{filled_at, shows_some}
use Rattle.weak_cache.specs.Calls.{PutsOrFull}
use Rattle.weak_cache.proofs.CoreLemmas.{spares_within}
use Rattle.weak_cache.proofs.EndLemmas.{begun, begun_low, low_beside}
use Rattle.weak_cache.proofs.MachineLemmas.{begun_at, cleared_at, moves_at}
use Rattle.weak_cache.proofs.ReturnLemmas.{leaf_made, put_done, put_full, put_returns}
use Rattle.weak_maps.proofs.FrameLemmas.{leaves_trans, makes_after, makes_is, makes_then, puts_made, puts_none, shows_none}
use Rattle.weak_cache.proofs.cache.cache_put.Goals as goal

pub returns-clause-puts : goal.returns-clause-puts
returns-clause-puts g c =
    let r0 = c.show.ensures.shows.room in
    let r1 = c.show-value.ensures.shows.room in
    let r2 = c.begin.ensures.leaves.room in
    let r3 = c.make_leaf.ensures.room in
    let r4 = c.put_first.ensures.leaves.room in
    let r5 = c.clear-2.ensures.leaves.room in
    puts_made (λ l l2 f f2 left refused. (omega (arith, refused), left)) (omega (arith, r0, r1, r2, r3, r4, r5))
    (makes_then (makes_after (leaves_trans (leaves_trans (shows_none c.show.ensures.shows) (shows_none c.show-value.ensures.shows)) c.begin.ensures.leaves) (makes_is c.if-not-make_leaf.false c.make_leaf.ensures.makes)) (leaves_trans c.put_first.ensures.leaves c.clear-2.ensures.leaves))

pub returns-then-not-make_leaf-clause-puts : goal.returns-then-not-make_leaf-clause-puts
returns-then-not-make_leaf-clause-puts g c =
    let r0 = c.show.ensures.shows.room in
    let r1 = c.show-value.ensures.shows.room in
    let r2 = c.begin.ensures.leaves.room in
    let r3 = c.make_leaf.ensures.room in
    let r4 = c.clear.ensures.leaves.room in
    puts_made (λ l l2 f f2 left refused. (refused, omega (arith, left))) (omega (arith, r0, r1, r2, r3, r4))
    (makes_then (makes_after (leaves_trans (leaves_trans (shows_none c.show.ensures.shows) (shows_none c.show-value.ensures.shows)) c.begin.ensures.leaves) (makes_is c.if-not-make_leaf.true c.make_leaf.ensures.makes)) c.clear.ensures.leaves)

pub returns-in_default-clause-puts : goal.returns-in_default-clause-puts
returns-in_default-clause-puts g c = puts_none (λ l f. (refl, refl)) (shows_none c.show.ensures.shows)

pub returns-then-is_empty-clause-puts : goal.returns-then-is_empty-clause-puts
returns-then-is_empty-clause-puts g c = puts_none (λ l f. (refl, refl)) (leaves_trans (shows_none c.show.ensures.shows) (shows_none c.show-value.ensures.shows))

pub returns-clause-answer : goal.returns-clause-answer
returns-clause-answer g c =
    let z : Sizes = g.M.Machine.sizes c.args.m.now in
    let d : ℕ = g.M.Machine.domain c.args.m.now in
    let old : List Entry = g.M.Machine.front c.args.m.now in
    let k : Label = c.in-Block.label in
    let v : Value = held_by z d old c.args.item in
    let n0 : List Entry = g.M.Machine.front c.begin.new.m in
    let n1 : List Entry = g.M.Machine.front c.make_leaf.new.m in
    let n2 : List Entry = g.M.Machine.front c.put_first.new.m in
    let new : List Entry = g.M.Machine.front c.clear-2.new.m in
    let s0 : g.M.Machine.sizes c.show-value.new.self ≡ z = c.show-value.ensures.shows.stays.sizes ∙ c.show.ensures.shows.stays.sizes in
    let o0 : g.M.Machine.domain c.show-value.new.self ≡ d = c.show-value.ensures.shows.stays.domain ∙ c.show.ensures.shows.stays.domain in
    let f0 : g.M.Machine.front c.show-value.new.self ≡ old = c.show-value.ensures.shows.front ∙ c.show.ensures.shows.front in
    let s1 = c.begin.ensures.leaves.stays.sizes ∙ s0 in
    let o1 = c.begin.ensures.leaves.stays.domain ∙ o0 in
    let s2 = c.make_leaf.ensures.makes.stays.sizes ∙ s1 in
    let o2 = c.make_leaf.ensures.makes.stays.domain ∙ o1 in
    let s3 = c.put_first.ensures.leaves.stays.sizes ∙ s2 in
    let o3 = c.put_first.ensures.leaves.stays.domain ∙ o2 in
    let key : held_by z d old c.args.key ≡ Block k = shown_label _ _ (sym c.show.ensures.reply ∙ c.in-Block.is) in
    let some : v ≢ Nothing = shows_some z _ d _ old _ c.args.item c.show-value.result c.show.ensures.shows.stays.sizes c.show.ensures.shows.stays.domain c.show.ensures.shows.front c.show-value.ensures.reply (λ e. let clash : true ≡ false = sym (c.is_empty.ensures.1 e) ∙ c.if-is_empty.false in cc) in
    let b = begun_at z _ d _ old _ n0 c.args.cache c.args.key s0 o0 f0 c.begin.ensures.begun in
    let made = filled_at z _ d _ n0 _ n1 c.args.key c.args.item true _ s1 o1 refl c.if-not-make_leaf.false c.make_leaf.ensures.made in
    let moves = moves_at z _ d _ n1 n2 k c.args.size s2 o2 c.put_first.ensures.moved in
    let e = cleared_at z _ d _ n2 new s3 o3 c.clear-2.ensures.cleared in
    let g2 : IsPrefix n2 new = c.clear-2.ensures.leaves.grows in
    let g1 : IsPrefix n1 new = prefix_trans n1 n2 new c.put_first.ensures.leaves.grows g2 in
    let g0 : IsPrefix n0 new = prefix_trans n0 n1 new c.make_leaf.ensures.makes.grows g1 in
    λ root holds cache_is spares.
    let upto = λ (h : List Entry) (until : IsPrefix h new). spares_within z root d old new old h (prefix_same old) until spares in
    let begins = begun z c.shows_legal.ensures.limits d root k old c.args.size cache_is c.args.cache c.args.key c.requires.few.0 c.requires.few.1 holds key n0 b (upto n0 g0) in
    let low0 = begun_low z c.shows_legal.ensures.limits d root k old c.args.size cache_is c.args.cache c.args.key c.requires.few.0 c.requires.few.1 holds key n0 b (upto n0 g0) in
    let item0 : held_by z d n0 c.args.item ≡ v = low0 c.args.item (low_beside c.args.item c.requires.few.2) in
    let m = leaf_made z c.shows_legal.ensures.limits d root k old c.args.size cache_is n0 n1 c.args.key c.args.item c.requires.few.1 c.requires.few.2 made (upto n1 g1) begins (low0 c.args.key (low_beside c.args.key c.requires.few.1) ∙ key) (λ none. some (sym item0 ∙ none)) in
    let y = moves old root _ _ cache_is.fields (upto n2 g2) cache_is.many cache_is.some m.0 in
    put_returns z d old new root c.args.size _ v k reply.Done key some
    (subst (λ (w : Value). PutsOrFull z d old new root c.args.size k w reply.Done) item0 (put_done z c.shows_legal.ensures.limits d root k old c.args.size cache_is n2 new _ _ (λ i low. y.1 i low ∙ (m.1 i low ∙ low0 i low)) y.0 e spares))

pub returns-then-not-make_leaf-clause-answer : goal.returns-then-not-make_leaf-clause-answer
returns-then-not-make_leaf-clause-answer g c =
    let z : Sizes = g.M.Machine.sizes c.args.m.now in
    let d : ℕ = g.M.Machine.domain c.args.m.now in
    let old : List Entry = g.M.Machine.front c.args.m.now in
    let k : Label = c.in-Block.label in
    let v : Value = held_by z d old c.args.item in
    let n0 : List Entry = g.M.Machine.front c.begin.new.m in
    let n1 : List Entry = g.M.Machine.front c.make_leaf.new.m in
    let new : List Entry = g.M.Machine.front c.clear.new.m in
    let s0 : g.M.Machine.sizes c.show-value.new.self ≡ z = c.show-value.ensures.shows.stays.sizes ∙ c.show.ensures.shows.stays.sizes in
    let o0 : g.M.Machine.domain c.show-value.new.self ≡ d = c.show-value.ensures.shows.stays.domain ∙ c.show.ensures.shows.stays.domain in
    let f0 : g.M.Machine.front c.show-value.new.self ≡ old = c.show-value.ensures.shows.front ∙ c.show.ensures.shows.front in
    let s1 = c.begin.ensures.leaves.stays.sizes ∙ s0 in
    let o1 = c.begin.ensures.leaves.stays.domain ∙ o0 in
    let s2 = c.make_leaf.ensures.makes.stays.sizes ∙ s1 in
    let o2 = c.make_leaf.ensures.makes.stays.domain ∙ o1 in
    let key : held_by z d old c.args.key ≡ Block k = shown_label _ _ (sym c.show.ensures.reply ∙ c.in-Block.is) in
    let some : v ≢ Nothing = shows_some z _ d _ old _ c.args.item c.show-value.result c.show.ensures.shows.stays.sizes c.show.ensures.shows.stays.domain c.show.ensures.shows.front c.show-value.ensures.reply (λ e. let clash : true ≡ false = sym (c.is_empty.ensures.1 e) ∙ c.if-is_empty.false in cc) in
    let b = begun_at z _ d _ old _ n0 c.args.cache c.args.key s0 o0 f0 c.begin.ensures.begun in
    let made = filled_at z _ d _ n0 _ n1 c.args.key c.args.item false _ s1 o1 refl c.if-not-make_leaf.true c.make_leaf.ensures.made in
    let e = cleared_at z _ d _ n1 new s2 o2 c.clear.ensures.cleared in
    let g1 : IsPrefix n1 new = c.clear.ensures.leaves.grows in
    let g0 : IsPrefix n0 new = prefix_trans n0 n1 new c.make_leaf.ensures.makes.grows g1 in
    λ root holds cache_is spares.
    let upto = λ (h : List Entry) (until : IsPrefix h new). spares_within z root d old new old h (prefix_same old) until spares in
    let begins = begun z c.shows_legal.ensures.limits d root k old c.args.size cache_is c.args.cache c.args.key c.requires.few.0 c.requires.few.1 holds key n0 b (upto n0 g0) in
    let low0 = begun_low z c.shows_legal.ensures.limits d root k old c.args.size cache_is c.args.cache c.args.key c.requires.few.0 c.requires.few.1 holds key n0 b (upto n0 g0) in
    put_returns z d old new root c.args.size _ v k reply.Full key some (put_full z c.shows_legal.ensures.limits d root k old c.args.size cache_is n0 n1 new reply.Full v low0 begins made refl e g1 spares)
