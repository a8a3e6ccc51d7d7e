use Rattle.std.proofs.Common.{◌≡◌, ◌∙◌, ℕ, List, Some, None, sym, subst, arith, refl}
use Rattle.model_core.specs.declared.entry.Entry.{Entry}
use Rattle.model_core.specs.declared.graph.Value.{Value}
use Rattle.model_core.specs.declared.graph.Value.TheVariants.{Block}
use Rattle.model_core.specs.declared.label.Label.{Label}
use Rattle.model_core.specs.declared.reply.Reply.TheVariants as reply
use Rattle.model_core.specs.declared.state.Sizes.{Sizes}
use Rattle.model_core.specs.History.{IsPrefix}
use Rattle.weak_laws.proofs.OfMaps.FrontLemmas.{prefix_same, prefix_trans}
use Rattle.weak_maps.specs.Beside.{held_by}
use Rattle.weak_maps.proofs.GetLemmas.{shown_label}
use Rattle.weak_maps.proofs.MachineLemmas.{at_machine}
use Rattle.weak_cache.specs.Calls.{TakeReturns}
use Rattle.weak_cache.proofs.CoreLemmas.{spares_within}
use Rattle.weak_cache.proofs.EndLemmas.{begun, begun_low}
use Rattle.weak_cache.proofs.MachineLemmas.{begun_at, cleared_at, finds_at, cuts_at}
use Rattle.weak_cache.proofs.ReturnLemmas.{found_moves, take_found, take_none}
use Rattle.weak_maps.proofs.FrameLemmas.{leaves_reads, leaves_trans, reads_after, reads_then, shows_none, spends_reads}
use Rattle.weak_cache.proofs.cache.cache_take.Goals as goal

pub returns-clause-reads : goal.returns-clause-reads
returns-clause-reads g c = reads_after (leaves_trans (shows_none c.show.ensures.shows) (leaves_trans c.begin.ensures.leaves c.find.ensures.leaves)) (reads_then (spends_reads refl c.perform-value.ensures.spends) (leaves_trans c.cut_out.ensures.leaves c.clear-2.ensures.leaves))

pub returns-in_default-find-clause-reads : goal.returns-in_default-find-clause-reads
returns-in_default-find-clause-reads g c = reads_after (leaves_trans (shows_none c.show.ensures.shows) (leaves_trans c.begin.ensures.leaves c.find.ensures.leaves)) (reads_then (spends_reads refl c.perform-none.ensures.spends) c.clear.ensures.leaves)

pub returns-in_default-clause-reads : goal.returns-in_default-clause-reads
returns-in_default-clause-reads g c = leaves_reads (shows_none c.show.ensures.shows)

pub returns-clause-answer : goal.returns-clause-answer
returns-clause-answer g c =
    let z : Sizes = g.M.Machine.sizes c.args.m.now in
    let d : ℕ = g.M.Machine.domain c.args.m.now in
    let old : List Entry = g.M.Machine.front c.args.m.now in
    let k : Label = c.in-Block.label in
    let n0 : List Entry = g.M.Machine.front c.begin.new.m in
    let n1 : List Entry = g.M.Machine.front c.find.new.m in
    let n2 : List Entry = g.M.Machine.front c.perform-value.new.m in
    let n3 : List Entry = g.M.Machine.front c.cut_out.new.m in
    let new : List Entry = g.M.Machine.front c.clear-2.new.m in
    let s0 : g.M.Machine.sizes c.show.new.self ≡ z = c.show.ensures.shows.stays.sizes in
    let o0 : g.M.Machine.domain c.show.new.self ≡ d = c.show.ensures.shows.stays.domain in
    let s1 = c.begin.ensures.leaves.stays.sizes ∙ s0 in
    let o1 = c.begin.ensures.leaves.stays.domain ∙ o0 in
    let s2 = c.find.ensures.leaves.stays.sizes ∙ s1 in
    let o2 = c.find.ensures.leaves.stays.domain ∙ o1 in
    let s3 = c.perform-value.ensures.spends.stays.sizes ∙ s2 in
    let o3 = c.perform-value.ensures.spends.stays.domain ∙ o2 in
    let s4 = c.cut_out.ensures.leaves.stays.sizes ∙ s3 in
    let o4 = c.cut_out.ensures.leaves.stays.domain ∙ o3 in
    let key : held_by z d old c.args.key ≡ Block k = shown_label _ _ (sym c.show.ensures.reply ∙ c.in-Block.is) in
    let b = begun_at z _ d _ old _ n0 c.args.cache c.args.key s0 o0 c.show.ensures.shows.front c.begin.ensures.begun in
    let finds = finds_at z _ d _ n0 n1 k c.args.size (Some c.in-Some.slot) _ s1 o1 c.in-Some.is c.find.ensures.found in
    let p = at_machine z _ d _ n1 n2 _ _ s2 o2 c.perform-value.ensures.performed in
    let cuts = cuts_at z _ d _ n2 n3 c.in-Some.slot c.args.size s3 o3 c.cut_out.ensures.cut in
    let e = cleared_at z _ d _ n3 new s4 o4 c.clear-2.ensures.cleared in
    let g3 : IsPrefix n3 new = c.clear-2.ensures.leaves.grows in
    let g2 : IsPrefix n2 new = prefix_trans n2 n3 new c.cut_out.ensures.leaves.grows g3 in
    let g1 : IsPrefix n1 new = prefix_trans n1 n2 new c.perform-value.ensures.spends.grows g2 in
    let g0 : IsPrefix n0 new = prefix_trans n0 n1 new c.find.ensures.leaves.grows g1 in
    λ root holds cache_is spares.
    let upto = λ (h : List Entry) (until : IsPrefix h new). spares_within z root d old new old h (prefix_same old) until spares in
    let begins = begun z c.shows_legal.ensures.limits d root k old c.args.size cache_is c.args.cache c.args.key c.requires.few.1 c.requires.few.2 holds key n0 b (upto n0 g0) in
    let low0 = begun_low z c.shows_legal.ensures.limits d root k old c.args.size cache_is c.args.cache c.args.key c.requires.few.1 c.requires.few.2 holds key n0 b (upto n0 g0) in
    let f = finds old root cache_is.fields (upto n1 g1) cache_is.many (begins, (λ j less. absurd (omega (arith, less)))) in
    let mv = found_moves z c.shows_legal.ensures.limits d root k old c.args.size cache_is n1 n2 c.perform-value.result c.args.dst c.requires.few.0 p (upto n2 g2) c.in-Some.slot f.0 in
    let y = cuts old root k cache_is.fields (upto n3 g3) cache_is.many (c.find.ensures.inner c.in-Some.slot c.in-Some.is) mv.keeps in
    subst (λ (v : Value). TakeReturns z d old new root c.args.size c.args.dst v c.perform-value.result) (sym key)
    (take_found z c.shows_legal.ensures.limits d root k old c.args.size cache_is n1 n2 c.perform-value.result c.args.dst c.requires.few.0 p (upto n2 g2) c.in-Some.slot f.0 n3 new (λ i low. f.1 i low ∙ low0 i low) y.0 y.1 e spares)

pub returns-in_default-find-clause-answer : goal.returns-in_default-find-clause-answer
returns-in_default-find-clause-answer g c =
    let z : Sizes = g.M.Machine.sizes c.args.m.now in
    let d : ℕ = g.M.Machine.domain c.args.m.now in
    let old : List Entry = g.M.Machine.front c.args.m.now in
    let k : Label = c.in-Block.label in
    let n0 : List Entry = g.M.Machine.front c.begin.new.m in
    let n1 : List Entry = g.M.Machine.front c.find.new.m in
    let n2 : List Entry = g.M.Machine.front c.perform-none.new.m in
    let new : List Entry = g.M.Machine.front c.clear.new.m in
    let s0 : g.M.Machine.sizes c.show.new.self ≡ z = c.show.ensures.shows.stays.sizes in
    let o0 : g.M.Machine.domain c.show.new.self ≡ d = c.show.ensures.shows.stays.domain in
    let s1 = c.begin.ensures.leaves.stays.sizes ∙ s0 in
    let o1 = c.begin.ensures.leaves.stays.domain ∙ o0 in
    let s2 = c.find.ensures.leaves.stays.sizes ∙ s1 in
    let o2 = c.find.ensures.leaves.stays.domain ∙ o1 in
    let s3 = c.perform-none.ensures.spends.stays.sizes ∙ s2 in
    let o3 = c.perform-none.ensures.spends.stays.domain ∙ o2 in
    let key : held_by z d old c.args.key ≡ Block k = shown_label _ _ (sym c.show.ensures.reply ∙ c.in-Block.is) in
    let b = begun_at z _ d _ old _ n0 c.args.cache c.args.key s0 o0 c.show.ensures.shows.front c.begin.ensures.begun in
    let finds = finds_at z _ d _ n0 n1 k c.args.size None _ s1 o1 c.in_default-find.is c.find.ensures.found in
    let p = at_machine z _ d _ n1 n2 _ _ s2 o2 c.perform-none.ensures.performed in
    let e = cleared_at z _ d _ n2 new s3 o3 c.clear.ensures.cleared in
    let g2 : IsPrefix n2 new = c.clear.ensures.leaves.grows in
    let g1 : IsPrefix n1 new = prefix_trans n1 n2 new c.perform-none.ensures.spends.grows g2 in
    let g0 : IsPrefix n0 new = prefix_trans n0 n1 new c.find.ensures.leaves.grows g1 in
    λ root holds cache_is spares.
    let upto = λ (h : List Entry) (until : IsPrefix h new). spares_within z root d old new old h (prefix_same old) until spares in
    let begins = begun z c.shows_legal.ensures.limits d root k old c.args.size cache_is c.args.cache c.args.key c.requires.few.1 c.requires.few.2 holds key n0 b (upto n0 g0) in
    let low0 = begun_low z c.shows_legal.ensures.limits d root k old c.args.size cache_is c.args.cache c.args.key c.requires.few.1 c.requires.few.2 holds key n0 b (upto n0 g0) in
    let f = finds old root cache_is.fields (upto n1 g1) cache_is.many (begins, (λ j less. absurd (omega (arith, less)))) in
    subst (λ (v : Value). TakeReturns z d old new root c.args.size c.args.dst v reply.Empty) (sym key)
    (take_none z c.shows_legal.ensures.limits d root k old c.args.size cache_is n1 n2 new _ c.args.dst c.requires.few.0 (λ i low. f.1 i low ∙ low0 i low) f.0 p g2 e spares)
