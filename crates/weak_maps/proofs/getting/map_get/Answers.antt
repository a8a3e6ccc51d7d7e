use Rattle.std.proofs.Common.{◌≡◌, ◌∙◌, ℕ, List, true, false, sym, refl, arith}
use Rattle.model_core.specs.declared.entry.Entry.{Entry}
use Rattle.model_core.specs.declared.graph.Value.TheVariants.{Block}
use Rattle.model_core.specs.declared.state.Sizes.{Sizes}
use Rattle.model_core.specs.declared.reply.Reply.TheVariants as reply
use Rattle.weak_laws.proofs.OfMaps.FrontLemmas.{prefix_trans}
use Rattle.weak_maps.specs.Beside.{held_by}
use Rattle.weak_maps.specs.Walks.{Descended}
use Rattle.weak_maps.proofs.MachineLemmas.{at_machine, descended_at, emptied_at, returned_at}
use Rattle.weak_maps.proofs.FollowLemmas.{get_follows, none_follows}
use Rattle.weak_maps.proofs.GetLemmas.{got_datum, got_missed, got_other, shown_label}
use Rattle.weak_maps.proofs.GuardLemmas.{quiet_by, quiet_emptied, quiet_forget, quiet_from, quiet_same, quiet_twice}
use Rattle.weak_maps.proofs.FrameLemmas.{leaves_reads, leaves_trans, reads_after, reads_most, reads_then, reads_twice, shows_none, spends_none, spends_reads}
use Rattle.weak_maps.proofs.getting.map_get.Goals as goal

pub returns-then-not-descend-clause-reads : goal.returns-then-not-descend-clause-reads
returns-then-not-descend-clause-reads g c = reads_after (leaves_trans (shows_none c.show.ensures.shows) c.descend.ensures.leaves) (reads_most (omega arith) c.unbound.ensures.reads)

pub returns-then-not-is_this-clause-reads : goal.returns-then-not-is_this-clause-reads
returns-then-not-is_this-clause-reads g c = reads_after (leaves_trans (shows_none c.show.ensures.shows) c.descend.ensures.leaves) (reads_twice (spends_reads refl c.perform-found.ensures.spends) c.unbound-then-not-is_this.ensures.reads)

pub returns-clause-reads : goal.returns-clause-reads
returns-clause-reads g c =
    reads_after (leaves_trans (shows_none c.show.ensures.shows) c.descend.ensures.leaves)
    (reads_then (reads_twice (spends_reads refl c.perform-found.ensures.spends) (spends_reads refl c.perform-datum.ensures.spends)) (spends_none refl c.perform-leaf.ensures.spends))

pub returns-in_default-clause-reads : goal.returns-in_default-clause-reads
returns-in_default-clause-reads g c = leaves_reads (shows_none c.show.ensures.shows)

pub returns-then-not-descend-clause-answer : goal.returns-then-not-descend-clause-answer
returns-then-not-descend-clause-answer g c =
    let z : Sizes = g.M.Machine.sizes c.args.m.now in
    let d : ℕ = g.M.Machine.domain c.args.m.now in
    let old : List Entry = g.M.Machine.front c.args.m.now in
    let now : List Entry = g.M.Machine.front c.descend.new.m in
    let key : held_by z d old c.args.key ≡ Block c.in-Block.label = shown_label _ _ (sym c.show.ensures.reply ∙ c.in-Block.is) in
    let met : Descended z d old now c.args.map c.args.key c.in-Block.label false = descended_at z _ d _ old _ now c.args.map c.args.key c.in-Block.label false _ c.show.ensures.shows.stays.sizes c.show.ensures.shows.stays.domain c.show.ensures.shows.front c.if-not-descend.true c.descend.ensures.met in
    let emptied = emptied_at z _ d _ now _ c.args.dst (c.descend.ensures.leaves.stays.sizes ∙ c.show.ensures.shows.stays.sizes) (c.descend.ensures.leaves.stays.domain ∙ c.show.ensures.shows.stays.domain) c.unbound.ensures.emptied in
    λ root held map respects.
    returned_at z d old _ root c.args.dst _ c.in-Block.label _ reply.Empty key c.unbound.ensures.reply
    (got_missed z c.shows_legal.ensures.limits root d old _ c.in-Block.label c.args.dst c.requires.few.0 respects now (met root held key map) emptied)

pub returns-then-not-is_this-clause-answer : goal.returns-then-not-is_this-clause-answer
returns-then-not-is_this-clause-answer g c =
    let z : Sizes = g.M.Machine.sizes c.args.m.now in
    let d : ℕ = g.M.Machine.domain c.args.m.now in
    let old : List Entry = g.M.Machine.front c.args.m.now in
    let now : List Entry = g.M.Machine.front c.descend.new.m in
    let n1 : List Entry = g.M.Machine.front c.perform-found.new.m in
    let key : held_by z d old c.args.key ≡ Block c.in-Block.label = shown_label _ _ (sym c.show.ensures.reply ∙ c.in-Block.is) in
    let met : Descended z d old now c.args.map c.args.key c.in-Block.label true = descended_at z _ d _ old _ now c.args.map c.args.key c.in-Block.label true _ c.show.ensures.shows.stays.sizes c.show.ensures.shows.stays.domain c.show.ensures.shows.front c.if-not-descend.false c.descend.ensures.met in
    let s1 : g.M.Machine.sizes c.descend.new.m ≡ z = c.descend.ensures.leaves.stays.sizes ∙ c.show.ensures.shows.stays.sizes in
    let d1 : g.M.Machine.domain c.descend.new.m ≡ d = c.descend.ensures.leaves.stays.domain ∙ c.show.ensures.shows.stays.domain in
    let emptied = emptied_at z _ d _ n1 _ c.args.dst (c.perform-found.ensures.spends.stays.sizes ∙ s1) (c.perform-found.ensures.spends.stays.domain ∙ d1) c.unbound-then-not-is_this.ensures.emptied in
    λ root held map respects.
    returned_at z d old _ root c.args.dst _ c.in-Block.label _ reply.Empty key c.unbound-then-not-is_this.ensures.reply
    (got_other z c.shows_legal.ensures.limits root d old _ c.in-Block.label c.args.dst c.requires.few.0 respects c.args.key c.requires.few.2 key now n1 c.perform-found.result (met root held key map) (at_machine z _ d _ now n1 _ _ s1 d1 c.perform-found.ensures.performed)
    (λ e. let clash : true ≡ false = sym (c.is_this.ensures.1 e) ∙ c.if-not-is_this.true in cc) emptied)

pub returns-clause-answer : goal.returns-clause-answer
returns-clause-answer g c =
    let z : Sizes = g.M.Machine.sizes c.args.m.now in
    let d : ℕ = g.M.Machine.domain c.args.m.now in
    let old : List Entry = g.M.Machine.front c.args.m.now in
    let now : List Entry = g.M.Machine.front c.descend.new.m in
    let n1 : List Entry = g.M.Machine.front c.perform-found.new.m in
    let n2 : List Entry = g.M.Machine.front c.perform-datum.new.m in
    let key : held_by z d old c.args.key ≡ Block c.in-Block.label = shown_label _ _ (sym c.show.ensures.reply ∙ c.in-Block.is) in
    let met : Descended z d old now c.args.map c.args.key c.in-Block.label true = descended_at z _ d _ old _ now c.args.map c.args.key c.in-Block.label true _ c.show.ensures.shows.stays.sizes c.show.ensures.shows.stays.domain c.show.ensures.shows.front c.if-not-descend.false c.descend.ensures.met in
    let s1 : g.M.Machine.sizes c.descend.new.m ≡ z = c.descend.ensures.leaves.stays.sizes ∙ c.show.ensures.shows.stays.sizes in
    let d1 : g.M.Machine.domain c.descend.new.m ≡ d = c.descend.ensures.leaves.stays.domain ∙ c.show.ensures.shows.stays.domain in
    let s2 : g.M.Machine.sizes c.perform-found.new.m ≡ z = c.perform-found.ensures.spends.stays.sizes ∙ s1 in
    let d2 : g.M.Machine.domain c.perform-found.new.m ≡ d = c.perform-found.ensures.spends.stays.domain ∙ d1 in
    let s3 : g.M.Machine.sizes c.perform-datum.new.m ≡ z = c.perform-datum.ensures.spends.stays.sizes ∙ s2 in
    let d3 : g.M.Machine.domain c.perform-datum.new.m ≡ d = c.perform-datum.ensures.spends.stays.domain ∙ d2 in
    λ root held map respects.
    returned_at z d old _ root c.args.dst _ c.in-Block.label _ c.perform-datum.result key refl
    (got_datum z c.shows_legal.ensures.limits root d old _ c.in-Block.label c.args.dst c.requires.few.0 respects c.args.key c.requires.few.2 key now n1 n2 c.perform-found.result c.perform-datum.result c.perform-leaf.result (met root held key map)
    (at_machine z _ d _ now n1 _ _ s1 d1 c.perform-found.ensures.performed) (at_machine z _ d _ n1 n2 _ _ s2 d2 c.perform-datum.ensures.performed) (at_machine z _ d _ n2 _ _ _ s3 d3 c.perform-leaf.ensures.performed) (c.is_this.ensures.0 c.if-not-is_this.false))

pub returns-then-not-descend-clause-follows : goal.returns-then-not-descend-clause-follows
returns-then-not-descend-clause-follows g c = λ root held map placed respects.
    get_follows (g.M.Machine.sizes c.args.m.now) (g.M.Machine.domain c.args.m.now) _ _ root (returns-then-not-descend-clause-reads g c).grows map placed respects c.args.dst _ _ (returns-then-not-descend-clause-answer g c root held map respects)

pub returns-then-not-is_this-clause-follows : goal.returns-then-not-is_this-clause-follows
returns-then-not-is_this-clause-follows g c = λ root held map placed respects.
    get_follows (g.M.Machine.sizes c.args.m.now) (g.M.Machine.domain c.args.m.now) _ _ root (returns-then-not-is_this-clause-reads g c).grows map placed respects c.args.dst _ _ (returns-then-not-is_this-clause-answer g c root held map respects)

pub returns-clause-follows : goal.returns-clause-follows
returns-clause-follows g c = λ root held map placed respects.
    get_follows (g.M.Machine.sizes c.args.m.now) (g.M.Machine.domain c.args.m.now) _ _ root (returns-clause-reads g c).grows map placed respects c.args.dst _ _ (returns-clause-answer g c root held map respects)

pub returns-in_default-clause-follows : goal.returns-in_default-clause-follows
returns-in_default-clause-follows g c = λ root held map placed respects. none_follows (g.M.Machine.sizes c.args.m.now) _ _ root c.show.ensures.shows.front map placed

pub returns-then-not-descend-clause-quiet : goal.returns-then-not-descend-clause-quiet
returns-then-not-descend-clause-quiet g c =
    let z : Sizes = g.M.Machine.sizes c.args.m.now in
    let d : ℕ = g.M.Machine.domain c.args.m.now in
    let old : List Entry = g.M.Machine.front c.args.m.now in
    let now : List Entry = g.M.Machine.front c.descend.new.m in
    let emptied = emptied_at z _ d _ now _ c.args.dst (c.descend.ensures.leaves.stays.sizes ∙ c.show.ensures.shows.stays.sizes) (c.descend.ensures.leaves.stays.domain ∙ c.show.ensures.shows.stays.domain) c.unbound.ensures.emptied in
    quiet_twice z d old now _ c.unbound.ensures.reads.grows (quiet_from z _ d _ old _ now c.show.ensures.shows.stays.sizes c.show.ensures.shows.stays.domain c.show.ensures.shows.front c.descend.ensures.quiet) (quiet_emptied z d now _ c.args.dst emptied)

pub returns-then-not-is_this-clause-quiet : goal.returns-then-not-is_this-clause-quiet
returns-then-not-is_this-clause-quiet g c =
    let z : Sizes = g.M.Machine.sizes c.args.m.now in
    let d : ℕ = g.M.Machine.domain c.args.m.now in
    let old : List Entry = g.M.Machine.front c.args.m.now in
    let now : List Entry = g.M.Machine.front c.descend.new.m in
    let n1 : List Entry = g.M.Machine.front c.perform-found.new.m in
    let s1 : g.M.Machine.sizes c.descend.new.m ≡ z = c.descend.ensures.leaves.stays.sizes ∙ c.show.ensures.shows.stays.sizes in
    let d1 : g.M.Machine.domain c.descend.new.m ≡ d = c.descend.ensures.leaves.stays.domain ∙ c.show.ensures.shows.stays.domain in
    let p = at_machine z _ d _ now n1 _ _ s1 d1 c.perform-found.ensures.performed in
    let emptied = emptied_at z _ d _ n1 _ c.args.dst (c.perform-found.ensures.spends.stays.sizes ∙ s1) (c.perform-found.ensures.spends.stays.domain ∙ d1) c.unbound-then-not-is_this.ensures.emptied in
    quiet_twice z d old now _ (prefix_trans _ _ _ c.perform-found.ensures.spends.grows c.unbound-then-not-is_this.ensures.reads.grows) (quiet_from z _ d _ old _ now c.show.ensures.shows.stays.sizes c.show.ensures.shows.stays.domain c.show.ensures.shows.front c.descend.ensures.quiet)
    (quiet_twice z d now n1 _ c.unbound-then-not-is_this.ensures.reads.grows (quiet_by z d now n1 _ _ p (λ s. refl) refl) (quiet_emptied z d n1 _ c.args.dst emptied))

pub returns-clause-quiet : goal.returns-clause-quiet
returns-clause-quiet g c =
    let z : Sizes = g.M.Machine.sizes c.args.m.now in
    let d : ℕ = g.M.Machine.domain c.args.m.now in
    let old : List Entry = g.M.Machine.front c.args.m.now in
    let now : List Entry = g.M.Machine.front c.descend.new.m in
    let n1 : List Entry = g.M.Machine.front c.perform-found.new.m in
    let n2 : List Entry = g.M.Machine.front c.perform-datum.new.m in
    let s1 : g.M.Machine.sizes c.descend.new.m ≡ z = c.descend.ensures.leaves.stays.sizes ∙ c.show.ensures.shows.stays.sizes in
    let d1 : g.M.Machine.domain c.descend.new.m ≡ d = c.descend.ensures.leaves.stays.domain ∙ c.show.ensures.shows.stays.domain in
    let s2 : g.M.Machine.sizes c.perform-found.new.m ≡ z = c.perform-found.ensures.spends.stays.sizes ∙ s1 in
    let d2 : g.M.Machine.domain c.perform-found.new.m ≡ d = c.perform-found.ensures.spends.stays.domain ∙ d1 in
    let s3 : g.M.Machine.sizes c.perform-datum.new.m ≡ z = c.perform-datum.ensures.spends.stays.sizes ∙ s2 in
    let d3 : g.M.Machine.domain c.perform-datum.new.m ≡ d = c.perform-datum.ensures.spends.stays.domain ∙ d2 in
    let p1 = at_machine z _ d _ now n1 _ _ s1 d1 c.perform-found.ensures.performed in
    let p2 = at_machine z _ d _ n1 n2 _ _ s2 d2 c.perform-datum.ensures.performed in
    let p3 = at_machine z _ d _ n2 _ _ _ s3 d3 c.perform-leaf.ensures.performed in
    let g3 = c.perform-leaf.ensures.spends.grows in
    let g2 = prefix_trans _ _ _ c.perform-datum.ensures.spends.grows g3 in
    let g1 = prefix_trans _ _ _ c.perform-found.ensures.spends.grows g2 in
    quiet_twice z d old now _ g1 (quiet_from z _ d _ old _ now c.show.ensures.shows.stays.sizes c.show.ensures.shows.stays.domain c.show.ensures.shows.front c.descend.ensures.quiet)
    (quiet_twice z d now n1 _ g2 (quiet_by z d now n1 _ _ p1 (λ s. refl) refl) (quiet_twice z d n1 n2 _ g3 (quiet_by z d n1 n2 _ _ p2 (λ s. refl) refl) (quiet_forget z d n2 _ 8 _ p3)))

pub returns-in_default-clause-quiet : goal.returns-in_default-clause-quiet
returns-in_default-clause-quiet g c = quiet_same (g.M.Machine.sizes c.args.m.now) (g.M.Machine.domain c.args.m.now) _ _ c.show.ensures.shows.front
