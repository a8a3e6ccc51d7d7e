-- The facts of a phase hold when a domain that has done its share has arrived.
use Rattle.std.proofs.Common.{cond, ◌⊎◌, ◌*◌, ◌≡◌, ℕ, ◌+◌, ◌<◌, ◌≤◌, ◌==◌, Bool, true, false, IsTrue, List, [], length, get_or, filter_map, option_and_then, Option, Some, None, sym, refl, ap, ◌∙◌, subst, inl, inr, ⊎_elim, arith, lt_of_not-le, eq-eqb, eqb-true}
use Rattle.std.proofs.lemmas.Bool.{false≢true}
use Rattle.std.specs.List.{list_any}
use Rattle.std.specs.Prelude.{nat_le}
use mathlib.Core.Option.{some}
use lib.ListN.{get_elem?}
use Rattle.model_core.specs.declared.entry.Entry.{Entry}
use Rattle.model_core.specs.declared.label.Label.{Label}
use Rattle.model_core.specs.declared.graph.Value.{Value}
use Rattle.model_core.specs.declared.graph.Value.TheVariants.{Block, Nothing}
use Rattle.model_core.specs.declared.graph.Node.{Node}
use Rattle.model_core.specs.declared.graph.Node.TheVariants.{Plain, Raw, Ephe}
use Rattle.model_core.specs.Fronts.{EpheShape, shape_of}
use Rattle.model_core.specs.declared.state.Pending.{Pending}
use Rattle.model_core.specs.declared.state.Pending.TheVariants.{Fin as FinPending, Last as LastPending}
use Rattle.model_core.specs.declared.state.State as model
use Rattle.model_core.specs.Domains.{domain_at, pending_label, IsShaped}
use Rattle.model_core.specs.Graph.{node_at, label_of}
use Rattle.model_core.specs.Reach.{HoldsRoots}
use Rattle.model_core.proofs.Histories.ShapeAfterLemmas.{shaped-history}
use Rattle.heap_words.specs.declared.value.Value as held
use Rattle.heap_words.specs.declared.value.Value.TheVariants.{Int as IntWord, Ref, Nothing as NothingWord}
use Rattle.model_cycle.specs.Cycle as laws
use Rattle.model_cycle.specs.CycleLaws.{ArrivesMarking}
use Rattle.model_cycle.specs.Marks.{data_of}
use Rattle.model_cycle.specs.Queueing.{RootsMarked}
use Rattle.model_cycle.specs.Shares.{Shares, at_domain, AreShares}
use Rattle.model_cycle.proofs.Cycling.{darkening_steps, taking_steps}
use Rattle.model_cycle.proofs.DomainParts.{is_block, listed_cases}
use Rattle.model_cycle.proofs.Sharing.{at_cases, at_same, some_same}
use Rattle.heap_rule.specs.declared.config.Config.{Config}
use Rattle.heap_rule.specs.declared.phase.Kind.{Kind}
use Rattle.heap_rule.specs.declared.phase.Kind.TheVariants.{Run, Promote, Reset, Roots, Mark, Rounds, Decide, Queued, Clean, Lasts, Sweep, Answer}
use Rattle.heap_rule.specs.declared.phase.Stage.{Stage}
use Rattle.heap_rule.specs.declared.phase.Stage.TheVariants.{In, Leads, Led, Gone}
use Rattle.heap_rule.specs.declared.view.DomainView.{DomainView}
use Rattle.heap_rule.specs.declared.view.Share.{Share}
use Rattle.heap_rule.specs.declared.view.Held.TheVariants.{Queue}
use Rattle.heap_rule.specs.declared.view.Waiting.{Waiting}
use Rattle.heap_rule.specs.declared.view.Waiting.TheVariants.{Fin as FinWaiting, Last as LastWaiting}
use Rattle.heap_rule.specs.Changes.{value_at}
use Rattle.heap_rule.specs.Cycles.{Cycling, Facts, IsBetween, IsSwept, Knowing, IsCollecting, IsIdle, cycle_of, owner_at, seen_by, label_in, label_at, layout_of, swept_of, IsPlain, HoldsBlock, EndsCycle}
use Rattle.heap_rule.specs.Deciding.{IsRooting}
use Rattle.heap_rule.specs.Finalisers.{StandsWaiting, address_in, held_at}
use Rattle.heap_rule.specs.Limits.{sizes_in}
use Rattle.heap_rule.specs.Phases.{AtStage}
use Rattle.heap_rule.specs.Beside.{HoldsPooled, Underway, is_weak}
use Rattle.heap_rule.specs.Copies.{IsEmptying}
use Rattle.std.proofs.lemmas.List.{get_or_past}
use mathlib.Core.Logic.{dite}
use native.Mathlib.Decide.{dec_le}
use Rattle.heap_rule.specs.Places.{Place, Live, IsOldAt, Stands}
use Rattle.heap_rule.specs.Pools.{owned, blocks_of, place_in, IsBefore, OwnPlace}
use Rattle.heap_rule.specs.Rule.{Good, Rule}
use Rattle.heap_rule.specs.Views.{one}
use Rattle.heap_rule.proofs.Keeps.{Words, mine, my_good, now}
use Rattle.step_pauses.specs.Pauses.{ArrivesFrom, HasDone}
use Rattle.step_pauses.proofs.Arriving.{is_owner, arrived_cycle, kind_acts}
use Rattle.heap_rule.proofs.FinaliserLemmas.{paired_back}
use Rattle.heap_rule.proofs.OwnPlaces.{own_place}
use Rattle.step_pauses.proofs.Sizes.{domains_of}
use Rattle.model_core.specs.Entries.{full_keys}
use Rattle.std.proofs.lemmas.Option.{none-some, slice_get_within, get_or_from_slice_get}
use Rattle.heap_rule.proofs.Stages.{waits_in}
use Rattle.heap_rule.proofs.Lots.{none_before}

-- a block that is no ephemeron has neither keys nor a datum
record IsBare (o : Option Node) : Type 0 where
  data_is : data_of o ≡ []
  keys_are : full_keys o ≡ []

bare_or : (n : Node) → IsBare (Some n) ⊎ ((keys : ℕ) × (shape_of n ≡ EpheShape keys))
bare_or (Plain tag fields) = inl (record { data_is = refl; keys_are = refl })
bare_or (Raw tag fields) = inl (record { data_is = refl; keys_are = refl })
bare_or (Ephe keys datum) = inr (length keys, refl)

none_held : (ls : List Label) (marked : Label → Bool) → ls ≡ [] → HoldsRoots ls marked
none_held ls marked none = subst (λ (z : List Label). HoldsRoots z marked) (sym none) (λ l is. cc)

-- the block with a label at a place
there : (k : Config) (live : Live) (a : ℕ) (l : Label) → label_at k live a ≡ Some l → (p : Place) × (live a ≡ Some p) × (p.label ≡ l)
there k live a l is = go (nat_le a (k.pools * 4096)) is
  where
    inner : (o : Option Place) → live a ≡ o → label_in o ≡ Some l → (p : Place) × (live a ≡ Some p) × (p.label ≡ l)
    inner None e f = absurd (none-some l f)
    inner (Some p) e f = (p, e, (let g : Some p.label ≡ Some l = f in cc))

    go : (b : Bool) → cond b (label_in (live a)) None ≡ Some l → (p : Place) × (live a ≡ Some p) × (p.label ≡ l)
    go true f = inner (live a) refl f
    go false f = absurd (none-some l f)

-- an owner that is the domain
owner_is : (o : Option ℕ) (d : ℕ) → IsTrue (is_owner o d) → o ≡ Some d
owner_is None d is = cc
owner_is (Some e) d is = ap Some (eqb-true e d is)

is_own : (o : Option ℕ) (d : ℕ) → o ≡ Some d → IsTrue (is_owner o d)
is_own o d is = subst (λ (p : Option ℕ). IsTrue (is_owner p d)) (sym is) (eq-eqb d d refl)

pub held_by : (live : Live) (l : Label) (v : held.Value) → Stands live v (Block l) → (a : ℕ) × (p : Place) × (v ≡ Ref a) × (live a ≡ Some p) × (p.label ≡ l)
held_by live l (IntWord z) st = absurd st
held_by live l (Ref a) st = (a, st.0, refl, st.1, st.2)
held_by live l NothingWord st = absurd st

-- the block that an item of a queue keeps alive
waiting_block : (live : Live) (w : Waiting) (p : Pending) (l : Label) → StandsWaiting live w p → pending_label p ≡ Some l → (a : ℕ) × (q : Place) × (address_in w ≡ Some a) × (live a ≡ Some q) × (q.label ≡ l)
waiting_block live (FinWaiting a n r) (FinPending m k q) l st is = (a, st.0.0, refl, st.0.1, st.0.2 ∙ some_same k l is)
waiting_block live (FinWaiting a n r) (LastPending m) l st is = absurd st
waiting_block live (LastWaiting n) (FinPending m k q) l st is = absurd st
waiting_block live (LastWaiting n) (LastPending m) l st is = absurd (none-some l is)

-- all that there was is looked at
none_left : (left kept all : ℕ) → left + kept ≡ all → kept ≡ all → left ≡ 0
none_left left kept all sum is = omega arith

module _ (k : Config) (s : Words) (r : Rule k s) (id : ℕ) (hist : List Entry) (x : DomainView) (at : get_elem? s.views id ≡ some (one k hist x)) (done : HasDone k x) (paid_reads : x.seen.share.weak ≡ None) where
  open x use {own.{number as d}}
  open r.account use {cycling as c, tenancy as t}

  abbrev state : model.State
  state = now k s r id hist x at

  abbrev owner : ℕ → Option ℕ
  owner = owner_at t.holder

  good : Good k r.account s.words x
  good = my_good k s r id hist x at

  shaped : IsShaped state
  shaped = shaped-history (sizes_in k) r.account.log r.limits

  -- each domain of the heap is one of the state's
  counted : length state.domains ≡ k.domains
  counted = domains_of k r.account.log r.limits

  -- what it knows of own places and of its registers, also where that is nothing
  abbrev Known : Type 0
  Known = Knowing k r.account.live t.holder state.graph c.paint.marks s.words d x.own.registers x.seen.share

  been : (q class slot : ℕ) → t.holder q ≡ owned d class → slot < blocks_of class → IsBefore q slot x.seen.share.walk → IsTrue (seen_by x.seen.share.places_seen (place_in q class slot))
  been q class slot is inside low = ⊎_elim
      (λ (h : IsIdle x.seen.share). absurd (none_before q slot (subst (IsBefore q slot) (ap (λ (y : Share). y.walk) h) low)))
      (λ (h : IsCollecting x.seen.stage × Known). h.1.walked q class slot is inside low) good.sharing.knows

  has_block : (q class : ℕ) → t.holder q ≡ owned d class → q < x.seen.share.held → HoldsBlock r.account.live q class
  has_block q class is low = ⊎_elim
      (λ (h : IsIdle x.seen.share). absurd (let none : x.seen.share.held ≡ 0 = ap (λ (y : Share). y.held) h in let w : ℕ = x.seen.share.held in let z : w ≡ 0 = none in let l : q < w = low in omega arith))
      (λ (h : IsCollecting x.seen.stage × Known). h.1.held q class is low) good.sharing.knows

  rooted : (n a : ℕ) (p : Place) → IsTrue (list_any (λ q. q == n) x.seen.share.roots) → value_at x.own.registers n ≡ Ref a → r.account.live a ≡ Some p → IsTrue (c.paint.marks.marked p.label)
  rooted n a p among is lives = ⊎_elim
      (λ (h : IsIdle x.seen.share). let none : IsTrue (list_any (λ q. q == n) []) = subst (λ (l : List ℕ). IsTrue (list_any (λ q. q == n) l)) (ap (λ (y : Share). y.roots) h) among in cc)
      (λ (h : IsCollecting x.seen.stage × Known). h.1.rooted n a p among is lives) good.sharing.knows

  -- what its queue keeps alive is marked
  queue_done : IsRooting c.kind → c.shares.arrived d ≡ false → (x.seen.stage ≡ In Roots) ⊎ (x.seen.stage ≡ In Queued) → HoldsRoots (filter_map pending_label (domain_at state d).queue) c.paint.marks.marked
  queue_done rooting waits here l is =
      let m = listed_cases {A = Pending} pending_label (domain_at state d).queue l is in
      let b = paired_back (StandsWaiting r.account.live) x.own.finalisers.queue.items (domain_at state d).queue m.0 m.1 good.stood.enrolled.queue m.2 in
      let w = waiting_block r.account.live b.0 m.1 l b.2 m.3 in
      let held : held_at x.own.finalisers (Queue m.0) ≡ Some w.0 = ap (option_and_then address_in) b.1 ∙ w.2 in
      subst (λ (z : Label). IsTrue (c.paint.marks.marked z)) w.4 (good.sharing.deciding.rooted rooting waits m.0 w.0 w.1 (done.queued here m.0 w.0 held) held w.3)

  -- and so is what its registers hold
  roots_done : IsRooting c.kind → c.shares.arrived d ≡ false → x.seen.stage ≡ In Roots → RootsMarked state c.paint.marks.marked d
  roots_done rooting waits here = record {
    registers = λ l is.
        let m = listed_cases {A = Value} label_of (domain_at state d).registers l is in
        let n : ℕ = m.0 in
        let low : n < length (domain_at state d).registers = slice_get_within (domain_at state d).registers m.0 m.1 m.2 in
        let wide : length (domain_at state d).registers ≡ 16 = shaped.register_count d (subst (λ (z : ℕ). d < z) (sym counted) (mine k s r id hist x at).inside) in
        let few : n < 16 = omega arith in
        let value : get_or (domain_at state d).registers m.0 Nothing ≡ Block l = get_or_from_slice_get (domain_at state d).registers m.0 m.1 Nothing m.2 ∙ is_block m.1 l m.3 in
        let b = held_by r.account.live l (value_at x.own.registers m.0) (subst (Stands r.account.live (value_at x.own.registers m.0)) value (good.stood.each m.0 few)) in
        subst (λ (z : Label). IsTrue (c.paint.marks.marked z)) b.4 (rooted m.0 b.0 b.1 (done.rooted here m.0 b.0 few b.2) b.2 b.3);
    queue = queue_done rooting waits (inl here);
  }

  module _ (waits : c.shares.arrived d ≡ false) where
    paid : x.seen.share.owes ≡ false → c.shares.owes d ≡ false
    paid none = (good.sharing.telling.owes waits).owes ∙ none

    settled : x.seen.share.account ≡ [] → (a : ℕ) → c.shares.follows d a ≡ false
    settled none a = not_so (c.shares.follows d a) (λ is. false≢true (subst (λ (l : List ℕ). IsTrue (seen_by l a)) none ((good.sharing.telling.owes waits).follows a is)))
      where
        not_so : (b : Bool) → (IsTrue b → ⊥) → b ≡ false
        not_so true no_way = absurd (no_way refl)
        not_so false no_way = refl

    -- it has seen all own places
    all_seen : x.own.swept.top ≤ x.seen.share.walk.pool → (a : ℕ) → owner a ≡ Some d → IsTrue (c.shares.seen d a)
    all_seen through a is =
        let o = own_place t.holder (λ q e class h. (r.whole.pools.owned_by q e class h).2) d a is in
        let low : o.pool < x.own.swept.top = good.sweeps.below o.pool o.class o.owned_is in
        let w : ℕ = x.seen.share.walk.pool in
        let p : ℕ = o.pool in
        let m : ℕ = x.own.swept.top in
        let before : p < w = (let l : p < m = low in let h : m ≤ w = through in omega arith) in
        let seen : IsTrue (seen_by x.seen.share.places_seen a) = subst (λ (b : ℕ). IsTrue (seen_by x.seen.share.places_seen b)) (sym o.begins) (been o.pool o.class o.slot o.owned_is o.inside (inl before)) in
        subst (λ (f : ℕ → Bool). IsTrue (f a)) (sym (good.sharing.telling.seen waits)) seen

    -- the domain has arrived
    abbrev after : Kind → Cycling
    after kind = arrived_cycle (In kind) t.holder c d

    done_arrives : x.seen.share.account ≡ [] → x.own.swept.top ≤ x.seen.share.walk.pool → ArrivesMarking (cycle_of k r.account.live t.holder c) d
    done_arrives none through = record { settled = settled none; all = all_seen through }

    -- where there is nothing to look at it has seen all own places
    abbrev all_own : Shares
    all_own = record c.shares { seen = at_domain c.shares.seen d (λ a. is_owner (owner a) d) }

    own_seen : (a : ℕ) → owner a ≡ Some d → IsTrue (all_own.seen d a)
    own_seen a is = subst (λ (f : ℕ → Bool). IsTrue (f a)) (sym (at_same c.shares.seen d (λ b. is_owner (owner b) d))) (is_own (owner a) d is)

    shares_own : AreShares (layout_of k r.account.live t.holder) c.shares → AreShares (layout_of k r.account.live t.holder) all_own
    shares_own w = record {
      own = λ e a is. ⊎_elim
          (λ z. subst (λ (n : ℕ). owner a ≡ Some n) (sym z.0) (owner_is (owner a) d (subst (λ (f : ℕ → Bool). IsTrue (f a)) z.1 is)))
          (λ z. w.own e a (subst (λ (f : ℕ → Bool). IsTrue (f a)) z.1 is))
          (at_cases c.shares.seen d (λ b. is_owner (owner b) d) e);
      all = λ e a gone is. ⊎_elim
          (λ z. subst (λ (f : ℕ → Bool). IsTrue (f a)) (sym z.1) (is_own (owner a) d (subst (λ (n : ℕ). owner a ≡ Some n) z.0 is)))
          (λ z. subst (λ (f : ℕ → Bool). IsTrue (f a)) (sym z.1) (w.all e a gone is))
          (at_cases c.shares.seen d (λ b. is_owner (owner b) d) e);
    }

    -- it has looked at each ephemeron of its pools, and any other block has no keys and no datum
    looked_at : (x.seen.stage ≡ In Rounds) ⊎ (x.seen.stage ≡ In Clean) → (a : ℕ) (l : Label) → owner a ≡ Some d → label_at k r.account.live a ≡ Some l → IsTrue (c.shares.seen d a) ⊎ IsBare (node_at state.graph l)
    looked_at here a l is labelled =
        let o = own_place t.holder (λ q e class h. (r.whole.pools.owned_by q e class h).2) d a is in
        let b = there k r.account.live a l labelled in
        let found = r.whole.found a b.0 b.1 in
        ⊎_elim
        (λ (bare : IsBare (Some found.node)). inr (subst IsBare (sym found.there ∙ ap (node_at state.graph) b.2) bare))
        (λ (e : (keys : ℕ) × (shape_of found.node ≡ EpheShape keys)).
        let begins : (z : ℕ) → IsTrue (seen_by x.own.ephemerons.items z) → IsTrue (seen_by x.seen.share.places_seen z) = done.looked here in
        let at_place : r.account.live (place_in o.pool o.class o.slot) ≡ Some b.0 = ap r.account.live (sym o.begins) ∙ b.1 in
        let in_list : IsTrue (seen_by x.own.ephemerons.items (place_in o.pool o.class o.slot)) = good.listed.all o.pool o.class o.slot o.owned_is o.inside (record { place = b.0; lives = at_place; keys = e.0; shape = sym found.shape ∙ e.1 }) in
        let seen : IsTrue (seen_by x.seen.share.places_seen a) = subst (λ (z : ℕ). IsTrue (seen_by x.seen.share.places_seen z)) (sym o.begins) (begins (place_in o.pool o.class o.slot) in_list) in
        inl (subst (λ (f : ℕ → Bool). IsTrue (f a)) (sym (good.sharing.telling.seen waits)) seen))
        (bare_or found.node)

    -- what a look at own ephemerons tells of each own block
    told_own : (P : Label → Type 0) → ((l : Label) → IsBare (node_at state.graph l) → P l) → (e a : ℕ) (l : Label) → (x.seen.stage ≡ In Rounds) ⊎ (x.seen.stage ≡ In Clean) → IsTrue (all_own.seen e a) → label_at k r.account.live a ≡ Some l
        → (IsTrue (c.shares.seen e a) → P l) → P l
    told_own P bare e a l here is labelled old = ⊎_elim
        (λ z.
        let own : owner a ≡ Some d = owner_is (owner a) d (subst (λ (f : ℕ → Bool). IsTrue (f a)) z.1 is) in
        ⊎_elim (λ (h : IsTrue (c.shares.seen d a)). old (subst (λ (n : ℕ). IsTrue (c.shares.seen n a)) (sym z.0) h)) (λ (h : IsBare (node_at state.graph l)). bare l h) (looked_at here a l own labelled))
        (λ z. old (subst (λ (f : ℕ → Bool). IsTrue (f a)) z.1 is))
        (at_cases c.shares.seen d (λ b. is_owner (owner b) d) e)

    abbrev cyc : laws.Cycle
    cyc = cycle_of k r.account.live t.holder c

    abbrev seeing : laws.Cycle
    seeing = laws.with_shares cyc all_own

    sees_rounds : x.seen.stage ≡ In Rounds → laws.InPhase (laws.Rounds c.pass) k.domains state cyc → laws.InPhase (laws.Rounds c.pass) k.domains state seeing
    sees_rounds here f = let i = f.rounds in record {
      known = f.known;
      whole = f.whole;
      passed = f.passed;
      rounds = record {
        shares = shares_own i.shares;
        owned = i.owned;
        paid = i.paid;
        stays = i.stays;
        scanned = i.scanned;
        same = λ q. i.same (record { unchanged = q.unchanged; paid = q.paid });
        data_marked = λ e a l seen is before keys. told_own (λ m. HoldsRoots (data_of (node_at state.graph m)) c.paint.marks.marked) (λ m bare. none_held (data_of (node_at state.graph m)) c.paint.marks.marked bare.data_is) e a l (inl here) seen is (λ h. i.data_marked e a l h is before keys);
      };
    }

    sees_clean : x.seen.stage ≡ In Clean → laws.InPhase laws.Clean k.domains state cyc → laws.InPhase laws.Clean k.domains state seeing
    sees_clean here f = let i = f.clean in record {
      whole = f.whole;
      waiting = f.waiting;
      stays = f.stays;
      clean = record {
        mode = i.mode;
        shares = shares_own i.shares;
        owned = i.owned;
        marks = i.marks;
        taken = i.taken;
        clean = λ e a l seen is marked. told_own (λ m. HoldsRoots (full_keys (node_at state.graph m)) c.paint.marks.marked) (λ m bare. none_held (full_keys (node_at state.graph m)) c.paint.marks.marked bare.keys_are) e a l (inr here) seen is (λ h. i.clean e a l h is marked);
        low = i.low;
      };
    }

    -- it has looked at each registration
    all_decided : c.kind ≡ Decide → x.seen.stage ≡ In Decide → c.left d ≡ 0
    all_decided is here = none_left (c.left d) x.seen.share.kept (length x.own.finalisers.finals.items) (good.sharing.deciding.finals is waits) (done.decided here)

    all_settled : c.kind ≡ Lasts → x.seen.stage ≡ In Lasts → c.left d ≡ 0
    all_settled is here = none_left (c.left d) x.seen.share.kept (length x.own.finalisers.lasts.items) (good.sharing.deciding.lasts is waits) (done.settled here)

    swept_in : (kd : Kind) → IsSwept k state r.account.live t.holder c s.words → IsSwept k state r.account.live t.holder (after kd) s.words
    swept_in kd f = record { all_marked = f.all_marked; unmarked = f.unmarked; unchanged = f.unchanged; counted = f.counted }

    ends_in : (kd : Kind) → EndsCycle k state r.account.live t.holder c → EndsCycle k state r.account.live t.holder (after kd)
    ends_in kd f = let g = f.facts in record { facts = record { sealed = g.sealed; owned = g.owned; whole = g.whole; waiting = g.waiting; kept = g.kept }; rotated = f.rotated }

    -- it has swept each own place
    own_clear : x.seen.stage ≡ In Sweep → (a : ℕ) → OwnPlace t.holder a d → t.garbage a ≡ false
    own_clear here a o =
        let p : ℕ = k.pools in
        let to : ℕ = x.own.swept.spot.pool in
        let far : p ≤ to = done.swept here in
        let q : ℕ = o.pool in
        let low : q < p = (r.whole.pools.owned_by o.pool d o.class o.owned_is).0 in
        ap t.garbage o.begins ∙ good.sweeps.places o.pool o.class o.slot o.owned_is o.inside (inl (let g : q < to = omega arith in g))

    -- who leaves Reset holds blocks of pools alone
    own_pooled : x.seen.stage ≡ In Reset → HoldsPooled k r.account.live state d
    own_pooled here =
        let here_at = subst (AtStage r.account.pause d x.own.arrivals) here good.staged.stage in
        let old : (a : ℕ) (p : Place) → r.account.live a ≡ Some p → IsOldAt k a = r.whole.emptied (inr (here_at.1.0, here_at.1.1, subst IsEmptying (sym here_at.1.2) ((λ e. cc), (λ e. cc)))) in record {
          registers = λ n l is. dite (dec_le 16 n)
              (λ far.
              let wide : length (domain_at state d).registers ≡ 16 = shaped.register_count d (subst (λ (z : ℕ). d < z) (sym counted) (mine k s r id hist x at).inside) in
              let none : get_or (domain_at state d).registers n Nothing ≡ Nothing = get_or_past (domain_at state d).registers n Nothing (subst (λ (z : ℕ). z ≤ n) (sym wide) far) in
              absurd (let clash : Nothing ≡ Block l = sym none ∙ is in cc))
              (λ near.
              let b = held_by r.account.live l (value_at x.own.registers n) (subst (Stands r.account.live (value_at x.own.registers n)) is (good.stood.each n (lt_of_not-le near))) in
              record { address = b.0; place = b.1; lives = b.3; old = old b.0 b.1 b.3; label = b.4 });
          queue = λ l is.
              let m = listed_cases {A = Pending} pending_label (domain_at state d).queue l is in
              let b = paired_back (StandsWaiting r.account.live) x.own.finalisers.queue.items (domain_at state d).queue m.0 m.1 good.stood.enrolled.queue m.2 in
              let w = waiting_block r.account.live b.0 m.1 l b.2 m.3 in
              record { address = w.0; place = w.1; lives = w.3; old = old w.0 w.1 w.3; label = w.4 };
        }

    -- a cycle goes on beside the pause
    underway_in : (kd : Kind) → x.seen.stage ≡ In kd → c.kind ≡ kd → IsTrue c.armed → Underway k state r.account.live c.kind c.past c.paint.marks c.shares → Underway k state r.account.live c.kind c.past c.paint.marks (after kd).shares
    underway_in kd here is goes u = record {
      covered = u.covered;
      young = u.young;
      pooled = u.pooled;
      settled = λ e q ran. ⊎_elim
          (λ z. ap (λ (n : ℕ). c.past.owed n q) z.0 ∙ (good.sharing.running.owes goes q ∙ ap (λ (w : Option ℕ). is_weak w q) paid_reads))
          (λ z. u.settled e q (λ run. let g = ran run in (g.0, sym z.1 ∙ g.1)))
          (at_cases c.shares.arrived d true e);
      rooted = λ reset e below gone. ⊎_elim
          (λ z. subst (HoldsPooled k r.account.live state) (sym z.0) (own_pooled (here ∙ ap In (sym is ∙ reset))))
          (λ z. u.rooted reset e below (sym z.1 ∙ gone))
          (at_cases c.shares.arrived d true e);
    }

    between_in : (kd : Kind) → x.seen.stage ≡ In kd → c.kind ≡ kd → IsBetween k state r.account.live c → IsBetween k state r.account.live (after kd)
    between_in kd here is b = record { mode = b.mode; unmarked = b.unmarked; beside = λ goes. underway_in kd here is goes (b.beside goes); unchanged = b.unchanged; unrotated = b.unrotated }

    plain_in : IsPlain c → (kd : Kind) → IsPlain (after kd)
    plain_in f kd = record { unchanged = f.unchanged; unrotated = f.unrotated }

    facts_in : (kd : Kind) → x.seen.stage ≡ In kd → c.kind ≡ kd → Facts kd k state r.account.live t c s.words → Facts kd k state r.account.live t (after kd) s.words
    facts_in Run here is f = between_in Run here is f
    facts_in Promote here is f = between_in Promote here is f
    facts_in Reset here is f = between_in Reset here is f
    facts_in Roots here is f = (darkening_steps.roots_arrives k.domains state cyc f.0 d (roots_done (subst IsRooting (sym is) tt) waits here), plain_in f.1 Roots)
    facts_in Mark here is f = (darkening_steps.mark_arrives c.pass k.domains state cyc f.0 d (done_arrives (done.followed here) (done.walked here)), f.1)
    facts_in Rounds here is f = (darkening_steps.rounds_arrives c.pass k.domains state seeing (sees_rounds here f.0) d (record { paid = paid (done.told (inl here)); all = own_seen }), f.1)
    facts_in Decide here is f = (taking_steps.decide_arrives k.domains state cyc f.0 d (all_decided is here), plain_in f.1 Decide)
    facts_in Queued here is f = (darkening_steps.queued_arrives k.domains state cyc f.0 d (paid (done.told (inr here))) (queue_done (subst IsRooting (sym is) tt) waits (inr here)), f.1)
    facts_in Clean here is f = (taking_steps.clean_arrives k.domains state seeing (sees_clean here f.0) d own_seen, plain_in f.1 Clean)
    facts_in Lasts here is f = record {
      facts = taking_steps.lasts_arrives k.domains state (swept_of k r.account.live t.holder c) f.facts d (all_settled is here);
      unchanged = f.unchanged;
      stays = f.stays;
      turned = λ yes_is. let z = f.turned yes_is in record {
        all_marked = z.all_marked;
        unmarked = z.unmarked;
        gone = λ e below. ⊎_elim (λ h. h.1) (λ h. h.1 ∙ z.gone e below) (at_cases c.shares.arrived d true e);
      };
    }
    facts_in Sweep here is f = record {
      since = ⊎_elim (λ g. inl (g.0, ends_in Sweep g.1, g.2)) (λ g. inr g) f.since;
      swept = swept_in Sweep f.swept;
      clear = λ e a gone own. ⊎_elim
          (λ z. own_clear here a (subst (OwnPlace t.holder a) z.0 own))
          (λ z. f.clear e a (sym z.1 ∙ gone) own)
          (at_cases c.shares.arrived d true e);
      all_counted = λ e gone. ⊎_elim
          (λ z. subst (λ (n : ℕ). IsTrue (c.counts.words n)) (sym z.0) (good.sharing.adds.words is waits ∙ (done.added here).1))
          (λ z. f.all_counted e (sym z.1 ∙ gone))
          (at_cases c.shares.arrived d true e);
    }
    facts_in Answer here is f = record {
      mode = f.mode;
      whole = f.whole;
      ends = ends_in Answer f.ends;
      swept = swept_in Answer f.swept;
      clean = f.clean;
      all_counted = f.all_counted;
      held = λ q e class gone owns. ⊎_elim
          (λ z. has_block q class (owns ∙ ap (λ (n : ℕ). owned n class) z.0) (let p : ℕ = x.own.swept.top in let w : ℕ = x.seen.share.held in let far : p ≤ w = done.held (inr here) in let low : q < p = good.sweeps.below q class (owns ∙ ap (λ (n : ℕ). owned n class) z.0) in let h : q < w = omega arith in h))
          (λ z. f.held q e class (sym z.1 ∙ gone) owns)
          (at_cases c.shares.arrived d true e);
    }

  pub facts_gone : (st : Stage) → x.seen.stage ≡ st → ArrivesFrom d st → Facts c.kind k state r.account.live t (arrived_cycle st t.holder c d) s.words
  facts_gone (In kd) here from =
      let is : c.kind ≡ kd = kind_acts k r.account.pause c.kind c.shares d x.own.arrivals kd (subst (AtStage r.account.pause d x.own.arrivals) here good.staged.stage) r.whole.cycle.told in
      subst (λ (kind : Kind). Facts kind k state r.account.live t (arrived_cycle (In kd) t.holder c d) s.words) (sym is)
      (facts_in (waits_in k s r id hist x at kd here) kd here is (subst (λ (kind : Kind). Facts kind k state r.account.live t c s.words) is r.whole.cycle.facts))
  facts_gone (Leads kd) here from = r.whole.cycle.facts
  facts_gone (Led kd) here from = r.whole.cycle.facts
  facts_gone (Gone kd) here from = absurd from
