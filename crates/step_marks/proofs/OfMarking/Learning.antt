-- A step of a collection changes what its domain knows of the phase, and perhaps what is marked, what was changed and how far all are.
use Rattle.std.proofs.Common.{◌≡◌, ◌≢◌, ℕ, ◌+◌, ◌<◌, ◌⊎◌, ◌==◌, Bool, false, true, true≢false, cond, IsTrue, eq-eqb, ne_eqb, List, get_or, set, Option, Some, None, sym, refl, ap, ◌∙◌, subst, inl, inr, ⊎_elim, arith, []}
use Rattle.std.specs.List.{list_any}
use mathlib.Core.Option.{some}
use lib.ListN.{get_elem?}
use Rattle.atomic_table.specs.Table.{keeps}
use Rattle.model_core.specs.declared.entry.Entry.{Entry}
use Rattle.model_core.specs.declared.label.Label.{Label}
use Rattle.model_core.specs.declared.state.State as model
use Rattle.model_cycle.specs.Marks.{Marks}
use Rattle.model_cycle.specs.Shares.{OnePlaceEach, Shares, at_domain}
use Rattle.heap_words.specs.declared.value.Value.TheVariants.{Ref}
use Rattle.model_cycle.specs.Ending.{IsGrowing}
use Rattle.heap_words.specs.declared.colours.Colours.{Colours}
use Rattle.heap_rule.specs.declared.config.Config.{Config}
use Rattle.heap_rule.specs.declared.phase.Kind.{Kind}
use Rattle.heap_rule.specs.declared.phase.Kind.TheVariants.{Answer, Run, Promote, Clean}
use Rattle.heap_rule.specs.declared.phase.Stage.{Stage}
use Rattle.heap_rule.specs.declared.phase.Stage.TheVariants.{In, Leads, Led, Gone}
use Rattle.heap_rule.specs.declared.view.DomainView.{DomainView}
use Rattle.heap_rule.specs.declared.view.FoundHead.{FoundHead}
use Rattle.heap_rule.specs.declared.view.Reaping.{Reaping}
use Rattle.heap_rule.specs.declared.view.Scan.{Scan}
use Rattle.heap_rule.specs.declared.view.Share.{Share}
use Rattle.heap_rule.specs.declared.view.Spot.{Spot}
use Rattle.heap_rule.specs.declared.view.OwnPool.{OwnPool}
use Rattle.heap_rule.specs.Beside.{RunsBeside}
use Rattle.heap_rule.specs.Changes.{value_at}
use Rattle.heap_rule.specs.Layout.{at_address, before_heap, armed, colours, changed_word, live_blocks, live_words}
use Rattle.heap_rule.specs.Phases.{AtStage, IsEven, Pause, Staged, flag}
use Rattle.heap_rule.specs.Places.{IsBare, IsOldAt, Live, Place}
use Rattle.heap_rule.specs.Copies.{Promoting}
use Rattle.heap_rule.specs.Pools.{IsBefore, IsLeading, blocks_of, owned, place_in, Resting, OwnPlace}
use Rattle.heap_rule.specs.declared.view.Held.TheVariants.{Queue}
use Rattle.heap_rule.specs.Deciding.{IsRooting}
use Rattle.heap_rule.specs.Finalisers.{held_at}
use Rattle.heap_rule.specs.Cycles.{MayLook, Cycled, Cycling, Facts, HasNoCycle, IsCollecting, IsIdle, IsMarkedAt, Knowing, Leading, OwesAs, Scans, Told, layout_of, seen_by, Scanned, MissesKeys, KeysAt, IsMarking, IsNamed, pool_labels}
use Rattle.heap_rule.specs.Raw.{MayStep}
use Rattle.heap_rule.specs.Rule.{Account, Good, Rule, Sharing, state_of}
use Rattle.heap_rule.specs.Sweeping.{SweepsIn}
use Rattle.heap_rule.specs.Views.{one}
use Rattle.heap_rule.proofs.Controls.{Move, Untouched, counts_untouched, covered_untouched, heap_untouched, hunter_untouched, low_untouched, moved_to, no_move, reserved_untouched, resting_untouched, turns, untouched_same}
use Rattle.heap_rule.proofs.Holders.{stock_self}
use Rattle.heap_rule.proofs.Lots.{head_full, none_before, place_cases}
use Rattle.heap_rule.proofs.Keeps.{Words, unmoved, hunter_as, my_good, owes_as, phases_words, room_words}
use Rattle.heap_rule.proofs.PauseFacts.{kind_differs, not_both, agree}
use Rattle.heap_rule.proofs.Sharings.{kind_now, leading_loads}
use Rattle.heap_rule.proofs.FinaliserLemmas.{deciding_marks}
use Rattle.step_marks.specs.Marking.Looks.{with_share}
use Rattle.step_marks.proofs.OfMarking.Layouts.{labelled}
use Rattle.step_marks.proofs.OfMarking.Pausing.{paused_on}
use Rattle.model_cycle.proofs.Tracing.{More}
use Rattle.model_core.specs.Graph.{Graph}
use Rattle.heap_words.specs.declared.value.Value.{Value}
use Rattle.heap_rule.specs.declared.view.Scan.TheVariants.{Idle, Reads, Holds, Keys, Key, Datum}
use Rattle.heap_rule.specs.declared.view.Hunt.TheVariants.{Rests}
use Rattle.heap_rule.proofs.Stages.{waits_in}
use Rattle.heap_rule.specs.declared.view.Cleaning.{Cleaning}
use Rattle.heap_rule.specs.Ephemerons.{ephemeron_of, Looks, emptied_at, Cleans}

pub at_same : {A : Type 0} (f : ℕ → A) (d : ℕ) (v : A) → at_domain f d v d ≡ v
at_same f d v = ap (λ (b : Bool). cond b v (f d)) (eq-eqb d d refl)

pub at_other : {A : Type 0} (f : ℕ → A) (d : ℕ) (v : A) (z : ℕ) → z ≢ d → at_domain f d v z ≡ f z
at_other f d v z other = ap (λ (b : Bool). cond b v (f z)) (ne_eqb z d other)

-- nobody leads in an even phase
pub leads_odd : (p : Pause) (d arrivals : ℕ) (stage : Stage) → IsEven p.phase → AtStage p d arrivals stage → IsLeading stage → ⊥
leads_odd p d arrivals (In kind) even f l = l
leads_odd p d arrivals (Leads kind) even f l = not_both p.phase even (f.1.0, f.1.1)
leads_odd p d arrivals (Led kind) even f l = not_both p.phase even (f.1.0, f.1.1)
leads_odd p d arrivals (Gone kind) even f l = l

-- who collects is in a phase of this kind
record Collects (x : DomainView) : Type 0 where
  kind : Kind
  stage : x.seen.stage ≡ In kind
  under_way : HasNoCycle kind → ⊥

collects : (x : DomainView) → IsCollecting x.seen.stage → Collects x
collects x is = go x.seen.stage refl is
  where
    go : (stage : Stage) → x.seen.stage ≡ stage → IsCollecting stage → Collects x
    go (In kind) e c = record { kind = kind; stage = e; under_way = c }
    go (Leads kind) e c = absurd c
    go (Led kind) e c = absurd c
    go (Gone kind) e c = absurd c

-- what a domain knows of blocks in a phase, but for what it has counted
pub record Held : Type 0 where
  pub owes : Bool
  pub account : List ℕ
  pub places_seen : List ℕ
  pub found_head : Option FoundHead
  pub scan : Scan
  pub walk : Spot
  pub own_pool : Option OwnPool
  pub roots : List ℕ
  pub marked : List ℕ
  pub darkenings : ℕ
  pub cleaning : Option Cleaning

abbrev pub held : Share → Held
held share = record { owes = share.owes; account = share.account; places_seen = share.places_seen; found_head = share.found_head; scan = share.scan; walk = share.walk; own_pool = share.own_pool; roots = share.roots; marked = share.marked; darkenings = share.darkenings; cleaning = share.cleaning }

abbrev pub holding : Share → Held → Share
holding share h = record share { owes = h.owes; account = h.account; places_seen = h.places_seen; found_head = h.found_head; scan = h.scan; walk = h.walk; own_pool = h.own_pool; roots = h.roots; marked = h.marked; darkenings = h.darkenings; cleaning = h.cleaning }

-- what it has still to do for the blocks that it has darkened
abbrev pub owed_in : Held → Bool × List ℕ
owed_in h = (h.owes, h.account)

-- its view tells so where nothing of it has changed
pub owes_same : (due : Bool) (followed : ℕ → Bool) (g h : Held) → owed_in g ≡ owed_in h → OwesAs due followed g.owes g.account → OwesAs due followed h.owes h.account
owes_same due followed g h same = subst (λ (z : Bool × List ℕ). OwesAs due followed z.0 z.1) same

-- scans go on where more is marked
scanned_more : (live : Live) (graph : Graph) (m m' : Marks) → More m.marked m'.marked → (block done size head : ℕ) → Scanned live graph m block done size head → Scanned live graph m' block done size head
scanned_more live graph m m' more block done size head f = record { place = f.place; lives = f.lives; marked = more f.place.label f.marked; tag = f.tag; fields = f.fields; node = f.node; head_is = f.head_is; size_is = f.size_is; through = λ p x low there. more x (f.through p x low there) }

keys_more : (live : Live) (graph : Graph) (m m' : Marks) → More m.marked m'.marked → (block done count : ℕ) → KeysAt live graph m block done count → KeysAt live graph m' block done count
keys_more live graph m m' more block done count f = record { place = f.place; lives = f.lives; marked = more f.place.label f.marked; keys = f.keys; datum = f.datum; node = f.node; count_is = f.count_is; through = λ p x low there. more x (f.through p x low there) }

scans_more : (live : Live) (graph : Graph) (m m' : Marks) → More m.marked m'.marked → (scan : Scan) → Scans live graph m scan → Scans live graph m' scan
unfolding scanned_more keys_more
scans_more live graph m m' more Idle f = tt
scans_more live graph m m' more (Reads block done size head) f = scanned_more live graph m m' more block done size head f
scans_more live graph m m' more (Holds block done size head address) f = record { reads = scanned_more live graph m m' more block done size head f.reads; target = f.target; there = f.there; holds = f.holds }
scans_more live graph m m' more (Keys block done count) f = keys_more live graph m m' more block done count f
scans_more live graph m m' more (Key block done count address) f = record { reads = keys_more live graph m m' more block done count f.reads; target = f.target; there = f.there; holds = f.holds }
scans_more live graph m m' more (Datum block address) f = record {
  place = f.place;
  lives = f.lives;
  marked = more f.place.label f.marked;
  keys = f.keys;
  datum = f.datum;
  node = f.node;
  through = λ p x low there. more x (f.through p x low there);
  target = f.target;
  there = f.there;
  holds = f.holds;
}

-- an ephemeron is cleaned on where the marks stay
cleans_same : (live : Live) (graph : Graph) (m m' : Marks) (stage : Stage) (items : List ℕ) (w : Cleaning) → m' ≡ m → Cleans live graph m stage items w → Cleans live graph m' stage items w
cleans_same live graph m m' stage items w same f = subst (λ (z : Marks). Cleans live graph z stage items w) (sym same) f

module _ (k : Config) (s : Words) (r : Rule k s) (id : ℕ) (hist : List Entry) (x : DomainView) (at : get_elem? s.views id ≡ some (one k hist x)) where
  open r.account use {live, tenancy.{holder}, cycling as c, cycling.{paint.{marks as m}}}
  open x use {own.{number as d}, seen.{share as sh}}

  abbrev now : model.State
  now = state_of k r.account.log

  -- What such a step owes that changes no block
  pub record Shifts (share' : Share) (w' : Shares) (words' : List ℕ) : Type 0 where
    pub untouched : Untouched s.words words'
    pub want_same : get_or words' 0 0 ≡ get_or s.words 0 0
    pub barrier_same : get_or words' 1 0 ≡ get_or s.words 1 0
    pub plan_same : get_or words' 2 0 ≡ get_or s.words 2 0
    pub ended_same : get_or words' 8 0 ≡ get_or s.words 8 0
    pub cycle : Cycled k now live r.account.pause r.account.tenancy (record c { shares = w' }) words'
    pub sharing : Sharing k (record r.account { cycling = record c { shares = w' } }) words' d x.own.registers x.own.finalisers x.own.ephemerons.items x.seen.stage share'
    pub sweeps : SweepsIn r.account.tenancy (record c { shares = w' }) (with_share x share')
    pub others_sweep : (z : DomainView) → z.own.number ≢ d → Good k r.account s.words z → SweepsIn r.account.tenancy (record c { shares = w' }) z
    pub sharings : (z : DomainView) → z.own.number ≢ d → Good k r.account s.words z
        → Sharing k (record r.account { cycling = record c { shares = w' } }) words' z.own.number z.own.registers z.own.finalisers z.own.ephemerons.items z.seen.stage z.seen.share

  pub shifts : (share' : Share) (w' : Shares) (words' : List ℕ) → Shifts share' w' words' → Rule k record { words = words'; homes = s.homes; views = set s.views id (one k hist (with_share x share')) }
  shifts share' w' words' o =
      let g = my_good k s r id hist x at in
      let m : Move = record (no_move x) { share = share' } in
      let y : DomainView = moved_to x m in
      let t = r.account.tenancy in
      let counts = counts_untouched s.words words' o.untouched in turns k s r id hist x at m r.account.pause t.stock (record c { shares = w' }) r.account.homes words' record {
        full = r.whole.full;
        paint = refl;
        cycle = o.cycle;
        sharing = o.sharing;
        sharings = λ z _ other h. o.sharings z other h;
        owes = owes_as k live x y refl refl refl refl g.owes;
        settled = r.whole.settled;
        cleared = r.whole.cleared;
        emptied = r.whole.emptied;
        rooted = g.rooted;
        roots = λ z _ _ _ ro. ro;
        untouched = o.untouched;
        front = inl refl;
        phases = phases_words k r.account.pause s.words words' o.barrier_same o.plan_same r.whole.phases;
        endings = o.ended_same;
        staged = record { arrivals = g.staged.arrivals; stage = g.staged.stage };
        still = g.still;
        free = λ f e. e;
        resting = let rest = resting_untouched k s.words words' x o.untouched g.resting in record { hunt = rest.hunt; free = rest.free; spare = rest.spare; lists = rest.lists };
        reserved = reserved_untouched k r.account.pause t s.words words' o.untouched r.whole.pools r.whole.reserved;
        covered = covered_untouched k r.account.pause t s.words words' o.untouched r.whole.pools r.whole.covered;
        drawers = r.whole.drawers;
        room = room_words k live r.account.pause t.stock s.words words' (λ _. counts) r.whole.room;
        unused = r.whole.unused;
        drawable = record {
          to_run = λ j odd led runs. low_untouched k s.words words' o.untouched (r.whole.drawable.to_run j odd led runs);
          to_copy = λ j odd led copies. low_untouched k s.words words' o.untouched (r.whole.drawable.to_copy j odd led copies);
        };
        hunter = hunter_as k t words' x y refl refl refl refl refl refl refl (hunter_untouched k t s.words words' x o.untouched g.hunter);
        stocks = λ d _. stock_self t.stock d;
        others = λ z _ _ st. st;
        unwished = λ j odd led runs. o.want_same ∙ r.whole.unwished j odd led runs;
        took_back = λ kind leads last. o.want_same ∙ g.took_back kind leads last;
        others_took_back = λ z _ took kind leads last. o.want_same ∙ took kind leads last;
        set_back = λ h. low_untouched k s.words words' o.untouched (g.set_back h);
        sweeps = o.sweeps;
        others_sweep = λ z _ other h. o.others_sweep z other h;
      }

  -- and one that changes what its domain knows alone
  pub learns : (share' : Share) → Sharing k r.account s.words d x.own.registers x.own.finalisers x.own.ephemerons.items x.seen.stage share' → SweepsIn r.account.tenancy c (with_share x share')
      → Rule k record { words = s.words; homes = s.homes; views = set s.views id (one k hist (with_share x share')) }
  learns share' sharing sweeps = shifts share' c.shares s.words record {
    untouched = untouched_same s.words;
    want_same = refl;
    barrier_same = refl;
    plan_same = refl;
    ended_same = refl;
    cycle = r.whole.cycle;
    sharing = sharing;
    sharings = λ z _ h. h.sharing;
    sweeps = sweeps;
    others_sweep = λ z _ h. h.sweeps;
  }

  -- what a domain learns of control words, and how far it is in a sweep, tells it nothing of blocks
  module _ (colours : Option Colours) (armed : Option Bool) (changed blocks : Option ℕ) (reaping : Reaping) (swept : List Spot) where
    abbrev learnt : Share → Share
    learnt z = record z { colours = colours; armed = armed; changed = changed; blocks = blocks; reaping = reaping; swept = swept }

    pub sharing_learnt : (c.shares.arrived d ≡ true → d ≢ 0 → colours ≡ None) → ((known : Colours) → colours ≡ Some known → known ≡ c.paint.colours) → ((b : Bool) → armed ≡ Some b → MayLook d x.seen.stage × (b ≡ c.armed))
        → ((v : ℕ) → changed ≡ Some v → (d ≡ 0) × IsLeading x.seen.stage × (v ≡ flag c.shares.changed)) → ((v : ℕ) → blocks ≡ Some v → (((d ≡ 0) × IsLeading x.seen.stage) ⊎ (x.seen.stage ≡ In Answer)) × (live_blocks s.words ≡ v))
        → Sharing k r.account s.words d x.own.registers x.own.finalisers x.own.ephemerons.items x.seen.stage (learnt sh)
    sharing_learnt forgotten means armed_is changed_is found = let g = (my_good k s r id hist x at).sharing in let l = g.leading in record {
      telling = record { owes = g.telling.owes; seen = g.telling.seen; fresh = λ up. ap learnt (g.telling.fresh up); forgotten = forgotten; colours = means };
      leading = record { changed = changed_is; found_blocks = found; found_words = l.found_words; rotated = l.rotated; turned = l.turned; pass = l.pass; whole = l.whole; armed = armed_is; unswept = l.unswept; under_way = l.under_way; unmarked = l.unmarked };
      knows = ⊎_elim
          (λ (idle : IsIdle sh). inl (ap learnt idle))
          (λ (n : IsCollecting x.seen.stage × Knowing k live holder now.graph m s.words d x.own.registers sh). let b = n.1 in let y = b.counted in inr (
            n.0,
            record { found_head = b.found_head; scan = b.scan; walked = b.walked; own_pool = b.own_pool; rooted = b.rooted; marked = b.marked; counted = record { once = y.once; own = y.own; lives = y.lives; all = y.all; words = y.words }; held = b.held; vacant = b.vacant },
          ))
          g.knows;
      adds = record { blocks = g.adds.blocks; words = g.adds.words; own = g.adds.own };
      looks = record { at_own = g.looks.at_own; cleans = g.looks.cleans; emptied_is = g.looks.emptied_is };
      running = record { knows = g.running.knows; owes = g.running.owes };
      deciding = g.deciding;
    }

  pub kind_here : (kind : Kind) → x.seen.stage ≡ In kind → c.kind ≡ kind
  kind_here kind is = kind_now k r.account.pause c x kind is (my_good k s r id hist x at).staged r.whole.cycle.told

  -- but where keys are emptied no block misses any
  pub whole_in : (c.kind ≡ Clean → ⊥) → (l : Label) → c.paint.emptied l ≡ []
  whole_in not_clean l = ⊎_elim (λ (h : c.paint.emptied l ≡ []). h) (λ (h : MissesKeys live holder c l). absurd (not_clean h.clean)) (r.whole.cycle.whole l)

  -- how far a domain is with its ephemerons where the marks that a cleaning speaks of stay
  looks_on : (m' : Marks) → (c.kind ≡ Clean → m' ≡ m) → (z : DomainView) → Staged r.account.pause z → Looks live holder now.graph m c.paint.emptied z.own.number z.own.ephemerons.items z.seen.stage z.seen.share
      → Looks live holder now.graph m' c.paint.emptied z.own.number z.own.ephemerons.items z.seen.stage z.seen.share
  looks_on m' still z staged l = record {
    at_own = l.at_own;
    cleans = λ w e. let f = l.cleans w e in cleans_same live now.graph m m' z.seen.stage z.own.ephemerons.items w (still (kind_now k r.account.pause c z Clean f.stage_is staged r.whole.cycle.told)) f;
    emptied_is = l.emptied_is;
  }

  -- what it knows, also where that is nothing
  pub known : Knowing k live holder now.graph m s.words d x.own.registers sh
  known = ⊎_elim idle_known (λ n. n.1) (my_good k s r id hist x at).sharing.knows
    where
      idle_known : IsIdle sh → Knowing k live holder now.graph m s.words d x.own.registers sh
      idle_known q = subst (Knowing k live holder now.graph m s.words d x.own.registers) (sym q) record {
        found_head = λ g p e lives. cc;
        scan = tt;
        walked = λ p c slot is inside low. absurd (none_before p slot low);
        own_pool = λ t e. cc;
        rooted = λ n a p is e lives. cc;
        marked = λ a is. cc;
        counted = record {
          once = λ i j a e f. cc;
          own = λ a is. cc;
          lives = λ a is. cc;
          all = λ q c slot p is inside low lives. absurd (none_before q slot low);
          words = refl;
        };
        held = λ q e is low. absurd (let l : q < 0 = low in omega arith);
        vacant = λ e slot is inside low. absurd (let l : slot < 0 = low in omega arith);
      }

  -- where no head of a block is Free, the words at which no block lives tell of all that are
  pub free_on : (words' : List ℕ) → ((b : ℕ) → live b ≡ None → at_address k words' b ≡ at_address k s.words b) → (b : ℕ) → at_address k s.words b ≡ 0 → at_address k words' b ≡ 0
  free_on words' dead b free = ⊎_elim
      (λ (none : live b ≡ None). dead b none ∙ free)
      (λ (t : (p : Place) × (live b ≡ Some p)). absurd (head_full k c.paint live now.graph s.words b t.0 (r.whole.found b t.0 t.1) free))
      (place_cases (live b))

  -- what a domain knows of blocks it knows where more is marked, where the heads of the others stay, and where free places stay free
  pub knowing_on : (m' : Marks) (words' : List ℕ) → ((b : ℕ) (p : Place) → live b ≡ Some p → (at_address k words' b ≡ at_address k s.words b) ⊎ IsTrue (m'.marked p.label)) → ((b : ℕ) → at_address k s.words b ≡ 0 → at_address k words' b ≡ 0) → More m.marked m'.marked
      → (e : ℕ) (registers : List Value) (share : Share) → Knowing k live holder now.graph m s.words e registers share → Knowing k live holder now.graph m' words' e registers share
  knowing_on m' words' heads free more e registers share n = record {
    found_head = λ g p is lives. ⊎_elim
        (λ (same : at_address k s.words g.address ≡ g.word). ⊎_elim (λ (stays : at_address k words' g.address ≡ at_address k s.words g.address). inl (stays ∙ same)) (λ (is : IsTrue (m'.marked p.label)). inr is) (heads g.address p lives))
        (λ (is : IsTrue (m.marked p.label)). inr (more p.label is))
        (n.found_head g p is lives);
    scan = scans_more live now.graph m m' more share.scan n.scan;
    walked = n.walked;
    own_pool = n.own_pool;
    rooted = λ i b q is f lives. more q.label (n.rooted i b q is f lives);
    marked = λ a is. let t = n.marked a is in (t.0, t.1, more t.0.label t.2);
    counted = n.counted;
    held = n.held;
    vacant = λ class slot own inside low. free (place_in share.held class slot) (n.vacant class slot own inside low);
  }

  module _ (collecting : IsCollecting x.seen.stage) where
    in_kind : Collects x
    in_kind = collects x collecting

    here : AtStage r.account.pause d x.own.arrivals (In in_kind.kind)
    here = subst (AtStage r.account.pause d x.own.arrivals) in_kind.stage (my_good k s r id hist x at).staged.stage

    pub even : IsEven r.account.pause.phase
    even = (here.1.0, here.1.1)

    pub waits : c.shares.arrived d ≡ false
    waits = waits_in k s r id hist x at in_kind.kind in_kind.stage

    -- the phase is even, so the next kind isn't named
    pub unnamed : IsNamed r.account.pause → ⊥
    unnamed named = not_both r.account.pause.phase even (named.0, named.1)

    -- What a step of the marking owes: where the changed word is set, or a domain owes a store of it, a block was marked in this phase
    abbrev pub GrowsBy : Marks → Bool → (ℕ → Bool) → Type 0
    GrowsBy m' changed owes = IsMarking c.kind → IsGrowing (pool_labels k live) c.before m'.marked (record c.shares { changed = changed; owes = owes })

    -- where it changes none of these it owes nothing
    pub grows_still : GrowsBy m c.shares.changed c.shares.owes
    grows_still marking = let g = r.whole.cycle.grows.since marking unnamed in record { stays = g.stays; changed = g.changed; owing = g.owing }

    pub none_runs : c.kind ≡ Run → ⊥
    none_runs e = in_kind.under_way (subst HasNoCycle (sym e ∙ kind_here in_kind.kind in_kind.stage) tt)

    pub not_promoting : Promoting r.account.pause → ⊥
    not_promoting p = let e : Promote ≡ in_kind.kind = kind_differs r.account.pause p.0 here.1.0 r.account.pause.phase Promote in_kind.kind p.1 here.1.1 p.2 here.1.2 in in_kind.under_way (subst HasNoCycle e tt)

    -- each block is as running domains have it, and lies in a pool
    pub bare : (a : ℕ) (p : Place) → live a ≡ Some p → IsBare p
    bare a p lives = ⊎_elim (λ settled. settled a p lives) (λ (t : Promoting r.account.pause). absurd (not_promoting t)) r.whole.settled

    pub lies_old : (a : ℕ) (p : Place) → live a ≡ Some p → IsOldAt k a
    lies_old a p lives =
        let not_kind : (kind : Kind) → HasNoCycle kind → r.account.pause.kinds here.1.0 ≡ kind → ⊥ = (λ kind none e. in_kind.under_way (subst HasNoCycle (sym e ∙ here.1.2) none)) in
        r.whole.emptied (inr (here.1.0, here.1.1, (λ e. not_kind Run tt e, λ e. not_kind Promote tt e))) a p lives

    -- no two places have one label
    pub one_place : OnePlaceEach (layout_of k live holder)
    one_place a b l e f =
        let p = labelled k live a l e in
        let q = labelled k live b l f in
        r.whole.placed.once a b p.place q.place p.lives q.lives (p.label ∙ sym q.label) (bare a p.place p.lives).no_forward (bare b q.place q.lives).no_forward

    -- nobody takes a block of the pools meanwhile
    pub rests_here : (z : DomainView) → Staged r.account.pause z → Resting k s.words z → z.seen.hunt ≡ Rests
    rests_here z staged rest = rest.hunt (λ takes. ⊎_elim (λ (e : z.seen.stage ≡ In Run). beside Run tt e) (λ (e : z.seen.stage ≡ In Promote). beside Promote tt e) takes)
      where
        beside : (kind : Kind) → HasNoCycle kind → z.seen.stage ≡ In kind → ⊥
        beside kind none e = in_kind.under_way (subst HasNoCycle (sym (agree r.account.pause d z.own.number x.own.arrivals z.own.arrivals (In in_kind.kind) (In kind) here (subst (AtStage r.account.pause z.own.number z.own.arrivals) e staged.stage))) none)

    -- how far it is with its ephemerons then
    pub record Looking (m' : Marks) (h : Held) : Type 0 where
      pub at_own : (a : ℕ) → ephemeron_of h.scan ≡ Some a → IsTrue (seen_by x.own.ephemerons.items a)
      pub cleans : (w : Cleaning) → h.cleaning ≡ Some w → Cleans live now.graph m' x.seen.stage x.own.ephemerons.items w
      pub emptied_is : (a : ℕ) (p : Place) → OwnPlace holder a d → live a ≡ Some p → c.paint.emptied p.label ≡ emptied_at h.cleaning a

    -- what it knows of blocks then
    pub record Knows (m' : Marks) (words' : List ℕ) (h : Held) : Type 0 where
      pub found_head : (g : FoundHead) (p : Place) → h.found_head ≡ Some g → live g.address ≡ Some p → (at_address k words' g.address ≡ g.word) ⊎ IsTrue (m'.marked p.label)
      pub scan : Scans live now.graph m' h.scan
      pub walked : (q e slot : ℕ) → holder q ≡ owned d e → slot < blocks_of e → IsBefore q slot h.walk → IsTrue (seen_by h.places_seen (place_in q e slot))
      pub own_pool : (t : OwnPool) → h.own_pool ≡ Some t → holder t.pool ≡ owned d t.class
      pub rooted : (n a : ℕ) (p : Place) → IsTrue (list_any (λ q. q == n) h.roots) → value_at x.own.registers n ≡ Ref a → live a ≡ Some p → IsTrue (m'.marked p.label)
      pub marked : (a : ℕ) → IsTrue (seen_by h.marked a) → IsMarkedAt live m'.marked a
      pub looking : Looking m' h

    -- where it scans on, and cleans what it cleaned
    pub looks_still : (m' : Marks) (h : Held) → (c.kind ≡ Clean → m' ≡ m) → h.cleaning ≡ sh.cleaning → ((a : ℕ) → ephemeron_of h.scan ≡ Some a → IsTrue (seen_by x.own.ephemerons.items a)) → Looking m' h
    looks_still m' h still same at_own = let g = my_good k s r id hist x at in let l = looks_on m' still x g.staged g.sharing.looks in record {
      at_own = at_own;
      cleans = λ w e. l.cleans w (sym same ∙ e);
      emptied_is = λ a p own lives. l.emptied_is a p own lives ∙ sym (ap (λ (o : Option Cleaning). emptied_at o a) same);
    }

    pub looks_same : (h : Held) → h.scan ≡ sh.scan → h.cleaning ≡ sh.cleaning → Looking m h
    looks_same h scan same = looks_still m h (λ _. refl) same (λ a e. (my_good k s r id hist x at).sharing.looks.at_own a (ap ephemeron_of (sym scan) ∙ e))

    -- the blocks at these places of its queue are marked, where roots are marked
    abbrev pub QueueMarked : Marks → List ℕ → Type 0
    QueueMarked m' waiting = IsRooting c.kind → (i a : ℕ) (p : Place) → IsTrue (seen_by waiting i) → held_at x.own.finalisers (Queue i) ≡ Some a → live a ≡ Some p → IsTrue (m'.marked p.label)

    -- those at which it has been are so where more is marked
    pub queue_still : (m' : Marks) → More m.marked m'.marked → QueueMarked m' sh.waiting
    queue_still m' more rooting i a p is held lives = more p.label ((my_good k s r id hist x at).sharing.deciding.rooted rooting waits i a p is held lives)

    -- What it owes of a collection, whatever it writes: what is marked, the changed word, who owes and what was seen may change, and what the domain knows
    pub record Learns (m' : Marks) (changed : Bool) (owes : ℕ → Bool) (follows seen : ℕ → ℕ → Bool) (h : Held) (waiting : List ℕ) (words' : List ℕ) : Type 0 where
      pub armed_same : armed words' ≡ armed s.words
      pub colours_same : colours words' ≡ colours s.words
      pub blocks_same : live_blocks words' ≡ live_blocks s.words
      pub words_same : live_words words' ≡ live_words s.words
      pub changed_is : changed_word words' ≡ flag changed
      pub facts : Facts c.kind k now live r.account.tenancy (record c { paint = record c.paint { marks = m' }; shares = record c.shares { changed = changed; owes = owes; follows = follows; seen = seen } }) words'
      pub dead : (b : ℕ) → live b ≡ None → at_address k words' b ≡ at_address k s.words b
      pub heads : (b : ℕ) (p : Place) → live b ≡ Some p → (at_address k words' b ≡ at_address k s.words b) ⊎ IsTrue (m'.marked p.label)
      pub more : (l : Label) → IsTrue (m.marked l) → IsTrue (m'.marked l)
      pub still : c.kind ≡ Clean → m' ≡ m
      pub others : (z : ℕ) → z ≢ d → (owes z ≡ c.shares.owes z) × (follows z ≡ c.shares.follows z) × (seen z ≡ c.shares.seen z)
      pub owes_is : OwesAs (owes d) (follows d) h.owes h.account
      pub seen_is : seen d ≡ seen_by h.places_seen
      pub knows : Knows m' words' h
      pub queued : QueueMarked m' waiting
      pub grows : GrowsBy m' changed owes

    module _ (m' : Marks) (changed : Bool) (owes : ℕ → Bool) (follows seen : ℕ → ℕ → Bool) (h : Held) (waiting : List ℕ) (words' : List ℕ) (o : Learns m' changed owes follows seen h waiting words') where
      abbrev c' : Cycling
      c' = record c { paint = record c.paint { marks = m' }; shares = record c.shares { changed = changed; owes = owes; follows = follows; seen = seen } }

      abbrev all' : Account
      all' = record r.account { cycling = c' }

      told' : Told k r.account.pause c.kind c'.shares
      told' = record {
        even = λ j e. let u = r.whole.cycle.told.even j e in (u.0, λ n below. let v = u.1 n below in record { waits = v.waits; gone = v.gone });
        odd = λ j e f. absurd (not_both r.account.pause.phase even (j, e));
        led = λ j e f. absurd (not_both r.account.pause.phase even (j, e));
      }

      pub cycle' : Cycled k now live r.account.pause r.account.tenancy c' words'
      cycle' = let y = r.whole.cycle in record {
        armed_is = o.armed_same ∙ y.armed_is;
        meanings = y.meanings;
        colours_are = o.colours_same ∙ y.colours_are;
        changed_is = o.changed_is;
        facts = o.facts;
        told = told';
        leaves = record {
          none = y.leaves.none;
          dead = y.leaves.dead;
          head = λ a is. let g = y.leaves.head a is in (g.0, g.1, o.dead a (y.leaves.dead a is) ∙ g.2);
          unprepared = y.leaves.unprepared;
          owned = y.leaves.owned;
        };
        unswept = y.unswept;
        whole = λ l. ⊎_elim
            (λ (e : c.paint.emptied l ≡ []). inl e)
            (λ (h : MissesKeys live holder c l). inr record { clean = h.clean; domain = h.domain; waits = h.waits; address = h.address; own = h.own; place = h.place; lives = h.lives; label = h.label })
            (y.whole l);
        grows = record {
          few = y.grows.few;
          since = λ marking _. let g = o.grows marking in record { stays = g.stays; changed = g.changed; owing = g.owing };
          named = λ _ named. absurd (unnamed named);
          cleared = λ _ named _. absurd (unnamed named);
        };
      }

      leading' : (z : DomainView) (share : Share) → Staged r.account.pause z → Leading c s.words z.own.number z.seen.stage share → Leading c' words' z.own.number z.seen.stage share
      leading' z share staged l = leading_loads c c' s.words words' z.own.number z.seen.stage share share refl refl record {
        changed = λ v e. absurd (leads_odd r.account.pause z.own.number z.own.arrivals z.seen.stage even staged.stage (l.changed v e).1);
        found_blocks = λ v e. let f = l.found_blocks v e in (f.0, o.blocks_same ∙ f.1);
        found_words = λ v e. let f = l.found_words v e in (f.0, o.words_same ∙ f.1);
      } l

      -- nobody runs
      running' : (z : DomainView) → Good k r.account s.words z → RunsBeside k live holder c.armed c.past m'.marked words' z.own.number z.seen.stage z.seen.share
      running' z g = paused_on k r.account.pause c r.whole.cycle.told none_runs live live holder holder m.marked m'.marked s.words words' z g.staged g.sharing.running

      pub sharing' : Sharing k all' words' d x.own.registers x.own.finalisers x.own.ephemerons.items x.seen.stage (holding (record sh { waiting = waiting }) h)
      sharing' =
          let g = my_good k s r id hist x at in
          let l = leading' x sh g.staged g.sharing.leading in
          let y = known.counted in record {
            telling = record {
              owes = λ _. o.owes_is;
              seen = λ _. o.seen_is;
              fresh = λ up. absurd (true≢false (sym up ∙ waits));
              forgotten = λ up. absurd (true≢false (sym up ∙ waits));
              colours = g.sharing.telling.colours;
            };
            leading = record { changed = l.changed; found_blocks = l.found_blocks; found_words = l.found_words; rotated = l.rotated; turned = l.turned; pass = l.pass; whole = l.whole; armed = l.armed; unswept = l.unswept; under_way = l.under_way; unmarked = l.unmarked };
            knows = inr (
              collecting,
              record {
                found_head = o.knows.found_head;
                scan = o.knows.scan;
                walked = o.knows.walked;
                own_pool = o.knows.own_pool;
                rooted = o.knows.rooted;
                marked = o.knows.marked;
                counted = record { once = y.once; own = y.own; lives = y.lives; all = y.all; words = y.words };
                held = known.held;
                vacant = λ class slot own inside low. free_on words' o.dead (place_in sh.held class slot) (known.vacant class slot own inside low);
              },
            );
            adds = record { blocks = g.sharing.adds.blocks; words = g.sharing.adds.words; own = g.sharing.adds.own };
            looks = record { at_own = o.knows.looking.at_own; cleans = o.knows.looking.cleans; emptied_is = o.knows.looking.emptied_is };
            running = let u = running' x g in record { knows = u.knows; owes = u.owes };
            deciding = record { finals = g.sharing.deciding.finals; lasts = g.sharing.deciding.lasts; rooted = λ rooting _. o.queued rooting };
          }

      pub sharings' : (z : DomainView) → z.own.number ≢ d → Good k r.account s.words z → Sharing k all' words' z.own.number z.own.registers z.own.finalisers z.own.ephemerons.items z.seen.stage z.seen.share
      sharings' z other g = let t = g.sharing.telling in record {
        telling = record {
          owes = λ up. let n = o.others z.own.number other in subst (λ (u : Bool × (ℕ → Bool)). OwesAs u.0 u.1 z.seen.share.owes z.seen.share.account) (λ i. (sym n.0 i, sym n.1 i)) (t.owes up);
          seen = λ up. (o.others z.own.number other).2 ∙ t.seen up;
          fresh = t.fresh;
          forgotten = t.forgotten;
          colours = t.colours;
        };
        leading = leading' z z.seen.share g.staged g.sharing.leading;
        knows = ⊎_elim
            (λ (q : IsIdle z.seen.share). inl q)
            (λ (n : IsCollecting z.seen.stage × Knowing k live holder now.graph m s.words z.own.number z.own.registers z.seen.share). inr (n.0, knowing_on m' words' o.heads (free_on words' o.dead) o.more z.own.number z.own.registers z.seen.share n.1))
            g.sharing.knows;
        adds = record { blocks = g.sharing.adds.blocks; words = g.sharing.adds.words; own = g.sharing.adds.own };
        looks = looks_on m' o.still z g.staged g.sharing.looks;
        running = running' z g;
        deciding = deciding_marks live c.kind c.left c.shares.arrived m.marked m'.marked z.own.number z.own.finalisers z.seen.share.kept z.seen.share.waiting o.more g.sharing.deciding;
      }

    -- a step that leaves the words, what is marked and how far all are
    pub knows_more : (h : Held) → owed_in (held sh) ≡ owed_in h → seen_by sh.places_seen ≡ seen_by h.places_seen → Knows m s.words h → Rule k record { words = s.words; homes = s.homes; views = set s.views id (one k hist (with_share x (holding sh h))) }
    knows_more h owes places_seen n = let g = my_good k s r id hist x at in let t = g.sharing.telling in learns (holding sh h) (sharing' m c.shares.changed c.shares.owes c.shares.follows c.shares.seen h sh.waiting s.words record {
      armed_same = refl;
      colours_same = refl;
      blocks_same = refl;
      words_same = refl;
      changed_is = r.whole.cycle.changed_is;
      facts = r.whole.cycle.facts;
      dead = λ b none. refl;
      heads = λ b p lives. inl refl;
      more = λ l is. is;
      still = λ _. refl;
      others = λ z other. (refl, refl, refl);
      owes_is = owes_same (c.shares.owes d) (c.shares.follows d) (held sh) h owes (t.owes waits);
      seen_is = t.seen waits ∙ places_seen;
      knows = n;
      queued = queue_still m (λ l is. is);
      grows = grows_still;
    }) g.sweeps

    -- and one that leaves the heap's words and what is marked
    pub shifts_queue : (waiting : List ℕ) → QueueMarked m waiting → (changed : Bool) (owes : ℕ → Bool) (follows seen : ℕ → ℕ → Bool) (h : Held) (words' : List ℕ) → Untouched s.words words' → get_or words' 0 0 ≡ get_or s.words 0 0 → get_or words' 1 0 ≡ get_or s.words 1 0 → get_or words' 2 0 ≡ get_or s.words 2 0
        → changed_word words' ≡ flag changed → Facts c.kind k now live r.account.tenancy (record c { shares = record c.shares { changed = changed; owes = owes; follows = follows; seen = seen } }) words' → GrowsBy m changed owes
        → ((z : ℕ) → z ≢ d → (owes z ≡ c.shares.owes z) × (follows z ≡ c.shares.follows z) × (seen z ≡ c.shares.seen z)) → OwesAs (owes d) (follows d) h.owes h.account → seen d ≡ seen_by h.places_seen → Knows m words' h
        → get_or words' 8 0 ≡ get_or s.words 8 0 → Rule k record { words = words'; homes = s.homes; views = set s.views id (one k hist (with_share x (holding (record sh { waiting = waiting }) h))) }
    shifts_queue waiting queued changed owes follows seen h words' u want_same barrier_same plan_same changed_is facts grows others owes_is seen_is knows ended_same =
        let o : Learns m changed owes follows seen h waiting words' = record {
          armed_same = u.1 4 (omega arith) (λ e. omega arith);
          colours_same = u.1 5 (omega arith) (λ e. omega arith);
          blocks_same = u.1 9 (omega arith) (λ e. omega arith);
          words_same = u.1 10 (omega arith) (λ e. omega arith);
          changed_is = changed_is;
          facts = facts;
          dead = λ b none. heap_untouched k s.words words' u b;
          heads = λ b p lives. inl (heap_untouched k s.words words' u b);
          more = λ l is. is;
          still = λ _. refl;
          others = others;
          owes_is = owes_is;
          seen_is = seen_is;
          knows = knows;
          queued = queued;
          grows = grows;
        } in shifts (holding (record sh { waiting = waiting }) h) (record c.shares { changed = changed; owes = owes; follows = follows; seen = seen }) words' record {
          untouched = u;
          want_same = want_same;
          barrier_same = barrier_same;
          plan_same = plan_same;
          ended_same = ended_same;
          cycle = cycle' m changed owes follows seen h waiting words' o;
          sharing = sharing' m changed owes follows seen h waiting words' o;
          sharings = sharings' m changed owes follows seen h waiting words' o;
          sweeps = (my_good k s r id hist x at).sweeps;
          others_sweep = λ z _ h. h.sweeps;
        }

    -- also where it goes to no place of its queue
    pub shifts_more : (changed : Bool) (owes : ℕ → Bool) (follows seen : ℕ → ℕ → Bool) (h : Held) (words' : List ℕ) → Untouched s.words words' → get_or words' 0 0 ≡ get_or s.words 0 0 → get_or words' 1 0 ≡ get_or s.words 1 0 → get_or words' 2 0 ≡ get_or s.words 2 0
        → changed_word words' ≡ flag changed → Facts c.kind k now live r.account.tenancy (record c { shares = record c.shares { changed = changed; owes = owes; follows = follows; seen = seen } }) words' → GrowsBy m changed owes
        → ((z : ℕ) → z ≢ d → (owes z ≡ c.shares.owes z) × (follows z ≡ c.shares.follows z) × (seen z ≡ c.shares.seen z)) → OwesAs (owes d) (follows d) h.owes h.account → seen d ≡ seen_by h.places_seen → Knows m words' h
        → get_or words' 8 0 ≡ get_or s.words 8 0 → Rule k record { words = words'; homes = s.homes; views = set s.views id (one k hist (with_share x (holding sh h))) }
    shifts_more = shifts_queue sh.waiting (queue_still m (λ l is. is))

-- a load that tells what is found at an address of the heap may be made
pub load_may : (k : Config) (x : DomainView) (word a : ℕ) (tells : DomainView → ℕ → DomainView → Type 0) → word ≡ before_heap k + a
    → ((s : Words) (r : Rule k s) (id : ℕ) (hist : List Entry) → get_elem? s.views id ≡ some (one k hist x) → (y : DomainView) × Rule k record { words = s.words; homes = s.homes; views = set s.views id (one k hist y) } × tells x (at_address k s.words a) y)
    → MayStep k x word (λ n. n) tells
load_may k x word a tells place step fits slots id hist s r _ at _ =
    let o = step s r id hist at in
    (one k hist o.0, keeps, tt, unmoved k s word (set s.views id (one k hist o.0)) o.1, (subst (λ (n : ℕ). tells x (get_or s.words n 0) o.0) (sym place) o.2, refl))
