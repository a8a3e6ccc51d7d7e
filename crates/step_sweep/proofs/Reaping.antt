-- A step at the end of a collection: blocks may die, garbage may go, and the words of the colours and of what lives may change.
use Rattle.std.proofs.Common.{◌≡◌, ◌≢◌, ℕ, ◌+◌, ◌<◌, ◌≤◌, Bool, List, length, get_or, set, slice_get, Some, sym, refl, ap, ◌∙◌, subst, inl, ⊎_elim, arith, IsTrue}
use mathlib.Core.Option.{some}
use lib.ListN.{get_elem?}
use Rattle.model_core.specs.declared.entry.Entry.{Entry}
use Rattle.model_core.specs.declared.state.State as model
use Rattle.model_cycle.specs.Fullness.{HoldsKept, kept_labels}
use Rattle.heap_rule.specs.Limits.{sizes_in}
use Rattle.heap_rule.specs.declared.config.Config.{Config}
use Rattle.heap_rule.specs.declared.phase.Kind.TheVariants.{Promote}
use Rattle.heap_rule.specs.declared.phase.Stage.{Stage}
use Rattle.heap_rule.specs.declared.phase.Stage.TheVariants.{In}
use Rattle.heap_rule.specs.declared.view.Copying.{Copying}
use Rattle.heap_rule.specs.declared.view.DomainView.{DomainView}
use Rattle.heap_rule.specs.declared.view.Listing.{Listing}
use Rattle.heap_rule.specs.declared.view.Share.{Share}
use Rattle.heap_rule.specs.declared.view.Search.{Search}
use Rattle.heap_rule.specs.declared.view.Swept.{Swept}
use Rattle.heap_rule.specs.Sweeping.{SweepsIn}
use Rattle.heap_words.specs.Remembered.Bounded.{Bounded}
use Rattle.heap_rule.specs.Ephemerons.{Listed}
use Rattle.heap_rule.specs.Copies.{IsField, Owes, Promoting, nothing_copied, known}
use Rattle.heap_rule.specs.Cycles.{Cycled, Cycling}
use Rattle.heap_rule.specs.Fullness.{Fullness}
use Rattle.heap_rule.specs.Layout.{before_heap, cursor, listed}
use Rattle.heap_rule.specs.Phases.{AtStage, Staged}
use Rattle.heap_rule.specs.Places.{Live, More, Place, Settled}
use Rattle.heap_rule.specs.Pools.{Grid, Hunter, Lists, Pools, Reserved, Stock, Tenancy, limit_of, blocks_of, owned, place_in}
use Rattle.heap_rule.specs.Room.{Room}
use Rattle.heap_rule.specs.Rule.{Account, AllFound, Good, Making, Rule, Sharing, Stood, state_of}
use Rattle.heap_rule.specs.Views.{one}
use Rattle.heap_rule.proofs.Again.{Back, area_back, opened_back, placed_back, spread_back}
use Rattle.heap_rule.proofs.FullnessLemmas.{full_back}
use Rattle.heap_rule.proofs.Keeps.{Words, copies_settled, covered_words, knows_front, lists_same, mine, my_good, no_copied, no_debt, no_owing, nothing_known, opened_words, phases_words, pools_words, quiet_in, remakes, resting_as, resting_lists, room_unused}

-- the domain with other places looked at, with another list of ephemerons, further on in sweeping, and with other knowledge of the phase
abbrev pub reaped : DomainView → List Search → Bounded ℕ → Swept → Share → DomainView
reaped x looked ephemerons swept share = record x { own = record x.own { looked = looked; ephemerons = ephemerons; swept = swept }; seen = record x.seen { share = share } }

module _ (k : Config) (s : Words) (r : Rule k s) (id : ℕ) (hist : List Entry) (x : DomainView) (at : get_elem? s.views id ≡ some (one k hist x)) where
  open r.account use {live, tenancy as t}

  abbrev now : model.State
  now = state_of k r.account.log

  -- what there is besides the words afterwards
  abbrev pub reaped_to : Live → (ℕ → Bool) → Cycling → Account
  reaped_to live' garbage' c' = record r.account { live = live'; tenancy = record t { garbage = garbage' }; cycling = c' }

  -- What such a step owes
  pub record Reaps (looked : List Search) (ephemerons : Bounded ℕ) (swept : Swept) (share' : Share) (live' : Live) (garbage' : ℕ → Bool) (c' : Cycling) (words' : List ℕ) : Type 0 where
    pub wide : length words' ≡ length s.words
    pub control : (i : ℕ) → i ≤ before_heap k → i ≢ 5 → i ≢ 9 → i ≢ 10 → get_or words' i 0 ≡ get_or s.words i 0
    pub calm : Promoting r.account.pause → ⊥
    pub kind : c'.kind ≡ r.account.cycling.kind
    pub subset : (a : ℕ) (p : Place) → live' a ≡ Some p → live a ≡ Some p
    pub stood : (z : DomainView) → Stood live now z → Stood live' now z
    pub fields : (z : DomainView) → z.own.number < k.domains → Good k r.account s.words z → (j f : ℕ) → slice_get z.seen.remembered j ≡ Some f → IsField k live' f
    pub found : AllFound k c'.paint live' now.graph words'
    pub grid : Grid k (record t { garbage = garbage' }) live' words'
    pub makings : (z : DomainView) → Good k r.account s.words z → Making k words' z
    pub hunter : Hunter k (record t { garbage = garbage' }) words' (reaped x looked ephemerons swept share')
    pub hunters : (z : DomainView) → z.own.number ≢ x.own.number → Good k r.account s.words z → Hunter k (record t { garbage = garbage' }) words' z
    pub cycle : Cycled k now live' r.account.pause (record t { garbage = garbage' }) c' words'
    pub sharing : Sharing k (reaped_to live' garbage' c') words' x.own.number x.own.registers x.own.finalisers ephemerons.items x.seen.stage share'
    pub sharings : (z : DomainView) → z.own.number < k.domains → z.own.number ≢ x.own.number → Good k r.account s.words z → Sharing k (reaped_to live' garbage' c') words' z.own.number z.own.registers z.own.finalisers z.own.ephemerons.items z.seen.stage z.seen.share
    pub listed_own : Listed live' t.holder garbage' x.own.number ephemerons.items
    pub listeds : (z : DomainView) → z.own.number ≢ x.own.number → Good k r.account s.words z → Listed live' t.holder garbage' z.own.number z.own.ephemerons.items
    pub left : (q d c slot : ℕ) → t.holder q ≡ owned d c → slot < blocks_of c → IsTrue (garbage' (place_in q c slot)) → HoldsKept (kept_labels (sizes_in k) r.account.log) r.account.homes q
    pub sweeps : SweepsIn (record t { garbage = garbage' }) c' (reaped x looked ephemerons swept share')
    pub others_sweep : (z : DomainView) → z.own.number < k.domains → z.own.number ≢ x.own.number → Good k r.account s.words z → SweepsIn (record t { garbage = garbage' }) c' z

  module _ (looked : List Search) (ephemerons : Bounded ℕ) (swept : Swept) (share' : Share) (live' : Live) (garbage' : ℕ → Bool) (c' : Cycling) (words' : List ℕ) (o : Reaps looked ephemerons swept share' live' garbage' c' words') where
    abbrev t' : Tenancy
    t' = record t { garbage = garbage' }

    abbrev y : DomainView
    y = reaped x looked ephemerons swept share'

    kept : (i : ℕ) → i ≤ 8 → i ≢ 5 → get_or words' i 0 ≡ get_or s.words i 0
    kept i low other = o.control i (omega arith) other (λ e. omega arith) (λ e. omega arith)

    list_kept : (i : ℕ) → 11 ≤ i → i ≤ before_heap k → get_or words' i 0 ≡ get_or s.words i 0
    list_kept i low high = o.control i high (λ e. omega arith) (λ e. omega arith) (λ e. omega arith)

    counts : (listed words' ≡ listed s.words) × (cursor words' ≡ cursor s.words)
    counts = (kept 6 (omega arith) (λ e. omega arith), kept 7 (omega arith) (λ e. omega arith))

    back : Back live live'
    back b q lives = record { place = q; lives = o.subset b q lives; label = refl; shape = refl; forward = refl }

    settled : Settled live
    settled = ⊎_elim (λ h. h) (λ (h : Promoting r.account.pause). absurd (o.calm h)) r.whole.settled

    settled' : Settled live'
    settled' a p lives = settled a p (o.subset a p lives)

    not_copying : (z : DomainView) → Staged r.account.pause z → z.seen.stage ≡ In Promote → ⊥
    not_copying z staged is = o.calm (subst (AtStage r.account.pause z.own.number z.own.arrivals) is staged.stage).1

    -- nothing is owed
    owes : (z : DomainView) → z.own.number < k.domains → Good k r.account s.words z → Owes k live' z
    owes z below g = let none : z.seen.copying ≡ nothing_copied = quiet_in k live z g.owes (not_copying z g.staged) in record {
      quiet = inl none;
      knows = subst (λ (c : Copying). More (known c.met) live') (sym none) (nothing_known live');
      copied = λ a c has. absurd (no_copied z.seen.copying a c none has);
      owed = λ i w got. absurd (no_owing z.seen.copying i w none got);
      once = λ i j w q got _ _. absurd (no_owing z.seen.copying i w none got);
      listed = λ c p d lives owed _. absurd (no_debt live' settled' c p d lives owed);
      recalled = λ b q i lives named. g.owes.recalled b q i (o.subset b q lives) named;
      fields = o.fields z below g;
    }

    lists : (number : ℕ) (stage : Stage) (l : Listing) → Lists k s.words number stage l → Lists k words' number stage l
    lists number stage l = lists_same k s.words words' number stage l counts.0 counts.1 (λ i h. list_kept (11 + i) (omega arith) (omega arith)) (λ q h. list_kept (11 + k.pools + q) (omega arith) (omega arith))

    pools' : Pools k t' words'
    pools' = let p = pools_words k t s.words words' counts.0 counts.1 (λ i h. list_kept (11 + i) (omega arith) (omega arith)) (λ q h. list_kept (11 + k.pools + q) (omega arith) (omega arith)) r.whole.pools in
        record { few = p.few; inside = p.inside; once = p.once; untaken = p.untaken; owners = p.owners; owned_by = p.owned_by; drawn_by = p.drawn_by; one_each = p.one_each; asked = p.asked }

    low_kept : cursor s.words ≤ limit_of k (listed s.words) → cursor words' ≤ limit_of k (listed words')
    low_kept low = subst (λ (m : ℕ × ℕ). m.0 ≤ limit_of k m.1) (λ i. (sym counts.1 i, sym counts.0 i)) low

    reserved' : Reserved k r.account.pause t' words'
    reserved' keeps i below above =
        let n : ℕ = listed s.words in let n' : ℕ = listed words' in let e : n' ≡ n = counts.0 in
        let few : n ≤ k.pools = r.whole.pools.few in
        let low : i < n = (let g : i < n' = below in omega arith) in
        ap t.holder (list_kept (11 + i) (omega arith) (omega arith)) ∙ r.whole.reserved keeps i low (subst (λ (m : ℕ). limit_of k m ≤ i) e above)

    want_same : get_or words' 0 0 ≡ get_or s.words 0 0
    want_same = kept 0 (omega arith) (λ e. omega arith)

    pub reaps : Rule k record { words = words'; homes = s.homes; views = set s.views id (one k hist y) }
    reaps =
        let g = my_good k s r id hist x at in
        let mine_area = area_back k live live' x back g.area in
        let mine_making = o.makings x g in
        let mine_owes = owes x (mine k s r id hist x at).inside g in
        let mine_stood = o.stood x g.stood in
        remakes k s r id hist x at y (reaped_to live' garbage' c') words'
        record {
          wide = o.wide ∙ r.whole.wide;
          legal = r.whole.legal;
          full = subst (Fullness k r.account.log live' t.holder t.fresh garbage' r.account.homes) (sym o.kind) (let f = full_back k r.account.log live live' t.holder t.fresh t.garbage r.account.homes r.account.cycling.kind back r.whole.full in record { kept = f.kept; low = f.low; young = f.young; made = f.made; left = o.left; owned = f.owned; drawn = f.drawn });
          found = o.found;
          placed = placed_back k live live' back r.whole.placed;
          spread = spread_back k live live' back r.whole.spread;
          settled = inl settled';
          copies = copies_settled k live' settled' (λ b q i d lives named. r.whole.copies.naming b q i d (o.subset b q lives) named);
          cleared = λ h. absurd (o.calm h);
          emptied = λ h a q lives. r.whole.emptied h a q (o.subset a q lives);
          phases = phases_words k r.account.pause s.words words' (kept 1 (omega arith) (λ e. omega arith)) (kept 2 (omega arith) (λ e. omega arith)) r.whole.phases;
          unwished = λ j odd led runs. want_same ∙ r.whole.unwished j odd led runs;
          endings = kept 8 (omega arith) (λ e. omega arith) ∙ r.whole.endings;
          pools = pools';
          reserved = reserved';
          covered = covered_words k r.account.pause t s.words words' counts.0 counts.1 (λ i h. list_kept (11 + i) (omega arith) (omega arith)) r.whole.pools.few r.whole.covered;
          grid = o.grid;
          drawers = record { drawn = r.whole.drawers.drawn; prepared = r.whole.drawers.prepared; claims = r.whole.drawers.claims };
          room = subst (λ (z : Stock). Room k live' r.account.pause z words') (sym (r.whole.unused o.calm)) (room_unused k live' r.account.pause t.stock words' o.calm);
          unused = r.whole.unused;
          opened = opened_words k live' s.words words' (λ _ _ _ _. counts.0) (opened_back k live live' s.words back r.whole.opened);
          drawable = record {
            to_run = λ j odd led runs. low_kept (r.whole.drawable.to_run j odd led runs);
            to_copy = λ j odd led copies. low_kept (r.whole.drawable.to_copy j odd led copies);
          };
          cycle = o.cycle;
        }
        (knows_front k s r id hist x at y refl (inl refl))
        record {
          stood = record { wide = mine_stood.wide; each = mine_stood.each; serial = mine_stood.serial; enrolled = mine_stood.enrolled };
          area = record { room = mine_area.room; free = mine_area.free; classes = mine_area.classes };
          making = record { fits = mine_making.fits; written = mine_making.written };
          staged = record { arrivals = g.staged.arrivals; stage = g.staged.stage };
          still = g.still;
          hunter = o.hunter;
          resting = resting_as k words' x y refl refl refl refl refl refl (resting_lists k s.words words' x lists g.resting);
          took_back = λ kind leads last. want_same ∙ g.took_back kind leads last;
          owes = record { quiet = mine_owes.quiet; knows = mine_owes.knows; copied = mine_owes.copied; owed = λ i w got. let u = mine_owes.owed i w got in record { place = u.place; lives = u.lives; debt = u.debt }; once = mine_owes.once; listed = mine_owes.listed; recalled = mine_owes.recalled; fields = mine_owes.fields };
          rooted = g.rooted;
          set_back = λ h. low_kept (g.set_back h);
          sharing = o.sharing;
          listed = record { all = o.listed_own.all; own = o.listed_own.own; lives = o.listed_own.lives };
          sweeps = o.sweeps;
        }
        (λ z below other h. record {
          stood = o.stood z h.stood;
          area = area_back k live live' z back h.area;
          making = o.makings z h;
          staged = h.staged;
          still = h.still;
          hunter = o.hunters z other h;
          resting = resting_lists k s.words words' z lists h.resting;
          took_back = λ kind leads last. want_same ∙ h.took_back kind leads last;
          owes = owes z below h;
          rooted = h.rooted;
          set_back = λ q. low_kept (h.set_back q);
          sharing = o.sharings z below other h;
          listed = o.listeds z other h;
          sweeps = o.others_sweep z below other h;
        })
