-- At the end of Promote the blocks of the minor areas are dropped.
use Rattle.heap_rule.specs.Ephemerons.{Listed}
use Rattle.heap_rule.proofs.Again.{ephe_back}
use Rattle.heap_rule.proofs.EphemeronLemmas.{values_without, listed_on}
use Rattle.std.proofs.Common.{[], Bool, true, false, ◌≡◌, ◌≢◌, ℕ, ◌+◌, ◌*◌, ◌%◌, ◌<◌, ◌≤◌, ◌⊎◌, List, length, set, slice_get, Option, Some, None, sym, refl, ap, ◌∙◌, subst, inl, inr, ⊎_elim, arith, lt_of_not-le}
use mathlib.Core.Logic.{dite}
use native.Mathlib.Decide.{dec_le}
use mathlib.Core.Option.{some}
use lib.ListN.{get_elem?}
use Rattle.model_core.specs.declared.entry.Entry.{Entry}
use Rattle.model_core.specs.declared.graph.Value.{Value}
use Rattle.model_core.specs.declared.graph.Value.TheVariants.{Int, Block, Nothing}
use Rattle.model_core.specs.Graph.{Graph}
use Rattle.model_core.specs.Domains.{register}
use Rattle.heap_words.specs.declared.value.Value as words
use Rattle.heap_words.specs.declared.value.Value.TheVariants.{Int as IntWord, Ref, Nothing as NothingWord}
use Rattle.heap_words.specs.Values.{value_word}
use Rattle.heap_rule.specs.declared.config.Config.{Config}
use Rattle.heap_rule.specs.declared.view.Spare.{Spare}
use Rattle.heap_rule.specs.declared.view.Copying.{Copying}
use Rattle.heap_rule.specs.declared.view.Copied.{Copied}
use Rattle.heap_rule.specs.declared.view.Hunt.{Hunt}
use Rattle.heap_rule.specs.declared.view.Hunt.TheVariants.{Rests, Counts, Asks, Draws, Walks, Fills, Labels, Heads}
use Rattle.heap_rule.specs.declared.view.DomainView.{DomainView}
use Rattle.heap_rule.specs.Layout.{at_address, ended_word}
use Rattle.heap_rule.specs.Places.{Debt, Place, Live, extent, values_of, Stands, HasValue, IsOldAt, IsOldWord, Settled, More, Paint, without_keys}
use Rattle.heap_rule.specs.Changes.{value_at}
use Rattle.heap_rule.specs.Copies.{nothing_copied, known, Owes, Copies, Promoting, IsOldValue, HoldsOld, Rooted}
use Rattle.heap_rule.specs.Phases.{Pause, Phases, IsOdd, Staged, Still, TookBack, HasSetBack, Unwished}
use Rattle.heap_rule.specs.Pools.{no_stock, drawn, Stock, Covered, Hunts, KeepsReserve, Resting, Tenancy, Pools, Grid, place_in, size_of, last_found}
use Rattle.heap_rule.specs.declared.view.Finalisers.{Finalisers}
use Rattle.heap_rule.specs.Finalisers.{RefersOld, Enrolled}
use Rattle.heap_rule.proofs.FinaliserLemmas.{enrolled_at}
use Rattle.model_core.specs.declared.state.State as model
use Rattle.heap_rule.specs.Sweeping.{SweepsIn}
use Rattle.heap_rule.specs.Rule.{state_of, AllFound, Stood, Rule, Account, Sharing, Good}
use Rattle.heap_rule.specs.Views.{one}
use Rattle.heap_rule.proofs.Again.{Back, placed_back, spread_back, area_back, none_back}
use Rattle.heap_rule.proofs.Lots.{number_cases}
use Rattle.heap_rule.proofs.Beside.{extent_of}
use Rattle.heap_rule.proofs.Classes.{slot_inside, size_least}
use Rattle.heap_rule.proofs.Lists.{got_below}
use Rattle.heap_rule.proofs.Keeps.{Words, my_good, remakes, knows_front, room_unused, copies_settled, no_owing, nothing_known, no_copied}
use Rattle.heap_rule.proofs.Controls.{Move, Untouched, found_untouched, making_untouched, pools_untouched, grid_untouched, hunter_untouched, resting_untouched, low_untouched, pools_stock, grid_stock, moved_to}
use Rattle.heap_rule.specs.Cycles.{Cycling, Cycled}
use Rattle.heap_rule.proofs.FullnessLemmas.{full_back, full_kind}
use Rattle.heap_rule.specs.declared.phase.Kind.{Kind}
use Rattle.heap_rule.specs.declared.phase.Kind.TheVariants.{Answer}

abbrev Side : Config → ℕ → Type 0
Side k a = (a ≤ k.pools * 4096) ⊎ (k.pools * 4096 < a)

abbrev pick : (k : Config) (a : ℕ) → Side k a → Option Place → Option Place
pick k a (inl low) o = o
pick k a (inr high) o = None

side : (k : Config) (a : ℕ) → Side k a
side k a = dite (dec_le a (k.pools * 4096)) (λ low. inl low) (λ high. inr (lt_of_not-le high))

pick_low : (k : Config) (a : ℕ) (c : Side k a) (o : Option Place) → a ≤ k.pools * 4096 → pick k a c o ≡ o
pick_low k a (inl low) o h = refl
pick_low k a (inr high) o h = absurd (let x : k.pools * 4096 < a = high in omega arith)

pick_some : (k : Config) (a : ℕ) (c : Side k a) (o : Option Place) (q : Place) → pick k a c o ≡ Some q → (a ≤ k.pools * 4096) × (o ≡ Some q)
pick_some k a (inl low) o q e = (low, e)
pick_some k a (inr high) o q e = let f : ◌≡◌ {A = Option Place} None (Some q) = e in cc

-- the blocks of the pools alone
pub dropped : Config → Live → Live
dropped k live a = pick k a (side k a) (live a)

pub kept_low : (k : Config) (live : Live) (a : ℕ) (q : Place) → live a ≡ Some q → IsOldAt k a → dropped k live a ≡ Some q
unfolding dropped side
kept_low k live a q lives low = pick_low k a (side k a) (live a) low ∙ lives

pub was_low : (k : Config) (live : Live) (a : ℕ) (q : Place) → dropped k live a ≡ Some q → IsOldAt k a × (live a ≡ Some q)
unfolding dropped side
was_low k live a q e = pick_some k a (side k a) (live a) q e

pub stands_old : (k : Config) (live : Live) (x : words.Value) (v : Value) → IsOldValue k x → Stands live x v → Stands (dropped k live) x v
stands_old k live (IntWord z) (Int v) old s = s
stands_old k live (IntWord z) (Block l) old s = s
stands_old k live (IntWord z) Nothing old s = s
stands_old k live (Ref a) (Int v) old s = s
stands_old k live (Ref a) (Block l) old s = (s.0, kept_low k live a s.0 s.1 old, s.2)
stands_old k live (Ref a) Nothing old s = s
stands_old k live NothingWord (Int v) old s = s
stands_old k live NothingWord (Block l) old s = s
stands_old k live NothingWord Nothing old s = s

-- what lists of finalisers refer to in the pools
enrolled_old : (k : Config) (live : Live) (s : model.State) (d : ℕ) (fs : Finalisers) → RefersOld k fs → Enrolled live s d fs → Enrolled (dropped k live) s d fs
enrolled_old k live s d fs old e = enrolled_at live (dropped k live) s d fs (λ h a l at _ lives. (lives.0, kept_low k live a lives.0 lives.1 (old h a at), lives.2)) e

pub word_old : (k : Config) (w : ℕ) (v : words.Value) → w ≡ value_word v → IsOldWord k w → IsOldValue k v
word_old k w (IntWord z) e o = tt
word_old k w NothingWord e o = tt
word_old k w (Ref a) e o = let f : w ≡ 2 * a = e in ⊎_elim (λ (odd : w % 2 ≡ 1). absurd (omega arith)) (λ (low : w ≤ 2 * (k.pools * 4096)). let g : a ≤ k.pools * 4096 = omega arith in g) o

pub debt_cases : (o : Option Debt) → (o ≡ None) ⊎ ((d : Debt) × (o ≡ Some d))
debt_cases None = inl refl
debt_cases (Some d) = inr (d, refl)

-- no copy is owed anything, and no field is remembered
pub record NoDebts (live : Live) : Type 0 where
  pub no_debt : (b : ℕ) (q : Place) (o : Debt) → live b ≡ Some q → q.owed ≡ Some o → ⊥
  pub no_field : (b : ℕ) (q : Place) (i d : ℕ) → live b ≡ Some q → q.named i ≡ Some d → ⊥

module _ (k : Config) (paint : Paint) (live : Live) (graph : Graph) (words : List ℕ) (found : AllFound k paint live graph words) (copies : Copies k live) (free : NoDebts live) where
  abbrev live' : Live
  live' = dropped k live

  paid : (b : ℕ) (q : Place) → live b ≡ Some q → q.owed ≡ None
  paid b q lives = ⊎_elim (λ (e : q.owed ≡ None). e) (λ (t : (o : Debt) × (q.owed ≡ Some o)). absurd (free.no_debt b q t.0 lives t.1)) (debt_cases q.owed)

  unnamed : (b : ℕ) (q : Place) (i : ℕ) → live b ≡ Some q → q.named i ≡ None
  unnamed b q i lives = ⊎_elim (λ (e : q.named i ≡ None). e) (λ (t : (d : ℕ) × (q.named i ≡ Some d)). absurd (free.no_field b q i t.0 lives t.1)) (number_cases (q.named i))

  pub drop_settled : Settled live'
  drop_settled b q e = let w = was_low k live b q e in record {
    no_forward = ⊎_elim (λ (n : q.forward ≡ None). n) (λ (t : (c : ℕ) × (q.forward ≡ Some c)). absurd (let l = (copies.leads b q t.0 w.1 t.1).young in let h : b ≤ k.pools * 4096 = w.0 in omega arith)) (number_cases q.forward);
    no_debt = paid b q w.1;
  }

  pub drop_found : AllFound k paint live' graph words
  drop_found b q e =
      let w = was_low k live b q e in
      let f = found b q w.1 in
      let has : (i : ℕ) → HasValue q.owed i = (λ i. subst (λ (o : Option Debt). HasValue o i) (sym (paid b q w.1)) tt) in record {
        node = f.node;
        there = f.there;
        shape = f.shape;
        head = f.head;
        blank = f.blank;
        label = f.label;
        old = f.old;
        values = λ i v h got.
            let s = f.values i v h got in
            let n : ℕ = length (values_of f.node) in
            let size : extent q.shape ≡ n + 2 = ap extent (sym f.shape) ∙ extent_of f.node in
            let m : ℕ = length (values_of (without_keys (paint.emptied q.label) f.node)) in
            let same : m ≡ n = values_without (paint.emptied q.label) f.node in
            let under : i < m = got_below (values_of (without_keys (paint.emptied q.label) f.node)) i v got in
            let below : i < n = omega arith in
            let z : ℕ = extent q.shape in let y : z ≡ n + 2 = size in
            let is_old : IsOldWord k (at_address k words (b + 2 + i)) = f.old w.0 i (let g : i + 2 < z = omega arith in g) h (unnamed b q i w.1) in
            record { value = s.value; packs = s.packs; stands = stands_old k live s.value v (word_old k (at_address k words (b + 2 + i)) s.value s.packs is_old) s.stands };
      }

  pub drop_back : Back live live'
  drop_back b q e = record { place = q; lives = (was_low k live b q e).1; label = refl; shape = refl; forward = refl }

  pub drop_copies : Copies k live'
  drop_copies = copies_settled k live' drop_settled (λ b q i d e named. absurd (free.no_field b q i d (was_low k live b q e).1 named))

  pub drop_grid : (t : Tenancy) → Pools k t words → Grid k t live words → Grid k t live' words
  drop_grid t pools g = record {
    lots = λ b q e low. g.lots b q (was_low k live b q e).1 low;
    spares = λ a d is. let s = g.spares a d is in record { own = s.own; head = s.head; empty = none_back live live' a drop_back s.empty };
    places = λ q d c slot is inside. ⊎_elim (λ (z : at_address k words (place_in q c slot) ≡ 0). inl z)
        (λ z. inr (⊎_elim (λ (z : (p : Place) × (live (place_in q c slot) ≡ Some p)).
        let o = pools.owned_by q d c is in
        let u : ℕ = slot * size_of c in
        let v : ℕ = size_of c in
        let top : u + v ≤ 4096 = slot_inside c slot o.2 inside in
        let large : 4 ≤ v = size_least c o.2 in
        let below : q < k.pools = o.0 in
        inl (z.0, kept_low k live (place_in q c slot) z.0 z.1 (let h : q * 4096 + u + 1 ≤ k.pools * 4096 = omega arith in h))) (λ z. inr z) z)) (g.places q d c slot is inside);
  }

  pub drop_owes : (x y : DomainView) → y.own.number ≡ x.own.number → y.seen.copying ≡ nothing_copied → y.seen.remembered ≡ x.seen.remembered → Owes k live x → Owes k live' y
  drop_owes x y number none remembered o = record {
    quiet = inl none;
    knows = subst (λ (c : Copying). More (known c.met) live') (sym none) (nothing_known live');
    copied = λ a c has. absurd (no_copied y.seen.copying a c none has);
    owed = λ i w got. absurd (no_owing y.seen.copying i w none got);
    once = λ i j w q got _ _. absurd (no_owing y.seen.copying i w none got);
    listed = λ c p d e owed _. absurd (free.no_debt c p d (was_low k live c p e).1 owed);
    recalled = λ b q i e named. absurd (free.no_field b q i y.own.number (was_low k live b q e).1 named);
    fields = λ j at got. let f = o.fields j at (ap (λ (l : List ℕ). slice_get l j) (sym remembered) ∙ got) in
        record { block = f.block; place = f.place; index = f.index; lives = kept_low k live f.block f.place f.lives f.old; is = f.is; inside = f.inside; old = f.old; filled = f.filled };
  }

hunts_stock : (k : Config) (t : Tenancy) (stock : Stock) (words : List ℕ) (d : ℕ) (h : Hunt) → Hunts k t words d h → Hunts k (record t { stock = stock }) words d h
hunts_stock k t stock words d Rests u = u
hunts_stock k t stock words d (Counts n) u = u
hunts_stock k t stock words d (Asks n) u = u
hunts_stock k t stock words d (Draws place pool class cleared) u = u
hunts_stock k t stock words d (Walks pool class) u = u
hunts_stock k t stock words d (Fills pool class slot made) u = u
hunts_stock k t stock words d (Labels address label) u = u
hunts_stock k t stock words d (Heads address label head) u = u

module _ (k : Config) (s : Words) (r : Rule k s) (id : ℕ) (hist : List Entry) (x : DomainView) (at : get_elem? s.views id ≡ some (one k hist x)) where
  -- what there is besides the words after the last arrival of Promote
  abbrev pub dropped_to : Pause → Cycling → Account
  dropped_to pause' c' = record r.account { live = dropped k r.account.live; pause = pause'; tenancy = record r.account.tenancy { stock = no_stock }; cycling = c' }

  -- what the last arrival of Promote owes: it empties the domain's list of copies, and nothing of the pools is used any more
  pub record Drops (y : DomainView) (pause' : Pause) (c' : Cycling) (words' : List ℕ) : Type 0 where
    pub paint : c'.paint ≡ r.account.cycling.paint
    pub kind : c'.kind ≡ r.account.cycling.kind
    pub cycle : Cycled k (state_of k r.account.log) (dropped k r.account.live) pause' (record r.account.tenancy { stock = no_stock }) c' words'
    pub sharing : Sharing k (dropped_to pause' c') words' y.own.number y.own.registers y.own.finalisers y.own.ephemerons.items y.seen.stage y.seen.share
    pub sharings : (z : DomainView) → z.own.number < k.domains → z.own.number ≢ x.own.number → Good k r.account s.words z → Sharing k (dropped_to pause' c') words' z.own.number z.own.registers z.own.finalisers z.own.ephemerons.items z.seen.stage z.seen.share
    pub untouched : Untouched s.words words'
    pub front : (y.seen.front ≡ x.seen.front) ⊎ (y.seen.front ≡ r.account.log)
    pub phases : Phases k pause' words'
    pub endings : ended_word words' ≡ ended_word s.words
    pub staged : Staged pause' y
    pub still : Still r.account.log y
    pub resting : Resting k words' y
    pub idle : y.own.pending.items ≡ []
    pub free_same : (f : ℕ) → last_found y ≡ Some f → last_found x ≡ Some f
    pub spare_none : y.seen.spare ≡ None
    pub others : (z : DomainView) → z.own.number < k.domains → z.own.number ≢ x.own.number → Staged r.account.pause z → Staged pause' z
    pub over : Promoting pause' → ⊥
    pub kept : KeepsReserve pause' → ⊥
    pub odd : IsOdd pause'.phase
    pub not_led : pause'.led ≡ false
    pub free : NoDebts r.account.live
    pub at_rest : (q d : ℕ) → r.account.tenancy.holder q ≡ drawn d → ⊥
    pub unprepared : (a d : ℕ) → r.account.tenancy.prepared a ≡ Some d → ⊥
    pub no_claims : (d : ℕ) → d < k.domains → d ≢ x.own.number → r.account.tenancy.stock.claims d ≡ 0
    pub covered : Covered k pause' r.account.tenancy words'
    pub unwished : Unwished pause' words'
    pub took_back : TookBack words' y
    pub others_took_back : (z : DomainView) → Staged r.account.pause z → TookBack s.words z → TookBack words' z
    pub gone : HasSetBack y → ⊥
    pub own_old : HoldsOld k x
    pub all_old : (z : DomainView) → z.own.number < k.domains → z.own.number ≢ x.own.number → Staged r.account.pause z → Rooted k r.account.pause z → HoldsOld k z
    pub own_forgot : x.seen.remembered ≡ []
    pub all_forgot : (z : DomainView) → z.own.number < k.domains → z.own.number ≢ x.own.number → Staged r.account.pause z → Rooted k r.account.pause z → z.seen.remembered ≡ []
    pub all_quiet : (z : DomainView) → z.own.number < k.domains → z.own.number ≢ x.own.number → Staged r.account.pause z → Owes k r.account.live z → z.seen.copying ≡ nothing_copied
    pub sweeps : SweepsIn r.account.tenancy c' y
    pub others_sweep : (z : DomainView) → z.own.number < k.domains → z.own.number ≢ x.own.number → Good k r.account s.words z → SweepsIn r.account.tenancy c' z

  pub drops : (m : Move) (pause' : Pause) (c' : Cycling) (words' : List ℕ) → m.copying ≡ nothing_copied → let y : DomainView = moved_to x m in Drops y pause' c' words'
      → Rule k record { words = words'; homes = s.homes; views = set s.views id (one k hist y) }
  drops m pause' c' words' quiet o =
      let y : DomainView = moved_to x m in
      let g = my_good k s r id hist x at in
      let live0 : Live = r.account.live in
      let t : Tenancy = r.account.tenancy in
      let t' : Tenancy = record t { stock = no_stock } in
      let p = making_untouched k s.words words' x o.untouched g.making in
      let graph : Graph = (state_of k r.account.log).graph in
      let live1 : Live = dropped k live0 in
      let paint0 : Paint = r.account.cycling.paint in
      let found0 : AllFound k paint0 live0 graph words' = found_untouched k paint0 live0 graph s.words words' o.untouched r.whole.found in
      let settled1 : Settled live1 = drop_settled k paint0 live0 graph words' found0 r.whole.copies o.free in
      let back : Back live0 live1 = drop_back k paint0 live0 graph words' found0 r.whole.copies o.free in
      let stood_low : (z : DomainView) → HoldsOld k z → Stood live0 (state_of k r.account.log) z → Stood live1 (state_of k r.account.log) z = (λ z old st. record {
        wide = st.wide;
        each = λ q few. stands_old k live0 (value_at z.own.registers q) (register (state_of k r.account.log) z.own.number q) (old.0 q few) (st.each q few);
        serial = st.serial;
        enrolled = enrolled_old k live0 (state_of k r.account.log) z.own.number z.own.finalisers old.1 st.enrolled;
      }) in
      let pools1 = pools_untouched k t s.words words' o.untouched r.whole.pools in
      let grid1 = drop_grid k paint0 live0 graph words' found0 r.whole.copies o.free t pools1 (grid_untouched k t live0 s.words words' o.untouched r.whole.grid) in
      let listed_low : (z : DomainView) → Good k r.account s.words z → Listed live1 t.holder t.garbage z.own.number z.own.ephemerons.items = (λ z h.
      listed_on live0 live1 t.holder t.holder t.garbage t.garbage z.own.number z.own.ephemerons.items (λ q c e. e) (λ q c e. e) (ephe_back live0 live1 back)
      (λ a e. inl (record { place = e.place; lives = kept_low k live0 a e.place e.lives ((r.whole.placed.fits a e.place e.lives).pooled e.keys e.shape); keys = e.keys; shape = e.shape })) (λ a e. e) h.listed) in
      let mine_stood = stood_low x o.own_old g.stood in
      let mine_area = area_back k live0 live1 x back g.area in
      let mine_hunter = hunter_untouched k t s.words words' x o.untouched g.hunter in
      remakes k s r id hist x at y (dropped_to pause' c') words'
      record {
        wide = o.untouched.0 ∙ r.whole.wide;
        legal = r.whole.legal;
        full = full_back k r.account.log live0 live1 t.holder t.fresh t.garbage r.account.homes c'.kind back (full_kind k r.account.log live0 t.holder t.fresh t.garbage r.account.homes r.account.cycling.kind c'.kind (subst (λ (kind : Kind). (kind ≡ Answer → ⊥) → r.account.cycling.kind ≡ Answer → ⊥) (sym o.kind) (λ h. h)) r.whole.full);
        found = subst (λ (p : Paint). AllFound k p live1 graph words') (sym o.paint) (drop_found k paint0 live0 graph words' found0 r.whole.copies o.free);
        placed = placed_back k live0 live1 back r.whole.placed;
        spread = spread_back k live0 live1 back r.whole.spread;
        settled = inl settled1;
        copies = drop_copies k paint0 live0 graph words' found0 r.whole.copies o.free;
        cleared = λ h. absurd (o.over h);
        emptied = λ _ a q e. (was_low k live0 a q e).0;
        phases = o.phases;
        unwished = o.unwished;
        endings = o.endings ∙ r.whole.endings;
        pools = pools_stock k t no_stock words' pools1;
        reserved = λ keeps. absurd (o.kept keeps);
        covered = o.covered;
        grid = grid_stock k t no_stock live1 words' grid1;
        drawers = record { drawn = λ q d e. absurd (o.at_rest q d e); prepared = λ a d e. absurd (o.unprepared a d e); claims = λ d some. absurd (let h : 0 < 0 = some in omega arith) };
        room = room_unused k live1 pause' no_stock words' o.over;
        unused = λ _. refl;
        opened = λ a q lives young. absurd (let low : a ≤ k.pools * 4096 = (was_low k live0 a q lives).0 in omega arith);
        drawable = record {
          to_run = λ j _ led _. absurd (let e : ◌≡◌ {A = Bool} true false = sym led ∙ o.not_led in cc);
          to_copy = λ j _ led _. absurd (let e : ◌≡◌ {A = Bool} true false = sym led ∙ o.not_led in cc);
        };
        cycle = o.cycle;
      }
      (knows_front k s r id hist x at y refl o.front)
      record {
        stood = record { wide = mine_stood.wide; each = mine_stood.each; serial = mine_stood.serial; enrolled = mine_stood.enrolled };
        area = record { room = mine_area.room; free = mine_area.free; classes = mine_area.classes };
        making = record { fits = p.fits; written = p.written };
        staged = o.staged;
        still = o.still;
        hunter = record {
          hunt = hunts_stock k t no_stock words' x.own.number x.seen.hunt mine_hunter.hunt;
          drawn_alone = mine_hunter.drawn_alone;
          taken = mine_hunter.taken;
          free = λ f e. mine_hunter.free f (o.free_same f e);
          spare = λ z e. absurd (let no : ◌≡◌ {A = Option Spare} None (Some z) = sym o.spare_none ∙ e in cc);
          holds = mine_hunter.holds;
          prepared = mine_hunter.prepared;
          claims = ap (λ (l : List Copied). length l) o.idle;
          supply = λ c few some. absurd (let h : 0 < 0 = some in omega arith);
        };
        resting = o.resting;
        took_back = o.took_back;
        owes = drop_owes k paint0 live0 graph words' found0 r.whole.copies o.free x y refl quiet refl g.owes;
        rooted = (λ h. absurd (o.over h), λ _. o.own_forgot);
        set_back = λ h. absurd (o.gone h);
        sharing = o.sharing;
        listed = listed_low x g;
        sweeps = o.sweeps;
      }
      (λ z below other h. let zh = hunter_untouched k t s.words words' z o.untouched h.hunter in record {
        stood = stood_low z (o.all_old z below other h.staged h.rooted) h.stood;
        area = area_back k live0 live1 z back h.area;
        making = making_untouched k s.words words' z o.untouched h.making;
        staged = o.others z below other h.staged;
        still = h.still;
        hunter = record {
          hunt = hunts_stock k t no_stock words' z.own.number z.seen.hunt zh.hunt;
          drawn_alone = zh.drawn_alone;
          taken = zh.taken;
          free = zh.free;
          spare = λ u e. let f = zh.spare u e in record { own_is = f.own_is; inside = f.inside; free = f.free };
          holds = zh.holds;
          prepared = zh.prepared;
          claims = zh.claims ∙ o.no_claims z.own.number below other;
          supply = λ c few some. absurd (let h : 0 < 0 = some in omega arith);
        };
        resting = resting_untouched k s.words words' z o.untouched h.resting;
        took_back = o.others_took_back z h.staged h.took_back;
        owes = drop_owes k paint0 live0 graph words' found0 r.whole.copies o.free z z refl (o.all_quiet z below other h.staged h.owes) refl h.owes;
        rooted = (λ h. absurd (o.over h), λ _. o.all_forgot z below other h.staged h.rooted);
        set_back = λ b. low_untouched k s.words words' o.untouched (h.set_back b);
        sharing = o.sharings z below other h;
        listed = listed_low z h;
        sweeps = o.others_sweep z below other h;
      })
