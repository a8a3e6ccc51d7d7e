-- Steps on the control words of the phases: the other words stay, and so does what they stand for.
use Rattle.heap_rule.specs.Ephemerons.{Looks}
use Rattle.std.proofs.Common.{◌≡◌, ◌≢◌, ℕ, zero, suc, ◌+◌, ◌*◌, ◌<◌, ◌≤◌, ◌⊎◌, List, length, get_or, set, Some, sym, refl, ap, ◌∙◌, subst, arith, ⊎_elim, inl, inr, suc-mul, zero-le, None, Option, ◌++◌, ◌∷◌, []}
use mathlib.Core.Logic.{dite}
use native.Mathlib.Decide.{ℕ_discrete}
use mathlib.Core.Option.{some}
use lib.ListN.{get_elem?}
use Rattle.model_core.specs.declared.entry.Entry.{Entry}
use Rattle.model_core.specs.Graph.{Graph}
use Rattle.heap_rule.specs.declared.config.Config.{Config}
use Rattle.heap_rule.specs.declared.phase.Stage.{Stage}
use Rattle.heap_rule.specs.declared.phase.Note.{Note}
use Rattle.heap_rule.specs.declared.view.Spare.{Spare}
use Rattle.heap_rule.specs.declared.view.DomainView.{DomainView}
use Rattle.heap_rule.specs.Layout.{before_heap, ended_word, cursor, listed, changed_word, at_address}
use Rattle.heap_rule.specs.Places.{Live, Paint, IsOldWord, Settled}
use Rattle.heap_rule.specs.declared.view.Copying.{Copying}
use Rattle.heap_rule.specs.Copies.{Owes, Promoting, AllCleared, Emptied, Rooted}
use Rattle.heap_rule.specs.Phases.{Pause, Phases, sum_of, IsEven, IsOdd, Staged, Still, TookBack, HasSetBack, Unwished, last_from, last_note}
use Rattle.heap_rule.specs.Pools.{Stock, Reserved, Covered, limit_of, Tenancy, Pools, Grid, Drawers, Resting, Hunter, Lists, Holder, last_found}
use Rattle.heap_rule.specs.declared.view.Listing.{Listing}
use Rattle.heap_rule.specs.Deciding.{Deciding}
use Rattle.heap_rule.specs.Sweeping.{SweepsIn}
use Rattle.heap_rule.specs.Rule.{state_of, AllFound, Making, Account, Sharing, Rule, Good}
use Rattle.heap_rule.specs.Room.{Room, IsUnused, Drawable}
use Rattle.heap_words.specs.Remembered.Bounded.{Bounded}
use Rattle.heap_rule.specs.declared.view.Copied.{Copied}
use Rattle.heap_rule.specs.Views.{one}
use Rattle.heap_rule.proofs.HeadLemmas.{head_at}
use Rattle.heap_rule.proofs.Holders.{Agrees, agrees_same, grid_heap, same_self, hunter_agree, SameStock, stock_self}
use Rattle.heap_rule.proofs.Keeps.{Words, my_good, remakes, knows_front, phases_words, pools_words, covered_words, lists_same, resting_lists, owes_as, hunter_as, room_words, opened_words}
use Rattle.heap_rule.proofs.Sharings.{SameCycle, cycle_words, leading_words, knows_words}
use Rattle.heap_rule.specs.declared.view.Share.{Share}
use Rattle.heap_rule.specs.Cycles.{Cycling, Cycled, Telling, Leading, KnowsBlocks, Adds}
use Rattle.heap_rule.specs.Fullness.{Homes, Fullness}
use Rattle.heap_rule.specs.Beside.{RunsBeside}
use Rattle.heap_rule.proofs.BesideLemmas.{runs_on, endures_words}

-- all words stay but the first four, want, barrier, plan and changed, and the ended word
abbrev pub Untouched : List ℕ → List ℕ → Type 0
Untouched words words' = (length words' ≡ length words) × ((i : ℕ) → 4 ≤ i → i ≢ 8 → get_or words' i 0 ≡ get_or words i 0)

pub untouched_same : (words : List ℕ) → Untouched words words
untouched_same words = (refl, λ i low other. refl)

pub found_untouched : (k : Config) (paint : Paint) (live : Live) (graph : Graph) (words words' : List ℕ) → Untouched words words' → AllFound k paint live graph words → AllFound k paint live graph words'
found_untouched k paint live graph words words' u found a p lives = let f = found a p lives in record {
  node = f.node;
  there = f.there;
  shape = f.shape;
  head = head_at paint p (u.1 (before_heap k + a) (omega arith) (λ e. away a e)) f.head;
  blank = f.blank;
  label = u.1 (before_heap k + (a + 1)) (omega arith) (λ e. away (a + 1) e) ∙ f.label;
  values = λ i v has e. let w = f.values i v has e in record { value = w.value; packs = u.1 (before_heap k + (a + 2 + i)) (omega arith) (λ e. away (a + 2 + i) e) ∙ w.packs; stands = w.stands };
  old = λ low i inside has none. subst (IsOldWord k) (sym (u.1 (before_heap k + (a + 2 + i)) (omega arith) (λ e. away (a + 2 + i) e))) (f.old low i inside has none);
} where
  away : (b : ℕ) → before_heap k + b ≡ 8 → ⊥
  away b e = let h : 10 + 2 * k.pools + b ≡ 8 = e in omega arith

pub making_untouched : (k : Config) (words words' : List ℕ) (z : DomainView) → Untouched words words' → Making k words z → Making k words' z
making_untouched k words words' z u p = record {
  fits = p.fits;
  written = λ j w e. u.1 (before_heap k + _) (omega arith) (λ e. let h : 10 + 2 * k.pools + _ ≡ 8 = e in omega arith) ∙ p.written j w e;
}

pub pools_untouched : (k : Config) (t : Tenancy) (words words' : List ℕ) → Untouched words words' → Pools k t words → Pools k t words'
pools_untouched k t words words' u s = pools_words k t words words' (u.1 6 (omega arith) (λ e. omega arith)) (u.1 7 (omega arith) (λ e. omega arith)) (λ i h. u.1 (11 + i) (omega arith) (λ e. omega arith)) (λ q h. u.1 (11 + k.pools + q) (omega arith) (λ e. omega arith)) s

agrees_untouched : (k : Config) (words words' : List ℕ) → Untouched words words' → Agrees k words words'
agrees_untouched k words words' u = record {
  count = u.1 6 (omega arith) (λ e. omega arith);
  list = λ i h. u.1 (11 + i) (omega arith) (λ e. omega arith);
  heap = λ a low. u.1 (before_heap k + a) (omega arith) (λ e. let h : 10 + 2 * k.pools + a ≡ 8 = e in omega arith);
}

pub grid_untouched : (k : Config) (t : Tenancy) (live : Live) (words words' : List ℕ) → Untouched words words' → Grid k t live words → Grid k t live words'
grid_untouched k t live words words' u g = grid_heap k t live words words' (agrees_untouched k words words' u).heap g

pub reserved_untouched : (k : Config) (p : Pause) (t : Tenancy) (words words' : List ℕ) → Untouched words words' → Pools k t words → Reserved k p t words → Reserved k p t words'
reserved_untouched k p t words words' u pools kept keeps i below above =
    let n : ℕ = listed words in let n' : ℕ = listed words' in let e : n' ≡ n = u.1 6 (omega arith) (λ e. omega arith) in
    let few : n ≤ k.pools = pools.few in
    let low : i < n = (let g : i < n' = below in omega arith) in
    ap t.holder (u.1 (11 + i) (omega arith) (λ e. omega arith)) ∙ kept keeps i low (subst (λ (m : ℕ). limit_of k m ≤ i) e above)

pub covered_untouched : (k : Config) (p : Pause) (t : Tenancy) (words words' : List ℕ) → Untouched words words' → Pools k t words → Covered k p t words → Covered k p t words'
covered_untouched k p t words words' u pools covered = covered_words k p t words words' (u.1 6 (omega arith) (λ e. omega arith)) (u.1 7 (omega arith) (λ e. omega arith)) (λ i h. u.1 (11 + i) (omega arith) (λ e. omega arith)) pools.few covered

pub counts_untouched : (words words' : List ℕ) → Untouched words words' → (listed words' ≡ listed words) × (cursor words' ≡ cursor words)
counts_untouched words words' u = (u.1 6 (omega arith) (λ e. omega arith), u.1 7 (omega arith) (λ e. omega arith))

-- what is known of the cursor and the list stays
pub low_untouched : (k : Config) (words words' : List ℕ) → Untouched words words' → cursor words ≤ limit_of k (listed words) → cursor words' ≤ limit_of k (listed words')
low_untouched k words words' u low = let c = counts_untouched words words' u in subst (λ (m : ℕ × ℕ). m.0 ≤ limit_of k m.1) (λ i. (sym c.1 i, sym c.0 i)) low

pub hunter_untouched : (k : Config) (t : Tenancy) (words words' : List ℕ) (z : DomainView) → Untouched words words' → Hunter k t words z → Hunter k t words' z
hunter_untouched k t words words' z u h = hunter_agree k t t words words' (agrees_untouched k words words' u) z (let e : cursor words' ≡ cursor words = u.1 7 (omega arith) (λ e. omega arith) in let c : ℕ = cursor words in let c' : ℕ = cursor words' in let f : c' ≡ c = e in let l : c ≤ c' = omega arith in l) (same_self t z.own.number) h

pub lists_untouched : (k : Config) (words words' : List ℕ) (number : ℕ) (stage : Stage) (l : Listing) → Untouched words words' → Lists k words number stage l → Lists k words' number stage l
lists_untouched k words words' number stage l u s = lists_same k words words' number stage l (u.1 6 (omega arith) (λ e. omega arith)) (u.1 7 (omega arith) (λ e. omega arith)) (λ i h. u.1 (11 + i) (omega arith) (λ e. omega arith)) (λ q h. u.1 (11 + k.pools + q) (omega arith) (λ e. omega arith)) s

pub resting_untouched : (k : Config) (words words' : List ℕ) (z : DomainView) → Untouched words words' → Resting k words z → Resting k words' z
resting_untouched k words words' z u r = resting_lists k words words' z (λ number stage l. lists_untouched k words words' number stage l u) r

pub cycle_untouched : (words words' : List ℕ) → Untouched words words' → changed_word words' ≡ changed_word words → SameCycle words words'
cycle_untouched words words' u changed = record {
  armed_same = u.1 4 (omega arith) (λ e. omega arith);
  colours_same = u.1 5 (omega arith) (λ e. omega arith);
  changed_same = changed;
  blocks_same = u.1 9 (omega arith) (λ e. omega arith);
  words_same = u.1 10 (omega arith) (λ e. omega arith);
}

-- all that the rule says of a domain's share stays where nothing of a collection moves
pub sharing_words : (k : Config) (all all' : Account) (words words' : List ℕ) (z : DomainView) → all'.log ≡ all.log → all'.live ≡ all.live → all'.tenancy.holder ≡ all.tenancy.holder → all'.cycling ≡ all.cycling
    → SameCycle words words' → ((a : ℕ) → at_address k words' a ≡ at_address k words a) → Sharing k all words z.own.number z.own.registers z.own.finalisers z.own.ephemerons.items z.seen.stage z.seen.share → Sharing k all' words' z.own.number z.own.registers z.own.finalisers z.own.ephemerons.items z.seen.stage z.seen.share
sharing_words k all all' words words' z log live holder cycling same heap sh = record {
  telling = subst (λ (c : Cycling). Telling c.paint.colours c.shares z.own.number z.seen.share) (sym cycling) sh.telling;
  leading = subst (λ (c : Cycling). Leading c words' z.own.number z.seen.stage z.seen.share) (sym cycling) (leading_words all.cycling words words' z.own.number z.seen.stage z.seen.share same sh.leading);
  knows = subst (λ (m : List Entry × Live × (ℕ → Holder) × Cycling). KnowsBlocks k m.1 m.2 (state_of k m.0).graph m.3.paint.marks words' z.own.number z.own.registers z.seen.stage z.seen.share)
      (λ i. (sym log i, sym live i, sym holder i, sym cycling i)) (knows_words k all.live all.tenancy.holder (state_of k all.log).graph all.cycling.paint.marks words words' z.own.number z.own.registers z.seen.stage z.seen.share heap sh.knows);
  adds = subst (λ (m : Live × Cycling). Adds m.0 m.1 z.own.number z.seen.share) (λ i. (sym live i, sym cycling i)) sh.adds;
  looks = subst (λ (m : List Entry × Live × (ℕ → Holder) × Cycling). Looks m.1 m.2 (state_of k m.0).graph m.3.paint.marks m.3.paint.emptied z.own.number z.own.ephemerons.items z.seen.stage z.seen.share)
      (λ i. (sym log i, sym live i, sym holder i, sym cycling i)) sh.looks;
  running = subst (λ (m : Live × (ℕ → Holder) × Cycling). RunsBeside k m.0 m.1 m.2.armed m.2.past m.2.paint.marks.marked words' z.own.number z.seen.stage z.seen.share) (λ i. (sym live i, sym holder i, sym cycling i))
      (runs_on k all.live all.live all.tenancy.holder all.tenancy.holder all.cycling.armed all.cycling.past all.cycling.past all.cycling.paint.marks.marked all.cycling.paint.marks.marked words words' z.own.number z.seen.stage z.seen.share (λ _. endures_words k all.live all.tenancy.holder all.cycling.paint.marks.marked words words' heap) refl (λ q. refl) sh.running);
  deciding = subst (λ (m : Live × Cycling). Deciding m.0 m.1.kind m.1.left m.1.shares.arrived m.1.paint.marks.marked z.own.number z.own.finalisers z.seen.share.kept z.seen.share.waiting) (λ i. (sym live i, sym cycling i)) sh.deciding;
}

-- the heap's words stay
pub heap_untouched : (k : Config) (words words' : List ℕ) → Untouched words words' → (a : ℕ) → at_address k words' a ≡ at_address k words a
heap_untouched k words words' u a = u.1 (before_heap k + a) (omega arith) (λ e. let h : 10 + 2 * k.pools + a ≡ 8 = e in omega arith)

-- sums over the domains
sum_else : (f g : ℕ → ℕ) (d n : ℕ) → n ≤ d → ((j : ℕ) → j ≢ d → g j ≡ f j) → sum_of g n ≡ sum_of f n
sum_else f g d zero above same = refl
sum_else f g d (suc n) above same = let a = sum_else f g d n (omega arith) same in let b = same n (λ e. omega arith) in λ i. a i + b i

-- where one domain has one more
pub sum_one : (f g : ℕ → ℕ) (d n : ℕ) → d < n → g d ≡ f d + 1 → ((j : ℕ) → j ≢ d → g j ≡ f j) → sum_of g n ≡ sum_of f n + 1
sum_one f g d zero below more same = absurd (omega arith)
sum_one f g d (suc n) below more same = dite (ℕ_discrete n d)
    (λ here.
    let a : sum_of g n ≡ sum_of f n = sum_else f g d n (let h : n ≡ d = here in omega arith) same in
    let b : g n ≡ f n + 1 = ap g here ∙ (more ∙ ap (λ (j : ℕ). f j + 1) (sym here)) in
    let x : ℕ = sum_of f n in let y : ℕ = f n in let h : x + (y + 1) ≡ x + y + 1 = omega arith in (λ i. a i + b i) ∙ h)
    (λ other.
    let a : sum_of g n ≡ sum_of f n + 1 = sum_one f g d n (let h : n ≢ d = other in omega arith) more same in
    let b : g n ≡ f n = same n other in
    let x : ℕ = sum_of f n in let y : ℕ = f n in let h : x + 1 + y ≡ x + y + 1 = omega arith in (λ i. a i + b i) ∙ h)

pub sum_low : (f : ℕ → ℕ) (n c : ℕ) → ((d : ℕ) → d < n → f d ≤ c) → sum_of f n ≤ n * c
sum_low f zero c each = zero-le
sum_low f (suc n) c each =
    let a : sum_of f n ≤ n * c = sum_low f n c (λ d h. each d (omega arith)) in
    let b : f n ≤ c = each n (omega arith) in
    let s : suc n * c ≡ n * c + c = suc-mul n c in
    let x : ℕ = sum_of f n in let y : ℕ = n * c in let z : x + f n ≤ y + c = omega arith in subst (λ (w : ℕ). x + f n ≤ w) (sym s) z

-- where the sum is as large as it can be, each is
pub all_up : (f : ℕ → ℕ) (n c : ℕ) → ((d : ℕ) → d < n → f d ≤ c) → sum_of f n ≡ n * c → (d : ℕ) → d < n → f d ≡ c
all_up f zero c each full d below = absurd (omega arith)
all_up f (suc n) c each full d below =
    let a : sum_of f n ≤ n * c = sum_low f n c (λ d h. each d (omega arith)) in
    let b : f n ≤ c = each n (omega arith) in
    let s : sum_of f n + f n ≡ n * c + c = full ∙ suc-mul n c in
    let x : ℕ = sum_of f n in let y : ℕ = n * c in
    let a' : x ≤ y = a in let s' : x + f n ≡ y + c = s in
    dite (ℕ_discrete d n)
    (λ same. ap f same ∙ (let z : f n ≡ c = omega arith in z))
    (λ other. all_up f n c (λ d h. each d (omega arith)) (let z : x ≡ y = omega arith in z) d (omega arith))

pub parity : (n : ℕ) → IsEven n ⊎ IsOdd n
parity zero = inl (0, refl)
parity (suc n) = ⊎_elim (λ (t : IsEven n). inr (t.0, let j : ℕ = t.0 in let e : n ≡ j * 2 = t.1 in let g : suc n ≡ j * 2 + 1 = omega arith in g))
    (λ (t : IsOdd n). inl (t.0 + 1, let j : ℕ = t.0 in let e : n ≡ j * 2 + 1 = t.1 in let g : suc n ≡ (j + 1) * 2 = omega arith in g)) (parity n)

-- what a domain has used of the pools changes, and nothing of who has them
pub pools_stock : (k : Config) (t : Tenancy) (stock : Stock) (words : List ℕ) → Pools k t words → Pools k (record t { stock = stock }) words
pools_stock k t stock words p = record { few = p.few; inside = p.inside; once = p.once; untaken = p.untaken; owners = p.owners; owned_by = p.owned_by; drawn_by = p.drawn_by; one_each = p.one_each; asked = p.asked }

pub grid_stock : (k : Config) (t : Tenancy) (stock : Stock) (live : Live) (words : List ℕ) → Grid k t live words → Grid k (record t { stock = stock }) live words
grid_stock k t stock live words g = record { lots = g.lots; places = g.places; spares = g.spares }

pub hunter_stock : (k : Config) (t : Tenancy) (stock : Stock) (words : List ℕ) (z : DomainView) → SameStock t.stock stock z.own.number → Hunter k t words z → Hunter k (record t { stock = stock }) words z
hunter_stock k t stock words z same h = hunter_agree k t (record t { stock = stock }) words words (agrees_same k words) z (let c : ℕ = cursor words in let l : c ≤ c = omega arith in l)
    record { drawn_to = λ q e. e; drawn_from = λ q e. e; owned_to = λ q c e. e; owned_from = λ q c e. e; asking_same = refl; prepared_to = λ a e. e; prepared_from = λ a e. e; fresh_same = λ c. refl; stock_same = same } h

-- a domain's view after a step of a pause: what is told of it but its number, its registers and its pools
pub record Move : Type 0 where
  pub arrivals : ℕ
  pub pending : Bounded Copied
  pub front : List Entry
  pub stage : Stage
  pub notes : List Note
  pub free : List ℕ
  pub spare : Option Spare
  pub listing : Option Listing
  pub copying : Copying
  pub share : Share

abbrev pub moved_to : DomainView → Move → DomainView
moved_to x m = record {
  own = record x.own { arrivals = m.arrivals; pending = m.pending };
  seen = record x.seen { front = m.front; stage = m.stage; notes = m.notes; free = m.free; spare = m.spare; listing = m.listing; copying = m.copying; share = m.share };
}

-- the domain stands where it stands, and knows what it knows
abbrev pub no_move : DomainView → Move
no_move x = record { arrivals = x.own.arrivals; pending = x.own.pending; front = x.seen.front; stage = x.seen.stage; notes = x.seen.notes; free = x.seen.free; spare = x.seen.spare; listing = x.seen.listing; copying = x.seen.copying; share = x.seen.share }

module _ (k : Config) (s : Words) (r : Rule k s) (id : ℕ) (hist : List Entry) (x : DomainView) (at : get_elem? s.views id ≡ some (one k hist x)) where
  -- what there is besides the words after a step of a pause
  abbrev pub turned : Pause → Tenancy → Cycling → Homes → Account
  turned pause' t' c' homes' = record r.account { pause = pause'; tenancy = t'; cycling = c'; homes = homes' }

  -- What a step of a pause owes: no entry stands, no block changes, and the phases may turn. The domain's list of copies may be emptied
  pub record Turns (y : DomainView) (pause' : Pause) (stock' : Stock) (c' : Cycling) (homes' : Homes) (words' : List ℕ) : Type 0 where
    pub full : Fullness k r.account.log r.account.live r.account.tenancy.holder r.account.tenancy.fresh r.account.tenancy.garbage homes' c'.kind
    pub paint : c'.paint ≡ r.account.cycling.paint
    pub cycle : Cycled k (state_of k r.account.log) r.account.live pause' (record r.account.tenancy { stock = stock' }) c' words'
    pub sharing : Sharing k (turned pause' (record r.account.tenancy { stock = stock' }) c' homes') words' y.own.number y.own.registers y.own.finalisers y.own.ephemerons.items y.seen.stage y.seen.share
    pub sharings : (z : DomainView) → z.own.number < k.domains → z.own.number ≢ x.own.number → Good k r.account s.words z
        → Sharing k (turned pause' (record r.account.tenancy { stock = stock' }) c' homes') words' z.own.number z.own.registers z.own.finalisers z.own.ephemerons.items z.seen.stage z.seen.share
    pub untouched : Untouched s.words words'
    pub front : (y.seen.front ≡ x.seen.front) ⊎ (y.seen.front ≡ r.account.log)
    pub phases : Phases k pause' words'
    pub endings : ended_word words' ≡ ended_word s.words
    pub staged : Staged pause' y
    pub still : Still r.account.log y
    pub free : (f : ℕ) → last_found y ≡ Some f → last_found x ≡ Some f
    pub resting : Resting k words' y
    pub owes : Owes k r.account.live y
    pub settled : Settled r.account.live ⊎ Promoting pause'
    pub cleared : AllCleared k r.account.live pause'
    pub emptied : Emptied k r.account.live pause'
    pub rooted : Rooted k pause' y
    pub roots : (z : DomainView) → z.own.number < k.domains → z.own.number ≢ x.own.number → Staged r.account.pause z → Rooted k r.account.pause z → Rooted k pause' z
    pub reserved : Reserved k pause' r.account.tenancy words'
    pub covered : Covered k pause' r.account.tenancy words'
    pub drawers : Drawers pause' (record r.account.tenancy { stock = stock' })
    pub room : Room k r.account.live pause' stock' words'
    pub unused : IsUnused pause' stock'
    pub drawable : Drawable k pause' words'
    pub hunter : Hunter k (record r.account.tenancy { stock = stock' }) words' y
    pub stocks : (d : ℕ) → d ≢ x.own.number → SameStock r.account.tenancy.stock stock' d
    pub others : (z : DomainView) → z.own.number < k.domains → z.own.number ≢ x.own.number → Staged r.account.pause z → Staged pause' z
    pub unwished : Unwished pause' words'
    pub took_back : TookBack words' y
    pub others_took_back : (z : DomainView) → Staged r.account.pause z → TookBack s.words z → TookBack words' z
    pub set_back : HasSetBack y → cursor words' ≤ limit_of k (listed words')
    pub sweeps : SweepsIn r.account.tenancy c' y
    pub others_sweep : (z : DomainView) → z.own.number < k.domains → z.own.number ≢ x.own.number → Good k r.account s.words z → SweepsIn r.account.tenancy c' z

  pub turns : (m : Move) (pause' : Pause) (stock' : Stock) (c' : Cycling) (homes' : Homes) (words' : List ℕ) → let y : DomainView = moved_to x m in Turns y pause' stock' c' homes' words'
      → Rule k record { words = words'; homes = s.homes; views = set s.views id (one k hist y) }
  turns m pause' stock' c' homes' words' o =
      let y : DomainView = moved_to x m in
      let g = my_good k s r id hist x at in
      let p = making_untouched k s.words words' x o.untouched g.making in
      let t' : Tenancy = record r.account.tenancy { stock = stock' } in
      let grid1 = grid_untouched k r.account.tenancy r.account.live s.words words' o.untouched r.whole.grid in
      let pools1 = pools_untouched k r.account.tenancy s.words words' o.untouched r.whole.pools in
      remakes k s r id hist x at y (turned pause' t' c' homes') words'
      record {
        wide = o.untouched.0 ∙ r.whole.wide;
        legal = r.whole.legal;
        full = o.full;
        found = subst (λ (paint : Paint). AllFound k paint r.account.live (state_of k r.account.log).graph words') (sym o.paint) (found_untouched k r.account.cycling.paint r.account.live (state_of k r.account.log).graph s.words words' o.untouched r.whole.found);
        placed = r.whole.placed;
        spread = r.whole.spread;
        settled = o.settled;
        copies = r.whole.copies;
        cleared = o.cleared;
        emptied = o.emptied;
        phases = o.phases;
        unwished = o.unwished;
        endings = o.endings ∙ r.whole.endings;
        pools = pools_stock k r.account.tenancy stock' words' pools1;
        reserved = o.reserved;
        covered = o.covered;
        grid = grid_stock k r.account.tenancy stock' r.account.live words' grid1;
        drawers = o.drawers;
        room = o.room;
        unused = o.unused;
        opened = opened_words k r.account.live s.words words' (λ _ _ _ _. (counts_untouched s.words words' o.untouched).0) r.whole.opened;
        drawable = o.drawable;
        cycle = o.cycle;
      }
      (knows_front k s r id hist x at y refl o.front)
      record {
        stood = record { wide = g.stood.wide; each = g.stood.each; serial = g.stood.serial; enrolled = g.stood.enrolled };
        area = record { room = g.area.room; free = g.area.free; classes = g.area.classes };
        making = record { fits = p.fits; written = p.written };
        staged = o.staged;
        still = o.still;
        hunter = o.hunter;
        resting = o.resting;
        took_back = o.took_back;
        owes = o.owes;
        rooted = o.rooted;
        set_back = o.set_back;
        sharing = o.sharing;
        listed = g.listed;
        sweeps = o.sweeps;
      }
      (λ z below other h. record {
        stood = h.stood;
        area = h.area;
        making = making_untouched k s.words words' z o.untouched h.making;
        staged = o.others z below other h.staged;
        still = h.still;
        hunter = hunter_stock k r.account.tenancy stock' words' z (o.stocks z.own.number other) (hunter_untouched k r.account.tenancy s.words words' z o.untouched h.hunter);
        resting = resting_untouched k s.words words' z o.untouched h.resting;
        took_back = o.others_took_back z h.staged h.took_back;
        owes = h.owes;
        rooted = o.roots z below other h.staged h.rooted;
        set_back = λ b. low_untouched k s.words words' o.untouched (h.set_back b);
        sharing = o.sharings z below other h;
        listed = h.listed;
        sweeps = o.others_sweep z below other h;
      })

  -- a step that leaves where all stand, and the front
  pub notes_rule : (notes : List Note) (words' : List ℕ) → let y : DomainView = moved_to x (record (no_move x) { notes = notes }) in Untouched s.words words' → changed_word words' ≡ changed_word s.words → Unwished r.account.pause words' → TookBack words' y
      → (HasSetBack y → HasSetBack x) → ((z : DomainView) → Staged r.account.pause z → TookBack s.words z → TookBack words' z) → get_or words' 1 0 ≡ get_or s.words 1 0 → get_or words' 2 0 ≡ get_or s.words 2 0 → ended_word words' ≡ ended_word s.words
      → Rule k record { words = words'; homes = s.homes; views = set s.views id (one k hist y) }
  notes_rule notes words' u changed unwished took_back set_back others_took_back b c e =
      let g = my_good k s r id hist x at in
      let m : Move = record (no_move x) { notes = notes } in
      let y : DomainView = moved_to x m in
      let t = r.account.tenancy in
      let counts = counts_untouched s.words words' u in
      let same : SameCycle s.words words' = cycle_untouched s.words words' u changed in
      let heap : (a : ℕ) → at_address k words' a ≡ at_address k s.words a = heap_untouched k s.words words' u in turns m r.account.pause t.stock r.account.cycling r.account.homes words' record {
        full = r.whole.full;
        paint = refl;
        cycle = cycle_words k (state_of k r.account.log) r.account.live r.account.pause t r.account.cycling s.words words' same heap r.whole.cycle;
        sharing = sharing_words k r.account r.account s.words words' x refl refl refl refl same heap g.sharing;
        sharings = λ z _ _ h. sharing_words k r.account r.account s.words words' z refl refl refl refl same heap h.sharing;
        owes = owes_as k r.account.live x y refl refl refl refl g.owes;
        settled = r.whole.settled;
        cleared = r.whole.cleared;
        emptied = r.whole.emptied;
        rooted = g.rooted;
        roots = λ z _ _ _ ro. ro;
        untouched = u;
        front = inl refl;
        phases = phases_words k r.account.pause s.words words' b c r.whole.phases;
        endings = e;
        staged = record { arrivals = g.staged.arrivals; stage = g.staged.stage };
        still = g.still;
        free = λ f e. e;
        resting = let rest = resting_untouched k s.words words' x u g.resting in record { hunt = rest.hunt; free = rest.free; spare = rest.spare; lists = rest.lists };
        reserved = reserved_untouched k r.account.pause t s.words words' u r.whole.pools r.whole.reserved;
        covered = covered_untouched k r.account.pause t s.words words' u r.whole.pools r.whole.covered;
        drawers = r.whole.drawers;
        room = room_words k r.account.live r.account.pause t.stock s.words words' (λ _. counts) r.whole.room;
        unused = r.whole.unused;
        drawable = record {
          to_run = λ j odd led runs. low_untouched k s.words words' u (r.whole.drawable.to_run j odd led runs);
          to_copy = λ j odd led copies. low_untouched k s.words words' u (r.whole.drawable.to_copy j odd led copies);
        };
        hunter = hunter_as k t words' x y refl refl refl refl refl refl refl (hunter_untouched k t s.words words' x u g.hunter);
        stocks = λ d _. stock_self t.stock d;
        others = λ z _ _ st. st;
        unwished = unwished;
        took_back = took_back;
        others_took_back = others_took_back;
        set_back = λ h. low_untouched k s.words words' u (g.set_back (set_back h));
        sweeps = g.sweeps;
        others_sweep = λ z _ _ h. h.sweeps;
      }

-- the last of a list that ends with a note
last_end : (o : Option Note) (notes : List Note) (n : Note) → last_from o (notes ++ n ∷ []) ≡ Some n
last_end o [] n = refl
last_end o (m ∷ notes) n = last_end (Some m) notes n

pub last_note_end : (notes : List Note) (n : Note) → last_note (notes ++ n ∷ []) ≡ Some n
last_note_end notes n = last_end None notes n
