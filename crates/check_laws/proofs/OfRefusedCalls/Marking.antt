-- What the clauses of marking, sweeping and of the rounds of ephemerons refuse.
use Rattle.std.proofs.Common.{◌≡◌, ◌≢◌, ◌∙◌, ℕ, ◌+◌, ◌<◌, ◌≤◌, true, false, Some, IsTrue, List, sym, ap, subst, ⊎_elim, arith}
use Rattle.std.proofs.lemmas.Bool.{false≢true}
use Rattle.heap_words.specs.declared.colours.Colours.{Colours}
use Rattle.heap_words.specs.declared.value.Value.TheVariants.{Ref}
use Rattle.heap_rule.specs.declared.config.Config.{Config}
use Rattle.heap_rule.specs.declared.phase.Kind.TheVariants.{Mark, Rounds}
use Rattle.heap_rule.specs.declared.phase.Stage.TheVariants.{In}
use Rattle.heap_rule.specs.declared.view.DomainView.{DomainView}
use Rattle.heap_rule.specs.declared.view.Held.TheVariants.{Queue}
use Rattle.heap_rule.specs.declared.view.Scan.TheVariants.{Reads}
use Rattle.heap_rule.specs.Changes.{value_at}
use Rattle.heap_rule.specs.Cycles.{seen_by}
use Rattle.heap_rule.specs.Finalisers.{held_at}
use Rattle.step_marks.specs.Marking.Marking.{Next, ScannedMay, Site}
use Rattle.gc_mark.specs.Decks.{AllMissed, DeckCounts, HasNoted, last_count, missed_at}
use Rattle.gc_mark.specs.Shares.{AllQueueRooted, AllRooted, AllWalked, Followed, IsQueueRoot, IsRoot, Scans}
use Rattle.do_ephemerons.specs.Emptied.{AllCleaned}
use Rattle.do_ephemerons.specs.Looking.{AllLooked}
use Rattle.gc_sweep.specs.Counting.{CountedLive}
use Rattle.gc_sweep.specs.Sweeping.{Swept, SweptAll}

-- no register that holds a block is left out where the roots are marked
pub no_register_is_left : (x y : DomainView) (r a : ℕ) → AllRooted x y → r < 16 → value_at y.own.registers r ≡ Ref a → (IsRoot y r → ⊥) → ⊥
no_register_is_left x y r a m few holds left = left (m.done r a few holds)

-- no place of the queue that keeps a block alive is left out, neither with the roots nor once more after finalisers were queued
pub no_queued_block_is_left : (x y : DomainView) (i a : ℕ) → AllRooted x y → held_at y.own.finalisers (Queue i) ≡ Some a → (IsQueueRoot y i → ⊥) → ⊥
no_queued_block_is_left x y i a m holds left = left (m.queued i a holds)

pub no_newly_queued_block_is_left : (x y : DomainView) (i a : ℕ) → AllQueueRooted x y → held_at y.own.finalisers (Queue i) ≡ Some a → (IsQueueRoot y i → ⊥) → ⊥
no_newly_queued_block_is_left x y i a m holds left = left (m.queued i a holds)

-- a round of marking goes to the last own pool, and leaves no block on the domain's account
pub a_round_settles_its_account : (x y : DomainView) (a : ℕ) → AllWalked x y → IsTrue (seen_by y.seen.share.account a) → ⊥
a_round_settles_its_account x y a w left = false≢true (subst (λ (l : List ℕ). IsTrue (seen_by l a)) w.followed left)

-- no head says that its block is scanned while a field of it is left
pub no_field_is_left_unscanned : (x : DomainView) (at new block done size word : ℕ) (site : Site) → ScannedMay x at new site → x.seen.share.scan ≡ Reads block done size word → done < size → ⊥
no_field_is_left_unscanned x at new block done size word site m reads left = let e : Reads at m.size m.size m.word ≡ Reads block done size word = sym m.scan ∙ reads in
    let n : ℕ = m.size in
    let a : n ≡ done = cc in
    let b : n ≡ size = cc in
    omega (arith, a, b, left)

-- and none of those that are scanned in Rounds lies at the next place of a walk
pub no_walk_goes_on_in_rounds : (x : DomainView) (at new pool class slot : ℕ) → ScannedMay x at new (Next pool class slot) → x.seen.stage ≢ In Rounds
no_walk_goes_on_in_rounds x at new pool class slot m rounds =
    let e : In m.kind ≡ In Rounds = sym m.stage ∙ rounds in
    let is : m.kind ≡ Rounds = cc in
    let none = m.anywhere is in cc

-- blocks are scanned in no phase but Mark and Rounds
pub no_scan_in_other_phases : (x : DomainView) (colours : Colours) → Scans colours x → x.seen.stage ≢ In Mark → x.seen.stage ≢ In Rounds → ⊥
no_scan_in_other_phases x colours s other another = ⊎_elim other another s.stage

-- what is scanned behind a datum leaves the store of the changed word owed
pub a_scan_still_owes_the_changed_word : (x y : DomainView) → Followed true x y → y.seen.share.owes ≡ false → ⊥
a_scan_still_owes_the_changed_word x y f paid = let e : true ≡ false = sym (ap (λ (u : DomainView). u.seen.share.owes) f) ∙ paid in cc

-- of the blocks that were darkened none is kept from the hints, while their count goes on: there is one hint of each, and nothing else can be noted
pub each_darkened_block_is_noted : (before after : ℕ) (l m : DeckCounts) → before < after → m.pushes < last_count → m.pushes ≤ l.pushes → HasNoted before after l m → ⊥
each_darkened_block_is_noted before after l m darkened goes_on none n =
    let a : ℕ = l.pushes in
    let b : ℕ = m.pushes in
    ⊎_elim (λ (e : a + after ≤ b + before). omega (arith, e, darkened, none)) (λ (e : last_count ≤ b). omega (arith, e, goes_on)) n

-- a slice says that no domain has a hint only where it has found each of them so
pub each_domain_is_asked_for_hints : (l m : DeckCounts) (d : ℕ) → d < l.domains → missed_at m d ≡ missed_at l d → missed_at m d < last_count → AllMissed l m → ⊥
each_domain_is_asked_for_hints l m d inside same goes_on all =
    let a : ℕ = missed_at l d in
    let b : ℕ = missed_at m d in
    ⊎_elim (λ (e : a < b). omega (arith, e, same)) (λ (e : last_count ≤ b). omega (arith, e, goes_on)) (all d inside)

-- no listed ephemeron is left out in a round of the data, and none where keys are emptied
pub each_ephemeron_is_looked_at : (x y : DomainView) (a : ℕ) → AllLooked x y → IsTrue (seen_by y.own.ephemerons.items a) → (IsTrue (seen_by y.seen.share.places_seen a) → ⊥) → ⊥
each_ephemeron_is_looked_at x y a all listed left = left (all.all a listed)

pub each_ephemeron_is_cleaned : (x y : DomainView) (a : ℕ) → AllCleaned x y → IsTrue (seen_by y.own.ephemerons.items a) → (IsTrue (seen_by y.seen.share.places_seen a) → ⊥) → ⊥
each_ephemeron_is_cleaned x y a all listed left = left (all.all a listed)

-- a slice of sweeping that looked at fewer places than it was asked to has left no own pool
pub a_short_slice_has_swept_all : (k : Config) (most count : ℕ) (x y : DomainView) → Swept k most count x y → count < most → y.own.swept.spot.pool < k.pools → ⊥
a_short_slice_has_swept_all k most count x y s short left = let done = s.rest short in omega (arith, done, left)

-- a slice of sweeping looks at no more places than it was asked to
pub no_slice_goes_further : (k : Config) (most count : ℕ) (x y : DomainView) → Swept k most count x y → most < count → ⊥
no_slice_goes_further k most count x y s more = let few = s.few in omega (arith, few, more)

-- before an own sweep ends no own pool is left
pub an_own_sweep_leaves_no_pool : (k : Config) (x y : DomainView) → SweptAll k x y → y.own.swept.spot.pool < k.pools → ⊥
an_own_sweep_leaves_no_pool k x y s left = let done = s.done in omega (arith, done, left)

-- what lives in the last own pool is counted too
pub counting_ends_behind_the_last_pool : (x y : DomainView) → CountedLive x y → y.seen.share.counted_to.pool < x.own.swept.top → ⊥
counting_ends_behind_the_last_pool x y c left = let whole = c.whole in omega (arith, whole, left)
