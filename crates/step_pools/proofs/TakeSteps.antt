-- The kinds of step that take a free block of the pools: each is allowed.
use Rattle.model_core.specs.Domains.{class_count}
use Rattle.std.proofs.Common.{◌≡◌, ℕ, ◌+◌, ◌-◌, ◌^◌, ◌%◌, ◌<◌, ◌≤◌, List, [], ◌∷◌, ◌++◌, length, get_or, set, Some, sym, refl, ap, ◌∙◌, subst, inl, arith, lt_of_not-le}
use mathlib.Core.Logic.{dite}
use native.Mathlib.Decide.{ℕ_discrete, dec_le}
use Rattle.atomic_table.specs.Table.{Me, keeps, Allows}
use Rattle.model_core.specs.declared.entry.Entry.{Entry}
use Rattle.heap_rule.specs.declared.config.Config.{Config}
use Rattle.heap_rule.specs.declared.view.DomainView.{DomainView}
use Rattle.heap_rule.specs.declared.view.Hunt.{Hunt}
use Rattle.heap_rule.specs.declared.view.Hunt.TheVariants.{Rests, Counts, Asks, Draws, Walks, Fills}
use Rattle.heap_rule.specs.declared.view.View.{View}
use Rattle.heap_rule.specs.declared.phase.Kind.TheVariants.{Run}
use Rattle.heap_rule.specs.declared.phase.Stage.TheVariants.{In}
use Rattle.heap_rule.specs.Layout.{before_heap, at_address, listed, cursor, listed_pool, owner_of}
use Rattle.heap_rule.specs.Views.{one, Tells}
use Rattle.heap_rule.specs.Raw.{MayStep, MayStore}
use Rattle.heap_rule.specs.Rule.{Rule}
use Rattle.heap_rule.specs.Pools.{Takes, owned, owner_word, Hunts, drawn_in, place_in, blocks_of, limit_of, search_at}
use Rattle.step_pools.specs.Writes.{pool_behind}
use Rattle.step_pools.specs.Takes.{with_hunt, found_free, looked_to, owning_pool, HasNoDraw, ListedTold, CursorTold, YoungMay, YoungTold, CursorAddTold, CopyDrawMay, CopyDrawTold, ListMay, ListTold, ClearMay, ClearTold, OwnedTold, FillTold, cleared_more, OwnerMay, OwnerLoadMay, OwnerTold, PlaceMay, PlaceTold, FillMay, filled, NoneFree}
use Rattle.heap_rule.proofs.Keeps.{unmoved, looks}
use Rattle.step_pools.proofs.DrawSteps.{hunter, leaves_spare, listed_rule, asks_rule, rests_rule, young_rule, past_bounds, add_whole, add_late_rule, add_draws_rule, add_place_inside, add_pool_inside, copy_whole, copy_draws_rule, copy_place_inside, copy_pool_inside}
use Rattle.step_pools.proofs.Rooms.{all_used, pool_left}
use Rattle.step_pools.proofs.WalkSteps.{walks_rule, passes_rule, takes_rule, full_rule, last_rule, clears_rule, owns_rule, fills_rule}
use Rattle.std.proofs.Math.Nat.{not-le_of_lt}

abbrev Seat : Type 0
Seat = Me (Unit {0}) View

listeds : (k : Config) (slots id : ℕ) (hist : List Entry) (x : DomainView) (runs : x.seen.stage ≡ In Run) → HasNoDraw x → Allows (Rule k) slots id (one k hist x, []) 6 (λ n. n) (Tells (ListedTold k) (one k hist x, []))
listeds k slots id hist x runs free s r _ at _ =
    let y : DomainView = with_hunt x (Counts (listed s.words)) in
    (one k hist y, keeps, tt, unmoved k s 6 (set s.views id (one k hist y)) (listed_rule k s r id hist x at (inl runs) free), (record { few = r.whole.pools.few; leaves = leaves_spare k s r id hist x at (inl runs); view = refl }, refl))

pub listed_may : (k : Config) (x : DomainView) (runs : x.seen.stage ≡ In Run) → HasNoDraw x → MayStep k x 6 (λ n. n) (ListedTold k)
listed_may k x runs free fits slots id h = listeds k slots id h x runs free

cursors : (k : Config) (slots id : ℕ) (hist : List Entry) (x : DomainView) (runs : x.seen.stage ≡ In Run) (count : ℕ) → x.seen.hunt ≡ Counts count → Allows (Rule k) slots id (one k hist x, []) 7 (λ n. n) (Tells (CursorTold k count) (one k hist x, []))
cursors k slots id hist x runs count hunt s r _ at _ = dite (dec_le (limit_of k count) (cursor s.words))
    (λ past. let y : DomainView = found_free x (count - limit_of k count) Rests in
    (one k hist y, keeps, tt, unmoved k s 7 (set s.views id (one k hist y)) (rests_rule k s r id hist x at (inl runs) runs count (count - limit_of k count) hunt (past_bounds k s r id hist x at (inl runs) count (cursor s.words) past)), (record { below = λ b. absurd (not-le_of_lt b past); past = λ p. refl }, refl)))
    (λ not_past. let below : cursor s.words < limit_of k count = lt_of_not-le not_past in let y : DomainView = found_free x (count - cursor s.words) (Asks count) in
    (one k hist y, keeps, tt, unmoved k s 7 (set s.views id (one k hist y)) (asks_rule k s r id hist x at (inl runs) runs count hunt below), (record { below = λ b. refl; past = λ p. absurd (not_past p) }, refl)))

pub cursor_may : (k : Config) (x : DomainView) (runs : x.seen.stage ≡ In Run) (count : ℕ) → x.seen.hunt ≡ Counts count → MayStep k x 7 (λ n. n) (CursorTold k count)
cursor_may k x runs count hunt fits slots id h = cursors k slots id h x runs count hunt

-- a domain that is to make a young block looks how many are listed
youngs : (k : Config) (slots id : ℕ) (hist : List Entry) (x : DomainView) → YoungMay k x → Allows (Rule k) slots id (one k hist x, []) 6 (λ n. n) (Tells (YoungTold k) (one k hist x, []))
youngs k slots id hist x may s r _ at _ =
    let y : DomainView = found_free x (listed s.words) Rests in
    (one k hist y, keeps, tt, unmoved k s 6 (set s.views id (one k hist y)) (young_rule k s r id hist x at (inl may.acts.runs) may.acts.runs may.at_rest), (record { few = r.whole.pools.few; view = refl }, refl))

pub young_may : (k : Config) (x : DomainView) → YoungMay k x → MayStep k x 6 (λ n. n) (YoungTold k)
young_may k x may fits slots id h = youngs k slots id h x may

cursor_adds : (k : Config) (slots id : ℕ) (hist : List Entry) (x : DomainView) (runs : x.seen.stage ≡ In Run) (count class : ℕ) → x.seen.hunt ≡ Asks count → class < class_count → NoneFree k x class → Allows (Rule k) slots id (one k hist x, []) 7 (λ n. (n + 1) % 2 ^ 64) (Tells (CursorAddTold k count class) (one k hist x, []))
cursor_adds k slots id hist x runs count class hunt few none_free s r _ at _ =
    let c : ℕ = cursor s.words in
    let same : c + 1 ≡ (c + 1) % 2 ^ 64 = sym (add_whole k s r id hist x at runs count hunt) in
    dite (dec_le (limit_of k count) c)
    (λ past. let y : DomainView = found_free x (count - limit_of k count) Rests in (
      one k hist y,
      keeps,
      tt,
      subst (λ (n : ℕ). Rule k record { words = set s.words 7 n; homes = s.homes; views = set s.views id (one k hist y) }) same (add_late_rule k s r id hist x at runs count hunt past),
      (record { below = λ b. absurd (let l : ℕ = limit_of k count in let p : l ≤ c = past in let q : c < l = b in omega arith); past = λ p. refl }, refl),
    ))
    (λ not_past.
    let below : c < limit_of k count = lt_of_not-le not_past in
    let y : DomainView = with_hunt x (Draws c (listed_pool s.words c) class 0) in (
      one k hist y,
      keeps,
      tt,
      subst (λ (n : ℕ). Rule k record { words = set s.words 7 n; homes = s.homes; views = set s.views id (one k hist y) }) same (add_draws_rule k s r id hist x at runs count hunt class few none_free below),
      (record { below = λ b. record { pool = listed_pool s.words c; listed_is = add_place_inside k s r id hist x at runs count hunt class few none_free below; inside = add_pool_inside k s r id hist x at runs count hunt class few none_free below; view = refl }; past = λ p. absurd (not_past p) }, refl),
    ))

pub cursor_add_may : (k : Config) (x : DomainView) (runs : x.seen.stage ≡ In Run) (count class : ℕ) → x.seen.hunt ≡ Asks count → class < class_count → NoneFree k x class → MayStep k x 7 (λ n. (n + 1) % 2 ^ 64) (CursorAddTold k count class)
cursor_add_may k x runs count class hunt few none_free fits slots id h = cursor_adds k slots id h x runs count class hunt few none_free

-- the add of a domain that copies young blocks
copy_draws : (k : Config) (slots id : ℕ) (hist : List Entry) (x : DomainView) (class : ℕ) → CopyDrawMay k x class → Allows (Rule k) slots id (one k hist x, []) 7 (λ n. (n + 1) % 2 ^ 64) (Tells (CopyDrawTold k class) (one k hist x, []))
copy_draws k slots id hist x class may s r _ at _ =
    let c : ℕ = cursor s.words in
    let low : c < listed s.words = pool_left k s r id hist x at class may in
    let used = all_used k s r id hist x at class may in
    let same : c + 1 ≡ (c + 1) % 2 ^ 64 = sym (copy_whole k s r id hist x at may.stage class may.of_class low may.at_rest may.none_free may.unprepared used) in
    let y : DomainView = with_hunt x (Draws c (listed_pool s.words c) class 0) in (
      one k hist y,
      keeps,
      tt,
      subst (λ (n : ℕ). Rule k record { words = set s.words 7 n; homes = s.homes; views = set s.views id (one k hist y) }) same (copy_draws_rule k s r id hist x at may.stage class may.of_class low may.at_rest may.none_free may.unprepared used),
      (record { pool = listed_pool s.words c; listed_is = copy_place_inside k s r id hist x at may.stage class may.of_class low may.at_rest may.none_free may.unprepared used; inside = copy_pool_inside k s r id hist x at may.stage class may.of_class low may.at_rest may.none_free may.unprepared used; view = refl }, refl),
    )

pub copy_draw_may : (k : Config) (x : DomainView) (class : ℕ) → CopyDrawMay k x class → MayStep k x 7 (λ n. (n + 1) % 2 ^ 64) (CopyDrawTold k class)
copy_draw_may k x class may fits slots id h = copy_draws k slots id h x class may

lists : (k : Config) (slots id : ℕ) (hist : List Entry) (x : DomainView) (takes : Takes x.seen.stage) (word : ℕ) → ListMay k x word → Allows (Rule k) slots id (one k hist x, []) word (λ n. n) (Tells ListTold (one k hist x, []))
lists k slots id hist x takes word may s r _ at _ =
    let d = subst (Hunts k r.account.tenancy s.words x.own.number) may.hunt (hunter k s r id hist x at takes).hunt in
    let found : get_or s.words word 0 ≡ may.pool = ap (λ (n : ℕ). get_or s.words n 0) may.word ∙ d.names in
    (one k hist x, keeps, tt, unmoved k s word (set s.views id (one k hist x)) (looks k s r id hist x at x.seen.front (inl refl)), (record { names = ap drawn_in may.hunt ∙ ap Some (sym found); view = refl }, refl))

pub list_may : (k : Config) (x : DomainView) (takes : Takes x.seen.stage) (word : ℕ) → ListMay k x word → MayStep k x word (λ n. n) ListTold
list_may k x takes word may fits slots id h = lists k slots id h x takes word may

clears : (k : Config) (slots id word : ℕ) (hist : List Entry) (x : DomainView) (takes : Takes x.seen.stage) (a new pool class cleared : ℕ) → word ≡ before_heap k + a → ClearMay x a new pool class cleared
    → Allows (Rule k) slots id (one k hist x, []) word (λ _. new) (λ _. Tells (λ y _ z. z ≡ with_hunt y (cleared_more y.seen.hunt)) (one k hist x, []) new)
clears k slots id word hist x takes a new pool class cleared here may s r _ at _ =
    let y : DomainView = with_hunt x (cleared_more x.seen.hunt) in
    let spot : before_heap k + place_in pool class cleared ≡ word = sym (here ∙ ap (λ (n : ℕ). before_heap k + n) may.word) in
    let hunt : Draws may.place pool class (cleared + 1) ≡ cleared_more x.seen.hunt = sym (ap cleared_more may.hunt) in
    (one k hist y, keeps, tt, subst (λ (n : ℕ × ℕ × Hunt). Rule k record { words = set s.words n.0 n.1; homes = s.homes; views = set s.views id (one k hist (with_hunt x n.2)) }) (λ i. (spot i, sym may.free i, hunt i)) (clears_rule k s r id hist x at takes may.place pool class cleared may.hunt may.some), (refl, refl))

pub clear_may : (k : Config) (x : DomainView) (takes : Takes x.seen.stage) (word a new pool class cleared : ℕ) → word ≡ before_heap k + a → ClearMay x a new pool class cleared → MayStore k x word new ClearTold
clear_may k x takes word a new pool class cleared here may fits slots id h = clears k slots id word h x takes a new pool class cleared here may

owns : (k : Config) (slots id word : ℕ) (hist : List Entry) (x : DomainView) (takes : Takes x.seen.stage) (new pool class : ℕ) → length x.own.looked ≡ class_count → OwnerMay k x word new pool class
    → Allows (Rule k) slots id (one k hist x, []) word (λ _. new) (λ _. Tells (OwnedTold pool class) (one k hist x, []) new)
owns k slots id word hist x takes new pool class wide may s r _ at _ =
    let y : DomainView = owning_pool x class pool (Fills pool class 0 []) in
    (one k hist y, keeps, tt, subst (λ (n : ℕ × ℕ). Rule k record { words = set s.words n.0 n.1; homes = s.homes; views = set s.views id (one k hist y) }) (λ i. (sym may.word i, sym may.signs i)) (owns_rule k s r id hist x at takes may.place pool class may.hunt may.none_free wide), (record { wide = wide; view = refl }, refl))

pub owner_may : (k : Config) (x : DomainView) (takes : Takes x.seen.stage) (word new pool class : ℕ) → OwnerMay k x word new pool class → MayStore k x word new (OwnedTold pool class)
owner_may k x takes word new pool class may fits slots id h = owns k slots id word h x takes new pool class fits.looked.wide may

owners : (k : Config) (slots id word : ℕ) (hist : List Entry) (x : DomainView) (takes : Takes x.seen.stage) (pool class : ℕ) → length x.own.looked ≡ class_count → OwnerLoadMay k x word pool class → Allows (Rule k) slots id (one k hist x, []) word (λ n. n) (Tells (OwnerTold k pool class) (one k hist x, []))
owners k slots id word hist x takes pool class wide may s r _ at _ =
    let found : ℕ = owner_of k s.words pool in
    let found_is : get_or s.words word 0 ≡ found = ap (λ (n : ℕ). get_or s.words n 0) may.word in
    dite (ℕ_discrete found (owner_word (owned x.own.number class)))
    (λ own. let y : DomainView = with_hunt x (Walks pool class) in
    (one k hist y, keeps, tt, unmoved k s word (set s.views id (one k hist y)) (walks_rule k s r id hist x at takes pool class may.inside may.of_class may.at_rest own), (record { wide = wide; own = λ e. refl; other = λ n. absurd (n (found_is ∙ own)) }, refl)))
    (λ other. let y : DomainView = looked_to x class (pool_behind k.pools x.own.swept.top pool (search_at x.own.looked class)) Rests in
    (one k hist y, keeps, tt, unmoved k s word (set s.views id (one k hist y)) (passes_rule k s r id hist x at takes pool class may.inside may.of_class may.at_rest other may.next wide), (record { wide = wide; own = λ e. absurd (other (sym found_is ∙ e)); other = λ n. refl }, refl)))

pub owner_load_may : (k : Config) (x : DomainView) (takes : Takes x.seen.stage) (word pool class : ℕ) → OwnerLoadMay k x word pool class → MayStep k x word (λ n. n) (OwnerTold k pool class)
owner_load_may k x takes word pool class may fits slots id h = owners k slots id word h x takes pool class fits.looked.wide may

places : (k : Config) (slots id word : ℕ) (hist : List Entry) (x : DomainView) (takes : Takes x.seen.stage) (a pool class slot : ℕ) → word ≡ before_heap k + a → length x.own.looked ≡ class_count → PlaceMay x a pool class slot → Allows (Rule k) slots id (one k hist x, []) word (λ n. n) (Tells (PlaceTold k pool class slot) (one k hist x, []))
places k slots id word hist x takes a pool class slot here wide may s r _ at _ =
    let found : ℕ = at_address k s.words (place_in pool class slot) in
    let found_is : get_or s.words word 0 ≡ found = ap (λ (n : ℕ). get_or s.words n 0) (here ∙ ap (λ (n : ℕ). before_heap k + n) may.word) in
    dite (ℕ_discrete found 0)
    (λ free. let y : DomainView = with_hunt x (Fills pool class slot []) in
    (one k hist y, keeps, tt, unmoved k s word (set s.views id (one k hist y)) (takes_rule k s r id hist x at takes pool class slot may.hunt may.inside free), (record { wide = wide; free = λ e. refl; full = λ n m. absurd (n (found_is ∙ free)); last = λ n m. absurd (n (found_is ∙ free)) }, refl)))
    (λ full. dite (dec_le (blocks_of class) (slot + 1))
    (λ last. let y : DomainView = looked_to x class (pool_behind k.pools x.own.swept.top pool (search_at x.own.looked class)) (Walks pool class) in
    (one k hist y, keeps, tt, unmoved k s word (set s.views id (one k hist y)) (last_rule k s r id hist x at takes pool class slot may.hunt may.inside full last may.next wide), (record { wide = wide; free = λ e. absurd (full (sym found_is ∙ e)); full = λ n m. absurd (let b : ℕ = blocks_of class in let l : b ≤ slot + 1 = last in let h : slot + 1 < b = m in omega arith); last = λ n m. refl }, refl)))
    (λ not_last. let y : DomainView = looked_to x class (record { pool = pool; slot = slot + 1; only = (search_at x.own.looked class).only }) (Walks pool class) in
    (one k hist y, keeps, tt, unmoved k s word (set s.views id (one k hist y)) (full_rule k s r id hist x at takes pool class slot may.hunt may.inside full may.next wide), (record { wide = wide; free = λ e. absurd (full (sym found_is ∙ e)); full = λ n m. refl; last = λ n m. absurd (not_last m) }, refl))))

pub place_may : (k : Config) (x : DomainView) (takes : Takes x.seen.stage) (word a pool class slot : ℕ) → word ≡ before_heap k + a → PlaceMay x a pool class slot → MayStep k x word (λ n. n) (PlaceTold k pool class slot)
place_may k x takes word a pool class slot here may fits slots id h = places k slots id word h x takes a pool class slot here fits.looked.wide may

fills : (k : Config) (slots id word : ℕ) (hist : List Entry) (x : DomainView) (takes : Takes x.seen.stage) (a new : ℕ) → word ≡ before_heap k + a → FillMay x a
    → Allows (Rule k) slots id (one k hist x, []) word (λ _. new) (λ _. Tells (λ y _ z. z ≡ with_hunt y (filled new y.seen.hunt)) (one k hist x, []) new)
fills k slots id word hist x takes a new here may s r _ at _ =
    let y : DomainView = with_hunt x (filled new x.seen.hunt) in
    let spot : before_heap k + (place_in may.pool may.class may.slot + 1 + length may.made) ≡ word = sym (here ∙ ap (λ (n : ℕ). before_heap k + n) may.word) in
    let hunt : Fills may.pool may.class may.slot (may.made ++ new ∷ []) ≡ filled new x.seen.hunt = sym (ap (filled new) may.hunt) in
    (one k hist y, keeps, tt, subst (λ (n : ℕ × Hunt). Rule k record { words = set s.words n.0 new; homes = s.homes; views = set s.views id (one k hist (with_hunt x n.1)) }) (λ i. (spot i, hunt i)) (fills_rule k s r id hist x at takes may.pool may.class may.slot new may.made may.hunt may.room), (refl, refl))

pub fill_may : (k : Config) (x : DomainView) (takes : Takes x.seen.stage) (word a new : ℕ) → word ≡ before_heap k + a → FillMay x a → MayStore k x word new FillTold
fill_may k x takes word a new here may fits slots id h = fills k slots id word h x takes a new here may
