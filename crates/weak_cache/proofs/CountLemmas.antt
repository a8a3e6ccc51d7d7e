-- How many keys of some stand behind a key, or nowhere, and what a use does to that.
use Rattle.std.proofs.Common.{◌≡◌, ◌≢◌, ◌⊎◌, inl, inr, ⊎_elim, ℕ, suc, ◌+◌, ◌<◌, ◌≤◌, Bool, true, false, cond, IsTrue, ◌||◌, List, [], ◌∷◌, length, Option, Some, None, refl, ap, sym, ◌∙◌, subst, arith}
use Rattle.model_core.specs.declared.label.Label.{Label}
use Rattle.model_core.specs.declared.entry.Entry.{Entry}
use Rattle.model_core.specs.declared.graph.Value.{Value}
use Rattle.model_core.specs.declared.graph.Value.TheVariants.{Block}
use Rattle.model_core.specs.declared.reply.Reply.{Reply}
use Rattle.model_core.specs.declared.state.Sizes.{Sizes}
use Rattle.model_core.specs.History.{IsPrefix}
use Rattle.model_core.specs.Graph.{has_label, same_label}
use Rattle.model_core.proofs.Commands.FrameLemmas.{label_cases}
use Rattle.model_core.proofs.Graphs.GraphLemmas.{same_label-true, same_label_refl}
use Rattle.model_core.proofs.Reach.ReachLemmas.{or_left, or_right}
use Rattle.weak_laws.specs.Tables.Structures.{Binding}
use Rattle.weak_laws.specs.Maps.Steps.{WasUnreached}
use Rattle.weak_laws.proofs.OfMaps.FrontLemmas.{prefix_same, prefix_trans}
use Rattle.weak_maps.proofs.CleanedLemmas.{less_or}
use Rattle.weak_cache.specs.Uses.{AreOnce, SlotsLeft, age, cached_in, is_of, pushed, put_first, taken, touched}
use Rattle.weak_cache.specs.Laws.{AreOf, Call, CallsOn, Deed, DoesCall, Found, Idle, IsAmong, IsNoPutOf, IsThere, IsUseOf, NonePuts, NoneUses, Put, Taken, TakenInCallsIsNotFound, Use, Used, UsedInCallsIsFound, UsedLastIsFound, UsesOf, done_by}
use Rattle.weak_cache.specs.Caches.{Gone, slots_after}
use Rattle.weak_cache.specs.Calls.{GetReturns, LeavesCache, PutsOrFull, TakeReturns}
use Rattle.weak_cache.proofs.EndLemmas.{slots_are}
use Rattle.weak_cache.proofs.OnceLemmas.{Slots, none_left, none_pushed, none_taken, taken_gone}
use Rattle.weak_cache.proofs.TakenLemmas.{comes_forward, order_kept, taken_long, taking_keeps}
use Rattle.weak_cache.proofs.LawLemmas.{age_hit, age_skip, apart_put, cache_bounded, further, loss_left, of_one, one_back, others_back, others_stay, put_found}

-- a key that stands before another stands behind fewer slots than there are, and no other stands there
age_apart : (x y : Label) (ss : Slots) → x ≢ y → age x ss < length ss → age x ss ≢ age y ss
age_apart x y [] differ less same = absurd (omega (arith, less))
age_apart x y (t ∷ ts) differ less same = by (is_of x t) refl (is_of y t) refl (λ a b. age_apart x y ts differ a b)
  where
    by : (a : Bool) → is_of x t ≡ a → (b : Bool) → is_of y t ≡ b → (age x ts < length ts → age x ts ≢ age y ts) → ⊥
    by true own b e rec =
        let other = of_one x y t (λ s. differ (sym s)) own in
        let none = age_hit x t ts own in
        let some = age_skip y t ts other in
        absurd (omega (arith, none, some, same))
    by false skip true own rec = let some = age_skip x t ts skip in let none = age_hit y t ts own in absurd (omega (arith, some, none, same))
    by false skip false other rec =
        let a = age_skip x t ts skip in
        let b = age_skip y t ts other in
        rec (omega (arith, less, a)) (omega (arith, same, a, b))

-- one before the key that is used goes one back, if there is a slot more
goes_one : (k l : Label) (differ : l ≢ k) (ss : Slots) (s : Option Binding) → is_of l s ≡ false → age l ss < age k ss → age l ss + 1 < length ss → age l (pushed k s ss) ≡ age l ss + 1
goes_one k l differ [] s apart less small = absurd (omega (arith, less))
goes_one k l differ (t ∷ ts) s apart less small = by (is_of k t) refl (is_of l t) refl (λ x y z. goes_one k l differ ts t x y z)
  where
    last : (us : Slots) → ts ≡ us → is_of k t ≡ false → is_of l t ≡ true → age l (pushed k s (t ∷ ts)) ≡ age l (t ∷ ts) + 1
    last [] is other own = let none = age_hit l t ts own in let long = ap length is in absurd (omega (arith, small, none, long))
    last (u ∷ us) is other own =
        let f = (further k l differ s t ts apart other).1 in
        let there : age l (pushed k t ts) ≡ 0 = ap (λ (xs : Slots). age l (pushed k t xs)) is ∙ (one_back k l differ t u us own).1 in
        let none = age_hit l t ts own in
        omega (arith, f, there, none)

    by : (a : Bool) → is_of k t ≡ a → (b : Bool) → is_of l t ≡ b → (is_of l t ≡ false → age l ts < age k ts → age l ts + 1 < length ts → age l (pushed k t ts) ≡ age l ts + 1) → age l (pushed k s (t ∷ ts)) ≡ age l (t ∷ ts) + 1
    by true own b e rec = let none = age_hit k t ts own in absurd (omega (arith, less, none))
    by false other true own rec = last ts refl other own
    by false other false skip rec =
        let a = age_skip l t ts skip in
        let b = age_skip k t ts other in
        let r = rec skip (omega (arith, less, a, b)) (omega (arith, small, a)) in
        let f = (further k l differ s t ts apart other).1 in
        omega (arith, f, r, a)

pushed_long : (k : Label) (s : Option Binding) (ss : Slots) → length (pushed k s ss) ≡ length ss
pushed_long k s [] = refl
pushed_long k s (t ∷ ts) = ap suc (by (is_of k t) (pushed_long k t ts))
  where
    by : (b : Bool) → length (pushed k t ts) ≡ length ts → length (cond b ts (pushed k t ts)) ≡ length ts
    by true r = refl
    by false r = r

left_long : (P : Label → Type 0) (ss ts : Slots) → SlotsLeft P ss ts → length ts ≡ length ss
left_long P [] [] left = refl
left_long P [] (t ∷ ts) left = absurd left
left_long P (s ∷ ss) [] left = absurd left
left_long P (s ∷ ss) (t ∷ ts) (one, rest) = ap suc (left_long P ss ts rest)

-- a key that stood before another stands before it still
before_stays : (k l m : Label) (w : Value) (ss : Slots) → l ≢ k → m ≢ k → age m ss < age k ss → age k ss < length ss → (age l ss < age k ss) ⊎ (age k ss + 1 < length ss) → age m (put_first l w ss) < age k (put_first l w ss)
before_stays k l m w ss differ other less there room = label_cases (age m (put_first l w ss) < age k (put_first l w ss)) m l same apart
  where
    some : 0 < length ss
    some = omega (arith, there)

    -- what becomes of the key behind
    behind : (age l ss < age k ss) ⊎ (age k ss < age l ss) → ((age k (put_first l w ss) ≡ age k ss) × (age l ss < age k ss)) ⊎ (age k (put_first l w ss) ≡ age k ss + 1)
    behind (inl first) = inl ((others_stay l k w ss (λ e. differ (sym e)) first).1, first)
    behind (inr later) = inr (goes_one l k (λ e. differ (sym e)) ss (Some (l, w)) (apart_put l k w (λ e. differ (sym e))) later
        (⊎_elim (λ first. absurd (omega (arith, first, later))) (λ more. more) room))

    order : (x y : Label) → x ≢ y → age x ss < length ss → (age y ss < age x ss) ⊎ (age x ss < age y ss)
    order x y apart small = ⊎_elim (λ first. inl first) (λ far. inr (⊎_elim (λ less. less) (λ equal. absurd (age_apart x y ss apart small (omega (arith, far, equal)))) (less_or (age x ss) (age y ss)))) (less_or (age y ss) (age x ss))

    same : m ≡ l → age m (put_first l w ss) < age k (put_first l w ss)
    same is =
        let first : age m (put_first l w ss) ≡ 0 = ap (λ (x : Label). age x (put_first l w ss)) is ∙ (put_found l w ss some).1 in
        ⊎_elim (λ b. let stays = b.0 in omega (arith, first, stays, less)) (λ b. omega (arith, first, b)) (behind (order k l (λ e. differ (sym e)) there))

    apart : m ≢ l → age m (put_first l w ss) < age k (put_first l w ss)
    apart is = ⊎_elim
        (λ first.
        let stays = (others_stay l m w ss is first).1 in
        ⊎_elim (λ b. let k_stays = b.0 in omega (arith, stays, k_stays, less)) (λ b. omega (arith, stays, b, less)) (behind (order k l (λ e. differ (sym e)) there)))
        (λ later.
        let back = goes_one l m is ss (Some (l, w)) (apart_put l m w is) later (omega (arith, less, there)) in
        ⊎_elim (λ b. let k_stays = b.0 in let first = b.1 in omega (arith, back, k_stays, first, later)) (λ b. omega (arith, back, b, less)) (behind (order k l (λ e. differ (sym e)) there)))
        (order m l is (omega (arith, less, there)))

-- 1 for a key that doesn't stand before another, and how many of some don't
abbrev newcomer : (a b : ℕ) → (a < b) ⊎ (b ≤ a) → ℕ
newcomer a b (inl before) = 0
newcomer a b (inr behind) = 1

abbrev newcomers : Label → List Label → Slots → ℕ
newcomers k [] ss = 0
newcomers k (m ∷ ms) ss = newcomer (age m ss) (age k ss) (less_or (age m ss) (age k ss)) + newcomers k ms ss

newcomer_most : (a b : ℕ) (x : (a < b) ⊎ (b ≤ a)) → newcomer a b x ≤ 1
newcomer_most a b (inl before) = omega arith
newcomer_most a b (inr behind) = omega arith

newcomer_none : (a b : ℕ) (x : (a < b) ⊎ (b ≤ a)) → a < b → newcomer a b x ≡ 0
newcomer_none a b (inl before) less = refl
newcomer_none a b (inr behind) less = absurd (omega (arith, behind, less))

newcomer_one : (a b : ℕ) (x : (a < b) ⊎ (b ≤ a)) → b ≤ a → newcomer a b x ≡ 1
newcomer_one a b (inl before) far = absurd (omega (arith, before, far))
newcomer_one a b (inr behind) far = refl

-- no more than before, where one that stood before stands before still
newcomer_less : (a b e f : ℕ) (x : (a < b) ⊎ (b ≤ a)) (y : (e < f) ⊎ (f ≤ e)) → (a < b → e < f) → newcomer e f y ≤ newcomer a b x
newcomer_less a b e f (inl before) y on = let none = newcomer_none e f y (on before) in omega (arith, none)
newcomer_less a b e f (inr behind) y on = newcomer_most e f y

newcomers_few : (k : Label) (ms : List Label) (ss : Slots) → newcomers k ms ss ≤ length ms
newcomers_few k [] ss = omega arith
newcomers_few k (m ∷ ms) ss = let one = newcomer_most (age m ss) (age k ss) (less_or (age m ss) (age k ss)) in let rest = newcomers_few k ms ss in omega (arith, one, rest)

newcomers_less : (k : Label) (ms : List Label) (ss ts : Slots) → ((m : Label) → age m ss < age k ss → age m ts < age k ts) → newcomers k ms ts ≤ newcomers k ms ss
newcomers_less k [] ss ts on = omega arith
newcomers_less k (m ∷ ms) ss ts on =
    let one = newcomer_less (age m ss) (age k ss) (age m ts) (age k ts) (less_or (age m ss) (age k ss)) (less_or (age m ts) (age k ts)) (on m) in
    let rest = newcomers_less k ms ss ts on in
    omega (arith, one, rest)

-- one fewer, where one comes before
newcomers_one : (k l : Label) (ms : List Label) (ss ts : Slots) → ((m : Label) → age m ss < age k ss → age m ts < age k ts) → IsAmong ms l → age k ss ≤ age l ss → age l ts < age k ts → newcomers k ms ts + 1 ≤ newcomers k ms ss
newcomers_one k l [] ss ts on there far before = let clash : false ≡ true = there in cc
newcomers_one k l (m ∷ ms) ss ts on there far before = by (same_label m l) refl (λ x. newcomers_one k l ms ss ts on x far before)
  where
    by : (b : Bool) → same_label m l ≡ b → (IsAmong ms l → newcomers k ms ts + 1 ≤ newcomers k ms ss) → newcomers k (m ∷ ms) ts + 1 ≤ newcomers k (m ∷ ms) ss
    by true own rec =
        let is = same_label-true m l own in
        let was = newcomer_one (age m ss) (age k ss) (less_or (age m ss) (age k ss)) (subst (λ (x : Label). age k ss ≤ age x ss) (sym is) far) in
        let now = newcomer_none (age m ts) (age k ts) (less_or (age m ts) (age k ts)) (subst (λ (x : Label). age x ts < age k ts) (sym is) before) in
        let rest = newcomers_less k ms ss ts on in
        omega (arith, was, now, rest)
    by false other rec =
        let one = newcomer_less (age m ss) (age k ss) (age m ts) (age k ts) (less_or (age m ss) (age k ss)) (less_or (age m ts) (age k ts)) (on m) in
        let r = rec (subst (λ (b : Bool). IsTrue (b || has_label ms l)) other there) in
        omega (arith, one, r)

newcomers_some : (k l : Label) (ms : List Label) (ss : Slots) → IsAmong ms l → age k ss ≤ age l ss → 1 ≤ newcomers k ms ss
newcomers_some k l [] ss there far = let clash : false ≡ true = there in cc
newcomers_some k l (m ∷ ms) ss there far = by (same_label m l) refl (λ x. newcomers_some k l ms ss x far)
  where
    by : (b : Bool) → same_label m l ≡ b → (IsAmong ms l → 1 ≤ newcomers k ms ss) → 1 ≤ newcomers k (m ∷ ms) ss
    by true own rec =
        let is = same_label-true m l own in
        let was = newcomer_one (age m ss) (age k ss) (less_or (age m ss) (age k ss)) (subst (λ (x : Label). age k ss ≤ age x ss) (sym is) far) in
        omega (arith, was)
    by false other rec = let r = rec (subst (λ (b : Bool). IsTrue (b || has_label ms l)) other there) in omega (arith, r)

-- the names that aren't lost
abbrev without_lost : List Label → List Label → List Label
without_lost lost [] = []
without_lost lost (m ∷ ms) = cond (has_label lost m) (without_lost lost ms) (m ∷ without_lost lost ms)

not_there : (b : Bool) → (IsTrue b → ⊥) → b ≡ false
not_there true none = absurd (none refl)
not_there false none = refl

newcomers_lost : (k : Label) (lost ms : List Label) (ss ts : Slots) → SlotsLeft (IsAmong lost) ss ts → (IsAmong lost k → ⊥) → newcomers k (without_lost lost ms) ts ≤ newcomers k ms ss
newcomers_lost k lost [] ss ts left own = omega arith
newcomers_lost k lost (m ∷ ms) ss ts left own = by (has_label lost m) refl (newcomers_lost k lost ms ss ts left own)
  where
    by : (b : Bool) → has_label lost m ≡ b → newcomers k (without_lost lost ms) ts ≤ newcomers k ms ss → newcomers k (cond b (without_lost lost ms) (m ∷ without_lost lost ms)) ts ≤ newcomers k (m ∷ ms) ss
    by true e rec = omega (arith, rec)
    by false e rec =
        let a = (loss_left (IsAmong lost) ss ts left m (λ there. let clash : false ≡ true = sym e ∙ there in cc)).1 in
        let b = (loss_left (IsAmong lost) ss ts left k own).1 in
        let one = newcomer_less (age m ss) (age k ss) (age m ts) (age k ts) (less_or (age m ss) (age k ss)) (less_or (age m ts) (age k ts)) (λ less. omega (arith, less, a, b)) in
        omega (arith, one, rec)

among_kept : (lost ms : List Label) (l : Label) → IsAmong ms l → (IsAmong lost l → ⊥) → IsAmong (without_lost lost ms) l
among_kept lost [] l there none = there
among_kept lost (m ∷ ms) l there none = by (has_label lost m) refl (same_label m l) refl (λ x. among_kept lost ms l x none)
  where
    by : (a : Bool) → has_label lost m ≡ a → (b : Bool) → same_label m l ≡ b → (IsAmong ms l → IsAmong (without_lost lost ms) l) → IsAmong (cond a (without_lost lost ms) (m ∷ without_lost lost ms)) l
    by true e true own rec = absurd (none (ap (has_label lost) (sym (same_label-true m l own)) ∙ e))
    by true e false other rec = rec (subst (λ (b : Bool). IsTrue (b || has_label ms l)) other there)
    by false e true own rec = ap (λ (b : Bool). b || has_label (without_lost lost ms) l) own
    by false e false other rec = subst (λ (b : Bool). IsTrue (b || has_label (without_lost lost ms) l)) (sym other) (rec (subst (λ (b : Bool). IsTrue (b || has_label ms l)) other there))

of_kept : (lost names : List Label) (k : Label) (us : List Use) → AreOf names k us → NoneUses lost us → AreOf (without_lost lost names) k us
of_kept lost names k [] are none = tt
of_kept lost names k (u ∷ us) (there, differ, own, rest) (unused, more) = (among_kept lost names u.key there unused, differ, own, of_kept lost names k us rest more)

behind_first : (k l : Label) (w : Value) (ss : Slots) → k ≢ l → 0 < length ss → 0 < age k (put_first l w ss)
behind_first k l w [] differ some = absurd (omega (arith, some))
behind_first k l w (t ∷ ts) differ some = let later = age_skip k (Some (l, w)) (cond (is_of l t) ts (pushed l t ts)) (apart_put l k w differ) in omega (arith, later)

-- a use of one of the names: a key stays as long as there is a slot for each newcomer
use_step : (k l : Label) (v w : Value) (names : List Label) (ss : Slots) → l ≢ k → IsAmong names l → cached_in k ss ≡ Some v → age k ss + newcomers k names ss < length ss
    → (cached_in k (put_first l w ss) ≡ Some v) × (age k (put_first l w ss) + newcomers k names (put_first l w ss) ≤ age k ss + newcomers k names ss)
use_step k l v w names ss differ there has room = ⊎_elim
    (λ first.
    let stay = others_stay l k w ss (λ e. differ (sym e)) first in
    let fewer = newcomers_less k names ss (put_first l w ss) (on (inl first)) in
    let same = stay.1 in
    (stay.0 ∙ has, omega (arith, fewer, same)))
    (λ far.
    let one = newcomers_some k l names ss there far in
    let small : age k ss + 1 < length ss = omega (arith, one, room) in
    let back = others_back l k w v ss (λ e. differ (sym e)) has small in
    let put = (put_found l w ss (omega (arith, small))).1 in
    let behind = behind_first k l w ss (λ e. differ (sym e)) (omega (arith, small)) in
    let fewer = newcomers_one k l names ss (put_first l w ss) (on (inr small)) there far (omega (arith, put, behind)) in
    let less = back.1 in
    (back.0, omega (arith, fewer, less)))
    (less_or (age l ss) (age k ss))
  where
    on : (age l ss < age k ss) ⊎ (age k ss + 1 < length ss) → (m : Label) → age m ss < age k ss → age m (put_first l w ss) < age k (put_first l w ss)
    on either m less = before_stays k l m w ss differ (λ same. absurd (let e : age m ss ≡ age k ss = ap (λ (x : Label). age x ss) same in omega (arith, less, e))) less (omega (arith, room)) either

-- over all uses
stays_on : (k : Label) (v : Value) (us : List Use) (names : List Label) (ss ts : Slots) → Used us ss ts → AreOf names k us → cached_in k ss ≡ Some v → age k ss + newcomers k names ss < length ss → cached_in k ts ≡ Some v
stays_on k v [] names ss ts is are has room = ap (cached_in k) is ∙ has
stays_on k v (u ∷ us) names ss ts (ms, left, unused, later) (there, differ, own, rest) has room =
    stays_on k v us (without_lost u.lost names) ms ts later (of_kept u.lost names k us rest unused) (kept.0 ∙ used.0)
    (let lost = newcomers_lost k u.lost names (put_first u.key u.value ss) ms left own in
    let same = kept.1 in
    let fewer = used.1 in
    let long = left_long (IsAmong u.lost) (put_first u.key u.value ss) ms left in
    let long2 = pushed_long u.key (Some (u.key, u.value)) ss in
    omega (arith, lost, same, fewer, long, long2, room))
  where
    kept : (cached_in k ms ≡ cached_in k (put_first u.key u.value ss)) × (age k ms ≡ age k (put_first u.key u.value ss))
    kept = loss_left (IsAmong u.lost) (put_first u.key u.value ss) ms left k own

    used : (cached_in k (put_first u.key u.value ss) ≡ Some v) × (age k (put_first u.key u.value ss) + newcomers k names (put_first u.key u.value ss) ≤ age k ss + newcomers k names ss)
    used = use_step k u.key v u.value names ss differ there has room

pub used_found : UsedLastIsFound
used_found k v names us ss ts uses are few =
    let put = put_found k v ss (omega (arith, few)) in
    let first = put.1 in
    let most = newcomers_few k names (put_first k v ss) in
    let long = pushed_long k (Some (k, v)) ss in
    stays_on k v us names (put_first k v ss) ts uses are put.0 (omega (arith, few, first, most, long))

-- what was outside reach in a part of a history was so in all of it
unreached_wider : (z : Sizes) (old new later earlier : List Entry) (l : Label) → IsPrefix old later → IsPrefix earlier new → WasUnreached z later earlier l → WasUnreached z old new l
unreached_wider z old new later earlier l since until w = record { front = w.front; since = prefix_trans old later w.front since w.since; until = prefix_trans w.front earlier new w.until until; outside = w.outside }

calls_grow : (z : Sizes) (d : ℕ) (c : Label) (size : ℕ) (calls : List Call) (old new : List Entry) → CallsOn z d c size calls old new → IsPrefix old new
calls_grow z d c size [] old new x = x.0
calls_grow z d c size (y ∷ ys) old new (rests, (grows, there, leaves), more) = prefix_trans old y.old new rests.0 (prefix_trans y.old y.new new grows (calls_grow z d c size ys y.new new more))

-- where no name is lost, nor the key, all stays
newcomers_kept : (P : Label → Type 0) (k : Label) (ms : List Label) (ss ts : Slots) → SlotsLeft P ss ts → (P k → ⊥) → ((m : Label) → IsAmong ms m → P m → ⊥) → newcomers k ms ts ≤ newcomers k ms ss
newcomers_kept P k [] ss ts left own none = omega arith
newcomers_kept P k (m ∷ ms) ss ts left own none =
    let a = (loss_left P ss ts left m (none m (or_left (same_label m m) (has_label ms m) (same_label_refl m)))).1 in
    let b = (loss_left P ss ts left k own).1 in
    let one = newcomer_less (age m ss) (age k ss) (age m ts) (age k ts) (less_or (age m ss) (age k ss)) (less_or (age m ts) (age k ts)) (λ less. omega (arith, less, a, b)) in
    let rest = newcomers_kept P k ms ss ts left own (λ x there. none x (or_right (same_label m x) (has_label ms x) there)) in
    omega (arith, one, rest)

-- a key is there, with a slot for each newcomer
record Stays (k : Label) (v : Value) (names : List Label) (ss : Slots) : Type 0 where
  has : cached_in k ss ≡ Some v
  room : age k ss + newcomers k names ss < length ss

stays_left : (P : Label → Type 0) (k : Label) (v : Value) (names : List Label) (ss ts : Slots) → SlotsLeft P ss ts → ((m : Label) → (m ≡ k) ⊎ IsAmong names m → P m → ⊥) → Stays k v names ss → Stays k v names ts
stays_left P k v names ss ts left none x =
    let kept = loss_left P ss ts left k (none k (inl refl)) in
    let fewer = newcomers_kept P k names ss ts left (none k (inl refl)) (λ m there. none m (inr there)) in
    let long = left_long P ss ts left in
    let same = kept.1 in
    let room = x.room in
    record { has = kept.0 ∙ x.has; room = omega (arith, fewer, long, same, room) }

-- where one name is taken out at most one stands before the key no more
newcomers_kept_among : (k : Label) (ms : List Label) (ss ts : Slots) → ((m : Label) → IsAmong ms m → age m ss < age k ss → age m ts < age k ts) → newcomers k ms ts ≤ newcomers k ms ss
newcomers_kept_among k [] ss ts on = omega arith
newcomers_kept_among k (m ∷ ms) ss ts on =
    let one = newcomer_less (age m ss) (age k ss) (age m ts) (age k ts) (less_or (age m ss) (age k ss)) (less_or (age m ts) (age k ts)) (on m (or_left (same_label m m) (has_label ms m) (same_label_refl m))) in
    let rest = newcomers_kept_among k ms ss ts (λ x there. on x (or_right (same_label m x) (has_label ms x) there)) in
    omega (arith, one, rest)

-- names of which none comes twice
abbrev Distinct : List Label → Type 0
Distinct [] = Unit {0}
Distinct (m ∷ ms) = (IsAmong ms m → ⊥) × Distinct ms

newcomers_most : (k l : Label) (ms : List Label) (ss ts : Slots) → Distinct ms → ((m : Label) → m ≢ l → age m ss < age k ss → age m ts < age k ts) → newcomers k ms ts ≤ newcomers k ms ss + 1
newcomers_most k l [] ss ts once on = omega arith
newcomers_most k l (m ∷ ms) ss ts (new, once) on = label_cases (newcomers k (m ∷ ms) ts ≤ newcomers k (m ∷ ms) ss + 1) m l
    (λ same.
    let one = newcomer_most (age m ts) (age k ts) (less_or (age m ts) (age k ts)) in
    let rest = newcomers_kept_among k ms ss ts (λ x there less. on x (λ e. new (subst (IsAmong ms) (e ∙ sym same) there)) less) in
    omega (arith, one, rest))
    (λ differ.
    let one = newcomer_less (age m ss) (age k ss) (age m ts) (age k ts) (less_or (age m ss) (age k ss)) (less_or (age m ts) (age k ts)) (on m differ) in
    let rest = newcomers_most k l ms ss ts once on in
    omega (arith, one, rest))

take_step : (k l : Label) (names : List Label) (ss : Slots) → k ≢ l → Distinct names → age k ss < length ss → age k (taken l ss) + newcomers k names (taken l ss) ≤ age k ss + newcomers k names ss
take_step k l names ss differ once small = ⊎_elim
    (λ first.
    let one = comes_forward l k ss differ first small in
    let more = newcomers_most k l names ss (taken l ss) once (λ m other less. order_kept l k m ss differ other less) in
    omega (arith, one, more))
    (λ far.
    let kept = (taking_keeps l k ss differ).1 in
    let same = newcomers_kept_among k names ss (taken l ss) (λ m there less. order_kept l k m ss differ (λ e. let is : age m ss ≡ age l ss = ap (λ (x : Label). age x ss) e in absurd (omega (arith, less, far, is))) less) in
    omega (arith, kept, same))
    (less_or (age l ss) (age k ss))

-- names without those that come again
abbrev distinct : List Label → List Label
distinct [] = []
distinct (m ∷ ms) = cond (has_label ms m) (distinct ms) (m ∷ distinct ms)

distinct_short : (ms : List Label) → length (distinct ms) ≤ length ms
distinct_short [] = omega arith
distinct_short (m ∷ ms) = by (has_label ms m) (distinct_short ms)
  where
    by : (b : Bool) → length (distinct ms) ≤ length ms → length (cond b (distinct ms) (m ∷ distinct ms)) ≤ suc (length ms)
    by true rest = omega (arith, rest)
    by false rest = omega (arith, rest)

to_distinct : (ms : List Label) (l : Label) → IsAmong ms l → IsAmong (distinct ms) l
to_distinct [] l there = there
to_distinct (m ∷ ms) l there = by (has_label ms m) refl (same_label m l) refl (λ x. to_distinct ms l x)
  where
    by : (a : Bool) → has_label ms m ≡ a → (b : Bool) → same_label m l ≡ b → (IsAmong ms l → IsAmong (distinct ms) l) → IsAmong (cond a (distinct ms) (m ∷ distinct ms)) l
    by true e true own rec = rec (subst (IsAmong ms) (same_label-true m l own) e)
    by true e false other rec = rec (subst (λ (b : Bool). IsTrue (b || has_label ms l)) other there)
    by false e true own rec = ap (λ (b : Bool). b || has_label (distinct ms) l) own
    by false e false other rec = subst (λ (b : Bool). IsTrue (b || has_label (distinct ms) l)) (sym other) (rec (subst (λ (b : Bool). IsTrue (b || has_label ms l)) other there))

from_distinct : (ms : List Label) (l : Label) → IsAmong (distinct ms) l → IsAmong ms l
from_distinct [] l there = there
from_distinct (m ∷ ms) l there = by (has_label ms m) (λ x. from_distinct ms l x) there
  where
    by : (a : Bool) → (IsAmong (distinct ms) l → IsAmong ms l) → IsAmong (cond a (distinct ms) (m ∷ distinct ms)) l → IsAmong (m ∷ ms) l
    by true rec x = or_right (same_label m l) (has_label ms l) (rec x)
    by false rec x = again (same_label m l) refl rec x
      where
        again : (b : Bool) → same_label m l ≡ b → (IsAmong (distinct ms) l → IsAmong ms l) → IsAmong (m ∷ distinct ms) l → IsAmong (m ∷ ms) l
        again true own more y = or_left (same_label m l) (has_label ms l) own
        again false other more y = or_right (same_label m l) (has_label ms l) (more (subst (λ (b : Bool). IsTrue (b || has_label (distinct ms) l)) other y))

distinct_once : (ms : List Label) → Distinct (distinct ms)
distinct_once [] = tt
distinct_once (m ∷ ms) = by (has_label ms m) refl (distinct_once ms)
  where
    by : (a : Bool) → has_label ms m ≡ a → Distinct (distinct ms) → Distinct (cond a (distinct ms) (m ∷ distinct ms))
    by true e rest = rest
    by false e rest = ((λ there. let clash : false ≡ true = sym e ∙ from_distinct ms m there in cc), rest)

of_distinct : (names : List Label) (k : Label) (calls : List Call) → UsesOf names k calls → UsesOf (distinct names) k calls
of_distinct names k [] uses = tt
of_distinct names k (y ∷ ys) (first_use, uses) = (by y.deed first_use, of_distinct names k ys uses)
  where
    by : (deed : Deed) → IsUseOf names k y.key deed → IsUseOf (distinct names) k y.key deed
    by (Put v) x = (to_distinct names y.key x.0, x.1)
    by (Found v) x = (to_distinct names y.key x.0, x.1)
    by Taken x = x
    by Idle x = x

stays_put : (k l : Label) (v w : Value) (names : List Label) (ss : Slots) → l ≢ k → IsAmong names l → Stays k v names ss → Stays k v names (put_first l w ss)
stays_put k l v w names ss differ there x =
    let used = use_step k l v w names ss differ there x.has x.room in
    let long = pushed_long l (Some (l, w)) ss in
    let fewer = used.1 in
    let room = x.room in
    record { has = used.0; room = omega (arith, fewer, long, room) }

stays_done : (k l : Label) (v : Value) (names : List Label) (deed : Deed) (ss : Slots) → Distinct names → IsUseOf names k l deed → Stays k v names ss → Stays k v names (done_by deed l ss)
stays_done k l v names (Put w) ss once of x = stays_put k l v w names ss of.1 of.0 x
stays_done k l v names (Found w) ss once of x = stays_put k l v w names ss of.1 of.0 x
stays_done k l v names Taken ss once of x =
    let room = x.room in
    let step = take_step k l names ss (λ e. of (sym e)) once (omega (arith, room)) in
    let long = taken_long l ss in
    record { has = (taking_keeps l k ss (λ e. of (sym e))).0 ∙ x.has; room = omega (arith, step, long, room) }
stays_done k l v names Idle ss once of x = x

calls_keep : (z : Sizes) (d : ℕ) (c : Label) (size : ℕ) (k : Label) (v : Value) (names : List Label) (calls : List Call) (old last : List Entry) → Distinct names → CallsOn z d c size calls old last → UsesOf names k calls
    → ((l : Label) → (l ≡ k) ⊎ IsAmong names l → WasUnreached z old last l → ⊥) → Stays k v names (slots_after z old c) → Stays k v names (slots_after z last c)
calls_keep z d c size k v names [] old last once (grows, left) uses reached x = stays_left (WasUnreached z old last) k v names (slots_after z old c) (slots_after z last c) left reached x
calls_keep z d c size k v names (y ∷ ys) old last once (rests, (grows, there, leaves), more) (first_use, uses) reached x =
    let later = calls_grow z d c size ys y.new last more in
    let whole = prefix_trans y.old y.new last grows later in
    let ready = stays_left (WasUnreached z old y.old) k v names (slots_after z old c) (slots_after z y.old c) rests.1
    (λ l one gone. reached l one (unreached_wider z old last old y.old l (prefix_same old) whole gone)) x in
    let done = stays_done k y.key v names y.deed (slots_after z y.old c) once first_use ready in
    let left = stays_left (Gone z y.key y.old y.new) k v names (done_by y.deed y.key (slots_after z y.old c)) (slots_after z y.new c) leaves.left
    (λ l one gone. reached l one (unreached_wider z old last y.old y.new l rests.0 later gone.0)) done in
    calls_keep z d c size k v names ys y.new last once more uses (λ l one gone. reached l one (unreached_wider z old last y.new last l (prefix_trans old y.old y.new rests.0 grows) (prefix_same last) gone)) left

pub used_in_calls : UsedInCallsIsFound
used_in_calls z d c size k v names calls before first last grows leaves on uses few reached =
    let ss : Slots = slots_after z before c in
    let ms : List Label = distinct names in
    let apart = (λ (l : Label) (one : (l ≡ k) ⊎ IsAmong ms l). ⊎_elim (λ same. reached l (inl same)) (λ there. reached l (inr (from_distinct names l there))) one) in
    let short = distinct_short names in
    let long = left_long (Gone z k before first) (put_first k v ss) (slots_after z first c) leaves.left in
    let size_is = cache_bounded z first c size leaves.cache in
    let long2 = pushed_long k (Some (k, v)) ss in
    let put = put_found k v ss (omega (arith, few, long, long2, size_is)) in
    let most = newcomers_few k ms (put_first k v ss) in
    let young = put.1 in
    let start : Stays k v ms (put_first k v ss) = record { has = put.0; room = omega (arith, young, most, few, short, long, long2, size_is) } in
    let later = calls_grow z d c size calls first last on in
    let begun = stays_left (Gone z k before first) k v ms (put_first k v ss) (slots_after z first c) leaves.left
    (λ l one gone. apart l one (unreached_wider z before last before first l (prefix_same before) later gone.0)) start in
    (calls_keep z d c size k v ms calls first last (distinct_once names) on (of_distinct names k calls uses) (λ l one gone. apart l one (unreached_wider z before last first last l grows (prefix_same last) gone)) begun).has

-- what no call puts stays away
away_done : (k l : Label) (deed : Deed) (ss : Slots) → IsThere deed l ss → IsNoPutOf k l deed → cached_in k ss ≡ None → cached_in k (done_by deed l ss) ≡ None
away_done k l (Put v) ss there other none = none_pushed l k (Some (l, v)) ss (apart_put l k v (λ e. other (sym e))) none
away_done k l (Found v) ss there other none = label_cases (cached_in k (put_first l v ss) ≡ None) l k
    (λ same. let clash : Some v ≡ None = sym there ∙ (ap (λ (m : Label). cached_in m ss) same ∙ none) in cc)
    (λ differ. none_pushed l k (Some (l, v)) ss (apart_put l k v (λ e. differ (sym e))) none)
away_done k l Taken ss there other none = none_taken l k ss none
away_done k l Idle ss there other none = none

stays_away : (z : Sizes) (d : ℕ) (c : Label) (size : ℕ) (k : Label) (calls : List Call) (old last : List Entry) → CallsOn z d c size calls old last → NonePuts k calls → cached_in k (slots_after z old c) ≡ None → cached_in k (slots_after z last c) ≡ None
stays_away z d c size k [] old last (grows, left) puts none = none_left (WasUnreached z old last) k (slots_after z old c) (slots_after z last c) left none
stays_away z d c size k (y ∷ ys) old last (rests, (grows, there, leaves), more) (first_put, puts) none =
    let ready = none_left (WasUnreached z old y.old) k (slots_after z old c) (slots_after z y.old c) rests.1 none in
    let done = away_done k y.key y.deed (slots_after z y.old c) there first_put ready in
    stays_away z d c size k ys y.new last more puts (none_left (Gone z y.key y.old y.new) k (done_by y.deed y.key (slots_after z y.old c)) (slots_after z y.new c) leaves.left done)

pub taken_in_calls : TakenInCallsIsNotFound
taken_in_calls z d c size k calls before first last cache leaves on puts =
    let once : AreOnce (slots_after z before c) = subst AreOnce (sym (slots_are z before c cache.tag cache.fields cache.node)) cache.once in
    stays_away z d c size k calls first last on puts (none_left (Gone z k before first) k (taken k (slots_after z before c)) (slots_after z first c) leaves.left (taken_gone k (slots_after z before c) once))

-- what a lookup did, by what it found
abbrev found_deed : Option Value → Deed
found_deed (Some v) = Found v
found_deed None = Idle

-- each call that isn't answered `type` is such a call
pub get_is_call : (z : Sizes) (d : ℕ) (old new : List Entry) (c : Label) (size dst : ℕ) (k : Label) (r : Reply) → IsPrefix old new → GetReturns z d old new c size dst (Block k) r → DoesCall z d c size (record { key = k; deed = found_deed (cached_in k (slots_after z old c)); old = old; new = new })
get_is_call z d old new c size dst k r grows x = by (cached_in k (slots_after z old c)) refl x.2
  where
    by : (o : Option Value) → cached_in k (slots_after z old c) ≡ o → LeavesCache z d k old new c size (touched k o (slots_after z old c)) → DoesCall z d c size (record { key = k; deed = found_deed o; old = old; new = new })
    by (Some v) is leaves = (grows, is, leaves)
    by None is leaves = (grows, tt, leaves)

pub take_is_call : (z : Sizes) (d : ℕ) (old new : List Entry) (c : Label) (size dst : ℕ) (k : Label) (r : Reply) → IsPrefix old new → TakeReturns z d old new c size dst (Block k) r → DoesCall z d c size (record { key = k; deed = Taken; old = old; new = new })
take_is_call z d old new c size dst k r grows x = (grows, tt, x.2)

pub put_is_call : (z : Sizes) (d : ℕ) (old new : List Entry) (c : Label) (size : ℕ) (k : Label) (v : Value) (r : Reply) → IsPrefix old new → PutsOrFull z d old new c size k v r → DoesCall z d c size (record { key = k; deed = Put v; old = old; new = new }) ⊎ DoesCall z d c size (record { key = k; deed = Idle; old = old; new = new })
put_is_call z d old new c size k v r grows x = ⊎_elim (λ done. inl (grows, tt, done.1)) (λ full. inr (grows, tt, full.1)) x.1
