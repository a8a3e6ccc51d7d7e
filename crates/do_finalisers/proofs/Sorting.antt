-- A list that is gone through from its last item on: each item stays, or is queued.
use Rattle.std.proofs.Common.{◌≡◌, ℕ, zero, suc, ◌+◌, List, [], ◌∷◌, ◌++◌, length, Some, refl, sym, ap, ◌∙◌, subst, inl, inr, arith, append-nil}
use Rattle.std.specs.Prelude.{remove, slice_get}
use Rattle.do_finalisers.specs.Deciding.{Splits}

-- so many items are left, and those behind them have been looked at: some stayed, and the others are queued
pub record Sorted {A B : Type 0} (f : A → B) (old now : List A) (old_queue now_queue : List B) (left kept : ℕ) : Type 0 where
  pub before : List A
  pub behind : List A
  pub stays : List A
  pub queued : List B
  pub old_is : old ≡ before ++ behind
  pub now_is : now ≡ before ++ stays
  pub queue_is : now_queue ≡ old_queue ++ queued
  pub splits : Splits f behind stays queued
  pub left_is : length before ≡ left
  pub kept_is : kept ≡ length stays

assoc : {A : Type 0} (xs ys zs : List A) → (xs ++ ys) ++ zs ≡ xs ++ (ys ++ zs)
assoc [] ys zs = refl
assoc (x ∷ xs) ys zs = ap (λ t. x ∷ t) (assoc xs ys zs)

-- the item at the seam of two lists, and the list without it
seam_get : {A : Type 0} (xs : List A) (y : A) (ys : List A) (n : ℕ) → length xs ≡ n → slice_get (xs ++ y ∷ ys) n ≡ Some y
seam_get [] y ys zero e = refl
seam_get [] y ys (suc n) e = cc
seam_get (x ∷ xs) y ys zero e = cc
seam_get (x ∷ xs) y ys (suc n) e = seam_get xs y ys n (omega arith)

seam_remove : {A : Type 0} (xs : List A) (y : A) (ys : List A) (n : ℕ) → length xs ≡ n → remove (xs ++ y ∷ ys) n ≡ xs ++ ys
seam_remove [] y ys zero e = refl
seam_remove [] y ys (suc n) e = cc
seam_remove (x ∷ xs) y ys zero e = cc
seam_remove (x ∷ xs) y ys (suc n) e = ap (λ t. x ∷ t) (seam_remove xs y ys n (omega arith))

seam_length : {A : Type 0} (xs ys : List A) → length (xs ++ ys) ≡ length xs + length ys
seam_length [] ys = omega arith
seam_length (x ∷ xs) ys = let rest : length (xs ++ ys) ≡ length xs + length ys = seam_length xs ys in omega arith

-- a list with an item has a last one
pub record Ends {A : Type 0} (xs : List A) (n : ℕ) : Type 0 where
  pub front : List A
  pub item : A
  pub is : xs ≡ front ++ item ∷ []
  pub long : length front ≡ n

ends : {A : Type 0} (xs : List A) (n : ℕ) → length xs ≡ suc n → Ends xs n
ends [] n e = cc
ends (x ∷ []) n e = record { front = []; item = x; is = refl; long = omega arith }
ends (x ∷ y ∷ xs) zero e = absurd (omega arith)
ends (x ∷ y ∷ xs) (suc n) e = let t = ends (y ∷ xs) n (omega arith) in record { front = x ∷ t.front; item = t.item; is = ap (λ z. x ∷ z) t.is; long = let h : length t.front ≡ n = t.long in omega arith }

-- at first nothing has been looked at
pub sorted_none : {A B : Type 0} (f : A → B) (old : List A) (queue : List B) → Sorted f old old queue queue (length old) 0
sorted_none f old queue = record {
  before = old;
  behind = [];
  stays = [];
  queued = [];
  old_is = sym (append-nil old);
  now_is = sym (append-nil old);
  queue_is = sym (append-nil queue);
  splits = (refl, refl);
  left_is = refl;
  kept_is = refl;
}

-- at the end all has
pub record AllSorted {A B : Type 0} (f : A → B) (old now : List A) (old_queue now_queue : List B) (kept : ℕ) : Type 0 where
  pub queued : List B
  pub queue_is : now_queue ≡ old_queue ++ queued
  pub splits : Splits f old now queued
  pub kept_is : kept ≡ length now

pub sorted_all : {A B : Type 0} (f : A → B) (old now : List A) (old_queue now_queue : List B) (kept : ℕ) → Sorted f old now old_queue now_queue 0 kept → AllSorted f old now old_queue now_queue kept
sorted_all {A} {B} f old now old_queue now_queue kept s =
    let none : s.before ≡ [] = empty s.before s.left_is in
    let behind : s.behind ≡ old = sym (s.old_is ∙ ap (λ t. t ++ s.behind) none) in
    let stays : s.stays ≡ now = sym (s.now_is ∙ ap (λ t. t ++ s.stays) none) in
    record {
      queued = s.queued;
      queue_is = s.queue_is;
      splits = subst (λ (p : List A × List A). Splits f p.0 p.1 s.queued) (λ i. (behind i, stays i)) s.splits;
      kept_is = s.kept_is ∙ ap length stays;
    }
  where
    empty : (xs : List A) → length xs ≡ 0 → xs ≡ []
    empty [] e = refl
    empty (x ∷ xs) e = absurd (omega arith)

module _ {A B : Type 0} (f : A → B) (old now : List A) (old_queue now_queue : List B) (left kept : ℕ) (s : Sorted f old now old_queue now_queue (suc left) kept) (r : A) (got : slice_get now left ≡ Some r) where
  e : Ends s.before left
  e = ends s.before left s.left_is

  now_at : now ≡ e.front ++ e.item ∷ s.stays
  now_at = s.now_is ∙ ap (λ t. t ++ s.stays) e.is ∙ assoc e.front (e.item ∷ []) s.stays

  same : e.item ≡ r
  same = let have : Some e.item ≡ Some r = sym (ap (λ t. slice_get t left) now_at ∙ seam_get e.front e.item s.stays left e.long) ∙ got in cc

  now_here : now ≡ e.front ++ r ∷ s.stays
  now_here = now_at ∙ ap (λ t. e.front ++ t ∷ s.stays) same

  old_here : old ≡ e.front ++ r ∷ s.behind
  old_here = s.old_is ∙ ap (λ t. t ++ s.behind) e.is ∙ assoc e.front (e.item ∷ []) s.behind ∙ ap (λ t. e.front ++ t ∷ s.behind) same

  -- the next item is one of the list as it was
  pub next_old : slice_get old left ≡ Some r
  next_old = ap (λ t. slice_get t left) old_here ∙ seam_get e.front r s.behind left e.long

  pub next_count : left + 1 + kept ≡ length now
  next_count =
      let n : ℕ = length now in
      let m : ℕ = length s.stays in
      let u : ℕ = length e.front in
      let long : n ≡ u + length (r ∷ s.stays) = ap length now_here ∙ seam_length e.front (r ∷ s.stays) in
      let one : length (r ∷ s.stays) ≡ m + 1 = omega arith in
      let front : u ≡ left = e.long in
      let count : kept ≡ m = s.kept_is in
      omega arith

  -- it stays
  pub sorted_kept : Sorted f old now old_queue now_queue left (kept + 1)
  sorted_kept = record {
    before = e.front;
    behind = r ∷ s.behind;
    stays = r ∷ s.stays;
    queued = s.queued;
    old_is = old_here;
    now_is = now_here;
    queue_is = s.queue_is;
    splits = inl (s.stays, refl, s.splits);
    left_is = e.long;
    kept_is = let count : kept ≡ length s.stays = s.kept_is in omega arith;
  }

  -- or is queued
  pub sorted_queued : Sorted f old (remove now left) old_queue (now_queue ++ f r ∷ []) left kept
  sorted_queued = record {
    before = e.front;
    behind = r ∷ s.behind;
    stays = s.stays;
    queued = s.queued ++ f r ∷ [];
    old_is = old_here;
    now_is = ap (λ t. remove t left) now_here ∙ seam_remove e.front r s.stays left e.long;
    queue_is = ap (λ t. t ++ f r ∷ []) s.queue_is ∙ assoc old_queue s.queued (f r ∷ []);
    splits = inr (s.queued, refl, s.splits);
    left_is = e.long;
    kept_is = s.kept_is;
  }
