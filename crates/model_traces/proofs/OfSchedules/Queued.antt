-- What a collection queues of a list of registrations is all that is dead of it, the newest first, however it is cut into entries.
use Rattle.std.proofs.Common.{◌≡◌, ℕ, zero, suc, ◌<◌, ◌⊎◌, inl, inr, Bool, true, false, cond, not, ◌&&◌, List, [], ◌∷◌, ◌++◌, map, length, refl, sym, ap, ◌∙◌, subst, arith, append_assoc, append-nil, None, Some}
use Rattle.std.specs.Prelude.{Option, nat_lt, filter_map, reverse, remove, slice_get}
use Rattle.std.specs.List.{list_all}
use Rattle.std.proofs.lemmas.Bool.{and_parts}
use Rattle.std.proofs.lemmas.Bool.Decides.{nat_tests}
use Rattle.std.proofs.lemmas.List.{map-append, reverse-append}
use Rattle.std.proofs.lemmas.List.Elements.{filter_map-append}
use Rattle.model_core.specs.declared.state.Pending.{Pending}
use Rattle.model_core.specs.Entries.{is_rising, is_some_and, without_places, at_places}

module _ {A : Type 0} (to_pending : A → Pending) (dead : A → Bool) where
  -- those that pass, and those that don't
  abbrev pub dead_of : List A → List A
  dead_of [] = []
  dead_of (f ∷ fs) = cond (dead f) (f ∷ dead_of fs) (dead_of fs)

  abbrev pub others_of : List A → List A
  others_of [] = []
  others_of (f ∷ fs) = cond (dead f) (others_of fs) (f ∷ others_of fs)

  -- a list is two others, one into the other
  abbrev Merge : List A → List A → List A → Type 0
  Merge [] kept gone = (kept ≡ []) × (gone ≡ [])
  Merge (f ∷ fs) kept gone = ((ks : List A) × (kept ≡ f ∷ ks) × Merge fs ks gone) ⊎ ((gs : List A) × (gone ≡ f ∷ gs) × Merge fs kept gs)

  merge_front : (bs back kept gone : List A) → Merge back kept gone → Merge (bs ++ back) (bs ++ kept) gone
  merge_front [] back kept gone m = m
  merge_front (b ∷ bs) back kept gone m = inl (bs ++ kept, refl, merge_front bs back kept gone m)

  -- how far a list has been queued: from `low` on some of it is gone, all of which was dead, and stands in the queue
  pub record Part (all : List A) (before : List Pending) (xs : List A) (queue : List Pending) (low : ℕ) : Type 0 where
    pub front : List A
    pub back : List A
    pub kept : List A
    pub gone : List A
    pub whole : all ≡ front ++ back
    pub merged : Merge back kept gone
    pub left : xs ≡ front ++ kept
    pub queue_is : queue ≡ before ++ map to_pending (reverse gone)
    pub low_is : low ≡ length front
    pub all_dead : list_all dead gone ≡ true

  -- a list, cut before a place
  record CutAt (xs : List A) (p : ℕ) : Type 0 where
    ahead : List A
    at : A
    bs : List A
    is : xs ≡ ahead ++ at ∷ bs
    long : length ahead ≡ p

  cut_at : (xs : List A) (p : ℕ) → p < length xs → CutAt xs p
  cut_at [] p few = absurd (omega arith)
  cut_at (x ∷ xs) zero few = record { ahead = []; at = x; bs = xs; is = refl; long = refl }
  cut_at (x ∷ xs) (suc p) few = let c = cut_at xs p (omega arith) in record { ahead = x ∷ c.ahead; at = c.at; bs = c.bs; is = ap (λ l. x ∷ l) c.is; long = ap suc c.long }

  get_mid : (ahead : List A) (f : A) (cs : List A) → slice_get (ahead ++ f ∷ cs) (length ahead) ≡ Some f
  get_mid [] f cs = refl
  get_mid (a ∷ ahead) f cs = get_mid ahead f cs

  remove_mid : (ahead : List A) (f : A) (cs : List A) → remove (ahead ++ f ∷ cs) (length ahead) ≡ ahead ++ cs
  remove_mid [] f cs = refl
  remove_mid (a ∷ ahead) f cs = ap (λ l. a ∷ l) (remove_mid ahead f cs)

  -- one more, before all that are gone
  pub one_gone : (all : List A) (before : List Pending) (xs : List A) (queue : List Pending) (low p : ℕ) (f : A) → Part all before xs queue low → p < low → slice_get xs p ≡ Some f → dead f ≡ true
      → Part all before (remove xs p) (queue ++ to_pending f ∷ []) p
  one_gone all before xs queue low p f part below at is_dead =
      let c = cut_at part.front p (omega (arith, part.low_is)) in
      let rest : xs ≡ c.ahead ++ c.at ∷ (c.bs ++ part.kept) = part.left ∙ ap (λ l. l ++ part.kept) c.is ∙ append_assoc c.ahead (c.at ∷ c.bs) part.kept in
      let found : slice_get xs p ≡ Some c.at = ap (λ l. slice_get l p) rest ∙ ap (slice_get (c.ahead ++ c.at ∷ (c.bs ++ part.kept))) (sym c.long) ∙ get_mid c.ahead c.at (c.bs ++ part.kept) in
      let both : Some c.at ≡ Some f = sym found ∙ at in
      let same : c.at ≡ f = cc in
      record {
        front = c.ahead;
        back = f ∷ (c.bs ++ part.back);
        kept = c.bs ++ part.kept;
        gone = f ∷ part.gone;
        whole = part.whole ∙ ap (λ l. l ++ part.back) c.is ∙ append_assoc c.ahead (c.at ∷ c.bs) part.back ∙ ap (λ g. c.ahead ++ g ∷ (c.bs ++ part.back)) same;
        merged = inr (part.gone, refl, merge_front c.bs part.back part.kept part.gone part.merged);
        left = ap (λ l. remove l p) rest ∙ ap (remove (c.ahead ++ c.at ∷ (c.bs ++ part.kept))) (sym c.long) ∙ remove_mid c.ahead c.at (c.bs ++ part.kept);
        queue_is = ap (λ l. l ++ to_pending f ∷ []) part.queue_is ∙ append_assoc before (map to_pending (reverse part.gone)) (to_pending f ∷ [])
            ∙ ap (λ l. before ++ l) (sym (map-append to_pending (reverse part.gone) (f ∷ [])) ∙ ap (map to_pending) (sym (reverse-append (f ∷ []) part.gone)));
        low_is = sym c.long;
        all_dead = ap (λ b. b && list_all dead part.gone) is_dead ∙ part.all_dead;
      }

  get_remove : (xs : List A) (n p : ℕ) → p < n → slice_get (remove xs n) p ≡ slice_get xs p
  get_remove [] zero p few = absurd (omega arith)
  get_remove [] (suc n) p few = refl
  get_remove (x ∷ xs) zero p few = absurd (omega arith)
  get_remove (x ∷ xs) (suc n) zero few = refl
  get_remove (x ∷ xs) (suc n) (suc p) few = get_remove xs n p (omega arith)

  less : (p q : ℕ) → nat_lt p q ≡ true → p < q
  less p q e = grind (arith, nat_tests)

  more : (p q : ℕ) → p < q → nat_lt p q ≡ true
  more p q e = grind (arith, nat_tests)

  rising_skip : (p q : ℕ) (qs : List ℕ) → p < q → is_rising (q ∷ qs) ≡ true → is_rising (p ∷ qs) ≡ true
  rising_skip p q [] few e = refl
  rising_skip p q (r ∷ qs) few e =
      let parts = and_parts (nat_lt q r) (is_rising (r ∷ qs)) e in
      let above : q < r = less q r parts.0 in
      ap (λ b. b && is_rising (r ∷ qs)) (more p r (omega arith)) ∙ parts.1

  get_without : (places : List ℕ) (xs : List A) (p : ℕ) → is_rising (p ∷ places) ≡ true → slice_get (without_places places xs) p ≡ slice_get xs p
  get_without [] xs p e = refl
  get_without (q ∷ qs) xs p e =
      let parts = and_parts (nat_lt p q) (is_rising (q ∷ qs)) e in
      let few : p < q = less p q parts.0 in
      get_remove (without_places qs xs) q p few ∙ get_without qs xs p (rising_skip p q qs few parts.1)

  -- the one at a place that holds a dead one
  found_dead : (o : Option A) → is_some_and dead o ≡ true → (f : A) × (o ≡ Some f) × (dead f ≡ true)
  found_dead None e = cc
  found_dead (Some f) e = (f, refl, e)

  one_at : (xs : List A) (p : ℕ) (f : A) → slice_get xs p ≡ Some f → at_places (p ∷ []) xs ≡ f ∷ []
  one_at xs p f at = ap (λ (o : Option A). filter_map (λ z. z) (o ∷ [])) at

  -- the places of one entry
  pub places_gone : (all : List A) (before : List Pending) (xs : List A) (queue : List Pending) (low p : ℕ) (ps : List ℕ) → Part all before xs queue low → is_rising (p ∷ ps) ≡ true → list_all (λ n. nat_lt n low) (p ∷ ps) ≡ true
      → list_all (λ n. is_some_and dead (slice_get xs n)) (p ∷ ps) ≡ true → Part all before (without_places (p ∷ ps) xs) (queue ++ map to_pending (at_places (reverse (p ∷ ps)) xs)) p
  places_gone all before xs queue low p [] part rises below are_dead =
      let here = and_parts (is_some_and dead (slice_get xs p)) true are_dead in
      let f = found_dead (slice_get xs p) here.0 in
      let few = less p low (and_parts (nat_lt p low) true below).0 in
      subst (λ (l : List A). Part all before (remove xs p) (queue ++ map to_pending l) p) (sym (one_at xs p f.0 f.1)) (one_gone all before xs queue low p f.0 part few f.1 f.2)
  places_gone all before xs queue low p (q ∷ ps) part rises below are_dead =
      let up = and_parts (nat_lt p q) (is_rising (q ∷ ps)) rises in
      let under = and_parts (nat_lt p low) (list_all (λ n. nat_lt n low) (q ∷ ps)) below in
      let gone = and_parts (is_some_and dead (slice_get xs p)) (list_all (λ n. is_some_and dead (slice_get xs n)) (q ∷ ps)) are_dead in
      let f = found_dead (slice_get xs p) gone.0 in
      let later = places_gone all before xs queue low q ps part up.1 under.1 gone.1 in
      let at : slice_get (without_places (q ∷ ps) xs) p ≡ Some f.0 = get_without (q ∷ ps) xs p rises ∙ f.1 in
      let step = one_gone all before (without_places (q ∷ ps) xs) (queue ++ map to_pending (at_places (reverse (q ∷ ps)) xs)) q p f.0 later (less p q up.0) at f.2 in
      let order : at_places (reverse (p ∷ q ∷ ps)) xs ≡ at_places (reverse (q ∷ ps)) xs ++ f.0 ∷ [] =
      ap (λ l. at_places l xs) (reverse-append (p ∷ []) (q ∷ ps)) ∙ filter_map-append (slice_get xs) (reverse (q ∷ ps)) (p ∷ []) ∙ ap (λ (l : List A). at_places (reverse (q ∷ ps)) xs ++ l) (one_at xs p f.0 f.1) in
      let queued : (queue ++ map to_pending (at_places (reverse (q ∷ ps)) xs)) ++ to_pending f.0 ∷ [] ≡ queue ++ map to_pending (at_places (reverse (p ∷ q ∷ ps)) xs) =
      append_assoc queue (map to_pending (at_places (reverse (q ∷ ps)) xs)) (to_pending f.0 ∷ [])
      ∙ ap (λ l. queue ++ l) (sym (map-append to_pending (at_places (reverse (q ∷ ps)) xs) (f.0 ∷ [])) ∙ ap (map to_pending) (sym order)) in
      subst (λ (l : List Pending). Part all before (without_places (p ∷ q ∷ ps) xs) l p) queued step

  settle_one : (t : Bool) (f : A) (fs kept gone : List A) → dead f ≡ t → ((ks gs : List A) → Merge fs ks gs → list_all (λ x. not (dead x)) ks ≡ true → list_all dead gs ≡ true → (ks ≡ others_of fs) × (gs ≡ dead_of fs))
      → Merge (f ∷ fs) kept gone → list_all (λ x. not (dead x)) kept ≡ true → list_all dead gone ≡ true → (kept ≡ cond t (others_of fs) (f ∷ others_of fs)) × (gone ≡ cond t (f ∷ dead_of fs) (dead_of fs))
  settle_one true f fs kept gone is later (inl m) none all =
      let parts = and_parts (not (dead f)) (list_all (λ x. not (dead x)) m.0) (sym (ap (list_all (λ x. not (dead x))) m.1) ∙ none) in
      absurd (let clash : false ≡ true = sym (ap not is) ∙ parts.0 in cc)
  settle_one false f fs kept gone is later (inl m) none all =
      let parts = and_parts (not (dead f)) (list_all (λ x. not (dead x)) m.0) (sym (ap (list_all (λ x. not (dead x))) m.1) ∙ none) in
      let s = later m.0 gone m.2 parts.1 all in
      (m.1 ∙ ap (λ l. f ∷ l) s.0, s.1)
  settle_one true f fs kept gone is later (inr m) none all =
      let parts = and_parts (dead f) (list_all dead m.0) (sym (ap (list_all dead) m.1) ∙ all) in
      let s = later kept m.0 m.2 none parts.1 in
      (s.0, m.1 ∙ ap (λ l. f ∷ l) s.1)
  settle_one false f fs kept gone is later (inr m) none all =
      let parts = and_parts (dead f) (list_all dead m.0) (sym (ap (list_all dead) m.1) ∙ all) in
      absurd (let clash : false ≡ true = sym is ∙ parts.0 in cc)

  -- where none that is dead is kept, and all that is gone is dead, both are known
  settle : (fs kept gone : List A) → Merge fs kept gone → list_all (λ x. not (dead x)) kept ≡ true → list_all dead gone ≡ true → (kept ≡ others_of fs) × (gone ≡ dead_of fs)
  settle [] kept gone m none all = m
  settle (f ∷ fs) kept gone m none all = settle_one (dead f) f fs kept gone refl (λ ks gs. settle fs ks gs) m none all

  all_parts : (p : A → Bool) (xs ys : List A) → list_all p (xs ++ ys) ≡ true → (list_all p xs ≡ true) × (list_all p ys ≡ true)
  all_parts p [] ys e = (refl, e)
  all_parts p (x ∷ xs) ys e =
      let parts = and_parts (p x) (list_all p (xs ++ ys)) e in
      let later = all_parts p xs ys parts.1 in
      (ap (λ b. b && list_all p xs) parts.0 ∙ later.0, later.1)

  not_true : (b : Bool) → not b ≡ true → b ≡ false
  not_true true e = cc
  not_true false e = refl

  front_stays : (front back : List A) → list_all (λ x. not (dead x)) front ≡ true → (others_of (front ++ back) ≡ front ++ others_of back) × (dead_of (front ++ back) ≡ dead_of back)
  front_stays [] back e = (refl, refl)
  front_stays (f ∷ front) back e =
      let parts = and_parts (not (dead f)) (list_all (λ x. not (dead x)) front) e in
      let lives : dead f ≡ false = not_true (dead f) parts.0 in
      let later = front_stays front back parts.1 in (
        ap (λ b. cond b (others_of (front ++ back)) (f ∷ others_of (front ++ back))) lives ∙ ap (λ l. f ∷ l) later.0,
        ap (λ b. cond b (f ∷ dead_of (front ++ back)) (dead_of (front ++ back))) lives ∙ later.1,
      )

  -- once none that is dead is left, what is left and what was queued are known, whatever the entries
  pub all_queued_is : (all : List A) (before : List Pending) (xs : List A) (queue : List Pending) (low : ℕ) → Part all before xs queue low → list_all (λ x. not (dead x)) xs ≡ true
      → (xs ≡ others_of all) × (queue ≡ before ++ map to_pending (reverse (dead_of all)))
  all_queued_is all before xs queue low part none =
      let parts = all_parts (λ x. not (dead x)) part.front part.kept (sym (ap (list_all (λ x. not (dead x))) part.left) ∙ none) in
      let s = settle part.back part.kept part.gone part.merged parts.1 part.all_dead in
      let f = front_stays part.front part.back parts.0 in (
        part.left ∙ ap (λ l. part.front ++ l) s.0 ∙ sym f.0 ∙ ap others_of (sym part.whole),
        part.queue_is ∙ ap (λ l. before ++ map to_pending (reverse l)) (s.1 ∙ sym f.1 ∙ ap dead_of (sym part.whole)),
      )

  -- before the first entry nothing is gone
  pub none_gone : (all : List A) (before : List Pending) → Part all before all before (length all)
  none_gone all before = record {
    front = all;
    back = [];
    kept = [];
    gone = [];
    whole = sym (append-nil all);
    merged = (refl, refl);
    left = sym (append-nil all);
    queue_is = sym (append-nil before);
    low_is = refl;
    all_dead = refl;
  }
