-- What each move of a domain keeps of the shares of Mark and of Rounds, and what follows once all have arrived.
use Rattle.std.proofs.Common.{Option, ◌≡◌, ◌⊎◌, inl, inr, ⊎_elim, arith, ℕ, suc, ◌<◌, Bool, true, false, cond, not, ◌&&◌, ◌||◌, IsTrue, Some, refl, ap, sym, ◌∙◌, subst, eqb, eq-eqb, eqb-true}
use Rattle.std.proofs.lemmas.Bool.{cases_lt, ne_eqb}
use Rattle.model_core.specs.declared.label.Label.{Label}
use Rattle.model_core.specs.Graph.{Graph, same_label, node_at}
use Rattle.model_core.specs.Entries.{full_keys}
use Rattle.model_core.proofs.Reach.ReachLemmas.{not_false, or_cases, or_left, or_right, and_both}
use Rattle.model_cycle.specs.Marks.{Marks, darkened, with_scanned, data_of, KeysMarked, DataMarked, NoneGrey, DataFollows}
use Rattle.model_cycle.specs.Shares.{Layout, OnePlaceEach, Shares, at_domain, reset_shares, no_shares, owing, following, settles, stored_changed, sees, arrives, IsQuiet, IsFollowed, AllArrived, AllOwned, AreShares, InMark, InRounds}
use Rattle.model_cycle.proofs.Tracing.{darkened_more, darkened_cases, darkened_scanned, never, unlike, holds_more}

-- what stands in two options that are equal is equal
pub some_same : {A : Type 0} (a b : A) → ◌≡◌ {A = Option A} (Some a) (Some b) → a ≡ b
some_same a b e = cc

-- a number up to the last is below it, or the last
pub last_or : (a b : ℕ) → a < suc b → (a < b) ⊎ (a ≡ b)
last_or a b lt = ⊎_elim (λ less. inl less) (λ more. inr (omega (arith, lt, more))) (cases_lt a b)

-- a function with another value at one domain
module _ {A : Type 0} (f : ℕ → A) (d : ℕ) (v : A) where
  pub at_same : at_domain f d v d ≡ v
  at_same = rw (eq-eqb d d refl) refl

  pub at_cases : (k : ℕ) → ((k ≡ d) × (at_domain f d v k ≡ v)) ⊎ ((k ≡ d → ⊥) × (at_domain f d v k ≡ f k))
  at_cases k = go (eqb k d) refl
    where
      go : (b : Bool) → eqb k d ≡ b → ((k ≡ d) × (cond b v (f k) ≡ v)) ⊎ ((k ≡ d → ⊥) × (cond b v (f k) ≡ f k))
      go true e = inl (eqb-true k d e, refl)
      go false e = inr ((λ same. let clash : true ≡ false = sym (eq-eqb k d same) ∙ e in cc), refl)

-- the places of domain d with one more, and without one
module _ (places : ℕ → ℕ → Bool) (d a : ℕ) where
  abbrev less : ℕ → Bool
  less b = places d b && not (eqb b a)

  abbrev more : ℕ → Bool
  more b = eqb b a || places d b

  less_is : (k b : ℕ) → IsTrue (places k b) → (a ≡ b → ⊥) → IsTrue (at_domain places d less k b)
  less_is k b h differ = ⊎_elim
      (λ t. subst (λ (z : ℕ → Bool). IsTrue (z b)) (sym t.1)
      (and_both (places d b) (not (eqb b a)) (subst (λ j. IsTrue (places j b)) t.0 h) (not_false (eqb b a) (ne_eqb b a (λ same. differ (sym same))))))
      (λ t. subst (λ (z : ℕ → Bool). IsTrue (z b)) (sym t.1) h)
      (at_cases places d less k)

  less_none : (k b : ℕ) → places k b ≡ false → at_domain places d less k b ≡ false
  less_none k b none = ⊎_elim
      (λ t. ap (λ (z : ℕ → Bool). z b) t.1 ∙ ap (λ (v : Bool). v && not (eqb b a)) (subst (λ j. places j b ≡ false) t.0 none))
      (λ t. ap (λ (z : ℕ → Bool). z b) t.1 ∙ none)
      (at_cases places d less k)

  more_was : (k b : ℕ) → IsTrue (at_domain places d more k b) → ((k ≡ d) × (a ≡ b)) ⊎ IsTrue (places k b)
  more_was k b h = ⊎_elim
      (λ t. let now : IsTrue (more b) = subst (λ (z : ℕ → Bool). IsTrue (z b)) t.1 h in ⊎_elim
      (λ here. inl (t.0, sym (eqb-true b a here)))
      (λ old. inr (subst (λ j. IsTrue (places j b)) (sym t.0) old))
      (or_cases (eqb b a) (places d b) now))
      (λ t. inr (subst (λ (z : ℕ → Bool). IsTrue (z b)) t.1 h))
      (at_cases places d more k)

  more_is : (k b : ℕ) → IsTrue (places k b) → IsTrue (at_domain places d more k b)
  more_is k b h = ⊎_elim
      (λ t. subst (λ (z : ℕ → Bool). IsTrue (z b)) (sym t.1) (or_right (eqb b a) (places d b) (subst (λ j. IsTrue (places j b)) t.0 h)))
      (λ t. subst (λ (z : ℕ → Bool). IsTrue (z b)) (sym t.1) h)
      (at_cases places d more k)

  more_here : IsTrue (at_domain places d more d a)
  more_here = subst (λ (z : ℕ → Bool). IsTrue (z a)) (sym (at_same places d more)) (or_left (eqb a a) (places d a) (eq-eqb a a refl))

pub sees_was : (w : Shares) (d a k b : ℕ) → IsTrue ((sees w d a).seen k b) → ((k ≡ d) × (a ≡ b)) ⊎ IsTrue (w.seen k b)
sees_was w d a = more_was w.seen d a

module _ (n : ℕ) (y : Layout) where
  -- what each move keeps of the part that all phases have in common
  pub shares_start : (changed : Bool) → AreShares y (reset_shares changed)
  shares_start changed = record { own = λ d a h. cc; all = λ d a h at. cc }

  module _ (w : Shares) (i : AreShares y w) (d : ℕ) where
    pub shares_sees : (a : ℕ) → y.owner a ≡ Some d → AreShares y (sees w d a)
    shares_sees a at = record {
      own = λ k b h. ⊎_elim
          (λ t. subst (λ j. y.owner b ≡ Some j) (sym t.0) (subst (λ z. y.owner z ≡ Some d) t.1 at))
          (λ old. i.own k b old)
          (sees_was w d a k b h);
      all = λ k b h own. more_is w.seen d a k b (i.all k b h own);
    }

    pub shares_arrives : ((a : ℕ) → y.owner a ≡ Some d → IsTrue (w.seen d a)) → AreShares y (arrives w d)
    shares_arrives all = record {
      own = i.own;
      all = λ k b h at. ⊎_elim
          (λ t. subst (λ j. IsTrue (w.seen j b)) (sym t.0) (all b (subst (λ j. y.owner b ≡ Some j) t.0 at)))
          (λ t. i.all k b (subst (λ z. IsTrue z) t.1 h) at)
          (at_cases w.arrived d true k);
    }

  -- who owes a store, or has stored, ends the quiet
  not_quiet_owing : (w : Shares) (d : ℕ) → d < n → IsQuiet n (owing w d) → ⊥
  not_quiet_owing w d lt quiet = let clash : true ≡ false = sym (at_same w.owes d true) ∙ quiet.paid d lt in cc

  -- a block that is darkened has an owner
  pub owned_darkened : (m : Marks) (l : Label) (k a : ℕ) → k < n → y.live a ≡ Some l → y.owner a ≡ Some k → AllOwned n y m.marked → AllOwned n y (darkened m l).marked
  owned_darkened m l k a lt lives at owned x h = ⊎_elim
      (λ same. (k, a, lt, subst (λ z. y.live a ≡ Some z) same lives, at))
      (λ old. owned x old)
      (darkened_cases m l x h)

  -- Mark
  pub mark_start : (m : Marks) → AllOwned n y m.marked → (changed : Bool) → InMark n y m (reset_shares changed)
  mark_start m owned changed = record { shares = shares_start changed; owned = owned; followed = λ d a h. refl; not_grey = λ quiet d a l h. cc }

  module _ (m : Marks) (w : Shares) (i : InMark n y m w) where
    pub mark_darkens : OnePlaceEach y → (d k a : ℕ) (l : Label) → d < n → k < n → y.live a ≡ Some l → y.owner a ≡ Some k → m.marked l ≡ false → w.arrived d ≡ false
        → InMark n y (darkened m l) (following w d a)
    mark_darkens one d k a l lt inside lives at un acts = record {
      shares = record { own = i.shares.own; all = i.shares.all };
      owned = owned_darkened m l k a inside lives at i.owned;
      followed = λ j b h. ⊎_elim
          (λ t. absurd (never (w.arrived d) acts (subst (λ z. IsTrue (w.arrived z)) t.0 h)))
          (λ t. ap (λ (z : ℕ → Bool). z b) t.1 ∙ i.followed j b h)
          (at_cases w.follows d (λ c. eqb c a || w.follows d c) j);
      not_grey = λ unchanged j b x seen there marked. ⊎_elim
          (λ (same : l ≡ x). inr (d, lt, subst (λ z. IsTrue ((following w d a).follows d z)) (one a b x (subst (λ z. y.live a ≡ Some z) same lives) there) (more_here w.follows d a)))
          (λ (old : IsTrue (m.marked x)). ⊎_elim
          (λ is. inl (darkened_scanned m l x (unlike m.marked l x un old) is))
          (λ (f : IsFollowed n w b). inr (f.0, f.1, more_is w.follows d a f.0 b f.2))
          (i.not_grey unchanged j b x seen there old))
          (darkened_cases m l x marked);
    }

    pub mark_settles : (d a : ℕ) → ((l : Label) → y.live a ≡ Some l → IsTrue (m.marked l) → IsTrue (m.scanned l)) → InMark n y m (settles w d a)
    mark_settles d a black = record {
      shares = record { own = i.shares.own; all = i.shares.all };
      owned = i.owned;
      followed = λ j b h. less_none w.follows d a j b (i.followed j b h);
      not_grey = λ unchanged j b x seen there marked. ⊎_elim
          (λ is. inl is)
          (λ (f : IsFollowed n w b). here j b x there marked f (eqb b a) refl)
          (i.not_grey unchanged j b x seen there marked);
    }
      where
        here : (j b : ℕ) (x : Label) → y.live b ≡ Some x → IsTrue (m.marked x) → IsFollowed n w b → (same : Bool) → eqb b a ≡ same → IsTrue (m.scanned x) ⊎ IsFollowed n (settles w d a) b
        here j b x there marked f true e = inl (black x (subst (λ z. y.live z ≡ Some x) (eqb-true b a e) there) marked)
        here j b x there marked f false e = inr (f.0, f.1, less_is w.follows d a f.0 b f.2 (λ same. let clash : true ≡ false = sym (eq-eqb b a (sym same)) ∙ e in cc))

    pub mark_scans : (l : Label) → InMark n y (with_scanned m l) w
    mark_scans l = record {
      shares = i.shares;
      owned = i.owned;
      followed = i.followed;
      not_grey = λ unchanged k b x seen there marked. ⊎_elim
          (λ is. inl (or_right (same_label l x) (m.scanned x) is))
          (λ f. inr f)
          (i.not_grey unchanged k b x seen there marked);
    }

    pub mark_stores : (d : ℕ) → InMark n y m (stored_changed w d)
    mark_stores d = record {
      shares = record { own = i.shares.own; all = i.shares.all };
      owned = i.owned;
      followed = λ j b h. ⊎_elim
          (λ t. ap (λ (z : ℕ → Bool). z b) t.1)
          (λ t. ap (λ (z : ℕ → Bool). z b) t.1 ∙ i.followed j b h)
          (at_cases w.follows d (λ a. false) j);
      not_grey = λ unchanged k b x seen there marked. let clash : true ≡ false = unchanged in cc;
    }

    pub mark_sees : (d a : ℕ) → y.owner a ≡ Some d → ((l : Label) → y.live a ≡ Some l → IsTrue (m.marked l) → IsTrue (m.scanned l)) → InMark n y m (sees w d a)
    mark_sees d a at black = record {
      shares = shares_sees w i.shares d a at;
      owned = i.owned;
      followed = i.followed;
      not_grey = λ unchanged k b x seen there marked. ⊎_elim
          (λ t. inl (black x (subst (λ z. y.live z ≡ Some x) (sym t.1) there) marked))
          (λ old. i.not_grey unchanged k b x old there marked)
          (sees_was w d a k b seen);
    }

    pub mark_arrives : (d : ℕ) → ((a : ℕ) → w.follows d a ≡ false) → ((a : ℕ) → y.owner a ≡ Some d → IsTrue (w.seen d a)) → InMark n y m (arrives w d)
    mark_arrives d settled all = record {
      shares = shares_arrives w i.shares d all;
      owned = i.owned;
      followed = λ j b h. ⊎_elim
          (λ t. subst (λ k. w.follows k b ≡ false) (sym t.0) (settled b))
          (λ t. i.followed j b (subst (λ v. IsTrue v) t.1 h))
          (at_cases w.arrived d true j);
      not_grey = i.not_grey;
    }

    pub mark_end : AllArrived n w → w.changed ≡ false → NoneGrey m
    mark_end arrived unchanged l marked =
        let t = i.owned l marked in ⊎_elim
        (λ is. is)
        (λ (f : IsFollowed n w t.1). absurd (never (w.follows f.0 t.1) (i.followed f.0 t.1 (arrived f.0 f.1)) f.2))
        (i.not_grey unchanged t.0 t.1 l (i.shares.all t.0 t.1 (arrived t.0 t.2) t.4) t.3 marked)

  -- Rounds
  pub rounds_start : (g : Graph) (m : Marks) → AllOwned n y m.marked → NoneGrey m → InRounds n y g m.marked m no_shares
  rounds_start g m owned none = record {
    shares = shares_start false;
    owned = owned;
    paid = λ d h. refl;
    stays = λ l h. h;
    scanned = none;
    same = λ quiet l h. h;
    data_marked = λ d a l h there before keys. cc;
  }

  module _ (g : Graph) (before : Label → Bool) (m : Marks) (w : Shares) (i : InRounds n y g before m w) where
    pub rounds_darkens : (d k a : ℕ) (l : Label) → d < n → k < n → y.live a ≡ Some l → y.owner a ≡ Some k → m.marked l ≡ false → w.arrived d ≡ false
        → InRounds n y g before (darkened m l) (owing w d)
    rounds_darkens d k a l lt inside lives at un acts = record {
      shares = record { own = i.shares.own; all = i.shares.all };
      owned = owned_darkened m l k a inside lives at i.owned;
      paid = λ j h. ⊎_elim
          (λ t. absurd (never (w.arrived d) acts (subst (λ z. IsTrue (w.arrived z)) t.0 h)))
          (λ t. t.1 ∙ i.paid j h)
          (at_cases w.owes d true j);
      stays = λ x h. darkened_more m l x (i.stays x h);
      scanned = λ x h. darkened_scanned m l x (unlike m.marked l x un (i.stays x h)) (i.scanned x h);
      same = λ quiet x h. absurd (not_quiet_owing w d lt quiet);
      data_marked = λ j b x seen there h keys. holds_more m.marked (darkened m l).marked (darkened_more m l) (data_of (node_at g x)) (i.data_marked j b x seen there h keys);
    }

    pub rounds_scans : (l : Label) → InRounds n y g before (with_scanned m l) w
    rounds_scans l = record {
      shares = i.shares;
      owned = i.owned;
      paid = i.paid;
      stays = i.stays;
      scanned = λ x h. or_right (same_label l x) (m.scanned x) (i.scanned x h);
      same = i.same;
      data_marked = i.data_marked;
    }

    pub rounds_stores : (d : ℕ) → InRounds n y g before m (stored_changed w d)
    rounds_stores d = record {
      shares = record { own = i.shares.own; all = i.shares.all };
      owned = i.owned;
      paid = λ j h. ⊎_elim (λ t. t.1) (λ t. t.1 ∙ i.paid j h) (at_cases w.owes d false j);
      stays = i.stays;
      scanned = i.scanned;
      same = λ quiet x h. let clash : true ≡ false = quiet.unchanged in cc;
      data_marked = i.data_marked;
    }

    pub rounds_sees : (d a : ℕ) → y.owner a ≡ Some d → ((l : Label) → y.live a ≡ Some l → IsTrue (before l) → KeysMarked g before l → DataMarked g m.marked l)
        → InRounds n y g before m (sees w d a)
    rounds_sees d a at follows = record {
      shares = shares_sees w i.shares d a at;
      owned = i.owned;
      paid = i.paid;
      stays = i.stays;
      scanned = i.scanned;
      same = λ quiet x h. i.same (record { unchanged = quiet.unchanged; paid = quiet.paid }) x h;
      data_marked = λ k b x seen there. ⊎_elim
          (λ t. follows x (subst (λ z. y.live z ≡ Some x) (sym t.1) there))
          (λ old. i.data_marked k b x old there)
          (sees_was w d a k b seen);
    }

    pub rounds_arrives : (d : ℕ) → w.owes d ≡ false → ((a : ℕ) → y.owner a ≡ Some d → IsTrue (w.seen d a)) → InRounds n y g before m (arrives w d)
    rounds_arrives d paid all = record {
      shares = shares_arrives w i.shares d all;
      owned = i.owned;
      paid = λ k h. ⊎_elim
          (λ t. subst (λ j. w.owes j ≡ false) (sym t.0) paid)
          (λ t. i.paid k (subst (λ b. IsTrue b) t.1 h))
          (at_cases w.arrived d true k);
      stays = i.stays;
      scanned = i.scanned;
      same = λ quiet x h. i.same (record { unchanged = quiet.unchanged; paid = quiet.paid }) x h;
      data_marked = i.data_marked;
    }

    pub rounds_end : AllArrived n w → w.changed ≡ false → NoneGrey m × DataFollows g m.marked
    rounds_end arrived unchanged =
        let quiet : IsQuiet n w = record { unchanged = unchanged; paid = λ d lt. i.paid d (arrived d lt) } in (
          (λ l marked. i.scanned l (i.same quiet l marked)),
          (λ l marked keys.
              let t = i.owned l marked in
              i.data_marked t.0 t.1 l (i.shares.all t.0 t.1 (arrived t.0 t.2) t.4) t.3 (i.same quiet l marked)
              (holds_more m.marked before (i.same quiet) (full_keys (node_at g l)) keys)),
        )
