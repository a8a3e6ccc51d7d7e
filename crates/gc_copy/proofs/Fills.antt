-- What the filling of copies comes to.
use Rattle.std.proofs.Common.{◌≡◌, ℕ, zero, suc, ◌+◌, ◌-◌, ◌*◌, ◌^◌, ◌<◌, ◌≤◌, List, [], ◌∷◌, ◌++◌, length, drop, slice_get, Some, sym, refl, ap, ◌∙◌, subst, arith, add-one, ⊎_elim}
use Rattle.model_core.specs.Domains.{IsWithinLimits}
use Rattle.model_core.specs.Fronts.{Shape}
use Rattle.heap_words.proofs.WordLemmas.{value_word-injective}
use Rattle.heap_rule.specs.Layout.{heap_words}
use Rattle.heap_rule.specs.Limits.{sizes_in}
use Rattle.heap_rule.specs.Standing.{IsInHeap}
use Rattle.heap_rule.proofs.Sizes.{heap_small}
use Rattle.heap_rule.proofs.Values.{extent_large}
use Rattle.heap_words.specs.declared.value.Value.{Value}
use Rattle.heap_words.specs.Values.{IsPackable, value_word}
use Rattle.heap_rule.specs.declared.config.Config.{Config}
use Rattle.heap_rule.specs.declared.view.Copied.{Copied}
use Rattle.heap_rule.specs.declared.view.Owing.{Owing}
use Rattle.heap_rule.specs.declared.view.DomainView.{DomainView}
use Rattle.heap_rule.specs.Places.{Place, extent, Stands}
use Rattle.heap_rule.specs.Rule.{state_of}
use Rattle.model_core.specs.declared.entry.Entry.{Entry}
use Rattle.model_core.specs.declared.label.Label.{Label}
use Rattle.step_promote.specs.Promotion.{Knows, with_pending, StaysThere, Forwards, HasValueAt, HeadMet, ValueMay, ValueMet, FillMay, FillTold, FilledTold}
use Rattle.gc_copy.specs.Heads.{IsHeadFor}
use Rattle.gc_copy.specs.Working.{IsPair, Works, Tied, owed_from, with_claims, Grown, Forwarded, StandsFor}
use Rattle.gc_copy.specs.Filling.{FilledTo, Progress}
use Rattle.gc_copy.proofs.Meeting.{grown_met, head_grown, learns_twice, met_value_inside, owed_append}
use Rattle.step_promote.proofs.Resets.{old_word}

module _ {A : Type 0} where
  drop_suc : (l : List A) (i : ℕ) (a : A) → slice_get l i ≡ Some a → drop i l ≡ a ∷ drop (suc i) l
  drop_suc [] i a e = cc
  drop_suc (x ∷ xs) zero a e = let f : x ≡ a = cc in ap (λ z. z ∷ xs) f
  drop_suc (x ∷ xs) (suc i) a e = drop_suc xs i a e

  -- the item at a place is the first of those from there on
  pub drop_item : (l : List A) (i : ℕ) (a : A) → slice_get l i ≡ Some a → drop i l ≡ a ∷ drop (i + 1) l
  drop_item l i a e = drop_suc l i a e ∙ ap (λ n. a ∷ drop n l) (sym (add-one i))

  pub drop_append : (l m : List A) (i : ℕ) → i ≤ length l → drop i (l ++ m) ≡ drop i l ++ m
  drop_append l m zero h = refl
  drop_append [] m (suc i) h = absurd (omega arith)
  drop_append (x ∷ xs) m (suc i) h = drop_append xs m i (omega arith)

  pub get_append : (l m : List A) (i : ℕ) (a : A) → slice_get l i ≡ Some a → slice_get (l ++ m) i ≡ Some a
  get_append [] m i a e = cc
  get_append (x ∷ xs) m zero a e = e
  get_append (x ∷ xs) m (suc i) a e = get_append xs m i a e

  pub get_below : (l : List A) (i : ℕ) (a : A) → slice_get l i ≡ Some a → i < length l
  get_below [] i a e = cc
  get_below (x ∷ xs) zero a e = omega arith
  get_below (x ∷ xs) (suc i) a e = let h = get_below xs i a e in omega arith

  pub drop_all : (l : List A) (i : ℕ) → length l ≤ i → drop i l ≡ []
  drop_all [] zero h = refl
  drop_all [] (suc i) h = refl
  drop_all (x ∷ xs) zero h = absurd (omega arith)
  drop_all (x ∷ xs) (suc i) h = drop_all xs i (omega arith)

-- the copies that are to be filled are tied to the list after claims too
pub tied_grown : (k : Config) (i : ℕ) (x y : DomainView) → i ≤ length x.own.pending.items → Tied i x → Grown k x y → Tied i y
tied_grown k i x y few t g = g.owed ∙ (ap (λ l. l ++ owed_from g.made) t ∙ (sym (owed_append (drop i x.own.pending.items) g.made)
    ∙ ap owed_from (sym (drop_append x.own.pending.items g.made i few) ∙ ap (drop i) (sym g.items))))

owing_same : (a b : Owing) (l m : List Owing) → a ∷ l ≡ b ∷ m → (a ≡ b) × (l ≡ m)
owing_same a b l m e = (cc, cc)

some_same : (p q : Place) → Some p ≡ Some q → p ≡ q
some_same p q e = cc

-- changes one behind the other
pub claims_twice : (x y z : DomainView) → y ≡ with_claims x y → z ≡ with_claims y z → z ≡ with_claims x z
claims_twice x y z a b = b ∙ ap (λ (v : DomainView). with_claims v z) a

-- the copy that is to be filled next
module _ (k : Config) (i : ℕ) (c : Copied) (x : DomainView) where
  stays_for : (y : DomainView) (word : ℕ) → (told : HeadMet k c.copy x word y) → Works k x → slice_get x.own.pending.items i ≡ Some c → IsHeadFor told.place.shape word
  stays_for y word told w item = ⊎_elim (λ (s : StaysThere k c.copy told.place x word y). record { head = s.head })
      (λ (f : Forwards k c.copy told.place x word y). absurd (let young : k.pools * 4096 < c.copy = f.young in let old : c.copy ≤ k.pools * 4096 = (w.pairs i c item).old in omega arith))
      told.told

  -- its words are more than those of its head and its label
  pub words_large : (y : DomainView) (word words : ℕ) → Works k x → slice_get x.own.pending.items i ≡ Some c → HeadMet k c.copy x word y → ((s : Shape) → IsHeadFor s word → words ≡ extent s) → 2 ≤ words
  words_large y word words w item told says =
      let b : ℕ = extent told.place.shape in
      let size : words ≡ b = says told.place.shape (stays_for y word told w item) in
      let large : 3 ≤ b = extent_large told.place.shape told.packable in
      let g : 2 ≤ words = omega arith in g

  -- where its head was loaded, its size is known
  pub progress_start : (y : DomainView) (word words : ℕ) → IsWithinLimits (sizes_in k) → Works k x → Tied i x → slice_get x.own.pending.items i ≡ Some c → HeadMet k c.copy x word y → ((s : Shape) → IsHeadFor s word → words ≡ extent s)
      → Progress k i c (words - 2) 0 x y
  progress_start y word words limits w t item told says =
      let g = head_grown k c.copy x word y told limits w in
      let few : i ≤ length x.own.pending.items = (let b = get_below x.own.pending.items i c item in omega arith) in
      let here : slice_get y.own.pending.items i ≡ Some c = ap (λ (l : List Copied). slice_get l i) g.items ∙ get_append x.own.pending.items g.made i c item in
      let l = told.here in
      let size : words ≡ extent told.place.shape = says told.place.shape (stays_for y word told w item) in
      let large : 3 ≤ extent told.place.shape = extent_large told.place.shape told.packable in
      let same : extent l.place.shape ≡ extent told.place.shape = ap extent l.shape in record {
        view = g.view;
        works = g.works;
        learns = g.learns;
        item = here;
        pending = tied_grown k i x y few t g ∙ ap owed_from (drop_item y.own.pending.items i c here);
        place = l.place;
        met = l.lives;
        extent_is = (let a : ℕ = extent l.place.shape in let b : ℕ = extent told.place.shape in let e : a ≡ b = same in let f : words ≡ b = size in let h : 3 ≤ b = large in let g : a ≡ words - 2 + 2 = omega arith in g);
      }

  module _ (size n : ℕ) where
    -- claims leave how far it is filled
    pub progress_claims : (y z : DomainView) → Progress k i c size n x y → Grown k y z → Progress k i c size n x z
    progress_claims y z p g =
        let m = g.learns.more c.copy p.place p.met in
        let few : i + 1 ≤ length y.own.pending.items = (let b = get_below y.own.pending.items i c p.item in omega arith) in record {
          view = claims_twice x y z p.view g.view;
          works = g.works;
          learns = learns_twice x y z p.learns g.learns;
          item = ap (λ (l : List Copied). slice_get l i) g.items ∙ get_append y.own.pending.items g.made i c p.item;
          pending = g.owed ∙ (ap (λ l. l ++ owed_from g.made) p.pending ∙ ap (λ l. record { copy = c.copy; source = c.source; filled = n } ∷ l)
              (sym (owed_append (drop (i + 1) y.own.pending.items) g.made) ∙ ap owed_from (sym (drop_append y.own.pending.items g.made (i + 1) few) ∙ ap (drop (i + 1)) (sym g.items))));
          place = m.place;
          met = m.lives;
          extent_is = ap extent m.shape ∙ p.extent_is;
        }

    module _ (y : DomainView) (p : Progress k i c size n x y) where
      abbrev pair : IsPair k y c
      pair = p.works.pairs i c p.item

      to_is : pair.same.to ≡ p.place
      to_is = some_same pair.same.to p.place (sym pair.same.there ∙ p.met)

      from_large : n < size → n + 2 < extent pair.same.from.shape
      from_large low = let a : ℕ = extent pair.same.from.shape in let b : ℕ = extent p.place.shape in
          let e : b ≡ a = ap (λ (q : Place). extent q.shape) (sym to_is) ∙ ap extent pair.same.shape in let f : b ≡ size + 2 = p.extent_is in let g : n + 2 < a = omega arith in g

      pub value_may : n < size → ValueMay k y (c.source + 2 + n) c.source n
      value_may low = record { stage = p.works.stage; place = pair.same.from; met = pair.same.here; young = pair.young; word = refl; below = from_large low }

      pub source_inside : n < size → IsInHeap k (c.source + 2 + n)
      source_inside low = met_value_inside k y c.source n pair.same.from p.works.fit pair.same.here (from_large low)

      -- so its index doesn't wrap
      pub source_small : IsWithinLimits (sizes_in k) → n < size → c.source + 2 + n < 2 ^ 32
      source_small limits low =
          let w : ℕ = heap_words k in
          let s : w < 2 ^ 24 = heap_small k limits in
          let h : c.source + 2 + n ≤ w = (source_inside low).1 in
          let g : c.source + 2 + n < 2 ^ 32 = omega arith in g

      to_large : n < size → n + 2 < extent p.place.shape
      to_large low = let b : ℕ = extent p.place.shape in let f : b ≡ size + 2 = p.extent_is in let g : n + 2 < b = omega arith in g

      pub copy_value_inside : n < size → IsInHeap k (c.copy + 2 + n)
      copy_value_inside low = met_value_inside k y c.copy n p.place p.works.fit p.met (to_large low)

      -- the value that was loaded, and what it has become
      module _ (low : n < size) (word : ℕ) (y1 : DomainView) (told : ValueMet k c.source n y word y1) where
        pub value_grown : Grown k y y1
        value_grown = grown_met k y y1 told.view told.more told.fit p.works

        module _ (v : Value) (read : IsPackable v × (value_word v ≡ word)) where
          value_is : v ≡ told.value
          value_is = value_word-injective v told.value read.0 told.packable (read.1 ∙ told.word)

          as_held : Stands (Knows y1) v told.held
          as_held = subst (λ (u : Value). Stands (Knows y1) u told.held) (sym value_is) told.stands

          pub value_stands : StandsFor y1 v
          value_stands = (told.held, as_held)

          module _ (y2 : DomainView) (new : Value) (fw : Forwarded k v y1 y2 new) where
            pub progress_forwarded : Progress k i c size n x y2
            progress_forwarded = progress_claims y1 y2 (progress_claims y y1 p value_grown) fw.grown

            pub fill_may : FillMay k y2 (c.copy + 2 + n) (value_word new)
            fill_may =
                let q = progress_forwarded in
                let front : y2.seen.front ≡ y.seen.front = ap (λ (z : DomainView). z.seen.front) fw.grown.view ∙ ap (λ (z : DomainView). z.seen.front) told.view in
                let m = fw.grown.learns.more c.copy (value_grown.learns.more c.copy p.place p.met).place (value_grown.learns.more c.copy p.place p.met).lives in
                let there : q.place ≡ m.place = some_same q.place m.place (sym q.met ∙ m.lives) in
                let from : told.place ≡ pair.same.from = some_same told.place pair.same.from (sym told.met ∙ pair.same.here) in
                let label : told.place.label ≡ q.place.label = ap (λ (o : Place). o.label) from ∙ (sym pair.same.label ∙ (ap (λ (o : Place). o.label) to_is ∙ (sym (value_grown.learns.more c.copy p.place p.met).label ∙ (sym m.label ∙ ap (λ (o : Place). o.label) (sym there))))) in record {
                  stage = q.works.stage;
                  first = record { copy = c.copy; source = c.source; filled = n };
                  rest = owed_from (drop (i + 1) y2.own.pending.items);
                  pending = q.pending;
                  place = q.place;
                  met = q.met;
                  below = (let b : ℕ = extent q.place.shape in let f : b ≡ size + 2 = q.extent_is in let g : n + 2 < b = omega arith in g);
                  word = refl;
                  value = new;
                  packs = refl;
                  held = told.held;
                  has = subst (λ (o : List Entry × Label). HasValueAt (state_of k o.0) o.1 n told.held) (λ j. (sym front j, label j)) told.has;
                  stands = fw.stands told.held as_held;
                  old = old_word k new fw.packable fw.old;
                }

      -- one value more is stored
      pub progress_on : (new : ℕ) (z : DomainView) → FillTold y new z → Progress k i c size (n + 1) x z
      progress_on new z told =
          let same = owing_same told.first (record { copy = c.copy; source = c.source; filled = n }) told.rest (owed_from (drop (i + 1) y.own.pending.items)) (sym told.pending ∙ p.pending) in
          let l : List Owing = record { copy = c.copy; source = c.source; filled = n + 1 } ∷ owed_from (drop (i + 1) y.own.pending.items) in
          let e : z ≡ with_pending y l = told.view ∙ (λ j. with_pending y (record (same.0 j) { filled = (same.0 j).filled + 1 } ∷ same.1 j)) in
          let whole : with_pending y l ≡ with_claims x (with_pending y l) = claims_twice x y (with_pending y l) p.view refl in
          let w = p.works in
          subst (λ (v : DomainView). Progress k i c size (n + 1) x v) (sym e) record {
            view = whole;
            works = works_pending l;
            learns = record { more = p.learns.more; copies = p.learns.copies };
            item = p.item;
            pending = refl;
            place = p.place;
            met = p.met;
            extent_is = p.extent_is;
          }
        where
          works_pending : (l : List Owing) → Works k (with_pending y l)
          works_pending l = let w = p.works in record { stage = w.stage; at_rest = w.at_rest; fit = w.fit; placed = w.placed; pairs = λ j b got. let o = w.pairs j b got in record { young = o.young; old = o.old; same = o.same } }

      pub ended : (found : ℕ) (z : DomainView) → FilledTold y found z → FilledTo k (i + 1) x z
      ended found z told =
          let same = owing_same told.first (record { copy = c.copy; source = c.source; filled = n }) told.rest (owed_from (drop (i + 1) y.own.pending.items)) (sym told.pending ∙ p.pending) in
          let l : List Owing = owed_from (drop (i + 1) y.own.pending.items) in
          let e : z ≡ with_pending y l = told.view ∙ ap (with_pending y) same.1 in
          let w = p.works in
          subst (FilledTo k (i + 1) x) (sym e) record {
            view = claims_twice x y (with_pending y l) p.view refl;
            works = record { stage = w.stage; at_rest = w.at_rest; fit = w.fit; placed = w.placed; pairs = λ j b got. let o = w.pairs j b got in record { young = o.young; old = o.old; same = o.same } };
            learns = record { more = p.learns.more; copies = p.learns.copies };
            tied = refl;
            some = (let b = get_below y.own.pending.items i c p.item in let g : i + 1 ≤ length y.own.pending.items = omega arith in g);
          }
