-- What a domain that copies knows after it has met a block.
use Rattle.std.proofs.Common.{◌≡◌, ℕ, ◌+◌, ◌*◌, ◌^◌, ◌<◌, ◌≤◌, ◌⊎◌, cond, eq-eqb, Bool, false, List, [], ◌∷◌, ◌++◌, append-nil, append_assoc, slice_get, Option, Some, None, sym, refl, ap, ◌∙◌, subst, inl, inr, ⊎_elim, arith}
use Rattle.model_core.specs.Domains.{IsWithinLimits}
use Rattle.model_core.specs.Fronts.{Shape, PlainShape, RawShape, EpheShape}
use Rattle.heap_words.specs.declared.head.Head.TheVariants.{Forward}
use Rattle.heap_words.specs.Heads.{IsPackableHead, head_word}
use Rattle.heap_words.specs.Unpacked.{IsWordOf, Unpacks}
use Rattle.heap_words.proofs.WordLemmas.{head_word-injective}
use Rattle.heap_rule.specs.declared.config.Config.{Config}
use Rattle.heap_rule.specs.declared.view.Copied.{Copied}
use Rattle.heap_rule.specs.declared.view.Met.{Met}
use Rattle.heap_rule.specs.declared.view.DomainView.{DomainView}
use Rattle.heap_rule.specs.Copies.{ListsCopy, HasCopy, met_place, known}
use Rattle.heap_rule.specs.Limits.{sizes_in}
use Rattle.heap_rule.specs.Layout.{heap_words}
use Rattle.heap_rule.specs.Places.{Place, Live, extent, head_of, new_colour, IsNewHead, IsOldAt, Lasts, More, IsHeadOf}
use Rattle.heap_rule.specs.Pools.{prepared_at}
use Rattle.heap_rule.specs.declared.view.Held.{Held}
use Rattle.heap_rule.specs.Finalisers.{held_at}
use Rattle.heap_rule.specs.Standing.{IsInHeap, IsAt}
use Rattle.heap_rule.proofs.Values.{address_of}
use Rattle.step_promote.specs.Promotion.{met_of, with_met, with_copied, AllFit, Knows, StaysThere, Forwards, HeadMet, HeadMay}
use Rattle.gc_copy.specs.Heads.{IsForward, forward_word, IsHeadFor}
use Rattle.gc_copy.specs.Working.{SameBlock, IsPair, Works, owed_from, with_claims, Learns, Grown, IsMetWith, Claimed}
use Rattle.step_marks.specs.Marking.Looks.{with_share, knowing_colours}
use Rattle.step_marks.specs.Marking.Arming.{knowing_armed}
use Rattle.heap_words.specs.declared.colours.Colours.{Colours}
use Rattle.heap_rule.proofs.HeadLemmas.{packable_head}
use Rattle.heap_rule.proofs.Keeps.{more_same}
use Rattle.step_promote.proofs.Meets.{more_trans}

pub known_here : (m : Met) (ms : List Met) → known (m ∷ ms) m.address ≡ Some (met_place m)
known_here m ms = ap (λ (b : Bool). cond b (Some (met_place m)) (known ms m.address)) (eq-eqb m.address m.address refl)

pub same_more : (live live' : Live) (a c : ℕ) → More live live' → SameBlock live a c → SameBlock live' a c
same_more live live' a c more s = let f = more a s.from s.here in let t = more c s.to s.there in record {
  from = f.place;
  here = f.lives;
  to = t.place;
  there = t.lives;
  label = t.label ∙ (s.label ∙ sym f.label);
  shape = t.shape ∙ (s.shape ∙ sym f.shape);
}

-- two addresses at which one block was met
pub same_lasts : (live : Live) (a c : ℕ) (p : Place) → Lasts live a p → Lasts live c p → SameBlock live a c
same_lasts live a c p f t = record { from = f.place; here = f.lives; to = t.place; there = t.lives; label = t.label ∙ sym f.label; shape = t.shape ∙ sym f.shape }

pub pair_more : (k : Config) (x y : DomainView) (c : Copied) → More (Knows x) (Knows y) → IsPair k x c → IsPair k y c
pair_more k x y c more p = record { young = p.young; old = p.old; same = same_more (Knows x) (Knows y) c.source c.copy more p.same }

-- an address of the pools is small
pub old_small : (k : Config) (a : ℕ) → IsWithinLimits (sizes_in k) → IsOldAt k a → a < 2 ^ 32
old_small k a limits old = let p : ℕ = k.pools in let few : p ≤ 2048 = limits.pools in let o : a ≤ p * 4096 = old in omega arith

-- what was met lies in the heap
pub met_inside : (k : Config) (x : DomainView) (a : ℕ) (p : Place) → AllFit k x → Knows x a ≡ Some p → IsInHeap k a
met_inside k x a p fit e = let f = address_of k a p (fit a p e) in let w : ℕ = heap_words k in let l : 1 ≤ a = f.0 in let h : a + 2 ≤ w = f.1 in (l, let g : a ≤ w = omega arith in g)

-- its label too
pub met_label_inside : (k : Config) (x : DomainView) (a : ℕ) (p : Place) → AllFit k x → Knows x a ≡ Some p → IsInHeap k (a + 1)
met_label_inside k x a p fit e = let f = address_of k a p (fit a p e) in let w : ℕ = heap_words k in let l : 1 ≤ a = f.0 in let h : a + 2 ≤ w = f.1 in (let g : 1 ≤ a + 1 = omega arith in g, let g : a + 1 ≤ w = omega arith in g)

-- and its values
pub met_value_inside : (k : Config) (x : DomainView) (a i : ℕ) (p : Place) → AllFit k x → Knows x a ≡ Some p → i + 2 < extent p.shape → IsInHeap k (a + 2 + i)
met_value_inside k x a i p fit e below = let f = fit a p e in let w : ℕ = heap_words k in let l : 1 ≤ a = f.low in let n : ℕ = extent p.shape in let h : a + n ≤ w + 1 = f.high in let b : i + 2 < n = below in
    (let g : 1 ≤ a + 2 + i = omega arith in g, let g : a + 2 + i ≤ w = omega arith in g)

pub learns_same : (x : DomainView) → Learns x x
learns_same x = record { more = more_same (Knows x); copies = λ a c has. has }

pub learns_twice : (x y z : DomainView) → Learns x y → Learns y z → Learns x z
learns_twice x y z f g = record { more = more_trans (Knows x) (Knows y) (Knows z) f.more g.more; copies = λ a c has. g.copies a c (f.copies a c has) }

-- the domain with other blocks met, and other copies known
abbrev met_with_copies : DomainView → List Met → List Copied → DomainView
met_with_copies x met copied = with_copied (with_met x met) copied

-- blocks were met, and nothing else has changed
module _ (k : Config) (x y : DomainView) (met : List Met) (copied : List Copied) (e : y ≡ met_with_copies x met copied) (more : More (Knows x) (Knows y)) (copies : (a c : ℕ) → HasCopy x a c → ListsCopy copied a c) (fit : AllFit k y) (w : Works k x) where
  pub works_on : Works k y
  works_on = record {
    stage = ap (λ (z : DomainView). z.seen.stage) e ∙ w.stage;
    at_rest = ap (λ (z : DomainView). z.seen.hunt) e ∙ w.at_rest;
    fit = fit;
    placed = λ class a few is. w.placed class a few (ap (λ (z : DomainView). prepared_at z.own.prepared class) (sym e) ∙ is);
    pairs = λ i c got. pair_more k x y c more (w.pairs i c (ap (λ (z : DomainView). slice_get z.own.pending.items i) (sym e) ∙ got));
  }

  pub grown_with : Grown k x y
  grown_with = record {
    view = e ∙ ap (with_claims x) (sym e);
    works = works_on;
    learns = record { more = more; copies = λ a c has. subst (λ (z : DomainView). HasCopy z a c) (sym e) (copies a c has) };
    made = [];
    items = ap (λ (z : DomainView). z.own.pending.items) e ∙ sym (append-nil x.own.pending.items);
    owed = ap (λ (z : DomainView). z.seen.copying.pending) e ∙ sym (append-nil x.seen.copying.pending);
  }

-- where no copy was found
pub grown_met : (k : Config) (x y : DomainView) → y ≡ with_met x y.seen.copying.met → More (Knows x) (Knows y) → AllFit k y → Works k x → Grown k x y
grown_met k x y e more fit w = grown_with k x y y.seen.copying.met x.seen.copying.copied e more (λ a c has. has) fit w

pub owed_append : (a b : List Copied) → owed_from (a ++ b) ≡ owed_from a ++ owed_from b
owed_append [] b = refl
owed_append (c ∷ cs) b = ap (λ l. record { copy = c.copy; source = c.source; filled = 0 } ∷ l) (owed_append cs b)

pub grown_none : (k : Config) (x : DomainView) → Works k x → Grown k x x
grown_none k x w = record { view = refl; works = w; learns = learns_same x; made = []; items = sym (append-nil x.own.pending.items); owed = sym (append-nil x.seen.copying.pending) }

-- the domain knows other things of the colours and of the armed word, and nothing else has changed
module _ (k : Config) (x y : DomainView) (colours : Option Colours) (armed : Option Bool) (e : y ≡ with_share x (record x.seen.share { colours = colours; armed = armed })) where
  grown_looked : Works k x → Grown k x y
  grown_looked w = record {
    view = e ∙ ap (with_claims x) (sym e);
    works = record {
      stage = ap (λ (z : DomainView). z.seen.stage) e ∙ w.stage;
      at_rest = ap (λ (z : DomainView). z.seen.hunt) e ∙ w.at_rest;
      fit = subst (λ (z : DomainView). AllFit k z) (sym e) w.fit;
      placed = λ class a few is. w.placed class a few (ap (λ (z : DomainView). prepared_at z.own.prepared class) (sym e) ∙ is);
      pairs = λ i m got. let p = w.pairs i m (ap (λ (z : DomainView). slice_get z.own.pending.items i) (sym e) ∙ got) in record { young = p.young; old = p.old; same = subst (λ (z : DomainView). SameBlock (Knows z) m.source m.copy) (sym e) p.same };
    };
    learns = subst (λ (z : DomainView). Learns x z) (sym e) (let l = learns_same x in record { more = l.more; copies = l.copies });
    made = [];
    items = ap (λ (z : DomainView). z.own.pending.items) e ∙ sym (append-nil x.own.pending.items);
    owed = ap (λ (z : DomainView). z.seen.copying.pending) e ∙ sym (append-nil x.seen.copying.pending);
  }

  head_may_looked : (a : ℕ) → HeadMay x a → HeadMay y a
  head_may_looked a may = subst (λ (z : DomainView). HeadMay z a) (sym e) record { stage = may.stage; from = ⊎_elim (λ (t : (p : Place) × (Knows x a ≡ Some p)). inl t) (λ z. ⊎_elim (λ (t : (r : ℕ) × IsAt x r a). inr (inl (t.0, record { few = t.1.few; holds = t.1.holds }))) (λ (t : (h : Held) × (held_at x.own.finalisers h ≡ Some a)). inr (inr t)) z) may.from }

-- the domain has learnt the colours
pub grown_colours : (k : Config) (x y : DomainView) (c : Colours) → y ≡ knowing_colours x c → Works k x → Grown k x y
grown_colours k x y c e w = grown_looked k x y (Some c) x.seen.share.armed e w

pub head_may_colours : (k : Config) (x y : DomainView) (c : Colours) (a : ℕ) → y ≡ knowing_colours x c → HeadMay x a → HeadMay y a
head_may_colours k x y c a e may = head_may_looked k x y (Some c) x.seen.share.armed e a may

-- or the armed word
pub grown_armed : (k : Config) (x y : DomainView) (b : Bool) → y ≡ knowing_armed x b → Works k x → Grown k x y
grown_armed k x y b e w = grown_looked k x y x.seen.share.colours (Some b) e w

pub head_may_armed : (k : Config) (x y : DomainView) (b : Bool) (a : ℕ) → y ≡ knowing_armed x b → HeadMay x a → HeadMay y a
head_may_armed k x y b a e may = head_may_looked k x y x.seen.share.colours (Some b) e a may

-- claims one behind the other
pub grown_twice : (k : Config) (x y z : DomainView) → Grown k x y → Grown k y z → Grown k x z
grown_twice k x y z a b = record {
  view = b.view ∙ ap (λ (v : DomainView). with_claims v z) a.view;
  works = b.works;
  learns = learns_twice x y z a.learns b.learns;
  made = a.made ++ b.made;
  items = b.items ∙ (ap (λ (l : List Copied). l ++ b.made) a.items ∙ append_assoc x.own.pending.items a.made b.made);
  owed = b.owed ∙ (ap (λ l. l ++ owed_from b.made) a.owed ∙ (append_assoc x.seen.copying.pending (owed_from a.made) (owed_from b.made) ∙ ap (λ l. x.seen.copying.pending ++ l) (sym (owed_append a.made b.made))));
}

-- the head of a block that stays isn't one that forwards
pub stays_put : (s : Shape) (colour : ℕ) (scanned : Bool) (c : ℕ) → head_of None s colour scanned ≡ Forward c → ⊥
stays_put (PlainShape size tag) colour scanned c e = cc
stays_put (RawShape size tag) colour scanned c e = cc
stays_put (EpheShape keys) colour scanned c e = cc

pub never_forward : (s : Shape) (word c : ℕ) → IsHeadOf s word → IsForward c → forward_word c ≡ word → ⊥
never_forward s word c head forward is = stays_put s head.colour head.scanned c (head_word-injective (head_of None s head.colour head.scanned) (Forward c) head.packable forward (sym head.packs ∙ sym is))

pub forward_same : (a b : ℕ) → forward_word a ≡ forward_word b → a ≡ b
forward_same a b e = let h : 3 + 2 ^ 32 * a ≡ 3 + 2 ^ 32 * b = e in omega arith

-- the head of a block that was met
module _ (k : Config) (at : ℕ) (x : DomainView) (word : ℕ) (y : DomainView) (told : HeadMet k at x word y) (limits : IsWithinLimits (sizes_in k)) where
  pub head_grown : Works k x → Grown k x y
  head_grown w = ⊎_elim
      (λ (t : StaysThere k at told.place x word y). grown_with k x y (met_of at told.place ∷ x.seen.copying.met) x.seen.copying.copied t.view told.more (λ a c has. has) told.fit w)
      (λ (t : Forwards k at told.place x word y). grown_with k x y (met_of t.copy told.place ∷ met_of at told.place ∷ x.seen.copying.met) (record { copy = t.copy; source = at } ∷ x.seen.copying.copied) t.view told.more (λ a c has. inr has) told.fit w)
      told.told

  -- it is the word of a head
  pub head_known : IsWordOf IsPackableHead head_word word
  head_known = ⊎_elim
      (λ (t : StaysThere k at told.place x word y). (head_of None told.place.shape t.head.colour t.head.scanned, t.head.packable, sym t.head.packs))
      (λ (t : Forwards k at told.place x word y). (Forward t.copy, (t.inside.0, old_small k t.copy limits t.old), sym t.word))
      told.told

  -- where the head forwards, the copy was met
  -- and the domain is to fill the copies that it was to fill
  pub head_items : y.own.pending.items ≡ x.own.pending.items
  head_items = ⊎_elim
      (λ (t : StaysThere k at told.place x word y). ap (λ (z : DomainView). z.own.pending.items) t.view)
      (λ (t : Forwards k at told.place x word y). ap (λ (z : DomainView). z.own.pending.items) t.view)
      told.told

  pub head_claimed : (copy : ℕ) → Works k x → IsForward copy × (forward_word copy ≡ word) → Claimed k at x y copy
  head_claimed copy w leads = ⊎_elim
      (λ (t : StaysThere k at told.place x word y). absurd (never_forward told.place.shape word copy t.head leads.0 leads.1))
      (λ (t : Forwards k at told.place x word y).
      subst (Claimed k at x y) (forward_same t.copy copy (sym t.word ∙ sym leads.1)) record {
        grown = head_grown w;
        old = t.old;
        copied = subst (λ (z : DomainView). HasCopy z at t.copy) (sym t.view) (inl (refl, refl));
        same = same_lasts (Knows y) at t.copy told.place told.here t.there;
        made = inl head_items;
      })
      told.told

  -- where it doesn't, it is that of a block of its shape
  pub head_stays : Unpacks IsForward forward_word word None → StaysThere k at told.place x word y
  head_stays none = ⊎_elim (λ (t : StaysThere k at told.place x word y). t)
      (λ (t : Forwards k at told.place x word y). absurd (let e : ◌≡◌ {A = Option ℕ} None (Some t.copy) = none.only t.copy (t.inside.0, old_small k t.copy limits t.old) (sym t.word) in cc))
      told.told

  pub met_with : k.pools * 4096 < at → (c : Colours) × (x.seen.share.colours ≡ Some c) → (b : Bool) × (x.seen.share.armed ≡ Some b) → Unpacks IsForward forward_word word None → IsMetWith y at word
  met_with young known beside none = let l = told.here in let s = head_stays none in record {
    place = l.place;
    met = l.lives;
    head = subst (λ (z : DomainView × Shape). IsNewHead z.0.seen.share.colours z.0.seen.share.armed false z.1 word) (λ i. (sym s.view i, sym l.shape i)) (s.new young known.0 known.1 beside.0 beside.1);
  }

-- the head of a block that was met says how large it is
pub head_for : (k : Config) (x : DomainView) (a word : ℕ) → AllFit k x → (m : IsMetWith x a word) → IsHeadFor m.place.shape word
head_for k x a word fit m = let f = fit a m.place m.met in let h = m.head in record { head = record { colour = new_colour h.beside h.colours; scanned = false; fits = f.head; packable = packable_head m.place.shape (new_colour h.beside h.colours) false h.fits f.head; packs = h.packs } }

pub claimed_after : (k : Config) (a c : ℕ) (x y z : DomainView) → y.own.pending.items ≡ x.own.pending.items → Grown k x y → Claimed k a y z c → Claimed k a x z c
claimed_after k a c x y z same g t = record { grown = grown_twice k x y z g t.grown; old = t.old; copied = t.copied; same = t.same; made = subst (λ (items : List Copied). (z.own.pending.items ≡ items) ⊎ (z.own.pending.items ≡ items ++ record { copy = c; source = a } ∷ [])) same t.made }
