-- What becomes of the lists of finalisers, place by place.
use Rattle.std.proofs.Common.{◌≡◌, ◌≢◌, ℕ, zero, suc, ◌+◌, ◌*◌, ◌<◌, ◌≤◌, ◌⊎◌, inl, inr, ⊎_elim, List, [], ◌∷◌, length, map, slice_get, option_map, option_and_then, Option, Some, None, sym, refl, ap, ◌∙◌, subst, arith}
use mathlib.Core.Logic.{dite}
use native.Mathlib.Decide.{ℕ_discrete}
use Rattle.heap_words.specs.declared.colours.Colours.{Colours}
use Rattle.heap_words.specs.declared.value.Value.TheVariants.{Ref}
use Rattle.heap_rule.specs.declared.config.Config.{Config}
use Rattle.heap_rule.specs.declared.view.DomainView.{DomainView}
use Rattle.heap_rule.specs.declared.view.Finalisers.{Finalisers}
use Rattle.heap_rule.specs.declared.view.Held.{Held}
use Rattle.heap_rule.specs.declared.view.Held.TheVariants.{Final, Last, Queue}
use Rattle.heap_rule.specs.declared.view.Waiting.{Waiting}
use Rattle.heap_rule.specs.declared.view.Waiting.TheVariants.{Fin as FinWaiting, Last as LastWaiting}
use Rattle.heap_rule.specs.Copies.{HasCopy}
use Rattle.heap_rule.specs.Finalisers.{address_in, held_at}
use Rattle.heap_rule.specs.Places.{IsOldAt}
use Rattle.step_marks.specs.Marking.Looks.{knowing_colours}
use Rattle.step_promote.specs.Promotion.{Knows, changed_at, waiting_at, with_held, with_finalisers, HeadMay, HeldMoveMay, HeldMoveTold}
use Rattle.step_promote.proofs.HeldPlaces.{mapped_from, chained_from, held_here, held_else}
use Rattle.gc_copy.specs.Held.{bare_final, bare_last, bare_waiting, with_held_moves, without_addresses, HeldBecomes, HeldMoved, AllHeldMoved, IsPlaceOf, IsBeforeIn}
use Rattle.gc_copy.specs.Roots.{Becomes}
use Rattle.gc_copy.specs.Working.{SameBlock, Works, Tied, with_claims, Claimed}
use Rattle.gc_copy.proofs.Fills.{get_below, tied_grown}
use Rattle.gc_copy.proofs.Meeting.{grown_colours, claimed_after, learns_same, learns_twice}
use Rattle.gc_copy.proofs.Rooting.{becomes_on}
use Rattle.std.proofs.lemmas.Option.{same_Some}

-- lists of images
length_map : {A B : Type 0} (f : A → B) (xs : List A) → length (map f xs) ≡ length xs
length_map f [] = refl
length_map f (x ∷ xs) = ap suc (length_map f xs)

get_map : {A B : Type 0} (f : A → B) (xs : List A) (i : ℕ) → slice_get (map f xs) i ≡ option_map f (slice_get xs i)
get_map f [] i = refl
get_map f (x ∷ xs) zero = refl
get_map f (x ∷ xs) (suc i) = get_map f xs i

-- a change that no image shows
map_changed : {A B : Type 0} (f : A → B) (g : A → A) (xs : List A) (i : ℕ) → ((x : A) → f (g x) ≡ f x) → map f (changed_at g xs i) ≡ map f xs
map_changed f g [] i same = refl
map_changed f g (x ∷ xs) zero same = ap (λ y. y ∷ map f xs) (same x)
map_changed f g (x ∷ xs) (suc i) same = ap (λ l. f x ∷ l) (map_changed f g xs i same)

-- where the images are the same, an item is there where one was
same_images : {A B : Type 0} (f : A → B) (xs ys : List A) (i : ℕ) (y : A) → map f ys ≡ map f xs → slice_get ys i ≡ Some y → (x : A) × (slice_get xs i ≡ Some x) × (f x ≡ f y)
same_images f xs ys i y same got = mapped_from f (slice_get xs i) (f y) (sym (get_map f xs i) ∙ (ap (λ l. slice_get l i) (sym same) ∙ (get_map f ys i ∙ ap (option_map f) got)))

-- all of the lists but one address stays
pub rest_moved : (fs : Finalisers) (h : Held) (c : ℕ) → without_addresses (with_held fs h c) ≡ without_addresses fs
rest_moved fs (Final i) c = ap (λ l. record (without_addresses fs) { finals = record fs.finals { items = l } }) (map_changed bare_final (λ r. record r { address = c }) fs.finals.items i (λ r. refl))
rest_moved fs (Last i) c = ap (λ l. record (without_addresses fs) { lasts = record fs.lasts { items = l } }) (map_changed bare_last (λ r. record r { address = c }) fs.lasts.items i (λ r. refl))
rest_moved fs (Queue i) c = ap (λ l. record (without_addresses fs) { queue = record fs.queue { items = l } }) (map_changed bare_waiting (waiting_at c) fs.queue.items i bare)
  where
    bare : (w : Waiting) → bare_waiting (waiting_at c w) ≡ bare_waiting w
    bare (FinWaiting a n r) = refl
    bare (LastWaiting n) = refl

-- and where it stays, the lists are as long as they were
pub finals_long : (fs gs : Finalisers) → without_addresses gs ≡ without_addresses fs → length gs.finals.items ≡ length fs.finals.items
finals_long fs gs rest = sym (length_map bare_final gs.finals.items) ∙ (ap (λ (z : Finalisers). length z.finals.items) rest ∙ length_map bare_final fs.finals.items)

pub lasts_long : (fs gs : Finalisers) → without_addresses gs ≡ without_addresses fs → length gs.lasts.items ≡ length fs.lasts.items
lasts_long fs gs rest = sym (length_map bare_last gs.lasts.items) ∙ (ap (λ (z : Finalisers). length z.lasts.items) rest ∙ length_map bare_last fs.lasts.items)

pub queue_long : (fs gs : Finalisers) → without_addresses gs ≡ without_addresses fs → length gs.queue.items ≡ length fs.queue.items
queue_long fs gs rest = sym (length_map bare_waiting gs.queue.items) ∙ (ap (λ (z : Finalisers). length z.queue.items) rest ∙ length_map bare_waiting fs.queue.items)

-- an empty queue stays as it is
map_none : {A B : Type 0} (f : A → B) (xs : List A) → map f xs ≡ [] → xs ≡ []
map_none f [] none = refl
map_none f (x ∷ xs) none = absurd (let e : f x ∷ map f xs ≡ [] = none in cc)

pub queue_stays : (fs gs : Finalisers) → without_addresses gs ≡ without_addresses fs → fs.queue.items ≡ [] → gs.queue ≡ fs.queue
queue_stays fs gs rest none =
    let empty : gs.queue.items ≡ [] = map_none bare_waiting gs.queue.items (ap (λ (z : Finalisers). z.queue.items) rest ∙ ap (map bare_waiting) none) in
    (λ i. record { items = (empty ∙ sym none) i; room = ap (λ (z : Finalisers). z.queue.room) rest i })

-- and have addresses where they had some
pub held_before : (fs gs : Finalisers) (h : Held) (c : ℕ) → without_addresses gs ≡ without_addresses fs → held_at gs h ≡ Some c → (a : ℕ) × (held_at fs h ≡ Some a)
held_before fs gs (Final i) c rest is =
    let o = mapped_from (λ r. r.address) (slice_get gs.finals.items i) c is in
    let m = same_images bare_final fs.finals.items gs.finals.items i o.0 (ap (λ (z : Finalisers). z.finals.items) rest) o.1 in
    (m.0.address, ap (option_map (λ r. r.address)) m.1)
held_before fs gs (Last i) c rest is =
    let o = mapped_from (λ r. r.address) (slice_get gs.lasts.items i) c is in
    let m = same_images bare_last fs.lasts.items gs.lasts.items i o.0 (ap (λ (z : Finalisers). z.lasts.items) rest) o.1 in
    (m.0.address, ap (option_map (λ r. r.address)) m.1)
held_before fs gs (Queue i) c rest is =
    let o = chained_from address_in (slice_get gs.queue.items i) c is in
    let m = same_images bare_waiting fs.queue.items gs.queue.items i o.0 (ap (λ (z : Finalisers). z.queue.items) rest) o.1 in
    let b = addressed m.0 o.0 m.2 o.2 in
    (b.0, ap (option_and_then address_in) m.1 ∙ b.1)
  where
    addressed : (x y : Waiting) → bare_waiting x ≡ bare_waiting y → address_in y ≡ Some c → (a : ℕ) × (address_in x ≡ Some a)
    addressed (FinWaiting a n r) y same has = (a, refl)
    addressed (LastWaiting n) (FinWaiting a m r) same has = absurd (let e : LastWaiting n ≡ FinWaiting 0 m r = same in cc)
    addressed (LastWaiting n) (LastWaiting m) same has = absurd (let e : ◌≡◌ {A = Option ℕ} None (Some c) = has in cc)

-- nothing has become of the places of which none is asked
pub moved_none : (k : Config) (which : Held → Type 0) (x : DomainView) → Works k x → Tied 0 x → ((h : Held) (a : ℕ) → which h → held_at x.own.finalisers h ≡ Some a → ⊥) → HeldMoved k which x x
moved_none k which x w t nowhere = record { view = refl; works = w; learns = learns_same x; tied = t; becomes = λ h a is held. absurd (nowhere h a is held); others = λ h _. refl; rest = refl }

-- the address of a young block, whose domain has just learnt the colours, becomes that of its copy
module _ (k : Config) (x u y : DomainView) (h : Held) (a c : ℕ) (colours : Colours) (w : Works k x) (t : Tied 0 x) (is : held_at x.own.finalisers h ≡ Some a) (young : k.pools * 4096 < a) (knows : u ≡ knowing_colours x colours) where
  pub colours_works : Works k u
  colours_works = (grown_colours k x u colours knows w).works

  pub held_may : HeadMay u a
  held_may = record { stage = colours_works.stage; from = inr (inr (h, ap (λ (z : DomainView). held_at z.own.finalisers h) knows ∙ is)) }

  module _ (got : Claimed k a u y c) where
    claimed : Claimed k a x y c
    claimed = claimed_after k a c x u y (ap (λ (z : DomainView). z.own.pending.items) knows) (grown_colours k x u colours knows w) got

    lists_same : y.own.finalisers ≡ x.own.finalisers
    lists_same = ap (λ (z : DomainView). z.own.finalisers) claimed.grown.view

    pub move_may : HeldMoveMay y h c
    move_may = let s = claimed.same in record {
      stage = claimed.grown.works.stage;
      address = a;
      holds = ap (λ (z : Finalisers). held_at z h) lists_same ∙ is;
      from = s.from;
      met = s.here;
      to = s.to;
      there = s.there;
      label = s.label;
    }

    pub moved_young : (found : ℕ) (z : DomainView) → HeldMoveTold k h c y found z → HeldMoved k (λ g. g ≡ h) x z
    moved_young found z told =
        let W : Finalisers = with_held x.own.finalisers h c in
        let q : DomainView = with_finalisers (with_claims x y) W in
        let e : z ≡ q = told.view ∙ (λ i. with_finalisers (claimed.grown.view i) (with_held (lists_same i) h c)) in
        let v = claimed.grown.works in
        subst (HeldMoved k (λ g. g ≡ h) x) (sym e) record {
          view = refl;
          works = record { stage = w.stage; at_rest = v.at_rest; fit = v.fit; placed = v.placed; pairs = λ j b there. let o = v.pairs j b there in record { young = o.young; old = o.old; same = o.same } };
          learns = record { more = claimed.grown.learns.more; copies = claimed.grown.learns.copies };
          tied = tied_grown k 0 x y (omega arith) t claimed.grown;
          becomes = λ g b same held. let here : b ≡ a = same_Some b a (sym held ∙ (ap (held_at x.own.finalisers) same ∙ is)) in record {
            new = c;
            held = subst (λ (n : Held). held_at W n ≡ Some c) (sym same) (held_here x.own.finalisers h a c is);
            becomes = record {
              stays = λ old. absurd (let o : b ≤ k.pools * 4096 = old in let f : b ≡ a = here in omega arith);
              moves = λ n named _. let f : Ref b ≡ Ref n = named in let i : n ≡ a = (let l : b ≡ n = cc in sym l ∙ here) in record {
                copy = c;
                is = refl;
                old = claimed.old;
                copied = subst (λ (m : ℕ). HasCopy y m c) (sym i) claimed.copied;
                same = subst (λ (m : ℕ). SameBlock (Knows y) m c) (sym i) claimed.same;
              };
            };
          };
          others = λ g other. held_else x.own.finalisers h g c other;
          rest = rest_moved x.own.finalisers h c;
        }

-- moves one behind the other, of places that differ
pub moved_twice : (k : Config) (P Q : Held → Type 0) (x y z : DomainView) → ((h : Held) → P h → Q h → ⊥) → HeldMoved k P x y → HeldMoved k Q y z → HeldMoved k (λ h. P h ⊎ Q h) x z
moved_twice k P Q x y z apart f g = record {
  view = g.view ∙ ap (λ (u : DomainView). with_held_moves u z) f.view;
  works = g.works;
  learns = learns_twice x y z f.learns g.learns;
  tied = g.tied;
  becomes = λ h a is held. ⊎_elim
      (λ (p : P h). let b = f.becomes h a p held in record { new = b.new; held = g.others h (apart h p) ∙ b.held; becomes = becomes_on k y z (Ref a) (Ref b.new) g.learns b.becomes })
      (λ (q : Q h). g.becomes h a q (f.others h (λ p. apart h p q) ∙ held)) is;
  others = λ h none. g.others h (λ q. none (inr q)) ∙ f.others h (λ p. none (inl p));
  rest = g.rest ∙ f.rest;
}

-- the places that are so, by other words
pub moved_as : (k : Config) (P Q : Held → Type 0) (x y : DomainView) → ((h : Held) (a : ℕ) → held_at x.own.finalisers h ≡ Some a → Q h → P h) → ((h : Held) → P h → Q h) → HeldMoved k P x y → HeldMoved k Q x y
moved_as k P Q x y to from f = record { view = f.view; works = f.works; learns = f.learns; tied = f.tied; becomes = λ h a q held. f.becomes h a (to h a held q) held; others = λ h none. f.others h (λ p. none (from h p)); rest = f.rest }

-- what becomes of an address isn't one of a minor area
becomes_old : (k : Config) (y : DomainView) (a c : ℕ) → Becomes k y (Ref a) (Ref c) → IsOldAt k c
becomes_old k y a c b = ⊎_elim
    (λ (old : a ≤ k.pools * 4096). let e : Ref c ≡ Ref a = b.stays old in let f : c ≡ a = cc in subst (IsOldAt k) (sym f) old)
    (λ (young : k.pools * 4096 < a). let m = b.moves a refl young in let e : Ref c ≡ Ref m.copy = m.is in let f : c ≡ m.copy = cc in subst (IsOldAt k) (sym f) m.old)
    (compared a (k.pools * 4096))
  where
    compared : (m n : ℕ) → (m ≤ n) ⊎ (n < m)
    compared zero n = inl (omega arith)
    compared (suc m) zero = inr (omega arith)
    compared (suc m) (suc n) = ⊎_elim (λ (l : m ≤ n). inl (omega arith)) (λ (l : n < m). inr (omega arith)) (compared m n)

-- the places of a list one by one
module _ (place : ℕ → Held) (same_place : (i j : ℕ) → place i ≡ place j → i ≡ j) (k : Config) where
  pub loop_start : (x : DomainView) → Works k x → Tied 0 x → HeldMoved k (IsBeforeIn place 0) x x
  loop_start x w t = moved_none k (IsBeforeIn place 0) x w t (λ h a b held. let i : ℕ = b.0 in let l : i < 0 = b.1 in omega arith)

  pub loop_step : (i : ℕ) (x y z : DomainView) → HeldMoved k (IsBeforeIn place i) x y → HeldMoved k (λ h. h ≡ place i) y z → HeldMoved k (IsBeforeIn place (i + 1)) x z
  loop_step i x y z before now = moved_as k (λ h. IsBeforeIn place i h ⊎ (h ≡ place i)) (IsBeforeIn place (i + 1)) x z
      (λ h a held b. dite (ℕ_discrete b.0 i) (λ same. inr (b.2 ∙ ap place same)) (λ other. let j : ℕ = b.0 in let l : j < i + 1 = b.1 in let o : j ≢ i = other in inl (j, (let m : j < i = omega arith in m), b.2)))
      (λ h either. ⊎_elim (λ (b : IsBeforeIn place i h). let j : ℕ = b.0 in let l : j < i = b.1 in (j, (let m : j < i + 1 = omega arith in m), b.2)) (λ (e : h ≡ place i). (i, (let m : i < i + 1 = omega arith in m), e)) either)
      (moved_twice k (IsBeforeIn place i) (λ h. h ≡ place i) x y z
      (λ h b e. let j : ℕ = b.0 in let l : j < i = b.1 in let s : j ≡ i = same_place j i (sym b.2 ∙ e) in omega arith) before now)

  pub loop_end : (n m : ℕ) (x y : DomainView) → ((i a : ℕ) → held_at x.own.finalisers (place i) ≡ Some a → i < n) → n ≤ m → HeldMoved k (IsBeforeIn place m) x y → HeldMoved k (IsPlaceOf place) x y
  loop_end n m x y inside far all = moved_as k (IsBeforeIn place m) (IsPlaceOf place) x y
      (λ h a held p. let i : ℕ = p.0 in let l : i < n = inside i a (ap (held_at x.own.finalisers) (sym p.1) ∙ held) in (i, (let f : n ≤ m = far in let o : i < m = omega arith in o), p.1)) (λ h b. (b.0, b.2)) all

pub same_final : (i j : ℕ) → Final i ≡ Final j → i ≡ j
same_final i j e = cc

pub same_last : (i j : ℕ) → Last i ≡ Last j → i ≡ j
same_last i j e = cc

pub same_queued : (i j : ℕ) → Queue i ≡ Queue j → i ≡ j
same_queued i j e = cc

pub final_below : (fs : Finalisers) (i a : ℕ) → held_at fs (Final i) ≡ Some a → i < length fs.finals.items
final_below fs i a is = let o = mapped_from (λ r. r.address) (slice_get fs.finals.items i) a is in get_below fs.finals.items i o.0 o.1

pub last_below : (fs : Finalisers) (i a : ℕ) → held_at fs (Last i) ≡ Some a → i < length fs.lasts.items
last_below fs i a is = let o = mapped_from (λ r. r.address) (slice_get fs.lasts.items i) a is in get_below fs.lasts.items i o.0 o.1

pub queued_below : (fs : Finalisers) (i a : ℕ) → held_at fs (Queue i) ≡ Some a → i < length fs.queue.items
queued_below fs i a is = let o = chained_from address_in (slice_get fs.queue.items i) a is in get_below fs.queue.items i o.0 o.1

-- all places
pub all_moved : (k : Config) (x u v y : DomainView) → HeldMoved k (IsPlaceOf Final) x u → HeldMoved k (IsPlaceOf Last) u v → HeldMoved k (IsPlaceOf Queue) v y → AllHeldMoved k x y
all_moved k x u v y f l q =
    let two = moved_twice k (IsPlaceOf Final) (IsPlaceOf Last) x u v first f l in
    let all = moved_twice k (λ h. IsPlaceOf Final h ⊎ IsPlaceOf Last h) (IsPlaceOf Queue) x v y second two q in
    let becomes : (h : Held) (a : ℕ) → held_at x.own.finalisers h ≡ Some a → HeldBecomes k y h a = (λ h a held. all.becomes h a (each h) held) in record {
      view = all.view;
      works = all.works;
      learns = all.learns;
      tied = all.tied;
      old = λ h c held. let b = held_before x.own.finalisers y.own.finalisers h c all.rest held in let n = becomes h b.0 b.1 in
          subst (IsOldAt k) (same_Some n.new c (sym n.held ∙ held)) (becomes_old k y b.0 n.new n.becomes);
      lists = record { addresses = becomes; rest = all.rest };
    }
  where
    first : (h : Held) → IsPlaceOf Final h → IsPlaceOf Last h → ⊥
    first h a b = let e : Final a.0 ≡ Last b.0 = sym a.1 ∙ b.1 in cc

    second : (h : Held) → IsPlaceOf Final h ⊎ IsPlaceOf Last h → IsPlaceOf Queue h → ⊥
    second h a b = ⊎_elim (λ (f : IsPlaceOf Final h). let e : Final f.0 ≡ Queue b.0 = sym f.1 ∙ b.1 in cc) (λ (l : IsPlaceOf Last h). let e : Last l.0 ≡ Queue b.0 = sym l.1 ∙ b.1 in cc) a

    each : (h : Held) → (IsPlaceOf Final h ⊎ IsPlaceOf Last h) ⊎ IsPlaceOf Queue h
    each (Final i) = inl (inl (i, refl))
    each (Last i) = inl (inr (i, refl))
    each (Queue i) = inr (i, refl)
