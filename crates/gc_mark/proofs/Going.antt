-- What a domain does in a slice, one after another.
use Rattle.std.specs.Prelude.{if◌then◌else◌, nat_le}
use Rattle.std.proofs.Common.{List, [], ◌∷◌, Bool, true, false, cond, MatchBool, ◌≡◌, ℕ, ◌≢◌, ◌+◌, ◌*◌, ◌<◌, ◌≤◌, arith, inl, inr, ⊎_elim, sym, refl, ap, subst, ◌∙◌}
use mathlib.Core.Logic.{dite}
use native.Mathlib.Decide.{ℕ_discrete}
use Rattle.heap_words.specs.declared.colours.Colours.{Colours}
use Rattle.heap_rule.specs.declared.config.Config.{Config}
use Rattle.heap_rule.specs.declared.view.DomainView.{DomainView}
use Rattle.heap_words.specs.declared.value.Value.{Value}
use Rattle.heap_words.specs.declared.value.Value.TheVariants.{Int, Nothing, Ref}
use Rattle.heap_rule.specs.declared.view.Known.{Known}
use Rattle.heap_rule.specs.declared.view.Known.TheVariants.{Done, Marked, Refers, Scanned, Shape as Shaped}
use Rattle.heap_rule.specs.Beside.{IsKnown, IsPaid}
use Rattle.step_marks.specs.Marking.Marking.{IsGrey}
use Rattle.step_marks.specs.Beside.Marking.{FoundSince, IsNoScan, ReadTold, ScannedMay, StillFound, learning, read_as}
use Rattle.do_fields.specs.Darkening.Aware.{Learnt, aware_as, darkened_in, scanned_in, tells_darkening, tells_scan, tells_vain, vain_in}
use Rattle.do_fields.specs.Darkening.Heads.{IsScanOf}
use Rattle.gc_mark.specs.Decks.{AllMissed, DeckCounts, HasMissed, Rises, StaysDeck, last_count, missed_at}
use Rattle.gc_mark.specs.Slices.{FoundGrey, FoundNone, LookedAtHint, Slices, Tries, Went}

pub learnt_on : (x y z : DomainView) → Learnt x y → Learnt y z → Learnt x z
learnt_on x y z a b = record { view = b.view ∙ ap (λ (v : DomainView). aware_as v z) a.view; grows = λ f k. b.grows f (a.grows f k) }

pub rises_on : (more most a b c : ℕ) → Rises more a b → Rises most b c → Rises (more + most) a c
rises_on more most a b c r q =
    let g = r.grows in let h = q.grows in let i = r.most in let j = q.most in record {
      grows = omega (arith, g, h);
      most = omega (arith, i, j);
      least = ⊎_elim
          (λ (e : b + most ≤ c). ⊎_elim
          (λ (f : a + more ≤ b). inl (omega (arith, e, f)))
          (λ (f : last_count ≤ b). inr (omega (arith, f, h)))
          r.least)
          (λ (e : last_count ≤ c). inr e)
          q.least;
    }

pub rises_none : (a : ℕ) → Rises 0 a a
rises_none a = record { grows = omega arith; most = omega arith; least = inl (omega arith) }

pub rises_some : (more a b : ℕ) → Rises more a b → Rises more a b
rises_some more a b r = record { grows = r.grows; most = r.most; least = r.least }

pub stays_on : (l m n : DeckCounts) → StaysDeck l m → StaysDeck m n → StaysDeck l n
stays_on l m n a b = record {
  number = b.number ∙ a.number;
  domains = b.domains ∙ a.domains;
  misses = λ d. let f = a.misses d in let g = b.misses d in omega (arith, f, g);
  own_first = b.own_first ∙ a.own_first;
}

pub stays_some : (l m : DeckCounts) → StaysDeck l m → StaysDeck l m
stays_some l m a = record { number = a.number; domains = a.domains; misses = a.misses; own_first = a.own_first }

pub went_on : (a b c e f g : ℕ) (x y z : DomainView) (l m n : DeckCounts) → Went a b c x y l m → Went e f g y z m n → Went (a + e) (b + f) (c + g) x z l n
went_on a b c e f g x y z l m n p q =
    let s = p.scanned in let s' = q.scanned in let v = p.vain in let v' = q.vain in let k = p.darkened in let k' = q.darkened in record {
      learnt = learnt_on x y z p.learnt q.learnt;
      colours = q.colours ∙ p.colours;
      armed = q.armed ∙ p.armed;
      owes = q.owes ∙ p.owes;
      scanned = omega (arith, s, s');
      vain = omega (arith, v, v');
      darkens = p.darkens + q.darkens;
      darkened = omega (arith, k, k');
      pushes = rises_on p.darkens q.darkens l.pushes m.pushes n.pushes p.pushes q.pushes;
      taken = rises_on c g l.taken m.taken n.taken p.taken q.taken;
      deck = stays_on l m n p.deck q.deck;
    }

-- the same numbers, written otherwise
went_as : (a b c d e f : ℕ) (x y : DomainView) (l m : DeckCounts) → a ≡ b → c ≡ d → e ≡ f → Went a c e x y l m → Went b d f x y l m
went_as a b c d e f x y l m p q r w =
    subst (λ (n : ℕ). Went b d n x y l m) r (subst (λ (n : ℕ). Went b n e x y l m) q (subst (λ (n : ℕ). Went n c e x y l m) p w))

pub paid_on : (x y : DomainView) (b i : ℕ) → Learnt x y → IsPaid x.seen.share.known b i → IsPaid y.seen.share.known b i
paid_on x y b i l p = ⊎_elim
    (λ (d : IsKnown x.seen.share.known (Done b i)). inl (l.grows (Done b i) d))
    (λ (r : (a : ℕ) × IsKnown x.seen.share.known (Refers b i a) × IsKnown x.seen.share.known (Marked a)). inr (r.0, l.grows (Refers b i r.0) r.1, l.grows (Marked r.0) r.2))
    p

-- the fields before one, and that one
pub paid_next : (x y : DomainView) (b n : ℕ) → Learnt x y → ((i : ℕ) → i < n → IsPaid x.seen.share.known b i) → IsPaid y.seen.share.known b n → (i : ℕ) → i < n + 1 → IsPaid y.seen.share.known b i
paid_next x y b n l before here i below = dite (ℕ_discrete i n)
    (λ (e : i ≡ n). subst (IsPaid y.seen.share.known b) (sym e) here)
    (λ (d : i ≢ n). paid_on x y b i l (before i (omega (arith, below, d))))

-- the domain still runs, and knows the colours and that a cycle goes on
pub slices_on : (colours : Colours) (a b c : ℕ) (x y : DomainView) (l m : DeckCounts) → Slices colours x → Went a b c x y l m → Slices colours y
slices_on colours a b c x y l m s w = record { runs = ap (λ (v : DomainView). v.seen.stage) w.learnt.view ∙ s.runs; armed = w.armed ∙ s.armed; known = w.colours ∙ s.known }

-- what was found since the last scan is known
pub since_known : (known : List Known) (at head : ℕ) → FoundSince known at head → IsKnown known (Shaped at head)
since_known [] at head s = absurd s
since_known (f ∷ fs) at head s = ⊎_elim
    (λ (e : f ≡ Shaped at head). inl e)
    (λ (r : IsNoScan f × FoundSince fs at head). inr (since_known fs at head r.1))
    s

-- the head of a block whose fields are done may be stored
pub store_may : (k : Config) (colours : Colours) (x y : DomainView) (at word fields new : ℕ) (l m : DeckCounts) → Slices colours x → Went 0 0 0 x y l m → at ≤ k.pools * 4096 → StillFound x y → FoundSince x.seen.share.known at word → IsScanOf colours word fields new → ((i : ℕ) → i < fields → IsPaid y.seen.share.known at i) → ScannedMay k y at new
store_may k colours x y at word fields new l m s w low still shaped scan paid =
    let after = slices_on colours 0 0 0 x y l m s w in record {
      knows = record { beside = record { runs = after.runs; armed = after.armed }; colours = colours; known = after.known };
      low = low;
      head = word;
      shaped = w.learnt.grows (Shaped at word) (since_known x.seen.share.known at word shaped);
      since = still at word shaped;
      shape = scan.grey.block.shape;
      is = scan.grey.block.head;
      fields = λ i below. paid i (subst (λ (n : ℕ). i < n) (sym scan.count) below);
      marks = scan.marks;
    }

-- what a domain has done at a block, after a look at its address
after_look : (colours : Colours) (at word scans vains : ℕ) (x y z : DomainView) (l m : DeckCounts) → LookedAtHint colours at x word y → vain_in y.seen.share.known ≡ vain_in x.seen.share.known + vains → Went scans 0 0 y z l m → Went scans vains 0 x z l m
after_look colours at word scans vains x y z l m k v w =
    let s = k.scanned in let s' = w.scanned in let v' = w.vain in let d = k.darkened in let d' = w.darkened in record {
      learnt = learnt_on x y z k.learnt w.learnt;
      colours = w.colours ∙ k.colours_stay;
      armed = w.armed ∙ k.armed;
      owes = w.owes ∙ k.owes;
      scanned = omega (arith, s, s');
      vain = omega (arith, v, v');
      darkens = w.darkens;
      darkened = omega (arith, d, d');
      pushes = rises_some w.darkens l.pushes m.pushes w.pushes;
      taken = rises_some 0 l.taken m.taken w.taken;
      deck = stays_some l m w.deck;
    }

-- and the head of a grey block is known
pub head_known : (colours : Colours) (at word : ℕ) (x y : DomainView) → LookedAtHint colours at x word y → IsGrey colours word → FoundSince y.seen.share.known at word
head_known colours at word x y k is = ⊎_elim
    (λ (v : FoundNone colours at x word y). absurd (v.none is))
    (λ (v : FoundGrey colours at x word y). v.known)
    k.told

pub still_slices : (colours : Colours) (at word : ℕ) (x y : DomainView) → Slices colours x → LookedAtHint colours at x word y → Slices colours y
still_slices colours at word x y s k = record { runs = ap (λ (v : DomainView). v.seen.stage) k.learnt.view ∙ s.runs; armed = k.armed ∙ s.armed; known = k.colours_stay ∙ s.known }

pub looked_on : (colours : Colours) (at word : ℕ) (won : Bool) (x y z : DomainView) (l m : DeckCounts) → LookedAtHint colours at x word y → MatchBool won (IsGrey colours word) (IsGrey colours word → ⊥) → Went (cond won 1 0) 0 0 y z l m → Went (cond won 1 0) (cond won 0 1) 0 x z l m
looked_on colours at word true x y z l m k is w = after_look colours at word 1 0 x y z l m k
    (⊎_elim
    (λ (v : FoundNone colours at x word y). absurd (v.none is))
    (λ (v : FoundGrey colours at x word y). let e = v.vain in omega (arith, e))
    k.told)
    w
looked_on colours at word false x y z l m k is w = after_look colours at word 0 1 x y z l m k
    (⊎_elim
    (λ (v : FoundNone colours at x word y). v.vain)
    (λ (v : FoundGrey colours at x word y). absurd (is v.grey))
    k.told)
    w

-- a deck is the same where nothing but counts has grown
pub stays_same : (l : DeckCounts) → StaysDeck l l
stays_same l = record { number = refl; domains = refl; misses = λ d. omega arith; own_first = refl }

pub missed_since : (l m n : DeckCounts) (d : ℕ) → StaysDeck l m → HasMissed m n d → HasMissed l n d
missed_since l m n d s h = let g = s.misses d in ⊎_elim
    (λ (e : missed_at m d < missed_at n d). inl (omega (arith, e, g)))
    (λ (e : last_count ≤ missed_at n d). inr e)
    h

-- so many hints are taken
tries_on : (many gone : ℕ) (x y : DomainView) (l m n : DeckCounts) → Went 0 gone gone x y l m → Tries many m n → Went 0 gone (gone + many) x y l n
tries_on many gone x y l m n w t = record {
  learnt = record { view = w.learnt.view; grows = w.learnt.grows };
  colours = w.colours;
  armed = w.armed;
  owes = w.owes;
  scanned = w.scanned;
  vain = w.vain;
  darkens = w.darkens;
  darkened = w.darkened;
  pushes = subst (Rises w.darkens l.pushes) (sym t.pushes) (rises_some w.darkens l.pushes m.pushes w.pushes);
  taken = rises_on gone many l.taken m.taken n.taken w.taken t.taken;
  deck = stays_on l m n w.deck t.deck;
}

-- one is
pub took_one : (gone : ℕ) (x y : DomainView) (l m n : DeckCounts) → Went 0 gone gone x y l m → Tries 1 m n → Went 0 gone (gone + 1) x y l n
took_one gone x y l m n w t = tries_on 1 gone x y l m n w t

-- or no domain has one
pub took_none : (gone : ℕ) (x y : DomainView) (l m n : DeckCounts) → Went 0 gone gone x y l m → Tries 0 m n × AllMissed m n → Went 0 gone gone x y l n × AllMissed l n
took_none gone x y l m n w t = (
  subst (λ (takes : ℕ). Went 0 gone takes x y l n) (let same : gone + 0 ≡ gone = omega arith in same) (tries_on 0 gone x y l m n w t.0),
  λ d below. missed_since l m n d w.deck (t.1 d (subst (λ (c : ℕ). d < c) (sym w.deck.domains) below)),
)

-- the next block is scanned, or the next hint let go
pub next_on : (won : Bool) (gone : ℕ) (x y z : DomainView) (l m n : DeckCounts) → Went 0 gone (gone + 1) x y l m → Went (cond won 1 0) (cond won 0 1) 0 y z m n → Went (cond won 1 0) (cond won gone (gone + 1)) (gone + 1) x z l n
next_on true gone x y z l m n p q = went_as 1 1 (gone + 0) gone (gone + 1 + 0) (gone + 1) x z l n refl (omega arith) (omega arith) (went_on 0 gone (gone + 1) 1 0 0 x y z l m n p q)
next_on false gone x y z l m n p q = went_as 0 0 (gone + 1) (gone + 1) (gone + 1 + 0) (gone + 1) x z l n refl refl (omega arith) (went_on 0 gone (gone + 1) 0 1 0 x y z l m n p q)

-- and the one after that
pub block_on : (count gone more : ℕ) (x y z : DomainView) (l m n : DeckCounts) → Went count gone (count + gone) x y l m → Went 1 more (more + 1) y z m n → Went (count + 1) (gone + more) (count + 1 + (gone + more)) x z l n
block_on count gone more x y z l m n p q = went_as (count + 1) (count + 1) (gone + more) (gone + more) (count + gone + (more + 1)) (count + 1 + (gone + more)) x z l n refl refl (omega arith) (went_on count gone (count + gone) 1 more (more + 1) x y z l m n p q)

-- a domain has come to know something of a block that it has neither darkened nor scanned, nor looked at in vain
told_went : (x y : DomainView) (f : Known) (l : DeckCounts) → tells_scan f ≡ false → tells_vain f ≡ false → tells_darkening f ≡ false → y ≡ learning x f → Went 0 0 0 x y l l
told_went x y f l scan vain dark e = subst (λ (v : DomainView). Went 0 0 0 x v l l) (sym e) record {
  learnt = record { view = refl; grows = λ g k. inr k };
  colours = refl;
  armed = refl;
  owes = refl;
  scanned = let n : ℕ = scanned_in x.seen.share.known in let same : cond (tells_scan f) (n + 1) n ≡ n = ap (λ (b : Bool). cond b (n + 1) n) scan in omega (arith, same);
  vain = let n : ℕ = vain_in x.seen.share.known in let same : cond (tells_vain f) (n + 1) n ≡ n = ap (λ (b : Bool). cond b (n + 1) n) vain in omega (arith, same);
  darkens = 0;
  darkened = let n : ℕ = darkened_in x.seen.share.known in let same : cond (tells_darkening f) (n + 1) n ≡ n = ap (λ (b : Bool). cond b (n + 1) n) dark in omega (arith, same);
  pushes = rises_none l.pushes;
  taken = rises_none l.taken;
  deck = stays_same l;
}

-- it has read a field
pub read_went : (k : Config) (b i found : ℕ) (x y : DomainView) (l : DeckCounts) → ReadTold k b i x found y → Went 0 0 0 x y l l
read_went k b i found x y l t = of t.value t.view
  where
    referred : (pooled : Bool) (a : ℕ) → y ≡ learning x (if pooled then Refers b i a else Done b i) → Went 0 0 0 x y l l
    referred true a e = told_went x y (Refers b i a) l refl refl refl e
    referred false a e = told_went x y (Done b i) l refl refl refl e

    of : (v : Value) → y ≡ learning x (read_as k b i v) → Went 0 0 0 x y l l
    of (Ref a) e = referred (nat_le a (k.pools * 4096)) a e
    of (Int z) e = told_went x y (Done b i) l refl refl refl e
    of Nothing e = told_went x y (Done b i) l refl refl refl e

-- a field was read, and what was found is still found so
pub read_found : (k : Config) (b i found : ℕ) (x y : DomainView) → ReadTold k b i x found y → StillFound x y
read_found k b i found x y t = of t.value t.view
  where
    referred : (pooled : Bool) (a : ℕ) → y ≡ learning x (if pooled then Refers b i a else Done b i) → StillFound x y
    referred true a e = subst (StillFound x) (sym e) (λ at head s. inr (tt, s))
    referred false a e = subst (StillFound x) (sym e) (λ at head s. inr (tt, s))

    of : (v : Value) → y ≡ learning x (read_as k b i v) → StillFound x y
    of (Ref a) e = referred (nat_le a (k.pools * 4096)) a e
    of (Int z) e = subst (StillFound x) (sym e) (λ at head s. inr (tt, s))
    of Nothing e = subst (StillFound x) (sym e) (λ at head s. inr (tt, s))

pub found_on : (x y z : DomainView) → StillFound x y → StillFound y z → StillFound x z
found_on x y z f g = λ at head s. g at head (f at head s)

-- after a block's scanned mark was stored none may be stored before another look has found a grey block
pub never_again : (k : Config) (x y : DomainView) (at before new : ℕ) → y ≡ learning x (Scanned before) → ScannedMay k y at new → ⊥
never_again k x y at before new e may =
    let m : ScannedMay k (learning x (Scanned before)) at new = subst (λ (v : DomainView). ScannedMay k v at new) e may in
    let since : FoundSince (Scanned before ∷ x.seen.share.known) at m.head = m.since in
    ⊎_elim
    (λ (f : Scanned before ≡ Shaped at m.head). cc)
    (λ (r : IsNoScan (Scanned before) × FoundSince x.seen.share.known at m.head). r.0)
    since
