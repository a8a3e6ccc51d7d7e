-- The marking ends: each phase of it that asks for another one has marked a block more.
use Rattle.std.proofs.Common.{◌≡◌, ℕ, ◌+◌, ◌*◌, ◌<◌, ◌≤◌, Bool, true, false, cond, ◌==◌, ◌⊎◌, IsTrue, List, [], ◌∷◌, length, inl, inr, ⊎_elim, refl, sym, ap, ◌∙◌, subst, arith}
use Rattle.std.proofs.lemmas.Bool.{false≢true}
use Rattle.model_core.specs.declared.label.Label.{Label}
use Rattle.model_core.specs.Graph.{has_label, same_label}
use Rattle.model_core.proofs.Graphs.GraphLemmas.{same_label-true, same_label_refl}
use Rattle.model_core.proofs.Reach.ReachLemmas.{or_cases, or_left}
use Rattle.model_cycle.specs.Marks.{Marks, darkened}
use Rattle.model_cycle.specs.Shares.{Shares, arrives, at_domain, no_shares, owing, sees, stored_changed}
use Rattle.model_cycle.specs.Ending.{Answering, Cleaning, Deciding, First, Freeing, GoesOn, Halted, IsGrowing, Leaving, MarkedSince, Marking, Place, Promoting, Queueing, Resetting, Rooting, Rounding, Running, Second, leads_to, pause_left, unmarked_of}
use Rattle.model_cycle.proofs.Tracing.{darkened_more, never}

-- where more is marked no more is unmarked
no_more : (a b : Bool) → (IsTrue a → IsTrue b) → cond b 0 1 ≤ cond a 0 1
no_more a true more = omega arith
no_more true false more = absurd (false≢true (more refl))
no_more false false more = omega arith

pub unmarked_falls : (all : List Label) (before marked : Label → Bool) → ((l : Label) → IsTrue (before l) → IsTrue (marked l)) → unmarked_of all marked ≤ unmarked_of all before
unmarked_falls [] before marked more = omega arith
unmarked_falls (l ∷ ls) before marked more =
    let one = no_more (before l) (marked l) (more l) in
    let rest = unmarked_falls ls before marked more in
    omega (arith, one, rest)

pub unmarked_few : (all : List Label) (marked : Label → Bool) → unmarked_of all marked ≤ length all
unmarked_few [] marked = omega arith
unmarked_few (l ∷ ls) marked = let one = no_more false (marked l) (λ is. absurd (false≢true is)) in let rest = unmarked_few ls marked in omega (arith, one, rest)

-- and where one more is, one fewer is unmarked
one_marked : (a b : Bool) → a ≡ false → IsTrue b → cond b 0 1 + 1 ≤ cond a 0 1
one_marked true b is now = absurd (false≢true (sym is))
one_marked false true is now = omega arith
one_marked false false is now = absurd (false≢true now)

pub unmarked_less : (all : List Label) (before marked : Label → Bool) → ((l : Label) → IsTrue (before l) → IsTrue (marked l)) → MarkedSince all before marked → unmarked_of all marked + 1 ≤ unmarked_of all before
unmarked_less [] before marked more since = absurd (false≢true since.3)
unmarked_less (l ∷ ls) before marked more since =
    ⊎_elim
    (λ here.
    let same : l ≡ since.0 = same_label-true l since.0 here in
    let one = one_marked (before l) (marked l) (ap before same ∙ since.2) (subst (λ k. IsTrue (marked k)) (sym same) since.1) in
    let rest = unmarked_falls ls before marked more in
    omega (arith, one, rest))
    (λ there.
    let one = no_more (before l) (marked l) (more l) in
    let rest = unmarked_less ls before marked more (since.0, since.1, since.2, there) in
    omega (arith, one, rest))
    (or_cases (same_label l since.0) (has_label ls since.0) since.3)

-- what was marked since is still, as more is marked
pub since_more : (all : List Label) (before marked other : Label → Bool) → ((l : Label) → IsTrue (marked l) → IsTrue (other l)) → MarkedSince all before marked → MarkedSince all before other
since_more all before marked other more since = (since.0, more since.0 since.1, since.2, since.3)

-- a domain's flag, where one was set
flag_cases : (f : ℕ → Bool) (d k : ℕ) (b : Bool) → at_domain f d b k ≡ true → (b ≡ true) ⊎ (f k ≡ true)
flag_cases f d k b is = by (k == d) is
  where
    by : (here : Bool) → cond here b (f k) ≡ true → (b ≡ true) ⊎ (f k ≡ true)
    by true e = inl e
    by false e = inr e

-- each step of the marking keeps it
module _ (all : List Label) (before : Label → Bool) (m : Marks) (w : Shares) (g : IsGrowing all before m.marked w) where
  -- a phase begins in which nobody has done anything, and the changed word is 0
  pub begins_growing : (marked : Label → Bool) → IsGrowing all marked marked no_shares
  begins_growing marked = record { stays = λ l is. is; changed = λ is. absurd (false≢true is); owing = λ d is. absurd (false≢true is) }

  -- a block is darkened that was unmarked
  pub owing_grows : (d : ℕ) (l : Label) → m.marked l ≡ false → IsTrue (has_label all l) → IsGrowing all before (darkened m l).marked (owing w d)
  owing_grows d l un inside = record {
    stays = λ k is. darkened_more m l k (g.stays k is);
    changed = λ is. since_more all before m.marked (darkened m l).marked (darkened_more m l) (g.changed is);
    owing = λ e is. (l, or_left (same_label l l) (m.marked l) (same_label_refl l), unseen (before l) refl, inside);
  }
    where
      unseen : (b : Bool) → before l ≡ b → before l ≡ false
      unseen true is = absurd (never (m.marked l) un (g.stays l is))
      unseen false is = is

  -- the changed word is stored by one that owes that
  pub stored_grows : (d : ℕ) → w.owes d ≡ true → IsGrowing all before m.marked (stored_changed w d)
  stored_grows d owes = record {
    stays = g.stays;
    changed = λ is. g.owing d owes;
    owing = λ e is. ⊎_elim (λ clash. absurd (false≢true clash)) (λ was. g.owing e was) (flag_cases w.owes d e false is);
  }

  -- a look and an arrival
  pub sees_grows : (d a : ℕ) → IsGrowing all before m.marked (sees w d a)
  sees_grows d a = record { stays = g.stays; changed = g.changed; owing = g.owing }

  pub arrives_grows : (d : ℕ) → IsGrowing all before m.marked (arrives w d)
  arrives_grows d = record { stays = g.stays; changed = g.changed; owing = g.owing }

  -- so where all have arrived, a phase that asks for another one leaves one fewer unmarked
  pub fewer_unmarked : w.changed ≡ true → unmarked_of all m.marked + 1 ≤ unmarked_of all before
  fewer_unmarked is = unmarked_less all before m.marked g.stays (g.changed is)

  pub none_unmarked : unmarked_of all m.marked ≤ unmarked_of all before
  none_unmarked = unmarked_falls all before m.marked g.stays

-- how many are left unmarked behind a phase that found the changed word so
abbrev pub Fewer : Bool → ℕ → ℕ → Type 0
Fewer true was now = now + 1 ≤ was
Fewer false was now = now ≤ was

-- the number of phases that are left of a pause falls with each that is led, whatever is found changed
pub nearer : (all was now : ℕ) (place : Place) (changed : Bool) → GoesOn place → was ≤ all → Fewer changed was now → pause_left all (leads_to place changed) now < pause_left all place was
nearer all was now Halted changed on few less = omega arith
nearer all was now Promoting changed on few less = omega arith
nearer all was now Resetting changed on few less = omega arith
nearer all was now Rooting changed on few less = first changed less
  where
    first : (b : Bool) → Fewer b was now → 9 + all * 2 + (now * 2 + 1) < 11 + all * 4
    first true fall = omega (arith, fall, few)
    first false fall = omega (arith, fall, few)
nearer all was now (First Marking) true on few less = omega (arith, less)
nearer all was now (First Marking) false on few less = omega (arith, less)
nearer all was now (First Rounding) true on few less = omega (arith, less)
nearer all was now (First Rounding) false on few less = omega (arith, less, few)
nearer all was now Deciding changed on few less = omega arith
nearer all was now Queueing true on few less = omega (arith, less, few)
nearer all was now Queueing false on few less = omega arith
nearer all was now (Second Marking) true on few less = omega (arith, less)
nearer all was now (Second Marking) false on few less = omega (arith, less)
nearer all was now (Second Rounding) true on few less = omega (arith, less)
nearer all was now (Second Rounding) false on few less = omega (arith, less)
nearer all was now Cleaning changed on few less = omega arith
nearer all was now Leaving changed on few less = omega arith
nearer all was now Freeing changed on few less = omega arith
nearer all was now Answering changed on few less = omega arith
nearer all was now Running changed on few less = absurd on

-- so no pause has more phases than these
pub pause_few : (all : ℕ) → pause_left all Halted all ≤ 14 + all * 4
pause_few all = omega arith
