-- Blocks that are noted.
use Rattle.std.specs.Prelude.{IfSome, is_some}
use Rattle.std.proofs.Common.{◌≡◌, ◌∙◌, ℕ, zero, suc, ◌+◌, ◌*◌, ◌≤◌, ◌==◌, ◌⊎◌, inl, inr, eq-eqb, eqb-true, Bool, true, false, cond, true≢false, IsTrue, List, [], ◌∷◌, ◌++◌, drop, slice_get, Option, None, Some, ⊎_elim, arith, refl, ap, sym, subst, length}
use Rattle.std.proofs.lemmas.Bool.{false≢true}
use Rattle.std.proofs.lemmas.Option.{none-some}
use Rattle.model_core.proofs.Reach.ReachLemmas.{or_cases, or_left, or_right}
use Rattle.heap_rule.specs.declared.config.Config.{Config}
use Rattle.heap_rule.specs.declared.phase.Kind.TheVariants.{Mark}
use Rattle.heap_rule.specs.declared.phase.Stage.{Stage}
use Rattle.heap_rule.specs.declared.phase.Stage.TheVariants.{In}
use Rattle.heap_rule.specs.declared.view.DomainView.{DomainView}
use Rattle.heap_rule.specs.declared.view.Scan.{Scan}
use Rattle.heap_rule.specs.declared.view.Scan.TheVariants.{Idle, Reads, Holds, Keys, Key, Datum}
use Rattle.heap_rule.specs.Cycles.{seen_by}
use Rattle.heap_rule.specs.Places.{IsOldAt}
use Rattle.heap_rule.proofs.Lists.{got_end}
use Rattle.step_marks.specs.Marking.Marking.{settled}
use Rattle.gc_mark.specs.Shares.{Noted, ScansBlocks, account_after, block_in, field_on, fields_to}
use Rattle.gc_mark.specs.Trails.{newer, renewed}

-- each of these blocks lies in a pool, and is known to be marked
abbrev Known : Config → List ℕ → List ℕ → Type 0
Known k marked items = (i a : ℕ) → slice_get items i ≡ Some a → (1 ≤ a) × (a ≤ k.pools * 4096) × IsTrue (seen_by marked a)

known_more : (k : Config) (marked items : List ℕ) (a : ℕ) → Known k marked items → Known k (a ∷ marked) items
known_more k marked items a n = λ i b got. let f = n i b got in (f.0, f.1, or_right (b == a) (seen_by marked b) f.2)

known_push : (k : Config) (marked items : List ℕ) (a : ℕ) → 1 ≤ a → a ≤ k.pools * 4096 → Known k marked items → Known k (a ∷ marked) (items ++ a ∷ [])
known_push k marked items a low high n = λ i b got. ⊎_elim
    (λ (old : slice_get items i ≡ Some b). known_more k marked items a n i b old)
    (λ (e : (i ≡ length items) × (a ≡ b)). subst (λ (c : ℕ). (1 ≤ c) × (c ≤ k.pools * 4096) × IsTrue (seen_by (a ∷ marked) c)) e.1 (low, high, or_left (a == a) (seen_by marked a) (eq-eqb a a refl)))
    (got_end items a b i got)

-- those behind the first ones
known_drop : (k : Config) (marked items : List ℕ) (n : ℕ) → Known k marked items → Known k marked (drop n items)
known_drop k marked items n noted = λ i b got. noted (n + i) b (sym (got_drop items n i (n + i) refl) ∙ got)
  where
    got_drop : (l : List ℕ) (m i at : ℕ) → at ≡ m + i → slice_get (drop m l) i ≡ slice_get l at
    got_drop l zero i at e = ap (slice_get l) (omega arith)
    got_drop [] (suc m) i at e = refl
    got_drop (x ∷ xs) (suc m) i zero e = absurd (omega arith)
    got_drop (x ∷ xs) (suc m) i (suc at) e = got_drop xs m i at (omega arith)

-- where there is no room the older half is let go
known_renewed : (k : Config) (marked items : List ℕ) (a : ℕ) → 1 ≤ a → a ≤ k.pools * 4096 → Known k marked items → Known k (a ∷ marked) (renewed items a)
known_renewed k marked [] a low high n = known_more k marked [] a n
known_renewed k marked (x ∷ xs) a low high n = known_push k marked (newer (x ∷ xs)) a low high (known_drop k marked (x ∷ xs) _ n)

-- those before the last one
known_less : (k : Config) (marked items : List ℕ) (a : ℕ) → Known k marked (items ++ a ∷ []) → Known k marked items
known_less k marked items a n = λ i b got. n i b (got_more items i got)
  where
    got_more : (l : List ℕ) (i : ℕ) {b : ℕ} → slice_get l i ≡ Some b → slice_get (l ++ a ∷ []) i ≡ Some b
    got_more [] i e = cc
    got_more (x ∷ xs) zero e = e
    got_more (x ∷ xs) (suc i) e = got_more xs i e

-- one of some blocks and another
among_end : (items : List ℕ) (a : ℕ) → IsTrue (seen_by (items ++ a ∷ []) a)
among_end [] a = or_left (a == a) false (eq-eqb a a refl)
among_end (x ∷ xs) a = or_right (a == x) (seen_by (xs ++ a ∷ []) a) (among_end xs a)

among_more : (items : List ℕ) (a b : ℕ) → IsTrue (seen_by items b) → IsTrue (seen_by (items ++ a ∷ []) b)
among_more [] a b is = absurd (false≢true is)
among_more (x ∷ xs) a b is = ⊎_elim
    (λ (here : IsTrue (b == x)). or_left (b == x) (seen_by (xs ++ a ∷ []) b) here)
    (λ (later : IsTrue (seen_by xs b)). or_right (b == x) (seen_by (xs ++ a ∷ []) b) (among_more xs a b later))
    (or_cases (b == x) (seen_by xs b) is)

among_cases : (items : List ℕ) (a b : ℕ) → IsTrue (seen_by (items ++ a ∷ []) b) → IsTrue (seen_by items b) ⊎ (b ≡ a)
among_cases [] a b is = ⊎_elim (λ (here : IsTrue (b == a)). inr (eqb-true b a here)) (λ none. absurd (false≢true none)) (or_cases (b == a) false is)
among_cases (x ∷ xs) a b is = ⊎_elim
    (λ (here : IsTrue (b == x)). inl (or_left (b == x) (seen_by xs b) here))
    (λ (later : IsTrue (seen_by (xs ++ a ∷ []) b)). ⊎_elim (λ (old : IsTrue (seen_by xs b)). inl (or_right (b == x) (seen_by xs b) old)) (λ e. inr e) (among_cases xs a b later))
    (or_cases (b == x) (seen_by (xs ++ a ∷ []) b) is)

-- what is left on an account was there, and isn't what was taken off
settled_was : (a : ℕ) (account : List ℕ) (b : ℕ) → IsTrue (seen_by (settled a account) b) → IsTrue (seen_by account b) × (b ≡ a → ⊥)
settled_was a [] b is = absurd (false≢true is)
settled_was a (e ∷ rest) b is = go (settled_was a rest b) (e == a) refl is
  where
    go : (IsTrue (seen_by (settled a rest) b) → IsTrue (seen_by rest b) × (b ≡ a → ⊥)) → (off : Bool) → (e == a) ≡ off → IsTrue (seen_by (cond off (settled a rest) (e ∷ settled a rest)) b) → IsTrue (seen_by (e ∷ rest) b) × (b ≡ a → ⊥)
    go later true is_off is = let was = later is in (or_right (b == e) (seen_by rest b) was.0, was.1)
    go later false is_off is = ⊎_elim
        (λ (here : IsTrue (b == e)). (or_left (b == e) (seen_by rest b) here, (λ same. true≢false (sym (eq-eqb e a (sym (eqb-true b e here) ∙ same)) ∙ is_off))))
        (λ (behind : IsTrue (seen_by (settled a rest) b)). let was = later behind in (or_right (b == e) (seen_by rest b) was.0, was.1))
        (or_cases (b == e) (seen_by (settled a rest) b) is)

none_left : (account : List ℕ) → ((a : ℕ) → IsTrue (seen_by account a) → ⊥) → account ≡ []
none_left [] none = refl
none_left (a ∷ rest) none = absurd (none a (or_left (a == a) (seen_by rest a) (eq-eqb a a refl)))

-- a scan is at its block
pub block_field : (scan : Scan) → block_in (field_on scan) ≡ block_in scan
block_field Idle = refl
block_field (Reads block done size head) = refl
block_field (Holds block done size head address) = refl
block_field (Keys block done count) = refl
block_field (Key block done count address) = refl
block_field (Datum block address) = refl

pub block_fields : (i : ℕ) (scan : Scan) → block_in (fields_to i scan) ≡ block_in scan
block_fields i Idle = refl
block_fields i (Reads block done size head) = refl
block_fields i (Holds block done size head address) = refl
block_fields i (Keys block done count) = refl
block_fields i (Key block done count address) = refl
block_fields i (Datum block address) = refl

-- what a domain's view has of it
pub record SameNotes (x y : DomainView) : Type 0 where
  pub stage : y.seen.stage ≡ x.seen.stage
  pub marked : y.seen.share.marked ≡ x.seen.share.marked
  pub owes : y.seen.share.owes ≡ x.seen.share.owes
  pub account : y.seen.share.account ≡ x.seen.share.account

module _ (k : Config) (x y : DomainView) (same : SameNotes x y) where
  -- where none of that changes, and the same block is scanned, what is noted stays noted
  pub noted_same : (items : List ℕ) (lost : Bool) → block_in y.seen.share.scan ≡ block_in x.seen.share.scan → Noted k x items lost → Noted k y items lost
  noted_same items lost block n = record {
    known = subst (λ (l : List ℕ). Known k l items) (sym same.marked) n.known;
    kept = λ here none a is. ⊎_elim (λ e. inl (block ∙ e)) (λ h. inr h) (n.kept (sym same.stage ∙ here) none a (subst (λ (l : List ℕ). IsTrue (seen_by l a)) same.account is));
    owes = λ up. same.owes ∙ n.owes up;
  }

  -- the scan of another begins
  pub noted_opens : (items : List ℕ) (lost : Bool) → block_in x.seen.share.scan ≡ None → Noted k x items lost → Noted k y items lost
  noted_opens items lost idle n = record {
    known = subst (λ (l : List ℕ). Known k l items) (sym same.marked) n.known;
    kept = λ here none a is. ⊎_elim
        (λ (e : block_in x.seen.share.scan ≡ Some a). absurd (none-some a (sym idle ∙ e)))
        (λ h. inr h)
        (n.kept (sym same.stage ∙ here) none a (subst (λ (l : List ℕ). IsTrue (seen_by l a)) same.account is));
    owes = λ up. same.owes ∙ n.owes up;
  }

  -- the scan of the last one begins
  pub noted_begins : (items : List ℕ) (lost : Bool) (a : ℕ) → block_in x.seen.share.scan ≡ None → block_in y.seen.share.scan ≡ Some a → Noted k x (items ++ a ∷ []) lost → Noted k y items lost
  noted_begins items lost a idle block n = record {
    known = subst (λ (l : List ℕ). Known k l items) (sym same.marked) (known_less k x.seen.share.marked items a n.known);
    kept = λ here none b is. ⊎_elim
        (λ (e : block_in x.seen.share.scan ≡ Some b). absurd (none-some b (sym idle ∙ e)))
        (λ (h : IsTrue (seen_by (items ++ a ∷ []) b)). ⊎_elim (λ old. inr old) (λ (e : b ≡ a). inl (block ∙ ap Some (sym e))) (among_cases items a b h))
        (n.kept (sym same.stage ∙ here) none b (subst (λ (l : List ℕ). IsTrue (seen_by l b)) same.account is));
    owes = λ up. same.owes ∙ n.owes up;
  }

-- a block was darkened, or another domain had darkened it
module _ (k : Config) (x y : DomainView) (a : ℕ) (won : Bool) (scans : ScansBlocks x.seen.stage) (stage : y.seen.stage ≡ x.seen.stage) (marked : y.seen.share.marked ≡ a ∷ x.seen.share.marked) (block : block_in y.seen.share.scan ≡ block_in x.seen.share.scan)
    (owes : y.seen.share.owes ≡ cond won true x.seen.share.owes) (account : y.seen.share.account ≡ account_after x.seen.stage won a x.seen.share.account) where
  account_in : y.seen.stage ≡ In Mark → y.seen.share.account ≡ cond won (a ∷ x.seen.share.account) x.seen.share.account
  account_in here = account ∙ ap (λ (s : Stage). account_after s won a x.seen.share.account) (sym stage ∙ here)

  pub noted_lost : won ≡ false → (items : List ℕ) (lost : Bool) → Noted k x items lost → Noted k y items lost
  noted_lost none items lost n = record {
    known = subst (λ (l : List ℕ). Known k l items) (sym marked) (known_more k x.seen.share.marked items a n.known);
    kept = λ here kept b is. ⊎_elim (λ e. inl (block ∙ e)) (λ h. inr h)
        (n.kept (sym stage ∙ here) kept b (subst (λ (l : List ℕ). IsTrue (seen_by l b)) (account_in here ∙ ap (λ (w : Bool). cond w (a ∷ x.seen.share.account) x.seen.share.account) none) is));
    owes = λ up. owes ∙ ap (λ (w : Bool). cond w true x.seen.share.owes) none ∙ n.owes up;
  }

  module _ (is_won : won ≡ true) (low : 1 ≤ a) (high : a ≤ k.pools * 4096) (items : List ℕ) (lost : Bool) (n : Noted k x items lost) where
    owes_now : y.seen.share.owes ≡ true
    owes_now = owes ∙ ap (λ (w : Bool). cond w true x.seen.share.owes) is_won

    noted_push : Noted k y (items ++ a ∷ []) lost
    noted_push = record {
      known = subst (λ (l : List ℕ). Known k l (items ++ a ∷ [])) (sym marked) (known_push k x.seen.share.marked items a low high n.known);
      kept = λ here kept b is.
          let among : IsTrue (seen_by (a ∷ x.seen.share.account) b) = subst (λ (l : List ℕ). IsTrue (seen_by l b)) (account_in here ∙ ap (λ (w : Bool). cond w (a ∷ x.seen.share.account) x.seen.share.account) is_won) is in ⊎_elim
          (λ (new : IsTrue (b == a)). inr (subst (λ (z : ℕ). IsTrue (seen_by (items ++ a ∷ []) z)) (sym (eqb-true b a new)) (among_end items a)))
          (λ (old : IsTrue (seen_by x.seen.share.account b)). ⊎_elim (λ e. inl (block ∙ e)) (λ h. inr (among_more items a b h)) (n.kept (sym stage ∙ here) kept b old))
          (or_cases (b == a) (seen_by x.seen.share.account b) among);
      owes = λ _. owes_now;
    }

    noted_renewed : Noted k y (renewed items a) true
    noted_renewed = record {
      known = subst (λ (l : List ℕ). Known k l (renewed items a)) (sym marked) (known_renewed k x.seen.share.marked items a low high n.known);
      kept = λ here kept. absurd (true≢false kept);
      owes = λ _. owes_now;
    }

    -- it is noted, for which the older half of the others may be let go
    pub noted_pushed : (after : List ℕ) (now : Bool) (room : ℕ) → (1 ≤ room → (after ≡ items ++ a ∷ []) × (now ≡ lost)) → (room ≡ 0 → (after ≡ renewed items a) × (now ≡ true)) → Noted k y after now
    noted_pushed after now zero some full = let f = full refl in subst (λ (z : List ℕ × Bool). Noted k y z.0 z.1) (λ i. (sym f.0 i, sym f.1 i)) noted_renewed
    noted_pushed after now (suc room) some full = let f = some (omega arith) in subst (λ (z : List ℕ × Bool). Noted k y z.0 z.1) (λ i. (sym f.0 i, sym f.1 i)) noted_push

-- the last of some blocks
pub noted_last : (k : Config) (x : DomainView) (items : List ℕ) (lost : Bool) (a : ℕ) → Noted k x (items ++ a ∷ []) lost → (1 ≤ a) × (a ≤ k.pools * 4096) × IsTrue (seen_by x.seen.share.marked a)
noted_last k x items lost a n = n.known (length items) a (got_last items)
  where
    got_last : (l : List ℕ) → slice_get (l ++ a ∷ []) (length l) ≡ Some a
    got_last [] = refl
    got_last (x ∷ xs) = got_last xs

-- a block is scanned, and is on the account no more
module _ (k : Config) (x y : DomainView) (a : ℕ) (stage : y.seen.stage ≡ x.seen.stage) (marked : y.seen.share.marked ≡ x.seen.share.marked) (owes : y.seen.share.owes ≡ x.seen.share.owes) (account : y.seen.share.account ≡ settled a x.seen.share.account) where
  was : (b : ℕ) → IsTrue (seen_by y.seen.share.account b) → IsTrue (seen_by x.seen.share.account b) × (b ≡ a → ⊥)
  was b is = settled_was a x.seen.share.account b (subst (λ (l : List ℕ). IsTrue (seen_by l b)) account is)

  -- the one that was scanned
  pub noted_scanned : (items : List ℕ) (lost : Bool) → block_in x.seen.share.scan ≡ Some a → Noted k x items lost → Noted k y items lost
  noted_scanned items lost block n = record {
    known = subst (λ (l : List ℕ). Known k l items) (sym marked) n.known;
    kept = λ here none b is. ⊎_elim
        (λ (e : block_in x.seen.share.scan ≡ Some b). absurd ((was b is).1 (let same : Some a ≡ Some b = sym block ∙ e in cc)))
        (λ h. inr h)
        (n.kept (sym stage ∙ here) none b (was b is).0);
    owes = λ up. owes ∙ n.owes up;
  }

  -- the last one that was noted
  pub noted_settled : (items : List ℕ) (lost : Bool) → block_in x.seen.share.scan ≡ None → Noted k x (items ++ a ∷ []) lost → Noted k y items lost
  noted_settled items lost idle n = record {
    known = subst (λ (l : List ℕ). Known k l items) (sym marked) (known_less k x.seen.share.marked items a n.known);
    kept = λ here none b is. ⊎_elim
        (λ (e : block_in x.seen.share.scan ≡ Some b). absurd (none-some b (sym idle ∙ e)))
        (λ (h : IsTrue (seen_by (items ++ a ∷ []) b)). ⊎_elim (λ old. inr old) (λ (e : b ≡ a). absurd ((was b is).1 e)) (among_cases items a b h))
        (n.kept (sym stage ∙ here) none b (was b is).0);
    owes = λ up. owes ∙ n.owes up;
  }

-- where all may have been let go, a domain owes a store of the changed word
pub noted_none : (k : Config) (x : DomainView) → x.seen.share.owes ≡ true → Noted k x [] true
noted_none k x owes = record { known = λ i a got. absurd (none-some a got); kept = λ here kept. absurd (true≢false kept); owes = λ _. owes }

pub noted_one : (k : Config) (x : DomainView) (a : ℕ) → (1 ≤ a) × (a ≤ k.pools * 4096) → IsTrue (seen_by x.seen.share.marked a) → x.seen.share.owes ≡ true → Noted k x ([] ++ a ∷ []) true
noted_one k x a inside marked owes = record { known = known; kept = λ here kept. absurd (true≢false kept); owes = λ _. owes }
  where
    known : Known k x.seen.share.marked ([] ++ a ∷ [])
    known zero b got = let same : a ≡ b = cc in subst (λ (c : ℕ). (1 ≤ c) × (c ≤ k.pools * 4096) × IsTrue (seen_by x.seen.share.marked c)) same (inside.0, inside.1, marked)
    known (suc i) b got = absurd (none-some b got)

-- as a walk begins none is noted and none is on the account, and so it is where it ends and none was let go
pub noted_start : (k : Config) (x : DomainView) → x.seen.share.account ≡ [] → Noted k x [] false
noted_start k x none = record { known = λ i a got. absurd (none-some a got); kept = λ here kept a is. absurd (false≢true (subst (λ (l : List ℕ). IsTrue (seen_by l a)) none is)); owes = λ up. absurd (false≢true up) }

pub noted_end : (k : Config) (x : DomainView) (items : List ℕ) (lost : Bool) → Noted k x items lost → items ≡ [] → lost ≡ false → x.seen.stage ≡ In Mark → block_in x.seen.share.scan ≡ None → x.seen.share.account ≡ []
noted_end k x items lost n none kept here idle = none_left x.seen.share.account (λ a is. ⊎_elim
    (λ (e : block_in x.seen.share.scan ≡ Some a). none-some a (sym idle ∙ e))
    (λ (h : IsTrue (seen_by items a)). false≢true (subst (λ (l : List ℕ). IsTrue (seen_by l a)) none h))
    (n.kept here kept a is))

-- a block of which there is a hint lies in a pool
pub darkened_lies : (k : Config) (a : ℕ) (hint : Option ℕ) → is_some hint ≡ true → IfSome hint (λ h. (h ≡ a) × IsOldAt k a) → a ≤ k.pools * 4096
darkened_lies k a None e h = cc
darkened_lies k a (Some n) e h = h.1
