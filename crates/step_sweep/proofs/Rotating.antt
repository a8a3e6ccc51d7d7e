-- The colours rotate: what was marked lives on, and what wasn't is garbage.
use Rattle.std.proofs.Common.{◌≡◌, ℕ, ◌⊎◌, Bool, true, false, not, cond, IsTrue, Some, None, Option, sym, refl, ap, ◌∙◌, subst, inl, inr}
use Rattle.model_core.specs.declared.label.Label.{Label}
use Rattle.model_core.specs.declared.graph.Value.{Value}
use Rattle.model_core.specs.declared.graph.Value.TheVariants.{Int, Block, Nothing}
use Rattle.heap_words.specs.declared.colours.Colours.{Colours}
use Rattle.heap_words.specs.declared.value.Value as held
use Rattle.heap_words.specs.declared.value.Value.TheVariants.{Int as IntWord, Ref, Nothing as NothingWord}
use Rattle.heap_words.specs.ColourWords.{IsPermutation, rotated}
use Rattle.heap_rule.specs.Places.{Live, Paint, Place, Stands}

-- what lives on
abbrev pub kept_of : (Label → Bool) → Option Place → Option Place
kept_of marked None = None
kept_of marked (Some p) = cond (marked p.label) (Some p) None

abbrev pub left_live : (Label → Bool) → Live → Live
left_live marked live a = kept_of marked (live a)

-- and what doesn't
abbrev pub dead_of : (Label → Bool) → Option Place → Bool
dead_of marked None = false
dead_of marked (Some p) = not (marked p.label)

abbrev pub left_garbage : (Label → Bool) → Live → ℕ → Bool
left_garbage marked live a = dead_of marked (live a)

-- then nothing is marked
abbrev pub rotated_paint : Paint → Paint
rotated_paint paint = record { colours = rotated paint.colours; marks = record { marked = λ l. false; scanned = λ l. false }; emptied = paint.emptied }

pub rotated_fits : (c : Colours) → IsPermutation c → IsPermutation (rotated c)
rotated_fits c p = record { marked_fits = p.garbage_fits; unmarked_fits = p.marked_fits; garbage_fits = p.unmarked_fits; marked_differs = p.garbage_differs; unmarked_differs = p.marked_differs; garbage_differs = p.unmarked_differs }

module _ (marked : Label → Bool) (live : Live) where
  -- a block that lives on lived and was marked
  pub kept_was : (a : ℕ) (p : Place) → left_live marked live a ≡ Some p → (live a ≡ Some p) × IsTrue (marked p.label)
  kept_was a p is = go (live a) refl is
    where
      pick : (q : Place) (b : Bool) → live a ≡ Some q → marked q.label ≡ b → cond b (Some q) None ≡ Some p → (live a ≡ Some p) × IsTrue (marked p.label)
      pick q true e f g = let same : q ≡ p = cc in (e ∙ ap Some same, subst (λ (z : Place). IsTrue (marked z.label)) same f)
      pick q false e f g = absurd (let clash : ◌≡◌ {A = Option Place} None (Some p) = g in cc)

      go : (o : Option Place) → live a ≡ o → kept_of marked o ≡ Some p → (live a ≡ Some p) × IsTrue (marked p.label)
      go None e f = absurd (let clash : ◌≡◌ {A = Option Place} None (Some p) = f in cc)
      go (Some q) e f = pick q (marked q.label) e refl f

  pub was_kept : (a : ℕ) (p : Place) → live a ≡ Some p → IsTrue (marked p.label) → left_live marked live a ≡ Some p
  was_kept a p e f = ap (kept_of marked) e ∙ ap (λ (b : Bool). cond b (Some p) None) f

  -- garbage was an unmarked block, and none lives there now
  pub dead_was : (a : ℕ) → IsTrue (left_garbage marked live a) → (p : Place) × (live a ≡ Some p) × (marked p.label ≡ false)
  dead_was a is = go (live a) refl is
    where
      pick : (q : Place) (b : Bool) → live a ≡ Some q → marked q.label ≡ b → IsTrue (not b) → (p : Place) × (live a ≡ Some p) × (marked p.label ≡ false)
      pick q true e f g = cc
      pick q false e f g = (q, e, f)

      go : (o : Option Place) → live a ≡ o → IsTrue (dead_of marked o) → (p : Place) × (live a ≡ Some p) × (marked p.label ≡ false)
      go None e f = cc
      go (Some q) e f = pick q (marked q.label) e refl f

  pub dead_gone : (a : ℕ) → IsTrue (left_garbage marked live a) → left_live marked live a ≡ None
  dead_gone a is = let w = dead_was a is in ap (kept_of marked) w.1 ∙ ap (λ (b : Bool). cond b (Some w.0) None) w.2

  -- a block lives on or is garbage
  pub kept_or_dead : (a : ℕ) (p : Place) → live a ≡ Some p → ((q : Place) × (left_live marked live a ≡ Some q)) ⊎ IsTrue (left_garbage marked live a)
  kept_or_dead a p e = go (marked p.label) refl
    where
      go : (b : Bool) → marked p.label ≡ b → ((q : Place) × (left_live marked live a ≡ Some q)) ⊎ IsTrue (left_garbage marked live a)
      go true f = inl (p, was_kept a p e f)
      go false f = inr (ap (dead_of marked) e ∙ ap not f)

  -- a reference to a marked block leads to it still
  pub stands_left : (w : held.Value) (v : Value) → ((l : Label) → v ≡ Block l → IsTrue (marked l)) → Stands live w v → Stands (left_live marked live) w v
  stands_left (IntWord z) (Int v) leads s = s
  stands_left (IntWord z) (Block l) leads s = s
  stands_left (IntWord z) Nothing leads s = s
  stands_left (Ref a) (Int v) leads s = s
  stands_left (Ref a) (Block l) leads s = (s.0, was_kept a s.0 s.1 (subst (λ (z : Label). IsTrue (marked z)) (sym s.2) (leads l refl)), s.2)
  stands_left (Ref a) Nothing leads s = s
  stands_left NothingWord (Int v) leads s = s
  stands_left NothingWord (Block l) leads s = s
  stands_left NothingWord Nothing leads s = s
