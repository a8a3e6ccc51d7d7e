-- A new block comes to live at an address.
use Rattle.heap_rule.specs.Copies.{Recalls}
use Rattle.std.proofs.Common.{◌*◌, ◌≡◌, ◌≢◌, ℕ, zero, suc, ◌+◌, ◌<◌, ◌≤◌, ◌⊎◌, List, get_or, replicate, slice_get, pos, Option, Some, None, unwrap_or, refl, sym, ap, ◌∙◌, subst, inl, inr, ⊎_elim, arith}
use mathlib.Core.Logic.{dite}
use native.Mathlib.Decide.{ℕ_discrete}
use Rattle.model_core.specs.declared.graph.Value as graph_value
use Rattle.model_core.specs.declared.graph.Value.TheVariants.{Int, Nothing}
use Rattle.heap_words.specs.declared.value.Value.{Value}
use Rattle.heap_rule.specs.declared.config.Config.{Config}
use Rattle.model_core.specs.Domains.{reserve}
use Rattle.heap_rule.specs.declared.view.DomainView.{DomainView}
use Rattle.heap_rule.specs.Limits.{sizes_in}
use Rattle.heap_rule.specs.Layout.{heap_words, base_of, listed}
use Rattle.heap_rule.specs.Room.{Opened}
use Rattle.heap_rule.specs.Changes.{value_at}
use Rattle.heap_rule.specs.Places.{Place, Live, extent, span, Fits, Placed, Spread, Settled, IsBare, More}
use Rattle.heap_rule.proofs.Update.{over, over_here, over_else}
use Rattle.heap_rule.proofs.Values.{AllStand, extent_large}
use Rattle.heap_rule.proofs.Keeps.{stands_more}

-- the word of the integer 0, which every field of a new block holds
abbrev pub zero_word : ℕ
zero_word = 1

-- each field of a new block has this word
pub zero_values : (n i : ℕ) (v : graph_value.Value) → slice_get (replicate n (Int (pos 0))) i ≡ Some v → (v ≡ Int (pos 0)) × (slice_get (replicate n zero_word) i ≡ Some zero_word)
zero_values zero i v e = cc
zero_values (suc n) zero v e = (cc, refl)
zero_values (suc n) (suc i) v e = zero_values n i v e

-- registers stand for the same values where more blocks live
pub all_more : (live live' : Live) (own : List Value) (theirs : List graph_value.Value) → More live live' → AllStand live own theirs → AllStand live' own theirs
all_more live live' own theirs grows a = record { wide = a.wide; long = a.long; each = λ r few. stands_more live live' (value_at own r) (get_or theirs r Nothing) grows (a.each r few) }

module _ (k : Config) (live : Live) (A : ℕ) (p : Place) (some : 1 ≤ extent p.shape) (away : (b : ℕ) (q : Place) → live b ≡ Some q → (b + extent q.shape ≤ A) ⊎ (A + extent p.shape ≤ b)) (placed : Placed k live) where
  abbrev pub live' : Live
  live' = over A (Some p) live

  elsewhere : (b : ℕ) (q : Place) → live b ≡ Some q → b ≢ A
  elsewhere b q lives same = let m : ℕ = extent q.shape in let n : ℕ = extent p.shape in let o : 1 ≤ n = some in let l : 3 ≤ m = extent_large q.shape (placed.fits b q lives).head in
      ⊎_elim (λ (t : b + m ≤ A). omega arith) (λ (t : A + n ≤ b). omega arith) (away b q lives)

  pub born : live' A ≡ Some p
  born = over_here A (Some p) live

  pub more : More live live'
  more b q lives = record { place = q; lives = over_else A (Some p) live b (elsewhere b q lives) ∙ lives; label = refl; shape = refl }

  pub old : (b : ℕ) (q : Place) → b ≢ A → live' b ≡ Some q → live b ≡ Some q
  old b q other lives = sym (over_else A (Some p) live b other) ∙ lives

  pub is_new : (b : ℕ) (q : Place) → b ≡ A → live' b ≡ Some q → p ≡ q
  is_new b q same lives = ap (λ (o : Option Place). unwrap_or o p) (sym born ∙ (ap live' (sym same) ∙ lives))

  pub placed_born : Fits k A p → ((b : ℕ) (q : Place) → live b ≡ Some q → q.label ≢ p.label) → Placed k live'
  placed_born fits fresh = record {
    fits = λ b q lives. dite (ℕ_discrete b A)
        (λ same. subst (λ (y : ℕ × Place). Fits k y.0 y.1) (λ j. (sym same j, is_new b q same lives j)) fits)
        (λ other. placed.fits b q (old b q other lives));
    once = λ b c q o lives lives' labels f g. dite (ℕ_discrete b A)
        (λ same. dite (ℕ_discrete c A)
        (λ same'. same ∙ sym same')
        (λ other'. absurd (fresh c o (old c o other' lives') (sym labels ∙ ap (λ (z : Place). z.label) (sym (is_new b q same lives))))))
        (λ other. dite (ℕ_discrete c A)
        (λ same'. absurd (fresh b q (old b q other lives) (labels ∙ ap (λ (z : Place). z.label) (sym (is_new c o same' lives')))))
        (λ other'. placed.once b c q o (old b q other lives) (old c o other' lives') labels f g));
    apart = λ b c q o lives lives' differ. dite (ℕ_discrete b A)
        (λ same.
        let n : ℕ = extent p.shape in let size : n ≡ extent q.shape = ap (λ (z : Place). extent z.shape) (is_new b q same lives) in
        let m : ℕ = extent q.shape in let w : ℕ = extent o.shape in let z : n ≡ m = size in
        ⊎_elim (λ (t : c + w ≤ A). inr (let g : c + w ≤ b = omega arith in g)) (λ (t : A + n ≤ c). inl (let g : b + m ≤ c = omega arith in g))
        (away c o (old c o (λ same'. differ (same ∙ sym same')) lives')))
        (λ other. dite (ℕ_discrete c A)
        (λ same'.
        let n : ℕ = extent p.shape in let size : n ≡ extent o.shape = ap (λ (z : Place). extent z.shape) (is_new c o same' lives') in
        let m : ℕ = extent o.shape in let w : ℕ = extent q.shape in let z : n ≡ m = size in
        ⊎_elim (λ (t : b + w ≤ A). inl (let g : b + w ≤ c = omega arith in g)) (λ (t : A + n ≤ b). inr (let g : c + m ≤ b = omega arith in g)) (away b q (old b q other lives)))
        (λ other'. placed.apart b c q o (old b q other lives) (old c o other' lives') differ));
  }

  pub settled_born : IsBare p → Settled live → Settled live'
  settled_born bare settled b q lives = dite (ℕ_discrete b A)
      (λ same. subst IsBare (is_new b q same lives) bare)
      (λ other. settled b q (old b q other lives))

  pub recalls_born : ((i : ℕ) → p.named i ≡ None) → (d : ℕ) → Recalls d live live'
  recalls_born none d b q i lives named = dite (ℕ_discrete b A)
      (λ same. absurd (let e : ◌≡◌ {A = Option ℕ} None (Some d) = sym (none i) ∙ (ap (λ (z : Place). z.named i) (is_new b q same lives) ∙ named) in cc))
      (λ other. record { place = q; lives = old b q other lives; named = named })

  pub naming_born : ((i : ℕ) → p.named i ≡ None) → ((b : ℕ) (q : Place) (i d : ℕ) → live b ≡ Some q → q.named i ≡ Some d → (d < k.domains) × (i + 2 < extent q.shape)) → (b : ℕ) (q : Place) (i d : ℕ) → live' b ≡ Some q → q.named i ≡ Some d → (d < k.domains) × (i + 2 < extent q.shape)
  naming_born none naming b q i d lives named = dite (ℕ_discrete b A)
      (λ same. absurd (let e : ◌≡◌ {A = Option ℕ} None (Some d) = sym (none i) ∙ (ap (λ (z : Place). z.named i) (is_new b q same lives) ∙ named) in cc))
      (λ other. naming b q i d (old b q other lives) named)

  -- where the new block lies so in a minor area, blocks lie there as they should
  pub spread_born : (k.pools * 4096 < A → A + span p.shape ≤ heap_words k + 1) → ((b : ℕ) (q : Place) → live b ≡ Some q → k.pools * 4096 < b → b < A → b + span q.shape ≤ A) → ((b : ℕ) (q : Place) → live b ≡ Some q → k.pools * 4096 < A → A < b → A + span p.shape ≤ b)
      → Spread k live → Spread k live'
  spread_born fits before after s = record {
    apart = λ b c q o lives lives' young below. dite (ℕ_discrete b A)
        (λ same. dite (ℕ_discrete c A)
        (λ same'. absurd (let e : b ≡ A = same in let f : c ≡ A = same' in omega arith))
        (λ other'. subst (λ (z : ℕ × Place). z.0 + span z.1.shape ≤ c) (λ j. (sym same j, is_new b q same lives j))
        (after c o (old c o other' lives') (let e : b ≡ A = same in omega arith) (let e : b ≡ A = same in omega arith))))
        (λ other. dite (ℕ_discrete c A)
        (λ same'. subst (λ (z : ℕ). b + span q.shape ≤ z) (sym same') (before b q (old b q other lives) young (let e : c ≡ A = same' in omega arith)))
        (λ other'. s.apart b c q o (old b q other lives) (old c o other' lives') young below));
    inside = λ b q lives young. dite (ℕ_discrete b A)
        (λ same. subst (λ (z : ℕ × Place). z.0 + span z.1.shape ≤ heap_words k + 1) (λ j. (sym same j, is_new b q same lives j)) (fits (let e : b ≡ A = same in omega arith)))
        (λ other. s.inside b q (old b q other lives) young);
  }

  -- and where it lies there, the reserve is listed
  pub opened_born : (words : List ℕ) → (k.pools * 4096 < A → reserve (sizes_in k) ≤ listed words) → Opened k live words → Opened k live' words
  opened_born words enough o b q lives young = dite (ℕ_discrete b A)
      (λ same. enough (let e : b ≡ A = same in omega arith))
      (λ other. o b q (old b q other lives) young)

  -- a domain's area has the words of the blocks' classes
  pub classes_born : (x y : DomainView) → base_of k y.own.number ≡ base_of k x.own.number → ((b : ℕ) (q : Place) → live b ≡ Some q → k.pools * 4096 < b → (b + span q.shape ≤ base_of k x.own.number + x.own.used) ⊎ (base_of k x.own.number + k.minor_words ≤ b))
      → x.own.used ≤ y.own.used → (k.pools * 4096 < A → (A + span p.shape ≤ base_of k y.own.number + y.own.used) ⊎ (base_of k y.own.number + k.minor_words ≤ A))
      → (b : ℕ) (q : Place) → live' b ≡ Some q → k.pools * 4096 < b → (b + span q.shape ≤ base_of k y.own.number + y.own.used) ⊎ (base_of k y.own.number + k.minor_words ≤ b)
  classes_born x y base classes more here b q lives young = dite (ℕ_discrete b A)
      (λ same. subst (λ (z : ℕ × Place). (z.0 + span z.1.shape ≤ base_of k y.own.number + y.own.used) ⊎ (base_of k y.own.number + k.minor_words ≤ z.0)) (λ j. (sym same j, is_new b q same lives j)) (here (let e : b ≡ A = same in omega arith)))
      (λ other. let m : ℕ = base_of k x.own.number in let n : ℕ = base_of k y.own.number in let e : n ≡ m = base in let w : ℕ = span q.shape in
      ⊎_elim (λ (h : b + w ≤ m + x.own.used). inl (let g : b + w ≤ n + y.own.used = omega arith in g)) (λ (h : m + k.minor_words ≤ b). inr (let g : n + k.minor_words ≤ b = omega arith in g)) (classes b q (old b q other lives) young))
