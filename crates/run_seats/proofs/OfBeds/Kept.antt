-- What a bed knows behind each step.
use Rattle.std.proofs.Common.{◌≡◌, ◌∙◌, ℕ, ◌+◌, Bool, true, false, refl, sym, ap, subst}
use Rattle.std.specs.Prelude.{Option, Some, None, is_some}
use Rattle.run_seats.specs.declared.beds.rule.Knows.{Knows}
use Rattle.run_seats.specs.declared.beds.rule.Rested.{Rested}
use Rattle.run_seats.specs.Beds.Bedding.{HasTaken, IsBed, is_lost, one_more, putting, taking}

module _ {T : Type 0} (follows : T → T → Type 0) (v w : Knows T) (number stamp next : ℕ) (is_taken makes : Bool) (guest : Option (Rested T)) (b : IsBed follows v number stamp next is_taken makes guest) where
  -- it has made another
  pub bed_more : w ≡ one_more v → IsBed follows w number stamp (next + 1) is_taken makes guest
  bed_more e = subst (λ (u : Knows T). IsBed follows u number stamp (next + 1) is_taken makes guest) (sym e) (record {
    number_is = b.number_is;
    stamp_is = b.stamp_is;
    next_is = ap (λ (n : ℕ). n + 1) b.next_is;
    makes_is = b.makes_is;
    keeps = λ x is. let h = b.keeps x is in record { old = h.old; turns = h.turns; number = h.number; stamp = h.stamp; follows_it = h.follows_it };
    loses = b.loses;
    lies = b.lies;
  })

  -- a thing was put there, while it kept none
  pub bed_put : (x : Rested T) → guest ≡ None → x.stamp ≡ stamp + 1 → w ≡ putting v x → IsBed follows w number (stamp + 1) next true makes guest
  bed_put x none counts e = subst (λ (u : Knows T). IsBed follows u number (stamp + 1) next true makes guest) (sym e) (record {
    number_is = b.number_is;
    stamp_is = counts;
    next_is = b.next_is;
    makes_is = b.makes_is;
    keeps = λ y is. absurd (let clash : None ≡ Some y = sym none ∙ is in cc);
    loses = refl;
    lies = λ t. (x.item, refl);
  })

  -- it keeps a thing that it has taken out
  pub bed_guest : (x y : Rested T) → w ≡ taking v x → HasTaken follows w y → IsBed follows w number stamp next is_taken makes (Some y)
  bed_guest x y e has = record {
    number_is = ap (λ (u : Knows T). u.number) e ∙ b.number_is;
    stamp_is = ap (λ (u : Knows T). u.stamp) e ∙ b.stamp_is;
    next_is = ap (λ (u : Knows T). u.next) e ∙ b.next_is;
    makes_is = ap (λ (u : Knows T). u.makes) e ∙ b.makes_is;
    keeps = λ z is. let same : y ≡ z = cc in subst (λ (r : Rested T). HasTaken follows w r) same has;
    loses = ap (λ (u : Knows T). is_lost is_taken number u.turns (Some y)) e;
    lies = λ t. let l = b.lies t in (l.0, ap (λ (u : Knows T). u.rests) e ∙ l.1);
  }

-- what was taken out is kept so by one that knows the same
pub taken_as : {T : Type 0} (follows : T → T → Type 0) (v w : Knows T) (x y : Rested T) → w ≡ v → y ≡ x → HasTaken follows v x → HasTaken follows w y
taken_as follows v w x y same is has = subst (λ (p : Knows _ × Rested _). HasTaken follows p.0 p.1) (λ i. (sym same i, sym is i)) has

-- where nothing is, there is none
pub is_none : {A : Type 0} (o : Option A) → is_some o ≡ false → o ≡ None
is_none None e = refl
is_none (Some x) e = absurd (let clash : true ≡ false = e in cc)
