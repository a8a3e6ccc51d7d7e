-- What is wrong with a heading whose number was read, and when it is taken.
use Rattle.std.proofs.Common.{◌≡◌, ◌≢◌, ℕ, ◌<◌, ◌^◌, ◌++◌, ◌∷◌, [], ℤ, pos, negsuc, List, length, Bool, true, false, cond, refl, ap, sym, ◌∙◌, arith, inl, Some}
use Rattle.std.specs.Prelude.{Option, unsigned_abs}
use Rattle.std.specs.Ordering.{int_eq}
use Rattle.std.proofs.lemmas.Int.{ints}
use Rattle.std.proofs.lemmas.Bool.Decides.{nat_tests, Decides-int_eq}
use Rattle.model_core.specs.declared.command.Command.{Command}
use Rattle.text_script.specs.declared.version.Version.{Version}
use Rattle.text_script.specs.declared.fault.ScriptFault.{ScriptFault}
use Rattle.text_script.specs.declared.fault.ScriptFault.TheVariants.{Range, Order, Spawn}
use Rattle.text_script.specs.Number.{clipped}
use Rattle.text_script.specs.Spawning.{Place, place_in, may_begin}
use Rattle.text_script.specs.Faults.{LineShape, heading, is_section, order_fault}
use Rattle.text_script.specs.Steps.{fault_of_said, IsHeading, TakesSaid}

-- a number in range was not clipped
inside_kept : (d : ℕ) (z : ℤ) → d < 2 ^ 32 → is_section d (clipped z) ≡ true → clipped z ≡ z
inside_kept d (pos n) small e = grind (arith, ints, nat_tests)
inside_kept d (negsuc n) small e = grind (arith, ints, nat_tests)

number_is : (d : ℕ) (number : ℤ) (h : ℕ) → is_section d number ≡ true → unsigned_abs number ≡ h → number ≡ pos h
number_is d (pos n) h e same = ap pos same
number_is d (negsuc n) h e same = cc

-- what was said, where the number that was read of it is in range
said_inside : (d : ℕ) (said : Option (LineShape × List ℕ)) (number : ℤ) (left : List ℕ) → d < 2 ^ 32 → is_section d number ≡ true → IsHeading said (Some (number, left)) → said ≡ Some (heading number, left)
said_inside d said number left small inside h =
    let kept = inside_kept d h.0 small (ap (is_section d) (sym h.2) ∙ inside) in
    h.1 ∙ ap (λ z. Some (heading z, left)) (sym (h.2 ∙ kept))

abbrev of_heading : Version → ℕ → ℕ → Place → ℤ → Bool → Bool → Option ScriptFault
of_heading ver d line p z inside next = cond inside (cond next (order_fault (may_begin ver p) line) (Some (Order line))) (Some (Range line 1))

-- a heading out of its turn
pub order_read : (ver : Version) (d line : ℕ) (p : Place) (said : Option (LineShape × List ℕ)) (number : ℤ) (left : List ℕ) → d < 2 ^ 32 → is_section d number ≡ true → IsHeading said (Some (number, left)) → unsigned_abs number ≢ p.headings
    → fault_of_said ver d line p said ≡ Some (Order line)
order_read ver d line p said number left small inside h other =
    ap (fault_of_said ver d line p) (said_inside d said number left small inside h)
    ∙ ap (λ b. of_heading ver d line p number b (int_eq number (pos p.headings))) inside ∙ ap (of_heading ver d line p number true) (differs (int_eq number (pos p.headings)) refl)
  where
    differs : (b : Bool) → int_eq number (pos p.headings) ≡ b → b ≡ false
    differs true e = absurd (other (ap unsigned_abs ((Decides-int_eq number (pos p.headings)).0 e)))
    differs false e = refl

in_turn : (ver : Version) (d line : ℕ) (p : Place) (said : Option (LineShape × List ℕ)) (number : ℤ) (left : List ℕ) → d < 2 ^ 32 → is_section d number ≡ true → IsHeading said (Some (number, left)) → unsigned_abs number ≡ p.headings
    → fault_of_said ver d line p said ≡ order_fault (may_begin ver p) line
in_turn ver d line p said number left small inside h same =
    ap (fault_of_said ver d line p) (said_inside d said number left small inside h)
    ∙ ap (λ b. of_heading ver d line p number b (int_eq number (pos p.headings))) inside ∙ ap (of_heading ver d line p number true) ((Decides-int_eq number (pos p.headings)).1 (number_is d number p.headings inside same))

-- a heading before its spawn
pub early_read : (ver : Version) (d line : ℕ) (p : Place) (said : Option (LineShape × List ℕ)) (number : ℤ) (left : List ℕ) → d < 2 ^ 32 → is_section d number ≡ true → IsHeading said (Some (number, left)) → unsigned_abs number ≡ p.headings
    → may_begin ver p ≡ false → fault_of_said ver d line p said ≡ Some (Spawn line)
early_read ver d line p said number left small inside h same early = in_turn ver d line p said number left small inside h same ∙ ap (λ b. order_fault b line) early

section_below : (d : ℕ) (number : ℤ) (h : ℕ) → is_section d number ≡ true → unsigned_abs number ≡ h → h < d
section_below d (pos n) h e same = grind (arith, nat_tests)
section_below d (negsuc n) h e same = cc

-- a heading that is taken
pub heading_taken : (ver : Version) (d : ℕ) (said : Option (LineShape × List ℕ)) (number : ℤ) (left : List ℕ) (old new : List (List Command)) → d < 2 ^ 32 → is_section d number ≡ true → IsHeading said (Some (number, left)) → unsigned_abs number ≡ length old
    → may_begin ver (place_in old) ≡ true → new ≡ old ++ [] ∷ [] → TakesSaid ver d said left old new
heading_taken ver d said number left old new small inside h same may opened = record {
  shape = heading number;
  is_said = said_inside d said number left small inside h;
  takes = inl (record {
    is_next = ap heading (number_is d number (length old) inside same);
    in_range = section_below d number (length old) inside same;
    in_order = may;
    sections = opened;
  });
}
