-- What a line is where it guards the map, and is answered on it.
use Rattle.std.proofs.Common.{◌≡◌, ◌≢◌, ℕ, ◌<◌, ◌≤◌, ◌^◌, ◌&&◌, true, int_le, ℤ, pos, negsuc, neg_ℤ, List, ◌∙◌, arith, to_z, of_z, to_z-of_z, SFits, w64}
use Rattle.std.proofs.lemmas.Bool.{and_parts}
use Rattle.std.proofs.lemmas.Bool.Decides.{nat_tests}
use Rattle.std.proofs.lemmas.Int.{ints}
use Rattle.model_core.specs.declared.label.Label.{Label}
use Rattle.model_core.specs.declared.entry.Entry.{Entry}
use Rattle.model_core.specs.declared.state.Sizes.{Sizes}
use Rattle.model_core.specs.History.{IsPrefix}
use Rattle.table_text.specs.declared.line.TableLine.{TableLine}
use Rattle.table_text.specs.declared.line.TableLine.TheVariants.{Key, Forget, Put, Get, Del, SetWeak, GetWeak, Count, FullMajor}
use Rattle.table_text.specs.declared.machine.reply.LineReply.{LineReply}
use Rattle.table_text.specs.Forms.{is_writable}
use Rattle.weak_laws.specs.Maps.Steps.{AllRespect, OthersRespect}
use Rattle.weak_laws.proofs.OfMaps.FrontLemmas.{prefix_before, prefix_same}
use Rattle.weak_laws.proofs.OfMaps.RespectLemmas.{map_after, respect_both}
use Rattle.weak_maps.specs.Beside.{held_by}
use Rattle.weak_maps.specs.Fields.{IsBeside}
use Rattle.weak_maps.specs.Guards.{Guards}
use Rattle.weak_maps.proofs.BesideLemmas.{low_beside}
use Rattle.weak_maps.proofs.PlaceLemmas.{place_after}
use Rattle.weak_maps.proofs.StayLemmas.{respects_within}
use Rattle.table_sections.specs.Lines.{IsKeyRegister, IsSharedLine, written_in}
use Rattle.table_sections.specs.Sections.{KeepsBut, LeavesClean, LineAnswers, LineDone, LineMakes, OnMap, SectionGuards}
use Rattle.table_sections.specs.Slots.{SparesBlocks}
use Rattle.table_sections.proofs.SlotLemmas.{slots_stay}
use Rattle.table_sections.proofs.SpareLemmas.{slots_spared}

module _ (z : Sizes) (root : Label) (d : ℕ) (old new : List Entry) where
  -- where a stretch guards the map, and others respect it, all do
  pub guarded_all : Guards z root d old old new → OthersRespect z root d old new → AllRespect z root old new
  guarded_all guards others = respect_both z root d old new others (λ f e a b own. guards f e a b own (respects_within z root d old new old f (prefix_same old) (prefix_before f e new b) others))

  -- so the map is in its register still
  pub on_after : IsPrefix old new → AllRespect z root old new → held_by z d new 6 ≡ held_by z d old 6 → OnMap z root d old → OnMap z root d new
  on_after grows all same on = record { holds = same ∙ on.holds; map = map_after z root old new grows all on.map; placed = place_after z root old new grows all on.map on.placed }

-- a register above those that a put or a take uses
pub high_beside : (r : ℕ) → 11 < r → IsBeside r
high_beside r high = ((λ e. absurd (omega (arith, high, e))), (λ e. absurd (omega (arith, high, e))), (λ e. absurd (omega (arith, high, e))), (λ e. absurd (omega (arith, high, e))))

-- where a line writes a register up to 5 alone, none of 8 to 11 is written
pub clean_kept : (z : Sizes) (d : ℕ) (old new : List Entry) (r : ℕ) → r ≤ 5 → ((i : ℕ) → i ≢ r → held_by z d new i ≡ held_by z d old i) → LeavesClean z d old new
clean_kept z d old new r small kept i low high none = kept i (λ e. absurd (omega (arith, e, low, small))) ∙ none

-- a line by what it does, and by what it answers, keeps and spares on a map
pub line_done : (z : Sizes) (d : ℕ) (old new : List Entry) (line : TableLine) (a : LineReply) → IsPrefix old new → SectionGuards z d old new → LineMakes z d old line a new
    → ((root : Label) → OnMap z root d old → OthersRespect z root d old new → LineAnswers z root d old line a new × KeepsBut z d old new (written_in line) × SparesBlocks z root d old line new × LeavesClean z d old new) → written_in line ≤ 5 → LineDone z d old line a new
line_done z d old new line a grows guards makes on_map low = record {
  guards = guards;
  runs = record {
    grows = grows;
    makes = makes;
    beside = λ root on others. let x = on_map root on others in record {
      grows = grows;
      makes = makes;
      answers = x.0;
      keeps = x.1;
      spares = slots_spared z root d line old new x.2;
      beside = x.2;
      clean = x.3;
      after = on_after z root d old new grows (guarded_all z root d old new (guards root on) others) (x.1 6 (λ e. absurd (omega (arith, e))) (low_beside 6 (omega arith)) (λ e. absurd (omega (arith, low, e)))) on;
      slots = slots_stay z d old new grows
          (x.1 7 (λ e. absurd (omega (arith, e))) (low_beside 7 (omega arith)) (λ e. absurd (omega (arith, low, e))))
          (x.1 12 (λ e. absurd (omega (arith, e))) (high_beside 12 (omega arith)) (λ e. absurd (omega (arith, low, e))))
          (x.1 13 (λ e. absurd (omega (arith, e))) (high_beside 13 (omega arith)) (λ e. absurd (omega (arith, low, e))));
    };
  };
}

-- an integer of a line is one that a word of 64 bits holds
small_value : (v : ℤ) → int_le (neg_ℤ (pos 4611686018427387904)) v && int_le v (pos 4611686018427387903) ≡ true → SFits w64 v
small_value (pos n) e = record { sfits = (let small : n < 2 ^ 63 = grind (arith, ints, nat_tests) in small) }
small_value (negsuc n) e = record { sfits = (let small : n < 2 ^ 63 = grind (arith, ints, nat_tests) in small) }

pub value_held : (r : ℕ) (v : ℤ) → is_writable (Put r v) ≡ true → to_z w64 (of_z w64 v) ≡ v
value_held r v e = to_z-of_z (small_value v (and_parts _ _ (and_parts _ _ e).1).0)

-- a put's register is one of a key
register_of : (r : ℕ) → int_le (pos 1) (pos r) && int_le (pos r) (pos 5) ≡ true → IsKeyRegister r
register_of r e = (grind (arith, ints, nat_tests), grind (arith, ints, nat_tests))

pub key_of : (r : ℕ) (v : ℤ) → is_writable (Put r v) ≡ true → IsKeyRegister r
key_of r v e = register_of r (and_parts _ _ e).0

-- and so of each line's
pub slot_of : (s r : ℕ) → IsSharedLine (SetWeak s r) → (s < 16) × IsKeyRegister r
slot_of s r e = (small_slot s (and_parts _ _ e).0, register_of r (and_parts _ _ (and_parts _ _ e).1).0)
  where
    small_slot : (n : ℕ) → int_le (pos 0) (pos n) && int_le (pos n) (pos 15) ≡ true → n < 16
    small_slot n small = grind (arith, ints, nat_tests)

pub low_line : (line : TableLine) → IsSharedLine line → written_in line ≤ 5
low_line (Key r) e = (register_of r (and_parts _ _ e).0).1
low_line (Forget r) e = (register_of r (and_parts _ _ e).0).1
low_line (Put r v) e = omega arith
low_line (Get r) e = omega arith
low_line (Del r) e = omega arith
low_line (SetWeak s r) e = omega arith
low_line (GetWeak r s) e = (register_of r (and_parts _ _ e).0).1
low_line Count e = absurd e
low_line FullMajor e = omega arith
