-- The lines of one call of the map.
use Rattle.std.proofs.Common.{◌≡◌, ◌≢◌, ⊎_elim, ◌≤◌, ℕ, ◌+◌, List, refl, ap, sym, ◌∙◌, subst, arith}
use Rattle.std.proofs.lemmas.Bool.Decides.{eqb_tells}
use Rattle.model_core.specs.declared.label.Label.{Label}
use Rattle.model_core.specs.declared.entry.Entry.{Entry}
use Rattle.model_core.specs.declared.graph.Value.{Value}
use Rattle.model_core.specs.declared.graph.Value.TheVariants.{Block, Int, Nothing}
use Rattle.model_core.specs.declared.reply.Reply.{Reply}
use Rattle.model_core.specs.declared.state.Sizes.{Sizes}
use Rattle.model_core.specs.History.{IsPrefix}
use Rattle.table_text.specs.declared.line.TableLine.{TableLine}
use Rattle.table_text.specs.declared.line.TableLine.TheVariants as line_of
use Rattle.table_text.specs.Machine.Said.{full_in, said}
use Rattle.table_text.proofs.OfMachine.SaidLemmas.{said_full}
use Rattle.weak_laws.specs.Tables.Performing.{full_of}
use Rattle.weak_laws.specs.Maps.Calls.{GetAnswers, TakeAnswers}
use Rattle.weak_maps.specs.Beside.{held_by, refusals_by, writings_by}
use Rattle.weak_maps.specs.Crowds.{made_by}
use Rattle.weak_maps.specs.Fields.{IsBeside}
use Rattle.weak_maps.specs.Guards.{TakeGuards}
use Rattle.weak_maps.specs.Returns.{GetLeaves, GetReturns, GetsAt, TakeReturns, TakesAt}
use Rattle.weak_maps.specs.Walks.{OwnQuiet}
use Rattle.weak_maps.proofs.GuardLemmas.{guards_quiet, quiet_same}
use Rattle.table_sections.specs.Sections.{LeavesClean, LineDone, MakesNone}
use Rattle.table_sections.specs.Slots.{SparesBlocks}
use Rattle.table_sections.proofs.LineLemmas.{line_done}
use Rattle.table_sections.proofs.SpareLemmas.{spares_quiet, spares_within}

-- how many blocks a domain has made, by how many labels it has left: none was made where none was given out
pub none_made : (serial left now left_now : ℕ) → serial + left ≡ 4294967295 → now + left_now ≡ 4294967295 → left_now ≡ left → now ≡ serial
none_made serial left now left_now first last same = omega (arith, first, last, same)

-- a call that was given all it asked for
pub makes_none : (z : Sizes) (d : ℕ) (old new : List Entry) (r : Reply) → made_by z d new ≡ made_by z d old → refusals_by d new ≡ refusals_by d old → full_of r ≡ 0 → writings_by d new ≤ writings_by d old → MakesNone z d old new (said r)
makes_none z d old new r made given granted spared = record {
  made = made;
  given = given;
  granted = λ full. let one : full_in (said r) ≡ 1 = ap full_in full in let same = said_full r in absurd (omega (arith, one, same, granted));
  spared = spared;
}

-- what a lookup and a take answer, keep, spare and leave clean, by what the register of the key holds
module _ (z : Sizes) (d : ℕ) (old new : List Entry) (root : Label) where
  abbrev KeepsBeside : Type 0
  KeepsBeside = (i : ℕ) → IsBeside i → held_by z d new i ≡ held_by z d old i

  -- a call that made no command
  same_keeps : new ≡ old → (i : ℕ) → held_by z d new i ≡ held_by z d old i
  same_keeps same i = ap (λ (h : List Entry). held_by z d h i) same

  same_clean : new ≡ old → LeavesClean z d old new
  same_clean same i low high none = same_keeps same i ∙ none

  get_clean : (r : Reply) → GetLeaves z d old new root 0 r → LeavesClean z d old new
  get_clean r x i low high none =
      ⊎_elim (λ eight. subst (λ (n : ℕ). held_by z d new n ≡ Nothing) eight.1 x.clean) (λ other. x.keeps i (λ e. other.1 (sym e)) (λ e. absurd (omega (arith, low, e))) ∙ none) (eqb_tells 8 i)

  get_parts : (key : Value) (r : Reply) → GetReturns z d old new root 0 key r → GetAnswers z root d old new key r × ((i : ℕ) → i ≢ 0 → IsBeside i → held_by z d new i ≡ held_by z d old i) × LeavesClean z d old new
  get_parts (Block k) r x = (x.0, (λ i between beside. x.1.keeps i beside.0 between), get_clean r x.1)
  get_parts (Int j) r x = (x, (λ i between beside. same_keeps x.1 i), same_clean x.1)
  get_parts Nothing r x = (x, (λ i between beside. same_keeps x.1 i), same_clean x.1)

  take_parts : (line : TableLine) (key : Value) (r : Reply) → TakeReturns z d old new root key r → TakeAnswers z root d old new key r × KeepsBeside × SparesBlocks z root d old line new × LeavesClean z d old new
  take_parts line (Block k) r x = (x.0, x.1.keeps, spares_within z root d line old new x.1.within, (λ i low high none. x.1.clean i low high))
  take_parts line (Int j) r x = (x, (λ i beside. same_keeps x.1 i), spares_quiet z root d line old new (quiet_same z d old new x.1), same_clean x.1)
  take_parts line Nothing r x = (x, (λ i beside. same_keeps x.1 i), spares_quiet z root d line old new (quiet_same z d old new x.1), same_clean x.1)

module _ (z : Sizes) (d : ℕ) (old new : List Entry) (r : ℕ) (answer : Reply) (grows : IsPrefix old new) (none : MakesNone z d old new (said answer)) where
  pub get_done : OwnQuiet z d old new → GetsAt z d old new 0 6 r answer → LineDone z d old (line_of.Get r) (said answer) new
  get_done quiet gets =
      line_done z d old new (line_of.Get r) (said answer) grows (λ root on. guards_quiet z root d old old new quiet) (none, quiet)
      (λ root on others. let y = get_parts z d old new root (held_by z d old r) answer (gets root on.holds on.map others) in ((answer, y.0, refl), (λ i between beside other. y.1 i between beside), spares_quiet z root d (line_of.Get r) old new quiet, y.2)) (omega arith)

  pub delete_done : TakeGuards z d old new 6 → TakesAt z d old new 6 r answer → LineDone z d old (line_of.Del r) (said answer) new
  delete_done guards takes =
      line_done z d old new (line_of.Del r) (said answer) grows (λ root on. guards root on.holds on.map) none
      (λ root on others. let y = take_parts z d old new root (line_of.Del r) (held_by z d old r) answer (takes root on.holds on.map others) in ((answer, y.0, refl), (λ i between beside other. y.1 i beside), y.2, y.3)) (omega arith)
