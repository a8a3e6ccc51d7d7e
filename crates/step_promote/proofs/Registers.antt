-- A register that holds the address of a block that was met gets that of its copy.
use Rattle.std.proofs.Common.{◌≡◌, ℕ, ◌<◌, List, length, get_or, set, sym, refl, ap, ◌∙◌, subst, arith, length-set, get_or-set_same, get_or-set_other}
use mathlib.Core.Logic.{dite}
use native.Mathlib.Decide.{ℕ_discrete}
use mathlib.Core.Option.{some}
use lib.ListN.{get_elem?}
use Rattle.atomic_table.specs.Table.{keeps}
use Rattle.model_core.specs.declared.entry.Entry.{Entry}
use Rattle.model_core.specs.declared.graph.Value as graph_value
use Rattle.model_core.specs.declared.state.State as model
use Rattle.model_core.specs.Domains.{register}
use Rattle.heap_words.specs.declared.value.Value.{Value}
use Rattle.heap_words.specs.declared.value.Value.TheVariants.{Ref, Nothing as NothingWord}
use Rattle.heap_rule.specs.declared.config.Config.{Config}
use Rattle.heap_rule.specs.declared.view.Own.{Own}
use Rattle.heap_rule.specs.declared.view.DomainView.{DomainView}
use Rattle.heap_rule.specs.declared.phase.Kind.TheVariants.{Run, Promote}
use Rattle.heap_rule.specs.declared.phase.Stage.{Stage}
use Rattle.heap_rule.specs.declared.phase.Stage.TheVariants.{In}
use Rattle.heap_rule.specs.Changes.{value_at}
use Rattle.heap_rule.specs.declared.view.Finalisers.{Finalisers}
use Rattle.heap_rule.specs.Finalisers.{FinalisersFit}
use Rattle.heap_rule.specs.Places.{Place, Live, Stands, More}
use Rattle.heap_rule.specs.Raw.{StepsOnce, MayStep, Closes}
use Rattle.heap_rule.specs.Rule.{state_of, Rule, Stood}
use Rattle.heap_rule.specs.Standing.{with_registers}
use Rattle.heap_rule.specs.Token.{Holds, OwnFits}
use Rattle.heap_rule.specs.Views.{one}
use Rattle.step_promote.specs.Promotion.{Knows, MoveMay, MoveTold}
use Rattle.step_promote.specs.Writes.{CanMove, Moves}
use Rattle.heap_rule.proofs.Fits.{registers_fit}
use Rattle.heap_rule.proofs.Values.{stands_block, holds}
use Rattle.heap_rule.proofs.Keeps.{Words, my_good, hunter_as, owes_as, unmoved}
use Rattle.step_promote.proofs.Remaking.{keeps_words}
use Rattle.std.proofs.lemmas.Option.{same_Some}

module _ (k : Config) (s : Words) (r : Rule k s) (id : ℕ) (hist : List Entry) (x : DomainView) (at : get_elem? s.views id ≡ some (one k hist x)) (promotes : x.seen.stage ≡ In Promote) where
  abbrev now : model.State
  now = state_of k r.account.log

  abbrev live : Live
  live = r.account.live

  knows : More (Knows x) live
  knows = (my_good k s r id hist x at).owes.knows

  -- a register's block moves to a copy of it
  moved_stands : (reg copy : ℕ) → MoveMay x reg copy → Stands live (Ref copy) (register now x.own.number reg)
  moved_stands reg copy may =
      let v : graph_value.Value = register now x.own.number reg in
      let b = stands_block live may.address v (subst (λ (y : Value). Stands live y v) may.holds ((my_good k s r id hist x at).stood.each reg may.few)) in
      let l = knows may.address may.from may.met in
      let c = knows copy may.to may.there in
      let same : b.1 ≡ l.place = same_Some b.1 l.place (sym b.3 ∙ l.lives) in
      let label : c.place.label ≡ b.0 = c.label ∙ (may.label ∙ (sym l.label ∙ (sym (ap (λ (z : Place). z.label) same) ∙ b.4))) in
      subst (Stands live (Ref copy)) (sym b.2) (c.place, c.lives, label)

  moved_stood : (reg copy : ℕ) → MoveMay x reg copy → Stood live now (with_registers x (set x.own.registers reg (Ref copy)))
  moved_stood reg copy may =
      let st = (my_good k s r id hist x at).stood in
      let regs : List Value = x.own.registers in record {
        wide = length-set regs reg (Ref copy) ∙ st.wide;
        each = λ q few. dite (ℕ_discrete q reg)
            (λ same. subst (λ (z : ℕ). Stands live (value_at (set regs reg (Ref copy)) z) (register now x.own.number z)) (sym same)
            (subst (λ (z : Value). Stands live z (register now x.own.number reg)) (sym (get_or-set_same regs reg (Ref copy) NothingWord (let w : length regs ≡ 16 = st.wide in let f = may.few in let n : ℕ = length regs in let e : n ≡ 16 = w in let o : reg < n = omega arith in o))) (moved_stands reg copy may)))
            (λ other. subst (λ (z : Value). Stands live z (register now x.own.number q)) (sym (get_or-set_other regs reg q (Ref copy) NothingWord other)) (st.each q few));
        serial = st.serial;
        enrolled = st.enrolled;
      }

  moves_rule : (reg copy : ℕ) → MoveMay x reg copy → Rule k record { words = s.words; homes = s.homes; views = set s.views id (one k hist (with_registers x (set x.own.registers reg (Ref copy)))) }
  moves_rule reg copy may =
      let g = my_good k s r id hist x at in
      let y : DomainView = with_registers x (set x.own.registers reg (Ref copy)) in
      keeps_words k s r id hist x at promotes y.own.registers x.own.finalisers x.own.prepared x.own.looked x.seen.hunt x.seen.copying
      (moved_stood reg copy may)
      (hunter_as k r.account.tenancy s.words x y refl refl refl refl refl refl refl g.hunter)
      (owes_as k live x y refl refl refl refl g.owes)

  moved_told : (reg copy : ℕ) → (may : MoveMay x reg copy) → (found : ℕ) → MoveTold k reg copy x found (with_registers x (set x.own.registers reg (Ref copy)))
  moved_told reg copy may found = record { view = refl; holds = holds k r.limits live r.whole.placed now (with_registers x (set x.own.registers reg (Ref copy))) (moved_stood reg copy may) }

pub move_may : (k : Config) (x : DomainView) (word reg copy : ℕ) → MoveMay x reg copy → MayStep k x word (λ n. n) (MoveTold k reg copy)
move_may k x word reg copy may fits slots id hist s r _ at _ =
    let y : DomainView = with_registers x (set x.own.registers reg (Ref copy)) in (
      one k hist y,
      keeps,
      tt,
      unmoved k s word (set s.views id (one k hist y)) (moves_rule k s r id hist x at may.stage reg copy may),
      (moved_told k s r id hist x at may.stage reg copy may (get_or s.words word 0), refl),
    )

-- the step isn't one of a running domain
pub promote_once : (k : Config) (x y : DomainView) → x.seen.stage ≡ In Promote → StepsOnce k x y
promote_once k x y promotes runs = absurd (let e : ◌≡◌ {A = Stage} (In Promote) (In Run) = sym promotes ∙ runs in cc)

-- it closes where the register was written
pub move_closes : (k : Config) (x : DomainView) (found reg copy : ℕ) → MoveMay x reg copy → Closes k x found (MoveTold k reg copy) (λ own. CanMove reg) (Moves reg copy)
move_closes k x found reg copy may y fits told =
    let own : y.own ≡ record x.own { registers = set x.own.registers reg (Ref copy) } = ap (λ (z : DomainView). z.own) told.view in record {
      can_write = may.few;
      written = λ after wrote. own ∙ sym wrote;
      fits = subst (OwnFits k) (sym own) (registers_fit k x.own (set x.own.registers reg (Ref copy)) x.own.finalisers (subst (λ (o : Own). Holds k o.registers) own told.holds) fits.finalisers fits);
      once = promote_once k x y may.stage;
    }
