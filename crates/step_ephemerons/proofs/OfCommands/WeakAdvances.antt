-- What the entries of weak reads leave of a cycle beside running domains: the block that was read is still to be darkened where it lies in a pool.
use Rattle.std.proofs.Common.{◌≡◌, ◌≢◌, ℕ, ◌*◌, ◌<◌, ◌≤◌, ◌==◌, ◌&&◌, ◌||◌, Bool, true, false, IsTrue, cond, nat_le, eq-eqb, le-leb, lt_of_not-le, ne_eqb, List, Option, Some, None, inl, inr, sym, refl, ap, ◌∙◌, subst}
use mathlib.Core.Logic.{dite}
use native.Mathlib.Decide.{ℕ_discrete}
use mathlib.Core.Option.{some}
use lib.ListN.{get_elem?}
use Rattle.model_core.specs.declared.label.Label.{Label}
use Rattle.model_core.specs.declared.command.Command as command
use Rattle.model_core.specs.declared.entry.Entry.{Entry}
use Rattle.model_core.specs.declared.entry.Entry.TheVariants.{Command}
use Rattle.model_core.specs.declared.graph.Value as graph_value
use Rattle.model_core.specs.declared.graph.Value.TheVariants.{Block}
use Rattle.model_core.specs.declared.state.State as model
use Rattle.model_core.specs.Domains.{register}
use Rattle.model_core.specs.Entries.{next}
use Rattle.model_cycle.specs.Beside.{Later, WriteBarrier, owed_after, owing_register}
use Rattle.model_cycle.proofs.Beside.{beside_law}
use Rattle.heap_words.specs.declared.value.Value.{Value}
use Rattle.heap_words.specs.declared.value.Value.TheVariants.{Int as IntWord, Ref, Nothing as NothingWord}
use Rattle.heap_rule.specs.declared.config.Config.{Config}
use Rattle.heap_rule.specs.declared.view.DomainView.{DomainView}
use Rattle.heap_rule.specs.Beside.{is_weak}
use Rattle.heap_rule.specs.Places.{Stands}
use Rattle.heap_rule.specs.Rule.{state_of, Rule}
use Rattle.heap_rule.specs.Standing.{Acts}
use Rattle.heap_rule.specs.Views.{one}
use Rattle.heap_rule.proofs.Advancing.{Advance, advances_by, owes_nothing, underway_here, numbered}
use Rattle.heap_rule.proofs.Keeps.{Words, more_same}
use Rattle.step_ephemerons.specs.Commands.Loads.{weak_on}

-- what isn't at most a bound is above it
above : (a b : ℕ) → nat_le a b ≡ false → b < a
above a b high = lt_of_not-le (λ (low : a ≤ b). let clash : true ≡ false = sym (le-leb a b low) ∙ high in cc)

module _ (k : Config) (s : Words) (r : Rule k s) (id : ℕ) (hist : List Entry) (x : DomainView) (at : get_elem? s.views id ≡ some (one k hist x)) (acts : Acts k x) (c : command.Command) (dst : ℕ)
    (owing : owed_after r.account.cycling.past.owed x.own.number c ≡ owing_register r.account.cycling.past.owed x.own.number dst)
    (barrier : IsTrue r.account.cycling.armed → WriteBarrier r.account.cycling.past r.account.cycling.paint.marks (state_of k r.account.log) x.own.number c) (v : graph_value.Value)
    (gets : register (next (state_of k r.account.log) (Command x.own.number c false)) x.own.number dst ≡ v) where
  open x use {own.{number as d}}
  open r.account use {cycling.{past, paint.{marks}}}

  abbrev now : model.State
  now = state_of k r.account.log

  abbrev e : Entry
  e = Command d c false

  -- after the entry the register that was written is owed
  owes_target : IsTrue r.account.cycling.armed → Later past marks (next now e) (owing_register past.owed d dst)
  owes_target is = subst (λ (owed : ℕ → ℕ → Bool). Later past marks (next now e) owed) owing
      (beside_law.commands past marks now (underway_here k s r id hist x at acts.runs is).covered (numbered k s r id hist x at) d c (owes_nothing k s r id hist x at acts.runs acts.paid is) (barrier is))

  other_domain : (j q : ℕ) → j ≢ d → owing_register past.owed d dst j q ≡ past.owed j q
  other_domain j q other = ap (λ (b : Bool). b && q == dst || past.owed j q) (ne_eqb j d other)

  other_register : (q : ℕ) → q ≢ dst → owing_register past.owed d dst d q ≡ past.owed d q
  other_register q other = let no_match : q == dst ≡ false = ne_eqb q dst other in second (d == d) (q == dst) (past.owed d q) no_match where
    second : (a b o : Bool) → b ≡ false → (a && b || o) ≡ o
    second true b o none = ap (λ (z : Bool). z || o) none
    second false b o none = refl

  -- the domain owes what it has read
  owes_own : IsTrue r.account.cycling.armed → (q : ℕ) → owing_register past.owed d dst d q ≡ is_weak (Some dst) q
  owes_own is q = dite (ℕ_discrete q dst)
      (λ (same : q ≡ dst). ap (λ (z : Bool). z && q == dst || past.owed d q) (eq-eqb d d refl) ∙ (ap (λ (z : Bool). z || past.owed d q) (eq-eqb q dst same) ∙ sym (eq-eqb dst q (sym same))))
      (λ (other : q ≢ dst). other_register q other ∙ (owes_nothing k s r id hist x at acts.runs acts.paid is q ∙ sym (ne_eqb dst q (λ (same : dst ≡ q). other (sym same)))))

  abbrev Leaves : Option ℕ → Type 0
  Leaves weak = Advance k s r id hist x at e weak r.account.live

  owes_it : IsTrue r.account.cycling.armed → Leaves (Some dst)
  owes_it is = advances_by k s r id hist x at acts.runs e (Some dst) r.account.live (owing_register past.owed d dst) (more_same r.account.live) (λ up. (underway_here k s r id hist x at acts.runs up).young) (inr is)
      other_domain owes_own owes_target

  -- it owes nothing, as what it has read is marked, or is no block
  owes_none : (IsTrue r.account.cycling.armed → (l : Label) → v ≡ Block l → IsTrue (marks.marked l)) → Leaves None
  owes_none marked = advances_by k s r id hist x at acts.runs e None r.account.live past.owed (more_same r.account.live) (λ up. (underway_here k s r id hist x at acts.runs up).young) (inl refl)
      (λ j q other. refl) (owes_nothing k s r id hist x at acts.runs acts.paid)
      (λ is. let owed = owes_target is in
      beside_law.pays (record past { held = owed.0; overwritten = owed.1; owed = owing_register past.owed d dst }) marks (next now e) owed.2 past.owed
      (λ j q free. dite (ℕ_discrete j d)
      (λ (same : j ≡ d). dite (ℕ_discrete q dst)
      (λ (target : q ≡ dst). inr (λ l holds. marked is l (sym gets ∙ (ap (λ (i : ℕ). register (next now e) i dst) (sym same) ∙ (ap (register (next now e) j) (sym target) ∙ holds)))))
      (λ (other : q ≢ dst). inl (ap (λ (i : ℕ). owing_register past.owed d dst i q) same ∙ (other_register q other ∙ (ap (λ (i : ℕ). past.owed i q) (sym same) ∙ free)))))
      (λ (other : j ≢ d). inl (other_domain j q other ∙ free))))

  -- a weak read leaves this register to be darkened
  pub weak_advance : (armed : Bool) → armed ≡ r.account.cycling.armed → (w : Value) → Stands r.account.live w v → Leaves (weak_on k armed dst w)
  weak_advance false off w stands = owes_none (λ is. absurd (let clash : false ≡ true = off ∙ is in cc))
  weak_advance true on (IntWord z) stands = owes_none (λ is l holds. absurd (subst (Stands r.account.live (IntWord z)) holds stands))
  weak_advance true on NothingWord stands = owes_none (λ is l holds. absurd (subst (Stands r.account.live NothingWord) holds stands))
  weak_advance true on (Ref a) stands = pick (nat_le a (k.pools * 4096)) refl where
    pick : (b : Bool) → nat_le a (k.pools * 4096) ≡ b → Leaves (cond b (Some dst) None)
    pick true low = owes_it (sym on)
    pick false high = owes_none (λ is l holds.
        let t : Stands r.account.live (Ref a) (Block l) = subst (Stands r.account.live (Ref a)) holds stands in
        subst (λ (m : Label). IsTrue (marks.marked m)) t.2 ((underway_here k s r id hist x at acts.runs is).young a t.0 t.1 (above a (k.pools * 4096) high)))
