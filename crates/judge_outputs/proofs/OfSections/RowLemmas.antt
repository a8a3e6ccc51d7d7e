-- The machine of two domains, turn by turn.
use Rattle.std.proofs.Common.{◌≡◌, inl, inr, ⊎_elim, pos, true, false, IsTrue, List, [], ◌∷◌, replicate, Option, Some, None, refl, ap, sym}
use Rattle.model_core.specs.declared.label.Label.{Label}
use Rattle.model_core.specs.declared.graph.Value.TheVariants.{Int}
use Rattle.model_core.specs.Graph.{has_label, same_label}
use Rattle.model_core.proofs.Graphs.GraphLemmas.{same_label-true}
use Rattle.model_core.proofs.Reach.ReachLemmas.{or_cases}
use Rattle.weak_laws.specs.Tables.Structures.{Binding}
use Rattle.table_text.specs.declared.line.TableLine.{TableLine}
use Rattle.table_text.specs.declared.machine.reply.LineReply.{LineReply}
use Rattle.table_text.specs.Machine.Machine.{TableState, Holds, Effect}
use Rattle.judge_outputs.specs.Sections.Machine.{SharedStep}
use Rattle.judge_outputs.specs.Sections.Rows.{shared_turns}
use Rattle.judge_outputs.specs.Sections.Turns.{TurnsAnswered}
use Rattle.judge_outputs.proofs.OfTexts.GoneLemmas.{held_test, none_emptied, stays, unheld}

abbrev first : Label
first = record { domain = 0; serial = 20 }

-- a line before which nothing goes
plain : (l : TableLine) (s : TableState) (a : LineReply) (t : TableState) → Effect s l a t → SharedStep l s a t
plain l s a t e = record { left = s; goes = stays s; does = inl e }

-- what register 1 of domain 0 holds, and register 2 of domain 1
abbrev held_by : Option Label → Option Label → List (Option Label)
held_by a b = a ∷ None ∷ None ∷ None ∷ None ∷ None ∷ b ∷ None ∷ None ∷ None ∷ []

abbrev state : Option Label → Option Label → List Binding → List (Option Label) → TableState
state a b bs ss = record { registers = held_by a b; bindings = bs; slots = ss }

abbrev bound : List Binding
bound = (first, Int (pos 10)) ∷ []

abbrev empty : List (Option Label)
empty = replicate 16 None

-- the slots, of which the fourth holds the key
abbrev kept : List (Option Label)
kept = None ∷ None ∷ None ∷ Some first ∷ replicate 12 None

is_first : (k : Label) → IsTrue (has_label (first ∷ []) k) → k ≡ first
is_first k h = ⊎_elim (λ same. sym (same_label-true first k same)) (λ none. absurd (let clash : false ≡ true = none in cc)) (or_cases (same_label first k) false h)

in_slot : (k : Label) → Holds kept k → k ≡ first
in_slot k h = ⊎_elim (λ same. sym (same_label-true first k same)) (λ none. absurd (let clash : false ≡ true = none in cc)) (or_cases (same_label first k) false (held_test kept k h))

pub shared_row : TurnsAnswered 2 shared_turns
shared_row = record {
  states = state (Some first) None [] empty ∷ state (Some first) None bound empty ∷ state (Some first) None bound kept ∷ state (Some first) (Some first) bound kept ∷ state None (Some first) bound kept
      ∷ state None (Some first) bound kept ∷ state None (Some first) bound kept ∷ state None None bound kept ∷ state None None [] empty ∷ state None None [] empty ∷ [];
  runs = (
    plain _ _ _ _ (refl, (first, record { lost = unheld (held_by None None) first refl; unbound = refl; unset = unheld empty first refl }, refl)),
    (
      plain _ _ _ _ (refl, refl, refl, record { rest = refl; bound = refl }),
      (
        plain _ _ _ _ (refl, refl),
        (
          plain _ _ _ _ (refl, refl),
          (
            plain _ _ _ _ (refl, refl),
            (
              plain _ _ _ _ (refl, refl, record { bindings = λ k h. (6, ap (λ (l : Label). Some (Some l)) (sym (is_first k h))); slots = λ k h. (6, ap (λ (l : Label). Some (Some l)) (sym (in_slot k h))) }),
              (
                plain _ _ _ _ (refl, refl),
                (
                  plain _ _ _ _ (refl, refl),
                  (
                    record {
                      left = state None None [] empty;
                      goes = record { registers = refl; bindings = inr (unheld (held_by None None) first refl, refl); slots = (None, _, refl, inl refl, (None, _, refl, inl refl, (None, _, refl, inl refl, (None, _, refl, inr (refl, (first, refl, unheld (held_by None None) first refl)), none_emptied _ (replicate 12 None))))); together = λ k there. ⊎_elim (λ h. let clash : false ≡ true = h in cc) (λ h. absurd (unheld empty k refl h)) there };
                      does = inl (refl, refl, record { bindings = λ k h. absurd (let clash : false ≡ true = h in cc); slots = λ k h. absurd (unheld empty k refl h) });
                    },
                    (
                      plain _ _ _ _ (refl, refl),
                      (tt),
                    ),
                  ),
                ),
              ),
            ),
          ),
        ),
      ),
    ),
  );
}
