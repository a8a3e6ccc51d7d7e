-- The machine on two texts, line by line.
use Rattle.std.proofs.Common.{◌≡◌, inl, inr, ⊎_elim, zero, suc, ℤ, pos, Bool, true, false, ◌||◌, IsTrue, List, [], ◌∷◌, length, replicate, Option, Some, None, refl, ap, sym, ◌∙◌, subst, arith}
use Rattle.model_core.specs.declared.label.Label.{Label}
use Rattle.model_core.specs.declared.graph.Value.TheVariants.{Int}
use Rattle.model_core.specs.declared.state.Sizes.{Sizes}
use Rattle.model_core.specs.Graph.{has_label, same_label}
use Rattle.model_core.proofs.Graphs.GraphLemmas.{same_label-true, same_label_refl}
use Rattle.model_core.proofs.Reach.ReachLemmas.{or_cases, or_left, or_right}
use Rattle.weak_laws.specs.Tables.Structures.{Binding, datum_at}
use Rattle.weak_laws.specs.Tables.Thinning.{ThinnedBy, EmptiedBy}
use Rattle.table_text.specs.declared.version.Version.{Version}
use Rattle.table_text.specs.declared.line.TableLine.{TableLine}
use Rattle.table_text.specs.declared.machine.reply.LineReply.{LineReply}
use Rattle.table_text.specs.declared.machine.reply.LineReply.TheVariants as reply
use Rattle.table_text.specs.Machine.Machine.{TableState, Holds, IsLost, IsThere, KeepsKey, MayGo, Tallies, Effect, LineStep, MachineAnswers}
use Rattle.table_text.specs.Machine.Rows.{binding_lines, binding_replies, slot_lines, slot_replies}

abbrev first : Label
first = record { domain = 0; serial = 20 }

abbrev second : Label
second = record { domain = 0; serial = 21 }

-- nothing goes
all_stay : (P : Label → Type 0) (bs : List Binding) → ThinnedBy P bs bs
all_stay P [] = refl
all_stay P (b ∷ bs) = inl (bs, refl, all_stay P bs)

none_emptied : (P : Label → Type 0) (ks : List (Option Label)) → EmptiedBy P ks ks
none_emptied P [] = refl
none_emptied P (k ∷ ks) = (k, ks, refl, inl refl, none_emptied P ks)

stays : (s : TableState) → MayGo s s
stays s = record { registers = refl; bindings = all_stay (IsLost s) s.bindings; slots = none_emptied (IsLost s) s.slots; together = λ k there. record { datum = refl; slots = λ i at. at } }

-- a count beside which nothing goes
counts : (s : TableState) → Tallies s (reply.Counted (length s.bindings)) s
counts s = record { goes = stays s; number = length s.bindings; answers = refl; most = omega arith; least = omega arith }

-- a line before which nothing goes
plain : (v : Version) (z : Sizes) (lines : List TableLine) (l : TableLine) (s : TableState) (a : LineReply) (t : TableState) → Effect s l a t → LineStep v z lines l s a t
plain v z lines l s a t e = record { left = s; goes = stays s; does = inl e }

abbrev registers : (a b c d e : Option Label) → List (Option Label)
registers a b c d e = a ∷ b ∷ c ∷ d ∷ e ∷ []

abbrev state : List (Option Label) → List Binding → List (Option Label) → TableState
state rs bs ss = record { registers = rs; bindings = bs; slots = ss }

-- whether one of these places holds a label
abbrev is_held : List (Option Label) → Label → Bool
is_held [] k = false
is_held (None ∷ ps) k = is_held ps k
is_held (Some l ∷ ps) k = same_label l k || is_held ps k

held_test : (ps : List (Option Label)) (k : Label) → Holds ps k → IsTrue (is_held ps k)
held_test [] k (i, at) = cc
held_test (None ∷ ps) k (zero, at) = cc
held_test (None ∷ ps) k (suc i, at) = held_test ps k (i, at)
held_test (Some l ∷ ps) k (zero, at) = let is : l ≡ k = cc in or_left (same_label l k) (is_held ps k) (subst (λ x. IsTrue (same_label l x)) is (same_label_refl l))
held_test (Some l ∷ ps) k (suc i, at) = or_right (same_label l k) (is_held ps k) (held_test ps k (i, at))

unheld : (ps : List (Option Label)) (k : Label) → is_held ps k ≡ false → Holds ps k → ⊥
unheld ps k none h = let there = held_test ps k h in let clash : true ≡ false = sym there ∙ none in cc

is_first : (k : Label) → IsTrue (has_label (first ∷ []) k) → k ≡ first
is_first k h = ⊎_elim (λ same. sym (same_label-true first k same)) (λ none. absurd (let clash : false ≡ true = none in cc)) (or_cases (same_label first k) false h)

abbrev empty : List (Option Label)
empty = replicate 16 None

abbrev one : List (Option Label)
one = registers (Some first) None None None None

abbrev two : List (Option Label)
two = registers (Some first) (Some second) None None None

abbrev bound_first : ℤ → List Binding
bound_first v = (first, Int v) ∷ []

abbrev bound_both : ℤ → List Binding
bound_both v = (first, Int v) ∷ (second, Int (pos 20)) ∷ []

-- the first binding has lost nothing as the second goes
first_left : (k : Label) → IsThere (state one (bound_first (pos 11)) empty) k → KeepsKey (state one (bound_both (pos 11)) empty) (state one (bound_first (pos 11)) empty) k
first_left k (inl h) = record { datum = ap (λ (l : Label). datum_at (bound_first (pos 11)) l) (is_first k h) ∙ sym (ap (λ (l : Label). datum_at (bound_both (pos 11)) l) (is_first k h)); slots = λ i at. at }
first_left k (inr h) = absurd (unheld empty k refl h)

pub binding_row : (v : Version) (z : Sizes) → MachineAnswers v z binding_lines binding_replies
binding_row v z = record {
  states = state one [] empty ∷ state two [] empty ∷ state two (bound_first (pos 10)) empty ∷ state two (bound_both (pos 10)) empty ∷ state two (bound_both (pos 11)) empty ∷ state two (bound_both (pos 11)) empty
      ∷ state two (bound_both (pos 11)) empty ∷ state one (bound_both (pos 11)) empty ∷ state one (bound_first (pos 11)) empty ∷ state one (bound_first (pos 11)) empty ∷ state one (bound_first (pos 11)) empty
      ∷ state one [] empty ∷ state one [] empty ∷ state one [] empty ∷ [];
  runs = (
    plain v z _ _ _ _ _ (refl, (first, record { lost = unheld (replicate 5 None) first refl; unbound = refl; unset = unheld empty first refl }, refl)),
    (
      plain v z _ _ _ _ _ (refl, (second, record { lost = unheld one second refl; unbound = refl; unset = unheld empty second refl }, refl)),
      (
        plain v z _ _ _ _ _ (refl, refl, refl, record { rest = refl; bound = refl }),
        (
          plain v z _ _ _ _ _ (refl, refl, refl, record { rest = refl; bound = refl }),
          (
            plain v z _ _ _ _ _ (refl, refl, refl, record { rest = refl; bound = refl }),
            (
              plain v z _ _ _ _ _ (refl, refl),
              (
                plain v z _ _ _ _ _ (counts _),
                (
                  plain v z _ _ _ _ _ (refl, refl),
                  (
                    record {
                      left = state one (bound_first (pos 11)) empty;
                      goes = record { registers = refl; bindings = inl (_, refl, inr (unheld one second refl, refl)); slots = none_emptied _ empty; together = first_left };
                      does = inl (refl, refl, record { bindings = λ k h. (0, ap (λ (l : Label). Some (Some l)) (sym (is_first k h))); slots = λ k h. absurd (unheld empty k refl h) });
                    },
                    (
                      plain v z _ _ _ _ _ (counts _),
                      (
                        plain v z _ _ _ _ _ (refl, refl),
                        (
                          plain v z _ _ _ _ _ (refl, refl),
                          (
                            plain v z _ _ _ _ _ (refl, refl),
                            (
                              plain v z _ _ _ _ _ (refl, refl),
                              (tt),
                            ),
                          ),
                        ),
                      ),
                    ),
                  ),
                ),
              ),
            ),
          ),
        ),
      ),
    ),
  );
}

-- the slots, of which the fourth holds a key
abbrev kept : List (Option Label)
kept = None ∷ None ∷ None ∷ Some first ∷ replicate 12 None

in_slot : (k : Label) → Holds kept k → k ≡ first
in_slot k h = ⊎_elim (λ same. sym (same_label-true first k same)) (λ none. absurd (let clash : false ≡ true = none in cc)) (or_cases (same_label first k) false (held_test kept k h))

abbrev moved : List (Option Label)
moved = registers None (Some first) None None None

abbrev copied : List (Option Label)
copied = registers (Some first) (Some first) None None None

abbrev twice : List (Option Label)
twice = registers None (Some first) None (Some first) None

abbrev again : List (Option Label)
again = registers None None None (Some first) None

pub slot_row : (v : Version) (z : Sizes) → MachineAnswers v z slot_lines slot_replies
slot_row v z = record {
  states = state one [] empty ∷ state one [] kept ∷ state copied [] kept ∷ state moved [] kept ∷ state moved [] kept ∷ state twice [] kept ∷ state again [] kept ∷ state (replicate 5 None) [] kept ∷ state (replicate 5 None) [] empty
      ∷ state (replicate 5 None) [] empty ∷ [];
  runs = (
    plain v z _ _ _ _ _ (refl, (first, record { lost = unheld (replicate 5 None) first refl; unbound = refl; unset = unheld empty first refl }, refl)),
    (
      plain v z _ _ _ _ _ (refl, refl),
      (
        plain v z _ _ _ _ _ (refl, refl),
        (
          plain v z _ _ _ _ _ (refl, refl),
          (
            plain v z _ _ _ _ _ (refl, refl, record { bindings = λ k h. absurd (let clash : false ≡ true = h in cc); slots = λ k h. (1, ap (λ (l : Label). Some (Some l)) (sym (in_slot k h))) }),
            (
              plain v z _ _ _ _ _ (refl, refl),
              (
                plain v z _ _ _ _ _ (refl, refl),
                (
                  plain v z _ _ _ _ _ (refl, refl),
                  (
                    record {
                      left = state (replicate 5 None) [] empty;
                      goes = record { registers = refl; bindings = refl; slots = (None, _, refl, inl refl, (None, _, refl, inl refl, (None, _, refl, inl refl, (None, _, refl, inr (refl, (first, refl, unheld (replicate 5 None) first refl)), none_emptied _ (replicate 12 None))))); together = λ k there. ⊎_elim (λ h. let clash : false ≡ true = h in cc) (λ h. absurd (unheld empty k refl h)) there };
                      does = inl (refl, refl, record { bindings = λ k h. absurd (let clash : false ≡ true = h in cc); slots = λ k h. absurd (unheld empty k refl h) });
                    },
                    (
                      plain v z _ _ _ _ _ (refl, refl),
                      (tt),
                    ),
                  ),
                ),
              ),
            ),
          ),
        ),
      ),
    ),
  );
}
