-- A block more in the list.
use Rattle.std.proofs.Common.{◌≡◌, ◌≢◌, ◌∙◌, ℕ, ◌+◌, ◌<◌, ◌≤◌, ◌⊎◌, Bool, true, false, ◌||◌, IsTrue, List, [], ◌∷◌, ◌++◌, length, get_or, slice_get, append_assoc, length-append, refl, ap, sym, subst, inl, inr, ⊎_elim, Option, Some, None, zero, suc, arith}
use Rattle.std.specs.List.{list_any}
use Rattle.std.proofs.lemmas.List.Folds.{list_any-append}
use Rattle.std.proofs.lemmas.List.{get_or_append_left}
use Rattle.std.proofs.Math.Seq.{get_or-append_seam}
use Rattle.std.proofs.lemmas.Option.{same_Some, slice_get_cases, slice_get-get_or, slice_get_within, get_or_from_slice_get}
use Rattle.model_core.specs.declared.label.Label.{Label}
use Rattle.model_core.specs.declared.graph.Value.{Value}
use Rattle.model_core.specs.declared.graph.Value.TheVariants.{Block as BlockValue, Int as IntValue, Nothing}
use Rattle.model_core.specs.declared.reply.Reply.{Reply}
use Rattle.model_core.specs.declared.reply.Reply.TheVariants.{Done, Int, Block, BadType, BadIndex, Empty, Yes, No, Full, Live, Fin, Last}
use Rattle.model_core.specs.Commands.{shown}
use Rattle.model_core.specs.Graph.{label_of, same_label}
use mathlib.Core.Logic.{dite}
use native.Mathlib.Decide.{ℕ_discrete}
use Rattle.model_core.proofs.Graphs.GraphLemmas.{same_label_refl, same_label-true}
use Rattle.model_core.proofs.Reach.ReachLemmas.{or_left, or_right, or_cases}
use Rattle.model_laws.specs.declared.reach.seen.Seen.{Seen}
use Rattle.model_laws.specs.declared.reach.seen.Origin.{Origin}
use Rattle.model_laws.specs.declared.reach.seen.Origin.TheVariants.{Register, Field}
use Rattle.model_laws.specs.Reach.Ways.{Edges}
use Rattle.model_laws.specs.Reach.Exploring.{Adds, AllTraced, Extends, Has, IsBefore, IsOnce, IsOrdered, IsTraced, Notes, has_seen}

append_nothing : (xs : List Seen) → xs ++ [] ≡ xs
append_nothing [] = refl
append_nothing (x ∷ xs) = ap (λ (ys : List Seen). x ∷ ys) (append_nothing xs)

pub extends_same : (seen : List Seen) → Extends seen seen
extends_same seen = record { rest = []; appends = sym (append_nothing seen) }

pub extends_trans : (a b c : List Seen) → Extends a b → Extends b c → Extends a c
extends_trans a b c p q = record { rest = p.rest ++ q.rest; appends = q.appends ∙ (ap (λ (h : List Seen). h ++ q.rest) p.appends ∙ append_assoc a p.rest q.rest) }

-- what stands in a list stands in one that goes on
pub still_there : (a b : List Seen) → Extends a b → (j : ℕ) (x : Seen) → slice_get a j ≡ Some x → slice_get b j ≡ Some x
still_there a b e j x at =
    let inside : j < length a = slice_get_within a j x at in
    let n : ℕ = length a in let m : ℕ = length e.rest in let both : length (a ++ e.rest) ≡ n + m = length-append a e.rest in
    let l : ℕ = length (a ++ e.rest) in
    ap (λ (xs : List Seen). slice_get xs j) e.appends ∙ (slice_get-get_or (a ++ e.rest) j x (let h : j < n = inside in let k : l ≡ n + m = both in let r : j < l = omega arith in r) ∙ ap Some (get_or_append_left a e.rest x j inside ∙ get_or_from_slice_get a j x x at))

pub still_has : (a b : List Seen) → Extends a b → (l : Label) → Has a l → Has b l
still_has a b e l has = subst (λ (xs : List Seen). Has xs l) (sym e.appends) (subst IsTrue (sym (list_any-append (λ (x : Seen). same_label x.label l) a e.rest)) (or_left (has_seen a l) (has_seen e.rest l) has))

-- a block that stands in a list is there
pub has_there : (xs : List Seen) (j : ℕ) (x : Seen) → slice_get xs j ≡ Some x → Has xs x.label
has_there [] j x at = cc
has_there (y ∷ ys) zero x at =
    let same : y ≡ x = same_Some y x at in
    or_left (same_label y.label x.label) (has_seen ys x.label) (ap (λ (z : Seen). same_label z.label x.label) same ∙ same_label_refl x.label)
has_there (y ∷ ys) (suc j) x at = or_right (same_label y.label x.label) (has_seen ys x.label) (has_there ys j x at)

-- and what is there stands at some place
pub record Stands (xs : List Seen) (l : Label) : Type 0 where
  pub place : ℕ
  pub item : Seen
  pub at : slice_get xs place ≡ Some item
  pub label : item.label ≡ l

pub stands_there : (xs : List Seen) (l : Label) → Has xs l → Stands xs l
stands_there [] l has = let clash : false ≡ true = has in cc
stands_there (y ∷ ys) l has = ⊎_elim
    (λ (here : IsTrue (same_label y.label l)). record { place = zero; item = y; at = refl; label = same_label-true y.label l here })
    (λ (later : Has ys l). let t = stands_there ys l later in record { place = suc t.place; item = t.item; at = t.at; label = t.label })
    (or_cases (same_label y.label l) (has_seen ys l) has)

-- what stands in a list with one more
push_cases : (xs : List Seen) (x : Seen) (j : ℕ) (y : Seen) → slice_get (xs ++ x ∷ []) j ≡ Some y → (slice_get xs j ≡ Some y) ⊎ ((j ≡ length xs) × (y ≡ x))
push_cases [] x zero y at = inr (refl, sym (same_Some x y at))
push_cases [] x (suc j) y at = let clash : None ≡ Some y = at in cc
push_cases (z ∷ zs) x zero y at = inl at
push_cases (z ∷ zs) x (suc j) y at = ⊎_elim
    (λ (old : slice_get zs j ≡ Some y). inl old)
    (λ (new : (j ≡ length zs) × (y ≡ x)). inr (ap suc new.0, new.1))
    (push_cases zs x j y at)

pushed_there : (xs : List Seen) (x : Seen) → slice_get (xs ++ x ∷ []) (length xs) ≡ Some x
pushed_there [] x = refl
pushed_there (z ∷ zs) x = pushed_there zs x

module _ (old new : List Seen) (l : Label) (o : Origin) (adds : Adds old new l o) where
  abbrev x : Seen
  x = record { label = l; origin = o }

  pub adds_extends : Extends old new
  adds_extends = ⊎_elim
      (λ (kept : (new ≡ old) × Has old l). record { rest = []; appends = kept.0 ∙ sym (append_nothing old) })
      (λ (more : (new ≡ old ++ x ∷ []) × (has_seen old l ≡ false)). record { rest = x ∷ []; appends = more.0 })
      adds

  pub adds_has : Has new l
  adds_has = ⊎_elim
      (λ (kept : (new ≡ old) × Has old l). subst (λ (xs : List Seen). Has xs l) (sym kept.0) kept.1)
      (λ (more : (new ≡ old ++ x ∷ []) × (has_seen old l ≡ false)). subst (λ (xs : List Seen). Has xs l) (sym more.0) (has_there (old ++ x ∷ []) (length old) x (pushed_there old x)))
      adds

  -- each block that stands in the list stood there, or is the new one
  new_cases : (j : ℕ) (y : Seen) → slice_get new j ≡ Some y → (slice_get old j ≡ Some y) ⊎ ((j ≡ length old) × (y ≡ x) × (has_seen old l ≡ false))
  new_cases j y at = ⊎_elim
      (λ (kept : (new ≡ old) × Has old l). inl (ap (λ (xs : List Seen). slice_get xs j) (sym kept.0) ∙ at))
      (λ (more : (new ≡ old ++ x ∷ []) × (has_seen old l ≡ false)). ⊎_elim
      (λ (there : slice_get old j ≡ Some y). inl there)
      (λ (last : (j ≡ length old) × (y ≡ x)). inr (last.0, last.1, more.1))
      (push_cases old x j y (ap (λ (xs : List Seen). slice_get xs j) (sym more.0) ∙ at)))
      adds

  pub adds_ordered : IsOrdered old → IsBefore (length old) o → IsOrdered new
  adds_ordered ordered before j y at = ⊎_elim
      (λ (there : slice_get old j ≡ Some y). ordered j y there)
      (λ (last : (j ≡ length old) × (y ≡ x) × (has_seen old l ≡ false)). subst (λ (n : ℕ). IsBefore n y.origin) (sym last.0) (subst (λ (z : Seen). IsBefore (length old) z.origin) (sym last.1) before))
      (new_cases j y at)

  -- a block that stood there isn't the new one
  old_differs : (j k : ℕ) (y z : Seen) → slice_get old j ≡ Some y → (k ≡ length old) × (z ≡ x) × (has_seen old l ≡ false) → y.label ≡ z.label → ⊥
  old_differs j k y z there last same =
      let has : Has old l = subst (Has old) (same ∙ ap (λ (b : Seen). b.label) last.1) (has_there old j y there) in
      let clash : true ≡ false = sym has ∙ last.2 in cc

  pub adds_once : IsOnce old → IsOnce new
  adds_once once j k y z at_j at_k same = ⊎_elim
      (λ (there : slice_get old j ≡ Some y). ⊎_elim
      (λ (also : slice_get old k ≡ Some z). once j k y z there also same)
      (λ (last : (k ≡ length old) × (z ≡ x) × (has_seen old l ≡ false)). absurd (old_differs j k y z there last same))
      (new_cases k z at_k))
      (λ (last : (j ≡ length old) × (y ≡ x) × (has_seen old l ≡ false)). ⊎_elim
      (λ (also : slice_get old k ≡ Some z). absurd (old_differs k j z y also last (sym same)))
      (λ (both : (k ≡ length old) × (z ≡ x) × (has_seen old l ≡ false)). last.0 ∙ sym both.0)
      (new_cases k z at_k))
      (new_cases j y at_j)

  traced_still : (f : Edges) (roots : ℕ → Option Label) (m : Label) (origin : Origin) → IsTraced f roots old m origin → IsTraced f roots new m origin
  traced_still f roots m (Register r) t = t
  traced_still f roots m (Field block index) t = (t.0, still_there old new adds_extends block t.0 t.1, t.2)

  pub adds_traced : (f : Edges) (roots : ℕ → Option Label) → AllTraced f roots old → IsTraced f roots old l o → AllTraced f roots new
  adds_traced f roots traced this j y at = ⊎_elim
      (λ (there : slice_get old j ≡ Some y). traced_still f roots y.label y.origin (traced j y there))
      (λ (last : (j ≡ length old) × (y ≡ x) × (has_seen old l ≡ false)). subst (λ (z : Seen). IsTraced f roots new z.label z.origin) (sym last.1) (traced_still f roots l o this))
      (new_cases j y at)

-- a reply names a block, which is noted, or none
pub notes_cases : (old new : List Seen) (r : Reply) (o : Origin) → Notes old new r o → ((m : Label) × (r ≡ Block m) × Adds old new m o) ⊎ ((new ≡ old) × ((m : Label) → r ≢ Block m))
notes_cases old new (Block m) o notes = inl (m, refl, notes)
notes_cases old new Done o same = inr (same, λ m clash. cc)
notes_cases old new (Int n) o same = inr (same, λ m clash. cc)
notes_cases old new BadType o same = inr (same, λ m clash. cc)
notes_cases old new BadIndex o same = inr (same, λ m clash. cc)
notes_cases old new Empty o same = inr (same, λ m clash. cc)
notes_cases old new Yes o same = inr (same, λ m clash. cc)
notes_cases old new No o same = inr (same, λ m clash. cc)
notes_cases old new Full o same = inr (same, λ m clash. cc)
notes_cases old new (Live b w) o same = inr (same, λ m clash. cc)
notes_cases old new (Fin n l) o same = inr (same, λ m clash. cc)
notes_cases old new (Last n) o same = inr (same, λ m clash. cc)

pub notes_extends : (old new : List Seen) (r : Reply) (o : Origin) → Notes old new r o → Extends old new
notes_extends old new r o notes = ⊎_elim
    (λ (t : (m : Label) × (r ≡ Block m) × Adds old new m o). adds_extends old new t.0 o t.2)
    (λ (t : (new ≡ old) × ((m : Label) → r ≢ Block m)). subst (Extends old) (sym t.0) (extends_same old))
    (notes_cases old new r o notes)

pub notes_ordered : (old new : List Seen) (r : Reply) (o : Origin) → Notes old new r o → IsOrdered old → IsBefore (length old) o → IsOrdered new
notes_ordered old new r o notes ordered before = ⊎_elim
    (λ (t : (m : Label) × (r ≡ Block m) × Adds old new m o). adds_ordered old new t.0 o t.2 ordered before)
    (λ (t : (new ≡ old) × ((m : Label) → r ≢ Block m)). subst IsOrdered (sym t.0) ordered)
    (notes_cases old new r o notes)

pub notes_once : (old new : List Seen) (r : Reply) (o : Origin) → Notes old new r o → IsOnce old → IsOnce new
notes_once old new r o notes once = ⊎_elim
    (λ (t : (m : Label) × (r ≡ Block m) × Adds old new m o). adds_once old new t.0 o t.2 once)
    (λ (t : (new ≡ old) × ((m : Label) → r ≢ Block m)). subst IsOnce (sym t.0) once)
    (notes_cases old new r o notes)

-- a list that goes on is as long
pub extends_long : (old new : List Seen) → Extends old new → (at : ℕ) → at < length old → at < length new
extends_long old new e at inside =
    let n : ℕ = length old in let m : ℕ = length e.rest in let l : ℕ = length new in
    let both : l ≡ n + m = ap (λ (xs : List Seen). length xs) e.appends ∙ length-append old e.rest in
    let h : at < n = inside in omega arith

-- the block of a register is noted
pub noted_root : (f : Edges) (roots : ℕ → Option Label) (old new : List Seen) (q : ℕ) (v : Value) → roots q ≡ label_of v → Notes old new (shown v) (Register q) → AllTraced f roots old → ((r : ℕ) (m : Label) → r < q → roots r ≡ Some m → Has old m)
    → AllTraced f roots new × ((r : ℕ) (m : Label) → r < q + 1 → roots r ≡ Some m → Has new m)
noted_root f roots old new q (BlockValue l) is notes traced rooted = (
  adds_traced old new l (Register q) notes f roots traced is,
  λ r m few at. dite (ℕ_discrete r q)
      (λ same. let both : l ≡ m = same_Some l m (sym is ∙ (ap roots (sym same) ∙ at)) in subst (Has new) both (adds_has old new l (Register q) notes))
      (λ differs. still_has old new (adds_extends old new l (Register q) notes) m (rooted r m (omega arith) at)),
)
noted_root f roots old new q (IntValue n) is same traced rooted = (
  subst (AllTraced f roots) (sym same) traced,
  λ r m few at. dite (ℕ_discrete r q)
      (λ here. let clash : None ≡ Some m = sym is ∙ (ap roots (sym here) ∙ at) in cc)
      (λ differs. subst (λ (xs : List Seen). Has xs m) (sym same) (rooted r m (omega arith) at)),
)
noted_root f roots old new q Nothing is same traced rooted = (
  subst (AllTraced f roots) (sym same) traced,
  λ r m few at. dite (ℕ_discrete r q)
      (λ here. let clash : None ≡ Some m = sym is ∙ (ap roots (sym here) ∙ at) in cc)
      (λ differs. subst (λ (xs : List Seen). Has xs m) (sym same) (rooted r m (omega arith) at)),
)

-- at the start there is nothing
pub none_seen : (f : Edges) (roots : ℕ → Option Label) (seen : List Seen) → seen ≡ [] → IsOrdered seen × IsOnce seen × AllTraced f roots seen
none_seen f roots seen none = (
  λ j b at. absurd (empty j b (ap (λ (xs : List Seen). slice_get xs j) (sym none) ∙ at)),
  λ i j a b at_i at_j same. absurd (empty i a (ap (λ (xs : List Seen). slice_get xs i) (sym none) ∙ at_i)),
  λ j b at. absurd (empty j b (ap (λ (xs : List Seen). slice_get xs j) (sym none) ∙ at)),
)
  where
    empty : (j : ℕ) (b : Seen) → slice_get {X = Seen} [] j ≡ Some b → ⊥
    empty j b at = cc
