-- What lines answer and leave.
use Rattle.std.proofs.Common.{◌≡◌, ⊎_elim, ℕ, zero, suc, Bool, true, false, cond, IsTrue, List, [], ◌∷◌, length, slice_get, Option, Some, None, refl, ap, sym, ◌∙◌, subst, arith}
use Rattle.std.specs.List.{list_all}
use Rattle.model_core.specs.declared.label.Label.{Label}
use Rattle.model_core.specs.declared.graph.Value.{Value}
use Rattle.model_core.specs.Graph.{has_label, same_label}
use Rattle.model_core.proofs.Graphs.GraphLemmas.{same_label-true, same_label_refl}
use Rattle.model_core.proofs.Reach.ReachLemmas.{or_cases, and_left, and_right}
use Rattle.weak_laws.specs.Tables.Structures.{Binding, keys_of, without, datum_at}
use Rattle.weak_laws.proofs.OfTables.LookupLemmas.{unbound_key}
use Rattle.table_text.specs.declared.machine.reply.LineReply.{LineReply}
use Rattle.table_text.specs.declared.machine.reply.LineReply.TheVariants as reply
use Rattle.table_text.specs.Machine.Machine.{TableState, Holds, AllGone, IsNew, Binds, WithKey, Tallies}
use Rattle.judge_outputs.specs.Texts.Keys.{is_held, is_kept}
use Rattle.judge_outputs.proofs.OfTexts.GoneLemmas.{held, unheld, stays}

-- a register that holds no key, and one that does
pub with_none : (p : Option Label) (s t : TableState) (a : LineReply) (f : Label → Type 0) → p ≡ None → a ≡ reply.BadType → t ≡ s → WithKey p s a t f
with_none p s t a f none type same = subst (λ (q : Option Label). WithKey q s a t f) (sym none) (type, same)

pub with_some : (p : Option Label) (s t : TableState) (a : LineReply) (f : Label → Type 0) (k : Label) → p ≡ Some k → f k → WithKey p s a t f
with_some p s t a f k some does = subst (λ (q : Option Label). WithKey q s a t f) (sym some) does

-- a label that is nowhere
pub is_new : (s : TableState) (k : Label) → is_held s.registers k ≡ false → datum_at s.bindings k ≡ None → is_held s.slots k ≡ false → IsNew s k
is_new s k register unbound slot = record { lost = unheld s.registers k register; unbound = unbound_key k s.bindings unbound; unset = unheld s.slots k slot }

-- a key that is bound in front of all other bindings
without_twice : (k : Label) (bs : List Binding) → without k (without k bs) ≡ without k bs
without_twice k [] = refl
without_twice k (b ∷ bs) = go (same_label b.0 k) refl (without_twice k bs)
  where
    go : (c : Bool) → same_label b.0 k ≡ c → without k (without k bs) ≡ without k bs → without k (cond c (without k bs) (b ∷ without k bs)) ≡ cond c (without k bs) (b ∷ without k bs)
    go true e rest = rest
    go false e rest = ap (λ (d : Bool). cond d (without k (without k bs)) (b ∷ without k (without k bs))) e ∙ ap (λ (l : List Binding). b ∷ l) rest

pub binds : (k : Label) (v : Value) (bs new : List Binding) → new ≡ (k, v) ∷ without k bs → Binds k v bs new
binds k v bs new is = subst (Binds k v bs) (sym is) (record {
  rest = ap (λ (d : Bool). cond d (without k (without k bs)) ((k, v) ∷ without k (without k bs))) (same_label_refl k) ∙ without_twice k bs;
  bound = ap (λ (d : Bool). cond d (Some v) (datum_at (without k bs) k)) (same_label_refl k);
})

-- a count of all bindings
pub counts : (s : TableState) (a : LineReply) (n : ℕ) → a ≡ reply.Counted n → n ≡ length s.bindings → Tallies s a s
counts s a n told is = record { goes = stays s; number = n; answers = told; most = omega (arith, is); least = omega (arith, is) }

-- registers hold all keys
bound_held : (rs : List (Option Label)) (bs : List Binding) → IsTrue (list_all (λ b. is_held rs b.0) bs) → (k : Label) → IsTrue (has_label (keys_of bs) k) → Holds rs k
bound_held rs [] all k h = absurd (let clash : false ≡ true = h in cc)
bound_held rs (b ∷ bs) all k h = ⊎_elim
    (λ same. subst (Holds rs) (same_label-true b.0 k same) (held rs b.0 (and_left (is_held rs b.0) (list_all (λ x. is_held rs x.0) bs) all)))
    (λ later. bound_held rs bs (and_right (is_held rs b.0) (list_all (λ x. is_held rs x.0) bs) all) k later)
    (or_cases (same_label b.0 k) (has_label (keys_of bs) k) h)

kept_held : (rs ps : List (Option Label)) → IsTrue (list_all (is_kept rs) ps) → (k : Label) (i : ℕ) → slice_get ps i ≡ Some (Some k) → Holds rs k
kept_held rs [] all k i at = absurd (let clash : None ≡ Some (Some k) = at in cc)
kept_held rs (None ∷ ps) all k zero at = absurd (let clash : Some None ≡ Some (Some k) = at in cc)
kept_held rs (Some l ∷ ps) all k zero at = let is : l ≡ k = cc in subst (Holds rs) is (held rs l (and_left (is_held rs l) (list_all (is_kept rs) ps) all))
kept_held rs (p ∷ ps) all k (suc i) at = kept_held rs ps (and_right (is_kept rs p) (list_all (is_kept rs) ps) all) k i at

pub all_gone : (s : TableState) → IsTrue (list_all (λ b. is_held s.registers b.0) s.bindings) → IsTrue (list_all (is_kept s.registers) s.slots) → AllGone s
all_gone s bound slots = record { bindings = bound_held s.registers s.bindings bound; slots = λ k h. kept_held s.registers s.slots slots k h.0 h.1 }
