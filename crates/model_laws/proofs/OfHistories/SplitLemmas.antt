-- Histories that are cut in two, and labels in lists of lists.
use Rattle.std.proofs.Common.{◌≡◌, ℕ, zero, suc, IsTrue, List, [], ◌∷◌, ◌++◌, map, flat_map, filter_map, slice_get, get_or, unwrap_or, Option, Some, None, ap, sym, ◌∙◌, subst}
use Rattle.std.specs.List.{cons_option}
use Rattle.model_core.specs.declared.label.Label.{Label}
use Rattle.model_core.specs.declared.entry.Entry.{Entry}
use Rattle.model_core.specs.declared.graph.Value.{Value}
use Rattle.model_core.specs.declared.graph.Value.TheVariants.{Block, Nothing}
use Rattle.model_core.specs.declared.state.DomainState.{DomainState}
use Rattle.model_core.specs.declared.state.State.{State}
use Rattle.model_core.specs.Graph.{same_label, has_label, label_of}
use Rattle.model_core.specs.Domains.{no_domain}
use Rattle.model_core.specs.Entries.{next}
use Rattle.model_core.specs.History.{state_after, LegalFrom}
use Rattle.model_core.proofs.Graphs.GraphLemmas.{same_label_refl}
use Rattle.model_core.proofs.Reach.ReachLemmas.{or_left, or_right, has-append_left, has-append_right}

-- the parts of a legal history are legal
pub legal_first : (s : State) (h k : List Entry) → LegalFrom s (h ++ k) → LegalFrom s h
legal_first s [] k legal = tt
legal_first s (e ∷ h) k legal = (legal.0, legal_first (next s e) h k legal.1)

pub legal_rest : (s : State) (h k : List Entry) → LegalFrom s (h ++ k) → LegalFrom (state_after s h) k
legal_rest s [] k legal = legal
legal_rest s (e ∷ h) k legal = legal_rest (next s e) h k legal.1

-- a label that an element of a list names
pub has_cons_option : (o : Option Label) (ls : List Label) (l : Label) → IsTrue (has_label ls l) → IsTrue (has_label (cons_option o ls) l)
has_cons_option None ls l h = h
has_cons_option (Some k) ls l h = or_right (same_label k l) (has_label ls l) h

pub has_first : (o : Option Label) (ls : List Label) (l : Label) → o ≡ Some l → IsTrue (has_label (cons_option o ls) l)
has_first o ls l e = subst (λ (x : Option Label). IsTrue (has_label (cons_option x ls) l)) (sym e) (or_left (same_label l l) (has_label ls l) (same_label_refl l))

pub get_has : {A : Type 0} (f : A → Option Label) (xs : List A) (p : ℕ) (x : A) (l : Label) → slice_get xs p ≡ Some x → f x ≡ Some l → IsTrue (has_label (filter_map f xs) l)
get_has f [] p x l e names = cc
get_has f (y ∷ xs) zero x l e names = has_first (f y) (filter_map f xs) l (let same : y ≡ x = cc in ap f same ∙ names)
get_has f (y ∷ xs) (suc p) x l e names = has_cons_option (f y) (filter_map f xs) l (get_has f xs p x l e names)

pub mapped_has : {A : Type 0} (f : A → Label) (xs : List A) (p : ℕ) (x : A) → slice_get xs p ≡ Some x → IsTrue (has_label (map f xs) (f x))
mapped_has f [] p x e = cc
mapped_has f (y ∷ xs) zero x e =
    let same : y ≡ x = cc in
    subst (λ z. IsTrue (has_label (map f (z ∷ xs)) (f x))) (sym same) (or_left (same_label (f x) (f x)) (has_label (map f xs) (f x)) (same_label_refl (f x)))
mapped_has f (y ∷ xs) (suc p) x e = or_right (same_label (f y) (f x)) (has_label (map f xs) (f x)) (mapped_has f xs p x e)

pub register_has : (xs : List Value) (r : ℕ) (l : Label) → get_or xs r Nothing ≡ Block l → IsTrue (has_label (filter_map label_of xs) l)
register_has [] r l e = cc
register_has (x ∷ xs) zero l e = has_first (label_of x) (filter_map label_of xs) l (ap label_of e)
register_has (x ∷ xs) (suc r) l e = has_cons_option (label_of x) (filter_map label_of xs) l (register_has xs r l e)

-- and one that a domain names
pub domain_has : (f : DomainState → List Label) → f no_domain ≡ [] → (xs : List DomainState) (d : ℕ) (l : Label) → IsTrue (has_label (f (get_or xs d no_domain)) l) → IsTrue (has_label (flat_map f xs) l)
domain_has f none [] d l h = absurd (let clash : IsTrue (has_label [] l) = subst (λ z. IsTrue (has_label z l)) none h in cc)
domain_has f none (x ∷ xs) zero l h = has-append_left (f x) (flat_map f xs) l h
domain_has f none (x ∷ xs) (suc d) l h = has-append_right (f x) (flat_map f xs) l (domain_has f none xs d l h)

-- a value that a list holds
pub value_has : (none : Value) → ((l : Label) → none ≡ Block l → ⊥) → (xs : List Value) (i : ℕ) (l : Label) → unwrap_or (slice_get xs i) none ≡ Block l → IsTrue (has_label (filter_map label_of xs) l)
value_has none never [] i l e = absurd (never l e)
value_has none never (x ∷ xs) zero l e = has_first (label_of x) (filter_map label_of xs) l (ap label_of e)
value_has none never (x ∷ xs) (suc i) l e = has_cons_option (label_of x) (filter_map label_of xs) l (value_has none never xs i l e)
