-- One command by which a search walks, where nobody else has made an entry.
use Rattle.std.proofs.Common.{◌≡◌, ◌≢◌, ◌∙◌, ℕ, ◌<◌, ◌≤◌, Bool, true, false, ◌&&◌, ◌||◌, eqb, eq-eqb, IsTrue, List, [], ◌∷◌, ◌++◌, length, set, get_or, append_assoc, not, refl, ap, sym, subst, Some, arith}
use Rattle.std.specs.List.{list_all}
use Rattle.std.proofs.lemmas.List.{append_cancel_left}
use Rattle.std.proofs.lemmas.List.Folds.{list_all-append}
use Rattle.model_core.specs.declared.command.Command as model
use Rattle.model_core.specs.declared.entry.Entry.{Entry}
use Rattle.model_core.specs.declared.entry.Entry.TheVariants.{Command, End, Ran, Cut, Queue, Seal, Wipe, Last, Collected, Done}
use Rattle.model_core.specs.declared.reply.Reply.{Reply}
use Rattle.model_core.specs.declared.reply.Applied.{Applied}
use Rattle.model_core.specs.declared.reply.Applied.TheVariants.{Replied}
use Rattle.model_core.specs.declared.state.Sizes.{Sizes}
use Rattle.model_core.specs.declared.state.State.{State}
use Rattle.model_core.specs.Domains.{IsWithinLimits, domain_at, opening}
use Rattle.model_core.specs.Entries.{next, reply, Allowed}
use Rattle.model_core.specs.Fronts.{Answers, AreCalls, NoneOf, is_call, is_full_major}
use Rattle.model_core.specs.History.{state_after, LegalFrom, is_entry_of, IsPrefix}
use Rattle.model_core.proofs.Commands.FrameLemmas.{inside_running}
use Rattle.model_core.proofs.Histories.FrontLemmas.{none_cons}
use Rattle.model_core.proofs.Histories.HistoryLemmas.{state_after-push}
use Rattle.model_core.proofs.Histories.ShapeAfterLemmas.{shaped-history}
use Rattle.model_core.proofs.Reach.ReachLemmas.{and_left, and_right, and_both, not_false, or_left, or_right}
use Rattle.model_laws.specs.Reach.Walks.{is_walk, is_others, is_walk_of, Walked, Walks, state_of, WalksOn}

-- who makes an entry by which domain d walks is domain d
walk_is_own : (d : ℕ) (e : Entry) → IsTrue (is_walk_of d e) → is_entry_of d e ≡ true
walk_is_own d (Command k c false) is = and_left (eqb k d) (is_walk c) is
walk_is_own d (Command k c true) is = let clash : false ≡ true = is in cc
walk_is_own d (End k) is = let clash : false ≡ true = is in cc
walk_is_own d (Ran k) is = let clash : false ≡ true = is in cc
walk_is_own d Cut is = let clash : false ≡ true = is in cc
walk_is_own d (Queue k places) is = let clash : false ≡ true = is in cc
walk_is_own d Seal is = let clash : false ≡ true = is in cc
walk_is_own d (Wipe l keys) is = let clash : false ≡ true = is in cc
walk_is_own d (Last k place) is = let clash : false ≡ true = is in cc
walk_is_own d Collected is = let clash : false ≡ true = is in cc
walk_is_own d Done is = let clash : false ≡ true = is in cc

-- so what others made is nothing
nobody_else : (d : ℕ) (h : List Entry) → IsTrue (list_all (is_walk_of d) h) → NoneOf d h → h ≡ []
nobody_else d [] walks none = refl
nobody_else d (e ∷ h) walks none =
    let own : is_entry_of d e ≡ true = walk_is_own d e (and_left (is_walk_of d e) (list_all (is_walk_of d) h) walks) in
    let other : is_entry_of d e ≡ false = (none_cons d e h none).0 in cc

all_left : (d : ℕ) (a b : List Entry) → IsTrue (list_all (is_walk_of d) (a ++ b)) → IsTrue (list_all (is_walk_of d) a)
all_left d a b all = and_left (list_all (is_walk_of d) a) (list_all (is_walk_of d) b) (sym (list_all-append (is_walk_of d) a b) ∙ all)

all_right : (d : ℕ) (a b : List Entry) → IsTrue (list_all (is_walk_of d) (a ++ b)) → IsTrue (list_all (is_walk_of d) b)
all_right d a b all = and_right (list_all (is_walk_of d) a) (list_all (is_walk_of d) b) (sym (list_all-append (is_walk_of d) a b) ∙ all)

-- a front that has grown so from the first to the last has grown so to any front between, and from there
pub walked_earlier : (d : ℕ) (first mid last : List Entry) → IsPrefix first mid → IsPrefix mid last → Walked d first last → Walked d first mid
walked_earlier d first mid last a b w =
    let parts : w.rest ≡ a.rest ++ b.rest = append_cancel_left first w.rest (a.rest ++ b.rest) (sym w.appends ∙ (b.appends ∙ (ap (λ (h : List Entry). h ++ b.rest) a.appends ∙ append_assoc first a.rest b.rest))) in
    record { rest = a.rest; appends = a.appends; walks = all_left d a.rest b.rest (subst (λ (h : List Entry). IsTrue (list_all (is_walk_of d) h)) parts w.walks) }

pub walked_later : (d : ℕ) (first mid last : List Entry) → IsPrefix first mid → IsPrefix mid last → Walked d first last → Walked d mid last
walked_later d first mid last a b w =
    let parts : w.rest ≡ a.rest ++ b.rest = append_cancel_left first w.rest (a.rest ++ b.rest) (sym w.appends ∙ (b.appends ∙ (ap (λ (h : List Entry). h ++ b.rest) a.appends ∙ append_assoc first a.rest b.rest))) in
    record { rest = b.rest; appends = b.appends; walks = all_right d a.rest b.rest (subst (λ (h : List Entry). IsTrue (list_all (is_walk_of d) h)) parts w.walks) }

append_nothing : (h : List Entry) → h ++ [] ≡ h
append_nothing [] = refl
append_nothing (e ∷ h) = ap (λ (k : List Entry). e ∷ k) (append_nothing h)

pub prefix_same : (h : List Entry) → IsPrefix h h
prefix_same h = record { rest = []; appends = sym (append_nothing h) }

pub prefix_trans : (a b c : List Entry) → IsPrefix a b → IsPrefix b c → IsPrefix a c
prefix_trans a b c p q = record { rest = p.rest ++ q.rest; appends = q.appends ∙ (ap (λ (h : List Entry). h ++ q.rest) p.appends ∙ append_assoc a p.rest q.rest) }

-- the last entry of a legal history is allowed
last_allowed : (s : State) (h : List Entry) (e : Entry) → LegalFrom s (h ++ e ∷ []) → Allowed (state_after s h) e
last_allowed s [] e legal = legal.0
last_allowed s (x ∷ h) e legal = last_allowed (next s x) h e legal.1

-- a command that was answered, where the front has grown by such commands alone: it stands in the state before
pub record Stepped (z : Sizes) (d : ℕ) (old new : List Entry) (c : model.Command) (r : Reply) : Type 0 where
  pub next_is : state_of z new ≡ next (state_of z old) (Command d c false)
  pub reply_is : reply (state_of z old) (Command d c false) ≡ Replied r
  pub inside : d < length (state_of z old).domains
  pub wide : length (domain_at (state_of z old) d).registers ≡ 16

pub answers_prefix : (z : Sizes) (d : ℕ) (old new : List Entry) (e : Entry) (r : Applied) → Answers z d old new e r → IsPrefix old new
answers_prefix z d old new e r a = record { rest = a.between ++ e ∷ []; appends = a.appends ∙ append_assoc old a.between (e ∷ []) }

pub stepped : (z : Sizes) (d : ℕ) (old new : List Entry) (c : model.Command) (r : Reply) → IsWithinLimits z → Answers z d old new (Command d c false) (Replied r) → Walked d old new → Stepped z d old new c r
stepped z d old new c r limits a w =
    let e : Entry = Command d c false in
    let parts : w.rest ≡ a.between ++ e ∷ [] = append_cancel_left old w.rest (a.between ++ e ∷ []) (sym w.appends ∙ (a.appends ∙ append_assoc old a.between (e ∷ []))) in
    let none : a.between ≡ [] = nobody_else d a.between (all_left d a.between (e ∷ []) (subst (λ (h : List Entry). IsTrue (list_all (is_walk_of d) h)) parts w.walks)) a.others in
    let same : old ++ a.between ≡ old = ap (λ (h : List Entry). old ++ h) none ∙ append_nothing old in
    let inside : d < length (state_of z old).domains = inside_running (state_of z old).domains d (subst (λ (h : List Entry). (domain_at (state_of z h) d).ended ≡ false) same (last_allowed (opening z) (old ++ a.between) e (subst (LegalFrom (opening z)) a.appends a.legal)).running) in
    record {
      next_is = ap (state_of z) a.appends ∙ (ap (λ (h : List Entry). state_of z (h ++ e ∷ [])) same ∙ state_after-push (opening z) old e);
      reply_is = ap (λ (h : List Entry). reply (state_of z h) e) (sym same) ∙ a.replies;
      inside = inside;
      wide = (shaped-history z old limits).register_count d inside;
    }

pub walks_prefix : (d : ℕ) (a b : List Entry) → Walks d a b → IsPrefix a b
walks_prefix d a b w = record { rest = w.rest; appends = w.appends }

pub walks_same : (d : ℕ) (h : List Entry) → Walks d h h
walks_same d h = record { rest = []; appends = sym (append_nothing h); each = refl }

pub walks_trans : (d : ℕ) (a b c : List Entry) → Walks d a b → Walks d b c → Walks d a c
walks_trans d a b c p q = record {
  rest = p.rest ++ q.rest;
  appends = q.appends ∙ (ap (λ (h : List Entry). h ++ q.rest) p.appends ∙ append_assoc a p.rest q.rest);
  each = list_all-append (λ e. is_walk_of d e || is_others d e) p.rest q.rest ∙ and_both (list_all (λ e. is_walk_of d e || is_others d e) p.rest) (list_all (λ e. is_walk_of d e || is_others d e) q.rest) p.each q.each;
}

-- likewise of one that has another name for its domain
pub walks_at : (d k : ℕ) (a b : List Entry) → k ≡ d → Walks k a b → Walks d a b
walks_at d k a b same w = subst (λ (n : ℕ). Walks n a b) same w

others_walk : (d : ℕ) (h : List Entry) → NoneOf d h → AreCalls h → IsTrue (list_all (λ e. is_walk_of d e || is_others d e) h)
others_walk d [] none calls = refl
others_walk d (e ∷ h) none calls =
    let parts = none_cons d e h none in
    and_both (is_walk_of d e || is_others d e) (list_all (λ x. is_walk_of d x || is_others d x) h)
    (or_right (is_walk_of d e) (is_others d e) (and_both (is_call e) (not (is_entry_of d e)) (and_left (is_call e) (list_all is_call h) calls) (not_false (is_entry_of d e) parts.0)))
    (others_walk d h parts.1 (and_right (is_call e) (list_all is_call h) calls))

pub walks_on : {M H : Type 0} {of : M → H} {z : M → Sizes} {d : M → ℕ} {front : M → List Entry} {a b c : M} → WalksOn of z d front a b → WalksOn of z d front b c → WalksOn of z d front a c
walks_on {d = d} {front = front} {a = a} {b = b} {c = c} x y = record {
  home = y.home ∙ x.home;
  sizes = y.sizes ∙ x.sizes;
  number = y.number ∙ x.number;
  walks = walks_trans (d a) (front a) (front b) (front c) x.walks (walks_at (d a) (d b) (front b) (front c) x.number y.walks);
}

-- a call that makes such a command
pub walks_once : (z : Sizes) (d : ℕ) (old new : List Entry) (c : model.Command) (a : Applied) → IsTrue (is_walk c) → is_full_major (Command d c false) ≡ false → Answers z d old new (Command d c false) a → Walks d old new
walks_once z d old new c a walk common x =
    let e : Entry = Command d c false in record {
      rest = x.between ++ e ∷ [];
      appends = x.appends ∙ append_assoc old x.between (e ∷ []);
      each = list_all-append (λ y. is_walk_of d y || is_others d y) x.between (e ∷ [])
          ∙ and_both (list_all (λ y. is_walk_of d y || is_others d y) x.between) (list_all (λ y. is_walk_of d y || is_others d y) (e ∷ []))
          (others_walk d x.between x.others (x.calls common))
          (and_both (is_walk_of d e || is_others d e) true (or_left (is_walk_of d e) (is_others d e) (and_both (eqb d d) (is_walk c) (eq-eqb d d refl) walk)) refl);
    }
