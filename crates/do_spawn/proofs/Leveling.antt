-- The domain that made the hidden block meets all others: what stands in its front is the prelude, and nothing else.
use Rattle.std.proofs.Common.{◌≡◌, ◌≢◌, ◌∙◌, ◌++◌, ◌∷◌, ◌+◌, ◌-◌, ◌≤◌, ◌<◌, ◌&&◌, ℕ, zero, suc, Bool, true, false, true≢false, List, [], Some, append_assoc, ap, arith, drop, eqb-true, get_or, length, not, refl, replicate, slice_get, sym, subst}
use Rattle.std.specs.List.{list_all}
use Rattle.std.proofs.Math.Seq.{drop-append_seam}
use Rattle.std.proofs.lemmas.List.Folds.{list_all-append}
use mathlib.Core.Logic.{dite}
use native.Mathlib.Decide.{ℕ_discrete, dec_le}
use Rattle.model_core.specs.declared.entry.Entry.{Entry}
use Rattle.model_core.specs.declared.entry.Entry.TheVariants.{Command as CommandOf, End, Ran, Cut, Queue, Seal, Wipe, Last, Collected, Done}
use Rattle.model_core.specs.declared.state.State.{State}
use Rattle.model_core.specs.Domains.{domain_at, no_domain, opening, opening_domain}
use Rattle.model_core.specs.Entries.{Allowed, next}
use Rattle.model_core.specs.Fronts.{NoneOf, is_call}
use Rattle.model_core.specs.History.{IsPrefix, Legal, LegalFrom, is_entry_of}
use Rattle.model_core.proofs.Commands.FrameLemmas.{keeps_next}
use Rattle.model_core.proofs.Graphs.GraphLemmas.{and_parts}
use Rattle.heap_rule.specs.Limits.{sizes_in}
use Rattle.heap_rule.specs.Token.{SharedHeap, Token}
use Rattle.model_traces.specs.Spawns.Hidden.{prelude}
use Rattle.do_spawn.specs.Opening.{Began, Grew, Has, IsOpened, MetAt, MetUpto, clearing, made_by, making, takings}
use Rattle.do_spawn.proofs.Interleaved.{has_all, made_append, made_none, taken_once}
use Rattle.do_spawn.proofs.Ended.{none_of_ended, none_there}
use Rattle.do_spawn.proofs.Handing.{began_seeing, get_within, grew_count, saw, set_else, set_is}

-- a front that grew twice
all_both : (p : Entry → Bool) (xs ys : List Entry) → list_all p xs ≡ true → list_all p ys ≡ true → list_all p (xs ++ ys) ≡ true
all_both p xs ys a b = list_all-append p xs ys ∙ (λ i. a i && b i)

grew_twice : (d : ℕ) (a b c : List Entry) → Grew d a b → Grew d b c → Grew d a c
grew_twice d a b c f g = record {
  rest = f.rest ++ g.rest;
  appends = g.appends ∙ (ap (λ (h : List Entry). h ++ g.rest) f.appends ∙ append_assoc a f.rest g.rest);
  others = all_both (λ e. not (is_entry_of d e)) f.rest g.rest f.others g.others;
  calls = all_both is_call f.rest g.rest f.calls g.calls;
}

-- a part of what came behind
behind_part : (d : ℕ) (front part whole tail : List Entry) → IsPrefix front part → whole ≡ part ++ tail → Grew d front whole → NoneOf d tail
behind_part d front part whole tail p goes g =
    let two : whole ≡ front ++ (p.rest ++ tail) = goes ∙ (ap (λ (h : List Entry). h ++ tail) p.appends ∙ append_assoc front p.rest tail) in
    let same : g.rest ≡ p.rest ++ tail = sym (ap (drop (length front)) g.appends ∙ drop-append_seam front g.rest) ∙ (ap (drop (length front)) two ∙ drop-append_seam front (p.rest ++ tail)) in
    (and_parts (list_all (λ e. not (is_entry_of d e)) p.rest) (list_all (λ e. not (is_entry_of d e)) tail) (sym (list_all-append (λ e. not (is_entry_of d e)) p.rest tail) ∙ subst (NoneOf d) same g.others)).1

-- one of the others more was met
pub met_next : (h : SharedHeap) (part : List Entry) (first new_first : Token) (others new_others : List Token) (at : ℕ) → MetUpto h part first others at → MetAt h first new_first others new_others at → MetUpto h part new_first new_others (at + 1)
met_next h part first new_first others new_others at u m =
    let history : List Entry = m.met.history in
    let w = u.waits at m.other (λ less. omega (arith, less)) m.was in
    let began : Began h 0 new_first = subst (Began h 0) (sym m.met.first_is) (began_seeing h 0 first history u.began m.met.first m.met.legal) in
    let other : Began h (at + 1) m.other_now = subst (Began h (at + 1)) (sym m.met.second_is) (began_seeing h (at + 1) m.other history w.0 m.met.second m.met.legal) in
    let mine : Grew 0 part history = grew_twice 0 part first.view.seen.front history u.grew (saw history first.view 0 u.began.keeps.number m.met.first (m.met.first.calls u.began.runs.acts.runs)) in
    let its : Grew (at + 1) m.other.view.seen.front history = saw history m.other.view (at + 1) w.0.keeps.number m.met.second (m.met.second.calls w.0.runs.acts.runs) in
    let none : NoneOf (at + 1) mine.rest = behind_part (at + 1) m.other.view.seen.front part history mine.rest w.2 mine.appends its in
    let first_front : new_first.view.seen.front ≡ history = ap (λ (t : Token). t.view.seen.front) m.met.first_is in
    let other_front : m.other_now.view.seen.front ≡ history = ap (λ (t : Token). t.view.seen.front) m.met.second_is in
    let few : made_by (at + 1) part ≤ 1 =
    (let all : made_by (at + 1) history ≡ 1 = grew_count (at + 1) m.other.view.seen.front history its ∙ w.1 in
    let both : made_by (at + 1) history ≡ made_by (at + 1) part + made_by (at + 1) mine.rest = ap (made_by (at + 1)) mine.appends ∙ made_append (at + 1) part mine.rest in
    let a : ℕ = made_by (at + 1) history in let b : ℕ = made_by (at + 1) part in let c : ℕ = made_by (at + 1) mine.rest in let one : a ≡ 1 = all in let sum : a ≡ b + c = both in let e : b ≤ 1 = omega arith in e) in
    let now : Began h (at + 1) m.other_now × Grew (at + 1) part m.other_now.view.seen.front × (made_by (at + 1) part ≤ 1) =
    (other, subst (Grew (at + 1) part) (sym other_front) (record { rest = mine.rest; appends = mine.appends; others = none; calls = mine.calls }), few) in
    record {
      began = began;
      grew = subst (Grew 0 part) (sym first_front) mine;
      done = λ e t before there. dite (ℕ_discrete e at)
          (λ (same : e ≡ at). subst (λ (n : ℕ). Began h (n + 1) t × Grew (n + 1) part t.view.seen.front × (made_by (n + 1) part ≤ 1)) (sym same)
          (subst (λ (v : Token). Began h (at + 1) v × Grew (at + 1) part v.view.seen.front × (made_by (at + 1) part ≤ 1))
          (set_is others at m.other m.other_now t m.was (subst (λ (xs : List Token). slice_get xs at ≡ Some t) m.others (subst (λ (n : ℕ). slice_get new_others n ≡ Some t) same there))) now))
          (λ (away : e ≢ at). u.done e t (omega (arith, before, away)) (sym (set_else others at e m.other_now away) ∙ subst (λ (xs : List Token). slice_get xs e ≡ Some t) m.others there));
      waits = λ e t behind there.
          let away : e ≢ at = λ same. behind (omega (arith, same)) in
          u.waits e t (λ less. behind (omega (arith, less))) (sym (set_else others at e m.other_now away) ∙ subst (λ (xs : List Token). slice_get xs e ≡ Some t) m.others there);
    }

-- it has met all
there_is : (xs : List Token) (i : ℕ) → i < length xs → (t : Token) × (slice_get xs i ≡ Some t)
there_is [] i within = absurd (omega (arith, within))
there_is (x ∷ xs) zero within = (x, refl)
there_is (x ∷ xs) (suc i) within = there_is xs i (omega (arith, within))

module _ (h : SharedHeap) (part : List Entry) (first : Token) (others : List Token) (u : MetUpto h part first others (length others)) (count : length others + 1 ≡ h.config.domains)
    (has : Has ((making ++ takings (length others)) ++ clearing) part) (mine : made_by 0 part ≡ 5) (legal : Legal (sizes_in h.config) part) where
  abbrev whole : List Entry
  whole = (making ++ takings (length others)) ++ clearing

  counts : (d : ℕ) → made_by d whole ≡ made_by d making + made_by d (takings (length others)) + made_by d clearing
  counts d = made_append d (making ++ takings (length others)) clearing ∙ ap (λ (n : ℕ). n + made_by d clearing) (made_append d making (takings (length others)))

  few : (d : ℕ) → made_by d part ≤ made_by d whole
  few zero =
      let m : made_by 0 making ≡ 2 = refl in let c : made_by 0 clearing ≡ 3 = refl in
      let a : ℕ = made_by 0 part in let b : ℕ = made_by 0 whole in let x : ℕ = made_by 0 making in let y : ℕ = made_by 0 (takings (length others)) in let w : ℕ = made_by 0 clearing in
      let sum : b ≡ x + y + w = counts 0 in let five : a ≡ 5 = mine in let two : x ≡ 2 = m in let three : w ≡ 3 = c in let e : a ≤ b = omega arith in e
  few (suc d) = dite (dec_le (length others) d)
      (λ (above : length others ≤ d).
      let none : made_by (suc d) part ≡ 0 = made_none (suc d) part (none_of_ended (opening (sizes_in h.config)) part (suc d) (none_there h.config.domains (suc d) (let n : ℕ = length others in let k : ℕ = h.config.domains in let is : n + 1 ≡ k = count in let up : n ≤ d = above in omega arith)) legal) in
      (let a : ℕ = made_by (suc d) part in let b : ℕ = made_by (suc d) whole in let is : a ≡ 0 = none in let e : a ≤ b = omega arith in e))
      (λ (inside : length others ≤ d → ⊥).
      let below : d < length others = (let n : ℕ = length others in let up : n ≤ d → ⊥ = inside in let e : d < n = omega arith in e) in
      let t = there_is others d below in
      let one : made_by (d + 1) part ≤ 1 = (u.done d t.0 below t.1).2 in
      let more : 1 ≤ made_by (suc d) (takings (length others)) = taken_once (length others) (suc d) (omega arith) (let n : ℕ = length others in let low : d < n = below in omega arith) in
      let same : made_by (d + 1) part ≡ made_by (suc d) part = ap (λ (n : ℕ). made_by n part) (let e : d + 1 ≡ suc d = omega arith in e) in
      (let a : ℕ = made_by (suc d) part in let b : ℕ = made_by (suc d) whole in let x : ℕ = made_by (suc d) making in let y : ℕ = made_by (suc d) (takings (length others)) in let w : ℕ = made_by (suc d) clearing in let p : ℕ = made_by (d + 1) part in
      let sum : b ≡ x + y + w = counts (suc d) in let le : p ≤ 1 = one in let eq : p ≡ a = same in let ge : 1 ≤ y = more in let e : a ≤ b = omega arith in e))

  is_prelude : part ≡ prelude h.config.domains
  is_prelude = has_all whole part has few ∙ ap (λ (n : ℕ). (making ++ takings n) ++ clearing) (let n : ℕ = length others in let k : ℕ = h.config.domains in let is : n + 1 ≡ k = count in let e : n ≡ k - 1 = omega arith in e)

  opened : (d : ℕ) (t : Token) → Began h d t → Grew d part t.view.seen.front → IsOpened h d t
  opened d t b g = record { began = b; behind = g.rest; front = g.appends ∙ ap (λ (l : List Entry). l ++ g.rest) is_prelude; others = g.others; calls = g.calls }

  pub all_opened : (d : ℕ) (t : Token) → slice_get (first ∷ others) d ≡ Some t → IsOpened h d t
  all_opened zero t at = subst (IsOpened h 0) (let is : first ≡ t = cc in is) (opened 0 first u.began u.grew)
  all_opened (suc d) t at =
      let below : d < length others = get_within others d t at in
      let done = u.done d t below at in
      subst (λ (n : ℕ). IsOpened h n t) (let e : d + 1 ≡ suc d = omega arith in e) (opened (d + 1) t done.0 done.1)
