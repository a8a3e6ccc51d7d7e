-- What the clauses of registering, queueing and running finalisers refuse.
use Rattle.std.proofs.Common.{◌≡◌, ◌∙◌, ℕ, suc, ◌+◌, List, [], ◌∷◌, ◌++◌, length, remove, ap, ⊎_elim, arith}
use Rattle.heap_rule.specs.declared.config.Config.{Config}
use Rattle.heap_rule.specs.declared.view.DomainView.{DomainView}
use Rattle.heap_rule.specs.declared.view.Waiting.{Waiting}
use Rattle.do_finalisers.specs.Deciding.{Splits}
use Rattle.do_finalisers.specs.Running.{RanFirst}
use Rattle.do_finalisers.specs.declared.running.Ran.{Ran}

-- lists behind one another
pub lengths : {A : Type 0} → (l m : List A) → length (l ++ m) ≡ length l + length m
lengths [] m = let n : ℕ = length m in let e : n ≡ 0 + n = omega arith in e
lengths (x ∷ l) m =
    let a : ℕ = length (l ++ m) in
    let b : ℕ = length l in
    let n : ℕ = length m in
    let before : a ≡ b + n = lengths l m in
    let all : suc a ≡ suc b + n = omega (arith, before) in all

-- no registration is lost, and none both stays and is queued: there are as many as stay and are queued
pub none_is_lost : {A B : Type 0} → (f : A → B) (items stays : List A) (queued : List B) → Splits f items stays queued → length items ≡ length stays + length queued
none_is_lost f [] stays queued s =
    let a : length stays ≡ 0 = ap length s.0 in
    let b : length queued ≡ 0 = ap length s.1 in
    let m : ℕ = length stays in
    let n : ℕ = length queued in
    let e : 0 ≡ m + n = omega (arith, a, b) in e
none_is_lost {A} {B} f (r ∷ rs) stays queued s = ⊎_elim
    (λ (e : (rest : List A) × (stays ≡ r ∷ rest) × Splits f rs rest queued).
    let before : length rs ≡ length e.0 + length queued = none_is_lost f rs e.0 queued e.2 in
    let here : length stays ≡ suc (length e.0) = ap length e.1 in
    let m : ℕ = length stays in let n : ℕ = length queued in let a : ℕ = length rs in let b : ℕ = length e.0 in
    let all : suc a ≡ m + n = omega (arith, before, here) in all)
    (λ (e : (before : List B) × (queued ≡ before ++ f r ∷ []) × Splits f rs stays before).
    let before : length rs ≡ length stays + length e.0 = none_is_lost f rs stays e.0 e.2 in
    let here : length queued ≡ length e.0 + 1 = ap length e.1 ∙ lengths e.0 (f r ∷ []) in
    let m : ℕ = length stays in let n : ℕ = length queued in let a : ℕ = length rs in let b : ℕ = length e.0 in
    let all : suc a ≡ m + n = omega (arith, before, here) in all)
    s

-- of two registrations that are both queued the newer one comes first
pub the_newer_comes_first : {A B : Type 0} → (f : A → B) (older newer : A) (queued : List B) → Splits f (older ∷ newer ∷ []) [] queued → queued ≡ f newer ∷ f older ∷ []
the_newer_comes_first {A} {B} f older newer queued s = ⊎_elim
    (λ (e : (rest : List A) × ([] ≡ older ∷ rest) × Splits f (newer ∷ []) rest queued). let clash = e.1 in cc)
    (λ (e : (before : List B) × (queued ≡ before ++ f older ∷ []) × Splits f (newer ∷ []) [] before). e.1 ∙ ap (λ (l : List B). l ++ f older ∷ []) (second e.0 e.2))
    s
  where
    second : (l : List B) → Splits f (newer ∷ []) [] l → l ≡ f newer ∷ []
    second l t = ⊎_elim
        (λ (e : (rest : List A) × ([] ≡ newer ∷ rest) × Splits f [] rest l). let clash = e.1 in cc)
        (λ (e : (before : List B) × (l ≡ before ++ f newer ∷ []) × Splits f [] [] before). e.1 ∙ ap (λ (m : List B). m ++ f newer ∷ []) e.2.1)
        t

-- a finaliser that has run leaves the queue: the others stand in it as they stood
pub what_has_run_leaves_the_queue : (k : Config) (ran : Ran) (x y : DomainView) (first : Waiting) (rest : List Waiting) → x.own.finalisers.queue.items ≡ first ∷ rest → RanFirst k ran x y → y.own.finalisers.queue.items ≡ rest
what_has_run_leaves_the_queue k ran x y first rest waits r = ap (λ (v : DomainView). v.own.finalisers.queue.items) r.view ∙ ap (λ (l : List Waiting). remove l 0) waits
