-- Entries among calls of others: where each domain made no more than these, nothing else stands there.
use Rattle.std.proofs.Common.{◌≡◌, ◌≢◌, ◌⊎◌, ◌∙◌, ◌++◌, ◌∷◌, ◌+◌, ◌≤◌, ◌<◌, ◌==◌, cond, ℕ, zero, suc, Bool, true, false, true≢false, IsTrue, List, [], add-one, ap, arith, eq-eqb, inl, inr, map, refl, sym, subst, ⊎_elim}
use Rattle.std.specs.List.{list_all, range_with_len}
use Rattle.model_core.specs.declared.entry.Entry.{Entry}
use Rattle.model_core.specs.declared.entry.Entry.TheVariants.{Command as CommandOf, End, Ran, Cut, Queue, Seal, Wipe, Last, Collected, Done}
use Rattle.model_core.specs.Fronts.{AreCalls, NoneOf, is_call}
use Rattle.model_core.specs.History.{is_entry_of}
use Rattle.model_core.proofs.Graphs.GraphLemmas.{and_parts}
use Rattle.model_core.proofs.Histories.FrontLemmas.{none_cons}
use Rattle.do_spawn.specs.Opening.{Has, made_by, taking, takings}

-- how many each made
pub made_append : (d : ℕ) (h k : List Entry) → made_by d (h ++ k) ≡ made_by d h + made_by d k
made_append d [] k = (let n : ℕ = made_by d k in let e : n ≡ 0 + n = omega arith in e)
made_append d (e ∷ h) k = let more = made_append d h k in let c : ℕ = cond (is_entry_of d e) 1 0 in let a : ℕ = made_by d (h ++ k) in let b : ℕ = made_by d h in let f : ℕ = made_by d k in let is : a ≡ b + f = more in omega arith

pub made_none : (d : ℕ) (h : List Entry) → NoneOf d h → made_by d h ≡ 0
made_none d [] none = refl
made_none d (e ∷ h) none = let parts = none_cons d e h none in (λ i. cond (parts.0 i) 1 0 + made_by d h) ∙ (let m : ℕ = made_by d h in let is : m ≡ 0 = made_none d h parts.1 in let e : 0 + m ≡ 0 = omega arith in e)

-- an entry of one domain at least
call_owner : (e : Entry) → IsTrue (is_call e) → (d : ℕ) × (is_entry_of d e ≡ true)
call_owner (CommandOf d c full) is = (d, eq-eqb d d refl)
call_owner (End d) is = (d, eq-eqb d d refl)
call_owner (Ran d) is = (d, eq-eqb d d refl)
call_owner Cut is = absurd (true≢false (sym is))
call_owner (Queue d places) is = absurd (true≢false (sym is))
call_owner Seal is = absurd (true≢false (sym is))
call_owner (Wipe l keys) is = absurd (true≢false (sym is))
call_owner (Last d place) is = absurd (true≢false (sym is))
call_owner Collected is = absurd (true≢false (sym is))
call_owner Done is = absurd (true≢false (sym is))

-- entries that stand in a list are no more than those of the list
has_count : (d : ℕ) (p h : List Entry) → Has p h → made_by d p ≤ made_by d h
has_count d p [] has = (let same : made_by d p ≡ 0 = ap (made_by d) has in omega arith)
has_count d p (e ∷ h) has = ⊎_elim
    (λ (extra : IsTrue (is_call e) × Has p h). let less = has_count d p h extra.1 in let c : ℕ = cond (is_entry_of d e) 1 0 in let a : ℕ = made_by d p in let b : ℕ = made_by d h in let is : a ≤ b = less in let all : a ≤ c + b = omega arith in all)
    (λ (here : (q : List Entry) × (p ≡ e ∷ q) × Has q h). let less = has_count d here.0 h here.2 in let same : made_by d p ≡ cond (is_entry_of d e) 1 0 + made_by d here.0 = ap (made_by d) here.1 in
    let c : ℕ = cond (is_entry_of d e) 1 0 in let a : ℕ = made_by d p in let b : ℕ = made_by d here.0 in let f : ℕ = made_by d h in let is : b ≤ f = less in let e : a ≡ c + b = same in let all : a ≤ c + f = omega arith in all)
    has

-- and where no domain made more there is nothing else
pub has_all : (p h : List Entry) → Has p h → ((d : ℕ) → made_by d h ≤ made_by d p) → h ≡ p
has_all p [] has few = sym has
has_all p (e ∷ h) has few = go has (λ q. has_all q h) where
  go : (IsTrue (is_call e) × Has p h) ⊎ ((q : List Entry) × (p ≡ e ∷ q) × Has q h) → ((q : List Entry) → Has q h → ((d : ℕ) → made_by d h ≤ made_by d q) → h ≡ q) → e ∷ h ≡ p
  go (inl extra) later =
      let owner = call_owner e extra.0 in
      let less : made_by owner.0 p ≤ made_by owner.0 h = has_count owner.0 p h extra.1 in
      let more : cond (is_entry_of owner.0 e) 1 0 + made_by owner.0 h ≤ made_by owner.0 p = few owner.0 in
      let one : cond (is_entry_of owner.0 e) 1 0 ≡ 1 = ap (λ (b : Bool). cond b 1 0) owner.1 in
      let c : ℕ = cond (is_entry_of owner.0 e) 1 0 in let a : ℕ = made_by owner.0 p in let b : ℕ = made_by owner.0 h in
      absurd (let f : c ≡ 1 = one in let g : c + b ≤ a = more in let i : a ≤ b = less in omega arith)
  go (inr here) later = ap (λ (l : List Entry). e ∷ l) (later here.0 here.2 (λ d.
      let all : cond (is_entry_of d e) 1 0 + made_by d h ≤ made_by d p = few d in
      let same : made_by d p ≡ cond (is_entry_of d e) 1 0 + made_by d here.0 = ap (made_by d) here.1 in
      let c : ℕ = cond (is_entry_of d e) 1 0 in let a : ℕ = made_by d p in let b : ℕ = made_by d h in let f : ℕ = made_by d here.0 in
      let g : c + b ≤ a = all in let i : a ≡ c + f = same in let r : b ≤ f = omega arith in r)) ∙ sym here.1

-- calls behind, and one more of these entries behind calls
pub has_more : (p h b : List Entry) → Has p h → AreCalls b → Has p (h ++ b)
has_more p [] [] has calls = has
has_more p [] (x ∷ b) has calls = let parts = and_parts (is_call x) (list_all is_call b) calls in inl (parts.0, has_more p [] b has parts.1)
has_more p (e ∷ h) b has calls = ⊎_elim
    (λ (extra : IsTrue (is_call e) × Has p h). inl (extra.0, has_more p h b extra.1 calls))
    (λ (here : (q : List Entry) × (p ≡ e ∷ q) × Has q h). inr (here.0, here.1, has_more here.0 h b here.2 calls))
    has

has_last : (e : Entry) (b : List Entry) → AreCalls b → Has (e ∷ []) (b ++ e ∷ [])
has_last e [] calls = inr ([], refl, refl)
has_last e (x ∷ b) calls = let parts = and_parts (is_call x) (list_all is_call b) calls in inl (parts.0, has_last e b parts.1)

pub has_push : (p h b : List Entry) (e : Entry) → Has p h → AreCalls b → Has (p ++ e ∷ []) (h ++ (b ++ e ∷ []))
has_push p [] b e has calls = subst (λ (q : List Entry). Has (q ++ e ∷ []) (b ++ e ∷ [])) (sym has) (has_last e b calls)
has_push p (x ∷ h) b e has calls = ⊎_elim
    (λ (extra : IsTrue (is_call x) × Has p h). inl (extra.0, has_push p h b e extra.1 calls))
    (λ (here : (q : List Entry) × (p ≡ x ∷ q) × Has q h). inr (here.0 ++ e ∷ [], ap (λ (l : List Entry). l ++ e ∷ []) here.1, has_push here.0 h b e here.2 calls))
    has

-- one domain more takes the block
range_more : (a n : ℕ) → range_with_len a (suc n) ≡ range_with_len a n ++ (a + n) ∷ []
range_more a zero = ap (λ (m : ℕ). m ∷ []) (let e : a ≡ a + 0 = omega arith in e)
range_more a (suc n) = ap (λ (l : List ℕ). a ∷ l) (range_more (a + 1) n ∙ ap (λ (m : ℕ). range_with_len (a + 1) n ++ m ∷ []) (let e : a + 1 + n ≡ a + suc n = omega arith in e))

map_push : {A B : Type 0} (f : A → B) (xs : List A) (y : A) → map f (xs ++ y ∷ []) ≡ map f xs ++ f y ∷ []
map_push f [] y = refl
map_push f (x ∷ xs) y = ap (λ l. f x ∷ l) (map_push f xs y)

pub takings_more : (n : ℕ) → takings (n + 1) ≡ takings n ++ taking (n + 1) ∷ []
takings_more n = ap takings (add-one n) ∙ (ap (map taking) (range_more 1 n) ∙ (map_push taking (range_with_len 1 n) (1 + n) ∙ ap (λ (m : ℕ). takings n ++ taking m ∷ []) (let e : 1 + n ≡ n + 1 = omega arith in e)))

-- each of them once
taken_from : (a n d : ℕ) → a ≤ d → d < a + n → 1 ≤ made_by d (map taking (range_with_len a n))
taken_from a zero d low high = absurd (omega (arith, low, high))
taken_from a (suc n) d low high = go (a == d) refl (taken_from (a + 1) n d) where
  go : (b : Bool) → (a == d) ≡ b → (a + 1 ≤ d → d < a + 1 + n → 1 ≤ made_by d (map taking (range_with_len (a + 1) n))) → 1 ≤ cond (a == d) 1 0 + made_by d (map taking (range_with_len (a + 1) n))
  go true is later = let m : ℕ = made_by d (map taking (range_with_len (a + 1) n)) in let c : ℕ = cond (a == d) 1 0 in let one : c ≡ 1 = ap (λ (b : Bool). cond b 1 0) is in let e : 1 ≤ c + m = omega arith in e
  go false is later =
      let away : a ≢ d = λ same. true≢false (sym (eq-eqb a d same) ∙ is) in
      let more = later (omega (arith, low, away)) (omega (arith, high)) in
      let m : ℕ = made_by d (map taking (range_with_len (a + 1) n)) in let c : ℕ = cond (a == d) 1 0 in let all : 1 ≤ m = more in let e : 1 ≤ c + m = omega arith in e

pub taken_once : (n d : ℕ) → 1 ≤ d → d < 1 + n → 1 ≤ made_by d (takings n)
taken_once n d low high = taken_from 1 n d low high
