-- What stands in a cache's fields while a leaf comes into them, and what the slots are then.
use Rattle.std.proofs.Common.{◌≡◌, ◌≢◌, inl, inr, ℕ, zero, suc, ◌+◌, ◌<◌, Bool, true, false, cond, List, [], ◌∷◌, ◌++◌, length, map, get_or, set, pos, Option, Some, None, refl, ap, sym, ◌∙◌, subst, arith}
use Rattle.model_core.specs.declared.label.Label.{Label}
use Rattle.model_core.specs.declared.graph.Value.{Value}
use Rattle.model_core.specs.declared.graph.Value.TheVariants.{Int, Nothing}
use Rattle.model_core.specs.Graph.{Graph}
use Rattle.model_core.proofs.Graphs.GraphLemmas.{same_label-true, same_label-false}
use Rattle.weak_laws.specs.Tables.Structures.{Binding}
use Rattle.weak_cache.specs.Uses.{SlotLeft, SlotsLeft, cached_in, datum_of, is_of, pushed, taken}
use Rattle.weak_cache.specs.Caches.{slot_of}
use Rattle.weak_cache.specs.Passes.{carried, cut_out, drawn, moved, moved_by}

pub read_moved : (n : ℕ) (x : Value) (fs : List Value) → n < length fs → get_or (moved n x fs) n Nothing ≡ get_or fs n Nothing
read_moved n x [] small = absurd (omega (arith, small))
read_moved zero x (f ∷ fs) small = refl
read_moved (suc n) x (f ∷ fs) small = read_moved n f fs (omega (arith, small))

pub store_moved : (n : ℕ) (x : Value) (fs : List Value) → n < length fs → set (moved n x fs) n (carried n x fs) ≡ moved (suc n) x fs
store_moved n x [] small = absurd (omega (arith, small))
store_moved zero x (f ∷ fs) small = refl
store_moved (suc n) x (f ∷ fs) small = ap (λ (ys : List Value). x ∷ ys) (store_moved n f fs (omega (arith, small)))

pub carried_next : (n : ℕ) (x : Value) (fs : List Value) → n < length fs → carried (suc n) x fs ≡ get_or fs n Nothing
carried_next n x [] small = absurd (omega (arith, small))
carried_next zero x (f ∷ fs) small = refl
carried_next (suc n) x (f ∷ fs) small = carried_next n f fs (omega (arith, small))

pub moved_long : (n : ℕ) (x : Value) (fs : List Value) → length (moved n x fs) ≡ length fs
moved_long zero x fs = refl
moved_long (suc n) x [] = refl
moved_long (suc n) x (f ∷ fs) = ap suc (moved_long n f fs)

pub moved_by_long : (is : Value → Bool) (x : Value) (fs : List Value) → length (moved_by is x fs) ≡ length fs
moved_by_long is x [] = refl
moved_by_long is x (f ∷ fs) = ap suc (go (is f) (moved_by_long is f fs))
  where
    go : (b : Bool) → length (moved_by is f fs) ≡ length fs → length (cond b fs (moved_by is f fs)) ≡ length fs
    go true rec = refl
    go false rec = rec

-- the first that is of the kind was met
pub moved_stop : (is : Value → Bool) (n : ℕ) (x : Value) (fs : List Value) → n < length fs → ((j : ℕ) → j < n → is (get_or fs j Nothing) ≡ false) → is (get_or fs n Nothing) ≡ true → moved (suc n) x fs ≡ moved_by is x fs
moved_stop is n x [] small none met = absurd (omega (arith, small))
moved_stop is zero x (f ∷ fs) small none met = sym (ap (λ (b : Bool). x ∷ cond b fs (moved_by is f fs)) met)
moved_stop is (suc n) x (f ∷ fs) small none met =
    ap (λ (ys : List Value). x ∷ ys) (moved_stop is n f fs (omega (arith, small)) (λ j less. none (suc j) (omega (arith, less))) met)
    ∙ sym (ap (λ (b : Bool). x ∷ cond b fs (moved_by is f fs)) (none zero (omega arith)))

-- what came into a field stands there
pub stored_there : (n : ℕ) (x : Value) (fs : List Value) → n < length fs → get_or (moved (suc n) x fs) n Nothing ≡ carried n x fs
stored_there n x [] small = absurd (omega (arith, small))
stored_there zero x (f ∷ fs) small = refl
stored_there (suc n) x (f ∷ fs) small = stored_there n f fs (omega (arith, small))

pub carried_some : (n : ℕ) (x : Value) (fs : List Value) → x ≢ Nothing → ((j : ℕ) → j < length fs → get_or fs j Nothing ≢ Nothing) → carried n x fs ≢ Nothing
carried_some zero x fs one all = one
carried_some (suc n) x [] one all = one
carried_some (suc n) x (f ∷ fs) one all = carried_some n f fs (all zero (omega arith)) (λ j less. all (suc j) (omega (arith, less)))

-- none was
pub moved_all : (is : Value → Bool) (x : Value) (fs : List Value) → ((j : ℕ) → j < length fs → is (get_or fs j Nothing) ≡ false) → moved (length fs) x fs ≡ moved_by is x fs
moved_all is x [] none = refl
moved_all is x (f ∷ fs) none =
    ap (λ (ys : List Value). x ∷ ys) (moved_all is f fs (λ j less. none (suc j) (omega (arith, less))))
    ∙ sym (ap (λ (b : Bool). x ∷ cond b fs (moved_by is f fs)) (none zero (omega arith)))

-- each of what stands there then is the one that came or one that stood there
pub moved_each : (P : Value → Type 0) (is : Value → Bool) (x : Value) (fs : List Value) → P x → ((j : ℕ) → j < length fs → P (get_or fs j Nothing)) → (j : ℕ) → j < length fs → P (get_or (moved_by is x fs) j Nothing)
moved_each P is x [] one all j small = absurd (omega (arith, small))
moved_each P is x (f ∷ fs) one all zero small = one
moved_each P is x (f ∷ fs) one all (suc j) small =
    by (is f) (all (suc j) small) (moved_each P is f fs (all zero (omega arith)) (λ i less. all (suc i) (omega (arith, less))) j (let long = moved_by_long is f fs in omega (arith, small)))
  where
    by : (b : Bool) → P (get_or fs j Nothing) → P (get_or (moved_by is f fs) j Nothing) → P (get_or (cond b fs (moved_by is f fs)) j Nothing)
    by true old moved_it = old
    by false old moved_it = moved_it

pub all_left : (P : Label → Type 0) (g h : Graph) (fs : List Value) → ((j : ℕ) → j < length fs → SlotLeft P (slot_of g (get_or fs j Nothing)) (slot_of h (get_or fs j Nothing))) → SlotsLeft P (map (slot_of g) fs) (map (slot_of h) fs)
all_left P g h [] left = tt
all_left P g h (f ∷ fs) left = (left zero (omega arith), all_left P g h fs (λ j less. left (suc j) (omega (arith, less))))

-- the slots of what was moved
pub moved_left : (P : Label → Type 0) (g h : Graph) (k : Label) (x : Value) (s : Option Binding) (fs : List Value) → SlotLeft P s (slot_of h x) → ((j : ℕ) → j < length fs → SlotLeft P (slot_of g (get_or fs j Nothing)) (slot_of h (get_or fs j Nothing)))
    → SlotsLeft P (pushed k s (map (slot_of g) fs)) (map (slot_of h) (moved_by (λ v. is_of k (slot_of g v)) x fs))
moved_left P g h k x s [] one left = tt
moved_left P g h k x s (f ∷ fs) one left =
    (one, by (is_of k (slot_of g f)) (all_left P g h fs later) (moved_left P g h k f (slot_of g f) fs (left zero (omega arith)) later))
  where
    later : (j : ℕ) → j < length fs → SlotLeft P (slot_of g (get_or fs j Nothing)) (slot_of h (get_or fs j Nothing))
    later j less = left (suc j) (omega (arith, less))

    by : (b : Bool) → SlotsLeft P (map (slot_of g) fs) (map (slot_of h) fs) → SlotsLeft P (pushed k (slot_of g f) (map (slot_of g) fs)) (map (slot_of h) (moved_by (λ v. is_of k (slot_of g v)) f fs))
        → SlotsLeft P (cond b (map (slot_of g) fs) (pushed k (slot_of g f) (map (slot_of g) fs))) (map (slot_of h) (cond b fs (moved_by (λ v. is_of k (slot_of g v)) f fs)))
    by true old moved_it = old
    by false old moved_it = moved_it

-- a slot that is left is of a key that isn't gone exactly where it was
pub left_of : (P : Label → Type 0) (k : Label) (s t : Option Binding) → SlotLeft (λ l. P l × (l ≢ k)) s t → is_of k t ≡ is_of k s
left_of P k s t (inl same) = ap (is_of k) same
left_of P k s t (inr (l, v, was, gone, none)) = ap (is_of k) none ∙ sym (ap (is_of k) was ∙ same_label-false l k gone.1)

-- what is found is the first
pub cached_found : (k : Label) (v : Value) (g : Graph) (fs : List Value) (n : ℕ) → n < length fs → ((j : ℕ) → j < n → is_of k (slot_of g (get_or fs j Nothing)) ≡ false) → slot_of g (get_or fs n Nothing) ≡ Some (k, v) → is_of k (slot_of g (get_or fs n Nothing)) ≡ true → cached_in k (map (slot_of g) fs) ≡ Some v
cached_found k v g [] n small none met own = absurd (omega (arith, small))
cached_found k v g (f ∷ fs) zero small none met own = ap (λ (b : Bool). cond b (datum_of (slot_of g f)) (cached_in k (map (slot_of g) fs))) own ∙ ap datum_of met
cached_found k v g (f ∷ fs) (suc n) small none met own =
    ap (λ (b : Bool). cond b (datum_of (slot_of g f)) (cached_in k (map (slot_of g) fs))) (none zero (omega arith)) ∙ cached_found k v g fs n (omega (arith, small)) (λ j less. none (suc j) (omega (arith, less))) met own

pub cached_none : (k : Label) (g : Graph) (fs : List Value) → ((j : ℕ) → j < length fs → is_of k (slot_of g (get_or fs j Nothing)) ≡ false) → cached_in k (map (slot_of g) fs) ≡ None
cached_none k g [] none = refl
cached_none k g (f ∷ fs) none =
    ap (λ (b : Bool). cond b (datum_of (slot_of g f)) (cached_in k (map (slot_of g) fs))) (none zero (omega arith)) ∙ cached_none k g fs (λ j less. none (suc j) (omega (arith, less)))

-- a slot of a key has it
pub is_of_some : (k : Label) (s : Option Binding) → is_of k s ≡ true → (v : Value) × (s ≡ Some (k, v))
is_of_some k None is = let clash : false ≡ true = is in cc
is_of_some k (Some b) is = (b.1, ap (λ (m : Label). Some (m, b.1)) (same_label-true b.0 k is))

-- what stands in the fields while one is taken out
pub drawn_long : (i n : ℕ) (fs : List Value) → length (drawn i n fs) ≡ length fs
drawn_long zero zero fs = refl
drawn_long zero (suc n) [] = refl
drawn_long zero (suc n) (f ∷ fs) = ap suc (drawn_long zero n fs)
drawn_long (suc i) n [] = refl
drawn_long (suc i) n (f ∷ fs) = ap suc (drawn_long i n fs)

pub drawn_none : (i : ℕ) (fs : List Value) → drawn i 0 fs ≡ fs
drawn_none zero fs = refl
drawn_none (suc i) [] = refl
drawn_none (suc i) (f ∷ fs) = ap (λ (ys : List Value). f ∷ ys) (drawn_none i fs)

pub read_drawn : (i n j : ℕ) (fs : List Value) → j ≡ i + n → suc j < length fs → get_or (drawn i n fs) (suc j) Nothing ≡ get_or fs (suc j) Nothing
read_drawn i n j [] at small = absurd (omega (arith, small))
read_drawn (suc i) n zero (f ∷ fs) at small = absurd (omega (arith, at))
read_drawn (suc i) n (suc j) (f ∷ fs) at small = read_drawn i n j fs (omega (arith, at)) (omega (arith, small))
read_drawn zero zero j (f ∷ fs) at small = refl
read_drawn zero (suc n) zero (f ∷ fs) at small = absurd (omega (arith, at))
read_drawn zero (suc n) (suc j) (f ∷ fs) at small = read_drawn zero n j fs (omega (arith, at)) (omega (arith, small))

pub draw_more : (i n j : ℕ) (fs : List Value) → j ≡ i + n → suc j < length fs → set (drawn i n fs) j (get_or fs (suc j) Nothing) ≡ drawn i (suc n) fs
draw_more i n j [] at small = absurd (omega (arith, small))
draw_more (suc i) n zero (f ∷ fs) at small = absurd (omega (arith, at))
draw_more (suc i) n (suc j) (f ∷ fs) at small = ap (λ (ys : List Value). f ∷ ys) (draw_more i n j fs (omega (arith, at)) (omega (arith, small)))
draw_more zero zero (suc j) (f ∷ fs) at small = absurd (omega (arith, at))
draw_more zero zero zero (f ∷ []) at small = absurd (omega (arith, small))
draw_more zero zero zero (f ∷ g ∷ fs) at small = refl
draw_more zero (suc n) zero (f ∷ fs) at small = absurd (omega (arith, at))
draw_more zero (suc n) (suc j) (f ∷ fs) at small = ap (λ (ys : List Value). get_or fs 0 f ∷ ys) (draw_more zero n j fs (omega (arith, at)) (omega (arith, small)))

pub drawn_last : (i n j : ℕ) (fs : List Value) → j ≡ i + n → suc j ≡ length fs → set (drawn i n fs) j (Int (pos 0)) ≡ cut_out i fs
drawn_last i n j [] at last = absurd (omega (arith, last))
drawn_last (suc i) n zero (f ∷ fs) at last = absurd (omega (arith, at))
drawn_last (suc i) n (suc j) (f ∷ fs) at last = ap (λ (ys : List Value). f ∷ ys) (drawn_last i n j fs (omega (arith, at)) (omega (arith, last)))
drawn_last zero zero (suc j) (f ∷ fs) at last = absurd (omega (arith, at))
drawn_last zero zero zero (f ∷ []) at last = refl
drawn_last zero zero zero (f ∷ g ∷ fs) at last = absurd (omega (arith, last))
drawn_last zero (suc n) zero (f ∷ fs) at last = absurd (omega (arith, at))
drawn_last zero (suc n) (suc j) (f ∷ []) at last = absurd (omega (arith, last))
drawn_last zero (suc n) (suc j) (f ∷ g ∷ fs) at last = ap (λ (ys : List Value). g ∷ ys) (drawn_last zero n j (g ∷ fs) (omega (arith, at)) (omega (arith, last)))

end_long : (fs : List Value) (x : Value) → length (fs ++ x ∷ []) ≡ suc (length fs)
end_long [] x = refl
end_long (f ∷ fs) x = ap suc (end_long fs x)

pub cut_long : (i : ℕ) (fs : List Value) → length (cut_out i fs) ≡ length fs
cut_long zero [] = refl
cut_long (suc i) [] = refl
cut_long zero (f ∷ fs) = end_long fs (Int (pos 0))
cut_long (suc i) (f ∷ fs) = ap suc (cut_long i fs)

end_each : (P : Value → Type 0) (x : Value) (fs : List Value) → P x → ((j : ℕ) → j < length fs → P (get_or fs j Nothing)) → (j : ℕ) → j < suc (length fs) → P (get_or (fs ++ x ∷ []) j Nothing)
end_each P x [] one all zero small = one
end_each P x [] one all (suc j) small = absurd (omega (arith, small))
end_each P x (f ∷ fs) one all zero small = all zero (omega arith)
end_each P x (f ∷ fs) one all (suc j) small = end_each P x fs one (λ i less. all (suc i) (omega (arith, less))) j (omega (arith, small))

pub cut_each : (P : Value → Type 0) (i : ℕ) (fs : List Value) → P (Int (pos 0)) → ((j : ℕ) → j < length fs → P (get_or fs j Nothing)) → (j : ℕ) → j < length fs → P (get_or (cut_out i fs) j Nothing)
cut_each P i [] one all j small = absurd (omega (arith, small))
cut_each P zero (f ∷ fs) one all j small = end_each P (Int (pos 0)) fs one (λ n less. all (suc n) (omega (arith, less))) j small
cut_each P (suc i) (f ∷ fs) one all zero small = all zero (omega arith)
cut_each P (suc i) (f ∷ fs) one all (suc j) small = cut_each P i fs one (λ n less. all (suc n) (omega (arith, less))) j (omega (arith, small))

end_left : (P : Label → Type 0) (g h : Graph) (fs : List Value) → ((j : ℕ) → j < length fs → SlotLeft P (slot_of g (get_or fs j Nothing)) (slot_of h (get_or fs j Nothing))) → SlotsLeft P (map (slot_of g) fs ++ None ∷ []) (map (slot_of h) (fs ++ Int (pos 0) ∷ []))
end_left P g h [] left = (inl refl, tt)
end_left P g h (f ∷ fs) left = (left zero (omega arith), end_left P g h fs (λ j less. left (suc j) (omega (arith, less))))

-- the slots of what was taken out
pub cut_left : (P : Label → Type 0) (g h : Graph) (k : Label) (i : ℕ) (fs : List Value) → i < length fs → ((j : ℕ) → j < i → is_of k (slot_of g (get_or fs j Nothing)) ≡ false) → is_of k (slot_of g (get_or fs i Nothing)) ≡ true
    → ((j : ℕ) → j < length fs → SlotLeft P (slot_of g (get_or fs j Nothing)) (slot_of h (get_or fs j Nothing))) → SlotsLeft P (taken k (map (slot_of g) fs)) (map (slot_of h) (cut_out i fs))
cut_left P g h k i [] small none own left = absurd (omega (arith, small))
cut_left P g h k zero (f ∷ fs) small none own left =
    subst (λ (b : Bool). SlotsLeft P (cond b (map (slot_of g) fs ++ None ∷ []) (slot_of g f ∷ taken k (map (slot_of g) fs))) (map (slot_of h) (fs ++ Int (pos 0) ∷ []))) (sym own) (end_left P g h fs (λ j less. left (suc j) (omega (arith, less))))
cut_left P g h k (suc i) (f ∷ fs) small none own left =
    subst (λ (b : Bool). SlotsLeft P (cond b (map (slot_of g) fs ++ None ∷ []) (slot_of g f ∷ taken k (map (slot_of g) fs))) (slot_of h f ∷ map (slot_of h) (cut_out i fs))) (sym (none zero (omega arith)))
    (left zero (omega arith), cut_left P g h k i fs (omega (arith, small)) (λ j less. none (suc j) (omega (arith, less))) own (λ j less. left (suc j) (omega (arith, less))))

-- what isn't there isn't taken
pub taken_none : (k : Label) (ss : List (Option Binding)) → cached_in k ss ≡ None → taken k ss ≡ ss
taken_none k [] none = refl
taken_none k (s ∷ ss) none = by (is_of k s) refl (λ rest. taken_none k ss rest)
  where
    by : (b : Bool) → is_of k s ≡ b → (cached_in k ss ≡ None → taken k ss ≡ ss) → taken k (s ∷ ss) ≡ s ∷ ss
    by true e again =
        let v = is_of_some k s e in
        let clash : Some v.0 ≡ None = sym (ap (λ (b : Bool). cond b (datum_of s) (cached_in k ss)) e ∙ ap datum_of v.1) ∙ none in cc
    by false e again = ap (λ (b : Bool). cond b (ss ++ None ∷ []) (s ∷ taken k ss)) e ∙ ap (λ (ys : List (Option Binding)). s ∷ ys) (again (sym (ap (λ (b : Bool). cond b (datum_of s) (cached_in k ss)) e) ∙ none))
