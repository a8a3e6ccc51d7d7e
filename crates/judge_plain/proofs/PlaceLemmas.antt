-- Rising places of a list, read from the last to the first.
use Rattle.std.proofs.Common.{◌≡◌, ℕ, zero, suc, ◌+◌, ◌-◌, ◌<◌, ◌≤◌, true, List, [], ◌∷◌, ◌++◌, map, reverse, remove, drop, take, length, get_or, set, filter_map, slice_get, option_to_list, Option, Some, refl, ap, sym, ◌∙◌, subst, arith, append_assoc, add-one}
use Rattle.std.proofs.Math.Seq.{drop-cons, drop-nil}
use Rattle.std.proofs.lemmas.List.{reverse-append}
use Rattle.std.proofs.lemmas.List.Edits.{map_over_more}
use Rattle.std.proofs.lemmas.List.Elements.{filter_map-append}
use Rattle.model_core.specs.declared.label.Label.{Label}
use Rattle.model_core.proofs.Graphs.ListLemmas.{filter_map_more}
use Rattle.model_core.specs.declared.state.Finaliser.{Finaliser}
use Rattle.model_core.specs.declared.state.Pending.{Pending}
use Rattle.model_core.specs.declared.state.DomainState.{DomainState}
use Rattle.model_core.specs.Entries.{is_rising, at_places, queued_final, queued_after, queued_beyond}

-- the last place rises above nothing
pub rising_end : (ps : List ℕ) (i : ℕ) → i + 1 ≡ length ps → is_rising (drop i ps) ≡ true
rising_end [] i e = absurd (omega arith)
rising_end (p ∷ []) zero e = refl
rising_end (p ∷ q ∷ ps) zero e = absurd (omega arith)
rising_end (p ∷ ps) (suc i) e = rising_end ps i (omega arith)

-- one more of the greatest places
pub one_more : (ps : List ℕ) (left p : ℕ) → 0 < left → left ≤ length ps → p ≡ get_or ps (left - 1) p → drop (left - 1) ps ≡ p ∷ drop left ps
one_more ps left p some within here =
    let next : suc (left - 1) ≡ left = omega arith in
    drop-cons ps (left - 1) p (omega arith) ∙ ap (λ z. z ∷ drop (suc (left - 1)) ps) (sym here) ∙ ap (λ n. p ∷ drop n ps) next

-- nothing leaves a list at a place past its end
pub remove_past : {A : Type 0} (xs : List A) (i : ℕ) → length xs ≤ i → remove xs i ≡ xs
remove_past [] zero past = refl
remove_past [] (suc i) past = refl
remove_past (x ∷ xs) zero past = absurd (omega arith)
remove_past (x ∷ xs) (suc i) past = ap (λ t. x ∷ t) (remove_past xs i (omega arith))

map_append : {A B : Type 0} (f : A → B) (xs ys : List A) → map f (xs ++ ys) ≡ map f xs ++ map f ys
map_append f [] ys = refl
map_append f (x ∷ xs) ys = ap (λ t. f x ∷ t) (map_append f xs ys)

-- the registration at one more place joins the queue
pub queued_one_more : (queue : List Pending) (finals : List Finaliser) (p : ℕ) (ps : List ℕ)
    → (queue ++ map queued_final (at_places (reverse ps) finals)) ++ map queued_final (at_places (p ∷ []) finals)
    ≡ queue ++ map queued_final (at_places (reverse (p ∷ ps)) finals)
queued_one_more queue finals p ps =
    let later : reverse (p ∷ ps) ≡ reverse ps ++ p ∷ [] = reverse-append (p ∷ []) ps in
    append_assoc queue (map queued_final (at_places (reverse ps) finals)) (map queued_final (at_places (p ∷ []) finals))
    ∙ ap (λ t. queue ++ t) (sym (map_append queued_final (at_places (reverse ps) finals) (at_places (p ∷ []) finals))
    ∙ ap (map queued_final) (sym (filter_map-append (slice_get finals) (reverse ps) (p ∷ [])) ∙ ap (λ z. at_places z finals) (sym later)))

none_before : (qs : List (List Pending)) → queued_beyond qs [] ≡ []
none_before [] = refl
none_before (q ∷ qs) = refl

-- what one more queue has beyond what it held before
queued_next : (xs : List DomainState) (olds : List (List Pending)) (i : ℕ) (x : DomainState) → i < length xs → x ≡ get_or xs i x
    → queued_beyond (map (λ y. y.queue) (drop i xs)) (drop i olds)
    ≡ queued_after x.queue (slice_get olds i) ++ queued_beyond (map (λ y. y.queue) (drop (suc i) xs)) (drop (suc i) olds)
queued_next [] olds i x within here = absurd (omega arith)
queued_next (y ∷ xs) [] i x within here = rw (drop-nil {A = List Pending} i) (none_before (map (λ z. z.queue) (drop i (y ∷ xs))) ∙ sym (none_before (map (λ z. z.queue) (drop i xs))))
queued_next (y ∷ xs) (before ∷ olds) zero x within here =
    ap (λ (z : DomainState). queued_after z.queue (Some before) ++ queued_beyond (map (λ w. w.queue) xs) olds) (sym here)
queued_next (y ∷ xs) (before ∷ olds) (suc i) x within here = queued_next xs olds i x (omega arith) here

pub queued_one_queue : (xs : List DomainState) (olds : List (List Pending)) (i : ℕ) (x : DomainState) → i < length xs → x ≡ get_or xs i x
    → queued_beyond (map (λ y. y.queue) (drop i xs)) (drop i olds)
    ≡ queued_after x.queue (slice_get olds i) ++ queued_beyond (map (λ y. y.queue) (drop (i + 1) xs)) (drop (i + 1) olds)
queued_one_queue xs olds i x within here = rw add-one (queued_next xs olds i x within here)

-- the label in the key at one more place
pub keys_one_more : (keys : List (Option Label)) (ps : List ℕ) (i : ℕ) → i < length ps
    → filter_map (λ k. k) (at_places (take (i + 1) ps) keys) ≡ filter_map (λ k. k) (at_places (take i ps) keys) ++ filter_map (λ k. k) (option_to_list (slice_get keys (get_or ps i 0)))
keys_one_more keys ps i within =
    let each : Option Label → Option Label = λ k. k in
    ap (filter_map each) (filter_map_more (slice_get keys) ps i 0 within)
    ∙ filter_map-append each (at_places (take i ps) keys) (option_to_list (slice_get keys (get_or ps i 0)))

-- the domains so far have changed, and so has the next one
pub changed_more : (f : DomainState → DomainState) (xs ys : List DomainState) (i : ℕ) (x : DomainState) → i < length xs → ys ≡ map f (take i xs) ++ drop i xs → x ≡ get_or ys i x
    → set ys i (f (get_or ys i x)) ≡ map f (take (i + 1) xs) ++ drop (i + 1) xs
changed_more f xs ys i x within so_far here = map_over_more f xs ys i (get_or ys i x) within so_far (subst (λ (z : DomainState). z ≡ get_or ys i z) here here)
