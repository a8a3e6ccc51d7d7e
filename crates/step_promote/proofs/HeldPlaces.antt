-- What lives at the addresses in a domain's lists of finalisers.
use Rattle.std.proofs.Common.{◌≡◌, ◌≢◌, ℕ, zero, suc, ◌⊎◌, inl, inr, List, [], ◌∷◌, length, set, slice_get, option_map, option_and_then, Option, Some, None, refl, subst, ap, sym, ◌∙◌}
use Rattle.model_core.specs.declared.label.Label.{Label}
use Rattle.model_core.specs.declared.state.Pending.{Pending}
use Rattle.model_core.specs.declared.state.Pending.TheVariants.{Fin as FinPending, Last as LastPending}
use Rattle.model_core.specs.declared.state.State as model
use Rattle.model_core.specs.Domains.{domain_at, pending_label}
use Rattle.heap_rule.specs.declared.view.Finalisers.{Finalisers}
use Rattle.heap_rule.specs.declared.view.Held.{Held}
use Rattle.heap_rule.specs.declared.view.Held.TheVariants.{Final, Last, Queue}
use Rattle.heap_rule.specs.declared.view.Waiting.{Waiting}
use Rattle.heap_rule.specs.declared.view.Waiting.TheVariants.{Fin as FinWaiting, Last as LastWaiting}
use Rattle.heap_rule.specs.Finalisers.{Paired, LivesAt, StandsFinal, StandsLast, StandsWaiting, Enrolled, address_in, held_at, label_held}
use Rattle.heap_rule.specs.Places.{Live}
use Rattle.heap_rule.proofs.FinaliserLemmas.{paired_get}
use Rattle.step_promote.specs.Promotion.{changed_at, waiting_at, with_held}
use Rattle.std.proofs.lemmas.Option.{same_Some}

-- an item of an option whose image is there
pub mapped_from : {A B : Type 0} (f : A → B) (o : Option A) (a : B) → option_map f o ≡ Some a → (x : A) × (o ≡ Some x) × (f x ≡ a)
mapped_from f None a is = absurd (let e : None ≡ Some a = is in cc)
mapped_from f (Some x) a is = (x, refl, same_Some (f x) a is)

pub chained_from : {A : Type 0} (f : A → Option ℕ) (o : Option A) (a : ℕ) → option_and_then f o ≡ Some a → (x : A) × (o ≡ Some x) × (f x ≡ Some a)
chained_from f None a is = absurd (let e : ◌≡◌ {A = Option ℕ} None (Some a) = is in cc)
chained_from f (Some x) a is = (x, refl, is)

-- the label at a place of the state's lists, and the block that lives at the address at that place
pub record HeldLives (live : Live) (s : model.State) (d : ℕ) (h : Held) (a : ℕ) : Type 0 where
  pub label : Label
  pub named : label_held (domain_at s d) h ≡ Some label
  pub lives : LivesAt live a label

waiting_from : (live : Live) (w : Waiting) (p : Pending) (a : ℕ) → address_in w ≡ Some a → StandsWaiting live w p → (l : Label) × (pending_label p ≡ Some l) × LivesAt live a l
waiting_from live (FinWaiting b n r) (FinPending m l q) a is st = (l, refl, subst (λ (c : ℕ). LivesAt live c l) (same_Some b a is) st.0)
waiting_from live (FinWaiting b n r) (LastPending m) a is st = absurd st
waiting_from live (LastWaiting n) p a is st = absurd (let e : ◌≡◌ {A = Option ℕ} None (Some a) = is in cc)

pub held_lives : (live : Live) (s : model.State) (d : ℕ) (fs : Finalisers) → Enrolled live s d fs → (h : Held) (a : ℕ) → held_at fs h ≡ Some a → HeldLives live s d h a
held_lives live s d fs e (Final i) a is =
    let m = mapped_from (λ r. r.address) (slice_get fs.finals.items i) a is in
    let p = paired_get (StandsFinal live) fs.finals.items (domain_at s d).finals i m.0 e.finals m.1 in
    record { label = p.0.label; named = ap (option_map (λ f. f.label)) p.1; lives = subst (λ (c : ℕ). LivesAt live c p.0.label) m.2 p.2.0 }
held_lives live s d fs e (Last i) a is =
    let m = mapped_from (λ r. r.address) (slice_get fs.lasts.items i) a is in
    let p = paired_get (StandsLast live) fs.lasts.items (domain_at s d).lasts i m.0 e.lasts m.1 in
    record { label = p.0.label; named = ap (option_map (λ f. f.label)) p.1; lives = subst (λ (c : ℕ). LivesAt live c p.0.label) m.2 p.2.0 }
held_lives live s d fs e (Queue i) a is =
    let m = chained_from address_in (slice_get fs.queue.items i) a is in
    let p = paired_get (StandsWaiting live) fs.queue.items (domain_at s d).queue i m.0 e.queue m.1 in
    let w = waiting_from live m.0 p.0 a m.2 p.2 in
    record { label = w.0; named = ap (option_and_then pending_label) p.1 ∙ w.1; lives = w.2 }

-- one item of a list is another
pub length_changed : {A : Type 0} (f : A → A) (xs : List A) (i : ℕ) → length (changed_at f xs i) ≡ length xs
length_changed f [] i = refl
length_changed f (x ∷ xs) zero = refl
length_changed f (x ∷ xs) (suc i) = ap suc (length_changed f xs i)

-- it is the set of that item
pub set_changed : {A : Type 0} (f : A → A) (xs : List A) (i : ℕ) (x : A) → slice_get xs i ≡ Some x → set xs i (f x) ≡ changed_at f xs i
set_changed f [] i x got = refl
set_changed f (z ∷ xs) zero x got = ap (λ w. f w ∷ xs) (sym (same_Some z x got))
set_changed f (z ∷ xs) (suc i) x got = ap (λ l. z ∷ l) (set_changed f xs i x got)

pub get_changed : {A : Type 0} (f : A → A) (xs : List A) (i : ℕ) (x : A) → slice_get xs i ≡ Some x → slice_get (changed_at f xs i) i ≡ Some (f x)
get_changed f [] i x got = absurd (let e : None ≡ Some x = got in cc)
get_changed f (z ∷ xs) zero x got = ap (λ w. Some (f w)) (same_Some z x got)
get_changed f (z ∷ xs) (suc i) x got = get_changed f xs i x got

pub get_unchanged : {A : Type 0} (f : A → A) (xs : List A) (i j : ℕ) → j ≢ i → slice_get (changed_at f xs i) j ≡ slice_get xs j
get_unchanged f [] i j other = refl
get_unchanged f (x ∷ xs) zero zero other = absurd (other refl)
get_unchanged f (x ∷ xs) zero (suc j) other = refl
get_unchanged f (x ∷ xs) (suc i) zero other = refl
get_unchanged f (x ∷ xs) (suc i) (suc j) other = get_unchanged f xs i j (λ e. other (ap suc e))

-- what stands there is what stood there, or made of it
pub got_changed : {A : Type 0} (f : A → A) (xs : List A) (i j : ℕ) (y : A) → slice_get (changed_at f xs i) j ≡ Some y → (x : A) × (slice_get xs j ≡ Some x) × ((y ≡ f x) ⊎ (y ≡ x))
got_changed f [] i j y got = absurd (let e : None ≡ Some y = got in cc)
got_changed f (x ∷ xs) zero zero y got = (x, refl, inl (sym (same_Some (f x) y got)))
got_changed f (x ∷ xs) zero (suc j) y got = (y, got, inr refl)
got_changed f (x ∷ xs) (suc i) zero y got = (x, refl, inr (sym (same_Some x y got)))
got_changed f (x ∷ xs) (suc i) (suc j) y got = got_changed f xs i j y got

-- it stands for the same still
pub paired_changed : {A B : Type 0} (R : A → B → Type 0) (f : A → A) (xs : List A) (ys : List B) (i : ℕ) → ((x : A) (y : B) → slice_get xs i ≡ Some x → R x y → R (f x) y) → Paired R xs ys → Paired R (changed_at f xs i) ys
paired_changed R f [] ys i again p = p
paired_changed R f (x ∷ xs) [] i again p = absurd p
paired_changed R f (x ∷ xs) (y ∷ ys) zero again p = (again x y refl p.0, p.1)
paired_changed R f (x ∷ xs) (y ∷ ys) (suc i) again p = (p.0, paired_changed R f xs ys i again p.1)

-- the place with another address has that, and every other has what it had
pub held_here : (fs : Finalisers) (h : Held) (a c : ℕ) → held_at fs h ≡ Some a → held_at (with_held fs h c) h ≡ Some c
held_here fs (Final i) a c is = let m = mapped_from (λ r. r.address) (slice_get fs.finals.items i) a is in ap (option_map (λ r. r.address)) (get_changed (λ r. record r { address = c }) fs.finals.items i m.0 m.1)
held_here fs (Last i) a c is = let m = mapped_from (λ r. r.address) (slice_get fs.lasts.items i) a is in ap (option_map (λ r. r.address)) (get_changed (λ r. record r { address = c }) fs.lasts.items i m.0 m.1)
held_here fs (Queue i) a c is = let m = chained_from address_in (slice_get fs.queue.items i) a is in ap (option_and_then address_in) (get_changed (waiting_at c) fs.queue.items i m.0 m.1) ∙ addressed m.0 a c m.2
  where
    addressed : (w : Waiting) (a c : ℕ) → address_in w ≡ Some a → address_in (waiting_at c w) ≡ Some c
    addressed (FinWaiting b n r) a c is = refl
    addressed (LastWaiting n) a c is = absurd (let e : ◌≡◌ {A = Option ℕ} None (Some a) = is in cc)

pub held_else : (fs : Finalisers) (h g : Held) (c : ℕ) → g ≢ h → held_at (with_held fs h c) g ≡ held_at fs g
held_else fs (Final i) (Final j) c other = ap (option_map (λ r. r.address)) (get_unchanged (λ r. record r { address = c }) fs.finals.items i j (λ e. other (ap Final e)))
held_else fs (Final i) (Last j) c other = refl
held_else fs (Final i) (Queue j) c other = refl
held_else fs (Last i) (Final j) c other = refl
held_else fs (Last i) (Last j) c other = ap (option_map (λ r. r.address)) (get_unchanged (λ r. record r { address = c }) fs.lasts.items i j (λ e. other (ap Last e)))
held_else fs (Last i) (Queue j) c other = refl
held_else fs (Queue i) (Final j) c other = refl
held_else fs (Queue i) (Last j) c other = refl
held_else fs (Queue i) (Queue j) c other = ap (option_and_then address_in) (get_unchanged (waiting_at c) fs.queue.items i j (λ e. other (ap Queue e)))
