-- What becomes of a domain's lists of finalisers where registrations are decided.
use Rattle.std.proofs.Common.{◌≡◌, ◌≢◌, inl, inr, ℕ, zero, suc, ◌+◌, List, [], ◌∷◌, ◌++◌, length, slice_get, option_map, option_and_then, Option, Some, None, refl, sym, ap, subst, ◌∙◌, length-append, arith}
use Rattle.heap_rule.specs.declared.config.Config.{Config}
use Rattle.heap_rule.specs.declared.phase.Kind.{Kind}
use Rattle.heap_rule.specs.declared.phase.Kind.TheVariants.{Decide, Lasts}
use Rattle.heap_rule.specs.declared.view.Finalisers.{Finalisers}
use Rattle.heap_rule.specs.declared.view.Held.{Held}
use Rattle.heap_rule.specs.declared.view.Held.TheVariants.{Final, Last, Queue}
use Rattle.heap_rule.specs.declared.view.Registered.{Registered}
use Rattle.heap_rule.specs.declared.view.RegisteredLast.{RegisteredLast}
use Rattle.heap_rule.specs.declared.view.Waiting.{Waiting}
use Rattle.heap_rule.specs.Finalisers.{RefersOld, address_in, held_at}
use Rattle.heap_rule.specs.Places.{IsOldAt}
use Rattle.step_finalisers.specs.Registering.{count_of}
use Rattle.do_finalisers.specs.Deciding.{Splits, as_waiting, as_waiting_last}
use Rattle.gc_pause.specs.Phases.Sharing.{Decided, LastsDecided}

-- none is lost, and none comes up
splits_length : {A B : Type 0} (f : A → B) (rs stays : List A) (queued : List B) → Splits f rs stays queued → length stays + length queued ≡ length rs
splits_length f [] stays queued s = let kept : length stays ≡ 0 = ap length s.0 in let gone : length queued ≡ 0 = ap length s.1 in omega arith
splits_length {A} {B} f (r ∷ rs) stays queued (inl t) =
    let all : length t.0 + length queued ≡ length rs = splits_length f rs t.0 queued t.2 in
    let kept : length stays ≡ suc (length t.0) = ap length t.1 in
    let goal : length stays + length queued ≡ suc (length rs) = omega arith in goal
splits_length {A} {B} f (r ∷ rs) stays queued (inr t) =
    let all : length stays + length t.0 ≡ length rs = splits_length f rs stays t.0 t.2 in
    let gone : length queued ≡ length t.0 + 1 = ap length t.1 ∙ length-append t.0 (f r ∷ []) in
    let goal : length stays + length queued ≡ suc (length rs) = omega arith in goal

none_at : {A : Type 0} (xs : List A) (i : ℕ) (x : A) → xs ≡ [] → slice_get xs i ≡ Some x → ⊥
none_at [] i x none got = cc
none_at (y ∷ ys) i x none got = cc

-- an item behind the first
behind_first : {A : Type 0} (P : A → Type 0) (y : A) (xs : List A) → ((x : A) → (j : ℕ) → slice_get xs j ≡ Some x → P x) → P y → (i : ℕ) (x : A) → slice_get (y ∷ xs) i ≡ Some x → P x
behind_first P y xs rest first zero x got = let same : y ≡ x = cc in subst P same first
behind_first P y xs rest first (suc i) x got = rest x i got

-- what holds of each item of two lists holds of each of both
append_each : {A : Type 0} (P : A → Type 0) (xs ys : List A) → ((i : ℕ) (x : A) → slice_get xs i ≡ Some x → P x) → ((i : ℕ) (x : A) → slice_get ys i ≡ Some x → P x) → (i : ℕ) (x : A) → slice_get (xs ++ ys) i ≡ Some x → P x
append_each P [] ys before after i x got = after i x got
append_each P (y ∷ xs) ys before after zero x got = before 0 x got
append_each P (y ∷ xs) ys before after (suc i) x got = append_each P xs ys (λ j z at. before (suc j) z at) after i x got

-- what holds of each item of a list holds of each that stays
stays_each : {A B : Type 0} (f : A → B) (P : A → Type 0) (rs stays : List A) (queued : List B) → Splits f rs stays queued → ((i : ℕ) (r : A) → slice_get rs i ≡ Some r → P r) → (i : ℕ) (r : A) → slice_get stays i ≡ Some r → P r
stays_each f P [] stays queued s each i r got = absurd (none_at stays i r s.0 got)
stays_each f P (q ∷ rs) stays queued (inl t) each i r got = behind_first P q t.0 (λ x j at. stays_each f P rs t.0 queued t.2 (λ m z is. each (suc m) z is) j x at) (each 0 q refl) i r (subst (λ (l : List _). slice_get l i ≡ Some r) t.1 got)
stays_each f P (q ∷ rs) stays queued (inr t) each i r got = stays_each f P rs stays t.0 t.2 (λ m z is. each (suc m) z is) i r got

-- and what so holds of the others, as they are queued, of each that is queued
queued_each : {A B : Type 0} (f : A → B) (P : B → Type 0) (rs stays : List A) (queued : List B) → Splits f rs stays queued → ((i : ℕ) (r : A) → slice_get rs i ≡ Some r → P (f r)) → (i : ℕ) (w : B) → slice_get queued i ≡ Some w → P w
queued_each f P [] stays queued s each i w got = absurd (none_at queued i w s.1 got)
queued_each f P (q ∷ rs) stays queued (inl t) each i w got = queued_each f P rs t.0 queued t.2 (λ m z is. each (suc m) z is) i w got
queued_each f P (q ∷ rs) stays queued (inr t) each i w got = append_each P t.0 (f q ∷ []) (queued_each f P rs stays t.0 t.2 (λ m z is. each (suc m) z is)) (behind_first P (f q) [] (λ x j at. absurd (none_at [] j x refl at)) (each 0 q refl)) i w (subst (λ (l : List _). slice_get l i ≡ Some w) t.1 got)

-- the lists have no address of a minor area, list by list
record RefersEach (k : Config) (fs : Finalisers) : Type 0 where
  finals : (i : ℕ) (r : Registered) → slice_get fs.finals.items i ≡ Some r → IsOldAt k r.address
  lasts : (i : ℕ) (r : RegisteredLast) → slice_get fs.lasts.items i ≡ Some r → IsOldAt k r.address
  queue : (i : ℕ) (w : Waiting) → slice_get fs.queue.items i ≡ Some w → (a : ℕ) → address_in w ≡ Some a → IsOldAt k a

refers_each : (k : Config) (fs : Finalisers) → RefersOld k fs → RefersEach k fs
refers_each k fs old = record {
  finals = λ i r got. old (Final i) r.address (ap (option_map (λ q. q.address)) got);
  lasts = λ i r got. old (Last i) r.address (ap (option_map (λ q. q.address)) got);
  queue = λ i w got a is. old (Queue i) a (ap (option_and_then address_in) got ∙ is);
}

refers_old : (k : Config) (fs : Finalisers) → RefersEach k fs → RefersOld k fs
refers_old k fs each = go
  where
    final : (i a : ℕ) (o : Option Registered) → slice_get fs.finals.items i ≡ o → option_map (λ r. r.address) o ≡ Some a → IsOldAt k a
    final i a None got is = cc
    final i a (Some r) got is = let same : r.address ≡ a = cc in subst (IsOldAt k) same (each.finals i r got)

    last : (i a : ℕ) (o : Option RegisteredLast) → slice_get fs.lasts.items i ≡ o → option_map (λ r. r.address) o ≡ Some a → IsOldAt k a
    last i a None got is = cc
    last i a (Some r) got is = let same : r.address ≡ a = cc in subst (IsOldAt k) same (each.lasts i r got)

    waits : (i a : ℕ) (o : Option Waiting) → slice_get fs.queue.items i ≡ o → option_and_then address_in o ≡ Some a → IsOldAt k a
    waits i a None got is = cc
    waits i a (Some w) got is = each.queue i w got a is

    go : (h : Held) (a : ℕ) → held_at fs h ≡ Some a → IsOldAt k a
    go (Final i) a is = final i a (slice_get fs.finals.items i) refl is
    go (Last i) a is = last i a (slice_get fs.lasts.items i) refl is
    go (Queue i) a is = waits i a (slice_get fs.queue.items i) refl is

-- what a phase of this kind, in which registrations are decided, makes of the lists
pub record Sorted (kind : Kind) (fs gs : Finalisers) : Type 0 where
  pub same : kind ≢ Decide → kind ≢ Lasts → gs ≡ fs
  pub decided : kind ≡ Decide → Decided fs gs
  pub last_decided : kind ≡ Lasts → LastsDecided fs gs
  pub registered : count_of gs ≡ count_of fs
  pub held : (k : Config) → RefersOld k fs → RefersOld k gs

pub sorted_finals : (kind : Kind) (fs gs : Finalisers) → kind ≡ Decide → Decided fs gs → Sorted kind fs gs
sorted_finals kind fs gs is d = record {
  same = λ undecided _. absurd (undecided is);
  decided = λ _. d;
  last_decided = λ e. cc;
  registered = count;
  held = λ k old. refers_old k gs (moved k (refers_each k fs old));
}
  where
    count : count_of gs ≡ count_of fs
    count =
        let split : length gs.finals.items + length d.queued ≡ length fs.finals.items = splits_length as_waiting fs.finals.items gs.finals.items d.queued d.splits in
        let lasts : length gs.lasts.items ≡ length fs.lasts.items = ap (λ l. length l.items) d.lasts in
        let longer : length gs.queue.items ≡ length fs.queue.items + length d.queued = ap length d.queue ∙ length-append fs.queue.items d.queued in
        let goal : length gs.finals.items + length gs.lasts.items + length gs.queue.items ≡ length fs.finals.items + length fs.lasts.items + length fs.queue.items = omega arith in goal

    moved : (k : Config) → RefersEach k fs → RefersEach k gs
    moved k each = record {
      finals = stays_each as_waiting (λ (r : Registered). IsOldAt k r.address) fs.finals.items gs.finals.items d.queued d.splits each.finals;
      lasts = λ i r got. each.lasts i r (ap (λ l. slice_get l.items i) (sym d.lasts) ∙ got);
      queue = λ i w got. append_each (λ (v : Waiting). (a : ℕ) → address_in v ≡ Some a → IsOldAt k a) fs.queue.items d.queued each.queue
          (queued_each as_waiting (λ (v : Waiting). (a : ℕ) → address_in v ≡ Some a → IsOldAt k a) fs.finals.items gs.finals.items d.queued d.splits (λ j r at a is. let same : r.address ≡ a = cc in subst (IsOldAt k) same (each.finals j r at)))
          i w (ap (λ l. slice_get l i) (sym d.queue) ∙ got);
    }

pub sorted_lasts : (kind : Kind) (fs gs : Finalisers) → kind ≡ Lasts → LastsDecided fs gs → Sorted kind fs gs
sorted_lasts kind fs gs is d = record {
  same = λ _ unsettled. absurd (unsettled is);
  decided = λ e. cc;
  last_decided = λ _. d;
  registered = count;
  held = λ k old. refers_old k gs (moved k (refers_each k fs old));
}
  where
    count : count_of gs ≡ count_of fs
    count =
        let split : length gs.lasts.items + length d.queued ≡ length fs.lasts.items = splits_length as_waiting_last fs.lasts.items gs.lasts.items d.queued d.splits in
        let finals : length gs.finals.items ≡ length fs.finals.items = ap (λ l. length l.items) d.finals in
        let longer : length gs.queue.items ≡ length fs.queue.items + length d.queued = ap length d.queue ∙ length-append fs.queue.items d.queued in
        let goal : length gs.finals.items + length gs.lasts.items + length gs.queue.items ≡ length fs.finals.items + length fs.lasts.items + length fs.queue.items = omega arith in goal

    moved : (k : Config) → RefersEach k fs → RefersEach k gs
    moved k each = record {
      finals = λ i r got. each.finals i r (ap (λ l. slice_get l.items i) (sym d.finals) ∙ got);
      lasts = stays_each as_waiting_last (λ (r : RegisteredLast). IsOldAt k r.address) fs.lasts.items gs.lasts.items d.queued d.splits each.lasts;
      queue = λ i w got. append_each (λ (v : Waiting). (a : ℕ) → address_in v ≡ Some a → IsOldAt k a) fs.queue.items d.queued each.queue
          (queued_each as_waiting_last (λ (v : Waiting). (a : ℕ) → address_in v ≡ Some a → IsOldAt k a) fs.lasts.items gs.lasts.items d.queued d.splits (λ j r at a is. cc))
          i w (ap (λ l. slice_get l i) (sym d.queue) ∙ got);
    }
