-- The seats of all players, and what their logs come to in one history.
use Rattle.std.specs.Prelude.{◌≢◌, ◌&&◌, cond, nat_le, not}
use Rattle.std.proofs.Common.{◌≡◌, ◌∙◌, ℕ, zero, suc, ◌+◌, ◌<◌, List, [], ◌∷◌, ◌++◌, get_or, length, map, set, Some, Option, slice_get, refl, sym, ap, subst, append-nil, append_assoc, arith}
use Rattle.std.specs.List.{AllByRecursion}
use Rattle.model_core.specs.declared.entry.Entry.{Entry}
use Rattle.model_core.specs.History.{Legal}
use Rattle.heap_rule.specs.declared.config.Config.{Config}
use Rattle.heap_rule.specs.Limits.{first_of, first_outside, sizes_in}
use Rattle.heap_rule.specs.Opening.{opening_tokens}
use Rattle.heap_rule.specs.Token.{SharedHeap}
use Rattle.run_turns.specs.Singly.Opening.{opened}
use Rattle.run_seats.specs.Shared.Sharing.{SharedView, ShareOne, shared_by}
use Rattle.run_joined.specs.Together.{IsOneHeap, MetRuns, OfHeap, TrailsEach, shared_seeing}
use Rattle.run_ledgers.specs.Ledgers.{IsLedger}
use Rattle.run_ledgers.proofs.Adding.{ledgers_stand}
use Rattle.run_plays.specs.Plays.{AreLogsOf, AreNew, AreSeatsOf, IsLogOf, IsOneHistory, LogView, Seat, run_seat, seats_from}

-- the domains of a heap that has just started have made no entry
new_from : (h : SharedHeap) (d n : ℕ) → AreNew (shared_by h (map opened (opening_tokens h.table h.config d n)))
new_from h d zero = tt
new_from h d (suc n) = (record { front = refl; ran = refl; commands = refl; next = refl; more = refl }, new_from h (d + 1) n)

pub all_new : (k : Config) (views : List SharedView) → ShareOne k views → AreNew views
all_new k views s = subst AreNew (sym s.runs) (new_from s.heap 0 s.heap.config.domains)

-- and sit in order
seated_from : (h : SharedHeap) (d n : ℕ) → map run_seat (shared_by h (map opened (opening_tokens h.table h.config d n))) ≡ seats_from h d n
seated_from h d zero = refl
seated_from h d (suc n) = ap (λ (l : List Seat). (h, d) ∷ l) (seated_from h (d + 1) n)

pub all_seated : (k : Config) (views : List SharedView) → ShareOne k views → AreSeatsOf k (map run_seat views)
all_seated k views s = record {
  heap = s.heap;
  size = s.size;
  are = ap (map run_seat) s.runs ∙ (seated_from s.heap 0 s.heap.config.domains ∙ ap (λ (c : Config). seats_from s.heap 0 c.domains) s.size);
}

seats_count : (h : SharedHeap) (d n : ℕ) → length (seats_from h d n) ≡ n
seats_count h d zero = refl
seats_count h d (suc n) = ap suc (seats_count h (d + 1) n)

pub map_count : {A B : Type 0} (f : A → B) (xs : List A) → length (map f xs) ≡ length xs
map_count f [] = refl
map_count f (x ∷ xs) = ap suc (map_count f xs)

pub nothing : {A : Type 0} (xs : List A) → length xs ≡ 0 → xs ≡ []
nothing [] none = refl
nothing (x ∷ xs) none = cc

pub how_many : (k : Config) (views : List SharedView) → ShareOne k views → length views ≡ k.domains
how_many k views s = let a = all_seated k views s in sym (map_count run_seat views) ∙ (ap (λ (l : List Seat). length l) a.are ∙ seats_count a.heap 0 k.domains)

-- domains that sit so are of one heap
one_heap : (h : SharedHeap) (d n : ℕ) (views : List SharedView) → map run_seat views ≡ seats_from h d n → OfHeap h views
one_heap h d n [] are = tt
one_heap h d zero (s ∷ views) are = cc
one_heap h d (suc n) (s ∷ views) are =
    let first : run_seat s ≡ (h, d) = cc in
    let rest : map run_seat views ≡ seats_from h (d + 1) n = cc in
    (ap (λ (x : Seat). x.0) first, one_heap h (d + 1) n views rest)

pub are_one : (k : Config) (views : List SharedView) → AreSeatsOf k (map run_seat views) → IsOneHeap views
are_one k views a = record { heap = a.heap; here = one_heap a.heap 0 k.domains views a.are }

-- a list of which a place is written
pub set_same : {A B : Type 0} (f : A → B) (xs : List A) (i : ℕ) (x d : A) → f x ≡ f (get_or xs i d) → map f (set xs i x) ≡ map f xs
set_same f [] i x d same = refl
set_same f (y ∷ xs) zero x d same = ap (λ b. b ∷ map f xs) same
set_same f (y ∷ xs) (suc i) x d same = ap (λ bs. f y ∷ bs) (set_same f xs i x d same)

pub set_count : {A : Type 0} (xs : List A) (i : ℕ) (x : A) → length (set xs i x) ≡ length xs
set_count [] i x = refl
set_count (y ∷ xs) zero x = refl
set_count (y ∷ xs) (suc i) x = ap suc (set_count xs i x)

-- one more log
pub one_log_more : (ls : List LogView) (ss : List SharedView) (l : LogView) (s : SharedView) → AreLogsOf ls ss → IsLogOf l s → AreLogsOf (ls ++ l ∷ []) (ss ++ s ∷ [])
one_log_more [] [] l s are one = (one, tt)
one_log_more [] (t ∷ ss) l s are one = absurd are
one_log_more (k ∷ ls) [] l s are one = absurd are
one_log_more (k ∷ ls) (t ∷ ss) l s are one = (are.0, one_log_more ls ss l s are.1 one)

pub logs_count : (ls : List LogView) (ss : List SharedView) → AreLogsOf ls ss → length ls ≡ length ss
logs_count [] [] are = refl
logs_count [] (t ∷ ss) are = absurd are
logs_count (k ∷ ls) [] are = absurd are
logs_count (k ∷ ls) (t ∷ ss) are = ap suc (logs_count ls ss are.1)

-- the log at a place is that of the domain with this number, of which the joined history has no more
at_seat : (history : List Entry) (s : SharedView) (l : LogView) (x : Seat) → run_seat s ≡ x → IsLogOf l s → TrailsEach history (s ∷ []) → IsLedger (sizes_in x.0.config) x.1 history (record { made = l.made; ran = l.told })
at_seat history s l x sits is trails =
    subst (λ (y : Seat). IsLedger (sizes_in y.0.config) y.1 history (record { made = l.made; ran = l.told })) sits
    (ledgers_stand (sizes_in s.heap.config) s.run.token.view.own.number history s.run.token.view.seen.front (record { made = l.made; ran = l.told }) is trails.0.begins)

each_log : (h : SharedHeap) (history : List Entry) (n more : ℕ) (ls : List LogView) (ss : List SharedView) → map run_seat ss ≡ seats_from h n more → AreLogsOf ls ss → TrailsEach history ss → (d : ℕ) (l : LogView) → slice_get ls d ≡ Some l → IsLedger (sizes_in h.config) (n + d) history (record { made = l.made; ran = l.told })
each_log h history n more [] ss sit are trails d l at = cc
each_log h history n more (k ∷ ls) [] sit are trails d l at = absurd are
each_log h history n zero (k ∷ ls) (s ∷ ss) sit are trails d l at = cc
each_log h history n (suc more) (k ∷ ls) (s ∷ ss) sit are trails zero l at =
    let first : run_seat s ≡ (h, n) = cc in
    let same : k ≡ l = cc in
    let place : n ≡ n + 0 = omega arith in
    subst (λ (m : ℕ). IsLedger (sizes_in h.config) m history (record { made = l.made; ran = l.told })) place
    (at_seat history s l (h, n) first (subst (λ (j : LogView). IsLogOf j s) same are.0) (trails.0, tt))
each_log h history n (suc more) (k ∷ ls) (s ∷ ss) sit are trails (suc d) l at =
    let rest : map run_seat ss ≡ seats_from h (n + 1) more = cc in
    let place : n + 1 + d ≡ n + suc d = omega arith in
    subst (λ (m : ℕ). IsLedger (sizes_in h.config) m history (record { made = l.made; ran = l.told })) place
    (each_log h history (n + 1) more ls ss rest are.1 trails.1 d l at)

-- each of those that have met has seen the history
all_seen : (h : SharedHeap) (history : List Entry) (ss : List SharedView) → OfHeap h ss → AllByRecursion (λ (s : SharedView). (s.heap ≡ h) × (s.run.token.view.seen.front ≡ history)) (map (shared_seeing history) ss)
all_seen h history [] here = tt
all_seen h history (s ∷ ss) here = ((here.0, refl), all_seen h history ss here.1)

last_of : {A : Type 0} (P : A → Type 0) (xs : List A) (x : A) → AllByRecursion P (xs ++ x ∷ []) → P x
last_of P [] x all = all.0
last_of P (y ∷ xs) x all = last_of P xs x all.1

last_seen : (h : SharedHeap) (old new rest : List SharedView) (last : SharedView) (m : MetRuns old new) → new ≡ rest ++ last ∷ [] → OfHeap h old → (last.heap ≡ h) × (last.run.token.view.seen.front ≡ m.history)
last_seen h old new rest last m is here =
    last_of (λ (s : SharedView). (s.heap ≡ h) × (s.run.token.view.seen.front ≡ m.history)) rest last
    (subst (AllByRecursion (λ (s : SharedView). (s.heap ≡ h) × (s.run.token.view.seen.front ≡ m.history))) (sym m.is ∙ is) (all_seen h m.history old here))

-- the last of them has the heap's numbers, and the history of all
pub ends_sizes : (k : Config) (old new rest : List SharedView) (last : SharedView) → AreSeatsOf k (map run_seat old) → MetRuns old new → new ≡ rest ++ last ∷ [] → sizes_in last.heap.config ≡ sizes_in k
ends_sizes k old new rest last a m is =
    let seen = last_seen a.heap old new rest last m is (one_heap a.heap 0 k.domains old a.are) in
    ap (λ (h : SharedHeap). sizes_in h.config) seen.0 ∙ ap sizes_in a.size

pub ends_one : (k : Config) (old new rest : List SharedView) (last : SharedView) (logs : List LogView) → AreSeatsOf k (map run_seat old) → AreLogsOf logs old → MetRuns old new → new ≡ rest ++ last ∷ [] → IsOneHistory (record { sizes = sizes_in last.heap.config; history = last.run.token.view.seen.front; logs = logs })
ends_one k old new rest last logs a are m is =
    let seen = last_seen a.heap old new rest last m is (one_heap a.heap 0 k.domains old a.are) in
    let met = last_seen m.heap old new rest last m is m.here in
    record {
      legal = subst (λ (w : SharedHeap × List Entry). Legal (sizes_in w.0.config) w.1) (λ i. (sym met.0 i, sym met.1 i)) m.legal;
      each = λ d l at.
          let place : 0 + d ≡ d = omega arith in
          subst (λ (w : SharedHeap × (List Entry × ℕ)). IsLedger (sizes_in w.0.config) w.1.1 w.1.0 (record { made = l.made; ran = l.told })) (λ i. (sym seen.0 i, (sym seen.1 i, place i)))
          (each_log a.heap m.history 0 k.domains logs old a.are are m.each d l at);
    }

-- there is a domain
starts_some : (n : ℕ) (later rooms : Option ℕ) → first_of (cond (not (nat_le 1 n && nat_le n 8)) (Some 1) later) rooms ≢ Some 1 → 0 < n
starts_some zero later rooms unlike = absurd (unlike refl)
starts_some (suc n) later rooms unlike = omega arith

pub some_domain : (k : Config) → first_outside k ≢ Some 1 → 0 < k.domains
some_domain k unlike = starts_some k.domains _ _ unlike

-- a log more, behind those of the domains before
pub parted_seats : {A : Type 0} (f : A → Seat) (xs rest all : List A) (x : A) (old new : List SharedView) (s : SharedView) → map run_seat old ++ map f xs ≡ map f all → xs ≡ x ∷ rest → run_seat s ≡ f x → new ≡ old ++ s ∷ [] → map run_seat new ++ map f rest ≡ map f all
parted_seats {A = A} f xs rest all x old new s before is sits more =
    ap (λ (l : List SharedView). map run_seat l ++ map f rest) more
    ∙ (ap (λ (l : List Seat). l ++ map f rest) (map_snoc run_seat old s)
    ∙ (append_assoc (map run_seat old) (run_seat s ∷ []) (map f rest)
    ∙ (ap (λ (y : Seat). map run_seat old ++ y ∷ map f rest) sits
    ∙ (ap (λ (l : List A). map run_seat old ++ map f l) (sym is) ∙ before))))
  where
    map_snoc : {C D : Type 0} (g : C → D) (ys : List C) (y : C) → map g (ys ++ y ∷ []) ≡ map g ys ++ g y ∷ []
    map_snoc g [] y = refl
    map_snoc g (z ∷ ys) y = ap (λ l. g z ∷ l) (map_snoc g ys y)

pub parted_all : {A : Type 0} (f : A → Seat) (xs given all : List A) (runs : List SharedView) → map run_seat runs ++ map f xs ≡ map f given → xs ≡ [] → given ≡ all → map run_seat runs ≡ map f all
parted_all {A = A} f xs given all runs before none is =
    sym (append-nil (map run_seat runs)) ∙ (ap (λ (l : List A). map run_seat runs ++ map f l) (sym none) ∙ (before ∙ ap (λ (l : List A). map f l) is))
