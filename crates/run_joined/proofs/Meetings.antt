-- Domains of one heap that meet, one after the other taken out and put back.
use Rattle.std.specs.Prelude.{◌||◌, IsTrue}
use Rattle.std.proofs.Common.{◌≡◌, ◌∙◌, ℕ, zero, suc, ◌+◌, ◌<◌, Bool, true, false, append-nil, length-append, List, [], ◌∷◌, ◌++◌, length, map, take, drop, Option, Some, None, slice_get, refl, sym, ap, subst, arith}
use Rattle.std.specs.List.{AllByRecursion, list_any}
use Rattle.model_core.specs.declared.entry.Entry.{Entry}
use Rattle.model_core.specs.declared.state.Sizes.{Sizes}
use Rattle.model_core.specs.Domains.{opening}
use Rattle.model_core.specs.History.{Legal, commands, replies, state_after}
use Rattle.model_core.proofs.Histories.HistoryLemmas.{commands-append, commands-others, replies_from-append, replies_from-others}
use Rattle.run_turns.specs.Kept.{is_command_of, is_run_of}
use Rattle.run_turns.proofs.Kept.{picked_front, picks_commands, picks_runs}
use Rattle.heap_rule.specs.declared.config.Config.{Config}
use Rattle.heap_rule.specs.Limits.{sizes_in}
use Rattle.heap_rule.specs.Meeting.{TakesPart, Trails}
use Rattle.heap_rule.specs.Phases.{Pause}
use Rattle.heap_rule.specs.Token.{IsIn, SharedHeap}
use Rattle.run_turns.specs.Meeting.{AllRunsMet, AreHere, HasRun, slot_seeing}
use Rattle.run_turns.specs.Runs.{IsRun, RunView, is_end_of, run_seeing}
use Rattle.run_seats.specs.Shared.Sharing.{SharedView}
use Rattle.run_joined.specs.Together.{AreOver, AreRuns, Ends, EndsEach, MetBelow, MetRuns, OfHeap, OfSizes, TrailsEach, TrailsSlot, shared_seeing}

-- lists with a last item
snoc_same : {A : Type 0} (xs ys : List A) (a b : A) → xs ++ a ∷ [] ≡ ys ++ b ∷ [] → (xs ≡ ys) × (a ≡ b)
snoc_same [] [] a b same = (refl, cc)
snoc_same [] (y ∷ []) a b same = absurd (let n = ap length same in omega (arith, n))
snoc_same [] (y ∷ z ∷ ys) a b same = absurd (let n = ap length same in omega (arith, n))
snoc_same (x ∷ []) [] a b same = absurd (let n = ap length same in omega (arith, n))
snoc_same (x ∷ z ∷ xs) [] a b same = absurd (let n = ap length same in omega (arith, n))
snoc_same (x ∷ xs) (y ∷ ys) a b same =
    let rest : xs ++ a ∷ [] ≡ ys ++ b ∷ [] = cc in
    let first : x ≡ y = cc in
    let both = snoc_same xs ys a b rest in
    ((λ i. first i ∷ both.0 i), both.1)

map_snoc : {A B : Type 0} (f : A → B) (xs : List A) (x : A) → map f (xs ++ x ∷ []) ≡ map f xs ++ f x ∷ []
map_snoc f [] x = refl
map_snoc f (y ∷ xs) x = ap (λ l. f y ∷ l) (map_snoc f xs x)

pub map_count : {A B : Type 0} (f : A → B) (xs : List A) → length (map f xs) ≡ length xs
map_count f [] = refl
map_count f (x ∷ xs) = ap suc (map_count f xs)

all_snoc : {A : Type 0} (P : A → Type 0) (xs : List A) (x : A) → AllByRecursion P xs → P x → AllByRecursion P (xs ++ x ∷ [])
all_snoc P [] x all one = (one, tt)
all_snoc P (y ∷ xs) x all one = (all.0, all_snoc P xs x all.1 one)

all_split : {A : Type 0} (P : A → Type 0) (xs : List A) (x : A) → AllByRecursion P (xs ++ x ∷ []) → AllByRecursion P xs × P x
all_split P [] x all = (tt, all.0)
all_split P (y ∷ xs) x all = let b = all_split P xs x all.1 in ((all.0, b.0), b.1)

pub nothing : {A : Type 0} (xs : List A) → length xs ≡ 0 → xs ≡ []
nothing [] none = refl
nothing (x ∷ xs) none = cc

-- what is written back to a list that lent its places
take_whole : {A : Type 0} (ys zs : List A) → take (length ys) (ys ++ zs) ≡ ys
take_whole [] zs = refl
take_whole (y ∷ ys) zs = ap (λ l. y ∷ l) (take_whole ys zs)

pub written_back : {A : Type 0} (n : ℕ) (ys xs : List A) → n ≡ length ys → take n (ys ++ drop (length ys) xs) ≡ ys
written_back n ys xs same = ap (λ (m : ℕ). take m (ys ++ drop (length ys) xs)) same ∙ take_whole ys (drop (length ys) xs)

-- domains of a heap of which the last was taken out
pub taken_here : (h : SharedHeap) (old rest : List SharedView) (s : SharedView) → old ≡ rest ++ s ∷ [] → OfHeap h old → OfHeap h rest × (s.heap ≡ h)
taken_here h old rest s is here = all_split (λ (x : SharedView). x.heap ≡ h) rest s (subst (OfHeap h) is here)

-- one more run besides is one of the heap's
more_at : (h : SharedHeap) (runs : List (Option RunView)) (r : RunView) → AreHere h runs → IsIn r.token h → AreHere h (runs ++ Some r ∷ [])
more_at h [] r here one zero q at = let same : r ≡ q = cc in subst (λ (x : RunView). IsIn x.token h) same one
more_at h [] r here one (suc d) q at = cc
more_at h (slot ∷ runs) r here one zero q at = here zero q at
more_at h (slot ∷ runs) r here one (suc d) q at = more_at h runs r (λ e x a. here (suc e) x a) one d q at

pub more_here : (h : SharedHeap) (old new : List (Option RunView)) (r : RunView) → new ≡ old ++ Some r ∷ [] → AreHere h old → IsIn r.token h → AreHere h new
more_here h old new r is here one = subst (AreHere h) (sym is) (more_at h old r here one)

-- what holds at each place
all_slots : (history : List Entry) (pause : Pause) (runs : List (Option RunView)) → ((d : ℕ) (r : RunView) → HasRun runs d r → TakesPart history pause r.token.view) → AllByRecursion (TrailsSlot history) runs
all_slots history pause [] each = tt
all_slots history pause (None ∷ runs) each = (tt, all_slots history pause runs (λ d r at. each (suc d) r at))
all_slots history pause (Some r ∷ runs) each = ((each 0 r refl).trails, all_slots history pause runs (λ d q at. each (suc d) q at))

-- where nothing is left to be brought, all meet
pub met_at_once : (h : SharedHeap) (first met : RunView) (old new : List SharedView) (others seen : List (Option RunView)) → old ≡ [] → new ≡ [] → AllRunsMet h first met others seen → MetBelow h first met old new others seen
met_at_once h first met old new others seen none still m = record {
  history = m.history;
  legal = m.legal;
  own = m.own.trails;
  own_is = m.own_is;
  each = subst (TrailsEach m.history) (sym none) tt;
  are = subst AreRuns (sym none) tt;
  each_is = still ∙ ap (map (shared_seeing m.history)) (sym none);
  besides = all_slots m.history m.pause others m.each;
  besides_is = m.each_is;
}

-- one that was taken out and put besides comes back
module _ (h : SharedHeap) (first met : RunView) (old rest back new : List SharedView) (s : SharedView) (q : RunView) (others more seen left : List (Option RunView)) (heap : SharedHeap) where
  slot_back : (b : MetBelow h first met rest back more seen) → more ≡ others ++ Some s.run ∷ [] → (slot : Option RunView) → seen ≡ left ++ slot ∷ [] → (left ≡ map (slot_seeing b.history) others) × (slot ≡ Some (run_seeing s.run b.history))
  slot_back b pushed slot popped = snoc_same left (map (slot_seeing b.history) others) slot (Some (run_seeing s.run b.history)) (sym popped ∙ (b.besides_is ∙ (ap (map (slot_seeing b.history)) pushed ∙ map_snoc (slot_seeing b.history) others (Some s.run))))

  some_back : (x : RunView) (y : RunView) → ◌≡◌ {A = Option RunView} (Some x) (Some y) → x ≡ y
  some_back x y e = cc

  pub none_back : MetBelow h first met rest back more seen → more ≡ others ++ Some s.run ∷ [] → seen ≡ left ++ None ∷ [] → ⊥
  none_back b pushed popped = let e = (slot_back b pushed None popped).1 in cc

  pub came_back : (b : MetBelow h first met rest back more seen) → more ≡ others ++ Some s.run ∷ [] → seen ≡ left ++ Some q ∷ [] → q ≡ run_seeing s.run b.history
  came_back b pushed popped = some_back q (run_seeing s.run b.history) (slot_back b pushed (Some q) popped).1

  pub back_here : MetBelow h first met rest back more seen → more ≡ others ++ Some s.run ∷ [] → seen ≡ left ++ Some q ∷ [] → IsIn s.run.token heap → IsIn q.token heap
  back_here b pushed popped here = subst (λ (x : RunView). IsIn x.token heap) (sym (came_back b pushed popped)) here

  pub met_one : MetBelow h first met rest back more seen → old ≡ rest ++ s ∷ [] → more ≡ others ++ Some s.run ∷ [] → seen ≡ left ++ Some q ∷ [] → heap ≡ s.heap → new ≡ back ++ (record { heap = heap; run = q }) ∷ [] → IsRun s.run → MetBelow h first met old new others left
  met_one b was pushed popped same put is =
      let slot = slot_back b pushed (Some q) popped in
      let parts = all_split (TrailsSlot b.history) others (Some s.run) (subst (AllByRecursion (TrailsSlot b.history)) pushed b.besides) in
      let one : ◌≡◌ {A = SharedView} (record { heap = heap; run = q }) (shared_seeing b.history s) = λ i. record { heap = same i; run = came_back b pushed popped i } in
      record {
        history = b.history;
        legal = b.legal;
        own = b.own;
        own_is = b.own_is;
        each = subst (TrailsEach b.history) (sym was) (all_snoc (λ (x : SharedView). Trails b.history x.run.token.view) rest s b.each parts.1);
        are = subst AreRuns (sym was) (all_snoc (λ (x : SharedView). IsRun x.run) rest s b.are is);
        each_is = put ∙ ((λ i. b.each_is i ++ one i ∷ []) ∙ (sym (map_snoc (shared_seeing b.history) rest s) ∙ ap (map (shared_seeing b.history)) (sym was)));
        besides = parts.0;
        besides_is = slot.0;
      }

-- what a last one that was taken out of those that have met has seen
last_seen : (history : List Entry) (old rest : List SharedView) (last : SharedView) → map (shared_seeing history) old ≡ rest ++ last ∷ [] → last.run.token.view.seen.front ≡ history
last_seen history [] rest last is = absurd (let n = ap length is ∙ length-append rest (last ∷ []) in omega (arith, n))
last_seen history (s ∷ []) [] last is = let same : shared_seeing history s ≡ last = cc in ap (λ (x : SharedView). x.run.token.view.seen.front) (sym same)
last_seen history (s ∷ u ∷ ss) [] last is = absurd (let n = ap length is in omega (arith, n))
last_seen history (s ∷ ss) (r ∷ rest) last is = let more : map (shared_seeing history) ss ≡ rest ++ last ∷ [] = cc in last_seen history ss rest last more

pub seen_last : (old new rest : List SharedView) (last : SharedView) → (m : MetRuns old new) → new ≡ rest ++ last ∷ [] → last.run.token.view.seen.front ≡ m.history
seen_last old new rest last m is = last_seen m.history old rest last (sym m.is ∙ is)

here_seen : (h : SharedHeap) (history : List Entry) (xs : List SharedView) → OfHeap h xs → OfHeap h (map (shared_seeing history) xs)
here_seen h history [] here = tt
here_seen h history (s ∷ ss) here = (here.0, here_seen h history ss here.1)

pub heap_last : (old new rest : List SharedView) (last : SharedView) → (m : MetRuns old new) → new ≡ rest ++ last ∷ [] → last.heap ≡ m.heap
heap_last old new rest last m is = (taken_here m.heap new rest last is (subst (OfHeap m.heap) (sym m.is) (here_seen m.heap m.history old m.here))).1

pub legal_last : (old new rest : List SharedView) (last : SharedView) (r : RunView) → MetRuns old new → new ≡ rest ++ last ∷ [] → r ≡ last.run → IsIn last.run.token last.heap → Legal (sizes_in r.token.config) r.token.view.seen.front
legal_last old new rest last r m is run here =
    let config : r.token.config ≡ m.heap.config = ap (λ (x : RunView). x.token.config) run ∙ (here.1 ∙ ap (λ (x : SharedHeap). x.config) (heap_last old new rest last m is)) in
    let front : r.token.view.seen.front ≡ m.history = ap (λ (x : RunView). x.token.view.seen.front) run ∙ seen_last old new rest last m is in
    subst (λ (w : Config × List Entry). Legal (sizes_in w.0) w.1) (λ i. (sym config i, sym front i)) m.legal

of_sizes : (h : SharedHeap) (xs : List SharedView) → OfHeap h xs → OfSizes (sizes_in h.config) xs
of_sizes h [] here = tt
of_sizes h (s ∷ ss) here = (ap (λ (x : SharedHeap). sizes_in x.config) here.0, of_sizes h ss here.1)

config_last : (old new rest : List SharedView) (last : SharedView) (r : RunView) → (m : MetRuns old new) → new ≡ rest ++ last ∷ [] → r ≡ last.run → IsIn last.run.token last.heap → sizes_in r.token.config ≡ sizes_in m.heap.config
config_last old new rest last r m is run here = ap sizes_in (ap (λ (x : RunView). x.token.config) run ∙ (here.1 ∙ ap (λ (x : SharedHeap). x.config) (heap_last old new rest last m is)))

pub sizes_last : (old new rest : List SharedView) (last : SharedView) (r : RunView) → MetRuns old new → new ≡ rest ++ last ∷ [] → r ≡ last.run → IsIn last.run.token last.heap → OfSizes (sizes_in r.token.config) old
sizes_last old new rest last r m is run here = subst (λ (z : Sizes). OfSizes z old) (sym (config_last old new rest last r m is run here)) (of_sizes m.heap old m.here)

any_more : (a b c : Bool) → IsTrue (a || b) → (IsTrue b → IsTrue c) → IsTrue (a || c)
any_more true b c h f = refl
any_more false b c h f = f h

any_front : (p : Entry → Bool) (xs ys : List Entry) → IsTrue (list_any p xs) → IsTrue (list_any p (xs ++ ys))
any_front p [] ys h = cc
any_front p (x ∷ xs) ys h = any_more (p x) (list_any p xs) (list_any p (xs ++ ys)) h (any_front p xs ys)

-- a domain that has ended, and whose front begins the history, which has no other entry of it
ends_one : (z : Sizes) (history : List Entry) (s : SharedView) → Trails history s.run.token.view → IsRun s.run → s.run.ended ≡ true → Ends z history s
ends_one z history s trails is over =
    let d : ℕ = s.run.token.view.own.number in
    let f = trails.begins in
    record {
      front = f;
      commands_are = ap (λ (h : List Entry). commands h d) f.appends ∙ (commands-append s.run.token.view.seen.front f.rest d ∙ (ap (λ t. commands s.run.token.view.seen.front d ++ t) (commands-others f.rest d f.others) ∙ append-nil (commands s.run.token.view.seen.front d)));
      replies_are = ap (λ (h : List Entry). replies z h d) f.appends
          ∙ (replies_from-append (opening z) s.run.token.view.seen.front f.rest d ∙ (ap (λ t. replies z s.run.token.view.seen.front d ++ t) (replies_from-others (state_after (opening z) s.run.token.view.seen.front) f.rest d f.others) ∙ append-nil (replies z s.run.token.view.seen.front d)));
      answers_are = picked_front d (is_command_of d) (picks_commands d) z history s.run.token.view.seen.front f;
      ran_are = picked_front d (is_run_of d) (picks_runs d) z history s.run.token.view.seen.front f;
      ended = subst (λ (h : List Entry). IsTrue (list_any (is_end_of d) h)) (sym f.appends) (any_front (is_end_of d) s.run.token.view.seen.front f.rest (is.over over));
    }

ends_each : (z : Sizes) (history : List Entry) (xs : List SharedView) → TrailsEach history xs → AreRuns xs → AreOver xs → EndsEach z history xs
ends_each z history [] trails are over = tt
ends_each z history (s ∷ ss) trails are over = (ends_one z history s trails.0 are.0 over.0, ends_each z history ss trails.1 are.1 over.1)

pub ends_last : (old new rest : List SharedView) (last : SharedView) (r : RunView) → MetRuns old new → new ≡ rest ++ last ∷ [] → r ≡ last.run → AreOver old → EndsEach (sizes_in r.token.config) r.token.view.seen.front old
ends_last old new rest last r m is run over =
    let front : r.token.view.seen.front ≡ m.history = ap (λ (x : RunView). x.token.view.seen.front) run ∙ seen_last old new rest last m is in
    subst (λ (h : List Entry). EndsEach (sizes_in r.token.config) h old) (sym front) (ends_each (sizes_in r.token.config) m.history old m.each m.are over)

-- at last the first one comes back
pub met_all : (h : SharedHeap) (met : RunView) (old rest back new : List SharedView) (s : SharedView) (seen : List (Option RunView)) (heap : SharedHeap) → MetBelow h s.run met rest back [] seen → old ≡ rest ++ s ∷ [] → OfHeap h old → heap ≡ s.heap → new ≡ back ++ (record { heap = heap; run = met }) ∷ [] → IsRun s.run → MetRuns old new
met_all h met old rest back new s seen heap b was here same put is =
    let one : ◌≡◌ {A = SharedView} (record { heap = heap; run = met }) (shared_seeing b.history s) = λ i. record { heap = same i; run = b.own_is i } in
    record {
      heap = h;
      here = here;
      history = b.history;
      legal = b.legal;
      each = subst (TrailsEach b.history) (sym was) (all_snoc (λ (x : SharedView). Trails b.history x.run.token.view) rest s b.each b.own);
      are = subst AreRuns (sym was) (all_snoc (λ (x : SharedView). IsRun x.run) rest s b.are is);
      is = put ∙ ((λ i. b.each_is i ++ one i ∷ []) ∙ (sym (map_snoc (shared_seeing b.history) rest s) ∙ ap (map (shared_seeing b.history)) (sym was)));
    }

pub met_first : (g h : SharedHeap) (first met : RunView) (old rest back new : List SharedView) (s : SharedView) (others seen : List (Option RunView)) → MetBelow g first met rest back others seen → others ≡ [] → old ≡ rest ++ s ∷ [] → OfHeap h old → g ≡ s.heap → first ≡ s.run
    → new ≡ back ++ (record { heap = g; run = met }) ∷ [] → IsRun first → MetRuns old new
met_first g h first met old rest back new s others seen b none was here same run put is =
    let of : s.heap ≡ h = (taken_here h old rest s was here).1 in
    let below : MetBelow h s.run met rest back [] seen = subst (λ (w : SharedHeap × (RunView × List (Option RunView))). MetBelow w.0 w.1.0 met rest back w.1.1 seen) (λ i. ((same ∙ of) i, (run i, none i))) b in
    met_all h met old rest back new s seen g below was here same put (subst IsRun run is)

pub none_left : (old new : List SharedView) → MetRuns old new → 0 < length old → length new ≡ 0 → ⊥
none_left old new m some none = let n = ap length m.is ∙ map_count (shared_seeing m.history) old in omega (arith, some, none, n)

-- the domains that are left are of the heap of the one that was taken out
pub left_here : (g h : SharedHeap) (old rest : List SharedView) (s : SharedView) → old ≡ rest ++ s ∷ [] → OfHeap h old → g ≡ s.heap → OfHeap g rest
left_here g h old rest s was here same = let out = taken_here h old rest s was here in subst (λ (x : SharedHeap). OfHeap x rest) (sym (same ∙ out.1)) out.0

pub none_here : (h : SharedHeap) (runs : List (Option RunView)) → runs ≡ [] → AreHere h runs
none_here h runs none = subst (AreHere h) (sym none) (λ d r at. cc)
