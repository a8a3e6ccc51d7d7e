-- The domains of the runs at some places are brought together.
use Rattle.std.proofs.Common.{◌≡◌, ◌≢◌, ⊎_elim, inl, inr, ◌∙◌, ℕ, zero, suc, ◌+◌, ◌<◌, ◌≤◌, List, [], ◌∷◌, ◌++◌, append_assoc, append-nil, length, map, set, slice_get, Option, Some, None, refl, sym, ap, subst, arith}
use Rattle.model_core.specs.declared.entry.Entry.{Entry}
use Rattle.heap_rule.specs.declared.config.Config.{Config}
use Rattle.heap_rule.specs.declared.view.DomainView.{DomainView}
use Rattle.heap_rule.specs.Ending.{AllIn, Begins}
use Rattle.heap_rule.specs.Meeting.{Meeting, MetAll, TakesPart, each_seeing, seeing}
use Rattle.heap_rule.specs.Phases.{Pause}
use Rattle.heap_rule.specs.Standing.{with_front}
use Rattle.heap_rule.specs.Token.{Token, SharedHeap, views_of}
use Rattle.heap_rule.specs.Views.{AllDomains, SomeDomain, rest_of}
use Rattle.heap_rule.proofs.Lists.{got_set}
use Rattle.heap_rule.proofs.Meetings.{tokens_seeing}
use Rattle.gc_pause.specs.Stops.Looks.{LooksTogether}
use Rattle.gc_pause.specs.declared.stops.answer.Look.{Look}
use Rattle.gc_pause.specs.declared.stops.answer.Look.TheVariants.{NotAll}
use Rattle.do_spawn.proofs.Making.{prefix_trans}
use Rattle.run_turns.specs.Meeting.{AllButOne, AllRunsMet, AreHere, ArrivedLeast, Brought, DidFirst, HasRun, MayLook, seeing_from, slot_seeing, tokens_from}
use Rattle.run_turns.specs.Runs.{RunView, GoesOn, run_seeing}
use Rattle.run_turns.proofs.Moving.{front_prefix}

-- lists that end with an item
snoc_same : {A : Type 0} (xs ys : List A) (a b : A) → xs ++ a ∷ [] ≡ ys ++ b ∷ [] → (xs ≡ ys) × (a ≡ b)
snoc_same [] [] a b same = (refl, cc)
snoc_same [] (y ∷ []) a b same = absurd (let n = ap length same in omega (arith, n))
snoc_same [] (y ∷ z ∷ ys) a b same = absurd (let n = ap length same in omega (arith, n))
snoc_same (x ∷ []) [] a b same = absurd (let n = ap length same in omega (arith, n))
snoc_same (x ∷ z ∷ xs) [] a b same = absurd (let n = ap length same in omega (arith, n))
snoc_same (x ∷ xs) (y ∷ ys) a b same =
    let rest : xs ++ a ∷ [] ≡ ys ++ b ∷ [] = cc in
    let first : x ≡ y = cc in
    let both = snoc_same xs ys a b rest in
    ((λ i. first i ∷ both.0 i), both.1)

each_snoc : (history : List Entry) (ts : List Token) (t : Token) → each_seeing history (ts ++ t ∷ []) ≡ each_seeing history ts ++ seeing t history ∷ []
each_snoc history [] t = refl
each_snoc history (u ∷ ts) t = ap (λ (l : List Token). seeing u history ∷ l) (each_snoc history ts t)

-- places of which one was emptied
none_from : (n : ℕ) (runs : List (Option RunView)) → length runs ≤ n → tokens_from n runs ≡ []
none_from n [] past = refl
none_from zero (slot ∷ runs) past = absurd (omega (arith, past))
none_from (suc n) (slot ∷ runs) past = none_from n runs (omega (arith, past))

still_from : (history : List Entry) (n : ℕ) (runs : List (Option RunView)) → length runs ≤ n → runs ≡ seeing_from history n runs
still_from history n [] past = refl
still_from history zero (slot ∷ runs) past = absurd (omega (arith, past))
still_from history (suc n) (slot ∷ runs) past = ap (λ (l : List (Option RunView)). slot ∷ l) (still_from history n runs (omega (arith, past)))

one_later : (n : ℕ) → suc (n + 1) ≡ suc n + 1
one_later n = omega arith

skips_token : (n : ℕ) (runs : List (Option RunView)) → slice_get runs n ≡ Some None → tokens_from n runs ≡ tokens_from (n + 1) runs
skips_token n [] none = cc
skips_token zero (None ∷ runs) none = refl
skips_token zero (Some r ∷ runs) none = absurd (let clash : Some r ≡ None = cc in cc)
skips_token (suc n) (slot ∷ runs) none = skips_token n runs none ∙ ap (λ (m : ℕ). tokens_from m (slot ∷ runs)) (one_later n)

skips_seeing : (history : List Entry) (n : ℕ) (runs : List (Option RunView)) → slice_get runs n ≡ Some None → seeing_from history (n + 1) runs ≡ seeing_from history n runs
skips_seeing history n [] none = cc
skips_seeing history zero (None ∷ runs) none = refl
skips_seeing history zero (Some r ∷ runs) none = absurd (let clash : Some r ≡ None = cc in cc)
skips_seeing history (suc n) (slot ∷ runs) none = ap (λ (m : ℕ). seeing_from history m (slot ∷ runs)) (sym (one_later n)) ∙ ap (λ (l : List (Option RunView)). slot ∷ l) (skips_seeing history n runs none)

takes_token : (n : ℕ) (runs : List (Option RunView)) (r : RunView) → HasRun runs n r → tokens_from n runs ≡ r.token ∷ tokens_from (n + 1) (set runs n None)
takes_token n [] r there = cc
takes_token zero (None ∷ runs) r there = absurd (let clash : None ≡ Some r = cc in cc)
takes_token zero (Some q ∷ runs) r there = let same : q ≡ r = cc in ap (λ (z : RunView). z.token ∷ tokens_from zero runs) same
takes_token (suc n) (slot ∷ runs) r there = takes_token n runs r there ∙ ap (λ (m : ℕ). r.token ∷ tokens_from m (slot ∷ set runs n None)) (one_later n)

puts_seeing : (history : List Entry) (n : ℕ) (runs : List (Option RunView)) (r : RunView) → HasRun runs n r → set (seeing_from history (n + 1) (set runs n None)) n (Some (run_seeing r history)) ≡ seeing_from history n runs
puts_seeing history n [] r there = cc
puts_seeing history zero (None ∷ runs) r there = absurd (let clash : None ≡ Some r = cc in cc)
puts_seeing history zero (Some q ∷ runs) r there = let same : q ≡ r = cc in ap (λ (z : RunView). Some (run_seeing z history) ∷ seeing_from history zero runs) (sym same)
puts_seeing history (suc n) (slot ∷ runs) r there = ap (λ (m : ℕ). set (seeing_from history m (slot ∷ set runs n None)) (suc n) (Some (run_seeing r history))) (sym (one_later n)) ∙ ap (λ (l : List (Option RunView)). slot ∷ l) (puts_seeing history n runs r there)

pub seeing_all : (history : List Entry) (runs : List (Option RunView)) → seeing_from history 0 runs ≡ map (slot_seeing history) runs
seeing_all history [] = refl
seeing_all history (slot ∷ runs) = ap (λ (l : List (Option RunView)). slot_seeing history slot ∷ l) (seeing_all history runs)

none_answers : (b : ℕ) → ◌≡◌ {A = Option Look} None (Some (NotAll b)) → ⊥
none_answers b is = cc

some_answer : (a b : Look) → ◌≡◌ {A = Option Look} (Some a) (Some b) → a ≡ b
some_answer a b is = cc

-- where nothing is left to be brought, all meet
pub met_brought : (k : Config) (old new : List Token) → 0 < length old → MetAll k old new → Brought k old new 0 [] [] None
met_brought k [] new some m = absurd (omega (arith, some))
met_brought k (t ∷ ts) new some m = record {
  history = m.history;
  pause = m.pause;
  one = t;
  behind = ts;
  was = refl;
  meets = subst (λ (l : List Token). Meeting k m.history m.pause (views_of l)) (sym (append-nil (t ∷ ts))) m.meets;
  did = seeing t m.history;
  is = m.seen;
  first = refl;
  acts = λ many least b is. none_answers b is;
  slots = refl;
}

-- or the first of them looks at the barrier
pub looks_brought : (k : Config) (h : SharedHeap) (old new : List Token) (answer : Look) → 0 < length old → AllIn h old → AllIn h new → LooksTogether k (views_of old) (views_of new) answer → Brought k old new 0 [] [] (Some answer)
looks_brought k h [] new answer some was here l = absurd (omega (arith, some))
looks_brought k h (t ∷ ts) [] answer some was here l = absurd (let none = ap length l.others in omega (arith, none))
looks_brought k h (t ∷ ts) (u ∷ us) answer some was here l =
    let rest = tokens_seeing h l.history ts us was.1 here.1 (ap rest_of l.others) in
    let whole = append-nil (t ∷ ts) in record {
      history = l.history;
      pause = l.pause;
      one = t;
      behind = ts;
      was = refl;
      meets = subst (λ (v : List Token). Meeting k l.history l.pause (views_of v)) (sym whole) l.meets;
      did = u;
      is = λ i. u ∷ rest i;
      first = (l.first, l.staged);
      acts = λ many least b is. l.acts (subst (λ (v : List Token). length (views_of v) ≡ k.domains) whole many) (subst (λ (v : List Token). AllDomains (λ x. t.view.own.arrivals ≤ x.own.arrivals) (views_of v)) whole least) b (some_answer answer (NotAll b) is);
      slots = refl;
    }

-- none of these places is left
pub brought_last : (k : Config) (old new : List Token) (n : ℕ) (runs : List (Option RunView)) (answer : Option Look) → length runs ≤ n → Brought k old new 0 [] [] answer → Brought k old new n runs runs answer
brought_last k old new n runs answer past b =
    let none = sym (none_from n runs past) in record {
      history = b.history;
      pause = b.pause;
      one = b.one;
      behind = b.behind;
      was = b.was;
      meets = subst (λ (ts : List Token). Meeting k b.history b.pause (views_of (old ++ ts))) none b.meets;
      did = b.did;
      is = b.is;
      first = b.first;
      acts = subst (λ (ts : List Token). length (views_of (old ++ ts)) ≡ k.domains → AllDomains (λ x. b.one.view.own.arrivals ≤ x.own.arrivals) (views_of (old ++ ts)) → (w : ℕ) → answer ≡ Some (NotAll w) → ⊥) none b.acts;
      slots = still_from b.history n runs past;
    }

-- a place without a run is passed over
pub brought_past : (k : Config) (old new : List Token) (n : ℕ) (runs met : List (Option RunView)) (answer : Option Look) → slice_get runs n ≡ Some None → Brought k old new (n + 1) runs met answer → Brought k old new n runs met answer
brought_past k old new n runs met answer none b =
    let same = sym (skips_token n runs none) in record {
      history = b.history;
      pause = b.pause;
      one = b.one;
      behind = b.behind;
      was = b.was;
      meets = subst (λ (ts : List Token). Meeting k b.history b.pause (views_of (old ++ ts))) same b.meets;
      did = b.did;
      is = b.is;
      first = b.first;
      acts = subst (λ (ts : List Token). length (views_of (old ++ ts)) ≡ k.domains → AllDomains (λ x. b.one.view.own.arrivals ≤ x.own.arrivals) (views_of (old ++ ts)) → (w : ℕ) → answer ≡ Some (NotAll w) → ⊥) same b.acts;
      slots = b.slots ∙ skips_seeing b.history n runs none;
    }

-- the domain of the run at a place went into the room, and came out of it as it was but for the history that it has seen
pub record CameBack (k : Config) (old new : List Token) (n : ℕ) (runs met : List (Option RunView)) (answer : Option Look) (r : RunView) (t : Token) : Type 0 where
  pub history : List Entry
  pub pause : Pause
  pub part : TakesPart history pause r.token.view
  pub token : t ≡ seeing r.token history
  pub brought : Brought k old new n runs (set met n (Some (record r { token = t }))) answer

part_of : (P : DomainView → Type 0) (ts us : List Token) (t : Token) → AllDomains P (views_of (ts ++ t ∷ us)) → P t.view
part_of P [] us t all = all.0
part_of P (u ∷ ts) us t all = part_of P ts us t all.1

pub came_back : (k : Config) (old mid new : List Token) (n : ℕ) (runs met : List (Option RunView)) (answer : Option Look) (r : RunView) (t : Token) → 0 < length old → HasRun runs n r → Brought k (old ++ r.token ∷ []) mid (n + 1) (set runs n None) met answer → mid ≡ new ++ t ∷ [] → CameBack k old new n runs met answer r t
came_back k [] mid new n runs met answer r t some there b popped = absurd (omega (arith, some))
came_back k (o ∷ old) mid new n runs met answer r t some there b popped =
    let one : o ≡ b.one = let was : o ∷ (old ++ r.token ∷ []) ≡ b.one ∷ b.behind = b.was in cc in
    let behind : old ++ r.token ∷ [] ≡ b.behind = let was : o ∷ (old ++ r.token ∷ []) ≡ b.one ∷ b.behind = b.was in cc in
    let now : new ++ t ∷ [] ≡ (b.did ∷ each_seeing b.history old) ++ seeing r.token b.history ∷ [] =
    sym popped ∙ (b.is ∙ (ap (λ (l : List Token). b.did ∷ each_seeing b.history l) (sym behind) ∙ ap (λ (l : List Token). b.did ∷ l) (each_snoc b.history old r.token))) in
    let out = snoc_same new (b.did ∷ each_seeing b.history old) t (seeing r.token b.history) now in
    let rest : List Token = tokens_from (n + 1) (set runs n None) in
    let same : ((o ∷ old) ++ r.token ∷ []) ++ rest ≡ (o ∷ old) ++ tokens_from n runs =
    append_assoc (o ∷ old) (r.token ∷ []) rest ∙ ap (λ (l : List Token). (o ∷ old) ++ l) (sym (takes_token n runs r there)) in
    let apart : ((o ∷ old) ++ r.token ∷ []) ++ rest ≡ (o ∷ old) ++ r.token ∷ rest = append_assoc (o ∷ old) (r.token ∷ []) rest in
    record {
      history = b.history;
      pause = b.pause;
      part = part_of (TakesPart b.history b.pause) (o ∷ old) rest r.token (subst (λ (l : List Token). AllDomains (TakesPart b.history b.pause) (views_of l)) apart b.meets.each);
      token = out.1;
      brought = record {
        history = b.history;
        pause = b.pause;
        one = b.one;
        behind = old;
        was = ap (λ (z : Token). z ∷ old) one;
        meets = subst (λ (l : List Token). Meeting k b.history b.pause (views_of l)) same b.meets;
        did = b.did;
        is = out.0;
        first = b.first;
        acts = subst (λ (l : List Token). length (views_of l) ≡ k.domains → AllDomains (λ x. b.one.view.own.arrivals ≤ x.own.arrivals) (views_of l) → (w : ℕ) → answer ≡ Some (NotAll w) → ⊥) same b.acts;
        slots = (λ i. set (b.slots i) n (Some (record r { token = out.1 i }))) ∙ puts_seeing b.history n runs r there;
      };
    }

-- the runs that are there
count_views : (ts : List Token) → length (views_of ts) ≡ length ts
count_views [] = refl
count_views (t ∷ ts) = ap suc (count_views ts)

all_at : (P : DomainView → Type 0) (runs : List (Option RunView)) → ((d : ℕ) (r : RunView) → HasRun runs d r → P r.token.view) → AllDomains P (views_of (tokens_from 0 runs))
all_at P [] all = tt
all_at P (None ∷ runs) all = all_at P runs (λ d r there. all (suc d) r there)
all_at P (Some q ∷ runs) all = (all 0 q refl, all_at P runs (λ d r there. all (suc d) r there))

part_at : (P : DomainView → Type 0) (runs : List (Option RunView)) (d : ℕ) (r : RunView) → HasRun runs d r → AllDomains P (views_of (tokens_from 0 runs)) → P r.token.view
part_at P [] d r there all = cc
part_at P (None ∷ runs) zero r there all = absurd (let clash : ◌≡◌ {A = Option RunView} None (Some r) = cc in cc)
part_at P (None ∷ runs) (suc d) r there all = part_at P runs d r there all
part_at P (Some q ∷ runs) zero r there all = let same : q ≡ r = cc in subst (λ (z : RunView). P z.token.view) same all.0
part_at P (Some q ∷ runs) (suc d) r there all = part_at P runs d r there all.1

some_at : (P : DomainView → Type 0) (runs : List (Option RunView)) → SomeDomain P (views_of (tokens_from 0 runs)) → (d : ℕ) × (r : RunView) × HasRun runs d r × P r.token.view
some_at P [] one = absurd one
some_at P (None ∷ runs) one = let at = some_at P runs one in (suc at.0, at.1, at.2, at.3)
some_at P (Some q ∷ runs) one = ⊎_elim (λ (here : P q.token.view). (0, q, refl, here)) (λ (there : SomeDomain P (views_of (tokens_from 0 runs))). let at = some_at P runs there in (suc at.0, at.1, at.2, at.3)) one

-- as many as places
filled_count : (runs : List (Option RunView)) → ((d : ℕ) → d < length runs → (r : RunView) × HasRun runs d r) → length (tokens_from 0 runs) ≡ length runs
filled_count [] filled = refl
filled_count (None ∷ runs) filled = absurd (let at = filled 0 (omega arith) in none_there at.0 at.1)
  where
    none_there : (r : RunView) → ◌≡◌ {A = Option (Option RunView)} (Some None) (Some (Some r)) → ⊥
    none_there r is = let clash : ◌≡◌ {A = Option RunView} None (Some r) = cc in cc
filled_count (Some r ∷ runs) filled = ap suc (filled_count runs (λ d below. filled (suc d) (omega (arith, below))))

-- or as many but one
one_less : (runs : List (Option RunView)) (at : ℕ) → slice_get runs at ≡ Some None → ((d : ℕ) → d < length runs → d ≢ at → (r : RunView) × HasRun runs d r) → suc (length (tokens_from 0 runs)) ≡ length runs
one_less [] at away there = cc
one_less (None ∷ runs) zero away there = ap suc (filled_count runs (λ d below. there (suc d) (omega (arith, below)) (λ e. omega (arith, e))))
one_less (Some r ∷ runs) zero away there = absurd (let clash : ◌≡◌ {A = Option RunView} (Some r) None = cc in cc)
one_less (None ∷ runs) (suc at) away there = absurd (let one = there 0 (omega arith) (λ e. omega (arith, e)) in none_there one.0 one.1)
  where
    none_there : (r : RunView) → ◌≡◌ {A = Option (Option RunView)} (Some None) (Some (Some r)) → ⊥
    none_there r is = let clash : ◌≡◌ {A = Option RunView} None (Some r) = cc in cc
one_less (Some r ∷ runs) (suc at) away there = ap suc (one_less runs at away (λ d below other. there (suc d) (omega (arith, below)) (λ e. other (omega (arith, e)))))

all_but_one : (h : SharedHeap) (t : Token) (runs : List (Option RunView)) → AllButOne h runs → length (views_of ((t ∷ []) ++ tokens_from 0 runs)) ≡ h.config.domains
all_but_one h t runs all = ap suc (count_views (tokens_from 0 runs)) ∙ (one_less runs all.at all.away all.there ∙ all.count)

-- the run whose domain alone lay in the room, and what became of it
pub record AllMet (h : SharedHeap) (one : RunView) (rest : List Token) (t : Token) (runs met : List (Option RunView)) (answer : Option Look) : Type 0 where
  pub empty : rest ≡ []
  pub history : List Entry
  pub pause : Pause
  pub first : DidFirst h.config pause (with_front one.token.view history) t.view answer
  pub begins : Begins history one.token.view
  pub all : AllRunsMet h one (run_seeing one history) runs met
  pub same : all.pause ≡ pause
  pub acts : AllButOne h runs → ArrivedLeast one runs → (b : ℕ) → answer ≡ Some (NotAll b) → ⊥

pub all_met : (h : SharedHeap) (one : RunView) (old new rest : List Token) (t : Token) (runs met : List (Option RunView)) (answer : Option Look) → old ≡ one.token ∷ [] → Brought h.config old new 0 runs met answer → new ≡ rest ++ t ∷ [] → AllMet h one rest t runs met answer
all_met h one old new rest t runs met answer was brought popped =
    let b = subst (λ (ts : List Token). Brought h.config ts new 0 runs met answer) was brought in
    let who : one.token ≡ b.one = let all : one.token ∷ [] ≡ b.one ∷ b.behind = b.was in cc in
    let none : b.behind ≡ [] = let all : one.token ∷ [] ≡ b.one ∷ b.behind = b.was in cc in
    let out = snoc_same rest [] t b.did (sym popped ∙ (b.is ∙ ap (λ (ts : List Token). b.did ∷ each_seeing b.history ts) none)) in
    let did : b.did ≡ t = sym out.1 in
    let part = b.meets.each.0 in record {
      empty = out.0;
      history = b.history;
      pause = b.pause;
      first = subst (λ (p : Token × Token). DidFirst h.config b.pause (with_front p.0.view b.history) p.1.view answer) (λ i. (sym who i, did i)) b.first;
      begins = part.trails.begins;
      all = record {
        history = b.history;
        pause = b.pause;
        legal = b.meets.legal;
        own = part;
        each = λ d r there. part_at (TakesPart b.history b.pause) runs d r there b.meets.each.1;
        acts = λ all. ⊎_elim (λ (here : one.token.view.own.arrivals ≡ b.pause.phase). inl here)
            (λ (there : SomeDomain (λ x. x.own.arrivals ≡ b.pause.phase) (views_of (tokens_from 0 runs))). inr (some_at (λ x. x.own.arrivals ≡ b.pause.phase) runs there))
            (b.meets.acts (all_but_one h one.token runs all));
        own_is = refl;
        each_is = b.slots ∙ seeing_all b.history runs;
      };
      same = refl;
      acts = λ all least. b.acts (all_but_one h one.token runs all)
          (subst (λ (o : Token). AllDomains (λ x. o.view.own.arrivals ≤ x.own.arrivals) (views_of ((one.token ∷ []) ++ tokens_from 0 runs))) who (omega arith, all_at (λ x. one.token.view.own.arrivals ≤ x.own.arrivals) runs least));
    }

-- who goes on behind a meeting goes on
pub goes_behind : (one new : RunView) (history : List Entry) → Begins history one.token.view → GoesOn (run_seeing one history) new → GoesOn one new
goes_behind one new history begins g = record { commands = g.commands; supply = g.supply; spawned = g.spawned; number = g.number; front = prefix_trans one.token.view.seen.front history new.token.view.seen.front (front_prefix _ _ _ begins) g.front; over = λ ended. let o = g.over ended in record { ended = o.ended; next = o.next; replies = o.replies } }

-- the other places are as they were
pub here_else : (h : SharedHeap) (runs : List (Option RunView)) (n : ℕ) → AreHere h runs → AreHere h (set runs n None)
here_else h runs n all d r there = ⊎_elim
    (λ (same : (d ≡ n) × ◌≡◌ {A = Option RunView} None (Some r)). absurd (let clash : ◌≡◌ {A = Option RunView} None (Some r) = same.1 in cc))
    (λ (other : (d ≢ n) × (slice_get runs d ≡ Some (Some r))). all d r other.1)
    (got_set runs n d None (Some r) there)

-- the first of the room stays the first
pub may_look_snoc : (ts : List Token) (t : Token) → 0 < length ts → MayLook ts → MayLook (ts ++ t ∷ [])
may_look_snoc [] t some may = absurd (omega (arith, some))
may_look_snoc (u ∷ ts) t some may = may

-- what was brought together isn't nothing
pub brought_some : (k : Config) (old new : List Token) (n : ℕ) (runs met : List (Option RunView)) (answer : Option Look) → Brought k old new n runs met answer → 0 < length new
brought_some k old new n runs met answer b = let long = ap length b.is in omega (arith, long)

pub some_length : (ts : List Token) (t : Token) → 0 < length (ts ++ t ∷ [])
some_length [] t = omega arith
some_length (u ∷ ts) t = omega arith

-- a place that was empty stays so
pub unset : (runs : List (Option RunView)) (n : ℕ) → slice_get runs n ≡ Some None → set runs n None ≡ runs
unset [] n none = refl
unset (None ∷ runs) zero none = refl
unset (Some r ∷ runs) zero none = absurd (let clash : ◌≡◌ {A = Option RunView} (Some r) None = cc in cc)
unset (slot ∷ runs) (suc n) none = ap (λ (l : List (Option RunView)). slot ∷ l) (unset runs n none)
