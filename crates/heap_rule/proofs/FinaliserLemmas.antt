-- Registrations and queues through steps: what stands for them stands for them still.
use Rattle.std.proofs.Common.{◌≡◌, ◌≢◌, ℕ, zero, suc, ◌+◌, Bool, true, false, IsTrue, List, [], ◌∷◌, ◌++◌, length, map, take, drop, get_or, set, slice_get, option_map, option_and_then, Option, Some, None, sym, refl, ap, ◌∙◌, subst, get_or-set_other}
use Rattle.std.specs.Prelude.{remove}
use Rattle.model_core.specs.declared.label.Label.{Label}
use Rattle.model_core.specs.declared.command.Command.{Command}
use Rattle.model_core.specs.declared.entry.Entry.{Entry}
use Rattle.model_core.specs.declared.entry.Entry.TheVariants.{Command as CommandOf, End, Cut, Queue as QueueOf, Seal, Wipe, Last as LastOf, Collected, Done, Ran}
use Rattle.model_core.specs.declared.graph.Node.{Node}
use Rattle.model_core.specs.declared.state.DomainState.{DomainState}
use Rattle.model_core.specs.declared.state.Finaliser.{Finaliser}
use Rattle.model_core.specs.declared.state.LastFinaliser.{LastFinaliser}
use Rattle.model_core.specs.declared.state.Pending.{Pending}
use Rattle.model_core.specs.declared.state.Pending.TheVariants.{Fin as FinPending, Last as LastPending}
use Rattle.model_core.specs.declared.state.State as model
use Rattle.model_core.specs.Commands.{outcome, allocated}
use Rattle.model_core.specs.Domains.{domain_at, no_domain, pending_label, with_domain}
use Rattle.model_core.specs.Entries.{next, wiped, with_wiped, without_first, after_run}
use Rattle.model_core.specs.Graph.{node_at}
use Rattle.model_core.specs.History.{is_entry_of}
use Rattle.model_core.proofs.Commands.FrameLemmas.{part_set, part_map, frame_command, not_same}
use Rattle.model_core.proofs.Commands.MoveLemmas.{moved, registers_one}
use Rattle.heap_rule.specs.declared.phase.Kind.{Kind}
use Rattle.heap_rule.specs.declared.phase.Kind.TheVariants.{Roots, Queued}
use Rattle.heap_rule.specs.declared.view.Finalisers.{Finalisers}
use Rattle.heap_rule.specs.declared.view.Registered.{Registered}
use Rattle.heap_rule.specs.declared.view.RegisteredLast.{RegisteredLast}
use Rattle.heap_rule.specs.declared.view.Waiting.{Waiting}
use Rattle.heap_rule.specs.declared.view.Waiting.TheVariants.{Fin as FinWaiting, Last as LastWaiting}
use Rattle.heap_rule.specs.Cycles.{HasNoCycle}
use Rattle.heap_rule.specs.Deciding.{Deciding, IsRooting}
use Rattle.heap_rule.specs.Finalisers.{Paired, LivesAt, StandsFinal, StandsLast, StandsWaiting, Enrolled, address_in, held_at, label_held}
use Rattle.heap_rule.specs.declared.view.Held.{Held}
use Rattle.heap_rule.specs.declared.view.Held.TheVariants.{Final, Last, Queue}
use Rattle.heap_rule.specs.Places.{Live, More}

-- paired lists
pub paired_map : {A B : Type 0} (R S : A → B → Type 0) → ((x : A) (y : B) → R x y → S x y) → (xs : List A) (ys : List B) → Paired R xs ys → Paired S xs ys
paired_map R S f [] [] p = p
paired_map R S f [] (y ∷ ys) p = p
paired_map R S f (x ∷ xs) [] p = p
paired_map R S f (x ∷ xs) (y ∷ ys) p = (f x y p.0, paired_map R S f xs ys p.1)

pub paired_length : {A B : Type 0} (R : A → B → Type 0) (xs : List A) (ys : List B) → Paired R xs ys → length ys ≡ length xs
paired_length R [] [] p = refl
paired_length R [] (y ∷ ys) p = absurd p
paired_length R (x ∷ xs) [] p = absurd p
paired_length R (x ∷ xs) (y ∷ ys) p = ap suc (paired_length R xs ys p.1)

-- nothing is paired with nothing alone
pub paired_none : {A B : Type 0} (R : A → B → Type 0) (xs : List A) (ys : List B) → xs ≡ [] → Paired R xs ys → ys ≡ []
paired_none R [] [] none p = refl
paired_none R [] (y ∷ ys) none p = absurd p
paired_none R (x ∷ xs) ys none p = cc

pub paired_get : {A B : Type 0} (R : A → B → Type 0) (xs : List A) (ys : List B) (i : ℕ) (x : A) → Paired R xs ys → slice_get xs i ≡ Some x → (y : B) × (slice_get ys i ≡ Some y) × R x y
paired_get R [] ys i x p got = cc
paired_get R (z ∷ xs) [] i x p got = absurd p
paired_get R (z ∷ xs) (y ∷ ys) zero x p got = let same : z ≡ x = cc in (y, refl, subst (λ (w : _). R w y) same p.0)
paired_get R (z ∷ xs) (y ∷ ys) (suc i) x p got = paired_get R xs ys i x p.1 got

-- and the other way round
pub paired_back : {A B : Type 0} (R : A → B → Type 0) (xs : List A) (ys : List B) (i : ℕ) (y : B) → Paired R xs ys → slice_get ys i ≡ Some y → (x : A) × (slice_get xs i ≡ Some x) × R x y
paired_back R [] [] i y p got = cc
paired_back R [] (w ∷ ys) i y p got = absurd p
paired_back R (x ∷ xs) [] i y p got = cc
paired_back R (x ∷ xs) (w ∷ ys) zero y p got = let same : w ≡ y = cc in (x, refl, subst (λ (v : _). R x v) same p.0)
paired_back R (x ∷ xs) (w ∷ ys) (suc i) y p got = paired_back R xs ys i y p.1 got

pub paired_append : {A B : Type 0} (R : A → B → Type 0) (xs us : List A) (ys vs : List B) → Paired R xs ys → Paired R us vs → Paired R (xs ++ us) (ys ++ vs)
paired_append R [] us [] vs p q = q
paired_append R [] us (y ∷ ys) vs p q = absurd p
paired_append R (x ∷ xs) us [] vs p q = absurd p
paired_append R (x ∷ xs) us (y ∷ ys) vs p q = (p.0, paired_append R xs us ys vs p.1 q)

paired_take : {A B : Type 0} (R : A → B → Type 0) (n : ℕ) (xs : List A) (ys : List B) → Paired R xs ys → Paired R (take n xs) (take n ys)
paired_take R zero xs ys p = tt
paired_take R (suc n) [] [] p = tt
paired_take R (suc n) [] (y ∷ ys) p = absurd p
paired_take R (suc n) (x ∷ xs) [] p = absurd p
paired_take R (suc n) (x ∷ xs) (y ∷ ys) p = (p.0, paired_take R n xs ys p.1)

paired_drop : {A B : Type 0} (R : A → B → Type 0) (n : ℕ) (xs : List A) (ys : List B) → Paired R xs ys → Paired R (drop n xs) (drop n ys)
paired_drop R zero xs ys p = p
paired_drop R (suc n) [] [] p = tt
paired_drop R (suc n) [] (y ∷ ys) p = absurd p
paired_drop R (suc n) (x ∷ xs) [] p = absurd p
paired_drop R (suc n) (x ∷ xs) (y ∷ ys) p = paired_drop R n xs ys p.1

pub paired_remove : {A B : Type 0} (R : A → B → Type 0) (xs : List A) (ys : List B) (i : ℕ) → Paired R xs ys → Paired R (remove xs i) (remove ys i)
paired_remove R xs ys i p = paired_append R (take i xs) (drop (suc i) xs) (take i ys) (drop (suc i) ys) (paired_take R i xs ys p) (paired_drop R (suc i) xs ys p)

-- one item is another, that stands for the same
pub paired_set : {A B : Type 0} (R : A → B → Type 0) (xs : List A) (ys : List B) (i : ℕ) (x : A) → ((y : B) → slice_get ys i ≡ Some y → R x y) → Paired R xs ys → Paired R (set xs i x) ys
paired_set R [] ys i x new p = p
paired_set R (z ∷ xs) [] i x new p = absurd p
paired_set R (z ∷ xs) (y ∷ ys) zero x new p = (new y refl, p.1)
paired_set R (z ∷ xs) (y ∷ ys) (suc i) x new p = (p.0, paired_set R xs ys i x new p.1)

-- the blocks live on
pub lives_more : (live live' : Live) (a : ℕ) (l : Label) → More live live' → LivesAt live a l → LivesAt live' a l
lives_more live live' a l more at = let m = more a at.0 at.1 in (m.place, m.lives, m.label ∙ at.2)

stands_waiting : (live live' : Live) → ((a : ℕ) (l : Label) → LivesAt live a l → LivesAt live' a l) → (x : Waiting) (y : Pending) → StandsWaiting live x y → StandsWaiting live' x y
stands_waiting live live' lives (FinWaiting a n r) (FinPending m l q) s = (lives a l s.0, s.1, s.2)
stands_waiting live live' lives (FinWaiting a n r) (LastPending m) s = s
stands_waiting live live' lives (LastWaiting n) (FinPending m l q) s = s
stands_waiting live live' lives (LastWaiting n) (LastPending m) s = s

-- item for item, with their places
pub paired_at : {A B : Type 0} (R S : A → B → Type 0) (xs : List A) (ys : List B) → ((i : ℕ) (x : A) (y : B) → slice_get xs i ≡ Some x → slice_get ys i ≡ Some y → R x y → S x y) → Paired R xs ys → Paired S xs ys
paired_at R S [] [] f p = p
paired_at R S [] (y ∷ ys) f p = p
paired_at R S (x ∷ xs) [] f p = p
paired_at R S (x ∷ xs) (y ∷ ys) f p = (f 0 x y refl refl p.0, paired_at R S xs ys (λ i u v a b s. f (suc i) u v a b s) p.1)

waiting_lives : (live live' : Live) (x : Waiting) (y : Pending) → ((a : ℕ) (l : Label) → address_in x ≡ Some a → pending_label y ≡ Some l → LivesAt live a l → LivesAt live' a l) → StandsWaiting live x y → StandsWaiting live' x y
waiting_lives live live' (FinWaiting a n r) (FinPending m l q) lives s = (lives a l refl refl s.0, s.1, s.2)
waiting_lives live live' (FinWaiting a n r) (LastPending m) lives s = s
waiting_lives live live' (LastWaiting n) (FinPending m l q) lives s = s
waiting_lives live live' (LastWaiting n) (LastPending m) lives s = s

-- where each block to which a place of the lists refers lives on
pub enrolled_at : (live live' : Live) (s : model.State) (d : ℕ) (fs : Finalisers) → ((h : Held) (a : ℕ) (l : Label) → held_at fs h ≡ Some a → label_held (domain_at s d) h ≡ Some l → LivesAt live a l → LivesAt live' a l) → Enrolled live s d fs → Enrolled live' s d fs
enrolled_at live live' s d fs lives e = let x : DomainState = domain_at s d in record {
  finals = paired_at (StandsFinal live) (StandsFinal live') fs.finals.items x.finals
      (λ i r f a b st. (lives (Final i) r.address f.label (ap (option_map (λ z. z.address)) a) (ap (option_map (λ z. z.label)) b) st.0, st.1, st.2)) e.finals;
  lasts = paired_at (StandsLast live) (StandsLast live') fs.lasts.items x.lasts
      (λ i r f a b st. (lives (Last i) r.address f.label (ap (option_map (λ z. z.address)) a) (ap (option_map (λ z. z.label)) b) st.0, st.1)) e.lasts;
  queue = paired_at (StandsWaiting live) (StandsWaiting live') fs.queue.items x.queue
      (λ i r f a b st. waiting_lives live live' r f (λ c l is named. lives (Queue i) c l (ap (option_and_then address_in) a ∙ is) (ap (option_and_then pending_label) b ∙ named)) st) e.queue;
}

-- where every block lives on
pub enrolled_lives : (live live' : Live) (s : model.State) (d : ℕ) (fs : Finalisers) → ((a : ℕ) (l : Label) → LivesAt live a l → LivesAt live' a l) → Enrolled live s d fs → Enrolled live' s d fs
enrolled_lives live live' s d fs lives e = record {
  finals = paired_map (StandsFinal live) (StandsFinal live') (λ r f st. (lives r.address f.label st.0, st.1, st.2)) fs.finals.items (domain_at s d).finals e.finals;
  lasts = paired_map (StandsLast live) (StandsLast live') (λ r f st. (lives r.address f.label st.0, st.1)) fs.lasts.items (domain_at s d).lasts e.lasts;
  queue = paired_map (StandsWaiting live) (StandsWaiting live') (stands_waiting live live' lives) fs.queue.items (domain_at s d).queue e.queue;
}

pub enrolled_more : (live live' : Live) (s : model.State) (d : ℕ) (fs : Finalisers) → More live live' → Enrolled live s d fs → Enrolled live' s d fs
enrolled_more live live' s d fs more e = enrolled_lives live live' s d fs (λ a l at. lives_more live live' a l more at) e

-- what an entry leaves of a domain's registrations and queue
pub record KeepsWork (s t : model.State) (d : ℕ) : Type 0 where
  pub finals : (domain_at t d).finals ≡ (domain_at s d).finals
  pub lasts : (domain_at t d).lasts ≡ (domain_at s d).lasts
  pub queue : (domain_at t d).queue ≡ (domain_at s d).queue

pub enrolled_as : (live : Live) (s t : model.State) (d : ℕ) (fs : Finalisers) → KeepsWork s t d → Enrolled live s d fs → Enrolled live t d fs
enrolled_as live s t d fs keeps e = record {
  finals = subst (Paired (StandsFinal live) fs.finals.items) (sym keeps.finals) e.finals;
  lasts = subst (Paired (StandsLast live) fs.lasts.items) (sym keeps.lasts) e.lasts;
  queue = subst (Paired (StandsWaiting live) fs.queue.items) (sym keeps.queue) e.queue;
}

pub work_same : (s t : model.State) (d : ℕ) → domain_at t d ≡ domain_at s d → KeepsWork s t d
work_same s t d same = record { finals = ap (λ (x : DomainState). x.finals) same; lasts = ap (λ (x : DomainState). x.lasts) same; queue = ap (λ (x : DomainState). x.queue) same }

work_after : (s t u : model.State) (d : ℕ) → KeepsWork s t d → KeepsWork t u d → KeepsWork s u d
work_after s t u d a b = record { finals = b.finals ∙ a.finals; lasts = b.lasts ∙ a.lasts; queue = b.queue ∙ a.queue }

-- another part of domain d that has these as they were
pub work_with : (s : model.State) (d : ℕ) (x : DomainState) → x.finals ≡ (domain_at s d).finals → x.lasts ≡ (domain_at s d).lasts → x.queue ≡ (domain_at s d).queue → (k : ℕ) → KeepsWork s (with_domain s d x) k
work_with s d x finals lasts queue k = record {
  finals = part_set (λ y. y.finals) s.domains d x finals k;
  lasts = part_set (λ y. y.lasts) s.domains d x lasts k;
  queue = part_set (λ y. y.queue) s.domains d x queue k;
}

pub work_map : (s t : model.State) (f : DomainState → DomainState) → t.domains ≡ map f s.domains → ((x : DomainState) → (f x).finals ≡ x.finals) → ((x : DomainState) → (f x).lasts ≡ x.lasts) → ((x : DomainState) → (f x).queue ≡ x.queue) → (k : ℕ) → KeepsWork s t k
work_map s t f is finals lasts queue k = record {
  finals = ap (λ (xs : List DomainState). (get_or xs k no_domain).finals) is ∙ part_map (λ y. y.finals) f finals s.domains k;
  lasts = ap (λ (xs : List DomainState). (get_or xs k no_domain).lasts) is ∙ part_map (λ y. y.lasts) f lasts s.domains k;
  queue = ap (λ (xs : List DomainState). (get_or xs k no_domain).queue) is ∙ part_map (λ y. y.queue) f queue s.domains k;
}

work_allocated : (s : model.State) (d dst : ℕ) (n : Node) → KeepsWork s (allocated s d dst n).state d
work_allocated s d dst n =
    let serial = (domain_at s d).serial + 1 in
    let l : Label = record { domain = d; serial = serial } in
    let made : model.State = with_domain s d (record (domain_at s d) { serial = serial }) in
    let grown : model.State = record made { graph = s.graph ++ (l, n) ∷ []; kept = s.kept + 1 } in
    let first = work_with s d _ refl refl refl d in
    let second = work_with grown d _ refl refl refl d in
    record { finals = second.finals ∙ first.finals; lasts = second.lasts ∙ first.lasts; queue = second.queue ∙ first.queue }

work_outcome : (s : model.State) (d : ℕ) (c : Command) → registers_one c ≡ false → KeepsWork s (outcome s d c).state d
work_outcome s d c registers = moved (λ t. KeepsWork s t d) s d c (record {
  same = work_same s s d refl;
  held = λ r v named. work_with s d _ refl refl refl d;
  written = λ l old new at found same named full. record { finals = refl; lasts = refl; queue = refl };
  made = λ is dst n named full. work_allocated s d dst n;
  registered = λ is f named. absurd (let clash : true ≡ false = sym is ∙ registers in cc);
  registered_last = λ is f named. absurd (let clash : true ≡ false = sym is ∙ registers in cc);
})

-- a command that registers nothing leaves its domain's
pub work_command : (s : model.State) (d : ℕ) (c : Command) (full : Bool) → registers_one c ≡ false → KeepsWork s (next s (CommandOf d c full)) d
work_command s d c true registers = let n = work_with s d _ refl refl refl d in record { finals = n.finals; lasts = n.lasts; queue = n.queue }
work_command s d c false registers =
    let first = work_outcome s d c registers in
    let t : model.State = (outcome s d c).state in
    let second = work_with t d (record (domain_at t d) { fresh = false; due = length (domain_at t d).queue }) refl refl refl d in
    record { finals = second.finals ∙ first.finals; lasts = second.lasts ∙ first.lasts; queue = second.queue ∙ first.queue }

-- an entry of the collector that queues nothing
abbrev pub QueuesNothing : Entry → Type 0
QueuesNothing (QueueOf d places) = ⊥
QueuesNothing (LastOf d place) = ⊥
QueuesNothing _ = Unit {0}

work_wiped : (s : model.State) (l : Label) (o : Option Node) (k : ℕ) → KeepsWork s (with_wiped s l o) k
work_wiped s l None k = record { finals = refl; lasts = refl; queue = refl }
work_wiped s l (Some n) k = record { finals = refl; lasts = refl; queue = refl }

-- an entry that isn't of domain k, and queues nothing, leaves that domain's
pub work_next : (s : model.State) (e : Entry) (k : ℕ) → is_entry_of k e ≡ false → QueuesNothing e → KeepsWork s (next s e) k
work_next s (CommandOf d c full) k other none = work_same s (next s (CommandOf d c full)) k ((frame_command s d c full).elsewhere k (not_same d k other))
work_next s (End d) k other none = work_same s (next s (End d)) k (get_or-set_other s.domains d k _ no_domain (not_same d k other))
work_next s Cut k other none = work_map s (next s Cut) (λ x. record x { low = length x.finals }) refl (λ x. refl) (λ x. refl) (λ x. refl) k
work_next s (QueueOf d places) k other none = absurd none
work_next s Seal k other none = work_map s (next s Seal) (λ x. record x { low = length x.lasts }) refl (λ x. refl) (λ x. refl) (λ x. refl) k
work_next s (Wipe l keys) k other none = let kept = work_wiped s l (wiped keys (node_at s.graph l)) k in record { finals = kept.finals; lasts = kept.lasts; queue = kept.queue }
work_next s (LastOf d place) k other none = absurd none
work_next s Collected k other none = work_map s (next s Collected) (λ x. record x { fresh = true }) refl (λ x. refl) (λ x. refl) (λ x. refl) k
work_next s Done k other none = record { finals = refl; lasts = refl; queue = refl }
work_next s (Ran d) k other none = run (domain_at s d).queue
  where
    away : k ≢ d
    away = not_same d k other

    run : (q : List Pending) → KeepsWork s (after_run s d q) k
    run [] = record { finals = refl; lasts = refl; queue = refl }
    run (FinPending number l r ∷ rest) =
        let ran : model.State = with_domain s d (without_first (domain_at s d) rest) in
        work_same s _ k (get_or-set_other ran.domains d k _ no_domain away ∙ get_or-set_other s.domains d k _ no_domain away)
    run (LastPending number ∷ rest) = work_same s _ k (get_or-set_other s.domains d k _ no_domain away)

-- a domain that has registered nothing
pub enrolled_none : (live : Live) (s : model.State) (d : ℕ) (fs : Finalisers) → fs.finals.items ≡ [] → fs.lasts.items ≡ [] → fs.queue.items ≡ [] → (domain_at s d).finals ≡ [] → (domain_at s d).lasts ≡ [] → (domain_at s d).queue ≡ [] → Enrolled live s d fs
enrolled_none live s d fs a b c finals lasts queue = record {
  finals = subst (λ (z : List Registered × List Finaliser). Paired (StandsFinal live) z.0 z.1) (λ i. (sym a i, sym finals i)) tt;
  lasts = subst (λ (z : List RegisteredLast × List LastFinaliser). Paired (StandsLast live) z.0 z.1) (λ i. (sym b i, sym lasts i)) tt;
  queue = subst (λ (z : List Waiting × List Pending). Paired (StandsWaiting live) z.0 z.1) (λ i. (sym c i, sym queue i)) tt;
}

-- outside a collection nothing is to be decided
no_rooting : (kind : Kind) → HasNoCycle kind → IsRooting kind → ⊥
no_rooting Roots none is = none
no_rooting Queued none is = none
no_rooting _ none is = is

pub deciding_none : (live : Live) (kind : Kind) (left : ℕ → ℕ) (arrived : ℕ → Bool) (marked : Label → Bool) (d : ℕ) (fs : Finalisers) (kept : ℕ) (waiting : List ℕ) → HasNoCycle kind → Deciding live kind left arrived marked d fs kept waiting
deciding_none live kind left arrived marked d fs kept waiting none = record {
  finals = λ is. absurd (subst HasNoCycle is none);
  lasts = λ is. absurd (subst HasNoCycle is none);
  rooted = λ is. absurd (no_rooting kind none is);
}

-- a domain that has arrived has nothing more to decide
pub deciding_gone : (live : Live) (kind : Kind) (left : ℕ → ℕ) (arrived : ℕ → Bool) (marked : Label → Bool) (d : ℕ) (fs : Finalisers) (kept : ℕ) (waiting : List ℕ) → arrived d ≡ true → Deciding live kind left arrived marked d fs kept waiting
deciding_gone live kind left arrived marked d fs kept waiting gone = record {
  finals = λ _ waits. absurd (let e : true ≡ false = sym gone ∙ waits in cc);
  lasts = λ _ waits. absurd (let e : true ≡ false = sym gone ∙ waits in cc);
  rooted = λ _ waits. absurd (let e : true ≡ false = sym gone ∙ waits in cc);
}

-- more blocks are marked
pub deciding_marks : (live : Live) (kind : Kind) (left : ℕ → ℕ) (arrived : ℕ → Bool) (marked marked' : Label → Bool) (d : ℕ) (fs : Finalisers) (kept : ℕ) (waiting : List ℕ) → ((l : Label) → IsTrue (marked l) → IsTrue (marked' l))
    → Deciding live kind left arrived marked d fs kept waiting → Deciding live kind left arrived marked' d fs kept waiting
deciding_marks live kind left arrived marked marked' d fs kept waiting more e = record { finals = e.finals; lasts = e.lasts; rooted = λ is waits i a p among at lives. more p.label (e.rooted is waits i a p among at lives) }

-- the run of a finaliser ends no trace
pub run_ended : (s : model.State) (d : ℕ) (queue : List Pending) (k : ℕ) → (domain_at (after_run s d queue) k).ended ≡ (domain_at s k).ended
run_ended s d [] k = refl
run_ended s d (FinPending number l r ∷ rest) k =
    let ran : model.State = with_domain s d (without_first (domain_at s d) rest) in
    part_set (λ y. y.ended) ran.domains d _ refl k ∙ part_set (λ y. y.ended) s.domains d _ refl k
run_ended s d (LastPending number ∷ rest) k = part_set (λ y. y.ended) s.domains d _ refl k
