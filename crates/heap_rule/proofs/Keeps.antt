-- What all kinds of step share: what a domain knows at its seat, and that the rule holds again where the whole, the own domain and each other one meet it.
use Rattle.heap_words.specs.Remembered.Bounded.{Bounded}
use Rattle.model_core.specs.declared.label.Label.{Label}
use Rattle.std.proofs.lemmas.Option.{slice_get_within}
use Rattle.heap_rule.specs.declared.phase.Kind.{Kind}
use Rattle.std.proofs.Common.{zero-le, not, slice_get, inl, inr, ⊎_elim, None, ◌≡◌, ◌≢◌, ℕ, zero, suc, ◌+◌, ◌*◌, ◌<◌, ◌≤◌, false, List, [], ◌∷◌, ◌++◌, length, get_or, set, Some, sym, refl, ap, ◌∙◌, subst, arith, length-set, get_or-set_other, append_assoc, ◌⊎◌, Option, true, IsTrue}
use mathlib.Core.Logic.{dite}
use native.Mathlib.Decide.{ℕ_discrete}
use mathlib.Core.Option.{some}
use lib.ListN.{get_elem?}
use lib.Seq.{set-get_or}
use Rattle.atomic_table.specs.Table.{State}
use Rattle.model_core.specs.declared.graph.Value.{Value}
use Rattle.model_core.specs.declared.graph.Value.TheVariants.{Int, Block, Nothing}
use Rattle.heap_words.specs.declared.value.Value as words
use Rattle.heap_words.specs.declared.value.Value.TheVariants.{Int as IntWord, Ref, Nothing as NothingWord}
use Rattle.model_core.specs.declared.entry.Entry.{Entry}
use Rattle.model_core.specs.declared.entry.Entry.TheVariants.{Command as CommandOf, Ran}
use Rattle.model_core.specs.declared.state.DomainState.{DomainState}
use Rattle.model_core.specs.declared.state.State as model
use Rattle.model_core.specs.Domains.{domain_at, register, opening}
use Rattle.model_core.specs.Entries.{Allowed, next}
use Rattle.model_core.specs.History.{IsPrefix, Legal, is_entry_of}
use Rattle.model_core.specs.Fronts.{AreCalls, AreNotControls, IsFrontOf, KeepsDomain, Shape, is_call, is_control, unseen}
use Rattle.model_core.proofs.Histories.HistoryLemmas.{legal_push, state_after-push}
use Rattle.model_core.proofs.Commands.FrameLemmas.{keeps_next, frame_command}
use Rattle.model_core.proofs.Histories.FrontLemmas.{front_whole, front_push, keeps_front, unseen_push, unseen_whole}
use Rattle.heap_rule.specs.declared.config.Config.{Config}
use Rattle.heap_rule.specs.declared.view.DomainView.{DomainView}
use Rattle.heap_rule.specs.declared.view.Hunt.{Hunt}
use Rattle.heap_rule.specs.declared.view.Listing.{Listing}
use Rattle.heap_rule.specs.declared.view.Search.{Search}
use Rattle.heap_rule.specs.declared.view.View.{View}
use Rattle.heap_rule.specs.Limits.{sizes_in}
use Rattle.heap_rule.specs.Layout.{before_heap, barrier, plan, ended_word, listed, cursor, listed_pool, owner_of, want}
use Rattle.heap_rule.specs.declared.view.Copying.{Copying}
use Rattle.heap_rule.specs.declared.view.Owing.{Owing}
use Rattle.heap_rule.specs.Places.{Debt, Place, Live, Stands, Placed, Spread, Settled, More, extent}
use Rattle.heap_rule.specs.Copies.{nothing_copied, known, Owes, IsField, Recalls, Copies, Promoting, IsOldValue, Rooted, ListsCopy, Resetting, IsEmptying}
use Rattle.heap_rule.specs.Changes.{value_at}
use Rattle.heap_rule.specs.Views.{EachView, AllDomains, IsSeated, Knows, one}
use Rattle.heap_rule.specs.declared.phase.Kind.TheVariants.{Run, Promote, Sweep, Answer}
use Rattle.heap_rule.specs.declared.phase.Stage.{Stage}
use Rattle.heap_rule.specs.declared.phase.Stage.TheVariants.{In, Leads, Led, Gone}
use Rattle.heap_rule.specs.Phases.{CountsEnded, Pause, Phases, Unwished, sum_of, IsEven, AtStage, Staged, IsInPause, Still, Agree, flag, is_over, TookBack, HasSetBack, last_note}
use Rattle.heap_rule.specs.Rule.{state_of, AllFound, Stood, Area, Making, Account, Good, Sharing, Whole, Rule}
use Rattle.heap_rule.specs.Cycles.{Cycling, Cycled, Telling, Leading, HasNoCycle, IsBetween, IsIdle}
use Rattle.heap_rule.proofs.PauseFacts.{called_still, not_both, agree, nobody_else_still, nobody_paused, staged_as, run_promoting, run_resetting, kind_differs}
use Rattle.heap_rule.specs.Sweeping.{Sweeps, SweepsIn}
use Rattle.heap_rule.proofs.Garbage.{KeepsGarbage, sweeps_on}
use Rattle.heap_rule.proofs.Sharings.{SameCycle, KeepsUnderway, with_past, with_weak, leading_past, telling_weak, leading_weak, kind_now, cycle_between, facts_between, leading_words, leading_as, telling_as, idle_in, idle_beside, takes_kind, adds_nothing}
use Rattle.heap_rule.proofs.BesideLemmas.{Endures, all_known_on, runs_on, runs_as, knows_weak}
use Rattle.heap_rule.specs.declared.view.Share.{Share}
use Rattle.model_core.specs.Graph.{Graph}
use Rattle.heap_rule.specs.Beside.{AllKnown, IsUnaware, RunsBeside, is_weak}
use Rattle.model_cycle.specs.Beside.{Snapshot}
use Rattle.heap_rule.specs.Room.{spent_stock, count, drawn_in_all, copied_words, Room, IsUnused, Opened, Drawable}
use Rattle.model_core.specs.Domains.{class_count, reserve}
use Rattle.heap_rule.specs.Layout.{heap_words, at_address, table_words}
use Rattle.heap_rule.specs.Pools.{Holder, Stock, Reserved, IsListWhole, IsReturning, KnowsList, Covered, Takes, IsCopying, Latest, DrawsFor, prepared_at, size_of, Tenancy, drawn, owned, Pools, Grid, Drawers, IsLeading, Lists, Resting, Hunts, Hunter, drawn_in, hunting_below, search_at, IsPassed, IsFree, limit_of}
use Rattle.heap_rule.specs.Standing.{with_front}
use Rattle.heap_rule.specs.Ephemerons.{IsEpheAt, Listed}
use Rattle.heap_rule.specs.declared.view.Finalisers.{Finalisers}
use Rattle.heap_rule.specs.Finalisers.{RefersOld}
use Rattle.model_core.specs.declared.state.Mode.TheVariants.{Open}
use Rattle.heap_rule.proofs.FinaliserLemmas.{KeepsWork, QueuesNothing, enrolled_as, enrolled_more, work_next, deciding_none, run_ended}
use Rattle.heap_rule.proofs.EphemeronLemmas.{looks_idle, none_misses, listed_on, listed_as, ephe_more}
use Rattle.heap_rule.proofs.Lists.{views_set, domains_map, domains_with, no_item}
use Rattle.heap_rule.specs.Fullness.{Homes, Fullness}

abbrev pub Words : Type 0
Words = State (Unit {0}) View

pub more_same : (live : Live) → More live live
more_same live a p lives = record { place = p; lives = lives; label = refl; shape = refl }

-- no place is owed anything
pub no_debt : (live : Live) → Settled live → (c : ℕ) (p : Place) (d : Debt) → live c ≡ Some p → p.owed ≡ Some d → ⊥
no_debt live settled c p d lives owed = let e : ◌≡◌ {A = Option Debt} None (Some d) = sym (settled c p lives).no_debt ∙ owed in cc

pub no_owing : (c : Copying) (i : ℕ) (o : Owing) → c ≡ nothing_copied → slice_get c.pending i ≡ Some o → ⊥
no_owing c i o none got = let e : ◌≡◌ {A = Option Owing} None (Some o) = sym (ap (λ (z : Copying). slice_get z.pending i) none) ∙ got in cc

pub no_copied : (c : Copying) (a d : ℕ) → c ≡ nothing_copied → ListsCopy c.copied a d → ⊥
no_copied c a d none has = subst (λ (z : Copying). ListsCopy z.copied a d) none has

pub nothing_known : (live : Live) → More (known []) live
nothing_known live a p e = let f : ◌≡◌ {A = Option Place} None (Some p) = e in cc

-- who has copied nothing owes nothing
pub field_again : (k : Config) (live live' : Live) (at : ℕ) → More live live' → Settled live' → IsField k live at → IsField k live' at
field_again k live live' at more settled f = let m = more f.block f.place f.lives in record {
  block = f.block;
  place = m.place;
  index = f.index;
  lives = m.lives;
  is = f.is;
  inside = subst (λ (s : Shape). f.index + 2 < extent s) (sym m.shape) f.inside;
  old = f.old;
  filled = (settled f.block m.place m.lives).no_debt;
}

pub recalls_same : (d : ℕ) (live : Live) → Recalls d live live
recalls_same d live b q i lives named = record { place = q; lives = lives; named = named }

pub owes_run : (k : Config) (live live' : Live) (z y : DomainView) → Settled live' → y.seen.copying ≡ nothing_copied → y.own.number ≡ z.own.number → y.seen.remembered ≡ z.seen.remembered → More live live' → Recalls z.own.number live live' → Owes k live z → Owes k live' y
owes_run k live live' z y settled none number remembered more recalls o = record {
  quiet = inl none;
  knows = subst (λ (c : Copying). More (known c.met) live') (sym none) (nothing_known live');
  copied = λ a c has. absurd (no_copied y.seen.copying a c none has);
  owed = λ i o got. absurd (no_owing y.seen.copying i o none got);
  once = λ i j o q got _ _. absurd (no_owing y.seen.copying i o none got);
  listed = λ c p d lives owed _. absurd (no_debt live' settled c p d lives owed);
  recalled = λ b q i lives named. let t = recalls b q i lives (named ∙ ap Some number) in let u = o.recalled b t.place i t.lives t.named in (u.0, ap (λ (l : List ℕ). slice_get l u.0) remembered ∙ u.1);
  fields = λ j at got. field_again k live live' at more settled (o.fields j at (ap (λ (l : List ℕ). slice_get l j) (sym remembered) ∙ got));
}

-- where the places stay
pub owes_as : (k : Config) (live : Live) (x y : DomainView) → y.own.number ≡ x.own.number → y.seen.copying ≡ x.seen.copying → y.seen.stage ≡ x.seen.stage → y.seen.remembered ≡ x.seen.remembered → Owes k live x → Owes k live y
owes_as k live x y number copying stage remembered o = record {
  recalled = λ b q i lives named. let u = o.recalled b q i lives (named ∙ ap Some number) in (u.0, ap (λ (l : List ℕ). slice_get l u.0) remembered ∙ u.1);
  fields = λ j at got. o.fields j at (ap (λ (l : List ℕ). slice_get l j) (sym remembered) ∙ got);
  quiet = ⊎_elim (λ (h : x.seen.copying ≡ nothing_copied). inl (copying ∙ h)) (λ (h : x.seen.stage ≡ In Promote). inr (stage ∙ h)) o.quiet;
  knows = subst (λ (c : Copying). More (known c.met) live) (sym copying) o.knows;
  copied = λ a c has. o.copied a c (subst (λ (z : Copying). ListsCopy z.copied a c) copying has);
  owed = λ i w got. let t = o.owed i w (ap (λ (c : Copying). slice_get c.pending i) (sym copying) ∙ got) in record { place = t.place; lives = t.lives; debt = t.debt ∙ ap (λ (n : ℕ). Some (record { source = w.source; domain = n; filled = w.filled })) (sym number) };
  once = λ i j w q got got'. o.once i j w q (ap (λ (c : Copying). slice_get c.pending i) (sym copying) ∙ got) (ap (λ (c : Copying). slice_get c.pending j) (sym copying) ∙ got');
  listed = λ c p d lives owed mine. let t = o.listed c p d lives owed (mine ∙ number) in (t.0, ap (λ (z : Copying). slice_get z.pending t.0) copying ∙ t.1);
}

-- who is to fill no copy may stand anywhere
pub owes_rests : (k : Config) (live : Live) (x y : DomainView) → y.own.number ≡ x.own.number → y.seen.copying ≡ nothing_copied → x.seen.copying.pending ≡ [] → y.seen.remembered ≡ x.seen.remembered → Owes k live x → Owes k live y
owes_rests k live x y number none idle remembered o = record {
  quiet = inl none;
  knows = subst (λ (c : Copying). More (known c.met) live) (sym none) (nothing_known live);
  copied = λ a c has. absurd (no_copied y.seen.copying a c none has);
  owed = λ i w got. absurd (no_owing y.seen.copying i w none got);
  once = λ i j w q got _ _. absurd (no_owing y.seen.copying i w none got);
  listed = λ c p d lives owed mine. let t = o.listed c p d lives owed (mine ∙ number) in absurd (no_item x.seen.copying.pending t.0 _ idle t.1);
  recalled = λ b q i lives named. let u = o.recalled b q i lives (named ∙ ap Some number) in (u.0, ap (λ (l : List ℕ). slice_get l u.0) remembered ∙ u.1);
  fields = λ j at got. o.fields j at (ap (λ (l : List ℕ). slice_get l j) (sym remembered) ∙ got);
}

-- who isn't in Promote has copied nothing
pub quiet_in : (k : Config) (live : Live) (x : DomainView) → Owes k live x → (x.seen.stage ≡ In Promote → ⊥) → x.seen.copying ≡ nothing_copied
quiet_in k live x o outside = ⊎_elim (λ (h : x.seen.copying ≡ nothing_copied). h) (λ (h : x.seen.stage ≡ In Promote). absurd (outside h)) o.quiet

run_not_promote : (st : Stage) → st ≡ In Run → st ≡ In Promote → ⊥
run_not_promote st e f = let h : In Run ≡ In Promote = sym e ∙ f in cc

pub stands_more : (live live' : Live) (x : words.Value) (v : Value) → More live live' → Stands live x v → Stands live' x v
stands_more live live' (IntWord z) (Int v) more s = s
stands_more live live' (IntWord z) (Block l) more s = s
stands_more live live' (IntWord z) Nothing more s = s
stands_more live live' (Ref a) (Int v) more s = s
stands_more live live' (Ref a) (Block l) more s = let m = more a s.0 s.1 in (m.place, m.lives, m.label ∙ s.2)
stands_more live live' (Ref a) Nothing more s = s
stands_more live live' NothingWord (Int v) more s = s
stands_more live live' NothingWord (Block l) more s = s
stands_more live live' NothingWord Nothing more s = s

-- the words before the heap's stay
abbrev pub Control : Config → List ℕ → List ℕ → Type 0
Control k words words' = (i : ℕ) → i ≤ before_heap k → get_or words' i 0 ≡ get_or words i 0

pub control_same : (k : Config) (words : List ℕ) → Control k words words
control_same k words i below = refl

pub control_set : (k : Config) (words : List ℕ) (a new : ℕ) → 1 ≤ a → Control k words (set words (before_heap k + a) new)
control_set k words a new low i below = get_or-set_other words (before_heap k + a) i new 0 (λ e. omega arith)

pub phases_words : (k : Config) (t : Pause) (words words' : List ℕ) → barrier words' ≡ barrier words → plan words' ≡ plan words → Phases k t words → Phases k t words'
phases_words k t words words' b c s = record {
  sum = b ∙ s.sum;
  begun = subst (λ (n : ℕ). t.phase * k.domains ≤ n) (sym b) s.begun;
  unfinished = subst (λ (n : ℕ). n < (t.phase + 1) * k.domains) (sym b) s.unfinished;
  each = s.each;
  even_plan = λ j e. c ∙ s.even_plan j e;
  next_plan = λ j e l. let p = s.next_plan j e l in (c ∙ p.0, p.1);
  followed = s.followed;
  leader = s.leader;
}

pub phases_same : (k : Config) (t : Pause) (words words' : List ℕ) → Control k words words' → Phases k t words → Phases k t words'
phases_same k t words words' c s = phases_words k t words words' (c 1 (omega arith)) (c 2 (omega arith)) s

-- an entry that a domain makes as it runs: a command, or the run of a finaliser
abbrev pub IsOfTrace : Entry → Type 0
IsOfTrace (CommandOf d c full) = Unit {0}
IsOfTrace (Ran d) = Unit {0}
IsOfTrace _ = ⊥

trace_queues : (e : Entry) → IsOfTrace e → QueuesNothing e
trace_queues (CommandOf d c full) is = tt
trace_queues (Ran d) is = tt
trace_queues _ is = absurd is

-- it is a domain's, and not the collector's
trace_call : (e : Entry) → IsOfTrace e → is_call e ≡ true
trace_call (CommandOf d c full) is = refl
trace_call (Ran d) is = refl
trace_call _ is = absurd is

trace_control : (e : Entry) → IsOfTrace e → is_control e ≡ false
trace_control (CommandOf d c full) is = refl
trace_control (Ran d) is = refl
trace_control _ is = absurd is

-- it ends no trace
pub trace_over : (s : model.State) (e : Entry) → IsOfTrace e → (d : ℕ) → is_over (next s e) d ≡ is_over s d
trace_over s (Ran j) is d = ap flag (run_ended s j (domain_at s j).queue d)
trace_over s (CommandOf j c full) is d = let f = frame_command s j c full in dite (ℕ_discrete d j)
    (λ (same : d ≡ j). ap flag (ap (λ (n : ℕ). (domain_at (next s (CommandOf j c full)) n).ended) same ∙ (f.ended ∙ ap (λ (n : ℕ). (domain_at s n).ended) (sym same))))
    (λ (other : d ≢ j). ap (λ (z : DomainState). flag z.ended) (f.elsewhere d other))
trace_over s _ is d = absurd is

pub sum_same : (f g : ℕ → ℕ) (n : ℕ) → ((d : ℕ) → d < n → g d ≡ f d) → sum_of g n ≡ sum_of f n
sum_same f g zero each = refl
sum_same f g (suc n) each = let a = sum_same f g n (λ d h. each d (omega arith)) in let b = each n (omega arith) in λ i. a i + b i

pub rooted_as : (k : Config) (t : Pause) (x y : DomainView) → y.own.registers ≡ x.own.registers → y.own.finalisers ≡ x.own.finalisers → y.own.arrivals ≡ x.own.arrivals → y.seen.remembered ≡ x.seen.remembered → Rooted k t x → Rooted k t y
rooted_as k t x y registers finalisers arrivals remembered r = (
  λ p up. let old = r.0 p (sym arrivals ∙ up) in (
    λ q few. subst (λ (l : List words.Value). IsOldValue k (value_at l q)) (sym registers) (old.0 q few),
    subst (RefersOld k) (sym finalisers) old.1,
  ),
  λ past. remembered ∙ r.1 (⊎_elim (λ (h : Promoting t × (y.own.arrivals ≡ t.phase + 1)). inl (h.0, sym arrivals ∙ h.1)) (λ (h : Resetting t). inr h) past),
)

-- where nothing forwards
pub copies_settled : (k : Config) (live : Live) → Settled live → ((b : ℕ) (q : Place) (i d : ℕ) → live b ≡ Some q → q.named i ≡ Some d → (d < k.domains) × (i + 2 < extent q.shape)) → Copies k live
copies_settled k live settled naming = record {
  leads = λ a p c lives f. absurd (let e : ◌≡◌ {A = Option ℕ} None (Some c) = sym (settled a p lives).no_forward ∙ f in cc);
  pends = λ c q o lives owed. absurd (no_debt live settled c q o lives owed);
  naming = naming;
}

-- a domain that has seen the whole history
pub whole_still : (log : List Entry) (y : DomainView) → y.seen.front ≡ log → Still log y
whole_still log y whole = (λ _. whole, λ _. unseen_whole is_call log y.seen.front whole)

pub still_as : (log : List Entry) (x y : DomainView) → y.seen.front ≡ x.seen.front → y.seen.stage ≡ x.seen.stage → Still log x → Still log y
still_as log x y front stage st = subst (λ (z : List Entry × Stage). (IsInPause z.1 → z.0 ≡ log) × (z.1 ≡ In Run → AreCalls (unseen log z.0))) (λ i. (sym front i, sym stage i)) st

-- a domain that runs doesn't lead
pub run_leads : (kind : _) → ◌≡◌ {A = Stage} (In Run) (Leads kind) → ⊥
run_leads kind e = cc

pub running_took_back : (words : List ℕ) (y : DomainView) → y.seen.stage ≡ In Run → TookBack words y
running_took_back words y runs kind leads last = absurd (run_leads kind (sym runs ∙ leads))

-- a domain that takes blocks leads no pause
takes_leads : (stage : Stage) → Takes stage → IsLeading stage → ⊥
takes_leads stage takes leads = ⊎_elim (λ (h : stage ≡ In Run). subst IsLeading h leads) (λ (h : stage ≡ In Promote). subst IsLeading h leads) takes

-- and nobody leads one beside it
in_alone : (kind : Kind) (y : Stage) → Agree (In kind) y → IsLeading y → ⊥
in_alone kind (In v) a l = l
in_alone kind (Leads v) a l = a
in_alone kind (Led v) a l = a
in_alone kind (Gone v) a l = l

pub nobody_leads : (t : Pause) (x z : DomainView) → Takes x.seen.stage → Staged t x → Staged t z → IsLeading z.seen.stage → ⊥
nobody_leads t x z takes sx sz leads =
    let beside : (kind : Kind) → x.seen.stage ≡ In kind → ⊥ = (λ kind is. in_alone kind z.seen.stage (agree t x.own.number z.own.number x.own.arrivals z.own.arrivals (In kind) z.seen.stage (subst (AtStage t x.own.number x.own.arrivals) is sx.stage) sz.stage) leads) in
    ⊎_elim (beside Run) (beside Promote) takes

-- and nobody knows of the list of free pools then
lists_alone : (kind : Kind) → (IsReturning kind → ⊥) → (d : ℕ) (y : Stage) (l : Listing) → Agree (In kind) y → KnowsList d y l → ⊥
lists_alone kind draws d (In v) l a is = draws (subst IsReturning (sym a) is.0)
lists_alone kind draws d (Leads v) l a is = a
lists_alone kind draws d (Led v) l a is = a
lists_alone kind draws d (Gone v) l a is = is

pub nobody_lists : (t : Pause) (x z : DomainView) (l : Listing) → Takes x.seen.stage → Staged t x → Staged t z → KnowsList z.own.number z.seen.stage l → ⊥
nobody_lists t x z l takes sx sz knows =
    let beside : (kind : Kind) → (IsReturning kind → ⊥) → x.seen.stage ≡ In kind → ⊥ = (λ kind draws is. lists_alone kind draws z.own.number z.seen.stage l (agree t x.own.number z.own.number x.own.arrivals z.own.arrivals (In kind) z.seen.stage (subst (AtStage t x.own.number x.own.arrivals) is sx.stage) sz.stage) knows) in
    ⊎_elim (beside Run (⊎_elim (λ e. cc) (λ e. cc))) (beside Promote (⊎_elim (λ e. cc) (λ e. cc))) takes

takes_lists : (d : ℕ) (stage : Stage) (l : Listing) → Takes stage → KnowsList d stage l → ⊥
takes_lists d stage l takes knows = ⊎_elim
    (λ (h : stage ≡ In Run). ⊎_elim (λ (e : Run ≡ Sweep). cc) (λ (e : Run ≡ Answer). cc) (subst (λ (y : Stage). KnowsList d y l) h knows).0)
    (λ (h : stage ≡ In Promote). ⊎_elim (λ (e : Promote ≡ Sweep). cc) (λ (e : Promote ≡ Answer). cc) (subst (λ (y : Stage). KnowsList d y l) h knows).0)
    takes

-- the phase of a domain that takes blocks is an even one
pub takes_even : (t : Pause) (x : DomainView) → Takes x.seen.stage → Staged t x → IsEven t.phase
takes_even t x takes s =
    let even : (kind : Kind) → x.seen.stage ≡ In kind → IsEven t.phase = (λ kind is. let a = (subst (AtStage t x.own.number x.own.arrivals) is s.stage).1 in (a.0, a.1)) in
    ⊎_elim (even Run) (even Promote) takes

-- while a domain takes blocks nobody has named the next phase
pub takes_drawable : (k : Config) (t : Pause) (words : List ℕ) (x : DomainView) → Takes x.seen.stage → Staged t x → Drawable k t words
takes_drawable k t words x takes s = let e = takes_even t x takes s in record {
  to_run = λ j odd _ _. absurd (not_both t.phase e (j, odd));
  to_copy = λ j odd _ _. absurd (not_both t.phase e (j, odd));
}

-- a domain that takes blocks writes no list, and nobody does beside it
pub resting_takes : (k : Config) (words words' : List ℕ) (x y : DomainView) → Takes x.seen.stage → Takes y.seen.stage → (y.seen.stage ≢ In Run → y.seen.free ≡ []) → (y.seen.stage ≢ In Run → y.seen.spare ≡ None) → y.seen.listing ≡ x.seen.listing → Resting k words x → Resting k words' y
resting_takes k words words' x y takes still free spare listing r = record {
  hunt = λ n. absurd (n still);
  free = free;
  spare = spare;
  lists = λ l e. absurd (takes_lists x.own.number x.seen.stage l takes (r.lists l (sym listing ∙ e)).who);
}

pub resting_runs : (k : Config) (words words' : List ℕ) (x y : DomainView) → x.seen.stage ≡ In Run → y.seen.stage ≡ In Run → y.seen.listing ≡ x.seen.listing → Resting k words x → Resting k words' y
resting_runs k words words' x y runs still listing r = resting_takes k words words' x y (inl runs) (inl still) (λ n. absurd (n still)) (λ n. absurd (n still)) listing r

pub resting_other : (k : Config) (t : Pause) (words words' : List ℕ) (x z : DomainView) → Takes x.seen.stage → Staged t x → Staged t z → Resting k words z → Resting k words' z
resting_other k t words words' x z takes sx sz r = record {
  hunt = r.hunt;
  free = r.free;
  spare = r.spare;
  lists = λ l e. absurd (nobody_lists t x z l takes sx sz (r.lists l e).who);
}

-- nobody copies while a domain runs
-- while a domain runs none is past Promote
pub run_rooted : (k : Config) (t : Pause) (x z : DomainView) → x.seen.stage ≡ In Run → Staged t x → Rooted k t z
run_rooted k t x z runs s = (
  λ p. absurd (run_promoting t x runs s p),
  ⊎_elim (λ (h : Promoting t × (z.own.arrivals ≡ t.phase + 1)). absurd (run_promoting t x runs s h.0)) (λ (h : Resetting t). absurd (⊎_elim
      (λ (odd : (j : ℕ) × (t.phase ≡ j * 2 + 1) × (t.kinds j ≢ Run)). not_both t.phase (here.0, here.1) (odd.0, odd.1))
      (λ (even : (j : ℕ) × (t.phase ≡ j * 2) × IsEmptying (t.kinds j)). even.2.0 (kind_differs t even.0 here.0 t.phase (t.kinds even.0) Run even.1 here.1 refl here.2))
      h)),
) where
  here : (j : ℕ) × (t.phase ≡ j * 2) × (t.kinds j ≡ Run)
  here = (subst (AtStage t x.own.number x.own.arrivals) runs s.stage).1

pub run_copying : (t : Pause) (x : DomainView) (d : ℕ) → x.seen.stage ≡ In Run → Staged t x → IsCopying t d → ⊥
run_copying t x d runs s c = run_promoting t x runs s c.1

-- a pause in which nobody copies has used nothing of the pools
pub room_unused : (k : Config) (live : Live) (t : Pause) (s : Stock) (words : List ℕ) → (Promoting t → ⊥) → Room k live t (spent_stock s) words
room_unused k live t s words rests = record {
  fills = λ d c. omega arith;
  fit = subst (λ (n : ℕ). n ≤ count (λ _. false) (heap_words k + 1)) (sym (nothing_drawn k.domains)) (zero-le);
  claims = λ x e. cc;
  listed_copies = λ d. zero-le;
  left = λ p. absurd (rests p);
} where
  zeros : (n : ℕ) → sum_of (λ c. 0 * size_of c) n ≡ 0
  zeros zero = refl
  zeros (suc n) = let h : sum_of (λ c. 0 * size_of c) n ≡ 0 = zeros n in let z : 0 * size_of n ≡ 0 = omega arith in λ i. h i + z i

  nothing_drawn : (n : ℕ) → sum_of (copied_words (spent_stock s)) n ≡ 0
  nothing_drawn zero = refl
  nothing_drawn (suc n) = let h = nothing_drawn n in let z = zeros class_count in λ i. h i + z i

pub room_words : (k : Config) (live : Live) (t : Pause) (s : Stock) (words words' : List ℕ) → (Promoting t → (listed words' ≡ listed words) × (cursor words' ≡ cursor words)) → Room k live t s words → Room k live t s words'
room_words k live t s words words' same r = record {
  fills = r.fills;
  fit = r.fit;
  claims = r.claims;
  listed_copies = r.listed_copies;
  left = λ p a q lives young. let e = same p in subst (λ (m : ℕ × ℕ). m.0 + reserve (sizes_in k) ≤ m.1 + drawn_in_all k s) (λ i. (sym e.1 i, sym e.0 i)) (r.left p a q lives young);
}

pub opened_words : (k : Config) (live : Live) (words words' : List ℕ) → ((a : ℕ) (q : Place) → live a ≡ Some q → k.pools * 4096 < a → listed words' ≡ listed words) → Opened k live words → Opened k live words'
opened_words k live words words' same o a q lives young = subst (λ (n : ℕ). reserve (sizes_in k) ≤ n) (sym (same a q lives young)) (o a q lives young)

-- the list that domain 0 writes stays where the control words, the list and the owner words do
pub lists_same : (k : Config) (words words' : List ℕ) (number : ℕ) (stage : Stage) (l : Listing) → listed words' ≡ listed words → cursor words' ≡ cursor words → ((i : ℕ) → i < k.pools → listed_pool words' i ≡ listed_pool words i) → ((q : ℕ) → q < k.pools → owner_of k words' q ≡ owner_of k words q)
    → Lists k words number stage l → Lists k words' number stage l
lists_same k words words' number stage l count asked list owner s = record {
  who = s.who;
  few = s.few;
  owners = λ q w got. owner q (within (length l.owners) q s.few.0 (slice_get_within l.owners q w got)) ∙ s.owners q w got;
  names = λ i q got. list i (within (length l.names) i s.few.1 (slice_get_within l.names i q got)) ∙ s.names i q got;
  count = count ∙ s.count;
  found = λ c e. asked ∙ s.found c e;
} where
  within : (n i : ℕ) → n ≤ k.pools → i < n → i < k.pools
  within n i few below = let f : n ≤ k.pools = few in let b : i < n = below in omega arith

pub lists_control : (k : Config) (words words' : List ℕ) (number : ℕ) (stage : Stage) (l : Listing) → Control k words words' → Lists k words number stage l → Lists k words' number stage l
lists_control k words words' number stage l c s = lists_same k words words' number stage l (c 6 (omega arith)) (c 7 (omega arith)) (λ i h. let g : i < k.pools = h in c (11 + i) (omega arith)) (λ q h. let g : q < k.pools = h in c (11 + k.pools + q) (omega arith)) s

pub resting_lists : (k : Config) (words words' : List ℕ) (z : DomainView) → ((number : ℕ) (stage : Stage) (l : Listing) → Lists k words number stage l → Lists k words' number stage l) → Resting k words z → Resting k words' z
resting_lists k words words' z lists r = record { hunt = r.hunt; free = r.free; spare = r.spare; lists = λ l e. lists z.own.number z.seen.stage l (r.lists l e) }

-- a domain that stands where it stood, and knows the same of the pools
pub resting_as : (k : Config) (words : List ℕ) (x y : DomainView) → y.own.number ≡ x.own.number → y.seen.stage ≡ x.seen.stage → y.seen.hunt ≡ x.seen.hunt → y.seen.free ≡ x.seen.free → y.seen.spare ≡ x.seen.spare → y.seen.listing ≡ x.seen.listing → Resting k words x → Resting k words y
resting_as k words x y number stage hunt free spare listing r = record {
  hunt = λ n. hunt ∙ r.hunt (λ takes. n (subst Takes (sym stage) takes));
  free = λ n. free ∙ r.free (λ e. n (stage ∙ e));
  spare = λ n. spare ∙ r.spare (λ e. n (stage ∙ e));
  lists = λ l e. subst (λ (z : ℕ × Stage). Lists k words z.0 z.1 l) (λ i. (sym number i, sym stage i)) (r.lists l (sym listing ∙ e));
}

-- the pools stand where their words do
pub pools_words : (k : Config) (t : Tenancy) (words words' : List ℕ) → listed words' ≡ listed words → cursor words' ≡ cursor words → ((i : ℕ) → i < k.pools → listed_pool words' i ≡ listed_pool words i) → ((q : ℕ) → q < k.pools → owner_of k words' q ≡ owner_of k words q) → Pools k t words → Pools k t words'
pools_words k t words words' counts asked list owner s =
    let n : ℕ = listed words in
    let n' : ℕ = listed words' in
    let p : ℕ = k.pools in
    let few : n ≤ p = s.few in
    let same : n' ≡ n = counts in
    let lower : (i : ℕ) → i < n' → i < n = (λ i h. let g : i < n' = h in omega arith) in
    let names : (i : ℕ) → i < n → listed_pool words' i ≡ listed_pool words i = (λ i h. let g : i < n = h in list i (omega arith)) in record {
      few = let e : n' ≤ p = omega arith in e;
      inside = λ i h. subst (λ (q : ℕ). q < p) (sym (names i (lower i h))) (s.inside i (lower i h));
      once = λ i j h g e. s.once i j (lower i h) (lower j g) (sym (names i (lower i h)) ∙ (e ∙ names j (lower j g)));
      untaken = λ i h g. ap t.holder (names i (lower i h)) ∙ s.untaken i (lower i h) (subst (λ (m : ℕ). m ≤ i) asked g);
      owners = λ q h. owner q h ∙ s.owners q h;
      owned_by = s.owned_by;
      drawn_by = s.drawn_by;
      one_each = s.one_each;
      asked = subst (λ (m : ℕ). m + sum_of t.asking k.domains ≤ k.pools + k.domains) (sym asked) s.asked;
    }

pub pools_same : (k : Config) (t : Tenancy) (words words' : List ℕ) → Control k words words' → Pools k t words → Pools k t words'
pools_same k t words words' c s = pools_words k t words words' (c 6 (omega arith)) (c 7 (omega arith)) (λ i h. let g : i < k.pools = h in c (11 + i) (omega arith)) (λ q h. let g : q < k.pools = h in c (11 + k.pools + q) (omega arith)) s

-- the list is whole where it was
pub whole_words : (p : Pause) (words words' : List ℕ) → listed words' ≡ listed words → IsListWhole p words' → IsListWhole p words
whole_words p words words' counts is = ⊎_elim (λ h. inl h) (λ (some : listed words' ≢ 0). inr (λ e. some (counts ∙ e))) is

-- and each pool that is nobody's is listed as it was
pub covered_words : (k : Config) (p : Pause) (t : Tenancy) (words words' : List ℕ) → listed words' ≡ listed words → cursor words' ≡ cursor words → ((i : ℕ) → i < k.pools → listed_pool words' i ≡ listed_pool words i) → listed words ≤ k.pools → Covered k p t words → Covered k p t words'
covered_words k p t words words' counts asked list few covered runs q inside free =
    let at = covered (whole_words p words words' counts runs) q inside free in
    let i : ℕ = at.0 in
    let n : ℕ = listed words in
    let f : n ≤ k.pools = few in
    let below : i < n = at.1 in
    (i, subst (λ (m : ℕ). i < m) (sym counts) at.1, list i (omega arith) ∙ at.2, subst (λ (m : ℕ × ℕ). (m.0 ≤ i) ⊎ (limit_of k m.1 ≤ i)) (λ j. (sym asked j, sym counts j)) at.3)

pub cycle_control : (k : Config) (words words' : List ℕ) → Control k words words' → SameCycle words words'
cycle_control k words words' c = record { armed_same = c 4 (omega arith); colours_same = c 5 (omega arith); changed_same = c 3 (omega arith); blocks_same = c 9 (omega arith); words_same = c 10 (omega arith) }

-- what a step owes each part of the rule that speaks of the words before the heap's
pub record Controls (k : Config) (all : Account) (words words' : List ℕ) : Type 0 where
  pub phases : Phases k all.pause words'
  pub want : want words' ≡ want words
  pub ended : ended_word words' ≡ ended_word words
  pub pools : Pools k all.tenancy words'
  pub lists : (number : ℕ) (stage : Stage) (l : Listing) → Lists k words number stage l → Lists k words' number stage l
  pub cycle : SameCycle words words'
  pub reserved : Reserved k all.pause all.tenancy words'
  pub covered : Covered k all.pause all.tenancy words'
  pub counts : Promoting all.pause → (listed words' ≡ listed words) × (cursor words' ≡ cursor words)
  pub listed_young : (a : ℕ) (q : Place) → all.live a ≡ Some q → k.pools * 4096 < a → listed words' ≡ listed words
  pub drawable : Drawable k all.pause words'
  pub set_back : (z : DomainView) → Staged all.pause z → HasSetBack z → cursor words ≤ limit_of k (listed words) → cursor words' ≤ limit_of k (listed words')

-- what a domain knows of its pools, by other data of it
pub hunter_as : (k : Config) (t : Tenancy) (words : List ℕ) (x y : DomainView) → y.own.number ≡ x.own.number → y.seen.hunt ≡ x.seen.hunt → y.own.looked ≡ x.own.looked → y.seen.free ≡ x.seen.free → y.seen.spare ≡ x.seen.spare → y.own.prepared ≡ x.own.prepared → length y.own.pending.items ≡ length x.own.pending.items
    → Hunter k t words x → Hunter k t words y
hunter_as k t words x y number hunt looked free spare prepared pending h = record {
  free = λ f e. h.free f (ap (λ (l : List ℕ). slice_get l 0) (sym free) ∙ e);
  spare = λ z e. subst (λ (d : ℕ). IsFree k t.holder words d z) (sym number) (h.spare z (sym spare ∙ e));
  hunt = subst (λ (z : ℕ × Hunt). Hunts k t words z.0 z.1) (λ i. (sym number i, sym hunt i)) h.hunt;
  drawn_alone = λ q e. ap drawn_in hunt ∙ h.drawn_alone q (e ∙ ap drawn number);
  taken = λ q c slot e inside low. h.taken q c slot (e ∙ ap (λ (d : ℕ). owned d c) number) inside (subst (λ (l : List Search). IsPassed q slot (search_at l c)) looked low);
  holds = λ c a few e. let u = h.holds c a few (ap (λ (l : List (Option ℕ)). prepared_at l c) (sym prepared) ∙ e) in (u.0 ∙ ap Some (sym number), (u.1.0, u.1.1, u.1.2 ∙ ap (λ (d : ℕ). owned d c) (sym number), u.1.3, u.1.4));
  prepared = λ q c slot is inside e. ap (λ (l : List (Option ℕ)). prepared_at l c) prepared ∙ h.prepared q c slot (is ∙ ap (λ (d : ℕ). owned d c) number) inside (e ∙ ap Some number);
  claims = pending ∙ (h.claims ∙ ap t.stock.claims (sym number));
  supply = λ c few some. subst (λ (z : ℕ × Hunt). DrawsFor c z.1 ⊎ Latest k t words z.0 c) (λ i. (sym number i, sym hunt i)) (h.supply c few (subst (λ (d : ℕ). 0 < t.stock.drawn d c) number some));
}

-- another domain's registers and serial stand for what they stood for
pub stood_other : (live live' : Live) (s t : model.State) (x : DomainView) → KeepsDomain s t x.own.number → KeepsWork s t x.own.number → More live live' → Stood live s x → Stood live' t x
stood_other live live' s t x keeps work more st = record {
  wide = st.wide;
  each = λ r few. subst (Stands live' (value_at x.own.registers r)) (sym (ap (λ (xs : List Value). get_or xs r Nothing) keeps.registers)) (stands_more live live' (value_at x.own.registers r) (register s x.own.number r) more (st.each r few));
  serial = st.serial ∙ sym keeps.serial;
  enrolled = enrolled_more live live' t x.own.number x.own.finalisers more (enrolled_as live s t x.own.number x.own.finalisers work st.enrolled);
}

-- a seat stands for the domain still, whose front stays or is the whole history
pub seated_as : (k : Config) (log : List Entry) (seat : ℕ → ℕ) (id : ℕ) (x y : DomainView) → y.own.number ≡ x.own.number → (y.seen.front ≡ x.seen.front) ⊎ (y.seen.front ≡ log) → IsSeated k log seat id x → IsSeated k log seat id y
seated_as k log seat id x y number front was = record {
  inside = subst (λ (n : ℕ). n < k.domains) (sym number) was.inside;
  here = ap seat number ∙ was.here;
  front = subst (λ (n : ℕ). IsFrontOf n log y.seen.front) (sym number)
      (⊎_elim (λ (same : y.seen.front ≡ x.seen.front). subst (IsFrontOf x.own.number log) (sym same) was.front) (λ (whole : y.seen.front ≡ log). subst (IsFrontOf x.own.number log) (sym whole) (front_whole x.own.number log)) front);
  led = λ leads. ⊎_elim
      (λ (same : y.seen.front ≡ x.seen.front). subst (λ (f : List Entry). AreNotControls (unseen log f)) (sym same) (was.led (sym number ∙ leads)))
      (λ (whole : y.seen.front ≡ log). unseen_whole (λ v. not (is_control v)) log y.seen.front whole)
      front;
}

module _ (k : Config) (s : Words) (r : Rule k s) (id : ℕ) (hist : List Entry) (x : DomainView) (at : get_elem? s.views id ≡ some (one k hist x)) where
  abbrev pub now : model.State
  now = state_of k r.account.log

  pub mine : IsSeated k r.account.log r.seat id x
  mine = ((r.views id (one k hist x) at).domains).0

  pub my_good : Good k r.account s.words x
  my_good = (r.good id (one k hist x) at).0

  -- what the own front tells of the own domain the history tells too
  pub own : KeepsDomain (state_of k x.seen.front) (state_of k r.account.log) x.own.number
  own = keeps_front (opening (sizes_in k)) x.own.number r.account.log x.seen.front mine.front

  -- every other seat stands for other domains
  pub other_domain : (j : ℕ) (y : DomainView) → j ≢ id → IsSeated k r.account.log r.seat j y → y.own.number ≢ x.own.number
  other_domain j y n see same = n (sym see.here ∙ (ap r.seat same ∙ mine.here))

  -- Any step of the domain: what the rule says of the whole, of the own domain, and of each other one
  pub remakes : (y : DomainView) (all' : Account) (words' : List ℕ) → Whole k all' words' → EachView (Knows k all'.log r.seat) (set s.views id (one k hist y)) → Good k all' words' y
      → ((z : DomainView) → z.own.number < k.domains → z.own.number ≢ x.own.number → Good k r.account s.words z → Good k all' words' z)
      → Rule k record { words = words'; homes = s.homes; views = set s.views id (one k hist y) }
  remakes y all' words' whole knows own_good goods = let G : DomainView → Type 0 = Good k r.account s.words in let G' : DomainView → Type 0 = Good k all' words' in record {
    account = all';
    seat = r.seat;
    limits = r.limits;
    whole = whole;
    seats = λ d. subst (λ (n : ℕ). r.seat d < n) (sym (length-set s.views id (one k hist y))) (r.seats d);
    views = knows;
    good = views_set (λ j v. AllDomains (IsSeated k r.account.log r.seat j) v.domains × AllDomains G v.domains) (λ j v. AllDomains G' v.domains)
        s.views id (one k hist y) (λ j v f. ((r.views j v f).domains, r.good j v f)) (own_good, tt)
        (λ j v n both. domains_with (IsSeated k r.account.log r.seat j) G G' v.domains (λ z a b. goods z a.inside (other_domain j z n a) b) both.0 both.1);
  }

  -- the seats' fronts where no entry stands: the own one stays, or is the whole history
  pub knows_front : (y : DomainView) → y.own.number ≡ x.own.number → (y.seen.front ≡ x.seen.front) ⊎ (y.seen.front ≡ r.account.log) → EachView (Knows k r.account.log r.seat) (set s.views id (one k hist y))
  knows_front y number front = views_set (Knows k r.account.log r.seat) (Knows k r.account.log r.seat) s.views id (one k hist y) r.views
      record {
        config = (refl, tt);
        distinct = (tt, tt);
        history = (r.views id (one k hist x) at).history;
        domains = (seated_as k r.account.log r.seat id x y number front mine, tt);
      }
      (λ j v n see. see)

  longer : (h : List Entry) (e : Entry) → IsPrefix h r.account.log → IsPrefix h (r.account.log ++ e ∷ [])
  longer h e p = record { rest = p.rest ++ e ∷ []; appends = ap (λ l. l ++ e ∷ []) p.appends ∙ append_assoc h p.rest (e ∷ []) }

  -- and where one of the domain stands. Domain 0 alone leads collections
  pub knows_entry : (y : DomainView) (e : Entry) → ((d : ℕ) → d ≢ x.own.number → is_entry_of d e ≡ false) → (x.own.number ≢ 0 → is_control e ≡ false) → y.own.number ≡ x.own.number → y.seen.front ≡ r.account.log ++ e ∷ []
      → EachView (Knows k (r.account.log ++ e ∷ []) r.seat) (set s.views id (one k hist y))
  knows_entry y e alone quiet number front = let log' : List Entry = r.account.log ++ e ∷ [] in views_set (Knows k r.account.log r.seat) (Knows k log' r.seat) s.views id (one k hist y) r.views
      record {
        config = (refl, tt);
        distinct = (tt, tt);
        history = longer hist e (r.views id (one k hist x) at).history;
        domains = (
          record {
            inside = subst (λ (n : ℕ). n < k.domains) (sym number) mine.inside;
            here = ap r.seat number ∙ mine.here;
            front = subst (λ (f : List Entry). IsFrontOf y.own.number log' f) (sym front) (front_whole y.own.number log');
            led = λ _. unseen_whole (λ v. not (is_control v)) log' y.seen.front front;
          },
          tt,
        );
      }
      (λ j v n see. record {
        config = see.config;
        distinct = see.distinct;
        history = longer v.history e see.history;
        domains = domains_map (IsSeated k r.account.log r.seat j) (IsSeated k log' r.seat j) v.domains (λ z a. record {
          inside = a.inside;
          here = a.here;
          front = front_push z.own.number r.account.log z.seen.front e (alone z.own.number (other_domain j z n a)) a.front;
          led = λ leads. unseen_push (λ v. not (is_control v)) r.account.log z.seen.front e (a.led leads) (ap not (quiet (λ mine_leads. other_domain j z n a (leads ∙ sym mine_leads))));
        }) see.domains;
      })

  -- the state after one more entry
  pub after_entry : (e : Entry) → state_of k (r.account.log ++ e ∷ []) ≡ next now e
  after_entry e = state_after-push (opening (sizes_in k)) r.account.log e

  pub legal_entry : (e : Entry) → Allowed now e → Legal (sizes_in k) (r.account.log ++ e ∷ [])
  legal_entry e allowed = legal_push (opening (sizes_in k)) r.account.log e r.whole.legal allowed

  -- where the words before the heap's stay, so do the parts that speak of them
  pub controls_kept : (words' : List ℕ) → Control k s.words words' → Controls k r.account s.words words'
  controls_kept words' c = record {
    phases = phases_same k r.account.pause s.words words' c r.whole.phases;
    want = c 0 (omega arith);
    ended = c 8 (omega arith);
    pools = pools_same k r.account.tenancy s.words words' c r.whole.pools;
    lists = λ number stage l. lists_control k s.words words' number stage l c;
    cycle = cycle_control k s.words words' c;
    reserved = λ keeps i below above. let n : ℕ = listed s.words in let n' : ℕ = listed words' in let e : n' ≡ n = c 6 (omega arith) in
        let few : n ≤ k.pools = r.whole.pools.few in
        let low : i < n = (let g : i < n' = below in omega arith) in
        ap r.account.tenancy.holder (c (11 + i) (omega arith)) ∙ r.whole.reserved keeps i low (subst (λ (m : ℕ). limit_of k m ≤ i) e above);
    covered = covered_words k r.account.pause r.account.tenancy s.words words' (c 6 (omega arith)) (c 7 (omega arith)) (λ i h. let g : i < k.pools = h in c (11 + i) (omega arith)) r.whole.pools.few r.whole.covered;
    counts = λ _. (c 6 (omega arith), c 7 (omega arith));
    listed_young = λ _ _ _ _. c 6 (omega arith);
    drawable = record {
      to_run = λ j odd led runs. subst (λ (m : ℕ × ℕ). m.0 ≤ limit_of k m.1) (λ i. (sym (c 7 (omega arith)) i, sym (c 6 (omega arith)) i)) (r.whole.drawable.to_run j odd led runs);
      to_copy = λ j odd led copies. subst (λ (m : ℕ × ℕ). m.0 ≤ limit_of k m.1) (λ i. (sym (c 7 (omega arith)) i, sym (c 6 (omega arith)) i)) (r.whole.drawable.to_copy j odd led copies);
    };
    set_back = λ _ _ _ low. subst (λ (m : ℕ × ℕ). m.0 ≤ limit_of k m.1) (λ i. (sym (c 7 (omega arith)) i, sym (c 6 (omega arith)) i)) low;
  }

  -- what a running domain owes then
  pub quiet : x.seen.stage ≡ In Run → x.seen.copying ≡ nothing_copied
  quiet runs = quiet_in k r.account.live x my_good.owes (run_not_promote x.seen.stage runs)

  pub run_settled : x.seen.stage ≡ In Run → Settled r.account.live
  run_settled runs = ⊎_elim (λ (h : Settled r.account.live). h) (λ (h : Promoting r.account.pause). absurd (run_promoting r.account.pause x runs my_good.staged h)) r.whole.settled

  -- a step of a domain in a phase without a collection of the major heap changes nothing of one
  pub no_cycle_here : (kind : Kind) → HasNoCycle kind → x.seen.stage ≡ In kind → HasNoCycle r.account.cycling.kind
  no_cycle_here kind none is = subst HasNoCycle (sym (kind_now k r.account.pause r.account.cycling x kind is my_good.staged r.whole.cycle.told)) none

  pub between_here : (kind : Kind) → HasNoCycle kind → x.seen.stage ≡ In kind → IsBetween k now r.account.live r.account.cycling
  between_here kind none is = facts_between r.account.cycling.kind k now r.account.live r.account.tenancy r.account.cycling s.words (no_cycle_here kind none is) r.whole.cycle.facts

  pub cycle_here : (kind : Kind) → HasNoCycle kind → x.seen.stage ≡ In kind → (after : model.State) (live' : Live) (t' : Tenancy) (past' : Snapshot) (words' : List ℕ) → after.mode ≡ now.mode → KeepsGarbage k live' r.account.tenancy t' s.words words' → SameCycle s.words words'
      → KeepsUnderway k now after r.account.live live' r.account.cycling past' → Cycled k after live' r.account.pause t' (with_past r.account.cycling past') words'
  cycle_here kind none is after live' t' past' words' mode garbage same keeps = cycle_between k now after r.account.live live' r.account.pause r.account.tenancy t' r.account.cycling past' s.words words' (no_cycle_here kind none is) mode garbage same keeps r.whole.cycle

  -- no block misses keys then
  pub whole_here : (kind : Kind) → HasNoCycle kind → x.seen.stage ≡ In kind → (l : Label) → r.account.cycling.paint.emptied l ≡ []
  whole_here kind none is l = none_misses r.account.live r.account.tenancy.holder r.account.cycling (no_cycle_here kind none is) r.whole.cycle.whole l

  -- the lists of ephemerons fit where none comes to live and none dies
  pub listed_here : (live' : Live) → ((a : ℕ) → IsEpheAt live' a → IsEpheAt r.account.live a) → More r.account.live live' → (z : DomainView) → Good k r.account s.words z → Listed live' r.account.tenancy.holder r.account.tenancy.garbage z.own.number z.own.ephemerons.items
  listed_here live' was more z g = listed_on r.account.live live' r.account.tenancy.holder r.account.tenancy.holder r.account.tenancy.garbage r.account.tenancy.garbage z.own.number z.own.ephemerons.items (λ q c e. e) (λ q c e. e) was (λ a e. inl (ephe_more r.account.live live' more a e)) (λ a e. e) g.listed

  pub idle_here : (kind : Kind) → HasNoCycle kind → x.seen.stage ≡ In kind → IsIdle x.seen.share
  idle_here kind none is = idle_in k r.account.live r.account.tenancy.holder now.graph r.account.cycling.paint.marks s.words x kind none is my_good.sharing.knows

  -- what a domain in such a phase knows as it runs beside a cycle
  abbrev pub RunsIn : Account → List ℕ → DomainView → Type 0
  RunsIn all' words' z = RunsBeside k all'.live all'.tenancy.holder all'.cycling.armed all'.cycling.past all'.cycling.paint.marks.marked words' z.own.number z.seen.stage z.seen.share

  pub runs_here : (all' : Account) (words' : List ℕ) → all'.cycling ≡ r.account.cycling → (z : DomainView) → (z.seen.stage ≡ In Run → Endures k r.account.live all'.live r.account.tenancy.holder all'.tenancy.holder r.account.cycling.paint.marks.marked r.account.cycling.paint.marks.marked s.words words') → Good k r.account s.words z → RunsIn all' words' z
  runs_here all' words' cycling z o g = subst (λ (c : Cycling). RunsBeside k all'.live all'.tenancy.holder c.armed c.past c.paint.marks.marked words' z.own.number z.seen.stage z.seen.share) (sym cycling)
      (runs_on k r.account.live all'.live r.account.tenancy.holder all'.tenancy.holder r.account.cycling.armed r.account.cycling.past r.account.cycling.past r.account.cycling.paint.marks.marked r.account.cycling.paint.marks.marked s.words words' z.own.number z.seen.stage z.seen.share o refl (λ q. refl) g.sharing.running)

  pub sharing_here : (kind : Kind) → HasNoCycle kind → x.seen.stage ≡ In kind → (all' : Account) (words' : List ℕ) (past' : Snapshot) (weak' : Option ℕ) (y : DomainView) → all'.cycling ≡ with_past r.account.cycling past' → SameCycle s.words words'
      → y.own.number ≡ x.own.number → y.seen.stage ≡ x.seen.stage → y.seen.share ≡ with_weak x.seen.share weak' → RunsIn all' words' y → Sharing k all' words' y.own.number y.own.registers y.own.finalisers y.own.ephemerons.items y.seen.stage y.seen.share
  sharing_here kind none is all' words' past' weak' y cycling same number stage share runs =
      let c1 : Cycling = with_past r.account.cycling past' in
      let no1 : HasNoCycle all'.cycling.kind = subst (λ (c : Cycling). HasNoCycle c.kind) (sym cycling) (no_cycle_here kind none is) in
      let idle : IsIdle y.seen.share = subst IsIdle (sym share) (ap (λ (z : Share). with_weak z weak') (idle_here kind none is)) in
      let unmissed : (l : Label) → all'.cycling.paint.emptied l ≡ [] = subst (λ (c : Cycling). (l : Label) → c.paint.emptied l ≡ []) (sym cycling) (whole_here kind none is) in record {
        telling = subst (λ (c : Cycling). Telling c.paint.colours c.shares y.own.number y.seen.share) (sym cycling)
            (telling_as r.account.cycling.paint.colours r.account.cycling.shares x.own.number y.own.number (with_weak x.seen.share weak') y.seen.share number share (telling_weak r.account.cycling.paint.colours r.account.cycling.shares x.own.number x.seen.share weak' my_good.sharing.telling));
        leading = subst (λ (c : Cycling). Leading c words' y.own.number y.seen.stage y.seen.share) (sym cycling)
            (leading_as c1 words' x.own.number y.own.number x.seen.stage y.seen.stage (with_weak x.seen.share weak') y.seen.share number stage share
            (leading_weak c1 words' x.own.number x.seen.stage x.seen.share weak' (leading_past r.account.cycling past' words' x.own.number x.seen.stage x.seen.share (leading_words r.account.cycling s.words words' x.own.number x.seen.stage x.seen.share same my_good.sharing.leading))));
        knows = inl idle;
        adds = adds_nothing all'.live all'.cycling y.own.number y.seen.share no1;
        looks = looks_idle all'.live all'.tenancy.holder (state_of k all'.log).graph all'.cycling.paint.marks all'.cycling.paint.emptied y.own.number y.own.ephemerons.items y.seen.stage y.seen.share idle unmissed;
        running = runs;
        deciding = deciding_none all'.live all'.cycling.kind all'.cycling.left all'.cycling.shares.arrived all'.cycling.paint.marks.marked y.own.number y.own.finalisers y.seen.share.kept y.seen.share.waiting no1;
      }

  pub sharings_here : (kind : Kind) → HasNoCycle kind → x.seen.stage ≡ In kind → (all' : Account) (words' : List ℕ) (past' : Snapshot) → all'.cycling ≡ with_past r.account.cycling past' → SameCycle s.words words'
      → (z : DomainView) → Good k r.account s.words z → RunsIn all' words' z → Sharing k all' words' z.own.number z.own.registers z.own.finalisers z.own.ephemerons.items z.seen.stage z.seen.share
  sharings_here kind none is all' words' past' cycling same z g runs =
      let no1 : HasNoCycle all'.cycling.kind = subst (λ (c : Cycling). HasNoCycle c.kind) (sym cycling) (no_cycle_here kind none is) in
      let idle : IsIdle z.seen.share = idle_beside k r.account.live r.account.tenancy.holder now.graph r.account.cycling.paint.marks s.words r.account.pause x z kind none is my_good.staged g.staged g.sharing.knows in
      let unmissed : (l : Label) → all'.cycling.paint.emptied l ≡ [] = subst (λ (c : Cycling). (l : Label) → c.paint.emptied l ≡ []) (sym cycling) (whole_here kind none is) in record {
        telling = subst (λ (c : Cycling). Telling c.paint.colours c.shares z.own.number z.seen.share) (sym cycling) g.sharing.telling;
        leading = subst (λ (c : Cycling). Leading c words' z.own.number z.seen.stage z.seen.share) (sym cycling) (leading_past r.account.cycling past' words' z.own.number z.seen.stage z.seen.share (leading_words r.account.cycling s.words words' z.own.number z.seen.stage z.seen.share same g.sharing.leading));
        knows = inl idle;
        adds = adds_nothing all'.live all'.cycling z.own.number z.seen.share no1;
        looks = looks_idle all'.live all'.tenancy.holder (state_of k all'.log).graph all'.cycling.paint.marks all'.cycling.paint.emptied z.own.number z.own.ephemerons.items z.seen.stage z.seen.share idle unmissed;
        running = runs;
        deciding = deciding_none all'.live all'.cycling.kind all'.cycling.left all'.cycling.shares.arrived all'.cycling.paint.marks.marked z.own.number z.own.finalisers z.seen.share.kept z.seen.share.waiting no1;
      }

  -- where the heads of garbage are what they were, and nothing comes to live there, it stays
  pub garbage_here : (live' : Live) (words' : List ℕ) → ((a : ℕ) → IsTrue (r.account.tenancy.garbage a) → live' a ≡ None) → ((a : ℕ) → IsTrue (r.account.tenancy.garbage a) → at_address k words' a ≡ at_address k s.words a)
      → KeepsGarbage k live' r.account.tenancy r.account.tenancy s.words words'
  garbage_here live' words' dead heads = record { same = λ a. refl; dead = dead; unprepared = r.whole.cycle.leaves.unprepared; heads = heads; held = λ q d c e. e }

  -- no collector's entry is open while a domain runs
  pub run_open : x.seen.stage ≡ In Run → now.mode ≡ Open
  run_open runs = (between_here Run tt runs).mode

  -- How an own entry goes on with a cycle beside running domains: what is known of it holds of the next state, with what is then overwritten, and with the one register that the domain may owe
  pub record Advances (e : Entry) (weak : Option ℕ) (live' : Live) (past' : Snapshot) : Type 0 where
    pub same_old : past'.old ≡ r.account.cycling.past.old
    pub owed_others : (d q : ℕ) → d ≢ x.own.number → past'.owed d q ≡ r.account.cycling.past.owed d q
    pub owed_own : IsTrue r.account.cycling.armed → (q : ℕ) → past'.owed x.own.number q ≡ is_weak weak q
    pub unweak : (weak ≡ None) ⊎ IsTrue r.account.cycling.armed
    pub underway : KeepsUnderway k now (next now e) r.account.live live' r.account.cycling past'

  -- What a step owes at which an own entry stands, whatever it does to the words
  pub record Appends (e : Entry) (y : DomainView) (words' : List ℕ) (live' : Live) (homes' : Homes) (past' : Snapshot) : Type 0 where
    pub alone : (d : ℕ) → d ≢ x.own.number → is_entry_of d e ≡ false
    pub of_trace : IsOfTrace e
    pub full : Fullness k (r.account.log ++ e ∷ []) live' r.account.tenancy.holder r.account.tenancy.fresh r.account.tenancy.garbage homes' r.account.cycling.kind
    pub runs : x.seen.stage ≡ In Run
    pub stage : y.seen.stage ≡ x.seen.stage
    pub listing : y.seen.listing ≡ x.seen.listing
    pub weak : Option ℕ
    pub share : y.seen.share ≡ with_weak x.seen.share weak
    pub advances : Advances e weak live' past'
    pub heads : (a : ℕ) (p : Place) → r.account.live a ≡ Some p → at_address k words' a ≡ at_address k s.words a
    pub allowed : Allowed now e
    pub is_open : (next now e).mode ≡ Open
    pub number : y.own.number ≡ x.own.number
    pub front : y.seen.front ≡ r.account.log ++ e ∷ []
    pub arrivals : y.own.arrivals ≡ x.own.arrivals
    pub wide : length words' ≡ length s.words
    pub controls : Controls k r.account s.words words'
    pub found : AllFound k r.account.cycling.paint live' (next now e).graph words'
    pub placed : Placed k live'
    pub spread : Spread k live'
    pub opened : Opened k live' words'
    pub settled : Settled live'
    pub more : More r.account.live live'
    pub owes : Owes k live' y
    pub recalls : (d : ℕ) → d ≢ x.own.number → Recalls d r.account.live live'
    pub naming : (b : ℕ) (q : Place) (i d : ℕ) → live' b ≡ Some q → q.named i ≡ Some d → (d < k.domains) × (i + 2 < extent q.shape)
    pub stood : Stood live' (next now e) y
    pub area : Area k live' y
    pub making : Making k words' y
    pub areas : (z : DomainView) → z.own.number ≢ x.own.number → Area k r.account.live z → Area k live' z
    pub makings : (z : DomainView) → z.own.number ≢ x.own.number → Area k r.account.live z → Making k s.words z → Making k words' z
    pub grid : Grid k r.account.tenancy live' words'
    pub hunter : Hunter k r.account.tenancy words' y
    pub hunters : (z : DomainView) → z.own.number ≢ x.own.number → Good k r.account s.words z → Hunter k r.account.tenancy words' z
    pub listed : Listed live' r.account.tenancy.holder r.account.tenancy.garbage y.own.number y.own.ephemerons.items
    pub listeds : (z : DomainView) → z.own.number ≢ x.own.number → Good k r.account s.words z → Listed live' r.account.tenancy.holder r.account.tenancy.garbage z.own.number z.own.ephemerons.items
    pub garbage : KeepsGarbage k live' r.account.tenancy r.account.tenancy s.words words'
    pub sweeps : SweepsIn r.account.tenancy r.account.cycling y

  pub appends : (e : Entry) (y : DomainView) (words' : List ℕ) (live' : Live) (homes' : Homes) (past' : Snapshot) → Appends e y words' live' homes' past' → Rule k record { words = words'; homes = s.homes; views = set s.views id (one k hist y) }
  appends e y words' live' homes' past' o =
      let log' : List Entry = r.account.log ++ e ∷ [] in
      let after : state_of k log' ≡ next now e = after_entry e in
      let c : Cycling = r.account.cycling in
      let all' : Account = record r.account { log = log'; live = live'; homes = homes'; cycling = with_past c past' } in
      let endures : Endures k r.account.live live' r.account.tenancy.holder r.account.tenancy.holder c.paint.marks.marked c.paint.marks.marked s.words words' = record { more = o.more; held = λ q d class e. e; stays = λ l is. is; heads = λ a p e. inl (o.heads a p e) } in
      let holder : ℕ → Holder = r.account.tenancy.holder in
      let own_runs : RunsIn all' words' y = runs_as k live' holder c.armed past' c.paint.marks.marked words' x.own.number y.own.number x.seen.stage y.seen.stage (with_weak x.seen.share o.weak) y.seen.share o.number o.stage o.share record {
        knows = knows_weak k live' holder c.armed past' c.paint.marks.marked words' x.seen.stage x.seen.share o.weak o.runs o.advances.unweak
            (⊎_elim (λ (u : IsUnaware x.seen.share). inl u.0) (λ (u : (x.seen.stage ≡ In Run) × IsTrue c.armed × AllKnown k r.account.live holder c.past.old c.paint.marks.marked s.words x.seen.share.known). inr (
              u.1,
              subst (λ (g : Graph). AllKnown k live' holder g c.paint.marks.marked words' x.seen.share.known) (sym o.advances.same_old) (all_known_on k r.account.live live' holder holder c.past.old c.paint.marks.marked c.paint.marks.marked s.words words' endures x.seen.share.known u.2),
            )) my_good.sharing.running.knows);
        owes = o.advances.owed_own;
      } in
      remakes y all' words'
      record {
        wide = o.wide ∙ r.whole.wide;
        legal = legal_entry e o.allowed;
        full = o.full;
        found = subst (λ (t : model.State). AllFound k r.account.cycling.paint live' t.graph words') (sym after) o.found;
        placed = o.placed;
        spread = o.spread;
        settled = inl o.settled;
        copies = copies_settled k live' o.settled o.naming;
        cleared = λ h. absurd (run_promoting r.account.pause x o.runs my_good.staged h);
        emptied = λ h. absurd (run_resetting r.account.pause x o.runs my_good.staged h);
        phases = o.controls.phases;
        unwished = λ j odd led runs. o.controls.want ∙ r.whole.unwished j odd led runs;
        endings = o.controls.ended ∙ (r.whole.endings ∙ sym (ap (λ (t : model.State). sum_of (is_over t) k.domains) after ∙ sum_same (is_over now) (is_over (next now e)) k.domains (λ d _. trace_over now e o.of_trace d)));
        pools = o.controls.pools;
        reserved = o.controls.reserved;
        covered = o.controls.covered;
        grid = o.grid;
        drawers = r.whole.drawers;
        room = subst (λ (z : Stock). Room k live' r.account.pause z words') (sym (r.whole.unused (run_promoting r.account.pause x o.runs my_good.staged))) (room_unused k live' r.account.pause r.account.tenancy.stock words' (run_promoting r.account.pause x o.runs my_good.staged));
        unused = r.whole.unused;
        opened = o.opened;
        drawable = o.controls.drawable;
        cycle = cycle_here Run tt o.runs (state_of k log') live' r.account.tenancy past' words' (ap (λ (t : model.State). t.mode) after ∙ (o.is_open ∙ sym (between_here Run tt o.runs).mode)) o.garbage o.controls.cycle
            (subst (λ (t : model.State). KeepsUnderway k now t r.account.live live' c past') (sym after) o.advances.underway);
      }
      (knows_entry y e o.alone (λ _. trace_control e o.of_trace) o.number o.front)
      record { stood = subst (λ (t : model.State). Stood live' t y) (sym after) o.stood; area = o.area; making = o.making; staged = staged_as r.account.pause x y o.number o.arrivals o.stage my_good.staged; still = whole_still log' y o.front; hunter = o.hunter; resting = resting_runs k s.words words' x y o.runs (o.stage ∙ o.runs) o.listing my_good.resting; took_back = running_took_back words' y (o.stage ∙ o.runs); owes = o.owes; rooted = run_rooted k r.account.pause x y o.runs my_good.staged; set_back = λ h. absurd (run_leads Run (sym (o.stage ∙ o.runs) ∙ h.0)); sharing = sharing_here Run tt o.runs all' words' past' o.weak y refl o.controls.cycle o.number o.stage o.share own_runs; listed = o.listed; sweeps = o.sweeps }
      (λ z _ other g. record {
        stood = subst (λ (t : model.State). Stood live' t z) (sym after) (stood_other r.account.live live' now (next now e) z (keeps_next now e z.own.number (o.alone z.own.number other)) (work_next now e z.own.number (o.alone z.own.number other) (trace_queues e o.of_trace)) o.more g.stood);
        area = o.areas z other g.area;
        making = o.makings z other g.area g.making;
        staged = g.staged;
        still = called_still r.account.log r.account.pause x z e (trace_call e o.of_trace) o.runs my_good.staged g.staged g.still;
        hunter = o.hunters z other g;
        resting = resting_other k r.account.pause s.words words' x z (inl o.runs) my_good.staged g.staged g.resting;
        took_back = λ kind leads last. o.controls.want ∙ g.took_back kind leads last;
        set_back = λ h. o.controls.set_back z g.staged h (g.set_back h);
        owes = owes_run k r.account.live live' z z o.settled (quiet_in k r.account.live z g.owes (λ e. nobody_paused r.account.pause x z o.runs my_good.staged g.staged (subst IsInPause (sym e) tt))) refl refl o.more (o.recalls z.own.number other) g.owes;
        rooted = run_rooted k r.account.pause x z o.runs my_good.staged;
        sharing = sharings_here Run tt o.runs all' words' past' refl o.controls.cycle z g (runs_on k r.account.live live' holder holder c.armed c.past past' c.paint.marks.marked c.paint.marks.marked s.words words' z.own.number z.seen.stage z.seen.share (λ _. endures) o.advances.same_old (λ q. o.advances.owed_others z.own.number q other) g.sharing.running);
        listed = o.listeds z other g;
        sweeps = g.sweeps;
      })

  -- What a step owes of the whole that changes no block and turns no phase
  pub record Stays (log' : List Entry) (t' : Tenancy) (c' : Cycling) (words' : List ℕ) : Type 0 where
    pub wide : length words' ≡ table_words k
    pub legal : Legal (sizes_in k) log'
    pub full : Fullness k log' r.account.live t'.holder t'.fresh t'.garbage r.account.homes c'.kind
    pub found : AllFound k c'.paint r.account.live (state_of k log').graph words'
    pub phases : Phases k r.account.pause words'
    pub unwished : Unwished r.account.pause words'
    pub endings : CountsEnded k (state_of k log') words'
    pub pools : Pools k t' words'
    pub reserved : Reserved k r.account.pause t' words'
    pub covered : Covered k r.account.pause t' words'
    pub grid : Grid k t' r.account.live words'
    pub drawers : Drawers r.account.pause t'
    pub room : Room k r.account.live r.account.pause t'.stock words'
    pub unused : IsUnused r.account.pause t'.stock
    pub opened : Opened k r.account.live words'
    pub drawable : Drawable k r.account.pause words'
    pub cycle : Cycled k (state_of k log') r.account.live r.account.pause t' c' words'

  pub whole_stays : (log' : List Entry) (t' : Tenancy) (c' : Cycling) (words' : List ℕ) → Stays log' t' c' words' → Whole k (record r.account { log = log'; tenancy = t'; cycling = c' }) words'
  whole_stays log' t' c' words' o = record {
    wide = o.wide;
    legal = o.legal;
    full = o.full;
    found = o.found;
    placed = r.whole.placed;
    spread = r.whole.spread;
    settled = r.whole.settled;
    copies = r.whole.copies;
    cleared = r.whole.cleared;
    emptied = r.whole.emptied;
    phases = o.phases;
    unwished = o.unwished;
    endings = o.endings;
    pools = o.pools;
    reserved = o.reserved;
    covered = o.covered;
    grid = o.grid;
    drawers = o.drawers;
    room = o.room;
    unused = o.unused;
    opened = o.opened;
    drawable = o.drawable;
    cycle = o.cycle;
  }

  -- the domain with what of another view a step may change at which no entry stands
  abbrev pub changed_as : DomainView → DomainView
  changed_as y = record {
    own = record x.own { used = y.own.used; remembered = y.own.remembered; swept = y.own.swept };
    seen = record x.seen { front = y.seen.front; made = y.seen.made; share = y.seen.share };
  }

  -- What a step owes at which no entry stands and nothing comes to live or moves, with what is then known of the collection
  pub record Writes (y : DomainView) (words' : List ℕ) (c' : Cycling) : Type 0 where
    pub same : y ≡ changed_as y
    pub kind : c'.kind ≡ r.account.cycling.kind
    pub front : (y.seen.front ≡ x.seen.front) ⊎ (y.seen.front ≡ r.account.log)
    pub still : Still r.account.log y
    pub wide : length words' ≡ length s.words
    pub controls : Controls k r.account s.words words'
    pub found : AllFound k c'.paint r.account.live now.graph words'
    pub stood : Stood r.account.live now y
    pub area : Area k r.account.live y
    pub making : Making k words' y
    pub makings : (z : DomainView) → z.own.number ≢ x.own.number → Area k r.account.live z → Making k s.words z → Making k words' z
    pub grid : Grid k r.account.tenancy r.account.live words'
    pub hunter : Hunter k r.account.tenancy words' y
    pub hunters : (z : DomainView) → z.own.number ≢ x.own.number → Good k r.account s.words z → Hunter k r.account.tenancy words' z
    pub cycle : Cycled k now r.account.live r.account.pause r.account.tenancy c' words'
    pub sharing : Sharing k (record r.account { cycling = c' }) words' y.own.number y.own.registers y.own.finalisers y.own.ephemerons.items y.seen.stage y.seen.share
    pub sharings : (z : DomainView) → z.own.number ≢ x.own.number → Good k r.account s.words z → Sharing k (record r.account { cycling = c' }) words' z.own.number z.own.registers z.own.finalisers z.own.ephemerons.items z.seen.stage z.seen.share
    pub sweeps : SweepsIn r.account.tenancy c' y
    pub others_sweep : (z : DomainView) → Good k r.account s.words z → SweepsIn r.account.tenancy c' z

  pub writes : (y : DomainView) (words' : List ℕ) (c' : Cycling) → Writes y words' c' → Rule k record { words = words'; homes = s.homes; views = set s.views id (one k hist y) }
  writes y words' c' o =
      let number = ap (λ (z : DomainView). z.own.number) o.same in
      let stage = ap (λ (z : DomainView). z.seen.stage) o.same in
      let notes = ap (λ (z : DomainView). z.seen.notes) o.same in
      let arrivals = ap (λ (z : DomainView). z.own.arrivals) o.same in
      let remembered = ap (λ (z : DomainView). z.seen.remembered) o.same in
      let seen = λ (h : HasSetBack y). let b : HasSetBack x = (sym stage ∙ h.0, sym (ap last_note notes) ∙ h.1) in b in
      remakes y (record r.account { cycling = c' }) words'
      (whole_stays r.account.log r.account.tenancy c' words' record {
        wide = o.wide ∙ r.whole.wide;
        legal = r.whole.legal;
        full = subst (Fullness k r.account.log r.account.live r.account.tenancy.holder r.account.tenancy.fresh r.account.tenancy.garbage r.account.homes) (sym o.kind) r.whole.full;
        found = o.found;
        phases = o.controls.phases;
        unwished = λ j odd led runs. o.controls.want ∙ r.whole.unwished j odd led runs;
        endings = o.controls.ended ∙ r.whole.endings;
        pools = o.controls.pools;
        reserved = o.controls.reserved;
        covered = o.controls.covered;
        grid = o.grid;
        drawers = r.whole.drawers;
        room = room_words k r.account.live r.account.pause r.account.tenancy.stock s.words words' o.controls.counts r.whole.room;
        unused = r.whole.unused;
        opened = opened_words k r.account.live s.words words' o.controls.listed_young r.whole.opened;
        drawable = o.controls.drawable;
        cycle = o.cycle;
      })
      (knows_front y number o.front)
      record {
        stood = o.stood;
        area = o.area;
        making = o.making;
        staged = staged_as r.account.pause x y number arrivals stage my_good.staged;
        still = o.still;
        hunter = o.hunter;
        resting = resting_as k words' x y number stage (ap (λ (z : DomainView). z.seen.hunt) o.same) (ap (λ (z : DomainView). z.seen.free) o.same) (ap (λ (z : DomainView). z.seen.spare) o.same) (ap (λ (z : DomainView). z.seen.listing) o.same)
            (resting_lists k s.words words' x o.controls.lists my_good.resting);
        took_back = λ kind leads last. o.controls.want ∙ my_good.took_back kind (sym stage ∙ leads) (sym (ap last_note notes) ∙ last);
        owes = owes_as k r.account.live x y number (ap (λ (z : DomainView). z.seen.copying) o.same) stage remembered my_good.owes;
        rooted = rooted_as k r.account.pause x y (ap (λ (z : DomainView). z.own.registers) o.same) (ap (λ (z : DomainView). z.own.finalisers) o.same) arrivals remembered my_good.rooted;
        set_back = λ h. o.controls.set_back x my_good.staged (seen h) (my_good.set_back (seen h));
        sharing = o.sharing;
        listed = listed_as r.account.live r.account.tenancy.holder r.account.tenancy.garbage x.own.number y.own.number x.own.ephemerons.items y.own.ephemerons.items number (ap (λ (z : DomainView). z.own.ephemerons.items) o.same) my_good.listed;
        sweeps = o.sweeps;
      }
      (λ z _ other g. record { stood = g.stood; area = g.area; making = o.makings z other g.area g.making; staged = g.staged; still = g.still; hunter = o.hunters z other g; resting = resting_lists k s.words words' z o.controls.lists g.resting; took_back = λ kind leads last. o.controls.want ∙ g.took_back kind leads last; owes = g.owes; rooted = g.rooted; set_back = λ h. o.controls.set_back z g.staged h (g.set_back h); sharing = o.sharings z other g; listed = g.listed; sweeps = o.others_sweep z g })

  -- a step that leaves all but the front, which stays or is the whole history then
  pub looks : (front : List Entry) → (front ≡ x.seen.front) ⊎ (front ≡ r.account.log) → Rule k record { words = s.words; homes = s.homes; views = set s.views id (one k hist (with_front x front)) }
  looks front is = writes (with_front x front) s.words r.account.cycling record {
    same = refl;
    kind = refl;
    front = is;
    still = ⊎_elim (λ (same : front ≡ x.seen.front). still_as r.account.log x (with_front x front) same refl my_good.still) (λ (whole : front ≡ r.account.log). whole_still r.account.log (with_front x front) whole) is;
    wide = refl;
    controls = controls_kept s.words (control_same k s.words);
    found = r.whole.found;
    stood = record { wide = my_good.stood.wide; each = my_good.stood.each; serial = my_good.stood.serial; enrolled = my_good.stood.enrolled };
    area = record { room = my_good.area.room; free = my_good.area.free; classes = my_good.area.classes };
    making = record { fits = my_good.making.fits; written = my_good.making.written };
    makings = λ z _ _ p. p;
    grid = r.whole.grid;
    hunter = hunter_as k r.account.tenancy s.words x (with_front x front) refl refl refl refl refl refl refl my_good.hunter;
    hunters = λ z _ g. g.hunter;
    cycle = r.whole.cycle;
    sharing = my_good.sharing;
    sharings = λ z _ g. g.sharing;
    sweeps = my_good.sweeps;
    others_sweep = λ z g. g.sweeps;
  }

  -- a domain with other lists of finalisers, another front and another share
  abbrev pub logged : Finalisers → List Entry → Share → DomainView
  logged fs front share = record { own = record x.own { finalisers = fs }; seen = record x.seen { front = front; share = share } }

  -- What a step of a collection owes at which the history grows, and which changes no word of the table
  pub record Logs (log' : List Entry) (c' : Cycling) (y : DomainView) : Type 0 where
    pub legal : Legal (sizes_in k) log'
    pub full : Fullness k log' r.account.live r.account.tenancy.holder r.account.tenancy.fresh r.account.tenancy.garbage r.account.homes c'.kind
    pub found : AllFound k c'.paint r.account.live (state_of k log').graph s.words
    pub ended : (d : ℕ) → (domain_at (state_of k log') d).ended ≡ (domain_at now d).ended
    pub cycle : Cycled k (state_of k log') r.account.live r.account.pause r.account.tenancy c' s.words
    pub seats : EachView (Knows k log' r.seat) (set s.views id (one k hist y))
    pub kind : Kind
    pub stage : x.seen.stage ≡ In kind
    pub no_pause : IsInPause (In kind) → ⊥
    pub not_run : ◌≢◌ {A = Stage} (In kind) (In Run)
    pub stood : Stood r.account.live (state_of k log') y
    pub rooted : Rooted k r.account.pause y
    pub sharing : Sharing k (record r.account { log = log'; cycling = c' }) s.words y.own.number y.own.registers y.own.finalisers y.own.ephemerons.items y.seen.stage y.seen.share
    pub sweeps : SweepsIn r.account.tenancy c' y
    pub stoods : (z : DomainView) → z.own.number ≢ x.own.number → Good k r.account s.words z → Stood r.account.live (state_of k log') z
    pub sharings : (z : DomainView) → z.own.number ≢ x.own.number → Good k r.account s.words z → Sharing k (record r.account { log = log'; cycling = c' }) s.words z.own.number z.own.registers z.own.finalisers z.own.ephemerons.items z.seen.stage z.seen.share
    pub others_sweep : (z : DomainView) → Good k r.account s.words z → SweepsIn r.account.tenancy c' z

  pub logs : (log' : List Entry) (c' : Cycling) (fs : Finalisers) (front : List Entry) (share : Share) → Logs log' c' (logged fs front share) → Rule k record { words = s.words; homes = s.homes; views = set s.views id (one k hist (logged fs front share)) }
  logs log' c' fs front share o =
      let y : DomainView = logged fs front share in
      let g = my_good in
      remakes y (record r.account { log = log'; cycling = c' }) s.words
      (whole_stays log' r.account.tenancy c' s.words record {
        wide = r.whole.wide;
        legal = o.legal;
        full = o.full;
        found = o.found;
        phases = r.whole.phases;
        unwished = r.whole.unwished;
        endings = r.whole.endings ∙ sym (sum_same (is_over now) (is_over (state_of k log')) k.domains (λ d _. ap flag (o.ended d)));
        pools = r.whole.pools;
        reserved = r.whole.reserved;
        covered = r.whole.covered;
        grid = r.whole.grid;
        drawers = r.whole.drawers;
        room = r.whole.room;
        unused = r.whole.unused;
        opened = r.whole.opened;
        drawable = r.whole.drawable;
        cycle = o.cycle;
      })
      o.seats
      record {
        stood = o.stood;
        area = record { room = g.area.room; free = g.area.free; classes = g.area.classes };
        making = record { fits = g.making.fits; written = g.making.written };
        staged = staged_as r.account.pause x y refl refl refl g.staged;
        still = (λ paused. absurd (o.no_pause (subst IsInPause o.stage paused)), λ runs. absurd (o.not_run (sym o.stage ∙ runs)));
        hunter = hunter_as k r.account.tenancy s.words x y refl refl refl refl refl refl refl g.hunter;
        resting = resting_as k s.words x y refl refl refl refl refl refl g.resting;
        took_back = g.took_back;
        owes = owes_as k r.account.live x y refl refl refl refl g.owes;
        rooted = o.rooted;
        set_back = g.set_back;
        sharing = o.sharing;
        listed = record { all = g.listed.all; own = g.listed.own; lives = g.listed.lives };
        sweeps = o.sweeps;
      }
      (λ z _ other h. record {
        stood = o.stoods z other h;
        area = h.area;
        making = h.making;
        staged = h.staged;
        still = nobody_else_still log' r.account.pause x z o.kind o.no_pause o.not_run o.stage g.staged h.staged;
        hunter = h.hunter;
        resting = h.resting;
        took_back = h.took_back;
        owes = h.owes;
        rooted = h.rooted;
        set_back = h.set_back;
        sharing = o.sharings z other h;
        listed = h.listed;
        sweeps = o.others_sweep z h;
      })

  -- What a step owes that changes the holders of pools or what the domain knows of them. No entry stands and nothing comes to live or moves. A pool becomes the domain's own below the top alone
  pub record Holds (top : ℕ) (looked : List Search) (hunt : Hunt) (free : List ℕ) (words' : List ℕ) (t' : Tenancy) : Type 0 where
    pub takes : Takes x.seen.stage
    pub known_free : x.seen.stage ≢ In Run → free ≡ []
    pub wide : length words' ≡ length s.words
    pub phases : Phases k r.account.pause words'
    pub want : want words' ≡ want s.words
    pub listed_same : listed words' ≡ listed s.words
    pub reserved : Reserved k r.account.pause t' words'
    pub covered : Covered k r.account.pause t' words'
    pub room : Room k r.account.live r.account.pause t'.stock words'
    pub unused : IsUnused r.account.pause t'.stock
    pub endings : ended_word words' ≡ ended_word s.words
    pub cycle : SameCycle s.words words'
    pub garbage : KeepsGarbage k r.account.live r.account.tenancy t' s.words words'
    pub heads : (a : ℕ) (p : Place) → r.account.live a ≡ Some p → at_address k words' a ≡ at_address k s.words a
    pub full : Fullness k r.account.log r.account.live t'.holder t'.fresh t'.garbage r.account.homes r.account.cycling.kind
    pub found : AllFound k r.account.cycling.paint r.account.live now.graph words'
    pub pools : Pools k t' words'
    pub grid : Grid k t' r.account.live words'
    pub drawers : Drawers r.account.pause t'
    pub makings : (z : DomainView) → Making k s.words z → Making k words' z
    pub hunter : Hunter k t' words' (hunting_below x top looked hunt free)
    pub hunters : (z : DomainView) → z.own.number ≢ x.own.number → Good k r.account s.words z → Hunter k t' words' z
    pub listeds : (z : DomainView) → Good k r.account s.words z → Listed r.account.live t'.holder t'.garbage z.own.number z.own.ephemerons.items
    pub higher : x.own.swept.top ≤ top
    pub gained : (q d c : ℕ) → t'.holder q ≡ owned d c → (r.account.tenancy.holder q ≡ owned d c) ⊎ ((d ≡ x.own.number) × (q < top))

  pub holds_again : (top : ℕ) (looked : List Search) (hunt : Hunt) (free : List ℕ) (words' : List ℕ) (t' : Tenancy) → Holds top looked hunt free words' t' → Rule k record { words = words'; homes = s.homes; views = set s.views id (one k hist (hunting_below x top looked hunt free)) }
  holds_again top looked hunt free words' t' o =
      let own_making = o.makings x my_good.making in
      let in_kind = takes_kind x.seen.stage o.takes in
      let all' : Account = record r.account { tenancy = t' } in
      let past : Snapshot = r.account.cycling.past in
      let endures : Endures k r.account.live r.account.live r.account.tenancy.holder t'.holder r.account.cycling.paint.marks.marked r.account.cycling.paint.marks.marked s.words words' = record { more = λ a p e. record { place = p; lives = e; label = refl; shape = refl }; held = o.garbage.held; stays = λ l is. is; heads = λ a p e. inl (o.heads a p e) } in
      let sweeps_then : (z : DomainView) (high : ℕ) → z.own.swept.top ≤ high → ((q c : ℕ) → t'.holder q ≡ owned z.own.number c → (r.account.tenancy.holder q ≡ owned z.own.number c) ⊎ (q < high)) → SweepsIn r.account.tenancy r.account.cycling z
      → Sweeps t'.holder t'.garbage r.account.cycling.kind r.account.cycling.shares.arrived z.own.number z.own.ephemerons.items (record z.own.swept { top = high }) z.seen.share.reaping =
      (λ z. sweeps_on k r.account.live r.account.tenancy r.account.cycling s.words r.whole.cycle.leaves r.account.live t' words' o.garbage r.whole.pools (λ q d c e. (o.pools.owned_by q d c e).2) r.account.cycling.kind r.account.cycling.shares.arrived z.own.number z.own.ephemerons.items z.own.swept z.seen.share.reaping) in
      remakes (hunting_below x top looked hunt free) (record r.account { tenancy = t' }) words'
      (whole_stays r.account.log t' r.account.cycling words' record {
        wide = o.wide ∙ r.whole.wide;
        legal = r.whole.legal;
        full = o.full;
        found = o.found;
        phases = o.phases;
        unwished = λ j odd led runs. o.want ∙ r.whole.unwished j odd led runs;
        endings = o.endings ∙ r.whole.endings;
        pools = o.pools;
        reserved = o.reserved;
        covered = o.covered;
        grid = o.grid;
        drawers = o.drawers;
        room = o.room;
        unused = o.unused;
        opened = opened_words k r.account.live s.words words' (λ _ _ _ _. o.listed_same) r.whole.opened;
        drawable = takes_drawable k r.account.pause words' x o.takes my_good.staged;
        cycle = cycle_here in_kind.0 in_kind.1 in_kind.2 now r.account.live t' r.account.cycling.past words' refl o.garbage o.cycle (λ is u. u);
      })
      (knows_front (hunting_below x top looked hunt free) refl (inl refl))
      record {
        stood = record { wide = my_good.stood.wide; each = my_good.stood.each; serial = my_good.stood.serial; enrolled = my_good.stood.enrolled };
        area = record { room = my_good.area.room; free = my_good.area.free; classes = my_good.area.classes };
        making = record { fits = own_making.fits; written = own_making.written };
        staged = record { arrivals = my_good.staged.arrivals; stage = my_good.staged.stage };
        still = my_good.still;
        hunter = o.hunter;
        resting = resting_takes k s.words words' x (hunting_below x top looked hunt free) o.takes o.takes o.known_free my_good.resting.spare refl my_good.resting;
        took_back = λ kind leads last. o.want ∙ my_good.took_back kind leads last;
        owes = owes_as k r.account.live x (hunting_below x top looked hunt free) refl refl refl refl my_good.owes;
        rooted = my_good.rooted;
        set_back = λ h. absurd (takes_leads x.seen.stage o.takes (subst IsLeading (sym h.0) tt));
        sharing = sharing_here in_kind.0 in_kind.1 in_kind.2 all' words' past x.seen.share.weak (hunting_below x top looked hunt free) refl o.cycle refl refl refl (runs_here all' words' refl x (λ _. endures) my_good);
        listed = let l = o.listeds x my_good in record { all = l.all; own = l.own; lives = l.lives };
        sweeps = sweeps_then x top o.higher (λ q c e. ⊎_elim inl (λ new. inr new.1) (o.gained q x.own.number c e)) my_good.sweeps;
      }
      (λ z _ other g. record { stood = g.stood; area = g.area; making = o.makings z g.making; staged = g.staged; still = g.still; hunter = o.hunters z other g; resting = resting_other k r.account.pause s.words words' x z o.takes my_good.staged g.staged g.resting; took_back = λ kind leads last. o.want ∙ g.took_back kind leads last; owes = g.owes; rooted = g.rooted; set_back = λ h. absurd (nobody_leads r.account.pause x z o.takes my_good.staged g.staged (subst IsLeading (sym h.0) tt)); sharing = sharings_here in_kind.0 in_kind.1 in_kind.2 all' words' past refl o.cycle z g (runs_here all' words' refl z (λ _. endures) g); listed = o.listeds z g; sweeps = sweeps_then z z.own.swept.top (let n : ℕ = z.own.swept.top in let same : n ≤ n = omega arith in same) (λ q c e. inl (⊎_elim (λ was. was) (λ new. absurd (other new.0)) (o.gained q z.own.number c e))) g.sweeps })

-- a load leaves the words as they were
pub unmoved : (k : Config) (s : Words) (at : ℕ) (views : List View) → Rule k record { words = s.words; homes = s.homes; views = views }
    → Rule k record { words = set s.words at (get_or s.words at 0); homes = s.homes; views = views }
unmoved k s at views r = subst (λ (ws : List ℕ). Rule k record { words = ws; homes = s.homes; views = views }) (sym (set-get_or s.words at 0)) r
