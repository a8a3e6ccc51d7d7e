-- A look at the barrier, by one domain alone or at a meeting of several.
use Rattle.std.proofs.Common.{◌≡◌, ◌≢◌, ℕ, ◌+◌, ◌*◌, ◌<◌, ◌≤◌, ◌⊎◌, Bool, List, [], ◌∷◌, ◌++◌, set, sym, refl, ap, ◌∙◌, subst, inl, inr, ⊎_elim, arith, lt_of_not-le, mul-le-mul_right, zero-add}
use mathlib.Core.Logic.{dite}
use native.Mathlib.Decide.{dec_le}
use Rattle.atomic_table.specs.Table.{keeps, Allows}
use Rattle.model_core.specs.declared.entry.Entry.{Entry}
use Rattle.model_core.specs.declared.label.Label.{Label}
use Rattle.model_core.specs.declared.state.Mode.TheVariants.{Open, Cut as CutMode}
use Rattle.model_core.specs.declared.state.State as model
use Rattle.model_cycle.specs.Cycle as laws
use Rattle.heap_rule.specs.declared.config.Config.{Config}
use Rattle.heap_rule.specs.declared.view.Copying.{Copying}
use Rattle.heap_rule.specs.declared.view.DomainView.{DomainView}
use Rattle.heap_rule.specs.declared.view.View.{View}
use Rattle.heap_rule.specs.declared.phase.Kind.{Kind}
use Rattle.heap_rule.specs.declared.phase.Kind.TheVariants.{Run, Promote, Reset, Roots, Mark, Rounds, Decide, Queued, Clean, Lasts, Sweep, Answer}
use Rattle.heap_rule.specs.declared.phase.Note.{Note}
use Rattle.heap_rule.specs.declared.phase.Note.TheVariants.{Barrier}
use Rattle.heap_rule.specs.declared.phase.Stage.{Stage}
use Rattle.heap_rule.specs.declared.phase.Stage.TheVariants.{In, Leads, Gone}
use Rattle.heap_rule.specs.Copies.{nothing_copied}
use Rattle.heap_rule.specs.Cycles.{Cycling, Facts}
use Rattle.heap_rule.specs.Layout.{barrier}
use Rattle.heap_rule.specs.Meeting.{all_seeing}
use Rattle.heap_rule.specs.Phases.{Comes, Follows, IsEven, IsOdd, Pause, LeftOdd, AtStage, sum_of}
use Rattle.heap_rule.specs.Places.{Live}
use Rattle.heap_rule.specs.Pools.{KnowsList, Tenancy}
use Rattle.heap_rule.specs.Raw.{LeavesAll, MayLoadAll, SameOwn}
use Rattle.heap_rule.specs.Rule.{state_of, Good, Rule}
use Rattle.heap_rule.specs.Standing.{noted, with_front}
use Rattle.heap_rule.specs.Views.{AllDomains, IsSeated, Knows, SomeDomain, Tells, domain_in, one, several}
use Rattle.heap_rule.proofs.Controls.{parity, moved_to, no_move}
use Rattle.heap_rule.proofs.Keeps.{Words, hunter_as, knows_front, mine, my_good, owes_rests, quiet_in, remakes, seated_as, unmoved, whole_still}
use Rattle.heap_rule.proofs.Meetings.{all_good, knows_seeing, meeting, own_seeing}
use Rattle.heap_rule.proofs.Notes.{barrier_note, good_noted, noted_elsewhere, noted_otherwise}
use Rattle.heap_rule.proofs.PauseFacts.{gone_runs}
use Rattle.heap_rule.proofs.Seats.{rewrites}
use Rattle.step_pauses.specs.Pauses.{kind_in, IsGone, IsModeOf, LookTold, LooksAll}
use Rattle.step_pauses.proofs.Arriving.{kind_acts, sharing_looked}
use Rattle.step_pauses.proofs.Plain.{look_own}

gone_promotes : (kind : Kind) → ◌≡◌ {A = Stage} (Gone kind) (In Promote) → ⊥
gone_promotes kind e = cc

-- what a look of a domain comes to, by what the rule says of it alone: neither a word nor what else there is changes
record Looks (k : Config) (s : Words) (r : Rule k s) (x : DomainView) : Type 0 where
  after : DomainView
  good : Good k r.account s.words after
  number : after.own.number ≡ x.own.number
  front : (after.seen.front ≡ x.seen.front) ⊎ (after.seen.front ≡ r.account.log)
  told : LookTold k x (barrier s.words) after

in_kind : (a b : Kind) → ◌≡◌ {A = Stage} (In a) (In b) → a ≡ b
in_kind a b e = cc

leads_in : (a b : Kind) → ◌≡◌ {A = Stage} (Leads a) (In b) → ⊥
leads_in a b e = cc

-- how far the history is in a phase of a kind
mode_by : (pass : laws.Pass) (s : model.State) (whole : Bool) (marked : Label → Bool) → laws.Passed pass s whole marked → (s.mode ≡ Open) ⊎ (s.mode ≡ CutMode)
mode_by laws.First s whole marked p = inl p
mode_by laws.Second s whole marked p = inr p.decided.seal.mode

mode_of : (kind : Kind) (k : Config) (s : model.State) (live : Live) (t : Tenancy) (c : Cycling) (words : List ℕ) → Facts kind k s live t c words → IsModeOf kind s.mode
mode_of Run k s live t c words f = f.mode
mode_of Promote k s live t c words f = f.mode
mode_of Reset k s live t c words f = f.mode
mode_of Roots k s live t c words f = f.0.passed
mode_of Mark k s live t c words f = mode_by c.pass s c.whole c.paint.marks.marked f.0.passed
mode_of Rounds k s live t c words f = mode_by c.pass s c.whole c.paint.marks.marked f.0.passed
mode_of Decide k s live t c words f = f.0.decide.mode
mode_of Queued k s live t c words f = f.0.passed.decided.seal.mode
mode_of Clean k s live t c words f = f.0.clean.mode
mode_of Lasts k s live t c words f = f.facts.lasts.mode
mode_of Sweep k s live t c words f = ⊎_elim (λ g. inr g.0) (λ g. inl g.0) f.since
mode_of Answer k s live t c words f = f.mode

mode_in : (k : Config) (s : Words) (r : Rule k s) (d arrivals : ℕ) (kind : Kind) → AtStage r.account.pause d arrivals (In kind) → IsModeOf kind (state_of k r.account.log).mode
mode_in k s r d arrivals kind at =
    let all = r.account in
    let state : model.State = state_of k all.log in
    let is : all.cycling.kind ≡ kind = kind_acts k all.pause all.cycling.kind all.cycling.shares d arrivals kind at r.whole.cycle.told in
    mode_of kind k state all.live all.tenancy all.cycling s.words (subst (λ (other : Kind). Facts other k state all.live all.tenancy all.cycling s.words) is r.whole.cycle.facts)

-- the kind of the phase that has begun
coming : (t : Pause) (d arrivals : ℕ) (last : Kind) → arrivals ≡ t.phase → LeftOdd t.kinds d arrivals last → ((j : ℕ) → t.phase ≡ j * 2 + 2 → Follows (t.kinds j) (t.kinds (j + 1))) → (even : IsEven t.phase) → Comes d last (t.kinds even.0)
coming t d arrivals last here left followed even =
    let i : ℕ = left.0 in
    let j : ℕ = even.0 in
    let e : arrivals ≡ i * 2 + 2 = left.1 in
    let f : t.phase ≡ j * 2 = even.1 in
    let next : j ≡ i + 1 = omega arith in
    (λ first. ap t.kinds next ∙ left.2 first, λ other. subst (λ (n : ℕ). Follows last (t.kinds n)) (sym next) (subst (λ (kind : Kind). Follows kind (t.kinds (i + 1))) (left.3 other) (followed i (sym here ∙ e))))

-- a domain of which the phase is known that has begun
begun_good : (k : Config) (s : Words) (r : Rule k s) (x : DomainView) (kind : Kind) (stage : Stage) (notes : List Note) → x.seen.stage ≡ Gone kind → AtStage r.account.pause x.own.number x.own.arrivals stage → Good k r.account s.words x
    → let y : DomainView = moved_to x (record (no_move x) { front = r.account.log; stage = stage; notes = notes ++ Barrier (barrier s.words) ∷ [] }) in Good k r.account s.words y
begun_good k s r x kind stage notes gone at g =
    let b : ℕ = barrier s.words in
    let tenancy : Tenancy = r.account.tenancy in
    let live : Live = r.account.live in
    let y : DomainView = moved_to x (record (no_move x) { front = r.account.log; stage = stage; notes = notes ++ Barrier b ∷ [] }) in
    let quiet : x.seen.copying ≡ nothing_copied = quiet_in k live x g.owes (λ e. gone_promotes kind (sym gone ∙ e)) in
    let stays : x.seen.stage ≢ In Run = (λ e. gone_runs kind (sym gone ∙ e)) in record {
      stood = record { wide = g.stood.wide; each = g.stood.each; serial = g.stood.serial; enrolled = g.stood.enrolled };
      area = record { room = g.area.room; free = g.area.free; classes = g.area.classes };
      making = record { fits = g.making.fits; written = g.making.written };
      staged = record { arrivals = g.staged.arrivals; stage = at };
      still = whole_still r.account.log y refl;
      hunter = hunter_as k tenancy s.words x y refl refl refl refl refl refl refl g.hunter;
      resting = record {
        hunt = λ n. g.resting.hunt (λ takes. ⊎_elim stays (λ e. gone_promotes kind (sym gone ∙ e)) takes);
        free = λ n. g.resting.free stays;
        spare = λ n. g.resting.spare stays;
        lists = λ l e. absurd (subst (λ (st : Stage). KnowsList x.own.number st l) gone (g.resting.lists l e).who);
      };
      took_back = noted_otherwise s.words y notes (Barrier b) refl (barrier_note b);
      owes = owes_rests k live x y refl quiet (ap (λ (c : Copying). c.pending) quiet) refl g.owes;
      rooted = g.rooted;
      set_back = λ back. absurd (noted_elsewhere y notes (Barrier b) refl (barrier_note b) back);
      sharing = sharing_looked k r.account s.words x kind stage gone g;
      listed = g.listed;
      sweeps = g.sweeps;
    }

looked : (k : Config) (s : Words) (r : Rule k s) (id : ℕ) (x : DomainView) → IsGone x → IsSeated k r.account.log r.seat id x → Good k r.account s.words x → Looks k s r x
looked k s r id x gone me g =
    let N : ℕ = k.domains in
    let b : ℕ = barrier s.words in
    let P = r.whole.phases in
    let t : Pause = r.account.pause in
    let st = g.staged in
    let a : ℕ = x.own.arrivals in
    let end : ℕ = a * N in
    let notes : List Note = x.seen.notes ++ Barrier b ∷ [] in
    let alone : N ≡ 1 → b ≡ a = (λ one.
    let m : ℕ = x.own.number in
    let below : m < N = me.inside in
    let first : m ≡ 0 = omega (one, below, arith) in
    P.sum ∙ (ap (sum_of t.arrived) one ∙ (zero-add (t.arrived 0) ∙ (ap t.arrived (sym first) ∙ sym st.arrivals)))) in
    dite (dec_le end b)
    (λ over_it.
    let low : t.phase ≤ a = subst (λ (n : ℕ). t.phase ≤ n) (sym st.arrivals) (P.each x.own.number me.inside).0 in
    let here : a ≡ t.phase = dite (dec_le (t.phase + 1) a)
    (λ above. absurd (let m : (t.phase + 1) * N ≤ a * N = mul-le-mul_right N above in let z : ℕ = (t.phase + 1) * N in let y : z ≤ end = m in let u : b < z = P.unfinished in let w : end ≤ b = over_it in omega arith))
    (λ not_above. let z : a < t.phase + 1 = lt_of_not-le not_above in omega arith) in
    let known : AtStage t x.own.number a (Gone (kind_in x.seen.stage)) = subst (AtStage t x.own.number a) gone st.stage in
    let came : IsEven a → (even : IsEven t.phase) → Comes x.own.number (kind_in x.seen.stage) (t.kinds even.0) = (λ left even. coming t x.own.number a (kind_in x.seen.stage) here (known.1 left) P.followed even) in
    let through : (stage : Stage) → AtStage t x.own.number a stage → ((kind : Kind) × (((stage ≡ In kind) × IsEven a) ⊎ ((stage ≡ Leads (kind_in x.seen.stage)) × IsOdd a))) → ((kind : Kind) → stage ≡ In kind → Comes x.own.number (kind_in x.seen.stage) kind) → Looks k s r x =
    (λ stage at says comes. record {
      after = moved_to x (record (no_move x) { front = r.account.log; stage = stage; notes = notes });
      good = begun_good k s r x (kind_in x.seen.stage) stage x.seen.notes gone at g;
      number = refl;
      front = inr refl;
      told = record {
        alone = alone;
        waits = λ below. absurd (let u : b < end = below in let w : end ≤ b = over_it in omega arith);
        begun = λ _. record { seen = me.front; led = me.led; legal = r.whole.legal; kind = says.0; stage = says.1; comes = comes; mode = λ kind is. mode_in k s r x.own.number a kind (subst (AtStage t x.own.number a) is at); view = refl };
      };
    }) in
    ⊎_elim
    (λ (even : IsEven t.phase). through (In (t.kinds even.0)) (here, (even.0, even.1, refl)) (t.kinds even.0, inl (refl, subst IsEven (sym here) even))
    (λ kind is. subst (Comes x.own.number (kind_in x.seen.stage)) (in_kind (t.kinds even.0) kind is) (came (subst IsEven (sym here) even) even)))
    (λ (odd : IsOdd t.phase).
    let last : t.kinds odd.0 ≡ kind_in x.seen.stage = known.0 odd.0 (here ∙ odd.1) in
    through (Leads (kind_in x.seen.stage)) (here, (odd.0, odd.1, last), λ first. known.2 first here) (Run, inr (refl, subst IsOdd (sym here) odd)) (λ kind is. absurd (leads_in (kind_in x.seen.stage) kind is)))
    (parity t.phase))
    (λ not_over. record {
      after = noted x (Barrier b);
      good = good_noted k r.account s.words x (Barrier b) (barrier_note b) g;
      number = refl;
      front = inl refl;
      told = record { alone = alone; waits = λ _. refl; begun = λ over_it. absurd (not_over over_it) };
    })

-- by a seat that stands for the domain alone
pub lookings : (k : Config) (slots id : ℕ) (hist : List Entry) (x : DomainView) → IsGone x → Allows (Rule k) slots id (one k hist x, []) 1 (λ n. n) (Tells (LookTold k) (one k hist x, []))
lookings k slots id hist x gone s r _ at _ =
    let o = looked k s r id x gone (mine k s r id hist x at) (my_good k s r id hist x at) in
    let after = remakes k s r id hist x at o.after r.account s.words r.whole (knows_front k s r id hist x at o.after o.number o.front) o.good (λ z _ _ g. g) in
    (one k hist o.after, keeps, tt, unmoved k s 1 (set s.views id (one k hist o.after)) after, (o.told, refl))

-- where none of these domains has arrived less often than so, and one as often as a number
least_is : (n phase : ℕ) (xs : List DomainView) → AllDomains (λ x. n ≤ x.own.arrivals) xs → SomeDomain (λ x. x.own.arrivals ≡ phase) xs → n ≤ phase
least_is n phase [] least one = absurd one
least_is n phase (x ∷ xs) least one = ⊎_elim (λ (here : x.own.arrivals ≡ phase). subst (λ (m : ℕ). n ≤ m) here least.0) (λ (there : SomeDomain (λ y. y.own.arrivals ≡ phase) xs). least_is n phase xs least.1 there) one

-- by a seat that stands for several, of which the first looks
looks_together : (k : Config) (x : DomainView) (xs : List DomainView) → IsGone x → MayLoadAll k (x ∷ xs) 1 (LooksAll k)
looks_together k x xs gone slots id hist s r _ at _ =
    let log = r.account.log in
    let v = several k hist (x ∷ xs) in
    let meets = meeting k s r id v at in
    let knows = knows_seeing k log r.seat id v (r.views id v at) in
    let goods = all_good k r.account s.words (x ∷ xs) (r.good id v at) in
    let first = with_front x log in
    let rest = all_seeing log xs in
    let o = looked k s r id first gone knows.domains.0 goods.0 in
    let w : View = several k hist (o.after ∷ rest) in
    let known : Knows k log r.seat id w = record {
      config = knows.config;
      history = knows.history;
      domains = (seated_as k log r.seat id first o.after o.number o.front knows.domains.0, knows.domains.1);
      distinct = (subst (λ (n : ℕ). AllDomains (λ y. y.own.number ≢ n) rest) (sym o.number) knows.distinct.0, knows.distinct.1);
    } in (
      w,
      keeps,
      tt,
      unmoved k s 1 (set s.views id w) (rewrites k s r id w known (o.good, goods.1)),
      (
        record {
          history = log;
          pause = r.account.pause;
          meets = meets;
          first = o.told;
          staged = o.good.staged;
          others = refl;
          acts = λ many least.
              let phase = r.account.pause.phase in
              let low = least_is x.own.arrivals phase (x ∷ xs) least (meets.acts many) in
              let high = meets.each.0.near.0 in
              let is : phase ≡ x.own.arrivals = omega (arith, low, high) in
              subst (λ (n : ℕ). n * k.domains ≤ barrier s.words) is r.whole.phases.begun;
        },
        refl,
      ),
    )

not_gone : (kind : Kind) → ◌≡◌ {A = Stage} (In Run) (Gone kind) → ⊥
not_gone kind is = cc

pub look_all_may : (k : Config) (xs : List DomainView) → IsGone (domain_in xs) → MayLoadAll k xs 1 (LooksAll k)
look_all_may k [] gone = absurd (not_gone Run gone)
look_all_may k (x ∷ xs) gone = looks_together k x xs gone

-- the plain data stays
pub look_all_leaves : (k : Config) (xs : List DomainView) → IsGone (domain_in xs) → LeavesAll xs (LooksAll k)
look_all_leaves k [] gone found ys told = absurd (not_gone Run gone)
look_all_leaves k (x ∷ xs) gone found ys told = subst (SameOwn (x ∷ xs)) (sym told.others) (look_own k (with_front x told.history) found (domain_in ys) told.first, own_seeing told.history xs)
