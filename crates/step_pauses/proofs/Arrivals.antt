-- An arrival keeps the rule.
use Rattle.std.proofs.Common.{◌≡◌, ◌≢◌, ℕ, zero, suc, ◌+◌, ◌-◌, ◌*◌, ◌%◌, ◌^◌, ◌<◌, ◌≤◌, ◌⊎◌, List, [], true, false, Some, None, length, set, sym, refl, ap, ◌∙◌, subst, inl, inr, ⊎_elim, arith, length-set, get_or-set_same, get_or-set_other, lt_of_not-le, mod-eq_of_lt, suc-mul, true≢false, add-one, zero-le}
use Rattle.std.proofs.Math.Nat.{mul_comm, mul-le-mul_left}
use mathlib.Core.Logic.{dite}
use native.Mathlib.Decide.{ℕ_discrete, dec_le}
use mathlib.Core.Option.{some}
use lib.ListN.{get_elem?}
use Rattle.atomic_table.specs.Table.{keeps, Allows}
use Rattle.model_core.specs.declared.entry.Entry.{Entry}
use Rattle.model_core.specs.Domains.{class_count, reserve}
use Rattle.heap_rule.specs.declared.config.Config.{Config}
use Rattle.heap_rule.specs.declared.view.Copying.{Copying}
use Rattle.heap_rule.specs.declared.view.DomainView.{DomainView}
use Rattle.heap_rule.specs.declared.phase.Kind.{Kind}
use Rattle.heap_rule.specs.declared.phase.Kind.TheVariants.{Run, Promote, Reset, Roots, Mark, Rounds, Decide, Queued, Clean, Lasts, Sweep, Answer}
use Rattle.heap_rule.specs.declared.phase.Stage.{Stage}
use Rattle.heap_rule.specs.declared.phase.Stage.TheVariants.{In, Leads, Led, Gone}
use Rattle.heap_rule.specs.Layout.{heap_words, before_heap, barrier, plan, ended_word, want, listed, cursor, listed_pool}
use Rattle.heap_rule.specs.Limits.{sizes_in}
use Rattle.heap_rule.specs.Places.{Place, Settled}
use Rattle.heap_rule.specs.Copies.{nothing_copied, Promoting, Cleared as Clears, AllCleared, Emptied, Rooted, IsEmptying, Resetting}
use Rattle.heap_rule.specs.Phases.{code, Follows, sum_of, IsEven, IsOdd, Pause, Phases, LeftOdd, AtStage, Staged, Unwished}
use Rattle.heap_rule.specs.Pools.{OwnPlace, Stock, nobody, drawn, drawn_in, place_in, limit_of, Reserved, RunsNext, Covered, Drawers, Hunts, no_stock}
use Rattle.heap_rule.specs.Room.{spent_stock, drawn_in_all, Room, IsUnused, Drawable}
use Rattle.heap_rule.specs.Rule.{Good, Rule}
use Rattle.heap_rule.specs.Views.{one, Tells}
use Rattle.heap_rule.proofs.Garbage.{KeepsGarbage}
use Rattle.heap_rule.specs.Sweeping.{SweepsIn}
use Rattle.heap_rule.proofs.Update.{over, over_here, over_else}
use Rattle.heap_rule.proofs.Lists.{no_item}
use Rattle.heap_rule.proofs.Controls.{Untouched, counts_untouched, low_untouched, reserved_untouched, covered_untouched, pools_untouched, hunter_untouched, sum_one, all_up, parity, Move, moved_to, turns}
use Rattle.heap_rule.proofs.Drops.{drops, dropped}
use Rattle.heap_rule.proofs.Keeps.{Words, mine, my_good, now, no_cycle_here, whole_here, quiet_in, owes_rests, room_unused}
use Rattle.heap_rule.proofs.PauseFacts.{gone_runs, not_both}
use Rattle.heap_rule.proofs.Sharings.{SameCycle, kind_now}
use Rattle.heap_rule.specs.Cycles.{Cycling, Grows, Told, HasNoCycle, IsMarking, owner_at}
use Rattle.heap_rule.specs.Layout.{at_address}
use Rattle.heap_rule.specs.Views.{voided}
use Rattle.heap_rule.proofs.Controls.{cycle_untouched, heap_untouched}
use Rattle.step_pauses.proofs.Arriving.{arrived_cycle, told_arrived, told_turned, cycle_gone, cycle_dropped, whole_gone, own_whole, sharing_gone, sharing_else, sharing_between, dropped_none, sweeps_else, sweeps_gone}
use Rattle.step_pauses.specs.Pauses.{kind_in, ArrivesFrom, ArriveMay, forgotten, arrived_view, Arrived}
use Rattle.step_pauses.proofs.Finishing.{facts_gone}
use Rattle.step_pauses.proofs.Growing.{grows_arrived, grows_turned}
use Rattle.step_pauses.proofs.Leading.{flag_zero}
use Rattle.std.proofs.lemmas.Option.{none-some}

-- who may arrive acts in the phase
acting : (t : Pause) (d arrivals : ℕ) (st : Stage) → ArrivesFrom d st → AtStage t d arrivals st → arrivals ≡ t.phase
acting t d arrivals (In kd) from at = at.0
acting t d arrivals (Leads kd) from at = at.0
acting t d arrivals (Led kd) from at = at.0
acting t d arrivals (Gone kd) from at = absurd from

-- and knows the kind that it leaves
leaves : (t : Pause) (d arrivals : ℕ) (st : Stage) → ArrivesFrom d st → AtStage t d arrivals st → (j : ℕ) → arrivals + 1 ≡ j * 2 + 1 → t.kinds j ≡ kind_in st
leaves t d arrivals (In kd) from at j e = let f = at.1 in let i : ℕ = f.0 in let g : arrivals ≡ t.phase = at.0 in let h : t.phase ≡ i * 2 = f.1 in let same : j ≡ i = omega arith in ap t.kinds same ∙ f.2
leaves t d arrivals (Leads kd) from at j e = let f = at.1 in let i : ℕ = f.0 in let g : arrivals ≡ t.phase = at.0 in let h : t.phase ≡ i * 2 + 1 = f.1 in absurd (omega arith)
leaves t d arrivals (Led kd) from at j e = let f = at.1 in let i : ℕ = f.0 in let g : arrivals ≡ t.phase = at.0 in let h : t.phase ≡ i * 2 + 1 = f.1 in absurd (omega arith)
leaves t d arrivals (Gone kd) from at j e = absurd from

-- also where it leaves an odd phase
leaves_odd : (t : Pause) (d arrivals : ℕ) (st : Stage) → ArrivesFrom d st → AtStage t d arrivals st → IsEven (arrivals + 1) → LeftOdd t.kinds d (arrivals + 1) (kind_in st)
leaves_odd t d arrivals (In kd) from at even = absurd (let i : ℕ = at.1.0 in let g : arrivals ≡ t.phase = at.0 in let h : t.phase ≡ i * 2 = at.1.1 in let j : ℕ = even.0 in let e : arrivals + 1 ≡ j * 2 = even.1 in omega arith)
leaves_odd t d arrivals (Leads kd) from at even = (at.1.0, (let i : ℕ = at.1.0 in let g : arrivals ≡ t.phase = at.0 in let h : t.phase ≡ i * 2 + 1 = at.1.1 in omega arith), λ first. absurd (from first), λ other. at.1.2)
leaves_odd t d arrivals (Led kd) from at even = (at.1.0, (let i : ℕ = at.1.0 in let g : arrivals ≡ t.phase = at.0 in let h : t.phase ≡ i * 2 + 1 = at.1.1 in omega arith), λ first. at.1.2, λ other. absurd (other at.2))
leaves_odd t d arrivals (Gone kd) from at even = absurd from

-- domain 0 leaves an odd phase when it has led
has_led : (t : Pause) (d arrivals : ℕ) (st : Stage) → d ≡ 0 → (j : ℕ) → t.phase ≡ j * 2 + 1 → ArrivesFrom d st → AtStage t d arrivals st → t.led ≡ true
has_led t d arrivals (In kd) first j e from at = absurd (let i : ℕ = at.1.0 in let h : t.phase ≡ i * 2 = at.1.1 in omega arith)
has_led t d arrivals (Leads kd) first j e from at = absurd (from first)
has_led t d arrivals (Led kd) first j e from at = at.3
has_led t d arrivals (Gone kd) first j e from at = absurd from

-- who is one ahead has arrived, and what it knows of the kinds stays
ahead : (t t' : Pause) (d arrivals : ℕ) (st : Stage) → arrivals ≡ t.phase + 1 → ((j : ℕ) → t'.kinds j ≡ t.kinds j) → (d ≡ 0 → arrivals ≡ t'.phase → t'.led ≡ false) → AtStage t d arrivals st → AtStage t' d arrivals st
ahead t t' d arrivals (In kd) up same named at = absurd (let e : arrivals ≡ t.phase = at.0 in omega arith)
ahead t t' d arrivals (Leads kd) up same named at = absurd (let e : arrivals ≡ t.phase = at.0 in omega arith)
ahead t t' d arrivals (Led kd) up same named at = absurd (let e : arrivals ≡ t.phase = at.0 in omega arith)
ahead t t' d arrivals (Gone kd) up same named at = (λ j e. same j ∙ at.0 j e, λ even. let l = at.1 even in (l.0, l.1, λ first. same (l.0 + 1) ∙ l.2 first, λ other. same l.0 ∙ l.3 other), named)

-- where only arrivals of others change
same_stage : (t : Pause) (arrived' : ℕ → ℕ) (d arrivals : ℕ) (st : Stage) → AtStage t d arrivals st → AtStage (record t { arrived = arrived' }) d arrivals st
same_stage t arrived' d arrivals (In kd) at = at
same_stage t arrived' d arrivals (Leads kd) at = at
same_stage t arrived' d arrivals (Led kd) at = at
same_stage t arrived' d arrivals (Gone kd) at = at

-- the barrier word doesn't wrap
no_wrap : (phase N b : ℕ) → N ≤ 8 → phase < 2 ^ 60 → b < (phase + 1) * N → b + 1 < 2 ^ 64
no_wrap phase N b few low open_yet =
    let m : (phase + 1) * N ≤ (phase + 1) * 8 = mul-le-mul_left (phase + 1) few in
    let x : ℕ = (phase + 1) * N in let y : x ≤ (phase + 1) * 8 = m in let z : b < x = open_yet in omega arith

-- the pauses after the last arrival of a phase
abbrev turned_to : Pause → (ℕ → ℕ) → Pause
turned_to t arrived' = record { arrived = arrived'; phase = t.phase + 1; kinds = t.kinds; led = false }

half_before : {A : Type 0} (j n : ℕ) → n + 1 ≡ j * 2 → ((i : ℕ) → n ≡ i * 2 + 1 → i + 1 ≡ j → A) → A
half_before zero n e f = absurd (omega arith)
half_before (suc i) n e f = f i (omega arith) (add-one i)

gone_leads : (kind last : Kind) → ◌≡◌ {A = Stage} (Gone kind) (Leads last) → ⊥
gone_leads kind other e = cc

-- who leaves while copies are made is in Promote
in_promote : (t : Pause) (d arrivals : ℕ) (st : Stage) → ArrivesFrom d st → AtStage t d arrivals st → Promoting t → st ≡ In Promote
in_promote t d arrivals (In kd) from at p = ap In (sym at.1.2 ∙ (ap t.kinds (let i : ℕ = at.1.0 in let j : ℕ = p.0 in let e : t.phase ≡ i * 2 = at.1.1 in let f : t.phase ≡ j * 2 = p.1 in let g : i ≡ j = omega arith in g) ∙ p.2))
in_promote t d arrivals (Leads kd) from at p = absurd (not_both t.phase (p.0, p.1) (at.1.0, at.1.1))
in_promote t d arrivals (Led kd) from at p = absurd (not_both t.phase (p.0, p.1) (at.1.0, at.1.1))
in_promote t d arrivals (Gone kd) from at p = absurd from

-- who is one ahead is in no phase
up_not_in : (t : Pause) (d arrivals : ℕ) (st : Stage) → arrivals ≡ t.phase + 1 → st ≡ In Promote → AtStage t d arrivals st → ⊥
up_not_in t d arrivals st up is at = let e : arrivals ≡ t.phase = (subst (AtStage t d arrivals) is at).0 in omega arith

odd_before : (n j : ℕ) → n + 1 ≡ j * 2 → IsOdd n
odd_before n j e = half_before j n e (λ i odd more. (i, odd))

even_before : (n j : ℕ) → n + 1 ≡ j * 2 + 1 → n ≡ j * 2
even_before n j e = omega arith

-- they copy after they ran
after_run : (b : Kind) → Follows Run b → b ≢ Promote → ⊥
after_run b f other = other f

run_promote : Run ≡ Promote → ⊥
run_promote e = cc

promote_run : Promote ≡ Run → ⊥
promote_run e = cc

kind_promote : (kd : Kind) → (kd ≡ Promote) ⊎ (kd ≡ Promote → ⊥)
kind_promote Promote = inl refl
kind_promote _ = inr (λ e. cc)

promoting_or : (t : Pause) → Promoting t ⊎ (Promoting t → ⊥)
promoting_or t = ⊎_elim
    (λ (even : IsEven t.phase). ⊎_elim
    (λ (h : t.kinds even.0 ≡ Promote). inl (even.0, even.1, h))
    (λ (h : t.kinds even.0 ≡ Promote → ⊥). inr (λ p. h (ap t.kinds (let i : ℕ = even.0 in let j : ℕ = p.0 in let e : t.phase ≡ i * 2 = even.1 in let f : t.phase ≡ j * 2 = p.1 in let g : i ≡ j = omega arith in g) ∙ p.2)))
    (kind_promote (t.kinds even.0)))
    (λ (odd : IsOdd t.phase). inr (λ p. not_both t.phase (p.0, p.1) odd))
    (parity t.phase)

none_positive : (n m : ℕ) → n ≡ 0 → m ≡ n → 0 < m → ⊥
none_positive n m zero_is same positive = omega arith

module _ (k : Config) (s : Words) (r : Rule k s) (id : ℕ) (hist : List Entry) (x : DomainView) (at : get_elem? s.views id ≡ some (one k hist x)) (may : ArriveMay k x) where
  open r.account use {pause, tenancy, live}
  open x use {own.{number}}

  abbrev words' : List ℕ
  words' = set s.words 1 (barrier s.words + 1)

  -- how often each domain has arrived then
  abbrev arrived' : ℕ → ℕ
  arrived' = over number (pause.arrived number + 1) pause.arrived

  -- the pauses then, where others of the phase haven't arrived
  abbrev stays : Pause
  stays = record pause { arrived = arrived' }

  -- the collection then
  abbrev cycling' : Cycling
  cycling' = arrived_cycle x.seen.stage tenancy.holder r.account.cycling number

  -- what is used of the pools, with other numbers of copies in lists
  abbrev counting : (ℕ → ℕ) → Stock
  counting claims = record tenancy.stock { claims = claims }

  abbrev move : Move
  move = record {
    arrivals = x.own.arrivals + 1;
    pending = forgotten x.own.pending;
    front = x.seen.front;
    stage = Gone (kind_in x.seen.stage);
    notes = x.seen.notes;
    free = [];
    spare = None;
    listing = None;
    copying = nothing_copied;
    share = voided x.seen.share;
  }

  abbrev y : DomainView
  y = moved_to x move

  good : Good k r.account s.words x
  good = my_good k s r id hist x at

  my_whole : (a : ℕ) (q : Place) → OwnPlace tenancy.holder a number → live a ≡ Some q → r.account.cycling.paint.emptied q.label ≡ []
  my_whole = own_whole k r.account s.words x may.done.cleaned good

  inside : number < k.domains
  inside = (mine k s r id hist x at).inside

  here : x.own.arrivals ≡ pause.phase
  here = acting pause number x.own.arrivals x.seen.stage may.from good.staged.stage

  barrier_is : barrier words' ≡ barrier s.words + 1
  barrier_is = get_or-set_same s.words 1 (barrier s.words + 1) 0 (let w : ℕ = heap_words k in let p : ℕ = before_heap k in let o : 10 ≤ p = omega arith in let l : length s.words ≡ 1 + p + w = r.whole.wide in omega arith)

  plan_is : plan words' ≡ plan s.words
  plan_is = get_or-set_other s.words 1 2 (barrier s.words + 1) 0 (λ e. omega arith)

  want_is : want words' ≡ want s.words
  want_is = get_or-set_other s.words 1 0 (barrier s.words + 1) 0 (λ e. omega arith)

  untouched : Untouched s.words words'
  untouched = (length-set s.words 1 (barrier s.words + 1), (λ i low other. get_or-set_other s.words 1 i (barrier s.words + 1) 0 (λ e. omega arith)))

  same_cycle : SameCycle s.words words'
  same_cycle = cycle_untouched s.words words' untouched (get_or-set_other s.words 1 3 (barrier s.words + 1) 0 (λ e. omega arith))

  same_heap : (a : ℕ) → at_address k words' a ≡ at_address k s.words a
  same_heap = heap_untouched k s.words words' untouched

  endings : ended_word words' ≡ ended_word s.words
  endings = get_or-set_other s.words 1 8 (barrier s.words + 1) 0 (λ e. omega arith)

  else_is : (j : ℕ) → j ≢ number → arrived' j ≡ pause.arrived j
  else_is j other = over_else number (pause.arrived number + 1) pause.arrived j other

  own_is : arrived' number ≡ pause.arrived number + 1
  own_is = over_here number (pause.arrived number + 1) pause.arrived

  own_up : arrived' number ≡ pause.phase + 1
  own_up = own_is ∙ ap (λ (n : ℕ). n + 1) (sym good.staged.arrivals ∙ here)

  counted : x.own.arrivals + 1 ≡ arrived' number
  counted = ap (λ (n : ℕ). n + 1) good.staged.arrivals ∙ sym own_is

  sum_is : barrier words' ≡ sum_of arrived' k.domains
  sum_is = barrier_is ∙ (ap (λ (n : ℕ). n + 1) r.whole.phases.sum ∙ sym (sum_one pause.arrived arrived' number k.domains inside own_is else_is))

  each_is : (j : ℕ) → j < k.domains → (pause.phase ≤ arrived' j) × (arrived' j ≤ pause.phase + 1)
  each_is j below = dite (ℕ_discrete j number)
      (λ same. subst (λ (n : ℕ). (pause.phase ≤ n) × (n ≤ pause.phase + 1)) (sym (ap arrived' same ∙ own_up)) (omega arith, omega arith))
      (λ other. subst (λ (n : ℕ). (pause.phase ≤ n) × (n ≤ pause.phase + 1)) (sym (else_is j other)) (r.whole.phases.each j below))

  leader_is : (j : ℕ) → pause.phase ≡ j * 2 + 1 → arrived' 0 ≡ pause.phase + 1 → pause.led ≡ true
  leader_is j odd up = dite (ℕ_discrete 0 number)
      (λ same. has_led pause number x.own.arrivals x.seen.stage (sym same) j odd may.from good.staged.stage)
      (λ other. r.whole.phases.leader j odd (sym (else_is 0 other) ∙ up))

  known : (t : Pause) → ((j : ℕ) → t.kinds j ≡ pause.kinds j) → (number ≡ 0 → x.own.arrivals + 1 ≡ t.phase → t.led ≡ false) → AtStage t number (x.own.arrivals + 1) (Gone (kind_in x.seen.stage))
  known t same named =
      let odd = leaves_odd pause number x.own.arrivals x.seen.stage may.from good.staged.stage in (
        λ j e. same j ∙ leaves pause number x.own.arrivals x.seen.stage may.from good.staged.stage j e,
        λ even. let l = odd even in (l.0, l.1, λ first. same (l.0 + 1) ∙ l.2 first, λ other. same l.0 ∙ l.3 other),
        named,
      )

  promotes : Promoting pause → x.seen.stage ≡ In Promote
  promotes = in_promote pause number x.own.arrivals x.seen.stage may.from good.staged.stage

  -- the domain owes nothing, has drawn nothing and prepared nothing
  paid : x.seen.copying.pending ≡ []
  paid = ⊎_elim (λ (h : x.seen.copying ≡ nothing_copied). ap (λ (c : Copying). c.pending) h) (λ (h : x.seen.stage ≡ In Promote). may.paid h) good.owes.quiet

  my_cleared : Promoting pause → Clears live number
  my_cleared p = record {
    no_debt = λ b q o lives owed is. let u = good.owes.listed b q o lives owed is in no_item x.seen.copying.pending u.0 _ paid u.1;
    no_field = λ b q i lives named. let u = good.owes.recalled b q i lives named in no_item x.seen.remembered u.0 _ (may.looked_through (promotes p)) u.1;
  }

  all_cleared : Promoting pause → (e : ℕ) → e < k.domains → arrived' e ≡ pause.phase + 1 → Clears live e
  all_cleared p e below up = dite (ℕ_discrete e number)
      (λ same. subst (Clears live) (sym same) (my_cleared p))
      (λ other. r.whole.cleared p e below (sym (else_is e other) ∙ up))

  undrawn : (q : ℕ) → tenancy.holder q ≡ drawn number → ⊥
  undrawn q held = none-some q (sym (ap drawn_in may.at_rest) ∙ good.hunter.drawn_alone q held)

  unprepared : (a : ℕ) → tenancy.prepared a ≡ Some number → ⊥
  unprepared a is =
      let copies = r.whole.drawers.prepared a number is in
      let own = (r.whole.grid.spares a number is).own in
      let of_class = (r.whole.pools.owned_by own.pool number own.class own.owned_is).2 in
      none-some (place_in own.pool own.class own.slot)
      (sym (may.unprepared (promotes copies.1) own.class of_class) ∙ good.hunter.prepared own.pool own.class own.slot own.owned_is own.inside (ap tenancy.prepared (sym own.begins) ∙ is))

  still_covered : Covered k pause tenancy words'
  still_covered = covered_untouched k pause tenancy s.words words' untouched r.whole.pools r.whole.covered

  -- where domain 0 has named a phase of the marking the changed word is 0
  changed_back : (kind : Kind) → x.seen.stage ≡ Led kind → IsMarking r.account.cycling.kind → r.account.cycling.shares.changed ≡ false
  changed_back kind is marking = go r.account.cycling.kind refl marking
    where
      at_led : AtStage pause number x.own.arrivals (Led kind)
      at_led = subst (AtStage pause number x.own.arrivals) is good.staged.stage

      named : r.account.cycling.kind ≡ kind
      named = sym (r.whole.cycle.told.led at_led.1.0 at_led.1.1 at_led.3).0 ∙ at_led.1.2

      go : (w : Kind) → r.account.cycling.kind ≡ w → IsMarking w → r.account.cycling.shares.changed ≡ false
      go Mark e m = flag_zero r.account.cycling.shares.changed (good.sharing.leading.changed 0 (may.set_back (is ∙ ap Led (sym named ∙ e)))).2
      go Rounds e m = r.whole.cycle.grows.cleared marking (at_led.1.0, at_led.1.1, at_led.3) (inr e)
      go Run e m = absurd m
      go Promote e m = absurd m
      go Reset e m = absurd m
      go Roots e m = absurd m
      go Decide e m = absurd m
      go Queued e m = absurd m
      go Clean e m = absurd m
      go Lasts e m = absurd m
      go Sweep e m = absurd m
      go Answer e m = absurd m

  -- What an arrival owes, whether or not it is the last one of its phase
  record Parts (pause' : Pause) (claims' : ℕ → ℕ) : Type 0 where
    phases : Phases k pause' words'
    staged : Staged pause' y
    others : (z : DomainView) → z.own.number < k.domains → z.own.number ≢ number → Staged pause z → Staged pause' z
    settled : Settled live ⊎ Promoting pause'
    cleared : AllCleared k live pause'
    emptied : Emptied k live pause'
    rooted : Rooted k pause' y
    roots : (z : DomainView) → z.own.number < k.domains → z.own.number ≢ number → Staged pause z → Rooted k pause z → Rooted k pause' z
    reserved : Reserved k pause' tenancy words'
    covered : Covered k pause' tenancy words'
    drawers : Drawers pause' (record tenancy { stock = counting claims' })
    room : Room k live pause' (counting claims') words'
    unused : IsUnused pause' (counting claims')
    drawable : Drawable k pause' words'
    unwished : Unwished pause' words'
    told : Told k pause' r.account.cycling.kind cycling'.shares
    grows : Grows k live pause' cycling'
    mine_is : claims' number ≡ 0
    theirs : (e : ℕ) → e ≢ number → claims' e ≡ tenancy.stock.claims e

  -- what it knows of garbage stays
  own_sweeps : SweepsIn tenancy cycling' y
  own_sweeps = let h = sweeps_gone tenancy r.account.cycling x (λ kind is. kind_now k pause r.account.cycling x kind is good.staged r.whole.cycle.told) may.done.anew good.sweeps in record { listed = h.listed; places = h.places; anew = h.anew; reaps = h.reaps; below = h.below }

  through : (pause' : Pause) (claims' : ℕ → ℕ) → Parts pause' claims' → Rule k record { words = words'; homes = s.homes; views = set s.views id (one k hist y) }
  through pause' claims' p = turns k s r id hist x at move pause' (counting claims') cycling' r.account.homes words' record {
    full = r.whole.full;
    paint = refl;
    cycle = cycle_gone x.seen.stage tenancy.holder k (now k s r id hist x at) live pause pause' tenancy (counting claims') r.account.cycling s.words words' number same_cycle same_heap
        (facts_gone k s r id hist x at may.done may.paid_reads x.seen.stage refl may.from) p.told (whole_gone x.seen.stage tenancy.holder live r.account.cycling number my_whole r.whole.cycle.whole) p.grows r.whole.cycle;
    sharing = sharing_gone k r.account s.words words' x pause' live (record tenancy { stock = counting claims' }) y.seen.stage inside may.from good.staged.stage r.whole.cycle.told my_whole may.paid_reads good;
    sharings = λ z _ other g. sharing_else k r.account s.words words' x.seen.stage number z pause' (counting claims') other same_cycle same_heap g;
    untouched = untouched;
    front = inl refl;
    phases = p.phases;
    endings = endings;
    staged = p.staged;
    still = (λ paused. absurd paused, λ runs. absurd (gone_runs (kind_in x.seen.stage) runs));
    free = λ f e. absurd (none-some f e);
    resting = record { hunt = λ n. may.at_rest; free = λ n. refl; spare = λ n. refl; lists = λ l e. cc };
    owes = owes_rests k live x y refl refl paid refl good.owes;
    settled = p.settled;
    cleared = p.cleared;
    emptied = p.emptied;
    rooted = p.rooted;
    roots = p.roots;
    reserved = p.reserved;
    covered = p.covered;
    drawers = p.drawers;
    room = p.room;
    unused = p.unused;
    drawable = p.drawable;
    hunter = (let h = hunter_untouched k tenancy s.words words' x untouched good.hunter in record {
      hunt = subst (Hunts k (record tenancy { stock = counting claims' }) words' number) (sym may.at_rest) tt;
      drawn_alone = h.drawn_alone;
      taken = h.taken;
      free = λ f e. absurd (none-some f e);
      spare = λ z e. absurd (none-some z e);
      holds = h.holds;
      prepared = h.prepared;
      claims = sym p.mine_is;
      supply = λ c few some. ⊎_elim (λ l. inl l) (λ l. inr (record { own_is = l.own_is; few = l.few; enough = l.enough; rest = l.rest })) (h.supply c few some);
    });
    stocks = λ e other. record { drawn = refl; copies = refl; latest = refl; used = refl; claims = p.theirs e other };
    others = p.others;
    unwished = p.unwished;
    took_back = λ kind leads last. absurd (gone_leads (kind_in x.seen.stage) kind leads);
    others_took_back = λ z _ took kind leads last. want_is ∙ took kind leads last;
    set_back = λ h. absurd (gone_leads (kind_in x.seen.stage) Run h.0);
    sweeps = own_sweeps;
    others_sweep = λ z _ other g. sweeps_else x.seen.stage tenancy r.account.cycling number z other g.sweeps;
  }

  -- some domain of the phase hasn't arrived: the phase stays
  open_phase : (claims' : ℕ → ℕ) → ((pause.phase + 1) * k.domains ≤ barrier s.words + 1 → ⊥) → claims' number ≡ 0 → ((e : ℕ) → e ≢ number → claims' e ≡ tenancy.stock.claims e)
      → Room k live stays (counting claims') words' → IsUnused stays (counting claims') → Rule k record { words = words'; homes = s.homes; views = set s.views id (one k hist y) }
  open_phase claims' not_full mine_is theirs room unused = through stays claims' record {
    phases = record {
      sum = sum_is;
      begun = subst (λ (n : ℕ). pause.phase * k.domains ≤ n) (sym barrier_is) (let b : ℕ = barrier s.words in let m : ℕ = pause.phase * k.domains in let u : m ≤ b = r.whole.phases.begun in let v : m ≤ b + 1 = omega arith in v);
      unfinished = subst (λ (n : ℕ). n < (pause.phase + 1) * k.domains) (sym barrier_is) (lt_of_not-le not_full);
      each = each_is;
      even_plan = λ j e. plan_is ∙ r.whole.phases.even_plan j e;
      next_plan = λ j e l. let p = r.whole.phases.next_plan j e l in (plan_is ∙ p.0, p.1);
      followed = r.whole.phases.followed;
      leader = leader_is;
    };
    staged = record { arrivals = counted; stage = known stays (λ _. refl) (λ _ up. absurd (let u : x.own.arrivals + 1 ≡ pause.phase = up in let v : x.own.arrivals ≡ pause.phase = here in omega arith)) };
    others = λ z below other its. record {
      arrivals = its.arrivals ∙ sym (else_is z.own.number other);
      stage = same_stage pause arrived' z.own.number z.own.arrivals z.seen.stage its.stage;
    };
    settled = r.whole.settled;
    cleared = all_cleared;
    emptied = r.whole.emptied;
    rooted = (λ p up. may.holds_old (promotes p), ⊎_elim (λ p. may.looked_through (promotes p.0)) (λ h. good.rooted.1 (inr h)));
    roots = λ z _ _ _ old. old;
    reserved = reserved_untouched k pause tenancy s.words words' untouched r.whole.pools r.whole.reserved;
    covered = still_covered;
    drawers = record {
      drawn = λ q e held. let u = r.whole.drawers.drawn q e held in dite (ℕ_discrete e number)
          (λ same. absurd (undrawn q (held ∙ ap drawn same)))
          (λ other. (else_is e other ∙ u.0, u.1));
      prepared = λ a e is. let u = r.whole.drawers.prepared a e is in dite (ℕ_discrete e number)
          (λ same. absurd (unprepared a (is ∙ ap Some same)))
          (λ other. (else_is e other ∙ u.0, u.1));
      claims = λ e some. dite (ℕ_discrete e number)
          (λ same. absurd (none_positive (claims' number) (claims' e) mine_is (ap claims' same) some))
          (λ other. let u = r.whole.drawers.claims e (subst (λ (n : ℕ). 0 < n) (theirs e other) some) in (else_is e other ∙ u.0, u.1));
    };
    room = room;
    unused = unused;
    drawable = record {
      to_run = λ j odd led runs. low_untouched k s.words words' untouched (r.whole.drawable.to_run j odd led runs);
      to_copy = λ j odd led copies. low_untouched k s.words words' untouched (r.whole.drawable.to_copy j odd led copies);
    };
    unwished = λ j odd led runs. want_is ∙ r.whole.unwished j odd led runs;
    told = told_arrived k pause r.account.cycling.kind (owner_at tenancy.holder) r.account.cycling.paint.colours r.account.cycling.shares number x.own.arrivals r.whole.cycle.told inside arrived' own_up else_is x.seen.stage may.from good.staged.stage;
    grows = grows_arrived k live tenancy.holder pause r.account.cycling number x.own.arrivals inside r.whole.cycle.told r.whole.cycle.grows arrived' else_is x.seen.stage may.from good.staged.stage changed_back;
    mine_is = mine_is;
    theirs = theirs;
  }

  -- where no blocks are copied nothing is in any list of copies
  module _ (elsewhere : Promoting pause → ⊥) where
    no_claims : tenancy.stock.claims number ≡ 0
    no_claims = ap (λ (z : Stock). z.claims number) (r.whole.unused elsewhere)

    unused_room : (pause' : Pause) → (Promoting pause' → (a : ℕ) (q : Place) → live a ≡ Some q → k.pools * 4096 < a → cursor words' + reserve (sizes_in k) ≤ listed words' + drawn_in_all k (spent_stock tenancy.stock))
        → Room k live pause' tenancy.stock words'
    unused_room pause' left = let u = room_unused k live pause tenancy.stock words' elsewhere in
        subst (λ (z : Stock). Room k live pause' z words') (sym (r.whole.unused elsewhere)) (record { fills = u.fills; fit = u.fit; claims = u.claims; listed_copies = u.listed_copies; left = left })

  open_rule : ((pause.phase + 1) * k.domains ≤ barrier s.words + 1 → ⊥) → Rule k record { words = words'; homes = s.homes; views = set s.views id (one k hist y) }
  open_rule not_full = ⊎_elim
      (λ (p : Promoting pause).
      let claims' : ℕ → ℕ = over number 0 tenancy.stock.claims in
      let own_none : claims' number ≡ 0 = over_here number 0 tenancy.stock.claims in
      let theirs : (e : ℕ) → e ≢ number → claims' e ≡ tenancy.stock.claims e = (λ e other. over_else number 0 tenancy.stock.claims e other) in
      let c = counts_untouched s.words words' untouched in
      let room = r.whole.room in
      open_phase claims' not_full own_none theirs
      record {
        fills = room.fills;
        fit = room.fit;
        claims = room.claims;
        listed_copies = λ e. dite (ℕ_discrete e number)
            (λ same. subst (λ (n : ℕ). n ≤ sum_of (tenancy.stock.copies e) class_count) (sym (ap claims' same ∙ own_none)) zero-le)
            (λ other. subst (λ (n : ℕ). n ≤ sum_of (tenancy.stock.copies e) class_count) (sym (theirs e other)) (room.listed_copies e));
        left = λ _ a q lives young. subst (λ (n : ℕ × ℕ). n.0 + reserve (sizes_in k) ≤ n.1 + drawn_in_all k tenancy.stock) (λ i. (sym c.1 i, sym c.0 i)) (room.left p a q lives young);
      }
      (λ none. absurd (none p)))
      (λ (elsewhere : Promoting pause → ⊥). open_phase tenancy.stock.claims not_full (no_claims elsewhere) (λ e _. refl) (unused_room elsewhere stays (λ p. absurd (elsewhere p))) (λ _. r.whole.unused elsewhere))
      (promoting_or pause)

  -- all have arrived: the phase turns
  module _ (full : (pause.phase + 1) * k.domains ≤ barrier s.words + 1) where
    abbrev next : Pause
    next = turned_to pause arrived'

    all_in : barrier s.words + 1 ≡ (pause.phase + 1) * k.domains
    all_in = let m : ℕ = (pause.phase + 1) * k.domains in let b : ℕ = barrier s.words in let u : m ≤ b + 1 = full in let v : b < m = r.whole.phases.unfinished in let z : b + 1 ≡ m = omega arith in z

    ups : (j : ℕ) → j < k.domains → arrived' j ≡ pause.phase + 1
    ups = all_up arrived' k.domains (pause.phase + 1) (λ j below. (each_is j below).1) (sym sum_is ∙ (barrier_is ∙ (all_in ∙ mul_comm (pause.phase + 1) k.domains)))

    up_now : (z : DomainView) → z.own.number < k.domains → z.own.number ≢ number → Staged pause z → z.own.arrivals ≡ pause.phase + 1
    up_now z below other its = its.arrivals ∙ (sym (else_is z.own.number other) ∙ ups z.own.number below)

    nobody_in : (e : ℕ) → e < k.domains → e ≢ number → pause.arrived e ≡ pause.phase → ⊥
    nobody_in e below other still = let a : pause.arrived e ≡ pause.phase = still in let c : pause.arrived e ≡ pause.phase + 1 = sym (else_is e other) ∙ ups e below in omega arith

    -- domain 0 has led
    led_is : (j : ℕ) → pause.phase ≡ j * 2 + 1 → pause.led ≡ true
    led_is j odd = leader_is j odd (ups 0 r.limits.some_domain)

    none_drawn : (q e : ℕ) → tenancy.holder q ≡ drawn e → ⊥
    none_drawn q e held = dite (ℕ_discrete e number)
        (λ same. undrawn q (held ∙ ap drawn same))
        (λ other. nobody_in e (r.whole.pools.drawn_by q e held).1 other (r.whole.drawers.drawn q e held).0)

    none_prepared : (a e : ℕ) → tenancy.prepared a ≡ Some e → ⊥
    none_prepared a e is = dite (ℕ_discrete e number)
        (λ same. unprepared a (is ∙ ap Some same))
        (λ other. let own = (r.whole.grid.spares a e is).own in nobody_in e (r.whole.pools.owned_by own.pool e own.class own.owned_is).1 other (r.whole.drawers.prepared a e is).0)

    none_listed : (e : ℕ) → e < k.domains → e ≢ number → tenancy.stock.claims e ≡ 0
    none_listed e below other = dite (dec_le 1 (tenancy.stock.claims e))
        (λ some. absurd (nobody_in e below other (r.whole.drawers.claims e some).0))
        (λ not_some. let z : tenancy.stock.claims e < 1 = lt_of_not-le not_some in omega arith)

    next_phases : Phases k next words'
    next_phases = let m : ℕ = (pause.phase + 1) * k.domains in record {
      sum = sum_is;
      begun = subst (λ (n : ℕ). (pause.phase + 1) * k.domains ≤ n) (sym (barrier_is ∙ all_in)) (omega arith);
      unfinished = subst (λ (n : ℕ). n < (pause.phase + 1 + 1) * k.domains) (sym (barrier_is ∙ all_in))
          (let some : 0 < k.domains = r.limits.some_domain in let s2 : (pause.phase + 1 + 1) * k.domains ≡ (pause.phase + 1) * k.domains + k.domains = ap (λ (n : ℕ). n * k.domains) (add-one (pause.phase + 1)) ∙ suc-mul (pause.phase + 1) k.domains in let h : m < m + k.domains = omega arith in subst (λ (n : ℕ). m < n) (sym s2) h);
      each = λ j below. subst (λ (n : ℕ). (pause.phase + 1 ≤ n) × (n ≤ pause.phase + 1 + 1)) (sym (ups j below)) (omega arith, omega arith);
      -- an odd phase ends when domain 0 has led
      even_plan = λ j e. half_before j pause.phase e (λ i odd more. plan_is ∙ ((r.whole.phases.next_plan i odd (led_is i odd)).0 ∙ ap (λ (n : ℕ). code (pause.kinds n)) more));
      next_plan = λ j e l. absurd (true≢false (sym l));
      followed = λ j e. let odd : pause.phase ≡ j * 2 + 1 = (let f : pause.phase + 1 ≡ j * 2 + 2 = e in omega arith) in (r.whole.phases.next_plan j odd (led_is j odd)).1;
      leader = λ j e a. absurd (let f : arrived' 0 ≡ pause.phase + 1 = ups 0 r.limits.some_domain in let g : arrived' 0 ≡ pause.phase + 1 + 1 = a in omega arith);
    }

    next_told : Told k next r.account.cycling.kind cycling'.shares
    next_told = told_turned k pause r.account.cycling.kind (owner_at tenancy.holder) r.account.cycling.paint.colours r.account.cycling.shares number x.own.arrivals r.whole.cycle.told inside arrived' own_up else_is ups led_is x.seen.stage may.from good.staged.stage

    next_stage : (z : DomainView) → z.own.number < k.domains → z.own.number ≢ number → Staged pause z → Staged next z
    next_stage z below other its = record {
      arrivals = its.arrivals ∙ sym (else_is z.own.number other);
      stage = ahead pause next z.own.number z.own.arrivals z.seen.stage (up_now z below other its) (λ j. refl) (λ _ _. refl) its.stage;
    }

    -- garbage lies in pools
    garbage_kept : KeepsGarbage k (dropped k live) tenancy (record tenancy { stock = no_stock }) s.words words'
    garbage_kept = record { same = λ a. refl; dead = λ a is. dropped_none k live a (r.whole.cycle.leaves.dead a is); unprepared = r.whole.cycle.leaves.unprepared; heads = λ a _. same_heap a; held = λ q d c e. e }

    -- the domains run next where domain 0 named it
    was_next : RunsNext next → RunsNext pause
    was_next runs = inr (⊎_elim
        (λ (h : (j : ℕ) × (pause.phase + 1 ≡ j * 2) × (pause.kinds j ≡ Run)). half_before {A = (i : ℕ) × (pause.phase ≡ i * 2 + 1) × (pause.led ≡ true) × (pause.kinds (i + 1) ≡ Run)} h.0 pause.phase h.1 (λ i odd more. (i, odd, led_is i odd, ap pause.kinds more ∙ h.2)))
        (λ (h : (j : ℕ) × (pause.phase + 1 ≡ j * 2 + 1) × (false ≡ true) × (pause.kinds (j + 1) ≡ Run)). absurd (true≢false (sym h.2)))
        runs)

    next_covered : Covered k next tenancy words'
    next_covered is = still_covered (⊎_elim (λ (h : RunsNext next). inl (was_next h)) (λ some. inr some) is)

    -- the domains leave Promote: the blocks of the minor areas are dropped
    promoted : Promoting pause → Rule k record { words = words'; homes = s.homes; views = set s.views id (one k hist y) }
    promoted p = let copies : r.account.cycling.kind ≡ Promote = kind_now k pause r.account.cycling x Promote (promotes p) good.staged r.whole.cycle.told in let in_promote : HasNoCycle r.account.cycling.kind = no_cycle_here k s r id hist x at Promote tt (promotes p) in let whole = whole_here k s r id hist x at Promote tt (promotes p) in drops k s r id hist x at move next cycling' words' refl record {
      paint = refl;
      kind = refl;
      cycle = cycle_dropped x.seen.stage tenancy.holder k (now k s r id hist x at) live pause next tenancy (record tenancy { stock = no_stock }) r.account.cycling s.words words' number copies garbage_kept same_cycle next_told r.whole.cycle;
      sharing = sharing_gone k r.account s.words words' x next (dropped k live) (record tenancy { stock = no_stock }) y.seen.stage inside may.from good.staged.stage r.whole.cycle.told (λ a q own lives. whole q.label) may.paid_reads good;
      sharings = λ z _ other g. sharing_between k r.account s.words words' x z Promote next (dropped k live) (record tenancy { stock = no_stock }) tt promote_run (promotes p) in_promote whole other same_cycle good g;
      untouched = untouched;
      front = inl refl;
      phases = next_phases;
      endings = endings;
      staged = record { arrivals = counted; stage = known next (λ _. refl) (λ _ _. refl) };
      still = (λ paused. absurd paused, λ runs. absurd (gone_runs (kind_in x.seen.stage) runs));
      resting = record { hunt = λ n. may.at_rest; free = λ n. refl; spare = λ n. refl; lists = λ l e. cc };
      idle = refl;
      free_same = λ f e. absurd (none-some f e);
      spare_none = refl;
      others = next_stage;
      over = λ h. not_both pause.phase (p.0, p.1) (odd_before pause.phase h.0 h.1);
      kept = λ h. ⊎_elim
          (λ (even : pause.phase + 1 ≡ h.0 * 2). not_both pause.phase (p.0, p.1) (odd_before pause.phase h.0 even))
          (λ (odd : pause.phase + 1 ≡ h.0 * 2 + 1). run_promote (sym h.2 ∙ (ap pause.kinds (let i : ℕ = h.0 in let j : ℕ = p.0 in let e : pause.phase + 1 ≡ i * 2 + 1 = odd in let f : pause.phase ≡ j * 2 = p.1 in let g : i ≡ j = omega arith in g) ∙ p.2))) h.1;
      sweeps = own_sweeps;
      others_sweep = λ z _ other g. sweeps_else x.seen.stage tenancy r.account.cycling number z other g.sweeps;
      odd = (p.0, ap (λ (n : ℕ). n + 1) p.1);
      not_led = refl;
      free = record {
        no_debt = λ b q o lives owed. let below = (r.whole.copies.pends b q o lives owed).inside in (all_cleared p o.domain below (ups o.domain below)).no_debt b q o lives owed refl;
        no_field = λ b q i e lives named. let below = (r.whole.copies.naming b q i e lives named).0 in (all_cleared p e below (ups e below)).no_field b q i lives named;
      };
      at_rest = none_drawn;
      unprepared = none_prepared;
      no_claims = none_listed;
      covered = next_covered;
      unwished = λ j odd led. absurd (true≢false (sym led));
      took_back = λ kind leads last. absurd (gone_leads (kind_in x.seen.stage) kind leads);
      others_took_back = λ z _ took kind leads last. want_is ∙ took kind leads last;
      gone = λ h. gone_leads (kind_in x.seen.stage) Run h.0;
      own_old = may.holds_old (promotes p);
      all_old = λ z below other its old. old.0 p (up_now z below other its);
      own_forgot = may.looked_through (promotes p);
      all_forgot = λ z below other its old. old.1 (inl (p, up_now z below other its));
      all_quiet = λ z below other its owes. quiet_in k live z owes (λ e. up_not_in pause z.own.number z.own.arrivals z.seen.stage (up_now z below other its) e its.stage);
    }

    -- the kind of the phase that begins is the one that domain 0 named
    behind : cursor s.words ≤ limit_of k (listed s.words) → (i : ℕ) → i < listed words' → limit_of k (listed words') ≤ i → tenancy.holder (listed_pool words' i) ≡ nobody
    behind low i below above = (pools_untouched k tenancy s.words words' untouched r.whole.pools).untaken i below
        (let c : ℕ = cursor words' in let l : ℕ = limit_of k (listed words') in let a : c ≤ l = low_untouched k s.words words' untouched low in let b : l ≤ i = above in let o : c ≤ i = omega arith in o)

    next_reserved : Reserved k next tenancy words'
    next_reserved kept i below above = ⊎_elim
        (λ (even : pause.phase + 1 ≡ kept.0 * 2). half_before kept.0 pause.phase even (λ j odd more. behind (r.whole.drawable.to_run j odd (led_is j odd) (ap pause.kinds more ∙ kept.2)) i below above))
        (λ (odd : pause.phase + 1 ≡ kept.0 * 2 + 1). reserved_untouched k pause tenancy s.words words' untouched r.whole.pools r.whole.reserved (kept.0, inl (even_before pause.phase kept.0 odd), kept.2) i below above)
        kept.1

    -- where the domains copy next all pools of the reserve are left
    next_left : Promoting next → (a : ℕ) (q : Place) → live a ≡ Some q → k.pools * 4096 < a → cursor words' + reserve (sizes_in k) ≤ listed words' + drawn_in_all k (spent_stock tenancy.stock)
    next_left p a q lives young = half_before p.0 pause.phase p.1 (λ j odd more.
        let low : cursor words' ≤ limit_of k (listed words') = low_untouched k s.words words' untouched (r.whole.drawable.to_copy j odd (led_is j odd) (ap pause.kinds more ∙ p.2)) in
        let opened : reserve (sizes_in k) ≤ listed s.words = r.whole.opened a q lives young in
        let same : listed words' ≡ listed s.words = (counts_untouched s.words words' untouched).0 in
        left_over (cursor words') (listed words') (listed s.words) (reserve (sizes_in k)) (drawn_in_all k (spent_stock tenancy.stock)) low opened same)
      where
        left_over : (c n m z w : ℕ) → c ≤ n - z → z ≤ m → n ≡ m → c + z ≤ n + w
        left_over c n m z w low opened same = omega arith

    was_resetting : (Promoting pause → ⊥) → Resetting next → Resetting pause
    was_resetting elsewhere h = ⊎_elim
        (λ (a : (i : ℕ) × (pause.phase + 1 ≡ i * 2 + 1) × (pause.kinds i ≢ Run)). let even : pause.phase ≡ a.0 * 2 = even_before pause.phase a.0 a.1 in inr (a.0, even, (a.2, λ e. elsewhere (a.0, even, e))))
        (λ (a : (i : ℕ) × (pause.phase + 1 ≡ i * 2) × IsEmptying (pause.kinds i)). half_before a.0 pause.phase a.1 (λ i odd more. inl (
          i,
          odd,
          λ runs.
              after_run (pause.kinds (i + 1)) (subst (λ (kind : Kind). Follows kind (pause.kinds (i + 1))) runs (r.whole.phases.next_plan i odd (led_is i odd)).1) (λ e. a.2.1 (ap pause.kinds (sym more) ∙ e)),
        )))
        h

    next_emptied : (Promoting pause → ⊥) → Emptied k live next
    next_emptied elsewhere h = r.whole.emptied (was_resetting elsewhere h)

    -- nobody has arrived in the phase that begins
    own_waits : x.own.arrivals + 1 ≡ pause.phase + 1 + 1 → ⊥
    own_waits up = let u : x.own.arrivals + 1 ≡ pause.phase + 1 + 1 = up in let f : x.own.arrivals + 1 ≡ pause.phase + 1 = counted ∙ ups number inside in omega arith

    other_waits : (z : DomainView) → z.own.number < k.domains → z.own.number ≢ number → Staged pause z → z.own.arrivals ≡ pause.phase + 1 + 1 → ⊥
    other_waits z below other its up = let u : z.own.arrivals ≡ pause.phase + 1 + 1 = up in let f : z.own.arrivals ≡ pause.phase + 1 = up_now z below other its in omega arith

    turned : (Promoting pause → ⊥) → Rule k record { words = words'; homes = s.homes; views = set s.views id (one k hist y) }
    turned elsewhere = through next tenancy.stock.claims record {
      phases = next_phases;
      staged = record { arrivals = counted; stage = known next (λ _. refl) (λ _ _. refl) };
      others = next_stage;
      settled = ⊎_elim (λ h. inl h) (λ (h : Promoting pause). absurd (elsewhere h)) r.whole.settled;
      cleared = λ h e below up. absurd (let f : arrived' e ≡ pause.phase + 1 = ups e below in let u : arrived' e ≡ pause.phase + 1 + 1 = up in omega arith);
      emptied = next_emptied elsewhere;
      rooted = (λ h up. absurd (own_waits up), ⊎_elim (λ h. absurd (own_waits h.1)) (λ h. good.rooted.1 (inr (was_resetting elsewhere h))));
      roots = λ z below other its old. (λ h up. absurd (other_waits z below other its up), ⊎_elim (λ h. absurd (other_waits z below other its h.1)) (λ h. old.1 (inr (was_resetting elsewhere h))));
      reserved = next_reserved;
      covered = next_covered;
      drawers = record {
        drawn = λ q e held. absurd (none_drawn q e held);
        prepared = λ a e is. absurd (none_prepared a e is);
        claims = λ e some. absurd (elsewhere (r.whole.drawers.claims e some).1);
      };
      room = unused_room elsewhere next next_left;
      unused = λ _. r.whole.unused elsewhere;
      drawable = record {
        to_run = λ j _ led _. absurd (true≢false (sym led));
        to_copy = λ j _ led _. absurd (true≢false (sym led));
      };
      unwished = λ j odd led. absurd (true≢false (sym led));
      told = next_told;
      grows = grows_turned k live tenancy.holder pause r.account.cycling number x.own.arrivals inside r.whole.cycle.told r.whole.cycle.grows arrived' else_is x.seen.stage may.from good.staged.stage changed_back ups led_is;
      mine_is = no_claims elsewhere;
      theirs = λ e _. refl;
    }

  arrival : Rule k record { words = words'; homes = s.homes; views = set s.views id (one k hist y) }
  arrival = dite (dec_le ((pause.phase + 1) * k.domains) (barrier s.words + 1))
      (λ full. ⊎_elim (promoted full) (turned full) (promoting_or pause))
      open_rule

  -- the word is the one that the step writes
  arrival_wraps : Rule k record { words = set s.words 1 ((barrier s.words + 1) % 2 ^ 64); homes = s.homes; views = set s.views id (one k hist y) }
  arrival_wraps =
      let low : pause.phase < 2 ^ 60 = subst (λ (n : ℕ). n < 2 ^ 60) here may.few in
      let wrap : (barrier s.words + 1) % 2 ^ 64 ≡ barrier s.words + 1 = mod-eq_of_lt (no_wrap pause.phase k.domains (barrier s.words) r.limits.domains low r.whole.phases.unfinished) in
      subst (λ (n : ℕ). Rule k record { words = set s.words 1 n; homes = s.homes; views = set s.views id (one k hist y) }) (sym wrap) arrival

pub arrives : (k : Config) (slots id : ℕ) (hist : List Entry) (x : DomainView) → ArriveMay k x
    → Allows (Rule k) slots id (one k hist x, []) 1 (λ n. (n + 1) % 2 ^ 64) (Tells Arrived (one k hist x, []))
arrives k slots id hist x may s r _ at _ = (one k hist (arrived_view x), keeps, tt, arrival_wraps k s r id hist x at may, (refl, refl))
