-- Domain 0 names the next kind of phase, and the collector's entry stands, if there is one.
use Rattle.std.proofs.Common.{◌≡◌, ◌≢◌, ℕ, ◌+◌, ◌*◌, ◌<◌, ◌≤◌, ◌⊎◌, Bool, true, false, true≢false, IsTrue, List, [], length, get_or, slice_get, set, Option, Some, None, sym, refl, ap, ◌∙◌, subst, inl, inr, ⊎_elim, arith, zero-le, length-set, get_or-set_same, get_or-set_other}
use Rattle.std.proofs.lemmas.Bool.{false≢true}
use Rattle.std.proofs.lemmas.Option.{slice_get-get_or, slice_get_within}
use mathlib.Core.Option.{some}
use lib.ListN.{get_elem?}
use Rattle.model_core.specs.declared.entry.Entry.{Entry}
use Rattle.model_core.specs.declared.state.State as model
use Rattle.model_core.specs.Domains.{domain_at}
use Rattle.model_core.specs.Graph.{Graph}
use Rattle.model_cycle.specs.Cycle as laws
use Rattle.model_cycle.specs.Shares.{reset_shares}
use Rattle.heap_rule.specs.declared.config.Config.{Config}
use Rattle.heap_rule.specs.declared.phase.Kind.{Kind}
use Rattle.heap_rule.specs.declared.phase.Kind.TheVariants.{Run, Promote, Reset, Roots, Mark, Rounds, Decide, Queued, Clean, Sweep, Answer, Lasts}
use Rattle.heap_rule.specs.declared.phase.Stage.{Stage}
use Rattle.heap_rule.specs.declared.phase.Stage.TheVariants.{In, Leads, Led, Gone}
use Rattle.heap_rule.specs.declared.view.Copying.{Copying}
use Rattle.heap_rule.specs.declared.view.DomainView.{DomainView}
use Rattle.heap_rule.specs.declared.view.Share.{Share}
use Rattle.heap_rule.specs.Copies.{nothing_copied, Promoting, Resetting, IsEmptying}
use Rattle.heap_rule.specs.Cycles.{Cycling, Cycled, Facts, HasNoCycle, Told, IsIdle, IsMarking, IsNamed, seen_by, pass_of}
use Rattle.heap_rule.specs.Layout.{heap_words, before_heap, barrier, plan, want, listed, cursor, listed_pool}
use Rattle.heap_rule.specs.Limits.{sizes_in}
use Rattle.heap_rule.specs.Phases.{code, Follows, flag, is_over, IsEven, Pause, Phases, AtStage, IsInPause}
use Rattle.heap_rule.specs.Places.{Settled}
use Rattle.heap_rule.specs.Beside.{IsUnaware, is_weak}
use Rattle.heap_rule.proofs.BesideLemmas.{runs_unaware, unaware_of}
use Rattle.step_pauses.proofs.BesideRows.{AllOld, marks_same, past_owes}
use Rattle.step_pauses.proofs.Repainting.{repainted}
use Rattle.heap_rule.specs.Pools.{nobody, owner_word, limit_of, Covered, KeepsReserve}
use Rattle.heap_rule.specs.Deciding.{Deciding}
use Rattle.heap_rule.specs.Finalisers.{StandsFinal, StandsLast}
use Rattle.heap_rule.specs.Rule.{Account, AllFound, Good, Rule, Sharing, Stood, state_of}
use Rattle.heap_rule.specs.Views.{one, fresh_share}
use Rattle.heap_rule.proofs.Controls.{covered_untouched, Untouched, found_untouched, making_untouched, pools_untouched, grid_untouched, counts_untouched, low_untouched, reserved_untouched, hunter_untouched, resting_untouched, cycle_untouched, heap_untouched}
use Rattle.heap_rule.proofs.Keeps.{Words, mine, my_good, now, remakes, more_same, stood_other, sum_same, quiet_in, owes_rests, hunter_as, room_words, opened_words}
use Rattle.heap_rule.proofs.PauseFacts.{led_runs, not_both}
use Rattle.heap_rule.proofs.Sharings.{SameCycle, facts_words}
use Rattle.heap_rule.proofs.Update.{over, over_here, over_else}
use Rattle.model_core.specs.declared.label.Label.{Label}
use Rattle.heap_rule.proofs.EphemeronLemmas.{looks_idle}
use Rattle.heap_rule.proofs.FinaliserLemmas.{paired_length}
use Rattle.step_pauses.proofs.Arriving.{whole_all}
use Rattle.step_pauses.proofs.Growing.{facts_unmarked, grown_by, grows_led}
use Rattle.step_pauses.specs.Pauses.{kind_in, armed_after, entry_of, cut_in, progress_after, asks_again, unmarked_after, unswept_after, whole_after, MayFollow, NamesFree, KeepsNames, LeadMay, LeadTold}
use Rattle.step_pauses.proofs.CollectorEntries.{OfCollector, entry_of_collector, keeps_left, work_left, graph_left, front_then, after_logged, legal_logged, knows_logged, seen_then}
use Rattle.step_pauses.proofs.Naming.{left_by, logged, pass_in, left_in, led_cycle, Ready, Way, led_way}
use Rattle.step_pauses.proofs.Sizes.{domains_of}
use Rattle.heap_rule.specs.Fullness.{Fullness}
use Rattle.model_core.specs.History.{Legal}

-- the pauses then
abbrev pub led_pause : Pause → ℕ → Kind → Pause
led_pause p j next = record p { kinds = over (j + 1) next p.kinds; led = true }

told_led : (k : Config) (p : Pause) (j : ℕ) (next : Kind) (changed : Bool) → p.phase ≡ j * 2 + 1 → Told k (led_pause p j next) next (reset_shares changed)
told_led k p j next changed odd = record {
  even = λ i e. absurd (let f : p.phase ≡ i * 2 = e in let g : p.phase ≡ j * 2 + 1 = odd in omega arith);
  odd = λ i e f. absurd (true≢false f);
  led = λ i e _. let same : i ≡ j = (let f : p.phase ≡ i * 2 + 1 = e in let g : p.phase ≡ j * 2 + 1 = odd in omega arith) in (ap (λ (n : ℕ). over (j + 1) next p.kinds (n + 1)) same ∙ over_here (j + 1) next p.kinds, λ d. record { waits = refl; paid = refl; settled = refl; blind = refl });
}

-- domain 0 knows the pass by whether the cut is made
pass_led : (last : Kind) (pass : laws.Pass) (cut : Bool) → pass ≡ pass_of cut → pass_in last pass ≡ pass_of (cut_in last cut)
pass_led Roots pass cut is = refl
pass_led Reset pass cut is = refl
pass_led Queued pass cut is = refl
pass_led _ pass cut is = is

-- and whether a cycle goes on beside the domains that run next
armed_led : (last next : Kind) → Follows last next → HasNoCycle next → (armed known : Bool) → (HasNoCycle last → armed ≡ known) → (last ≡ Roots → next ≡ Run → armed ≡ true) → ((last ≡ Lasts) ⊎ (last ≡ Answer) → next ≡ Run → armed ≡ false)
    → (last ≡ Sweep → next ≡ Run → armed ≡ false) → armed ≡ armed_after last next known
armed_led Run next f none armed known same on over freed = subst (λ (n : Kind). armed ≡ armed_after Run n known) (sym f) (same tt)
armed_led Promote next f none armed known same on over freed = subst (λ (n : Kind). armed ≡ armed_after Promote n known) (sym f) (same tt)
armed_led Reset next f none armed known same on over freed = ⊎_elim
    (λ (e : next ≡ Run). subst (λ (n : Kind). armed ≡ armed_after Reset n known) (sym e) (same tt))
    (⊎_elim (λ (e : next ≡ Roots). absurd (subst HasNoCycle e none)) (⊎_elim (λ (e : next ≡ Mark). absurd (subst HasNoCycle e none)) (λ (e : next ≡ Sweep). absurd (subst HasNoCycle e none)))) f
armed_led Roots next f none armed known same on over freed = ⊎_elim
    (λ (e : next ≡ Mark). absurd (subst HasNoCycle e none))
    (λ (e : next ≡ Run). subst (λ (n : Kind). armed ≡ armed_after Roots n known) (sym e) (on refl e)) f
armed_led Mark next f none armed known same on over freed = absurd (⊎_elim (λ (e : next ≡ Mark). subst HasNoCycle e none) (λ (e : next ≡ Rounds). subst HasNoCycle e none) f)
armed_led Rounds next f none armed known same on over freed = absurd (⊎_elim (λ (e : next ≡ Mark). subst HasNoCycle e none) (⊎_elim (λ (e : next ≡ Decide). subst HasNoCycle e none) (λ (e : next ≡ Clean). subst HasNoCycle e none)) f)
armed_led Decide next f none armed known same on over freed = absurd (subst HasNoCycle f none)
armed_led Queued next f none armed known same on over freed = absurd (⊎_elim (λ (e : next ≡ Mark). subst HasNoCycle e none) (λ (e : next ≡ Clean). subst HasNoCycle e none) f)
armed_led Clean next f none armed known same on over freed = absurd (subst HasNoCycle f none)
armed_led Lasts next f none armed known same on over freed = ⊎_elim
    (λ (e : next ≡ Sweep). absurd (subst HasNoCycle e none))
    (λ (e : next ≡ Run). subst (λ (n : Kind). armed ≡ armed_after Lasts n known) (sym e) (over (inl refl) e)) f
armed_led Sweep next f none armed known same on over freed = ⊎_elim
    (λ (e : next ≡ Run). subst (λ (n : Kind). armed ≡ armed_after Sweep n known) (sym e) (freed refl e))
    (⊎_elim (λ (e : next ≡ Answer). absurd (subst HasNoCycle e none)) (λ (e : next ≡ Roots). absurd (subst HasNoCycle e none))) f
armed_led Answer next f none armed known same on over freed = subst (λ (n : Kind). armed ≡ armed_after Answer n known) (sym f) (over (inr refl) f)

pub flag_zero : (b : Bool) → 0 ≡ flag b → b ≡ false
flag_zero true e = absurd (omega arith)
flag_zero false e = refl

-- what another than domain 0 knows in an odd phase stays when the next kind is named
others_led : (t : Pause) (j : ℕ) (next : Kind) (d arrivals : ℕ) (st : Stage) → t.phase ≡ j * 2 + 1 → d ≢ 0 → arrivals ≤ t.phase + 1 → AtStage t d arrivals st → AtStage (record t { kinds = over (j + 1) next t.kinds; led = true }) d arrivals st
others_led t j next d arrivals (In kd) odd other few at = absurd (let i : ℕ = at.1.0 in let h : t.phase ≡ i * 2 = at.1.1 in omega arith)
others_led t j next d arrivals (Leads kd) odd other few at = let i : ℕ = at.1.0 in let h : t.phase ≡ i * 2 + 1 = at.1.1 in (at.0, (i, h, over_else (j + 1) next t.kinds i (λ e. omega arith) ∙ at.1.2), λ first. absurd (other first))
others_led t j next d arrivals (Led kd) odd other few at = absurd (other at.2)
others_led t j next d arrivals (Gone kd) odd other few at = (
  λ i e. over_else (j + 1) next t.kinds i (λ same. omega arith) ∙ at.0 i e,
  λ even. let l = at.1 even in (l.0, l.1, λ first. absurd (other first), λ _. over_else (j + 1) next t.kinds l.0 (λ same. let i : ℕ = l.0 in let e : arrivals ≡ i * 2 + 2 = l.1 in let g : i ≡ j + 1 = same in omega arith) ∙ l.3 other),
  λ first. absurd (other first),
)

-- when the next kind is named it stays so that nothing lives in minor areas
resetting_led : (t : Pause) (j : ℕ) (next : Kind) → t.phase ≡ j * 2 + 1 → Resetting (record t { kinds = over (j + 1) next t.kinds; led = true }) → Resetting t
resetting_led t j next odd h =
    let same : (i : ℕ) → t.phase ≡ i * 2 + 1 → over (j + 1) next t.kinds i ≡ t.kinds i = (λ i e. over_else (j + 1) next t.kinds i (λ up. omega arith)) in ⊎_elim
    (λ (a : (i : ℕ) × (t.phase ≡ i * 2 + 1) × (over (j + 1) next t.kinds i ≢ Run)). inl (a.0, a.1, λ e. a.2 (same a.0 a.1 ∙ e)))
    (λ (a : (i : ℕ) × (t.phase ≡ i * 2) × IsEmptying (over (j + 1) next t.kinds i)). absurd (not_both t.phase (a.0, a.1) (j, odd))) h

-- and the reserve is kept where it was
keeps_led : (t : Pause) (j : ℕ) (next : Kind) → t.phase ≡ j * 2 + 1 → KeepsReserve (record t { kinds = over (j + 1) next t.kinds; led = true }) → KeepsReserve t
keeps_led t j next odd h = ⊎_elim
    (λ (even : t.phase ≡ h.0 * 2). absurd (not_both t.phase (h.0, even) (j, odd)))
    (λ (up : t.phase ≡ h.0 * 2 + 1). (h.0, inr up, sym (over_else (j + 1) next t.kinds h.0 (λ e. let i : ℕ = h.0 in let f : t.phase ≡ i * 2 + 1 = up in let g : i ≡ j + 1 = e in omega arith)) ∙ h.2)) h.1

-- they copy after they ran
follows_promote : (a b : Kind) → Follows a b → b ≡ Promote → a ≡ Run
follows_promote a b f e = from a (subst (Follows a) e f)
  where
    from : (a : Kind) → Follows a Promote → a ≡ Run
    from Run f = refl
    from Reset f = ⊎_elim (λ (e : Promote ≡ Run). absurd (let h : Promote ≡ Run = e in cc))
        (λ q. ⊎_elim (λ (e : Promote ≡ Roots). absurd (let h : Promote ≡ Roots = e in cc)) (λ q. ⊎_elim (λ (e : Promote ≡ Mark). absurd (let h : Promote ≡ Mark = e in cc)) (λ (e : Promote ≡ Sweep). absurd (let h : Promote ≡ Sweep = e in cc)) q) q) f
    from Roots f = ⊎_elim (λ (e : Promote ≡ Mark). absurd (let h : Promote ≡ Mark = e in cc)) (λ (e : Promote ≡ Run). absurd (let h : Promote ≡ Run = e in cc)) f
    from Mark f = ⊎_elim (λ (e : Promote ≡ Mark). absurd (let h : Promote ≡ Mark = e in cc)) (λ (e : Promote ≡ Rounds). absurd (let h : Promote ≡ Rounds = e in cc)) f
    from Rounds f = ⊎_elim (λ (e : Promote ≡ Mark). absurd (let h : Promote ≡ Mark = e in cc))
        (λ q. ⊎_elim (λ (e : Promote ≡ Decide). absurd (let h : Promote ≡ Decide = e in cc)) (λ (e : Promote ≡ Clean). absurd (let h : Promote ≡ Clean = e in cc)) q) f
    from Queued f = ⊎_elim (λ (e : Promote ≡ Mark). absurd (let h : Promote ≡ Mark = e in cc)) (λ (e : Promote ≡ Clean). absurd (let h : Promote ≡ Clean = e in cc)) f
    from Lasts f = ⊎_elim (λ (e : Promote ≡ Sweep). absurd (let h : Promote ≡ Sweep = e in cc)) (λ (e : Promote ≡ Run). absurd (let h : Promote ≡ Run = e in cc)) f
    from Sweep f = ⊎_elim (λ (e : Promote ≡ Run). absurd (let h : Promote ≡ Run = e in cc))
        (λ q. ⊎_elim (λ (e : Promote ≡ Answer). absurd (let h : Promote ≡ Answer = e in cc)) (λ (e : Promote ≡ Roots). absurd (let h : Promote ≡ Roots = e in cc)) q) f
    from _ f = cc

pub led_leads : (kind other : Kind) → ◌≡◌ {A = Stage} (Led kind) (Leads other) → ⊥
led_leads kind other e = cc

pub leads_promotes : (kind : Kind) → ◌≡◌ {A = Stage} (Leads kind) (In Promote) → ⊥
leads_promotes kind e = cc

pub leads_runs : (kind : Kind) → ◌≡◌ {A = Stage} (Leads kind) (In Run) → ⊥
leads_runs kind e = cc

-- nothing is looked at yet
all_left : (items left kept : ℕ) → kept ≡ 0 → left ≡ items → left + kept ≡ items
all_left items left kept none is = omega arith

-- nobody is in an even phase then
paused_even : (t : Pause) (d arrivals : ℕ) (st : Stage) → IsInPause st → AtStage t d arrivals st → IsEven t.phase
paused_even t d arrivals (In kd) paused at = (at.1.0, at.1.1)
paused_even t d arrivals (Leads kd) paused at = absurd paused
paused_even t d arrivals (Led kd) paused at = absurd paused
paused_even t d arrivals (Gone kd) paused at = absurd paused

module _ (k : Config) (s : Words) (r : Rule k s) (id : ℕ) (hist : List Entry) (x : DomainView) (at : get_elem? s.views id ≡ some (one k hist x)) (new : ℕ) (next : Kind) (may : LeadMay k x new next) where
  open r.account use {pause as t, cycling as c, tenancy, live}

  abbrev state : model.State
  state = now k s r id hist x at

  abbrev last : Kind
  last = kind_in x.seen.stage

  abbrev ws : List ℕ
  ws = set s.words 2 new

  -- the entry that stands
  abbrev o : Option Entry
  o = entry_of c.unswept last next

  abbrev y : DomainView
  y = record x { seen = record x.seen { front = front_then x.seen.front r.account.log o; stage = Led next; share = record fresh_share { progress = progress_after last next x.seen.share.progress; unmarked = unmarked_after k last x.seen.share.changed x.seen.share.unmarked } } }

  good : Good k r.account s.words x
  good = my_good k s r id hist x at

  stage_is : x.seen.stage ≡ Leads last
  stage_is = may.stage ∙ ap Leads (sym (ap kind_in may.stage))

  follows : Follows last next
  follows = subst (λ (kind : Kind). Follows kind next) (sym (ap kind_in may.stage)) may.follows

  knows : MayFollow x.seen.share last next
  knows = subst (λ (kind : Kind). MayFollow x.seen.share kind next) (sym (ap kind_in may.stage)) may.may

  before : AtStage t x.own.number x.own.arrivals (Leads last)
  before = subst (AtStage t x.own.number x.own.arrivals) stage_is good.staged.stage

  abbrev j : ℕ
  j = before.1.0

  odd : t.phase ≡ j * 2 + 1
  odd = before.1.1

  no_even : IsEven t.phase → ⊥
  no_even even = not_both t.phase even (j, odd)

  elsewhere : Promoting t → ⊥
  elsewhere h = no_even (h.0, h.1)

  abbrev t' : Pause
  t' = led_pause t j next

  -- all have arrived from the phase that ends
  ended_kind : (t.kinds j ≡ c.kind) × ((d : ℕ) → d < k.domains → c.shares.arrived d ≡ true)
  ended_kind = r.whole.cycle.told.odd j odd (before.2 may.leads)

  kind_is : c.kind ≡ last
  kind_is = sym ended_kind.0 ∙ before.1.2

  facts : Facts last k state live tenancy c s.words
  facts = subst (λ (kind : Kind). Facts kind k state live tenancy c s.words) kind_is r.whole.cycle.facts

  abbrev c' : Cycling
  c' = record (led_cycle k live last next state c) { unmarked = unmarked_after k last x.seen.share.changed x.seen.share.unmarked }

  counted : k.domains ≡ length state.domains
  counted = sym (domains_of k r.account.log r.limits)

  -- nothing lives in minor areas once the young blocks were copied, and nothing forwards
  old : last ≢ Run → AllOld k live
  old other = r.whole.emptied (inl (j, odd, λ e. other (sym before.1.2 ∙ e)))

  bare : Settled live
  bare = ⊎_elim (λ h. h) (λ (h : Promoting t). absurd (elsewhere h)) r.whole.settled

  -- so no block misses keys
  whole : (l : Label) → c.paint.emptied l ≡ []
  whole = whole_all live tenancy.holder c (λ q d class is. ended_kind.1 d (r.whole.pools.owned_by q d class is).1) r.whole.cycle.whole

  -- outside a collection it knows whether one goes on beside running domains
  under_way : HasNoCycle last → c.armed ≡ x.seen.share.progress.armed
  under_way none = good.sharing.leading.under_way may.leads (subst HasNoCycle (sym kind_is) none)

  ready : Ready k live state.graph last next c s.words
  ready = let l = good.sharing.leading in record {
    kind = kind_is;
    goes_on = λ g h. sym (l.armed true (knows.goes_on g h)).1;
    begins = λ g h. (under_way (subst HasNoCycle (sym g) tt) ∙ (knows.begins g h).0, l.unswept may.leads ∙ (knows.begins g h).1);
    frees = λ g h. l.unswept may.leads ∙ knows.frees g h;
    finishes = λ g h. under_way (subst HasNoCycle (sym g) tt) ∙ knows.finishes g h;
    over = λ g h. sym (l.armed false (knows.over g h)).1;
    freed = λ g h. l.unswept may.leads ∙ knows.freed g h;
    answers = λ h. (l.whole may.leads ∙ (knows.answers h).0, l.unswept may.leads ∙ (knows.answers h).1);
    emptied = old;
    bare = bare;
    found = r.whole.found;
    full = whole;
    quiet = λ h. flag_zero c.shares.changed (l.changed 0 (knows.unchanged h)).2;
    first = λ h. l.pass may.leads ∙ ap pass_of (knows.first h);
    second = λ g h. l.pass may.leads ∙ ap pass_of (knows.second g h);
    rotated = λ h. l.rotated may.leads (kind_is ∙ h) ∙ knows.rotated h;
    no_blocks = λ h. (l.found_blocks 0 (knows.set_back h).0).1;
    no_words = λ h. (l.found_words 0 (knows.set_back h).1).1;
  }

  way : Way k r.account.log live tenancy c r.account.homes s.words last next
  way = led_way k r.account.log live tenancy c r.account.homes s.words r.whole.cycle.leaves.none r.whole.cycle.leaves.owned r.whole.cycle.unswept ended_kind.1 counted (λ q d class is. let o = r.whole.pools.owned_by q d class is in (o.1, o.2)) r.whole.grid.lots last next follows ready facts
      (subst (λ (kind : Kind). Fullness k r.account.log live tenancy.holder tenancy.fresh tenancy.garbage r.account.homes kind) kind_is r.whole.full)

  untouched : Untouched s.words ws
  untouched = (length-set s.words 2 new, (λ i low other. get_or-set_other s.words 2 i new 0 (λ e. omega arith)))

  same_cycle : SameCycle s.words ws
  same_cycle = cycle_untouched s.words ws untouched (get_or-set_other s.words 2 3 new 0 (λ e. omega arith))

  plan_is : plan ws ≡ new
  plan_is = get_or-set_same s.words 2 new 0 (let w : ℕ = heap_words k in let p : ℕ = before_heap k in let q : 10 ≤ p = omega arith in let l : length s.words ≡ 1 + p + w = r.whole.wide in omega arith)

  want_is : want ws ≡ want s.words
  want_is = get_or-set_other s.words 2 0 new 0 (λ e. omega arith)

  barrier_is : barrier ws ≡ barrier s.words
  barrier_is = get_or-set_other s.words 2 1 new 0 (λ e. omega arith)

  named : (i : ℕ) → t.phase ≡ i * 2 + 1 → over (j + 1) next t.kinds (i + 1) ≡ next
  named i e = let same : i ≡ j = (let h : t.phase ≡ i * 2 + 1 = e in let u : t.phase ≡ j * 2 + 1 = odd in omega arith) in ap (λ (n : ℕ). over (j + 1) next t.kinds (n + 1)) same ∙ over_here (j + 1) next t.kinds

  abbrev log' : List Entry
  log' = logged r.account.log o

  abbrev account' : Account
  account' = record r.account { log = log'; pause = t'; cycling = c' }

  collector : OfCollector o
  collector = entry_of_collector c.unswept last next

  after : state_of k log' ≡ left_by state o
  after = after_logged k s r id hist x at o

  phases_led : Phases k t' ws
  phases_led = let P = r.whole.phases in record {
    sum = barrier_is ∙ P.sum;
    begun = subst (λ (n : ℕ). t.phase * k.domains ≤ n) (sym barrier_is) P.begun;
    unfinished = subst (λ (n : ℕ). n < (t.phase + 1) * k.domains) (sym barrier_is) P.unfinished;
    each = P.each;
    even_plan = λ i e. absurd (no_even (i, e));
    next_plan = λ i e l.
        let same : i ≡ j = (let h : t.phase ≡ i * 2 + 1 = e in let u : t.phase ≡ j * 2 + 1 = odd in omega arith) in
        subst (λ (n : ℕ). (plan ws ≡ code (over (j + 1) next t.kinds (n + 1))) × Follows (over (j + 1) next t.kinds n) (over (j + 1) next t.kinds (n + 1))) (sym same) (
          plan_is ∙ (may.word ∙ ap code (sym (over_here (j + 1) next t.kinds))),
          subst (λ (z : Kind × Kind). Follows z.0 z.1) (λ i. (sym (over_else (j + 1) next t.kinds j (λ f. omega arith) ∙ before.1.2) i, sym (over_here (j + 1) next t.kinds) i)) follows,
        );
    followed = λ i e. absurd (let h : t.phase ≡ i * 2 + 2 = e in let u : t.phase ≡ j * 2 + 1 = odd in omega arith);
    leader = λ i e a. refl;
  }

  -- the next kind wasn't named, and domain 0 stands in the phase
  unnamed : IsNamed t → ⊥
  unnamed h = true≢false (sym h.2 ∙ before.2 may.leads)

  stands : t.arrived 0 ≡ t.phase
  stands = ap t.arrived (sym may.leads) ∙ (sym good.staged.arrivals ∙ before.0)

  knows_changed : (v : ℕ) → x.seen.share.changed ≡ Some v → v ≡ flag c.shares.changed
  knows_changed v is = (good.sharing.leading.changed v is).2

  cycle_led : Cycled k (state_of k log') live t' tenancy c' ws
  cycle_led = let w = r.whole.cycle in record {
    armed_is = same_cycle.armed_same ∙ w.armed_is;
    meanings = w.meanings;
    colours_are = same_cycle.colours_same ∙ w.colours_are;
    changed_is = same_cycle.changed_same ∙ w.changed_is;
    facts = facts_words next k (state_of k log') live tenancy c' s.words ws same_cycle (subst (λ (z : model.State). Facts next k z live tenancy c' s.words) (sym after) (facts_unmarked next k (left_by state o) live tenancy (led_cycle k live last next state c) s.words (unmarked_after k last x.seen.share.changed x.seen.share.unmarked) way.facts));
    told = told_led k t j next c.shares.changed odd;
    leaves = record {
      none = way.clean;
      dead = w.leaves.dead;
      head = λ a is. let h = w.leaves.head a is in (h.0, h.1, heap_untouched k s.words ws untouched a ∙ h.2);
      unprepared = w.leaves.unprepared;
      owned = w.leaves.owned;
    };
    unswept = way.left;
    whole = λ l. inl (whole l);
    grows = grows_led k live t c w.grows unnamed x.seen.share.changed x.seen.share.unmarked knows_changed (good.sharing.leading.unmarked may.leads) last next state kind_is j odd stands (λ rounds. ready.quiet (inl rounds)) t'.kinds;
  }

  -- each domain has all its registrations left to look at, where it is to look at them
  deciding_led : (z : DomainView) (share : Share) → IsIdle share → Good k r.account s.words z → Deciding live next c'.left c'.shares.arrived c'.paint.marks.marked z.own.number z.own.finalisers share.kept share.waiting
  deciding_led z share idle h =
      let none : share.kept ≡ 0 = ap (λ (u : Share). u.kept) idle in
      let e = h.stood.enrolled in record {
        finals = λ is _. subst (λ (kind : Kind). left_in kind state c.left z.own.number + share.kept ≡ length z.own.finalisers.finals.items) (sym is)
            (all_left (length z.own.finalisers.finals.items) (length (domain_at state z.own.number).finals) share.kept none (paired_length (StandsFinal live) z.own.finalisers.finals.items (domain_at state z.own.number).finals e.finals));
        lasts = λ is _. subst (λ (kind : Kind). left_in kind state c.left z.own.number + share.kept ≡ length z.own.finalisers.lasts.items) (sym is)
            (all_left (length z.own.finalisers.lasts.items) (length (domain_at state z.own.number).lasts) share.kept none (paired_length (StandsLast live) z.own.finalisers.lasts.items (domain_at state z.own.number).lasts e.lasts));
        rooted = λ _ _ i a p among. absurd (let l : IsTrue (seen_by [] i) = subst (λ (xs : List ℕ). IsTrue (seen_by xs i)) (ap (λ (u : Share). u.waiting) idle) among in cc);
      }

  -- nobody runs in an odd phase, so nobody knows of blocks, nor owes a darkening
  odd_runs : (z : DomainView) → Good k r.account s.words z → z.seen.stage ≢ In Run
  odd_runs z h runs = let g = subst (AtStage t z.own.number z.own.arrivals) runs h.staged.stage in no_even (g.1.0, g.1.1)

  unaware : (z : DomainView) → z.seen.stage ≢ In Run → Good k r.account s.words z → IsUnaware z.seen.share
  unaware z still h = unaware_of k live tenancy.holder c.armed c.past c.paint.marks.marked s.words z.own.number z.seen.stage z.seen.share still h.sharing.running

  none_owed : (z : DomainView) → z.seen.stage ≢ In Run → Good k r.account s.words z → IsTrue c.armed → (q : ℕ) → c.past.owed z.own.number q ≡ false
  none_owed z still h is q = h.sharing.running.owes is q ∙ ap (λ (w : Option ℕ). is_weak w q) (unaware z still h).1

  sharing_led : Sharing k account' ws y.own.number y.own.registers y.own.finalisers y.own.ephemerons.items y.seen.stage y.seen.share
  sharing_led = record {
    telling = record { owes = λ _. record { owes = refl; follows = λ a is. is }; seen = λ _. refl; fresh = λ _. refl; forgotten = λ _ _. refl; colours = λ v e. cc };
    leading = record {
      changed = λ v e. cc;
      found_blocks = λ v e. cc;
      found_words = λ v e. cc;
      rotated = λ _ e. way.unturned e;
      turned = λ e. cc;
      pass = λ first. pass_led last c.pass x.seen.share.progress.cut (good.sharing.leading.pass first);
      whole = λ first. ap (whole_after last next) (good.sharing.leading.whole first);
      armed = λ b e. cc;
      unswept = λ first. ap (unswept_after last next) (good.sharing.leading.unswept first);
      under_way = λ _ none. armed_led last next follows none c.armed x.seen.share.progress.armed under_way ready.goes_on ready.over (λ g h. (r.whole.cycle.unswept (ready.freed g h)).unarmed);
      unmarked = λ _. refl;
    };
    knows = inl refl;
    adds = record { blocks = λ e _. (way.uncounted e x.own.number).0; words = λ e _. (way.uncounted e x.own.number).1; own = λ _ _ e. cc };
    looks = looks_idle live tenancy.holder (state_of k log').graph c'.paint.marks c.paint.emptied y.own.number y.own.ephemerons.items y.seen.stage y.seen.share refl whole;
    running = runs_unaware k live tenancy.holder c.armed c'.past c'.paint.marks.marked ws y.own.number y.seen.stage y.seen.share (refl, refl) (λ is q. past_owes last next state c.past x.own.number q (none_owed x (λ e. leads_runs last (sym stage_is ∙ e)) good is q));
    deciding = deciding_led x y.seen.share refl good;
  }

  -- whoever else has arrived has forgotten what it knew
  sharings_led : (z : DomainView) → z.own.number < k.domains → z.own.number ≢ x.own.number → Good k r.account s.words z → Sharing k account' ws z.own.number z.own.registers z.own.finalisers z.own.ephemerons.items z.seen.stage z.seen.share
  sharings_led z below other h =
      let tells = h.sharing.telling in
      let l = h.sharing.leading in
      let apart : z.own.number ≢ 0 = (λ first. other (first ∙ sym may.leads)) in
      let gone : c.shares.arrived z.own.number ≡ true = ended_kind.1 z.own.number below in
      let idle : IsIdle z.seen.share = tells.fresh gone in record {
        telling = record {
          owes = λ _. record { owes = sym (ap (λ (u : Share). u.owes) idle); follows = λ a is. absurd (false≢true is) };
          seen = λ _. sym (ap (λ (u : Share). seen_by u.places_seen) idle);
          fresh = λ _. idle;
          forgotten = λ _ _. tells.forgotten gone apart;
          colours = tells.colours;
        };
        leading = record {
          changed = λ v e. absurd (apart (l.changed v e).0);
          found_blocks = λ v e. let u = l.found_blocks v e in (u.0, same_cycle.blocks_same ∙ u.1);
          found_words = λ v e. let u = l.found_words v e in (u.0, same_cycle.words_same ∙ u.1);
          rotated = λ first _. absurd (apart first);
          turned = l.turned;
          pass = λ first. absurd (apart first);
          whole = λ first. absurd (apart first);
          armed = l.armed;
          unswept = λ first. absurd (apart first);
          under_way = λ first. absurd (apart first);
          unmarked = λ first. absurd (apart first);
        };
        knows = inl idle;
        adds = record {
          blocks = λ e _. (way.uncounted e z.own.number).0 ∙ sym (ap (λ (u : Share). u.added_blocks) idle);
          words = λ e _. (way.uncounted e z.own.number).1 ∙ sym (ap (λ (u : Share). u.added_words) idle);
          own = λ _ _ e. absurd (true≢false (sym e ∙ ap (λ (u : Share). u.added_blocks) idle));
        };
        looks = looks_idle live tenancy.holder (state_of k log').graph c'.paint.marks c.paint.emptied z.own.number z.own.ephemerons.items z.seen.stage z.seen.share idle whole;
        running = runs_unaware k live tenancy.holder c.armed c'.past c'.paint.marks.marked ws z.own.number z.seen.stage z.seen.share (unaware z (odd_runs z h) h)
            (λ is q. past_owes last next state c.past z.own.number q (none_owed z (odd_runs z h) h is q));
        deciding = deciding_led z z.seen.share idle h;
      }

  stood_left : (z : DomainView) → Stood live state z → Stood live (state_of k log') z
  stood_left z st = subst (λ (u : model.State). Stood live u z) (sym after) (stood_other live live state (left_by state o) z (keeps_left state o collector z.own.number) (work_left state o collector z.own.number) (more_same live) st)

  -- where the list was written anew, each pool that is nobody's is listed
  listed_free : NamesFree k x → (q : ℕ) → q < k.pools → tenancy.holder q ≡ nobody → (i : ℕ) × (i < listed ws) × (listed_pool ws i ≡ q) × ((cursor ws ≤ i) ⊎ (limit_of k (listed ws) ≤ i))
  listed_free names q inside free =
      let lists = (resting_untouched k s.words ws x untouched good.resting).lists names.list names.listing in
      let word : ℕ = get_or names.list.owners q 0 in
      let got : slice_get names.list.owners q ≡ Some word = slice_get-get_or names.list.owners q 0 (subst (λ (n : ℕ). q < n) (sym names.all) inside) in
      let none : word ≡ 0 = sym (lists.owners q word got) ∙ ((pools_untouched k tenancy s.words ws untouched r.whole.pools).owners q inside ∙ ap owner_word free) in
      let at = names.free q (got ∙ ap Some none) in
      let below : at.0 < listed ws = subst (λ (n : ℕ). at.0 < n) (names.count ∙ sym lists.count) (slice_get_within names.list.names at.0 q at.1) in
      (at.0, below, lists.names at.0 q at.1, inl (subst (λ (n : ℕ). n ≤ at.0) (sym (lists.found 0 names.rewound)) zero-le))

  -- where the list was whole it is so
  stayed : listed ws ≢ 0 → (q : ℕ) → q < k.pools → tenancy.holder q ≡ nobody → (i : ℕ) × (i < listed ws) × (listed_pool ws i ≡ q) × ((cursor ws ≤ i) ⊎ (limit_of k (listed ws) ≤ i))
  stayed listing = covered_untouched k t tenancy s.words ws untouched r.whole.pools r.whole.covered (inr listing)

  -- the list that stays was whole
  kept_free : KeepsNames k x → (q : ℕ) → q < k.pools → tenancy.holder q ≡ nobody → (i : ℕ) × (i < listed ws) × (listed_pool ws i ≡ q) × ((cursor ws ≤ i) ⊎ (limit_of k (listed ws) ≤ i))
  kept_free keeps = stayed (λ none. keeps.some (sym ((resting_untouched k s.words ws x untouched good.resting).lists keeps.list keeps.listing).count ∙ none))

  -- where the domains run next
  runs_free : next ≡ Run → (q : ℕ) → q < k.pools → tenancy.holder q ≡ nobody → (i : ℕ) × (i < listed ws) × (listed_pool ws i ≡ q) × ((cursor ws ≤ i) ⊎ (limit_of k (listed ws) ≤ i))
  runs_free runs = ⊎_elim listed_free kept_free (may.relisted runs)

  led_covered : Covered k t' tenancy ws
  led_covered = ⊎_elim
      (⊎_elim
      (λ (h : (i : ℕ) × (t.phase ≡ i * 2) × (t'.kinds i ≡ Run)). absurd (no_even (h.0, h.1)))
      (λ (h : (i : ℕ) × (t.phase ≡ i * 2 + 1) × (true ≡ true) × (t'.kinds (i + 1) ≡ Run)). runs_free (sym (named h.0 h.1) ∙ h.3)))
      stayed

  -- and there the cursor isn't in the reserve
  led_low : next ≡ Run → cursor ws ≤ limit_of k (listed ws)
  led_low runs =
      let lists = (resting_untouched k s.words ws x untouched good.resting).lists in
      ⊎_elim
      (λ (w : NamesFree k x). subst (λ (n : ℕ). n ≤ limit_of k (listed ws)) (sym ((lists w.list w.listing).found 0 w.rewound)) zero-le)
      (λ (w : KeepsNames k x). let l = lists w.list w.listing in subst (λ (z : ℕ × ℕ). z.0 ≤ limit_of k z.1) (λ i. (sym (l.found w.at w.cursor_is) i, sym l.count i)) w.low)
      (may.relisted runs)

  pub led_rule : Rule k record { words = ws; homes = s.homes; views = set s.views id (one k hist y) }
  led_rule =
      let quiet : x.seen.copying ≡ nothing_copied = quiet_in k live x good.owes (λ e. leads_promotes last (sym stage_is ∙ e)) in
      let counts = counts_untouched s.words ws untouched in
      let room = room_words k live t tenancy.stock s.words ws (λ _. counts) r.whole.room in
      let made = making_untouched k s.words ws x untouched good.making in
      let mine_stood = stood_left x good.stood in
      let rest = resting_untouched k s.words ws x untouched good.resting in
      let stays : x.seen.stage ≢ In Run = (λ e. leads_runs last (sym stage_is ∙ e)) in
      let graph_is : (state_of k log').graph ≡ state.graph = ap (λ (u : model.State). u.graph) after ∙ graph_left state o collector in
      remakes k s r id hist x at y account' ws
      record {
        wide = untouched.0 ∙ r.whole.wide;
        legal = legal_logged k s r id hist x at o way.allowed;
        full = way.full;
        found = subst (λ (graph : Graph). AllFound k c'.paint live graph ws) (sym graph_is) (repainted k c.paint c'.paint.marks live state.graph ws
            (λ a p lives. let f = r.whole.found a p lives in marks_same k live last next state c.paint.marks (λ is. old (λ e. let clash : Reset ≡ Run = sym is ∙ e in cc)) a p f.node lives f.there)
            (found_untouched k c.paint live state.graph s.words ws untouched r.whole.found));
        placed = r.whole.placed;
        spread = r.whole.spread;
        settled = ⊎_elim (λ h. inl h) (λ (h : Promoting t). absurd (elsewhere h)) r.whole.settled;
        copies = r.whole.copies;
        cleared = λ h. absurd (elsewhere (h.0, h.1, absurd (no_even (h.0, h.1))));
        emptied = λ h. r.whole.emptied (resetting_led t j next odd h);
        phases = phases_led;
        unwished = λ i e l runs. want_is ∙ good.took_back last stage_is (may.took_back (sym (named i e) ∙ runs));
        endings = get_or-set_other s.words 2 8 new 0 (λ e. omega arith) ∙ (r.whole.endings ∙ sym (sum_same (is_over state) (is_over (state_of k log')) k.domains (λ d _. ap flag (ap (λ (u : model.State). (domain_at u d).ended) after ∙ (keeps_left state o collector d).ended))));
        pools = pools_untouched k tenancy s.words ws untouched r.whole.pools;
        reserved = λ keeps i below above. reserved_untouched k t tenancy s.words ws untouched r.whole.pools r.whole.reserved (keeps_led t j next odd keeps) i below above;
        covered = led_covered;
        grid = grid_untouched k tenancy live s.words ws untouched r.whole.grid;
        drawers = record {
          drawn = λ q e h. let u = (r.whole.drawers.drawn q e h).1 in absurd (no_even (u.0, u.1));
          prepared = λ q e h. absurd (elsewhere (r.whole.drawers.prepared q e h).1);
          claims = λ e h. absurd (elsewhere (r.whole.drawers.claims e h).1);
        };
        room = record { fills = room.fills; fit = room.fit; claims = room.claims; listed_copies = room.listed_copies; left = λ h. absurd (no_even (h.0, h.1)) };
        unused = λ _. r.whole.unused elsewhere;
        opened = opened_words k live s.words ws (λ _ _ _ _. counts.0) r.whole.opened;
        drawable = record {
          to_run = λ i e l runs. led_low (sym (named i e) ∙ runs);
          to_copy = λ i e l copies.
              let is : next ≡ Promote = sym (named i e) ∙ copies in
              low_untouched k s.words ws untouched (good.set_back (stage_is ∙ ap Leads (follows_promote last next follows is), may.set_back is));
        };
        cycle = cycle_led;
      }
      (knows_logged k s r id hist x at o collector may.leads y refl refl)
      record {
        stood = record { wide = mine_stood.wide; each = mine_stood.each; serial = mine_stood.serial; enrolled = mine_stood.enrolled };
        area = record { room = good.area.room; free = good.area.free; classes = good.area.classes };
        making = record { fits = made.fits; written = made.written };
        staged = record { arrivals = good.staged.arrivals; stage = (before.0, (j, odd, over_here (j + 1) next t.kinds), may.leads, refl) };
        still = (λ paused. absurd paused, λ runs. absurd (led_runs next runs));
        hunter = hunter_as k tenancy ws x y refl refl refl refl refl refl refl (hunter_untouched k tenancy s.words ws x untouched good.hunter);
        resting = record {
          hunt = λ _. rest.hunt (λ takes. ⊎_elim stays (λ e. leads_promotes last (sym stage_is ∙ e)) takes);
          free = λ _. rest.free stays;
          spare = λ _. rest.spare stays;
          lists = λ l e. let z = rest.lists l e in record { who = may.leads; few = z.few; owners = z.owners; names = z.names; count = z.count; found = z.found };
        };
        took_back = λ kind leads _. absurd (led_leads next kind leads);
        owes = owes_rests k live x y refl quiet (ap (λ (u : Copying). u.pending) quiet) refl good.owes;
        rooted = (λ h. absurd (no_even (h.0, h.1)), ⊎_elim (λ h. absurd (no_even (h.0.0, h.0.1))) (λ h. good.rooted.1 (inr (resetting_led t j next odd h))));
        set_back = λ back. absurd (led_leads next Run back.0);
        sharing = sharing_led;
        listed = record { all = good.listed.all; own = good.listed.own; lives = good.listed.lives };
        sweeps = record { listed = good.sweeps.listed; places = good.sweeps.places; anew = λ _ e. cc; reaps = tt; below = good.sweeps.below };
      }
      (λ z below other h. record {
        stood = stood_left z h.stood;
        area = h.area;
        making = making_untouched k s.words ws z untouched h.making;
        staged = record {
          arrivals = h.staged.arrivals;
          stage = others_led t j next z.own.number z.own.arrivals z.seen.stage odd (λ first. other (first ∙ sym may.leads)) (subst (λ (n : ℕ). n ≤ t.phase + 1) (sym h.staged.arrivals) (r.whole.phases.each z.own.number below).1) h.staged.stage;
        };
        still = (
          λ paused. absurd (no_even (paused_even t z.own.number z.own.arrivals z.seen.stage paused h.staged.stage)),
          λ runs. let here = (subst (AtStage t z.own.number z.own.arrivals) runs h.staged.stage).1 in absurd (no_even (here.0, here.1)),
        );
        hunter = hunter_untouched k tenancy s.words ws z untouched h.hunter;
        resting = resting_untouched k s.words ws z untouched h.resting;
        took_back = λ kind leads took. want_is ∙ h.took_back kind leads took;
        owes = h.owes;
        rooted = (λ w. absurd (no_even (w.0, w.1)), ⊎_elim (λ w. absurd (no_even (w.0.0, w.0.1))) (λ w. h.rooted.1 (inr (resetting_led t j next odd w))));
        set_back = λ back. low_untouched k s.words ws untouched (h.set_back back);
        sharing = sharings_led z below other h;
        listed = h.listed;
        sweeps = record { listed = h.sweeps.listed; places = h.sweeps.places; anew = λ _ e. cc; reaps = h.sweeps.reaps; below = h.sweeps.below };
      })

  -- what is told of it
  entry_known : o ≡ entry_of x.seen.share.progress.unswept last next
  entry_known = ap (λ (u : Bool). entry_of u last next) (good.sharing.leading.unswept may.leads)

  grown : IsMarking last → asks_again x.seen.share.changed ≤ x.seen.share.unmarked
  grown marking = grown_by k live t c r.whole.cycle.grows unnamed x.seen.share.changed x.seen.share.unmarked knows_changed (good.sharing.leading.unmarked may.leads) (subst IsMarking (sym kind_is) marking)

  fronted : (p : Option Entry) → o ≡ p → LeadTold k next x new y
  fronted None is = record {
    seen = seen_then k s r id hist x at o collector;
    stays = λ _. ap (front_then x.seen.front r.account.log) is;
    made = λ e f. let clash : ◌≡◌ {A = Option Entry} None (Some e) = sym is ∙ (entry_known ∙ f) in cc;
    view = refl;
    grown = grown;
  }
  fronted (Some d) is = record {
    seen = seen_then k s r id hist x at o collector;
    stays = λ f. let clash : ◌≡◌ {A = Option Entry} None (Some d) = sym (entry_known ∙ f) ∙ is in cc;
    made = λ e known. let f : o ≡ Some e = entry_known ∙ known in record {
      before = r.account.log;
      front = ap (front_then x.seen.front r.account.log) f;
      seen = (mine k s r id hist x at).front;
      led = (mine k s r id hist x at).led may.leads;
      legal = subst (λ (p : Option Entry). Legal (sizes_in k) (front_then x.seen.front r.account.log p)) (sym f) (subst (λ (p : Option Entry). Legal (sizes_in k) (logged r.account.log p)) f (legal_logged k s r id hist x at o way.allowed));
    };
    view = refl;
    grown = grown;
  }

  pub led_told : LeadTold k next x new y
  led_told = fronted o refl
