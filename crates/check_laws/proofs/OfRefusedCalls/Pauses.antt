-- What the clauses of leading, of arriving and of the barrier refuse.
use Rattle.std.proofs.Common.{◌≡◌, ◌≢◌, ◌∙◌, ℕ, zero, suc, ◌-◌, ◌*◌, ◌<◌, ◌≤◌, true, false, if◌then◌else◌, Bool, IsTrue, List, Some, None, refl, sym, ap, inl, inr, subst, arith}
use Rattle.std.proofs.lemmas.Bool.{false≢true}
use Rattle.std.proofs.lemmas.Option.{same_Some}
use Rattle.model_core.specs.declared.entry.Entry.{Entry}
use Rattle.model_core.specs.Fronts.{IsFrontOf}
use Rattle.heap_rule.specs.declared.config.Config.{Config}
use Rattle.heap_rule.specs.declared.phase.Kind.{Kind}
use Rattle.heap_rule.specs.declared.phase.Kind.TheVariants.{Answer, Clean, Decide, Lasts, Mark, Queued, Reset, Roots, Rounds, Run, Sweep}
use Rattle.heap_rule.specs.declared.phase.Stage.TheVariants.{In, Led}
use Rattle.heap_rule.specs.declared.view.DomainView.{DomainView}
use Rattle.heap_rule.specs.declared.view.Share.{Share}
use Rattle.heap_rule.specs.Cycles.{seen_by}
use Rattle.heap_rule.specs.Meeting.{Met}
use Rattle.heap_rule.specs.Token.{Token}
use Rattle.step_pauses.specs.Pauses.{ArriveMay, MayFollow, asks_again}
use Rattle.gc_pause.specs.declared.phases.decider.Decider.{Decider}
use Rattle.gc_pause.specs.declared.phases.decider.Decider.TheVariants.{Caller}
use Rattle.gc_pause.specs.Phases.Leading.{LeadsOn}
use Rattle.gc_pause.specs.Stops.Looks.{LedTo, LookAnswers}
use Rattle.gc_pause.specs.declared.stops.answer.Look.TheVariants.{NotAll}

-- marking isn't left while something was changed
pub no_change_is_left_out : (share : Share) → MayFollow share Rounds Decide → share.changed ≡ Some 1 → ⊥
no_change_is_left_out share m changed = let e : 1 ≡ 0 = same_Some 1 0 (sym changed ∙ m.unchanged (inr (inl refl))) in omega (arith, e)

-- nor is the phase in which queued blocks are marked, past the marking
pub no_queued_block_is_left_grey : (share : Share) → MayFollow share Queued Clean → share.changed ≡ Some 1 → ⊥
no_queued_block_is_left_grey share m changed = let e : 1 ≡ 0 = same_Some 1 0 (sym changed ∙ m.unchanged (inr (inr refl))) in omega (arith, e)

-- and a domain doesn't arrive from it while it owes a store of the changed word
pub no_arrival_from_queued_owes_a_store : (k : Config) (x : DomainView) → ArriveMay k x → x.seen.stage ≡ In Queued → x.seen.share.owes ≡ true → ⊥
no_arrival_from_queued_owes_a_store k x may stage owes = let e : true ≡ false = sym owes ∙ may.done.told (inr stage) in cc

-- nor from Mark while a block is on its account, which it may have left grey
pub no_arrival_from_mark_leaves_a_block : (k : Config) (x : DomainView) (a : ℕ) → ArriveMay k x → x.seen.stage ≡ In Mark → IsTrue (seen_by x.seen.share.account a) → ⊥
no_arrival_from_mark_leaves_a_block k x a may stage left = false≢true (subst (λ (l : List ℕ). IsTrue (seen_by l a)) (may.done.followed stage) left)

-- a domain isn't said to wait once all have arrived
pub no_wait_when_all_have_arrived : (k : Config) (x y : DomainView) (b : ℕ) → LookAnswers k x y (NotAll b) → x.own.arrivals * k.domains ≤ b → ⊥
no_wait_when_all_have_arrived k x y b look all = let n : ℕ = x.own.arrivals * k.domains in let below : b < n = look.0 in omega (arith, below, all)

-- no cycle begins while garbage of the last one is left, nor beside one that goes on
pub no_cycle_begins_over_garbage : (share : Share) → MayFollow share Reset Roots → share.progress.unswept ≡ true → ⊥
no_cycle_begins_over_garbage share m left = let e : true ≡ false = sym left ∙ (m.begins refl refl).1 in cc

pub no_cycle_begins_beside_another : (share : Share) → MayFollow share Reset Roots → share.progress.armed ≡ true → ⊥
no_cycle_begins_beside_another share m armed = let e : true ≡ false = sym armed ∙ (m.begins refl refl).0 in cc

-- the armed word isn't left set where a cycle has ended
pub no_finished_cycle_stays_armed : (share : Share) → MayFollow share Lasts Run → share.armed ≡ Some true → ⊥
no_finished_cycle_stays_armed share m armed = let e : Some true ≡ Some false = sym armed ∙ m.over (inl refl) refl in cc

-- a collection isn't answered that began in an earlier pause
pub no_answer_to_an_earlier_cycle : (share : Share) → MayFollow share Sweep Answer → share.progress.whole ≡ false → ⊥
no_answer_to_an_earlier_cycle share m began = let e : true ≡ false = sym (m.answers refl).0 ∙ began in cc

-- a domain doesn't arrive from Sweep while an own pool is left to be swept
pub no_arrival_from_sweep_leaves_a_pool : (k : Config) (x : DomainView) → ArriveMay k x → x.seen.stage ≡ In Sweep → x.own.swept.spot.pool < k.pools → ⊥
no_arrival_from_sweep_leaves_a_pool k x may stage left = let done = may.done.swept stage in omega (arith, done, left)

-- nor at all while it owes the darkening of what a weak read has brought
pub no_arrival_owes_a_darkening : (k : Config) (x : DomainView) (r : ℕ) → ArriveMay k x → x.seen.share.weak ≡ Some r → ⊥
no_arrival_owes_a_darkening k x r may owes = let e = sym owes ∙ may.paid_reads in cc

-- domain 0 doesn't leave a kind in which blocks are marked while the changed word may still be set from before
pub no_marking_begins_uncleared : (k : Config) (x y : DomainView) → LedTo k Mark x y → ArriveMay k y → ⊥
no_marking_begins_uncleared k x y led may =
    let named : y.seen.stage ≡ Led Mark = ap (λ (w : DomainView). w.seen.stage) led.view in
    let unknown : y.seen.share.changed ≡ None = ap (λ (w : DomainView). w.seen.share.changed) led.view in
    let e = sym unknown ∙ may.set_back named in cc

-- a word that asks for another phase counts once
asks : (found : ℕ) → found ≢ 0 → asks_again (Some found) ≡ 1
asks zero some = absurd (some refl)
asks (suc n) some = refl

-- no phase of the marking asks for another one where no block was left to mark
pub no_marking_asks_in_vain : (k : Config) (who : Decider) (x y : DomainView) (kind : Kind) (l : LeadsOn k who x y Mark kind) → l.findings.changed ≢ 0 → x.seen.share.unmarked ≡ 0 → ⊥
no_marking_asks_in_vain k who x y kind l some none =
    let a : ℕ = asks_again (Some l.findings.changed) in
    let one : a ≡ 1 = asks l.findings.changed some in
    let grown : a ≤ x.seen.share.unmarked = l.grown tt in
    let u : ℕ = x.seen.share.unmarked in
    let few : a ≤ u = grown in
    let zero_left : u ≡ 0 = none in
    omega (arith, one, few, zero_left)

-- behind a phase of the marking that asks for another one fewer blocks are left to mark
pub a_marking_that_asks_has_marked : (k : Config) (who : Decider) (x y : DomainView) (kind : Kind) (l : LeadsOn k who x y Mark kind) → l.findings.changed ≢ 0 → x.seen.share.unmarked ≤ y.seen.share.unmarked → ⊥
a_marking_that_asks_has_marked k who x y kind l some as_many =
    let a : ℕ = asks_again (Some l.findings.changed) in
    let one : a ≡ 1 = asks l.findings.changed some in
    let u : ℕ = x.seen.share.unmarked in
    let v : ℕ = y.seen.share.unmarked in
    let grown : a ≤ u = l.grown tt in
    let left : v ≡ u - a = ap (λ (w : DomainView). w.seen.share.unmarked) l.view in
    let more : u ≤ v = as_many in
    omega (arith, one, grown, left, more)

-- where the caller of a pause wants no collection none begins, and where it wants one one does
pub no_collection_begins_unasked : (k : Config) (x y : DomainView) (kind : Kind) → LeadsOn k (Caller false) x y Reset kind → x.seen.share.progress.armed ≡ false → kind ≡ Run
no_collection_begins_unasked k x y kind l armed = l.chosen ∙ ap (λ (b : Bool). if b then Run else Run) armed

pub a_wanted_collection_begins : (k : Config) (x y : DomainView) (kind : Kind) → LeadsOn k (Caller true) x y Reset kind → x.seen.share.progress.armed ≡ false → x.seen.share.progress.unswept ≡ false → kind ≡ Roots
a_wanted_collection_begins k x y kind l armed owed = l.chosen ∙ λ i. if armed i then Mark else (if owed i then Sweep else Roots)

-- and it isn't left to running domains
pub a_wanted_collection_is_complete : (k : Config) (x y : DomainView) (kind : Kind) → LeadsOn k (Caller true) x y Lasts kind → kind ≡ Sweep
a_wanted_collection_is_complete k x y kind l = l.chosen

-- of two domains that meet neither is left behind: both see one history, which begins with what each had seen
pub neither_is_left_behind : (k : Config) (a b x y : Token) → Met k a b x y → (x.view.seen.front ≡ y.view.seen.front) × IsFrontOf a.view.own.number x.view.seen.front a.view.seen.front × IsFrontOf b.view.own.number y.view.seen.front b.view.seen.front
neither_is_left_behind k a b x y met =
    let first : x.view.seen.front ≡ met.history = ap (λ (t : Token). t.view.seen.front) met.first_is in
    let second : y.view.seen.front ≡ met.history = ap (λ (t : Token). t.view.seen.front) met.second_is in (
      first ∙ sym second,
      subst (λ (h : List Entry). IsFrontOf a.view.own.number h a.view.seen.front) (sym first) met.first.begins,
      subst (λ (h : List Entry). IsFrontOf b.view.own.number h b.view.seen.front) (sym second) met.second.begins,
    )
