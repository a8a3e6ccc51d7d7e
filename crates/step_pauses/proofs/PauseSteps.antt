-- The steps of a pause keep the rule.
use Rattle.std.proofs.Common.{◌≡◌, ℕ, ◌+◌, ◌*◌, ◌%◌, ◌^◌, ◌≤◌, List, [], ◌∷◌, ◌++◌, true, false, Option, Some, length, get_or, set, sym, refl, ap, ◌∙◌, subst, inl, arith, length-set, get_or-set_same, get_or-set_other}
use Rattle.std.specs.Prelude.{bit_or}
use mathlib.Core.Option.{some}
use lib.ListN.{get_elem?}
use Rattle.atomic_table.specs.Table.{keeps, Allows}
use Rattle.model_core.specs.declared.entry.Entry.{Entry}
use Rattle.heap_rule.specs.declared.config.Config.{Config}
use Rattle.heap_rule.specs.declared.view.DomainView.{DomainView}
use Rattle.heap_rule.specs.declared.phase.Kind.{Kind}
use Rattle.heap_rule.specs.declared.phase.Kind.TheVariants.{Run}
use Rattle.heap_rule.specs.declared.phase.Stage.TheVariants.{In}
use Rattle.heap_rule.specs.declared.phase.Note.{Note}
use Rattle.heap_rule.specs.declared.phase.Note.TheVariants.{Want, Asked, Ended, Cleared, SetBack}
use Rattle.heap_rule.specs.Layout.{heap_words, before_heap, ended_word, want}
use Rattle.heap_rule.specs.Phases.{code, Follows, Comes, sum_of, is_over, IsEven, IsOdd, Pause, Phases, LeftOdd, AtStage, Staged, Still, IsInPause, TookBack, HasSetBack, Unwished, last_note}
use Rattle.heap_rule.specs.Pools.{IsLeading}
use Rattle.heap_rule.specs.Places.{Shows}
use Rattle.heap_rule.specs.Changes.{value_at}
use Rattle.heap_rule.specs.Standing.{ShowsRegisters}
use Rattle.heap_rule.proofs.Values.{shows}
use Rattle.model_core.specs.declared.graph.Value as graph_value
use Rattle.model_core.specs.declared.graph.Value.TheVariants.{Nothing}
use Rattle.model_core.specs.Domains.{register}
use Rattle.heap_rule.specs.Standing.{noted}
use Rattle.step_pauses.specs.Pauses.{IsGone, WantTold, AskTold, ArriveMay, Arrived, LookTold, PlanTold, ClearTold, LeadMay, LeadTold, EndedTold}
use Rattle.heap_rule.specs.Raw.{MayStep, MayStore}
use Rattle.heap_rule.specs.Rule.{state_of, Rule}
use Rattle.heap_rule.specs.Views.{one, Tells}
use Rattle.heap_rule.proofs.Controls.{untouched_same, sum_low, notes_rule, last_note_end}
use Rattle.step_pauses.proofs.Arrivals.{arrives}
use Rattle.heap_rule.proofs.Keeps.{Words, my_good, own, unmoved, nobody_leads}
use Rattle.heap_rule.proofs.Notes.{IsLook, asked_note, ended_note, noted_elsewhere, noted_otherwise, noted_rule, want_note}
use Rattle.heap_rule.proofs.PauseFacts.{not_both}
use Rattle.step_pauses.proofs.Leading.{led_rule, led_told}
use Rattle.step_pauses.proofs.Looking.{lookings}

cleared_set_back : ◌≡◌ {A = Option Note} (Some Cleared) (Some SetBack) → ⊥
cleared_set_back e = cc

-- a load that leaves a note
noting : (k : Config) (slots id word : ℕ) (hist : List Entry) (x : DomainView) (note : ℕ → Note) (tells : DomainView → ℕ → DomainView → Type 0) → ((n : ℕ) → IsLook (note n))
    → ((s : Words) → Rule k s → get_elem? s.views id ≡ some (one k hist x) → tells x (get_or s.words word 0) (noted x (note (get_or s.words word 0))))
    → Allows (Rule k) slots id (one k hist x, []) word (λ n. n) (Tells tells (one k hist x, []))
noting k slots id word hist x note tells other says s r _ at _ =
    let n : Note = note (get_or s.words word 0) in
    let y : DomainView = noted x n in (
      one k hist y,
      keeps,
      tt,
      unmoved k s word (set s.views id (one k hist y)) (noted_rule k s r id hist x at n (other (get_or s.words word 0))),
      (says s r at, refl),
    )

plans : (k : Config) (slots id : ℕ) (hist : List Entry) (x : DomainView) → Allows (Rule k) slots id (one k hist x, []) 2 (λ n. n) (Tells PlanTold (one k hist x, []))
plans k slots id hist x s r _ at _ =
    let st = (my_good k s r id hist x at).staged in (
      one k hist x,
      keeps,
      tt,
      unmoved k s 2 (set s.views id (one k hist x)) (notes_rule k s r id hist x at x.seen.notes s.words (untouched_same s.words) refl r.whole.unwished (my_good k s r id hist x at).took_back (λ back. back) (λ z _ took. took) refl refl refl),
      (record { view = refl; told = λ kind is. let f = (subst (AtStage r.account.pause x.own.number x.own.arrivals) is st.stage).1 in r.whole.phases.even_plan f.0 f.1 ∙ ap code f.2 }, refl),
    )

-- a step that writes the want word
wants : (k : Config) (slots id : ℕ) (hist : List Entry) (x : DomainView) (note : Note) (f : ℕ → ℕ) (s : Words) (r : Rule k s) (at : get_elem? s.views id ≡ some (one k hist x)) → let ws : List ℕ = set s.words 0 (f (get_or s.words 0 0)) in
    Unwished r.account.pause ws → TookBack ws (noted x note) → (HasSetBack (noted x note) → ⊥) → ((z : DomainView) → Staged r.account.pause z → TookBack s.words z → TookBack ws z)
    → Rule k record { words = set s.words 0 (f (get_or s.words 0 0)); homes = s.homes; views = set s.views id (one k hist (noted x note)) }
wants k slots id hist x note f s r at unwished took_back elsewhere others =
    let new : ℕ = f (get_or s.words 0 0) in
    notes_rule k s r id hist x at (x.seen.notes ++ note ∷ []) (set s.words 0 new) (length-set s.words 0 new, (λ i low other. get_or-set_other s.words 0 i new 0 (λ e. omega arith))) (get_or-set_other s.words 0 3 new 0 (λ e. omega arith))
    unwished took_back (λ back. absurd (elsewhere back)) others
    (get_or-set_other s.words 0 1 new 0 (λ e. omega arith)) (get_or-set_other s.words 0 2 new 0 (λ e. omega arith)) (get_or-set_other s.words 0 8 new 0 (λ e. omega arith))

leads : (k : Config) (slots id : ℕ) (hist : List Entry) (x : DomainView) (new : ℕ) (next : Kind) → LeadMay k x new next
    → Allows (Rule k) slots id (one k hist x, []) 2 (λ _. new) (λ _. Tells (LeadTold k next) (one k hist x, []) new)
leads k slots id hist x new next may s r _ at _ = (_, keeps, tt, led_rule k s r id hist x at new next may, (led_told k s r id hist x at new next may, refl))

-- at most all traces have ended
pub over_few : (k : Config) (s : Words) → Rule k s → ended_word s.words ≤ k.domains
over_few k s r =
    let all : sum_of (is_over (state_of k r.account.log)) k.domains ≤ k.domains * 1 = sum_low (is_over (state_of k r.account.log)) k.domains 1 (λ d below. one_at_most _) in
    let e = r.whole.endings in
    let x : ℕ = sum_of (is_over (state_of k r.account.log)) k.domains in let h : x ≤ k.domains * 1 = all in let f : ended_word s.words ≡ x = e in omega arith
  where
    one_at_most : (b : _) → Rattle.heap_rule.specs.Phases.flag b ≤ 1
    one_at_most true = omega arith
    one_at_most false = omega arith

-- the registers show what they hold in the state after the front
shows_registers : (k : Config) (s : Words) (r : Rule k s) (id : ℕ) (hist : List Entry) (x : DomainView) (at : get_elem? s.views id ≡ some (one k hist x)) → ShowsRegisters k x
shows_registers k s r id hist x at q few =
    let held = shows r.account.live (value_at x.own.registers q) (register (state_of k r.account.log) x.own.number q) ((my_good k s r id hist x at).stood.each q few) in
    subst (λ (l : List graph_value.Value). Shows (value_at x.own.registers q) (get_or l q Nothing)) (own k s r id hist x at).registers held

-- what the step calls ask of the rule
pub want_may : (k : Config) (x : DomainView) → MayStep k x 0 (λ n. n) (WantTold k)
want_may k x fits slots id h = noting k slots id 0 h x Want (WantTold k) want_note (λ s r at. record { view = refl; registers = shows_registers k s r id h x at })

pub ended_may : (k : Config) (x : DomainView) → MayStep k x 8 (λ n. n) (EndedTold k)
ended_may k x fits slots id h = noting k slots id 8 h x Ended (EndedTold k) ended_note (λ s r at. (refl, over_few k s r))

pub ask_may : (k : Config) (x : DomainView) (bits : ℕ) → x.seen.stage ≡ In Run → MayStep k x 0 (λ n. bit_or n bits) (AskTold bits)
ask_may k x bits runs fits slots id h s r _ at _ =
    let staged = (my_good k s r id h x at).staged in
    let even = (subst (AtStage r.account.pause x.own.number x.own.arrivals) runs staged.stage).1 in (
      one k h (noted x (Asked bits)),
      keeps,
      tt,
      wants k slots id h x (Asked bits) (λ n. bit_or n bits) s r at
          (λ j odd. absurd (not_both r.account.pause.phase (even.0, even.1) (j, odd)))
          (noted_otherwise (set s.words 0 (bit_or (get_or s.words 0 0) bits)) (noted x (Asked bits)) x.seen.notes (Asked bits) refl (asked_note bits))
          (noted_elsewhere (noted x (Asked bits)) x.seen.notes (Asked bits) refl (asked_note bits))
          (λ z its took kind leads last. absurd (nobody_leads r.account.pause x z (inl runs) staged its (subst IsLeading (sym leads) tt))),
      (refl, refl),
    )

pub clear_may : (k : Config) (x : DomainView) → MayStore k x 0 0 ClearTold
clear_may k x fits slots id h s r _ at _ =
    let none : want (set s.words 0 0) ≡ 0 = get_or-set_same s.words 0 0 0 (let w : ℕ = heap_words k in let p : ℕ = before_heap k in let o : 10 ≤ p = omega arith in let l : length s.words ≡ 1 + p + w = r.whole.wide in omega arith) in (
      one k h (noted x Cleared),
      keeps,
      tt,
      wants k slots id h x Cleared (λ _. 0) s r at (λ j odd led runs. none) (λ kind leads last. none) (λ back. cleared_set_back (sym (last_note_end x.seen.notes Cleared) ∙ back.1)) (λ z its took kind leads last. none),
      (refl, refl),
    )

pub arrive_may : (k : Config) (x : DomainView) → ArriveMay k x → MayStep k x 1 (λ n. (n + 1) % 2 ^ 64) Arrived
arrive_may k x may fits slots id h = arrives k slots id h x may

pub look_may : (k : Config) (x : DomainView) → IsGone x → MayStep k x 1 (λ n. n) (LookTold k)
look_may k x gone fits slots id h = lookings k slots id h x gone

pub plan_may : (k : Config) (x : DomainView) → MayStep k x 2 (λ n. n) PlanTold
plan_may k x fits slots id h = plans k slots id h x

pub lead_may : (k : Config) (x : DomainView) (new : ℕ) (next : Kind) → LeadMay k x new next → MayStore k x 2 new (LeadTold k next)
lead_may k x new next may fits slots id h = leads k slots id h x new next may
