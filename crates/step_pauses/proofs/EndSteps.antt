-- The end of a trace keeps the rule.
use Rattle.std.proofs.Common.{◌≡◌, ◌≢◌, ℕ, zero, suc, ◌+◌, ◌%◌, ◌^◌, ◌<◌, ◌≤◌, false, ne_eqb, List, [], ◌∷◌, ◌++◌, length, get_or, set, replicate, sym, refl, ap, ◌∙◌, subst, arith, length-set, get_or-set_same, get_or-set_other, mod-eq_of_lt, inl, Bool, Option, None}
use Rattle.atomic_table.specs.Table.{keeps, Allows}
use Rattle.model_core.specs.declared.entry.Entry.{Entry}
use Rattle.model_core.specs.declared.entry.Entry.TheVariants.{End}
use Rattle.model_core.specs.declared.reply.Applied.TheVariants.{Silent}
use Rattle.model_core.specs.declared.graph.Value as model_value
use Rattle.model_core.specs.declared.graph.Value.TheVariants.{Nothing}
use Rattle.model_core.specs.declared.state.DomainState.{DomainState}
use Rattle.model_core.specs.declared.state.State as model
use Rattle.model_core.specs.Domains.{domain_at, no_domain}
use Rattle.model_core.specs.Entries.{Allowed, next, ended}
use Rattle.model_core.specs.History.{is_entry_of}
use Rattle.model_core.proofs.Commands.FrameLemmas.{keeps_next}
use Rattle.model_core.proofs.Histories.FrontLemmas.{answers_push}
use Rattle.heap_words.specs.declared.value.Value.TheVariants.{Nothing as NothingWord}
use Rattle.heap_rule.specs.declared.config.Config.{Config}
use Rattle.heap_rule.specs.declared.view.DomainView.{DomainView}
use Rattle.heap_rule.specs.Layout.{heap_words, before_heap, ended_word, want}
use Rattle.heap_rule.specs.Finalisers.{StandsWaiting}
use Rattle.heap_rule.specs.Limits.{sizes_in}
use Rattle.heap_rule.specs.Places.{Live, Stands}
use Rattle.heap_rule.specs.Changes.{value_at}
use Rattle.heap_rule.specs.Phases.{sum_of, is_over, flag}
use Rattle.step_pauses.specs.Pauses.{ended_own, EndTold}
use Rattle.heap_rule.specs.Raw.{MayStep}
use Rattle.heap_rule.specs.Rule.{state_of, AllFound, Stood, Account, Rule}
use Rattle.heap_rule.specs.Standing.{Acts, with_front, with_own}
use Rattle.heap_rule.specs.declared.phase.Kind.TheVariants.{Run}
use Rattle.heap_rule.specs.Views.{one, Tells}
use Rattle.heap_rule.proofs.FinaliserLemmas.{enrolled_none, paired_none, work_next}
use Rattle.heap_rule.proofs.Values.{holds}
use Rattle.heap_rule.proofs.Keeps.{whole_stays, mine, my_good, remakes, knows_entry, after_entry, legal_entry, cycle_here, sharing_here, sharings_here, phases_words, stood_other, whole_still, hunter_as, running_took_back, resting_runs, resting_other, room_words, opened_words, takes_drawable, owes_as, more_same, run_leads, run_rooted, garbage_here}
use Rattle.heap_rule.proofs.PauseFacts.{called_still, staged_as}
use Rattle.heap_rule.proofs.Sharings.{SameCycle, KeepsUnderway, with_past}
use Rattle.heap_rule.proofs.FullnessLemmas.{full_stays}
use Rattle.heap_rule.proofs.Controls.{Untouched, found_untouched, making_untouched, pools_untouched, grid_untouched, heap_untouched, hunter_untouched, cycle_untouched, reserved_untouched, covered_untouched, counts_untouched, low_untouched, sum_one}
use Rattle.heap_rule.proofs.Entering.{running, inside_state, registers_stand, may_begin}
use Rattle.heap_rule.proofs.Advancing.{Advance, advances_by, owes_nothing, underway_here}
use Rattle.heap_rule.proofs.BesideLemmas.{Endures, endures_words, runs_on}
use Rattle.heap_rule.specs.Beside.{is_weak}
use Rattle.heap_rule.specs.Pools.{Holder}
use Rattle.model_core.specs.declared.label.Label.{Label}
use Rattle.model_cycle.specs.Beside.{Snapshot}
use Rattle.model_cycle.proofs.Beside.{beside_law}
use Rattle.step_pauses.proofs.PauseSteps.{over_few}

-- what stands for a domain whose trace has ended: nothing in the registers, and no finaliser
ended_stood : (live : Live) (now : model.State) (x y : DomainView) → Stood live now x → x.own.finalisers.queue.items ≡ [] → x.own.number < length now.domains → length (domain_at now x.own.number).registers ≡ 16 → y.own ≡ ended_own x.own → Stood live (next now (End x.own.number)) y
ended_stood live now x y st none inside long own =
    let d : ℕ = x.own.number in
    let here : domain_at (next now (End d)) d ≡ ended (domain_at now d) = get_or-set_same now.domains d (ended (domain_at now d)) no_domain inside in
    let queue : (domain_at now d).queue ≡ [] = paired_none (StandsWaiting live) x.own.finalisers.queue.items (domain_at now d).queue none st.enrolled.queue in
    subst (λ (z : DomainView). Stood live (next now (End d)) z) (λ i. record { own = sym own i; seen = y.seen }) (record {
      wide = refl;
      each = λ q few. subst (λ (l : List model_value.Value). Stands live (value_at (replicate 16 NothingWord) q) (get_or l q Nothing)) (sym (ap (λ (z : DomainState). z.registers) here)) (nothing (length (domain_at now d).registers) long q);
      serial = st.serial ∙ sym (ap (λ (z : DomainState). z.serial) here);
      enrolled = enrolled_none live (next now (End d)) d (ended_own x.own).finalisers refl refl none
          (ap (λ (z : DomainState). z.finals) here) (ap (λ (z : DomainState). z.lasts) here) (ap (λ (z : DomainState). z.queue) here ∙ queue);
    })
  where
    both : (n q : ℕ) → Stands live (value_at (replicate n NothingWord) q) (get_or (replicate n Nothing) q Nothing)
    both zero q = tt
    both (suc n) zero = tt
    both (suc n) (suc q) = both n q

    nothing : (n : ℕ) → n ≡ 16 → (q : ℕ) → Stands live (value_at (replicate 16 NothingWord) q) (get_or (replicate n Nothing) q Nothing)
    nothing n is q = subst (λ (m : ℕ). Stands live (value_at (replicate 16 NothingWord) q) (get_or (replicate m Nothing) q Nothing)) (sym is) (both 16 q)

ends : (k : Config) (slots id : ℕ) (hist : List Entry) (x : DomainView) → Acts k x
    → Allows (Rule k) slots id (one k hist x, []) 8 (λ n. (n + 1) % 2 ^ 64) (Tells (EndTold k) (one k hist x, []))
ends k slots id hist x acts s r _ at _ =
    let d : ℕ = x.own.number in
    let e : Entry = End d in
    let now : model.State = state_of k r.account.log in
    let log' : List Entry = r.account.log ++ e ∷ [] in
    let g = my_good k s r id hist x at in
    let me = mine k s r id hist x at in
    let w : ℕ = ended_word s.words in
    let ws : List ℕ = set s.words 8 (w + 1) in
    let inside : d < length now.domains = inside_state k s r id hist x at acts in
    let goes : (domain_at now d).ended ≡ false = running k s r id hist x at acts in
    let alone : (i : ℕ) → i ≢ d → is_entry_of i e ≡ false = (λ i other. ne_eqb d i (λ q. other (sym q))) in
    let begin = may_begin k s r id hist x at acts in
    let allowed : Allowed now e = record { mode = begin.0; running = goes; queue = begin.1 } in
    let y : DomainView = with_front (with_own x (ended_own x.own)) log' in
    let after : state_of k log' ≡ next now e = after_entry k s r id hist x at e in
    let untouched : Untouched s.words ws = (length-set s.words 8 (w + 1), (λ i low other. get_or-set_other s.words 8 i (w + 1) 0 (λ q. omega arith))) in
    let few : w ≤ k.domains = over_few k s r in
    let wrap : (w + 1) % 2 ^ 64 ≡ w + 1 = mod-eq_of_lt (let f = r.limits.domains in omega arith) in
    let word' : ended_word ws ≡ w + 1 = get_or-set_same s.words 8 (w + 1) 0 (let h : ℕ = heap_words k in let p : ℕ = before_heap k in let q : 10 ≤ p = omega arith in let l : length s.words ≡ 1 + p + h = r.whole.wide in omega arith) in
    let own_over : is_over (next now e) d ≡ is_over now d + 1 =
    ap (λ (z : DomainState). flag z.ended) (get_or-set_same now.domains d (ended (domain_at now d)) no_domain inside) ∙ sym (ap (λ b. flag b + 1) goes) in
    let others_over : (j : ℕ) → j ≢ d → is_over (next now e) j ≡ is_over now j = (λ j other. ap flag (keeps_next now e j (alone j other)).ended) in
    let counts : ended_word ws ≡ sum_of (is_over (state_of k log')) k.domains =
    word' ∙ (ap (λ (n : ℕ). n + 1) r.whole.endings ∙ (sym (sum_one (is_over now) (is_over (next now e)) d k.domains me.inside own_over others_over) ∙ sym (ap (λ (t : model.State). sum_of (is_over t) k.domains) after))) in
    let same_want : want ws ≡ want s.words = get_or-set_other s.words 8 0 (w + 1) 0 (λ q. omega arith) in
    let same_counts = counts_untouched s.words ws untouched in
    let prep = making_untouched k s.words ws x untouched g.making in
    let same : SameCycle s.words ws = cycle_untouched s.words ws untouched (get_or-set_other s.words 8 3 (w + 1) 0 (λ q. omega arith)) in
    let stands : Stood r.account.live (next now e) y = ended_stood r.account.live now x y g.stood acts.unqueued inside (registers_stand k s r id hist x at acts).long refl in
    let advance : Advance k s r id hist x at e None r.account.live =
    advances_by k s r id hist x at acts.runs e None r.account.live r.account.cycling.past.owed (more_same r.account.live) (λ goes. (underway_here k s r id hist x at acts.runs goes).young) (inl refl) (λ _ _ _. refl) (owes_nothing k s r id hist x at acts.runs acts.paid)
    (λ goes. beside_law.ends r.account.cycling.past r.account.cycling.paint.marks now (underway_here k s r id hist x at acts.runs goes).covered d) in
    let past' : Snapshot = advance.past in
    let all' : Account = record r.account { log = log'; cycling = with_past r.account.cycling past' } in
    let marked : Label → Bool = r.account.cycling.paint.marks.marked in
    let holder : ℕ → Holder = r.account.tenancy.holder in
    let endures : Endures k r.account.live r.account.live holder holder marked marked s.words ws = endures_words k r.account.live holder marked s.words ws (heap_untouched k s.words ws untouched) in
    let own_runs = runs_on k r.account.live r.account.live holder holder r.account.cycling.armed r.account.cycling.past (record r.account.cycling.past { old = past'.old }) marked marked s.words ws d x.seen.stage x.seen.share (λ _. endures) advance.advances.same_old (λ q. refl) g.sharing.running in
    let rule : Rule k record { words = ws; homes = s.homes; views = set s.views id (one k hist y) } = remakes k s r id hist x at y all' ws
    (whole_stays k s r id hist x at log' r.account.tenancy (with_past r.account.cycling past') ws record {
      wide = untouched.0 ∙ r.whole.wide;
      legal = legal_entry k s r id hist x at e allowed;
      full = full_stays k r.account.log r.account.live r.account.tenancy.holder r.account.tenancy.fresh r.account.tenancy.garbage r.account.homes r.account.cycling.kind e refl r.whole.full;
      found = let paint = r.account.cycling.paint in subst (λ (t : model.State). AllFound k paint r.account.live t.graph ws) (sym after) (found_untouched k paint r.account.live now.graph s.words ws untouched r.whole.found);
      phases = phases_words k r.account.pause s.words ws (get_or-set_other s.words 8 1 (w + 1) 0 (λ q. omega arith)) (get_or-set_other s.words 8 2 (w + 1) 0 (λ q. omega arith)) r.whole.phases;
      unwished = λ j odd led runs. same_want ∙ r.whole.unwished j odd led runs;
      endings = counts;
      pools = pools_untouched k r.account.tenancy s.words ws untouched r.whole.pools;
      reserved = reserved_untouched k r.account.pause r.account.tenancy s.words ws untouched r.whole.pools r.whole.reserved;
      covered = covered_untouched k r.account.pause r.account.tenancy s.words ws untouched r.whole.pools r.whole.covered;
      room = room_words k r.account.live r.account.pause r.account.tenancy.stock s.words ws (λ _. same_counts) r.whole.room;
      unused = r.whole.unused;
      opened = opened_words k r.account.live s.words ws (λ _ _ _ _. same_counts.0) r.whole.opened;
      drawable = takes_drawable k r.account.pause ws x (inl acts.runs) g.staged;
      grid = grid_untouched k r.account.tenancy r.account.live s.words ws untouched r.whole.grid;
      drawers = r.whole.drawers;
      cycle = cycle_here k s r id hist x at Run tt acts.runs (state_of k log') r.account.live r.account.tenancy past' ws (ap (λ (t : model.State). t.mode) after) (garbage_here k s r id hist x at r.account.live ws r.whole.cycle.leaves.dead (λ a _. heap_untouched k s.words ws untouched a)) same
          (subst (λ (t : model.State). KeepsUnderway k now t r.account.live r.account.live r.account.cycling past') (sym after) advance.advances.underway);
    })
    (knows_entry k s r id hist x at y e alone (λ _. refl) refl refl)
    record {
      stood = subst (λ (t : model.State). Stood r.account.live t y) (sym after) stands;
      area = record { room = g.area.room; free = g.area.free; classes = g.area.classes };
      making = record { fits = prep.fits; written = prep.written };
      staged = staged_as r.account.pause x y refl refl refl g.staged;
      still = whole_still log' y refl;
      hunter = hunter_as k r.account.tenancy ws x y refl refl refl refl refl refl refl (hunter_untouched k r.account.tenancy s.words ws x untouched g.hunter);
      resting = resting_runs k s.words ws x y acts.runs acts.runs refl g.resting;
      took_back = running_took_back ws y acts.runs;
      owes = owes_as k r.account.live x y refl refl refl refl g.owes;
      rooted = run_rooted k r.account.pause x y acts.runs g.staged;
      set_back = λ back. absurd (run_leads Run (sym acts.runs ∙ back.0));
      sharing = sharing_here k s r id hist x at Run tt acts.runs all' ws past' x.seen.share.weak y refl same refl refl refl
          record { knows = own_runs.knows; owes = λ goes q. advance.advances.owed_own goes q ∙ ap (λ (w : Option ℕ). is_weak w q) (sym acts.paid) };
      listed = record { all = g.listed.all; own = g.listed.own; lives = g.listed.lives };
      sweeps = g.sweeps;
    }
    (λ z _ other h. record {
      stood = subst (λ (t : model.State). Stood r.account.live t z) (sym after) (stood_other r.account.live r.account.live now (next now e) z (keeps_next now e z.own.number (alone z.own.number other)) (work_next now e z.own.number (alone z.own.number other) tt) (more_same r.account.live) h.stood);
      area = h.area;
      making = making_untouched k s.words ws z untouched h.making;
      staged = h.staged;
      still = called_still r.account.log r.account.pause x z e refl acts.runs g.staged h.staged h.still;
      hunter = hunter_untouched k r.account.tenancy s.words ws z untouched h.hunter;
      resting = resting_other k r.account.pause s.words ws x z (inl acts.runs) g.staged h.staged h.resting;
      took_back = λ kind leads last. same_want ∙ h.took_back kind leads last;
      owes = h.owes;
      rooted = h.rooted;
      set_back = λ back. low_untouched k s.words ws untouched (h.set_back back);
      sharing = sharings_here k s r id hist x at Run tt acts.runs all' ws past' refl same z h
          (runs_on k r.account.live r.account.live holder holder r.account.cycling.armed r.account.cycling.past past' marked marked s.words ws z.own.number z.seen.stage z.seen.share (λ _. endures) advance.advances.same_old (λ q. advance.advances.owed_others z.own.number q other) h.sharing.running);
      listed = h.listed;
      sweeps = h.sweeps;
    }) in (
      one k hist y,
      keeps,
      tt,
      subst (λ (n : ℕ). Rule k record { words = set s.words 8 n; homes = s.homes; views = set s.views id (one k hist y) }) (sym wrap) rule,
      (
        record {
          answers = answers_push (sizes_in k) d r.account.log x.seen.front e Silent me.front (λ _. g.still.1 acts.runs) (legal_entry k s r id hist x at e allowed) refl;
          view = refl;
          holds = holds k r.limits r.account.live r.whole.placed (next now e) y stands;
        },
        refl,
      ),
    )

pub end_may : (k : Config) (x : DomainView) → Acts k x → MayStep k x 8 (λ n. (n + 1) % 2 ^ 64) (EndTold k)
end_may k x acts fits slots id h = ends k slots id h x acts
