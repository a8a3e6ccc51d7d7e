-- The ways from one kind of phase to the next: the facts of the next phase hold where domain 0 names it.
use Rattle.std.proofs.Common.{◌≡◌, ◌≢◌, ℕ, zero, suc, ◌+◌, ◌*◌, ◌<◌, ◌≤◌, ◌⊎◌, Bool, true, false, IsTrue, List, [], ◌∷◌, ◌++◌, length, Option, Some, None, sym, refl, ◌∙◌, subst, inl, inr, ⊎_elim}
use Rattle.model_core.specs.declared.entry.Entry.{Entry}
use Rattle.model_core.specs.declared.entry.Entry.TheVariants.{Cut, Seal, Collected, Done}
use Rattle.model_core.specs.declared.label.Label.{Label}
use Rattle.model_core.specs.declared.state.State as model
use Rattle.model_core.specs.Entries.{Allowed, next as state_next}
use Rattle.model_cycle.specs.Counting.{total}
use Rattle.model_cycle.specs.Cycle as laws
use Rattle.model_cycle.specs.Fullness.{kept_labels}
use Rattle.model_cycle.specs.Shares.{AllArrived, no_shares, reset_shares}
use Rattle.model_cycle.proofs.Cycling.{phase_steps}
use Rattle.model_cycle.proofs.Keeping.{fullness_law, kept_push}
use Rattle.heap_rule.specs.declared.config.Config.{Config}
use Rattle.heap_rule.specs.declared.phase.Kind.{Kind}
use Rattle.heap_rule.specs.declared.phase.Kind.TheVariants.{Run, Promote, Reset, Roots, Mark, Rounds, Decide, Queued, Clean, Lasts, Sweep, Answer}
use Rattle.heap_rule.specs.Cycles.{Cycling, Counted, Counts, EndsCycle, Facts, HasNoCycle, IsBetween, LeftUnswept, Sweeping, cycle_of, layout_of, swept_of}
use Rattle.heap_rule.specs.Fullness.{Homes, Fullness}
use Rattle.heap_rule.specs.Layout.{live_blocks, live_words}
use Rattle.heap_rule.specs.Limits.{sizes_in}
use Rattle.heap_rule.specs.Phases.{Follows}
use Rattle.heap_rule.specs.Places.{Place, Live, Settled}
use Rattle.heap_rule.specs.Pools.{Tenancy, Lot, OwnPlace, owned, place_in}
use Rattle.heap_rule.proofs.FullnessLemmas.{full_kind, full_stays, made_stays}
use Rattle.model_cycle.specs.Beside.{AllFull, restricted}
use Rattle.model_core.specs.Domains.{class_count, domain_at, opening}
use Rattle.model_core.specs.Graph.{Graph, has_label}
use Rattle.model_core.specs.WellFormed.{IsWellFormed}
use Rattle.model_core.proofs.Histories.FieldLemmas.{fields_law}
use Rattle.model_core.proofs.Histories.WellFormedLemmas.{wf_after, wf_opening}
use Rattle.heap_rule.specs.Beside.{Underway}
use Rattle.heap_rule.specs.Rule.{AllFound, state_of}
use Rattle.step_pauses.specs.Pauses.{entry_of, unswept_after, whole_after}
use Rattle.step_pauses.proofs.BesideRows.{AllOld, marks_in, past_in, stops, passes, starts, under_way, all_owned}
use Rattle.step_pauses.proofs.PoolLabels.{lies_in_pool}
use Rattle.std.proofs.lemmas.Bool.{cases_Bool}
use Rattle.std.proofs.lemmas.Option.{none-some}
use Rattle.model_core.specs.declared.state.Mode.TheVariants.{Open, Sealed}

-- the state after an entry, if there is one, and the history
abbrev pub left_by : model.State → Option Entry → model.State
left_by s None = s
left_by s (Some e) = state_next s e

abbrev pub logged : List Entry → Option Entry → List Entry
logged log None = log
logged log (Some e) = log ++ e ∷ []

-- which pass it is after a phase
abbrev pub pass_in : Kind → laws.Pass → laws.Pass
pass_in Roots pass = laws.First
pass_in Reset pass = laws.First
pass_in Queued pass = laws.Second
pass_in _ pass = pass

-- what was marked before, as a phase begins. Where garbage that is left is freed all that lives is counted
abbrev before_in : Kind → Kind → (Label → Bool) → (Label → Bool) → Label → Bool
before_in _ Mark now was = now
before_in _ Rounds now was = now
before_in _ Lasts now was = now
before_in Reset Sweep now was = λ l. true
before_in _ _ now was = was

-- how many registrations are left to look at
abbrev pub left_in : Kind → model.State → (ℕ → ℕ) → ℕ → ℕ
left_in Decide s left = λ d. length (domain_at s d).finals
left_in Lasts s left = λ d. length (domain_at s d).lasts
left_in _ s left = left

-- whether the colours are rotated
abbrev rotated_in : Kind → Bool → Bool
rotated_in Run rotated = false
rotated_in Roots rotated = false
rotated_in _ rotated = rotated

-- nobody has counted
abbrev nothing_added : Counts
nothing_added = record { own = λ _. []; blocks = λ _. false; words = λ _. false }

-- who has counted
abbrev counts_in : Kind → Counts → Counts
counts_in Sweep counts = nothing_added
counts_in _ counts = counts

-- the collection as a phase begins: nothing of it is done. The changed word stays: domain 0 may set it back afterwards
abbrev pub led_cycle : Config → Live → Kind → Kind → model.State → Cycling → Cycling
led_cycle k live last next s c = record {
  kind = next;
  pass = pass_in last c.pass;
  paint = record c.paint { marks = marks_in k live last next s c.paint.marks };
  shares = reset_shares c.shares.changed;
  before = before_in last next (marks_in k live last next s c.paint.marks).marked c.before;
  unmarked = c.unmarked;
  left = left_in next s c.left;
  rotated = rotated_in next c.rotated;
  counts = counts_in next c.counts;
  whole = whole_after last next c.whole;
  armed = c.armed;
  past = past_in last next s c.past;
  unswept = unswept_after last next c.unswept;
}

-- what is said of each way from kind to kind
record Ways (P : Kind → Kind → Type 0) : Type 0 where
  copies : P Run Promote
  empties : P Promote Reset
  runs : P Reset Run
  begins : P Reset Roots
  finishes : P Reset Mark
  frees : P Reset Sweep
  goes_on : P Roots Run
  roots : P Roots Mark
  again : P Mark Mark
  rounds : P Mark Rounds
  back : P Rounds Mark
  cut : P Rounds Decide
  seal : P Rounds Clean
  queued : P Decide Queued
  second : P Queued Mark
  at_once : P Queued Clean
  lasts : P Clean Lasts
  sweep : P Lasts Sweep
  leaves : P Lasts Run
  collected : P Sweep Answer
  done : P Sweep Run
  anew : P Sweep Roots
  answered : P Answer Run

each_way : (P : Kind → Kind → Type 0) → Ways P → (last next : Kind) → Follows last next → P last next
each_way P w Run next f = subst (P Run) (sym f) w.copies
each_way P w Promote next f = subst (P Promote) (sym f) w.empties
each_way P w Reset next f = ⊎_elim (λ (e : next ≡ Run). subst (P Reset) (sym e) w.runs)
    (λ q. ⊎_elim (λ (e : next ≡ Roots). subst (P Reset) (sym e) w.begins) (λ q. ⊎_elim (λ (e : next ≡ Mark). subst (P Reset) (sym e) w.finishes) (λ (e : next ≡ Sweep). subst (P Reset) (sym e) w.frees) q) q) f
each_way P w Roots next f = ⊎_elim (λ (e : next ≡ Mark). subst (P Roots) (sym e) w.roots) (λ (e : next ≡ Run). subst (P Roots) (sym e) w.goes_on) f
each_way P w Mark next f = ⊎_elim (λ (e : next ≡ Mark). subst (P Mark) (sym e) w.again) (λ (e : next ≡ Rounds). subst (P Mark) (sym e) w.rounds) f
each_way P w Rounds next f = ⊎_elim (λ (e : next ≡ Mark). subst (P Rounds) (sym e) w.back)
    (λ q. ⊎_elim (λ (e : next ≡ Decide). subst (P Rounds) (sym e) w.cut) (λ (e : next ≡ Clean). subst (P Rounds) (sym e) w.seal) q) f
each_way P w Decide next f = subst (P Decide) (sym f) w.queued
each_way P w Queued next f = ⊎_elim (λ (e : next ≡ Mark). subst (P Queued) (sym e) w.second) (λ (e : next ≡ Clean). subst (P Queued) (sym e) w.at_once) f
each_way P w Clean next f = subst (P Clean) (sym f) w.lasts
each_way P w Lasts next f = ⊎_elim (λ (e : next ≡ Sweep). subst (P Lasts) (sym e) w.sweep) (λ (e : next ≡ Run). subst (P Lasts) (sym e) w.leaves) f
each_way P w Sweep next f = ⊎_elim (λ (e : next ≡ Run). subst (P Sweep) (sym e) w.done)
    (λ q. ⊎_elim (λ (e : next ≡ Answer). subst (P Sweep) (sym e) w.collected) (λ (e : next ≡ Roots). subst (P Sweep) (sym e) w.anew) q) f
each_way P w Answer next f = subst (P Answer) (sym f) w.answered

the_entry : (P : Entry → Type 0) (d e : Entry) → Some d ≡ Some e → P d → P e
the_entry P d e is p = let same : d ≡ e = cc in subst P same p

total_none : (n : ℕ) → total (λ d. 0) n ≡ 0
total_none zero = refl
total_none (suc n) = let h : total (λ d. 0) n ≡ 0 = total_none n in λ i. h i + 0

never_both : (b : Bool) → b ≡ false → IsTrue b → ⊥
never_both b none is = let clash : false ≡ true = sym none ∙ is in cc

-- what domain 0 knows of the phase that ends
pub record Ready (k : Config) (live : Live) (graph : Graph) (last next : Kind) (c : Cycling) (words : List ℕ) : Type 0 where
  pub kind : c.kind ≡ last
  pub goes_on : last ≡ Roots → next ≡ Run → IsTrue c.armed
  pub begins : last ≡ Reset → next ≡ Roots → (c.armed ≡ false) × (c.unswept ≡ false)
  pub frees : last ≡ Reset → next ≡ Sweep → IsTrue c.unswept
  pub finishes : last ≡ Reset → next ≡ Mark → IsTrue c.armed
  pub over : (last ≡ Lasts) ⊎ (last ≡ Answer) → next ≡ Run → c.armed ≡ false
  pub freed : last ≡ Sweep → next ≡ Run → IsTrue c.unswept
  pub answers : next ≡ Answer → IsTrue c.whole × (c.unswept ≡ false)
  pub emptied : last ≢ Run → AllOld k live
  pub bare : Settled live
  pub found : AllFound k c.paint live graph words
  pub full : (l : Label) → c.paint.emptied l ≡ []
  pub quiet : (next ≡ Rounds) ⊎ ((next ≡ Decide) ⊎ (next ≡ Clean)) → c.shares.changed ≡ false
  pub first : next ≡ Decide → c.pass ≡ laws.First
  pub second : last ≡ Rounds → next ≡ Clean → c.pass ≡ laws.Second
  pub rotated : last ≡ Lasts → IsTrue c.rotated
  pub no_blocks : next ≡ Sweep → live_blocks words ≡ 0
  pub no_words : next ≡ Sweep → live_words words ≡ 0

module _ (k : Config) (log : List Entry) (live : Live) (t : Tenancy) (c : Cycling) (homes : Homes) (words : List ℕ) where
  abbrev s : model.State
  s = state_of k log

  abbrev cyc : laws.Cycle
  cyc = cycle_of k live t.holder c

  abbrev swept : laws.Cycle
  swept = swept_of k live t.holder c

  -- what holds of a way: the entry is allowed, and the facts of the next phase hold behind it
  pub record Way (last next : Kind) : Type 0 where
    pub allowed : (e : Entry) → entry_of c.unswept last next ≡ Some e → Allowed s e
    pub facts : Facts next k (left_by s (entry_of c.unswept last next)) live t (led_cycle k live last next s c) words
    pub full : Fullness k (logged log (entry_of c.unswept last next)) live t.holder t.fresh t.garbage homes next
    pub clean : (led_cycle k live last next s c).rotated ≡ false → (led_cycle k live last next s c).unswept ≡ false → (a : ℕ) → t.garbage a ≡ false
    pub left : IsTrue (led_cycle k live last next s c).unswept → LeftUnswept next c.armed (led_cycle k live last next s c).rotated
    pub unturned : next ≡ Lasts → (led_cycle k live last next s c).rotated ≡ false
    pub uncounted : next ≡ Sweep → (d : ℕ) → ((led_cycle k live last next s c).counts.blocks d ≡ false) × ((led_cycle k live last next s c).counts.words d ≡ false)

  module _ (none : c.rotated ≡ false → c.unswept ≡ false → (a : ℕ) → t.garbage a ≡ false) (garbage_owned : (a : ℕ) → IsTrue (t.garbage a) → (d : ℕ) × OwnPlace t.holder a d) (unswept : IsTrue c.unswept → LeftUnswept c.kind c.armed c.rotated) (all : AllArrived k.domains c.shares) (count : k.domains ≡ length s.domains) (owners : (q d class : ℕ) → t.holder q ≡ owned d class → (d < k.domains) × (class < class_count)) (lots : (a : ℕ) (p : Place) → live a ≡ Some p → a ≤ k.pools * 4096 → Lot t.holder a p) where
    abbrev Goes : Kind → Kind → Type 0
    Goes last next = Ready k live s.graph last next c words → Facts last k s live t c words → Fullness k log live t.holder t.fresh t.garbage homes last → Way last next

    -- what holds of a cycle that goes on beside running domains, as the next kind is named
    goes_beside : (last : Kind) → c.kind ≡ last → IsBetween k s live c → IsTrue c.armed → Underway k s live last c.past c.paint.marks c.shares
    goes_beside ended is b goes = subst (λ (kind : Kind). Underway k s live kind c.past c.paint.marks c.shares) is (b.beside goes)

    -- the collection as it stands where one begins
    abbrev begun : laws.Cycle
    begun = record cyc { whole = true }

    -- and where one is finished that was under way
    abbrev resumed : laws.Cycle
    resumed = record cyc { whole = false; marks = restricted c.paint.marks (lies_in_pool k live) }

    -- the facts of Mark say nothing of what was marked before
    marking_from : (pass : laws.Pass) (s : model.State) (z : laws.Cycle) (before : Label → Bool) → laws.InPhase (laws.Mark pass) k.domains s z → laws.InPhase (laws.Mark pass) k.domains s (record z { before = before })
    marking_from pass s z before f = record { known = f.known; whole = f.whole; passed = f.passed; mark = f.mark }

    -- shares that begin anew with a changed word of 0
    quietly : (P : laws.Cycle → Type 0) (last next : Kind) → c.shares.changed ≡ false → P (record (cycle_of k live t.holder (led_cycle k live last next s c)) { shares = no_shares }) → P (cycle_of k live t.holder (led_cycle k live last next s c))
    quietly P last next unchanged p = subst (λ (b : Bool). P (record (cycle_of k live t.holder (led_cycle k live last next s c)) { shares = reset_shares b })) (sym unchanged) p

    -- garbage is left still
    still_left : (next : Kind) (rotated : Bool) → HasNoCycle next ⊎ (next ≡ Sweep) → (IsTrue c.unswept → rotated ≡ false) → IsTrue c.unswept → LeftUnswept next c.armed rotated
    still_left next rotated kind unrotated is = record { kind_is = kind; unarmed = (unswept is).unarmed; unrotated = unrotated is }

    -- none is in a phase of another collection
    never_left : (last : Kind) → c.kind ≡ last → (HasNoCycle last → ⊥) → last ≢ Sweep → IsTrue c.unswept → ⊥
    never_left _ is collects other left = ⊎_elim (λ (h : HasNoCycle c.kind). collects (subst HasNoCycle is h)) (λ (h : c.kind ≡ Sweep). other (sym is ∙ h)) (unswept left).kind_is

    all_swept : (last : Kind) → c.kind ≡ last → (HasNoCycle last → ⊥) → last ≢ Sweep → c.unswept ≡ false
    all_swept last is collects other = ⊎_elim (λ (h : IsTrue c.unswept). absurd (never_left last is collects other h)) (λ (h : c.unswept ≡ false). h) (cases_Bool c.unswept)

    -- nor once all have arrived that have freed theirs
    all_clear : ((d a : ℕ) → IsTrue (c.shares.arrived d) → OwnPlace t.holder a d → t.garbage a ≡ false) → (a : ℕ) → t.garbage a ≡ false
    all_clear clear a = ⊎_elim
        (λ (is : IsTrue (t.garbage a)). let o = garbage_owned a is in clear o.0 a (all o.0 (owners o.1.pool o.0 o.1.class o.1.owned_is).0) o.1)
        (λ (is : t.garbage a ≡ false). is)
        (cases_Bool (t.garbage a))

    -- nothing is counted yet
    nothing_counted : (marked : Label → Bool) → live_blocks words ≡ 0 → live_words words ≡ 0 → Counted k.domains (layout_of k live t.holder) s.graph marked nothing_added words
    nothing_counted marked no_blocks no_words = record {
      first = λ d is. cc;
      once = λ d is. cc;
      owned = λ d l is. cc;
      all = λ d a l is. cc;
      few = λ d is. cc;
      light = λ d is. cc;
      blocks_are = no_blocks ∙ sym (total_none k.domains);
      words_are = no_words ∙ sym (total_none k.domains);
    }

    formed : IsWellFormed s
    formed = wf_after (opening (sizes_in k)) log (wf_opening (sizes_in k))

    fields_full : AllFull s.graph
    fields_full = fields_law (sizes_in k) log

    -- where garbage is freed in a phase Sweep of its collection, and in one that another collection waits for
    ends_of : Sweeping k s live t c words → c.unswept ≡ false → (s.mode ≡ Sealed) × EndsCycle k s live t.holder c
    ends_of f none = ⊎_elim (λ h. (h.0, h.1)) (λ h. absurd (never_both c.unswept none h.2)) f.since

    rests_of : Sweeping k s live t c words → IsTrue c.unswept → s.mode ≡ Open
    rests_of f left = ⊎_elim (λ h. absurd (never_both c.unswept h.2 left)) (λ h. h.0) f.since

    cases_unswept : Sweeping k s live t c words → (c.unswept ≡ false) ⊎ IsTrue c.unswept
    cases_unswept f = ⊎_elim (λ h. inl h.2) (λ h. inr h.2) f.since

    -- another collection begins
    begins_anew : (after : model.State) (u : Bool) → c.unswept ≡ u → left_by s (entry_of u Sweep Roots) ≡ after → after.mode ≡ Open → Sweeping k s live t c words → ((e : Entry) → entry_of u Sweep Roots ≡ Some e → Allowed s e)
        → Fullness k (logged log (entry_of u Sweep Roots)) live t.holder t.fresh t.garbage homes Roots → Way Sweep Roots
    begins_anew after u is same mode f allowed full = record {
      allowed = λ e. subst (λ (b : Bool). entry_of b Sweep Roots ≡ Some e → Allowed s e) (sym is) (allowed e);
      facts = subst (λ (b : Bool). Facts Roots k (left_by s (entry_of b Sweep Roots)) live t (led_cycle k live Sweep Roots s c) words) (sym is) (subst (λ (z : model.State). Facts Roots k z live t (led_cycle k live Sweep Roots s c) words) (sym same)
          (quietly (laws.InPhase (laws.Roots laws.First) k.domains after) Sweep Roots f.swept.unchanged (phase_steps.begins k.domains after begun mode f.swept.unmarked), record { unchanged = f.swept.unchanged; unrotated = refl }));
      full = subst (λ (b : Bool). Fullness k (logged log (entry_of b Sweep Roots)) live t.holder t.fresh t.garbage homes Roots) (sym is) full;
      clean = λ _ _. all_clear f.clear;
      left = λ left. let clash : false ≡ true = left in cc;
      unturned = λ e. cc;
      uncounted = λ e. cc;
    }

    after_cycle : Sweeping k s live t c words → Fullness k log live t.holder t.fresh t.garbage homes Sweep → c.unswept ≡ false → Way Sweep Roots
    after_cycle f full is = begins_anew (state_next s Done) false is refl refl f (λ e h. the_entry (Allowed s) Done e h (phase_steps.sweep_done k.domains s swept (ends_of f is).1.facts))
        (full_kind k (log ++ Done ∷ []) live t.holder t.fresh t.garbage homes Sweep Roots (λ _ e. cc) (full_stays k log live t.holder t.fresh t.garbage homes Sweep Done refl full))

    after_rest : Sweeping k s live t c words → Fullness k log live t.holder t.fresh t.garbage homes Sweep → IsTrue c.unswept → Way Sweep Roots
    after_rest f full is = begins_anew s true is refl (rests_of f is) f (λ e h. absurd (none-some e h)) (full_kind k log live t.holder t.fresh t.garbage homes Sweep Roots (λ _ e. cc) full)

    ways : Ways Goes
    ways = record {
      copies = λ r f full. record {
        allowed = λ e is. absurd (none-some e is);
        facts = record { mode = f.mode; unmarked = f.unmarked; beside = λ goes. stops k s live t.holder c count all (goes_beside Run r.kind f goes) (reset_shares c.shares.changed); unchanged = f.unchanged; unrotated = f.unrotated };
        full = full_kind k log live t.holder t.fresh t.garbage homes Run Promote (λ _ e. cc) full;
        clean = none;
        left = still_left Promote c.rotated (inl tt) (λ is. (unswept is).unrotated);
        unturned = λ e. cc;
        uncounted = λ e. cc;
      };
      empties = λ r f full. record {
        allowed = λ e is. absurd (none-some e is);
        facts = record { mode = f.mode; unmarked = f.unmarked; beside = λ goes. passes k s live t.holder c count all Promote Reset c.shares.changed (λ e. cc) (goes_beside Promote r.kind f goes); unchanged = f.unchanged; unrotated = f.unrotated };
        full = full_kind k log live t.holder t.fresh t.garbage homes Promote Reset (λ _ e. cc) full;
        clean = none;
        left = still_left Reset c.rotated (inl tt) (λ is. (unswept is).unrotated);
        unturned = λ e. cc;
        uncounted = λ e. cc;
      };
      runs = λ r f full. record {
        allowed = λ e is. absurd (none-some e is);
        facts = record { mode = f.mode; unmarked = f.unmarked; beside = λ goes. passes k s live t.holder c count all Reset Run c.shares.changed (λ e. cc) (goes_beside Reset r.kind f goes); unchanged = f.unchanged; unrotated = refl };
        full = full_kind k log live t.holder t.fresh t.garbage homes Reset Run (λ _ e. cc) full;
        clean = λ _. none f.unrotated;
        left = still_left Run false (inl tt) (λ _. refl);
        unturned = λ e. cc;
        uncounted = λ e. cc;
      };
      begins = λ r f full. record {
        allowed = λ e is. absurd (none-some e is);
        facts = (quietly (laws.InPhase (laws.Roots laws.First) k.domains s) Reset Roots f.unchanged (phase_steps.begins k.domains s begun f.mode (f.unmarked (r.begins refl refl).0)), record { unchanged = f.unchanged; unrotated = refl });
        full = full_kind k log live t.holder t.fresh t.garbage homes Reset Roots (λ _ e. cc) full;
        clean = λ _. none f.unrotated;
        left = λ is. absurd (never_both c.unswept (r.begins refl refl).1 is);
        unturned = λ e. cc;
        uncounted = λ e. cc;
      };
      finishes = λ r f full. let u = goes_beside Reset r.kind f (r.finishes refl refl) in let old : AllOld k live = r.emptied (λ e. cc) in record {
        allowed = λ e is. absurd (none-some e is);
        facts = (
          marking_from laws.First s _ (marks_in k live Reset Mark s c.paint.marks).marked (phase_steps.goes_on k.domains s resumed refl f.mode (all_owned k s live t.holder c count all u old lots owners) (under_way k s live t.holder c count all u old words r.bare r.found r.full) c.shares.changed),
          f.unrotated,
        );
        full = full_kind k log live t.holder t.fresh t.garbage homes Reset Mark (λ _ e. cc) full;
        clean = none;
        left = λ is. absurd (never_both c.armed (unswept is).unarmed (r.finishes refl refl));
        unturned = λ e. cc;
        uncounted = λ e. cc;
      };
      frees = λ r f full. let left = unswept (r.frees refl refl) in record {
        allowed = λ e is. absurd (none-some e is);
        facts = record {
          since = inr (f.mode, f.unrotated, r.frees refl refl);
          swept = record { all_marked = λ a p e. refl; unmarked = f.unmarked left.unarmed; unchanged = f.unchanged; counted = nothing_counted (λ l. true) (r.no_blocks refl) (r.no_words refl) };
          clear = λ d a is. cc;
          all_counted = λ d is. cc;
        };
        full = full_kind k log live t.holder t.fresh t.garbage homes Reset Sweep (λ _ e. cc) full;
        clean = none;
        left = still_left Sweep c.rotated (inr refl) (λ _. f.unrotated);
        unturned = λ e. cc;
        uncounted = λ _ d. (refl, refl);
      };
      goes_on = λ r f full. record {
        allowed = λ e is. absurd (none-some e is);
        facts = record {
          mode = f.0.passed;
          unmarked = λ none. absurd (let clash : true ≡ false = sym (r.goes_on refl refl) ∙ none in cc);
          beside = λ _. starts k s live t.holder c count all formed fields_full f.0 (r.emptied (λ e. cc)) (reset_shares c.shares.changed);
          unchanged = f.1.unchanged;
          unrotated = refl;
        };
        full = full_kind k log live t.holder t.fresh t.garbage homes Roots Run (λ _ e. cc) full;
        clean = λ _. none f.1.unrotated;
        left = λ is. absurd (never_left Roots r.kind (λ h. h) (λ e. cc) is);
        unturned = λ e. cc;
        uncounted = λ e. cc;
      };
      roots = λ r f full. record {
        allowed = λ e is. absurd (none-some e is);
        facts = (marking_from laws.First s _ c.paint.marks.marked (phase_steps.roots_mark laws.First k.domains s cyc count f.0 all c.shares.changed), f.1.unrotated);
        full = full_kind k log live t.holder t.fresh t.garbage homes Roots Mark (λ _ e. cc) full;
        clean = none;
        left = λ is. absurd (never_left Roots r.kind (λ h. h) (λ e. cc) is);
        unturned = λ e. cc;
        uncounted = λ e. cc;
      };
      again = λ r f full. record {
        allowed = λ e is. absurd (none-some e is);
        facts = (marking_from c.pass s _ c.paint.marks.marked (phase_steps.mark_mark c.pass k.domains s cyc f.0 c.shares.changed), f.1);
        full = full_kind k log live t.holder t.fresh t.garbage homes Mark Mark (λ _ e. cc) full;
        clean = none;
        left = λ is. absurd (never_left Mark r.kind (λ h. h) (λ e. cc) is);
        unturned = λ e. cc;
        uncounted = λ e. cc;
      };
      rounds = λ r f full. record {
        allowed = λ e is. absurd (none-some e is);
        facts = (quietly (laws.InPhase (laws.Rounds c.pass) k.domains s) Mark Rounds (r.quiet (inl refl)) (phase_steps.mark_rounds c.pass k.domains s cyc f.0 all (r.quiet (inl refl))), f.1);
        full = full_kind k log live t.holder t.fresh t.garbage homes Mark Rounds (λ _ e. cc) full;
        clean = none;
        left = λ is. absurd (never_left Mark r.kind (λ h. h) (λ e. cc) is);
        unturned = λ e. cc;
        uncounted = λ e. cc;
      };
      back = λ r f full. record {
        allowed = λ e is. absurd (none-some e is);
        facts = (marking_from c.pass s _ c.paint.marks.marked (phase_steps.rounds_mark c.pass k.domains s cyc f.0 c.shares.changed), f.1);
        full = full_kind k log live t.holder t.fresh t.garbage homes Rounds Mark (λ _ e. cc) full;
        clean = none;
        left = λ is. absurd (never_left Rounds r.kind (λ h. h) (λ e. cc) is);
        unturned = λ e. cc;
        uncounted = λ e. cc;
      };
      cut = λ r f full. let quiet = r.quiet (inr (inl refl)) in let row = phase_steps.rounds_decide k.domains s cyc (subst (λ (pass : laws.Pass). laws.InPhase (laws.Rounds pass) k.domains s cyc) (r.first refl) f.0) all quiet in record {
        allowed = λ e is. the_entry (Allowed s) Cut e is row.0;
        facts = (quietly (laws.InPhase laws.Decide k.domains (state_next s Cut)) Rounds Decide quiet row.1, record { unchanged = quiet; unrotated = f.1 });
        full = full_kind k (log ++ Cut ∷ []) live t.holder t.fresh t.garbage homes Rounds Decide (λ _ e. cc) (full_stays k log live t.holder t.fresh t.garbage homes Rounds Cut refl full);
        clean = none;
        left = λ is. absurd (never_left Rounds r.kind (λ h. h) (λ e. cc) is);
        unturned = λ e. cc;
        uncounted = λ e. cc;
      };
      seal = λ r f full. let quiet = r.quiet (inr (inr refl)) in let row = phase_steps.rounds_clean k.domains s cyc (subst (λ (pass : laws.Pass). laws.InPhase (laws.Rounds pass) k.domains s cyc) (r.second refl refl) f.0) all quiet in record {
        allowed = λ e is. the_entry (Allowed s) Seal e is row.0;
        facts = (quietly (laws.InPhase laws.Clean k.domains (state_next s Seal)) Rounds Clean quiet row.1, record { unchanged = quiet; unrotated = f.1 });
        full = full_kind k (log ++ Seal ∷ []) live t.holder t.fresh t.garbage homes Rounds Clean (λ _ e. cc) (full_stays k log live t.holder t.fresh t.garbage homes Rounds Seal refl full);
        clean = none;
        left = λ is. absurd (never_left Rounds r.kind (λ h. h) (λ e. cc) is);
        unturned = λ e. cc;
        uncounted = λ e. cc;
      };
      queued = λ r f full. record {
        allowed = λ e is. absurd (none-some e is);
        facts = (quietly (laws.InPhase (laws.Roots laws.Second) k.domains s) Decide Queued f.1.unchanged (phase_steps.decide_queued k.domains s cyc count f.0 all), f.1.unrotated);
        full = full_kind k log live t.holder t.fresh t.garbage homes Decide Queued (λ _ e. cc) full;
        clean = none;
        left = λ is. absurd (never_left Decide r.kind (λ h. h) (λ e. cc) is);
        unturned = λ e. cc;
        uncounted = λ e. cc;
      };
      second = λ r f full. record {
        allowed = λ e is. absurd (none-some e is);
        facts = (marking_from laws.Second s _ c.paint.marks.marked (phase_steps.roots_mark laws.Second k.domains s cyc count f.0 all c.shares.changed), f.1);
        full = full_kind k log live t.holder t.fresh t.garbage homes Queued Mark (λ _ e. cc) full;
        clean = none;
        left = λ is. absurd (never_left Queued r.kind (λ h. h) (λ e. cc) is);
        unturned = λ e. cc;
        uncounted = λ e. cc;
      };
      at_once = λ r f full. let quiet = r.quiet (inr (inr refl)) in let row = phase_steps.queued_clean k.domains s cyc count f.0 all quiet in record {
        allowed = λ e is. the_entry (Allowed s) Seal e is row.0;
        facts = (quietly (laws.InPhase laws.Clean k.domains (state_next s Seal)) Queued Clean quiet row.1, record { unchanged = quiet; unrotated = f.1 });
        full = full_kind k (log ++ Seal ∷ []) live t.holder t.fresh t.garbage homes Queued Clean (λ _ e. cc) (full_stays k log live t.holder t.fresh t.garbage homes Queued Seal refl full);
        clean = none;
        left = λ is. absurd (never_left Queued r.kind (λ h. h) (λ e. cc) is);
        unturned = λ e. cc;
        uncounted = λ e. cc;
      };
      lasts = λ r f full. let row = phase_steps.clean_lasts k.domains s cyc f.0 all in record {
        allowed = λ e is. absurd (none-some e is);
        facts = record {
          facts = record { owned = row.owned; whole = row.whole; waiting = row.waiting; lasts = row.lasts; through = λ d is. cc };
          unchanged = f.1.unchanged;
          stays = λ _ l. refl;
          turned = λ is. absurd (let clash : true ≡ false = sym is ∙ f.1.unrotated in cc);
        };
        full = full_kind k log live t.holder t.fresh t.garbage homes Clean Lasts (λ _ e. cc) full;
        clean = none;
        left = λ is. absurd (never_left Clean r.kind (λ h. h) (λ e. cc) is);
        unturned = λ _. f.1.unrotated;
        uncounted = λ e. cc;
      };
      sweep = λ r f full. let turned = f.turned (r.rotated refl) in let row = phase_steps.lasts_sweep k.domains s swept count f.facts all in let g = row.1 in record {
        allowed = λ e is. absurd (none-some e is);
        facts = record {
          since = inl (f.facts.lasts.mode, record { facts = record { sealed = g.sealed; owned = g.owned; whole = g.whole; waiting = g.waiting; kept = g.kept }; rotated = r.rotated refl }, all_swept Lasts r.kind (λ h. h) (λ e. cc));
          swept = record { all_marked = turned.all_marked; unmarked = turned.unmarked; unchanged = f.unchanged; counted = nothing_counted c.before (r.no_blocks refl) (r.no_words refl) };
          clear = λ d a is. cc;
          all_counted = λ d is. cc;
        };
        full = full_kind k log live t.holder t.fresh t.garbage homes Lasts Sweep (λ _ e. cc) full;
        clean = none;
        left = λ is. absurd (never_left Lasts r.kind (λ h. h) (λ e. cc) is);
        unturned = λ e. cc;
        uncounted = λ _ d. (refl, refl);
      };
      leaves = λ r f full. let turned = f.turned (r.rotated refl) in let row = phase_steps.lasts_sweep k.domains s swept count f.facts all in record {
        allowed = λ e is. the_entry (Allowed s) Done e is (phase_steps.sweep_done k.domains s swept (let g = row.1 in record { sealed = g.sealed; owned = g.owned; whole = g.whole; waiting = g.waiting; kept = g.kept }));
        facts = record { mode = refl; unmarked = λ _. turned.unmarked; beside = λ goes. absurd (never_both c.armed (r.over (inl refl) refl) goes); unchanged = f.unchanged; unrotated = refl };
        full = full_kind k (log ++ Done ∷ []) live t.holder t.fresh t.garbage homes Lasts Run (λ _ e. cc) (full_stays k log live t.holder t.fresh t.garbage homes Lasts Done refl full);
        clean = λ _ e. let clash : true ≡ false = e in cc;
        left = λ _. record { kind_is = inl tt; unarmed = r.over (inl refl) refl; unrotated = refl };
        unturned = λ e. cc;
        uncounted = λ e. cc;
      };
      collected = λ r f full. let ends = ends_of f (r.answers refl).1 in let row = phase_steps.sweep_collected k.domains s swept (r.answers refl).0 ends.0 ends.1.facts in let g = row.1 in record {
        allowed = λ e is. the_entry (Allowed s) Collected e is row.0;
        facts = record {
          mode = refl;
          whole = (r.answers refl).0;
          ends = record { facts = record { sealed = g.sealed; owned = g.owned; whole = g.whole; waiting = g.waiting; kept = g.kept }; rotated = ends.1.rotated };
          swept = record { all_marked = f.swept.all_marked; unmarked = f.swept.unmarked; unchanged = f.swept.unchanged; counted = f.swept.counted };
          clean = all_clear f.clear;
          all_counted = λ d below. f.all_counted d (all d below);
          held = λ q d class is. cc;
        };
        full = record {
          kept = λ a p lives. subst (λ (kept : List Label). IsTrue (has_label kept p.label)) (sym (kept_push (sizes_in k) log Collected))
              (fullness_law.collected s c.before c.before (kept_labels (sizes_in k) log) (λ l is. is) (ends.1.facts.whole (r.answers refl).0) p.label (f.swept.all_marked a p lives));
          low = full.low;
          young = full.young;
          made = made_stays k log Collected homes full.made;
          left = λ q d class slot is inside dead. absurd (never_both (t.garbage (place_in q class slot)) (all_clear f.clear (place_in q class slot)) dead);
          owned = λ goes. absurd (goes refl);
          drawn = full.drawn;
        };
        clean = λ _ _. all_clear f.clear;
        left = λ is. let clash : false ≡ true = is in cc;
        unturned = λ e. cc;
        uncounted = λ e. cc;
      };
      done = λ r f full. let left = unswept (r.freed refl refl) in let rest = rests_of f (r.freed refl refl) in record {
        allowed = λ e is. absurd (none-some e is);
        facts = record { mode = rest; unmarked = λ _. f.swept.unmarked; beside = λ goes. absurd (never_both c.armed left.unarmed goes); unchanged = f.swept.unchanged; unrotated = refl };
        full = full_kind k log live t.holder t.fresh t.garbage homes Sweep Run (λ _ e. cc) full;
        clean = λ _ _. all_clear f.clear;
        left = λ is. let clash : false ≡ true = is in cc;
        unturned = λ e. cc;
        uncounted = λ e. cc;
      };
      anew = λ r f full. ⊎_elim (after_cycle f full) (after_rest f full) (cases_unswept f);
      answered = λ r f full. let kept = full_stays k log live t.holder t.fresh t.garbage homes Answer Done refl full in record {
        allowed = λ e is. the_entry (Allowed s) Done e is (phase_steps.sweep_done k.domains s swept f.ends.facts);
        facts = record { mode = refl; unmarked = λ _. f.swept.unmarked; beside = λ goes. absurd (never_both c.armed (r.over (inr refl) refl) goes); unchanged = f.swept.unchanged; unrotated = refl };
        full = record {
          kept = kept.kept;
          low = kept.low;
          young = kept.young;
          made = kept.made;
          left = kept.left;
          owned = λ _ q d class is. let h = f.held q d class (all d (owners q d class is).0) is in inr (h.2.0.label, kept.kept _ h.2.0 h.2.1, kept.low q d class h.0 h.2.0 is h.1 h.2.1);
          drawn = kept.drawn;
        };
        clean = λ _ _. f.clean;
        left = λ is. absurd (never_left Answer r.kind (λ h. h) (λ e. cc) is);
        unturned = λ e. cc;
        uncounted = λ e. cc;
      };
    }

    pub led_way : (last next : Kind) → Follows last next → Ready k live s.graph last next c words → Facts last k s live t c words → Fullness k log live t.holder t.fresh t.garbage homes last → Way last next
    led_way last next follows = each_way Goes ways last next follows
