-- What domain 0 has done before it names the next kind.
use Rattle.std.proofs.Common.{◌≡◌, ◌≢◌, ◌⊎◌, ◌∙◌, ◌++◌, ◌∷◌, ℕ, Bool, List, [], true, false, Option, Some, if◌then◌else◌, refl, sym, ap, subst, inl, inr, ⊎_elim, append_assoc}
use Rattle.std.proofs.lemmas.Bool.{eq-eqb, ne_eqb}
use Rattle.std.proofs.lemmas.List.{append-nil}
use Rattle.heap_words.specs.declared.colours.Colours.{Colours}
use Rattle.heap_words.specs.ColourWords.{rotated}
use Rattle.heap_rule.specs.declared.config.Config.{Config}
use Rattle.heap_rule.specs.declared.phase.Kind.{Kind}
use Rattle.heap_rule.specs.declared.phase.Kind.TheVariants.{Run, Promote, Reset, Roots, Mark, Rounds, Decide, Queued, Clean, Lasts, Sweep, Answer}
use Rattle.heap_rule.specs.declared.phase.Note.{Note}
use Rattle.heap_rule.specs.declared.phase.Note.TheVariants.{Want, Changed, Listed, SetBack}
use Rattle.heap_rule.specs.declared.phase.Progress.{Progress}
use Rattle.heap_rule.specs.declared.phase.Stage.TheVariants.{Leads}
use Rattle.heap_rule.specs.declared.view.DomainView.{DomainView}
use Rattle.heap_rule.specs.declared.view.Listing.{Listing}
use Rattle.heap_rule.specs.declared.view.Share.{Share}
use Rattle.heap_rule.specs.Copies.{IsEmptying}
use Rattle.heap_rule.specs.Cycles.{IsMarking}
use Rattle.heap_rule.specs.Phases.{Follows, last_note}
use Rattle.heap_rule.specs.Standing.{noted}
use Rattle.step_pauses.specs.Pauses.{MayFollow}
use Rattle.step_pools.specs.Listings.{HasList, ListStays, NamesAll, IsLeader, with_listing}
use Rattle.step_marks.specs.Marking.Arming.{knowing_armed}
use Rattle.step_marks.specs.Marking.Changed.{FindTold}
use Rattle.step_marks.specs.Marking.Looks.{knowing_colours, with_share}
use Rattle.step_sweep.specs.Turning.{TurnTold}
use Rattle.do_alloc.specs.Pools.Listed.{ListsFree, SetsBack}
use Rattle.gc_pause.specs.declared.phases.decider.Decider.{Decider}
use Rattle.gc_pause.specs.Phases.Leading.{CountsCleared, Findings, Opens, begins, completes, finishes, kind_after_reset, next_kind, noted_before, opened_view}

-- the domain with other notes, another list in the making, and other knowledge of the phase
abbrev opened : DomainView → List Note → Option Listing → Share → DomainView
opened x notes listing share = record x { seen = record x.seen { notes = notes; listing = listing; share = share } }

opened_as : (x y : DomainView) (notes more : List Note) (listing : Option Listing) (share : Share) → y ≡ opened x notes listing share → notes ≡ more → y ≡ opened_view x y more
opened_as x y notes more listing share is same = is ∙ (ap (λ (n : List Note). opened x n listing share) same
    ∙ (ap (λ (l : Option Listing). opened x more l share) (sym (ap (λ (z : DomainView). z.seen.listing) is))
    ∙ ap (λ (s : Share). opened x more y.seen.listing s) (sym (ap (λ (z : DomainView). z.seen.share) is))))

-- what is known of the phase once the colours are rotated
abbrev turned_to : Colours → DomainView → DomainView
turned_to colours x = with_share x (record x.seen.share { colours = Some (rotated colours); rotated = true })

no_notes : (x : DomainView) → x.seen.notes ≡ x.seen.notes ++ []
no_notes x = sym (append-nil x.seen.notes)

-- the ways of which something is asked
record AsksNothing (last next : Kind) : Type 0 where
  rounds : next ≢ Rounds
  decide : next ≢ Decide
  clean : next ≢ Clean
  answer : next ≢ Answer
  run : next ≢ Run
  sweep : next ≢ Sweep
  lasts : last ≢ Lasts
  reset : last ≢ Reset

-- of most ways nothing is asked
asks_nothing : (share : Share) (last next : Kind) → AsksNothing last next → MayFollow share last next
asks_nothing share before next n = record {
  unchanged = ⊎_elim (λ (e : next ≡ Rounds). absurd (n.rounds e)) (⊎_elim (λ (e : next ≡ Decide). absurd (n.decide e)) (λ (e : next ≡ Clean). absurd (n.clean e)));
  first = λ e. absurd (n.decide e);
  second = λ _ e. absurd (n.clean e);
  rotated = λ e. absurd (n.lasts e);
  set_back = λ e. absurd (n.sweep e);
  goes_on = λ _ e. absurd (n.run e);
  begins = λ e _. absurd (n.reset e);
  frees = λ e _. absurd (n.reset e);
  finishes = λ e _. absurd (n.reset e);
  over = λ _ e. absurd (n.run e);
  freed = λ _ e. absurd (n.run e);
  answers = λ e. absurd (n.answer e);
}

-- before the domains run it is known whether a cycle goes on
record RunsAfter (share : Share) (last : Kind) : Type 0 where
  rotated : last ≡ Lasts → share.rotated ≡ true
  on : last ≡ Roots → share.armed ≡ Some true
  over : (last ≡ Lasts) ⊎ (last ≡ Answer) → share.armed ≡ Some false
  freed : last ≡ Sweep → share.progress.unswept ≡ true

runs_may : (share : Share) (last : Kind) → RunsAfter share last → MayFollow share last Run
runs_may share before r = record {
  unchanged = ⊎_elim (λ (e : Run ≡ Rounds). cc) (⊎_elim (λ (e : Run ≡ Decide). cc) (λ (e : Run ≡ Clean). cc));
  first = λ e. cc;
  second = λ _ e. cc;
  rotated = r.rotated;
  set_back = λ e. cc;
  goes_on = λ e _. r.on e;
  begins = λ _ e. cc;
  frees = λ _ e. cc;
  finishes = λ _ e. cc;
  over = λ e _. r.over e;
  freed = λ e _. r.freed e;
  answers = λ e. cc;
}

-- what comes after the minor collection, by whether a cycle goes on, whether its end is asked for, whether one begins, and whether garbage of the last one is left
abbrev reset_kind : Bool → Bool → Bool → Bool → Kind
reset_kind armed end start unswept = if armed then (if end then Mark else Run) else (if start then (if unswept then Sweep else Roots) else Run)

reset_follows : (armed end start unswept : Bool) → Follows Reset (reset_kind armed end start unswept)
reset_follows true true start unswept = inr (inr (inl refl))
reset_follows true false start unswept = inl refl
reset_follows false end true true = inr (inr (inr refl))
reset_follows false end true false = inr (inl refl)
reset_follows false end false unswept = inl refl

-- what is known where a cycle goes on or none does, by which kind comes next
record ResetKnows (share : Share) (armed unswept : Bool) (next : Kind) : Type 0 where
  known : share.progress.armed ≡ armed
  owed : share.progress.unswept ≡ unswept
  cleared : next ≡ Sweep → (share.blocks ≡ Some 0) × (share.words ≡ Some 0)

reset_runs : (share : Share) → RunsAfter share Reset
reset_runs share = record { rotated = λ e. cc; on = λ e. cc; over = ⊎_elim (λ (e : Reset ≡ Lasts). cc) (λ (e : Reset ≡ Answer). cc); freed = λ e. cc }

reset_may : (share : Share) (armed end start unswept : Bool) → ResetKnows share armed unswept (reset_kind armed end start unswept) → MayFollow share Reset (reset_kind armed end start unswept)
reset_may share true true start unswept r = record {
  unchanged = ⊎_elim (λ (e : Mark ≡ Rounds). cc) (⊎_elim (λ (e : Mark ≡ Decide). cc) (λ (e : Mark ≡ Clean). cc));
  first = λ e. cc;
  second = λ _ e. cc;
  rotated = λ e. cc;
  set_back = λ e. cc;
  goes_on = λ e. cc;
  begins = λ _ e. cc;
  frees = λ _ e. cc;
  finishes = λ _ _. r.known;
  over = λ _ e. cc;
  freed = λ e. cc;
  answers = λ e. cc;
}
reset_may share true false start unswept r = runs_may share Reset (reset_runs share)
reset_may share false end true true r = record {
  unchanged = ⊎_elim (λ (e : Sweep ≡ Rounds). cc) (⊎_elim (λ (e : Sweep ≡ Decide). cc) (λ (e : Sweep ≡ Clean). cc));
  first = λ e. cc;
  second = λ _ e. cc;
  rotated = λ e. cc;
  set_back = r.cleared;
  goes_on = λ e. cc;
  begins = λ _ e. cc;
  frees = λ _ _. r.owed;
  finishes = λ _ e. cc;
  over = λ _ e. cc;
  freed = λ e. cc;
  answers = λ e. cc;
}
reset_may share false end true false r = record {
  unchanged = ⊎_elim (λ (e : Roots ≡ Rounds). cc) (⊎_elim (λ (e : Roots ≡ Decide). cc) (λ (e : Roots ≡ Clean). cc));
  first = λ e. cc;
  second = λ _ e. cc;
  rotated = λ e. cc;
  set_back = λ e. cc;
  goes_on = λ e. cc;
  begins = λ _ _. (r.known, r.owed);
  frees = λ _ e. cc;
  finishes = λ _ e. cc;
  over = λ _ e. cc;
  freed = λ e. cc;
  answers = λ e. cc;
}
reset_may share false end false unswept r = runs_may share Reset (reset_runs share)

reset_copies : (armed end start unswept : Bool) → reset_kind armed end start unswept ≢ Promote
reset_copies true true start unswept e = cc
reset_copies true false start unswept e = cc
reset_copies false end true true e = cc
reset_copies false end true false e = cc
reset_copies false end false unswept e = cc

-- domain 0 may write the list of free pools in an odd phase of a collection
pub leads_list : (y : DomainView) (last : Kind) → y.own.number ≡ 0 → y.seen.stage ≡ Leads last → IsEmptying last → IsLeader y
leads_list y last first stage empty = record { first = first; last = last; stage = stage; empty = empty }

-- where nothing is found and nothing is done
abbrev nothing_found : Findings
nothing_found = record { wants = 0; changed = 0; free = 0 }

-- the kinds after which nothing is asked
abbrev IsBlind : Kind → Type 0
IsBlind last = (last ≢ Reset) × (last ≢ Lasts) × (IsMarking last → ⊥)

-- the kinds before which nothing is asked
abbrev IsFree : Kind → Type 0
IsFree next = (next ≢ Run) × (next ≢ Promote) × (next ≢ Rounds) × (next ≢ Decide) × (next ≢ Clean) × (next ≢ Answer) × (next ≢ Sweep)

goes : (k : Config) (who : Decider) (x : DomainView) (last next : Kind) → IsBlind last → IsFree next → Follows last next → next ≡ next_kind k who last x.seen.share.progress nothing_found → [] ≡ noted_before last next x.seen.share.progress nothing_found → Opens k who x x last next
goes k who x last next blind free follows chosen none = record {
  follows = follows;
  findings = nothing_found;
  chosen = chosen;
  may = asks_nothing x.seen.share last next record { rounds = free.2; decide = free.3; clean = free.4; answer = free.5; run = free.0; sweep = free.6; lasts = blind.1; reset = blind.0 };
  list = λ e. absurd (free.0 e);
  set_back = λ e. absurd (free.1 e);
  progress_is = refl;
  unmarked_is = refl;
  changed_is = λ marking. absurd (blind.2 marking);
  view = opened_as x x x.seen.notes (x.seen.notes ++ noted_before last next x.seen.share.progress nothing_found) x.seen.listing x.seen.share refl (no_notes x ∙ ap (λ (l : List Note). x.seen.notes ++ l) none);
}

module _ (k : Config) (who : Decider) (x : DomainView) where
  pub promote_opens : Opens k who x x Promote Reset
  promote_opens = goes k who x Promote Reset ((λ e. cc), (λ e. cc), λ is. is) ((λ e. cc), (λ e. cc), (λ e. cc), (λ e. cc), (λ e. cc), (λ e. cc), λ e. cc) refl refl refl

  pub decide_opens : Opens k who x x Decide Queued
  decide_opens = goes k who x Decide Queued ((λ e. cc), (λ e. cc), λ is. is) ((λ e. cc), (λ e. cc), (λ e. cc), (λ e. cc), (λ e. cc), (λ e. cc), λ e. cc) refl refl refl

  pub clean_opens : Opens k who x x Clean Lasts
  clean_opens = goes k who x Clean Lasts ((λ e. cc), (λ e. cc), λ is. is) ((λ e. cc), (λ e. cc), (λ e. cc), (λ e. cc), (λ e. cc), (λ e. cc), λ e. cc) refl refl refl

  -- before Promote the cursor is set back
  pub run_opens : (y : DomainView) → last_note y.seen.notes ≡ Some SetBack → SetsBack x y → Opens k who x y Run Promote
  run_opens y set_back same = record {
    follows = refl;
    findings = nothing_found;
    chosen = refl;
    may = asks_nothing y.seen.share Run Promote record { rounds = λ e. cc; decide = λ e. cc; clean = λ e. cc; answer = λ e. cc; run = λ e. cc; sweep = λ e. cc; lasts = λ e. cc; reset = λ e. cc };
    list = λ e. cc;
    set_back = λ _. set_back;
    progress_is = ap (λ (z : DomainView). z.seen.share.progress) same;
    unmarked_is = ap (λ (z : DomainView). z.seen.share.unmarked) same;
    changed_is = λ marking. absurd marking;
    view = opened_as x y (x.seen.notes ++ SetBack ∷ []) _ y.seen.listing x.seen.share same refl;
  }

  -- what comes after Rounds, by whether nothing was changed and whether the cut is made
  abbrev after_rounds : Bool → Bool → Kind
  after_rounds quiet is_cut = if quiet then (if is_cut then Clean else Decide) else Mark

  -- what was changed in the marking
  changed_may : (share : Share) (found : ℕ) (last next : Kind) → share.changed ≡ Some found → found ≡ 0 → (next ≡ Decide → share.progress.cut ≡ false) → (last ≡ Rounds → next ≡ Clean → share.progress.cut ≡ true) → last ≢ Lasts → last ≢ Reset → next ≢ Run → next ≢ Answer → next ≢ Sweep → MayFollow share last next
  changed_may share found before next is none first second lasts reset run answer sweep = record {
    unchanged = λ _. is ∙ ap Some none;
    first = first;
    second = second;
    rotated = λ e. absurd (lasts e);
    set_back = λ e. absurd (sweep e);
    goes_on = λ _ e. absurd (run e);
    begins = λ e _. absurd (reset e);
    frees = λ _ e. absurd (sweep e);
    finishes = λ e _. absurd (reset e);
    over = λ _ e. absurd (run e);
    freed = λ _ e. absurd (run e);
    answers = λ e. absurd (answer e);
  }

  -- it knows what the changed word is
  abbrev changed_as : ℕ → Findings
  changed_as found = record { wants = 0; changed = found; free = 0 }

  module _ (y : DomainView) (found : ℕ) (told : FindTold x found y) where
    knows : y.seen.share.changed ≡ Some found
    knows = ap (λ (z : DomainView). z.seen.share.changed) told

    same_cut : y.seen.share.progress.cut ≡ x.seen.share.progress.cut
    same_cut = ap (λ (z : DomainView). z.seen.share.progress.cut) told

    changed_opens : (last next : Kind) → Follows last next → next ≡ next_kind k who last x.seen.share.progress (changed_as found) → Changed found ∷ [] ≡ noted_before last next x.seen.share.progress (changed_as found) → next ≢ Run → next ≢ Promote → MayFollow y.seen.share last next → Opens k who x y last next
    changed_opens last next follows chosen notes run promote may = record {
      follows = follows;
      findings = changed_as found;
      chosen = chosen;
      may = may;
      list = λ e. absurd (run e);
      set_back = λ e. absurd (promote e);
      progress_is = ap (λ (z : DomainView). z.seen.share.progress) told;
      unmarked_is = ap (λ (z : DomainView). z.seen.share.unmarked) told;
      changed_is = λ _. knows;
      view = opened_as x y (x.seen.notes ++ Changed found ∷ []) (x.seen.notes ++ noted_before last next x.seen.share.progress (changed_as found)) x.seen.listing (record x.seen.share { changed = Some found }) told (ap (λ (l : List Note). x.seen.notes ++ l) notes);
    }

    goes_back : (last : Kind) → last ≢ Lasts → last ≢ Reset → MayFollow y.seen.share last Mark
    goes_back last lasts reset = asks_nothing y.seen.share last Mark record { rounds = λ e. cc; decide = λ e. cc; clean = λ e. cc; answer = λ e. cc; run = λ e. cc; sweep = λ e. cc; lasts = lasts; reset = reset }

    pub mark_ends : found ≡ 0 → Opens k who x y Mark Rounds
    mark_ends none = changed_opens Mark Rounds (inr refl) (ap (λ (b : Bool). if b then Rounds else Mark) (sym (eq-eqb found 0 none))) refl (λ e. cc) (λ e. cc)
        (changed_may y.seen.share found Mark Rounds knows none (λ e. cc) (λ _ e. cc) (λ e. cc) (λ e. cc) (λ e. cc) (λ e. cc) (λ e. cc))

    pub mark_goes_on : found ≢ 0 → Opens k who x y Mark Mark
    mark_goes_on some = changed_opens Mark Mark (inl refl) (ap (λ (b : Bool). if b then Rounds else Mark) (sym (ne_eqb found 0 some))) refl (λ e. cc) (λ e. cc) (goes_back Mark (λ e. cc) (λ e. cc))

    pub rounds_go_back : found ≢ 0 → Opens k who x y Rounds Mark
    rounds_go_back some = changed_opens Rounds Mark (inl refl) (ap (λ (b : Bool). after_rounds b x.seen.share.progress.cut) (sym (ne_eqb found 0 some))) refl (λ e. cc) (λ e. cc) (goes_back Rounds (λ e. cc) (λ e. cc))

    pub rounds_end_first : found ≡ 0 → x.seen.share.progress.cut ≡ false → Opens k who x y Rounds Decide
    rounds_end_first none first = changed_opens Rounds Decide (inr (inl refl)) (ap (after_rounds true) (sym first) ∙ ap (λ (b : Bool). after_rounds b x.seen.share.progress.cut) (sym (eq-eqb found 0 none))) refl (λ e. cc) (λ e. cc)
        (changed_may y.seen.share found Rounds Decide knows none (λ _. same_cut ∙ first) (λ _ e. cc) (λ e. cc) (λ e. cc) (λ e. cc) (λ e. cc) (λ e. cc))

    pub rounds_end_second : found ≡ 0 → x.seen.share.progress.cut ≡ true → Opens k who x y Rounds Clean
    rounds_end_second none second = changed_opens Rounds Clean (inr (inr refl)) (ap (after_rounds true) (sym second) ∙ ap (λ (b : Bool). after_rounds b x.seen.share.progress.cut) (sym (eq-eqb found 0 none))) refl (λ e. cc) (λ e. cc)
        (changed_may y.seen.share found Rounds Clean knows none (λ e. cc) (λ _ _. same_cut ∙ second) (λ e. cc) (λ e. cc) (λ e. cc) (λ e. cc) (λ e. cc))

    pub queued_ends : found ≡ 0 → Opens k who x y Queued Clean
    queued_ends none = changed_opens Queued Clean (inr refl) (ap (λ (b : Bool). if b then Clean else Mark) (sym (eq-eqb found 0 none))) refl (λ e. cc) (λ e. cc)
        (changed_may y.seen.share found Queued Clean knows none (λ e. cc) (λ e. cc) (λ e. cc) (λ e. cc) (λ e. cc) (λ e. cc) (λ e. cc))

    pub queued_goes_on : found ≢ 0 → Opens k who x y Queued Mark
    queued_goes_on some = changed_opens Queued Mark (inl refl) (ap (λ (b : Bool). if b then Clean else Mark) (sym (ne_eqb found 0 some))) refl (λ e. cc) (λ e. cc) (goes_back Queued (λ e. cc) (λ e. cc))

  -- the list of free pools, where it was seen to and nothing else done since
  list_as : (y z : DomainView) → z.seen.listing ≡ y.seen.listing → NamesAll k y → NamesAll k z
  list_as y z same = ⊎_elim
      (λ (l : HasList k y). inl (record { owners = l.owners; all = l.all; listing = same ∙ l.listing }))
      (λ (l : ListStays k y). inr (record { list = l.list; listing = same ∙ l.listing; some = l.some; at = l.at; cursor_is = l.cursor_is; low = l.low }))

  -- what comes after Sweep, by whether garbage was left of an earlier pause, whether a cycle begins, and whether the one that ended began in this pause
  abbrev after_sweep : Bool → Bool → Bool → Kind
  after_sweep unswept start is_whole = if unswept then (if start then Roots else Run) else (if is_whole then Answer else Roots)

  -- it writes the list, and finds the wishes
  module _ (y z : DomainView) (found free : ℕ) (lists : ListsFree free x y) (list : NamesAll k y) (told : z ≡ noted y (Want found)) where
    abbrev wishes : Findings
    wishes = record { wants = found; changed = 0; free = free }

    abbrev two_notes : List Note
    two_notes = (x.seen.notes ++ Listed free ∷ []) ++ Want found ∷ []

    in_order : two_notes ≡ x.seen.notes ++ Listed free ∷ Want found ∷ []
    in_order = append_assoc x.seen.notes (Listed free ∷ []) (Want found ∷ [])

    is : z ≡ opened x two_notes y.seen.listing x.seen.share
    is = told ∙ ap (λ (w : DomainView). noted w (Want found)) lists

    -- in the view that it then has
    module _ (u : DomainView) (share : Share) (view : u ≡ opened x two_notes y.seen.listing share) (kept : (share.progress ≡ x.seen.share.progress) × (share.unmarked ≡ x.seen.share.unmarked)) where
      listed : u.seen.listing ≡ y.seen.listing
      listed = ap (λ (w : DomainView). w.seen.listing) view

      share_is : u.seen.share ≡ share
      share_is = ap (λ (w : DomainView). w.seen.share) view

      reset_with : (next : Kind) → next ≡ kind_after_reset k who found free x.seen.share.progress → (next ≡ Sweep → (share.blocks ≡ Some 0) × (share.words ≡ Some 0)) → Opens k who x u Reset next
      reset_with next chosen cleared =
          let p : Progress = x.seen.share.progress in
          let b = begins k who found free in
          let knows_all : ResetKnows share p.armed p.unswept (kind_after_reset k who found free p) = record { known = ap (λ (q : Progress). q.armed) kept.0; owed = ap (λ (q : Progress). q.unswept) kept.0; cleared = λ e. cleared (chosen ∙ e) } in record {
            follows = subst (Follows Reset) (sym chosen) (reset_follows p.armed (finishes who found) b p.unswept);
            findings = wishes;
            chosen = chosen;
            may = subst (λ (s : Share). MayFollow s Reset next) (sym share_is) (subst (MayFollow share Reset) (sym chosen) (reset_may share p.armed (finishes who found) b p.unswept knows_all));
            list = λ _. list_as y u listed list;
            set_back = λ e. absurd (reset_copies p.armed (finishes who found) b p.unswept (sym chosen ∙ e));
            progress_is = ap (λ (s : Share). s.progress) share_is ∙ kept.0;
            unmarked_is = ap (λ (s : Share). s.unmarked) share_is ∙ kept.1;
            changed_is = λ marking. absurd marking;
            view = opened_as x u two_notes _ y.seen.listing share view in_order;
          }

    pub reset_opens : (next : Kind) → next ≡ kind_after_reset k who found free x.seen.share.progress → next ≢ Sweep → Opens k who x z Reset next
    reset_opens next chosen other = reset_with z x.seen.share is (refl, refl) next chosen (λ e. absurd (other e))

    -- before garbage is freed it sets back what is counted
    pub reset_frees : (u : DomainView) (next : Kind) → CountsCleared z u → next ≡ kind_after_reset k who found free x.seen.share.progress → Opens k who x u Reset next
    reset_frees u next cleared chosen = reset_with u (record x.seen.share { blocks = Some 0; words = Some 0 })
        (cleared ∙ ap (λ (w : DomainView). with_share w (record w.seen.share { blocks = Some 0; words = Some 0 })) is) (refl, refl) next chosen (λ _. (refl, refl))

    -- where garbage was left of an earlier pause
    late_opens : (next : Kind) → x.seen.share.progress.unswept ≡ true → Follows Sweep next → next ≡ next_kind k who Sweep x.seen.share.progress wishes → next ≢ Promote → MayFollow x.seen.share Sweep next → Opens k who x z Sweep next
    late_opens next owed follows chosen copies may = record {
      follows = follows;
      findings = wishes;
      chosen = chosen;
      may = subst (λ (s : Share). MayFollow s Sweep next) (sym (ap (λ (w : DomainView). w.seen.share) is)) may;
      list = λ _. list_as y z (ap (λ (w : DomainView). w.seen.listing) is) list;
      set_back = λ e. absurd (copies e);
      progress_is = ap (λ (w : DomainView). w.seen.share.progress) is;
      unmarked_is = ap (λ (w : DomainView). w.seen.share.unmarked) is;
      changed_is = λ marking. absurd marking;
      view = opened_as x z two_notes _ y.seen.listing x.seen.share is (in_order ∙ ap (λ (b : Bool). x.seen.notes ++ (if b then Listed free ∷ Want found ∷ [] else [])) (sym owed));
    }

    pub late_begins : x.seen.share.progress.unswept ≡ true → begins k who found free ≡ true → Opens k who x z Sweep Roots
    late_begins owed start = late_opens Roots owed (inr (inr refl)) (λ i. after_sweep (sym owed i) (sym start i) x.seen.share.progress.whole) (λ e. cc)
        (asks_nothing x.seen.share Sweep Roots record { rounds = λ e. cc; decide = λ e. cc; clean = λ e. cc; answer = λ e. cc; run = λ e. cc; sweep = λ e. cc; lasts = λ e. cc; reset = λ e. cc })

    pub late_runs : x.seen.share.progress.unswept ≡ true → begins k who found free ≡ false → Opens k who x z Sweep Run
    late_runs owed start = late_opens Run owed (inl refl) (λ i. after_sweep (sym owed i) (sym start i) x.seen.share.progress.whole) (λ e. cc)
        (runs_may x.seen.share Sweep record { rotated = λ e. cc; on = λ e. cc; over = ⊎_elim (λ (e : Sweep ≡ Lasts). cc) (λ (e : Sweep ≡ Answer). cc); freed = λ _. owed })

  -- it finds the wishes, and writes the list where the domains run next
  abbrev pub wished : ℕ → ℕ → Findings
  wished found free = record { wants = found; changed = 0; free = free }

  -- these ways are taken once it has found the wishes, or nothing
  record Decides (last next : Kind) (f : Findings) : Type 0 where
    follows : Follows last next
    chosen : next ≡ next_kind k who last x.seen.share.progress f
    copies : next ≢ Promote
    calm : IsMarking last → ⊥

  -- with what it then knows of the phase
  decides : (last next : Kind) (f : Findings) (u : DomainView) (share : Share) → Decides last next f → u ≡ opened x (x.seen.notes ++ noted_before last next x.seen.share.progress f) u.seen.listing share → (share.progress ≡ x.seen.share.progress) × (share.unmarked ≡ x.seen.share.unmarked) → MayFollow share last next → (next ≡ Run → NamesAll k u) → Opens k who x u last next
  decides last next f u share d view kept may list =
      let same : u.seen.share ≡ share = ap (λ (w : DomainView). w.seen.share) view in record {
        follows = d.follows;
        findings = f;
        chosen = d.chosen;
        may = subst (λ (s : Share). MayFollow s last next) (sym same) may;
        list = list;
        set_back = λ e. absurd (d.copies e);
        progress_is = ap (λ (s : Share). s.progress) same ∙ kept.0;
        unmarked_is = ap (λ (s : Share). s.unmarked) same ∙ kept.1;
        changed_is = λ marking. absurd (d.calm marking);
        view = let notes : List Note = x.seen.notes ++ noted_before last next x.seen.share.progress f in opened_as x u notes notes u.seen.listing share view refl;
      }

  unopened : x ≡ opened x (x.seen.notes ++ []) x.seen.listing x.seen.share
  unopened = ap (λ (n : List Note). opened x n x.seen.listing x.seen.share) (no_notes x)

  pub roots_end : (y : DomainView) (found : ℕ) → y ≡ noted x (Want found) → completes who found ≡ true → Opens k who x y Roots Mark
  roots_end y found told full = decides Roots Mark (wished found 0) y x.seen.share record { follows = inl refl; chosen = ap (λ (b : Bool). if b then Mark else Run) (sym full); copies = λ e. cc; calm = λ is. is }
      (told ∙ ap (λ (l : Option Listing). opened x (x.seen.notes ++ Want found ∷ []) l x.seen.share) (sym (ap (λ (w : DomainView). w.seen.listing) told))) (refl, refl)
      (asks_nothing x.seen.share Roots Mark record { rounds = λ e. cc; decide = λ e. cc; clean = λ e. cc; answer = λ e. cc; run = λ e. cc; sweep = λ e. cc; lasts = λ e. cc; reset = λ e. cc })
      (λ e. cc)

  quiet_sweep : x.seen.share.progress.unswept ≡ false → x ≡ opened x (x.seen.notes ++ (if x.seen.share.progress.unswept then Listed 0 ∷ Want 0 ∷ [] else [])) x.seen.listing x.seen.share
  quiet_sweep none = unopened ∙ ap (λ (b : Bool). opened x (x.seen.notes ++ (if b then Listed 0 ∷ Want 0 ∷ [] else [])) x.seen.listing x.seen.share) (sym none)

  pub sweep_begins : x.seen.share.progress.unswept ≡ false → x.seen.share.progress.whole ≡ false → Opens k who x x Sweep Roots
  sweep_begins none part = decides Sweep Roots nothing_found x x.seen.share record { follows = inr (inr refl); chosen = λ i. after_sweep (sym none i) (begins k who 0 0) (sym part i); copies = λ e. cc; calm = λ is. is }
      (quiet_sweep none) (refl, refl)
      (asks_nothing x.seen.share Sweep Roots record { rounds = λ e. cc; decide = λ e. cc; clean = λ e. cc; answer = λ e. cc; run = λ e. cc; sweep = λ e. cc; lasts = λ e. cc; reset = λ e. cc })
      (λ e. cc)

  pub sweep_answers : x.seen.share.progress.unswept ≡ false → x.seen.share.progress.whole ≡ true → Opens k who x x Sweep Answer
  sweep_answers none all = decides Sweep Answer nothing_found x x.seen.share record { follows = inr (inl refl); chosen = λ i. after_sweep (sym none i) (begins k who 0 0) (sym all i); copies = λ e. cc; calm = λ is. is }
      (quiet_sweep none) (refl, refl)
      record {
        unchanged = ⊎_elim (λ (e : Answer ≡ Rounds). cc) (⊎_elim (λ (e : Answer ≡ Decide). cc) (λ (e : Answer ≡ Clean). cc));
        first = λ e. cc;
        second = λ _ e. cc;
        rotated = λ e. cc;
        set_back = λ e. cc;
        goes_on = λ e. cc;
        begins = λ e. cc;
        frees = λ e. cc;
        finishes = λ e. cc;
        over = λ _ e. cc;
        freed = λ _ e. cc;
        answers = λ _. (all, none);
      }
      (λ e. cc)

  -- the colours are rotated, and it finds the wishes
  module _ (y1 y2 y3 : DomainView) (colours : Colours) (new found : ℕ) (knows : y1 ≡ knowing_colours x colours) (turned : TurnTold y1 new y2) (told : y3 ≡ noted y2 (Want found)) where
    abbrev turned_share : Share
    turned_share = record x.seen.share { colours = Some (rotated turned.colours); rotated = true }

    pub wished_view : y3 ≡ noted (turned_to turned.colours (knowing_colours x colours)) (Want found)
    wished_view = told ∙ (ap (λ (w : DomainView). noted w (Want found)) turned.view ∙ ap (λ (w : DomainView). noted (turned_to turned.colours w) (Want found)) knows)

    turned_is : y3 ≡ opened x (x.seen.notes ++ Want found ∷ []) x.seen.listing turned_share
    turned_is = wished_view

    lasts_decides : (next : Kind) (free : ℕ) → Follows Lasts next → next ≡ (if completes who found then Sweep else Run) → next ≢ Promote → Decides Lasts next (wished found free)
    lasts_decides next free follows chosen copies = record { follows = follows; chosen = chosen; copies = copies; calm = λ is. is }

    -- it sets back what is counted, and garbage is freed in this pause
    pub lasts_frees : (u : DomainView) → completes who found ≡ true → CountsCleared y3 u → Opens k who x u Lasts Sweep
    lasts_frees u full cleared =
        let view : u ≡ opened x (x.seen.notes ++ Want found ∷ []) x.seen.listing (record turned_share { blocks = Some 0; words = Some 0 }) = cleared ∙ ap (λ (w : DomainView). with_share w (record w.seen.share { blocks = Some 0; words = Some 0 })) turned_is in
        let here = view ∙ ap (λ (l : Option Listing). opened x (x.seen.notes ++ Want found ∷ []) l (record turned_share { blocks = Some 0; words = Some 0 })) (sym (ap (λ (w : DomainView). w.seen.listing) view)) in
        decides Lasts Sweep (wished found 0) u (record turned_share { blocks = Some 0; words = Some 0 }) (lasts_decides Sweep 0 (inl refl) (ap (λ (b : Bool). if b then Sweep else Run) (sym full)) (λ e. cc)) here (refl, refl)
        record {
          unchanged = ⊎_elim (λ (e : Sweep ≡ Rounds). cc) (⊎_elim (λ (e : Sweep ≡ Decide). cc) (λ (e : Sweep ≡ Clean). cc));
          first = λ e. cc;
          second = λ _ e. cc;
          rotated = λ _. refl;
          set_back = λ _. (refl, refl);
          goes_on = λ e. cc;
          begins = λ e. cc;
          frees = λ e. cc;
          finishes = λ e. cc;
          over = λ _ e. cc;
          freed = λ e. cc;
          answers = λ e. cc;
        }
        (λ e. cc)

    -- or the domains run, and free it as they do
    pub lasts_run : (z : DomainView) (free : ℕ) → completes who found ≡ false → ListsFree free (knowing_armed y3 false) z → NamesAll k z → Opens k who x z Lasts Run
    lasts_run z free part lists list =
        let share : Share = record turned_share { armed = Some false } in
        let view : z ≡ opened x ((x.seen.notes ++ Want found ∷ []) ++ Listed free ∷ []) z.seen.listing share = lists ∙ ap (λ (w : DomainView). noted (with_listing (knowing_armed w false) z.seen.listing) (Listed free)) turned_is in
        decides Lasts Run (wished found free) z share (lasts_decides Run free (inr refl) (ap (λ (b : Bool). if b then Sweep else Run) (sym part)) (λ e. cc))
        (view ∙ ap (λ (n : List Note). opened x n z.seen.listing share) (append_assoc x.seen.notes (Want found ∷ []) (Listed free ∷ []))) (refl, refl)
        (runs_may share Lasts record { rotated = λ _. refl; on = λ e. cc; over = λ _. refl; freed = λ e. cc })
        (λ _. list)

  -- before the domains run the armed word and the list are written
  module _ (y z : DomainView) (armed : Bool) (free : ℕ) (lists : ListsFree free (knowing_armed y armed) z) (list : NamesAll k z) where
    abbrev armed_share : Share
    armed_share = record x.seen.share { armed = Some armed }

    armed_view : (notes : List Note) → y ≡ opened x notes x.seen.listing x.seen.share → z ≡ opened x (notes ++ Listed free ∷ []) z.seen.listing armed_share
    armed_view notes before = lists ∙ ap (λ (w : DomainView). noted (with_listing (knowing_armed w armed) z.seen.listing) (Listed free)) before

    pub roots_run : (found : ℕ) → y ≡ noted x (Want found) → completes who found ≡ false → armed ≡ true → Opens k who x z Roots Run
    roots_run found told part is = decides Roots Run (wished found free) z armed_share record { follows = inr refl; chosen = ap (λ (b : Bool). if b then Mark else Run) (sym part); copies = λ e. cc; calm = λ is. is }
        (armed_view (x.seen.notes ++ Want found ∷ []) told ∙ ap (λ (n : List Note). opened x n z.seen.listing armed_share) (append_assoc x.seen.notes (Want found ∷ []) (Listed free ∷ []))) (refl, refl)
        (runs_may armed_share Roots record { rotated = λ e. cc; on = λ _. ap Some is; over = ⊎_elim (λ (e : Roots ≡ Lasts). cc) (λ (e : Roots ≡ Answer). cc); freed = λ e. cc })
        (λ _. list)

    pub answer_runs : y ≡ x → armed ≡ false → Opens k who x z Answer Run
    answer_runs told is = decides Answer Run (wished 0 free) z armed_share record { follows = refl; chosen = refl; copies = λ e. cc; calm = λ is. is }
        (armed_view x.seen.notes told) (refl, refl)
        (runs_may armed_share Answer record { rotated = λ e. cc; on = λ e. cc; over = λ _. ap Some is; freed = λ e. cc })
        (λ _. list)
