-- Before a pool comes back the list of free pools is emptied. Where no own pool is the last one below the top, the top sinks.
use Rattle.std.proofs.Common.{◌≡◌, ◌≢◌, ℕ, ◌+◌, ◌*◌, ◌<◌, ◌≤◌, List, get_or, set, Some, sym, refl, ap, ◌∙◌, subst, inl, inr, ⊎_elim, arith, length-set, zero-le, true≢false}
use Rattle.std.proofs.lemmas.Option.{same_Some}
use mathlib.Core.Logic.{dite}
use mathlib.Core.Option.{some}
use native.Mathlib.Decide.{ℕ_discrete}
use lib.ListN.{get_elem?}
use Rattle.atomic_table.specs.Table.{keeps}
use Rattle.model_core.specs.declared.entry.Entry.{Entry}
use Rattle.heap_rule.specs.declared.config.Config.{Config}
use Rattle.heap_rule.specs.declared.phase.Kind.{Kind}
use Rattle.heap_rule.specs.declared.phase.Kind.TheVariants.{Run, Promote, Sweep, Answer}
use Rattle.heap_rule.specs.declared.phase.Stage.{Stage}
use Rattle.heap_rule.specs.declared.phase.Stage.TheVariants.{In, Leads, Led, Gone}
use Rattle.heap_rule.specs.declared.view.DomainView.{DomainView}
use Rattle.heap_rule.specs.declared.view.Listing.{Listing}
use Rattle.heap_rule.specs.Cycles.{IsCollecting}
use Rattle.heap_rule.specs.Layout.{cursor, listed, owner_of}
use Rattle.heap_rule.specs.Phases.{AtStage, Staged}
use Rattle.heap_rule.specs.Pools.{IsListWhole, IsReturning, Lists, Takes, no_listing, owned}
use Rattle.heap_rule.specs.Raw.{CanLeave, Closes, Leaves, MayStep, MayStore}
use Rattle.heap_rule.specs.Rule.{Rule}
use Rattle.heap_rule.specs.Views.{one}
use Rattle.heap_rule.proofs.Closes.{front_same, leaves_closes}
use Rattle.heap_rule.proofs.Keeps.{Words, my_good, unmoved}
use Rattle.heap_rule.proofs.PauseFacts.{agree, kind_differs, not_both}
use Rattle.step_marks.proofs.OfMarking.Layouts.{whose}
use Rattle.step_marks.proofs.OfMarking.Learning.{even, lies_old, not_promoting, waits}
use Rattle.step_pools.proofs.ListSteps.{control, elsewhere, emptied, every, here, relists}
use Rattle.step_sweep.specs.Holding.{Returns}
use Rattle.step_sweep.specs.Returning.{ListVoided, TopMay, TopTold, topped}
use Rattle.step_sweep.proofs.Swept.{returning}
use Rattle.step_sweep.proofs.SweepSteps.{sweeps_rule}

-- the phase in which a domain gives pools back
pub stands : (k : Config) (x : DomainView) → Returns k x → (kind : Kind) × (x.seen.stage ≡ In kind) × IsReturning kind
stands k x returns = ⊎_elim (λ (h : (x.seen.stage ≡ In Sweep) × (k.pools ≤ x.own.swept.spot.pool)). (Sweep, h.0, inl refl)) (λ (h : x.seen.stage ≡ In Answer). (Answer, h, inr refl)) returns

-- in it no domain runs or copies
not_run : (kind : Kind) → IsReturning kind → kind ≡ Run → ⊥
not_run kind r e = ⊎_elim (λ (h : kind ≡ Sweep). let clash : Sweep ≡ Run = sym h ∙ e in cc) (λ (h : kind ≡ Answer). let clash : Answer ≡ Run = sym h ∙ e in cc) r

not_promote : (kind : Kind) → IsReturning kind → kind ≡ Promote → ⊥
not_promote kind r e = ⊎_elim (λ (h : kind ≡ Sweep). let clash : Sweep ≡ Promote = sym h ∙ e in cc) (λ (h : kind ≡ Answer). let clash : Answer ≡ Promote = sym h ∙ e in cc) r

-- who knows there that the list names none
void_list : (k : Config) (words : List ℕ) (d : ℕ) (kind : Kind) → IsReturning kind → listed words ≡ 0 → Lists k words d (In kind) no_listing
void_list k words d kind returns none = record { who = (returns, refl); few = (zero-le, zero-le); owners = λ q w got. cc; names = λ i q got. cc; count = none; found = λ c e. cc }

-- who doesn't lead a phase and knows of the list knows that while it names none
pub void_known : (k : Config) (words words' : List ℕ) (d : ℕ) (stage : Stage) (l : Listing) → listed words' ≡ 0 → ((kind : Kind) → stage ≡ Leads kind → ⊥) → ((kind : Kind) → stage ≡ Led kind → ⊥) → Lists k words d stage l → Lists k words' d stage l
void_known k words words' d (In kind) l none leads led s = subst (Lists k words' d (In kind)) (sym s.who.1) (void_list k words' d kind s.who.0 none)
void_known k words words' d (Leads kind) l none leads led s = absurd (leads kind refl)
void_known k words words' d (Led kind) l none leads led s = absurd (led kind refl)
void_known k words words' d (Gone kind) l none leads led s = absurd s.who

module _ (k : Config) (s : Words) (r : Rule k s) (id : ℕ) (hist : List Entry) (x : DomainView) (at : get_elem? s.views id ≡ some (one k hist x)) (returns : Returns k x) where
  abbrev collects : IsCollecting x.seen.stage
  collects = returning k s r id hist x at returns

  at_stage : AtStage r.account.pause x.own.number x.own.arrivals (In (stands k x returns).0)
  at_stage = subst (AtStage r.account.pause x.own.number x.own.arrivals) (stands k x returns).1 (my_good k s r id hist x at).staged.stage

  odd_not : (j : ℕ) → r.account.pause.phase ≡ j * 2 + 1 → ⊥
  odd_not j e = not_both r.account.pause.phase (even k s r id hist x at collects) (j, e)

  runs_not : (j : ℕ) → r.account.pause.phase ≡ j * 2 → r.account.pause.kinds j ≡ Run → ⊥
  runs_not j is runs = not_run (stands k x returns).0 (stands k x returns).2
      (sym (kind_differs r.account.pause j at_stage.1.0 r.account.pause.phase (r.account.pause.kinds j) (stands k x returns).0 is at_stage.1.1 refl at_stage.1.2) ∙ runs)

  -- nobody leads
  pub no_leader : (z : DomainView) → Staged r.account.pause z → ((kind : Kind) → z.seen.stage ≡ Leads kind → ⊥) × ((kind : Kind) → z.seen.stage ≡ Led kind → ⊥)
  no_leader z staged = (
    λ kind is. let a = (subst (AtStage r.account.pause z.own.number z.own.arrivals) is staged.stage).1 in odd_not a.0 a.1,
    λ kind is. let a = (subst (AtStage r.account.pause z.own.number z.own.arrivals) is staged.stage).1 in odd_not a.0 a.1,
  )

  -- and nothing is said of a list that names none
  pub not_whole : (words : List ℕ) → listed words ≡ 0 → IsListWhole r.account.pause words → ⊥
  not_whole words none whole = ⊎_elim
      (⊎_elim
      (λ (h : (j : ℕ) × (r.account.pause.phase ≡ j * 2) × (r.account.pause.kinds j ≡ Run)). runs_not h.0 h.1 h.2)
      (λ h. odd_not h.0 h.1))
      (λ (some : listed words ≢ 0). some none)
      whole

  idle : (z : DomainView) → Staged r.account.pause z → Takes z.seen.stage → ⊥
  idle z staged takes =
      let beside : (kind : Kind) → z.seen.stage ≡ In kind → (stands k x returns).0 ≡ kind = (λ kind is. agree r.account.pause x.own.number z.own.number x.own.arrivals z.own.arrivals (In (stands k x returns).0) (In kind) at_stage (subst (AtStage r.account.pause z.own.number z.own.arrivals) is staged.stage)) in
      ⊎_elim (λ is. not_run (stands k x returns).0 (stands k x returns).2 (beside Run is)) (λ is. not_promote (stands k x returns).0 (stands k x returns).2 (beside Promote is)) takes

  abbrev ws : List ℕ
  ws = set s.words 6 0

  abbrev y : DomainView
  y = record x { seen = record x.seen { listing = Some no_listing } }

  none_now : listed ws ≡ 0
  none_now = here k s r 6 0 (inl refl)

  void_rule : Rule k record { words = ws; homes = s.homes; views = set s.views id (one k hist y) }
  void_rule =
      let same : cursor ws ≡ cursor s.words = elsewhere k s r 6 0 (inl refl) 7 (λ e. omega arith) in
      let c : ℕ = cursor s.words in
      let low : cursor ws ≤ c = subst (λ (n : ℕ). n ≤ c) (sym same) (let o : c ≤ c = omega arith in o) in
      relists k s r id hist x at (not_promoting k s r id hist x at collects) idle (Some no_listing) x.seen.notes ws record {
        wide = length-set s.words 6 0;
        every = every k s r 6 0 (inl refl);
        control = control k s r 6 0 (inl refl);
        pools = emptied k s r 6 0 (inl refl) none_now low;
        lists = λ l e. subst (Lists k ws x.own.number x.seen.stage) (same_Some no_listing l e) (subst (λ (stage : Stage). Lists k ws x.own.number stage no_listing) (sym (stands k x returns).1) (void_list k ws x.own.number (stands k x returns).0 (stands k x returns).2 none_now));
        listed_young = λ a q lives young. absurd (let old : a ≤ k.pools * 4096 = lies_old k s r id hist x at collects a q lives in omega arith);
        reserved = λ keeps i below above. absurd (let n : ℕ = listed ws in let e : n ≡ 0 = none_now in let b : i < n = below in omega arith);
        covered = λ whole. absurd (not_whole ws none_now whole);
        took_back = λ e. e;
        set_back = λ leads _. absurd ((no_leader x (my_good k s r id hist x at).staged).0 Run leads);
        drawable = record { to_run = λ j odd _ _. absurd (odd_not j odd); to_copy = λ j odd _ _. absurd (odd_not j odd) };
        others = λ z _ g l e. void_known k s.words ws z.own.number z.seen.stage l none_now (no_leader z g.staged).0 (no_leader z g.staged).1 (g.resting.lists l e);
        others_set_back = λ z staged h _. absurd ((no_leader z staged).0 Run h.0);
      }

  -- the last pool below the top isn't the domain's
  module _ (word pool : ℕ) (may : TopMay k x word pool) where
    sinks : ((class : ℕ) → r.account.tenancy.holder pool ≡ owned x.own.number class → ⊥) → Rule k record { words = s.words; homes = s.homes; views = set s.views id (one k hist (record x { own = topped x.own pool })) }
    sinks none = let w = (my_good k s r id hist x at).sweeps in sweeps_rule k s r id hist x at (record x.own.swept { top = pool }) x.seen.share.reaping x.seen.share.swept record {
      listed = w.listed;
      places = w.places;
      anew = λ _ up. absurd (true≢false (sym up ∙ waits k s r id hist x at collects));
      reaps = w.reaps;
      below = λ q c is. dite (ℕ_discrete q pool)
          (λ same. absurd (none c (ap r.account.tenancy.holder (sym same) ∙ is)))
          (λ other. let low : q < x.own.swept.top = w.below q c is in let top : ℕ = x.own.swept.top in let e : top ≡ pool + 1 = may.last in let n : q ≢ pool = other in let g : q < pool = omega arith in g);
    }

    pub tops : (z : DomainView) × Rule k record { words = s.words; homes = s.homes; views = set s.views id (one k hist z) } × TopTold pool x (owner_of k s.words pool) z
    tops = ⊎_elim
        (λ u. (x, r_same, record { told = inl ((u.0, (u.2, u.3)), refl) }))
        (λ u. (record x { own = topped x.own pool }, sinks (λ c is. u.0 c is), record { told = inr (λ c own. u.1 c own.0 own.1, refl) }))
        (whose k s r x.own.number pool may.inside (r.account.tenancy.holder pool) refl)
      where
        r_same : Rule k record { words = s.words; homes = s.homes; views = set s.views id (one k hist x) }
        r_same = let w = (my_good k s r id hist x at).sweeps in sweeps_rule k s r id hist x at x.own.swept x.seen.share.reaping x.seen.share.swept record { listed = w.listed; places = w.places; anew = w.anew; reaps = w.reaps; below = w.below }

pub void_may : (k : Config) (x : DomainView) → Returns k x → MayStore k x 6 0 ListVoided
void_may k x returns fits slots id hist s r _ at _ = (one k hist (record x { seen = record x.seen { listing = Some no_listing } }), keeps, tt, void_rule k s r id hist x at returns, (refl, refl))

pub void_closes : (k : Config) (x : DomainView) → Closes k x 0 ListVoided CanLeave Leaves
void_closes k x = leaves_closes k x 0 ListVoided (λ y told. ap (λ (z : DomainView). z.own) told) (λ y told. front_same x y (ap (λ (z : DomainView). z.seen.front) told))

pub top_may : (k : Config) (x : DomainView) (word pool : ℕ) → TopMay k x word pool → MayStep k x word (λ n. n) (TopTold pool)
top_may k x word pool may fits slots id hist s r _ at _ =
    let o = tops k s r id hist x at may.returns word pool may in
    (one k hist o.0, keeps, tt, unmoved k s word (set s.views id (one k hist o.0)) o.1, (subst (λ (n : ℕ). TopTold pool x (get_or s.words n 0) o.0) (sym may.word) o.2, refl))
