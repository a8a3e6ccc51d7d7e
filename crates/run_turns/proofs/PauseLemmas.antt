-- What a domain keeps as it goes through the phases of a pause.
use Rattle.std.proofs.Common.{◌≡◌, ◌≢◌, ◌∙◌, ℕ, ◌+◌, ◌*◌, ◌<◌, ◌⊎◌, true, List, refl, sym, ap, subst, inl, inr, ⊎_elim, arith}
use mathlib.Core.Logic.{dite}
use native.Mathlib.Decide.{ℕ_discrete}
use Rattle.heap_words.specs.Remembered.Bounded.{Bounded}
use Rattle.model_core.specs.declared.entry.Entry.{Entry}
use Rattle.model_core.specs.declared.state.Mode.{Mode}
use Rattle.model_core.specs.declared.state.Mode.TheVariants.{Open, Sealed, Answer as Answered}
use Rattle.model_core.specs.Domains.{domain_at}
use Rattle.model_core.specs.Fronts.{IsFrontOf}
use Rattle.model_core.proofs.Histories.FreshLemmas.{fresh_stays, fresh_after_answer}
use Rattle.heap_words.specs.declared.value.Value.{Value}
use Rattle.heap_rule.specs.declared.config.Config.{Config}
use Rattle.heap_rule.specs.declared.phase.Kind.{Kind}
use Rattle.heap_rule.specs.declared.phase.Kind.TheVariants.{Run, Promote, Reset, Roots, Mark, Rounds, Decide, Queued, Clean, Lasts, Sweep, Answer}
use Rattle.heap_rule.specs.declared.view.DomainView.{DomainView}
use Rattle.heap_rule.specs.declared.view.Share.{Share}
use Rattle.heap_rule.specs.Changes.{value_at}
use Rattle.heap_rule.specs.Copies.{IsOldValue, IsEmptying}
use Rattle.heap_rule.specs.Finalisers.{RefersOld}
use Rattle.heap_rule.specs.Limits.{sizes_in}
use Rattle.heap_rule.specs.Phases.{Follows, Comes, IsEven, IsOdd}
use Rattle.heap_rule.specs.Rule.{state_of}
use Rattle.heap_rule.specs.Running.{RemembersAll}
use Rattle.heap_rule.specs.Views.{voided}
use Rattle.step_pauses.specs.Pauses.{arrived_view, IsModeOf}
use Rattle.step_promote.specs.Promotion.{reset_view}
use Rattle.gc_copy.specs.Sharing.{Unprepared}
use Rattle.gc_pause.specs.Stops.Looks.{PassedBarrier}
use Rattle.gc_pause.specs.Phases.Sharing.{SharesIn, with_shared}
use Rattle.run_turns.specs.Tries.{IsFresh}
use Rattle.run_turns.specs.Pausing.{HasNothingPending, IsPast, IsReady, HasLeft, KnowsAnswer, LeavesPromote, LeavesEven, IsCollected}

pub not_both : (n : ℕ) → IsEven n → IsOdd n → ⊥
not_both n a b = let i : ℕ = a.0 in let j : ℕ = b.0 in let e : n ≡ i * 2 = a.1 in let f : n ≡ j * 2 + 1 = b.1 in omega arith

pub even_next : (n : ℕ) → IsEven n → IsOdd (n + 1)
even_next n a = (a.0, let i : ℕ = a.0 in let e : n ≡ i * 2 = a.1 in omega arith)

pub odd_next : (n : ℕ) → IsOdd n → IsEven (n + 1)
odd_next n a = (a.0 + 1, let i : ℕ = a.0 in let e : n ≡ i * 2 + 1 = a.1 in omega arith)

pub promote_run : Promote ≢ Run
promote_run e = cc

pub reset_run : Reset ≢ Run
reset_run e = cc

sweep_clean : Sweep ≢ Clean
sweep_clean e = cc

sweep_decide : Sweep ≢ Decide
sweep_decide e = cc

sweep_lasts : Sweep ≢ Lasts
sweep_lasts e = cc

-- which kind lies before
pub before_promote : (a : Kind) → Follows a Promote → a ≡ Run
before_promote Run f = refl
before_promote Promote f = let e : Promote ≡ Reset = f in cc
before_promote Reset f = ⊎_elim (λ (e : Promote ≡ Run). cc) (⊎_elim (λ (e : Promote ≡ Roots). cc) (⊎_elim (λ (e : Promote ≡ Mark). cc) (λ (e : Promote ≡ Sweep). cc))) f
before_promote Roots f = ⊎_elim (λ (e : Promote ≡ Mark). cc) (λ (e : Promote ≡ Run). cc) f
before_promote Mark f = ⊎_elim (λ (e : Promote ≡ Mark). cc) (λ (e : Promote ≡ Rounds). cc) f
before_promote Rounds f = ⊎_elim (λ (e : Promote ≡ Mark). cc) (⊎_elim (λ (e : Promote ≡ Decide). cc) (λ (e : Promote ≡ Clean). cc)) f
before_promote Decide f = let e : Promote ≡ Queued = f in cc
before_promote Queued f = ⊎_elim (λ (e : Promote ≡ Mark). cc) (λ (e : Promote ≡ Clean). cc) f
before_promote Clean f = let e : Promote ≡ Lasts = f in cc
before_promote Lasts f = ⊎_elim (λ (e : Promote ≡ Sweep). cc) (λ (e : Promote ≡ Run). cc) f
before_promote Sweep f = ⊎_elim (λ (e : Promote ≡ Run). cc) (⊎_elim (λ (e : Promote ≡ Answer). cc) (λ (e : Promote ≡ Roots). cc)) f
before_promote Answer f = let e : Promote ≡ Run = f in cc

pub before_reset : (a : Kind) → Follows a Reset → a ≡ Promote
before_reset Run f = let e : Reset ≡ Promote = f in cc
before_reset Promote f = refl
before_reset Reset f = ⊎_elim (λ (e : Reset ≡ Run). cc) (⊎_elim (λ (e : Reset ≡ Roots). cc) (⊎_elim (λ (e : Reset ≡ Mark). cc) (λ (e : Reset ≡ Sweep). cc))) f
before_reset Roots f = ⊎_elim (λ (e : Reset ≡ Mark). cc) (λ (e : Reset ≡ Run). cc) f
before_reset Mark f = ⊎_elim (λ (e : Reset ≡ Mark). cc) (λ (e : Reset ≡ Rounds). cc) f
before_reset Rounds f = ⊎_elim (λ (e : Reset ≡ Mark). cc) (⊎_elim (λ (e : Reset ≡ Decide). cc) (λ (e : Reset ≡ Clean). cc)) f
before_reset Decide f = let e : Reset ≡ Queued = f in cc
before_reset Queued f = ⊎_elim (λ (e : Reset ≡ Mark). cc) (λ (e : Reset ≡ Clean). cc) f
before_reset Clean f = let e : Reset ≡ Lasts = f in cc
before_reset Lasts f = ⊎_elim (λ (e : Reset ≡ Sweep). cc) (λ (e : Reset ≡ Run). cc) f
before_reset Sweep f = ⊎_elim (λ (e : Reset ≡ Run). cc) (⊎_elim (λ (e : Reset ≡ Answer). cc) (λ (e : Reset ≡ Roots). cc)) f
before_reset Answer f = let e : Reset ≡ Run = f in cc

pub before_answer : (a : Kind) → Follows a Answer → a ≡ Sweep
before_answer Run f = let e : Answer ≡ Promote = f in cc
before_answer Promote f = let e : Answer ≡ Reset = f in cc
before_answer Reset f = ⊎_elim (λ (e : Answer ≡ Run). cc) (⊎_elim (λ (e : Answer ≡ Roots). cc) (⊎_elim (λ (e : Answer ≡ Mark). cc) (λ (e : Answer ≡ Sweep). cc))) f
before_answer Roots f = ⊎_elim (λ (e : Answer ≡ Mark). cc) (λ (e : Answer ≡ Run). cc) f
before_answer Mark f = ⊎_elim (λ (e : Answer ≡ Mark). cc) (λ (e : Answer ≡ Rounds). cc) f
before_answer Rounds f = ⊎_elim (λ (e : Answer ≡ Mark). cc) (⊎_elim (λ (e : Answer ≡ Decide). cc) (λ (e : Answer ≡ Clean). cc)) f
before_answer Decide f = let e : Answer ≡ Queued = f in cc
before_answer Queued f = ⊎_elim (λ (e : Answer ≡ Mark). cc) (λ (e : Answer ≡ Clean). cc) f
before_answer Clean f = let e : Answer ≡ Lasts = f in cc
before_answer Lasts f = ⊎_elim (λ (e : Answer ≡ Sweep). cc) (λ (e : Answer ≡ Run). cc) f
before_answer Sweep f = refl
before_answer Answer f = let e : Answer ≡ Run = f in cc

-- each other kind comes after one in which nothing lives in minor areas any more
pub before_else : (a kind : Kind) → Follows a kind → kind ≢ Promote → kind ≢ Reset → IsEmptying a
before_else Run kind f other _ = absurd (other f)
before_else Promote kind f _ other = absurd (other f)
before_else Reset kind f _ _ = (λ e. cc, λ e. cc)
before_else Roots kind f _ _ = (λ e. cc, λ e. cc)
before_else Mark kind f _ _ = (λ e. cc, λ e. cc)
before_else Rounds kind f _ _ = (λ e. cc, λ e. cc)
before_else Decide kind f _ _ = (λ e. cc, λ e. cc)
before_else Queued kind f _ _ = (λ e. cc, λ e. cc)
before_else Clean kind f _ _ = (λ e. cc, λ e. cc)
before_else Lasts kind f _ _ = (λ e. cc, λ e. cc)
before_else Sweep kind f _ _ = (λ e. cc, λ e. cc)
before_else Answer kind f _ _ = (λ e. cc, λ e. cc)

-- who has made no entry since a complete collection still has made none
pub fresh_on : (k : Config) (x y : DomainView) → y.own.number ≡ x.own.number → IsFrontOf x.own.number y.seen.front x.seen.front → IsFresh k x → IsFresh k y
fresh_on k x y number front is = subst (λ (d : ℕ). (domain_at (state_of k y.seen.front) d).fresh ≡ true) (sym number) (fresh_stays (sizes_in k) x.own.number x.seen.front y.seen.front front is)

mode_cases : (m : Mode) → (m ≡ Answered) ⊎ (m ≢ Answered)
mode_cases Answered = inl refl
mode_cases _ = inr (λ e. cc)

pub answer_on : (k : Config) (x y : DomainView) → x.own.number < k.domains → y.own.number ≡ x.own.number → IsFrontOf x.own.number y.seen.front x.seen.front → KnowsAnswer k x → KnowsAnswer k y
answer_on k x y inside number front knows mode = ⊎_elim
    (λ (was : (state_of k x.seen.front).mode ≡ Answered). fresh_on k x y number front (knows was))
    (λ (was : (state_of k x.seen.front).mode ≢ Answered). subst (λ (d : ℕ). (domain_at (state_of k y.seen.front) d).fresh ≡ true) (sym number) (fresh_after_answer (sizes_in k) x.own.number x.seen.front y.seen.front inside front was mode))
    (mode_cases (state_of k x.seen.front).mode)

-- what a domain remembers and holds is as it was, and its lists of finalisers refer to nothing new
pub record Keeps (x y : DomainView) : Type 0 where
  pub seen : y.seen.remembered ≡ x.seen.remembered
  pub own : y.own.remembered ≡ x.own.remembered
  pub registers : y.own.registers ≡ x.own.registers
  pub used : y.own.used ≡ x.own.used
  pub held : (k : Config) → RefersOld k x.own.finalisers → RefersOld k y.own.finalisers

-- then so is what a phase left of it, once it has forgotten what it knew of the phase
pub past_as : (k : Config) (kind : Kind) (x y : DomainView) → Keeps x y → y.seen.share ≡ voided y.seen.share → (kind ≡ Sweep → KnowsAnswer k y) → IsPast k kind x → IsPast k kind y
past_as k kind x y s void answer p = record {
  remembers = λ e. s.seen ∙ (p.remembers e ∙ ap (λ (b : Bounded ℕ). b.items) (sym s.own));
  looked_through = λ e. s.seen ∙ p.looked_through e;
  holds_old = λ e. (λ r few. subst (λ (l : List Value). IsOldValue k (value_at l r)) (sym s.registers) ((p.holds_old e).0 r few), s.held k (p.holds_old e).1);
  emptied = λ e. s.used ∙ p.emptied e;
  forgotten = λ e. ap (λ (b : Bounded ℕ). b.items) s.own ∙ p.forgotten e;
  void = void;
  answer = answer;
}

-- a view by which nothing else was changed
pub keeps_as : (x y z : DomainView) → y ≡ z → z.seen.remembered ≡ x.seen.remembered → z.own.remembered ≡ x.own.remembered → z.own.registers ≡ x.own.registers → z.own.used ≡ x.own.used → ((k : Config) → RefersOld k x.own.finalisers → RefersOld k z.own.finalisers) → Keeps x y
keeps_as x y z is seen own registers used held = record {
  seen = ap (λ (v : DomainView). v.seen.remembered) is ∙ seen;
  own = ap (λ (v : DomainView). v.own.remembered) is ∙ own;
  registers = ap (λ (v : DomainView). v.own.registers) is ∙ registers;
  used = ap (λ (v : DomainView). v.own.used) is ∙ used;
  held = λ k old. subst (λ (v : DomainView). RefersOld k v.own.finalisers) (sym is) (held k old);
}

-- the lists of finalisers are as they were
pub same_held : (x : DomainView) (k : Config) → RefersOld k x.own.finalisers → RefersOld k x.own.finalisers
same_held x k old = old

-- what was forgotten
pub void_as : (s t : Share) → s ≡ t → t ≡ voided t → s ≡ voided s
void_as s t is void = is ∙ (void ∙ ap voided (sym is))

-- who has arrived has forgotten all
pub arrived_void : (y z : DomainView) → y ≡ arrived_view z → y.seen.share ≡ voided y.seen.share
arrived_void y z is = void_as y.seen.share (arrived_view z).seen.share (ap (λ (v : DomainView). v.seen.share) is) refl

pub looked_past : (k : Config) (kind : Kind) (x y : DomainView) → x.own.number < k.domains → PassedBarrier k x y → IsPast k kind x → IsPast k kind y
looked_past k kind x y inside p past = past_as k kind x y (keeps_as x y _ p.view refl refl refl refl (same_held x)) (void_as y.seen.share x.seen.share (ap (λ (z : DomainView). z.seen.share) p.view) past.void)
    (λ e. answer_on k x y inside (ap (λ (z : DomainView). z.own.number) p.view) p.seen (past.answer e)) past

pub quiet_as : (x y : DomainView) → y.seen.copying ≡ x.seen.copying → y.own.pending ≡ x.own.pending → y.own.prepared ≡ x.own.prepared → y.seen.share.weak ≡ x.seen.share.weak → HasNothingPending x → HasNothingPending y
quiet_as x y copying pending prepared weak q = record {
  quiet = copying ∙ q.quiet;
  no_copies = ap (λ (b : Bounded _). b.items) pending ∙ q.no_copies;
  unprepared = λ class few. ap (λ l. Rattle.heap_rule.specs.Pools.prepared_at l class) prepared ∙ q.unprepared class few;
  paid = weak ∙ q.paid;
}

pub looked_quiet : (k : Config) (x y : DomainView) → PassedBarrier k x y → HasNothingPending x → HasNothingPending y
looked_quiet k x y p q = quiet_as x y (ap (λ (z : DomainView). z.seen.copying) p.view) (ap (λ (z : DomainView). z.own.pending) p.view) (ap (λ (z : DomainView). z.own.prepared) p.view) (ap (λ (z : DomainView). z.seen.share.weak) p.view) q

-- the phase before the one that has begun
pub ready_next : (k : Config) (known kind : Kind) (x y : DomainView) → x.own.number < k.domains → HasLeft k known x → PassedBarrier k x y → IsEven x.own.arrivals → Comes x.own.number known kind → IsModeOf kind (state_of k y.seen.front).mode → IsReady k kind y
ready_next k known kind x y inside left p even comes mode = dite (ℕ_discrete x.own.number 0)
    (λ first.
    let r = left.ready even first in record {
      before = r.before;
      follows = subst (Follows r.before) (sym (comes.0 first)) r.follows;
      past = looked_past k r.before x y inside p r.past;
      fresh = λ e. fresh_on k x y (ap (λ (z : DomainView). z.own.number) p.view) p.seen (r.fresh (sym (comes.0 first) ∙ e));
    })
    (λ other.
    let past = looked_past k known x y inside p (left.past (inr other)) in record {
      before = known;
      follows = comes.1 other;
      past = past;
      fresh = λ e. past.answer (before_answer known (subst (Follows known) e (comes.1 other))) (subst (λ (c : Kind). IsModeOf c (state_of k y.seen.front).mode) e mode);
    })

pub run_ready : (k : Config) (x : DomainView) → IsReady k Run x → IsCollected k x
run_ready k x r =
    let none = before_else r.before Run r.follows (λ e. cc) (λ e. cc) in
    record { emptied = r.past.emptied none; forgotten = r.past.forgotten none; looked_through = r.past.looked_through none.0; holds_old = r.past.holds_old none.0 }

pub promote_ready : (k : Config) (x : DomainView) → IsReady k Promote x → RemembersAll x
promote_ready k x r = r.past.remembers (before_promote r.before r.follows)

pub reset_ready : (k : Config) (x : DomainView) → IsReady k Reset x → IsPast k Promote x
reset_ready k x r = subst (λ (kind : Kind). IsPast k kind x) (before_reset r.before r.follows) r.past

-- after its share of a phase
promote_past : (k : Config) (x y : DomainView) → LeavesPromote k x y → IsPast k Promote y
promote_past k x y l = subst (IsPast k Promote) (sym l.view) (record {
  remembers = λ e. absurd (promote_run e);
  looked_through = λ _. l.shared.looked_through;
  holds_old = λ _. l.shared.holds_old;
  emptied = λ e. absurd (e.1 refl);
  forgotten = λ e. absurd (e.1 refl);
  void = refl;
  answer = λ e. cc;
})

reset_past : (k : Config) (x : DomainView) → IsPast k Promote x → IsPast k Reset (arrived_view (reset_view x))
reset_past k x p = record {
  remembers = λ e. absurd (reset_run e);
  looked_through = λ _. p.looked_through promote_run;
  holds_old = λ _. p.holds_old promote_run;
  emptied = λ _. refl;
  forgotten = λ _. refl;
  void = refl;
  answer = λ e. cc;
}

-- after a share of a collection it has all that the phase before left of it
pub later_past : (k : Config) (kind : Kind) (x y : DomainView) → Keeps x y → y.seen.share ≡ voided y.seen.share → kind ≢ Promote → kind ≢ Reset → kind ≢ Run → (kind ≡ Sweep → KnowsAnswer k y) → IsReady k kind x → IsPast k kind y
later_past k kind x y s void promotes resets runs answer r =
    let none = before_else r.before kind r.follows promotes resets in
    record {
      remembers = λ e. absurd (runs e);
      looked_through = λ _. s.seen ∙ r.past.looked_through none.0;
      holds_old = λ _. (λ n few. subst (λ (l : List Value). IsOldValue k (value_at l n)) (sym s.registers) ((r.past.holds_old none.0).0 n few), s.held k (r.past.holds_old none.0).1);
      emptied = λ _. s.used ∙ r.past.emptied none;
      forgotten = λ _. ap (λ (b : Bounded ℕ). b.items) s.own ∙ r.past.forgotten none;
      void = void;
      answer = answer;
    }

shared_held : {k : Config} {kind : Kind} (x y : DomainView) → SharesIn k kind x y → (k : Config) → RefersOld k x.own.finalisers → RefersOld k (with_shared x y).own.finalisers
shared_held x y l k old = l.held k old

shares_past : (k : Config) (kind : Kind) (x y : DomainView) → SharesIn k kind x y → kind ≢ Promote → kind ≢ Reset → kind ≢ Run → IsModeOf kind (state_of k x.seen.front).mode → IsReady k kind x → IsPast k kind y
shares_past k kind x y l promotes resets runs mode r =
    later_past k kind x y (keeps_as x y (arrived_view (with_shared x y)) l.view refl refl refl refl (shared_held x y l)) (arrived_void y (with_shared x y) l.view) promotes resets runs
    (λ is answered. absurd (let before : (state_of k x.seen.front).mode ≡ Answered = ap (λ (front : List Entry). (state_of k front).mode) (sym (l.stays (λ (e : kind ≡ Clean). sweep_clean (sym is ∙ e)) (λ (e : kind ≡ Decide). sweep_decide (sym is ∙ e)) (λ (e : kind ≡ Lasts). sweep_lasts (sym is ∙ e)))) ∙ answered in
    ⊎_elim (λ (m : (state_of k x.seen.front).mode ≡ Open). let clash : Open ≡ Answered = sym m ∙ before in cc) (λ (m : (state_of k x.seen.front).mode ≡ Sealed). let clash : Sealed ≡ Answered = sym m ∙ before in cc)
    (subst (λ (c : Kind). IsModeOf c (state_of k x.seen.front).mode) is mode))) r

pub even_past : (k : Config) (kind : Kind) (x y : DomainView) → LeavesEven k kind x y → IsModeOf kind (state_of k x.seen.front).mode → IsReady k kind x → IsPast k kind y
even_past k Run x y l mode r = absurd l
even_past k Promote x y l mode r = promote_past k x y l
even_past k Reset x y l mode r = subst (IsPast k Reset) (sym l.view) (reset_past k x (reset_ready k x r))
even_past k Roots x y l mode r = shares_past k Roots x y l (λ e. cc) (λ e. cc) (λ e. cc) mode r
even_past k Mark x y l mode r = shares_past k Mark x y l (λ e. cc) (λ e. cc) (λ e. cc) mode r
even_past k Rounds x y l mode r = shares_past k Rounds x y l (λ e. cc) (λ e. cc) (λ e. cc) mode r
even_past k Decide x y l mode r = shares_past k Decide x y l (λ e. cc) (λ e. cc) (λ e. cc) mode r
even_past k Queued x y l mode r = shares_past k Queued x y l (λ e. cc) (λ e. cc) (λ e. cc) mode r
even_past k Clean x y l mode r = shares_past k Clean x y l (λ e. cc) (λ e. cc) (λ e. cc) mode r
even_past k Lasts x y l mode r = shares_past k Lasts x y l (λ e. cc) (λ e. cc) (λ e. cc) mode r
even_past k Sweep x y l mode r = shares_past k Sweep x y l (λ e. cc) (λ e. cc) (λ e. cc) mode r
even_past k Answer x y l mode r = absurd l

-- who has arrived is quiet
pub arrived_quiet : (x y : DomainView) → y ≡ arrived_view x → Unprepared x → HasNothingPending y
arrived_quiet x y is none = subst HasNothingPending (sym is) (record { quiet = refl; no_copies = refl; unprepared = none; paid = refl })

pub even_quiet : (k : Config) (kind : Kind) (x y : DomainView) → LeavesEven k kind x y → HasNothingPending x → HasNothingPending y
even_quiet k Run x y l q = absurd l
even_quiet k Promote x y l q = arrived_quiet l.done y l.view l.shared.unprepared
even_quiet k Reset x y l q = arrived_quiet (reset_view x) y l.view q.unprepared
even_quiet k Answer x y l q = absurd l
even_quiet k Roots x y l q = arrived_quiet (with_shared x y) y l.view q.unprepared
even_quiet k Mark x y l q = arrived_quiet (with_shared x y) y l.view q.unprepared
even_quiet k Rounds x y l q = arrived_quiet (with_shared x y) y l.view q.unprepared
even_quiet k Decide x y l q = arrived_quiet (with_shared x y) y l.view q.unprepared
even_quiet k Queued x y l q = arrived_quiet (with_shared x y) y l.view q.unprepared
even_quiet k Clean x y l q = arrived_quiet (with_shared x y) y l.view q.unprepared
even_quiet k Lasts x y l q = arrived_quiet (with_shared x y) y l.view q.unprepared
even_quiet k Sweep x y l q = arrived_quiet (with_shared x y) y l.view q.unprepared
