-- Where domains stand in the phases, and what follows of how they stand beside each other.
use Rattle.std.proofs.Common.{◌≡◌, ◌≢◌, ℕ, true, List, [], ◌∷◌, ◌++◌, ◌+◌, ◌*◌, sym, ap, ◌∙◌, subst, arith, ⊎_elim}
use Rattle.model_core.specs.declared.entry.Entry.{Entry}
use Rattle.model_core.specs.Fronts.{is_call}
use Rattle.model_core.proofs.Histories.FrontLemmas.{unseen_push}
use Rattle.heap_rule.specs.declared.view.DomainView.{DomainView}
use Rattle.heap_rule.specs.declared.phase.Kind.{Kind}
use Rattle.heap_rule.specs.declared.phase.Kind.TheVariants.{Run, Promote}
use Rattle.heap_rule.specs.declared.phase.Stage.{Stage}
use Rattle.heap_rule.specs.declared.phase.Stage.TheVariants.{In, Leads, Led, Gone}
use Rattle.heap_rule.specs.Copies.{Promoting, Resetting, IsEmptying}
use Rattle.heap_rule.specs.Phases.{Pause, IsEven, IsOdd, AtStage, Staged, IsInPause, Agree, Still}

-- two domains that have not arrived are in phases of one kind, and none runs beside an odd phase
pub half_same : (i j n : ℕ) → n ≡ i * 2 → n ≡ j * 2 → i ≡ j
half_same i j n e f = omega arith

pub odd_same : (i j n : ℕ) → n ≡ i * 2 + 1 → n ≡ j * 2 + 1 → i ≡ j
odd_same i j n e f = omega arith

pub not_both : (n : ℕ) → IsEven n → IsOdd n → ⊥
not_both n a b = let i : ℕ = a.0 in let j : ℕ = b.0 in let e : n ≡ i * 2 = a.1 in let f : n ≡ j * 2 + 1 = b.1 in omega arith

pub agree : (t : Pause) (d e a b : ℕ) (x y : Stage) → AtStage t d a x → AtStage t e b y → Agree x y
agree t d e a b (In u) (In v) p q = sym p.1.2 ∙ (ap t.kinds (half_same p.1.0 q.1.0 t.phase p.1.1 q.1.1) ∙ q.1.2)
agree t d e a b (In u) (Leads v) p q = not_both t.phase (p.1.0, p.1.1) (q.1.0, q.1.1)
agree t d e a b (In u) (Led v) p q = not_both t.phase (p.1.0, p.1.1) (q.1.0, q.1.1)
agree t d e a b (In u) (Gone v) p q = tt
agree t d e a b (Leads u) (In v) p q = not_both t.phase (q.1.0, q.1.1) (p.1.0, p.1.1)
agree t d e a b (Leads u) (Leads v) p q = sym p.1.2 ∙ (ap t.kinds (odd_same p.1.0 q.1.0 t.phase p.1.1 q.1.1) ∙ q.1.2)
agree t d e a b (Leads u) (Led v) p q = tt
agree t d e a b (Leads u) (Gone v) p q = tt
agree t d e a b (Led u) (In v) p q = not_both t.phase (q.1.0, q.1.1) (p.1.0, p.1.1)
agree t d e a b (Led u) (Leads v) p q = tt
agree t d e a b (Led u) (Led v) p q = tt
agree t d e a b (Led u) (Gone v) p q = tt
agree t d e a b (Gone u) y p q = tt

-- a domain in a phase in which entries stand excludes that anyone is in one in which none does
alone_in : (kind : Kind) → (IsInPause (In kind) → ⊥) → (y : Stage) → Agree (In kind) y → IsInPause y → ⊥
alone_in kind none (In v) a p = none (subst (λ (of : Kind). IsInPause (In of)) (sym a) p)
alone_in kind none (Leads v) a p = p
alone_in kind none (Led v) a p = p
alone_in kind none (Gone v) a p = p

pub nobody_still : (t : Pause) (x z : DomainView) (kind : Kind) → (IsInPause (In kind) → ⊥) → x.seen.stage ≡ In kind → Staged t x → Staged t z → IsInPause z.seen.stage → ⊥
nobody_still t x z kind none is sx sz paused =
    alone_in kind none z.seen.stage (agree t x.own.number z.own.number x.own.arrivals z.own.arrivals (In kind) z.seen.stage (subst (AtStage t x.own.number x.own.arrivals) is sx.stage) sz.stage) paused

pub nobody_paused : (t : Pause) (x z : DomainView) → x.seen.stage ≡ In Run → Staged t x → Staged t z → IsInPause z.seen.stage → ⊥
nobody_paused t x z runs sx sz paused = nobody_still t x z Run (λ p. p) runs sx sz paused

-- nobody runs beside a domain in another phase
nobody_runs : (t : Pause) (x z : DomainView) (kind : Kind) → ◌≢◌ {A = Stage} (In kind) (In Run) → x.seen.stage ≡ In kind → Staged t x → Staged t z → z.seen.stage ≡ In Run → ⊥
nobody_runs t x z kind other is sx sz runs =
    other (ap In (agree t x.own.number z.own.number x.own.arrivals z.own.arrivals (In kind) (In Run) (subst (AtStage t x.own.number x.own.arrivals) is sx.stage) (subst (AtStage t z.own.number z.own.arrivals) runs sz.stage)))

pub gone_runs : (kind : Kind) → ◌≡◌ {A = Stage} (Gone kind) (In Run) → ⊥
gone_runs kind e = cc

pub led_runs : (kind : Kind) → ◌≡◌ {A = Stage} (Led kind) (In Run) → ⊥
led_runs kind e = cc

-- beside a domain that appends an entry in a pause nothing is asked
pub nobody_else_still : (log : List Entry) (t : Pause) (x z : DomainView) (kind : Kind) → (IsInPause (In kind) → ⊥) → ◌≢◌ {A = Stage} (In kind) (In Run) → x.seen.stage ≡ In kind → Staged t x → Staged t z → Still log z
nobody_else_still log t x z kind none other is sx sz = (λ paused. absurd (nobody_still t x z kind none is sx sz paused), λ runs. absurd (nobody_runs t x z kind other is sx sz runs))

-- and one that runs appends an entry of its own
pub called_still : (log : List Entry) (t : Pause) (x z : DomainView) (e : Entry) → is_call e ≡ true → x.seen.stage ≡ In Run → Staged t x → Staged t z → Still log z → Still (log ++ e ∷ []) z
called_still log t x z e call runs sx sz st = (λ paused. absurd (nobody_paused t x z runs sx sz paused), λ is. unseen_push is_call log z.seen.front e (st.1 is) call)

-- a domain stands where it stood
pub staged_as : (t : Pause) (x y : DomainView) → y.own.number ≡ x.own.number → y.own.arrivals ≡ x.own.arrivals → y.seen.stage ≡ x.seen.stage → Staged t x → Staged t y
staged_as t x y number arrivals stage s = record {
  arrivals = arrivals ∙ (s.arrivals ∙ ap t.arrived (sym number));
  stage = subst (λ (z : ℕ × ℕ × Stage). AtStage t z.0 z.1 z.2) (λ i. (sym number i, sym arrivals i, sym stage i)) s.stage;
}

-- the kinds of the phase in hand
pub kind_differs : (t : Pause) (i j : ℕ) (n : ℕ) (a b : Kind) → n ≡ i * 2 → n ≡ j * 2 → t.kinds i ≡ a → t.kinds j ≡ b → a ≡ b
kind_differs t i j n a b e f g h = sym g ∙ (ap t.kinds (half_same i j n e f) ∙ h)

pub run_promoting : (t : Pause) (x : DomainView) → x.seen.stage ≡ In Run → Staged t x → Promoting t → ⊥
run_promoting t x runs s p = let a = (subst (AtStage t x.own.number x.own.arrivals) runs s.stage).1 in let e : Run ≡ Promote = kind_differs t a.0 p.0 t.phase Run Promote a.1 p.1 a.2 p.2 in cc

pub run_resetting : (t : Pause) (x : DomainView) → x.seen.stage ≡ In Run → Staged t x → Resetting t → ⊥
run_resetting t x runs s p = let a = (subst (AtStage t x.own.number x.own.arrivals) runs s.stage).1 in ⊎_elim
    (λ (h : (j : ℕ) × (t.phase ≡ j * 2 + 1) × (t.kinds j ≢ Run)). not_both t.phase (a.0, a.1) (h.0, h.1))
    (λ (g : (j : ℕ) × (t.phase ≡ j * 2) × IsEmptying (t.kinds j)). g.2.0 (ap t.kinds (half_same g.0 a.0 t.phase g.1 a.1) ∙ a.2))
    p

pub promote_now : (t : Pause) (x : DomainView) → x.seen.stage ≡ In Promote → Staged t x → Promoting t
promote_now t x is s = (subst (AtStage t x.own.number x.own.arrivals) is s.stage).1

pub promote_here : (t : Pause) (x : DomainView) → x.seen.stage ≡ In Promote → Staged t x → x.own.arrivals ≡ t.phase
promote_here t x is s = (subst (AtStage t x.own.number x.own.arrivals) is s.stage).0

pub promote_rests : (t : Pause) → Promoting t → Resetting t → ⊥
promote_rests t a p = ⊎_elim
    (λ (h : (j : ℕ) × (t.phase ≡ j * 2 + 1) × (t.kinds j ≢ Run)). not_both t.phase (a.0, a.1) (h.0, h.1))
    (λ (g : (j : ℕ) × (t.phase ≡ j * 2) × IsEmptying (t.kinds j)). g.2.1 (ap t.kinds (half_same g.0 a.0 t.phase g.1 a.1) ∙ a.2))
    p
