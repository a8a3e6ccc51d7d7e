-- The token after a step: its plain data is again that of its seat's view.
use Rattle.std.proofs.Common.{◌≡◌, ℕ, List, [], ◌∷◌, sym, ap, ◌∙◌, subst, inl}
use Rattle.atomic_table.specs.Table.{Me, Allows}
use Rattle.model_core.specs.declared.entry.Entry.{Entry}
use Rattle.model_core.specs.Fronts.{IsFrontOf}
use Rattle.model_core.proofs.Histories.FrontLemmas.{front_whole}
use Rattle.heap_rule.specs.declared.config.Config.{Config}
use Rattle.heap_rule.specs.declared.view.Own.{Own}
use Rattle.heap_rule.specs.declared.view.DomainView.{DomainView}
use Rattle.heap_rule.specs.declared.view.View.{View}
use Rattle.heap_rule.specs.Raw.{MayStep, MayStore, CanLeave, Leaves, Closes}
use Rattle.heap_rule.specs.Rule.{Rule}
use Rattle.heap_rule.specs.Views.{Tells, domain_in, one}
use Rattle.heap_rule.specs.Token.{SharedHeap, Token, IsIn, IsSeatOf, OwnFits}

-- What the opening of a heap and of a token says: `over` and `inside` are what their fields show, and `h` and `t` what the caller sees
pub record Opened (over h : SharedHeap) (inside t : Token) (m : Me (Unit {0}) View) : Type 0 where
  pub heap : over ≡ h
  pub token : inside ≡ t
  pub here : IsIn t h
  pub seat : IsSeatOf inside.config inside.view m

-- the token's view with other plain data, as its seat knows it
abbrev pub view_after : Own → Me (Unit {0}) View → DomainView
view_after own m = record { own = own; seen = (domain_in m.0.domains).seen }

module _ (over h : SharedHeap) (inside t : Token) (m : Me (Unit {0}) View) (o : Opened over h inside t m) where
  config_is : inside.config ≡ over.config
  config_is = ap (λ (x : Token). x.config) o.token ∙ (o.here.1 ∙ sym (ap (λ (x : SharedHeap). x.config) o.heap))

  pub view_is : inside.view ≡ t.view
  view_is = ap (λ (x : Token). x.view) o.token

  -- the seat's view, by the key of the table
  pub at_view : m ≡ (one over.config m.0.history inside.view, [])
  at_view = o.seat.seat ∙ ap (λ (k : Config). (one k m.0.history inside.view, [])) config_is

  -- the plain data fits before the step
  before : OwnFits over.config inside.view.own
  before = subst (λ (k : Config). OwnFits k inside.view.own) config_is o.seat.fits

  -- what the caller showed of the token is so of its fields
  asked : (may : Config → DomainView → Type 0) → may h.config t.view → may over.config inside.view
  asked may is = subst (λ (x : Config × DomainView). may x.0 x.1) (λ i. (sym (ap (λ (x : SharedHeap). x.config) o.heap) i, sym view_is i)) is

  -- a telling closes where it says what becomes of the plain data
  closes : (tells : DomainView → ℕ → DomainView → Type 0) (m' : Me (Unit {0}) View) (found : ℕ) (own : Own) → Tells tells m found m'
      → ((y : DomainView) → tells inside.view found y → (y.own ≡ own) × OwnFits over.config y.own)
      → IsSeatOf inside.config (view_after own m') m' × tells t.view found (view_after own m')
  closes tells m' found own told plain =
      let y : DomainView = domain_in m'.0.domains in
      let before_is : domain_in m.0.domains ≡ inside.view = ap (λ (n : Me (Unit {0}) View). domain_in n.0.domains) o.seat.seat in
      let says : tells inside.view found y = subst (λ (x : DomainView). tells x found y) before_is told.0 in
      let data_is = plain y says in
      let is : y ≡ view_after own m' = λ i. record { own = data_is.0 i; seen = y.seen } in
      let fits : OwnFits inside.config own = subst (λ (x : Config × Own). OwnFits x.0 x.1) (λ i. (sym config_is i, data_is.0 i)) data_is.1 in
      let config_after : m'.0.config ≡ inside.config = ap (λ (n : Me (Unit {0}) View). n.0.config) told.1 ∙ ap (λ (n : Me (Unit {0}) View). n.0.config) o.seat.seat in
      let domains_after : m'.0.domains ≡ view_after own m' ∷ [] = ap (λ (n : Me (Unit {0}) View). n.0.domains) told.1 ∙ ap (λ (x : DomainView). x ∷ []) is in
      let empty : m'.1 ≡ [] = ap (λ (n : Me (Unit {0}) View). n.1) told.1 ∙ ap (λ (n : Me (Unit {0}) View). n.1) o.seat.seat in (
        record {
          seat = λ i. (record { config = config_after i; history = m'.0.history; domains = domains_after i }, empty i);
          limits = o.seat.limits;
          fits = fits;
        },
        subst (λ (x : DomainView × DomainView). tells x.0 found x.1) (λ i. (view_is i, is i)) says,
      )

  -- the rule allows the seat what it allows every seat of the domain
  pub step_allowed : (slots id word : ℕ) (f : ℕ → ℕ) (tells : DomainView → ℕ → DomainView → Type 0) → MayStep h.config t.view word f tells → Allows (Rule over.config) slots id m word f (Tells tells m)
  step_allowed slots id word f tells may =
      subst (λ (n : Me (Unit {0}) View). Allows (Rule over.config) slots id n word f (Tells tells n)) (sym at_view) (asked (λ k x. MayStep k x word f tells) may before slots id m.0.history)

  pub store_allowed : (slots id word new : ℕ) (tells : DomainView → ℕ → DomainView → Type 0) → MayStore h.config t.view word new tells
      → Allows (Rule over.config) slots id m word (λ _. new) (λ _. Tells tells m new)
  store_allowed slots id word new tells may =
      subst (λ (n : Me (Unit {0}) View). Allows (Rule over.config) slots id n word (λ _. new) (λ _. Tells tells n new)) (sym at_view) (asked (λ k x. MayStore k x word new tells) may before slots id m.0.history)

  -- the plain data can be written
  pub can_write : (found : ℕ) (tells : DomainView → ℕ → DomainView → Type 0) (can : Own → Type 0) (writes : Own → Own → Type 0) (m' : Me (Unit {0}) View) → Closes h.config t.view found tells can writes → Tells tells m found m' → can inside.view.own
  can_write found tells can writes m' asks told =
      let before_is : domain_in m.0.domains ≡ inside.view = ap (λ (n : Me (Unit {0}) View). domain_in n.0.domains) o.seat.seat in
      let y : DomainView = domain_in m'.0.domains in
      (asked (λ k x. Closes k x found tells can writes) asks y before (subst (λ (x : DomainView). tells x found y) before_is told.0)).can_write

  -- and once it is, the token closes
  pub written_closes : (found : ℕ) (tells : DomainView → ℕ → DomainView → Type 0) (can : Own → Type 0) (writes : Own → Own → Type 0) (m' : Me (Unit {0}) View) (own : Own) → Closes h.config t.view found tells can writes → Tells tells m found m'
      → writes inside.view.own own → IsSeatOf inside.config (view_after own m') m' × tells t.view found (view_after own m')
  written_closes found tells can writes m' own asks told wrote = closes tells m' found own told (λ y says.
      let s = asked (λ k x. Closes k x found tells can writes) asks y before says in (s.written own wrote, s.fits))

-- a front that stays
pub front_same : (x y : DomainView) → y.seen.front ≡ x.seen.front → IsFrontOf x.own.number y.seen.front x.seen.front
front_same x y same = subst (λ (f : List Entry). IsFrontOf x.own.number f x.seen.front) (sym same) (front_whole x.own.number x.seen.front)

-- a step that leaves the plain data closes
pub leaves_closes : (k : Config) (x : DomainView) (found : ℕ) (tells : DomainView → ℕ → DomainView → Type 0) → ((y : DomainView) → tells x found y → y.own ≡ x.own) → ((y : DomainView) → tells x found y → IsFrontOf x.own.number y.seen.front x.seen.front)
    → Closes k x found tells CanLeave Leaves
leaves_closes k x found tells same front y fits told = record {
  can_write = tt;
  written = λ own is. same y told ∙ sym is;
  fits = subst (OwnFits k) (sym (same y told)) fits;
  once = λ _. inl (record { front = front y told; registers = ap (λ (o : Own). o.registers) (same y told); used = ap (λ (o : Own). o.used) (same y told); serial = ap (λ (o : Own). o.serial) (same y told) });
}
