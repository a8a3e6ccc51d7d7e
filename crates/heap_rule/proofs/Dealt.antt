-- The first seat is cut domain by domain.
use Rattle.std.proofs.Common.{◌≡◌, ℕ, suc, ◌+◌, ◌-◌, ◌<◌, List, [], ◌∷◌, ◌++◌, sym, ap, ◌∙◌, subst, arith, append_assoc}
use Rattle.atomic_table.specs.Table.{Me, Splits}
use Rattle.atomic_table.specs.Seated.{TableId}
use Rattle.heap_rule.specs.declared.config.Config.{Config}
use Rattle.heap_rule.specs.declared.view.View.{View}
use Rattle.heap_rule.specs.Views.{opening_view, opening_views, one, cut_left, cut_right, first_view}
use Rattle.heap_rule.specs.Rule.{Rule}
use Rattle.heap_rule.specs.Token.{Token}
use Rattle.heap_rule.specs.Opening.{opening_token, opening_tokens}
use Rattle.heap_rule.proofs.Seats.{splits}

abbrev pub left_over : Config → ℕ → ℕ → Me (Unit {0}) View
left_over k i n = (record { config = k; history = []; domains = opening_views k i n }, [])

one_less : (i n : ℕ) → i < n → n - i ≡ suc (n - (i + 1))
one_less i n h = omega arith

pub first_is : (k : Config) (n : ℕ) (m : Me (Unit {0}) View) → n ≡ k.domains → m ≡ (first_view k, []) → m ≡ left_over k 0 (n - 0)
unfolding first_view
first_is k n m same is = is ∙ ap (left_over k 0) (let e : k.domains ≡ n - 0 = omega arith in e)

pub is_left : (k : Config) (i n : ℕ) (m : Me (Unit {0}) View) → i < n → m ≡ left_over k i (n - i) → m ≡ left_over k i (suc (n - (i + 1)))
is_left k i n m h e = e ∙ ap (left_over k i) (one_less i n h)

pub left_after : (k : Config) (i n : ℕ) (m m' : Me (Unit {0}) View) → i < n → m ≡ left_over k i (n - i) → m' ≡ (cut_left m.0, m.1) → m' ≡ left_over k (i + 1) (n - (i + 1))
left_after k i n m m' h is after = after ∙ ap (λ (x : Me (Unit {0}) View). (cut_left x.0, x.1)) (is_left k i n m h is)

pub right_after : (k : Config) (i n : ℕ) (m m' : Me (Unit {0}) View) → i < n → m ≡ left_over k i (n - i) → m' ≡ (cut_right m.0, []) → m' ≡ (one k [] (opening_view k i), [])
right_after k i n m m' h is after = after ∙ ap (λ (x : Me (Unit {0}) View). (cut_right x.0, [])) (is_left k i n m h is)

pub may_split : (k : Config) (i n id : ℕ) (m : Me (Unit {0}) View) → i < n → m ≡ left_over k i (n - i) → Splits (Rule k) id m.0 (cut_left m.0) (cut_right m.0)
may_split k i n id m h is = subst (λ (x : Me (Unit {0}) View). Splits (Rule k) id x.0 (cut_left x.0) (cut_right x.0)) (sym (is_left k i n m h is)) (splits k id [] (opening_view k i) (opening_views k (i + 1) (n - (i + 1))))

pub dealt : (t : TableId) (k : Config) (i n : ℕ) (done done' : List Token) (x : Token) → i < n → done ++ opening_tokens t k i (n - i) ≡ opening_tokens t k 0 n → x ≡ opening_token t k i → done' ≡ done ++ x ∷ []
    → done' ++ opening_tokens t k (i + 1) (n - (i + 1)) ≡ opening_tokens t k 0 n
dealt t k i n done done' x h so is now =
    let rest : List Token = opening_tokens t k (i + 1) (n - (i + 1)) in
    ap (λ (l : List Token). l ++ rest) (now ∙ ap (λ (y : Token). done ++ y ∷ []) is) ∙ (append_assoc done (opening_token t k i ∷ []) rest ∙ (ap (λ (m : ℕ). done ++ opening_tokens t k i m) (sym (one_less i n h)) ∙ so))
