-- Seats are made one for a load, and cut again.
use Rattle.std.proofs.Common.{◌≡◌, ℕ, List, [], ◌∷◌, ◌++◌, length, sym, refl, ap, ◌∙◌, subst, arith}
use Rattle.atomic_table.specs.Table.{Me, Allows, Splits}
use Rattle.heap_rule.specs.declared.config.Config.{Config}
use Rattle.heap_rule.specs.declared.view.DomainView.{DomainView}
use Rattle.heap_rule.specs.declared.view.Own.{Own}
use Rattle.heap_rule.specs.declared.view.View.{View}
use Rattle.heap_rule.specs.Ending.{AllIn}
use Rattle.heap_rule.specs.Raw.{MayLoadAll, SameOwn}
use Rattle.heap_rule.specs.Rule.{Rule}
use Rattle.heap_rule.specs.Token.{Token, SharedHeap, IsIn, views_of}
use Rattle.heap_rule.specs.Views.{TellsAll, cut_left, cut_right, domain_in, one, rest_of, several}
use Rattle.heap_rule.proofs.Closes.{view_after}
use Rattle.heap_rule.proofs.Seats.{splits}

-- the rule allows a seat of these domains what it allows every one
pub may_together : (k : Config) (slots id word : ℕ) (m : Me (Unit {0}) View) (xs : List DomainView) (tells : List DomainView → ℕ → List DomainView → Type 0) → m.0.config ≡ k → m.1 ≡ [] → m.0.domains ≡ xs → MayLoadAll k xs word tells
    → Allows (Rule k) slots id m word (λ n. n) (TellsAll tells m)
may_together k slots id word m xs tells config empty domains may =
    let is : m ≡ (several k m.0.history xs, []) = λ i. (record { config = config i; history = m.0.history; domains = domains i }, empty i) in
    subst (λ (n : Me (Unit {0}) View). Allows (Rule k) slots id n word (λ n. n) (TellsAll tells n)) (sym is) (may slots id m.0.history)

-- a seat may be cut behind its first domain
pub may_cut : (k : Config) (id : ℕ) (v : View) (p : DomainView) (ps : List DomainView) → v.config ≡ k → v.domains ≡ p ∷ ps → Splits (Rule k) id v (cut_left v) (cut_right v)
may_cut k id v p ps config domains =
    let is : v ≡ several k v.history (p ∷ ps) = λ i. record { config = config i; history = v.history; domains = domains i } in
    subst (λ (u : View). Splits (Rule k) id u (cut_left u) (cut_right u)) (sym is) (splits k id v.history p ps)

-- the domain of a seat that stands for one, whose plain data is known
pub alone_view : (own : Own) (n : Me (Unit {0}) View) (p : DomainView) → n.0.domains ≡ p ∷ [] → p.own ≡ own → view_after own n ≡ p
alone_view own n p domains same = let first = ap domain_in domains in λ i. record { own = sym same i; seen = (first i).seen }

pub alone_seat : (k : Config) (own : Own) (n : Me (Unit {0}) View) (p : DomainView) → n.0.config ≡ k → n.1 ≡ [] → n.0.domains ≡ p ∷ [] → p.own ≡ own → n ≡ (one k n.0.history (view_after own n), [])
alone_seat k own n p config empty domains same =
    let alone : n.0.domains ≡ view_after own n ∷ [] = domains ∙ ap (λ (z : DomainView). z ∷ []) (sym (alone_view own n p domains same)) in
    λ i. (record { config = config i; history = n.0.history; domains = alone i }, empty i)

-- the views of tokens of which the last was taken out
pub views_snoc : (ts : List Token) (t : Token) (xs : List DomainView) → views_of (ts ++ t ∷ []) ++ xs ≡ views_of ts ++ t.view ∷ xs
views_snoc [] t xs = refl
views_snoc (u ∷ ts) t xs = ap (λ (l : List DomainView). u.view ∷ l) (views_snoc ts t xs)

pub views_last : (old new : List Token) (t : Token) (xs : List DomainView) → old ≡ new ++ t ∷ [] → views_of old ++ xs ≡ views_of new ++ t.view ∷ xs
views_last old new t xs is = ap (λ (ts : List Token). views_of ts ++ xs) is ∙ views_snoc new t xs

-- one more token at the end
pub all_in_snoc : (h : SharedHeap) (ts : List Token) (t : Token) → AllIn h ts → IsIn t h → AllIn h (ts ++ t ∷ [])
all_in_snoc h [] t all here = (here, tt)
all_in_snoc h (u ∷ ts) t all here = (all.0, all_in_snoc h ts t all.1 here)

pub own_snoc : (ts us : List Token) (t u : Token) → SameOwn (views_of ts) (views_of us) → u.view.own ≡ t.view.own → SameOwn (views_of (ts ++ t ∷ [])) (views_of (us ++ u ∷ []))
own_snoc [] [] t u same own = (own, tt)
own_snoc [] (y ∷ us) t u same own = absurd same
own_snoc (x ∷ ts) [] t u same own = absurd same
own_snoc (x ∷ ts) (y ∷ us) t u same own = (same.0, own_snoc ts us t u same.1 own)

-- as many tokens as before
pub own_count : (ts us : List Token) → SameOwn (views_of ts) (views_of us) → length us ≡ length ts
own_count [] [] same = refl
own_count [] (y ∷ us) same = absurd same
own_count (x ∷ ts) [] same = absurd same
own_count (x ∷ ts) (y ∷ us) same = let rest = own_count ts us same.1 in omega (arith, rest)

-- the first domain of a seat, whose plain data is as it was
pub record FirstOf (x : DomainView) (xs ys : List DomainView) : Type 0 where
  pub is : ys ≡ domain_in ys ∷ rest_of ys
  pub own : (domain_in ys).own ≡ x.own
  pub rest : SameOwn xs (rest_of ys)

pub first_of_own : (x : DomainView) (xs ys : List DomainView) → SameOwn (x ∷ xs) ys → FirstOf x xs ys
first_of_own x xs [] same = absurd same
first_of_own x xs (y ∷ ys) same = record { is = refl; own = same.0; rest = same.1 }

pub no_more : (ys : List DomainView) → SameOwn [] ys → ys ≡ []
no_more [] same = refl
no_more (y ∷ ys) same = absurd same
