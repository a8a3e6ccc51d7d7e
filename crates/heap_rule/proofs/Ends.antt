-- The seats are joined, and the last one sees the whole history.
use Rattle.std.proofs.Common.{◌≡◌, ℕ, List, [], ◌∷◌, ◌++◌, length, set, sym, refl, ap, ◌∙◌, subst, arith, append_assoc, append-nil}
use Rattle.atomic_table.specs.Table.{Me, keeps, Allows, Joins}
use Rattle.model_core.specs.declared.entry.Entry.{Entry}
use Rattle.heap_rule.specs.declared.config.Config.{Config}
use Rattle.heap_rule.specs.declared.view.DomainView.{DomainView}
use Rattle.heap_rule.specs.declared.view.View.{View}
use Rattle.heap_rule.specs.Views.{AllDomains, IsSeated, Knows, joined, spent}
use Rattle.heap_rule.specs.Rule.{Rule}
use Rattle.heap_rule.specs.Token.{Token, SharedHeap, IsIn}
use Rattle.heap_rule.specs.Ending.{Begins, Learned, AllIn, AllBegin, views_back}
use Rattle.heap_rule.proofs.Lists.{domains_map}
use mathlib.Core.Option.{some}
use lib.ListN.{get_elem?}
use Rattle.heap_rule.proofs.Keeps.{Words, unmoved}
use Rattle.heap_rule.proofs.Seats.{joins, rewrites}

pub views_back-snoc : (ts : List Token) (t : Token) → views_back (ts ++ t ∷ []) ≡ t.view ∷ views_back ts
views_back-snoc [] t = refl
views_back-snoc (x ∷ ts) t = ap (λ (l : List DomainView). l ++ x.view ∷ []) (views_back-snoc ts t)

all_in-split : (h : SharedHeap) (ts : List Token) (t : Token) → AllIn h (ts ++ t ∷ []) → AllIn h ts × IsIn t h
all_in-split h [] t a = (tt, a.0)
all_in-split h (x ∷ ts) t a = let b = all_in-split h ts t a.1 in ((a.0, b.0), b.1)

-- one token was taken from the end
pub popped : (h : SharedHeap) (old new : List Token) (t : Token) → old ≡ new ++ t ∷ [] → AllIn h old → AllIn h new × IsIn t h
popped h old new t is all = all_in-split h new t (subst (AllIn h) is all)

pub popped_views : (xs : List DomainView) (old new : List Token) (t : Token) (all : List DomainView) → old ≡ new ++ t ∷ [] → xs ++ views_back old ≡ all → (xs ++ t.view ∷ []) ++ views_back new ≡ all
popped_views xs old new t all is so = append_assoc xs (t.view ∷ []) (views_back new) ∙ (ap (λ (l : List DomainView). xs ++ l) (sym (ap views_back is ∙ views_back-snoc new t)) ∙ so)

domains_split : (P : DomainView → Type 0) (xs : List DomainView) (y : DomainView) → AllDomains P (xs ++ y ∷ []) → AllDomains P xs × P y
domains_split P [] y a = (tt, a.0)
domains_split P (x ∷ xs) y a = let b = domains_split P xs y a.1 in ((a.0, b.0), b.1)

begin_back : (history : List Entry) (ts : List Token) → AllDomains (Begins history) (views_back ts) → AllBegin history ts
begin_back history [] a = tt
begin_back history (t ∷ ts) a = let b = domains_split (Begins history) (views_back ts) t.view a in (b.1, begin_back history ts b.0)

pub all_begin : (history : List Entry) (xs : List DomainView) (ts rest : List Token) → rest ≡ [] → xs ++ views_back rest ≡ views_back ts → AllDomains (Begins history) xs → AllBegin history ts
all_begin history xs ts rest none_left so a = begin_back history ts (subst (AllDomains (Begins history)) (sym (append-nil xs) ∙ (ap (λ (l : List Token). xs ++ views_back l) (sym none_left) ∙ so)) a)

pub may_join : (k : Config) (id : ℕ) (v : View) (other : ℕ) (w : View) → w.config ≡ v.config → Joins (Rule k) id v other w (joined v w) spent
may_join = joins

-- a seat's view is written again as it is
pub same_views : (k : Config) (s : Words) (r : Rule k s) (id : ℕ) (v : View) → get_elem? s.views id ≡ some v → Rule k record { words = s.words; homes = s.homes; views = set s.views id v }
same_views k s r id v at = rewrites k s r id v (r.views id v at) (r.good id v at)

learns : (k : Config) (slots id word : ℕ) (v : View) → Allows (Rule k) slots id (v, []) word (λ n. n) (λ found m'. Learned k (v, []) m')
learns k slots id word v s r _ at _ =
    let w : View = record v { history = r.account.log } in
    let mine : Knows k r.account.log r.seat id v = r.views id v at in (
      w,
      keeps,
      tt,
      unmoved k s word (set s.views id w) (rewrites k s r id w
          record { config = mine.config; history = record { rest = []; appends = sym (append-nil r.account.log) }; domains = mine.domains; distinct = mine.distinct }
          (r.good id v at)),
      record { seat = refl; legal = r.whole.legal; fronts = domains_map (IsSeated k r.account.log r.seat id) (Begins r.account.log) v.domains (λ x y. y.front) mine.domains },
    )

pub may_learn : (k : Config) (slots id word : ℕ) (m : Me (Unit {0}) View) → m.1 ≡ [] → m.0.config ≡ k → Allows (Rule k) slots id m word (λ n. n) (λ found m'. Learned m.0.config m m')
may_learn k slots id word m empty same = let is : (m.0, []) ≡ m = λ i. (m.0, sym empty i) in
    subst (λ (x : Me (Unit {0}) View × Config). Allows (Rule k) slots id x.0 word (λ n. n) (λ found m'. Learned x.1 x.0 m')) (λ i. (is i, sym same i)) (learns k slots id word m.0)

pub no_item : {A : Type 0} (l : List A) → length l ≡ 0 → l ≡ []
no_item [] e = refl
no_item (x ∷ l) e = absurd (omega arith)
