-- Cuts and joins of seats keep the rule.
use Rattle.std.proofs.Common.{◌≡◌, ◌≢◌, ℕ, ◌<◌, List, [], ◌∷◌, ◌++◌, length, set, sym, refl, ap, ◌∙◌, subst, arith, length-set, length-append}
use mathlib.Core.Logic.{dite}
use native.Mathlib.Decide.{ℕ_discrete}
use mathlib.Core.Option.{some}
use lib.ListN.{get_elem?}
use Rattle.atomic_table.specs.Table.{Splits, Joins}
use Rattle.atomic_table.proofs.Lists.{set_else}
use Rattle.model_core.specs.declared.entry.Entry.{Entry}
use Rattle.heap_rule.specs.declared.config.Config.{Config}
use Rattle.heap_rule.specs.declared.view.DomainView.{DomainView}
use Rattle.heap_rule.specs.declared.view.View.{View}
use Rattle.heap_rule.specs.Views.{EachView, AllDomains, EachDomain, Distinct, IsSeated, Knows, cut_left, cut_right, joined, spent}
use Rattle.heap_rule.specs.Rule.{Good, Rule}
use Rattle.heap_rule.proofs.Update.{over, over_here, over_else}
use Rattle.heap_rule.proofs.Lists.{at_below, views_set, views_new, domains_map, domains_with, domains_both}
use Rattle.heap_rule.proofs.Keeps.{Words}

distinct_both : (seat : ℕ → ℕ) (m n : ℕ) → m ≢ n → (xs ys : List DomainView) → AllDomains (λ x. seat x.own.number ≡ m) xs → AllDomains (λ x. seat x.own.number ≡ n) ys → Distinct xs → Distinct ys → Distinct (xs ++ ys)
distinct_both seat m n apart [] ys a b c d = d
distinct_both seat m n apart (x ∷ xs) ys a b c d = (
  domains_both (λ y. y.own.number ≢ x.own.number) xs ys c.0 (domains_map (λ y. seat y.own.number ≡ n) (λ y. y.own.number ≢ x.own.number) ys (λ y here same. apart (sym a.0 ∙ (ap seat (sym same) ∙ here))) b),
  distinct_both seat m n apart xs ys a.1 b c.1 d,
)

-- the rule with other seats
reseated : (k : Config) (s : Words) (r : Rule k s) (seat : ℕ → ℕ) (views : List View) → ((d : ℕ) → seat d < length views) → EachView (Knows k r.account.log seat) views
    → EachDomain (Good k r.account s.words) views → Rule k record { words = s.words; homes = s.homes; views = views }
reseated k s r seat views seats knows good = record { account = r.account; seat = seat; limits = r.limits; whole = r.whole; seats = seats; views = knows; good = good }

moved : (k : Config) (log : List Entry) (seat seat' : ℕ → ℕ) (j : ℕ) (v : View) → AllDomains (λ x. seat' x.own.number ≡ j) v.domains → Knows k log seat j v → Knows k log seat' j v
moved k log seat seat' j v here see = record {
  config = see.config;
  history = see.history;
  distinct = see.distinct;
  domains = domains_with (IsSeated k log seat j) (λ x. seat' x.own.number ≡ j) (IsSeated k log seat' j) v.domains (λ x y h. record { inside = y.inside; here = h; front = y.front; led = y.led }) see.domains here;
}

-- the view of one seat is written anew, and no word
pub rewrites : (k : Config) (s : Words) (r : Rule k s) (id : ℕ) (w : View) → Knows k r.account.log r.seat id w → AllDomains (Good k r.account s.words) w.domains → Rule k record { words = s.words; homes = s.homes; views = set s.views id w }
rewrites k s r id w knows good = reseated k s r r.seat (set s.views id w)
    (λ d. subst (λ (n : ℕ). r.seat d < n) (sym (length-set s.views id w)) (r.seats d))
    (views_set (Knows k r.account.log r.seat) (Knows k r.account.log r.seat) s.views id w r.views knows (λ j u n x. x))
    (views_set (λ _ u. AllDomains (Good k r.account s.words) u.domains) (λ _ u. AllDomains (Good k r.account s.words) u.domains) s.views id w r.good good (λ j u n x. x))

pub splits : (k : Config) (id : ℕ) (hist : List Entry) (p : DomainView) (ps : List DomainView) → let v : View = record { config = k; history = hist; domains = p ∷ ps } in Splits (Rule k) id v (cut_left v) (cut_right v)
splits k id hist p ps s r at =
    let v : View = record { config = k; history = hist; domains = p ∷ ps } in
    let n : ℕ = length s.views in
    let left : View = record { config = k; history = hist; domains = ps } in
    let right : View = record { config = k; history = hist; domains = p ∷ [] } in
    let mid : List View = set s.views id left in
    let long : length mid ≡ n = length-set s.views id left in
    let seat' : ℕ → ℕ = over p.own.number n r.seat in
    let know : Knows k r.account.log r.seat id v = r.views id v at in
    let mine : IsSeated k r.account.log r.seat id p = know.domains.0 in
    let S : DomainView → Type 0 = Good k r.account s.words in
    reseated k s r seat' (mid ++ right ∷ [])
    (λ d. dite (ℕ_discrete d p.own.number)
    (λ same. subst (λ (x : ℕ). x < length (mid ++ right ∷ [])) (sym (ap seat' same ∙ over_here p.own.number n r.seat)) (omega (arith, length-append mid (right ∷ []))))
    (λ other. subst (λ (x : ℕ). x < length (mid ++ right ∷ [])) (sym (over_else p.own.number n r.seat d other)) (let b = r.seats d in omega (arith, length-append mid (right ∷ [])))))
    (views_new (Knows k r.account.log seat') mid right
    (views_set (Knows k r.account.log r.seat) (Knows k r.account.log seat') s.views id left r.views
    record {
      config = know.config.1;
      history = know.history;
      distinct = know.distinct.1;
      domains = domains_with (IsSeated k r.account.log r.seat id) (λ q. q.own.number ≢ p.own.number) (IsSeated k r.account.log seat' id) ps
          (λ x y apart. record { inside = y.inside; here = over_else p.own.number n r.seat x.own.number apart ∙ y.here; front = y.front; led = y.led }) know.domains.1 know.distinct.0;
    }
    (λ j u other see. moved k r.account.log r.seat seat' j u
    (domains_map (IsSeated k r.account.log r.seat j) (λ x. seat' x.own.number ≡ j) u.domains (λ x y. over_else p.own.number n r.seat x.own.number (λ same. other (sym y.here ∙ (ap r.seat same ∙ mine.here))) ∙ y.here) see.domains)
    see))
    record {
      config = (refl, tt);
      history = know.history;
      distinct = (tt, tt);
      domains = (record { inside = mine.inside; here = over_here p.own.number n r.seat ∙ sym long; front = mine.front; led = mine.led }, tt);
    })
    (views_new (λ _ u. AllDomains S u.domains) mid right (views_set (λ _ u. AllDomains S u.domains) (λ _ u. AllDomains S u.domains) s.views id left r.good (r.good id v at).1 (λ j u _ x. x)) ((r.good id v at).0, tt))

pub joins : (k : Config) (id : ℕ) (v : View) (other : ℕ) (w : View) → w.config ≡ v.config → Joins (Rule k) id v other w (joined v w) spent
joins k id v other w same_config s r at apart there' =
    let both : View = joined v w in
    let mid : List View = set s.views id both in
    let there : get_elem? s.views other ≡ some w = sym (set_else s.views id other both apart) ∙ there' in
    let seat' : ℕ → ℕ = λ d. over other id (λ y. y) (r.seat d) in
    let moves : (d : ℕ) → r.seat d ≡ other → seat' d ≡ id = λ d e. ap (over other id (λ y. y)) e ∙ over_here other id (λ y. y) in
    let stays : (d : ℕ) → r.seat d ≢ other → seat' d ≡ r.seat d = λ d e. over_else other id (λ y. y) (r.seat d) e in
    let mine : Knows k r.account.log r.seat id v = r.views id v at in
    let its : Knows k r.account.log r.seat other w = r.views other w there in
    let S : DomainView → Type 0 = Good k r.account s.words in
    let len : length (set mid other spent) ≡ length s.views = length-set mid other spent ∙ length-set s.views id both in
    reseated k s r seat' (set mid other spent)
    (λ d. dite (ℕ_discrete (r.seat d) other)
    (λ e. subst (λ (x : ℕ). x < length (set mid other spent)) (sym (moves d e)) (let b = at_below s.views id v at in omega arith))
    (λ e. subst (λ (x : ℕ). x < length (set mid other spent)) (sym (stays d e)) (let b = r.seats d in omega arith)))
    (views_set (λ j u. j ≢ other → Knows k r.account.log seat' j u) (Knows k r.account.log seat') mid other spent
    (views_set (Knows k r.account.log r.seat) (λ j u. j ≢ other → Knows k r.account.log seat' j u) s.views id both r.views
    (λ _. record {
      config = domains_both (λ _. v.config ≡ k) v.domains w.domains mine.config (domains_map (λ _. w.config ≡ k) (λ _. v.config ≡ k) w.domains (λ _ e. sym same_config ∙ e) its.config);
      history = mine.history;
      distinct = distinct_both r.seat id other (λ e. apart (sym e)) v.domains w.domains
          (domains_map (IsSeated k r.account.log r.seat id) (λ x. r.seat x.own.number ≡ id) v.domains (λ x y. y.here) mine.domains)
          (domains_map (IsSeated k r.account.log r.seat other) (λ x. r.seat x.own.number ≡ other) w.domains (λ x y. y.here) its.domains) mine.distinct its.distinct;
      domains = domains_both (IsSeated k r.account.log seat' id) v.domains w.domains
          (domains_map (IsSeated k r.account.log r.seat id) (IsSeated k r.account.log seat' id) v.domains (λ x y. record { inside = y.inside; here = stays x.own.number (λ e. apart (sym e ∙ y.here)) ∙ y.here; front = y.front; led = y.led }) mine.domains)
          (domains_map (IsSeated k r.account.log r.seat other) (IsSeated k r.account.log seat' id) w.domains (λ x y. record { inside = y.inside; here = moves x.own.number y.here; front = y.front; led = y.led }) its.domains);
    })
    (λ j u ne see nother. moved k r.account.log r.seat seat' j u
    (domains_map (IsSeated k r.account.log r.seat j) (λ x. seat' x.own.number ≡ j) u.domains (λ x y. stays x.own.number (λ e. nother (sym y.here ∙ e)) ∙ y.here) see.domains) see))
    record { config = tt; history = record { rest = r.account.log; appends = refl }; distinct = tt; domains = tt }
    (λ j u ne f. f ne))
    (views_set (λ _ u. AllDomains S u.domains) (λ _ u. AllDomains S u.domains) mid other spent
    (views_set (λ _ u. AllDomains S u.domains) (λ _ u. AllDomains S u.domains) s.views id both r.good (domains_both S v.domains w.domains (r.good id v at) (r.good other w there)) (λ j u _ x. x)) tt (λ j u _ x. x))
