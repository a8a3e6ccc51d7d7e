-- What the clauses of a meeting of all domains refuse.
use Rattle.std.proofs.Common.{◌≡◌, ◌≢◌, ◌∙◌, ◌≤◌, ℕ, zero, suc, List, [], ◌∷◌, length, slice_get, Some, sym, ap}
use Rattle.model_core.specs.declared.entry.Entry.{Entry}
use Rattle.heap_rule.specs.declared.config.Config.{Config}
use Rattle.heap_rule.specs.declared.view.DomainView.{DomainView}
use Rattle.heap_rule.specs.Meeting.{MetAll, each_seeing}
use Rattle.heap_rule.specs.Token.{Token}
use Rattle.heap_rule.specs.Views.{AllDomains, domain_in}
use Rattle.gc_pause.specs.declared.stops.answer.Look.TheVariants.{NotAll}
use Rattle.gc_pause.specs.Stops.Looks.{LooksTogether}

-- a domain that has arrived least often of all doesn't find that others are missing
pub no_least_domain_waits : (k : Config) (xs ys : List DomainView) (b : ℕ) → length xs ≡ k.domains → AllDomains (λ x. (domain_in xs).own.arrivals ≤ x.own.arrivals) xs → LooksTogether k xs ys (NotAll b) → ⊥
no_least_domain_waits k xs ys b many least look = look.acts many least b (λ i. NotAll b)

front_seen : (history : List Entry) (ts : List Token) (i : ℕ) (t : Token) → slice_get (each_seeing history ts) i ≡ Some t → history ≡ t.view.seen.front
front_seen history [] i t at = cc
front_seen history (u ∷ ts) zero t at = let same : record u { view = record u.view { seen = record u.view.seen { front = history } } } ≡ t = cc in ap (λ (z : Token). z.view.seen.front) same
front_seen history (u ∷ ts) (suc i) t at = front_seen history ts i t at

-- no domain is left behind: all have then seen as much of the history
pub no_domain_is_left_behind : (k : Config) (old new : List Token) (i j : ℕ) (t u : Token) → MetAll k old new → slice_get new i ≡ Some t → slice_get new j ≡ Some u → t.view.seen.front ≢ u.view.seen.front → ⊥
no_domain_is_left_behind k old new i j t u met at there apart =
    let first = front_seen met.history old i t (ap (λ (ts : List Token). slice_get ts i) (sym met.seen) ∙ at) in
    let second = front_seen met.history old j u (ap (λ (ts : List Token). slice_get ts j) (sym met.seen) ∙ there) in
    apart (sym first ∙ second)
