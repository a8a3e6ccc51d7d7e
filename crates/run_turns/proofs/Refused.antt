-- A poll before which the domain has done nothing for the collector is none that is said to have worked.
use Rattle.std.proofs.Common.{◌≡◌, ◌∙◌, ℕ, suc, ◌+◌, ◌<◌, ◌≤◌, ◌⊎◌, Bool, true, false, Some, List, [], ◌∷◌, ◌++◌, length, refl, sym, ap, ⊎_elim, subst, arith}
use Rattle.heap_rule.specs.declared.view.DomainView.{DomainView}
use Rattle.heap_rule.specs.declared.view.Own.{Own}
use Rattle.heap_rule.specs.declared.view.Share.{Share}
use Rattle.heap_rule.specs.declared.view.Spot.{Spot}
use Rattle.heap_rule.specs.Standing.{with_front}
use Rattle.heap_rule.specs.Token.{SharedHeap}
use Rattle.do_fields.specs.Darkening.Aware.{scanned_in}
use Rattle.gc_mark.specs.Decks.{DeckCounts, HasMissed, HasTaken, last_count, missed_at}
use Rattle.run_turns.specs.Runs.{MarksBeside, Polls, RunView, SweepsBeside, asking_end}

lengths : (l m : List Spot) → length (l ++ m) ≡ length l + length m
lengths [] m = let n : ℕ = length m in let e : n ≡ 0 + n = omega arith in e
lengths (x ∷ l) m =
    let a : ℕ = length (l ++ m) in
    let b : ℕ = length l in
    let n : ℕ = length m in
    let before : a ≡ b + n = lengths l m in
    let all : suc a ≡ suc b + n = omega (arith, before) in all

-- asking for the end of the collection changes neither what the domain knows of the phase, nor what it owns, nor its deck
pub asked_share : (spent : Bool) (r : RunView) → (asking_end spent r).token.view.seen.share ≡ r.token.view.seen.share
asked_share true r = refl
asked_share false r = refl

asked_own : (spent : Bool) (r : RunView) → (asking_end spent r).token.view.own ≡ r.token.view.own
asked_own true r = refl
asked_own false r = refl

pub asked_hints : (spent : Bool) (r : RunView) → (asking_end spent r).hints ≡ r.hints
asked_hints true r = refl
asked_hints false r = refl

missed_none : (l : DeckCounts) (d : ℕ) → missed_at l d < last_count → HasMissed l l d → ⊥
missed_none l d missed h =
    let a : ℕ = missed_at l d in
    ⊎_elim (λ (e : a < a). omega (arith, e)) (λ (e : last_count ≤ a). omega (arith, e, missed)) h

taken_none : (l : DeckCounts) → l.taken < last_count → HasTaken 8192 l l → ⊥
taken_none l taken h =
    let a : ℕ = l.taken in
    ⊎_elim (λ (e : a + 8192 ≤ a). omega (arith, e)) (λ (e : last_count ≤ a). omega (arith, e, taken)) h

marks_refused : (h : SharedHeap) (old worked : RunView) (spent : Bool) (d : ℕ) → worked.token.view.seen.share ≡ old.token.view.seen.share → worked.hints ≡ old.hints → old.hints.taken < last_count → d < old.hints.domains → missed_at old.hints d < last_count → MarksBeside h old worked spent → ⊥
marks_refused h old worked true d share hints taken inside missed m = missed_none old.hints d missed (subst (λ (l : DeckCounts). HasMissed old.hints l d) hints (m.marks d inside))
marks_refused h old worked false d share hints taken inside missed m =
    let a : ℕ = scanned_in old.token.view.seen.share.known in
    let b : ℕ = scanned_in worked.token.view.seen.share.known in
    let same : b ≡ a = ap (λ (s : Share). scanned_in s.known) share in
    ⊎_elim
    (λ (e : b ≡ a + 256). omega (arith, e, same))
    (λ (e : HasTaken 8192 old.hints worked.hints). taken_none old.hints taken (subst (λ (l : DeckCounts). HasTaken 8192 old.hints l) hints e))
    m.marks

sweeps_refused : (h : SharedHeap) (old worked : RunView) (count : ℕ) → worked.token.view.seen.share ≡ old.token.view.seen.share → worked.token.view.own ≡ old.token.view.own → (old.token.view.seen.share.armed ≡ Some true) ⊎ (old.token.view.own.swept.spot.pool < h.config.pools) → SweepsBeside h old worked count → ⊥
sweeps_refused h old worked count share own work s = ⊎_elim
    (λ (armed : old.token.view.seen.share.armed ≡ Some true).
    let none : worked.token.view.seen.share.armed ≡ Some false = ap (λ (x : DomainView). x.seen.share.armed) s.swept.view in
    let both : Some true ≡ Some false = sym (ap (λ (x : Share). x.armed) share ∙ armed) ∙ none in cc)
    (λ (left : old.token.view.own.swept.spot.pool < h.config.pools).
    let places : List Spot = s.swept.on.places in
    let n : ℕ = length places in
    let m : ℕ = length old.token.view.seen.share.swept in
    let all : m ≡ length (places ++ old.token.view.seen.share.swept) = ap (λ (x : Share). length x.swept) (sym share) ∙ ap (λ (l : List Spot). length l) s.swept.on.swept in
    let sum : length (places ++ old.token.view.seen.share.swept) ≡ n + m = lengths places old.token.view.seen.share.swept in
    let many : n ≡ count = s.swept.on.many in
    let few : count < 256 = omega (arith, all, sum, many) in
    let done = s.swept.rest few in
    let next : worked.token.view.own.swept.spot.pool ≡ old.token.view.own.swept.spot.pool = ap (λ (o : Own). o.swept.spot.pool) own in
    omega (arith, left, done, next))
    work

-- a run whose domain's view has changed by the entry of the poll alone, and whose deck is as it was, has not polled: where a collection goes on, or an own pool is left to be swept
pub idle_refused : (h : SharedHeap) (old new : RunView) (d : ℕ) → new.token.view ≡ with_front old.token.view new.token.view.seen.front → new.hints ≡ old.hints → old.hints.taken < last_count → d < old.hints.domains → missed_at old.hints d < last_count
    → (old.token.view.seen.share.armed ≡ Some true) ⊎ (old.token.view.own.swept.spot.pool < h.config.pools) → Polls h old new → ⊥
idle_refused h old new d still same taken inside missed work p =
    let made : new.token.view.seen.share ≡ p.made.token.view.seen.share = ap (λ (r : RunView). r.token.view.seen.share) p.run ∙ asked_share p.spent p.made in
    let made_own : new.token.view.own ≡ p.made.token.view.own = ap (λ (r : RunView). r.token.view.own) p.run ∙ asked_own p.spent p.made in
    let made_hints : new.hints ≡ p.made.hints = ap (λ (r : RunView). r.hints) p.run ∙ asked_hints p.spent p.made in
    let share : p.worked.token.view.seen.share ≡ old.token.view.seen.share = sym (ap (λ (x : DomainView). x.seen.share) p.view) ∙ (sym made ∙ ap (λ (x : DomainView). x.seen.share) still) in
    let own : p.worked.token.view.own ≡ old.token.view.own = sym (ap (λ (x : DomainView). x.own) p.view) ∙ (sym made_own ∙ ap (λ (x : DomainView). x.own) still) in
    let hints : p.worked.hints ≡ old.hints = sym (ap (λ (r : RunView). r.hints) p.tried.run) ∙ (sym made_hints ∙ same) in
    ⊎_elim
    (λ (m : MarksBeside h old p.worked p.spent). marks_refused h old p.worked p.spent d share hints taken inside missed m)
    (λ (s : ((count : ℕ) × SweepsBeside h old p.worked count) × (p.spent ≡ false)). sweeps_refused h old p.worked s.0.0 share own work s.0.1)
    p.works
