-- Each domain of a heap that starts may begin a run that gets its commands handed in.
use Rattle.std.proofs.Common.{◌≡◌, ◌∙◌, ℕ, zero, suc, ◌+◌, ◌<◌, ◌≤◌, List, [], ◌∷◌, length, map, refl, ap, arith}
use Rattle.std.specs.Prelude.{slice_index_or}
use Rattle.heap_rule.specs.declared.config.Config.{Config}
use Rattle.heap_rule.specs.Opening.{opening_tokens}
use Rattle.heap_rule.specs.Token.{SharedHeap}
use Rattle.gc_mark.specs.Decks.{DeckCounts, uncounted}
use Rattle.run_turns.proofs.Beginning.{opening_begins}
use Rattle.run_turns.specs.Singly.Opening.{MayOpen, deck_of}

pub may_open : (h : SharedHeap) (k : Config) (from n : ℕ) → from + n ≤ k.domains → MayOpen (opening_tokens h.table k from n)
may_open h k from zero few = tt
may_open h k from (suc n) few = (opening_begins h k from [] (omega arith) (omega arith) (λ i c at. cc) (omega arith) (omega arith), may_open h k (from + 1) n (omega arith))

pub decks_are : (h : SharedHeap) (k : Config) (from n : ℕ) (decks : List DeckCounts) → length decks ≡ n → ((i : ℕ) (d : DeckCounts) → i < n → slice_index_or decks i d ≡ uncounted (from + i) k.domains) → decks ≡ map deck_of (opening_tokens h.table k from n)
decks_are h k from zero [] many each = refl
decks_are h k from zero (x ∷ xs) many each = cc
decks_are h k from (suc n) [] many each = cc
decks_are h k from (suc n) (x ∷ xs) many each =
    let first : x ≡ uncounted from k.domains = let at : from + 0 ≡ from = omega arith in each 0 x (omega arith) ∙ ap (λ (i : ℕ). uncounted i k.domains) at in
    let rest : xs ≡ map deck_of (opening_tokens h.table k (from + 1) n) = decks_are h k (from + 1) n xs (omega (arith, many)) (λ i d below. let at : from + suc i ≡ (from + 1) + i = omega arith in each (suc i) d (omega (arith, below)) ∙ ap (λ (j : ℕ). uncounted j k.domains) at) in
    (λ i. first i ∷ rest i)
