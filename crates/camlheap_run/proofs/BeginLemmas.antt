-- The start of a heap: each domain may begin its section.
use Rattle.std.proofs.Math.Nat.{le-max_left, le-max_right}
use Rattle.std.proofs.Common.{◌≡◌, ℕ, zero, suc, ◌+◌, ◌<◌, ◌≤◌, Bool, true, false, List, [], ◌∷◌, length, map, refl, ap, ◌∙◌, arith, Some, None}
use Rattle.std.specs.Prelude.{Option, cond, not, ◌&&◌, nat_le, slice_get, slice_index_or}
use Rattle.std.proofs.lemmas.Bool.Decides.{nat_tests}
use Rattle.model_core.specs.declared.command.Command.{Command}
use Rattle.model_core.specs.Domains.{fits_domains}
use Rattle.heap_rule.specs.declared.config.Config.{Config}
use Rattle.heap_rule.specs.Limits.{sizes_in, first_outside, first_of}
use Rattle.heap_rule.specs.Opening.{opening_token, opening_tokens}
use Rattle.heap_rule.specs.Token.{SharedHeap}
use Rattle.gc_mark.specs.Decks.{DeckCounts, uncounted}
use Rattle.camlheap_run.specs.Running.{MayBegin, deck_of, most_of, opened, opened_with, opened_each}
use Rattle.run_turns.specs.Runs.{ephemerons_in, registrations_in}
use Rattle.run_turns.proofs.Beginning.{opening_begins}
use Rattle.camlheap_run.proofs.SectionLemmas.{IsFine}

-- each of these domains may begin its section
pub may_begin : (h : SharedHeap) (k : Config) (from n : ℕ) (sections : List (List Command)) → length sections ≡ n → from + n ≤ k.domains → ((d : ℕ) → IsFine (slice_index_or sections d [])) → most_of ephemerons_in sections ≤ k.ephes → most_of registrations_in sections ≤ k.finals
    → MayBegin (opening_tokens h.table k from n) sections
may_begin h k from zero sections many few fine ephemerons registrations = tt
may_begin h k from (suc n) [] many few fine ephemerons registrations = cc
may_begin h k from (suc n) (cs ∷ sections) many few fine ephemerons registrations = (
  opening_begins h k from cs (omega arith) (fine 0).few (fine 0).fit (omega (arith, le-max_left (ephemerons_in cs) (most_of ephemerons_in sections), ephemerons)) (omega (arith, le-max_left (registrations_in cs) (most_of registrations_in sections), registrations)),
  may_begin h k (from + 1) n sections (omega (arith, many)) (omega arith) (λ d. fine (suc d)) (omega (arith, le-max_right (ephemerons_in cs) (most_of ephemerons_in sections), ephemerons)) (omega (arith, le-max_right (registrations_in cs) (most_of registrations_in sections), registrations)),
)

-- the runs that are made of the sections in order are theirs
pub opened_are : (h : SharedHeap) (k : Config) (script : List (List Command)) (from n : ℕ) (sections : List (List Command)) → length sections ≡ n → ((i : ℕ) → slice_index_or sections i [] ≡ slice_index_or script (from + i) [])
    → opened_each (opening_tokens h.table k from n) sections ≡ map (opened script) (opening_tokens h.table k from n)
opened_are h k script from zero sections many same = refl
opened_are h k script from (suc n) [] many same = cc
opened_are h k script from (suc n) (cs ∷ sections) many same =
    let at : from + 0 ≡ from = omega arith in
    let first : cs ≡ slice_index_or script from [] = same 0 ∙ ap (λ (i : ℕ). slice_index_or script i []) at in
    let rest = opened_are h k script (from + 1) n sections (omega (arith, many)) (λ i. let on : from + suc i ≡ (from + 1) + i = omega arith in same (suc i) ∙ ap (λ (j : ℕ). slice_index_or script j []) on) in
    (λ i. opened_with (opening_token h.table k from) (first i) ∷ rest i)

-- the decks that are made are theirs
pub decks_are : (h : SharedHeap) (k : Config) (from n : ℕ) (decks : List DeckCounts) → length decks ≡ n → ((i : ℕ) (d : DeckCounts) → i < n → slice_index_or decks i d ≡ uncounted (from + i) k.domains) → decks ≡ map deck_of (opening_tokens h.table k from n)
decks_are h k from zero [] many each = refl
decks_are h k from zero (x ∷ xs) many each = cc
decks_are h k from (suc n) [] many each = cc
decks_are h k from (suc n) (x ∷ xs) many each =
    let first : x ≡ uncounted from k.domains = let at : from + 0 ≡ from = omega arith in each 0 x (omega arith) ∙ ap (λ (i : ℕ). uncounted i k.domains) at in
    let rest : xs ≡ map deck_of (opening_tokens h.table k (from + 1) n) = decks_are h k (from + 1) n xs (omega (arith, many)) (λ i d below. let at : from + suc i ≡ (from + 1) + i = omega arith in each (suc i) d (omega (arith, below)) ∙ ap (λ (j : ℕ). uncounted j k.domains) at) in
    (λ i. first i ∷ rest i)

pub length-opening_tokens : (h : SharedHeap) (k : Config) (from n : ℕ) → length (opening_tokens h.table k from n) ≡ n
length-opening_tokens h k from zero = refl
length-opening_tokens h k from (suc n) = ap suc (length-opening_tokens h k (from + 1) n)

pub length-opened : (h : SharedHeap) (k : Config) (script : List (List Command)) (from n : ℕ) → length (map (opened script) (opening_tokens h.table k from n)) ≡ n
length-opened h k script from zero = refl
length-opened h k script from (suc n) = ap suc (length-opened h k script (from + 1) n)

-- the run of each domain stands at its number
pub opened_at : (h : SharedHeap) (k : Config) (script : List (List Command)) (from n i : ℕ) → i < n → slice_get (map (opened script) (opening_tokens h.table k from n)) i ≡ Some (opened script (opening_token h.table k (from + i)))
opened_at h k script from zero i inside = absurd (omega arith)
opened_at h k script from (suc n) zero inside = let same : from ≡ from + 0 = omega arith in ap (λ (d : ℕ). Some (opened script (opening_token h.table k d))) same
opened_at h k script from (suc n) (suc i) inside =
    let same : (from + 1) + i ≡ from + suc i = omega arith in
    opened_at h k script (from + 1) n i (omega arith) ∙ ap (λ (d : ℕ). Some (opened script (opening_token h.table k d))) same

-- there is a domain
first_fits : (b : Bool) (o : Option ℕ) → cond (not b) (Some 1) o ≡ None → b ≡ true
first_fits true o e = refl
first_fits false o e = cc

at_least_one : (n : ℕ) → (nat_le 1 n && nat_le n 8) ≡ true → 0 < n
at_least_one n fits = grind (arith, nat_tests)

no_first : (o later : Option ℕ) → first_of o later ≡ None → o ≡ None
no_first (Some n) later e = cc
no_first None later e = refl

pub some_domain : (k : Config) → first_outside k ≡ None → 0 < k.domains
some_domain k within = at_least_one k.domains (first_fits (fits_domains (sizes_in k)) _ (no_first _ _ within))
