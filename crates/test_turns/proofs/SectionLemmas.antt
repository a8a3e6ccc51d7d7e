-- A domain that was handed the hidden block may begin a section whose commands may stand there.
use Rattle.std.proofs.Common.{◌≡◌, ℕ, zero, suc, ◌+◌, ◌<◌, ◌≤◌, List, [], ◌∷◌, length, slice_get, Some, refl, sym, subst, arith}
use Rattle.std.specs.Prelude.{remove, slice_index_or}
use Rattle.std.specs.List.{All, AllByRecursion}
use Rattle.std.proofs.lemmas.List.Elements.{recursion_from_All}
use Rattle.std.proofs.lemmas.Option.{get_or_from_slice_get, slice_get_within}
use Rattle.model_core.specs.declared.command.Command.{Command}
use Rattle.heap_rule.specs.Token.{Token, SharedHeap}
use Rattle.model_traces.specs.Spawns.Expansion.{AreFitting}
use Rattle.run_turns.specs.declared.supply.Supply.TheVariants.{Section}
use Rattle.run_turns.specs.Sections.{AllFitIn}
use Rattle.run_turns.specs.Runs.{CanBeginSection, ephemerons_in, registrations_in}
use Rattle.do_spawn.specs.Opening.{IsOpened}
use Rattle.run_turns.proofs.Opened.{opened_begins}
use Rattle.test_turns.specs.Sections.{IsHanded, MayStand}

fit_in : (n : ℕ) (cs : List Command) → All (MayStand n) cs → AllFitIn Section cs
fit_in n cs all i c at = (subst (MayStand n) (get_or_from_slice_get cs i c c at) (all i c (slice_get_within cs i c at))).fits

fitting_in : (n : ℕ) (cs : List Command) → AllByRecursion (MayStand n) cs → AreFitting n cs
fitting_in n [] all = tt
fitting_in n (c ∷ cs) all = (all.0.fitting, fitting_in n cs all.1)

no_ephemerons : (n : ℕ) (cs : List Command) → AllByRecursion (MayStand n) cs → ephemerons_in cs ≤ 0
no_ephemerons n [] all = omega arith
no_ephemerons n (c ∷ cs) all = let one = all.0.no_ephemeron in let rest = no_ephemerons n cs all.1 in omega arith

no_finalisers : (n : ℕ) (cs : List Command) → AllByRecursion (MayStand n) cs → registrations_in cs ≤ 0
no_finalisers n [] all = omega arith
no_finalisers n (c ∷ cs) all = let one = all.0.no_finaliser in let rest = no_finalisers n cs all.1 in omega arith

pub begins_section : (h : SharedHeap) (t : Token) (cs : List Command) → IsHanded h t → h.config.domains ≤ 8 → length cs ≤ 200000 → All (MayStand t.view.own.number) cs → CanBeginSection t cs
begins_section h t cs handed few_domains few all =
    let n : ℕ = t.view.own.number in
    let each = recursion_from_All (MayStand n) cs all in
    opened_begins h n t cs handed.opened handed.inside few_domains few (fit_in n cs all) (fitting_in n cs each) (let none = no_ephemerons n cs each in omega arith) (let none = no_finalisers n cs each in omega arith)

handed : (h : SharedHeap) (d : ℕ) (t : Token) → IsOpened h d t → d < h.config.domains → IsHanded h t
handed h d t o inside = record { opened = subst (λ (n : ℕ). IsOpened h n t) (sym o.began.keeps.number) o; inside = subst (λ (n : ℕ). n < h.config.domains) (sym o.began.keeps.number) inside }

-- so it is with both of two domains
pub two_handed : (h : SharedHeap) (ds : List Token) (first second : Token) → h.config.domains ≡ 2 → length ds ≡ h.config.domains → ((d : ℕ) (t : Token) → slice_get ds d ≡ Some t → IsOpened h d t) → second ≡ slice_index_or ds 1 second → first ≡ slice_index_or (remove ds 1) 0 first
    → IsHanded h first × IsHanded h second
two_handed h [] first second two count opened is_second is_first = absurd (omega (arith, two, count))
two_handed h (a ∷ []) first second two count opened is_second is_first = absurd (omega (arith, two, count))
two_handed h (a ∷ b ∷ []) first second two count opened is_second is_first = (
  subst (IsHanded h) (sym is_first) (handed h 0 a (opened 0 a refl) (omega (arith, two))),
  subst (IsHanded h) (sym is_second) (handed h 1 b (opened 1 b refl) (omega (arith, two))),
)
two_handed h (a ∷ b ∷ x ∷ xs) first second two count opened is_second is_first = absurd (let l : ℕ = length xs in omega (arith, two, count))
