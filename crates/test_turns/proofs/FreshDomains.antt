-- What holds of each domain of a heap that has just started.
use Rattle.std.proofs.Common.{◌≡◌, ℕ, zero, suc, ◌+◌, ◌<◌, ◌≤◌, List, [], ◌∷◌, length, refl, sym, subst, arith}
use Rattle.std.specs.List.{All, AllByRecursion}
use Rattle.std.proofs.lemmas.List.Elements.{All-from_recursion, recursion_from_All}
use Rattle.model_core.specs.declared.command.Command.{Command}
use Rattle.heap_rule.specs.declared.config.Config.{Config}
use Rattle.heap_rule.specs.Opening.{opening_token, opening_tokens}
use Rattle.heap_rule.specs.Token.{Token, SharedHeap}
use Rattle.run_turns.specs.Runs.{CanBegin, AllFit, ephemerons_in, registrations_in}
use Rattle.run_turns.specs.Tries.{ephemerons_of}
use Rattle.run_turns.proofs.Beginning.{opening_begins}
use Rattle.test_turns.specs.Fresh.{MakesNoEphemeron}
use Rattle.test_turns.specs.Fresh.{IsFresh}

none_fits : AllFit []
none_fits i c at = cc

is_fresh : (h : SharedHeap) (d : ℕ) → d < h.config.domains → IsFresh h (opening_token h.table h.config d)
is_fresh h d inside =
    let may : CanBegin (opening_token h.table h.config d) [] = opening_begins h h.config d [] inside (omega arith) none_fits (omega arith) (omega arith) in
    record {
      runs = record { here = (refl, refl); acts = may.ready.acts; idle = refl; at_rest = refl; remembers = refl };
      begins = may;
      unlabelled = refl;
      nowhere = refl;
    }

those_from : (h : SharedHeap) (from n : ℕ) → from + n ≤ h.config.domains → AllByRecursion (IsFresh h) (opening_tokens h.table h.config from n)
those_from h from zero few = tt
those_from h from (suc n) few = (is_fresh h from (omega arith), those_from h (from + 1) n (omega arith))

-- all domains of a heap that has just started are fresh
pub all_fresh : (h : SharedHeap) (k : Config) (domains : List Token) → h.config ≡ k → domains ≡ opening_tokens h.table k 0 k.domains → All (IsFresh h) domains
all_fresh h k domains config are =
    let same : domains ≡ opening_tokens h.table h.config 0 h.config.domains = subst (λ (c : Config). domains ≡ opening_tokens h.table c 0 c.domains) (sym config) are in
    subst (All (IsFresh h)) (sym same) (All-from_recursion (IsFresh h) (opening_tokens h.table h.config 0 h.config.domains) (those_from h 0 h.config.domains (omega arith)))

none_made_in : (cs : List Command) → AllByRecursion MakesNoEphemeron cs → ephemerons_in cs ≡ 0
none_made_in [] all = refl
none_made_in (c ∷ cs) all =
    let first : ephemerons_of c ≡ 0 = all.0.1 in
    let rest : ephemerons_in cs ≡ 0 = none_made_in cs all.1 in
    omega (arith, first, rest)

-- these commands make no ephemeron
pub none_made : (cs : List Command) → All MakesNoEphemeron cs → ephemerons_in cs ≡ 0
none_made cs all = none_made_in cs (recursion_from_All MakesNoEphemeron cs all)

-- a domain that may begin no commands may begin others that fit
pub begins : (t : Token) (cs : List Command) → CanBegin t [] → length cs ≤ 200000 → AllFit cs → ephemerons_in cs ≡ 0 → registrations_in cs ≤ t.config.finals → CanBegin t cs
begins t cs b few fit none enlists = record {
  ready = record {
    inside = b.ready.inside;
    acts = b.ready.acts;
    idle = b.ready.idle;
    at_rest = b.ready.at_rest;
    few = few;
    room = omega (arith, none);
    enlists = enlists;
    none_listed = b.ready.none_listed;
    owes = b.ready.owes;
    labels = b.ready.labels;
    even = b.ready.even;
    remembers = b.ready.remembers;
    quiet = b.ready.quiet;
    no_copies = b.ready.no_copies;
    unprepared = b.ready.unprepared;
    none_began = b.ready.none_began;
  };
  no_commands = b.no_commands;
  no_replies = b.no_replies;
  fit = fit;
}
