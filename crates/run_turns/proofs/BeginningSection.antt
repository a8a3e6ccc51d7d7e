-- How a domain stands before the first command of its section.
use Rattle.std.proofs.Common.{◌≡◌, ◌∙◌, ℕ, Bool, true, false, cond, ◌==◌, ◌&&◌, List, [], ◌∷◌, ◌++◌, map, slice_get, refl, sym, ap, subst, arith}
use Rattle.std.specs.List.{range_with_len}
use Rattle.std.specs.Prelude.{◌-◌}
use Rattle.model_core.specs.declared.command.Command.{Command}
use Rattle.model_core.specs.declared.command.Command.TheVariants.{Load}
use Rattle.model_core.specs.declared.entry.Entry.{Entry}
use Rattle.model_core.specs.declared.entry.Entry.TheVariants.{Command as CommandOf}
use Rattle.model_core.specs.declared.state.State.{State}
use Rattle.model_core.specs.Domains.{opening}
use Rattle.model_core.specs.Entries.{next, reply}
use Rattle.model_core.specs.History.{reply_list, state_after}
use Rattle.heap_rule.specs.Limits.{sizes_in}
use Rattle.heap_rule.specs.Token.{Token}
use Rattle.gc_mark.specs.Decks.{DeckCounts}
use Rattle.gc_mark.specs.Slices.{IsDeckOf}
use Rattle.model_traces.specs.Spawns.Hidden.{prelude}
use Rattle.model_traces.specs.Spawns.Expansion.{Step, steps_from}
use Rattle.model_traces.specs.Spawns.Printed.{is_printed_entry, printed_replies, printed_replies_from}
use Rattle.model_traces.specs.Spawns.Progress.{IsSoFar}
use Rattle.model_traces.proofs.OfSpawns.Growing.{printed_append, printed_others, steps_others}
use Rattle.model_traces.proofs.OfSpawns.Progressing.{opens}
use Rattle.run_turns.specs.declared.supply.Supply.TheVariants.{Section}
use Rattle.run_turns.specs.Sections.{IsInSection, is_spawned_at, place_in}
use Rattle.run_turns.specs.Runs.{CanBeginSection, IsRun, first_place, standing}
use Rattle.run_turns.proofs.Beginning.{ready_is_run}

-- entries that print nothing
abbrev AllSilent : ℕ → List Entry → Type 0
AllSilent d [] = Unit {0}
AllSilent d (e ∷ h) = (is_printed_entry d e ≡ false) × AllSilent d h

silent_replies : (d : ℕ) (s : State) (h : List Entry) → AllSilent d h → printed_replies_from s h d ≡ []
silent_replies d s [] silent = refl
silent_replies d s (e ∷ h) silent = ap (λ (b : Bool). cond b (reply_list (reply s e)) [] ++ printed_replies_from (next s e) h d) silent.0 ∙ silent_replies d (next s e) h silent.1

both_silent : (d : ℕ) (g h : List Entry) → AllSilent d g → AllSilent d h → AllSilent d (g ++ h)
both_silent d [] h a b = b
both_silent d (e ∷ g) h a b = (a.0, both_silent d g h a.1 b)

never : (b : Bool) → b && false ≡ false
never true = refl
never false = refl

taking_silent : (d : ℕ) (ns : List ℕ) → AllSilent d (map (λ j. CommandOf j (Load 15 0 15) false) ns)
taking_silent d [] = tt
taking_silent d (n ∷ ns) = (never (n == d), taking_silent d ns)

prelude_silent : (d n : ℕ) → AllSilent d (prelude n)
prelude_silent d n = (never (0 == d), (never (0 == d), both_silent d (map (λ j. CommandOf j (Load 15 0 15) false) (range_with_len 1 (n - 1))) _ (taking_silent d (range_with_len 1 (n - 1))) (never (0 == d), (never (0 == d), (never (0 == d), tt)))))

begins_within : (t : Token) (cs : List Command) (spawned : Bool) → CanBeginSection t cs → IsInSection t.config t.view.own.number t.view.seen.front (first_place spawned) cs 0 []
begins_within t cs spawned can =
    let d : ℕ = t.view.own.number in
    let z = sizes_in t.config in
    let p : List Entry = prelude t.config.domains in
    let first : State = state_after (opening z) p in
    let none : steps_from first can.behind d ≡ [] = steps_others first can.behind d can.others in
    record {
      behind = can.behind;
      begins = can.begins;
      so_far = subst (λ (xs : List Step). IsSoFar d (is_spawned_at (first_place spawned)) (place_in (first_place spawned)) [] (slice_get cs 0) xs) (sym none) (by spawned);
      printed = ap (λ (h : List Entry). printed_replies z h d) can.begins ∙ (printed_append (opening z) p can.behind d
          ∙ (λ i. silent_replies d (opening z) p (prelude_silent d t.config.domains) i ++ printed_others first can.behind d can.others i));
      fitting = can.fitting;
      inside = let lt = can.ready.inside in let few = can.few_domains in omega arith;
    }
  where
    by : (b : Bool) → IsSoFar t.view.own.number (is_spawned_at (first_place b)) (place_in (first_place b)) [] (slice_get cs 0) []
    by true = opens t.view.own.number true (slice_get cs 0)
    by false = opens t.view.own.number false (slice_get cs 0)

-- a domain that may begin its section is a run of it
pub begins_section : (t : Token) (cs : List Command) (hints : DeckCounts) (spawned : Bool) → CanBeginSection t cs → IsDeckOf t.config t.view hints → IsRun (standing t cs hints Section (first_place spawned))
begins_section t cs hints spawned can deck = ready_is_run t cs hints Section (first_place spawned) can.ready deck can.fit tt refl (let few = can.ready.labels in omega arith) (λ handed. absurd handed) (λ _. begins_within t cs spawned can) (λ other. absurd (other refl))
