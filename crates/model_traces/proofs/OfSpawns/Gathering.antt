-- The fronts of all domains, once each has made its section, tell that the history is a run of the script.
use Rattle.std.proofs.Common.{◌≡◌, ℕ, ◌<◌, ◌≤◌, List, [], ◌∷◌, ◌++◌, ap, sym, ◌∙◌, subst, append_assoc, append-nil, arith}
use Rattle.model_core.specs.declared.command.Command.{Command}
use Rattle.model_core.specs.declared.entry.Entry.{Entry}
use Rattle.model_core.specs.declared.reply.Reply.{Reply}
use Rattle.model_core.specs.declared.state.Sizes.{Sizes}
use Rattle.model_core.specs.declared.state.State.{State}
use Rattle.model_core.specs.Domains.{opening}
use Rattle.model_core.specs.History.{state_after}
use Rattle.model_core.specs.Fronts.{IsFrontOf}
use Rattle.model_traces.specs.Spawns.Hidden.{prelude}
use Rattle.model_traces.specs.Spawns.Expansion.{Step, steps_from, IsSection, is_spawned, section_at, IsScriptRun}
use Rattle.model_traces.specs.Spawns.Printed.{printed_replies}
use Rattle.model_traces.proofs.OfSpawns.Growing.{steps_append, steps_others, printed_append, printed_others}

-- what a domain's front is once it has made its section
pub record HasMade (z : Sizes) (script : List (List Command)) (h : List Entry) (d : ℕ) : Type 0 where
  pub front : List Entry
  pub is_front : IsFrontOf d h front
  pub behind : List Entry
  pub begins : front ≡ prelude z.domains ++ behind
  pub makes : IsSection d (is_spawned script d) (section_at script d) (steps_from (state_after (opening z) (prelude z.domains)) behind d)

pub same_rest : (xs ys zs : List Entry) → xs ++ ys ≡ xs ++ zs → ys ≡ zs
same_rest [] ys zs e = e
same_rest (x ∷ xs) ys zs e = let later : xs ++ ys ≡ xs ++ zs = cc in same_rest xs ys zs later

module _ (z : Sizes) (script : List (List Command)) (h : List Entry) (some : 1 ≤ z.domains) (each : (d : ℕ) → d < z.domains → HasMade z script h d) where
  abbrev s1 : State
  s1 = state_after (opening z) (prelude z.domains)

  whole : (d : ℕ) (lt : d < z.domains) → h ≡ prelude z.domains ++ ((each d lt).behind ++ (each d lt).is_front.rest)
  whole d lt =
      let m = each d lt in
      m.is_front.appends ∙ ap (λ (f : List Entry). f ++ m.is_front.rest) m.begins ∙ append_assoc (prelude z.domains) m.behind m.is_front.rest

  pub gathered : IsScriptRun z script h
  gathered =
      let inside : 0 < z.domains = omega (arith, some) in
      let first = each 0 inside in
      record {
        behind = first.behind ++ first.is_front.rest;
        begins = whole 0 inside;
        sections = λ d lt.
            let m = each d lt in
            let same : first.behind ++ first.is_front.rest ≡ m.behind ++ m.is_front.rest = same_rest (prelude z.domains) _ _ (sym (whole 0 inside) ∙ whole d lt) in
            let steps : steps_from s1 (m.behind ++ m.is_front.rest) d ≡ steps_from s1 m.behind d =
            steps_append s1 m.behind m.is_front.rest d ∙ ap (λ (xs : List Step). steps_from s1 m.behind d ++ xs) (steps_others (state_after s1 m.behind) m.is_front.rest d m.is_front.others)
            ∙ append-nil (steps_from s1 m.behind d) in
            subst (λ (k : List Entry). IsSection d (is_spawned script d) (section_at script d) (steps_from s1 k d)) (sym same)
            (subst (λ (xs : List Step). IsSection d (is_spawned script d) (section_at script d) xs) (sym steps) m.makes);
      }

-- and a domain's front tells all that its section prints
pub printed_front : (z : Sizes) (d : ℕ) (h front : List Entry) → IsFrontOf d h front → printed_replies z h d ≡ printed_replies z front d
printed_front z d h front f =
    ap (λ (k : List Entry). printed_replies z k d) f.appends ∙ printed_append (opening z) front f.rest d
    ∙ ap (λ (rs : List Reply). printed_replies z front d ++ rs) (printed_others (state_after (opening z) front) f.rest d f.others) ∙ append-nil (printed_replies z front d)
