-- A domain to which the hidden block was handed may begin its section.
use Rattle.std.proofs.Common.{◌≡◌, ◌∙◌, ℕ, zero, suc, ◌%◌, ◌<◌, ◌≤◌, ◌++◌, ◌==◌, eqb-true, Bool, IsTrue, List, [], ◌∷◌, length, get_or, refl, sym, ap, subst, arith}
use Rattle.std.specs.List.{list_all}
use Rattle.model_core.specs.declared.command.Command.{Command}
use Rattle.model_core.specs.declared.state.DomainState.{DomainState}
use Rattle.model_core.specs.declared.state.Sizes.{Sizes}
use Rattle.model_core.specs.Domains.{no_domain, opening}
use Rattle.model_core.specs.Fronts.{IsFrontOf, NoneOf}
use Rattle.model_core.specs.History.{state_after}
use Rattle.model_core.proofs.Graphs.GraphLemmas.{and_parts}
use Rattle.heap_rule.specs.declared.config.Config.{Config}
use Rattle.heap_rule.specs.declared.view.Finalisers.{Finalisers}
use Rattle.heap_rule.specs.Limits.{sizes_in}
use Rattle.heap_rule.specs.Token.{Token, SharedHeap}
use Rattle.step_finalisers.specs.Registering.{count_of}
use Rattle.step_sweep.proofs.Dues.{due_at, due_front}
use Rattle.model_traces.specs.Spawns.Hidden.{prelude}
use Rattle.model_traces.specs.Spawns.Expansion.{AreFitting}
use Rattle.do_spawn.specs.Opening.{IsOpened}
use Rattle.run_turns.specs.declared.supply.Supply.TheVariants.{Section}
use Rattle.run_turns.specs.Sections.{AllFitIn}
use Rattle.run_turns.specs.Runs.{CanBeginSection, ephemerons_in, registrations_in}

-- behind the entries by which the hidden block is made no domain owes a finaliser
abbrev owes_none : DomainState → Bool
owes_none x = x.due == 0

abbrev OweNone : Sizes → Type 0
OweNone z = IsTrue (list_all owes_none (state_after (opening z) (prelude z.domains)).domains)

owe_at : (z : Sizes) (n : ℕ) → 1 ≤ n → n ≤ 8 → OweNone (record z { domains = n })
owe_at z zero some few = absurd (omega arith)
owe_at z (suc zero) some few = refl
owe_at z (suc (suc zero)) some few = refl
owe_at z (suc (suc (suc zero))) some few = refl
owe_at z (suc (suc (suc (suc zero)))) some few = refl
owe_at z (suc (suc (suc (suc (suc zero))))) some few = refl
owe_at z (suc (suc (suc (suc (suc (suc zero)))))) some few = refl
owe_at z (suc (suc (suc (suc (suc (suc (suc zero))))))) some few = refl
owe_at z (suc (suc (suc (suc (suc (suc (suc (suc zero)))))))) some few = refl
owe_at z (suc (suc (suc (suc (suc (suc (suc (suc (suc n))))))))) some few = absurd (omega arith)

each_none : (xs : List DomainState) → IsTrue (list_all owes_none xs) → (d : ℕ) → (get_or xs d no_domain).due ≡ 0
each_none [] all d = refl
each_none (x ∷ xs) all zero = eqb-true x.due 0 (and_parts (owes_none x) (list_all owes_none xs) all).0
each_none (x ∷ xs) all (suc d) = each_none xs (and_parts (owes_none x) (list_all owes_none xs) all).1 d

prelude_owes : (z : Sizes) (d : ℕ) → 1 ≤ z.domains → z.domains ≤ 8 → due_at (state_after (opening z) (prelude z.domains)) d ≡ 0
prelude_owes z d some few =
    let all : OweNone z = owe_at z z.domains some few in
    each_none (state_after (opening z) (prelude z.domains)).domains all d

pub opened_begins : (h : SharedHeap) (d : ℕ) (t : Token) (cs : List Command) → IsOpened h d t → d < h.config.domains → h.config.domains ≤ 8 → length cs ≤ 200000 → AllFitIn Section cs → AreFitting d cs → ephemerons_in cs ≤ h.config.ephes → registrations_in cs ≤ h.config.finals
    → CanBeginSection t cs
opened_begins h d t cs o inside few_domains few fit fitting room enlists =
    let runs = o.began.runs in
    let keeps = o.began.keeps in
    let stays = o.began.stays in
    let config : t.config ≡ h.config = runs.here.1 in
    let z = sizes_in h.config in
    let front : IsFrontOf d t.view.seen.front (prelude h.config.domains) = record { rest = o.behind; appends = o.front; others = o.others } in
    let owes : due_at (state_after (opening z) t.view.seen.front) d ≡ 0 = due_front (opening z) d t.view.seen.front (prelude h.config.domains) front ∙ prelude_owes z d (omega (arith, inside)) few_domains in
    record {
      ready = record {
        inside = subst (λ (w : ℕ × Config). w.0 < w.1.domains) (λ i. (sym keeps.number i, sym config i)) inside;
        acts = runs.acts;
        idle = runs.idle;
        at_rest = runs.at_rest;
        few = few;
        room = let more = keeps.ephemerons in omega (arith, room, more);
        enlists = subst (λ (k : Config). registrations_in cs ≤ k.finals) (sym config) enlists;
        none_listed = ap (λ (f : Finalisers). count_of f) keeps.finalisers;
        owes = subst (λ (w : Config × ℕ). due_at (state_after (opening (sizes_in w.0)) t.view.seen.front) w.1 ≡ 0) (λ i. (sym config i, sym keeps.number i)) owes;
        labels = let one = keeps.serial in omega (arith, one);
        even = subst (λ (n : ℕ). n % 2 ≡ 0) (sym keeps.arrivals) refl;
        remembers = runs.remembers;
        quiet = stays.copying;
        no_copies = ap (λ p. p.items) keeps.pending;
        unprepared = keeps.prepared;
        none_began = stays.progress;
      };
      few_domains = subst (λ (k : Config). k.domains ≤ 8) (sym config) few_domains;
      behind = o.behind;
      begins = subst (λ (k : Config). t.view.seen.front ≡ prelude k.domains ++ o.behind) (sym config) o.front;
      others = subst (λ (n : ℕ). NoneOf n o.behind) (sym keeps.number) o.others;
      fit = fit;
      fitting = subst (λ (n : ℕ). AreFitting n cs) (sym keeps.number) fitting;
    }
