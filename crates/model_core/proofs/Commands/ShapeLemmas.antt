-- The shape of a state: what every command keeps.
use Rattle.std.proofs.Common.{◌≡◌, ℕ, zero, suc, ◌+◌, ◌<◌, true, false, cond, List, [], ◌∷◌, ◌++◌, length, get_or, set, refl, ap, ◌∙◌, arith, length-set, length-append}
use Rattle.model_core.specs.declared.label.Label.{Label}
use Rattle.model_core.specs.declared.command.Command.{Command}
use Rattle.model_core.specs.declared.graph.Value.{Value}
use Rattle.model_core.specs.declared.graph.Value.TheVariants.{Block}
use Rattle.model_core.specs.declared.graph.Node.{Node}
use Rattle.model_core.specs.declared.state.DomainState.{DomainState}
use Rattle.model_core.specs.declared.state.State.{State}
use Rattle.model_core.specs.Graph.{Graph, same_label, with_node}
use Rattle.model_core.specs.Domains.{IsShaped, domain_at, with_domain, with_register, with_block, no_domain}
use Rattle.model_core.specs.Commands.{allocated, outcome, after_command}
use Rattle.model_core.proofs.Commands.MoveLemmas.{moved}

-- each list of domains in which one was replaced by another with 16 registers
registers_kept : (xs : List DomainState) (d : ℕ) (x : DomainState) → (d < length xs → length x.registers ≡ 16)
    → ((k : ℕ) → k < length xs → length (get_or xs k no_domain).registers ≡ 16)
    → (k : ℕ) → k < length xs → length (get_or (set xs d x) k no_domain).registers ≡ 16
registers_kept [] d x sixteen each k lt = absurd (omega arith)
registers_kept (y ∷ xs) zero x sixteen each zero lt = sixteen (omega arith)
registers_kept (y ∷ xs) zero x sixteen each (suc k) lt = each (suc k) lt
registers_kept (y ∷ xs) (suc d) x sixteen each zero lt = each zero lt
registers_kept (y ∷ xs) (suc d) x sixteen each (suc k) lt =
    registers_kept xs d x (λ h. sixteen (omega arith)) (λ j h. each (suc j) (omega arith)) k (omega arith)

pub length-with_node : (g : Graph) (l : Label) (n : Node) → length (with_node g l n) ≡ length g
length-with_node [] l n = refl
length-with_node (e ∷ g) l n =
    elim (same_label e.0 l) as (λ b. length (cond b ((e.0, n) ∷ g) (e ∷ with_node g l n)) ≡ suc (length g)) [
      | true ↦ refl
      | false ↦ ap suc (length-with_node g l n)
    ]

module _ (s : State) (shaped : IsShaped s) where
  pub shaped-with_domain : (d : ℕ) (x : DomainState) → (d < length s.domains → length x.registers ≡ 16) → IsShaped (with_domain s d x)
  shaped-with_domain d x sixteen = record {
    limits = shaped.limits;
    domain_count = length-set s.domains d x ∙ shaped.domain_count;
    register_count = λ k lt. registers_kept s.domains d x sixteen shaped.register_count k (rw length-set at lt);
    kept_bound = shaped.kept_bound;
  }

  pub shaped-with_block : (l : Label) (n : Node) → IsShaped (with_block s l n)
  shaped-with_block l n = record {
    limits = shaped.limits;
    domain_count = shaped.domain_count;
    register_count = shaped.register_count;
    kept_bound = rw length-with_node shaped.kept_bound;
  }

  pub shaped-with_register : (d r : ℕ) (v : Value) → IsShaped (with_register s d r v)
  shaped-with_register d r v =
      shaped-with_domain d _ (λ inside. length-set (domain_at s d).registers r v ∙ shaped.register_count d inside)

  pub shaped-after_command : (d : ℕ) → IsShaped (after_command s d)
  shaped-after_command d = shaped-with_domain d _ (shaped.register_count d)

pub shaped-allocated : (s : State) → IsShaped s → (d dst : ℕ) (n : Node) → IsShaped (allocated s d dst n).state
shaped-allocated s shaped d dst n =
    let serial = (domain_at s d).serial + 1 in
    let l : Label = record { domain = d; serial = serial } in
    let made : State = with_domain s d (record (domain_at s d) { serial = serial }) in
    let shaped_made : IsShaped made = shaped-with_domain s shaped d _ (shaped.register_count d) in
    let grown : State = record made { graph = s.graph ++ (l, n) ∷ []; kept = s.kept + 1 } in
    let shaped_grown : IsShaped grown = record {
      limits = shaped_made.limits;
      domain_count = shaped_made.domain_count;
      register_count = shaped_made.register_count;
      kept_bound = rw length-append (omega (arith, shaped.kept_bound));
    } in
    shaped-with_register grown shaped_grown d dst (Block l)

-- each command keeps the shape
pub shaped-outcome : (s : State) → IsShaped s → (d : ℕ) (c : Command) → IsShaped (outcome s d c).state
shaped-outcome s shaped d c = moved IsShaped s d c (record {
  same = shaped;
  held = λ r v named. shaped-with_register s shaped d r v;
  written = λ l old new at found same named full. shaped-with_block s shaped l new;
  made = λ is dst n named full. shaped-allocated s shaped d dst n;
  registered = λ is f named. shaped-with_domain s shaped d _ (shaped.register_count d);
  registered_last = λ is f named. shaped-with_domain s shaped d _ (shaped.register_count d);
})
