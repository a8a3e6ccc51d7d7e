-- What a command does to the domains: but for `finalise` and `finalise_last` it leaves the registrations and the queues.
use Rattle.std.proofs.Common.{◌≡◌, ℕ, true, false, List, get_or, set, ◌+◌, refl, sym, ◌∙◌}
use Rattle.model_core.specs.declared.command.Command.{Command}
use Rattle.model_core.specs.declared.graph.Value.{Value}
use Rattle.model_core.specs.declared.graph.Node.{Node}
use Rattle.model_core.specs.declared.state.DomainState.{DomainState}
use Rattle.model_core.specs.declared.state.State.{State}
use Rattle.model_core.specs.Domains.{domain_at, with_register, no_domain}
use Rattle.model_core.specs.Commands.{allocated, outcome}
use Rattle.model_core.proofs.Commands.MoveLemmas.{moved, registers_one}

-- the same registrations and the same queue
pub record SameWork (x y : DomainState) : Type 0 where
  pub finals : y.finals ≡ x.finals
  pub lasts : y.lasts ≡ x.lasts
  pub queue : y.queue ≡ x.queue

-- what holds of the domains holds after a command, if it holds after each change that leaves the registrations and the queue
module _ (Q : List DomainState → Type 0) (change : (xs : List DomainState) (d : ℕ) (x : DomainState) → SameWork (get_or xs d no_domain) x → Q xs → Q (set xs d x)) where
  module _ (s : State) (q : Q s.domains) where
    work_register : (d r : ℕ) (v : Value) → Q (with_register s d r v).domains
    work_register d r v = change s.domains d _ (record { finals = refl; lasts = refl; queue = refl }) q

    work_allocated : (d dst : ℕ) (n : Node) → Q (allocated s d dst n).state.domains
    work_allocated d dst n =
        let made : DomainState = record (domain_at s d) { serial = (domain_at s d).serial + 1 } in
        let middle : Q (set s.domains d made) = change s.domains d made (record { finals = refl; lasts = refl; queue = refl }) q in
        change (set s.domains d made) d _ (record { finals = refl; lasts = refl; queue = refl }) middle

    pub work_outcome : (d : ℕ) (c : Command) → registers_one c ≡ false → Q (outcome s d c).state.domains
    work_outcome d c other = moved (λ t. Q t.domains) s d c (record {
      same = q;
      held = λ r v named. work_register d r v;
      written = λ l old new at found same named full. q;
      made = λ is dst n named full. work_allocated d dst n;
      registered = λ is f named. absurd (let clash : true ≡ false = sym is ∙ other in cc);
      registered_last = λ is f named. absurd (let clash : true ≡ false = sym is ∙ other in cc);
    })
