-- Each entry keeps the shape of a state, so that each history leaves a state of this shape.
use Rattle.std.proofs.Common.{◌≡◌, ℕ, zero, suc, ◌<◌, ◌≤◌, true, false, List, [], ◌∷◌, map, length, get_or, replicate, Option, Some, None, refl, ap, ◌∙◌, arith}
use Rattle.std.proofs.lemmas.List.{length-map, length-replicate}
use Rattle.model_core.specs.declared.label.Label.{Label}
use Rattle.model_core.specs.declared.entry.Entry.{Entry}
use Rattle.model_core.specs.declared.entry.Entry.TheVariants.{Command as CommandOf, End, Cut, Queue, Seal, Wipe, Last as LastOf, Collected, Done, Ran}
use Rattle.model_core.specs.declared.graph.Value.TheVariants.{Block}
use Rattle.model_core.specs.declared.graph.Node.{Node}
use Rattle.model_core.specs.declared.graph.Node.TheVariants.{Plain, Raw, Ephe}
use Rattle.model_core.specs.declared.state.Mode.{Mode}
use Rattle.model_core.specs.declared.state.Mode.TheVariants.{Cut as CutMode, Sealed, Answer}
use Rattle.model_core.specs.declared.state.Pending.{Pending}
use Rattle.model_core.specs.declared.state.Pending.TheVariants.{Fin, Last}
use Rattle.model_core.specs.declared.state.DomainState.{DomainState}
use Rattle.model_core.specs.declared.state.Sizes.{Sizes}
use Rattle.model_core.specs.declared.state.State.{State}
use Rattle.model_core.specs.Graph.{node_at}
use Rattle.model_core.specs.Domains.{IsShaped, IsWithinLimits, domain_at, with_domain, no_domain, queues, roots, reach, opening, opening_domain}
use Rattle.model_core.specs.Commands.{outcome}
use Rattle.model_core.specs.Entries.{wiped, with_wiped, with_last_queued, without_first, in_mode, after_run, next}
use Rattle.model_core.specs.History.{state_after}
use Rattle.model_core.specs.WellFormed.{IsWellFormed}
use Rattle.model_core.proofs.Reach.ReachSizeLemmas.{reachable-length}
use Rattle.model_core.proofs.Histories.WellFormedLemmas.{closed_graph, queues_named, wf_next, wf_opening}
use Rattle.model_core.proofs.Commands.ShapeLemmas.{shaped-with_domain, shaped-with_block, shaped-with_register, shaped-after_command, shaped-outcome}

registers_mapped : (f : DomainState → DomainState) → ((x : DomainState) → (f x).registers ≡ x.registers) → (xs : List DomainState)
    → ((k : ℕ) → k < length xs → length (get_or xs k no_domain).registers ≡ 16) → (k : ℕ) → k < length xs → length (get_or (map f xs) k no_domain).registers ≡ 16
registers_mapped f same [] each k lt = absurd (omega arith)
registers_mapped f same (x ∷ xs) each zero lt = ap length (same x) ∙ each zero lt
registers_mapped f same (x ∷ xs) each (suc k) lt = registers_mapped f same xs (λ j h. each (suc j) (omega arith)) k (omega arith)

-- what is reachable is no more than the graph has
pub reach-length : (s : State) → IsWellFormed s → length (reach s) ≤ length s.graph
reach-length s wf = reachable-length s.graph (roots s (queues s)) (closed_graph s wf (queues s) (queues_named s.graph s.domains (λ k. (wf.domains k).queue)))

module _ (s : State) (shaped : IsShaped s) where
  shaped-in_mode : (m : Mode) (f : DomainState → DomainState) → ((x : DomainState) → (f x).registers ≡ x.registers) → IsShaped (in_mode s m f)
  shaped-in_mode m f same = record {
    limits = shaped.limits;
    domain_count = length-map s.domains f ∙ shaped.domain_count;
    register_count = λ k lt. registers_mapped f same s.domains shaped.register_count k (rw length-map at lt);
    kept_bound = shaped.kept_bound;
  }

  shaped-wiped : (l : Label) (places : List ℕ) (o : Option Node) → IsShaped (with_wiped s l (wiped places o))
  shaped-wiped l places None = shaped
  shaped-wiped l places (Some (Plain tag fields)) = shaped-with_block s shaped l _
  shaped-wiped l places (Some (Raw tag fields)) = shaped-with_block s shaped l _
  shaped-wiped l places (Some (Ephe keys datum)) = shaped-with_block s shaped l _

  shaped-after_run : (d : ℕ) (queue : List Pending) → IsShaped (after_run s d queue)
  shaped-after_run d [] = shaped
  shaped-after_run d (Fin number l r ∷ rest) =
      shaped-with_register (with_domain s d (without_first (domain_at s d) rest)) (shaped-with_domain s shaped d _ (shaped.register_count d)) d r (Block l)
  shaped-after_run d (Last number ∷ rest) = shaped-with_domain s shaped d _ (shaped.register_count d)

pub shaped-next : (s : State) (e : Entry) → IsWellFormed s → IsShaped s → IsShaped (next s e)
shaped-next s (CommandOf d c true) wf shaped = shaped-after_command s shaped d
shaped-next s (CommandOf d c false) wf shaped = shaped-after_command (outcome s d c).state (shaped-outcome s shaped d c) d
shaped-next s (End d) wf shaped =
    shaped-with_domain s shaped d _ (λ lt. length-replicate (length (domain_at s d).registers) _ ∙ shaped.register_count d lt)
shaped-next s Cut wf shaped =
    let moved : IsShaped (in_mode s CutMode (λ x. record x { low = length x.finals })) = shaped-in_mode s shaped CutMode _ (λ x. refl) in
    record { limits = moved.limits; domain_count = moved.domain_count; register_count = moved.register_count; kept_bound = moved.kept_bound }
shaped-next s (Queue d places) wf shaped = shaped-with_domain s shaped d _ (shaped.register_count d)
shaped-next s Seal wf shaped =
    let moved : IsShaped (in_mode s Sealed (λ x. record x { low = length x.lasts })) = shaped-in_mode s shaped Sealed _ (λ x. refl) in
    record { limits = moved.limits; domain_count = moved.domain_count; register_count = moved.register_count; kept_bound = moved.kept_bound }
shaped-next s (Wipe l keys) wf shaped =
    let emptied = shaped-wiped s shaped l keys (node_at s.graph l) in
    record { limits = emptied.limits; domain_count = emptied.domain_count; register_count = emptied.register_count; kept_bound = emptied.kept_bound }
shaped-next s (LastOf d place) wf shaped =
    let moved : IsShaped (with_domain s d (with_last_queued (domain_at s d) place)) = shaped-with_domain s shaped d _ (shaped.register_count d) in
    record { limits = moved.limits; domain_count = moved.domain_count; register_count = moved.register_count; kept_bound = moved.kept_bound }
shaped-next s Collected wf shaped =
    let moved : IsShaped (in_mode s Answer (λ x. record x { fresh = true })) = shaped-in_mode s shaped Answer _ (λ x. refl) in
    record { limits = moved.limits; domain_count = moved.domain_count; register_count = moved.register_count; kept_bound = reach-length s wf }
shaped-next s Done wf shaped = record { limits = shaped.limits; domain_count = shaped.domain_count; register_count = shaped.register_count; kept_bound = shaped.kept_bound }
shaped-next s (Ran d) wf shaped = shaped-after_run s shaped d (domain_at s d).queue

pub shaped-after : (s : State) (h : List Entry) → IsWellFormed s → IsShaped s → IsShaped (state_after s h)
shaped-after s [] wf shaped = shaped
shaped-after s (e ∷ h) wf shaped = shaped-after (next s e) h (wf_next s e wf) (shaped-next s e wf shaped)

replicated_registers : (n : ℕ) (k : ℕ) → k < length (replicate n opening_domain) → length (get_or (replicate n opening_domain) k no_domain).registers ≡ 16
replicated_registers zero k lt = absurd (omega arith)
replicated_registers (suc n) zero lt = refl
replicated_registers (suc n) (suc k) lt = replicated_registers n k (omega arith)

pub shaped-opening : (z : Sizes) → IsWithinLimits z → IsShaped (opening z)
shaped-opening z limits = record {
  limits = limits;
  domain_count = length-replicate z.domains opening_domain;
  register_count = replicated_registers z.domains;
  kept_bound = omega arith;
}

-- after each history: 16 registers in each domain, and `kept` no more than the labels that were ever given out
pub shaped-history : (z : Sizes) (h : List Entry) → IsWithinLimits z → IsShaped (state_after (opening z) h)
shaped-history z h limits = shaped-after (opening z) h (wf_opening z) (shaped-opening z limits)
