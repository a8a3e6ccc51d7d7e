-- In a heap of one domain each entry that isn't the domain's is the collector's.
use Rattle.std.proofs.Common.{◌≡◌, ℕ, true, false, eq-eqb, IsTrue, List, [], ◌∷◌, ◌++◌, length, refl, sym, ◌∙◌, subst, arith, append_assoc}
use Rattle.std.proofs.lemmas.List.{length-replicate}
use Rattle.model_core.specs.declared.label.Label.{Label}
use Rattle.model_core.specs.declared.entry.Entry.{Entry}
use Rattle.model_core.specs.declared.entry.Entry.TheVariants.{Command as CommandOf, End, Cut, Queue, Seal, Wipe, Last as LastOf, Collected, Done, Ran}
use Rattle.model_core.specs.declared.command.Command.{Command}
use Rattle.model_core.specs.declared.reply.Reply.{Reply}
use Rattle.model_core.specs.declared.state.Mode.TheVariants.{Open}
use Rattle.model_core.specs.declared.state.Sizes.{Sizes}
use Rattle.model_core.specs.declared.state.State.{State}
use Rattle.model_core.specs.Graph.{Graph}
use Rattle.model_core.specs.Domains.{IsWithinLimits, domain_at, opening, opening_domain}
use Rattle.model_core.specs.Entries.{Allowed, next}
use Rattle.model_core.specs.Fronts.{NoneOf}
use Rattle.model_core.specs.History.{IsPrefix, Legal, state_after, is_entry_of}
use Rattle.model_core.proofs.Commands.FrameLemmas.{inside_running}
use Rattle.model_core.proofs.Histories.FrontLemmas.{none_cons}
use Rattle.model_core.proofs.Histories.ShapeAfterLemmas.{shaped-history}
use Rattle.model_core.proofs.Reach.ReachLemmas.{and_both}
use Rattle.weak_laws.specs.Tables.Performing.{Performed}
use Rattle.weak_laws.specs.Tables.Thinning.{AllCollector, Changes, IsTakenBy, WasOutside, is_collector, state_of}
use Rattle.weak_laws.specs.Tables.Stages.{graph_of}
use Rattle.weak_laws.proofs.OfTables.ChangeLemmas.{changes_more}
use Rattle.weak_laws.proofs.OfTables.CollectorLemmas.{collector_thins}
use Rattle.weak_laws.proofs.OfTables.StageLemmas.{later_outside, since_outside}
use Rattle.weak_laws.proofs.OfTables.StepLemmas.{is_major, legal_parts, step_open}
use Rattle.weak_laws.specs.Maps.Calls.{PerformedBy, registers_after}
use Rattle.weak_laws.proofs.OfMaps.FrontLemmas.{prefix_more, prefix_same}
use Rattle.weak_laws.proofs.OfMaps.RespectLemmas.{allowed_at, count_next, graph_push}

pub legal_before : (z : Sizes) (old new : List Entry) → IsPrefix old new → Legal z new → Legal z old
legal_before z old new grows legal = (legal_parts (opening z) old grows.rest (subst (Legal z) grows.appends legal)).0

count_along : (s : State) (h : List Entry) → length (state_after s h).domains ≡ length s.domains
count_along s [] = refl
count_along s (e ∷ h) = count_along (next s e) h ∙ count_next s e

-- over a wider stretch
pub was_wider : (z : Sizes) (a b c d : List Entry) → IsPrefix a b → IsPrefix c d → (k : Label) → WasOutside z b c k → WasOutside z a d k
was_wider z a b c d first last k w = later_outside z a c d k last (since_outside z a b c k first w)

module _ (z : Sizes) (one : z.domains ≡ 1) where
  the_domain : (front : List Entry) (d : ℕ) → (domain_at (state_of z front) d).ended ≡ false → d ≡ 0
  the_domain front d running =
      let below = inside_running (state_of z front).domains d running in
      let count : length (state_of z front).domains ≡ z.domains = count_along (opening z) front ∙ length-replicate z.domains opening_domain in
      omega (arith, below, count, one)

  pub collects : (front : List Entry) (e : Entry) → Allowed (state_of z front) e → is_entry_of 0 e ≡ false → IsTrue (is_collector e)
  collects front (CommandOf d c full) allowed other = let clash : true ≡ false = sym (eq-eqb d 0 (the_domain front d allowed.running)) ∙ other in cc
  collects front (End d) allowed other = let clash : true ≡ false = sym (eq-eqb d 0 (the_domain front d allowed.running)) ∙ other in cc
  collects front (Ran d) allowed other = let clash : true ≡ false = sym (eq-eqb d 0 (the_domain front d allowed.running)) ∙ other in cc
  collects front Cut allowed other = refl
  collects front (Queue d places) allowed other = refl
  collects front Seal allowed other = refl
  collects front (Wipe l keys) allowed other = refl
  collects front (LastOf d place) allowed other = refl
  collects front Collected allowed other = refl
  collects front Done allowed other = refl

  -- what one takes is outside reach, and taken by it
  pub other_thins : (f : List Entry) (e : Entry) → Legal z (f ++ e ∷ []) → is_entry_of 0 e ≡ false → Changes (WasOutside z f (f ++ e ∷ [])) [] (graph_of z f) (graph_of z (f ++ e ∷ []))
  other_thins f e legal other =
      let allowed : Allowed (state_of z f) e = allowed_at z f (f ++ e ∷ []) e legal (prefix_same (f ++ e ∷ [])) in
      let mine : IsTrue (is_collector e) = collects f e allowed other in
      changes_more (IsTakenBy (state_of z f) e) (WasOutside z f (f ++ e ∷ [])) [] [] (graph_of z f) (graph_of z (f ++ e ∷ []))
      (λ k t. record { front = f; since = prefix_same f; until = prefix_more f (e ∷ []); outside = t.outside; entry = e; through = prefix_same (f ++ e ∷ []); taken = t.taken }) (λ l h. h)
      (subst (λ (g : Graph). Changes (IsTakenBy (state_of z f) e) [] (graph_of z f) g) (sym (graph_push z f e)) (collector_thins (state_of z f) e mine allowed))

  -- a command of the domain, behind entries of the collector
  all_collect : (front between : List Entry) → NoneOf 0 between → Legal z (front ++ between) → AllCollector between
  all_collect front [] none legal = refl
  all_collect front (e ∷ between) none legal =
      let whole : (front ++ e ∷ []) ++ between ≡ front ++ e ∷ between = append_assoc front (e ∷ []) between in
      let later : Legal z ((front ++ e ∷ []) ++ between) = subst (Legal z) (sym whole) legal in
      let parts = none_cons 0 e between none in
      let allowed = allowed_at z front ((front ++ e ∷ []) ++ between) e later (prefix_more (front ++ e ∷ []) between) in
      and_both (is_collector e) _ (collects front e allowed parts.0) (all_collect (front ++ e ∷ []) between parts.1 later)

  pub performed : (old new : List Entry) (c : Command) (r : Reply) → PerformedBy z 0 old new c r → Performed z old new c r
  performed old new c r p = record {
    between = p.between;
    collector = all_collect old p.between p.others (legal_parts (opening z) (old ++ p.between) (CommandOf 0 c p.full ∷ []) (subst (Legal z) p.appends p.legal)).0;
    full = p.full;
    appends = p.appends;
    legal = p.legal;
    replies = p.replies;
  }

  -- behind which no collection is under way
  pub calm_behind : IsWithinLimits z → (old new : List Entry) (c : Command) (r : Reply) → is_major c ≡ false → PerformedBy z 0 old new c r → (state_of z new).mode ≡ Open
  calm_behind limits old new c r other p = step_open z limits old new c r (performed old new c r p) other

  -- the domain has sixteen registers
  pub registers_many : IsWithinLimits z → (h : List Entry) → length (registers_after z 0 h) ≡ 16
  registers_many limits h =
      let count : length (state_of z h).domains ≡ z.domains = count_along (opening z) h ∙ length-replicate z.domains opening_domain in
      (shaped-history z h limits).register_count 0 (omega (arith, count, one))
