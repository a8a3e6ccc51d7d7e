-- What any queue entries of one collection leave of a domain's registrations of `finalise`: no word of it depends on how they were cut.
use Rattle.std.proofs.Common.{◌≡◌, ℕ, Bool, true, false, not, ◌&&◌, List, [], ◌∷◌, ◌++◌, map, length, refl, sym, ap, ◌∙◌, subst, ⊎_elim, None, Some}
use Rattle.std.specs.Prelude.{Option, filter_map, flat_map, reverse, slice_get}
use Rattle.std.specs.List.{list_all}
use Rattle.model_core.specs.declared.label.Label.{Label}
use Rattle.model_core.specs.declared.entry.Entry.{Entry}
use Rattle.model_core.specs.declared.entry.Entry.TheVariants.{Queue}
use Rattle.model_core.specs.declared.state.DomainState.{DomainState}
use Rattle.model_core.specs.declared.state.Finaliser.{Finaliser}
use Rattle.model_core.specs.declared.state.Pending.{Pending}
use Rattle.model_core.specs.declared.state.State.{State}
use Rattle.model_core.specs.Graph.{Graph, label_of}
use Rattle.model_core.specs.Domains.{no_domain, domain_at, pending_label}
use Rattle.model_core.specs.Reach.{is_reachable}
use Rattle.model_core.specs.Entries.{is_some_and, is_dead, queued_final, with_queued, QueueAllowed, next}
use Rattle.model_core.specs.History.{state_after, LegalFrom}
use Rattle.model_core.proofs.Collections.CutLemmas.{part_same}
use Rattle.model_core.proofs.Graphs.ListLemmas.{set_cases}
use Rattle.model_traces.specs.Schedules.Sameness.{is_queue}
use Rattle.model_traces.proofs.OfSchedules.Queued.{Part, dead_of, others_of, places_gone, all_queued_is, none_gone}

-- whether a registration is dead by the queues at the cut
abbrev pub dead_in : State → Finaliser → Bool
dead_in s f = is_dead s s.cut f.label

-- the labels in the registers of a domain
abbrev held : DomainState → List Label
held x = filter_map label_of x.registers

-- how far domain d has been queued since s
abbrev pub PartOf : State → ℕ → DomainState → Type 0
PartOf s d x = Part queued_final (dead_in s) (domain_at s d).finals (domain_at s d).queue x.finals x.queue x.low

-- since s nothing but queue entries were made
pub record During (s t : State) : Type 0 where
  pub graph : t.graph ≡ s.graph
  pub cut : t.cut ≡ s.cut
  pub registers : flat_map held t.domains ≡ flat_map held s.domains
  pub parts : (d : ℕ) → PartOf s d (domain_at t d)

-- what is dead stays so
dead_by : Graph → List Label → List (List Pending) → Label → Bool
dead_by g rs qs l = not (is_reachable g (rs ++ flat_map (filter_map pending_label) qs) l)

same_dead : (s t : State) → During s t → (f : Finaliser) → dead_in t f ≡ dead_in s f
same_dead s t r f =
    ap (λ (g : Graph). not (is_reachable g (flat_map held t.domains ++ flat_map (filter_map pending_label) t.cut) f.label)) r.graph
    ∙ ap (λ (rs : List Label). not (is_reachable s.graph (rs ++ flat_map (filter_map pending_label) t.cut) f.label)) r.registers
    ∙ ap (λ (qs : List (List Pending)). not (is_reachable s.graph (flat_map held s.domains ++ flat_map (filter_map pending_label) qs) f.label)) r.cut

same_test : (p q : Finaliser → Bool) → ((f : Finaliser) → p f ≡ q f) → (o : Option Finaliser) → is_some_and p o ≡ is_some_and q o
same_test p q each None = refl
same_test p q each (Some f) = each f

all_same : (p q : ℕ → Bool) → ((n : ℕ) → p n ≡ q n) → (ns : List ℕ) → list_all p ns ≡ list_all q ns
all_same p q each [] = refl
all_same p q each (n ∷ ns) = ap (λ b. b && list_all p ns) (each n) ∙ ap (λ b. q n && b) (all_same p q each ns)

-- one entry of domain e
own_part : (s t : State) (e : ℕ) (places : List ℕ) → During s t → QueueAllowed t e places → PartOf s e (with_queued (domain_at t e) places)
own_part s t e [] r a = let clash : false ≡ true = a.rising in cc
own_part s t e (p ∷ ps) r a =
    let x : DomainState = domain_at t e in
    let dead : list_all (λ n. is_some_and (dead_in s) (slice_get x.finals n)) (p ∷ ps) ≡ true =
    sym (all_same (λ n. is_some_and (dead_in t) (slice_get x.finals n)) (λ n. is_some_and (dead_in s) (slice_get x.finals n)) (λ n. same_test (dead_in t) (dead_in s) (same_dead s t r) (slice_get x.finals n)) (p ∷ ps)) ∙ a.dead in
    places_gone queued_final (dead_in s) (domain_at s e).finals (domain_at s e).queue x.finals x.queue x.low p ps (r.parts e) a.rising a.below dead

queue_step : (s t : State) (e : ℕ) (places : List ℕ) → During s t → QueueAllowed t e places → During s (next t (Queue e places))
queue_step s t e places r a =
    let y : DomainState = with_queued (domain_at t e) places in record {
      graph = r.graph;
      cut = r.cut;
      registers = part_same held t.domains e y refl ∙ r.registers;
      parts = λ d. ⊎_elim
          (λ (here : (d ≡ e) × (domain_at (next t (Queue e places)) d ≡ y)). subst (λ (x : DomainState). PartOf s d x) (sym here.1) (subst (λ (n : ℕ). PartOf s n y) (sym here.0) (own_part s t e places r a)))
          (λ (there : domain_at (next t (Queue e places)) d ≡ domain_at t d). subst (λ (x : DomainState). PartOf s d x) (sym there) (r.parts d))
          (set_cases t.domains e y no_domain d);
    }

-- any such entries
pub queues_during : (s t : State) (h : List Entry) → During s t → list_all is_queue h ≡ true → LegalFrom t h → During s (state_after t h)
queues_during s t [] r all legal = r
queues_during s t (Queue e places ∷ h) r all legal = queues_during s (next t (Queue e places)) h (queue_step s t e places r legal.0) all legal.1
queues_during s t (e ∷ h) r all legal = cc

-- at the cut
pub at_cut : (s : State) → ((d : ℕ) → (domain_at s d).low ≡ length (domain_at s d).finals) → During s s
at_cut s lows = record {
  graph = refl;
  cut = refl;
  registers = refl;
  parts = λ d. subst (λ (n : ℕ). Part queued_final (dead_in s) (domain_at s d).finals (domain_at s d).queue (domain_at s d).finals (domain_at s d).queue n) (sym (lows d)) (none_gone queued_final (dead_in s) (domain_at s d).finals (domain_at s d).queue);
}

-- once no dead one waits, what waits and what is queued are known
pub queues_known : (s : State) (h : List Entry) (d : ℕ) → ((d : ℕ) → (domain_at s d).low ≡ length (domain_at s d).finals) → list_all is_queue h ≡ true → LegalFrom s h
    → list_all (λ f. not (dead_in s f)) (domain_at (state_after s h) d).finals ≡ true
    → ((domain_at (state_after s h) d).finals ≡ others_of queued_final (dead_in s) (domain_at s d).finals)
    × ((domain_at (state_after s h) d).queue ≡ (domain_at s d).queue ++ map queued_final (reverse (dead_of queued_final (dead_in s) (domain_at s d).finals)))
queues_known s h d lows all legal none =
    let x : DomainState = domain_at (state_after s h) d in
    all_queued_is queued_final (dead_in s) (domain_at s d).finals (domain_at s d).queue x.finals x.queue x.low ((queues_during s s h (at_cut s lows) all legal).parts d) none
