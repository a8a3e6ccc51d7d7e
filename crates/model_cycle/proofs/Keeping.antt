-- After each history `kept` counts the labels that were kept.
use Rattle.std.proofs.Math.Seq.{drop-append_seam}
use Rattle.std.proofs.Common.{◌≡◌, ◌⊎◌, inl, inr, ⊎_elim, append-nil, ℕ, suc, ◌+◌, ◌*◌, ◌≤◌, arith, Bool, true, false, not, IsTrue, List, [], ◌∷◌, ◌++◌, drop, length, length-append, replicate, Option, Some, None, refl, ap, sym, ◌∙◌, subst}
use Rattle.model_core.specs.declared.label.Label.{Label}
use Rattle.model_core.specs.declared.command.Command.{Command}
use Rattle.model_core.specs.declared.command.Command.TheVariants.{Alloc, AllocMaj, Raw as NewRaw, Ephe as NewEphe}
use Rattle.model_core.specs.declared.entry.Entry.{Entry}
use Rattle.model_core.specs.declared.entry.Entry.TheVariants.{Command as CommandOf, End, Cut, Queue, Seal, Wipe, Last as LastOf, Collected, Done, Ran}
use Rattle.model_core.specs.declared.graph.Value.TheVariants.{Nothing}
use Rattle.model_core.specs.declared.graph.Node.{Node}
use Rattle.model_core.specs.declared.graph.Node.TheVariants.{Ephe}
use Rattle.model_core.specs.declared.state.Pending.{Pending}
use Rattle.model_core.specs.declared.state.Pending.TheVariants.{Fin, Last}
use Rattle.model_core.specs.declared.state.Sizes.{Sizes}
use Rattle.model_core.specs.declared.state.State.{State}
use Rattle.model_core.specs.Graph.{Graph, same_label, labels, has_label, has_no_repeats, node_at}
use Rattle.model_core.specs.Domains.{domain_at, queues, roots, reach, reserve, shared_label, opening}
use Rattle.model_core.specs.Commands.{new_plain, new_raw, outcome, is_allocation}
use Rattle.model_core.specs.Entries.{wiped, with_wiped, after_run, next}
use Rattle.model_core.specs.History.{state_after, LegalFrom, Legal}
use Rattle.model_core.specs.WellFormed.{IsWellFormed, IsNumbered}
use Rattle.model_core.proofs.Reach.LabelListLemmas.{length_within, no_repeats_append}
use Rattle.model_core.proofs.Reach.ReachLemmas.{never_not, Within, or_cases, and_both, has-append_cases, has-append_left, has-append_right, reachable_least}
use Rattle.model_core.proofs.Histories.WellFormedLemmas.{labels-append, closed_graph, queues_named, wf_next, wf_opening}
use Rattle.model_core.proofs.Commands.MoveLemmas.{moved}
use Rattle.model_core.proofs.Graphs.GraphLemmas.{same_label-true, labels-with_node}
use Rattle.model_core.proofs.Reach.ReachSizeLemmas.{reachable-no_repeats}
use Rattle.model_core.proofs.Histories.NumberLemmas.{numbered_next, numbered_opening, next_label-new}
use Rattle.model_cycle.specs.Fullness.{FullnessLaw, AllKept, is_collected, new_label, made, kept_next, kept_from, kept_labels, IsKept, AllHoldKept, IsNone, Differ}
use Rattle.model_cycle.specs.Marks.{IsWhole}
use Rattle.model_cycle.proofs.Tracing.{never}

-- the labels stay, or one comes to them
pub record Same (s t : State) : Type 0 where
  pub given : labels t.graph ≡ labels s.graph
  pub count : t.kept ≡ s.kept

pub record One (s t : State) : Type 0 where
  pub label : Label
  pub given : labels t.graph ≡ labels s.graph ++ label ∷ []
  pub count : t.kept ≡ s.kept + 1
  pub new : has_label (labels s.graph) label ≡ false

abbrev Grown : State → State → Type 0
Grown s t = Same s t ⊎ One s t

grown_same : (s t u : State) → labels u.graph ≡ labels t.graph → u.kept ≡ t.kept → Grown s t → Grown s u
grown_same s t u given count grown = ⊎_elim
    (λ same. inl (record { given = given ∙ same.given; count = count ∙ same.count }))
    (λ one. inr (record { label = one.label; given = given ∙ one.given; count = count ∙ one.count; new = one.new }))
    grown

-- an entry but Collected leaves the labels, or makes one
module _ (s : State) (numbered : IsNumbered s) where
  grown_outcome : (d : ℕ) (c : Command) → Grown s (outcome s d c).state
  grown_outcome d c = moved (Grown s) s d c (record {
    same = inl (record { given = refl; count = refl });
    held = λ r v named. inl (record { given = refl; count = refl });
    written = λ l old new at found same named full. inl (record { given = labels-with_node s.graph l new; count = refl });
    made = λ is dst n named full. inr (record {
      label = new_label s d;
      given = labels-append s.graph ((new_label s d, n) ∷ []);
      count = refl;
      new = next_label-new s numbered d;
    });
    registered = λ is f named. inl (record { given = refl; count = refl });
    registered_last = λ is f named. inl (record { given = refl; count = refl });
  })

  grown_wiped : (l : Label) (o : Option Node) → Grown s (with_wiped s l o)
  grown_wiped l None = inl (record { given = refl; count = refl })
  grown_wiped l (Some n) = inl (record { given = labels-with_node s.graph l n; count = refl })

  grown_run : (d : ℕ) (queue : List Pending) → Grown s (after_run s d queue)
  grown_run d [] = inl (record { given = refl; count = refl })
  grown_run d (Fin number l r ∷ rest) = inl (record { given = refl; count = refl })
  grown_run d (Last number ∷ rest) = inl (record { given = refl; count = refl })

-- what comes to the labels is what an entry made
length-labels : (g : Graph) → length (labels g) ≡ length g
length-labels [] = refl
length-labels (e ∷ g) = ap suc (length-labels g)

drop_grown : (s t : State) (more : List Label) → labels t.graph ≡ labels s.graph ++ more → drop (length s.graph) (labels t.graph) ≡ more
drop_grown s t more given =
    ap (λ n. drop n (labels t.graph)) (sym (length-labels s.graph)) ∙ (ap (drop (length (labels s.graph))) given ∙ drop-append_seam (labels s.graph) more)

kept_grown : (s t : State) (kept : List Label) → IsKept s kept → Grown s t → IsKept t (kept ++ drop (length s.graph) (labels t.graph))
kept_grown s t kept i grown = ⊎_elim
    (λ same.
    let none : drop (length s.graph) (labels t.graph) ≡ [] = drop_grown s t [] (same.given ∙ sym (append-nil (labels s.graph))) in
    subst (IsKept t) (sym (ap (λ z. kept ++ z) none ∙ append-nil kept)) (record {
      once = i.once;
      known = λ l h. subst (λ z. IsTrue (has_label z l)) (sym same.given) (i.known l h);
      count = i.count ∙ sym same.count;
    }))
    (λ one.
    let more : drop (length s.graph) (labels t.graph) ≡ one.label ∷ [] = drop_grown s t (one.label ∷ []) one.given in
    subst (λ z. IsKept t (kept ++ z)) (sym more) (record {
      once = no_repeats_append kept (one.label ∷ []) i.once refl (λ l a b. ⊎_elim
          (λ same. never (has_label (labels s.graph) one.label) one.new (i.known one.label (subst (λ z. IsTrue (has_label kept z)) (sym (same_label-true one.label l same)) a)))
          (λ none. let clash : false ≡ true = none in cc)
          (or_cases (same_label one.label l) false b));
      known = λ l h. subst (λ z. IsTrue (has_label z l)) (sym one.given) (⊎_elim
          (λ old. has-append_left (labels s.graph) (one.label ∷ []) l (i.known l old))
          (λ new. has-append_right (labels s.graph) (one.label ∷ []) l new)
          (has-append_cases kept (one.label ∷ []) l h));
      count = (let was = i.count in let now = one.count in length-append kept (one.label ∷ []) ∙ omega (arith, was, now));
    }))
    grown

-- after a Collected what is reachable is kept
kept_collected : (s : State) → IsWellFormed s → IsKept (next s Collected) (reach s)
kept_collected s wf =
    let graph = closed_graph s wf (queues s) (queues_named s.graph s.domains (λ k. (wf.domains k).queue)) in
    record {
      once = reachable-no_repeats s.graph (roots s (queues s));
      known = reachable_least s.graph (has_label (labels s.graph)) (λ l m at h. graph.edges_have_nodes (has_label (labels s.graph)) l m h) (roots s (queues s)) graph.roots_have_nodes;
      count = refl;
    }

pub kept_step : (s : State) (e : Entry) (kept : List Label) → IsWellFormed s → IsNumbered s → IsKept s kept → IsKept (next s e) (kept_next s e kept)
kept_step s (CommandOf d c true) kept wf numbered i = kept_grown s (next s (CommandOf d c true)) kept i (inl (record { given = refl; count = refl }))
kept_step s (CommandOf d c false) kept wf numbered i = kept_grown s (next s (CommandOf d c false)) kept i
    (grown_same s (outcome s d c).state (next s (CommandOf d c false)) refl refl (grown_outcome s numbered d c))
kept_step s (End d) kept wf numbered i = kept_grown s (next s (End d)) kept i (inl (record { given = refl; count = refl }))
kept_step s Cut kept wf numbered i = kept_grown s (next s Cut) kept i (inl (record { given = refl; count = refl }))
kept_step s (Queue d places) kept wf numbered i = kept_grown s (next s (Queue d places)) kept i (inl (record { given = refl; count = refl }))
kept_step s Seal kept wf numbered i = kept_grown s (next s Seal) kept i (inl (record { given = refl; count = refl }))
kept_step s (Wipe l keys) kept wf numbered i = kept_grown s (next s (Wipe l keys)) kept i
    (grown_same s (with_wiped s l (wiped keys (node_at s.graph l))) (next s (Wipe l keys)) refl refl (grown_wiped s numbered l (wiped keys (node_at s.graph l))))
kept_step s (LastOf d place) kept wf numbered i = kept_grown s (next s (LastOf d place)) kept i (inl (record { given = refl; count = refl }))
kept_step s Collected kept wf numbered i = kept_collected s wf
kept_step s Done kept wf numbered i = kept_grown s (next s Done) kept i (inl (record { given = refl; count = refl }))
kept_step s (Ran d) kept wf numbered i = kept_grown s (next s (Ran d)) kept i (grown_run s numbered d (domain_at s d).queue)

kept_after : (s : State) (h : List Entry) (kept : List Label) → LegalFrom s h → IsWellFormed s → IsNumbered s → IsKept s kept → IsKept (state_after s h) (kept_from s kept h)
kept_after s [] kept legal wf numbered i = i
kept_after s (e ∷ h) kept legal wf numbered i =
    kept_after (next s e) h (kept_next s e kept) legal.1 (wf_next s e wf) (numbered_next s e legal.0 numbered) (kept_step s e kept wf numbered i)

pub kept_counts : (z : Sizes) (h : List Entry) → Legal z h → IsKept (state_after (opening z) h) (kept_labels z h)
kept_counts z h legal = kept_after (opening z) h (shared_label ∷ []) legal (wf_opening z) (numbered_opening z) (record { once = refl; known = λ l h. h; count = refl })

kept_from-push : (s : State) (kept : List Label) (h : List Entry) (e : Entry) → kept_from s kept (h ++ e ∷ []) ≡ kept_next (state_after s h) e (kept_from s kept h)
kept_from-push s kept [] e = refl
kept_from-push s kept (f ∷ h) e = kept_from-push (next s f) (kept_next s f kept) h e

pub kept_push : (z : Sizes) (h : List Entry) (e : Entry) → kept_labels z (h ++ e ∷ []) ≡ kept_next (state_after (opening z) h) e (kept_labels z h)
kept_push z h e = kept_from-push (opening z) (shared_label ∷ []) h e

-- different pools hold different labels
module _ (kept : List Label) (pool_of : Label → Option ℕ) where
  witnesses : (ps : List ℕ) → AllHoldKept kept pool_of ps → List Label
  witnesses [] all = []
  witnesses (p ∷ ps) all = all.0.0 ∷ witnesses ps all.1

  witnesses_kept : (ps : List ℕ) (all : AllHoldKept kept pool_of ps) → Within (witnesses ps all) kept
  unfolding witnesses
  witnesses_kept [] all l h = cc
  witnesses_kept (p ∷ ps) all l h = ⊎_elim
      (λ here. subst (λ z. IsTrue (has_label kept z)) (same_label-true all.0.0 l here) all.0.1)
      (λ later. witnesses_kept ps all.1 l later)
      (or_cases (same_label all.0.0 l) (has_label (witnesses ps all.1) l) h)

  other_pools : (ps : List ℕ) (all : AllHoldKept kept pool_of ps) (p : ℕ) → IsNone p ps → (l : Label) → pool_of l ≡ Some p → IsTrue (has_label (witnesses ps all) l) → ⊥
  unfolding witnesses
  other_pools [] all p none l at h = let clash : false ≡ true = h in cc
  other_pools (q ∷ ps) all p none l at h = ⊎_elim
      (λ here. none.0 (let there : pool_of l ≡ Some q = subst (λ z. pool_of z ≡ Some q) (same_label-true all.0.0 l here) all.0.2 in cc))
      (λ later. other_pools ps all.1 p none.1 l at later)
      (or_cases (same_label all.0.0 l) (has_label (witnesses ps all.1) l) h)

  witnesses_once : (ps : List ℕ) (all : AllHoldKept kept pool_of ps) → Differ ps → IsTrue (has_no_repeats (witnesses ps all))
  unfolding witnesses
  witnesses_once [] all differ = refl
  witnesses_once (p ∷ ps) all differ = and_both (not (has_label (witnesses ps all.1) all.0.0)) (has_no_repeats (witnesses ps all.1))
      (never_not (has_label (witnesses ps all.1) all.0.0) (other_pools ps all.1 p differ.0 all.0.0 all.0.2))
      (witnesses_once ps all.1 differ.1)

  witnesses_length : (ps : List ℕ) (all : AllHoldKept kept pool_of ps) → length (witnesses ps all) ≡ length ps
  unfolding witnesses
  witnesses_length [] all = refl
  witnesses_length (p ∷ ps) all = ap suc (witnesses_length ps all.1)

  pub few_pools : (ps : List ℕ) → Differ ps → AllHoldKept kept pool_of ps → length ps ≤ length kept
  few_pools ps differ all =
      let le = length_within (witnesses ps all) kept (witnesses_once ps all differ) (witnesses_kept ps all) in
      let same = witnesses_length ps all in
      omega (arith, le, same)

-- so where no more pools are free than the reserve, much is kept
pub enough_kept : (s : State) (kept : List Label) → IsKept s kept → (pool_of : Label → Option ℕ) (holding : List ℕ) → Differ holding → AllHoldKept kept pool_of holding
    → (owned free : ℕ) → owned ≤ length holding + s.sizes.classes * s.sizes.domains → free + owned ≡ s.sizes.pools → free ≤ reserve s.sizes
    → s.sizes.pools ≤ s.kept + reserve s.sizes + s.sizes.classes * s.sizes.domains
enough_kept s kept i pool_of holding differ all owned free few are room =
    bound (s.sizes.classes * s.sizes.domains) (reserve s.sizes) (length kept) s.kept (length holding) few (few_pools kept pool_of holding differ all) i.count are room
  where
    bound : (c r k n h : ℕ) → owned ≤ h + c → h ≤ k → k ≡ n → free + owned ≡ s.sizes.pools → free ≤ r → s.sizes.pools ≤ n + r + c
    bound c r k n h a b e f g = omega arith

-- the blocks in pools keep having kept labels
pub all_kept_stays : (s : State) (e : Entry) (held : Label → Bool) (kept : List Label) → is_collected e ≡ false → AllKept held kept → AllKept held (kept_next s e kept)
all_kept_stays s Collected held kept other all l h = cc
all_kept_stays s e held kept other all l h = has-append_left kept (made s e) l (all l h)

pub makes_label : (s : State) (d : ℕ) (c : Command) (kept : List Label) → is_allocation c ≡ true → kept_next s (CommandOf d c false) kept ≡ kept ++ new_label s d ∷ []
makes_label s d (Alloc dst tag fields) kept is =
    ap (λ z. kept ++ z) (drop_grown s (next s (CommandOf d (Alloc dst tag fields) false)) (new_label s d ∷ []) (labels-append s.graph ((new_label s d, new_plain tag fields) ∷ [])))
makes_label s d (AllocMaj dst tag fields) kept is =
    ap (λ z. kept ++ z) (drop_grown s (next s (CommandOf d (AllocMaj dst tag fields) false)) (new_label s d ∷ []) (labels-append s.graph ((new_label s d, new_plain tag fields) ∷ [])))
makes_label s d (NewRaw dst tag fields) kept is =
    ap (λ z. kept ++ z) (drop_grown s (next s (CommandOf d (NewRaw dst tag fields) false)) (new_label s d ∷ []) (labels-append s.graph ((new_label s d, new_raw tag fields) ∷ [])))
makes_label s d (NewEphe dst keys) kept is =
    ap (λ z. kept ++ z) (drop_grown s (next s (CommandOf d (NewEphe dst keys) false)) (new_label s d ∷ []) (labels-append s.graph ((new_label s d, Ephe (replicate keys None) Nothing) ∷ [])))
makes_label s d c kept is = cc

pub all_kept_collected : (s : State) (held marked : Label → Bool) (kept : List Label) → ((l : Label) → IsTrue (held l) → IsTrue (marked l))
    → IsWhole s.graph (roots s (queues s)) marked → AllKept held (kept_next s Collected kept)
all_kept_collected s held marked kept within whole l h = whole l (within l h)

pub fullness_law : FullnessLaw
fullness_law = record { counts = kept_counts; push = kept_push; stays = all_kept_stays; makes = makes_label; collected = all_kept_collected; few = few_pools; enough = enough_kept }
