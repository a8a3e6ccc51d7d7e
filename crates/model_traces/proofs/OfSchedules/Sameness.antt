-- What is reached in states that are the same but for garbage is the same list.
use Rattle.std.proofs.Common.{◌≡◌, ℕ, zero, suc, Bool, true, false, cond, List, [], ◌∷◌, ◌++◌, map, length, refl, sym, ap, ◌∙◌, None, Some}
use Rattle.std.specs.Prelude.{◌+◌, IsTrue, Option, filter_map, flat_map, fold, option_to_list, sum_by}
use Rattle.std.specs.List.{list_all}
use Rattle.std.specs.Option.{option_map_or}
use Rattle.std.proofs.lemmas.List.{length-map}
use Rattle.model_core.specs.declared.label.Label.{Label}
use Rattle.model_core.specs.declared.graph.Node.{Node}
use Rattle.model_core.specs.declared.graph.Node.TheVariants.{Plain, Raw, Ephe}
use Rattle.model_core.specs.declared.graph.Value.{Value}
use Rattle.model_core.specs.declared.state.DomainState.{DomainState}
use Rattle.model_core.specs.declared.state.Pending.{Pending}
use Rattle.model_core.specs.declared.state.State.{State}
use Rattle.model_core.specs.Graph.{has_label, label_of, node_at, words_at, words_of}
use Rattle.model_core.specs.Commands.{live_reply}
use Rattle.model_core.specs.declared.reply.Reply.TheVariants.{Live}
use Rattle.model_core.specs.Domains.{pending_label, queues, roots, waiting, settled_roots, reach, settled_reach}
use Rattle.model_core.specs.Reach.{key_holds, edges_of, edges_at, with_label, grow, grow_rounds, reachable}
use Rattle.model_core.specs.WellFormed.{names_of}
use Rattle.model_traces.specs.Schedules.Sameness.{AllAlive, AreSameDomains, IsSameBut}
use Rattle.model_traces.proofs.OfSchedules.Alive.{all_both, all_first, all_second}

-- a set grows by a label that passes
one_more : (t : Bool) (alive : Label → Bool) (live : List Label) (l : Label) → AllAlive alive live → IsTrue (alive l) → AllAlive alive (cond t live (live ++ l ∷ []))
one_more true alive live l a b = a
one_more false alive live l a b = all_both alive live (l ∷ []) a (b, tt)

all_added : (alive : Label → Bool) (live ls : List Label) → AllAlive alive live → AllAlive alive ls → AllAlive alive (fold with_label live ls)
all_added alive live [] a b = a
all_added alive live (l ∷ ls) a b = all_added alive (with_label live l) ls (one_more (has_label live l) alive live l a b.0) b.1

-- what a node keeps alive is among what it holds
kept_data : (t : Bool) (alive : Label → Bool) (ls : List Label) → AllAlive alive ls → AllAlive alive (cond t ls [])
kept_data true alive ls a = a
kept_data false alive ls a = tt

edges_held : (alive live : Label → Bool) (n : Node) → AllAlive alive (names_of n) → AllAlive alive (edges_of live n)
edges_held alive live (Plain tag fields) a = a
edges_held alive live (Raw tag fields) a = tt
edges_held alive live (Ephe keys datum) a = kept_data (list_all (key_holds live) keys) alive (option_to_list (label_of datum)) (all_second alive (filter_map (λ k. k) keys) (option_to_list (label_of datum)) a)

module _ (s t : State) (same : IsSameBut s t) where
  edges_in : (live : Label → Bool) (o : Option Node) → ((n : Node) → o ≡ Some n → AllAlive same.alive (names_of n)) → AllAlive same.alive (option_map_or (edges_of live) o [])
  edges_in live None each = tt
  edges_in live (Some n) each = edges_held same.alive live n (each n refl)

  all_edges : (live : Label → Bool) (ls : List Label) → AllAlive same.alive ls → AllAlive same.alive (flat_map (edges_at s.graph live) ls)
  all_edges live [] a = tt
  all_edges live (l ∷ ls) a = all_both same.alive (edges_at s.graph live l) (flat_map (edges_at s.graph live) ls) (edges_in live (node_at s.graph l) (λ n is. same.held.nodes l n a.0 is)) (all_edges live ls a.1)

  same_edges : (live : Label → Bool) (ls : List Label) → AllAlive same.alive ls → flat_map (edges_at t.graph live) ls ≡ flat_map (edges_at s.graph live) ls
  same_edges live [] a = refl
  same_edges live (l ∷ ls) a =
      ap (λ (o : Option Node). option_map_or (edges_of live) o [] ++ flat_map (edges_at t.graph live) ls) (same.nodes l a.0)
      ∙ ap (λ (ms : List Label). edges_at s.graph live l ++ ms) (same_edges live ls a.1)

  same_rounds : (n : ℕ) (live : List Label) → AllAlive same.alive live → grow_rounds n t.graph live ≡ grow_rounds n s.graph live
  same_rounds zero live a = refl
  same_rounds (suc n) live a =
      ap (λ (ls : List Label). grow_rounds n t.graph (fold with_label live ls)) (same_edges (has_label live) live a)
      ∙ same_rounds n (grow s.graph live) (all_added same.alive live (flat_map (edges_at s.graph (has_label live)) live) a (all_edges (has_label live) live a))

  -- what is reached from labels that pass passes
  rounds_alive : (n : ℕ) (live : List Label) → AllAlive same.alive live → AllAlive same.alive (grow_rounds n s.graph live)
  rounds_alive zero live a = a
  rounds_alive (suc n) live a = rounds_alive n (grow s.graph live) (all_added same.alive live (flat_map (edges_at s.graph (has_label live)) live) a (all_edges (has_label live) live a))

  pub reachable_alive : (ls : List Label) → AllAlive same.alive ls → AllAlive same.alive (reachable s.graph ls)
  unfolding reachable
  reachable_alive ls a = rounds_alive (length s.graph) (fold with_label [] ls) (all_added same.alive [] ls tt a)

  -- the blocks of labels that pass are as large
  add_words : (n : ℕ) (ls : List Label) → AllAlive same.alive ls → fold (λ (m : ℕ) (l : Label). m + words_at t.graph l) n ls ≡ fold (λ (m : ℕ) (l : Label). m + words_at s.graph l) n ls
  add_words n [] a = refl
  add_words n (l ∷ ls) a =
      ap (λ (o : Option Node). fold (λ (m : ℕ) (x : Label). m + words_at t.graph x) (n + option_map_or words_of o 0) ls) (same.nodes l a.0) ∙ add_words (n + words_at s.graph l) ls a.1

  pub same_words : (ls : List Label) → AllAlive same.alive ls → sum_by (words_at t.graph) ls ≡ sum_by (words_at s.graph) ls
  same_words ls a = add_words 0 ls a

  same_length : length t.graph ≡ length s.graph
  same_length = sym (length-map t.graph (λ e. e.0)) ∙ ap length same.labels_same ∙ length-map s.graph (λ e. e.0)

  -- what roots that pass reach is the same
  pub same_reachable : (ls : List Label) → AllAlive same.alive ls → reachable t.graph ls ≡ reachable s.graph ls
  unfolding reachable
  same_reachable ls a = ap (λ (n : ℕ). grow_rounds n t.graph (fold with_label [] ls)) same_length ∙ same_rounds (length s.graph) (fold with_label [] ls) (all_added same.alive [] ls tt a)

-- the roots are the same
same_registers : (xs ys : List DomainState) → AreSameDomains xs ys → flat_map (λ (x : DomainState). filter_map label_of x.registers) ys ≡ flat_map (λ (x : DomainState). filter_map label_of x.registers) xs
same_registers [] [] d = refl
same_registers [] (y ∷ ys) d = absurd d
same_registers (x ∷ xs) [] d = absurd d
same_registers (x ∷ xs) (y ∷ ys) d =
    ap (λ (rs : List Value). filter_map label_of rs ++ flat_map (λ (z : DomainState). filter_map label_of z.registers) ys) d.0.registers
    ∙ ap (λ (ls : List Label). filter_map label_of x.registers ++ ls) (same_registers xs ys d.1)

same_queues : (xs ys : List DomainState) → AreSameDomains xs ys → map (λ (x : DomainState). x.queue) ys ≡ map (λ (x : DomainState). x.queue) xs
same_queues [] [] d = refl
same_queues [] (y ∷ ys) d = absurd d
same_queues (x ∷ xs) [] d = absurd d
same_queues (x ∷ xs) (y ∷ ys) d = ap (λ (q : List Pending). q ∷ map (λ (z : DomainState). z.queue) ys) d.0.queue ∙ ap (λ (qs : List (List Pending)). x.queue ∷ qs) (same_queues xs ys d.1)

same_waiting : (xs ys : List DomainState) → AreSameDomains xs ys → flat_map (λ (x : DomainState). map (λ f. f.label) x.finals) ys ≡ flat_map (λ (x : DomainState). map (λ f. f.label) x.finals) xs
same_waiting [] [] d = refl
same_waiting [] (y ∷ ys) d = absurd d
same_waiting (x ∷ xs) [] d = absurd d
same_waiting (x ∷ xs) (y ∷ ys) d =
    ap (λ (fs : List _). map (λ f. f.label) fs ++ flat_map (λ (z : DomainState). map (λ f. f.label) z.finals) ys) d.0.finals
    ∙ ap (λ (ls : List Label). map (λ f. f.label) x.finals ++ ls) (same_waiting xs ys d.1)

pub same_roots : (s t : State) → IsSameBut s t → roots t (queues t) ≡ roots s (queues s)
same_roots s t same =
    ap (λ (ls : List Label). ls ++ flat_map (filter_map pending_label) (queues t)) (same_registers s.domains t.domains same.domains)
    ∙ ap (λ (qs : List (List Pending)). flat_map (λ (x : DomainState). filter_map label_of x.registers) s.domains ++ flat_map (filter_map pending_label) qs) (same_queues s.domains t.domains same.domains)

-- so is what they reach, also with the waiting registrations
pub same_reach : (s t : State) → IsSameBut s t → reach t ≡ reach s
same_reach s t same =
    ap (reachable t.graph) (same_roots s t same) ∙ same_reachable s t same (roots s (queues s)) (all_first same.alive (roots s (queues s)) (waiting s) same.held.roots)

pub same_settled : (s t : State) → IsSameBut s t → settled_reach t (queues t) ≡ settled_reach s (queues s)
same_settled s t same =
    ap (λ (ls : List Label). reachable t.graph (ls ++ waiting t)) (same_roots s t same)
    ∙ ap (λ (ls : List Label). reachable t.graph (roots s (queues s) ++ ls)) (same_waiting s.domains t.domains same.domains)
    ∙ same_reachable s t same (settled_roots s (queues s)) same.held.roots

-- so is what `full_major` answers
pub same_live : (s t : State) → IsSameBut s t → live_reply t ≡ live_reply s
same_live s t same =
    let rooted = all_first same.alive (roots s (queues s)) (waiting s) same.held.roots in
    let reached : reach t ≡ reach s = same_reach s t same in
    ap (λ (ls : List Label). Live (length ls) (sum_by (words_at t.graph) ls)) reached ∙ ap (Live (length (reach s))) (same_words s t same (reach s) (reachable_alive s t same (roots s (queues s)) rooted))
