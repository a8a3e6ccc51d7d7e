-- Each entry keeps a state well formed, so that reachability has its law in every state of a legal history.
use Rattle.std.proofs.Common.{◌≡◌, ℕ, zero, suc, ◌+◌, Bool, true, false, cond, IsTrue, List, [], ◌∷◌, ◌++◌, map, reverse, length, flat_map, filter_map, option_to_list, replicate, get_or, set, pos, Option, Some, None, refl, ap, subst, ⊎_elim}
use Rattle.model_core.specs.declared.label.Label.{Label}
use Rattle.model_core.specs.declared.command.Command.{Command}
use Rattle.model_core.specs.declared.graph.Value.{Value}
use Rattle.model_core.specs.declared.graph.Value.TheVariants.{Int, Block, Nothing}
use Rattle.model_core.specs.declared.graph.Node.{Node}
use Rattle.model_core.specs.declared.graph.Node.TheVariants.{Plain, Raw, Ephe}
use Rattle.model_core.specs.declared.entry.Entry.{Entry}
use Rattle.model_core.specs.declared.entry.Entry.TheVariants.{Command as CommandOf, End, Cut, Queue, Seal, Wipe, Last as LastOf, Collected, Done, Ran}
use Rattle.model_core.specs.declared.state.Mode.{Mode}
use Rattle.model_core.specs.declared.state.Mode.TheVariants.{Cut as CutMode, Sealed, Answer}
use Rattle.model_core.specs.declared.state.Finaliser.{Finaliser}
use Rattle.model_core.specs.declared.state.LastFinaliser.{LastFinaliser}
use Rattle.model_core.specs.declared.state.Pending.{Pending}
use Rattle.model_core.specs.declared.state.Pending.TheVariants.{Fin, Last}
use Rattle.model_core.specs.declared.state.DomainState.{DomainState}
use Rattle.model_core.specs.declared.state.State.{State}
use Rattle.model_core.specs.Graph.{Graph, same_label, labels, has_label, label_of, node_at, with_node}
use Rattle.model_core.specs.Domains.{domain_at, with_domain, with_register, with_block, no_domain, pending_label, queues, roots, reach, opening, opening_domain, shared_label, shared_node}
use Rattle.model_core.specs.Reach.{IsClosedGraph, IsLeastClosed, edges_of, key_holds}
use Rattle.model_core.specs.declared.state.Sizes.{Sizes}
use Rattle.std.specs.List.{list_all}
use Rattle.std.specs.Option.{option_map_or}
use Rattle.model_core.specs.Commands.{with_final, with_last, allocated, outcome, after_command}
use Rattle.model_core.specs.Entries.{at_places, wiped_keys, wiped, with_wiped, in_mode, with_last_queued, without_first, after_run, next}
use Rattle.model_core.specs.History.{state_after}
use Rattle.model_core.specs.WellFormed.{names_of, HaveNodes, IsDomainNamed, IsWellFormed}
use Rattle.model_core.proofs.Graphs.GraphLemmas.{node_at-with_node_cases, node_at-append_cases, same_label_refl, labels-with_node}
use Rattle.model_core.proofs.Reach.ReachLemmas.{or_left, has-append_left, has-append_right, reach_law}
use Rattle.model_core.proofs.Commands.MoveLemmas.{moved}
use Rattle.model_core.proofs.Graphs.NamedLemmas.{have_none, have_append, have_left, have_right, have_cons, have_head, have_tail, have_option, have_rest, have_set, have_replicate, have_filter_map_append, remove_named, without_named, places_named, queued_finals_named, queued_lasts_named, wiped_keys_named, flat_named}

-- a part of each domain, after one was replaced
pub each_domain : (P : DomainState → Type 0) (xs : List DomainState) (d : ℕ) (x : DomainState) → P x → ((k : ℕ) → P (get_or xs k no_domain)) → (k : ℕ) → P (get_or (set xs d x) k no_domain)
each_domain P [] d x p each k = each k
each_domain P (y ∷ xs) zero x p each zero = p
each_domain P (y ∷ xs) zero x p each (suc k) = each (suc k)
each_domain P (y ∷ xs) (suc d) x p each zero = each zero
each_domain P (y ∷ xs) (suc d) x p each (suc k) = each_domain P xs d x p (λ j. each (suc j)) k

pub mapped_domain : (P : DomainState → Type 0) (f : DomainState → DomainState) (xs : List DomainState) → P no_domain → ((x : DomainState) → P x → P (f x))
    → ((k : ℕ) → P (get_or xs k no_domain)) → (k : ℕ) → P (get_or (map f xs) k no_domain)
mapped_domain P f [] none step each k = each k
mapped_domain P f (x ∷ xs) none step each zero = step x (each zero)
mapped_domain P f (x ∷ xs) none step each (suc k) = mapped_domain P f xs none step (λ j. each (suc j)) k

pub labels-append : (g h : Graph) → labels (g ++ h) ≡ labels g ++ labels h
labels-append [] h = refl
labels-append (e ∷ g) h = ap (λ t. e.0 ∷ t) (labels-append g h)

-- a graph with more labels
move_domain : (g h : Graph) → HaveNodes h (labels g) → (x : DomainState) → IsDomainNamed g x → IsDomainNamed h x
move_domain g h more x named = record {
  registers = λ l a. more l (named.registers l a);
  finals = λ l a. more l (named.finals l a);
  lasts = λ l a. more l (named.lasts l a);
  queue = λ l a. more l (named.queue l a);
}

module _ (s : State) (wf : IsWellFormed s) where
  wf_with_domain : (d : ℕ) (x : DomainState) → IsDomainNamed s.graph x → IsWellFormed (with_domain s d x)
  wf_with_domain d x named = record { domains = each_domain (IsDomainNamed s.graph) s.domains d x named wf.domains; nodes = wf.nodes; cut = wf.cut }

  wf_with_register : (d r : ℕ) (v : Value) → HaveNodes s.graph (option_to_list (label_of v)) → IsWellFormed (with_register s d r v)
  wf_with_register d r v named =
      let old = wf.domains d in
      wf_with_domain d _ (record { registers = have_set s.graph label_of (domain_at s d).registers r v old.registers named; finals = old.finals; lasts = old.lasts; queue = old.queue })

  wf_with_block : (l : Label) (n : Node) → HaveNodes s.graph (names_of n) → IsWellFormed (with_block s l n)
  wf_with_block l n named =
      let same : labels (with_node s.graph l n) ≡ labels s.graph = labels-with_node s.graph l n in
      let more : HaveNodes (with_node s.graph l n) (labels s.graph) = λ k h. rw same h in
      record {
        domains = λ d. move_domain s.graph (with_node s.graph l n) more _ (wf.domains d);
        nodes = λ k m h. ⊎_elim
            (λ new. λ j a. more j (named j (subst (λ z. IsTrue (has_label (names_of z) j)) new a)))
            (λ old. λ j a. more j (wf.nodes k m old j a))
            (node_at-with_node_cases s.graph l k n m h);
        cut = λ j a. more j (wf.cut j a);
      }

-- a new block
wf_allocated : (s : State) → IsWellFormed s → (d dst : ℕ) (n : Node) → HaveNodes s.graph (names_of n) → IsWellFormed (allocated s d dst n).state
wf_allocated s wf d dst n named =
    let serial = (domain_at s d).serial + 1 in
    let l : Label = record { domain = d; serial = serial } in
    let grown : Graph = s.graph ++ (l, n) ∷ [] in
    let old = wf.domains d in
    let made : IsWellFormed (with_domain s d (record (domain_at s d) { serial = serial })) =
    wf_with_domain s wf d _ (record { registers = old.registers; finals = old.finals; lasts = old.lasts; queue = old.queue }) in
    let same : labels grown ≡ labels s.graph ++ l ∷ [] = labels-append s.graph ((l, n) ∷ []) in
    let more : HaveNodes grown (labels s.graph) = λ k h. rw same (has-append_left (labels s.graph) (l ∷ []) k h) in
    let has_new : IsTrue (has_label (labels grown) l) = rw same (has-append_right (labels s.graph) (l ∷ []) l (or_left (same_label l l) false (same_label_refl l))) in
    let middle : State = record (with_domain s d (record (domain_at s d) { serial = serial })) { graph = grown; kept = s.kept + 1 } in
    let wf_middle : IsWellFormed middle = record {
      domains = λ k. move_domain s.graph grown more _ (made.domains k);
      nodes = λ k m h. ⊎_elim
          (λ new. λ j a. more j (named j (subst (λ z. IsTrue (has_label (names_of z) j)) new a)))
          (λ was. λ j a. more j (wf.nodes k m was j a))
          (node_at-append_cases s.graph (l, n) k m h);
      cut = λ j a. more j (wf.cut j a);
    } in
    wf_with_register middle wf_middle d dst (Block l) (have_cons grown l [] has_new (have_none grown))

module _ (s : State) (wf : IsWellFormed s) where
  labels_pushed : {A : Type 0} (f : A → Label) (xs : List A) (x : A) → HaveNodes s.graph (map f xs) → IsTrue (has_label (labels s.graph) (f x)) → HaveNodes s.graph (map f (xs ++ x ∷ []))
  labels_pushed f [] x p q = have_cons s.graph (f x) [] q (have_none s.graph)
  labels_pushed f (y ∷ xs) x p q = have_cons s.graph (f y) (map f (xs ++ x ∷ [])) (have_head s.graph (f y) (map f xs) p) (labels_pushed f xs x (have_tail s.graph (f y) (map f xs) p) q)

  wf_with_final : (d : ℕ) (f : Finaliser) → HaveNodes s.graph (f.label ∷ []) → IsWellFormed (with_final s d f)
  wf_with_final d f named =
      let old = wf.domains d in
      wf_with_domain s wf d _ (record {
        registers = old.registers;
        lasts = old.lasts;
        queue = old.queue;
        finals = labels_pushed (λ f. f.label) (domain_at s d).finals f old.finals (have_head s.graph f.label [] named);
      })

  wf_with_last : (d : ℕ) (f : LastFinaliser) → HaveNodes s.graph (f.label ∷ []) → IsWellFormed (with_last s d f)
  wf_with_last d f named =
      let old = wf.domains d in
      wf_with_domain s wf d _ (record {
        registers = old.registers;
        finals = old.finals;
        queue = old.queue;
        lasts = labels_pushed (λ f. f.label) (domain_at s d).lasts f old.lasts (have_head s.graph f.label [] named);
      })

  -- each command keeps a state well formed
  pub wf_outcome : (d : ℕ) (c : Command) → IsWellFormed (outcome s d c).state
  wf_outcome d c = moved IsWellFormed s d c (record {
    same = wf;
    held = λ r v named. wf_with_register s wf d r v (named wf);
    written = λ l old new at found same named full. wf_with_block s wf l new (named wf);
    made = λ is dst n named full. wf_allocated s wf d dst n named;
    registered = λ is f named. wf_with_final d f (named wf);
    registered_last = λ is f named. wf_with_last d f (named wf);
  })

pub queues_named : (g : Graph) (xs : List DomainState) → ((k : ℕ) → HaveNodes g (filter_map pending_label (get_or xs k no_domain).queue)) → HaveNodes g (flat_map (filter_map pending_label) (map (λ x. x.queue) xs))
queues_named g [] each = have_none g
queues_named g (x ∷ xs) each = have_append g (filter_map pending_label x.queue) _ (each zero) (queues_named g xs (λ k. each (suc k)))

no_domain_named : (g : Graph) → IsDomainNamed g no_domain
no_domain_named g = record { registers = have_none g; finals = have_none g; lasts = have_none g; queue = have_none g }

module _ (s : State) (wf : IsWellFormed s) where
  wf_in_mode : (m : Mode) (f : DomainState → DomainState) → ((x : DomainState) → IsDomainNamed s.graph x → IsDomainNamed s.graph (f x)) → IsWellFormed (in_mode s m f)
  wf_in_mode m f step = record {
    domains = mapped_domain (IsDomainNamed s.graph) f s.domains (no_domain_named s.graph) step wf.domains;
    nodes = wf.nodes;
    cut = wf.cut;
  }

  same_names : (x y : DomainState) → x.registers ≡ y.registers → x.finals ≡ y.finals → x.lasts ≡ y.lasts → x.queue ≡ y.queue → IsDomainNamed s.graph x → IsDomainNamed s.graph y
  same_names x y r f l q named = record {
    registers = subst (λ z. HaveNodes s.graph (filter_map label_of z)) r named.registers;
    finals = subst (λ (z : List Finaliser). HaveNodes s.graph (map (λ f. f.label) z)) f named.finals;
    lasts = subst (λ (z : List LastFinaliser). HaveNodes s.graph (map (λ f. f.label) z)) l named.lasts;
    queue = subst (λ z. HaveNodes s.graph (filter_map pending_label z)) q named.queue;
  }

  wf_after_command : (d : ℕ) → IsWellFormed (after_command s d)
  wf_after_command d = wf_with_domain s wf d _ (same_names (domain_at s d) _ refl refl refl refl (wf.domains d))

  wf_wiped : (l : Label) (keys : List ℕ) (o : Option Node) → node_at s.graph l ≡ o → IsWellFormed (with_wiped s l (wiped keys o))
  wf_wiped l places None e = wf
  wf_wiped l places (Some (Plain tag fields)) e = wf_with_block s wf l (Plain tag fields) (wf.nodes l (Plain tag fields) e)
  wf_wiped l places (Some (Raw tag fields)) e = wf_with_block s wf l (Raw tag fields) (wf.nodes l (Raw tag fields) e)
  wf_wiped l places (Some (Ephe keys datum)) e =
      let named = have_left s.graph (filter_map (λ k. k) keys) (option_to_list (label_of datum)) (wf.nodes l (Ephe keys datum) e) in
      wf_with_block s wf l _ (have_append s.graph (filter_map (λ k. k) (wiped_keys places keys)) [] (wiped_keys_named s.graph places keys named) (have_none s.graph))

-- a domain whose first queued finaliser has left the queue
module _ (s : State) (wf : IsWellFormed s) where
  wf_popped : (d : ℕ) (p : Pending) (rest : List Pending) → HaveNodes s.graph (filter_map pending_label (p ∷ rest)) → IsWellFormed (with_domain s d (without_first (domain_at s d) rest))
  wf_popped d p rest named =
      let old = wf.domains d in
      wf_with_domain s wf d _ (record { registers = old.registers; finals = old.finals; lasts = old.lasts; queue = have_rest s.graph (pending_label p) (filter_map pending_label rest) named })

  wf_after_run : (d : ℕ) (queue : List Pending) → HaveNodes s.graph (filter_map pending_label queue) → IsWellFormed (after_run s d queue)
  wf_after_run d [] named = wf
  wf_after_run d (Fin number l r ∷ rest) named =
      wf_with_register _ (wf_popped d (Fin number l r) rest named) d r (Block l) (have_option s.graph (Some l) (filter_map pending_label rest) named)
  wf_after_run d (Last number ∷ rest) named = wf_popped d (Last number) rest named

-- each entry keeps a state well formed
pub wf_next : (s : State) (e : Entry) → IsWellFormed s → IsWellFormed (next s e)
wf_next s (CommandOf d c true) wf = wf_after_command s wf d
wf_next s (CommandOf d c false) wf = wf_after_command (outcome s d c).state (wf_outcome s wf d c) d
wf_next s (End d) wf = wf_with_domain s wf d _ (record {
  registers = have_replicate s.graph label_of (length (domain_at s d).registers) Nothing refl;
  finals = have_none s.graph;
  lasts = have_none s.graph;
  queue = (wf.domains d).queue;
})
wf_next s Cut wf =
    let moved = wf_in_mode s wf CutMode (λ x. record x { low = length x.finals }) (λ x named. same_names s wf x _ refl refl refl refl named) in
    record { domains = moved.domains; nodes = moved.nodes; cut = queues_named s.graph s.domains (λ k. (wf.domains k).queue) }
wf_next s (Queue d places) wf =
    let old = wf.domains d in
    wf_with_domain s wf d _ (record {
      registers = old.registers;
      lasts = old.lasts;
      finals = without_named s.graph (λ f. f.label) places (domain_at s d).finals old.finals;
      queue = have_filter_map_append s.graph pending_label (domain_at s d).queue _ old.queue
          (queued_finals_named s.graph _ (places_named s.graph (λ f. f.label) (reverse places) (domain_at s d).finals old.finals));
    })
wf_next s Seal wf =
    let moved = wf_in_mode s wf Sealed (λ x. record x { low = length x.lasts }) (λ x named. same_names s wf x _ refl refl refl refl named) in
    record { domains = moved.domains; nodes = moved.nodes; cut = moved.cut }
wf_next s (Wipe l keys) wf =
    let emptied = wf_wiped s wf l keys (node_at s.graph l) refl in
    record { domains = emptied.domains; nodes = emptied.nodes; cut = emptied.cut }
wf_next s (LastOf d place) wf =
    let old = wf.domains d in
    let moved = wf_with_domain s wf d (with_last_queued (domain_at s d) place) (record {
      registers = old.registers;
      finals = old.finals;
      lasts = remove_named s.graph (λ f. f.label) (domain_at s d).lasts place old.lasts;
      queue = have_filter_map_append s.graph pending_label (domain_at s d).queue _ old.queue (queued_lasts_named s.graph (at_places (place ∷ []) (domain_at s d).lasts));
    }) in
    record { domains = moved.domains; nodes = moved.nodes; cut = moved.cut }
wf_next s Collected wf =
    let moved = wf_in_mode s wf Answer (λ x. record x { fresh = true }) (λ x named. same_names s wf x _ refl refl refl refl named) in
    record { domains = moved.domains; nodes = moved.nodes; cut = moved.cut }
wf_next s Done wf = record { domains = wf.domains; nodes = wf.nodes; cut = wf.cut }
wf_next s (Ran d) wf = wf_after_run s wf d (domain_at s d).queue (wf.domains d).queue

-- so does each history
pub wf_after : (s : State) (h : List Entry) → IsWellFormed s → IsWellFormed (state_after s h)
wf_after s [] wf = wf
wf_after s (e ∷ h) wf = wf_after (next s e) h (wf_next s e wf)

-- the opening state is well formed
replicated_domain : (P : DomainState → Type 0) (n : ℕ) (x : DomainState) → P x → P no_domain → (k : ℕ) → P (get_or (replicate n x) k no_domain)
replicated_domain P zero x p none k = none
replicated_domain P (suc n) x p none zero = p
replicated_domain P (suc n) x p none (suc k) = replicated_domain P n x p none k

empty_queues_named : (g : Graph) (n : ℕ) → HaveNodes g (flat_map (filter_map pending_label) (replicate n []))
empty_queues_named g zero = have_none g
empty_queues_named g (suc n) = empty_queues_named g n

pub wf_opening : (z : Sizes) → IsWellFormed (opening z)
wf_opening z =
    let g : Graph = (shared_label, shared_node) ∷ [] in
    record {
      domains = replicated_domain (IsDomainNamed g) z.domains opening_domain
          (record { registers = have_cons g shared_label (filter_map label_of (replicate 15 Nothing)) refl (have_replicate g label_of 15 Nothing refl); finals = have_none g; lasts = have_none g; queue = have_none g })
          (no_domain_named g);
      nodes = λ l n h. only (same_label shared_label l) n h;
      cut = empty_queues_named g z.domains;
    }
  where
    only : (b : Bool) (n : Node) → cond b (Some shared_node) None ≡ Some n → HaveNodes ((shared_label, shared_node) ∷ []) (names_of n)
    only true n h = let same : shared_node ≡ n = cc in
        subst (λ m. HaveNodes ((shared_label, shared_node) ∷ []) (names_of m)) same (have_replicate ((shared_label, shared_node) ∷ []) label_of 16 (Int (pos 0)) refl)
    only false n h = cc

-- what a well formed state keeps alive has nodes
kept_named : (g : Graph) (alive : Label → Bool) (o : Option Node) → ((n : Node) → o ≡ Some n → HaveNodes g (names_of n)) → HaveNodes g (option_map_or (edges_of alive) o [])
kept_named g alive None each = have_none g
kept_named g alive (Some (Plain tag fields)) each = each (Plain tag fields) refl
kept_named g alive (Some (Raw tag fields)) each = have_none g
kept_named g alive (Some (Ephe keys datum)) each =
    kept (list_all (key_holds alive) keys) (have_right g (filter_map (λ k. k) keys) (option_to_list (label_of datum)) (each (Ephe keys datum) refl))
  where
    kept : (b : Bool) → HaveNodes g (option_to_list (label_of datum)) → HaveNodes g (cond b (option_to_list (label_of datum)) [])
    kept true p = p
    kept false p = have_none g

pub closed_graph : (s : State) → IsWellFormed s → (qs : List (List Pending)) → HaveNodes s.graph (flat_map (filter_map pending_label) qs) → IsClosedGraph s.graph (roots s qs)
closed_graph s wf qs named = record {
  roots_have_nodes = have_append s.graph (flat_map (λ x. filter_map label_of x.registers) s.domains) (flat_map (filter_map pending_label) qs)
      (flat_named s.graph (λ x. filter_map label_of x.registers) no_domain s.domains (λ k h. (wf.domains k).registers)) named;
  edges_have_nodes = λ alive l. kept_named s.graph alive (node_at s.graph l) (λ n e. wf.nodes l n e);
}

-- after each history, `reach` is the least set that holds the roots and is closed
pub reach_after : (z : Sizes) (h : List Entry) → let s = state_after (opening z) h in IsLeastClosed s.graph (roots s (queues s)) (reach s)
reach_after z h =
    let s : State = state_after (opening z) h in
    let wf : IsWellFormed s = wf_after (opening z) h (wf_opening z) in
    reach_law s.graph (roots s (queues s)) (closed_graph s wf (queues s) (queues_named s.graph s.domains (λ k. (wf.domains k).queue)))
