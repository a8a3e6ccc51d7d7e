-- States that are the same but for garbage, moved side by side: a register, the node of a block, a new block, a registration.
use Rattle.std.proofs.Common.{◌≡◌, ◌⊎◌, inl, inr, ℕ, ◌+◌, Bool, true, false, cond, ◌||◌, IsTrue, List, [], ◌∷◌, ◌++◌, option_to_list, option_map, option_and_then, Option, Some, None, refl, sym, ap, ◌∙◌, subst, ⊎_elim}
use Rattle.std.specs.Prelude.{slice_set, slice_index_or}
use Rattle.model_core.specs.declared.label.Label.{Label}
use Rattle.model_core.specs.declared.graph.Value.{Value}
use Rattle.model_core.specs.declared.graph.Value.TheVariants.{Block, Nothing}
use Rattle.model_core.specs.declared.graph.Node.{Node}
use Rattle.model_core.specs.declared.state.DomainState.{DomainState}
use Rattle.model_core.specs.declared.state.Finaliser.{Finaliser}
use Rattle.model_core.specs.declared.state.LastFinaliser.{LastFinaliser}
use Rattle.model_core.specs.declared.state.State.{State}
use Rattle.model_core.specs.Graph.{Graph, block_at, has_label, label_of, labels, node_at, same_label, with_node}
use Rattle.model_core.specs.Domains.{domain_at, label_in, register, with_block, with_domain, with_register}
use Rattle.model_core.specs.declared.reply.Reply.TheVariants.{Block as BlockReply}
use Rattle.model_core.specs.Commands.{Outcome, allocated, block_in, with_final, with_last}
use Rattle.model_core.specs.WellFormed.{names_of}
use Rattle.model_core.proofs.Graphs.GraphLemmas.{labels-with_node, node_at-append_cases, node_at-with_node_cases, node_at-with_node_other, node_at-with_node_same, same_label-true, same_label_refl}
use Rattle.model_core.proofs.Histories.WellFormedLemmas.{labels-append}
use Rattle.model_core.proofs.Histories.NumberLemmas.{no_label, node_at-no_label}
use Rattle.model_core.proofs.Reach.ReachLemmas.{or_cases, or_left, or_right}
use Rattle.model_traces.specs.Schedules.Sameness.{AllAlive, IsSameBut, IsSameDomain}
use Rattle.model_traces.proofs.OfSchedules.Alive.{all_at, all_map_push, all_set, all_weaker}
use Rattle.model_traces.proofs.OfSchedules.Holding.{AreDomainsHeld, IsDomainHeld, domains_held, held_again, held_at, in_finals, in_queue, in_registers, same_at, with_domains}

-- whether two labels are the same
pub label_cases : (m l : Label) → (m ≡ l) ⊎ ((m ≡ l) → ⊥)
label_cases m l = go (same_label m l) refl
  where
    go : (b : Bool) → same_label m l ≡ b → (m ≡ l) ⊎ ((m ≡ l) → ⊥)
    go true e = inl (same_label-true m l e)
    go false e = inr (λ same. let clash : true ≡ false = sym (same_label_refl l) ∙ subst (λ z. same_label z l ≡ false) same e in cc)

module _ (s t : State) (same : IsSameBut s t) where
  -- what a domain holds, and what the other state has of it
  pub held_domain : (d : ℕ) → IsDomainHeld same.alive (domain_at s d)
  held_domain d = held_at same.alive s.domains d (domains_held same.alive s same.held)

  pub same_domain : (d : ℕ) → IsSameDomain (domain_at s d) (domain_at t d)
  same_domain d = same_at s.domains t.domains d same.domains

  -- what a register holds
  pub same_register : (d r : ℕ) → register t d r ≡ register s d r
  same_register d r = ap (λ (vs : List Value). slice_index_or vs r Nothing) (same_domain d).registers

  pub held_register : (d r : ℕ) → AllAlive same.alive (option_to_list (label_of (register s d r)))
  held_register d r = all_at same.alive label_of (domain_at s d).registers r Nothing (held_domain d).registers tt

  pub same_label_in : (d r : ℕ) → label_in t d r ≡ label_in s d r
  same_label_in d r = ap label_of (same_register d r)

  -- the block in a register
  block_of : (o : Option Label) → AllAlive same.alive (option_to_list o) → option_and_then (block_at t.graph) o ≡ option_and_then (block_at s.graph) o
  block_of None a = refl
  block_of (Some l) a = ap (option_map (λ n. (l, n))) (same.nodes l a.0)

  pub same_block_in : (d r : ℕ) → block_in t d r ≡ block_in s d r
  same_block_in d r = ap (option_and_then (block_at t.graph)) (same_label_in d r) ∙ block_of (label_in s d r) (held_register d r)

  -- a register is set
  pub put_same : (d r : ℕ) (v : Value) → AllAlive same.alive (option_to_list (label_of v)) → IsSameBut (with_register s d r v) (with_register t d r v)
  put_same d r v a =
      let x : DomainState = domain_at s d in
      let y : DomainState = domain_at t d in
      let held = held_domain d in
      let is = same_domain d in
      with_domains s t same d (record x { registers = slice_set x.registers r v }) (record y { registers = slice_set y.registers r v })
      (record { registers = all_set same.alive label_of x.registers r v held.registers a; queue = held.queue; finals = held.finals })
      (record { registers = ap (λ (vs : List Value). slice_set vs r v) is.registers; serial = is.serial; ended = is.ended; finals = is.finals; lasts = is.lasts; queue = is.queue; fresh = is.fresh; due = is.due })

  -- a registration is added
  pub final_same : (d : ℕ) (f : Finaliser) → IsTrue (same.alive f.label) → IsSameBut (with_final s d f) (with_final t d f)
  final_same d f a =
      let x : DomainState = domain_at s d in
      let y : DomainState = domain_at t d in
      let held = held_domain d in
      let is = same_domain d in
      with_domains s t same d (record x { finals = x.finals ++ f ∷ [] }) (record y { finals = y.finals ++ f ∷ [] })
      (record { registers = held.registers; queue = held.queue; finals = all_map_push same.alive (λ (g : Finaliser). g.label) x.finals f held.finals a })
      (record { registers = is.registers; serial = is.serial; ended = is.ended; finals = ap (λ (fs : List Finaliser). fs ++ f ∷ []) is.finals; lasts = is.lasts; queue = is.queue; fresh = is.fresh; due = is.due })

  pub last_same : (d : ℕ) (f : LastFinaliser) → IsSameBut (with_last s d f) (with_last t d f)
  last_same d f =
      let x : DomainState = domain_at s d in
      let y : DomainState = domain_at t d in
      let held = held_domain d in
      let is = same_domain d in
      with_domains s t same d (record x { lasts = x.lasts ++ f ∷ [] }) (record y { lasts = y.lasts ++ f ∷ [] })
      (record { registers = held.registers; queue = held.queue; finals = held.finals })
      (record { registers = is.registers; serial = is.serial; ended = is.ended; finals = is.finals; lasts = ap (λ (fs : List LastFinaliser). fs ++ f ∷ []) is.lasts; queue = is.queue; fresh = is.fresh; due = is.due })

  -- the node of a block is replaced
  module _ (l : Label) (old new : Node) (alive : IsTrue (same.alive l)) (at : node_at s.graph l ≡ Some old) (names : AllAlive same.alive (names_of new)) where
    written_nodes : (m : Label) (n : Node) → IsTrue (same.alive m) → node_at (with_node s.graph l new) m ≡ Some n → AllAlive same.alive (names_of n)
    written_nodes m n a is = ⊎_elim
        (λ (here : n ≡ new). subst (λ (x : Node). AllAlive same.alive (names_of x)) (sym here) names)
        (λ (other : node_at s.graph m ≡ Some n). same.held.nodes m n a other)
        (node_at-with_node_cases s.graph l m new n is)

    written_same : (m : Label) → IsTrue (same.alive m) → node_at (with_node t.graph l new) m ≡ node_at (with_node s.graph l new) m
    written_same m a = ⊎_elim
        (λ (here : m ≡ l).
        let there : node_at t.graph l ≡ Some old = same.nodes l alive ∙ at in
        let both : node_at (with_node t.graph l new) l ≡ node_at (with_node s.graph l new) l = node_at-with_node_same t.graph l new old there ∙ sym (node_at-with_node_same s.graph l new old at) in
        subst (λ (x : Label). node_at (with_node t.graph l new) x ≡ node_at (with_node s.graph l new) x) (sym here) both)
        (λ (other : (m ≡ l) → ⊥). node_at-with_node_other t.graph l m new other ∙ same.nodes m a ∙ sym (node_at-with_node_other s.graph l m new other))
        (label_cases m l)

    pub write_same : IsSameBut (with_block s l new) (with_block t l new)
    write_same = record {
      alive = same.alive;
      held = held_again same.alive (with_block s l new) (domains_held same.alive s same.held) written_nodes;
      nodes = written_same;
      labels_same = labels-with_node t.graph l new ∙ same.labels_same ∙ sym (labels-with_node s.graph l new);
      domains = same.domains;
      sizes = same.sizes;
      mode = same.mode;
      kept = same.kept;
    }

-- a label with a node is one of the graph's
pub has_node : (g : Graph) (l : Label) (n : Node) → node_at g l ≡ Some n → has_label (labels g) l ≡ true
has_node [] l n e = cc
has_node (x ∷ g) l n e = go (same_label x.0 l) (has_node g l n) e
  where
    go : (b : Bool) → (node_at g l ≡ Some n → has_label (labels g) l ≡ true) → cond b (Some x.1) (node_at g l) ≡ Some n → (b || has_label (labels g) l) ≡ true
    go true rest e = refl
    go false rest e = rest e

-- a label more passes
abbrev more_alive : (Label → Bool) → Label → Label → Bool
more_alive alive l m = alive m || same_label m l

same_append : (g h : Graph) (e : Label × Node) (m : Label) → node_at h m ≡ node_at g m → node_at (h ++ e ∷ []) m ≡ node_at (g ++ e ∷ []) m
same_append g h e m is = node_at-append h e m ∙ ap (λ o. first_of o (node_at (e ∷ []) m)) is ∙ sym (node_at-append g e m)
  where
    first_of : Option Node → Option Node → Option Node
    first_of (Some n) o = Some n
    first_of None o = o

    node_at-append : (g : Graph) (e : Label × Node) (m : Label) → node_at (g ++ e ∷ []) m ≡ first_of (node_at g m) (node_at (e ∷ []) m)
    node_at-append [] e m = refl
    node_at-append (x ∷ g) e m = go (same_label x.0 m) (node_at-append g e m)
      where
        go : (b : Bool) → node_at (g ++ e ∷ []) m ≡ first_of (node_at g m) (node_at (e ∷ []) m) → cond b (Some x.1) (node_at (g ++ e ∷ []) m) ≡ first_of (cond b (Some x.1) (node_at g m)) (node_at (e ∷ []) m)
        go true rest = refl
        go false rest = rest

-- a domain whose labels pass a test
held_weaker : (alive more : Label → Bool) → ((l : Label) → IsTrue (alive l) → IsTrue (more l)) → (xs : List DomainState) → AreDomainsHeld alive xs → AreDomainsHeld more xs
held_weaker alive more w [] h = tt
held_weaker alive more w (x ∷ xs) h = (
  record {
    registers = all_weaker alive more w (in_registers x) h.0.registers;
    queue = all_weaker alive more w (in_queue x) h.0.queue;
    finals = all_weaker alive more w (in_finals x) h.0.finals;
  },
  held_weaker alive more w xs h.1,
)

-- a new block comes last
abbrev pub grown : State → Label → Node → State
grown s l n = record s { graph = s.graph ++ (l, n) ∷ []; kept = s.kept + 1 }

-- the same, and a label passes the test
pub record IsSameWith (s t : State) (l : Label) : Type 0 where
  pub same : IsSameBut s t
  pub passes : IsTrue (same.alive l)

module _ (s t : State) (same : IsSameBut s t) (l : Label) (n : Node) (new : node_at s.graph l ≡ None) (names : AllAlive same.alive (names_of n)) where
  abbrev more : Label → Bool
  more = more_alive same.alive l

  weaker : (m : Label) → IsTrue (same.alive m) → IsTrue (more m)
  weaker m a = or_left (same.alive m) (same_label m l) a

  grown_nodes : (m : Label) (x : Node) → IsTrue (more m) → node_at (s.graph ++ (l, n) ∷ []) m ≡ Some x → AllAlive more (names_of x)
  grown_nodes m x a is = ⊎_elim
      (λ (here : x ≡ n). subst (λ (y : Node). AllAlive more (names_of y)) (sym here) (all_weaker same.alive more weaker (names_of n) names))
      (λ (old : node_at s.graph m ≡ Some x). ⊎_elim
      (λ (b : IsTrue (same.alive m)). all_weaker same.alive more weaker (names_of x) (same.held.nodes m x b old))
      (λ (b : IsTrue (same_label m l)). let is_new : node_at s.graph m ≡ None = subst (λ z. node_at s.graph z ≡ None) (sym (same_label-true m l b)) new in cc)
      (or_cases (same.alive m) (same_label m l) a))
      (node_at-append_cases s.graph (l, n) m x is)

  none_there : node_at t.graph l ≡ None
  none_there = node_at-no_label t.graph l (ap (λ ls. has_label ls l) same.labels_same ∙ no_label s.graph l new)

  grown_same : (m : Label) → IsTrue (more m) → node_at (t.graph ++ (l, n) ∷ []) m ≡ node_at (s.graph ++ (l, n) ∷ []) m
  grown_same m a = same_append s.graph t.graph (l, n) m (⊎_elim
      (λ (b : IsTrue (same.alive m)). same.nodes m b)
      (λ (b : IsTrue (same_label m l)).
      let here : m ≡ l = same_label-true m l b in
      ap (node_at t.graph) here ∙ none_there ∙ sym new ∙ ap (node_at s.graph) (sym here))
      (or_cases (same.alive m) (same_label m l) a))

  pub grows_same : IsSameWith (grown s l n) (grown t l n) l
  grows_same = record {
    same = record {
      alive = more;
      held = held_again more (grown s l n) (held_weaker same.alive more weaker s.domains (domains_held same.alive s same.held)) grown_nodes;
      nodes = grown_same;
      labels_same = labels-append t.graph ((l, n) ∷ []) ∙ ap (λ ls. ls ++ l ∷ []) same.labels_same ∙ sym (labels-append s.graph ((l, n) ∷ []));
      domains = same.domains;
      sizes = same.sizes;
      mode = same.mode;
      kept = ap (λ k. k + 1) same.kept;
    };
    passes = or_right (same.alive l) (same_label l l) (same_label_refl l);
  }

-- the domain that has given out this serial
abbrev numbered : State → ℕ → ℕ → State
numbered s d serial = with_domain s d (record (domain_at s d) { serial = serial })

abbrev numbered_same : (s t : State) (same : IsSameBut s t) (d serial : ℕ) → IsSameBut (numbered s d serial) (numbered t d serial)
numbered_same s t same d serial =
    let held = held_domain s t same d in
    let is = same_domain s t same d in
    with_domains s t same d (record (domain_at s d) { serial = serial }) (record (domain_at t d) { serial = serial })
    (record { registers = held.registers; queue = held.queue; finals = held.finals })
    (record { registers = is.registers; serial = refl; ended = is.ended; finals = is.finals; lasts = is.lasts; queue = is.queue; fresh = is.fresh; due = is.due })

-- an allocation, by the serial of its label
abbrev made_with : State → ℕ → ℕ → Node → ℕ → Outcome
made_with s d dst n serial = record { reply = BlockReply (record { domain = d; serial = serial }); state = with_register (numbered (grown s (record { domain = d; serial = serial }) n) d serial) d dst (Block (record { domain = d; serial = serial })) }

-- what two states answer and leave is the same
pub record AreSame (x y : Outcome) : Type 0 where
  pub replies : y.reply ≡ x.reply
  pub states : IsSameBut x.state y.state

pub allocates_same : (s t : State) (same : IsSameBut s t) (d dst : ℕ) (n : Node) → node_at s.graph (record { domain = d; serial = (domain_at s d).serial + 1 }) ≡ None → AllAlive same.alive (names_of n) → AreSame (allocated s d dst n) (allocated t d dst n)
allocates_same s t same d dst n new names =
    let serial : ℕ = (domain_at s d).serial + 1 in
    let l : Label = record { domain = d; serial = serial } in
    let g = grows_same s t same l n new names in
    let m = numbered_same (grown s l n) (grown t l n) g.same d serial in
    let serials : (domain_at t d).serial + 1 ≡ serial = ap (λ k. k + 1) (same_domain s t same d).serial in
    subst (λ (y : Outcome). AreSame (made_with s d dst n serial) y) (ap (made_with t d dst n) (sym serials))
    (record { replies = refl; states = put_same (numbered (grown s l n) d serial) (numbered (grown t l n) d serial) m d dst (Block l) (g.passes, tt) })
