-- What a domain holds is there and reachable, and where `full_major` is answered nothing is left to take.
use Rattle.std.proofs.Common.{◌≡◌, ℕ, zero, suc, Bool, true, false, cond, not, ◌&&◌, ◌||◌, IsTrue, List, [], ◌∷◌, ◌++◌, map, flat_map, filter_map, replicate, length, slice_get, get_or, set, pos, Option, Some, None, refl, ap, ap₂, sym, ◌∙◌, subst}
use Rattle.std.specs.List.{list_all}
use Rattle.model_core.specs.declared.label.Label.{Label}
use Rattle.model_core.specs.declared.command.Command.{Command}
use Rattle.model_core.specs.declared.command.Command.TheVariants.{Alloc, AllocMaj, Raw as NewRaw, Ephe as NewEphe, FullMajor, Spawn, Argument, PutResult, Join}
use Rattle.model_core.specs.declared.entry.Entry.{Entry}
use Rattle.model_core.specs.declared.entry.Entry.TheVariants.{Command as CommandOf, End, Cut, Queue, Seal, Wipe, Last as LastOf, Collected, Done, Ran}
use Rattle.model_core.specs.declared.graph.Value.TheVariants.{Int, Nothing}
use Rattle.model_core.specs.declared.graph.Node.{Node}
use Rattle.model_core.specs.declared.graph.Node.TheVariants.{Plain, Raw, Ephe}
use Rattle.model_core.specs.declared.state.Mode.TheVariants.{Open, Cut as CutMode, Sealed, Answer}
use Rattle.model_core.specs.declared.state.Pending.{Pending}
use Rattle.model_core.specs.declared.state.Pending.TheVariants.{Fin, Last}
use Rattle.model_core.specs.declared.state.Finaliser.{Finaliser}
use Rattle.model_core.specs.declared.state.LastFinaliser.{LastFinaliser}
use Rattle.model_core.specs.declared.state.DomainState.{DomainState}
use Rattle.model_core.specs.declared.state.Sizes.{Sizes}
use Rattle.model_core.specs.declared.state.State.{State}
use Rattle.model_core.specs.Graph.{Graph, same_label, labels, has_label, label_of, node_at}
use Rattle.model_core.specs.Domains.{domain_at, no_domain, pending_label, queues, roots, reach, waiting, settled_reach, opening}
use Rattle.model_core.specs.Reach.{reachable, is_reachable}
use Rattle.model_core.specs.Commands.{FitsMode, CommandAllowed, new_plain, new_raw, after_command}
use Rattle.model_core.specs.Entries.{Allowed, is_some_and, is_dead, is_gone, is_let_go, has_keys, ephe_holds, wiped, with_wiped, after_run, next}
use Rattle.model_core.specs.History.{state_after, LegalFrom, Legal}
use Rattle.model_core.specs.Fronts.{Shape, PlainShape, RawShape, EpheShape, shape_of}
use Rattle.model_core.specs.Laws.{NothingPermitted}
use Rattle.model_core.specs.WellFormed.{IsWellFormed}
use Rattle.model_core.proofs.Graphs.GraphLemmas.{node_at-append_new}
use Rattle.model_core.proofs.Reach.ReachLemmas.{has-append_left, reachable_roots}
use Rattle.model_core.proofs.Commands.MoveLemmas.{outcome-mode}
use Rattle.model_core.proofs.Commands.FrameLemmas.{part_set, grew_next}
use Rattle.model_core.proofs.Collections.CollectedLemmas.{collected_law}
use Rattle.model_core.proofs.Collections.CutLemmas.{part_same}
use Rattle.model_core.proofs.Histories.NumberLemmas.{next_label_after}
use Rattle.model_core.proofs.Histories.WellFormedLemmas.{wf_after, wf_opening}
use Rattle.model_laws.specs.Histories.Held.{IsThere, made_shape, next_label, IsMade, BlocksKeepShape, HeldBlocksAreThere, FullMajorLeavesNothing}
use Rattle.model_laws.proofs.OfHistories.SplitLemmas.{legal_first, legal_rest, register_has, domain_has}

-- a block keeps its shape
grew_after : (s : State) (k : List Entry) (l : Label) (n : Node) → node_at s.graph l ≡ Some n → IsThere (state_after s k) l (shape_of n)
grew_after s [] l n at = record { node = n; found = at; shape_is = refl }
grew_after s (e ∷ k) l n at =
    let step = grew_next s e l n at in
    let rest = grew_after (next s e) k l step.0 step.1 in
    record { node = rest.node; found = rest.found; shape_is = rest.shape_is ∙ step.2 }

module _ (z : Sizes) (h k : List Entry) (d dst : ℕ) (legal : Legal z h) where
  abbrev before : State
  before = state_after (opening z) h

  made_there : (n : Node) → node_at (before.graph ++ (next_label before d, n) ∷ []) (next_label before d) ≡ Some n
  made_there n = node_at-append_new before.graph (next_label before d) n (next_label_after z h legal d)

with_shape : (s : State) (l : Label) (a b : Shape) → a ≡ b → IsThere s l a → IsThere s l b
with_shape s l a b same t = record { node = t.node; found = t.found; shape_is = t.shape_is ∙ same }

some_shape : (a b : Shape) → Some a ≡ Some b → a ≡ b
some_shape a b e = cc

length_same : {A : Type 0} (n : ℕ) (v : A) → length (replicate n v) ≡ n
length_same zero v = refl
length_same (suc n) v = ap suc (length_same n v)

pub shape_law : BlocksKeepShape
shape_law z h k d c shape legal is = go c (legal_first (opening z) h (CommandOf d c false ∷ k) legal) is
  where
    go : (c : Command) → Legal z h → made_shape c ≡ Some shape → IsMade z h k d c shape
    go (Alloc dst tag n) old is = record {
      answered = refl;
      there = with_shape _ _ _ shape (ap (λ m. PlainShape m tag) (length_same n (Int (pos 0))) ∙ some_shape (PlainShape n tag) shape is)
          (grew_after (next (state_after (opening z) h) (CommandOf d (Alloc dst tag n) false)) k _ (new_plain tag n) (made_there z h k d dst old (new_plain tag n)));
    }
    go (AllocMaj dst tag n) old is = record {
      answered = refl;
      there = with_shape _ _ _ shape (ap (λ m. PlainShape m tag) (length_same n (Int (pos 0))) ∙ some_shape (PlainShape n tag) shape is)
          (grew_after (next (state_after (opening z) h) (CommandOf d (AllocMaj dst tag n) false)) k _ (new_plain tag n) (made_there z h k d dst old (new_plain tag n)));
    }
    go (NewRaw dst tag n) old is = record {
      answered = refl;
      there = with_shape _ _ _ shape (ap (λ m. RawShape m tag) (length_same n (Int (pos 0))) ∙ some_shape (RawShape n tag) shape is)
          (grew_after (next (state_after (opening z) h) (CommandOf d (NewRaw dst tag n) false)) k _ (new_raw tag n) (made_there z h k d dst old (new_raw tag n)));
    }
    go (NewEphe dst n) old is = record {
      answered = refl;
      there = with_shape _ _ _ shape (ap EpheShape (length_same {A = Option Label} n None) ∙ some_shape (EpheShape n) shape is)
          (grew_after (next (state_after (opening z) h) (CommandOf d (NewEphe dst n) false)) k _ (Ephe (replicate n None) Nothing) (made_there z h k d dst old (Ephe (replicate n None) Nothing)));
    }
    go c old is = cc

-- a label that has a node has one
label_node : (g : Graph) (l : Label) → IsTrue (has_label (labels g) l) → (n : Node) × (node_at g l ≡ Some n)
label_node [] l h = cc
label_node (e ∷ g) l h = go (same_label e.0 l) h (label_node g l)
  where
    go : (b : Bool) → IsTrue (b || has_label (labels g) l) → (IsTrue (has_label (labels g) l) → (n : Node) × (node_at g l ≡ Some n)) → (n : Node) × (cond b (Some e.1) (node_at g l) ≡ Some n)
    go true h rest = (e.1, refl)
    go false h rest = rest h

pub held_law : HeldBlocksAreThere
held_law z h d r l held =
    let s : State = state_after (opening z) h in
    let wf : IsWellFormed s = wf_after (opening z) h (wf_opening z) in
    let found = label_node s.graph l ((wf.domains d).registers l (register_has (domain_at s d).registers r l held)) in
    let registers : List Label = flat_map (λ (x : DomainState). filter_map label_of x.registers) s.domains in
    record {
      node = found.0;
      found = found.1;
      reached = reachable_roots s.graph (roots s (queues s)) l (has-append_left registers (flat_map (filter_map pending_label) (queues s)) l
          (domain_has (λ (x : DomainState). filter_map label_of x.registers) refl s.domains d l (register_has (domain_at s d).registers r l held)));
    }

-- `full_major` changes nothing that a collection looks at
queues_set : (xs : List DomainState) (d : ℕ) (y : DomainState) → y.queue ≡ (get_or xs d no_domain).queue → map (λ (x : DomainState). x.queue) (set xs d y) ≡ map (λ (x : DomainState). x.queue) xs
queues_set [] d y same = refl
queues_set (x ∷ xs) zero y same = ap (λ t. t ∷ map (λ (x : DomainState). x.queue) xs) same
queues_set (x ∷ xs) (suc d) y same = ap (λ t. x.queue ∷ t) (queues_set xs d y same)

module _ (s : State) (d : ℕ) where
  abbrev after : State
  after = after_command s d

  abbrev mine : DomainState
  mine = record (domain_at s d) { fresh = false; due = length (domain_at s d).queue }

  roots_kept : (qs : List (List Pending)) → roots after qs ≡ roots s qs
  roots_kept qs = ap (λ t. t ++ flat_map (filter_map pending_label) qs) (part_same (λ (x : DomainState). filter_map label_of x.registers) s.domains d mine refl)

  queues_kept : queues after ≡ queues s
  queues_kept = queues_set s.domains d mine refl

  waiting_kept : waiting after ≡ waiting s
  waiting_kept = part_same (λ (x : DomainState). map (λ (f : Finaliser). f.label) x.finals) s.domains d mine refl

  reach_kept : reach after ≡ reach s
  reach_kept = ap (reachable s.graph) (ap (roots after) queues_kept ∙ roots_kept (queues s))

  settled_kept : settled_reach after (queues after) ≡ settled_reach s (queues s)
  settled_kept = ap (reachable s.graph) (ap₂ (λ a b. a ++ b) (ap (roots after) queues_kept ∙ roots_kept (queues s)) waiting_kept)

  nothing_kept : NothingPermitted s → NothingPermitted after
  nothing_kept none = record {
    keys = λ l h p. subst (λ z. has_keys (λ k. not (has_label z k)) (p ∷ []) (node_at s.graph l) ≡ false) (sym settled_kept)
        (none.keys l (subst (λ z. IsTrue (has_label z l)) reach_kept h) p);
    finals = λ k p. subst (λ (xs : List Finaliser). is_some_and (λ f. is_dead after after.cut f.label) (slice_get xs p) ≡ false) (sym (part_set (λ x. x.finals) s.domains d mine refl k))
        (subst (λ z. is_some_and (λ (f : Finaliser). not (is_reachable s.graph z f.label)) (slice_get (domain_at s k).finals p) ≡ false) (sym (roots_kept s.cut)) (none.finals k p));
    lasts = λ k p. subst (λ (xs : List LastFinaliser). is_some_and (λ f. is_gone after (queues after) f.label && is_let_go after f.label) (slice_get xs p) ≡ false) (sym (part_set (λ x. x.lasts) s.domains d mine refl k))
        (subst (λ z. is_some_and (λ (f : LastFinaliser). not (has_label z f.label) && list_all (λ x. not (ephe_holds f.label (node_at s.graph x))) z) (slice_get (domain_at s k).lasts p) ≡ false) (sym settled_kept) (none.lasts k p));
  }

-- a command other than `full_major` stands where no collection goes on
command_mode : (s : State) (d : ℕ) (c : Command) → FitsMode s d c → s.mode ≡ Answer → c ≡ FullMajor
command_mode s d FullMajor fits answer = refl
command_mode s d (Spawn section item) fits answer = absurd fits
command_mode s d (Argument dst) fits answer = absurd fits
command_mode s d (PutResult item) fits answer = absurd fits
command_mode s d (Join dst section) fits answer = absurd fits
command_mode s d c fits answer = absurd (let clash : Open ≡ Answer = sym fits.0 ∙ answer in cc)

wiped_mode : (s : State) (l : Label) (places : List ℕ) (o : Option Node) → (with_wiped s l (wiped places o)).mode ≡ s.mode
wiped_mode s l places None = refl
wiped_mode s l places (Some (Plain tag fields)) = refl
wiped_mode s l places (Some (Raw tag fields)) = refl
wiped_mode s l places (Some (Ephe keys datum)) = refl

run_mode : (s : State) (d : ℕ) (queue : List Pending) → (after_run s d queue).mode ≡ s.mode
run_mode s d [] = refl
run_mode s d (Fin number l r ∷ rest) = refl
run_mode s d (Last number ∷ rest) = refl

-- while `full_major` may be answered nothing is left to take
abbrev Spent : State → Type 0
Spent s = s.mode ≡ Answer → NothingPermitted s

spent_command : (s : State) (d : ℕ) (c : Command) (full : Bool) → CommandAllowed s d c full → s.mode ≡ Answer → NothingPermitted s → NothingPermitted (next s (CommandOf d c full))
spent_command s d c true allowed answer none = nothing_kept s d none
spent_command s d c false allowed answer none =
    let is : c ≡ FullMajor = command_mode s d c allowed.fits answer in
    subst (λ x. NothingPermitted (next s (CommandOf d x false))) (sym is) (nothing_kept s d none)

command_keeps_mode : (s : State) (d : ℕ) (c : Command) (full : Bool) → (next s (CommandOf d c full)).mode ≡ s.mode
command_keeps_mode s d c true = refl
command_keeps_mode s d c false = outcome-mode s d c

spent_next : (s : State) (e : Entry) → Allowed s e → Spent s → Spent (next s e)
spent_next s (CommandOf d c full) allowed spent = λ answer.
    let now : s.mode ≡ Answer = sym (command_keeps_mode s d c full) ∙ answer in
    spent_command s d c full allowed now (spent now)
spent_next s (End d) allowed spent = λ answer. absurd (let clash : Open ≡ Answer = sym allowed.mode ∙ answer in cc)
spent_next s Cut allowed spent = λ answer. absurd (let clash : CutMode ≡ Answer = answer in cc)
spent_next s (Queue d places) allowed spent = λ answer. absurd (let clash : CutMode ≡ Answer = sym allowed.mode ∙ answer in cc)
spent_next s Seal allowed spent = λ answer. absurd (let clash : Sealed ≡ Answer = answer in cc)
spent_next s (Wipe l places) allowed spent = λ answer. absurd (let clash : Sealed ≡ Answer = sym allowed.mode ∙ (sym (wiped_mode s l places (node_at s.graph l)) ∙ answer) in cc)
spent_next s (LastOf d place) allowed spent = λ answer. absurd (let clash : Sealed ≡ Answer = sym allowed.mode ∙ answer in cc)
spent_next s Collected allowed spent = λ answer. collected_law s allowed
spent_next s Done allowed spent = λ answer. absurd (let clash : Open ≡ Answer = answer in cc)
spent_next s (Ran d) allowed spent = λ answer. absurd (let clash : Open ≡ Answer = sym allowed.mode ∙ (sym (run_mode s d (domain_at s d).queue) ∙ answer) in cc)

spent_after : (s : State) (h : List Entry) → LegalFrom s h → Spent s → Spent (state_after s h)
spent_after s [] legal spent = spent
spent_after s (e ∷ h) legal spent = spent_after (next s e) h legal.1 (spent_next s e legal.0 spent)

pub spent_law : FullMajorLeavesNothing
spent_law z h d full legal =
    let s : State = state_after (opening z) h in
    let allowed = (legal_rest (opening z) h (CommandOf d FullMajor full ∷ []) legal).0 in
    spent_after (opening z) h (legal_first (opening z) h (CommandOf d FullMajor full ∷ []) legal) (λ answer. absurd (let clash : Open ≡ Answer = answer in cc)) allowed.fits.0
