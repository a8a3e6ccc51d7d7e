-- What an entry of one domain leaves of everything else, and what it leaves of its own domain: one law for each case.
use Rattle.std.proofs.Common.{◌≡◌, ◌≢◌, ℕ, zero, suc, ◌+◌, ◌<◌, arith, Bool, true, false, eqb, eqb-true, eq-eqb, List, [], ◌∷◌, ◌++◌, map, length, get_or, set, Option, Some, None, refl, ap, sym, ◌∙◌, length-set, get_or-set_other}
use Rattle.model_core.specs.declared.label.Label.{Label}
use Rattle.model_core.specs.declared.command.Command.{Command}
use Rattle.model_core.specs.declared.entry.Entry.{Entry}
use Rattle.model_core.specs.declared.entry.Entry.TheVariants.{Command as CommandOf, End, Cut, Queue, Seal, Wipe, Last as LastOf, Collected, Done, Ran}
use Rattle.model_core.specs.declared.graph.Value.{Value}
use Rattle.model_core.specs.declared.graph.Value.TheVariants.{Block, Nothing}
use Rattle.model_core.specs.declared.graph.Node.{Node}
use Rattle.model_core.specs.declared.graph.Node.TheVariants.{Plain, Raw, Ephe}
use Rattle.model_core.specs.declared.state.Pending.{Pending}
use Rattle.model_core.specs.declared.state.Pending.TheVariants.{Fin, Last}
use Rattle.model_core.specs.declared.state.DomainState.{DomainState}
use Rattle.model_core.specs.declared.state.State.{State}
use Rattle.model_core.specs.Graph.{Graph, same_label, node_at, with_node}
use Rattle.model_core.specs.Domains.{domain_at, with_domain, with_register, with_block, no_domain}
use Rattle.model_core.specs.Commands.{allocated, outcome, after_command}
use Rattle.model_core.specs.Entries.{wiped, wiped_keys, with_wiped, with_last_queued, without_first, after_run, ended, next}
use Rattle.model_core.specs.History.{is_entry_of}
use Rattle.model_core.specs.Fronts.{EpheShape, shape_of, Grew, KeepsDomain, IsCalm}
use Rattle.model_core.proofs.Commands.MoveLemmas.{moved}
use Rattle.model_core.proofs.Graphs.GraphLemmas.{same_label-true, same_label_refl, node_at-with_node_same, node_at-with_node_other, node_at-append_old}

-- a part of each domain, after one was replaced by another that has it
pub part_set : {A : Type 0} (f : DomainState → A) (xs : List DomainState) (d : ℕ) (x : DomainState) → f x ≡ f (get_or xs d no_domain) → (k : ℕ) → f (get_or (set xs d x) k no_domain) ≡ f (get_or xs k no_domain)
part_set f [] d x same k = refl
part_set f (y ∷ xs) zero x same zero = same
part_set f (y ∷ xs) zero x same (suc k) = refl
part_set f (y ∷ xs) (suc d) x same zero = refl
part_set f (y ∷ xs) (suc d) x same (suc k) = part_set f xs d x same k

pub part_map : {A : Type 0} (f : DomainState → A) (g : DomainState → DomainState) → ((x : DomainState) → f (g x) ≡ f x) → (xs : List DomainState) (k : ℕ) → f (get_or (map g xs) k no_domain) ≡ f (get_or xs k no_domain)
part_map f g same [] k = refl
part_map f g same (x ∷ xs) zero = same x
part_map f g same (x ∷ xs) (suc k) = part_map f g same xs k

pub grew_same : (g h : Graph) → h ≡ g → Grew g h
grew_same g h same l n has = (n, ap (λ (x : Graph). node_at x l) same ∙ has, refl)

pub grew_after : (f g h : Graph) → Grew f g → Grew g h → Grew f h
grew_after f g h a b l n has = let first = a l n has in let second = b l first.0 first.1 in (second.0, second.1, second.2 ∙ first.2)

-- whether two labels are the same one
pub label_cases : (P : Type 0) (k l : Label) → (k ≡ l → P) → (k ≢ l → P) → P
label_cases P k l same other = go (same_label k l) refl
  where
    go : (b : Bool) → same_label k l ≡ b → P
    go true e = same (same_label-true k l e)
    go false e = other (λ at. absurd (let twice : true ≡ false = sym (same_label_refl l) ∙ (ap (λ (x : Label). same_label x l) (sym at) ∙ e) in cc))

grew_node : (g : Graph) (l : Label) (old new : Node) → node_at g l ≡ Some old → shape_of new ≡ shape_of old → Grew g (with_node g l new)
grew_node g l old new at same k n has = label_cases ((m : Node) × (node_at (with_node g l new) k ≡ Some m) × (shape_of m ≡ shape_of n)) k l
    (λ here.
    let found : node_at g l ≡ Some n = ap (node_at g) (sym here) ∙ has in
    let is : old ≡ n = cc (at, found) in
    (new, ap (node_at (with_node g l new)) here ∙ node_at-with_node_same g l new old at, same ∙ ap shape_of is))
    (λ other. (n, node_at-with_node_other g l k new other ∙ has, refl))

pub grew_append : (g : Graph) (e : Label × Node) → Grew g (g ++ e ∷ [])
grew_append g e l n has = (n, node_at-append_old g e l n has, refl)

-- what an entry of domain d leaves of everything but that domain's registers, serial and registrations
pub record Frame (d : ℕ) (s t : State) : Type 0 where
  pub elsewhere : (k : ℕ) → k ≢ d → domain_at t k ≡ domain_at s k
  pub mode : t.mode ≡ s.mode
  pub queue : (domain_at t d).queue ≡ (domain_at s d).queue
  pub ended : (domain_at t d).ended ≡ (domain_at s d).ended
  pub grew : Grew s.graph t.graph

frame_after : (d : ℕ) (s t u : State) → Frame d s t → Frame d t u → Frame d s u
frame_after d s t u a b = record {
  elsewhere = λ k other. b.elsewhere k other ∙ a.elsewhere k other;
  mode = b.mode ∙ a.mode;
  queue = b.queue ∙ a.queue;
  ended = b.ended ∙ a.ended;
  grew = grew_after s.graph t.graph u.graph a.grew b.grew;
}

module _ (d : ℕ) (s : State) where
  frame_same : Frame d s s
  frame_same = record { elsewhere = λ k other. refl; mode = refl; queue = refl; ended = refl; grew = grew_same s.graph s.graph refl }

  frame_with_domain : (x : DomainState) → x.queue ≡ (domain_at s d).queue → x.ended ≡ (domain_at s d).ended → Frame d s (with_domain s d x)
  frame_with_domain x queue ended = record {
    elsewhere = λ k other. get_or-set_other s.domains d k x no_domain other;
    mode = refl;
    queue = part_set (λ y. y.queue) s.domains d x queue d;
    ended = part_set (λ y. y.ended) s.domains d x ended d;
    grew = grew_same s.graph s.graph refl;
  }

  frame_with_register : (r : ℕ) (v : Value) → Frame d s (with_register s d r v)
  frame_with_register r v = frame_with_domain _ refl refl

  frame_with_block : (l : Label) (old new : Node) → node_at s.graph l ≡ Some old → shape_of new ≡ shape_of old → Frame d s (with_block s l new)
  frame_with_block l old new at same = record { elsewhere = λ k other. refl; mode = refl; queue = refl; ended = refl; grew = grew_node s.graph l old new at same }

  frame_grown : (e : Label × Node) (kept : ℕ) → Frame d s (record s { graph = s.graph ++ e ∷ []; kept = kept })
  frame_grown e kept = record { elsewhere = λ k other. refl; mode = refl; queue = refl; ended = refl; grew = grew_append s.graph e }

frame_allocated : (d : ℕ) (s : State) (dst : ℕ) (n : Node) → Frame d s (allocated s d dst n).state
frame_allocated d s dst n =
    let serial = (domain_at s d).serial + 1 in
    let l : Label = record { domain = d; serial = serial } in
    let made : State = with_domain s d (record (domain_at s d) { serial = serial }) in
    let grown : State = record made { graph = s.graph ++ (l, n) ∷ []; kept = s.kept + 1 } in
    frame_after d s made _ (frame_with_domain d s _ refl refl)
    (frame_after d made grown _ (frame_grown d made (l, n) (s.kept + 1)) (frame_with_register d grown dst (Block l)))

frame_outcome : (d : ℕ) (s : State) (c : Command) → Frame d s (outcome s d c).state
frame_outcome d s c = moved (Frame d s) s d c (record {
  same = frame_same d s;
  held = λ r v named. frame_with_register d s r v;
  written = λ l old new at found same named full. frame_with_block d s l old new found same;
  made = λ is dst n named full. frame_allocated d s dst n;
  registered = λ is f named. frame_with_domain d s _ refl refl;
  registered_last = λ is f named. frame_with_domain d s _ refl refl;
})

frame_after_command : (d : ℕ) (s t : State) → Frame d s t → Frame d s (after_command t d)
frame_after_command d s t frame = frame_after d s t _ frame (frame_with_domain d t _ refl refl)

-- the entry of a command leaves the other domains, the mode, the queues and who has ended as they were, and each block with its shape
pub frame_command : (s : State) (d : ℕ) (c : Command) (full : Bool) → Frame d s (next s (CommandOf d c full))
frame_command s d c true = frame_after_command d s s (frame_same d s)
frame_command s d c false = frame_after_command d s (outcome s d c).state (frame_outcome d s c)

-- the frame as a domain other than the entry's sees it
keeps_elsewhere : (s t : State) (d k : ℕ) → domain_at t k ≡ domain_at s k → KeepsDomain s t k
keeps_elsewhere s t d k same = record { registers = ap (λ (x : DomainState). x.registers) same; serial = ap (λ (x : DomainState). x.serial) same; ended = ap (λ (x : DomainState). x.ended) same }

keeps_with_domain : (s : State) (d : ℕ) (x : DomainState) → x.registers ≡ (domain_at s d).registers → x.serial ≡ (domain_at s d).serial → x.ended ≡ (domain_at s d).ended
    → (k : ℕ) → KeepsDomain s (with_domain s d x) k
keeps_with_domain s d x registers serial ended k = record {
  registers = part_set (λ y. y.registers) s.domains d x registers k;
  serial = part_set (λ y. y.serial) s.domains d x serial k;
  ended = part_set (λ y. y.ended) s.domains d x ended k;
}

keeps_with_other : (s : State) (d : ℕ) (x : DomainState) (k : ℕ) → k ≢ d → KeepsDomain s (with_domain s d x) k
keeps_with_other s d x k other = keeps_elsewhere s (with_domain s d x) d k (get_or-set_other s.domains d k x no_domain other)

keeps_map : (s t : State) (f : DomainState → DomainState) → t.domains ≡ map f s.domains → ((x : DomainState) → (f x).registers ≡ x.registers) → ((x : DomainState) → (f x).serial ≡ x.serial)
    → ((x : DomainState) → (f x).ended ≡ x.ended) → (k : ℕ) → KeepsDomain s t k
keeps_map s t f is registers serial ended k = record {
  registers = ap (λ (xs : List DomainState). (get_or xs k no_domain).registers) is ∙ part_map (λ y. y.registers) f registers s.domains k;
  serial = ap (λ (xs : List DomainState). (get_or xs k no_domain).serial) is ∙ part_map (λ y. y.serial) f serial s.domains k;
  ended = ap (λ (xs : List DomainState). (get_or xs k no_domain).ended) is ∙ part_map (λ y. y.ended) f ended s.domains k;
}

keeps_wiped : (s : State) (l : Label) (o : Option Node) (k : ℕ) → KeepsDomain s (with_wiped s l o) k
keeps_wiped s l None k = record { registers = refl; serial = refl; ended = refl }
keeps_wiped s l (Some n) k = record { registers = refl; serial = refl; ended = refl }

keeps_run : (s : State) (d : ℕ) (queue : List Pending) (k : ℕ) → k ≢ d → KeepsDomain s (after_run s d queue) k
keeps_run s d [] k other = record { registers = refl; serial = refl; ended = refl }
keeps_run s d (Fin number l r ∷ rest) k other =
    let ran : State = with_domain s d (without_first (domain_at s d) rest) in
    keeps_elsewhere s (with_register ran d r (Block l)) d k (get_or-set_other ran.domains d k _ no_domain other ∙ get_or-set_other s.domains d k _ no_domain other)
keeps_run s d (Last number ∷ rest) k other = keeps_with_other s d _ k other

pub not_same : (j k : ℕ) → eqb j k ≡ false → k ≢ j
not_same j k e same = let twice : true ≡ false = sym (eq-eqb j k (sym same)) ∙ e in cc

-- an entry that isn't of domain k leaves its registers, its serial and whether it has ended
pub keeps_next : (s : State) (e : Entry) (k : ℕ) → is_entry_of k e ≡ false → KeepsDomain s (next s e) k
keeps_next s (CommandOf d c full) k other = keeps_elsewhere s (next s (CommandOf d c full)) d k ((frame_command s d c full).elsewhere k (not_same d k other))
keeps_next s (End d) k other = keeps_with_other s d _ k (not_same d k other)
keeps_next s Cut k other = keeps_map s (next s Cut) (λ x. record x { low = length x.finals }) refl (λ x. refl) (λ x. refl) (λ x. refl) k
keeps_next s (Queue d places) k other = keeps_with_domain s d _ refl refl refl k
keeps_next s Seal k other = keeps_map s (next s Seal) (λ x. record x { low = length x.lasts }) refl (λ x. refl) (λ x. refl) (λ x. refl) k
keeps_next s (Wipe l keys) k other = let kept = keeps_wiped s l (wiped keys (node_at s.graph l)) k in record { registers = kept.registers; serial = kept.serial; ended = kept.ended }
keeps_next s (LastOf d place) k other = let kept = keeps_with_domain s d (with_last_queued (domain_at s d) place) refl refl refl k in record { registers = kept.registers; serial = kept.serial; ended = kept.ended }
keeps_next s Collected k other = keeps_map s (next s Collected) (λ x. record x { fresh = true }) refl (λ x. refl) (λ x. refl) (λ x. refl) k
keeps_next s Done k other = record { registers = refl; serial = refl; ended = refl }
keeps_next s (Ran d) k other = keeps_run s d (domain_at s d).queue k (not_same d k other)

wiped_length : (places : List ℕ) (keys : List (Option Label)) → length (wiped_keys places keys) ≡ length keys
wiped_length [] keys = refl
wiped_length (p ∷ ps) keys = length-set (wiped_keys ps keys) p None ∙ wiped_length ps keys

grew_wiped : (s : State) (l : Label) (places : List ℕ) (o : Option Node) → node_at s.graph l ≡ o → Grew s.graph (with_wiped s l (wiped places o)).graph
grew_wiped s l places None at = grew_same s.graph s.graph refl
grew_wiped s l places (Some (Plain tag fields)) at = grew_node s.graph l (Plain tag fields) (Plain tag fields) at refl
grew_wiped s l places (Some (Raw tag fields)) at = grew_node s.graph l (Raw tag fields) (Raw tag fields) at refl
grew_wiped s l places (Some (Ephe keys datum)) at = grew_node s.graph l (Ephe keys datum) (Ephe (wiped_keys places keys) Nothing) at (ap EpheShape (wiped_length places keys))

grew_run : (s : State) (d : ℕ) (queue : List Pending) → Grew s.graph (after_run s d queue).graph
grew_run s d [] = grew_same s.graph s.graph refl
grew_run s d (Fin number l r ∷ rest) = grew_same s.graph s.graph refl
grew_run s d (Last number ∷ rest) = grew_same s.graph s.graph refl

-- every entry leaves each block in the graph, with its shape
pub grew_next : (s : State) (e : Entry) → Grew s.graph (next s e).graph
grew_next s (CommandOf d c full) = (frame_command s d c full).grew
grew_next s (End d) = grew_same s.graph s.graph refl
grew_next s Cut = grew_same s.graph s.graph refl
grew_next s (Queue d places) = grew_same s.graph s.graph refl
grew_next s Seal = grew_same s.graph s.graph refl
grew_next s (Wipe l keys) = grew_wiped s l keys (node_at s.graph l) refl
grew_next s (LastOf d place) = grew_same s.graph s.graph refl
grew_next s Collected = grew_same s.graph s.graph refl
grew_next s Done = grew_same s.graph s.graph refl
grew_next s (Ran d) = grew_run s d (domain_at s d).queue

-- a calm state stays calm at a command and at an end
calm_frame : (d : ℕ) (s t : State) → Frame d s t → IsCalm s → IsCalm t
calm_frame d s t frame calm = record {
  mode = frame.mode ∙ calm.mode;
  queues = λ k. go k (eqb k d) refl;
} where
  go : (k : ℕ) (b : Bool) → eqb k d ≡ b → (domain_at t k).queue ≡ []
  go k true e = ap (λ n. (domain_at t n).queue) (eqb-true k d e) ∙ (frame.queue ∙ calm.queues d)
  go k false e = ap (λ (x : DomainState). x.queue) (frame.elsewhere k (λ same. absurd (let twice : true ≡ false = sym (eq-eqb k d same) ∙ e in cc))) ∙ calm.queues k

pub calm_command : (s : State) (d : ℕ) (c : Command) (full : Bool) → IsCalm s → IsCalm (next s (CommandOf d c full))
calm_command s d c full = calm_frame d s (next s (CommandOf d c full)) (frame_command s d c full)

pub calm_end : (s : State) (d : ℕ) → IsCalm s → IsCalm (next s (End d))
calm_end s d calm = record { mode = calm.mode; queues = λ k. part_set (λ y. y.queue) s.domains d (ended (domain_at s d)) refl k ∙ calm.queues k }

-- a domain that hasn't ended is one of the state's
pub inside_running : (xs : List DomainState) (d : ℕ) → (get_or xs d no_domain).ended ≡ false → d < length xs
inside_running [] d e = cc
inside_running (x ∷ xs) zero e = omega arith
inside_running (x ∷ xs) (suc d) e = let rest = inside_running xs d e in omega arith
