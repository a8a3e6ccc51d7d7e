-- Each label's serial is at most its domain's, so that the label of a new block is new.
use Rattle.std.proofs.Common.{◌≡◌, ℕ, zero, suc, ◌+◌, ◌<◌, ◌≤◌, Bool, true, false, cond, ◌||◌, IsTrue, List, [], ◌∷◌, ◌++◌, length, get_or, set, Option, Some, None, refl, ap, ◌∙◌, subst, ⊎_elim, arith, get_or-set_same}
use Rattle.model_core.specs.declared.label.Label.{Label}
use Rattle.model_core.specs.declared.command.Command.{Command}
use Rattle.model_core.specs.declared.entry.Entry.{Entry}
use Rattle.model_core.specs.declared.entry.Entry.TheVariants.{Command as CommandOf, End, Cut, Queue, Seal, Wipe, Last as LastOf, Collected, Done, Ran}
use Rattle.model_core.specs.declared.graph.Value.{Value}
use Rattle.model_core.specs.declared.graph.Value.TheVariants.{Block}
use Rattle.model_core.specs.declared.graph.Node.{Node}
use Rattle.model_core.specs.declared.graph.Node.TheVariants.{Plain, Raw, Ephe}
use Rattle.model_core.specs.declared.state.Pending.{Pending}
use Rattle.model_core.specs.declared.state.Pending.TheVariants.{Fin, Last}
use Rattle.model_core.specs.declared.state.DomainState.{DomainState}
use Rattle.model_core.specs.declared.state.Sizes.{Sizes}
use Rattle.model_core.specs.declared.state.State.{State}
use Rattle.model_core.specs.Graph.{Graph, same_label, labels, has_label, node_at}
use Rattle.model_core.specs.Domains.{domain_at, with_domain, with_register, with_block, no_domain, opening, shared_label}
use Rattle.model_core.specs.Commands.{allocated, outcome}
use Rattle.model_core.proofs.Commands.FrameLemmas.{part_set, part_map, inside_running}
use Rattle.model_core.proofs.Commands.MoveLemmas.{moved}
use Rattle.model_core.specs.Entries.{Allowed, wiped, with_wiped, with_last_queued, without_first, after_run, next}
use Rattle.model_core.specs.History.{state_after, LegalFrom, Legal}
use Rattle.model_core.specs.WellFormed.{IsNumbered}
use Rattle.model_core.proofs.Graphs.GraphLemmas.{same_label-true, labels-with_node}
use Rattle.model_core.proofs.Reach.ReachLemmas.{or_cases, has-append_cases}
use Rattle.model_core.proofs.Histories.WellFormedLemmas.{labels-append}

-- a state with the labels and the serials of another
record SameNumbers (s t : State) : Type 0 where
  given : labels t.graph ≡ labels s.graph
  serials : (d : ℕ) → (domain_at t d).serial ≡ (domain_at s d).serial

numbered_same : (s t : State) → SameNumbers s t → IsNumbered s → IsNumbered t
numbered_same s t same numbered l h =
    let old : l.serial ≤ (domain_at s l.domain).serial = numbered l (subst (λ z. IsTrue (has_label z l)) same.given h) in
    rw (same.serials l.domain) old

same_after : (s t u : State) → SameNumbers s t → SameNumbers t u → SameNumbers s u
same_after s t u a b = record { given = b.given ∙ a.given; serials = λ d. b.serials d ∙ a.serials d }

module _ (s : State) where
  same_self : SameNumbers s s
  same_self = record { given = refl; serials = λ d. refl }

  same_with_domain : (d : ℕ) (x : DomainState) → x.serial ≡ (domain_at s d).serial → SameNumbers s (with_domain s d x)
  same_with_domain d x same = record { given = refl; serials = part_set (λ y. y.serial) s.domains d x same }

  same_with_register : (d r : ℕ) (v : Value) → SameNumbers s (with_register s d r v)
  same_with_register d r v = same_with_domain d _ refl

  same_with_block : (l : Label) (n : Node) → SameNumbers s (with_block s l n)
  same_with_block l n = record { given = labels-with_node s.graph l n; serials = λ d. refl }

  same_wiped : (l : Label) (places : List ℕ) (o : Option Node) → SameNumbers s (with_wiped s l (wiped places o))
  same_wiped l places None = same_self
  same_wiped l places (Some (Plain tag fields)) = same_with_block l _
  same_wiped l places (Some (Raw tag fields)) = same_with_block l _
  same_wiped l places (Some (Ephe keys datum)) = same_with_block l _

same_after_run : (s : State) (d : ℕ) (queue : List Pending) → SameNumbers s (after_run s d queue)
same_after_run s d [] = same_self s
same_after_run s d (Fin number l r ∷ rest) =
    same_after s (with_domain s d (without_first (domain_at s d) rest)) _ (same_with_domain s d _ refl) (same_with_register _ d r (Block l))
same_after_run s d (Last number ∷ rest) = same_with_domain s d _ refl

-- a new block takes the domain's next serial
serials_grow : (xs : List DomainState) (d : ℕ) (x : DomainState) → (get_or xs d no_domain).serial ≤ x.serial → (k : ℕ) → (get_or xs k no_domain).serial ≤ (get_or (set xs d x) k no_domain).serial
serials_grow [] d x more k = omega arith
serials_grow (y ∷ xs) zero x more zero = more
serials_grow (y ∷ xs) zero x more (suc k) = omega arith
serials_grow (y ∷ xs) (suc d) x more zero = omega arith
serials_grow (y ∷ xs) (suc d) x more (suc k) = serials_grow xs d x more k

module _ (s : State) (numbered : IsNumbered s) (d : ℕ) (inside : d < length s.domains) where
  numbered_allocated : (dst : ℕ) (n : Node) → IsNumbered (allocated s d dst n).state
  numbered_allocated dst n =
      let serial = (domain_at s d).serial + 1 in
      let l : Label = record { domain = d; serial = serial } in
      let x : DomainState = record (domain_at s d) { serial = serial } in
      let made : State = with_domain s d x in
      let middle : State = record made { graph = s.graph ++ (l, n) ∷ []; kept = s.kept + 1 } in
      let more : (k : ℕ) → (domain_at s k).serial ≤ (domain_at made k).serial = serials_grow s.domains d x (omega arith) in
      let own : (domain_at made d).serial ≡ serial = ap (λ (y : DomainState). y.serial) (get_or-set_same s.domains d x no_domain inside) in
      let new : (k : Label) → IsTrue (same_label l k || false) → k.serial ≤ (domain_at made k.domain).serial = λ k h. ⊎_elim
      (λ e. subst (λ (z : Label). z.serial ≤ (domain_at made z.domain).serial) (same_label-true l k e) (omega (arith, own)))
      (λ none. absurd (let clash : false ≡ true = none in cc))
      (or_cases (same_label l k) false h) in
      let numbered_middle : IsNumbered middle = λ k h. ⊎_elim
      (λ old. omega (arith, numbered k old, more k.domain))
      (λ here. new k here)
      (has-append_cases (labels s.graph) (l ∷ []) k (subst (λ z. IsTrue (has_label z k)) (labels-append s.graph ((l, n) ∷ [])) h)) in
      numbered_same middle _ (same_with_register middle d dst (Block l)) numbered_middle

  numbered_outcome : (c : Command) → IsNumbered (outcome s d c).state
  numbered_outcome c = moved IsNumbered s d c (record {
    same = numbered;
    held = λ r v named. numbered_same s _ (same_with_register s d r v) numbered;
    written = λ l old new at found same named full. numbered_same s _ (same_with_block s l new) numbered;
    made = λ is dst n named full. numbered_allocated dst n;
    registered = λ is f named. numbered_same s _ (same_with_domain s d _ refl) numbered;
    registered_last = λ is f named. numbered_same s _ (same_with_domain s d _ refl) numbered;
  })

-- each entry that is allowed keeps the numbering
pub numbered_next : (s : State) (e : Entry) → Allowed s e → IsNumbered s → IsNumbered (next s e)
numbered_next s (CommandOf d c true) allowed numbered = numbered_same s _ (same_with_domain s d _ refl) numbered
numbered_next s (CommandOf d c false) allowed numbered =
    numbered_same (outcome s d c).state _ (same_with_domain (outcome s d c).state d _ refl)
    (numbered_outcome s numbered d (inside_running s.domains d allowed.running) c)
numbered_next s (End d) allowed numbered = numbered_same s _ (same_with_domain s d _ refl) numbered
numbered_next s Cut allowed numbered =
    numbered_same s (next s Cut) (record { given = refl; serials = part_map (λ y. y.serial) (λ x. record x { low = length x.finals }) (λ x. refl) s.domains }) numbered
numbered_next s (Queue d places) allowed numbered = numbered_same s _ (same_with_domain s d _ refl) numbered
numbered_next s Seal allowed numbered =
    numbered_same s (next s Seal) (record { given = refl; serials = part_map (λ y. y.serial) (λ x. record x { low = length x.lasts }) (λ x. refl) s.domains }) numbered
numbered_next s (Wipe l keys) allowed numbered =
    let same = same_wiped s l keys (node_at s.graph l) in
    numbered_same s (next s (Wipe l keys)) (record { given = same.given; serials = same.serials }) numbered
numbered_next s (LastOf d place) allowed numbered =
    let same = same_with_domain s d (with_last_queued (domain_at s d) place) refl in
    numbered_same s (next s (LastOf d place)) (record { given = same.given; serials = same.serials }) numbered
numbered_next s Collected allowed numbered =
    numbered_same s (next s Collected) (record { given = refl; serials = part_map (λ y. y.serial) (λ x. record x { fresh = true }) (λ x. refl) s.domains }) numbered
numbered_next s Done allowed numbered = numbered_same s (next s Done) (record { given = refl; serials = λ d. refl }) numbered
numbered_next s (Ran d) allowed numbered = numbered_same s _ (same_after_run s d (domain_at s d).queue) numbered

pub numbered_after : (s : State) (h : List Entry) → LegalFrom s h → IsNumbered s → IsNumbered (state_after s h)
numbered_after s [] legal numbered = numbered
numbered_after s (e ∷ h) legal numbered = numbered_after (next s e) h legal.1 (numbered_next s e legal.0 numbered)

pub numbered_opening : (z : Sizes) → IsNumbered (opening z)
numbered_opening z l h = ⊎_elim
    (λ e. subst (λ (k : Label). k.serial ≤ (domain_at (opening z) k.domain).serial) (same_label-true shared_label l e) (omega arith))
    (λ none. absurd (let clash : false ≡ true = none in cc))
    (or_cases (same_label shared_label l) false h)

-- the label of a domain's next block
abbrev next_label : State → ℕ → Label
next_label s d = record { domain = d; serial = (domain_at s d).serial + 1 }

pub next_label-new : (s : State) → IsNumbered s → (d : ℕ) → has_label (labels s.graph) (next_label s d) ≡ false
next_label-new s numbered d = go (has_label (labels s.graph) (next_label s d)) refl
  where
    go : (b : Bool) → has_label (labels s.graph) (next_label s d) ≡ b → b ≡ false
    go true e = absurd (let least : (domain_at s d).serial + 1 ≤ (domain_at s d).serial = numbered (next_label s d) e in omega (arith, least))
    go false e = refl

-- a label without a node is none of the graph's
pub no_label : (g : Graph) (l : Label) → node_at g l ≡ None → has_label (labels g) l ≡ false
no_label [] l e = refl
no_label (x ∷ g) l e = go (same_label x.0 l) (no_label g l) e
  where
    go : (b : Bool) → (node_at g l ≡ None → has_label (labels g) l ≡ false) → cond b (Some x.1) (node_at g l) ≡ None → (b || has_label (labels g) l) ≡ false
    go true rest e = cc
    go false rest e = rest e

pub node_at-no_label : (g : Graph) (l : Label) → has_label (labels g) l ≡ false → node_at g l ≡ None
node_at-no_label [] l none = refl
node_at-no_label (e ∷ g) l none = go (same_label e.0 l) none (node_at-no_label g l)
  where
    go : (b : Bool) → (b || has_label (labels g) l) ≡ false → (has_label (labels g) l ≡ false → node_at g l ≡ None) → cond b (Some e.1) (node_at g l) ≡ None
    go true none rest = cc
    go false none rest = rest none

-- after each legal history the label of a new block names no block
pub next_label_after : (z : Sizes) (h : List Entry) → Legal z h → (d : ℕ) → let s = state_after (opening z) h in node_at s.graph (next_label s d) ≡ None
next_label_after z h legal d =
    let s : State = state_after (opening z) h in
    node_at-no_label s.graph (next_label s d) (next_label-new s (numbered_after (opening z) h legal (numbered_opening z)) d)
