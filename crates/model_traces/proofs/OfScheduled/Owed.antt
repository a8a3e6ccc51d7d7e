-- A domain whose queue is empty owes no finaliser.
use Rattle.std.proofs.Common.{◌≡◌, ℕ, zero, suc, true, false, List, [], ◌∷◌, ◌++◌, length, replicate, refl, ap, Some, None}
use Rattle.std.specs.Prelude.{Option, slice_index_or}
use Rattle.model_core.specs.declared.command.Command.{Command}
use Rattle.model_core.specs.declared.entry.Entry.{Entry}
use Rattle.model_core.specs.declared.entry.Entry.TheVariants.{Command as CommandOf, End, Cut, Queue, Seal, Wipe, Last as LastOf, Collected, Done, Ran}
use Rattle.model_core.specs.declared.graph.Node.{Node}
use Rattle.model_core.specs.declared.graph.Node.TheVariants.{Plain, Raw, Ephe}
use Rattle.model_core.specs.declared.label.Label.{Label}
use Rattle.model_core.specs.declared.state.Pending.{Pending}
use Rattle.model_core.specs.declared.state.Pending.TheVariants.{Fin, Last}
use Rattle.model_core.specs.declared.state.DomainState.{DomainState}
use Rattle.model_core.specs.declared.state.Sizes.{Sizes}
use Rattle.model_core.specs.declared.state.State.{State}
use Rattle.model_core.specs.Graph.{node_at}
use Rattle.model_core.specs.Domains.{domain_at, no_domain, opening, opening_domain, with_domain, with_register}
use Rattle.model_core.specs.Commands.{allocated, outcome}
use Rattle.model_core.specs.Entries.{after_run, freshened, next, with_finals_open, with_lasts_open, with_wiped, wiped}
use Rattle.model_core.specs.History.{state_after}
use Rattle.model_core.proofs.Commands.MoveLemmas.{moved}
use Rattle.model_core.proofs.Histories.WellFormedLemmas.{each_domain, mapped_domain}

abbrev pub IsEven : DomainState → Type 0
IsEven x = x.queue ≡ [] → x.due ≡ 0

abbrev pub AreEven : State → Type 0
AreEven s = (d : ℕ) → IsEven (domain_at s d)

none_longer : (q more : List Pending) → q ++ more ≡ [] → q ≡ []
none_longer [] more e = refl
none_longer (p ∷ q) more e = cc

counts_queue : (q : List Pending) → q ≡ [] → length q ≡ 0
counts_queue q e = ap length e

module _ (s : State) (even : AreEven s) where
  with_even : (d : ℕ) (x : DomainState) → IsEven x → AreEven (with_domain s d x)
  with_even d x own = each_domain IsEven s.domains d x own even

  register_even : (d r : ℕ) (v : _) → AreEven (with_register s d r v)
  register_even d r v = with_even d _ (even d)

  even_outcome : (d : ℕ) (c : Command) → AreEven (outcome s d c).state
  even_outcome d c = moved AreEven s d c (record {
    same = even;
    held = λ r v named. register_even d r v;
    written = λ l old new at found same named full. even;
    made = λ is dst n named full. made dst n;
    registered = λ is f named. with_even d _ (even d);
    registered_last = λ is f named. with_even d _ (even d);
  })
    where
      made : (dst : ℕ) (n : Node) → AreEven (allocated s d dst n).state
      made dst n =
          let grown : AreEven (with_domain s d (record (domain_at s d) { serial = _ })) = with_even d _ (even d) in
          each_domain IsEven _ d _ (grown d) grown

  even_wiped : (l : Label) (places : List ℕ) (o : Option Node) → AreEven (with_wiped s l (wiped places o))
  even_wiped l places None = even
  even_wiped l places (Some (Plain tag fields)) = even
  even_wiped l places (Some (Raw tag fields)) = even
  even_wiped l places (Some (Ephe keys datum)) = even

  even_run : (d : ℕ) (queue : List Pending) → AreEven (after_run s d queue)
  even_run d [] = even
  even_run d (Fin number l r ∷ rest) =
      let first : AreEven (with_domain s d (record (domain_at s d) { queue = rest; due = length rest })) = with_even d _ (counts_queue rest) in
      each_domain IsEven _ d _ (first d) first
  even_run d (Last number ∷ rest) = with_even d _ (counts_queue rest)

even_next : (s : State) (e : Entry) → AreEven s → AreEven (next s e)
even_next s (CommandOf d c true) even = with_even s even d _ (counts_queue (domain_at s d).queue)
even_next s (CommandOf d c false) even = with_even (outcome s d c).state (even_outcome s even d c) d _ (counts_queue (domain_at (outcome s d c).state d).queue)
even_next s (End d) even = with_even s even d _ (even d)
even_next s Cut even = mapped_domain IsEven with_finals_open s.domains (λ e. refl) (λ x own. own) even
even_next s (Queue d places) even = with_even s even d _ (λ e. even d (none_longer (domain_at s d).queue _ e))
even_next s Seal even = mapped_domain IsEven with_lasts_open s.domains (λ e. refl) (λ x own. own) even
even_next s (Wipe l keys) even = even_wiped s even l keys (node_at s.graph l)
even_next s (LastOf d place) even = with_even s even d _ (λ e. even d (none_longer (domain_at s d).queue _ e))
even_next s Collected even = mapped_domain IsEven freshened s.domains (λ e. refl) (λ x own. own) even
even_next s Done even = even
even_next s (Ran d) even = even_run s even d (domain_at s d).queue

even_after : (s : State) (h : List Entry) → AreEven s → AreEven (state_after s h)
even_after s [] even = even
even_after s (e ∷ h) even = even_after (next s e) h (even_next s e even)

even_opening : (n d : ℕ) → IsEven (slice_index_or (replicate n opening_domain) d no_domain)
even_opening zero d e = refl
even_opening (suc n) zero e = refl
even_opening (suc n) (suc d) e = even_opening n d e

-- whatever the history
pub none_owed : (z : Sizes) (h : List Entry) (d : ℕ) → (domain_at (state_after (opening z) h) d).queue ≡ [] → (domain_at (state_after (opening z) h) d).due ≡ 0
none_owed z h = even_after (opening z) h (even_opening z.domains)
