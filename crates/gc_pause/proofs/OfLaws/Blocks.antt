-- A history has made as many blocks as it has allocations, at most, and a domain owes no more finalisers than wait.
use Rattle.std.proofs.Common.{◌≡◌, ℕ, zero, suc, ◌+◌, ◌≤◌, true, false, List, [], ◌∷◌, ◌++◌, length, map, get_or, set, replicate, Option, Some, None, refl, ap, arith, length-append}
use Rattle.model_core.specs.declared.command.Command.{Command}
use Rattle.model_core.specs.declared.entry.Entry.{Entry}
use Rattle.model_core.specs.declared.entry.Entry.TheVariants.{Command as CommandOf, End, Cut, Queue, Seal, Wipe, Last as LastOf, Collected, Done, Ran}
use Rattle.model_core.specs.declared.label.Label.{Label}
use Rattle.model_core.specs.declared.graph.Node.{Node}
use Rattle.model_core.specs.declared.state.DomainState.{DomainState}
use Rattle.model_core.specs.declared.state.Pending.{Pending}
use Rattle.model_core.specs.declared.state.Pending.TheVariants.{Fin, Last}
use Rattle.model_core.specs.declared.state.Sizes.{Sizes}
use Rattle.model_core.specs.declared.state.State.{State}
use Rattle.model_core.specs.Graph.{node_at}
use Rattle.model_core.specs.Domains.{domain_at, no_domain, opening, opening_domain, with_domain}
use Rattle.model_core.specs.Commands.{is_allocation, outcome}
use Rattle.model_core.specs.Entries.{after_run, at_places, freshened, next, queued_final, queued_last, with_finals_open, with_lasts_open, with_last_queued, with_queued, with_wiped, wiped, without_first}
use Rattle.model_core.specs.History.{state_after}
use Rattle.model_core.proofs.Commands.MoveLemmas.{moved}
use Rattle.model_core.proofs.Commands.ShapeLemmas.{length-with_node}
use Rattle.std.specs.Prelude.{reverse}
use Rattle.gc_pause.specs.Laws.Blocks.{OwesFew, made_by, makes_of, one_if}

-- blocks
wiped_many : (s : State) (l : Label) (o : Option Node) → length (with_wiped s l o).graph ≡ length s.graph
wiped_many s l None = refl
wiped_many s l (Some n) = length-with_node s.graph l n

ran_many : (s : State) (d : ℕ) (queue : List Pending) → length (after_run s d queue).graph ≡ length s.graph
ran_many s d [] = refl
ran_many s d (Fin number l r ∷ rest) = refl
ran_many s d (Last number ∷ rest) = refl

outcome_many : (s : State) (d : ℕ) (c : Command) → length (outcome s d c).state.graph ≤ length s.graph + one_if (is_allocation c)
outcome_many s d c = moved (λ t. length t.graph ≤ length s.graph + one_if (is_allocation c)) s d c (record {
  same = omega arith;
  held = λ r v named. omega arith;
  written = λ l old new at found same named full. let e = length-with_node s.graph l new in omega (arith, e);
  made = λ is dst n named full.
      let one : one_if (is_allocation c) ≡ 1 = ap one_if is in
      let l : Label = record { domain = d; serial = (domain_at s d).serial + 1 } in
      let more : length (s.graph ++ (l, n) ∷ []) ≡ length s.graph + 1 = length-append s.graph ((l, n) ∷ []) in
      omega (arith, one, more);
  registered = λ is f named. omega arith;
  registered_last = λ is f named. omega arith;
})

next_many : (s : State) (e : Entry) → length (next s e).graph ≤ length s.graph + makes_of e
next_many s (CommandOf d c true) = omega arith
next_many s (CommandOf d c false) = outcome_many s d c
next_many s (End d) = omega arith
next_many s Cut = omega arith
next_many s (Queue d places) = omega arith
next_many s Seal = omega arith
next_many s (Wipe l keys) = let e = wiped_many s l (wiped keys (node_at s.graph l)) in omega (arith, e)
next_many s (LastOf d place) = omega arith
next_many s Collected = omega arith
next_many s Done = omega arith
next_many s (Ran d) = let e = ran_many s d (domain_at s d).queue in omega (arith, e)

after_many : (s : State) (h : List Entry) → length (state_after s h).graph ≤ length s.graph + made_by h
after_many s [] = omega arith
after_many s (e ∷ h) = let one = next_many s e in let rest = after_many (next s e) h in omega (arith, one, rest)

-- the shared block, and one for each allocation at most
pub blocks_few : (z : Sizes) (h : List Entry) → length (state_after (opening z) h).graph ≤ 1 + made_by h
blocks_few z h = let all = after_many (opening z) h in omega (arith, all)

-- what is owed
abbrev Owes : DomainState → Type 0
Owes x = x.due ≤ length x.queue

each_set : (xs : List DomainState) (d : ℕ) (x : DomainState) → Owes x → ((i : ℕ) → Owes (get_or xs i no_domain)) → (i : ℕ) → Owes (get_or (set xs d x) i no_domain)
each_set [] d x one all i = all i
each_set (y ∷ ys) zero x one all zero = one
each_set (y ∷ ys) zero x one all (suc i) = all (suc i)
each_set (y ∷ ys) (suc d) x one all zero = all 0
each_set (y ∷ ys) (suc d) x one all (suc i) = each_set ys d x one (λ j. all (suc j)) i

each_map : (f : DomainState → DomainState) → ((x : DomainState) → Owes x → Owes (f x)) → (xs : List DomainState) → ((i : ℕ) → Owes (get_or xs i no_domain)) → (i : ℕ) → Owes (get_or (map f xs) i no_domain)
each_map f keeps [] all i = all i
each_map f keeps (y ∷ ys) all zero = keeps y (all 0)
each_map f keeps (y ∷ ys) all (suc i) = each_map f keeps ys (λ j. all (suc j)) i

with_one : (s : State) (d : ℕ) (x : DomainState) → Owes x → OwesFew s → OwesFew (with_domain s d x)
with_one s d x one all = each_set s.domains d x one all

ran_owes : (s : State) (d : ℕ) (queue : List Pending) → OwesFew s → OwesFew (after_run s d queue)
ran_owes s d [] all = all
ran_owes s d (Fin number l r ∷ rest) all =
    let made : OwesFew (with_domain s d (without_first (domain_at s d) rest)) = with_one s d (without_first (domain_at s d) rest) (omega arith) all in
    with_one (with_domain s d (without_first (domain_at s d) rest)) d _ (made d) made
ran_owes s d (Last number ∷ rest) all = with_one s d (without_first (domain_at s d) rest) (omega arith) all

wiped_owes : (s : State) (l : Label) (o : Option Node) → OwesFew s → OwesFew (with_wiped s l o)
wiped_owes s l None all = all
wiped_owes s l (Some n) all = all

outcome_owes : (s : State) (d : ℕ) (c : Command) → OwesFew s → OwesFew (outcome s d c).state
outcome_owes s d c all = moved OwesFew s d c (record {
  same = all;
  held = λ r v named. with_one s d _ (all d) all;
  written = λ l old new at found same named full. all;
  made = λ is dst n named full.
      let x : DomainState = record (domain_at s d) { serial = (domain_at s d).serial + 1 } in
      let made : OwesFew (with_domain s d x) = with_one s d x (all d) all in
      each_set (with_domain s d x).domains d _ (made d) made;
  registered = λ is f named. with_one s d _ (all d) all;
  registered_last = λ is f named. with_one s d _ (all d) all;
})

next_owes : (s : State) (e : Entry) → OwesFew s → OwesFew (next s e)
next_owes s (CommandOf d c true) all = with_one s d _ (omega arith) all
next_owes s (CommandOf d c false) all = with_one (outcome s d c).state d _ (omega arith) (outcome_owes s d c all)
next_owes s (End d) all = with_one s d _ (all d) all
next_owes s Cut all = each_map with_finals_open (λ x owes. owes) s.domains all
next_owes s (Queue d places) all =
    let few = all d in
    let more = length-append (domain_at s d).queue (map queued_final (at_places (reverse places) (domain_at s d).finals)) in
    with_one s d (with_queued (domain_at s d) places) (omega (arith, few, more)) all
next_owes s Seal all = each_map with_lasts_open (λ x owes. owes) s.domains all
next_owes s (Wipe l keys) all = wiped_owes s l (wiped keys (node_at s.graph l)) all
next_owes s (LastOf d place) all =
    let few = all d in
    let more = length-append (domain_at s d).queue (map queued_last (at_places (place ∷ []) (domain_at s d).lasts)) in
    with_one s d (with_last_queued (domain_at s d) place) (omega (arith, few, more)) all
next_owes s Collected all = each_map freshened (λ x owes. owes) s.domains all
next_owes s Done all = all
next_owes s (Ran d) all = ran_owes s d (domain_at s d).queue all

after_owes : (s : State) (h : List Entry) → OwesFew s → OwesFew (state_after s h)
after_owes s [] all = all
after_owes s (e ∷ h) all = after_owes (next s e) h (next_owes s e all)

opened : (n i : ℕ) → Owes (get_or (replicate n opening_domain) i no_domain)
opened zero i = omega arith
opened (suc n) zero = omega arith
opened (suc n) (suc i) = opened n i

-- so one whose queue is empty owes none
pub owes_few : (z : Sizes) (h : List Entry) → OwesFew (state_after (opening z) h)
owes_few z h = after_owes (opening z) h (opened z.domains)
