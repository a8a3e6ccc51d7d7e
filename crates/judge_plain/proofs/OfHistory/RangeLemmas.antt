-- An entry that is allowed is in range: its domain is one of the heap's, and behind fewer than 2^32 - 1 entries a serial is left.
use Rattle.std.proofs.Common.{◌≡◌, ℕ, zero, suc, ◌+◌, ◌^◌, ◌-◌, ◌<◌, ◌≤◌, true, false, IsTrue, List, [], ◌∷◌, length, get_or, set, Option, Some, None, refl, arith}
use Rattle.std.specs.Prelude.{map, nat_lt, replicate}
use Rattle.std.specs.List.{list_all}
use Rattle.std.proofs.lemmas.Bool.{and_parts, ltb-true}
use Rattle.model_core.specs.declared.label.Label.{Label}
use Rattle.model_core.specs.declared.command.Command.{Command}
use Rattle.model_core.specs.declared.command.Command.TheVariants.{Alloc, AllocMaj, Raw as NewRaw, Ephe as NewEphe}
use Rattle.model_core.specs.declared.entry.Entry.{Entry}
use Rattle.model_core.specs.declared.entry.Entry.TheVariants.{Command as CommandOf, End, Cut, Queue, Seal, Wipe, Last as LastOf, Collected, Done, Ran}
use Rattle.model_core.specs.declared.graph.Node.{Node}
use Rattle.model_core.specs.declared.state.Pending.{Pending}
use Rattle.model_core.specs.declared.state.Pending.TheVariants.{Fin, Last}
use Rattle.model_core.specs.declared.state.DomainState.{DomainState}
use Rattle.model_core.specs.declared.state.Sizes.{Sizes}
use Rattle.model_core.specs.declared.state.State.{State}
use Rattle.model_core.specs.Graph.{node_at}
use Rattle.model_core.specs.Domains.{IsShaped, IsWithinLimits, domain_at, no_domain, opening, opening_domain}
use Rattle.model_core.specs.Commands.{outcome}
use Rattle.model_core.specs.Entries.{Allowed, HasNextSerial, IsInRange, after_run, freshened, is_rising, next, wiped, with_finals_open, with_lasts_open, with_wiped, without_first}
use Rattle.model_core.specs.History.{state_after}
use Rattle.model_core.proofs.Commands.FrameLemmas.{inside_running}
use Rattle.model_core.proofs.Commands.MoveLemmas.{moved}
use Rattle.model_core.proofs.Histories.ShapeAfterLemmas.{shaped-history}
use Rattle.model_core.proofs.Histories.WellFormedLemmas.{each_domain, mapped_domain}

-- each domain's serial is at most this
abbrev HaveAtMost : ℕ → State → Type 0
HaveAtMost n s = (k : ℕ) → (domain_at s k).serial ≤ n

module _ (n : ℕ) where
  abbrev P : DomainState → Type 0
  P x = x.serial ≤ n

  one_set : (xs : List DomainState) (d : ℕ) (x : DomainState) → x.serial ≤ n → ((k : ℕ) → P (get_or xs k no_domain)) → (k : ℕ) → P (get_or (set xs d x) k no_domain)
  one_set xs d x few each = each_domain P xs d x few each

  all_mapped : (f : DomainState → DomainState) → ((x : DomainState) → (f x).serial ≡ x.serial) → (xs : List DomainState) → ((k : ℕ) → P (get_or xs k no_domain)) → (k : ℕ) → P (get_or (map f xs) k no_domain)
  all_mapped f same xs each = mapped_domain P f xs (omega arith) (λ x p. omega (arith, same x, p)) each

  queue_run : (s : State) (d : ℕ) (queue : List Pending) → HaveAtMost n s → HaveAtMost n (after_run s d queue)
  queue_run s d [] few = few
  queue_run s d (Fin number l r ∷ rest) few =
      let ran = one_set s.domains d (without_first (domain_at s d) rest) (few d) few in
      one_set (set s.domains d (without_first (domain_at s d) rest)) d _ (ran d) ran
  queue_run s d (Last number ∷ rest) few = one_set s.domains d _ (few d) few

  keys_wiped : (s : State) (l : Label) (o : Option Node) → HaveAtMost n s → HaveAtMost n (with_wiped s l o)
  keys_wiped s l None few = few
  keys_wiped s l (Some node) few = few

-- a command takes one serial at most
command_serial : (n : ℕ) (s : State) (d : ℕ) (c : Command) → HaveAtMost n s → HaveAtMost (n + 1) (outcome s d c).state
command_serial n s d c few =
    let more : HaveAtMost (n + 1) s = λ k. omega (arith, few k) in
    moved (HaveAtMost (n + 1)) s d c (record {
      same = more;
      held = λ r v named. one_set (n + 1) s.domains d _ (more d) more;
      written = λ l old new at found same named full. more;
      made = λ is dst node named full.
          let x : DomainState = record (domain_at s d) { serial = (domain_at s d).serial + 1 } in
          let made = one_set (n + 1) s.domains d x (omega (arith, few d)) more in
          one_set (n + 1) (set s.domains d x) d _ (made d) made;
      registered = λ is f named. one_set (n + 1) s.domains d _ (more d) more;
      registered_last = λ is f named. one_set (n + 1) s.domains d _ (more d) more;
    })

entry_serial : (n : ℕ) (s : State) (e : Entry) → HaveAtMost n s → HaveAtMost (n + 1) (next s e)
entry_serial n s e few = by_entry e
  where
    more : HaveAtMost (n + 1) s
    more k = omega (arith, few k)

    by_entry : (e : Entry) → HaveAtMost (n + 1) (next s e)
    by_entry (CommandOf d c true) = one_set (n + 1) s.domains d _ (more d) more
    by_entry (CommandOf d c false) = let made = command_serial n s d c few in one_set (n + 1) (outcome s d c).state.domains d _ (made d) made
    by_entry (End d) = one_set (n + 1) s.domains d _ (more d) more
    by_entry Cut = all_mapped (n + 1) with_finals_open (λ x. refl) s.domains more
    by_entry (Queue d places) = one_set (n + 1) s.domains d _ (more d) more
    by_entry Seal = all_mapped (n + 1) with_lasts_open (λ x. refl) s.domains more
    by_entry (Wipe l keys) = keys_wiped (n + 1) s l (wiped keys (node_at s.graph l)) more
    by_entry (LastOf d place) = one_set (n + 1) s.domains d _ (more d) more
    by_entry Collected = all_mapped (n + 1) freshened (λ x. refl) s.domains more
    by_entry Done = more
    by_entry (Ran d) = queue_run (n + 1) s d (domain_at s d).queue more

serials_after : (n : ℕ) (s : State) (h : List Entry) → HaveAtMost n s → HaveAtMost (n + length h) (state_after s h)
serials_after n s [] few k = omega (arith, few k)
serials_after n s (e ∷ h) few k = let rest = serials_after (n + 1) (next s e) h (entry_serial n s e few) k in omega (arith, rest)

opening_serial : (n : ℕ) (k : ℕ) → (get_or (replicate n opening_domain) k no_domain).serial ≡ 0
opening_serial zero k = refl
opening_serial (suc n) zero = refl
opening_serial (suc n) (suc k) = opening_serial n k

serial_left : (s : State) (d : ℕ) (c : Command) → (domain_at s d).serial < 2 ^ 32 - 1 → HasNextSerial s d c
serial_left s d (Alloc dst tag fields) few = few
serial_left s d (AllocMaj dst tag fields) few = few
serial_left s d (NewRaw dst tag fields) few = few
serial_left s d (NewEphe dst keys) few = few
serial_left s d _ few = tt

-- a domain that isn't there has nothing to queue
inside_low : (xs : List DomainState) (d p : ℕ) → p < (get_or xs d no_domain).low → d < length xs
inside_low [] d p below = absurd (omega (arith, below))
inside_low (x ∷ xs) zero p below = omega arith
inside_low (x ∷ xs) (suc d) p below = let rest = inside_low xs d p below in omega (arith, rest)

inside_places : (xs : List DomainState) (d : ℕ) (places : List ℕ) → IsTrue (is_rising places) → IsTrue (list_all (λ p. nat_lt p (get_or xs d no_domain).low) places) → d < length xs
inside_places xs d [] rising below = cc
inside_places xs d (p ∷ places) rising below = inside_low xs d p (ltb-true p (get_or xs d no_domain).low (and_parts (nat_lt p (get_or xs d no_domain).low) (list_all (λ p. nat_lt p (get_or xs d no_domain).low) places) below).0)

-- an entry that is allowed behind so few is in range
pub in_range : (z : Sizes) (h : List Entry) (e : Entry) → IsWithinLimits z → length h < 2 ^ 32 - 1 → Allowed (state_after (opening z) h) e → IsInRange (state_after (opening z) h) e
in_range z h e limits few allowed = by_entry e allowed
  where
    s : State
    s = state_after (opening z) h

    shaped : IsShaped s
    shaped = shaped-history z h limits

    inside : (d : ℕ) → (domain_at s d).ended ≡ false → d < s.sizes.domains
    inside d runs = let below = inside_running s.domains d runs in omega (arith, below, shaped.domain_count)

    serial : (d : ℕ) → (domain_at s d).serial < 2 ^ 32 - 1
    serial d =
        let at_most = serials_after 0 (opening z) h (λ k. omega (arith, opening_serial z.domains k)) d in
        omega (arith, at_most, few)

    by_entry : (e : Entry) → Allowed s e → IsInRange s e
    by_entry (CommandOf d c full) allowed = (inside d allowed.running, serial_left s d c (serial d))
    by_entry (End d) allowed = inside d allowed.running
    by_entry Cut allowed = tt
    by_entry (Queue d places) allowed = let below = inside_places s.domains d places allowed.rising allowed.below in omega (arith, below, shaped.domain_count)
    by_entry Seal allowed = tt
    by_entry (Wipe l keys) allowed = tt
    by_entry (LastOf d place) allowed = let below = inside_low s.domains d place allowed.below in omega (arith, below, shaped.domain_count)
    by_entry Collected allowed = tt
    by_entry Done allowed = tt
    by_entry (Ran d) allowed = inside d allowed.running
