-- A seat whose domain has registered no finaliser: none of its domain's runs, and its labels are counted.
use Rattle.std.proofs.Common.{◌≡◌, ◌∙◌, ℕ, ◌+◌, ◌<◌, ◌≤◌, Bool, true, false, not, IsTrue, List, [], ◌∷◌, ◌++◌, length, refl, sym, ap, subst, append_assoc, eqb-true, arith}
use Rattle.std.specs.Prelude.{cond, ◌==◌, ◌||◌, count_by, map}
use Rattle.std.proofs.lemmas.List.{get_or-replicate}
use Rattle.std.proofs.lemmas.List.Sums.{sum_by-append, sum_by-cons}
use Rattle.model_core.specs.declared.command.Command as model
use Rattle.model_core.specs.declared.command.Command.TheVariants.{Finalise, FinaliseLast, Poll}
use Rattle.model_core.specs.declared.entry.Entry.{Entry}
use Rattle.model_core.specs.declared.entry.Entry.TheVariants.{Command, End, Ran}
use Rattle.model_core.specs.declared.reply.Reply.{Reply}
use Rattle.model_core.specs.declared.reply.Reply.TheVariants.{Done as DoneReply}
use Rattle.model_core.specs.declared.reply.Applied.TheVariants.{Replied}
use Rattle.model_core.specs.declared.state.DomainState.{DomainState}
use Rattle.model_core.specs.declared.state.Pending.{Pending}
use Rattle.model_core.specs.declared.state.Sizes.{Sizes}
use Rattle.model_core.specs.declared.state.State.{State}
use Rattle.model_core.specs.Domains.{IsWithinLimits, domain_at, no_domain, opening, opening_domain}
use Rattle.model_core.specs.Entries.{Allowed, next, queued_final, queued_last, reply as reply_of}
use Rattle.model_core.specs.Fronts.{NoneOf}
use Rattle.model_core.specs.History.{Legal, LegalFrom, is_entry_of, state_after}
use Rattle.model_core.specs.Registrations.{all_registered, registered, registered_by}
use Rattle.model_core.proofs.Collections.RegistrationLemmas.{registrations_law}
use Rattle.model_core.proofs.Graphs.GraphLemmas.{and_parts}
use Rattle.model_core.proofs.Histories.HistoryLemmas.{state_after-push}
use Rattle.run_turns.specs.Handed.{Finalised, OnlyRuns, PerformedOn}
use Rattle.run_turns.specs.Kept.{is_run_of}
use Rattle.run_turns.specs.Tries.{registrations_of}
use Rattle.weak_laws.proofs.OfTables.StepLemmas.{legal_parts}
use Rattle.weak_laws.specs.Maps.Calls.{PerformedBy}
use Rattle.model_core.specs.Counts.Counts.{labels_given}
use Rattle.heap_rule.specs.Limits.{sizes_in}
use Rattle.heap_rule.specs.Rule.{state_of}
use Rattle.heap_rule.specs.Token.{SharedHeap}
use Rattle.run_seats.specs.Seating.{GoesAlong, SeatView, ran_since}
use Rattle.run_turns.proofs.OfSingly.Finalising.{finalised_on}
use Rattle.weak_maps.proofs.CountLemmas.{not_refused}
use Rattle.run_session.specs.Domains.Seated.{IsUnused, Stands}
use Rattle.run_session.proofs.OfDomains.Labels.{made_labels}

-- others' entries and runs register none
one_quiet : (d : ℕ) (s : State) (e : Entry) → IsTrue (not (is_entry_of d e) || is_run_of d e) → registered d s e ≡ []
one_quiet d s (Command k c true) runs = refl
one_quiet d s (Command k c false) runs = by (k == d) runs
  where
    by : (b : Bool) → IsTrue (not b || false) → cond b (registered_by s k c) [] ≡ []
    by true is = cc
    by false is = refl
one_quiet d s e runs = refl

registered-append : (d : ℕ) (s : State) (h k : List Entry) → all_registered d s (h ++ k) ≡ all_registered d s h ++ all_registered d (state_after s h) k
registered-append d s [] k = refl
registered-append d s (e ∷ h) k = ap (λ (rs : List Pending). registered d s e ++ rs) (registered-append d (next s e) h k) ∙ sym (append_assoc (registered d s e) (all_registered d (next s e) h) (all_registered d (state_after (next s e) h) k))

runs_quiet : (d : ℕ) (s : State) (h : List Entry) → OnlyRuns d h → all_registered d s h ≡ []
runs_quiet d s [] runs = refl
runs_quiet d s (e ∷ h) runs =
    let parts = and_parts (not (is_entry_of d e) || is_run_of d e) _ runs in
    (λ i. one_quiet d s e parts.0 i ++ runs_quiet d (next s e) h parts.1 i)

pub registered_on : (z : Sizes) (d : ℕ) (old new : List Entry) (ran : List Reply) → Finalised z d old new ran → all_registered d (opening z) old ≡ [] → all_registered d (opening z) new ≡ []
registered_on z d old new ran f none =
    ap (all_registered d (opening z)) f.appends ∙ (registered-append d (opening z) old f.rest
    ∙ (λ i. none i ++ runs_quiet d (state_after (opening z) old) f.rest f.runs i))

either_none : (b : Bool) → ◌≡◌ {A = List Pending} (cond b [] []) []
either_none true = refl
either_none false = refl

-- nor does a command that registers none
quiet_command : (d : ℕ) (s : State) (c : model.Command) (full : Bool) → registrations_of c ≡ 0 → registered d s (Command d c full) ≡ []
quiet_command d s c true quiet = refl
quiet_command d s (Finalise item number dst) false quiet = absurd (omega (arith, quiet))
quiet_command d s (FinaliseLast item number) false quiet = absurd (omega (arith, quiet))
quiet_command d s _ false quiet = either_none (d == d)

-- where none was registered none waits in the queue
count_all : (ps : List Pending) → count_by (λ (q : Pending). true) ps ≡ length ps
count_all [] = refl
count_all (p ∷ ps) = let all = sum_by-cons (λ (q : Pending). 1) p ps in let rest = count_all ps in omega (arith, all, rest)

nothing_left : {A : Type 0} (xs : List A) → length xs ≤ 0 → xs ≡ []
nothing_left [] few = refl
nothing_left (x ∷ xs) few = absurd (omega (arith, few))

queue_empty : (z : Sizes) (d : ℕ) (h : List Entry) → Legal z h → all_registered d (opening z) h ≡ [] → (domain_at (state_after (opening z) h) d).queue ≡ []
queue_empty z d h legal none =
    let x : DomainState = domain_at (state_after (opening z) h) d in
    let law = registrations_law z h d (λ (q : Pending). true) legal in
    let zero_all : count_by (λ (q : Pending). true) (all_registered d (opening z) h) ≡ 0 = ap (count_by (λ (p : Pending). true)) none in
    let outer = sum_by-append (λ (q : Pending). 1) (map queued_final x.finals ++ map queued_last x.lasts) x.queue in
    let last = count_all x.queue in
    nothing_left x.queue (omega (arith, law, zero_all, outer, last))

-- so no finaliser of the domain runs
not_own : (s : State) (d : ℕ) (e : Entry) → Allowed s e → (domain_at s d).queue ≡ [] → IsTrue (not (is_entry_of d e) || is_run_of d e) → is_entry_of d e ≡ false
not_own s d (Ran k) allowed empty runs = go (k == d) refl
  where
    go : (b : Bool) → (k == d) ≡ b → b ≡ false
    go false e = refl
    go true e = absurd (allowed.queue (subst (λ (j : ℕ). (domain_at s j).queue ≡ []) (sym (eqb-true k d e)) empty))
not_own s d (Command k c full) allowed empty runs = by (k == d) runs
  where
    by : (b : Bool) → IsTrue (not b || false) → b ≡ false
    by true is = cc
    by false is = refl
not_own s d (End k) allowed empty runs = by (k == d) runs
  where
    by : (b : Bool) → IsTrue (not b || false) → b ≡ false
    by true is = cc
    by false is = refl
not_own s d e allowed empty runs = refl

pub none_runs : (z : Sizes) (d : ℕ) (h rest : List Entry) → Legal z h → LegalFrom (state_after (opening z) h) rest → all_registered d (opening z) h ≡ [] → OnlyRuns d rest → NoneOf d rest
none_runs z d h [] before legal none runs = refl
none_runs z d h (e ∷ rest) before legal none runs =
    let parts = and_parts (not (is_entry_of d e) || is_run_of d e) _ runs in
    let s : State = state_after (opening z) h in
    let other : is_entry_of d e ≡ false = not_own s d e legal.0 (queue_empty z d h before none) parts.0 in
    let push : state_after (opening z) (h ++ e ∷ []) ≡ next s e = state_after-push (opening z) h e in
    let later : all_registered d (opening z) (h ++ e ∷ []) ≡ [] = registered-append d (opening z) h (e ∷ []) ∙ (λ i. none i ++ (one_quiet d s e parts.0 i ++ [])) in
    let more : Legal z (h ++ e ∷ []) = legal_more (opening z) h e before legal.0 in
    rw other (none_runs z d (h ++ e ∷ []) rest more (subst (λ (t : State). LegalFrom t rest) (sym push) legal.1) later parts.1)
  where
    legal_more : (s : State) (h : List Entry) (e : Entry) → LegalFrom s h → Allowed (state_after s h) e → LegalFrom s (h ++ e ∷ [])
    legal_more s [] e before allowed = (allowed, tt)
    legal_more s (x ∷ h) e before allowed = (before.0, legal_more (next s x) h e before.1 allowed)

-- what a seat performs where none was registered, and what is registered then
module _ (z : Sizes) (d : ℕ) (old new : List Entry) (c : model.Command) (ran : List Reply) (r : Reply) (legal : Legal z old) (none : all_registered d (opening z) old ≡ []) (p : PerformedOn z d old new c ran r) where
  f : Finalised z d old p.before ran
  f = p.finalised

  legal_before : Legal z p.before
  legal_before = (legal_parts (opening z) p.before (Command d c p.full ∷ []) (subst (Legal z) p.appends p.legal)).0

  pub performs : PerformedBy z d old new c r
  performs = record {
    between = f.rest;
    others = none_runs z d old f.rest legal (legal_parts (opening z) old f.rest (subst (Legal z) f.appends legal_before)).1 none f.runs;
    full = p.full;
    appends = p.appends ∙ ap (λ (h : List Entry). h ++ Command d c p.full ∷ []) f.appends;
    legal = p.legal;
    replies = subst (λ (h : List Entry). reply_of (state_after (opening z) h) (Command d c p.full) ≡ Replied r) f.appends p.replies;
  }

  pub unregistered : registrations_of c ≡ 0 → all_registered d (opening z) new ≡ []
  unregistered quiet =
      let s : State = state_after (opening z) p.before in
      ap (all_registered d (opening z)) p.appends ∙ (registered-append d (opening z) p.before (Command d c p.full ∷ [])
      ∙ (λ i. registered_on z d old p.before ran f none i ++ (quiet_command d s c p.full quiet i ++ [])))

-- a seat that has made such a command stands
pub record StoodBy (old new : SeatView) : Type 0 where
  pub heap : new.heap ≡ old.heap
  pub number : new.number ≡ old.number

pub stands_again : (old new : SeatView) (c : model.Command) (ran : List Reply) (r : Reply) → StoodBy old new → Stands old → registrations_of c ≡ 0 → new.labels ≡ old.labels + labels_given c r
    → PerformedOn (sizes_in old.heap.config) old.number old.front new.front c ran r → Stands new
stands_again old new c ran r same was quiet labels p =
    let z : Sizes = sizes_in old.heap.config in
    let d : ℕ = old.number in
    let by : PerformedBy z d old.front new.front c r = performs z d old.front new.front c ran r was.legal was.unregistered p in
    let made = made_labels z d old.front new.front c r by in
    let before = was.labels in
    let serial : (domain_at (state_after (opening z) new.front) d).serial ≡ new.labels = omega (arith, made, before, labels) in
    let none : all_registered d (opening z) new.front ≡ [] = unregistered z d old.front new.front c ran r was.legal was.unregistered p quiet in
    record {
      inside = subst (λ (w : SharedHeap × ℕ). w.1 < w.0.config.domains) (λ i. (sym same.heap i, sym same.number i)) was.inside;
      limits = subst (λ (h : SharedHeap). IsWithinLimits (sizes_in h.config)) (sym same.heap) was.limits;
      legal = subst (λ (h : SharedHeap). Legal (sizes_in h.config) new.front) (sym same.heap) p.legal;
      unregistered = subst (λ (w : SharedHeap × ℕ). all_registered w.1 (opening (sizes_in w.0.config)) new.front ≡ []) (λ i. (sym same.heap i, sym same.number i)) none;
      labels = subst (λ (w : SharedHeap × ℕ). (domain_at (state_of w.0.config new.front) w.1).serial ≡ new.labels) (λ i. (sym same.heap i, sym same.number i)) serial;
    }

-- before the first command
pub unused : (s : SeatView) → IsUnused s → Stands s
unused s u = record {
  inside = u.inside;
  limits = u.limits;
  legal = subst (Legal (sizes_in s.heap.config)) (sym u.front) tt;
  unregistered = ap (all_registered s.number (opening (sizes_in s.heap.config))) u.front;
  labels = ap (λ (h : List Entry). (domain_at (state_of s.heap.config h) s.number).serial) u.front ∙ (ap (λ (x : DomainState). x.serial) (get_or-replicate s.heap.config.domains s.number opening_domain no_domain u.inside) ∙ sym u.labels);
}

-- a seat that has come back from its rest as this one, and then polled
pub record Polls (old mid new : SeatView) (r : Reply) : Type 0 where
  pub heap_then : mid.heap ≡ old.heap
  pub number_then : mid.number ≡ old.number
  pub along : GoesAlong old mid
  pub performed : PerformedOn (sizes_in mid.heap.config) mid.number mid.front new.front Poll (ran_since mid new) r

module _ (old mid new : SeatView) (r : Reply) (polls : Polls old mid new r) where
  abbrev z : Sizes
  z = sizes_in old.heap.config

  at_old : PerformedOn z old.number mid.front new.front Poll (ran_since mid new) r
  at_old = subst (λ (w : SharedHeap × ℕ). PerformedOn (sizes_in w.0.config) w.1 mid.front new.front Poll (ran_since mid new) r) (λ i. (polls.heap_then i, polls.number_then i)) polls.performed

  pub since : PerformedOn z old.number old.front new.front Poll (polls.along.more ++ ran_since mid new) r
  since = let p = at_old in record {
    before = p.before;
    finalised = finalised_on z old.number old.front mid.front p.before polls.along.more (ran_since mid new) polls.along.finalised p.finalised;
    full = p.full;
    appends = p.appends;
    legal = p.legal;
    replies = p.replies;
  }

  pub polled : Stands old → PerformedBy z old.number old.front new.front Poll DoneReply
  polled was = go (performs z old.number old.front new.front Poll (polls.along.more ++ ran_since mid new) r was.legal was.unregistered since)
    where
      go : PerformedBy z old.number old.front new.front Poll r → PerformedBy z old.number old.front new.front Poll DoneReply
      go p =
          let made : p.full ≡ false = not_refused z old.number old.front new.front Poll r p refl in
          let answers : Replied DoneReply ≡ Replied r = sym (ap (λ (b : Bool). reply_of (state_after (opening z) (old.front ++ p.between)) (Command old.number Poll b)) made) ∙ p.replies in
          let is : r ≡ DoneReply = cc in
          subst (PerformedBy z old.number old.front new.front Poll) is p
