-- What has run and what is registered as a history grows, where the finalisers of so many resources are registered.
use Rattle.std.proofs.Common.{◌≡◌, ◌∙◌, ℕ, zero, suc, ◌+◌, ◌<◌, ◌≤◌, Bool, true, false, not, IsTrue, List, [], ◌∷◌, ◌++◌, refl, sym, ap, subst, append-nil, append_assoc, eqb-true, arith}
use Rattle.std.specs.Prelude.{cond, ◌==◌, ◌||◌, count_by, map, take}
use Rattle.std.proofs.lemmas.List.{map-append}
use Rattle.std.proofs.lemmas.List.Folds.{list_any-append}
use Rattle.std.proofs.lemmas.List.Sums.{sum_by-append, sum_by-cons}
use Rattle.model_core.specs.declared.command.Command as model
use Rattle.model_core.specs.declared.command.Command.TheVariants.{Finalise, FinaliseLast}
use Rattle.model_core.specs.declared.entry.Entry.{Entry}
use Rattle.model_core.specs.declared.entry.Entry.TheVariants.{Command, End, Cut, Queue, Seal, Wipe, Last as LastOf, Collected, Done, Ran}
use Rattle.model_core.specs.declared.reply.Reply.{Reply}
use Rattle.model_core.specs.declared.reply.Reply.TheVariants.{Fin as FinReply, Last as LastReply}
use Rattle.model_core.specs.declared.state.DomainState.{DomainState}
use Rattle.model_core.specs.declared.state.Pending.{Pending}
use Rattle.model_core.specs.declared.state.Pending.TheVariants.{Fin, Last}
use Rattle.model_core.specs.declared.state.Sizes.{Sizes}
use Rattle.model_core.specs.declared.state.State.{State}
use Rattle.model_core.specs.Domains.{domain_at, opening, with_domain}
use Rattle.model_core.specs.Entries.{after_run, next, queued_final, queued_last, reply, run_reply}
use Rattle.model_core.specs.History.{IsPrefix, Legal, LegalFrom, is_entry_of, reply_list, state_after}
use Rattle.model_core.specs.Registrations.{all_ran, all_registered, ran as run_by, registered, registered_by}
use Rattle.model_core.proofs.Collections.RegistrationLemmas.{registrations_law}
use Rattle.model_core.specs.Fronts.{KeepsDomain}
use Rattle.model_core.proofs.Commands.FrameLemmas.{keeps_next, part_set}
use Rattle.model_core.proofs.Graphs.GraphLemmas.{and_parts}
use Rattle.model_core.proofs.Histories.HistoryLemmas.{state_after-push}
use Rattle.run_turns.specs.Handed.{Finalised, OnlyRuns, PerformedOn}
use Rattle.run_turns.specs.Kept.{finalised, is_run_of, replies_to}
use Rattle.run_turns.specs.Tries.{registrations_of}
use Rattle.run_turns.proofs.Kept.{replies_to-append}
use Rattle.example_handles.specs.Handling.{numbered}
use Rattle.example_handles.specs.Resources.{is_last, names}

-- a legal history is one of its first part, and from there
pub legal_parts : (s : State) (h k : List Entry) → LegalFrom s (h ++ k) → LegalFrom s h × LegalFrom (state_after s h) k
legal_parts s [] k legal = (tt, legal)
legal_parts s (e ∷ h) k legal = let rest = legal_parts (next s e) h k legal.1 in ((legal.0, rest.0), rest.1)

-- it has grown twice
pub prefix_on : (a b c : List Entry) → IsPrefix a b → IsPrefix b c → IsPrefix a c
prefix_on a b c x y = record { rest = x.rest ++ y.rest; appends = y.appends ∙ (ap (λ (h : List Entry). h ++ y.rest) x.appends ∙ append_assoc a x.rest y.rest) }

-- what has run by the end of a command is what ran before it
pub ran_by_then : (z : Sizes) (d : ℕ) (old new : List Entry) (c : model.Command) (ran : List Reply) (r : Reply) → (p : PerformedOn z d old new c ran r) → finalised z new d ≡ finalised z p.before d
ran_by_then z d old new c ran r p =
    ap (λ (h : List Entry). finalised z h d) p.appends ∙ (replies_to-append (is_run_of d) (opening z) p.before (Command d c p.full ∷ []) ∙ append-nil (finalised z p.before d))

-- what has run stays so
or_left : (a b : Bool) → a ≡ true → (a || b) ≡ true
or_left true b is = refl
or_left false b is = cc

pub names_on : (z : Sizes) (d : ℕ) (old new : List Entry) (k : ℕ) → IsPrefix old new → names (finalised z old d) k ≡ true → names (finalised z new d) k ≡ true
names_on z d old new k grows is =
    ap (λ (h : List Entry). names (finalised z h d) k) grows.appends ∙ (ap (λ (rs : List Reply). names rs k) (replies_to-append (is_run_of d) (opening z) old grows.rest)
    ∙ (list_any-append (is_last k) (finalised z old d) (replies_to (is_run_of d) (state_after (opening z) old) grows.rest) ∙ or_left (names (finalised z old d) k) _ is))

-- others' entries and runs register none
one_quiet : (d : ℕ) (s : State) (e : Entry) → IsTrue (not (is_entry_of d e) || is_run_of d e) → registered d s e ≡ []
one_quiet d s (Command k c true) runs = refl
one_quiet d s (Command k c false) runs = by (k == d) runs
  where
    by : (b : Bool) → IsTrue (not b || false) → cond b (registered_by s k c) [] ≡ []
    by true is = cc
    by false is = refl
one_quiet d s e runs = refl

registered-append : (d : ℕ) (s : State) (h k : List Entry) → all_registered d s (h ++ k) ≡ all_registered d s h ++ all_registered d (state_after s h) k
registered-append d s [] k = refl
registered-append d s (e ∷ h) k = ap (λ (rs : List Pending). registered d s e ++ rs) (registered-append d (next s e) h k) ∙ sym (append_assoc (registered d s e) (all_registered d (next s e) h) (all_registered d (state_after (next s e) h) k))

runs_quiet : (d : ℕ) (s : State) (h : List Entry) → OnlyRuns d h → all_registered d s h ≡ []
runs_quiet d s [] runs = refl
runs_quiet d s (e ∷ h) runs =
    let parts = and_parts (not (is_entry_of d e) || is_run_of d e) _ runs in
    (λ i. one_quiet d s e parts.0 i ++ runs_quiet d (next s e) h parts.1 i)

pub registered_on : (z : Sizes) (d : ℕ) (old new : List Entry) (ran : List Reply) → Finalised z d old new ran → all_registered d (opening z) new ≡ all_registered d (opening z) old
registered_on z d old new ran f =
    ap (all_registered d (opening z)) f.appends ∙ (registered-append d (opening z) old f.rest
    ∙ ((λ i. all_registered d (opening z) old ++ runs_quiet d (state_after (opening z) old) f.rest f.runs i) ∙ append-nil (all_registered d (opening z) old)))

-- a command registers what it does
pub registered_performed : (z : Sizes) (d : ℕ) (old new : List Entry) (c : model.Command) (ran : List Reply) (r : Reply) → (p : PerformedOn z d old new c ran r)
    → all_registered d (opening z) new ≡ all_registered d (opening z) old ++ registered d (state_after (opening z) p.before) (Command d c p.full)
registered_performed z d old new c ran r p =
    let s : State = state_after (opening z) p.before in
    ap (all_registered d (opening z)) p.appends ∙ (registered-append d (opening z) p.before (Command d c p.full ∷ [])
    ∙ (λ i. registered_on z d old p.before ran p.finalised i ++ append-nil (registered d s (Command d c p.full)) i))

either_none : (b : Bool) → ◌≡◌ {A = List Pending} (cond b [] []) []
either_none true = refl
either_none false = refl

pub registers_none : (d : ℕ) (s : State) (c : model.Command) (full : Bool) → registrations_of c ≡ 0 → registered d s (Command d c full) ≡ []
registers_none d s c true quiet = refl
registers_none d s (Finalise item number dst) false quiet = absurd (omega (arith, quiet))
registers_none d s (FinaliseLast item number) false quiet = absurd (omega (arith, quiet))
registers_none d s _ false quiet = either_none (d == d)

-- what has run answers what was registered
abbrev pub answer_of : Pending → Reply
answer_of (Fin number l r) = FinReply number l
answer_of (Last number) = LastReply number

pub ran_answers : (d : ℕ) (s : State) (h : List Entry) → replies_to (is_run_of d) s h ≡ map answer_of (all_ran d s h)
ran_answers d s [] = refl
ran_answers d s (e ∷ h) = (λ i. one e i ++ ran_answers d (next s e) h i) ∙ sym (map-append answer_of (run_by d s e) (all_ran d (next s e) h))
  where
    by : (b : Bool) (queue : List Pending) → cond b (reply_list (run_reply queue)) [] ≡ map answer_of (cond b (take 1 queue) [])
    by false queue = refl
    by true [] = refl
    by true (Fin number l r ∷ rest) = refl
    by true (Last number ∷ rest) = refl

    one : (e : Entry) → cond (is_run_of d e) (reply_list (reply s e)) [] ≡ map answer_of (run_by d s e)
    one (Ran k) = by (k == d) (domain_at s k).queue
    one e = refl

-- whether a registration is that of the resource with this number
abbrev pub is_of : ℕ → Pending → Bool
is_of k (Last number) = number == k
is_of k (Fin number l r) = false

abbrev is_final : Pending → Bool
is_final (Last number) = false
is_final (Fin number l r) = true

named_counts : (k : ℕ) (ps : List Pending) → names (map answer_of ps) k ≡ true → 0 < count_by (is_of k) ps
named_counts k [] is = cc
named_counts k (p ∷ ps) is = let all = sum_by-cons (λ q. cond (is_of k q) 1 0) p ps in let some = one p is (named_counts k ps) in omega (arith, all, some)
  where
    by : (b : Bool) → (b || names (map answer_of ps) k) ≡ true → (names (map answer_of ps) k ≡ true → 0 < count_by (is_of k) ps) → 0 < cond b 1 0 + count_by (is_of k) ps
    by true is rest = omega arith
    by false is rest = let more = rest is in omega (arith, more)

    one : (p : Pending) → names (map answer_of (p ∷ ps)) k ≡ true → (names (map answer_of ps) k ≡ true → 0 < count_by (is_of k) ps) → 0 < cond (is_of k p) 1 0 + count_by (is_of k) ps
    one (Fin number l r) is rest = let more = rest is in omega (arith, more)
    one (Last number) is rest = by (number == k) is rest

none_of : (k n : ℕ) → n ≤ k → count_by (is_of k) (numbered n) ≡ 0
none_of k zero few = refl
none_of k (suc n) few =
    let before = none_of k n (omega (arith, few)) in
    let both = sum_by-append (λ p. cond (is_of k p) 1 0) (numbered n) (Last n ∷ []) in
    let one = sum_by-cons (λ p. cond (is_of k p) 1 0) (Last n) [] in
    let last : ◌≡◌ {A = ℕ} (cond (n == k) 1 0) 0 = by (n == k) refl in
    omega (arith, before, both, one, last)
  where
    by : (b : Bool) → (n == k) ≡ b → ◌≡◌ {A = ℕ} (cond b 1 0) 0
    by true is = absurd (let same : n ≡ k = eqb-true n k is in omega (arith, same, few))
    by false is = refl

no_final : (n : ℕ) → count_by is_final (numbered n) ≡ 0
no_final zero = refl
no_final (suc n) =
    let before = no_final n in
    let both = sum_by-append (λ p. cond (is_final p) 1 0) (numbered n) (Last n ∷ []) in
    let one = sum_by-cons (λ p. cond (is_final p) 1 0) (Last n) [] in
    omega (arith, before, both, one)

-- so no other finaliser has run, by the law that each registration runs once at most
pub none_named : (z : Sizes) (d : ℕ) (h : List Entry) (n k : ℕ) → Legal z h → all_registered d (opening z) h ≡ numbered n → n ≤ k → names (finalised z h d) k ≡ true → ⊥
none_named z d h n k legal are few is =
    let law = registrations_law z h d (is_of k) legal in
    let none : count_by (is_of k) (all_registered d (opening z) h) ≡ 0 = ap (count_by (is_of k)) are ∙ none_of k n few in
    let some = named_counts k (all_ran d (opening z) h) (ap (λ (rs : List Reply). names rs k) (sym (ran_answers d (opening z) h)) ∙ is) in
    omega (arith, law, none, some)

-- and no finaliser waits that puts a block into a register
waits_last : (z : Sizes) (d : ℕ) (h : List Entry) (n : ℕ) → Legal z h → all_registered d (opening z) h ≡ numbered n → count_by is_final (domain_at (state_after (opening z) h) d).queue ≡ 0
waits_last z d h n legal are =
    let x : DomainState = domain_at (state_after (opening z) h) d in
    let law = registrations_law z h d is_final legal in
    let none : count_by is_final (all_registered d (opening z) h) ≡ 0 = ap (count_by is_final) are ∙ no_final n in
    let outer = sum_by-append (λ p. cond (is_final p) 1 0) (map queued_final x.finals ++ map queued_last x.lasts) x.queue in
    omega (arith, law, none, outer)

-- two states in which a domain's registers and its last serial are the same
pub record HoldsSame (d : ℕ) (s t : State) : Type 0 where
  pub registers : (domain_at t d).registers ≡ (domain_at s d).registers
  pub serial : (domain_at t d).serial ≡ (domain_at s d).serial

pub same_part : (d : ℕ) (s : State) (x : DomainState) → x.registers ≡ (domain_at s d).registers → x.serial ≡ (domain_at s d).serial → HoldsSame d s (with_domain s d x)
same_part d s x registers serial = record { registers = part_set (λ y. y.registers) s.domains d x registers d; serial = part_set (λ y. y.serial) s.domains d x serial d }

kept_by : (d : ℕ) (s t : State) → KeepsDomain s t d → HoldsSame d s t
kept_by d s t k = record { registers = k.registers; serial = k.serial }

run_keeps : (d : ℕ) (s : State) (queue : List Pending) → count_by is_final queue ≡ 0 → HoldsSame d s (after_run s d queue)
run_keeps d s [] none = record { registers = refl; serial = refl }
run_keeps d s (Fin number l r ∷ rest) none = absurd (let one = sum_by-cons (λ p. cond (is_final p) 1 0) (Fin number l r) rest in omega (arith, none, one))
run_keeps d s (Last number ∷ rest) none = same_part d s _ refl refl

one_keeps : (d : ℕ) (s : State) (e : Entry) → IsTrue (not (is_entry_of d e) || is_run_of d e) → count_by is_final (domain_at s d).queue ≡ 0 → HoldsSame d s (next s e)
one_keeps d s (Command k c full) runs none = go (k == d) refl runs
  where
    go : (b : Bool) → (k == d) ≡ b → IsTrue (not b || false) → HoldsSame d s (next s (Command k c full))
    go true e runs = cc
    go false e runs = kept_by d s (next s (Command k c full)) (keeps_next s (Command k c full) d e)
one_keeps d s (End k) runs none = go (k == d) refl runs
  where
    go : (b : Bool) → (k == d) ≡ b → IsTrue (not b || false) → HoldsSame d s (next s (End k))
    go true e runs = cc
    go false e runs = kept_by d s (next s (End k)) (keeps_next s (End k) d e)
one_keeps d s (Ran k) runs none = go (k == d) refl
  where
    go : (b : Bool) → (k == d) ≡ b → HoldsSame d s (next s (Ran k))
    go true e = subst (λ (j : ℕ). HoldsSame d s (next s (Ran j))) (sym (eqb-true k d e)) (run_keeps d s (domain_at s d).queue none)
    go false e = kept_by d s (next s (Ran k)) (keeps_next s (Ran k) d e)
one_keeps d s Cut runs none = kept_by d s (next s Cut) (keeps_next s Cut d refl)
one_keeps d s (Queue k places) runs none = kept_by d s (next s (Queue k places)) (keeps_next s (Queue k places) d refl)
one_keeps d s Seal runs none = kept_by d s (next s Seal) (keeps_next s Seal d refl)
one_keeps d s (Wipe l keys) runs none = kept_by d s (next s (Wipe l keys)) (keeps_next s (Wipe l keys) d refl)
one_keeps d s (LastOf k place) runs none = kept_by d s (next s (LastOf k place)) (keeps_next s (LastOf k place) d refl)
one_keeps d s Collected runs none = kept_by d s (next s Collected) (keeps_next s Collected d refl)
one_keeps d s Done runs none = kept_by d s (next s Done) (keeps_next s Done d refl)

-- one after the other
pub same_on : (d : ℕ) (s t u : State) → HoldsSame d s t → HoldsSame d t u → HoldsSame d s u
same_on d s t u a b = record { registers = b.registers ∙ a.registers; serial = b.serial ∙ a.serial }

-- so the registers hold between two commands what they held, and no label is given out
pub registers_on : (z : Sizes) (d n : ℕ) (h rest : List Entry) → Legal z (h ++ rest) → all_registered d (opening z) h ≡ numbered n → OnlyRuns d rest → HoldsSame d (state_after (opening z) h) (state_after (opening z) (h ++ rest))
registers_on z d n h [] legal are runs = subst (λ (k : List Entry). HoldsSame d (state_after (opening z) h) (state_after (opening z) k)) (sym (append-nil h)) (record { registers = refl; serial = refl })
registers_on z d n h (e ∷ rest) legal are runs =
    let parts = and_parts (not (is_entry_of d e) || is_run_of d e) _ runs in
    let s : State = state_after (opening z) h in
    let same : (h ++ e ∷ []) ++ rest ≡ h ++ e ∷ rest = append_assoc h (e ∷ []) rest in
    let before : Legal z h = (legal_parts (opening z) h (e ∷ rest) legal).0 in
    let are' : all_registered d (opening z) (h ++ e ∷ []) ≡ numbered n = registered-append d (opening z) h (e ∷ []) ∙ ((λ i. are i ++ (one_quiet d s e parts.0 i ++ [])) ∙ append-nil (numbered n)) in
    let one : HoldsSame d s (state_after (opening z) (h ++ e ∷ [])) = subst (λ (t : State). HoldsSame d s t) (sym (state_after-push (opening z) h e)) (one_keeps d s e parts.0 (waits_last z d h n before are)) in
    subst (λ (k : List Entry). HoldsSame d s (state_after (opening z) k)) same
    (same_on d s _ _ one (registers_on z d n (h ++ e ∷ []) rest (subst (Legal z) (sym same) legal) are' parts.1))
