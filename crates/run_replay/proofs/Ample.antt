-- The blocks that the runs of a replay make are few: no allocation is refused.
use Rattle.std.proofs.Common.{◌≡◌, ◌≢◌, ◌∙◌, ◌+◌, ◌*◌, ◌<◌, ◌≤◌, ℕ, Bool, true, false, List, [], ◌∷◌, ◌++◌, append_assoc, append-nil, cond, count_by, drop, take, length, map, get_or, set, Option, Some, arith, eq-eqb, ne_eqb, refl, sym, ap, subst, ⊎_elim}
use Rattle.std.proofs.lemmas.Bool.{cases_eq, cases_lt}
use Rattle.std.proofs.lemmas.List.{get_or-set_other, get_or-set_same, get_or_past, length-map, take-append-drop}
use Rattle.std.proofs.lemmas.List.Sums.{sum_by-cons, sum_by-set}
use Rattle.model_core.specs.declared.command.Command.{Command}
use Rattle.model_core.specs.declared.entry.Entry.{Entry}
use Rattle.model_core.specs.declared.entry.Entry.TheVariants.{Command as CommandOf, End, Cut, Queue, Seal, Wipe, Last, Collected, Done, Ran}
use Rattle.model_core.specs.Commands.{is_allocation}
use Rattle.model_core.specs.Domains.{class_count, opening, reserve}
use Rattle.model_core.specs.Fronts.{IsFrontOf}
use Rattle.model_core.specs.History.{Legal, commands, state_after}
use Rattle.model_core.proofs.Histories.HistoryLemmas.{commands-append, commands-others}
use Rattle.heap_rule.specs.declared.config.Config.{Config}
use Rattle.heap_rule.specs.declared.view.DomainView.{DomainView}
use Rattle.heap_rule.specs.declared.view.Hunt.TheVariants.{Rests as AtRest}
use Rattle.heap_rule.specs.Limits.{sizes_in}
use Rattle.heap_rule.specs.Meeting.{Trails}
use Rattle.heap_rule.specs.Standing.{with_front}
use Rattle.heap_rule.specs.Token.{SharedHeap}
use Rattle.do_alloc.proofs.OfPools.Seeking.{sought_view}
use Rattle.run_turns.specs.declared.supply.Supply.{Supply}
use Rattle.run_turns.specs.declared.supply.Supply.TheVariants.{Listed}
use Rattle.run_turns.specs.Runs.{RunView, AsksFull, EndsIn, IsRun}
use Rattle.run_turns.specs.Tries.{HasMany}
use Rattle.gc_pause.specs.Laws.Blocks.{made_by, one_if}
use Rattle.gc_pause.proofs.OfLaws.Blocks.{blocks_few}
use Rattle.model_traces.specs.Schedules.Pools.{allocations}
use Rattle.run_replay.specs.Asking.{AskFew, HasAmple, commands_at}
use Rattle.run_replay.specs.Gathered.{HasRun}
use Rattle.run_replay.specs.Leveled.{AllHere}
use Rattle.run_replay.proofs.Histories.{none_beyond}
use Rattle.run_replay.proofs.Places.{read_at}

-- the commands of a domain in a history are the first of these
abbrev pub IsPartOf : List Command → List Command → Type 0
IsPartOf made all = (rest : List Command) × (all ≡ made ++ rest)

one_is : (b : Bool) → cond b 1 0 ≡ one_if b
one_is true = refl
one_is false = refl

-- one command more
allocates_one : (c : Command) (cs : List Command) → count_by is_allocation (c ∷ cs) ≡ one_if (is_allocation c) + count_by is_allocation cs
allocates_one c cs = sum_by-cons (λ x. cond (is_allocation x) 1 0) c cs ∙ ap (λ n. n + count_by is_allocation cs) (one_is (is_allocation c))

-- one that isn't the last of its domain's lies in the list
inside_of : (script : List (List Command)) (d : ℕ) (c : Command) (cs : List Command) → get_or script d [] ≡ c ∷ cs → d < length script
inside_of script d c cs at = ⊎_elim (λ (less : d < length script). less) (λ (more : length script ≤ d). absurd (let e : [] ≡ c ∷ cs = sym (get_or_past script d [] more) ∙ at in cc)) (cases_lt d (length script))

-- without the first command of a domain
allocates_fewer : (script : List (List Command)) (d : ℕ) (c : Command) (cs : List Command) → get_or script d [] ≡ c ∷ cs → allocations script ≡ one_if (is_allocation c) + allocations (set script d cs)
allocates_fewer script d c cs at =
    let both = sum_by-set (count_by is_allocation) script d cs [] (inside_of script d c cs at) in
    let here : count_by is_allocation (get_or script d []) ≡ one_if (is_allocation c) + count_by is_allocation cs = ap (count_by is_allocation) at ∙ allocates_one c cs in
    let new : ℕ = allocations (set script d cs) in
    let old : ℕ = allocations script in
    omega (arith, both, here)

-- a history whose commands are the first of these has made no more blocks than these allocate
made_few : (h : List Entry) (script : List (List Command)) → ((d : ℕ) → IsPartOf (commands h d) (get_or script d [])) → made_by h ≤ allocations script
made_few [] script parts = omega arith
made_few (CommandOf d c full ∷ h) script parts =
    let mine = parts d in
    let rest : List Command = mine.0 in
    let cs : List Command = commands h d ++ rest in
    let at : get_or script d [] ≡ c ∷ cs = mine.1 ∙ ap (λ (b : Bool). (cond b (c ∷ []) [] ++ commands h d) ++ rest) (eq-eqb d d refl) in
    let fewer = allocates_fewer script d c cs at in
    let others : (e : ℕ) → IsPartOf (commands h e) (get_or (set script d cs) e []) = λ e. ⊎_elim
    (λ (same : e ≡ d). (subst (λ (n : ℕ). IsPartOf (commands h n) (get_or (set script d cs) n [])) (sym same) (rest, get_or-set_same script d cs [] (inside_of script d c cs at))))
    (λ (away : e ≢ d).
    let p = parts e in
    (p.0, get_or-set_other script d e cs [] away ∙ (p.1 ∙ ap (λ (b : Bool). (cond b (c ∷ []) [] ++ commands h e) ++ p.0) (ne_eqb d e (λ s. away (sym s))))))
    (cases_eq e d) in
    let less = made_few h (set script d cs) others in
    let one : ℕ = one_if (is_allocation c) in
    omega (arith, fewer, less)
made_few (End d ∷ h) script parts = let few = made_few h script parts in omega (arith, few)
made_few (Cut ∷ h) script parts = let few = made_few h script parts in omega (arith, few)
made_few (Queue d places ∷ h) script parts = let few = made_few h script parts in omega (arith, few)
made_few (Seal ∷ h) script parts = let few = made_few h script parts in omega (arith, few)
made_few (Wipe l keys ∷ h) script parts = let few = made_few h script parts in omega (arith, few)
made_few (Last d place ∷ h) script parts = let few = made_few h script parts in omega (arith, few)
made_few (Collected ∷ h) script parts = let few = made_few h script parts in omega (arith, few)
made_few (Done ∷ h) script parts = let few = made_few h script parts in omega (arith, few)
made_few (Ran d ∷ h) script parts = let few = made_few h script parts in omega (arith, few)

pools_short : (pools blocks kept begun all made : ℕ) → made ≤ all → blocks ≤ 1 + made → 2 * (all + 1 + begun) ≤ pools → 2 * kept + 2 ≤ pools → pools ≤ blocks + kept + begun → ⊥
pools_short pools blocks kept begun all made few graph ample reserved many = omega arith

-- so no domain sees so many blocks that pools may be short
pub never_many : (k : Config) (script : List (List Command)) (x : DomainView) → HasAmple k script → ((d : ℕ) → IsPartOf (commands x.seen.front d) (get_or script d [])) → HasMany k x → ⊥
never_many k script x ample parts many =
    let z = sizes_in k in
    pools_short k.pools (length (state_after (opening z) x.seen.front).graph) (reserve z) (class_count * k.domains) (allocations script) (made_by x.seen.front)
    (made_few x.seen.front script parts) (blocks_few z x.seen.front) ample.few ample.reserved many

-- the commands of a run that its domain has made
own_made : (q : RunView) → IsRun q → q.supply ≡ Listed → (d : ℕ) → q.token.view.own.number ≡ d → commands q.token.view.seen.front d ≡ take q.next q.commands
own_made q is listed d number = subst (λ (n : ℕ). commands q.token.view.seen.front n ≡ take q.next q.commands) number (subst (λ (s : Supply). EndsIn s (commands q.token.view.seen.front q.token.view.own.number) (take q.next q.commands)) listed is.made)

-- and of one that has shared a history with another domain
shared_part : (q : RunView) → IsRun q → q.supply ≡ Listed → (d : ℕ) → q.token.view.own.number ≡ d → (x : DomainView) (history : List Entry) → Trails history q.token.view → Trails history x → IsPartOf (commands x.seen.front d) q.commands
shared_part q is listed d number x history mine other =
    let f : IsFrontOf d history q.token.view.seen.front = subst (λ (n : ℕ). IsFrontOf n history q.token.view.seen.front) number mine.begins in
    let front : List Entry = q.token.view.seen.front in
    let whole : commands history d ≡ commands front d = ap (λ (l : List Entry). commands l d) f.appends ∙ (commands-append front f.rest d ∙ (ap (λ t. commands front d ++ t) (commands-others f.rest d f.others) ∙ append-nil (commands front d))) in
    let rest : List Command = commands other.begins.rest d in
    let parts : commands history d ≡ commands x.seen.front d ++ rest = ap (λ (l : List Entry). commands l d) other.begins.appends ∙ commands-append x.seen.front other.begins.rest d in
    let left : List Command = drop q.next q.commands in (
      rest ++ left,
      sym (take-append-drop q.next q.commands) ∙ (ap (λ (l : List Command). l ++ left) (sym (own_made q is listed d number) ∙ (sym whole ∙ parts)) ∙ append_assoc (commands x.seen.front d) rest left),
    )

-- no allocation of a replay is refused
pub never_refused : (h : SharedHeap) (runs : List (Option RunView)) (at : ℕ) (r s : RunView) → AllHere h runs → AskFew h runs → HasRun runs at r → IsRun s
    → ((d : ℕ) (q : RunView) → d ≢ at → HasRun runs d q → (history : List Entry) × Trails history q.token.view × Trails history s.token.view) → AsksFull h r.token r s → ⊥
never_refused h runs at r s all few here is shared a =
    let found = sought_view h.config r.token.view (with_front a.searched.view r.token.view.seen.front) AtRest a.refused.view in
    let number : s.token.view.own.number ≡ at = ap (λ (v : RunView). v.token.view.own.number) a.run ∙ (ap (λ (x : DomainView). x.own.number) found ∙ few.numbers at r here) in
    let commands_are : s.commands ≡ r.commands = ap (λ (v : RunView). v.commands) a.run in
    let listed : s.supply ≡ Listed = ap (λ (v : RunView). v.supply) a.run ∙ few.listed at r here in
    let front : a.searched.view.seen.front ≡ s.token.view.seen.front = sym (ap (λ (v : RunView). v.token.view.seen.front) a.run) in
    let legal : Legal (sizes_in h.config) s.token.view.seen.front = subst (Legal (sizes_in h.config)) front a.refused.looked.legal in
    let script : List (List Command) = map commands_at runs in
    let mine : IsPartOf (commands s.token.view.seen.front at) (get_or script at []) = (
      drop s.next s.commands,
      read_at commands_at runs at (Some r) [] here ∙ (sym commands_are ∙ (sym (take-append-drop s.next s.commands) ∙ ap (λ (l : List Command). l ++ drop s.next s.commands) (sym (own_made s is listed at number)))),
    ) in
    let inside_part : (d : ℕ) → d ≢ at → d < length runs → IsPartOf (commands s.token.view.seen.front d) (get_or script d []) = λ d away below.
    let q = all.filled d below in
    let both = shared d q.0 away q.1 in
    let p = shared_part q.0 (all.are d q.0 q.1) (few.listed d q.0 q.1) d (few.numbers d q.0 q.1) s.token.view both.0 both.1 both.2 in
    (p.0, read_at commands_at runs d (Some q.0) [] q.1 ∙ p.1) in
    let outside : (d : ℕ) → length runs ≤ d → IsPartOf (commands s.token.view.seen.front d) (get_or script d []) = λ d above.
    let count = few.count in
    let none : commands s.token.view.seen.front d ≡ [] = commands-others s.token.view.seen.front d (none_beyond (sizes_in h.config) s.token.view.seen.front d (let same : length runs ≡ h.config.domains = count in omega (arith, same, above)) legal) in
    let long = length-map runs commands_at in
    ([], get_or_past script d [] (omega (arith, long, above)) ∙ ap (λ (l : List Command). l ++ []) (sym none)) in
    never_many h.config script a.searched.view few.enough
    (λ d. subst (λ (l : List Entry). IsPartOf (commands l d) (get_or script d [])) (sym front)
    (⊎_elim (λ (same : d ≡ at). subst (λ (n : ℕ). IsPartOf (commands s.token.view.seen.front n) (get_or script n [])) (sym same) mine)
    (λ (away : d ≢ at). ⊎_elim (inside_part d away) (outside d) (cases_lt d (length runs)))
    (cases_eq d at)))
    a.refused.many
