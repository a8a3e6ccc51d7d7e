-- Until a domain makes a command, the complete collection that was is fresh for it, whatever others do.
use Rattle.std.proofs.Common.{◌≡◌, ◌≢◌, ℕ, zero, suc, ◌<◌, arith, true, false, List, [], ◌∷◌, map, length, get_or, Option, Some, None, refl, ap, sym, ◌∙◌, subst, length-set, get_or-set_other}
use Rattle.std.proofs.lemmas.List.{length-map, length-replicate}
use Rattle.model_core.specs.declared.entry.Entry.{Entry}
use Rattle.model_core.specs.declared.entry.Entry.TheVariants.{Command as CommandOf, End, Cut, Queue, Seal, Wipe, Last as LastOf, Collected, Done, Ran}
use Rattle.model_core.specs.declared.graph.Node.{Node}
use Rattle.model_core.specs.declared.label.Label.{Label}
use Rattle.model_core.specs.declared.command.Command.{Command}
use Rattle.model_core.specs.declared.state.DomainState.{DomainState}
use Rattle.model_core.specs.declared.state.Mode.TheVariants.{Answer}
use Rattle.model_core.specs.declared.state.Pending.{Pending}
use Rattle.model_core.specs.declared.state.Pending.TheVariants.{Fin, Last}
use Rattle.model_core.specs.declared.state.Sizes.{Sizes}
use Rattle.model_core.specs.declared.state.State.{State}
use Rattle.model_core.specs.Domains.{domain_at, with_domain, no_domain, opening, opening_domain}
use Rattle.model_core.specs.Commands.{outcome}
use Rattle.model_core.specs.Entries.{wiped, with_wiped, with_queued, with_last_queued, with_finals_open, with_lasts_open, freshened, without_first, ended, after_run, next}
use Rattle.model_core.specs.Graph.{node_at}
use Rattle.model_core.specs.History.{state_after, is_entry_of}
use Rattle.model_core.specs.Fronts.{NoneOf, IsFrontOf}
use Rattle.model_core.proofs.Commands.FrameLemmas.{part_set, part_map, frame_command, not_same}
use Rattle.model_core.proofs.Commands.MoveLemmas.{keeps_outcome}
use Rattle.model_core.proofs.Histories.FrontLemmas.{none_cons}
use Rattle.model_core.proofs.Histories.HistoryLemmas.{state_after-append}
use Rattle.model_core.proofs.Histories.SizesLemmas.{count_after, count_next}

-- a complete collection has been since the last command of domain d
abbrev pub IsFresh : State → ℕ → Type 0
IsFresh s d = (domain_at s d).fresh ≡ true

fresh_map : (xs : List DomainState) (d : ℕ) → d < length xs → (get_or (map freshened xs) d no_domain).fresh ≡ true
fresh_map [] d inside = absurd (omega arith)
fresh_map (x ∷ xs) zero inside = refl
fresh_map (x ∷ xs) (suc d) inside = fresh_map xs d (omega arith)

inside_fresh : (xs : List DomainState) (d : ℕ) → (get_or xs d no_domain).fresh ≡ true → d < length xs
inside_fresh [] d e = cc
inside_fresh (x ∷ xs) zero e = omega arith
inside_fresh (x ∷ xs) (suc d) e = let rest = inside_fresh xs d e in omega arith

wiped_fresh : (s : State) (l : Label) (o : Option Node) (d : ℕ) → (domain_at (with_wiped s l o) d).fresh ≡ (domain_at s d).fresh
wiped_fresh s l None d = refl
wiped_fresh s l (Some n) d = refl

run_fresh : (s : State) (j : ℕ) (queue : List Pending) (d : ℕ) → d ≢ j → (domain_at (after_run s j queue) d).fresh ≡ (domain_at s d).fresh
run_fresh s j [] d other = refl
run_fresh s j (Fin number l r ∷ rest) d other =
    let ran : State = with_domain s j (without_first (domain_at s j) rest) in
    ap (λ (x : DomainState). x.fresh) (get_or-set_other ran.domains j d _ no_domain other ∙ get_or-set_other s.domains j d _ no_domain other)
run_fresh s j (Last number ∷ rest) d other = ap (λ (x : DomainState). x.fresh) (get_or-set_other s.domains j d _ no_domain other)

-- an entry that isn't of domain d leaves it so
fresh_next : (s : State) (e : Entry) (d : ℕ) → is_entry_of d e ≡ false → IsFresh s d → IsFresh (next s e) d
fresh_next s (CommandOf j c full) d other fresh = ap (λ (x : DomainState). x.fresh) ((frame_command s j c full).elsewhere d (not_same j d other)) ∙ fresh
fresh_next s (End j) d other fresh = part_set (λ x. x.fresh) s.domains j (ended (domain_at s j)) refl d ∙ fresh
fresh_next s Cut d other fresh = part_map (λ x. x.fresh) with_finals_open (λ x. refl) s.domains d ∙ fresh
fresh_next s (Queue j places) d other fresh = part_set (λ x. x.fresh) s.domains j (with_queued (domain_at s j) places) refl d ∙ fresh
fresh_next s Seal d other fresh = part_map (λ x. x.fresh) with_lasts_open (λ x. refl) s.domains d ∙ fresh
fresh_next s (Wipe l keys) d other fresh = wiped_fresh s l (wiped keys (node_at s.graph l)) d ∙ fresh
fresh_next s (LastOf j place) d other fresh = part_set (λ x. x.fresh) s.domains j (with_last_queued (domain_at s j) place) refl d ∙ fresh
fresh_next s Collected d other fresh = fresh_map s.domains d (inside_fresh s.domains d fresh)
fresh_next s Done d other fresh = fresh
fresh_next s (Ran j) d other fresh = run_fresh s j (domain_at s j).queue d (not_same j d other) ∙ fresh

fresh_after : (s : State) (h : List Entry) (d : ℕ) → NoneOf d h → IsFresh s d → IsFresh (state_after s h) d
fresh_after s [] d none fresh = fresh
fresh_after s (e ∷ h) d none fresh = let parts = none_cons d e h none in fresh_after (next s e) h d parts.1 (fresh_next s e d parts.0 fresh)

-- where a complete collection is answered, it is fresh for domain d
abbrev IsFreshAnswer : State → ℕ → Type 0
IsFreshAnswer s d = s.mode ≡ Answer → IsFresh s d

-- and it stays so at the entries of others, for the mode is so only after a Collected
answer_next : (s : State) (e : Entry) (d : ℕ) → d < length s.domains → is_entry_of d e ≡ false → IsFreshAnswer s d → IsFreshAnswer (next s e) d
answer_next s (CommandOf j c full) d inside other was mode = fresh_next s (CommandOf j c full) d other (was (sym (frame_command s j c full).mode ∙ mode))
answer_next s (End j) d inside other was mode = fresh_next s (End j) d other (was mode)
answer_next s Cut d inside other was mode = cc
answer_next s (Queue j places) d inside other was mode = fresh_next s (Queue j places) d other (was mode)
answer_next s Seal d inside other was mode = cc
answer_next s (Wipe l keys) d inside other was mode = fresh_next s (Wipe l keys) d other (was (sym (wiped_mode (wiped keys (node_at s.graph l))) ∙ mode))
  where
    wiped_mode : (o : Option Node) → (with_wiped s l o).mode ≡ s.mode
    wiped_mode None = refl
    wiped_mode (Some n) = refl
answer_next s (LastOf j place) d inside other was mode = fresh_next s (LastOf j place) d other (was mode)
answer_next s Collected d inside other was mode = fresh_map s.domains d inside
answer_next s Done d inside other was mode = cc
answer_next s (Ran j) d inside other was mode = fresh_next s (Ran j) d other (was (sym (run_mode (domain_at s j).queue) ∙ mode))
  where
    run_mode : (queue : List Pending) → (after_run s j queue).mode ≡ s.mode
    run_mode [] = refl
    run_mode (Fin number l r ∷ rest) = refl
    run_mode (Last number ∷ rest) = refl

answer_after : (s : State) (h : List Entry) (d : ℕ) → d < length s.domains → NoneOf d h → IsFreshAnswer s d → IsFreshAnswer (state_after s h) d
answer_after s [] d inside none was = was
answer_after s (e ∷ h) d inside none was =
    let parts = none_cons d e h none in
    answer_after (next s e) h d (subst (λ n. d < n) (sym (count_next s e)) inside) parts.1 (answer_next s e d inside parts.0 was)

-- what is fresh for a domain at its front is fresh in the whole history
pub fresh_stays : (z : Sizes) (d : ℕ) (front log : List Entry) → IsFrontOf d log front → IsFresh (state_after (opening z) front) d → IsFresh (state_after (opening z) log) d
fresh_stays z d front log f fresh =
    let same : state_after (opening z) log ≡ state_after (state_after (opening z) front) f.rest = ap (state_after (opening z)) f.appends ∙ state_after-append (opening z) front f.rest in
    subst (λ (t : State). IsFresh t d) (sym same) (fresh_after (state_after (opening z) front) f.rest d f.others fresh)

-- a collection that is answered in the whole history, and wasn't at a domain's front, is fresh for it
pub fresh_after_answer : (z : Sizes) (d : ℕ) (front log : List Entry) → d < z.domains → IsFrontOf d log front → (state_after (opening z) front).mode ≢ Answer → (state_after (opening z) log).mode ≡ Answer
    → IsFresh (state_after (opening z) log) d
fresh_after_answer z d front log inside f other =
    let same : state_after (opening z) log ≡ state_after (state_after (opening z) front) f.rest = ap (state_after (opening z)) f.appends ∙ state_after-append (opening z) front f.rest in
    let count : length (state_after (opening z) front).domains ≡ z.domains = count_after (opening z) front ∙ length-replicate z.domains opening_domain in
    subst (λ (t : State). IsFreshAnswer t d) (sym same)
    (answer_after (state_after (opening z) front) f.rest d (subst (λ n. d < n) (sym count) inside) f.others (λ mode. absurd (other mode)))
