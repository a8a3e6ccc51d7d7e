-- What a turn makes of each domain's commands, and of whether its trace has ended.
use Rattle.std.proofs.Common.{◌≡◌, ◌≢◌, ◌⊎◌, inl, inr, ℕ, zero, suc, Bool, true, false, eqb, eq-eqb, eqb-true, cond, ◌&&◌, List, [], ◌∷◌, ◌++◌, length, get_or, set, get_or-set_other, replicate, refl, sym, ap, ◌∙◌, subst, ⊎_elim, append_assoc, append-nil}
use Rattle.std.specs.List.{list_all}
use Rattle.std.proofs.lemmas.Bool.{and_parts, cases_eq}
use Rattle.std.proofs.lemmas.List.Folds.{list_all-append}
use Rattle.model_core.specs.declared.command.Command.{Command}
use Rattle.model_core.specs.declared.command.Command.TheVariants.{FullMajor}
use Rattle.model_core.specs.declared.entry.Entry.{Entry}
use Rattle.model_core.specs.declared.entry.Entry.TheVariants.{Command as CommandOf, End, Cut, Queue, Seal, Wipe, Last as LastOf, Collected, Done, Ran}
use Rattle.model_core.specs.declared.state.DomainState.{DomainState}
use Rattle.model_core.specs.declared.state.Pending.{Pending}
use Rattle.model_core.specs.declared.state.Pending.TheVariants.{Fin, Last}
use Rattle.model_core.specs.declared.state.State.{State}
use Rattle.model_core.specs.Domains.{domain_at, no_domain, with_domain}
use Rattle.model_core.specs.Entries.{after_run, ended, next, without_first}
use Rattle.model_core.specs.History.{commands, state_after}
use Rattle.model_core.proofs.Commands.FrameLemmas.{frame_command, keeps_next, part_set}
use Rattle.model_core.proofs.Histories.HistoryLemmas.{commands-append}
use Rattle.model_traces.specs.Schedules.Sameness.{is_queue, is_taking}
use Rattle.model_traces.specs.Schedules.Scheduled.{Played, all_lasts, all_queued, all_wiped, behind, complete, left_of, next_entries, turn_on, with_entries, with_next}
use Rattle.model_traces.proofs.OfSchedules.Lasting.{all_is_taking}
use Rattle.model_traces.proofs.OfSchedules.Queueing.{all_is_queue}
use Rattle.model_traces.proofs.OfSchedules.Wiping.{all_wiped_is_taking}
use Rattle.model_traces.specs.Scheduled.Runs.{EndsIn}
use Rattle.model_traces.proofs.OfScheduled.Clearing.{may_go}

-- entries that make no command
pub no_queue : (h : List Entry) (d : ℕ) → list_all is_queue h ≡ true → commands h d ≡ []
no_queue [] d all = refl
no_queue (Queue k places ∷ h) d all = no_queue h d all
no_queue (e ∷ h) d all = cc

pub no_taking : (h : List Entry) (d : ℕ) → list_all is_taking h ≡ true → commands h d ≡ []
no_taking [] d all = refl
no_taking (Wipe l places ∷ h) d all = no_taking h d all
no_taking (LastOf k place ∷ h) d all = no_taking h d all
no_taking (e ∷ h) d all = cc

pub no_run : (n k d : ℕ) → commands (replicate n (Ran k)) d ≡ []
no_run zero k d = refl
no_run (suc n) k d = no_run n k d

-- a complete collection makes those that are answered in it
complete_commands : (s : State) (answered : List Entry) (d : ℕ) → commands (complete s answered) d ≡ commands answered d
complete_commands s answered d =
    let queues_made : List Entry = all_queued (next s Cut) in
    let sealed : State = next (state_after (next s Cut) queues_made) Seal in
    let wipes : List Entry = all_wiped sealed in
    let clean : State = state_after sealed wipes in
    let lasts : List Entry = all_lasts clean in
    let second : List Entry = Cut ∷ queues_made ++ Seal ∷ wipes in
    let third : List Entry = second ++ lasts in
    let is_second : commands second d ≡ [] = commands-append (Cut ∷ queues_made) (Seal ∷ wipes) d ∙ ap (λ cs. cs ++ commands wipes d) (no_queue queues_made d (all_is_queue (next s Cut))) ∙ no_taking wipes d (all_wiped_is_taking sealed) in
    let is_third : commands third d ≡ [] = commands-append second lasts d ∙ ap (λ cs. cs ++ commands lasts d) is_second ∙ no_taking lasts d (all_is_taking (may_go clean) clean) in
    commands-append (third ++ Collected ∷ answered) (Done ∷ []) d ∙ append-nil (commands (third ++ Collected ∷ answered) d) ∙ commands-append third (Collected ∷ answered) d ∙ ap (λ cs. cs ++ commands answered d) is_third

-- whether a trace has ended after an entry that is no end
abbrev pub keeps_ended : Entry → Bool
keeps_ended (End d) = false
keeps_ended e = true

run_ended : (s : State) (d : ℕ) (queue : List Pending) (k : ℕ) → (domain_at (after_run s d queue) k).ended ≡ (domain_at s k).ended
run_ended s d [] k = refl
run_ended s d (Last number ∷ rest) k = part_set (λ x. x.ended) s.domains d (without_first (domain_at s d) rest) refl k
run_ended s d (Fin number l r ∷ rest) k =
    let ran : State = with_domain s d (without_first (domain_at s d) rest) in
    part_set (λ x. x.ended) ran.domains d _ refl k ∙ part_set (λ x. x.ended) s.domains d (without_first (domain_at s d) rest) refl k

entry_ended : (s : State) (e : Entry) (k : ℕ) → keeps_ended e ≡ true → (domain_at (next s e) k).ended ≡ (domain_at s k).ended
entry_ended s (CommandOf d c full) k keeps = ⊎_elim
    (λ (is : k ≡ d). subst (λ n. (domain_at (next s (CommandOf d c full)) n).ended ≡ (domain_at s n).ended) (sym is) (frame_command s d c full).ended)
    (λ (apart : k ≢ d). ap (λ (x : DomainState). x.ended) ((frame_command s d c full).elsewhere k apart)) (cases_eq k d)
entry_ended s (End d) k keeps = cc
entry_ended s Cut k keeps = (keeps_next s Cut k refl).ended
entry_ended s (Queue d places) k keeps = (keeps_next s (Queue d places) k refl).ended
entry_ended s Seal k keeps = (keeps_next s Seal k refl).ended
entry_ended s (Wipe l keys) k keeps = (keeps_next s (Wipe l keys) k refl).ended
entry_ended s (LastOf d place) k keeps = (keeps_next s (LastOf d place) k refl).ended
entry_ended s Collected k keeps = (keeps_next s Collected k refl).ended
entry_ended s Done k keeps = refl
entry_ended s (Ran d) k keeps = run_ended s d (domain_at s d).queue k

pub entries_ended : (s : State) (h : List Entry) (k : ℕ) → list_all keeps_ended h ≡ true → (domain_at (state_after s h) k).ended ≡ (domain_at s k).ended
entries_ended s [] k all = refl
entries_ended s (e ∷ h) k all = let parts = and_parts (keeps_ended e) (list_all keeps_ended h) all in entries_ended (next s e) h k parts.1 ∙ entry_ended s e k parts.0

queues_keep : (h : List Entry) → list_all is_queue h ≡ true → list_all keeps_ended h ≡ true
queues_keep [] all = refl
queues_keep (Queue k places ∷ h) all = queues_keep h all
queues_keep (e ∷ h) all = cc

takings_keep : (h : List Entry) → list_all is_taking h ≡ true → list_all keeps_ended h ≡ true
takings_keep [] all = refl
takings_keep (Wipe l places ∷ h) all = takings_keep h all
takings_keep (LastOf k place ∷ h) all = takings_keep h all
takings_keep (e ∷ h) all = cc

runs_keep : (n d : ℕ) → list_all keeps_ended (replicate n (Ran d)) ≡ true
runs_keep zero d = refl
runs_keep (suc n) d = runs_keep n d

both_keep : (h k : List Entry) → list_all keeps_ended h ≡ true → list_all keeps_ended k ≡ true → list_all keeps_ended (h ++ k) ≡ true
both_keep h k a b = list_all-append keeps_ended h k ∙ ap (λ t. t && list_all keeps_ended k) a ∙ b

complete_keeps : (s : State) (answered : List Entry) → list_all keeps_ended answered ≡ true → list_all keeps_ended (complete s answered) ≡ true
complete_keeps s answered all =
    let queues_made : List Entry = all_queued (next s Cut) in
    let sealed : State = next (state_after (next s Cut) queues_made) Seal in
    let wipes : List Entry = all_wiped sealed in
    let clean : State = state_after sealed wipes in
    let lasts : List Entry = all_lasts clean in
    both_keep (Cut ∷ queues_made ++ Seal ∷ wipes ++ lasts ++ Collected ∷ answered) (Done ∷ [])
    (both_keep (Cut ∷ queues_made ++ Seal ∷ wipes ++ lasts) (Collected ∷ answered)
    (both_keep (Cut ∷ queues_made ++ Seal ∷ wipes) lasts
    (both_keep (Cut ∷ queues_made) (Seal ∷ wipes) (queues_keep queues_made (all_is_queue (next s Cut))) (takings_keep wipes (all_wiped_is_taking sealed)))
    (takings_keep lasts (all_is_taking (may_go clean) clean))) all) refl

pub complete_ended : (s : State) (answered : List Entry) (k : ℕ) → list_all keeps_ended answered ≡ true → (domain_at (state_after s (complete s answered)) k).ended ≡ (domain_at s k).ended
complete_ended s answered k all = entries_ended s (complete s answered) k (complete_keeps s answered all)

pub collect_commands : (s : State) (d : ℕ) → commands (complete s []) d ≡ []
collect_commands s d = complete_commands s [] d

-- the first of some commands
abbrev heads : List Command → List Command
heads [] = []
heads (c ∷ cs) = c ∷ []

cond_same : (b : Bool) → cond {A = List Command} b [] [] ≡ []
cond_same true = refl
cond_same false = refl

next_commands : (s : State) (d k : ℕ) (cs : List Command) → commands (next_entries s d cs) k ≡ cond (eqb d k) (heads cs) []
next_commands s d k [] = sym (cond_same (eqb d k))
next_commands s d k (FullMajor ∷ cs) = complete_commands s (CommandOf d FullMajor false ∷ []) k ∙ append-nil (cond (eqb d k) (FullMajor ∷ []) [])
next_commands s d k (c ∷ cs) = append-nil (cond (eqb d k) (c ∷ []) [])

pub end_ends : (xs : List DomainState) (d : ℕ) → (get_or (set xs d (ended (get_or xs d no_domain))) d no_domain).ended ≡ true
end_ends [] d = refl
end_ends (x ∷ xs) zero = refl
end_ends (x ∷ xs) (suc d) = end_ends xs d

next_ended : (s : State) (d k : ℕ) (cs : List Command) → (k ≢ d) ⊎ (cs ≢ []) → (domain_at (state_after s (next_entries s d cs)) k).ended ≡ (domain_at s k).ended
next_ended s d k [] stays = ⊎_elim (λ apart. ap (λ (x : DomainState). x.ended) (get_or-set_other s.domains d k (ended (domain_at s d)) no_domain apart)) (λ some. absurd (some refl)) stays
next_ended s d k (FullMajor ∷ cs) stays = complete_ended s (CommandOf d FullMajor false ∷ []) k refl
next_ended s d k (c ∷ cs) stays = entry_ended s (CommandOf d c false) k refl

set_behind : (ls : List (List Command)) (d : ℕ) → get_or (set ls d (behind (get_or ls d []))) d [] ≡ behind (get_or ls d [])
set_behind [] d = refl
set_behind (l ∷ ls) zero = refl
set_behind (l ∷ ls) (suc d) = set_behind ls d

heads_behind : (cs : List Command) → heads cs ++ behind cs ≡ cs
heads_behind [] = refl
heads_behind (c ∷ cs) = refl

-- domain d has made its next command or its end
pub record IsTurn (p q : Played) (d : ℕ) : Type 0 where
  pub made : commands q.history d ++ left_of q d ≡ commands p.history d ++ left_of p d
  pub others_made : (k : ℕ) → k ≢ d → commands q.history k ≡ commands p.history k
  pub left : left_of q d ≡ behind (left_of p d)
  pub others_left : (k : ℕ) → k ≢ d → left_of q k ≡ left_of p k
  pub ends : left_of p d ≡ [] → (domain_at q.state d).ended ≡ true
  pub runs : left_of p d ≢ [] → (domain_at q.state d).ended ≡ (domain_at p.state d).ended
  pub others_ended : (k : ℕ) → k ≢ d → (domain_at q.state k).ended ≡ (domain_at p.state k).ended

apart_no : (d k : ℕ) (cs : List Command) → k ≢ d → cond (eqb d k) cs [] ≡ []
apart_no d k cs apart = go (eqb d k) refl
  where
    go : (b : Bool) → eqb d k ≡ b → cond b cs [] ≡ []
    go true e = absurd (apart (sym (eqb-true d k e)))
    go false e = refl

pub next_turn : (p : Played) (d : ℕ) → IsTurn p (with_next p d) d
next_turn p d =
    let cs : List Command = left_of p d in
    let q : Played = with_next p d in
    let makes : (k : ℕ) → commands q.history k ≡ commands p.history k ++ cond (eqb d k) (heads cs) [] = λ k. commands-append p.history (next_entries p.state d cs) k ∙ ap (λ ls. commands p.history k ++ ls) (next_commands p.state d k cs) in
    let after : left_of q d ≡ behind cs = set_behind p.left d in
    record {
      made = ap (λ ls. ls ++ left_of q d) (makes d ∙ ap (λ b. commands p.history d ++ cond b (heads cs) []) (eq-eqb d d refl)) ∙ ap (λ ls. (commands p.history d ++ heads cs) ++ ls) after
          ∙ append_assoc (commands p.history d) (heads cs) (behind cs) ∙ ap (λ ls. commands p.history d ++ ls) (heads_behind cs);
      others_made = λ k apart. makes k ∙ ap (λ ls. commands p.history k ++ ls) (apart_no d k (heads cs) apart) ∙ append-nil (commands p.history k);
      left = after;
      others_left = λ k apart. get_or-set_other p.left d k (behind cs) [] apart;
      ends = λ none. ap (λ ls. (domain_at (state_after p.state (next_entries p.state d ls)) d).ended) none ∙ end_ends p.state.domains d;
      runs = λ some. next_ended p.state d d cs (inr some);
      others_ended = λ k apart. next_ended p.state d k cs (inl apart);
    }

abbrev pub runs_of : Played → ℕ → List Entry
runs_of p d = replicate (length (domain_at p.state d).queue) (Ran d)

-- a turn of a domain that runs
pub turn_taken : (p : Played) (d : ℕ) → IsTurn p (turn_on p d false) d
turn_taken p d =
    let r : Played = with_entries p (runs_of p d) in
    let q = turn_on p d false in
    let n = length (domain_at p.state d).queue in
    let turn : IsTurn r q d = next_turn r d in
    let none : (k : ℕ) → commands r.history k ≡ commands p.history k = λ k. commands-append p.history (runs_of p d) k ∙ ap (λ ls. commands p.history k ++ ls) (no_run n d k) ∙ append-nil (commands p.history k) in
    let same : (k : ℕ) → (domain_at r.state k).ended ≡ (domain_at p.state k).ended = λ k. entries_ended p.state (runs_of p d) k (runs_keep n d) in
    record {
      made = turn.made ∙ ap (λ ls. ls ++ left_of p d) (none d);
      others_made = λ k apart. turn.others_made k apart ∙ none k;
      left = turn.left;
      others_left = turn.others_left;
      ends = turn.ends;
      runs = λ some. turn.runs some ∙ same d;
      others_ended = λ k apart. turn.others_ended k apart ∙ same k;
    }

-- where a trace ends between two states its end stands between them
only_ends : (e : Entry) → keeps_ended e ≡ false → (k : ℕ) × (e ≡ End k)
only_ends (End k) e = (k, refl)
only_ends x e = cc

pub ends_stand : (s : State) (h : List Entry) (d : ℕ) → (domain_at s d).ended ≡ false → (domain_at (state_after s h) d).ended ≡ true → EndsIn d h
ends_stand s [] d runs ends = absurd (let clash : true ≡ false = sym ends ∙ runs in cc)
ends_stand s (e ∷ h) d runs ends = go (keeps_ended e) refl
    (λ kept. let rest = ends_stand (next s e) h d (kept ∙ runs) ends in record { before = e ∷ rest.before; after = rest.after; is = ap (λ k. e ∷ k) rest.is })
  where
    own : (k : ℕ) → e ≡ End k → ((domain_at (next s e) d).ended ≡ (domain_at s d).ended → EndsIn d (e ∷ h)) → EndsIn d (e ∷ h)
    own k is later = ⊎_elim
        (λ (here : d ≡ k). record { before = []; after = h; is = ap (λ x. x ∷ h) (is ∙ ap End (sym here)) })
        (λ (apart : d ≢ k). later (ap (λ x. (domain_at (next s x) d).ended) is ∙ ap (λ (x : DomainState). x.ended) (get_or-set_other s.domains k d (ended (domain_at s k)) no_domain apart)))
        (cases_eq d k)

    go : (b : Bool) → keeps_ended e ≡ b → ((domain_at (next s e) d).ended ≡ (domain_at s d).ended → EndsIn d (e ∷ h)) → EndsIn d (e ∷ h)
    go true keeps later = later (entry_ended s e d keeps)
    go false isnt later = let end = only_ends e isnt in own end.0 end.1 later
