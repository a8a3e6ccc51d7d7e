-- Each turn, each complete collection and each round of a schedule makes only what may be made.
use Rattle.std.proofs.Common.{◌≡◌, ℕ, zero, suc, ◌<◌, Bool, true, false, List, [], ◌∷◌, length, length-set, get_or-set_same, replicate, fold, refl, sym, ap, ◌∙◌, subst, ⊎_elim, arith}
use Rattle.std.specs.Prelude.{if◌then◌else◌, slice_index_or, slice_set}
use Rattle.std.specs.List.{list_all, range_with_len}
use Rattle.std.proofs.lemmas.Bool.{and_parts}
use Rattle.model_core.specs.declared.command.Command.{Command}
use Rattle.model_core.specs.declared.command.Command.TheVariants.{FullMajor, Spawn, Argument, PutResult, Join}
use Rattle.model_core.specs.declared.entry.Entry.{Entry}
use Rattle.model_core.specs.declared.entry.Entry.TheVariants.{Command as CommandOf, Ran}
use Rattle.model_core.specs.declared.graph.Value.TheVariants.{Block}
use Rattle.model_core.specs.declared.state.Mode.TheVariants.{Open}
use Rattle.model_core.specs.declared.state.Pending.{Pending}
use Rattle.model_core.specs.declared.state.Pending.TheVariants.{Fin, Last}
use Rattle.model_core.specs.declared.state.DomainState.{DomainState}
use Rattle.model_core.specs.declared.state.Sizes.{Sizes}
use Rattle.model_core.specs.declared.state.State.{State}
use Rattle.model_core.specs.Domains.{domain_at, no_domain, opening, with_domain}
use Rattle.model_core.specs.Entries.{after_run, next, without_first}
use Rattle.model_core.specs.History.{Legal, LegalFrom, state_after}
use Rattle.model_core.proofs.Commands.FrameLemmas.{frame_command, inside_running}
use Rattle.model_core.proofs.Graphs.ListLemmas.{set_cases}
use Rattle.model_core.proofs.Histories.HistoryLemmas.{legal_append, state_after-append}
use Rattle.model_traces.specs.declared.schedules.items.Item.{Item}
use Rattle.model_traces.specs.declared.schedules.items.Item.TheVariants.{Turn, Collect}
use Rattle.model_traces.specs.Schedules.Scheduled.{Played, all_ended, begun, behind, complete, domains_of, left_of, next_entries, played, rounds_of, take_item, take_round, take_turn, turn_on, with_entries, with_next}
use Rattle.model_traces.specs.Scheduled.Runs.{IsPlainScript, IsPlayed, MayAnswer, Nothing, One, ScheduledIsLegal, is_one_entry}
use Rattle.model_traces.proofs.OfScheduled.Completing.{complete_legal, complete_open}
use Rattle.model_traces.proofs.OfScheduled.Owed.{none_owed}

-- a domain runs, no collection is under way, and its queue is empty
pub record IsReady (s : State) (d : ℕ) : Type 0 where
  pub mode : s.mode ≡ Open
  pub running : (domain_at s d).ended ≡ false
  pub queue : (domain_at s d).queue ≡ []

-- one finaliser has run
record HasRun (s t : State) (d : ℕ) (rest : List Pending) : Type 0 where
  mode : t.mode ≡ s.mode
  ended : (domain_at t d).ended ≡ (domain_at s d).ended
  queue : (domain_at t d).queue ≡ rest

has_run : (s : State) (d : ℕ) (p : Pending) (rest : List Pending) → d < length s.domains → HasRun s (after_run s d (p ∷ rest)) d rest
has_run s d (Last number) rest inside =
    let here : domain_at (after_run s d (Last number ∷ rest)) d ≡ without_first (domain_at s d) rest = get_or-set_same s.domains d (without_first (domain_at s d) rest) no_domain inside in
    record { mode = refl; ended = ap (λ (x : DomainState). x.ended) here; queue = ap (λ (x : DomainState). x.queue) here }
has_run s d (Fin number l r) rest inside =
    let ran : State = with_domain s d (without_first (domain_at s d) rest) in
    let first : domain_at ran d ≡ without_first (domain_at s d) rest = get_or-set_same s.domains d (without_first (domain_at s d) rest) no_domain inside in
    let y : DomainState = record (domain_at ran d) { registers = slice_set (domain_at ran d).registers r (Block l) } in
    let many : length ran.domains ≡ length s.domains = length-set s.domains d (without_first (domain_at s d) rest) in
    let here : domain_at (with_domain ran d y) d ≡ y = get_or-set_same ran.domains d y no_domain (omega (arith, inside, many)) in
    record { mode = refl; ended = ap (λ (x : DomainState). x.ended) here ∙ ap (λ (x : DomainState). x.ended) first; queue = ap (λ (x : DomainState). x.queue) here ∙ ap (λ (x : DomainState). x.queue) first }

-- all of them run
pub run_all : (q : List Pending) (s : State) (d : ℕ) → (domain_at s d).queue ≡ q → s.mode ≡ Open → (domain_at s d).ended ≡ false → LegalFrom s (replicate (length q) (Ran d)) × IsReady (state_after s (replicate (length q) (Ran d))) d
run_all [] s d is mode running = (tt, record { mode = mode; running = running; queue = is })
run_all (p ∷ rest) s d is mode running =
    let ran : HasRun s (next s (Ran d)) d rest = subst (λ q. HasRun s (after_run s d q) d rest) (sym is) (has_run s d p rest (inside_running s.domains d running)) in
    let later = run_all rest (next s (Ran d)) d ran.queue (ran.mode ∙ mode) (ran.ended ∙ running) in
    ((record { mode = mode; running = running; queue = λ e. let clash : p ∷ rest ≡ [] = sym is ∙ e in cc }, later.0), later.1)

module _ (z : Sizes) where
  pub entries_played : (p : Played) (es : List Entry) → IsPlayed z p → LegalFrom p.state es → (state_after p.state es).mode ≡ Open → IsPlayed z (with_entries p es)
  entries_played p es is legal mode = record {
    legal = legal_append (opening z) p.history es is.legal (subst (λ s. LegalFrom s es) is.state legal);
    state = ap (λ s. state_after s es) is.state ∙ sym (state_after-append (opening z) p.history es);
    mode = mode;
    plain = is.plain;
  }

  -- a complete collection
  pub collects : (p : Played) (answered : List Entry) → IsPlayed z p → MayAnswer p.state answered → LegalFrom p.state (complete p.state answered)
  collects p answered is may =
      subst (λ s. LegalFrom s (complete s answered)) (sym is.state)
      (complete_legal z p.history is.legal (sym (ap (λ (s : State). s.mode) is.state) ∙ is.mode) answered (subst (λ s. MayAnswer s answered) is.state may))

  -- the next command, or the end
  abbrev pub Makes : Played → ℕ → List Command → Type 0
  Makes p d cs = LegalFrom p.state (next_entries p.state d cs) × ((state_after p.state (next_entries p.state d cs)).mode ≡ Open)

  pub makes : (p : Played) (d : ℕ) (cs : List Command) → IsPlayed z p → IsReady p.state d → list_all is_one_entry cs ≡ true → Makes p d cs
  makes p d [] is ready plain = ((record { mode = ready.mode; running = ready.running; queue = ready.queue }, tt), ready.mode)
  makes p d (FullMajor ∷ cs) is ready plain =
      let owed : (domain_at p.state d).due ≡ 0 = subst (λ (s : State). (domain_at s d).queue ≡ [] → (domain_at s d).due ≡ 0) (sym is.state) (none_owed z p.history d) ready.queue in
      (collects p (CommandOf d FullMajor false ∷ []) is (One d ready.running owed), complete_open p.state (CommandOf d FullMajor false ∷ []))
  makes p d (Spawn section item ∷ cs) is ready plain = cc
  makes p d (Argument dst ∷ cs) is ready plain = cc
  makes p d (PutResult item ∷ cs) is ready plain = cc
  makes p d (Join dst section ∷ cs) is ready plain = cc
  makes p d (c ∷ cs) is ready plain = ((record { running = ready.running; fits = (ready.mode, ready.queue); full_fits = tt }, tt), (frame_command p.state d c false).mode ∙ ready.mode)

  rest_plain : (cs : List Command) → list_all is_one_entry cs ≡ true → list_all is_one_entry (behind cs) ≡ true
  rest_plain [] plain = plain
  rest_plain (c ∷ cs) plain = (and_parts (is_one_entry c) (list_all is_one_entry cs) plain).1

  pub next_played : (p : Played) (d : ℕ) → IsPlayed z p → IsReady p.state d → IsPlayed z (with_next p d)
  next_played p d is ready =
      let made = makes p d (left_of p d) is ready (is.plain d) in
      let on = entries_played p (next_entries p.state d (left_of p d)) is made.0 made.1 in record {
        legal = on.legal;
        state = on.state;
        mode = on.mode;
        plain = λ k. ⊎_elim (λ here. ap (list_all is_one_entry) here.1 ∙ rest_plain (left_of p d) (is.plain d)) (λ there. ap (list_all is_one_entry) there ∙ is.plain k) (set_cases p.left d (behind (left_of p d)) [] k);
      }

  pub turn_played : (p : Played) (d : ℕ) → IsPlayed z p → IsPlayed z (take_turn p d)
  turn_played p d is = go (domain_at p.state d).ended refl
    where
      go : (b : Bool) → (domain_at p.state d).ended ≡ b → IsPlayed z (turn_on p d b)
      go true e = is
      go false e =
          let ran = run_all (domain_at p.state d).queue p.state d refl is.mode e in
          let runs : List Entry = replicate (length (domain_at p.state d).queue) (Ran d) in
          next_played (with_entries p runs) d (entries_played p runs is ran.0 ran.1.mode) ran.1

  pub item_played : (p : Played) (i : Item) → IsPlayed z p → IsPlayed z (take_item p i)
  item_played p (Turn d) is = turn_played p d is
  item_played p Collect is = go (all_ended p.state)
    where
      go : (b : Bool) → IsPlayed z (if b then p else with_entries p (complete p.state []))
      go true = is
      go false = entries_played p (complete p.state []) is (collects p [] is Nothing) (complete_open p.state [])

  items_played : (items : List Item) (p : Played) → IsPlayed z p → IsPlayed z (fold take_item p items)
  items_played [] p is = is
  items_played (i ∷ items) p is = items_played items (take_item p i) (item_played p i is)

  pub turns_played : (ds : List ℕ) (p : Played) → IsPlayed z p → IsPlayed z (fold take_turn p ds)
  turns_played [] p is = is
  turns_played (d ∷ ds) p is = turns_played ds (take_turn p d) (turn_played p d is)

  rounds_played : (ns : List ℕ) (p : Played) → IsPlayed z p → IsPlayed z (fold (λ q n. take_round q) p ns)
  rounds_played [] p is = is
  rounds_played (n ∷ ns) p is = rounds_played ns (take_round p) (turns_played (domains_of p.state) p is)

  pub sections_plain : (script : List (List Command)) → IsPlainScript script → (d : ℕ) → list_all is_one_entry (slice_index_or script d []) ≡ true
  sections_plain [] plain d = refl
  sections_plain (cs ∷ script) plain zero = (and_parts (list_all is_one_entry cs) (list_all (list_all is_one_entry) script) plain).0
  sections_plain (cs ∷ script) plain (suc d) = sections_plain script (and_parts (list_all is_one_entry cs) (list_all (list_all is_one_entry) script) plain).1 d

  all_played : (script : List (List Command)) (items : List Item) → IsPlainScript script → IsPlayed z (played z script items)
  all_played script items plain = rounds_played (range_with_len 0 (rounds_of script)) (fold take_item (begun z script) items)
      (items_played items (begun z script) (record { legal = tt; state = refl; mode = refl; plain = sections_plain script plain }))

  pub played_legal : (script : List (List Command)) (items : List Item) → IsPlainScript script → Legal z (played z script items).history
  played_legal script items plain = (all_played script items plain).legal

pub scheduled_law : ScheduledIsLegal
scheduled_law z script items plain = played_legal z script items plain
