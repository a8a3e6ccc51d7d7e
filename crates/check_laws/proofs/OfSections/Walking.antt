-- A walk over a run with the hidden block: where a step of a domain stands in the history, and what is left there till its next one.
use Rattle.std.proofs.Common.{◌≡◌, ◌≢◌, ◌⊎◌, inl, inr, ⊎_elim, ℕ, ◌+◌, ◌<◌, Bool, true, false, cond, eqb, eqb-true, eq-eqb, IsTrue, ℤ, List, [], ◌∷◌, ◌++◌, get_or, refl, ap, sym, ◌∙◌, subst, arith, append_assoc, get_or-set_same}
use Rattle.model_core.specs.declared.command.Command as declared_command
use Rattle.model_core.specs.declared.command.Command.TheVariants.{PutInt, Store}
use Rattle.model_core.specs.declared.entry.Entry.{Entry}
use Rattle.model_core.specs.declared.entry.Entry.TheVariants.{Command as CommandOf, End, Cut, Queue, Seal, Wipe, Last as LastOf, Collected, Done, Ran}
use Rattle.model_core.specs.declared.reply.Reply.{Reply}
use Rattle.model_core.specs.declared.reply.Reply.TheVariants as reply_of
use Rattle.model_core.specs.declared.reply.Applied.TheVariants.{Replied}
use Rattle.model_core.specs.declared.graph.Value.{Value}
use Rattle.model_core.specs.declared.graph.Value.TheVariants.{Int, Nothing}
use Rattle.model_core.specs.declared.state.Sizes.{Sizes}
use Rattle.model_core.specs.declared.state.State.{State}
use Rattle.model_core.specs.Domains.{domain_at, register, opening, IsShaped, IsWithinLimits}
use Rattle.model_core.specs.Commands.{is_allocation, CommandAllowed, command_outcome}
use Rattle.model_core.specs.Entries.{Allowed, next}
use Rattle.model_core.specs.History.{state_after, LegalFrom, Legal}
use Rattle.model_core.specs.WellFormed.{IsWellFormed}
use Rattle.model_core.proofs.Commands.FrameLemmas.{inside_running}
use Rattle.model_core.proofs.Commands.LeavesLemmas.{leaves_put}
use Rattle.model_core.proofs.Histories.HistoryLemmas.{state_after-append}
use Rattle.model_core.proofs.Histories.TallyLemmas.{tally, tally-append, counted}
use Rattle.model_core.proofs.Histories.WellFormedLemmas.{wf_next, wf_after, wf_opening}
use Rattle.model_core.proofs.Histories.ShapeAfterLemmas.{shaped-next, shaped-history}
use Rattle.model_traces.specs.Spawns.Hidden.{hidden, scratch, hidden_fields, hidden_label, prelude}
use Rattle.model_traces.specs.Spawns.Expansion.{Step, step_of, steps_from, Each, is_spawned, section_at, IsScriptRun, IsFittingScript}
use Rattle.model_traces.proofs.OfSpawns.Hiding.{is_discreet}
use Rattle.model_traces.proofs.OfSpawns.Keeping.{FitsRun, RunsOn, silent_next, hidden_next}
use Rattle.model_traces.proofs.OfSpawns.Slots.{IsKept, kept_next, slot, Wrote, entry_slots, store_answers}
use Rattle.model_traces.proofs.OfSpawns.Phases.{Phase, after, opening_phase, is_finish, Runs, runs_section}
use Rattle.model_traces.proofs.OfSpawns.Beginning.{begun, kept_begun}
use Rattle.model_traces.proofs.OfSpawns.Growing.{steps_append}
use Rattle.model_traces.proofs.OfSpawns.JoinLaws.{legal_parts}
use Rattle.model_traces.proofs.OfSpawns.Joining.{SpawnsIn, step_at, not_full}

pub each_append : (P : Step → Type 0) (xs ys : List Step) → Each P (xs ++ ys) → Each P xs × Each P ys
each_append P [] ys all = (tt, all)
each_append P (x ∷ xs) ys all = let later = each_append P xs ys all.1 in ((all.0, later.0), later.1)

-- the step of a domain's own entry, and an entry makes a step of a domain or none
pub own_step : (s : State) (d : ℕ) (c : declared_command.Command) (full : Bool) → step_of s d (CommandOf d c full) ≡ step_at s d c full ∷ []
own_step s d c full = ap (λ (b : Bool). cond b (step_at s d c full ∷ []) []) (eq-eqb d d refl)

abbrev IsOwn : ℕ → Entry → Type 0
IsOwn d e = (c : declared_command.Command) × (full : Bool) × (e ≡ CommandOf d c full)

own_or_not : (s : State) (d : ℕ) (e : Entry) → (step_of s d e ≡ []) ⊎ IsOwn d e
own_or_not s d (CommandOf k c full) = go (eqb k d) refl
  where
    go : (b : Bool) → eqb k d ≡ b → (cond b (step_at s k c full ∷ []) [] ≡ []) ⊎ IsOwn d (CommandOf k c full)
    go true e = inr (c, full, ap (λ (n : ℕ). CommandOf n c full) (eqb-true k d e))
    go false e = inl refl
own_or_not s d (End k) = inl refl
own_or_not s d Cut = inl refl
own_or_not s d (Queue k places) = inl refl
own_or_not s d Seal = inl refl
own_or_not s d (Wipe l keys) = inl refl
own_or_not s d (LastOf k place) = inl refl
own_or_not s d Collected = inl refl
own_or_not s d Done = inl refl
own_or_not s d (Ran k) = inl refl

-- where a step of a domain stands: its entry, and the domain's steps before it and behind it
pub record IsStepAt (s : State) (d : ℕ) (h : List Entry) (xs : List Step) (x : Step) (ys : List Step) : Type 0 where
  pub before : List Entry
  pub behind : List Entry
  pub full : Bool
  pub stands : h ≡ before ++ CommandOf d x.command full ∷ behind
  pub is : x ≡ step_at (state_after s before) d x.command full
  pub first : steps_from s before d ≡ xs
  pub rest : steps_from (next (state_after s before) (CommandOf d x.command full)) behind d ≡ ys

one_later : (s : State) (d : ℕ) (e : Entry) (h : List Entry) (zs xs : List Step) (x : Step) (ys : List Step) → step_of s d e ≡ zs → IsStepAt (next s e) d h xs x ys → IsStepAt s d (e ∷ h) (zs ++ xs) x ys
one_later s d e h zs xs x ys own was = record {
  before = e ∷ was.before;
  behind = was.behind;
  full = was.full;
  stands = ap (λ (k : List Entry). e ∷ k) was.stands;
  is = was.is;
  first = λ i. own i ++ was.first i;
  rest = was.rest;
}

no_step : (xs ys : List Step) (x : Step) → [] ≡ xs ++ x ∷ ys → ⊥
no_step [] ys x e = cc
no_step (y ∷ xs) ys x e = cc

own_first : (s : State) (d : ℕ) (c : declared_command.Command) (full : Bool) (h : List Entry) (x : Step) (ys : List Step) → step_at s d c full ∷ steps_from (next s (CommandOf d c full)) h d ≡ x ∷ ys
    → IsStepAt s d (CommandOf d c full ∷ h) [] x ys
own_first s d c full h x ys e =
    let same : step_at s d c full ≡ x = cc in
    let rest : steps_from (next s (CommandOf d c full)) h d ≡ ys = cc in
    subst (λ (y : Step). IsStepAt s d (CommandOf d c full ∷ h) [] y ys) same (record { before = []; behind = h; full = full; stands = refl; is = refl; first = refl; rest = rest })

pub split_step : (s : State) (d : ℕ) (h : List Entry) (xs : List Step) (x : Step) (ys : List Step) → steps_from s h d ≡ xs ++ x ∷ ys → IsStepAt s d h xs x ys
split_step s d [] xs x ys are = absurd (no_step xs ys x are)
split_step s d (e ∷ h) [] x ys are = ⊎_elim
    (λ none. one_later s d e h [] [] x ys none (split_step (next s e) d h [] x ys (sym (ap (λ (zs : List Step). zs ++ steps_from (next s e) h d) none) ∙ are)))
    (λ own. subst (λ (y : Entry). IsStepAt s d (y ∷ h) [] x ys) (sym own.2) (own_first s d own.0 own.1 h x ys
    (sym (ap (λ (zs : List Step). zs ++ steps_from (next s (CommandOf d own.0 own.1)) h d) (own_step s d own.0 own.1)) ∙ (sym (ap (λ (y : Entry). step_of s d y ++ steps_from (next s y) h d) own.2) ∙ are))))
    (own_or_not s d e)
split_step s d (e ∷ h) (w ∷ xs) x ys are = ⊎_elim
    (λ none. one_later s d e h [] (w ∷ xs) x ys none (split_step (next s e) d h (w ∷ xs) x ys (sym (ap (λ (zs : List Step). zs ++ steps_from (next s e) h d) none) ∙ are)))
    (λ own.
    let one : step_of s d e ≡ step_at s d own.0 own.1 ∷ [] = ap (step_of s d) own.2 ∙ own_step s d own.0 own.1 in
    let both : step_at s d own.0 own.1 ∷ steps_from (next s e) h d ≡ w ∷ (xs ++ x ∷ ys) = sym (ap (λ (zs : List Step). zs ++ steps_from (next s e) h d) one) ∙ are in
    let first : step_at s d own.0 own.1 ≡ w = cc in
    let rest : steps_from (next s e) h d ≡ xs ++ x ∷ ys = cc in
    one_later s d e h (w ∷ []) xs x ys (one ∙ ap (λ (y : Step). y ∷ []) first) (split_step (next s e) d h xs x ys rest))
    (own_or_not s d e)

-- A stage of a walk: the state, and the entries that are left
pub record IsStage (n : ℕ) (s : State) (k : List Entry) : Type 0 where
  pub kept : IsKept s
  pub wf : IsWellFormed s
  pub shaped : IsShaped s
  pub inside : (d : ℕ) → (domain_at s d).ended ≡ false → d < n
  pub legal : LegalFrom s k
  pub discreet : (d : ℕ) → d < n → Each (λ x. IsTrue (is_discreet x.command)) (steps_from s k d)

module _ (n : ℕ) where
  pub fits_here : (s : State) (e : Entry) (k : List Entry) → IsStage n s (e ∷ k) → FitsRun e
  fits_here s (CommandOf d c full) k stage =
      let allowed : CommandAllowed s d c full = stage.legal.0 in
      (subst (λ (xs : List Step). Each (λ x. IsTrue (is_discreet x.command)) (xs ++ steps_from (next s (CommandOf d c full)) k d)) (own_step s d c full) (stage.discreet d (stage.inside d allowed.running))).0
  fits_here s (End d) k stage = tt
  fits_here s Cut k stage = tt
  fits_here s (Queue d places) k stage = tt
  fits_here s Seal k stage = tt
  fits_here s (Wipe l keys) k stage = tt
  fits_here s (LastOf d place) k stage = tt
  fits_here s Collected k stage = tt
  fits_here s Done k stage = tt
  fits_here s (Ran d) k stage = tt

  pub stage_next : (s : State) (e : Entry) (k : List Entry) → IsStage n s (e ∷ k) → IsStage n (next s e) k
  stage_next s e k stage = record {
    kept = kept_next s e stage.legal.0 (fits_here s e k stage) stage.kept;
    wf = wf_next s e stage.wf;
    shaped = shaped-next s e stage.wf stage.shaped;
    inside = λ d running. stage.inside d (hidden_next hidden_label s e d stage.kept.hides (fits_here s e k stage) running).was;
    legal = stage.legal.1;
    discreet = λ d lt. (each_append (λ x. IsTrue (is_discreet x.command)) (step_of s d e) (steps_from (next s e) k d) (stage.discreet d lt)).1;
  }

  pub stage_after : (s : State) (h k : List Entry) → IsStage n s (h ++ k) → IsStage n (state_after s h) k
  stage_after s [] k stage = stage
  stage_after s (e ∷ h) k stage = stage_after (next s e) h k (stage_next s e (h ++ k) stage)

  pub stage_first : (s : State) (h k : List Entry) → IsStage n s (h ++ k) → IsStage n s h
  stage_first s h k stage = record {
    kept = stage.kept;
    wf = stage.wf;
    shaped = stage.shaped;
    inside = stage.inside;
    legal = (legal_parts s h k stage.legal).0;
    discreet = λ d lt. (each_append (λ x. IsTrue (is_discreet x.command)) (steps_from s h d) (steps_from (state_after s h) k d)
        (subst (λ (xs : List Step). Each (λ x. IsTrue (is_discreet x.command)) xs) (steps_append s h k d) (stage.discreet d lt))).0;
  }

  -- a field of the block into which no domain stores
  pub slot_over : (s : State) (h k : List Entry) (i : ℕ) → IsStage n s (h ++ k) → ((d : ℕ) → d < n → tally (counted (λ (x : Step). is_finish i x.command)) (steps_from s h d) ≡ 0) → slot (state_after s h) i ≡ slot s i
  slot_over s [] k i stage none = refl
  slot_over s (e ∷ h) k i stage none =
      slot_over (next s e) h k i (stage_next s e (h ++ k) stage) (λ d lt.
      let parts : tally (counted (λ (x : Step). is_finish i x.command)) (step_of s d e) + tally (counted (λ (x : Step). is_finish i x.command)) (steps_from (next s e) h d) ≡ 0 =
      sym (tally-append (counted (λ (x : Step). is_finish i x.command)) (step_of s d e) (steps_from (next s e) h d)) ∙ none d lt in
      omega (arith, parts))
      ∙ ⊎_elim (λ same. same) (λ w. absurd (stored w)) (entry_slots s stage.kept e stage.legal.0 (fits_here s e (h ++ k) stage) i)
    where
      stored : Wrote s e i → ⊥
      stored w =
          let allowed : CommandAllowed s w.domain (Store hidden i w.item) false = subst (λ (y : Entry). Allowed s y) w.is stage.legal.0 in
          let lt : w.domain < n = stage.inside w.domain allowed.running in
          let own : step_of s w.domain e ≡ step_at s w.domain (Store hidden i w.item) false ∷ [] = ap (step_of s w.domain) w.is ∙ own_step s w.domain (Store hidden i w.item) false in
          let one : counted (λ (x : Step). is_finish i x.command) (step_at s w.domain (Store hidden i w.item) false) ≡ 1 = ap (λ (b : Bool). cond b 1 0) (eq-eqb i i refl) in
          let sum : tally (counted (λ (x : Step). is_finish i x.command)) (step_at s w.domain (Store hidden i w.item) false ∷ steps_from (next s e) h w.domain) ≡ 0 =
          ap (λ (xs : List Step). tally (counted (λ (x : Step). is_finish i x.command)) (xs ++ steps_from (next s e) h w.domain)) (sym own) ∙ none w.domain lt in
          omega (arith, one, sum)

  -- the scratch register of a domain that makes no step
  pub scratch_over : (s : State) (h k : List Entry) (d : ℕ) → IsStage n s (h ++ k) → steps_from s h d ≡ [] → (domain_at (state_after s h) d).ended ≡ false → RunsOn s (state_after s h) d scratch
  scratch_over s [] k d stage none running = record { was = running; same = refl }
  scratch_over s (e ∷ h) k d stage none running =
      let later = scratch_over (next s e) h k d (stage_next s e (h ++ k) stage) (none_later (step_of s d e) (steps_from (next s e) h d) none) running in
      let here = silent_next hidden_label s e d scratch stage.kept.hides (λ c full is. some c full is) refl later.was in
      record { was = here.was; same = later.same ∙ here.same }
    where
      none_later : (xs ys : List Step) → xs ++ ys ≡ [] → ys ≡ []
      none_later [] ys is = is
      none_later (x ∷ xs) ys is = cc

      some : (c : declared_command.Command) (full : Bool) → e ≢ CommandOf d c full
      some c full is =
          let own : step_of s d e ≡ step_at s d c full ∷ [] = ap (step_of s d) is ∙ own_step s d c full in
          let clash : step_at s d c full ∷ steps_from (next s e) h d ≡ [] = sym (ap (λ (xs : List Step). xs ++ steps_from (next s e) h d) own) ∙ none in
          cc

-- a step that stores what the step before it put into the scratch register
pub record IsPutStore (n : ℕ) (s : State) (d : ℕ) (h : List Entry) (us : List Step) (x y : Step) (ys : List Step) (i : ℕ) (z : ℤ) : Type 0 where
  pub at : IsStepAt s d h (us ++ x ∷ []) y ys
  pub held : register (state_after s at.before) d scratch ≡ Int z
  pub answers : y.answer ≡ reply_of.Done

pub replied_is : (y z : Reply) → Replied y ≡ Replied z → y ≡ z
replied_is y z e = cc

some_int : (v : Value) (z : ℤ) → v ≡ Int z → v ≢ Nothing
some_int v z is none = let clash : Int z ≡ Nothing = sym is ∙ none in cc

module _ (n : ℕ) (s : State) (h : List Entry) (stage : IsStage n s h) (d : ℕ) where
  -- the stage before a step, and that it isn't refused for want of room
  pub stage_at : (xs : List Step) (x : Step) (ys : List Step) (at : IsStepAt s d h xs x ys) → IsStage n (state_after s at.before) (CommandOf d x.command at.full ∷ at.behind)
  stage_at xs x ys at = stage_after n s at.before (CommandOf d x.command at.full ∷ at.behind) (subst (λ (k : List Entry). IsStage n s k) at.stands stage)

  pub never_full : (xs : List Step) (x : Step) (ys : List Step) (at : IsStepAt s d h xs x ys) (c : declared_command.Command) → x.command ≡ c → is_allocation c ≡ false → at.full ≡ false
  never_full xs x ys at c is none =
      let allowed : CommandAllowed (state_after s at.before) d x.command at.full = (stage_at xs x ys at).legal.0 in
      not_full (state_after s at.before) d x.command at.full allowed.full_fits (ap is_allocation is ∙ none)

  pub running_at : (xs : List Step) (x : Step) (ys : List Step) (at : IsStepAt s d h xs x ys) → (domain_at (state_after s at.before) d).ended ≡ false
  running_at xs x ys at = let allowed : CommandAllowed (state_after s at.before) d x.command at.full = (stage_at xs x ys at).legal.0 in allowed.running

  pub put_store : (us : List Step) (x y : Step) (ys : List Step) (i : ℕ) (z : ℤ) → i < hidden_fields → steps_from s h d ≡ us ++ x ∷ (y ∷ ys) → x.command ≡ PutInt scratch z → y.command ≡ Store hidden i scratch
      → IsPutStore n s d h us x y ys i z
  put_store us x y ys i z lt are puts stores = record { at = at; held = held; answers = answers }
    where
      at : IsStepAt s d h (us ++ x ∷ []) y ys
      at = split_step s d h (us ++ x ∷ []) y ys (are ∙ sym (append_assoc us (x ∷ []) (y ∷ ys)))

      running : (domain_at (state_after s at.before) d).ended ≡ false
      running = running_at (us ++ x ∷ []) y ys at

      put : IsStepAt s d at.before us x []
      put = split_step s d at.before us x [] at.first

      here : IsStage n (state_after s put.before) (CommandOf d x.command put.full ∷ (put.behind ++ CommandOf d y.command at.full ∷ at.behind))
      here = stage_after n s put.before _ (subst (λ (k : List Entry). IsStage n s k)
          (at.stands ∙ (ap (λ (k : List Entry). k ++ CommandOf d y.command at.full ∷ at.behind) put.stands ∙ append_assoc put.before (CommandOf d x.command put.full ∷ put.behind) (CommandOf d y.command at.full ∷ at.behind))) stage)

      behind_is : state_after s at.before ≡ state_after (next (state_after s put.before) (CommandOf d x.command put.full)) put.behind
      behind_is = ap (state_after s) put.stands ∙ state_after-append s put.before (CommandOf d x.command put.full ∷ put.behind)

      over : RunsOn (next (state_after s put.before) (CommandOf d x.command put.full)) (state_after (next (state_after s put.before) (CommandOf d x.command put.full)) put.behind) d scratch
      over = scratch_over n (next (state_after s put.before) (CommandOf d x.command put.full)) put.behind (CommandOf d y.command at.full ∷ at.behind) d (stage_next n _ _ _ here) put.rest
          (subst (λ (t : State). (domain_at t d).ended ≡ false) behind_is running)

      put_value : register (next (state_after s put.before) (CommandOf d x.command put.full)) d scratch ≡ Int z
      put_value =
          let allowed : CommandAllowed (state_after s put.before) d x.command put.full = here.legal.0 in
          let never : put.full ≡ false = not_full (state_after s put.before) d x.command put.full allowed.full_fits (ap is_allocation puts) in
          let within = inside_running (state_after s put.before).domains d allowed.running in
          ap (λ (e : Entry). register (next (state_after s put.before) e) d scratch) (λ j. CommandOf d (puts j) (never j))
          ∙ ap (λ (rs : List Value). get_or rs scratch Nothing) (leaves_put (state_after s put.before) d within scratch z).registers_are
          ∙ get_or-set_same (domain_at (state_after s put.before) d).registers scratch (Int z) Nothing (omega (arith, here.shaped.register_count d within))

      held : register (state_after s at.before) d scratch ≡ Int z
      held = ap (λ (t : State). register t d scratch) behind_is ∙ (over.same ∙ put_value)

      answers : y.answer ≡ reply_of.Done
      answers =
          let never : at.full ≡ false = never_full (us ++ x ∷ []) y ys at (Store hidden i scratch) stores refl in
          ap (λ (w : Step). w.answer) at.is
          ∙ (ap (λ (e : Entry). answer_in (state_after s at.before) e) (λ j. CommandOf d (stores j) (never j))
          ∙ replied_is _ _ (store_answers (state_after s at.before) (stage_at (us ++ x ∷ []) y ys at).kept d running i scratch (some_int (register (state_after s at.before) d scratch) z held) lt))
        where
          answer_in : State → Entry → Reply
          answer_in t (CommandOf d c full) = (command_outcome t d c full).reply
          answer_in t e = reply_of.Done

-- the stage behind the entries by which the hidden block is made
discreet_runs : (Spawns : ℕ → Type 0) (d : ℕ) (p : Phase) (xs : List Step) → Runs Spawns d p xs → Each (λ x. IsTrue (is_discreet x.command)) xs
discreet_runs Spawns d p [] runs = tt
discreet_runs Spawns d p (x ∷ xs) runs = (runs.0.discreet, discreet_runs Spawns d (after d p x) xs runs.1)

pub first_stage : (z : Sizes) (script : List (List declared_command.Command)) (h : List Entry) → IsWithinLimits z → Legal z h → IsFittingScript script → (run : IsScriptRun z script h)
    → IsStage z.domains (state_after (opening z) (prelude z.domains)) run.behind
first_stage z script h limits legal fitting run =
    let parts = legal_parts (opening z) (prelude z.domains) run.behind (subst (λ (k : List Entry). LegalFrom (opening z) k) run.begins legal) in
    let s1 : State = state_after (opening z) (prelude z.domains) in
    record {
      kept = kept_begun z limits.some_domain limits.domains parts.0;
      wf = wf_after (opening z) (prelude z.domains) (wf_opening z);
      shaped = shaped-history z (prelude z.domains) limits;
      inside = λ d running. subst (λ (n : ℕ). d < n) (begun z limits.some_domain limits.domains).size (inside_running s1.domains d running);
      legal = parts.1;
      discreet = λ d lt. discreet_runs (SpawnsIn script d) d (opening_phase (is_spawned script d)) (steps_from s1 run.behind d)
          (runs_section (SpawnsIn script d) d (is_spawned script d) (section_at script d) (steps_from s1 run.behind d) (omega (arith, lt, limits.domains)) (fitting d) (λ u is. is) (run.sections d lt));
    }
