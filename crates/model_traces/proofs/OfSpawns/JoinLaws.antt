-- A join comes after the whole section that it names, and gives its last result.
use Rattle.std.proofs.Common.{◌≡◌, ◌≢◌, ⊎_elim, ℕ, zero, suc, ℤ, ◌<◌, ◌≤◌, Bool, true, false, not, cond, ◌==◌, IsTrue, pos, List, [], ◌∷◌, ◌++◌, map, Some, None, refl, ap, sym, ◌∙◌, subst, arith, append-nil, append_assoc}
use Rattle.std.proofs.lemmas.List.{map-append}
use Rattle.model_core.specs.declared.command.Command as declared_command
use Rattle.model_core.specs.declared.command.Command.TheVariants.{Load, Store}
use Rattle.model_core.specs.declared.entry.Entry.{Entry}
use Rattle.model_core.specs.declared.entry.Entry.TheVariants.{Command as CommandOf, End, Cut, Queue, Seal, Wipe, Last as LastOf, Collected, Done as DoneEntry, Ran}
use Rattle.model_core.specs.declared.reply.Reply.TheVariants.{Done, Int as IntReply}
use Rattle.model_core.specs.declared.reply.Applied.TheVariants.{Replied}
use Rattle.model_core.specs.declared.graph.Value.{Value}
use Rattle.model_core.specs.declared.graph.Value.TheVariants.{Int, Nothing}
use Rattle.model_core.specs.declared.state.Sizes.{Sizes}
use Rattle.model_core.specs.declared.state.State.{State}
use Rattle.model_core.specs.Domains.{register, opening, IsWithinLimits}
use Rattle.model_core.specs.Commands.{shown}
use Rattle.model_core.specs.Entries.{next, reply}
use Rattle.model_core.specs.History.{state_after, LegalFrom, Legal, commands, command_of}
use Rattle.model_core.proofs.Commands.FrameLemmas.{inside_running}
use Rattle.model_core.proofs.Histories.WellFormedLemmas.{wf_after, wf_opening}
use Rattle.model_core.proofs.Histories.ShapeAfterLemmas.{shaped-history}
use Rattle.model_traces.specs.Spawns.Hidden.{hidden, scratch, flag_of, result_of, prelude}
use Rattle.model_traces.specs.Spawns.Expansion.{Step, step_of, steps_from, is_int, flag_load, is_spawned, section_at, IsScriptRun, IsFittingScript}
use Rattle.model_traces.specs.Spawns.Joined.{last_result, IsSpawnedIn, IsJoined, JoinLaw}
use Rattle.model_traces.proofs.OfSpawns.Growing.{steps_append}
use Rattle.model_traces.proofs.OfSpawns.Slots.{load_answers, store_answers}
use Rattle.model_traces.proofs.OfSpawns.Phases.{Phase, opening_phase, Runs, runs_section}
use Rattle.model_traces.proofs.OfSpawns.Beginning.{begun, kept_begun, slot_begun}
use Rattle.model_traces.proofs.OfSpawns.Joining.{SpawnsIn, step_at, not_full, IsPlace, fits, Arrives, walk}

-- the two parts of a legal list
pub legal_parts : (s : State) (h k : List Entry) → LegalFrom s (h ++ k) → LegalFrom s h × LegalFrom (state_after s h) k
legal_parts s [] k legal = (tt, legal)
legal_parts s (e ∷ h) k legal = let later = legal_parts (next s e) h k legal.1 in ((legal.0, later.0), later.1)

-- a domain's steps have its commands
command_step : (s : State) (d : ℕ) (e : Entry) → command_of d e ≡ map (λ x. x.command) (step_of s d e)
command_step s d (CommandOf k c full) = go (k == d)
  where
    go : (b : Bool) → cond b (c ∷ []) [] ≡ map (λ x. x.command) (cond b (step_at s k c full ∷ []) [])
    go true = refl
    go false = refl
command_step s d (End k) = refl
command_step s d Cut = refl
command_step s d (Queue k places) = refl
command_step s d Seal = refl
command_step s d (Wipe l keys) = refl
command_step s d (LastOf k place) = refl
command_step s d Collected = refl
command_step s d DoneEntry = refl
command_step s d (Ran k) = refl

pub command_steps : (s : State) (h : List Entry) (d : ℕ) → commands h d ≡ map (λ x. x.command) (steps_from s h d)
command_steps s [] d = refl
command_steps s (e ∷ h) d =
    (λ i. command_step s d e i ++ command_steps (next s e) h d i) ∙ sym (map-append (λ x. x.command) (step_of s d e) (steps_from (next s e) h d))

none_behind : {A : Type 0} (xs ys : List A) → xs ++ ys ≡ [] → ys ≡ []
none_behind [] ys e = e
none_behind (x ∷ xs) ys e = cc

-- a section that has told its end makes no step
no_more : (Spawns : ℕ → Type 0) (d : ℕ) (p : Phase) (xs : List Step) → Runs Spawns d p xs → p.finished ≡ true → xs ≡ []
no_more Spawns d p [] runs told = refl
no_more Spawns d p (x ∷ xs) runs told = absurd (let clash : true ≡ false = sym told ∙ runs.0.unfinished in cc)

module _ (z : Sizes) (script : List (List declared_command.Command)) (h : List Entry) (limits : IsWithinLimits z) (legal : Legal z h) (fitting : IsFittingScript script) (run : IsScriptRun z script h)
    (t : ℕ) (within : t < z.domains) (spawned : IsTrue (is_spawned script t)) where
  abbrev s1 : State
  s1 = state_after (opening z) (prelude z.domains)

  parts : LegalFrom (opening z) (prelude z.domains) × LegalFrom s1 run.behind
  parts = legal_parts (opening z) (prelude z.domains) run.behind (subst (λ (k : List Entry). LegalFrom (opening z) k) run.begins legal)

  few : z.domains ≤ 8
  few = limits.domains

  -- no section begins before the block is made
  start : IsPlace script z.domains t [] s1 (λ d. opening_phase (is_spawned script d)) (Int (pos 0)) run.behind
  start = record {
    kept = kept_begun z limits.some_domain few parts.0;
    wf = wf_after (opening z) (prelude z.domains) (wf_opening z);
    shaped = shaped-history z (prelude z.domains) limits;
    inside = λ d running. subst (λ (n : ℕ). d < n) (begun z limits.some_domain few).size (inside_running s1.domains d running);
    legal = parts.1;
    runs = λ d lt. runs_section (SpawnsIn script d) d (is_spawned script d) (section_at script d) (steps_from s1 run.behind d) (omega (arith, few)) (fitting d) (λ u is. is) (run.sections d lt);
    put = λ d n just running. absurd (let clash : None ≡ Some just.step = just.last in cc);
    flag = (0, omega arith, slot_begun z limits.some_domain few t (omega (arith, few)));
    one = λ is. absurd (let clash : Int (pos 0) ≡ Int (pos 1) = sym (slot_begun z limits.some_domain few t (omega (arith, few))) ∙ is in let twice : true ≡ false = ap (λ (v : Value). is_int (pos 0) (shown v)) clash in cc);
    two = λ is. absurd (let clash : Int (pos 0) ≡ Int (pos 2) = sym (slot_begun z limits.some_domain few t (omega (arith, few))) ∙ is in let twice : true ≡ false = ap (λ (v : Value). is_int (pos 0) (shown v)) clash in cc);
    begun = λ is. absurd (let clash : false ≡ true = sym (ap not spawned) ∙ is in cc);
    seen = λ d just. absurd (let clash : None ≡ Some just.step = just.last in cc);
    result = slot_begun z limits.some_domain few (result_of t) (omega (arith, few));
  }

  -- the place before an entry
  at : (before behind : List Entry) (e : Entry) → run.behind ≡ before ++ e ∷ behind → Arrives script z.domains t (omega (arith, few)) [] s1 (Int (pos 0)) before (e ∷ behind)
  at before behind e is = walk script z.domains t (omega (arith, few)) [] s1 _ (Int (pos 0)) before (e ∷ behind) (subst (λ (k : List Entry). IsPlace script z.domains t [] s1 (λ d. opening_phase (is_spawned script d)) (Int (pos 0)) k) is start)

  begun_law : (before behind : List Entry) (c : declared_command.Command) (full : Bool) → run.behind ≡ before ++ CommandOf t c full ∷ behind → c ≢ flag_load t → IsSpawnedIn script t before
  begun_law before behind c full is other = go (here.phase t).begun refl
    where
      here : Arrives script z.domains t (omega (arith, few)) [] s1 (Int (pos 0)) before (CommandOf t c full ∷ behind)
      here = at before behind (CommandOf t c full) is

      go : (b : Bool) → (here.phase t).begun ≡ b → IsSpawnedIn script t before
      go true e = here.place.begun e
      go false e = absurd (other ((fits script z.domains t (omega (arith, few)) before (state_after s1 before) here.phase _ t c full behind here.place).waits e))

  -- a load of t's result
  module _ (before behind : List Entry) (d dst : ℕ) (full : Bool) (is : run.behind ≡ before ++ CommandOf d (Load dst hidden (result_of t)) full ∷ behind) where
    abbrev e : Entry
    e = CommandOf d (Load dst hidden (result_of t)) full

    abbrev s : State
    s = state_after s1 before

    here : Arrives script z.domains t (omega (arith, few)) [] s1 (Int (pos 0)) before (CommandOf d (Load dst hidden (result_of t)) full ∷ behind)
    here = at before behind (CommandOf d (Load dst hidden (result_of t)) full) is

    told : (here.phase t).finished ≡ true
    told = here.place.seen d ((fits script z.domains t (omega (arith, few)) before s here.phase _ d (Load dst hidden (result_of t)) full behind here.place).takes dst t refl)

    none : steps_from s (e ∷ behind) t ≡ []
    none = no_more (SpawnsIn script t) t (here.phase t) (steps_from s (e ∷ behind) t) (here.place.runs t within) told

    ended_law : commands behind t ≡ []
    ended_law = command_steps (next s e) behind t ∙ ap (λ (xs : List Step). map (λ x. x.command) xs) (none_behind (step_of s t e) (steps_from (next s e) behind t) none)

    whole : steps_from s1 run.behind t ≡ steps_from s1 before t
    whole = ap (λ (k : List Entry). steps_from s1 k t) is ∙ steps_append s1 before (e ∷ behind) t ∙ ap (λ (xs : List Step). steps_from s1 before t ++ xs) none ∙ append-nil (steps_from s1 before t)

    given_law : reply s e ≡ Replied (shown (last_result t (steps_from s1 run.behind t)))
    given_law =
        let allowed = here.place.legal.0 in
        let never : full ≡ false = not_full s d (Load dst hidden (result_of t)) full allowed.full_fits refl in
        ap (λ (b : Bool). reply s (CommandOf d (Load dst hidden (result_of t)) b)) never
        ∙ load_answers s here.place.kept d allowed.running dst (result_of t) (omega (arith, few))
        ∙ ap (λ (v : Value). Replied (shown v)) (here.place.result ∙ ap (last_result t) (sym whole))

  some_int : (v : Value) (n : ℤ) → v ≡ Int n → v ≢ Nothing
  some_int v n is none = let clash : Int n ≡ Nothing = sym is ∙ none in cc

  -- a store of t's flag
  spawned_law : (before behind : List Entry) (d : ℕ) (full : Bool) → run.behind ≡ before ++ CommandOf d (Store hidden (flag_of t) scratch) full ∷ behind
      → reply (state_after s1 before) (CommandOf d (Store hidden (flag_of t) scratch) full) ≡ Replied Done
  spawned_law before behind d full is =
      let place = (at before behind (CommandOf d (Store hidden (flag_of t) scratch) full) is) in
      let s : State = state_after s1 before in
      let allowed = place.place.legal.0 in
      let never : full ≡ false = not_full s d (Store hidden (flag_of t) scratch) full allowed.full_fits refl in
      let flag = (fits script z.domains t (omega (arith, few)) before s place.phase _ d (Store hidden (flag_of t) scratch) full behind place.place).flags (flag_of t) scratch (omega (arith, few)) refl in
      let some : register s d scratch ≢ Nothing = ⊎_elim
      (λ spawn. some_int (register s d scratch) (pos 1) (place.place.put d (pos 1) spawn.2 allowed.running))
      (λ finish. some_int (register s d scratch) (pos 2) (place.place.put d (pos 2) finish.1 allowed.running))
      flag.kind in
      ap (λ (b : Bool). reply s (CommandOf d (Store hidden (flag_of t) scratch) b)) never
      ∙ store_answers s place.place.kept d allowed.running (flag_of t) scratch some (omega (arith, few))

  -- a load of t's flag
  waits_law : (before behind : List Entry) (d : ℕ) (full : Bool) → run.behind ≡ before ++ CommandOf d (flag_load t) full ∷ behind
      → (n : ℕ) × (n ≤ 2) × (d ≡ t → n ≤ 1) × (reply (state_after s1 before) (CommandOf d (flag_load t) full) ≡ Replied (IntReply (pos n)))
  waits_law before behind d full is =
      let place = (at before behind (CommandOf d (flag_load t) full) is) in
      let s : State = state_after s1 before in
      let allowed = place.place.legal.0 in
      let never : full ≡ false = not_full s d (flag_load t) full allowed.full_fits refl in
      let flag = place.place.flag in
      let open_still : (place.phase d).finished ≡ false = (fits script z.domains t (omega (arith, few)) before s place.phase _ d (flag_load t) full behind place.place).unfinished in
      let answers : reply s (CommandOf d (flag_load t) full) ≡ Replied (IntReply (pos flag.0)) =
      ap (λ (b : Bool). reply s (CommandOf d (flag_load t) b)) never
      ∙ load_answers s place.place.kept d allowed.running scratch (flag_of t) (omega (arith, few))
      ∙ ap (λ (v : Value). Replied (shown v)) flag.2 in (
        flag.0,
        flag.1,
        λ same. small flag.0 flag.1 (λ two. clash (place.phase d).finished open_still
            (subst (λ (i : ℕ). (place.phase i).finished ≡ true) (sym same) (place.place.two (flag.2 ∙ ap (λ (k : ℕ). Int (pos k)) two)))),
        answers,
      )
    where
      small : (n : ℕ) → n ≤ 2 → (n ≡ 2 → ⊥) → n ≤ 1
      small zero few other = omega arith
      small (suc zero) few other = omega arith
      small (suc (suc zero)) few other = absurd (other refl)
      small (suc (suc (suc n))) few other = absurd (omega arith)

      clash : (b : Bool) → b ≡ false → b ≡ true → ⊥
      clash b no_more told = let twice : false ≡ true = sym no_more ∙ told in cc

  joined : IsJoined z script t run.behind
  joined = record { begun = begun_law; spawned = spawned_law; waits = waits_law; ended = ended_law; given = given_law }

pub join_law : JoinLaw
join_law z script h limits legal fitting run t within spawned = joined z script h limits legal fitting run t within spawned
