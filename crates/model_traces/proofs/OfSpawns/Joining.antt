-- A section stands in the history between its spawn and each join that answers: a walk over the history that knows how far each domain has come.
use Rattle.std.proofs.Common.{◌≡◌, ◌≢◌, ◌⊎◌, inl, inr, ⊎_elim, ℕ, ◌<◌, ◌≤◌, Bool, true, false, cond, ◌&&◌, ◌||◌, ◌==◌, eqb, eqb-true, eq-eqb, IsTrue, ℤ, pos, negsuc, List, [], ◌∷◌, ◌++◌, fold, length, get_or, unwrap_or, Option, Some, refl, ap, sym, ◌∙◌, subst, arith, append_assoc, append-nil, get_or-set_same}
use Rattle.std.specs.List.{list_any}
use Rattle.std.proofs.lemmas.Int.{ints}
use Rattle.std.proofs.lemmas.Bool.Decides.{nat_tests}
use Rattle.std.proofs.lemmas.List.Sums.{fold-append}
use Rattle.model_core.specs.declared.command.Command as declared_command
use Rattle.model_core.specs.declared.command.Command.TheVariants.{PutInt, Load, Store, Poll}
use Rattle.model_core.specs.declared.entry.Entry.{Entry}
use Rattle.model_core.specs.declared.entry.Entry.TheVariants.{Command as CommandOf, End, Cut, Queue, Seal, Wipe, Last as LastOf, Collected, Done, Ran}
use Rattle.model_core.specs.declared.reply.Reply.{Reply}
use Rattle.model_core.specs.declared.reply.Reply.TheVariants as reply_of
use Rattle.model_core.specs.declared.reply.Applied.TheVariants.{Replied}
use Rattle.model_core.specs.declared.graph.Value.{Value}
use Rattle.model_core.specs.declared.graph.Value.TheVariants.{Int, Block, Nothing}
use Rattle.model_core.specs.declared.state.State.{State}
use Rattle.model_core.specs.Domains.{domain_at, register, IsShaped}
use Rattle.model_core.specs.Commands.{shown, is_allocation, FullOnlyWhereAllowed, CommandAllowed, command_outcome}
use Rattle.model_core.specs.Entries.{Allowed, next}
use Rattle.model_core.specs.History.{state_after, LegalFrom}
use Rattle.model_core.specs.WellFormed.{IsWellFormed}
use Rattle.model_core.proofs.Graphs.GraphLemmas.{and_parts}
use Rattle.model_core.proofs.Reach.ReachLemmas.{and_both, or_cases, or_right}
use Rattle.model_core.proofs.Commands.FrameLemmas.{keeps_next, inside_running}
use Rattle.model_core.proofs.Commands.LeavesLemmas.{leaves_put}
use Rattle.model_core.proofs.Histories.WellFormedLemmas.{wf_next}
use Rattle.model_core.proofs.Histories.ShapeAfterLemmas.{shaped-next}
use Rattle.model_traces.specs.Spawns.Hidden.{hidden, scratch, flag_of, result_of, hidden_label}
use Rattle.model_traces.specs.Spawns.Expansion.{Step, step_of, steps_from, is_int, flag_load, is_spawn_of, section_at}
use Rattle.model_traces.specs.Spawns.Joined.{is_result_of, item_in, is_ok, result_after, IsSpawnedIn}
use Rattle.model_traces.proofs.OfSpawns.Keeping.{FitsRun, silent_next, hidden_next}
use Rattle.model_traces.proofs.OfSpawns.Slots.{IsKept, kept_next, nothing_or, slot, Wrote, entry_slots, load_answers, store_answers, store_here, refused_answers}
use Rattle.model_traces.proofs.OfSpawns.Phases.{Phase, after, is_flag_load, is_finish, JustPut, JustSeen, Fits, Runs, runs_behind}

-- two numbers are one, or not
by_number : (P : Type 0) (a b : ℕ) → (a ≡ b → P) → (a ≢ b → P) → P
by_number P a b same other = go (eqb a b) refl
  where
    go : (c : Bool) → eqb a b ≡ c → P
    go true e = same (eqb-true a b e)
    go false e = other (λ is. absurd (let twice : true ≡ false = sym (eq-eqb a b is) ∙ e in cc))

differ : (a b : ℕ) → a ≢ b → eqb a b ≡ false
differ a b other = go (eqb a b) refl
  where
    go : (c : Bool) → eqb a b ≡ c → c ≡ false
    go true e = absurd (other (eqb-true a b e))
    go false e = refl

-- the parts of an entry of a command
abbrev domain_in : Entry → ℕ
domain_in (CommandOf d c full) = d
domain_in _ = 0

abbrev command_in : Entry → declared_command.Command
command_in (CommandOf d c full) = c
command_in _ = Poll

abbrev full_in : Entry → Bool
full_in (CommandOf d c full) = full
full_in _ = false

-- the step of a domain's own entry
abbrev pub step_at : State → ℕ → declared_command.Command → Bool → Step
step_at s d c full = record { held = (domain_at s d).registers; command = c; answer = (command_outcome s d c full).reply }

own_step : (s : State) (d : ℕ) (c : declared_command.Command) (full : Bool) → step_of s d (CommandOf d c full) ≡ step_at s d c full ∷ []
own_step s d c full = ap (λ (b : Bool). cond b (step_at s d c full ∷ []) []) (eq-eqb d d refl)

other_step : (s : State) (d j : ℕ) (c : declared_command.Command) (full : Bool) → d ≢ j → step_of s j (CommandOf d c full) ≡ []
other_step s d j c full other = ap (λ (b : Bool). cond b (step_at s d c full ∷ []) []) (differ d j other)

-- `full` is answered to allocations alone
pub not_full : (s : State) (d : ℕ) (c : declared_command.Command) (full : Bool) → FullOnlyWhereAllowed s d c full → is_allocation c ≡ false → full ≡ false
not_full s d c true allowed none = absurd (let clash : true ≡ false = sym allowed.allocates ∙ none in cc)
not_full s d c false allowed none = refl

-- a spawn that stands in some entries stands in one more
spawned_more : (script : List (List declared_command.Command)) (t : ℕ) (a : List Entry) (e : Entry) → IsSpawnedIn script t a → IsSpawnedIn script t (a ++ e ∷ [])
spawned_more script t a e was = record {
  parent = was.parent;
  before = was.before;
  behind = was.behind ++ e ∷ [];
  full = was.full;
  other = was.other;
  spawns = was.spawns;
  stands = ap (λ (h : List Entry). h ++ e ∷ []) was.stands ∙ append_assoc was.before (CommandOf was.parent (Store hidden (flag_of t) scratch) was.full ∷ was.behind) (e ∷ []);
}

-- an integer that a reply shows
shown_int : (v : Value) (n : ℕ) → IsTrue (is_int (pos n) (shown v)) → v ≡ Int (pos n)
shown_int (Int (pos m)) n is = let same : m ≡ n = grind (arith, ints, nat_tests) in ap (λ (k : ℕ). Int (pos k)) same
shown_int (Int (negsuc m)) n is = absurd (grind (arith, ints, nat_tests))
shown_int (Block l) n is = let clash : false ≡ true = is in cc
shown_int Nothing n is = let clash : false ≡ true = is in cc

abbrev pub SpawnsIn : List (List declared_command.Command) → ℕ → ℕ → Type 0
SpawnsIn script d t = IsTrue (list_any (is_spawn_of t) (section_at script d))

-- a flag holds 0, 1 or 2
abbrev pub IsFlag : Value → Type 0
IsFlag v = (n : ℕ) × (n ≤ 2) × (v ≡ Int (pos n))

-- A place in the history: the entries before it and the state that they leave, how far each domain has come, the result that section t stored last, and the entries behind it
pub record IsPlace (script : List (List declared_command.Command)) (n t : ℕ) (a : List Entry) (s : State) (p : ℕ → Phase) (r : Value) (k : List Entry) : Type 0 where
  pub kept : IsKept s
  pub wf : IsWellFormed s
  pub shaped : IsShaped s
  pub inside : (d : ℕ) → (domain_at s d).ended ≡ false → d < n
  pub legal : LegalFrom s k
  pub runs : (d : ℕ) → d < n → Runs (SpawnsIn script d) d (p d) (steps_from s k d)
  pub put : (d : ℕ) (z : ℤ) → JustPut (p d) z → (domain_at s d).ended ≡ false → register s d scratch ≡ Int z
  pub flag : IsFlag (slot s (flag_of t))
  pub one : slot s (flag_of t) ≡ Int (pos 1) → IsSpawnedIn script t a
  pub two : slot s (flag_of t) ≡ Int (pos 2) → (p t).finished ≡ true
  pub begun : (p t).begun ≡ true → IsSpawnedIn script t a
  pub seen : (d : ℕ) → JustSeen (p d) t → (p t).finished ≡ true
  pub result : slot s (result_of t) ≡ r

-- an entry of no command
module _ (script : List (List declared_command.Command)) (n t : ℕ) (a : List Entry) (s : State) (p : ℕ → Phase) (r : Value) (e : Entry) (k : List Entry) where
  silent_place : IsPlace script n t a s p r (e ∷ k) → ((d : ℕ) (c : declared_command.Command) (full : Bool) → e ≢ CommandOf d c full) → FitsRun e → ((d : ℕ) → step_of s d e ≡ [])
      → IsPlace script n t (a ++ e ∷ []) (next s e) p r k
  silent_place was silent fits none =
      let allowed : Allowed s e = was.legal.0 in
      let same : (i : ℕ) → slot (next s e) i ≡ slot s i = λ i. ⊎_elim (λ kept. kept) (λ w. absurd (silent w.domain _ _ w.is)) (entry_slots s was.kept e allowed fits i) in
      record {
        kept = kept_next s e allowed fits was.kept;
        wf = wf_next s e was.wf;
        shaped = shaped-next s e was.wf was.shaped;
        inside = λ d running. was.inside d (hidden_next hidden_label s e d was.kept.hides fits running).was;
        legal = was.legal.1;
        runs = λ d lt. subst (λ (xs : List Step). Runs (SpawnsIn script d) d (p d) (xs ++ steps_from (next s e) k d)) (none d) (was.runs d lt);
        put = λ d z just running. let on = silent_next hidden_label s e d scratch was.kept.hides (λ c full. silent d c full) refl running in on.same ∙ was.put d z just on.was;
        flag = subst (λ (v : Value). IsFlag v) (sym (same (flag_of t))) was.flag;
        one = λ is. spawned_more script t a e (was.one (sym (same (flag_of t)) ∙ is));
        two = λ is. was.two (sym (same (flag_of t)) ∙ is);
        begun = λ is. spawned_more script t a e (was.begun is);
        seen = was.seen;
        result = same (result_of t) ∙ was.result;
      }

-- the entry of a command
module _ (script : List (List declared_command.Command)) (n t : ℕ) (small : t < 8) (a : List Entry) (s : State) (p : ℕ → Phase) (r : Value) (d : ℕ) (c : declared_command.Command) (full : Bool) (k : List Entry)
    (was : IsPlace script n t a s p r (CommandOf d c full ∷ k)) where
  allowed : CommandAllowed s d c full
  allowed = was.legal.0

  abbrev entry : Entry
  entry = CommandOf d c full

  abbrev x : Step
  x = step_at s d c full

  abbrev q : ℕ → Phase
  q j = fold (after j) (p j) (step_of s j (CommandOf d c full))

  pub fits : Fits (SpawnsIn script d) d (p d) x
  fits = (subst (λ (xs : List Step). Runs (SpawnsIn script d) d (p d) (xs ++ steps_from (next s (CommandOf d c full)) k d)) (own_step s d c full) (was.runs d (was.inside d allowed.running))).0

  own_phase : q d ≡ after d (p d) x
  own_phase = ap (λ (xs : List Step). fold (after d) (p d) xs) (own_step s d c full)

  other_phase : (j : ℕ) → d ≢ j → q j ≡ p j
  other_phase j other = ap (λ (xs : List Step). fold (after j) (p j) xs) (other_step s d j c full other)

  -- who has told the end has told it
  still_finished : (j : ℕ) → (p j).finished ≡ true → (q j).finished ≡ true
  still_finished j is = by_number ((q j).finished ≡ true) d j
      (λ same. subst (λ (i : ℕ). (q i).finished ≡ true) same
      (ap (λ (y : Phase). y.finished) own_phase ∙ ap (λ (b : Bool). b || is_finish d c) (subst (λ (i : ℕ). (p i).finished ≡ true) (sym same) is)))
      (λ other. ap (λ (y : Phase). y.finished) (other_phase j other) ∙ is)

  -- what the last step of the entry's domain is
  last_is : (y : Step) → (q d).last ≡ Some y → y ≡ x
  last_is y e = ap (λ (o : Option Step). unwrap_or o x) (sym e ∙ ap (λ (z : Phase). z.last) own_phase)

  -- an integer in the scratch register
  put_here : (z : ℤ) → c ≡ PutInt scratch z → register (next s (CommandOf d c full)) d scratch ≡ Int z
  put_here z is =
      let never : full ≡ false = not_full s d c full allowed.full_fits (ap is_allocation is) in
      let within : d < length s.domains = inside_running s.domains d allowed.running in
      let stands : register (next s (CommandOf d (PutInt scratch z) false)) d scratch ≡ Int z =
      ap (λ (rs : List Value). get_or rs scratch Nothing) (leaves_put s d within scratch z).registers_are
      ∙ get_or-set_same (domain_at s d).registers scratch (Int z) Nothing (omega (arith, was.shaped.register_count d within)) in
      subst (λ (y : declared_command.Command). register (next s (CommandOf d y full)) d scratch ≡ Int z) (sym is)
      (subst (λ (b : Bool). register (next s (CommandOf d (PutInt scratch z) b)) d scratch ≡ Int z) (sym never) stands)

  put_next : (j : ℕ) (z : ℤ) → JustPut (q j) z → (domain_at (next s (CommandOf d c full)) j).ended ≡ false → register (next s (CommandOf d c full)) j scratch ≡ Int z
  put_next j z just running = by_number (register (next s (CommandOf d c full)) j scratch ≡ Int z) d j
      (λ same.
      let mine : JustPut (q d) z = subst (λ (i : ℕ). JustPut (q i) z) (sym same) just in
      let puts : c ≡ PutInt scratch z = ap (λ (y : Step). y.command) (sym (last_is mine.step mine.last)) ∙ mine.puts in
      subst (λ (i : ℕ). register (next s (CommandOf d c full)) i scratch ≡ Int z) same (put_here z puts))
      (λ other.
      let keeps = keeps_next s (CommandOf d c full) j (differ d j other) in
      ap (λ (rs : List Value). get_or rs scratch Nothing) keeps.registers
      ∙ was.put j z (subst (λ (y : Phase). JustPut y z) (other_phase j other) just) (sym keeps.ended ∙ running))

  -- a flag that was written
  flag_written : Wrote s (CommandOf d c full) (flag_of t)
      → ((t ≢ d) × SpawnsIn script d t × (c ≡ Store hidden (flag_of t) scratch) × (slot (next s (CommandOf d c full)) (flag_of t) ≡ Int (pos 1))) ⊎ ((t ≡ d) × (slot (next s (CommandOf d c full)) (flag_of t) ≡ Int (pos 2)))
  flag_written w =
      let same : d ≡ w.domain = ap domain_in w.is in
      let stores : c ≡ Store hidden (flag_of t) w.item = ap command_in w.is in
      let flag = fits.flags (flag_of t) w.item small stores in
      let is : slot (next s (CommandOf d c full)) (flag_of t) ≡ register s d scratch = w.now ∙ ap (λ (i : ℕ). register s i w.item) (sym same) ∙ ap (register s d) flag.scratch_is in
      ⊎_elim
      (λ spawn. inl (spawn.0, spawn.1, stores ∙ ap (Store hidden (flag_of t)) flag.scratch_is, is ∙ was.put d (pos 1) spawn.2 allowed.running))
      (λ finish. inr (finish.0, is ∙ was.put d (pos 2) finish.1 allowed.running))
      flag.kind

  one_not_two : (v : Value) → v ≡ Int (pos 1) → v ≡ Int (pos 2) → ⊥
  one_not_two v a b = let clash : Int (pos 1) ≡ Int (pos 2) = sym a ∙ b in let twice : true ≡ false = ap (λ (w : Value). is_int (pos 1) (shown w)) clash in cc

  flag_next : IsFlag (slot (next s (CommandOf d c full)) (flag_of t))
  flag_next = ⊎_elim
      (λ same. subst (λ (v : Value). IsFlag v) (sym same) was.flag)
      (λ w. ⊎_elim (λ spawn. (1, omega arith, spawn.3)) (λ finish. (2, omega arith, finish.1)) (flag_written w))
      (entry_slots s was.kept (CommandOf d c full) allowed fits.discreet (flag_of t))

  one_next : slot (next s (CommandOf d c full)) (flag_of t) ≡ Int (pos 1) → IsSpawnedIn script t (a ++ CommandOf d c full ∷ [])
  one_next is = ⊎_elim
      (λ same. spawned_more script t a (CommandOf d c full) (was.one (sym same ∙ is)))
      (λ w. ⊎_elim
      (λ spawn. record {
        parent = d;
        before = a;
        behind = [];
        full = full;
        other = λ e. spawn.0 (sym e);
        spawns = spawn.1;
        stands = ap (λ (y : declared_command.Command). a ++ CommandOf d y full ∷ []) spawn.2;
      })
      (λ finish. absurd (one_not_two (slot (next s (CommandOf d c full)) (flag_of t)) is finish.1))
      (flag_written w))
      (entry_slots s was.kept (CommandOf d c full) allowed fits.discreet (flag_of t))

  -- the own end of section t
  finish_here : t ≡ d → (item : ℕ) → c ≡ Store hidden (flag_of t) item → (q t).finished ≡ true
  finish_here same item is =
      let told : is_finish d c ≡ true = ap (is_finish d) is ∙ eq-eqb t d same in
      subst (λ (i : ℕ). (q i).finished ≡ true) (sym same) (ap (λ (y : Phase). y.finished) own_phase ∙ or_right (p d).finished (is_finish d c) told)

  two_next : slot (next s (CommandOf d c full)) (flag_of t) ≡ Int (pos 2) → (q t).finished ≡ true
  two_next is = ⊎_elim
      (λ same. still_finished t (was.two (sym same ∙ is)))
      (λ w. ⊎_elim
      (λ spawn. absurd (one_not_two (slot (next s (CommandOf d c full)) (flag_of t)) spawn.3 is))
      (λ finish. finish_here finish.0 w.item (ap command_in w.is))
      (flag_written w))
      (entry_slots s was.kept (CommandOf d c full) allowed fits.discreet (flag_of t))

  -- what a load of t's flag answers
  flag_answer : (m : ℕ) → c ≡ flag_load t → IsTrue (is_int (pos m) x.answer) → slot s (flag_of t) ≡ Int (pos m)
  flag_answer m is answers =
      let never : full ≡ false = not_full s d c full allowed.full_fits (ap is_allocation is) in
      let says : (command_outcome s d c full).reply ≡ shown (slot s (flag_of t)) =
      ap (λ (y : declared_command.Command). (command_outcome s d y full).reply) is
      ∙ (ap (λ (b : Bool). (command_outcome s d (flag_load t) b).reply) never ∙ replied _ _ (load_answers s was.kept d allowed.running scratch (flag_of t) (omega arith))) in
      shown_int (slot s (flag_of t)) m (subst (λ (y : Reply). IsTrue (is_int (pos m) y)) says answers)
    where
      replied : (y z : Reply) → Replied y ≡ Replied z → y ≡ z
      replied y z e = cc

  flag_load_is : (i : ℕ) (y : declared_command.Command) → IsTrue (is_flag_load i y) → y ≡ flag_load i
  flag_load_is i (Load dst src index) is =
      let first = and_parts (dst == scratch) _ is in
      let second = and_parts (src == hidden) (index == flag_of i) first.1 in
      (λ j. Load (eqb-true dst scratch first.0 j) (eqb-true src hidden second.0 j) (eqb-true index (flag_of i) second.1 j))
  flag_load_is i y is = let clash : false ≡ true = is in cc

  begun_next : (q t).begun ≡ true → IsSpawnedIn script t (a ++ CommandOf d c full ∷ [])
  begun_next is = spawned_more script t a (CommandOf d c full) (by_number (IsSpawnedIn script t a) d t
      (λ same.
      let mine : ((p d).begun || (is_flag_load d c && is_int (pos 1) x.answer)) ≡ true = sym (ap (λ (y : Phase). y.begun) own_phase) ∙ subst (λ (i : ℕ). (q i).begun ≡ true) (sym same) is in
      ⊎_elim
      (λ before. was.begun (subst (λ (i : ℕ). (p i).begun ≡ true) same before))
      (λ now.
      let both = and_parts (is_flag_load d c) (is_int (pos 1) x.answer) now in
      was.one (flag_answer 1 (flag_load_is d c both.0 ∙ ap flag_load same) both.1))
      (or_cases (p d).begun (is_flag_load d c && is_int (pos 1) x.answer) mine))
      (λ other. was.begun (sym (ap (λ (y : Phase). y.begun) (other_phase t other)) ∙ is)))

  seen_next : (j : ℕ) → JustSeen (q j) t → (q t).finished ≡ true
  seen_next j just = still_finished t (by_number ((p t).finished ≡ true) d j
      (λ same.
      let mine : JustSeen (q d) t = subst (λ (i : ℕ). JustSeen (q i) t) (sym same) just in
      let here : mine.step ≡ x = last_is mine.step mine.last in
      was.two (flag_answer 2 (ap (λ (y : Step). y.command) (sym here) ∙ mine.loads) (subst (λ (y : Step). IsTrue (is_int (pos 2) y.answer)) here mine.answers)))
      (λ other. was.seen j (subst (λ (y : Phase). JustSeen y t) (other_phase j other) just)))

  -- a store of t's result
  stores_result : (y : declared_command.Command) → IsTrue (is_result_of t y) → (item : ℕ) × (y ≡ Store hidden (result_of t) item)
  stores_result (Store block index item) is =
      let both = and_parts (block == hidden) (index == result_of t) is in
      (item, λ j. Store (eqb-true block hidden both.0 j) (eqb-true index (result_of t) both.1 j) item)
  stores_result y is = let clash : false ≡ true = is in cc

  replied_is : (y z : Reply) → Replied y ≡ Replied z → y ≡ z
  replied_is y z e = cc

  -- one that answers `ok` wrote it, and one that wrote it answers `ok`
  result_stored : (item : ℕ) → c ≡ Store hidden (result_of t) item → IsTrue (is_ok x.answer) → slot (next s (CommandOf d c full)) (result_of t) ≡ item_in x.held c
  result_stored item is ok =
      let never : full ≡ false = not_full s d c full allowed.full_fits (ap is_allocation is) in
      let same : ◌≡◌ {A = Entry} (CommandOf d c full) (CommandOf d (Store hidden (result_of t) item) false) = λ j. CommandOf d (is j) (never j) in
      let says : x.answer ≡ (command_outcome s d (Store hidden (result_of t) item) false).reply = λ j. (command_outcome s d (is j) (never j)).reply in
      let value : register s d item ≡ item_in x.held c = ap (item_in (domain_at s d).registers) (sym is) in
      ⊎_elim
      (λ none.
      let refused : (command_outcome s d (Store hidden (result_of t) item) false).reply ≡ reply_of.BadType = replied_is _ _ (refused_answers s was.kept d allowed.running (result_of t) item none) in
      let wrong : IsTrue (is_ok reply_of.BadType) = subst (λ (y : Reply). IsTrue (is_ok y)) (says ∙ refused) ok in
      absurd (let clash : false ≡ true = wrong in cc))
      (λ some. ap (λ (e : Entry). slot (next s e) (result_of t)) same ∙ (store_here s was.kept d allowed.running (result_of t) item some (omega arith) ∙ value))
      (nothing_or (register s d item))

  result_told : (w : Wrote s (CommandOf d c full) (result_of t)) → IsTrue (is_result_of t c && is_ok x.answer)
  result_told w =
      let is : c ≡ Store hidden (result_of t) w.item = ap command_in w.is in
      let never : full ≡ false = ap full_in w.is in
      let same : d ≡ w.domain = ap domain_in w.is in
      let some : register s d w.item ≢ Nothing = subst (λ (i : ℕ). register s i w.item ≢ Nothing) (sym same) w.some in
      let says : x.answer ≡ (command_outcome s d (Store hidden (result_of t) w.item) false).reply = λ j. (command_outcome s d (is j) (never j)).reply in
      let stored : (command_outcome s d (Store hidden (result_of t) w.item) false).reply ≡ reply_of.Done = replied_is _ _ (store_answers s was.kept d allowed.running (result_of t) w.item some (omega arith)) in
      and_both (is_result_of t c) (is_ok x.answer) (ap (is_result_of t) is ∙ eq-eqb (result_of t) (result_of t) refl) (ap is_ok (says ∙ stored))

  result_next : slot (next s (CommandOf d c full)) (result_of t) ≡ fold (result_after t) r (step_of s t (CommandOf d c full))
  result_next = by_number (slot (next s (CommandOf d c full)) (result_of t) ≡ fold (result_after t) r (step_of s t (CommandOf d c full))) d t
      (λ same. subst (λ (i : ℕ). slot (next s (CommandOf d c full)) (result_of t) ≡ fold (result_after t) r (step_of s i (CommandOf d c full))) same
      (own (is_result_of t c && is_ok x.answer) refl ∙ sym (ap (λ (xs : List Step). fold (result_after t) r xs) (own_step s d c full))))
      (λ other. ⊎_elim
      (λ kept. kept ∙ (was.result ∙ sym (ap (λ (xs : List Step). fold (result_after t) r xs) (other_step s d t c full other))))
      (λ w. absurd (other (sym (fits.results t w.item (ap command_in w.is)))))
      (entry_slots s was.kept (CommandOf d c full) allowed fits.discreet (result_of t)))
    where
      own : (b : Bool) → (is_result_of t c && is_ok x.answer) ≡ b → slot (next s (CommandOf d c full)) (result_of t) ≡ result_after t r x
      own true e =
          let both = and_parts (is_result_of t c) (is_ok x.answer) e in
          let store = stores_result c both.0 in
          result_stored store.0 store.1 both.1 ∙ sym (ap (λ (b : Bool). cond b (item_in x.held c) r) e)
      own false e = ⊎_elim
          (λ kept. kept ∙ (was.result ∙ sym (ap (λ (b : Bool). cond b (item_in x.held c) r) e)))
          (λ w. absurd (let clash : false ≡ true = sym e ∙ result_told w in cc))
          (entry_slots s was.kept (CommandOf d c full) allowed fits.discreet (result_of t))

  command_place : IsPlace script n t (a ++ CommandOf d c full ∷ []) (next s (CommandOf d c full)) q (fold (result_after t) r (step_of s t (CommandOf d c full))) k
  command_place = record {
    kept = kept_next s (CommandOf d c full) allowed fits.discreet was.kept;
    wf = wf_next s (CommandOf d c full) was.wf;
    shaped = shaped-next s (CommandOf d c full) was.wf was.shaped;
    inside = λ j running. was.inside j (hidden_next hidden_label s (CommandOf d c full) j was.kept.hides fits.discreet running).was;
    legal = was.legal.1;
    runs = λ j lt. runs_behind (SpawnsIn script j) j (p j) (step_of s j (CommandOf d c full)) (steps_from (next s (CommandOf d c full)) k j) (was.runs j lt);
    put = put_next;
    flag = flag_next;
    one = one_next;
    two = two_next;
    begun = begun_next;
    seen = seen_next;
    result = result_next;
  }

-- any entry
module _ (script : List (List declared_command.Command)) (n t : ℕ) (small : t < 8) where
  place_next : (a : List Entry) (s : State) (p : ℕ → Phase) (r : Value) (e : Entry) (k : List Entry) → IsPlace script n t a s p r (e ∷ k)
      → IsPlace script n t (a ++ e ∷ []) (next s e) (λ d. fold (after d) (p d) (step_of s d e)) (fold (result_after t) r (step_of s t e)) k
  place_next a s p r (CommandOf d c full) k was = command_place script n t small a s p r d c full k was
  place_next a s p r (End d) k was = silent_place script n t a s p r (End d) k was (λ j c full same. cc) tt (λ j. refl)
  place_next a s p r Cut k was = silent_place script n t a s p r Cut k was (λ j c full same. cc) tt (λ j. refl)
  place_next a s p r (Queue d places) k was = silent_place script n t a s p r (Queue d places) k was (λ j c full same. cc) tt (λ j. refl)
  place_next a s p r Seal k was = silent_place script n t a s p r Seal k was (λ j c full same. cc) tt (λ j. refl)
  place_next a s p r (Wipe l keys) k was = silent_place script n t a s p r (Wipe l keys) k was (λ j c full same. cc) tt (λ j. refl)
  place_next a s p r (LastOf d place) k was = silent_place script n t a s p r (LastOf d place) k was (λ j c full same. cc) tt (λ j. refl)
  place_next a s p r Collected k was = silent_place script n t a s p r Collected k was (λ j c full same. cc) tt (λ j. refl)
  place_next a s p r Done k was = silent_place script n t a s p r Done k was (λ j c full same. cc) tt (λ j. refl)
  place_next a s p r (Ran d) k was = silent_place script n t a s p r (Ran d) k was (λ j c full same. cc) tt (λ j. refl)

  -- where the walk has come behind some entries
  pub record Arrives (a : List Entry) (s : State) (r : Value) (todo k : List Entry) : Type 0 where
    pub phase : ℕ → Phase
    pub place : IsPlace script n t (a ++ todo) (state_after s todo) phase (fold (result_after t) r (steps_from s todo t)) k

  pub walk : (a : List Entry) (s : State) (p : ℕ → Phase) (r : Value) (todo k : List Entry) → IsPlace script n t a s p r (todo ++ k) → Arrives a s r todo k
  walk a s p r [] k was = record { phase = p; place = subst (λ (b : List Entry). IsPlace script n t b s p r k) (sym (append-nil a)) was }
  walk a s p r (e ∷ todo) k was =
      let later = walk (a ++ e ∷ []) (next s e) _ _ todo k (place_next a s p r e (todo ++ k) was) in
      record {
        phase = later.phase;
        place = subst (λ (b : List Entry). IsPlace script n t b (state_after (next s e) todo) later.phase (fold (result_after t) r (step_of s t e ++ steps_from (next s e) todo t)) k) (append_assoc a (e ∷ []) todo)
            (subst (λ (v : Value). IsPlace script n t ((a ++ e ∷ []) ++ todo) (state_after (next s e) todo) later.phase v k) (sym (fold-append (result_after t) r (step_of s t e) (steps_from (next s e) todo t))) later.place);
      }
