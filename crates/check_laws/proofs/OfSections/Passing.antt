-- Each `argument` of a section answers what its spawn passed.
use Rattle.std.proofs.Common.{◌≡◌, ◌≢◌, ◌⊎◌, inl, inr, ⊎_elim, ℕ, ◌+◌, ◌<◌, ◌≤◌, Bool, true, false, cond, eqb, eqb-true, eq-eqb, IsTrue, pos, List, [], ◌∷◌, ◌++◌, map, get_or, refl, ap, sym, ◌∙◌, subst, arith, append_assoc}
use Rattle.model_core.specs.declared.command.Command as declared_command
use Rattle.model_core.specs.declared.command.Command.TheVariants.{PutInt, Load, Store}
use Rattle.model_core.specs.declared.entry.Entry.{Entry}
use Rattle.model_core.specs.declared.entry.Entry.TheVariants.{Command as CommandOf}
use Rattle.model_core.specs.declared.reply.Applied.TheVariants.{Replied}
use Rattle.model_core.specs.declared.graph.Value.{Value}
use Rattle.model_core.specs.declared.graph.Value.TheVariants.{Int, Block, Nothing}
use Rattle.model_core.specs.declared.state.Sizes.{Sizes}
use Rattle.model_core.specs.declared.state.State.{State}
use Rattle.model_core.specs.Domains.{register, opening, IsWithinLimits}
use Rattle.model_core.specs.Commands.{shown, is_full_value, CommandAllowed}
use Rattle.model_core.specs.Entries.{next, reply}
use Rattle.model_core.specs.History.{state_after, Legal}
use Rattle.model_core.proofs.Histories.HistoryLemmas.{state_after-append}
use Rattle.model_core.proofs.Histories.TallyLemmas.{tally, tally-append, counted}
use Rattle.model_traces.specs.Spawns.Hidden.{hidden, scratch, flag_of, argument_of, prelude}
use Rattle.model_traces.specs.Spawns.Expansion.{Step, step_of, steps_from, spawn_commands, is_spawned, section_at, IsScriptRun, IsFittingScript}
use Rattle.model_traces.specs.Spawns.Joined.{IsSpawnedIn, IsJoined}
use Rattle.model_traces.proofs.OfSpawns.Slots.{slot, load_answers, store_here}
use Rattle.model_traces.proofs.OfSpawns.Phases.{is_finish}
use Rattle.model_traces.proofs.OfSpawns.Beginning.{slot_begun}
use Rattle.model_traces.proofs.OfSpawns.Growing.{steps_append}
use Rattle.model_traces.proofs.OfSpawns.JoinLaws.{join_law}
use Rattle.model_traces.proofs.OfSpawns.Joining.{step_at, not_full}
use Rattle.check_laws.specs.Sections.Orders.{spawns_of, IsOrderly}
use Rattle.check_laws.specs.Sections.Passed.{passed_value, HasSpawn, AnswersArgument, ArgumentsArePassed, UnpassedIsZero}
use Rattle.check_laws.proofs.OfSections.Walking.{own_step, IsStepAt, split_step, IsStage, stage_after, stage_first, stage_next, slot_over, put_store, stage_at, running_at, never_full, first_stage}
use Rattle.check_laws.proofs.OfSections.Counting.{stores, spawns, IsMark, section_stores, section_spawns, two_sections, some_spawn, no_own_spawn, section_spawned}

-- how many of a domain's steps in some entries store into a field, part by part
pub stores_append : (i d : ℕ) (s : State) (h k : List Entry) → stores i (steps_from s (h ++ k) d) ≡ stores i (steps_from s h d) + stores i (steps_from (state_after s h) k d)
stores_append i d s h k = ap (stores i) (steps_append s h k d) ∙ tally-append (counted (λ x. is_finish i x.command)) (steps_from s h d) (steps_from (state_after s h) k d)

-- a store into a field counts
pub stores_one : (i d item : ℕ) (s : State) (full : Bool) (k : List Entry) → stores i (steps_from s (CommandOf d (Store hidden i item) full ∷ k) d) ≡ 1 + stores i (steps_from (next s (CommandOf d (Store hidden i item) full)) k d)
stores_one i d item s full k =
    ap (λ (xs : List Step). stores i (xs ++ steps_from (next s (CommandOf d (Store hidden i item) full)) k d)) (own_step s d (Store hidden i item) full)
    ∙ ap (λ (b : Bool). cond b 1 0 + stores i (steps_from (next s (CommandOf d (Store hidden i item) full)) k d)) (eq-eqb i i refl)

-- two splits of a list at an element that passes a test which none before passes are one
same_split : (f : Step → ℕ) (xs : List Step) (x : Step) (ys us : List Step) (u : Step) (vs : List Step) → xs ++ x ∷ ys ≡ us ++ u ∷ vs → tally f xs ≡ 0 → tally f us ≡ 0 → 1 ≤ f x → 1 ≤ f u → us ≡ xs
same_split f [] x ys [] u vs e none nothing a b = refl
same_split f [] x ys (w ∷ us) u vs e none nothing a b = let same : x ≡ w = cc in let sum = ap f same in absurd (omega (arith, sum, nothing, a))
same_split f (w ∷ xs) x ys [] u vs e none nothing a b = let same : w ≡ u = cc in let sum = ap f same in absurd (omega (arith, sum, none, b))
same_split f (w ∷ xs) x ys (v ∷ us) u vs e none nothing a b =
    let first : v ≡ w = cc in
    let rest : xs ++ x ∷ ys ≡ us ++ u ∷ vs = cc in
    (λ j. first j ∷ same_split f xs x ys us u vs rest (omega (arith, none)) (omega (arith, nothing)) a b j)

-- what a value's fullness says
full_or : (v : Value) → (v ≡ Nothing) ⊎ (v ≢ Nothing)
full_or Nothing = inl refl
full_or (Int z) = inr (λ e. cc)
full_or (Block l) = inr (λ e. cc)

-- the integer 0 was put into the scratch register right before
record IsZeroPut (early : List Step) (r : ℕ) (passed : Value) : Type 0 where
  first : List Step
  zero : Step
  are : early ≡ first ++ zero ∷ []
  puts : zero.command ≡ PutInt scratch (pos 0)
  from : r ≡ scratch
  is : passed ≡ Int (pos 0)

-- The store of an argument among the steps of the domain that spawns, with the two steps behind it
record IsLaid (t item : ℕ) (passed : Value) (xs : List Step) : Type 0 where
  early : List Step
  store : Step
  put : Step
  flag : Step
  late : List Step
  register : ℕ
  are : xs ≡ (early ++ store ∷ (put ∷ [])) ++ flag ∷ late
  stores : store.command ≡ Store hidden (argument_of t) register
  puts : put.command ≡ PutInt scratch (pos 1)
  flags : flag.command ≡ Store hidden (flag_of t) scratch
  value : ((get_or store.held register Nothing ≡ passed) × (passed ≢ Nothing)) ⊎ IsZeroPut early register passed

laid : (t item : ℕ) (xs : List Step) (spawn : HasSpawn t item xs) → IsLaid t item (passed_value spawn.spawn.first.held item) xs
laid t item xs spawn = go (is_full_value (get_or spawn.spawn.first.held item Nothing)) refl spawn.steps spawn.spawn.are spawn.spawn.commands_are spawn.are
  where
    first : Step
    first = spawn.spawn.first

    passed : (b : Bool) → is_full_value (get_or spawn.spawn.first.held item Nothing) ≡ b → passed_value spawn.spawn.first.held item ≡ cond b (get_or spawn.spawn.first.held item Nothing) (Int (pos 0))
    passed b e = ap (λ (c : Bool). cond c (get_or spawn.spawn.first.held item Nothing) (Int (pos 0))) e

    something : (v : Value) → is_full_value v ≡ true → v ≢ Nothing
    something v full none = let clash : false ≡ true = sym (ap is_full_value none) ∙ full in cc

    spread : (us xs ys : List Step) (x y z : Step) → xs ≡ us ++ ((x ∷ (y ∷ (z ∷ []))) ++ ys) → xs ≡ (us ++ x ∷ (y ∷ [])) ++ z ∷ ys
    spread us xs ys x y z is = is ∙ sym (append_assoc us (x ∷ (y ∷ [])) (z ∷ ys))

    go : (b : Bool) → is_full_value (get_or spawn.spawn.first.held item Nothing) ≡ b → (ys : List Step) → ys ≡ spawn.spawn.first ∷ spawn.spawn.more → map (λ x. x.command) ys ≡ spawn_commands (is_full_value (get_or spawn.spawn.first.held item Nothing)) t item
        → xs ≡ spawn.before ++ (ys ++ spawn.behind) → IsLaid t item (passed_value spawn.spawn.first.held item) xs
    go true e (a ∷ b ∷ c ∷ []) starts make are =
        let commands : map (λ x. x.command) (a ∷ b ∷ c ∷ []) ≡ spawn_commands true t item = make ∙ ap (λ (k : Bool). spawn_commands k t item) e in
        let same : a ≡ spawn.spawn.first = cc in
        record {
          early = spawn.before;
          store = a;
          put = b;
          flag = c;
          late = spawn.behind;
          register = item;
          are = spread spawn.before xs spawn.behind a b c are;
          stores = cc;
          puts = cc;
          flags = cc;
          value = inl (
            ap (λ (x : Step). get_or x.held item Nothing) same ∙ sym (passed true e),
            λ none. something (get_or spawn.spawn.first.held item Nothing) e (sym (passed true e) ∙ none),
          );
        }
    go false e (o ∷ a ∷ b ∷ c ∷ []) starts make are =
        let commands : map (λ x. x.command) (o ∷ a ∷ b ∷ c ∷ []) ≡ spawn_commands false t item = make ∙ ap (λ (k : Bool). spawn_commands k t item) e in
        record {
          early = spawn.before ++ o ∷ [];
          store = a;
          put = b;
          flag = c;
          late = spawn.behind;
          register = scratch;
          are = spread (spawn.before ++ o ∷ []) xs spawn.behind a b c (are ∙ sym (append_assoc spawn.before (o ∷ []) ((a ∷ (b ∷ (c ∷ []))) ++ spawn.behind)));
          stores = cc;
          puts = cc;
          flags = cc;
          value = inr (record { first = spawn.before; zero = o; are = refl; puts = cc; from = refl; is = passed false e });
        }
    go true e [] starts make are = cc
    go true e (a ∷ []) starts make are = absurd (let wrong : map (λ x. x.command) (a ∷ []) ≡ spawn_commands true t item = make ∙ ap (λ (k : Bool). spawn_commands k t item) e in cc)
    go true e (a ∷ b ∷ []) starts make are = absurd (let wrong : map (λ x. x.command) (a ∷ b ∷ []) ≡ spawn_commands true t item = make ∙ ap (λ (k : Bool). spawn_commands k t item) e in cc)
    go true e (a ∷ b ∷ c ∷ d ∷ ys) starts make are = absurd (let wrong : map (λ x. x.command) (a ∷ b ∷ c ∷ d ∷ ys) ≡ spawn_commands true t item = make ∙ ap (λ (k : Bool). spawn_commands k t item) e in cc)
    go false e [] starts make are = cc
    go false e (a ∷ []) starts make are = absurd (let wrong : map (λ x. x.command) (a ∷ []) ≡ spawn_commands false t item = make ∙ ap (λ (k : Bool). spawn_commands k t item) e in cc)
    go false e (a ∷ b ∷ []) starts make are = absurd (let wrong : map (λ x. x.command) (a ∷ b ∷ []) ≡ spawn_commands false t item = make ∙ ap (λ (k : Bool). spawn_commands k t item) e in cc)
    go false e (a ∷ b ∷ c ∷ []) starts make are = absurd (let wrong : map (λ x. x.command) (a ∷ b ∷ c ∷ []) ≡ spawn_commands false t item = make ∙ ap (λ (k : Bool). spawn_commands k t item) e in cc)
    go false e (a ∷ b ∷ c ∷ d ∷ f ∷ ys) starts make are = absurd (let wrong : map (λ x. x.command) (a ∷ b ∷ c ∷ d ∷ f ∷ ys) ≡ spawn_commands false t item = make ∙ ap (λ (k : Bool). spawn_commands k t item) e in cc)

module _ (z : Sizes) (script : List (List declared_command.Command)) (h : List Entry) (limits : IsWithinLimits z) (legal : Legal z h) (fitting : IsFittingScript script) (run : IsScriptRun z script h) where
  abbrev pub s1 : State
  s1 = state_after (opening z) (prelude z.domains)

  pub stage : IsStage z.domains s1 run.behind
  stage = first_stage z script h limits legal fitting run

  -- how often a section stores into a field of a spawn
  pub run_stores : (d t i : ℕ) → d < z.domains → IsMark d t i → stores i (steps_from s1 run.behind d) ≡ spawns t (section_at script d)
  run_stores d t i lt mark = section_stores d t i mark (is_spawned script d) (section_at script d) (steps_from s1 run.behind d) (let few = limits.domains in omega (arith, few, lt)) (fitting d) (run.sections d lt)

  module _ (t : ℕ) (within : t < z.domains) where
    few : t < 8
    few = let all = limits.domains in omega (arith, all, within)

    argument_mark : (d : ℕ) → d < z.domains → IsMark d t (argument_of t)
    argument_mark d lt = record { few = few; other = λ same. let all = limits.domains in omega (arith, all, lt, same); kind = inl refl }

    abbrev i : ℕ
    i = argument_of t

    -- a load of the argument, by what the field holds
    load_is : (before behind : List Entry) (dst : ℕ) (full : Bool) → run.behind ≡ before ++ CommandOf t (Load dst hidden (argument_of t)) full ∷ behind → (v : Value) → slot (state_after s1 before) (argument_of t) ≡ v
        → reply (state_after s1 before) (CommandOf t (Load dst hidden (argument_of t)) full) ≡ Replied (shown v)
    load_is before behind dst full is v holds =
        let here = stage_after z.domains s1 before _ (subst (λ (k : List Entry). IsStage z.domains s1 k) is stage) in
        let s : State = state_after s1 before in
        let allowed : CommandAllowed s t (Load dst hidden (argument_of t)) full = here.legal.0 in
        let never : full ≡ false = not_full s t (Load dst hidden (argument_of t)) full allowed.full_fits refl in
        ap (λ (b : Bool). reply s (CommandOf t (Load dst hidden (argument_of t)) b)) never
        ∙ load_answers s here.kept t allowed.running dst (argument_of t) (let lt = few in omega (arith, lt))
        ∙ ap (λ (v : Value). Replied (shown v)) holds

    pub zero_law : spawns_of script t ≡ 0 → AnswersArgument z t run.behind (Int (pos 0))
    zero_law none before behind dst full is = load_is before behind dst full is (Int (pos 0)) (slot_over z.domains s1 before (CommandOf t (Load dst hidden (argument_of t)) full ∷ behind) (argument_of t)
        (subst (λ (k : List Entry). IsStage z.domains s1 k) is stage)
        (λ d lt.
        let whole = run_stores d t (argument_of t) lt (argument_mark d lt) in
        let parts = ap (λ (k : List Entry). stores (argument_of t) (steps_from s1 k d)) is ∙ stores_append (argument_of t) d s1 before (CommandOf t (Load dst hidden (argument_of t)) full ∷ behind) in
        let most = section_spawns t d script in
        omega (arith, whole, parts, most, none))
        ∙ slot_begun z limits.some_domain limits.domains (argument_of t) (let lt = few in omega (arith, lt)))

    -- a spawn of the section, and a load of its argument
    module _ (orderly : IsOrderly z.domains script) (p item : ℕ) (below : p < z.domains) (spawn : HasSpawn t item (steps_from s1 run.behind p)) where
      abbrev passed : Value
      passed = passed_value spawn.spawn.first.held item

      l : IsLaid t item (passed_value spawn.spawn.first.held item) (steps_from s1 run.behind p)
      l = laid t item (steps_from s1 run.behind p) spawn

      one_store : (i : ℕ) (x : Step) (k r : ℕ) → x.command ≡ Store hidden k r → k ≡ i → counted (λ (x : Step). is_finish i x.command) x ≡ 1
      one_store i x k r is same = ap (λ (c : declared_command.Command). counted (is_finish i) c) is ∙ ap (λ (b : Bool). cond b 1 0) (eq-eqb k i same)

      -- the domain that spawns isn't the section, and no other one spawns it
      own_spawns : spawns t (section_at script p) ≡ 1
      own_spawns =
          let whole = run_stores p t (argument_of t) below (argument_mark p below) in
          let parts = ap (stores (argument_of t)) l.are ∙ tally-append (counted (λ x. is_finish (argument_of t) x.command)) (l.early ++ l.store ∷ (l.put ∷ [])) (l.flag ∷ l.late) in
          let more = tally-append (counted (λ x. is_finish (argument_of t) x.command)) l.early (l.store ∷ (l.put ∷ [])) in
          let one = one_store (argument_of t) l.store (argument_of t) l.register l.stores refl in
          let most = section_spawns t p script in
          let once = orderly.once t in
          omega (arith, whole, parts, more, one, most, once)

      other : p ≢ t
      other same = let none = no_own_spawn t (section_at script t) (fitting t) in let some = ap (λ (d : ℕ). spawns t (section_at script d)) same in let one = own_spawns in omega (arith, none, some, one)

      others_spawn : (d : ℕ) → d ≢ p → spawns t (section_at script d) ≡ 0
      others_spawn d not = let two = two_sections t d p script not in let one = own_spawns in let once = orderly.once t in omega (arith, two, one, once)

      spawned : IsTrue (is_spawned script t)
      spawned = section_spawned t p script (let one = own_spawns in omega (arith, one))

      joined : IsJoined z script t run.behind
      joined = join_law z script h limits legal fitting run t within spawned

      -- the store stands before the spawn's last one, which stands before each load of the argument
      module _ (before behind : List Entry) (dst : ℕ) (full : Bool) (is : run.behind ≡ before ++ CommandOf t (Load dst hidden (argument_of t)) full ∷ behind) where
        abbrev e : Entry
        e = CommandOf t (Load dst hidden (argument_of t)) full

        begun : IsSpawnedIn script t before
        begun = joined.begun before behind (Load dst hidden (argument_of t)) full is (λ same. absurd (let twice : argument_of t ≡ flag_of t = ap index_in same in omega (arith, twice)))
          where
            index_in : declared_command.Command → ℕ
            index_in (Load dst src index) = index
            index_in _ = 0

        parent_is : begun.parent ≡ p
        parent_is = go (eqb begun.parent p) refl
          where
            go : (b : Bool) → eqb begun.parent p ≡ b → begun.parent ≡ p
            go true e = eqb-true begun.parent p e
            go false e =
                let none = others_spawn begun.parent (λ same. let twice : true ≡ false = sym (eq-eqb begun.parent p same) ∙ e in cc) in
                let some = some_spawn t (section_at script begun.parent) begun.spawns in
                absurd (omega (arith, none, some))

        abbrev b1 : List Entry
        b1 = begun.before

        split : before ≡ begun.before ++ CommandOf p (Store hidden (flag_of t) scratch) begun.full ∷ begun.behind
        split = begun.stands ∙ ap (λ (d : ℕ). begun.before ++ CommandOf d (Store hidden (flag_of t) scratch) begun.full ∷ begun.behind) parent_is

        whole : run.behind ≡ begun.before ++ CommandOf p (Store hidden (flag_of t) scratch) begun.full ∷ (begun.behind ++ CommandOf t (Load dst hidden (argument_of t)) full ∷ behind)
        whole = is ∙ (ap (λ (k : List Entry). k ++ CommandOf t (Load dst hidden (argument_of t)) full ∷ behind) split
            ∙ append_assoc begun.before (CommandOf p (Store hidden (flag_of t) scratch) begun.full ∷ begun.behind) (CommandOf t (Load dst hidden (argument_of t)) full ∷ behind))

        flag_mark : IsMark p t (flag_of t)
        flag_mark = record { few = few; other = other; kind = inr refl }

        -- what the spawning domain made before that
        steps_are : steps_from s1 begun.before p ≡ l.early ++ l.store ∷ (l.put ∷ [])
        steps_are =
            let fs : Step = step_at (state_after s1 begun.before) p (Store hidden (flag_of t) scratch) begun.full in
            let left : List Step = steps_from (next (state_after s1 begun.before) (CommandOf p (Store hidden (flag_of t) scratch) begun.full)) (begun.behind ++ CommandOf t (Load dst hidden (argument_of t)) full ∷ behind) p in
            let two : steps_from s1 run.behind p ≡ steps_from s1 begun.before p ++ fs ∷ left =
            ap (λ (k : List Entry). steps_from s1 k p) whole ∙ (steps_append s1 begun.before _ p ∙ ap (λ (xs : List Step). steps_from s1 begun.before p ++ (xs ++ left)) (own_step (state_after s1 begun.before) p (Store hidden (flag_of t) scratch) begun.full)) in
            let count = run_stores p t (flag_of t) below flag_mark in
            let one = own_spawns in
            let here : counted (λ (x : Step). is_finish (flag_of t) x.command) fs ≡ 1 = one_store (flag_of t) fs (flag_of t) scratch refl refl in
            let there : counted (λ (x : Step). is_finish (flag_of t) x.command) l.flag ≡ 1 = one_store (flag_of t) l.flag (flag_of t) scratch l.flags refl in
            let first = ap (stores (flag_of t)) two ∙ tally-append (counted (λ x. is_finish (flag_of t) x.command)) (steps_from s1 begun.before p) (fs ∷ left) in
            let second = ap (stores (flag_of t)) l.are ∙ tally-append (counted (λ x. is_finish (flag_of t) x.command)) (l.early ++ l.store ∷ (l.put ∷ [])) (l.flag ∷ l.late) in
            same_split (counted (λ x. is_finish (flag_of t) x.command)) (l.early ++ l.store ∷ (l.put ∷ [])) l.flag l.late (steps_from s1 begun.before p) fs left (sym l.are ∙ two)
            (omega (arith, count, one, there, second)) (omega (arith, count, one, here, first)) (omega (arith, there)) (omega (arith, here))

        early_stage : IsStage z.domains s1 begun.before
        early_stage = stage_first z.domains s1 begun.before _ (subst (λ (k : List Entry). IsStage z.domains s1 k) whole stage)

        -- what the register holds there
        abbrev StoreAt : List Step → Type 0
        StoreAt xs = (at : IsStepAt s1 p begun.before xs l.store (l.put ∷ [])) × (register (state_after s1 at.before) p l.register ≡ passed_value spawn.spawn.first.held item)

        some : passed_value spawn.spawn.first.held item ≢ Nothing
        some = ⊎_elim (λ v. v.1) (λ v none. let clash : Int (pos 0) ≡ Nothing = sym v.is ∙ none in cc) l.value

        store_at : StoreAt l.early
        store_at = ⊎_elim
            (λ v. let at = split_step s1 p begun.before l.early l.store (l.put ∷ []) steps_are in (at, ap (λ (x : Step). get_or x.held l.register Nothing) (sym at.is) ∙ v.0))
            (λ v.
            let are : steps_from s1 begun.before p ≡ v.first ++ v.zero ∷ (l.store ∷ (l.put ∷ [])) = steps_are ∙ (ap (λ (xs : List Step). xs ++ l.store ∷ (l.put ∷ [])) v.are ∙ append_assoc v.first (v.zero ∷ []) (l.store ∷ (l.put ∷ []))) in
            let put = put_store z.domains s1 begun.before early_stage p v.first v.zero l.store (l.put ∷ []) (argument_of t) (pos 0) (let lt = few in omega (arith, lt)) are v.puts
            (l.stores ∙ ap (λ (r : ℕ). Store hidden (argument_of t) r) v.from) in
            subst StoreAt (sym v.are) (put.at, ap (λ (r : ℕ). register (state_after s1 put.at.before) p r) v.from ∙ (put.held ∙ sym v.is)))
            l.value

        at : IsStepAt s1 p begun.before l.early l.store (l.put ∷ [])
        at = store_at.0

        abbrev sy : State
        sy = state_after s1 store_at.0.before

        stage_y : IsStage z.domains (state_after s1 store_at.0.before) (CommandOf p l.store.command store_at.0.full ∷ store_at.0.behind)
        stage_y = stage_at z.domains s1 begun.before early_stage p l.early l.store (l.put ∷ []) store_at.0

        stored_now : slot (next (state_after s1 store_at.0.before) (CommandOf p l.store.command store_at.0.full)) (argument_of t) ≡ passed_value spawn.spawn.first.held item
        stored_now =
            let never = never_full z.domains s1 begun.before early_stage p l.early l.store (l.put ∷ []) store_at.0 (Store hidden (argument_of t) l.register) l.stores refl in
            let running = running_at z.domains s1 begun.before early_stage p l.early l.store (l.put ∷ []) store_at.0 in
            ap (λ (e : Entry). slot (next (state_after s1 store_at.0.before) e) (argument_of t)) (λ j. CommandOf p (l.stores j) (never j))
            ∙ (store_here (state_after s1 store_at.0.before) stage_y.kept p running (argument_of t) l.register (λ none. some (sym store_at.1 ∙ none)) (let lt = few in omega (arith, lt)) ∙ store_at.1)

        abbrev between : List Entry
        between = store_at.0.behind ++ CommandOf p (Store hidden (flag_of t) scratch) begun.full ∷ begun.behind

        before_is : before ≡ store_at.0.before ++ CommandOf p l.store.command store_at.0.full ∷ (store_at.0.behind ++ CommandOf p (Store hidden (flag_of t) scratch) begun.full ∷ begun.behind)
        before_is = split ∙ (ap (λ (k : List Entry). k ++ CommandOf p (Store hidden (flag_of t) scratch) begun.full ∷ begun.behind) store_at.0.stands
            ∙ append_assoc store_at.0.before (CommandOf p l.store.command store_at.0.full ∷ store_at.0.behind) (CommandOf p (Store hidden (flag_of t) scratch) begun.full ∷ begun.behind))

        run_is : run.behind ≡ store_at.0.before ++ (CommandOf p l.store.command store_at.0.full ∷ ((store_at.0.behind ++ CommandOf p (Store hidden (flag_of t) scratch) begun.full ∷ begun.behind) ++ CommandOf t (Load dst hidden (argument_of t)) full ∷ behind))
        run_is = is ∙ (ap (λ (k : List Entry). k ++ CommandOf t (Load dst hidden (argument_of t)) full ∷ behind) before_is
            ∙ append_assoc store_at.0.before (CommandOf p l.store.command store_at.0.full ∷ between) (CommandOf t (Load dst hidden (argument_of t)) full ∷ behind))

        -- nobody stores into the field from then on
        later_stage : IsStage z.domains (next (state_after s1 store_at.0.before) (CommandOf p l.store.command store_at.0.full)) (between ++ CommandOf t (Load dst hidden (argument_of t)) full ∷ behind)
        later_stage = stage_next z.domains _ _ _ (stage_after z.domains s1 store_at.0.before _ (subst (λ (k : List Entry). IsStage z.domains s1 k) run_is stage))

        none_later : (d : ℕ) → d < z.domains → stores (argument_of t) (steps_from (next (state_after s1 store_at.0.before) (CommandOf p l.store.command store_at.0.full)) between d) ≡ 0
        none_later d lt =
            let count = run_stores d t (argument_of t) lt (argument_mark d lt) in
            let ey : Entry = CommandOf p l.store.command store_at.0.full in
            let parts = ap (λ (k : List Entry). stores (argument_of t) (steps_from s1 k d)) run_is ∙ stores_append (argument_of t) d s1 store_at.0.before (ey ∷ (between ++ CommandOf t (Load dst hidden (argument_of t)) full ∷ behind)) in
            let own = tally-append (counted (λ x. is_finish (argument_of t) x.command)) (step_of (state_after s1 store_at.0.before) d ey) (steps_from (next (state_after s1 store_at.0.before) ey) (between ++ CommandOf t (Load dst hidden (argument_of t)) full ∷ behind) d) in
            let more = stores_append (argument_of t) d (next (state_after s1 store_at.0.before) ey) between (CommandOf t (Load dst hidden (argument_of t)) full ∷ behind) in
            go (eqb d p) refl count parts own more
          where
            go : (b : Bool) → eqb d p ≡ b
                → stores (argument_of t) (steps_from s1 run.behind d) ≡ spawns t (section_at script d)
                → stores (argument_of t) (steps_from s1 run.behind d) ≡ stores (argument_of t) (steps_from s1 store_at.0.before d) + stores (argument_of t) (steps_from (state_after s1 store_at.0.before) (CommandOf p l.store.command store_at.0.full ∷ (between ++ CommandOf t (Load dst hidden (argument_of t)) full ∷ behind)) d)
                → stores (argument_of t) (steps_from (state_after s1 store_at.0.before) (CommandOf p l.store.command store_at.0.full ∷ (between ++ CommandOf t (Load dst hidden (argument_of t)) full ∷ behind)) d)
                ≡ stores (argument_of t) (step_of (state_after s1 store_at.0.before) d (CommandOf p l.store.command store_at.0.full)) + stores (argument_of t) (steps_from (next (state_after s1 store_at.0.before) (CommandOf p l.store.command store_at.0.full)) (between ++ CommandOf t (Load dst hidden (argument_of t)) full ∷ behind) d)
                → stores (argument_of t) (steps_from (next (state_after s1 store_at.0.before) (CommandOf p l.store.command store_at.0.full)) (between ++ CommandOf t (Load dst hidden (argument_of t)) full ∷ behind) d)
                ≡ stores (argument_of t) (steps_from (next (state_after s1 store_at.0.before) (CommandOf p l.store.command store_at.0.full)) between d)
                + stores (argument_of t) (steps_from (state_after (next (state_after s1 store_at.0.before) (CommandOf p l.store.command store_at.0.full)) between) (CommandOf t (Load dst hidden (argument_of t)) full ∷ behind) d)
                → stores (argument_of t) (steps_from (next (state_after s1 store_at.0.before) (CommandOf p l.store.command store_at.0.full)) between d) ≡ 0
            go true e count parts own more =
                let same : d ≡ p = eqb-true d p e in
                let mine : stores (argument_of t) (step_of (state_after s1 store_at.0.before) d (CommandOf p l.store.command store_at.0.full)) ≡ 1 =
                ap (λ (d : ℕ). stores (argument_of t) (step_of (state_after s1 store_at.0.before) d (CommandOf p l.store.command store_at.0.full))) same
                ∙ (ap (stores (argument_of t)) (own_step (state_after s1 store_at.0.before) p l.store.command store_at.0.full)
                ∙ (let one = one_store (argument_of t) (step_at (state_after s1 store_at.0.before) p l.store.command store_at.0.full) (argument_of t) l.register l.stores refl in omega (arith, one))) in
                let one = ap (λ (d : ℕ). spawns t (section_at script d)) same in
                let only = own_spawns in
                omega (arith, count, parts, own, more, mine, one, only)
            go false e count parts own more =
                let none = others_spawn d (λ same. let twice : true ≡ false = sym (eq-eqb d p same) ∙ e in cc) in
                omega (arith, count, parts, own, more, none)

        passed_law : reply (state_after s1 before) (CommandOf t (Load dst hidden (argument_of t)) full) ≡ Replied (shown (passed_value spawn.spawn.first.held item))
        passed_law = load_is before behind dst full is (passed_value spawn.spawn.first.held item)
            (ap (λ (s : State). slot s (argument_of t)) (ap (state_after s1) before_is ∙ state_after-append s1 store_at.0.before (CommandOf p l.store.command store_at.0.full ∷ between))
            ∙ (slot_over z.domains (next (state_after s1 store_at.0.before) (CommandOf p l.store.command store_at.0.full)) between (CommandOf t (Load dst hidden (argument_of t)) full ∷ behind) (argument_of t) later_stage none_later ∙ stored_now))

pub passed_arguments : ArgumentsArePassed
passed_arguments z script h limits legal fitting orderly run t within p item below spawn before behind dst full is =
    passed_law z script h limits legal fitting run t within orderly p item below spawn before behind dst full is

pub zero_arguments : UnpassedIsZero
zero_arguments z script h limits legal fitting run t within none = zero_law z script h limits legal fitting run t within none
