-- What the steps of one section say of one another: which may come before its start, which come last, and what stands right before a store of a flag and a load of a result.
use Rattle.std.proofs.Common.{◌≡◌, ◌≢◌, ◌⊎◌, inl, inr, ℕ, ◌<◌, Bool, true, false, not, cond, ◌&&◌, ◌||◌, ◌==◌, eqb-true, eq-eqb, nat_lt, IsTrue, ℤ, pos, List, [], ◌∷◌, ◌++◌, fold, Option, Some, None, refl, ap, sym, ◌∙◌, subst, arith, append_assoc}
use Rattle.std.specs.List.{list_all, list_any}
use Rattle.std.proofs.lemmas.Bool.Decides.{nat_tests}
use Rattle.std.proofs.lemmas.List.Sums.{fold-append}
use Rattle.model_core.specs.declared.command.Command.{Command}
use Rattle.model_core.specs.declared.command.Command.TheVariants.{PutInt, Load, Store, Spawn, Argument, PutResult, Join}
use Rattle.model_core.proofs.Graphs.GraphLemmas.{and_parts}
use Rattle.model_core.proofs.Reach.ReachLemmas.{and_both, or_left, or_right}
use Rattle.model_traces.specs.Spawns.Hidden.{hidden, scratch, flag_of, argument_of, result_of, is_plain}
use Rattle.model_traces.specs.Spawns.Expansion.{Step, Each, is_int, flag_load, IsStart, IsJoin, Make, spawn_commands, finish_commands, IsExpansion, AreExpansions, IsSection, is_spawn_of, IsFitting, AreFitting}
use Rattle.model_traces.proofs.OfSpawns.Hiding.{is_discreet}
use Rattle.model_traces.proofs.OfSpawns.Printing.{differ}

-- how far a section has come: whether its start was seen, whether it told its end, and its last step
pub record Phase : Type 0 where
  pub begun : Bool
  pub finished : Bool
  pub last : Option Step

abbrev pub is_flag_load : ℕ → Command → Bool
is_flag_load d (Load dst src index) = dst == scratch && (src == hidden && index == flag_of d)
is_flag_load d _ = false

abbrev pub is_finish : ℕ → Command → Bool
is_finish d (Store block index item) = block == hidden && index == flag_of d
is_finish d _ = false

abbrev pub after : ℕ → Phase → Step → Phase
after d p x = record { begun = p.begun || (is_flag_load d x.command && is_int (pos 1) x.answer); finished = p.finished || is_finish d x.command; last = Some x }

-- before its first step
abbrev pub opening_phase : Bool → Phase
opening_phase spawned = record { begun = not spawned; finished = false; last = None }

-- the last step put an integer into the scratch register
pub record JustPut (p : Phase) (n : ℤ) : Type 0 where
  pub step : Step
  pub last : p.last ≡ Some step
  pub puts : step.command ≡ PutInt scratch n

-- the last step saw a section's flag at 2
pub record JustSeen (p : Phase) (section : ℕ) : Type 0 where
  pub step : Step
  pub last : p.last ≡ Some step
  pub loads : step.command ≡ flag_load section
  pub answers : IsTrue (is_int (pos 2) step.answer)

-- a store of a flag: of a spawn, or of the own end
pub record IsFlagStore (Spawns : ℕ → Type 0) (d : ℕ) (p : Phase) (i item : ℕ) : Type 0 where
  pub scratch_is : item ≡ scratch
  pub kind : ((i ≢ d) × Spawns i × JustPut p (pos 1)) ⊎ ((i ≡ d) × JustPut p (pos 2))

-- what a step owes to the steps before it
pub record Fits (Spawns : ℕ → Type 0) (d : ℕ) (p : Phase) (x : Step) : Type 0 where
  pub discreet : IsTrue (is_discreet x.command)
  pub unfinished : p.finished ≡ false
  pub waits : p.begun ≡ false → x.command ≡ flag_load d
  pub flags : (i item : ℕ) → i < 8 → x.command ≡ Store hidden i item → IsFlagStore Spawns d p i item
  pub results : (i item : ℕ) → x.command ≡ Store hidden (result_of i) item → i ≡ d
  pub takes : (dst i : ℕ) → x.command ≡ Load dst hidden (result_of i) → JustSeen p i

abbrev pub Runs : (ℕ → Type 0) → ℕ → Phase → List Step → Type 0
Runs Spawns d p [] = Unit {0}
Runs Spawns d p (x ∷ xs) = Fits Spawns d p x × Runs Spawns d (after d p x) xs

module _ (Spawns : ℕ → Type 0) (d : ℕ) where
  pub runs_append : (p : Phase) (xs ys : List Step) → Runs Spawns d p xs → Runs Spawns d (fold (after d) p xs) ys → Runs Spawns d p (xs ++ ys)
  runs_append p [] ys a b = b
  runs_append p (x ∷ xs) ys a b = (a.0, runs_append (after d p x) xs ys a.1 b)

  pub runs_behind : (p : Phase) (xs ys : List Step) → Runs Spawns d p (xs ++ ys) → Runs Spawns d (fold (after d) p xs) ys
  runs_behind p [] ys a = a
  runs_behind p (x ∷ xs) ys a = runs_behind (after d p x) xs ys a.1

-- a command of a script is discreet
discreet_below : (r : ℕ) → IsTrue (nat_lt r scratch) → IsTrue (nat_lt r hidden)
discreet_below r h = grind (arith, nat_tests)

pub discreet_plain : (c : Command) → IsTrue (is_plain c) → IsTrue (is_discreet c)
discreet_plain (PutInt dst value) all = discreet_below dst (and_parts (nat_lt dst scratch) true all).0
discreet_plain (Load dst src index) all = discreet_below dst (and_parts (nat_lt dst scratch) (list_all (λ r. nat_lt r scratch) (src ∷ [])) all).0
discreet_plain (Store block index item) all = discreet_below item (and_parts (nat_lt item scratch) true (and_parts (nat_lt block scratch) (list_all (λ r. nat_lt r scratch) (item ∷ [])) all).1).0
discreet_plain c all = all

-- what a step is that neither stores a flag nor loads a result
pub record IsQuiet (d : ℕ) (c : Command) : Type 0 where
  pub discreet : IsTrue (is_discreet c)
  pub no_flag : (i item : ℕ) → i < 8 → c ≡ Store hidden i item → ⊥
  pub results : (i item : ℕ) → c ≡ Store hidden (result_of i) item → i ≡ d
  pub no_take : (dst i : ℕ) → c ≡ Load dst hidden (result_of i) → ⊥
  pub no_finish : is_finish d c ≡ false

plain_no_store : (c : Command) → IsTrue (is_plain c) → (i item : ℕ) → c ≡ Store hidden i item → ⊥
plain_no_store c all i item is = let clash : false ≡ true = subst (λ (x : Command). IsTrue (is_plain x)) is all in cc

plain_no_load : (c : Command) → IsTrue (is_plain c) → (dst i : ℕ) → c ≡ Load dst hidden i → ⊥
plain_no_load c all dst i is =
    let both = and_parts (nat_lt dst scratch) (list_all (λ r. nat_lt r scratch) (hidden ∷ [])) (subst (λ (x : Command). IsTrue (is_plain x)) is all) in
    let clash : false ≡ true = both.1 in cc

not_hidden : (r : ℕ) → IsTrue (nat_lt r scratch) → (r == hidden) ≡ false
not_hidden r h = grind (arith, nat_tests)

plain_no_finish : (d : ℕ) (c : Command) → IsTrue (is_plain c) → is_finish d c ≡ false
plain_no_finish d (Store block index item) all = ap (λ b. b && index == flag_of d) (not_hidden block (and_parts (nat_lt block scratch) (list_all (λ r. nat_lt r scratch) (item ∷ [])) all).0)
plain_no_finish d (PutInt dst value) all = refl
plain_no_finish d c all = refl

pub quiet_plain : (d : ℕ) (c : Command) → IsTrue (is_plain c) → IsQuiet d c
quiet_plain d c all = record {
  discreet = discreet_plain c all;
  no_flag = λ i item lt is. plain_no_store c all i item is;
  results = λ i item is. absurd (plain_no_store c all (result_of i) item is);
  no_take = λ dst i is. plain_no_load c all dst (result_of i) is;
  no_finish = plain_no_finish d c all;
}

-- the fields of equal commands
abbrev index_in : Command → ℕ
index_in (Store block index item) = index
index_in (Load dst src index) = index
index_in _ = 0

abbrev item_in : Command → ℕ
item_in (Store block index item) = item
item_in (Load dst src index) = dst
item_in _ = 0

quiet_put : (d : ℕ) (n : ℤ) → IsQuiet d (PutInt scratch n)
quiet_put d n = record { discreet = refl; no_flag = λ i item lt is. cc; results = λ i item is. absurd (let clash : PutInt scratch n ≡ Store hidden (result_of i) item = is in cc); no_take = λ dst i is. cc; no_finish = refl }

quiet_argument : (d section item : ℕ) → d < 8 → section < 8 → IsTrue (nat_lt item hidden) → IsQuiet d (Store hidden (argument_of section) item)
quiet_argument d section item small lt below = record {
  discreet = below;
  no_flag = λ i k few is. let same : argument_of section ≡ i = ap index_in is in omega arith;
  results = λ i k is. let same : argument_of section ≡ result_of i = ap index_in is in omega arith;
  no_take = λ dst i is. cc;
  no_finish = differ (argument_of section) (flag_of d) (λ same. omega arith);
}

quiet_result : (d item : ℕ) → d < 8 → IsTrue (nat_lt item hidden) → IsQuiet d (Store hidden (result_of d) item)
quiet_result d item small below = record {
  discreet = below;
  no_flag = λ i k few is. let same : result_of d ≡ i = ap index_in is in omega arith;
  results = λ i k is. let same : result_of d ≡ result_of i = ap index_in is in omega arith;
  no_take = λ dst i is. cc;
  no_finish = differ (result_of d) (flag_of d) (λ same. omega arith);
}

quiet_load : (d dst index : ℕ) → index < 16 → IsTrue (nat_lt dst hidden) → IsQuiet d (Load dst hidden index)
quiet_load d dst index lt below = record {
  discreet = below;
  no_flag = λ i item few is. cc;
  results = λ i item is. absurd (let clash : Load dst hidden index ≡ Store hidden (result_of i) item = is in cc);
  no_take = λ k i is. let same : index ≡ result_of i = ap index_in is in omega arith;
  no_finish = refl;
}

-- a section that was begun and goes on
pub record IsGoing (p : Phase) : Type 0 where
  pub begun : p.begun ≡ true
  pub unfinished : p.finished ≡ false

module _ (Spawns : ℕ → Type 0) (d : ℕ) where
  going_after : (p : Phase) (x : Step) → IsGoing p → is_finish d x.command ≡ false → IsGoing (after d p x)
  going_after p x going unfinishing = record {
    begun = ap (λ b. b || (is_flag_load d x.command && is_int (pos 1) x.answer)) going.begun;
    unfinished = ap (λ b. b || is_finish d x.command) going.unfinished ∙ unfinishing;
  }

  not_waiting : (p : Phase) → IsGoing p → (c : Command) → p.begun ≡ false → c ≡ flag_load d
  not_waiting p going c e = absurd (let clash : true ≡ false = sym going.begun ∙ e in cc)

  quiet_fits : (p : Phase) (x : Step) → IsGoing p → IsQuiet d x.command → Fits Spawns d p x
  quiet_fits p x going quiet = record {
    discreet = quiet.discreet;
    unfinished = going.unfinished;
    waits = not_waiting p going x.command;
    flags = λ i item lt is. absurd (quiet.no_flag i item lt is);
    results = quiet.results;
    takes = λ dst i is. absurd (quiet.no_take dst i is);
  }

  flag_fits : (p : Phase) (x : Step) (section : ℕ) → section < 8 → IsGoing p → x.command ≡ Store hidden (flag_of section) scratch
      → ((section ≢ d) × Spawns section × JustPut p (pos 1)) ⊎ ((section ≡ d) × JustPut p (pos 2)) → Fits Spawns d p x
  flag_fits p x section lt going is kind = record {
    discreet = subst (λ (c : Command). IsTrue (is_discreet c)) (sym is) refl;
    unfinished = going.unfinished;
    waits = not_waiting p going x.command;
    flags = λ i item few e.
        let same : section ≡ i = ap index_in (sym is ∙ e) in
        let item_is : scratch ≡ item = ap item_in (sym is ∙ e) in
        record { scratch_is = sym item_is; kind = subst (λ (k : ℕ). ((k ≢ d) × Spawns k × JustPut p (pos 1)) ⊎ ((k ≡ d) × JustPut p (pos 2))) same kind };
    results = λ i item e. let same : section ≡ result_of i = ap index_in (sym is ∙ e) in absurd (omega arith);
    takes = λ dst i e. absurd (let clash : Store hidden (flag_of section) scratch ≡ Load dst hidden (result_of i) = sym is ∙ e in cc);
  }

  take_fits : (p : Phase) (x : Step) (dst section : ℕ) → IsTrue (nat_lt dst hidden) → IsGoing p → x.command ≡ Load dst hidden (result_of section) → JustSeen p section → Fits Spawns d p x
  take_fits p x dst section below going is seen = record {
    discreet = subst (λ (c : Command). IsTrue (is_discreet c)) (sym is) below;
    unfinished = going.unfinished;
    waits = not_waiting p going x.command;
    flags = λ i item few e. absurd (let clash : Load dst hidden (result_of section) ≡ Store hidden i item = sym is ∙ e in cc);
    results = λ i item e. absurd (let clash : Load dst hidden (result_of section) ≡ Store hidden (result_of i) item = sym is ∙ e in cc);
    takes = λ k i e.
        let twice : result_of section ≡ result_of i = ap index_in (sym is ∙ e) in
        let same : section ≡ i = omega arith in
        subst (λ (j : ℕ). JustSeen p j) same seen;
  }

  quiet_next : (p : Phase) (x : Step) (c : Command) → x.command ≡ c → IsGoing p → IsQuiet d c → Fits Spawns d p x × IsGoing (after d p x)
  quiet_next p x c is going quiet =
      let own : IsQuiet d x.command = subst (λ (k : Command). IsQuiet d k) (sym is) quiet in
      (quiet_fits p x going own, going_after p x going own.no_finish)

-- some steps that fit, from a section that goes on, and leave it going on
pub record Goes (Spawns : ℕ → Type 0) (d : ℕ) (p : Phase) (xs : List Step) : Type 0 where
  pub runs : Runs Spawns d p xs
  pub going : IsGoing (fold (after d) p xs)

module _ (Spawns : ℕ → Type 0) (d : ℕ) where
  goes_none : (p : Phase) → IsGoing p → Goes Spawns d p []
  goes_none p going = record { runs = tt; going = going }

  goes_more : (p : Phase) (x : Step) (xs : List Step) → Fits Spawns d p x → Goes Spawns d (after d p x) xs → Goes Spawns d p (x ∷ xs)
  goes_more p x xs fits goes = record { runs = (fits, goes.runs); going = goes.going }

  goes_append : (p : Phase) (xs ys : List Step) → Goes Spawns d p xs → Goes Spawns d (fold (after d) p xs) ys → Goes Spawns d p (xs ++ ys)
  goes_append p xs ys a b = record { runs = runs_append Spawns d p xs ys a.runs b.runs; going = subst (λ (q : Phase). IsGoing q) (sym (fold-append (after d) p xs ys)) b.going }

  -- one step that makes a quiet command
  goes_quiet : (p : Phase) (xs : List Step) (c : Command) → Make (c ∷ []) xs → IsGoing p → IsQuiet d c → Goes Spawns d p xs
  goes_quiet p [] c make going quiet = cc
  goes_quiet p (x ∷ []) c make going quiet =
      let is : x.command ≡ c = cc in
      let one = quiet_next Spawns d p x c is going quiet in
      goes_more p x [] one.0 (goes_none (after d p x) one.1)
  goes_quiet p (x ∷ y ∷ xs) c make going quiet = cc

  -- the last two steps of a spawn
  goes_flag : (p : Phase) (xs : List Step) (section : ℕ) → section < 8 → section ≢ d → Spawns section → Make (PutInt scratch (pos 1) ∷ Store hidden (flag_of section) scratch ∷ []) xs → IsGoing p → Goes Spawns d p xs
  goes_flag p [] section lt other spawns make going = cc
  goes_flag p (x ∷ []) section lt other spawns make going = cc
  goes_flag p (x ∷ y ∷ []) section lt other spawns make going =
      let first : x.command ≡ PutInt scratch (pos 1) = cc in
      let second : y.command ≡ Store hidden (flag_of section) scratch = cc in
      let one = quiet_next Spawns d p x (PutInt scratch (pos 1)) first going (quiet_put d (pos 1)) in
      let q : Phase = after d p x in
      let put : JustPut q (pos 1) = record { step = x; last = refl; puts = first } in
      goes_more p x (y ∷ []) one.0
      (goes_more q y [] (flag_fits Spawns d q y section lt one.1 second (inl (other, spawns, put)))
      (goes_none (after d q y) (going_after Spawns d q y one.1 (ap (is_finish d) second ∙ differ (flag_of section) (flag_of d) other))))
  goes_flag p (x ∷ y ∷ z ∷ xs) section lt other spawns make going = cc

  -- a spawn
  goes_spawn : (b : Bool) (p : Phase) (xs : List Step) (section item : ℕ) → d < 8 → section < 8 → section ≢ d → IsTrue (nat_lt item hidden) → Spawns section → Make (spawn_commands b section item) xs → IsGoing p → Goes Spawns d p xs
  goes_spawn true p [] section item small lt other below spawns make going = cc
  goes_spawn true p (x ∷ xs) section item small lt other below spawns make going =
      let first : x.command ≡ Store hidden (argument_of section) item = cc in
      let rest : Make (PutInt scratch (pos 1) ∷ Store hidden (flag_of section) scratch ∷ []) xs = cc in
      let one = quiet_next Spawns d p x _ first going (quiet_argument d section item small lt below) in
      goes_more p x xs one.0 (goes_flag (after d p x) xs section lt other spawns rest one.1)
  goes_spawn false p [] section item small lt other below spawns make going = cc
  goes_spawn false p (x ∷ []) section item small lt other below spawns make going = cc
  goes_spawn false p (x ∷ y ∷ xs) section item small lt other below spawns make going =
      let first : x.command ≡ PutInt scratch (pos 0) = cc in
      let second : y.command ≡ Store hidden (argument_of section) scratch = cc in
      let rest : Make (PutInt scratch (pos 1) ∷ Store hidden (flag_of section) scratch ∷ []) xs = cc in
      let one = quiet_next Spawns d p x _ first going (quiet_put d (pos 0)) in
      let q : Phase = after d p x in
      let two = quiet_next Spawns d q y _ second one.1 (quiet_argument d section scratch small lt refl) in
      goes_more p x (y ∷ xs) one.0 (goes_more q y xs two.0 (goes_flag (after d q y) xs section lt other spawns rest two.1))

  -- the loads by which a join waits
  goes_early : (until : ℤ) (p : Phase) (xs : List Step) (section : ℕ) → section < 8 → Each (λ x. (x.command ≡ flag_load section) × (is_int until x.answer ≡ false)) xs → IsGoing p → Goes Spawns d p xs
  goes_early until p [] section lt each going = goes_none p going
  goes_early until p (x ∷ xs) section lt each going =
      let one = quiet_next Spawns d p x _ each.0.0 going (quiet_load d scratch (flag_of section) (omega arith) refl) in
      goes_more p x xs one.0 (goes_early until (after d p x) xs section lt each.1 one.1)

  -- a join
  goes_join : (p : Phase) (xs : List Step) (dst section : ℕ) → section < 8 → IsTrue (nat_lt dst hidden) → IsJoin dst section xs → IsGoing p → Goes Spawns d p xs
  goes_join p xs dst section lt below join going =
      let w = join.waited in
      let early = goes_early (pos 2) p w.early section lt w.early_loads going in
      let q : Phase = fold (after d) p w.early in
      let one = quiet_next Spawns d q w.last _ w.last_load early.going (quiet_load d scratch (flag_of section) (omega arith) refl) in
      let r : Phase = after d q w.last in
      let seen : JustSeen r section = record { step = w.last; last = refl; loads = w.last_load; answers = w.last_answer } in
      let take : Goes Spawns d r (join.last ∷ []) = goes_more r join.last [] (take_fits Spawns d r join.last dst section below one.1 join.loads seen)
      (goes_none (after d r join.last) (going_after Spawns d r join.last one.1 (ap (is_finish d) join.loads))) in
      let both : Goes Spawns d p (w.early ++ w.last ∷ (join.last ∷ [])) = goes_append p w.early (w.last ∷ (join.last ∷ [])) early (goes_more q w.last (join.last ∷ []) one.0 take) in
      let same : xs ≡ w.early ++ w.last ∷ (join.last ∷ []) = join.are ∙ (ap (λ (ys : List Step). ys ++ join.last ∷ []) w.are ∙ append_assoc w.early (w.last ∷ []) (join.last ∷ [])) in
      subst (λ (ys : List Step). Goes Spawns d p ys) (sym same) both

  below_item : (r : ℕ) → IsTrue (is_plain (Argument r)) → IsTrue (nat_lt r hidden)
  below_item r all = discreet_below r (and_parts (nat_lt r scratch) true all).0

  -- one command of a section
  goes_command : d < 8 → (c : Command) → IsFitting d c → ((t : ℕ) → IsTrue (is_spawn_of t c) → Spawns t) → (p : Phase) (xs : List Step) → IsExpansion d c xs → IsGoing p → Goes Spawns d p xs
  goes_command small (Spawn section item) fits spawns p xs is going =
      goes_spawn _ p xs section item small fits.2 fits.1 (below_item item fits.0) (spawns section (eq-eqb section section refl)) is.commands_are going
  goes_command small (Argument dst) fits spawns p xs is going = goes_quiet p xs _ is going (quiet_load d dst (argument_of d) (omega arith) (below_item dst fits))
  goes_command small (PutResult item) fits spawns p xs is going = goes_quiet p xs _ is going (quiet_result d item small (below_item item fits))
  goes_command small (Join dst section) fits spawns p xs is going = goes_join p xs dst section fits.2 (below_item dst fits.0) is going
  goes_command small c fits spawns p xs is going = goes_quiet p xs c is going (quiet_plain d c fits)

  -- the commands of a section
  goes_commands : d < 8 → (cs : List Command) → AreFitting d cs → ((t : ℕ) → IsTrue (list_any (is_spawn_of t) cs) → Spawns t) → (p : Phase) (xs : List Step) → AreExpansions d cs xs → IsGoing p → Goes Spawns d p xs
  goes_commands small [] fits spawns p xs are going = subst (λ (ys : List Step). Goes Spawns d p ys) (sym are) (goes_none p going)
  goes_commands small (c ∷ cs) fits spawns p xs are going =
      let ys = are.0 in
      let zs = are.1 in
      let first = goes_command small c fits.0 (λ t is. spawns t (or_left (is_spawn_of t c) (list_any (is_spawn_of t) cs) is)) p ys are.3 going in
      let later = goes_commands small cs fits.1 (λ t is. spawns t (or_right (is_spawn_of t c) (list_any (is_spawn_of t) cs) is)) (fold (after d) p ys) zs are.4 first.going in
      subst (λ (vs : List Step). Goes Spawns d p vs) (sym are.2) (goes_append p ys zs first later)

  -- the start of a section that a spawn names
  starts_early : (p : Phase) (xs : List Step) → d < 8 → p.begun ≡ false → p.finished ≡ false
      → Each (λ x. (x.command ≡ flag_load d) × (is_int (pos 1) x.answer ≡ false)) xs → Runs Spawns d p xs × ((fold (after d) p xs).begun ≡ false) × ((fold (after d) p xs).finished ≡ false)
  starts_early p [] small unbegun unfinished each = (tt, unbegun, unfinished)
  starts_early p (x ∷ xs) small unbegun unfinished each =
      let quiet : IsQuiet d x.command = subst (λ (k : Command). IsQuiet d k) (sym each.0.0) (quiet_load d scratch (flag_of d) (omega arith) refl) in
      let fits : Fits Spawns d p x = record {
        discreet = quiet.discreet;
        unfinished = unfinished;
        waits = λ e. each.0.0;
        flags = λ i item lt is. absurd (quiet.no_flag i item lt is);
        results = quiet.results;
        takes = λ dst i is. absurd (quiet.no_take dst i is);
      } in
      let none : (is_flag_load d x.command && is_int (pos 1) x.answer) ≡ false = ap (λ b. is_flag_load d x.command && b) each.0.1 ∙ and_false (is_flag_load d x.command) in
      let rest = starts_early (after d p x) xs small (ap (λ b. b || (is_flag_load d x.command && is_int (pos 1) x.answer)) unbegun ∙ none) (ap (λ b. b || is_finish d x.command) unfinished ∙ quiet.no_finish) each.1 in
      ((fits, rest.0), rest.1, rest.2)
    where
      and_false : (b : Bool) → (b && false) ≡ false
      and_false true = refl
      and_false false = refl

  -- the load that sees the spawn
  starts_last : (p : Phase) (x : Step) → d < 8 → p.finished ≡ false → x.command ≡ flag_load d → IsTrue (is_int (pos 1) x.answer) → Fits Spawns d p x × IsGoing (after d p x)
  starts_last p x small unfinished is one =
      let quiet : IsQuiet d x.command = subst (λ (k : Command). IsQuiet d k) (sym is) (quiet_load d scratch (flag_of d) (omega arith) refl) in
      let own : is_flag_load d x.command ≡ true = ap (is_flag_load d) is ∙ eq-eqb d d refl in (
        record {
          discreet = quiet.discreet;
          unfinished = unfinished;
          waits = λ e. is;
          flags = λ i item lt e. absurd (quiet.no_flag i item lt e);
          results = quiet.results;
          takes = λ dst i e. absurd (quiet.no_take dst i e);
        },
        record {
          begun = or_right p.begun (is_flag_load d x.command && is_int (pos 1) x.answer) (and_both (is_flag_load d x.command) (is_int (pos 1) x.answer) own one);
          unfinished = ap (λ b. b || is_finish d x.command) unfinished ∙ quiet.no_finish;
        },
      )

  goes_start : (xs : List Step) → d < 8 → IsStart d xs → Goes Spawns d (opening_phase true) xs
  goes_start xs small w =
      let early = starts_early (opening_phase true) w.early small refl refl w.early_loads in
      let q : Phase = fold (after d) (opening_phase true) w.early in
      let last = starts_last q w.last small early.2 w.last_load w.last_answer in
      let whole : Goes Spawns d (opening_phase true) (w.early ++ w.last ∷ []) = record {
        runs = runs_append Spawns d (opening_phase true) w.early (w.last ∷ []) early.0 (last.0, tt);
        going = subst (λ (r : Phase). IsGoing r) (sym (fold-append (after d) (opening_phase true) w.early (w.last ∷ []))) last.1;
      } in
      subst (λ (ys : List Step). Goes Spawns d (opening_phase true) ys) (sym w.are) whole

  goes_begin : (spawned : Bool) (xs : List Step) → d < 8 → cond spawned (IsStart d xs) (xs ≡ []) → Goes Spawns d (opening_phase spawned) xs
  goes_begin true xs small start = goes_start xs small start
  goes_begin false xs small start = subst (λ (ys : List Step). Goes Spawns d (opening_phase false) ys) (sym start) (goes_none (opening_phase false) (record { begun = refl; unfinished = refl }))

  -- the end of such a section
  runs_finish : (p : Phase) (xs : List Step) → d < 8 → Make (finish_commands d) xs → IsGoing p → Runs Spawns d p xs
  runs_finish p [] small make going = cc
  runs_finish p (x ∷ []) small make going = cc
  runs_finish p (x ∷ y ∷ []) small make going =
      let first : x.command ≡ PutInt scratch (pos 2) = cc in
      let second : y.command ≡ Store hidden (flag_of d) scratch = cc in
      let one = quiet_next Spawns d p x (PutInt scratch (pos 2)) first going (quiet_put d (pos 2)) in
      let q : Phase = after d p x in
      let put : JustPut q (pos 2) = record { step = x; last = refl; puts = first } in
      (one.0, (flag_fits Spawns d q y d small one.1 second (inr (refl, put)), tt))
  runs_finish p (x ∷ y ∷ z ∷ xs) small make going = cc

  runs_end : (spawned : Bool) (p : Phase) (xs : List Step) → d < 8 → cond spawned (Make (finish_commands d) xs) (xs ≡ []) → IsGoing p → Runs Spawns d p xs
  runs_end true p xs small finish going = runs_finish p xs small finish going
  runs_end false p xs small finish going = subst (λ (ys : List Step). Runs Spawns d p ys) (sym finish) tt

  -- the whole section
  pub runs_section : (spawned : Bool) (cs : List Command) (xs : List Step) → d < 8 → AreFitting d cs → ((t : ℕ) → IsTrue (list_any (is_spawn_of t) cs) → Spawns t) → IsSection d spawned cs xs → Runs Spawns d (opening_phase spawned) xs
  runs_section spawned cs xs small fits spawns is =
      let p : Phase = opening_phase spawned in
      let start = goes_begin spawned is.start small is.starts in
      let q : Phase = fold (after d) p is.start in
      let middle = goes_commands small cs fits spawns q is.middle is.makes start.going in
      let finish = runs_end spawned (fold (after d) q is.middle) is.finish small is.finishes middle.going in
      let whole : Runs Spawns d p (is.start ++ (is.middle ++ is.finish)) = runs_append Spawns d p is.start (is.middle ++ is.finish) start.runs (runs_append Spawns d q is.middle is.finish middle.runs finish) in
      subst (λ (ys : List Step). Runs Spawns d p ys) (sym is.are) whole
