-- How often a section stores what a spawn stores: as often as it spawns.
use Rattle.std.proofs.Common.{◌≡◌, ◌≢◌, ◌⊎◌, ⊎_elim, ℕ, zero, suc, ◌+◌, ◌<◌, ◌≤◌, Bool, true, false, cond, ◌||◌, ◌==◌, eqb-true, eq-eqb, IsTrue, ℤ, pos, List, [], ◌∷◌, ◌++◌, get_or, count_by, refl, ap, sym, ◌∙◌, arith}
use Rattle.std.specs.List.{list_any}
use Rattle.std.proofs.lemmas.List.Sums.{sum_by-cons}
use Rattle.model_core.specs.declared.command.Command.{Command}
use Rattle.model_core.specs.declared.command.Command.TheVariants.{Load, Store, Spawn, Argument, PutResult, Join}
use Rattle.model_core.proofs.Histories.TallyLemmas.{tally, tally-append, tally-map, counted, tally_count}
use Rattle.model_core.proofs.Reach.ReachLemmas.{or_left, or_right}
use Rattle.model_traces.specs.Spawns.Hidden.{hidden, flag_of, argument_of, result_of, is_plain}
use Rattle.model_traces.specs.Spawns.Expansion.{Step, Each, is_int, flag_load, Waits, IsStart, Make, spawn_commands, finish_commands, IsExpansion, AreExpansions, IsSection, is_spawn_of, is_spawned, section_at, IsFitting, AreFitting}
use Rattle.model_traces.proofs.OfSpawns.Phases.{is_finish, quiet_plain}
use Rattle.check_laws.specs.Sections.Orders.{spawns_of}

pub differ : (a b : ℕ) → a ≢ b → (a == b) ≡ false
differ a b other = go (a == b) refl
  where
    go : (c : Bool) → (a == b) ≡ c → c ≡ false
    go true e = absurd (other (eqb-true a b e))
    go false e = refl

-- how many of these steps store into a field of the hidden block
abbrev pub stores : ℕ → List Step → ℕ
stores i xs = tally (counted (λ x. is_finish i x.command)) xs

-- how many of these commands spawn a section
abbrev pub spawns : ℕ → List Command → ℕ
spawns t cs = tally (counted (is_spawn_of t)) cs

-- a field into which a spawn of section t stores once, and no other command of section d
pub record IsMark (d t i : ℕ) : Type 0 where
  pub few : t < 8
  pub other : d ≢ i
  pub kind : (i ≡ argument_of t) ⊎ (i ≡ flag_of t)

make_stores : (i : ℕ) (cs : List Command) (xs : List Step) → Make cs xs → stores i xs ≡ tally (counted (is_finish i)) cs
make_stores i cs xs make = sym (tally-map (counted (is_finish i)) (λ x. x.command) xs) ∙ ap (tally (counted (is_finish i))) make

module _ (d t i : ℕ) (mark : IsMark d t i) where
  low : i < 16
  low = ⊎_elim (λ a. omega (arith, a, mark.few)) (λ f. omega (arith, f, mark.few)) mark.kind

  -- the two stores of a spawn
  spawn_marks : (section : ℕ) → section < 8 → counted (is_finish i) (Store hidden (argument_of section) 0) + counted (is_finish i) (Store hidden (flag_of section) 0) ≡ cond (section == t) 1 0
  spawn_marks section lt = ⊎_elim (argument (section == t) refl) (flag (section == t) refl) mark.kind
    where
      two : (a b : Bool) → (argument_of section == i) ≡ a → (flag_of section == i) ≡ b → cond (argument_of section == i) 1 0 + cond (flag_of section == i) 1 0 ≡ cond a 1 0 + cond b 1 0
      two a b first second = λ j. cond (first j) 1 0 + cond (second j) 1 0

      argument : (b : Bool) → (section == t) ≡ b → i ≡ argument_of t → cond (argument_of section == i) 1 0 + cond (flag_of section == i) 1 0 ≡ cond (section == t) 1 0
      argument true e is =
          let same : section ≡ t = eqb-true section t e in
          two true false (eq-eqb (argument_of section) i (omega (arith, same, is))) (differ (flag_of section) i (λ f. omega (arith, f, is, lt))) ∙ sym (ap (λ (c : Bool). cond c 1 0) e)
      argument false e is =
          two false false (differ (argument_of section) i (λ f. other (omega (arith, f, is)))) (differ (flag_of section) i (λ f. omega (arith, f, is, lt))) ∙ sym (ap (λ (c : Bool). cond c 1 0) e)
        where
          other : section ≡ t → ⊥
          other same = let clash : true ≡ false = sym (eq-eqb section t same) ∙ e in cc

      flag : (b : Bool) → (section == t) ≡ b → i ≡ flag_of t → cond (argument_of section == i) 1 0 + cond (flag_of section == i) 1 0 ≡ cond (section == t) 1 0
      flag true e is =
          let same : section ≡ t = eqb-true section t e in
          two false true (differ (argument_of section) i (λ f. omega (arith, f, is, mark.few))) (eq-eqb (flag_of section) i (omega (arith, same, is))) ∙ sym (ap (λ (c : Bool). cond c 1 0) e)
      flag false e is =
          two false false (differ (argument_of section) i (λ f. omega (arith, f, is, mark.few))) (differ (flag_of section) i (λ f. other (omega (arith, f, is)))) ∙ sym (ap (λ (c : Bool). cond c 1 0) e)
        where
          other : section ≡ t → ⊥
          other same = let clash : true ≡ false = sym (eq-eqb section t same) ∙ e in cc

  each_load : (section : ℕ) (until : ℤ) (xs : List Step) → Each (λ x. (x.command ≡ flag_load section) × (is_int until x.answer ≡ false)) xs → stores i xs ≡ 0
  each_load section until [] each = refl
  each_load section until (x ∷ xs) each =
      let first : counted (is_finish i) x.command ≡ 0 = ap (counted (is_finish i)) each.0.0 in
      let rest = each_load section until xs each.1 in
      omega (arith, first, rest)

  waits_store : (section : ℕ) (until : ℤ) (xs : List Step) → Waits section until xs → stores i xs ≡ 0
  waits_store section until xs w =
      ap (stores i) w.are ∙ tally-append (counted (λ x. is_finish i x.command)) w.early (w.last ∷ [])
      ∙ (λ j. each_load section until w.early w.early_loads j + (counted (is_finish i) (w.last_load j) + 0))

  spawn_stores : (b : Bool) (section item : ℕ) (xs : List Step) → section < 8 → Make (spawn_commands b section item) xs → stores i xs ≡ cond (section == t) 1 0
  spawn_stores true section item xs lt make = make_stores i (spawn_commands true section item) xs make ∙ (let m = spawn_marks section lt in omega (arith, m))
  spawn_stores false section item xs lt make = make_stores i (spawn_commands false section item) xs make ∙ (let m = spawn_marks section lt in omega (arith, m))

  command_stores : (c : Command) (xs : List Step) → d < 8 → IsFitting d c → IsExpansion d c xs → stores i xs ≡ counted (is_spawn_of t) c
  command_stores (Spawn section item) xs small fits is = spawn_stores _ section item xs fits.2 is.commands_are
  command_stores (Argument dst) xs small fits is = make_stores i (Load dst hidden (argument_of d) ∷ []) xs is
  command_stores (PutResult item) xs small fits is =
      make_stores i (Store hidden (result_of d) item ∷ []) xs is ∙ ap (λ (b : Bool). cond b 1 0 + 0) (differ (result_of d) i (λ same. let l = low in omega (arith, same, l)))
  command_stores (Join dst section) xs small fits is =
      ap (stores i) is.are ∙ tally-append (counted (λ x. is_finish i x.command)) is.waits (is.last ∷ [])
      ∙ (λ j. waits_store section (pos 2) is.waits is.waited j + (counted (is_finish i) (is.loads j) + 0))
  command_stores c xs small fits is = make_stores i (c ∷ []) xs is ∙ plain_stores c fits
    where
      plain_stores : (c : Command) → IsTrue (is_plain c) → tally (counted (is_finish i)) (c ∷ []) ≡ 0
      plain_stores c all = ap (λ (b : Bool). cond b 1 0 + 0) (quiet_plain i c all).no_finish

  commands_store : (cs : List Command) (xs : List Step) → d < 8 → AreFitting d cs → AreExpansions d cs xs → stores i xs ≡ spawns t cs
  commands_store [] xs small fits are = ap (stores i) are
  commands_store (c ∷ cs) xs small fits are =
      ap (stores i) are.2 ∙ tally-append (counted (λ x. is_finish i x.command)) are.0 are.1
      ∙ (λ j. command_stores c are.0 small fits.0 are.3 j + commands_store cs are.1 small fits.1 are.4 j)

  pub section_stores : (spawned : Bool) (cs : List Command) (xs : List Step) → d < 8 → AreFitting d cs → IsSection d spawned cs xs → stores i xs ≡ spawns t cs
  section_stores spawned cs xs small fits is =
      let a : stores i is.start ≡ 0 = start_stores spawned is.start is.starts in
      let b : stores i is.middle ≡ spawns t cs = commands_store cs is.middle small fits is.makes in
      let c : stores i is.finish ≡ 0 = finish_stores spawned is.finish is.finishes in
      ap (stores i) is.are ∙ tally-append (counted (λ x. is_finish i x.command)) is.start (is.middle ++ is.finish)
      ∙ ap (λ (n : ℕ). stores i is.start + n) (tally-append (counted (λ x. is_finish i x.command)) is.middle is.finish) ∙ omega (arith, a, b, c)
    where
      start_stores : (b : Bool) (ys : List Step) → cond b (IsStart d ys) (ys ≡ []) → stores i ys ≡ 0
      start_stores true ys w = waits_store d (pos 1) ys w
      start_stores false ys none = ap (stores i) none

      finish_stores : (b : Bool) (ys : List Step) → cond b (Make (finish_commands d) ys) (ys ≡ []) → stores i ys ≡ 0
      finish_stores true ys make = make_stores i (finish_commands d) ys make ∙ ap (λ (b : Bool). 0 + (cond b 1 0 + 0)) (differ (flag_of d) i mark.other)
      finish_stores false ys none = ap (stores i) none

-- the spawns of a script are those of its sections
pub script_spawns : (t : ℕ) (script : List (List Command)) → spawns_of script t ≡ tally (spawns t) script
script_spawns t [] = refl
script_spawns t (cs ∷ script) = sum_by-cons (count_by (is_spawn_of t)) cs script ∙ (let first = tally_count (is_spawn_of t) cs in let rest = script_spawns t script in omega (arith, first, rest))

pub section_spawns : (t d : ℕ) (script : List (List Command)) → spawns t (section_at script d) ≤ spawns_of script t
section_spawns t d script = let e = script_spawns t script in omega (arith, e, go d script)
  where
    go : (d : ℕ) (script : List (List Command)) → spawns t (get_or script d []) ≤ tally (spawns t) script
    go d [] = omega arith
    go zero (cs ∷ script) = omega arith
    go (suc d) (cs ∷ script) = let rest = go d script in omega (arith, rest)

pub two_sections : (t d e : ℕ) (script : List (List Command)) → d ≢ e → spawns t (section_at script d) + spawns t (section_at script e) ≤ spawns_of script t
two_sections t d e script other = let all = script_spawns t script in omega (arith, all, go d e script other)
  where
    one : (d : ℕ) (script : List (List Command)) → spawns t (get_or script d []) ≤ tally (spawns t) script
    one d script = let e = script_spawns t script in omega (arith, e, section_spawns t d script)

    go : (d e : ℕ) (script : List (List Command)) → d ≢ e → spawns t (get_or script d []) + spawns t (get_or script e []) ≤ tally (spawns t) script
    go d e [] other = omega arith
    go zero zero (cs ∷ script) other = absurd (other refl)
    go zero (suc e) (cs ∷ script) other = let rest = one e script in omega (arith, rest)
    go (suc d) zero (cs ∷ script) other = let rest = one d script in omega (arith, rest)
    go (suc d) (suc e) (cs ∷ script) other = let rest = go d e script (λ same. other (ap suc same)) in omega (arith, rest)

-- a section that has a spawn counts one at least, and the other way round
pub some_spawn : (t : ℕ) (cs : List Command) → IsTrue (list_any (is_spawn_of t) cs) → 1 ≤ spawns t cs
some_spawn t [] is = let clash : false ≡ true = is in cc
some_spawn t (c ∷ cs) is = go (is_spawn_of t c) refl (some_spawn t cs)
  where
    go : (b : Bool) → is_spawn_of t c ≡ b → (IsTrue (list_any (is_spawn_of t) cs) → 1 ≤ spawns t cs) → 1 ≤ cond (is_spawn_of t c) 1 0 + spawns t cs
    go true e rest = let one : counted (is_spawn_of t) c ≡ 1 = ap (λ (b : Bool). cond b 1 0) e in omega (arith, one)
    go false e rest =
        let later : IsTrue (list_any (is_spawn_of t) cs) = sym (ap (λ (b : Bool). b || list_any (is_spawn_of t) cs) e) ∙ is in
        let more = rest later in omega (arith, more)

pub spawn_there : (t : ℕ) (cs : List Command) → 1 ≤ spawns t cs → IsTrue (list_any (is_spawn_of t) cs)
spawn_there t [] some = absurd (omega (arith, some))
spawn_there t (c ∷ cs) some = go (is_spawn_of t c) refl (spawn_there t cs)
  where
    go : (b : Bool) → is_spawn_of t c ≡ b → (1 ≤ spawns t cs → IsTrue (list_any (is_spawn_of t) cs)) → IsTrue (list_any (is_spawn_of t) (c ∷ cs))
    go true e rest = or_left (is_spawn_of t c) (list_any (is_spawn_of t) cs) e
    go false e rest = or_right (is_spawn_of t c) (list_any (is_spawn_of t) cs) (rest (let none : counted (is_spawn_of t) c ≡ 0 = ap (λ (b : Bool). cond b 1 0) e in omega (arith, none, some)))

-- a section that fits doesn't spawn itself
pub no_own_spawn : (d : ℕ) (cs : List Command) → AreFitting d cs → spawns d cs ≡ 0
no_own_spawn d [] fits = refl
no_own_spawn d (c ∷ cs) fits = let first = one c fits.0 in let rest = no_own_spawn d cs fits.1 in omega (arith, first, rest)
  where
    one : (c : Command) → IsFitting d c → counted (is_spawn_of d) c ≡ 0
    one (Spawn section item) fits = ap (λ (b : Bool). cond b 1 0) (differ section d fits.1)
    one c fits = refl

pub section_spawned : (t d : ℕ) (script : List (List Command)) → 1 ≤ spawns t (section_at script d) → IsTrue (is_spawned script t)
section_spawned t d script some = go d script (spawn_there t (section_at script d) some)
  where
    go : (d : ℕ) (script : List (List Command)) → IsTrue (list_any (is_spawn_of t) (get_or script d [])) → IsTrue (list_any (list_any (is_spawn_of t)) script)
    go d [] is = let clash : false ≡ true = is in cc
    go zero (cs ∷ script) is = or_left (list_any (is_spawn_of t) cs) (list_any (list_any (is_spawn_of t)) script) is
    go (suc d) (cs ∷ script) is = or_right (list_any (is_spawn_of t) cs) (list_any (list_any (is_spawn_of t)) script) (go d script is)
