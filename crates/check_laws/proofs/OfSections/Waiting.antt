-- Sections never wait for one another in a circle: who waits for its start waits for an earlier section, and who waits at a join for a later one that has been spawned.
use Rattle.std.proofs.Common.{◌≡◌, ◌≢◌, ◌⊎◌, inl, inr, ⊎_elim, ℕ, zero, suc, ◌+◌, ◌<◌, ◌≤◌, Bool, true, false, ◌||◌, eqb, eqb-true, eq-eqb, IsTrue, List, [], ◌∷◌, ◌++◌, length, refl, ap, sym, ◌∙◌, subst, arith, append_assoc}
use Rattle.std.specs.List.{list_any}
use Rattle.std.proofs.lemmas.List.Folds.{list_any-append}
use Rattle.model_core.specs.declared.command.Command.{Command}
use Rattle.model_core.specs.declared.command.Command.TheVariants.{Spawn, Join}
use Rattle.model_core.proofs.Histories.TallyLemmas.{tally-append, counted}
use Rattle.model_core.proofs.Reach.ReachLemmas.{or_cases}
use Rattle.model_traces.specs.Spawns.Expansion.{is_spawn_of, is_spawned, section_at}
use Rattle.model_traces.specs.Spawns.Progress.{Place, Before, Within, Behind}
use Rattle.check_laws.specs.Sections.Orders.{IsOrderly}
use Rattle.check_laws.specs.Sections.Waiting.{Standing, AreStandings, WaitsFor, CanGoOn, LeadsTo, Here, By, SomeGoesOn}
use Rattle.check_laws.proofs.OfSections.Counting.{spawns, section_spawns, two_sections, some_spawn}

-- where a spawn stands among commands
record IsSpawnAt (t : ℕ) (cs : List Command) : Type 0 where
  before : List Command
  item : ℕ
  behind : List Command
  are : cs ≡ before ++ Spawn t item ∷ behind

spawn_is : (t : ℕ) (c : Command) → IsTrue (is_spawn_of t c) → (item : ℕ) × (c ≡ Spawn t item)
spawn_is t (Spawn section item) is = (item, ap (λ (s : ℕ). Spawn s item) (eqb-true section t is))
spawn_is t c is = let clash : false ≡ true = is in cc

spawn_at : (t : ℕ) (cs : List Command) → IsTrue (list_any (is_spawn_of t) cs) → IsSpawnAt t cs
spawn_at t [] is = let clash : false ≡ true = is in cc
spawn_at t (c ∷ cs) is = ⊎_elim
    (λ here. let s = spawn_is t c here in record { before = []; item = s.0; behind = cs; are = ap (λ (x : Command). x ∷ cs) s.1 })
    (λ later. let s = spawn_at t cs later in record { before = c ∷ s.before; item = s.item; behind = s.behind; are = ap (λ (xs : List Command). c ∷ xs) s.are })
    (or_cases (is_spawn_of t c) (list_any (is_spawn_of t) cs) is)

-- which section spawns one
spawner : (t : ℕ) (script : List (List Command)) → IsTrue (is_spawned script t) → (p : ℕ) × (p < length script) × IsTrue (list_any (is_spawn_of t) (section_at script p))
spawner t [] is = let clash : false ≡ true = is in cc
spawner t (cs ∷ script) is = ⊎_elim
    (λ here. (0, omega arith, here))
    (λ later. let s = spawner t script later in (suc s.0, (let lt = s.1 in omega (arith, lt)), s.2))
    (or_cases (list_any (is_spawn_of t) cs) (list_any (list_any (is_spawn_of t)) script) is)

-- whether a join is next
record IsJoinNext (cs : List Command) : Type 0 where
  dst : ℕ
  section : ℕ
  rest : List Command
  is : cs ≡ Join dst section ∷ rest

next_join : (cs : List Command) → IsJoinNext cs ⊎ (IsJoinNext cs → ⊥)
next_join [] = inr (λ j. let clash : [] ≡ Join j.dst j.section ∷ j.rest = j.is in cc)
next_join (Join dst section ∷ cs) = inl (record { dst = dst; section = section; rest = cs; is = refl })
next_join (c ∷ cs) = inr (λ j. let clash : c ∷ cs ≡ Join j.dst j.section ∷ j.rest = j.is in cc)

is_behind : (x : Place) → (x ≡ Behind) ⊎ (x ≢ Behind)
is_behind Before = inr (λ e. cc)
is_behind Within = inr (λ e. cc)
is_behind Behind = inl refl

module _ (domains : ℕ) (script : List (List Command)) (at : ℕ → Standing) (orderly : IsOrderly domains script) (standings : AreStandings domains script at) where
  parts : (t d : ℕ) → d < domains → spawns t (section_at script d) ≡ spawns t (at d).made + spawns t (at d).left
  parts t d lt = ap (spawns t) (standings.commands d lt) ∙ tally-append (counted (is_spawn_of t)) (at d).made (at d).left

  -- a spawn isn't made and left
  not_both : (d p t : ℕ) → p < domains → t < domains → IsTrue (list_any (is_spawn_of d) (at p).made) → IsTrue (list_any (is_spawn_of d) (at t).left) → ⊥
  not_both d p t below within made left = go (eqb p t) refl
    where
      go : (b : Bool) → eqb p t ≡ b → ⊥
      go true e =
          let same : p ≡ t = eqb-true p t e in
          let whole = parts d p below in
          let first = some_spawn d (at p).made made in
          let second = some_spawn d (at p).left (subst (λ (k : ℕ). IsTrue (list_any (is_spawn_of d) (at k).left)) (sym same) left) in
          let most = section_spawns d p script in
          let once = orderly.once d in
          omega (arith, whole, first, second, most, once)
      go false e =
          let whole = parts d p below in
          let other = parts d t within in
          let first = some_spawn d (at p).made made in
          let second = some_spawn d (at t).left left in
          let two = two_sections d p t script (λ same. let twice : true ≡ false = sym (eq-eqb p t same) ∙ e in cc) in
          let once = orderly.once d in
          omega (arith, whole, other, first, second, two, once)

  abbrev Ends : ℕ → Type 0
  Ends d = (e : ℕ) × LeadsTo at d e × CanGoOn domains at e

  -- a section in its commands goes on, or waits for a later one that it has spawned
  record WaitsBelow (d : ℕ) : Type 0 where
    section : ℕ
    waits : WaitsFor at d section
    within : section < domains
    later : d < section
    made : IsTrue (list_any (is_spawn_of section) (at d).made)
    unended : (at section).place ≢ Behind

  place_clash : (d : ℕ) (x y : Place) → (at d).place ≡ x → (at d).place ≡ y → x ≡ y
  place_clash d x y a b = sym a ∙ b

  step_within : (d : ℕ) → d < domains → (at d).place ≡ Within → CanGoOn domains at d ⊎ WaitsBelow d
  step_within d lt w = ⊎_elim
      (λ j. ⊎_elim
      (λ done. inl (goes (λ t dst rest is. subst (λ (k : ℕ). (at k).place ≡ Behind) (same_section j.section t j.dst dst j.rest rest (sym j.is ∙ is)) done)))
      (λ not. inr (below j not))
      (is_behind (at j.section).place))
      (λ none. inl (goes (λ t dst rest is. absurd (none (record { dst = dst; section = t; rest = rest; is = is })))))
      (next_join (at d).left)
    where
      same_section : (a b x y : ℕ) (xs ys : List Command) → Join x a ∷ xs ≡ Join y b ∷ ys → a ≡ b
      same_section a b x y xs ys e = cc

      goes : ((t dst : ℕ) (rest : List Command) → (at d).left ≡ Join dst t ∷ rest → (at t).place ≡ Behind) → CanGoOn domains at d
      goes done = record {
        within = lt;
        unended = λ e. let clash : Within ≡ Behind = place_clash d Within Behind w e in cc;
        free = λ t below waits. ⊎_elim
            (λ start. let clash : Within ≡ Before = place_clash d Within Before w start.0 in cc)
            (λ join. join.4 (done t join.1 join.2 join.3))
            waits;
      }

      below : (j : IsJoinNext (at d).left) → (at j.section).place ≢ Behind → WaitsBelow d
      below j not =
          let whole : section_at script d ≡ (at d).made ++ Join j.dst j.section ∷ j.rest = standings.commands d lt ∙ ap (λ (cs : List Command). (at d).made ++ cs) j.is in
          let made = orderly.own d j.dst j.section (at d).made j.rest whole in
          let s = spawn_at j.section (at d).made made in
          let there : section_at script d ≡ s.before ++ Spawn j.section s.item ∷ (s.behind ++ Join j.dst j.section ∷ j.rest) =
          whole ∙ (ap (λ (cs : List Command). cs ++ Join j.dst j.section ∷ j.rest) s.are ∙ append_assoc s.before (Spawn j.section s.item ∷ s.behind) (Join j.dst j.section ∷ j.rest)) in
          record {
            section = j.section;
            waits = inr (w, j.dst, j.rest, j.is, not);
            within = orderly.inside d j.section s.item s.before _ there;
            later = orderly.later d j.section s.item s.before _ there;
            made = made;
            unended = not;
          }

  -- one whose spawn was made waits for none before its start
  started : (d p : ℕ) → d < domains → p < domains → IsTrue (list_any (is_spawn_of d) (at p).made) → (at d).place ≡ Before → CanGoOn domains at d
  started d p lt below made before = record {
    within = lt;
    unended = λ e. let clash : Before ≡ Behind = place_clash d Before Behind before e in cc;
    free = λ t within waits. ⊎_elim
        (λ start. not_both d p t below within made start.1)
        (λ join. let clash : Before ≡ Within = place_clash d Before Within before join.0 in cc)
        waits;
  }

  -- so a chain of joins ends
  down : (m d p : ℕ) → domains ≤ d + m → d < domains → p < domains → IsTrue (list_any (is_spawn_of d) (at p).made) → (at d).place ≢ Behind → Ends d
  down zero d p far lt below made unended = absurd (omega (arith, far, lt))
  down (suc m) d p far lt below made unended = go (at d).place refl (λ t. down m t)
    where
      go : (x : Place) → (at d).place ≡ x → ((t p : ℕ) → domains ≤ t + m → t < domains → p < domains → IsTrue (list_any (is_spawn_of t) (at p).made) → (at t).place ≢ Behind → Ends t) → Ends d
      go Before e rest = (d, Here d, started d p lt below made e)
      go Within e rest = ⊎_elim
          (λ can. (d, Here d, can))
          (λ w.
          let more = w.later in
          let later = rest w.section d (omega (arith, far, more)) w.within lt w.made w.unended in
          (later.0, By d w.section later.0 w.waits later.1, later.2))
          (step_within d lt e)
      go Behind e rest = absurd (unended e)

  -- and a chain of starts, which leads to earlier sections
  up : (m d : ℕ) → d < m → d < domains → (at d).place ≢ Behind → Ends d
  up zero d few lt unended = absurd (omega (arith, few))
  up (suc m) d few lt unended = go (at d).place refl (λ t. up m t)
    where
      go : (x : Place) → (at d).place ≡ x → ((t : ℕ) → t < m → t < domains → (at t).place ≢ Behind → Ends t) → Ends d
      go Before e rest =
          let s = spawner d script (standings.early d lt e) in
          let below : s.0 < domains = let inside = s.1 in let all = orderly.few in omega (arith, inside, all) in
          let either : IsTrue (list_any (is_spawn_of d) (at s.0).made || list_any (is_spawn_of d) (at s.0).left) =
          sym (list_any-append (is_spawn_of d) (at s.0).made (at s.0).left) ∙ (ap (list_any (is_spawn_of d)) (sym (standings.commands s.0 below)) ∙ s.2) in
          ⊎_elim
          (λ made. (d, Here d, started d s.0 lt below made e))
          (λ left.
          let there = spawn_at d (section_at script s.0) s.2 in
          let earlier = orderly.later s.0 d there.item there.before there.behind there.are in
          let later = rest s.0 (omega (arith, few, earlier)) below (λ over. let none : IsTrue (list_any (is_spawn_of d) []) = subst (λ (cs : List Command). IsTrue (list_any (is_spawn_of d) cs)) (standings.ended s.0 below over) left in let clash : false ≡ true = none in cc) in
          (later.0, By d s.0 later.0 (inl (e, left)) later.1, later.2))
          (or_cases (list_any (is_spawn_of d) (at s.0).made) (list_any (is_spawn_of d) (at s.0).left) either)
      go Within e rest = ⊎_elim
          (λ can. (d, Here d, can))
          (λ w.
          let later = down domains w.section d (omega arith) w.within lt w.made w.unended in
          (later.0, By d w.section later.0 w.waits later.1, later.2))
          (step_within d lt e)
      go Behind e rest = absurd (unended e)

pub some_goes_on : SomeGoesOn
some_goes_on domains script at orderly standings d lt unended = up domains script at orderly standings (suc d) d (omega arith) lt unended
