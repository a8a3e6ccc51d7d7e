-- Each turn of a section leads from one place to the next, and behind the last its steps are those of the section.
use Rattle.std.proofs.Common.{◌≡◌, ◌≢◌, ℕ, Bool, true, false, cond, IsTrue, pos, List, [], ◌∷◌, ◌++◌, Option, None, Some, refl, ap, sym, ◌∙◌, subst, append_assoc, append-nil}
use Rattle.model_core.specs.declared.command.Command.{Command}
use Rattle.model_core.specs.declared.command.Command.TheVariants.{Load, Join}
use Rattle.model_traces.specs.Spawns.Hidden.{hidden, result_of}
use Rattle.model_traces.specs.Spawns.Expansion.{Step, is_int, flag_load, IsStart, IsJoin, Make, finish_commands, IsExpansion, AreExpansions, IsSection}
use Rattle.model_traces.specs.Spawns.Progress.{Before, Within, Behind, AreVain, IsBegunCommand, IsWithin, IsSoFar}
use Rattle.model_traces.proofs.OfSpawns.Growing.{expansions_push}

vain_push : (section : ℕ) (ends : Bool) (xs : List Step) (x : Step) → AreVain section ends xs → x.command ≡ flag_load section → is_int (cond ends (pos 2) (pos 1)) x.answer ≡ false → AreVain section ends (xs ++ x ∷ [])
vain_push section ends [] x vain is other = ((is, other), tt)
vain_push section ends (y ∷ xs) x vain is other = (vain.0, vain_push section ends xs x vain.1 is other)

-- three lists, of which the last grows
grown : (a b c d : List Step) → (a ++ (b ++ c)) ++ d ≡ a ++ (b ++ (c ++ d))
grown a b c d = append_assoc a (b ++ c) d ∙ ap (λ (t : List Step). a ++ t) (append_assoc b c d)

module _ (d : ℕ) where
  none_begun : (o : Option Command) → IsBegunCommand o []
  none_begun (Some (Join dst section)) = tt
  none_begun o = refl

  -- before the first turn
  pub opens : (spawned : Bool) (next : Option Command) → IsSoFar d spawned (cond spawned Before Within) [] next []
  opens true next = (refl, refl, tt)
  opens false next = record { start = []; middle = []; begun = []; are = refl; starts = refl; makes = refl; waits = none_begun next }

  -- the start isn't seen yet, or it is
  pub holds_start : (spawned : Bool) (cs : List Command) (next : Option Command) (xs : List Step) (x : Step) → IsSoFar d spawned Before cs next xs → x.command ≡ flag_load d → is_int (pos 1) x.answer ≡ false → IsSoFar d spawned Before cs next (xs ++ x ∷ [])
  holds_start spawned cs next xs x so is other = (so.0, so.1, vain_push d false xs x so.2 is other)

  pub sees_start : (spawned : Bool) (cs : List Command) (next : Option Command) (xs : List Step) (x : Step) → IsSoFar d spawned Before cs next xs → x.command ≡ flag_load d → IsTrue (is_int (pos 1) x.answer) → IsSoFar d spawned Within cs next (xs ++ x ∷ [])
  sees_start spawned cs next xs x so is one =
      let start : IsStart d (xs ++ x ∷ []) = record { early = xs; last = x; are = refl; early_loads = so.2; last_load = is; last_answer = one } in
      record {
        start = xs ++ x ∷ [];
        middle = [];
        begun = [];
        are = sym (append-nil (xs ++ x ∷ []));
        starts = subst (λ (b : Bool). cond b (IsStart d (xs ++ x ∷ [])) (xs ++ x ∷ [] ≡ [])) (sym so.0) start;
        makes = subst (λ (ds : List Command). AreExpansions d ds []) (sym so.1) refl;
        waits = none_begun next;
      }

  -- a join isn't done yet, or it is
  pub holds_join : (spawned : Bool) (cs : List Command) (dst section : ℕ) (xs : List Step) (x : Step) → IsSoFar d spawned Within cs (Some (Join dst section)) xs → x.command ≡ flag_load section → is_int (pos 2) x.answer ≡ false
      → IsSoFar d spawned Within cs (Some (Join dst section)) (xs ++ x ∷ [])
  holds_join spawned cs dst section xs x so is other = record {
    start = so.start;
    middle = so.middle;
    begun = so.begun ++ x ∷ [];
    are = ap (λ (t : List Step). t ++ x ∷ []) so.are ∙ grown so.start so.middle so.begun (x ∷ []);
    starts = so.starts;
    makes = so.makes;
    waits = vain_push section true so.begun x so.waits is other;
  }

  -- the steps of the next command are made
  made : (spawned : Bool) (cs : List Command) (c : Command) (next after : Option Command) (xs ys : List Step) → (so : IsWithin d spawned cs next xs) → IsExpansion d c (so.begun ++ ys) → IsSoFar d spawned Within (cs ++ c ∷ []) after (xs ++ ys)
  made spawned cs c next after xs ys so is = record {
    start = so.start;
    middle = so.middle ++ (so.begun ++ ys);
    begun = [];
    are = ap (λ (t : List Step). t ++ ys) so.are ∙ grown so.start so.middle so.begun ys ∙ ap (λ (t : List Step). so.start ++ t) (sym (append-nil (so.middle ++ (so.begun ++ ys))));
    starts = so.starts;
    makes = expansions_push d cs so.middle c (so.begun ++ ys) so.makes is;
    waits = none_begun after;
  }

  pub makes_join : (spawned : Bool) (cs : List Command) (dst section : ℕ) (after : Option Command) (xs : List Step) (x y : Step) → IsSoFar d spawned Within cs (Some (Join dst section)) xs
      → x.command ≡ flag_load section → IsTrue (is_int (pos 2) x.answer) → y.command ≡ Load dst hidden (result_of section) → IsSoFar d spawned Within (cs ++ Join dst section ∷ []) after (xs ++ (x ∷ y ∷ []))
  makes_join spawned cs dst section after xs x y so is two takes =
      let join : IsJoin dst section (so.begun ++ (x ∷ y ∷ [])) = record {
        waits = so.begun ++ x ∷ [];
        last = y;
        are = sym (append_assoc so.begun (x ∷ []) (y ∷ []));
        waited = record { early = so.begun; last = x; are = refl; early_loads = so.waits; last_load = is; last_answer = two };
        loads = takes;
      } in
      made spawned cs (Join dst section) (Some (Join dst section)) after xs (x ∷ y ∷ []) so join

  -- of another command nothing was made before
  pub makes_other : (spawned : Bool) (cs : List Command) (c : Command) (after : Option Command) (xs ys : List Step) → ((dst section : ℕ) → c ≢ Join dst section) → IsSoFar d spawned Within cs (Some c) xs → IsExpansion d c ys
      → IsSoFar d spawned Within (cs ++ c ∷ []) after (xs ++ ys)
  makes_other spawned cs c after xs ys other so is =
      made spawned cs c (Some c) after xs ys so (subst (λ (t : List Step). IsExpansion d c (t ++ ys)) (sym (nothing c other so.begun so.waits)) is)
    where
      nothing : (x : Command) → ((dst section : ℕ) → x ≢ Join dst section) → (t : List Step) → IsBegunCommand (Some x) t → t ≡ []
      nothing (Join dst section) other t begun = absurd (other dst section refl)
      nothing x other t begun = begun

  -- the end is told
  pub tells_end : (cs : List Command) (xs ys : List Step) → IsSoFar d true Within cs None xs → Make (finish_commands d) ys → IsSoFar d true Behind cs None (xs ++ ys)
  tells_end cs xs ys so make = (
    refl,
    refl,
    record {
      start = so.start;
      middle = so.middle;
      finish = ys;
      are = ap (λ (t : List Step). t ++ ys) (so.are ∙ ap (λ (t : List Step). so.start ++ (so.middle ++ t)) so.waits ∙ ap (λ (t : List Step). so.start ++ t) (append-nil so.middle)) ∙ append_assoc so.start so.middle ys;
      starts = so.starts;
      makes = so.makes;
      finishes = make;
    },
  )

  -- what a domain has made that has ended
  pub whole_spawned : (cs : List Command) (next : Option Command) (xs : List Step) → IsSoFar d true Behind cs next xs → IsSection d true cs xs
  whole_spawned cs next xs so = so.2

  pub whole_first : (cs : List Command) (xs : List Step) → IsSoFar d false Within cs None xs → IsSection d false cs xs
  whole_first cs xs so = record {
    start = so.start;
    middle = so.middle;
    finish = [];
    are = so.are ∙ ap (λ (t : List Step). so.start ++ (so.middle ++ t)) so.waits;
    starts = so.starts;
    makes = so.makes;
    finishes = refl;
  }
