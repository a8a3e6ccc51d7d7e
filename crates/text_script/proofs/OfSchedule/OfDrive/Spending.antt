-- How often the domains may still arrive, as a replay goes on.
use Rattle.std.proofs.Common.{◌≡◌, ⊎_elim, ℕ, suc, ◌+◌, ◌*◌, ◌<◌, ◌≤◌, Bool, true, false, List, [], get_or, set, slice_get, Some, sym, ap, ◌∙◌, subst, arith}
use Rattle.std.proofs.Math.Nat.{mul-le-mul_right}
use Rattle.std.proofs.lemmas.Bool.{false≢true}
use Rattle.std.proofs.lemmas.List.{get_or-set_same, length-map, map-set}
use Rattle.std.proofs.lemmas.Option.{slice_get_within}
use Rattle.model_core.specs.declared.command.Command.{Command}
use Rattle.model_core.specs.declared.entry.Entry.{Entry}
use Rattle.text_script.specs.Schedule.Drive.Pausing.{Answered, AsksAlone, NotYet, Paused, RestedAt, askeds, lefts}
use Rattle.text_script.specs.Schedule.Drive.Spending.{IsShort, SpendsFor, SpentInTurn, asked_at, most_in_pause}
use Rattle.text_script.specs.Schedule.Drive.Together.{AllRuns, OneRun, Turned}
use Rattle.text_script.specs.declared.schedule.drive.together.Stepped.TheVariants.{Ran, Needs}
use Rattle.text_script.proofs.OfSchedule.OfDrive.Listing.{kept_at, read_at}

-- a turn goes on with a step
pub spent_on : (asked asks : Bool) (start old new : ℕ) → SpentInTurn asked start old → SpendsFor asked asks old new → SpentInTurn asks start new
spent_on false asks start old new spent step =
    ⊎_elim
    (λ (s : (asks ≡ false) × (old ≤ new)). let less = s.1 in let now : start ≤ new = omega (arith, spent, less) in subst (λ b. SpentInTurn b start new) (sym s.0) now)
    (λ (s : (false ≡ false) × (asks ≡ true) × (old ≤ new + most_in_pause)).
    let more : old ≤ new + 67108864 = s.2 in
    let now : start ≤ new + 67108864 = omega (arith, spent, more) in
    subst (λ b. SpentInTurn b start new) (sym s.1) now)
    step
spent_on true asks start old new spent step =
    ⊎_elim
    (λ (s : (asks ≡ true) × (old ≤ new)).
    let less = s.1 in
    let was : start ≤ old + 67108864 = spent in
    let now : start ≤ new + 67108864 = omega (arith, was, less) in
    subst (λ b. SpentInTurn b start new) (sym s.0) now)
    (λ (s : (true ≡ false) × (asks ≡ true) × (old ≤ new + most_in_pause)). absurd (false≢true (sym s.0)))
    step

-- so much was spent at most
pub spent_few : (asked : Bool) (start now : ℕ) → SpentInTurn asked start now → start ≤ now + 67108864
spent_few false start now spent = omega (arith, spent)
spent_few true start now spent = spent

-- where domain d has asked for a pause that isn't complete, it has asked for it still once the pause was made
pub asks_still : (shares_old shares_new : List Entry → Type 0) (v w : AllRuns) (d : ℕ) (complete : Bool) → AsksAlone v d → Paused complete shares_old shares_new v w → IsShort v d → asked_at w d ≡ asked_at v d
asks_still shares_old shares_new v w d complete alone p short =
    let t = p.told d alone in
    ⊎_elim
    (λ (n : NotYet v w t.0). ap (λ (bs : List Bool). get_or bs d false) n.asked)
    (λ (a : Answered d v w t.0). absurd (short a.others a.next))
    t.1

-- whether it has asked, as its run becomes another
module _ (v w : AllRuns) (d : ℕ) (x y : OneRun) (was : slice_get v.runs d ≡ Some x) (view : w ≡ record v { runs = set v.runs d y }) where
  asked_before : asked_at v d ≡ x.asked
  asked_before = read_at (λ (r : OneRun). r.asked) v.runs d x false was

  asked_now : asked_at w d ≡ y.asked
  asked_now =
      ap (λ (bs : List Bool). get_or bs d false) (ap askeds view ∙ map-set (λ (r : OneRun). r.asked) v.runs d y)
      ∙ get_or-set_same (askeds v) d y.asked false (subst (λ n. d < n) (sym (length-map v.runs (λ (r : OneRun). r.asked))) (slice_get_within v.runs d x was))

  left_now : y.left ≡ x.left → get_or (lefts w) d [] ≡ x.left
  left_now same =
      ap (λ (cs : List (List Command)). get_or cs d []) (ap lefts view ∙ kept_at (λ (r : OneRun). r.left) v.runs d x y was same)
      ∙ read_at (λ (r : OneRun). r.left) v.runs d x [] was

module _ (shares_old shares_new : List Entry → Type 0) (v w : AllRuns) (d : ℕ) where
  -- a finaliser ran
  pub ran_asked : Turned shares_old shares_new v w d Ran → asked_at w d ≡ asked_at v d
  ran_asked t =
      asked_now v w d t.run t.becomes t.was t.view ∙ ap (λ (r : OneRun). r.asked) t.tells.1 ∙ sym (asked_before v w d t.run t.becomes t.was t.view)

  -- a pause that isn't complete must come
  pub needs_asked : (complete : Bool) → RestedAt v d → Turned shares_old shares_new v w d (Needs complete) → complete ≡ false → (asked_at v d ≡ false) × (asked_at w d ≡ true) × IsShort w d
  needs_asked true rested t is = absurd (false≢true (sym is))
  needs_asked false rested t is = (
    asked_before v w d t.run t.becomes t.was t.view ∙ t.tells.2 (rested t.run t.was),
    asked_now v w d t.run t.becomes t.was t.view ∙ ap (λ (r : OneRun). r.asked) t.tells.1,
    λ others next. t.tells.3 others (sym (left_now v w d t.run t.becomes t.was t.view (ap (λ (r : OneRun). r.left) t.tells.1)) ∙ next),
  )

-- one round more
pub round_more : (rounds count : ℕ) → (rounds + 1) * count ≡ rounds * count + count
round_more rounds count = omega arith

-- rounds that are left need no more than all
pub rounds_few : (done rounds count : ℕ) → done < rounds → done * count + count ≤ rounds * count
rounds_few done rounds count less = let most = mul-le-mul_right count less in let one : suc done * count ≡ done * count + count = omega arith in omega (arith, most, one)
