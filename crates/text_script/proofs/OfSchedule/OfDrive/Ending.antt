-- How many turns the traces have left, as the runs change.
use Rattle.std.proofs.Common.{◌≡◌, ◌≢◌, ℕ, zero, suc, ◌+◌, ◌*◌, ◌<◌, ◌≤◌, Bool, true, false, List, [], ◌∷◌, length, map, max, fold, get_or, set, slice_get, Some, refl, sym, ap, ◌∙◌, subst, ⊎_elim, arith}
use Rattle.std.proofs.Math.Nat.{le-max_left, le-max_right}
use Rattle.std.proofs.lemmas.Bool.{cases_eq}
use Rattle.std.proofs.lemmas.List.{get_or-set_other, get_or-set_same, get_or_past, length-map, map-set}
use Rattle.std.proofs.lemmas.Option.{slice_get-get_or, slice_get_cases, slice_get_within}
use Rattle.model_core.specs.declared.command.Command.{Command}
use Rattle.model_core.specs.declared.command.Command.TheVariants.{FullMajor}
use Rattle.model_core.specs.declared.entry.Entry.{Entry}
use Rattle.model_traces.specs.Schedules.Scheduled.{rounds_of}
use Rattle.text_script.specs.Schedule.Drive.Together.{AllHave, AllRuns, Has, OneRun, Stands}
use Rattle.text_script.specs.Schedule.Drive.Pausing.{Answered, askeds, endeds, lefts}
use Rattle.text_script.specs.Schedule.Drive.Ending.{AllWithin, Nears, NoneMore, TakesOne, asks_of, rank_at, turns_at, turns_of, waiting_at}
use Rattle.text_script.proofs.OfSchedule.OfDrive.Listing.{read_at}
use Rattle.text_script.proofs.OfSchedule.OfDrive.Passing.{no_run}

-- a trace with one command more has one turn more
one_command : (c : Command) (others : List Command) → turns_of false (c ∷ others) ≡ turns_of false others + 1
one_command c others = omega arith

-- where the lists are the same, so are the turns that are left
pub turns_by : (v w : AllRuns) (e : ℕ) → endeds w ≡ endeds v → lefts w ≡ lefts v → turns_at w e ≡ turns_at v e
turns_by v w e ended left =
    ap (λ (bs : List Bool). turns_of (get_or bs e true) (get_or (lefts w) e [])) ended
    ∙ ap (λ (cs : List (List Command)). turns_of (get_or (endeds v) e true) (get_or cs e [])) left

-- and whether the next one may ask
pub rank_by : (v w : AllRuns) (e : ℕ) → endeds w ≡ endeds v → lefts w ≡ lefts v → askeds w ≡ askeds v → rank_at w e ≡ rank_at v e
rank_by v w e ended left asked =
    ap (λ n. n * 2 + asks_of (get_or (askeds w) e false)) (turns_by v w e ended left)
    ∙ ap (λ (bs : List Bool). turns_at v e * 2 + asks_of (get_or bs e false)) asked

pub asks_few : (b : Bool) → asks_of b ≤ 1
asks_few true = omega arith
asks_few false = omega arith

-- of one run
pub waiting_read : (v : AllRuns) (d : ℕ) (x : OneRun) → slice_get v.runs d ≡ Some x → waiting_at v d ≡ x.waiting
waiting_read v d x was = read_at (λ (r : OneRun). r.waiting) v.runs d x 0 was

pub turns_read : (v : AllRuns) (d : ℕ) (x : OneRun) → slice_get v.runs d ≡ Some x → turns_at v d ≡ turns_of x.ended x.left
turns_read v d x was =
    ap (λ b. turns_of b (get_or (lefts v) d [])) (read_at (λ (r : OneRun). r.ended) v.runs d x true was)
    ∙ ap (λ cs. turns_of x.ended cs) (read_at (λ (r : OneRun). r.left) v.runs d x [] was)

-- where the run of domain d becomes another
module _ (v w : AllRuns) (d : ℕ) (x y : OneRun) (was : slice_get v.runs d ≡ Some x) (view : w ≡ record v { runs = set v.runs d y }) where
  endeds_set : endeds w ≡ set (endeds v) d y.ended
  endeds_set = ap endeds view ∙ map-set (λ (r : OneRun). r.ended) v.runs d y

  lefts_set : lefts w ≡ set (lefts v) d y.left
  lefts_set = ap lefts view ∙ map-set (λ (r : OneRun). r.left) v.runs d y

  turns_now : turns_at w d ≡ turns_of y.ended y.left
  turns_now =
      let inside : d < length v.runs = slice_get_within v.runs d x was in
      ap (λ (bs : List Bool). turns_of (get_or bs d true) (get_or (lefts w) d [])) endeds_set
      ∙ ap (λ b. turns_of b (get_or (lefts w) d [])) (get_or-set_same (endeds v) d y.ended true (subst (λ n. d < n) (sym (length-map v.runs (λ (r : OneRun). r.ended))) inside))
      ∙ ap (λ (cs : List (List Command)). turns_of y.ended (get_or cs d [])) lefts_set
      ∙ ap (λ cs. turns_of y.ended cs) (get_or-set_same (lefts v) d y.left [] (subst (λ n. d < n) (sym (length-map v.runs (λ (r : OneRun). r.left))) inside))

  -- the others have as many left
  pub turns_elsewhere : (e : ℕ) → e ≢ d → turns_at w e ≡ turns_at v e
  turns_elsewhere e other =
      ap (λ (bs : List Bool). turns_of (get_or bs e true) (get_or (lefts w) e [])) endeds_set
      ∙ ap (λ b. turns_of b (get_or (lefts w) e [])) (get_or-set_other (endeds v) d e y.ended true other)
      ∙ ap (λ (cs : List (List Command)). turns_of (get_or (endeds v) e true) (get_or cs e [])) lefts_set
      ∙ ap (λ cs. turns_of (get_or (endeds v) e true) cs) (get_or-set_other (lefts v) d e y.left [] other)

  -- it has as many left where it made neither a command nor its end
  pub turns_stay : y.ended ≡ x.ended → y.left ≡ x.left → turns_at w d ≡ turns_at v d
  turns_stay ended left = turns_now ∙ ap (λ b. turns_of b y.left) ended ∙ ap (λ cs. turns_of x.ended cs) left ∙ sym (turns_read v d x was)

  -- one fewer where it made its next command
  pub turns_next : (c : Command) (others : List Command) → x.ended ≡ false → y.ended ≡ x.ended → x.left ≡ c ∷ others → y.left ≡ others → turns_at v d ≡ turns_at w d + 1
  turns_next c others going ended next left =
      turns_read v d x was ∙ ap (λ b. turns_of b x.left) going ∙ ap (λ cs. turns_of false cs) next ∙ one_command c others
      ∙ ap (λ n. n + 1) (sym (turns_now ∙ ap (λ b. turns_of b y.left) (ended ∙ going) ∙ ap (λ cs. turns_of false cs) left))

  -- and none where it made its end
  pub turns_end : x.ended ≡ false → x.left ≡ [] → y.ended ≡ true → turns_at v d ≡ turns_at w d + 1
  turns_end going none ended =
      turns_read v d x was ∙ ap (λ b. turns_of b x.left) going ∙ ap (λ cs. turns_of false cs) none
      ∙ ap (λ n. n + 1) (sym (turns_now ∙ ap (λ b. turns_of b y.left) ended))

  askeds_now : get_or (askeds w) d false ≡ y.asked
  askeds_now =
      ap (λ (bs : List Bool). get_or bs d false) (ap askeds view ∙ map-set (λ (r : OneRun). r.asked) v.runs d y)
      ∙ get_or-set_same (askeds v) d y.asked false (subst (λ n. d < n) (sym (length-map v.runs (λ (r : OneRun). r.asked))) (slice_get_within v.runs d x was))

  askeds_before : get_or (askeds v) d false ≡ x.asked
  askeds_before = read_at (λ (r : OneRun). r.asked) v.runs d x false was

  pub waiting_now : waiting_at w d ≡ y.waiting
  waiting_now =
      ap (λ (ns : List ℕ). get_or ns d 0) (ap (λ (r : AllRuns). map (λ (q : OneRun). q.waiting) r.runs) view ∙ map-set (λ (r : OneRun). r.waiting) v.runs d y)
      ∙ get_or-set_same (map (λ (r : OneRun). r.waiting) v.runs) d y.waiting 0 (subst (λ n. d < n) (sym (length-map v.runs (λ (r : OneRun). r.waiting))) (slice_get_within v.runs d x was))

  -- whether the next one may ask
  rank_now : y.ended ≡ x.ended → y.left ≡ x.left → rank_at w d ≡ turns_at v d * 2 + asks_of y.asked
  rank_now ended left = ap (λ n. n * 2 + asks_of (get_or (askeds w) d false)) (turns_stay ended left) ∙ ap (λ b. turns_at v d * 2 + asks_of b) askeds_now

  rank_before : rank_at v d ≡ turns_at v d * 2 + asks_of x.asked
  rank_before = ap (λ b. turns_at v d * 2 + asks_of b) askeds_before

  pub rank_stays : y.ended ≡ x.ended → y.left ≡ x.left → y.asked ≡ x.asked → rank_at w d ≡ rank_at v d
  rank_stays ended left asked = rank_now ended left ∙ ap (λ b. turns_at v d * 2 + asks_of b) asked ∙ sym rank_before

  -- one that asks
  pub rank_asks : y.ended ≡ x.ended → y.left ≡ x.left → y.asked ≡ true → rank_at w d ≤ rank_at v d
  rank_asks ended left asked = let now : rank_at w d ≡ turns_at v d * 2 + 0 = rank_now ended left ∙ ap (λ b. turns_at v d * 2 + asks_of b) asked in omega (arith, now)

  pub rank_falls : y.ended ≡ x.ended → y.left ≡ x.left → x.asked ≡ false → y.asked ≡ true → rank_at w d < rank_at v d
  rank_falls ended left before asked =
      let now : rank_at w d ≡ turns_at v d * 2 + 0 = rank_now ended left ∙ ap (λ b. turns_at v d * 2 + asks_of b) asked in
      let was : rank_at v d ≡ turns_at v d * 2 + 1 = rank_before ∙ ap (λ b. turns_at v d * 2 + asks_of b) before in
      omega (arith, now, was)

-- a pause in which the `full_major` of domain d was answered
module _ (v w : AllRuns) (d : ℕ) (answered : List Entry) (ended : endeds w ≡ endeds v) (a : Answered d v w answered) where
  pub answered_elsewhere : (e : ℕ) → e ≢ d → turns_at w e ≡ turns_at v e
  answered_elsewhere e other =
      ap (λ (bs : List Bool). turns_of (get_or bs e true) (get_or (lefts w) e [])) ended
      ∙ ap (λ (cs : List (List Command)). turns_of (get_or (endeds v) e true) (get_or cs e [])) a.left
      ∙ ap (λ cs. turns_of (get_or (endeds v) e true) cs) (get_or-set_other (lefts v) d e a.others [] other)

  pub answered_falls : d < length v.runs → Has (λ (r : OneRun). r.ended) false v d → turns_at v d ≡ turns_at w d + 1
  answered_falls inside going =
      let x : OneRun = get_or v.runs d no_run in
      let was : slice_get v.runs d ≡ Some x = slice_get-get_or v.runs d no_run inside in
      let goes : get_or (endeds v) d true ≡ false = read_at (λ (r : OneRun). r.ended) v.runs d x true was ∙ going x was in
      let now : turns_at w d ≡ turns_of false a.others =
      ap (λ (bs : List Bool). turns_of (get_or bs d true) (get_or (lefts w) d [])) ended
      ∙ ap (λ b. turns_of b (get_or (lefts w) d [])) goes
      ∙ ap (λ (cs : List (List Command)). turns_of false (get_or cs d [])) a.left
      ∙ ap (λ cs. turns_of false cs) (get_or-set_same (lefts v) d a.others [] (subst (λ n. d < n) (sym (length-map v.runs (λ (r : OneRun). r.left))) inside)) in
      ap (λ b. turns_of b (get_or (lefts v) d [])) goes ∙ ap (λ cs. turns_of false cs) a.next ∙ one_command FullMajor a.others ∙ ap (λ n. n + 1) (sym now)

-- a trace that has ended has none left
pub ended_none : (v : AllRuns) (d : ℕ) → get_or (endeds v) d true ≡ true → turns_at v d ≡ 0
ended_none v d over = ap (λ b. turns_of b (get_or (lefts v) d [])) over

-- nor has one that isn't there
pub past_none : (v : AllRuns) (d : ℕ) → length v.runs ≤ d → turns_at v d ≡ 0
past_none v d past = ended_none v d (get_or_past (endeds v) d true (subst (λ n. n ≤ d) (sym (length-map v.runs (λ (r : OneRun). r.ended))) past))

-- and one that has none left has ended
none_ended : (b : Bool) (left : List Command) → turns_of b left ≤ 0 → b ≡ true
none_ended true left few = refl
none_ended false left few = absurd (omega (arith, few))

pub all_over : (v : AllRuns) → AllWithin 0 v → AllHave (λ (r : OneRun). r.ended) true v
all_over v within d x was = none_ended x.ended x.left (subst (λ n. n ≤ 0) (turns_read v d x was) (within d))

-- to take one turn leaves none more
pub takes_none_more : (v w : AllRuns) (d : ℕ) → TakesOne v w d → NoneMore v w
takes_none_more v w d takes e =
    ⊎_elim
    (λ (same : e ≡ d). subst (λ k. turns_at w k ≤ turns_at v k) (sym same) (takes.fewer (turns_at v d) (omega arith)))
    (λ other. let is = takes.others e other in omega (arith, is))
    (cases_eq e d)

pub none_more_then : (v u w : AllRuns) → NoneMore v u → NoneMore u w → NoneMore v w
none_more_then v u w first second d = let a = first d in let b = second d in omega (arith, a, b)

-- the longest has no more left than there are rounds
fold_above : (a : ℕ) (ns : List ℕ) → a ≤ fold max a ns
fold_above a [] = omega arith
fold_above a (n ∷ ns) = let one = le-max_left a n in let more = fold_above (max a n) ns in omega (arith, one, more)

longest : (a : ℕ) (cs : List (List Command)) (d : ℕ) → length (get_or cs d []) ≤ fold max a (map length cs)
longest a [] d = omega arith
longest a (c ∷ cs) zero = let one = le-max_right a (length c) in let more = fold_above (max a (length c)) (map length cs) in omega (arith, one, more)
longest a (c ∷ cs) (suc d) = longest (max a (length c)) cs d

turns_few : (b : Bool) (left : List Command) → turns_of b left ≤ length left + 1
turns_few true left = omega arith
turns_few false left = omega arith

pub within_rounds : (v : AllRuns) → AllWithin (rounds_of (lefts v)) v
within_rounds v d =
    let few = turns_few (get_or (endeds v) d true) (get_or (lefts v) d []) in
    let most = longest 0 (lefts v) d in
    omega (arith, few, most)

-- few finalisers wait, so each step that comes nearer makes one number less
pub waiting_few : (v : AllRuns) (d : ℕ) → Stands v → waiting_at v d < 4294967296
waiting_few v d stands =
    ⊎_elim
    (λ inside. subst (λ n. n < 4294967296) (sym (waiting_read v d inside.0 inside.2)) (stands.few d inside.0 inside.2))
    (λ past. let none = get_or_past (map (λ (r : OneRun). r.waiting) v.runs) d 0 (subst (λ n. n ≤ d) (sym (length-map v.runs (λ (r : OneRun). r.waiting))) past.0) in omega (arith, none))
    (slice_get_cases v.runs d).1

pub nearer : (v w : AllRuns) (d : ℕ) → Nears v w d → waiting_at w d < 4294967296 → rank_at w d * 4294967296 + waiting_at w d < rank_at v d * 4294967296 + waiting_at v d
nearer v w d nears few =
    ⊎_elim
    (λ (less : rank_at w d < rank_at v d). omega (arith, less, few))
    (λ same. let is = same.0 in let less = same.1 in omega (arith, is, less))
    nears
