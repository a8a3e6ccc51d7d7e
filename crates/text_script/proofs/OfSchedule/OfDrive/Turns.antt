-- A turn, from what its calls tell.
use Rattle.std.proofs.Common.{◌≡◌, ◌≢◌, ℕ, ◌<◌, ◌≤◌, Bool, true, false, List, [], ◌∷◌, ◌++◌, map, length, get_or, set, slice_get, Some, refl, sym, ap, ◌∙◌, subst, inr, ⊎_elim, append-nil, ◌+◌, arith}
use Rattle.std.proofs.lemmas.Bool.{cases_eq, false≢true}
use Rattle.std.proofs.lemmas.List.{get_or-set_other, get_or-set_same, get_or_past, length-map, length-set, map-set}
use Rattle.std.proofs.lemmas.Option.{slice_get-get_or, slice_get_cases, slice_get_within}
use Rattle.model_core.specs.declared.command.Command.{Command as CommandType}
use Rattle.model_core.specs.declared.command.Command.TheVariants.{Argument, FullMajor, Join, PutResult, Spawn}
use Rattle.model_core.specs.declared.entry.Entry.{Entry}
use Rattle.model_core.specs.declared.entry.Entry.TheVariants.{Command as CommandOf, End, Ran as RanOf}
use Rattle.model_core.specs.declared.state.Pending.{Pending}
use Rattle.model_core.specs.declared.state.Sizes.{Sizes}
use Rattle.model_core.specs.declared.state.State.{State}
use Rattle.model_core.specs.Commands.{CommandAllowed}
use Rattle.model_core.specs.Domains.{domain_at, opening}
use Rattle.model_core.specs.Entries.{EndAllowed, RanAllowed}
use Rattle.model_core.specs.History.{Legal, state_after}
use Rattle.model_traces.specs.Schedules.Sameness.{IsCollection}
use Rattle.model_traces.specs.Schedules.Scheduled.{Played, complete, left_of, take_turn, turn_on, with_entries}
use Rattle.model_traces.proofs.OfSchedules.Collecting.{legal_parts}
use Rattle.model_traces.proofs.OfSchedules.Moving.{same_domain}
use Rattle.text_script.specs.Schedule.Drive.Together.{AllHave, AllRuns, AsksComplete, Grows, Has, IsShared, MakesEnd, MakesNext, OneRun, Rests, SharesOn, Turned}
use Rattle.text_script.specs.declared.schedule.drive.together.Stepped.TheVariants.{Ran, Made, Needs}
use Rattle.text_script.specs.Schedule.Drive.Pausing.{Answered, AsksAlone, NotYet, Paused, RestedAt, Walked, askeds, endeds, lefts}
use Rattle.text_script.specs.Schedule.Drive.Following.{Advances, Agrees, AllFollow, AllMidst, Follows, IsCalm, IsCalmBut, Waits, turn_rest}
use Rattle.text_script.specs.Schedule.Drive.Ending.{Nears, rank_at, turns_at, waiting_at}
use Rattle.text_script.proofs.OfSchedule.OfDrive.Listing.{filled_here, kept_at, read_at}
use Rattle.text_script.proofs.OfSchedule.OfDrive.Passing.{no_run, set_false, some_is}
use Rattle.text_script.proofs.OfSchedule.OfDrive.Ending.{answered_elsewhere, answered_falls, asks_few, rank_asks, rank_by, rank_falls, rank_stays, waiting_now, waiting_read, turns_by, turns_elsewhere, turns_end, turns_next, turns_stay}
use Rattle.text_script.proofs.OfSchedule.OfDrive.Agreeing.{agrees_collection, agrees_step, grown_none, grown_step, next_command, next_end, next_full, rest_next, rest_ran, short_step}

-- the queue of a domain is the same in both
queue_same : (z : Sizes) (p : Played) (h : List Entry) (d : ℕ) → Agrees z p h → (domain_at p.state d).queue ≡ (domain_at (state_after (opening z) h) d).queue
queue_same z p h d a = (same_domain (state_after (opening z) h) p.state a.same d).queue

-- the commands that are left of a run
left_at : (v : AllRuns) (q : Played) (d : ℕ) (x : OneRun) → slice_get v.runs d ≡ Some x → lefts v ≡ q.left → left_of q d ≡ x.left
left_at v q d x was left = ap (λ (cs : List (List CommandType)). get_or cs d []) (sym left) ∙ read_at (λ (r : OneRun). r.left) v.runs d x [] was

module _ (shares_old shares_new : List Entry → Type 0) (v w : AllRuns) (p : Played) (d : ℕ) (x y : OneRun) (was : slice_get v.runs d ≡ Some x) (view : w ≡ record v { runs = set v.runs d y })
    (shared : (g : List Entry) → shares_new g → IsShared w g) (midst : AllMidst v shares_old p d) where
  sizes_same : w.sizes ≡ v.sizes
  sizes_same = ap (λ (r : AllRuns). r.sizes) view

  lefts_set : lefts w ≡ set (lefts v) d y.left
  lefts_set = ap lefts view ∙ map-set (λ (r : OneRun). r.left) v.runs d y

  lefts_same : y.left ≡ x.left → lefts w ≡ lefts v
  lefts_same same = ap lefts view ∙ kept_at (λ (r : OneRun). r.left) v.runs d x y was same

  legal_of : (g : List Entry) → shares_new g → Legal v.sizes g
  legal_of g new = subst (λ z. Legal z g) sizes_same (shared g new).legal

  follows_in : (q : Played) (g : List Entry) → Agrees v.sizes q g → lefts w ≡ q.left → Follows w q g
  follows_in q g a left = record { agrees = subst (λ z. Agrees z q g) (sym sizes_same) a; left = left }

  -- it ran a finaliser
  pub turn_ran : SharesOn shares_old shares_new (RanOf d ∷ []) → y.left ≡ x.left → AllMidst w shares_new p d
  turn_ran on same g new =
      let from = on g new in
      let h : List Entry = from.0 in
      let m = midst h from.1 in
      let a = m.follows.agrees in
      let is : g ≡ h ++ RanOf d ∷ [] = grown_step v.sizes h g (RanOf d) (legal_of g new) a.mode refl from.2 in
      let legal : Legal v.sizes (h ++ RanOf d ∷ []) = subst (λ k. Legal v.sizes k) is (legal_of g new) in
      let allowed : RanAllowed (state_after (opening v.sizes) h) d = (legal_parts (opening v.sizes) h (RanOf d ∷ []) legal).1.0 in
      let q : Played = with_entries m.here (RanOf d ∷ []) in
      record {
        here = q;
        follows = follows_in q g (subst (λ k. Agrees v.sizes q k) (sym is) (agrees_step v.sizes m.here h (RanOf d) a legal refl)) (lefts_same same ∙ m.follows.left);
        rest = queue_rest m.here (domain_at m.here.state d).queue refl (λ none. allowed.queue (sym (queue_same v.sizes m.here h d a) ∙ none)) ∙ m.rest;
      }
    where
      queue_rest : (q : Played) (ws : List Pending) → (domain_at q.state d).queue ≡ ws → (ws ≡ [] → ⊥) → turn_rest (with_entries q (RanOf d ∷ [])) d ≡ turn_rest q d
      queue_rest q [] queue some = absurd (some refl)
      queue_rest q (w ∷ rest) queue some = rest_ran q d w rest queue

  -- it asked for a pause
  pub turn_asks : SharesOn shares_old shares_new [] → y.left ≡ x.left → AllMidst w shares_new p d
  turn_asks on same g new =
      let from = on g new in
      let m = midst from.0 from.1 in
      let is : g ≡ from.0 = grown_none v.sizes from.0 g (legal_of g new) m.follows.agrees.mode from.2 in
      record {
        here = m.here;
        follows = follows_in m.here g (subst (λ k. Agrees v.sizes m.here k) (sym is) m.follows.agrees) (lefts_same same ∙ m.follows.left);
        rest = m.rest;
      }

  -- it made the next command
  pub turn_next : (own : List Entry) → SharesOn shares_old shares_new own → MakesNext d x y own → AllFollow w shares_new (take_turn p d)
  turn_next own on made g new =
      let c : CommandType = made.command in
      let e : Entry = CommandOf d c false in
      let from = on g new in
      let h : List Entry = from.0 in
      let m = midst h from.1 in
      let a = m.follows.agrees in
      let step = short_step d c made.short in
      let is : g ≡ h ++ e ∷ [] = grown_step v.sizes h g e (legal_of g new) a.mode step (subst (λ k. Grows h k g) made.made from.2) in
      let legal : Legal v.sizes (h ++ e ∷ []) = subst (λ k. Legal v.sizes k) is (legal_of g new) in
      let allowed : CommandAllowed (state_after (opening v.sizes) h) d c false = (legal_parts (opening v.sizes) h (e ∷ []) legal).1.0 in
      let none : (domain_at m.here.state d).queue ≡ [] = queue_same v.sizes m.here h d a ∙ no_queue (state_after (opening v.sizes) h) c made.short allowed in
      let q : Played = record (with_entries m.here (e ∷ [])) { left = set m.here.left d made.others } in
      let turn : q ≡ take_turn p d =
      sym (rest_next m.here d none ∙ next_command m.here d c made.others (left_at v m.here d x was m.follows.left ∙ made.next) made.short) ∙ m.rest in
      let before : Agrees v.sizes (with_entries m.here (e ∷ [])) (h ++ e ∷ []) = agrees_step v.sizes m.here h e a legal step in
      let after : Agrees v.sizes q g = subst (λ k. Agrees v.sizes q k) (sym is) (record { legal = before.legal; mode = before.mode; same = before.same; replies = before.replies; state = before.state }) in
      subst (λ r. Follows w r g) turn
      (follows_in q g after (lefts_set ∙ ap (λ cs. set cs d y.left) m.follows.left ∙ ap (λ (cs : List CommandType). set m.here.left d cs) (ap (λ (r : OneRun). r.left) made.run)))
    where
      no_queue : (s : State) (c : CommandType) → c ≢ FullMajor → CommandAllowed s d c false → (domain_at s d).queue ≡ []
      no_queue s FullMajor short allowed = absurd (short refl)
      no_queue s (Spawn section item) short allowed = absurd allowed.fits
      no_queue s (Argument dst) short allowed = absurd allowed.fits
      no_queue s (PutResult item) short allowed = absurd allowed.fits
      no_queue s (Join dst section) short allowed = absurd allowed.fits
      no_queue s c short allowed = allowed.fits.1

  -- it made the end
  pub turn_end : (own : List Entry) → SharesOn shares_old shares_new own → MakesEnd d x y own → AllFollow w shares_new (take_turn p d)
  turn_end own on made g new =
      let e : Entry = End d in
      let from = on g new in
      let h : List Entry = from.0 in
      let m = midst h from.1 in
      let a = m.follows.agrees in
      let is : g ≡ h ++ e ∷ [] = grown_step v.sizes h g e (legal_of g new) a.mode refl (subst (λ k. Grows h k g) made.made from.2) in
      let legal : Legal v.sizes (h ++ e ∷ []) = subst (λ k. Legal v.sizes k) is (legal_of g new) in
      let allowed : EndAllowed (state_after (opening v.sizes) h) d = (legal_parts (opening v.sizes) h (e ∷ []) legal).1.0 in
      let none : (domain_at m.here.state d).queue ≡ [] = queue_same v.sizes m.here h d a ∙ allowed.queue in
      let q : Played = with_entries m.here (e ∷ []) in
      let turn : q ≡ take_turn p d = sym (rest_next m.here d none ∙ next_end m.here d (left_at v m.here d x was m.follows.left ∙ made.none)) ∙ m.rest in
      subst (λ r. Follows w r g) turn
      (follows_in q g (subst (λ k. Agrees v.sizes q k) (sym is) (agrees_step v.sizes m.here h e a legal refl)) (lefts_same (ap (λ (r : OneRun). r.left) made.run) ∙ m.follows.left))

-- what each run has, by its place in a list
pub all_true : (kind : OneRun → Bool) (b : Bool) (v : AllRuns) → AllHave kind b v → (e : ℕ) → get_or (map kind v.runs) e b ≡ b
all_true kind b v all e =
    ⊎_elim
    (λ inside. read_at kind v.runs e inside.0 b inside.2 ∙ all e inside.0 inside.2)
    (λ past. get_or_past (map kind v.runs) e b (subst (λ n. n ≤ e) (sym (length-map v.runs kind)) past.0))
    (slice_get_cases v.runs e).1

pub true_all : (kind : OneRun → Bool) (b : Bool) (v : AllRuns) → ((e : ℕ) → get_or (map kind v.runs) e b ≡ b) → AllHave kind b v
true_all kind b v all e x was = sym (read_at kind v.runs e x b was) ∙ all e

-- and of one alone
pub has_at : (kind : OneRun → Bool) (b : Bool) (v : AllRuns) (e : ℕ) → Has kind b v e → get_or (map kind v.runs) e b ≡ b
has_at kind b v e has =
    ⊎_elim
    (λ inside. read_at kind v.runs e inside.0 b inside.2 ∙ has inside.0 inside.2)
    (λ past. get_or_past (map kind v.runs) e b (subst (λ n. n ≤ e) (sym (length-map v.runs kind)) past.0))
    (slice_get_cases v.runs e).1

pub at_has : (kind : OneRun → Bool) (b : Bool) (v : AllRuns) (e : ℕ) → get_or (map kind v.runs) e b ≡ b → Has kind b v e
at_has kind b v e is x was = sym (read_at kind v.runs e x b was) ∙ is

-- where one list of them is as another, or all asked for is taken back
module _ (v w : AllRuns) where
  pub all_same : (kind : OneRun → Bool) (b : Bool) → map kind w.runs ≡ map kind v.runs → AllHave kind b v → AllHave kind b w
  all_same kind b same all = true_all kind b w (λ e. ap (λ (bs : List Bool). get_or bs e b) same ∙ all_true kind b v all e)

  pub has_same : (kind : OneRun → Bool) (b : Bool) (e : ℕ) → map kind w.runs ≡ map kind v.runs → Has kind b v e → Has kind b w e
  has_same kind b e same has = at_has kind b w e (ap (λ (bs : List Bool). get_or bs e b) same ∙ has_at kind b v e has)

  pub alone_same : (d : ℕ) → askeds w ≡ askeds v → AsksAlone v d → AsksAlone w d
  alone_same d same alone e other = ap (λ (bs : List Bool). get_or bs e false) same ∙ alone e other

  pub none_asked : (d : ℕ) → askeds w ≡ set (askeds v) d false → AsksAlone v d → (e : ℕ) → get_or (askeds w) e false ≡ false
  none_asked d taken alone e =
      ap (λ (bs : List Bool). get_or bs e false) taken
      ∙ ⊎_elim (λ same. ap (λ n. get_or (set (askeds v) d false) n false) same ∙ set_false (askeds v) d) (λ other. get_or-set_other (askeds v) d e false false other ∙ alone e other) (cases_eq e d)

  pub alone_set : (d : ℕ) (b : Bool) → askeds w ≡ set (askeds v) d b → AsksAlone v d → AsksAlone w d
  alone_set d b is alone e other = ap (λ (bs : List Bool). get_or bs e false) is ∙ get_or-set_other (askeds v) d e b false other ∙ alone e other

-- what a turn of run d keeps of all
module _ (shares_old shares_new : List Entry → Type 0) (v w : AllRuns) (d : ℕ) (x y : OneRun) (was : slice_get v.runs d ≡ Some x) (view : w ≡ record v { runs = set v.runs d y }) (calm : IsCalmBut v d) (going : Has (λ (r : OneRun). r.ended) false v d)
    (shared : (g : List Entry) → shares_new g → IsShared w g) where
  kept : {A : Type 0} (kind : OneRun → A) → kind y ≡ kind x → map kind w.runs ≡ map kind v.runs
  kept kind same = ap (λ (r : AllRuns). map kind r.runs) view ∙ kept_at kind v.runs d x y was same

  asked_set : askeds w ≡ set (askeds v) d y.asked
  asked_set = ap askeds view ∙ map-set (λ (r : OneRun). r.asked) v.runs d y

  count_same : length w.runs ≡ length v.runs
  count_same = ap (λ (r : AllRuns). length r.runs) view ∙ length-set v.runs d y

  still_calm : y.runs ≡ x.runs → IsCalmBut w d
  still_calm same = record { run = all_same v w (λ (r : OneRun). r.runs) true (kept (λ (r : OneRun). r.runs) same) calm.run; alone = alone_set v w d y.asked asked_set calm.alone }

  still_going : y.ended ≡ x.ended → Has (λ (r : OneRun). r.ended) false w d
  still_going same = has_same v w (λ (r : OneRun). r.ended) false d (kept (λ (r : OneRun). r.ended) same) going

  now_calm : y.runs ≡ x.runs → y.asked ≡ false → IsCalm w
  now_calm runs asked = record { run = (still_calm runs).run; none = none_asked v w d (asked_set ∙ ap (λ b. set (askeds v) d b) asked) calm.alone }

  sizes_of : w.sizes ≡ v.sizes
  sizes_of = ap (λ (r : AllRuns). r.sizes) view

  -- a finaliser ran
  ran_on : SharesOn shares_old shares_new (RanOf d ∷ []) → y ≡ record x { replies = y.replies; waiting = y.waiting } → Advances shares_old shares_new v w d false
  ran_on on run = record {
    sizes = sizes_of;
    count = count_same;
    commands = kept (λ (r : OneRun). r.commands) (ap (λ (r : OneRun). r.commands) run);
    calm = still_calm (ap (λ (r : OneRun). r.runs) run);
    over = λ made. absurd (false≢true made);
    goes_on = λ none. still_going (ap (λ (r : OneRun). r.ended) run);
    waits = λ none. let is : turns_at w d ≡ turns_at v d = turns_stay v w d x y was view (ap (λ (r : OneRun). r.ended) run) (ap (λ (r : OneRun). r.left) run) in omega (arith, is);
    rank = λ none. let is = rank_stays v w d x y was view (ap (λ (r : OneRun). r.ended) run) (ap (λ (r : OneRun). r.left) run) (ap (λ (r : OneRun). r.asked) run) in omega (arith, is);
    falls = λ made. absurd (false≢true made);
    others = turns_elsewhere v w d x y was view;
    stays = λ p midst none. turn_ran shares_old shares_new v w p d x y was view shared midst on (ap (λ (r : OneRun). r.left) run);
    turns = λ p midst made. absurd (false≢true made);
  }

  -- a pause was asked for
  asked_on : SharesOn shares_old shares_new [] → y ≡ record x { asked = true; paused = false; waiting = y.waiting } → Advances shares_old shares_new v w d false
  asked_on on run = record {
    sizes = sizes_of;
    count = count_same;
    commands = kept (λ (r : OneRun). r.commands) (ap (λ (r : OneRun). r.commands) run);
    calm = still_calm (ap (λ (r : OneRun). r.runs) run);
    over = λ made. absurd (false≢true made);
    goes_on = λ none. still_going (ap (λ (r : OneRun). r.ended) run);
    waits = λ none. let is : turns_at w d ≡ turns_at v d = turns_stay v w d x y was view (ap (λ (r : OneRun). r.ended) run) (ap (λ (r : OneRun). r.left) run) in omega (arith, is);
    rank = λ none. rank_asks v w d x y was view (ap (λ (r : OneRun). r.ended) run) (ap (λ (r : OneRun). r.left) run) (ap (λ (r : OneRun). r.asked) run);
    falls = λ made. absurd (false≢true made);
    others = turns_elsewhere v w d x y was view;
    stays = λ p midst none. turn_asks shares_old shares_new v w p d x y was view shared midst on (ap (λ (r : OneRun). r.left) run);
    turns = λ p midst made. absurd (false≢true made);
  }

  -- the next command was made
  next_on : (own : List Entry) → SharesOn shares_old shares_new own → MakesNext d x y own → Advances shares_old shares_new v w d true
  next_on own on made = record {
    sizes = sizes_of;
    count = count_same;
    commands = kept (λ (r : OneRun). r.commands) (ap (λ (r : OneRun). r.commands) made.run);
    calm = still_calm (ap (λ (r : OneRun). r.runs) made.run);
    over = λ yes. now_calm (ap (λ (r : OneRun). r.runs) made.run) (ap (λ (r : OneRun). r.asked) made.run);
    goes_on = λ none. absurd (false≢true (sym none));
    waits = λ none. absurd (false≢true (sym none));
    rank = λ none. absurd (false≢true (sym none));
    falls = λ yes. let is : turns_at v d ≡ turns_at w d + 1 = turns_next v w d x y was view made.command made.others (going x was) (ap (λ (r : OneRun). r.ended) made.run) made.next (ap (λ (r : OneRun). r.left) made.run) in omega (arith, is);
    others = turns_elsewhere v w d x y was view;
    stays = λ p midst none. absurd (false≢true (sym none));
    turns = λ p midst yes. turn_next shares_old shares_new v w p d x y was view shared midst own on made;
  }

  -- or the end
  end_on : (own : List Entry) → SharesOn shares_old shares_new own → MakesEnd d x y own → Advances shares_old shares_new v w d true
  end_on own on made = record {
    sizes = sizes_of;
    count = count_same;
    commands = kept (λ (r : OneRun). r.commands) (ap (λ (r : OneRun). r.commands) made.run);
    calm = still_calm (ap (λ (r : OneRun). r.runs) made.run);
    over = λ yes. now_calm (ap (λ (r : OneRun). r.runs) made.run) (ap (λ (r : OneRun). r.asked) made.run);
    goes_on = λ none. absurd (false≢true (sym none));
    waits = λ none. absurd (false≢true (sym none));
    rank = λ none. absurd (false≢true (sym none));
    falls = λ yes. let is : turns_at v d ≡ turns_at w d + 1 = turns_end v w d x y was view (going x was) made.none (ap (λ (r : OneRun). r.ended) made.run) in omega (arith, is);
    others = turns_elsewhere v w d x y was view;
    stays = λ p midst none. absurd (false≢true (sym none));
    turns = λ p midst yes. turn_end shares_old shares_new v w p d x y was view shared midst own on made;
  }

  -- before a complete collection
  waits_now : (own : List Entry) → AsksComplete v.sizes shares_new d x y own → Waits w shares_new d
  waits_now own asks = record {
    asked = ap (λ (bs : List Bool). get_or bs d false) asked_set ∙ get_or-set_same (askeds v) d y.asked false (subst (λ n. d < n) (sym (length-map v.runs (λ (r : OneRun). r.asked))) (slice_get_within v.runs d x was)) ∙ ap (λ (r : OneRun). r.asked) asks.run;
    others = asks.others;
    next = ap (λ (cs : List (List CommandType)). get_or cs d []) (ap lefts view ∙ kept_at (λ (r : OneRun). r.left) v.runs d x y was (ap (λ (r : OneRun). r.left) asks.run)) ∙ read_at (λ (r : OneRun). r.left) v.runs d x [] was ∙ asks.next;
    unqueued = λ g new. ap (λ z. (domain_at (state_after (opening z) g) d).queue) sizes_of ∙ asks.unqueued g new;
  }

-- as many runs stay
pub counts : (v w : AllRuns) → endeds w ≡ endeds v → length w.runs ≡ length v.runs
counts v w same = sym (length-map w.runs (λ (r : OneRun). r.ended)) ∙ ap length same ∙ length-map v.runs (λ (r : OneRun). r.ended)

-- a pause is over
module _ (shares_old shares_new : List Entry → Type 0) (v w : AllRuns) (d : ℕ) (inside : d < length v.runs) (going : Has (λ (r : OneRun). r.ended) false v d) (calm : IsCalmBut v d) (over : w.lead ≡ Rests) (run : AllHave (λ (r : OneRun). r.runs) true w) (shared : (g : List Entry) → shares_new g → IsShared w g) where
  -- in which no collection was made
  pub paused_on : Paused false shares_old shares_new v w → Advances shares_old shares_new v w d false
  paused_on p =
      let t = p.told d calm.alone in
      record {
        sizes = p.sizes;
        count = counts v w p.ended;
        commands = p.commands;
        calm = record {
          run = run;
          alone = ⊎_elim (λ (n : NotYet v w t.0). alone_same v w d n.asked calm.alone) (λ (a : Answered d v w t.0). alone_set v w d false a.none calm.alone) t.1;
        };
        over = λ made. absurd (false≢true made);
        goes_on = λ none. has_same v w (λ (r : OneRun). r.ended) false d p.ended going;
        waits = λ none. ⊎_elim
            (λ (n : NotYet v w t.0). let is = turns_by v w d p.ended n.left in omega (arith, is))
            (λ (a : Answered d v w t.0). let is = answered_falls v w d t.0 p.ended a inside going in omega (arith, is)) t.1;
        rank = λ none. ⊎_elim
            (λ (n : NotYet v w t.0). let is = rank_by v w d p.ended n.left n.asked in omega (arith, is))
            (λ (a : Answered d v w t.0).
            let is = answered_falls v w d t.0 p.ended a inside going in
            let one = asks_few (get_or (askeds w) d false) in
            omega (arith, is, one)) t.1;
        falls = λ made. absurd (false≢true made);
        others = λ e other. ⊎_elim (λ (n : NotYet v w t.0). turns_by v w e p.ended n.left) (λ (a : Answered d v w t.0). answered_elsewhere v w d t.0 p.ended a e other) t.1;
        stays = λ q midst none g new.
            let from = t.2 g new in
            let m = midst from.start from.was in
            let walked = subst (λ l. Walked false l from.made t.0) over (from.walked m.follows.agrees.mode) in
            let is : g ≡ from.start = from.is ∙ ap (λ k. from.start ++ k) walked.0 ∙ append-nil from.start in
            let left : lefts w ≡ lefts v = ⊎_elim (λ (n : NotYet v w t.0). n.left) (λ (a : Answered d v w t.0). let clash : [] ≡ CommandOf d FullMajor false ∷ [] = sym walked.1 ∙ a.one in cc) t.1 in
            record {
              here = m.here;
              follows = record { agrees = subst (λ z. Agrees z m.here g) (sym p.sizes) (subst (λ k. Agrees v.sizes m.here k) (sym is) m.follows.agrees); left = left ∙ m.follows.left };
              rest = m.rest;
            };
        turns = λ q midst made. absurd (false≢true made);
      }

  -- in which the `full_major` was answered
  pub answered_on : Waits v shares_old d → Paused true shares_old shares_new v w → Advances shares_old shares_new v w d true
  answered_on waits p =
      let t = p.told d calm.alone in
      let a : Answered d v w t.0 =
      ⊎_elim
      (λ (n : NotYet v w t.0).
      let x : OneRun = get_or w.runs d no_run in
      let was : slice_get w.runs d ≡ Some x = slice_get-get_or w.runs d no_run (subst (λ k. d < k) (sym (counts v w p.ended)) inside) in
      let left : x.left ≡ FullMajor ∷ waits.others = sym (read_at (λ (r : OneRun). r.left) w.runs d x [] was) ∙ ap (λ (cs : List (List CommandType)). get_or cs d []) n.left ∙ waits.next in
      let asked : x.asked ≡ false = p.served refl d x was (run d x was) waits.others left in
      absurd (false≢true (sym asked ∙ sym (read_at (λ (r : OneRun). r.asked) w.runs d x false was) ∙ ap (λ (bs : List Bool). get_or bs d false) n.asked ∙ waits.asked)))
      (λ (a : Answered d v w t.0). a)
      t.1 in
      record {
        sizes = p.sizes;
        count = counts v w p.ended;
        commands = p.commands;
        calm = record { run = run; alone = alone_set v w d false a.none calm.alone };
        over = λ made. record { run = run; none = none_asked v w d a.none calm.alone };
        goes_on = λ none. absurd (false≢true (sym none));
        waits = λ none. absurd (false≢true (sym none));
        rank = λ none. absurd (false≢true (sym none));
        falls = λ made. let is = answered_falls v w d t.0 p.ended a inside going in omega (arith, is);
        others = answered_elsewhere v w d t.0 p.ended a;
        stays = λ q midst none. absurd (false≢true (sym none));
        turns = λ q midst made g new.
            let from = t.2 g new in
            let m = midst from.start from.was in
            let agrees = m.follows.agrees in
            let one : List Entry = CommandOf d FullMajor false ∷ [] in
            let walked : IsCollection from.made one = subst (λ k. IsCollection from.made k) a.one (subst (λ l. Walked true l from.made t.0) over (from.walked agrees.mode)) in
            let legal : Legal v.sizes (from.start ++ from.made) = subst (λ k. Legal v.sizes k) from.is (subst (λ z. Legal z g) p.sizes (shared g new).legal) in
            let none : (domain_at m.here.state d).queue ≡ [] = queue_same v.sizes m.here from.start d agrees ∙ waits.unqueued from.start from.was in
            let left : left_of m.here d ≡ FullMajor ∷ a.others = ap (λ (cs : List (List CommandType)). get_or cs d []) (sym m.follows.left) ∙ a.next in
            let made_now : List Entry = complete m.here.state one in
            let then : Played = record (with_entries m.here made_now) { left = set m.here.left d a.others } in
            let turn : then ≡ take_turn q d = sym (rest_next m.here d none ∙ next_full m.here d a.others left) ∙ m.rest in
            let before : Agrees v.sizes (with_entries m.here made_now) (from.start ++ from.made) = agrees_collection v.sizes m.here from.start from.made one agrees legal walked in
            let after : Agrees v.sizes then (from.start ++ from.made) = record { legal = before.legal; mode = before.mode; same = before.same; replies = before.replies; state = before.state } in
            subst (λ r. Follows w r g) turn
            (record { agrees = subst (λ z. Agrees z then g) (sym p.sizes) (subst (λ k. Agrees v.sizes then k) (sym from.is) after); left = a.left ∙ ap (λ (cs : List (List CommandType)). set cs d a.others) m.follows.left });
      }

-- whatever the pause was for
pub pause_advances : (shares_old shares_new : List Entry → Type 0) (v w : AllRuns) (d : ℕ) (inside : d < length v.runs) (going : Has (λ (r : OneRun). r.ended) false v d) (calm : IsCalmBut v d) (over : w.lead ≡ Rests) (run : AllHave (λ (r : OneRun). r.runs) true w)
    (shared : (g : List Entry) → shares_new g → IsShared w g) (complete : Bool) → (complete ≡ true → Waits v shares_old d) → Paused complete shares_old shares_new v w → Advances shares_old shares_new v w d complete
pause_advances shares_old shares_new v w d inside going calm over run shared true waits p = answered_on shares_old shares_new v w d inside going calm over run shared (waits refl) p
pause_advances shares_old shares_new v w d inside going calm over run shared false waits p = paused_on shares_old shares_new v w d inside going calm over run shared p

-- one after another
pub advances_then : (shares_old shares_mid shares_new : List Entry → Type 0) (v u w : AllRuns) (d : ℕ) (made : Bool) → Advances shares_old shares_mid v u d false → Advances shares_mid shares_new u w d made → Advances shares_old shares_new v w d made
advances_then shares_old shares_mid shares_new v u w d made first second = record {
  sizes = second.sizes ∙ first.sizes;
  count = second.count ∙ first.count;
  commands = second.commands ∙ first.commands;
  calm = second.calm;
  over = second.over;
  goes_on = second.goes_on;
  waits = λ none. let a = first.waits refl in let b = second.waits none in omega (arith, a, b);
  rank = λ none. let a = first.rank refl in let b = second.rank none in omega (arith, a, b);
  falls = λ yes. let a = first.waits refl in let b = second.falls yes in omega (arith, a, b);
  others = λ e other. second.others e other ∙ first.others e other;
  stays = λ p midst none. second.stays p (first.stays p midst refl) none;
  turns = λ p midst yes. second.turns p (first.stays p midst refl) yes;
}

-- a turn, by what it came to
module _ (shares_old shares_new : List Entry → Type 0) (v w : AllRuns) (d : ℕ) (calm : IsCalmBut v d) (going : Has (λ (r : OneRun). r.ended) false v d) (shared : (g : List Entry) → shares_new g → IsShared w g) where
  pub turned_ran : Turned shares_old shares_new v w d Ran → Advances shares_old shares_new v w d false
  turned_ran t = ran_on shares_old shares_new v w d t.run t.becomes t.was t.view calm going shared (subst (λ k. SharesOn shares_old shares_new k) t.tells.0 t.on) t.tells.1

  pub turned_made : Turned shares_old shares_new v w d Made → Advances shares_old shares_new v w d true
  turned_made t =
      ⊎_elim (next_on shares_old shares_new v w d t.run t.becomes t.was t.view calm going shared t.own t.on)
      (end_on shares_old shares_new v w d t.run t.becomes t.was t.view calm going shared t.own t.on) t.tells

  pub turned_needs : (complete : Bool) → Turned shares_old shares_new v w d (Needs complete) → Advances shares_old shares_new v w d false
  turned_needs true t = asked_on shares_old shares_new v w d t.run t.becomes t.was t.view calm going shared (subst (λ k. SharesOn shares_old shares_new k) t.tells.made t.on) t.tells.run
  turned_needs false t = asked_on shares_old shares_new v w d t.run t.becomes t.was t.view calm going shared (subst (λ k. SharesOn shares_old shares_new k) t.tells.0 t.on) t.tells.1

  -- where a finaliser ran no pause is left to come that wasn't before
  pub ran_rests : Turned shares_old shares_new v w d Ran → RestedAt v d → RestedAt w d
  ran_rests t rested z at asked =
      let is : t.becomes ≡ z = some_is t.becomes z (sym (filled_here v.runs d t.becomes (slice_get_within v.runs d t.run t.was)) ∙ ap (λ (r : AllRuns). slice_get r.runs d) (sym t.view) ∙ at) in
      let run = t.tells.1 in
      ap (λ (r : OneRun). r.paused) (sym is) ∙ (ap (λ (r : OneRun). r.paused) run ∙ rested t.run t.was (sym (ap (λ (r : OneRun). r.asked) run) ∙ (ap (λ (r : OneRun). r.asked) is ∙ asked)))

  -- it comes nearer to its end
  pub ran_nears : Turned shares_old shares_new v w d Ran → Nears v w d
  ran_nears t =
      let x : OneRun = t.run in
      let y : OneRun = t.becomes in
      let run = t.tells.1 in
      let less : waiting_at w d < waiting_at v d = subst (λ n. n < waiting_at v d) (sym (waiting_now v w d x y t.was t.view)) (subst (λ n. y.waiting < n) (sym (waiting_read v d x t.was)) t.tells.2) in
      inr (rank_stays v w d x y t.was t.view (ap (λ (r : OneRun). r.ended) run) (ap (λ (r : OneRun). r.left) run) (ap (λ (r : OneRun). r.asked) run), less)

  pub asks_nears : (complete : Bool) → Turned shares_old shares_new v w d (Needs complete) → RestedAt v d → complete ≡ false → rank_at w d < rank_at v d
  asks_nears true t rested is = absurd (false≢true (sym is))
  asks_nears false t rested is =
      let run = t.tells.1 in
      rank_falls v w d t.run t.becomes t.was t.view (ap (λ (r : OneRun). r.ended) run) (ap (λ (r : OneRun). r.left) run) (t.tells.2 (rested t.run t.was)) (ap (λ (r : OneRun). r.asked) run)

  pub turned_waits : (complete : Bool) → Turned shares_old shares_new v w d (Needs complete) → complete ≡ true → Waits w shares_new d
  turned_waits true t is = waits_now shares_old shares_new v w d t.run t.becomes t.was t.view calm going shared t.own t.tells
  turned_waits false t is = absurd (false≢true is)

-- whether the trace of a domain has ended, in the scheduled history too
pub ended_is : (v : AllRuns) (p : Played) (d : ℕ) (b : Bool) (h : List Entry) → d < length v.runs → Has (λ (r : OneRun). r.ended) b v d → IsShared v h → Agrees v.sizes p h → (domain_at p.state d).ended ≡ b
ended_is v p d b h few has shared agrees =
    let x : OneRun = get_or v.runs d no_run in
    let was : slice_get v.runs d ≡ Some x = slice_get-get_or v.runs d no_run few in
    (same_domain (state_after (opening v.sizes) h) p.state agrees.same d).ended ∙ sym (shared.ended d x was) ∙ has x was

module _ (shares : List Entry → Type 0) (v : AllRuns) (p : Played) (d : ℕ) (few : d < length v.runs) (shared : (h : List Entry) → shares h → IsShared v h) (follow : AllFollow v shares p) where
  -- a turn of a domain that has ended
  pub no_turn : Has (λ (r : OneRun). r.ended) true v d → AllFollow v shares (take_turn p d)
  no_turn has h here =
      let f = follow h here in
      subst (λ q. Follows v q h) (sym (ap (turn_on p d) (ended_is v p d true h few has (shared h here) f.agrees))) f

  -- the start of a turn of one that hasn't
  pub turn_begins : Has (λ (r : OneRun). r.ended) false v d → AllMidst v shares p d
  turn_begins has h here =
      let f = follow h here in
      record { here = p; follows = f; rest = sym (ap (turn_on p d) (ended_is v p d false h few has (shared h here) f.agrees)) }

-- where none has asked no pause is left to come
pub calm_rests : (v : AllRuns) (d : ℕ) → IsCalm v → RestedAt v d
calm_rests v d calm x at asked = absurd (false≢true (sym (calm.none d) ∙ (read_at (λ (r : OneRun). r.asked) v.runs d x false at ∙ asked)))

-- a calm heap is one in which one domain alone may have asked
pub calm_but : (v : AllRuns) (d : ℕ) → IsCalm v → IsCalmBut v d
calm_but v d calm = record { run = calm.run; alone = λ e other. calm.none e }
