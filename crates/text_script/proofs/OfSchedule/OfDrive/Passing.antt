-- A pause, step by step.
use Rattle.std.proofs.Common.{◌≡◌, ◌⊎◌, ℕ, zero, suc, ◌<◌, Bool, true, false, ◌&&◌, List, length, [], ◌∷◌, ◌++◌, map, get_or, set, slice_get, refl, sym, ap, ◌∙◌, subst, inl, inr, ⊎_elim, append_assoc, append-nil, Option, None, Some, option_map, arith}
use Rattle.std.specs.List.{list_all}
use Rattle.std.proofs.lemmas.Bool.{cases_eq, false≢true}
use Rattle.std.proofs.lemmas.List.{get_or-set_other, map-set}
use Rattle.std.proofs.lemmas.Option.{slice_get-get_or, slice_get-map, slice_get_within}
use Rattle.std.proofs.lemmas.List.Folds.{list_all-append}
use Rattle.std.proofs.lemmas.Simd.{map-map}
use Rattle.model_core.specs.declared.command.Command.{Command}
use Rattle.model_core.specs.declared.command.Command.TheVariants.{FullMajor}
use Rattle.model_core.specs.declared.entry.Entry.{Entry}
use Rattle.model_core.specs.declared.entry.Entry.TheVariants.{Command as CommandOf}
use Rattle.model_core.specs.declared.state.Mode.TheVariants.{Open}
use Rattle.model_core.specs.declared.state.Sizes.{Sizes}
use Rattle.model_core.specs.declared.state.State.{State}
use Rattle.model_core.specs.Domains.{opening}
use Rattle.model_core.specs.History.{Legal, LegalFrom, state_after}
use Rattle.model_traces.proofs.OfSchedules.Collecting.{legal_parts}
use Rattle.text_script.specs.Schedule.Drive.Together.{AllHave, AllRuns, Controls, Grows, IsAnswered, IsServed, IsRested, IsntAnswered, Lead, Leads, OneRun, Passed, Rests, SharesOn, Stands, all_halted, halted, is_quiet}
use Rattle.text_script.specs.Schedule.Drive.Pausing.{Answered, AsksAlone, NotYet, Paused, Walked, WalkedFrom, all_commands, askeds, endeds, lefts}
use Rattle.text_script.proofs.OfSchedule.OfDrive.Listing.{filled_else, filled_here, kept_at, read_at}
use Rattle.text_script.proofs.OfSchedule.OfDrive.Walking.{answer_walks, control_walks, open_none, quiet_walks}

-- a shared history that grew by these parts, as the start of the pause and what was made since
parted : (s m b c o a : List Entry) → s ++ m ++ b ++ (c ++ o) ++ a ≡ s ++ (m ++ b ++ c ++ o ++ a)
parted [] m b c o a = ap (λ k. k ++ a) (sym (append_assoc (m ++ b) c o))
parted (e ∷ s) m b c o a = ap (λ k. e ∷ k) (parted s m b c o a)

-- what the domain answered comes
own_walks : (s : State) (b : Bool) (d : ℕ) (l : Lead) (c answered own : List Entry) → s.mode ≡ Open → LegalFrom s (c ++ own) → (own ≡ []) ⊎ (own ≡ CommandOf d FullMajor false ∷ []) → Walked b l c answered → Walked b l (c ++ own) (answered ++ own)
own_walks s b d l c answered own begun legal is w =
    ⊎_elim
    (λ none. subst (λ k. Walked b l (c ++ k) (answered ++ k)) (sym none) (subst (λ k. Walked b l k (answered ++ [])) (sym (append-nil c)) (subst (λ k. Walked b l c k) (sym (append-nil answered)) w)))
    (λ one. subst (λ k. Walked b l (c ++ k) (answered ++ k)) (sym one) (answer_walks s b d l c answered begun (subst (λ k. LegalFrom s (c ++ k)) one legal) w))
    is

-- a call of domain d grows a history that is in the pause
grown : (z : Sizes) (b : Bool) (d : ℕ) (l m : Lead) (shares : List Entry → Type 0) (answered control own h g : List Entry) → Legal z g → Controls d l m control → (own ≡ []) ⊎ (own ≡ CommandOf d FullMajor false ∷ [])
    → Grows h (control ++ own) g → WalkedFrom z b l shares answered h → WalkedFrom z b m shares (answered ++ own) g
grown z b d l m shares answered control own h g legal step is grows w =
    let made : List Entry = w.made ++ grows.before ++ control ++ own ++ grows.after in
    let at : g ≡ w.start ++ made =
    grows.appends ∙ ap (λ k. k ++ grows.before ++ (control ++ own) ++ grows.after) w.is ∙ parted w.start w.made grows.before control own grows.after in
    let s : State = state_after (opening z) w.start in
    let all : LegalFrom s made = (legal_parts (opening z) w.start made (subst (λ k. Legal z k) at legal)).1 in
    let three : LegalFrom s (w.made ++ grows.before ++ control ++ own) = (legal_parts s (w.made ++ grows.before ++ control ++ own) grows.after all).0 in
    let two : LegalFrom s (w.made ++ grows.before ++ control) = (legal_parts s (w.made ++ grows.before ++ control) own three).0 in
    let one : LegalFrom s (w.made ++ grows.before) = (legal_parts s (w.made ++ grows.before) control two).0 in
    record {
      start = w.start;
      was = w.was;
      made = made;
      is = at;
      walked = λ begun.
          quiet_walks s b m (w.made ++ grows.before ++ control ++ own) (answered ++ own) grows.after begun grows.quiet_after all
          (own_walks s b d m (w.made ++ grows.before ++ control) answered own begun three is
          (control_walks s b d l m (w.made ++ grows.before) answered control begun two step
          (quiet_walks s b l w.made answered grows.before begun grows.quiet_before one (w.walked begun))));
    }

-- nothing was made so far
none_walked : (b : Bool) (c : List Entry) → c ≡ [] → Walked b (Leads b) c []
none_walked true c none = (refl, inl none)
none_walked false c none = (none, refl)

-- where no call comes, a history in which no collection has begun stays as it is
pub nothing_grows : (z : Sizes) (h g : List Entry) → Legal z g → (state_after (opening z) h).mode ≡ Open → (grows : Grows h [] g) → grows.before ++ [] ++ grows.after ≡ []
nothing_grows z h g legal begun grows =
    let more : List Entry = grows.before ++ [] ++ grows.after in
    let at : g ≡ h ++ more = grows.appends ∙ ap (λ k. k ++ grows.after) (append-nil (h ++ grows.before)) ∙ append_assoc h grows.before grows.after ∙ ap (λ k. h ++ (k ++ grows.after)) (sym (append-nil grows.before)) in
    let behind : LegalFrom (state_after (opening z) h) more = (legal_parts (opening z) h more (subst (λ k. Legal z k) at legal)).1 in
    open_none (state_after (opening z) h) more begun
    (list_all-append is_quiet (grows.before ++ []) grows.after ∙ ap (λ k. list_all is_quiet k && list_all is_quiet grows.after) (append-nil grows.before)
    ∙ ap (λ b. b && list_all is_quiet grows.after) grows.quiet_before ∙ grows.quiet_after) behind

-- a run whose domain has arrived doesn't run
halted_rests : (o : Option OneRun) (x : OneRun) → option_map halted o ≡ Some x → x.runs ≡ false
halted_rests None x is = cc
halted_rests (Some y) x is = let same : halted y ≡ x = cc in ap (λ (r : OneRun). r.runs) (sym same)

-- and it has paused, if it had asked
halted_pauses : (o : Option OneRun) (x : OneRun) → option_map halted o ≡ Some x → x.paused ≡ x.asked
halted_pauses None x is = cc
halted_pauses (Some y) x is = let same : halted y ≡ x = cc in subst (λ (r : OneRun). r.paused ≡ r.asked) same refl

-- the pause begins
pub pause_begins : (shares_old shares_new : List Entry → Type 0) (v w : AllRuns) (complete : Bool) → SharesOn shares_old shares_new [] → w ≡ all_halted complete v → ((g : List Entry) → shares_new g → Legal w.sizes g) → Paused complete shares_old shares_new v w
pause_begins shares_old shares_new v w complete on is legal =
    let same : w.sizes ≡ v.sizes = ap (λ (u : AllRuns). u.sizes) is in
    record {
      sizes = same;
      commands = ap all_commands is ∙ map-map (λ (x : OneRun). x.commands) halted v.runs;
      ended = ap endeds is ∙ map-map (λ (x : OneRun). x.ended) halted v.runs;
      complete_is = ap (λ (u : AllRuns). u.complete) is;
      rested = λ d x at asked. halted_pauses (slice_get v.runs d) x (sym (slice_get-map halted v.runs d) ∙ ap (λ (u : AllRuns). slice_get u.runs d) (sym is) ∙ at) ∙ asked;
      served = λ yes d x at back others next.
          absurd (false≢true (sym (halted_rests (slice_get v.runs d) x (sym (slice_get-map halted v.runs d) ∙ ap (λ (u : AllRuns). slice_get u.runs d) (sym is) ∙ at)) ∙ back));
      told = λ d alone. (
        [],
        inl (record { none = refl; left = ap lefts is ∙ map-map (λ (x : OneRun). x.left) halted v.runs; asked = ap askeds is ∙ map-map (λ (x : OneRun). x.asked) halted v.runs }),
        λ g new.
            let from = on g new in
            let made : List Entry = from.2.before ++ [] ++ from.2.after in
            record {
              start = from.0;
              was = from.1;
              made = made;
              is = from.2.appends ∙ ap (λ k. k ++ from.2.after) (append-nil (from.0 ++ from.2.before)) ∙ append_assoc from.0 from.2.before from.2.after ∙ ap (λ k. from.0 ++ (k ++ from.2.after)) (sym (append-nil from.2.before));
              walked = λ begun.
                  subst (λ l. Walked complete l made []) (sym (ap (λ (u : AllRuns). u.lead) is))
                  (none_walked complete made (nothing_grows v.sizes from.0 g (subst (λ z. Legal z g) same (legal g new)) begun from.2));
            },
      );
    }

-- one that was taken back is
pub set_false : (bs : List Bool) (d : ℕ) → get_or (set bs d false) d false ≡ false
set_false [] d = refl
set_false (b ∷ bs) zero = refl
set_false (b ∷ bs) (suc d) = set_false bs d

-- a run that had asked for the pause is that of the domain that alone had, and its `full_major` wasn't answered before
module _ (v u : AllRuns) (d e : ℕ) (answered : List Entry) (alone : AsksAlone v d) (asked : get_or (askeds u) e false ≡ true) where
  asker_is : NotYet v u answered → e ≡ d
  asker_is not_yet = ⊎_elim (λ same. same)
      (λ other. absurd (false≢true (sym (alone e other) ∙ ap (λ (bs : List Bool). get_or bs e false) (sym not_yet.asked) ∙ asked)))
      (cases_eq e d)

  asker_waits : Answered d v u answered → ⊥
  asker_waits was =
      let now : get_or (set (askeds v) d false) e false ≡ true = ap (λ (bs : List Bool). get_or bs e false) (sym was.none) ∙ asked in
      ⊎_elim (λ same. false≢true (sym (set_false (askeds v) d) ∙ ap (λ n. get_or (set (askeds v) d false) n false) (sym same) ∙ now))
      (λ other. false≢true (sym (alone e other) ∙ sym (get_or-set_other (askeds v) d e false false other) ∙ now))
      (cases_eq e d)

-- what a step of domain e leaves of the runs, and what was answered by then
module _ (v u w : AllRuns) (d e : ℕ) (answered own : List Entry) (alone : AsksAlone v d) (x y : OneRun) (was : slice_get u.runs e ≡ Some x) (runs : w.runs ≡ set u.runs e y) (how : NotYet v u answered ⊎ Answered d v u answered) where
  same_lefts : y.left ≡ x.left → lefts w ≡ lefts u
  same_lefts same = ap (λ rs. map (λ (r : OneRun). r.left) rs) runs ∙ kept_at (λ (r : OneRun). r.left) u.runs e x y was same

  same_askeds : y.asked ≡ x.asked → askeds w ≡ askeds u
  same_askeds same = ap (λ rs. map (λ (r : OneRun). r.asked) rs) runs ∙ kept_at (λ (r : OneRun). r.asked) u.runs e x y was same

  -- none was answered in it
  none_more : IsntAnswered x y own → NotYet v w (answered ++ own) ⊎ Answered d v w (answered ++ own)
  none_more tells =
      let left : lefts w ≡ lefts u = same_lefts (ap (λ (r : OneRun). r.left) tells.run) in
      let asked : askeds w ≡ askeds u = same_askeds (ap (λ (r : OneRun). r.asked) tells.run) in
      let same : answered ++ own ≡ answered = ap (λ k. answered ++ k) tells.made ∙ append-nil answered in
      ⊎_elim
      (λ (n : NotYet v u answered). inl (record { none = same ∙ n.none; left = left ∙ n.left; asked = asked ∙ n.asked }))
      (λ (a : Answered d v u answered). inr (record { asked = a.asked; others = a.others; next = a.next; one = same ∙ a.one; left = left ∙ a.left; none = asked ∙ a.none }))
      how

  -- one was
  one_more : IsAnswered e x y own → NotYet v w (answered ++ own) ⊎ Answered d v w (answered ++ own)
  one_more tells =
      let asked : get_or (askeds u) e false ≡ true = read_at (λ (r : OneRun). r.asked) u.runs e x false was ∙ tells.asked in
      ⊎_elim
      (λ (n : NotYet v u answered).
      let same : e ≡ d = asker_is v u d e answered alone asked n in
      inr (record {
        asked = ap (λ k. get_or (askeds v) k false) (sym same) ∙ ap (λ (bs : List Bool). get_or bs e false) (sym n.asked) ∙ asked;
        others = tells.others;
        next = ap (λ k. get_or (lefts v) k []) (sym same) ∙ ap (λ (cs : List (List Command)). get_or cs e []) (sym n.left) ∙ read_at (λ (r : OneRun). r.left) u.runs e x [] was ∙ tells.next;
        one = ap (λ k. k ++ own) n.none ∙ tells.made ∙ ap (λ k. CommandOf k FullMajor false ∷ []) same;
        left = ap (λ rs. map (λ (r : OneRun). r.left) rs) runs ∙ map-set (λ (r : OneRun). r.left) u.runs e y ∙ ap (λ (cs : List (List Command)). set cs e y.left) n.left ∙ ap (λ k. set (lefts v) k y.left) same ∙ ap (λ cs. set (lefts v) d cs) (ap (λ (r : OneRun). r.left) tells.run);
        none = ap (λ rs. map (λ (r : OneRun). r.asked) rs) runs ∙ map-set (λ (r : OneRun). r.asked) u.runs e y ∙ ap (λ (bs : List Bool). set bs e y.asked) n.asked ∙ ap (λ k. set (askeds v) k y.asked) same ∙ ap (λ b. set (askeds v) d b) (ap (λ (r : OneRun). r.asked) tells.run);
      }))
      (λ (a : Answered d v u answered). absurd (asker_waits v u d e answered alone asked a))
      how

pub some_is : (y z : OneRun) → Some y ≡ Some z → y ≡ z
some_is y z is = cc

-- the entry of the step
own_is : (e : ℕ) (x y : OneRun) (own : List Entry) → IsAnswered e x y own ⊎ IsntAnswered x y own → (own ≡ []) ⊎ (own ≡ CommandOf e FullMajor false ∷ [])
own_is e x y own tells = ⊎_elim (λ (a : IsAnswered e x y own). inr a.made) (λ (n : IsntAnswered x y own). inl n.made) tells

-- nor does the step leave a pause to come
passed_rests : (e : ℕ) (x y : OneRun) (own : List Entry) → IsAnswered e x y own ⊎ IsntAnswered x y own → IsRested x → IsRested y
passed_rests e x y own tells rested = ⊎_elim
    (λ (a : IsAnswered e x y own). λ asked. absurd (false≢true (sym (ap (λ (r : OneRun). r.asked) a.run) ∙ asked)))
    (λ (n : IsntAnswered x y own). λ asked. ap (λ (r : OneRun). r.paused) n.run ∙ rested (sym (ap (λ (r : OneRun). r.asked) n.run) ∙ asked))
    tells

-- the pause goes on with a step of domain e
pub pause_passes : (shares shares_old shares_new : List Entry → Type 0) (v u w : AllRuns) (complete : Bool) (e : ℕ) → Paused complete shares shares_old v u → Passed shares_old shares_new u w e → ((g : List Entry) → shares_new g → Legal w.sizes g) → Paused complete shares shares_new v w
pause_passes shares shares_old shares_new v u w complete e p step legal =
    let x : OneRun = step.run in
    let y : OneRun = step.becomes in
    let runs : w.runs ≡ set u.runs e y = ap (λ (r : AllRuns). r.runs) step.view in
    let sizes : w.sizes ≡ v.sizes = ap (λ (r : AllRuns). r.sizes) step.view ∙ p.sizes in
    let commands : y.commands ≡ x.commands = ⊎_elim (λ (a : IsAnswered e x y step.own). ap (λ (r : OneRun). r.commands) a.run) (λ (n : IsntAnswered x y step.own). ap (λ (r : OneRun). r.commands) n.run) step.tells in
    let ended : y.ended ≡ x.ended = ⊎_elim (λ (a : IsAnswered e x y step.own). ap (λ (r : OneRun). r.ended) a.run) (λ (n : IsntAnswered x y step.own). ap (λ (r : OneRun). r.ended) n.run) step.tells in
    record {
      sizes = sizes;
      commands = ap (λ rs. map (λ (r : OneRun). r.commands) rs) runs ∙ kept_at (λ (r : OneRun). r.commands) u.runs e x y step.was commands ∙ p.commands;
      ended = ap (λ rs. map (λ (r : OneRun). r.ended) rs) runs ∙ kept_at (λ (r : OneRun). r.ended) u.runs e x y step.was ended ∙ p.ended;
      complete_is = ap (λ (r : AllRuns). r.complete) step.view ∙ p.complete_is;
      rested = λ d z at.
          ⊎_elim
          (λ (same : d ≡ e).
          let is : y ≡ z = some_is y z (sym (filled_here u.runs e y (slice_get_within u.runs e x step.was)) ∙ ap (λ k. slice_get (set u.runs e y) k) (sym same) ∙ ap (λ rs. slice_get rs d) (sym runs) ∙ at) in
          subst IsRested is (passed_rests e x y step.own step.tells (p.rested e x step.was)))
          (λ other. p.rested d z (sym (filled_else u.runs e d y other) ∙ ap (λ rs. slice_get rs d) (sym runs) ∙ at))
          (cases_eq d e);
      served = λ yes d z at back.
          ⊎_elim
          (λ (same : d ≡ e).
          let is : y ≡ z = some_is y z (sym (filled_here u.runs e y (slice_get_within u.runs e x step.was)) ∙ ap (λ k. slice_get (set u.runs e y) k) (sym same) ∙ ap (λ rs. slice_get rs d) (sym runs) ∙ at) in
          subst IsServed is (step.served (p.complete_is ∙ yes) (ap (λ (r : OneRun). r.runs) is ∙ back)))
          (λ other. p.served yes d z (sym (filled_else u.runs e d y other) ∙ ap (λ rs. slice_get rs d) (sym runs) ∙ at) back)
          (cases_eq d e);
      told = λ d alone.
          let t = p.told d alone in (
            t.0 ++ step.own,
            ⊎_elim (one_more v u w d e t.0 step.own alone x y step.was runs t.1) (none_more v u w d e t.0 step.own alone x y step.was runs t.1) step.tells,
            λ g new.
                let from = step.on g new in
                grown v.sizes complete e u.lead w.lead shares t.0 step.control step.own from.0 g (subst (λ z. Legal z g) sizes (legal g new)) step.controls (own_is e x y step.own step.tells) from.2 (t.2 from.0 from.1),
          );
    }

-- a run of a trace without commands
pub no_run : OneRun
no_run = record { commands = []; left = []; replies = []; asked = false; paused = false; waiting = 0; runs = false; ended = false }

-- there is one
pub some_run : (v : AllRuns) → Stands v → 0 < length v.runs
some_run v stands = let some = stands.limits.some_domain in let count = stands.count in omega (arith, some, count)

-- where all run domain 0 leads no pause
pub leads_none : (v : AllRuns) → Stands v → AllHave (λ x. x.runs) true v → v.lead ≡ Rests
leads_none v stands all =
    let first : slice_get v.runs 0 ≡ Some (get_or v.runs 0 no_run) = slice_get-get_or v.runs 0 no_run (some_run v stands) in
    stands.rests (get_or v.runs 0 no_run) first (all 0 (get_or v.runs 0 no_run) first)
