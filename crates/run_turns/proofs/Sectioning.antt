-- A section comes on as its domain's part of the history grows.
use Rattle.std.proofs.Common.{◌≡◌, ◌≢◌, ◌∙◌, ℕ, zero, suc, ◌+◌, Bool, true, false, cond, eq-eqb, IsTrue, List, [], ◌∷◌, ◌++◌, take, slice_get, Option, Some, None, refl, sym, ap, subst, add-one, append-nil, append_assoc}
use Rattle.model_core.specs.declared.command.Command.{Command}
use Rattle.model_core.specs.declared.command.Command.TheVariants.{Spawn, Argument, PutResult, Join}
use Rattle.model_core.specs.declared.entry.Entry.{Entry}
use Rattle.model_core.specs.declared.entry.Entry.TheVariants.{Command as CommandOf, End, Ran}
use Rattle.model_core.specs.declared.reply.Reply.{Reply}
use Rattle.model_core.specs.declared.reply.Applied.{Applied}
use Rattle.model_core.specs.declared.reply.Applied.TheVariants.{Replied, Silent}
use Rattle.model_core.specs.declared.state.Sizes.{Sizes}
use Rattle.model_core.specs.declared.state.State.{State}
use Rattle.model_core.specs.Domains.{opening}
use Rattle.model_core.specs.Entries.{reply as reply_to}
use Rattle.model_core.specs.Fronts.{Answers, IsFrontOf}
use Rattle.model_core.specs.History.{IsPrefix, reply_list, state_after}
use Rattle.heap_rule.specs.declared.config.Config.{Config}
use Rattle.heap_rule.specs.Limits.{sizes_in}
use Rattle.model_traces.specs.Spawns.Hidden.{is_plain, prelude}
use Rattle.model_traces.specs.Spawns.Expansion.{AreFitting, IsExpansion, IsFitting, Step, step_of, steps_from}
use Rattle.model_traces.specs.Spawns.Printed.{is_printed, is_printed_entry, printed_replies}
use Rattle.model_traces.specs.Spawns.Progress as progress
use Rattle.model_traces.specs.Spawns.Progress.{IsSoFar}
use Rattle.model_traces.proofs.OfSpawns.Growing.{printed_answer, printed_append, printed_others, steps_answer, steps_append, steps_others}
use Rattle.model_traces.proofs.OfSpawns.Printing.{plain_printed}
use Rattle.model_traces.proofs.OfSpawns.Progressing.{makes_other}
use Rattle.run_turns.specs.declared.place.Place.{Place}
use Rattle.run_turns.specs.declared.place.Place.TheVariants.{AsEver, Before, Within, Behind}
use Rattle.run_turns.specs.Sections.{IsInSection, IsOrdinary, is_spawned_at, place_in}

pub take_next : (cs : List Command) (n : ℕ) (c : Command) → slice_get cs n ≡ Some c → take (suc n) cs ≡ take n cs ++ c ∷ []
take_next [] n c at = cc
take_next (x ∷ xs) zero c at = let is : x ≡ c = cc in ap (λ (y : Command). y ∷ []) is
take_next (x ∷ xs) (suc n) c at = ap (λ (ys : List Command). x ∷ ys) (take_next xs n c at)

same_rest : (xs ys zs : List Step) → xs ++ ys ≡ xs ++ zs → ys ≡ zs
same_rest [] ys zs e = e
same_rest (x ∷ xs) ys zs e = let later : xs ++ ys ≡ xs ++ zs = cc in same_rest xs ys zs later

-- a command of a section may be one
pub fitting_at : (d : ℕ) (cs : List Command) (n : ℕ) (c : Command) → AreFitting d cs → slice_get cs n ≡ Some c → IsFitting d c
fitting_at d [] n c fits at = cc
fitting_at d (x ∷ xs) zero c fits at = let is : x ≡ c = cc in subst (IsFitting d) is fits.0
fitting_at d (x ∷ xs) (suc n) c fits at = fitting_at d xs n c fits.1 at

-- another command than the four is its own step, and names registers of scripts alone
ordinary_expands : (d : ℕ) (c : Command) (x : Step) → IsOrdinary c → x.command ≡ c → IsExpansion d c (x ∷ [])
ordinary_expands d (Spawn section item) x ordinary is = absurd ordinary
ordinary_expands d (Argument dst) x ordinary is = absurd ordinary
ordinary_expands d (PutResult item) x ordinary is = absurd ordinary
ordinary_expands d (Join dst section) x ordinary is = absurd ordinary
ordinary_expands d c x ordinary is = ap (λ (y : Command). y ∷ []) is

ordinary_plain : (d : ℕ) (c : Command) → IsOrdinary c → IsFitting d c → IsTrue (is_plain c)
ordinary_plain d (Spawn section item) ordinary fits = absurd ordinary
ordinary_plain d (Argument dst) ordinary fits = absurd ordinary
ordinary_plain d (PutResult item) ordinary fits = absurd ordinary
ordinary_plain d (Join dst section) ordinary fits = absurd ordinary
ordinary_plain d c ordinary fits = fits

no_join : (c : Command) → IsOrdinary c → (dst section : ℕ) → c ≢ Join dst section
no_join c ordinary dst section is = subst IsOrdinary is ordinary

module _ (k : Config) (d : ℕ) where
  abbrev z : Sizes
  z = sizes_in k

  abbrev first : State
  first = state_after (opening z) (prelude k.domains)

  -- the front grew, and with it the steps
  pub section_grows : (old new : List Entry) (place later : Place) (cs : List Command) (n m : ℕ) (rs more : List Reply) (xs : List Step) → IsPrefix old new → steps_from (opening z) new d ≡ steps_from (opening z) old d ++ xs → printed_replies z new d ≡ more
      → (is : IsInSection k d old place cs n rs)
      → ((ys : List Step) → IsSoFar d (is_spawned_at place) (place_in place) (take n cs) (slice_get cs n) ys → IsSoFar d (is_spawned_at later) (place_in later) (take m cs) (slice_get cs m) (ys ++ xs))
      → IsInSection k d new later cs m more
  section_grows old new place later cs n m rs more xs p steps printed is on =
      let p0 : List Entry = prelude k.domains in
      let own : List Step = steps_from (opening z) p0 d in
      let begins : new ≡ p0 ++ (is.behind ++ p.rest) = p.appends ∙ (ap (λ (h : List Entry). h ++ p.rest) is.begins ∙ append_assoc p0 is.behind p.rest) in
      let was : steps_from (opening z) old d ≡ own ++ steps_from first is.behind d = ap (λ (h : List Entry). steps_from (opening z) h d) is.begins ∙ steps_append (opening z) p0 is.behind d in
      let now : steps_from (opening z) new d ≡ own ++ steps_from first (is.behind ++ p.rest) d = ap (λ (h : List Entry). steps_from (opening z) h d) begins ∙ steps_append (opening z) p0 (is.behind ++ p.rest) d in
      let both : own ++ steps_from first (is.behind ++ p.rest) d ≡ own ++ (steps_from first is.behind d ++ xs) =
      sym now ∙ (steps ∙ (ap (λ (ys : List Step). ys ++ xs) was ∙ append_assoc own (steps_from first is.behind d) xs)) in
      let same : steps_from first (is.behind ++ p.rest) d ≡ steps_from first is.behind d ++ xs = same_rest own _ _ both in
      record {
        behind = is.behind ++ p.rest;
        begins = begins;
        so_far = subst (λ (ys : List Step). IsSoFar d (is_spawned_at later) (place_in later) (take m cs) (slice_get cs m) ys) (sym same) (on (steps_from first is.behind d) is.so_far);
        printed = printed;
        fitting = is.fitting;
        inside = is.inside;
      }

  -- by no step
  still : (place : Place) (cs : List Command) (n : ℕ) (ys : List Step) → IsSoFar d (is_spawned_at place) (place_in place) (take n cs) (slice_get cs n) ys → IsSoFar d (is_spawned_at place) (place_in place) (take n cs) (slice_get cs n) (ys ++ [])
  still place cs n ys so = subst (λ (t : List Step). IsSoFar d (is_spawned_at place) (place_in place) (take n cs) (slice_get cs n) t) (sym (append-nil ys)) so

  -- by entries of others
  pub section_on : (old new : List Entry) (place : Place) (cs : List Command) (n : ℕ) (rs : List Reply) → IsFrontOf d new old → IsInSection k d old place cs n rs → IsInSection k d new place cs n rs
  section_on old new place cs n rs f is =
      let steps : steps_from (opening z) new d ≡ steps_from (opening z) old d ++ [] =
      ap (λ (h : List Entry). steps_from (opening z) h d) f.appends ∙ (steps_append (opening z) old f.rest d ∙ ap (λ (xs : List Step). steps_from (opening z) old d ++ xs) (steps_others (state_after (opening z) old) f.rest d f.others)) in
      let printed : printed_replies z new d ≡ rs =
      ap (λ (h : List Entry). printed_replies z h d) f.appends ∙ (printed_append (opening z) old f.rest d
      ∙ (ap (λ (ts : List Reply). printed_replies z old d ++ ts) (printed_others (state_after (opening z) old) f.rest d f.others) ∙ (append-nil (printed_replies z old d) ∙ is.printed))) in
      section_grows old new place place cs n n rs rs [] (record { rest = f.rest; appends = f.appends }) steps printed is (still place cs n)

  -- what an entry of the domain adds that is no step
  grown_by : (old new : List Entry) (e : Entry) (a : Applied) (x : Answers z d old new e a) → new ≡ (old ++ x.between) ++ e ∷ []
  grown_by old new e a x = x.appends

  no_step : (old new : List Entry) (e : Entry) (a : Applied) → ((s : State) → step_of s d e ≡ []) → Answers z d old new e a → steps_from (opening z) new d ≡ steps_from (opening z) old d ++ []
  no_step old new e a none x =
      let mid : List Entry = old ++ x.between in
      let before : steps_from (opening z) mid d ≡ steps_from (opening z) old d ++ [] =
      steps_append (opening z) old x.between d ∙ ap (λ (xs : List Step). steps_from (opening z) old d ++ xs) (steps_others (state_after (opening z) old) x.between d x.others) in
      ap (λ (h : List Entry). steps_from (opening z) h d) x.appends ∙ (steps_append (opening z) mid (e ∷ []) d
      ∙ (ap (λ (xs : List Step). steps_from (opening z) mid d ++ (xs ++ [])) (none (state_after (opening z) mid)) ∙ (append-nil (steps_from (opening z) mid d) ∙ before)))

  prints : (old new : List Entry) (e : Entry) (a : Applied) (rs : List Reply) → Answers z d old new e a → cond (is_printed_entry d e) (reply_list a) [] ≡ rs → printed_replies z new d ≡ printed_replies z old d ++ rs
  prints old new e a rs x own =
      let mid : List Entry = old ++ x.between in
      let before : printed_replies z mid d ≡ printed_replies z old d =
      printed_append (opening z) old x.between d ∙ (ap (λ (ts : List Reply). printed_replies z old d ++ ts) (printed_others (state_after (opening z) old) x.between d x.others) ∙ append-nil (printed_replies z old d)) in
      ap (λ (h : List Entry). printed_replies z h d) x.appends ∙ (printed_append (opening z) mid (e ∷ []) d
      ∙ (ap (λ (ts : List Reply). printed_replies z mid d ++ ts) (append-nil (cond (is_printed_entry d e) (reply_list (reply_to (state_after (opening z) mid) e)) []) ∙ (ap (λ (b : Applied). cond (is_printed_entry d e) (reply_list b) []) x.replies ∙ own))
      ∙ ap (λ (ts : List Reply). ts ++ rs) before))

  answers_prefix : (old new : List Entry) (e : Entry) (a : Applied) → Answers z d old new e a → IsPrefix old new
  answers_prefix old new e a x = record { rest = x.between ++ e ∷ []; appends = x.appends ∙ append_assoc old x.between (e ∷ []) }

  -- by the run of a finaliser
  pub section_ran : (old new : List Entry) (place : Place) (cs : List Command) (n : ℕ) (rs : List Reply) (r : Reply) → Answers z d old new (Ran d) (Replied r) → IsInSection k d old place cs n rs → IsInSection k d new place cs n (rs ++ r ∷ [])
  section_ran old new place cs n rs r x is =
      section_grows old new place place cs n n rs (rs ++ r ∷ []) [] (answers_prefix old new (Ran d) (Replied r) x) (no_step old new (Ran d) (Replied r) (λ s. refl) x)
      (prints old new (Ran d) (Replied r) (r ∷ []) x (ap (λ (b : Bool). cond b (r ∷ []) []) (eq-eqb d d refl)) ∙ ap (λ (ts : List Reply). ts ++ r ∷ []) is.printed) is (still place cs n)

  -- by the end of the trace
  pub section_ended : (old new : List Entry) (place : Place) (cs : List Command) (n : ℕ) (rs : List Reply) → Answers z d old new (End d) Silent → IsInSection k d old place cs n rs → IsInSection k d new place cs n rs
  section_ended old new place cs n rs x is =
      section_grows old new place place cs n n rs rs [] (answers_prefix old new (End d) Silent x) (no_step old new (End d) Silent (λ s. refl) x)
      (prints old new (End d) Silent [] x refl ∙ (append-nil (printed_replies z old d) ∙ is.printed)) is (still place cs n)

  -- a section that makes its commands
  pub on_command : (place : Place) (cs : List Command) (n : ℕ) (c : Command) (xs : List Step) → place ≢ Before → slice_get cs n ≡ Some c
      → ((spawned : Bool) (ys : List Step) → IsSoFar d spawned progress.Within (take n cs) (Some c) ys → IsSoFar d spawned progress.Within (take n cs ++ c ∷ []) (slice_get cs (n + 1)) (ys ++ xs))
      → (ys : List Step) → IsSoFar d (is_spawned_at place) (place_in place) (take n cs) (slice_get cs n) ys → IsSoFar d (is_spawned_at place) (place_in place) (take (n + 1) cs) (slice_get cs (n + 1)) (ys ++ xs)
  on_command place cs n c xs going at on = by place going
    where
      taken : (spawned : Bool) (ys : List Step) → IsSoFar d spawned progress.Within (take n cs) (slice_get cs n) ys → IsSoFar d spawned progress.Within (take (n + 1) cs) (slice_get cs (n + 1)) (ys ++ xs)
      taken spawned ys so =
          subst (λ (ds : List Command). IsSoFar d spawned progress.Within ds (slice_get cs (n + 1)) (ys ++ xs)) (sym (ap (λ (m : ℕ). take m cs) (add-one n) ∙ take_next cs n c at))
          (on spawned ys (subst (λ (o : Option Command). IsSoFar d spawned progress.Within (take n cs) o ys) at so))

      by : (place : Place) → place ≢ Before → (ys : List Step) → IsSoFar d (is_spawned_at place) (place_in place) (take n cs) (slice_get cs n) ys → IsSoFar d (is_spawned_at place) (place_in place) (take (n + 1) cs) (slice_get cs (n + 1)) (ys ++ xs)
      by AsEver going ys so = taken false ys so
      by Before going ys so = absurd (going refl)
      by Within going ys so = taken true ys so
      by Behind going ys so = absurd (let clash : Some c ≡ None = sym at ∙ so.1 in cc)

  -- by the entry of its next command
  pub section_answers : (old new : List Entry) (place : Place) (cs : List Command) (n : ℕ) (rs : List Reply) (c : Command) (full : Bool) (r : Reply) → place ≢ Before → IsOrdinary c → slice_get cs n ≡ Some c → Answers z d old new (CommandOf d c full) (Replied r)
      → IsInSection k d old place cs n rs → IsInSection k d new place cs (n + 1) (rs ++ r ∷ [])
  section_answers old new place cs n rs c full r going ordinary at x is =
      let shown : is_printed d c ≡ true = plain_printed d c (ordinary_plain d c ordinary (fitting_at d cs n c is.fitting at)) in
      section_grows old new place place cs n (n + 1) rs (rs ++ r ∷ []) _ (answers_prefix old new (CommandOf d c full) (Replied r) x) (steps_answer z d old new c full r x)
      (printed_answer z d old new c full r x ∙ (ap (λ (b : Bool). printed_replies z old d ++ cond b (r ∷ []) []) shown ∙ ap (λ (ts : List Reply). ts ++ r ∷ []) is.printed)) is
      (on_command place cs n c _ going at (λ spawned ys so. makes_other d spawned (take n cs) c (slice_get cs (n + 1)) ys _ (no_join c ordinary) so (ordinary_expands d c _ ordinary refl)))
