-- Tellers that were driven to their ends, and the runs in them.
use Rattle.std.proofs.Common.{◌≡◌, ℕ, zero, suc, List, [], ◌∷◌, ◌++◌, length, map, get_or, ◌<◌, refl, true, sym, ap, ◌∙◌, subst, Some}
use Rattle.std.proofs.lemmas.Option.{slice_get-get_or, slice_get_within}
use Rattle.std.specs.Prelude.{flat_map, slice_get, codes, decimal}
use Rattle.std.specs.List.{AllByRecursion}
use Rattle.model_core.specs.declared.reply.Reply.{Reply}
use Rattle.model_core.specs.Output.{line, printed, ints_of, int_sum}
use Rattle.text_script.specs.Spelling.{heading_text}
use Rattle.run_turns.specs.Runs.{RunView, GoesOn}
use Rattle.heap_rule.specs.Token.{SharedHeap, IsIn}
use Rattle.camlheap_run.specs.declared.write.report.Report.{Report}
use Rattle.camlheap_run.specs.declared.write.report.Report.TheVariants.{Replies, Summary}
use Rattle.camlheap_run.specs.declared.write.text.Text.{Text}
use Rattle.camlheap_run.specs.declared.write.tellers.Teller.{Teller}
use Rattle.camlheap_run.specs.declared.write.tellers.Telling.{Telling}
use Rattle.camlheap_run.specs.declared.write.tellers.Telling.TheVariants.{Later, Told, Untold}
use Rattle.camlheap_run.specs.Running.{AreDriven}
use Rattle.camlheap_run.specs.Telling.{AreTellersDriven, IsBlank, IsTeller, Tells, run_of, teller_text}
use Rattle.camlheap_run.specs.Writing.{run_text}
use Rattle.camlheap_run.proofs.RunLemmas.{all_from_each, each_from_all}

-- one that is blank is as a teller must be
blank_teller : (report : Report) (t : Teller) → IsBlank report t → IsTeller t
blank_teller report t blank = subst (λ (x : Telling). Tells x t) (sym blank.later) blank.empty

-- what a function makes of the item at a place
at_map : {A B : Type 0} (f : A → B) (xs : List A) (i : ℕ) (x : A) → slice_get xs i ≡ Some x → slice_get (map f xs) i ≡ Some (f x)
at_map f [] i x at = cc
at_map f (y ∷ xs) zero x at = let is : y ≡ x = cc in ap (λ z. Some (f z)) is
at_map f (y ∷ xs) (suc i) x at = at_map f xs i x at

-- the item of which a function made what stands at a place
of_map : {A B : Type 0} (f : A → B) (xs : List A) (i : ℕ) (y : B) → slice_get (map f xs) i ≡ Some y → (x : A) × (slice_get xs i ≡ Some x) × (f x ≡ y)
of_map f [] i y at = cc
of_map f (x ∷ xs) zero y at = let is : f x ≡ y = cc in (x, refl, is)
of_map f (x ∷ xs) (suc i) y at = of_map f xs i y at

length_map : {A B : Type 0} (f : A → B) (xs : List A) → length (map f xs) ≡ length xs
length_map f [] = refl
length_map f (x ∷ xs) = ap suc (length_map f xs)

-- tellers of runs of the heap are themselves the heap's
pub tellers_here : (h : SharedHeap) (report : Report) (runs : List RunView) (tellers : List Teller) → map run_of tellers ≡ runs → AllByRecursion (IsBlank report) tellers
    → ((i : ℕ) (r : RunView) → slice_get runs i ≡ Some r → IsIn r.token h) → (i : ℕ) (t : Teller) → slice_get tellers i ≡ Some t → IsIn t.run.token h × IsTeller t
tellers_here h report runs tellers are blank here i t at = (
  here i (run_of t) (ap (λ (l : List RunView). slice_get l i) (sym are) ∙ at_map run_of tellers i t at),
  blank_teller report t (each_from_all (IsBlank report) tellers i t blank at),
)

-- there are as many tellers as runs
pub many_tellers : (tellers : List Teller) (runs : List RunView) → map run_of tellers ≡ runs → length tellers ≡ length runs
many_tellers tellers runs are = sym (length_map run_of tellers) ∙ ap length are

-- where tellers were driven to their ends, their runs were
pub runs_driven : (h : SharedHeap) (old new : List Teller) (runs : List RunView) → map run_of old ≡ runs → AreTellersDriven h old new → AreDriven h runs (map run_of new)
runs_driven h old new runs are driven = record {
  count = length_map run_of new ∙ driven.count ∙ many_tellers old runs are;
  here = λ i q at. let t = of_map run_of new i q at in subst (λ (r : RunView). IsIn r.token h) t.2 (driven.here i t.0 t.1).0;
  further = λ i r q from to.
      let a = of_map run_of old i r (ap (λ (l : List RunView). slice_get l i) are ∙ from) in
      let b = of_map run_of new i q to in
      subst (λ (x : RunView). GoesOn x q) a.2 (subst (λ (x : RunView). GoesOn (run_of a.0) x) b.2 (driven.further i a.0 b.0 a.1 b.1).run);
  over = λ i q at. let t = of_map run_of new i q at in subst (λ (r : RunView). r.ended ≡ true) t.2 (driven.over i t.0 t.1);
}

-- and each is as a teller must be
pub tellers_tell : (h : SharedHeap) (old new : List Teller) → AreTellersDriven h old new → AllByRecursion IsTeller new
tellers_tell h old new driven = all_from_each IsTeller new (λ i t at. (driven.here i t at).1)

-- the texts of tellers with one report are those of their runs
texts_of : (report : Report) (tellers : List Teller) → ((i : ℕ) (t : Teller) → slice_get tellers i ≡ Some t → t.report ≡ report) → flat_map teller_text tellers ≡ flat_map (run_text report) (map run_of tellers)
texts_of report [] each = refl
texts_of report (t ∷ tellers) each =
    ap (λ (r : Report). run_text r t.run ++ flat_map teller_text tellers) (each 0 t refl)
    ∙ ap (λ (l : List ℕ). run_text report t.run ++ l) (texts_of report tellers (λ i u at. each (suc i) u at))

-- a teller keeps its report
reports_kept : (h : SharedHeap) (report : Report) (old new : List Teller) → AllByRecursion (IsBlank report) old → AreTellersDriven h old new → (i : ℕ) (t : Teller) → slice_get new i ≡ Some t → t.report ≡ report
reports_kept h report old new blank driven i t at =
    let within : i < length old = subst (λ (n : ℕ). i < n) driven.count (slice_get_within new i t at) in
    let u : Teller = get_or old i t in
    let there : slice_get old i ≡ Some u = slice_get-get_or old i t within in
    (driven.further i u t there at).report ∙ (each_from_all (IsBlank report) old i u blank there).report

pub texts_told : (h : SharedHeap) (report : Report) (old new : List Teller) → AllByRecursion (IsBlank report) old → AreTellersDriven h old new → flat_map teller_text new ≡ flat_map (run_text report) (map run_of new)
texts_told h report old new blank driven = texts_of report new (reports_kept h report old new blank driven)

-- one more that holds of what all do
pub all_pushed : {A : Type 0} (P : A → Type 0) (xs : List A) (x : A) → AllByRecursion P xs → P x → AllByRecursion P (xs ++ x ∷ [])
all_pushed P [] x all more = (more, tt)
all_pushed P (y ∷ xs) x all more = (all.0, all_pushed P xs x all.1 more)

abbrev summary_line : ℕ → ℕ → List Reply → List ℕ
summary_line number next said =
    line (codes "domain " ++ decimal number ++ codes " commands " ++ decimal next
    ++ codes " ints " ++ decimal (length (flat_map ints_of said)) ++ codes " sum " ++ decimal (int_sum (flat_map ints_of said)))

-- what a report has of a run whose trace has ended stays as it is
kept_text : (report : Report) (old new : RunView) → GoesOn old new → old.ended ≡ true → run_text report new ≡ run_text report old
kept_text Replies old new g ended =
    ap (λ (n : ℕ). line (heading_text n) ++ printed new.replies) g.number
    ∙ ap (λ (said : List Reply). line (heading_text old.token.view.own.number) ++ printed said) (g.over ended).replies
kept_text Summary old new g ended =
    ap (λ (n : ℕ). summary_line n new.next new.replies) g.number
    ∙ ap (λ (n : ℕ). summary_line old.token.view.own.number n new.replies) (g.over ended).next
    ∙ ap (λ (said : List Reply). summary_line old.token.view.own.number old.next said) (g.over ended).replies

-- a teller whose run has gone on tells what it told before
pub tells_still : (old new : Teller) → IsTeller old → GoesOn old.run new.run → new.report ≡ old.report → new.text ≡ old.text → new.telling ≡ old.telling → IsTeller new
tells_still old new is g report text telling = subst (λ (x : Telling). Tells x new) (sym telling) (by_telling old.telling is)
  where
    by_telling : (x : Telling) → Tells x old → Tells x new
    by_telling Later is = ap (λ (t : Text). t.bytes.items) text ∙ is
    by_telling Told is = (
      (g.over is.0).ended,
      ap (λ (t : Text). t.bytes.items) text ∙ is.1 ∙ sym (kept_text old.report old.run new.run g is.0) ∙ ap (λ (r : Report). run_text r new.run) (sym report),
    )
    by_telling Untold is = (g.over is).ended
