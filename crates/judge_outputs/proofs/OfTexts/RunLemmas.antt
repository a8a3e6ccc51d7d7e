-- Line after line.
use Rattle.std.proofs.Common.{◌≡◌, inl, inr, ℕ, zero, suc, ◌+◌, ◌≤◌, List, [], ◌∷◌, ◌++◌, length, take, drop, slice_get, Some, None, refl, ap, sym, ◌∙◌, subst, arith, ap₂}
use Rattle.model_core.specs.declared.label.Label.{Label}
use Rattle.model_core.specs.declared.state.Sizes.{Sizes}
use Rattle.table_text.specs.declared.version.Version.{Version}
use Rattle.table_text.specs.declared.line.TableLine.{TableLine}
use Rattle.table_text.specs.declared.line.TableLine.TheVariants.{Key, Forget, Put, Get, Del, SetWeak, GetWeak, Count, FullMajor}
use Rattle.table_text.specs.declared.machine.reply.LineReply.{LineReply}
use Rattle.table_text.specs.declared.machine.reply.LineReply.TheVariants.{Full}
use Rattle.table_text.specs.Machine.Machine.{TableState, MayGo, Effect, MachineRuns, MachineAnswers, MayBeRefused, all_made, made_by, opened}
use Rattle.judge_outputs.specs.declared.texts.machine.Gone.{Gone}
use Rattle.judge_outputs.specs.Texts.Playing.{AnswersBy, NamesKey, RunsBy, StepBy, label_of, once_gone}

-- a machine that goes on from here, with the lines from the i-th on, has given all replies
abbrev pub RunsBefore : Version → Sizes → List Gone → List TableLine → List LineReply → ℕ → TableState → Type 0
RunsBefore version z gone lines replies i s = (states : List TableState) → RunsBy version z gone (take i lines) s (drop i lines) (drop i replies) states → AnswersBy version z gone lines replies

-- at the first line
pub runs_first : (version : Version) (z : Sizes) (gone : List Gone) (lines : List TableLine) (replies : List LineReply) (s : TableState) → s ≡ opened → RunsBefore version z gone lines replies 0 s
runs_first version z gone lines replies s is states runs = record { states = states; runs = subst (λ x. RunsBy version z gone [] x lines replies states) is runs }

-- one line more
split_at : {A : Type 0} (xs : List A) (i : ℕ) (x : A) → slice_get xs i ≡ Some x → (drop i xs ≡ x ∷ drop (suc i) xs) × (take (suc i) xs ≡ take i xs ++ x ∷ [])
split_at [] i x at = absurd (let clash : None ≡ Some x = at in cc)
split_at (y ∷ xs) zero x at = let is : y ≡ x = cc in (ap (λ w. w ∷ xs) is, ap (λ w. w ∷ []) is)
split_at (y ∷ xs) (suc i) x at = let rest = split_at xs i x at in (rest.0, ap (λ ws. y ∷ ws) rest.1)

-- a step of this line, the last of those that make so many labels
abbrev pub AnyStep : Version → Sizes → List Gone → ℕ → ℕ → TableLine → TableState → LineReply → TableState → Type 0
AnyStep version z gone made n l s a t = (lines : List TableLine) → made ≡ all_made version lines → StepBy version z gone lines n l s a t

made_more : (version : Version) (xs : List TableLine) (l : TableLine) → all_made version (xs ++ l ∷ []) ≡ all_made version xs + made_by version l
made_more version [] l = omega arith
made_more version (x ∷ xs) l = let rest = made_more version xs l in omega (arith, rest)

at_most : {A : Type 0} (xs : List A) (i : ℕ) (x : A) → slice_get xs i ≡ Some x → length (take i xs) ≡ i
at_most [] i x at = absurd (let clash : None ≡ Some x = at in cc)
at_most (y ∷ xs) zero x at = refl
at_most (y ∷ xs) (suc i) x at = ap suc (at_most xs i x at)

made_next : (version : Version) (lines : List TableLine) (i made more : ℕ) (l : TableLine) → slice_get lines i ≡ Some l → made ≡ all_made version (take i lines) → more ≡ made_by version l → made + more ≡ all_made version (take (suc i) lines)
made_next version lines i made more l line is by = ap₂ (λ (m n : ℕ). m + n) is by ∙ sym (made_more version (take i lines) l) ∙ ap (all_made version) (sym (split_at lines i l line).1)

pub made_after : (version : Version) (lines : List TableLine) (i j made more : ℕ) (l : TableLine) → j ≡ i + 1 → slice_get lines i ≡ Some l → made ≡ all_made version (take i lines) → more ≡ made_by version l → made + more ≡ all_made version (take j lines)
made_after version lines i j made more l next line is by =
    let later : suc i ≡ j = omega (arith, next) in
    subst (λ n. made + more ≡ all_made version (take n lines)) later (made_next version lines i made more l line is by)

more : (version : Version) (z : Sizes) (gone : List Gone) (lines : List TableLine) (replies : List LineReply) (i made : ℕ) (s t : TableState) (l : TableLine) (a : LineReply) → slice_get lines i ≡ Some l → slice_get replies i ≡ Some a
    → made ≡ all_made version (take (suc i) lines) → AnyStep version z gone made i l s a t → RunsBefore version z gone lines replies i s → RunsBefore version z gone lines replies (suc i) t
more version z gone lines replies i made s t l a line reply is step before states runs =
    let here = split_at lines i l line in
    let there = split_at replies i a reply in
    let later : RunsBy version z gone (take i lines ++ l ∷ []) t (drop (suc i) lines) (drop (suc i) replies) states = subst (λ ls. RunsBy version z gone ls t (drop (suc i) lines) (drop (suc i) replies) states) here.1 runs in
    let now : StepBy version z gone (take i lines ++ l ∷ []) (length (take i lines)) l s a t = subst (λ n. StepBy version z gone (take i lines ++ l ∷ []) n l s a t) (sym (at_most lines i l line)) (step (take i lines ++ l ∷ []) (is ∙ ap (all_made version) here.1)) in
    before (t ∷ states)
    (subst (λ ls. RunsBy version z gone (take i lines) s ls (drop i replies) (t ∷ states)) (sym here.0)
    (subst (λ rs. RunsBy version z gone (take i lines) s (l ∷ drop (suc i) lines) rs (t ∷ states)) (sym there.0) (now, later)))

pub runs_more : (version : Version) (z : Sizes) (gone : List Gone) (lines : List TableLine) (replies : List LineReply) (i j n made : ℕ) (s t : TableState) (l : TableLine) (a : LineReply) → j ≡ i + 1 → n ≡ i → slice_get lines i ≡ Some l → slice_get replies i ≡ Some a
    → made ≡ all_made version (take j lines) → AnyStep version z gone made n l s a t → RunsBefore version z gone lines replies i s → RunsBefore version z gone lines replies j t
runs_more version z gone lines replies i j n made s t l a next same line reply is step before =
    let later : j ≡ suc i = omega (arith, next) in
    subst (λ k. RunsBefore version z gone lines replies k t) (sym later)
    (more version z gone lines replies i made s t l a line reply (subst (λ k. made ≡ all_made version (take k lines)) later is) (subst (λ k. AnyStep version z gone made k l s a t) same step) before)

-- at the last
drop_none : {A : Type 0} (xs : List A) (i : ℕ) → length xs ≤ i → drop i xs ≡ []
drop_none [] zero most = refl
drop_none [] (suc i) most = refl
drop_none (x ∷ xs) zero most = absurd (omega (arith, most))
drop_none (x ∷ xs) (suc i) most = drop_none xs i (omega (arith, most))

pub runs_last : (version : Version) (z : Sizes) (gone : List Gone) (lines : List TableLine) (replies : List LineReply) (i : ℕ) (s : TableState) → length lines ≤ i → length replies ≤ i → RunsBefore version z gone lines replies i s → AnswersBy version z gone lines replies
runs_last version z gone lines replies i s few fewer before = before []
    (subst (λ ls. RunsBy version z gone (take i lines) s ls (drop i replies) []) (sym (drop_none lines i few)) (subst (λ rs. RunsBy version z gone (take i lines) s [] rs []) (sym (drop_none replies i fewer)) tt))

-- a line before which the keys of a witness have gone
pub made_step : (version : Version) (z : Sizes) (gone : List Gone) (n : ℕ) (l : TableLine) (s left t : TableState) (a : LineReply) → MayGo s left → left ≡ once_gone gone n s → Effect left l a t → NamesKey (label_of n) l a left t
    → (lines : List TableLine) → StepBy version z gone lines n l s a t
made_step version z gone n l s left t a goes is does named lines = record { step = record { left = left; goes = goes; does = inl does }; left = is; named = named }

-- and one that is refused
names_none : (k : Label) (l : TableLine) (s t : TableState) → NamesKey k l Full s t
names_none k (Key r) s t = tt
names_none k (Forget r) s t = tt
names_none k (Put r v) s t = tt
names_none k (Get r) s t = tt
names_none k (Del r) s t = tt
names_none k (SetWeak i r) s t = tt
names_none k (GetWeak d i) s t = tt
names_none k Count s t = tt
names_none k FullMajor s t = tt

pub refused_step : (version : Version) (z : Sizes) (gone : List Gone) (n : ℕ) (l : TableLine) (s left : TableState) (lines : List TableLine) → MayGo s left → left ≡ once_gone gone n s → MayBeRefused version z lines l left → StepBy version z gone lines n l s Full left
refused_step version z gone n l s left lines goes is may = record { step = record { left = left; goes = goes; does = inr (refl, refl, may) }; left = is; named = names_none (label_of n) l left left }

-- what a witness shows the machine may answer
answers_from : (version : Version) (z : Sizes) (gone : List Gone) (before : List TableLine) (s : TableState) (lines : List TableLine) (replies : List LineReply) (states : List TableState) → RunsBy version z gone before s lines replies states → MachineRuns version z before s lines replies states
answers_from version z gone before s [] [] [] runs = tt
answers_from version z gone before s (l ∷ lines) (a ∷ replies) (t ∷ states) (step, rest) = (step.step, answers_from version z gone (before ++ l ∷ []) t lines replies states rest)
answers_from version z gone before s [] (a ∷ replies) states runs = absurd runs
answers_from version z gone before s [] [] (t ∷ states) runs = absurd runs
answers_from version z gone before s (l ∷ lines) [] states runs = absurd runs
answers_from version z gone before s (l ∷ lines) (a ∷ replies) [] runs = absurd runs

pub answers : (version : Version) (z : Sizes) (gone : List Gone) (lines : List TableLine) (replies : List LineReply) → AnswersBy version z gone lines replies → MachineAnswers version z lines replies
answers version z gone lines replies x = record { states = x.states; runs = answers_from version z gone [] opened lines replies x.states x.runs }
