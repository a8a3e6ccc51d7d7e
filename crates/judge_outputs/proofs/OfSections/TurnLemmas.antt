-- Turn after turn.
use Rattle.std.proofs.Common.{◌≡◌, inl, inr, ℕ, zero, suc, ◌+◌, ◌≤◌, ◌<◌, List, [], ◌∷◌, ◌++◌, map, length, take, drop, slice_get, Some, None, refl, ap, sym, ◌∙◌, subst, arith, append_assoc}
use Rattle.table_text.specs.declared.line.TableLine.{TableLine}
use Rattle.table_text.specs.declared.machine.reply.LineReply.{LineReply}
use Rattle.table_text.specs.declared.machine.reply.LineReply.TheVariants.{Full}
use Rattle.table_text.specs.Machine.Machine.{TableState, MayGo, Effect}
use Rattle.judge_outputs.specs.declared.sections.turn.Turn.{Turn}
use Rattle.judge_outputs.specs.Sections.Machine.{MayBeFull, SharedStep, opened_by, placed}
use Rattle.std.proofs.lemmas.List.{append-nil, take_all}
use Rattle.judge_outputs.specs.Sections.Turns.{TurnsAnswered, TurnsRun, section_told, told_from}

-- a line before which keys have gone
pub made_step : (l : TableLine) (s left t : TableState) (a : LineReply) → MayGo s left → Effect left l a t → SharedStep l s a t
made_step l s left t a goes does = record { left = left; goes = goes; does = inl does }

-- and one that is refused
pub refused_step : (l : TableLine) (s left : TableState) (a : LineReply) → a ≡ Full → MayGo s left → MayBeFull l left → SharedStep l s a left
refused_step l s left a is goes may = record { left = left; goes = goes; does = inr (is, refl, may) }

-- a machine that goes on from here, with the turns from the i-th on, has given all replies
abbrev pub RunsBefore : ℕ → List Turn → ℕ → TableState → Type 0
RunsBefore domains turns i s = (states : List TableState) → TurnsRun s (drop i turns) states → TurnsAnswered domains turns

pub runs_first : (domains : ℕ) (turns : List Turn) (s : TableState) → s ≡ opened_by domains → RunsBefore domains turns 0 s
runs_first domains turns s is states runs = record { states = states; runs = subst (λ x. TurnsRun x turns states) is runs }

drop_at : {A : Type 0} (xs : List A) (i : ℕ) (x : A) → slice_get xs i ≡ Some x → drop i xs ≡ x ∷ drop (suc i) xs
drop_at [] i x at = absurd (let clash : None ≡ Some x = at in cc)
drop_at (y ∷ xs) zero x at = let is : y ≡ x = cc in ap (λ w. w ∷ xs) is
drop_at (y ∷ xs) (suc i) x at = drop_at xs i x at

pub runs_more : (domains : ℕ) (turns : List Turn) (i j : ℕ) (s u : TableState) (t : Turn) → j ≡ i + 1 → slice_get turns i ≡ Some t → SharedStep (placed t.domain t.line) s t.reply u → RunsBefore domains turns i s → RunsBefore domains turns j u
runs_more domains turns i j s u t next at step before states runs =
    let later : j ≡ suc i = omega (arith, next) in
    before (u ∷ states) (subst (λ ts. TurnsRun s ts (u ∷ states)) (sym (drop_at turns i t at)) (step, subst (λ k. TurnsRun u (drop k turns) states) later runs))

drop_none : {A : Type 0} (xs : List A) (i : ℕ) → length xs ≤ i → drop i xs ≡ []
drop_none [] zero most = refl
drop_none [] (suc i) most = refl
drop_none (x ∷ xs) zero most = absurd (omega (arith, most))
drop_none (x ∷ xs) (suc i) most = drop_none xs i (omega (arith, most))

pub runs_last : (domains : ℕ) (turns : List Turn) (i : ℕ) (s : TableState) → length turns ≤ i → RunsBefore domains turns i s → TurnsAnswered domains turns
runs_last domains turns i s few before = before [] (subst (λ ts. TurnsRun s ts []) (sym (drop_none turns i few)) tt)

-- what is told of one domain more, and of all
pub told_more : (domains d j : ℕ) (turns : List Turn) (text new all : List ℕ) → j ≡ d + 1 → new ≡ text ++ section_told d turns
    → ((n : ℕ) → d + n ≡ domains → text ++ told_from d n turns ≡ all) → (n : ℕ) → j + n ≡ domains → new ++ told_from j n turns ≡ all
told_more domains d j turns text new all next put before n is =
    ap (λ k. new ++ told_from k n turns) next
    ∙ ap (λ (t : List ℕ). t ++ told_from (d + 1) n turns) put
    ∙ append_assoc text (section_told d turns) (told_from (d + 1) n turns)
    ∙ before (suc n) (omega (arith, next, is))

pub told_all : (domains d : ℕ) (turns : List Turn) (text all : List ℕ) → d ≡ domains → ((n : ℕ) → d + n ≡ domains → text ++ told_from d n turns ≡ all) → text ≡ all
told_all domains d turns text all is before = sym (append-nil text) ∙ before 0 (omega (arith, is))

-- the section at a place
pub got_at : {A B : Type 0} (f : A → B) (xs : List A) (i : ℕ) (x : A) (y : B) → slice_get xs i ≡ Some x → slice_get (map f xs) i ≡ Some y → f x ≡ y
got_at f [] i x y at is = absurd (let clash : None ≡ Some x = at in cc)
got_at f (z ∷ xs) zero x y at is = let same : z ≡ x = cc in let here : f z ≡ y = cc in ap f (sym same) ∙ here
got_at f (z ∷ xs) (suc i) x y at is = got_at f xs i x y at is

pub none_behind : {A B : Type 0} (f : A → B) (xs : List A) (i : ℕ) (y : B) → slice_get (map f xs) i ≡ Some y → i < length xs
none_behind f [] i y is = absurd (let clash : None ≡ Some y = is in cc)
none_behind f (z ∷ xs) zero y is = omega arith
none_behind f (z ∷ xs) (suc i) y is = let rest = none_behind f xs i y is in omega (arith, rest)

pub in_range : {A : Type 0} (xs : List A) (i : ℕ) (x : A) → slice_get xs i ≡ Some x → i < length xs
in_range [] i x is = absurd (let clash : None ≡ Some x = is in cc)
in_range (z ∷ xs) zero x is = omega arith
in_range (z ∷ xs) (suc i) x is = let rest = in_range xs i x is in omega (arith, rest)

-- lists of one length that are the same as far as both go
pub same_whole : {A : Type 0} (xs ys : List A) (i : ℕ) → length xs ≡ length ys → length xs ≤ i → take i xs ≡ take i ys → xs ≡ ys
same_whole xs ys i same few front = sym (take_all i xs few) ∙ front ∙ take_all i ys (omega (arith, same, few))
