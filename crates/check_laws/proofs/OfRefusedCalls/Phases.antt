-- What the clauses of looking at the barrier, of arriving and of naming the next kind refuse, beside those of `Pauses`.
use Rattle.std.proofs.Common.{◌≡◌, ◌≢◌, ◌∙◌, ℕ, ◌+◌, ◌<◌, Some, List, [], ◌∷◌, ◌++◌, length, refl, sym, ap, inl, arith}
use Rattle.std.proofs.lemmas.Option.{same_Some}
use Rattle.heap_rule.specs.declared.config.Config.{Config}
use Rattle.heap_rule.specs.declared.phase.Kind.{Kind}
use Rattle.heap_rule.specs.declared.phase.Kind.TheVariants.{Decide, Lasts, Mark, Rounds, Sweep}
use Rattle.heap_rule.specs.declared.phase.Note.{Note}
use Rattle.heap_rule.specs.declared.phase.Note.TheVariants.{Barrier}
use Rattle.heap_rule.specs.declared.phase.Stage.TheVariants.{In}
use Rattle.heap_rule.specs.declared.view.DomainView.{DomainView}
use Rattle.heap_rule.specs.declared.view.Share.{Share}
use Rattle.step_pauses.specs.Pauses.{ArriveMay, MayFollow}
use Rattle.gc_pause.specs.Stops.Looks.{LookAnswers}
use Rattle.gc_pause.specs.declared.stops.answer.Look.TheVariants.{Next, NotAll}
use Rattle.check_laws.proofs.OfRefusedCalls.Finalisers.{lengths}

-- marking isn't left for the rounds while something was changed
pub no_grey_block_is_left : (share : Share) (found : ℕ) → MayFollow share Mark Rounds → share.changed ≡ Some found → found ≢ 0 → ⊥
no_grey_block_is_left share found m changed some = some (same_Some found 0 (sym changed ∙ m.unchanged (inl refl)))

-- a domain doesn't arrive before it has looked at each of its registrations
pub no_registration_is_left_undecided : (k : Config) (x : DomainView) → ArriveMay k x → x.seen.stage ≡ In Decide → x.seen.share.kept ≢ length x.own.finalisers.finals.items → ⊥
no_registration_is_left_undecided k x m stage other = other (m.done.decided stage)

pub no_last_is_left_undecided : (k : Config) (x : DomainView) → ArriveMay k x → x.seen.stage ≡ In Lasts → x.seen.share.kept ≢ length x.own.finalisers.lasts.items → ⊥
no_last_is_left_undecided k x m stage other = other (m.done.settled stage)

-- nor, where it has swept, before it has looked whether each of its pools holds a block
pub no_pool_is_kept_without_a_look : (k : Config) (x : DomainView) → ArriveMay k x → x.seen.stage ≡ In Sweep → x.seen.share.held < x.own.swept.top → ⊥
no_pool_is_kept_without_a_look k x m stage left = let held = m.done.held (inl stage) in omega (arith, held, left)

-- nor, where it has marked, before it has been at each of its pools
pub no_pool_is_left_unmarked : (k : Config) (x : DomainView) → ArriveMay k x → x.seen.stage ≡ In Mark → x.seen.share.walk.pool < x.own.swept.top → ⊥
no_pool_is_left_unmarked k x m stage left = let walked = m.done.walked stage in omega (arith, walked, left)

-- a look tells of one kind of phase
pub a_look_tells_one_kind : (k : Config) (x y : DomainView) (one other : Kind) → LookAnswers k x y (Next one) → LookAnswers k x y (Next other) → one ≡ other
a_look_tells_one_kind k x y one other a b = let e : In one ≡ In other = sym a.1 ∙ b.1 in cc

-- and no domain is said to wait without one
pub no_wait_without_a_look : (k : Config) (x y : DomainView) (b : ℕ) → LookAnswers k x y (NotAll b) → y ≡ x → ⊥
no_wait_without_a_look k x y b look same =
    let l : List Note = x.seen.notes in
    let noted : l ≡ l ++ Barrier b ∷ [] = ap (λ (v : DomainView). v.seen.notes) (sym same ∙ look.1) in
    let n : ℕ = length l in
    let more : length (l ++ Barrier b ∷ []) ≡ n + 1 = lengths l (Barrier b ∷ []) in
    let all : n ≡ length (l ++ Barrier b ∷ []) = ap (λ (m : List Note). length m) noted in
    omega (arith, more, all)
