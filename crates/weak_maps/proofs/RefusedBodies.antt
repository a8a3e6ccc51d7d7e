-- What the clauses of a put refuse: where a clause holds a wrong outcome doesn't, whatever body met it.
use Rattle.std.proofs.Common.{◌<◌, ⊎_elim, ℕ, ◌+◌, ◌≤◌, arith}
use Rattle.model_core.specs.declared.reply.Reply.TheVariants as reply
use Rattle.weak_maps.specs.Crowds.{PutCounts}

-- a put doesn't answer `full` at once, or after it has lost a field: either an allocation was refused, or a leaf and six blocks were made
pub no_full_at_once : (labels left refused : ℕ) → labels < left + 7 → PutCounts labels left refused refused reply.Full → ⊥
no_full_at_once labels left refused few x = ⊎_elim (λ one. omega (arith, one.0)) (λ none. omega (arith, few, none.1)) x

-- nor does it swallow a refusal: an allocation that was refused ends it as `full`
pub no_refusal_is_done : (labels left refused now : ℕ) → refused < now → PutCounts labels left refused now reply.Done → ⊥
no_refusal_is_done labels left refused now more x = let same = x.0 in omega (arith, more, same)

-- nor is it refused twice
pub no_second_refusal : (labels left refused now : ℕ) → PutCounts labels left refused now reply.Full → now ≤ refused + 1
no_second_refusal labels left refused now x = ⊎_elim (λ one. let is = one.0 in omega (arith, is)) (λ none. let is = none.0 in omega (arith, is)) x
