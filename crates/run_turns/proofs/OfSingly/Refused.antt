-- What the clauses of a command that was handed in refuse.
use Rattle.std.proofs.Common.{◌≡◌, ◌∙◌, ◌++◌, ◌+◌, ℕ, List, [], ◌∷◌, length, length-append, append_assoc, ap, sym, arith, drop, refl}
use Rattle.std.proofs.lemmas.List.{append_cancel_left}
use Rattle.std.specs.Prelude.{get_or}
use Rattle.model_core.specs.declared.command.Command as model
use Rattle.model_core.specs.declared.entry.Entry.{Entry}
use Rattle.model_core.specs.declared.entry.Entry.TheVariants.{Command}
use Rattle.model_core.specs.declared.reply.Reply.{Reply}
use Rattle.model_core.specs.declared.state.Sizes.{Sizes}
use Rattle.model_core.specs.History.{replies}
use Rattle.run_turns.specs.Handed.{PerformedOn}
use Rattle.run_turns.proofs.Handed.{performed_replies}

-- lists with the same end have the same last element, and the same before it
same_ends : {X : Type 0} → (xs ys : List X) (x y : X) → xs ++ x ∷ [] ≡ ys ++ y ∷ [] → (xs ≡ ys) × (x ≡ y)
same_ends [] [] x y e = (refl, ap (λ l. get_or l 0 x) e)
same_ends [] (b ∷ ys) x y e = let long : 0 ≡ length ys + 1 = ap (λ l. length (drop 1 l)) e ∙ length-append ys (y ∷ []) in absurd (omega (arith, long))
same_ends (a ∷ xs) [] x y e = let long : 0 ≡ length xs + 1 = ap (λ l. length (drop 1 l)) (sym e) ∙ length-append xs (x ∷ []) in absurd (omega (arith, long))
same_ends (a ∷ xs) (b ∷ ys) x y e = let on = same_ends xs ys x y (ap (drop 1) e) in (λ i. ap (λ l. get_or l 0 a) e i ∷ on.0 i, on.1)

-- the reply stands behind all that the domain had told before, and behind those of the finalisers: a body that answers an older one is refused, and one that answers that of a finaliser
pub the_reply_is_the_last : (z : Sizes) (d : ℕ) (old new : List Entry) (c : model.Command) (ran : List Reply) (r : Reply) → PerformedOn z d old new c ran r → replies z new d ≡ (replies z old d ++ ran) ++ r ∷ []
the_reply_is_the_last z d old new c ran r p = performed_replies z d old new c ran r p ∙ sym (append_assoc (replies z old d) ran (r ∷ []))

-- what the domain has seen before and after tells which command was made, what it is answered, and which finalisers ran, with their replies in order: a body that answers another command is refused, and so is one that drops the reply of a finaliser, or tells it twice, or tells two in another order
pub one_answer : (z : Sizes) (d : ℕ) (old new : List Entry) (c e : model.Command) (ran told : List Reply) (r s : Reply) → PerformedOn z d old new c ran r → PerformedOn z d old new e told s → (c ≡ e) × (ran ≡ told) × (r ≡ s)
one_answer z d old new c e ran told r s p q =
    let ends = same_ends p.before q.before (Command d c p.full) (Command d e q.full) (sym p.appends ∙ q.appends) in
    let before = ends.0 in
    let last = ends.1 in
    let rest = append_cancel_left old p.finalised.rest q.finalised.rest (sym p.finalised.appends ∙ (before ∙ q.finalised.appends)) in
    let first = p.finalised.ran_are in
    let second = q.finalised.ran_are in
    let one = p.replies in
    let two = q.replies in
    (cc, cc, cc)
