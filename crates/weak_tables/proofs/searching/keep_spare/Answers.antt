use Rattle.std.proofs.Common.{◌≡◌, ◌∙◌, sym, inl, inr, true, false, refl}
use Rattle.weak_tables.proofs.searching.keep_spare.Goals as goal

pub returns-then-spare-clause-kept : goal.returns-then-spare-clause-kept
returns-then-spare-clause-kept g c = inl (refl, sym c.if-spare.true, inl c.if-spare.true)

pub returns-then-not-is_empty-clause-kept : goal.returns-then-not-is_empty-clause-kept
returns-then-not-is_empty-clause-kept g c = inl (refl, sym c.if-spare.false, inr (λ e. let clash : true ≡ false = sym (c.is_empty.ensures.1 e) ∙ c.if-not-is_empty.true in cc))

pub returns-clause-kept : goal.returns-clause-kept
returns-clause-kept g c = inr (c.if-spare.false, c.is_empty.ensures.0 c.if-not-is_empty.false, refl, (_, c.load-spare.ensures.performed))
