use Rattle.std.proofs.Common.{◌≡◌, ◌∙◌, sym, true, false}
use Rattle.model_core.specs.declared.state.Sizes.{Sizes}
use Rattle.weak_tables.proofs.TakeLemmas.{at_sizes, cleared_sizes}
use Rattle.weak_tables.proofs.SlotLemmas.{get_past, get_read}
use Rattle.weak_tables.proofs.arrays.weak_get.Goals as goal

pub returns-then-is_past-clause-answer : goal.returns-then-is_past-clause-answer
returns-then-is_past-clause-answer g c =
    let z : Sizes = g.M.Machine.sizes c.args.m.now in
    λ root slots held array. get_past z c.shows_legal.ensures.limits root slots c.args.array c.args.index _ _ c.load-slot.result c.shows_legal.ensures.legal held array c.load-slot.ensures.performed c.args.dst (c.is_past.ensures.0 c.if-is_past.true)

pub returns-clause-answer : goal.returns-clause-answer
returns-clause-answer g c =
    let z : Sizes = g.M.Machine.sizes c.args.m.now in
    let s1 : g.M.Machine.sizes c.load-slot.new.m ≡ z = c.load-slot.ensures.passes.keeps.sizes in
    λ root slots held array. get_read z c.shows_legal.ensures.limits root slots c.args.array c.args.index _ _ c.load-slot.result c.shows_legal.ensures.legal held array c.load-slot.ensures.performed
    (λ e. let clash : true ≡ false = sym (c.is_past.ensures.1 e) ∙ c.if-is_past.false in cc) _ _ _ (cleared_sizes z _ _ _ (c.perform_plain-reply.ensures.keeps.sizes ∙ s1) c.clear.ensures.cleared) c.args.dst c.requires.few.0
    (at_sizes z _ _ _ _ _ s1 c.perform_plain-reply.ensures.performed)
