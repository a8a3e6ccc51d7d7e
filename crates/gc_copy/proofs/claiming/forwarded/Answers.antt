use Rattle.std.proofs.Common.{sym, subst}
use Rattle.heap_words.specs.declared.value.Value.{Value}
use Rattle.heap_words.specs.declared.value.Value.TheVariants.{Ref}
use Rattle.gc_copy.specs.Working.{StandsFor, Forwarded}
use Rattle.gc_copy.proofs.Valuing.{ref_inside, ref_forwarded}
use Rattle.gc_copy.proofs.claiming.forwarded.Goals as goal

pub claim-requires-clause-inside : goal.claim-requires-clause-inside
claim-requires-clause-inside c = ref_inside c.args.heap.now.config c.args.dom.now.view c.in-Ref.address c.requires.works (subst (StandsFor c.args.dom.now.view) c.in-Ref.is c.requires.stands)

pub returns-in-Ref-clause-forwarded : goal.returns-in-Ref-clause-forwarded
returns-in-Ref-clause-forwarded c = subst (λ (v : Value). Forwarded c.args.heap.now.config v c.args.dom.now.view c.claim.new.dom.view (Ref c.claim.result)) (sym c.in-Ref.is)
    (ref_forwarded c.args.heap.now.config c.args.dom.now.view c.claim.new.dom.view c.in-Ref.address c.claim.result c.config-pools.ensures.limits c.claim.ensures.claimed)
