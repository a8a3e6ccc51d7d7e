use Rattle.std.proofs.Common.{ℕ, sym, subst}
use Rattle.step_promote.specs.Promotion.{RewriteMay, RewriteTold}
use Rattle.gc_copy.proofs.Rooting.{field_grown, rewrite_may, rewritten}
use Rattle.gc_copy.proofs.roots.rewrite_field.Goals as goal

pub forwarded-value-requires-clause-works : goal.forwarded-value-requires-clause-works
forwarded-value-requires-clause-works c = let f = c.requires.first in let l = c.remembered_load-word in
    (field_grown c.args.heap.now.config c.args.dom.now.view l.new.dom.view c.args.at l.result c.requires.works c.requires.tied f.0 f.1 l.ensures.told).works

pub remembered_store-requires-clause-may : goal.remembered_store-requires-clause-may
remembered_store-requires-clause-may c = let f = c.requires.first in let l = c.remembered_load-word in
    subst (RewriteMay c.args.heap.now.config c.forwarded-value.new.dom.view c.args.at) (sym c.pack_value.ensures)
    (rewrite_may c.args.heap.now.config c.args.dom.now.view l.new.dom.view c.args.at l.result c.requires.works c.requires.tied f.0 f.1 l.ensures.told c.read_as.result c.read_as.ensures c.forwarded-value.new.dom.view c.forwarded-value.result c.forwarded-value.ensures.forwarded)

pub returns-clause-rewritten : goal.returns-clause-rewritten
returns-clause-rewritten c = let f = c.requires.first in let l = c.remembered_load-word in
    rewritten c.args.heap.now.config c.args.dom.now.view l.new.dom.view c.args.at l.result c.requires.works c.requires.tied f.0 f.1 l.ensures.told c.read_as.result c.read_as.ensures c.forwarded-value.new.dom.view c.forwarded-value.result c.forwarded-value.ensures.forwarded
    c.remembered_store.new.dom.view (subst (λ (n : ℕ). RewriteTold c.args.at c.forwarded-value.new.dom.view n c.remembered_store.new.dom.view) c.pack_value.ensures c.remembered_store.ensures.told)
