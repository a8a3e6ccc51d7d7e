use Rattle.std.proofs.Common.{◌≡◌, ◌∙◌}
use Rattle.model_core.specs.declared.state.Sizes.{Sizes}
use Rattle.weak_tables.proofs.TakeLemmas.{at_sizes}
use Rattle.weak_tables.proofs.putting.link_cell.Goals as goal

pub returns-clause-links : goal.returns-clause-links
returns-clause-links g c =
    let z : Sizes = g.M.Machine.sizes c.args.m.now in
    let s1 : g.M.Machine.sizes c.store-first.new.m ≡ z = c.store-first.ensures.passes.keeps.sizes in
    let s2 : g.M.Machine.sizes c.load-head.new.m ≡ z = c.load-head.ensures.passes.keeps.sizes ∙ s1 in
    let s3 : g.M.Machine.sizes c.store-second.new.m ≡ z = c.store-second.ensures.passes.keeps.sizes ∙ s2 in record {
      named = g.M.Machine.front c.store-first.new.m;
      read = g.M.Machine.front c.load-head.new.m;
      followed = g.M.Machine.front c.store-second.new.m;
      ephe_reply = c.store-first.result;
      head_reply = c.load-head.result;
      next_reply = c.store-second.result;
      linked_reply = c.store-linked.result;
      ephe = c.store-first.ensures.performed;
      head = at_sizes z _ _ _ _ _ s1 c.load-head.ensures.performed;
      next = at_sizes z _ _ _ _ _ s2 c.store-second.ensures.performed;
      linked = at_sizes z _ _ _ _ _ s3 c.store-linked.ensures.performed;
    }
