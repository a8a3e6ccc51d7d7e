use Rattle.std.proofs.Common.{ℕ, Bool, subst}
use Rattle.model_core.specs.declared.state.Sizes.{Sizes}
use Rattle.weak_tables.specs.Walks.{CellAnswers, LinksCell}
use Rattle.weak_tables.proofs.SearchLemmas.{bucket_below}
use Rattle.weak_tables.proofs.PutLemmas.{cell_linked, cell_refused}
use Rattle.weak_tables.proofs.putting.grow.Goals as goal

pub returns-then-not-make_cell-clause-placed : goal.returns-then-not-make_cell-clause-placed
returns-then-not-make_cell-clause-placed g c =
    let z : Sizes = g.M.Machine.sizes c.args.m.now in
    let made = subst (λ (b : Bool). CellAnswers z (g.M.Machine.front c.args.m.now) (g.M.Machine.front c.make_cell.new.m) b) c.if-not-make_cell.true c.make_cell.ensures.made in
    λ root chains held table none full all. cell_refused z c.shows_legal.ensures.limits root chains c.args.label.now c.args.table c.requires.few _ c.shows_legal.ensures.legal (bucket_below c.args.label.now.serial) held table _ made

pub returns-clause-placed : goal.returns-clause-placed
returns-clause-placed g c =
    let z : Sizes = g.M.Machine.sizes c.args.m.now in
    let made = subst (λ (b : Bool). CellAnswers z (g.M.Machine.front c.args.m.now) (g.M.Machine.front c.make_cell.new.m) b) c.if-not-make_cell.false c.make_cell.ensures.made in
    let links = subst (λ (x : Sizes). LinksCell x (g.M.Machine.front c.make_cell.new.m) (g.M.Machine.front c.link_cell.new.m) c.args.table c.bucket_of.result) c.make_cell.ensures.spends.sizes c.link_cell.ensures.links in
    let here = subst (λ (n : ℕ). LinksCell z (g.M.Machine.front c.make_cell.new.m) (g.M.Machine.front c.link_cell.new.m) c.args.table n) c.bucket_of.ensures.bucket links in
    λ root chains held table none full all. cell_linked z c.shows_legal.ensures.limits root chains c.args.label.now c.args.table c.requires.few _ c.shows_legal.ensures.legal (bucket_below c.args.label.now.serial) held table _ _ made none here full all
