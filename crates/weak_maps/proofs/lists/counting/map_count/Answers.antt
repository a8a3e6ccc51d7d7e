use Rattle.std.proofs.Common.{◌≡◌, ◌∙◌, ℕ, List}
use Rattle.model_core.specs.declared.entry.Entry.{Entry}
use Rattle.model_core.specs.declared.state.Sizes.{Sizes}
use Rattle.weak_maps.proofs.OfLists.CountedLemmas.{map_counted}
use Rattle.weak_maps.proofs.OfLists.MachineLemmas.{first_domain, forgets_first, serials_first}
use Rattle.weak_maps.proofs.FrameLemmas.{leaves_trans}
use Rattle.weak_maps.proofs.OfLists.FrameLemmas.{leaves_alone}
use Rattle.weak_maps.proofs.EmptyLemmas.{emptied_at}
use Rattle.weak_maps.proofs.lists.counting.map_count.Goals as goal

pub returns-clause-leaves : goal.returns-clause-leaves
returns-clause-leaves g c = leaves_alone c.requires.alone c.shows_legal.ensures.inside c.shows_legal.ensures.legal c.shows_legal-4.ensures.legal (leaves_trans c.count_block-count.ensures.leaves (leaves_trans c.forget_high.ensures.leaves c.settle.ensures.leaves))

pub returns-clause-counts : goal.returns-clause-counts
returns-clause-counts g c =
    let z : Sizes = g.M.Machine.sizes c.args.m.now in
    let d : ℕ = g.M.Machine.domain c.args.m.now in
    let old : List Entry = g.M.Machine.front c.args.m.now in
    let mid : List Entry = g.M.Machine.front c.count_block-count.new.m in
    let last : List Entry = g.M.Machine.front c.forget_high.new.m in
    let new : List Entry = g.M.Machine.front c.settle.new.m in
    let first : d ≡ 0 = first_domain z d c.requires.alone c.shows_legal.ensures.inside in
    let s1 : g.M.Machine.sizes c.count_block-count.new.m ≡ z = c.count_block-count.ensures.leaves.stays.sizes in
    let s2 : g.M.Machine.sizes c.forget_high.new.m ≡ z = c.forget_high.ensures.leaves.stays.sizes ∙ s1 in
    let o2 : g.M.Machine.domain c.forget_high.new.m ≡ d = c.forget_high.ensures.leaves.stays.domain ∙ c.count_block-count.ensures.leaves.stays.domain in
    map_counted z c.shows_legal.ensures.limits c.requires.alone old mid last new c.args.map c.count_block-count.result (g.M.Machine.labels_left c.args.m.now) (serials_first z d old (g.M.Machine.labels_left c.args.m.now) first c.shows_legal.ensures.labels)
    c.count_block-count.ensures.leaves.grows c.forget_high.ensures.leaves.grows c.count_block-count.ensures.counted (emptied_at z _ 0 _ mid last 16 s1 (c.count_block-count.ensures.leaves.stays.domain ∙ first) c.forget_high.ensures.forgot) (forgets_first z _ _ last new s2 (o2 ∙ first) c.settle.ensures.forgets)
