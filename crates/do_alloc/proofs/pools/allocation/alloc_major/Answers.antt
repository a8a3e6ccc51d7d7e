use Rattle.std.proofs.Common.{ℕ, ◌+◌, ◌^◌, ◌<◌, refl, ap, sym, subst}
use Rattle.heap_rule.specs.declared.view.DomainView.{DomainView}
use Rattle.heap_rule.specs.declared.view.Own.{Own}
use Rattle.heap_words.specs.Classes.Table.{IsLeastFor}
use Rattle.heap_words.specs.declared.classes.TheConstants.{SIZES}
use Rattle.do_alloc.specs.Pools.Taken.{HasPlace}
use Rattle.do_alloc.proofs.OfPools.Seeking.{below_view}
use Rattle.do_alloc.proofs.OfPools.Writing.{searched_did, searched_grows, searched_runs, taken_room, taken_puts, has_still, least_one}
use Rattle.do_alloc.proofs.pools.allocation.alloc_major.Goals as goal

pub write_block-requires : goal.write_block-requires
write_block-requires c =
    let t = c.in_ok-at.ensures.took in
    let view = below_view c.args.heap.now.config c.args.dom.now.view c.take.new.dom.view _ t.view in
    let least = subst (λ (n : ℕ). IsLeastFor SIZES (n + 2) c.class_for-class.result) c.from.ensures c.class_for-class.ensures.least in (
      refl,
      (
        searched_runs c.args.heap.now c.args.dom.now c.take.new.dom _ c.requires.runs c.take.ensures.here view,
        (
          taken_room c.args.heap.now.config c.class_for-class.result c.in_ok-at.at (c.args.fields + 2) c.args.dom.now.view c.take.new.dom.view c.class_for-class.ensures.class least t,
          (c.requires.dst, (c.requires.tag, (c.requires.fields, subst (λ (n : ℕ). n + 1 < 2 ^ 32) (sym (ap (λ (x : DomainView). x.own.serial) view)) c.requires.serial))),
        ),
      ),
    )

pub returns-clause-made : goal.returns-clause-made
returns-clause-made c = record {
  did = searched_did c.args.heap.now c.args.dom.now c.take.new.dom c.write_block.new.dom _ _ _ c.requires.runs c.take.ensures.here (below_view c.args.heap.now.config c.args.dom.now.view c.take.new.dom.view _ c.in_ok-at.ensures.took.view) c.write_block.ensures.did;
  grows = searched_grows c.args.heap.now c.args.dom.now c.take.new.dom c.write_block.new.dom _ c.requires.runs.here c.in_ok-at.ensures.took.view c.write_block.ensures.grows;
  registers = taken_puts c.args.heap.now.config c.class_for-class.result c.in_ok-at.at (c.args.fields + 2) c.args.dst c.args.dom.now c.take.new.dom c.write_block.new.dom (subst (λ (n : ℕ). IsLeastFor SIZES (n + 2) c.class_for-class.result) c.from.ensures c.class_for-class.ensures.least) c.in_ok-at.ensures.took c.write_block.ensures.registers;
  has_place = λ class least. subst (λ (d : ℕ). HasPlace c.args.heap.now.config d c.args.dom.now.view c.write_block.new.dom.view) (least_one (c.args.fields + 2) c.class_for-class.result class (subst (λ (n : ℕ). IsLeastFor SIZES (n + 2) c.class_for-class.result) c.from.ensures c.class_for-class.ensures.least) least)
      (has_still c.args.heap.now.config c.class_for-class.result c.args.dom.now.view c.take.new.dom.view c.write_block.new.dom.view c.in_ok-at.ensures.has_place c.write_block.ensures.free (ap (λ (o : Own). o.swept) c.write_block.ensures.grows.own));
}
