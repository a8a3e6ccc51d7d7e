use Rattle.std.proofs.Common.{◌≡◌, ◌∙◌, ℕ, ◌+◌, ◌∷◌, replicate, sym, ap, arith}
use Rattle.heap_rule.specs.declared.config.Config.{Config}
use Rattle.heap_rule.specs.declared.view.DomainView.{DomainView}
use Rattle.heap_words.specs.Labels.{label_word}
use Rattle.heap_rule.specs.Token.{next_address}
use Rattle.heap_rule.specs.Places.{class_words}
use Rattle.step_run.specs.Young.Inits.{fields_of}
use Rattle.do_alloc.proofs.OfYoung.Allocating.{head_inside, coloured_head, head_may, alloc_did, alloc_grows, young_fields}
use Rattle.do_alloc.proofs.young.allocation.write_block.Goals as goal

pub head_store-requires : goal.head_store-requires
head_store-requires g c =
    let x : DomainView = c.args.dom.now.view in
    let n : ℕ = c.args.block.fields in
    let here : c.next_address-at.result ≡ next_address c.args.heap.now.config x = c.next_address-at.ensures ∙ ap (λ (k : Config). next_address k x) c.requires.1.0.here.1 in
    let count : c.loop-i.i ≡ n = (let e = c.from-i-end.ensures in let f = c.loop-i-test.false in let b = c.loop-i.auto.i-end in omega arith) in
    let number : c.number.result ≡ x.own.number = c.number.ensures.value in
    let serial : c.labels_made.result ≡ x.own.serial = c.labels_made.ensures in
    let view : c.loop-i.dom.view ≡ record x { seen = record x.seen { made = label_word x.own.number (x.own.serial + 1) ∷ replicate n 1 } } = c.loop-i.invariant.view ∙ (λ j. record x { seen = record x.seen { made = label_word (number j) (serial j + 1) ∷ replicate (count j) 1 } }) in
    let r = c.requires.1.1 in
    let inside = ap (λ (k : Config). k.domains) c.requires.1.0.here.1 in (
      c.loop-i.invariant.here,
      (
        head_inside c.args.heap.now.config x.own.number x.own.used n c.next_address-at.result (let b = c.number.ensures.below in omega arith) r.1.1.0.1 r.1.1.0.0 r.1.1.1.1.1.0 here,
        (
          r.1.1.1.0 ∙ ap (λ (m : ℕ). class_words (m + 2)) (sym (ap fields_of c.requires.0 ∙ young_fields x.own.number c.args.dst c.args.block.tag n)),
          head_may c.args.heap.now c.args.dom.now c.loop-i.dom.view g.entry c.next_address-at.result c.pack_head.result c.args.dst c.from.result c.args.block.tag n c.requires.0 c.requires.1.0 view here c.from.ensures r.0 r.1.0 r.1.1.0.0 r.1.1.0.1
              r.1.1.1.1.0 r.1.1.1.1.1.0 r.1.1.1.1.1.1.0 (coloured_head x n c.args.block.tag c.pack_head.result c.args.colour r.1.1.1.1.1.1.1 c.pack_head.ensures),
        ),
      ),
    )

pub returns-clause-did : goal.returns-clause-did
returns-clause-did g c =
    alloc_did c.args.heap.now c.args.dom.now c.head_store.new.dom c.loop-i.dom.view g.entry _ _ _ _ c.requires.0 c.requires.1.0 c.head_store.ensures.here c.loop-i.invariant.view
    (c.head_store.ensures.told) (cc)

pub returns-clause-grows : goal.returns-clause-grows
returns-clause-grows g c =
    alloc_grows c.args.heap.now.config c.args.dom.now c.head_store.new.dom c.loop-i.dom.view g.entry c.args.block.fields _ _ (ap fields_of c.requires.0 ∙ young_fields c.args.dom.now.view.own.number c.args.dst c.args.block.tag c.args.block.fields) c.loop-i.invariant.view
    (c.head_store.ensures.told)
