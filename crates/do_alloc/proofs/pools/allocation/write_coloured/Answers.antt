use Rattle.std.proofs.Common.{◌≡◌, ◌∙◌, ℕ, ◌+◌, [], ◌∷◌, replicate, sym, subst, arith}
use Rattle.model_core.specs.declared.entry.Entry.{Entry}
use Rattle.heap_words.specs.Labels.{label_word}
use Rattle.heap_words.specs.declared.value.Value.TheVariants.{Ref}
use Rattle.heap_rule.specs.declared.change.Part.TheVariants.{Register}
use Rattle.heap_rule.specs.declared.change.Change.TheVariants.{Set}
use Rattle.heap_rule.specs.declared.view.Hunt.TheVariants.{Fills}
use Rattle.model_core.specs.Fronts.{PlainShape}
use Rattle.step_pools.specs.Takes.{with_hunt, MajorEntry}
use Rattle.do_alloc.proofs.OfPools.Writing.{head_inside, pooled_head, major_may, major_did}
use Rattle.do_alloc.proofs.pools.allocation.write_coloured.Goals as goal

pub head_store-requires : goal.head_store-requires
head_store-requires g c =
    let r = c.requires.1.1.0 in
    let n : ℕ = c.args.fields in
    let count : c.from.result ≡ n = c.from.ensures in
    let zero : c.pack_value-zero.result ≡ 1 = c.pack_value-zero.ensures in
    let view : c.write_words-label.new.dom.view ≡ with_hunt c.args.dom.now.view (Fills r.pool r.class r.slot (label_word c.args.dom.now.view.own.number (c.args.dom.now.view.own.serial + 1) ∷ replicate n 1)) =
    c.write_words-label.ensures.words r.pool r.class r.slot r.hunt
    ∙ (λ j. with_hunt c.args.dom.now.view (Fills r.pool r.class r.slot (label_word c.args.dom.now.view.own.number (c.args.dom.now.view.own.serial + 1) ∷ replicate (count j) (zero j)))) in
    let rest = c.requires.1.1.1 in (
      c.write_words-label.ensures.here,
      (
        head_inside c.args.heap.now.config c.args.dom.now.view c.args.at (n + 2) (omega arith) r,
        subst (λ (e : Entry). MajorEntry c.args.heap.now.config c.write_words-label.new.dom.view c.args.at c.pack_head.result (Set Register c.from-2.result (record { value = Ref c.args.at; number = 0; more = 0 }) ∷ []) e) (sym c.requires.0)
            (major_may c.args.heap.now c.args.dom.now c.write_words-label.new.dom.view c.args.at c.pack_head.result c.args.dst c.from-2.result c.args.tag c.args.fields c.requires.1.0 r view c.from-2.ensures rest.0 rest.1.0 rest.1.1.0.0 rest.1.1.0.1 rest.1.1.1.0 (pooled_head c.args.dom.now.view (PlainShape c.args.fields c.args.tag) c.pack_head.result c.args.marks.colour c.args.marks.scanned rest.1.1.1.1 c.pack_head.ensures)),
      ),
    )

pub returns-clause-did : goal.returns-clause-did
returns-clause-did g c =
    let r = c.requires.1.1.0 in
    major_did c.args.heap.now c.args.dom.now c.head_store.new.dom c.write_words-label.new.dom.view g.entry c.args.dst c.args.tag c.args.fields _ _ _ c.requires.0 c.requires.1.0 c.head_store.ensures.here (c.write_words-label.ensures.words r.pool r.class r.slot r.hunt) c.head_store.ensures.told
    c.write_words-label.ensures.label
