use Rattle.std.proofs.Common.{◌≡◌, ◌∙◌, ℕ, ◌+◌, [], ◌∷◌, replicate, sym, ap, subst, arith}
use Rattle.model_core.specs.declared.entry.Entry.{Entry}
use Rattle.heap_words.specs.Labels.{label_word}
use Rattle.heap_words.specs.declared.value.Value.TheVariants.{Ref}
use Rattle.heap_rule.specs.declared.change.Part.TheVariants.{Register}
use Rattle.heap_rule.specs.declared.change.Change.TheVariants.{Set}
use Rattle.heap_rule.specs.declared.view.Hunt.TheVariants.{Fills}
use Rattle.model_core.specs.Fronts.{EpheShape}
use Rattle.step_pools.specs.Takes.{with_hunt}
use Rattle.step_pools.specs.Ephemerons.{empty_word, EpheEntry}
use Rattle.do_alloc.proofs.OfPools.Writing.{head_inside, pooled_head}
use Rattle.do_alloc.proofs.OfPools.Creating.{ephe_may, ephe_did}
use Rattle.do_alloc.proofs.pools.ephemerons.write_coloured.Goals as goal

pub ephe_store-requires : goal.ephe_store-requires
ephe_store-requires g c =
    let r = c.requires.1.1.0 in
    let n : ℕ = c.args.keys in
    let count : c.from.result + 1 ≡ n + 1 = ap (λ (m : ℕ). m + 1) c.from.ensures in
    let empty : c.pack_value-empty.result ≡ empty_word = c.pack_value-empty.ensures in
    let view : c.write_words-label.new.dom.view ≡ with_hunt c.args.dom.now.view (Fills r.pool r.class r.slot (label_word c.args.dom.now.view.own.number (c.args.dom.now.view.own.serial + 1) ∷ replicate (n + 1) empty_word)) =
    c.write_words-label.ensures.words r.pool r.class r.slot r.hunt
    ∙ (λ j. with_hunt c.args.dom.now.view (Fills r.pool r.class r.slot (label_word c.args.dom.now.view.own.number (c.args.dom.now.view.own.serial + 1) ∷ replicate (count j) (empty j)))) in
    let rest = c.requires.1.1.1 in (
      c.write_words-label.ensures.here,
      (
        head_inside c.args.heap.now.config c.args.dom.now.view c.args.at (n + 3) (omega arith) r,
        subst (λ (e : Entry). EpheEntry c.args.heap.now.config c.write_words-label.new.dom.view c.args.at c.pack_head.result (Set Register c.from-2.result (record { value = Ref c.args.at; number = 0; more = 0 }) ∷ []) e) (sym c.requires.0)
            (ephe_may c.args.heap.now c.args.dom.now c.write_words-label.new.dom.view c.args.at c.pack_head.result c.args.dst c.from-2.result c.args.keys c.requires.1.0 r view c.from-2.ensures rest.0 rest.1.0.0 rest.1.0.1 rest.1.1.0 rest.1.1.1.0 (pooled_head c.args.dom.now.view (EpheShape c.args.keys) c.pack_head.result c.args.marks.colour c.args.marks.scanned rest.1.1.1.1 c.pack_head.ensures)),
      ),
    )

pub returns-clause-did : goal.returns-clause-did
returns-clause-did g c =
    let r = c.requires.1.1.0 in
    ephe_did c.args.heap.now c.args.dom.now c.ephe_store.new.dom c.write_words-label.new.dom.view g.entry c.args.at c.args.dst c.args.keys _ _ _ c.requires.0 c.requires.1.0 c.ephe_store.ensures.here (c.write_words-label.ensures.words r.pool r.class r.slot r.hunt) c.ephe_store.ensures.told
    c.write_words-label.ensures.label
