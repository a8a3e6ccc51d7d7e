use Rattle.std.proofs.Common.{◌≡◌, ◌∙◌, sym, subst, List, Bool, true, false, inl, inr, refl}
use Rattle.model_core.specs.declared.label.Label.{Label}
use Rattle.model_core.specs.declared.entry.Entry.{Entry}
use Rattle.model_core.specs.declared.state.Sizes.{Sizes}
use Rattle.weak_tables.specs.Walks.{Filled, Fills}
use Rattle.weak_tables.proofs.TakeLemmas.{at_sizes, cleared_sizes}
use Rattle.weak_tables.proofs.MakingLemmas.{array_begun, array_made, array_refused, no_array}
use Rattle.weak_tables.proofs.making.weak_make.Goals as goal

pub returns-then-is_full-clause-made : goal.returns-then-is_full-clause-made
returns-then-is_full-clause-made g c =
    let z : Sizes = g.M.Machine.sizes c.args.m.now in
    inr (refl, array_refused z c.shows_legal.ensures.limits _ _ _ c.args.slots c.shows_legal.ensures.legal c.perform-root.ensures.performed _ (c.is_full.ensures.full.0 c.if-is_full.true) (cleared_sizes z _ _ _ c.perform-root.ensures.sizes c.clear.ensures.cleared))

pub returns-then-not-fill-clause-made : goal.returns-then-not-fill-clause-made
returns-then-not-fill-clause-made g c =
    let z : Sizes = g.M.Machine.sizes c.args.m.now in
    let s1 : g.M.Machine.sizes c.perform-root.new.m ≡ z = c.perform-root.ensures.sizes in
    let s2 : g.M.Machine.sizes c.fill.new.m ≡ z = c.fill.ensures.spends.sizes ∙ s1 in
    let begun = array_begun z c.shows_legal.ensures.limits _ _ _ c.args.slots c.shows_legal.ensures.legal c.perform-root.ensures.performed (λ e. let clash : true ≡ false = sym (c.is_full.ensures.full.1 e) ∙ c.if-is_full.false in cc) in
    let fills : (first : List Entry) (root : Label) → Filled z first (g.M.Machine.front c.perform-root.new.m) root 0 c.args.slots → Fills z first (g.M.Machine.front c.fill.new.m) root c.args.slots false =
    subst (λ (x : Sizes × Bool). (first : List Entry) (root : Label) → Filled x.0 first (g.M.Machine.front c.perform-root.new.m) root 0 c.args.slots → Fills x.0 first (g.M.Machine.front c.fill.new.m) root c.args.slots x.1) (λ i. (s1 i, c.if-not-fill.true i)) c.fill.ensures.fills in
    let t = fills _ begun.0 begun.2 in
    inr (refl, no_array z c.shows_legal.ensures.limits _ _ _ c.args.slots c.shows_legal.ensures.legal c.perform-root.ensures.performed _ _ t.0 t.1 (cleared_sizes z _ _ _ s2 c.clear-then-not-fill.ensures.cleared))

pub returns-clause-made : goal.returns-clause-made
returns-clause-made g c =
    let z : Sizes = g.M.Machine.sizes c.args.m.now in
    let s1 : g.M.Machine.sizes c.perform-root.new.m ≡ z = c.perform-root.ensures.sizes in
    let s2 : g.M.Machine.sizes c.fill.new.m ≡ z = c.fill.ensures.spends.sizes ∙ s1 in
    let s3 : g.M.Machine.sizes c.perform_plain-moved.new.m ≡ z = c.perform_plain-moved.ensures.keeps.sizes ∙ s2 in
    let begun = array_begun z c.shows_legal.ensures.limits _ _ _ c.args.slots c.shows_legal.ensures.legal c.perform-root.ensures.performed (λ e. let clash : true ≡ false = sym (c.is_full.ensures.full.1 e) ∙ c.if-is_full.false in cc) in
    let fills : (first : List Entry) (root : Label) → Filled z first (g.M.Machine.front c.perform-root.new.m) root 0 c.args.slots → Fills z first (g.M.Machine.front c.fill.new.m) root c.args.slots true =
    subst (λ (x : Sizes × Bool). (first : List Entry) (root : Label) → Filled x.0 first (g.M.Machine.front c.perform-root.new.m) root 0 c.args.slots → Fills x.0 first (g.M.Machine.front c.fill.new.m) root c.args.slots x.1) (λ i. (s1 i, c.if-not-fill.false i)) c.fill.ensures.fills in
    inl (
      begun.0,
      begun.1,
      array_made z c.shows_legal.ensures.limits _ _ _ c.args.slots c.shows_legal.ensures.legal c.perform-root.ensures.performed begun.0 _ _ _ _ c.args.dst c.requires.few (fills _ begun.0 begun.2)
          (at_sizes z _ _ _ _ _ s2 c.perform_plain-moved.ensures.performed) (cleared_sizes z _ _ _ s3 c.clear-2.ensures.cleared),
    )
