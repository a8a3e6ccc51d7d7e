-- The rotation of the colours keeps the rule.
use Rattle.std.proofs.Common.{◌≡◌, ◌≢◌, ℕ, zero, suc, ◌+◌, ◌<◌, ◌≤◌, Bool, true, false, true≢false, cond, IsTrue, List, [], ◌∷◌, map, option_to_list, length, get_or, set, slice_get, filter_map, Some, None, Option, unwrap_or, sym, refl, ap, ◌∙◌, subst, inl, inr, ⊎_elim, arith, length-set, get_or-set_same, get_or-set_other}
use Rattle.std.proofs.lemmas.Option.{none-some, same_Some, unwrap_or-slice_get}
use mathlib.Core.Option.{some}
use lib.ListN.{get_elem?}
use Rattle.atomic_table.specs.Table.{keeps}
use Rattle.model_core.specs.declared.entry.Entry.{Entry}
use Rattle.model_core.specs.declared.label.Label.{Label}
use Rattle.model_core.specs.declared.graph.Node.{Node}
use Rattle.model_core.specs.declared.graph.Node.TheVariants.{Plain, Raw, Ephe}
use Rattle.model_core.specs.declared.graph.Value.{Value}
use Rattle.model_core.specs.declared.graph.Value.TheVariants.{Block, Nothing}
use Rattle.model_core.specs.declared.state.Sizes.{Sizes}
use Rattle.model_core.specs.declared.state.State as model
use Rattle.model_core.specs.Domains.{domain_at, opening, register}
use Rattle.model_core.specs.Commands.{has_full_fields, is_int_value, key_value}
use Rattle.model_core.specs.Entries.{full_keys}
use Rattle.model_core.specs.Graph.{has_label, label_of, node_at, same_label}
use Rattle.model_core.proofs.Graphs.GraphLemmas.{same_label_refl}
use Rattle.model_core.proofs.Graphs.ListLemmas.{all_at}
use Rattle.model_core.proofs.Histories.FieldLemmas.{fields_law}
use Rattle.model_core.proofs.Reach.ReachLemmas.{or_left}
use Rattle.model_core.proofs.Histories.ShapeAfterLemmas.{shaped-history}
use Rattle.heap_words.specs.ColourWords.{colours_word, rotated}
use Rattle.heap_words.specs.Heads.{head_word}
use Rattle.heap_words.specs.declared.colours.Colours.{Colours}
use Rattle.model_cycle.specs.Marks.{data_of, fields_of}
use Rattle.model_cycle.specs.Shares.{AllArrived, AllOwned}
use Rattle.model_cycle.specs.Taking.{LeadsToMarked}
use Rattle.model_cycle.proofs.Cycling.{phase_steps}
use Rattle.model_cycle.proofs.DomainParts.{listed_at}
use Rattle.model_cycle.specs.Fullness.{HoldsKept, kept_labels}
use Rattle.step_marks.proofs.OfMarking.Unswept.{none_unswept, swept_tracing}
use Rattle.heap_rule.proofs.Growing.{grows_none}
use Rattle.heap_rule.proofs.Lots.{lived_unprepared, none_before}
use Rattle.heap_rule.specs.declared.view.Reaping.TheVariants.{Outside, Inside, AtGarbage}
use Rattle.heap_rule.specs.declared.view.Reaping.{Reaping}
use Rattle.heap_rule.specs.declared.view.Swept.{Swept}
use Rattle.heap_rule.specs.Sweeping.{Reaps, SweepsIn, nothing_swept}
use Rattle.heap_rule.specs.declared.config.Config.{Config}
use Rattle.heap_rule.specs.declared.phase.Kind.{Kind}
use Rattle.heap_rule.specs.declared.phase.Kind.TheVariants.{Run, Clean, Lasts, Sweep}
use Rattle.heap_rule.specs.declared.phase.Stage.TheVariants.{Leads}
use Rattle.heap_rule.specs.declared.view.DomainView.{DomainView}
use Rattle.heap_rule.specs.declared.view.Share.{Share}
use Rattle.heap_rule.specs.Changes.{value_at}
use Rattle.heap_rule.specs.Copies.{Promoting, Resetting}
use Rattle.heap_rule.specs.Beside.{RunsBeside}
use Rattle.heap_rule.specs.Cycles.{IsMarking, Cycled, Cycling, Facts, IsCollecting, IsGarbageHead, IsIdle, Knowing, Leaving, layout_of, swept_of}
use Rattle.heap_rule.specs.Layout.{at_address, before_heap, heap_words}
use Rattle.heap_rule.specs.Limits.{sizes_in}
use Rattle.heap_rule.specs.Phases.{AtStage}
use Rattle.heap_rule.specs.Places.{IsBare, IsOldAt, Live, Place, head_of, values_of, without_keys}
use Rattle.heap_rule.specs.Pools.{Grid, Hunter, Tenancy, place_in, IsBefore, OwnPlace, blocks_of, owned}
use Rattle.heap_rule.specs.Raw.{CanLeave, Closes, Leaves, MayStore}
use Rattle.heap_rule.specs.Rule.{AllFound, Good, Rule, Sharing, Stood, state_of}
use Rattle.heap_rule.specs.Views.{one}
use Rattle.heap_rule.specs.Deciding.{Deciding, IsRooting}
use Rattle.heap_rule.specs.Ephemerons.{Listed}
use Rattle.heap_rule.proofs.EphemeronLemmas.{listed_on, looks_idle}
use Rattle.heap_rule.proofs.Again.{Back, ephe_back, lots_back}
use Rattle.heap_rule.proofs.Holders.{Agrees, SameFor, SameHeap, agrees_set, found_heap, hunter_agree, making_heap, stock_self}
use Rattle.heap_rule.proofs.Keeps.{Words, hunter_as, my_good, mine}
use Rattle.heap_rule.proofs.PauseFacts.{not_both}
use Rattle.step_marks.specs.Marking.Looks.{with_share}
use Rattle.step_marks.proofs.OfMarking.Learning.{whole_in}
use Rattle.step_marks.proofs.OfMarking.Pausing.{paused_on}
use Rattle.step_marks.proofs.OfMarking.Plain.{share_closes}
use Rattle.step_marks.proofs.OfMarking.Layouts.{label_there, labelled}
use Rattle.step_sweep.specs.Turning.{TurnMay, TurnTold}
use Rattle.step_sweep.proofs.Enrolling.{enrolled_left}
use Rattle.model_core.proofs.Histories.SizesLemmas.{sizes_after}
use Rattle.step_sweep.proofs.Reaping.{reaped_to, reaps}
use Rattle.step_sweep.proofs.Rotating.{dead_gone, dead_was, kept_of, kept_or_dead, kept_was, left_garbage, left_live, rotated_fits, rotated_paint, stands_left, was_kept}
use Rattle.heap_rule.proofs.Lists.{no_item}

-- a register's block is one of its domain's
held_at : (xs : List Value) (i : ℕ) (l : Label) → get_or xs i Nothing ≡ Block l → IsTrue (has_label (filter_map label_of xs) l)
held_at xs i l e = go (slice_get xs i) refl (unwrap_or-slice_get xs i Nothing ∙ e)
  where
    go : (o : Option Value) → slice_get xs i ≡ o → unwrap_or o Nothing ≡ Block l → IsTrue (has_label (filter_map label_of xs) l)
    go None f g = absurd (let clash : Nothing ≡ Block l = g in cc)
    go (Some v) f g = listed_at label_of xs i v l f (ap label_of g)

label_here : (l : Label) → IsTrue (has_label (option_to_list (Some l)) l)
label_here l = or_left (same_label l l) (has_label [] l) (same_label_refl l)

-- a block among the values of keys is a key
key_at : (keys : List (Option Label)) (j : ℕ) (y : Label) → slice_get (map key_value keys) j ≡ Some (Block y) → slice_get keys j ≡ Some (Some y)
key_at [] j y e = absurd (none-some (Block y) e)
key_at (None ∷ keys) zero y e = absurd (let clash : Nothing ≡ Block y = same_Some Nothing (Block y) e in cc)
key_at (Some l ∷ keys) zero y e = let same : Block l ≡ Block y = same_Some (Block l) (Block y) e in let is : l ≡ y = cc in ap (λ (z : Label). Some (Some z)) is
key_at (key ∷ keys) (suc j) y e = key_at keys j y e

module _ (k : Config) (s : Words) (r : Rule k s) (id : ℕ) (hist : List Entry) (x : DomainView) (at : get_elem? s.views id ≡ some (one k hist x)) (new : ℕ) (may : TurnMay x new) where
  open r.account use {live, tenancy as t, cycling as c}
  open x use {own.{number as d}}

  abbrev now : model.State
  now = state_of k r.account.log

  abbrev words' : List ℕ
  words' = set s.words 5 new

  abbrev live' : Live
  live' = left_live c.before live

  abbrev garbage' : ℕ → Bool
  garbage' = left_garbage c.before live

  abbrev t' : Tenancy
  t' = record t { garbage = garbage' }

  abbrev c' : Cycling
  c' = record c { paint = rotated_paint c.paint; rotated = true }

  good : Good k r.account s.words x
  good = my_good k s r id hist x at

  stands_here : AtStage r.account.pause d x.own.arrivals (Leads Lasts)
  stands_here = subst (AtStage r.account.pause d x.own.arrivals) may.stage good.staged.stage

  told : (r.account.pause.kinds stands_here.1.0 ≡ c.kind) × AllArrived k.domains c.shares
  told = r.whole.cycle.told.odd stands_here.1.0 stands_here.1.1 (stands_here.2 may.first)

  kind_is : c.kind ≡ Lasts
  kind_is = sym told.0 ∙ stands_here.1.2

  facts : Leaving k now live t c
  facts = subst (λ (kind : Kind). Facts kind k now live t c s.words) kind_is r.whole.cycle.facts

  unrotated : c.rotated ≡ false
  unrotated = good.sharing.leading.rotated may.first kind_is ∙ may.not_yet

  -- there is no garbage yet
  no_garbage : (a : ℕ) → t.garbage a ≡ false
  no_garbage = none_unswept k now live r.account.pause t c s.words r.whole.cycle Lasts tt kind_is unrotated

  counted : k.domains ≡ length now.domains
  counted = sym ((shaped-history (sizes_in k) r.account.log r.limits).domain_count ∙ ap (λ (z : Sizes). z.domains) (sizes_after (opening (sizes_in k)) r.account.log))

  leads : LeadsToMarked now c.before
  leads = (phase_steps.lasts_sweep k.domains now (swept_of k live t.holder c) counted facts.facts told.1).0

  calm : Promoting r.account.pause → ⊥
  calm p = not_both r.account.pause.phase (p.0, p.1) (stands_here.1.0, stands_here.1.1)

  resetting : Resetting r.account.pause
  resetting = inl (stands_here.1.0, stands_here.1.1, λ e. let f : Run ≡ Lasts = sym e ∙ stands_here.1.2 in cc)

  old : (a : ℕ) (p : Place) → live a ≡ Some p → IsOldAt k a
  old a p lives = r.whole.emptied resetting a p lives

  bare : (a : ℕ) (p : Place) → live a ≡ Some p → IsBare p
  bare a p lives = ⊎_elim (λ settled. settled a p lives) (λ (h : Promoting r.account.pause). absurd (calm h)) r.whole.settled

  other : (i : ℕ) → i ≢ 5 → get_or words' i 0 ≡ get_or s.words i 0
  other i differ = get_or-set_other s.words 5 i new 0 differ

  heap : SameHeap k s.words words'
  heap a low = other (before_heap k + a) (λ e. omega arith)

  back : Back live live'
  back b q lives = record { place = q; lives = (kept_was c.before live b q lives).0; label = refl; shape = refl; forward = refl }

  -- what a marked block refers to is marked
  leads_field : (l : Label) → IsTrue (c.before l) → (n : Node) → node_at now.graph l ≡ Some n → IsTrue (has_full_fields n) → (i : ℕ) (y : Label) → slice_get (values_of n) i ≡ Some (Block y) → IsTrue (c.before y)
  leads_field l is (Plain tag fields) there full i y got = leads.fields l is y (subst (λ (o : Option Node). IsTrue (has_label (fields_of o) y)) (sym there) (listed_at label_of fields i (Block y) y got refl))
  leads_field l is (Raw tag fields) there full i y got = absurd (let clash : false ≡ true = all_at is_int_value fields full i (Block y) got in cc)
  leads_field l is (Ephe keys datum) there full zero y got = let same : datum ≡ Block y = same_Some datum (Block y) got in leads.datum l is y (subst (λ (o : Option Node). IsTrue (has_label (data_of o) y)) (sym there) (subst (λ (v : Value). IsTrue (has_label (option_to_list (label_of v)) y)) (sym same) (label_here y)))
  leads_field l is (Ephe keys datum) there full (suc j) y got = leads.keys l is y (subst (λ (o : Option Node). IsTrue (has_label (full_keys o) y)) (sym there) (listed_at (λ o. o) keys j (Some y) y (key_at keys j y got) refl))

  -- no block misses keys
  whole : (l : Label) → c.paint.emptied l ≡ []
  whole = whole_in k s r id hist x at (λ e. let same : Lasts ≡ Clean = sym kind_is ∙ e in cc)

  whole_value : (n : Node) (l : Label) (i : ℕ) (v : Value) → slice_get (values_of (without_keys (c.paint.emptied l) n)) i ≡ Some v → slice_get (values_of n) i ≡ Some v
  whole_value n l i v got = ap (λ (keys : List ℕ). slice_get (values_of (without_keys keys n)) i) (sym (whole l)) ∙ got

  found' : AllFound k (rotated_paint c.paint) live' now.graph words'
  found' a p lives =
      let was = kept_was c.before live a p lives in
      let f = found_heap k c.paint live now.graph s.words words' heap r.whole.placed r.whole.found a p was.0 in
      let cs : Colours = c.paint.colours in record {
        node = f.node;
        there = f.there;
        shape = f.shape;
        head = record {
          scanned = f.head.scanned;
          packs = f.head.packs ∙ ap (λ (b : Bool). head_word (head_of p.forward p.shape (cond b cs.marked cs.unmarked) f.head.scanned)) (facts.stays unrotated p.label ∙ was.1);
          tells = λ is. cc;
        };
        blank = f.blank;
        label = f.label;
        values = λ i v has got. let w = f.values i v has got in record { value = w.value; packs = w.packs; stands = stands_left c.before live w.value v (λ l e. leads_field p.label was.1 f.node f.there (fields_law (sizes_in k) r.account.log p.label f.node f.there) i l (whole_value f.node p.label i v got ∙ ap Some e)) w.stands };
        old = f.old;
      }

  grid' : Grid k t' live' words'
  grid' = record {
    lots = lots_back k t.holder live live' back r.whole.grid.lots;
    places = λ q e class slot is inside. ⊎_elim
        (λ (z : at_address k s.words (place_in q class slot) ≡ 0). inl (heap (place_in q class slot) (omega arith) ∙ z))
        (λ z. inr (⊎_elim
        (λ (u : (p : Place) × (live (place_in q class slot) ≡ Some p)). ⊎_elim (λ u. inl u) (λ u. inr (inr u)) (kept_or_dead c.before live (place_in q class slot) u.0 u.1))
        (λ u. inr (⊎_elim (λ (v : t.prepared (place_in q class slot) ≡ Some e). inl v) (λ (v : IsTrue (t.garbage (place_in q class slot))). absurd (true≢false (sym v ∙ no_garbage (place_in q class slot)))) u))
        z))
        (r.whole.grid.places q e class slot is inside);
    spares = λ a e is. let w = r.whole.grid.spares a e is in record {
      own = w.own;
      head = λ f. w.head (sym (heap a (let o = w.own in let b : a ≡ place_in o.pool o.class o.slot = o.begins in omega arith)) ∙ f);
      empty = ap (kept_of c.before) w.empty;
    };
  }

  agrees : Agrees k s.words words'
  agrees = agrees_set k s.words 5 new (λ e. omega arith) (inl (omega arith)) (omega arith)

  same_for : (e : ℕ) → SameFor t t' e
  same_for e = record { drawn_to = λ q h. h; drawn_from = λ q h. h; owned_to = λ q b h. h; owned_from = λ q b h. h; asking_same = refl; prepared_to = λ a h. h; prepared_from = λ a h. h; fresh_same = λ b. refl; stock_same = stock_self t.stock e }

  hunter' : (z : DomainView) → Hunter k t s.words z → Hunter k t' words' z
  hunter' z h = hunter_agree k t t' s.words words' agrees z (let e = other 7 (λ e. omega arith) in let a : ℕ = get_or s.words 7 0 in let b : ℕ = get_or words' 7 0 in let f : b ≡ a = e in let g : a ≤ b = omega arith in g) (same_for z.own.number) h

  stood' : (z : DomainView) → Stood live now z → Stood live' now z
  stood' z st = record {
    wide = st.wide;
    each = λ q few. stands_left c.before live (value_at z.own.registers q) (register now z.own.number q) (λ l e. leads.registers z.own.number l (held_at (domain_at now z.own.number).registers q l e)) (st.each q few);
    serial = st.serial;
    enrolled = enrolled_left now c.before leads live z.own.number z.own.finalisers st.enrolled;
  }

  -- garbage lies in pools of domains, under the colour that means garbage now
  garbage_owned : (a : ℕ) → IsTrue (garbage' a) → (e : ℕ) × OwnPlace t.holder a e
  garbage_owned a is =
      let w = dead_was c.before live a is in
      let l = r.whole.grid.lots a w.0 w.1 (old a w.0 w.1) in
      (l.domain, record { pool = l.pool; class = l.class; slot = l.slot; owned_is = l.owned_is; inside = l.inside; begins = l.begins })

  -- at places that aren't prepared
  garbage_unprepared : (a : ℕ) → IsTrue (garbage' a) → t.prepared a ≡ None
  garbage_unprepared a is = let w = dead_was c.before live a is in lived_unprepared k t live s.words a w.0 r.whole.grid w.1

  -- and in pools that have been the homes of kept blocks
  garbage_left : (q e class slot : ℕ) → t.holder q ≡ owned e class → slot < blocks_of class → IsTrue (garbage' (place_in q class slot)) → HoldsKept (kept_labels (sizes_in k) r.account.log) r.account.homes q
  garbage_left q e class slot is inside dead =
      let w = dead_was c.before live (place_in q class slot) dead in
      (w.0.label, r.whole.full.kept (place_in q class slot) w.0 w.1, r.whole.full.low q e class slot w.0 is inside w.1)

  -- all domains are to sweep all their places
  sweeps' : (z : DomainView) → IsTrue (c.shares.arrived z.own.number) → Good k r.account s.words z → SweepsIn t' c' z
  sweeps' z gone g = let none : z.own.swept ≡ nothing_swept z.own.swept.top = g.sweeps.anew kind_is gone in record {
    listed = λ i a low got. absurd (let n : ℕ = z.own.swept.listed in let e : n ≡ 0 = ap (λ (w : Swept). w.listed) none in let l : i < n = low in omega arith);
    places = λ q class slot is inside before. absurd (none_before q slot (subst (IsBefore q slot) (ap (λ (w : Swept). w.spot) none) before));
    anew = g.sweeps.anew;
    reaps = reaps_none z.own.number z.seen.share.reaping g.sweeps.reaps;
    below = g.sweeps.below;
  } where
    reaps_none : (e : ℕ) (reaping : Reaping) → Reaps t.holder t.garbage e reaping → Reaps t.holder garbage' e reaping
    reaps_none e Outside w = tt
    reaps_none e (Inside pool class) w = w
    reaps_none e (AtGarbage pool class slot) w = absurd (true≢false (sym w.2 ∙ no_garbage (place_in pool class slot)))

  garbage_head : (a : ℕ) → IsTrue (garbage' a) → IsGarbageHead (rotated_paint c.paint) (at_address k words' a)
  garbage_head a is =
      let w = dead_was c.before live a is in
      let h = (r.whole.found a w.0 w.1).head in
      let cs : Colours = c.paint.colours in (
        (w.0.shape, (r.whole.placed.fits a w.0 w.1).head),
        h.scanned,
        heap a (r.whole.placed.fits a w.0 w.1).low
            ∙ (h.packs ∙ (ap (λ (o : Option ℕ). head_word (head_of o w.0.shape (cond (c.paint.marks.marked w.0.label) cs.marked cs.unmarked) h.scanned)) (bare a w.0 w.1).no_forward
            ∙ ap (λ (b : Bool). head_word (head_of None w.0.shape (cond b cs.marked cs.unmarked) h.scanned)) (facts.stays unrotated w.0.label ∙ w.2))),
      )

  owned' : AllOwned k.domains (layout_of k live' t.holder) c.before
  owned' l is =
      let w = facts.facts.owned l is in
      let u = labelled k live w.1 l w.3 in
      let stays : live' w.1 ≡ Some u.place = was_kept c.before live w.1 u.place u.lives (subst (λ (z : Label). IsTrue (c.before z)) (sym u.label) is) in
      (w.0, w.1, w.2, label_there k live' w.1 u.place stays (old w.1 u.place u.lives) ∙ ap Some u.label, w.4)

  facts' : Leaving k now live' t' c'
  facts' = record {
    facts = let f = facts.facts in record { owned = owned'; whole = f.whole; waiting = f.waiting; lasts = f.lasts; through = f.through };
    unchanged = facts.unchanged;
    stays = λ e. absurd (true≢false e);
    turned = λ _. record { all_marked = λ a p lives. (kept_was c.before live a p lives).1; unmarked = λ l. refl; gone = told.1 };
  }

  same_colours : may.colours ≡ c.paint.colours
  same_colours = good.sharing.telling.colours may.colours may.known

  cycle' : Cycled k now live' r.account.pause t' c' words'
  cycle' = let y = r.whole.cycle in record {
    armed_is = other 4 (λ e. omega arith) ∙ y.armed_is;
    meanings = rotated_fits c.paint.colours y.meanings;
    colours_are = get_or-set_same s.words 5 new 0 (let w : ℕ = heap_words k in let b : ℕ = before_heap k in let e : length s.words ≡ 1 + b + w = r.whole.wide in let o : 10 ≤ b = omega arith in omega arith) ∙ (may.word ∙ ap (λ (z : Colours). colours_word (rotated z)) same_colours);
    changed_is = other 3 (λ e. omega arith) ∙ y.changed_is;
    facts = subst (λ (kind : Kind). Facts kind k now live' t' c' words') (sym kind_is) facts';
    told = y.told;
    leaves = record { none = λ e. absurd (true≢false e); dead = dead_gone c.before live; head = garbage_head; unprepared = garbage_unprepared; owned = garbage_owned };
    unswept = λ is. absurd (true≢false (sym is ∙ swept_tracing k now live r.account.pause t c s.words y Lasts tt kind_is));
    whole = λ l. inl (whole l);
    grows = grows_none k live' r.account.pause c' (subst (λ (kind : Kind). IsMarking kind → ⊥) (sym kind_is) (λ is. is));
  }

  abbrev share' : Share
  share' = record x.seen.share { colours = Some (rotated may.colours); rotated = true }

  idle' : IsIdle share'
  idle' = ⊎_elim
      (λ (q : IsIdle x.seen.share). ap (λ (z : Share). record z { colours = Some (rotated may.colours); rotated = true }) q)
      (λ (n : IsCollecting x.seen.stage × Knowing k live t.holder now.graph c.paint.marks s.words d x.own.registers x.seen.share). absurd (subst IsCollecting may.stage n.0))
      good.sharing.knows

  no_sweep : c.kind ≡ Sweep → ⊥
  no_sweep e = let f : Lasts ≡ Sweep = sym kind_is ∙ e in cc

  -- it is in no phase in which roots are marked
  deciding' : (z : DomainView) (kept : ℕ) (waiting : List ℕ) → Deciding live c.kind c.left c.shares.arrived c.paint.marks.marked z.own.number z.own.finalisers kept waiting
      → Deciding live' c.kind c.left c.shares.arrived (λ l. false) z.own.number z.own.finalisers kept waiting
  deciding' z kept waiting e = record { finals = e.finals; lasts = e.lasts; rooted = λ rooting. absurd (subst IsRooting kind_is rooting) }

  -- nobody runs
  running' : (z : DomainView) → Good k r.account s.words z → RunsBeside k live' t.holder c.armed c.past (λ l. false) words' z.own.number z.seen.stage z.seen.share
  running' z h = paused_on k r.account.pause c r.whole.cycle.told (λ e. let clash : Lasts ≡ Run = sym kind_is ∙ e in cc) live live' t.holder t.holder c.paint.marks.marked (λ l. false) s.words words' z h.staged h.sharing.running

  sharing' : Sharing k (reaped_to k s r id hist x at live' garbage' c') words' d x.own.registers x.own.finalisers x.own.ephemerons.items x.seen.stage share'
  sharing' = let g = good.sharing in record {
    telling = record {
      owes = g.telling.owes;
      seen = g.telling.seen;
      fresh = λ _. idle';
      forgotten = λ _ not_first. absurd (not_first may.first);
      colours = λ known e. let same : Some (rotated may.colours) ≡ Some known = e in let here : rotated may.colours ≡ known = cc in sym here ∙ ap rotated same_colours;
    };
    leading = record {
      changed = g.leading.changed;
      found_blocks = λ v e. let h = g.leading.found_blocks v e in (h.0, other 9 (λ f. omega arith) ∙ h.1);
      found_words = λ v e. let h = g.leading.found_words v e in (h.0, other 10 (λ f. omega arith) ∙ h.1);
      rotated = λ _ _. refl;
      turned = λ _. may.stage;
      pass = g.leading.pass;
      whole = g.leading.whole;
      armed = g.leading.armed;
      unswept = g.leading.unswept;
      under_way = g.leading.under_way;
      unmarked = g.leading.unmarked;
    };
    knows = inl idle';
    adds = record { blocks = λ e _. absurd (no_sweep e); words = λ e _. absurd (no_sweep e); own = λ e _ _. absurd (no_sweep e) };
    looks = looks_idle live' t.holder now.graph c'.paint.marks c.paint.emptied d x.own.ephemerons.items x.seen.stage share' idle' whole;
    running = let u = running' x good in record { knows = u.knows; owes = u.owes };
    deciding = deciding' x x.seen.share.kept x.seen.share.waiting g.deciding;
  }

  sharings' : (z : DomainView) → z.own.number < k.domains → z.own.number ≢ d → Good k r.account s.words z → Sharing k (reaped_to k s r id hist x at live' garbage' c') words' z.own.number z.own.registers z.own.finalisers z.own.ephemerons.items z.seen.stage z.seen.share
  sharings' z below differs h =
      let g = h.sharing in
      let gone = told.1 z.own.number below in
      let not_first : z.own.number ≢ 0 = (λ e. differs (e ∙ sym may.first)) in record {
        telling = record {
          owes = g.telling.owes;
          seen = g.telling.seen;
          fresh = g.telling.fresh;
          forgotten = g.telling.forgotten;
          colours = λ known e. absurd (let clash : ◌≡◌ {A = Option Colours} None (Some known) = sym (g.telling.forgotten gone not_first) ∙ e in cc);
        };
        leading = record {
          changed = g.leading.changed;
          found_blocks = λ v e. let f = g.leading.found_blocks v e in (f.0, other 9 (λ q. omega arith) ∙ f.1);
          found_words = λ v e. let f = g.leading.found_words v e in (f.0, other 10 (λ q. omega arith) ∙ f.1);
          rotated = λ first. absurd (not_first first);
          turned = g.leading.turned;
          pass = g.leading.pass;
          whole = g.leading.whole;
          armed = g.leading.armed;
          unswept = g.leading.unswept;
          under_way = g.leading.under_way;
          unmarked = g.leading.unmarked;
        };
        knows = inl (g.telling.fresh gone);
        adds = record { blocks = λ e _. absurd (no_sweep e); words = λ e _. absurd (no_sweep e); own = λ e _ _. absurd (no_sweep e) };
        looks = looks_idle live' t.holder now.graph c'.paint.marks c.paint.emptied z.own.number z.own.ephemerons.items z.seen.stage z.seen.share (g.telling.fresh gone) whole;
        running = running' z h;
        deciding = deciding' z z.seen.share.kept z.seen.share.waiting g.deciding;
      }

  -- a listed ephemeron lives on, or it is garbage
  listed' : (z : DomainView) → Good k r.account s.words z → Listed live' t.holder garbage' z.own.number z.own.ephemerons.items
  listed' z g = listed_on live live' t.holder t.holder t.garbage garbage' z.own.number z.own.ephemerons.items (λ q class e. e) (λ q class e. e) (ephe_back live live' back)
      (λ a e. ⊎_elim
      (λ (q : (p : Place) × (live' a ≡ Some p)). inl (record { place = q.0; lives = q.1; keys = e.keys; shape = ap (λ (p : Place). p.shape) (same_Some q.0 e.place (sym (kept_was c.before live a q.0 q.1).0 ∙ e.lives)) ∙ e.shape }))
      (λ (h : IsTrue (garbage' a)). inr h)
      (kept_or_dead c.before live a e.place e.lives))
      (λ a is. absurd (true≢false (sym is ∙ no_garbage a)))
      g.listed

  pub turn_rule : Rule k record { words = words'; homes = s.homes; views = set s.views id (one k hist (with_share x share')) }
  turn_rule = reaps k s r id hist x at x.own.looked x.own.ephemerons x.own.swept share' live' garbage' c' words' record {
    wide = length-set s.words 5 new;
    control = λ i _ differ _ _. other i differ;
    calm = calm;
    kind = refl;
    subset = λ a p lives. (kept_was c.before live a p lives).0;
    stood = stood';
    fields = λ z _ g j f got. absurd (no_item z.seen.remembered j f (g.rooted.1 (inr resetting)) got);
    found = found';
    grid = grid';
    makings = λ z g. making_heap k s.words words' z heap g.making;
    hunter = hunter_as k t' words' x (with_share x share') refl refl refl refl refl refl refl (hunter' x good.hunter);
    hunters = λ z _ g. hunter' z g.hunter;
    cycle = cycle';
    sharing = sharing';
    sharings = sharings';
    listed_own = listed' x good;
    listeds = λ z _ g. listed' z g;
    left = garbage_left;
    sweeps = let w = sweeps' x (told.1 d (mine k s r id hist x at).inside) good in record { listed = w.listed; places = w.places; anew = w.anew; reaps = w.reaps; below = w.below };
    others_sweep = λ z below _ g. sweeps' z (told.1 z.own.number below) g;
  }

pub turn_may : (k : Config) (x : DomainView) (new : ℕ) → TurnMay x new → MayStore k x 5 new TurnTold
turn_may k x new may fits slots id hist s r _ at _ =
    let y : DomainView = with_share x (record x.seen.share { colours = Some (rotated may.colours); rotated = true }) in
    (one k hist y, keeps, tt, turn_rule k s r id hist x at new may, (record { colours = may.colours; known = may.known; view = refl }, refl))

pub turn_closes : (k : Config) (x : DomainView) (new : ℕ) → Closes k x new TurnTold CanLeave Leaves
turn_closes k x new = share_closes k x new TurnTold (λ y t. (record x.seen.share { colours = Some (rotated t.colours); rotated = true }, t.view))
