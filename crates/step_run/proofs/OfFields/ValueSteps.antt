-- Stores to values of blocks keep the rule, whatever command stores.
use Rattle.std.proofs.Common.{◌≡◌, ◌≢◌, ℕ, ◌+◌, ◌<◌, ◌≤◌, false, List, [], length, get_or, set, slice_get, Some, Option, None, unwrap_or, sym, refl, ap, ◌∙◌, subst, ⊎_elim, arith, length-set, get_or-set_same, get_or-set_other, zero, suc, true, Bool, IsTrue, ◌*◌, ◌⊎◌, ◌↔◌, ◌∷◌, ◌++◌, inl, inr, zero-le, lt_of_not-le}
use Rattle.std.proofs.lemmas.Int.{ints}
use mathlib.Core.Logic.{dite}
use native.Mathlib.Decide.{ℕ_discrete, dec_le}
use Rattle.atomic_table.specs.Table.{keeps, Allows}
use Rattle.model_core.specs.declared.entry.Entry.{Entry}
use Rattle.model_core.specs.declared.entry.Entry.TheVariants.{Command}
use Rattle.model_core.specs.declared.reply.Applied.TheVariants.{Replied}
use Rattle.model_core.specs.declared.reply.Reply.{Reply}
use Rattle.model_core.specs.declared.reply.Reply.TheVariants.{Done}
use Rattle.model_core.specs.declared.graph.Value as graph_value
use Rattle.model_core.specs.declared.graph.Value.TheVariants.{Int, Block, Nothing}
use Rattle.model_core.specs.declared.graph.Node.{Node}
use Rattle.model_core.specs.declared.state.State as model
use Rattle.model_core.specs.Graph.{Graph, node_at, with_node}
use Rattle.model_core.specs.Domains.{register, domain_at}
use Rattle.model_core.specs.Entries.{next}
use Rattle.model_core.specs.Fronts.{Shape, shape_of}
use Rattle.model_core.proofs.Graphs.GraphLemmas.{node_at-with_node_same, node_at-with_node_other}
use Rattle.heap_words.specs.declared.value.Value.{Value}
use Rattle.heap_words.specs.declared.value.Value.TheVariants.{Int as IntWord, Ref, Nothing as NothingWord}
use Rattle.heap_words.specs.Values.{value_word}
use Rattle.heap_rule.specs.declared.change.Change.{Change}
use Rattle.heap_rule.specs.declared.config.Config.{Config}
use Rattle.heap_rule.specs.declared.view.DomainView.{DomainView}
use Rattle.heap_rule.specs.declared.view.Own.{Own}
use Rattle.heap_rule.specs.declared.view.Copying.{Copying}
use Rattle.heap_rule.specs.Copies.{nothing_copied, known}
use Rattle.heap_rule.specs.Layout.{heap_words, table_words, before_heap, at_address}
use Rattle.heap_rule.specs.Places.{Place, Live, Paint, extent, values_of, without_keys, Stands, WordStands, Found, Placed, IsBare, Settled, IsOldAt, IsOldWord, More}
use Rattle.heap_rule.specs.Changes.{value_at, changed}
use Rattle.heap_rule.specs.Views.{one, Tells}
use Rattle.heap_rule.specs.Rule.{state_of, AllFound, Area, Making, Rule}
use Rattle.heap_rule.specs.Standing.{Acts, LeavesOwn, Entered, with_front, with_own, with_registers}
use Rattle.step_run.specs.Fields.Stores.{IsOldBlock, IsYoungBlock, MustRemember, with_field, remembering, StoreTold, WroteTold}
use Rattle.heap_rule.proofs.Lists.{got_set, got_end}
use Rattle.heap_rule.proofs.ChangeLemmas.{changed_only, registers_of}
use Rattle.heap_rule.proofs.Values.{AllStand}
use Rattle.heap_rule.proofs.Keeps.{Words, mine, my_good, whole_here, listed_here, control_set, controls_kept, hunter_as, appends, Controls, more_same, stands_more, quiet, no_owing, no_copied, no_debt, nothing_known, field_again, run_settled, opened_words, garbage_here}
use Rattle.heap_rule.proofs.Again.{Back, ephe_back, placed_back, area_back, spread_back, opened_back, grid_back, none_back}
use Rattle.heap_rule.proofs.Update.{over, over_here, over_else}
use Rattle.heap_rule.proofs.Lots.{Beside, head_full, live_beside, grid_beside, hunter_beside, garbage_beside}
use Rattle.model_cycle.specs.Beside.{WriteBarrier, owed_after}
use Rattle.heap_rule.proofs.Advancing.{advances_command, underway_here}
use Rattle.heap_rule.proofs.Sharings.{with_weak}
use Rattle.step_run.proofs.OfFields.Advances.{advance_command}
use Rattle.heap_rule.proofs.Entering.{registers_stand, EntersTo, stood_after, entered_view, enters, enters_command}
use Rattle.std.proofs.lemmas.Option.{same_Some}
use Rattle.heap_rule.proofs.Beside.{extent_of, found_beside, making_beside, live_word_far}
use Rattle.heap_rule.proofs.FullnessLemmas.{full_back, full_stays}
use mathlib.Core.Option.{some}
use lib.ListN.{get_elem?}
use Rattle.model_core.specs.declared.label.Label.{Label}
use Rattle.model_core.specs.declared.command.Command.{Command as model_command}
use Rattle.model_core.specs.Commands.{FitsMode}
use Rattle.model_core.proofs.Commands.LeavesLemmas.{Leaves}
use Rattle.heap_rule.specs.declared.phase.Kind.TheVariants.{Run}
use Rattle.model_core.proofs.Commands.MoveLemmas.{registers_one}
use Rattle.heap_rule.proofs.FinaliserLemmas.{enrolled_more}
use Rattle.heap_rule.proofs.EphemeronLemmas.{found_value}

-- one value of one block changes, in the words and in the graph
module _ (k : Config) (paint : Paint) (live : Live) (graph : Graph) (words : List ℕ) (a i new : ℕ) (p : Place) (node after : Node) (v : graph_value.Value)
    (placed : Placed k live) (wide : length words ≡ table_words k) (lives : live a ≡ Some p) (found : AllFound k paint live graph words) (whole : (l : Label) → paint.emptied l ≡ []) (there : node_at graph p.label ≡ Some node)
    (same_shape : shape_of after ≡ shape_of node) (values : values_of after ≡ set (values_of node) i v) (below : i < length (values_of node)) (stands : WordStands live new v) (settled : Settled live)
    (named' : ℕ → Option ℕ) (keeps : (j : ℕ) → j ≢ i → named' j ≡ p.named j) (is_old : IsOldAt k a → named' i ≡ None → IsOldWord k new) where
  abbrev spot : ℕ
  spot = before_heap k + (a + 2 + i)

  abbrev pub p2 : Place
  p2 = record p { named = named' }

  abbrev pub live2 : Live
  live2 = over a (Some p2) live

  was : (b : ℕ) (q : Place) → b ≢ a → live2 b ≡ Some q → live b ≡ Some q
  was b q other lives_b = sym (over_else a (Some p2) live b other) ∙ lives_b

  is2 : (b : ℕ) (q : Place) → b ≡ a → live2 b ≡ Some q → p2 ≡ q
  is2 b q same lives_b = ap (λ (o : Option Place). unwrap_or o p2) (sym (over_here a (Some p2) live) ∙ (ap live2 (sym same) ∙ lives_b))

  pub more2 : More live live2
  more2 b q lives_b = dite (ℕ_discrete b a)
      (λ same. let place : p ≡ q = ap (λ (o : Option Place). unwrap_or o p) (sym lives ∙ (ap live (sym same) ∙ lives_b)) in
      record { place = p2; lives = ap live2 same ∙ over_here a (Some p2) live; label = ap (λ (z : Place). z.label) place; shape = ap (λ (z : Place). z.shape) place })
      (λ other. record { place = q; lives = over_else a (Some p2) live b other ∙ lives_b; label = refl; shape = refl })

  pub back2 : Back live live2
  back2 b q lives_b = dite (ℕ_discrete b a)
      (λ same. let e = is2 b q same lives_b in record { place = p; lives = ap live same ∙ lives; label = ap (λ (z : Place). z.label) e; shape = ap (λ (z : Place). z.shape) e; forward = ap (λ (z : Place). z.forward) e })
      (λ other. record { place = q; lives = was b q other lives_b; label = refl; shape = refl; forward = refl })

  pub settled2 : Settled live2
  settled2 b q lives_b = dite (ℕ_discrete b a)
      (λ same. subst IsBare (is2 b q same lives_b) record { no_forward = (settled a p lives).no_forward; no_debt = (settled a p lives).no_debt })
      (λ other. settled b q (was b q other lives_b))

  -- who is said to remember a field then
  pub named2 : (d b j : ℕ) (q : Place) → live2 b ≡ Some q → q.named j ≡ Some d → ((b ≡ a) × (named' j ≡ Some d)) ⊎ (live b ≡ Some q)
  named2 d b j q lives_b named = dite (ℕ_discrete b a)
      (λ same. inl (same, ap (λ (z : Place). z.named j) (is2 b q same lives_b) ∙ named))
      (λ other. inr (was b q other lives_b))

  here : Found k paint live graph words a p
  here = found a p lives

  node_is : here.node ≡ node
  node_is = same_Some here.node node (sym here.there ∙ there)

  size : extent p.shape ≡ length (values_of node) + 2
  size = ap extent (sym here.shape ∙ ap shape_of node_is) ∙ extent_of node

  room : spot < length words
  room = let f = (placed.fits a p lives).high in let n : ℕ = extent p.shape in let w : ℕ = heap_words k in let s : n ≡ length (values_of node) + 2 = size in let h : a + n ≤ w + 1 = f in let b = below in let l : length words ≡ 1 + before_heap k + w = wide in let base : ℕ = before_heap k in omega arith

  -- the block itself
  stored_here : Found k paint live2 (with_node graph p.label after) (set words spot new) a p2
  stored_here = record {
    node = after;
    there = node_at-with_node_same graph p.label after node there;
    shape = same_shape ∙ (sym (ap shape_of node_is) ∙ here.shape);
    head = let h = here.head in record { scanned = h.scanned; packs = get_or-set_other words spot (before_heap k + a) new 0 (λ e. omega arith) ∙ h.packs; tells = h.tells };
    blank = here.blank;
    label = get_or-set_other words spot (before_heap k + (a + 1)) new 0 (λ e. omega arith) ∙ here.label;
    values = λ j w has got. ⊎_elim
        (λ (t : (j ≡ i) × (v ≡ w)). record {
          value = stands.value;
          packs = ap (λ (n : ℕ). get_or (set words spot new) (before_heap k + (a + 2 + n)) 0) t.0 ∙ (get_or-set_same words spot new 0 room ∙ stands.packs);
          stands = subst (Stands live2 stands.value) t.1 (stands_more live live2 stands.value v more2 stands.stands);
        })
        (λ (t : (j ≢ i) × (slice_get (values_of node) j ≡ Some w)).
        let o = found_value k paint live graph words a p here (whole p.label) j w has (ap (λ (n : Node). slice_get (values_of n) j) node_is ∙ t.1) in
        let differ : j ≢ i = t.0 in record {
          value = o.value;
          packs = get_or-set_other words spot (before_heap k + (a + 2 + j)) new 0 (λ e. differ (omega arith)) ∙ o.packs;
          stands = stands_more live live2 o.value w more2 o.stands;
        })
        (got_set (values_of node) i j v w (ap (λ (l : List graph_value.Value). slice_get l j) (sym values) ∙ (ap (λ (keys : List ℕ). slice_get (values_of (without_keys keys after)) j) (sym (whole p.label)) ∙ got)));
    old = λ low j inside has none. dite (ℕ_discrete j i)
        (λ same. subst (IsOldWord k) (sym (ap (λ (n : ℕ). get_or (set words spot new) (before_heap k + (a + 2 + n)) 0) same ∙ get_or-set_same words spot new 0 room)) (is_old low (ap named' (sym same) ∙ none)))
        (λ other. let differ : j ≢ i = other in subst (IsOldWord k) (sym (get_or-set_other words spot (before_heap k + (a + 2 + j)) new 0 (λ e. differ (omega arith)))) (here.old low j inside has (sym (keeps j other) ∙ none)));
  }

  -- and every other one
  stored_other : (b : ℕ) (q : Place) → live b ≡ Some q → b ≢ a → Found k paint live2 (with_node graph p.label after) (set words spot new) b q
  stored_other b q lives_b other =
      let f = found b q lives_b in
      found_beside k paint live live2 graph (with_node graph p.label after) words (a + 2 + i) new b q more2 f
      (node_at-with_node_other graph p.label q.label after (λ same. other (placed.once b a q p lives_b lives same (settled b q lives_b).no_forward (settled a p lives).no_forward)) ∙ f.there)
      (λ z inside e. let m : ℕ = extent q.shape in let n : ℕ = extent p.shape in let s : n ≡ length (values_of node) + 2 = size in let h = below in let lower : z < m = inside in
      ⊎_elim (λ (t : b + m ≤ a). omega arith) (λ (t : a + n ≤ b). omega arith) (placed.apart b a q p lives_b lives other))

  pub stored_found : AllFound k paint live2 (with_node graph p.label after) (set words spot new)
  stored_found b q lives_b = dite (ℕ_discrete b a)
      (λ same. let place : p2 ≡ q = is2 b q same lives_b in
      subst (λ (y : ℕ × Place). Found k paint live2 (with_node graph p.label after) (set words spot new) y.0 y.1) (λ j. (sym same j, place j)) stored_here)
      (λ other. stored_other b q (was b q other lives_b) other)

  pub stored_inside : 2 + i < extent p.shape
  stored_inside = let n : ℕ = extent p.shape in let s : n ≡ length (values_of node) + 2 = size in let b = below in omega arith

  -- no block begins at the value
  pub stored_heads : (b : ℕ) (q : Place) → live b ≡ Some q → at_address k (set words spot new) b ≡ at_address k words b
  stored_heads b q lives_b = get_or-set_other words spot (before_heap k + b) new 0 (λ e. let n : ℕ = extent p.shape in let m : ℕ = extent q.shape in let into : 2 + i < n = stored_inside in
      dite (ℕ_discrete b a) (λ (same : b ≡ a). omega arith) (λ (other : b ≢ a). ⊎_elim (λ (t : b + m ≤ a). omega arith) (λ (t : a + n ≤ b). omega arith) (placed.apart b a q p lives_b lives other)))

-- who then remembers the field
record Choice (k : Config) (address new d i : ℕ) (remembers : Bool) (named : ℕ → Option ℕ) : Type 0 where
  named' : ℕ → Option ℕ
  keeps : (j : ℕ) → j ≢ i → named' j ≡ named j
  is_old : IsOldAt k address → named' i ≡ None → IsOldWord k new
  mine : (j : ℕ) → named' j ≡ Some d → (named j ≡ Some d) ⊎ ((j ≡ i) × (remembers ≡ true))
  theirs : (e j : ℕ) → e ≢ d → named' j ≡ Some e → named j ≡ Some e

not_some_none : (n : ℕ) → ◌≡◌ {A = Option ℕ} (Some n) None → ⊥
not_some_none n e = cc

choose : (k : Config) (address new d i : ℕ) (remembers : Bool) (named : ℕ → Option ℕ) → (remembers ≡ false → IsOldAt k address → IsOldWord k new) → Choice k address new d i remembers named
choose k address new d i false named stays = record { named' = named; keeps = λ j _. refl; is_old = λ low _. stays refl low; mine = λ j e. inl e; theirs = λ e j _ h. h }
choose k address new d i true named stays = record {
  named' = over i (Some d) named;
  keeps = λ j other. over_else i (Some d) named j other;
  is_old = λ _ none. absurd (not_some_none d (sym (over_here i (Some d) named) ∙ none));
  mine = λ j e. dite (ℕ_discrete j i) (λ same. inr (same, refl)) (λ other. inl (sym (over_else i (Some d) named j other) ∙ e));
  theirs = λ e j differ h. dite (ℕ_discrete j i) (λ same. absurd (differ (sym (same_Some d e (sym (over_here i (Some d) named) ∙ (ap (over i (Some d) named) (sym same) ∙ h)))))) (λ other. sym (over_else i (Some d) named j other) ∙ h);
}

-- the word of what is no block in a minor area
old_word : (k : Config) (live : Live) (w : Value) (v : graph_value.Value) → Stands live w v → (IsYoungBlock k w → ⊥) → IsOldWord k (value_word w)
old_word k live (IntWord z) (Int v) stands old = inl (let p = stands.1 in omega (arith, ints))
old_word k live (IntWord z) (Block l) stands old = absurd stands
old_word k live (IntWord z) Nothing stands old = absurd stands
old_word k live (Ref a) v stands old = inr (dite (dec_le a (k.pools * 4096)) (λ low. let l : a ≤ k.pools * 4096 = low in omega arith) (λ high. absurd (old (lt_of_not-le high))))
old_word k live NothingWord v stands old = inr zero-le

-- a field that isn't remembered gets no address of a minor area
unremembered : (k : Config) (live : Live) (address new : ℕ) (remembers : Bool) (b w : Value) (v : graph_value.Value) → (remembers ≡ true) ↔ MustRemember k b w → b ≡ Ref address → new ≡ value_word w → Stands live w v
    → remembers ≡ false → IsOldAt k address → IsOldWord k new
unremembered k live address new remembers b w v exact holds word stands never low =
    subst (IsOldWord k) (sym word) (old_word k live w v stands (λ young. let e : false ≡ true = sym never ∙ exact.1 (subst (IsOldBlock k) (sym holds) low, young) in cc))

got_kept : (remembers : Bool) (l : List ℕ) (at j v : ℕ) → slice_get l j ≡ Some v → slice_get (with_field remembers at l) j ≡ Some v
got_kept false l at j v e = e
got_kept true [] at j v e = cc
got_kept true (x ∷ xs) at zero v e = e
got_kept true (x ∷ xs) at (suc j) v e = got_kept true xs at j v e

got_last : (l : List ℕ) (v : ℕ) → slice_get (l ++ v ∷ []) (length l) ≡ Some v
got_last [] v = refl
got_last (x ∷ xs) v = got_last xs v

got_new : (remembers : Bool) (l : List ℕ) (at : ℕ) → remembers ≡ true → slice_get (with_field remembers at l) (length l) ≡ Some at
got_new true l at e = got_last l at
got_new false l at e = cc

got_either : (remembers : Bool) (l : List ℕ) (at j v : ℕ) → slice_get (with_field remembers at l) j ≡ Some v → (slice_get l j ≡ Some v) ⊎ ((at ≡ v) × (remembers ≡ true))
got_either false l at j v got = inl got
got_either true l at j v got = ⊎_elim (λ (h : slice_get l j ≡ Some v). inl h) (λ (h : (j ≡ length l) × (at ≡ v)). inr (h.1, refl)) (got_end l at v j got)

-- What the store of a command owes that changes one value of the block in a register: the block's node before and after, the value, and that the entry leaves this
pub record ValueStore (k : Config) (s : Words) (r : Rule k s) (id : ℕ) (hist : List Entry) (x : DomainView) (at : get_elem? s.views id ≡ some (one k hist x)) (a new : ℕ) (remembers : Bool) (changes : List Change) (c : model_command) (reply : Reply) : Type 0 where
  pub block : ℕ
  pub index : ℕ
  pub address : ℕ
  pub place : Place
  pub node : Node
  pub after : Node
  pub word : Value
  pub value : graph_value.Value
  pub holds : value_at x.own.registers block ≡ Ref address
  pub lives : r.account.live address ≡ Some place
  pub there : node_at (state_of k r.account.log).graph place.label ≡ Some node
  pub spot : a ≡ address + 2 + index
  pub same_shape : shape_of after ≡ shape_of node
  pub values : values_of after ≡ set (values_of node) index value
  pub below : index < length (values_of node)
  pub stands : Stands r.account.live word value
  pub packs : new ≡ value_word word
  pub exact : (remembers ≡ true) ↔ MustRemember k (value_at x.own.registers block) word
  pub same : LeavesOwn changes x
  pub unregistering : registers_one c ≡ false
  pub fits : FitsMode (state_of k r.account.log) x.own.number c
  pub quiet : owed_after r.account.cycling.past.owed x.own.number c ≡ r.account.cycling.past.owed
  pub barrier : IsTrue r.account.cycling.armed → WriteBarrier r.account.cycling.past r.account.cycling.paint.marks (state_of k r.account.log) x.own.number c
  pub leaves : Leaves (state_of k r.account.log) (Command x.own.number c false) x.own.number (with_node (state_of k r.account.log).graph place.label after) (domain_at (state_of k r.account.log) x.own.number).registers
      (domain_at (state_of k r.account.log) x.own.number).serial (Replied reply)

-- the store keeps the rule, and tells that the entry stands
pub value_stored : (k : Config) (s : Words) (r : Rule k s) (id : ℕ) (hist : List Entry) (x : DomainView) (at : get_elem? s.views id ≡ some (one k hist x)) (a new : ℕ) (remembers : Bool) (changes : List Change) (command : model_command) (reply : Reply) → Acts k x
    → ValueStore k s r id hist x at a new remembers changes command reply
    → (y : DomainView) × Rule k record { words = set s.words (before_heap k + a) new; homes = s.homes; views = set s.views id (one k hist y) } × WroteTold k (Command x.own.number command false) a remembers changes reply x y
value_stored k s r id hist x at a new remembers changes command reply acts f =
    let i : ℕ = f.index in
    let d : ℕ = x.own.number in
    let e : Entry = Command d command false in
    let now : model.State = state_of k r.account.log in
    let settled : Settled r.account.live = run_settled k s r id hist x at acts.runs in
    let whole : (l : Label) → r.account.cycling.paint.emptied l ≡ [] = whole_here k s r id hist x at Run tt acts.runs in
    let w : Value = f.word in
    let v : graph_value.Value = f.value in
    let stand = registers_stand k s r id hist x at acts in
    let stands : WordStands r.account.live new v = record { value = w; packs = f.packs; stands = f.stands } in
    let graph : Graph = with_node now.graph f.place.label f.after in
    let regs : List Value = (changed NothingWord changes x.own).registers in
    let words : List ℕ = set s.words (before_heap k + (f.address + 2 + i)) new in
    let c : Choice k f.address new d i remembers f.place.named = choose k f.address new d i remembers f.place.named
    (unremembered k r.account.live f.address new remembers (value_at x.own.registers f.block) w v f.exact f.holds f.packs f.stands) in
    let y : DomainView = with_front (remembering remembers a (with_registers x regs)) (r.account.log ++ e ∷ []) in
    let at_is : a ≡ f.address + 2 + i = f.spot in
    let paint : Paint = r.account.cycling.paint in
    let live1 : Live = live2 k paint r.account.live now.graph s.words f.address i new f.place f.node f.after v r.whole.placed r.whole.wide f.lives r.whole.found whole f.there f.same_shape f.values f.below stands settled c.named' c.keeps c.is_old in
    let grows : More r.account.live live1 = more2 k paint r.account.live now.graph s.words f.address i new f.place f.node f.after v r.whole.placed r.whole.wide f.lives r.whole.found whole f.there f.same_shape f.values f.below stands settled c.named' c.keeps c.is_old in
    let back : Back r.account.live live1 = back2 k paint r.account.live now.graph s.words f.address i new f.place f.node f.after v r.whole.placed r.whole.wide f.lives r.whole.found whole f.there f.same_shape f.values f.below stands settled c.named' c.keeps c.is_old in
    let bare : Settled live1 = settled2 k paint r.account.live now.graph s.words f.address i new f.place f.node f.after v r.whole.placed r.whole.wide f.lives r.whole.found whole f.there f.same_shape f.values f.below stands settled c.named' c.keeps c.is_old in
    let who : (m b j : ℕ) (q : Place) → live1 b ≡ Some q → q.named j ≡ Some m → ((b ≡ f.address) × (c.named' j ≡ Some m)) ⊎ (r.account.live b ≡ Some q) = named2 k paint r.account.live now.graph s.words f.address i new f.place f.node f.after v r.whole.placed r.whole.wide f.lives r.whole.found whole f.there f.same_shape f.values f.below stands settled c.named' c.keeps c.is_old in
    let g = my_good k s r id hist x at in
    let low : 1 ≤ f.address = (r.whole.placed.fits f.address f.place f.lives).low in
    let inside : 2 + i < extent f.place.shape = stored_inside k paint r.account.live now.graph s.words f.address i new f.place f.node f.after v r.whole.placed r.whole.wide f.lives r.whole.found whole f.there f.same_shape f.values f.below stands settled c.named' c.keeps c.is_old in
    let head : at_address k s.words f.address ≢ 0 = head_full k paint r.account.live now.graph s.words f.address f.place (r.whole.found f.address f.place f.lives) in
    let beside : (m : ℕ) → Beside k r.account.tenancy s.words m (f.address + 2 + i) = (λ m. subst (Beside k r.account.tenancy s.words m) (let h : f.address + (2 + i) ≡ f.address + 2 + i = omega arith in h)
    (live_beside k r.account.tenancy r.account.live s.words f.address (2 + i) f.place r.whole.pools r.whole.grid low f.lives (omega arith) inside head m)) in
    let still : x.seen.copying ≡ nothing_copied = quiet k s r id hist x at acts.runs in
    let far : (z : DomainView) → Area k r.account.live z → Making k s.words z → Making k words z =
    (λ z area making. making_beside k s.words (f.address + 2 + i) new z (λ j fits same. live_word_far k r.account.live f.address (2 + i) f.place z f.lives inside area j fits (same ∙ (let h : f.address + 2 + i ≡ f.address + (2 + i) = omega arith in h))) making) in
    let o : EntersTo k s r id hist x at acts graph e regs (Replied reply) = enters_command k s r id hist x at acts graph command f.unregistering f.fits regs (Replied reply) (domain_at now d).registers
    (subst (λ (l : List Value). AllStand r.account.live l (domain_at now d).registers) (sym (ap registers_of f.same)) stand)
    None (advance_command k s r id hist x at acts command f.quiet f.barrier) f.leaves in
    let later = advances_command k s r id hist x at acts.runs acts.paid command live1 f.quiet grows
    (λ is b q lives young. let u = back b q lives in subst (λ (l : Label). IsTrue (paint.marks.marked l)) u.label ((underway_here k s r id hist x at acts.runs is).young b u.place u.lives young)) f.barrier in
    let controls : Controls k r.account s.words words = controls_kept k s r id hist x at words (control_set k s.words (f.address + 2 + i) new (omega arith)) in
    let rule : Rule k record { words = words; homes = s.homes; views = set s.views id (one k hist y) } = appends k s r id hist x at e y words live1 r.account.homes later.past record {
      full = full_back k (r.account.log ++ e ∷ []) r.account.live live1 r.account.tenancy.holder r.account.tenancy.fresh r.account.tenancy.garbage r.account.homes r.account.cycling.kind back
          (full_stays k r.account.log r.account.live r.account.tenancy.holder r.account.tenancy.fresh r.account.tenancy.garbage r.account.homes r.account.cycling.kind e refl r.whole.full);
      weak = None;
      share = ap (with_weak x.seen.share) acts.paid;
      advances = later.advances;
      heads = stored_heads k paint r.account.live now.graph s.words f.address i new f.place f.node f.after v r.whole.placed r.whole.wide f.lives r.whole.found whole f.there f.same_shape f.values f.below stands settled c.named' c.keeps c.is_old;
      alone = o.alone;
      of_trace = tt;
      runs = acts.runs;
      stage = refl;
      listing = refl;
      allowed = o.allowed;
      is_open = o.is_open;
      number = refl;
      front = refl;
      arrivals = refl;
      wide = length-set s.words (before_heap k + (f.address + 2 + i)) new;
      controls = controls;
      found = subst (λ (z : Graph). AllFound k paint live1 z words) (sym o.leaves.graph_is) (stored_found k paint r.account.live now.graph s.words f.address i new f.place f.node f.after v r.whole.placed r.whole.wide f.lives r.whole.found whole f.there f.same_shape f.values f.below stands settled c.named' c.keeps c.is_old);
      placed = placed_back k r.account.live live1 back r.whole.placed;
      spread = spread_back k r.account.live live1 back r.whole.spread;
      opened = opened_back k r.account.live live1 words back (opened_words k r.account.live s.words words controls.listed_young r.whole.opened);
      settled = bare;
      more = grows;
      owes = record {
        quiet = inl still;
        knows = subst (λ (z : Copying). More (known z.met) live1) (sym still) (nothing_known live1);
        copied = λ b q has. absurd (no_copied x.seen.copying b q still has);
        owed = λ j q got. absurd (no_owing x.seen.copying j q still got);
        once = λ j m q u got _ _. absurd (no_owing x.seen.copying j q still got);
        listed = λ b q debt lives owed _. absurd (no_debt live1 bare b q debt lives owed);
        recalled = λ b q j lives named. ⊎_elim
            (λ (h : (b ≡ f.address) × (c.named' j ≡ Some d)). ⊎_elim
            (λ (n : f.place.named j ≡ Some d). let u = g.owes.recalled f.address f.place j f.lives n in (u.0, got_kept remembers x.seen.remembered a u.0 (b + 2 + j) (u.1 ∙ ap (λ (m : ℕ). Some (m + 2 + j)) (sym h.0))))
            (λ (n : (j ≡ i) × (remembers ≡ true)). (length x.seen.remembered, got_new remembers x.seen.remembered a n.1 ∙ ap Some (at_is ∙ (λ p. sym h.0 p + 2 + sym n.0 p))))
            (c.mine j h.1))
            (λ (h : r.account.live b ≡ Some q). let u = g.owes.recalled b q j h named in (u.0, got_kept remembers x.seen.remembered a u.0 (b + 2 + j) u.1))
            (who d b j q lives named);
        fields = λ j spot got. ⊎_elim
            (λ (h : slice_get x.seen.remembered j ≡ Some spot). field_again k r.account.live live1 spot grows bare (g.owes.fields j spot h))
            (λ (h : (a ≡ spot) × (remembers ≡ true)). let m = grows f.address f.place f.lives in record {
              block = f.address;
              place = m.place;
              index = i;
              lives = m.lives;
              is = sym h.0 ∙ at_is;
              inside = subst (λ (s : Shape). i + 2 < extent s) (sym m.shape) (let n : ℕ = extent f.place.shape in let b : 2 + i < n = inside in omega arith);
              old = subst (IsOldBlock k) f.holds (f.exact.0 h.1).0;
              filled = (bare f.address m.place m.lives).no_debt;
            })
            (got_either remembers x.seen.remembered a j spot got);
      };
      naming = λ b q j m lives named. ⊎_elim
          (λ (h : (b ≡ f.address) × (c.named' j ≡ Some m)).
          let u = back b q lives in
          let same : f.place ≡ u.place = ap (λ (z : Option Place). unwrap_or z f.place) (sym f.lives ∙ (ap r.account.live (sym h.0) ∙ u.lives)) in
          let shape : f.place.shape ≡ q.shape = ap (λ (z : Place). z.shape) same ∙ u.shape in
          subst (λ (z : Shape). (m < k.domains) × (j + 2 < extent z)) shape (dite (ℕ_discrete m d)
          (λ mine_is. ⊎_elim
          (λ (n : f.place.named j ≡ Some d). let l = r.whole.copies.naming f.address f.place j d f.lives n in (let b = l.0 in omega arith, l.1))
          (λ (n : (j ≡ i) × (remembers ≡ true)). (let l = (mine k s r id hist x at).inside in omega arith, (let z : ℕ = extent f.place.shape in let b : 2 + i < z = inside in let p : j ≡ i = n.0 in let l : j + 2 < z = omega arith in l)))
          (c.mine j (h.1 ∙ ap Some mine_is)))
          (λ other. r.whole.copies.naming f.address f.place j m f.lives (c.theirs m j other h.1))))
          (λ (h : r.account.live b ≡ Some q). r.whole.copies.naming b q j m h named)
          (who m b j q lives named);
      recalls = λ m differ b q j lives named. ⊎_elim
          (λ (h : (b ≡ f.address) × (c.named' j ≡ Some m)). record { place = f.place; lives = ap r.account.live h.0 ∙ f.lives; named = c.theirs m j differ h.1 })
          (λ (h : r.account.live b ≡ Some q). record { place = q; lives = h; named = named })
          (who m b j q lives named);
      stood = let st = stood_after k s r id hist x at acts graph e regs (Replied reply) y refl refl refl refl o in record {
        wide = st.wide;
        each = λ q few. stands_more r.account.live live1 (value_at regs q) (register (next now e) d q) grows (st.each q few);
        serial = st.serial;
        enrolled = enrolled_more r.account.live live1 (next now e) d x.own.finalisers grows st.enrolled;
      };
      area = let p = area_back k r.account.live live1 x back g.area in record { room = p.room; free = p.free; classes = p.classes };
      making = let p = far x g.area g.making in record { fits = p.fits; written = p.written };
      areas = λ z _ h. area_back k r.account.live live1 z back h;
      makings = λ z _ area p. far z area p;
      grid = grid_back k r.account.tenancy r.account.live live1 words back grows (grid_beside k r.account.tenancy s.words (f.address + 2 + i) new r.account.live r.account.live r.whole.pools beside (more_same r.account.live) (λ b q h _. h) r.whole.grid);
      hunter = hunter_as k r.account.tenancy words x y refl refl refl refl refl refl refl (hunter_beside k r.account.tenancy s.words (f.address + 2 + i) new r.whole.pools x (beside d) g.hunter);
      hunters = λ z _ g. hunter_beside k r.account.tenancy s.words (f.address + 2 + i) new r.whole.pools z (beside z.own.number) g.hunter;
      listed = let l = listed_here k s r id hist x at live1 (ephe_back r.account.live live1 back) grows x g in record { all = l.all; own = l.own; lives = l.lives };
      listeds = λ z _ h. listed_here k s r id hist x at live1 (ephe_back r.account.live live1 back) grows z h;
      garbage = garbage_here k s r id hist x at live1 words (λ b is. none_back r.account.live live1 b back (r.whole.cycle.leaves.dead b is))
          (garbage_beside k r.account.live r.account.tenancy r.account.cycling s.words r.whole.cycle.leaves (f.address + 2 + i) new r.whole.pools beside);
      sweeps = g.sweeps;
    } in
    let told : Entered k e (Replied reply) NothingWord changes x (entered_view k s r id hist x at acts e regs) = enters k s r id hist x at acts graph e (Replied reply) NothingWord changes o in (
      y,
      subst (λ (n : ℕ). Rule k record { words = set s.words n new; homes = s.homes; views = set s.views id (one k hist y) }) (sym (ap (λ (n : ℕ). before_heap k + n) at_is)) rule,
      record {
        answers = told.answers;
        view = ap (λ (own : Own). with_front (remembering remembers a (with_own x own)) y.seen.front) (sym (changed_only NothingWord changes x.own));
        holds = told.holds;
      },
    )

pub value_stores : (k : Config) (slots id word : ℕ) (hist : List Entry) (x : DomainView) (a new : ℕ) (remembers : Bool) (changes : List Change) (command : model_command) → Acts k x → word ≡ before_heap k + a
    → ((s : Words) (r : Rule k s) (at : get_elem? s.views id ≡ some (one k hist x)) → ValueStore k s r id hist x at a new remembers changes command Done)
    → let e : Entry = Command x.own.number command false in
    Allows (Rule k) slots id (one k hist x, []) word (λ _. new) (λ _. Tells (λ y _ z. StoreTold k e a remembers changes y z) (one k hist x, []) new)
value_stores k slots id word hist x a new remembers changes command acts place may s r _ at _ =
    let t = value_stored k s r id hist x at a new remembers changes command Done acts (may s r at) in (
      one k hist t.0,
      keeps,
      tt,
      subst (λ (n : ℕ). Rule k record { words = set s.words n new; homes = s.homes; views = set s.views id (one k hist t.0) }) (sym place) t.1,
      (t.2, refl),
    )
