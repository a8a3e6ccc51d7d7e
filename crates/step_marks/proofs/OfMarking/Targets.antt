-- The block that there is a reason to mark, and what the domain knows once it is marked.
use Rattle.std.proofs.Common.{◌≡◌, ℕ, zero, suc, ◌+◌, ◌==◌, ◌||◌, Bool, true, false, IsTrue, eqb-true, List, [], ◌∷◌, filter_map, flat_map, get_or, slice_get, Option, Some, unwrap_or, sym, refl, ap, ◌∙◌, subst, inl, inr, ⊎_elim, add-one, option_to_list, ◌≢◌, ◌<◌, length, ◌≤◌, arith}
use Rattle.std.specs.List.{list_any}
use mathlib.Core.Option.{some}
use lib.ListN.{get_elem?}
use Rattle.model_core.specs.declared.entry.Entry.{Entry}
use Rattle.model_core.specs.declared.label.Label.{Label}
use Rattle.model_core.specs.declared.graph.Value.{Value}
use Rattle.model_core.specs.declared.graph.Value.TheVariants.{Int, Block, Nothing}
use Rattle.model_core.specs.declared.graph.Node.{Node}
use Rattle.model_core.specs.declared.graph.Node.TheVariants.{Plain}
use Rattle.model_core.specs.declared.state.DomainState.{DomainState}
use Rattle.model_core.specs.declared.state.State as model
use Rattle.model_core.specs.Graph.{same_label, has_label, label_of, node_at}
use Rattle.model_core.specs.Domains.{domain_at, pending_label, queues, roots}
use Rattle.model_core.proofs.Graphs.GraphLemmas.{same_label_refl, same_label-true}
use Rattle.model_core.proofs.Reach.ReachLemmas.{has-append_left, or_cases, or_left, or_right}
use Rattle.heap_words.specs.declared.value.Value.TheVariants.{Ref}
use Rattle.model_cycle.specs.Marks.{Marks, fields_of, MayDarken, DataMarked, data_of}
use Rattle.model_cycle.specs.Progress.{FieldsDone}
use Rattle.model_cycle.proofs.Cycling.{darkening_steps}
use Rattle.model_cycle.proofs.DomainParts.{part_has, listed_at}
use Rattle.model_cycle.proofs.Progressing.{fields_next, keys_end}
use Rattle.heap_rule.specs.declared.config.Config.{Config}
use Rattle.heap_rule.specs.declared.view.DomainView.{DomainView}
use Rattle.heap_rule.specs.declared.view.Scan.{Scan}
use Rattle.heap_rule.specs.declared.view.Scan.TheVariants.{Idle, Reads, Holds, Keys, Key, Datum}
use Rattle.heap_rule.specs.Changes.{value_at}
use Rattle.heap_rule.specs.Places.{Place}
use Rattle.heap_rule.specs.Cycles.{Cycling, IsCollecting, IsMarkedAt, Knowing, Refers, Scans, seen_by, Facts, DatumAt, cycle_of}
use Rattle.heap_rule.specs.Rule.{Rule, state_of}
use Rattle.heap_rule.specs.Views.{one}
use Rattle.heap_rule.proofs.Blocks.{lives_at}
use Rattle.heap_rule.proofs.Keeps.{Words, my_good}
use Rattle.step_marks.specs.Marking.Marking.{Reason, Register, Field, OfDatum, OfQueue, Warrants, moved_on, next_scan, scan_on, roots_on, seen_on, seen_through, waiting_on}
use Rattle.step_marks.proofs.OfMarking.Learning.{Knows, QueueMarked, held, known, at_same, at_other, looks_still, queue_still}
use Rattle.step_marks.proofs.OfMarking.Layouts.{labelled, owner_of_place}
use Rattle.step_marks.proofs.OfMarking.Queues.{queue_root}
use Rattle.model_cycle.proofs.Tracing.{More}
use Rattle.heap_rule.specs.declared.view.Held.TheVariants.{Queue}
use Rattle.heap_rule.specs.Finalisers.{held_at}
use Rattle.std.proofs.lemmas.Option.{none-some, same_Some}
use Rattle.heap_rule.specs.declared.phase.Kind.TheVariants.{Clean, Rounds}
use Rattle.model_core.specs.Reach.{HoldsRoots}
use Rattle.model_cycle.specs.Shares.{at_domain}
use Rattle.heap_rule.specs.Ephemerons.{ephemeron_of}
use Rattle.heap_rule.specs.Pools.{owned, blocks_of, IsBefore, place_in}

-- the label in a register, and in a field, is among those of its list
held_named : (l : Label) (vs : List Value) (n : ℕ) → get_or vs n Nothing ≡ Block l → IsTrue (has_label (filter_map label_of vs) l)
held_named l [] n e = cc
held_named l (v ∷ vs) zero e = subst (λ (u : Value). IsTrue (has_label (filter_map label_of (u ∷ vs)) l)) (sym e) (or_left (same_label l l) (has_label (filter_map label_of vs) l) (same_label_refl l))
held_named l (Int z ∷ vs) (suc n) e = held_named l vs n e
held_named l (Nothing ∷ vs) (suc n) e = held_named l vs n e
held_named l (Block m ∷ vs) (suc n) e = or_right (same_label m l) (has_label (filter_map label_of vs) l) (held_named l vs n e)

field_named : (l : Label) (fields : List Value) (i : ℕ) → slice_get fields i ≡ Some (Block l) → IsTrue (has_label (filter_map label_of fields) l)
field_named l fields i e = listed_at label_of fields i (Block l) l e refl

abbrev no_values : List Value
no_values = []

no_field : (l : Label) (i : ℕ) → slice_get no_values i ≡ Some (Block l) → ⊥
no_field l i e = cc

datum_named : (l : Label) (datum : Value) → datum ≡ Block l → IsTrue (has_label (option_to_list (label_of datum)) l)
datum_named l datum e = subst (λ (v : Value). IsTrue (has_label (option_to_list (label_of v)) l)) (sym e) (or_left (same_label l l) false (same_label_refl l))

datum_holds : (marked : Label → Bool) (l : Label) (datum : Value) → datum ≡ Block l → IsTrue (marked l) → HoldsRoots (option_to_list (label_of datum)) marked
datum_holds marked l datum e is = subst (λ (v : Value). HoldsRoots (option_to_list (label_of v)) marked) (sym e) (λ y has. ⊎_elim
    (λ (h : IsTrue (same_label l y)). subst (λ (z : Label). IsTrue (marked z)) (same_label-true l y h) is)
    (λ (h : IsTrue false). absurd (let clash : false ≡ true = h in cc))
    (or_cases (same_label l y) false has))

same_number : (a b : ℕ) → Ref a ≡ Ref b → a ≡ b
same_number a b e = cc

module _ (k : Config) (s : Words) (r : Rule k s) (id : ℕ) (hist : List Entry) (x : DomainView) (at : get_elem? s.views id ≡ some (one k hist x)) where
  open r.account use {live, cycling as c}

  abbrev now : model.State
  now = state_of k r.account.log

  pub record Target (a : ℕ) : Type 0 where
    pub place : Place
    pub lives : live a ≡ Some place
    pub may : MayDarken now.graph (roots now (queues now)) c.paint.marks.marked place.label

  pub target : (reason : Reason) (a : ℕ) → Warrants reason x a → Target a
  target (Register n) a w =
      let b = lives_at k s r id hist x at n a w in record {
        place = b.place;
        lives = b.lives;
        may = inl (has-append_left (flat_map (λ (y : DomainState). filter_map label_of y.registers) now.domains) (flat_map (filter_map pending_label) (queues now)) b.place.label
            (part_has (λ (y : DomainState). filter_map label_of y.registers) now.domains x.own.number refl b.place.label (held_named b.place.label (domain_at now x.own.number).registers n b.held)));
      }
  target Field a w =
      let n : Refers live now.graph c.paint.marks w.0 w.1 w.2 w.3 a = subst (Scans live now.graph c.paint.marks) w.4 (known k s r id hist x at).scan in record {
        place = n.target;
        lives = n.there;
        may = inr (inl (
          n.reads.place.label,
          n.reads.marked,
          ⊎_elim
              (λ (e : node_at now.graph n.reads.place.label ≡ Some (Plain n.reads.tag n.reads.fields)). subst (λ (z : Option Node). IsTrue (has_label (fields_of z) n.target.label)) (sym e) (field_named n.target.label n.reads.fields w.1 n.holds))
              (λ (e : (n.reads.fields ≡ []) × (fields_of (node_at now.graph n.reads.place.label) ≡ [])). absurd (no_field n.target.label w.1 (subst (λ (z : List Value). slice_get z w.1 ≡ Some (Block n.target.label)) e.0 n.holds)))
              n.reads.node,
        ));
      }
  target OfDatum a w =
      let n : DatumAt live now.graph c.paint.marks w.0 a = subst (Scans live now.graph c.paint.marks) w.2 (known k s r id hist x at).scan in record {
        place = n.target;
        lives = n.there;
        may = inr (inr (
          n.place.label,
          n.marked,
          keys_end now.graph c.paint.marks.marked n.place.label n.keys n.datum (length n.keys) n.node n.through (let z : ℕ = length n.keys in let e : z ≤ z = omega arith in e),
          subst (λ (z : Option Node). IsTrue (has_label (data_of z) n.target.label)) (sym n.node) (datum_named n.target.label n.datum n.holds),
        ));
      }
  target (OfQueue i) a w =
      let n = queue_root live now x.own.number x.own.finalisers i a (my_good k s r id hist x at).stood.enrolled w in record {
        place = n.1.0;
        lives = n.1.1;
        may = inl (subst (λ (l : Label). IsTrue (has_label (roots now (queues now)) l)) (sym n.1.2) n.2);
      }

  -- what a domain has seen once it is done with what it had to mark
  abbrev pub sees_on : (reason : Reason) (a : ℕ) → Warrants reason x a → ℕ → ℕ → Bool
  sees_on (Register n) a w = c.shares.seen
  sees_on Field a w = c.shares.seen
  sees_on OfDatum a w = at_domain c.shares.seen x.own.number (λ b. b == w.0 || c.shares.seen x.own.number b)
  sees_on (OfQueue i) a w = c.shares.seen

  pub sees_others : (reason : Reason) (a : ℕ) (w : Warrants reason x a) (z : ℕ) → z ≢ x.own.number → sees_on reason a w z ≡ c.shares.seen z
  sees_others (Register n) a w z other = refl
  sees_others Field a w z other = refl
  sees_others OfDatum a w z other = at_other c.shares.seen x.own.number (λ b. b == w.0 || c.shares.seen x.own.number b) z other
  sees_others (OfQueue i) a w z other = refl

  pub sees_own : (reason : Reason) (a : ℕ) (w : Warrants reason x a) → c.shares.seen x.own.number ≡ seen_by x.seen.share.places_seen → sees_on reason a w x.own.number ≡ seen_by (seen_on reason x.seen.share.scan x.seen.share.places_seen)
  sees_own (Register n) a w seen = seen
  sees_own Field a w seen = seen
  sees_own OfDatum a w seen = at_same c.shares.seen x.own.number (λ b. b == w.0 || c.shares.seen x.own.number b)
      ∙ (ap (λ (f : ℕ → Bool). λ (b : ℕ). b == w.0 || f b) seen ∙ ap (λ (z : Scan). seen_by (seen_through z x.seen.share.places_seen)) (sym w.2))
  sees_own (OfQueue i) a w seen = seen

  -- the ephemeron whose keys a domain looks at lies in its own pools
  pub own_ephemeron : (a : ℕ) → ephemeron_of x.seen.share.scan ≡ Some a → (cycle_of k live r.account.tenancy.holder c).layout.owner a ≡ Some x.own.number
  own_ephemeron a is =
      let g = my_good k s r id hist x at in
      let o = g.listed.own a (g.sharing.looks.at_own a is) in
      ap (λ (b : ℕ). (cycle_of k live r.account.tenancy.holder c).layout.owner b) o.begins ∙ owner_of_place r.account.tenancy.holder o.pool x.own.number o.class o.slot (r.whole.pools.owned_by o.pool x.own.number o.class o.owned_is).2 o.owned_is o.inside

  -- and once its datum is marked the domain has seen it
  pub datum_facts : (a : ℕ) → Warrants OfDatum x a → (p : Place) → live a ≡ Some p → (c1 : Cycling) (words' : List ℕ) → IsTrue (c1.paint.marks.marked p.label) → Facts Rounds k now live r.account.tenancy c1 words'
      → (block : ℕ) → x.seen.share.scan ≡ Datum block a → Facts Rounds k now live r.account.tenancy (record c1 { shares = record c1.shares { seen = at_domain c1.shares.seen x.own.number (λ b. b == block || c1.shares.seen x.own.number b) } }) words'
  datum_facts a w p lives c1 words' marked f block is =
      let n : DatumAt live now.graph c.paint.marks block a = subst (Scans live now.graph c.paint.marks) is (known k s r id hist x at).scan in
      let same : p ≡ n.target = ap (λ (z : Option Place). unwrap_or z p) (sym lives ∙ n.there) in
      let target : IsTrue (c1.paint.marks.marked n.target.label) = subst (λ (z : Place). IsTrue (c1.paint.marks.marked z.label)) same marked in
      let follows : DataMarked now.graph c1.paint.marks.marked n.place.label = subst (λ (z : Option Node). HoldsRoots (data_of z) c1.paint.marks.marked) (sym n.node) (datum_holds c1.paint.marks.marked n.target.label n.datum n.holds target) in (
        darkening_steps.rounds_looks c1.pass k.domains now (cycle_of k live r.account.tenancy.holder c1) f.0 x.own.number block (own_ephemeron block (ap ephemeron_of is))
            (λ l there _ _. let u = labelled k live block l there in let here : n.place ≡ u.place = ap (λ (z : Option Place). unwrap_or z n.place) (sym n.lives ∙ u.lives) in subst (DataMarked now.graph c1.paint.marks.marked) (ap (λ (z : Place). z.label) here ∙ u.label) follows),
        f.1,
      )

  -- once the block is marked those at the places of the queue are at which the domain has been
  pub waiting_moved : (collecting : IsCollecting x.seen.stage) (a : ℕ) (p : Place) → live a ≡ Some p → (m' : Marks) → IsTrue (m'.marked p.label) → More c.paint.marks.marked m'.marked
      → (reason : Reason) → Warrants reason x a → QueueMarked k s r id hist x at collecting m' (waiting_on reason x.seen.share.waiting)
  waiting_moved collecting a p lives m' marked more (Register j) w rooting i b q is at_i there = queue_still k s r id hist x at collecting m' more rooting i b q is at_i there
  waiting_moved collecting a p lives m' marked more Field w rooting i b q is at_i there = queue_still k s r id hist x at collecting m' more rooting i b q is at_i there
  waiting_moved collecting a p lives m' marked more OfDatum w rooting i b q is at_i there = queue_still k s r id hist x at collecting m' more rooting i b q is at_i there
  waiting_moved collecting a p lives m' marked more (OfQueue j) w rooting i b q is at_i there = go (i == j) refl is
    where
      go : (t : Bool) → (i == j) ≡ t → IsTrue (t || seen_by x.seen.share.waiting i) → IsTrue (m'.marked q.label)
      go true eq is =
          let address : a ≡ b = same_Some a b (sym w ∙ (ap (λ (z : ℕ). held_at x.own.finalisers (Queue z)) (sym (eqb-true i j eq)) ∙ at_i)) in
          let same : p ≡ q = ap (λ (z : Option Place). unwrap_or z p) (sym lives ∙ (ap live address ∙ there)) in
          subst (λ (z : Place). IsTrue (m'.marked z.label)) same marked
      go false eq is = queue_still k s r id hist x at collecting m' more rooting i b q is at_i there

  -- once the block is marked the domain goes on
  module _ (collecting : IsCollecting x.seen.stage) (a : ℕ) (p : Place) (lives : live a ≡ Some p) (m' : Marks) (words' : List ℕ) (marked : IsTrue (m'.marked p.label)) (still : c.kind ≡ Clean → m' ≡ c.paint.marks)
      (n : Knowing k live r.account.tenancy.holder now.graph m' words' x.own.number x.own.registers x.seen.share) where
    same_place : (q : Place) → live a ≡ Some q → p ≡ q
    same_place q e = ap (λ (z : Option Place). unwrap_or z p) (sym lives ∙ e)

    field_on : (scan : Scan) (block done size head : ℕ) → scan ≡ Holds block done size head a → Scans live now.graph m' scan → Scans live now.graph m' (next_scan scan)
    field_on scan block done size head is f =
        let t : Refers live now.graph m' block done size head a = subst (Scans live now.graph m') is f in
        let there : p ≡ t.target = same_place t.target t.there in
        let on : FieldsDone m'.marked t.reads.fields (done + 1) = subst (FieldsDone m'.marked t.reads.fields) (sym (add-one done)) (fields_next m'.marked t.reads.fields done t.reads.through
        (λ y e. let one_field : Some (Block t.target.label) ≡ Some (Block y) = sym t.holds ∙ e in let label : t.target.label ≡ y = cc in subst (λ (z : Label). IsTrue (m'.marked z)) (ap (λ (z : Place). z.label) there ∙ label) marked)) in
        subst (λ (z : Scan). Scans live now.graph m' (next_scan z)) (sym is) record { head_is = t.reads.head_is; size_is = t.reads.size_is; place = t.reads.place; lives = t.reads.lives; marked = t.reads.marked; tag = t.reads.tag; fields = t.reads.fields; node = t.reads.node; through = on }

    scan_moved : (reason : Reason) → Warrants reason x a → Scans live now.graph m' (scan_on reason x.seen.share.scan)
    scan_moved (Register i) w = n.scan
    scan_moved Field w = field_on x.seen.share.scan w.0 w.1 w.2 w.3 w.4 n.scan
    scan_moved OfDatum w = tt
    scan_moved (OfQueue i) w = n.scan

    -- no step of a scan comes to an ephemeron's keys
    next_at_own : (scan : Scan) (b : ℕ) → ephemeron_of (next_scan scan) ≡ Some b → ephemeron_of scan ≡ Some b
    next_at_own Idle b e = e
    next_at_own (Reads block done size head) b e = e
    next_at_own (Holds block done size head address) b e = e
    next_at_own (Keys block done count) b e = e
    next_at_own (Key block done count address) b e = e
    next_at_own (Datum block address) b e = e

    at_own_moved : (reason : Reason) (b : ℕ) → ephemeron_of (scan_on reason x.seen.share.scan) ≡ Some b → IsTrue (seen_by x.own.ephemerons.items b)
    at_own_moved (Register i) b e = (my_good k s r id hist x at).sharing.looks.at_own b e
    at_own_moved Field b e = (my_good k s r id hist x at).sharing.looks.at_own b (next_at_own x.seen.share.scan b e)
    at_own_moved OfDatum b e = absurd (none-some b e)
    at_own_moved (OfQueue i) b e = (my_good k s r id hist x at).sharing.looks.at_own b e

    walked_moved : (reason : Reason) → Warrants reason x a → (q e slot : ℕ) → r.account.tenancy.holder q ≡ owned x.own.number e → slot < blocks_of e → IsBefore q slot x.seen.share.walk → IsTrue (seen_by (seen_on reason x.seen.share.scan x.seen.share.places_seen) (place_in q e slot))
    walked_moved (Register i) w q e slot is inside low = n.walked q e slot is inside low
    walked_moved Field w q e slot is inside low = n.walked q e slot is inside low
    walked_moved OfDatum w q e slot is inside low = subst (λ (z : Scan). IsTrue (seen_by (seen_through z x.seen.share.places_seen) (place_in q e slot))) (sym w.2) (or_right (place_in q e slot == w.0) (seen_by x.seen.share.places_seen (place_in q e slot)) (n.walked q e slot is inside low))
    walked_moved (OfQueue i) w q e slot is inside low = n.walked q e slot is inside low

    rooted_moved : (reason : Reason) → Warrants reason x a → (i b : ℕ) (q : Place) → IsTrue (list_any (λ z. z == i) (roots_on reason x.seen.share.roots)) → value_at x.own.registers i ≡ Ref b → live b ≡ Some q → IsTrue (m'.marked q.label)
    rooted_moved (Register j) w i b q is e there = go (j == i) refl is
      where
        go : (t : Bool) → (j == i) ≡ t → IsTrue (t || list_any (λ z. z == i) x.seen.share.roots) → IsTrue (m'.marked q.label)
        go true eq is =
            let number : j ≡ i = eqb-true j i eq in
            let address : a ≡ b = same_number a b (sym w.holds ∙ (ap (value_at x.own.registers) number ∙ e)) in
            subst (λ (z : Place). IsTrue (m'.marked z.label)) (same_place q (ap live address ∙ there)) marked
        go false eq is = n.rooted i b q is e there
    rooted_moved Field w i b q is e there = n.rooted i b q is e there
    rooted_moved OfDatum w i b q is e there = n.rooted i b q is e there
    rooted_moved (OfQueue j) w i b q is e there = n.rooted i b q is e there

    marked_moved : (b : ℕ) → IsTrue (seen_by (a ∷ x.seen.share.marked) b) → IsMarkedAt live m'.marked b
    marked_moved b is = go (b == a) refl is
      where
        go : (t : Bool) → (b == a) ≡ t → IsTrue (t || seen_by x.seen.share.marked b) → IsMarkedAt live m'.marked b
        go true eq is = (p, ap live (eqb-true b a eq) ∙ lives, marked)
        go false eq is = n.marked b is

    pub moved_knows : (reason : Reason) → Warrants reason x a → (owes : Bool) (account : List ℕ) (darkenings : ℕ) → Knows k s r id hist x at collecting m' words' (record (held (moved_on reason a x.seen.share)) { owes = owes; account = account; darkenings = darkenings })
    moved_knows reason w owes account darkenings = record {
      found_head = λ g q e there. cc;
      scan = scan_moved reason w;
      walked = walked_moved reason w;
      own_pool = n.own_pool;
      rooted = rooted_moved reason w;
      marked = marked_moved;
      looking = looks_still k s r id hist x at collecting m' (record (held (moved_on reason a x.seen.share)) { owes = owes; account = account; darkenings = darkenings }) still refl (at_own_moved reason);
    }
