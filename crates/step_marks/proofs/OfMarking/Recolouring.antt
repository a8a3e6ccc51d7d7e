-- The head of a live block gets another colour, or the scanned mark.
use Rattle.std.proofs.Common.{◌≡◌, ◌≢◌, ℕ, ◌+◌, ◌*◌, ◌<◌, ◌≤◌, ◌⊎◌, Bool, cond, IsTrue, List, length, get_or, set, Some, Option, unwrap_or, sym, ap, ◌∙◌, subst, inl, inr, ⊎_elim, arith, length-set, get_or-set_same, get_or-set_other, None}
use mathlib.Core.Logic.{dite}
use native.Mathlib.Decide.{ℕ_discrete}
use mathlib.Core.Option.{some}
use lib.ListN.{get_elem?}
use Rattle.model_core.specs.declared.entry.Entry.{Entry}
use Rattle.model_core.specs.declared.label.Label.{Label}
use Rattle.heap_words.specs.Heads.{head_word}
use Rattle.heap_words.specs.declared.colours.Colours.{Colours}
use Rattle.model_cycle.specs.Marks.{Marks}
use Rattle.heap_rule.specs.declared.config.Config.{Config}
use Rattle.heap_rule.specs.declared.view.Hunt.TheVariants.{Rests}
use Rattle.heap_rule.specs.declared.view.DomainView.{DomainView}
use Rattle.heap_rule.specs.Layout.{before_heap, heap_words, at_address}
use Rattle.heap_rule.specs.Places.{Place, Paint, extent, head_of, Found, IsHead, IsOldWord, colour_in}
use Rattle.heap_rule.specs.Pools.{Grid, Hunter, Hunts, DrawsFor, Latest, limit_of, place_in}
use Rattle.heap_rule.specs.Cycles.{Cycling, IsCollecting, Knowing, Facts, OwesAs, seen_by}
use Rattle.heap_rule.specs.Rule.{AllFound, Area, Making, Rule, state_of}
use Rattle.heap_rule.specs.Views.{one}
use Rattle.heap_rule.proofs.HeadLemmas.{head_at}
use Rattle.heap_rule.proofs.Beside.{found_beside, making_beside, live_word_far}
use Rattle.heap_rule.proofs.Lots.{head_full, head_some}
use Rattle.heap_rule.proofs.Values.{extent_large}
use Rattle.heap_rule.proofs.Keeps.{Words, my_good, more_same, control_set}
use Rattle.step_marks.specs.Marking.Looks.{with_share}
use Rattle.step_marks.proofs.OfMarking.Recasting.{recasts}
use Rattle.step_marks.proofs.OfMarking.Learning.{Held, Learns, cycle', holding, sharing', sharings', bare, rests_here, knowing_on, known, Knows, lies_old, QueueMarked, GrowsBy}
use Rattle.model_cycle.proofs.Tracing.{More}
use Rattle.heap_rule.specs.declared.phase.Kind.TheVariants.{Clean}

module _ (k : Config) (s : Words) (r : Rule k s) (id : ℕ) (hist : List Entry) (x : DomainView) (at : get_elem? s.views id ≡ some (one k hist x)) (collecting : IsCollecting x.seen.stage) where
  abbrev paint : Paint
  paint = r.account.cycling.paint

  -- the block at an address is marked afterwards: what the domain knows of blocks it knows when the head is written
  module _ (a : ℕ) (p : Place) (new : ℕ) (m' : Marks) (lives : r.account.live a ≡ Some p) (marked : IsTrue (m'.marked p.label)) where
    head_stays : (b : ℕ) → b ≢ a → at_address k (set s.words (before_heap k + a) new) b ≡ at_address k s.words b
    head_stays b differ = get_or-set_other s.words (before_heap k + a) (before_heap k + b) new 0 (λ e. differ (omega arith))

    heads_stay : (b : ℕ) (q : Place) → r.account.live b ≡ Some q → (at_address k (set s.words (before_heap k + a) new) b ≡ at_address k s.words b) ⊎ IsTrue (m'.marked q.label)
    heads_stay b q there = dite (ℕ_discrete b a)
        (λ here. let same : p ≡ q = ap (λ (z : Option Place). unwrap_or z p) (sym lives ∙ (ap r.account.live (sym here) ∙ there)) in inr (subst (λ (z : Place). IsTrue (m'.marked z.label)) same marked))
        (λ other. inl (head_stays b other))

    free_stay : (b : ℕ) → at_address k s.words b ≡ 0 → at_address k (set s.words (before_heap k + a) new) b ≡ 0
    free_stay b free = head_stays b (λ same. head_full k paint r.account.live (state_of k r.account.log).graph s.words a p (r.whole.found a p lives) (ap (at_address k s.words) (sym same) ∙ free)) ∙ free

    pub known_still : More paint.marks.marked m'.marked → Knowing k r.account.live r.account.tenancy.holder (state_of k r.account.log).graph m' (set s.words (before_heap k + a) new) x.own.number x.own.registers x.seen.share
    known_still more = knowing_on k s r id hist x at m' (set s.words (before_heap k + a) new) heads_stay free_stay more x.own.number x.own.registers x.seen.share (known k s r id hist x at)

  -- What it owes that the head of the block at an address is written
  pub record Recolours (a : ℕ) (p : Place) (new : ℕ) (m' : Marks) (owes : ℕ → Bool) (follows seen : ℕ → ℕ → Bool) (h : Held) (waiting : List ℕ) : Type 0 where
    pub lives : r.account.live a ≡ Some p
    pub here : IsHead (record paint { marks = m' }) p new
    pub elsewhere : (l : Label) → p.label ≢ l → (m'.marked l ≡ paint.marks.marked l) × (m'.scanned l ≡ paint.marks.scanned l)
    pub marked : IsTrue (m'.marked p.label)
    pub more : More paint.marks.marked m'.marked
    pub still : r.account.cycling.kind ≡ Clean → m' ≡ paint.marks
    pub facts : Facts r.account.cycling.kind k (state_of k r.account.log) r.account.live r.account.tenancy (record r.account.cycling { paint = record paint { marks = m' }; shares = record r.account.cycling.shares { owes = owes; follows = follows; seen = seen } }) (set s.words (before_heap k + a) new)
    pub others : (z : ℕ) → z ≢ x.own.number → (owes z ≡ r.account.cycling.shares.owes z) × (follows z ≡ r.account.cycling.shares.follows z) × (seen z ≡ r.account.cycling.shares.seen z)
    pub owes_is : OwesAs (owes x.own.number) (follows x.own.number) h.owes h.account
    pub seen_is : seen x.own.number ≡ seen_by h.places_seen
    pub knows : Knows k s r id hist x at collecting m' (set s.words (before_heap k + a) new) h
    pub queued : QueueMarked k s r id hist x at collecting m' waiting
    pub grows : GrowsBy k s r id hist x at collecting m' r.account.cycling.shares.changed owes

  module _ (a : ℕ) (p : Place) (new : ℕ) (m' : Marks) (owes : ℕ → Bool) (follows seen : ℕ → ℕ → Bool) (h : Held) (waiting : List ℕ) (o : Recolours a p new m' owes follows seen h waiting) where
    abbrev words' : List ℕ
    words' = set s.words (before_heap k + a) new

    abbrev paint' : Paint
    paint' = record paint { marks = m' }

    abbrev c' : Cycling
    c' = record r.account.cycling { paint = paint'; shares = record r.account.cycling.shares { owes = owes; follows = follows; seen = seen } }

    low : 1 ≤ a
    low = (r.whole.placed.fits a p o.lives).low

    stays : (b : ℕ) → b ≢ a → at_address k words' b ≡ at_address k s.words b
    stays b differ = get_or-set_other s.words (before_heap k + a) (before_heap k + b) new 0 (λ e. differ (omega arith))

    spot : before_heap k + a < length s.words
    spot = let f = r.whole.placed.fits a p o.lives in let h = f.high in let n : ℕ = extent p.shape in let l : 3 ≤ n = extent_large p.shape f.head in let w : ℕ = heap_words k in let b : ℕ = before_heap k in let g : a + n ≤ w + 1 = h in let y : length s.words ≡ 1 + b + w = r.whole.wide in omega arith

    here_is : at_address k words' a ≡ new
    here_is = get_or-set_same s.words (before_heap k + a) new 0 spot

    control : (i : ℕ) → i ≤ before_heap k → get_or words' i 0 ≡ get_or s.words i 0
    control = control_set k s.words a new low

    learnt : Learns k s r id hist x at collecting m' r.account.cycling.shares.changed owes follows seen h waiting words'
    learnt = record {
      armed_same = control 4 (omega arith);
      colours_same = control 5 (omega arith);
      blocks_same = control 9 (omega arith);
      words_same = control 10 (omega arith);
      changed_is = control 3 (omega arith) ∙ r.whole.cycle.changed_is;
      facts = o.facts;
      dead = λ b none. stays b (λ same. let clash : ◌≡◌ {A = Option Place} None (Some p) = sym none ∙ (ap r.account.live same ∙ o.lives) in cc);
      heads = heads_stay a p new m' o.lives o.marked;
      more = o.more;
      still = o.still;
      others = o.others;
      owes_is = o.owes_is;
      seen_is = o.seen_is;
      knows = o.knows;
      queued = o.queued;
      grows = o.grows;
    }

    was_full : at_address k s.words a ≢ 0
    was_full = head_full k paint r.account.live (state_of k r.account.log).graph s.words a p (r.whole.found a p o.lives)

    is_full : new ≢ 0
    is_full e = head_some p.shape (colour_in paint' p.label) o.here.scanned (sym (o.here.packs ∙ ap (λ (f : Option ℕ). head_word (head_of f p.shape (colour_in paint' p.label) o.here.scanned)) (bare k s r id hist x at collecting a p o.lives).no_forward) ∙ e)

    -- what was Free is none of it, and what wasn't isn't Free now
    free_stays : (b : ℕ) → at_address k s.words b ≡ 0 → at_address k words' b ≡ 0
    free_stays b e = stays b (λ same. was_full (ap (at_address k s.words) (sym same) ∙ e)) ∙ e

    full_stays : (b : ℕ) → at_address k s.words b ≢ 0 → at_address k words' b ≢ 0
    full_stays b full e = dite (ℕ_discrete b a) (λ same. is_full (sym here_is ∙ (ap (at_address k words') (sym same) ∙ e))) (λ other. full (sym (stays b other) ∙ e))

    retint : (q : Place) (w : ℕ) → p.label ≢ q.label → IsHead paint q w → IsHead paint' q w
    retint q w differ t = let e = o.elsewhere q.label differ in let c : Colours = paint.colours in record {
      scanned = t.scanned;
      packs = t.packs ∙ ap (λ (b : Bool). head_word (head_of q.forward q.shape (cond b c.marked c.unmarked) t.scanned)) (sym e.0);
      tells = λ is up. e.1 ∙ t.tells (subst (λ (b : Bool). IsTrue b) e.0 is) up;
    }

    never_young : (b : ℕ) (q : Place) → r.account.live b ≡ Some q → k.pools * 4096 < b → ⊥
    never_young b q lives young = let u : b ≤ k.pools * 4096 = lies_old k s r id hist x at collecting b q lives in omega arith

    found_here : Found k paint' r.account.live (state_of k r.account.log).graph words' a p
    found_here = let f = r.whole.found a p o.lives in record {
      node = f.node;
      there = f.there;
      shape = f.shape;
      head = head_at paint' p here_is o.here;
      blank = λ young. absurd (never_young a p o.lives young);
      label = stays (a + 1) (λ e. omega arith) ∙ f.label;
      values = λ i v has got. let w = f.values i v has got in record { value = w.value; packs = stays (a + 2 + i) (λ e. omega arith) ∙ w.packs; stands = w.stands };
      old = λ under i inside has none. subst (IsOldWord k) (sym (stays (a + 2 + i) (λ e. omega arith))) (f.old under i inside has none);
    }

    found' : AllFound k paint' r.account.live (state_of k r.account.log).graph words'
    found' b q lives = dite (ℕ_discrete b a)
        (λ same.
        let place : p ≡ q = ap (λ (z : Option Place). unwrap_or z p) (sym o.lives ∙ (ap r.account.live (sym same) ∙ lives)) in
        subst (λ (y : ℕ × Place). Found k paint' r.account.live (state_of k r.account.log).graph words' y.0 y.1) (λ j. (sym same j, place j)) found_here)
        (λ other.
        let differ : p.label ≢ q.label = (λ e. other (sym (r.whole.placed.once a b p q o.lives lives e (bare k s r id hist x at collecting a p o.lives).no_forward (bare k s r id hist x at collecting b q lives).no_forward))) in
        let f = r.whole.found b q lives in
        let g = found_beside k paint r.account.live r.account.live (state_of k r.account.log).graph (state_of k r.account.log).graph s.words a new b q (more_same r.account.live) f f.there (λ z inside e. let n : ℕ = extent p.shape in let m : ℕ = extent q.shape in let i : z < m = inside in let l : 3 ≤ n = extent_large p.shape (r.whole.placed.fits a p o.lives).head in let h : b + z ≡ a = e in
        ⊎_elim (λ (t : b + m ≤ a). omega arith) (λ (t : a + n ≤ b). omega arith) (r.whole.placed.apart b a q p lives o.lives other)) in record {
          node = g.node;
          there = g.there;
          shape = g.shape;
          head = retint q (at_address k words' b) differ g.head;
          blank = λ young. absurd (never_young b q lives young);
          label = g.label;
          values = g.values;
          old = g.old;
        })

    grid' : Grid k r.account.tenancy r.account.live words'
    grid' = record {
      lots = r.whole.grid.lots;
      places = λ q d c slot is inside. ⊎_elim (λ (e : at_address k s.words (place_in q c slot) ≡ 0). inl (free_stays (place_in q c slot) e)) (λ t. inr t) (r.whole.grid.places q d c slot is inside);
      spares = λ b d is. let t = r.whole.grid.spares b d is in record { own = t.own; head = full_stays b t.head; empty = t.empty };
    }

    -- nobody takes a block of the pools meanwhile
    hunter' : (z : DomainView) → z.seen.hunt ≡ Rests → Hunter k r.account.tenancy s.words z → Hunter k r.account.tenancy words' z
    hunter' z rests h = record {
      hunt = subst (Hunts k r.account.tenancy words' z.own.number) (sym rests) tt;
      drawn_alone = h.drawn_alone;
      free = λ f e. subst (λ (m : ℕ × ℕ). (m.0 ≤ f + m.1) × (m.0 ≤ f + limit_of k m.0) × (f ≤ m.0)) (λ i. (sym (control 6 (omega arith)) i, sym (control 7 (omega arith)) i)) (h.free f e);
      spare = λ u e. let f = h.spare u e in record { own_is = f.own_is; inside = f.inside; free = free_stays (place_in u.pool u.class u.slot) f.free };
      taken = λ q c slot is inside before. full_stays (place_in q c slot) (h.taken q c slot is inside before);
      holds = h.holds;
      prepared = h.prepared;
      claims = h.claims;
      supply = λ c few some. ⊎_elim (λ (u : DrawsFor c z.seen.hunt). inl u) (λ (l : Latest k r.account.tenancy s.words z.own.number c). inr record {
        own_is = l.own_is;
        few = l.few;
        enough = l.enough;
        rest = λ j from inside. ⊎_elim (λ (e : at_address k s.words (place_in (r.account.tenancy.stock.latest z.own.number c) c j) ≡ 0). inl (free_stays (place_in (r.account.tenancy.stock.latest z.own.number c) c j) e)) (λ t. inr t) (l.rest j from inside);
      }) (h.supply c few some);
    }

    makes : (z : DomainView) → Area k r.account.live z → Making k s.words z → Making k words' z
    makes z area q = making_beside k s.words a new z (λ j fits e. live_word_far k r.account.live a 0 p z o.lives (let n : ℕ = extent p.shape in let l : 3 ≤ n = extent_large p.shape (r.whole.placed.fits a p o.lives).head in let g : 0 < n = omega arith in g) area j fits (e ∙ (let g : a ≡ a + 0 = omega arith in g))) q

    pub recolours : Rule k record { words = words'; homes = s.homes; views = set s.views id (one k hist (with_share x (holding (record x.seen.share { waiting = waiting }) h))) }
    recolours = recasts k s r id hist x at (holding (record x.seen.share { waiting = waiting }) h) c'.paint c'.shares c'.past words' record {
      wide = length-set s.words (before_heap k + a) new;
      control = control;
      found = found';
      grid = grid';
      cycle = cycle' k s r id hist x at collecting m' r.account.cycling.shares.changed owes follows seen h waiting words' learnt;
      makings = makes;
      hunters = λ z g. hunter' z (rests_here k s r id hist x at collecting z g.staged g.resting) g.hunter;
      sharing = sharing' k s r id hist x at collecting m' r.account.cycling.shares.changed owes follows seen h waiting words' learnt;
      sharings = sharings' k s r id hist x at collecting m' r.account.cycling.shares.changed owes follows seen h waiting words' learnt;
      sweeps = (my_good k s r id hist x at).sweeps;
      others_sweep = λ z g. g.sweeps;
    }
