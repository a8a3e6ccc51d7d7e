-- A value of the ephemeron that a domain cleans is emptied, in Clean, whatever entry stands there.
use Rattle.std.proofs.Common.{◌≡◌, ◌≢◌, ℕ, ◌+◌, ◌<◌, ◌≤◌, ◌⊎◌, Bool, cond, false, true≢false, eq-eqb, IsTrue, List, [], length, set, slice_get, Option, Some, unwrap_or, sym, refl, ap, ◌∙◌, subst, inl, inr, ⊎_elim, arith, zero-le, length-set, get_or-set_same, get_or-set_other}
use mathlib.Core.Logic.{dite}
use native.Mathlib.Decide.{ℕ_discrete}
use mathlib.Core.Option.{some}
use lib.ListN.{get_elem?}
use Rattle.std.proofs.lemmas.Option.{same_Some}
use Rattle.model_core.specs.declared.entry.Entry.{Entry}
use Rattle.model_core.specs.declared.label.Label.{Label}
use Rattle.model_core.specs.declared.graph.Value.{Value}
use Rattle.model_core.specs.declared.graph.Value.TheVariants.{Nothing}
use Rattle.model_core.specs.declared.graph.Node.{Node}
use Rattle.model_core.specs.declared.graph.Node.TheVariants.{Plain, Ephe}
use Rattle.model_core.specs.declared.state.State as model
use Rattle.model_core.specs.Graph.{node_at}
use Rattle.model_core.specs.Fronts.{EpheShape, KeepsDomain, shape_of}
use Rattle.model_core.specs.History.{Legal}
use Rattle.heap_words.specs.declared.value.Value.TheVariants.{Nothing as NothingWord}
use Rattle.model_cycle.specs.Marks.{fields_of}
use Rattle.heap_rule.specs.declared.config.Config.{Config}
use Rattle.heap_rule.specs.declared.phase.Kind.{Kind}
use Rattle.heap_rule.specs.declared.phase.Kind.TheVariants.{Run, Clean}
use Rattle.heap_rule.specs.declared.phase.Stage.TheVariants.{In}
use Rattle.heap_rule.specs.declared.view.Cleaning.{Cleaning}
use Rattle.heap_rule.specs.declared.view.DomainView.{DomainView}
use Rattle.heap_rule.specs.declared.view.Scan.{Scan}
use Rattle.heap_rule.specs.declared.view.Scan.TheVariants.{Idle, Reads, Holds, Keys, Key, Datum}
use Rattle.heap_rule.specs.declared.view.Share.{Share}
use Rattle.heap_rule.specs.Beside.{RunsBeside}
use Rattle.step_marks.proofs.OfMarking.Pausing.{paused_on}
use Rattle.heap_rule.specs.Cycles.{IsMarking, Cycled, Cycling, Facts, IsCollecting, IsIdle, KeysAt, Knowing, Leading, MissesKeys, Scanned, Scans, Told, owner_at, seen_by}
use Rattle.heap_rule.specs.Ephemerons.{Cleans, Looks, emptied_at, ephemeron_of}
use Rattle.heap_rule.specs.Fullness.{Fullness}
use Rattle.heap_rule.specs.Layout.{at_address, before_heap, heap_words}
use Rattle.heap_rule.specs.Limits.{sizes_in}
use Rattle.heap_rule.specs.Phases.{CountsEnded, IsInPause, Staged, flag, is_over}
use Rattle.heap_rule.specs.Places.{Found, IsBare, IsOldWord, Paint, Place, Stands, extent, values_of, without_keys}
use Rattle.heap_rule.specs.Pools.{OwnPlace, place_in}
use Rattle.heap_rule.specs.Rule.{Account, AllFound, Area, Good, Making, Rule, Sharing, state_of}
use Rattle.heap_rule.specs.Standing.{with_front}
use Rattle.heap_rule.specs.Views.{EachView, Knows as SeatKnows, one}
use Rattle.heap_rule.proofs.Growing.{grows_none}
use Rattle.heap_rule.proofs.Beside.{extent_of, found_beside, live_word_far, making_beside}
use Rattle.heap_rule.proofs.FinaliserLemmas.{KeepsWork}
use Rattle.heap_rule.proofs.Sharings.{leading_loads}
use Rattle.heap_rule.proofs.Keeps.{whole_stays, Words, control_set, controls_kept, hunter_as, more_same, my_good, opened_words, owes_as, remakes, resting_as, resting_lists, room_words, stood_other, sum_same}
use Rattle.heap_rule.proofs.Lists.{got_set}
use Rattle.heap_rule.proofs.Lots.{Beside, grid_beside, head_full, hunter_beside, live_beside}
use Rattle.heap_rule.proofs.PauseFacts.{nobody_else_still, not_both}
use Rattle.heap_rule.proofs.Values.{extent_large}
use Rattle.model_core.proofs.Commands.FrameLemmas.{label_cases}
use Rattle.step_marks.specs.Marking.Looks.{with_share}
use Rattle.step_marks.proofs.OfMarking.Layouts.{owner_of_place}
use Rattle.step_marks.proofs.OfMarking.Learning.{bare, even, kind_here, known, leads_odd, waits}
use Rattle.step_marks.proofs.OfMarking.Unswept.{none_unswept}

module _ (k : Config) (s : Words) (r : Rule k s) (id : ℕ) (hist : List Entry) (x : DomainView) (at : get_elem? s.views id ≡ some (one k hist x)) (stage : x.seen.stage ≡ In Clean) (w : Cleaning) (cleaning : x.seen.share.cleaning ≡ Some w) where
  open r.account use {live, tenancy as T, cycling as c, cycling.{paint, paint.{marks as m}}}
  open x use {own.{number as d, ephemerons.{items}}, seen.{share as sh}}

  abbrev now : model.State
  now = state_of k r.account.log

  good : Good k r.account s.words x
  good = my_good k s r id hist x at

  pub collecting : IsCollecting x.seen.stage
  collecting = subst IsCollecting (sym stage) (λ none. none)

  not_run : In Clean ≡ In Run → ⊥
  not_run is = cc

  pub kind_is : c.kind ≡ Clean
  kind_is = kind_here k s r id hist x at Clean stage

  pub facts : Facts Clean k now live T c s.words
  facts = subst (λ (kind : Kind). Facts kind k now live T c s.words) kind_is r.whole.cycle.facts

  -- the ephemeron that is cleaned
  pub cleans : Cleans live now.graph m x.seen.stage items w
  cleans = good.sharing.looks.cleans w cleaning

  abbrev block : ℕ
  block = w.block

  abbrev pub p : Place
  p = cleans.place

  abbrev pub node : Node
  node = Ephe cleans.keys cleans.datum

  p_bare : IsBare p
  p_bare = bare k s r id hist x at collecting block p cleans.lives

  pub own : OwnPlace T.holder block d
  own = good.listed.own block cleans.listed

  owner_here : (a e : ℕ) (o : OwnPlace T.holder a e) → (e ≢ d) → a ≢ block
  owner_here a e o other same = other (same_Some e d (
      sym (owner_of_place T.holder o.pool e o.class o.slot (r.whole.pools.owned_by o.pool e o.class o.owned_is).2 o.owned_is o.inside)
      ∙ (ap (λ (b : ℕ). owner_at T.holder b) (sym o.begins ∙ (same ∙ own.begins))
      ∙ owner_of_place T.holder own.pool d own.class own.slot (r.whole.pools.owned_by own.pool d own.class own.owned_is).2 own.owned_is own.inside)
      ))

  -- a block elsewhere has another label
  differs : (b : ℕ) (q : Place) → live b ≡ Some q → b ≢ block → p.label ≢ q.label
  differs b q lives other same = other (sym (r.whole.placed.once block b p q cleans.lives lives same p_bare.no_forward (bare k s r id hist x at collecting b q lives).no_forward))

  -- the keys that miss
  pub emptied_is : paint.emptied p.label ≡ w.emptied
  emptied_is = good.sharing.looks.emptied_is block p own cleans.lives ∙ (ap (λ (o : Option Cleaning). emptied_at o block) cleaning ∙ here)
    where
      here : emptied_at (Some w) block ≡ w.emptied
      here = ap (λ (b : Bool). cond b w.emptied []) (eq-eqb block block refl)

  abbrev place_is : (q : Place) → live block ≡ Some q → p ≡ q
  place_is q lives = ap (λ (o : Option Place). unwrap_or o p) (sym cleans.lives ∙ lives)

  f : Found k paint live now.graph s.words block p
  f = r.whole.found block p cleans.lives

  node_is : f.node ≡ node
  node_is = same_Some f.node node (sym f.there ∙ cleans.node)

  -- What it owes that the i-th value is emptied: the node that the ephemeron has then, the history, the keys that miss, what was seen, and what the domain knows
  module _ (i : ℕ) (keys' : List (Option Label)) (datum' : Value) (log' : List Entry) (emptied' : Label → List ℕ) (seen' : ℕ → ℕ → Bool) (front' : List Entry) (cleaning' : Option Cleaning) (places_seen' : List ℕ) (scan' : Scan) where
    abbrev words' : List ℕ
    words' = set s.words (before_heap k + (block + 2 + i)) 0

    abbrev later : model.State
    later = state_of k log'

    abbrev paint' : Paint
    paint' = record paint { emptied = emptied' }

    abbrev c' : Cycling
    c' = record c { paint = paint'; shares = record c.shares { seen = seen' } }

    abbrev all' : Account
    all' = record r.account { log = log'; cycling = c' }

    abbrev share' : Share
    share' = record sh { cleaning = cleaning'; places_seen = places_seen'; scan = scan' }

    abbrev y : DomainView
    y = with_front (with_share x share') front'

    abbrev after : Node
    after = Ephe keys' datum'

    pub record Empties : Type 0 where
      pub below : i < length (values_of node)
      pub there : node_at later.graph p.label ≡ Some after
      pub elsewhere : (l : Label) → p.label ≢ l → node_at later.graph l ≡ node_at now.graph l
      pub same_length : length keys' ≡ length cleans.keys
      pub values : values_of (without_keys (emptied' p.label) after) ≡ set (values_of (without_keys (paint.emptied p.label) node)) i Nothing
      pub emptied_else : (l : Label) → p.label ≢ l → emptied' l ≡ paint.emptied l
      pub legal : Legal (sizes_in k) log'
      pub full : Fullness k log' live T.holder T.fresh T.garbage r.account.homes c.kind
      pub keeps : (z : ℕ) → KeepsDomain now later z
      pub work : (z : ℕ) → KeepsWork now later z
      pub facts : Facts Clean k later live T c' words'
      pub seen_others : (z : ℕ) → z ≢ d → seen' z ≡ c.shares.seen z
      pub seen_is : seen' d ≡ seen_by places_seen'
      pub walked : (b : ℕ) → IsTrue (seen_by sh.places_seen b) → IsTrue (seen_by places_seen' b)
      pub scans : Scans live later.graph m scan'
      pub at_own : (a : ℕ) → ephemeron_of scan' ≡ Some a → IsTrue (seen_by items a)
      pub cleans_on : (v : Cleaning) → cleaning' ≡ Some v → Cleans live later.graph m x.seen.stage items v
      pub emptied_here : emptied' p.label ≡ emptied_at cleaning' block
      pub emptied_there : (a : ℕ) → a ≢ block → emptied_at cleaning' a ≡ emptied_at sh.cleaning a
      pub knows : EachView (SeatKnows k log' r.seat) (set s.views id (one k hist y))

    module _ (o : Empties) where
      low : 1 ≤ block
      low = (r.whole.placed.fits block p cleans.lives).low

      size : extent p.shape ≡ length (values_of node) + 2
      size = sym (ap extent (ap shape_of (sym node_is) ∙ f.shape)) ∙ extent_of node

      inside : 2 + i < extent p.shape
      inside = let n : ℕ = extent p.shape in let e : n ≡ length (values_of node) + 2 = size in let b = o.below in omega arith

      spot : before_heap k + (block + 2 + i) < length s.words
      spot = let h = (r.whole.placed.fits block p cleans.lives).high in let n : ℕ = extent p.shape in let l : 2 + i < n = inside in let z : ℕ = heap_words k in let b : ℕ = before_heap k in let g : block + n ≤ z + 1 = h in let e : length s.words ≡ 1 + b + z = r.whole.wide in omega arith

      stays : (b : ℕ) → b ≢ block + 2 + i → at_address k words' b ≡ at_address k s.words b
      stays b differ = get_or-set_other s.words (before_heap k + (block + 2 + i)) (before_heap k + b) 0 0 (λ e. differ (omega arith))

      here_is : at_address k words' (block + 2 + i) ≡ 0
      here_is = get_or-set_same s.words (before_heap k + (block + 2 + i)) 0 0 spot

      free_stays : (b : ℕ) → at_address k s.words b ≡ 0 → at_address k words' b ≡ 0
      free_stays b e = dite (ℕ_discrete b (block + 2 + i)) (λ same. ap (at_address k words') same ∙ here_is) (λ other. stays b other ∙ e)

      -- the word is none of another block's
      far : (b : ℕ) (q : Place) → live b ≡ Some q → b ≢ block → (z : ℕ) → z < extent q.shape → b + z ≢ block + 2 + i
      far b q lives other z within e =
          let h : ℕ = extent q.shape in let n : ℕ = extent p.shape in let l : 2 + i < n = inside in let lower : z < h = within in let same : b + z ≡ block + 2 + i = e in
          ⊎_elim (λ (t : b + h ≤ block). omega arith) (λ (t : block + n ≤ b). omega arith) (r.whole.placed.apart b block q p lives cleans.lives other)

      heads_stay : (b : ℕ) (q : Place) → live b ≡ Some q → at_address k words' b ≡ at_address k s.words b
      heads_stay b q lives = stays b (λ e. dite (ℕ_discrete b block)
          (λ same. omega arith)
          (λ other. far b q lives other 0 (let n : ℕ = extent q.shape in let l : 3 ≤ n = extent_large q.shape (r.whole.placed.fits b q lives).head in let g : 0 < n = omega arith in g) (let g : b + 0 ≡ block + 2 + i = omega arith in g)))

      found_here : Found k paint' live later.graph words' block p
      found_here = record {
        node = after;
        there = o.there;
        shape = ap EpheShape o.same_length ∙ (ap shape_of (sym node_is) ∙ f.shape);
        head = let h = f.head in record { scanned = h.scanned; packs = stays block (λ e. omega arith) ∙ h.packs; tells = h.tells };
        blank = f.blank;
        label = stays (block + 1) (λ e. omega arith) ∙ f.label;
        values = λ j v has got. ⊎_elim
            (λ (t : (j ≡ i) × (Nothing ≡ v)). record { value = NothingWord; packs = ap (λ (n : ℕ). at_address k words' (block + 2 + n)) t.0 ∙ here_is; stands = subst (Stands live NothingWord) t.1 tt })
            (λ (t : (j ≢ i) × (slice_get (values_of (without_keys (paint.emptied p.label) node)) j ≡ Some v)).
            let u = f.values j v has (ap (λ (n : Node). slice_get (values_of (without_keys (paint.emptied p.label) n)) j) node_is ∙ t.1) in
            let differ : j ≢ i = t.0 in record { value = u.value; packs = stays (block + 2 + j) (λ e. differ (omega arith)) ∙ u.packs; stands = u.stands })
            (got_set (values_of (without_keys (paint.emptied p.label) node)) i j Nothing v (ap (λ (l : List Value). slice_get l j) (sym o.values) ∙ got));
        old = λ under j within has none. dite (ℕ_discrete j i)
            (λ same. subst (IsOldWord k) (sym (ap (λ (n : ℕ). at_address k words' (block + 2 + n)) same ∙ here_is)) (inr zero-le))
            (λ other. let differ : j ≢ i = other in subst (IsOldWord k) (sym (stays (block + 2 + j) (λ e. differ (omega arith)))) (f.old under j within has none));
      }

      found' : AllFound k paint' live later.graph words'
      found' b q lives = dite (ℕ_discrete b block)
          (λ same. subst (λ (z : ℕ × Place). Found k paint' live later.graph words' z.0 z.1) (λ j. (sym same j, place_is q (ap live (sym same) ∙ lives) j)) found_here)
          (λ other.
          let differ : p.label ≢ q.label = differs b q lives other in
          let g0 = r.whole.found b q lives in
          let g = found_beside k paint live live now.graph later.graph s.words (block + 2 + i) 0 b q (more_same live) g0 (o.elsewhere q.label differ ∙ g0.there) (far b q lives other) in record {
            node = g.node;
            there = g.there;
            shape = g.shape;
            head = let h = g.head in record { scanned = h.scanned; packs = h.packs; tells = h.tells };
            blank = g.blank;
            label = g.label;
            values = λ j v has got. g.values j v has (ap (λ (l : List ℕ). slice_get (values_of (without_keys l g.node)) j) (sym (o.emptied_else q.label differ)) ∙ got);
            old = g.old;
          })

      -- what other domains know of blocks stays
      node_on : (b : ℕ) (q : Place) → live b ≡ Some q → b ≢ block → node_at later.graph q.label ≡ node_at now.graph q.label
      node_on b q lives other = o.elsewhere q.label (differs b q lives other)

      fields_on : (b : ℕ) (q : Place) → live b ≡ Some q → (tag : ℕ) (fields : List Value) → (node_at now.graph q.label ≡ Some (Plain tag fields)) ⊎ ((fields ≡ []) × (fields_of (node_at now.graph q.label) ≡ []))
          → (node_at later.graph q.label ≡ Some (Plain tag fields)) ⊎ ((fields ≡ []) × (fields_of (node_at later.graph q.label) ≡ []))
      fields_on b q lives tag fields is = dite (ℕ_discrete b block)
          (λ same.
          let there : node_at now.graph q.label ≡ Some node = ap (λ (z : Place). node_at now.graph z.label) (sym (place_is q (ap live (sym same) ∙ lives))) ∙ cleans.node in
          let there' : node_at later.graph q.label ≡ Some after = ap (λ (z : Place). node_at later.graph z.label) (sym (place_is q (ap live (sym same) ∙ lives))) ∙ o.there in
          ⊎_elim
          (λ (e : node_at now.graph q.label ≡ Some (Plain tag fields)). absurd (let clash : ◌≡◌ {A = Option Node} (Some node) (Some (Plain tag fields)) = sym there ∙ e in cc))
          (λ (e : (fields ≡ []) × (fields_of (node_at now.graph q.label) ≡ [])). inr (e.0, ap fields_of there'))
          is)
          (λ other. let e = node_on b q lives other in ⊎_elim
          (λ (h : node_at now.graph q.label ≡ Some (Plain tag fields)). inl (e ∙ h))
          (λ (h : (fields ≡ []) × (fields_of (node_at now.graph q.label) ≡ [])). inr (h.0, ap fields_of e ∙ h.1))
          is)

      scanned_on : (b done count head : ℕ) → Scanned live now.graph m b done count head → Scanned live later.graph m b done count head
      scanned_on b done count head h = record { place = h.place; lives = h.lives; marked = h.marked; tag = h.tag; fields = h.fields; node = fields_on b h.place h.lives h.tag h.fields h.node; head_is = h.head_is; size_is = h.size_is; through = h.through }

      keys_on : (b done count : ℕ) → b ≢ block → KeysAt live now.graph m b done count → KeysAt live later.graph m b done count
      keys_on b done count other h = record { place = h.place; lives = h.lives; marked = h.marked; keys = h.keys; datum = h.datum; node = node_on b h.place h.lives other ∙ h.node; count_is = h.count_is; through = h.through }

      scans_on : (scan : Scan) → ((a : ℕ) → ephemeron_of scan ≡ Some a → a ≢ block) → Scans live now.graph m scan → Scans live later.graph m scan
      unfolding scanned_on keys_on
      scans_on Idle other h = tt
      scans_on (Reads b done count head) other h = scanned_on b done count head h
      scans_on (Holds b done count head address) other h = record { reads = scanned_on b done count head h.reads; target = h.target; there = h.there; holds = h.holds }
      scans_on (Keys b done count) other h = keys_on b done count (other b refl) h
      scans_on (Key b done count address) other h = record { reads = keys_on b done count (other b refl) h.reads; target = h.target; there = h.there; holds = h.holds }
      scans_on (Datum b address) other h = record {
        place = h.place;
        lives = h.lives;
        marked = h.marked;
        keys = h.keys;
        datum = h.datum;
        node = node_on b h.place h.lives (other b refl) ∙ h.node;
        through = h.through;
        target = h.target;
        there = h.there;
        holds = h.holds;
      }

      away : (z : DomainView) → z.own.number ≢ d → Good k r.account s.words z → (a : ℕ) → IsTrue (seen_by z.own.ephemerons.items a) → a ≢ block
      away z other g a listed = owner_here a z.own.number (g.listed.own a listed) other

      knowing_on : (z : DomainView) → z.own.number ≢ d → Good k r.account s.words z → Knowing k live T.holder now.graph m s.words z.own.number z.own.registers z.seen.share → Knowing k live T.holder later.graph m words' z.own.number z.own.registers z.seen.share
      knowing_on z other g n = record {
        found_head = λ h q is lives. ⊎_elim (λ (same : at_address k s.words h.address ≡ h.word). inl (heads_stay h.address q lives ∙ same)) (λ (is : IsTrue (m.marked q.label)). inr is) (n.found_head h q is lives);
        scan = scans_on z.seen.share.scan (λ a e. away z other g a (g.sharing.looks.at_own a e)) n.scan;
        walked = n.walked;
        own_pool = n.own_pool;
        rooted = n.rooted;
        marked = n.marked;
        counted = n.counted;
        held = n.held;
        vacant = λ class slot own within under. free_stays (place_in z.seen.share.held class slot) (n.vacant class slot own within under);
      }

      looks_on : (z : DomainView) → z.own.number ≢ d → Good k r.account s.words z → Looks live T.holder later.graph m emptied' z.own.number z.own.ephemerons.items z.seen.stage z.seen.share
      looks_on z other g = let l = g.sharing.looks in record {
        at_own = l.at_own;
        cleans = λ v e. let h = l.cleans v e in record {
          stage_is = h.stage_is;
          listed = h.listed;
          place = h.place;
          lives = h.lives;
          label = h.label;
          marked = h.marked;
          keys = h.keys;
          datum = h.datum;
          node = node_on v.block h.place h.lives (away z other g v.block h.listed) ∙ h.node;
          count_is = h.count_is;
          through = h.through;
          next = h.next;
        };
        emptied_is = λ a q own lives. o.emptied_else q.label (differs a q lives (owner_here a z.own.number own other)) ∙ l.emptied_is a q own lives;
      }

      leading_on : (z : DomainView) (share : Share) → Staged r.account.pause z → Leading c s.words z.own.number z.seen.stage share → Leading c' words' z.own.number z.seen.stage share
      leading_on z share staged l =
          let same = (controls_kept k s r id hist x at words' (control_set k s.words (block + 2 + i) 0 (omega arith))).cycle in leading_loads c c' s.words words' z.own.number z.seen.stage share share refl refl record {
            changed = λ v e. absurd (leads_odd r.account.pause z.own.number z.own.arrivals z.seen.stage (even k s r id hist x at collecting) staged.stage (l.changed v e).1);
            found_blocks = λ v e. let h = l.found_blocks v e in (h.0, same.blocks_same ∙ h.1);
            found_words = λ v e. let h = l.found_words v e in (h.0, same.words_same ∙ h.1);
          } l

      -- nobody runs
      running_on : (z : DomainView) → Good k r.account s.words z → RunsBeside k live T.holder c.armed c.past m.marked words' z.own.number z.seen.stage z.seen.share
      running_on z g = paused_on k r.account.pause c r.whole.cycle.told (λ e. let clash : Clean ≡ Run = sym kind_is ∙ e in cc) live live T.holder T.holder m.marked m.marked s.words words' z g.staged g.sharing.running

      sharings' : (z : DomainView) → z.own.number ≢ d → Good k r.account s.words z → Sharing k all' words' z.own.number z.own.registers z.own.finalisers z.own.ephemerons.items z.seen.stage z.seen.share
      sharings' z other g = let t = g.sharing.telling in record {
        telling = record { owes = t.owes; seen = λ up. o.seen_others z.own.number other ∙ t.seen up; fresh = t.fresh; forgotten = t.forgotten; colours = t.colours };
        leading = leading_on z z.seen.share g.staged g.sharing.leading;
        knows = ⊎_elim
            (λ (q : IsIdle z.seen.share). inl q)
            (λ (n : IsCollecting z.seen.stage × Knowing k live T.holder now.graph m s.words z.own.number z.own.registers z.seen.share). inr (n.0, knowing_on z other g n.1))
            g.sharing.knows;
        adds = record { blocks = g.sharing.adds.blocks; words = g.sharing.adds.words; own = g.sharing.adds.own };
        looks = looks_on z other g;
        running = running_on z g;
        deciding = g.sharing.deciding;
      }

      up : c.shares.arrived d ≡ false
      up = waits k s r id hist x at collecting

      own_knowing : Knowing k live T.holder later.graph m words' d x.own.registers share'
      own_knowing = let n = known k s r id hist x at in let e = n.counted in record {
        found_head = λ h q is lives. ⊎_elim (λ (same : at_address k s.words h.address ≡ h.word). inl (heads_stay h.address q lives ∙ same)) (λ (is : IsTrue (m.marked q.label)). inr is) (n.found_head h q is lives);
        scan = o.scans;
        walked = λ q class slot is within before. o.walked (place_in q class slot) (n.walked q class slot is within before);
        own_pool = n.own_pool;
        rooted = n.rooted;
        marked = n.marked;
        counted = record { once = e.once; own = e.own; lives = e.lives; all = e.all; words = e.words };
        held = n.held;
        vacant = λ class slot own within under. free_stays (place_in sh.held class slot) (n.vacant class slot own within under);
      }

      sharing' : Sharing k all' words' d x.own.registers x.own.finalisers items x.seen.stage share'
      sharing' = let g = good.sharing in let t = g.telling in let l = leading_on x sh good.staged g.leading in record {
        telling = record { owes = t.owes; seen = λ _. o.seen_is; fresh = λ gone. absurd (true≢false (sym gone ∙ up)); forgotten = λ gone. absurd (true≢false (sym gone ∙ up)); colours = t.colours };
        leading = record { changed = l.changed; found_blocks = l.found_blocks; found_words = l.found_words; rotated = l.rotated; turned = l.turned; pass = l.pass; whole = l.whole; armed = l.armed; unswept = l.unswept; under_way = l.under_way; unmarked = l.unmarked };
        knows = inr (collecting, own_knowing);
        adds = record { blocks = g.adds.blocks; words = g.adds.words; own = g.adds.own };
        looks = record {
          at_own = o.at_own;
          cleans = o.cleans_on;
          emptied_is = λ a q own lives. dite (ℕ_discrete a block)
              (λ same. ap (λ (z : Place). emptied' z.label) (sym (place_is q (ap live (sym same) ∙ lives))) ∙ (o.emptied_here ∙ ap (emptied_at cleaning') (sym same)))
              (λ other. o.emptied_else q.label (differs a q lives other) ∙ (g.looks.emptied_is a q own lives ∙ sym (o.emptied_there a other)));
        };
        running = let u = running_on x good in record { knows = u.knows; owes = u.owes };
        deciding = g.deciding;
      }

      told' : Told k r.account.pause c.kind c'.shares
      told' = let is = even k s r id hist x at collecting in record {
        even = λ j e. let u = r.whole.cycle.told.even j e in (u.0, λ n under. let v = u.1 n under in record { waits = v.waits; gone = v.gone });
        odd = λ j e f. absurd (not_both r.account.pause.phase is (j, e));
        led = λ j e f. absurd (not_both r.account.pause.phase is (j, e));
      }

      cycle' : Cycled k later live r.account.pause T c' words'
      cycle' =
          let was = r.whole.cycle in
          let same = (controls_kept k s r id hist x at words' (control_set k s.words (block + 2 + i) 0 (omega arith))).cycle in
          let no_garbage : (a : ℕ) → T.garbage a ≡ false = none_unswept k now live r.account.pause T c s.words was Clean tt kind_is facts.1.unrotated in record {
            armed_is = same.armed_same ∙ was.armed_is;
            meanings = was.meanings;
            colours_are = same.colours_same ∙ was.colours_are;
            changed_is = same.changed_same ∙ was.changed_is;
            facts = subst (λ (kind : Kind). Facts kind k later live T c' words') (sym kind_is) o.facts;
            told = told';
            leaves = record { none = was.leaves.none; dead = was.leaves.dead; head = λ a is. absurd (true≢false (sym is ∙ no_garbage a)); unprepared = was.leaves.unprepared; owned = was.leaves.owned };
            unswept = was.unswept;
            whole = λ l. whole' l;
            grows = grows_none k live r.account.pause c' (subst (λ (kind : Kind). IsMarking kind → ⊥) (sym kind_is) (λ is. is));
          }
        where
          missing : (l : Label) → p.label ≡ l → MissesKeys live T.holder c' l
          missing l e = record { clean = kind_is; domain = d; waits = up; address = block; own = own; place = p; lives = cleans.lives; label = e }

          whole' : (l : Label) → (emptied' l ≡ []) ⊎ MissesKeys live T.holder c' l
          whole' l = label_cases ((emptied' l ≡ []) ⊎ MissesKeys live T.holder c' l) p.label l
              (λ e. inr (missing l e))
              (λ other. ⊎_elim
              (λ (e : paint.emptied l ≡ []). inl (o.emptied_else l other ∙ e))
              (λ (h : MissesKeys live T.holder c l). inr record { clean = h.clean; domain = h.domain; waits = h.waits; address = h.address; own = h.own; place = h.place; lives = h.lives; label = h.label })
              (r.whole.cycle.whole l))

      beside : (z : ℕ) → Beside k T s.words z (block + 2 + i)
      beside z = subst (Beside k T s.words z) (let e : block + (2 + i) ≡ block + 2 + i = omega arith in e)
          (live_beside k T live s.words block (2 + i) p r.whole.pools r.whole.grid low cleans.lives (omega arith) inside (head_full k paint live now.graph s.words block p f) z)

      makes : (z : DomainView) → Area k live z → Making k s.words z → Making k words' z
      makes z area making = making_beside k s.words (block + 2 + i) 0 z (λ j fits same. live_word_far k live block (2 + i) p z cleans.lives inside area j fits (same ∙ (let e : block + 2 + i ≡ block + (2 + i) = omega arith in e))) making

      endings' : CountsEnded k later words'
      endings' = (controls_kept k s r id hist x at words' (control_set k s.words (block + 2 + i) 0 (omega arith))).ended
          ∙ (r.whole.endings ∙ sym (sum_same (is_over now) (is_over later) k.domains (λ j _. ap flag (o.keeps j).ended)))

      pub empties : Rule k record { words = words'; homes = s.homes; views = set s.views id (one k hist y) }
      empties =
          let g = good in
          let controls = controls_kept k s r id hist x at words' (control_set k s.words (block + 2 + i) 0 (omega arith)) in
          let own_stood = stood_other live live now later x (o.keeps d) (o.work d) (more_same live) g.stood in
          let own_making = makes x g.area g.making in
          let own_hunter = hunter_beside k T s.words (block + 2 + i) 0 r.whole.pools x (beside d) g.hunter in
          let own_sharing = sharing' in
          remakes k s r id hist x at y all' words'
          (whole_stays k s r id hist x at log' T c' words' record {
            wide = length-set s.words (before_heap k + (block + 2 + i)) 0 ∙ r.whole.wide;
            legal = o.legal;
            full = o.full;
            found = found';
            phases = controls.phases;
            unwished = λ j odd led runs. controls.want ∙ r.whole.unwished j odd led runs;
            endings = endings';
            pools = controls.pools;
            reserved = controls.reserved;
            covered = controls.covered;
            grid = grid_beside k T s.words (block + 2 + i) 0 live live r.whole.pools beside (more_same live) (λ b q h _. h) r.whole.grid;
            drawers = r.whole.drawers;
            room = room_words k live r.account.pause T.stock s.words words' controls.counts r.whole.room;
            unused = r.whole.unused;
            opened = opened_words k live s.words words' controls.listed_young r.whole.opened;
            drawable = controls.drawable;
            cycle = cycle';
          })
          o.knows
          record {
            stood = record { wide = own_stood.wide; each = own_stood.each; serial = own_stood.serial; enrolled = own_stood.enrolled };
            area = record { room = g.area.room; free = g.area.free; classes = g.area.classes };
            making = record { fits = own_making.fits; written = own_making.written };
            staged = record { arrivals = g.staged.arrivals; stage = g.staged.stage };
            still = (λ paused. absurd (subst IsInPause stage paused), λ runs. absurd (not_run (sym stage ∙ runs)));
            hunter = hunter_as k T words' x y refl refl refl refl refl refl refl own_hunter;
            resting = resting_as k words' x y refl refl refl refl refl refl (resting_lists k s.words words' x controls.lists g.resting);
            took_back = λ kind leads last. controls.want ∙ g.took_back kind leads last;
            owes = owes_as k live x y refl refl refl refl g.owes;
            rooted = g.rooted;
            set_back = λ b. controls.set_back x g.staged b (g.set_back b);
            sharing = own_sharing;
            listed = record { all = g.listed.all; own = g.listed.own; lives = g.listed.lives };
            sweeps = g.sweeps;
          }
          (λ z _ other h. record {
            stood = stood_other live live now later z (o.keeps z.own.number) (o.work z.own.number) (more_same live) h.stood;
            area = h.area;
            making = makes z h.area h.making;
            staged = h.staged;
            still = nobody_else_still log' r.account.pause x z Clean (λ p. p) not_run stage g.staged h.staged;
            hunter = hunter_beside k T s.words (block + 2 + i) 0 r.whole.pools z (beside z.own.number) h.hunter;
            resting = resting_lists k s.words words' z controls.lists h.resting;
            took_back = λ kind leads last. controls.want ∙ h.took_back kind leads last;
            owes = h.owes;
            rooted = h.rooted;
            set_back = λ b. controls.set_back z h.staged b (h.set_back b);
            sharing = sharings' z other h;
            listed = h.listed;
            sweeps = h.sweeps;
          })
