-- A block comes to live at a free place of an own pool: the rule holds again, whatever the block is.
use Rattle.std.proofs.Common.{◌≡◌, ◌≢◌, ℕ, suc, ◌+◌, ◌*◌, ◌^◌, ◌<◌, ◌≤◌, ◌⊎◌, ◌&&◌, Bool, true, false, ne_eqb, List, [], ◌∷◌, ◌++◌, length, get_or, set, slice_get, Option, Some, None, sym, refl, ap, ◌∙◌, subst, inl, inr, ⊎_elim, arith, length-set, get_or-set_same, IsTrue}
use Rattle.std.proofs.lemmas.Option.{none-some}
use mathlib.Core.Logic.{dite}
use native.Mathlib.Decide.{ℕ_discrete}
use mathlib.Core.Option.{some}
use lib.ListN.{get_elem?}
use Rattle.model_core.specs.declared.label.Label.{Label}
use Rattle.model_core.specs.declared.command.Command.{Command}
use Rattle.model_core.specs.declared.entry.Entry.{Entry}
use Rattle.model_core.specs.declared.entry.Entry.TheVariants.{Command as CommandOf}
use Rattle.model_core.specs.declared.reply.Applied.TheVariants.{Replied}
use Rattle.model_core.specs.declared.reply.Reply.TheVariants.{Block as BlockReply}
use Rattle.model_core.specs.declared.graph.Value as graph_value
use Rattle.model_core.specs.declared.graph.Value.TheVariants.{Block, Nothing}
use Rattle.model_core.specs.declared.graph.Node.{Node}
use Rattle.model_core.specs.declared.state.State as model
use Rattle.model_core.specs.Graph.{Graph, labels, node_at, has_label}
use Rattle.model_core.specs.Domains.{domain_at}
use Rattle.model_core.specs.Commands.{outcome, allocated, is_allocation, FitsMode}
use Rattle.model_core.specs.Entries.{next}
use Rattle.model_core.specs.Fronts.{Shape, EpheShape, shape_of, Answers}
use Rattle.model_core.proofs.Graphs.GraphLemmas.{node_at-append_old, node_at-append_new}
use Rattle.model_core.proofs.Histories.NumberLemmas.{next_label_after, next_label-new}
use Rattle.model_core.proofs.Reach.ReachLemmas.{never_not, true_or_false, never_true}
use Rattle.model_cycle.specs.Beside.{Snapshot, WriteBarrier, owed_after}
use Rattle.model_cycle.specs.Cover.{is_new as is_newer}
use Rattle.model_cycle.specs.Marks.{Marks}
use Rattle.model_cycle.proofs.Tracing.{never}
use Rattle.heap_rule.proofs.Advancing.{Advance, advances_command, numbered, underway_here}
use Rattle.heap_rule.proofs.Sharings.{with_weak}
use Rattle.model_core.proofs.Commands.MoveLemmas.{registers_one}
use Rattle.model_core.proofs.Histories.FrontLemmas.{answers_push}
use Rattle.model_core.proofs.Commands.LeavesLemmas.{Leaves, leaves_allocation}
use Rattle.heap_words.specs.declared.value.Value.{Value}
use Rattle.heap_words.specs.declared.value.Value.TheVariants.{Ref, Nothing as NothingWord}
use Rattle.heap_words.specs.Labels.{label_word}
use Rattle.heap_rule.specs.declared.change.Change.{Change}
use Rattle.heap_rule.specs.declared.config.Config.{Config}
use Rattle.heap_rule.specs.declared.view.DomainView.{DomainView}
use Rattle.heap_rule.specs.declared.view.Hunt.TheVariants.{Rests, Fills}
use Rattle.heap_rule.specs.Limits.{sizes_in}
use Rattle.heap_rule.specs.Layout.{before_heap, at_address, table_words}
use Rattle.heap_rule.specs.Copies.{Recalls}
use Rattle.heap_rule.specs.Places.{HasClass, Place, Live, extent, values_of, without_keys, IsPackableShape, IsNewHead, new_colour, Found, Fits, Placed, Spread, Stands, More, Settled, IsOldWord}
use Rattle.heap_rule.specs.Changes.{value_at, changed}
use Rattle.heap_rule.specs.Views.{one}
use Rattle.heap_rule.specs.Rule.{state_of, AllFound, Stood, Area, Making, Good, Rule}
use Rattle.heap_rule.specs.Pools.{Grid, Lot, Hunter, owned, blocks_of, Filling, drawn_in, place_in, size_of, Tenancy}
use Rattle.heap_rule.specs.Token.{next_label, Holds}
use Rattle.heap_rule.proofs.ChangeLemmas.{registers_of}
use Rattle.heap_rule.proofs.Values.{AllStand, extent_large, stand_set, holds}
use Rattle.heap_rule.proofs.Keeps.{whole_here, Words, mine, my_good, control_set, controls_kept, appends, legal_entry, owes_run, quiet, run_settled, opened_words, between_here, after_entry, garbage_here}
use Rattle.heap_rule.proofs.Entering.{label_is, leaves_made, stood_made, running, inside_state, registers_stand, may_begin, open_after}
use Rattle.heap_rule.proofs.FinaliserLemmas.{enrolled_as, enrolled_more, work_command}
use Rattle.heap_rule.proofs.Beside.{found_beside, making_beside}
use Rattle.heap_rule.proofs.Born.{all_more, live', born, more, old, is_new, placed_born, settled_born, recalls_born, naming_born, spread_born, opened_born, classes_born}
use Rattle.heap_rule.proofs.OwnPlaces.{owned_same}
use Rattle.heap_rule.proofs.Lots.{hunter_beside, stays, head_some, garbage_full}
use Rattle.heap_rule.proofs.Holders.{free_later}
use Rattle.step_pools.proofs.DrawSteps.{none_drawn}
use Rattle.step_pools.proofs.WalkSteps.{filling, live_far, others_beside, equal_le, lot_top}
use Rattle.heap_rule.proofs.HeadLemmas.{head_at, new_head}
use Rattle.heap_rule.proofs.FullnessLemmas.{full_filled, full_stays, homeless, new_kept}
use Rattle.heap_rule.specs.Fullness.{Homes, Fullness}
use Rattle.model_cycle.specs.Pools.{with_pool}
use Rattle.model_cycle.specs.Fullness.{kept_labels}
use Rattle.heap_rule.specs.declared.phase.Kind.{Kind}
use Rattle.heap_rule.specs.declared.phase.Kind.TheVariants.{Run}
use Rattle.heap_words.specs.Remembered.Bounded.{Bounded}
use Rattle.model_core.specs.Domains.{class_count}
use Rattle.heap_words.specs.Values.{value_word}
use Rattle.heap_rule.specs.Cycles.{seen_by}
use Rattle.heap_rule.specs.Ephemerons.{IsEpheAt, Listed}
use Rattle.heap_rule.specs.Standing.{Acts}
use Rattle.heap_rule.proofs.Classes.{size_least, slot_inside}
use Rattle.heap_rule.proofs.EphemeronLemmas.{ephe_more}
use Rattle.model_core.specs.declared.state.Mode.TheVariants.{Open}
use Rattle.heap_rule.proofs.Garbage.{KeepsGarbage}
use Rattle.heap_rule.specs.Sweeping.{SweepsIn}
use Rattle.heap_rule.proofs.Update.{over_else}

-- the words behind the label stand for the node of a new block
pub record IsNewBlock (shape : Shape) (node : Node) (behind : List ℕ) : Type 0 where
  pub shape_is : shape_of node ≡ shape
  pub packable : IsPackableShape shape
  pub long : extent shape ≡ length behind + 2
  pub values : (i : ℕ) (v : graph_value.Value) → slice_get (values_of node) i ≡ Some v → (w : Value) × (slice_get behind i ≡ Some (value_word w)) × ((live : Live) → Stands live w v)
  pub old : (k : Config) (i : ℕ) → i < length behind → (w : ℕ) × (slice_get behind i ≡ Some w) × IsOldWord k w

-- a command makes a block with this node, wherever it stands
pub record MakesNode (c : Command) (dst : ℕ) (node : Node) : Type 0 where
  pub makes : (s : model.State) (d : ℕ) → outcome s d c ≡ allocated s d dst node
  pub allocates : is_allocation c ≡ true
  pub unregistering : registers_one c ≡ false
  pub quiet : (owed : ℕ → ℕ → Bool) (d : ℕ) → owed_after owed d c ≡ owed
  pub overwrites : (past : Snapshot) (m : Marks) (s : model.State) (d : ℕ) → WriteBarrier past m s d c
  pub fits : (s : model.State) (d : ℕ) → s.mode ≡ Open → (domain_at s d).queue ≡ [] → FitsMode s d c

-- of a block with this shape at an address, the list gets the address exactly where it is an ephemeron
pub record ListsNew (shape : Shape) (a : ℕ) (items items' : List ℕ) : Type 0 where
  pub all : (b : ℕ) → IsTrue (seen_by items b) → IsTrue (seen_by items' b)
  pub only : (b : ℕ) → IsTrue (seen_by items' b) → IsTrue (seen_by items b) ⊎ ((b ≡ a) × (keys : ℕ) × (shape ≡ EpheShape keys))
  pub new : (keys : ℕ) → shape ≡ EpheShape keys → IsTrue (seen_by items' a)
  pub same : (i b : ℕ) → slice_get items' i ≡ Some b → (slice_get items i ≡ Some b) ⊎ (b ≡ a)

-- the store of the head of a new block, at which the command's entry stands
pub record MakesMay (k : Config) (x : DomainView) (at new : ℕ) (changes : List Change) (c : Command) (dst : ℕ) (shape : Shape) (node : Node) (behind : List ℕ) (ephemerons : Bounded ℕ) : Type 0 where
  pub pool : ℕ
  pub class : ℕ
  pub slot : ℕ
  pub block : IsNewBlock shape node behind
  pub command : MakesNode c dst node
  pub lists : ListsNew shape at x.own.ephemerons.items ephemerons.items
  pub acts : Acts k x
  pub hunt : x.seen.hunt ≡ Fills pool class slot (label_word x.own.number (x.own.serial + 1) ∷ behind)
  pub word : at ≡ place_in pool class slot
  pub head : IsNewHead x.seen.share.colours x.seen.share.armed true shape new
  pub serial : x.own.serial + 1 < 2 ^ 32
  pub goes : dst < 16
  pub written : changed NothingWord changes x.own ≡ record x.own { registers = set x.own.registers dst (Ref at) }

module _ (k : Config) (s : Words) (r : Rule k s) (id : ℕ) (hist : List Entry) (x : DomainView) (at : get_elem? s.views id ≡ some (one k hist x)) (a new : ℕ) (changes : List Change) (c : Command) (dst : ℕ) (shape : Shape)
    (node : Node) (behind : List ℕ) (ephemerons : Bounded ℕ) (may : MakesMay k x a new changes c dst shape node behind ephemerons) where
  open may use {pool, class, slot}
  open x use {own.{number as d}}

  abbrev now : model.State
  now = state_of k r.account.log

  abbrev A : ℕ
  A = place_in pool class slot

  abbrev L : Label
  L = next_label x

  abbrev born_place : Place
  born_place = record { label = L; shape = shape; forward = None; owed = None; named = λ _. None }

  abbrev e : Entry
  e = CommandOf d c false

  abbrev words_made : List ℕ
  words_made = label_word d (x.own.serial + 1) ∷ behind

  g : Good k r.account s.words x
  g = my_good k s r id hist x at

  F : Filling k r.account.tenancy.holder s.words d pool class slot words_made
  F = filling k s r id hist x at (inl may.acts.runs) pool class slot new words_made may.hunt

  abbrev size : ℕ
  size = extent shape

  long : size ≡ length behind + 2
  long = may.block.long

  some_word : 1 ≤ size
  some_word = let n : ℕ = size in let v : ℕ = length behind in let l : n ≡ v + 2 = long in let o : 1 ≤ n = omega arith in o

  in_class : size ≤ size_of class
  in_class = let y : ℕ = size_of class in let n : ℕ = size in let v : ℕ = length behind in let l : n ≡ v + 2 = long in let m : ℕ = length words_made in let c : m ≡ v + 1 = omega arith in let f : m < y = F.fits in let o : n ≤ y = omega arith in o

  pool_in : pool < k.pools
  pool_in = (r.whole.pools.owned_by pool d class F.own_is).0

  lot : slot * size_of class + size_of class ≤ 4096
  lot = lot_top k s r id hist x at (inl may.acts.runs) pool class slot new words_made may.hunt

  low : pool * 4096 < A
  low = omega arith

  high : A + size ≤ pool * 4096 + 4096 + 1
  high = let n : ℕ = size in let y : ℕ = size_of class in let w : ℕ = slot * size_of class in let t : w + y ≤ 4096 = lot in let c : n ≤ y = in_class in let o : pool * 4096 + w + 1 + n ≤ pool * 4096 + 4096 + 1 = omega arith in o

  in_pools : A + size ≤ k.pools * 4096 + 1
  in_pools = let n : ℕ = size in let h = high in let p = pool_in in let b : ℕ = A in let t : b + n ≤ pool * 4096 + 4096 + 1 = h in let o : b + n ≤ k.pools * 4096 + 1 = omega arith in o

  away : (b : ℕ) (q : Place) → r.account.live b ≡ Some q → (b + extent q.shape ≤ A) ⊎ (A + size ≤ b)
  away b q lives = let n : ℕ = size in let m : ℕ = extent q.shape in let y : ℕ = size_of class in let c : n ≤ y = in_class in let p : ℕ = A in
      ⊎_elim (λ (t : b + m ≤ p). inl t) (λ (t : p + y ≤ b). inr (let o : p + n ≤ b = omega arith in o)) (live_far k s r id hist x at (inl may.acts.runs) pool class slot new words_made may.hunt b q lives)

  abbrev live1 : Live
  live1 = live' k r.account.live A born_place some_word away r.whole.placed

  abbrev grown : Graph
  grown = now.graph ++ (L, node) ∷ []

  abbrev ws : List ℕ
  ws = set s.words (before_heap k + A) new

  made_at : (j w : ℕ) → slice_get words_made j ≡ Some w → at_address k s.words (A + 1 + j) ≡ w
  made_at j w got = F.written j w got

  fresh : node_at now.graph L ≡ None
  fresh = ap (node_at now.graph) (label_is k s r id hist x at may.acts) ∙ next_label_after (sizes_in k) r.account.log r.whole.legal d

  fresh_label : (b : ℕ) (q : Place) → r.account.live b ≡ Some q → q.label ≢ L
  fresh_label b q lives same = let f = r.whole.found b q lives in absurd (let clash : ◌≡◌ {A = Option Node} None (Some f.node) = sym fresh ∙ (ap (node_at now.graph) (sym same) ∙ f.there) in cc)

  has_class : HasClass size
  unfolding size_of
  has_class = (class, (r.whole.pools.owned_by pool d class F.own_is).2, in_class)

  -- the block lies in the pools, so nothing changes in the minor areas
  old_block : A ≤ k.pools * 4096
  old_block = let n : ℕ = size in let l : 1 ≤ n = some_word in let h = in_pools in let b : ℕ = A in let t : b + n ≤ k.pools * 4096 + 1 = h in let o : b ≤ k.pools * 4096 = omega arith in o

  fits_born : Fits k A born_place
  fits_born = record {
    classed = has_class;
    low = omega arith;
    high = let n : ℕ = size in let h = in_pools in let b : ℕ = A in let t : b + n ≤ k.pools * 4096 + 1 = h in let w : ℕ = k.domains * k.minor_words in let o : b + n ≤ k.pools * 4096 + w + 1 = omega arith in o;
    head = may.block.packable;
    label = ((let b = (mine k s r id hist x at).inside in let c = r.limits.domains in omega arith), may.serial);
    pooled = λ _ _. old_block;
  }

  grows : More r.account.live live1
  grows = more k r.account.live A born_place some_word away r.whole.placed

  lives_now : live1 A ≡ Some born_place
  lives_now = born k r.account.live A born_place some_word away r.whole.placed

  before : (b : ℕ) (q : Place) → b ≢ A → live1 b ≡ Some q → r.account.live b ≡ Some q
  before b q other lives = old k r.account.live A born_place some_word away r.whole.placed b q other lives

  is_born : (b : ℕ) (q : Place) → b ≡ A → live1 b ≡ Some q → born_place ≡ q
  is_born b q same lives = is_new k r.account.live A born_place some_word away r.whole.placed b q same lives

  placed1 : Placed k live1
  placed1 = placed_born k r.account.live A born_place some_word away r.whole.placed fits_born fresh_label

  settled1 : Settled live1
  settled1 = settled_born k r.account.live A born_place some_word away r.whole.placed record { no_forward = refl; no_debt = refl } (run_settled k s r id hist x at may.acts.runs)

  recalls1 : (m : ℕ) → Recalls m r.account.live live1
  recalls1 = recalls_born k r.account.live A born_place some_word away r.whole.placed (λ i. refl)

  not_young : k.pools * 4096 < A → ⊥
  not_young young = let a : A ≤ k.pools * 4096 = old_block in let b : ℕ = A in let c : b ≤ k.pools * 4096 = a in let e : k.pools * 4096 < b = young in omega arith

  spread1 : Spread k live1
  spread1 = spread_born k r.account.live A born_place some_word away r.whole.placed (λ young. absurd (not_young young))
      (λ b q lives young below. absurd (not_young (let a : ℕ = A in let e : b < a = below in let f : k.pools * 4096 < b = young in let o : k.pools * 4096 < a = omega arith in o))) (λ b q lives young below. absurd (not_young young)) r.whole.spread

  spot : before_heap k + A < length s.words
  spot = let n : ℕ = size in let l : 1 ≤ n = some_word in let h = in_pools in let b : ℕ = A in let t : b + n ≤ k.pools * 4096 + 1 = h in let w : ℕ = k.domains * k.minor_words in let wide : length s.words ≡ table_words k = r.whole.wide in let o : before_heap k + b < length s.words = omega arith in o

  -- a word behind the label stays
  word_at : (i w : ℕ) → slice_get behind i ≡ Some w → at_address k ws (A + 2 + i) ≡ w
  word_at i w got = stays k r.account.tenancy s.words A new (A + 2 + i) (λ o. omega arith)
      ∙ (ap (at_address k s.words) (let o : A + 2 + i ≡ A + 1 + suc i = omega arith in o) ∙ made_at (suc i) w got)

  -- while a cycle goes on beside running domains the block is newer, and counts as marked and scanned
  newer : IsTrue r.account.cycling.armed → IsTrue (is_newer r.account.cycling.past.old L)
  newer is = never_not (has_label (labels r.account.cycling.past.old) L) (λ h. never (has_label (labels now.graph) L) (ap (has_label (labels now.graph)) (label_is k s r id hist x at may.acts) ∙ next_label-new now (numbered k s r id hist x at) d)
      ((underway_here k s r id hist x at may.acts.runs is).covered.grown L h))

  marked_new : r.account.cycling.paint.marks.marked L ≡ r.account.cycling.armed
  marked_new = ⊎_elim (λ (is : IsTrue r.account.cycling.armed). (underway_here k s r id hist x at may.acts.runs is).covered.new_marked L (newer is) ∙ sym is)
      (λ (none : r.account.cycling.armed ≡ false). (between_here k s r id hist x at Run tt may.acts.runs).unmarked none L ∙ sym none) (true_or_false r.account.cycling.armed)

  scanned_new : IsTrue r.account.cycling.armed → IsTrue (r.account.cycling.paint.marks.scanned L)
  scanned_new is = (underway_here k s r id hist x at may.acts.runs is).covered.new_scanned L (newer is)

  born_found : Found k r.account.cycling.paint live1 grown ws A born_place
  born_found = record {
    node = node;
    there = node_at-append_new now.graph L node fresh;
    shape = may.block.shape_is;
    head = head_at r.account.cycling.paint born_place (get_or-set_same s.words (before_heap k + A) new 0 spot) (new_head r.account.cycling.paint born_place x.seen.share.colours x.seen.share.armed true r.account.cycling.armed new refl marked_new scanned_new g.sharing.telling.colours (λ b is. (g.sharing.leading.armed b is).1) may.head);
    blank = λ young. absurd (not_young young);
    label = stays k r.account.tenancy s.words A new (A + 1) (λ o. omega arith)
        ∙ (ap (at_address k s.words) (let o : A + 1 ≡ A + 1 + 0 = omega arith in o) ∙ made_at 0 (label_word d (x.own.serial + 1)) refl);
    values = λ i v _ got. let t = may.block.values i v (ap (λ (keys : List ℕ). slice_get (values_of (without_keys keys node)) i) (sym (whole_here k s r id hist x at Run tt may.acts.runs L)) ∙ got) in record {
      value = t.0;
      packs = word_at i (value_word t.0) t.1;
      stands = t.2 live1;
    };
    old = λ _ i inside _ _. let t = may.block.old k i (let n : ℕ = size in let v : ℕ = length behind in let l : n ≡ v + 2 = long in let h : i + 2 < n = inside in let o : i < v = omega arith in o) in subst (IsOldWord k) (sym (word_at i t.0 t.1)) t.2;
  }

  -- a word of a live block isn't the head
  far : (b : ℕ) (q : Place) → r.account.live b ≡ Some q → (z : ℕ) → z < extent q.shape → b + z ≢ A
  far b q lives z inside same = let n : ℕ = size in let l : 1 ≤ n = some_word in let m : ℕ = extent q.shape in let p : ℕ = A in let i : z < m = inside in let o : b + z ≡ p = same in
      ⊎_elim (λ (t : b + m ≤ p). omega arith) (λ (t : p + n ≤ b). omega arith) (away b q lives)

  found1 : AllFound k r.account.cycling.paint live1 grown ws
  found1 b q lives = dite (ℕ_discrete b A)
      (λ same. subst (λ (y : ℕ × Place). Found k r.account.cycling.paint live1 grown ws y.0 y.1) (λ i. (sym same i, is_born b q same lives i)) born_found)
      (λ other.
      let f = r.whole.found b q (before b q other lives) in
      found_beside k r.account.cycling.paint r.account.live live1 now.graph grown s.words A new b q grows f (node_at-append_old now.graph (L, node) q.label f.node f.there) (far b q (before b q other lives)))

  abbrev regs : List Value
  regs = (changed NothingWord changes x.own).registers

  abbrev pub after : DomainView
  after = record {
    own = record x.own { registers = regs; serial = x.own.serial + 1; ephemerons = ephemerons };
    seen = record x.seen { front = r.account.log ++ e ∷ []; hunt = Rests; spare = None };
  }

  leaves : Leaves now e d grown (set (domain_at now d).registers dst (Block L)) ((domain_at now d).serial + 1) (Replied (BlockReply L))
  leaves = leaves_made k s r id hist x at may.acts c dst node (may.command.makes now d)

  stood1 : Stood live1 (next now e) after
  stood1 = stood_made k s r id hist x at may.acts c dst a grown (Replied (BlockReply L)) live1 regs x.own.used ephemerons after.seen may.command.unregistering may.goes grows (born_place, ap live1 may.word ∙ lives_now, refl) (ap registers_of may.written) leaves

  -- the block lies below every minor area
  areas1 : (z : DomainView) → Area k r.account.live z → Area k live1 z
  areas1 z has = record {
    room = has.room;
    free = λ b q lives. dite (ℕ_discrete b A)
        (λ same. let n : ℕ = size in let is : n ≡ extent q.shape = ap (λ (y : Place). extent y.shape) (is_born b q same lives) in
        let m : ℕ = extent q.shape in let p : ℕ = A in let h : p + n ≤ k.pools * 4096 + 1 = in_pools in let y : ℕ = z.own.number * k.minor_words in let o : n ≡ m = is in let c : b ≡ p = same in
        inl (let f : b + m ≤ k.pools * 4096 + y + 1 + z.own.used = omega arith in f))
        (λ other. has.free b q (before b q other lives));
    classes = classes_born k r.account.live A born_place some_word away r.whole.placed z z refl has.classes (let u : ℕ = z.own.used in let o : u ≤ u = omega arith in o) (λ young. absurd (not_young young));
  }

  -- the block's place in its pool
  lot_of : Lot r.account.tenancy.holder A born_place
  lot_of = record { pool = pool; domain = d; class = class; slot = slot; owned_is = F.own_is; inside = F.inside; begins = refl; fits = in_class }

  -- the place isn't prepared
  spare_far : (b m : ℕ) → r.account.tenancy.prepared b ≡ Some m → b ≢ A
  spare_far b m is same = (r.whole.grid.spares b m is).head (ap (at_address k s.words) same ∙ F.free)

  -- nothing else comes to live
  unlived : (b : ℕ) → b ≢ A → r.account.live b ≡ None → live1 b ≡ None
  unlived b other none = over_else A (Some born_place) r.account.live b other ∙ none

  grid1 : Grid k r.account.tenancy live1 ws
  grid1 = record {
    lots = λ b q lives under. dite (ℕ_discrete b A)
        (λ same. subst (λ (y : ℕ × Place). Lot r.account.tenancy.holder y.0 y.1) (λ i. (sym same i, is_born b q same lives i)) lot_of)
        (λ other. r.whole.grid.lots b q (before b q other lives) under);
    places = λ q m c i owned_is below. dite (ℕ_discrete (place_in q c i) A)
        (λ same. inr (inl (born_place, ap live1 same ∙ lives_now)))
        (λ other. ⊎_elim
        (λ (z : at_address k s.words (place_in q c i) ≡ 0). inl (stays k r.account.tenancy s.words A new (place_in q c i) other ∙ z))
        (λ z. inr (⊎_elim (λ (z : (p : Place) × (r.account.live (place_in q c i) ≡ Some p)). inl (let m = grows (place_in q c i) z.0 z.1 in (m.place, m.lives))) (λ z. inr z) z)) (r.whole.grid.places q m c i owned_is below));
    spares = λ b m is. let spare = r.whole.grid.spares b m is in record {
      own = spare.own;
      head = λ z. spare.head (sym (stays k r.account.tenancy s.words A new b (spare_far b m is)) ∙ z);
      empty = unlived b (spare_far b m is) spare.empty;
    };
  }

  -- nor is it garbage, and none comes to live where garbage is
  garbage_far : (b : ℕ) → IsTrue (r.account.tenancy.garbage b) → b ≢ A
  garbage_far b is same = garbage_full k r.account.live r.account.tenancy r.account.cycling s.words r.whole.cycle.leaves b is (ap (at_address k s.words) same ∙ F.free)

  garbage1 : KeepsGarbage k live1 r.account.tenancy r.account.tenancy s.words ws
  garbage1 = garbage_here k s r id hist x at live1 ws (λ b is. unlived b (garbage_far b is) (r.whole.cycle.leaves.dead b is)) (λ b is. stays k r.account.tenancy s.words A new b (garbage_far b is))

  -- so the list of ephemerons is pruned as far as it was
  sweeps1 : SweepsIn r.account.tenancy r.account.cycling after
  sweeps1 = let w = g.sweeps in record {
    listed = λ i b low got. ⊎_elim
        (λ (h : slice_get x.own.ephemerons.items i ≡ Some b). w.listed i b low h)
        (λ (h : b ≡ a). never_true (r.account.tenancy.garbage b) (λ is. garbage_far b is (h ∙ may.word))) (may.lists.same i b got);
    places = w.places;
    anew = w.anew;
    reaps = w.reaps;
    below = w.below;
  }

  in_pool : A ≤ pool * 4096 + 4096
  in_pool = let n : ℕ = size in let l : 1 ≤ n = some_word in let h = high in let p : ℕ = A in let t : p + n ≤ pool * 4096 + 4096 + 1 = h in let o : p ≤ pool * 4096 + 4096 = omega arith in o

  -- the new head isn't Free
  head_new : at_address k ws A ≢ 0
  head_new z = let h : at_address k ws A ≡ new = get_or-set_same s.words (before_heap k + A) new 0 spot in
      absurd (head_some shape (new_colour may.head.beside may.head.colours) (true && may.head.beside) (sym may.head.packs ∙ (sym h ∙ z)))

  hunter1 : Hunter k r.account.tenancy ws after
  hunter1 = record {
    hunt = tt;
    free = λ f e. free_later k s.words ws (control_set k s.words A new fits_born.low 6 (omega arith)) (equal_le (control_set k s.words A new fits_born.low 7 (omega arith))) f (g.hunter.free f e);
    spare = λ z e. absurd (none-some z e);
    drawn_alone = λ q m. sym (ap drawn_in may.hunt) ∙ g.hunter.drawn_alone q m;
    taken = λ q c i owned_is below seen z. dite (ℕ_discrete (place_in q c i) A)
        (λ same. head_new (ap (at_address k ws) (sym same) ∙ z))
        (λ other. g.hunter.taken q c i owned_is below seen (sym (stays k r.account.tenancy s.words A new (place_in q c i) other) ∙ z));
    holds = g.hunter.holds;
    prepared = g.hunter.prepared;
    claims = g.hunter.claims;
    supply = λ c _ some. absurd (none_drawn k s r id hist x at (inl may.acts.runs) may.acts.runs c some);
  }

  -- the place is the domain's own, and no other's
  same_owner : (q z m i : ℕ) → r.account.tenancy.holder q ≡ owned z m → i < blocks_of m → place_in q m i ≡ A → z ≡ d
  same_owner q z m i is below same =
      let few : m < class_count = (r.whole.pools.owned_by q z m is).2 in
      let w : ℕ = i * size_of m in let y : ℕ = size_of m in let v : ℕ = slot * size_of class in let u : ℕ = size_of class in
      let top : w + y ≤ 4096 = slot_inside m i few below in let large : 4 ≤ y = size_least m few in
      let top' : v + u ≤ 4096 = lot in let large' : 4 ≤ u = size_least class (r.whole.pools.owned_by pool d class F.own_is).2 in
      let at_is : q * 4096 + w + 1 ≡ pool * 4096 + v + 1 = same in
      let pool_is : q ≡ pool = omega arith in
      (owned_same z d m class (sym is ∙ (ap r.account.tenancy.holder pool_is ∙ F.own_is))).0

  -- an ephemeron was there, or it is the new one
  was_ephe : (b : ℕ) → b ≢ A → IsEpheAt live1 b → IsEpheAt r.account.live b
  was_ephe b other o = record { place = o.place; lives = before b o.place other o.lives; keys = o.keys; shape = o.shape }

  listed1 : Listed live1 r.account.tenancy.holder r.account.tenancy.garbage d ephemerons.items
  listed1 = record {
    all = λ q m i is below o. dite (ℕ_discrete (place_in q m i) A)
        (λ same. subst (λ (b : ℕ). IsTrue (seen_by ephemerons.items b)) (may.word ∙ sym same) (may.lists.new o.keys (ap (λ (z : Place). z.shape) (is_born (place_in q m i) o.place same o.lives) ∙ o.shape)))
        (λ other. may.lists.all (place_in q m i) (g.listed.all q m i is below (was_ephe (place_in q m i) other o)));
    own = λ b is. ⊎_elim (λ (h : IsTrue (seen_by x.own.ephemerons.items b)). g.listed.own b h)
        (λ (t : (b ≡ a) × (keys : ℕ) × (shape ≡ EpheShape keys)). record { pool = pool; class = class; slot = slot; owned_is = F.own_is; inside = F.inside; begins = t.0 ∙ may.word }) (may.lists.only b is);
    lives = λ b is. ⊎_elim
        (λ (h : IsTrue (seen_by x.own.ephemerons.items b)). ⊎_elim (λ (o : IsEpheAt r.account.live b). inl (ephe_more r.account.live live1 grows b o)) (λ (o : IsTrue (r.account.tenancy.garbage b)). inr o) (g.listed.lives b h))
        (λ (t : (b ≡ a) × (keys : ℕ) × (shape ≡ EpheShape keys)). inl (record { place = born_place; lives = ap live1 (t.0 ∙ may.word) ∙ lives_now; keys = t.1; shape = t.2 })) (may.lists.only b is);
  }

  listeds1 : (z : DomainView) → z.own.number ≢ d → Good k r.account s.words z → Listed live1 r.account.tenancy.holder r.account.tenancy.garbage z.own.number z.own.ephemerons.items
  listeds1 z other o = record {
    all = λ q m i is below e. o.listed.all q m i is below (was_ephe (place_in q m i) (λ same. other (same_owner q z.own.number m i is below same)) e);
    own = o.listed.own;
    lives = λ b is. ⊎_elim (λ (h : IsEpheAt r.account.live b). inl (ephe_more r.account.live live1 grows b h)) (λ (h : IsTrue (r.account.tenancy.garbage b)). inr h) (o.listed.lives b is);
  }

  -- the pool is the home of the new block, which is kept
  abbrev homes1 : Homes
  homes1 = with_pool r.account.homes L pool

  full1 : Fullness k (r.account.log ++ e ∷ []) live1 r.account.tenancy.holder r.account.tenancy.fresh r.account.tenancy.garbage homes1 r.account.cycling.kind
  full1 =
      let t : Tenancy = r.account.tenancy in
      let kind : Kind = r.account.cycling.kind in
      full_filled k t s.words (r.account.log ++ e ∷ []) r.account.live live1 r.account.homes kind A L r.whole.pools
      (d, record { pool = pool; class = class; slot = slot; owned_is = F.own_is; inside = F.inside; begins = refl })
      (λ b q other lives. record { place = q; lives = before b q other lives; label = refl; bare = λ h. h })
      (λ q lives. ap (λ (z : Place). z.label) (sym (is_born A q refl lives)))
      (λ b q other lives _ same. fresh_label b q (before b q other lives) same)
      (λ b q lives _. (settled1 b q lives).no_forward)
      (homeless k r.account.log r.account.live t.holder t.fresh t.garbage r.account.homes kind L fresh r.whole.full)
      node
      (ap (λ (z : model.State). node_at z.graph L) (after_entry k s r id hist x at e) ∙ (ap (λ (z : Graph). node_at z L) leaves.graph_is ∙ node_at-append_new now.graph L node fresh))
      (subst (λ (l : Label). IsTrue (has_label (kept_labels (sizes_in k) (r.account.log ++ e ∷ [])) l)) (sym (label_is k s r id hist x at may.acts)) (new_kept k r.account.log d c may.command.allocates))
      (full_stays k r.account.log r.account.live t.holder t.fresh t.garbage r.account.homes kind e refl r.whole.full)

  -- nothing that the command waits for stands in its way
  fits_now : FitsMode now d c
  fits_now = let m = may_begin k s r id hist x at may.acts in may.command.fits now d m.0 m.1

  -- how a cycle goes on with the entry
  advance : Advance k s r id hist x at e None live1
  advance = advances_command k s r id hist x at may.acts.runs may.acts.paid c live1 (may.command.quiet r.account.cycling.past.owed d) grows
      (λ is b q lives young. (underway_here k s r id hist x at may.acts.runs is).young b q (before b q (λ same. not_young (subst (λ (m : ℕ). k.pools * 4096 < m) same young)) lives) young)
      (λ is. may.command.overwrites r.account.cycling.past r.account.cycling.paint.marks now d)

  pub makes_rule : Rule k record { words = ws; homes = s.homes; views = set s.views id (one k hist after) }
  makes_rule = appends k s r id hist x at e after ws live1 homes1 advance.past record {
    full = full1;
    weak = None;
    share = ap (with_weak x.seen.share) may.acts.paid;
    advances = advance.advances;
    heads = λ b q lives. stays k r.account.tenancy s.words A new b (λ same. far b q lives 0 (let n : ℕ = extent q.shape in let l : 3 ≤ n = extent_large q.shape (r.whole.placed.fits b q lives).head in let o : 0 < n = omega arith in o) (let p : ℕ = A in let o : b ≡ p = same in let i : b + 0 ≡ p = omega arith in i));
    alone = λ m other. ne_eqb d m (λ o. other (sym o));
    allowed = record { running = running k s r id hist x at may.acts; fits = fits_now; full_fits = tt };
    is_open = open_after k s r id hist x at may.acts c false;
    of_trace = tt;
    runs = may.acts.runs;
    stage = refl;
    listing = refl;
    number = refl;
    front = refl;
    arrivals = refl;
    wide = length-set s.words (before_heap k + A) new;
    controls = controls_kept k s r id hist x at ws (control_set k s.words A new fits_born.low);
    found = subst (λ (z : Graph). AllFound k r.account.cycling.paint live1 z ws) (sym leaves.graph_is) found1;
    placed = placed1;
    spread = spread1;
    opened = opened_born k r.account.live A born_place some_word away r.whole.placed ws (λ young. absurd (not_young young)) (opened_words k r.account.live s.words ws (λ _ _ _ _. control_set k s.words A new fits_born.low 6 (omega arith)) r.whole.opened);
    settled = settled1;
    owes = owes_run k r.account.live live1 x after settled1 (quiet k s r id hist x at may.acts.runs) refl refl grows (recalls1 d) g.owes;
    recalls = λ m _. recalls1 m;
    naming = naming_born k r.account.live A born_place some_word away r.whole.placed (λ i. refl) r.whole.copies.naming;
    more = grows;
    stood = stood1;
    area = let p = areas1 x g.area in record { room = p.room; free = p.free; classes = p.classes };
    making = let p = makings x g.making in record { fits = p.fits; written = p.written };
    areas = λ z _ p. areas1 z p;
    makings = λ z _ _ p. makings z p;
    grid = grid1;
    hunter = hunter1;
    hunters = λ z other g. hunter_beside k r.account.tenancy s.words A new r.whole.pools z (others_beside k s r id hist x at (inl may.acts.runs) pool class slot new words_made may.hunt z other A low in_pool) g.hunter;
    listed = listed1;
    listeds = listeds1;
    garbage = garbage1;
    sweeps = sweeps1;
  } where
    makings : (z : DomainView) → Making k s.words z → Making k ws z
    makings z p = making_beside k s.words A new z (λ j fits m. let h : A ≤ pool * 4096 + 4096 = in_pool in let i = pool_in in let y : ℕ = z.own.number * k.minor_words in let b : ℕ = A in let same : k.pools * 4096 + y + 1 + z.own.used + 1 + j ≡ b = m in omega arith) p

  pub makes_answers : Answers (sizes_in k) d x.seen.front after.seen.front e (Replied (BlockReply L))
  makes_answers = answers_push (sizes_in k) d r.account.log x.seen.front e (Replied (BlockReply L)) (mine k s r id hist x at).front (λ _. g.still.1 may.acts.runs)
      (legal_entry k s r id hist x at e record { running = running k s r id hist x at may.acts; fits = fits_now; full_fits = tt }) leaves.replies

  pub makes_holds : Holds k regs
  makes_holds = holds k r.limits live1 placed1 (next now e) after stood1
