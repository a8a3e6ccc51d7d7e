-- The making of a block in the own minor area keeps the rule.
use Rattle.std.proofs.Common.{◌≡◌, ◌≢◌, ℕ, suc, ◌+◌, ◌*◌, ◌^◌, ◌<◌, ◌≤◌, ◌⊎◌, Bool, true, false, nat_le, if◌then◌else◌, leb-true, ne_eqb, List, [], ◌∷◌, ◌++◌, length, get_or, set, replicate, slice_get, pos, Option, Some, None, sym, refl, ap, ◌∙◌, subst, inl, inr, ⊎_elim, arith, not, length-set, get_or-set_same, get_or-set_other, lt_of_not-le, IsTrue}
use Rattle.std.proofs.lemmas.List.{length-replicate}
use Rattle.std.proofs.lemmas.Int.{ints}
use Rattle.std.proofs.lemmas.Bool.Decides.{nat_tests}
use mathlib.Core.Logic.{dite}
use native.Mathlib.Decide.{ℕ_discrete, dec_le}
use mathlib.Core.Option.{some}
use lib.ListN.{get_elem?}
use Rattle.atomic_table.specs.Table.{keeps, Allows}
use Rattle.model_core.specs.declared.label.Label.{Label}
use Rattle.model_core.specs.declared.command.Command.{Command}
use Rattle.model_core.specs.declared.command.Command.TheVariants.{Alloc, Raw as NewRaw}
use Rattle.model_core.specs.declared.entry.Entry.{Entry}
use Rattle.model_core.specs.declared.entry.Entry.TheVariants.{Command as CommandOf}
use Rattle.model_core.specs.declared.reply.Applied.TheVariants.{Replied}
use Rattle.model_core.specs.declared.reply.Reply.TheVariants.{Block as BlockReply}
use Rattle.model_core.specs.declared.graph.Value as graph_value
use Rattle.model_core.specs.declared.graph.Value.TheVariants.{Int, Block, Nothing}
use Rattle.model_core.specs.declared.graph.Node.{Node}
use Rattle.model_core.specs.declared.state.State as model
use Rattle.model_core.specs.declared.state.Mode.TheVariants.{Open}
use Rattle.model_core.specs.Graph.{Graph, labels, node_at, has_label}
use Rattle.model_core.specs.Domains.{domain_at, reserve}
use Rattle.model_core.specs.Commands.{new_plain, new_raw, outcome, allocated, is_allocation, FitsMode}
use Rattle.model_core.specs.Entries.{next}
use Rattle.model_core.specs.Fronts.{Shape, PlainShape, RawShape, EpheShape, shape_of}
use Rattle.model_core.proofs.Graphs.GraphLemmas.{node_at-append_old, node_at-append_new}
use Rattle.model_core.proofs.Histories.NumberLemmas.{next_label_after, next_label-new}
use Rattle.model_core.proofs.Histories.FrontLemmas.{answers_push}
use Rattle.model_core.proofs.Commands.MoveLemmas.{registers_one}
use Rattle.model_core.proofs.Commands.LeavesLemmas.{Leaves, leaves_allocation}
use Rattle.heap_words.specs.declared.value.Value.{Value}
use Rattle.heap_words.specs.declared.value.Value.TheVariants.{Int as IntWord, Ref, Nothing as NothingWord}
use Rattle.heap_words.specs.Labels.{label_word}
use Rattle.heap_rule.specs.declared.change.Change.{Change}
use Rattle.heap_rule.specs.declared.config.Config.{Config}
use Rattle.heap_rule.specs.declared.view.DomainView.{DomainView}
use Rattle.heap_rule.specs.Limits.{sizes_in}
use Rattle.heap_rule.specs.Layout.{heap_words, before_heap, base_of, at_address, table_words, listed}
use Rattle.heap_words.specs.declared.classes.TheConstants.{SIZES}
use Rattle.heap_rule.specs.Ephemerons.{IsEpheAt}
use Rattle.heap_rule.specs.Places.{values_of, without_keys, IsHead, Place, Live, extent, least_size, class_words, HasClass, span, Stands, Found, Fits, Placed, Spread, Settled, More}
use Rattle.heap_rule.specs.Copies.{Recalls}
use Rattle.heap_rule.specs.Room.{Opened}
use Rattle.heap_rule.specs.Changes.{value_at, changed, FitChanges}
use Rattle.heap_rule.specs.Views.{one, Tells}
use Rattle.heap_rule.specs.Raw.{MayStore}
use Rattle.heap_rule.specs.Token.{next_address, next_label}
use Rattle.heap_rule.specs.Rule.{state_of, AllFound, Stood, Area, Good, Rule}
use Rattle.heap_rule.proofs.Lots.{Beside, area_beside, grid_beside, hunter_beside, garbage_beside, place_low}
use Rattle.step_run.specs.Young.Inits.{fields_of, WordMay, WordTold, AllocMay, AllocEntry, AllocTold}
use Rattle.heap_rule.proofs.Lists.{got_end, got_below}
use Rattle.heap_rule.proofs.Sizes.{area_below, area_inside}
use Rattle.heap_rule.proofs.ChangeLemmas.{changed_only, registers_of}
use Rattle.heap_rule.proofs.Values.{AllStand, stand_set, holds}
use Rattle.heap_rule.proofs.Keeps.{whole_here, listed_here, Words, more_same, mine, my_good, control_set, controls_kept, hunter_as, appends, writes, legal_entry, owes_run, opened_words, quiet, run_settled, cycle_here, sharing_here, sharings_here, runs_here, between_here, cycle_control, garbage_here}
use Rattle.heap_rule.proofs.Entering.{label_is, leaves_made, stood_made, running, inside_state, registers_stand, may_begin, open_after}
use Rattle.heap_rule.proofs.FinaliserLemmas.{enrolled_as, enrolled_more, work_command}
use Rattle.heap_rule.proofs.Beside.{found_beside, making_beside, area_word_far}
use Rattle.heap_rule.proofs.Born.{zero_word, zero_values, all_more, live', born, more, old, is_new, placed_born, settled_born, recalls_born, naming_born, spread_born, opened_born, classes_born}
use Rattle.heap_rule.proofs.Sharings.{SameCycle, with_weak}
use Rattle.heap_rule.proofs.Advancing.{Advance, advances_command, underway_here, numbered}
use Rattle.heap_rule.proofs.BesideLemmas.{Endures}
use Rattle.model_cycle.specs.Beside.{Snapshot, WriteBarrier, owed_after}
use Rattle.model_cycle.specs.Cover.{is_new as is_new_label}
use Rattle.model_cycle.specs.Marks.{Marks}
use Rattle.heap_rule.proofs.HeadLemmas.{head_at, new_head}
use Rattle.heap_rule.proofs.FullnessLemmas.{full_young, full_stays, homeless, new_kept}
use Rattle.heap_rule.specs.Fullness.{Fullness}
use Rattle.model_cycle.specs.Fullness.{kept_labels}
use Rattle.heap_rule.specs.Pools.{Tenancy}
use Rattle.heap_rule.specs.declared.phase.Kind.{Kind}
use Rattle.heap_rule.specs.declared.phase.Kind.TheVariants.{Run}
use Rattle.heap_rule.proofs.Garbage.{KeepsGarbage}
use Rattle.heap_rule.proofs.Update.{over_else}

-- a block has words
extent_low : (shape : Shape) → 0 < extent shape
extent_low (PlainShape n tag) = omega arith
extent_low (RawShape n tag) = omega arith
extent_low (EpheShape keys) = omega arith

-- what is so exactly where something else is
same_bool : (b c : Bool) → (b ≡ false → c ≡ false) → (IsTrue b → IsTrue c) → c ≡ b
same_bool true c none up = up refl
same_bool false c none up = none refl

-- the blocks lie beside the free part of an area
free_far : (k : Config) (live : Live) (x : DomainView) (at : ℕ) → Area k live x → base_of k x.own.number + x.own.used ≤ at → at < base_of k x.own.number + k.minor_words
    → (b : ℕ) (q : Place) → live b ≡ Some q → (z : ℕ) → z < extent q.shape → b + z ≢ at
free_far k live x at area low high b q lives z inside same =
    let base : ℕ = base_of k x.own.number in
    let used : ℕ = x.own.used in
    let minor : ℕ = k.minor_words in
    let n : ℕ = extent q.shape in
    let l : base + used ≤ at = low in let h : at < base + minor = high in let i : z < n = inside in let e : b + z ≡ at = same in
    ⊎_elim (λ (t : b + n ≤ base + used). omega arith) (λ (t : base + minor ≤ b). omega arith) (area.free b q lives)

inits : (k : Config) (slots id word : ℕ) (hist : List Entry) (x : DomainView) (a new : ℕ) (changes : List Change) → word ≡ before_heap k + a → WordMay k x a changes
    → Allows (Rule k) slots id (one k hist x, []) word (λ _. new) (λ _. Tells (λ y _ z. WordTold new y z) (one k hist x, []) new)
inits k slots id word hist x a new changes place may s r _ at _ =
    let m : ℕ = length x.seen.made in
    let base : ℕ = base_of k x.own.number in
    let used : ℕ = x.own.used in
    let minor : ℕ = k.minor_words in
    let room : used + m + 1 < minor = may.room in
    let here : a ≡ base + used + 1 + m = may.word in
    let g = my_good k s r id hist x at in
    let low : base + used ≤ a = omega arith in
    let high : a < base + minor = omega arith in
    let ws : List ℕ = set s.words (before_heap k + a) new in
    let y : DomainView = record x { seen = record x.seen { made = x.seen.made ++ new ∷ [] } } in
    let inside : base + minor ≤ heap_words k + 1 = area_inside k x.own.number (mine k s r id hist x at).inside in
    let wide : length s.words ≡ table_words k = r.whole.wide in
    let spot : before_heap k + a < length s.words = (let w : ℕ = heap_words k in let b : ℕ = before_heap k in let l : length s.words ≡ 1 + b + w = wide in let i : base + minor ≤ w + 1 = inside in omega arith) in
    let beside : (d : ℕ) → Beside k r.account.tenancy s.words d a = area_beside k r.account.tenancy s.words a new r.whole.pools (let p : ℕ = x.own.number * minor in let e : k.pools * 4096 < a = omega arith in e) in
    let now : model.State = state_of k r.account.log in
    let same : SameCycle s.words ws = cycle_control k s.words ws (control_set k s.words a new (omega arith)) in
    let endures : Endures k r.account.live r.account.live r.account.tenancy.holder r.account.tenancy.holder r.account.cycling.paint.marks.marked r.account.cycling.paint.marks.marked s.words ws = record {
      more = more_same r.account.live;
      held = λ q d c e. e;
      stays = λ l is. is;
      heads = λ b q lives. inl (get_or-set_other s.words (before_heap k + a) (before_heap k + b) new 0 (λ e. free_far k r.account.live x a g.area low high b q lives 0 (extent_low q.shape) (omega arith)));
    } in
    let past : Snapshot = r.account.cycling.past in
    let rule : Rule k record { words = ws; homes = s.homes; views = set s.views id (one k hist y) } = writes k s r id hist x at y ws r.account.cycling record {
      same = refl;
      kind = refl;
      front = inl refl;
      still = g.still;
      wide = length-set s.words (before_heap k + a) new;
      controls = controls_kept k s r id hist x at (set s.words (before_heap k + a) new) (control_set k s.words a new (omega arith));
      found = λ b q lives. let f = r.whole.found b q lives in found_beside k r.account.cycling.paint r.account.live r.account.live (state_of k r.account.log).graph (state_of k r.account.log).graph s.words a new b q (more_same r.account.live) f f.there (free_far k r.account.live x a g.area low high b q lives);
      stood = record { wide = g.stood.wide; each = g.stood.each; serial = g.stood.serial; enrolled = g.stood.enrolled };
      area = record { room = g.area.room; free = g.area.free; classes = g.area.classes };
      making = record {
        fits = λ j w got. ⊎_elim (λ (t : slice_get x.seen.made j ≡ Some w). g.making.fits j w t) (λ (t : (j ≡ m) × (new ≡ w)). let f = t.0 in let o : used + j + 1 < minor = omega arith in o) (got_end x.seen.made new w j got);
        written = λ j w got. ⊎_elim
            (λ (t : slice_get x.seen.made j ≡ Some w). let below = got_below x.seen.made j w t in get_or-set_other s.words (before_heap k + a) (before_heap k + (base + used + 1 + j)) new 0 (λ e. omega arith) ∙ g.making.written j w t)
            (λ (t : (j ≡ m) × (new ≡ w)). ap (λ (i : ℕ). get_or ws (before_heap k + i) 0) (ap (λ (i : ℕ). base + used + 1 + i) t.0 ∙ sym here) ∙ (get_or-set_same s.words (before_heap k + a) new 0 spot ∙ t.1))
            (got_end x.seen.made new w j got);
      };
      makings = λ z other _ p. making_beside k s.words a new z (area_word_far k x.own.number a z (let o : base ≤ a = omega arith in o) high other) p;
      grid = grid_beside k r.account.tenancy s.words a new r.account.live r.account.live r.whole.pools beside (more_same r.account.live) (λ b q h _. h) r.whole.grid;
      hunter = hunter_as k r.account.tenancy ws x y refl refl refl refl refl refl refl (hunter_beside k r.account.tenancy s.words a new r.whole.pools x (beside x.own.number) g.hunter);
      hunters = λ z _ g. hunter_beside k r.account.tenancy s.words a new r.whole.pools z (beside z.own.number) g.hunter;
      cycle = cycle_here k s r id hist x at Run tt may.runs now r.account.live r.account.tenancy past ws refl (garbage_here k s r id hist x at r.account.live ws r.whole.cycle.leaves.dead
          (garbage_beside k r.account.live r.account.tenancy r.account.cycling s.words r.whole.cycle.leaves a new r.whole.pools beside)) same (λ _ u. u);
      sharing = sharing_here k s r id hist x at Run tt may.runs r.account ws past x.seen.share.weak y refl same refl refl refl (runs_here k s r id hist x at r.account ws refl x (λ _. endures) g);
      sharings = λ z _ g. sharings_here k s r id hist x at Run tt may.runs r.account ws past refl same z g (runs_here k s r id hist x at r.account ws refl z (λ _. endures) g);
      sweeps = g.sweeps;
      others_sweep = λ z g. g.sweeps;
    } in (
      one k hist y,
      keeps,
      tt,
      subst (λ (n : ℕ). Rule k record { words = set s.words n new; homes = s.homes; views = set s.views id (one k hist y) }) (sym place) rule,
      (record { view = refl }, refl),
    )

pub word_may : (k : Config) (word : ℕ) (x : DomainView) (a new : ℕ) (changes : List Change) → word ≡ before_heap k + a → WordMay k x a changes → MayStore k x word new (λ y _ z. WordTold new y z)
word_may k word x a new changes place may fits slots id h = inits k slots id word h x a new changes place may

-- the class of a small block has room for it
pub class_fits : (words : ℕ) → words ≤ 1024 → words ≤ class_words words
unfolding class_words
class_fits words few = grind (arith, nat_tests)

-- the least size that has room is that of a class
class_of_size : (sizes : List ℕ) (words : ℕ) → 0 < words → words ≤ least_size sizes words → (c : ℕ) × (c < length sizes) × (words ≤ get_or sizes c 0)
class_of_size [] words few fits = absurd (omega arith)
class_of_size (z ∷ zs) words few fits = pick (nat_le words z) refl (λ e. let r = class_of_size zs words few (subst (λ (b : Bool). words ≤ (if b then z else least_size zs words)) e fits) in (suc r.0, (let h = r.1 in omega arith), r.2)) where
  pick : (b : Bool) → nat_le words z ≡ b → (nat_le words z ≡ false → (c : ℕ) × (c < length (z ∷ zs)) × (words ≤ get_or (z ∷ zs) c 0)) → (c : ℕ) × (c < length (z ∷ zs)) × (words ≤ get_or (z ∷ zs) c 0)
  pick true e later = (0, omega arith, leb-true words z e)
  pick false e later = later e

some_class : (words : ℕ) → 0 < words → words ≤ 1024 → HasClass words
unfolding class_words
some_class words low few = class_of_size SIZES words low (class_fits words few)

-- a command makes a young block with this shape and this node, of so many fields, each the integer 0
pub record MakesYoung (c : Command) (dst n : ℕ) (shape : Shape) (node : Node) : Type 0 where
  pub makes : (s : model.State) (d : ℕ) → outcome s d c ≡ allocated s d dst node
  pub allocates : is_allocation c ≡ true
  pub unregistering : registers_one c ≡ false
  pub quiet : (owed : ℕ → ℕ → Bool) (d : ℕ) → owed_after owed d c ≡ owed
  pub overwrites : (past : Snapshot) (m : Marks) (s : model.State) (d : ℕ) → WriteBarrier past m s d c
  pub fits : (s : model.State) (d : ℕ) → s.mode ≡ Open → (domain_at s d).queue ≡ [] → FitsMode s d c
  pub counts : (d : ℕ) → fields_of (CommandOf d c false) ≡ n
  pub shape_is : shape_of node ≡ shape
  pub long : extent shape ≡ n + 2
  pub values : (i : ℕ) (v : graph_value.Value) → slice_get (values_of node) i ≡ Some v → (v ≡ Int (pos 0)) × (slice_get (replicate n zero_word) i ≡ Some zero_word)
  pub no_ephe : (keys : ℕ) → shape ≡ EpheShape keys → ⊥

-- an allocation of a plain block makes one, and so does one of a raw block
plain_makes : (dst tag n : ℕ) → MakesYoung (Alloc dst tag n) dst n (PlainShape n tag) (new_plain tag n)
plain_makes dst tag n = record {
  makes = λ s d. refl;
  allocates = refl;
  unregistering = refl;
  quiet = λ owed d. refl;
  overwrites = λ past m s d. tt;
  fits = λ s d mode queue. (mode, queue);
  counts = λ d. refl;
  shape_is = ap (λ (m : ℕ). PlainShape m tag) (length-replicate n (Int (pos 0)));
  long = refl;
  values = λ i v got. zero_values n i v got;
  no_ephe = λ keys is. let e : PlainShape n tag ≡ EpheShape keys = is in cc;
}

raw_makes : (dst tag n : ℕ) → MakesYoung (NewRaw dst tag n) dst n (RawShape n tag) (new_raw tag n)
raw_makes dst tag n = record {
  makes = λ s d. refl;
  allocates = refl;
  unregistering = refl;
  quiet = λ owed d. refl;
  overwrites = λ past m s d. tt;
  fits = λ s d mode queue. (mode, queue);
  counts = λ d. refl;
  shape_is = ap (λ (m : ℕ). RawShape m tag) (length-replicate n (Int (pos 0)));
  long = refl;
  values = λ i v got. zero_values n i v got;
  no_ephe = λ keys is. let e : RawShape n tag ≡ EpheShape keys = is in cc;
}

module _ (k : Config) (s : Words) (r : Rule k s) (id : ℕ) (hist : List Entry) (x : DomainView) (at : get_elem? s.views id ≡ some (one k hist x)) (a new : ℕ) (changes : List Change) (c : Command) (dst n : ℕ) (shape : Shape) (node : Node)
    (made : MakesYoung c dst n shape node) (may : AllocMay k x a new changes x.own.number dst n shape) where
  abbrev d : ℕ
  d = x.own.number

  abbrev now : model.State
  now = state_of k r.account.log

  abbrev A : ℕ
  A = next_address k x

  abbrev L : Label
  L = next_label x

  abbrev born_place : Place
  born_place = record { label = L; shape = shape; forward = None; owed = None; named = λ _. None }

  abbrev e : Entry
  e = CommandOf d c false

  g : Good k r.account s.words x
  g = my_good k s r id hist x at

  abbrev size : ℕ
  size = extent shape

  long : size ≡ n + 2
  long = made.long

  some_word : 1 ≤ size
  some_word = let m : ℕ = size in let l : m ≡ n + 2 = long in omega arith

  in_class : n + 2 ≤ class_words (n + 2)
  in_class = class_fits (n + 2) (let f = may.few_fields in omega arith)

  inside : base_of k d + k.minor_words ≤ heap_words k + 1
  inside = area_inside k d (mine k s r id hist x at).inside

  high : A + size ≤ base_of k d + k.minor_words
  high = let m : ℕ = size in let l : m ≡ n + 2 = long in let c : ℕ = class_words (n + 2) in let f : n + 2 ≤ c = in_class in let o : x.own.used + c ≤ k.minor_words = may.room in let b : ℕ = base_of k d in omega arith

  away : (b : ℕ) (q : Place) → r.account.live b ≡ Some q → (b + extent q.shape ≤ A) ⊎ (A + size ≤ b)
  away b q lives = let m : ℕ = extent q.shape in let z : ℕ = size in let base : ℕ = base_of k d in let h : A + z ≤ base + k.minor_words = high in
      ⊎_elim (λ (t : b + m ≤ base + x.own.used). inl t) (λ (t : base + k.minor_words ≤ b). inr (let o : A + z ≤ b = omega arith in o)) (g.area.free b q lives)

  abbrev live1 : Live
  live1 = live' k r.account.live A born_place some_word away r.whole.placed

  abbrev grown : Graph
  grown = now.graph ++ (L, node) ∷ []

  abbrev ws : List ℕ
  ws = set s.words (before_heap k + A) new

  -- what stands behind the head
  made_at : (j w : ℕ) → slice_get (label_word d (x.own.serial + 1) ∷ replicate n zero_word) j ≡ Some w → at_address k s.words (A + 1 + j) ≡ w
  made_at j w got = g.making.written j w (ap (λ (l : List ℕ). slice_get l j) may.made ∙ got)

  fresh : node_at now.graph L ≡ None
  fresh = ap (node_at now.graph) (label_is k s r id hist x at may.acts) ∙ next_label_after (sizes_in k) r.account.log r.whole.legal d

  fresh_label : (b : ℕ) (q : Place) → r.account.live b ≡ Some q → q.label ≢ L
  fresh_label b q lives same = let f = r.whole.found b q lives in absurd (let clash : ◌≡◌ {A = Option Node} None (Some f.node) = sym fresh ∙ (ap (node_at now.graph) (sym same) ∙ f.there) in cc)

  -- where a cycle goes on beside, the block is new for it
  new_beside : IsTrue r.account.cycling.armed → IsTrue (is_new_label r.account.cycling.past.old L)
  new_beside is = new_of (has_label (labels r.account.cycling.past.old) L) refl where
    new_of : (b : Bool) → has_label (labels r.account.cycling.past.old) L ≡ b → IsTrue (is_new_label r.account.cycling.past.old L)
    new_of false none = ap not none
    new_of true has = absurd (let there : has_label (labels now.graph) L ≡ true = (underway_here k s r id hist x at may.acts.runs is).covered.grown L has in
        let none : has_label (labels now.graph) L ≡ false = ap (has_label (labels now.graph)) (label_is k s r id hist x at may.acts) ∙ next_label-new now (numbered k s r id hist x at) d in
        let clash : false ≡ true = sym none ∙ there in cc)

  marked_beside : IsTrue r.account.cycling.armed → IsTrue (r.account.cycling.paint.marks.marked L)
  marked_beside is = (underway_here k s r id hist x at may.acts.runs is).covered.new_marked L (new_beside is)

  fits_born : Fits k A born_place
  fits_born = record {
    classed = subst HasClass (sym made.long) (some_class (n + 2) (omega arith) (let f = may.few_fields in omega arith));
    low = let y : ℕ = d * k.minor_words in let z : ℕ = k.pools * 4096 in let o : 1 ≤ z + y + 1 + x.own.used = omega arith in o;
    high = let h = high in let i = inside in let b : ℕ = base_of k d in let w : ℕ = heap_words k in let p : b + k.minor_words ≤ w + 1 = i in let z : ℕ = size in let t : A + z ≤ b + k.minor_words = h in let o : A + z ≤ w + 1 = omega arith in o;
    head = may.packable;
    label = ((let b = (mine k s r id hist x at).inside in let c = r.limits.domains in omega arith), may.serial);
    pooled = λ keys is. absurd (made.no_ephe keys is);
  }

  grows : More r.account.live live1
  grows = more k r.account.live A born_place some_word away r.whole.placed

  lives_now : live1 A ≡ Some born_place
  lives_now = born k r.account.live A born_place some_word away r.whole.placed

  placed1 : Placed k live1
  placed1 = placed_born k r.account.live A born_place some_word away r.whole.placed fits_born fresh_label

  settled1 : Settled live1
  settled1 = settled_born k r.account.live A born_place some_word away r.whole.placed record { no_forward = refl; no_debt = refl } (run_settled k s r id hist x at may.acts.runs)

  recalls1 : (m : ℕ) → Recalls m r.account.live live1
  recalls1 = recalls_born k r.account.live A born_place some_word away r.whole.placed (λ i. refl)

  -- the words of the block's class lie in the own area
  class_high : A + class_words (n + 2) ≤ base_of k d + k.minor_words
  class_high = let c : ℕ = class_words (n + 2) in let o : x.own.used + c ≤ k.minor_words = may.room in let b : ℕ = base_of k d in omega arith

  shape_high : A + class_words size ≤ base_of k d + k.minor_words
  shape_high = subst (λ (m : ℕ). A + class_words m ≤ base_of k d + k.minor_words) (sym long) class_high

  spread1 : Spread k live1
  spread1 =
      let c : ℕ = class_words size in
      let base : ℕ = base_of k d in
      let top : A + c ≤ base + k.minor_words = shape_high in
      let room : x.own.used ≤ k.minor_words = g.area.room in
      spread_born k r.account.live A born_place some_word away r.whole.placed
      (λ _. let w : ℕ = heap_words k in let i : base + k.minor_words ≤ w + 1 = inside in let o : A + c ≤ w + 1 = omega arith in o)
      (λ b q lives young below. let l : b < A = below in let m : ℕ = span q.shape in
      ⊎_elim (λ (t : b + m ≤ base + x.own.used). t) (λ (t : base + k.minor_words ≤ b). absurd (omega arith)) (g.area.classes b q lives young))
      (λ b q lives young above. let l : A < b = above in let y : k.pools * 4096 < A = young in let m : ℕ = span q.shape in
      ⊎_elim (λ (t : b + m ≤ base + x.own.used). absurd (omega arith)) (λ (t : base + k.minor_words ≤ b). let o : A + c ≤ b = omega arith in o) (g.area.classes b q lives (let o : k.pools * 4096 < b = omega arith in o)))
      r.whole.spread

  -- the reserve is listed, since so many pools were found free
  opened1 : Opened k live1 ws
  opened1 =
      let same : listed ws ≡ listed s.words = control_set k s.words A new fits_born.low 6 (omega arith) in
      let found = (g.hunter.free may.opened.free may.opened.found).2 in
      let enough : reserve (sizes_in k) ≤ listed s.words = (let m : ℕ = reserve (sizes_in k) in let f : m ≤ may.opened.free = may.opened.enough in let l : ℕ = listed s.words in let o : may.opened.free ≤ l = found in omega arith) in
      opened_born k r.account.live A born_place some_word away r.whole.placed ws (λ _. subst (λ (m : ℕ). reserve (sizes_in k) ≤ m) (sym same) enough) (opened_words k r.account.live s.words ws (λ _ _ _ _. same) r.whole.opened)

  spot : before_heap k + A < length s.words
  spot = let h = high in let i = inside in let y = some_word in let z : ℕ = size in let b : ℕ = base_of k d in let t : A + z ≤ b + k.minor_words = h in let o : 1 ≤ z = y in let w : ℕ = heap_words k in let p : b + k.minor_words ≤ w + 1 = i in let c : ℕ = before_heap k in let l : length s.words ≡ 1 + c + w = r.whole.wide in omega arith

  abbrev born_head : IsHead r.account.cycling.paint born_place new
  born_head =
      let marks : Marks = r.account.cycling.paint.marks in
      let same : marks.marked L ≡ r.account.cycling.armed = same_bool r.account.cycling.armed (marks.marked L) (λ none. (between_here k s r id hist x at Run tt may.acts.runs).unmarked none L) marked_beside in
      new_head r.account.cycling.paint born_place x.seen.share.colours x.seen.share.armed false r.account.cycling.armed new refl same
      (λ is. (underway_here k s r id hist x at may.acts.runs is).covered.new_scanned L (new_beside is)) g.sharing.telling.colours (λ b e. (g.sharing.leading.armed b e).1) may.head

  head_high : A < base_of k d + k.minor_words
  head_high = let h = high in let z : ℕ = size in let y : 1 ≤ z = some_word in let base : ℕ = base_of k d in let t : A + z ≤ base + k.minor_words = h in omega arith

  born_found : Found k r.account.cycling.paint live1 grown ws A born_place
  born_found = record {
    node = node;
    there = node_at-append_new now.graph L (node) fresh;
    shape = made.shape_is;
    head = head_at r.account.cycling.paint born_place (get_or-set_same s.words (before_heap k + A) new 0 spot) born_head;
    blank = λ _. refl;
    label = get_or-set_other s.words (before_heap k + A) (before_heap k + (A + 1)) new 0 (λ o. omega arith)
        ∙ (ap (λ (i : ℕ). get_or s.words (before_heap k + i) 0) (let o : A + 1 ≡ A + 1 + 0 = omega arith in o) ∙ made_at 0 (label_word d (x.own.serial + 1)) refl);
    values = λ i v _ got. let t = made.values i v (ap (λ (keys : List ℕ). slice_get (values_of (without_keys keys (node))) i) (sym (whole_here k s r id hist x at Run tt may.acts.runs L)) ∙ got) in record {
      value = IntWord (pos 0);
      packs = get_or-set_other s.words (before_heap k + A) (before_heap k + (A + 2 + i)) new 0 (λ o. omega arith)
          ∙ (ap (λ (j : ℕ). get_or s.words (before_heap k + j) 0) (let o : A + 2 + i ≡ A + 1 + suc i = omega arith in o) ∙ made_at (suc i) zero_word t.1);
      stands = subst (Stands live1 (IntWord (pos 0))) (sym t.0) (refl, (omega (arith, ints), omega (arith, ints)));
    };
    old = λ low i _ _ _. absurd (let y : ℕ = d * k.minor_words in let l : k.pools * 4096 + y + 1 + x.own.used ≤ k.pools * 4096 = low in omega arith);
  }

  found1 : AllFound k r.account.cycling.paint live1 grown ws
  found1 b q lives = dite (ℕ_discrete b A)
      (λ same. subst (λ (y : ℕ × Place). Found k r.account.cycling.paint live1 grown ws y.0 y.1) (λ i. (sym same i, is_new k r.account.live A born_place some_word away r.whole.placed b q same lives i)) born_found)
      (λ other.
      let before : r.account.live b ≡ Some q = old k r.account.live A born_place some_word away r.whole.placed b q other lives in
      let f = r.whole.found b q before in
      found_beside k r.account.cycling.paint r.account.live live1 now.graph grown s.words A new b q grows f (node_at-append_old now.graph (L, node) q.label f.node f.there)
      (free_far k r.account.live x A g.area (omega arith) head_high b q before))

  abbrev regs : List Value
  regs = (changed NothingWord changes x.own).registers

  abbrev after : DomainView
  after = record {
    own = record x.own { registers = regs; used = x.own.used + class_words (n + 2); serial = x.own.serial + 1 };
    seen = record x.seen { front = r.account.log ++ e ∷ []; made = [] };
  }

  beside : (m : ℕ) → Beside k r.account.tenancy s.words m A
  beside = area_beside k r.account.tenancy s.words A new r.whole.pools (let p : ℕ = d * k.minor_words in let q : k.pools * 4096 < A = omega arith in q)

  leaves : Leaves now e d grown (set (domain_at now d).registers dst (Block L)) ((domain_at now d).serial + 1) (Replied (BlockReply L))
  leaves = leaves_made k s r id hist x at may.acts c dst node (made.makes now d)

  stood1 : Stood live1 (next now e) after
  stood1 = stood_made k s r id hist x at may.acts c dst a grown (Replied (BlockReply L)) live1 regs (x.own.used + class_words (n + 2)) x.own.ephemerons after.seen made.unregistering may.goes grows (born_place, ap live1 may.word ∙ lives_now, refl) (ap registers_of may.written) leaves

  area1 : Area k live1 after
  area1 = record {
    room = may.room;
    free = λ b q lives. dite (ℕ_discrete b A)
        (λ same. let is_size : size ≡ extent q.shape = ap (λ (z : Place). extent z.shape) (is_new k r.account.live A born_place some_word away r.whole.placed b q same lives) in
        let m : ℕ = extent q.shape in let c : ℕ = class_words (n + 2) in let f : n + 2 ≤ c = in_class in let base : ℕ = base_of k d in let z : n + 2 ≡ m = sym long ∙ is_size in let at_new : b ≡ A = same in
        inl (let o : b + m ≤ base + (x.own.used + c) = omega arith in o))
        (λ other. let m : ℕ = extent q.shape in let c : ℕ = class_words (n + 2) in let base : ℕ = base_of k d in
        ⊎_elim (λ (t : b + m ≤ base + x.own.used). inl (let o : b + m ≤ base + (x.own.used + c) = omega arith in o)) (λ (t : base + k.minor_words ≤ b). inr t)
        (g.area.free b q (old k r.account.live A born_place some_word away r.whole.placed b q other lives)));
    classes = classes_born k r.account.live A born_place some_word away r.whole.placed x after refl g.area.classes (omega arith)
        (λ _. inl (subst (λ (m : ℕ). A + class_words m ≤ base_of k d + (x.own.used + class_words (n + 2))) (sym long) (let c : ℕ = class_words (n + 2) in let base : ℕ = base_of k d in let o : A + c ≤ base + (x.own.used + c) = omega arith in o)));
  }

  areas1 : (z : DomainView) → z.own.number ≢ d → Area k r.account.live z → Area k live1 z
  areas1 z differs has = record {
    room = has.room;
    free = λ b q lives. dite (ℕ_discrete b A)
        (λ same. let is_size : size ≡ extent q.shape = ap (λ (y : Place). extent y.shape) (is_new k r.account.live A born_place some_word away r.whole.placed b q same lives) in
        let m : ℕ = extent q.shape in let h = high in let mine_base : ℕ = base_of k d in let base : ℕ = base_of k z.own.number in let i : ℕ = z.own.number in let minor : ℕ = k.minor_words in let y : ℕ = size in let o : y ≡ m = is_size in
        let top : A + y ≤ mine_base + minor = h in let at_new : b ≡ A = same in
        dite (dec_le d i)
        (λ le. inl (let f : mine_base + minor ≤ base = area_below k d i (let c : d ≤ i = le in let y : i ≢ d = differs in omega arith) in let y : b + m ≤ base + z.own.used = omega arith in y))
        (λ gt. inr (let f : base + minor ≤ mine_base = area_below k i d (lt_of_not-le gt) in let y : base + minor ≤ b = omega arith in y)))
        (λ other. has.free b q (old k r.account.live A born_place some_word away r.whole.placed b q other lives));
    classes = classes_born k r.account.live A born_place some_word away r.whole.placed z z refl has.classes (omega arith) (λ _.
        let c : ℕ = class_words size in let mine_base : ℕ = base_of k d in let base : ℕ = base_of k z.own.number in let i : ℕ = z.own.number in let minor : ℕ = k.minor_words in
        let top : A + c ≤ mine_base + minor = shape_high in
        dite (dec_le d i)
        (λ le. inl (let f : mine_base + minor ≤ base = area_below k d i (let l : d ≤ i = le in let y : i ≢ d = differs in omega arith) in let y : A + c ≤ base + z.own.used = omega arith in y))
        (λ gt. inr (let f : base + minor ≤ mine_base = area_below k i d (lt_of_not-le gt) in let y : base + minor ≤ A = omega arith in y)));
  }

  -- the new block is kept, and has no home yet
  full1 : Fullness k (r.account.log ++ e ∷ []) live1 r.account.tenancy.holder r.account.tenancy.fresh r.account.tenancy.garbage r.account.homes r.account.cycling.kind
  full1 =
      let t : Tenancy = r.account.tenancy in
      let kind : Kind = r.account.cycling.kind in
      full_young k t s.words (r.account.log ++ e ∷ []) r.account.live live1 r.account.homes kind A L r.whole.pools (let p : ℕ = d * k.minor_words in let q : k.pools * 4096 < A = omega arith in q)
      (λ b q other lives. old k r.account.live A born_place some_word away r.whole.placed b q other lives)
      (λ q lives. ap (λ (z : Place). z.label) (sym (is_new k r.account.live A born_place some_word away r.whole.placed A q refl lives)))
      (homeless k r.account.log r.account.live t.holder t.fresh t.garbage r.account.homes kind L fresh r.whole.full)
      (subst (λ (l : Label). IsTrue (has_label (kept_labels (sizes_in k) (r.account.log ++ e ∷ [])) l)) (sym (label_is k s r id hist x at may.acts)) (new_kept k r.account.log d c made.allocates))
      (full_stays k r.account.log r.account.live t.holder t.fresh t.garbage r.account.homes kind e refl r.whole.full)

  -- the new block is no ephemeron
  no_ephe : (b : ℕ) → IsEpheAt live1 b → IsEpheAt r.account.live b
  no_ephe b o = dite (ℕ_discrete b A)
      (λ same. absurd (made.no_ephe o.keys (ap (λ (z : Place). z.shape) (is_new k r.account.live A born_place some_word away r.whole.placed b o.place same o.lives) ∙ o.shape)))
      (λ other. record { place = o.place; lives = old k r.account.live A born_place some_word away r.whole.placed b o.place other o.lives; keys = o.keys; shape = o.shape })

  -- garbage lies in the pools, and the block doesn't
  garbage1 : KeepsGarbage k live1 r.account.tenancy r.account.tenancy s.words ws
  garbage1 = garbage_here k s r id hist x at live1 ws
      (λ b is. over_else A (Some born_place) r.account.live b (λ same.
      let o = r.whole.cycle.leaves.owned b is in
      let p : ℕ = d * k.minor_words in
      let l : b ≤ k.pools * 4096 = place_low k r.account.tenancy s.words b o.0 r.whole.pools o.1 in
      let h : b ≡ A = same in omega arith) ∙ r.whole.cycle.leaves.dead b is)
      (garbage_beside k r.account.live r.account.tenancy r.account.cycling s.words r.whole.cycle.leaves A new r.whole.pools beside)

  -- what the entry leaves of the cycle
  advance1 : Advance k s r id hist x at e None live1
  advance1 = advances_command k s r id hist x at may.acts.runs may.acts.paid c live1 (made.quiet r.account.cycling.past.owed d) grows
      (λ is b q lives young. dite (ℕ_discrete b A)
      (λ same. subst (λ (z : Place). IsTrue (r.account.cycling.paint.marks.marked z.label)) (is_new k r.account.live A born_place some_word away r.whole.placed b q same lives) (marked_beside is))
      (λ other. (underway_here k s r id hist x at may.acts.runs is).young b q (old k r.account.live A born_place some_word away r.whole.placed b q other lives) young))
      (λ is. made.overwrites r.account.cycling.past r.account.cycling.paint.marks now d)

  -- nothing that the command waits for stands in its way
  fits_now : FitsMode now d c
  fits_now = let m = may_begin k s r id hist x at may.acts in made.fits now d m.0 m.1

  alloc_rule : Rule k record { words = ws; homes = s.homes; views = set s.views id (one k hist after) }
  alloc_rule = appends k s r id hist x at e after ws live1 r.account.homes advance1.past record {
    full = full1;
    weak = None;
    share = ap (with_weak x.seen.share) may.acts.paid;
    advances = advance1.advances;
    heads = λ b q lives. get_or-set_other s.words (before_heap k + A) (before_heap k + b) new 0 (λ o. let m : ℕ = extent q.shape in let z : ℕ = size in let low : 0 < m = extent_low q.shape in let low_word : 1 ≤ z = some_word in
        ⊎_elim (λ (t : b + m ≤ A). omega arith) (λ (t : A + z ≤ b). omega arith) (away b q lives));
    alone = λ m other. ne_eqb d m (λ o. other (sym o));
    of_trace = tt;
    runs = may.acts.runs;
    stage = refl;
    listing = refl;
    allowed = record { running = running k s r id hist x at may.acts; fits = fits_now; full_fits = tt };
    is_open = open_after k s r id hist x at may.acts c false;
    number = refl;
    front = refl;
    arrivals = refl;
    wide = length-set s.words (before_heap k + A) new;
    controls = controls_kept k s r id hist x at ws (control_set k s.words A new (fits_born.low));
    found = subst (λ (z : Graph). AllFound k r.account.cycling.paint live1 z ws) (sym leaves.graph_is) found1;
    placed = placed1;
    spread = spread1;
    opened = opened1;
    settled = settled1;
    owes = owes_run k r.account.live live1 x after settled1 (quiet k s r id hist x at may.acts.runs) refl refl grows (recalls1 d) g.owes;
    recalls = λ m _. recalls1 m;
    naming = naming_born k r.account.live A born_place some_word away r.whole.placed (λ i. refl) r.whole.copies.naming;
    more = grows;
    stood = stood1;
    area = area1;
    making = record { fits = λ j w got. cc; written = λ j w got. cc };
    areas = areas1;
    makings = λ z other _ p. making_beside k s.words A new z (area_word_far k d A z (omega arith) head_high other) p;
    grid = grid_beside k r.account.tenancy s.words A new r.account.live live1 r.whole.pools beside grows
        (λ b q lives low. old k r.account.live A born_place some_word away r.whole.placed b q (λ same. let p : ℕ = d * k.minor_words in let l : b ≤ k.pools * 4096 = low in let h : b ≡ A = same in omega arith) lives) r.whole.grid;
    hunter = hunter_as k r.account.tenancy ws x after refl refl refl refl refl refl refl (hunter_beside k r.account.tenancy s.words A new r.whole.pools x (beside d) g.hunter);
    hunters = λ z _ g. hunter_beside k r.account.tenancy s.words A new r.whole.pools z (beside z.own.number) g.hunter;
    listed = let l = listed_here k s r id hist x at live1 no_ephe grows x g in record { all = l.all; own = l.own; lives = l.lives };
    listeds = λ z _ o. listed_here k s r id hist x at live1 no_ephe grows z o;
    garbage = garbage1;
    sweeps = g.sweeps;
  }

  alloc_told : AllocTold k e changes x after
  alloc_told = record {
    answers = answers_push (sizes_in k) d r.account.log x.seen.front e (Replied (BlockReply L)) (mine k s r id hist x at).front (λ _. g.still.1 may.acts.runs)
        (legal_entry k s r id hist x at e record { running = running k s r id hist x at may.acts; fits = fits_now; full_fits = tt }) leaves.replies;
    view = λ i. record {
      own = record (sym (changed_only NothingWord changes x.own) i) { used = x.own.used + class_words (sym (made.counts d) i + 2); serial = x.own.serial + 1 };
      seen = after.seen;
    };
    holds = holds k r.limits live1 placed1 (next now e) after stood1;
  }

allocs : (k : Config) (slots id word : ℕ) (hist : List Entry) (x : DomainView) (a new : ℕ) (changes : List Change) (c : Command) (dst n : ℕ) (shape : Shape) (node : Node) → MakesYoung c dst n shape node → word ≡ before_heap k + a
    → AllocMay k x a new changes x.own.number dst n shape
    → Allows (Rule k) slots id (one k hist x, []) word (λ _. new) (λ _. Tells (λ y _ z. AllocTold k (CommandOf x.own.number c false) changes y z) (one k hist x, []) new)
allocs k slots id word hist x a new changes c dst n shape node made place may s r _ at _ =
    let y : DomainView = after k s r id hist x at a new changes c dst n shape node made may in (
      one k hist y,
      keeps,
      tt,
      subst (λ (m : ℕ). Rule k record { words = set s.words m new; homes = s.homes; views = set s.views id (one k hist y) }) (sym (place ∙ ap (λ (m : ℕ). before_heap k + m) may.word)) (alloc_rule k s r id hist x at a new changes c dst n shape node made may),
      (alloc_told k s r id hist x at a new changes c dst n shape node made may, refl),
    )

-- the command of whichever domain
of_own : (k : Config) (slots id word : ℕ) (h : List Entry) (x : DomainView) (a new j : ℕ) (changes : List Change) (c : Command) (dst n : ℕ) (shape : Shape) (node : Node) → MakesYoung c dst n shape node → word ≡ before_heap k + a
    → AllocMay k x a new changes j dst n shape
    → Allows (Rule k) slots id (one k h x, []) word (λ _. new) (λ _. Tells (λ y _ z. AllocTold k (CommandOf j c false) changes y z) (one k h x, []) new)
of_own k slots id word h x a new j changes c dst n shape node made place may =
    subst (λ (q : ℕ). Allows (Rule k) slots id (one k h x, []) word (λ _. new) (λ _. Tells (λ y _ z. AllocTold k (CommandOf q c false) changes y z) (one k h x, []) new)) (sym may.own)
    (allocs k slots id word h x a new changes c dst n shape node made place (subst (λ (i : ℕ). AllocMay k x a new changes i dst n shape) may.own may))

pub alloc_may : (k : Config) (word : ℕ) (x : DomainView) (a new : ℕ) (e : Entry) (changes : List Change) → word ≡ before_heap k + a → AllocEntry k x a new changes e → MayStore k x word new (λ y _ z. AllocTold k e changes y z)
alloc_may k word x a new (CommandOf j (Alloc dst tag n) false) changes place may fits slots id h = of_own k slots id word h x a new j changes (Alloc dst tag n) dst n (PlainShape n tag) (new_plain tag n) (plain_makes dst tag n) place may
alloc_may k word x a new (CommandOf j (NewRaw dst tag n) false) changes place may fits slots id h = of_own k slots id word h x a new j changes (NewRaw dst tag n) dst n (RawShape n tag) (new_raw tag n) (raw_makes dst tag n) place may
alloc_may k word x a new _ changes place may fits slots id h = absurd may

pub alloc_fits : (k : Config) (x : DomainView) (a new : ℕ) (changes : List Change) (e : Entry) → AllocEntry k x a new changes e → FitChanges changes
alloc_fits k x a new changes (CommandOf j (Alloc dst tag n) false) may = may.fits
alloc_fits k x a new changes (CommandOf j (NewRaw dst tag n) false) may = may.fits
alloc_fits k x a new changes _ may = absurd may

-- what the store of a head asks of its numbers
pub record AllocFacts (k : Config) (x : DomainView) (e : Entry) : Type 0 where
  pub room : x.own.used + class_words (fields_of e + 2) ≤ k.minor_words
  pub serial : x.own.serial + 1 < 2 ^ 32

pub alloc_facts : (k : Config) (x : DomainView) (a new : ℕ) (changes : List Change) (e : Entry) → AllocEntry k x a new changes e → AllocFacts k x e
alloc_facts k x a new changes (CommandOf j (Alloc dst tag n) false) may = record { room = may.room; serial = may.serial }
alloc_facts k x a new changes (CommandOf j (NewRaw dst tag n) false) may = record { room = may.room; serial = may.serial }
alloc_facts k x a new changes _ may = absurd may
