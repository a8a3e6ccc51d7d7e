-- A collection of the major heap in the rule: what is marked, how far the domains are, and what each of them knows in a phase of it.
use Rattle.std.specs.Prelude.{◌≡◌, ◌≢◌, ℕ, zero, suc, ◌+◌, ◌*◌, ◌/◌, ◌%◌, ◌<◌, ◌≤◌, ◌⊎◌, ◌==◌, ◌||◌, nat_le, filter_map, Bool, true, false, cond, IsTrue, List, [], ◌∷◌, length, slice_get, sum_by, Option, Some, None, ◌^◌}
use Rattle.std.specs.List.{list_any}
use Rattle.model_core.specs.declared.label.Label.{Label}
use Rattle.model_core.specs.declared.graph.Value.{Value}
use Rattle.model_core.specs.declared.graph.Value.TheVariants.{Block}
use Rattle.model_core.specs.declared.graph.Node.TheVariants.{Plain, Ephe}
use Rattle.model_core.specs.declared.state.State as model
use Rattle.model_core.specs.declared.state.Mode.TheVariants.{Open, Sealed, Answer as Answered}
use Rattle.model_core.specs.Graph.{Graph, node_at, has_label, has_no_repeats, words_at}
use Rattle.model_core.specs.Fronts.{Shape}
use Rattle.model_cycle.specs.Beside.{Snapshot}
use Rattle.model_cycle.specs.Counting.{added_up}
use Rattle.model_cycle.specs.Cycle as laws
use Rattle.model_cycle.specs.Ending.{IsGrowing, unmarked_of}
use Rattle.model_cycle.specs.Marks.{Marks, fields_of}
use Rattle.model_cycle.specs.Progress.{FieldsDone, KeysDone}
use Rattle.model_cycle.specs.Shares.{Layout, Shares, AllArrived}
use Rattle.heap_words.specs.declared.colours.Colours.{Colours}
use Rattle.heap_words.specs.ColourWords.{IsPermutation, colours_word}
use Rattle.heap_words.specs.declared.value.Value as held
use Rattle.heap_words.specs.declared.value.Value.TheVariants.{Ref}
use Rattle.heap_rule.specs.declared.config.Config.{Config}
use Rattle.heap_rule.specs.declared.phase.Kind.{Kind}
use Rattle.heap_rule.specs.declared.phase.Kind.TheVariants.{Run, Promote, Reset, Roots, Mark, Rounds, Decide, Queued, Clean, Lasts, Sweep, Answer}
use Rattle.heap_rule.specs.declared.phase.Stage.{Stage}
use Rattle.heap_rule.specs.declared.phase.Stage.TheVariants.{In, Leads, Led, Gone}
use Rattle.heap_rule.specs.declared.view.FoundHead.{FoundHead}
use Rattle.heap_rule.specs.declared.view.Scan.{Scan}
use Rattle.heap_rule.specs.declared.view.Scan.TheVariants.{Idle, Reads, Holds, Keys, Key, Datum}
use Rattle.heap_rule.specs.declared.view.Share.{Share}
use Rattle.heap_rule.specs.declared.view.OwnPool.{OwnPool}
use Rattle.heap_rule.specs.Beside.{Underway}
use Rattle.heap_rule.specs.Changes.{value_at}
use Rattle.heap_rule.specs.Layout.{at_address, armed, colours, changed_word, live_blocks, live_words}
use Rattle.heap_rule.specs.Phases.{Pause, flag}
use Rattle.heap_rule.specs.Places.{Place, Live, Paint, extent, HeadIs, IsHeadOf, IsPackableShape}
use Rattle.heap_rule.specs.Pools.{Tenancy, Holder, OwnPlace, nobody, drawn, owned, size_of, blocks_of, place_in, IsBefore, IsLeading}
use Rattle.heap_rule.specs.Views.{fresh_share}

-- which blocks each domain has counted, and who has added them to the live blocks and to the live words
pub record Counts : Type 0 where
  pub own : ℕ → List Label
  pub blocks : ℕ → Bool
  pub words : ℕ → Bool

-- what exists of a collection in proofs alone, with the kind of the phase whose facts hold now
pub record Cycling : Type 0 where
  pub kind : Kind
  -- whether it is past its Cut
  pub pass : laws.Pass
  pub paint : Paint
  pub shares : Shares
  -- what was marked when the present Mark or Rounds began, or when the marking ended
  pub before : Label → Bool
  -- at most so many blocks of the pools weren't marked then
  pub unmarked : ℕ
  -- how many registrations a domain has left to look at
  pub left : ℕ → ℕ
  -- whether the colours were rotated since the marking ended
  pub rotated : Bool
  pub counts : Counts
  -- whether the collection began in this pause: then it marks nothing but what is reachable
  pub whole : Bool
  -- whether the armed word is set, which outside a collection says that one goes on beside running domains, and what is kept of that one
  pub armed : Bool
  pub past : Snapshot
  -- whether the last collection ended before its garbage was freed, and no phase has been since in which all is freed
  pub unswept : Bool

-- which label's block lies at a place of the pools
abbrev pub label_in : Option Place → Option Label
label_in None = None
label_in (Some p) = Some p.label

-- and at some places
abbrev pub labels_in : Live → List ℕ → List Label
labels_in live places = filter_map (λ a. label_in (live a)) places

abbrev pub label_at : Config → Live → ℕ → Option Label
label_at k live a = cond (nat_le a (k.pools * 4096)) (label_in (live a)) None

-- in whose pool a place for a block lies: it begins at a multiple of the pool's class
abbrev pub starts_in : Holder → ℕ → Option ℕ
starts_in nobody rest = None
starts_in (drawn d) rest = None
starts_in (owned d c) rest = cond (rest % size_of c == 0) (Some d) None

abbrev pub owner_at : (ℕ → Holder) → ℕ → Option ℕ
owner_at holder zero = None
owner_at holder (suc a) = starts_in (holder (a / 4096)) (a % 4096)

abbrev pub layout_of : Config → Live → (ℕ → Holder) → Layout
layout_of k live holder = record { live = label_at k live; owner = owner_at holder }

-- the collection as its laws have it
abbrev pub cycle_of : Config → Live → (ℕ → Holder) → Cycling → laws.Cycle
cycle_of k live holder c = record { whole = c.whole; marks = c.paint.marks; layout = layout_of k live holder; shares = c.shares; before = c.before; left = c.left }

-- and from the rotation on, when what was marked is unmarked again
abbrev pub swept_of : Config → Live → (ℕ → Holder) → Cycling → laws.Cycle
swept_of k live holder c = record (cycle_of k live holder c) { marks = record { marked = c.before; scanned = c.before } }

-- While no collection stops the domains no collector's entry is open. Nothing is marked then, or a cycle goes on beside running domains
pub record IsBetween (k : Config) (s : model.State) (live : Live) (c : Cycling) : Type 0 where
  pub mode : s.mode ≡ Open
  pub unmarked : c.armed ≡ false → (l : Label) → c.paint.marks.marked l ≡ false
  pub beside : IsTrue c.armed → Underway k s live c.kind c.past c.paint.marks c.shares
  pub unchanged : c.shares.changed ≡ false
  pub unrotated : c.rotated ≡ false

-- in most phases of a collection the changed word is 0, and the colours aren't rotated yet
pub record IsPlain (c : Cycling) : Type 0 where
  pub unchanged : c.shares.changed ≡ false
  pub unrotated : c.rotated ≡ false

-- the live words are what those domains have added that have counted: each its own blocks, each once, and so few that the sums never wrap
pub record Counted (n : ℕ) (y : Layout) (g : Graph) (marked : Label → Bool) (c : Counts) (words : List ℕ) : Type 0 where
  pub first : (d : ℕ) → IsTrue (c.words d) → IsTrue (c.blocks d)
  pub once : (d : ℕ) → IsTrue (c.blocks d) → IsTrue (has_no_repeats (c.own d))
  pub owned : (d : ℕ) (l : Label) → IsTrue (c.blocks d) → IsTrue (has_label (c.own d) l) → (a : ℕ) × (y.live a ≡ Some l) × (y.owner a ≡ Some d) × IsTrue (marked l)
  pub all : (d a : ℕ) (l : Label) → IsTrue (c.blocks d) → y.live a ≡ Some l → y.owner a ≡ Some d → IsTrue (marked l) → IsTrue (has_label (c.own d) l)
  pub few : (d : ℕ) → IsTrue (c.blocks d) → length (c.own d) < 2 ^ 40
  pub light : (d : ℕ) → IsTrue (c.words d) → sum_by (words_at g) (c.own d) < 2 ^ 40
  pub blocks_are : live_blocks words ≡ added_up c.blocks (λ d. length (c.own d)) n
  pub words_are : live_words words ≡ added_up c.words (λ d. sum_by (words_at g) (c.own d)) n

-- after the rotation every block that lives was marked
abbrev pub AllMarked : Live → (Label → Bool) → Type 0
AllMarked live marked = (a : ℕ) (p : Place) → live a ≡ Some p → IsTrue (marked p.label)

-- the colours were rotated, once all had arrived: what was marked is unmarked, and nothing else lives
pub record IsRotated (k : Config) (live : Live) (c : Cycling) : Type 0 where
  pub all_marked : AllMarked live c.before
  pub unmarked : (l : Label) → c.paint.marks.marked l ≡ false
  pub gone : AllArrived k.domains c.shares

-- what holds as garbage is freed in a pause: all that lives was marked, nothing is, and the live words are what was counted
pub record IsSwept (k : Config) (s : model.State) (live : Live) (holder : ℕ → Holder) (c : Cycling) (words : List ℕ) : Type 0 where
  pub all_marked : AllMarked live c.before
  pub unmarked : (l : Label) → c.paint.marks.marked l ≡ false
  pub unchanged : c.shares.changed ≡ false
  pub counted : Counted k.domains (layout_of k live holder) s.graph c.before c.counts words

-- the colours were rotated in this pause
pub record EndsCycle (k : Config) (s : model.State) (live : Live) (holder : ℕ → Holder) (c : Cycling) : Type 0 where
  pub facts : laws.InPhase laws.Sweep k.domains s (swept_of k live holder c)
  pub rotated : IsTrue c.rotated

-- garbage is freed because the colours were rotated, or because another collection is to begin and the last one left it
abbrev pub FreesFor : Config → model.State → Live → (ℕ → Holder) → Cycling → Type 0
FreesFor k s live holder c = ((s.mode ≡ Sealed) × EndsCycle k s live holder c × (c.unswept ≡ false)) ⊎ ((s.mode ≡ Open) × (c.rotated ≡ false) × IsTrue c.unswept)

-- while blocks are freed and counted, no garbage is left in the pools of whoever has arrived, and it has added what it counted
pub record Sweeping (k : Config) (s : model.State) (live : Live) (t : Tenancy) (c : Cycling) (words : List ℕ) : Type 0 where
  pub since : FreesFor k s live t.holder c
  pub swept : IsSwept k s live t.holder c words
  pub clear : (d a : ℕ) → IsTrue (c.shares.arrived d) → OwnPlace t.holder a d → t.garbage a ≡ false
  pub all_counted : (d : ℕ) → IsTrue (c.shares.arrived d) → IsTrue (c.counts.words d)

-- a pool of a class holds a block
abbrev pub HoldsBlock : Live → ℕ → ℕ → Type 0
HoldsBlock live q c = (slot : ℕ) × (slot < blocks_of c) × ((p : Place) × (live (place_in q c slot) ≡ Some p))

-- where a collection is answered no garbage is left, all have counted, and each pool of a domain that has arrived holds a block
pub record Answering (k : Config) (s : model.State) (live : Live) (t : Tenancy) (c : Cycling) (words : List ℕ) : Type 0 where
  pub mode : s.mode ≡ Answered
  pub whole : IsTrue c.whole
  pub ends : EndsCycle k s live t.holder c
  pub swept : IsSwept k s live t.holder c words
  pub clean : (a : ℕ) → t.garbage a ≡ false
  pub all_counted : (d : ℕ) → d < k.domains → IsTrue (c.counts.words d)
  pub held : (q d class : ℕ) → IsTrue (c.shares.arrived d) → t.holder q ≡ owned d class → HoldsBlock live q class

-- while last finalisers are queued what is marked is what was marked before, until the colours are rotated
pub record Leaving (k : Config) (s : model.State) (live : Live) (t : Tenancy) (c : Cycling) : Type 0 where
  pub facts : laws.InPhase laws.Lasts k.domains s (swept_of k live t.holder c)
  pub unchanged : c.shares.changed ≡ false
  pub stays : c.rotated ≡ false → (l : Label) → c.paint.marks.marked l ≡ c.before l
  pub turned : IsTrue c.rotated → IsRotated k live c

-- what holds in a phase of a kind
abbrev pub Facts : Kind → Config → model.State → Live → Tenancy → Cycling → List ℕ → Type 0
Facts Run k s live t c words = IsBetween k s live c
Facts Promote k s live t c words = IsBetween k s live c
Facts Reset k s live t c words = IsBetween k s live c
Facts Roots k s live t c words = laws.InPhase (laws.Roots laws.First) k.domains s (cycle_of k live t.holder c) × IsPlain c
Facts Mark k s live t c words = laws.InPhase (laws.Mark c.pass) k.domains s (cycle_of k live t.holder c) × (c.rotated ≡ false)
Facts Rounds k s live t c words = laws.InPhase (laws.Rounds c.pass) k.domains s (cycle_of k live t.holder c) × (c.rotated ≡ false)
Facts Decide k s live t c words = laws.InPhase laws.Decide k.domains s (cycle_of k live t.holder c) × IsPlain c
Facts Queued k s live t c words = laws.InPhase (laws.Roots laws.Second) k.domains s (cycle_of k live t.holder c) × (c.rotated ≡ false)
Facts Clean k s live t c words = laws.InPhase laws.Clean k.domains s (cycle_of k live t.holder c) × IsPlain c
Facts Lasts k s live t c words = Leaving k s live t c
Facts Sweep k s live t c words = Sweeping k s live t c words
Facts Answer k s live t c words = Answering k s live t c words

-- whether a domain has arrived, in an even phase
pub record ArrivedAs (p : Pause) (w : Shares) (d : ℕ) : Type 0 where
  pub waits : p.arrived d ≡ p.phase → w.arrived d ≡ false
  pub gone : p.arrived d ≡ p.phase + 1 → w.arrived d ≡ true

-- a domain has done nothing in the phase
pub record IsStart (w : Shares) (d : ℕ) : Type 0 where
  pub waits : w.arrived d ≡ false
  pub paid : w.owes d ≡ false
  pub settled : w.follows d ≡ (λ a. false)
  pub blind : w.seen d ≡ (λ a. false)

-- the pauses tell which kind's facts hold, and who has arrived: in an even phase those of its kind, in an odd one those of the kind before it
-- until the next is named, and then those of that
pub record Told (k : Config) (p : Pause) (kind : Kind) (w : Shares) : Type 0 where
  pub even : (j : ℕ) → p.phase ≡ j * 2 → (p.kinds j ≡ kind) × ((d : ℕ) → d < k.domains → ArrivedAs p w d)
  pub odd : (j : ℕ) → p.phase ≡ j * 2 + 1 → p.led ≡ false → (p.kinds j ≡ kind) × AllArrived k.domains w
  pub led : (j : ℕ) → p.phase ≡ j * 2 + 1 → p.led ≡ true → (p.kinds (j + 1) ≡ kind) × ((d : ℕ) → IsStart w d)

-- the head of an unmarked block is there still, under the colour that means garbage after the rotation
abbrev pub IsGarbageHead : Paint → ℕ → Type 0
IsGarbageHead paint word = (shape : (q : Shape) × IsPackableShape q) × (scanned : Bool) × HeadIs None shape.0 paint.colours.garbage scanned word

-- garbage is no block that lives, and lies at places of pools that domains own, which aren't prepared. There is none but from a rotation until it is freed
pub record Leaves (k : Config) (live : Live) (t : Tenancy) (c : Cycling) (words : List ℕ) : Type 0 where
  pub none : c.rotated ≡ false → c.unswept ≡ false → (a : ℕ) → t.garbage a ≡ false
  pub dead : (a : ℕ) → IsTrue (t.garbage a) → live a ≡ None
  pub head : (a : ℕ) → IsTrue (t.garbage a) → IsGarbageHead c.paint (at_address k words a)
  pub unprepared : (a : ℕ) → IsTrue (t.garbage a) → t.prepared a ≡ None
  pub owned : (a : ℕ) → IsTrue (t.garbage a) → (d : ℕ) × OwnPlace t.holder a d

-- no collection of the major heap is under way in a phase of this kind
abbrev pub HasNoCycle : Kind → Type 0
HasNoCycle Run = Unit {0}
HasNoCycle Promote = Unit {0}
HasNoCycle Reset = Unit {0}
HasNoCycle _ = ⊥

-- a collection leaves its garbage to be freed beside running domains, and to a pause only where the next one begins; so no other has begun
pub record LeftUnswept (kind : Kind) (armed rotated : Bool) : Type 0 where
  pub kind_is : HasNoCycle kind ⊎ (kind ≡ Sweep)
  pub unarmed : armed ≡ false
  pub unrotated : rotated ≡ false

-- Clean has emptied keys of the block with this label, and not yet its datum: it lies in a pool of a domain that hasn't arrived
pub record MissesKeys (live : Live) (holder : ℕ → Holder) (c : Cycling) (l : Label) : Type 0 where
  pub clean : c.kind ≡ Clean
  pub domain : ℕ
  pub waits : c.shares.arrived domain ≡ false
  pub address : ℕ
  pub own : OwnPlace holder address domain
  pub place : Place
  pub lives : live address ≡ Some place
  pub label : place.label ≡ l

-- no other block misses keys
abbrev pub AllWhole : Live → (ℕ → Holder) → Cycling → Type 0
AllWhole live holder c = (l : Label) → (c.paint.emptied l ≡ []) ⊎ MissesKeys live holder c l

-- phases of these kinds may be repeated, as blocks are marked in them
abbrev pub IsMarking : Kind → Type 0
IsMarking Mark = Unit {0}
IsMarking Rounds = Unit {0}
IsMarking _ = ⊥

-- the next kind is named
abbrev pub IsNamed : Pause → Type 0
IsNamed p = (j : ℕ) × (p.phase ≡ j * 2 + 1) × (p.led ≡ true)

-- the first addresses at which blocks of the pools may begin, since each has four words at least
abbrev pub starts_to : ℕ → List ℕ
starts_to zero = []
starts_to (suc n) = (n * 4 + 1) ∷ starts_to n

-- the labels of the blocks of the pools
abbrev pub pool_labels : Config → Live → List Label
pool_labels k live = labels_in live (starts_to (k.pools * 1024))

-- Each phase of the marking that asks for another one marks a block. From where the phase is named until it begins nothing is marked, and once domain 0 has arrived the changed word is 0, as it is where Rounds is named
pub record Grows (k : Config) (live : Live) (p : Pause) (c : Cycling) : Type 0 where
  pub few : IsMarking c.kind → unmarked_of (pool_labels k live) c.before ≤ c.unmarked
  pub since : IsMarking c.kind → (IsNamed p → ⊥) → IsGrowing (pool_labels k live) c.before c.paint.marks.marked c.shares
  pub named : IsMarking c.kind → IsNamed p → (l : Label) → IsTrue (c.before l) → IsTrue (c.paint.marks.marked l)
  pub cleared : IsMarking c.kind → IsNamed p → (p.arrived 0 ≡ p.phase + 1) ⊎ (c.kind ≡ Rounds) → c.shares.changed ≡ false

-- Cycle: the control words tell it, and the facts of the phase hold
pub record Cycled (k : Config) (s : model.State) (live : Live) (p : Pause) (t : Tenancy) (c : Cycling) (words : List ℕ) : Type 0 where
  pub armed_is : armed words ≡ flag c.armed
  pub meanings : IsPermutation c.paint.colours
  pub colours_are : colours words ≡ colours_word c.paint.colours
  pub changed_is : changed_word words ≡ flag c.shares.changed
  pub facts : Facts c.kind k s live t c words
  pub told : Told k p c.kind c.shares
  pub leaves : Leaves k live t c words
  pub unswept : IsTrue c.unswept → LeftUnswept c.kind c.armed c.rotated
  pub whole : AllWhole live t.holder c
  pub grows : Grows k live p c

-- whether a domain has been at a place
abbrev pub seen_by : List ℕ → ℕ → Bool
seen_by [] b = false
seen_by (a ∷ rest) b = b == a || seen_by rest b

-- who is at no block in a collection knows of the colours and the control words alone, and of blocks what it knows as it runs
abbrev pub IsIdle : Share → Type 0
IsIdle share = share ≡ record fresh_share { colours = share.colours; changed = share.changed; blocks = share.blocks; words = share.words; rotated = share.rotated; progress = share.progress; unmarked = share.unmarked; armed = share.armed; known = share.known; weak = share.weak; reaping = share.reaping; swept = share.swept }

-- what a domain's view tells of the blocks that it has darkened: whether it owes a store of the changed word, and that those which it follows are on its account
pub record OwesAs (due : Bool) (followed : ℕ → Bool) (told : Bool) (account : List ℕ) : Type 0 where
  pub owes : due ≡ told
  pub follows : (a : ℕ) → IsTrue (followed a) → IsTrue (seen_by account a)

-- Cycle, of one domain: until it arrives its view tells its share, and then it has forgotten it. Domain 0 alone knows of the colours in an odd phase
pub record Telling (means : Colours) (w : Shares) (d : ℕ) (share : Share) : Type 0 where
  pub owes : w.arrived d ≡ false → OwesAs (w.owes d) (w.follows d) share.owes share.account
  pub seen : w.arrived d ≡ false → w.seen d ≡ seen_by share.places_seen
  pub fresh : w.arrived d ≡ true → IsIdle share
  pub forgotten : w.arrived d ≡ true → d ≢ 0 → share.colours ≡ None
  pub colours : (known : Colours) → share.colours ≡ Some known → known ≡ means

-- the pass of a collection, by whether the cut is made
abbrev pub pass_of : Bool → laws.Pass
pass_of false = laws.First
pass_of true = laws.Second

-- who may look at the colours and at the armed word: a domain that acts in an even phase, and domain 0 in an odd one
abbrev pub MayLook : ℕ → Stage → Type 0
MayLook d (In kind) = Unit {0}
MayLook d (Leads kind) = d ≡ 0
MayLook d (Led kind) = d ≡ 0
MayLook d (Gone kind) = ⊥

-- what a domain has loaded and done at the control words of a collection
pub record Leading (c : Cycling) (words : List ℕ) (d : ℕ) (stage : Stage) (share : Share) : Type 0 where
  pub changed : (v : ℕ) → share.changed ≡ Some v → (d ≡ 0) × IsLeading stage × (v ≡ flag c.shares.changed)
  pub found_blocks : (v : ℕ) → share.blocks ≡ Some v → (((d ≡ 0) × IsLeading stage) ⊎ (stage ≡ In Answer)) × (live_blocks words ≡ v)
  pub found_words : (v : ℕ) → share.words ≡ Some v → (((d ≡ 0) × IsLeading stage) ⊎ (stage ≡ In Answer)) × (live_words words ≡ v)
  pub rotated : d ≡ 0 → c.kind ≡ Lasts → c.rotated ≡ share.rotated
  pub turned : share.rotated ≡ true → stage ≡ Leads Lasts
  pub pass : d ≡ 0 → c.pass ≡ pass_of share.progress.cut
  pub whole : d ≡ 0 → c.whole ≡ share.progress.whole
  pub armed : (b : Bool) → share.armed ≡ Some b → MayLook d stage × (b ≡ c.armed)
  pub unswept : d ≡ 0 → c.unswept ≡ share.progress.unswept
  pub under_way : d ≡ 0 → HasNoCycle c.kind → c.armed ≡ share.progress.armed
  pub unmarked : d ≡ 0 → c.unmarked ≡ share.unmarked

-- how far a domain is in a block: its first fields are done
pub record Scanned (live : Live) (graph : Graph) (marks : Marks) (block done size head : ℕ) : Type 0 where
  pub place : Place
  pub lives : live block ≡ Some place
  pub marked : IsTrue (marks.marked place.label)
  pub tag : ℕ
  pub fields : List Value
  pub node : (node_at graph place.label ≡ Some (Plain tag fields)) ⊎ ((fields ≡ []) × (fields_of (node_at graph place.label) ≡ []))
  pub head_is : IsHeadOf place.shape head
  pub size_is : length fields ≡ size
  pub through : FieldsDone marks.marked fields done

-- and the next refers to the block at an address
pub record Refers (live : Live) (graph : Graph) (marks : Marks) (block done size head address : ℕ) : Type 0 where
  pub reads : Scanned live graph marks block done size head
  pub target : Place
  pub there : live address ≡ Some target
  pub holds : slice_get reads.fields done ≡ Some (Block target.label)

-- how far a domain is in the keys of a marked ephemeron: of the first of them those that are full are marked
pub record KeysAt (live : Live) (graph : Graph) (marks : Marks) (block done count : ℕ) : Type 0 where
  pub place : Place
  pub lives : live block ≡ Some place
  pub marked : IsTrue (marks.marked place.label)
  pub keys : List (Option Label)
  pub datum : Value
  pub node : node_at graph place.label ≡ Some (Ephe keys datum)
  pub count_is : length keys ≡ count
  pub through : KeysDone marks.marked keys done

-- and the next refers to the block at an address
pub record KeyAt (live : Live) (graph : Graph) (marks : Marks) (block done count address : ℕ) : Type 0 where
  pub reads : KeysAt live graph marks block done count
  pub target : Place
  pub there : live address ≡ Some target
  pub holds : slice_get reads.keys done ≡ Some (Some target.label)

-- all are marked that are full, and the datum refers to the block at an address
pub record DatumAt (live : Live) (graph : Graph) (marks : Marks) (block address : ℕ) : Type 0 where
  pub place : Place
  pub lives : live block ≡ Some place
  pub marked : IsTrue (marks.marked place.label)
  pub keys : List (Option Label)
  pub datum : Value
  pub node : node_at graph place.label ≡ Some (Ephe keys datum)
  pub through : KeysDone marks.marked keys (length keys)
  pub target : Place
  pub there : live address ≡ Some target
  pub holds : datum ≡ Block target.label

abbrev pub Scans : Live → Graph → Marks → Scan → Type 0
Scans live graph marks Idle = Unit {0}
Scans live graph marks (Reads block done size head) = Scanned live graph marks block done size head
Scans live graph marks (Holds block done size head address) = Refers live graph marks block done size head address
Scans live graph marks (Keys block done count) = KeysAt live graph marks block done count
Scans live graph marks (Key block done count address) = KeyAt live graph marks block done count address
Scans live graph marks (Datum block address) = DatumAt live graph marks block address

-- the words of a block and its label, where one lives
abbrev pub extent_in : Option Place → ℕ
extent_in None = 0
extent_in (Some p) = extent p.shape

-- a block lives at an address, and it is marked
abbrev pub IsMarkedAt : Live → (Label → Bool) → ℕ → Type 0
IsMarkedAt live marked a = (p : Place) × (live a ≡ Some p) × IsTrue (marked p.label)

-- the own blocks that a domain has counted: each once, all up to a place of the pools, and so many words
pub record HasCounted (k : Config) (live : Live) (holder : ℕ → Holder) (d : ℕ) (share : Share) : Type 0 where
  pub once : (i j a : ℕ) → slice_get share.counted i ≡ Some a → slice_get share.counted j ≡ Some a → i ≡ j
  pub own : (a : ℕ) → IsTrue (seen_by share.counted a) → (q : ℕ) × (c : ℕ) × (slot : ℕ) × (holder q ≡ owned d c) × (slot < blocks_of c) × IsBefore q slot share.counted_to × (a ≡ place_in q c slot)
  pub lives : (a : ℕ) → IsTrue (seen_by share.counted a) → (p : Place) × (live a ≡ Some p)
  pub all : (q c slot : ℕ) (p : Place) → holder q ≡ owned d c → slot < blocks_of c → IsBefore q slot share.counted_to → live (place_in q c slot) ≡ Some p → IsTrue (seen_by share.counted (place_in q c slot))
  pub words : share.counted_words ≡ sum_by (λ a. extent_in (live a)) share.counted

-- What a domain knows of blocks in a phase: the head that it found is still there, or its block was marked since; it has been at its own
-- places as far as it has walked; the blocks of the registers and of the list that it has looked at are marked; what it has
-- counted is its own; and the own pools as far as it has looked hold blocks, and the first places of the next one are free
pub record Knowing (k : Config) (live : Live) (holder : ℕ → Holder) (graph : Graph) (marks : Marks) (words : List ℕ) (d : ℕ) (registers : List held.Value) (share : Share) : Type 0 where
  pub found_head : (g : FoundHead) (p : Place) → share.found_head ≡ Some g → live g.address ≡ Some p → (at_address k words g.address ≡ g.word) ⊎ IsTrue (marks.marked p.label)
  pub scan : Scans live graph marks share.scan
  pub walked : (q c slot : ℕ) → holder q ≡ owned d c → slot < blocks_of c → IsBefore q slot share.walk → IsTrue (seen_by share.places_seen (place_in q c slot))
  pub own_pool : (t : OwnPool) → share.own_pool ≡ Some t → holder t.pool ≡ owned d t.class
  pub rooted : (r a : ℕ) (p : Place) → IsTrue (list_any (λ q. q == r) share.roots) → value_at registers r ≡ Ref a → live a ≡ Some p → IsTrue (marks.marked p.label)
  pub marked : (a : ℕ) → IsTrue (seen_by share.marked a) → IsMarkedAt live marks.marked a
  pub counted : HasCounted k live holder d share
  pub held : (q class : ℕ) → holder q ≡ owned d class → q < share.held → HoldsBlock live q class
  pub vacant : (class slot : ℕ) → holder share.held ≡ owned d class → slot < blocks_of class → slot < share.vacant → at_address k words (place_in share.held class slot) ≡ 0

-- what a domain has added to the live words is what it has counted
pub record Adds (live : Live) (c : Cycling) (d : ℕ) (share : Share) : Type 0 where
  pub blocks : c.kind ≡ Sweep → c.shares.arrived d ≡ false → c.counts.blocks d ≡ share.added_blocks
  pub words : c.kind ≡ Sweep → c.shares.arrived d ≡ false → c.counts.words d ≡ share.added_words
  pub own : c.kind ≡ Sweep → c.shares.arrived d ≡ false → share.added_blocks ≡ true → c.counts.own d ≡ labels_in live share.counted

-- a domain does its share of a collection of the major heap
abbrev pub IsCollecting : Stage → Type 0
IsCollecting (In kind) = HasNoCycle kind → ⊥
IsCollecting _ = ⊥

-- whoever doesn't is at no block
abbrev pub KnowsBlocks : Config → Live → (ℕ → Holder) → Graph → Marks → List ℕ → ℕ → List held.Value → Stage → Share → Type 0
KnowsBlocks k live holder graph marks words d registers stage share = IsIdle share ⊎ (IsCollecting stage × Knowing k live holder graph marks words d registers share)
