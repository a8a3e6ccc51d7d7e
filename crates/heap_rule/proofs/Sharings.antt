-- What steps outside a collection of the major heap, and steps that leave its words, keep of it.
use Rattle.std.proofs.Common.{◌≡◌, ◌⊎◌, ℕ, Bool, IsTrue, List, sym, refl, ◌∙◌, subst, inl, inr, ⊎_elim, ap, Option, Some}
use Rattle.model_core.specs.declared.state.State as model
use Rattle.model_core.specs.Graph.{Graph}
use Rattle.model_cycle.specs.Beside.{Snapshot}
use Rattle.model_cycle.specs.Marks.{Marks}
use Rattle.model_cycle.specs.Shares.{Shares}
use Rattle.heap_words.specs.declared.colours.Colours.{Colours}
use Rattle.heap_words.specs.declared.value.Value.{Value}
use Rattle.heap_rule.specs.declared.config.Config.{Config}
use Rattle.heap_rule.specs.declared.view.DomainView.{DomainView}
use Rattle.heap_rule.specs.declared.view.Share.{Share}
use Rattle.heap_rule.specs.declared.phase.Kind.{Kind}
use Rattle.heap_rule.specs.declared.phase.Kind.TheVariants.{Run, Promote, Reset, Roots, Mark, Rounds, Decide, Queued, Clean, Lasts, Sweep, Answer}
use Rattle.heap_rule.specs.declared.phase.Stage.{Stage}
use Rattle.heap_rule.specs.declared.phase.Stage.TheVariants.{In, Leads, Led, Gone}
use Rattle.heap_rule.specs.Beside.{Underway}
use Rattle.heap_rule.specs.Layout.{at_address, armed, colours, changed_word, live_blocks, live_words}
use Rattle.heap_rule.specs.Phases.{Pause, Agree, AtStage, Staged, flag}
use Rattle.heap_rule.specs.Places.{Live}
use Rattle.heap_rule.specs.Pools.{Holder, IsLeading, Tenancy, Takes, place_in}
use Rattle.heap_rule.specs.Cycles.{Cycling, Cycled, Facts, IsBetween, IsSwept, Told, Leading, Telling, pass_of, Knowing, KnowsBlocks, HasNoCycle, IsCollecting, IsIdle, Adds}
use Rattle.heap_rule.proofs.Growing.{grows_none, no_marking}
use Rattle.heap_rule.proofs.Garbage.{KeepsGarbage, leaves_on}
use Rattle.heap_rule.proofs.PauseFacts.{agree}
use Rattle.heap_rule.proofs.EphemeronLemmas.{none_misses}

-- the words of a collection stay: whether one is under way, the colours, what was changed, and the live words
pub record SameCycle (words words' : List ℕ) : Type 0 where
  pub armed_same : armed words' ≡ armed words
  pub colours_same : colours words' ≡ colours words
  pub changed_same : changed_word words' ≡ changed_word words
  pub blocks_same : live_blocks words' ≡ live_blocks words
  pub words_same : live_words words' ≡ live_words words

pub cycle_unmoved : (words : List ℕ) → SameCycle words words
cycle_unmoved words = record { armed_same = refl; colours_same = refl; changed_same = refl; blocks_same = refl; words_same = refl }

-- between two collections the facts are the same in each kind
pub facts_between : (kind : Kind) (k : Config) (s : model.State) (live : Live) (t : Tenancy) (c : Cycling) (words : List ℕ) → HasNoCycle kind → Facts kind k s live t c words → IsBetween k s live c
facts_between Run k s live t c words none f = f
facts_between Promote k s live t c words none f = f
facts_between Reset k s live t c words none f = f
facts_between Roots k s live t c words none f = absurd none
facts_between Mark k s live t c words none f = absurd none
facts_between Rounds k s live t c words none f = absurd none
facts_between Decide k s live t c words none f = absurd none
facts_between Queued k s live t c words none f = absurd none
facts_between Clean k s live t c words none f = absurd none
facts_between Lasts k s live t c words none f = absurd none
facts_between Sweep k s live t c words none f = absurd none
facts_between Answer k s live t c words none f = absurd none

pub between_facts : (kind : Kind) (k : Config) (s : model.State) (live : Live) (t : Tenancy) (c : Cycling) (words : List ℕ) → HasNoCycle kind → IsBetween k s live c → Facts kind k s live t c words
between_facts Run k s live t c words none f = f
between_facts Promote k s live t c words none f = f
between_facts Reset k s live t c words none f = f
between_facts Roots k s live t c words none f = absurd none
between_facts Mark k s live t c words none f = absurd none
between_facts Rounds k s live t c words none f = absurd none
between_facts Decide k s live t c words none f = absurd none
between_facts Queued k s live t c words none f = absurd none
between_facts Clean k s live t c words none f = absurd none
between_facts Lasts k s live t c words none f = absurd none
between_facts Sweep k s live t c words none f = absurd none
between_facts Answer k s live t c words none f = absurd none

-- in an even phase the facts of its kind hold
pub kind_now : (k : Config) (p : Pause) (c : Cycling) (x : DomainView) (kind : Kind) → x.seen.stage ≡ In kind → Staged p x → Told k p c.kind c.shares → c.kind ≡ kind
kind_now k p c x kind is staged told = let a = (subst (AtStage p x.own.number x.own.arrivals) is staged.stage).1 in sym (told.even a.0 a.1).0 ∙ a.2

-- the collection with something else kept of a cycle that goes on beside running domains
abbrev pub with_past : Cycling → Snapshot → Cycling
with_past c past = record c { past = past }

-- What a step outside a collection owes of a cycle that goes on beside running domains
abbrev pub KeepsUnderway : Config → model.State → model.State → Live → Live → Cycling → Snapshot → Type 0
KeepsUnderway k s s' live live' c past' = IsTrue c.armed → Underway k s live c.kind c.past c.paint.marks c.shares → Underway k s' live' c.kind past' c.paint.marks c.shares

-- outside a collection garbage stays, and nothing else is known of one
pub cycle_between : (k : Config) (s s' : model.State) (live live' : Live) (p : Pause) (t t' : Tenancy) (c : Cycling) (past' : Snapshot) (words words' : List ℕ) → HasNoCycle c.kind → s'.mode ≡ s.mode → KeepsGarbage k live' t t' words words'
    → SameCycle words words' → KeepsUnderway k s s' live live' c past' → Cycled k s live p t c words → Cycled k s' live' p t' (with_past c past') words'
cycle_between k s s' live live' p t t' c past' words words' none mode garbage same keeps y =
    let b = facts_between c.kind k s live t c words none y.facts in
    record {
      armed_is = same.armed_same ∙ y.armed_is;
      meanings = y.meanings;
      colours_are = same.colours_same ∙ y.colours_are;
      changed_is = same.changed_same ∙ y.changed_is;
      facts = between_facts c.kind k s' live' t' (with_past c past') words' none record { mode = mode ∙ b.mode; unmarked = b.unmarked; beside = λ is. keeps is (b.beside is); unchanged = b.unchanged; unrotated = b.unrotated };
      told = y.told;
      leaves = leaves_on k live t c words y.leaves live' t' words' garbage (with_past c past') refl refl refl;
      unswept = y.unswept;
      whole = λ l. inl (none_misses live t.holder c none y.whole l);
      grows = grows_none k live' p (with_past c past') (no_marking c.kind none);
    }

-- the live words are counted as before
swept_words : (k : Config) (s : model.State) (live : Live) (holder : ℕ → Holder) (c : Cycling) (words words' : List ℕ) → SameCycle words words' → IsSwept k s live holder c words → IsSwept k s live holder c words'
swept_words k s live holder c words words' same f = let n = f.counted in record {
  all_marked = f.all_marked;
  unmarked = f.unmarked;
  unchanged = f.unchanged;
  counted = record { first = n.first; once = n.once; owned = n.owned; all = n.all; few = n.few; light = n.light; blocks_are = same.blocks_same ∙ n.blocks_are; words_are = same.words_same ∙ n.words_are };
}

pub facts_words : (kind : Kind) (k : Config) (s : model.State) (live : Live) (t : Tenancy) (c : Cycling) (words words' : List ℕ) → SameCycle words words' → Facts kind k s live t c words → Facts kind k s live t c words'
facts_words Run k s live t c words words' same f = f
facts_words Promote k s live t c words words' same f = f
facts_words Reset k s live t c words words' same f = f
facts_words Roots k s live t c words words' same f = f
facts_words Mark k s live t c words words' same f = f
facts_words Rounds k s live t c words words' same f = f
facts_words Decide k s live t c words words' same f = f
facts_words Queued k s live t c words words' same f = f
facts_words Clean k s live t c words words' same f = f
facts_words Lasts k s live t c words words' same f = f
facts_words Sweep k s live t c words words' same f = record { since = f.since; swept = swept_words k s live t.holder c words words' same f.swept; clear = f.clear; all_counted = f.all_counted }
facts_words Answer k s live t c words words' same f = record { mode = f.mode; whole = f.whole; ends = f.ends; swept = swept_words k s live t.holder c words words' same f.swept; clean = f.clean; all_counted = f.all_counted; held = f.held }

-- a step that leaves the words of a collection and the heads of garbage
pub cycle_words : (k : Config) (s : model.State) (live : Live) (p : Pause) (t : Tenancy) (c : Cycling) (words words' : List ℕ) → SameCycle words words' → ((a : ℕ) → at_address k words' a ≡ at_address k words a)
    → Cycled k s live p t c words → Cycled k s live p t c words'
cycle_words k s live p t c words words' same heap y = record {
  armed_is = same.armed_same ∙ y.armed_is;
  meanings = y.meanings;
  colours_are = same.colours_same ∙ y.colours_are;
  changed_is = same.changed_same ∙ y.changed_is;
  facts = facts_words c.kind k s live t c words words' same y.facts;
  told = y.told;
  leaves = record { none = y.leaves.none; dead = y.leaves.dead; head = λ a is. let h = y.leaves.head a is in (h.0, h.1, heap a ∙ h.2); unprepared = y.leaves.unprepared; owned = y.leaves.owned };
  unswept = y.unswept;
  whole = y.whole;
  grows = y.grows;
}

-- What a domain has loaded of the words that only the leader of a pause writes
pub record Loaded (c : Cycling) (words : List ℕ) (d : ℕ) (stage : Stage) (share : Share) : Type 0 where
  pub changed : (v : ℕ) → share.changed ≡ Some v → (d ≡ 0) × IsLeading stage × (v ≡ flag c.shares.changed)
  pub found_blocks : (v : ℕ) → share.blocks ≡ Some v → (((d ≡ 0) × IsLeading stage) ⊎ (stage ≡ In Answer)) × (live_blocks words ≡ v)
  pub found_words : (v : ℕ) → share.words ≡ Some v → (((d ≡ 0) × IsLeading stage) ⊎ (stage ≡ In Answer)) × (live_words words ≡ v)

-- a collection with the paint, the shares and the counts of another
abbrev pub painted_as : Cycling → Cycling → Cycling
painted_as c c' = record c { paint = c'.paint; shares = c'.shares; before = c'.before; left = c'.left; counts = c'.counts; past = c'.past }

-- a share with what another says of the lead
abbrev pub leading_in : Share → Share → Share
leading_in share share' = record share' { rotated = share.rotated; progress = share.progress; armed = share.armed; unmarked = share.unmarked }

-- what a domain knows of the collection stays where that differs by these alone, with what it has loaded then
pub leading_loads : (c c' : Cycling) (words words' : List ℕ) (d : ℕ) (stage : Stage) (share share' : Share) → c' ≡ painted_as c c' → share' ≡ leading_in share share' → Loaded c' words' d stage share' → Leading c words d stage share → Leading c' words' d stage share'
leading_loads c c' words words' d stage share share' same known loaded l = record {
  changed = loaded.changed;
  found_blocks = loaded.found_blocks;
  found_words = loaded.found_words;
  rotated = λ zero lasts. ap (λ (z : Cycling). z.rotated) same ∙ (l.rotated zero (sym (ap (λ (z : Cycling). z.kind) same) ∙ lasts) ∙ sym (ap (λ (z : Share). z.rotated) known));
  turned = λ is. l.turned (sym (ap (λ (z : Share). z.rotated) known) ∙ is);
  pass = λ zero. ap (λ (z : Cycling). z.pass) same ∙ (l.pass zero ∙ sym (ap (λ (z : Share). pass_of z.progress.cut) known));
  whole = λ zero. ap (λ (z : Cycling). z.whole) same ∙ (l.whole zero ∙ sym (ap (λ (z : Share). z.progress.whole) known));
  armed = λ b is. let h = l.armed b (sym (ap (λ (z : Share). z.armed) known) ∙ is) in (h.0, h.1 ∙ sym (ap (λ (z : Cycling). z.armed) same));
  unswept = λ zero. ap (λ (z : Cycling). z.unswept) same ∙ (l.unswept zero ∙ sym (ap (λ (z : Share). z.progress.unswept) known));
  under_way = λ zero none. ap (λ (z : Cycling). z.armed) same ∙ (l.under_way zero (subst HasNoCycle (ap (λ (z : Cycling). z.kind) same) none) ∙ sym (ap (λ (z : Share). z.progress.armed) known));
  unmarked = λ zero. ap (λ (z : Cycling). z.unmarked) same ∙ (l.unmarked zero ∙ sym (ap (λ (z : Share). z.unmarked) known));
}

-- what a domain has loaded of these words it knows still
pub leading_words : (c : Cycling) (words words' : List ℕ) (d : ℕ) (stage : Stage) (share : Share) → SameCycle words words' → Leading c words d stage share → Leading c words' d stage share
leading_words c words words' d stage share same l = leading_loads c c words words' d stage share share refl refl record { changed = l.changed; found_blocks = λ v e. let h = l.found_blocks v e in (h.0, same.blocks_same ∙ h.1); found_words = λ v e. let h = l.found_words v e in (h.0, same.words_same ∙ h.1) } l

pub knowing_words : (k : Config) (live : Live) (holder : ℕ → Holder) (graph : Graph) (marks : Marks) (words words' : List ℕ) (d : ℕ) (registers : List Value) (share : Share) → ((a : ℕ) → at_address k words' a ≡ at_address k words a)
    → Knowing k live holder graph marks words d registers share → Knowing k live holder graph marks words' d registers share
knowing_words k live holder graph marks words words' d registers share heap n = record {
  found_head = λ g p e lives. ⊎_elim (λ (h : at_address k words g.address ≡ g.word). inl (heap g.address ∙ h)) (λ h. inr h) (n.found_head g p e lives);
  scan = n.scan;
  walked = n.walked;
  own_pool = n.own_pool;
  rooted = n.rooted;
  marked = n.marked;
  counted = n.counted;
  held = n.held;
  vacant = λ class slot own inside low. heap (place_in share.held class slot) ∙ n.vacant class slot own inside low;
}

pub knows_words : (k : Config) (live : Live) (holder : ℕ → Holder) (graph : Graph) (marks : Marks) (words words' : List ℕ) (d : ℕ) (registers : List Value) (stage : Stage) (share : Share) → ((a : ℕ) → at_address k words' a ≡ at_address k words a)
    → KnowsBlocks k live holder graph marks words d registers stage share → KnowsBlocks k live holder graph marks words' d registers stage share
knows_words k live holder graph marks words words' d registers stage share heap n = ⊎_elim (λ (h : IsIdle share). inl h)
    (λ (h : IsCollecting stage × Knowing k live holder graph marks words d registers share). inr (h.0, knowing_words k live holder graph marks words words' d registers share heap h.1)) n

-- outside a collection nobody is at a block
collects_none : (kind : Kind) → HasNoCycle kind → (y : Stage) → Agree (In kind) y → IsCollecting y → ⊥
collects_none kind none (In v) a l = l (subst HasNoCycle a none)
collects_none kind none (Leads v) a l = l
collects_none kind none (Led v) a l = l
collects_none kind none (Gone v) a l = l

pub idle_beside : (k : Config) (live : Live) (holder : ℕ → Holder) (graph : Graph) (marks : Marks) (words : List ℕ) (t : Pause) (x z : DomainView) (kind : Kind) → HasNoCycle kind → x.seen.stage ≡ In kind → Staged t x → Staged t z
    → KnowsBlocks k live holder graph marks words z.own.number z.own.registers z.seen.stage z.seen.share → IsIdle z.seen.share
idle_beside k live holder graph marks words t x z kind none is sx sz n = ⊎_elim (λ (h : IsIdle z.seen.share). h)
    (λ (h : IsCollecting z.seen.stage × Knowing k live holder graph marks words z.own.number z.own.registers z.seen.share).
    absurd (collects_none kind none z.seen.stage (agree t x.own.number z.own.number x.own.arrivals z.own.arrivals (In kind) z.seen.stage (subst (AtStage t x.own.number x.own.arrivals) is sx.stage) sz.stage) h.0)) n

-- and so does a domain that is in a phase without a collection itself
pub idle_in : (k : Config) (live : Live) (holder : ℕ → Holder) (graph : Graph) (marks : Marks) (words : List ℕ) (x : DomainView) (kind : Kind) → HasNoCycle kind → x.seen.stage ≡ In kind
    → KnowsBlocks k live holder graph marks words x.own.number x.own.registers x.seen.stage x.seen.share → IsIdle x.seen.share
idle_in k live holder graph marks words x kind none is n = ⊎_elim (λ (h : IsIdle x.seen.share). h)
    (λ (h : IsCollecting x.seen.stage × Knowing k live holder graph marks words x.own.number x.own.registers x.seen.share). absurd ((subst IsCollecting is h.0) none)) n

pub telling_as : (means : Colours) (w : Shares) (d d' : ℕ) (share share' : Share) → d' ≡ d → share' ≡ share → Telling means w d share → Telling means w d' share'
telling_as means w d d' share share' number same t = subst (λ (z : ℕ × Share). Telling means w z.0 z.1) (λ i. (sym number i, sym same i)) t

pub leading_as : (c : Cycling) (words : List ℕ) (d d' : ℕ) (stage stage' : Stage) (share share' : Share) → d' ≡ d → stage' ≡ stage → share' ≡ share → Leading c words d stage share → Leading c words d' stage' share'
leading_as c words d d' stage stage' share share' number stands same l = subst (λ (z : ℕ × Stage × Share). Leading c words z.0 z.1 z.2) (λ i. (sym number i, sym stands i, sym same i)) l

-- and so it does of the collection, whatever is kept of a cycle that goes on beside running domains
pub leading_past : (c : Cycling) (past' : Snapshot) (words : List ℕ) (d : ℕ) (stage : Stage) (share : Share) → Leading c words d stage share → Leading (with_past c past') words d stage share
leading_past c past' words d stage share l = leading_loads c (with_past c past') words words d stage share share refl refl record { changed = l.changed; found_blocks = l.found_blocks; found_words = l.found_words } l

-- and what it owes the darkening of is nothing of it
abbrev pub with_weak : Share → Option ℕ → Share
with_weak share weak = record share { weak = weak }

pub telling_weak : (means : Colours) (w : Shares) (d : ℕ) (share : Share) (weak : Option ℕ) → Telling means w d share → Telling means w d (with_weak share weak)
telling_weak means w d share weak t = record { owes = t.owes; seen = t.seen; fresh = λ up. ap (λ (z : Share). with_weak z weak) (t.fresh up); forgotten = t.forgotten; colours = t.colours }

pub leading_weak : (c : Cycling) (words : List ℕ) (d : ℕ) (stage : Stage) (share : Share) (weak : Option ℕ) → Leading c words d stage share → Leading c words d stage (with_weak share weak)
leading_weak c words d stage share weak l = leading_loads c c words words d stage share (with_weak share weak) refl refl record { changed = l.changed; found_blocks = l.found_blocks; found_words = l.found_words } l

-- outside a collection nobody has anything to add
pub adds_nothing : (live : Live) (c : Cycling) (d : ℕ) (share : Share) → HasNoCycle c.kind → Adds live c d share
adds_nothing live c d share none = record { blocks = λ e _. absurd (subst HasNoCycle e none); words = λ e _. absurd (subst HasNoCycle e none); own = λ e _ _. absurd (subst HasNoCycle e none) }

-- a domain in a phase that takes blocks is in one without a collection
pub takes_kind : (stage : Stage) → Takes stage → (kind : Kind) × HasNoCycle kind × (stage ≡ In kind)
takes_kind stage takes = ⊎_elim (λ (h : stage ≡ In Run). (Run, tt, h)) (λ (h : stage ≡ In Promote). (Promote, tt, h)) takes
