-- A step of a running domain that changes what it knows beside a cycle, what is marked, and no more.
use Rattle.std.proofs.Common.{◌≡◌, ◌≢◌, ℕ, true, false, true≢false, IsTrue, List, [], ◌∷◌, length, set, Option, Some, sym, refl, ap, ◌∙◌, subst, inl, inr, ⊎_elim}
use mathlib.Core.Option.{some}
use lib.ListN.{get_elem?}
use Rattle.model_core.specs.declared.entry.Entry.{Entry}
use Rattle.model_core.specs.declared.label.Label.{Label}
use Rattle.model_core.specs.declared.state.State as model
use Rattle.model_cycle.specs.Beside.{Snapshot}
use Rattle.model_cycle.specs.Marks.{Marks}
use Rattle.heap_rule.specs.declared.config.Config.{Config}
use Rattle.heap_rule.specs.declared.phase.Kind.TheVariants.{Run}
use Rattle.heap_rule.specs.declared.phase.Stage.TheVariants.{In}
use Rattle.heap_rule.specs.declared.view.DomainView.{DomainView}
use Rattle.heap_rule.specs.declared.view.Known.{Known}
use Rattle.heap_rule.specs.declared.view.Share.{Share}
use Rattle.heap_rule.specs.Beside.{AllKnown, IsUnaware, Underway, is_weak}
use Rattle.heap_rule.specs.Cycles.{Cycling, Cycled, HasNoCycle, IsIdle, Leading}
use Rattle.heap_rule.specs.Pools.{Grid, Hunter}
use Rattle.heap_rule.specs.Rule.{Account, AllFound, Area, Good, Making, Rule, Sharing, state_of}
use Rattle.heap_rule.specs.Views.{one}
use Rattle.heap_rule.proofs.Growing.{grows_none, no_marking}
use Rattle.heap_rule.proofs.Advancing.{underway_here}
use Rattle.heap_rule.proofs.BesideLemmas.{Endures, runs_on}
use Rattle.heap_rule.proofs.EphemeronLemmas.{looks_idle}
use Rattle.heap_rule.proofs.FinaliserLemmas.{deciding_none}
use Rattle.heap_rule.proofs.Keeps.{Words, between_here, Control, cycle_control, idle_here, my_good, no_cycle_here, whole_here}
use Rattle.heap_rule.proofs.Sharings.{SameCycle, adds_nothing, between_facts, idle_beside, leading_loads, leading_words}
use Rattle.step_marks.specs.Marking.Looks.{with_share}
use Rattle.step_marks.proofs.OfMarking.Recasting.{recasts}
use Rattle.step_marks.proofs.OfMarking.Unswept.{swept_armed}

-- what a running domain knows and owes changes
abbrev pub aware : Share → List Known → Option ℕ → Share
aware share known weak = record share { known = known; weak = weak }

module _ (k : Config) (s : Words) (r : Rule k s) (id : ℕ) (hist : List Entry) (x : DomainView) (at : get_elem? s.views id ≡ some (one k hist x)) (runs : x.seen.stage ≡ In Run) (armed : x.seen.share.armed ≡ Some true) where
  open r.account use {cycling as c, live, tenancy.{holder}}
  open x use {seen.{share as sh}}

  abbrev pub now : model.State
  now = state_of k r.account.log

  pub is_armed : IsTrue c.armed
  is_armed = sym ((my_good k s r id hist x at).sharing.leading.armed true armed).1

  pub under : Underway k now live c.kind c.past c.paint.marks c.shares
  under = underway_here k s r id hist x at runs is_armed

  -- garbage of the last collection isn't left then
  pub no_garbage : (a : ℕ) → r.account.tenancy.garbage a ≡ false
  no_garbage = let w = r.whole.cycle in w.leaves.none (between_here k s r id hist x at Run tt runs).unrotated (swept_armed k now live r.account.pause r.account.tenancy c s.words w is_armed)

  -- all that it knew holds
  pub all_known : AllKnown k live holder c.past.old c.paint.marks.marked s.words sh.known
  all_known = ⊎_elim
      (λ (u : IsUnaware sh). subst (AllKnown k live holder c.past.old c.paint.marks.marked s.words) (sym u.0) tt)
      (λ (u : (x.seen.stage ≡ In Run) × IsTrue c.armed × AllKnown k live holder c.past.old c.paint.marks.marked s.words sh.known). u.2)
      (my_good k s r id hist x at).sharing.running.knows

  abbrev pub marked_past : Marks → Snapshot → Cycling
  marked_past m' past' = record c { paint = record c.paint { marks = m' }; past = past' }

  -- What it owes
  pub record Learns (m' : Marks) (past' : Snapshot) (known' : List Known) (weak' : Option ℕ) (words' : List ℕ) : Type 0 where
    pub wide : length words' ≡ length s.words
    pub control : Control k s.words words'
    pub found : AllFound k (record c.paint { marks = m' }) live now.graph words'
    pub grid : Grid k r.account.tenancy live words'
    pub hunters : (z : DomainView) → Good k r.account s.words z → Hunter k r.account.tenancy words' z
    pub makings : (z : DomainView) → Area k live z → Making k s.words z → Making k words' z
    pub endures : Endures k live live holder holder c.paint.marks.marked m'.marked s.words words'
    pub same_old : past'.old ≡ c.past.old
    pub others : (d q : ℕ) → d ≢ x.own.number → past'.owed d q ≡ c.past.owed d q
    pub own : (q : ℕ) → past'.owed x.own.number q ≡ is_weak weak' q
    pub underway : Underway k now live c.kind past' m' c.shares
    pub knows : AllKnown k live holder past'.old m'.marked words' known'

  module _ (m' : Marks) (past' : Snapshot) (known' : List Known) (weak' : Option ℕ) (words' : List ℕ) (o : Learns m' past' known' weak' words') where
    abbrev c' : Cycling
    c' = marked_past m' past'

    abbrev all' : Account
    all' = record r.account { cycling = c' }

    abbrev y : DomainView
    y = with_share x (aware sh known' weak')

    none : HasNoCycle c.kind
    none = no_cycle_here k s r id hist x at Run tt runs

    same : SameCycle s.words words'
    same = cycle_control k s.words words' o.control

    unmissed : (l : Label) → c.paint.emptied l ≡ []
    unmissed = whole_here k s r id hist x at Run tt runs

    cycle' : Cycled k now live r.account.pause r.account.tenancy c' words'
    cycle' = let w = r.whole.cycle in let b = between_here k s r id hist x at Run tt runs in record {
      armed_is = same.armed_same ∙ w.armed_is;
      meanings = w.meanings;
      colours_are = same.colours_same ∙ w.colours_are;
      changed_is = same.changed_same ∙ w.changed_is;
      facts = between_facts c.kind k now live r.account.tenancy c' words' none record { mode = b.mode; unmarked = λ low. absurd (true≢false (sym is_armed ∙ low)); beside = λ _. o.underway; unchanged = b.unchanged; unrotated = b.unrotated };
      told = w.told;
      leaves = record { none = w.leaves.none; dead = w.leaves.dead; head = λ a is. absurd (true≢false (sym is ∙ no_garbage a)); unprepared = w.leaves.unprepared; owned = w.leaves.owned };
      unswept = w.unswept;
      whole = λ l. inl (unmissed l);
      grows = grows_none k live r.account.pause c' (no_marking c.kind none);
    }

    leading_on : (z : DomainView) (share : Share) → Leading c s.words z.own.number z.seen.stage share → Leading c' words' z.own.number z.seen.stage share
    leading_on z share l = leading_loads c c' s.words words' z.own.number z.seen.stage share share refl refl (let u = leading_words c s.words words' z.own.number z.seen.stage share same l in record { changed = u.changed; found_blocks = u.found_blocks; found_words = u.found_words }) l

    own_sharing : Sharing k all' words' y.own.number y.own.registers y.own.finalisers y.own.ephemerons.items y.seen.stage y.seen.share
    own_sharing =
        let g = (my_good k s r id hist x at).sharing in
        let t = g.telling in
        let l = leading_on x sh g.leading in
        let idle : IsIdle y.seen.share = ap (λ (z : Share). aware z known' weak') (idle_here k s r id hist x at Run tt runs) in record {
          telling = record { owes = t.owes; seen = t.seen; fresh = λ _. idle; forgotten = t.forgotten; colours = t.colours };
          leading = record { changed = l.changed; found_blocks = l.found_blocks; found_words = l.found_words; rotated = l.rotated; turned = l.turned; pass = l.pass; whole = l.whole; armed = l.armed; unswept = l.unswept; under_way = l.under_way; unmarked = l.unmarked };
          knows = inl idle;
          adds = adds_nothing live c' y.own.number y.seen.share none;
          looks = looks_idle live holder now.graph m' c.paint.emptied y.own.number y.own.ephemerons.items y.seen.stage y.seen.share idle unmissed;
          running = record { knows = inr (runs, is_armed, o.knows); owes = λ _ q. o.own q };
          deciding = deciding_none live c.kind c.left c.shares.arrived m'.marked y.own.number y.own.finalisers y.seen.share.kept y.seen.share.waiting none;
        }

    other_sharing : (z : DomainView) → z.own.number ≢ x.own.number → Good k r.account s.words z → Sharing k all' words' z.own.number z.own.registers z.own.finalisers z.own.ephemerons.items z.seen.stage z.seen.share
    other_sharing z other g =
        let idle : IsIdle z.seen.share = idle_beside k live holder now.graph c.paint.marks s.words r.account.pause x z Run tt runs (my_good k s r id hist x at).staged g.staged g.sharing.knows in record {
          telling = g.sharing.telling;
          leading = leading_on z z.seen.share g.sharing.leading;
          knows = inl idle;
          adds = adds_nothing live c' z.own.number z.seen.share none;
          looks = looks_idle live holder now.graph m' c.paint.emptied z.own.number z.own.ephemerons.items z.seen.stage z.seen.share idle unmissed;
          running = runs_on k live live holder holder c.armed c.past past' c.paint.marks.marked m'.marked s.words words' z.own.number z.seen.stage z.seen.share (λ _. o.endures) o.same_old (λ q. o.others z.own.number q other) g.sharing.running;
          deciding = deciding_none live c.kind c.left c.shares.arrived m'.marked z.own.number z.own.finalisers z.seen.share.kept z.seen.share.waiting none;
        }

    pub learns : Rule k record { words = words'; homes = s.homes; views = set s.views id (one k hist (with_share x (aware sh known' weak'))) }
    learns = recasts k s r id hist x at y.seen.share (record c.paint { marks = m' }) c.shares past' words' record {
      wide = o.wide;
      control = o.control;
      found = o.found;
      grid = o.grid;
      cycle = cycle';
      makings = o.makings;
      hunters = o.hunters;
      sharing = own_sharing;
      sharings = other_sharing;
      sweeps = (my_good k s r id hist x at).sweeps;
      others_sweep = λ z h. h.sweeps;
    }

  -- a load: the words and what is marked stay
  pub reads_rule : (known' : List Known) (weak' : Option ℕ) (past' : Snapshot) → past'.old ≡ c.past.old → ((d q : ℕ) → d ≢ x.own.number → past'.owed d q ≡ c.past.owed d q) → ((q : ℕ) → past'.owed x.own.number q ≡ is_weak weak' q)
      → Underway k now live c.kind past' c.paint.marks c.shares → AllKnown k live holder past'.old c.paint.marks.marked s.words known'
      → Rule k record { words = s.words; homes = s.homes; views = set s.views id (one k hist (with_share x (aware sh known' weak'))) }
  reads_rule known' weak' past' same_old others own underway knows = learns c.paint.marks past' known' weak' s.words record {
    wide = refl;
    control = λ i below. refl;
    found = r.whole.found;
    grid = r.whole.grid;
    hunters = λ z g. g.hunter;
    makings = λ z _ p. p;
    endures = record { more = λ a p e. record { place = p; lives = e; label = refl; shape = refl }; held = λ q d e h. h; stays = λ l is. is; heads = λ a p e. inl refl };
    same_old = same_old;
    others = others;
    own = own;
    underway = underway;
    knows = knows;
  }

  -- one at which the domain comes to know one thing more
  pub learns_one : (fact : Known) → AllKnown k live holder c.past.old c.paint.marks.marked s.words (fact ∷ sh.known) → Rule k record { words = s.words; homes = s.homes; views = set s.views id (one k hist (with_share x (record sh { known = fact ∷ sh.known }))) }
  learns_one fact holds = reads_rule (fact ∷ sh.known) sh.weak c.past refl (λ d q _. refl) (λ q. (my_good k s r id hist x at).sharing.running.owes is_armed q) under holds
