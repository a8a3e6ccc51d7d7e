-- A look at a registration in a collection: it is kept, and no entry stands, or it is queued, and the collector's entry does.
use Rattle.std.proofs.Common.{◌≡◌, ◌≢◌, ℕ, ◌+◌, false, true≢false, List, [], length, get_or, set, sym, refl, ap, ◌∙◌, subst, inl, inr, ⊎_elim}
use mathlib.Core.Option.{some}
use lib.ListN.{get_elem?}
use Rattle.model_core.specs.declared.entry.Entry.{Entry}
use Rattle.model_core.specs.declared.graph.Value.{Value}
use Rattle.model_core.specs.declared.graph.Value.TheVariants.{Nothing}
use Rattle.model_core.specs.declared.state.State as model
use Rattle.model_core.specs.Fronts.{KeepsDomain}
use Rattle.model_core.specs.Graph.{Graph}
use Rattle.model_core.specs.History.{Legal}
use Rattle.model_cycle.specs.Shares.{at_domain}
use Rattle.model_cycle.proofs.Sharing.{at_cases}
use Rattle.heap_rule.specs.declared.config.Config.{Config}
use Rattle.heap_rule.specs.declared.phase.Kind.{Kind}
use Rattle.heap_rule.specs.declared.phase.Kind.TheVariants.{Run, Clean, Decide, Lasts}
use Rattle.heap_rule.specs.declared.phase.Stage.TheVariants.{In}
use Rattle.heap_rule.specs.declared.view.DomainView.{DomainView}
use Rattle.heap_rule.specs.declared.view.Finalisers.{Finalisers}
use Rattle.heap_rule.specs.declared.view.Share.{Share}
use Rattle.heap_rule.specs.Changes.{value_at}
use Rattle.heap_rule.specs.Copies.{IsPast, Promoting}
use Rattle.heap_rule.specs.Cycles.{Cycled, Cycling, Facts, IsCollecting, Knowing, KnowsBlocks, Leading, MissesKeys}
use Rattle.heap_rule.specs.Deciding.{IsRooting}
use Rattle.heap_rule.specs.Ephemerons.{Looks}
use Rattle.heap_rule.specs.Finalisers.{Enrolled}
use Rattle.heap_rule.specs.Fullness.{Fullness}
use Rattle.heap_rule.specs.Limits.{sizes_in}
use Rattle.heap_rule.specs.Phases.{IsInPause, flag, is_over}
use Rattle.heap_rule.specs.Places.{Stands}
use Rattle.heap_rule.specs.Rule.{Account, AllFound, Good, Rule, Sharing, Stood, state_of}
use Rattle.heap_rule.specs.Views.{EachView, Knows as SeatKnows, one}
use Rattle.heap_rule.proofs.FinaliserLemmas.{KeepsWork}
use Rattle.heap_rule.proofs.Keeps.{logs, Words, hunter_as, more_same, my_good, owes_as, remakes, resting_as, stood_other, sum_same}
use Rattle.heap_rule.proofs.PauseFacts.{nobody_else_still, staged_as}
use Rattle.heap_rule.proofs.Stages.{waits_in}
use Rattle.step_marks.proofs.OfMarking.Learning.{kind_here, known, not_promoting}

-- a step by which the domain has looked at the registration before the p-th: the place in its phase, what is left, and what it has kept
module _ (k : Config) (s : Words) (r : Rule k s) (id : ℕ) (hist : List Entry) (x : DomainView) (at : get_elem? s.views id ≡ some (one k hist x)) (kind : Kind) (stage : x.seen.stage ≡ In kind) (no_pause : IsInPause (In kind) → ⊥) (under_way : IsCollecting (In kind)) (not_clean : kind ≡ Clean → ⊥) where
  open r.account use {live, tenancy as t}
  open x use {own.{number as d}, seen.{share as sh}}

  abbrev pub now : model.State
  now = state_of k r.account.log

  abbrev pub c : Cycling
  c = r.account.cycling

  good : Good k r.account s.words x
  good = my_good k s r id hist x at

  pub collecting : IsCollecting x.seen.stage
  collecting = subst IsCollecting (sym stage) under_way

  not_run : In kind ≡ In Run → ⊥
  not_run is = subst IsCollecting is under_way tt

  pub waits : c.shares.arrived d ≡ false
  waits = waits_in k s r id hist x at kind stage

  pub kind_is : c.kind ≡ kind
  kind_is = kind_here k s r id hist x at kind stage

  module _ (p kept' : ℕ) (log' : List Entry) (fs' : Finalisers) (front' : List Entry) where
    abbrev pub later : model.State
    later = state_of k log'

    abbrev pub c' : Cycling
    c' = record c { left = at_domain c.left d p }

    abbrev all' : Account
    all' = record r.account { log = log'; cycling = c' }

    abbrev share' : Share
    share' = record sh { kept = kept' }

    abbrev pub y : DomainView
    y = record { own = record x.own { finalisers = fs' }; seen = record x.seen { front = front'; share = share' } }

    -- What it owes
    pub record Takes : Type 0 where
      pub legal : Legal (sizes_in k) log'
      pub full : Fullness k log' live t.holder t.fresh t.garbage r.account.homes c.kind
      pub graph : later.graph ≡ now.graph
      pub keeps : (z : ℕ) → KeepsDomain now later z
      pub work : (z : ℕ) → z ≢ d → KeepsWork now later z
      pub enrolled : Enrolled live later d fs'
      pub facts : Facts kind k later live t c' s.words
      pub seats : EachView (SeatKnows k log' r.seat) (set s.views id (one k hist y))
      pub decides : kind ≡ Decide → p + kept' ≡ length fs'.finals.items
      pub lasts : kind ≡ Lasts → p + kept' ≡ length fs'.lasts.items
      pub no_roots : IsRooting kind → ⊥

    module _ (o : Takes) where
      cycle' : Cycled k later live r.account.pause t c' s.words
      cycle' = let was = r.whole.cycle in record {
        armed_is = was.armed_is;
        meanings = was.meanings;
        colours_are = was.colours_are;
        changed_is = was.changed_is;
        facts = subst (λ (z : Kind). Facts z k later live t c' s.words) (sym kind_is) o.facts;
        told = was.told;
        leaves = record { none = was.leaves.none; dead = was.leaves.dead; head = was.leaves.head; unprepared = was.leaves.unprepared; owned = was.leaves.owned };
        unswept = was.unswept;
        whole = λ l. inl (⊎_elim (λ (e : c.paint.emptied l ≡ []). e) (λ (h : MissesKeys live t.holder c l). absurd (not_clean (sym kind_is ∙ h.clean))) (was.whole l));
        grows = record { few = was.grows.few; since = was.grows.since; named = was.grows.named; cleared = was.grows.cleared };
      }

      leading' : (z : DomainView) (share : Share) → Leading c s.words z.own.number z.seen.stage share → Leading c' s.words z.own.number z.seen.stage share
      leading' z share l = record { changed = l.changed; found_blocks = l.found_blocks; found_words = l.found_words; rotated = l.rotated; turned = l.turned; pass = l.pass; whole = l.whole; armed = l.armed; unswept = l.unswept; under_way = l.under_way; unmarked = l.unmarked }

      own_knowing : Knowing k live t.holder now.graph c.paint.marks s.words d x.own.registers share'
      own_knowing = let n = known k s r id hist x at in let e = n.counted in record {
        found_head = n.found_head;
        scan = n.scan;
        walked = n.walked;
        own_pool = n.own_pool;
        rooted = n.rooted;
        marked = n.marked;
        counted = record { once = e.once; own = e.own; lives = e.lives; all = e.all; words = e.words };
        held = n.held;
        vacant = n.vacant;
      }

      own_looks : Looks live t.holder now.graph c.paint.marks c.paint.emptied d x.own.ephemerons.items x.seen.stage share'
      own_looks = let l = good.sharing.looks in record { at_own = l.at_own; cleans = l.cleans; emptied_is = l.emptied_is }

      sharing' : Sharing k all' s.words d x.own.registers fs' x.own.ephemerons.items x.seen.stage share'
      sharing' = let g = good.sharing in let w = g.telling in let l = leading' x sh g.leading in record {
        telling = record { owes = w.owes; seen = w.seen; fresh = λ up. absurd (true≢false (sym up ∙ waits)); forgotten = λ up. absurd (true≢false (sym up ∙ waits)); colours = w.colours };
        leading = record { changed = l.changed; found_blocks = l.found_blocks; found_words = l.found_words; rotated = l.rotated; turned = l.turned; pass = l.pass; whole = l.whole; armed = l.armed; unswept = l.unswept; under_way = l.under_way; unmarked = l.unmarked };
        knows = inr (collecting, subst (λ (z : Graph). Knowing k live t.holder z c.paint.marks s.words d x.own.registers share') (sym o.graph) own_knowing);
        adds = record { blocks = g.adds.blocks; words = g.adds.words; own = g.adds.own };
        looks = subst (λ (z : Graph). Looks live t.holder z c.paint.marks c.paint.emptied d x.own.ephemerons.items x.seen.stage share') (sym o.graph) own_looks;
        running = record { knows = g.running.knows; owes = g.running.owes };
        deciding = record {
          finals = λ is _. ap (λ (n : ℕ). n + kept') left_is ∙ o.decides (sym kind_is ∙ is);
          lasts = λ is _. ap (λ (n : ℕ). n + kept') left_is ∙ o.lasts (sym kind_is ∙ is);
          rooted = λ is. absurd (o.no_roots (subst IsRooting kind_is is));
        };
      } where
        left_is : c'.left d ≡ p
        left_is = ⊎_elim (λ t. t.1) (λ t. absurd (t.0 refl)) (at_cases c.left d p d)

      sharings' : (z : DomainView) → z.own.number ≢ d → Good k r.account s.words z → Sharing k all' s.words z.own.number z.own.registers z.own.finalisers z.own.ephemerons.items z.seen.stage z.seen.share
      sharings' z other h = let g = h.sharing in record {
        telling = g.telling;
        leading = leading' z z.seen.share g.leading;
        knows = subst (λ (w : Graph). KnowsBlocks k live t.holder w c.paint.marks s.words z.own.number z.own.registers z.seen.stage z.seen.share) (sym o.graph) g.knows;
        adds = record { blocks = g.adds.blocks; words = g.adds.words; own = g.adds.own };
        looks = subst (λ (w : Graph). Looks live t.holder w c.paint.marks c.paint.emptied z.own.number z.own.ephemerons.items z.seen.stage z.seen.share) (sym o.graph) g.looks;
        running = g.running;
        deciding = record {
          finals = λ is up. ap (λ (n : ℕ). n + z.seen.share.kept) left_is ∙ g.deciding.finals is up;
          lasts = λ is up. ap (λ (n : ℕ). n + z.seen.share.kept) left_is ∙ g.deciding.lasts is up;
          rooted = g.deciding.rooted;
        };
      } where
        left_is : c'.left z.own.number ≡ c.left z.own.number
        left_is = ⊎_elim (λ t. absurd (other t.0)) (λ t. t.1) (at_cases c.left d p z.own.number)

      own_stood : Stood live later y
      own_stood = let st = good.stood in record {
        wide = st.wide;
        each = λ q few. subst (Stands live (value_at x.own.registers q)) (sym (ap (λ (xs : List Value). get_or xs q Nothing) (o.keeps d).registers)) (st.each q few);
        serial = st.serial ∙ sym (o.keeps d).serial;
        enrolled = o.enrolled;
      }

      pub takes : Rule k record { words = s.words; homes = s.homes; views = set s.views id (one k hist y) }
      takes = let g = good in logs k s r id hist x at log' c' fs' front' share' record {
        legal = o.legal;
        full = o.full;
        found = subst (λ (z : Graph). AllFound k c.paint live z s.words) (sym o.graph) r.whole.found;
        ended = λ j. (o.keeps j).ended;
        cycle = cycle';
        seats = o.seats;
        kind = kind;
        stage = stage;
        no_pause = no_pause;
        not_run = not_run;
        stood = own_stood;
        rooted = (λ (promotes : Promoting r.account.pause). absurd (not_promoting k s r id hist x at collecting promotes), λ (past : IsPast r.account.pause y). g.rooted.1 past);
        sharing = sharing';
        sweeps = g.sweeps;
        stoods = λ z other h. stood_other live live now later z (o.keeps z.own.number) (o.work z.own.number other) (more_same live) h.stood;
        sharings = sharings';
        others_sweep = λ z h. h.sweeps;
      }
