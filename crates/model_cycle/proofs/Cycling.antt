-- A cycle that ends in this pause: its steps and its phases.
use Rattle.std.proofs.Common.{◌≡◌, inl, inr, ⊎_elim, ℕ, suc, ◌<◌, Bool, true, false, not, IsTrue, List, [], ◌∷◌, ◌++◌, map, flat_map, filter_map, length, slice_get, Option, Some, refl, ap, sym, subst, eqb}
use Rattle.std.specs.List.{list_all, list_any}
use Rattle.model_core.specs.declared.label.Label.{Label}
use Rattle.model_core.specs.declared.command.Command.TheVariants.{FullMajor}
use Rattle.model_core.specs.declared.entry.Entry.TheVariants.{Command as CommandOf, Cut, Queue, Seal, Wipe, Last as LastOf, Collected, Done}
use Rattle.model_core.specs.declared.graph.Value.{Value}
use Rattle.model_core.specs.declared.graph.Node.TheVariants.{Ephe}
use Rattle.model_core.specs.declared.state.Finaliser.{Finaliser}
use Rattle.model_core.specs.declared.state.LastFinaliser.{LastFinaliser}
use Rattle.model_core.specs.declared.state.Mode.TheVariants.{Open, Sealed}
use Rattle.model_core.specs.declared.state.State.{State}
use Rattle.model_core.specs.Graph.{has_label, label_of, node_at}
use Rattle.model_core.specs.Reach.{HoldsRoots, is_reachable, IsClosedUnder}
use Rattle.model_core.specs.Domains.{domain_at, pending_label, queues, roots}
use Rattle.model_core.specs.Entries.{Allowed, next, is_some_and, is_rising, is_sealed, freshened, with_queued}
use Rattle.model_core.proofs.Collections.CutLemmas.{part_same}
use Rattle.model_core.proofs.Reach.ReachLemmas.{has-append_left}
use Rattle.model_cycle.specs.Marks.{Marks, darkened, with_scanned, FieldsMarked, KeysMarked, DataMarked, NoneGrey, DataFollows, IsWhole}
use Rattle.model_cycle.specs.Shares.{Layout, OnePlaceEach, reset_shares, no_shares, at_domain, owing, following, settles, stored_changed, sees, arrives, AllArrived, AllOwned, Shares}
use Rattle.model_cycle.specs.Queueing.{RootsMarked, IsDecided, InRoots}
use Rattle.model_cycle.specs.Taking.{LeadsToMarked}
use Rattle.model_cycle.specs.Cycle.{Cycle, Pass, First, Second, Roots, Mark, Rounds, Decide, Clean, Lasts, Sweep, WholeFrom, Passed, IsRooted, IsUnderWay, Known, InPhase, with_shares, with_marks, IsPastDecide}
use Rattle.model_cycle.specs.CycleLaws.{Darkens, SeesAll, ArrivesMarking, Arrives, DarkeningSteps, TakingSteps, PhaseSteps}
use Rattle.model_cycle.proofs.LookingBack.{through_looks, through_arrives}
use Rattle.model_cycle.proofs.Tracing.{More, holds_more, darkened_more, never, held_fields, darken_traced, darken_whole, scan_traced, closed_when}
use Rattle.model_cycle.proofs.Sharing.{at_cases, owned_darkened, mark_start, mark_darkens as shares_darken, mark_settles as shares_settle, mark_scans as shares_scan, mark_stores as shares_store, mark_sees, mark_arrives as shares_arrive, mark_end, rounds_start, rounds_darkens as rounds_darken, rounds_scans as rounds_scan, rounds_stores as rounds_store, rounds_sees, rounds_arrives as rounds_arrive, rounds_end}
use Rattle.model_cycle.proofs.Covering.{cover_darkens, cover_scans, cover_closed}
use Rattle.model_cycle.proofs.DomainParts.{part_has, roots_end}
use Rattle.model_cycle.proofs.Deciding as deciding
use Rattle.model_cycle.proofs.Queueing.{queued_start, queued_owing, queued_stored, queued_arrived, queued_end}
use Rattle.model_cycle.proofs.Cleaning as cleaning
use Rattle.model_cycle.proofs.Leaving as leaving

passed_more : (pass : Pass) (s : State) (whole : Bool) (marked other : Label → Bool) → More marked other → Passed pass s whole marked → Passed pass s whole other
passed_more First s whole marked other more p = p
passed_more Second s whole marked other more p = record {
  decided = deciding.decided_more s marked other more p.decided;
  waiting = p.waiting;
  stays = p.stays;
  rooted = holds_more marked other more (roots s s.cut) p.rooted;
}

-- what is known of the marks stays known as a block is darkened, and as one is scanned
module _ (s : State) (y : Layout) (m : Marks) (l : Label) where
  rooted_darkens : IsRooted s m → IsRooted s (darkened m l)
  rooted_darkens i = record {
    traced = darken_traced s.graph m l i.traced;
    rooted = holds_more m.marked (darkened m l).marked (darkened_more m l) (roots s (queues s)) i.rooted;
  }

  under_way_darkens : (a : ℕ) → y.live a ≡ Some l → IsUnderWay s y m → IsUnderWay s y (darkened m l)
  under_way_darkens a at u = record {
    cover = record u.cover { marks = darkened u.cover.marks l };
    covered = cover_darkens u.cover u.covered l (u.placed a l at);
    now = u.now;
    marks = ap (λ z. darkened z l) u.marks;
    held = u.held;
    live = u.live;
    leads = u.leads;
    placed = u.placed;
  }

  known_darkens : (pass : Pass) (a : ℕ) → y.live a ≡ Some l → Known pass s y m → Known pass s y (darkened m l)
  known_darkens First a at known = ⊎_elim (λ i. inl (rooted_darkens i)) (λ u. inr (under_way_darkens a at u)) known
  known_darkens Second a at known = rooted_darkens known

  module _ (fields : FieldsMarked s.graph m.marked l) where
    rooted_scans : IsRooted s m → IsRooted s (with_scanned m l)
    rooted_scans i = record { traced = scan_traced s.graph m l fields i.traced; rooted = i.rooted }

    under_way_scans : IsUnderWay s y m → IsUnderWay s y (with_scanned m l)
    under_way_scans u = record {
      cover = record u.cover { marks = with_scanned u.cover.marks l };
      covered = cover_scans u.cover u.covered l
          (subst (λ (z : Marks). FieldsMarked u.cover.now z.marked l) (sym u.marks) (subst (λ g. FieldsMarked g m.marked l) (sym u.now) fields));
      now = u.now;
      marks = ap (λ z. with_scanned z l) u.marks;
      held = u.held;
      live = u.live;
      leads = u.leads;
      placed = u.placed;
    }

    known_scans : (pass : Pass) → Known pass s y m → Known pass s y (with_scanned m l)
    known_scans First known = ⊎_elim (λ i. inl (rooted_scans i)) (λ u. inr (under_way_scans u)) known
    known_scans Second known = rooted_scans known

-- where nothing is grey and the data follows, the marked blocks are closed and hold the roots
module _ (s : State) (y : Layout) (m : Marks) (none : NoneGrey m) (follows : DataFollows s.graph m.marked) where
  rooted_closed : IsRooted s m → HoldsRoots (roots s (queues s)) m.marked × IsClosedUnder s.graph m.marked
  rooted_closed i = (i.rooted, closed_when s.graph m i.traced none follows)

  under_way_closed : IsUnderWay s y m → HoldsRoots (roots s (queues s)) m.marked × IsClosedUnder s.graph m.marked
  under_way_closed u =
      let none' : NoneGrey u.cover.marks = subst NoneGrey (sym u.marks) none in
      let follows' : DataFollows u.cover.now u.cover.marks.marked =
      subst (λ (z : Marks). DataFollows u.cover.now z.marked) (sym u.marks) (subst (λ g. DataFollows g m.marked) (sym u.now) follows) in
      let t = cover_closed u.cover u.covered none' follows' (roots s (queues s)) u.held u.live (λ l n place at. u.leads l n place (subst (λ g. node_at g l ≡ Some n) u.now at)) in (
        subst (λ (z : Marks). HoldsRoots (roots s (queues s)) z.marked) u.marks t.0,
        subst (λ (z : Marks). IsClosedUnder s.graph z.marked) u.marks (subst (λ g. IsClosedUnder g u.cover.marks.marked) u.now t.1),
      )

  known_closed : (pass : Pass) → Known pass s y m → HoldsRoots (roots s (queues s)) m.marked × IsClosedUnder s.graph m.marked
  known_closed First known = ⊎_elim (λ i. rooted_closed i) (λ u. under_way_closed u) known
  known_closed Second known = rooted_closed known

known_rooted : (pass : Pass) (s : State) (y : Layout) (m : Marks) → IsRooted s m → Known pass s y m
known_rooted First s y m i = inl i
known_rooted Second s y m i = i

-- the roots of whoever has arrived stay marked as a block is darkened, and as another arrives whose roots are marked
module _ (s : State) (marked : Label → Bool) (w : Shares) (i : InRoots s marked w) where
  in_roots_more : (other : Label → Bool) → More marked other → InRoots s other w
  in_roots_more other more d h = let was = i d h in record {
    registers = holds_more marked other more (filter_map label_of (domain_at s d).registers) was.registers;
    queue = holds_more marked other more (filter_map pending_label (domain_at s d).queue) was.queue;
  }

  in_roots_arrives : (d : ℕ) → RootsMarked s marked d → InRoots s marked (arrives w d)
  in_roots_arrives d own j h = ⊎_elim
      (λ t. subst (RootsMarked s marked) (sym t.0) own)
      (λ t. i j (subst (λ b. IsTrue b) t.1 h))
      (at_cases w.arrived d true j)

module _ (pass : Pass) (n : ℕ) (s : State) (c : Cycle) where
  whole_darkens : (d k a : ℕ) (l : Label) → Darkens n s c d k a l → WholeFrom (roots s (queues s)) s c.whole c.marks.marked
      → WholeFrom (roots s (queues s)) s c.whole (darkened c.marks l).marked
  whole_darkens d k a l may whole is = darken_whole s.graph (roots s (queues s)) c.marks may.graph (whole is) l (may.may is)

  -- Roots, in both passes
  pub roots_scans : InPhase (Roots pass) n s c → (l : Label) → FieldsMarked s.graph c.marks.marked l → InPhase (Roots pass) n s (with_marks c (with_scanned c.marks l))
  roots_scans i l fields = record {
    traced = scan_traced s.graph c.marks l fields i.traced;
    owned = i.owned;
    whole = i.whole;
    passed = i.passed;
    marked = i.marked;
    queued = i.queued;
  }

  -- Mark
  module _ (i : InPhase (Mark pass) n s c) where
    pub mark_darkens : OnePlaceEach c.layout → (d k a : ℕ) (l : Label) → Darkens n s c d k a l → InPhase (Mark pass) n s (with_shares (with_marks c (darkened c.marks l)) (following c.shares d a))
    mark_darkens one d k a l may = record {
      known = known_darkens s c.layout c.marks l pass a may.lives i.known;
      whole = whole_darkens d k a l may i.whole;
      passed = passed_more pass s c.whole c.marks.marked (darkened c.marks l).marked (darkened_more c.marks l) i.passed;
      mark = shares_darken n c.layout c.marks c.shares i.mark one d k a l may.inside may.owner_inside may.lives may.owned may.unmarked may.acts;
    }

    pub mark_settles : (d a : ℕ) → ((l : Label) → c.layout.live a ≡ Some l → IsTrue (c.marks.marked l) → IsTrue (c.marks.scanned l))
        → InPhase (Mark pass) n s (with_shares c (settles c.shares d a))
    mark_settles d a scanned = record {
      known = i.known;
      whole = i.whole;
      passed = i.passed;
      mark = shares_settle n c.layout c.marks c.shares i.mark d a scanned;
    }

    pub mark_scans : (l : Label) → FieldsMarked s.graph c.marks.marked l → InPhase (Mark pass) n s (with_marks c (with_scanned c.marks l))
    mark_scans l fields = record {
      known = known_scans s c.layout c.marks l fields pass i.known;
      whole = i.whole;
      passed = i.passed;
      mark = shares_scan n c.layout c.marks c.shares i.mark l;
    }

    pub mark_stores : (d : ℕ) → InPhase (Mark pass) n s (with_shares c (stored_changed c.shares d))
    mark_stores d = record {
      known = i.known;
      whole = i.whole;
      passed = i.passed;
      mark = shares_store n c.layout c.marks c.shares i.mark d;
    }

    pub mark_looks : (d a : ℕ) → c.layout.owner a ≡ Some d → ((l : Label) → c.layout.live a ≡ Some l → IsTrue (c.marks.marked l) → IsTrue (c.marks.scanned l))
        → InPhase (Mark pass) n s (with_shares c (sees c.shares d a))
    mark_looks d a at scanned = record {
      known = i.known;
      whole = i.whole;
      passed = i.passed;
      mark = mark_sees n c.layout c.marks c.shares i.mark d a at scanned;
    }

    pub mark_arrives : (d : ℕ) → ArrivesMarking c d → InPhase (Mark pass) n s (with_shares c (arrives c.shares d))
    mark_arrives d may = record {
      known = i.known;
      whole = i.whole;
      passed = i.passed;
      mark = shares_arrive n c.layout c.marks c.shares i.mark d may.settled may.all;
    }

    -- to Mark again, and to Rounds
    pub mark_mark : (changed : Bool) → InPhase (Mark pass) n s (with_shares c (reset_shares changed))
    mark_mark changed = record {
      known = i.known;
      whole = i.whole;
      passed = i.passed;
      mark = mark_start n c.layout c.marks i.mark.owned changed;
    }

    pub mark_rounds : AllArrived n c.shares → c.shares.changed ≡ false → InPhase (Rounds pass) n s (record c { shares = no_shares; before = c.marks.marked })
    mark_rounds arrived unchanged = record {
      known = i.known;
      whole = i.whole;
      passed = i.passed;
      rounds = rounds_start n c.layout s.graph c.marks i.mark.owned (mark_end n c.layout c.marks c.shares i.mark arrived unchanged);
    }

  -- Rounds
  module _ (i : InPhase (Rounds pass) n s c) where
    pub rounds_darkens : (d k a : ℕ) (l : Label) → Darkens n s c d k a l → InPhase (Rounds pass) n s (with_shares (with_marks c (darkened c.marks l)) (owing c.shares d))
    rounds_darkens d k a l may = record {
      known = known_darkens s c.layout c.marks l pass a may.lives i.known;
      whole = whole_darkens d k a l may i.whole;
      passed = passed_more pass s c.whole c.marks.marked (darkened c.marks l).marked (darkened_more c.marks l) i.passed;
      rounds = rounds_darken n c.layout s.graph c.before c.marks c.shares i.rounds d k a l may.inside may.owner_inside may.lives may.owned may.unmarked may.acts;
    }

    pub rounds_scans : (l : Label) → FieldsMarked s.graph c.marks.marked l → InPhase (Rounds pass) n s (with_marks c (with_scanned c.marks l))
    rounds_scans l fields = record {
      known = known_scans s c.layout c.marks l fields pass i.known;
      whole = i.whole;
      passed = i.passed;
      rounds = rounds_scan n c.layout s.graph c.before c.marks c.shares i.rounds l;
    }

    pub rounds_stores : (d : ℕ) → InPhase (Rounds pass) n s (with_shares c (stored_changed c.shares d))
    rounds_stores d = record {
      known = i.known;
      whole = i.whole;
      passed = i.passed;
      rounds = rounds_store n c.layout s.graph c.before c.marks c.shares i.rounds d;
    }

    pub rounds_settles : (d a : ℕ) → InPhase (Rounds pass) n s (with_shares c (settles c.shares d a))
    rounds_settles d a = record {
      known = i.known;
      whole = i.whole;
      passed = i.passed;
      rounds = let r = i.rounds in record { shares = record { own = r.shares.own; all = r.shares.all }; owned = r.owned; paid = r.paid; stays = r.stays; scanned = r.scanned; same = λ quiet. r.same (record { unchanged = quiet.unchanged; paid = quiet.paid }); data_marked = r.data_marked };
    }

    pub rounds_looks : (d a : ℕ) → c.layout.owner a ≡ Some d → ((l : Label) → c.layout.live a ≡ Some l → IsTrue (c.before l) → KeysMarked s.graph c.before l → DataMarked s.graph c.marks.marked l)
        → InPhase (Rounds pass) n s (with_shares c (sees c.shares d a))
    rounds_looks d a at follows = record {
      known = i.known;
      whole = i.whole;
      passed = i.passed;
      rounds = rounds_sees n c.layout s.graph c.before c.marks c.shares i.rounds d a at follows;
    }

    pub rounds_arrives : (d : ℕ) → Arrives c d → InPhase (Rounds pass) n s (with_shares c (arrives c.shares d))
    rounds_arrives d may = record {
      known = i.known;
      whole = i.whole;
      passed = i.passed;
      rounds = rounds_arrive n c.layout s.graph c.before c.marks c.shares i.rounds d may.paid may.all;
    }

    -- to Mark
    pub rounds_mark : (changed : Bool) → InPhase (Mark pass) n s (with_shares c (reset_shares changed))
    rounds_mark changed = record {
      known = i.known;
      whole = i.whole;
      passed = i.passed;
      mark = mark_start n c.layout c.marks i.rounds.owned changed;
    }

    -- at the end the marked blocks are closed and hold the roots
    rounds_closed : AllArrived n c.shares → c.shares.changed ≡ false → HoldsRoots (roots s (queues s)) c.marks.marked × IsClosedUnder s.graph c.marks.marked
    rounds_closed arrived unchanged =
        let t = rounds_end n c.layout s.graph c.before c.marks c.shares i.rounds arrived unchanged in
        known_closed s c.layout c.marks t.0 t.1 pass i.known

  -- to Mark from Roots, in both passes
  pub roots_mark : n ≡ length s.domains → InPhase (Roots pass) n s c → AllArrived n c.shares
      → (changed : Bool) → InPhase (Mark pass) n s (with_shares c (reset_shares changed))
  roots_mark count i arrived changed = record {
    known = known_rooted pass s c.layout c.marks
        (record { traced = i.traced; rooted = roots_end s c.marks.marked c.shares i.marked (subst (λ z. AllArrived z c.shares) count arrived) });
    whole = i.whole;
    passed = i.passed;
    mark = mark_start n c.layout c.marks i.owned changed;
  }

module _ (n : ℕ) (s : State) (c : Cycle) where
  -- the first Roots
  module _ (i : InPhase (Roots First) n s c) where
    pub roots_darkens : (d k a : ℕ) (l : Label) → Darkens n s c d k a l → InPhase (Roots First) n s (with_marks c (darkened c.marks l))
    roots_darkens d k a l may = record {
      traced = darken_traced s.graph c.marks l i.traced;
      owned = owned_darkened n c.layout c.marks l k a may.owner_inside may.lives may.owned i.owned;
      whole = whole_darkens First n s c d k a l may i.whole;
      passed = i.passed;
      marked = in_roots_more s c.marks.marked c.shares i.marked (darkened c.marks l).marked (darkened_more c.marks l);
      queued = tt;
    }

    pub roots_arrives : (d : ℕ) → RootsMarked s c.marks.marked d → InPhase (Roots First) n s (with_shares c (arrives c.shares d))
    roots_arrives d own = record {
      traced = i.traced;
      owned = i.owned;
      whole = i.whole;
      passed = i.passed;
      marked = in_roots_arrives s c.marks.marked c.shares i.marked d own;
      queued = tt;
    }

  pub begins : s.mode ≡ Open → ((l : Label) → c.marks.marked l ≡ false) → InPhase (Roots First) n s (with_shares c no_shares)
  begins open_mode none = record {
    traced = λ l h. absurd (never (c.marks.marked l) (none l) h);
    owned = λ l h. absurd (never (c.marks.marked l) (none l) h);
    whole = λ is l h. absurd (never (c.marks.marked l) (none l) h);
    passed = open_mode;
    marked = λ d h. cc;
    queued = tt;
  }

  -- or it was under way
  pub goes_on : c.whole ≡ false → s.mode ≡ Open → AllOwned n c.layout c.marks.marked → IsUnderWay s c.layout c.marks
      → (changed : Bool) → InPhase (Mark First) n s (with_shares c (reset_shares changed))
  goes_on not_whole open_mode owned u changed = record {
    known = inr u;
    whole = λ is. absurd (never c.whole not_whole is);
    passed = open_mode;
    mark = mark_start n c.layout c.marks owned changed;
  }

  -- the entry Cut
  pub rounds_decide : InPhase (Rounds First) n s c → AllArrived n c.shares → c.shares.changed ≡ false
      → Allowed s Cut × InPhase Decide n (next s Cut) (record c { shares = no_shares; left = λ d. length (domain_at s d).finals })
  rounds_decide i arrived unchanged =
      let t = rounds_closed First n s c i arrived unchanged in (
        i.passed,
        record {
          owned = i.rounds.owned;
          whole = λ is. deciding.whole_start s c.marks.marked (i.whole is);
          stays = deciding.cut_stays_start s;
          decide = deciding.decide_start s c.marks.marked t.1 t.0;
          through = λ d h. cc;
        },
      )

  -- Decide
  module _ (i : InPhase Decide n s c) where
    pub decide_keeps : (d p : ℕ) (f : Finaliser) → c.left d ≡ suc p → slice_get (domain_at s d).finals p ≡ Some f → IsTrue (c.marks.marked f.label)
        → InPhase Decide n s (record c { left = at_domain c.left d p })
    decide_keeps d p f place at is = record {
      owned = i.owned;
      whole = i.whole;
      stays = i.stays;
      decide = deciding.decide_keeps s c.marks.marked c.left i.decide d p f place at is;
      through = through_looks c.shares.arrived c.left d i.through p place;
    }

    pub decide_queues : (d p : ℕ) (f : Finaliser) → c.left d ≡ suc p → slice_get (domain_at s d).finals p ≡ Some f → IsTrue (not (c.marks.marked f.label))
        → d < length s.domains → Allowed s (Queue d (p ∷ [])) × InPhase Decide n (next s (Queue d (p ∷ []))) (record c { left = at_domain c.left d p })
    decide_queues d p f place at un inside = (
      deciding.queue_allowed s c.marks.marked c.left i.decide d p f place at un,
      record {
        owned = i.owned;
        whole = λ is. deciding.whole_queues s c.marks.marked d (p ∷ []) (i.whole is);
        stays = deciding.cut_stays_grow s d (with_queued (domain_at s d) (p ∷ [])) _ refl refl i.stays;
        decide = deciding.decide_queues s c.marks.marked c.left i.decide d p f place at un inside;
        through = through_looks c.shares.arrived c.left d i.through p place;
      },
    )

    pub decide_arrives : (d : ℕ) → c.left d ≡ 0 → InPhase Decide n s (with_shares c (arrives c.shares d))
    decide_arrives d none = record {
      owned = i.owned;
      whole = i.whole;
      stays = i.stays;
      decide = i.decide;
      through = through_arrives c.shares.arrived c.left d i.through none;
    }

    pub decide_queued : n ≡ length s.domains → AllArrived n c.shares → InPhase (Roots Second) n s (with_shares c no_shares)
    decide_queued count arrived =
        let decided : IsDecided s c.marks.marked =
        deciding.decide_end s c.marks.marked c.left i.decide (λ d lt. i.through d (arrived d (subst (λ z. d < z) (sym count) lt))) in
        record {
          traced = λ l marked scanned. held_fields c.marks.marked c.marks.marked (node_at s.graph l) (λ x h. i.decide.closed l x marked h);
          owned = i.owned;
          whole = λ is. (deciding.whole_end s c.marks.marked decided i.stays (i.whole is)).1;
          passed = record {
            decided = decided;
            waiting = λ is. (deciding.whole_end s c.marks.marked decided i.stays (i.whole is)).0;
            stays = i.stays;
            rooted = i.decide.roots;
          };
          marked = λ d h. cc;
          queued = queued_start n s c.marks.marked i.decide.closed;
        }

  -- in the second Roots a domain has its own queue to darken: its registers were marked at the cut
  module _ (i : InPhase (Roots Second) n s c) where
    pub queued_darkens : (d k a : ℕ) (l : Label) → Darkens n s c d k a l → InPhase (Roots Second) n s (with_shares (with_marks c (darkened c.marks l)) (owing c.shares d))
    queued_darkens d k a l may = record {
      traced = darken_traced s.graph c.marks l i.traced;
      owned = owned_darkened n c.layout c.marks l k a may.owner_inside may.lives may.owned i.owned;
      whole = whole_darkens Second n s c d k a l may i.whole;
      passed = passed_more Second s c.whole c.marks.marked (darkened c.marks l).marked (darkened_more c.marks l) i.passed;
      marked = in_roots_more s c.marks.marked c.shares i.marked (darkened c.marks l).marked (darkened_more c.marks l);
      queued = queued_owing n s c.marks.marked c.shares i.queued d (darkened c.marks l).marked may.inside may.acts;
    }

    pub queued_stores : (d : ℕ) → InPhase (Roots Second) n s (with_shares c (stored_changed c.shares d))
    queued_stores d = record {
      traced = i.traced;
      owned = i.owned;
      whole = i.whole;
      passed = i.passed;
      marked = i.marked;
      queued = queued_stored n s c.marks.marked c.shares i.queued d;
    }

    pub queued_arrives : (d : ℕ) → c.shares.owes d ≡ false → HoldsRoots (filter_map pending_label (domain_at s d).queue) c.marks.marked
        → InPhase (Roots Second) n s (with_shares c (arrives c.shares d))
    queued_arrives d paid queue = record {
      traced = i.traced;
      owned = i.owned;
      whole = i.whole;
      passed = i.passed;
      marked = in_roots_arrives s c.marks.marked c.shares i.marked d (record {
        registers = λ l h. i.passed.rooted l (has-append_left (flat_map (λ x. filter_map label_of x.registers) s.domains) (flat_map (filter_map pending_label) s.cut) l
            (part_has (λ x. filter_map label_of x.registers) s.domains d refl l h));
        queue = queue;
      });
      queued = queued_arrived n s c.marks.marked c.shares i.queued d paid;
    }

  -- the entry Seal, where what is marked is closed and holds the roots
  sealed_clean : AllOwned n c.layout c.marks.marked → WholeFrom (roots s (queues s)) s c.whole c.marks.marked → IsPastDecide s c.whole c.marks.marked
      → HoldsRoots (roots s (queues s)) c.marks.marked → IsClosedUnder s.graph c.marks.marked → Allowed s Seal × InPhase Clean n (next s Seal) (with_shares c no_shares)
  sealed_clean owned whole passed rooted closed = (
    passed.decided.seal,
    record {
      whole = λ is. cleaning.whole_seal s c.marks.marked (whole is);
      waiting = λ is. cleaning.waiting_seal s (passed.waiting is);
      stays = cleaning.cut_stays_seal s passed.stays;
      clean = cleaning.clean_start n c.layout s c.marks.marked owned (record { roots = rooted; waiting = passed.decided.waiting; closed = closed });
    },
  )

  pub queued_clean : n ≡ length s.domains → InPhase (Roots Second) n s c → AllArrived n c.shares → c.shares.changed ≡ false
      → Allowed s Seal × InPhase Clean n (next s Seal) (with_shares c no_shares)
  queued_clean count i arrived unchanged = sealed_clean i.owned i.whole i.passed
      (roots_end s c.marks.marked c.shares i.marked (subst (λ z. AllArrived z c.shares) count arrived))
      (queued_end n s c.marks.marked c.shares i.queued arrived unchanged)

  pub rounds_clean : InPhase (Rounds Second) n s c → AllArrived n c.shares → c.shares.changed ≡ false
      → Allowed s Seal × InPhase Clean n (next s Seal) (with_shares c no_shares)
  rounds_clean i arrived unchanged =
      let t = rounds_closed Second n s c i arrived unchanged in
      sealed_clean i.rounds.owned i.whole i.passed t.0 t.1

  -- Clean
  module _ (i : InPhase Clean n s c) where
    pub clean_wipes : (l : Label) (places : List ℕ) (keys : List (Option Label)) (datum : Value) → node_at s.graph l ≡ Some (Ephe keys datum) → IsTrue (is_rising places)
        → IsTrue (list_all (λ p. is_some_and (is_some_and (λ k. not (c.marks.marked k))) (slice_get keys p)) places)
        → Allowed s (Wipe l places) × InPhase Clean n (next s (Wipe l places)) c
    clean_wipes l places keys datum node rising un = (
      cleaning.wipe_allowed n c.layout s c.marks.marked c.shares i.clean l places keys datum node rising un,
      record {
        clean = cleaning.clean_wipes n c.layout s c.marks.marked c.shares i.clean l places keys datum node rising un;
        whole = λ is. cleaning.wipe_whole n c.layout s c.marks.marked c.shares i.clean l places keys datum node rising un (i.whole is);
        waiting = λ is. cleaning.wipe_waiting n c.layout s c.marks.marked c.shares i.clean l places keys datum node rising un i.stays (i.waiting is);
        stays = cleaning.wipe_cut_stays n c.layout s c.marks.marked c.shares i.clean l places keys datum node rising un i.stays;
      },
    )

    pub clean_wiped : (l : Label) (places : List ℕ) (keys : List (Option Label)) (datum : Value) → node_at s.graph l ≡ Some (Ephe keys datum) → IsTrue (is_rising places)
        → IsTrue (list_all (λ p. is_some_and (is_some_and (λ k. not (c.marks.marked k))) (slice_get keys p)) places)
        → ((p : ℕ) (k : Label) → slice_get keys p ≡ Some (Some k) → list_any (λ q. eqb q p) places ≡ false → IsTrue (c.marks.marked k))
        → KeysMarked (next s (Wipe l places)).graph c.marks.marked l
    clean_wiped = cleaning.wipe_cleans n c.layout s c.marks.marked c.shares i.clean

    pub clean_looks : (d a : ℕ) → c.layout.owner a ≡ Some d → ((l : Label) → c.layout.live a ≡ Some l → IsTrue (c.marks.marked l) → KeysMarked s.graph c.marks.marked l)
        → InPhase Clean n s (with_shares c (sees c.shares d a))
    clean_looks d a at keys = record {
      clean = cleaning.clean_sees n c.layout s c.marks.marked c.shares i.clean d a at keys;
      whole = i.whole;
      waiting = i.waiting;
      stays = i.stays;
    }

    pub clean_arrives : (d : ℕ) → SeesAll c d → InPhase Clean n s (with_shares c (arrives c.shares d))
    clean_arrives d all = record {
      clean = cleaning.clean_arrives n c.layout s c.marks.marked c.shares i.clean d all;
      whole = i.whole;
      waiting = i.waiting;
      stays = i.stays;
    }

    pub clean_lasts : AllArrived n c.shares → InPhase Lasts n s (record c { shares = no_shares; left = λ d. length (domain_at s d).lasts })
    clean_lasts arrived = record {
      owned = i.clean.owned;
      whole = i.whole;
      waiting = i.waiting;
      lasts = leaving.lasts_start n c.layout s c.marks.marked c.shares i.clean arrived;
      through = λ d h. cc;
    }

  -- Lasts
  module _ (i : InPhase Lasts n s c) where
    pub lasts_keeps : (d p : ℕ) (f : LastFinaliser) → c.left d ≡ suc p → slice_get (domain_at s d).lasts p ≡ Some f → IsTrue (c.marks.marked f.label)
        → InPhase Lasts n s (record c { left = at_domain c.left d p })
    lasts_keeps d p f place at is = record {
      owned = i.owned;
      whole = i.whole;
      waiting = i.waiting;
      lasts = leaving.lasts_keeps s c.marks.marked c.left i.lasts d p f place at is;
      through = through_looks c.shares.arrived c.left d i.through p place;
    }

    pub lasts_queues : (d p : ℕ) (f : LastFinaliser) → c.left d ≡ suc p → slice_get (domain_at s d).lasts p ≡ Some f → IsTrue (not (c.marks.marked f.label))
        → d < length s.domains → Allowed s (LastOf d p) × InPhase Lasts n (next s (LastOf d p)) (record c { left = at_domain c.left d p })
    lasts_queues d p f place at un inside = (
      leaving.last_allowed s c.marks.marked c.left i.lasts d p f place at un,
      record {
        owned = i.owned;
        whole = λ is. leaving.last_whole s c.marks.marked c.left i.lasts d p f place at un inside (i.whole is);
        waiting = λ is. leaving.last_waiting s c.marks.marked c.left i.lasts d p f place at un inside (i.waiting is);
        lasts = leaving.lasts_queues s c.marks.marked c.left i.lasts d p f place at un inside;
        through = through_looks c.shares.arrived c.left d i.through p place;
      },
    )

    pub lasts_arrives : (d : ℕ) → c.left d ≡ 0 → InPhase Lasts n s (with_shares c (arrives c.shares d))
    lasts_arrives d none = record {
      owned = i.owned;
      whole = i.whole;
      waiting = i.waiting;
      lasts = i.lasts;
      through = through_arrives c.shares.arrived c.left d i.through none;
    }

    -- the rotation of the colours
    pub lasts_sweep : n ≡ length s.domains → AllArrived n c.shares → LeadsToMarked s c.marks.marked × InPhase Sweep n s (with_shares c no_shares)
    lasts_sweep count arrived =
        let kept = leaving.lasts_end s c.marks.marked c.left i.lasts (λ d lt. i.through d (arrived d (subst (λ z. d < z) (sym count) lt))) in (
          leaving.leads_to_marked s c.marks.marked kept,
          record {
            sealed = subst (λ m. IsTrue (is_sealed m)) (sym i.lasts.mode) refl;
            owned = i.owned;
            whole = i.whole;
            waiting = i.waiting;
            kept = kept;
          },
        )

  -- the entries that end a collection
  module _ (i : InPhase Sweep n s c) where
    pub sweep_collected : IsTrue c.whole → s.mode ≡ Sealed → Allowed s Collected × InPhase Sweep n (next s Collected) c
    sweep_collected whole mode = (
      leaving.collected_left s c.marks.marked mode i.kept (i.whole whole) (i.waiting whole),
      record {
        sealed = refl;
        owned = i.owned;
        whole = λ is. subst (λ z. IsWhole s.graph z c.marks.marked) (sym (cleaning.roots_mapped_now s freshened (λ x. refl) (λ x. refl))) (i.whole is);
        waiting = λ is l h. subst (λ z. IsTrue (is_reachable s.graph z l)) (sym (cleaning.roots_mapped s freshened (λ x. refl) (λ x. refl) s.cut))
            (i.waiting is l (subst (λ z. IsTrue (has_label z l)) (cleaning.part_mapped (λ x. map (λ f. f.label) x.finals) freshened (λ x. refl) s.domains) h));
        kept = leaving.left_collected s c.marks.marked i.kept;
      },
    )

    pub sweep_answers : (d : ℕ) → InPhase Sweep n (next s (CommandOf d FullMajor false)) c
    sweep_answers d = record {
      sealed = i.sealed;
      owned = i.owned;
      whole = λ is. subst (λ z. IsWhole s.graph z c.marks.marked) (sym (leaving.asked_roots s d)) (i.whole is);
      waiting = λ is l h. subst (λ z. IsTrue (is_reachable s.graph (z ++ flat_map (filter_map pending_label) s.cut) l))
          (sym (part_same (λ x. filter_map label_of x.registers) s.domains d (leaving.asked s d) refl))
          (i.waiting is l (subst (λ z. IsTrue (has_label z l)) (part_same (λ x. map (λ f. f.label) x.finals) s.domains d (leaving.asked s d) refl) h));
      kept = leaving.left_full_major s c.marks.marked d i.kept;
    }

    pub sweep_done : Allowed s Done
    sweep_done = leaving.done_left s c.marks.marked i.sealed i.kept

pub darkening_steps : DarkeningSteps
darkening_steps = record {
  roots_darkens = roots_darkens;
  roots_arrives = roots_arrives;
  queued_darkens = queued_darkens;
  queued_stores = queued_stores;
  queued_arrives = queued_arrives;
  mark_darkens = mark_darkens;
  mark_settles = mark_settles;
  mark_scans = mark_scans;
  roots_scans = roots_scans;
  rounds_scans = rounds_scans;
  mark_stores = mark_stores;
  mark_looks = mark_looks;
  mark_arrives = mark_arrives;
  rounds_darkens = rounds_darkens;
  rounds_settles = rounds_settles;
  rounds_stores = rounds_stores;
  rounds_looks = rounds_looks;
  rounds_arrives = rounds_arrives;
}

pub taking_steps : TakingSteps
taking_steps = record {
  decide_keeps = decide_keeps;
  decide_queues = decide_queues;
  decide_arrives = decide_arrives;
  clean_wipes = clean_wipes;
  clean_wiped = clean_wiped;
  clean_looks = clean_looks;
  clean_arrives = clean_arrives;
  lasts_keeps = lasts_keeps;
  lasts_queues = lasts_queues;
  lasts_arrives = lasts_arrives;
}

pub phase_steps : PhaseSteps
phase_steps = record {
  begins = begins;
  goes_on = goes_on;
  roots_mark = roots_mark;
  mark_mark = mark_mark;
  mark_rounds = mark_rounds;
  rounds_mark = rounds_mark;
  rounds_decide = rounds_decide;
  decide_queued = λ n s k count i. decide_queued n s k i count;
  queued_clean = queued_clean;
  rounds_clean = rounds_clean;
  clean_lasts = clean_lasts;
  lasts_sweep = λ n s k count i. lasts_sweep n s k i count;
  sweep_collected = λ n s k whole mode i. sweep_collected n s k i whole mode;
  sweep_answers = λ n s k d i. sweep_answers n s k i d;
  sweep_done = sweep_done;
}
