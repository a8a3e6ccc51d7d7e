-- A load of the armed word, and a store in it in an odd phase, keep the rule.
use Rattle.std.proofs.Common.{◌≡◌, ◌≢◌, ℕ, ◌+◌, ◌<◌, ◌≤◌, ◌⊎◌, Bool, true, false, true≢false, List, [], length, get_or, set, Some, sym, refl, ap, ◌∙◌, subst, inl, inr, ⊎_elim, arith, length-set, get_or-set_same, get_or-set_other}
use mathlib.Core.Option.{some}
use lib.ListN.{get_elem?}
use Rattle.std.proofs.lemmas.Option.{same_Some}
use Rattle.atomic_table.specs.Table.{keeps}
use Rattle.model_core.specs.declared.entry.Entry.{Entry}
use Rattle.model_core.specs.declared.state.State as model
use Rattle.model_cycle.specs.Beside.{Snapshot}
use Rattle.heap_rule.specs.declared.config.Config.{Config}
use Rattle.heap_rule.specs.declared.phase.Kind.{Kind}
use Rattle.heap_rule.specs.declared.phase.Kind.TheVariants.{Run, Roots, Lasts, Answer}
use Rattle.heap_rule.specs.declared.phase.Stage.{Stage}
use Rattle.heap_rule.specs.declared.phase.Stage.TheVariants.{In, Leads, Led, Gone}
use Rattle.heap_rule.specs.declared.view.DomainView.{DomainView}
use Rattle.heap_rule.specs.declared.view.Listing.{Listing}
use Rattle.heap_rule.specs.declared.view.Share.{Share}
use Rattle.heap_rule.specs.Beside.{RunsBeside}
use Rattle.heap_rule.specs.Copies.{Promoting}
use Rattle.heap_rule.specs.Cycles.{Cycled, Cycling, Facts, HasNoCycle, IsCollecting, IsIdle, IsSwept, Knowing, Leading, MayLook, MissesKeys}
use Rattle.heap_rule.specs.Layout.{at_address, before_heap, cursor, heap_words, listed}
use Rattle.heap_rule.specs.Phases.{AtStage, IsOdd, Staged, flag}
use Rattle.heap_rule.specs.Pools.{Hunter, IsLeading, Lists, Reserved, limit_of}
use Rattle.heap_rule.specs.Raw.{MayStep, MayStore}
use Rattle.heap_rule.specs.Rule.{Account, Good, Rule, Sharing, state_of}
use Rattle.heap_rule.specs.Views.{one}
use Rattle.heap_rule.proofs.BesideLemmas.{runs_unaware}
use Rattle.heap_rule.proofs.Holders.{Agrees, agrees_set, found_heap, grid_heap, hunter_agree, making_heap, same_self}
use Rattle.heap_rule.proofs.Keeps.{whole_stays, Words, covered_words, hunter_as, knows_front, lists_same, my_good, opened_words, owes_as, phases_words, pools_words, remakes, resting_as, resting_lists, room_words, unmoved}
use Rattle.heap_rule.proofs.PauseFacts.{not_both}
use Rattle.heap_rule.proofs.Sharings.{knows_words}
use Rattle.step_marks.specs.Marking.Arming.{ArmMay, ArmedTold, knowing_armed}
use Rattle.step_marks.specs.Marking.Looks.{with_share}
use Rattle.step_marks.proofs.OfMarking.Learning.{learns, sharing_learnt}
use Rattle.step_marks.proofs.OfMarking.Pausing.{paused_unaware}
use Rattle.step_marks.proofs.OfMarking.Unswept.{IsTracing, swept_tracing}

-- the kinds of phase after which the word may be written
abbrev ArmsIn : Kind → Type 0
ArmsIn kind = (kind ≡ Roots) ⊎ ((kind ≡ Lasts) ⊎ (kind ≡ Answer))

module _ (k : Config) (s : Words) (r : Rule k s) (id : ℕ) (hist : List Entry) (x : DomainView) (at : get_elem? s.views id ≡ some (one k hist x)) where
  abbrev c : Cycling
  c = r.account.cycling

  abbrev now : model.State
  now = state_of k r.account.log

  good : Good k r.account s.words x
  good = my_good k s r id hist x at

  abbrev learnt : Share
  learnt = record x.seen.share { armed = Some c.armed }

  learnt_sharing : MayLook x.own.number x.seen.stage → Sharing k r.account s.words x.own.number x.own.registers x.own.finalisers x.own.ephemerons.items x.seen.stage learnt
  learnt_sharing may = let sh = x.seen.share in let h = good.sharing in sharing_learnt k s r id hist x at sh.colours (Some c.armed) sh.changed sh.blocks sh.reaping sh.swept
      h.telling.forgotten h.telling.colours (λ b e. (may, sym (same_Some c.armed b e))) h.leading.changed h.leading.found_blocks

  armed_rule : MayLook x.own.number x.seen.stage → Rule k record { words = s.words; homes = s.homes; views = set s.views id (one k hist (with_share x learnt)) }
  armed_rule may = learns k s r id hist x at learnt (learnt_sharing may) good.sweeps

  module _ (armed : Bool) (may : ArmMay x armed) where
    -- the phase is odd, and what holds is still what the last one left: in it the roots were darkened, or it was the last of a collection
    record Arms : Type 0 where
      odd : IsOdd r.account.pause.phase
      kind : ArmsIn c.kind
      leads : IsLeading x.seen.stage

    arms_at : (last : Kind) → x.seen.stage ≡ Leads last → (c.kind ≡ last → ArmsIn c.kind) → Arms
    arms_at last stage kind =
        let a : AtStage r.account.pause x.own.number x.own.arrivals (Leads last) = subst (AtStage r.account.pause x.own.number x.own.arrivals) stage good.staged.stage in
        record { odd = (a.1.0, a.1.1); kind = kind (sym (r.whole.cycle.told.odd a.1.0 a.1.1 (a.2 may.leads)).0 ∙ a.1.2); leads = subst IsLeading (sym stage) tt }

    arms : Arms
    arms = ⊎_elim
        (λ (h : (x.seen.stage ≡ Leads Roots) × (armed ≡ true)). arms_at Roots h.0 (λ e. inl e))
        (λ (h : ((x.seen.stage ≡ Leads Lasts) ⊎ (x.seen.stage ≡ Leads Answer)) × (armed ≡ false)). ⊎_elim
        (λ (e : x.seen.stage ≡ Leads Lasts). arms_at Lasts e (λ f. inr (inl f)))
        (λ (e : x.seen.stage ≡ Leads Answer). arms_at Answer e (λ f. inr (inr f)))
        h.0)
        may.stage

    no_run : c.kind ≡ Run → ⊥
    no_run e = ⊎_elim (λ (f : c.kind ≡ Roots). let clash : Roots ≡ Run = sym f ∙ e in cc)
        (⊎_elim (λ (f : c.kind ≡ Lasts). let clash : Lasts ≡ Run = sym f ∙ e in cc) (λ (f : c.kind ≡ Answer). let clash : Answer ≡ Run = sym f ∙ e in cc)) arms.kind

    no_cycle : HasNoCycle c.kind → ⊥
    no_cycle none = ⊎_elim (λ (f : c.kind ≡ Roots). subst HasNoCycle f none)
        (⊎_elim (λ (f : c.kind ≡ Lasts). subst HasNoCycle f none) (λ (f : c.kind ≡ Answer). subst HasNoCycle f none)) arms.kind

    calm : Promoting r.account.pause → ⊥
    calm p = not_both r.account.pause.phase (p.0, p.1) arms.odd

    abbrev ws : List ℕ
    ws = set s.words 4 (flag armed)

    -- nobody owes a darkening
    abbrev past' : Snapshot
    past' = record c.past { owed = λ _ _. false }

    abbrev c' : Cycling
    c' = record c { armed = armed; past = past' }

    abbrev all' : Account
    all' = record r.account { cycling = c' }

    abbrev told : Share
    told = record x.seen.share { armed = Some armed }

    abbrev y : DomainView
    y = with_share x told

    other : (i : ℕ) → i ≢ 4 → get_or ws i 0 ≡ get_or s.words i 0
    other i differ = get_or-set_other s.words 4 i (flag armed) 0 differ

    heap : (a : ℕ) → at_address k ws a ≡ at_address k s.words a
    heap a = other (before_heap k + a) (λ e. omega arith)

    agrees : Agrees k s.words ws
    agrees = agrees_set k s.words 4 (flag armed) (λ e. omega arith) (inl (omega arith)) (omega arith)

    counts : (listed ws ≡ listed s.words) × (cursor ws ≡ cursor s.words)
    counts = (other 6 (λ e. omega arith), other 7 (λ e. omega arith))

    hunters : (z : DomainView) → Hunter k r.account.tenancy s.words z → Hunter k r.account.tenancy ws z
    hunters z h = hunter_agree k r.account.tenancy r.account.tenancy s.words ws agrees z (let e = counts.1 in let m : ℕ = cursor s.words in let n : ℕ = cursor ws in let f : n ≡ m = e in let g : m ≤ n = omega arith in g) (same_self r.account.tenancy z.own.number) h

    lists : (number : ℕ) (stage : Stage) (l : Listing) → Lists k s.words number stage l → Lists k ws number stage l
    lists number stage l = lists_same k s.words ws number stage l counts.0 counts.1 (λ i h. other (11 + i) (λ e. omega arith)) (λ q h. other (11 + k.pools + q) (λ e. omega arith))

    low_kept : cursor s.words ≤ limit_of k (listed s.words) → cursor ws ≤ limit_of k (listed ws)
    low_kept low = subst (λ (m : ℕ × ℕ). m.0 ≤ limit_of k m.1) (λ i. (sym counts.1 i, sym counts.0 i)) low

    reserved' : Reserved k r.account.pause r.account.tenancy ws
    reserved' kept i below above =
        let n : ℕ = listed s.words in let n' : ℕ = listed ws in let e : n' ≡ n = counts.0 in
        let low : i < n = (let g : i < n' = below in omega arith) in
        ap r.account.tenancy.holder (other (11 + i) (λ e. omega arith)) ∙ r.whole.reserved kept i low (subst (λ (m : ℕ). limit_of k m ≤ i) e above)

    -- what is marked in those kinds of phase isn't told by the word
    swept_of_word : IsSwept k now r.account.live r.account.tenancy.holder c s.words → IsSwept k now r.account.live r.account.tenancy.holder c' ws
    swept_of_word w = record {
      all_marked = w.all_marked;
      unmarked = w.unmarked;
      unchanged = w.unchanged;
      counted = record {
        first = w.counted.first;
        once = w.counted.once;
        owned = w.counted.owned;
        all = w.counted.all;
        few = w.counted.few;
        light = w.counted.light;
        blocks_are = other 9 (λ e. omega arith) ∙ w.counted.blocks_are;
        words_are = other 10 (λ e. omega arith) ∙ w.counted.words_are;
      };
    }

    facts_of : (kind : Kind) → ArmsIn kind → Facts kind k now r.account.live r.account.tenancy c s.words → Facts kind k now r.account.live r.account.tenancy c' ws
    facts_of Roots is f = (f.0, record { unchanged = f.1.unchanged; unrotated = f.1.unrotated })
    facts_of Lasts is f = record { facts = f.facts; unchanged = f.unchanged; stays = f.stays; turned = λ up. let t = f.turned up in record { all_marked = t.all_marked; unmarked = t.unmarked; gone = t.gone } }
    facts_of Answer is f = record { mode = f.mode; whole = f.whole; ends = record { facts = f.ends.facts; rotated = f.ends.rotated }; swept = swept_of_word f.swept; clean = f.clean; all_counted = f.all_counted; held = f.held }
    facts_of _ is f = absurd (⊎_elim (λ e. cc) (⊎_elim (λ e. cc) (λ e. cc)) is)

    -- no garbage of the last collection is left
    all_swept : c.unswept ≡ false
    all_swept =
        let swept : (kind : Kind) → IsTracing kind → c.kind ≡ kind → c.unswept ≡ false = swept_tracing k now r.account.live r.account.pause r.account.tenancy c s.words r.whole.cycle in
        ⊎_elim (swept Roots tt) (⊎_elim (swept Lasts tt) (swept Answer tt)) arms.kind

    cycle' : Cycled k now r.account.live r.account.pause r.account.tenancy c' ws
    cycle' = let y = r.whole.cycle in record {
      armed_is = get_or-set_same s.words 4 (flag armed) 0 (let w : ℕ = heap_words k in let p : ℕ = before_heap k in let o : 10 ≤ p = omega arith in let l : length s.words ≡ 1 + p + w = r.whole.wide in omega arith);
      meanings = y.meanings;
      colours_are = other 5 (λ e. omega arith) ∙ y.colours_are;
      changed_is = other 3 (λ e. omega arith) ∙ y.changed_is;
      facts = facts_of c.kind arms.kind y.facts;
      told = y.told;
      leaves = record {
        none = y.leaves.none;
        dead = y.leaves.dead;
        head = λ a is. let h = y.leaves.head a is in (h.0, h.1, heap a ∙ h.2);
        unprepared = y.leaves.unprepared;
        owned = y.leaves.owned;
      };
      unswept = λ is. absurd (true≢false (sym is ∙ all_swept));
      whole = λ l. ⊎_elim
          (λ (e : c.paint.emptied l ≡ []). inl e)
          (λ (h : MissesKeys r.account.live r.account.tenancy.holder c l). inr record { clean = h.clean; domain = h.domain; waits = h.waits; address = h.address; own = h.own; place = h.place; lives = h.lives; label = h.label })
          (y.whole l);
      grows = record { few = y.grows.few; since = y.grows.since; named = y.grows.named; cleared = y.grows.cleared };
    }

    -- domain 0 alone looks at the word in an odd phase
    only : (z : DomainView) → Staged r.account.pause z → MayLook z.own.number z.seen.stage → z.own.number ≡ 0
    only z staged looks = go z.seen.stage staged.stage looks
      where
        go : (stage : Stage) → AtStage r.account.pause z.own.number z.own.arrivals stage → MayLook z.own.number stage → z.own.number ≡ 0
        go (In kind) a l = absurd (not_both r.account.pause.phase (a.1.0, a.1.1) arms.odd)
        go (Leads kind) a l = l
        go (Led kind) a l = l
        go (Gone kind) a l = absurd l

    unaware : (z : DomainView) → Good k r.account s.words z → RunsBeside k r.account.live r.account.tenancy.holder armed past' c.paint.marks.marked ws z.own.number z.seen.stage z.seen.share
    unaware z g = runs_unaware k r.account.live r.account.tenancy.holder armed past' c.paint.marks.marked ws z.own.number z.seen.stage z.seen.share
        (paused_unaware k r.account.pause c r.whole.cycle.told no_run r.account.live r.account.tenancy.holder c.paint.marks.marked s.words z g.staged g.sharing.running) (λ _ _. refl)

    leading' : (z : DomainView) (share : Share) (armed_is : (b : Bool) → share.armed ≡ Some b → MayLook z.own.number z.seen.stage × (b ≡ armed)) → Leading c s.words z.own.number z.seen.stage (record share { armed = z.seen.share.armed })
        → Leading c' ws z.own.number z.seen.stage share
    leading' z share armed_is l = record {
      changed = l.changed;
      found_blocks = λ v e. let u = l.found_blocks v e in (u.0, other 9 (λ f. omega arith) ∙ u.1);
      found_words = λ v e. let u = l.found_words v e in (u.0, other 10 (λ f. omega arith) ∙ u.1);
      rotated = l.rotated;
      turned = l.turned;
      pass = l.pass;
      whole = l.whole;
      armed = armed_is;
      unswept = l.unswept;
      under_way = λ _ none. absurd (no_cycle none);
      unmarked = l.unmarked;
    }

    may_look : (stage : Stage) → IsLeading stage → MayLook x.own.number stage
    may_look (In kind) l = absurd l
    may_look (Leads kind) l = may.leads
    may_look (Led kind) l = may.leads
    may_look (Gone kind) l = absurd l

    not_collecting : (stage : Stage) → IsLeading stage → IsCollecting stage → ⊥
    not_collecting (In kind) l n = l
    not_collecting (Leads kind) l n = n
    not_collecting (Led kind) l n = n
    not_collecting (Gone kind) l n = l

    own_sharing : Sharing k all' ws x.own.number x.own.registers x.own.finalisers x.own.ephemerons.items x.seen.stage told
    own_sharing = let h = good.sharing in let u = unaware x good in record {
      telling = record { owes = h.telling.owes; seen = h.telling.seen; fresh = λ up. ap (λ (z : Share). record z { armed = Some armed }) (h.telling.fresh up); forgotten = h.telling.forgotten; colours = h.telling.colours };
      leading = leading' x told (λ b e. (may_look x.seen.stage arms.leads, sym (same_Some armed b e))) h.leading;
      knows = ⊎_elim
          (λ (q : IsIdle x.seen.share). inl (ap (λ (z : Share). record z { armed = Some armed }) q))
          (λ (n : IsCollecting x.seen.stage × Knowing k r.account.live r.account.tenancy.holder now.graph c.paint.marks s.words x.own.number x.own.registers x.seen.share). absurd (not_collecting x.seen.stage arms.leads n.0))
          h.knows;
      adds = record { blocks = h.adds.blocks; words = h.adds.words; own = h.adds.own };
      looks = record { at_own = h.looks.at_own; cleans = h.looks.cleans; emptied_is = h.looks.emptied_is };
      running = record { knows = u.knows; owes = u.owes };
      deciding = h.deciding;
    }

    others_sharing : (z : DomainView) → z.own.number ≢ x.own.number → Good k r.account s.words z → Sharing k all' ws z.own.number z.own.registers z.own.finalisers z.own.ephemerons.items z.seen.stage z.seen.share
    others_sharing z differs g = let h = g.sharing in record {
      telling = h.telling;
      leading = leading' z z.seen.share (λ b e. absurd (differs (only z g.staged (h.leading.armed b e).0 ∙ sym may.leads))) h.leading;
      knows = knows_words k r.account.live r.account.tenancy.holder now.graph c.paint.marks s.words ws z.own.number z.own.registers z.seen.stage z.seen.share heap h.knows;
      adds = record { blocks = h.adds.blocks; words = h.adds.words; own = h.adds.own };
      looks = h.looks;
      running = unaware z g;
      deciding = h.deciding;
    }

    arm_rule : Rule k record { words = ws; homes = s.homes; views = set s.views id (one k hist y) }
    arm_rule = remakes k s r id hist x at y all' ws
        (whole_stays k s r id hist x at r.account.log r.account.tenancy c' ws record {
          wide = length-set s.words 4 (flag armed) ∙ r.whole.wide;
          legal = r.whole.legal;
          full = r.whole.full;
          found = found_heap k c.paint r.account.live now.graph s.words ws (λ a _. heap a) r.whole.placed r.whole.found;
          phases = phases_words k r.account.pause s.words ws (other 1 (λ e. omega arith)) (other 2 (λ e. omega arith)) r.whole.phases;
          unwished = λ j odd led runs. other 0 (λ e. omega arith) ∙ r.whole.unwished j odd led runs;
          endings = other 8 (λ e. omega arith) ∙ r.whole.endings;
          pools = pools_words k r.account.tenancy s.words ws counts.0 counts.1 (λ i h. other (11 + i) (λ e. omega arith)) (λ q h. other (11 + k.pools + q) (λ e. omega arith)) r.whole.pools;
          reserved = reserved';
          covered = covered_words k r.account.pause r.account.tenancy s.words ws counts.0 counts.1 (λ i h. other (11 + i) (λ e. omega arith)) r.whole.pools.few r.whole.covered;
          grid = grid_heap k r.account.tenancy r.account.live s.words ws (λ a _. heap a) r.whole.grid;
          drawers = r.whole.drawers;
          room = room_words k r.account.live r.account.pause r.account.tenancy.stock s.words ws (λ _. counts) r.whole.room;
          unused = r.whole.unused;
          opened = opened_words k r.account.live s.words ws (λ _ _ _ _. counts.0) r.whole.opened;
          drawable = record {
            to_run = λ j odd led runs. low_kept (r.whole.drawable.to_run j odd led runs);
            to_copy = λ j odd led copies. low_kept (r.whole.drawable.to_copy j odd led copies);
          };
          cycle = cycle';
        })
        (knows_front k s r id hist x at y refl (inl refl))
        (let m = making_heap k s.words ws x (λ a _. heap a) good.making in record {
          stood = record { wide = good.stood.wide; each = good.stood.each; serial = good.stood.serial; enrolled = good.stood.enrolled };
          area = record { room = good.area.room; free = good.area.free; classes = good.area.classes };
          making = record { fits = m.fits; written = m.written };
          staged = record { arrivals = good.staged.arrivals; stage = good.staged.stage };
          still = good.still;
          hunter = hunter_as k r.account.tenancy ws x y refl refl refl refl refl refl refl (hunters x good.hunter);
          resting = resting_as k ws x y refl refl refl refl refl refl (resting_lists k s.words ws x lists good.resting);
          took_back = λ kind leads last. other 0 (λ e. omega arith) ∙ good.took_back kind leads last;
          owes = owes_as k r.account.live x y refl refl refl refl good.owes;
          rooted = good.rooted;
          set_back = λ b. low_kept (good.set_back b);
          sharing = own_sharing;
          listed = good.listed;
          sweeps = good.sweeps;
        })
        (λ z _ differs g. record {
          stood = g.stood;
          area = g.area;
          making = making_heap k s.words ws z (λ a _. heap a) g.making;
          staged = g.staged;
          still = g.still;
          hunter = hunters z g.hunter;
          resting = resting_lists k s.words ws z lists g.resting;
          took_back = λ kind leads last. other 0 (λ e. omega arith) ∙ g.took_back kind leads last;
          owes = g.owes;
          rooted = g.rooted;
          set_back = λ b. low_kept (g.set_back b);
          sharing = others_sharing z differs g;
          listed = g.listed;
          sweeps = g.sweeps;
        })

pub armed_may : (k : Config) (x : DomainView) → MayLook x.own.number x.seen.stage → MayStep k x 4 (λ n. n) ArmedTold
armed_may k x may fits slots id hist s r _ at _ =
    let y : DomainView = with_share x (learnt k s r id hist x at) in (
      one k hist y,
      keeps,
      tt,
      unmoved k s 4 (set s.views id (one k hist y)) (armed_rule k s r id hist x at may),
      (record { armed = r.account.cycling.armed; word = r.whole.cycle.armed_is; view = refl }, refl),
    )

pub arm_may : (k : Config) (x : DomainView) (armed : Bool) → ArmMay x armed → MayStore k x 4 (flag armed) ArmedTold
arm_may k x armed may fits slots id hist s r _ at _ = (one k hist (knowing_armed x armed), keeps, tt, arm_rule k s r id hist x at armed may, (record { armed = armed; word = refl; view = refl }, refl))

-- the word tells what was stored
flag_same : (a b : Bool) → flag a ≡ flag b → a ≡ b
flag_same true true e = refl
flag_same true false e = absurd (let f : 1 ≡ 0 = e in omega arith)
flag_same false true e = absurd (let f : 0 ≡ 1 = e in omega arith)
flag_same false false e = refl

pub knows_stored : (x y : DomainView) (armed : Bool) → ArmedTold x (flag armed) y → y ≡ knowing_armed x armed
knows_stored x y armed t = t.view ∙ ap (knowing_armed x) (sym (flag_same armed t.armed t.word))
