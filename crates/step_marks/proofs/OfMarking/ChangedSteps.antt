-- Domain 0 finds the changed word, and sets it back, in an odd phase.
use Rattle.std.proofs.Common.{◌≡◌, ◌≢◌, ℕ, ◌+◌, Option, false, List, set, length, length-set, get_or-set_same, get_or-set_other, Some, sym, refl, ap, ◌∙◌, subst, inl, ⊎_elim, arith, true≢false, ◌≤◌, [], inr}
use Rattle.std.proofs.lemmas.Bool.{false≢true}
use mathlib.Core.Option.{some}
use lib.ListN.{get_elem?}
use Rattle.atomic_table.specs.Table.{keeps}
use Rattle.model_core.specs.declared.entry.Entry.{Entry}
use Rattle.model_core.specs.declared.state.State as model
use Rattle.model_cycle.specs.Shares.{Shares, reset_shares}
use Rattle.model_cycle.proofs.Cycling.{phase_steps}
use Rattle.heap_rule.specs.declared.config.Config.{Config}
use Rattle.heap_rule.specs.declared.phase.Kind.{Kind}
use Rattle.heap_rule.specs.declared.phase.Kind.TheVariants.{Run, Mark, Lasts}
use Rattle.heap_rule.specs.declared.phase.Note.{Note}
use Rattle.heap_rule.specs.declared.phase.Note.TheVariants.{Changed}
use Rattle.heap_rule.specs.declared.phase.Stage.{Stage}
use Rattle.heap_rule.specs.declared.phase.Stage.TheVariants.{In, Leads, Led, Gone}
use Rattle.heap_rule.specs.declared.view.DomainView.{DomainView}
use Rattle.heap_rule.specs.declared.view.Share.{Share}
use Rattle.heap_rule.specs.declared.view.View.{View}
use Rattle.heap_rule.specs.Beside.{RunsBeside}
use Rattle.heap_rule.specs.Cycles.{Cycled, Cycling, Facts, IsCollecting, IsIdle, IsStart, Knowing, KnowsBlocks, cycle_of, MissesKeys}
use Rattle.heap_rule.specs.Layout.{before_heap, changed_word, heap_words}
use Rattle.heap_rule.specs.Phases.{AtStage, flag}
use Rattle.heap_rule.specs.Pools.{IsLeading}
use Rattle.heap_rule.specs.Raw.{MayStep, MayStore}
use Rattle.heap_rule.specs.Rule.{Good, Rule, Sharing, state_of}
use Rattle.heap_rule.specs.Sweeping.{SweepsIn}
use Rattle.heap_rule.specs.Standing.{noted}
use Rattle.heap_rule.specs.Views.{one}
use Rattle.heap_rule.proofs.Controls.{Untouched, heap_untouched}
use Rattle.heap_rule.proofs.Keeps.{Words, my_good, unmoved}
use Rattle.heap_rule.proofs.Notes.{changed_note, noted_rule, set_there, set_twice}
use Rattle.heap_rule.proofs.PauseFacts.{not_both}
use Rattle.step_marks.specs.Marking.Changed.{FindMay, FindTold, ForgetMay, ForgetTold}
use Rattle.step_marks.specs.Marking.Looks.{with_share}
use Rattle.step_marks.proofs.OfMarking.Learning.{learns, shifts, sharing_learnt}
use Rattle.step_marks.proofs.OfMarking.Pausing.{paused_on}
use Rattle.heap_rule.proofs.Sharings.{knows_words, leading_loads}

module _ (k : Config) (s : Words) (r : Rule k s) (id : ℕ) (hist : List Entry) (x : DomainView) (at : get_elem? s.views id ≡ some (one k hist x)) where
  abbrev state : model.State
  state = state_of k r.account.log

  abbrev c : Cycling
  c = r.account.cycling

  good : Good k r.account s.words x
  good = my_good k s r id hist x at

  -- who leads is at no block
  idle : (stage : Stage) → x.seen.stage ≡ stage → IsLeading stage → IsIdle x.seen.share
  idle stage is leads = ⊎_elim (λ (h : IsIdle x.seen.share). h)
      (λ (h : IsCollecting x.seen.stage × Knowing k r.account.live r.account.tenancy.holder state.graph c.paint.marks s.words x.own.number x.own.registers x.seen.share). absurd (apart stage leads (subst IsCollecting is h.0)))
      good.sharing.knows
    where
      apart : (st : Stage) → IsLeading st → IsCollecting st → ⊥
      apart (In kind) leads l = leads
      apart (Leads kind) leads l = l
      apart (Led kind) leads l = l
      apart (Gone kind) leads l = leads

  module _ (may : FindMay x) where
    abbrev found : Share
    found = record x.seen.share { changed = Some (changed_word s.words) }

    found_sharing : Sharing k r.account s.words x.own.number x.own.registers x.own.finalisers x.own.ephemerons.items x.seen.stage found
    found_sharing = let sh = x.seen.share in let t = good.sharing.telling in let l = good.sharing.leading in sharing_learnt k s r id hist x at sh.colours sh.armed (Some (changed_word s.words)) sh.blocks sh.reaping sh.swept
        t.forgotten t.colours l.armed
        (λ v e. let same : changed_word s.words ≡ v = cc in (may.leads, subst IsLeading (sym may.stage) tt, sym same ∙ r.whole.cycle.changed_is))
        l.found_blocks

    pub find_rule : Rule k record { words = s.words; homes = s.homes; views = set s.views id (one k hist (with_share x found)) }
    find_rule = learns k s r id hist x at found found_sharing good.sweeps

  module _ (may : ForgetMay x) where
    abbrev forgets : Share
    forgets = record x.seen.share { changed = Some 0 }

    abbrev ws : List ℕ
    ws = set s.words 3 0

    abbrev anew : Shares
    anew = reset_shares false

    abbrev c' : Cycling
    c' = record c { shares = anew }

    here : AtStage r.account.pause x.own.number x.own.arrivals (Led Mark)
    here = subst (AtStage r.account.pause x.own.number x.own.arrivals) may.stage good.staged.stage

    -- the phase that is named is one of marking, and nobody has done anything in it
    told : (r.account.pause.kinds (here.1.0 + 1) ≡ c.kind) × ((d : ℕ) → IsStart c.shares d)
    told = r.whole.cycle.told.led here.1.0 here.1.1 here.3

    kind_is : c.kind ≡ Mark
    kind_is = sym told.0 ∙ here.1.2

    facts : Facts Mark k state r.account.live r.account.tenancy c' ws
    facts = let f = subst (λ (kind : Kind). Facts kind k state r.account.live r.account.tenancy c s.words) kind_is r.whole.cycle.facts in
        (phase_steps.mark_mark c.pass k.domains state (cycle_of k r.account.live r.account.tenancy.holder c) f.0 false, f.1)

    untouched : Untouched s.words ws
    untouched = (length-set s.words 3 0, (λ i low other. get_or-set_other s.words 3 i 0 0 (λ e. omega arith)))

    cycle : Cycled k state r.account.live r.account.pause r.account.tenancy c' ws
    cycle = let y = r.whole.cycle in record {
      armed_is = get_or-set_other s.words 3 4 0 0 (λ e. omega arith) ∙ y.armed_is;
      meanings = y.meanings;
      colours_are = get_or-set_other s.words 3 5 0 0 (λ e. omega arith) ∙ y.colours_are;
      changed_is = get_or-set_same s.words 3 0 0 (let w : ℕ = heap_words k in let p : ℕ = before_heap k in let o : 10 ≤ p = omega arith in let l : length s.words ≡ 1 + p + w = r.whole.wide in omega arith);
      facts = subst (λ (kind : Kind). Facts kind k state r.account.live r.account.tenancy c' ws) (sym kind_is) facts;
      told = record {
        even = λ j e. absurd (not_both r.account.pause.phase (j, e) (here.1.0, here.1.1));
        odd = λ j e f. absurd (true≢false (sym here.3 ∙ f));
        led = λ j e f. ((y.told.led j e f).0, λ d. record { waits = refl; paid = refl; settled = refl; blind = refl });
      };
      leaves = record {
        none = y.leaves.none;
        dead = y.leaves.dead;
        head = λ a is. let h = y.leaves.head a is in (h.0, h.1, heap_untouched k s.words ws untouched a ∙ h.2);
        unprepared = y.leaves.unprepared;
        owned = y.leaves.owned;
      };
      unswept = y.unswept;
      whole = λ l. ⊎_elim
          (λ (e : c.paint.emptied l ≡ []). inl e)
          (λ (h : MissesKeys r.account.live r.account.tenancy.holder c l). inr record { clean = h.clean; domain = h.domain; waits = refl; address = h.address; own = h.own; place = h.place; lives = h.lives; label = h.label })
          (y.whole l);
      grows = record {
        few = y.grows.few;
        since = λ _ unnamed. absurd (unnamed (here.1.0, here.1.1, here.3));
        named = y.grows.named;
        cleared = λ _ _ _. refl;
      };
    }

    running : (z : DomainView) → Good k r.account s.words z → RunsBeside k r.account.live r.account.tenancy.holder c.armed c.past c.paint.marks.marked ws z.own.number z.seen.stage z.seen.share
    running z g = paused_on k r.account.pause c r.whole.cycle.told (λ e. let clash : Mark ≡ Run = sym kind_is ∙ e in cc) r.account.live r.account.live r.account.tenancy.holder r.account.tenancy.holder c.paint.marks.marked c.paint.marks.marked s.words ws z g.staged g.sharing.running

    -- what a domain knows of the phase, with another load of the word
    sharing_on : (z : DomainView) (changed : Option ℕ) → ((v : ℕ) → changed ≡ Some v → (z.own.number ≡ 0) × IsLeading z.seen.stage × (v ≡ flag false))
        → KnowsBlocks k r.account.live r.account.tenancy.holder state.graph c.paint.marks ws z.own.number z.own.registers z.seen.stage (record z.seen.share { changed = changed }) → Good k r.account s.words z
        → Sharing k (record r.account { cycling = c' }) ws z.own.number z.own.registers z.own.finalisers z.own.ephemerons.items z.seen.stage (record z.seen.share { changed = changed })
    sharing_on z changed loaded knows g = let t = g.sharing.telling in let l = g.sharing.leading in let a = g.sharing.adds in let start = told.1 z.own.number in record {
      telling = record {
        owes = λ _. record { owes = sym start.paid ∙ (t.owes start.waits).owes; follows = λ a is. absurd (false≢true is) };
        seen = λ _. sym start.blind ∙ t.seen start.waits;
        fresh = λ up. absurd (true≢false (sym up));
        forgotten = λ up. absurd (true≢false (sym up));
        colours = t.colours;
      };
      leading = leading_loads c c' s.words ws z.own.number z.seen.stage z.seen.share (record z.seen.share { changed = changed }) refl refl record {
        changed = loaded;
        found_blocks = λ v e. let u = l.found_blocks v e in (u.0, get_or-set_other s.words 3 9 0 0 (λ e. omega arith) ∙ u.1);
        found_words = λ v e. let u = l.found_words v e in (u.0, get_or-set_other s.words 3 10 0 0 (λ e. omega arith) ∙ u.1);
      } l;
      knows = knows;
      adds = record { blocks = λ e _. a.blocks e start.waits; words = λ e _. a.words e start.waits; own = λ e _. a.own e start.waits };
      looks = let u = g.sharing.looks in record { at_own = u.at_own; cleans = u.cleans; emptied_is = u.emptied_is };
      running = let u = running z g in record { knows = u.knows; owes = u.owes };
      deciding = let u = g.sharing.deciding in record { finals = λ e _. u.finals e start.waits; lasts = λ e _. u.lasts e start.waits; rooted = λ e _. u.rooted e start.waits };
    }

    own_sharing : Sharing k (record r.account { cycling = c' }) ws x.own.number x.own.registers x.own.finalisers x.own.ephemerons.items x.seen.stage forgets
    own_sharing = sharing_on x (Some 0) (λ v e. (may.leads, subst IsLeading (sym may.stage) tt, cc)) (inl (ap (λ (z : Share). record z { changed = Some 0 }) (idle (Led Mark) may.stage tt))) good

    others_sharing : (z : DomainView) → z.own.number ≢ x.own.number → Good k r.account s.words z → Sharing k (record r.account { cycling = c' }) ws z.own.number z.own.registers z.own.finalisers z.own.ephemerons.items z.seen.stage z.seen.share
    others_sharing z other g = sharing_on z z.seen.share.changed (λ v e. absurd (other ((g.sharing.leading.changed v e).0 ∙ sym may.leads)))
        (knows_words k r.account.live r.account.tenancy.holder state.graph c.paint.marks s.words ws z.own.number z.own.registers z.seen.stage z.seen.share (heap_untouched k s.words ws untouched) g.sharing.knows) g

    -- who has arrived in a phase of marking may have swept
    sweeps_on : (z : DomainView) → SweepsIn r.account.tenancy c z → SweepsIn r.account.tenancy c' z
    sweeps_on z u = record { listed = u.listed; places = u.places; anew = λ e. absurd (let clash : Mark ≡ Lasts = sym kind_is ∙ e in cc); below = u.below; reaps = u.reaps }

    pub forget_rule : Rule k record { words = ws; homes = s.homes; views = set s.views id (one k hist (with_share x forgets)) }
    forget_rule = shifts k s r id hist x at forgets anew ws record {
      untouched = untouched;
      want_same = get_or-set_other s.words 3 0 0 0 (λ e. omega arith);
      barrier_same = get_or-set_other s.words 3 1 0 0 (λ e. omega arith);
      plan_same = get_or-set_other s.words 3 2 0 0 (λ e. omega arith);
      ended_same = get_or-set_other s.words 3 8 0 0 (λ e. omega arith);
      cycle = cycle;
      sharing = own_sharing;
      sharings = others_sharing;
      sweeps = let u = sweeps_on x good.sweeps in record { listed = u.listed; places = u.places; anew = u.anew; below = u.below; reaps = u.reaps };
      others_sweep = λ z _ h. sweeps_on z h.sweeps;
    }

pub find_may : (k : Config) (x : DomainView) → FindMay x → MayStep k x 3 (λ n. n) FindTold
find_may k x may fits slots id hist s r _ at _ =
    let note : Note = Changed (changed_word s.words) in
    let mid : DomainView = noted x note in
    let views : List View = set s.views id (one k hist mid) in
    let y : DomainView = noted (with_share x (record x.seen.share { changed = Some (changed_word s.words) })) note in
    let rule = find_rule k record { words = s.words; homes = s.homes; views = views } (noted_rule k s r id hist x at note (changed_note (changed_word s.words))) id hist mid (set_there s.views id (one k hist x) (one k hist mid) at) record { leads = may.leads; last = may.last; stage = may.stage } in (
      one k hist y,
      keeps,
      tt,
      unmoved k s 3 (set s.views id (one k hist y)) (subst (λ (vs : List View). Rule k record { words = s.words; homes = s.homes; views = vs }) (set_twice s.views id (one k hist mid) (one k hist y)) rule),
      (refl, refl),
    )

pub forget_may : (k : Config) (x : DomainView) → ForgetMay x → MayStore k x 3 0 ForgetTold
forget_may k x may fits slots id hist s r _ at _ = (one k hist (with_share x (forgets k s r id hist x at may)), keeps, tt, forget_rule k s r id hist x at may, (refl, refl))
