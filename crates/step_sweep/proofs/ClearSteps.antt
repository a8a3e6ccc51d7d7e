-- The start of the count keeps the rule.
use Rattle.std.proofs.Common.{◌≡◌, ◌≢◌, ℕ, ◌⊎◌, List, set, Option, Some, sym, refl, ap, ◌∙◌, subst, inl, inr, ⊎_elim, arith, ◌*◌, ◌<◌}
use mathlib.Core.Option.{some}
use lib.ListN.{get_elem?}
use Rattle.atomic_table.specs.Table.{keeps}
use Rattle.model_core.specs.declared.entry.Entry.{Entry}
use Rattle.model_core.specs.declared.state.State as model
use Rattle.heap_rule.specs.declared.config.Config.{Config}
use Rattle.heap_rule.specs.declared.phase.Kind.{Kind}
use Rattle.heap_rule.specs.declared.phase.Kind.TheVariants.{Run, Lasts, Sweep, Answer, Promote, Reset, Roots, Mark, Rounds, Decide, Queued, Clean}
use Rattle.heap_rule.specs.declared.phase.Stage.TheVariants.{In, Leads}
use Rattle.heap_rule.specs.declared.view.DomainView.{DomainView}
use Rattle.heap_rule.specs.declared.view.Share.{Share}
use Rattle.heap_rule.specs.Beside.{RunsBeside}
use Rattle.heap_rule.specs.Cycles.{Cycled, Cycling, Facts, IsCollecting, IsIdle, Knowing}
use Rattle.heap_rule.specs.Layout.{live_blocks, live_words}
use Rattle.heap_rule.specs.Phases.{AtStage}
use Rattle.heap_rule.specs.Pools.{IsLeading}
use Rattle.heap_rule.specs.Raw.{CanLeave, Closes, Leaves, MayStore}
use Rattle.heap_rule.specs.Rule.{Good, Rule, state_of, Sharing}
use Rattle.heap_rule.specs.Views.{one}
use Rattle.heap_rule.proofs.Keeps.{Words, my_good}
use Rattle.heap_rule.proofs.PauseFacts.{not_both}
use Rattle.step_marks.specs.Marking.Looks.{with_share}
use Rattle.step_marks.proofs.OfMarking.Pausing.{paused_on}
use Rattle.step_marks.proofs.OfMarking.Plain.{share_closes}
use Rattle.step_sweep.specs.Turning.{BlocksCleared, ClearMay, WordsCleared}
use Rattle.step_sweep.proofs.Recounting.{IsCount, heap, here, low, other, recounted, recounts}
use Rattle.heap_rule.proofs.Sharings.{knows_words, leading_loads}
use Rattle.std.proofs.lemmas.Option.{same_Some}

-- neither of these phases is one in which what lives is counted
no_count : (kind : Kind) → (kind ≡ Lasts) ⊎ (kind ≡ Reset) → (kind ≡ Sweep) ⊎ (kind ≡ Answer) → ⊥
no_count kind is counts = ⊎_elim
    (λ (l : kind ≡ Lasts). ⊎_elim (λ (c : kind ≡ Sweep). let clash : Lasts ≡ Sweep = sym l ∙ c in cc) (λ (c : kind ≡ Answer). let clash : Lasts ≡ Answer = sym l ∙ c in cc) counts)
    (λ (l : kind ≡ Reset). ⊎_elim (λ (c : kind ≡ Sweep). let clash : Reset ≡ Sweep = sym l ∙ c in cc) (λ (c : kind ≡ Answer). let clash : Reset ≡ Answer = sym l ∙ c in cc) counts)
    is

module _ (k : Config) (s : Words) (r : Rule k s) (id : ℕ) (hist : List Entry) (x : DomainView) (at : get_elem? s.views id ≡ some (one k hist x)) (may : ClearMay x) (i : ℕ) (is : IsCount i) where
  abbrev c : Cycling
  c = r.account.cycling

  abbrev now : model.State
  now = state_of k r.account.log

  abbrev words' : List ℕ
  words' = recounted k s r id hist x at i 0 is

  good : Good k r.account s.words x
  good = my_good k s r id hist x at

  -- the phase after which domain 0 leads
  last : (kind : Kind) × (x.seen.stage ≡ Leads kind) × ((kind ≡ Lasts) ⊎ (kind ≡ Reset))
  last = ⊎_elim (λ (e : x.seen.stage ≡ Leads Lasts). (Lasts, e, inl refl)) (λ (e : x.seen.stage ≡ Leads Reset). (Reset, e, inr refl)) may.stage

  stands_here : AtStage r.account.pause x.own.number x.own.arrivals (Leads last.0)
  stands_here = subst (AtStage r.account.pause x.own.number x.own.arrivals) last.1 good.staged.stage

  kind_is : (c.kind ≡ Lasts) ⊎ (c.kind ≡ Reset)
  kind_is = let here : c.kind ≡ last.0 = sym (r.whole.cycle.told.odd stands_here.1.0 stands_here.1.1 (stands_here.2 may.first)).0 ∙ stands_here.1.2 in ⊎_elim (λ e. inl (here ∙ e)) (λ e. inr (here ∙ e)) last.2

  -- its facts say nothing of what lives
  facts' : (kind : Kind) → (kind ≡ Lasts) ⊎ (kind ≡ Reset) → Facts kind k now r.account.live r.account.tenancy c s.words → Facts kind k now r.account.live r.account.tenancy c words'
  facts' Lasts is f = f
  facts' Reset is f = f
  facts' Sweep is f = absurd (no_count Sweep is (inl refl))
  facts' Answer is f = absurd (no_count Answer is (inr refl))
  facts' Run is f = f
  facts' Promote is f = f
  facts' Roots is f = f
  facts' Mark is f = f
  facts' Rounds is f = f
  facts' Decide is f = f
  facts' Queued is f = f
  facts' Clean is f = f

  cycle' : Cycled k now r.account.live r.account.pause r.account.tenancy c words'
  cycle' = let y = r.whole.cycle in record {
    armed_is = low k s r id hist x at i 0 is 4 (omega arith) ∙ y.armed_is;
    meanings = y.meanings;
    colours_are = low k s r id hist x at i 0 is 5 (omega arith) ∙ y.colours_are;
    changed_is = low k s r id hist x at i 0 is 3 (omega arith) ∙ y.changed_is;
    facts = facts' c.kind kind_is y.facts;
    told = y.told;
    leaves = record { none = y.leaves.none; dead = y.leaves.dead; head = λ a is_dead. let h = y.leaves.head a is_dead in (h.0, h.1, heap k s r id hist x at i 0 is a ∙ h.2); unprepared = y.leaves.unprepared; owned = y.leaves.owned };
    unswept = y.unswept;
    whole = y.whole;
    grows = y.grows;
  }

  -- nobody else knows of what lives
  odd_here : (j : ℕ) → r.account.pause.phase ≡ j * 2 → ⊥
  odd_here j e = not_both r.account.pause.phase (j, e) (stands_here.1.0, stands_here.1.1)

  only_first : (z : DomainView) → z.own.number ≢ x.own.number → z.own.number ≢ 0
  only_first z differs e = differs (e ∙ sym may.first)

  no_answer : (z : DomainView) → Good k r.account s.words z → z.own.number ≢ x.own.number → ((z.own.number ≡ 0) × IsLeading z.seen.stage) ⊎ (z.seen.stage ≡ In Answer) → ⊥
  no_answer z g differs h = ⊎_elim (λ (f : (z.own.number ≡ 0) × IsLeading z.seen.stage). only_first z differs f.0)
      (λ (e : z.seen.stage ≡ In Answer). let a = subst (AtStage r.account.pause z.own.number z.own.arrivals) e g.staged.stage in odd_here a.1.0 a.1.1) h

  -- nobody runs
  running' : (z : DomainView) → Good k r.account s.words z → RunsBeside k r.account.live r.account.tenancy.holder c.armed c.past c.paint.marks.marked words' z.own.number z.seen.stage z.seen.share
  running' z h = paused_on k r.account.pause c r.whole.cycle.told (λ e. ⊎_elim (λ (l : c.kind ≡ Lasts). let clash : Lasts ≡ Run = sym l ∙ e in cc) (λ (l : c.kind ≡ Reset). let clash : Reset ≡ Run = sym l ∙ e in cc) kind_is) r.account.live r.account.live r.account.tenancy.holder r.account.tenancy.holder c.paint.marks.marked c.paint.marks.marked s.words words' z h.staged h.sharing.running

  sharings' : (z : DomainView) → z.own.number < k.domains → z.own.number ≢ x.own.number → Good k r.account s.words z → Sharing k r.account words' z.own.number z.own.registers z.own.finalisers z.own.ephemerons.items z.seen.stage z.seen.share
  sharings' z below differs g = let h = g.sharing in record {
    telling = h.telling;
    leading = leading_loads c c s.words words' z.own.number z.seen.stage z.seen.share z.seen.share refl refl record {
      changed = h.leading.changed;
      found_blocks = λ v e. absurd (no_answer z g differs (h.leading.found_blocks v e).0);
      found_words = λ v e. absurd (no_answer z g differs (h.leading.found_words v e).0);
    } h.leading;
    knows = knows_words k r.account.live r.account.tenancy.holder now.graph c.paint.marks s.words words' z.own.number z.own.registers z.seen.stage z.seen.share (heap k s r id hist x at i 0 is) h.knows;
    adds = h.adds;
    looks = h.looks;
    running = running' z g;
    deciding = h.deciding;
  }

  -- what domain 0 knows of what lives then
  module _ (blocks words : Option ℕ) (blocks_are : (v : ℕ) → blocks ≡ Some v → live_blocks words' ≡ v) (words_are : (v : ℕ) → words ≡ Some v → live_words words' ≡ v) where
    abbrev share' : Share
    share' = record x.seen.share { blocks = blocks; words = words }

    leads : IsLeading x.seen.stage
    leads = subst IsLeading (sym last.1) tt

    idle' : IsIdle share'
    idle' = ⊎_elim
        (λ (q : IsIdle x.seen.share). ap (λ (z : Share). record z { blocks = blocks; words = words }) q)
        (λ (n : IsCollecting x.seen.stage × Knowing k r.account.live r.account.tenancy.holder now.graph c.paint.marks s.words x.own.number x.own.registers x.seen.share). absurd (subst IsCollecting last.1 n.0))
        good.sharing.knows

    no_sweep : c.kind ≡ Sweep → ⊥
    no_sweep e = no_count c.kind kind_is (inl e)

    pub clear_rule : Rule k record { words = words'; homes = s.homes; views = set s.views id (one k hist (with_share x share')) }
    clear_rule = let g = good.sharing in recounts k s r id hist x at i 0 is share' c record {
      calm = λ p. odd_here p.0 p.1;
      kind = refl;
      paint = refl;
      cycle = cycle';
      sharing = record {
        telling = record { owes = g.telling.owes; seen = g.telling.seen; fresh = λ _. idle'; forgotten = g.telling.forgotten; colours = g.telling.colours };
        leading = leading_loads c c s.words words' x.own.number x.seen.stage x.seen.share share' refl refl record {
          changed = g.leading.changed;
          found_blocks = λ v e. (inl (may.first, leads), blocks_are v e);
          found_words = λ v e. (inl (may.first, leads), words_are v e);
        } g.leading;
        knows = inl idle';
        adds = record { blocks = λ e _. absurd (no_sweep e); words = λ e _. absurd (no_sweep e); own = λ e _ _. absurd (no_sweep e) };
        looks = record { at_own = g.looks.at_own; cleans = g.looks.cleans; emptied_is = g.looks.emptied_is };
        running = let u = running' x good in record { knows = u.knows; owes = u.owes };
        deciding = g.deciding;
      };
      sharings = sharings';
      sweeps = good.sweeps;
      others_sweep = λ z h. h.sweeps;
    }

pub blocks_may : (k : Config) (x : DomainView) → ClearMay x → MayStore k x 9 0 BlocksCleared
blocks_may k x may fits slots id hist s r _ at _ =
    let y : DomainView = with_share x (record x.seen.share { blocks = Some 0 }) in
    let is : IsCount 9 = inl refl in (
      one k hist y,
      keeps,
      tt,
      clear_rule k s r id hist x at may 9 is (Some 0) x.seen.share.words
          (λ v e. here k s r id hist x at 9 0 is ∙ same_Some 0 v e)
          (λ v e. other k s r id hist x at 9 0 is 10 (λ f. omega arith) ∙ ((my_good k s r id hist x at).sharing.leading.found_words v e).1),
      (refl, refl),
    )

pub blocks_closes : (k : Config) (x : DomainView) → Closes k x 0 BlocksCleared CanLeave Leaves
blocks_closes k x = share_closes k x 0 BlocksCleared (λ y t. (record x.seen.share { blocks = Some 0 }, t))

pub words_may : (k : Config) (x : DomainView) → ClearMay x → MayStore k x 10 0 WordsCleared
words_may k x may fits slots id hist s r _ at _ =
    let y : DomainView = with_share x (record x.seen.share { words = Some 0 }) in
    let is : IsCount 10 = inr refl in (
      one k hist y,
      keeps,
      tt,
      clear_rule k s r id hist x at may 10 is x.seen.share.blocks (Some 0)
          (λ v e. other k s r id hist x at 10 0 is 9 (λ f. omega arith) ∙ ((my_good k s r id hist x at).sharing.leading.found_blocks v e).1)
          (λ v e. here k s r id hist x at 10 0 is ∙ same_Some 0 v e),
      (refl, refl),
    )

pub words_closes : (k : Config) (x : DomainView) → Closes k x 0 WordsCleared CanLeave Leaves
words_closes k x = share_closes k x 0 WordsCleared (λ y t. (record x.seen.share { words = Some 0 }, t))
