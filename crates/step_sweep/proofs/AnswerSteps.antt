-- The loads by which a domain learns what lives, and answers `full_major`, keep the rule.
use Rattle.std.proofs.Common.{◌<◌, get_or-set_same, ◌≡◌, ◌≢◌, ℕ, false, true≢false, ne_eqb, List, [], length, ◌∷◌, ◌++◌, set, Some, sym, refl, ap, ◌∙◌, subst, inr}
use mathlib.Core.Option.{some}
use lib.ListN.{get_elem?}
use Rattle.atomic_table.specs.Table.{keeps}
use Rattle.model_core.specs.declared.command.Command.TheVariants.{FullMajor}
use Rattle.model_core.specs.declared.entry.Entry.{Entry}
use Rattle.model_core.specs.declared.entry.Entry.TheVariants.{Command}
use Rattle.model_core.specs.declared.reply.Applied.TheVariants.{Replied}
use Rattle.model_core.specs.declared.reply.Reply.TheVariants.{Live as LiveReply}
use Rattle.model_core.specs.declared.state.DomainState.{DomainState}
use Rattle.model_core.specs.declared.state.State as model
use Rattle.model_core.specs.Domains.{domain_at, no_domain, opening}
use Rattle.model_core.specs.Entries.{Allowed, next, reply}
use Rattle.model_core.specs.Fronts.{KeepsDomain}
use Rattle.model_core.specs.Graph.{Graph}
use Rattle.model_core.specs.History.{is_entry_of}
use Rattle.model_core.proofs.Commands.FrameLemmas.{inside_running, part_set}
use Rattle.model_core.proofs.Histories.FrontLemmas.{answers_push}
use Rattle.model_core.proofs.OfControls.Led.{led_push}
use Rattle.model_cycle.proofs.Cycling.{phase_steps}
use Rattle.heap_words.specs.declared.value.Value.TheVariants.{Nothing}
use Rattle.heap_rule.specs.declared.config.Config.{Config}
use Rattle.heap_rule.specs.declared.phase.Kind.{Kind}
use Rattle.heap_rule.specs.declared.phase.Kind.TheVariants.{Answer, Run}
use Rattle.heap_rule.specs.declared.phase.Stage.TheVariants.{In}
use Rattle.heap_rule.specs.declared.view.DomainView.{DomainView}
use Rattle.heap_rule.specs.declared.view.Share.{Share}
use Rattle.heap_rule.specs.declared.view.View.{View}
use Rattle.heap_rule.specs.Cycles.{Cycled, Facts, KnowsBlocks, Knowing, swept_of}
use Rattle.heap_rule.specs.Ephemerons.{Looks}
use Rattle.heap_rule.specs.Layout.{live_blocks, live_words}
use Rattle.heap_rule.specs.Limits.{sizes_in}
use Rattle.heap_rule.specs.Phases.{CountsEnded, IsInPause, flag, is_over, sum_of}
use Rattle.heap_rule.specs.Raw.{CanLeave, Closes, Leaves, MayStep}
use Rattle.heap_rule.specs.Rule.{Account, AllFound, Good, Rule, Sharing, Stood, state_of}
use Rattle.heap_rule.specs.Standing.{with_front}
use Rattle.heap_rule.specs.Token.{OwnFits}
use Rattle.heap_rule.specs.Views.{one}
use Rattle.heap_rule.proofs.FullnessLemmas.{full_stays}
use Rattle.heap_rule.proofs.Keeps.{logs, Words, after_entry, hunter_as, knows_entry, legal_entry, looks, mine, more_same, my_good, own as own_kept, owes_as, remakes, resting_as, stood_other, sum_same, unmoved}
use Rattle.heap_rule.proofs.Closes.{leaves_closes}
use Rattle.heap_rule.proofs.Notes.{set_there, set_twice}
use Rattle.heap_rule.proofs.PauseFacts.{nobody_else_still}
use Rattle.heap_rule.proofs.Plain.{enters_once}
use Rattle.heap_rule.proofs.FinaliserLemmas.{KeepsWork, paired_length, work_with}
use Rattle.heap_rule.specs.Finalisers.{StandsWaiting}
use Rattle.heap_rule.proofs.Values.{holds}
use Rattle.step_marks.specs.Marking.Looks.{with_share}
use Rattle.step_marks.proofs.OfMarking.Learning.{known, learns, sharing_learnt}
use Rattle.step_sweep.specs.Answering.{LiveBlocksTold, LiveWordsMay, LiveWordsTold}
use Rattle.step_sweep.proofs.Dues.{due_front}
use Rattle.step_sweep.proofs.LiveCounts.{answer_facts, answer_kind, blocks_reach, words_reach}

module _ (k : Config) (s : Words) (r : Rule k s) (id : ℕ) (hist : List Entry) (x : DomainView) (at : get_elem? s.views id ≡ some (one k hist x)) (stage : x.seen.stage ≡ In Answer) where
  open r.account use {live, tenancy as T, cycling as c}
  open x use {own.{number as d}, seen.{share as sh}}

  abbrev now : model.State
  now = state_of k r.account.log

  good : Good k r.account s.words x
  good = my_good k s r id hist x at

  kn : Knowing k live T.holder now.graph c.paint.marks s.words d x.own.registers sh
  kn = known k s r id hist x at

  abbrev counted : Share
  counted = record sh { blocks = Some (live_blocks s.words) }

  blocks_rule : Rule k record { words = s.words; homes = s.homes; views = set s.views id (one k hist (with_share x counted)) }
  blocks_rule =
      let g = good.sharing in learns k s r id hist x at counted
      (sharing_learnt k s r id hist x at sh.colours sh.armed sh.changed (Some (live_blocks s.words)) sh.reaping sh.swept
      g.telling.forgotten g.telling.colours g.leading.armed g.leading.changed (λ v e. (inr stage, (let same : Some (live_blocks s.words) ≡ Some v = e in cc))))
      good.sweeps

  -- the entry of `full_major`
  abbrev e : Entry
  e = Command d FullMajor false

  abbrev log' : List Entry
  log' = r.account.log ++ e ∷ []

  abbrev all' : Account
  all' = record r.account { log = log' }

  abbrev y : DomainView
  y = with_front x log'

  after : state_of k log' ≡ next now e
  after = after_entry k s r id hist x at e

  graph_after : (state_of k log').graph ≡ now.graph
  graph_after = ap (λ (t : model.State). t.graph) after

  alone : (j : ℕ) → j ≢ d → is_entry_of j e ≡ false
  alone j other = ne_eqb d j (λ same. other (sym same))

  -- it changes nothing of any domain but what it owes, and that its last collection isn't fresh
  keeps_all : (j : ℕ) → KeepsDomain now (next now e) j
  keeps_all j = record { registers = part_set (λ z. z.registers) now.domains d _ refl j; serial = part_set (λ z. z.serial) now.domains d _ refl j; ended = part_set (λ z. z.ended) now.domains d _ refl j }

  works_all : (j : ℕ) → KeepsWork now (next now e) j
  works_all j = let n = work_with now d _ refl refl refl j in record { finals = n.finals; lasts = n.lasts; queue = n.queue }

  not_run : In Answer ≡ In Run → ⊥
  not_run is = cc

  cycle' : Cycled k (state_of k log') live r.account.pause T c s.words
  cycle' = let z = r.whole.cycle in let f = answer_facts k s r id hist x at stage in subst (λ (t : model.State). Cycled k t live r.account.pause T c s.words) (sym after) record {
    armed_is = z.armed_is;
    meanings = z.meanings;
    colours_are = z.colours_are;
    changed_is = z.changed_is;
    facts = subst (λ (kind : Kind). Facts kind k (next now e) live T c s.words) (sym (answer_kind k s r id hist x at stage)) record {
      mode = f.mode;
      whole = f.whole;
      ends = record { facts = phase_steps.sweep_answers k.domains now (swept_of k live T.holder c) d f.ends.facts; rotated = f.ends.rotated };
      swept = record { all_marked = f.swept.all_marked; unmarked = f.swept.unmarked; unchanged = f.swept.unchanged; counted = f.swept.counted };
      clean = f.clean;
      all_counted = f.all_counted;
      held = f.held;
    };
    told = z.told;
    leaves = z.leaves;
    unswept = z.unswept;
    whole = z.whole;
    grows = z.grows;
  }

  stands_still : (z : DomainView) → Stood live now z → Stood live (state_of k log') z
  stands_still z st = subst (λ (t : model.State). Stood live t z) (sym after) (stood_other live live now (next now e) z (keeps_all z.own.number) (works_all z.own.number) (more_same live) st)

  sharing' : (z : DomainView) → Sharing k r.account s.words z.own.number z.own.registers z.own.finalisers z.own.ephemerons.items z.seen.stage z.seen.share → Sharing k all' s.words z.own.number z.own.registers z.own.finalisers z.own.ephemerons.items z.seen.stage z.seen.share
  sharing' z g = record {
    telling = g.telling;
    leading = g.leading;
    knows = subst (λ (graph : Graph). KnowsBlocks k live T.holder graph c.paint.marks s.words z.own.number z.own.registers z.seen.stage z.seen.share) (sym graph_after) g.knows;
    adds = g.adds;
    looks = subst (λ (graph : Graph). Looks live T.holder graph c.paint.marks c.paint.emptied z.own.number z.own.ephemerons.items z.seen.stage z.seen.share) (sym graph_after) g.looks;
    running = g.running;
    deciding = g.deciding;
  }

  answered : Allowed now e → Rule k record { words = s.words; homes = s.homes; views = set s.views id (one k hist y) }
  answered allowed = let g = good in logs k s r id hist x at log' c x.own.finalisers log' x.seen.share record {
    legal = legal_entry k s r id hist x at e allowed;
    full = full_stays k r.account.log live T.holder T.fresh T.garbage r.account.homes c.kind e refl r.whole.full;
    found = subst (λ (graph : Graph). AllFound k c.paint live graph s.words) (sym graph_after) r.whole.found;
    ended = λ j. ap (λ (z : model.State). (domain_at z j).ended) after ∙ (keeps_all j).ended;
    cycle = cycle';
    seats = knows_entry k s r id hist x at y e alone (λ _. refl) refl refl;
    kind = Answer;
    stage = stage;
    no_pause = λ p. p;
    not_run = not_run;
    stood = let st = stands_still x g.stood in record { wide = st.wide; each = st.each; serial = st.serial; enrolled = st.enrolled };
    rooted = g.rooted;
    sharing = sharing' x g.sharing;
    sweeps = g.sweeps;
    stoods = λ z _ h. stands_still z h.stood;
    sharings = λ z _ h. sharing' z h.sharing;
    others_sweep = λ z h. h.sweeps;
  }

  module _ (blocks : ℕ) (may : LiveWordsMay k x blocks) where
    inside : d < length now.domains
    inside = inside_running now.domains d ((own_kept k s r id hist x at).ended ∙ may.goes_on)

    allowed : Allowed now e
    allowed = record {
      running = (own_kept k s r id hist x at).ended ∙ may.goes_on;
      fits = ((answer_facts k s r id hist x at stage).mode, due_front (opening (sizes_in k)) d r.account.log x.seen.front (mine k s r id hist x at).front ∙ may.paid);
      full_fits = tt;
    }

    replies : reply now e ≡ Replied (LiveReply blocks (live_words s.words))
    replies = let here : live_blocks s.words ≡ blocks = (good.sharing.leading.found_blocks blocks may.known).1 in
        λ i. Replied (LiveReply ((sym (blocks_reach k s r id hist x at stage) ∙ here) i) (sym (words_reach k s r id hist x at stage) i))

    answer_rule : Rule k record { words = s.words; homes = s.homes; views = set s.views id (one k hist y) }
    answer_rule = answered allowed

    answer_told : LiveWordsTold k blocks x (live_words s.words) y
    answer_told = let st = stands_still x good.stood in record {
      entered = record {
        answers = answers_push (sizes_in k) d r.account.log x.seen.front e (Replied (LiveReply blocks (live_words s.words))) (mine k s r id hist x at).front (λ running. absurd (true≢false running)) (legal_entry k s r id hist x at e allowed) replies;
        view = refl;
        holds = holds k r.limits live r.whole.placed (state_of k log') x st;
      };
      led = led_push d r.account.log x.seen.front e refl (mine k s r id hist x at).led;
      due = ap (λ (t : model.State). (domain_at t d).due) after
          ∙ (ap (λ (z : DomainState). z.due) (get_or-set_same now.domains d (record (domain_at now d) { fresh = false; due = length (domain_at now d).queue }) no_domain inside)
          ∙ paired_length (StandsWaiting live) x.own.finalisers.queue.items (domain_at now d).queue good.stood.enrolled.queue);
    }

-- the domain sees the whole history first, and then learns the word
pub live_blocks_may : (k : Config) (x : DomainView) → x.seen.stage ≡ In Answer → MayStep k x 9 (λ n. n) (LiveBlocksTold k)
live_blocks_may k x stage fits slots id hist s r _ at _ =
    let z : DomainView = with_front x r.account.log in
    let y : DomainView = with_share z (record z.seen.share { blocks = Some (live_blocks s.words) }) in
    let looked : Rule k record { words = s.words; homes = s.homes; views = set s.views id (one k hist z) } = looks k s r id hist x at r.account.log (inr refl) in
    let twice : Rule k record { words = s.words; homes = s.homes; views = set (set s.views id (one k hist z)) id (one k hist y) } =
    blocks_rule k record { words = s.words; homes = s.homes; views = set s.views id (one k hist z) } looked id hist z (set_there s.views id (one k hist x) (one k hist z) at) stage in
    let rule : Rule k record { words = s.words; homes = s.homes; views = set s.views id (one k hist y) } =
    subst (λ (views : List View). Rule k record { words = s.words; homes = s.homes; views = views }) (set_twice s.views id (one k hist z) (one k hist y)) twice in (
      one k hist y,
      keeps,
      tt,
      unmoved k s 9 (set s.views id (one k hist y)) rule,
      (record { seen = (mine k s r id hist x at).front; led = (mine k s r id hist x at).led; legal = r.whole.legal; answers = (answer_facts k s r id hist x at stage).mode; counts = blocks_reach k s r id hist x at stage; view = refl }, refl),
    )

pub live_blocks_closes : (k : Config) (x : DomainView) (found : ℕ) → Closes k x found (LiveBlocksTold k) CanLeave Leaves
live_blocks_closes k x found = leaves_closes k x found (LiveBlocksTold k) (λ y told. ap (λ (z : DomainView). z.own) told.view) (λ y told. told.seen)

pub live_words_may : (k : Config) (x : DomainView) (blocks : ℕ) → LiveWordsMay k x blocks → MayStep k x 10 (λ n. n) (LiveWordsTold k blocks)
live_words_may k x blocks may fits slots id hist s r _ at _ =
    let y : DomainView = with_front x (r.account.log ++ Command x.own.number FullMajor false ∷ []) in
    (one k hist y, keeps, tt, unmoved k s 10 (set s.views id (one k hist y)) (answer_rule k s r id hist x at may.stage blocks may), (answer_told k s r id hist x at may.stage blocks may, refl))

pub live_words_closes : (k : Config) (x : DomainView) (found blocks : ℕ) → Closes k x found (LiveWordsTold k blocks) CanLeave Leaves
live_words_closes k x found blocks y fits told = let own : y.own ≡ x.own = ap (λ (z : DomainView). z.own) told.entered.view in record {
  can_write = tt;
  written = λ after is. own ∙ sym is;
  fits = subst (OwnFits k) (sym own) fits;
  once = enters_once k (Command x.own.number FullMajor false) (Replied (LiveReply blocks found)) Nothing [] x y told.entered;
}
