-- A registration keeps the rule.
use Rattle.std.proofs.Common.{◌≡◌, ℕ, ◌<◌, false, IsTrue, None, ne_eqb, List, [], ◌∷◌, ◌++◌, length, get_or, set, Option, Some, sym, refl, ap, ◌∙◌, subst, get_or-set_same}
use mathlib.Core.Option.{some}
use lib.ListN.{get_elem?}
use Rattle.atomic_table.specs.Table.{keeps}
use Rattle.model_core.specs.declared.command.Command.{Command}
use Rattle.model_core.specs.declared.command.Command.TheVariants.{Finalise, FinaliseLast}
use Rattle.model_core.specs.declared.entry.Entry.{Entry}
use Rattle.model_core.specs.declared.entry.Entry.TheVariants.{Command as CommandOf}
use Rattle.model_core.specs.declared.graph.Value as graph_value
use Rattle.model_core.specs.declared.graph.Value.TheVariants.{Nothing as GraphNothing}
use Rattle.model_core.specs.declared.label.Label.{Label}
use Rattle.model_core.specs.declared.reply.Applied.TheVariants.{Replied}
use Rattle.model_core.specs.declared.reply.Reply.TheVariants.{Done}
use Rattle.model_core.specs.declared.state.DomainState.{DomainState}
use Rattle.model_core.specs.declared.state.Finaliser.{Finaliser}
use Rattle.model_core.specs.declared.state.LastFinaliser.{LastFinaliser}
use Rattle.model_core.specs.declared.state.State as model
use Rattle.model_core.specs.Commands.{after_command, finalised, finalised_last, with_final, with_last}
use Rattle.model_core.specs.Domains.{domain_at, label_in, no_domain, register}
use Rattle.model_core.specs.Entries.{next}
use Rattle.model_core.specs.Graph.{label_of}
use Rattle.model_core.proofs.Commands.FrameLemmas.{frame_command, part_set}
use Rattle.model_cycle.specs.Beside.{WriteBarrier, owed_after}
use Rattle.heap_words.specs.declared.value.Value.{Value}
use Rattle.heap_rule.specs.declared.config.Config.{Config}
use Rattle.heap_rule.specs.declared.view.DomainView.{DomainView}
use Rattle.heap_rule.specs.declared.view.Finalisers.{Finalisers}
use Rattle.heap_rule.specs.declared.view.Registered.{Registered}
use Rattle.heap_rule.specs.declared.view.RegisteredLast.{RegisteredLast}
use Rattle.heap_rule.specs.Changes.{value_at}
use Rattle.heap_rule.specs.Finalisers.{Enrolled, LivesAt, Paired, StandsFinal, StandsLast, StandsWaiting}
use Rattle.heap_rule.specs.Places.{Stands}
use Rattle.heap_rule.specs.Raw.{MayStep}
use Rattle.heap_rule.specs.Rule.{Rule, Stood}
use Rattle.heap_rule.specs.Standing.{Acts, GoesOn, IsAt}
use Rattle.heap_rule.specs.Views.{one}
use Rattle.heap_rule.proofs.FinaliserLemmas.{paired_append, paired_none}
use Rattle.heap_rule.proofs.Advancing.{Advance, advances_command, underway_here}
use Rattle.heap_rule.proofs.Keeps.{Words, more_same, my_good, unmoved}
use Rattle.heap_rule.proofs.Values.{stands_block}
use Rattle.step_finalisers.specs.Registering.{FinalMay, FinalTold, LastMay, LastTold, with_final as adding_final, with_last as adding_last}
use Rattle.step_finalisers.proofs.WorkSteps.{Works, inside_state, now, now_open, running, worked, works_answers, works_rule}

-- who acts goes on
pub acts_on : (k : Config) (x : DomainView) → Acts k x → GoesOn k x
acts_on k x acts = record { goes_on = acts.goes_on; runs = acts.runs; paid = acts.paid }

module _ (k : Config) (s : Words) (r : Rule k s) (id : ℕ) (hist : List Entry) (x : DomainView) (at : get_elem? s.views id ≡ some (one k hist x)) (acts : Acts k x) where
  open x use {own.{number as d}}
  open r.account use {live}

  abbrev pub goes : GoesOn k x
  goes = acts_on k x acts

  abbrev t : model.State
  t = now k s r id hist x at goes

  inside : d < length t.domains
  inside = inside_state k s r id hist x at goes

  queue_empty : (domain_at t d).queue ≡ []
  queue_empty = paired_none (StandsWaiting live) x.own.finalisers.queue.items (domain_at t d).queue acts.unqueued (my_good k s r id hist x at).stood.enrolled.queue

  -- a registration overwrites nothing, and reads nothing weakly
  quiet : (c : Command) → owed_after r.account.cycling.past.owed d c ≡ r.account.cycling.past.owed → (IsTrue r.account.cycling.armed → WriteBarrier r.account.cycling.past r.account.cycling.paint.marks t d c) → Advance k s r id hist x at (CommandOf d c false) None live
  quiet c reads barrier = advances_command k s r id hist x at goes.runs goes.paid c live reads (more_same live) (λ is. (underway_here k s r id hist x at goes.runs is).young) barrier

  -- the block in a register
  block : (item a : ℕ) → IsAt x item a → (l : Label) × (label_in t d item ≡ Some l) × LivesAt live a l
  block item a is =
      let st = (my_good k s r id hist x at).stood in
      let b = stands_block live a (register t d item) (subst (λ (v : Value). Stands live v (register t d item)) is.holds (st.each item is.few)) in
      (b.0, ap label_of b.2, (b.1, b.3, b.4))

  -- a domain that has changed in its registrations alone, behind the entry of a command
  module _ (u : DomainState) (registers : u.registers ≡ (domain_at t d).registers) (serial : u.serial ≡ (domain_at t d).serial) where
    abbrev changed : model.State
    changed = record t { domains = set t.domains d u }

    here : domain_at changed d ≡ u
    here = get_or-set_same t.domains d u no_domain inside

    behind : (A : Type 0) (f : DomainState → A) → f (record (domain_at changed d) { fresh = false; due = length (domain_at changed d).queue }) ≡ f (domain_at changed d) → f (domain_at (after_command changed d) d) ≡ f u
    behind A f same = part_set f changed.domains d (record (domain_at changed d) { fresh = false; due = length (domain_at changed d).queue }) same d ∙ ap f here

    stood_behind : (y : DomainView) (fs : Finalisers) → y.own.number ≡ d → y.own.registers ≡ x.own.registers → y.own.serial ≡ x.own.serial → y.own.finalisers ≡ fs
        → Paired (StandsFinal live) fs.finals.items u.finals → Paired (StandsLast live) fs.lasts.items u.lasts → Paired (StandsWaiting live) fs.queue.items u.queue
        → Stood live (after_command changed d) y
    stood_behind y fs number regs ser lists finals lasts queue = let st = (my_good k s r id hist x at).stood in record {
      wide = ap length regs ∙ st.wide;
      each = λ q few. subst (λ (z : List Value × ℕ). Stands live (value_at z.0 q) (get_or (domain_at (after_command changed d) z.1).registers q GraphNothing)) (λ i. (sym regs i, sym number i))
          (subst (λ (l : List graph_value.Value). Stands live (value_at x.own.registers q) (get_or l q GraphNothing)) (sym (behind (List graph_value.Value) (λ z. z.registers) refl ∙ registers)) (st.each q few));
      serial = ser ∙ (st.serial ∙ (sym (behind ℕ (λ z. z.serial) refl ∙ serial) ∙ ap (λ (n : ℕ). (domain_at (after_command changed d) n).serial) (sym number)));
      enrolled = subst (λ (z : ℕ × Finalisers). Enrolled live (after_command changed d) z.0 z.1) (λ i. (sym number i, sym lists i)) record {
        finals = subst (Paired (StandsFinal live) fs.finals.items) (sym (behind (List Finaliser) (λ z. z.finals) refl)) finals;
        lasts = subst (Paired (StandsLast live) fs.lasts.items) (sym (behind (List LastFinaliser) (λ z. z.lasts) refl)) lasts;
        queue = subst (Paired (StandsWaiting live) fs.queue.items) (sym (behind _ (λ z. z.queue) refl)) queue;
      };
    }

  module _ (item : ℕ) (rd : Registered) (may : FinalMay k x item rd) where
    pub b : (l : Label) × (label_in t d item ≡ Some l) × LivesAt live rd.address l
    b = block item rd.address may.block

    abbrev f : Finaliser
    f = record { number = rd.number; label = b.0; register = rd.register }

    abbrev e : Entry
    e = CommandOf d (Finalise item rd.number rd.register) false

    abbrev fs : Finalisers
    fs = (adding_final rd x.own).finalisers

    abbrev u : DomainState
    u = record (domain_at t d) { finals = (domain_at t d).finals ++ f ∷ [] }

    after : next t e ≡ after_command (with_final t d f) d
    after = ap (λ (o : Option Label). after_command (finalised t d rd.number rd.register o).state d) b.1

    pub final_works : Works k s r id hist x at goes e x.own.registers fs (Replied Done)
    final_works = let g = (my_good k s r id hist x at).stood.enrolled in record {
      alone = λ i other. ne_eqb d i (λ q. other (sym q));
      of_trace = tt;
      allowed = record { running = running k s r id hist x at goes; fits = (now_open k s r id hist x at goes, queue_empty); full_fits = tt };
      is_open = (frame_command t d (Finalise item rd.number rd.register) false).mode ∙ now_open k s r id hist x at goes;
      graph = ap (λ (z : model.State). z.graph) after;
      advance = quiet (Finalise item rd.number rd.register) refl (λ _. tt);
      stood = subst (λ (z : model.State). Stood live z (worked k s r id hist x at goes e x.own.registers fs)) (sym after)
          (stood_behind u refl refl (worked k s r id hist x at goes e x.own.registers fs) fs refl refl refl refl
          (paired_append (StandsFinal live) x.own.finalisers.finals.items (rd ∷ []) (domain_at t d).finals (f ∷ []) g.finals ((b.2, refl, refl), tt))
          g.lasts
          g.queue);
      replies = ap (λ (o : Option Label). Replied (finalised t d rd.number rd.register o).reply) b.1;
    }

  module _ (item : ℕ) (rd : RegisteredLast) (may : LastMay k x item rd) where
    pub b' : (l : Label) × (label_in t d item ≡ Some l) × LivesAt live rd.address l
    b' = block item rd.address may.block

    abbrev f' : LastFinaliser
    f' = record { number = rd.number; label = b'.0 }

    abbrev e' : Entry
    e' = CommandOf d (FinaliseLast item rd.number) false

    abbrev fs' : Finalisers
    fs' = (adding_last rd x.own).finalisers

    abbrev u' : DomainState
    u' = record (domain_at t d) { lasts = (domain_at t d).lasts ++ f' ∷ [] }

    after' : next t e' ≡ after_command (with_last t d f') d
    after' = ap (λ (o : Option Label). after_command (finalised_last t d rd.number o).state d) b'.1

    pub last_works : Works k s r id hist x at goes e' x.own.registers fs' (Replied Done)
    last_works = let g = (my_good k s r id hist x at).stood.enrolled in record {
      alone = λ i other. ne_eqb d i (λ q. other (sym q));
      of_trace = tt;
      allowed = record { running = running k s r id hist x at goes; fits = (now_open k s r id hist x at goes, queue_empty); full_fits = tt };
      is_open = (frame_command t d (FinaliseLast item rd.number) false).mode ∙ now_open k s r id hist x at goes;
      graph = ap (λ (z : model.State). z.graph) after';
      advance = quiet (FinaliseLast item rd.number) refl (λ _. tt);
      stood = subst (λ (z : model.State). Stood live z (worked k s r id hist x at goes e' x.own.registers fs')) (sym after')
          (stood_behind u' refl refl (worked k s r id hist x at goes e' x.own.registers fs') fs' refl refl refl refl
          g.finals
          (paired_append (StandsLast live) x.own.finalisers.lasts.items (rd ∷ []) (domain_at t d).lasts (f' ∷ []) g.lasts ((b'.2, refl), tt))
          g.queue);
      replies = ap (λ (o : Option Label). Replied (finalised_last t d rd.number o).reply) b'.1;
    }

pub final_may : (k : Config) (x : DomainView) (word item : ℕ) (rd : Registered) → FinalMay k x item rd → MayStep k x word (λ n. n) (λ z _ y. FinalTold k item rd z y)
final_may k x word item rd may fits slots id hist s r _ at _ =
    let goes = acts_on k x may.acts in
    let entry : Entry = CommandOf x.own.number (Finalise item rd.number rd.register) false in
    let lists : Finalisers = (adding_final rd x.own).finalisers in
    let o = final_works k s r id hist x at may.acts item rd may in
    let y : DomainView = worked k s r id hist x at goes entry x.own.registers lists in (
      one k hist y,
      keeps,
      tt,
      unmoved k s word (set s.views id (one k hist y)) (works_rule k s r id hist x at goes entry x.own.registers lists (Replied Done) o),
      (record { answers = works_answers k s r id hist x at goes entry x.own.registers lists (Replied Done) o; view = refl; holds = fits.registers }, refl),
    )

pub last_may : (k : Config) (x : DomainView) (word item : ℕ) (rd : RegisteredLast) → LastMay k x item rd → MayStep k x word (λ n. n) (λ z _ y. LastTold k item rd z y)
last_may k x word item rd may fits slots id hist s r _ at _ =
    let goes = acts_on k x may.acts in
    let entry : Entry = CommandOf x.own.number (FinaliseLast item rd.number) false in
    let lists : Finalisers = (adding_last rd x.own).finalisers in
    let o = last_works k s r id hist x at may.acts item rd may in
    let y : DomainView = worked k s r id hist x at goes entry x.own.registers lists in (
      one k hist y,
      keeps,
      tt,
      unmoved k s word (set s.views id (one k hist y)) (works_rule k s r id hist x at goes entry x.own.registers lists (Replied Done) o),
      (record { answers = works_answers k s r id hist x at goes entry x.own.registers lists (Replied Done) o; view = refl; holds = fits.registers }, refl),
    )
