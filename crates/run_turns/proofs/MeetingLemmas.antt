-- A run whose domain has met another is a run still.
use Rattle.std.proofs.Common.{◌≡◌, ℕ, ◌<◌, ◌⊎◌, ⊎_elim, Bool, Option, Some, None, List, refl, sym, subst, inl, inr}
use Rattle.model_core.specs.declared.command.Command.{Command}
use Rattle.model_core.specs.declared.entry.Entry.{Entry}
use Rattle.heap_rule.specs.declared.config.Config.{Config}
use Rattle.heap_rule.specs.declared.phase.Kind.{Kind}
use Rattle.heap_rule.specs.declared.phase.Progress.{Progress}
use Rattle.heap_rule.specs.declared.view.DomainView.{DomainView}
use Rattle.heap_rule.specs.Ending.{Begins}
use Rattle.heap_rule.specs.Meeting.{seeing}
use Rattle.heap_rule.specs.Standing.{with_front}
use Rattle.heap_rule.specs.Token.{Token, SharedHeap, IsIn}
use Rattle.gc_mark.proofs.Going.{stays_same}
use Rattle.gc_pause.specs.declared.stops.answer.Want.{Want}
use Rattle.gc_pause.specs.declared.phases.decider.Decider.{Decider}
use Rattle.run_turns.specs.Pausing.{HasLeft, IsPast}
use Rattle.run_turns.specs.declared.passing.LookOutcome.{LookOutcome}
use Rattle.run_turns.specs.declared.passing.LookOutcome.TheVariants.{Waits, Arrived, Answered, Runs}
use Rattle.run_turns.specs.declared.turned.Turned.TheVariants.{Did}
use Rattle.run_turns.specs.LookOutcomes.{PastAnswers}
use Rattle.run_turns.specs.Runs.{RunView, IsRun, IsBetween, PassesOn, run_seeing}
use Rattle.run_turns.specs.declared.command.Attempt.{Attempt}
use Rattle.run_turns.specs.declared.command.Attempt.TheVariants.{Needs, NoRoom}
use Rattle.run_turns.specs.Tries.{AttemptAnswers, Refused}
use Rattle.run_turns.proofs.Moving.{moved_is_run, view_moves}
use Rattle.run_turns.proofs.PauseLemmas.{answer_on, fresh_on, past_as, keeps_as, same_held, quiet_as}
use Rattle.run_turns.proofs.Turning.{sought_is_run}

past_seeing : (k : Config) (kind : Kind) (x : DomainView) (history : List Entry) → x.own.number < k.domains → Begins history x → IsPast k kind x → IsPast k kind (with_front x history)
past_seeing k kind x history inside begins p = past_as k kind x (with_front x history) (keeps_as x (with_front x history) (with_front x history) refl refl refl refl refl (same_held x)) p.void
    (λ e. answer_on k x (with_front x history) inside refl begins (p.answer e)) p

left_seeing : (k : Config) (known : Kind) (x : DomainView) (history : List Entry) → x.own.number < k.domains → Begins history x → HasLeft k known x → HasLeft k known (with_front x history)
left_seeing k known x history inside begins l = record {
  past = λ c. past_seeing k known x history inside begins (l.past c);
  ready = λ even first. let r = l.ready even first in record {
    before = r.before;
    follows = r.follows;
    past = past_seeing k r.before x history inside begins r.past;
    fresh = λ e. fresh_on k x (with_front x history) refl begins (r.fresh e);
  };
}

between_seeing : (left : Option Kind) (asked : Option ℕ) (collected : Bool) (progress : Progress) (t : Token) (history : List Entry) → t.view.own.number < t.config.domains → Begins history t.view → IsBetween left asked collected progress t → IsBetween left asked collected progress (seeing t history)
between_seeing left asked collected progress t history inside begins b = record {
  stands = b.stands;
  quiet = quiet_as t.view (with_front t.view history) refl refl refl refl b.quiet;
  even = b.even;
  remembers = b.remembers;
  emptied = b.emptied;
  has_left = λ known is. left_seeing t.config known t.view history inside begins (b.has_left known is);
  fresh = λ e. fresh_on t.config t.view (with_front t.view history) refl begins (b.fresh e);
  knows = b.knows;
}

-- a run whose domain has seen more of the history, with no entry of its own
pub seeing_is_run : (h : SharedHeap) (r : RunView) (history : List Entry) → IsIn r.token h → IsRun r → Begins history r.token.view → IsRun (run_seeing r history)
seeing_is_run h r history here is begins =
    moved_is_run r (seeing r.token history) r.left r.asked r.collected r.progress r.hints is (stays_same r.hints)
    (view_moves h r.token (seeing r.token history) (with_front r.token.view history) here here refl refl refl refl refl refl refl begins) is.unasked
    (between_seeing r.left r.asked r.collected r.progress r.token history is.inside begins is.between)

-- a run whose next allocation was refused: its domain searched for a place, and then saw more of the history
pub refused_is_run : (h : SharedHeap) (r : RunView) (new : Token) (c : Command) (collected : Bool) → IsIn r.token h → IsRun r → r.left ≡ None → Refused h r.token new c collected → IsRun (record r { token = new })
refused_is_run h r new c collected was is left refused =
    let found : Token = record new { view = with_front new.view r.token.view.seen.front } in
    let here : IsIn found h = refused.here in
    seeing_is_run h (record r { token = found }) new.view.seen.front here (sought_is_run h r found is left was here refused.view) refused.looked.seen

-- whatever a try came to that made no entry
pub untried_is_run : (h : SharedHeap) (r : RunView) (new : Token) (c : Command) (served collected : Bool) (a : Attempt) → IsIn r.token h → IsRun r → r.left ≡ None → ((want : Want) × (a ≡ Needs want)) ⊎ (a ≡ NoRoom) → AttemptAnswers h r.token new c served collected a → IsRun (record r { token = new })
untried_is_run h r new c served collected a was is left how says = ⊎_elim
    (λ (needs : (want : Want) × (a ≡ Needs want)). let same : new ≡ r.token = (subst (AttemptAnswers h r.token new c served collected) needs.1 says).0 in subst (λ (t : Token). IsRun (record r { token = t })) (sym same) is)
    (λ (none : a ≡ NoRoom). refused_is_run h r new c collected was is left (subst (AttemptAnswers h r.token new c served collected) none says).0)
    how

-- what a pass that doesn't wait came to
pub passes_on : (decider : Decider) (h : SharedHeap) (old new : RunView) (p : LookOutcome) → PastAnswers h decider old new p → ((b : ℕ) → p ≡ Waits b → ⊥) → PassesOn h decider old new Did
passes_on decider h old new (Waits b) a other = absurd (other b refl)
passes_on decider h old new (Arrived kind) a other = inl a
passes_on decider h old new (Answered blocks None) a other = inr (inr (inl a))
passes_on decider h old new (Answered blocks (Some reply)) a other = inr (inl a)
passes_on decider h old new Runs a other = inr (inr (inr a))
