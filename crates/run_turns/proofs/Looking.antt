-- A domain that has looked at the want word, and done nothing else.
use Rattle.std.proofs.Common.{◌≡◌, ℕ, Bool, Option, refl, sym, subst}
use Rattle.heap_rule.specs.declared.config.Config.{Config}
use Rattle.heap_rule.specs.declared.phase.Kind.{Kind}
use Rattle.heap_rule.specs.declared.phase.Note.{Note}
use Rattle.heap_rule.specs.declared.phase.Progress.{Progress}
use Rattle.heap_rule.specs.declared.view.DomainView.{DomainView}
use Rattle.heap_rule.specs.Standing.{noted}
use Rattle.heap_rule.specs.Token.{Token, SharedHeap, IsIn}
use Rattle.gc_mark.proofs.Going.{stays_same}
use Rattle.run_turns.specs.Pausing.{HasLeft, IsPast}
use Rattle.run_turns.specs.Runs.{RunView, IsBetween, IsRun, noted_token}
use Rattle.run_turns.proofs.Moving.{moved_is_run, still_moves, token_is}

noted_past : (k : Config) (kind : Kind) (x : DomainView) (n : Note) → IsPast k kind x → IsPast k kind (noted x n)
noted_past k kind x n p = record { remembers = p.remembers; looked_through = p.looked_through; holds_old = p.holds_old; emptied = p.emptied; forgotten = p.forgotten; void = p.void; answer = p.answer }

pub noted_left : (k : Config) (kind : Kind) (x : DomainView) (n : Note) → HasLeft k kind x → HasLeft k kind (noted x n)
noted_left k kind x n left = record {
  past = λ either. noted_past k kind x n (left.past either);
  ready = λ even first. let r = left.ready even first in record { before = r.before; follows = r.follows; past = noted_past k r.before x n r.past; fresh = r.fresh };
}

looked_between : (left : Option Kind) (asked : Option ℕ) (collected : Bool) (progress : Progress) (t : Token) (n : Note) → IsBetween left asked collected progress t → IsBetween left asked collected progress (noted_token t n)
looked_between left asked collected progress t n b =
    let q = b.quiet in record {
      stands = b.stands;
      quiet = record { quiet = q.quiet; no_copies = q.no_copies; unprepared = q.unprepared; paid = q.paid };
      even = b.even;
      remembers = b.remembers;
      emptied = b.emptied;
      has_left = λ known e. noted_left t.config known t.view n (b.has_left known e);
      fresh = b.fresh;
      knows = b.knows;
    }

-- its run is as it was
pub looked_is_run : (h : SharedHeap) (r : RunView) (new : Token) (n : Note) → IsRun r → IsIn r.token h → IsIn new h → new.view ≡ noted r.token.view n → IsRun (record r { token = new })
looked_is_run h r new n is was here view =
    let same : new ≡ noted_token r.token n = token_is h r.token new (noted r.token.view n) was here view in
    moved_is_run r new r.left r.asked r.collected r.progress r.hints is (stays_same r.hints) (still_moves h r.token new _ was here view refl refl refl refl refl refl refl) is.unasked
    (subst (λ (t : Token). IsBetween r.left r.asked r.collected r.progress t) (sym same) (looked_between r.left r.asked r.collected r.progress r.token n is.between))
