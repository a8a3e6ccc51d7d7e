-- What the judge has written, where it has read its input whole.
use Rattle.std.proofs.Common.{◌≡◌, ℕ, List, Option, sym, subst}
use Rattle.model_core.specs.declared.state.Sizes.{Sizes}
use Rattle.judge_outputs.specs.declared.judged.Judged.{Judged}
use Rattle.judge_outputs.specs.declared.judged.Judged.TheVariants as judged
use Rattle.judge_outputs.specs.declared.scheduling.TurnsJudged.{TurnsJudged}
use Rattle.judge_outputs.specs.declared.scheduling.TurnsJudged.TheVariants.{Printed, NoSchedule, Other}
use Rattle.judge_outputs.specs.Judging as judging
use Rattle.judge_outputs.specs.Judging.{IsTold, Tells}
use Rattle.judge_outputs.specs.Reading.{IsReadWhole}
use Rattle.judge_outputs.specs.Scheduling as scheduling
use Rattle.judge_outputs.specs.Scheduling.{IsTurnsTold, TellsTurns}
use Rattle.judge_outputs.specs.Written.{Judges, WritesAnswer, WritesFront}

-- an answer that is told is written whole
module _ {J : Type 0} (Told : J → Type 0) (T : List ℕ → J → List ℕ → Type 0) (left_before left_after before after : Option (List ℕ)) (bytes : List ℕ) (read : IsReadWhole left_before left_after bytes) where
  whole : (j this : J) → Told this → (Told j → WritesAnswer (T bytes) j before after) → j ≡ this → Judges T this left_before left_after before after
  whole j this told writes is = record { bytes = bytes; read = read; holds = subst (λ k. WritesAnswer (T bytes) k before after) is (writes (subst Told (sym is) told)) }

pub wrote : (z : Sizes) (j : Judged) (left_before left_after before after : Option (List ℕ)) (bytes : List ℕ) → IsReadWhole left_before left_after bytes
    → (IsTold j → WritesAnswer (Tells z bytes) j before after) → (j ≡ judged.WriteFault → WritesFront (Tells z bytes) before after) → judging.Wrote z j left_before left_after before after
wrote z j left_before left_after before after bytes read told cut = record {
  legal = whole IsTold (Tells z) left_before left_after before after bytes read j judged.Legal tt told;
  none_found = whole IsTold (Tells z) left_before left_after before after bytes read j judged.NoneFound tt told;
  gave_up = whole IsTold (Tells z) left_before left_after before after bytes read j judged.GaveUp tt told;
  cut = λ is. record { bytes = bytes; read = read; holds = cut is };
}

pub wrote_turns : (z : Sizes) (j : TurnsJudged) (left_before left_after before after : Option (List ℕ)) (bytes : List ℕ) → IsReadWhole left_before left_after bytes
    → (IsTurnsTold j → WritesAnswer (TellsTurns z bytes) j before after) → (j ≡ Other judged.WriteFault → WritesFront (TellsTurns z bytes) before after) → scheduling.Wrote z j left_before left_after before after
wrote_turns z j left_before left_after before after bytes read told cut = record {
  printed = whole IsTurnsTold (TellsTurns z) left_before left_after before after bytes read j Printed tt told;
  no_schedule = whole IsTurnsTold (TellsTurns z) left_before left_after before after bytes read j NoSchedule tt told;
  none_found = whole IsTurnsTold (TellsTurns z) left_before left_after before after bytes read j (Other judged.NoneFound) tt told;
  gave_up = whole IsTurnsTold (TellsTurns z) left_before left_after before after bytes read j (Other judged.GaveUp) tt told;
  cut = λ is. record { bytes = bytes; read = read; holds = cut is };
}
