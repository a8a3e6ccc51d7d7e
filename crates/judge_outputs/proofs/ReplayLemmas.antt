-- What is told of the output of a replay.
use Rattle.std.proofs.Common.{◌≡◌, ◌≢◌, ℕ, List, length, ne_eqb, Some, None}
use Rattle.model_core.specs.declared.state.Sizes.{Sizes}
use Rattle.text_script.specs.Forms.{version_number}
use Rattle.text_script.specs.Script.{Scripted}
use Rattle.text_script.specs.declared.version.Version.TheVariants.{Three}
use Rattle.text_script.proofs.SpellsLemmas.{length-script}
use Rattle.std.specs.Prelude.{drop}
use Rattle.judge_plain.proofs.OfScheduled.DifferLemmas.{none_same, some_other}
use Rattle.judge_plain.proofs.OfScheduled.PlainLemmas.{plain_script}
use Rattle.judge_plain.specs.Scheduled.Lines.{differs_from}
use Rattle.text_script.specs.Schedule.Text.Replays.{Replayed}
use Rattle.model_traces.specs.Scheduled.Runs.{IsPlainScript}
use Rattle.judge_outputs.specs.declared.replaying.JudgedReplay.TheVariants.{Legal, Differs}
use Rattle.judge_outputs.specs.Judging.{IsInput}
use Rattle.judge_outputs.specs.Replays.{IsReplayInput, TellsReplay, other_text, same_text, scheduled_output}

-- a replay has a section for each domain, and its script neither spawns nor joins
pub has_sections : (z : Sizes) (bytes shown : List ℕ) (r : Replayed) → IsReplayInput z bytes r shown → length r.script.sections ≡ z.domains
has_sections z bytes shown r input = length-script Three z.domains r.script (drop input.spelled.place input.text) input.spelled.script

pub is_plain : (z : Sizes) (bytes shown : List ℕ) (r : Replayed) → IsReplayInput z bytes r shown → IsPlainScript r.script.sections
is_plain z bytes shown r input = plain_script Three z.domains r.script (drop input.spelled.place input.text) input.spelled.script input.spelled.can.no_spawns

-- and so has a script that is judged, if it isn't of version 3
pub input_sections : (z : Sizes) (bytes shown : List ℕ) (script : Scripted) → IsInput z.domains bytes script shown → length script.sections ≡ z.domains
input_sections z bytes shown script input = length-script Three z.domains script input.text input.spelled

pub input_plain : (z : Sizes) (bytes shown : List ℕ) (script : Scripted) → IsInput z.domains bytes script shown → version_number script.version ≢ 3 → IsPlainScript script.sections
input_plain z bytes shown script input older = plain_script Three z.domains script input.text input.spelled (ne_eqb (version_number script.version) 3 older)

-- what is told of an output that differs in no line, and of one that does
pub tells_same : (z : Sizes) (bytes shown text : List ℕ) (r : Replayed) → IsReplayInput z bytes r shown → differs_from 1 (scheduled_output z r) shown ≡ None → text ≡ same_text → TellsReplay z bytes Legal text
tells_same z bytes shown text r input none is = record { replay = r; shown = shown; input = input; same = none_same 1 (scheduled_output z r) shown none; text_is = is }

pub tells_other : (z : Sizes) (bytes shown text : List ℕ) (r : Replayed) (n : ℕ) → IsReplayInput z bytes r shown → differs_from 1 (scheduled_output z r) shown ≡ Some n → text ≡ other_text n → TellsReplay z bytes (Differs n) text
tells_other z bytes shown text r n input some is = record { replay = r; shown = shown; input = input; differs = some; other = some_other 1 n (scheduled_output z r) shown some; text_is = is }
