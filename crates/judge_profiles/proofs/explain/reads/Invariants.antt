use Rattle.std.proofs.Common.{map}
use Rattle.judge_profiles.specs.Explains.{ReadsFront}
use Rattle.judge_profiles.proofs.explain.reads.Given as goal

abbrev pub invariant-loop-d : goal.invariant-loop-d
invariant-loop-d l = ReadsFront l.profile l.d l.reading.script.sections l.script.sections l.reading.output.items l.output (map (λ v. v.items) l.reading.acts.items) (map (λ v. v.items) l.reading.changes.items) l.own_rest l.rest
