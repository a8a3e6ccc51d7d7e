use Rattle.model_core.specs.Domains.{sizes_of}
use Rattle.judge_plain.proofs.SoundLemmas.{sound_opening}
use Rattle.judge_plain.proofs.SlowHeap.make.Goals as goal

pub invariant_of-result : goal.invariant_of-result
invariant_of-result c = rw c.in_ok-state.ensures (sound_opening (sizes_of c.args.domains c.args.pools c.args.minor_words c.args.classes) c.requires)
