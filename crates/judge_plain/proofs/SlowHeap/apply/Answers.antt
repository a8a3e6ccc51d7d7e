use Rattle.judge_plain.proofs.SoundLemmas.{sound_followed}
use Rattle.judge_plain.proofs.SlowHeap.apply.Goals as goal

pub invariant_of-self : goal.invariant_of-self
invariant_of-self c = sound_followed _ _ c.args.entry.now c.follow.result c.self.invariant c.follow.ensures.state c.follow.ensures.err
