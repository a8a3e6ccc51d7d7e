use Rattle.std.proofs.Common.{inl, refl}
use Rattle.text_ends.proofs.mem_sink.MemSinkSink.write.Goals as goal

pub returns-then-is_among-clause-fails : goal.returns-then-is_among-clause-fails
returns-then-is_among-clause-fails c =
    let there = c.is_among.ensures.0 c.if-is_among.true in
    let numbered = rw (c.deref.ensures.value, c.saturating_add-self-inside.ensures) at there in
    rw (← c.self.view_is) ((λ _. inl numbered), (λ _. refl))
