-- Two replays of the same bytes spell one replay, and what its scheduled history prints doesn't depend on the sizes.
use Rattle.std.proofs.Common.{◌≡◌, ℕ, List, ◌++◌, Option, Some, None, ap, sym, subst, ◌∙◌, append-nil}
use Rattle.std.specs.Io.KnownBytes.{Consumes, IsAtEnd}
use Rattle.model_core.specs.declared.state.Sizes.{Sizes}
use Rattle.model_traces.proofs.OfSchedules.Resizing.{sizes_law}
use Rattle.text_script.specs.Schedule.Text.Replays.{Replayed, SpellsReplay}
use Rattle.text_script.proofs.OfSchedule.OfText.ReplayLemmas.{same_replay}
use Rattle.camlheap_run.specs.Replaying.{scheduled_text}
use Rattle.check_laws.specs.Runs.Repeated.{ReplaysAreRepeated}
use Rattle.check_laws.proofs.OfRuns.Explaining.{same_rest}

-- a source that was read to its end had these bytes
whole : (told bytes : List ℕ) (after : Option (List ℕ)) → Consumes (Some told) after bytes → IsAtEnd after → told ≡ bytes
whole told bytes None consumed end = absurd consumed
whole told bytes (Some rest) consumed end = consumed ∙ ap (λ (r : List ℕ). bytes ++ r) end ∙ append-nil bytes

same_bytes : (y z : Sizes) (r s : Replayed) (one other : List ℕ) → y.domains ≡ z.domains → r ≡ s → one ≡ scheduled_text y r → other ≡ scheduled_text z s → one ≡ other
same_bytes y z r s one other domains same is are =
    is ∙ (sizes_law y z r.script.sections r.items domains).1 ∙ ap (λ (t : Replayed). scheduled_text z t) same ∙ sym are

pub repeated_replays : ReplaysAreRepeated
repeated_replays y z first second told left rest before behind one other domains small x w =
    let told_x = whole told x.reads.bytes left x.reads.consumed x.reads.at_end in
    let told_w = whole told w.reads.bytes rest w.reads.consumed w.reads.at_end in
    let mine : SpellsReplay y.domains y.pools x.replay told = subst (λ (b : List ℕ). SpellsReplay y.domains y.pools x.replay b) (sym told_x) x.reads.spelled in
    let theirs : SpellsReplay y.domains z.pools w.replay told =
    subst (λ (d : ℕ). SpellsReplay d z.pools w.replay told) (sym domains) (subst (λ (b : List ℕ). SpellsReplay z.domains z.pools w.replay b) (sym told_w) w.reads.spelled) in
    same_bytes y z x.replay w.replay one other domains (same_replay y.domains y.pools z.pools x.replay w.replay told small mine theirs)
    (same_rest before one (scheduled_text y x.replay) x.writes.scheduled) (same_rest behind other (scheduled_text z w.replay) w.writes.scheduled)
