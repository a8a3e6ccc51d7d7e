-- Which replays the clause `replay` refuses.
use Rattle.std.proofs.Common.{◌≡◌, ◌++◌, ℕ, ◌<◌, ◌^◌, List, Option, Some, None, sym, ap, ◌∙◌, subst}
use Rattle.std.proofs.KnownBytes.{Consumes-whole}
use Rattle.model_core.specs.declared.state.Sizes.{Sizes}
use Rattle.heap_rule.specs.Ending.{EndedHeap}
use Rattle.model_traces.proofs.OfSchedules.Resizing.{sizes_law}
use Rattle.text_script.specs.Schedule.Text.Replays.{Replayed, SpellsReplay}
use Rattle.text_script.proofs.OfSchedule.OfText.ReplayLemmas.{same_replay}
use Rattle.camlheap_run.specs.Replaying.{ReplaysToEnd, scheduled_text}

-- two replays of one schedule and one script write the same
pub one_replay_is_written : (z : Sizes) (one two : Option EndedHeap) (left left_after more more_after : Option (List ℕ)) (old a b : List ℕ) (x : ReplaysToEnd z one left left_after (Some old) (Some a)) (y : ReplaysToEnd z two more more_after (Some old) (Some b))
    → x.replay ≡ y.replay → a ≡ b
one_replay_is_written z one two left left_after more more_after old a b x y same = x.writes.scheduled ∙ ap (λ (r : Replayed). old ++ scheduled_text z r) same ∙ sym y.writes.scheduled

-- none is made without a heap
pub no_replay_without_a_heap : (z : Sizes) (ended : Option EndedHeap) (left left_after before after : Option (List ℕ)) → ReplaysToEnd z ended left left_after before after → ended ≡ None → ⊥
no_replay_without_a_heap z ended left left_after before after x none = let clash : Some x.writes.writes.ran.past ≡ None = sym x.writes.writes.ran.is_past ∙ none in cc

-- a source that tells its bytes has told those of the replay
replay_told : (z : Sizes) (ended : Option EndedHeap) (input : List ℕ) (left before after : Option (List ℕ)) (x : ReplaysToEnd z ended (Some input) left before after) → SpellsReplay z.domains z.pools x.replay input
replay_told z ended input left before after x = Consumes-whole (Some input) left x.reads.bytes (SpellsReplay z.domains z.pools x.replay) x.reads.consumed x.reads.at_end x.reads.spelled

-- two replays of one input on heaps of as many domains write the same, whatever their pools and their minor areas
pub one_input_is_one_output : (y z : Sizes) (one two : Option EndedHeap) (input : List ℕ) (left more : Option (List ℕ)) (old a b : List ℕ) → y.domains ≡ z.domains → y.domains < 2 ^ 32
    → ReplaysToEnd y one (Some input) left (Some old) (Some a) → ReplaysToEnd z two (Some input) more (Some old) (Some b) → a ≡ b
one_input_is_one_output y z one two input left more old a b same small s t =
    let told = replay_told z two input more (Some old) (Some b) t in
    let replay : s.replay ≡ t.replay = same_replay y.domains y.pools z.pools s.replay t.replay input small (replay_told y one input left (Some old) (Some a) s) (subst (λ n. SpellsReplay n z.pools t.replay input) (sym same) told) in
    let text : scheduled_text y t.replay ≡ scheduled_text z t.replay = (sizes_law y z t.replay.script.sections t.replay.items same).1 in
    s.writes.scheduled ∙ (ap (λ (r : Replayed). old ++ scheduled_text y r) replay ∙ (ap (λ (text : List ℕ). old ++ text) text ∙ sym t.writes.scheduled))
