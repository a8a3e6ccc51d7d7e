-- A domain that has made its section.
use Rattle.std.proofs.Common.{◌≡◌, ℕ, ◌-◌, Bool, true, IsTrue, List, [], ◌∷◌, ◌++◌, length, take, refl, ap, sym, ◌∙◌, subst, arith, length-append}
use Rattle.std.specs.Prelude.{slice_index_or}
use Rattle.std.specs.List.{list_any}
use Rattle.std.proofs.Math.Seq.{take-append_seam}
use Rattle.model_core.specs.declared.command.Command.{Command}
use Rattle.model_core.specs.declared.command.Command.TheVariants.{Spawn}
use Rattle.model_core.specs.declared.entry.Entry.{Entry}
use Rattle.model_core.specs.declared.reply.Reply.{Reply}
use Rattle.model_core.specs.declared.state.Sizes.{Sizes}
use Rattle.model_core.specs.declared.state.State.{State}
use Rattle.model_core.specs.Domains.{opening}
use Rattle.model_core.specs.History.{Legal, LegalFrom, state_after}
use Rattle.text_script.specs.Spawning.{is_spawned as is_spawned_in, spawns}
use Rattle.judge_plain.specs.History.Steps.{is_end_of}
use Rattle.model_traces.specs.Spawns.Expansion.{IsSection, Step, is_spawn_of, is_spawned, section_at, steps_from}
use Rattle.model_traces.specs.Spawns.Hidden.{prelude}
use Rattle.model_traces.specs.Spawns.Printed.{printed_replies}
use Rattle.judge_plain.specs.Spawned.Explains.{Makes, MakesSection}
use Rattle.judge_plain.specs.Spawned.Told.{Tells}
use Rattle.judge_plain.proofs.OfSpawned.TellLemmas.{ends_behind, legal_both, replies_both, steps_behind}

same_spawn : (d : ℕ) (c : Command) → spawns d c ≡ is_spawn_of d c
same_spawn d (Spawn section item) = refl
same_spawn d _ = refl

same_spawned : (script : List (List Command)) (d : ℕ) → is_spawned_in script d ≡ is_spawned script d
same_spawned script d = ap (λ (f : Command → Bool). list_any (list_any f) script) (λ i c. same_spawn d c i)

pub section_made : (script : List (List Command)) (d : ℕ) (spawned : Bool) (cs : List Command) (steps : List Step) (ended : Bool) → spawned ≡ is_spawned_in script d → cs ≡ slice_index_or script d [] → ended ≡ true → IsSection d spawned cs steps
    → MakesSection script d steps ended
section_made script d spawned cs steps ended spawn commands over section = record {
  section = subst (λ (b : Bool). IsSection d b (section_at script d) steps) (spawn ∙ same_spawned script d) (subst (λ (ds : List Command). IsSection d spawned ds steps) commands section);
  over = over;
}

pub makes_of : (z : Sizes) (script : List (List Command)) (d : ℕ) (front behind : List Entry) (s t u : State) (xs ys : List Step) (b c : Bool) (r0 r1 r2 : List Reply) → s ≡ opening z → front ≡ prelude z.domains → Tells s t d front xs b r0 r1
    → Tells t u d behind ys c r1 r2 → MakesSection script d ys c → Makes z script (front ++ behind) behind d
makes_of z script d front behind s t u xs ys b c r0 r1 r2 start begins first second made = record {
  section = subst (IsSection d (is_spawned script d) (section_at script d)) steps made.section;
  ends = ends_behind t u d front behind ys c r1 r2 second made.over;
  legal = subst (λ (x : State). LegalFrom x (front ++ behind)) start (legal_both s t u d front behind xs ys b c r0 r1 r2 first second);
}
  where
    steps : ys ≡ steps_from (state_after (opening z) (prelude z.domains)) behind d
    steps = steps_behind s t u d front behind xs ys b c r0 r1 r2 first second ∙ ap (λ (x : State). steps_from (state_after x front) behind d) start ∙ ap (λ (h : List Entry). steps_from (state_after (opening z) h) behind d) begins

pub replies_of : (z : Sizes) (d : ℕ) (front behind : List Entry) (s t u : State) (xs ys : List Step) (b c : Bool) (r0 r1 r2 : List Reply) → s ≡ opening z → r0 ≡ [] → Tells s t d front xs b r0 r1 → Tells t u d behind ys c r1 r2
    → r2 ≡ printed_replies z (front ++ behind) d
replies_of z d front behind s t u xs ys b c r0 r1 r2 start none first second =
    replies_both z t u d front behind xs ys b c r1 r2 (subst (λ (rs : List Reply). Tells (opening z) t d front xs b rs r1) none (subst (λ (x : State). Tells x t d front xs b r0 r1) start first)) second

-- what stands before the rest of a history
pub front_is : (h front behind : List Entry) → h ≡ front ++ behind → take (length h - length behind) h ≡ front
front_is h front behind is =
    let sizes : length h - length behind ≡ length front = (let all = ap length is ∙ length-append front behind in omega (arith, all)) in
    ap (λ (n : ℕ). take n h) sizes ∙ ap (take (length front)) is ∙ take-append_seam front behind
