-- The sections of an output of a script whose sections spawn one another, one after the other.
use Rattle.std.proofs.Common.{◌≡◌, ℕ, zero, suc, ◌<◌, ◌≤◌, ◌+◌, List, [], ◌++◌, refl, ap, sym, ◌∙◌, subst, append_assoc, append-nil, zero-add, add-one, flat_map, IsTrue, arith}
use Rattle.std.specs.List.{list_any, range_with_len}
use Rattle.std.specs.Prelude.{slice_index_or}
use borrow.Author.Count.{below_more}
use Rattle.model_core.specs.declared.command.Command.{Command}
use Rattle.model_core.specs.declared.entry.Entry.{Entry}
use Rattle.model_core.specs.declared.reply.Reply.{Reply}
use Rattle.model_core.specs.declared.state.Sizes.{Sizes}
use Rattle.model_core.specs.Output.{line, printed}
use Rattle.text_script.specs.Spelling.{heading_text}
use Rattle.model_traces.specs.Spawns.Hidden.{prelude}
use Rattle.model_traces.specs.Spawns.Printed.{printed_replies, spawning_section_text}
use Rattle.judge_plain.proofs.OfScheduled.ListLemmas.{flat_map_more}
use Rattle.judge_plain.specs.Spawned.Explains.{ExplainsSpawning, ExplainsSpawningFront, Makes}

pub spawning_nothing : (z : Sizes) (script : List (List Command)) (bytes : List ℕ) (h behind : List Entry) → ExplainsSpawningFront z script bytes h behind 0 bytes
spawning_nothing z script bytes h behind = record { each = λ d k. absurd (omega (arith, k)); bytes_are = refl }

pub spawning_more : (z : Sizes) (script : List (List Command)) (bytes : List ℕ) (h behind : List Entry) (d : ℕ) (rs : List Reply) (rest more : List ℕ) → ExplainsSpawningFront z script bytes h behind d rest → Makes z script h behind d
    → rs ≡ printed_replies z h d → rest ≡ (line (heading_text d) ++ printed rs) ++ more → ExplainsSpawningFront z script bytes h behind (d + 1) more
spawning_more z script bytes h behind d rs rest more before makes replies reads = record {
  each = λ k less. below_more (λ (n : ℕ). Makes z script h behind n) d before.each makes k less;
  bytes_are = before.bytes_are
      ∙ ap (λ (t : List ℕ). flat_map (spawning_section_text z h) (range_with_len 0 d) ++ t) (reads ∙ ap (λ (xs : List Reply). (line (heading_text d) ++ printed xs) ++ more) replies)
      ∙ sym (append_assoc (flat_map (spawning_section_text z h) (range_with_len 0 d)) (spawning_section_text z h d) more)
      ∙ ap (λ (t : List ℕ). t ++ more) (sym (flat_map_more (spawning_section_text z h) d));
}

pub spawning_all : (z : Sizes) (script : List (List Command)) (bytes : List ℕ) (h behind : List Entry) (n : ℕ) (rest : List ℕ) → 1 ≤ z.domains → h ≡ prelude z.domains ++ behind → n ≡ z.domains → ExplainsSpawningFront z script bytes h behind n rest → rest ≡ []
    → ExplainsSpawning z script bytes h
spawning_all z script bytes h behind n rest some begins whole before none =
    let front : ExplainsSpawningFront z script bytes h behind z.domains rest = subst (λ (k : ℕ). ExplainsSpawningFront z script bytes h behind k rest) whole before in
    record {
      legal = (front.each 0 (omega (arith, some))).legal;
      run = record { behind = behind; begins = begins; sections = λ d less. (front.each d less).section };
      each_ends = λ d less. (front.each d less).ends;
      prints = sym (front.bytes_are ∙ ap (λ (t : List ℕ). flat_map (spawning_section_text z h) (range_with_len 0 z.domains) ++ t) none ∙ append-nil (flat_map (spawning_section_text z h) (range_with_len 0 z.domains)));
    }
