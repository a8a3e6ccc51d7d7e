-- What it is that a history explains an output.
use Rattle.std.specs.Prelude.{◌≡◌, ℕ, ◌<◌, Bool, List, [], ◌++◌, flat_map, slice_index_or, IsTrue}
use Rattle.std.specs.List.{list_any, range_with_len}
use Rattle.model_core.specs.declared.command.Command.{Command}
use Rattle.model_core.specs.declared.entry.Entry.{Entry}
use Rattle.model_core.specs.declared.reply.Reply.{Reply}
use Rattle.model_core.specs.declared.state.Sizes.{Sizes}
use Rattle.model_core.specs.History.{Legal, commands}
use Rattle.model_core.specs.Output.{line, output, printed, section_text}
use Rattle.text_script.specs.Spelling.{heading_text}
use Rattle.judge_plain.specs.History.Steps.{is_end_of}

-- a legal history in which each domain's commands are those of its section, each once and in order, and each domain ends
pub record IsRunOf (z : Sizes) (sections : List (List Command)) (history : List Entry) : Type 0 where
  pub legal : Legal z history
  pub each_command : (d : ℕ) → d < z.domains → commands history d ≡ slice_index_or sections d []
  pub each_ends : (d : ℕ) → d < z.domains → IsTrue (list_any (is_end_of d) history)

-- such a history, which prints these bytes
pub record Explains (z : Sizes) (sections : List (List Command)) (bytes : List ℕ) (history : List Entry) : Type 0 where
  pub run : IsRunOf z sections history
  pub prints : output z history ≡ bytes

-- an answer is yes where a history explains an output
abbrev pub IsYesTo : Sizes → List (List Command) → List ℕ → List Entry → Bool → Type 0
IsYesTo z sections bytes history says = Explains z sections bytes history → IsTrue says

-- the lines of a domain's section, behind its heading
abbrev pub section_lines : ℕ → List Reply → List ℕ
section_lines d rs = line (heading_text d) ++ printed rs

-- the same of the first n domains, whose sections of lines stand before the rest of the bytes
pub record ExplainsFront (z : Sizes) (sections : List (List Command)) (bytes : List ℕ) (history : List Entry) (n : ℕ) (rest : List ℕ) : Type 0 where
  pub each_command : (d : ℕ) → d < n → commands history d ≡ slice_index_or sections d []
  pub each_ends : (d : ℕ) → d < n → IsTrue (list_any (is_end_of d) history)
  pub bytes_are : bytes ≡ flat_map (section_text z history) (range_with_len 0 n) ++ rest
