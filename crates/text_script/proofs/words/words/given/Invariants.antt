use Rattle.std.proofs.Common.{◌≡◌, map, drop}
use Rattle.std.specs.Prelude.{string_bytes}
use Rattle.text_script.specs.Words.Options.{given_by, nothing_read}
use Rattle.text_script.proofs.words.words.given.Given as goal

abbrev pub invariant-loop-word : goal.invariant-loop-word
invariant-loop-word l = given_by l.read (map string_bytes (drop l.word-index l.words)) ≡ given_by nothing_read (map string_bytes l.fn.words)
