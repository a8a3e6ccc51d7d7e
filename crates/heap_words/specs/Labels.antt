-- The words of labels.
use Rattle.std.specs.Prelude.{ℕ, ◌+◌, ◌*◌, ◌^◌, ◌<◌}

-- the word of a label: the serial above three bits for the domain
abbrev pub label_word : ℕ → ℕ → ℕ
label_word domain serial = serial * 8 + domain

-- the same of a pair
abbrev pub label_word_of : ℕ × ℕ → ℕ
label_word_of l = label_word l.0 l.1

-- the pairs of a domain and a serial that have a word
abbrev pub IsPackableLabel : ℕ × ℕ → Type 0
IsPackableLabel l = (l.0 < 8) × (l.1 < 2 ^ 32)
