-- The table of lines: each line's word, the numbers behind it with their ranges, and how the line is made of them.
use Rattle.std.specs.Prelude.{ℕ, ℤ, pos, unsigned_abs, Bool, true, ◌&&◌, min, List, [], ◌∷◌, slice_index_or, Option, find, codes, bytes_eq, int_le, neg_ℤ}
use Rattle.table_text.specs.declared.line.TableLine.{TableLine}
use Rattle.table_text.specs.declared.line.TableLine.TheVariants.{Key, Forget, Put, Get, Del, SetWeak, GetWeak, Count, FullMajor}
use Rattle.table_text.specs.declared.word.Operand.{Operand}
use Rattle.table_text.specs.declared.word.Operand.TheVariants.{Register, Slot, Integer}
use Rattle.table_text.specs.declared.word.Word.{Word}
use Rattle.table_text.specs.declared.word.Word.TheVariants as word

-- the least number of each kind
abbrev pub least : Operand → ℤ
least Register = pos 1
least Slot = pos 0
least Integer = neg_ℤ (pos 4611686018427387904)

-- the greatest number of each kind
abbrev pub greatest : Operand → ℤ
greatest Register = pos 5
greatest Slot = pos 15
greatest Integer = pos 4611686018427387903

-- whether a number is in the range of its kind
abbrev pub fits : Operand → ℤ → Bool
fits kind z = int_le (least kind) z && int_le z (greatest kind)

-- a row of the table
pub record Form : Type 0 where
  pub text : List ℕ
  pub operands : List Operand
  pub make : ℤ → ℤ → TableLine

-- a register or a slot, as a line holds it: one in its range stays as it is
abbrev pub byte : ℤ → ℕ
byte z = min (unsigned_abs z) 255

abbrev pub row : List ℕ → List Operand → (ℤ → ℤ → TableLine) → Form
row text operands make = record { text = text; operands = operands; make = make }

-- the table
abbrev pub form : Word → Form
form word.Key = row (codes "key") (Register ∷ []) (λ reg _. Key (byte reg))
form word.Forget = row (codes "forget") (Register ∷ []) (λ reg _. Forget (byte reg))
form word.Put = row (codes "put") (Register ∷ Integer ∷ []) (λ reg value. Put (byte reg) value)
form word.Get = row (codes "get") (Register ∷ []) (λ reg _. Get (byte reg))
form word.Del = row (codes "del") (Register ∷ []) (λ reg _. Del (byte reg))
form word.SetWeak = row (codes "wset") (Slot ∷ Register ∷ []) (λ slot reg. SetWeak (byte slot) (byte reg))
form word.GetWeak = row (codes "wget") (Register ∷ Slot ∷ []) (λ dst slot. GetWeak (byte dst) (byte slot))
form word.Count = row (codes "count") [] (λ _ _. Count)
form word.FullMajor = row (codes "full_major") [] (λ _ _. FullMajor)

abbrev pub all_words : List Word
all_words = word.Key ∷ word.Forget ∷ word.Put ∷ word.Get ∷ word.Del ∷ word.SetWeak ∷ word.GetWeak ∷ word.Count ∷ word.FullMajor ∷ []

-- the row that a text is the word of, if it is one
abbrev pub word_of : List ℕ → Option Word
word_of text = find (λ w. bytes_eq (form w).text text) all_words

-- the line of a row and its numbers
abbrev pub made : Word → List ℤ → TableLine
made w zs = (form w).make (slice_index_or zs 0 (pos 0)) (slice_index_or zs 1 (pos 0))

-- a line taken apart: its row and its numbers
pub record Parts : Type 0 where
  pub word : Word
  pub numbers : List ℤ

-- each line, taken apart
abbrev pub parts : TableLine → Parts
parts (Key reg) = record { word = word.Key; numbers = pos reg ∷ [] }
parts (Forget reg) = record { word = word.Forget; numbers = pos reg ∷ [] }
parts (Put reg value) = record { word = word.Put; numbers = pos reg ∷ value ∷ [] }
parts (Get reg) = record { word = word.Get; numbers = pos reg ∷ [] }
parts (Del reg) = record { word = word.Del; numbers = pos reg ∷ [] }
parts (SetWeak slot reg) = record { word = word.SetWeak; numbers = pos slot ∷ pos reg ∷ [] }
parts (GetWeak dst slot) = record { word = word.GetWeak; numbers = pos dst ∷ pos slot ∷ [] }
parts Count = record { word = word.Count; numbers = [] }
parts FullMajor = record { word = word.FullMajor; numbers = [] }

-- whether each number is in the range of its operand
abbrev pub all_fit : List Operand → List ℤ → Bool
all_fit (kind ∷ kinds) (z ∷ zs) = fits kind z && all_fit kinds zs
all_fit _ _ = true

-- whether a line is one of the grammar: its numbers are in their ranges
abbrev pub is_writable : TableLine → Bool
is_writable l = let p = parts l in all_fit (form p.word).operands p.numbers
