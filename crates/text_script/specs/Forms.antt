-- The table of commands: each command's word, the numbers of its line with their ranges, and how the command is made of them.
use Rattle.std.specs.Prelude.{ℕ, ◌-◌, ℤ, pos, unsigned_abs, Bool, true, ◌&&◌, is_some, min, List, [], ◌∷◌, map, slice_index_or, Option, find, codes, bytes_eq, int_le, neg_ℤ}
use Rattle.model_core.specs.declared.command.Command.{Command}
use Rattle.model_core.specs.declared.command.Command.TheVariants.{PutInt, Copy, Forget, Alloc, AllocMaj, Load, Store, Raw, Cas, Ephe, SetKey, UnsetKey, GetKey, CheckKey, SetData, UnsetData, GetData, CheckData, Finalise, FinaliseLast, Poll, Minor, Major, FullMajor, Spawn, Argument, PutResult, Join}
use Rattle.text_script.specs.declared.form.Operand.{Operand}
use Rattle.text_script.specs.declared.form.Operand.TheVariants.{Register, Tag, RawTag, FieldCount, KeyCount, Index, FinaliserNumber, Integer, Section}
use Rattle.text_script.specs.declared.form.Word.{Word}
use Rattle.text_script.specs.declared.version.Version.{Version}
use Rattle.text_script.specs.declared.version.Version.TheVariants.{One, Two, Three}
use Rattle.text_script.specs.declared.form.Word.TheVariants as word

-- the number of each version, and the first line of its scripts
abbrev pub version_number : Version → ℕ
version_number One = 1
version_number Two = 2
version_number Three = 3

abbrev pub first_line : Version → List ℕ
first_line One = codes "heap 1"
first_line Two = codes "heap 2"
first_line Three = codes "heap 3"

-- the most fields that a block has in scripts of a version
abbrev pub most_fields : Version → ℕ
most_fields One = 126
most_fields Two = 1022
most_fields Three = 1022

-- the greatest register that they name: spawn and join keep two for themselves
abbrev pub last_register : Version → ℕ
last_register One = 15
last_register Two = 15
last_register Three = 13

-- the least number of each kind
abbrev pub least : Operand → ℤ
least RawTag = pos 251
least FieldCount = pos 1
least KeyCount = pos 1
least Integer = neg_ℤ (pos 4611686018427387904)
least _ = pos 0

-- the greatest number of each kind, in scripts of a version for a run with so many domains
abbrev pub greatest : Version → ℕ → Operand → ℤ
greatest ver domains Register = pos (last_register ver)
greatest ver domains Tag = pos 245
greatest ver domains RawTag = pos 255
greatest ver domains FieldCount = pos (most_fields ver)
greatest ver domains KeyCount = pos 8
greatest ver domains Index = pos 1023
greatest ver domains FinaliserNumber = pos 65535
greatest ver domains Integer = pos 4611686018427387903
greatest ver domains Section = pos (min 7 (domains - 1))

-- whether a number is in the range of its kind
abbrev pub fits : Version → ℕ → Operand → ℤ → Bool
fits ver domains kind z = int_le (least kind) z && int_le z (greatest ver domains kind)

-- a row of the table
pub record Form : Type 0 where
  pub text : List ℕ
  pub operands : List Operand
  pub make : ℤ → ℤ → ℤ → ℤ → Command

-- a number as a variant's field of 8, 16 or 32 bits holds it: one in its range stays as it is
abbrev pub byte : ℤ → ℕ
byte z = min (unsigned_abs z) 255

abbrev pub short : ℤ → ℕ
short z = min (unsigned_abs z) 65535

abbrev pub wide : ℤ → ℕ
wide z = min (unsigned_abs z) 4294967295

abbrev pub row : List ℕ → List Operand → (ℤ → ℤ → ℤ → ℤ → Command) → Form
row text operands make = record { text = text; operands = operands; make = make }

-- the table
abbrev pub form : Word → Form
form word.Int = row (codes "int") (Register ∷ Integer ∷ []) (λ dst value _ _. PutInt (byte dst) value)
form word.Move = row (codes "move") (Register ∷ Register ∷ []) (λ dst src _ _. Copy (byte dst) (byte src))
form word.Drop = row (codes "drop") (Register ∷ []) (λ dst _ _ _. Forget (byte dst))
form word.Alloc = row (codes "alloc") (Register ∷ Tag ∷ FieldCount ∷ []) (λ dst tag fields _. Alloc (byte dst) (byte tag) (short fields))
form word.AllocMaj = row (codes "allocmaj") (Register ∷ Tag ∷ FieldCount ∷ []) (λ dst tag fields _. AllocMaj (byte dst) (byte tag) (short fields))
form word.Load = row (codes "load") (Register ∷ Register ∷ Index ∷ []) (λ dst src index _. Load (byte dst) (byte src) (short index))
form word.Store = row (codes "store") (Register ∷ Index ∷ Register ∷ []) (λ block index item _. Store (byte block) (short index) (byte item))
form word.Raw = row (codes "raw") (Register ∷ RawTag ∷ FieldCount ∷ []) (λ dst tag fields _. Raw (byte dst) (byte tag) (short fields))
form word.Cas = row (codes "cas") (Register ∷ Index ∷ Register ∷ Register ∷ []) (λ block index expected item. Cas (byte block) (short index) (byte expected) (byte item))
form word.Ephe = row (codes "ephe") (Register ∷ KeyCount ∷ []) (λ dst keys _ _. Ephe (byte dst) (short keys))
form word.SetKey = row (codes "set_key") (Register ∷ Index ∷ Register ∷ []) (λ ephe index item _. SetKey (byte ephe) (short index) (byte item))
form word.UnsetKey = row (codes "unset_key") (Register ∷ Index ∷ []) (λ ephe index _ _. UnsetKey (byte ephe) (short index))
form word.GetKey = row (codes "get_key") (Register ∷ Register ∷ Index ∷ []) (λ dst ephe index _. GetKey (byte dst) (byte ephe) (short index))
form word.CheckKey = row (codes "check_key") (Register ∷ Index ∷ []) (λ ephe index _ _. CheckKey (byte ephe) (short index))
form word.SetData = row (codes "set_data") (Register ∷ Register ∷ []) (λ ephe item _ _. SetData (byte ephe) (byte item))
form word.UnsetData = row (codes "unset_data") (Register ∷ []) (λ ephe _ _ _. UnsetData (byte ephe))
form word.GetData = row (codes "get_data") (Register ∷ Register ∷ []) (λ dst ephe _ _. GetData (byte dst) (byte ephe))
form word.CheckData = row (codes "check_data") (Register ∷ []) (λ ephe _ _ _. CheckData (byte ephe))
form word.Finalise = row (codes "finalise") (Register ∷ FinaliserNumber ∷ Register ∷ []) (λ item number dst _. Finalise (byte item) (wide number) (byte dst))
form word.FinaliseLast = row (codes "finalise_last") (Register ∷ FinaliserNumber ∷ []) (λ item number _ _. FinaliseLast (byte item) (wide number))
form word.Poll = row (codes "poll") [] (λ _ _ _ _. Poll)
form word.Minor = row (codes "minor") [] (λ _ _ _ _. Minor)
form word.Major = row (codes "major") [] (λ _ _ _ _. Major)
form word.FullMajor = row (codes "full_major") [] (λ _ _ _ _. FullMajor)
form word.Spawn = row (codes "spawn") (Section ∷ Register ∷ []) (λ section item _ _. Spawn (wide section) (byte item))
form word.Argument = row (codes "argument") (Register ∷ []) (λ dst _ _ _. Argument (byte dst))
form word.Result = row (codes "result") (Register ∷ []) (λ item _ _ _. PutResult (byte item))
form word.Join = row (codes "join") (Register ∷ Section ∷ []) (λ dst section _ _. Join (byte dst) (wide section))

-- the words of the first version
abbrev pub first_words : List Word
first_words = word.Int ∷ word.Move ∷ word.Drop ∷ word.Alloc ∷ word.AllocMaj ∷ word.Load ∷ word.Store ∷ word.Ephe ∷ word.SetKey ∷ word.UnsetKey ∷ word.GetKey ∷ word.CheckKey ∷ word.SetData ∷ word.UnsetData ∷ word.GetData ∷ word.CheckData ∷ word.Finalise ∷ word.FinaliseLast ∷ word.Poll ∷ word.Minor ∷ word.Major ∷ word.FullMajor ∷ []

-- the words of the grammar of each version. One more here and in the code's own list makes its row a command of the grammar
abbrev pub built_words : Version → List Word
built_words One = first_words
built_words Two = word.Raw ∷ word.Cas ∷ first_words
built_words Three = word.Raw ∷ word.Cas ∷ word.Spawn ∷ word.Argument ∷ word.Result ∷ word.Join ∷ first_words

-- the row that a text is the word of, if it is one of the version
abbrev pub word_of : Version → List ℕ → Option Word
word_of ver text = find (λ w. bytes_eq (form w).text text) (built_words ver)

-- the command of a row and its numbers
abbrev pub made : Word → List ℤ → Command
made w zs = (form w).make (slice_index_or zs 0 (pos 0)) (slice_index_or zs 1 (pos 0)) (slice_index_or zs 2 (pos 0)) (slice_index_or zs 3 (pos 0))

-- a command taken apart: its row and its numbers
pub record Parts : Type 0 where
  pub word : Word
  pub numbers : List ℤ

abbrev pub parts_of : Word → List ℕ → Parts
parts_of w ns = record { word = w; numbers = map pos ns }

-- each command, taken apart
abbrev pub parts : Command → Parts
parts (PutInt dst value) = record { word = word.Int; numbers = pos dst ∷ value ∷ [] }
parts (Copy dst src) = parts_of word.Move (dst ∷ src ∷ [])
parts (Forget dst) = parts_of word.Drop (dst ∷ [])
parts (Alloc dst tag fields) = parts_of word.Alloc (dst ∷ tag ∷ fields ∷ [])
parts (AllocMaj dst tag fields) = parts_of word.AllocMaj (dst ∷ tag ∷ fields ∷ [])
parts (Load dst src index) = parts_of word.Load (dst ∷ src ∷ index ∷ [])
parts (Store block index item) = parts_of word.Store (block ∷ index ∷ item ∷ [])
parts (Raw dst tag fields) = parts_of word.Raw (dst ∷ tag ∷ fields ∷ [])
parts (Cas block index expected item) = parts_of word.Cas (block ∷ index ∷ expected ∷ item ∷ [])
parts (Ephe dst keys) = parts_of word.Ephe (dst ∷ keys ∷ [])
parts (SetKey ephe index item) = parts_of word.SetKey (ephe ∷ index ∷ item ∷ [])
parts (UnsetKey ephe index) = parts_of word.UnsetKey (ephe ∷ index ∷ [])
parts (GetKey dst ephe index) = parts_of word.GetKey (dst ∷ ephe ∷ index ∷ [])
parts (CheckKey ephe index) = parts_of word.CheckKey (ephe ∷ index ∷ [])
parts (SetData ephe item) = parts_of word.SetData (ephe ∷ item ∷ [])
parts (UnsetData ephe) = parts_of word.UnsetData (ephe ∷ [])
parts (GetData dst ephe) = parts_of word.GetData (dst ∷ ephe ∷ [])
parts (CheckData ephe) = parts_of word.CheckData (ephe ∷ [])
parts (Finalise item number dst) = parts_of word.Finalise (item ∷ number ∷ dst ∷ [])
parts (FinaliseLast item number) = parts_of word.FinaliseLast (item ∷ number ∷ [])
parts Poll = parts_of word.Poll []
parts Minor = parts_of word.Minor []
parts Major = parts_of word.Major []
parts FullMajor = parts_of word.FullMajor []
parts (Spawn section item) = parts_of word.Spawn (section ∷ item ∷ [])
parts (Argument dst) = parts_of word.Argument (dst ∷ [])
parts (PutResult item) = parts_of word.Result (item ∷ [])
parts (Join dst section) = parts_of word.Join (dst ∷ section ∷ [])

-- whether a row's command is one of the version
abbrev pub is_built : Version → Word → Bool
is_built ver w = is_some (word_of ver (form w).text)

-- whether each number is in the range of its operand
abbrev pub all_fit : Version → ℕ → List Operand → List ℤ → Bool
all_fit ver domains (kind ∷ kinds) (z ∷ zs) = fits ver domains kind z && all_fit ver domains kinds zs
all_fit ver domains _ _ = true

-- whether a command is one of the grammar: its word is one of the version, and its numbers are in their ranges
abbrev pub is_writable : Version → ℕ → Command → Bool
is_writable ver domains c =
    let p = parts c in
    is_built ver p.word && all_fit ver domains (form p.word).operands p.numbers
