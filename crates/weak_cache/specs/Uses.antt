-- What a cache has, as plain data: slots in the order of use, the last used first. A slot has a key and its value, or nothing.
use Rattle.std.specs.Prelude.{◌≡◌, ◌⊎◌, ℕ, suc, Bool, true, false, cond, List, [], ◌∷◌, ◌++◌, Option, Some, None}
use Rattle.model_core.specs.declared.label.Label.{Label}
use Rattle.model_core.specs.declared.graph.Value.{Value}
use Rattle.model_core.specs.Graph.{same_label}
use Rattle.weak_laws.specs.Tables.Structures.{Binding}

-- whether a slot is of a key
abbrev pub is_of : Label → Option Binding → Bool
is_of k None = false
is_of k (Some b) = same_label b.0 k

abbrev pub datum_of : Option Binding → Option Value
datum_of None = None
datum_of (Some b) = Some b.1

-- the value of a key: that of its first slot
abbrev pub cached_in : Label → List (Option Binding) → Option Value
cached_in k [] = None
cached_in k (s ∷ ss) = cond (is_of k s) (datum_of s) (cached_in k ss)

-- a slot comes first, those before the key's go one back, and the key's own goes, or the last
abbrev pub pushed : Label → Option Binding → List (Option Binding) → List (Option Binding)
pushed k s [] = []
pushed k s (t ∷ ts) = s ∷ cond (is_of k t) ts (pushed k t ts)

-- what was put for a key comes first
abbrev pub put_first : Label → Value → List (Option Binding) → List (Option Binding)
put_first k v ss = pushed k (Some (k, v)) ss

-- what was found does
abbrev pub touched : Label → Option Value → List (Option Binding) → List (Option Binding)
touched k None ss = ss
touched k (Some v) ss = put_first k v ss

-- a key's slot is taken out: those behind it go one forward, and the last has nothing
abbrev pub taken : Label → List (Option Binding) → List (Option Binding)
taken k [] = []
taken k (s ∷ ss) = cond (is_of k s) (ss ++ None ∷ []) (s ∷ taken k ss)

-- each key has one slot at most
abbrev pub AreOnce : List (Option Binding) → Type 0
AreOnce [] = Unit {0}
AreOnce (s ∷ ss) = ((k : Label) → is_of k s ≡ true → cached_in k ss ≡ None) × AreOnce ss

-- how many slots stand before the first of a key
abbrev pub age : Label → List (Option Binding) → ℕ
age k [] = 0
age k (s ∷ ss) = cond (is_of k s) 0 (suc (age k ss))

-- a slot is as it was, or has lost a key of which P holds, and its value
abbrev pub SlotLeft : (Label → Type 0) → Option Binding → Option Binding → Type 0
SlotLeft P was now = (now ≡ was) ⊎ ((k : Label) × (v : Value) × (was ≡ Some (k, v)) × P k × (now ≡ None))

-- so are all slots
abbrev pub SlotsLeft : (Label → Type 0) → List (Option Binding) → List (Option Binding) → Type 0
SlotsLeft P [] [] = Unit {0}
SlotsLeft P (s ∷ ss) (t ∷ ts) = SlotLeft P s t × SlotsLeft P ss ts
SlotsLeft P ss ts = ⊥
