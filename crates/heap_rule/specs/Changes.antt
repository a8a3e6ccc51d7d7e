-- What the changes of a step do to a token's own data.
use Rattle.std.specs.Prelude.{ℕ, ◌<◌, List, [], ◌∷◌, replicate, slice_set, slice_index_or}
use Rattle.heap_words.specs.declared.value.Value.{Value}
use Rattle.heap_words.specs.declared.value.Value.TheVariants.{Nothing}
use Rattle.heap_rule.specs.declared.change.Part.{Part}
use Rattle.heap_rule.specs.declared.change.Part.TheVariants.{Register}
use Rattle.heap_rule.specs.declared.change.Item.{Item}
use Rattle.heap_rule.specs.declared.change.Change.{Change}
use Rattle.heap_rule.specs.declared.change.Change.TheVariants.{Set, Read, Clear}
use Rattle.heap_rule.specs.declared.view.Own.{Own}

-- what a register holds
abbrev pub value_at : List Value → ℕ → Value
value_at registers r = slice_index_or registers r Nothing

-- the token's own data after an item of a list is set
abbrev pub set_item : Part → ℕ → Item → Own → Own
set_item Register place item own = record own { registers = slice_set own.registers place item.value }
set_item _ place item own = own

-- and after a list is emptied
abbrev pub cleared : Part → Own → Own
cleared Register own = record own { registers = replicate 16 Nothing }
cleared _ own = own

-- and after one change at a step that read this value
abbrev pub changed_one : Value → Change → Own → Own
changed_one read (Set part place item) own = set_item part place item own
changed_one read (Read register) own = record own { registers = slice_set own.registers register read }
changed_one read (Clear part) own = cleared part own
changed_one read _ own = own

-- and after the changes, in their order
abbrev pub changed : Value → List Change → Own → Own
changed read [] own = own
changed read (c ∷ cs) own = changed read cs (changed_one read c own)

-- the list has this place. Only the registers are such a list
abbrev pub HasPlace : Part → ℕ → Type 0
HasPlace Register place = place < 16
HasPlace _ place = ⊥

-- what the change names is there
abbrev pub FitChange : Change → Type 0
FitChange (Set part place item) = HasPlace part place
FitChange (Read register) = register < 16
FitChange (Clear part) = HasPlace part 0
FitChange _ = ⊥

-- and so of each change of a step
abbrev pub FitChanges : List Change → Type 0
FitChanges [] = Unit {0}
FitChanges (c ∷ cs) = FitChange c × FitChanges cs
