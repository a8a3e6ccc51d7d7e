-- The changes of a step write the registers and leave the rest of a token's own data.
use Rattle.std.proofs.Common.{◌≡◌, ℕ, List, [], ◌∷◌, refl, ap, ◌∙◌}
use Rattle.heap_words.specs.declared.value.Value.{Value}
use Rattle.heap_rule.specs.declared.change.Change.{Change}
use Rattle.heap_rule.specs.declared.change.Change.TheVariants.{Set, Read, Append, Remove, Clear}
use Rattle.heap_rule.specs.declared.change.Item.{Item}
use Rattle.heap_rule.specs.declared.change.Part.{Part}
use Rattle.heap_rule.specs.declared.change.Part.TheVariants.{Register}
use Rattle.heap_rule.specs.declared.view.Own.{Own}
use Rattle.heap_rule.specs.Changes.{set_item, cleared, changed_one, changed}

-- the registers of a token's own data
abbrev pub registers_of : Own → List Value
registers_of own = own.registers

set_only : (part : Part) (place : ℕ) (item : Item) (own : Own) → set_item part place item own ≡ record own { registers = (set_item part place item own).registers }
set_only Register place item own = refl
set_only _ place item own = refl

cleared_only : (part : Part) (own : Own) → cleared part own ≡ record own { registers = (cleared part own).registers }
cleared_only Register own = refl
cleared_only _ own = refl

one_only : (read : Value) (c : Change) (own : Own) → changed_one read c own ≡ record own { registers = (changed_one read c own).registers }
one_only read (Set part place item) own = set_only part place item own
one_only read (Read register) own = refl
one_only read (Append part item) own = refl
one_only read (Remove part place) own = refl
one_only read (Clear part) own = cleared_only part own

pub changed_only : (read : Value) (changes : List Change) (own : Own) → changed read changes own ≡ record own { registers = (changed read changes own).registers }
changed_only read [] own = refl
changed_only read (c ∷ cs) own =
    let own1 : Own = changed_one read c own in
    changed_only read cs own1 ∙ ap (λ (o : Own). record o { registers = (changed read cs own1).registers }) (one_only read c own)
